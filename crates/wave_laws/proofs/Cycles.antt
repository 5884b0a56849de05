-- The lines that a reader holds, and what it samples of them.
use Rattle.std.proofs.Common.{◌≡◌, ℕ, zero, suc, ◌+◌, ◌/◌, ◌<◌, ◌≤◌, ◌==◌, Bool, true, false, cond, not, List, [], ◌∷◌, ◌++◌, drop, length, Option, Some, None, refl, sym, subst, ap, ◌∙◌, arith, append_assoc}
use Rattle.std.proofs.lemmas.Bool.{eqb-true, eqb-false, agree_below_at}
use Rattle.nand_geometry.specs.declared.parts.Parts.{Parts}
use Rattle.onfi_cycle.specs.declared.item.Cycle.{Cycle}
use Rattle.onfi_cycle.specs.declared.item.Kind.{Kind}
use Rattle.onfi_cycle.specs.declared.item.Kind.TheVariants.{Cmd, Adr, Din, Dout}
use Rattle.onfi_cycle.specs.declared.item.Item.{Item}
use Rattle.onfi_cycle.specs.declared.item.Item.TheVariants.{Cyc, Rdy, Ard}
use Rattle.bus_lines.specs.declared.lines.Lines.{Lines}
use Rattle.bus_lines.specs.Lines.{set_up, struck, released}
use Rattle.bus_lines.specs.Sampling.{sampled}
use Rattle.trace_wave.specs.Levels.{bit, enables, is_odd, bit_of, dq_bits, model_levels, levels}
use Rattle.trace_wave.specs.Wave.{Drawing, begun, after, after_all, levels_at}
use Rattle.trace_wave.proofs.Lists.{length_enables}
use Rattle.wave_laws.specs.Heard.{all_heard, told_by, drawn_by}
use Rattle.wave_laws.specs.Cycles.{enabled_in, weighed, byte_in, bus_in, lines_in, CyclesAreSampled}
use Rattle.wave_laws.proofs.Followed.{are_heard, drawn_on}

-- ---- 1. the chip enables

enabled_found : (count n ce : ℕ) (rest : List ℕ) → n ≤ ce → ce < n + count → enabled_in (enables (Some ce) count n ++ rest) count n ≡ Some ce
enabled_found zero n ce rest h k = absurd (omega (arith, h, k))
enabled_found (suc count) n ce rest h k = at (ce == n) refl (enabled_found count (n + 1) ce rest)
  where
    at : (x : Bool) → ce == n ≡ x → (n + 1 ≤ ce → ce < n + 1 + count → enabled_in (enables (Some ce) count (n + 1) ++ rest) count (n + 1) ≡ Some ce) →
        enabled_in (enables (Some ce) (suc count) n ++ rest) (suc count) n ≡ Some ce
    at true e go =
        ap (λ (x : Bool). cond (bit (not x) == 48) (Some n) (enabled_in (enables (Some ce) count (n + 1) ++ rest) count (n + 1))) e
        ∙ ap Some (sym (eqb-true ce n e))
    at false e go =
        let ne = eqb-false ce n e in
        ap (λ (x : Bool). cond (bit (not x) == 48) (Some n) (enabled_in (enables (Some ce) count (n + 1) ++ rest) count (n + 1))) e
        ∙ go (omega (arith, h, ne)) (omega (arith, k))

drop_front : (front rest : List ℕ) (n : ℕ) → length front ≡ n → drop n (front ++ rest) ≡ rest
drop_front front rest n e = subst (λ (k : ℕ). drop k (front ++ rest) ≡ rest) e (by front)
  where
    by : (xs : List ℕ) → drop (length xs) (xs ++ rest) ≡ rest
    by [] = refl
    by (x ∷ xs) = by xs

-- ---- 2. the other lines

high_is : (high : Bool) → (bit high == 49) ≡ high
high_is true = refl
high_is false = refl

is_driven : (high : Bool) → (bit high == 122) ≡ false
is_driven true = refl
is_driven false = refl

abbrev total : ℕ → ℕ
total b = weighed (bit_of b 128) 128 + weighed (bit_of b 64) 64 + weighed (bit_of b 32) 32 + weighed (bit_of b 16) 16 + weighed (bit_of b 8) 8 + weighed (bit_of b 4) 4 + weighed (bit_of b 2) 2 + weighed (bit_of b 1) 1

total_is : (b : ℕ) → b < 256 → total b ≡ b
total_is b h = eqb-true (total b) b (agree_below_at (λ b. total b == b) (λ b. true) 256 b refl h)

byte_is : (byte : ℕ) → byte < 256 → byte_in (bit_of byte 128) (bit_of byte 64) (bit_of byte 32) (bit_of byte 16) (bit_of byte 8) (bit_of byte 4) (bit_of byte 2) (bit_of byte 1) ≡ Some byte
byte_is byte h = ap (λ (x : Bool). cond x None (Some (total byte))) (is_driven (is_odd (byte / 128))) ∙ ap Some (total_is byte h)

bus_is : (enabled : Option ℕ) (cle ale we re : Bool) (byte : ℕ) (rest : List ℕ) → byte < 256 →
    bus_in enabled (bit cle ∷ (bit ale ∷ (bit we ∷ (bit re ∷ (dq_bits (Some byte) ++ rest))))) ≡ record { enabled = enabled; cle = cle; ale = ale; we = we; re = re; dq = Some byte }
bus_is enabled cle ale we re byte rest h =
    let dq = byte_in (bit_of byte 128) (bit_of byte 64) (bit_of byte 32) (bit_of byte 16) (bit_of byte 8) (bit_of byte 4) (bit_of byte 2) (bit_of byte 1) in
    ap (λ (x : Bool). record { enabled = enabled; cle = x; ale = bit ale == 49; we = bit we == 49; re = bit re == 49; dq = dq }) (high_is cle)
    ∙ ap (λ (x : Bool). record { enabled = enabled; cle = cle; ale = x; we = bit we == 49; re = bit re == 49; dq = dq }) (high_is ale)
    ∙ ap (λ (x : Bool). record { enabled = enabled; cle = cle; ale = ale; we = x; re = bit re == 49; dq = dq }) (high_is we)
    ∙ ap (λ (x : Bool). record { enabled = enabled; cle = cle; ale = ale; we = we; re = x; dq = dq }) (high_is re)
    ∙ ap (λ (x : Option ℕ). record { enabled = enabled; cle = cle; ale = ale; we = we; re = re; dq = x }) (byte_is byte h)

-- lines that are driven, of a chip that is there
lines_are : (g : Parts) (targets : ℕ) (past : List Item) (rule ce byte : ℕ) (cle ale we re : Bool) → ce < targets → byte < 256 →
    lines_in targets (levels g targets past rule (record { enabled = Some ce; cle = cle; ale = ale; we = we; re = re; dq = Some byte })) ≡ record { enabled = Some ce; cle = cle; ale = ale; we = we; re = re; dq = Some byte }
lines_are g targets past rule ce byte cle ale we re h k =
    let front = enables (Some ce) targets 0 in
    let bus = bit cle ∷ (bit ale ∷ (bit we ∷ (bit re ∷ dq_bits (Some byte)))) in
    let model = model_levels g targets past rule in
    ap (lines_in targets) (append_assoc front bus model)
    ∙ ap (λ (e : Option ℕ). bus_in e (drop targets (front ++ (bus ++ model)))) (enabled_found targets 0 ce (bus ++ model) (omega arith) (omega (arith, h)))
    ∙ ap (bus_in (Some ce)) (drop_front front (bus ++ model) targets (length_enables (Some ce) targets 0))
    ∙ bus_is (Some ce) cle ale we re byte model k

-- ---- 3. a strobe rises

record AreHigh (l : Lines) : Type 0 where
  we_high : l.we ≡ true
  re_high : l.re ≡ true

rests : (g : Parts) (targets : ℕ) (items : List Item) (d : Drawing) → AreHigh d.lines → AreHigh (after_all g targets d items).lines
rests g targets [] d h = h
rests g targets (Cyc c ∷ items) d h = rests g targets items (after g targets d (Cyc c)) (record { we_high = refl; re_high = refl })
rests g targets (Rdy ce lun fail ∷ items) d h = rests g targets items (after g targets d (Rdy ce lun fail)) (record { we_high = h.we_high; re_high = h.re_high })
rests g targets (Ard ce lun fail ∷ items) d h = rests g targets items (after g targets d (Ard ce lun fail)) (record { we_high = h.we_high; re_high = h.re_high })

abbrev resting : Lines → Lines
resting l = record { enabled = l.enabled; cle = l.cle; ale = l.ale; we = true; re = true; dq = l.dq }

at_rest_is : (l : Lines) → AreHigh l → l ≡ resting l
at_rest_is l h =
    ap (λ (x : Bool). record { enabled = l.enabled; cle = l.cle; ale = l.ale; we = x; re = l.re; dq = l.dq }) h.we_high
    ∙ ap (λ (x : Bool). record { enabled = l.enabled; cle = l.cle; ale = l.ale; we = true; re = x; dq = l.dq }) h.re_high

module _ (g : Parts) (targets ce byte : ℕ) (h : ce < targets) (k : byte < 256) (past later : List Item) (rule rule' : ℕ) where
  -- as the reader samples it
  abbrev read_of : Lines → Lines → Option Cycle
  read_of l m = sampled (lines_in targets (levels g targets past rule l)) (lines_in targets (levels g targets later rule' m))

  read_is : (cle ale we re cle' ale' we' re' : Bool) →
      read_of (record { enabled = Some ce; cle = cle; ale = ale; we = we; re = re; dq = Some byte }) (record { enabled = Some ce; cle = cle'; ale = ale'; we = we'; re = re'; dq = Some byte })
      ≡ sampled (record { enabled = Some ce; cle = cle; ale = ale; we = we; re = re; dq = Some byte }) (record { enabled = Some ce; cle = cle'; ale = ale'; we = we'; re = re'; dq = Some byte })
  read_is cle ale we re cle' ale' we' re' =
      ap (λ (x : Lines). sampled x (lines_in targets (levels g targets later rule' (record { enabled = Some ce; cle = cle'; ale = ale'; we = we'; re = re'; dq = Some byte })))) (lines_are g targets past rule ce byte cle ale we re h k)
      ∙ ap (sampled (record { enabled = Some ce; cle = cle; ale = ale; we = we; re = re; dq = Some byte })) (lines_are g targets later rule' ce byte cle' ale' we' re' h k)

  abbrev cycle : Kind → Cycle
  cycle kind = record { ce = ce; kind = kind; byte = byte }

  cycle_read : (l : Lines) (kind : Kind) → AreHigh l → (c : Cycle) → c ≡ cycle kind → read_of (struck (set_up l c) c) (released (struck (set_up l c) c)) ≡ Some c
  cycle_read l kind high c is =
      subst (λ (c : Cycle). read_of (struck (set_up l c) c) (released (struck (set_up l c) c)) ≡ Some c) (sym is)
      (subst (λ (l : Lines). read_of (struck (set_up l (cycle kind)) (cycle kind)) (released (struck (set_up l (cycle kind)) (cycle kind))) ≡ Some (cycle kind)) (sym (at_rest_is l high)) (by kind))
    where
      by : (kind : Kind) → read_of (struck (set_up (resting l) (cycle kind)) (cycle kind)) (released (struck (set_up (resting l) (cycle kind)) (cycle kind))) ≡ Some (cycle kind)
      by Cmd = read_is true false false true true false true true
      by Adr = read_is false true false true false true true true
      by Din = read_is false false false true false false true true
      by Dout = read_is false false true false false false true true

pub cycles_are_sampled : CyclesAreSampled
cycles_are_sampled g targets items c first whole h k =
    let d = drawn_by g targets items in
    let later = after g targets d (Cyc c) in
    let before = are_heard g targets items first whole in
    let then' = are_heard g targets (items ++ (Cyc c ∷ [])) first whole in
    ap (λ (held : List ℕ). sampled (lines_in targets held) (lines_in targets (all_heard first (told_by g targets (items ++ (Cyc c ∷ [])))))) (before.struck (Cyc c))
    ∙ ap (λ (held : List ℕ). sampled (lines_in targets (levels_at g targets d (struck (set_up d.lines c) c))) (lines_in targets held)) (then'.drawn ∙ ap (λ (e : Drawing). levels_at g targets e e.lines) (drawn_on g targets items (Cyc c ∷ []) begun))
    ∙ cycle_read g targets c.ce c.byte h k d.past later.past d.rule later.rule d.lines c.kind (rests g targets items begun (record { we_high = refl; re_high = refl })) c refl
