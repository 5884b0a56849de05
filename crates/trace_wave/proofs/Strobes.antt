-- What changes on the lines of the bus where a cycle is set up, and where its strobe falls and rises.
use Rattle.std.proofs.Common.{◌≡◌, ℕ, zero, suc, ◌+◌, ◌%◌, ◌^◌, ◌<◌, ◌==◌, List, [], ◌∷◌, ◌++◌, Bool, true, false, cond, Some, None, refl, sym, ap, ◌∙◌, append-nil, arith, bit_xor}
use Rattle.std.proofs.lemmas.Nat.Bits.{bit_at_xor, bit_at-lt}
use Rattle.std.specs.Int.{bit_at}
use Rattle.onfi_cycle.specs.declared.item.Cycle.{Cycle}
use Rattle.onfi_cycle.proofs.Booleans.{eqb_self}
use Rattle.bus_lines.specs.declared.lines.Lines.{Lines}
use Rattle.bus_lines.specs.Lines.{is_cmd, is_adr, is_output, set_up, struck, released, at_rest}
use Rattle.trace_wave.specs.Levels.{bit, bit_of, dq_bits, enables, bus_levels}
use Rattle.trace_wave.specs.Changes.{change, changes, time_line, at_time}
use Rattle.trace_wave.specs.Keeping.{AreHigh}
use Rattle.trace_wave.specs.Wave.{strobe_code}
use Rattle.trace_wave.proofs.Lists.{behind, bus_drawn, bus_parts, changes_same}

-- nothing is added where a level stays
none_added : (old : List ℕ) (code level : ℕ) → old ≡ old ++ change code level level
none_added old code level = sym (ap (λ (b : Bool). old ++ cond b [] (level ∷ code ∷ 10 ∷ [])) (eqb_self level) ∙ append-nil old)

-- the lines of a cycle that is set up
pub set_up_drawn : (old a1 a2 a3 new : List ℕ) (targets : ℕ) (l : Lines) (c : Cycle)
    → a1 ≡ old ++ changes 33 (enables l.enabled targets 0) (enables (Some c.ce) targets 0)
    → a2 ≡ a1 ++ change (33 + targets) (bit l.cle) (bit (is_cmd c.kind))
    → a3 ≡ a2 ++ change (34 + targets) (bit l.ale) (bit (is_adr c.kind))
    → new ≡ a3 ++ changes (37 + targets) (dq_bits l.dq) (dq_bits (set_up l c).dq)
    → new ≡ old ++ changes 33 (bus_levels targets l) (bus_levels targets (set_up l c))
set_up_drawn old a1 a2 a3 new targets l c f1 f2 f3 f6 =
    bus_drawn old a1 a2 a3 a3 a3 new targets l (set_up l c) f1 f2 f3 (none_added a3 (35 + targets) (bit l.we)) (none_added a3 (36 + targets) (bit l.re)) f6

same_change : (code level : ℕ) → change code level level ≡ []
same_change code level = ap (λ (b : Bool). cond b [] (level ∷ code ∷ 10 ∷ [])) (eqb_self level)

-- the lines where the strobe of what the host drives falls
fallen_input : (targets : ℕ) (l : Lines) → l.we ≡ true → changes 33 (bus_levels targets l) (bus_levels targets (record l { we = false })) ≡ 48 ∷ (35 + targets) ∷ 10 ∷ []
fallen_input targets l high =
    bus_parts targets l (record l { we = false })
    ∙ rw (changes_same 33 (enables l.enabled targets 0), same_change (33 + targets) (bit l.cle), same_change (34 + targets) (bit l.ale), same_change (36 + targets) (bit l.re), changes_same (37 + targets) (dq_bits l.dq), high) refl

-- and of what the die drives
fallen_output : (targets byte : ℕ) (l : Lines) → l.re ≡ true
    → changes 33 (bus_levels targets l) (bus_levels targets (record l { re = false; dq = Some byte })) ≡ (48 ∷ (36 + targets) ∷ 10 ∷ []) ++ changes (37 + targets) (dq_bits l.dq) (dq_bits (Some byte))
fallen_output targets byte l high =
    bus_parts targets l (record l { re = false; dq = Some byte })
    ∙ rw (changes_same 33 (enables l.enabled targets 0), same_change (33 + targets) (bit l.cle), same_change (34 + targets) (bit l.ale), same_change (35 + targets) (bit l.we), high) refl

-- the frame in which the strobe of what the host drives falls
pub input_struck : (old mid new : List ℕ) (targets time : ℕ) (l : Lines) (c : Cycle) → is_output c ≡ false → AreHigh l
    → mid ≡ old ++ time_line time → new ≡ mid ++ 48 ∷ strobe_code targets c ∷ 10 ∷ []
    → new ≡ old ++ at_time time (changes 33 (bus_levels targets l) (bus_levels targets (struck l c)))
input_struck old mid new targets time l c host high timed drawn =
    behind old mid new (time_line time) (48 ∷ strobe_code targets c ∷ 10 ∷ []) timed drawn
    ∙ ap (λ (b : Bool). old ++ at_time time (48 ∷ cond b (36 + targets) (35 + targets) ∷ 10 ∷ [])) host
    ∙ ap (λ xs. old ++ at_time time xs) (sym (fallen_input targets l high.0))
    ∙ ap (λ (b : Bool). old ++ at_time time (changes 33 (bus_levels targets l) (bus_levels targets (cond b (record l { re = false; dq = Some c.byte }) (record l { we = false }))))) (sym host)

-- and of what the die drives
pub output_struck : (old mid low new : List ℕ) (targets time : ℕ) (l : Lines) (c : Cycle) → is_output c ≡ true → AreHigh l
    → mid ≡ old ++ time_line time → low ≡ mid ++ 48 ∷ strobe_code targets c ∷ 10 ∷ [] → new ≡ low ++ changes (37 + targets) (dq_bits l.dq) (dq_bits (Some c.byte))
    → new ≡ old ++ at_time time (changes 33 (bus_levels targets l) (bus_levels targets (struck l c)))
output_struck old mid low new targets time l c die high timed drawn bits =
    behind old mid new (time_line time) ((48 ∷ strobe_code targets c ∷ 10 ∷ []) ++ changes (37 + targets) (dq_bits l.dq) (dq_bits (Some c.byte))) timed
    (behind mid low new (48 ∷ strobe_code targets c ∷ 10 ∷ []) (changes (37 + targets) (dq_bits l.dq) (dq_bits (Some c.byte))) drawn bits)
    ∙ ap (λ (b : Bool). old ++ at_time time ((48 ∷ cond b (36 + targets) (35 + targets) ∷ 10 ∷ []) ++ changes (37 + targets) (dq_bits l.dq) (dq_bits (Some c.byte)))) die
    ∙ ap (λ xs. old ++ at_time time xs) (sym (fallen_output targets c.byte l high.1))
    ∙ ap (λ (b : Bool). old ++ at_time time (changes 33 (bus_levels targets l) (bus_levels targets (cond b (record l { re = false; dq = Some c.byte }) (record l { we = false }))))) (sym die)

-- the lines where a strobe rises
pub risen : (targets : ℕ) (l : Lines) (c : Cycle) → AreHigh l
    → changes 33 (bus_levels targets (struck l c)) (bus_levels targets (released (struck l c))) ≡ 49 ∷ strobe_code targets c ∷ 10 ∷ []
risen targets l c high = at (is_output c) c.byte
  where
    at : (b : Bool) (byte : ℕ)
        → changes 33 (bus_levels targets (cond b (record l { re = false; dq = Some byte }) (record l { we = false })))
        (bus_levels targets (released (cond b (record l { re = false; dq = Some byte }) (record l { we = false }))))
        ≡ 49 ∷ cond b (36 + targets) (35 + targets) ∷ 10 ∷ []
    at true byte =
        bus_parts targets (record l { re = false; dq = Some byte }) (released (record l { re = false; dq = Some byte }))
        ∙ rw (changes_same 33 (enables l.enabled targets 0), same_change (33 + targets) (bit l.cle), same_change (34 + targets) (bit l.ale), changes_same (37 + targets) (dq_bits (Some byte)), high.0) refl
    at false byte =
        bus_parts targets (record l { we = false }) (released (record l { we = false }))
        ∙ rw (changes_same 33 (enables l.enabled targets 0), same_change (33 + targets) (bit l.cle), same_change (34 + targets) (bit l.ale), changes_same (37 + targets) (dq_bits l.dq), high.1) refl

-- bits that are the same
pub bit_stays : (a b i : ℕ) → bit_at (bit_xor a b) i ≡ 0 → bit_at a i ≡ bit_at b i
bit_stays a b i e = at (bit_at a i) (bit_at b i) (bit_at-lt a i) (bit_at-lt b i) (sym (bit_at_xor a b i) ∙ e)
  where
    at : (x y : ℕ) → x < 2 → y < 2 → (x + y) % 2 ≡ 0 → x ≡ y
    at x y h k m = omega (arith, h, k, m)

pub no_change : (old : List ℕ) (code a b i : ℕ) → bit_at (bit_xor a b) i ≡ 0 → old ≡ old ++ change code (bit_of a (2 ^ i)) (bit_of b (2 ^ i))
no_change old code a b i e =
    none_added old code (bit_of a (2 ^ i)) ∙ ap (λ (x : ℕ). old ++ change code (bit_of a (2 ^ i)) (bit (x == 1))) (bit_stays a b i e)

-- bits that aren't
pub bit_changes : (code a b i : ℕ) → (bit_at (bit_xor a b) i ≡ 0 → ⊥) → change code (bit_of a (2 ^ i)) (bit_of b (2 ^ i)) ≡ (48 + bit_at b i) ∷ code ∷ 10 ∷ []
bit_changes code a b i other = at (bit_at a i) (bit_at b i) (bit_at-lt a i) (bit_at-lt b i) (λ e. other (bit_at_xor a b i ∙ e))
  where
    at : (x y : ℕ) → x < 2 → y < 2 → ((x + y) % 2 ≡ 0 → ⊥) → change code (bit (x == 1)) (bit (y == 1)) ≡ (48 + y) ∷ code ∷ 10 ∷ []
    at zero zero h k m = absurd (m refl)
    at zero (suc zero) h k m = refl
    at (suc zero) zero h k m = refl
    at (suc zero) (suc zero) h k m = absurd (m refl)
    at (suc (suc x)) y h k m = absurd (too_much x h)
      where
        too_much : (x : ℕ) → suc (suc x) < 2 → ⊥
        too_much x h = omega (arith, h)
    at x (suc (suc y)) h k m = absurd (too_much y k)
      where
        too_much : (x : ℕ) → suc (suc x) < 2 → ⊥
        too_much x h = omega (arith, h)

-- the lines where no chip is enabled any more
pub rest_drawn : (old new : List ℕ) (targets : ℕ) (l : Lines) → new ≡ old ++ changes 33 (enables l.enabled targets 0) (enables None targets 0)
    → new ≡ old ++ changes 33 (bus_levels targets l) (bus_levels targets (at_rest l))
rest_drawn old new targets l drawn =
    bus_drawn old new new new new new new targets l (at_rest l) drawn
    (none_added new (33 + targets) (bit l.cle)) (none_added new (34 + targets) (bit l.ale)) (none_added new (35 + targets) (bit l.we)) (none_added new (36 + targets) (bit l.re))
    (sym (ap (λ xs. new ++ xs) (changes_same (37 + targets) (dq_bits l.dq)) ∙ append-nil new))
