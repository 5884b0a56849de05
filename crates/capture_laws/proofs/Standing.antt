-- The levels of a capture that shows what is drawn, line by line.
use Rattle.std.proofs.Common.{◌≡◌, ℕ, zero, suc, ◌+◌, ◌-◌, ◌*◌, ◌/◌, ◌%◌, ◌<◌, ◌≤◌, ◌==◌, Bool, true, false, cond, not, List, ◌∷◌, ◌++◌, length, get_or, Option, Some, Ok, Result, refl, ap, ◌∙◌, arith, append_assoc}
use Rattle.std.specs.Prelude.{nat_lt}
use Rattle.std.proofs.lemmas.Bool.{eqb-true, agree_below_at, leb-true}
use Rattle.std.proofs.lemmas.List.{get_or-append-add}
use Rattle.std.proofs.Math.Nat.{suc-mul}
use Rattle.nand_geometry.specs.declared.parts.Parts.{Parts}
use Rattle.onfi_cycle.specs.declared.item.Item.{Item}
use Rattle.bus_lines.specs.declared.lines.Lines.{Lines}
use Rattle.trace_wave.specs.Levels.{bit, shown, is_at, is_odd, dq_bits, enables, is_busy, has_busy_array, tells_failure, readies, target_levels, targets_levels, bus_levels, rule_bits, model_levels, levels}
use Rattle.trace_wave.proofs.Lists.{length_bus, length_enables}
use Rattle.vcd_text.specs.declared.tokens.Level.{Level}
use Rattle.vcd_text.specs.declared.tokens.Level.TheVariants.{Low, High, Unknown}
use Rattle.vcd_text.specs.Tokens.{◌>>=◌}
use Rattle.bus_signals.specs.declared.role.Role.{Role}
use Rattle.bus_signals.specs.declared.role.Role.TheVariants.{Enable, Cle, Ale, We, Re, Dq, Busy, ArrayBusy, Failed}
use Rattle.bus_signals.specs.Roles.{place_of}
use Rattle.bus_capture.specs.declared.fault.BusFault.{BusFault}
use Rattle.bus_capture.specs.Sampling.{level, shown_bit, weighed, byte_of}
use Rattle.wave_laws.specs.Lines.{lines_of}
use Rattle.wave_laws.specs.Readies.{held_of, busy_code}
use Rattle.wave_laws.proofs.Levels.{length_readies, length_target}
use Rattle.capture_laws.proofs.Placed.{Shows, code_at, held_level, level_shown}
use Rattle.capture_laws.proofs.Tables.{Fits}

-- ---- 1. what is held of a LUN

-- what is told of a LUN: whether it is busy, its array is, or it has failed
abbrev pub told : (known : Bool) → Parts → List Item → (part ce lun : ℕ) → ℕ
told known g past zero ce lun = shown known (is_busy g past ce lun)
told known g past (suc zero) ce lun = shown known (has_busy_array g past ce lun)
told known g past (suc (suc part)) ce lun = shown known (tells_failure past ce lun)

first_at : (known : Bool) (g : Parts) (past : List Item) (ce count n : ℕ) (rest : List ℕ) (part : ℕ) → part < 3 → get_or (target_levels known g past ce (suc count) n ++ rest) part 0 ≡ told known g past part ce n
first_at known g past ce count n rest zero h = refl
first_at known g past ce count n rest (suc zero) h = refl
first_at known g past ce count n rest (suc (suc zero)) h = refl
first_at known g past ce count n rest (suc (suc (suc part))) h = absurd (omega (arith, h))

target_at : (known : Bool) (g : Parts) (past : List Item) (ce count n lun : ℕ) (rest : List ℕ) (part : ℕ) → part < 3 → lun < count → get_or (target_levels known g past ce count n ++ rest) (3 * lun + part) 0 ≡ told known g past part ce (n + lun)
target_at known g past ce zero n lun rest part few h = absurd (omega (arith, h))
target_at known g past ce (suc count) n zero rest part few h =
    let same : n ≡ n + 0 = omega arith in
    let place : 3 * 0 + part ≡ part = omega arith in
    ap (λ (m : ℕ). get_or (target_levels known g past ce (suc count) n ++ rest) m 0) place
    ∙ first_at known g past ce count n rest part few
    ∙ ap (λ (m : ℕ). told known g past part ce m) same
target_at known g past ce (suc count) n (suc lun) rest part few h =
    let place : 3 * suc lun + part ≡ suc (suc (suc (3 * lun + part))) = omega arith in
    let next : n + 1 + lun ≡ n + suc lun = omega arith in
    ap (λ (m : ℕ). get_or (target_levels known g past ce (suc count) n ++ rest) m 0) place
    ∙ target_at known g past ce count (n + 1) lun rest part few (omega (arith, h))
    ∙ ap (λ (m : ℕ). told known g past part ce m) next

channel_at : (known : Bool) (g : Parts) (past : List Item) (part lun : ℕ) → part < 3 → lun < g.luns → (count n ce : ℕ) (rest : List ℕ) → ce < count →
    get_or (targets_levels known g past count n ++ rest) (3 * (ce * g.luns + lun) + part) 0 ≡ told known g past part (n + ce) lun
channel_at known g past part lun few h zero n ce rest small = absurd (omega (arith, small))
channel_at known g past part lun few h (suc count) n zero rest small =
    let here = target_levels known g past n g.luns 0 in
    let later = targets_levels known g past count (n + 1) in
    let place : 3 * (0 * g.luns + lun) + part ≡ 3 * lun + part = omega arith in
    let which : n ≡ n + 0 = omega arith in
    let mine : 0 + lun ≡ lun = omega arith in
    ap (λ (xs : List ℕ). get_or xs (3 * (0 * g.luns + lun) + part) 0) (append_assoc here later rest)
    ∙ ap (λ (m : ℕ). get_or (here ++ (later ++ rest)) m 0) place
    ∙ target_at known g past n g.luns 0 lun (later ++ rest) part few h
    ∙ ap (λ (m : ℕ). told known g past part n m) mine
    ∙ ap (λ (m : ℕ). told known g past part m lun) which
channel_at known g past part lun few h (suc count) n (suc ce) rest small =
    let here = target_levels known g past n g.luns 0 in
    let later = targets_levels known g past count (n + 1) in
    let long = length_target known g past n g.luns 0 in
    let more = suc-mul ce g.luns in
    let place : 3 * (suc ce * g.luns + lun) + part ≡ length here + (3 * (ce * g.luns + lun) + part) = omega (arith, long, more) in
    let next : n + 1 + ce ≡ n + suc ce = omega arith in
    ap (λ (xs : List ℕ). get_or xs (3 * (suc ce * g.luns + lun) + part) 0) (append_assoc here later rest)
    ∙ ap (λ (m : ℕ). get_or (here ++ (later ++ rest)) m 0) place
    ∙ get_or-append-add here (later ++ rest) (3 * (ce * g.luns + lun) + part) 0
    ∙ channel_at known g past part lun few h count (n + 1) ce rest (omega (arith, small))
    ∙ ap (λ (m : ℕ). told known g past part m lun) next

pub told_at : (g : Parts) (targets : ℕ) (past : List Item) (rule : ℕ) (l : Lines) (part ce lun code : ℕ) → part < 3 → ce < targets → lun < g.luns → code ≡ busy_code g.luns targets ce lun + part →
    held_of code (levels g targets past rule l) ≡ told (rule == 0) g past part ce lun
told_at g targets past rule l part ce lun code few h k is =
    let j = 3 * (ce * g.luns + lun) + part in
    let bus = bus_levels targets l in
    let ready = readies (rule == 0) g past targets 0 in
    let all = targets_levels (rule == 0) g past targets 0 in
    let bus_long = length_bus targets l in
    let ready_long = length_readies (rule == 0) g past targets 0 in
    let place : code - 33 ≡ length bus + (length ready + j) = omega (arith, bus_long, ready_long, is) in
    let mine : 0 + ce ≡ ce = omega arith in
    ap (λ (m : ℕ). get_or (bus ++ (ready ++ (all ++ rule_bits rule))) m 0) place
    ∙ get_or-append-add bus (ready ++ (all ++ rule_bits rule)) (length ready + j) 0
    ∙ get_or-append-add ready (all ++ rule_bits rule) j 0
    ∙ channel_at (rule == 0) g past part lun few k targets 0 ce (rule_bits rule) h
    ∙ ap (λ (m : ℕ). told (rule == 0) g past part m lun) mine

-- ---- 2. what is held of the bus

enable_at : (e : Option ℕ) (count from n : ℕ) (rest : List ℕ) → n < count → get_or (enables e count from ++ rest) n 0 ≡ bit (not (is_at e (from + n)))
enable_at e zero from n rest few = absurd (omega (arith, few))
enable_at e (suc count) from zero rest few = let here : from ≡ from + 0 = omega arith in ap (λ (m : ℕ). bit (not (is_at e m))) here
enable_at e (suc count) from (suc n) rest few =
    let next : from + 1 + n ≡ from + suc n = omega arith in
    enable_at e count (from + 1) n rest (omega (arith, few)) ∙ ap (λ (m : ℕ). bit (not (is_at e m))) next

abbrev pub after_enables : Parts → ℕ → List Item → ℕ → Lines → Option ℕ → List ℕ
after_enables g targets past rule l dq = bit l.cle ∷ (bit l.ale ∷ (bit l.we ∷ (bit l.re ∷ (dq_bits dq ++ model_levels g targets past rule))))

pub bus_at : (g : Parts) (targets : ℕ) (past : List Item) (rule : ℕ) (l : Lines) (code k : ℕ) → code ≡ 33 + targets + k →
    held_of code (levels g targets past rule l) ≡ get_or (after_enables g targets past rule l l.dq) k 0
bus_at g targets past rule l code k is =
    let front = enables l.enabled targets 0 in
    let long = length_enables l.enabled targets 0 in
    let place : code - 33 ≡ length front + k = omega (arith, is, long) in
    ap (λ (xs : List ℕ). get_or xs (code - 33) 0) (append_assoc front (bit l.cle ∷ (bit l.ale ∷ (bit l.we ∷ (bit l.re ∷ dq_bits l.dq)))) (model_levels g targets past rule))
    ∙ ap (λ (m : ℕ). get_or (front ++ after_enables g targets past rule l l.dq) m 0) place
    ∙ get_or-append-add front (after_enables g targets past rule l l.dq) k 0

-- ---- 3. as levels

abbrev pub lv : Bool → Level
lv true = High
lv false = Low

bit_shown : (b : Bool) → shown_bit (bit b) ≡ lv b
bit_shown true = refl
bit_shown false = refl

weighed_lv : (b : Bool) (weight : ℕ) → weighed (lv b) weight ≡ Ok (cond b weight 0)
weighed_lv true weight = refl
weighed_lv false weight = refl

abbrev worth : ℕ → ℕ → ℕ
worth b weight = cond (is_odd (b / weight)) weight 0

abbrev total : ℕ → ℕ
total b = worth b 128 + worth b 64 + worth b 32 + worth b 16 + worth b 8 + worth b 4 + worth b 2 + worth b 1

total_is : (b : ℕ) → b < 256 → total b ≡ b
total_is b h = eqb-true (total b) b (agree_below_at (λ b. total b == b) (λ b. true) 256 b refl h)

abbrev summed : (a b c d e f g h : Result ℕ BusFault) → Result ℕ BusFault
summed a b c d e f g h = do
  seven ← a
  six ← b
  five ← c
  four ← d
  three ← e
  two ← f
  one ← g
  zeroth ← h
  Ok (seven + six + five + four + three + two + one + zeroth)

-- so does a level that is held
abbrev IsBit : List Level → (n byte weight : ℕ) → Type 0
IsBit xs n byte weight = level xs (Dq n) ≡ lv (is_odd (byte / weight))

abbrev summed_as : ℕ → Result ℕ BusFault
summed_as n = Ok n

byte_is : (xs : List Level) (b : ℕ) → b < 256 → IsBit xs 7 b 128 → IsBit xs 6 b 64 → IsBit xs 5 b 32 → IsBit xs 4 b 16 → IsBit xs 3 b 8 → IsBit xs 2 b 4 → IsBit xs 1 b 2 → IsBit xs 0 b 1 →
    byte_of xs ≡ Ok b
byte_is xs b few h7 h6 h5 h4 h3 h2 h1 h0 =
    let at : (n weight : ℕ) → IsBit xs n b weight → weighed (level xs (Dq n)) weight ≡ Ok (worth b weight) =
    λ n weight h. ap (λ (x : Level). weighed x weight) h ∙ weighed_lv (is_odd (b / weight)) weight in
    by (weighed (level xs (Dq 7)) 128) (weighed (level xs (Dq 6)) 64) (weighed (level xs (Dq 5)) 32) (weighed (level xs (Dq 4)) 16)
    (weighed (level xs (Dq 3)) 8) (weighed (level xs (Dq 2)) 4) (weighed (level xs (Dq 1)) 2) (weighed (level xs (Dq 0)) 1)
    (at 7 128 h7) (at 6 64 h6) (at 5 32 h5) (at 4 16 h4) (at 3 8 h3) (at 2 4 h2) (at 1 2 h1) (at 0 1 h0)
    ∙ ap summed_as (total_is b few)
  where
    by : (r7 r6 r5 r4 r3 r2 r1 r0 : Result ℕ BusFault) → r7 ≡ Ok (worth b 128) → r6 ≡ Ok (worth b 64) → r5 ≡ Ok (worth b 32) → r4 ≡ Ok (worth b 16) → r3 ≡ Ok (worth b 8) → r2 ≡ Ok (worth b 4) → r1 ≡ Ok (worth b 2) → r0 ≡ Ok (worth b 1) →
        summed r7 r6 r5 r4 r3 r2 r1 r0 ≡ Ok (total b)
    by r7 r6 r5 r4 r3 r2 r1 r0 e7 e6 e5 e4 e3 e2 e1 e0 = rw (e7, e6, e5, e4, e3, e2, e1, e0) refl

-- ---- 4. all lines

pub record Stands (g : Parts) (targets : ℕ) (xs : List Level) (past : List Item) (l : Lines) : Type 0 where
  pub we : level xs We ≡ lv l.we
  pub re : level xs Re ≡ lv l.re
  pub cle : level xs Cle ≡ lv l.cle
  pub ale : level xs Ale ≡ lv l.ale
  pub enable : (n : ℕ) → n < targets → level xs (Enable n) ≡ lv (not (is_at l.enabled n))
  pub byte : (b : ℕ) → l.dq ≡ Some b → b < 256 → byte_of xs ≡ Ok b
  pub busy : (n : ℕ) → n < 4 * targets → nat_lt (n % 4) g.luns ≡ true → level xs (Busy (n / 4) (n % 4)) ≡ lv (is_busy g past (n / 4) (n % 4))
  pub array : (n : ℕ) → n < 4 * targets → nat_lt (n % 4) g.luns ≡ true → level xs (ArrayBusy (n / 4) (n % 4)) ≡ lv (has_busy_array g past (n / 4) (n % 4))
  pub failed : (n : ℕ) → n < 4 * targets → nat_lt (n % 4) g.luns ≡ true → level xs (Failed (n / 4) (n % 4)) ≡ lv (tells_failure past (n / 4) (n % 4))
  pub absent : (n : ℕ) → n < 4 * targets → nat_lt (n % 4) g.luns ≡ false → level xs (Busy (n / 4) (n % 4)) ≡ Unknown
  pub no_array : (n : ℕ) → n < 4 * targets → nat_lt (n % 4) g.luns ≡ false → level xs (ArrayBusy (n / 4) (n % 4)) ≡ Unknown

module _ (g : Parts) (targets : ℕ) (xs : List Level) (past : List Item) (rule : ℕ) (l : Lines) (fit : Fits targets g.luns) (shows : Shows (lines_of targets g.luns) xs (levels g targets past rule l)) where
  abbrev lines : ℕ → Option ℕ
  lines = code_at (lines_of targets g.luns)

  line_at : (role : Role) (code : ℕ) → place_of role < 68 → lines (place_of role) ≡ Some code → level xs role ≡ shown_bit (held_of code (levels g targets past rule l))
  line_at role code few is = level_shown (lines_of targets g.luns) xs (levels g targets past rule l) role shows few ∙ ap (λ (o : Option ℕ). held_level o (levels g targets past rule l)) is

  bus_line : (role : Role) (k : ℕ) (b : Bool) → place_of role < 68 → lines (place_of role) ≡ Some (33 + k + targets) → get_or (after_enables g targets past rule l l.dq) k 0 ≡ bit b → level xs role ≡ lv b
  bus_line role k b few is e =
      let code : 33 + k + targets ≡ 33 + targets + k = omega arith in
      line_at role (33 + k + targets) few is ∙ ap shown_bit (bus_at g targets past rule l (33 + k + targets) k code ∙ e) ∙ bit_shown b

  dq_line : (n k b weight : ℕ) → n < 8 → k ≡ 11 - n → get_or (after_enables g targets past rule l l.dq) k 0 ≡ bit (is_odd (b / weight)) → IsBit xs n b weight
  dq_line n k b weight few is e =
      let code : 37 + targets + (7 - n) ≡ 33 + targets + k = omega (arith, is, few) in
      let place : place_of (Dq n) ≡ 8 + n = omega (arith, few) in
      line_at (Dq n) (37 + targets + (7 - n)) (omega (arith, few)) (ap lines place ∙ fit.dq n few)
      ∙ ap shown_bit (bus_at g targets past rule l (37 + targets + (7 - n)) k code ∙ e) ∙ bit_shown (is_odd (b / weight))

  driven : (b : ℕ) → l.dq ≡ Some b → (k : ℕ) → get_or (after_enables g targets past rule l l.dq) k 0 ≡ get_or (after_enables g targets past rule l (Some b)) k 0
  driven b is k = ap (λ (o : Option ℕ). get_or (after_enables g targets past rule l o) k 0) is

  lun_line : (role : Role) (part ce lun : ℕ) (b : Bool) → rule ≡ 0 → part < 3 → ce < targets → nat_lt lun g.luns ≡ true → place_of role < 68 → lines (place_of role) ≡ Some (busy_code g.luns targets ce lun + part) →
      told true g past part ce lun ≡ bit b → level xs role ≡ lv b
  lun_line role part ce lun b none small h k few is e =
      line_at role (busy_code g.luns targets ce lun + part) few is
      ∙ ap shown_bit (told_at g targets past rule l part ce lun (busy_code g.luns targets ce lun + part) small h (leb-true (suc lun) g.luns k) refl
      ∙ ap (λ (n : ℕ). told (n == 0) g past part ce lun) none ∙ e)
      ∙ bit_shown b

  pub stands : rule ≡ 0 → targets ≤ 4 → Stands g targets xs past l
  stands none few = record {
    we = bus_line We 2 l.we (omega arith) fit.we refl;
    re = bus_line Re 3 l.re (omega arith) fit.re refl;
    cle = bus_line Cle 0 l.cle (omega arith) fit.cle refl;
    ale = bus_line Ale 1 l.ale (omega arith) fit.ale refl;
    enable = λ n within.
        let place : 33 + n - 33 ≡ n = omega arith in
        let same : 0 + n ≡ n = omega arith in
        line_at (Enable n) (33 + n) (omega (arith, within, few)) (fit.enable n within)
        ∙ ap shown_bit (
        ap (λ (ys : List ℕ). get_or ys (33 + n - 33) 0) (append_assoc (enables l.enabled targets 0) (bit l.cle ∷ (bit l.ale ∷ (bit l.we ∷ (bit l.re ∷ dq_bits l.dq)))) (model_levels g targets past rule))
        ∙ ap (λ (m : ℕ). get_or (enables l.enabled targets 0 ++ after_enables g targets past rule l l.dq) m 0) place
        ∙ enable_at l.enabled targets 0 n (after_enables g targets past rule l l.dq) within
        ∙ ap (λ (m : ℕ). bit (not (is_at l.enabled m))) same)
        ∙ bit_shown (not (is_at l.enabled n));
    byte = λ b is small. byte_is xs b small
        (dq_line 7 4 b 128 (omega arith) refl (driven b is 4)) (dq_line 6 5 b 64 (omega arith) refl (driven b is 5)) (dq_line 5 6 b 32 (omega arith) refl (driven b is 6)) (dq_line 4 7 b 16 (omega arith) refl (driven b is 7))
        (dq_line 3 8 b 8 (omega arith) refl (driven b is 8)) (dq_line 2 9 b 4 (omega arith) refl (driven b is 9)) (dq_line 1 10 b 2 (omega arith) refl (driven b is 10)) (dq_line 0 11 b 1 (omega arith) refl (driven b is 11));
    busy = λ n within k. lun_line (Busy (n / 4) (n % 4)) 0 (n / 4) (n % 4) (is_busy g past (n / 4) (n % 4)) none (omega arith) (omega (arith, within)) k (omega arith) (fit.busy n within k) refl;
    array = λ n within k. lun_line (ArrayBusy (n / 4) (n % 4)) 1 (n / 4) (n % 4) (has_busy_array g past (n / 4) (n % 4)) none (omega arith) (omega (arith, within)) k (omega arith) (fit.array n within k) refl;
    failed = λ n within k. lun_line (Failed (n / 4) (n % 4)) 2 (n / 4) (n % 4) (tells_failure past (n / 4) (n % 4)) none (omega arith) (omega (arith, within)) k (omega arith) (fit.failed n within k) refl;
    absent = λ n within k.
        level_shown (lines_of targets g.luns) xs (levels g targets past rule l) (Busy (n / 4) (n % 4)) shows (omega arith)
        ∙ ap (λ (o : Option ℕ). held_level o (levels g targets past rule l)) (fit.absent n within k);
    no_array = λ n within k.
        level_shown (lines_of targets g.luns) xs (levels g targets past rule l) (ArrayBusy (n / 4) (n % 4)) shows (omega arith)
        ∙ ap (λ (o : Option ℕ). held_level o (levels g targets past rule l)) (fit.no_array n within k);
  }
