-- Each name tells its line.
use Rattle.std.specs.Prelude.{codes}
use Rattle.std.proofs.Common.{◌≡◌, ℕ, zero, suc, ◌+◌, ◌*◌, ◌≤◌, ◌<◌, false, List, [], ◌∷◌, ◌++◌, Option, Some, None, Ok, refl, ap, ◌∙◌, arith}
use Rattle.trace_wave.specs.Header.{digit}
use Rattle.vcd_text.specs.Header.{Variable}
use Rattle.bus_signals.specs.declared.names.Family.{Family}
use Rattle.bus_signals.specs.declared.names.Family.TheVariants as family
use Rattle.bus_signals.specs.declared.names.Meaning.{Meaning}
use Rattle.bus_signals.specs.declared.spot.Spot.{Spot}
use Rattle.bus_signals.specs.declared.spot.Spot.TheVariants as spot
use Rattle.bus_signals.specs.declared.carrier.Carrier.{Carrier}
use Rattle.bus_signals.specs.Names.{plain_of, named}
use Rattle.bus_signals.specs.Spots.{spot_of}
use Rattle.bus_signals.specs.Roles.{carrier_as, carriers_of, sources_of, sources_from}
use Rattle.wave_laws.specs.Told.{signal, target_signals, bit_signals, lun_signals, all_lun_signals, channel_signals, signals_of}
use Rattle.wave_laws.specs.Lines.{lines_of, NamesAreLines}
use Rattle.wave_laws.proofs.Dumps.{each_of_four}

below_four : (P : ℕ → Type 0) → P 0 → P 1 → P 2 → P 3 → (n : ℕ) → n < 4 → P n
below_four P a b c d zero h = a
below_four P a b c d (suc zero) h = b
below_four P a b c d (suc (suc zero)) h = c
below_four P a b c d (suc (suc (suc zero))) h = d
below_four P a b c d (suc (suc (suc (suc n)))) h = absurd (omega (arith, h))

-- ---- 1. single names

abbrev carrier : Family → (number lun : Option ℕ) → Spot → (code : ℕ) → Carrier
carrier f number lun at code = record { meaning = record { family = f; number = number; lun = lun }; spot = at; width = 1; code = code; is_given = false }

-- a name tells this
record Tells (name : List ℕ) (f : Family) (number lun : Option ℕ) (at : Spot) : Type 0 where
  meaning : named (plain_of name) ≡ record { family = f; number = number; lun = lun }
  place : spot_of name [] ≡ at

carried : (code : ℕ) (name : List ℕ) (f : Family) (number lun : Option ℕ) (at : Spot) → Tells name f number lun at → carrier_as false (plain_of name) (signal code name) ≡ carrier f number lun at code
carried code name f number lun at t =
    ap (λ (m : Meaning). record { meaning = m; spot = spot_of name []; width = 1; code = code; is_given = false }) t.meaning
    ∙ ap (λ (s : Spot). record { meaning = record { family = f; number = number; lun = lun }; spot = s; width = 1; code = code; is_given = false }) t.place

enable_tells : (n : ℕ) → n < 4 → Tells (codes "CE" ++ (digit n ∷ codes "_n")) family.Enable (Some n) None spot.Bare
enable_tells = below_four (λ n. Tells (codes "CE" ++ (digit n ∷ codes "_n")) family.Enable (Some n) None spot.Bare) (record { meaning = refl; place = refl }) (record { meaning = refl; place = refl }) (record { meaning = refl; place = refl }) (record { meaning = refl; place = refl })

ready_tells : (n : ℕ) → n < 4 → Tells (codes "RB" ++ (digit n ∷ codes "_n")) family.ReadyBusy (Some n) None spot.Bare
ready_tells = below_four (λ n. Tells (codes "RB" ++ (digit n ∷ codes "_n")) family.ReadyBusy (Some n) None spot.Bare) (record { meaning = refl; place = refl }) (record { meaning = refl; place = refl }) (record { meaning = refl; place = refl }) (record { meaning = refl; place = refl })

abbrev of_lun : List ℕ → (ce lun : ℕ) → List ℕ
of_lun name ce lun = name ++ (digit ce ∷ (codes "_" ++ (digit lun ∷ [])))

abbrev LunTells : List ℕ → Family → (ce lun : ℕ) → Type 0
LunTells name f ce lun = Tells (of_lun name ce lun) f (Some ce) (Some lun) spot.Bare

busy_tells : (ce : ℕ) → ce < 4 → (lun : ℕ) → lun < 4 → LunTells (codes "busy") family.Busy ce lun
busy_tells = below_four (λ ce. (lun : ℕ) → lun < 4 → LunTells (codes "busy") family.Busy ce lun)
    (below_four (LunTells (codes "busy") family.Busy 0) (record { meaning = refl; place = refl }) (record { meaning = refl; place = refl }) (record { meaning = refl; place = refl }) (record { meaning = refl; place = refl }))
    (below_four (LunTells (codes "busy") family.Busy 1) (record { meaning = refl; place = refl }) (record { meaning = refl; place = refl }) (record { meaning = refl; place = refl }) (record { meaning = refl; place = refl }))
    (below_four (LunTells (codes "busy") family.Busy 2) (record { meaning = refl; place = refl }) (record { meaning = refl; place = refl }) (record { meaning = refl; place = refl }) (record { meaning = refl; place = refl }))
    (below_four (LunTells (codes "busy") family.Busy 3) (record { meaning = refl; place = refl }) (record { meaning = refl; place = refl }) (record { meaning = refl; place = refl }) (record { meaning = refl; place = refl }))

array_tells : (ce : ℕ) → ce < 4 → (lun : ℕ) → lun < 4 → LunTells (codes "array") family.ArrayBusy ce lun
array_tells = below_four (λ ce. (lun : ℕ) → lun < 4 → LunTells (codes "array") family.ArrayBusy ce lun)
    (below_four (LunTells (codes "array") family.ArrayBusy 0) (record { meaning = refl; place = refl }) (record { meaning = refl; place = refl }) (record { meaning = refl; place = refl }) (record { meaning = refl; place = refl }))
    (below_four (LunTells (codes "array") family.ArrayBusy 1) (record { meaning = refl; place = refl }) (record { meaning = refl; place = refl }) (record { meaning = refl; place = refl }) (record { meaning = refl; place = refl }))
    (below_four (LunTells (codes "array") family.ArrayBusy 2) (record { meaning = refl; place = refl }) (record { meaning = refl; place = refl }) (record { meaning = refl; place = refl }) (record { meaning = refl; place = refl }))
    (below_four (LunTells (codes "array") family.ArrayBusy 3) (record { meaning = refl; place = refl }) (record { meaning = refl; place = refl }) (record { meaning = refl; place = refl }) (record { meaning = refl; place = refl }))

fail_tells : (ce : ℕ) → ce < 4 → (lun : ℕ) → lun < 4 → LunTells (codes "fail") family.Failed ce lun
fail_tells = below_four (λ ce. (lun : ℕ) → lun < 4 → LunTells (codes "fail") family.Failed ce lun)
    (below_four (LunTells (codes "fail") family.Failed 0) (record { meaning = refl; place = refl }) (record { meaning = refl; place = refl }) (record { meaning = refl; place = refl }) (record { meaning = refl; place = refl }))
    (below_four (LunTells (codes "fail") family.Failed 1) (record { meaning = refl; place = refl }) (record { meaning = refl; place = refl }) (record { meaning = refl; place = refl }) (record { meaning = refl; place = refl }))
    (below_four (LunTells (codes "fail") family.Failed 2) (record { meaning = refl; place = refl }) (record { meaning = refl; place = refl }) (record { meaning = refl; place = refl }) (record { meaning = refl; place = refl }))
    (below_four (LunTells (codes "fail") family.Failed 3) (record { meaning = refl; place = refl }) (record { meaning = refl; place = refl }) (record { meaning = refl; place = refl }) (record { meaning = refl; place = refl }))

-- ---- 2. all signals

carriers_append : (vs more : List Variable) → carriers_of [] (vs ++ more) ≡ carriers_of [] vs ++ carriers_of [] more
carriers_append [] more = refl
carriers_append (v ∷ vs) more = ap (λ (cs : List Carrier). carrier_as false (plain_of v.name) v ∷ cs) (carriers_append vs more)

-- what they tell
abbrev target_carriers : Family → (code count n : ℕ) → List Carrier
target_carriers f code zero n = []
target_carriers f code (suc count) n = carrier f (Some n) None spot.Bare code ∷ target_carriers f (code + 1) count (n + 1)

abbrev dq_carriers : (code count : ℕ) → List Carrier
dq_carriers code zero = []
dq_carriers code (suc count) = carrier family.Dq None None (spot.Bit count) code ∷ dq_carriers (code + 1) count

abbrev rule_carriers : (code count : ℕ) → List Carrier
rule_carriers code zero = []
rule_carriers code (suc count) = carrier family.Other None None (spot.Bit count) code ∷ rule_carriers (code + 1) count

abbrev lun_carriers : (code ce lun : ℕ) → List Carrier
lun_carriers code ce lun =
    carrier family.Busy (Some ce) (Some lun) spot.Bare code ∷ (carrier family.ArrayBusy (Some ce) (Some lun) spot.Bare (code + 1) ∷ (carrier family.Failed (Some ce) (Some lun) spot.Bare (code + 2) ∷ []))

abbrev all_lun_carriers : (code ce count n : ℕ) → List Carrier
all_lun_carriers code ce zero n = []
all_lun_carriers code ce (suc count) n = lun_carriers code ce n ++ all_lun_carriers (code + 3) ce count (n + 1)

abbrev channel_carriers : (code luns count n : ℕ) → List Carrier
channel_carriers code luns zero n = []
channel_carriers code luns (suc count) n = all_lun_carriers code n luns 0 ++ channel_carriers (code + 3 * luns) luns count (n + 1)

target_carried : (name : List ℕ) (f : Family) → ((n : ℕ) → n < 4 → Tells (name ++ (digit n ∷ codes "_n")) f (Some n) None spot.Bare) → (count n code : ℕ) → n + count ≤ 4 →
    carriers_of [] (target_signals code name count n) ≡ target_carriers f code count n
target_carried name f tells zero n code h = refl
target_carried name f tells (suc count) n code h =
    ap (λ (c : Carrier). c ∷ carriers_of [] (target_signals (code + 1) name count (n + 1))) (carried code (name ++ (digit n ∷ codes "_n")) f (Some n) None spot.Bare (tells n (omega (arith, h))))
    ∙ ap (λ (cs : List Carrier). carrier f (Some n) None spot.Bare code ∷ cs) (target_carried name f tells count (n + 1) (code + 1) (omega (arith, h)))

lun_carried : (code ce lun : ℕ) → ce < 4 → lun < 4 → carriers_of [] (lun_signals code ce lun) ≡ lun_carriers code ce lun
lun_carried code ce lun h k =
    let busy = carrier family.Busy (Some ce) (Some lun) spot.Bare code in
    let array = carrier family.ArrayBusy (Some ce) (Some lun) spot.Bare (code + 1) in
    ap (λ (c : Carrier). c ∷ carriers_of [] (signal (code + 1) (of_lun (codes "array") ce lun) ∷ (signal (code + 2) (of_lun (codes "fail") ce lun) ∷ [])))
    (carried code (of_lun (codes "busy") ce lun) family.Busy (Some ce) (Some lun) spot.Bare (busy_tells ce h lun k))
    ∙ ap (λ (c : Carrier). busy ∷ (c ∷ carriers_of [] (signal (code + 2) (of_lun (codes "fail") ce lun) ∷ [])))
    (carried (code + 1) (of_lun (codes "array") ce lun) family.ArrayBusy (Some ce) (Some lun) spot.Bare (array_tells ce h lun k))
    ∙ ap (λ (c : Carrier). busy ∷ (array ∷ (c ∷ [])))
    (carried (code + 2) (of_lun (codes "fail") ce lun) family.Failed (Some ce) (Some lun) spot.Bare (fail_tells ce h lun k))

all_lun_carried : (ce count n code : ℕ) → ce < 4 → n + count ≤ 4 → carriers_of [] (all_lun_signals code ce count n) ≡ all_lun_carriers code ce count n
all_lun_carried ce zero n code h k = refl
all_lun_carried ce (suc count) n code h k =
    carriers_append (lun_signals code ce n) (all_lun_signals (code + 3) ce count (n + 1))
    ∙ ap (λ (cs : List Carrier). cs ++ carriers_of [] (all_lun_signals (code + 3) ce count (n + 1))) (lun_carried code ce n h (omega (arith, k)))
    ∙ ap (λ (cs : List Carrier). lun_carriers code ce n ++ cs) (all_lun_carried ce count (n + 1) (code + 3) h (omega (arith, k)))

channel_carried : (luns count n code : ℕ) → luns ≤ 4 → n + count ≤ 4 → carriers_of [] (channel_signals code luns count n) ≡ channel_carriers code luns count n
channel_carried luns zero n code h k = refl
channel_carried luns (suc count) n code h k =
    carriers_append (all_lun_signals code n luns 0) (channel_signals (code + 3 * luns) luns count (n + 1))
    ∙ ap (λ (cs : List Carrier). cs ++ carriers_of [] (channel_signals (code + 3 * luns) luns count (n + 1))) (all_lun_carried n luns 0 code (omega (arith, k)) (omega (arith, h)))
    ∙ ap (λ (cs : List Carrier). all_lun_carriers code n luns 0 ++ cs) (channel_carried luns count (n + 1) (code + 3 * luns) h (omega (arith, k)))

-- single signals of the bus
abbrev alone : Family → (code : ℕ) → Carrier
alone f code = carrier f None None spot.Bare code

abbrev all_carriers : (targets luns : ℕ) → List Carrier
all_carriers targets luns =
    target_carriers family.Enable 33 targets 0 ++ (alone family.Cle (33 + targets) ∷ (alone family.Ale (34 + targets) ∷ (alone family.We (35 + targets) ∷ (alone family.Re (36 + targets)
    ∷ (dq_carriers (37 + targets) 8 ++ (target_carriers family.ReadyBusy (45 + targets) targets 0 ++ (channel_carriers (45 + targets + targets) luns targets 0 ++ rule_carriers (45 + targets + targets + 3 * (targets * luns)) 5)))))))

dq_carried : (code : ℕ) → carriers_of [] (bit_signals code (codes "DQ") 8) ≡ dq_carriers code 8
dq_carried code = refl

rule_carried : (code : ℕ) → carriers_of [] (bit_signals code (codes "rule") 5) ≡ rule_carriers code 5
rule_carried code = refl

single_carried : (a b c d : ℕ) (vs : List Variable) → carriers_of [] (signal a (codes "CLE") ∷ (signal b (codes "ALE") ∷ (signal c (codes "WE_n") ∷ (signal d (codes "RE_n") ∷ vs))))
    ≡ alone family.Cle a ∷ (alone family.Ale b ∷ (alone family.We c ∷ (alone family.Re d ∷ carriers_of [] vs)))
single_carried a b c d vs = refl

behind_carried : (targets luns : ℕ) → targets ≤ 4 → luns ≤ 4 →
    carriers_of [] (bit_signals (37 + targets) (codes "DQ") 8 ++ (target_signals (45 + targets) (codes "RB") targets 0 ++ (channel_signals (45 + targets + targets) luns targets 0 ++ bit_signals (45 + targets + targets + 3 * (targets * luns)) (codes "rule") 5)))
    ≡ dq_carriers (37 + targets) 8 ++ (target_carriers family.ReadyBusy (45 + targets) targets 0 ++ (channel_carriers (45 + targets + targets) luns targets 0 ++ rule_carriers (45 + targets + targets + 3 * (targets * luns)) 5))
behind_carried targets luns few few_luns =
    let rule = bit_signals (45 + targets + targets + 3 * (targets * luns)) (codes "rule") 5 in
    let channel = channel_signals (45 + targets + targets) luns targets 0 in
    let ready = target_signals (45 + targets) (codes "RB") targets 0 in
    carriers_append (bit_signals (37 + targets) (codes "DQ") 8) (ready ++ (channel ++ rule))
    ∙ ap (λ (cs : List Carrier). cs ++ carriers_of [] (ready ++ (channel ++ rule))) (dq_carried (37 + targets))
    ∙ ap (λ (cs : List Carrier). dq_carriers (37 + targets) 8 ++ cs) (
    carriers_append ready (channel ++ rule)
    ∙ ap (λ (cs : List Carrier). cs ++ carriers_of [] (channel ++ rule)) (target_carried (codes "RB") family.ReadyBusy ready_tells targets 0 (45 + targets) (omega (arith, few)))
    ∙ ap (λ (cs : List Carrier). target_carriers family.ReadyBusy (45 + targets) targets 0 ++ cs) (
    carriers_append channel rule
    ∙ ap (λ (cs : List Carrier). cs ++ carriers_of [] rule) (channel_carried luns targets 0 (45 + targets + targets) few_luns (omega (arith, few)))
    ∙ ap (λ (cs : List Carrier). channel_carriers (45 + targets + targets) luns targets 0 ++ cs) (rule_carried (45 + targets + targets + 3 * (targets * luns)))))

all_carried : (targets luns : ℕ) → targets ≤ 4 → luns ≤ 4 → carriers_of [] (signals_of targets luns) ≡ all_carriers targets luns
all_carried targets luns few few_luns =
    let behind = bit_signals (37 + targets) (codes "DQ") 8 ++ (target_signals (45 + targets) (codes "RB") targets 0 ++ (channel_signals (45 + targets + targets) luns targets 0 ++ bit_signals (45 + targets + targets + 3 * (targets * luns)) (codes "rule") 5)) in
    let single = signal (33 + targets) (codes "CLE") ∷ (signal (34 + targets) (codes "ALE") ∷ (signal (35 + targets) (codes "WE_n") ∷ (signal (36 + targets) (codes "RE_n") ∷ behind))) in
    carriers_append (target_signals 33 (codes "CE") targets 0) single
    ∙ ap (λ (cs : List Carrier). cs ++ carriers_of [] single) (target_carried (codes "CE") family.Enable enable_tells targets 0 33 (omega (arith, few)))
    ∙ ap (λ (cs : List Carrier). target_carriers family.Enable 33 targets 0 ++ cs) (
    single_carried (33 + targets) (34 + targets) (35 + targets) (36 + targets) behind
    ∙ ap (λ (cs : List Carrier). alone family.Cle (33 + targets) ∷ (alone family.Ale (34 + targets) ∷ (alone family.We (35 + targets) ∷ (alone family.Re (36 + targets) ∷ cs)))) (behind_carried targets luns few few_luns))

-- ---- 3. each line is found

abbrev AreFound : (targets luns : ℕ) → Type 0
AreFound targets luns = sources_of targets (all_carriers targets luns) ≡ Ok (lines_of targets luns)

found_1_1 : AreFound 1 1
unfolding sources_from
found_1_1 = refl

found_1_2 : AreFound 1 2
unfolding sources_from
found_1_2 = refl

found_1_3 : AreFound 1 3
unfolding sources_from
found_1_3 = refl

found_1_4 : AreFound 1 4
unfolding sources_from
found_1_4 = refl

found_2_1 : AreFound 2 1
unfolding sources_from
found_2_1 = refl

found_2_2 : AreFound 2 2
unfolding sources_from
found_2_2 = refl

found_2_3 : AreFound 2 3
unfolding sources_from
found_2_3 = refl

found_2_4 : AreFound 2 4
unfolding sources_from
found_2_4 = refl

found_3_1 : AreFound 3 1
unfolding sources_from
found_3_1 = refl

found_3_2 : AreFound 3 2
unfolding sources_from
found_3_2 = refl

found_3_3 : AreFound 3 3
unfolding sources_from
found_3_3 = refl

found_3_4 : AreFound 3 4
unfolding sources_from
found_3_4 = refl

found_4_1 : AreFound 4 1
unfolding sources_from
found_4_1 = refl

found_4_2 : AreFound 4 2
unfolding sources_from
found_4_2 = refl

found_4_3 : AreFound 4 3
unfolding sources_from
found_4_3 = refl

found_4_4 : AreFound 4 4
unfolding sources_from
found_4_4 = refl

all_found : (targets luns : ℕ) → 1 ≤ targets → targets ≤ 4 → 1 ≤ luns → luns ≤ 4 → AreFound targets luns
all_found targets luns some few some_luns few_luns =
    each_of_four (λ t. AreFound t luns)
    (each_of_four (AreFound 1) found_1_1 found_1_2 found_1_3 found_1_4 luns some_luns few_luns)
    (each_of_four (AreFound 2) found_2_1 found_2_2 found_2_3 found_2_4 luns some_luns few_luns)
    (each_of_four (AreFound 3) found_3_1 found_3_2 found_3_3 found_3_4 luns some_luns few_luns)
    (each_of_four (AreFound 4) found_4_1 found_4_2 found_4_3 found_4_4 luns some_luns few_luns)
    targets some few

pub names_are_lines : NamesAreLines
names_are_lines targets luns some few some_luns few_luns = ap (sources_of targets) (all_carried targets luns few few_luns) ∙ all_found targets luns some few some_luns few_luns
