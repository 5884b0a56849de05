-- The level of each line as its character, in the order in which the header declares the lines: 0 (48), 1 (49), x (120) or z (122).
use Rattle.std.specs.Prelude.{true, ℕ, zero, suc, ◌+◌, ◌*◌, ◌/◌, ◌%◌, ◌==◌, Bool, false, ◌||◌, ◌&&◌, not, if◌then◌else◌, List, [], ◌∷◌, ◌++◌, Option, Some, None}
use Rattle.nand_geometry.specs.declared.parts.Parts.{Parts}
use Rattle.onfi_cycle.specs.declared.item.Item.{Item}
use Rattle.onfi_cycle.specs.declared.item.Item.TheVariants.{Cyc, Rdy, Ard}
use Rattle.onfi_cycle.specs.Lun.{lun_view}
use Rattle.bus_lines.specs.declared.lines.Lines.{Lines}

abbrev pub bit : Bool → ℕ
bit high = if high then 49 else 48

-- a level that may be unknown
abbrev pub shown : (known high : Bool) → ℕ
shown known high = if known then bit high else 120

-- the chip enable of this number is the one that is low
abbrev pub is_at : Option ℕ → ℕ → Bool
is_at None n = false
is_at (Some ce) n = ce == n

-- the chip enables of so many targets, from number n on
abbrev pub enables : Option ℕ → (count n : ℕ) → List ℕ
enables e zero n = []
enables e (suc count) n = bit (not (is_at e n)) ∷ enables e count (n + 1)

abbrev pub is_odd : ℕ → Bool
is_odd n = n % 2 == 1

-- the bit of this weight of a number
abbrev pub bit_of : (number weight : ℕ) → ℕ
bit_of number weight = bit (is_odd (number / weight))

-- a line of DQ, z while nobody has driven it
abbrev pub dq_bit : Option ℕ → (weight : ℕ) → ℕ
dq_bit None weight = 122
dq_bit (Some byte) weight = bit_of byte weight

abbrev pub dq_bits : Option ℕ → List ℕ
dq_bits dq = dq_bit dq 128 ∷ dq_bit dq 64 ∷ dq_bit dq 32 ∷ dq_bit dq 16 ∷ dq_bit dq 8 ∷ dq_bit dq 4 ∷ dq_bit dq 2 ∷ dq_bit dq 1 ∷ []

abbrev pub rule_bits : ℕ → List ℕ
rule_bits r = bit_of r 16 ∷ bit_of r 8 ∷ bit_of r 4 ∷ bit_of r 2 ∷ bit_of r 1 ∷ []

abbrev pub is_busy : Parts → List Item → (ce lun : ℕ) → Bool
is_busy g past ce lun = (lun_view g past (record { ce = ce; lun = lun })).busy

abbrev pub has_busy_array : Parts → List Item → (ce lun : ℕ) → Bool
has_busy_array g past ce lun = (lun_view g past (record { ce = ce; lun = lun })).array_busy

-- the newest item is a ready of this LUN, or of its array, that tells a failure of the work that it ends
abbrev pub tells_failure : List Item → (ce lun : ℕ) → Bool
tells_failure [] ce lun = false
tells_failure (Cyc c ∷ past) ce lun = false
tells_failure (Rdy of_ce of_lun fail ∷ past) ce lun = of_ce == ce && of_lun == lun && fail.last
tells_failure (Ard of_ce of_lun fail ∷ past) ce lun = of_ce == ce && of_lun == lun && fail

-- some LUN of a target is busy, of so many from number n on
abbrev pub some_busy : Parts → List Item → (ce count n : ℕ) → Bool
some_busy g past ce zero n = false
some_busy g past ce (suc count) n = is_busy g past ce n || some_busy g past ce count (n + 1)

-- R/B# of so many targets from number n on: low while a LUN of the target is busy
abbrev pub readies : (known : Bool) → Parts → List Item → (count n : ℕ) → List ℕ
readies known g past zero n = []
readies known g past (suc count) n = shown known (not (some_busy g past n g.luns 0)) ∷ readies known g past count (n + 1)

-- busy, array and fail of so many LUNs of a target, from number n on
abbrev pub target_levels : (known : Bool) → Parts → List Item → (ce count n : ℕ) → List ℕ
target_levels known g past ce zero n = []
target_levels known g past ce (suc count) n =
    shown known (is_busy g past ce n) ∷ shown known (has_busy_array g past ce n) ∷ shown known (tells_failure past ce n) ∷ target_levels known g past ce count (n + 1)

-- those of so many targets, from number n on
abbrev pub targets_levels : (known : Bool) → Parts → List Item → (count n : ℕ) → List ℕ
targets_levels known g past zero n = []
targets_levels known g past (suc count) n = target_levels known g past n g.luns 0 ++ targets_levels known g past count (n + 1)

-- the lines of the bus of so many targets
abbrev pub bus_levels : ℕ → Lines → List ℕ
bus_levels targets l = enables l.enabled targets 0 ++ (bit l.cle ∷ bit l.ale ∷ bit l.we ∷ bit l.re ∷ dq_bits l.dq)

-- R/B# and the lines of the LUNs, known
abbrev pub told_levels : Parts → ℕ → List Item → List ℕ
told_levels g targets past = readies true g past targets 0 ++ targets_levels true g past targets 0

-- how many these are
abbrev pub told_lines : (targets luns : ℕ) → ℕ
told_lines targets luns = targets + 3 * (targets * luns)

-- what is told of the model: of R/B# and the LUNs, after a legal past, and the rule; that is 0, or the number of the rule that the item after the past
-- broke, and then the LUNs are unknown
abbrev pub model_levels : Parts → ℕ → List Item → ℕ → List ℕ
model_levels g targets past rule =
    readies (rule == 0) g past targets 0 ++ (targets_levels (rule == 0) g past targets 0 ++ rule_bits rule)

-- all lines
abbrev pub levels : Parts → ℕ → List Item → ℕ → Lines → List ℕ
levels g targets past rule l = bus_levels targets l ++ model_levels g targets past rule
