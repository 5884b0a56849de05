-- What a reader of the dump of a trace holds of a LUN that is busy.
use Rattle.std.specs.Prelude.{◌≡◌, ℕ, ◌+◌, ◌-◌, ◌*◌, ◌<◌, ◌==◌, ◌&&◌, not, Bool, true, false, List, [], ◌∷◌, ◌++◌, length, slice_index}
use Rattle.nand_geometry.specs.declared.parts.Parts.{Parts}
use Rattle.onfi_cycle.specs.declared.item.Failures.{Failures}
use Rattle.onfi_cycle.specs.declared.item.Item.{Item}
use Rattle.onfi_cycle.specs.declared.item.Item.TheVariants.{Cyc, Rdy, Ard}
use Rattle.bus_lines.specs.Lines.{idle}
use Rattle.trace_wave.specs.Levels.{bit, levels}
use Rattle.trace_wave.specs.Wave.{is_ready}
use Rattle.wave_laws.specs.Told.{strobe_events}
use Rattle.wave_laws.specs.Heard.{all_heard, told_by, drawn_by}

-- the level that is held of the line with this code
abbrev pub held_of : (code : ℕ) → List ℕ → ℕ
held_of code held = slice_index held (code - 33)

-- the code of the line that is high while this LUN is busy; behind it stand those of its array and of its failure
abbrev pub busy_code : (luns targets ce lun : ℕ) → ℕ
busy_code luns targets ce lun = 45 + targets + targets + 3 * (ce * luns + lun)

abbrev pub is_ready_of : Item → (ce lun : ℕ) → Bool
is_ready_of (Cyc c) ce lun = false
is_ready_of (Rdy of_ce of_lun fail) ce lun = of_ce == ce && of_lun == lun
is_ready_of (Ard _ _ _) ce lun = false

abbrev pub is_array_ready_of : Item → (ce lun : ℕ) → Bool
is_array_ready_of (Cyc c) ce lun = false
is_array_ready_of (Rdy _ _ _) ce lun = false
is_array_ready_of (Ard of_ce of_lun fail) ce lun = of_ce == ce && of_lun == lun

-- of these levels, held where the strobe of an item is low and after it: the line of a LUN that is busy falls with the ready of this LUN, and with nothing else;
-- that of its array falls without a strobe with the ready of its array, and with nothing else; and each of these tells whether the work that it ends failed
pub record AreSeen (code : ℕ) (next : Item) (ce lun : ℕ) (before after : List ℕ) : Type 0 where
  pub busy : held_of code before ≡ bit true → held_of code after ≡ bit (not (is_ready_of next ce lun))
  pub array : is_ready next ≡ true → held_of (code + 1) before ≡ bit true → held_of (code + 1) after ≡ bit (not (is_array_ready_of next ce lun))
  pub failure : (fail : Failures) → next ≡ Rdy ce lun fail → held_of (code + 2) after ≡ bit fail.last
  pub array_failure : (fail : Bool) → next ≡ Ard ce lun fail → held_of (code + 2) after ≡ bit fail

-- so it is up to the first item that breaks a rule
abbrev pub ReadiesAreSeen : Type 0
ReadiesAreSeen =
    (g : Parts) (targets : ℕ) (items : List Item) (next : Item) (first : List ℕ) (ce lun : ℕ) → length first ≡ length (levels g targets [] 0 idle) →
    ce < targets → lun < g.luns → (drawn_by g targets (items ++ (next ∷ []))).rule ≡ 0 →
    AreSeen (busy_code g.luns targets ce lun) next ce lun (all_heard first (told_by g targets items ++ strobe_events g targets (drawn_by g targets items) next)) (all_heard first (told_by g targets (items ++ (next ∷ []))))
