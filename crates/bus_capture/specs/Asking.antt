-- How the work of one of several LUNs ended that R/B# shows to be done: as the status says that the LUN is asked for next, by 78h or, where it is the selected
-- one, by 70h; if it isn't before the host goes on, without failure.
use Rattle.std.specs.Prelude.{ℕ, zero, suc, ◌-◌, ◌==◌, Bool, false, if◌then◌else◌, List, [], ◌∷◌}
use Rattle.nand_geometry.specs.declared.parts.Parts.{Parts}
use Rattle.nand_geometry.specs.Row.{row_of}
use Rattle.onfi_cycle.specs.declared.lun.Lun.{Lun}
use Rattle.onfi_cycle.specs.declared.item.Kind.{Kind}
use Rattle.onfi_cycle.specs.declared.item.Kind.TheVariants.{Cmd, Adr, Din, Dout}
use Rattle.onfi_cycle.specs.declared.item.Cycle.{Cycle}
use Rattle.onfi_cycle.specs.declared.item.Item.TheVariants.{Cyc, Rdy, Ard}
use Rattle.onfi_cycle.specs.Effect.{names_lun}
use Rattle.onfi_cycle.specs.Sequence.{shifted}
use Rattle.onfi_cycle.specs.declared.item.Failures.{Failures}
use Rattle.bus_capture.specs.Telling.{no_failures, told_of}
use Rattle.bus_capture.specs.declared.lun_ahead.Asking.{Asking}
use Rattle.bus_capture.specs.declared.lun_ahead.LunAhead.{LunAhead}
use Rattle.bus_capture.specs.declared.lun_ahead.LunAhead.TheVariants.{Going, Known}
use Rattle.bus_capture.specs.declared.sampler.Observation.{Observation}
use Rattle.bus_capture.specs.declared.sampler.Observation.TheVariants as observation
use Rattle.bus_capture.specs.declared.sampler.Observed.{Observed}

abbrev pub first_asking : (selected : Bool) → Asking
first_asking selected = record { selected = selected; asked = false; left = 0; row = record { r1 = 0; r2 = 0; r3 = 0 } }

-- a 78h has named the LUN, or another: 70h asks for the same one from then on
abbrev pub answered : (named : Bool) → Asking → Asking
answered named a = record { selected = named; asked = named; left = 0; row = a.row }

abbrev pub asking_address : Parts → Lun → Asking → ℕ → Asking
asking_address g l a byte =
    if a.left == 0 then a
    else (if a.left == 1 then answered (names_lun g (row_of a.row.r2 a.row.r3 byte) l.lun) a
    else record { selected = a.selected; asked = a.asked; left = a.left - 1; row = shifted a.row byte })

abbrev pub asking_command : Asking → ℕ → LunAhead
asking_command a byte =
    if byte == 112 then Going (record { selected = a.selected; asked = a.selected; left = 0; row = a.row })
    else (if byte == 120 then Going (record { selected = a.selected; asked = false; left = 3; row = a.row }) else Known no_failures)

abbrev pub asking_by : Parts → Lun → Asking → Kind → ℕ → LunAhead
asking_by g l a Cmd byte = asking_command a byte
asking_by g l a Adr byte = Going (asking_address g l a byte)
asking_by g l a Din byte = Going a
asking_by g l a Dout byte = if a.asked then Known (told_of byte) else Going a

abbrev pub asking_in : Parts → Lun → Asking → Cycle → LunAhead
asking_in g l a c = if c.ce == l.ce then asking_by g l a c.kind c.byte else Going a

abbrev pub asking_of : Parts → Lun → Asking → Observation → LunAhead
asking_of g l a (observation.Item (Cyc c)) = asking_in g l a c
asking_of g l a (observation.Item (Rdy _ _ _)) = Going a
asking_of g l a (observation.Item (Ard _ _ _)) = Going a
asking_of g l a (observation.Released n) = Going a

abbrev pub lun_fails_by : LunAhead → (Asking → Failures) → Failures
lun_fails_by (Known fail) later = fail
lun_fails_by (Going a) later = later a

-- what failures the status tells that the LUN is asked for next, among so many of what is seen
abbrev pub lun_fails_within : Parts → Lun → (most : ℕ) → Asking → List Observed → Failures
lun_fails_within g l zero a later = no_failures
lun_fails_within g l (suc most) a [] = no_failures
lun_fails_within g l (suc most) a (o ∷ later) = lun_fails_by (asking_of g l a o.observation) (λ a. lun_fails_within g l most a later)
