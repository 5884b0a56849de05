-- The failures that a status byte tells of work that R/B# shows to be done.
use Rattle.std.specs.Prelude.{ℕ, false, not, ◌&&◌, Option, Some, None}
use Rattle.nand_geometry.specs.declared.parts.Parts.{Parts}
use Rattle.nand_geometry.specs.Optional.{has_program_cache}
use Rattle.onfi_cycle.specs.declared.item.Failures.{Failures}
use Rattle.onfi_cycle.specs.declared.lun_state.LunState.{LunState}
use Rattle.onfi_cycle.specs.Look.{looked}
use Rattle.trace_faults.specs.declared.trace_state.TraceState.{TraceState}
use Rattle.trace_faults.specs.ShownReadies.{has_fail, has_fail_before}

abbrev pub no_failures : Failures
no_failures = record { last = false; before = false }

-- FAIL and FAILC
abbrev pub told_of : ℕ → Failures
told_of byte = record { last = has_fail byte; before = has_fail_before byte }

-- of a LUN whose work these bits tell of: FAIL counts unless its array goes on with what was programmed, and FAILC where the chip programs caches
abbrev pub told_by : Parts → Option LunState → Failures → Failures
told_by g None fail = no_failures
told_by g (Some lun) fail = record { last = fail.last && not lun.programming; before = has_program_cache g.optional && fail.before }

abbrev pub told_at : TraceState → (ce lun : ℕ) → Failures → Failures
told_at state ce lun fail = told_by state.bus.geometry (looked state.bus (record { ce = ce; lun = lun })) fail
