-- The bytes of a program, cycle by cycle.
use Rattle.std.specs.Prelude.{ℕ, if◌then◌else◌, List, slice_set}
use Rattle.onfi_cycle.specs.declared.tail_facts.TailFacts.{TailFacts}
use Rattle.onfi_cycle.specs.declared.target_cycle.TargetCycle.{TargetCycle}
use Rattle.onfi_cycle.specs.declared.target_cycle.TargetCycle.TheVariants.{CommandCycle, AddressCycle, InputCycle, OutputCycle}
use Rattle.onfi_cycle.specs.Sequence.{begins_anew, input_column}

-- what a cycle after a tail makes of the bytes given so far: what begins a tail anew leaves those that the program began with, an input puts its byte at its column
abbrev pub filled_after : (begun : List ℕ) → TargetCycle → TailFacts → List ℕ → List ℕ
filled_after begun (CommandCycle c) t bytes = if begins_anew t (CommandCycle c) then begun else bytes
filled_after begun (AddressCycle byte) t bytes = bytes
filled_after begun (InputCycle byte) t bytes = if t.is_empty then bytes else slice_set bytes (input_column t) byte
filled_after begun OutputCycle t bytes = bytes
