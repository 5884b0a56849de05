-- The counter of a refused word: the trace up to its first cycle that isn't permitted, made by computing.
use Rattle.std.specs.Prelude.{◌≡◌, Bool, true, false, [], ◌∷◌, ◌++◌, Some, None, length, slice_get}
use Rattle.nand_geometry.specs.declared.parts.Parts.{Parts}
use Rattle.nand_geometry.specs.Page.{parameter_bytes}
use Rattle.micro_word.specs.declared.format.Format.{Format}
use Rattle.micro_word.specs.Text.{Microprogram}
use Rattle.micro_claims.specs.declared.refusal.Fault.{Fault}
use Rattle.micro_claims.specs.declared.refusal.Reason.TheVariants.{CycleForbidden}
use Rattle.micro_walk.specs.Faults.{fault_of}
use Rattle.onfi_cycle.specs.declared.forbidden.Forbidden.{Forbidden}
use Rattle.onfi_cycle.specs.Permitted.{IsFirstBroken}
use Rattle.onfi_cycle.specs.Channel.{Channel}
use Rattle.micro_word.specs.declared.word.Word.{Word}
use Rattle.micro_program.specs.Program.{Job}
use Rattle.micro_program.specs.Moves.{is_wait}
use Rattle.micro_verify.specs.Lazy.{lone_channel, Run, lazy, Counter, counter_at}
use Rattle.micro_verify.specs.Cause.{WordStops, is_of_cycle_forbidden, lacks_bytes, IsStraight}
use Rattle.micro_verify.specs.Calm.{counter_of}

-- there is a counter, and its last item is the first one that breaks a rule, which is of this sort
pub record CounterIsThere (s : Channel) (j : Job) (r : Run) (word : Word) (sort : Forbidden → Bool) : Type 0 where
  pub counter : Counter
  pub made : counter_at s j r word ≡ Some counter
  pub rule : Forbidden
  pub breaks : IsFirstBroken s.geometry s.targets (counter.items ++ (counter.cycle ∷ [])) (length counter.items) rule
  pub sorted : sort rule ≡ true

-- the law: where the cycles of a word stop, its counter shows where
abbrev pub CountersAreThere : Type 0
CountersAreThere =
    (s : Channel) (j : Job) (r : Run) (word : Word) (sort : Forbidden → Bool) → is_wait word ≡ false → WordStops s j r word sort → CounterIsThere s j r word sort

-- its run is legal on one target, and its cycle breaks a rule of V7 then
pub record IsBrokenLast (g : Parts) (c : Counter) : Type 0 where
  pub rule : Forbidden
  pub breaks : IsFirstBroken g 1 (c.items ++ (c.cycle ∷ [])) (length c.items) rule
  pub of_cycle_forbidden : is_of_cycle_forbidden rule ≡ true

-- the word of a V7, the lazy run up to it, and its counter: there where the bytes of the word are, and nowhere else
pub record ShowsRun (g : Parts) (text : Microprogram) (fault : Fault) : Type 0 where
  pub word : Word
  pub there : slice_get text.words fault.word ≡ Some word
  pub run : Run
  pub is_run : lazy (lone_channel g (parameter_bytes g)) text fault.word ≡ Some run
  pub none : lacks_bytes g text run word ≡ true → counter_of g text fault ≡ None
  pub some : lacks_bytes g text run word ≡ false → (c : Counter) × (counter_of g text fault ≡ Some c) × IsBrokenLast g c

-- the law: a straight text for one LUN that is refused by V7 shows its run
abbrev pub RefusalsShowRuns : Type 0
RefusalsShowRuns =
    (g : Parts) (text : Microprogram) (format : Format) (fault : Fault) → IsStraight g text format → fault_of g text ≡ Some fault → fault.reason ≡ CycleForbidden → ShowsRun g text fault
