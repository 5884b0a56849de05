-- The counter of a text: the lazy run of the words before, as long as each cycle is permitted, and the first cycle that isn't.
use Rattle.std.specs.Prelude.{◌==◌, ◌&&◌, Bool, true, false, if◌then◌else◌, nat_le, ℕ, List, [], ◌∷◌, Option, Some, None, is_none, slice_get, take}
use Rattle.nand_geometry.specs.declared.parts.Parts.{Parts}
use Rattle.nand_geometry.specs.Limits.{indices}
use Rattle.nand_geometry.specs.Page.{parameter_bytes}
use Rattle.onfi_cycle.specs.Channel.{Channel}
use Rattle.micro_word.specs.declared.word.Word.{Word}
use Rattle.micro_word.specs.Text.{Microprogram}
use Rattle.micro_claims.specs.declared.refusal.Fault.{Fault}
use Rattle.micro_claims.specs.declared.refusal.Reason.{Reason}
use Rattle.micro_claims.specs.declared.refusal.Reason.TheVariants.{CycleForbidden}
use Rattle.micro_program.specs.Lines.{all_lead_on}
use Rattle.micro_program.specs.Program.{Job}
use Rattle.micro_program.specs.Moves.{and_then}
use Rattle.micro_verify.specs.Lazy.{lone_channel, lone_job, Run, new_run, run_word, Counter, counter_at}
use Rattle.micro_verify.specs.Cause.{lacks_bytes}

-- the run with a word more, where each of its cycles is permitted
abbrev pub calm_word : Channel → Job → Word → Run → Option Run
calm_word s j word r = if is_none (counter_at s j r word) then run_word s j word r else None

abbrev pub calm_words : Channel → Job → List Word → Run → Option Run
calm_words s j [] r = Some r
calm_words s j (word ∷ words) r = and_then (calm_word s j word r) (calm_words s j words)

-- the counter of a word after a run; none where its bytes may not be there
abbrev pub counter_after : Channel → Job → Run → Word → Option Counter
counter_after s j r word = if lacks_bytes s.geometry j.text r word then None else counter_at s j r word

-- the counter of a text at a word
abbrev pub counter_before : Channel → Microprogram → ℕ → Option Counter
counter_before s text at =
    and_then (slice_get text.words at) (λ word.
    and_then (calm_words s (lone_job s.geometry text) (take at text.words) new_run) (λ r. counter_after s (lone_job s.geometry text) r word))

abbrev pub is_cycle_forbidden : Reason → Bool
is_cycle_forbidden CycleForbidden = true
is_cycle_forbidden _ = false

-- a fault that may carry a counter: V7 of a straight text for one LUN, whose rows there are
abbrev pub may_show : Parts → Microprogram → Fault → Bool
may_show g text fault = is_cycle_forbidden fault.reason && (g.luns == 1 && (all_lead_on text.words && nat_le text.rows (indices g)))

-- the counter of a text with this fault
abbrev pub counter_of : Parts → Microprogram → Fault → Option Counter
counter_of g text fault = if may_show g text fault then counter_before (lone_channel g (parameter_bytes g)) text fault.word else None
