-- The laws of the crates below, as the proofs here cite them. No other file here names a proof of another crate.
use Rattle.onfi_cycle.specs.Steps.{FactsGoOn, ReadiesChange, ServiceBegins}
use Rattle.onfi_cycle.proofs.Keeping.{facts_go_on, readies_change, service_begins}
pub use Rattle.onfi_cycle.proofs.Keeping.{view_at}
pub use Rattle.onfi_cycle.proofs.Following.{refilled}
use Rattle.micro_program.specs.Laws.{AnsweredStepsGoWell, FineStepsGoWell, ModelsAreTruthful, OwnCyclesPassOthers, UnreadyIsBusy}
use Rattle.micro_program.proofs.Waiting.{unready_is_busy, models_are_truthful}
use Rattle.micro_program.proofs.Strides.{fine_step, answered_goes_well}
use Rattle.micro_program.proofs.Passing.{own_cycles_pass_others}
use Rattle.micro_program.specs.Actions.{WalkGivesActs}
use Rattle.micro_program.proofs.Acts.{walk_gives_acts}
use Rattle.micro_program.specs.Moves.{BufferKeepsLength, CostsCountMoves}
use Rattle.micro_program.proofs.Costs.{buffer_len, cost_is}
pub use Rattle.micro_program.proofs.Tracking.{StepParts, step_parts, AnsweredParts, answered_parts}
pub use Rattle.micro_program.proofs.Strides.{model_step}
pub use Rattle.micro_program.proofs.Basics.{there_lun}

pub facts : FactsGoOn
facts = facts_go_on

pub readies_leave : ReadiesChange
readies_leave = readies_change

pub service : ServiceBegins
service = service_begins

pub fine_steps : FineStepsGoWell
fine_steps = fine_step

pub models_truthful : ModelsAreTruthful
models_truthful = models_are_truthful

pub answered_steps : AnsweredStepsGoWell
answered_steps = answered_goes_well

pub own_cycles_pass : OwnCyclesPassOthers
own_cycles_pass = own_cycles_pass_others

pub walk_gives : WalkGivesActs
walk_gives = walk_gives_acts

pub keeps_length : BufferKeepsLength
keeps_length = buffer_len

pub costs_count : CostsCountMoves
costs_count = cost_is

pub unready_busy : UnreadyIsBusy
unready_busy = unready_is_busy
