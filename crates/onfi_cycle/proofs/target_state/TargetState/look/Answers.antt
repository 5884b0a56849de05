use Rattle.std.proofs.Common.{Some, ◌≡◌, ◌∙◌, sym, ap}
use Rattle.std.specs.List.{slice_get}
use Rattle.std.specs.Option.{option_copied}
use Rattle.onfi_cycle.specs.State.{TargetView}
use Rattle.onfi_cycle.proofs.Following.{lun_fits_at}
use Rattle.onfi_cycle.proofs.target_state.TargetState.look.Goals as goal

found : (c : goal.In-Some) → slice_get c.args.self.now.luns c.args.number ≡ Some c.in-Some.found.now
found c = ap (λ vs. slice_get vs c.args.number) (sym (c.as_slice.ensures.value ∙ ap (λ (s : TargetView). s.luns) c.self.view_is)) ∙ (sym c.lun_at.ensures ∙ ap option_copied c.in-Some.is)

pub of-requires-clause-given : goal.of-requires-clause-given
of-requires-clause-given c = (lun_fits_at _ _ _ _ c.args.number c.in-Some.found.now c.requires.luns (found c)).given

pub of-requires-clause-outputs : goal.of-requires-clause-outputs
of-requires-clause-outputs c = (lun_fits_at _ _ _ _ c.args.number c.in-Some.found.now c.requires.luns (found c)).outputs
