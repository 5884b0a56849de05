use Rattle.std.proofs.Common.{◌≡◌, Some, sym, ap, ◌∙◌}
use Rattle.std.specs.List.{slice_get}
use Rattle.std.specs.Option.{option_copied}
use Rattle.onfi_cycle.specs.State.{BusView}
use Rattle.onfi_cycle.proofs.Following.{target_not_missing}
use Rattle.onfi_cycle.proofs.Working.{tail_there}
use Rattle.onfi_cycle.proofs.bus_state.BusState.tail.Goals as goal

pub returns-in-None : goal.returns-in-None
returns-in-None c = record {
  past = λ g n past f here. absurd (target_not_missing g n c.args.self.now past c.args.ce f here
      (ap (λ ts. slice_get ts c.args.ce) (sym (c.as_slice.ensures.value ∙ ap (λ (s : BusView). s.targets) c.self.view_is)) ∙ (sym c.target_at.ensures ∙ ap option_copied c.in-None.is)));
}

found : (c : goal.After-tail) → slice_get c.args.self.now.targets c.args.ce ≡ Some c.in-Some.target.now
found c = ap (λ ts. slice_get ts c.args.ce) (sym (c.as_slice.ensures.value ∙ ap (λ (s : BusView). s.targets) c.self.view_is)) ∙ (sym c.target_at.ensures ∙ ap option_copied c.in-Some.is)

pub returns-in-Some : goal.returns-in-Some
returns-in-Some c = record {
  past = λ g n past f here.
      ap Some (c.tail.ensures ∙ tail_there g n c.args.self.now past c.args.ce c.in-Some.target.now f here (found c));
}
