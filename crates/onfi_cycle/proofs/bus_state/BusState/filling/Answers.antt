use Rattle.std.proofs.Common.{◌≡◌, Some, sym, ap, ◌∙◌}
use Rattle.std.specs.List.{slice_get}
use Rattle.std.specs.Option.{option_copied}
use Rattle.nand_geometry.specs.declared.parts.Parts.{Parts}
use Rattle.onfi_cycle.specs.State.{BusView}
use Rattle.onfi_cycle.specs.Filling.{filling, held_by}
use Rattle.onfi_cycle.proofs.Following.{target_not_missing}
use Rattle.onfi_cycle.proofs.Working.{filling_there}
use Rattle.onfi_cycle.proofs.bus_state.BusState.filling.Goals as goal

pub returns-in-None : goal.returns-in-None
returns-in-None c = record {
  past = λ g n past f here low. absurd (target_not_missing g n c.args.self.now past c.args.lun.ce f here
      (ap (λ ts. slice_get ts c.args.lun.ce) (sym (c.as_slice.ensures.value ∙ ap (λ (s : BusView). s.targets) c.self.view_is)) ∙ (sym c.target_at.ensures ∙ ap option_copied c.in-None.is)));
}

found : (c : goal.After-filling) → slice_get c.args.self.now.targets c.args.lun.ce ≡ Some c.in-Some.target.now
found c = ap (λ ts. slice_get ts c.args.lun.ce) (sym (c.as_slice.ensures.value ∙ ap (λ (s : BusView). s.targets) c.self.view_is)) ∙ (sym c.target_at.ensures ∙ ap option_copied c.in-Some.is)

pub returns-in-Some : goal.returns-in-Some
returns-in-Some c = record {
  past = λ g n past f here low.
      c.filling.ensures ∙
      (ap (λ (x : Parts). filling x c.in-Some.target.now.tail c.args.item c.args.lun (held_by (slice_get c.in-Some.target.now.luns c.args.lun.lun))) (ap (λ (s : BusView). s.geometry) c.self.view_is) ∙
      filling_there g n c.args.self.now past c.args.item c.args.lun c.in-Some.target.now f here low (found c));
}
