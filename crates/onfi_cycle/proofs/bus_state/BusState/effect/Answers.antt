use Rattle.std.proofs.Common.{◌≡◌, sym, ap, ◌∙◌, arith}
use Rattle.std.proofs.lemmas.Bool.Decides.{nat_tests}
use Rattle.std.specs.List.{slice_get}
use Rattle.std.specs.Option.{option_copied}
use Rattle.onfi_cycle.specs.State.{BusView, effect_alone, has_driver}
use Rattle.onfi_cycle.specs.Sequence.{target_of}
use Rattle.onfi_cycle.proofs.Following.{effect_elsewhere, target_not_missing, effect_there}
use Rattle.onfi_cycle.proofs.bus_state.BusState.effect.Goals as goal

pub returns-then-target-lun : goal.returns-then-target-lun
returns-then-target-lun c = record { past = λ g n past f here low. effect_elsewhere g past c.args.item c.args.lun (grind (arith, nat_tests)) }

pub returns-in-None : goal.returns-in-None
returns-in-None c = record {
  past = λ g n past f here low. absurd (target_not_missing g n c.args.self.now past c.args.lun.ce f here
      (ap (λ ts. slice_get ts c.args.lun.ce) (sym (c.as_slice.ensures.value ∙ ap (λ (s : BusView). s.targets) c.self.view_is)) ∙ (sym c.target_at.ensures ∙ ap option_copied c.in-None.is)));
}

pub returns-in-Some : goal.returns-in-Some
returns-in-Some c = record {
  past = λ g n past f here low.
      let found = ap (λ ts. slice_get ts c.args.lun.ce) (sym (c.as_slice.ensures.value ∙ ap (λ (s : BusView). s.targets) c.self.view_is)) ∙ (sym c.target_at.ensures ∙ ap option_copied c.in-Some.is) in
      let on : target_of c.args.item ≡ c.args.lun.ce = grind (arith, nat_tests) in
      effect_there g n c.args.self.now past c.args.item c.args.lun c.in-Some.target.now c.effect.result f here low on found
      (λ v at. c.effect.ensures v at ∙ ap (λ h. effect_alone h c.in-Some.target.now.tail (has_driver c.in-Some.target.now.luns) c.args.item c.args.lun.lun v) (ap (λ (s : BusView). s.geometry) c.self.view_is));
}
