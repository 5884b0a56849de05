use Rattle.std.proofs.Common.{◌*◌, ◌+◌, ◌<◌, ℕ, ◌∷◌, sym, ap, subst, ◌∙◌, length}
use Rattle.nand_geometry.specs.declared.parts.Parts.{Parts}
use Rattle.onfi_cycle.specs.declared.lun.Lun.{Lun}
use Rattle.onfi_cycle.specs.declared.item.Item.{Item}
use Rattle.onfi_cycle.specs.declared.item.Item.TheVariants.{Rdy, Ard}
use Rattle.onfi_cycle.specs.Permitted.{broken}
use Rattle.target_bus.specs.Bus.{channel_on, StandFor}
use Rattle.target_bus.proofs.Standing.{ready_there, stands_ready, array_ready_there, stands_array_ready, die_there}
use Rattle.target_bus.proofs.working.end_work.Goals as goal

pub finish_in-requires : goal.finish_in-requires
finish_in-requires g c =
    let state = c.args.state.now in
    let can = c.requires.permitted in
    let l : Lun = record { ce = c.in-Rdy.ce; lun = c.in-Rdy.lun } in
    let luns = ap (λ (g : Parts). g.luns) (c.parts-luns.ensures.value ∙ c.geometry.ensures) in
    let there = ready_there state.geometry (length state.targets) can.past l c.in-Rdy.fail (ap (broken state.geometry (length state.targets) can.past) (sym c.in-Rdy.is) ∙ can.permitted) in
    record {
      inside =
          subst (λ (n : ℕ). n < length c.args.dies.now) (sym (c.place.ensures ∙ ap (λ (n : ℕ). l.ce * n + l.lun) luns))
          (die_there state can.opened c.args.dies.now can.past l can.standing there.target there.lun);
    }

pub finish_array_in-requires : goal.finish_array_in-requires
finish_array_in-requires g c =
    let state = c.args.state.now in
    let can = c.requires.permitted in
    let l : Lun = record { ce = c.in-Ard.ce; lun = c.in-Ard.lun } in
    let luns = ap (λ (g : Parts). g.luns) (c.parts-luns.ensures.value ∙ c.geometry.ensures) in
    let there = array_ready_there state.geometry (length state.targets) can.past l c.in-Ard.fail (ap (broken state.geometry (length state.targets) can.past) (sym c.in-Ard.is) ∙ can.permitted) in
    record {
      inside =
          subst (λ (n : ℕ). n < length c.args.dies.now) (sym (c.place-in-Ard.ensures ∙ ap (λ (n : ℕ). l.ce * n + l.lun) luns))
          (die_there state can.opened c.args.dies.now can.past l can.standing there.target there.lun);
    }

pub returns-in-Rdy : goal.returns-in-Rdy
returns-in-Rdy g c = λ opened past f h.
    let state = c.args.state.now in
    let l : Lun = record { ce = c.in-Rdy.ce; lun = c.in-Rdy.lun } in
    let luns = ap (λ (g : Parts). g.luns) (c.parts-luns.ensures.value ∙ c.geometry.ensures) in
    let done = c.finish_in.ensures in
    subst (λ (i : Item). StandFor (channel_on state.geometry (length state.targets) opened) (i ∷ past) c.finish_in.new.dies) (sym c.in-Rdy.is)
    (subst (StandFor (channel_on state.geometry (length state.targets) opened) (Rdy l.ce l.lun c.in-Rdy.fail ∷ past)) (sym done.4)
    (stands_ready state opened c.args.dies.now past l c.in-Rdy.fail _ done.0 done.1 f (ap (broken state.geometry (length state.targets) past) (sym c.in-Rdy.is) ∙ h)
    (c.facts_fit.ensures.past state.geometry (length state.targets) past f.follows) (c.place.ensures ∙ ap (λ (n : ℕ). l.ce * n + l.lun) luns) done.2 done.3))

pub returns-in-Ard : goal.returns-in-Ard
returns-in-Ard g c = λ opened past f h.
    let state = c.args.state.now in
    let l : Lun = record { ce = c.in-Ard.ce; lun = c.in-Ard.lun } in
    let luns = ap (λ (g : Parts). g.luns) (c.parts-luns.ensures.value ∙ c.geometry.ensures) in
    let done = c.finish_array_in.ensures in
    subst (λ (i : Item). StandFor (channel_on state.geometry (length state.targets) opened) (i ∷ past) c.finish_array_in.new.dies) (sym c.in-Ard.is)
    (subst (StandFor (channel_on state.geometry (length state.targets) opened) (Ard l.ce l.lun c.in-Ard.fail ∷ past)) (sym done.4)
    (stands_array_ready state opened c.args.dies.now past l c.in-Ard.fail _ done.0 done.1 f (ap (broken state.geometry (length state.targets) past) (sym c.in-Ard.is) ∙ h)
    (c.facts_fit.ensures.past state.geometry (length state.targets) past f.follows) (c.place-in-Ard.ensures ∙ ap (λ (n : ℕ). l.ce * n + l.lun) luns) done.2 done.3))
