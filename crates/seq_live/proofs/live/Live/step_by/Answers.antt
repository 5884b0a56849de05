use Rattle.std.proofs.Common.{◌≡◌, ◌∙◌, [], List, Option, ap, sym, subst, refl, length, get_or, set, Some, None, true}
use Rattle.std.specs.List.{refill}
use Rattle.nand_geometry.specs.declared.parts.Parts.{Parts}
use Rattle.seq_core.specs.Progress.{Progress}
use Rattle.seq_core.specs.Reply.{ToStep}
use Rattle.seq_core.proofs.Below.{refilled}
use Rattle.seq_core.proofs.Cores.{place_of}
use Rattle.seq_live.specs.Event.{Step}
use Rattle.seq_live.specs.Kept.{LiveView, IsLive, core_at}
use Rattle.seq_live.specs.Calls.{IsLiveEvent, CanAnswer, MayStep, IsNextWord, AreNextBursts, NextBurstsAre, IsReadyNow, ends_with}
use Rattle.seq_live.proofs.Lives.{live_after}
use Rattle.seq_live.proofs.Stepping.{next_there, can_answer, bursts_for, stepped_now}
use Rattle.seq_live.proofs.live.Live.step_by.Goals as goal

pub step_in-answer-requires-clause-can : goal.step_in-answer-requires-clause-can
step_in-answer-requires-clause-can g c =
    let before : LiveView = record { state = c.self.inside.state; slots = c.self.inside.slots.items; holder = c.self.inside.holder; going = c.self.inside.going } in
    let there = next_there before c.args.lun c.args.due.now.place c.self.invariant (subst (λ (x : LiveView). Some c.args.due.now.place ≡ place_of (core_at x []) c.args.lun) (sym c.self.view_is) c.requires.place) (subst (λ (x : LiveView). MayStep x c.args.lun) (sym c.self.view_is) c.requires.may) in
    let can = can_answer before c.args.lun c.args.due.now.place (length c.args.taken.now) c.args.due.now.word there (subst (λ (x : LiveView). IsNextWord x c.args.lun c.args.due.now.word) (sym c.self.view_is) c.requires.next) c.requires.count in
    (can.0, ap (λ (ss : List (Option Progress)). get_or ss c.args.due.now.place None) c.as_mut_slice-slots.ensures.value ∙ can.1, subst (λ (h : Parts). CanAnswer h c.self.inside.state can.0 (length c.args.taken.now)) (sym c.geometry-geometry.ensures) can.2)

pub step_in-answer-requires-clause-bursts : goal.step_in-answer-requires-clause-bursts
step_in-answer-requires-clause-bursts g c =
    let before : LiveView = record { state = c.self.inside.state; slots = c.self.inside.slots.items; holder = c.self.inside.holder; going = c.self.inside.going } in
    let there = next_there before c.args.lun c.args.due.now.place c.self.invariant (subst (λ (x : LiveView). Some c.args.due.now.place ≡ place_of (core_at x []) c.args.lun) (sym c.self.view_is) c.requires.place) (subst (λ (x : LiveView). MayStep x c.args.lun) (sym c.self.view_is) c.requires.may) in
    let bursts = c.args.due.now.bursts.items in
    let here = bursts_for before c.args.lun c.args.due.now.place bursts there (subst (λ (x : LiveView). AreNextBursts x c.args.lun bursts) (sym c.self.view_is) c.requires.bursts) in
    subst (λ (h : Parts). NextBurstsAre h (get_or c.as_mut_slice-slots.result.now c.args.due.now.place None) bursts) (sym c.geometry-geometry.ensures)
    (subst (λ (ss : List (Option Progress)). NextBurstsAre before.state.geometry (get_or ss c.args.due.now.place None) bursts) (sym c.as_mut_slice-slots.ensures.value) here)

pub returns-clause-came : goal.returns-clause-came
returns-clause-came g c =
    let before : LiveView = record { state = c.self.inside.state; slots = c.self.inside.slots.items; holder = c.self.inside.holder; going = c.self.inside.going } in
    let later : LiveView = record { state = c.step_in-answer.new.state; slots = refill (length c.self.inside.slots.items) c.self.inside.slots.items c.step_in-answer.new.slots; holder = c.holder_after-self-inside.result; going = None } in
    let st = c.step_in-answer.ensures in
    let event = stepped_now before later c.args.lun c.args.due.now.word c.args.taken.now c.step_in-answer.result st.0 st.1 c.args.due.now.place c.geometry-geometry.result c.self.invariant
    (subst (λ (x : LiveView). Some c.args.due.now.place ≡ place_of (core_at x []) c.args.lun) (sym c.self.view_is) c.requires.place)
    (subst (λ (x : LiveView). MayStep x c.args.lun) (sym c.self.view_is) c.requires.may)
    (subst (λ (x : LiveView). IsNextWord x c.args.lun c.args.due.now.word) (sym c.self.view_is) c.requires.next)
    (subst (λ (x : LiveView). ends_with c.args.due.now.word c.args.taken.now ≡ true → IsReadyNow x.state c.args.lun) (sym c.self.view_is) c.requires.truth)
    c.geometry-geometry.ensures
    (ap (λ (ss : List (Option Progress)). get_or ss c.args.due.now.place None) (sym c.as_mut_slice-slots.ensures.value) ∙ st.2) st.3
    (refilled (length c.self.inside.slots.items) c.self.inside.slots.items c.step_in-answer.new.slots (c.step_in-answer.auto.slots ∙ ap length c.as_mut_slice-slots.ensures.value) refl ∙ (st.4 ∙ ap (λ (ss : List (Option Progress)). set ss c.args.due.now.place (Some st.1)) c.as_mut_slice-slots.ensures.value))
    c.holder_after-self-inside.ensures in
    subst (λ (x : LiveView). IsLiveEvent x (Step c.args.lun c.args.taken.now) (ToStep c.step_in-answer.result) later) c.self.view_is event

pub invariant_of-self : goal.invariant_of-self
invariant_of-self g c = live_after c.args.self.now _ _ _ (subst IsLive c.self.view_is c.self.invariant) (returns-clause-came g c)
