use Rattle.std.proofs.Common.{◌≡◌, ◌∙◌, ◌++◌, ℕ, List, Option, None, sym, ap, subst, length, get_or, set, take, drop}
use Rattle.std.proofs.Math.ListN.{length-set}
use Rattle.micro_program.specs.Program.{Job}
use Rattle.job_queue.specs.declared.rule.QueuedJob.{QueuedJob}
use Rattle.seq_core.proofs.Below.{refilled}
use Rattle.channel_work.specs.declared.backlog.Front.{Front}
use Rattle.channel_work.specs.Rows.{somes}
use Rattle.channel_work.specs.Backlog.{BacklogView, IsBacklog}
use Rattle.channel_work.specs.Starting.{MayStart, MayStartAt, Leaves, WereTriedBelow, NoneMayStart}
use Rattle.channel_work.proofs.Waiting.{emptied}
use Rattle.channel_work.proofs.Picking.{picked, none_picked}
use Rattle.channel_work.proofs.backlog.Backlog.pick.Goals as goal

pub invariant_of-self-in-GivenAt : goal.invariant_of-self-in-GivenAt
invariant_of-self-in-GivenAt c =
    let P : List (Option (QueuedJob Job)) = c.self.inside.places.items in
    let F : List Front = c.self.inside.fronts.items in
    let Q : List (Option (QueuedJob Job)) = c.take_at.new.places in
    let G : List Front = c.try_oldest-tried.new.fronts in
    let places_is : Q ≡ set P c.in-GivenAt.place None = c.take_at.ensures.places ∙ ap (λ (ps : List (Option (QueuedJob Job))). set ps c.in-GivenAt.place None) c.as_mut_slice-in-GivenAt.ensures.value in
    let places_size : length Q ≡ c.self.inside.places.len = ap length places_is ∙ (length-set P c.in-GivenAt.place None ∙ sym c.self.inside.places.ok.0) in
    let fronts_size : length G ≡ c.self.inside.fronts.len = c.try_oldest-tried.auto.fronts ∙ (ap length c.as_mut_slice.ensures.value ∙ sym c.self.inside.fronts.ok.0) in
    let kept : IsBacklog (set P c.in-GivenAt.place None) G = emptied P G c.in-GivenAt.place (subst (λ (ps : List (Option (QueuedJob Job))). IsBacklog ps G) c.as_slice.ensures.value c.in-GivenAt.ensures.backlog) in
    subst (λ (ps : List (Option (QueuedJob Job))). IsBacklog ps (take c.self.inside.fronts.len (G ++ drop (length G) F))) (sym (refilled c.self.inside.places.len P Q places_size c.self.inside.places.ok.0 ∙ places_is))
    (subst (λ (fs : List Front). IsBacklog (set P c.in-GivenAt.place None) fs) (sym (refilled c.self.inside.fronts.len F G fronts_size c.self.inside.fronts.ok.0)) kept)

pub returns-in-NoneGiven : goal.returns-in-NoneGiven
returns-in-NoneGiven c =
    let P : List (Option (QueuedJob Job)) = c.self.inside.places.items in
    let items : somes P ≡ c.args.self.now.items = ap (λ (v : BacklogView). v.items) c.self.view_is in
    let told = c.in-NoneGiven.ensures.tried in (
      subst (λ (xs : List (QueuedJob Job)). NoneMayStart c.args.core.now xs c.args.seat c.in-NoneGiven.back) items
          (none_picked c.args.core.now P c.args.seat c.in-NoneGiven.back
          (told.0, subst (λ (ps : List (Option (QueuedJob Job))). WereTriedBelow c.args.core.now ps (length ps) c.args.seat.calls c.in-NoneGiven.back.calls) c.as_slice.ensures.value told.1)),
      items,
    )

pub returns-in-Some : goal.returns-in-Some
returns-in-Some c =
    let P : List (Option (QueuedJob Job)) = c.self.inside.places.items in
    let Q : List (Option (QueuedJob Job)) = c.take_at.new.places in
    let n = c.in-GivenAt.place in
    let q : QueuedJob Job = c.in-Some.queued in
    let at : c.as_mut_slice-in-GivenAt.result.now ≡ P = c.as_mut_slice-in-GivenAt.ensures.value in
    let places_is : Q ≡ set P n None = c.take_at.ensures.places ∙ ap (λ (ps : List (Option (QueuedJob Job))). set ps n None) at in
    let places_size : length Q ≡ c.self.inside.places.len = ap length places_is ∙ (length-set P n None ∙ sym c.self.inside.places.ok.0) in
    let told = c.in-GivenAt.ensures.tried in
    let one = picked c.args.core.now P c.args.seat n told.0 q c.in-GivenAt.lease (subst (λ (ps : List (Option (QueuedJob Job))). MayStartAt c.args.core.now ps c.args.seat n told.0 c.in-GivenAt.lease) c.as_slice.ensures.value told.1)
    (c.in-Some.ensures.value ∙ ap (λ (ps : List (Option (QueuedJob Job))). get_or ps n None) at) in
    subst (λ (ps : List (Option (QueuedJob Job))). (k : ℕ) × MayStart c.args.core.now c.args.self.now.items c.args.seat k q c.in-GivenAt.lease × Leaves c.args.self.now.items q (somes ps)) (sym (refilled c.self.inside.places.len P Q places_size c.self.inside.places.ok.0 ∙ places_is))
    (subst (λ (v : BacklogView). (k : ℕ) × MayStart c.args.core.now v.items c.args.seat k q c.in-GivenAt.lease × Leaves v.items q (somes (set P n None))) c.self.view_is one)
