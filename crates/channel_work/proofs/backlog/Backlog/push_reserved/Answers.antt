use Rattle.std.proofs.Common.{◌≡◌, ◌∙◌, ◌∷◌, ◌++◌, [], List, Option, Some, true, sym, ap, subst}
use Rattle.onfi_cycle.specs.declared.lun.Lun.{Lun}
use Rattle.micro_program.specs.Program.{Job}
use Rattle.job_queue.specs.declared.rule.QueuedJob.{QueuedJob}
use Rattle.channel_work.specs.declared.backlog.Front.{Front}
use Rattle.channel_work.specs.Rows.{somes}
use Rattle.channel_work.specs.Backlog.{BacklogView, IsBacklog, has_front}
use Rattle.channel_work.proofs.Places.{somes_push}
use Rattle.channel_work.proofs.Waiting.{pushed, pushed_opened}
use Rattle.channel_work.proofs.backlog.Backlog.push_reserved.Goals.{then-not-has_front, else-not-has_front}
use Rattle.channel_work.proofs.backlog.Backlog.push_reserved.Goals as goal

pub invariant_of-self : goal.invariant_of-self
invariant_of-self c =
    let P : List (Option (QueuedJob Job)) = c.self.inside.places.items in
    let F : List Front = c.self.inside.fronts.items in
    let q : QueuedJob Job = c.args.queued in
    let told : c.has_front.result ≡ has_front F c.lun-lun.result = c.has_front.ensures ∙ ap (λ (fs : List Front). has_front fs c.lun-lun.result) c.as_slice.ensures.value in
    let items = c.push_reserved-2.ensures.items in
    elim c.if-not-has_front.branch [
      | then-not-has_front w ↦
          let f : Front = record { lun = c.lun-lun.result; place = w.len.result } in
          let e = w.self-inside-is in
          subst (λ (ps : List (Option (QueuedJob Job))). IsBacklog ps c.if-not-has_front.self-inside.fronts.items) (sym items)
          (rw (e, w.push_reserved.ensures.items) (pushed_opened P F f q c.self.invariant (sym told ∙ w.if-not-has_front.true) (w.len.ensures ∙ c.self.inside.places.ok.0) c.lun-lun.ensures.value))
      | else-not-has_front w ↦
          let e = w.self-inside-is in
          subst (λ (ps : List (Option (QueuedJob Job))). IsBacklog ps c.if-not-has_front.self-inside.fronts.items) (sym items)
          (rw e (pushed P F q c.self.invariant (subst (λ (l : Lun). has_front F l ≡ true) c.lun-lun.ensures.value (sym told ∙ w.if-not-has_front.false))))
    ]

pub returns : goal.returns
returns c =
    let P : List (Option (QueuedJob Job)) = c.self.inside.places.items in
    let q : QueuedJob Job = c.args.queued in
    let done : somes (P ++ (Some q ∷ [])) ≡ c.args.self.now.items ++ (q ∷ []) = somes_push P q ∙ ap (λ (v : BacklogView). v.items ++ (q ∷ [])) c.self.view_is in
    ap somes c.push_reserved-2.ensures.items ∙
    elim c.if-not-has_front.branch [
      | then-not-has_front w ↦ let e = w.self-inside-is in rw e done
      | else-not-has_front w ↦ let e = w.self-inside-is in rw e done
    ]
