use Rattle.std.proofs.Common.{◌≡◌, Ok, sym, ap, subst, true, ◌∙◌}
use Rattle.onfi_cycle.specs.declared.lun.Lun.{Lun}
use Rattle.seq_core.specs.Progress.{status_of, outcome_of}
use Rattle.seq_core.specs.Calls.{holder_after}
use Rattle.bus_record.specs.Bus.{IsSound, bus_view}
use Rattle.bus_record.specs.Channel.{IsSameChannel}
use Rattle.bus_record.specs.Kept.{Kept}
use Rattle.bus_record.specs.Trial.{tried_view}
use Rattle.onfiseq_live_c.specs.Job.{job_view, job_behind, lun_in}
use Rattle.onfiseq_live_c.specs.Live.{state_of, are_whole}
use Rattle.onfiseq_live_c.specs.Due.{due}
use Rattle.onfiseq_live_c.specs.Finish.{with_readies, played, step, answer_letter, code_number}
use Rattle.onfiseq_live_c.proofs.Finished.{finishes, whole_after, same_lun_after}
use Rattle.onfiseq_live_c.proofs.finish.onfiseq_job_finish.Goals as goal

pub returns : goal.returns
returns c =
    let v = c.args.live.now in
    let j = c.args.job.now in
    let word = c.in-Ok.word in
    let shown : tried_view v.bus j.ce c.show.new.kept ≡ with_readies (lun_in j) word c.args.taken.now (state_of v) =
    subst (λ (l : Lun). tried_view v.bus l.ce c.show.new.kept ≡ with_readies l word c.args.taken.now (tried_view v.bus l.ce c.target_at-kept.result)) c.on.ensures c.show.ensures.value
    ∙ ap (with_readies (lun_in j) word c.args.taken.now) c.target_at-kept.ensures.state in
    let bus_is : c.hand_over.new.self.bus ≡ c.put_target.new.bus = c.hand_over.ensures.bus in
    let count : c.hand_over.new.self.bus.count ≡ v.bus.count = ap (λ (k : Kept). k.count) bus_is ∙ c.put_target.ensures.count in
    let same : IsSameChannel (state_of v) (state_of c.hand_over.new.self) = subst (λ (k : Kept). IsSameChannel (state_of v) (bus_view k)) (sym bus_is) c.put_target.ensures.same in
    let status = c.status_of-status.ensures in
    let answer_is = c.outcome_of-answer.ensures ∙ ap (outcome_of word) status in
    let job = c.go_on.ensures.value ∙ ap (job_behind (job_view j) word) status in
    let is_due = ap (λ h. due h (job_view j) c.args.file.now) (sym c.holder.ensures) ∙ (sym c.due.ensures.value ∙ c.in-Ok.is) in
    let plays : played (job_view j) word (with_readies (lun_in j) word c.args.taken.now (state_of v)) ≡ Ok (tried_view v.bus j.ce c.play.new.kept) =
    ap (played (job_view j) word) (sym shown) ∙ c.in_default.ensures.none in
    let holder = c.hand_over.ensures.holder ∙ (c.holder_after.ensures ∙ (ap (λ a. holder_after a c.on-2.result) answer_is
    ∙ ap (holder_after (outcome_of word (status_of word c.args.taken.now))) c.on-2.ensures)) in
    let answered = c.of.ensures ∙ (ap (λ a. step (answer_letter a) (code_number c.ended.result)) answer_is
    ∙ ap (λ o. step (answer_letter (outcome_of word (status_of word c.args.taken.now))) (code_number o)) c.ended.ensures) in
    let whole : are_whole v j ≡ true = sym c.has_job.ensures.value ∙ c.if-not-has_job.false in
    finishes v c.hand_over.new.self j c.go_on.new.self c.args.file.now c.args.taken.now word (tried_view v.bus j.ce c.play.new.kept) c.of.result
    whole is_due (c.if-taken-taken_by.false ∙ c.taken_by.ensures) plays (ap bus_view bus_is ∙ c.put_target.ensures.state) holder job answered
    (whole_after v c.hand_over.new.self j c.go_on.new.self whole c.hand_over.ensures.magic count (subst IsSound (sym bus_is) c.put_target.ensures.sound) same c.go_on.ensures.whole.0 c.go_on.ensures.whole.1
    (same_lun_after j c.go_on.new.self word (status_of word c.args.taken.now) job))
