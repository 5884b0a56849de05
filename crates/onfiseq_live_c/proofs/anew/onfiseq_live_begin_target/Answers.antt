use Rattle.std.proofs.Common.{◌≡◌, true, sym, ap, subst, ◌∙◌}
use Rattle.bus_record.specs.Bus.{IsSound}
use Rattle.bus_record.specs.Kept.{Kept}
use Rattle.onfiseq_live_c.specs.Live.{is_live}
use Rattle.onfiseq_live_c.proofs.Finished.{live_after}
use Rattle.onfiseq_live_c.proofs.anew.onfiseq_live_begin_target.Goals as goal

pub returns-then-answer-eq0-clause-live : goal.returns-then-answer-eq0-clause-live
returns-then-answer-eq0-clause-live c =
    let live : is_live c.args.live.now ≡ true = sym c.is_live.ensures.value ∙ c.if-not-is_live.false in
    let bus_is = c.hand_over.ensures.bus in
    live_after c.args.live.now c.hand_over.new.self c.hand_over.ensures.magic (ap (λ (k : Kept). k.count) bus_is ∙ c.begin_target-answer.ensures.others.count)
    (subst IsSound (sym bus_is) c.begin_target-answer.ensures.sound) live
    ∙ sym live
