use Rattle.onfiseq_live_c.proofs.Finished.{live_begun}
use Rattle.onfiseq_live_c.proofs.live.onfiseq_live_begin_sized.Goals as goal

pub returns-then-code-eq0-clause-live : goal.returns-then-code-eq0-clause-live
returns-then-code-eq0-clause-live c begun =
    let done = c.begin-code.ensures in
    live_begun c.begin-code.new.bus c.hand_over.new.self c.hand_over.ensures.magic c.hand_over.ensures.bus (done.some begun) (done.sound begun)
