use Rattle.std.proofs.Common.{◌<◌, subst}
use Rattle.crossbeam_queue.specs.Passes.{view}
use Rattle.job_queue.specs.Holding.{jobs_of, hosts_of, IsBeginning}
use Rattle.job_queue.proofs.Moves.{merges_as, taken_in_is, learns_as, begins_with}
use Rattle.job_queue.proofs.queue.close.take_in.Goals as goal

pub absorb-requires-clause-rule : goal.absorb-requires-clause-rule
absorb-requires-clause-rule g c = merges_as _ _ _ _ _ _ c.requires.taker.1 c.host_pass.invariant.now

pub learn_as-requires-clause-rule : goal.learn_as-requires-clause-rule
learn_as-requires-clause-rule g c =
    let is = taken_in_is _ _ _ _ _ c.requires.taker.1 c.host_pass.invariant.now c.absorb.ensures.rule in
    learns_as _ _ _ _ _ _ is

pub returns-clause-begins : goal.returns-clause-begins
returns-clause-begins g c =
    let is = taken_in_is _ _ _ _ _ c.requires.taker.1 c.host_pass.invariant.now c.absorb.ensures.rule in
    let begins = begins_with _ _ _ _ _ is c.learn_as.ensures.rule in
    subst (λ p. IsBeginning p.host p.stored (jobs_of (view c.args.taker.now))) c.host_pass.view_is begins.1

pub returns-clause-host : goal.returns-clause-host
returns-clause-host g c =
    let is = taken_in_is _ _ _ _ _ c.requires.taker.1 c.host_pass.invariant.now c.absorb.ensures.rule in
    let begins = begins_with _ _ _ _ _ is c.learn_as.ensures.rule in
    subst (λ p. p.host < hosts_of (view c.args.taker.now)) c.host_pass.view_is begins.0
