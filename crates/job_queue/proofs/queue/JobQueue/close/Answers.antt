use Rattle.std.proofs.Common.{◌≡◌, ◌∙◌, refl, length, set, sym, ap, subst, arith}
use Rattle.job_queue.specs.Passes.{owns, Queue, Storing, Taking, Counts}
use Rattle.job_queue.specs.Closed.{HasEachPass}
use Rattle.job_queue.specs.Holding.{IsTaking, jobs_of, hosts_of, IsBeginning}
use Rattle.job_queue.proofs.Closing.{IsMet, none_met, of_last, one_met, all_met}
use Rattle.job_queue.proofs.queue.JobQueue.close.Goals as goal

pub loop-host_pass-init : goal.loop-host_pass-init
loop-host_pass-init g c =
    let t = c.taker.invariant in
    let hosts = ap (λ (x : Taking g.row.J.Denot). x.hosts) c.taker.view_is ∙ c.requires.taker.1 in
    record {
      pass = ((t.0, t.1.empty), subst IsTaking (sym t.1.now) tt);
      jobs = ap jobs_of t.1.now ∙ ap (λ (x : Taking g.row.J.Denot). x.taken) c.taker.view_is;
      hosts = ap hosts_of t.1.now ∙ hosts;
      taken = refl;
      met = none_met _ _ _ _ (t.1.room ∙ hosts);
    }

pub take_in-requires-clause-taker : goal.take_in-requires-clause-taker
take_in-requires-clause-taker g c =
    let i = c.loop-host_pass.invariant in
    ((i.pass.0.0 ∙ sym (ap (λ q. q.table.shared.table_id) c.deref.ensures), i.pass.0.1), i.pass.1)

pub take_in-requires-clause-pass : goal.take_in-requires-clause-pass
take_in-requires-clause-pass g c =
    let met = rw (c.in-Some.ensures.items) at c.loop-host_pass.invariant.met in
    let mine = of_last _ _ _ _ _ _ met (λ p. owns c.args.self p) c.requires.passes in
    mine ∙ sym c.requires.taker.0 ∙ sym (ap (λ (x : Taking g.row.J.Denot). x.table) c.taker.view_is) ∙ c.taker.invariant.0 ∙ sym (ap (λ q. q.table.shared.table_id) c.deref.ensures)

pub index_mut-requires : goal.index_mut-requires
index_mut-requires g c =
    let i = c.loop-host_pass.invariant in
    let host = ap (λ (p : Storing g.row.J.Denot). p.host) c.host_pass.view_is in
    omega (arith, c.take_in.ensures.host, i.hosts, i.met.count, host)

pub loop-host_pass-preserved : goal.loop-host_pass-preserved
loop-host_pass-preserved g c =
    let i = c.loop-host_pass.invariant in
    let e = c.take_in.ensures in
    let all = c.args.passes.items in
    let rest = c.pop.new.self.items in
    let put = c.loop-host_pass.tally.put.items in
    let jobs = c.args.taker.taken in
    let hosts = c.args.self.hosts in
    let host = c.in-Some.host_pass in
    let met = subst (λ l. IsMet all l put jobs hosts) c.in-Some.ensures.items i.met in
    let begins = subst (λ l. IsBeginning host.host host.stored l) i.jobs e.begins in
    let one = one_met all rest host put jobs hosts met (omega (arith, e.host, i.hosts)) begins in
    let inside = subst (λ (p : Storing g.row.J.Denot). IsMet all rest (set put p.host (length p.stored)) jobs hosts) (sym c.host_pass.view_is) one in
    record {
      pass = ((e.taker.0.0 ∙ ap (λ q. q.table.shared.table_id) c.deref.ensures, e.taker.0.1), e.taker.1);
      jobs = e.same.0 ∙ i.jobs;
      hosts = e.same.1 ∙ i.hosts;
      taken = i.taken;
      met = subst (λ n. IsMet all rest (set put c.host_pass.inside.host n) jobs hosts) (sym c.host_pass.invariant.next_is) inside;
    }

pub returns-clause-ok : goal.returns-clause-ok
returns-clause-ok g c =
    let i = c.loop-host_pass.invariant in
    let p = c.taker.invariant.1 in
    let hosts = ap (λ (x : Taking g.row.J.Denot). x.hosts) c.taker.view_is ∙ c.requires.taker.1 in
    let taken = ap (λ (x : Taking g.row.J.Denot). x.taken) c.taker.view_is in
    let own = ap (λ (q : Queue). q.hosts) c.self.view_is in
    let each : HasEachPass c.args.passes.items c.args.self.hosts = rw (c.as_slice.ensures.value, own) at (c.if-not-has_each_pass.ensures.yes refl) in
    let counted : Counts c.loop-host_pass.tally.taken.items c.args.self.hosts c.args.taker.taken = rw (hosts, taken, sym i.taken) at p.counted in
    let none : length c.loop-host_pass.passes.items ≡ 0 = sym c.loop-host_pass.passes.ok.0 ∙ c.in_default.ensures.cases.0 in
    (each, all_met _ _ _ _ _ _ none i.met each counted)
