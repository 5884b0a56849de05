-- What happened on the channel of a run.
use Rattle.std.proofs.Common.{◌≡◌, ◌⊎◌, ℕ, ◌<◌, ◌≤◌, List, [], map, length, get_or, Option, Some, inl, inr, refl, sym, ap, ◌∙◌, subst, arith}
use Rattle.std.proofs.lemmas.Bool.{cases_lt}
use Rattle.std.proofs.lemmas.List.{get_or_past}
use Rattle.nand_geometry.specs.declared.parts.Parts.{Parts}
use Rattle.onfi_cycle.specs.Channel.{Channel}
use Rattle.micro_program.specs.Program.{Job}
use Rattle.die_model.specs.Die.{Die}
use Rattle.target_bus.specs.Bus.{Traced, Entries, channel_of, channel_on}
use Rattle.seq_core.specs.Shows.{CoreView, channel_in}
use Rattle.job_queue.specs.Passes.{Queue, Taking}
use Rattle.job_queue.specs.declared.rule.QueuedJob.{QueuedJob}
use Rattle.job_queue.specs.Rule.{of_host, numbered}
use Rattle.channel_work.specs.declared.gathered.Gathered.{Gathered}
use Rattle.channel_work.specs.Channel.{HistoryView, Ended}
use Rattle.channel_work.specs.Done.{ended_of}
use Rattle.channel_work.specs.Lawful.{IsLawful, WentWell}
use Rattle.channel_work.specs.Origin.{Origin, IsFrom}
use Rattle.seq_run.specs.declared.job_ends.EndedJob.{EndedJob}
use Rattle.run_plan.specs.declared.plan.RunPlan.{RunPlan}
use Rattle.seq_run.specs.declared.running.Worked.{Worked}
use Rattle.seq_run.specs.Hosted.{TookBelow, origin_of}
use Rattle.run_plan.specs.Planned.{jobs_of, planned_names}
use Rattle.seq_run.specs.Happened.{IsBusOf, ended_names, WereGivenBack, TookAll, HasWorked, HasRun, HasHappened}
use Rattle.run_plan.specs.Setup.{pages_of}
use Rattle.seq_run.specs.Runs.{HappenedAsPlanned}

pub has_worked : (history : HistoryView) (left : Gathered) → IsLawful history → WentWell history → left.core ≡ history.core → left.taker ≡ history.taker → map ended_of left.done.items ≡ history.done → HasWorked left
has_worked history left lawful well core taker done = record { history = history; lawful = lawful; well = well; core = core; taker = taker; done = done }

-- of a host that isn't there nothing was taken, and it has no jobs
took_none : (history : HistoryView) (of_hosts : List (List Job)) (host : ℕ) → IsLawful history → history.taker.hosts ≤ host → length of_hosts ≤ host → of_host host history.taker.taken ≡ numbered host 0 (get_or of_hosts host [])
took_none history of_hosts host lawful past over = lawful.numbers.none host past ∙ ap (numbered host 0) (sym (get_or_past of_hosts host [] over))

took_at : (history : HistoryView) (of_hosts : List (List Job)) (hosts host : ℕ) → IsLawful history → history.taker.hosts ≡ hosts → length of_hosts ≡ hosts → TookBelow hosts history.taker.taken of_hosts → (host < hosts) ⊎ (hosts ≤ host) → of_host host history.taker.taken ≡ numbered host 0 (get_or of_hosts host [])
took_at history of_hosts hosts host lawful count size took (inl low) = took host low
took_at history of_hosts hosts host lawful count size took (inr high) = took_none history of_hosts host lawful (omega (arith, count, high)) (omega (arith, size, high))

pub has_run : (origin : Option Origin) (core : CoreView) (q : Queue) (of_hosts : List (List Job)) (left : Gathered) (worked : Worked) → origin ≡ Some (origin_of core q) → IsFrom origin left.core left.taker → HasWorked left → length of_hosts ≡ q.hosts → TookBelow q.hosts left.taker.taken of_hosts → worked.core ≡ left.core → map ended_of worked.done.items ≡ map ended_of left.done.items → HasRun (channel_in core) of_hosts worked
has_run origin core q of_hosts left worked is from work size took core_is done_is =
    let of = subst (λ (o : Option Origin). IsFrom o left.core left.taker) is from in
    let history = work.history in
    let took' = subst (λ (t : Taking Job). TookBelow q.hosts t.taken of_hosts) work.taker took in
    let hosts : history.taker.hosts ≡ q.hosts = ap (λ (t : Taking Job). t.hosts) (sym work.taker) ∙ of.hosts in
    record {
      history = history;
      lawful = work.lawful;
      well = work.well;
      core = core_is ∙ work.core;
      channel = ap channel_in (sym work.core) ∙ of.channel;
      taken = λ host. took_at history of_hosts q.hosts host work.lawful hosts size took' (cases_lt host q.hosts);
      done = done_is ∙ work.done;
    }

-- the channel of the bus is the one that began
channel_is : (bus : Traced) (core : CoreView) → IsBusOf core bus → channel_of bus ≡ channel_in core
channel_is bus core is =
    ap (λ (g : Parts). channel_on g bus.targets bus.opened) is.0
    ∙ ap (λ (n : ℕ). channel_on core.geometry n bus.opened) is.1
    ∙ ap (λ (o : List Entries). channel_on core.geometry core.targets o) is.2

began_so : (bus : Traced) (core : CoreView) (pages : List Entries) → channel_of bus ≡ channel_in core → core.opened ≡ pages → channel_of bus ≡ channel_on bus.geometry bus.targets pages
began_so bus core pages same opened =
    same
    ∙ ap (λ (o : List Entries). channel_on core.geometry core.targets o) opened
    ∙ ap (λ (g : Parts). channel_on g core.targets pages) (sym (ap (λ (s : Channel). s.geometry) same))
    ∙ ap (λ (n : ℕ). channel_on bus.geometry n pages) (sym (ap (λ (s : Channel). s.targets) same))

pub as_planned : (plan : RunPlan) (core : CoreView) (worked : Worked) (bus : Traced) (jobs : List EndedJob) → core.opened ≡ pages_of plan.dies.dies.items → HasRun (channel_in core) (jobs_of plan.jobs.by_target.items) worked → IsBusOf worked.core bus → ended_names jobs ≡ planned_names plan.jobs.all.items → WereGivenBack (map ended_of worked.done.items) jobs → HappenedAsPlanned plan bus jobs
as_planned plan core worked bus jobs opened run is_bus names given setup is =
    let is_bus' = subst (λ (c : CoreView). IsBusOf c bus) run.core is_bus in
    record {
      history = run.history;
      lawful = run.lawful;
      well = run.well;
      is_bus = is_bus';
      began = began_so bus core (pages_of setup.dies) (channel_is bus run.history.core is_bus' ∙ run.channel) (opened ∙ ap pages_of is.dies);
      taken = λ target. run.taken target ∙ ap (numbered target 0) (is.jobs.hosts target);
      named = names ∙ is.jobs.named;
      given = subst (λ (done : List Ended). WereGivenBack done jobs) run.done given;
    }
