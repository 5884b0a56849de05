-- What finishing a job answers, from its parts.
use Rattle.std.proofs.Common.{ℕ, Bool, true, false, List, ◌≡◌, ◌∙◌, ◌∷◌, ◌++◌, [], Option, Some, None, ap, subst, reverse}
use Rattle.onfi_cycle.specs.declared.lun.Lun.{Lun}
use Rattle.micro_program.specs.Program.{Job}
use Rattle.seq_core.specs.declared.unload_fault.UnloadFault.{UnloadFault}
use Rattle.seq_core.specs.Event.{Unload}
use Rattle.seq_core.specs.Reply.{ToUnload, Unloaded, NotUnloaded}
use Rattle.seq_core.specs.Shows.{CoreView}
use Rattle.seq_core.specs.Calls.{IsEvent}
use Rattle.channel_work.specs.declared.stored.Name.{Name}
use Rattle.channel_work.specs.declared.stored.Stored.{Stored}
use Rattle.channel_work.specs.declared.stored.Stored.TheVariants.{Unload as WasUnloaded}
use Rattle.channel_work.specs.Stored.{last_started}
use Rattle.channel_work.specs.Channel.{HistoryView, Ended}
use Rattle.channel_work.specs.Finished.{HasFinished, HasNotEnded, IsRefusedFinish, IsFinish}

pub has_finished : (v : HistoryView) (l : Lun) (core : CoreView) (events : List Stored) (done : List Ended) (name : Name) (job : Job) (code : ℕ) → last_started l (reverse v.events) ≡ Some name → IsEvent v.core (Unload l) (ToUnload (Unloaded job code)) core
    → events ≡ v.events ++ (WasUnloaded l ∷ []) → done ≡ v.done ++ (record { name = name; job = job; code = code } ∷ []) → HasFinished v l (record v { core = core; events = events; done = done })
has_finished v l core events done name job code named event events_is done_is =
    let d : Ended = record { name = name; job = job; code = code } in
    record {
      name = name;
      job = job;
      code = code;
      named = named;
      event = event;
      same = ap (λ (es : List Stored). let u : HistoryView = record v { core = core; events = es; done = done } in u) events_is ∙
          ap (λ (ds : List Ended). let u : HistoryView = record v { core = core; events = v.events ++ (WasUnloaded l ∷ []); done = ds } in u) done_is;
    }

same_lists : (v : HistoryView) (events : List Stored) (done : List Ended) → events ≡ v.events → done ≡ v.done → record v { events = events; done = done } ≡ v
same_lists v events done events_is done_is =
    ap (λ (es : List Stored). let u : HistoryView = record v { events = es; done = done } in u) events_is ∙
    ap (λ (ds : List Ended). let u : HistoryView = record v { done = ds } in u) done_is

pub has_not_ended : (v : HistoryView) (l : Lun) (core : CoreView) (events : List Stored) (done : List Ended) (fault : UnloadFault) → core ≡ v.core → IsEvent v.core (Unload l) (ToUnload (NotUnloaded fault)) core
    → events ≡ v.events → done ≡ v.done → HasNotEnded v l (record v { core = core; events = events; done = done })
has_not_ended v l core events done fault core_is event events_is done_is =
    record {
      same = ap (λ (k : CoreView). let u : HistoryView = record v { core = k; events = events; done = done } in u) core_is ∙
          same_lists v events done events_is done_is;
      fault = fault;
      refused = subst (λ (k : CoreView). IsEvent v.core (Unload l) (ToUnload (NotUnloaded fault)) k) core_is event;
    }

pub refused_finish : (v : HistoryView) (l : Lun) (events : List Stored) (done : List Ended) (answer : Option Bool) → IsRefusedFinish v.core l answer → events ≡ v.events → done ≡ v.done → IsFinish v l answer (record v { events = events; done = done })
refused_finish v l events done (Some true) h events_is done_is = absurd h
refused_finish v l events done (Some false) h events_is done_is = record { same = same_lists v events done events_is done_is; fault = h.0; refused = h.1 }
refused_finish v l events done None h events_is done_is = record { would = h; same = same_lists v events done events_is done_is }
