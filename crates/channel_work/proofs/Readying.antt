-- What a ready leaves that doesn't come, or that there is no memory to store.
use Rattle.std.proofs.Common.{◌≡◌, Bool, true, false, List, Option, Some, None, ap, ◌∙◌, subst, refl}
use Rattle.seq_core.specs.Event.{Event}
use Rattle.seq_core.specs.Reply.{Reply}
use Rattle.seq_core.specs.Shows.{CoreView}
use Rattle.seq_core.specs.Calls.{IsEvent}
use Rattle.channel_work.specs.declared.stored.Stored.{Stored}
use Rattle.channel_work.specs.Channel.{HistoryView}
use Rattle.channel_work.specs.Coming.{IsComing, IsRefused}

pub none_came : (v : HistoryView) (core : CoreView) (events : List Stored) (e : Event) (reply : Bool → Reply) (x : Stored) (came : Bool) → came ≡ false → (came ≡ false → core ≡ v.core)
    → IsEvent v.core e (reply came) core → events ≡ v.events → IsComing v e reply x (Some came) (record v { core = core; events = events })
none_came v core events e reply x true is same event events_is = cc
none_came v core events e reply x false is same event events_is =
    let core_is = same refl in
    record {
      event = subst (λ (k : CoreView). IsEvent v.core e (reply false) k) core_is event;
      same = ap (λ (k : CoreView). let u : HistoryView = record v { core = k; events = events } in u) core_is ∙ ap (λ (es : List Stored). let u : HistoryView = record v { events = es } in u) events_is;
    }

-- the events are the same as before, in a list of another capacity
same_events : (v : HistoryView) (events : List Stored) → events ≡ v.events → record v { events = events } ≡ v
same_events v events is = ap (λ (es : List Stored). let u : HistoryView = record v { events = es } in u) is

pub refused : (v : HistoryView) (events : List Stored) (e : Event) (reply : Bool → Reply) (x : Stored) (answer : Option Bool) → IsRefused v.core e reply answer → events ≡ v.events → IsComing v e reply x answer (record v { events = events })
refused v events e reply x (Some true) h is = absurd h
refused v events e reply x (Some false) h is = record { event = h; same = same_events v events is }
refused v events e reply x None h is = record { would = h; same = same_events v events is }
