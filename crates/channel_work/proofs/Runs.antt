-- A run goes on with one event more.
use Rattle.std.proofs.Common.{◌≡◌, List, [], ◌∷◌, ◌++◌, Some, refl, sym, ap, ◌∙◌, subst}
use Rattle.onfi_cycle.specs.Channel.{Channel}
use Rattle.seq_core.specs.World.{fresh}
use Rattle.seq_core.specs.Event.{Event}
use Rattle.seq_core.specs.Reply.{Reply}
use Rattle.seq_core.specs.After.{Ran, run}
use Rattle.seq_core.specs.Lawful.{LawfulWorld}
use Rattle.seq_core.specs.Shows.{CoreView, channel_in}
use Rattle.seq_core.specs.Headline.{EventsAreOwn}
use Rattle.seq_core.specs.Calls.{IsEvent, Came}
use Rattle.seq_core.specs.EventList.{RanFrom}
use Rattle.seq_core.proofs.Beginnings.{runs_go_on}

-- the run of what a sequencer keeps
abbrev pub IsRunOf : CoreView → List Event → List Reply → Type 0
IsRunOf c events replies = RanFrom c (fresh (channel_in c)) events replies c

-- the event after a run, as it came
pub came_after : (c later : CoreView) (events : List Event) (replies : List Reply) (e : Event) (reply : Reply) (r : IsRunOf c events replies) → IsEvent c e reply later → Came c r.ran.world e reply later
came_after c later events replies e reply r event = event r.ran.world r.is_at r.lawful

-- a run, and one event more
pub run_more : (c later : CoreView) (events : List Event) (replies : List Reply) (e : Event) (reply : Reply) → IsRunOf c events replies → IsEvent c e reply later → IsRunOf later (events ++ (e ∷ [])) (replies ++ (reply ∷ []))
run_more c later events replies e reply r event =
    let came = came_after c later events replies e reply r event in
    let s = channel_in c in
    let more = runs_go_on s events (fresh s) e r.ran came.next r.is_ran r.own came.is_next came.own in
    let ran : Ran = record { world = came.next.world; replies = r.ran.replies ++ (came.next.reply ∷ []) } in
    let back : channel_in c ≡ channel_in later = sym came.channel in
    record {
      ran = ran;
      is_ran = subst (λ (t : Channel). run t (events ++ (e ∷ [])) (fresh t) ≡ Some ran) back more.0;
      replied = ap (λ (x : List Reply). x ++ (came.next.reply ∷ [])) r.replied ∙ ap (λ (x : Reply). replies ++ (x ∷ [])) came.replied;
      is_at = came.is_at;
      own = subst (λ (t : Channel). EventsAreOwn t (events ++ (e ∷ [])) (fresh t)) back more.1;
      lawful = subst (λ (t : Channel). LawfulWorld t came.next.world) back came.lawful;
      channel = refl;
    }
