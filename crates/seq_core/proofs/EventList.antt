-- Lists of events: the run of those done, one event more at its end.
use Rattle.std.proofs.Common.{◌≡◌, ℕ, ◌-◌, take, List, [], ◌∷◌, ◌++◌, Some, Result, Ok, Err, IfOk, IfErr, map, reverse, refl, sym, ap, ◌∙◌, subst}
use Rattle.std.proofs.lemmas.List.{map-append, append-nil, append_assoc, reverse-append, reverse-reverse}
use Rattle.onfi_cycle.specs.declared.lun.Lun.{Lun}
use Rattle.onfi_cycle.specs.Channel.{Channel}
use Rattle.micro_program.specs.Program.{Job}
use Rattle.seq_core.specs.declared.unload_fault.UnloadFault.{UnloadFault}
use Rattle.seq_core.specs.declared.sequencer.LoadRefused.{LoadRefused}
use Rattle.seq_core.specs.declared.sequencer.UnloadedJob.{UnloadedJob}
use Rattle.seq_core.specs.declared.event_list.Event.{Event as Asked}
use Rattle.seq_core.specs.declared.event_list.Reply.{Reply as Answered}
use Rattle.seq_core.specs.World.{fresh}
use Rattle.seq_core.specs.Event.{Event, Load, Unload}
use Rattle.seq_core.specs.Reply.{Reply, ToLoad, ToUnload, Loaded, NotLoaded, Unloaded, NotUnloaded}
use Rattle.seq_core.specs.After.{after}
use Rattle.seq_core.specs.Lawful.{LawfulWorld}
use Rattle.seq_core.specs.Shows.{CoreView, IsAt, channel_in}
use Rattle.seq_core.specs.Headline.{AddsItsOwn, GoesWell}
use Rattle.seq_core.specs.Calls.{IsEvent}
use Rattle.seq_core.specs.EventList.{IsRun, DidEvents, event_of, reply_of, loading_of, unloading_of, WantsMemory, StopsAt, LeftFor, shortage_of}
use Rattle.seq_core.proofs.Beginnings.{runs_go_on}
use Rattle.seq_core.proofs.Main.{fresh_is_lawful, lawful_slot}
use Rattle.seq_core.proofs.Making.{runs_as_told}

-- no event, and one event more
pub none_run : (c : CoreView) → IsRun c [] [] c
none_run c w at law = record { ran = record { world = w; replies = [] }; is_ran = refl; replied = refl; is_at = at; own = tt; lawful = law; channel = refl }

pub one_run_more : (c m later : CoreView) (events : List Event) (replies : List Reply) (e : Event) (reply : Reply) → IsRun c events replies m → IsEvent m e reply later → IsRun c (events ++ (e ∷ [])) (replies ++ (reply ∷ [])) later
one_run_more c m later events replies e reply before event w at law =
    let r = before w at law in
    let came = event r.ran.world r.is_at (subst (λ (s : Channel). LawfulWorld s r.ran.world) (sym r.channel) r.lawful) in
    let is : after (channel_in c) r.ran.world e ≡ Some came.next = subst (λ (s : Channel). after s r.ran.world e ≡ Some came.next) r.channel came.is_next in
    let own : AddsItsOwn (channel_in c) e r.ran.world.past came.next.world.past = subst (λ (s : Channel). AddsItsOwn s e r.ran.world.past came.next.world.past) r.channel came.own in
    let more = runs_go_on (channel_in c) events w e r.ran came.next r.is_ran r.own is own in
    record {
      ran = record { world = came.next.world; replies = r.ran.replies ++ (came.next.reply ∷ []) };
      is_ran = more.0;
      replied = ap (λ (x : List Reply). x ++ (came.next.reply ∷ [])) r.replied ∙ ap (λ (x : Reply). replies ++ (x ∷ [])) came.replied;
      is_at = came.is_at;
      own = more.1;
      lawful = subst (λ (s : Channel). LawfulWorld s came.next.world) r.channel came.lawful;
      channel = came.channel ∙ r.channel;
    }

run_goes_well : (c later : CoreView) (events : List Event) (replies : List Reply) → IsRun c events replies later → IsAt c (fresh (channel_in c)) → GoesWell (channel_in c) events
run_goes_well c later events replies is at =
    let s = channel_in c in
    let r = is (fresh s) at (fresh_is_lawful s) in
    record {
      ran = r.ran;
      is_ran = r.is_ran;
      legal = r.lawful.legal;
      own = r.own;
      within = λ l x e. (lawful_slot s r.ran.world r.lawful l x e).within;
      text = λ l x e. (lawful_slot s r.ran.world r.lawful l x e).text;
      cycles = runs_as_told s events r.ran r.is_ran (λ l x e. (lawful_slot s r.ran.world r.lawful l x e).within);
      lawful = r.lawful;
    }

-- from a run of the first of the events
pub did_events : {A : Type 0} (c later : CoreView) (events done rest : List (Asked A)) (replies : List (Answered A)) → events ≡ done ++ rest → IsRun c (map event_of done) (map reply_of replies) later → DidEvents c events replies rest later
did_events c later events done rest replies parts is =
    record { done = done; parts = parts; is_run = is; goes_well = run_goes_well c later (map event_of done) (map reply_of replies) is }

pub did_none : {A : Type 0} (c : CoreView) (events rest : List (Asked A)) (replies : List (Answered A)) → events ≡ rest → replies ≡ [] → DidEvents c events replies rest c
did_none c events rest replies is none =
    did_events c c events [] rest replies is (subst (λ (rs : List (Answered _)). IsRun c [] (map reply_of rs) c) (sym none) (none_run c))

-- one event more was done, the last of those that stand in reverse
pub did_more : {A : Type 0} (c m later : CoreView) (events todo left : List (Asked A)) (replies more : List (Answered A)) (e : Asked A) (reply : Answered A) → DidEvents c events replies (reverse todo) m → todo ≡ left ++ (e ∷ []) → more ≡ replies ++ (reply ∷ []) → IsEvent m (event_of e) (reply_of reply) later → DidEvents c events more (reverse left) later
did_more {A} c m later events todo left replies more e reply did todo_is more_is event =
    let turned : reverse todo ≡ e ∷ reverse left = ap reverse todo_is ∙ reverse-append left (e ∷ []) in
    let parts : events ≡ (did.done ++ (e ∷ [])) ++ reverse left = did.parts ∙ (ap (λ (x : List (Asked A)). did.done ++ x) turned ∙ sym (append_assoc did.done (e ∷ []) (reverse left))) in
    let is = one_run_more c m later (map event_of did.done) (map reply_of replies) (event_of e) (reply_of reply) did.is_run event in
    let events_are : map event_of did.done ++ (event_of e ∷ []) ≡ map event_of (did.done ++ (e ∷ [])) = sym (map-append event_of did.done (e ∷ [])) in
    let replies_are : map reply_of replies ++ (reply_of reply ∷ []) ≡ map reply_of more = sym (map-append reply_of replies (reply ∷ [])) ∙ ap (map reply_of) (sym more_is) in
    did_events c later events (did.done ++ (e ∷ [])) (reverse left) more parts
    (subst (λ (x : List Event). IsRun c x (map reply_of more) later) events_are (subst (λ (x : List Reply). IsRun c (map event_of did.done ++ (event_of e ∷ [])) x later) replies_are is))

-- none more was done: the event that wanted memory is back at its place
pub did_same : {A : Type 0} (c m later : CoreView) (events todo left again : List (Asked A)) (replies : List (Answered A)) (e undone : Asked A) → DidEvents c events replies (reverse todo) m → todo ≡ left ++ (e ∷ []) → again ≡ left ++ (undone ∷ []) → undone ≡ e → later ≡ m → DidEvents c events replies (reverse again) later
did_same {A} c m later events todo left again replies e undone did todo_is again_is undone_is later_is =
    let same : again ≡ todo = again_is ∙ (ap (λ (x : Asked A). left ++ (x ∷ [])) undone_is ∙ sym todo_is) in
    subst (λ (x : List (Asked A)). DidEvents c events replies (reverse x) later) (sym same) (subst (λ (x : CoreView). DidEvents c events replies (reverse todo) x) (sym later_is) did)

-- none is left
pub did_all : {A : Type 0} (c later : CoreView) (events todo left : List (Asked A)) (replies : List (Answered A)) → DidEvents c events replies (reverse todo) later → todo ≡ left ++ [] → DidEvents c events replies (reverse left) later
did_all {A} c later events todo left replies did todo_is =
    subst (λ (x : List (Asked A)). DidEvents c events replies (reverse x) later) (todo_is ∙ append-nil left) did

-- events that stood in reverse, and those left turned back
pub did_turned : {A : Type 0} (c later : CoreView) (events turned left rest : List (Asked A)) (replies : List (Answered A)) → DidEvents c (reverse turned) replies (reverse left) later → turned ≡ reverse events → rest ≡ reverse left → DidEvents c events replies rest later
did_turned {A} c later events turned left rest replies did turned_is rest_is =
    let events_are : reverse turned ≡ events = ap reverse turned_is ∙ reverse-reverse events in
    subst (λ (x : List (Asked A)). DidEvents c events replies x later) (sym rest_is) (subst (λ (x : List (Asked A)). DidEvents c x replies (reverse left) later) events_are did)

pub load_answered : {A : Type 0} (c later : CoreView) (l : Lun) (j : Job) (r : Result (Unit {0}) (LoadRefused A)) → IfOk r (λ _. IsEvent c (Load l j) (ToLoad Loaded) later) → IfErr r (λ e. (e.job ≡ j) × (later ≡ c) × IsEvent c (Load l j) (ToLoad (NotLoaded e.fault j)) later) → IsEvent c (Load l j) (ToLoad (loading_of r)) later
load_answered c later l j (Ok u) ok err = ok
load_answered c later l j (Err e) ok err = subst (λ (x : Job). IsEvent c (Load l j) (ToLoad (NotLoaded e.fault x)) later) (sym err.0) err.2

pub unload_answered : {A : Type 0} (c later : CoreView) (l : Lun) (r : Result (UnloadedJob A) UnloadFault) → IfOk r (λ done. IsEvent c (Unload l) (ToUnload (Unloaded done.job done.code)) later) → IfErr r (λ fault. (later ≡ c) × IsEvent c (Unload l) (ToUnload (NotUnloaded fault)) later) → IsEvent c (Unload l) (ToUnload (unloading_of r)) later
unload_answered c later l (Ok done) ok err = ok
unload_answered c later l (Err fault) ok err = err.1

-- the event that wanted memory comes first again
pub stops_there : {A : Type 0} (before after : CoreView) (left again : List (Asked A)) (undone : Asked A) → again ≡ left ++ (undone ∷ []) → after ≡ before → WantsMemory before undone → StopsAt after (reverse again)
stops_there {A} before after left again undone is same wants =
    let turned : reverse again ≡ undone ∷ reverse left = ap reverse is ∙ reverse-append left (undone ∷ []) in
    subst (λ (x : List (Asked A)). StopsAt after x) (sym turned) (subst (λ (c : CoreView). WantsMemory c undone) (sym same) wants)

pub stops_at_end : {A : Type 0} (c : CoreView) (todo left : List (Asked A)) (n : ℕ) → left ≡ take (n - 1) todo → n ≡ 0 → StopsAt c (reverse left)
stops_at_end {A} c todo left n is none =
    subst (λ (x : List (Asked A)). StopsAt c (reverse x)) (sym (is ∙ ap (λ (m : ℕ). take (m - 1) todo) none)) tt

pub stops_turned : {A : Type 0} (c : CoreView) (left rest : List (Asked A)) → StopsAt c (reverse left) → rest ≡ reverse left → StopsAt c rest
stops_turned {A} c left rest h is = subst (λ (x : List (Asked A)). StopsAt c x) (sym is) h

-- what is left is short of a step's memory
pub left_for : {A : Type 0} (old new : CoreView) (events rest : List (Asked A)) (replies : List (Answered A)) → StopsAt new rest → LeftFor old new events replies rest (shortage_of rest)
left_for old new events [] replies h = refl
left_for old new events (e ∷ rest) replies h = h
