-- Whose job a LUN has: what events leave of the jobs in the slots.
use Rattle.std.proofs.Common.{◌≡◌, ℕ, zero, suc, ◌==◌, eqb-true, eq-eqb, ◌<◌, Bool, true, false, cond, ◌&&◌, not, ◌⊎◌, inl, inr, List, [], ◌∷◌, ◌++◌, Option, Some, None, is_some, refl, sym, ap, ◌∙◌, subst, length, get_or, set, arith}
use Rattle.std.specs.List.{list_all}
use Rattle.std.proofs.lemmas.Bool.{and_parts}
use Rattle.std.proofs.lemmas.List.{get_or_default, length-set}
use Rattle.std.proofs.lemmas.List.{get_or-set_same, get_or-set_other}
use Rattle.std.proofs.Math.Seq.{map-set_same}
use Rattle.std.proofs.Math.ListN.{get_or-map}
use Rattle.onfi_cycle.specs.declared.lun.Lun.{Lun}
use Rattle.onfi_cycle.specs.declared.item.Item.{Item}
use Rattle.onfi_cycle.specs.declared.item.Item.TheVariants.{Rdy, Ard}
use Rattle.onfi_cycle.specs.Channel.{Channel, is_there}
use Rattle.onfi_cycle.specs.Permitted.{is_permitted}
use Rattle.onfi_cycle.specs.Channel.{same_lun}
use Rattle.micro_program.specs.Moves.{and_then}
use Rattle.micro_program.specs.Program.{Job}
use Rattle.micro_program.specs.Step.{Stride, answered_step}
use Rattle.seq_core.specs.declared.load_fault.LoadFault.{LoadFault}
use Rattle.seq_core.specs.declared.load_fault.LoadFault.TheVariants.{SlotTaken, OtherLun, OtherGeometry}
use Rattle.seq_core.specs.declared.stepped.Stepped.TheVariants.{Held}
use Rattle.seq_core.specs.declared.sequencer.LoadRefused.{LoadRefused}
use Rattle.seq_core.specs.declared.sequencer.UnloadedJob.{UnloadedJob}
use Rattle.seq_core.specs.declared.unload_fault.UnloadFault.{UnloadFault}
use Rattle.seq_core.specs.World.{Slot, World, slot_of, number, fresh_slot}
use Rattle.seq_core.specs.Reply.{Reply, ToLoad, ToStep, ToReady, ToArrayReady, ToUnload, Loaded, NotLoaded, Unloaded, NotUnloaded}
use Rattle.seq_core.specs.After.{same_parts, After, Ran, is_held, after_stride, after_item, after_load, after_unload, after_slot_unload, load_fault}
use Rattle.seq_core.specs.Lawful.{LawfulWorld}
use Rattle.seq_core.proofs.Slots.{number_below}
use Rattle.seq_live.specs.Event.{LiveEvent, Load, Step, Ready, ArrayReady, Unload, is_quiet}
use Rattle.seq_live.specs.After.{after_live, after_answers, after_slot_answers, run_live}
use Rattle.seq_live.specs.Kept.{LiveView, channel_at, IsLiveAt}
use Rattle.seq_live.specs.Calls.{LiveRan, IsLiveRun, IsLiveEvent}
use Rattle.seq_live.specs.declared.live_job.OnLun.{OnLun}
use Rattle.seq_live.specs.declared.live_job.LiveJob.{LiveJob}
use Rattle.seq_live.specs.declared.live_job.LiveJob.TheVariants.{Waiting, Running, Done, Abandoned, Refused}
use Rattle.seq_live.specs.Owned.{IsStill, waits, IsItself, AreThemselves, job_in, jobs_in, Place, spot, Owns, Moved, Sound, Moves, KeepsSound}
use Rattle.seq_live.specs.Jobs.{StaysOn}
use Rattle.seq_live.proofs.Running.{rest_of, run_of, run_more}

some_same : {X : Type 0} (x y : X) → Some x ≡ Some y → x ≡ y
some_same x y h = cc

-- 1. the jobs in the slots

place_is : (w : World) (n : ℕ) → Place w n ≡ job_in (get_or w.slots n None)
place_is w n = get_or-map job_in w.slots n None

-- the slot of a LUN that has one
in_slots : (s : Channel) (w : World) (l : Lun) (x : Slot) → slot_of s w l ≡ Some x → get_or w.slots (number s l) None ≡ Some x
in_slots s w l x h = at (is_there s l) h
  where
    at : (b : Bool) → cond b (get_or w.slots (number s l) None) None ≡ Some x → get_or w.slots (number s l) None ≡ Some x
    at true h = h
    at false h = cc

-- 2. events that load and unload nothing

item_leaves : (w : World) (i : Item) (reply : Bool → Reply) (came : Bool) (a : After) → Some (after_item w i reply came) ≡ Some a → jobs_in a.world ≡ jobs_in w
item_leaves w i reply true a h = ap (λ (b : After). jobs_in b.world) (sym (some_same (after_item w i reply true) a h))
item_leaves w i reply false a h = ap (λ (b : After). jobs_in b.world) (sym (some_same (after_item w i reply false) a h))

stride_leaves : (s : Channel) (w : World) (l : Lun) (x : Slot) (o : Option Stride) (a : After) → slot_of s w l ≡ Some x → and_then o (λ r. Some (after_stride s w l x.job r)) ≡ Some a → jobs_in a.world ≡ jobs_in w
stride_leaves s w l x None a is h = cc
stride_leaves s w l x (Some r) a is h =
    ap (λ (b : After). jobs_in b.world) (sym (some_same (after_stride s w l x.job r) a h))
    ∙ map-set_same job_in w.slots (number s l) (Some (record { job = x.job; ahead = r.ahead; done = r.done; code = r.code })) None (ap job_in (sym (in_slots s w l x is)))

step_leaves : (s : Channel) (w : World) (l : Lun) (bytes : List ℕ) (a : After) → after_answers s w l bytes (slot_of s w l) ≡ Some a → jobs_in a.world ≡ jobs_in w
step_leaves s w l bytes a h = at (slot_of s w l) refl h
  where
    stood : (reply : Reply) → Some (record { world = w; reply = reply }) ≡ Some a → jobs_in a.world ≡ jobs_in w
    stood reply e = ap (λ (b : After). jobs_in b.world) (sym (some_same (record { world = w; reply = reply }) a e))

    running : (x : Slot) (held : Bool) → slot_of s w l ≡ Some x → cond held (Some (record { world = w; reply = ToStep Held })) (and_then (answered_step s.geometry x.job bytes w.past x.ahead x.done) (λ r. Some (after_stride s w l x.job r))) ≡ Some a → jobs_in a.world ≡ jobs_in w
    running x true is e = stood _ e
    running x false is e = stride_leaves s w l x (answered_step s.geometry x.job bytes w.past x.ahead x.done) a is e

    coded : (x : Slot) (code : Option ℕ) → slot_of s w l ≡ Some x → after_slot_answers s w l bytes x code ≡ Some a → jobs_in a.world ≡ jobs_in w
    coded x (Some code) is e = stood _ e
    coded x None is e = running x (is_held w.holder l) is e

    at : (o : Option Slot) → slot_of s w l ≡ o → after_answers s w l bytes o ≡ Some a → jobs_in a.world ≡ jobs_in w
    at None is e = stood _ e
    at (Some x) is e = coded x x.code is e

quiet_event : (s : Channel) (w : World) (e : LiveEvent) (a : After) → is_quiet e ≡ true → after_live s w e ≡ Some a → jobs_in a.world ≡ jobs_in w
quiet_event s w (Load l j) a quiet h = cc
quiet_event s w (Unload l) a quiet h = cc
quiet_event s w (Step l bytes) a quiet h = step_leaves s w l bytes a h
quiet_event s w (Ready l fail) a quiet h = item_leaves w (Rdy l.ce l.lun fail) ToReady (is_permitted s.geometry s.targets w.past (Rdy l.ce l.lun fail)) a h
quiet_event s w (ArrayReady l fail) a quiet h = item_leaves w (Ard l.ce l.lun fail) ToArrayReady (is_permitted s.geometry s.targets w.past (Ard l.ce l.lun fail)) a h

pub quiet_run : (s : Channel) (es : List LiveEvent) (w : World) (ran : Ran) → list_all is_quiet es ≡ true → run_live s es w ≡ Some ran → jobs_in ran.world ≡ jobs_in w
quiet_run s [] w ran quiet h = ap (λ (r : Ran). jobs_in r.world) (sym (some_same (record { world = w; replies = [] }) ran h))
quiet_run s (e ∷ es) w ran quiet h =
    let r = rest_of s e es w ran h in
    let both = and_parts (is_quiet e) (list_all is_quiet es) quiet in
    ap (λ (q : Ran). jobs_in q.world) (sym r.whole) ∙ (quiet_run s es r.a.world r.rest both.1 r.is_rest ∙ quiet_event s w e r.a both.0 r.is_a)

-- 3. one event and its reply

pub record OneEvent (s : Channel) (w : World) (e : LiveEvent) (reply : Reply) (later : World) : Type 0 where
  pub a : After
  pub is_a : after_live s w e ≡ Some a
  pub replied : a.reply ≡ reply
  pub world : later ≡ a.world

first_reply : (r q : Reply) (rs : List Reply) → r ∷ rs ≡ q ∷ [] → r ≡ q
first_reply r q rs h = cc

pub one_event : (v u : LiveView) (w : World) (e : LiveEvent) (reply : Reply) (ran : LiveRan v w (e ∷ []) (reply ∷ []) u) → OneEvent (channel_at v) w e reply ran.ran.world
one_event v u w e reply ran =
    let r = rest_of (channel_at v) e [] w ran.ran ran.is_ran in
    let rest : record { world = r.a.world; replies = [] } ≡ r.rest = some_same (record { world = r.a.world; replies = [] }) r.rest r.is_rest in
    record {
      a = r.a;
      is_a = r.is_a;
      replied = first_reply r.a.reply reply r.rest.replies (ap (λ (q : Ran). q.replies) r.whole ∙ ran.replied);
      world = ap (λ (q : Ran). q.world) (sym r.whole) ∙ ap (λ (q : Ran). q.world) (sym rest);
    }

-- a job was loaded
pub record LoadedIn (s : Channel) (w later : World) (l : Lun) (j : Job) : Type 0 where
  pub there : is_there s l ≡ true
  pub empty : Place w (number s l) ≡ None
  pub here : Place later (number s l) ≡ Some j
  pub others : (m : ℕ) → (m ≡ number s l → ⊥) → Place later m ≡ Place w m

loaded_reply : (s : Channel) (w : World) (l : Lun) (j : Job) (o : Option LoadFault) → (after_load s w l j o).reply ≡ ToLoad Loaded → o ≡ None
loaded_reply s w l j None h = refl
loaded_reply s w l j (Some fault) h = cc

no_fault : (taken there : Bool) (more : Option LoadFault) → cond taken (Some SlotTaken) (cond (not there) (Some OtherLun) more) ≡ None → (taken ≡ false) × (there ≡ true)
no_fault true there more h = cc
no_fault false true more h = (refl, refl)
no_fault false false more h = cc

empty_slot : (s : Channel) (w : World) (l : Lun) → is_there s l ≡ true → is_some (slot_of s w l) ≡ false → get_or w.slots (number s l) None ≡ None
empty_slot s w l there none = at (get_or w.slots (number s l) None) (ap is_some (sym (rw there refl)) ∙ none)
  where
    at : (o : Option Slot) → is_some o ≡ false → o ≡ None
    at None h = refl
    at (Some x) h = cc

pub loaded_in : (s : Channel) (w later : World) (l : Lun) (j : Job) → LawfulWorld s w → OneEvent s w (Load l j) (ToLoad Loaded) later → LoadedIn s w later l j
loaded_in s w later l j law e =
    record {
      there = there;
      empty = place_is w (number s l) ∙ ap job_in (empty_slot s w l there clear.0);
      here = ap (λ (x : World). Place x (number s l)) is ∙ (place_is after (number s l) ∙ ap job_in (get_or-set_same w.slots (number s l) (Some (fresh_slot j)) None inside));
      others = λ m differs. ap (λ (x : World). Place x m) is ∙ (place_is after m ∙ (ap job_in (get_or-set_other w.slots (number s l) m (Some (fresh_slot j)) None differs) ∙ sym (place_is w m)));
    }
  where
    fault : Option LoadFault
    fault = load_fault s w l j

    same : after_load s w l j fault ≡ e.a
    same = some_same (after_load s w l j fault) e.a e.is_a

    none : fault ≡ None
    none = loaded_reply s w l j fault (ap (λ (b : After). b.reply) same ∙ e.replied)

    after : World
    after = (after_load s w l j None).world

    is : later ≡ after
    is = e.world ∙ (ap (λ (b : After). b.world) (sym same) ∙ ap (λ (o : Option LoadFault). (after_load s w l j o).world) none)

    clear : (is_some (slot_of s w l) ≡ false) × ((is_there s l && same_lun l j.lun) ≡ true)
    clear = no_fault (is_some (slot_of s w l)) (is_there s l && same_lun l j.lun) (cond (not (same_parts s.geometry j.geometry)) (Some OtherGeometry) None) none

    there : is_there s l ≡ true
    there = (and_parts (is_there s l) (same_lun l j.lun) clear.1).0

    inside : number s l < length w.slots
    inside = subst (λ (n : ℕ). number s l < n) (sym law.size) (number_below s l there)

-- a job was refused
pub refused_in : (s : Channel) (w later : World) (l : Lun) (j : Job) (fault : LoadFault) → OneEvent s w (Load l j) (ToLoad (NotLoaded fault j)) later → jobs_in later ≡ jobs_in w
refused_in s w later l j fault e = at (load_fault s w l j) e.is_a
  where
    at : (o : Option LoadFault) → Some (after_load s w l j o) ≡ Some e.a → jobs_in later ≡ jobs_in w
    at None h = let same = some_same (after_load s w l j None) e.a h in absurd (clash (ap (λ (b : After). b.reply) same ∙ e.replied))
      where
        clash : ToLoad Loaded ≡ ToLoad (NotLoaded fault j) → ⊥
        clash x = cc
    at (Some f) h = ap jobs_in (e.world ∙ ap (λ (b : After). b.world) (sym (some_same (after_load s w l j (Some f)) e.a h)))

-- a job was taken away
pub record TakenFrom (s : Channel) (w later : World) (l : Lun) (j : Job) : Type 0 where
  pub was : Job
  pub here : Place w (number s l) ≡ Some was
  pub still : IsStill j was
  pub others : (m : ℕ) → (m ≡ number s l → ⊥) → Place later m ≡ Place w m

pub taken_from : (s : Channel) (w later : World) (l : Lun) (j : Job) (code : ℕ) → OneEvent s w (Unload l) (ToUnload (Unloaded j code)) later → TakenFrom s w later l j
taken_from s w later l j code e = at (slot_of s w l) refl e.is_a
  where
    unloaded : (x : Slot) (was : Option ℕ) → slot_of s w l ≡ Some x → Some (after_slot_unload s w l x was) ≡ Some e.a → TakenFrom s w later l j
    unloaded x None is h = absurd (clash (ap (λ (b : After). b.reply) (some_same (after_slot_unload s w l x None) e.a h) ∙ e.replied))
      where
        clash : (after_slot_unload s w l x None).reply ≡ ToUnload (Unloaded j code) → ⊥
        clash y = cc
    unloaded x (Some c) is h =
        let same = some_same (after_slot_unload s w l x (Some c)) e.a h in
        record {
          was = x.job;
          here = place_is w (number s l) ∙ ap job_in (in_slots s w l x is);
          still = (_, first_job (ap (λ (b : After). b.reply) same ∙ e.replied));
          others = λ m differs. ap (λ (y : World). Place y m) (e.world ∙ ap (λ (b : After). b.world) (sym same)) ∙ (place_is (after_slot_unload s w l x (Some c)).world m ∙ (ap job_in (get_or-set_other w.slots (number s l) m None None differs) ∙ sym (place_is w m)));
        }
      where
        first_job : {a b : Job} {n m : ℕ} → ToUnload (Unloaded a n) ≡ ToUnload (Unloaded b m) → b ≡ a
        first_job y = cc

    at : (o : Option Slot) → slot_of s w l ≡ o → Some (after_unload s w l o) ≡ Some e.a → TakenFrom s w later l j
    at None is h = absurd (clash (ap (λ (b : After). b.reply) (some_same (after_unload s w l None) e.a h) ∙ e.replied))
      where
        clash : (after_unload s w l None).reply ≡ ToUnload (Unloaded j code) → ⊥
        clash y = cc
    at (Some x) is h = unloaded x x.code is h

-- it wasn't
pub not_taken : (s : Channel) (w later : World) (l : Lun) (fault : UnloadFault) → OneEvent s w (Unload l) (ToUnload (NotUnloaded fault)) later → jobs_in later ≡ jobs_in w
not_taken s w later l fault e = at (slot_of s w l) e.is_a
  where
    stood : (reply : Reply) → Some (record { world = w; reply = reply }) ≡ Some e.a → jobs_in later ≡ jobs_in w
    stood reply h = ap jobs_in (e.world ∙ ap (λ (b : After). b.world) (sym (some_same (record { world = w; reply = reply }) e.a h)))

    unloaded : (x : Slot) (was : Option ℕ) → Some (after_slot_unload s w l x was) ≡ Some e.a → jobs_in later ≡ jobs_in w
    unloaded x None h = stood _ h
    unloaded x (Some c) h = absurd (clash (ap (λ (b : After). b.reply) (some_same (after_slot_unload s w l x (Some c)) e.a h) ∙ e.replied))
      where
        clash : (after_slot_unload s w l x (Some c)).reply ≡ ToUnload (NotUnloaded fault) → ⊥
        clash y = cc

    at : (o : Option Slot) → Some (after_unload s w l o) ≡ Some e.a → jobs_in later ≡ jobs_in w
    at None h = stood _ h
    at (Some x) h = unloaded x x.code h

-- 4. of one job

some_apart : {m n : ℕ} → (Some n ≡ Some m → ⊥) → m ≡ n → ⊥
some_apart differs same = differs (ap Some (sym same))

none_some : {X : Type 0} {x : X} → None ≡ Some x → ⊥
none_some e = cc

-- where the slots have what they had
owns_still : {A : Type 0} (s : Channel) (w later : World) (x y : LiveJob A) → jobs_in later ≡ jobs_in w → Owns s w x y → Owns s later x y
owns_still s w later (Waiting j) (Waiting k) same o = o
owns_still s w later (Waiting j) (Running on) same o = ap (λ (js : List (Option Job)). get_or js (number s on.lun) None) same ∙ o
owns_still s w later (Waiting j) (Done d) same o = o
owns_still s w later (Waiting j) (Abandoned on) same o = ap (λ (js : List (Option Job)). get_or js (number s on.lun) None) same ∙ o
owns_still s w later (Waiting j) (Refused r) same o = o
owns_still s w later (Running on) y same o = absurd o
owns_still s w later (Done d) y same o = absurd o
owns_still s w later (Abandoned on) y same o = absurd o
owns_still s w later (Refused r) y same o = absurd o

pub moved_still : {A : Type 0} (s : Channel) (w later : World) (y z : LiveJob A) → jobs_in later ≡ jobs_in w → ((n : ℕ) → spot s z ≡ Some n → spot s y ≡ Some n) → ((x : LiveJob A) → Owns s w x y → Owns s w x z) → Moved s w later y z
moved_still s w later y z same there own =
    record {
      frame = λ m before after. ap (λ (js : List (Option Job)). get_or js m None) same;
      only = λ n h. inl (there n h);
      own = λ x o. owns_still s w later x z same (own x o);
    }

-- on its LUN it stays
stays_there : {A : Type 0} (s : Channel) (on : OnLun) (z : LiveJob A) (n : ℕ) → StaysOn on z → spot s z ≡ Some n → Some (number s on.lun) ≡ Some n
stays_there s on (Running o) n same h = ap (λ (l : Lun). Some (number s l)) (sym same) ∙ h
stays_there s on (Abandoned o) n same h = ap (λ (l : Lun). Some (number s l)) (sym same) ∙ h
stays_there s on (Waiting j) n same h = absurd same
stays_there s on (Done d) n same h = absurd same
stays_there s on (Refused r) n same h = absurd same

stays_own : {A : Type 0} (s : Channel) (w : World) (on : OnLun) (x z : LiveJob A) → StaysOn on z → Owns s w x (Running on) → Owns s w x z
stays_own s w on (Waiting j) (Running o) same h = ap (λ (l : Lun). Place w (number s l)) same ∙ h
stays_own s w on (Waiting j) (Abandoned o) same h = ap (λ (l : Lun). Place w (number s l)) same ∙ h
stays_own s w on (Waiting j) (Waiting k) same h = absurd same
stays_own s w on (Waiting j) (Done d) same h = absurd same
stays_own s w on (Waiting j) (Refused r) same h = absurd same
stays_own s w on (Running o) z same h = absurd h
stays_own s w on (Done d) z same h = absurd h
stays_own s w on (Abandoned o) z same h = absurd h
stays_own s w on (Refused r) z same h = absurd h

pub moved_on : {A : Type 0} (s : Channel) (w later : World) (on : OnLun) (z : LiveJob A) → jobs_in later ≡ jobs_in w → StaysOn on z → Moved s w later (Running on) z
moved_on s w later on z same stays = moved_still s w later (Running on) z same (λ n h. stays_there s on z n stays h) (λ x o. stays_own s w on x z stays o)

-- it comes to its LUN
own_started : {A : Type 0} (s : Channel) (w later : World) (x : LiveJob A) (j : Job) (l : Lun) → Place later (number s l) ≡ Some j → Owns s w x (Waiting j) → Place later (number s l) ≡ Some j
own_started s w later x j l here o = here

pub moved_started : {A : Type 0} (s : Channel) (w later : World) (j : Job) (l : Lun) (polls : ℕ) → LoadedIn s w later l j → Moved {A = A} s w later (Waiting j) (Running (record { lun = l; busy_polls = polls }))
moved_started {A} s w later j l polls h =
    record {
      frame = λ m before after. h.others m (some_apart after);
      only = λ n is. inr (subst (λ (k : ℕ). Place w k ≡ None) (some_same (number s l) n is) h.empty);
      own = own;
    }
  where
    own : (x : LiveJob A) → Owns s w x (Waiting j) → Owns s later x (Running (record { lun = l; busy_polls = polls }))
    own (Waiting k) o = h.here ∙ ap Some o
    own (Running on) o = absurd o
    own (Done d) o = absurd o
    own (Abandoned on) o = absurd o
    own (Refused r) o = absurd o

-- it is handed back
pub moved_back : {A : Type 0} (s : Channel) (w later : World) (j : Job) (r : LoadRefused A) → jobs_in later ≡ jobs_in w → Moved s w later (Waiting j) (Refused r)
moved_back {A} s w later j r same = moved_still s w later (Waiting j) (Refused r) same (λ n h. absurd (none_some h)) own
  where
    own : (x : LiveJob A) → Owns s w x (Waiting j) → Owns s w x (Refused r)
    own (Waiting k) o = tt
    own (Running on) o = absurd o
    own (Done d) o = absurd o
    own (Abandoned on) o = absurd o
    own (Refused q) o = absurd o

-- it has ended
pub moved_away : {A : Type 0} (s : Channel) (w later : World) (on : OnLun) (d : UnloadedJob A) → TakenFrom s w later on.lun d.job → Moved s w later (Running on) (Done d)
moved_away {A} s w later on d h =
    record { frame = λ m before after. h.others m (some_apart before); only = λ n is. absurd (none_some is); own = own }
  where
    own : (x : LiveJob A) → Owns s w x (Running on) → Owns s later x (Done d)
    own (Waiting j) o = subst (IsStill d.job) (some_same h.was j (sym h.here ∙ o)) h.still
    own (Running p) o = absurd o
    own (Done e) o = absurd o
    own (Abandoned p) o = absurd o
    own (Refused r) o = absurd o

-- a step, and then its end
pub moved_after : {A : Type 0} (s : Channel) (w later last : World) (on : OnLun) (z : LiveJob A) → jobs_in later ≡ jobs_in w → Moved s later last (Running on) z → Moved s w last (Running on) z
moved_after s w later last on z same m =
    record {
      frame = λ n before after. m.frame n before after ∙ ap (λ (js : List (Option Job)). get_or js n None) same;
      only = λ n is. at n (m.only n is);
      own = λ x o. m.own x (owns_still s w later x (Running on) same o);
    }
  where
    at : (n : ℕ) → (Some (number s on.lun) ≡ Some n) ⊎ (Place later n ≡ None) → (Some (number s on.lun) ≡ Some n) ⊎ (Place w n ≡ None)
    at n (inl h) = inl h
    at n (inr h) = inr (ap (λ (js : List (Option Job)). get_or js n None) (sym same) ∙ h)

-- 5. of a list

same_or_not : (a b : ℕ) → (a ≡ b) ⊎ (a ≡ b → ⊥)
same_or_not a b = at (a == b) refl
  where
    clash : (t : Bool) → t ≡ false → t ≡ true → ⊥
    clash t x y = cc

    at : (t : Bool) → (a == b) ≡ t → (a ≡ b) ⊎ (a ≡ b → ⊥)
    at true e = inl (eqb-true a b e)
    at false e = inr (λ same. clash (a == b) e (eq-eqb a b same))

-- where the slots of jobs have what they had
owns_frame : {A : Type 0} (s : Channel) (w later : World) (x y : LiveJob A) → ((m : ℕ) (j : Job) → spot s y ≡ Some m → Place w m ≡ Some j → Place later m ≡ Place w m) → Owns s w x y → Owns s later x y
owns_frame s w later (Waiting j) (Waiting k) f o = o
owns_frame s w later (Waiting j) (Running on) f o = f (number s on.lun) j refl o ∙ o
owns_frame s w later (Waiting j) (Done d) f o = o
owns_frame s w later (Waiting j) (Abandoned on) f o = f (number s on.lun) j refl o ∙ o
owns_frame s w later (Waiting j) (Refused r) f o = o
owns_frame s w later (Running on) y f o = absurd o
owns_frame s w later (Done d) y f o = absurd o
owns_frame s w later (Abandoned on) y f o = absurd o
owns_frame s w later (Refused r) y f o = absurd o

some_none : {X : Type 0} {x : X} → Some x ≡ None → ⊥
some_none e = cc

-- a job on a LUN isn't where none is
owns_somewhere : {A : Type 0} (s : Channel) (w : World) (x y : LiveJob A) (n : ℕ) → Owns s w x y → spot s y ≡ Some n → Place w n ≡ None → ⊥
owns_somewhere s w (Waiting j) (Waiting k) n o is none = none_some is
owns_somewhere s w (Waiting j) (Running on) n o is none = some_none (sym o ∙ (ap (Place w) (some_same (number s on.lun) n is) ∙ none))
owns_somewhere s w (Waiting j) (Done d) n o is none = none_some is
owns_somewhere s w (Waiting j) (Abandoned on) n o is none = some_none (sym o ∙ (ap (Place w) (some_same (number s on.lun) n is) ∙ none))
owns_somewhere s w (Waiting j) (Refused r) n o is none = none_some is
owns_somewhere s w (Running on) y n o is none = o
owns_somewhere s w (Done d) y n o is none = o
owns_somewhere s w (Abandoned on) y n o is none = o
owns_somewhere s w (Refused r) y n o is none = o

pub sound_moves : {A : Type 0} (s : Channel) (w later : World) (xs ys : List (LiveJob A)) (k : ℕ) (d z : LiveJob A) → k < length ys → Sound s w xs ys → Moved s w later (get_or ys k d) z → Sound s later xs (set ys k z)
sound_moves {A} s w later xs ys k d z inside sound m =
    record {
      own = λ i below e. own i (subst (λ (n : ℕ). i < n) size below) e (same_or_not i k);
      apart = λ a b first second e n x y. apart a b (subst (λ (c : ℕ). a < c) size first) (subst (λ (c : ℕ). b < c) size second) e n x y (same_or_not a k) (same_or_not b k);
    }
  where
    size : length (set ys k z) ≡ length ys
    size = length-set ys k z

    -- the job that moves, and the others
    here : (i : ℕ) (e : LiveJob A) → i ≡ k → get_or (set ys k z) i e ≡ z
    here i e same = ap (λ (n : ℕ). get_or (set ys k z) n e) same ∙ get_or-set_same ys k z e inside

    there : (i : ℕ) (e : LiveJob A) → (i ≡ k → ⊥) → get_or (set ys k z) i e ≡ get_or ys i e
    there i e differs = get_or-set_other ys k i z e differs

    was : (i : ℕ) (e : LiveJob A) → i ≡ k → get_or ys i e ≡ get_or ys k d
    was i e same = ap (λ (n : ℕ). get_or ys n e) same ∙ get_or_default ys k e d inside

    -- where it comes to no other has been
    comes : (i : ℕ) (e : LiveJob A) (n : ℕ) → i < length ys → spot s (get_or ys i e) ≡ Some n → spot s z ≡ Some n → i ≡ k
    comes i e n below is to = at (m.only n to)
      where
        at : (spot s (get_or ys k d) ≡ Some n) ⊎ (Place w n ≡ None) → i ≡ k
        at (inl old) = sound.apart i k below inside e n is (ap (spot s) (was k e refl) ∙ old)
        at (inr none) = absurd (owns_somewhere s w (get_or xs i e) (get_or ys i e) n (sound.own i below e) is none)

    own : (i : ℕ) → i < length ys → (e : LiveJob A) → (i ≡ k) ⊎ (i ≡ k → ⊥) → Owns s later (get_or xs i e) (get_or (set ys k z) i e)
    own i below e (inl same) =
        subst (λ (y : LiveJob A). Owns s later (get_or xs i e) y) (sym (here i e same)) (m.own (get_or xs i e) (subst (λ (y : LiveJob A). Owns s w (get_or xs i e) y) (was i e same) (sound.own i below e)))
    own i below e (inr differs) =
        subst (λ (y : LiveJob A). Owns s later (get_or xs i e) y) (sym (there i e differs))
        (owns_frame s w later (get_or xs i e) (get_or ys i e) (λ n j is has. m.frame n (λ old. differs (sound.apart i k below inside e n is (ap (spot s) (was k e refl) ∙ old))) (λ to. differs (comes i e n below is to))) (sound.own i below e))

    apart : (a b : ℕ) → a < length ys → b < length ys → (e : LiveJob A) (n : ℕ) → spot s (get_or (set ys k z) a e) ≡ Some n → spot s (get_or (set ys k z) b e) ≡ Some n → (a ≡ k) ⊎ (a ≡ k → ⊥) → (b ≡ k) ⊎ (b ≡ k → ⊥) → a ≡ b
    apart a b first second e n x y (inl p) (inl q) = p ∙ sym q
    apart a b first second e n x y (inl p) (inr q) = absurd (q (comes b e n second (ap (spot s) (sym (there b e q)) ∙ y) (ap (spot s) (sym (here a e p)) ∙ x)))
    apart a b first second e n x y (inr p) (inl q) = absurd (p (comes a e n first (ap (spot s) (sym (there a e p)) ∙ x) (ap (spot s) (sym (here b e q)) ∙ y)))
    apart a b first second e n x y (inr p) (inr q) = sound.apart a b first second e n (ap (spot s) (sym (there a e p)) ∙ x) (ap (spot s) (sym (there b e q)) ∙ y)

-- at first, where all wait
each_waits : {A : Type 0} (xs : List (LiveJob A)) (k : ℕ) (d : LiveJob A) → list_all waits xs ≡ true → k < length xs → waits (get_or xs k d) ≡ true
each_waits [] k d all below = absurd (omega (arith, below))
each_waits (x ∷ xs) zero d all below = (and_parts (waits x) (list_all waits xs) all).0
each_waits (x ∷ xs) (suc k) d all below = each_waits xs k d (and_parts (waits x) (list_all waits xs) all).1 (omega (arith, below))

own_waits : {A : Type 0} (s : Channel) (w : World) (x : LiveJob A) → waits x ≡ true → Owns s w x x
own_waits s w (Waiting j) h = refl
own_waits s w (Running on) h = cc
own_waits s w (Done d) h = cc
own_waits s w (Abandoned on) h = cc
own_waits s w (Refused r) h = cc

nowhere : {A : Type 0} (s : Channel) (x : LiveJob A) (n : ℕ) → waits x ≡ true → spot s x ≡ Some n → ⊥
nowhere s (Waiting j) n h is = none_some is
nowhere s (Running on) n h is = cc
nowhere s (Done d) n h is = cc
nowhere s (Abandoned on) n h is = cc
nowhere s (Refused r) n h is = cc

pub sound_begins : {A : Type 0} (s : Channel) (w : World) (xs : List (LiveJob A)) → list_all waits xs ≡ true → Sound s w xs xs
sound_begins s w xs all =
    record {
      own = λ k below d. own_waits s w (get_or xs k d) (each_waits xs k d all below);
      apart = λ i k first second d n x y. absurd (nowhere s (get_or xs i d) n (each_waits xs i d all first) x);
    }

itself : {A : Type 0} (s : Channel) (w : World) (x y : LiveJob A) → Owns s w x y → IsItself x y
itself s w (Waiting j) (Waiting k) o = tt
itself s w (Waiting j) (Running on) o = tt
itself s w (Waiting j) (Done d) o = o
itself s w (Waiting j) (Abandoned on) o = tt
itself s w (Waiting j) (Refused r) o = tt
itself s w (Running on) y o = absurd o
itself s w (Done d) y o = absurd o
itself s w (Abandoned on) y o = absurd o
itself s w (Refused r) y o = absurd o

pub themselves : {A : Type 0} (s : Channel) (w : World) (xs ys : List (LiveJob A)) → Sound s w xs ys → AreThemselves xs ys
themselves s w xs ys sound k below d = itself s w (get_or xs k d) (get_or ys k d) (sound.own k below d)

-- 6. along runs

pub keeps_none : {A : Type 0} (v : LiveView) (xs : List (LiveJob A)) → KeepsSound v [] xs xs
keeps_none v xs w ran at law is zs sound = subst (λ (r : Ran). Sound (channel_at v) r.world zs xs) (some_same (record { world = w; replies = [] }) ran is) sound

pub keeps_turn : {A : Type 0} (v : LiveView) (events : List LiveEvent) (ys : List (LiveJob A)) (k : ℕ) (d z : LiveJob A) → k < length ys → Moves v events (get_or ys k d) z → KeepsSound v events ys (set ys k z)
keeps_turn v events ys k d z inside moves w ran at law is xs sound = sound_moves (channel_at v) w ran.world xs ys k d z inside sound (moves w ran at law is)

-- two runs, one after the other
pub record InTwo (v u : LiveView) (es fs : List LiveEvent) (w : World) (ran : Ran) : Type 0 where
  pub first : Ran
  pub is_first : run_live (channel_at v) es w ≡ Some first
  pub at : IsLiveAt u first.world
  pub law : LawfulWorld (channel_at u) first.world
  pub channel : channel_at u ≡ channel_at v
  pub second : Ran
  pub is_second : run_live (channel_at u) fs first.world ≡ Some second
  pub world : second.world ≡ ran.world

pub in_two : (v u t : LiveView) (es fs : List LiveEvent) (rs ss : List Reply) (w : World) (ran : Ran) → IsLiveRun v es rs u → IsLiveRun u fs ss t → IsLiveAt v w → LawfulWorld (channel_at v) w → run_live (channel_at v) (es ++ fs) w ≡ Some ran → InTwo v u es fs w ran
in_two v u t es fs rs ss w ran one other at law is =
    let a = one w at law in
    let law_there : LawfulWorld (channel_at u) a.ran.world = subst (λ (s : Channel). LawfulWorld s a.ran.world) (sym a.channel) a.lawful in
    let b = other a.ran.world a.is_at law_there in
    let there : run_live (channel_at v) fs a.ran.world ≡ Some b.ran = subst (λ (s : Channel). run_live s fs a.ran.world ≡ Some b.ran) a.channel b.is_ran in
    let whole = run_more (channel_at v) es fs w a.ran b.ran a.is_ran there in
    record {
      first = a.ran;
      is_first = a.is_ran;
      at = a.is_at;
      law = law_there;
      channel = a.channel;
      second = b.ran;
      is_second = b.is_ran;
      world = ap (λ (r : Ran). r.world) (some_same (run_of a.ran b.ran) ran (sym whole ∙ is));
    }

pub keeps_more : {A : Type 0} (v u t : LiveView) (es fs : List LiveEvent) (rs ss : List Reply) (xs ys zs : List (LiveJob A)) → IsLiveRun v es rs u → IsLiveRun u fs ss t → KeepsSound v es xs ys → KeepsSound u fs ys zs → KeepsSound v (es ++ fs) xs zs
keeps_more v u t es fs rs ss xs ys zs one other first second w ran at law is ws sound =
    let h = in_two v u t es fs rs ss w ran one other at law is in
    let middle = first w h.first at law h.is_first ws sound in
    let there : Sound (channel_at u) h.first.world ws ys = subst (λ (s : Channel). Sound s h.first.world ws ys) (sym h.channel) middle in
    let last = second h.first.world h.second h.at h.law h.is_second ws there in
    subst (λ (x : World). Sound (channel_at v) x ws zs) h.world (subst (λ (s : Channel). Sound s h.second.world ws zs) h.channel last)

-- one event
pub moves_by_event : {A : Type 0} (v u : LiveView) (e : LiveEvent) (reply : Reply) (y z : LiveJob A) → IsLiveEvent v e reply u → ((w later : World) → LawfulWorld (channel_at v) w → OneEvent (channel_at v) w e reply later → Moved (channel_at v) w later y z) → Moves v (e ∷ []) y z
moves_by_event {A} v u e reply y z event move w ran at law is =
    let r = event w at law in
    let same : r.ran ≡ ran = some_same r.ran ran (sym r.is_ran ∙ is) in
    subst (λ (q : Ran). Moved (channel_at v) w q.world y z) same (move w r.ran.world law (one_event v u w e reply r))
