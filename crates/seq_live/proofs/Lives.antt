-- What the calls of a sequencer on a real bus do, told of its state, its slots and its holder.
use Rattle.std.proofs.Common.{◌≡◌, ℕ, ◌*◌, ◌^◌, ◌<◌, ◌≤◌, Bool, true, false, cond, List, [], ◌∷◌, Option, Some, None, is_some, refl, sym, ap, ◌∙◌, subst, length, get_or, set, replicate}
use Rattle.nand_geometry.specs.declared.parts.Parts.{Parts}
use Rattle.nand_geometry.specs.Limits.{InLimits}
use Rattle.onfi_cycle.specs.declared.item.Failures.{Failures}
use Rattle.onfi_cycle.specs.declared.lun.Lun.{Lun}
use Rattle.onfi_cycle.specs.declared.item.Item.{Item}
use Rattle.onfi_cycle.specs.declared.item.Item.TheVariants.{Rdy, Ard}
use Rattle.onfi_cycle.specs.Permitted.{is_permitted}
use Rattle.onfi_cycle.specs.Channel.{Channel, IsChannel}
use Rattle.onfi_cycle.specs.State.{BusView, Follows}
use Rattle.onfi_cycle.proofs.Following.{count_of}
use Rattle.micro_program.specs.Places.{IsShaped}
use Rattle.micro_program.specs.Program.{Job}
use Rattle.target_bus.specs.Bus.{Traced, channel_on}
use Rattle.nand_geometry.proofs.PageLemmas.{parameters_have_their_length}
use Rattle.seq_core.specs.declared.load_fault.LoadFault.{LoadFault}
use Rattle.seq_core.specs.declared.stepped.Stepped.{Stepped}
use Rattle.seq_core.specs.declared.stepped.Stepped.TheVariants.{Empty, Held, Ended}
use Rattle.seq_core.specs.declared.unload_fault.UnloadFault.TheVariants.{NoJob, StillRunning}
use Rattle.seq_core.specs.declared.slot_state.SlotState.TheVariants as state
use Rattle.seq_core.specs.World.{Slot, World, slot_of, fresh}
use Rattle.seq_core.specs.Event.{IsVerified}
use Rattle.seq_core.specs.Reply.{Reply, ToLoad, ToStep, ToReady, ToArrayReady, ToUnload, Loaded, NotLoaded, Unloaded, NotUnloaded}
use Rattle.seq_core.specs.After.{After, after, is_held, stands}
use Rattle.seq_core.specs.Lawful.{LawfulWorld}
use Rattle.seq_core.specs.Headline.{AddsItsOwn}
use Rattle.micro_program.specs.Safe.{AddsOwn}
use Rattle.target_bus.proofs.Opened.{opened_lengths}
use Rattle.seq_live.specs.declared.live.StepGoingOn.{StepGoingOn}
use Rattle.seq_core.specs.Progress.{Progress, fresh_progress}
use Rattle.seq_core.specs.Shows.{CoreView, Keeps, KeepsAll, IsAt}
use Rattle.seq_core.specs.Calls.{IsCore, IsEvent, slot_state, with_item}
use Rattle.seq_core.proofs.Calls.{keeps_lun, has_slot}
use Rattle.seq_core.proofs.Main.{fresh_is_lawful}
use Rattle.seq_core.proofs.Replies.{ready_event, array_ready_event}
use Rattle.seq_core.proofs.Cores.{place_of, no_slot, has_code, new_is_fresh, refused_now, loaded_now, none_unloaded, early_now, unloaded_now}
use Rattle.seq_live.specs.Event.{LiveEvent, Load, Step, Ready, ArrayReady, Unload, plain}
use Rattle.seq_live.specs.After.{after_live, after_answers, after_slot_answers, Answers, IsAnswered}
use Rattle.seq_live.specs.Kept.{LiveView, channel_at, core_at, IsLiveAt, IsLive}
use Rattle.seq_live.specs.Calls.{LiveRan, IsLiveRun, IsLiveEvent, live_slot, live_load_fault, KeepsSlots}

-- 1. what is kept, as a sequencer on modelled dies would keep it

pub core_now : (v : LiveView) (w : World) → IsChannel (channel_at v) → IsLiveAt v w → LawfulWorld (channel_at v) w → IsCore (core_at v w.past)
core_now v w is at law = record { is_channel = is; world = w; is_at = at.at; lawful = law }

pub live_core : (v : LiveView) (k : IsLive v) → IsCore (core_at v k.world.past)
live_core v k = core_now v k.world k.is_channel k.is_at k.lawful

abbrev pub traced : LiveView → List Item → Traced
traced v past = record { geometry = v.state.geometry; targets = length v.state.targets; opened = []; past = past; room = 0 }

-- a state that follows a past follows it on a channel of its own geometry and number of targets
pub follows_itself : (g : Parts) (n : ℕ) (s : BusView) (past : List Item) → Follows g n s past → Follows s.geometry (length s.targets) s past
follows_itself g n s past f =
    subst (λ (m : ℕ). Follows s.geometry m s past) (sym (count_of g n s past f)) (subst (λ (h : Parts). Follows h n s past) (sym f.geometry) f)

pub same_channel : (g : Parts) (n : ℕ) (s : BusView) (past : List Item) → Follows g n s past → channel_on s.geometry (length s.targets) [] ≡ channel_on g n []
same_channel g n s past f = ap (λ (h : Parts). channel_on h (length s.targets) []) f.geometry ∙ ap (λ (m : ℕ). channel_on g m []) (count_of g n s past f)

-- where the slots and the holder are those of a world, and the state follows its past
pub at_world : (later : LiveView) (c : CoreView) (g : Parts) (n : ℕ) (next : World) → later.slots ≡ c.slots → later.holder ≡ c.holder → IsAt c next → Follows g n later.state c.past → IsLiveAt later next
at_world later c g n next slots holder at f =
    let follows : Follows g n later.state next.past = subst (Follows g n later.state) at.past f in
    record {
      follows = follows_itself g n later.state next.past follows;
      at = record { past = refl; holder = holder ∙ at.holder; slots = subst (KeepsAll next.slots) (sym slots) at.slots };
    }

-- 2. one event

pub ran_one : (v later : LiveView) (w : World) (e : LiveEvent) (reply : Reply) (a : After) → IsAnswered (channel_at v) w e → after_live (channel_at v) w e ≡ Some a → a.reply ≡ reply → IsLiveAt later a.world → AddsItsOwn (channel_at v) (plain e) w.past a.world.past → LawfulWorld (channel_at v) a.world → channel_at later ≡ channel_at v → LiveRan v w (e ∷ []) (reply ∷ []) later
ran_one v later w e reply a answered is replied at own law channel =
    record {
      answered = (answered, λ b h. tt);
      ran = record { world = a.world; replies = a.reply ∷ [] };
      is_ran = rw is refl;
      replied = ap (λ (r : Reply). r ∷ []) replied;
      is_at = at;
      own = (a, is, own, tt);
      lawful = law;
      channel = channel;
    }

-- an event that is as on a model
pub ran_plain : (v later : LiveView) (w : World) (e : LiveEvent) (reply : Reply) (c : CoreView) → IsLiveAt v w → LawfulWorld (channel_at v) w → IsAnswered (channel_at v) w e → after_live (channel_at v) w e ≡ after (channel_at v) w (plain e) → IsEvent (core_at v w.past) (plain e) reply c → ((next : World) → IsAt c next → IsLiveAt later next) → channel_at later ≡ channel_at v → LiveRan v w (e ∷ []) (reply ∷ []) later
ran_plain v later w e reply c at law answered same event reached channel =
    let k = event w at.at law in
    ran_one v later w e reply k.next answered (same ∙ k.is_next) k.replied (reached k.next.world k.is_at) k.own k.lawful channel

-- a step that changes nothing
nothing_added : (s : Channel) (l : Lun) (past : List Item) → AddsOwn s l past past
nothing_added s l past = record { new = []; is_new = refl; own = tt }

ran_at_rest : (v : LiveView) (w : World) (l : Lun) (bytes : List ℕ) (answer : Stepped) → IsLiveAt v w → LawfulWorld (channel_at v) w → Answers (channel_at v) w l bytes → after_answers (channel_at v) w l bytes (slot_of (channel_at v) w l) ≡ stands w answer → LiveRan v w (Step l bytes ∷ []) (ToStep answer ∷ []) v
ran_at_rest v w l bytes answer at law answers is =
    ran_one v v w (Step l bytes) (ToStep answer) (record { world = w; reply = ToStep answer }) answers is refl at (nothing_added (channel_at v) l w.past) law refl

slot_is_empty : (o : Option Slot) → Keeps o None → o ≡ None
slot_is_empty None k = refl
slot_is_empty (Some x) k = absurd k

none_some : {x : Slot} → None ≡ Some x → ⊥
none_some e = cc

pub empty_rest : (v : LiveView) (l : Lun) → state.Empty ≡ slot_state (live_slot v l) → (bytes : List ℕ) → IsLiveEvent v (Step l bytes) (ToStep Empty) v
empty_rest v l h bytes w at law =
    let none : slot_of (channel_at v) w l ≡ None = slot_is_empty (slot_of (channel_at v) w l) (subst (λ (o : Option Progress). Keeps (slot_of (channel_at v) w l) o) (no_slot (live_slot v l) h) (keeps_lun (core_at v w.past) w l at.at)) in
    ran_at_rest v w l bytes Empty at law (λ x is code free. absurd (none_some (sym none ∙ is))) (ap (after_answers (channel_at v) w l bytes) none)

some_same : {X : Type 0} (x y : X) → Some x ≡ Some y → x ≡ y
some_same x y h = cc

-- a slot whose code is known
record HasKnown (v : LiveView) (w : World) (l : Lun) (code : Option ℕ) : Type 0 where
  x : Slot
  is : slot_of (channel_at v) w l ≡ Some x
  code_is : x.code ≡ code

known : (v : LiveView) (w : World) (l : Lun) (code : Option ℕ) → IsLiveAt v w → (p : Progress) → live_slot v l ≡ Some p → p.code ≡ code → HasKnown v w l code
known v w l code at p is c =
    let h = has_slot (core_at v w.past) w l p at.at is in
    record { x = h.x; is = h.is; code_is = sym h.kept.code ∙ c }

never_both : {code : ℕ} (x : Option ℕ) → x ≡ Some code → x ≡ None → ⊥
never_both x a b = cc

pub ended_rest : (v : LiveView) (l : Lun) (code : ℕ) → state.Ended code ≡ slot_state (live_slot v l) → (bytes : List ℕ) → IsLiveEvent v (Step l bytes) (ToStep Ended) v
ended_rest v l code h bytes w at law =
    let s = has_code (live_slot v l) (Some code) h in
    let k = known v w l (Some code) at s.v s.is s.code_is in
    ran_at_rest v w l bytes Ended at law (λ x is c free. absurd (never_both x.code (ap (λ (y : Slot). y.code) (some_same x k.x (sym is ∙ k.is)) ∙ k.code_is) c))
    (ap (after_answers (channel_at v) w l bytes) k.is ∙ ap (after_slot_answers (channel_at v) w l bytes k.x) k.code_is)

-- what a LUN that may step isn't
pub not_empty : state.Empty ≡ state.Running → ⊥
not_empty e = cc

pub not_ended : {code : ℕ} → state.Ended code ≡ state.Running → ⊥
not_ended e = cc

pub not_held : (b : Bool) → b ≡ true → b ≡ false → ⊥
not_held b x y = cc

pub held_rest : (v : LiveView) (l : Lun) → state.Running ≡ slot_state (live_slot v l) → is_held v.holder l ≡ true → (bytes : List ℕ) → IsLiveEvent v (Step l bytes) (ToStep Held) v
held_rest v l h held bytes w at law =
    let s = has_code (live_slot v l) None h in
    let k = known v w l None at s.v s.is s.code_is in
    let taken : is_held w.holder l ≡ true = subst (λ (o : Option Lun). is_held o l ≡ true) at.at.holder held in
    ran_at_rest v w l bytes Held at law (λ x is c free. absurd (not_held (is_held w.holder l) taken free))
    (ap (after_answers (channel_at v) w l bytes) k.is ∙ (ap (after_slot_answers (channel_at v) w l bytes k.x) k.code_is ∙ rw taken refl))

-- 3. loads and unloads

pub refused : (v : LiveView) (l : Lun) (j : Job) (fault : LoadFault) → IsLive v → IsVerified j → live_load_fault v l j ≡ Some fault → IsLiveEvent v (Load l j) (ToLoad (NotLoaded fault j)) v
refused v l j fault k verified h w at law =
    ran_plain v v w (Load l j) (ToLoad (NotLoaded fault j)) (core_at v w.past) at law tt refl
    (refused_now (core_at v w.past) l j fault (core_now v w k.is_channel at law) verified h)
    (λ next there. at_world v (core_at v w.past) v.state.geometry (length v.state.targets) next refl refl there at.follows) refl

pub loaded : (v : LiveView) (later : List (Option Progress)) (l : Lun) (place : ℕ) (j : Job) → IsLive v → IsVerified j → IsShaped j.text.words → j.base < 2 ^ 32 → live_load_fault v l j ≡ None → Some place ≡ place_of (core_at v []) l → later ≡ set v.slots place (Some (fresh_progress j)) → IsLiveEvent v (Load l j) (ToLoad Loaded) (record v { slots = later })
loaded v later l place j k verified shaped base h there is w at law =
    ran_plain v (record v { slots = later }) w (Load l j) (ToLoad Loaded) (core_at (record v { slots = later }) w.past) at law tt refl
    (loaded_now (traced v w.past) v.slots later v.holder l place j (core_now v w k.is_channel at law) verified shaped base h there is)
    (λ next there. at_world (record v { slots = later }) (core_at (record v { slots = later }) w.past) v.state.geometry (length v.state.targets) next refl refl there at.follows) refl

pub not_unloaded : (v : LiveView) (l : Lun) → IsLive v → state.Empty ≡ slot_state (live_slot v l) → IsLiveEvent v (Unload l) (ToUnload (NotUnloaded NoJob)) v
not_unloaded v l k h w at law =
    ran_plain v v w (Unload l) (ToUnload (NotUnloaded NoJob)) (core_at v w.past) at law tt refl
    (none_unloaded (core_at v w.past) l (core_now v w k.is_channel at law) h)
    (λ next there. at_world v (core_at v w.past) v.state.geometry (length v.state.targets) next refl refl there at.follows) refl

pub too_early : (v : LiveView) (l : Lun) → IsLive v → state.Running ≡ slot_state (live_slot v l) → IsLiveEvent v (Unload l) (ToUnload (NotUnloaded StillRunning)) v
too_early v l k h w at law =
    ran_plain v v w (Unload l) (ToUnload (NotUnloaded StillRunning)) (core_at v w.past) at law tt refl
    (early_now (core_at v w.past) l (core_now v w k.is_channel at law) h)
    (λ next there. at_world v (core_at v w.past) v.state.geometry (length v.state.targets) next refl refl there at.follows) refl

pub unloaded : (v : LiveView) (later : List (Option Progress)) (l : Lun) (place code : ℕ) (p : Progress) → IsLive v → Some place ≡ place_of (core_at v []) l → state.Ended code ≡ slot_state (live_slot v l) → get_or v.slots place None ≡ Some p → later ≡ set v.slots place None → IsLiveEvent v (Unload l) (ToUnload (Unloaded p.job code)) (record v { slots = later })
unloaded v later l place code p k there h found is w at law =
    ran_plain v (record v { slots = later }) w (Unload l) (ToUnload (Unloaded p.job code)) (core_at (record v { slots = later }) w.past) at law tt refl
    (unloaded_now (traced v w.past) v.slots later v.holder l place code p (core_now v w k.is_channel at law) there h found is)
    (λ next there. at_world (record v { slots = later }) (core_at (record v { slots = later }) w.past) v.state.geometry (length v.state.targets) next refl refl there at.follows) refl

-- 4. readies

-- a state went on by an item where that is permitted
abbrev pub WentOnIf : BusView → BusView → Item → Bool → Type 0
WentOnIf old new i came =
    (g : Parts) (n : ℕ) (past : List Item) → Follows g n old past → (came ≡ is_permitted g n past i) × Follows g n new (cond came (i ∷ past) past)

with_state_channel : (v : LiveView) (s : BusView) (w : World) (i : Item) (came : Bool) → IsLiveAt v w → WentOnIf v.state s i came → channel_on s.geometry (length s.targets) [] ≡ channel_at v
with_state_channel v s w i came at h =
    same_channel v.state.geometry (length v.state.targets) s (cond came (i ∷ w.past) w.past) (h v.state.geometry (length v.state.targets) w.past at.follows).1

pub ready_ran : (v : LiveView) (s : BusView) (l : Lun) (fail : Failures) (came : Bool) → IsLive v → WentOnIf v.state s (Rdy l.ce l.lun fail) came → IsLiveEvent v (Ready l fail) (ToReady came) (record v { state = s })
ready_ran v s l fail came k h w at law =
    let i : Item = Rdy l.ce l.lun fail in
    let now = h v.state.geometry (length v.state.targets) w.past at.follows in
    ran_plain v (record v { state = s }) w (Ready l fail) (ToReady came) (with_item (core_at v w.past) i came) at law tt refl
    (ready_event (core_at v w.past) l fail came k.is_channel now.0)
    (λ next there. at_world (record v { state = s }) (with_item (core_at v w.past) i came) v.state.geometry (length v.state.targets) next refl refl there now.1)
    (with_state_channel v s w i came at h)

pub array_ready_ran : (v : LiveView) (s : BusView) (l : Lun) (fail came : Bool) → IsLive v → WentOnIf v.state s (Ard l.ce l.lun fail) came → IsLiveEvent v (ArrayReady l fail) (ToArrayReady came) (record v { state = s })
array_ready_ran v s l fail came k h w at law =
    let i : Item = Ard l.ce l.lun fail in
    let now = h v.state.geometry (length v.state.targets) w.past at.follows in
    ran_plain v (record v { state = s }) w (ArrayReady l fail) (ToArrayReady came) (with_item (core_at v w.past) i came) at law tt refl
    (array_ready_event (core_at v w.past) l fail came k.is_channel now.0)
    (λ next there. at_world (record v { state = s }) (with_item (core_at v w.past) i came) v.state.geometry (length v.state.targets) next refl refl there now.1)
    (with_state_channel v s w i came at h)

-- 5. what is kept stays so

pub live_after : (v later : LiveView) (events : List LiveEvent) (replies : List Reply) → IsLive v → IsLiveRun v events replies later → IsLive later
live_after v later events replies k run =
    let r = run k.world k.is_at k.lawful in
    let targets : length later.state.targets ≡ length v.state.targets = ap (λ (s : Channel). s.targets) r.channel in
    record {
      is_channel = subst IsChannel (sym r.channel) k.is_channel;
      most = subst (λ (n : ℕ). n ≤ 4) (sym targets) k.most;
      world = r.ran.world;
      is_at = r.is_at;
      lawful = subst (λ (s : Channel). LawfulWorld s r.ran.world) (sym r.channel) r.lawful;
    }

-- 6. a new one

pub new_at : (s : BusView) (slots : List (Option Progress)) (going : Option StepGoingOn) (g : Parts) (targets count : ℕ) → Follows g targets s [] → slots ≡ replicate count None → count ≡ targets * g.luns → IsLiveAt (record { state = s; slots = slots; holder = None; going = going }) (fresh (channel_on s.geometry (length s.targets) []))
new_at s slots going g targets count f slots_are is =
    let n : ℕ = length s.targets in
    let counted : count ≡ n * s.geometry.luns = is ∙ (ap (λ (m : ℕ). m * g.luns) (sym (count_of g targets s [] f)) ∙ ap (λ (h : Parts). n * h.luns) (sym f.geometry)) in
    record { follows = follows_itself g targets s [] f; at = new_is_fresh (record { geometry = s.geometry; targets = n; opened = []; past = []; room = 0 }) slots count refl slots_are counted }

pub is_channel_of : (g : Parts) (n : ℕ) → InLimits g → IsChannel (channel_on g n [])
is_channel_of g n limits =
    record { limits = limits; parameters = parameters_have_their_length g; pages = λ l p. opened_lengths g [] [] l p refl refl (λ k d e. cc) }

pub new_is_live : (s : BusView) (slots : List (Option Progress)) (going : Option StepGoingOn) (g : Parts) (targets count : ℕ) → InLimits g → targets ≤ 4 → Follows g targets s [] → slots ≡ replicate count None → count ≡ targets * g.luns → IsLive (record { state = s; slots = slots; holder = None; going = going })
new_is_live s slots going g targets count limits most f slots_are is =
    record {
      is_channel = subst IsChannel (sym (same_channel g targets s [] f)) (is_channel_of g targets limits);
      most = subst (λ (n : ℕ). n ≤ 4) (sym (count_of g targets s [] f)) most;
      world = fresh (channel_on s.geometry (length s.targets) []);
      is_at = new_at s slots going g targets count f slots_are is;
      lawful = fresh_is_lawful (channel_on s.geometry (length s.targets) []);
    }

pub is_of : (g : Parts) (targets : ℕ) (s : BusView) → Follows g targets s [] → (s.geometry ≡ g) × (length s.targets ≡ targets)
is_of g targets s f = (f.geometry, count_of g targets s [] f)

-- a ready leaves the jobs, the LUN that has the bus and the step that goes on
pub ready_stays : (v : LiveView) (s : BusView) (i : Item) (came : Bool) → IsLive v → WentOnIf v.state s i came → KeepsSlots v (record v { state = s })
ready_stays v s i came k h = record { channel = with_state_channel v s k.world i came k.is_at h; slots = refl; holder = refl; going = refl }

pub none_going : (going : Option StepGoingOn) (told : Bool) → told ≡ is_some going → told ≡ false → going ≡ None
none_going None told h e = refl
none_going (Some step) true h e = cc
none_going (Some step) false h e = cc
