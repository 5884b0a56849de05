-- What the calls of a sequencer do, told of its bus, its slots and its holder.
use Rattle.std.proofs.Common.{◌≡◌, ℕ, zero, suc, ◌+◌, ◌*◌, ◌^◌, ◌<◌, ◌≤◌, ◌↔◌, Bool, true, false, not, cond, List, [], ◌∷◌, ◌++◌, Option, Some, None, is_some, is_none, refl, sym, ap, ◌∙◌, subst, arith, length, get_or, set, replicate, IfSome, IsTrue}
use Rattle.std.proofs.lemmas.Nat.{mul-le}
use Rattle.nand_geometry.specs.declared.parts.Parts.{Parts}
use Rattle.onfi_cycle.specs.declared.item.Failures.{Failures}
use Rattle.onfi_cycle.specs.declared.lun.Lun.{Lun}
use Rattle.onfi_cycle.specs.declared.item.Item.{Item}
use Rattle.onfi_cycle.specs.declared.item.Item.TheVariants.{Rdy, Ard}
use Rattle.onfi_cycle.specs.declared.forbidden.Forbidden.{Forbidden}
use Rattle.onfi_cycle.specs.Permitted.{broken, is_permitted}
use Rattle.onfi_cycle.specs.Channel.{Channel, IsChannel, is_there}
use Rattle.micro_program.specs.Places.{IsShaped}
use Rattle.micro_program.specs.Program.{Job}
use Rattle.target_bus.specs.Bus.{Traced, channel_of, IsNext}
use Rattle.seq_core.specs.declared.load_fault.LoadFault.{LoadFault}
use Rattle.seq_core.specs.declared.load_fault.LoadFault.TheVariants.{SlotTaken, OtherLun}
use Rattle.seq_core.specs.declared.stepped.Stepped.{Stepped}
use Rattle.seq_core.specs.declared.stepped.Stepped.TheVariants.{Empty, Held, Ended, HandedOver, NotReady, Went}
use Rattle.seq_core.specs.declared.unload_fault.UnloadFault.TheVariants.{NoJob, StillRunning}
use Rattle.seq_core.specs.World.{number, fresh}
use Rattle.seq_core.specs.Event.{Event, Load, Step, Ready, ArrayReady, Unload, IsVerified}
use Rattle.seq_core.specs.Reply.{Reply, ToLoad, ToStep, ToReady, ToArrayReady, ToUnload, Loaded, NotLoaded, Unloaded, NotUnloaded}
use Rattle.seq_core.specs.After.{is_held}
use Rattle.seq_core.specs.Lawful.{HasSeat, has_bus}
use Rattle.seq_core.specs.Progress.{Progress, fresh_progress}
use Rattle.seq_core.specs.Shows.{CoreView, channel_in, KeepsAll, IsAt}
use Rattle.seq_core.specs.declared.slot_state.SlotState.{SlotState}
use Rattle.seq_core.specs.declared.slot_state.SlotState.TheVariants as state
use Rattle.seq_core.specs.Calls.{IsCore, IsEvent, CanStep, Steps, slot_at, state_of, has_job, slot_state, all_are_empty, load_fault_at, holder_after, TellsBus, fault_by, stepped_view, with_item, with_slot_at, WouldAnswer}
use Rattle.seq_core.specs.Playing.{IsSame, IsUntouched}
use Rattle.seq_core.proofs.Main.{fresh_is_lawful, lawful_slot}
use Rattle.seq_core.proofs.Slots.{number_below, same_lun_self}
use Rattle.seq_core.proofs.Calls.{keeps_count, has_slot, some_same, empty_step, ended_step, held_step, going_step}
use Rattle.seq_core.proofs.Replies.{refused_load, done_load, ready_event, array_ready_event, empty_unload, early_unload, done_unload, can_step, is_core_after}

-- what is kept by a bus, slots and a holder
abbrev pub view_of : Traced → List (Option Progress) → Option Lun → CoreView
view_of b slots holder = record { geometry = b.geometry; targets = b.targets; opened = b.opened; past = b.past; slots = slots; holder = holder }

-- the number of a LUN that is there
abbrev pub place_of : CoreView → Lun → Option ℕ
place_of c l = cond (is_there (channel_in c) l) (Some (number (channel_in c) l)) None

-- the same bus, slots and holder
pub untouched : (b d : Traced) (slots later : List (Option Progress)) (holder : Option Lun) → IsUntouched b d → later ≡ slots → view_of d later holder ≡ view_of b slots holder
untouched b d slots later holder u is =
    let g : d.geometry ≡ b.geometry = ap (λ (s : Channel). s.geometry) u.same in
    let t : d.targets ≡ b.targets = ap (λ (s : Channel). s.targets) u.same in
    let o : d.opened ≡ b.opened = u.opened in
    let p : d.past ≡ b.past = u.past in
    λ i. record { geometry = g i; targets = t i; opened = o i; past = p i; slots = is i; holder = holder }

pub luns_place : (c : CoreView) (l : Lun) (targets luns : ℕ) (place : Option ℕ) → targets ≡ c.targets → luns ≡ c.geometry.luns → ((s : Channel) → s.targets ≡ targets → s.geometry.luns ≡ luns → place ≡ cond (is_there s l) (Some (number s l)) None) → place ≡ place_of c l
luns_place c l targets luns place t n h = h (channel_in c) (sym t) (sym n)

-- a LUN that is there has one of at most sixteen slots
pub few_places : (c : CoreView) (l : Lun) (place : Option ℕ) → IsCore c → c.targets ≤ 4 → c.geometry.luns ≤ 4 → place ≡ place_of c l → IfSome place (λ k. (k < length c.slots) × (k < 16))
few_places c l place core targets luns h = subst (λ (o : Option ℕ). IfSome o (λ k. (k < length c.slots) × (k < 16))) (sym h) (at (is_there (channel_in c) l) refl)
  where
    at : (b : Bool) → is_there (channel_in c) l ≡ b → IfSome (cond b (Some (number (channel_in c) l)) None) (λ k. (k < length c.slots) × (k < 16))
    at false e = tt
    at true e =
        let below = number_below (channel_in c) l e in
        let size : length c.slots ≡ c.targets * c.geometry.luns = sym (keeps_count core.world.slots c.slots core.is_at.slots) ∙ core.lawful.size in
        let most : c.targets * c.geometry.luns ≤ 4 * 4 = mul-le c.targets c.geometry.luns 4 4 targets luns in
        (omega (arith, below, size), omega (arith, below, most))

-- 1. slots by their numbers

pub no_place_no_slot : (c : CoreView) (l : Lun) → None ≡ place_of c l → slot_at c l ≡ None
no_place_no_slot c l h = at (is_there (channel_in c) l) h
  where
    at : (b : Bool) → None ≡ cond b (Some (number (channel_in c) l)) None → cond b (get_or c.slots (number (channel_in c) l) None) None ≡ None
    at true h = cc
    at false h = refl

pub slot_of_place : (c : CoreView) (l : Lun) (k : ℕ) → Some k ≡ place_of c l → (slot_at c l ≡ get_or c.slots k None) × (k ≡ number (channel_in c) l)
slot_of_place c l k h = at (is_there (channel_in c) l) h
  where
    at : (b : Bool) → Some k ≡ cond b (Some (number (channel_in c) l)) None → (cond b (get_or c.slots (number (channel_in c) l) None) None ≡ get_or c.slots k None) × (k ≡ number (channel_in c) l)
    at true h = let same : k ≡ number (channel_in c) l = cc in (ap (λ (n : ℕ). get_or c.slots n None) (sym same), same)
    at false h = cc

pub code_without : (c : CoreView) (l : Lun) → None ≡ place_of c l → state.Empty ≡ slot_state (slot_at c l)
code_without c l h = ap slot_state (sym (no_place_no_slot c l h))

pub never_there : (c : CoreView) (l : Lun) → None ≡ place_of c l → state.Running ≡ slot_state (slot_at c l) → ⊥
never_there c l h running = let none = code_without c l h in clash (none ∙ sym running)
  where
    clash : state.Empty ≡ state.Running → ⊥
    clash e = cc

pub state_of_place : (c : CoreView) (l : Lun) (k : ℕ) (slots : List (Option Progress)) (is_now : SlotState) → Some k ≡ place_of c l → slots ≡ c.slots → is_now ≡ slot_state (get_or slots k None) → is_now ≡ slot_state (slot_at c l)
state_of_place c l k slots is_now h same is =
    is ∙ (ap (λ (ss : List (Option Progress)). slot_state (get_or ss k None)) same ∙ ap slot_state (sym (slot_of_place c l k h).0))

-- what a code tells of a slot
pub no_slot : (o : Option Progress) → state.Empty ≡ slot_state o → o ≡ None
no_slot None h = refl
no_slot (Some v) h = at v.code h
  where
    at : (code : Option ℕ) → state.Empty ≡ state_of code → Some v ≡ None
    at None e = cc
    at (Some n) e = cc

pub record HasCode (o : Option Progress) (code : Option ℕ) : Type 0 where
  pub v : Progress
  pub is : o ≡ Some v
  pub code_is : v.code ≡ code

same_code : (a b : Option ℕ) → state_of a ≡ state_of b → b ≡ a
same_code None None h = refl
same_code None (Some n) h = cc
same_code (Some n) None h = cc
same_code (Some n) (Some m) h = cc

never_bare : (o : Option Progress) (code : Option ℕ) → state_of code ≡ state.Empty → HasCode o code
never_bare o None h = cc
never_bare o (Some n) h = cc

pub has_code : (o : Option Progress) (code : Option ℕ) → state_of code ≡ slot_state o → HasCode o code
has_code None code h = never_bare None code h
has_code (Some v) code h = record { v = v; is = refl; code_is = same_code code v.code h }

-- 2. a new sequencer

keeps_none : (n : ℕ) → KeepsAll (replicate n None) (replicate n None)
keeps_none zero = tt
keeps_none (suc n) = (tt, keeps_none n)

pub new_is_fresh : (b : Traced) (slots : List (Option Progress)) (n : ℕ) → b.past ≡ [] → slots ≡ replicate n None → n ≡ b.targets * b.geometry.luns → IsAt (view_of b slots None) (fresh (channel_of b))
new_is_fresh b slots n past is count =
    record { past = past; holder = refl; slots = subst (KeepsAll (replicate (b.targets * b.geometry.luns) None)) (sym (is ∙ ap (λ (m : ℕ). replicate m None) count)) (keeps_none (b.targets * b.geometry.luns)) }

pub new_is_core : (b : Traced) (slots : List (Option Progress)) (n : ℕ) → IsChannel (channel_of b) → b.past ≡ [] → slots ≡ replicate n None → n ≡ b.targets * b.geometry.luns → IsCore (view_of b slots None)
new_is_core b slots n is past slots_are count =
    record { is_channel = is; world = fresh (channel_of b); is_at = new_is_fresh b slots n past slots_are count; lawful = fresh_is_lawful (channel_of b) }

abbrev no_progress : Option Progress
no_progress = None

pub one_more : (slots more : List (Option Progress)) (k : ℕ) → slots ≡ replicate k None → more ≡ slots ++ (None ∷ []) → more ≡ replicate (k + 1) None
one_more slots more k is h = h ∙ (ap (λ (ss : List (Option Progress)). ss ++ (None ∷ [])) is ∙ last k)
  where
    last : (n : ℕ) → replicate n no_progress ++ (no_progress ∷ []) ≡ replicate (n + 1) no_progress
    last zero = refl
    last (suc n) =
        let next : suc (n + 1) ≡ suc n + 1 = omega arith in
        ap (λ (ss : List (Option Progress)). no_progress ∷ ss) (last n) ∙ ap (λ (m : ℕ). replicate m no_progress) next

pub one_longer : (slots more : List (Option Progress)) (k : ℕ) → length slots ≡ k → more ≡ slots ++ (no_progress ∷ []) → length more ≡ k + 1
one_longer slots more k is h = ap length h ∙ (last slots ∙ ap (λ (n : ℕ). n + 1) is)
  where
    last : (ss : List (Option Progress)) → length (ss ++ (no_progress ∷ [])) ≡ length ss + 1
    last [] = refl
    last (s ∷ ss) = let rest = last ss in omega (arith, rest)

pub replicate_all : (slots : List (Option Progress)) (k n : ℕ) → slots ≡ replicate k no_progress → k ≡ n → slots ≡ replicate n no_progress
replicate_all slots k n is h = is ∙ ap (λ (m : ℕ). replicate m no_progress) h

pub few_slots : (a b targets luns : ℕ) → a ≡ targets → b ≡ luns → targets ≤ 4 → luns ≤ 4 → a * b ≤ 16
few_slots a b targets luns e f t n =
    let x : a ≤ 4 = omega (arith, e, t) in
    let y : b ≤ 4 = omega (arith, f, n) in
    mul-le a b 4 4 x y

-- 3. steps

pub empty_now : (c : CoreView) (l : Lun) → IsCore c → state.Empty ≡ slot_state (slot_at c l) → IsEvent c (Step l) (ToStep Empty) c
empty_now c l k h = empty_step c l k.is_channel (no_slot (slot_at c l) h)

pub ended_now : (c : CoreView) (l : Lun) (code : ℕ) → IsCore c → state.Ended code ≡ slot_state (slot_at c l) → IsEvent c (Step l) (ToStep Ended) c
ended_now c l code k h = let s = has_code (slot_at c l) (Some code) h in ended_step c l s.v code k.is_channel s.is s.code_is

pub held_now : (c : CoreView) (l : Lun) → IsCore c → state.Running ≡ slot_state (slot_at c l) → is_held c.holder l ≡ true → IsEvent c (Step l) (ToStep Held) c
held_now c l k h held = let s = has_code (slot_at c l) None h in held_step c l s.v k.is_channel s.is s.code_is held

-- the slot of a LUN that may step
pub can_now : (c : CoreView) (l : Lun) (k : ℕ) → IsCore c → Some k ≡ place_of c l → state.Running ≡ slot_state (slot_at c l) → is_held c.holder l ≡ false → (v : Progress) × (get_or c.slots k None ≡ Some v) × CanStep (channel_in c) c.past v
can_now c l k core place h free =
    let s = has_code (slot_at c l) None h in
    (s.v, sym (slot_of_place c l k place).0 ∙ s.is, (can_step c l s.v core s.is s.code_is free).0)

-- an event leaves any view of the same channel with what it leaves
pub left_alike : (c : CoreView) (e : Event) (reply : Reply) (later other : CoreView) → IsEvent c e reply later → channel_in other ≡ channel_in c → other.past ≡ later.past → other.slots ≡ later.slots → other.holder ≡ later.holder → IsEvent c e reply other
left_alike c e reply later other event channel past slots holder w at law =
    let came = event w at law in
    record {
      next = came.next;
      is_next = came.is_next;
      replied = came.replied;
      is_at =
          record { past = past ∙ came.is_at.past; holder = holder ∙ came.is_at.holder; slots = subst (KeepsAll came.next.world.slots) (sym slots) came.is_at.slots };
      own = came.own;
      lawful = came.lawful;
      channel = channel;
    }

-- what a step that was played leaves is a core again
pub went_on : (c : CoreView) (l : Lun) (answer : Stepped) (later : CoreView) → IsCore c → IsEvent c (Step l) (ToStep answer) later → IsCore later
went_on c l answer later k event = is_core_after c later (Step l) (ToStep answer) k event

pub went_now : (b d : Traced) (slots later : List (Option Progress)) (holder : Option Lun) (l : Lun) (k : ℕ) (answer : Stepped) (v u : Progress) → IsCore (view_of b slots holder) → Some k ≡ place_of (view_of b slots holder) l → state.Running ≡ slot_state (slot_at (view_of b slots holder) l) → is_held holder l ≡ false → IsSame b d → get_or slots k None ≡ Some v → Steps (channel_of b) b.past v answer d.past u → later ≡ set slots k (Some u) → IsEvent (view_of b slots holder) (Step l) (ToStep answer) (view_of d later (holder_after answer l))
went_now b d slots later holder l k answer v u core place h free same found st is =
    let c : CoreView = view_of b slots holder in
    let s = has_code (slot_at c l) None h in
    let at = slot_of_place c l k place in
    let v_is : s.v ≡ v = some_same s.v v (sym s.is ∙ (at.0 ∙ found)) in
    let mine = (can_step c l s.v core s.is s.code_is free).1 in
    let event = going_step c l v u d.past answer core.is_channel (s.is ∙ ap (λ (x : Progress). Some x) v_is) (sym (ap (λ (x : Progress). x.code) v_is) ∙ s.code_is) free (sym (ap (λ (x : Progress). x.job.lun) v_is) ∙ mine) st in
    let later_is : later ≡ set slots (number (channel_in c) l) (Some u) = is ∙ ap (λ (n : ℕ). set slots n (Some u)) at.1 in
    left_alike c (Step l) (ToStep answer) (stepped_view c l answer d.past u) (view_of d later (holder_after answer l)) event same refl later_is refl

-- what the bus is after a step that was played
pub bus_after : (answer : Stepped) (l : Lun) (holder : Option Lun) → holder ≡ holder_after answer l → TellsBus answer holder l
bus_after answer l holder is = subst (λ (o : Option Lun). TellsBus answer o l) (sym is) (at answer)
  where
    at : (a : Stepped) → TellsBus a (holder_after a l) l
    at Empty = tt
    at Ended = refl
    at Held = tt
    at HandedOver = refl
    at NotReady = refl
    at Went = same_lun_self l

-- a LUN whose job has ended hasn't the bus
pub ended_lets_go : (c : CoreView) (l : Lun) (code : ℕ) → IsCore c → state.Ended code ≡ slot_state (slot_at c l) → has_bus c.holder l ≡ false
ended_lets_go c l code k h =
    let s = has_code (slot_at c l) (Some code) h in
    let x = has_slot c k.world l s.v k.is_at s.is in
    let slot = lawful_slot (channel_in c) k.world k.lawful l x.x x.is in
    let seat = subst (λ (o : Option ℕ). HasSeat (channel_in c) k.world.past (has_bus k.world.holder l) x.x o) (sym x.kept.code ∙ s.code_is) slot.seat in
    ap (λ (o : Option Lun). has_bus o l) k.is_at.holder ∙ seat.1

-- 4. loads

pub refused_now : (c : CoreView) (l : Lun) (j : Job) (fault : LoadFault) → IsCore c → IsVerified j → load_fault_at c l j ≡ Some fault → IsEvent c (Load l j) (ToLoad (NotLoaded fault j)) c
refused_now c l j fault k v h = refused_load c l j fault k.is_channel v h

-- a job that is admitted is of a LUN that is there
pub admitted_there : (c : CoreView) (l : Lun) (j : Job) → load_fault_at c l j ≡ None → None ≡ place_of c l → ⊥
admitted_there c l j h none = at (is_there (channel_in c) l) refl none h
  where
    at : (b : Bool) → is_there (channel_in c) l ≡ b → None ≡ cond b (Some (number (channel_in c) l)) None → load_fault_at c l j ≡ None → ⊥
    at true e f h = cc
    at false e f h = refused (is_some (slot_at c l)) (sym (rw e refl) ∙ h)
      where
        refused : (b : Bool) → cond b (Some SlotTaken) (Some OtherLun) ≡ None → ⊥
        refused true x = cc
        refused false x = cc

pub loaded_now : (b : Traced) (slots later : List (Option Progress)) (holder : Option Lun) (l : Lun) (k : ℕ) (j : Job) → IsCore (view_of b slots holder) → IsVerified j → IsShaped j.text.words → j.base < 2 ^ 32 → load_fault_at (view_of b slots holder) l j ≡ None → Some k ≡ place_of (view_of b slots holder) l → later ≡ set slots k (Some (fresh_progress j)) → IsEvent (view_of b slots holder) (Load l j) (ToLoad Loaded) (view_of b later holder)
loaded_now b slots later holder l k j core v shaped small h place is =
    let c : CoreView = view_of b slots holder in
    let event = done_load c l j core.is_channel v shaped small h in
    let later_is : later ≡ set slots (number (channel_in c) l) (Some (fresh_progress j)) = is ∙ ap (λ (n : ℕ). set slots n (Some (fresh_progress j))) (slot_of_place c l k place).1 in
    subst (λ (ss : List (Option Progress)). IsEvent c (Load l j) (ToLoad Loaded) (view_of b ss holder)) (sym later_is) event

-- 5. readies

came_event : (b d : Traced) (slots : List (Option Progress)) (holder : Option Lun) (i : Item) (e : Event) (reply : Reply) (came : Bool) → (IsTrue came → IsNext b d i) → (came ≡ false → d ≡ b) → IsEvent (view_of b slots holder) e reply (with_item (view_of b slots holder) i came) → IsEvent (view_of b slots holder) e reply (view_of d slots holder)
came_event b d slots holder i e reply true does stays event =
    let n = does true_is in
    left_alike (view_of b slots holder) e reply (with_item (view_of b slots holder) i true) (view_of d slots holder) event n.channel n.past refl refl
  where
    true_is : IsTrue true
    true_is = refl
came_event b d slots holder i e reply false does stays event =
    subst (λ (x : Traced). IsEvent (view_of b slots holder) e reply (view_of x slots holder)) (sym (stays refl)) event

pub ready_now : (b d : Traced) (slots : List (Option Progress)) (holder : Option Lun) (l : Lun) (fail : Failures) (came : Bool) → IsCore (view_of b slots holder) → came ≡ is_permitted b.geometry b.targets b.past (Rdy l.ce l.lun fail) → (IsTrue came → IsNext b d (Rdy l.ce l.lun fail)) → (came ≡ false → d ≡ b) → IsEvent (view_of b slots holder) (Ready l fail) (ToReady came) (view_of d slots holder)
ready_now b d slots holder l fail came core h does stays =
    came_event b d slots holder (Rdy l.ce l.lun fail) (Ready l fail) (ToReady came) came does stays (ready_event (view_of b slots holder) l fail came core.is_channel h)

pub array_ready_now : (b d : Traced) (slots : List (Option Progress)) (holder : Option Lun) (l : Lun) (fail came : Bool) → IsCore (view_of b slots holder) → came ≡ is_permitted b.geometry b.targets b.past (Ard l.ce l.lun fail) → (IsTrue came → IsNext b d (Ard l.ce l.lun fail)) → (came ≡ false → d ≡ b) → IsEvent (view_of b slots holder) (ArrayReady l fail) (ToArrayReady came) (view_of d slots holder)
array_ready_now b d slots holder l fail came core h does stays =
    came_event b d slots holder (Ard l.ce l.lun fail) (ArrayReady l fail) (ToArrayReady came) came does stays (array_ready_event (view_of b slots holder) l fail came core.is_channel h)

came_of : (rule : Option Forbidden) (came : Bool) → is_some rule ≡ not came → came ≡ is_none rule
came_of None true h = refl
came_of None false h = cc
came_of (Some r) true h = cc
came_of (Some r) false h = refl

-- what a ready would answer, by the rule that it breaks first
pub ready_admitted : (b : Traced) (slots : List (Option Progress)) (holder : Option Lun) (l : Lun) (fail : Failures) (rule : Option Forbidden) (came : Bool) → IsCore (view_of b slots holder) → rule ≡ broken b.geometry b.targets b.past (Rdy l.ce l.lun fail) → is_some rule ≡ not came → IsEvent (view_of b slots holder) (Ready l fail) (ToReady came) (with_item (view_of b slots holder) (Rdy l.ce l.lun fail) came)
ready_admitted b slots holder l fail rule came core first is = ready_event (view_of b slots holder) l fail came core.is_channel (came_of rule came is ∙ ap is_none first)

pub array_ready_admitted : (b : Traced) (slots : List (Option Progress)) (holder : Option Lun) (l : Lun) (fail : Bool) (rule : Option Forbidden) (came : Bool) → IsCore (view_of b slots holder) → rule ≡ broken b.geometry b.targets b.past (Ard l.ce l.lun fail) → is_some rule ≡ not came → IsEvent (view_of b slots holder) (ArrayReady l fail) (ToArrayReady came) (with_item (view_of b slots holder) (Ard l.ce l.lun fail) came)
array_ready_admitted b slots holder l fail rule came core first is = array_ready_event (view_of b slots holder) l fail came core.is_channel (came_of rule came is ∙ ap is_none first)

-- where the bus is as it was, all is
pub none_came : (b d : Traced) (slots : List (Option Progress)) (holder : Option Lun) (v : CoreView) (came : Bool) → (came ≡ false → d ≡ b) → view_of b slots holder ≡ v → came ≡ false → view_of d slots holder ≡ v
none_came b d slots holder v came stays is no_item = ap (λ (x : Traced). view_of x slots holder) (stays no_item) ∙ is

-- 6. unloads

pub none_unloaded : (c : CoreView) (l : Lun) → IsCore c → state.Empty ≡ slot_state (slot_at c l) → IsEvent c (Unload l) (ToUnload (NotUnloaded NoJob)) c
none_unloaded c l k h = empty_unload c l k.is_channel (no_slot (slot_at c l) h)

pub early_now : (c : CoreView) (l : Lun) → IsCore c → state.Running ≡ slot_state (slot_at c l) → IsEvent c (Unload l) (ToUnload (NotUnloaded StillRunning)) c
early_now c l k h = let s = has_code (slot_at c l) None h in early_unload c l s.v k.is_channel s.is s.code_is

pub would_unload : (c : CoreView) (l : Lun) (code : ℕ) → IsCore c → state.Ended code ≡ slot_state (slot_at c l) → (job : Job) × WouldAnswer c (Unload l) (ToUnload (Unloaded job code))
would_unload c l code k h =
    let s = has_code (slot_at c l) (Some code) h in
    (s.v.job, record { later = with_slot_at c l None; event = done_unload c l s.v code k.is_channel s.is s.code_is })

pub unloaded_now : (b : Traced) (slots later : List (Option Progress)) (holder : Option Lun) (l : Lun) (k code : ℕ) (v : Progress) → IsCore (view_of b slots holder) → Some k ≡ place_of (view_of b slots holder) l → state.Ended code ≡ slot_state (slot_at (view_of b slots holder) l) → get_or slots k None ≡ Some v → later ≡ set slots k None → IsEvent (view_of b slots holder) (Unload l) (ToUnload (Unloaded v.job code)) (view_of b later holder)
unloaded_now b slots later holder l k code v core place h found is =
    let c : CoreView = view_of b slots holder in
    let s = has_code (slot_at c l) (Some code) h in
    let at = slot_of_place c l k place in
    let v_is : s.v ≡ v = some_same s.v v (sym s.is ∙ (at.0 ∙ found)) in
    let event = done_unload c l v code core.is_channel (s.is ∙ ap (λ (x : Progress). Some x) v_is) (sym (ap (λ (x : Progress). x.code) v_is) ∙ s.code_is) in
    let later_is : later ≡ set slots (number (channel_in c) l) None = is ∙ ap (λ (n : ℕ). set slots n None) at.1 in
    subst (λ (ss : List (Option Progress)). IsEvent c (Unload l) (ToUnload (Unloaded v.job code)) (view_of b ss holder)) (sym later_is) event

pub never_coded : (c : CoreView) (l : Lun) (code : ℕ) → None ≡ place_of c l → state.Ended code ≡ slot_state (slot_at c l) → ⊥
never_coded c l code h some = let none = code_without c l h in clash (none ∙ sym some)
  where
    clash : state.Empty ≡ state.Ended code → ⊥
    clash e = cc

-- a slot that has a code is there
pub never_empty : (c : CoreView) (l : Lun) (k code : ℕ) → Some k ≡ place_of c l → state.Ended code ≡ slot_state (slot_at c l) → get_or c.slots k None ≡ None → ⊥
never_empty c l k code place h none =
    let s = has_code (slot_at c l) (Some code) h in
    clash (sym none ∙ (sym (slot_of_place c l k place).0 ∙ s.is))
  where
    clash : {v : Progress} → None ≡ Some v → ⊥
    clash e = cc

-- 7. what a load would answer

same_some : (o : Option Progress) → has_job (slot_state o) ≡ is_some o
same_some None = refl
same_some (Some v) = at v.code
  where
    at : (code : Option ℕ) → has_job (state_of code) ≡ true
    at None = refl
    at (Some n) = refl

there_by_place : (c : CoreView) (l : Lun) (place : Option ℕ) → place ≡ place_of c l → is_some place ≡ is_there (channel_in c) l
there_by_place c l place h = ap is_some h ∙ at (is_there (channel_in c) l)
  where
    at : (b : Bool) → is_some (cond b (Some (number (channel_in c) l)) None) ≡ b
    at true = refl
    at false = refl

pub fault_is : (c : CoreView) (l : Lun) (j : Job) (is_now : SlotState) (place : Option ℕ) (has there : Bool) (at : Lun) (g h : Parts) (fault : Option LoadFault) → is_now ≡ slot_state (slot_at c l) → place ≡ place_of c l → has ≡ has_job is_now → there ≡ is_some place → at ≡ j.lun → g ≡ c.geometry → h ≡ j.geometry → fault ≡ fault_by has there l at g h → load_fault_at c l j ≡ fault
fault_is c l j is_now place has there at g h fault state_is place_is has_is there_is lun here of is =
    let a : has ≡ is_some (slot_at c l) = has_is ∙ (ap has_job state_is ∙ same_some (slot_at c l)) in
    let b : there ≡ is_there (channel_in c) l = there_is ∙ there_by_place c l place place_is in
    sym (is ∙ (ap (λ (x : Bool). fault_by x there l at g h) a ∙ (ap (λ (x : Bool). fault_by (is_some (slot_at c l)) x l at g h) b ∙
    (ap (λ (x : Lun). fault_by (is_some (slot_at c l)) (is_there (channel_in c) l) l x g h) lun ∙ (ap (λ (x : Parts). fault_by (is_some (slot_at c l)) (is_there (channel_in c) l) l j.lun x h) here ∙
    ap (λ (x : Parts). fault_by (is_some (slot_at c l)) (is_there (channel_in c) l) l j.lun c.geometry x) of)))))

-- 8. whether nothing has happened

keeps_empty : (n : ℕ) (slots : List (Option Progress)) → length slots ≡ n → all_are_empty slots ≡ true → KeepsAll (replicate n None) slots
keeps_empty zero [] size h = tt
keeps_empty zero (slot ∷ slots) size h = cc
keeps_empty (suc n) [] size h = cc
keeps_empty (suc n) (None ∷ slots) size h = let rest : length slots ≡ n = omega (arith, size) in (tt, keeps_empty n slots rest h)
keeps_empty (suc n) (Some v ∷ slots) size h = cc

empty_if_kept : (n : ℕ) (slots : List (Option Progress)) → KeepsAll (replicate n None) slots → all_are_empty slots ≡ true
empty_if_kept zero [] h = refl
empty_if_kept zero (slot ∷ slots) h = absurd h
empty_if_kept (suc n) [] h = absurd h
empty_if_kept (suc n) (None ∷ slots) h = empty_if_kept n slots h.1
empty_if_kept (suc n) (Some v ∷ slots) h = absurd h.0

-- where nothing has happened and no LUN has the bus, all is fresh if no slot has a job
pub fresh_if_empty : (c : CoreView) (told : Bool) → IsCore c → c.past ≡ [] → c.holder ≡ None → told ≡ all_are_empty c.slots → (told ≡ true) ↔ IsAt c (fresh (channel_in c))
fresh_if_empty c told core past holder h =
    let n : ℕ = c.targets * c.geometry.luns in
    let size : length c.slots ≡ n = sym (keeps_count core.world.slots c.slots core.is_at.slots) ∙ core.lawful.size in
    (λ yes. record { past = past; holder = holder; slots = keeps_empty n c.slots size (sym h ∙ yes) }, λ at. h ∙ empty_if_kept n c.slots at.slots)

-- where something has happened, or a LUN has the bus, nothing is fresh
pub fresh_if_told : (c : CoreView) (told : Bool) → told ≡ false → (c.past ≡ [] → c.holder ≡ None → told ≡ true) → (told ≡ true) ↔ IsAt c (fresh (channel_in c))
fresh_if_told c told is_not is = (λ t. clash (sym is_not ∙ t), λ at. is at.past at.holder)
  where
    clash : false ≡ true → IsAt c (fresh (channel_in c))
    clash e = cc

-- no LUN has the bus, if that is told
pub none_holds : (holder : Option Lun) (told : Bool) → is_some holder ≡ not told → told ≡ true → holder ≡ None
none_holds None told h is = refl
none_holds (Some l) true h is = cc
none_holds (Some l) false h is = cc

pub told_none_holds : (holder : Option Lun) (told : Bool) → is_some holder ≡ not told → holder ≡ None → told ≡ true
told_none_holds None true h is = refl
told_none_holds None false h is = cc
told_none_holds (Some l) told h is = cc
