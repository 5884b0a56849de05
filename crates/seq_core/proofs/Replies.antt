-- Loads, readies and unloads are events of the world that is kept; and where a slot goes on, its next word can be played.
use Rattle.std.proofs.Common.{◌≡◌, ℕ, ◌^◌, ◌<◌, Bool, true, false, ◌||◌, not, List, [], ◌∷◌, Option, Some, None, is_some, refl, sym, ap, ◌∙◌, subst, arith, length}
use Rattle.std.specs.List.{slice_get}
use Rattle.onfi_cycle.specs.declared.item.Failures.{Failures}
use Rattle.onfi_cycle.specs.declared.lun.Lun.{Lun}
use Rattle.onfi_cycle.specs.declared.item.Item.{Item}
use Rattle.onfi_cycle.specs.declared.item.Item.TheVariants.{Rdy, Ard}
use Rattle.onfi_cycle.specs.Permitted.{is_permitted}
use Rattle.onfi_cycle.specs.Channel.{Channel, IsChannel, is_open_on}
use Rattle.micro_word.specs.declared.word.Word.{Word}
use Rattle.micro_program.specs.Lines.{Line}
use Rattle.micro_program.specs.Places.{IsShaped}
use Rattle.micro_program.specs.Program.{Job, fits}
use Rattle.micro_program.specs.Safe.{Seat, Reaches, MovesAreOwn, may_step, WordIsFine, LineIsFine}
use Rattle.seq_core.specs.declared.load_fault.LoadFault.{LoadFault}
use Rattle.seq_core.specs.declared.unload_fault.UnloadFault.TheVariants.{NoJob, StillRunning}
use Rattle.seq_core.specs.World.{Slot, World, number, slot_of, fresh_slot}
use Rattle.seq_core.specs.Event.{Event, Load, Ready, ArrayReady, Unload, IsVerified}
use Rattle.seq_core.specs.Reply.{Reply, ToLoad, ToReady, ToArrayReady, ToUnload, Loaded, NotLoaded, Unloaded, NotUnloaded}
use Rattle.seq_core.specs.After.{After, load_fault, after_load, after_item, after_unload, after_slot_unload, is_held}
use Rattle.seq_core.specs.Lawful.{HasSeat, LawfulSlot, LawfulAt, LawfulWorld, has_bus}
use Rattle.seq_core.specs.Progress.{Progress, fresh_progress}
use Rattle.seq_core.specs.Shows.{CoreView, channel_in, KeepsSlot, Keeps, IsAt}
use Rattle.seq_core.specs.Calls.{IsCore, IsEvent, slot_at, CanStep, load_fault_at, with_slot_at, with_item}
use Rattle.seq_core.proofs.Below.{keeps_length}
use Rattle.seq_core.proofs.Slots.{there_of_slot}
use Rattle.seq_core.proofs.Events.{may_step_now}
use Rattle.seq_core.specs.Loops.{StandsAt, place_behind, loops_behind, lines_left}
use Rattle.seq_core.proofs.Standing.{first_word, stands_behind, few_loops, stands_first}
use Rattle.seq_core.proofs.Progress.{same_moves}
use Rattle.seq_core.proofs.Calls.{keeps_set, keeps_lun, came, HasSlot, has_slot, some_same}

-- 1. loads

same_is_some : (o : Option Slot) (v : Option Progress) → Keeps o v → is_some o ≡ is_some v
same_is_some None None k = refl
same_is_some None (Some v) k = absurd k
same_is_some (Some x) None k = absurd k
same_is_some (Some x) (Some v) k = refl

same_load_fault : (c : CoreView) (w : World) (l : Lun) (j : Job) → IsAt c w → load_fault (channel_in c) w l j ≡ load_fault_at c l j
same_load_fault c w l j at = rw (same_is_some (slot_of (channel_in c) w l) (slot_at c l) (keeps_lun c w l at)) refl

pub refused_load : (c : CoreView) (l : Lun) (j : Job) (fault : LoadFault) → IsChannel (channel_in c) → IsVerified j → load_fault_at c l j ≡ Some fault → IsEvent c (Load l j) (ToLoad (NotLoaded fault j)) c
refused_load c l j fault is v h w at law =
    came c w (Load l j) (ToLoad (NotLoaded fault j)) c is law v refl (λ a e. on a (some_same (after_load (channel_in c) w l j (load_fault (channel_in c) w l j)) a e))
  where
    on : (a : After) → after_load (channel_in c) w l j (load_fault (channel_in c) w l j) ≡ a → (a.reply ≡ ToLoad (NotLoaded fault j)) × IsAt c a.world
    on a e =
        let same : after_load (channel_in c) w l j (Some fault) ≡ a = sym (ap (after_load (channel_in c) w l j) (same_load_fault c w l j at ∙ h)) ∙ e in
        subst (λ (b : After). (b.reply ≡ ToLoad (NotLoaded fault j)) × IsAt c b.world) same (refl, at)

fresh_is_kept : (j : Job) → IsShaped j.text.words → j.base < 2 ^ 32 → KeepsSlot (fresh_slot j) (fresh_progress j)
fresh_is_kept j shaped small =
    record { job = refl; shaped = shaped; place = stands_first j.text.words shaped; column = refl; index = omega arith; plane = refl; buffer_place = refl; status = refl; code = refl }

pub done_load : (c : CoreView) (l : Lun) (j : Job) → IsChannel (channel_in c) → IsVerified j → IsShaped j.text.words → j.base < 2 ^ 32 → load_fault_at c l j ≡ None → IsEvent c (Load l j) (ToLoad Loaded) (with_slot_at c l (Some (fresh_progress j)))
done_load c l j is v shaped small h w at law =
    came c w (Load l j) (ToLoad Loaded) later is law v refl (λ a e. on a (some_same (after_load (channel_in c) w l j (load_fault (channel_in c) w l j)) a e))
  where
    later : CoreView
    later = with_slot_at c l (Some (fresh_progress j))

    on : (a : After) → after_load (channel_in c) w l j (load_fault (channel_in c) w l j) ≡ a → (a.reply ≡ ToLoad Loaded) × IsAt later a.world
    on a e =
        let same : after_load (channel_in c) w l j None ≡ a = sym (ap (after_load (channel_in c) w l j) (same_load_fault c w l j at ∙ h)) ∙ e in
        subst (λ (b : After). (b.reply ≡ ToLoad Loaded) × IsAt later b.world) same
        (refl, record { past = at.past; holder = at.holder; slots = keeps_set w.slots c.slots (number (channel_in c) l) (Some (fresh_slot j)) (Some (fresh_progress j)) at.slots (fresh_is_kept j shaped small) })

-- 2. readies

item_came : (c : CoreView) (w : World) (i : Item) (reply : Bool → Reply) (b : Bool) → IsAt c w → ((after_item w i reply b).reply ≡ reply b) × IsAt (with_item c i b) (after_item w i reply b).world
item_came c w i reply true at = (refl, record { past = ap (λ (past : List Item). i ∷ past) at.past; holder = at.holder; slots = at.slots })
item_came c w i reply false at = (refl, record { past = at.past; holder = at.holder; slots = at.slots })

permitted_here : (c : CoreView) (w : World) (i : Item) → IsAt c w → is_permitted c.geometry c.targets w.past i ≡ is_permitted c.geometry c.targets c.past i
permitted_here c w i at = ap (λ (past : List Item). is_permitted c.geometry c.targets past i) (sym at.past)

item_event : (c : CoreView) (w : World) (i : Item) (reply : Bool → Reply) (b : Bool) (a : After) → IsAt c w → b ≡ is_permitted c.geometry c.targets c.past i → Some (after_item w i reply (is_permitted c.geometry c.targets w.past i)) ≡ Some a → (a.reply ≡ reply b) × IsAt (with_item c i b) a.world
item_event c w i reply b a at is e =
    let same : after_item w i reply b ≡ a = ap (after_item w i reply) (is ∙ sym (permitted_here c w i at)) ∙ some_same (after_item w i reply (is_permitted c.geometry c.targets w.past i)) a e in
    subst (λ (x : After). (x.reply ≡ reply b) × IsAt (with_item c i b) x.world) same (item_came c w i reply b at)

pub ready_event : (c : CoreView) (l : Lun) (fail : Failures) (came_now : Bool) → IsChannel (channel_in c) → came_now ≡ is_permitted c.geometry c.targets c.past (Rdy l.ce l.lun fail) → IsEvent c (Ready l fail) (ToReady came_now) (with_item c (Rdy l.ce l.lun fail) came_now)
ready_event c l fail b is h w at law =
    came c w (Ready l fail) (ToReady b) (with_item c (Rdy l.ce l.lun fail) b) is law tt refl (λ a e. item_event c w (Rdy l.ce l.lun fail) ToReady b a at h e)

pub array_ready_event : (c : CoreView) (l : Lun) (fail came_now : Bool) → IsChannel (channel_in c) → came_now ≡ is_permitted c.geometry c.targets c.past (Ard l.ce l.lun fail) → IsEvent c (ArrayReady l fail) (ToArrayReady came_now) (with_item c (Ard l.ce l.lun fail) came_now)
array_ready_event c l fail b is h w at law =
    came c w (ArrayReady l fail) (ToArrayReady b) (with_item c (Ard l.ce l.lun fail) b) is law tt refl (λ a e. item_event c w (Ard l.ce l.lun fail) ToArrayReady b a at h e)

-- 3. unloads

pub empty_unload : (c : CoreView) (l : Lun) → IsChannel (channel_in c) → slot_at c l ≡ None → IsEvent c (Unload l) (ToUnload (NotUnloaded NoJob)) c
empty_unload c l is none w at law =
    came c w (Unload l) (ToUnload (NotUnloaded NoJob)) c is law tt refl (λ a e. on (slot_of (channel_in c) w l) a (subst (λ (o : Option Progress). Keeps (slot_of (channel_in c) w l) o) none (keeps_lun c w l at)) (some_same (after_unload (channel_in c) w l (slot_of (channel_in c) w l)) a e))
  where
    on : (o : Option Slot) (a : After) → Keeps o None → after_unload (channel_in c) w l o ≡ a → (a.reply ≡ ToUnload (NotUnloaded NoJob)) × IsAt c a.world
    on None a k e = subst (λ (b : After). (b.reply ≡ ToUnload (NotUnloaded NoJob)) × IsAt c b.world) e (refl, at)
    on (Some x) a k e = absurd k

-- an unload whose slot and code are known
unload_known : (s : Channel) (w : World) (l : Lun) (x : Slot) (code : Option ℕ) (a : After) → slot_of s w l ≡ Some x → x.code ≡ code → Some (after_unload s w l (slot_of s w l)) ≡ Some a → after_slot_unload s w l x code ≡ a
unload_known s w l x code a is over e =
    sym (ap (λ (o : Option Slot). after_unload s w l o) is ∙ ap (λ (o : Option ℕ). after_slot_unload s w l x o) over) ∙ some_same (after_unload s w l (slot_of s w l)) a e

pub early_unload : (c : CoreView) (l : Lun) (v : Progress) → IsChannel (channel_in c) → slot_at c l ≡ Some v → v.code ≡ None → IsEvent c (Unload l) (ToUnload (NotUnloaded StillRunning)) c
early_unload c l v is some running w at law =
    let h = has_slot c w l v at some in
    came c w (Unload l) (ToUnload (NotUnloaded StillRunning)) c is law tt refl (λ a e.
    subst (λ (b : After). (b.reply ≡ ToUnload (NotUnloaded StillRunning)) × IsAt c b.world) (unload_known (channel_in c) w l h.x None a h.is (sym h.kept.code ∙ running) e) (refl, at))

pub done_unload : (c : CoreView) (l : Lun) (v : Progress) (code : ℕ) → IsChannel (channel_in c) → slot_at c l ≡ Some v → v.code ≡ Some code → IsEvent c (Unload l) (ToUnload (Unloaded v.job code)) (with_slot_at c l None)
done_unload c l v code is some over w at law =
    let h = has_slot c w l v at some in
    came c w (Unload l) (ToUnload (Unloaded v.job code)) (with_slot_at c l None) is law tt refl (λ a e.
    subst (λ (b : After). (b.reply ≡ ToUnload (Unloaded v.job code)) × IsAt (with_slot_at c l None) b.world) (unload_known (channel_in c) w l h.x (Some code) a h.is (sym h.kept.code ∙ over) e)
    (ap (λ (j : Job). ToUnload (Unloaded j code)) (sym h.kept.job), record { past = at.past; holder = at.holder; slots = keeps_set w.slots c.slots (number (channel_in c) l) None None at.slots tt }))

-- 4. what is kept stays so

pub is_core_after : (c later : CoreView) (e : Event) (reply : Reply) → IsCore c → IsEvent c e reply later → IsCore later
is_core_after c later e reply k event =
    let n = event k.world k.is_at k.lawful in
    record {
      is_channel = subst IsChannel (sym n.channel) k.is_channel;
      world = n.next.world;
      is_at = n.is_at;
      lawful = subst (λ (s : Channel). LawfulWorld s n.next.world) (sym n.channel) n.lawful;
    }

-- 5. the next word

seat_of : (s : Channel) (past : List Item) (holding : Bool) (x : Slot) (code : Option ℕ) → code ≡ None → HasSeat s past holding x code → Reaches s x.job (record { past = past; ahead = x.ahead; done = x.done; holding = holding })
seat_of s past holding x None e h = h
seat_of s past holding x (Some code) e h = cc

-- the next word of a slot that may step is fine
pub fine_now : (s : Channel) (w : World) (l : Lun) (x : Slot) → LawfulWorld s w → slot_of s w l ≡ Some x → x.code ≡ None → is_held w.holder l ≡ false → LawfulSlot s w.past (has_bus w.holder l) l x × LineIsFine s x.job w.past x.done x.ahead
fine_now s w l x law is running free = (lawful, lawful.safe seat reaches may)
  where
    lawful : LawfulSlot s w.past (has_bus w.holder l) l x
    lawful = subst (λ (o : Option Slot). LawfulAt s w.past (has_bus w.holder l) l o) is (law.slots l (there_of_slot s w l x is))

    seat : Seat
    seat = record { past = w.past; ahead = x.ahead; done = x.done; holding = has_bus w.holder l }

    -- whether it may step is told by the LUN of its job
    free_here : is_held w.holder x.job.lun ≡ false
    free_here = subst (λ (n : Lun). is_held w.holder n ≡ false) (sym lawful.lun) free

    reaches : Reaches s x.job seat
    reaches = seat_of s w.past (has_bus w.holder l) x x.code running lawful.seat

    may : may_step x.job seat ≡ true
    may =
        ap (λ (b : Bool). b || not (is_open_on w.past x.job.lun.ce)) (ap (has_bus w.holder) (sym lawful.lun)) ∙
        may_step_now s w x.job.lun w.holder free_here law.closed

pub can_step : (c : CoreView) (l : Lun) (v : Progress) → IsCore c → slot_at c l ≡ Some v → v.code ≡ None → is_held c.holder l ≡ false → CanStep (channel_in c) c.past v × (v.job.lun ≡ l)
can_step c l v k some running free = (on h.x.ahead refl f.1, ap (λ (j : Job). j.lun) h.kept.job ∙ f.0.lun)
  where
    h : HasSlot c k.world l v
    h = has_slot c k.world l v k.is_at some

    not_held : is_held k.world.holder l ≡ false
    not_held = subst (λ (o : Option Lun). is_held o l ≡ false) k.is_at.holder free

    f : LawfulSlot (channel_in c) k.world.past (has_bus k.world.holder l) l h.x × LineIsFine (channel_in c) h.x.job k.world.past h.x.done h.x.ahead
    f = fine_now (channel_in c) k.world l h.x k.lawful h.is (sym h.kept.code ∙ running) not_held

    length_is : length v.job.buffer ≡ h.x.job.text.buffer
    length_is =
        ap (λ (j : Job). length j.buffer) h.kept.job ∙ (keeps_length h.x.job.buffer h.x.done ∙ f.0.made.buffer)

    on : (ahead : List Line) → h.x.ahead ≡ ahead → LineIsFine (channel_in c) h.x.job k.world.past h.x.done ahead → CanStep (channel_in c) c.past v
    on [] e m = absurd m
    on (line ∷ rest) e m =
        let stands : StandsAt h.x.job.text.words (line ∷ rest) v.at v.loops = subst (λ (ls : List Line). StandsAt h.x.job.text.words ls v.at v.loops) e h.kept.place in
        let first = first_word h.x.job.text.words v.at v.loops line rest stands in
        let behind =
        stands_behind h.x.job.text.words v.at v.loops v.registers.status first.word rest h.kept.shaped first.here (subst (λ (y : Line). StandsAt h.x.job.text.words (y ∷ rest) v.at v.loops) first.is_line stands) in
        let is_word : line.word ≡ first.word = ap (λ (y : Line). y.word) first.is_line in
        let fine : WordIsFine (channel_in c) h.x.job k.world.past h.x.done first.word = subst (λ (w : Word). WordIsFine (channel_in c) h.x.job k.world.past h.x.done w) is_word m in
        record {
          word = first.word;
          here = ap (λ (j : Job). slice_get j.text.words v.at) h.kept.job ∙ first.here;
          can = record {
            moved = fine.moved;
            is_moved = sym (same_moves c.geometry k.is_channel.limits h.x v first.word h.kept) ∙ fine.is_moved;
            own = subst (λ (t : List Item). MovesAreOwn (channel_in c) v.job.lun fine.moved t) (sym k.is_at.past) (subst (λ (j : Job). MovesAreOwn (channel_in c) j.lun fine.moved k.world.past) (sym h.kept.job) fine.own);
            inside = ap (λ (n : ℕ). fits n v.registers.place first.word) length_is ∙ (ap (λ (n : ℕ). fits h.x.job.text.buffer n first.word) h.kept.buffer_place ∙ fine.inside);
          };
          room = few_loops h.x.job.text.words (lines_left v.registers.status first.word rest) (place_behind v.at v.loops v.registers.status first.word) (loops_behind v.at v.loops first.word) h.kept.shaped behind;
        }
