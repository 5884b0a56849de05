-- The laws of events and of runs; the main theorem by induction on the events.
use Rattle.std.proofs.Common.{◌≡◌, ℕ, ◌*◌, Bool, true, false, inl, inr, List, [], ◌∷◌, Option, Some, None, refl, sym, subst}
use Rattle.std.proofs.lemmas.List.{length-replicate}
use Rattle.onfi_cycle.specs.declared.lun.Lun.{Lun}
use Rattle.onfi_cycle.specs.declared.item.Item.{Item}
use Rattle.onfi_cycle.specs.declared.item.Item.TheVariants.{Rdy, Ard}
use Rattle.onfi_cycle.specs.Permitted.{is_permitted}
use Rattle.onfi_cycle.specs.Channel.{Channel, IsChannel}
use Rattle.micro_program.specs.Program.{Job}
use Rattle.seq_core.specs.declared.load_fault.LoadFault.{LoadFault}
use Rattle.seq_core.specs.World.{Slot, World, slot_of, fresh}
use Rattle.seq_core.specs.Event.{Event, Load, Step, Ready, ArrayReady, Unload, AllLoadVerified}
use Rattle.seq_core.specs.Reply.{Reply, ToReady, ToArrayReady}
use Rattle.seq_core.specs.After.{Ran, load_fault, after_load, after_unload, after_slot_unload, after_item, run}
use Rattle.seq_core.specs.Lawful.{HasSeat, LawfulSlot, LawfulAt, has_bus, LawfulWorld}
use Rattle.seq_core.specs.Headline.{EventsGoWell, HoldersGoOn, AddsAtMost, FreshIsLawful, EventsAreOwn, Headline}
use Rattle.seq_core.proofs.Below.{service}
use Rattle.seq_core.proofs.Slots.{same_lun_self, none_of_fresh, there_of_slot}
use Rattle.seq_core.proofs.Events.{item_lawful, step_lawful}
use Rattle.seq_core.proofs.Loads.{load_lawful, unload_lawful}
use Rattle.seq_core.proofs.Making.{runs_as_told}

load_adds : (s : Channel) (w : World) (l : Lun) (j : Job) (fault : Option LoadFault) → (after_load s w l j fault).world.past ≡ w.past
load_adds s w l j None = refl
load_adds s w l j (Some fault) = refl

slot_unload_adds : (s : Channel) (w : World) (l : Lun) (x : Slot) (code : Option ℕ) → (after_slot_unload s w l x code).world.past ≡ w.past
slot_unload_adds s w l x None = refl
slot_unload_adds s w l x (Some code) = refl

unload_adds : (s : Channel) (w : World) (l : Lun) (slot : Option Slot) → (after_unload s w l slot).world.past ≡ w.past
unload_adds s w l None = refl
unload_adds s w l (Some x) = slot_unload_adds s w l x x.code

item_adds : (w : World) (i : Item) (reply : Bool → Reply) (b : Bool) → AddsAtMost i w.past (after_item w i reply b).world.past
item_adds w i reply true = inr refl
item_adds w i reply false = inl refl

pub events_go_well : EventsGoWell
events_go_well s w (Load l j) is law v =
    record { then = _; is_then = refl; own = load_adds s w l j (load_fault s w l j); lawful = load_lawful s is w l j (load_fault s w l j) law v refl }
events_go_well s w (Step l) is law v =
    let k = step_lawful s is w law l (slot_of s w l) refl in record { then = k.a; is_then = k.is_a; own = k.own; lawful = k.lawful }
events_go_well s w (Ready l fail) is law v =
    record { then = _; is_then = refl; own = item_adds w (Rdy l.ce l.lun fail) ToReady (is_permitted s.geometry s.targets w.past (Rdy l.ce l.lun fail)); lawful = item_lawful s w (Rdy l.ce l.lun fail) ToReady (is_permitted s.geometry s.targets w.past (Rdy l.ce l.lun fail)) law refl refl }
events_go_well s w (ArrayReady l fail) is law v =
    record { then = _; is_then = refl; own = item_adds w (Ard l.ce l.lun fail) ToArrayReady (is_permitted s.geometry s.targets w.past (Ard l.ce l.lun fail)); lawful = item_lawful s w (Ard l.ce l.lun fail) ToArrayReady (is_permitted s.geometry s.targets w.past (Ard l.ce l.lun fail)) law refl refl }
events_go_well s w (Unload l) is law v =
    record { then = _; is_then = refl; own = unload_adds s w l (slot_of s w l); lawful = unload_lawful s w l (slot_of s w l) law refl }

-- a run from a lawful world
pub record RunGoesWell (s : Channel) (events : List Event) (w : World) : Type 0 where
  pub ran : Ran
  pub is_ran : run s events w ≡ Some ran
  pub own : EventsAreOwn s events w
  pub lawful : LawfulWorld s ran.world

pub run_goes_well : (s : Channel) → IsChannel s → (events : List Event) (w : World) → LawfulWorld s w → AllLoadVerified events → RunGoesWell s events w
run_goes_well s is [] w law v = record { ran = record { world = w; replies = [] }; is_ran = refl; own = tt; lawful = law }
run_goes_well s is (e ∷ events) w law v =
    let a = events_go_well s w e is law v.0 in
    let r = run_goes_well s is events a.then.world a.lawful v.1 in
    record {
      ran = record { world = r.ran.world; replies = a.then.reply ∷ r.ran.replies };
      is_ran = rw a.is_then (rw r.is_ran refl);
      own = (a.then, a.is_then, a.own, r.own);
      lawful = r.lawful;
    }

pub fresh_is_lawful : FreshIsLawful
fresh_is_lawful s =
    record {
      legal = refl;
      size = length-replicate (s.targets * s.geometry.luns) None;
      slots = λ m there. subst (λ (o : Option Slot). LawfulAt s [] false m o) (sym (none_of_fresh s [] None (s.targets * s.geometry.luns) m)) (record { ready = refl; no_cache = refl; no_program = refl; no_queue = refl; free = service.first s.geometry m.ce }, refl);
      holder = λ l e. cc;
      closed = λ ce h. refl;
    }

pub lawful_slot : (s : Channel) (w : World) → LawfulWorld s w → (l : Lun) (x : Slot) → slot_of s w l ≡ Some x → LawfulSlot s w.past (has_bus w.holder l) l x
lawful_slot s w law l x e = subst (λ (o : Option Slot). LawfulAt s w.past (has_bus w.holder l) l o) e (law.slots l (there_of_slot s w l x e))

-- who has the bus goes on
seat_goes_on : (s : Channel) (past : List Item) (x : Slot) (code : Option ℕ) → HasSeat s past true x code → code ≡ None
seat_goes_on s past x None h = refl
seat_goes_on s past x (Some code) h = let never : true ≡ false = h.1 in cc

slot_goes_on : (s : Channel) (past : List Item) (l : Lun) (slot : Option Slot) → LawfulAt s past true l slot → (x : Slot) × (slot ≡ Some x) × (x.code ≡ None)
slot_goes_on s past l None h = let never : true ≡ false = h.1 in cc
slot_goes_on s past l (Some x) h = (x, refl, seat_goes_on s past x x.code h.seat)

pub holders_go_on : HoldersGoOn
holders_go_on s w l law e =
    let has : has_bus w.holder l ≡ true = subst (λ (o : Option Lun). has_bus o l ≡ true) (sym e) (same_lun_self l) in
    slot_goes_on s w.past l (slot_of s w l) (subst (λ (b : Bool). LawfulAt s w.past b l (slot_of s w l)) has (law.slots l (law.holder l e)))

pub headline : Headline
headline s events is v =
    let r = run_goes_well s is events (fresh s) (fresh_is_lawful s) v in
    record {
      ran = r.ran;
      is_ran = r.is_ran;
      legal = r.lawful.legal;
      own = r.own;
      within = λ l x e. (lawful_slot s r.ran.world r.lawful l x e).within;
      text = λ l x e. (lawful_slot s r.ran.world r.lawful l x e).text;
      cycles = runs_as_told s events r.ran r.is_ran (λ l x e. (lawful_slot s r.ran.world r.lawful l x e).within);
      lawful = r.lawful;
    }
