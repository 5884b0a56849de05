-- A load and an unload keep the world lawful.
use Rattle.std.proofs.Common.{◌≡◌, ℕ, ◌==◌, Bool, true, false, ◌&&◌, cond, not, Option, Some, None, is_some, refl, sym, ◌∙◌, subst, arith, eqb-true, length-set}
use Rattle.std.proofs.lemmas.Bool.{and_parts}
use Rattle.nand_geometry.specs.declared.parts.Parts.{Parts}
use Rattle.onfi_cycle.specs.declared.lun.Lun.{Lun}
use Rattle.onfi_cycle.specs.Channel.{Channel, IsChannel, IsIdle, is_there, same_lun}
use Rattle.micro_program.specs.Program.{Job}
use Rattle.micro_program.specs.Safe.{starts}
use Rattle.seq_core.specs.declared.load_fault.LoadFault.{LoadFault}
use Rattle.seq_core.specs.declared.load_fault.LoadFault.TheVariants.{SlotTaken, OtherLun, OtherGeometry}
use Rattle.seq_core.specs.World.{Slot, World, slot_of, with_slot, fresh_slot}
use Rattle.seq_core.specs.Event.{IsVerified}
use Rattle.seq_core.specs.After.{same_bool, same_parts, load_fault, after_load, after_unload, after_slot_unload}
use Rattle.seq_core.specs.Lawful.{HasSeat, LawfulSlot, LawfulAt, has_bus, LawfulWorld}
use Rattle.seq_core.proofs.Slots.{same_lun_is, slot_same, slot_other, there_of_slot}

-- a slot is changed while the trace stands
pub slot_changed : (s : Channel) (w : World) (l : Lun) (v : Option Slot) → LawfulWorld s w → is_there s l ≡ true → LawfulAt s w.past (has_bus w.holder l) l v → LawfulWorld s (record { past = w.past; slots = with_slot s w.slots l v; holder = w.holder })
slot_changed s w l v law there h =
    record {
      legal = law.legal;
      size = length-set w.slots _ _ ∙ law.size;
      slots = λ m m_there. at_lun m m_there (same_lun l m) refl;
      holder = law.holder;
      closed = law.closed;
    }
  where
    new : World
    new = record { past = w.past; slots = with_slot s w.slots l v; holder = w.holder }

    at_lun : (m : Lun) → is_there s m ≡ true → (b : Bool) → same_lun l m ≡ b → LawfulAt s w.past (has_bus w.holder m) m (slot_of s new m)
    at_lun m m_there true e =
        subst (λ (k : Lun). LawfulAt s w.past (has_bus w.holder k) k (slot_of s new k)) (same_lun_is l m e)
        (subst (λ (o : Option Slot). LawfulAt s w.past (has_bus w.holder l) l o) (sym (slot_same s w.past w.slots w.holder l v there law.size)) h)
    at_lun m m_there false e =
        subst (λ (o : Option Slot). LawfulAt s w.past (has_bus w.holder m) m o) (sym (slot_other s w.past w.slots w.holder w l m v refl there m_there e)) (law.slots m m_there)

same_bool_is : (a b : Bool) → same_bool a b ≡ true → a ≡ b
same_bool_is true true h = refl
same_bool_is true false h = cc
same_bool_is false true h = cc
same_bool_is false false h = refl

same_parts_is : (g h : Parts) → same_parts g h ≡ true → g ≡ h
same_parts_is g h e =
    let a1 = and_parts (g.page_bytes == h.page_bytes) _ e in
    let a2 = and_parts (g.spare_bytes == h.spare_bytes) _ a1.1 in
    let a3 = and_parts (g.pages == h.pages) _ a2.1 in
    let a4 = and_parts (g.blocks == h.blocks) _ a3.1 in
    let a5 = and_parts (g.luns == h.luns) _ a4.1 in
    let a6 = and_parts (g.plane_bits == h.plane_bits) _ a5.1 in
    let a7 = and_parts (same_bool g.enhanced h.enhanced) _ a6.1 in
    let a8 = and_parts (same_bool g.multi_plane h.multi_plane) _ a7.1 in
    let a9 = and_parts (same_bool g.cache h.cache) (g.optional.0 == h.optional.0) a8.1 in
    let e1 = eqb-true g.page_bytes h.page_bytes a1.0 in
    let e2 = eqb-true g.spare_bytes h.spare_bytes a2.0 in
    let e3 = eqb-true g.pages h.pages a3.0 in
    let e4 = eqb-true g.blocks h.blocks a4.0 in
    let e5 = eqb-true g.luns h.luns a5.0 in
    let e6 = eqb-true g.plane_bits h.plane_bits a6.0 in
    let e7 = same_bool_is g.enhanced h.enhanced a7.0 in
    let e8 = same_bool_is g.multi_plane h.multi_plane a8.0 in
    let e9 = same_bool_is g.cache h.cache a9.0 in
    let e10 = eqb-true g.optional.0 h.optional.0 a9.1 in
    λ i. record { page_bytes = e1 i; spare_bytes = e2 i; pages = e3 i; blocks = e4 i; luns = e5 i; plane_bits = e6 i; enhanced = e7 i; multi_plane = e8 i; cache = e9 i; optional = record { 0 = e10 i } }

-- what a load without a fault has found
pub record Loadable (s : Channel) (w : World) (l : Lun) (j : Job) : Type 0 where
  pub empty : slot_of s w l ≡ None
  pub there : is_there s l ≡ true
  pub lun : l ≡ j.lun
  pub geometry : s.geometry ≡ j.geometry

empty_slot : (o : Option Slot) → is_some o ≡ false → o ≡ None
empty_slot None h = refl
empty_slot (Some x) h = cc

pub loadable : (s : Channel) (w : World) (l : Lun) (j : Job) → load_fault s w l j ≡ None → Loadable s w l j
loadable s w l j h = at (is_some (slot_of s w l)) (is_there s l && same_lun l j.lun) (same_parts s.geometry j.geometry) refl refl refl h
  where
    at : (a b c : Bool) → is_some (slot_of s w l) ≡ a → (is_there s l && same_lun l j.lun) ≡ b → same_parts s.geometry j.geometry ≡ c → cond a (Some SlotTaken) (cond (not b) (Some OtherLun) (cond (not c) (Some OtherGeometry) None)) ≡ None → Loadable s w l j
    at false true true e f g h =
        let p = and_parts (is_there s l) (same_lun l j.lun) f in
        record { empty = empty_slot (slot_of s w l) e; there = p.0; lun = same_lun_is l j.lun p.1; geometry = same_parts_is s.geometry j.geometry g }
    at false true false e f g h = cc
    at false false c e f g h = cc
    at true b c e f g h = cc

pub load_lawful : (s : Channel) → IsChannel s → (w : World) (l : Lun) (j : Job) (fault : Option LoadFault) → LawfulWorld s w → IsVerified j → load_fault s w l j ≡ fault → LawfulWorld s (after_load s w l j fault).world
load_lawful s is w l j (Some fault) law v h = law
load_lawful s is w l j None law v h =
    let k = loadable s w l j h in
    let before : LawfulAt s w.past (has_bus w.holder l) l None = subst (λ (o : Option Slot). LawfulAt s w.past (has_bus w.holder l) l o) k.empty (law.slots l k.there) in
    let idle : IsIdle s.geometry w.past j.lun = subst (λ (m : Lun). IsIdle s.geometry w.past m) k.lun before.0 in
    let there : is_there s j.lun ≡ true = subst (λ (m : Lun). is_there s m ≡ true) k.lun k.there in
    slot_changed s w l (Some (fresh_slot j)) law k.there
    (record {
      lun = sym k.lun;
      made = v.made;
      safe = v.safe s j (record { is_channel = is; of_channel = k.geometry; of_geometry = refl; of_text = refl; there = there; made = v.made });
      within = record { inside = refl; others = record { size = refl; bytes = λ k h. refl }; budget = omega arith };
      text = λ more. refl;
      seat = subst (λ (b : Bool). HasSeat s w.past b (fresh_slot j) None) (sym before.1) (starts w.past law.legal idle);
    })

unload_slot : (s : Channel) (w : World) (l : Lun) (x : Slot) (code : Option ℕ) → LawfulWorld s w → x.code ≡ code → is_there s l ≡ true → x.job.lun ≡ l → HasSeat s w.past (has_bus w.holder l) x code → LawfulWorld s (after_slot_unload s w l x code).world
unload_slot s w l x None law e there same h = law
unload_slot s w l x (Some code) law e there same h =
    slot_changed s w l None law there (subst (λ (m : Lun). IsIdle s.geometry w.past m) same h.0, h.1)

pub unload_lawful : (s : Channel) (w : World) (l : Lun) (slot : Option Slot) → LawfulWorld s w → slot_of s w l ≡ slot → LawfulWorld s (after_unload s w l slot).world
unload_lawful s w l None law e = law
unload_lawful s w l (Some x) law e =
    let there = there_of_slot s w l x e in
    let h : LawfulSlot s w.past (has_bus w.holder l) l x = subst (λ (o : Option Slot). LawfulAt s w.past (has_bus w.holder l) l o) e (law.slots l there) in
    unload_slot s w l x x.code law refl there h.lun h.seat
