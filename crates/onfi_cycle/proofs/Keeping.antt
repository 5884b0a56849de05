-- What one item more changes, and what it keeps.
use Rattle.std.proofs.Common.{◌≡◌, ◌≢◌, ℕ, zero, suc, ◌+◌, ◌<◌, ◌==◌, Bool, true, false, ◌&&◌, ◌||◌, cond, List, [], ◌∷◌, length, Option, Some, None, subst, refl, sym, ap, ◌∙◌, arith, ltb, eqb-true, eq-eqb, ltb-true}
use Rattle.std.specs.List.{slice_get}
use Rattle.std.proofs.lemmas.Bool.{and_parts, and_from}
use Rattle.onfi_cycle.specs.LunView.{LunView}
use Rattle.onfi_cycle.proofs.Booleans.{eqb_self}
use Rattle.std.proofs.Math.Bool.{or-false}
use Rattle.nand_geometry.specs.declared.parts.Parts.{Parts}
use Rattle.onfi_cycle.specs.declared.lun.Lun.{Lun}
use Rattle.onfi_cycle.specs.declared.item.Failures.{Failures}
use Rattle.onfi_cycle.specs.declared.item.Item.{Item}
use Rattle.onfi_cycle.specs.declared.item.Item.TheVariants.{Cyc, Rdy, Ard}
use Rattle.onfi_cycle.specs.declared.item.Cycle.{Cycle}
use Rattle.onfi_cycle.specs.declared.effect.Effect.{Effect}
use Rattle.onfi_cycle.specs.declared.effect.Effect.TheVariants.{Unaffected, BecameReady, ArrayBecameReady}
use Rattle.onfi_cycle.specs.declared.latch.Latch.{Latch}
use Rattle.onfi_cycle.specs.Sequence.{tail}
use Rattle.onfi_cycle.specs.Effect.{effect_given}
use Rattle.onfi_cycle.specs.Lun.{effect_on, effect_among, latch, shown_after, busy_after, closer_after, queue_after, is_busy, closer, is_cache_read, queue, lun_view, view_after, views_from, luns_of, programs, leaves_array_busy, keeps_array_busy, is_cache_program, array_busy_after}
use Rattle.onfi_cycle.specs.Permitted.{broken, is_legal}
use Rattle.onfi_cycle.specs.OtherLun.{KeepsLun, is_of}
use Rattle.onfi_cycle.specs.Decides.{readies, readies_array}
use Rattle.onfi_cycle.specs.Channel.{Channel, IsIdle, IsOwn, same_lun, is_there, is_cycle, is_serving}
use Rattle.onfi_cycle.specs.Steps.{FactsGoOn, ReadiesChange, OutputsShow, OwnCyclesKeep, ServiceBegins}
use Rattle.onfi_cycle.proofs.Others.{others_keep, targets_keep}
use Rattle.onfi_cycle.proofs.Steps.{facts_of_cycle}
use Rattle.onfi_cycle.proofs.Drivers.{driver_of_target}
use Rattle.onfi_cycle.proofs.Latches.{latch_by_effect}
use Rattle.onfi_cycle.proofs.Bytes.{output_shows, output_closes}
use Rattle.onfi_cycle.proofs.Serving.{first_serves, ready_serves, own_serves}

-- 1. the facts go on

pub view_goes_on : (g : Parts) (n : ℕ) (past : List Item) (i : Item) (l : Lun) → broken g n past i ≡ None → l.lun < g.luns → lun_view g (i ∷ past) l ≡ view_after (effect_on g past i l) (lun_view g past l)
view_goes_on g n past i l h low = ap (λ (x : Latch). record (view_after (effect_on g past i l) (lun_view g past l)) { latch = x }) (latch_by_effect g n past i l h low)

pub views_length : (g : Parts) (past : List Item) (ce count n : ℕ) → length (views_from g past ce count n) ≡ count
views_length g past ce zero n = refl
views_length g past ce (suc count) n = ap suc (views_length g past ce count (n + 1))

view_from : (g : Parts) (past : List Item) (ce count n k : ℕ) → k < count → slice_get (views_from g past ce count n) k ≡ Some (lun_view g past (record { ce = ce; lun = n + k }))
view_from g past ce zero n k h = absurd (omega arith)
view_from g past ce (suc count) n zero h = ap (λ (m : ℕ). Some (lun_view g past (record { ce = ce; lun = m }))) (omega arith)
view_from g past ce (suc count) n (suc k) h =
    let below : k < count = omega arith in
    let same : n + 1 + k ≡ n + suc k = omega arith in
    view_from g past ce count (n + 1) k below ∙ ap (λ (m : ℕ). Some (lun_view g past (record { ce = ce; lun = m }))) same

pub view_at : (g : Parts) (past : List Item) (l : Lun) → l.lun < g.luns → slice_get (luns_of g past l.ce) l.lun ≡ Some (lun_view g past l)
view_at g past l h = view_from g past l.ce g.luns 0 l.lun h ∙ ap (λ (m : ℕ). Some (lun_view g past (record { ce = l.ce; lun = m }))) (omega arith)

pub legal_more : (g : Parts) (targets : ℕ) (past : List Item) (i : Item) → is_legal g targets past ≡ true → broken g targets past i ≡ None → is_legal g targets (i ∷ past) ≡ true
legal_more g targets past i h p = rw (p, h) refl

pub facts_go_on : FactsGoOn
facts_go_on =
    record {
      tail = λ past c ce h. facts_of_cycle c past ce h;
      lun = view_goes_on;
      luns = λ g past ce. views_length g past ce g.luns 0;
      lun_at = view_at;
      sole_driver = λ g past l h. driver_of_target g past l.ce l.lun h;
      legal = legal_more;
    }

-- 2. readies

ready_tail : (past : List Item) (i : Item) (ce : ℕ) → is_cycle i ≡ false → tail (i ∷ past) ce ≡ tail past ce
ready_tail past (Cyc c) ce h = cc
ready_tail past (Rdy a b f) ce h = refl
ready_tail past (Ard a b f) ce h = refl

-- the view after an item whose effect is this, whatever the LUN shows
pub view_with : (g : Parts) (past : List Item) (i : Item) (l : Lun) (e : Effect) → effect_on g past i l ≡ e → effect_given g past (latch g past l) i l ≡ e → lun_view g (i ∷ past) l ≡ view_after e (lun_view g past l)
view_with g past i l e on given =
    ap (λ (x : Effect). record (view_after x (lun_view g past l)) { latch = shown_after (effect_given g past (latch g past l) i l) (lun_view g past l) }) on ∙
    ap (λ (x : Effect). record (view_after e (lun_view g past l)) { latch = shown_after x (lun_view g past l) }) given

own_ready : (g : Parts) (past : List Item) (l : Lun) (fail : Failures) → let v = lun_view g past l in lun_view g (Rdy l.ce l.lun fail ∷ past) l ≡ record v { busy = false; array_busy = v.array_busy || (v.busy && leaves_array_busy v.closer) }
unfolding effect_among
own_ready g past l fail = view_with g past (Rdy l.ce l.lun fail) l (BecameReady fail) (rw (eqb_self l.ce, eqb_self l.lun) refl) (rw (eqb_self l.ce, eqb_self l.lun) refl)

own_array_ready : (g : Parts) (past : List Item) (l : Lun) (fail : Bool) → let v = lun_view g past l in lun_view g (Ard l.ce l.lun fail ∷ past) l ≡ record v { array_busy = false }
unfolding effect_among
own_array_ready g past l fail = view_with g past (Ard l.ce l.lun fail) l (ArrayBecameReady fail) (rw (eqb_self l.ce, eqb_self l.lun) refl) (rw (eqb_self l.ce, eqb_self l.lun) refl)

other_ready : (g : Parts) (past : List Item) (i : Item) (l : Lun) → is_cycle i ≡ false → readies l i ≡ false → readies_array l i ≡ false → lun_view g (i ∷ past) l ≡ lun_view g past l
unfolding effect_among
other_ready g past (Cyc c) l h r a = cc
other_ready g past (Rdy ce lun fail) l h r a = view_with g past (Rdy ce lun fail) l Unaffected (rw r refl) (rw r refl)
other_ready g past (Ard ce lun fail) l h r a = view_with g past (Ard ce lun fail) l Unaffected (rw a refl) (rw a refl)

-- whether a LUN programs behind a 15, after an effect
abbrev programs_after : Effect → LunView → Bool
programs_after e v = (busy_after e v.busy && is_cache_program (closer_after e v.closer)) || (array_busy_after e v.busy v.closer v.array_busy && keeps_array_busy (closer_after e v.closer))

idle_by : (g : Parts) (past : List Item) (i : Item) (l : Lun) → (e : Effect) → effect_on g past i l ≡ e → busy_after e (is_busy g past l) ≡ false → is_cache_read (closer_after e (closer g past l)) ≡ false → programs_after e (lun_view g past l) ≡ false → queue_after e (queue g past l) ≡ [] → is_serving g (i ∷ past) l.ce ≡ false → IsIdle g (i ∷ past) l
idle_by g past i l e is not_busy not_caching not_programming not_queued free =
    record {
      ready = ap (λ (x : Effect). busy_after x (is_busy g past l)) is ∙ not_busy;
      no_cache = ap (λ (x : Effect). is_cache_read (closer_after x (closer g past l))) is ∙ not_caching;
      no_program = ap (λ (x : Effect). programs_after x (lun_view g past l)) is ∙ not_programming;
      no_queue = ap (λ (x : Effect). queue_after x (queue g past l)) is ∙ not_queued;
      free = free;
    }

-- a ready, an array ready or nothing leaves an idle LUN idle
abbrev is_harmless : Effect → Bool
is_harmless Unaffected = true
is_harmless (BecameReady failed) = true
is_harmless (ArrayBecameReady fail) = true
is_harmless _ = false

-- a ready of a LUN that isn't busy
ready_programs_none : (v : LunView) → v.busy ≡ false → programs v ≡ false → (false || ((v.array_busy || (v.busy && leaves_array_busy v.closer)) && keeps_array_busy v.closer)) ≡ false
ready_programs_none v busy none = rw (busy, or-false v.array_busy) (subst (λ (b : Bool). ((b && is_cache_program v.closer) || (v.array_busy && keeps_array_busy v.closer)) ≡ false) busy none)

idle_after : (g : Parts) (past : List Item) (i : Item) (l : Lun) (e : Effect) → effect_on g past i l ≡ e → is_harmless e ≡ true → is_serving g (i ∷ past) l.ce ≡ false → IsIdle g past l → IsIdle g (i ∷ past) l
idle_after g past i l Unaffected is h free idle = idle_by g past i l Unaffected is idle.ready idle.no_cache idle.no_program idle.no_queue free
idle_after g past i l (BecameReady fail) is h free idle = idle_by g past i l (BecameReady fail) is refl idle.no_cache (ready_programs_none (lun_view g past l) idle.ready idle.no_program) idle.no_queue free
idle_after g past i l (ArrayBecameReady fail) is h free idle = idle_by g past i l (ArrayBecameReady fail) is idle.ready idle.no_cache (rw idle.ready refl) idle.no_queue free
idle_after g past i l _ is h free idle = cc

either_harmless : (b : Bool) (x : Effect) → is_harmless x ≡ true → is_harmless (cond b x Unaffected) ≡ true
either_harmless true x h = h
either_harmless false x h = refl

pub ready_keeps_idle : (g : Parts) (past : List Item) (i : Item) (l : Lun) → is_cycle i ≡ false → IsIdle g past l → IsIdle g (i ∷ past) l
unfolding effect_among
ready_keeps_idle g past (Cyc c) l h idle = cc
ready_keeps_idle g past (Rdy ce lun fail) l h idle = idle_after g past (Rdy ce lun fail) l _ refl (either_harmless (ce == l.ce && lun == l.lun) (BecameReady fail) refl) (ready_serves g past (Rdy ce lun fail) l.ce refl idle.free) idle
ready_keeps_idle g past (Ard ce lun fail) l h idle = idle_after g past (Ard ce lun fail) l _ refl (either_harmless (ce == l.ce && lun == l.lun) (ArrayBecameReady fail) refl) (ready_serves g past (Ard ce lun fail) l.ce refl idle.free) idle

pub readies_change : ReadiesChange
readies_change = record { tails = ready_tail; own = own_ready; own_array = own_array_ready; others = other_ready; idle = ready_keeps_idle }

pub outputs_show : OutputsShow
outputs_show = record { has_byte = output_shows; closes = output_closes }

-- 3. the cycles of one LUN

-- a LUN of the same target with another number
other_number : (l m : Lun) → same_lun l m ≡ false → m.ce ≡ l.ce → m.lun ≢ l.lun
other_number l m h e f = absurd (clash (and_from (l.ce == m.ce) (l.lun == m.lun) (eq-eqb l.ce m.ce (sym e)) (eq-eqb l.lun m.lun (sym f))) h)
  where
    clash : same_lun l m ≡ true → same_lun l m ≡ false → ⊥
    clash a b = cc

pub there_lun : (s : Channel) (l : Lun) → is_there s l ≡ true → l.lun < s.geometry.luns
there_lun s l h = ltb-true l.lun s.geometry.luns (and_parts (ltb l.ce s.targets) (ltb l.lun s.geometry.luns) h).1

-- where a LUN's own cycle happens
own_here : (s : Channel) (past : List Item) (c : Cycle) (l : Lun) → IsOwn s l past (Cyc c) → c.ce ≡ l.ce
own_here s past c l own = eqb-true c.ce l.ce (and_parts (c.ce == l.ce) _ own.own).0

-- a cycle of one LUN keeps the others of the channel
pub keeps_apart : (s : Channel) (past : List Item) (c : Cycle) (l m : Lun) → is_legal s.geometry s.targets past ≡ true → IsOwn s l past (Cyc c) → same_lun l m ≡ false → is_there s l ≡ true → is_there s m ≡ true → KeepsLun s.geometry past (Cyc c) m
keeps_apart s past c l m legal own ne lt mt = at (m.ce == l.ce) refl
  where
    at : (b : Bool) → (m.ce == l.ce) ≡ b → KeepsLun s.geometry past (Cyc c) m
    at true e =
        let same : m.ce ≡ l.ce = eqb-true m.ce l.ce e in
        others_keep s.geometry s.targets past (Cyc c) m l legal own.permitted own.own same (other_number l m ne same) (there_lun s m mt) (there_lun s l lt)
    at false e =
        (targets_keep s.geometry past (Cyc c) m.ce (λ h. differs (eq-eqb m.ce l.ce (sym h ∙ own_here s past c l own)))).luns m.lun
      where
        differs : (m.ce == l.ce) ≡ true → ⊥
        differs h = cc

-- a cycle of one LUN keeps the tails of other targets
own_tails : (s : Channel) (past : List Item) (c : Cycle) (l : Lun) (ce : ℕ) → IsOwn s l past (Cyc c) → (l.ce ≡ ce → ⊥) → tail (Cyc c ∷ past) ce ≡ tail past ce
own_tails s past c l ce own ne = (targets_keep s.geometry past (Cyc c) ce (λ h. ne (sym (own_here s past c l own) ∙ h))).tail

pub idle_kept : (g : Parts) (past : List Item) (i : Item) (l m : Lun) → is_of g past l i ≡ true → KeepsLun g past i m → IsIdle g past m → IsIdle g (i ∷ past) m
idle_kept g past i l m of k idle =
    record {
      ready = k.busy ∙ idle.ready;
      no_cache = ap is_cache_read k.closer ∙ idle.no_cache;
      no_program = rw (k.busy, k.closer, k.array_busy) idle.no_program;
      no_queue = k.queue ∙ idle.no_queue;
      free = own_serves g past i l m.ce of idle.free;
    }

pub service_begins : ServiceBegins
service_begins = record { first = first_serves; readies = ready_serves; own = own_serves }

pub own_cycles_keep : OwnCyclesKeep
own_cycles_keep = record { others = keeps_apart; tails = own_tails; idle = idle_kept }
