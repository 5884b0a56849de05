-- What comes between the words of a program keeps what is claimed of it.
use Rattle.std.proofs.Common.{◌≡◌, inl, inr, ℕ, ◌==◌, Bool, true, false, ◌&&◌, cond, ltb, nat_le, List, [], ◌∷◌, Option, Some, None, refl, sym, ap, ◌∙◌, subst, arith, eqb-true, eq-eqb, length}
use Rattle.std.proofs.lemmas.Bool.Decides.{nat_tests}
use Rattle.std.proofs.lemmas.Bool.{not-true, and_parts, and_from}
use Rattle.nand_geometry.specs.declared.parts.Parts.{Parts}
use Rattle.onfi_cycle.specs.declared.lun.Lun.{Lun}
use Rattle.onfi_cycle.specs.declared.item.Item.{Item}
use Rattle.onfi_cycle.specs.declared.item.Item.TheVariants.{Cyc, Rdy, Ard}
use Rattle.onfi_cycle.specs.declared.item.Cycle.{Cycle}
use Rattle.onfi_cycle.specs.declared.effect.Effect.{Effect}
use Rattle.onfi_cycle.specs.declared.effect.Effect.TheVariants.{Unaffected, BecameReady, ArrayBecameReady}
use Rattle.onfi_cycle.specs.declared.latch.Latch.{Latch}
use Rattle.onfi_cycle.specs.declared.read_column.ReadColumn.{ReadColumn}
use Rattle.onfi_cycle.specs.declared.register.Register.{Register}
use Rattle.onfi_cycle.specs.declared.queued.Queued.{Queued}
use Rattle.onfi_cycle.specs.declared.command.Command.{Command}
use Rattle.onfi_cycle.specs.declared.page_address.PageAddress.{PageAddress}
use Rattle.onfi_cycle.specs.Effect.{is_off}
use Rattle.onfi_cycle.specs.LunView.{LunView}
use Rattle.onfi_cycle.specs.Sequence.{tail, facts_of}
use Rattle.onfi_cycle.specs.Lun.{latch, latch_after, drivers, is_only, lun_view, busy_after, is_busy, is_array_busy, closer, closer_after, array_page, array_page_after, register, register_after, read_column, read_column_after, queue, queue_after, held, held_after, is_copyback_read, effect_among, programs, is_programming, view_after}
use Rattle.onfi_cycle.specs.OtherLun.{KeepsLun, KeepsTarget, IsSameOrLost}
use Rattle.onfi_cycle.specs.Permitted.{is_legal}
use Rattle.onfi_cycle.specs.Channel.{Channel, IsOwn, same_lun, is_there, is_cycle, is_serving}
use Rattle.micro_program.specs.Program.{Job, index_now}
use Rattle.micro_program.specs.Safe.{Seat, after_item}
use Rattle.micro_claims.specs.State.{KnownLun, OutputColumn, Shown}
use Rattle.micro_program.proofs.Below.{readies, own_cycles, targets, service}
use Rattle.micro_program.proofs.Basics.{there_lun}
use Rattle.micro_program.proofs.Scenes.{Scene}
use Rattle.micro_program.proofs.Stepping.{drivers_same}
use Rattle.micro_claims.proofs.Fits.{RegisterFits, RowsFit, closer_among, latch_among, Below, ShowsFit, OutputFits, OutputColumnFits, HavePages, CopiesFit, LunFits, is_unread}
use Rattle.micro_claims.proofs.Programs.{programs_same, ready_programs, array_ready_programs}
use Rattle.micro_claims.proofs.Sounding.{KnownJob, Claims, knows_tail}

-- 1. readies

-- what a ready leaves of a LUN: all but its work
record ReadyLeaves (g : Parts) (past : List Item) (i : Item) (l : Lun) : Type 0 where
  latches : (m : ℕ) → latch g (i ∷ past) (record { ce = l.ce; lun = m }) ≡ latch g past (record { ce = l.ce; lun = m })
  busy : is_busy g past l ≡ false → is_busy g (i ∷ past) l ≡ false
  closer : closer g (i ∷ past) l ≡ closer g past l
  array_page : array_page g (i ∷ past) l ≡ array_page g past l
  register : register g (i ∷ past) l ≡ register g past l
  column : read_column g (i ∷ past) l ≡ read_column g past l
  queue : queue g (i ∷ past) l ≡ queue g past l
  held : held g (i ∷ past) l ≡ held g past l
  program : is_programming g past l ≡ false → is_programming g (i ∷ past) l ≡ false

leaves_latch : (b : Bool) (e : Effect) (selected works : Bool) (x : Latch) → latch_after e selected works x ≡ x → latch_after (cond b e Unaffected) selected works x ≡ x
leaves_latch true e selected works x h = h
leaves_latch false e selected works x h = refl

ready_leaves : (g : Parts) (past : List Item) (i : Item) (l : Lun) → is_cycle i ≡ false → ReadyLeaves g past i l
unfolding effect_among
ready_leaves g past (Cyc c) l h = cc
ready_leaves g past (Rdy ce lun fail) l h =
    record {
      latches = λ m. leaves_latch (ce == l.ce && lun == m) (BecameReady fail) _ _ _ refl;
      busy = λ e. at_busy (ce == l.ce && lun == l.lun) e;
      closer = at_closer (ce == l.ce && lun == l.lun);
      array_page = at_page (ce == l.ce && lun == l.lun);
      register = at_register (ce == l.ce && lun == l.lun);
      column = at_column (ce == l.ce && lun == l.lun);
      queue = at_queue (ce == l.ce && lun == l.lun);
      held = at_held (ce == l.ce && lun == l.lun);
      program = λ e. at_program (ce == l.ce && lun == l.lun) e;
    }
  where
    at_busy : (b : Bool) → is_busy g past l ≡ false → busy_after (cond b (BecameReady fail) Unaffected) (is_busy g past l) ≡ false
    at_busy true e = refl
    at_busy false e = e

    at_closer : (b : Bool) → closer_after (cond b (BecameReady fail) Unaffected) (closer g past l) ≡ closer g past l
    at_closer true = refl
    at_closer false = refl

    at_page : (b : Bool) → array_page_after (cond b (BecameReady fail) Unaffected) (array_page g past l) ≡ array_page g past l
    at_page true = refl
    at_page false = refl

    at_register : (b : Bool) → register_after (cond b (BecameReady fail) Unaffected) (array_page g past l) (queue g past l) (held g past l) (register g past l) ≡ register g past l
    at_register true = refl
    at_register false = refl

    at_column : (b : Bool) → read_column_after (cond b (BecameReady fail) Unaffected) (read_column g past l) ≡ read_column g past l
    at_column true = refl
    at_column false = refl

    at_queue : (b : Bool) → queue_after (cond b (BecameReady fail) Unaffected) (queue g past l) ≡ queue g past l
    at_queue true = refl
    at_queue false = refl

    at_held : (b : Bool) → held_after (cond b (BecameReady fail) Unaffected) (is_copyback_read (closer g past l)) (array_page g past l) (queue g past l) (held g past l) ≡ held g past l
    at_held true = refl
    at_held false = refl

    at_program : (b : Bool) → is_programming g past l ≡ false → programs (view_after (cond b (BecameReady fail) Unaffected) (lun_view g past l)) ≡ false
    at_program true e = ready_programs (lun_view g past l) fail e
    at_program false e = e
ready_leaves g past (Ard ce lun fail) l h =
    record {
      latches = λ m. leaves_latch (ce == l.ce && lun == m) (ArrayBecameReady fail) _ _ _ refl;
      busy = λ e. at_busy (ce == l.ce && lun == l.lun) e;
      closer = at_closer (ce == l.ce && lun == l.lun);
      array_page = at_page (ce == l.ce && lun == l.lun);
      register = at_register (ce == l.ce && lun == l.lun);
      column = at_column (ce == l.ce && lun == l.lun);
      queue = at_queue (ce == l.ce && lun == l.lun);
      held = at_held (ce == l.ce && lun == l.lun);
      program = λ e. at_program (ce == l.ce && lun == l.lun) e;
    }
  where
    at_busy : (b : Bool) → is_busy g past l ≡ false → busy_after (cond b (ArrayBecameReady fail) Unaffected) (is_busy g past l) ≡ false
    at_busy true e = e
    at_busy false e = e

    at_closer : (b : Bool) → closer_after (cond b (ArrayBecameReady fail) Unaffected) (closer g past l) ≡ closer g past l
    at_closer true = refl
    at_closer false = refl

    at_page : (b : Bool) → array_page_after (cond b (ArrayBecameReady fail) Unaffected) (array_page g past l) ≡ array_page g past l
    at_page true = refl
    at_page false = refl

    at_register : (b : Bool) → register_after (cond b (ArrayBecameReady fail) Unaffected) (array_page g past l) (queue g past l) (held g past l) (register g past l) ≡ register g past l
    at_register true = refl
    at_register false = refl

    at_column : (b : Bool) → read_column_after (cond b (ArrayBecameReady fail) Unaffected) (read_column g past l) ≡ read_column g past l
    at_column true = refl
    at_column false = refl

    at_queue : (b : Bool) → queue_after (cond b (ArrayBecameReady fail) Unaffected) (queue g past l) ≡ queue g past l
    at_queue true = refl
    at_queue false = refl

    at_held : (b : Bool) → held_after (cond b (ArrayBecameReady fail) Unaffected) (is_copyback_read (closer g past l)) (array_page g past l) (queue g past l) (held g past l) ≡ held g past l
    at_held true = refl
    at_held false = refl

    at_program : (b : Bool) → is_programming g past l ≡ false → programs (view_after (cond b (ArrayBecameReady fail) Unaffected) (lun_view g past l)) ≡ false
    at_program true e = array_ready_programs (lun_view g past l) fail e
    at_program false e = e

-- what is claimed of a LUN holds of one that differs in its latch alone, and may have become ready
moved_view : (g : Parts) (j : Job) (v : KnownLun) (i : ℕ) (old new : LunView) → (old.busy ≡ false → new.busy ≡ false) → new.closer ≡ old.closer → new.array_page ≡ old.array_page → new.register ≡ old.register → OutputColumnFits v.column new.column → new.queue ≡ old.queue → new.held ≡ old.held → (programs old ≡ false → programs new ≡ false) → LunFits g j v i old → LunFits g j v i new
moved_view g j v i old new busy closer page register column queue held program f =
    record {
      ready = λ e. busy (f.ready e);
      register = subst (λ (r : Register). RegisterFits v.register r) (sym register) f.register;
      column = column;
      queue = subst (λ (q : List Queued). RowsFit g i v.queue q) (sym queue) f.queue;
      last = subst (λ (c : Option Command). closer_among v.last c ≡ true) (sym closer) f.last;
      cached = λ base e. subst (λ (p : PageAddress). Below p.page v.cached.page.hi) (sym page) (f.cached base e);
      held = λ e. ap (λ (pages : List PageAddress). nat_le (length pages) 1) held ∙ f.held e;
      planes = subst (λ (pages : List PageAddress). HavePages g v.held pages) (sym held) f.planes;
      array = subst (λ (p : PageAddress). HavePages g v.array (p ∷ [])) (sym page) f.array;
      copies = subst (CopiesFit g v.copies v.held i new.closer) (sym held) (subst (λ (o : Option Command). CopiesFit g v.copies v.held i o old.held) (sym closer) f.copies);
      programming = λ e. program (f.programming e);
    }

shows_moved : (o : Option Shown) (c d : Scene) → d.sole ≡ c.sole → d.view.latch ≡ c.view.latch → ShowsFit o c → ShowsFit o d
shows_moved None c d sole latch f = tt
shows_moved (Some w) c d sole latch f = (sole ∙ f.0, ap (latch_among w) latch ∙ f.1)

pub ready_kept : (s : Channel) (j : Job) (seat : Seat) (i : Item) → Claims s j seat → is_cycle i ≡ false → Claims s j (after_item i seat)
ready_kept s j seat i c h =
    let g = s.geometry in
    let l = j.lun in
    let left = ready_leaves g seat.past i l h in
    let was = c.is.view in
    let now : Scene = record { facts = c.scene.facts; view = lun_view g (i ∷ seat.past) l; sole = c.scene.sole } in
    let same : drivers g (i ∷ seat.past) l.ce ≡ drivers g seat.past l.ce = drivers_same (λ m. latch g (i ∷ seat.past) (record { ce = l.ce; lun = m })) (λ m. latch g seat.past (record { ce = l.ce; lun = m })) (λ m. ap is_off (left.latches m)) g.luns 0 in
    record {
      claim = c.claim;
      scene = now;
      is = record {
        facts = ap facts_of (readies.tails seat.past i l.ce h) ∙ c.is.facts;
        view = refl;
        sole = λ e. ap (λ (ds : List ℕ). is_only ds l.lun) same ∙ c.is.sole e;
        free = service.readies g seat.past i l.ce h c.is.free;
      };
      fits = record {
        registers = c.fits.registers;
        tail = c.fits.tail;
        free = c.fits.free;
        shows = shows_moved c.claim.target.shows c.scene now refl (left.latches l.lun ∙ ap (λ (v : LunView). v.latch) was) c.fits.shows;
        lun = moved_view g j c.claim.lun (index_now j.base seat.done) c.scene.view (lun_view g (i ∷ seat.past) l)
            (λ e. left.busy (ap (λ (v : LunView). v.busy) was ∙ e))
            (left.closer ∙ ap (λ (v : LunView). v.closer) was)
            (left.array_page ∙ ap (λ (v : LunView). v.array_page) was)
            (left.register ∙ ap (λ (v : LunView). v.register) was)
            (subst (λ (k : ReadColumn). OutputColumnFits c.claim.lun.column k) (sym (left.column ∙ ap (λ (v : LunView). v.column) was)) c.fits.lun.column)
            (left.queue ∙ ap (λ (v : LunView). v.queue) was)
            (left.held ∙ ap (λ (v : LunView). v.held) was)
            (λ e. left.program (ap programs was ∙ e))
            c.fits.lun;
      };
      accepted = c.accepted;
    }

-- 2. others

-- a column from which nothing was read stays
kept_column : (o : Option OutputColumn) (old new : ReadColumn) → is_unread o ≡ true → IsSameOrLost old new → OutputColumnFits o old → OutputColumnFits o new
kept_column None old new unread same f = tt
kept_column (Some k) old new unread (inl e) f = subst (λ (c : ReadColumn). OutputFits k c) (sym e) f
kept_column (Some k) old new unread (inr lost) f =
    let none = f.unread (not-true k.read unread) in
    let some : ltb 0 0 ≡ true = subst (λ (n : ℕ). ltb 0 n ≡ true) none lost.1 in
    cc

-- a LUN of the same target: there are several
here_kept : (s : Channel) (j : Job) (k : KnownJob s j) (seat : Seat) (c : Cycle) (kept : KeepsLun s.geometry seat.past (Cyc c) j.lun) → Claims s j seat → seat.holding ≡ false → ltb 1 s.geometry.luns ≡ true → is_serving s.geometry (Cyc c ∷ seat.past) j.lun.ce ≡ false → Claims s j (after_item (Cyc c) seat)
here_kept s j k seat c kept claims free several rests =
    let g = s.geometry in
    let l = j.lun in
    let was = claims.is.view in
    let unknown : knows_tail s seat claims.scene ≡ false = rw (free, several) refl in
    let is_free = claims.fits.free unknown in
    let now : Scene = record { facts = facts_of (tail (Cyc c ∷ seat.past) l.ce); view = lun_view g (Cyc c ∷ seat.past) l; sole = false } in
    record {
      claim = claims.claim;
      scene = now;
      is = record { facts = refl; view = refl; sole = λ e. cc; free = rests };
      fits = record {
        registers = claims.fits.registers;
        tail = λ e. let none : knows_tail s (after_item (Cyc c) seat) now ≡ false = rw (free, several) refl in cc;
        free = λ e. is_free;
        shows = subst (λ (o : Option Shown). ShowsFit o now) (sym is_free.shows) tt;
        lun = moved_view g j claims.claim.lun (index_now j.base seat.done) claims.scene.view (lun_view g (Cyc c ∷ seat.past) l)
            (λ e. kept.busy ∙ (ap (λ (v : LunView). v.busy) was ∙ e))
            (kept.closer ∙ ap (λ (v : LunView). v.closer) was)
            (kept.array_page ∙ ap (λ (v : LunView). v.array_page) was)
            (kept.register ∙ ap (λ (v : LunView). v.register) was)
            (kept_column claims.claim.lun.column (read_column g seat.past l) (read_column g (Cyc c ∷ seat.past) l) is_free.unread kept.column (subst (λ (x : ReadColumn). OutputColumnFits claims.claim.lun.column x) (sym (ap (λ (v : LunView). v.column) was)) claims.fits.lun.column))
            (kept.queue ∙ ap (λ (v : LunView). v.queue) was)
            (kept.held ∙ ap (λ (v : LunView). v.held) was)
            (λ e. programs_same (lun_view g (Cyc c ∷ seat.past) l) (lun_view g seat.past l) kept.busy kept.closer kept.array_busy ∙ (ap programs was ∙ e))
            claims.fits.lun;
      };
      accepted = claims.accepted;
    }

-- a LUN of another target
-- a cycle of another target leaves all of a LUN
apart_view : (g : Parts) (past : List Item) (c : Cycle) (l : Lun) → (c.ce == l.ce) ≡ false → lun_view g (Cyc c ∷ past) l ≡ lun_view g past l
unfolding effect_among
apart_view g past c l e = rw e refl

there_kept : (s : Channel) (j : Job) (seat : Seat) (c : Cycle) → (c.ce == j.lun.ce) ≡ false → is_serving s.geometry (Cyc c ∷ seat.past) j.lun.ce ≡ false → KeepsTarget s.geometry seat.past (Cyc c) j.lun.ce → is_array_busy s.geometry (Cyc c ∷ seat.past) j.lun ≡ is_array_busy s.geometry seat.past j.lun → Claims s j seat → Claims s j (after_item (Cyc c) seat)
there_kept s j seat c apart rests kept array claims =
    let g = s.geometry in
    let l = j.lun in
    let k = kept.luns l.lun in
    let view : lun_view g (Cyc c ∷ seat.past) l ≡ lun_view g seat.past l = apart_view g seat.past c l apart in
    let same : drivers g (Cyc c ∷ seat.past) l.ce ≡ drivers g seat.past l.ce = drivers_same (λ m. latch g (Cyc c ∷ seat.past) (record { ce = l.ce; lun = m })) (λ m. latch g seat.past (record { ce = l.ce; lun = m })) (λ m. ap is_off (kept.latch m)) g.luns 0 in
    record {
      claim = claims.claim;
      scene = claims.scene;
      is = record {
        facts = ap facts_of kept.tail ∙ claims.is.facts;
        view = view ∙ claims.is.view;
        sole = λ e. ap (λ (ds : List ℕ). is_only ds l.lun) same ∙ claims.is.sole e;
        free = rests;
      };
      fits = claims.fits;
      accepted = claims.accepted;
    }

pub other_kept : (s : Channel) (j : Job) (k : KnownJob s j) (seat : Seat) (c : Cycle) (m : Lun) → is_legal s.geometry s.targets seat.past ≡ true → Claims s j seat → seat.holding ≡ false → IsOwn s m seat.past (Cyc c) → is_there s m ≡ true → same_lun m j.lun ≡ false → Claims s j (after_item (Cyc c) seat)
other_kept s j k seat c m legal claims free own there ne = at (m.ce == j.lun.ce) refl
  where
    kept : KeepsLun s.geometry seat.past (Cyc c) j.lun
    kept = own_cycles.others s seat.past c m j.lun legal own ne there k.there

    rests : is_serving s.geometry (Cyc c ∷ seat.past) j.lun.ce ≡ false
    rests = service.own s.geometry seat.past (Cyc c) m j.lun.ce own.own claims.is.free

    here : c.ce ≡ m.ce
    here = eqb-true c.ce m.ce (and_parts (c.ce == m.ce) _ own.own).0

    at : (b : Bool) → (m.ce == j.lun.ce) ≡ b → Claims s j (after_item (Cyc c) seat)
    at true e = here_kept s j k seat c kept claims free (several (m.lun == j.lun.lun) refl) rests
      where
        several : (b : Bool) → (m.lun == j.lun.lun) ≡ b → ltb 1 s.geometry.luns ≡ true
        several true f = let both : same_lun m j.lun ≡ true = and_from (m.ce == j.lun.ce) (m.lun == j.lun.lun) e f in cc
        several false f =
            let low = there_lun s m there in
            let high = there_lun s j.lun k.there in
            grind (arith, nat_tests, f, low, high)
    at false e =
        there_kept s j seat c (elsewhere (c.ce == j.lun.ce) refl) rests (targets s.geometry seat.past (Cyc c) j.lun.ce (λ h. differs (eq-eqb m.ce j.lun.ce (sym here ∙ h)))) kept.array_busy claims
      where
        differs : (m.ce == j.lun.ce) ≡ true → ⊥
        differs h = cc

        elsewhere : (b : Bool) → (c.ce == j.lun.ce) ≡ b → (c.ce == j.lun.ce) ≡ false
        elsewhere true f = absurd (differs (eq-eqb m.ce j.lun.ce (sym here ∙ eqb-true c.ce j.lun.ce f)))
        elsewhere false f = f
