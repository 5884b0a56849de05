-- What a cycle of a target whose host polls does to its operations.
use Rattle.std.proofs.Common.{◌≡◌, ◌⊎◌, inl, inr, ℕ, ◌<◌, ◌==◌, Bool, true, false, ◌&&◌, ◌||◌, not, cond, List, [], ◌∷◌, ◌++◌, Option, Some, None, is_some, refl, sym, ap, ◌∙◌, subst, arith, length, slice_set, eq-eqb}
use Rattle.std.specs.Prelude.{slice_get}
use Rattle.std.proofs.lemmas.Option.{slice_get_within}
use Rattle.nand_geometry.specs.declared.parts.Parts.{Parts}
use Rattle.onfi_cycle.specs.declared.target_cycle.TargetCycle.TheVariants.{CommandCycle}
use Rattle.onfi_cycle.specs.declared.command.Command.{Command}
use Rattle.onfi_cycle.specs.declared.command.Command.TheVariants.{Read, ReadConfirm, BlockErase, BlockEraseConfirm, PageProgram, ProgramConfirm}
use Rattle.onfi_cycle.specs.declared.effect.Effect.TheVariants.{Unaffected, DataOutput}
use Rattle.onfi_cycle.specs.declared.item.Cycle.{Cycle as BusCycle}
use Rattle.onfi_cycle.specs.declared.item.Item.{Item}
use Rattle.onfi_cycle.specs.declared.item.Item.TheVariants.{Cyc}
use Rattle.onfi_cycle.specs.declared.item.Kind.{Kind}
use Rattle.onfi_cycle.specs.declared.item.Kind.TheVariants.{Cmd, Adr, Din, Dout}
use Rattle.onfi_cycle.specs.declared.latch.Latch.{Latch}
use Rattle.onfi_cycle.specs.declared.target_cycle.TargetCycle.{TargetCycle}
use Rattle.onfi_cycle.specs.Command.{command}
use Rattle.onfi_cycle.specs.Effect.{is_data, cycle_effect}
use Rattle.onfi_cycle.specs.LunView.{LunView}
use Rattle.onfi_cycle.specs.Lun.{latch, latch_after, lun_view, luns_of, is_busy, works as working}
use Rattle.onfi_cycle.specs.Sequence.{target_cycle, tail, facts_of}
use Rattle.onfi_cycle.proofs.CommandBytes.{commands_have_bytes}
use Rattle.onfi_cycle.proofs.Passed.{KeepsRules}
use Rattle.trace_faults.specs.Outside.{begins_alone}
use Rattle.trace_ops.specs.declared.change.Change.{Change}
use Rattle.trace_ops.specs.declared.change.Change.TheVariants.{Opened, Cycle, Poll, Unfold}
use Rattle.trace_ops.specs.declared.judged.Judged.{Judged}
use Rattle.trace_ops.specs.declared.looks.Looks.{Looks}
use Rattle.trace_ops.specs.declared.operation.Beginning.{Beginning}
use Rattle.trace_ops.specs.declared.operation.Beginning.TheVariants as begins
use Rattle.trace_ops.specs.declared.operation.Operation.{Operation}
use Rattle.trace_ops.specs.AtWork.{resets}
use Rattle.trace_ops.specs.Operation.{begun, opener_of, is_byte, is_output, changed, changed_at, says_ready}
use Rattle.trace_ops.specs.Openings.{opens, opened_at, Opened as OpenedAt}
use Rattle.trace_ops.specs.Listing.{Listing, found, lun_place, op_of, begins_one, new_by_command, new_one, number_of, with_new, change_of, is_new_opener, is_address_kind, is_alone_op, unfolded, is_command, all_begun, with_ends, owner_in, mark_in, listed, opens_alone}
use Rattle.trace_ops.specs.Polling.{Work, Reads, Programs, Erases, Sequence, begun_with, Doing, Rests, Sends, Waits, opener_for, closer_for, doing_after, is_sending}
use Rattle.trace_ops.proofs.AtWork.{worker_in}
use Rattle.trace_ops.proofs.Changed.{by}
use Rattle.trace_ops.proofs.Closing.{closes_work, closer_begins, Started}
use Rattle.trace_ops.proofs.Cycles.{CycleAt, begins_nothing, begins_first, owned_by, target_few, keeps}
use Rattle.trace_ops.proofs.Domestic.{Every, every_at, every_new}
use Rattle.trace_ops.proofs.Gently.{is_gentle, kept_ce, gently}
use Rattle.trace_ops.proofs.Legal.{permitted_as, at_lun, output_begins, begins_between, work_between}
use Rattle.trace_ops.proofs.Owned.{old, new}
use Rattle.trace_ops.proofs.Pieces.{kept_beginning, newest_by, listed_newest, found_same}
use Rattle.trace_ops.proofs.Polled.{sends_same, whole, whole_sends, whole_ends, whole_work, IsOpen, IsWhole, open_same, Fits, is_unseen, fits_last, fits_poll, fits_seen, fits_more, poll_kept, at_end}
use Rattle.trace_ops.proofs.PolledItems.{told_after, has_worked, has_asked, Polls, long_after, ends_settled, old_settled, unaddressed, settled, output_settled}
use Rattle.trace_ops.proofs.Quiet.{choose}
use Rattle.trace_ops.proofs.Quietly.{selects_workers}
use Rattle.trace_ops.proofs.Spans.{same_some}
use Rattle.trace_ops.proofs.Starts.{starts_by, cycle_busy}
use Rattle.trace_ops.proofs.Tails.{target_below}
use Rattle.trace_ops.proofs.Walked.{new_workers}
use Rattle.trace_ops.proofs.Walks.{came, length_ends}

no : true ≡ false → ⊥
no e = cc

-- ---- bytes

command_is : (w : Work) (byte : ℕ) → byte ≡ closer_for w → closes_work (command byte) ≡ true
command_is Reads byte e = ap closes_work (commands_have_bytes.command_of_byte ReadConfirm byte (ap Some (sym e)))
command_is Programs byte e = ap closes_work (commands_have_bytes.command_of_byte ProgramConfirm byte (ap Some (sym e)))
command_is Erases byte e = ap closes_work (commands_have_bytes.command_of_byte BlockEraseConfirm byte (ap Some (sym e)))

pub closes_opens : (w : Work) (byte : ℕ) → byte ≡ closer_for w → opens_alone byte ≡ false
closes_opens Reads byte e = ap (λ (x : Command). begins_alone (CommandCycle x)) (commands_have_bytes.command_of_byte ReadConfirm byte (ap Some (sym e)))
closes_opens Programs byte e = ap (λ (x : Command). begins_alone (CommandCycle x)) (commands_have_bytes.command_of_byte ProgramConfirm byte (ap Some (sym e)))
closes_opens Erases byte e = ap (λ (x : Command). begins_alone (CommandCycle x)) (commands_have_bytes.command_of_byte BlockEraseConfirm byte (ap Some (sym e)))

pub opens_work : (w : Work) (byte : ℕ) → byte ≡ opener_for w → opens_alone byte ≡ true
opens_work Reads byte e = ap (λ (x : Command). begins_alone (CommandCycle x)) (commands_have_bytes.command_of_byte Read byte (ap Some (sym e)))
opens_work Programs byte e = ap (λ (x : Command). begins_alone (CommandCycle x)) (commands_have_bytes.command_of_byte PageProgram byte (ap Some (sym e)))
opens_work Erases byte e = ap (λ (x : Command). begins_alone (CommandCycle x)) (commands_have_bytes.command_of_byte BlockErase byte (ap Some (sym e)))

-- the closer of the operation
closed_so : (w : Work) (b : Beginning) (closer : Option ℕ) (byte : ℕ) → b ≡ begins.Opener (opener_for w) → closer ≡ None → byte ≡ closer_for w →
    cond (is_some closer || (byte == 0x85 || is_byte (opener_of b) byte)) closer (Some byte) ≡ Some (closer_for w)
closed_so Reads b closer byte p q r = rw (p, q, r) refl
closed_so Programs b closer byte p q r = rw (p, q, r) refl
closed_so Erases b closer byte p q r = rw (p, q, r) refl

-- ---- an output leaves what its LUN shows

output_shows : (g : Parts) (past : List Item) (c : BusCycle) → c.kind ≡ Dout → latch g (Cyc c ∷ past) (at_lun c.ce 0) ≡ latch g past (at_lun c.ce 0)
output_shows g past c e =
    ap (λ (k : Kind). latch_after (cond (c.ce == c.ce) (cycle_effect g (facts_of (tail past c.ce)) s (target_cycle k c.byte) 0) Unaffected) v.selected (working v) s) e ∙ at (c.ce == c.ce) (is_data s)
  where
    v : LunView
    v = lun_view g past (at_lun c.ce 0)

    s : Latch
    s = latch g past (at_lun c.ce 0)

    at : (b x : Bool) → latch_after (cond b (cond x DataOutput Unaffected) Unaffected) v.selected (working v) s ≡ s
    at true true = refl
    at true false = refl
    at false x = refl

module _ (g : Parts) (targets n : ℕ) (one_lun : Bool) (past : List Item) (marks : List ℕ) (c : BusCycle) (before after : Looks) (l : Listing) (pieces : ℕ → List TargetCycle)
    (here : CycleAt g targets n past marks c before after l pieces) (items : List Item) (told : List (Option Sequence)) where
  abbrev j : Judged
  j = permitted_as one_lun n (Cyc c) before after

  abbrev owner : Option ℕ
  owner = owner_in j (with_ends j l)

  abbrev mark : ℕ
  mark = mark_in j (with_ends j l)

  abbrev many : ℕ
  many = length (with_ends j l).ops

  abbrev more : List Operation
  more = (with_new owner j (with_ends j l)).ops

  abbrev After : Bool → Option Sequence → Doing → ℕ → Type 0
  After opened x next at = Polls g c.ce (Cyc c ∷ past) items (listed j l) (told_after opened x told) next at

  mark_some : (m : ℕ) → owner ≡ Some m → mark ≡ m
  mark_some m h = ap (λ (x : Option ℕ). number_of x (with_ends j l).ops) h

  mark_none : owner ≡ None → mark ≡ many
  mark_none h = ap (λ (x : Option ℕ). number_of x (with_ends j l).ops) h

  -- where no LUN begins work
  same_workers : ((lun : ℕ) → lun < 4 → begins_between c before after lun ≡ false) → (listed j l).places.workers ≡ l.places.workers
  same_workers none =
      selects_workers j mark (all_begun j mark (came j l)) ∙ ap (λ (x : Listing). x.places.workers) (begins_nothing g targets n one_lun past marks c before after l pieces here none)
      ∙ new_workers owner j (with_ends j l)

  -- ---- an output

  module _ (d next : Doing) (at : ℕ) (was : Polls g c.ce past (Cyc c ∷ items) l told d at) (e : c.kind ≡ Dout) where
    poll_by : (is_unseen next ≡ false) ⊎ (says_ready c.byte ≡ false) → (w : ℕ) (o : Operation) → Fits next c.ce at items told w o → Fits next c.ce at items told w (changed (Poll n c.byte) o)
    poll_by (inl seen) w o f = fits_poll next c.ce at items told w n c.byte o seen f
    poll_by (inr busy) w o f = (fits_last next c.ce at items told).on w o (changed (Poll n c.byte) o) (poll_kept n c.byte o busy) f

    pub own_output : Every (Fits next c.ce at items told) l.ops → (is_unseen next ≡ false) ⊎ (says_ready c.byte ≡ false) → is_sending next ≡ false → (has_worked next ≡ true → has_worked d ≡ true) →
        (has_asked next ≡ true → has_asked d ≡ true) → (x : Option Sequence) → After (opens (Cyc c)) x next at
    own_output fits ok rests worked asked x = subst (λ b. After b x next at) (sym opens_none) (record {
      fits =
          output_settled g targets n one_lun past marks c before after l pieces here (Fits next c.ce at items told) (fits_last next c.ce at items told) e (λ lun w few is o f. poll_by ok w o f) fits;
      long = ap (λ b. length (told_after b x told)) (sym opens_none) ∙ long_after g targets n one_lun past marks c before after l pieces here told x was.long;
      newest = λ h. absurd (no (sym h ∙ rests));
      worker = λ h. ap (λ (ws : List (Option ℕ)). worker_in ws c.ce 0) (same_workers (λ lun low. output_begins g targets past c before after here.sees here.saw lun low e)) ∙ was.worker (worked h);
      shows = λ h. output_shows g past c e ∙ was.shows (asked h);
    })
      where
        opens_none : opens (Cyc c) ≡ false
        opens_none = ap (λ (k : Kind). is_command k && opens_alone c.byte) e

  -- ---- in the middle of a sequence

  module _ (s : Sequence) (at : ℕ) (was : Polls g c.ce past (Cyc c ∷ items) l told (Sends s) at) (input : is_output c.kind ≡ false) (goes_on : opens (Cyc c) ≡ false) where
    abbrev Held : ℕ → Operation → Type 0
    Held = Fits (Sends s) c.ce at (Cyc c ∷ items) told

    mine' : (m : ℕ) × (owner ≡ Some m)
    mine' = old g targets n one_lun past marks c before after l pieces here goes_on

    mark_is : mark ≡ at
    mark_is =
        mark_some mine'.0 mine'.1
        ∙ same_some (sym (owned_by g targets n one_lun past marks c before after l pieces here c.kind (keeps g targets n one_lun past marks c before after l pieces here) input mine'.0 mine'.1).0 ∙ was.newest refl)

    held_more : Every Held more
    held_more =
        old_settled g targets n one_lun past marks c before after l pieces here Held (fits_last (Sends s) c.ce at (Cyc c ∷ items) told) mine'.0 mine'.1
        (ends_settled g targets n one_lun past marks c before after l pieces here Held (fits_last (Sends s) c.ce at (Cyc c ∷ items) told) was.fits)

    two : {v : Sequence} → Some None ≡ Some (Some v) → ⊥
    two h = none (same_some h)
      where
        none : {v : Sequence} → None ≡ Some v → ⊥
        none h = cc

    -- the operation that is sent, taken from that of which it was a part
    held_unfolded : (k : ℕ) (o : Operation) → k ≡ at → Held k o → Held k (changed Unfold o)
    held_unfolded k o same f = record {
      work = f.work;
      closed = λ v t open'. absurd (open' refl same);
      part = λ own t. absurd (two (sym t ∙ (f.current s refl same).0));
      current = λ v e p. (
        (f.current v e p).0,
        open_same v o (changed Unfold o) (record { closer = refl; addresses = refl; count = refl; addressed = refl; inputs = refl }) (f.current v e p).1,
      );
      unseen = f.unseen;
    }

    held_open : Every Held (unfolded j mark more)
    held_open =
        choose (Every Held) (is_address_kind c.kind && is_alone_op (slice_get more mark)) _ more
        (every_at Held Held mark Unfold more (λ k o away f. f) (λ o is f. held_unfolded mark o mark_is f) held_more) held_more

    change_is : change_of owner j (Cyc c) ≡ Cycle n c.kind c.byte j.said
    change_is = ap (λ (x : Option ℕ). cond (is_new_opener x j c.kind) (Opened n j.said) (Cycle n c.kind c.byte j.said)) mine'.1

    -- an address or an input
    module _ (t : Sequence) (step : doing_after c.ce (Cyc c) (Sends s) ≡ Some (Sends t)) (opens' : (o : Operation) → IsOpen s o → IsOpen t (changed (Cycle n c.kind c.byte j.said) o))
        (same_status : (o : Operation) → (changed (Cycle n c.kind c.byte j.said) o).status ≡ o.status) where
      abbrev Next : ℕ → Operation → Type 0
      Next = Fits (Sends t) c.ce at items told

      next_other : (k : ℕ) (o : Operation) → (k ≡ at → ⊥) → Held k o → Next k o
      next_other k o away f = record {
        work = f.work;
        closed = λ v t open'. f.closed v t (λ e p. away p);
        part = f.part;
        current = λ v e p. absurd (away p);
        unseen = λ u p. absurd (away p);
      }

      next_own : (k : ℕ) (o : Operation) → k ≡ at → Held k o → Next k (changed (Cycle n c.kind c.byte j.said) o)
      next_own k o same f = record {
        work = λ v told'. (kept_ce (Cycle n c.kind c.byte j.said) o ∙ (f.work v told').0, kept_beginning (Cycle n c.kind c.byte j.said) o ∙ (f.work v told').1);
        closed = λ v told' open'. absurd (open' refl same);
        part = λ own told'. absurd (two (sym told' ∙ (f.current s refl same).0));
        current = λ v e p. (
            let it : t ≡ v = sends_same e in (
              (f.current s refl same).0 ∙ ap (λ (x : Sequence). Some (Some x)) (whole_sends c.ce (Cyc c) items s t step) ∙ ap (λ (x : Sequence). Some (Some (whole c.ce items x))) it,
              subst (λ (x : Sequence). IsOpen x (changed (Cycle n c.kind c.byte j.said) o)) it (opens' o (f.current s refl same).1),
            )
            );
        unseen = λ u p. (kept_ce (Cycle n c.kind c.byte j.said) o ∙ (f.unseen u p).0, ap (λ (x : Option ℕ). is_some x) (same_status o) ∙ (f.unseen u p).1);
      }

      newest_same : found (listed j l).places.newest c.ce ≡ found l.places.newest c.ce
      newest_same = ap (λ (ns : List (Option ℕ)). found ns c.ce) (listed_newest j l) ∙ ap (λ (x : Option ℕ). found (newest_by x (Cyc c) c.ce many l.places.newest) c.ce) mine'.1

      pub own_input : (x : Option Sequence) → After (opens (Cyc c)) x (Sends t) at
      own_input x = subst (λ b. After b x (Sends t) at) (sym goes_on) (record {
        fits =
            settled g targets n one_lun past marks c before after l pieces here Next (fits_last (Sends t) c.ce at items told) input
            (subst (λ (d : Change). Every Next (changed_at mark d (unfolded j mark more))) (sym change_is)
            (every_at Held Next mark (Cycle n c.kind c.byte j.said) (unfolded j mark more) (λ k o away f. next_other k o (λ p. away (p ∙ sym mark_is)) f) (λ o is f. next_own mark o mark_is f) held_open));
        long = ap (λ b. length (told_after b x told)) (sym goes_on) ∙ long_after g targets n one_lun past marks c before after l pieces here told x was.long;
        newest = λ h. newest_same ∙ was.newest refl;
        worker = λ h. cc;
        shows = λ h. cc;
      })

    -- the closer
    module _ (one : g.luns ≡ 1) (e : c.kind ≡ Cmd) (byte : c.byte ≡ closer_for s.work) (step : doing_after c.ce (Cyc c) (Sends s) ≡ Some (Waits s.work)) where
      abbrev Waiting : ℕ → Operation → Type 0
      Waiting = Fits (Waits s.work) c.ce at items told

      waiting_other : (k : ℕ) (o : Operation) → (k ≡ at → ⊥) → Held k o → Waiting k o
      waiting_other k o away f = record {
        work = f.work;
        closed = λ v t open'. f.closed v t (λ s p. away p);
        part = f.part;
        current = λ v s p. absurd (away p);
        unseen = λ u p. absurd (away p);
      }

      waiting_own : (k : ℕ) (o : Operation) → k ≡ at → Held k o → Waiting k (changed (Cycle n Cmd c.byte j.said) o)
      waiting_own k o same f = record {
        work = f.work;
        closed = λ v t open'. subst (λ (x : Sequence). IsWhole x (changed (Cycle n Cmd c.byte j.said) o)) (same_some (same_some (sym told_is ∙ t))) whole';
        part = λ own t. absurd (two (sym t ∙ told_is));
        current = λ v s p. absurd (waits s);
        unseen = λ u p. f.unseen refl p;
      }
        where
          waits : {v : Sequence} → Waits s.work ≡ Sends v → ⊥
          waits h = cc

          told_is : slice_get told k ≡ Some (Some s)
          told_is = (f.current s refl same).0 ∙ ap (λ (x : Sequence). Some (Some x)) (whole_ends c.ce (Cyc c) items s s.work step)

          open'' : IsOpen s o
          open'' = (f.current s refl same).1

          whole' : IsWhole s (changed (Cycle n Cmd c.byte j.said) o)
          whole' = record {
            closer = closed_so s.work o.beginning o.closer c.byte (f.work s told_is).1 open''.closer byte;
            addresses = open''.addresses;
            inputs = open''.inputs;
          }

      started : Started g past c.ce (command c.byte)
      started =
          closer_begins g targets past c.ce (command c.byte) one here.legal (command_is s.work c.byte byte)
          (subst (λ (k : Kind). KeepsRules g (facts_of (tail past c.ce)) (luns_of g past c.ce) (target_cycle k c.byte)) e
          (keeps g targets n one_lun past marks c before after l pieces here))

      busy_after : is_busy g (Cyc c ∷ past) (at_lun c.ce 0) ≡ true
      busy_after =
          cycle_busy g past c (at_lun c.ce 0)
          ∙ ap (λ (k : Kind). is_busy g past (at_lun c.ce 0) || (c.ce == c.ce && starts_by g past (at_lun c.ce 0) (target_cycle k c.byte))) e
          ∙ ap (λ b. is_busy g past (at_lun c.ce 0) || (c.ce == c.ce && b)) started.started
          ∙ ap (λ b. is_busy g past (at_lun c.ce 0) || (b && true)) (eq-eqb c.ce c.ce refl)
          ∙ ap (λ b. b || true) started.rested

      begins' : begins_between c before after 0 ≡ true
      begins' =
          sym (work_between g targets past c before after here.sees here.saw 0 (omega arith) (target_below g targets past c here.permitted) (omega (arith, one)))
          ∙ ap (λ b. b && (not (is_busy g past (at_lun c.ce 0)) || resets (Cyc c) (at_lun c.ce 0))) busy_after
          ∙ ap (λ b. not b || resets (Cyc c) (at_lun c.ce 0)) started.rested

      workers_after : worker_in (listed j l).places.workers c.ce 0 ≡ Some mark
      workers_after =
          ap (λ (ws : List (Option ℕ)). worker_in ws c.ce 0)
          (selects_workers j mark (all_begun j mark (came j l)) ∙ begins_first g targets n one_lun past marks c before after l pieces here begins'
          ∙ ap (λ (ws : List (Option ℕ)). slice_set ws (lun_place c.ce 0) (Some mark)) (new_workers owner j (with_ends j l)))
          ∙ found_same l.places.workers (lun_place c.ce 0) mark (let long = here.tells.long in let few = target_few g targets n one_lun past marks c before after l pieces here in omega (arith, long, few))

      pub own_closer : (x : Option Sequence) → After (opens (Cyc c)) x (Waits s.work) at
      own_closer x = subst (λ b. After b x (Waits s.work) at) (sym goes_on) (record {
        fits =
            settled g targets n one_lun past marks c before after l pieces here Waiting (fits_last (Waits s.work) c.ce at items told) input
            (subst (λ (d : Change). Every Waiting (changed_at mark d (unfolded j mark more))) (sym (change_is ∙ ap (λ (k : Kind). Cycle n k c.byte j.said) e))
            (every_at Held Waiting mark (Cycle n Cmd c.byte j.said) (unfolded j mark more) (λ k o away f. waiting_other k o (λ p. away (p ∙ sym mark_is)) f) (λ o is f. waiting_own mark o mark_is f) held_open));
        long = ap (λ b. length (told_after b x told)) (sym goes_on) ∙ long_after g targets n one_lun past marks c before after l pieces here told x was.long;
        newest = λ h. cc;
        worker = λ h. workers_after ∙ ap Some mark_is;
        shows = λ h. cc;
      })

  -- ---- a new sequence

  module _ (at : ℕ) (was : Polls g c.ce past (Cyc c ∷ items) l told Rests at) (w : Work) (e : c.kind ≡ Cmd) (byte : c.byte ≡ opener_for w) where
    abbrev start : Sequence
    start = begun_with w

    -- all that is sent of it
    abbrev all : Sequence
    all = whole c.ce items start

    abbrev later : List (Option Sequence)
    later = told ++ (Some all ∷ [])

    abbrev Sending : ℕ → Operation → Type 0
    Sending = Fits (Sends start) c.ce many items later

    abbrev newest : Option Operation
    newest = op_of (with_ends j l).ops (found l.places.newest c.ce)

    abbrev newcomer : Operation
    newcomer = new_one j newest (Cyc c)

    opens_one : opens (Cyc c) ≡ true
    opens_one = ap (λ (k : Kind). is_command k && opens_alone c.byte) e ∙ opens_work w c.byte byte

    is_new : (owner ≡ None) × (opened_at newcomer ≡ record { first = n; ce = c.ce; beginning = begins.Opener c.byte })
    is_new = new g targets n one_lun past marks c before after l pieces here opens_one

    many_is : length told ≡ many
    many_is = (let same = length_ends j l in let long = was.long in omega (arith, same, long))

    sending_old : Every Sending (with_ends j l).ops
    sending_old k o is = record {
      work = held.work;
      closed = λ v t open'. held.closed v t (λ s p. cc);
      part = held.part;
      current = λ v s p. absurd (omega (arith, small, p));
      unseen = λ u p. absurd (omega (arith, small, p));
    }
      where
        small : k < many
        small = slice_get_within (with_ends j l).ops k o is

        held : Fits Rests c.ce at items later k o
        held =
            fits_more Rests c.ce at items told (Some all) k o (let same = many_is in omega (arith, small, same))
            (fits_seen Rests Rests c.ce at at (Cyc c ∷ items) items told refl refl refl k o
            (ends_settled g targets n one_lun past marks c before after l pieces here (Fits Rests c.ce at (Cyc c ∷ items) told) (fits_last Rests c.ce at (Cyc c ∷ items) told) was.fits k o is))

    no_status : (kind : Kind) (x : Option Operation) → (new_by_command j x c kind).status ≡ None
    no_status Cmd x = by (λ (z : Operation). z.status) (begins_one x c.byte) _ _ None refl refl
    no_status Adr x = refl
    no_status Din x = refl
    no_status Dout x = refl

    fresh : (kind : Kind) (x : Option Operation) → IsOpen start (new_by_command j x c kind)
    fresh Cmd x = either (begins_one x c.byte) _ _ (begun_open (begins.Opener c.byte)) (begun_open begins.Cut)
      where
        begun_open : (b : Beginning) → IsOpen start (begun c.ce n b)
        begun_open b = record { closer = refl; addresses = refl; count = refl; long = refl; inputs = refl; addressed = refl }

        either : (b : Bool) (x y : Operation) → IsOpen start x → IsOpen start y → IsOpen start (cond b x y)
        either true x y p q = p
        either false x y p q = q
    fresh Adr x = record { closer = refl; addresses = refl; count = refl; long = refl; inputs = refl; addressed = refl }
    fresh Din x = record { closer = refl; addresses = refl; count = refl; long = refl; inputs = refl; addressed = refl }
    fresh Dout x = record { closer = refl; addresses = refl; count = refl; long = refl; inputs = refl; addressed = refl }

    told_of : slice_get later many ≡ Some (Some all)
    told_of = ap (slice_get later) (sym many_is) ∙ at_end told (Some all)

    sending_new : Sending many newcomer
    sending_new = record {
      work = λ v t. (
        ap (λ (x : OpenedAt). x.ce) is_new.1,
        ap (λ (x : OpenedAt). x.beginning) is_new.1
            ∙ ap begins.Opener (byte ∙ ap opener_for (sym (whole_work c.ce items start)) ∙ ap (λ (x : Sequence). opener_for x.work) (same_some (same_some (sym told_of ∙ t)))),
      );
      closed = λ v t open'. absurd (open' refl refl);
      part = λ own t. absurd (two' (sym t ∙ told_of));
      current = λ v e p. (
          let it : start ≡ v = sends_same e in
          (told_of ∙ ap (λ (x : Sequence). Some (Some (whole c.ce items x))) it, subst (λ (x : Sequence). IsOpen x newcomer) it (fresh c.kind newest))
          );
      unseen = λ u p. (ap (λ (x : OpenedAt). x.ce) is_new.1, ap (λ (x : Option ℕ). is_some x) (no_status c.kind newest));
    }
      where
        two' : {v : Sequence} → Some None ≡ Some (Some v) → ⊥
        two' h = none (same_some h)
          where
            none : {v : Sequence} → None ≡ Some v → ⊥
            none h = cc

    sending_more : Every Sending more
    sending_more = by_owner owner is_new.0
      where
        by_owner : (x : Option ℕ) → x ≡ None → Every Sending (with_new x j (with_ends j l)).ops
        by_owner None h = every_new Sending (with_ends j l).ops newcomer sending_old sending_new
        by_owner (Some m) h = cc

    gentle : is_gentle (change_of owner j (Cyc c)) ≡ true
    gentle =
        ap (λ (x : Option ℕ). is_gentle (cond (is_new_opener x j c.kind) (Opened n j.said) (Cycle n c.kind c.byte j.said))) is_new.0
        ∙ ap (λ (k : Kind). is_gentle (cond (is_new_opener None j k) (Opened n j.said) (Cycle n k c.byte j.said))) e

    pub own_opener : After (opens (Cyc c)) (Some all) (Sends start) many
    own_opener = subst (λ b. After b (Some all) (Sends start) many) (sym opens_one) (record {
      fits =
          settled g targets n one_lun past marks c before after l pieces here Sending (fits_last (Sends start) c.ce many items later) (ap is_output e)
          (gently Sending (fits_last (Sends start) c.ce many items later) mark (change_of owner j (Cyc c)) (unfolded j mark more) gentle
          (unaddressed g targets n one_lun past marks c before after l pieces here Sending (fits_last (Sends start) c.ce many items later) (ap is_address_kind e) sending_more));
      long = ap (λ b. length (told_after b (Some all) told)) (sym opens_one) ∙ long_after g targets n one_lun past marks c before after l pieces here told (Some all) was.long;
      newest = λ h. (
          ap (λ (ns : List (Option ℕ)). found ns c.ce) (listed_newest j l) ∙ ap (λ (x : Option ℕ). found (newest_by x (Cyc c) c.ce many l.places.newest) c.ce) is_new.0
          ∙ found_same l.places.newest c.ce many (let f = here.stands.four in let t = target_few g targets n one_lun past marks c before after l pieces here in omega (arith, f, t))
          );
      worker = λ h. cc;
      shows = λ h. cc;
    })
