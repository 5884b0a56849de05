-- Of a host that polls: what is told of its operations, item by item, and at the end.
use Rattle.std.proofs.Common.{◌≡◌, ◌⊎◌, inl, inr, ℕ, ◌+◌, ◌<◌, ◌==◌, Bool, true, false, ◌&&◌, cond, List, [], ◌∷◌, ◌++◌, Option, Some, None, is_some, refl, sym, ap, ◌∙◌, subst, arith, length, reverse, ltb, eq-eqb, eqb-true}
use Rattle.std.proofs.lemmas.Bool.{and_parts}
use Rattle.std.proofs.lemmas.List.{append-nil, append_assoc}
use Rattle.nand_geometry.specs.declared.parts.Parts.{Parts}
use Rattle.onfi_cycle.specs.declared.item.Cycle.{Cycle as BusCycle}
use Rattle.onfi_cycle.specs.declared.item.Item.{Item}
use Rattle.onfi_cycle.specs.declared.item.Item.TheVariants.{Cyc, Rdy, Ard}
use Rattle.onfi_cycle.specs.declared.item.Kind.{Kind}
use Rattle.onfi_cycle.specs.declared.item.Kind.TheVariants.{Cmd, Adr, Din, Dout}
use Rattle.onfi_cycle.specs.declared.target_cycle.TargetCycle.{TargetCycle}
use Rattle.onfi_cycle.specs.Permitted.{broken, is_permitted, is_legal}
use Rattle.onfi_cycle.proofs.Others.{permitted_none}
use Rattle.trace_faults.specs.declared.beginning.Beginning.TheVariants.{Start}
use Rattle.trace_faults.specs.declared.readies.Readies.TheVariants.{Written}
use Rattle.trace_faults.specs.Middle.{Seen, seen_after, first_seen_as}
use Rattle.trace_ops.specs.declared.judged.Judged.{Judged}
use Rattle.trace_ops.specs.declared.operation.Operation.{Operation}
use Rattle.trace_ops.specs.AtWork.{IsLegalBase}
use Rattle.trace_ops.specs.Openings.{opens}
use Rattle.trace_faults.specs.declared.verdict.Verdict.TheVariants.{Permitted}
use Rattle.trace_ops.specs.declared.change.Change.TheVariants.{Cycle}
use Rattle.trace_ops.specs.Operation.{is_output, takes_address, changed, says_ready}
use Rattle.trace_ops.proofs.Changed.{by}
use Rattle.trace_ops.specs.Listing.{Listing, is_command, worker, with_ends, mark_in, listed, nothing_listed, has_one_lun, ops_from, ops_of, opens_alone}
use Rattle.trace_ops.specs.Polling.{Work, Reads, Programs, Erases, Sequence, begun_with, Doing, Rests, Sends, Waits, Asks, Sees, opener_for, closer_for, work_by, sends_by, is_over, by_command, by_address, by_input, by_output, by_cycle, doing_after, goes_on, doing_at_end, sent_in, sent_at, in_front, sequences_on, sequences_from, is_sending}
use Rattle.trace_ops.proofs.Domestic.{Every}
use Rattle.trace_ops.proofs.Driven.{ready_of, array_ready_of}
use Rattle.trace_ops.proofs.Folds.{ready_lone, array_ready_lone}
use Rattle.trace_ops.proofs.Pieces.{came_to}
use Rattle.trace_ops.proofs.Polled.{addressed_more, input_more, open_address, open_input, whole, whole_sends, whole_ends, IsOpen, Fits, is_unseen, fits_seen, fits_asks}
use Rattle.trace_ops.proofs.PolledItems.{told_after, has_worked, has_asked, Polls, far_polls}
use Rattle.trace_ops.proofs.PolledOwn.{own_output, own_input, own_closer, own_opener, opens_work, closes_opens}
use Rattle.trace_ops.proofs.PolledQuestions.{own_question}
use Rattle.trace_ops.proofs.PolledReturns.{own_return}
use Rattle.trace_ops.proofs.PolledReadies.{ready_shows, array_ready_shows, ready_polls}
use Rattle.trace_ops.proofs.Spans.{same_some}
use Rattle.trace_ops.proofs.Walked.{Walked, ItemAs, ItemIs, as_permitted, cycle_at, busy_worker, walked_on, nothing_walked}
use Rattle.trace_ops.proofs.Works.{onto, legal_before}

no : true ≡ false → ⊥
no e = cc

none : {X : Type 0} {x : X} → None ≡ Some x → ⊥
none h = cc

-- ---- what is told of the operation that an item opens, by the items behind it

abbrev open_by : ℕ → List Item → Option Work → Option Sequence
open_by ce items None = None
open_by ce items (Some w) = Some (whole ce items (begun_with w))

abbrev told_in : ℕ → List Item → Doing → Kind → ℕ → Option Sequence
told_in ce items Rests Cmd byte = open_by ce items (work_by byte)
told_in ce items d kind byte = None

abbrev told_at : ℕ → List Item → Item → Doing → Option Sequence
told_at ce items (Cyc c) d = cond (c.ce == ce) (told_in ce items d c.kind c.byte) None
told_at ce items (Rdy x lun fail) d = None
told_at ce items (Ard x lun fail) d = None

-- in order
abbrev pub opened_from : ℕ → List Item → Doing → List Sequence
opened_from ce [] d = []
opened_from ce (i ∷ items) d = in_front (told_at ce items i d) (sequences_on (doing_after ce i d) (opened_from ce items))

-- ---- an item

-- the operations once an item has come
pub record Goes (g : Parts) (ce : ℕ) (past items : List Item) (l : Listing) (i : Item) (j : Judged) (told : List (Option Sequence)) (next : Doing) : Type 0 where
  pub at : ℕ
  pub polls : Polls g ce (i ∷ past) items (listed j l) told next at

-- ---- the bytes of commands

pub record Begun (byte : ℕ) (next : Doing) : Type 0 where
  pub work : Work
  pub told : work_by byte ≡ Some work
  pub next_is : next ≡ Sends (begun_with work)
  pub byte_is : byte ≡ opener_for work

begun_so : (byte : ℕ) (next : Doing) → sends_by (work_by byte) ≡ Some next → Begun byte next
begun_so byte next h = at (byte == 0x00) refl (byte == 0x80) refl (byte == 0x60) refl
  where
    at : (a : Bool) → (byte == 0x00) ≡ a → (b : Bool) → (byte == 0x80) ≡ b → (c : Bool) → (byte == 0x60) ≡ c → Begun byte next
    at true p b q c r = record {
      work = Reads;
      told = ap (λ x. cond x (Some Reads) (cond (byte == 0x80) (Some Programs) (cond (byte == 0x60) (Some Erases) None))) p;
      next_is = same_some (sym h ∙ ap (λ x. sends_by (cond x (Some Reads) (cond (byte == 0x80) (Some Programs) (cond (byte == 0x60) (Some Erases) None)))) p);
      byte_is = eqb-true byte 0x00 p;
    }
    at false p true q c r = record {
      work = Programs;
      told = rw (p, q) refl;
      next_is = same_some (sym h ∙ rw (p, q) refl);
      byte_is = eqb-true byte 0x80 q;
    }
    at false p false q true r = record {
      work = Erases;
      told = rw (p, q, r) refl;
      next_is = same_some (sym h ∙ rw (p, q, r) refl);
      byte_is = eqb-true byte 0x60 r;
    }
    at false p false q false r = absurd (none (sym (rw (p, q, r) refl) ∙ h))

chosen_by : {X : Type 0} (b : Bool) (x y : X) → cond b (Some x) None ≡ Some y → (b ≡ true) × (x ≡ y)
chosen_by true x y h = (refl, same_some h)
chosen_by false x y h = cc

cycle_of : (c : BusCycle) (ce : ℕ) (kind : Kind) (byte : ℕ) → c.ce ≡ ce → c.kind ≡ kind → c.byte ≡ byte → c ≡ record { ce = ce; kind = kind; byte = byte }
cycle_of c ce kind byte p q r =
    ap (λ a. record { ce = a; kind = c.kind; byte = c.byte }) p ∙ ap (λ k. record { ce = ce; kind = k; byte = c.byte }) q ∙ ap (λ b. record { ce = ce; kind = kind; byte = b }) r

module _ (g : Parts) (targets n : ℕ) (seen : Seen) (past : List Item) (marks : List ℕ) (l : Listing) (pieces : ℕ → List TargetCycle) (walked : Walked g targets n seen past marks l pieces)
    (one : g.luns ≡ 1) (one_lun : Bool) (later : List Item) (told : List (Option Sequence)) where
  -- the item as it is permitted
  abbrev To : ℕ → Item → (Option Sequence) → Doing → Type 0
  To ce i x next = Goes g ce past later l i (ItemIs one_lun seen n i later) (told_after (opens i) x told) next

  some_luns : 0 < g.luns
  some_luns = omega (arith, one)

  module _ (c : BusCycle) (h : broken g targets past (Cyc c) ≡ None) where
    abbrev Own : Option Sequence → Doing → Type 0
    Own x next = To c.ce (Cyc c) x next

    -- ---- a command

    question_by : (d : Doing) (w : Work) (at : ℕ) → Polls g c.ce past (Cyc c ∷ later) l told d at → is_sending d ≡ false → is_unseen d ≡ true → has_worked d ≡ true → c.kind ≡ Cmd → c.byte ≡ 0x70 → Own None (Asks w)
    question_by d w at was rests unseen worked kind byte =
        let same = cycle_of c c.ce Cmd 0x70 refl kind byte in
        subst (λ (x : BusCycle). broken g targets past (Cyc x) ≡ None → Polls g x.ce past (Cyc x ∷ later) l told d at → To x.ce (Cyc x) None (Asks w)) (sym same)
        (λ h' was'. record { at = at; polls = own_question g targets n seen past marks l pieces walked one_lun c.ce later h' some_luns told d w at was' rests unseen worked None refl }) h was

    return_by : (at : ℕ) → Polls g c.ce past (Cyc c ∷ later) l told Sees at → c.kind ≡ Cmd → c.byte ≡ 0x00 → Own None Rests
    return_by at was kind byte =
        let same = cycle_of c c.ce Cmd 0x00 refl kind byte in
        subst (λ (x : BusCycle). broken g targets past (Cyc x) ≡ None → Polls g x.ce past (Cyc x ∷ later) l told Sees at → To x.ce (Cyc x) None Rests) (sym same)
        (λ h' was'. record { at = at; polls = own_return g targets n seen past marks l pieces walked one_lun c.ce later h' one told at was' None refl }) h was

    -- it is of the target itself
    own_step : (d : Doing) (kind : Kind) → c.kind ≡ kind → doing_after c.ce (Cyc c) d ≡ by_cycle d kind c.byte
    own_step d kind e = ap (λ b. cond b (by_cycle d c.kind c.byte) (Some d)) (eq-eqb c.ce c.ce refl) ∙ ap (λ (k : Kind). by_cycle d k c.byte) e

    command_by : (d next : Doing) (at : ℕ) → Polls g c.ce past (Cyc c ∷ later) l told d at → c.kind ≡ Cmd → by_command d c.byte ≡ Some next → Own (told_in c.ce later d Cmd c.byte) next
    command_by Rests next at was kind e =
        let b = begun_so c.byte next e in
        subst (λ (x : Option Work). Own (open_by c.ce later x) next) (sym b.told)
        (subst (λ (s : Doing). Own (Some (whole c.ce later (begun_with b.work))) s) (sym b.next_is)
        (record {
          at = _;
          polls =
              own_opener g targets n one_lun past marks c _ _ l pieces (cycle_at g targets n seen past marks l pieces walked c later h) later told at was b.work kind b.byte_is;
        }))
    command_by (Sends s) next at was kind e =
        let both = chosen_by (c.byte == closer_for s.work) (Waits s.work) next e in
        let byte = eqb-true c.byte (closer_for s.work) both.0 in
        subst (λ (s : Doing). Own None s) both.1
        (record {
          at = at;
          polls =
              own_closer g targets n one_lun past marks c _ _ l pieces (cycle_at g targets n seen past marks l pieces walked c later h) later told s at was (ap is_output kind)
              (ap (λ (k : Kind). is_command k && opens_alone c.byte) kind ∙ closes_opens s.work c.byte byte) one kind byte
              (own_step (Sends s) Cmd kind ∙ e ∙ ap Some (sym both.1)) None;
        })
    command_by (Waits w) next at was kind e =
        let both = chosen_by (c.byte == 0x70) (Asks w) next e in
        subst (λ (s : Doing). Own None s) both.1 (question_by (Waits w) w at was refl refl refl kind (eqb-true c.byte 0x70 both.0))
    command_by (Asks w) next at was kind e =
        let both = chosen_by (c.byte == 0x70) (Asks w) next e in
        subst (λ (s : Doing). Own None s) both.1 (question_by (Asks w) w at was refl refl refl kind (eqb-true c.byte 0x70 both.0))
    command_by Sees next at was kind e =
        let both = chosen_by (c.byte == 0x00) Rests next e in
        subst (λ (s : Doing). Own None s) both.1 (return_by at was kind (eqb-true c.byte 0x00 both.0))

    -- ---- an address or an input

    sent_to : (kind : Kind) (s t : Sequence) (at : ℕ) → Polls g c.ce past (Cyc c ∷ later) l told (Sends s) at → c.kind ≡ kind → is_output kind ≡ false → is_command kind ≡ false →
        by_cycle (Sends s) kind c.byte ≡ Some (Sends t) → ((o : Operation) → IsOpen s o → IsOpen t (changed (Cycle n kind c.byte Permitted) o)) →
        ((o : Operation) → (changed (Cycle n kind c.byte Permitted) o).status ≡ o.status) → Own None (Sends t)
    sent_to kind s t at was e out bare step opens' status = record {
      at = at;
      polls =
          own_input g targets n one_lun past marks c _ _ l pieces (cycle_at g targets n seen past marks l pieces walked c later h) later told s at was (ap is_output e ∙ out)
          (ap (λ b. b && opens_alone c.byte) (ap is_command e ∙ bare)) t (own_step (Sends s) kind e ∙ step)
          (λ o f. subst (λ (k : Kind). IsOpen t (changed (Cycle n k c.byte Permitted) o)) (sym e) (opens' o f)) (λ o. ap (λ (k : Kind). (changed (Cycle n k c.byte Permitted) o).status) e ∙ status o) None;
    }

    address_by : (d next : Doing) (at : ℕ) → Polls g c.ce past (Cyc c ∷ later) l told d at → c.kind ≡ Adr → by_address d c.byte ≡ Some next → Own None next
    address_by Rests next at was e step = absurd (none step)
    address_by (Sends s) next at was e step =
        let both = chosen_by (s.inputs == 0 && ltb (length s.addresses) 5) (Sends (addressed_more s c.byte)) next step in
        subst (λ (d : Doing). Own None d) both.1
        (sent_to Adr s (addressed_more s c.byte) at was e refl refl (step ∙ ap Some (sym both.1)) (λ o f. open_address s n c.byte Permitted both.0 o f)
        (λ o. by (λ (z : Operation). z.status) (takes_address o) _ o o.status refl refl))
    address_by (Waits w) next at was e step = absurd (none step)
    address_by (Asks w) next at was e step = absurd (none step)
    address_by Sees next at was e step = absurd (none step)

    input_by : (d next : Doing) (at : ℕ) → Polls g c.ce past (Cyc c ∷ later) l told d at → c.kind ≡ Din → by_input d ≡ Some next → Own None next
    input_by Rests next at was e step = absurd (none step)
    input_by (Sends s) next at was e step =
        subst (λ (d : Doing). Own None d) (same_some step) (sent_to Din s (input_more s) at was e refl refl refl (λ o f. open_input s n c.byte Permitted o f) (λ o. refl))
    input_by (Waits w) next at was e step = absurd (none step)
    input_by (Asks w) next at was e step = absurd (none step)
    input_by Sees next at was e step = absurd (none step)

    -- ---- an output

    over_unseen : (w : Work) → is_unseen (is_over w) ≡ false
    over_unseen Reads = refl
    over_unseen Programs = refl
    over_unseen Erases = refl

    over_sends : (w : Work) → is_sending (is_over w) ≡ false
    over_sends Reads = refl
    over_sends Programs = refl
    over_sends Erases = refl

    output_to : (d next : Doing) (at : ℕ) (was : Polls g c.ce past (Cyc c ∷ later) l told d at) → c.kind ≡ Dout → Every (Fits next c.ce at later told) l.ops → (is_unseen next ≡ false) ⊎ (says_ready c.byte ≡ false) →
        is_sending next ≡ false → (has_worked next ≡ true → has_worked d ≡ true) → (has_asked next ≡ true → has_asked d ≡ true) → Own None next
    output_to d next at was kind fits ok rests worked asked = record {
      at = at;
      polls =
          own_output g targets n one_lun past marks c _ _ l pieces (cycle_at g targets n seen past marks l pieces walked c later h) later told d next at was kind fits ok rests worked asked None;
    }

    output_by : (d next : Doing) (at : ℕ) → Polls g c.ce past (Cyc c ∷ later) l told d at → c.kind ≡ Dout → by_output d c.byte ≡ Some next → Own None next
    output_by Rests next at was kind step = subst (λ (s : Doing). Own None s) (same_some step) (output_to Rests Rests at was kind (λ k o is. fits_seen Rests Rests c.ce at at (Cyc c ∷ later) later told refl refl refl k o (was.fits k o is)) (inl refl) refl (λ h. h) (λ h. h))
    output_by (Sends w) next at was kind step = absurd (none step)
    output_by (Waits w) next at was kind step = absurd (none step)
    output_by (Asks w) next at was kind step = by (says_ready c.byte) refl step
      where
        by : (b : Bool) → says_ready c.byte ≡ b → cond b (Some (is_over w)) (Some (Asks w)) ≡ Some next → Own None next
        by true ready step =
            subst (λ (s : Doing). Own None s) (same_some step)
            (output_to (Asks w) (is_over w) at was kind (λ k o is. fits_seen (Asks w) (is_over w) c.ce at at (Cyc c ∷ later) later told refl (over_unseen w) (over_sends w) k o (was.fits k o is)) (inl (over_unseen w))
            (over_sends w) (λ h. refl) (λ h. refl))
        by false busy step = subst (λ (s : Doing). Own None s) (same_some step) (output_to (Asks w) (Asks w) at was kind (λ k o is. fits_asks (Asks w) (Asks w) c.ce at (Cyc c ∷ later) later told refl refl refl k o (was.fits k o is)) (inr busy) refl (λ h. refl) (λ h. refl))
    output_by Sees next at was kind step = absurd (none step)

    -- ---- any cycle of the target

    no_work : (ce : ℕ) (d : Doing) (kind : Kind) → is_command kind ≡ false → told_in ce later d kind c.byte ≡ None
    no_work ce Rests Cmd e = cc
    no_work ce Rests Adr e = refl
    no_work ce Rests Din e = refl
    no_work ce Rests Dout e = refl
    no_work ce (Sends w) kind e = refl
    no_work ce (Waits w) kind e = refl
    no_work ce (Asks w) kind e = refl
    no_work ce Sees kind e = refl

    cycle_by : (kind : Kind) (d next : Doing) (at : ℕ) → Polls g c.ce past (Cyc c ∷ later) l told d at → c.kind ≡ kind → by_cycle d kind c.byte ≡ Some next → Own (told_in c.ce later d kind c.byte) next
    cycle_by Cmd d next at was e step = command_by d next at was e step
    cycle_by Adr d next at was e step = subst (λ (x : Option Sequence). Own x next) (sym (no_work c.ce d Adr refl)) (address_by d next at was e step)
    cycle_by Din d next at was e step = subst (λ (x : Option Sequence). Own x next) (sym (no_work c.ce d Din refl)) (input_by d next at was e step)
    cycle_by Dout d next at was e step = subst (λ (x : Option Sequence). Own x next) (sym (no_work c.ce d Dout refl)) (output_by d next at was e step)

    cycle_goes : (ce : ℕ) (d next : Doing) (at : ℕ) → Polls g ce past (Cyc c ∷ later) l told d at → doing_after ce (Cyc c) d ≡ Some next → To ce (Cyc c) (told_at ce later (Cyc c) d) next
    cycle_goes ce d next at was step = by (c.ce == ce) refl step
      where
        by : (b : Bool) → (c.ce == ce) ≡ b → cond b (by_cycle d c.kind c.byte) (Some d) ≡ Some next → To ce (Cyc c) (cond b (told_in ce later d c.kind c.byte) None) next
        by true e step =
            subst (λ (x : ℕ). Polls g x past (Cyc c ∷ later) l told d at → To x (Cyc c) (told_in x later d c.kind c.byte) next) (eqb-true c.ce ce e) (λ own. cycle_by c.kind d next at own refl step) was
        by false e step =
            subst (λ (s : Doing). To ce (Cyc c) None s) (same_some step)
            (record {
              at = at;
              polls =
                  far_polls g targets n one_lun past marks c _ _ l pieces (cycle_at g targets n seen past marks l pieces walked c later h) ce
                  (λ same. no (sym (eq-eqb c.ce ce same) ∙ e)) d at later told was;
            })

  -- ---- any item

  some_there : (x : Option ℕ) → is_some x ≡ true → (k : ℕ) × (x ≡ Some k)
  some_there None h = cc
  some_there (Some k) h = (k, refl)

  pub goes : (i : Item) → broken g targets past i ≡ None → (ce : ℕ) (d next : Doing) (at : ℕ) → Polls g ce past (i ∷ later) l told d at → doing_after ce i d ≡ Some next → To ce i (told_at ce later i d) next
  goes (Cyc c) h ce d next at was step = cycle_goes c h ce d next at was step
  goes (Rdy x lun fail) h ce d next at was step =
      let is = ready_of g targets past x lun fail h in
      let m = some_there (worker l.places x lun) (busy_worker g targets n seen past marks l pieces walked (record { ce = x; lun = lun }) is.is_lun is.works) in
      subst (λ (s : Doing). To ce (Rdy x lun fail) None s) (same_some step)
      (record {
        at = at;
        polls =
            ready_polls (ItemIs one_lun seen n (Rdy x lun fail) later) l (ready_lone one_lun n x lun fail _ _) (λ k p ops. refl) m.0 m.1 g ce past (Rdy x lun fail) later told d at refl
            (ready_shows g past x lun fail ce) was;
      })
  goes (Ard x lun fail) h ce d next at was step =
      let is = array_ready_of g targets past x lun fail h in
      let m = some_there (worker l.places x lun) (walked.workers (record { ce = x; lun = lun }) is.is_lun is.works) in
      subst (λ (s : Doing). To ce (Ard x lun fail) None s) (same_some step)
      (record {
        at = at;
        polls =
            ready_polls (ItemIs one_lun seen n (Ard x lun fail) later) l (array_ready_lone one_lun n x lun fail _ _) (λ k p ops. refl) m.0 m.1 g ce past (Ard x lun fail) later told d at refl
            (array_ready_shows g past x lun fail ce) was;
      })

-- ---- a trace

abbrev pub somes : List (Option Sequence) → List Sequence
somes [] = []
somes (None ∷ told) = somes told
somes (Some w ∷ told) = w ∷ somes told

somes_more : (told : List (Option Sequence)) (x : Option Sequence) → somes (told ++ (x ∷ [])) ≡ somes told ++ in_front x []
somes_more [] None = refl
somes_more [] (Some w) = refl
somes_more (None ∷ told) x = somes_more told x
somes_more (Some w ∷ told) x = ap (λ (ws : List Sequence). w ∷ ws) (somes_more told x)

front_is : (x : Option Sequence) (works : List Sequence) → in_front x [] ++ works ≡ in_front x works
front_is None works = refl
front_is (Some w) works = refl

-- what is told so opens an operation
begun_opens : (byte : ℕ) (w : Work) → work_by byte ≡ Some w → opens_alone byte ≡ true
begun_opens byte w h = (let b = begun_so byte (Sends (begun_with w)) (ap sends_by h) in opens_work b.work byte b.byte_is)

told_opens : (ce : ℕ) (items : List Item) (i : Item) (d : Doing) (s : Sequence) → told_at ce items i d ≡ Some s → opens i ≡ true
told_opens ce items (Rdy x lun fail) d s h = cc
told_opens ce items (Ard x lun fail) d s h = cc
told_opens ce items (Cyc c) d s h = at (c.ce == ce) h
  where
    by_work : (w : Option Work) → work_by c.byte ≡ w → open_by ce items w ≡ Some s → opens_alone c.byte ≡ true
    by_work None e h = absurd (none h)
    by_work (Some w) e h = begun_opens c.byte w e

    by_kind : (e : Doing) (kind : Kind) → told_in ce items e kind c.byte ≡ Some s → (is_command kind && opens_alone c.byte) ≡ true
    by_kind Rests Cmd h = by_work (work_by c.byte) refl h
    by_kind Rests Adr h = absurd (none h)
    by_kind Rests Din h = absurd (none h)
    by_kind Rests Dout h = absurd (none h)
    by_kind (Sends v) kind h = absurd (none h)
    by_kind (Waits v) kind h = absurd (none h)
    by_kind (Asks v) kind h = absurd (none h)
    by_kind Sees kind h = absurd (none h)

    at : (b : Bool) → cond b (told_in ce items d c.kind c.byte) None ≡ Some s → (is_command c.kind && opens_alone c.byte) ≡ true
    at true h = by_kind d c.kind h
    at false h = absurd (none h)

somes_after : (ce : ℕ) (items : List Item) (i : Item) (d : Doing) (told : List (Option Sequence)) → somes (told_after (opens i) (told_at ce items i d) told) ≡ somes told ++ in_front (told_at ce items i d) []
somes_after ce items i d told = at (opens i) refl (told_at ce items i d) refl
  where
    at : (b : Bool) → opens i ≡ b → (x : Option Sequence) → told_at ce items i d ≡ x → somes (told_after b x told) ≡ somes told ++ in_front x []
    at true e x f = somes_more told x
    at false e None f = sym (append-nil (somes told))
    at false e (Some w) f = absurd (no (sym (told_opens ce items i d w f) ∙ e))

-- what is known at the end
pub record Ended (ce : ℕ) (ops : List Operation) (works : List Sequence) (next : Doing) : Type 0 where
  pub told : List (Option Sequence)
  pub at : ℕ
  pub fits : Every (Fits next ce at [] told) ops
  pub long : length told ≡ length ops
  pub works_are : somes told ≡ works

module _ (g : Parts) (targets : ℕ) (one : g.luns ≡ 1) (one_lun : Bool) (ce : ℕ) (i : Item) (items : List Item) (n : ℕ) (seen : Seen) (past : List Item) (marks : List ℕ) (l : Listing)
    (pieces : ℕ → List TargetCycle) (told : List (Option Sequence)) (d next : Doing) (at : ℕ) (walked : Walked g targets n seen past marks l pieces) (was : Polls g ce past (i ∷ items) l told d at)
    (legal : is_legal g targets (reverse (i ∷ items) ++ past) ≡ true) where
  abbrev j : Judged
  j = ItemAs one_lun seen n i items

  abbrev mark : ℕ
  mark = mark_in j (with_ends j l)

  abbrev x : Option Sequence
  x = told_at ce items i d

  legal' : is_legal g targets (reverse items ++ (i ∷ past)) ≡ true
  legal' = ap (is_legal g targets) (sym (onto g targets walked.few walked.luns walked.base i items past)) ∙ legal

  h : broken g targets past i ≡ None
  h = permitted_none g targets past i (and_parts (is_permitted g targets past i) (is_legal g targets past) (legal_before g targets walked.few walked.luns walked.base (reverse items) (i ∷ past) legal')).0

  works_so : (s : Doing) → somes (told_after (opens i) x told) ++ opened_from ce items s ≡ somes told ++ in_front x (opened_from ce items s)
  works_so s =
      ap (λ (ws : List Sequence). ws ++ opened_from ce items s) (somes_after ce items i d told) ∙ append_assoc (somes told) (in_front x []) (opened_from ce items s)
      ∙ ap (λ (ws : List Sequence). somes told ++ ws) (front_is x (opened_from ce items s))

  abbrev Rest : Type 0
  Rest =
      (s : Doing) (at' : ℕ) → Walked g targets (n + 1) (seen_after Written seen i items) (i ∷ past) (marks ++ (mark ∷ [])) (listed j l) (came_to mark i pieces) →
      Polls g ce (i ∷ past) items (listed j l) (told_after (opens i) x told) s at' → doing_at_end ce items s ≡ Some next →
      Ended ce (ops_from Written one_lun seen n (i ∷ items) l) (somes (told_after (opens i) x told) ++ opened_from ce items s) next

  polls_more : Rest → (s : Option Doing) → doing_after ce i d ≡ s → goes_on s (doing_at_end ce items) ≡ Some next →
      Ended ce (ops_from Written one_lun seen n (i ∷ items) l) (somes told ++ in_front x (sequences_on s (opened_from ce items))) next
  polls_more rest None e step = absurd (none step)
  polls_more rest (Some s) e step =
      let went = as_permitted g targets n seen past marks l pieces walked (λ (y : Judged). Goes g ce past items l i y (told_after (opens i) x told) s) one_lun i items h
      (goes g targets n seen past marks l pieces walked one one_lun items told i h ce d s at was e) in
      subst (λ (ws : List Sequence). Ended ce (ops_from Written one_lun seen n (i ∷ items) l) ws next) (works_so s)
      (rest s went.at (walked_on g targets n seen past marks l pieces walked one_lun i items h) went.polls step)

polls_all : (g : Parts) (targets : ℕ) (one : g.luns ≡ 1) (one_lun : Bool) (ce : ℕ) (items : List Item) (n : ℕ) (seen : Seen) (past : List Item) (marks : List ℕ) (l : Listing) (pieces : ℕ → List TargetCycle)
    (told : List (Option Sequence)) (d next : Doing) (at : ℕ) → Walked g targets n seen past marks l pieces → Polls g ce past items l told d at → is_legal g targets (reverse items ++ past) ≡ true →
    doing_at_end ce items d ≡ Some next → Ended ce (ops_from Written one_lun seen n items l) (somes told ++ opened_from ce items d) next
polls_all g targets one one_lun ce [] n seen past marks l pieces told d next at walked was legal step =
    subst (λ (s : Doing). Ended ce l.ops (somes told ++ []) s) (same_some step) (record { told = told; at = at; fits = was.fits; long = was.long; works_are = sym (append-nil (somes told)) })
polls_all g targets one one_lun ce (i ∷ items) n seen past marks l pieces told d next at walked was legal step =
    let j = ItemAs one_lun seen n i items in
    let mark = mark_in j (with_ends j l) in
    polls_more g targets one one_lun ce i items n seen past marks l pieces told d next at walked was legal
    (λ s at' walked' was' step'. polls_all g targets one one_lun ce items (n + 1) (seen_after Written seen i items) (i ∷ past) (marks ++ (mark ∷ [])) (listed j l) (came_to mark i pieces)
    (told_after (opens i) (told_at ce items i d) told) s next at' walked' was' (legal' g targets one one_lun ce i items n seen past marks l pieces told d next at walked was legal) step')
    (doing_after ce i d) refl step

nothing_polls : (g : Parts) (ce : ℕ) (items : List Item) → Polls g ce [] items nothing_listed [] Rests 0
nothing_polls g ce items = record { fits = λ k o is. absurd (none is); long = refl; newest = λ h. cc; worker = λ h. cc; shows = λ h. cc }

-- of a whole trace
pub polls_end : (g : Parts) (targets : ℕ) (items : List Item) (ce : ℕ) (d : Doing) → IsLegalBase g targets items → g.luns ≡ 1 → doing_at_end ce items Rests ≡ Some d →
    Ended ce (ops_of Written Start g targets items) (opened_from ce items Rests) d
polls_end g targets items ce d is one step =
    polls_all g targets one (has_one_lun g) ce items 0 (first_seen_as Start g targets items) [] [] nothing_listed (λ m. []) [] Rests d 0 (nothing_walked g targets items is) (nothing_polls g ce items)
    (ap (is_legal g targets) (append-nil (reverse items)) ∙ is.legal) step

-- ---- a sequence is told where it ends

-- that which is being sent
abbrev pending : ℕ → List Item → Doing → List Sequence
pending ce items Rests = []
pending ce items (Sends s) = whole ce items s ∷ []
pending ce items (Waits w) = []
pending ce items (Asks w) = []
pending ce items Sees = []

at_rest : (ce : ℕ) (d : Doing) → is_sending d ≡ false → pending ce [] d ≡ []
at_rest ce Rests h = refl
at_rest ce (Sends s) h = cc
at_rest ce (Waits w) h = refl
at_rest ce (Asks w) h = refl
at_rest ce Sees h = refl

-- what an item ends and what it begins
abbrev Turns : ℕ → Item → List Item → Doing → Option Sequence → Doing → Type 0
Turns ce i items d told next = in_front (sent_at ce i d) (pending ce items next) ≡ pending ce (i ∷ items) d ++ in_front told []

turns_other : (ce : ℕ) (i : Item) (items : List Item) (d : Doing) → doing_after ce i d ≡ Some d → pending ce items d ≡ pending ce (i ∷ items) d ++ []
turns_other ce i items Rests h = refl
turns_other ce i items (Sends s) h = ap (λ (x : Sequence). x ∷ []) (sym (whole_sends ce i items s s h))
turns_other ce i items (Waits w) h = refl
turns_other ce i items (Asks w) h = refl
turns_other ce i items Sees h = refl

over_none : (ce : ℕ) (items : List Item) (w : Work) → pending ce items (is_over w) ≡ []
over_none ce items Reads = refl
over_none ce items Programs = refl
over_none ce items Erases = refl

turns_own : (ce : ℕ) (c : BusCycle) (items : List Item) (kind : Kind) (d next : Doing) → doing_after ce (Cyc c) d ≡ by_cycle d kind c.byte → by_cycle d kind c.byte ≡ Some next →
    in_front (sent_in d kind c.byte) (pending ce items next) ≡ pending ce (Cyc c ∷ items) d ++ in_front (told_in ce items d kind c.byte) []
turns_own ce c items Cmd Rests next own step =
    let b = begun_so c.byte next step in
    ap (pending ce items) b.next_is ∙ sym (ap (λ (x : Option Work). in_front (open_by ce items x) []) b.told)
turns_own ce c items Adr Rests next own step = absurd (none step)
turns_own ce c items Din Rests next own step = absurd (none step)
turns_own ce c items Dout Rests next own step = sym (ap (pending ce items) (same_some step))
turns_own ce c items Cmd (Sends s) next own step =
    let both = chosen_by (c.byte == closer_for s.work) (Waits s.work) next step in
    ap (λ b. in_front (cond b (Some s) None) (pending ce items next)) both.0
    ∙ ap (λ (x : Doing). s ∷ pending ce items x) (sym both.1)
    ∙ ap (λ (x : Sequence). x ∷ []) (sym (whole_ends ce (Cyc c) items s s.work (own ∙ step ∙ ap Some (sym both.1))))
turns_own ce c items Adr (Sends s) next own step =
    let both = chosen_by (s.inputs == 0 && ltb (length s.addresses) 5) (Sends (addressed_more s c.byte)) next step in
    ap (pending ce items) (sym both.1) ∙ ap (λ (x : Sequence). x ∷ []) (sym (whole_sends ce (Cyc c) items s (addressed_more s c.byte) (own ∙ step ∙ ap Some (sym both.1))))
turns_own ce c items Din (Sends s) next own step =
    ap (pending ce items) (sym (same_some step)) ∙ ap (λ (x : Sequence). x ∷ []) (sym (whole_sends ce (Cyc c) items s (input_more s) own))
turns_own ce c items Dout (Sends s) next own step = absurd (none step)
turns_own ce c items Cmd (Waits w) next own step = ap (pending ce items) (sym (chosen_by (c.byte == 0x70) (Asks w) next step).1)
turns_own ce c items Adr (Waits w) next own step = absurd (none step)
turns_own ce c items Din (Waits w) next own step = absurd (none step)
turns_own ce c items Dout (Waits w) next own step = absurd (none step)
turns_own ce c items Cmd (Asks w) next own step = ap (pending ce items) (sym (chosen_by (c.byte == 0x70) (Asks w) next step).1)
turns_own ce c items Adr (Asks w) next own step = absurd (none step)
turns_own ce c items Din (Asks w) next own step = absurd (none step)
turns_own ce c items Dout (Asks w) next own step = at (says_ready c.byte) step
  where
    at : (b : Bool) → cond b (Some (is_over w)) (Some (Asks w)) ≡ Some next → pending ce items next ≡ []
    at true h = ap (pending ce items) (sym (same_some h)) ∙ over_none ce items w
    at false h = ap (pending ce items) (sym (same_some h))
turns_own ce c items Cmd Sees next own step = ap (pending ce items) (sym (chosen_by (c.byte == 0x00) Rests next step).1)
turns_own ce c items Adr Sees next own step = absurd (none step)
turns_own ce c items Din Sees next own step = absurd (none step)
turns_own ce c items Dout Sees next own step = absurd (none step)

turns : (ce : ℕ) (i : Item) (items : List Item) (d next : Doing) → doing_after ce i d ≡ Some next → Turns ce i items d (told_at ce items i d) next
turns ce (Rdy x lun fail) items d next step = ap (pending ce items) (sym (same_some step)) ∙ turns_other ce (Rdy x lun fail) items d refl
turns ce (Ard x lun fail) items d next step = ap (pending ce items) (sym (same_some step)) ∙ turns_other ce (Ard x lun fail) items d refl
turns ce (Cyc c) items d next step = at (c.ce == ce) refl step
  where
    at : (b : Bool) → (c.ce == ce) ≡ b → cond b (by_cycle d c.kind c.byte) (Some d) ≡ Some next →
        in_front (cond b (sent_in d c.kind c.byte) None) (pending ce items next) ≡ pending ce (Cyc c ∷ items) d ++ in_front (cond b (told_in ce items d c.kind c.byte) None) []
    at true e h = turns_own ce c items c.kind d next (ap (λ b. cond b (by_cycle d c.kind c.byte) (Some d)) e) h
    at false e h = ap (pending ce items) (sym (same_some h)) ∙ turns_other ce (Cyc c) items d (ap (λ b. cond b (by_cycle d c.kind c.byte) (Some d)) e)

front_append : (x : Option Sequence) (xs ys : List Sequence) → in_front x (xs ++ ys) ≡ in_front x xs ++ ys
front_append None xs ys = refl
front_append (Some s) xs ys = refl

pub told_are_sent : (ce : ℕ) (items : List Item) (d next : Doing) → doing_at_end ce items d ≡ Some next → is_sending next ≡ false → sequences_from ce items d ≡ pending ce items d ++ opened_from ce items d
told_are_sent ce [] d next step rests = sym (append-nil (pending ce [] d) ∙ at_rest ce d (ap is_sending (same_some step) ∙ rests))
told_are_sent ce (i ∷ items) d next step rests = at (doing_after ce i d) refl step (λ s h. told_are_sent ce items s next h rests)
  where
    x : Option Sequence
    x = told_at ce items i d

    at : (s : Option Doing) → doing_after ce i d ≡ s → goes_on s (doing_at_end ce items) ≡ Some next →
        ((s : Doing) → doing_at_end ce items s ≡ Some next → sequences_from ce items s ≡ pending ce items s ++ opened_from ce items s) →
        in_front (sent_at ce i d) (sequences_on s (sequences_from ce items)) ≡ pending ce (i ∷ items) d ++ in_front x (sequences_on s (opened_from ce items))
    at None e h rest = absurd (none h)
    at (Some s) e h rest =
        ap (in_front (sent_at ce i d)) (rest s h) ∙ front_append (sent_at ce i d) (pending ce items s) (opened_from ce items s)
        ∙ ap (λ (xs : List Sequence). xs ++ opened_from ce items s) (turns ce i items d s e)
        ∙ append_assoc (pending ce (i ∷ items) d) (in_front x []) (opened_from ce items s)
        ∙ ap (λ (xs : List Sequence). pending ce (i ∷ items) d ++ xs) (front_is x (opened_from ce items s))
