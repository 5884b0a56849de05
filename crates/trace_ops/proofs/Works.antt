-- In a legal trace of the base profile, with its readies written, the work of operations is the model's.
use Rattle.std.proofs.Common.{◌≡◌, ℕ, zero, suc, ◌+◌, ◌≤◌, Bool, true, false, ◌&&◌, not, List, [], ◌∷◌, ◌++◌, Some, None, is_some, refl, sym, ap, ◌∙◌, subst, length, reverse, replicate, arith}
use Rattle.std.specs.Prelude.{slice_get}
use Rattle.std.proofs.lemmas.Bool.{and_parts, and_from}
use Rattle.std.proofs.lemmas.List.{reverse-append, append_assoc, append-nil, length-append}
use Rattle.nand_geometry.specs.declared.parts.Parts.{Parts}
use Rattle.nand_geometry.specs.Optional.{no_optional}
use Rattle.onfi_cycle.specs.declared.item.Item.{Item}
use Rattle.onfi_cycle.specs.declared.item.Item.TheVariants.{Cyc, Rdy, Ard}
use Rattle.onfi_cycle.specs.declared.lun.Lun.{Lun}
use Rattle.onfi_cycle.specs.declared.target_cycle.TargetCycle.{TargetCycle}
use Rattle.onfi_cycle.specs.Lun.{is_busy}
use Rattle.onfi_cycle.specs.Permitted.{broken, is_permitted, is_legal}
use Rattle.onfi_cycle.specs.Sequence.{target_of}
use Rattle.onfi_cycle.specs.Working.{IsLun}
use Rattle.onfi_cycle.proofs.Others.{permitted_none}
use Rattle.trace_faults.specs.declared.beginning.Beginning.TheVariants.{Start}
use Rattle.trace_faults.specs.declared.readies.Readies.TheVariants.{Written}
use Rattle.trace_faults.specs.declared.verdict.Verdict.{Verdict}
use Rattle.trace_faults.specs.Middle.{Seen, seen_after, first_seen_as}
use Rattle.trace_faults.proofs.Judged.{fresh_is_on}
use Rattle.trace_ops.specs.declared.judged.Judged.{Judged}
use Rattle.trace_ops.specs.declared.looks.Looks.{Looks}
use Rattle.trace_ops.specs.declared.operation.Operation.{Operation}
use Rattle.trace_ops.specs.AtWork.{IsLegalBase, is_at_work, IsAtWork, WorksOn, AreAtWork, BeginAsLuns, AreApart}
use Rattle.trace_ops.specs.Listing.{Listing, found, lun_place, looks_of, nothing_listed, has_one_lun, listed, judged_as, ops_from, marks_from, ops_of, marks_of, with_ends, mark_in}
use Rattle.trace_ops.proofs.Pieces.{Stands, came_to, stands_on, nothing_stands}
use Rattle.trace_ops.proofs.Spans.{same_some}
use Rattle.trace_ops.proofs.Walks.{within_listed, nobody_within}
use Rattle.trace_ops.proofs.Within.{AreWithin}
use Rattle.trace_ops.proofs.AtWork.{worker_in, Tells, tells_same}
use Rattle.trace_ops.proofs.Cycles.{Resting, CycleAt, few_or, after_tells, after_resting, after_dated, after_domestic}
use Rattle.trace_ops.proofs.Dated.{Dated, dated_later}
use Rattle.trace_ops.proofs.Domestic.{Every, Domestic}
use Rattle.trace_ops.proofs.Legal.{OnPast, is_said, on_past_on, permitted_as, busy_of, sees_of, works_there, busy_there, busy_array_ready, ready_works, array_ready_works}
use Rattle.trace_ops.proofs.Readies.{ready_is, array_ready_is, ready_domestic_after, ready_tells_after, ready_resting_after, ready_dated_after, ready_ends, ready_resting, ready_dated}
use Rattle.trace_ops.proofs.Wholes.{start_knows_all}

-- all that is known of a listing after a legal past
pub record Worked (g : Parts) (targets n : ℕ) (past : List Item) (marks : List ℕ) (l : Listing) : Type 0 where
  pub domestic : Every (λ k. Domestic) l.ops
  pub resting : Every (Resting l.places.newest past) l.ops
  pub tells : Tells (busy_of g targets past) l.places.workers l.ops
  pub number : n ≡ length past
  pub many : length marks ≡ length past
  pub dated : Dated g targets past marks n l.ops

-- what is told of the operations of a legal trace
pub record Told (g : Parts) (targets : ℕ) (past : List Item) (marks : List ℕ) (ops : List Operation) : Type 0 where
  pub at_work : AreAtWork g targets past ops
  pub begin : BeginAsLuns g targets past marks ops
  pub apart : AreApart ops

-- ---- one item

module _ (g : Parts) (targets : ℕ) (few : targets ≤ 4) (luns : g.luns ≤ 4) (base : g.optional ≡ no_optional) where
  module _ (one_lun : Bool) (n : ℕ) (past : List Item) (marks : List ℕ) (l : Listing) (pieces : ℕ → List TargetCycle) (within : AreWithin (length l.ops) l.places) (stands : Stands past l pieces)
      (worked : Worked g targets n past marks l) (legal : is_legal g targets past ≡ true) where
    abbrev WorkedAs : Item → Judged → Type 0
    WorkedAs i j = Worked g targets (n + 1) (i ∷ past) (marks ++ (mark_in j (with_ends j l) ∷ [])) (listed j l)

    one_more : (i : Item) → n + 1 ≡ length (i ∷ past)
    one_more i = (let same = worked.number in omega (arith, same))

    marked : (i : Item) (k : ℕ) → length (marks ++ (k ∷ [])) ≡ length (i ∷ past)
    marked i k = (let long = length-append marks (k ∷ []) in let same = worked.many in omega (arith, long, same))

    worked_by : (seen : Seen) (later : List Item) → OnPast g targets seen past → (i : Item) → broken g targets past i ≡ None →
        WorkedAs i (permitted_as one_lun n i (looks_of seen.state.bus (target_of i)) (looks_of (seen_after Written seen i later).state.bus (target_of i)))
    worked_by seen later on (Cyc c) h = record {
      domestic = after_domestic g targets n one_lun past marks c before after l pieces at;
      resting = after_resting g targets n one_lun past marks c before after l pieces at;
      tells = after_tells g targets n one_lun past marks c before after l pieces at;
      number = one_more (Cyc c);
      many = marked (Cyc c) _;
      dated = after_dated g targets n one_lun past marks c before after l pieces at;
    }
      where
        before : Looks
        before = looks_of seen.state.bus c.ce

        after : Looks
        after = looks_of (seen_after Written seen (Cyc c) later).state.bus c.ce

        at : CycleAt g targets n past marks c (looks_of seen.state.bus c.ce) (looks_of (seen_after Written seen (Cyc c) later).state.bus c.ce) l pieces
        at = record {
          few = few;
          luns = luns;
          base = base;
          legal = legal;
          permitted = h;
          sees = sees_of g targets seen.state.bus past c.ce on.on.follows;
          saw = sees_of g targets (seen_after Written seen (Cyc c) later).state.bus (Cyc c ∷ past) c.ce (on_past_on g targets seen past (Cyc c) later on h).on.follows;
          within = within;
          stands = stands;
          domestic = worked.domestic;
          resting = worked.resting;
          tells = worked.tells;
          number = worked.number;
          many = worked.many;
          dated = worked.dated;
        }
    worked_by seen later on (Rdy ce lun fail) h =
        let before = looks_of seen.state.bus ce in
        let after = looks_of (seen_after Written seen (Rdy ce lun fail) later).state.bus ce in
        let j = permitted_as one_lun n (Rdy ce lun fail) before after in
        let is = ready_is one_lun n ce lun fail before after in
        record {
          domestic = ready_domestic_after j l is worked.domestic;
          resting = ready_resting_after j l is (Rdy ce lun fail ∷ past) within worked.domestic (ready_resting l.places.newest (Rdy ce lun fail ∷ past) one_lun n ce lun fail before after l (few_or lun) worked.resting);
          tells = ready_tells_after j l is (busy_of g targets (Rdy ce lun fail ∷ past)) worked.domestic (ready_ends g targets past one_lun n ce lun fail before after l (few_or lun) worked.tells);
          number = one_more (Rdy ce lun fail);
          many = marked (Rdy ce lun fail) (mark_in j (with_ends j l));
          dated =
              ready_dated_after j l is g targets past (Rdy ce lun fail) marks (n + 1) worked.domestic (λ x there'. ready_works g past ce lun fail x)
              (ready_dated g targets past marks one_lun n ce lun fail before after l (few_or lun) worked.dated);
        }
    worked_by seen later on (Ard ce lun fail) h =
        let before = looks_of seen.state.bus ce in
        let after = looks_of (seen_after Written seen (Ard ce lun fail) later).state.bus ce in
        let j = permitted_as one_lun n (Ard ce lun fail) before after in
        let is = array_ready_is one_lun n ce lun fail before after in
        record {
          domestic = ready_domestic_after j l is worked.domestic;
          resting = ready_resting_after j l is (Ard ce lun fail ∷ past) within worked.domestic worked.resting;
          tells =
              ready_tells_after j l is (busy_of g targets (Ard ce lun fail ∷ past)) worked.domestic
              (tells_same (busy_of g targets past) (busy_of g targets (Ard ce lun fail ∷ past)) l.places.workers l.ops (busy_array_ready g targets past ce lun fail) worked.tells);
          number = one_more (Ard ce lun fail);
          many = marked (Ard ce lun fail) (mark_in j (with_ends j l));
          dated =
              ready_dated_after j l is g targets past (Ard ce lun fail) marks (n + 1) worked.domestic (λ x there'. array_ready_works g past ce lun fail x)
              (dated_later g targets past marks n (n + 1) l.ops (omega arith) worked.dated);
        }

    pub worked_on : (seen : Seen) (later : List Item) → OnPast g targets seen past → (i : Item) → broken g targets past i ≡ None →
        WorkedAs i (judged_as Written one_lun seen n (target_of i) i later)
    worked_on seen later on i h =
        subst (λ (v : Verdict). WorkedAs i (record {
          number = n;
          item = i;
          ce = target_of i;
          one_lun = one_lun;
          said = v;
          before = looks_of seen.state.bus (target_of i);
          after = looks_of (seen_after Written seen i later).state.bus (target_of i);
        })) (sym (is_said g targets seen past i later on h)) (worked_by seen later on i h)

  -- ---- a trace

  pub onto : (i : Item) (items past : List Item) → reverse (i ∷ items) ++ past ≡ reverse items ++ (i ∷ past)
  onto i items past = ap (λ (xs : List Item). xs ++ past) (reverse-append (i ∷ []) items) ∙ append_assoc (reverse items) (i ∷ []) past

  pub legal_before : (xs ys : List Item) → is_legal g targets (xs ++ ys) ≡ true → is_legal g targets ys ≡ true
  legal_before [] ys h = h
  legal_before (x ∷ xs) ys h = legal_before xs ys (and_parts (is_permitted g targets (xs ++ ys) x) (is_legal g targets (xs ++ ys)) h).1

  split_work : (a b : Bool) → (a && not b) ≡ true → (a ≡ true) × (b ≡ false)
  split_work true true h = cc
  split_work true false h = (refl, refl)
  split_work false b h = cc

  at_work : (n : ℕ) (past : List Item) (marks : List ℕ) (l : Listing) → Worked g targets n past marks l → AreAtWork g targets past l.ops
  at_work n past marks l worked = record { busy = on_busy; one = on_one; works = on_works }
    where
      tells : Tells (busy_of g targets past) l.places.workers l.ops
      tells = worked.tells

      on_busy : (lun : Lun) → IsLun g targets lun → is_busy g past lun ≡ true → (k : ℕ) × IsAtWork l.ops k lun
      on_busy lun is h =
          let busy : busy_of g targets past lun.ce lun.lun ≡ true = busy_there g targets past lun.ce lun.lun is.target is.lun ∙ h in
          let working = tells.working lun.ce lun.lun busy in
          let began = tells.began lun.ce lun.lun working.number (tells.small lun.ce lun.lun busy).1 working.is in (
            working.number,
            record {
              operation = began.operation;
              is_there = began.is_there;
              target = began.target;
              lun = began.on;
              at_work = and_from (is_some began.operation.start) (not (is_some began.operation.end)) began.started (ap not (working.unended began.operation began.is_there));
            },
          )

      place_of : (k : ℕ) (lun : Lun) → IsAtWork l.ops k lun → worker_in l.places.workers lun.ce lun.lun ≡ Some k
      place_of k lun at =
          let both = split_work (is_some at.operation.start) (is_some at.operation.end) at.at_work in
          let place = tells.place k at.operation at.is_there both.0 both.1 in
          let same : place.lun ≡ lun.lun = same_some (sym place.is ∙ at.lun) in
          ap (λ x. worker_in l.places.workers x lun.lun) (sym at.target) ∙ ap (worker_in l.places.workers at.operation.ce) (sym same) ∙ place.worker

      on_one : (lun : Lun) (k m : ℕ) → IsAtWork l.ops k lun → IsAtWork l.ops m lun → k ≡ m
      on_one lun k m p q = same_some (sym (place_of k lun p) ∙ place_of m lun q)

      on_works : (k : ℕ) (o : Operation) → slice_get l.ops k ≡ Some o → is_at_work o ≡ true → WorksOn g targets past l.ops k
      on_works k o is at =
          let both = split_work (is_some o.start) (is_some o.end) at in
          let place = tells.place k o is both.0 both.1 in
          let there = works_there g targets past o.ce place.lun place.busy in
          record {
            lun = record { ce = o.ce; lun = place.lun };
            is_lun = record { target = there.target; lun = there.few };
            busy = there.works;
            at_work = record { operation = o; is_there = is; target = refl; lun = place.is; at_work = at };
          }

  told : (n : ℕ) (past : List Item) (marks : List ℕ) (l : Listing) → Worked g targets n past marks l → Told g targets past marks l.ops
  told n past marks l worked = record {
    at_work = at_work n past marks l worked;
    begin = record { begins = worked.dated.begins; only = worked.dated.only };
    apart = worked.dated.apart;
  }

  pub told_from : (one_lun : Bool) (items : List Item) (seen : Seen) (n : ℕ) (past : List Item) (marks : List ℕ) (l : Listing) (pieces : ℕ → List TargetCycle) → OnPast g targets seen past →
      AreWithin (length l.ops) l.places → Stands past l pieces → Worked g targets n past marks l → is_legal g targets (reverse items ++ past) ≡ true →
      Told g targets (reverse items ++ past) (marks ++ marks_from Written one_lun seen n items l) (ops_from Written one_lun seen n items l)
  told_from one_lun [] seen n past marks l pieces on within stands worked legal =
      subst (λ (ms : List ℕ). Told g targets past ms l.ops) (sym (append-nil marks)) (told n past marks l worked)
  told_from one_lun (i ∷ items) seen n past marks l pieces on within stands worked legal =
      let j = judged_as Written one_lun seen n (target_of i) i items in
      let k = mark_in j (with_ends j l) in
      let after = seen_after Written seen i items in
      let turned = onto i items past in
      let legal' : is_legal g targets (reverse items ++ (i ∷ past)) ≡ true = ap (is_legal g targets) (sym turned) ∙ legal in
      let here = and_parts (is_permitted g targets past i) (is_legal g targets past) (legal_before (reverse items) (i ∷ past) legal') in
      let h = permitted_none g targets past i here.0 in
      let rest =
      told_from one_lun items after (n + 1) (i ∷ past) (marks ++ (k ∷ [])) (listed j l) (came_to k i pieces) (on_past_on g targets seen past i items on h)
      (within_listed j l within) (stands_on Written one_lun g targets few seen n items past l pieces stands within i h)
      (worked_on one_lun n past marks l pieces within stands worked here.1 seen items on i h) legal' in
      subst (λ (p : List Item). Told g targets p (marks ++ (k ∷ marks_from Written one_lun after (n + 1) items (listed j l))) (ops_from Written one_lun after (n + 1) items (listed j l))) (sym turned)
      (subst (λ (ms : List ℕ). Told g targets (reverse items ++ (i ∷ past)) ms (ops_from Written one_lun after (n + 1) items (listed j l)))
      (append_assoc marks (k ∷ []) (marks_from Written one_lun after (n + 1) items (listed j l))) rest)

-- ---- the beginning

nobody_works : (ce lun : ℕ) → worker_in nothing_listed.places.workers ce lun ≡ None
nobody_works ce lun = none_found 16 (lun_place ce lun)
  where
    none_found : (count k : ℕ) → found (replicate count None) k ≡ None
    none_found zero k = refl
    none_found (suc count) zero = refl
    none_found (suc count) (suc k) = none_found count k

pub nothing_worked : (g : Parts) (targets : ℕ) → Worked g targets 0 [] [] nothing_listed
nothing_worked g targets = record {
  domestic = λ k o is. absurd (none is);
  resting = λ k o is. absurd (none is);
  tells = record {
    long = refl;
    small = λ ce lun h. absurd (idle ce lun h);
    began = λ ce lun k low h. absurd (nobody (sym (nobody_works ce lun) ∙ h));
    working = λ ce lun h. absurd (idle ce lun h);
    place = λ k o is started unended. absurd (none is);
    unended = λ k o is h. absurd (none is);
  };
  number = refl;
  many = refl;
  dated = record {
    begins = λ l n is h. absurd (off h);
    only = λ k o n is h. absurd (none is);
    ended = λ k o e is h. absurd (none is);
    apart = λ k m o p s t is there' ce lun a b lt. absurd (none is);
  };
}
  where
    none : {o : Operation} → None ≡ Some o → ⊥
    none h = cc

    nobody : {k : ℕ} → None ≡ Some k → ⊥
    nobody h = cc

    off : false ≡ true → ⊥
    off e = cc

    idle : (ce lun : ℕ) → busy_of g targets [] ce lun ≡ true → ⊥
    idle ce lun h = off (works_there g targets [] ce lun h).works

-- of a whole trace
pub told_all : (g : Parts) (targets : ℕ) (items : List Item) → IsLegalBase g targets items →
    Told g targets (reverse items) (marks_of Written Start g targets items) (ops_of Written Start g targets items)
told_all g targets items is =
    let past = append-nil (reverse items) in
    let on : OnPast g targets (first_seen_as Start g targets items) [] = record { on = fresh_is_on g targets items; knows = start_knows_all } in
    subst (λ (p : List Item). Told g targets p (marks_of Written Start g targets items) (ops_of Written Start g targets items)) past
    (told_from g targets is.few_targets is.few_luns is.base (has_one_lun g) items (first_seen_as Start g targets items) 0 [] [] nothing_listed (λ k. []) on
    nobody_within nothing_stands (nothing_worked g targets) (ap (is_legal g targets) past ∙ is.legal))
