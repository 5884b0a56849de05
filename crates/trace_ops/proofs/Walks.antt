-- What holds of all operations of a trace, item by item.
use Rattle.std.proofs.Common.{◌≡◌, ℕ, zero, suc, ◌+◌, ◌^◌, ◌<◌, ◌≤◌, Bool, true, false, List, [], ◌∷◌, Option, Some, None, refl, sym, ap, ◌∙◌, subst, arith, length, append-nil, append_assoc, cond, ◌++◌}
use Rattle.std.specs.Prelude.{slice_get}
use Rattle.std.specs.List.{All}
use Rattle.std.proofs.lemmas.List.{length-append}
use Rattle.std.proofs.lemmas.List.Elements.{All-nil, All-cons, All-append, All-weaker, All-replicate}
use Rattle.onfi_cycle.specs.declared.item.Item.{Item}
use Rattle.onfi_cycle.specs.declared.item.Item.TheVariants.{Cyc, Rdy, Ard}
use Rattle.onfi_cycle.specs.declared.item.Kind.{Kind}
use Rattle.onfi_cycle.specs.declared.item.Kind.TheVariants.{Cmd, Adr, Din, Dout}
use Rattle.onfi_cycle.specs.Sequence.{target_of}
use Rattle.trace_faults.specs.declared.readies.Readies.{Readies}
use Rattle.trace_faults.specs.declared.verdict.Verdict.{Verdict}
use Rattle.trace_faults.specs.Middle.{Seen, seen_after, verdicts_from}
use Rattle.trace_ops.specs.declared.change.Change.{Change}
use Rattle.trace_ops.specs.declared.judged.Judged.{Judged}
use Rattle.trace_ops.specs.declared.operation.Operation.{Operation}
use Rattle.trace_ops.specs.Operation.{is_clean, changed, changed_at}
use Rattle.trace_ops.specs.Listing.{Listing, nobody, found, op_of, new_one, number_of, with_new, change_of, unfolded, all_begun, with_ends, with_bytes, owner_in, mark_in, listed, judged_as, ops_from, marks_from, begins_one, new_by_command}
use Rattle.trace_ops.specs.Laws.{total, one_if, count, IsTold, AllSpan}
use Rattle.trace_ops.proofs.Quiet.{is_quiet, by_ends, by_unfold, by_rest}
use Rattle.trace_ops.proofs.Changed.{length_changed, there, at_most, total_append, total_kept, total_more, told_changed, told_append, told_by}
use Rattle.trace_ops.proofs.Spans.{Awaits, same_some, spans_quiet, awaits_quiet, spans_loud, awaits_old, awaits_new}
use Rattle.trace_ops.proofs.Within.{Within, AreWithin, within_more, owner_within, newest_within, begins_within, selects_within}

-- ---- one item

abbrev pub new_many : Option ℕ → ℕ
new_many None = 1
new_many (Some k) = 0

pub length_new : (owner : Option ℕ) (j : Judged) (l : Listing) → length (with_new owner j l).ops ≡ length l.ops + new_many owner
length_new None j l = length-append l.ops (new_one j (op_of l.ops (found l.places.newest j.ce)) j.item ∷ [])
length_new (Some k) j l = omega arith

pub length_ends : (j : Judged) (l : Listing) → length (with_ends j l).ops ≡ length l.ops
length_ends j l = by_ends (λ ops. length ops ≡ length l.ops) (λ k c ops quiet p. length_changed k c ops ∙ p) j l.places l.ops refl

-- the operations with the item that comes to one of them, or to a new one
abbrev pub came : Judged → Listing → Listing
came j l = with_bytes (owner_in j (with_ends j l)) j (mark_in j (with_ends j l)) (with_new (owner_in j (with_ends j l)) j (with_ends j l))

pub length_came : (j : Judged) (l : Listing) → length (came j l).ops ≡ length l.ops + new_many (owner_in j (with_ends j l))
length_came j l =
    let e = with_ends j l in
    let owner = owner_in j e in
    let k = mark_in j e in
    let new = (with_new owner j e).ops in
    let noted : length (came j l).ops ≡ length (unfolded j k new) = length_changed k (change_of owner j j.item) (unfolded j k new) in
    let alone : length (unfolded j k new) ≡ length new = by_unfold (λ ops. length ops ≡ length new) (λ m c ops quiet p. length_changed m c ops ∙ p) j k new refl in
    let many = length_new owner j e in
    let before = length_ends j l in
    omega (arith, noted, alone, many, before)

pub length_listed : (j : Judged) (l : Listing) → length (listed j l).ops ≡ length (came j l).ops
length_listed j l =
    by_rest (λ ops. length ops ≡ length (came j l).ops) (λ k c ops quiet p. length_changed k c ops ∙ p) j (mark_in j (with_ends j l)) (came j l) refl

-- its operation is in the list
number_below : (owner : Option ℕ) (j : Judged) (l : Listing) → Within (length l.ops) owner → number_of owner l.ops < length (with_new owner j l).ops
number_below None j l w =
    let many = length_new None j l in
    omega (arith, many)
number_below (Some k) j l w = w

mark_within : (j : Judged) (l : Listing) → AreWithin (length l.ops) l.places → Within (length (with_ends j l).ops) (owner_in j (with_ends j l))
mark_within j l w = owner_within (length (with_ends j l).ops) (with_ends j l).ops l.places j j.item (subst (λ n. AreWithin n l.places) (sym (length_ends j l)) w)

pub mark_new : (j : Judged) (l : Listing) → AreWithin (length l.ops) l.places → mark_in j (with_ends j l) < length (with_new (owner_in j (with_ends j l)) j (with_ends j l)).ops
mark_new j l w = number_below (owner_in j (with_ends j l)) j (with_ends j l) (mark_within j l w)

pub mark_below : (j : Judged) (l : Listing) → AreWithin (length l.ops) l.places → mark_in j (with_ends j l) < length (listed j l).ops
mark_below j l w =
    let below = mark_new j l w in
    let many = length_new (owner_in j (with_ends j l)) j (with_ends j l) in
    let came_many = length_came j l in
    let all_many = length_listed j l in
    let before = length_ends j l in
    omega (arith, below, many, came_many, all_many, before)

new_within : (n : ℕ) (owner : Option ℕ) (j : Judged) (l : Listing) → length (with_new owner j l).ops ≤ n → AreWithin (length l.ops) l.places → AreWithin n (with_new owner j l).places
new_within n None j l le w =
    let many = length_new None j l in
    let all = within_more (length l.ops) n l.places (omega (arith, many, le)) w in
    record {
      newest = newest_within n (length l.ops) j.ce j.item l.places.newest (omega (arith, many, le)) all.newest;
      workers = all.workers;
      givers = all.givers;
      askers = all.askers;
    }
new_within n (Some k) j l le w = within_more (length l.ops) n l.places le w

pub within_listed : (j : Judged) (l : Listing) → AreWithin (length l.ops) l.places → AreWithin (length (listed j l).ops) (listed j l).places
within_listed j l w =
    let e = with_ends j l in
    let owner = owner_in j e in
    let k = mark_in j e in
    let n = length (listed j l).ops in
    let many = length_new owner j e in
    let came_many = length_came j l in
    let all_many = length_listed j l in
    let before = length_ends j l in
    let le : length (with_new owner j e).ops ≤ n = omega (arith, many, came_many, all_many, before) in
    let new = new_within n owner j e le (subst (λ m. AreWithin m l.places) (sym before) w) in
    let below = mark_below j l w in
    selects_within n k j (all_begun j k (came j l)) below (begins_within n k j (came j l) below new)

-- ---- each item belongs to one

grows : (readies : Readies) (one_lun : Bool) (seen : Seen) (n : ℕ) (items : List Item) (l : Listing) → length l.ops ≤ length (ops_from readies one_lun seen n items l)
grows readies one_lun seen n [] l = omega arith
grows readies one_lun seen n (i ∷ items) l =
    let j = judged_as readies one_lun seen n (target_of i) i items in
    let rest = grows readies one_lun (seen_after readies seen i items) (n + 1) items (listed j l) in
    let all_many = length_listed j l in
    let came_many = length_came j l in
    omega (arith, rest, all_many, came_many)

pub as_many : (readies : Readies) (one_lun : Bool) (seen : Seen) (n : ℕ) (items : List Item) (l : Listing) → length (marks_from readies one_lun seen n items l) ≡ length items
as_many readies one_lun seen n [] l = refl
as_many readies one_lun seen n (i ∷ items) l =
    ap suc (as_many readies one_lun (seen_after readies seen i items) (n + 1) items (listed (judged_as readies one_lun seen n (target_of i) i items) l))

pub are_there : (readies : Readies) (one_lun : Bool) (seen : Seen) (n : ℕ) (items : List Item) (l : Listing) → AreWithin (length l.ops) l.places →
    All (λ k. k < length (ops_from readies one_lun seen n items l)) (marks_from readies one_lun seen n items l)
are_there readies one_lun seen n [] l w = All-nil _
are_there readies one_lun seen n (i ∷ items) l w =
    let j = judged_as readies one_lun seen n (target_of i) i items in
    let after = seen_after readies seen i items in
    let below = mark_below j l w in
    let rest = grows readies one_lun after (n + 1) items (listed j l) in
    All-cons (λ k. k < length (ops_from readies one_lun after (n + 1) items (listed j l))) _ _ (omega (arith, below, rest))
    (are_there readies one_lun after (n + 1) items (listed j l) (within_listed j l w))

pub nobody_within : AreWithin 0 nobody
nobody_within = record {
  newest = All-replicate (Within 0) 4 None tt;
  workers = All-replicate (Within 0) 16 None tt;
  givers = All-replicate (Within 0) 16 None tt;
  askers = All-replicate (Within 0) 16 None tt;
}

-- ---- nothing is lost

-- a number of an operation that counts such items
pub record Counts (f : Operation → ℕ) (is : Item → Bool) : Type 0 where
  pub quiet : (c : Change) (o : Operation) → is_quiet c ≡ true → f (changed c o) ≡ f o
  pub loud : (owner : Option ℕ) (j : Judged) (i : Item) (o : Operation) → f o < 18446744073709551615 → f (changed (change_of owner j i) o) ≡ f o + one_if (is i)
  pub new : (j : Judged) (newest : Option Operation) (i : Item) → f (new_one j newest i) ≡ 0

module _ (f : Operation → ℕ) (is : Item → Bool) (counts : Counts f is) where
  total_new : (owner : Option ℕ) (j : Judged) (l : Listing) → total f (with_new owner j l).ops ≡ total f l.ops
  total_new None j l =
      let one = new_one j (op_of l.ops (found l.places.newest j.ce)) j.item in
      let all = total_append f l.ops one in
      let none = counts.new j (op_of l.ops (found l.places.newest j.ce)) j.item in
      omega (arith, all, none)
  total_new (Some k) j l = refl

  still : (t : ℕ) (k : ℕ) (c : Change) (ops : List Operation) → is_quiet c ≡ true → total f ops ≡ t → total f (changed_at k c ops) ≡ t
  still t k c ops quiet p = total_kept f k c ops (λ o. counts.quiet c o quiet) ∙ p

  total_listed : (j : Judged) (l : Listing) → AreWithin (length l.ops) l.places → total f l.ops < 18446744073709551615 → total f (listed j l).ops ≡ total f l.ops + one_if (is j.item)
  total_listed j l w small =
      let e = with_ends j l in
      let owner = owner_in j e in
      let k = mark_in j e in
      let new = (with_new owner j e).ops in
      let open' = unfolded j k new in
      let ended : total f e.ops ≡ total f l.ops = by_ends (λ ops. total f ops ≡ total f l.ops) (still (total f l.ops)) j l.places l.ops refl in
      let begun : total f open' ≡ total f new = by_unfold (λ ops. total f ops ≡ total f new) (still (total f new)) j k new refl in
      let fresh = total_new owner j e in
      let long : length open' ≡ length new = by_unfold (λ ops. length ops ≡ length new) (λ m c ops quiet p. length_changed m c ops ∙ p) j k new refl in
      let below = mark_new j l w in
      let found' = there open' k (omega (arith, below, long)) in
      let most = at_most f open' k found'.0 found'.1 in
      let more = counts.loud owner j j.item found'.0 (omega (arith, most, begun, fresh, ended, small)) in
      let noted = total_more f k (one_if (is j.item)) (change_of owner j j.item) open' found'.0 found'.1 more in
      let rest : total f (listed j l).ops ≡ total f (came j l).ops = by_rest (λ ops. total f ops ≡ total f (came j l).ops) (still (total f (came j l).ops)) j k (came j l) refl in
      rest ∙ noted ∙ ap (λ t. t + one_if (is j.item)) (begun ∙ fresh ∙ ended)

  one_at_most : (b : Bool) → one_if b ≤ 1
  one_at_most true = omega arith
  one_at_most false = omega arith

  pub total_all : (readies : Readies) (one_lun : Bool) (seen : Seen) (n : ℕ) (items : List Item) (l : Listing) → AreWithin (length l.ops) l.places →
      n + length items < 2 ^ 64 → total f l.ops ≤ n → total f (ops_from readies one_lun seen n items l) ≡ total f l.ops + count is items
  total_all readies one_lun seen n [] l w small le = omega arith
  total_all readies one_lun seen n (i ∷ items) l w small le =
      let j = judged_as readies one_lun seen n (target_of i) i items in
      let one = total_listed j l w (omega (arith, small, le)) in
      let most = one_at_most (is i) in
      let rest = total_all readies one_lun (seen_after readies seen i items) (n + 1) items (listed j l) (within_listed j l w) (omega (arith, small)) (omega (arith, one, most, le)) in
      omega (arith, one, rest)

-- ---- no fault is hidden

told_new : (owner : Option ℕ) (j : Judged) (l : Listing) (k : ℕ) → IsTold l.ops k → IsTold (with_new owner j l).ops k
told_new None j l k told = told_append l.ops _ k told
told_new (Some m) j l k told = told

keeps_told : (k m : ℕ) (c : Change) (ops : List Operation) → is_quiet c ≡ true → IsTold ops k → IsTold (changed_at m c ops) k
keeps_told k m c ops quiet told = told_changed m c ops k told

told_listed : (j : Judged) (l : Listing) (k : ℕ) → IsTold l.ops k → IsTold (listed j l).ops k
told_listed j l k told =
    let e = with_ends j l in
    let owner = owner_in j e in
    let mark = mark_in j e in
    let ended = by_ends (λ ops. IsTold ops k) (keeps_told k) j l.places l.ops told in
    let new = told_new owner j e k ended in
    let alone = by_unfold (λ ops. IsTold ops k) (keeps_told k) j mark (with_new owner j e).ops new in
    by_rest (λ ops. IsTold ops k) (keeps_told k) j mark (came j l) (told_changed mark (change_of owner j j.item) (unfolded j mark (with_new owner j e).ops) k alone)

told_stays : (readies : Readies) (one_lun : Bool) (seen : Seen) (n : ℕ) (items : List Item) (l : Listing) (k : ℕ) → IsTold l.ops k → IsTold (ops_from readies one_lun seen n items l) k
told_stays readies one_lun seen n [] l k told = told
told_stays readies one_lun seen n (i ∷ items) l k told =
    let j = judged_as readies one_lun seen n (target_of i) i items in
    told_stays readies one_lun (seen_after readies seen i items) (n + 1) items (listed j l) k (told_listed j l k told)

told_here : (j : Judged) (l : Listing) → AreWithin (length l.ops) l.places → is_clean j.said ≡ false → IsTold (listed j l).ops (mark_in j (with_ends j l))
told_here j l w unclean =
    let e = with_ends j l in
    let owner = owner_in j e in
    let mark = mark_in j e in
    let new = (with_new owner j e).ops in
    let long : length (unfolded j mark new) ≡ length new = by_unfold (λ ops. length ops ≡ length new) (λ m c ops quiet p. length_changed m c ops ∙ p) j mark new refl in
    let below = mark_new j l w in
    by_rest (λ ops. IsTold ops mark) (keeps_told mark) j mark (came j l) (told_by owner j j.item (unfolded j mark new) mark (omega (arith, below, long)) unclean)

pub told_all : (readies : Readies) (one_lun : Bool) (seen : Seen) (n : ℕ) (items : List Item) (l : Listing) (m : ℕ) (said : Verdict) (k : ℕ) → AreWithin (length l.ops) l.places →
    slice_get (verdicts_from readies seen items) m ≡ Some said → is_clean said ≡ false → slice_get (marks_from readies one_lun seen n items l) m ≡ Some k →
    IsTold (ops_from readies one_lun seen n items l) k
told_all readies one_lun seen n [] l m said k w s unclean mark = cc
told_all readies one_lun seen n (i ∷ items) l zero said k w s unclean mark =
    let j = judged_as readies one_lun seen n (target_of i) i items in
    let here = told_here j l w (ap is_clean (same_some s) ∙ unclean) in
    told_stays readies one_lun (seen_after readies seen i items) (n + 1) items (listed j l) k (subst (λ m. IsTold (listed j l).ops m) (same_some mark) here)
told_all readies one_lun seen n (i ∷ items) l (suc m) said k w s unclean mark =
    let j = judged_as readies one_lun seen n (target_of i) i items in
    told_all readies one_lun (seen_after readies seen i items) (n + 1) items (listed j l) m said k (within_listed j l w) s unclean mark

-- ---- the first and the last item of each

new_first : (j : Judged) (newest : Option Operation) (i : Item) → (new_one j newest i).first ≡ j.number
new_first j newest (Cyc c) = at c.kind
  where
    at : (kind : Kind) → (new_by_command j newest c kind).first ≡ j.number
    at Cmd = either_first (begins_one newest c.byte) _ _ refl refl
      where
        either_first : (b : Bool) (x y : Operation) → x.first ≡ j.number → y.first ≡ j.number → (cond b x y).first ≡ j.number
        either_first true x y p q = p
        either_first false x y p q = q
    at Adr = refl
    at Din = refl
    at Dout = refl
new_first j newest (Rdy ce lun fail) = refl
new_first j newest (Ard ce lun fail) = refl

awaits_came : (marks : List ℕ) (owner : Option ℕ) (j : Judged) (l : Listing) → j.number ≡ length marks → All (λ m. m < length l.ops) marks → AllSpan marks l.ops →
    Awaits marks (number_of owner l.ops) (with_new owner j l).ops
awaits_came marks None j l number below all = awaits_new marks l.ops _ (new_first j (op_of l.ops (found l.places.newest j.ce)) j.item ∙ number) below all
awaits_came marks (Some k) j l number below all = awaits_old marks k l.ops all

spans_listed : (marks : List ℕ) (j : Judged) (l : Listing) → j.number ≡ length marks → All (λ m. m < length l.ops) marks → AllSpan marks l.ops →
    AllSpan (marks ++ (mark_in j (with_ends j l) ∷ [])) (listed j l).ops
spans_listed marks j l number below all =
    let e = with_ends j l in
    let owner = owner_in j e in
    let k = mark_in j e in
    let new = (with_new owner j e).ops in
    let ended : AllSpan marks e.ops = by_ends (λ ops. AllSpan marks ops) (spans_quiet marks) j l.places l.ops all in
    let few : All (λ m. m < length e.ops) marks = subst (λ (n : ℕ). All (λ m. m < n) marks) (sym (length_ends j l)) below in
    let awaits = awaits_came marks owner j e number few ended in
    let alone = by_unfold (λ ops. Awaits marks k ops) (awaits_quiet marks k) j k new awaits in
    let came_so : AllSpan (marks ++ (k ∷ [])) (came j l).ops = spans_loud marks k owner j j.item (unfolded j k new) number alone in
    by_rest (λ ops. AllSpan (marks ++ (k ∷ [])) ops) (spans_quiet (marks ++ (k ∷ []))) j k (came j l) came_so

pub span_all : (readies : Readies) (one_lun : Bool) (seen : Seen) (n : ℕ) (items : List Item) (l : Listing) (marks : List ℕ) → AreWithin (length l.ops) l.places → n ≡ length marks →
    All (λ m. m < length l.ops) marks → AllSpan marks l.ops → AllSpan (marks ++ marks_from readies one_lun seen n items l) (ops_from readies one_lun seen n items l)
span_all readies one_lun seen n [] l marks w number below all = subst (λ (ms : List ℕ). AllSpan ms l.ops) (sym (append-nil marks)) all
span_all readies one_lun seen n (i ∷ items) l marks w number below all =
    let j = judged_as readies one_lun seen n (target_of i) i items in
    let k = mark_in j (with_ends j l) in
    let after = seen_after readies seen i items in
    let here = spans_listed marks j l number below all in
    let all_many = length_listed j l in
    let came_many = length_came j l in
    let mine = mark_below j l w in
    let long = length-append marks (k ∷ []) in
    let old : All (λ m. m < length (listed j l).ops) marks = All-weaker (λ m. m < length l.ops) (λ m. m < length (listed j l).ops) (λ m h. omega (arith, h, all_many, came_many)) marks below in
    let fewer : All (λ m. m < length (listed j l).ops) (marks ++ (k ∷ [])) = All-append (λ m. m < length (listed j l).ops) marks (k ∷ []) old (All-cons (λ m. m < length (listed j l).ops) k [] mine (All-nil _)) in
    let rest = span_all readies one_lun after (n + 1) items (listed j l) (marks ++ (k ∷ [])) (within_listed j l w) (omega (arith, number, long)) fewer here in
    subst (λ (ms : List ℕ). AllSpan ms (ops_from readies one_lun after (n + 1) items (listed j l))) (append_assoc marks (k ∷ []) (marks_from readies one_lun after (n + 1) items (listed j l))) rest
