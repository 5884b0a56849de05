-- What is listed step by step is what the definition lists.
use Rattle.std.proofs.Common.{◌≡◌, ℕ, ◌+◌, Bool, List, [], ◌∷◌, ◌++◌, Option, refl, sym, ap, ◌∙◌, append_assoc}
use Rattle.onfi_cycle.specs.declared.item.Item.{Item}
use Rattle.onfi_cycle.specs.Sequence.{target_of}
use Rattle.trace_faults.specs.declared.known.Known.{Known}
use Rattle.trace_faults.specs.declared.readies.Readies.{Readies}
use Rattle.trace_faults.specs.declared.trace_state.TraceState.{TraceState}
use Rattle.trace_faults.specs.declared.verdict.Verdict.{Verdict}
use Rattle.trace_faults.specs.Middle.{Seen, verdict, seen_after, verdicts_from}
use Rattle.trace_ops.specs.declared.judged.Judged.{Judged}
use Rattle.trace_ops.specs.declared.looks.Looks.{Looks}
use Rattle.trace_ops.specs.declared.operation.Operation.{Operation}
use Rattle.trace_ops.specs.declared.places.Places.{Places}
use Rattle.trace_ops.specs.Listing.{Listing, looks_of, all_ended, owner_of, number_of, with_new, noted_at, all_begun, all_selected, polled, with_ends, with_bytes, with_polls, with_ready, taken_by, listed, mark_in, judged_as, ops_from, marks_from}

abbrev pub pair : Places → List Operation → Listing
pair p ops = record { places = p; ops = ops }

pub paired : (l : Listing) (p : Places) (ops : List Operation) → p ≡ l.places → ops ≡ l.ops → pair p ops ≡ l
paired l p ops e f = rw (e, f) refl

-- ---- four LUNs, one after another

pub four : (f g h i : Listing → Listing) (l : Listing) (p1 p2 p3 p4 : Places) (o1 o2 o3 o4 : List Operation) →
    p1 ≡ (f l).places → o1 ≡ (f l).ops → p2 ≡ (g (pair p1 o1)).places → o2 ≡ (g (pair p1 o1)).ops → p3 ≡ (h (pair p2 o2)).places → o3 ≡ (h (pair p2 o2)).ops →
    p4 ≡ (i (pair p3 o3)).places → o4 ≡ (i (pair p3 o3)).ops → pair p4 o4 ≡ i (h (g (f l)))
four f g h i l p1 p2 p3 p4 o1 o2 o3 o4 e1 f1 e2 f2 e3 f3 e4 f4 =
    paired (i (pair p3 o3)) p4 o4 e4 f4
    ∙ ap i (paired (h (pair p2 o2)) p3 o3 e3 f3 ∙ ap h (paired (g (pair p1 o1)) p2 o2 e2 f2 ∙ ap g (paired (f l) p1 o1 e1 f1)))

-- ---- one item

pub took : (owner : Option ℕ) (j : Judged) (k : ℕ) (l : Listing) (p1 p3 p4 : Places) (o1 o2 o3 o4 o5 o6 : List Operation) →
    p1 ≡ (with_new owner j l).places → o1 ≡ (with_new owner j l).ops → o2 ≡ noted_at owner j k o1 →
    p3 ≡ (all_begun j k (pair p1 o2)).places → o3 ≡ (all_begun j k (pair p1 o2)).ops → p4 ≡ (all_selected j k (pair p3 o3)).places → o4 ≡ (all_selected j k (pair p3 o3)).ops →
    o5 ≡ polled j k j.item p4 o4 → o6 ≡ (with_ready j k (pair p4 o5)).ops → pair p4 o6 ≡ taken_by owner j k l
took owner j k l p1 p3 p4 o1 o2 o3 o4 o5 o6 e1 f1 f2 e3 f3 e4 f4 f5 f6 =
    let s1 : pair p1 o1 ≡ with_new owner j l = paired (with_new owner j l) p1 o1 e1 f1 in
    let s2 : pair p1 o2 ≡ with_bytes owner j k (pair p1 o1) = ap (pair p1) f2 in
    let s3 : pair p3 o3 ≡ all_begun j k (pair p1 o2) = paired (all_begun j k (pair p1 o2)) p3 o3 e3 f3 in
    let s4 : pair p4 o4 ≡ all_selected j k (pair p3 o3) = paired (all_selected j k (pair p3 o3)) p4 o4 e4 f4 in
    let s5 : pair p4 o5 ≡ with_polls j k (pair p4 o4) = ap (pair p4) f5 in
    let s6 : pair p4 o6 ≡ with_ready j k (pair p4 o5) = ap (pair p4) f6 in
    s6 ∙ ap (with_ready j k) (s5 ∙ ap (with_polls j k) (s4 ∙ ap (all_selected j k) (s3 ∙ ap (all_begun j k) (s2 ∙ ap (with_bytes owner j k) s1))))

pub taken : (j : Judged) (p p' : Places) (ops ended ops' : List Operation) (owner : Option ℕ) (k : ℕ) →
    ended ≡ all_ended j p ops → owner ≡ owner_of ended p j j.item → k ≡ number_of owner ended →
    p' ≡ (taken_by owner j k (pair p ended)).places → ops' ≡ (taken_by owner j k (pair p ended)).ops → pair p' ops' ≡ listed j (pair p ops)
taken j p p' ops ended ops' owner k e o n f g =
    paired (taken_by owner j k (pair p ended)) p' ops' f g
    ∙ ap (λ (m : ℕ). taken_by owner j m (pair p ended)) n
    ∙ ap (λ (w : Option ℕ). taken_by w j (number_of w ended) (pair p ended)) o
    ∙ ap (λ (os : List Operation). taken_by (owner_of os p j j.item) j (number_of (owner_of os p j j.item) os) (pair p os)) e

pub marked : (j : Judged) (p : Places) (ops ended : List Operation) (owner : Option ℕ) (k : ℕ) →
    ended ≡ all_ended j p ops → owner ≡ owner_of ended p j j.item → k ≡ number_of owner ended → k ≡ mark_in j (with_ends j (pair p ops))
marked j p ops ended owner k e o n =
    n ∙ ap (λ (w : Option ℕ). number_of w ended) o ∙ ap (λ (os : List Operation). number_of (owner_of os p j j.item) os) e

-- ---- an item as it is judged

pub judged_is : (readies : Readies) (one_lun : Bool) (seen : Seen) (n ce : ℕ) (i : Item) (later : List Item) (said : Verdict) (before after : Looks) (state : TraceState) →
    ce ≡ target_of i → said ≡ verdict readies seen i later → before ≡ looks_of seen.state.bus ce → state ≡ (seen_after readies seen i later).state → after ≡ looks_of state.bus ce →
    record { number = n; item = i; ce = ce; one_lun = one_lun; said = said; before = before; after = after } ≡ judged_as readies one_lun seen n (target_of i) i later
judged_is readies one_lun seen n ce i later said before after state c s b t a = rw (a, t, b, s, c) refl

-- ---- a trace

pub seen_is : (seen : Seen) (state : TraceState) (known : List Known) → state ≡ seen.state → known ≡ seen.known → record { state = state; known = known } ≡ seen
seen_is seen state known e f = rw (e, f) refl

abbrev Next : Readies → Bool → Seen → ℕ → Item → List Item → Judged
Next readies one_lun seen n i later = judged_as readies one_lun seen n (target_of i) i later

pub ops_go_on : (readies : Readies) (one_lun : Bool) (seen seen' : Seen) (n : ℕ) (i : Item) (later rest : List Item) (l l' : Listing) (j : Judged) (whole : List Operation) →
    rest ≡ i ∷ later → j ≡ Next readies one_lun seen n i later → seen' ≡ seen_after readies seen i later → l' ≡ listed j l →
    ops_from readies one_lun seen n rest l ≡ whole → ops_from readies one_lun seen' (n + 1) later l' ≡ whole
ops_go_on readies one_lun seen seen' n i later rest l l' j whole cons is next list before =
    ap (λ (s : Seen). ops_from readies one_lun s (n + 1) later l') next
    ∙ ap (λ (m : Listing). ops_from readies one_lun (seen_after readies seen i later) (n + 1) later m) (list ∙ ap (λ (x : Judged). listed x l) is)
    ∙ ap (λ (items : List Item). ops_from readies one_lun seen n items l) (sym cons) ∙ before

pub marks_go_on : (readies : Readies) (one_lun : Bool) (seen seen' : Seen) (n : ℕ) (i : Item) (later rest : List Item) (l l' : Listing) (j : Judged) (k : ℕ) (marks marks' whole : List ℕ) →
    rest ≡ i ∷ later → j ≡ Next readies one_lun seen n i later → seen' ≡ seen_after readies seen i later → l' ≡ listed j l → k ≡ mark_in j (with_ends j l) → marks' ≡ marks ++ k ∷ [] →
    marks ++ marks_from readies one_lun seen n rest l ≡ whole → marks' ++ marks_from readies one_lun seen' (n + 1) later l' ≡ whole
marks_go_on readies one_lun seen seen' n i later rest l l' j k marks marks' whole cons is next list mark more before =
    let tail : marks_from readies one_lun seen' (n + 1) later l' ≡ marks_from readies one_lun (seen_after readies seen i later) (n + 1) later (listed (Next readies one_lun seen n i later) l) =
    ap (λ (s : Seen). marks_from readies one_lun s (n + 1) later l') next
    ∙ ap (λ (m : Listing). marks_from readies one_lun (seen_after readies seen i later) (n + 1) later m) (list ∙ ap (λ (x : Judged). listed x l) is) in
    let head : k ≡ mark_in (Next readies one_lun seen n i later) (with_ends (Next readies one_lun seen n i later) l) = mark ∙ ap (λ (x : Judged). mark_in x (with_ends x l)) is in
    let all : k ∷ marks_from readies one_lun seen' (n + 1) later l' ≡ marks_from readies one_lun seen n rest l =
    ap (λ (ms : List ℕ). k ∷ ms) tail ∙ ap (λ (m : ℕ). m ∷ marks_from readies one_lun (seen_after readies seen i later) (n + 1) later (listed (Next readies one_lun seen n i later) l)) head
    ∙ ap (λ (items : List Item). marks_from readies one_lun seen n items l) (sym cons) in
    ap (λ (ms : List ℕ). ms ++ marks_from readies one_lun seen' (n + 1) later l') more
    ∙ append_assoc marks (k ∷ []) (marks_from readies one_lun seen' (n + 1) later l') ∙ ap (λ (ms : List ℕ). marks ++ ms) all ∙ before

pub verdicts_go_on : (readies : Readies) (one_lun : Bool) (seen seen' : Seen) (n : ℕ) (i : Item) (later rest : List Item) (j : Judged) (verdicts verdicts' whole : List Verdict) →
    rest ≡ i ∷ later → j ≡ Next readies one_lun seen n i later → seen' ≡ seen_after readies seen i later → verdicts' ≡ verdicts ++ j.said ∷ [] →
    verdicts ++ verdicts_from readies seen rest ≡ whole → verdicts' ++ verdicts_from readies seen' later ≡ whole
verdicts_go_on readies one_lun seen seen' n i later rest j verdicts verdicts' whole cons is next more before =
    let all : j.said ∷ verdicts_from readies seen' later ≡ verdicts_from readies seen rest =
    ap (λ (s : Seen). j.said ∷ verdicts_from readies s later) next ∙ ap (λ (x : Judged). x.said ∷ verdicts_from readies (seen_after readies seen i later) later) is
    ∙ ap (λ (items : List Item). verdicts_from readies seen items) (sym cons) in
    ap (λ (vs : List Verdict). vs ++ verdicts_from readies seen' later) more ∙ append_assoc verdicts (j.said ∷ []) (verdicts_from readies seen' later) ∙ ap (λ (vs : List Verdict). verdicts ++ vs) all ∙ before
