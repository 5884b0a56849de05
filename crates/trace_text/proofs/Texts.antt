-- A text is read line by line; what is read is the text of its items, and their text is read.
use Rattle.std.proofs.Common.{◌≡◌, ℕ, ◌+◌, ◌<◌, ◌≤◌, Bool, true, false, cond, eqb, List, [], ◌∷◌, ◌++◌, length, get_or, drop, Some, None, Result, Ok, Err, refl, sym, ap, subst, ◌∙◌, append_assoc, arith, length-append, Bor, lit<}
use Rattle.std.specs.Prelude.{IfOk, IfErr, MatchResult}
use Rattle.std.specs.List.{All, AllByRecursion}
use Rattle.std.proofs.lemmas.Bool.{eqb-true, ne_eqb}
use Rattle.std.proofs.lemmas.List.{append-nil, append_cancel_right, nil_from_length}
use Rattle.std.proofs.lemmas.List.Elements.{All-from_get_or, recursion_from_All, All-from_recursion}
use Rattle.std.proofs.lemmas.Str.Pattern.{IsSplitOnceResult, split_parts}
use Rattle.onfi_cycle.specs.declared.item.Item.{Item}
use Rattle.nand_geometry.specs.declared.optional.Profile.{Profile}
use Rattle.trace_text.specs.declared.refusal.TraceFault.{TraceFault}
use Rattle.trace_text.specs.declared.refusal.TraceFault.TheVariants.{BadShape}
use Rattle.trace_text.specs.declared.refusal.TraceRefusal.{TraceRefusal}
use Rattle.trace_text.specs.declared.refusal.TraceRefusal.TheVariants.{Fault, OutOfMemory}
use Rattle.trace_text.specs.Line.{line, text, IsPrintable, HasByte, IsKnown}
use Rattle.trace_text.specs.Reading.{◌>>=◌, at_line, line_item, reading_from, reading, IsRefusalOf, BeginsWith, HasFault}
use Rattle.trace_text.specs.Trace.{IsTextOf, TextsAreItems}
use Rattle.trace_text.proofs.Lines.{line_takes, line_again}

-- ---- one line

-- no line feed among these
abbrev pub HasNoFeed : List ℕ → Type 0
HasNoFeed bs = AllByRecursion (λ b. eqb b 10 ≡ false) bs

no_feed : (bs : List ℕ) → ((i : ℕ) → i < length bs → get_or bs i 0 ≡ 10 → ⊥) → HasNoFeed bs
no_feed bs h = recursion_from_All (λ (b : ℕ). eqb b 10 ≡ false) bs (All-from_get_or (λ (b : ℕ). eqb b 10 ≡ false) bs 0 (λ i lt. ne_eqb (get_or bs i 0) 10 (h i lt)))

-- an ended line is judged, and then the rest
pub by_line : (p : Profile) (n : ℕ) (front l rest : List ℕ) → HasNoFeed l → reading_from p n front (l ++ 10 ∷ rest) ≡ (at_line n (line_item p (front ++ l)) >>= λ item. reading_from p (n + 1) [] rest >>= λ items. Ok (item ∷ items))
unfolding reading_from
by_line p n front [] rest h =
    ap (λ (bs : List ℕ). at_line n (line_item p bs) >>= λ item. reading_from p (n + 1) [] rest >>= λ items. Ok (item ∷ items)) (sym (append-nil front))
by_line p n front (b ∷ l) rest h =
    rw h.0 (by_line p n (front ++ b ∷ []) l rest h.1
    ∙ ap (λ (bs : List ℕ). at_line n (line_item p bs) >>= λ item. reading_from p (n + 1) [] rest >>= λ items. Ok (item ∷ items)) (append_assoc front (b ∷ []) l))

-- a line that isn't ended
pub by_rest : (p : Profile) (n : ℕ) (front l : List ℕ) → HasNoFeed l → 0 < length (front ++ l) → reading_from p n front l ≡ Err (Fault BadShape n)
unfolding reading_from
by_rest p n front [] h some =
    let long : length front ≡ 0 → ⊥ = λ e. omega (arith, length-append front []) in
    let test = ne_eqb (length front) 0 long in
    rw test refl
by_rest p n front (b ∷ l) h some = rw h.0 (by_rest p n (front ++ b ∷ []) l h.1 (omega (arith, length-append (front ++ b ∷ []) l, length-append front (b ∷ []))))

pub begins : (p : Profile) (bs : List ℕ) (x : Bor (List ℕ) × Bor (List ℕ)) (item : Item) → IsSplitOnceResult 10 bs (Some x) → line_item p x.0.now ≡ Ok item → BeginsWith p bs item x.1.now
begins p bs x item h e =
    let parts = split_parts 10 bs (Some x) h (lit< tt) in
    let whole : bs ≡ x.0.now ++ (10 ∷ x.1.now) = parts.0 in
    record {
      shorter = rw whole (omega (arith, length-append x.0.now (10 ∷ x.1.now)));
      read = λ n. ap (reading_from p n []) whole ∙ by_line p n [] x.0.now x.1.now (no_feed x.0.now parts.1) ∙ rw e refl;
    }

-- a line that is read has no line feed
read_no_feed : (p : Profile) (l : List ℕ) (item : Item) → line_item p l ≡ Ok item → HasNoFeed l
read_no_feed p l item e =
    let taken = line_takes p l item e in
    let again = line_again p item taken.printable taken.byte taken.known in
    let same : l ≡ again.front = append_cancel_right l again.front (10 ∷ []) (taken.spelled ∙ again.spelled) in
    subst HasNoFeed (sym same) again.no_feed

pub begins_ended : (p : Profile) (l rest : List ℕ) (item : Item) → line_item p l ≡ Ok item → BeginsWith p (l ++ 10 ∷ rest) item rest
begins_ended p l rest item e = record {
  shorter = omega (arith, length-append l (10 ∷ rest));
  read = λ n. by_line p n [] l rest (read_no_feed p l item e) ∙ rw e refl;
}

-- the same of a text whose first bytes were looked at one by one
pub begins_spaced : (p : Profile) (bs rest : List ℕ) (item : Item) → 7 ≤ length bs → rest ≡ drop 7 bs → get_or bs 1 0 ≡ 32 → get_or bs 3 0 ≡ 32 → get_or bs 6 0 ≡ 10
    → line_item p (get_or bs 0 0 ∷ 32 ∷ get_or bs 2 0 ∷ 32 ∷ get_or bs 4 0 ∷ get_or bs 5 0 ∷ []) ≡ Ok item → BeginsWith p bs item rest
begins_spaced p (a ∷ b ∷ c ∷ d ∷ e ∷ f ∷ g ∷ bs) rest item long is first second feed read =
    rw (is, first, second, feed) (begins_ended p (a ∷ 32 ∷ c ∷ 32 ∷ e ∷ f ∷ []) bs item read)
begins_spaced p [] rest item long is first second feed read = absurd (omega arith)
begins_spaced p (a ∷ []) rest item long is first second feed read = absurd (omega arith)
begins_spaced p (a ∷ b ∷ []) rest item long is first second feed read = absurd (omega arith)
begins_spaced p (a ∷ b ∷ c ∷ []) rest item long is first second feed read = absurd (omega arith)
begins_spaced p (a ∷ b ∷ c ∷ d ∷ []) rest item long is first second feed read = absurd (omega arith)
begins_spaced p (a ∷ b ∷ c ∷ d ∷ e ∷ []) rest item long is first second feed read = absurd (omega arith)
begins_spaced p (a ∷ b ∷ c ∷ d ∷ e ∷ f ∷ []) rest item long is first second feed read = absurd (omega arith)

pub fails : (p : Profile) (bs : List ℕ) (x : Bor (List ℕ) × Bor (List ℕ)) (code : TraceFault) → IsSplitOnceResult 10 bs (Some x) → line_item p x.0.now ≡ Err code → HasFault p bs code
fails p bs x code h e =
    let parts = split_parts 10 bs (Some x) h (lit< tt) in
    let whole : bs ≡ x.0.now ++ (10 ∷ x.1.now) = parts.0 in
    record {
      some = rw whole (omega (arith, length-append x.0.now (10 ∷ x.1.now)));
      read = λ n. ap (reading_from p n []) whole ∙ by_line p n [] x.0.now x.1.now (no_feed x.0.now parts.1) ∙ rw e refl;
    }

pub unended : (p : Profile) (bs : List ℕ) → IsSplitOnceResult 10 bs None → 0 < length bs → HasFault p bs BadShape
unended p bs h some = record { some = some; read = λ n. by_rest p n [] bs (no_feed bs (split_parts 10 bs None h (lit< tt))) some }

-- ---- from the text to the items

abbrev done : List Item → Result (List Item) TraceRefusal
done items = Ok items

bind_ok : {A B E : Type 0} (r : Result A E) (f : A → Result B E) (y : B) → (r >>= f) ≡ Ok y → (x : A) × (r ≡ Ok x) × (f x ≡ Ok y)
bind_ok (Ok x) f y e = (x, refl, e)
bind_ok (Err d) f y e = absurd cc

at_line_ok : (n : ℕ) (r : Result Item TraceFault) (item : Item) → at_line n r ≡ Ok item → r ≡ Ok item
at_line_ok n (Ok x) item e = let same : x ≡ item = cc in ap (λ (i : Item). Ok i) same
at_line_ok n (Err code) item e = absurd cc

-- the items with the facts, one by one
pub record IsTold (p : Profile) (bytes : List ℕ) (items : List Item) : Type 0 where
  pub spelled : bytes ≡ text items
  pub printable : AllByRecursion IsPrintable items
  pub byte : AllByRecursion HasByte items
  pub known : AllByRecursion (IsKnown p) items

ended : (p : Profile) (n : ℕ) (front : List ℕ) (items : List Item) (t : Bool) → eqb (length front) 0 ≡ t → cond t (done []) (Err (Fault BadShape n)) ≡ Ok items → IsTold p (front ++ []) items
ended p n front items true is e =
    let empty = nil_from_length front (eqb-true (length front) 0 is) in
    let none : [] ≡ items = let h : done [] ≡ done items = e in cc in
    subst (λ (xs : List Item). IsTold p (front ++ []) xs) none (record { spelled = append-nil front ∙ empty; printable = tt; byte = tt; known = tt })
ended p n front items false is e = absurd cc

pub text_takes : (p : Profile) (n : ℕ) (front bs : List ℕ) (items : List Item) → reading_from p n front bs ≡ Ok items → IsTold p (front ++ bs) items
unfolding reading_from
text_takes p n front [] items e = ended p n front items (eqb (length front) 0) refl e
text_takes p n front (b ∷ bs) items e = at (eqb b 10) (λ others h. text_takes p (n + 1) [] bs others h) (λ h. text_takes p n (front ++ b ∷ []) bs items h) refl e
  where
    at : (t : Bool) → ((others : List Item) → reading_from p (n + 1) [] bs ≡ Ok others → IsTold p bs others) → (reading_from p n (front ++ b ∷ []) bs ≡ Ok items → IsTold p ((front ++ b ∷ []) ++ bs) items)
        → eqb b 10 ≡ t → cond t (at_line n (line_item p front) >>= λ item. reading_from p (n + 1) [] bs >>= λ items. Ok (item ∷ items)) (reading_from p n (front ++ b ∷ []) bs) ≡ Ok items → IsTold p (front ++ b ∷ bs) items
    at true rest same is h =
        let first = bind_ok (at_line n (line_item p front)) (λ item. reading_from p (n + 1) [] bs >>= λ items. Ok (item ∷ items)) items h in
        let others = bind_ok (reading_from p (n + 1) [] bs) (λ others. Ok (first.0 ∷ others)) items first.2 in
        let taken = line_takes p front first.0 (at_line_ok n (line_item p front) first.0 first.1) in
        let more = rest others.0 others.1 in
        let feed : b ≡ 10 = eqb-true b 10 is in
        let grouped : front ++ b ∷ bs ≡ (front ++ 10 ∷ []) ++ bs = ap (λ (x : ℕ). front ++ x ∷ bs) feed ∙ sym (append_assoc front (10 ∷ []) bs) in
        let whole : front ++ b ∷ bs ≡ line first.0 ++ text others.0 = grouped ∙ ap (λ (l : List ℕ). l ++ bs) taken.spelled ∙ ap (λ (l : List ℕ). line first.0 ++ l) more.spelled in
        let last : first.0 ∷ others.0 ≡ items = let q : done (first.0 ∷ others.0) ≡ done items = others.2 in cc in
        subst (λ (xs : List Item). IsTold p (front ++ b ∷ bs) xs) last (record { spelled = whole; printable = (taken.printable, more.printable); byte = (taken.byte, more.byte); known = (taken.known, more.known) })
    at false rest same is h = subst (λ (l : List ℕ). IsTold p l items) (append_assoc front (b ∷ []) bs) (same h)

pub is_found : (p : Profile) (bs : List ℕ) (items : List Item) → reading p bs ≡ Ok items → IsTextOf p bs items
is_found p bs items e =
    let told = text_takes p 1 [] bs items e in
    record { spelled = told.spelled; printable = All-from_recursion IsPrintable items told.printable; bytes_fit = All-from_recursion HasByte items told.byte; known = All-from_recursion (IsKnown p) items told.known }

-- ---- from the items to the text

pub text_again : (p : Profile) (n : ℕ) (items : List Item) → AllByRecursion IsPrintable items → AllByRecursion HasByte items → AllByRecursion (IsKnown p) items → reading_from p n [] (text items) ≡ Ok items
unfolding reading_from
text_again p n [] printable byte known = refl
text_again p n (i ∷ items) printable byte known =
    let told = line_again p i printable.0 byte.0 known.0 in
    let grouped : line i ++ text items ≡ told.front ++ 10 ∷ text items = ap (λ (l : List ℕ). l ++ text items) told.spelled ∙ append_assoc told.front (10 ∷ []) (text items) in
    let others = text_again p (n + 1) items printable.1 byte.1 known.1 in
    ap (reading_from p n []) grouped ∙ by_line p n [] told.front (text items) told.no_feed ∙ rw (told.read, others) refl

pub read_back : (p : Profile) (items : List Item) → All IsPrintable items → All HasByte items → All (IsKnown p) items → reading p (text items) ≡ Ok items
read_back p items printable byte known = text_again p 1 items (recursion_from_All IsPrintable items printable) (recursion_from_All HasByte items byte) (recursion_from_All (IsKnown p) items known)

pub of_text : (p : Profile) (bs : List ℕ) (items : List Item) → IsTextOf p bs items → reading p bs ≡ Ok items
of_text p bs items is = ap (reading p) is.spelled ∙ read_back p items is.printable is.bytes_fit is.known

-- what an answer says of the items whose text this is
pub items_found : (p : Profile) {X : Type 0} (view : X → List Item) (bs : List ℕ) (r : Result X TraceRefusal) → IfOk r (λ v. reading p bs ≡ Ok (view v)) → IfOk r (λ v. IsTextOf p bs (view v))
items_found p view bs (Ok v) e = is_found p bs (view v) e
items_found p view bs (Err e) h = tt

pub items_only : (p : Profile) {X : Type 0} (view : X → List Item) (bs : List ℕ) (r : Result X TraceRefusal) → IfOk r (λ v. reading p bs ≡ Ok (view v)) → IfErr r (λ e. IsRefusalOf e (reading p bs))
    → (items : List Item) → IsTextOf p bs items → MatchResult r (λ v. view v ≡ items) (λ e. e ≡ OutOfMemory)
items_only p view bs (Ok v) e h items is =
    let both : done (view v) ≡ done items = sym e ∙ of_text p bs items is in
    cc
items_only p view bs (Err OutOfMemory) e h items is = refl
items_only p view bs (Err (Fault code line)) e h items is = let read = of_text p bs items is in absurd cc

pub texts_are_items : TextsAreItems
texts_are_items = record { read_back = read_back; text_of_read = is_found }
