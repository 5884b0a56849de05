-- A record whose numbers stand every test is one that a target can have, and the other way round.
use Rattle.std.proofs.Common.{◌≡◌, ℕ, zero, suc, ◌+◌, ◌^◌, ◌<◌, ◌≤◌, ◌==◌, Bool, true, false, ◌&&◌, ◌||◌, not, List, [], ◌∷◌, Option, Some, None, refl, sym, ap, ◌∙◌, length, get_or, IfSome, arith}
use Rattle.std.specs.Prelude.{nat_le, nat_lt}
use Rattle.std.specs.List.{All, list_all}
use Rattle.std.specs.Option.{is_none}
use Rattle.std.proofs.lemmas.Bool.{and_parts, and_from}
use Rattle.std.proofs.lemmas.Bool.Decides.{nat_tests}
use Rattle.nand_geometry.specs.declared.parts.Parts.{Parts}
use Rattle.nand_geometry.specs.declared.page_fault.PageFault.{PageFault}
use Rattle.nand_geometry.specs.Limits.{InLimits, fault_of, page_len}
use Rattle.nand_geometry.proofs.LimitLemmas.{faultless}
use Rattle.onfi_cycle.specs.declared.data_phase.DataPhase.{DataPhase}
use Rattle.onfi_cycle.specs.declared.data_phase.DataPhase.TheVariants as phase
use Rattle.onfi_cycle.specs.declared.opening.Opening.{Opening}
use Rattle.onfi_cycle.specs.declared.tail_facts.TailFacts.{TailFacts}
use Rattle.onfi_cycle.specs.Bounds.{LunFits, LunsFit, RowFits, RowStands, TailFits, TargetFits, is_row, names_erase, names_identity, names_program, names_read, names_row, rooms}
use Rattle.onfi_cycle.specs.Effect.{is_shared, names_lun, page_address}
use Rattle.onfi_cycle.specs.LunView.{LunView}
use Rattle.onfi_cycle.specs.Rules.{some_queued_clashes}
use Rattle.onfi_cycle.specs.Sequence.{row, takes_features, wants_column}
use Rattle.onfi_cycle.specs.State.{TargetView}
use Rattle.target_record.specs.declared.geometry.OnfiseqGeometry.{OnfiseqGeometry}
use Rattle.target_record.specs.declared.record.OnfiseqLun.{OnfiseqLun}
use Rattle.target_record.specs.declared.record.OnfiseqTarget.{OnfiseqTarget}
use Rattle.target_record.specs.Geometry.{parts_of}
use Rattle.target_record.specs.Record.{IsRecord, IsTarget, target_of}
use Rattle.target_record.specs.Whole.{IsWhole, WholeAreTaken, are_numbers, erase_goes, given_fits, identity_waits, is_outside, is_record, is_short, is_whole, lun_fits, lun_stands, luns_fit, program_goes, read_goes, row_goes, row_lies, row_stands, stands_alone, tail_fits, target_fits}

-- ---- tests on two or three Booleans

column_alone : (o : Option Opening) (w e : Bool) → (is_none o || (not w && not e)) ≡ true → w ≡ true → o ≡ None
column_alone None w e h i = refl
column_alone (Some x) true e h i = cc
column_alone (Some x) false e h i = cc

empty_alone : (o : Option Opening) (w e : Bool) → (is_none o || (not w && not e)) ≡ true → e ≡ true → o ≡ None
empty_alone None w e h i = refl
empty_alone (Some x) true e h i = cc
empty_alone (Some x) false true h i = cc
empty_alone (Some x) false false h i = cc

if_both : (r l x : Bool) → (not (r && l) || x) ≡ true → l ≡ true → r ≡ true → x ≡ true
if_both true true x h i j = h
if_both true false x h i j = cc
if_both false l x h i j = cc

never_both : (r x : Bool) → not (r && x) ≡ true → r ≡ true → x ≡ false
never_both true true h i = cc
never_both true false h i = refl
never_both false x h i = cc

not_so : (x : Bool) → not x ≡ true → x ≡ false
not_so true h = cc
not_so false h = refl

if_so : (x y : Bool) → (not x || y) ≡ true → x ≡ true → y ≡ true
if_so true y h i = h
if_so false y h i = cc

first : (a b c : Bool) → a ≡ true → (a || (b || c)) ≡ true
first true b c h = refl
first false b c h = cc

third : (a b c : Bool) → b ≡ true → (a || (b || c)) ≡ true
third true b c h = refl
third false true c h = refl
third false false c h = cc

last : (a b c : Bool) → c ≡ true → (a || (b || c)) ≡ true
last true b c h = refl
last false true c h = refl
last false false c h = h

-- ---- the tail

is_at_rest : (p : DataPhase) → is_outside p ≡ true → p ≡ phase.Outside
is_at_rest phase.Outside h = refl
is_at_rest phase.Inputs h = cc
is_at_rest phase.FirstColumn h = cc
is_at_rest phase.SecondColumn h = cc
is_at_rest phase.FeatureInputs h = cc

few_addresses : (o : Option Opening) → is_short o ≡ true → IfSome o (λ x. x.addresses ≤ 5)
few_addresses None h = tt
few_addresses (Some x) h = grind (arith, nat_tests, h)

few_inputs : (n : ℕ) → nat_lt n 4 ≡ true → n < 4
few_inputs n h = grind (arith, nat_tests, h)

tail_is : (g : Parts) (t : TailFacts) → tail_fits g t ≡ true → TailFits g t
tail_is g t e =
    let a = and_parts (nat_lt t.column 65536) _ e in
    let b = and_parts (nat_le t.inputs (page_len g + 4)) _ a.1 in
    let c = and_parts (is_short t.opening) _ b.1 in
    let d = and_parts (stands_alone t) _ c.1 in
    let f = and_parts (not t.is_empty || is_outside t.phase) _ d.1 in
    let column = a.0 in
    let inputs = b.0 in
    record {
      column = grind (arith, nat_tests, column);
      inputs = grind (arith, nat_tests, inputs);
      addresses = few_addresses t.opening c.0;
      in_column = λ h. column_alone t.opening (wants_column t.phase) t.is_empty d.0 h;
      nothing = λ h. empty_alone t.opening (wants_column t.phase) t.is_empty d.0 h;
      outside = λ h. is_at_rest t.phase (if_so t.is_empty (is_outside t.phase) f.0 h);
      features = λ h. few_inputs t.inputs (if_so (takes_features t.phase) (nat_lt t.inputs 4) f.1 h);
    }

-- ---- a LUN

small_column : (o : Option ℕ) → given_fits o ≡ true → IfSome o (λ from. from < 2 ^ 16)
small_column None h = tt
small_column (Some x) h = grind (arith, nat_tests, h)

lun_is : (g : Parts) (v : LunView) → lun_fits g v ≡ true → LunFits g v
lun_is g v e =
    let a = and_parts (nat_le v.column.outputs 65536) _ e in
    let b = and_parts (given_fits v.column.given) _ a.1 in
    let c = and_parts (nat_lt v.array_page.page 4294967296) _ b.1 in
    let outputs = a.0 in
    let d = and_parts _ (nat_le (length v.held) 4) c.1 in
    let page = c.0 in
    let queue = d.0 in
    let held = d.1 in
    record {
      outputs = grind (arith, nat_tests, outputs);
      given = small_column v.column.given b.0;
      array_page = grind (arith, nat_tests, page);
      queue = grind (arith, nat_tests, queue);
      held = grind (arith, nat_tests, held);
    }

row_fits_there : (g : Parts) (t : TailFacts) (n : ℕ) (v : LunView) → (not (row_lies g t n) || row_goes g t v) ≡ true → RowFits g t n v
row_fits_there g t n v e =
    record {
      read = λ on named.
          let goes = if_both (names_row t) (names_lun g (row t) n) (row_goes g t v) e on (first (names_read t) (names_erase t) (names_program t) named) in
          let more = and_parts (not v.busy) _ (and_parts (is_row g (page_address g (row t))) _ goes).1 in
          never_both (names_read t) _ (and_parts (read_goes g t (page_address g (row t)) v) _ more.1).0 named;
      erase = λ on named.
          let goes = if_both (names_row t) (names_lun g (row t) n) (row_goes g t v) e on (third (names_read t) (names_erase t) (names_program t) named) in
          let more = and_parts (not v.busy) _ (and_parts (is_row g (page_address g (row t))) _ goes).1 in
          never_both (names_erase t) _ (and_parts (erase_goes g t (page_address g (row t)) v) _ (and_parts (read_goes g t (page_address g (row t)) v) _ more.1).1).0 named;
      program = λ on named.
          let goes = if_both (names_row t) (names_lun g (row t) n) (row_goes g t v) e on (last (names_read t) (names_erase t) (names_program t) named) in
          let more = and_parts (not v.busy) _ (and_parts (is_row g (page_address g (row t))) _ goes).1 in
          never_both (names_program t) _ (and_parts (erase_goes g t (page_address g (row t)) v) _ (and_parts (read_goes g t (page_address g (row t)) v) _ more.1).1).1 named;
    }

-- of a target that isn't shared it is the other
first_of : (shared first : Bool) → shared ≡ false → (shared || first) ≡ true → first ≡ true
first_of true first one h = cc
first_of false first one h = h

row_stands_there : (g : Parts) (t : TailFacts) (n : ℕ) (v : LunView) → (not (row_lies g t n) || row_goes g t v) ≡ true → identity_waits g t n v ≡ true → RowStands g t n v
row_stands_there g t n v e i =
    record {
      inside = λ on named. (and_parts (is_row g (page_address g (row t))) _ (if_both (names_row t) (names_lun g (row t) n) (row_goes g t v) e on named)).0;
      ready = λ on named. not_so v.busy (and_parts (not v.busy) _ (and_parts (is_row g (page_address g (row t))) _ (if_both (names_row t) (names_lun g (row t) n) (row_goes g t v) e on named)).1).0;
      identity = λ named. not_so v.busy (and_parts (not v.busy) (is_shared g || n == 0) (if_so (names_identity t) (not v.busy && (is_shared g || n == 0)) i named)).0;
      alone = λ one named.
          let zeroth = first_of (is_shared g) (n == 0) one (and_parts (not v.busy) (is_shared g || n == 0) (if_so (names_identity t) (not v.busy && (is_shared g || n == 0)) i named)).1 in
          grind (arith, nat_tests, zeroth);
    }

luns_are : (g : Parts) (t : TailFacts) (n : ℕ) (vs : List LunView) → luns_fit g t n vs ≡ true → LunsFit g t n vs
luns_are g t n [] e = tt
luns_are g t n (v ∷ vs) e =
    let rest = and_parts (lun_stands g t n v) _ e in
    let a = and_parts (lun_fits g v) _ rest.0 in
    let b = and_parts (row_stands g t n v) _ a.1 in
    (lun_is g v a.0, row_fits_there g t n v b.0, row_stands_there g t n v b.0 b.1, luns_are g t (n + 1) vs rest.1)

target_is : (g : Parts) (s : TargetView) → target_fits g s ≡ true → TargetFits g s
target_is g s e =
    let a = and_parts (tail_fits g s.tail) _ e in
    let b = and_parts (luns_fit g s.tail 0 s.luns) _ a.1 in
    let count = b.1 in
    record { tail = tail_is g s.tail a.0; luns = luns_are g s.tail 0 s.luns b.0; count = grind (arith, nat_tests, count) }

pub whole_is : (g : OnfiseqGeometry) (t : OnfiseqTarget) → InLimits (parts_of g) → IsTarget t → target_fits (parts_of g) (target_of t) ≡ true → IsWhole g t
whole_is g t limits numbers e = record { limits = limits; numbers = numbers; fits = target_is (parts_of g) (target_of t) e }

-- ---- and the other way round

alone_taken : (o : Option Opening) (w e : Bool) → (w ≡ true → o ≡ None) → (e ≡ true → o ≡ None) → (is_none o || (not w && not e)) ≡ true
alone_taken None w e a b = refl
alone_taken (Some x) true e a b = let none : Some x ≡ None = a refl in cc
alone_taken (Some x) false true a b = let none : Some x ≡ None = b refl in cc
alone_taken (Some x) false false a b = refl

rest_taken : (e : Bool) (p : DataPhase) → (e ≡ true → p ≡ phase.Outside) → (not e || is_outside p) ≡ true
rest_taken true p a = rw (a refl) refl
rest_taken false p a = refl

both_taken : (r l x : Bool) → (l ≡ true → r ≡ true → x ≡ true) → (not (r && l) || x) ≡ true
both_taken true true x a = a refl refl
both_taken true false x a = refl
both_taken false l x a = refl

never_taken : (r x : Bool) → (r ≡ true → x ≡ false) → not (r && x) ≡ true
never_taken true x a = rw (a refl) refl
never_taken false x a = refl

if_taken : (x y : Bool) → (x ≡ true → y ≡ true) → (not x || y) ≡ true
if_taken true y a = a refl
if_taken false y a = refl

not_taken : (x : Bool) → x ≡ false → not x ≡ true
not_taken x e = rw e refl

short_taken : (o : Option Opening) → IfSome o (λ x. x.addresses ≤ 5) → is_short o ≡ true
short_taken None h = refl
short_taken (Some x) h = grind (arith, nat_tests, h)

few_taken : (n : ℕ) → n < 4 → nat_lt n 4 ≡ true
few_taken n h = grind (arith, nat_tests, h)

tail_taken : (g : Parts) (t : TailFacts) → TailFits g t → tail_fits g t ≡ true
tail_taken g t f =
    let column = f.column in
    let inputs = f.inputs in
    let a : nat_lt t.column 65536 ≡ true = grind (arith, nat_tests, column) in
    let b : nat_le t.inputs (page_len g + 4) ≡ true = grind (arith, nat_tests, inputs) in
    and_from _ _ a (and_from _ _ b (and_from _ _ (short_taken t.opening f.addresses)
    (and_from _ _ (alone_taken t.opening (wants_column t.phase) t.is_empty f.in_column f.nothing)
    (and_from _ _ (rest_taken t.is_empty t.phase f.outside) (if_taken (takes_features t.phase) (nat_lt t.inputs 4) (λ h. few_taken t.inputs (f.features h)))))))

given_taken : (o : Option ℕ) → IfSome o (λ from. from < 2 ^ 16) → given_fits o ≡ true
given_taken None h = refl
given_taken (Some x) h = grind (arith, nat_tests, h)

lun_taken : (g : Parts) (v : LunView) → LunFits g v → lun_fits g v ≡ true
lun_taken g v f =
    let outputs = f.outputs in
    let page = f.array_page in
    let queue = f.queue in
    let a : nat_le v.column.outputs 65536 ≡ true = grind (arith, nat_tests, outputs) in
    let b : nat_lt v.array_page.page 4294967296 ≡ true = grind (arith, nat_tests, page) in
    let held = f.held in
    let c : nat_le (length v.queue + rooms g v.queue) 4 ≡ true = grind (arith, nat_tests, queue) in
    let d : nat_le (length v.held) 4 ≡ true = grind (arith, nat_tests, held) in
    and_from _ _ a (and_from _ _ (given_taken v.column.given f.given) (and_from _ _ b (and_from _ _ c d)))

row_taken : (g : Parts) (t : TailFacts) (n : ℕ) (v : LunView) → RowFits g t n v → RowStands g t n v → (not (row_lies g t n) || row_goes g t v) ≡ true
row_taken g t n v f s =
    both_taken (names_row t) (names_lun g (row t) n) (row_goes g t v) (λ on named.
    and_from _ _ (s.inside on named) (and_from _ _ (not_taken v.busy (s.ready on named))
    (and_from _ _ (never_taken (names_read t) _ (f.read on)) (and_from _ _ (never_taken (names_erase t) _ (f.erase on)) (never_taken (names_program t) _ (f.program on))))))

identity_taken : (g : Parts) (t : TailFacts) (n : ℕ) (v : LunView) → RowStands g t n v → identity_waits g t n v ≡ true
identity_taken g t n v s =
    if_taken (names_identity t) (not v.busy && (is_shared g || n == 0)) (λ named.
    and_from _ _ (not_taken v.busy (s.identity named)) (alone_taken (is_shared g) refl named))
  where
    alone_taken : (shared : Bool) → is_shared g ≡ shared → names_identity t ≡ true → (shared || n == 0) ≡ true
    alone_taken true e named = refl
    alone_taken false e named = let zeroth = s.alone e named in grind (arith, nat_tests, zeroth)

luns_taken : (g : Parts) (t : TailFacts) (n : ℕ) (vs : List LunView) → LunsFit g t n vs → luns_fit g t n vs ≡ true
luns_taken g t n [] f = refl
luns_taken g t n (v ∷ vs) f =
    and_from _ _ (and_from _ _ (lun_taken g v f.0) (and_from _ _ (row_taken g t n v f.1 f.2) (identity_taken g t n v f.2))) (luns_taken g t (n + 1) vs f.3)

target_taken : (g : Parts) (s : TargetView) → TargetFits g s → target_fits g s ≡ true
target_taken g s f =
    let count = f.count in
    let same : (length s.luns == g.luns) ≡ true = grind (arith, nat_tests, count) in
    and_from _ _ (tail_taken g s.tail f.tail) (and_from _ _ (luns_taken g s.tail 0 s.luns f.luns) same)

records_taken : (ls : List OnfiseqLun) → All IsRecord ls → list_all is_record ls ≡ true
records_taken [] a = refl
records_taken (l ∷ ls) a =
    let first = a 0 l (omega arith) in
    let queued = first.queued in
    let outputs = first.outputs in
    let holds = first.holds in
    let b : nat_le l.queued 4 ≡ true = grind (arith, nat_tests, queued) in
    let c : nat_lt l.outputs 9223372036854775808 ≡ true = grind (arith, nat_tests, outputs) in
    let d : nat_le l.holds 4 ≡ true = grind (arith, nat_tests, holds) in
    and_from _ _ (and_from _ _ b (and_from _ _ d c)) (records_taken ls (λ k d h. a (suc k) d (omega (arith, h))))

pub numbers_taken : (t : OnfiseqTarget) → IsTarget t → are_numbers t ≡ true
numbers_taken t n =
    let count = n.count in
    let few : nat_le t.count 4 ≡ true = grind (arith, nat_tests, count) in
    and_from _ _ few (records_taken t.luns n.luns)

pub whole_taken : WholeAreTaken
whole_taken g t w =
    let none : fault_of (parts_of g) ≡ None = (faultless (parts_of g)).1 w.limits in
    let first : is_none (fault_of (parts_of g)) ≡ true = ap is_none none in
    and_from _ _ first (and_from _ _ (numbers_taken t w.numbers) (target_taken (parts_of g) (target_of t) w.fits))
