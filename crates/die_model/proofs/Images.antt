-- Writing and reading images, step by step.
use Rattle.std.proofs.Common.{◌≡◌, ℕ, zero, suc, ◌+◌, ◌-◌, ◌*◌, ◌/◌, ◌%◌, ◌<◌, ◌≤◌, ◌==◌, Bool, true, false, ◌&&◌, ◌||◌, cond, List, [], ◌∷◌, ◌++◌, Option, Some, None, length, drop, take, replicate, ltb, eqb, not, refl, sym, ap, ◌∙◌, arith, length-drop, length-take, subst}
use Rattle.std.specs.Option.{is_some, is_none, unwrap_or}
use Rattle.nand_geometry.specs.Row.{parts_of}
use Rattle.nand_geometry.specs.declared.parts.Parts.{Parts}
use Rattle.nand_geometry.specs.Limits.{InLimits, page_len, planes}
use Rattle.nand_geometry.specs.Page.{parameter_bytes}
use Rattle.onfi_cycle.specs.declared.page_address.PageAddress.{PageAddress}
use Rattle.onfi_cycle.specs.Content.{same_page, is_some_work}
use Rattle.onfi_cycle.specs.Bounds.{is_row}
use Rattle.onfi_cycle.specs.Effect.{page_address}
use Rattle.die_model.specs.declared.refusal.ImageFault.{ImageFault}
use Rattle.die_model.specs.declared.refusal.ImageFault.TheVariants.{Length, Magic, Numbers, Order, Row}
use Rattle.die_model.specs.Pages.{kept, page_in}
use Rattle.die_model.specs.Image.{four, is_written, count_of, header, magic}
use Rattle.die_model.specs.Loading.{first_row, first_page, first_bytes, entry_len, is_page, row_fault, or_later, entries_fault, told, are_pages, ArePages, image_fault, count_told, entries_told, has_numbers}
use Rattle.die_model.specs.Die.{Die, is_new, are_none, AreKept, are_erases, are_programs, are_written, works_of, IsDie, HasArray, HasRows, KeepsDie}
use Rattle.onfi_cycle.specs.declared.queued.Queued.{Queued}
use Rattle.onfi_cycle.specs.declared.queued.Queued.TheVariants.{Erase, Program, Read as QueuedRead}
use Rattle.die_model.proofs.Showing.{empty_is, none_is, no_works}
use Rattle.std.proofs.lemmas.List.{length-replicate}
use Rattle.onfi_cycle.specs.declared.register.Register.{Register}
use Rattle.onfi_cycle.specs.declared.register.Register.TheVariants.{Empty, Page}
use Rattle.onfi_cycle.specs.Rules.{has_some, is_empty}
use Rattle.std.specs.List.{starts_with, slice_get}
use Rattle.std.proofs.lemmas.Bool.{and_parts as first_true}
use Rattle.die_model.proofs.Kept.{Entries, ChangesAt, kept_after, same_parts}

-- ---- writing

-- four bytes tell no more of a number than this
pub four_of : (n : ℕ) → four (n % 4294967296) ≡ four n
four_of n =
    let a : n % 4294967296 % 256 ≡ n % 256 = omega arith in
    let b : n % 4294967296 / 256 % 256 ≡ n / 256 % 256 = omega arith in
    let c : n % 4294967296 / 65536 % 256 ≡ n / 65536 % 256 = omega arith in
    let d : n % 4294967296 / 16777216 % 256 ≡ n / 16777216 % 256 = omega arith in
    rw (a, b, c, d) refl

pub header_of : (g : Parts) (n m : ℕ) → m ≡ n % 4294967296 → header g m ≡ header g n
header_of g n m is = ap (λ (b : List ℕ). magic ++ four g.page_bytes ++ four g.spare_bytes ++ four g.pages ++ four g.blocks ++ b) (ap four is ∙ four_of n)

-- one more entry is counted, or none
pub count_step : (g : Parts) (count one next all : ℕ) (b bytes : List ℕ) (row : ℕ × ℕ) (rest left : Entries) → next ≡ (count + one) % 4294967296 → one ≡ count_of g ((row, b) ∷ []) → b ≡ bytes → rest ≡ (row, bytes) ∷ left → (count + count_of g rest) % 4294967296 ≡ all % 4294967296 → (next + count_of g left) % 4294967296 ≡ all % 4294967296
count_step g count one next all b bytes row rest left en eo eb er h =
    let was : (count + (cond (is_written g row bytes) 1 0 + count_of g left)) % 4294967296 ≡ all % 4294967296 = ap (λ (es : Entries). (count + count_of g es) % 4294967296) (sym er) ∙ h in
    let is : one ≡ cond (is_written g row bytes) 1 0 = eo ∙ (ap (λ (x : List ℕ). count_of g ((row, x) ∷ [])) eb ∙ no_more (cond (is_written g row bytes) 1 0)) in
    ap (λ (n : ℕ). (n + count_of g left) % 4294967296) en
    ∙ (regroup count one (count_of g left)
    ∙ (ap (λ (n : ℕ). (count + (n + count_of g left)) % 4294967296) is ∙ was))
  where
    regroup : (a b c : ℕ) → ((a + b) % 4294967296 + c) % 4294967296 ≡ (a + (b + c)) % 4294967296
    regroup a b c = omega arith

    no_more : (n : ℕ) → n + 0 ≡ n
    no_more n = omega arith

pub count_begins : (g : Parts) (es all : Entries) → es ≡ all → (0 + count_of g es) % 4294967296 ≡ count_of g all % 4294967296
count_begins g es all e = zero_more (count_of g es) ∙ ap (λ (x : Entries). count_of g x % 4294967296) e
  where
    zero_more : (n : ℕ) → (0 + n) % 4294967296 ≡ n % 4294967296
    zero_more n = omega arith

pub count_end : (g : Parts) (count all : ℕ) (rest : Entries) → count < 4294967296 → rest ≡ [] → (count + count_of g rest) % 4294967296 ≡ all % 4294967296 → count ≡ all % 4294967296
count_end g count all rest fits er h = small count fits ∙ (ap (λ (es : Entries). (count + count_of g es) % 4294967296) (sym er) ∙ h)
  where
    small : (n : ℕ) → n < 4294967296 → n ≡ (n + 0) % 4294967296
    small n h = omega (arith, h)

-- ---- putting a page in place

pub put_kept : (at : PageAddress) (old new before : Entries) (w bytes : List ℕ) → old ≡ before → w ≡ bytes → ChangesAt at (Some w) old new → (p : PageAddress) → kept new p ≡ cond (same_page p at) (Some bytes) (kept before p)
put_kept at old new before w bytes eo ew h p =
    kept_after at (Some w) old new h p
    ∙ (ap (λ (x : List ℕ). cond (same_page p at) (Some x) (kept old p)) ew ∙ ap (λ (e : Entries). cond (same_page p at) (Some bytes) (kept e p)) eo)

-- ---- the first fault

-- what is left of the entries has the fault of all of them
pub record IsFaultSoFar (g : Parts) (count k least : ℕ) (rest all : List ℕ) : Type 0 where
  pub so_far : entries_fault g (count - k) least rest ≡ entries_fault g count 0 all
  pub room : length rest ≡ (count - k) * entry_len g

pub fault_begins : (g : Parts) (count : ℕ) (all : List ℕ) → length all ≡ count * entry_len g → IsFaultSoFar g count 0 0 all all
fault_begins g count all room =
    let whole : count - 0 ≡ count = omega arith in
    record { so_far = rw whole refl; room = rw whole room }

pub has_room : (g : Parts) (count k least : ℕ) (rest all : List ℕ) → k < count → IsFaultSoFar g count k least rest all → entry_len g ≤ length rest
has_room g count k least rest all low before =
    let left : count - k ≡ suc (count - (k + 1)) = omega arith in
    let room : length rest ≡ suc (count - (k + 1)) * entry_len g = before.room ∙ ap (λ (n : ℕ). n * entry_len g) left in
    omega (arith, room)

some_first : (o later : Option ImageFault) → is_some o ≡ true → o ≡ or_later o later
some_first None later h = cc
some_first (Some fault) later h = refl

none_first : (o later : Option ImageFault) → is_some o ≡ false → or_later o later ≡ later
none_first None later h = refl
none_first (Some fault) later h = cc

-- a fault that is found is the first one
pub fault_here : (g : Parts) (count k least row : ℕ) (rest all : List ℕ) (o : Option ImageFault) → k < count → row ≡ first_row rest → o ≡ row_fault g least row → is_some o ≡ true → IsFaultSoFar g count k least rest all → o ≡ entries_fault g count 0 all
fault_here g count k least row rest all o low er eo is before =
    let left : count - k ≡ suc (count - (k + 1)) = omega arith in
    let later : Option ImageFault = entries_fault g (count - (k + 1)) (first_row rest + 1) (drop (entry_len g) rest) in
    some_first o later is
    ∙ (ap (λ (x : Option ImageFault). or_later x later) (eo ∙ ap (row_fault g least) er) ∙ (sym (ap (λ (n : ℕ). entries_fault g n least rest) left) ∙ before.so_far))

-- without one the next entry is looked at
pub fault_later : (g : Parts) (count k least row next len : ℕ) (rest all behind : List ℕ) (o : Option ImageFault) → k < count → row ≡ first_row rest → next ≡ row → len ≡ entry_len g → behind ≡ drop len rest → o ≡ row_fault g least row → false ≡ is_some o → IsFaultSoFar g count k least rest all → IsFaultSoFar g count (k + 1) (next + 1) behind all
fault_later g count k least row next len rest all behind o low er en el eb eo is before =
    let left : count - k ≡ suc (count - (k + 1)) = omega arith in
    let room : length rest ≡ suc (count - (k + 1)) * entry_len g = before.room ∙ ap (λ (n : ℕ). n * entry_len g) left in
    let later : Option ImageFault = entries_fault g (count - (k + 1)) (first_row rest + 1) (drop (entry_len g) rest) in
    let gone : behind ≡ drop (entry_len g) rest = eb ∙ ap (λ (n : ℕ). drop n rest) el in
    record {
      so_far = ap (λ (n : ℕ). entries_fault g (count - (k + 1)) (n + 1) behind) (en ∙ er) ∙ (ap (entries_fault g (count - (k + 1)) (first_row rest + 1)) gone
          ∙ (sym (none_first o later (sym is)) ∙ (ap (λ (x : Option ImageFault). or_later x later) (eo ∙ ap (row_fault g least) er) ∙ (sym (ap (λ (n : ℕ). entries_fault g n least rest) left) ∙ before.so_far))));
      room = ap (λ (x : List ℕ). length x) gone ∙ less (count - (k + 1)) (entry_len g) rest room;
    }
  where
    less : (n size : ℕ) (xs : List ℕ) → length xs ≡ suc n * size → length (drop size xs) ≡ n * size
    less n size xs h = length-drop size xs ∙ omega (arith, h)

pub no_fault : (g : Parts) (count k least : ℕ) (rest all : List ℕ) → count ≤ k → IsFaultSoFar g count k least rest all → None ≡ entries_fault g count 0 all
no_fault g count k least rest all high before =
    let left : count - k ≡ 0 = omega arith in
    sym (ap (λ (n : ℕ). entries_fault g n least rest) left) ∙ before.so_far

-- ---- the pages

row_is_page : (g : Parts) (least row : ℕ) → row_fault g least row ≡ None → is_page g row ≡ true
row_is_page g least row h = of (is_page g row) (ltb row least) h
  where
    of : (b c : Bool) → cond b (cond c (Some Order) None) (Some Row) ≡ None → b ≡ true
    of true c h = refl
    of false c h = cc

both_none : (o later : Option ImageFault) → or_later o later ≡ None → (o ≡ None) × (later ≡ None)
both_none None later h = (refl, h)
both_none (Some fault) later h = cc

-- entries without a fault are of pages
pub pages_of_none : (g : Parts) (count least : ℕ) (entries : List ℕ) → entries_fault g count least entries ≡ None → are_pages g count entries ≡ true
pages_of_none g zero least entries h = refl
pages_of_none g (suc count) least entries h =
    let none = both_none (row_fault g least (first_row entries)) (entries_fault g count (first_row entries + 1) (drop (entry_len g) entries)) h in
    ap (λ (b : Bool). b && are_pages g count (drop (entry_len g) entries)) (row_is_page g least (first_row entries) none.0) ∙ pages_of_none g count (first_row entries + 1) (drop (entry_len g) entries) none.1

page_is_row : (g : Parts) (row : ℕ) → is_page g row ≡ true → is_row g (page_address g row) ≡ true
page_is_row g row h = of ((parts_of g row).lun == 0) (ltb (parts_of g row).lun g.luns) (ltb (parts_of g row).block g.blocks) (ltb (parts_of g row).page g.pages) h
  where
    of : (a b c d : Bool) → (a && (b && c && d)) ≡ true → (c && d) ≡ true
    of true true c d h = h
    of true false c d h = cc
    of false b c d h = cc

-- a page that is put in place leaves pages of the geometry
more_pages : (g : Parts) (at : PageAddress) (bytes : List ℕ) (old new : Entries) → is_row g at ≡ true → length bytes ≡ page_len g → ((p : PageAddress) → kept new p ≡ cond (same_page p at) (Some bytes) (kept old p)) → ArePages g old → ArePages g new
more_pages g at bytes old new row len put are =
    record {
      inside = λ p out. put p ∙ outside p out (same_page p at) refl;
      lengths = λ p x is. same p x (same_page p at) (sym (put p) ∙ is);
    }
  where
    outside : (p : PageAddress) → is_row g p ≡ false → (b : Bool) → same_page p at ≡ b → cond b (Some bytes) (kept old p) ≡ None
    outside p out true e = let clash : true ≡ false = sym row ∙ (sym (ap (is_row g) (same_parts p at e)) ∙ out) in cc
    outside p out false e = are.inside p out

    same : (p : PageAddress) (x : List ℕ) (b : Bool) → cond b (Some bytes) (kept old p) ≡ Some x → length x ≡ page_len g
    same p x true e = let is : bytes ≡ x = cc in sym (ap (λ (y : List ℕ). length y) is) ∙ len
    same p x false e = are.lengths p x e

-- the entries before are kept, and what the rest tells over them is what all tell
pub record IsKeptSoFar (g : Parts) (count k : ℕ) (rest all : List ℕ) (pages : Entries) : Type 0 where
  pub so_far : (p : PageAddress) → told g (count - k) rest p (page_in (page_len g) pages p) ≡ told g count all p (replicate (page_len g) 0xff)
  pub room : length rest ≡ (count - k) * entry_len g
  pub left : are_pages g (count - k) rest ≡ true
  pub are : ArePages g pages

pub keeping_begins : (g : Parts) (count : ℕ) (all : List ℕ) (pages : Entries) → pages ≡ [] → length all ≡ count * entry_len g → are_pages g count all ≡ true → IsKeptSoFar g count 0 all all pages
keeping_begins g count all pages none room are =
    let whole : count - 0 ≡ count = omega arith in
    record {
      so_far = λ p. ap (λ (n : ℕ). told g n all p (page_in (page_len g) pages p)) whole ∙ ap (λ (e : Entries). told g count all p (page_in (page_len g) e p)) none;
      room = rw whole room;
      left = rw whole are;
      are = record { inside = λ p out. ap (λ (e : Entries). kept e p) none; lengths = λ p x is. absurd (empty p x (sym (ap (λ (e : Entries). kept e p) none) ∙ is)) };
    }
  where
    empty : (p : PageAddress) (x : List ℕ) → kept [] p ≡ Some x → ⊥
    empty p x h = cc

pub room_to_keep : (g : Parts) (count k : ℕ) (rest all : List ℕ) (pages : Entries) → k < count → IsKeptSoFar g count k rest all pages → entry_len g ≤ length rest
room_to_keep g count k rest all pages low before =
    let left : count - k ≡ suc (count - (k + 1)) = omega arith in
    let room : length rest ≡ suc (count - (k + 1)) * entry_len g = before.room ∙ ap (λ (n : ℕ). n * entry_len g) left in
    omega (arith, room)

pub keeps_entry : (g : Parts) (count k row : ℕ) (rest all behind : List ℕ) (at : PageAddress) (bytes : List ℕ) (old new : Entries) → k < count → row ≡ first_row rest → at ≡ page_address g row → bytes ≡ first_bytes g rest → behind ≡ drop (entry_len g) rest → ((p : PageAddress) → kept new p ≡ cond (same_page p at) (Some bytes) (kept old p)) → IsKeptSoFar g count k rest all old → IsKeptSoFar g count (k + 1) behind all new
keeps_entry g count k row rest all behind at bytes old new low er ea eb ed put before =
    let left : count - k ≡ suc (count - (k + 1)) = omega arith in
    let room : length rest ≡ suc (count - (k + 1)) * entry_len g = before.room ∙ ap (λ (n : ℕ). n * entry_len g) left in
    let pages : is_page g (first_row rest) && are_pages g (count - (k + 1)) (drop (entry_len g) rest) ≡ true = sym (ap (λ (n : ℕ). are_pages g n rest) left) ∙ before.left in
    let two = first_true _ _ pages in
    let there : at ≡ first_page g rest = ea ∙ ap (page_address g) er in
    record {
      so_far = λ p. ap (λ (x : List ℕ). told g (count - (k + 1)) x p (page_in (page_len g) new p)) ed
          ∙ (ap (told g (count - (k + 1)) (drop (entry_len g) rest) p) (now p (same_page p at) (put p) ∙ (ap (λ (q : PageAddress). cond (same_page p q) bytes (page_in (page_len g) old p)) there ∙ ap (λ (x : List ℕ). cond (same_page p (first_page g rest)) x (page_in (page_len g) old p)) eb))
          ∙ (sym (ap (λ (n : ℕ). told g n rest p (page_in (page_len g) old p)) left) ∙ before.so_far p));
      room = ap (λ (x : List ℕ). length x) ed ∙ less (count - (k + 1)) (entry_len g) rest room;
      left = ap (are_pages g (count - (k + 1))) ed ∙ two.1;
      are = more_pages g at bytes old new (ap (is_row g) there ∙ page_is_row g (first_row rest) two.0) (ap (λ (x : List ℕ). length x) eb ∙ wide (page_len g) (count - (k + 1)) rest room) put before.are;
    }
  where
    less : (n size : ℕ) (xs : List ℕ) → length xs ≡ suc n * size → length (drop size xs) ≡ n * size
    less n size xs h = length-drop size xs ∙ omega (arith, h)

    wide : (len n : ℕ) (xs : List ℕ) → length xs ≡ suc n * (4 + len) → length (drop 4 (take (4 + len) xs)) ≡ len
    wide len n xs h = length-drop 4 (take (4 + len) xs) ∙ (let t = length-take (4 + len) xs in omega (arith, h, t))

    now : (p : PageAddress) (b : Bool) → kept new p ≡ cond b (Some bytes) (kept old p) → page_in (page_len g) new p ≡ cond b bytes (page_in (page_len g) old p)
    now p true e = ap (λ (o : Option (List ℕ)). unwrap_or o (replicate (page_len g) 0xff)) e
    now p false e = ap (λ (o : Option (List ℕ)). unwrap_or o (replicate (page_len g) 0xff)) e

pub keeping_ends : (g : Parts) (count k : ℕ) (rest all : List ℕ) (pages : Entries) → count ≤ k → IsKeptSoFar g count k rest all pages → (p : PageAddress) → page_in (page_len g) pages p ≡ told g count all p (replicate (page_len g) 0xff)
keeping_ends g count k rest all pages high before p =
    let left : count - k ≡ 0 = omega arith in
    sym (ap (λ (n : ℕ). told g n rest p (page_in (page_len g) pages p)) left) ∙ before.so_far p

-- an image without a fault has entries without one
pub faultless : (g : Parts) (bytes : List ℕ) → image_fault g bytes ≡ None → entries_fault g (count_told bytes) 0 (entries_told bytes) ≡ None
faultless g bytes h = of (ltb (length bytes) 24) (starts_with eqb bytes magic) (has_numbers g bytes) (length bytes == 24 + count_told bytes * entry_len g) (entries_fault g (count_told bytes) 0 (entries_told bytes)) h
  where
    of : (a b c d : Bool) (o : Option ImageFault) → cond a (Some Length) (cond (not b) (Some Magic) (cond (not c) (Some Numbers) (cond (not d) (Some Length) o))) ≡ None → o ≡ None
    of true b c d o h = cc
    of false false c d o h = cc
    of false true false d o h = cc
    of false true true false o h = cc
    of false true true true o h = h

-- what a new die hasn't
pub record IsFresh (d : Die) : Type 0 where
  pub register : d.register ≡ Empty
  pub queued : d.queued ≡ []
  pub pending : d.pending ≡ []
  pub in_array : d.in_array ≡ []

pub fresh : (d : Die) → is_new d ≡ true → IsFresh d
fresh d new =
    let a = first_true (not d.busy) _ new in
    let b = first_true (not d.array_busy) _ a.1 in
    let c = first_true (is_none d.closer) _ b.1 in
    let e = first_true (is_empty d.register) _ c.1 in
    let n = first_true (are_none d.held) _ e.1 in
    let f = first_true (not (has_some d.queued)) _ n.1 in
    let h = first_true (not (has_some d.pending)) _ f.1 in
    let k = first_true (not (is_some_work d.in_array)) _ h.1 in
    record { register = empty_is d.register e.0; queued = none_is d.queued f.0; pending = none_is d.pending h.0; in_array = no_works d.in_array k.0 }

-- nothing waits on it
pub none_waits : (closed : Bool) (queue : List Queued) → cond closed [] queue ≡ [] → cond closed queue [] ≡ [] → queue ≡ []
none_waits true queue a b = b
none_waits false queue a b = a

-- nor in its array
pub none_in_array : (g : Parts) (registers : List (List ℕ)) (rows : List Queued) → are_written rows ≡ true → works_of g registers rows ≡ [] → rows ≡ []
none_in_array g registers [] w h = refl
none_in_array g registers (Erase q ∷ rows) w h = cc
none_in_array g registers (Program q ∷ rows) w h = cc
none_in_array g registers (QueuedRead q ∷ rows) w h = cc

-- the die with other pages, where nothing waits
pub loaded_is_die : (g : Parts) (parameters : List ℕ) (old new : Entries) (registers : List (List ℕ)) (queue : List Queued) (closed busy : Bool) → AreKept new queue → ArePages g new → IsDie g parameters old registers queue closed busy → IsDie g parameters new registers queue closed busy
loaded_is_die g parameters old new registers queue closed busy there are die =
    record {
      limits = die.limits;
      copies = die.copies;
      rows = record { inside = are.inside; lengths = are.lengths; count = die.rows.count; widths = die.rows.widths };
      there = there;
      alike = die.alike;
      works = die.works;
      some = die.some;
    }

-- and what its array goes on with
pub loaded_array : (g : Parts) (old new : Entries) (registers : List (List ℕ)) (rows : List Queued) → rows ≡ [] → ArePages g new → HasArray g old registers rows → HasArray g new registers rows
loaded_array g old new registers rows none are array =
    record {
      rows = record { inside = are.inside; lengths = are.lengths; count = array.rows.count; widths = array.rows.widths };
      there = subst (AreKept new) (sym none) tt;
      programs = array.programs;
    }

-- a new die shows no page
pub shows_none : (r : Register) → r ≡ Empty → (at : PageAddress) → r ≡ Page at → ⊥
shows_none r empty at page = of (sym empty ∙ page)
  where
    of : Empty ≡ Page at → ⊥
    of e = cc

-- 3. a die fresh from the factory

same_replicated : {A : Type 0} (n k : ℕ) (x y : A) → slice_get (replicate n x) k ≡ Some y → y ≡ x
same_replicated zero k x y h = cc
same_replicated (suc n) zero x y h = cc
same_replicated (suc n) (suc k) x y h = same_replicated n k x y h

blank_rows : (g : Parts) → HasRows g [] (replicate (planes g) (replicate (page_len g) 0xff))
blank_rows g =
    record {
      inside = λ p h. refl;
      lengths = λ p bytes h. cc;
      count = length-replicate (planes g) (replicate (page_len g) 0xff);
      widths = λ k bytes h. ap length (same_replicated (planes g) k (replicate (page_len g) 0xff) bytes h) ∙ length-replicate (page_len g) 0xff;
    }

-- its registers under the names of the code
blank_so : (g : Parts) (n len : ℕ) (pages : Entries) (registers : List (List ℕ)) → n ≡ planes g → len ≡ page_len g → pages ≡ [] → registers ≡ replicate n (replicate len 0xff) → HasRows g pages registers
blank_so g n len pages registers en el ep er =
    subst (λ (e : Entries). HasRows g e registers) (sym ep)
    (subst (HasRows g []) (sym (er ∙ (λ i. replicate (en i) (replicate (el i) 0xff)))) (blank_rows g))

pub new_keeps : (g : Parts) (n len : ℕ) (parameters : List ℕ) (pages : Entries) (registers array_registers : List (List ℕ)) (queue in_array : List Queued) (output : List ℕ) → InLimits g → parameters ≡ parameter_bytes g → n ≡ planes g → len ≡ page_len g → pages ≡ [] → registers ≡ replicate n (replicate len 0xff) → array_registers ≡ replicate n (replicate len 0xff) → queue ≡ [] → in_array ≡ [] → output ≡ replicate len 0xff
    → KeepsDie g parameters pages registers array_registers queue in_array false false None Empty output
new_keeps g n len parameters pages registers array_registers queue in_array output limits copies en el ep er ea eq ei eo =
    record {
      die = record {
        limits = limits;
        copies = copies;
        rows = blank_so g n len pages registers en el ep er;
        there = subst (AreKept pages) (sym eq) tt;
        alike = ap (λ (q : List Queued). are_erases q || are_programs q) eq;
        works = λ h. cc;
        some = λ h. cc;
      };
      array = record { rows = blank_so g n len pages array_registers en el ep ea; there = subst (AreKept pages) (sym ei) tt; programs = ap are_written ei };
      closed_by = record { queued = λ h. refl; cached = λ h k. cc };
      shows = record { page = λ at is. absurd (shows_none Empty refl at is); width = ap length eo ∙ (length-replicate len 0xff ∙ el) };
    }
