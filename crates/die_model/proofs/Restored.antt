-- An image gives the pages of its die again.
use Rattle.std.proofs.Common.{◌≡◌, ℕ, zero, suc, ◌+◌, ◌*◌, ◌/◌, ◌%◌, ◌^◌, ◌<◌, ◌≤◌, ◌==◌, Bool, true, false, ◌&&◌, cond, not, List, [], ◌∷◌, ◌++◌, Option, Some, None, Result, Ok, Err, IfOk, length, drop, take, replicate, ltb, eq-eqb, eqb-true, refl, sym, ap, subst, ◌∙◌, arith}
use Rattle.std.proofs.lemmas.Bool.Decides.{nat_tests}
use Rattle.std.proofs.lemmas.List.Elements.{All-head, All-tail}
use Rattle.std.proofs.lemmas.Map.Keys.{sorted_head, sorted_tail}
use Rattle.std.proofs.lemmas.Nat.{div-mul-add, mod-mul-add}
use Rattle.std.proofs.Math.Nat.{mul-le-mul_right}
use Rattle.std.specs.declared.cmp.Ordering.{Ordering}
use Rattle.std.specs.declared.cmp.Ordering.TheVariants.{Less}
use Rattle.std.specs.Ordering.{nat_cmp, ordering_then, is_eq}
use Rattle.std.specs.List.{All, AllByRecursion}
use Rattle.std.specs.List.Sorted.{IsStrictlySortedBy}
use Rattle.std.specs.Map.{keys_of}
use Rattle.std.specs.Option.{unwrap_or}
use Rattle.nand_geometry.specs.declared.parts.Parts.{Parts}
use Rattle.nand_geometry.specs.declared.row_parts.RowParts.{RowParts}
use Rattle.nand_geometry.specs.Limits.{page_bits, block_bits, page_len, InLimits}
use Rattle.nand_geometry.specs.Row.{row_number, parts_of, is_inside}
use Rattle.nand_geometry.proofs.FieldLemmas.{width_fits, beside}
use Rattle.nand_geometry.proofs.RowLemmas.{row_fits}
use Rattle.onfi_cycle.specs.declared.page_address.PageAddress.{PageAddress}
use Rattle.onfi_cycle.specs.Bounds.{is_row}
use Rattle.onfi_cycle.specs.Content.{same_page}
use Rattle.onfi_cycle.specs.Effect.{page_address}
use Rattle.die_model.specs.declared.refusal.ImageFault.{ImageFault}
use Rattle.die_model.specs.Pages.{row_cmp, kept, page_in, AreInOrder}
use Rattle.die_model.specs.Image.{four, are_blank, is_written, entries_of, count_of, header, image_of}
use Rattle.die_model.specs.Loading.{first_row, first_page, first_bytes, entry_len, is_page, row_fault, or_later, entries_fault, told, page_told, image_fault, count_told, has_numbers, ArePages, Restores, ImagesRestore}
use Rattle.die_model.specs.Die.{Die}
use Rattle.die_model.proofs.Kept.{Entries, row_same, same_parts}

pub images_restore : ImagesRestore
images_restore bytes d old new r same loaded p = loaded.pages p ∙ (ap (λ (g : Parts). page_told g bytes p) same ∙ r.pages p)

-- ---- the number of a row of LUN 0

abbrev row_of : ℕ × ℕ → RowParts
row_of k = record { lun = 0; block = k.0; page = k.1 }

abbrev number : Parts → ℕ × ℕ → ℕ
number g k = row_number g (row_of k)

abbrev at : ℕ × ℕ → PageAddress
at k = record { block = k.0; page = k.1 }

-- an entry lies inside the geometry, and has the bytes of a page
record IsEntry (g : Parts) (e : (ℕ × ℕ) × List ℕ) : Type 0 where
  block : e.0.0 < g.blocks
  page : e.0.1 < g.pages
  len : length e.1 ≡ page_len g

-- the fields of a row come back from its number
record IsNumbered (g : Parts) (k : ℕ × ℕ) : Type 0 where
  back : parts_of g (number g k) ≡ row_of k
  small : number g k < 2 ^ 24
  low : k.1 < 2 ^ page_bits g

numbered : (g : Parts) (k : ℕ × ℕ) → InLimits g → k.0 < g.blocks → k.1 < g.pages → IsNumbered g k
numbered g k limits hb hp =
    let block : k.0 < 2 ^ block_bits g = omega (arith, width_fits g.blocks limits.blocks_most, hb) in
    let page : k.1 < 2 ^ page_bits g = omega (arith, width_fits g.pages (omega (arith, limits.pages_most)), hp) in
    let low : k.0 * 2 ^ page_bits g + k.1 < 2 ^ (block_bits g + page_bits g) = beside k.0 k.1 (block_bits g) (page_bits g) block page in
    let flat : number g k ≡ 0 * 2 ^ (block_bits g + page_bits g) + (k.0 * 2 ^ page_bits g + k.1) = omega arith in
    let short : number g k ≡ k.0 * 2 ^ page_bits g + k.1 = omega arith in
    let alone : k.0 ≡ 0 * 2 ^ block_bits g + k.0 = omega arith in
    let l : number g k / 2 ^ (block_bits g + page_bits g) ≡ 0 = ap (λ n. n / 2 ^ (block_bits g + page_bits g)) flat ∙ div-mul-add 0 (2 ^ (block_bits g + page_bits g)) (k.0 * 2 ^ page_bits g + k.1) low in
    let b : number g k / 2 ^ page_bits g % 2 ^ block_bits g ≡ k.0 = ap (λ n. n / 2 ^ page_bits g % 2 ^ block_bits g) short ∙ (ap (λ n. n % 2 ^ block_bits g) (div-mul-add k.0 (2 ^ page_bits g) k.1 page) ∙ (ap (λ n. n % 2 ^ block_bits g) alone ∙ mod-mul-add 0 (2 ^ block_bits g) k.0 block)) in
    let a : number g k % 2 ^ page_bits g ≡ k.1 = ap (λ n. n % 2 ^ page_bits g) short ∙ mod-mul-add k.0 (2 ^ page_bits g) k.1 page in
    record {
      back = λ i. record { lun = l i; block = b i; page = a i };
      small = row_fits g (row_of k) limits (record { lun = limits.luns_least; block = hb; page = hp });
      low = page;
    }

-- a row after another in the order has the greater number
rises : (m a b c d : ℕ) → c < m → ordering_then (nat_cmp a b) (nat_cmp c d) ≡ Less → a * m + c + 1 ≤ b * m + d
rises m a b c d low h = by (ltb a b) refl
  where
    same : ltb a b ≡ false → (a ≡ b) × (c < d)
    same q = (grind (arith, nat_tests), grind (arith, nat_tests))

    by : (t : Bool) → ltb a b ≡ t → a * m + c + 1 ≤ b * m + d
    by true q =
        let less : suc a ≤ b = grind (arith, nat_tests) in
        let most : suc a * m ≤ b * m = mul-le-mul_right m less in
        omega (arith, most, low)
    by false q =
        let s = same q in
        let e : a * m ≡ b * m = ap (λ n. n * m) s.0 in
        omega (arith, e, s.1)

-- ---- lists of entries

abbrev AreEntries : Parts → Entries → Type 0
AreEntries g [] = Unit {0}
AreEntries g (e ∷ es) = IsEntry g e × AreEntries g es

-- each row is no lower than this
abbrev AreFrom : Parts → ℕ → Entries → Type 0
AreFrom g least [] = Unit {0}
AreFrom g least (e ∷ es) = (least ≤ number g e.0) × AreFrom g least es

abbrev AreRising : Entries → Type 0
AreRising es = IsStrictlySortedBy row_cmp (keys_of es)

inside_of : (g : Parts) (pages : Entries) (e : (ℕ × ℕ) × List ℕ) → ArePages g pages → kept pages (at e.0) ≡ Some e.1 → IsEntry g e
inside_of g pages e are is = by (is_row g (at e.0)) refl
  where
    split : (b c m n : ℕ) → (ltb b c && ltb m n) ≡ true → (b < c) × (m < n)
    split b c m n h = (grind (arith, nat_tests), grind (arith, nat_tests))

    by : (t : Bool) → is_row g (at e.0) ≡ t → IsEntry g e
    by true q =
        let s = split e.0.0 g.blocks e.0.1 g.pages q in
        record { block = s.0; page = s.1; len = are.lengths (at e.0) e.1 is }
    by false q = let clash : None ≡ Some e.1 = sym (are.inside (at e.0) q) ∙ is in cc

are_entries : (g : Parts) (pages es : Entries) → ArePages g pages → All (λ e. kept pages (at e.0) ≡ Some e.1) es → AreEntries g es
are_entries g pages [] are found = tt
are_entries g pages (e ∷ es) are found =
    (inside_of g pages e are (All-head (λ e. kept pages (at e.0) ≡ Some e.1) e es found), are_entries g pages es are (All-tail (λ e. kept pages (at e.0) ≡ Some e.1) e es found))

-- the rows after the first one
later_from : (g : Parts) (e : (ℕ × ℕ) × List ℕ) (es : Entries) → e.0.1 < 2 ^ page_bits g → AllByRecursion (λ k. row_cmp e.0 k ≡ Less) (keys_of es) → AreFrom g (number g e.0 + 1) es
later_from g e [] low h = tt
later_from g e (f ∷ es) low h =
    let more = rises (2 ^ page_bits g) e.0.0 f.0.0 e.0.1 f.0.1 low h.0 in
    (omega (arith, more), later_from g e es low h.1)

rest_from : (g : Parts) (e : (ℕ × ℕ) × List ℕ) (es : Entries) → InLimits g → IsEntry g e → AreRising (e ∷ es) → AreFrom g (number g e.0 + 1) es
rest_from g e es limits is rising = later_from g e es (numbered g e.0 limits is.block is.page).low (sorted_head row_cmp e.0 (keys_of es) rising)

-- ---- the count

one_more : (b : Bool) (least n most count : ℕ) → least ≤ n → n + 1 + count ≤ most → least + (cond b 1 0 + count) ≤ most
one_more true least n most count h k = omega (arith, h, k)
one_more false least n most count h k = omega (arith, h, k)

count_small : (g : Parts) (least : ℕ) (es : Entries) → InLimits g → AreEntries g es → AreRising es → AreFrom g least es → least ≤ 16777216 → least + count_of g es ≤ 16777216
count_small g least [] limits are rising from most = omega (arith, most)
count_small g least (e ∷ es) limits are rising from most =
    let n = numbered g e.0 limits are.0.block are.0.page in
    let small = n.small in
    let rest = count_small g (number g e.0 + 1) es limits are.1 (sorted_tail row_cmp e.0 (keys_of es) rising) (rest_from g e es limits are.0 rising) (omega (arith, small)) in
    one_more (is_written g e.0 e.1) least (number g e.0) 16777216 (count_of g es) from.0 rest

-- ---- one entry

four_back : (n : ℕ) → n < 4294967296 → n % 256 + 256 * (n / 256 % 256) + 65536 * (n / 65536 % 256 + 256 * (n / 16777216 % 256)) ≡ n
four_back n h = omega (arith, h)

row_first : (n : ℕ) (rest : List ℕ) → n < 4294967296 → first_row (four n ++ rest) ≡ n
row_first n rest h = four_back n h

behind_bytes : (bytes rest : List ℕ) (n : ℕ) → length bytes ≡ n → drop n (bytes ++ rest) ≡ rest
behind_bytes [] rest zero h = refl
behind_bytes [] rest (suc n) h = cc
behind_bytes (b ∷ bytes) rest zero h = cc
behind_bytes (b ∷ bytes) rest (suc n) h = behind_bytes bytes rest n (omega (arith, h))

front_bytes : (bytes rest : List ℕ) (n : ℕ) → length bytes ≡ n → take n (bytes ++ rest) ≡ bytes
front_bytes [] rest zero h = refl
front_bytes [] rest (suc n) h = cc
front_bytes (b ∷ bytes) rest zero h = cc
front_bytes (b ∷ bytes) rest (suc n) h = ap (λ (xs : List ℕ). b ∷ xs) (front_bytes bytes rest n (omega (arith, h)))

-- what an entry tells, in front of others
record IsFirst (g : Parts) (e : (ℕ × ℕ) × List ℕ) (rest : List ℕ) : Type 0 where
  row : first_row ((four (number g e.0) ++ e.1) ++ rest) ≡ number g e.0
  behind : drop (entry_len g) ((four (number g e.0) ++ e.1) ++ rest) ≡ rest
  bytes : first_bytes g ((four (number g e.0) ++ e.1) ++ rest) ≡ e.1

is_first : (g : Parts) (e : (ℕ × ℕ) × List ℕ) (rest : List ℕ) → IsNumbered g e.0 → length e.1 ≡ page_len g → IsFirst g e rest
is_first g e rest n len =
    let small = n.small in
    record {
      row = row_first (number g e.0) (e.1 ++ rest) (omega (arith, small));
      behind = ap (λ (m : ℕ). drop m bytes) four_more ∙ behind_bytes e.1 rest (page_len g) len;
      bytes = ap (λ (m : ℕ). drop 4 (take m bytes)) four_more ∙ front_bytes e.1 rest (page_len g) len;
    }
  where
    bytes : List ℕ
    bytes = (four (number g e.0) ++ e.1) ++ rest

    four_more : entry_len g ≡ suc (suc (suc (suc (page_len g))))
    four_more = omega arith

page_there : (g : Parts) (e : (ℕ × ℕ) × List ℕ) → InLimits g → IsEntry g e → IsNumbered g e.0 → is_page g (number g e.0) ≡ true
page_there g e limits is n =
    ap (λ (p : RowParts). p.lun == 0 && is_inside g p) n.back ∙ all (ltb 0 g.luns) (ltb e.0.0 g.blocks) (ltb e.0.1 g.pages) (lt g.luns limits.luns_least) (below e.0.0 g.blocks is.block) (below e.0.1 g.pages is.page)
  where
    lt : (n : ℕ) → 1 ≤ n → ltb 0 n ≡ true
    lt n h = grind (arith, nat_tests)

    below : (a b : ℕ) → a < b → ltb a b ≡ true
    below a b h = grind (arith, nat_tests)

    all : (a b c : Bool) → a ≡ true → b ≡ true → c ≡ true → (true && ((a && b) && c)) ≡ true
    all true true true ha hb hc = refl
    all true true false ha hb hc = cc
    all true false c ha hb hc = cc
    all false b c ha hb hc = cc

not_below : (a b : ℕ) → a ≤ b → ltb b a ≡ false
not_below a b h = grind (arith, nat_tests)

-- ---- no fault

joined : (xs ys : List ℕ) → length (xs ++ ys) ≡ length xs + length ys
joined [] ys = omega arith
joined (x ∷ xs) ys = let more = joined xs ys in omega (arith, more)

-- the bytes of the entries
entries_len : (g : Parts) (es : Entries) → AreEntries g es → length (entries_of g es) ≡ count_of g es * entry_len g
entries_len g [] are = none (entry_len g)
  where
    none : (n : ℕ) → 0 ≡ 0 * n
    none n = omega arith
entries_len g (e ∷ es) are = by (is_written g e.0 e.1) (entries_len g es are.1)
  where
    none_more : (n : ℕ) → n ≡ 0 + n
    none_more n = omega arith

    by : (b : Bool) → length (entries_of g es) ≡ count_of g es * entry_len g → length (cond b (four (number g e.0) ++ e.1) [] ++ entries_of g es) ≡ (cond b 1 0 + count_of g es) * entry_len g
    by true rest =
        let l = are.0.len in
        let both = joined (four (number g e.0) ++ e.1) (entries_of g es) in
        let first = joined (four (number g e.0)) e.1 in
        omega (arith, l, both, first, rest)
    by false rest = rest ∙ ap (λ (n : ℕ). n * entry_len g) (none_more (count_of g es))

no_entry_fault : (g : Parts) (least : ℕ) (es : Entries) → InLimits g → AreEntries g es → AreRising es → AreFrom g least es → entries_fault g (count_of g es) least (entries_of g es) ≡ None
no_entry_fault g least [] limits are rising from = refl
no_entry_fault g least (e ∷ es) limits are rising from = by (is_written g e.0 e.1) (λ low h. no_entry_fault g low es limits are.1 (sorted_tail row_cmp e.0 (keys_of es) rising) h)
  where
    n : IsNumbered g e.0
    n = numbered g e.0 limits are.0.block are.0.page

    bytes : List ℕ
    bytes = (four (number g e.0) ++ e.1) ++ entries_of g es

    next : (m : ℕ) → 1 + m ≡ suc m
    next m = omega arith

    nothing : (m : ℕ) → 0 + m ≡ m
    nothing m = omega arith

    here : row_fault g least (number g e.0) ≡ None
    here = ap (λ (b : Bool). cond b (cond (ltb (number g e.0) least) (Some ImageFault.Order) None) (Some ImageFault.Row)) (page_there g e limits are.0 n) ∙ ap (λ (b : Bool). cond b (Some ImageFault.Order) None) (not_below least (number g e.0) from.0)

    by : (b : Bool) → ((low : ℕ) → AreFrom g low es → entries_fault g (count_of g es) low (entries_of g es) ≡ None) → entries_fault g (cond b 1 0 + count_of g es) least (cond b (four (number g e.0) ++ e.1) [] ++ entries_of g es) ≡ None
    by true later =
        let f = is_first g e (entries_of g es) n are.0.len in
        ap (λ (m : ℕ). entries_fault g m least bytes) (next (count_of g es))
        ∙ (ap (λ (row : ℕ). or_later (row_fault g least row) (entries_fault g (count_of g es) (row + 1) (drop (entry_len g) bytes))) f.row
        ∙ (ap (λ (o : Option ImageFault). or_later o (entries_fault g (count_of g es) (number g e.0 + 1) (drop (entry_len g) bytes))) here
        ∙ (ap (entries_fault g (count_of g es) (number g e.0 + 1)) f.behind ∙ later (number g e.0 + 1) (rest_from g e es limits are.0 rising))))
    by false later = ap (λ (m : ℕ). entries_fault g m least (entries_of g es)) (nothing (count_of g es)) ∙ later least from.1

-- ---- the bytes of each page

same_sym : (p q : PageAddress) → same_page p q ≡ same_page q p
same_sym p q = flip p.block q.block p.page q.page
  where
    one : (a b : ℕ) → (a == b) ≡ (b == a)
    one a b = grind (arith, nat_tests)

    flip : (a b c d : ℕ) → (a == b && c == d) ≡ (b == a && d == c)
    flip a b c d = ap (λ (x : Bool). x && c == d) (one a b) ∙ ap (λ (x : Bool). b == a && x) (one c d)

-- what is kept of a page, by the first entry and the others
kept_first : (e : (ℕ × ℕ) × List ℕ) (es : Entries) (p : PageAddress) → kept (e ∷ es) p ≡ cond (same_page p (at e.0)) (Some e.1) (kept es p)
kept_first e es p = ap (λ (b : Bool). cond b (Some e.1) (kept es p)) (row_same p (at e.0) ∙ same_sym (at e.0) p)

none_later : (k : ℕ × ℕ) (es : Entries) → AllByRecursion (λ j. row_cmp k j ≡ Less) (keys_of es) → kept es (at k) ≡ None
none_later k [] h = refl
none_later k (e ∷ es) h = ap (λ (o : Ordering). cond (is_eq o) (Some e.1) (kept es (at k))) h.0 ∙ none_later k es h.1

blank_is : (xs : List ℕ) → are_blank xs ≡ true → xs ≡ replicate (length xs) 255
blank_is [] h = refl
blank_is (x ∷ xs) h = by (x == 255) refl h (λ k. blank_is xs k)
  where
    by : (b : Bool) → (x == 255) ≡ b → (b && are_blank xs) ≡ true → (are_blank xs ≡ true → xs ≡ replicate (length xs) 255) → x ∷ xs ≡ 255 ∷ replicate (length xs) 255
    by true q k rest =
        let same : x ≡ 255 = eqb-true x 255 q in
        ap (λ (y : ℕ). y ∷ xs) same ∙ ap (λ (ys : List ℕ). 255 ∷ ys) (rest k)
    by false q k rest = cc

-- an entry that isn't written is of FF
unwritten : (g : Parts) (e : (ℕ × ℕ) × List ℕ) → IsEntry g e → is_written g e.0 e.1 ≡ false → e.1 ≡ replicate (page_len g) 255
unwritten g e is h = blank_is e.1 (by (ltb e.0.0 g.blocks) (ltb e.0.1 g.pages) (are_blank e.1) (below e.0.0 g.blocks is.block) (below e.0.1 g.pages is.page) h) ∙ ap (λ (n : ℕ). replicate n 255) is.len
  where
    below : (a b : ℕ) → a < b → ltb a b ≡ true
    below a b h = grind (arith, nat_tests)

    by : (a b c : Bool) → a ≡ true → b ≡ true → (a && (b && not c)) ≡ false → c ≡ true
    by true true true ha hb h = refl
    by true true false ha hb h = cc
    by true false c ha hb h = cc
    by false b c ha hb h = cc

-- one entry more in front
told_first : (g : Parts) (e : (ℕ × ℕ) × List ℕ) (es : Entries) (p : PageAddress) (before : List ℕ) → IsNumbered g e.0 → length e.1 ≡ page_len g → told g (suc (count_of g es)) ((four (number g e.0) ++ e.1) ++ entries_of g es) p before ≡ told g (count_of g es) (entries_of g es) p (cond (same_page p (at e.0)) e.1 before)
told_first g e es p before n len =
    let bytes = (four (number g e.0) ++ e.1) ++ entries_of g es in
    let f = is_first g e (entries_of g es) n len in
    let page : first_page g bytes ≡ at e.0 = ap (page_address g) f.row ∙ ap (λ (r : RowParts). record { block = r.block; page = r.page }) n.back in
    ap (λ (xs : List ℕ). told g (count_of g es) xs p (cond (same_page p (first_page g bytes)) (first_bytes g bytes) before)) f.behind
    ∙ (ap (λ (q : PageAddress). told g (count_of g es) (entries_of g es) p (cond (same_page p q) (first_bytes g bytes) before)) page
    ∙ ap (λ (xs : List ℕ). told g (count_of g es) (entries_of g es) p (cond (same_page p (at e.0)) xs before)) f.bytes)

-- an entry of another page
told_other : (g : Parts) (e : (ℕ × ℕ) × List ℕ) (es : Entries) (p : PageAddress) (before v : List ℕ) → InLimits g → IsEntry g e → (b : Bool) → same_page p (at e.0) ≡ false → told g (count_of g es) (entries_of g es) p before ≡ v → told g (cond b 1 0 + count_of g es) (cond b (four (number g e.0) ++ e.1) [] ++ entries_of g es) p before ≡ v
told_other g e es p before v limits is true q rest =
    ap (λ (n : ℕ). told g n ((four (number g e.0) ++ e.1) ++ entries_of g es) p before) (next (count_of g es))
    ∙ (told_first g e es p before (numbered g e.0 limits is.block is.page) is.len
    ∙ (ap (λ (b : Bool). told g (count_of g es) (entries_of g es) p (cond b e.1 before)) q ∙ rest))
  where
    next : (n : ℕ) → 1 + n ≡ suc n
    next n = omega arith
told_other g e es p before v limits is false q rest = ap (λ (n : ℕ). told g n (entries_of g es) p before) (same (count_of g es)) ∙ rest
  where
    same : (n : ℕ) → 0 + n ≡ n
    same n = omega arith

-- a page without an entry
told_none : (g : Parts) (es : Entries) (p : PageAddress) (before : List ℕ) → InLimits g → AreEntries g es → kept es p ≡ None → told g (count_of g es) (entries_of g es) p before ≡ before
told_none g [] p before limits are h = refl
told_none g (e ∷ es) p before limits are h = split (same_page p (at e.0)) refl (sym (kept_first e es p) ∙ h) (λ k. told_none g es p before limits are.1 k)
  where
    split : (t : Bool) → same_page p (at e.0) ≡ t → cond t (Some e.1) (kept es p) ≡ None → (kept es p ≡ None → told g (count_of g es) (entries_of g es) p before ≡ before) → told g (count_of g (e ∷ es)) (entries_of g (e ∷ es)) p before ≡ before
    split true q k rest = cc
    split false q k rest = told_other g e es p before before limits are.0 (is_written g e.0 e.1) q (rest k)

-- a page with one
told_some : (g : Parts) (es : Entries) (p : PageAddress) (before v : List ℕ) → InLimits g → AreEntries g es → AreRising es → before ≡ replicate (page_len g) 255 → kept es p ≡ Some v → told g (count_of g es) (entries_of g es) p before ≡ v
told_some g [] p before v limits are rising blank h = cc
told_some g (e ∷ es) p before v limits are rising blank h = split (same_page p (at e.0)) refl (sym (kept_first e es p) ∙ h) (λ k. told_some g es p before v limits are.1 (sorted_tail row_cmp e.0 (keys_of es) rising) blank k)
  where
    none : same_page p (at e.0) ≡ true → kept es p ≡ None
    none q = ap (kept es) (same_parts p (at e.0) q) ∙ none_later e.0 es (sorted_head row_cmp e.0 (keys_of es) rising)

    next : (n : ℕ) → 1 + n ≡ suc n
    next n = omega arith

    nothing : (n : ℕ) → 0 + n ≡ n
    nothing n = omega arith

    first : (b : Bool) → is_written g e.0 e.1 ≡ b → same_page p (at e.0) ≡ true → told g (cond b 1 0 + count_of g es) (cond b (four (number g e.0) ++ e.1) [] ++ entries_of g es) p before ≡ e.1
    first true w q =
        ap (λ (n : ℕ). told g n ((four (number g e.0) ++ e.1) ++ entries_of g es) p before) (next (count_of g es))
        ∙ (told_first g e es p before (numbered g e.0 limits are.0.block are.0.page) are.0.len
        ∙ (ap (λ (b : Bool). told g (count_of g es) (entries_of g es) p (cond b e.1 before)) q ∙ told_none g es p e.1 limits are.1 (none q)))
    first false w q =
        ap (λ (n : ℕ). told g n (entries_of g es) p before) (nothing (count_of g es))
        ∙ (told_none g es p before limits are.1 (none q) ∙ (blank ∙ sym (unwritten g e are.0 w)))

    split : (t : Bool) → same_page p (at e.0) ≡ t → cond t (Some e.1) (kept es p) ≡ Some v → (kept es p ≡ Some v → told g (count_of g es) (entries_of g es) p before ≡ v) → told g (count_of g (e ∷ es)) (entries_of g (e ∷ es)) p before ≡ v
    split true q k rest = let same : e.1 ≡ v = cc in first (is_written g e.0 e.1) refl q ∙ same
    split false q k rest = told_other g e es p before v limits are.0 (is_written g e.0 e.1) q (rest k)

told_all : (g : Parts) (pages : Entries) (p : PageAddress) → InLimits g → AreEntries g pages → AreRising pages → told g (count_of g pages) (entries_of g pages) p (replicate (page_len g) 255) ≡ page_in (page_len g) pages p
told_all g pages p limits are rising = by (kept pages p) refl
  where
    blank : List ℕ
    blank = replicate (page_len g) 255

    by : (o : Option (List ℕ)) → kept pages p ≡ o → told g (count_of g pages) (entries_of g pages) p blank ≡ unwrap_or o blank
    by None k = told_none g pages p blank limits are k
    by (Some v) k = told_some g pages p blank v limits are rising refl k

-- ---- the header

passes : (a b c d : Bool) (o : Option ImageFault) → a ≡ false → b ≡ true → c ≡ true → d ≡ true → cond a (Some ImageFault.Length) (cond (not b) (Some ImageFault.Magic) (cond (not c) (Some ImageFault.Numbers) (cond (not d) (Some ImageFault.Length) o))) ≡ o
passes true b c d o ha hb hc hd = cc
passes false false c d o ha hb hc hd = cc
passes false true false d o ha hb hc hd = cc
passes false true true false o ha hb hc hd = cc
passes false true true true o ha hb hc hd = refl

all_four : (a b c d : Bool) → a ≡ true → b ≡ true → c ≡ true → d ≡ true → (a && (b && (c && d))) ≡ true
all_four true true true true ha hb hc hd = refl
all_four true true true false ha hb hc hd = cc
all_four true true false d ha hb hc hd = cc
all_four true false c d ha hb hc hd = cc
all_four false b c d ha hb hc hd = cc

record IsHeaded (g : Parts) (n : ℕ) (es : List ℕ) : Type 0 where
  count : count_told (header g n ++ es) ≡ n
  faultless : image_fault g (header g n ++ es) ≡ entries_fault g n 0 es

headed : (g : Parts) (n : ℕ) (es : List ℕ) → InLimits g → n ≤ 16777216 → length es ≡ n * entry_len g → IsHeaded g n es
headed g n es limits small len =
    record {
      count = count;
      faultless = passes _ _ _ _ _ long refl numbers whole ∙ ap (λ (m : ℕ). entries_fault g m 0 es) count;
    }
  where
    bytes : List ℕ
    bytes = header g n ++ es

    all : length bytes ≡ 24 + length es
    all = joined (header g n) es

    count : count_told bytes ≡ n
    count = four_back n (omega (arith, small))

    high : (m : ℕ) → ltb (24 + m) 24 ≡ false
    high m = grind (arith, nat_tests)

    long : ltb (length bytes) 24 ≡ false
    long = ap (λ (m : ℕ). ltb m 24) all ∙ high (length es)

    number_back : (m : ℕ) → m < 4294967296 → (m % 256 + 256 * (m / 256 % 256) + 65536 * (m / 65536 % 256 + 256 * (m / 16777216 % 256)) == m) ≡ true
    number_back m h = eq-eqb _ m (four_back m h)

    numbers : has_numbers g bytes ≡ true
    numbers = all_four _ _ _ _ (number_back g.page_bytes (omega (arith, limits.page_bytes_most))) (number_back g.spare_bytes (omega (arith, limits.spare_bytes_most))) (number_back g.pages (omega (arith, limits.pages_most))) (number_back g.blocks (omega (arith, limits.blocks_most)))

    whole : (length bytes == 24 + count_told bytes * entry_len g) ≡ true
    whole = eq-eqb (length bytes) _ (all ∙ (ap (λ (m : ℕ). 24 + m) len ∙ ap (λ (m : ℕ). 24 + m * entry_len g) (sym count)))

-- ---- the image of a die

pub restores : (d : Die) (bytes : List ℕ) → bytes ≡ image_of d → InLimits d.geometry → ArePages d.geometry d.pages → AreInOrder d.pages → Restores bytes d
restores d bytes is limits pages order = subst (λ (xs : List ℕ). Restores xs d) (sym is)
    (record {
      faultless = h.faultless ∙ no_entry_fault g 0 d.pages limits are order.rising (from_nothing d.pages);
      pages = λ p. ap (λ (n : ℕ). told g n (entries_of g d.pages) p (replicate (page_len g) 0xff)) h.count ∙ told_all g d.pages p limits are order.rising;
      count = omega (arith, count);
    })
  where
    g : Parts
    g = d.geometry

    are : AreEntries g d.pages
    are = are_entries g d.pages d.pages pages order.found

    from_nothing : (es : Entries) → AreFrom g 0 es
    from_nothing [] = tt
    from_nothing (e ∷ es) = (omega arith, from_nothing es)

    count : 0 + count_of g d.pages ≤ 16777216
    count = count_small g 0 d.pages limits are order.rising (from_nothing d.pages) (omega arith)

    h : IsHeaded g (count_of g d.pages) (entries_of g d.pages)
    h = headed g (count_of g d.pages) (entries_of g d.pages) limits (omega (arith, count)) (entries_len g d.pages are)

pub on_both : {X E : Type 0} (r : Result X E) (P Q S : X → Type 0) → IfOk r P → IfOk r Q → ((x : X) → P x → Q x → S x) → IfOk r S
on_both (Ok x) P Q S p q f = f x p q
on_both (Err e) P Q S p q f = tt
