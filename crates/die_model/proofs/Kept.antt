-- What a change of one row leaves of the pages.
use Rattle.std.proofs.Common.{◌≡◌, ℕ, ◌+◌, ◌==◌, Bool, true, false, ◌&&◌, cond, List, Option, Some, None, replicate, ltb, refl, sym, ap, ◌∙◌, arith}
use Rattle.std.proofs.lemmas.Bool.Decides.{nat_tests}
use Rattle.std.specs.declared.cmp.Ordering.{Ordering}
use Rattle.std.specs.declared.cmp.Ordering.TheVariants.{Less, Equal, Greater}
use Rattle.std.specs.Ordering.{is_eq, nat_cmp, ordering_then}
use Rattle.std.specs.BTreeMap.{is_at}
use Rattle.std.specs.Map.{lookup}
use Rattle.std.specs.Option.{unwrap_or, IsSome, is_some}
use Rattle.onfi_cycle.specs.declared.page_address.PageAddress.{PageAddress}
use Rattle.onfi_cycle.specs.Content.{and_bytes, same_page}
use Rattle.die_model.specs.Pages.{row_cmp, kept, page_in, programmed}

abbrev pub Entries : Type 0
Entries = List ((ℕ × ℕ) × List ℕ)

first_same : (a b : ℕ) (o : Ordering) → is_eq (ordering_then (nat_cmp a b) o) ≡ (b == a && is_eq o)
first_same a b Less = grind (arith, nat_tests)
first_same a b Equal = grind (arith, nat_tests)
first_same a b Greater = grind (arith, nat_tests)

second_same : (a b : ℕ) → is_eq (nat_cmp a b) ≡ (b == a)
second_same a b = grind (arith, nat_tests)

pub row_same : (at p : PageAddress) → is_at (row_cmp (at.block, at.page)) (p.block, p.page) ≡ same_page p at
row_same at p = first_same at.block p.block (nat_cmp at.page p.page) ∙ ap (λ (b : Bool). p.block == at.block && b) (second_same at.page p.page)

abbrev at_rows : ℕ → ℕ → PageAddress
at_rows b m = record { block = b; page = m }

pub same_parts : (p at : PageAddress) → same_page p at ≡ true → p ≡ at
same_parts p at h = of p.block at.block p.page at.page h
  where
    of : (b c m n : ℕ) → (b == c && m == n) ≡ true → at_rows b m ≡ at_rows c n
    of b c m n h =
        let eb : b ≡ c = grind (arith, nat_tests) in
        let em : m ≡ n = grind (arith, nat_tests) in
        ap (λ (k : ℕ). at_rows k m) eb ∙ ap (at_rows c) em

-- one row has a new value
abbrev pub ChangesAt : PageAddress → Option (List ℕ) → Entries → Entries → Type 0
ChangesAt at w old new = (q : ℕ × ℕ) → lookup (is_at (row_cmp q)) new ≡ cond (is_at (row_cmp (at.block, at.page)) q) w (lookup (is_at (row_cmp q)) old)

-- what is kept after such a change
pub kept_after : (at : PageAddress) (w : Option (List ℕ)) (old new : Entries) → ChangesAt at w old new → (p : PageAddress) → kept new p ≡ cond (same_page p at) w (kept old p)
kept_after at w old new h p = h (p.block, p.page) ∙ ap (λ (b : Bool). cond b w (kept old p)) (row_same at p)

none_of : {X : Type 0} (o : Option X) → is_some o ≡ false → o ≡ None
none_of None h = refl
none_of (Some x) h = cc

-- a page of FF is kept in a row where nothing was
pub blank_kept : (len : ℕ) (at : PageAddress) (old new : Entries) (w : List ℕ) → w ≡ replicate len 0xff → ChangesAt at (Some w) old new → is_some (kept old at) ≡ false → (p : PageAddress) → kept new p ≡ cond (same_page p at) (Some (page_in len old p)) (kept old p)
blank_kept len at old new w blank h none p = kept_after at _ old new h p ∙ of (same_page p at) refl
  where
    of : (b : Bool) → same_page p at ≡ b → cond b (Some w) (kept old p) ≡ cond b (Some (page_in len old p)) (kept old p)
    of true e = ap (λ (x : List ℕ). Some x) (blank ∙ sym (ap (λ (o : Option (List ℕ)). unwrap_or o (replicate len 0xff)) (ap (kept old) (same_parts p at e) ∙ none_of (kept old at) none)))
    of false e = refl

some_of : {X : Type 0} (o : Option X) (d : X) → is_some o ≡ true → o ≡ Some (unwrap_or o d)
some_of None d h = cc
some_of (Some x) d h = refl

-- nothing changes where it was kept before
pub still_kept : (len : ℕ) (at : PageAddress) (old : Entries) → is_some (kept old at) ≡ true → (p : PageAddress) → kept old p ≡ cond (same_page p at) (Some (page_in len old p)) (kept old p)
still_kept len at old there p = of (same_page p at) refl
  where
    of : (b : Bool) → same_page p at ≡ b → kept old p ≡ cond b (Some (page_in len old p)) (kept old p)
    of true e = some_of (kept old p) (replicate len 0xff) (ap (λ (q : PageAddress). is_some (kept old q)) (same_parts p at e) ∙ there)
    of false e = refl

-- new bytes in a row change what is kept of that page alone
pub program_kept : (at : PageAddress) (old new : Entries) (was bytes w : List ℕ) → kept old at ≡ Some was → w ≡ and_bytes was bytes → ChangesAt at (Some w) old new → (p : PageAddress) → kept new p ≡ cond (same_page p at) (programmed bytes (kept old p)) (kept old p)
program_kept at old new was bytes w is made h p = kept_after at _ old new h p ∙ of (same_page p at) refl
  where
    of : (b : Bool) → same_page p at ≡ b → cond b (Some w) (kept old p) ≡ cond b (programmed bytes (kept old p)) (kept old p)
    of true e = ap (λ (x : List ℕ). Some x) made ∙ sym (ap (programmed bytes) (ap (kept old) (same_parts p at e) ∙ is))
    of false e = refl

-- where nothing is kept nothing is programmed
pub program_none : (at : PageAddress) (old : Entries) (bytes : List ℕ) → kept old at ≡ None → (p : PageAddress) → kept old p ≡ cond (same_page p at) (programmed bytes (kept old p)) (kept old p)
program_none at old bytes none p = of (same_page p at) refl
  where
    of : (b : Bool) → same_page p at ≡ b → kept old p ≡ cond b (programmed bytes (kept old p)) (kept old p)
    of true e = let is = ap (kept old) (same_parts p at e) ∙ none in is ∙ sym (ap (programmed bytes) is)
    of false e = refl

-- the pages of a block, up to one of them
abbrev pub erased_to : Entries → ℕ → ℕ → PageAddress → Option (List ℕ)
erased_to old block k p = cond (p.block == block && ltb p.page k) None (kept old p)

pub erase_none : (old : Entries) (block : ℕ) (p : PageAddress) → kept old p ≡ erased_to old block 0 p
erase_none old block p = of (p.block == block) (ltb p.page 0) (grind (arith, nat_tests))
  where
    of : (a b : Bool) → b ≡ false → kept old p ≡ cond (a && b) None (kept old p)
    of true true h = cc
    of true false h = refl
    of false b h = refl

erase_more : {X : Type 0} (x : Option X) (a : Bool) (m k : ℕ) → cond (a && m == k) None (cond (a && ltb m k) None x) ≡ cond (a && ltb m (k + 1)) None x
erase_more x true m k = grind (arith, nat_tests)
erase_more x false m k = refl

pub erase_step : (old mid new : Entries) (block k : ℕ) → ChangesAt (record { block = block; page = k }) None mid new → ((p : PageAddress) → kept mid p ≡ erased_to old block k p) → (p : PageAddress) → kept new p ≡ erased_to old block (k + 1) p
erase_step old mid new block k h f p =
    kept_after (record { block = block; page = k }) None mid new h p
    ∙ (ap (λ (o : Option (List ℕ)). cond (p.block == block && p.page == k) None o) (f p) ∙ erase_more (kept old p) (p.block == block) p.page k)

pub some_there : {X : Type 0} (o : Option X) (x : X) → o ≡ Some x → IsSome o
some_there None x h = cc
some_there (Some y) x h = refl

-- the pages before, under the name that the value has
pub keeps_row : (len : ℕ) (at : PageAddress) (old new before : Entries) → old ≡ before → ((p : PageAddress) → kept new p ≡ cond (same_page p at) (Some (page_in len old p)) (kept old p)) → (p : PageAddress) → kept new p ≡ cond (same_page p at) (Some (page_in len before p)) (kept before p)
keeps_row len at old new before is f p = f p ∙ ap (λ (e : Entries). cond (same_page p at) (Some (page_in len e p)) (kept e p)) is
