-- The pages that are held for copies fit what is claimed of them: what each step leaves.
use Rattle.std.proofs.Common.{◌≡◌, ℕ, zero, suc, ◌+◌, ◌*◌, ◌/◌, ◌%◌, ◌≤◌, ◌<◌, ◌==◌, Bool, true, false, ◌||◌, ◌&&◌, cond, not, List, [], ◌∷◌, ◌++◌, Option, Some, None, refl, sym, ap, ◌∙◌, subst, arith, eqb-true, eq-eqb, length, take, inl, inr, ◌^◌}
use Rattle.std.proofs.lemmas.Bool.{and_parts, or_left, or_right, or_cases, not-true}
use Rattle.std.proofs.lemmas.Bool.Decides.{nat_tests}
use Rattle.std.proofs.Math.Nat.{div-add-mod}
use Rattle.nand_geometry.specs.declared.parts.Parts.{Parts}
use Rattle.nand_geometry.specs.Limits.{InLimits, planes}
use Rattle.onfi_cycle.specs.declared.command.Command.{Command}
use Rattle.onfi_cycle.specs.declared.command.Command.TheVariants.{CopybackRead, ProgramPlane}
use Rattle.onfi_cycle.specs.declared.page_address.PageAddress.{PageAddress}
use Rattle.onfi_cycle.specs.declared.queued.Queued.{Queued}
use Rattle.onfi_cycle.specs.declared.queued.Queued.TheVariants.{Erase, Program, Read as QueuedRead}
use Rattle.onfi_cycle.specs.Lun.{is_queued_read, is_copyback_read, pages_of_reads, page_in_plane, of_other_planes, held_on}
use Rattle.onfi_cycle.specs.Rules.{has_some}
use Rattle.micro_claims.specs.Planes.{Planes, has_plane, no_planes, either_plane, other_planes, share_a_plane, is_one_plane, sure_plane, are_planes_within}
use Rattle.micro_claims.specs.State.{KnownLun, NamedRow, Drift, QueuedRows, NoRows, SomeRows, SomeReads, AnyRows, Copies, no_copies, uncopied}
use Rattle.micro_claims.specs.Against.{may_be_queued}
use Rattle.micro_claims.specs.Copies.{parity_of, if_even, if_odd, copies_moved, copies_queued, copies_cleared, first_copies, more_copies}
use Rattle.micro_claims.specs.Leaves.{same_drift, gathers, copied_beside, alike_beside, held_by_copy, copies_read}
use Rattle.micro_program.specs.Program.{Job}
use Rattle.micro_claims.proofs.Sets.{has_more}
use Rattle.micro_claims.proofs.PlaneSets.{among_first, among_second, either_has, none_has, other_is}
use Rattle.micro_claims.proofs.HeldLists.{has_page, cut_of_cut, among_more, among_all, found_first, in_front, found_in_front, others_keep, others_less, found_among_others}
use Rattle.micro_claims.proofs.HeldPlanes.{no_pages, sure_is, same_plane, apart, count_more, count_some, few_planes, few_reads, none_queued, plane_is, same_far}
use Rattle.micro_claims.proofs.Fits.{Address, RowNamed, NameFits, RowIs, DriftFits, RowFits, AllFit, HavePages, one_if, count_of, RowsFit, page_number, number_parity, HaveParity, Among, CopiesFit}

-- 1. where nothing is claimed

pub no_parity : (g : Parts) (number : ℕ) (pages : List PageAddress) → HaveParity g no_planes number pages
no_parity g number pages n h = let clash : true ≡ false = sym h ∙ none_has n in cc

pub none_among : (p : Planes) → Among no_planes p
none_among p n h = let clash : true ≡ false = sym h ∙ none_has n in cc

pub no_copies_fit : (g : Parts) (held : Planes) (index : ℕ) (closer : Option Command) → CopiesFit g no_copies held index closer []
no_copies_fit g held index closer =
    record {
      even = no_parity g (index % g.pages) [];
      odd = no_parity g (index % g.pages + 1) [];
      even_held = none_among held;
      odd_held = none_among held;
      copying = λ e. cc;
      first = λ e. cc;
      keeps = λ e. cc;
      holds = λ e. refl;
    }

pub uncopied_fit : (g : Parts) (held : Planes) (index : ℕ) (closer : Option Command) (pages : List PageAddress) → CopiesFit g uncopied held index closer pages
uncopied_fit g held index closer pages =
    record {
      even = no_parity g (index % g.pages) pages;
      odd = no_parity g (index % g.pages + 1) pages;
      even_held = none_among held;
      odd_held = none_among held;
      copying = λ e. cc;
      first = λ e. cc;
      keeps = λ e. cc;
      holds = λ e. cc;
    }

-- the row of an 80
pub cleared_fit : (g : Parts) (c : Copies) (held : Planes) (index : ℕ) (closer : Option Command) (pages : List PageAddress) → CopiesFit g c held index closer pages → CopiesFit g (copies_cleared c) no_planes index closer []
cleared_fit g c held index closer pages f =
    record {
      even = no_parity g (index % g.pages) [];
      odd = no_parity g (index % g.pages + 1) [];
      even_held = none_among no_planes;
      odd_held = none_among no_planes;
      copying = f.copying;
      first = λ e. no_pages g (take (count_of no_planes) []);
      keeps = f.keeps;
      holds = λ e. refl;
    }

-- an 11
pub queued_copies_fit : (g : Parts) (c : Copies) (held : Planes) (index : ℕ) (closer : Option Command) (pages : List PageAddress) → CopiesFit g c held index closer pages → CopiesFit g (copies_queued c) held index (Some ProgramPlane) pages
queued_copies_fit g c held index closer pages f =
    record {
      even = f.even;
      odd = f.odd;
      even_held = f.even_held;
      odd_held = f.odd_held;
      copying = λ e. cc;
      first = λ e. cc;
      keeps = λ e. refl;
      holds = f.holds;
    }

-- 2. even and odd

-- where a block has an even number of pages, a number is even where its page is
even_block : (pages n : ℕ) → pages % 2 ≡ 0 → n % pages % 2 ≡ n % 2
even_block pages n even =
    let half : pages ≡ 2 * (pages / 2) = omega (arith, even) in
    let parts = div-add-mod n pages in
    let whole : pages * (n / pages) ≡ 2 * (pages / 2 * (n / pages)) = ap (λ (m : ℕ). m * (n / pages)) half ∙ omega arith in
    omega (arith, parts, whole)

-- the parities of the pages of two rows, by how far they are from each other
far_even : (pages now index : ℕ) (o : Option Drift) → DriftFits now index o → parity_of pages o ≡ Some true → index % pages % 2 ≡ now % pages % 2
far_even pages now index None f e = cc
far_even pages now index (Some d) f e = at (d.ahead == d.behind) refl (pages % 2 == 0) refl e
  where
    at : (b : Bool) → (d.ahead == d.behind) ≡ b → (c : Bool) → (pages % 2 == 0) ≡ c → cond b (Some true) (cond c (Some ((d.ahead + d.behind) % 2 == 0)) None) ≡ Some true → index % pages % 2 ≡ now % pages % 2
    at true x c y e = let same = eqb-true d.ahead d.behind x in let is : index ≡ now = omega (arith, same, f) in ap (λ (n : ℕ). n % pages % 2) is
    at false x true y e =
        let even = eqb-true (pages % 2) 0 y in
        let far : ((d.ahead + d.behind) % 2 == 0) ≡ true = cc in
        let both = eqb-true ((d.ahead + d.behind) % 2) 0 far in
        let same : index % 2 ≡ now % 2 = omega (arith, f, both) in
        even_block pages index even ∙ (same ∙ sym (even_block pages now even))
    at false x false y e = cc

far_odd : (pages now index : ℕ) (o : Option Drift) → DriftFits now index o → parity_of pages o ≡ Some false → index % pages % 2 ≡ (now % pages + 1) % 2
far_odd pages now index None f e = cc
far_odd pages now index (Some d) f e = at (d.ahead == d.behind) refl (pages % 2 == 0) refl e
  where
    at : (b : Bool) → (d.ahead == d.behind) ≡ b → (c : Bool) → (pages % 2 == 0) ≡ c → cond b (Some true) (cond c (Some ((d.ahead + d.behind) % 2 == 0)) None) ≡ Some false → index % pages % 2 ≡ (now % pages + 1) % 2
    at true x c y e = cc
    at false x true y e =
        let even = eqb-true (pages % 2) 0 y in
        let far : ((d.ahead + d.behind) % 2 == 0) ≡ false = cc in
        let one : (d.ahead + d.behind) % 2 ≡ 1 = grind (arith, nat_tests, far) in
        let here = even_block pages index even in
        let there = even_block pages now even in
        omega (arith, f, one, here, there)
    at false x false y e = cc

same_parity : (g : Parts) (p : Planes) (m n : ℕ) (pages : List PageAddress) → m % 2 ≡ n % 2 → HaveParity g p m pages → HaveParity g p n pages
same_parity g p m n pages e f k h = f k h ∙ ap Some e

-- the index register moves from one row to another, so far
pub moved_copies_fit : (g : Parts) (c : Copies) (held : Planes) (old new : ℕ) (o : Option Drift) (closer : Option Command) (pages : List PageAddress) → DriftFits new old o → CopiesFit g c held old closer pages → CopiesFit g (copies_moved (parity_of g.pages o) c) held new closer pages
moved_copies_fit g c held old new o closer pages far f = at (parity_of g.pages o) refl
  where
    at : (b : Option Bool) → parity_of g.pages o ≡ b → CopiesFit g (copies_moved b c) held new closer pages
    at None e =
        record {
          even = no_parity g (new % g.pages) pages;
          odd = no_parity g (new % g.pages + 1) pages;
          even_held = none_among held;
          odd_held = none_among held;
          copying = f.copying;
          first = f.first;
          keeps = f.keeps;
          holds = f.holds;
        }
    at (Some true) e =
        let same = far_even g.pages new old o far e in
        record {
          even = same_parity g c.even (old % g.pages) (new % g.pages) pages same f.even;
          odd = same_parity g c.odd (old % g.pages + 1) (new % g.pages + 1) pages (omega (arith, same)) f.odd;
          even_held = f.even_held;
          odd_held = f.odd_held;
          copying = f.copying;
          first = f.first;
          keeps = f.keeps;
          holds = f.holds;
        }
    at (Some false) e =
        let other = far_odd g.pages new old o far e in
        record {
          even = same_parity g c.odd (old % g.pages + 1) (new % g.pages) pages (omega (arith, other)) f.odd;
          odd = same_parity g c.even (old % g.pages) (new % g.pages + 1) pages other f.even;
          even_held = f.odd_held;
          odd_held = f.even_held;
          copying = f.copying;
          first = f.first;
          keeps = f.keeps;
          holds = f.holds;
        }

-- the pages of these planes have this number
abbrev HaveNumber : Parts → Planes → ℕ → List PageAddress → Type 0
HaveNumber g p number pages = (n : ℕ) → has_plane n p ≡ true → page_number (page_in_plane (planes g) n pages) ≡ Some number

even_number : (g : Parts) (p : Planes) (now index : ℕ) (o : Option Drift) (pages : List PageAddress) → DriftFits now index o → HaveNumber g p (index % g.pages) pages → HaveParity g (if_even (parity_of g.pages o) p) (now % g.pages) pages
even_number g p now index o pages far f = at (parity_of g.pages o) refl
  where
    at : (b : Option Bool) → parity_of g.pages o ≡ b → HaveParity g (if_even b p) (now % g.pages) pages
    at None e = no_parity g (now % g.pages) pages
    at (Some true) e = λ n h. ap number_parity (f n h) ∙ ap Some (far_even g.pages now index o far e)
    at (Some false) e = no_parity g (now % g.pages) pages

odd_number : (g : Parts) (p : Planes) (now index : ℕ) (o : Option Drift) (pages : List PageAddress) → DriftFits now index o → HaveNumber g p (index % g.pages) pages → HaveParity g (if_odd (parity_of g.pages o) p) (now % g.pages + 1) pages
odd_number g p now index o pages far f = at (parity_of g.pages o) refl
  where
    at : (b : Option Bool) → parity_of g.pages o ≡ b → HaveParity g (if_odd b p) (now % g.pages + 1) pages
    at None e = no_parity g (now % g.pages + 1) pages
    at (Some true) e = no_parity g (now % g.pages + 1) pages
    at (Some false) e = λ n h. ap number_parity (f n h) ∙ ap Some (far_odd g.pages now index o far e)

if_even_among : (o : Option Bool) (p q : Planes) → Among p q → Among (if_even o p) q
if_even_among None p q h = none_among q
if_even_among (Some true) p q h = h
if_even_among (Some false) p q h = none_among q

if_odd_among : (o : Option Bool) (p q : Planes) → Among p q → Among (if_odd o p) q
if_odd_among None p q h = none_among q
if_odd_among (Some true) p q h = none_among q
if_odd_among (Some false) p q h = h

-- 3. how many planes

count_most : (p : Planes) → count_of p ≤ 4
count_most p = at (has_plane 0 p) (has_plane 1 p) (has_plane 2 p) (has_plane 3 p)
  where
    one : (b : Bool) → one_if b ≤ 1
    one true = omega arith
    one false = omega arith

    at : (a b c d : Bool) → one_if a + one_if b + one_if c + one_if d ≤ 4
    at a b c d = let x = one a in let y = one b in let z = one c in let w = one d in omega (arith, x, y, z, w)

count_within : (p q : Planes) → Among p q → count_of p ≤ count_of q
count_within p q h = let x = grows 0 in let y = grows 1 in let z = grows 2 in let w = grows 3 in omega (arith, x, y, z, w)
  where
    less : (a b : Bool) → (a ≡ true → b ≡ true) → one_if a ≤ one_if b
    less true b h = subst (λ (c : Bool). one_if true ≤ one_if c) (sym (h refl)) (omega arith)
    less false b h = omega arith

    grows : (i : ℕ) → one_if (has_plane i p) ≤ one_if (has_plane i q)
    grows i = less (has_plane i p) (has_plane i q) (h i)

either_within : (p q r : Planes) → Among q r → Among (either_plane p q) (either_plane p r)
either_within p q r h n e = elim (or_cases (has_plane n p) (has_plane n q) (sym (either_has n p q) ∙ e)) [
  | inl a ↦ among_first n p r a
  | inr b ↦ among_second n p r (h n b)
]

-- what both sets have
from_either : (P : ℕ → Type 0) (p q : Planes) → ((n : ℕ) → has_plane n p ≡ true → P n) → ((n : ℕ) → has_plane n q ≡ true → P n) → (n : ℕ) → has_plane n (either_plane p q) ≡ true → P n
from_either P p q f h n e = elim (or_cases (has_plane n p) (has_plane n q) (sym (either_has n p q) ∙ e)) [
  | inl a ↦ f n a
  | inr b ↦ h n b
]

-- 4. a 35 that leaves no page that was held before it

-- the page of the row lies in its plane
lies_there : (g : Parts) (j : Job) (a : Address) (p : PageAddress) → RowIs g j a → p.block ≡ a.index / g.pages * planes g + a.plane → p.block % planes g ≡ a.plane
lies_there g j a p row block = plane_is g p.block (a.index / g.pages) a.plane block row.low

own_there : (count : ℕ) (p : PageAddress) (rest : List PageAddress) (plane n : ℕ) → p.block % count ≡ plane → n ≡ plane → has_page count n (p ∷ rest) ≡ true
own_there count p rest plane n lies is = or_left (p.block % count == n) _ (eq-eqb (p.block % count) n (lies ∙ sym is))

own_found : (count : ℕ) (p : PageAddress) (rest : List PageAddress) (plane n : ℕ) → p.block % count ≡ plane → n ≡ plane → page_in_plane count n (p ∷ rest) ≡ Some p
own_found count p rest plane n lies is = ap (λ (b : Bool). cond b (Some p) (page_in_plane count n rest)) (eq-eqb (p.block % count) n (lies ∙ sym is))

-- the first of some
first_of : (count n k m : ℕ) (p : PageAddress) (rest : List PageAddress) → 1 ≤ k → 1 ≤ m → (p.block % count == n) ≡ true → has_page count n (take k (take m (p ∷ rest))) ≡ true
first_of count n zero m p rest some few h = absurd (omega (arith, some))
first_of count n (suc k) zero p rest some few h = absurd (omega (arith, few))
first_of count n (suc k) (suc m) p rest some few h = or_left (p.block % count == n) _ h

module _ (g : Parts) (l : InLimits g) (j : Job) (now : ℕ) (n : NamedRow) (a : Address) (p : PageAddress) (queue : List Queued) (more : List PageAddress) (name : RowNamed g j a now n) (row : RowIs g j a) (block : p.block ≡ a.index / g.pages * planes g + a.plane) where
  abbrev behind : List PageAddress
  behind = take 4 (p ∷ (pages_of_reads queue ++ more))

  lies : p.block % planes g ≡ a.plane
  lies = lies_there g j a p row block

  low : a.plane < 4
  low = few_planes g a.plane l row.low

  own_placed : HavePages g (sure_plane n.planes) (take (count_of (sure_plane n.planes)) behind)
  own_placed m h =
      let is = sure_is m a.plane n.planes name.plane h in
      first_of (planes g) m (count_of (sure_plane n.planes)) 4 p (pages_of_reads queue ++ more) (count_some m (sure_plane n.planes) (omega (arith, is, low)) h) (omega arith) (eq-eqb (p.block % planes g) m (lies ∙ sym is))

  -- reads of planes that differ, of each of which it is sure
  record Sure (ps surely : Planes) : Type 0 where
    one : is_one_plane n.planes ≡ true
    other : has_plane a.plane ps ≡ false
    within : Among ps surely
    few : length queue ≤ count_of ps
    pages : HavePages g surely (pages_of_reads queue)

  -- all of them come first
  few_there : (ps surely : Planes) → Sure ps surely → length (p ∷ pages_of_reads queue) ≤ count_of (either_plane n.planes surely)
  few_there ps surely f =
      let one = count_more a.plane n.planes ps low name.plane f.other in
      let all = count_within (either_plane n.planes ps) (either_plane n.planes surely) (either_within n.planes ps surely f.within) in
      let reads = few_reads queue in
      let few = f.few in
      omega (arith, one, all, reads, few)

  are_there : (ps surely : Planes) → Sure ps surely → HavePages g (either_plane n.planes surely) (p ∷ pages_of_reads queue)
  are_there ps surely f = from_either (λ (m : ℕ). has_page (planes g) m (p ∷ pages_of_reads queue) ≡ true) n.planes surely
      (λ m h. own_there (planes g) p (pages_of_reads queue) a.plane m lies (same_plane m a.plane n.planes f.one h name.plane))
      (λ m h. or_right (p.block % planes g == m) _ (f.pages m h))

  reads_placed : (ps surely : Planes) → Sure ps surely → HavePages g (either_plane n.planes surely) (take (count_of (either_plane n.planes surely)) behind)
  reads_placed ps surely f m h =
      let k = count_of (either_plane n.planes surely) in
      ap (λ (pages : List PageAddress). has_page (planes g) m pages) (cut_of_cut k 4 (p ∷ (pages_of_reads queue ++ more)) (count_most (either_plane n.planes surely)))
      ∙ in_front (planes g) m k (p ∷ pages_of_reads queue) more (few_there ps surely f) (are_there ps surely f m h)

  surely_read : (ps surely : Planes) (d : Drift) → RowsFit g now (SomeReads ps surely d) queue → (is_one_plane n.planes && (not (share_a_plane n.planes ps) && are_planes_within ps surely)) ≡ true → Sure ps surely
  surely_read ps surely d f h =
      let both = and_parts (is_one_plane n.planes) _ h in
      let rest = and_parts (not (share_a_plane n.planes ps)) (are_planes_within ps surely) both.1 in
      record {
        one = both.0;
        other = apart n.planes ps a.plane (not-true (share_a_plane n.planes ps) rest.0) name.plane;
        within = λ m e. has_more (2 ^ m) ps.0 surely.0 rest.1 e;
        few = f.few;
        pages = f.pages;
      }

  fresh_placed : (q : QueuedRows) → RowsFit g now q queue → HavePages g (copied_beside n q) (take (count_of (copied_beside n q)) behind)
  fresh_placed NoRows f = own_placed
  fresh_placed (SomeRows erase ps d) f = own_placed
  fresh_placed AnyRows f = own_placed
  fresh_placed (SomeReads ps surely d) f = at (is_one_plane n.planes && (not (share_a_plane n.planes ps) && are_planes_within ps surely)) refl
    where
      at : (b : Bool) → (is_one_plane n.planes && (not (share_a_plane n.planes ps) && are_planes_within ps surely)) ≡ b → HavePages g (cond b (either_plane n.planes surely) (sure_plane n.planes)) (take (count_of (cond b (either_plane n.planes surely) (sure_plane n.planes))) behind)
      at false e = own_placed
      at true e = reads_placed ps surely (surely_read ps surely d f e)

  -- their number is that of the row
  own_number : p.page ≡ a.index % g.pages → HaveNumber g (sure_plane n.planes) (a.index % g.pages) behind
  own_number page m h = ap page_number (own_found (planes g) p (take 3 (pages_of_reads queue ++ more)) a.plane m lies (sure_is m a.plane n.planes name.plane h)) ∙ ap Some page

  abbrev AllNumber : List PageAddress → Type 0
  AllNumber [] = Unit {0}
  AllNumber (q ∷ pages) = (q.page ≡ a.index % g.pages) × AllNumber pages

  number_found : (pages : List PageAddress) (m : ℕ) → AllNumber pages → has_page (planes g) m pages ≡ true → page_number (page_in_plane (planes g) m pages) ≡ Some (a.index % g.pages)
  number_found [] m f h = cc
  number_found (q ∷ pages) m f h = at (q.block % planes g == m) h (number_found pages m f.1)
    where
      at : (b : Bool) → (b || has_page (planes g) m pages) ≡ true → (has_page (planes g) m pages ≡ true → page_number (page_in_plane (planes g) m pages) ≡ Some (a.index % g.pages)) → page_number (cond b (Some q) (page_in_plane (planes g) m pages)) ≡ Some (a.index % g.pages)
      at true h rest = ap Some f.0
      at false h rest = rest h

  reads_number : (ps : Planes) (d : Drift) → now + d.behind ≡ a.index + d.ahead → (qs : List Queued) → AllFit (RowFits g now is_queued_read ps d) qs → AllNumber (pages_of_reads qs)
  reads_number ps d far [] f = tt
  reads_number ps d far (Erase q ∷ qs) f = reads_number ps d far qs f.1
  reads_number ps d far (Program q ∷ qs) f = reads_number ps d far qs f.1
  reads_number ps d far (QueuedRead q ∷ qs) f =
      let there = f.0.drift in
      let same : f.0.index ≡ a.index = omega (arith, far, there) in
      (f.0.page ∙ ap (λ (i : ℕ). i % g.pages) same, reads_number ps d far qs f.1)

  fresh_number : (q : QueuedRows) → p.page ≡ a.index % g.pages → RowsFit g now q queue → HaveNumber g (alike_beside n q) (a.index % g.pages) behind
  fresh_number NoRows page f = own_number page
  fresh_number (SomeRows erase ps d) page f = own_number page
  fresh_number AnyRows page f = own_number page
  fresh_number (SomeReads ps surely d) page f = alike (same_drift n.drift d) refl
    where
      sure : same_drift n.drift d ≡ true → Sure ps surely → HaveNumber g (either_plane n.planes surely) (a.index % g.pages) behind
      sure same s m h =
          let k = count_most (either_plane n.planes surely) in
          let few = few_there ps surely s in
          ap page_number (found_in_front (planes g) m 4 (p ∷ pages_of_reads queue) more (omega (arith, k, few)) (are_there ps surely s m h))
          ∙ number_found (p ∷ pages_of_reads queue) m (page, reads_number ps d (same_far now a.index n.drift d same name.drift) queue f.all) (are_there ps surely s m h)

      at : (b : Bool) → same_drift n.drift d ≡ true → (is_one_plane n.planes && (not (share_a_plane n.planes ps) && are_planes_within ps surely)) ≡ b → HaveNumber g (cond b (either_plane n.planes surely) (sure_plane n.planes)) (a.index % g.pages) behind
      at false same e = own_number page
      at true same e = sure same (surely_read ps surely d f e)

      alike : (b : Bool) → same_drift n.drift d ≡ b → HaveNumber g (cond b (copied_beside n (SomeReads ps surely d)) (sure_plane n.planes)) (a.index % g.pages) behind
      alike false e = own_number page
      alike true e = at (is_one_plane n.planes && (not (share_a_plane n.planes ps) && are_planes_within ps surely)) e refl

-- of those that are as far, all are held
alike_among : (n : NamedRow) (q : QueuedRows) → Among (alike_beside n q) (copied_beside n q)
alike_among n NoRows = λ m h. h
alike_among n (SomeRows erase ps d) = λ m h. h
alike_among n AnyRows = λ m h. h
alike_among n (SomeReads ps surely d) = at (same_drift n.drift d) (is_one_plane n.planes) refl (not (share_a_plane n.planes ps) && are_planes_within ps surely)
  where
    at : (b c : Bool) → is_one_plane n.planes ≡ c → (e : Bool) → Among (cond b (cond (c && e) (either_plane n.planes surely) (sure_plane n.planes)) (sure_plane n.planes)) (cond (c && e) (either_plane n.planes surely) (sure_plane n.planes))
    at true c f e = λ m h. h
    at false false f e = λ m h. h
    at false true f false = λ m h. h
    at false true f true = λ m h. among_first m n.planes surely (subst (λ (b : Bool). has_plane m (cond b n.planes no_planes) ≡ true) f h)

first_fit : (g : Parts) (l : InLimits g) (j : Job) (now : ℕ) (q : QueuedRows) (n : NamedRow) (a : Address) (p : PageAddress) (queue : List Queued) (more : List PageAddress) → RowNamed g j a now n → RowIs g j a → p.page ≡ a.index % g.pages → p.block ≡ a.index / g.pages * planes g + a.plane → RowsFit g now q queue → CopiesFit g (first_copies (parity_of g.pages n.drift) (alike_beside n q)) (copied_beside n q) now (Some CopybackRead) (take 4 (p ∷ (pages_of_reads queue ++ more)))
first_fit g l j now q n a p queue more name row page block f =
    let number = fresh_number g l j now n a p queue more name row block q page f in
    let pages = take 4 (p ∷ (pages_of_reads queue ++ more)) in
    record {
      even = even_number g (alike_beside n q) now a.index n.drift pages name.drift number;
      odd = odd_number g (alike_beside n q) now a.index n.drift pages name.drift number;
      even_held = if_even_among (parity_of g.pages n.drift) (alike_beside n q) (copied_beside n q) (alike_among n q);
      odd_held = if_odd_among (parity_of g.pages n.drift) (alike_beside n q) (copied_beside n q) (alike_among n q);
      copying = λ e. refl;
      first = λ e. fresh_placed g l j now n a p queue more name row block q f;
      keeps = λ e. refl;
      holds = λ e. cc;
    }

-- nothing is known of the planes
nothing_fit : (g : Parts) (planes : Planes) (now : ℕ) (pages : List PageAddress) → CopiesFit g (first_copies None planes) no_planes now (Some CopybackRead) pages
nothing_fit g planes now pages =
    record {
      even = no_parity g (now % g.pages) pages;
      odd = no_parity g (now % g.pages + 1) pages;
      even_held = none_among no_planes;
      odd_held = none_among no_planes;
      copying = λ e. refl;
      first = λ e. no_pages g (take (count_of no_planes) pages);
      keeps = λ e. refl;
      holds = λ e. cc;
    }

-- 5. a 35 beside pages that were held before it

module _ (g : Parts) (l : InLimits g) (j : Job) (now : ℕ) (n : NamedRow) (a : Address) (p : PageAddress) (c : Copies) (held : Planes) (closer : Option Command) (pages : List PageAddress) (name : RowNamed g j a now n) (row : RowIs g j a) (number : p.page ≡ a.index % g.pages) (block : p.block ≡ a.index / g.pages * planes g + a.plane) (one : is_one_plane n.planes ≡ true) (f : CopiesFit g c held now closer pages) (first : HavePages g held (take (count_of held) pages)) where
  abbrev others : List PageAddress
  others = of_other_planes (planes g) p pages

  abbrev both : Planes
  both = either_plane n.planes held

  there : p.block % planes g ≡ a.plane
  there = lies_there g j a p row block

  few : a.plane < 4
  few = few_planes g a.plane l row.low

  is_own : (m : ℕ) → has_plane m n.planes ≡ true → m ≡ a.plane
  is_own m h = same_plane m a.plane n.planes one h name.plane

  apart_from : (m : ℕ) → has_plane m n.planes ≡ false → (m == p.block % planes g) ≡ false
  apart_from m h = at (m == p.block % planes g) refl
    where
      at : (b : Bool) → (m == p.block % planes g) ≡ b → (m == p.block % planes g) ≡ false
      at false e = e
      at true e =
          let same : m ≡ a.plane = eqb-true m (p.block % planes g) e ∙ there in
          let clash : true ≡ false = sym (subst (λ (k : ℕ). has_plane k n.planes ≡ true) (sym same) name.plane) ∙ h in
          cc

  -- what was held stays among the others
  stays : (m k : ℕ) → has_plane m held ≡ true → has_plane m n.planes ≡ false → suc k ≡ count_of both → has_page (planes g) m (take k others) ≡ true
  stays m k h out is = at (has_plane a.plane held) refl
    where
      at : (b : Bool) → has_plane a.plane held ≡ b → has_page (planes g) m (take k others) ≡ true
      at false e =
          let more = count_more a.plane n.planes held few name.plane e in
          among_more (planes g) m (count_of held) k others (omega (arith, more, is)) (others_keep (planes g) m (count_of held) p pages (apart_from m out) (first m h))
      at true e = less (count_of held) refl
        where
          less : (c : ℕ) → count_of held ≡ c → has_page (planes g) m (take k others) ≡ true
          less zero none = let some = count_some a.plane held few e in absurd (omega (arith, some, none))
          less (suc i) same =
              let all = count_within held both (λ q x. among_second q n.planes held x) in
              let own : has_page (planes g) (p.block % planes g) (take (suc i) pages) ≡ true =
              subst (λ (q : ℕ). has_page (planes g) q (take (suc i) pages) ≡ true) (sym there) (subst (λ (q : ℕ). has_page (planes g) a.plane (take q pages) ≡ true) same (first a.plane e)) in
              let here : has_page (planes g) m (take (suc i) pages) ≡ true = subst (λ (q : ℕ). has_page (planes g) m (take q pages) ≡ true) same (first m h) in
              among_more (planes g) m i k others (omega (arith, all, same, is)) (others_less (planes g) m i p pages (apart_from m out) own here)

  some_there : 1 ≤ count_of both
  some_there = count_some a.plane both few (among_first a.plane n.planes held name.plane)

  gathered_placed : HavePages g both (take (count_of both) (take 4 (p ∷ others)))
  gathered_placed m h = ap (λ (q : List PageAddress). has_page (planes g) m q) (cut_of_cut (count_of both) 4 (p ∷ others) (count_most both)) ∙ at (count_of both) refl (has_plane m n.planes) refl
    where
      at : (k : ℕ) → count_of both ≡ k → (b : Bool) → has_plane m n.planes ≡ b → has_page (planes g) m (take k (p ∷ others)) ≡ true
      at zero e b out = let some = some_there in absurd (omega (arith, some, e))
      at (suc k) e true own = own_there (planes g) p (take k others) a.plane m there (is_own m own)
      at (suc k) e false out =
          let held_is : has_plane m held ≡ true = subst (λ (b : Bool). (b || has_plane m held) ≡ true) out (sym (either_has m n.planes held) ∙ h) in
          or_right (p.block % planes g == m) _ (stays m k held_is out (sym e))

  -- the page of another plane is found as before
  found_still : (m : ℕ) → has_plane m held ≡ true → has_plane m n.planes ≡ false → page_in_plane (planes g) m (take 4 (p ∷ others)) ≡ page_in_plane (planes g) m pages
  found_still m h out = at (count_of both) refl
    where
      unlike : (p.block % planes g == m) ≡ false
      unlike = turned (p.block % planes g == m) refl
        where
          turned : (b : Bool) → (p.block % planes g == m) ≡ b → (p.block % planes g == m) ≡ false
          turned false e = e
          turned true e =
              let same : (m == p.block % planes g) ≡ true = eq-eqb m (p.block % planes g) (sym (eqb-true (p.block % planes g) m e)) in
              let clash : true ≡ false = sym same ∙ apart_from m out in
              cc

      at : (k : ℕ) → count_of both ≡ k → page_in_plane (planes g) m (take 4 (p ∷ others)) ≡ page_in_plane (planes g) m pages
      at zero e = let some = some_there in absurd (omega (arith, some, e))
      at (suc k) e =
          let most = count_most both in
          ap (λ (b : Bool). cond b (Some p) (page_in_plane (planes g) m (take 3 others))) unlike
          ∙ (found_first (planes g) m 3 others (among_more (planes g) m k 3 others (omega (arith, most, e)) (stays m k h out (sym e)))
          ∙ found_among_others (planes g) m p pages (apart_from m out))

  parity_still : (q : Planes) (k : ℕ) → Among q held → HaveParity g q k pages → HaveParity g (other_planes n.planes q) k (take 4 (p ∷ others))
  parity_still q k among parity m h =
      let other = other_is m n.planes q one h in
      ap (λ (o : Option PageAddress). number_parity (page_number o)) (found_still m (among m other.there) other.apart) ∙ parity m other.there

  own_still : HaveNumber g n.planes (a.index % g.pages) (take 4 (p ∷ others))
  own_still m h = ap page_number (own_found (planes g) p (take 3 others) a.plane m there (is_own m h)) ∙ ap Some number

  others_among : (q : Planes) → Among q held → Among (other_planes n.planes q) both
  others_among q among m h = among_second m n.planes held (among m (other_is m n.planes q one h).there)

  gathered_fit : CopiesFit g (more_copies (parity_of g.pages n.drift) n.planes c) both now (Some CopybackRead) (take 4 (p ∷ others))
  gathered_fit =
      let o = parity_of g.pages n.drift in
      subst (λ (b : Bool). CopiesFit g (cond b (record {
        even = either_plane (if_even o n.planes) (other_planes n.planes c.even);
        odd = either_plane (if_odd o n.planes) (other_planes n.planes c.odd);
        copying = true;
        keeps = true;
        holds = true;
      }) (first_copies None n.planes)) both now (Some CopybackRead) (take 4 (p ∷ others))) (sym one)
      (record {
        even = from_either (λ (m : ℕ). number_parity (page_number (page_in_plane (planes g) m (take 4 (p ∷ others)))) ≡ Some (now % g.pages % 2)) (if_even o n.planes) (other_planes n.planes c.even)
            (even_number g n.planes now a.index n.drift (take 4 (p ∷ others)) name.drift own_still)
            (parity_still c.even (now % g.pages) f.even_held f.even);
        odd = from_either (λ (m : ℕ). number_parity (page_number (page_in_plane (planes g) m (take 4 (p ∷ others)))) ≡ Some ((now % g.pages + 1) % 2)) (if_odd o n.planes) (other_planes n.planes c.odd)
            (odd_number g n.planes now a.index n.drift (take 4 (p ∷ others)) name.drift own_still)
            (parity_still c.odd (now % g.pages + 1) f.odd_held f.odd);
        even_held = from_either (λ (m : ℕ). has_plane m both ≡ true) (if_even o n.planes) (other_planes n.planes c.even)
            (if_even_among o n.planes both (λ m h. among_first m n.planes held h))
            (others_among c.even f.even_held);
        odd_held = from_either (λ (m : ℕ). has_plane m both ≡ true) (if_odd o n.planes) (other_planes n.planes c.odd)
            (if_odd_among o n.planes both (λ m h. among_first m n.planes held h))
            (others_among c.odd f.odd_held);
        copying = λ e. refl;
        first = λ e. gathered_placed;
        keeps = λ e. refl;
        holds = λ e. cc;
      })

-- 6. a 35, whichever

empty_queue : (queue : List Queued) → has_some queue ≡ false → queue ≡ []
empty_queue [] h = refl
empty_queue (q ∷ queue) h = cc

pub copies_read_fit : (g : Parts) (l : InLimits g) (j : Job) (now : ℕ) (v : KnownLun) (o : Option NamedRow) (a : Address) (p : PageAddress) (queue : List Queued) (closer : Option Command) (pages : List PageAddress) → NameFits g j a now o → RowIs g j a → p.page ≡ a.index % g.pages → p.block ≡ a.index / g.pages * planes g + a.plane → RowsFit g now v.queue queue → CopiesFit g v.copies v.held now closer pages → CopiesFit g (copies_read g.pages v o) (held_by_copy v o) now (Some CopybackRead) (take 4 (p ∷ (pages_of_reads queue ++ held_on (planes g) p (is_copyback_read closer) pages)))
copies_read_fit g l j now v None a p queue closer pages name row page block rows f = nothing_fit g no_planes now (take 4 (p ∷ (pages_of_reads queue ++ held_on (planes g) p (is_copyback_read closer) pages)))
copies_read_fit g l j now v (Some n) a p queue closer pages name row page block rows f = at (gathers v) refl
  where
    fresh : CopiesFit g (first_copies (parity_of g.pages n.drift) (alike_beside n v.queue)) (copied_beside n v.queue) now (Some CopybackRead) (take 4 (p ∷ (pages_of_reads queue ++ held_on (planes g) p (is_copyback_read closer) pages)))
    fresh = first_fit g l j now v.queue n a p queue (held_on (planes g) p (is_copyback_read closer) pages) name row page block rows

    beside : v.copies.copying ≡ true → may_be_queued v.queue ≡ false → (b : Bool) → is_one_plane n.planes ≡ b → CopiesFit g (more_copies (parity_of g.pages n.drift) n.planes v.copies) (cond b (either_plane n.planes v.held) no_planes) now (Some CopybackRead) (take 4 (p ∷ (pages_of_reads queue ++ held_on (planes g) p (is_copyback_read closer) pages)))
    beside copying none true one =
        let empty = empty_queue queue (none_queued g now v.queue queue none rows) in
        subst (λ (qs : List Queued). CopiesFit g (more_copies (parity_of g.pages n.drift) n.planes v.copies) (either_plane n.planes v.held) now (Some CopybackRead) (take 4 (p ∷ (pages_of_reads qs ++ held_on (planes g) p (is_copyback_read closer) pages)))) (sym empty)
        (subst (λ (b : Bool). CopiesFit g (more_copies (parity_of g.pages n.drift) n.planes v.copies) (either_plane n.planes v.held) now (Some CopybackRead) (take 4 (p ∷ held_on (planes g) p b pages))) (sym (f.copying copying))
        (gathered_fit g l j now n a p v.copies v.held closer pages name row page block one f (f.first copying)))
    beside copying none false several =
        subst (λ (c : Copies). CopiesFit g c no_planes now (Some CopybackRead) (take 4 (p ∷ (pages_of_reads queue ++ held_on (planes g) p (is_copyback_read closer) pages)))) (sym (unsure several))
        (nothing_fit g n.planes now (take 4 (p ∷ (pages_of_reads queue ++ held_on (planes g) p (is_copyback_read closer) pages))))
      where
        unsure : is_one_plane n.planes ≡ false → more_copies (parity_of g.pages n.drift) n.planes v.copies ≡ first_copies None n.planes
        unsure e = rw e refl

    at : (b : Bool) → gathers v ≡ b → CopiesFit g (cond b (more_copies (parity_of g.pages n.drift) n.planes v.copies) (first_copies (parity_of g.pages n.drift) (alike_beside n v.queue))) (cond b (cond (is_one_plane n.planes) (either_plane n.planes v.held) no_planes) (copied_beside n v.queue)) now (Some CopybackRead) (take 4 (p ∷ (pages_of_reads queue ++ held_on (planes g) p (is_copyback_read closer) pages)))
    at false e = fresh
    at true e =
        let both = and_parts v.copies.copying (not (may_be_queued v.queue)) e in
        beside both.0 (not-true (may_be_queued v.queue) both.1) (is_one_plane n.planes) refl

-- pages that come first are there
pub first_there : (g : Parts) (held : Planes) (k : ℕ) (pages : List PageAddress) → HavePages g held (take k pages) → HavePages g held pages
first_there g held k pages f n h = among_all (planes g) n k pages (f n h)
