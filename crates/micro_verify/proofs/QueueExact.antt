-- The queue refuses a row exactly where the claim says that it may.
use Rattle.std.proofs.lemmas.Bool.Decides.{nat_tests}
use Rattle.std.proofs.lemmas.Nat.{div-mul-add, mod-mul-add}
use Rattle.std.proofs.Math.Nat.{div-add-mod}
use Rattle.std.proofs.Common.{◌≡◌, ℕ, ◌+◌, ◌-◌, ◌*◌, ◌/◌, ◌%◌, ◌≤◌, ◌<◌, ◌==◌, Bool, true, false, ◌&&◌, ◌||◌, not, List, [], ◌∷◌, refl, sym, ap, ◌∙◌, arith, eqb-true, eq-eqb}
use Rattle.nand_geometry.specs.declared.parts.Parts.{Parts}
use Rattle.nand_geometry.specs.Limits.{planes}
use Rattle.onfi_cycle.specs.declared.command.Command.{Command}
use Rattle.onfi_cycle.specs.declared.command.Command.TheVariants.{Read, ChangeReadColumn, BlockErase, PageProgram}
use Rattle.onfi_cycle.specs.declared.page_address.PageAddress.{PageAddress}
use Rattle.onfi_cycle.specs.declared.queued.Queued.{Queued}
use Rattle.onfi_cycle.specs.declared.queued.Queued.TheVariants.{Erase, Program, Read as QueuedRead}
use Rattle.onfi_cycle.specs.Rules.{planes_clash, queued_clashes, some_queued_clashes, some_read_clashes, refused_by, has_some}
use Rattle.micro_claims.specs.declared.planes.Planes.{Planes}
use Rattle.micro_claims.specs.declared.queued_rows.QueuedRows.{QueuedRows}
use Rattle.micro_claims.specs.declared.queued_rows.QueuedRows.TheVariants.{NoRows, SomeRows, SomeReads, AnyRows}
use Rattle.micro_claims.specs.declared.drift.Drift.{Drift}
use Rattle.micro_claims.specs.Planes.{has_plane, just_plane, either_plane, share_a_plane}
use Rattle.micro_claims.specs.Against.{same_test, queue_refuses}
use Rattle.micro_claims.proofs.Fits.{is_of_kind, takes_row}
use Rattle.micro_verify.proofs.AddressesNow.{carries_registers}
use Rattle.micro_claims.proofs.PlaneSets.{either_has, none_has, share_just, just_same}
use Rattle.micro_verify.proofs.Lone.{based}
use Rattle.micro_verify.proofs.Mirrors.{RowsMirror, RowMirror, AllMirror, set_of}

-- 1. sets of planes

share_one : (p : ℕ) (s : Planes) → p ≤ 3 → share_a_plane (just_plane p) s ≡ has_plane p s
share_one = share_just

has_more : (p q : ℕ) (s : Planes) → p ≤ 3 → has_plane p (either_plane (just_plane q) s) ≡ ((p == q) || has_plane p s)
has_more p q s low = either_has p (just_plane q) s ∙ ap (λ (b : Bool). b || has_plane p s) (just_same p q low)

-- 2. one row

-- two indices are one where their pages and their groups are
index_parts : (p a b : ℕ) → (a == b) ≡ ((a % p == b % p) && (a / p == b / p))
index_parts p a b = at (a % p == b % p) refl (a / p == b / p) refl
  where
    apart : (a ≡ b → ⊥) → (a == b) ≡ false
    apart h = by (a == b) refl
      where
        by : (x : Bool) → (a == b) ≡ x → x ≡ false
        by true e = absurd (h (eqb-true a b e))
        by false e = refl

    at : (x : Bool) → (a % p == b % p) ≡ x → (y : Bool) → (a / p == b / p) ≡ y → (a == b) ≡ (x && y)
    at true e true f =
        let pages = eqb-true (a % p) (b % p) e in
        let groups : p * (a / p) ≡ p * (b / p) = ap (λ (n : ℕ). p * n) (eqb-true (a / p) (b / p) f) in
        let one = div-add-mod a p in
        let two = div-add-mod b p in
        eq-eqb a b (omega (arith, pages, groups, one, two))
    at true e false f = apart (λ s. let both : (a / p == b / p) ≡ true = eq-eqb (a / p) (b / p) (ap (λ (n : ℕ). n / p) s) in let clash : true ≡ false = sym both ∙ f in cc)
    at false e y f = apart (λ s. let both : (a % p == b % p) ≡ true = eq-eqb (a % p) (b % p) (ap (λ (n : ℕ). n % p) s) in let clash : true ≡ false = sym both ∙ e in cc)

clash_is : (g : Parts) (p q : PageAddress) (now index plane other : ℕ) → plane < planes g → other < planes g → p.page ≡ now % g.pages → p.block ≡ now / g.pages * planes g + plane → q.page ≡ index % g.pages → q.block ≡ index / g.pages * planes g + other → planes_clash (based g) p q ≡ (not (now == index) || (plane == other))
clash_is g p q now index plane other low high pp pb qp qb =
    (λ i. (pb i % planes g == qb i % planes g) || not (pp i == qp i) || not (pb i / planes g == qb i / planes g))
    ∙ ((λ i. (mod-mul-add (now / g.pages) (planes g) plane low i == mod-mul-add (index / g.pages) (planes g) other high i) || not (now % g.pages == index % g.pages) || not (div-mul-add (now / g.pages) (planes g) plane low i == div-mul-add (index / g.pages) (planes g) other high i))
    ∙ (mixed (plane == other) (now % g.pages == index % g.pages) (now / g.pages == index / g.pages) ∙ ap (λ (b : Bool). not b || (plane == other)) (sym (index_parts g.pages now index))))
  where
    mixed : (x a b : Bool) → (x || not a || not b) ≡ (not (a && b) || x)
    mixed true true true = refl
    mixed true true false = refl
    mixed true false b = refl
    mixed false true true = refl
    mixed false true false = refl
    mixed false false b = refl

-- a row of the queue doesn't go together with this one
row_clash : (g : Parts) (e erase : Bool) (p : PageAddress) (now index plane other : ℕ) (q : Queued) → plane < planes g → p.page ≡ now % g.pages → p.block ≡ now / g.pages * planes g + plane → RowMirror g erase index other q → queued_clashes (based g) e p q ≡ (not (same_test erase e) || not (now == index) || (plane == other))
row_clash g e erase p now index plane other (Erase q) low page block m = by e erase m.kind (clash_is g p q now index plane other low m.low page block m.page m.block)
  where
    by : (e erase : Bool) → is_of_kind erase (Erase q) ≡ true → planes_clash (based g) p q ≡ (not (now == index) || (plane == other)) → queued_clashes (based g) e p (Erase q) ≡ (not (same_test erase e) || not (now == index) || (plane == other))
    by true true kind c = c
    by false true kind c = refl
    by e false kind c = cc
row_clash g e erase p now index plane other (Program q) low page block m = by e erase m.kind (clash_is g p q now index plane other low m.low page block m.page m.block)
  where
    by : (e erase : Bool) → is_of_kind erase (Program q) ≡ true → planes_clash (based g) p q ≡ (not (now == index) || (plane == other)) → queued_clashes (based g) e p (Program q) ≡ (not (same_test erase e) || not (now == index) || (plane == other))
    by true false kind c = refl
    by false false kind c = c
    by e true kind c = cc
row_clash g e erase p now index plane other (QueuedRead q) low page block m = let none = m.kind in cc

-- 3. all of them

-- a read goes together with none of them
reads_clash : (g : Parts) (erase : Bool) (p : PageAddress) (index : ℕ) (ps : List ℕ) (qs : List Queued) → has_some qs ≡ true → AllMirror (RowMirror g erase index) ps qs → some_read_clashes (based g) p qs ≡ true
reads_clash g erase p index ps [] some m = cc
reads_clash g erase p index [] (q ∷ qs) some m = absurd m
reads_clash g erase p index (x ∷ ps) (Erase q ∷ qs) some m = refl
reads_clash g erase p index (x ∷ ps) (Program q ∷ qs) some m = refl
reads_clash g erase p index (x ∷ ps) (QueuedRead q ∷ qs) some m = let none = m.0.kind in cc

clashes_are : (g : Parts) (e erase : Bool) (p : PageAddress) (now index plane : ℕ) (ps : List ℕ) (qs : List Queued) → plane < planes g → plane ≤ 3 → p.page ≡ now % g.pages → p.block ≡ now / g.pages * planes g + plane → has_some qs ≡ true → AllMirror (RowMirror g erase index) ps qs → some_queued_clashes (based g) e p qs ≡ (not (same_test erase e) || not (now == index) || has_plane plane (set_of ps))
clashes_are g e erase p now index plane [] [] low few page block some m = cc
clashes_are g e erase p now index plane [] (q ∷ qs) low few page block some m = absurd m
clashes_are g e erase p now index plane (x ∷ ps) [] low few page block some m = absurd m
clashes_are g e erase p now index plane (x ∷ []) (q ∷ []) low few page block some m =
    let one = row_clash g e erase p now index plane x q low page block m.0 in
    ap (λ (b : Bool). b || false) one ∙ (last (not (same_test erase e) || not (now == index)) (plane == x) ∙ ap (λ (b : Bool). not (same_test erase e) || not (now == index) || b) (sym (has_more plane x _ few ∙ ap (λ (b : Bool). (plane == x) || b) (none plane))))
  where
    last : (k x : Bool) → (k || x || false) ≡ (k || (x || false))
    last true x = refl
    last false x = refl

    none : (n : ℕ) → has_plane n (set_of []) ≡ false
    none = none_has
clashes_are g e erase p now index plane (x ∷ []) (q ∷ (r ∷ qs)) low few page block some m = absurd m.1
clashes_are g e erase p now index plane (x ∷ (y ∷ ps)) (q ∷ []) low few page block some m = absurd m.1
clashes_are g e erase p now index plane (x ∷ (y ∷ ps)) (q ∷ (r ∷ qs)) low few page block some m =
    let one = row_clash g e erase p now index plane x q low page block m.0 in
    let rest = clashes_are g e erase p now index plane (y ∷ ps) (r ∷ qs) low few page block refl m.1 in
    (λ i. one i || rest i) ∙ (joined (not (same_test erase e) || not (now == index)) (plane == x) (has_plane plane (set_of (y ∷ ps))) ∙ ap (λ (b : Bool). not (same_test erase e) || not (now == index) || b) (sym (has_more plane x (set_of (y ∷ ps)) few)))
  where
    joined : (k x s : Bool) → (k || x || (k || s)) ≡ (k || (x || s))
    joined true x s = refl
    joined false x s = refl

-- the queue of the claim refuses the row of the registers exactly where that of the LUN does
pub refuses_is : (g : Parts) (now : ℕ) (rows : QueuedRows) (queue : List Queued) (o : Command) (p : PageAddress) (plane : ℕ) → carries_registers o ≡ true → takes_row o ≡ true → RowsMirror g now rows queue → plane < planes g → plane ≤ 3 → p.page ≡ now % g.pages → p.block ≡ now / g.pages * planes g + plane → queue_refuses rows (just_plane plane) o ≡ refused_by (based g) o p queue
refuses_is g now NoRows queue o p plane carries takes m low few page block = by o carries takes
  where
    by : (o : Command) → carries_registers o ≡ true → takes_row o ≡ true → false ≡ refused_by (based g) o p queue
    by Read c h = sym (ap (some_read_clashes (based g) p) m)
    by BlockErase c h = sym (ap (some_queued_clashes (based g) true p) m)
    by PageProgram c h = sym (ap (some_queued_clashes (based g) false p) m)
    by ChangeReadColumn c h = cc
    by _ c h = cc
refuses_is g now AnyRows queue o p plane carries takes m low few page block = absurd m
refuses_is g now (SomeReads queued surely d) queue o p plane carries takes m low few page block = absurd m
refuses_is g now (SomeRows erase queued d) queue o p plane carries takes m low few page block = by o carries takes
  where
    far : (a b : ℕ) → (a - b == b - a) ≡ (a == b)
    far a b = at (a == b) refl
      where
        at : (x : Bool) → (a == b) ≡ x → (a - b == b - a) ≡ x
        at true e = let same = eqb-true a b e in eq-eqb (a - b) (b - a) (omega (arith, same))
        at false e = grind (arith, nat_tests, e)

    drift : (d.ahead == d.behind) ≡ (now == m.index)
    drift = ap (λ (x : Drift). x.ahead == x.behind) m.drift ∙ far now m.index

    shared : share_a_plane (just_plane plane) queued ≡ has_plane plane (set_of m.of_planes)
    shared = share_one plane queued few ∙ ap (has_plane plane) m.set

    by : (o : Command) → carries_registers o ≡ true → takes_row o ≡ true → queue_refuses (SomeRows erase queued d) (just_plane plane) o ≡ refused_by (based g) o p queue
    by Read c h = sym (reads_clash g erase p m.index m.of_planes queue m.some m.rows)
    by BlockErase c h = (λ i. not (same_test erase true) || not (drift i) || shared i) ∙ sym (clashes_are g true erase p now m.index plane m.of_planes queue low few page block m.some m.rows)
    by PageProgram c h = (λ i. not (same_test erase false) || not (drift i) || shared i) ∙ sym (clashes_are g false erase p now m.index plane m.of_planes queue low few page block m.some m.rows)
    by ChangeReadColumn c h = cc
    by _ c h = cc
