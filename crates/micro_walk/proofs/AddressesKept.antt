-- Addresses and pages: what they leave of a claim is claimed of what they leave of an actual claim.
use Rattle.std.proofs.Common.{◌≡◌, ℕ, ◌+◌, ◌-◌, ◌/◌, ◌%◌, ◌<◌, ◌≤◌, ◌==◌, Bool, true, false, ◌&&◌, cond, Option, Some, None, refl, sym, ap, ◌∙◌, subst, arith, eqb-true, eq-eqb}
use Rattle.std.specs.Prelude.{nat_le, nat_lt}
use Rattle.std.proofs.lemmas.Bool.Decides.{nat_tests}
use Rattle.std.proofs.lemmas.Nat.{mod_below}
use Rattle.std.proofs.lemmas.Bool.{and_parts, and_from}
use Rattle.nand_geometry.specs.declared.parts.Parts.{Parts}
use Rattle.nand_geometry.specs.Limits.{InLimits}
use Rattle.onfi_cycle.specs.declared.command.Command.{Command}
use Rattle.onfi_cycle.specs.declared.command.Command.TheVariants.{PageProgram, ReadId, ReadParameterPage, ReadUniqueId, GetFeatures, SetFeatures, ResetLun}
use Rattle.micro_claims.specs.Spans.{Span}
use Rattle.micro_claims.specs.Spans.{greatest_bound, copied}
use Rattle.micro_claims.specs.declared.state.State.{State}
use Rattle.micro_claims.specs.declared.registers.Registers.{Registers}
use Rattle.micro_claims.specs.declared.page_range.PageRange.{PageRange}
use Rattle.micro_claims.specs.declared.place.Place.{Place}
use Rattle.micro_claims.specs.declared.place.Place.TheVariants.{Closed, After, InData, InColumn, InFeatures, Unknown}
use Rattle.micro_claims.specs.declared.held.Held.{Held}
use Rattle.micro_claims.specs.Against.{byte_of_column}
use Rattle.micro_claims.specs.Leaves.{with_target, data_shown, id_held, beside_read, features_opened, reset_started, lun_reset, without_pages, program_addressed, page_plus, address_leads_to, greatest_page_of, name_now, target_after_addresses, identity_read, address_leaves_at, address_leaves}
use Rattle.micro_claims.specs.Order.{top, May, SpanAt, SpanIs, RegisterIs, RegistersAt, HasColumn, NameIs, NamedIs, IsFineName, IsFineNamed, TargetAt, LunAt, At, column_number, PlaceIs, Exactly}
use Rattle.micro_walk.proofs.SpanLaws as numbers
use Rattle.micro_walk.proofs.SpanLaws.{le_of}
use Rattle.micro_claims.proofs.NamesNow.{same_block, page_in_block}
use Rattle.micro_claims.proofs.Indices.{mod_both, mod_small}
use Rattle.micro_claims.specs.Planes.{no_planes}
use Rattle.micro_walk.proofs.Shapes.{among_self}
use Rattle.micro_walk.proofs.LeavesKept.{RangeIs, one_place, data_is, first_output, held_is}
use Rattle.micro_walk.proofs.CommandsKept.{reset_at}
use Rattle.micro_walk.proofs.CopiesKept.{copies_self, cleared_copies}
use Rattle.micro_claims.specs.State.{no_copies}

-- 1. pages

-- a page moved on is in the block
pub page_fine : (p n : ℕ) (r : PageRange) → 0 < p → r.lo ≤ r.hi → r.hi < p → RangeIs p (record { lo = 0; hi = p - 1 }) (page_plus p n r)
page_fine p n r some order inside = at (r.lo == r.hi)
  where
    low : (r.lo + n) % p < p
    low = mod_below (r.lo + n) p some

    within : (b : Bool) → (nat_le r.lo r.hi && nat_lt (r.hi + n % p) p) ≡ b → RangeIs p (record { lo = 0; hi = p - 1 }) (cond b (record { lo = r.lo + n % p; hi = r.hi + n % p }) (record { lo = 0; hi = p - 1 }))
    within true e =
        let less : r.hi + n % p < p = below (r.hi + n % p) p (and_parts (nat_le r.lo r.hi) (nat_lt (r.hi + n % p) p) e).1 in
        record { low = omega arith; high = omega (arith, less); order = omega (arith, order); inside = less }
      where
        below : (x y : ℕ) → nat_lt x y ≡ true → x < y
        below x y h = grind (arith, nat_tests)
    within false e = record { low = omega arith; high = omega arith; order = omega arith; inside = omega (arith, some) }

    at : (b : Bool) → RangeIs p (record { lo = 0; hi = p - 1 }) (cond b (record { lo = (r.lo + n) % p; hi = (r.lo + n) % p }) (cond (nat_le r.lo r.hi && nat_lt (r.hi + n % p) p) (record { lo = r.lo + n % p; hi = r.hi + n % p }) (record { lo = 0; hi = p - 1 })))
    at true = record { low = omega arith; high = omega (arith, low); order = omega arith; inside = low }
    at false = within (nat_le r.lo r.hi && nat_lt (r.hi + n % p) p) refl

pub page_on : (p n : ℕ) (s a : PageRange) → 0 < p → RangeIs p s a → RangeIs p (page_plus p n s) (page_plus p n a)
page_on p n s a some f = at (s.lo == s.hi) refl
  where
    below : (x y : ℕ) → nat_lt x y ≡ true → x < y
    below x y h = grind (arith, nat_tests)

    less : (x y : ℕ) → x < y → nat_lt x y ≡ true
    less x y h = grind (arith, nat_tests)

    low : s.lo ≤ a.lo
    low = f.low

    high : a.hi ≤ s.hi
    high = f.high

    order : a.lo ≤ a.hi
    order = f.order

    inside : a.hi < p
    inside = f.inside

    fine : RangeIs p (record { lo = 0; hi = p - 1 }) (page_plus p n a)
    fine = page_fine p n a some order inside

    -- where neither passes the block's end
    moved : s.hi + n % p < p → (b : Bool) → (a.lo == a.hi) ≡ b → RangeIs p (record { lo = s.lo + n % p; hi = s.hi + n % p }) (cond b (record { lo = (a.lo + n) % p; hi = (a.lo + n) % p }) (cond (nat_le a.lo a.hi && nat_lt (a.hi + n % p) p) (record { lo = a.lo + n % p; hi = a.hi + n % p }) (record { lo = 0; hi = p - 1 })))
    moved h true e =
        let small : a.lo % p ≡ a.lo = mod_small p a.lo (omega (arith, order, inside)) in
        let is : (a.lo + n) % p ≡ (a.lo % p + n % p) % p = mod_both p a.lo n in
        let also : (a.lo % p + n % p) % p ≡ a.lo % p + n % p = mod_small p (a.lo % p + n % p) (omega (arith, small, h, high, order)) in
        record { low = omega (arith, is, also, small, low); high = omega (arith, is, also, small, order, high); order = omega arith; inside = omega (arith, is, also, small, order, high, h) }
    moved h false e =
        let x : (nat_le a.lo a.hi && nat_lt (a.hi + n % p) p) ≡ true = and_from (nat_le a.lo a.hi) (nat_lt (a.hi + n % p) p) (grind (arith, nat_tests, order)) (less (a.hi + n % p) p (omega (arith, h, high))) in
        subst (λ (c : Bool). RangeIs p (record { lo = s.lo + n % p; hi = s.hi + n % p }) (cond c (record { lo = a.lo + n % p; hi = a.hi + n % p }) (record { lo = 0; hi = p - 1 }))) (sym x)
        (record { low = omega (arith, low); high = omega (arith, high); order = omega (arith, order); inside = omega (arith, h, high) })

    within : (b : Bool) → (nat_le s.lo s.hi && nat_lt (s.hi + n % p) p) ≡ b → RangeIs p (cond b (record { lo = s.lo + n % p; hi = s.hi + n % p }) (record { lo = 0; hi = p - 1 })) (page_plus p n a)
    within true e = moved (below (s.hi + n % p) p (and_parts (nat_le s.lo s.hi) (nat_lt (s.hi + n % p) p) e).1) (a.lo == a.hi) refl
    within false e = fine

    one : s.lo ≡ s.hi → (b : Bool) → (a.lo == a.hi) ≡ b → RangeIs p (record { lo = (s.lo + n) % p; hi = (s.lo + n) % p }) (cond b (record { lo = (a.lo + n) % p; hi = (a.lo + n) % p }) (cond (nat_le a.lo a.hi && nat_lt (a.hi + n % p) p) (record { lo = a.lo + n % p; hi = a.hi + n % p }) (record { lo = 0; hi = p - 1 })))
    one h true e =
        let same : s.lo ≡ a.lo = omega (arith, h, low, high, order) in
        let is : (s.lo + n) % p ≡ (a.lo + n) % p = ap (λ (x : ℕ). (x + n) % p) same in
        let small : (a.lo + n) % p < p = mod_below (a.lo + n) p some in
        record { low = omega (arith, is); high = omega (arith, is); order = omega arith; inside = small }
    one h false e = absurd (let same : (a.lo == a.hi) ≡ true = eq-eqb a.lo a.hi (omega (arith, h, low, high, order)) in cc)

    at : (b : Bool) → (s.lo == s.hi) ≡ b → RangeIs p (cond b (record { lo = (s.lo + n) % p; hi = (s.lo + n) % p }) (cond (nat_le s.lo s.hi && nat_lt (s.hi + n % p) p) (record { lo = s.lo + n % p; hi = s.hi + n % p }) (record { lo = 0; hi = p - 1 }))) (page_plus p n a)
    at true e = one (eqb-true s.lo s.hi e) (a.lo == a.hi) refl
    at false e = within (nat_le s.lo s.hi && nat_lt (s.hi + n % p) p) refl

-- 2. the name of a row

most_page : (p : ℕ) (r : PageRange) (lo : ℕ) (o : Option ℕ) → greatest_page_of p r lo o ≤ r.hi
most_page p r lo None = omega arith
most_page p r lo (Some hi) = at (lo / p == hi / p) (nat_lt (hi % p) r.hi) (nat_le hi greatest_bound) refl
  where
    at : (x y z : Bool) → nat_lt (hi % p) r.hi ≡ y → cond (x && y && z) (hi % p) r.hi ≤ r.hi
    at true true true e = below (hi % p) r.hi e
      where
        below : (x y : ℕ) → nat_lt x y ≡ true → x ≤ y
        below x y h = grind (arith, nat_tests)
    at true true false e = omega arith
    at true false z e = omega arith
    at false y z e = omega arith

name_page : (p : ℕ) (r q : PageRange) (s a : Span) → 0 < p → q.hi ≤ r.hi → SpanIs s a → greatest_page_of p q a.lo a.hi ≤ greatest_page_of p r s.lo s.hi
name_page p r q s a some most f = at s.hi f.high
  where
    in_block : (hi : ℕ) (o : Option ℕ) → s.lo / p ≡ hi / p → hi ≤ greatest_bound → top o ≤ hi → s.lo ≤ a.lo → a.lo ≤ top o → greatest_page_of p q a.lo o ≤ hi % p
    in_block hi None same few high low order = absurd (omega (arith, few, high))
    in_block hi (Some m) same few high low order = by (nat_lt (m % p) q.hi) refl
      where
        page : m % p ≤ hi % p
        page = page_in_block p s.lo m hi some (omega (arith, low, order)) high same

        both : (a.lo / p == m / p) ≡ true
        both = eq-eqb (a.lo / p) (m / p) (same_block p s.lo a.lo hi some low (omega (arith, order, high)) same ∙ sym (same_block p s.lo m hi some (omega (arith, low, order)) high same))

        small : nat_le m greatest_bound ≡ true
        small = le m greatest_bound (omega (arith, high, few))
          where
            le : (x y : ℕ) → x ≤ y → nat_le x y ≡ true
            le x y h = grind (arith, nat_tests)

        by : (b : Bool) → nat_lt (m % p) q.hi ≡ b → greatest_page_of p q a.lo (Some m) ≤ hi % p
        by true e = rw (both, e, small) page
        by false e = rw (both, e) (let x : q.hi ≤ m % p = over (m % p) q.hi e in omega (arith, x, page))
          where
            over : (x y : ℕ) → nat_lt x y ≡ false → y ≤ x
            over x y h = grind (arith, nat_tests)

    bound : greatest_page_of p q a.lo a.hi ≤ r.hi
    bound = let x = most_page p q a.lo a.hi in omega (arith, x, most)

    at : (o : Option ℕ) → top a.hi ≤ top o → greatest_page_of p q a.lo a.hi ≤ greatest_page_of p r s.lo o
    at None high = bound
    at (Some hi) high = by (s.lo / p == hi / p) refl (nat_lt (hi % p) r.hi) (nat_le hi greatest_bound) refl
      where
        by : (x : Bool) → (s.lo / p == hi / p) ≡ x → (y z : Bool) → nat_le hi greatest_bound ≡ z → greatest_page_of p q a.lo a.hi ≤ cond (x && y && z) (hi % p) r.hi
        by true e true true g = let low = f.low in let order = f.order in in_block hi a.hi (eqb-true (s.lo / p) (hi / p) e) (le_of hi greatest_bound g) high low order
        by true e true false g = bound
        by true e false z g = bound
        by false e y z g = bound

pub name_is : (g : Parts) → InLimits g → (v s a : Registers) → RegistersAt g v s a → NameIs g (name_now g s) (name_now g a)
name_is g l v s a f =
    let some = l.pages_least in
    record {
      index = numbers.is_copied v.index s.index a.index f.index;
      planes = f.planes;
      page = name_page g.pages s.page a.page s.index a.index (omega (arith, some)) f.page_high (numbers.is_of v.index s.index a.index f.index);
      drift = refl;
    }

pub name_fine : (g : Parts) (v s a : Registers) → RegistersAt g v s a → IsFineName g (name_now g a)
name_fine g v s a f =
    let x = most_page g.pages a.page a.index.lo a.index.hi in
    let y = f.page_inside in
    record { order = f.index.order; low_small = f.index.low_small; small = f.index.small; page_inside = omega (arith, x, y); one_plane = f.one_plane }

-- 3. addresses

tail_led : (f : Place → Place) (s a : Place) → s ≡ a → PlaceIs (f s) (f a)
tail_led f s a e = subst (λ (p : Place). PlaceIs (f s) (f p)) e (Exactly (f s))

addressed : (g : Parts) → InLimits g → (v s a : State) (from count : ℕ) → At g v s a → s.target.tail ≡ a.target.tail → TargetAt g v.target (target_after_addresses g s from count) (target_after_addresses g a from count)
addressed g l v s a from count d same = record {
  tail = tail_led (address_leads_to count) s.target.tail a.target.tail same;
  has_column = has (nat_le from 1 && nat_le 2 (from + count));
  column = column (nat_le from 1 && nat_le 2 (from + count));
  named = named (nat_le 5 (from + count));
  fine = fine (nat_le 5 (from + count));
  shows = d.target.shows;
}
  where
    has : (b : Bool) → HasColumn (cond b (Some (copied s.registers.column)) s.target.column) (cond b (Some (copied a.registers.column)) a.target.column)
    has true = tt
    has false = d.target.has_column

    column : (b : Bool) → SpanAt (column_number v.target.column) (column_number (cond b (Some (copied s.registers.column)) s.target.column)) (column_number (cond b (Some (copied a.registers.column)) a.target.column))
    column true = numbers.copied_at v.registers.column (column_number v.target.column) s.registers.column a.registers.column d.registers.column
    column false = d.target.column

    named : (b : Bool) → NamedIs g (cond b (Some (name_now g s.registers)) s.target.named) (cond b (Some (name_now g a.registers)) a.target.named)
    named true = name_is g l v.registers s.registers a.registers d.registers
    named false = d.target.named

    fine : (b : Bool) → IsFineNamed g (cond b (Some (name_now g a.registers)) a.target.named)
    fine true = name_fine g v.registers s.registers a.registers d.registers
    fine false = d.target.fine

gone_on : (g : Parts) → InLimits g → (v s a : State) (from count : ℕ) → At g v s a → s.target.tail ≡ a.target.tail → At g v (with_target s (target_after_addresses g s from count)) (with_target a (target_after_addresses g a from count))
gone_on g l v s a from count d same = record { registers = d.registers; target = addressed g l v s a from count d same; lun = d.lun }

beside_at : (g : Parts) (v s a : State) (b c : Bool) (held : Held) → May c b → RegisterIs held held → At g v s a → At g v (beside_read b held s) (beside_read c held a)
beside_at g v s a b c held busy is d =
    let f = d.lun in
    let k = first_output v.lun.column in
    record {
      registers = d.registers;
      target = one_place g v.target Closed data_shown data_shown data_is;
      lun = record { busy = busy; register = is; has_column = k.has; column = k.at; queue = f.queue; last_read = λ h. h; last_cache = λ h. h; last_other = λ h. h; cached_index = f.cached_index; cached_page = f.cached_page; held = among_self no_planes; array = among_self no_planes; copies = copies_self no_copies; programming = λ h. h };
    }

-- what 90h reads is one of three
id_is : (byte : ℕ) → RegisterIs (id_held byte) (id_held byte)
id_is byte = at (byte == 0x20) (byte == 0x40)
  where
    at : (a b : Bool) → RegisterIs (cond a (record { 0 = 4 }) (cond b (record { 0 = 16 }) (record { 0 = 8 }))) (cond a (record { 0 = 4 }) (cond b (record { 0 = 16 }) (record { 0 = 8 })))
    at true b = held_is (record { 0 = 4 }) refl
    at false true = held_is (record { 0 = 16 }) refl
    at false false = held_is (record { 0 = 8 }) refl

id_at : (g : Parts) (v s a : State) (from : ℕ) → s.registers.column.lo ≡ a.registers.column.lo → At g v s a → At g v (identity_read s from ReadId) (identity_read a from ReadId)
id_at g v s a from known d =
    subst (λ (n : ℕ). At g v (identity_read s from ReadId) (beside_read a.lun.busy (id_held (byte_of_column from n)) a)) known
    (beside_at g v s a s.lun.busy a.lun.busy (id_held (byte_of_column from s.registers.column.lo)) d.lun.busy (id_is (byte_of_column from s.registers.column.lo)) d)

features_at : (g : Parts) (v s a : State) → At g v s a → At g v (features_opened s) (features_opened a)
features_at g v s a d = record { registers = d.registers; target = one_place g v.target (InFeatures 0) s.target.shows a.target.shows d.target.shows; lun = d.lun }

lun_reset_at : (g : Parts) → InLimits g → (v s a : State) (from count n : ℕ) → At g v s a → s.target.tail ≡ a.target.tail → At g v (lun_reset g s from count n) (lun_reset g a from count n)
lun_reset_at g l v s a from count n d same = at (n + count == 3)
  where
    at : (b : Bool) → At g v (cond b (reset_started s) (with_target s (target_after_addresses g s from count))) (cond b (reset_started a) (with_target a (target_after_addresses g a from count)))
    at true = reset_at g v s a d
    at false = gone_on g l v s a from count d same

program_at : (g : Parts) → InLimits g → (v s a : State) (from count n : ℕ) → At g v s a → s.target.tail ≡ a.target.tail → At g v (program_addressed g s from count n) (program_addressed g a from count n)
program_at g l v s a from count n d same = record { registers = d.registers; target = addressed g l v s a from count d same; lun = at (n + count == 5) }
  where
    at : (b : Bool) → LunAt v.lun (cond b (without_pages s.lun) s.lun) (cond b (without_pages a.lun) a.lun)
    at true =
        let f = d.lun in
        record { busy = f.busy; register = f.register; has_column = f.has_column; column = f.column; queue = f.queue; last_read = f.last_read; last_cache = f.last_cache; last_other = f.last_other; cached_index = f.cached_index; cached_page = f.cached_page; held = among_self no_planes; array = f.array; copies = cleared_copies s.lun.copies a.lun.copies f.copies; programming = f.programming }
    at false = d.lun

-- at one place both leave what is claimed
opener_at : (g : Parts) → InLimits g → (v s a : State) (from count n : ℕ) (o : Command) → ((m : ℕ) → After o n ≡ After ReadId m → s.registers.column.lo ≡ a.registers.column.lo) → At g v s a → s.target.tail ≡ a.target.tail → At g v (address_leaves_at g s from count (After o n)) (address_leaves_at g a from count (After o n))
opener_at g l v s a from count n ReadId known d same = id_at g v s a from (known n refl) d
opener_at g l v s a from count n ReadParameterPage known d same = beside_at g v s a true true (record { 0 = 2 }) (λ h. h) (held_is (record { 0 = 2 }) refl) d
opener_at g l v s a from count n ReadUniqueId known d same = beside_at g v s a true true (record { 0 = 32 }) (λ h. h) (held_is (record { 0 = 32 }) refl) d
opener_at g l v s a from count n GetFeatures known d same = beside_at g v s a true true (record { 0 = 64 }) (λ h. h) (held_is (record { 0 = 64 }) refl) d
opener_at g l v s a from count n SetFeatures known d same = features_at g v s a d
opener_at g l v s a from count n ResetLun known d same = lun_reset_at g l v s a from count n d same
opener_at g l v s a from count n PageProgram known d same = program_at g l v s a from count n d same
opener_at g l v s a from count n o known d same = gone_on g l v s a from count d same

place_at : (g : Parts) → InLimits g → (v s a : State) (from count : ℕ) (p : Place) → ((m : ℕ) → p ≡ After ReadId m → s.registers.column.lo ≡ a.registers.column.lo) → At g v s a → s.target.tail ≡ a.target.tail → At g v (address_leaves_at g s from count p) (address_leaves_at g a from count p)
place_at g l v s a from count (After o n) known d same = opener_at g l v s a from count n o known d same
place_at g l v s a from count Closed known d same = gone_on g l v s a from count d same
place_at g l v s a from count InData known d same = gone_on g l v s a from count d same
place_at g l v s a from count (InColumn n) known d same = gone_on g l v s a from count d same
place_at g l v s a from count (InFeatures n) known d same = gone_on g l v s a from count d same
place_at g l v s a from count Unknown known d same = gone_on g l v s a from count d same

pub address_at : (g : Parts) → InLimits g → (v s a : State) (from count : ℕ) → At g v s a → s.target.tail ≡ a.target.tail → ((m : ℕ) → s.target.tail ≡ After ReadId m → s.registers.column.lo ≡ a.registers.column.lo) → At g v (address_leaves g s from count) (address_leaves g a from count)
address_at g l v s a from count d same known = subst (λ (p : Place). At g v (address_leaves g s from count) (address_leaves_at g a from count p)) same (place_at g l v s a from count s.target.tail known d same)
