-- The records of LUNs, of which some change.
use Rattle.std.proofs.Common.{subst, IfSome, ◌≡◌, ℕ, zero, suc, ◌+◌, ◌<◌, ◌≤◌, ◌==◌, Bool, true, cond, Option, Some, None, List, [], ◌∷◌, length, map, take, get_or, slice_set, refl, sym, ap, ◌∙◌, arith, ◌++◌}
use Rattle.std.specs.List.{All}
use Rattle.nand_geometry.specs.declared.parts.Parts.{Parts}
use Rattle.onfi_cycle.specs.declared.latch.Latch.TheVariants.{Off}
use Rattle.onfi_cycle.specs.declared.tail_facts.TailFacts.{TailFacts}
use Rattle.onfi_cycle.specs.declared.target_cycle.TargetCycle.{TargetCycle}
use Rattle.onfi_cycle.specs.declared.target_cycle.TargetCycle.TheVariants.{InputCycle, OutputCycle}
use Rattle.onfi_cycle.specs.Effect.{cycle_effect}
use Rattle.onfi_cycle.specs.Sequence.{facts_after, target_cycle}
use Rattle.onfi_cycle.specs.declared.effect.Effect.{Effect}
use Rattle.onfi_cycle.specs.LunView.{LunView}
use Rattle.onfi_cycle.specs.Bounds.{LunsFit, TargetFits}
use Rattle.nand_geometry.specs.Limits.{InLimits}
use Rattle.onfi_cycle.specs.declared.item.Cycle.{Cycle}
use Rattle.onfi_cycle.specs.declared.item.Item.TheVariants.{Cyc}
use Rattle.onfi_cycle.specs.Permitted.{judge}
use Rattle.onfi_cycle.specs.State.{TargetView, has_driver, target, target_after}
use Rattle.onfi_cycle.specs.Rules.{is_some_and}
use Rattle.onfi_cycle.specs.Channel.{cycle as cycle_at}
use Rattle.onfi_cycle.specs.declared.item.Kind.{Kind}
use Rattle.onfi_cycle.specs.declared.item.Kind.TheVariants.{Din, Dout}
use Rattle.onfi_cycle.proofs.Outputs.{gives_more}
use Rattle.bus_record.proofs.Pushed.{after_fits, have_room, set_same}
use Rattle.onfi_cycle.specs.Applied.{one_after, luns_after_cycle}
use Rattle.onfi_cycle.specs.Lun.{view_after}
use Rattle.onfi_cycle.proofs.Applied.{one_set, one_beyond, target_cycled}
use Rattle.target_record.specs.Record.{HasRoom, IsRecord, lun_of, luns_of, target_of}
use Rattle.bus_record.specs.Bus.{IsStep}
use Rattle.target_record.specs.Record.{IsTarget}
use Rattle.bus_record.specs.Kept.{Kept}
use Rattle.bus_record.specs.Rule.{by_option}
use Rattle.target_record.specs.declared.record.OnfiseqTarget.{OnfiseqTarget}
use Rattle.onfi_cycle.specs.declared.forbidden.Forbidden.{Forbidden}
use Rattle.onfi_cycle.specs.declared.item.Item.{Item}
use Rattle.bus_record.specs.Changing.{AreLittle, HaveRoom, apart_from, effect_of_input, luns_left}
use Rattle.bus_record.proofs.Done.{input_left, input_keeps_room}
use Rattle.target_record.specs.declared.record.OnfiseqLun.{OnfiseqLun}

map_set : {X Y : Type 0} (f : X → Y) (xs : List X) (k : ℕ) (x : X) → map f (slice_set xs k x) ≡ slice_set (map f xs) k (f x)
map_set f [] k x = refl
map_set f (y ∷ xs) zero x = refl
map_set f (y ∷ xs) (suc k) x = ap (λ zs. f y ∷ zs) (map_set f xs k x)

map_get : {X Y : Type 0} (f : X → Y) (xs : List X) (k : ℕ) (d : X) → get_or (map f xs) k (f d) ≡ f (get_or xs k d)
map_get f [] k d = refl
map_get f (y ∷ xs) zero d = refl
map_get f (y ∷ xs) (suc k) d = map_get f xs k d

map_length : {X Y : Type 0} (f : X → Y) (xs : List X) → length (map f xs) ≡ length xs
map_length f [] = refl
map_length f (x ∷ xs) = ap suc (map_length f xs)

-- an effect on the LUN of this number, written in its record
pub one_written : (a : Effect) (ls : List OnfiseqLun) (n k : ℕ) (d l : OnfiseqLun) → k ≡ n → lun_of l ≡ view_after a (lun_of (get_or ls k d))
    → luns_of (slice_set ls k l) ≡ one_after a n (luns_of ls)
one_written a ls n k d l place is =
    map_set lun_of ls k l ∙ one_set a (map lun_of ls) n k (lun_of d) (lun_of l) place (is ∙ ap (view_after a) (sym (map_get lun_of ls k d)))

pub none_written : (a : Effect) (ls : List OnfiseqLun) (n k : ℕ) → k ≡ n → length ls ≤ k → luns_of ls ≡ one_after a n (luns_of ls)
none_written a ls n k place beyond =
    let same = map_length lun_of ls in
    let past : length (map lun_of ls) ≤ n = omega (arith, same, place, beyond) in
    one_beyond a (map lun_of ls) n past

-- the first of a list changed by a cycle, and those behind it
pub first_changed : (g : Parts) (t : TailFacts) (sole : Bool) (cycle : TargetCycle) (n m : ℕ) (ls first rest later : List OnfiseqLun) (l d : OnfiseqLun)
    → ls ≡ first ++ rest → length first ≡ 1 → m ≡ n + 1
    → lun_of l ≡ view_after (cycle_effect g t (cond sole (lun_of (get_or first 0 d)).latch Off) cycle n) (lun_of (get_or first 0 d))
    → luns_of later ≡ luns_after_cycle g t sole cycle m (luns_of rest)
    → luns_of (slice_set first 0 l ++ later) ≡ luns_after_cycle g t sole cycle n (luns_of ls)
first_changed g t sole cycle n m ls [] rest later l d all one next is behind = cc
first_changed g t sole cycle n m ls (x ∷ y ∷ ys) rest later l d all one next is behind = absurd (omega (arith, one))
first_changed g t sole cycle n m ls (x ∷ []) rest later l d all one next is behind =
    ap (λ (v : LunView). v ∷ luns_of later) is
    ∙ ap (λ (vs : List LunView). view_after (cycle_effect g t (cond sole (lun_of x).latch Off) cycle n) (lun_of x) ∷ vs)
    (behind ∙ ap (λ (k : ℕ). luns_after_cycle g t sole cycle k (luns_of rest)) next)
    ∙ sym (ap (λ (xs : List OnfiseqLun). luns_after_cycle g t sole cycle n (luns_of xs)) all)

pub first_numbers : (first later : List OnfiseqLun) (l : OnfiseqLun) → length first ≡ 1 → IsRecord l → All IsRecord later → All IsRecord (slice_set first 0 l ++ later)
first_numbers [] later l one here behind = cc
first_numbers (x ∷ y ∷ ys) later l one here behind = absurd (omega (arith, one))
first_numbers (x ∷ []) later l one here behind = each
  where
    each : All IsRecord (l ∷ later)
    each zero d h = here
    each (suc k) d h = let low : k < length later = omega (arith, h) in behind k d low

-- ---- the bounds of the records

pub are_little : (g : Parts) (t : TailFacts) (n : ℕ) (ls : List OnfiseqLun) → LunsFit g t n (luns_of ls) → AreLittle ls
are_little g t n [] f = tt
are_little g t n (l ∷ ls) f = (f.0.outputs, f.0.array_page, are_little g t (n + 1) ls f.3)

pub have_room_each : (vs : List LunView) → All HasRoom vs → HaveRoom vs
have_room_each [] h = tt
have_room_each (v ∷ vs) h = (h zero v (omega arith), have_room_each vs (λ k d low. let there : suc k < length (v ∷ vs) = omega (arith, low) in h (suc k) d there))

-- the first ones of an array, written, with those behind
pub take_front : {X : Type 0} (xs ys : List X) (n : ℕ) → length xs ≡ n → take n (xs ++ ys) ≡ xs
take_front [] ys zero h = refl
take_front [] ys (suc n) h = cc
take_front (x ∷ xs) ys zero h = cc
take_front (x ∷ xs) ys (suc n) h = let same : length xs ≡ n = omega (arith, h) in ap (λ zs. x ∷ zs) (take_front xs ys n same)

-- the first ones of an array that is the same
pub same_first : (n m : ℕ) (xs ys : List OnfiseqLun) → n ≡ m → xs ≡ ys → take n xs ≡ take m ys
same_first n m xs ys counts all = ap (λ (k : ℕ). take k xs) counts ∙ ap (take m) all

-- ---- a target after a cycle

pub room_after : (g : Parts) → InLimits g → (n : ℕ) (c : Cycle) (cycle : TargetCycle) (s : TargetView) (later : TailFacts) → cycle ≡ target_cycle c.kind c.byte → later ≡ facts_after cycle s.tail
    → later.column < 65536 → judge g n s.tail s.luns (Cyc c) ≡ None → TargetFits g s → HaveRoom (luns_after_cycle g s.tail (has_driver s.luns) cycle 0 s.luns)
room_after g limits n c cycle s later is tail small permitted f =
    let u : TargetView = target later (luns_after_cycle g s.tail (has_driver s.luns) cycle 0 s.luns) in
    have_room_each u.luns (have_room g u (after_fits g limits n (Cyc c) s u permitted (target_cycled g c cycle s u is tail refl) small f))

-- a permitted output has its driver
pub is_driven : (g : Parts) (n : ℕ) (c : Cycle) (s : TargetView) → c.kind ≡ Dout → judge g n s.tail s.luns (Cyc c) ≡ None → has_driver s.luns ≡ true
is_driven g n c s kind permitted =
    let same : judge g n s.tail s.luns (cycle_at c.ce Dout c.byte) ≡ None = ap (λ (k : Kind). judge g n s.tail s.luns (Cyc (record { ce = c.ce; kind = k; byte = c.byte }))) (sym kind) ∙ permitted in
    let gives = gives_more g n c.ce c.byte s same in
    ap (is_some_and (λ v. true)) gives.is_one

pub after_output : (g : Parts) (n : ℕ) (c : Cycle) (s u : TargetView) → c.kind ≡ Dout → judge g n s.tail s.luns (Cyc c) ≡ None → u.tail ≡ facts_after OutputCycle s.tail
    → u.luns ≡ luns_after_cycle g s.tail true OutputCycle 0 s.luns → u ≡ target_after g (Cyc c) s
after_output g n c s u kind permitted tail luns =
    target_cycled g c OutputCycle s u (ap (λ (k : Kind). target_cycle k c.byte) (sym kind)) tail
    (luns ∙ ap (λ (b : Bool). luns_after_cycle g s.tail b OutputCycle 0 s.luns) (sym (is_driven g n c s kind permitted)))

-- an input takes no place in a queue
pub input_room : (g : Parts) (s : TargetView) → TargetFits g s → HaveRoom (luns_left (effect_of_input g s.tail) s.luns)
input_room g s f = input_keeps_room g s.tail s.luns (have_room_each s.luns (have_room g s f))

pub after_input : (g : Parts) (c : Cycle) (s u : TargetView) → c.kind ≡ Din → u.tail ≡ facts_after (InputCycle c.byte) s.tail → u.luns ≡ luns_left (effect_of_input g s.tail) s.luns → u ≡ target_after g (Cyc c) s
after_input g c s u kind tail luns =
    target_cycled g c (InputCycle c.byte) s u (ap (λ (k : Kind). target_cycle k c.byte) (sym kind)) tail
    (luns ∙ input_left g s.tail c.byte s.luns)

-- ---- a step of a target

pub is_stay : (g : Parts) (n : ℕ) (old : OnfiseqTarget) (i : Item) (rule : Forbidden) → IsTarget old → TargetFits g (target_of old) → Some rule ≡ judge g n (target_of old).tail (target_of old).luns i
    → IsStep g n old old i (Some rule)
is_stay g n old i rule numbers fits is =
    record {
      rule = is;
      state = ap (λ (o : Option Forbidden). by_option o (target_after g i (target_of old)) (λ (r : Forbidden). target_of old)) is;
      refused = refl;
      numbers = numbers;
      fits = fits;
    }

pub is_step : (g : Parts) → InLimits g → (n : ℕ) (old new : OnfiseqTarget) (i : Item) → IsTarget new → TargetFits g (target_of old) → judge g n (target_of old).tail (target_of old).luns i ≡ None
    → target_of new ≡ target_after g i (target_of old) → new.column < 65536 → IsStep g n old new i None
is_step g limits n old new i numbers fits permitted is small =
    record {
      rule = sym permitted;
      state = is ∙ ap (λ (o : Option Forbidden). by_option o (target_after g i (target_of old)) (λ (r : Forbidden). target_of old)) (sym permitted);
      refused = tt;
      numbers = numbers;
      fits = after_fits g limits n i (target_of old) (target_of new) permitted is small fits;
    }

-- a record that is written back as it was
pub kept_same : (k : Kept) (ce : ℕ) (t d : OnfiseqTarget) → t ≡ get_or k.targets ce d → record { magic = k.magic; geometry = k.geometry; count = k.count; targets = slice_set k.targets ce t } ≡ k
kept_same k ce t d is =
    let back : slice_set k.targets ce t ≡ k.targets = ap (slice_set k.targets ce) is ∙ set_same k.targets ce d in
    ap (λ (ts : List OnfiseqTarget). record { magic = k.magic; geometry = k.geometry; count = k.count; targets = ts }) back

pub if_refused : (o : Option Forbidden) (k later kept : Kept) (ce : ℕ) (t d : OnfiseqTarget) → IfSome o (λ rule. t ≡ get_or k.targets ce d)
    → later ≡ record { magic = k.magic; geometry = k.geometry; count = k.count; targets = slice_set k.targets ce t } → k ≡ kept → IfSome o (λ rule. later ≡ kept)
if_refused None k later kept ce t d is made same = tt
if_refused (Some rule) k later kept ce t d is made same = made ∙ (kept_same k ce t d is ∙ same)

-- the first of a list changed so, and those behind it
pub first_mapped : (f : LunView → LunView) (ls first rest later : List OnfiseqLun) (l d : OnfiseqLun) → ls ≡ first ++ rest → length first ≡ 1 → lun_of l ≡ f (lun_of (get_or first 0 d))
    → luns_of later ≡ map f (luns_of rest) → luns_of (slice_set first 0 l ++ later) ≡ map f (luns_of ls)
first_mapped f ls [] rest later l d all one is behind = cc
first_mapped f ls (x ∷ y ∷ ys) rest later l d all one is behind = absurd (omega (arith, one))
first_mapped f ls (x ∷ []) rest later l d all one is behind =
    ap (λ (v : LunView). v ∷ luns_of later) is
    ∙ ap (λ (vs : List LunView). f (lun_of x) ∷ vs) behind
    ∙ sym (ap (λ (xs : List OnfiseqLun). map f (luns_of xs)) all)

-- the first of a list changed by one effect of two, and those behind it
pub first_apart : (n m lun : ℕ) (e other : Effect) (ls first rest later : List OnfiseqLun) (l d : OnfiseqLun) → ls ≡ first ++ rest → length first ≡ 1 → m ≡ n + 1
    → lun_of l ≡ view_after (cond (n == lun) e other) (lun_of (get_or first 0 d)) → luns_of later ≡ apart_from m lun e other (luns_of rest)
    → luns_of (slice_set first 0 l ++ later) ≡ apart_from n lun e other (luns_of ls)
first_apart n m lun e other ls [] rest later l d all one next is behind = cc
first_apart n m lun e other ls (x ∷ y ∷ ys) rest later l d all one next is behind = absurd (omega (arith, one))
first_apart n m lun e other ls (x ∷ []) rest later l d all one next is behind =
    ap (λ (v : LunView). v ∷ luns_of later) is
    ∙ ap (λ (vs : List LunView). view_after (cond (n == lun) e other) (lun_of x) ∷ vs)
    (behind ∙ ap (λ (k : ℕ). apart_from k lun e other (luns_of rest)) next)
    ∙ sym (ap (λ (xs : List OnfiseqLun). apart_from n lun e other (luns_of xs)) all)

-- the bounds of the first of a list, and of those behind it
pub first_little : (ls first rest : List OnfiseqLun) (d : OnfiseqLun) → ls ≡ first ++ rest → length first ≡ 1 → AreLittle ls → AreLittle (get_or first 0 d ∷ rest)
first_little ls [] rest d all one h = cc
first_little ls (x ∷ y ∷ ys) rest d all one h = absurd (omega (arith, one))
first_little ls (x ∷ []) rest d all one h = subst AreLittle all h

pub first_room : (f : LunView → LunView) (ls first rest : List OnfiseqLun) (d : OnfiseqLun) → ls ≡ first ++ rest → length first ≡ 1 → HaveRoom (map f (luns_of ls)) → HaveRoom (f (lun_of (get_or first 0 d)) ∷ map f (luns_of rest))
first_room f ls [] rest d all one h = cc
first_room f ls (x ∷ y ∷ ys) rest d all one h = absurd (omega (arith, one))
first_room f ls (x ∷ []) rest d all one h = subst (λ (xs : List OnfiseqLun). HaveRoom (map f (luns_of xs))) all h

-- the bounds of the one of a number
pub one_little : (ls : List OnfiseqLun) (k : ℕ) (d : OnfiseqLun) → k < length ls → AreLittle ls → ((get_or ls k d).outputs ≤ 65536) × ((get_or ls k d).array_page < 4294967296)
one_little [] k d h a = absurd (omega (arith, h))
one_little (l ∷ ls) zero d h a = (a.0, a.1)
one_little (l ∷ ls) (suc k) d h a = one_little ls k d (omega (arith, h)) a.2

pub one_room : (e : Effect) (ls : List OnfiseqLun) (k n : ℕ) (d : OnfiseqLun) → k ≡ n → k < length ls → HaveRoom (one_after e n (luns_of ls)) → HasRoom (view_after e (lun_of (get_or ls k d)))
one_room e ls k n d place low h = at ls k low (subst (λ (m : ℕ). HaveRoom (one_after e m (luns_of ls))) (sym place) h)
  where
    at : (xs : List OnfiseqLun) (m : ℕ) → m < length xs → HaveRoom (one_after e m (luns_of xs)) → HasRoom (view_after e (lun_of (get_or xs m d)))
    at [] m low room = absurd (omega (arith, low))
    at (x ∷ xs) zero low room = room.0
    at (x ∷ xs) (suc m) low room = at xs m (omega (arith, low)) room.1

pub first_apart_room : (n lun : ℕ) (e other : Effect) (ls first rest : List OnfiseqLun) (d : OnfiseqLun) → ls ≡ first ++ rest → length first ≡ 1 → HaveRoom (apart_from n lun e other (luns_of ls))
    → HaveRoom (view_after (cond (n == lun) e other) (lun_of (get_or first 0 d)) ∷ apart_from (n + 1) lun e other (luns_of rest))
first_apart_room n lun e other ls [] rest d all one h = cc
first_apart_room n lun e other ls (x ∷ y ∷ ys) rest d all one h = absurd (omega (arith, one))
first_apart_room n lun e other ls (x ∷ []) rest d all one h = subst (λ (xs : List OnfiseqLun). HaveRoom (apart_from n lun e other (luns_of xs))) all h
