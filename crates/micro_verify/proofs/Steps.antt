-- Moves that are played one after another, up to one that isn't permitted.
use Rattle.std.proofs.Common.{◌≡◌, ℕ, zero, suc, ◌+◌, ◌<◌, true, false, List, [], ◌∷◌, ◌++◌, Option, Some, None, refl, sym, ap, ◌∙◌, subst, arith, length, reverse, map, drop, get_or, is_none}
use Rattle.std.proofs.Math.Seq.{drop-cons}
use Rattle.onfi_cycle.specs.declared.item.Cycle.{Cycle}
use Rattle.onfi_cycle.specs.declared.item.Item.{Item}
use Rattle.onfi_cycle.specs.declared.item.Item.TheVariants.{Cyc}
use Rattle.onfi_cycle.specs.declared.item.Kind.TheVariants.{Dout}
use Rattle.onfi_cycle.specs.Permitted.{broken}
use Rattle.onfi_cycle.specs.Rules.{breaks_not_there}
use Rattle.onfi_cycle.specs.Channel.{Channel, cycle, bus_byte}
use Rattle.target_bus.specs.Bus.{Traced, channel_of, IsNext}
use Rattle.micro_program.specs.Moves.{Move, Give, Take, and_then}
use Rattle.micro_program.specs.Played.{Played, played, with_byte}
use Rattle.onfi_cycle.specs.Content.{written}
use Rattle.std.specs.Prelude.{slice_set}
use Rattle.micro_verify.specs.declared.moves.Move.{Move as Told}
use Rattle.micro_verify.specs.Lazy.{item_of, Counter, counter_in}
use Rattle.micro_verify.specs.Playing.{meant, with_bytes, HasGone, HasPlayed}

-- 1. one move

-- a byte was taken
pub took_gone : (old new : Traced) (before middle after : List ℕ) (byte : ℕ) → broken old.geometry old.targets old.past (cycle 0 Dout byte) ≡ None → bus_byte (channel_of old) old.past 0 ≡ Some byte → IsNext old new (cycle 0 Dout byte) → middle ≡ before → after ≡ middle ++ (byte ∷ []) → HasGone old new Take before after true
unfolding breaks_not_there
took_gone old new before middle after byte none shown next same added =
    (none, next.channel, (byte ∷ [], rw shown (ap (λ (p : List Item). Some (let q : Played = record { past = p; bytes = byte ∷ [] } in q)) (sym next.past)), added ∙ ap (λ (xs : List ℕ). xs ++ (byte ∷ [])) same))

-- 2. moves, one by one

-- the moves up to here were played; what is still to come tells the rest
pub record IsPlaying (old now : Traced) (all rest : List Move) (bytes : List ℕ) : Type 0 where
  pub same : channel_of now ≡ channel_of old
  pub counter : counter_in (channel_of old) all old.past ≡ counter_in (channel_of old) rest now.past
  pub plays : played (channel_of old) 0 all old.past ≡ and_then (played (channel_of old) 0 rest now.past) (with_bytes bytes)

with_none : (o : Option Played) → o ≡ and_then o (with_bytes [])
with_none None = refl
with_none (Some p) = refl

append_three : (xs ys zs : List ℕ) → xs ++ (ys ++ zs) ≡ (xs ++ ys) ++ zs
append_three [] ys zs = refl
append_three (x ∷ xs) ys zs = ap (λ (l : List ℕ). x ∷ l) (append_three xs ys zs)

append_none : (xs : List ℕ) → xs ++ [] ≡ xs
append_none [] = refl
append_none (x ∷ xs) = ap (λ (l : List ℕ). x ∷ l) (append_none xs)

with_more : (o : Option Played) (xs ys : List ℕ) → and_then (and_then o (with_bytes ys)) (with_bytes xs) ≡ and_then o (with_bytes (xs ++ ys))
with_more None xs ys = refl
with_more (Some p) xs ys = ap (λ (l : List ℕ). Some (let q : Played = record { past = p.past; bytes = l } in q)) (append_three xs ys p.bytes)

same_played : (p q : Played) → Some p ≡ Some q → p ≡ q
same_played p q e = cc

-- a move and those after it
played_next : (s : Channel) (move : Move) (rest : List Move) (past : List Item) (p : Played) → played s 0 (move ∷ []) past ≡ Some p → played s 0 (move ∷ rest) past ≡ and_then (played s 0 rest p.past) (with_bytes p.bytes)
played_next s (Give kind byte) rest past p e =
    let one : Played = record { past = cycle 0 kind byte ∷ past; bytes = [] } in
    let same : one ≡ p = same_played one p e in
    with_none (played s 0 rest (cycle 0 kind byte ∷ past)) ∙ ap (λ (q : Played). and_then (played s 0 rest q.past) (with_bytes q.bytes)) same
played_next s Take rest past p e = at (bus_byte s past 0) refl e
  where
    at : (o : Option ℕ) → bus_byte s past 0 ≡ o → and_then o (λ byte. and_then (Some (let q : Played = record { past = cycle 0 Dout byte ∷ past; bytes = [] } in q)) (with_byte byte)) ≡ Some p → played s 0 (Take ∷ rest) past ≡ and_then (played s 0 rest p.past) (with_bytes p.bytes)
    at None is h = cc
    at (Some byte) is h =
        let one : Played = record { past = cycle 0 Dout byte ∷ past; bytes = byte ∷ [] } in
        let same : one ≡ p = same_played one p h in
        rw is (ap (λ (q : Played). and_then (played s 0 rest q.past) (with_bytes q.bytes)) same)

pub begins : (old : Traced) (all : List Move) (bytes : List ℕ) → bytes ≡ [] → IsPlaying old old all all bytes
begins old all bytes none =
    record { same = refl; counter = refl; plays = with_none (played (channel_of old) 0 all old.past) ∙ ap (λ (xs : List ℕ). and_then (played (channel_of old) 0 all old.past) (with_bytes xs)) (sym none) }

went_on : (old now next : Traced) (all rest : List Move) (move : Move) (bytes after got : List ℕ) → IsPlaying old now all (move ∷ rest) bytes → broken now.geometry now.targets now.past (item_of move) ≡ None → channel_of next ≡ channel_of now → played (channel_of now) 0 (move ∷ []) now.past ≡ Some (record { past = next.past; bytes = got }) → after ≡ bytes ++ got → IsPlaying old next all rest after
went_on old now next all rest move bytes after got p none same plays added =
    let s = channel_of now in
    let one : Played = record { past = next.past; bytes = got } in
    let counter : counter_in s (move ∷ rest) now.past ≡ counter_in s rest next.past = rw (none, plays) refl in
    let more : played s 0 (move ∷ rest) now.past ≡ and_then (played s 0 rest next.past) (with_bytes got) = played_next s move rest now.past one plays in
    record {
      same = same ∙ p.same;
      counter = p.counter ∙ subst (λ (c : Channel). counter_in c (move ∷ rest) now.past ≡ counter_in c rest next.past) p.same counter;
      plays = p.plays
          ∙ (ap (λ (o : Option Played). and_then o (with_bytes bytes)) (subst (λ (c : Channel). played c 0 (move ∷ rest) now.past ≡ and_then (played c 0 rest next.past) (with_bytes got)) p.same more)
          ∙ (with_more (played (channel_of old) 0 rest next.past) bytes got ∙ ap (λ (xs : List ℕ). and_then (played (channel_of old) 0 rest next.past) (with_bytes xs)) (sym added)));
    }

stopped : (old now : Traced) (all rest : List Move) (move : Move) (bytes : List ℕ) (stop : Cycle) → IsPlaying old now all (move ∷ rest) bytes → is_none (broken now.geometry now.targets now.past (item_of move)) ≡ false → Cyc stop ≡ item_of move → counter_in (channel_of old) all old.past ≡ Some (record { items = reverse now.past; cycle = Cyc stop })
stopped old now all rest move bytes stop p breaks is =
    let s = channel_of now in
    let counter : counter_in s (move ∷ rest) now.past ≡ Some (record { items = reverse now.past; cycle = item_of move }) = rw breaks refl in
    p.counter ∙ (subst (λ (c : Channel). counter_in c (move ∷ rest) now.past ≡ Some (record { items = reverse now.past; cycle = item_of move })) p.same counter ∙ ap (λ (i : Item). Some (let c : Counter = record { items = reverse now.past; cycle = i } in c)) (sym is))

-- 3. moves that code tells

rest_told : (moves : List Told) (k : ℕ) (d : Told) → k < length moves → map meant (drop k moves) ≡ meant (get_or moves k d) ∷ map meant (drop (k + 1) moves)
rest_told moves k d h =
    let next : suc k ≡ k + 1 = omega arith in
    ap (map meant) (drop-cons moves k d h) ∙ ap (λ (n : ℕ). meant (get_or moves k d) ∷ map meant (drop n moves)) next

abbrev pub ArePlayed : Traced → Traced → List Told → ℕ → List ℕ → Type 0
ArePlayed old now moves k bytes = IsPlaying old now (map meant moves) (map meant (drop k moves)) bytes

pub next_played : (old now next : Traced) (moves : List Told) (k : ℕ) (d : Told) (bytes after : List ℕ) → k < length moves → ArePlayed old now moves k bytes → HasGone now next (meant (get_or moves k d)) bytes after true → ArePlayed old next moves (k + 1) after
next_played old now next moves k d bytes after h p gone =
    went_on old now next (map meant moves) (map meant (drop (k + 1) moves)) (meant (get_or moves k d)) bytes after gone.2.0 (subst (λ (rest : List Move). IsPlaying old now (map meant moves) rest bytes) (rest_told moves k d h) p) gone.0 gone.1 gone.2.1 gone.2.2

pub next_stopped : (old now next : Traced) (moves : List Told) (k : ℕ) (d : Told) (bytes after : List ℕ) (stop : Cycle) → k < length moves → ArePlayed old now moves k bytes → HasGone now next (meant (get_or moves k d)) bytes after false → Cyc stop ≡ item_of (meant (get_or moves k d)) → HasPlayed old next (map meant moves) after (Some stop)
next_stopped old now next moves k d bytes after stop h p gone is =
    let here = stopped old now (map meant moves) (map meant (drop (k + 1) moves)) (meant (get_or moves k d)) bytes stop (subst (λ (rest : List Move). IsPlaying old now (map meant moves) rest bytes) (rest_told moves k d h) p) gone.0 is in
    record {
      same = ap channel_of gone.1 ∙ p.same;
      come = here ∙ ap (λ (b : Traced). Some (let c : Counter = record { items = reverse b.past; cycle = Cyc stop } in c)) (sym gone.1);
    }

none_left : (moves : List Told) (k : ℕ) → length moves ≡ k → drop k moves ≡ []
none_left [] zero h = refl
none_left [] (suc k) h = refl
none_left (m ∷ moves) zero h = absurd (omega (arith, h))
none_left (m ∷ moves) (suc k) h = none_left moves k (omega (arith, h))

pub all_played : (old now : Traced) (moves : List Told) (k : ℕ) (bytes : List ℕ) → length moves ≡ k → ArePlayed old now moves k bytes → HasPlayed old now (map meant moves) bytes None
all_played old now moves k bytes h p =
    let q = subst (λ (rest : List Told). IsPlaying old now (map meant moves) (map meant rest) bytes) (none_left moves k h) p in
    record {
      same = q.same;
      come = (q.counter, q.plays ∙ ap (λ (xs : List ℕ). Some (let r : Played = record { past = now.past; bytes = xs } in r)) (append_none bytes));
    }

-- 4. bytes that are written one after another

pub next_written : (bytes : List ℕ) (k place d : ℕ) (now next later : List ℕ) → k < length bytes → written (drop k bytes) (place + k) now ≡ later → next ≡ slice_set now (place + k) (get_or bytes k d) → written (drop (k + 1) bytes) (place + (k + 1)) next ≡ later
next_written bytes k place d now next later h before is =
    let one : suc k ≡ k + 1 = omega arith in
    let on : place + k + 1 ≡ place + (k + 1) = omega arith in
    let cons : drop k bytes ≡ get_or bytes k d ∷ drop (k + 1) bytes = drop-cons bytes k d h ∙ ap (λ (n : ℕ). get_or bytes k d ∷ drop n bytes) one in
    ap (λ (xs : List ℕ). written (drop (k + 1) bytes) (place + (k + 1)) xs) is
    ∙ (ap (λ (n : ℕ). written (drop (k + 1) bytes) n (slice_set now (place + k) (get_or bytes k d))) (sym on)
    ∙ (sym (ap (λ (xs : List ℕ). written xs (place + k) now) cons) ∙ before))
