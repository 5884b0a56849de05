-- Moves that are played on a bus, one after another.
use Rattle.std.proofs.Common.{◌≡◌, ◌≢◌, ℕ, zero, suc, ◌+◌, ◌<◌, ◌≤◌, List, [], ◌∷◌, ◌++◌, Option, Some, None, refl, sym, ap, ◌∙◌, subst, arith, length, take, drop, get_or, take-append-drop, ltb, false}
use Rattle.std.proofs.lemmas.Bool.Decides.{nat_tests}
use Rattle.std.proofs.lemmas.List.{drop_more}
use Rattle.onfi_cycle.specs.declared.lun.Lun.{Lun}
use Rattle.onfi_cycle.specs.declared.item.Kind.{Kind}
use Rattle.onfi_cycle.specs.declared.item.Kind.TheVariants.{Cmd, Adr}
use Rattle.onfi_cycle.specs.declared.item.Item.{Item}
use Rattle.onfi_cycle.specs.Command.{command}
use Rattle.onfi_cycle.specs.declared.forbidden.Forbidden.{Forbidden as Rule}
use Rattle.onfi_cycle.specs.Channel.{Channel, IsOwn, cycle}
use Rattle.micro_program.specs.Moves.{Move, Give, Take, gives}
use Rattle.micro_program.specs.Safe.{MovesAreOwn}
use Rattle.target_bus.specs.declared.refusal.BusRefusal.{BusRefusal}
use Rattle.target_bus.specs.declared.refusal.BusRefusal.TheVariants.{Forbidden, OutOfMemory}
use Rattle.target_bus.specs.Bus.{Traced, channel_of, Refuses}
use Rattle.seq_core.specs.Progress.{poll_at}
use Rattle.seq_core.specs.Calls.{Plays}
use Rattle.seq_core.specs.Playing.{IsQuiet, KeepsQuiet, HasPlayed, HasPolled}
pub use Rattle.seq_core.proofs.Plays.{own_first}
use Rattle.seq_core.proofs.Plays.{plays_append, own_rest, gives_append, gives_next}

-- what is permitted isn't refused but for want of memory
pub never_refused : (e : BusRefusal) (r : Option Rule) → Refuses e r → r ≡ None → e ≢ OutOfMemory → ⊥
never_refused (Forbidden f) r h none some = cc
never_refused OutOfMemory r h none some = some refl

pub play_more : (a b c : Traced) (ce : ℕ) (m1 m2 : List Move) (x1 x2 : List ℕ) (n1 n2 : ℕ) → HasPlayed a b ce m1 x1 n1 → HasPlayed b c ce m2 x2 n2 → HasPlayed a c ce (m1 ++ m2) (x1 ++ x2) (n1 + n2)
play_more a b c ce m1 m2 x1 x2 n1 n2 h k =
    record {
      same = k.same ∙ h.same;
      plays = plays_append (channel_of a) ce m1 m2 a.past b.past c.past x1 x2 h.plays (subst (λ (s : Channel). Plays s ce m2 b.past c.past x2) h.same k.plays);
      room = omega (arith, h.room, k.room);
    }

-- what is own behind the moves that were played
pub own_behind : (a b : Traced) (l : Lun) (m1 m2 : List Move) (bytes : List ℕ) (n : ℕ) → MovesAreOwn (channel_of a) l (m1 ++ m2) a.past → HasPlayed a b l.ce m1 bytes n → MovesAreOwn (channel_of b) l m2 b.past
own_behind a b l m1 m2 bytes n h k =
    subst (λ (s : Channel). MovesAreOwn s l m2 b.past) (sym k.same) (own_rest (channel_of a) l m1 m2 a.past b.past bytes h k.plays)

-- 1. bytes that are given

gives_split : (kind : Kind) (bytes : List ℕ) (k : ℕ) → gives kind bytes ≡ gives kind (take k bytes) ++ gives kind (drop k bytes)
gives_split kind bytes k = ap (gives kind) (sym (take-append-drop k bytes)) ∙ gives_append kind (take k bytes) (drop k bytes)

pub next_given : (a b : Traced) (l : Lun) (kind : Kind) (bytes : List ℕ) (k d : ℕ) → k < length bytes → MovesAreOwn (channel_of a) l (gives kind bytes) a.past → HasPlayed a b l.ce (gives kind (take k bytes)) [] k → IsOwn (channel_of b) l b.past (cycle l.ce kind (get_or bytes k d))
next_given a b l kind bytes k d below own h =
    let split = subst (λ (ms : List Move). MovesAreOwn (channel_of a) l ms a.past) (gives_split kind bytes k) own in
    let rest = own_behind a b l (gives kind (take k bytes)) (gives kind (drop k bytes)) [] k split h in
    let here = subst (λ (bs : List ℕ). MovesAreOwn (channel_of b) l (gives kind bs) b.past) (drop_more bytes k d below) rest in
    here.0

pub more_given : (a b c : Traced) (ce : ℕ) (kind : Kind) (bytes : List ℕ) (k d : ℕ) → k < length bytes → HasPlayed a b ce (gives kind (take k bytes)) [] k → HasPlayed b c ce (Give kind (get_or bytes k d) ∷ []) [] 1 → HasPlayed a c ce (gives kind (take (k + 1) bytes)) [] (k + 1)
more_given a b c ce kind bytes k d below h one =
    subst (λ (ms : List Move). HasPlayed a c ce ms [] (k + 1)) (sym (gives_next kind bytes k d below)) (play_more a b c ce (gives kind (take k bytes)) (Give kind (get_or bytes k d) ∷ []) [] [] k 1 h one)

take_all_of : (bytes : List ℕ) (k : ℕ) → length bytes ≤ k → take k bytes ≡ bytes
take_all_of [] zero h = refl
take_all_of [] (suc k) h = refl
take_all_of (byte ∷ bytes) zero h = absurd (omega arith)
take_all_of (byte ∷ bytes) (suc k) h = let less : length bytes ≤ k = omega arith in ap (λ (bs : List ℕ). byte ∷ bs) (take_all_of bytes k less)

pub all_given : (a b : Traced) (ce : ℕ) (kind : Kind) (bytes : List ℕ) (k : ℕ) → k ≡ length bytes → HasPlayed a b ce (gives kind (take k bytes)) [] k → HasPlayed a b ce (gives kind bytes) [] (length bytes)
all_given a b ce kind bytes k all h =
    let whole : length bytes ≤ k = omega (arith, all) in
    subst (λ (n : ℕ). HasPlayed a b ce (gives kind bytes) [] n) all (subst (λ (bs : List ℕ). HasPlayed a b ce (gives kind bs) [] k) (take_all_of bytes k whole) h)

-- 2. polls and addresses

pub quiet_status : (ce : ℕ) → IsQuiet ce Cmd 0x70
unfolding command
quiet_status ce = record { given = refl; starts_none = refl }

pub quiet_enhanced : (ce : ℕ) → IsQuiet ce Cmd 0x78
unfolding command
quiet_enhanced ce = record { given = refl; starts_none = refl }

pub quiet_address : (ce : ℕ) → KeepsQuiet ce Adr
quiet_address ce byte = record { given = refl; starts_none = refl }

-- the same trace on the same channel
pub own_same : (a b : Traced) (l : Lun) (moved : List Move) → channel_of b ≡ channel_of a → b.past ≡ a.past → MovesAreOwn (channel_of a) l moved a.past → MovesAreOwn (channel_of b) l moved b.past
own_same a b l moved same past own =
    subst (λ (t : List Item). MovesAreOwn (channel_of b) l moved t) (sym past) (subst (λ (s : Channel). MovesAreOwn s l moved a.past) (sym same) own)

pub plays_same : (a b c : Traced) (ce : ℕ) (moved : List Move) (bytes : List ℕ) (spent : ℕ) → channel_of b ≡ channel_of a → b.past ≡ a.past → HasPlayed b c ce moved bytes spent → Plays (channel_of a) ce moved a.past c.past bytes
plays_same a b c ce moved bytes spent same past h =
    subst (λ (t : List Item). Plays (channel_of a) ce moved t c.past bytes) past (subst (λ (s : Channel). Plays s ce moved b.past c.past bytes) same h.plays)

-- a poll: commands and addresses, and then an output
pub polled : (a b c d : Traced) (ce : ℕ) (before : List Move) (status n : ℕ) → channel_of b ≡ channel_of a → b.past ≡ a.past → HasPlayed b c ce before [] n → HasPlayed c d ce (Take ∷ []) (status ∷ []) 1 → HasPolled a d ce (before ++ (Take ∷ [])) status
polled a b c d ce before status n same past h k =
    let all = play_more b c d ce before (Take ∷ []) [] (status ∷ []) n 1 h k in
    record { same = all.same ∙ same; plays = plays_same a b d ce (before ++ (Take ∷ [])) (status ∷ []) (n + 1) same past all }

-- its output is own
pub own_last : (a b c : Traced) (l : Lun) (before : List Move) (n : ℕ) → channel_of b ≡ channel_of a → b.past ≡ a.past → MovesAreOwn (channel_of a) l (before ++ (Take ∷ [])) a.past → HasPlayed b c l.ce before [] n → MovesAreOwn (channel_of c) l (Take ∷ []) c.past
own_last a b c l before n same past own h = own_behind b c l before (Take ∷ []) [] n (own_same a b l (before ++ (Take ∷ [])) same past own) h

-- on a target with one LUN the poll is by 70h
pub own_single : (b : Traced) (l : Lun) (moved : List Move) → b.geometry.luns ≤ 1 → poll_at b.geometry l.lun ≡ Some moved → MovesAreOwn (channel_of b) l moved b.past → MovesAreOwn (channel_of b) l (Give Cmd 0x70 ∷ (Take ∷ [])) b.past
own_single b l moved few is own =
    let one : ltb 1 b.geometry.luns ≡ false = grind (arith, nat_tests) in
    let same : Give Cmd 0x70 ∷ (Take ∷ []) ≡ moved = some_moves (Give Cmd 0x70 ∷ (Take ∷ [])) moved (sym (rw one refl) ∙ is) in
    subst (λ (ms : List Move). MovesAreOwn (channel_of b) l ms b.past) (sym same) own
  where
    some_moves : (x y : List Move) → Some x ≡ Some y → x ≡ y
    some_moves x y h = cc
