-- Moves that are played one after another.
use Rattle.std.proofs.Common.{◌≡◌, ℕ, zero, suc, ◌+◌, ◌<◌, List, [], ◌∷◌, ◌++◌, Option, Some, None, refl, sym, ap, ◌∙◌, subst, arith, length, take, get_or}
use Rattle.onfi_cycle.specs.declared.item.Item.{Item}
use Rattle.onfi_cycle.specs.declared.item.Kind.{Kind}
use Rattle.onfi_cycle.specs.declared.item.Kind.TheVariants.{Dout}
use Rattle.onfi_cycle.specs.declared.lun.Lun.{Lun}
use Rattle.onfi_cycle.specs.Channel.{Channel, cycle, bus_byte}
use Rattle.micro_program.specs.Moves.{Move, Give, Take, and_then, gives}
use Rattle.micro_program.specs.Played.{Played, played, with_byte}
use Rattle.micro_program.specs.Safe.{MovesAreOwn}
use Rattle.seq_core.specs.Calls.{Plays}

-- the trace and the bytes of what was played
record SamePlayed (past later : List Item) (bytes more : List ℕ) : Type 0 where
  same_past : past ≡ later
  same_bytes : bytes ≡ more

same_played : (past later : List Item) (bytes more : List ℕ) → Some (let p : Played = record { past = past; bytes = bytes } in p) ≡ Some (record { past = later; bytes = more }) → SamePlayed past later bytes more
same_played past later bytes more h =
    let before : Played = record { past = past; bytes = bytes } in
    let behind : Played = record { past = later; bytes = more } in
    let same : before ≡ behind = cc in
    record { same_past = ap (λ (p : Played). p.past) same; same_bytes = ap (λ (p : Played). p.bytes) same }

-- an output that was played
pub record TookByte (s : Channel) (ce : ℕ) (rest : List Move) (past later : List Item) (bytes : List ℕ) : Type 0 where
  pub byte : ℕ
  pub is_byte : bus_byte s past ce ≡ Some byte
  pub more : List ℕ
  pub plays : Plays s ce rest (cycle ce Dout byte ∷ past) later more
  pub bytes_are : byte ∷ more ≡ bytes

pub took : (s : Channel) (ce : ℕ) (rest : List Move) (past later : List Item) (bytes : List ℕ) → Plays s ce (Take ∷ rest) past later bytes → TookByte s ce rest past later bytes
took s ce rest past later bytes e = at (bus_byte s past ce) refl e
  where
    behind : (byte : ℕ) (o : Option Played) → bus_byte s past ce ≡ Some byte → played s ce rest (cycle ce Dout byte ∷ past) ≡ o → and_then o (with_byte byte) ≡ Some (record { past = later; bytes = bytes }) → TookByte s ce rest past later bytes
    behind byte None is e f = cc
    behind byte (Some q) is e f =
        let same = same_played q.past later (byte ∷ q.bytes) bytes f in
        record { byte = byte; is_byte = is; more = q.bytes; plays = e ∙ ap (λ (t : List Item). Some (let p : Played = record { past = t; bytes = q.bytes } in p)) same.same_past; bytes_are = same.same_bytes }

    at : (o : Option ℕ) → bus_byte s past ce ≡ o → and_then o (λ byte. and_then (played s ce rest (cycle ce Dout byte ∷ past)) (with_byte byte)) ≡ Some (record { past = later; bytes = bytes }) → TookByte s ce rest past later bytes
    at None is e = cc
    at (Some byte) is e = behind byte (played s ce rest (cycle ce Dout byte ∷ past)) is refl e

-- one output
pub plays_take : (s : Channel) (ce : ℕ) (rest : List Move) (past later : List Item) (byte : ℕ) (bytes : List ℕ) → bus_byte s past ce ≡ Some byte → Plays s ce rest (cycle ce Dout byte ∷ past) later bytes → Plays s ce (Take ∷ rest) past later (byte ∷ bytes)
plays_take s ce rest past later byte bytes is e = rw is (rw e refl)

pub plays_append : (s : Channel) (ce : ℕ) (a b : List Move) (p q r : List Item) (xs ys : List ℕ) → Plays s ce a p q xs → Plays s ce b q r ys → Plays s ce (a ++ b) p r (xs ++ ys)
plays_append s ce [] b p q r xs ys h k =
    let same = same_played p q [] xs h in
    subst (λ (zs : List ℕ). Plays s ce b p r (zs ++ ys)) same.same_bytes (subst (λ (t : List Item). Plays s ce b t r ys) (sym same.same_past) k)
plays_append s ce (Give kind byte ∷ a) b p q r xs ys h k = plays_append s ce a b (cycle ce kind byte ∷ p) q r xs ys h k
plays_append s ce (Take ∷ a) b p q r xs ys h k =
    let t = took s ce a p q xs h in
    subst (λ (zs : List ℕ). Plays s ce (Take ∷ (a ++ b)) p r (zs ++ ys)) t.bytes_are
    (plays_take s ce (a ++ b) p r t.byte (t.more ++ ys) t.is_byte (plays_append s ce a b (cycle ce Dout t.byte ∷ p) q r t.more ys t.plays k))

-- the first of some own moves are own
pub own_first : (s : Channel) (l : Lun) (a b : List Move) (past : List Item) → MovesAreOwn s l (a ++ b) past → MovesAreOwn s l a past
own_first s l [] b past h = tt
own_first s l (Give kind byte ∷ a) b past h = (h.0, own_first s l a b (cycle l.ce kind byte ∷ past) h.1)
own_first s l (Take ∷ a) b past h = λ byte. ((h byte).0, own_first s l a b (cycle l.ce Dout byte ∷ past) (h byte).1)

-- and those behind them are, once they are played
pub own_rest : (s : Channel) (l : Lun) (a b : List Move) (past later : List Item) (bytes : List ℕ) → MovesAreOwn s l (a ++ b) past → Plays s l.ce a past later bytes → MovesAreOwn s l b later
own_rest s l [] b past later bytes h k = subst (λ (t : List Item). MovesAreOwn s l b t) (same_played past later [] bytes k).same_past h
own_rest s l (Give kind byte ∷ a) b past later bytes h k = own_rest s l a b (cycle l.ce kind byte ∷ past) later bytes h.1 k
own_rest s l (Take ∷ a) b past later bytes h k =
    let t = took s l.ce a past later bytes k in
    own_rest s l a b (cycle l.ce Dout t.byte ∷ past) later t.more (h t.byte).1 t.plays

-- the first k + 1 of some bytes
pub take_next : {X : Type 0} (xs : List X) (k : ℕ) (d : X) → k < length xs → take (k + 1) xs ≡ take k xs ++ (get_or xs k d ∷ [])
take_next {X = X} [] k d h = absurd (omega arith)
take_next {X = X} (x ∷ xs) zero d h = refl
take_next {X = X} (x ∷ xs) (suc k) d h =
    let next : suc k + 1 ≡ suc (k + 1) = omega arith in
    let below : k < length xs = omega arith in
    ap (λ (n : ℕ). take n (x ∷ xs)) next ∙ ap (λ (ys : List X). x ∷ ys) (take_next xs k d below)

pub gives_append : (kind : Kind) (xs ys : List ℕ) → gives kind (xs ++ ys) ≡ gives kind xs ++ gives kind ys
gives_append kind [] ys = refl
gives_append kind (x ∷ xs) ys = ap (λ (ms : List Move). Give kind x ∷ ms) (gives_append kind xs ys)

pub gives_next : (kind : Kind) (bytes : List ℕ) (k d : ℕ) → k < length bytes → gives kind (take (k + 1) bytes) ≡ gives kind (take k bytes) ++ (Give kind (get_or bytes k d) ∷ [])
gives_next kind bytes k d h = ap (gives kind) (take_next bytes k d h) ∙ gives_append kind (take k bytes) (get_or bytes k d ∷ [])
