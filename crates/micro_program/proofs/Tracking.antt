-- Claims that are tracked move by move: they make the moves own, and they hold of the trace after them.
use Rattle.std.proofs.Common.{◌≡◌, ℕ, List, [], ◌∷◌, Option, Some, None, refl, sym, ap, ◌∙◌, subst}
use Rattle.nand_geometry.specs.declared.parts.Parts.{Parts}
use Rattle.onfi_cycle.specs.declared.lun.Lun.{Lun}
use Rattle.onfi_cycle.specs.declared.item.Item.{Item}
use Rattle.onfi_cycle.specs.declared.item.Kind.{Kind}
use Rattle.onfi_cycle.specs.declared.item.Kind.TheVariants.{Dout}
use Rattle.onfi_cycle.specs.Channel.{Channel, IsOwn, cycle}
use Rattle.micro_program.specs.Lines.{Line}
use Rattle.micro_program.specs.Program.{Job, Done}
use Rattle.micro_program.specs.Moves.{Move, Give, Take, moves, and_then}
use Rattle.micro_program.specs.Played.{Played, answered, played, with_byte}
use Rattle.micro_program.specs.Step.{Stride, stride, answered_step, next_step}
use Rattle.micro_program.specs.Safe.{MovesAreOwn}

-- claims of a trace and of the moves that are still to come on it: each move is own, and what is claimed goes on behind it
pub record AreTracked (s : Channel) (l : Lun) (Claims : List Move → List Item → Type 0) : Type 0 where
  pub give : (kind : Kind) (byte : ℕ) (rest : List Move) (past : List Item) → Claims (Give kind byte ∷ rest) past → IsOwn s l past (cycle l.ce kind byte) × Claims rest (cycle l.ce kind byte ∷ past)
  pub take : (rest : List Move) (past : List Item) → Claims (Take ∷ rest) past → (byte : ℕ) → IsOwn s l past (cycle l.ce Dout byte) × Claims rest (cycle l.ce Dout byte ∷ past)

pub own_moves : (s : Channel) (l : Lun) (Claims : List Move → List Item → Type 0) → AreTracked s l Claims → (moved : List Move) (past : List Item) → Claims moved past → MovesAreOwn s l moved past
own_moves s l Claims k [] past c = tt
own_moves s l Claims k (Give kind byte ∷ rest) past c =
    let g = k.give kind byte rest past c in
    (g.0, own_moves s l Claims k rest (cycle l.ce kind byte ∷ past) g.1)
own_moves s l Claims k (Take ∷ rest) past c = λ byte.
    let t = k.take rest past c byte in
    (t.0, own_moves s l Claims k rest (cycle l.ce Dout byte ∷ past) t.1)

pub after_moves : (s : Channel) (l : Lun) (Claims : List Move → List Item → Type 0) → AreTracked s l Claims → (moved : List Move) (bytes : List ℕ) (past : List Item) (p : Played) → Claims moved past → answered l.ce moved bytes past ≡ Some p → Claims [] p.past
after_moves s l Claims k [] [] past p c e =
    let both : Some (record { past = past; bytes = [] }) ≡ Some p = e in
    let same : record { past = past; bytes = [] } ≡ p = cc in
    subst (λ (q : Played). Claims [] q.past) same c
after_moves s l Claims k [] (byte ∷ bytes) past p c e = cc
after_moves s l Claims k (Give kind byte ∷ rest) bytes past p c e = after_moves s l Claims k rest bytes (cycle l.ce kind byte ∷ past) p (k.give kind byte rest past c).1 e
after_moves s l Claims k (Take ∷ rest) [] past p c e = cc
after_moves s l Claims k (Take ∷ rest) (byte ∷ bytes) past p c e = at (answered l.ce rest bytes (cycle l.ce Dout byte ∷ past)) refl e (λ q f. after_moves s l Claims k rest bytes (cycle l.ce Dout byte ∷ past) q ((k.take rest past c byte).1) f)
  where
    at : (o : Option Played) → answered l.ce rest bytes (cycle l.ce Dout byte ∷ past) ≡ o → and_then o (with_byte byte) ≡ Some p → ((q : Played) → answered l.ce rest bytes (cycle l.ce Dout byte ∷ past) ≡ Some q → Claims [] q.past) → Claims [] p.past
    at None f h behind = cc
    at (Some q) f h behind =
        let both : Some (record { past = q.past; bytes = byte ∷ q.bytes }) ≡ Some p = h in
        let same : record { past = q.past; bytes = byte ∷ q.bytes } ≡ p = cc in
        subst (λ (x : Played). Claims [] x.past) same (behind q f)

-- the parts of a step: its moves, what they made of the trace, and what the word left
pub record AnsweredParts (g : Parts) (j : Job) (bytes : List ℕ) (past : List Item) (line : Line) (rest : List Line) (done : List Done) (r : Stride) : Type 0 where
  pub moved : List Move
  pub is_moved : moves g j done line.word ≡ Some moved
  pub p : Played
  pub is_p : answered j.lun.ce moved bytes past ≡ Some p
  pub is_r : stride line rest done p line.word ≡ r

pub answered_parts : (g : Parts) (j : Job) (bytes : List ℕ) (past : List Item) (line : Line) (rest : List Line) (done : List Done) (r : Stride) → answered_step g j bytes past (line ∷ rest) done ≡ Some r → AnsweredParts g j bytes past line rest done r
answered_parts g j bytes past line rest done r e = at (moves g j done line.word) refl e
  where
    then_played : (moved : List Move) (o : Option Played) → moves g j done line.word ≡ Some moved → answered j.lun.ce moved bytes past ≡ o → and_then o (λ p. Some (stride line rest done p line.word)) ≡ Some r → AnsweredParts g j bytes past line rest done r
    then_played moved None m q e = cc
    then_played moved (Some p) m q e =
        let both : Some (stride line rest done p line.word) ≡ Some r = e in
        record { moved = moved; is_moved = m; p = p; is_p = q; is_r = cc }

    at : (o : Option (List Move)) → moves g j done line.word ≡ o → and_then o (λ moved. and_then (answered j.lun.ce moved bytes past) (λ p. Some (stride line rest done p line.word))) ≡ Some r → AnsweredParts g j bytes past line rest done r
    at None m e = cc
    at (Some moved) m e = then_played moved (answered j.lun.ce moved bytes past) m refl e

-- a step of a word that moves nothing
pub quiet_step : (g : Parts) (j : Job) (bytes : List ℕ) (past : List Item) (line : Line) (rest : List Line) (done : List Done) (r : Stride) → moves g j done line.word ≡ Some [] → answered_step g j bytes past (line ∷ rest) done ≡ Some r → stride line rest done (record { past = past; bytes = [] }) line.word ≡ r
quiet_step g j bytes past line rest done r m e =
    let parts = answered_parts g j bytes past line rest done r e in
    let none : parts.moved ≡ [] = let both : Some parts.moved ≡ Some [] = sym parts.is_moved ∙ m in cc in
    let is_p = nothing bytes parts.p (subst (λ (q : List Move). answered j.lun.ce q bytes past ≡ Some parts.p) none parts.is_p) in
    ap (λ (p : Played). stride line rest done p line.word) is_p ∙ parts.is_r
  where
    nothing : (xs : List ℕ) (p : Played) → answered j.lun.ce [] xs past ≡ Some p → record { past = past; bytes = [] } ≡ p
    nothing [] p h = let both : Some (let q : Played = record { past = past; bytes = [] } in q) ≡ Some p = h in cc
    nothing (x ∷ xs) p h = cc

-- the same on a model
pub record StepParts (s : Channel) (j : Job) (past : List Item) (line : Line) (rest : List Line) (done : List Done) (r : Stride) : Type 0 where
  pub moved : List Move
  pub is_moved : moves s.geometry j done line.word ≡ Some moved
  pub p : Played
  pub is_p : played s j.lun.ce moved past ≡ Some p
  pub is_r : stride line rest done p line.word ≡ r

pub step_parts : (s : Channel) (j : Job) (past : List Item) (line : Line) (rest : List Line) (done : List Done) (r : Stride) → next_step s j past (line ∷ rest) done ≡ Some r → StepParts s j past line rest done r
step_parts s j past line rest done r e = at (moves s.geometry j done line.word) refl e
  where
    then_played : (moved : List Move) (o : Option Played) → moves s.geometry j done line.word ≡ Some moved → played s j.lun.ce moved past ≡ o → and_then o (λ p. Some (stride line rest done p line.word)) ≡ Some r → StepParts s j past line rest done r
    then_played moved None m q e = cc
    then_played moved (Some p) m q e =
        let both : Some (stride line rest done p line.word) ≡ Some r = e in
        record { moved = moved; is_moved = m; p = p; is_p = q; is_r = cc }

    at : (o : Option (List Move)) → moves s.geometry j done line.word ≡ o → and_then o (λ moved. and_then (played s j.lun.ce moved past) (λ p. Some (stride line rest done p line.word))) ≡ Some r → StepParts s j past line rest done r
    at None m e = cc
    at (Some moved) m e = then_played moved (played s j.lun.ce moved past) m refl e
