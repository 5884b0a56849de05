-- A program that ends has done all that its text means.
use Rattle.std.proofs.Common.{◌≡◌, ℕ, Bool, true, false, cond, List, [], ◌∷◌, ◌++◌, Some, None, refl, ap, ◌∙◌, subst}
use Rattle.onfi_cycle.specs.declared.item.Item.{Item}
use Rattle.onfi_cycle.specs.Channel.{Channel}
use Rattle.micro_word.specs.declared.word.Word.{Word}
use Rattle.micro_word.specs.declared.word.Word.TheVariants.{End, Wait}
use Rattle.micro_program.specs.Lines.{Line}
use Rattle.micro_program.specs.Program.{Job, Done, Polled, is_ready_status}
use Rattle.micro_program.specs.Played.{Played}
use Rattle.micro_program.specs.Step.{Stride, Went, NotReady, did, first_byte, stride, answered_step}
use Rattle.micro_program.specs.Actions.{acts, answers_of}
use Rattle.seq_core.specs.World.{Slot}
use Rattle.seq_core.specs.Lawful.{HasEnded, DoesItsText}
use Rattle.seq_core.proofs.Below.{answered_parts}

append_none : {A : Type 0} (xs : List A) (ys : List A) → (xs ++ []) ++ ys ≡ xs ++ ys
append_none [] ys = refl
append_none (x ∷ xs) ys = ap (λ zs. x ∷ zs) (append_none xs ys)

-- a slot after a stride
abbrev slot_after : Job → Stride → Slot
slot_after j r = record { job = j; ahead = r.ahead; done = r.done; code = r.code }

abbrev going_on : Job → List Line → List Done → Slot
going_on j ahead done = record { job = j; ahead = ahead; done = done; code = None }

-- only an `end` ends, and nothing follows it
stride_ends : (s : Channel) (j : Job) (at : ℕ) (rest : List Line) (done : List Done) (p : Played) (word : Word) (code : ℕ) → let line : Line = record { at = at; word = word } in let r = stride line rest done p word in r.code ≡ Some code → DoesItsText s (going_on j (line ∷ rest) done) None → HasEnded s (slot_after j r) code
stride_ends s j at rest done p (End n) code e before =
    let line : Line = record { at = at; word = End n } in
    let both : Some n ≡ Some code = e in
    let same : n ≡ code = cc in
    subst (λ (m : ℕ). HasEnded s (slot_after j (stride line rest done p (End n))) m) same
    (record { before = done; last = refl; all = λ more. ap (acts s.geometry j) (append_none (answers_of done) more) ∙ before more })
stride_ends s j at rest done p Wait code e before = absurd (never (is_ready_status (first_byte p.bytes)) e)
  where
    line : Line
    line = record { at = at; word = Wait }

    never : (b : Bool) → (let r : Stride = cond b (did p Wait (Polled (first_byte p.bytes)) rest done Went) (record { past = p.past; ahead = line ∷ rest; done = done; code = None; outcome = NotReady }) in r.code ≡ Some code) → ⊥
    never true e = cc
    never false e = cc
stride_ends s j at rest done p word code e before = cc

pub ended_text : (s : Channel) (j : Job) (bytes : List ℕ) (past : List Item) (line : Line) (rest : List Line) (done : List Done) (r : Stride) (code : ℕ) → answered_step s.geometry j bytes past (line ∷ rest) done ≡ Some r → r.code ≡ Some code → DoesItsText s (going_on j (line ∷ rest) done) None → HasEnded s (slot_after j r) code
ended_text s j bytes past line rest done r code is_r e before =
    let parts = answered_parts s.geometry j bytes past line rest done r is_r in
    subst (λ (q : Stride). HasEnded s (slot_after j q) code) parts.is_r
    (stride_ends s j line.at rest done parts.p line.word code (ap (λ (q : Stride). q.code) parts.is_r ∙ e) before)
