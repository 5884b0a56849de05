-- Stepping word by word does the actions of a job.
use Rattle.std.proofs.Common.{◌≡◌, ℕ, ◌==◌, Bool, true, false, cond, List, [], ◌∷◌, ◌++◌, Some, None, refl, sym, ap, ◌∙◌, subst}
use Rattle.nand_geometry.specs.declared.parts.Parts.{Parts}
use Rattle.onfi_cycle.specs.declared.item.Item.{Item}
use Rattle.micro_word.specs.declared.word.Word.{Word}
use Rattle.micro_word.specs.declared.word.Word.TheVariants.{End, Get, Wait, ReadStatus, BranchOnStatus, Jump}
use Rattle.micro_program.specs.Lines.{Line, from_place}
use Rattle.micro_program.specs.Program.{Job, Done, Answer, Nothing, Polled, Got, status_now, is_ready_status, meets}
use Rattle.micro_program.specs.Played.{Played}
use Rattle.micro_program.specs.Step.{Stride, stride, waited, first_byte, answered_step}
use Rattle.micro_program.specs.Safe.{starts, steps, readies, others}
use Rattle.micro_program.proofs.Tracking.{answered_parts}
use Rattle.micro_program.specs.Actions.{action, asks, acts, acts_from, answers_of, actions_of, WalkGivesActs}

-- leaving out lines while acting is acting on the lines from the target on
lines_left : (g : Parts) (j : Job) (target : ℕ) (lines : List Line) (done : List Done) (answers : List Answer) → acts_from g j (Some target) lines done answers ≡ acts_from g j None (from_place target lines) done answers
lines_left g j target [] done answers = refl
lines_left g j target (line ∷ rest) done answers = at (line.at == target) refl (lines_left g j target rest done answers)
  where
    at : (b : Bool) → (line.at == target) ≡ b → acts_from g j (Some target) rest done answers ≡ acts_from g j None (from_place target rest) done answers → acts_from g j (Some target) (line ∷ rest) done answers ≡ acts_from g j None (from_place target (line ∷ rest)) done answers
    at true e rest_is = rw e refl
    at false e rest_is = rw e rest_is

append_one : {A : Type 0} (xs : List A) (x : A) (ys : List A) → (xs ++ (x ∷ [])) ++ ys ≡ xs ++ (x ∷ ys)
append_one [] x ys = refl
append_one (y ∷ xs) x ys = ap (λ zs. y ∷ zs) (append_one xs x ys)

append_none : {A : Type 0} (xs : List A) (ys : List A) → (xs ++ []) ++ ys ≡ xs ++ ys
append_none [] ys = refl
append_none (x ∷ xs) ys = ap (λ zs. x ∷ zs) (append_none xs ys)

-- all actions of a job, whatever answers are still to come: those done, and those of the lines to come
abbrev Splits : Parts → Job → List Line → List Done → Type 0
Splits g j ahead done = (more : List Answer) → acts g j (answers_of done ++ more) ≡ actions_of g j done ++ acts_from g j None ahead done more

-- a word that asks nothing is done
silent : (g : Parts) (j : Job) (word : Word) (ahead next : List Line) (done : List Done) → asks word ≡ false → ((more : List Answer) → acts_from g j None ahead done more ≡ action g j done word ∷ acts_from g j None next (record { word = word; answer = Nothing } ∷ done) more) → Splits g j ahead done → Splits g j next (record { word = word; answer = Nothing } ∷ done)
silent g j word ahead next done asks_none one before more =
    rw asks_none (ap (acts g j) (append_none (answers_of done) more) ∙ (before more ∙ (ap (λ xs. actions_of g j done ++ xs) (one more) ∙ sym (append_one (actions_of g j done) (action g j done word) _))))

-- a word that brings an answer is done
asking : (g : Parts) (j : Job) (word : Word) (answer : Answer) (ahead next : List Line) (done : List Done) → asks word ≡ true → ((more : List Answer) → acts_from g j None ahead done (answer ∷ more) ≡ action g j done word ∷ acts_from g j None next (record { word = word; answer = answer } ∷ done) more) → Splits g j ahead done → Splits g j next (record { word = word; answer = answer } ∷ done)
asking g j word answer ahead next done asks_one one before more =
    rw asks_one (ap (acts g j) (append_one (answers_of done) answer more) ∙ (before (answer ∷ more) ∙ (ap (λ xs. actions_of g j done ++ xs) (one more) ∙ sym (append_one (actions_of g j done) (action g j done word) _))))

-- the line of a word at a place
abbrev line_at : ℕ → Word → Line
line_at at word = record { at = at; word = word }

stride_splits : (g : Parts) (j : Job) (at : ℕ) (rest : List Line) (done : List Done) (p : Played) (word : Word) → let r = stride (line_at at word) rest done p word in r.code ≡ None → Splits g j (line_at at word ∷ rest) done → Splits g j r.ahead r.done
stride_splits g j at rest done p (End code) e before = cc
stride_splits g j at rest done p Wait e before = ready (is_ready_status (first_byte p.bytes)) refl
  where
    ready : (b : Bool) → is_ready_status (first_byte p.bytes) ≡ b → let r = waited p (line_at at Wait) rest done (first_byte p.bytes) in Splits g j r.ahead r.done
    ready true h = rw h (asking g j Wait (Polled (first_byte p.bytes)) (line_at at Wait ∷ rest) rest done refl (λ more. refl) before)
    ready false h = rw h before
stride_splits g j at rest done p ReadStatus e before = asking g j ReadStatus (Polled (first_byte p.bytes)) (line_at at ReadStatus ∷ rest) rest done refl (λ more. refl) before
stride_splits g j at rest done p (Get len) e before = asking g j (Get len) (Got p.bytes) (line_at at (Get len) ∷ rest) rest done refl (λ more. refl) before
stride_splits g j at rest done p (BranchOnStatus mask target) e before = taken (meets mask (status_now done)) refl
  where
    taken : (b : Bool) → meets mask (status_now done) ≡ b → Splits g j (cond (meets mask (status_now done)) (from_place target rest) rest) (record { word = BranchOnStatus mask target; answer = Nothing } ∷ done)
    taken true h = rw h (silent g j (BranchOnStatus mask target) (line_at at (BranchOnStatus mask target) ∷ rest) (from_place target rest) done refl (λ more. rw h (ap (λ xs. action g j done (BranchOnStatus mask target) ∷ xs) (lines_left g j target rest _ more))) before)
    taken false h = rw h (silent g j (BranchOnStatus mask target) (line_at at (BranchOnStatus mask target) ∷ rest) rest done refl (λ more. rw h refl) before)
stride_splits g j at rest done p (Jump target) e before =
    silent g j (Jump target) (line_at at (Jump target) ∷ rest) (from_place target rest) done refl (λ more. ap (λ xs. action g j done (Jump target) ∷ xs) (lines_left g j target rest _ more)) before
stride_splits g j at rest done p word e before = silent g j word (line_at at word ∷ rest) rest done refl (λ more. refl) before

-- a step that doesn't end the program
step_splits : (g : Parts) (j : Job) (bytes : List ℕ) (past : List Item) (ahead : List Line) (done : List Done) (r : Stride) → answered_step g j bytes past ahead done ≡ Some r → r.code ≡ None → Splits g j ahead done → Splits g j r.ahead r.done
step_splits g j bytes past [] done r e code before = cc
step_splits g j bytes past (line ∷ rest) done r e code before =
    let parts = answered_parts g j bytes past line rest done r e in
    subst (λ (q : Stride). Splits g j q.ahead q.done) parts.is_r
    (stride_splits g j line.at rest done parts.p line.word (ap (λ (q : Stride). q.code) parts.is_r ∙ code) before)

pub walk_gives_acts : WalkGivesActs
walk_gives_acts s j _ (starts past legal idle) more = refl
walk_gives_acts s j _ (steps seat bytes r reach may e true_bytes code) more = step_splits s.geometry j bytes seat.past seat.ahead seat.done r e code (walk_gives_acts s j seat reach) more
walk_gives_acts s j _ (readies seat i reach h p) more = walk_gives_acts s j seat reach more
walk_gives_acts s j _ (others seat c m reach free own there ne) more = walk_gives_acts s j seat reach more
