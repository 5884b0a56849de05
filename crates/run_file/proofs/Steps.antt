-- One line after another.
use Rattle.std.proofs.Common.{◌≡◌, ℕ, ◌+◌, Bool, true, false, List, [], ◌∷◌, ◌++◌, Some, None, Ok, Err, refl, ap, if◌then◌else◌}
use Rattle.std.proofs.lemmas.List.{map-append}
use Rattle.micro_asm.specs.Reading.{lines}
use Rattle.run_file.specs.declared.refusal.RunFault.{RunFault}
use Rattle.run_file.specs.declared.statement.Numbered as declared
use Rattle.run_file.specs.Line.{Statement}
use Rattle.run_file.specs.Shown.{shown_statement, shown_numbered, shown_all}
use Rattle.run_file.specs.Told.{Numbered, is_job, jobs_in, judged, stopped, ended, told_from, told}

-- ---- jobs

pub no_jobs : jobs_in [] ≡ 0
unfolding jobs_in
no_jobs = refl

pub one_job_more : (before : List Numbered) (s : Numbered) → is_job s.1 ≡ true → jobs_in (before ++ s ∷ []) ≡ jobs_in before + 1
unfolding jobs_in
one_job_more [] s e = rw e refl
one_job_more (b ∷ before) s e = at (is_job b.1) _ _ (one_job_more before s e)
  where
    at : (t : Bool) (x y : ℕ) → x ≡ y + 1 → (if t then x + 1 else x) ≡ (if t then y + 1 else y) + 1
    at true x y h = ap (λ n. n + 1) h
    at false x y h = h

pub no_job_more : (before : List Numbered) (s : Numbered) → is_job s.1 ≡ false → jobs_in (before ++ s ∷ []) ≡ jobs_in before
unfolding jobs_in
no_job_more [] s e = rw e refl
no_job_more (b ∷ before) s e = ap (λ (n : ℕ). if is_job b.1 then n + 1 else n) (no_job_more before s e)

-- in memory: a statement that is a job counts, and one that is none doesn't
pub counts : (jobs old : ℕ) (before same after : List declared.Numbered) (n : declared.Numbered)
    → jobs ≡ old + 1 → old ≡ jobs_in (shown_all before) → same ≡ before
    → is_job (shown_statement n.statement) ≡ true → after ≡ same ++ n ∷ [] → jobs ≡ jobs_in (shown_all after)
counts jobs old before same after n more counted is_same is_job is_after =
    let shown = map-append shown_numbered before (n ∷ []) in
    rw (more, counted, is_after, is_same, shown, one_job_more (shown_all before) (shown_numbered n) is_job) refl

pub counts_none : (jobs old : ℕ) (before same after : List declared.Numbered) (n : declared.Numbered)
    → jobs ≡ old → old ≡ jobs_in (shown_all before) → same ≡ before
    → is_job (shown_statement n.statement) ≡ false → after ≡ same ++ n ∷ [] → jobs ≡ jobs_in (shown_all after)
counts_none jobs old before same after n more counted is_same is_none is_after =
    let shown = map-append shown_numbered before (n ∷ []) in
    rw (more, counted, is_after, is_same, shown, no_job_more (shown_all before) (shown_numbered n) is_none) refl

-- ---- lines

pub told_end : (line : ℕ) (before : List Numbered) (rest : List ℕ) → lines rest ≡ []
    → told_from line before (lines rest) ≡ ended line before
unfolding told_from
told_end line before rest e = rw e refl

pub told_fault : (line : ℕ) (before : List Numbered) (l : List ℕ) (ls : List (List ℕ)) (fault : RunFault) → judged before l ≡ Err fault
    → told_from line before (l ∷ ls) ≡ stopped before fault line
unfolding told_from
told_fault line before l ls fault judge = rw judge refl

pub told_nothing : (line : ℕ) (before : List Numbered) (l : List ℕ) (ls : List (List ℕ)) → judged before l ≡ Ok None
    → told_from line before (l ∷ ls) ≡ told_from (line + 1) before ls
unfolding told_from
told_nothing line before l ls judge = rw judge refl

pub told_statement : (line later : ℕ) (before after : List Numbered) (l : List ℕ) (ls : List (List ℕ)) (s : Statement)
    → judged before l ≡ Ok (Some s)
    → later ≡ line + 1 → after ≡ before ++ (line, s) ∷ [] → told_from line before (l ∷ ls) ≡ told_from later after ls
unfolding told_from
told_statement line later before after l ls s judge is_next is_after = rw (judge, is_next, is_after) refl

pub told_whole : (text : List ℕ) → told_from 1 [] (lines text) ≡ told text
unfolding told
told_whole text = refl
