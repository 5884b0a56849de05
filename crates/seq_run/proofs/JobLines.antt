-- The lines of jobs that have ended.
use Rattle.std.proofs.Common.{◌≡◌, ℕ, ◌+◌, ◌<◌, ◌≤◌, List, [], ◌∷◌, ◌++◌, length, drop, get_or, sym, ap, ◌∙◌}
use Rattle.std.proofs.lemmas.List.{append_assoc, append-nil, drop_more, drop_all}
use Rattle.seq_run.specs.declared.job_ends.EndedJob.{EndedJob}
use Rattle.seq_run.specs.Written.{codes_of}
use Rattle.seq_run.specs.Lines.{job_line, job_lines}

-- the line of one job of a list
pub line_more : (jobs : List EndedJob) (k : ℕ) (d : EndedJob) (old new whole : List ℕ) → k < length jobs → new ≡ old ++ job_line (k + 1) (get_or jobs k d).done.code → old ++ job_lines (k + 1) (codes_of (drop k jobs)) ≡ whole → new ++ job_lines (k + 1 + 1) (codes_of (drop (k + 1) jobs)) ≡ whole
unfolding job_lines
line_more jobs k d old new whole inside next before =
    let here = ap (λ (l : List EndedJob). job_lines (k + 1) (codes_of l)) (drop_more jobs k d inside) in
    ap (λ (l : List ℕ). l ++ job_lines (k + 1 + 1) (codes_of (drop (k + 1) jobs))) next
    ∙ append_assoc old (job_line (k + 1) (get_or jobs k d).done.code) (job_lines (k + 1 + 1) (codes_of (drop (k + 1) jobs)))
    ∙ ap (λ (l : List ℕ). old ++ l) (sym here)
    ∙ before

-- no job is left
pub lines_done : (jobs : List EndedJob) (k : ℕ) (new whole : List ℕ) → length jobs ≤ k → new ++ job_lines (k + 1) (codes_of (drop k jobs)) ≡ whole → new ≡ whole
unfolding job_lines
lines_done jobs k new whole over before = sym (append-nil new) ∙ ap (λ (l : List EndedJob). new ++ job_lines (k + 1) (codes_of l)) (sym (drop_all k jobs over)) ∙ before
