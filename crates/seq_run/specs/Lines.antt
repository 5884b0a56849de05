-- The lines that a run writes.
use Rattle.std.specs.Prelude.{ℕ, ◌+◌, List, [], ◌∷◌, ◌++◌, codes}
use Rattle.std.specs.Fmt.{decimal}

-- `job K end CODE`, and a line feed
abbrev pub job_line : ℕ → ℕ → List ℕ
job_line number code = codes "job " ++ (decimal number ++ (codes " end " ++ (decimal code ++ (10 ∷ []))))

-- a line for each job, in their order, the first of which has this number
unfoldable pub job_lines : ℕ → List ℕ → List ℕ
job_lines first [] = []
job_lines first (code ∷ rest) = job_line first code ++ job_lines (first + 1) rest
