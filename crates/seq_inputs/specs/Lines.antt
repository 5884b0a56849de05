-- The lines that the program writes.
use Rattle.std.specs.Prelude.{ℕ, List, [], ◌∷◌, ◌++◌, codes}
use Rattle.std.specs.Fmt.{decimal}

-- `refused CODE at N`, and a line feed
abbrev pub refusal_line : List ℕ → ℕ → List ℕ
refusal_line code n = codes "refused " ++ (code ++ (codes " at " ++ (decimal n ++ (10 ∷ []))))

-- `end CODE`, and a line feed
abbrev pub end_line : ℕ → List ℕ
end_line code = codes "end " ++ (decimal code ++ (10 ∷ []))
