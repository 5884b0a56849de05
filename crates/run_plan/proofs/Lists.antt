-- Lists that grow by what an element may give.
use Rattle.std.proofs.Common.{◌≡◌, List, [], ◌∷◌, ◌++◌, Option, Some, None, ap}
use Rattle.std.specs.List.{cons_option}
use Rattle.std.proofs.lemmas.List.{append_assoc, append-nil}

pub front_more : {X : Type 0} (o : Option X) (old rest : List X) → old ++ cons_option o [] ++ rest ≡ old ++ cons_option o rest
front_more None old rest = ap (λ l. l ++ rest) (append-nil old)
front_more (Some x) old rest = append_assoc old (x ∷ []) rest
