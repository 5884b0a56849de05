-- What paths have stays unknown where it was.
use Rattle.std.proofs.Common.{◌≡◌, List, [], ◌∷◌, None, Result, Ok, Err, OnOk, refl}
use Rattle.seq_files.specs.Store.{Written, with_all}

pub unknown : (ws : List Written) → None ≡ with_all ws None
unfolding with_all
unknown [] = refl
unknown (w ∷ ws) = unknown ws

pub on_each : {A E P : Type 0} (r : Result A E) → P → OnOk r P
on_each (Ok x) p = p
on_each (Err e) p = tt
