-- Lists of words that are filled, operation by operation.
use Rattle.std.proofs.Common.{◌≡◌, cond, List, ◌++◌}
use Rattle.std.specs.Prelude.{Result, Ok, Err, is_ok, OnOk}

-- what was added where a call says Ok
pub added_on_ok : {X A E : Type 0} → (r : Result A E) (new old more : List X) → new ≡ cond (is_ok r) (old ++ more) old → OnOk r (new ≡ old ++ more)
added_on_ok (Ok x) new old more h = h
added_on_ok (Err e) new old more h = tt
