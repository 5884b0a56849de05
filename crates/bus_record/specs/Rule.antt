-- A value that may be there.
use Rattle.std.specs.Prelude.{Option, Some, None}

-- by whether there is a value
abbrev pub by_option : {A B : Type 0} → Option A → B → (A → B) → B
by_option None none some = none
by_option (Some x) none some = some x
