-- Where lines are, in memory.
use Rattle.std.specs.Prelude.{◌≡◌, ⊤, List, [], ◌∷◌, ◌++◌, Option, Some, None, Result, Ok, Err}
use Rattle.bus_signals.specs.declared.source.Source.{Source}
use Rattle.bus_signals.specs.declared.fault.RoleFault.{RoleFault}
use Rattle.bus_signals.specs.declared.fault.RoleRefusal.{RoleRefusal}
use Rattle.bus_signals.specs.declared.fault.RoleRefusal.TheVariants.{Fault, OutOfMemory}

abbrev pub IsListed : Result (Option Source) RoleFault → Result (List Source) RoleFault → Type 0
IsListed (Ok (Some s)) sources = sources ≡ Ok (s ∷ [])
IsListed (Ok None) sources = sources ≡ Ok []
IsListed (Err f) sources = sources ≡ Err f

-- a refusal is this fault; of memory that was refused nothing is said
abbrev pub IsRefusalOf : {A : Type 0} → RoleRefusal → Result A RoleFault → Type 0
IsRefusalOf (Fault f) sources = sources ≡ Err f
IsRefusalOf OutOfMemory sources = ⊤

-- these are added, or a fault is told
abbrev pub IsAdded : {U : Type 0} → List Source → Result (List Source) RoleFault → Result U RoleRefusal → List Source → Type 0
IsAdded old more (Ok u) new = (added : List Source) × (more ≡ Ok added) × (new ≡ old ++ added)
IsAdded old more (Err r) new = IsRefusalOf r more
