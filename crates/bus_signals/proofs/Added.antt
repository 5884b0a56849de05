-- Where lines are, one number after the other.
use Rattle.std.proofs.Common.{◌≡◌, ℕ, suc, ◌+◌, ◌-◌, ◌<◌, ◌≤◌, List, ◌++◌, refl, ap, sym, ◌∙◌, arith}
use Rattle.std.specs.Prelude.{Ok, Err}
use Rattle.bus_signals.specs.declared.carrier.Carrier.{Carrier}
use Rattle.bus_signals.specs.declared.source.Source.{Source}
use Rattle.bus_signals.specs.declared.fault.RoleFault.{RoleFault}
use Rattle.bus_signals.specs.declared.fault.RoleRefusal.{RoleRefusal}
use Rattle.bus_signals.specs.declared.fault.RoleRefusal.TheVariants.{Fault, OutOfMemory}
use Rattle.bus_signals.specs.Sources.{IsRefusalOf}
use Rattle.bus_signals.specs.Roles.{role_at, sources_at, sources_from}

one_more : (targets : ℕ) (carriers : List Carrier) (sources added : List Source) (count n : ℕ) → sources_at targets carriers (role_at n) ≡ Ok added
    → sources_from targets carriers sources (suc count) n ≡ sources_from targets carriers (sources ++ added) count (n + 1)
unfolding sources_from
one_more targets carriers sources added count n e = rw e refl

one_fails : (targets : ℕ) (carriers : List Carrier) (sources : List Source) (fault : RoleFault) (count n : ℕ) → sources_at targets carriers (role_at n) ≡ Err fault
    → sources_from targets carriers sources (suc count) n ≡ Err fault
unfolding sources_from
one_fails targets carriers sources fault count n e = rw e refl

none_left : (targets : ℕ) (carriers : List Carrier) (sources : List Source) (n : ℕ) → sources_from targets carriers sources 0 n ≡ Ok sources
unfolding sources_from
none_left targets carriers sources n = refl

pub goes_on : (targets : ℕ) (carriers : List Carrier) (sources added : List Source) (n : ℕ) → n < 68 → sources_at targets carriers (role_at n) ≡ Ok added
    → sources_from targets carriers (sources ++ added) (68 - (n + 1)) (n + 1) ≡ sources_from targets carriers sources (68 - n) n
goes_on targets carriers sources added n within e =
    let left : 68 - n ≡ suc (68 - (n + 1)) = omega arith in
    sym (ap (λ count. sources_from targets carriers sources count n) left ∙ one_more targets carriers sources added (68 - (n + 1)) n e)

pub fails : (targets : ℕ) (carriers : List Carrier) (sources : List Source) (fault : RoleFault) (n : ℕ) → n < 68 → sources_at targets carriers (role_at n) ≡ Err fault
    → sources_from targets carriers sources (68 - n) n ≡ Err fault
fails targets carriers sources fault n within e =
    let left : 68 - n ≡ suc (68 - (n + 1)) = omega arith in
    ap (λ count. sources_from targets carriers sources count n) left ∙ one_fails targets carriers sources fault (68 - (n + 1)) n e

pub is_done : (targets : ℕ) (carriers : List Carrier) (sources : List Source) (n : ℕ) → 68 ≤ n → sources_from targets carriers sources (68 - n) n ≡ Ok sources
is_done targets carriers sources n above =
    let left : 68 - n ≡ 0 = omega arith in
    ap (λ count. sources_from targets carriers sources count n) left ∙ none_left targets carriers sources n

pub fails_as : (targets : ℕ) (carriers : List Carrier) (sources : List Source) (n : ℕ) → n < 68 → (r : RoleRefusal) → IsRefusalOf r (sources_at targets carriers (role_at n))
    → IsRefusalOf r (sources_from targets carriers sources (68 - n) n)
fails_as targets carriers sources n within (Fault f) e = fails targets carriers sources f n within e
fails_as targets carriers sources n within OutOfMemory e = tt
