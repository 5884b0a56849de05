-- What comes too soon.
use Rattle.std.specs.Prelude.{◌≡◌, ◌≤◌, ◌||◌, is_some, false, ℕ, ◌+◌, ◌-◌, ◌*◌, ◌^◌, min, nat_lt, Bool, if◌then◌else◌, List, [], ◌∷◌, ◌++◌, Option, Some, None}
use Rattle.edge_timing.specs.declared.distance.Distance.{Distance}
use Rattle.edge_timing.specs.declared.judge.EdgeRuler.{EdgeRuler}
use Rattle.edge_timing.specs.declared.judge.EdgeJudge.{EdgeJudge}
use Rattle.edge_timing.specs.declared.judge.EdgeViolation.{EdgeViolation}
use Rattle.trace_timing.specs.Wanted.{AreBounded}
use Rattle.edge_timing.specs.Times.{least}

-- how long an edge comes after another, in femtoseconds; what is more than 64 bits hold is told as the greatest that they hold
abbrev pub elapsed : (unit from to : ℕ) → ℕ
elapsed unit from to = min ((to - from) * unit) (2 ^ 64 - 1)

abbrev pub violation_of : EdgeRuler → Distance → EdgeViolation
violation_of r d = record { time = d.to; timing = d.timing; edge = d.edge; since = d.since; seen = elapsed r.unit d.from d.to; wanted = least r.times d.timing }

-- a distance is short by the slack at the most
abbrev pub is_short : EdgeRuler → Distance → Bool
is_short r d = nat_lt (elapsed r.unit d.from d.to + r.slack) (least r.times d.timing)

abbrev pub short_if : EdgeRuler → Distance → List EdgeViolation
short_if r d = if is_short r d then violation_of r d ∷ [] else []

abbrev pub short_of : EdgeRuler → Option Distance → List EdgeViolation
short_of r None = []
short_of r (Some d) = short_if r d

-- of all of these what comes too soon
abbrev pub shorts : EdgeRuler → List (Option Distance) → List EdgeViolation
shorts r [] = []
shorts r (d ∷ distances) = short_of r d ++ shorts r distances

-- there is one
abbrev pub is_any : List (Option Distance) → Bool
is_any [] = false
is_any (d ∷ distances) = is_some d || is_any distances

-- these have been judged, and what of them comes too soon is told behind the rest
pub record IsJudging {A : Type 0} (before after : EdgeJudge A) (distances : List (Option Distance)) : Type 0 where
  pub ruler : after.ruler ≡ before.ruler
  pub told : after.told.items ≡ before.told.items ++ shorts before.ruler distances
  pub has : after.has_judged ≡ (before.has_judged || is_any distances)

-- edges of so many targets may be judged by this
pub record MayJudge (targets : ℕ) (r : EdgeRuler) : Type 0 where
  pub few : targets ≤ 4
  pub bounded : AreBounded r.times.shown
