use Rattle.std.proofs.Common.{◌≡◌, ◌++◌, map, length}
use denote.Text.{Utf8}
use denote.Shadow.{shadow}
use Rattle.recording.specs.Captures.{said, parts, sayings_in}
use Rattle.recording.proofs.mappings.push_mappings.Given as goal

abbrev pub invariant-parts : goal.invariant-parts
invariant-parts l = shadow (Utf8 l.rest) × (map said l.mappings.items ++ sayings_in l.rest ≡ map said l.initial.mappings.items ++ sayings_in l.line)

abbrev pub decreases-parts : goal.decreases-parts
decreases-parts l = length (parts l.rest)
