-- Where the lines of a code are among all lines.
use Rattle.std.specs.Prelude.{◌≡◌, ⊤, ◌≤◌, ◌+◌, ℕ, List, [], ◌∷◌, length, take, drop}
use Rattle.vcd_text.specs.declared.tokens.Level.{Level}
use Rattle.bus_signals.specs.declared.source.Source.{Source}
use Rattle.bus_capture.specs.declared.spans.Span.{Span}
use Rattle.bus_capture.specs.Sampling.{with_change}

-- a change of a code is the same by these lines as by all
abbrev pub Keeps : (code : ℕ) → (sources lines : List Source) → Type 0
Keeps code sources lines = (bits : List ℕ) (levels : List Level) → with_change lines code bits levels ≡ with_change sources code bits levels

pub record IsSpan (sources : List Source) (code : ℕ) (s : Span) : Type 0 where
  pub first : s.first ≤ s.behind
  pub behind : s.behind ≤ length sources
  pub keeps : Keeps code sources (drop s.first (take s.behind sources))

-- each is the span of its code, of which the first is this
abbrev pub AreSpans : List Source → (code : ℕ) → List Span → Type 0
AreSpans sources code [] = ⊤
AreSpans sources code (s ∷ spans) = IsSpan sources code s × AreSpans sources (code + 1) spans
