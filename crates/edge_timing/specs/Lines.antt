-- One line of a bus, and two edges of which a time is wanted.
use Rattle.std.specs.Prelude.{ℕ, ◌==◌, ◌&&◌, not, Bool, if◌then◌else◌, Option, Some, None}
use Rattle.vcd_text.specs.declared.tokens.Level.{Level}
use Rattle.vcd_text.specs.declared.tokens.Level.TheVariants.{Low, High, Unknown}
use Rattle.edge_timing.specs.declared.line.Line.{Line}
use Rattle.edge_timing.specs.declared.distance.Distance.{Distance}
use Rattle.edge_timing.specs.declared.edge.Edge.{Edge}
use Rattle.edge_timing.specs.declared.edge_timing.EdgeTiming.{EdgeTiming}
use Rattle.edge_timing.specs.declared.since.Since.{Since}

abbrev pub level_number : Level → ℕ
level_number Low = 0
level_number High = 1
level_number Unknown = 2

abbrev pub differs : (before after : Level) → Bool
differs before after = not (level_number before == level_number after)

abbrev pub falls : (before after : Level) → Bool
falls before after = (level_number before == 1) && (level_number after == 0)

abbrev pub rises : (before after : Level) → Bool
rises before after = (level_number before == 0) && (level_number after == 1)

-- this time where it is so, else the one before
abbrev pub at_if : (so : Bool) → (time : ℕ) → Option ℕ → Option ℕ
at_if so time before = if so then Some time else before

-- nothing has been seen of a line
abbrev pub line_begun : Line
line_begun = record { changed = None; rose = None; fell = None }

-- after these levels before and after a time; the level that a line is first given is no change
abbrev pub line_after : Line → (time : ℕ) → (given : Bool) → (before after : Level) → Line
line_after l time given before after = record {
  changed = at_if (given && differs before after) time l.changed;
  rose = at_if (rises before after) time l.rose;
  fell = at_if (falls before after) time l.fell;
}

-- two edges of which a time is wanted, where both were seen
abbrev pub between : EdgeTiming → Edge → Since → (from to : Option ℕ) → Option Distance
between timing edge since None to = None
between timing edge since (Some from) None = None
between timing edge since (Some from) (Some to) = Some (record { timing = timing; edge = edge; since = since; from = from; to = to })
