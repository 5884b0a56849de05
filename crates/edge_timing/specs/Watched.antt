-- A bus from one time to the next, and the distances that end at each.
use Rattle.std.specs.Prelude.{◌≡◌, ℕ, zero, suc, ◌+◌, ◌==◌, ◌&&◌, ◌||◌, not, nat_lt, Bool, true, false, if◌then◌else◌, List, [], ◌∷◌, ◌++◌, replicate, slice_get, slice_index_or, slice_set, Option, Some, None, Result, Ok}
use Rattle.std.specs.Option.{unwrap_or}
use Rattle.onfi_cycle.specs.declared.item.Kind.{Kind}
use Rattle.onfi_cycle.specs.declared.item.Kind.TheVariants.{Cmd, Adr, Din, Dout}
use Rattle.trace_timing.specs.Clock.{begun, clock_after, clock_ready}
use Rattle.trace_timing.specs.declared.timings.Timings.{Timings}
use Rattle.vcd_text.specs.Tokens.{◌>>=◌}
use Rattle.bus_signals.specs.declared.role.Role.{Role}
use Rattle.bus_signals.specs.declared.role.Role.TheVariants as role
use Rattle.bus_signals.specs.declared.source.Source.{Source}
use Rattle.bus_signals.specs.Roles.{place_of}
use Rattle.bus_capture.specs.declared.fault.BusFault.{BusFault}
use Rattle.bus_capture.specs.declared.sampling.Seen.{Seen}
use Rattle.bus_capture.specs.declared.sampling.Seen.TheVariants.{Nothing, Unselected, Sampled}
use Rattle.bus_capture.specs.declared.sampling.Strobe.TheVariants.{Write, Read}
use Rattle.bus_capture.specs.Capturing.{is_known}
use Rattle.bus_capture.specs.Sampling.{level, seen_of}
use Rattle.edge_timing.specs.declared.distance.Distance.{Distance}
use Rattle.edge_timing.specs.declared.edge.Edge.TheVariants as edge
use Rattle.edge_timing.specs.declared.edge.Edge.{Edge}
use Rattle.edge_timing.specs.declared.edge_timing.EdgeTiming.TheVariants as timing
use Rattle.edge_timing.specs.declared.edge_timing.EdgeTiming.{EdgeTiming}
use Rattle.edge_timing.specs.declared.since.Since.TheVariants as since
use Rattle.edge_timing.specs.declared.line.Line.{Line}
use Rattle.edge_timing.specs.declared.held.Held.{Held}
use Rattle.edge_timing.specs.declared.moment.Moment.{Moment}
use Rattle.edge_timing.specs.declared.strobed.Strobed.{Strobed}
use Rattle.edge_timing.specs.declared.target_edges.TargetEdges.{TargetEdges}
use Rattle.edge_timing.specs.declared.edge_watch.EdgeWatch.{EdgeWatch}
use Rattle.edge_timing.specs.declared.judge.EdgeJudge.{EdgeJudge}
use Rattle.edge_timing.specs.Judged.{IsJudging}
use Rattle.edge_timing.specs.Lines.{line_begun, line_after, at_if, differs, falls, rises, between}
use Rattle.edge_timing.specs.Pauses.{pauses_of}

-- ---- a moment

abbrev pub has_level : List Bool → Role → Bool
has_level given r = unwrap_or (slice_get given (place_of r)) false

-- after a change of a code its lines have one
abbrev pub with_given_one : Source → (code : ℕ) → List Bool → List Bool
with_given_one s code given = if s.code == code then slice_set given (place_of s.role) true else given

abbrev pub with_given : List Source → (code : ℕ) → List Bool → List Bool
with_given [] code given = given
with_given (s ∷ sources) code given = with_given sources code (with_given_one s code given)

-- a line had a level, and gets another one
abbrev pub changes : Moment → Role → Bool
changes m r = has_level m.given.of r && differs (level m.before.of r) (level m.after.of r)

abbrev pub changes_data : Moment → Bool
changes_data m =
    changes m (role.Dq 0) || (changes m (role.Dq 1) || (changes m (role.Dq 2) || (changes m (role.Dq 3)
    || (changes m (role.Dq 4) || (changes m (role.Dq 5) || (changes m (role.Dq 6) || changes m (role.Dq 7)))))))

abbrev pub line_at : Moment → Line → Role → Line
line_at m l r = line_after l m.time (has_level m.given.of r) (level m.before.of r) (level m.after.of r)

-- ---- a target

abbrev pub target_begun : TargetEdges
target_begun = record { enable = line_begun; clock = begun; we_rose = None; re_rose = None }

-- CE# was low before that time
abbrev pub was_enabled : (fell time : Option ℕ) → Bool
was_enabled None time = true
was_enabled (Some fell) None = false
was_enabled (Some fell) (Some time) = nat_lt fell time

-- the fall of a latch, if the chip saw it
abbrev pub latch_fall : TargetEdges → Line → Option ℕ
latch_fall t latch = if was_enabled t.enable.fell latch.fell then latch.fell else None

abbrev pub rose_by : Kind → TargetEdges → Strobed → TargetEdges
rose_by Dout t s = record t { clock = clock_after t.clock s.cycle.kind s.cycle.byte (Some s.rose); re_rose = Some s.rose }
rose_by Cmd t s = record t { clock = clock_after t.clock s.cycle.kind s.cycle.byte (Some s.rose); we_rose = Some s.rose }
rose_by Adr t s = record t { clock = clock_after t.clock s.cycle.kind s.cycle.byte (Some s.rose); we_rose = Some s.rose }
rose_by Din t s = record t { clock = clock_after t.clock s.cycle.kind s.cycle.byte (Some s.rose); we_rose = Some s.rose }

-- once a cycle has come
abbrev pub target_after : TargetEdges → Strobed → TargetEdges
target_after t s = rose_by s.cycle.kind t s

abbrev pub target_at : List TargetEdges → ℕ → TargetEdges
target_at targets ce = slice_index_or targets ce target_begun

-- this is known of a target from here on
abbrev pub with_target : EdgeWatch → (ce : ℕ) → TargetEdges → EdgeWatch
with_target w ce t = record w { targets = slice_set w.targets ce t }

-- ---- what a cycle ends

-- of WE#: its high time before, its pulse, and the setups
abbrev pub write_distances : EdgeWatch → TargetEdges → Strobed → List (Option Distance)
write_distances w t s =
    between timing.WriteHigh edge.WeFalls since.Rise t.we_rose s.fell
    ∷ (between timing.WritePulse edge.WeRises since.Fall s.fell (Some s.rose)
    ∷ (between timing.DataSetup edge.WeRises since.DqChange w.dq (Some s.rose)
    ∷ (between timing.CleSetup edge.WeRises since.CleChange w.cle.changed (Some s.rose)
    ∷ (between timing.AleSetup edge.WeRises since.AleChange w.ale.changed (Some s.rose)
    ∷ (between timing.EnableSetup edge.WeRises since.EnableChange t.enable.changed (Some s.rose)
    ∷ [])))))

-- of RE#: its high time before, the times since the latches fell, and its pulse
abbrev pub read_distances : EdgeWatch → TargetEdges → Strobed → List (Option Distance)
read_distances w t s =
    between timing.ReadHigh edge.ReFalls since.Rise t.re_rose s.fell
    ∷ (between timing.CleToRead edge.ReFalls since.CleFall (latch_fall t w.cle) s.fell
    ∷ (between timing.AleToRead edge.ReFalls since.AleFall (latch_fall t w.ale) s.fell
    ∷ (between timing.ReadPulse edge.ReRises since.Fall s.fell (Some s.rose)
    ∷ [])))

abbrev pub strobe_distances : Kind → EdgeWatch → TargetEdges → Strobed → List (Option Distance)
strobe_distances Dout w t s = read_distances w t s
strobe_distances Cmd w t s = write_distances w t s
strobe_distances Adr w t s = write_distances w t s
strobe_distances Din w t s = write_distances w t s

abbrev pub cycle_distances : Timings → (one_lun : Bool) → EdgeWatch → Strobed → List (Option Distance)
cycle_distances times one_lun w s =
    strobe_distances s.cycle.kind w (target_at w.targets s.cycle.ce) s ++ pauses_of times one_lun (target_at w.targets s.cycle.ce).clock s

-- ---- what is held

abbrev pub nothing_held : Held
nothing_held = record { since = None; target = 0; dq = false; cle = false; ale = false; enable = false }

abbrev pub held_by : (target time : ℕ) → Held
held_by target time = record { since = Some time; target = target; dq = true; cle = true; ale = true; enable = true }

-- how long it was held until a line changed now, if it was
abbrev pub held_until : Held → (so : Bool) → EdgeTiming → Edge → (time : ℕ) → Option Distance
held_until h so timing edge time = if so then between timing edge since.WeRise h.since (Some time) else None

abbrev pub hold_distances : Held → Moment → List (Option Distance)
hold_distances h m =
    held_until h (h.dq && changes_data m) timing.DataHold edge.DqChanges m.time
    ∷ (held_until h (h.cle && changes m role.Cle) timing.CleHold edge.CleChanges m.time
    ∷ (held_until h (h.ale && changes m role.Ale) timing.AleHold edge.AleChanges m.time
    ∷ []))

abbrev pub held_after : Held → Moment → Held
held_after h m = record h {
  dq = h.dq && not (changes_data m);
  cle = h.cle && not (changes m role.Cle);
  ale = h.ale && not (changes m role.Ale);
}

-- the CE# of a target: how long it was high, and how long the last cycle that was written held it low
abbrev pub enable_falls : Moment → (ce : ℕ) → Bool
enable_falls m ce = falls (level m.before.of (role.Enable ce)) (level m.after.of (role.Enable ce))

abbrev pub lets_go : Held → Moment → (ce : ℕ) → Bool
lets_go h m ce = h.enable && ((h.target == ce) && rises (level m.before.of (role.Enable ce)) (level m.after.of (role.Enable ce)))

abbrev pub high_distance : Moment → (ce : ℕ) → TargetEdges → Option Distance
high_distance m ce t = if enable_falls m ce then between timing.EnableHigh edge.EnableFalls since.Rise t.enable.rose (Some m.time) else None

abbrev pub enable_distances : EdgeWatch → Moment → (ce : ℕ) → List (Option Distance)
enable_distances w m ce =
    high_distance m ce (target_at w.targets ce)
    ∷ (held_until w.held (lets_go w.held m ce) timing.EnableHold edge.EnableRises m.time
    ∷ [])

-- ---- what is known then

abbrev pub watch_begun : EdgeWatch
watch_begun = record {
  we = line_begun;
  re = line_begun;
  cle = line_begun;
  ale = line_begun;
  dq = None;
  targets = replicate 4 target_begun;
  held = nothing_held;
  we_driven = false;
  re_driven = false;
}

abbrev pub held_of : Kind → Held → Strobed → Held
held_of Dout h s = h
held_of Cmd h s = held_by s.cycle.ce s.rose
held_of Adr h s = held_by s.cycle.ce s.rose
held_of Din h s = held_by s.cycle.ce s.rose

-- once a cycle has come
abbrev pub after_cycle : EdgeWatch → Strobed → EdgeWatch
after_cycle w s = record w {
  targets = slice_set w.targets s.cycle.ce (target_after (target_at w.targets s.cycle.ce) s);
  held = held_of s.cycle.kind w.held s;
}

-- once DQ, CLE and ALE have changed
abbrev pub after_holds : EdgeWatch → Moment → EdgeWatch
after_holds w m = record w { held = held_after w.held m; dq = at_if (changes_data m) m.time w.dq }

-- once the CE# of a target has changed, and once its R/B# has risen
abbrev pub after_enable : EdgeWatch → Moment → (ce : ℕ) → EdgeWatch
after_enable w m ce = record w {
  targets = slice_set w.targets ce (record (target_at w.targets ce) { enable = line_at m (target_at w.targets ce).enable (role.Enable ce) });
  held = record (w.held) { enable = w.held.enable && not (lets_go w.held m ce) };
}

abbrev pub becomes_ready : Moment → (ce : ℕ) → Bool
becomes_ready m ce = rises (level m.before.of (role.ReadyBusy ce)) (level m.after.of (role.ReadyBusy ce))

abbrev pub after_ready : EdgeWatch → Moment → (ce : ℕ) → EdgeWatch
after_ready w m ce =
    if becomes_ready m ce
    then record w { targets = slice_set w.targets ce (record (target_at w.targets ce) { clock = clock_ready (target_at w.targets ce).clock (Some m.time) }) }
    else w

-- once the strobes and the latches have changed
abbrev pub after_lines : EdgeWatch → Moment → EdgeWatch
after_lines w m = record w {
  we = line_at m w.we role.We;
  re = line_at m w.re role.Re;
  cle = line_at m w.cle role.Cle;
  ale = line_at m w.ale role.Ale;
  we_driven = w.we_driven || is_known (level m.after.of role.We);
  re_driven = w.re_driven || is_known (level m.after.of role.Re);
}

-- ---- a step

-- what is known after a part of a moment, and the distances that end there
pub record Step : Type 0 where
  pub watch : EdgeWatch
  pub distances : List (Option Distance)

-- what is seen of a strobe
abbrev pub seen_step : Timings → (one_lun : Bool) → Seen → (fell : Option ℕ) → (rose : ℕ) → EdgeWatch → Step
seen_step times one_lun Nothing fell rose w = record { watch = w; distances = [] }
seen_step times one_lun Unselected fell rose w = record { watch = w; distances = [] }
seen_step times one_lun (Sampled c) fell rose w = record {
  watch = after_cycle w (record { cycle = c; fell = fell; rose = rose });
  distances = cycle_distances times one_lun w (record { cycle = c; fell = fell; rose = rose });
}

-- one step and then another
abbrev pub then_step : Step → (EdgeWatch → Step) → Step
then_step s next = record { watch = (next s.watch).watch; distances = s.distances ++ (next s.watch).distances }

-- DQ, CLE and ALE
abbrev pub holds_step : Moment → EdgeWatch → Step
holds_step m w = record { watch = after_holds w m; distances = hold_distances w.held m }

-- CE# and R/B# of a target
abbrev pub target_step : Moment → (ce : ℕ) → EdgeWatch → Step
target_step m ce w = record { watch = after_ready (after_enable w m ce) m ce; distances = enable_distances w m ce }

-- those of so many targets from this one on
abbrev pub targets_step : Moment → (count ce : ℕ) → EdgeWatch → Step
targets_step m zero ce w = record { watch = w; distances = [] }
targets_step m (suc count) ce w = then_step (target_step m ce w) (targets_step m count (ce + 1))

-- the strobes, by what is seen of them
abbrev pub strobes_step : Timings → (one_lun : Bool) → (written read : Seen) → (time : ℕ) → EdgeWatch → Step
strobes_step times one_lun written read time w =
    then_step (seen_step times one_lun written w.we.fell time w) (seen_step times one_lun read w.re.fell time)

-- what changes at a moment, by what is seen of the strobes
abbrev pub changes_step : Timings → (one_lun : Bool) → (targets : ℕ) → (written read : Seen) → Moment → EdgeWatch → Step
changes_step times one_lun targets written read m w =
    then_step (then_step (strobes_step times one_lun written read m.time w) (holds_step m)) (targets_step m targets 0)

abbrev pub whole_step : Moment → Step → Step
whole_step m s = record { watch = after_lines s.watch m; distances = s.distances }

-- what is seen of WE#, and of RE#
abbrev pub looked : (targets : ℕ) → Moment → EdgeWatch → Result (Seen × Seen) BusFault
looked targets m w = do
  written ← seen_of targets Write w.we_driven m.before.of m.after.of
  read ← seen_of targets Read w.re_driven m.before.of m.after.of
  Ok (written, read)

-- a moment of a bus of so many targets, unless a strobe shows no cycle that can be read
abbrev pub moment_step : Timings → (one_lun : Bool) → (targets : ℕ) → Moment → EdgeWatch → Result Step BusFault
moment_step times one_lun targets m w =
    looked targets m w >>= λ seen. Ok (whole_step m (changes_step times one_lun targets seen.0 seen.1 m w))

-- a judge and what is known of a bus have gone on by a moment
pub record IsStepped {A : Type 0} (before after : EdgeJudge A) (targets : ℕ) (m : Moment) (w later : EdgeWatch) : Type 0 where
  pub step : Step
  pub is_step : moment_step before.ruler.times.shown before.ruler.one_lun targets m w ≡ Ok step
  pub watch : later ≡ step.watch
  pub judging : IsJudging before after step.distances
