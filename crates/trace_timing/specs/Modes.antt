-- The timing modes of the single data rate interface.
use Rattle.std.specs.Prelude.{ℕ, ◌*◌, ◌==◌, if◌then◌else◌}
use Rattle.trace_timing.specs.declared.modes.Mode.{Mode}
use Rattle.trace_timing.specs.declared.modes.TimingMode.{TimingMode}
use Rattle.trace_timing.specs.declared.modes.TimingMode.TheVariants.{Zero, One, Two, Three, Four, Five}
use Rattle.trace_timing.specs.declared.page_times.PageTimes.{PageTimes}
use Rattle.trace_timing.specs.declared.timings.Timings.{Timings}

-- a number of nanoseconds in femtoseconds
abbrev pub femtoseconds : ℕ → ℕ
femtoseconds ns = ns * 1000000

-- what differs between the modes, in nanoseconds
abbrev pub mode_zero : Mode
mode_zero = record { whr = 120; rhw = 200; rr = 40; wb = 200; wc = 100; rc = 100; pulse = 50 }

abbrev pub faster : (wc rc pulse : ℕ) → Mode
faster wc rc pulse = record { whr = 80; rhw = 100; rr = 20; wb = 100; wc = wc; rc = rc; pulse = pulse }

abbrev pub numbers_of : TimingMode → Mode
numbers_of Zero = mode_zero
numbers_of One = faster 45 50 25
numbers_of Two = faster 35 35 17
numbers_of Three = faster 30 30 15
numbers_of Four = faster 25 25 12
numbers_of Five = faster 20 20 10

-- tCCS is what the parameter page says, 500 where it says none
abbrev pub column_time : PageTimes → ℕ
column_time page = if page.column_ns == 0 then 500 else page.column_ns

-- the least times of a mode, where tADL is 400 in each
abbrev pub timings_by : Mode → (column_ns : ℕ) → Timings
timings_by m column_ns = record {
  t_adl = femtoseconds 400;
  t_whr = femtoseconds m.whr;
  t_ccs = femtoseconds column_ns;
  t_rhw = femtoseconds m.rhw;
  t_rr = femtoseconds m.rr;
  t_wb = femtoseconds m.wb;
  t_wc = femtoseconds m.wc;
  t_rc = femtoseconds m.rc;
  t_wp = femtoseconds m.pulse;
  t_rp = femtoseconds m.pulse;
}

-- the least times of a mode, for a chip of this page
abbrev pub timings_of : TimingMode → PageTimes → Timings
timings_of m page = timings_by (numbers_of m) (column_time page)
