-- The times that a parameter page declares (ONFI 4.x, Parameter Page Data Structure Definition).
use Rattle.std.specs.Prelude.{ℕ, List}
use Rattle.nand_geometry.specs.Reading.{u16_at, used}
use Rattle.trace_timing.specs.declared.page_times.PageTimes.{PageTimes}

-- those of a copy: the timing modes in 129 and 130, tPROG, tBERS and tR in microseconds, tCCS in nanoseconds
abbrev pub times_at : List ℕ → PageTimes
times_at copy = record {
  modes = u16_at copy 129;
  program_us = u16_at copy 133;
  erase_us = u16_at copy 135;
  read_us = u16_at copy 137;
  column_ns = u16_at copy 139;
}

-- those of a page: of the copy from which its numbers are read; 0 is said of what a page doesn't say
abbrev pub times_in : List ℕ → PageTimes
times_in page = times_at (used page)
