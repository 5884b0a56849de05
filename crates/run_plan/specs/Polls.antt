-- After how many polls that say busy work is over.
use Rattle.std.specs.Prelude.{ℕ, ◌+◌, ◌*◌, Option, Some, None, slice_get}
use Rattle.onfi_cycle.specs.declared.lun.Lun.{Lun}
use Rattle.trace_timing.specs.declared.busy_time.BusyTime.{BusyTime}
use Rattle.trace_timing.specs.declared.busy_time.BusyTime.TheVariants.{Read, Program, Erase}
use Rattle.run_plan.specs.declared.polls.Polls.{Polls}

-- what is told of this kind of work
abbrev pub of_work : Polls → Option BusyTime → Option ℕ
of_work p (Some Read) = p.read
of_work p (Some Program) = p.program
of_work p (Some Erase) = p.erase
of_work p _ = None

abbrev pub first_told : Option (Option ℕ) → Option ℕ → ℕ → ℕ
first_told (Some (Some n)) of_work each = n
first_told _ (Some n) each = n
first_told _ None each = each

-- the polls of work of this kind on a LUN: what is told of the LUN goes first, then what is told of the kind, then what is told of each
abbrev pub polls_of : Polls → Lun → Option BusyTime → ℕ
polls_of p l work = first_told (slice_get p.luns (l.ce * 4 + l.lun)) (of_work p work) p.each
