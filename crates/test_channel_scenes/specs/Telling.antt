-- What is told of a job that is done.
use Rattle.std.specs.Prelude.{ℕ}
use Rattle.onfi_cycle.specs.declared.lun.Lun.{Lun}
use Rattle.channel_work.specs.declared.stored.NamedJob.{NamedJob}

-- its host, its number, its LUN and its code
abbrev pub told_of : {A : Type 0} → NamedJob A → ℕ × ℕ × Lun × ℕ
told_of one = (one.name.host, one.name.number, one.done.job.lun, one.done.code)
