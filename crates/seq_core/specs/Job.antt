-- Which jobs are made.
use Rattle.std.specs.Prelude.{ℕ, ◌+◌, ◌%◌, ◌==◌, ◌&&◌, not, nat_lt, nat_le, if◌then◌else◌, List, Option, Some, None}
use Rattle.nand_geometry.specs.declared.parts.Parts.{Parts}
use Rattle.nand_geometry.specs.Limits.{indices}
use Rattle.onfi_cycle.specs.declared.lun.Lun.{Lun}
use Rattle.micro_program.specs.Lines.{continues_cache_read}
use Rattle.micro_program.specs.Program.{Job}
use Rattle.micro_program.specs.Verified.{VerifiedText}
use Rattle.seq_core.specs.declared.job_fault.JobFault.{JobFault}
use Rattle.seq_core.specs.declared.job_fault.JobFault.TheVariants.{NoSuchLun, RowsOutside, BufferLength, OtherGeometry, NotAtBlock}
use Rattle.seq_core.specs.After.{same_parts}

-- the job of a verified text
abbrev pub job_of : Lun → ℕ → VerifiedText → List ℕ → Job
job_of l base v buffer = record { lun = l; base = base; text = v.text; geometry = v.geometry; buffer = buffer }

-- the first fault of a job with a buffer of this length: the LUN isn't there, base and rows pass the indices, the buffer has
-- another length, the text was verified for another geometry, or it continues a cache read and the base isn't the first page of a block
abbrev pub job_fault : Parts → ℕ → Lun → ℕ → VerifiedText → ℕ → Option JobFault
job_fault g targets l base v buffer =
    if not (nat_lt l.ce targets && nat_lt l.lun g.luns) then Some NoSuchLun
    else (if not (nat_le (base + v.text.rows) (indices g)) then Some RowsOutside
    else (if not (buffer == v.text.buffer) then Some BufferLength
    else (if not (same_parts g v.geometry) then Some OtherGeometry
    else (if continues_cache_read v.text.words && not (base % g.pages == 0) then Some NotAtBlock
    else None))))
