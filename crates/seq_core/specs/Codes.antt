-- The codes under which faults are told.
use Rattle.std.specs.Prelude.{◌≡◌, ℕ, ◌==◌, if◌then◌else◌, List, codes, Option, Some, None}
use Rattle.seq_core.specs.declared.job_fault.JobFault.{JobFault}
use Rattle.seq_core.specs.declared.job_fault.JobFault.TheVariants as job
use Rattle.seq_core.specs.declared.load_fault.LoadFault.{LoadFault}
use Rattle.seq_core.specs.declared.load_fault.LoadFault.TheVariants as load
use Rattle.seq_core.specs.declared.unload_fault.UnloadFault.{UnloadFault}
use Rattle.seq_core.specs.declared.unload_fault.UnloadFault.TheVariants.{NoJob, StillRunning}

-- the code under which a fault of a job is told
abbrev pub job_fault_code : JobFault → List ℕ
job_fault_code job.NoSuchLun = codes "S2"
job_fault_code job.RowsOutside = codes "S3"
job_fault_code job.BufferLength = codes "S4"
job_fault_code job.OtherGeometry = codes "S5"
job_fault_code job.NotAtBlock = codes "S6"

-- the code under which a fault of a load is told
abbrev pub load_fault_code : LoadFault → List ℕ
load_fault_code load.SlotTaken = codes "S1"
load_fault_code load.OtherLun = codes "S2"
load_fault_code load.OtherGeometry = codes "S5"

-- the code under which a fault of an unload is told
abbrev pub unload_fault_code : UnloadFault → List ℕ
unload_fault_code NoJob = codes "U1"
unload_fault_code StillRunning = codes "U2"

-- the number of the code of a fault of a job
abbrev pub job_fault_number : JobFault → ℕ
job_fault_number job.NoSuchLun = 2
job_fault_number job.RowsOutside = 3
job_fault_number job.BufferLength = 4
job_fault_number job.OtherGeometry = 5
job_fault_number job.NotAtBlock = 6

-- the fault of a job whose code has this number
unfoldable pub job_fault_of : ℕ → Option JobFault
job_fault_of n =
    if n == 2 then Some job.NoSuchLun else (
    if n == 3 then Some job.RowsOutside else (
    if n == 4 then Some job.BufferLength else (
    if n == 5 then Some job.OtherGeometry else (
    if n == 6 then Some job.NotAtBlock else None))))

-- the law: each fault of a job is that of its number
abbrev pub JobFaultsAreNumbered : Type 0
JobFaultsAreNumbered = (fault : JobFault) → job_fault_of (job_fault_number fault) ≡ Some fault
