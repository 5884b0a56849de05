-- Each fault is that of its number.
use Rattle.std.proofs.Common.{◌≡◌, Some, refl}
use Rattle.seq_core.specs.declared.job_fault.JobFault.{JobFault}
use Rattle.seq_core.specs.declared.job_fault.JobFault.TheVariants as job
use Rattle.seq_core.specs.Codes.{job_fault_number, job_fault_of}

pub job_faults_are_numbered : (x : JobFault) → job_fault_of (job_fault_number x) ≡ Some x
unfolding job_fault_of
job_faults_are_numbered job.NoSuchLun = refl
job_faults_are_numbered job.RowsOutside = refl
job_faults_are_numbered job.BufferLength = refl
job_faults_are_numbered job.OtherGeometry = refl
job_faults_are_numbered job.NotAtBlock = refl
