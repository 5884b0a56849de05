use Rattle.seq_core.proofs.Numbered.{job_faults_are_numbered}
use Rattle.seq_core.proofs.laws.job_faults_are_numbered.Goals as goal

pub returns : goal.returns
returns c = job_faults_are_numbered
