-- What a job line is refused for at last, and that it passes.
use Rattle.std.proofs.Common.{◌≡◌, ℕ, List, Option, Some, None, refl, sym, subst, inr}
use Rattle.seq_files.specs.Store.{Store}
use Rattle.nand_geometry.specs.declared.parts.Parts.{Parts}
use Rattle.onfi_cycle.specs.declared.lun.Lun.{Lun}
use Rattle.micro_program.specs.Verified.{VerifiedText}
use Rattle.micro_program.specs.Program.{Job as TheJob}
use Rattle.seq_core.specs.Job.{job_fault, job_of}
use Rattle.seq_core.specs.declared.job_fault.JobFault.{JobFault}
use Rattle.seq_inputs.specs.declared.fault.Fault.TheVariants.{Job}
use Rattle.seq_inputs.specs.Inputs.{HasText}
use Rattle.run_plan.specs.Setup.{IsJobOf}
use Rattle.run_plan.specs.Judged.{HasInput, JobPasses, JobLineIsRefused, fault_of_job}

same_fault : (g : Parts) (targets : ℕ) (l : Lun) (base : ℕ) (v : VerifiedText) (n : ℕ) (o : Option JobFault) → v.geometry ≡ g → n ≡ v.text.buffer → job_fault g targets l base v n ≡ o → fault_of_job g targets l base v.text v.text.buffer ≡ o
same_fault g targets l base v n o same fits is =
    subst (λ (h : Parts). job_fault g targets l base (record { text = v.text; geometry = h }) v.text.buffer ≡ o) same
    (subst (λ (m : ℕ). job_fault g targets l base v m ≡ o) fits is)

pub job_refused : (files : Option Store) (g : Parts) (targets : ℕ) (l : Lun) (base : ℕ) (text : List ℕ) (input : Option (List ℕ)) (v : VerifiedText) (n : ℕ) (buffer : List ℕ) (fault : JobFault) → HasText files g text v.text → v.geometry ≡ g → HasInput files input v.text.buffer buffer → n ≡ v.text.buffer → job_fault g targets l base v n ≡ Some fault → JobLineIsRefused files g targets l base text input (Job fault)
job_refused files g targets l base text input v n buffer fault has_text same has_input fits is =
    inr (inr (v.text, has_text, (buffer, has_input), same_fault g targets l base v n (Some fault) same fits is))

pub job_passes : (files : Option Store) (g : Parts) (targets : ℕ) (l : Lun) (base : ℕ) (text : List ℕ) (input : Option (List ℕ)) (v : VerifiedText) (n : ℕ) (buffer : List ℕ) → HasText files g text v.text → v.geometry ≡ g → HasInput files input v.text.buffer buffer → n ≡ v.text.buffer → job_fault g targets l base v n ≡ None → JobPasses files g targets l base text input
job_passes files g targets l base text input v n buffer has_text same has_input fits is =
    record { x = v.text; has_text = has_text; buffer = buffer; has_input = has_input; faultless = same_fault g targets l base v n None same fits is }

-- the job of a line
pub is_job : (files : Option Store) (g : Parts) (l : Lun) (base : ℕ) (text : List ℕ) (input : Option (List ℕ)) (v : VerifiedText) (buffer : List ℕ) (job : TheJob) → HasText files g text v.text → v.geometry ≡ g → HasInput files input v.text.buffer buffer → job ≡ job_of l base v buffer → IsJobOf files g l base text input job
is_job files g l base text input v buffer job has_text same has_input is =
    subst (λ (j : TheJob). IsJobOf files g l base text input j) (sym is)
    (record { lun = refl; base_is = refl; has_text = has_text; geometry = same; has_input = has_input })
