-- What `once` refuses may be refused: a reason against a text, or a fault of its job.
use Rattle.std.proofs.Common.{◌≡◌, ℕ, Option, Some, None, ap, ◌∙◌, subst, inl, inr}
use Rattle.nand_geometry.specs.declared.parts.Parts.{Parts}
use Rattle.micro_word.specs.Text.{Microprogram}
use Rattle.micro_walk.specs.Faults.{fault_of}
use Rattle.micro_program.specs.Verified.{VerifiedText}
use Rattle.seq_core.specs.declared.job_fault.JobFault.{JobFault}
use Rattle.seq_core.specs.Job.{job_fault}
use Rattle.seq_inputs.specs.declared.fault.Fault.{Fault}
use Rattle.seq_inputs.specs.declared.fault.Fault.TheVariants.{Text, Job}
use Rattle.seq_inputs.specs.declared.stop.Stop.{Stop}
use Rattle.seq_inputs.specs.Inputs.{RefusesReason}
use Rattle.seq_inputs.specs.Stops.{IsRefusal, Says}
use Rattle.seq_inputs.proofs.Verifieds.{said_more}
use Rattle.run_plan.proofs.Refusing.{said}
use Rattle.run_once.specs.Once.{one_lun, the_lun, refused_load, refused_text, MayBeRefused}

reason_may : (base : ℕ) (x : Microprogram) (f : Fault) → RefusesReason one_lun x f → MayBeRefused base x f
reason_may base x (Text reason word) (inl is) = inl (ap (refused_text base x) is)
reason_may base x (Text reason word) (inr loops) = inr loops
reason_may base x _ h = absurd h

-- a reason against a text
pub reason_said : {A : Type 0} (base : ℕ) (x : Microprogram) (g : Parts) (e : Stop A) → g ≡ one_lun → Says (RefusesReason g x) e → Says (MayBeRefused base x) e
reason_said base x g e same says =
    said_more (RefusesReason one_lun x) (MayBeRefused base x) e (reason_may base x) (subst (λ (h : Parts). Says (RefusesReason h x) e) same says)

job_may : (base : ℕ) (v : VerifiedText) (n : ℕ) (fault : JobFault) → fault_of one_lun v.text ≡ None → v.geometry ≡ one_lun → n ≡ v.text.buffer → job_fault one_lun 1 the_lun base v n ≡ Some fault → MayBeRefused base v.text (Job fault)
job_may base v n fault none same fits is =
    inl (ap (refused_text base v.text) none ∙ ap refused_load
    (subst (λ (h : Parts). job_fault one_lun 1 the_lun base (record { text = v.text; geometry = h }) v.text.buffer ≡ Some fault) same
    (subst (λ (m : ℕ). job_fault one_lun 1 the_lun base v m ≡ Some fault) fits is)))

-- a fault of its job
pub job_said : {A : Type 0} (base : ℕ) (x : Microprogram) (v : VerifiedText) (n : ℕ) (fault : JobFault) (e : Stop A) → IsRefusal (Job fault) e → v.text ≡ x → fault_of one_lun v.text ≡ None → v.geometry ≡ one_lun → n ≡ v.text.buffer → job_fault one_lun 1 the_lun base v n ≡ Some fault → Says (MayBeRefused base x) e
job_said base x v n fault e refuses text none same fits is =
    subst (λ (y : Microprogram). Says (MayBeRefused base y) e) text (said (MayBeRefused base v.text) (Job fault) e refuses (job_may base v n fault none same fits is))
