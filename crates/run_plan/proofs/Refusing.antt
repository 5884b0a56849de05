-- What is refused may be: the stop that is told of a fault, an image, the line of a job.
use Rattle.std.proofs.Common.{◌≡◌, ℕ, Bool, true, false, List, Option, Some, None, Result, Ok, Err, IfErr, refl, ap, subst, inl, inr}
use Rattle.seq_files.specs.Store.{Store, Holds}
use Rattle.nand_geometry.specs.declared.parts.Parts.{Parts}
use Rattle.onfi_cycle.specs.declared.lun.Lun.{Lun}
use Rattle.die_model.specs.declared.refusal.ImageFault.{ImageFault}
use Rattle.die_model.specs.declared.refusal.ImageRefusal.{ImageRefusal}
use Rattle.die_model.specs.declared.refusal.ImageRefusal.TheVariants.{Fault as ImageFaultAt}
use Rattle.die_model.specs.Die.{Die, new_die}
use Rattle.die_model.specs.Loading.{image_fault, IsJudgedBy}
use Rattle.run_file.specs.declared.refusal.RunFault.TheVariants.{UnknownLine}
use Rattle.run_file.specs.Line.{Job as JobLine}
use Rattle.seq_inputs.specs.declared.fault.Fault.{Fault}
use Rattle.seq_inputs.specs.declared.fault.Fault.TheVariants.{Image, Statement as Line}
use Rattle.seq_inputs.specs.declared.refusal.Refusal.{Refusal}
use Rattle.seq_inputs.specs.declared.stop.Stop.{Stop}
use Rattle.seq_inputs.specs.declared.stop.Stop.TheVariants.{Refused, FileFault, ReaderGone, BuffersTooLarge, OutOfMemory}
use Rattle.seq_inputs.specs.Refusals.{refusal_of}
use Rattle.seq_inputs.specs.Stops.{IsRefusal, Says, Tells}
use Rattle.seq_inputs.proofs.Verifieds.{said_more}
use Rattle.run_plan.specs.Judged.{has_lun, lun_at, LunIsRefused, may_tell, FailIsRefused, ImageIsRefused, JobLineIsRefused, IsRefused}

some_same : (r s : Refusal) → Some r ≡ Some s → s ≡ r
some_same r s h = cc

no_refusal : (r : Refusal) → None ≡ Some r → ⊥
no_refusal r h = cc

-- what is refused of a file has a fault for which it may be
pub said : {A : Type 0} (May : Fault → Type 0) (fault : Fault) (e : Stop A) → IsRefusal fault e → May fault → Says May e
said May fault (Refused r words) is h = subst (Tells May) (some_same r (refusal_of fault) is) (h, refl)
said May fault (FileFault path f line) is h = absurd (no_refusal (refusal_of fault) is)
said May fault ReaderGone is h = absurd (no_refusal (refusal_of fault) is)
said May fault (BuffersTooLarge bytes line) is h = absurd (no_refusal (refusal_of fault) is)
said May fault OutOfMemory is h = absurd (no_refusal (refusal_of fault) is)

judged_fault : {X : Type 0} (o : Option ImageFault) (r : Result X ImageRefusal) (fault : ImageFault) → IsJudgedBy o r → r ≡ Err (ImageFaultAt fault) → o ≡ Some fault
judged_fault (Some f) r fault judged was = cc
judged_fault None (Ok x) fault judged was = absurd (let clash : ⊥ = cc in clash)
judged_fault None (Err e) fault judged was = absurd (let clash : ⊥ = cc in clash)

-- the image at a path was judged, and has a fault
pub image_said : {A X : Type 0} (files : Option Store) (g : Parts) (path bytes slice : List ℕ) (d : Die) (fault : ImageFault) (e : Stop A) (r : Result X ImageRefusal) → IsRefusal (Image fault) e → Holds files path bytes → slice ≡ bytes → d ≡ new_die g → IsJudgedBy (image_fault d.geometry slice) r → r ≡ Err (ImageFaultAt fault) → Says (ImageIsRefused files g path) e
image_said files g path bytes slice d fault e r is there same new judged was =
    said (ImageIsRefused files g path) (Image fault) e is (
      bytes,
      there,
      subst (λ (h : Parts). image_fault h bytes ≡ Some fault) (ap (λ (x : Die). x.geometry) new)
          (subst (λ (b : List ℕ). image_fault d.geometry b ≡ Some fault) same (judged_fault (image_fault d.geometry slice) r fault judged was)),
    )

-- a job is refused, and its LUN is there
pub job_line_said : {X A : Type 0} (files : Option Store) (g : Parts) (targets target lun base : ℕ) (l : Lun) (text : List ℕ) (input output : Option (List ℕ)) (r : Result X (Stop A)) → has_lun g targets target lun ≡ true → l ≡ lun_at target lun → IfErr r (Says (JobLineIsRefused files g targets l base text input)) → IfErr r (Says (IsRefused files g targets (JobLine target lun base text input output)))
job_line_said files g targets target lun base l text input output (Ok x) there same h = tt
job_line_said files g targets target lun base l text input output (Err e) there same h =
    said_more (JobLineIsRefused files g targets l base text input) (IsRefused files g targets (JobLine target lun base text input output)) e
    (λ f k. inr (there, subst (λ (m : Lun). JobLineIsRefused files g targets m base text input f) same k)) h

-- a ready tells of the page before it, where it may not
pub before_said : {A : Type 0} (g : Parts) (targets target lun : ℕ) (before : Bool) (e : Stop A) → IsRefusal (Line UnknownLine) e → may_tell g before ≡ false → Says (FailIsRefused g targets target lun before) e
before_said g targets target lun before e is h = said (FailIsRefused g targets target lun before) (Line UnknownLine) e is (inl (h, refl))

-- it tells what it may, of a LUN that isn't there
pub failing_said : {A : Type 0} (g : Parts) (targets target lun : ℕ) (before : Bool) (e : Stop A) → Says (LunIsRefused g targets target lun) e → may_tell g before ≡ true → Says (FailIsRefused g targets target lun before) e
failing_said g targets target lun before e says h =
    said_more (LunIsRefused g targets target lun) (FailIsRefused g targets target lun before) e (λ f k. inr (h, k)) says
