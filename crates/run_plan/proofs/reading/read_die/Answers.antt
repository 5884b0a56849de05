use Rattle.std.proofs.Common.{Err, ap, subst}
use Rattle.die_model.specs.declared.refusal.ImageFault.{ImageFault}
use Rattle.seq_inputs.specs.declared.fault.Fault.TheVariants.{Image}
use Rattle.seq_inputs.specs.Stops.{IsRefusal}
use Rattle.run_plan.proofs.Refusing.{image_said}
use Rattle.run_plan.proofs.reading.read_die.Goals as goal

pub returns-in-Err-Fault-clause-err : goal.returns-in-Err-Fault-clause-err
returns-in-Err-Fault-clause-err g c =
    image_said (g.F.Files.store c.args.files.now) c.args.geometry c.args.path.now c.in_ok-bytes.bytes.items c.as_slice.result.now c.in_ok-die.die c.in-Err-Fault.fault c.refused.result _
    (subst (λ (f : ImageFault). IsRefusal (Image f) c.refused.result) c.in-Err-Fault.fault-is c.refused.ensures) c.in_ok-bytes.ensures.holds c.as_slice.ensures.value c.in_ok-die.ensures c.in-Err-Fault.ensures.judged (ap Err c.in-Err-Fault.field-0-is)
