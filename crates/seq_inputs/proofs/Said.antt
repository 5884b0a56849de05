-- What is refused is what a stop says.
use Rattle.std.proofs.Common.{◌≡◌, Option, Some, None, subst}
use Rattle.seq_inputs.specs.declared.fault.Fault.{Fault}
use Rattle.seq_inputs.specs.declared.refusal.Refusal.{Refusal}
use Rattle.seq_inputs.specs.declared.stop.Stop.{Stop}
use Rattle.seq_inputs.specs.declared.stop.Stop.TheVariants.{Refused, FileFault, ReaderGone, BuffersTooLarge, OutOfMemory}
use Rattle.seq_inputs.specs.Stops.{refusal_in, Says, SaysElse, Tells}

some_same : (r s : Refusal) → Some r ≡ Some s → r ≡ s
some_same r s h = cc

no_refusal : (r : Refusal) → None ≡ Some r → ⊥
no_refusal r h = cc

pub said : {A : Type 0} (May : Fault → Type 0) (stop : Stop A) (r : Refusal) → Says May stop → refusal_in stop ≡ Some r → Tells May r
said May (Refused s words) r h is = subst (Tells May) (some_same s r is) h
said May (FileFault path fault line) r h is = absurd (no_refusal r is)
said May ReaderGone r h is = absurd (no_refusal r is)
said May (BuffersTooLarge bytes line) r h is = absurd (no_refusal r is)
said May OutOfMemory r h is = absurd (no_refusal r is)

pub said_else : {A : Type 0} (May : Fault → Type 0) (Other : Type 0) (stop : Stop A) (r : Refusal) → SaysElse May Other stop → refusal_in stop ≡ Some r → Tells May r
said_else May Other (Refused s words) r h is = subst (Tells May) (some_same s r is) h
said_else May Other (FileFault path fault line) r h is = absurd (no_refusal r is)
said_else May Other ReaderGone r h is = absurd (no_refusal r is)
said_else May Other (BuffersTooLarge bytes line) r h is = absurd (no_refusal r is)
said_else May Other OutOfMemory r h is = absurd (no_refusal r is)
