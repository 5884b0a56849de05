-- The inputs and the outputs of an operation count the items that come to it.
use Rattle.std.proofs.Common.{◌≡◌, ℕ, Bool, true, false, cond, Option, refl}
use Rattle.onfi_cycle.specs.declared.item.Item.{Item}
use Rattle.onfi_cycle.specs.declared.item.Item.TheVariants.{Cyc, Rdy, Ard}
use Rattle.onfi_cycle.specs.declared.item.Kind.{Kind}
use Rattle.onfi_cycle.specs.declared.item.Kind.TheVariants.{Cmd, Adr, Din, Dout}
use Rattle.trace_ops.specs.declared.judged.Judged.{Judged}
use Rattle.trace_ops.specs.declared.operation.Operation.{Operation}
use Rattle.trace_ops.specs.Listing.{begins_one, new_by_command, new_one}
use Rattle.trace_ops.specs.Laws.{is_input, is_output_item, inputs_of, outputs_of}
use Rattle.trace_ops.proofs.Changed.{quiet_inputs, quiet_outputs, loud_inputs, loud_outputs}
use Rattle.trace_ops.proofs.Walks.{Counts}

either : (f : Operation → ℕ) (b : Bool) (x y : Operation) → f x ≡ 0 → f y ≡ 0 → f (cond b x y) ≡ 0
either f true x y p q = p
either f false x y p q = q

new_inputs : (j : Judged) (newest : Option Operation) (i : Item) → inputs_of (new_one j newest i) ≡ 0
new_inputs j newest (Cyc c) = at c.kind
  where
    at : (kind : Kind) → inputs_of (new_by_command j newest c kind) ≡ 0
    at Cmd = either inputs_of (begins_one newest c.byte) _ _ refl refl
    at Adr = refl
    at Din = refl
    at Dout = refl
new_inputs j newest (Rdy ce lun fail) = refl
new_inputs j newest (Ard ce lun fail) = refl

new_outputs : (j : Judged) (newest : Option Operation) (i : Item) → outputs_of (new_one j newest i) ≡ 0
new_outputs j newest (Cyc c) = at c.kind
  where
    at : (kind : Kind) → outputs_of (new_by_command j newest c kind) ≡ 0
    at Cmd = either outputs_of (begins_one newest c.byte) _ _ refl refl
    at Adr = refl
    at Din = refl
    at Dout = refl
new_outputs j newest (Rdy ce lun fail) = refl
new_outputs j newest (Ard ce lun fail) = refl

pub count_inputs : Counts inputs_of is_input
count_inputs = record { quiet = quiet_inputs; loud = loud_inputs; new = new_inputs }

pub count_outputs : Counts outputs_of is_output_item
count_outputs = record { quiet = quiet_outputs; loud = loud_outputs; new = new_outputs }
