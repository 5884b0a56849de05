use Rattle.std.proofs.Common.{◌∙◌, ◌∷◌, ◌++◌, List, ap, reverse, []}
use Rattle.std.proofs.lemmas.List.{append-nil}
use Rattle.onfi_cycle.specs.declared.item.Item.{Item}
use Rattle.onfi_cycle.specs.declared.item.Item.TheVariants.{Cyc}
use Rattle.onfi_cycle.specs.Permitted.{is_legal}
use Rattle.onfi_cycle.specs.Sequence.{tail}
use Rattle.trace_faults.specs.Middle.{first_seen_as}
use Rattle.trace_ops.specs.Laws.{without_outputs}
use Rattle.trace_ops.specs.Listing.{has_one_lun, nothing_listed}
use Rattle.trace_ops.proofs.Walks.{nobody_within}
use Rattle.trace_ops.proofs.Pieces.{pieces_are, nothing_stands}
use Rattle.trace_ops.proofs.laws.pieces_are_tails.Goals as goal

pub returns : goal.returns
returns c readies beginning g targets before cycle later k few legal input mark =
    let past = append-nil (reverse before) in
    let seen = first_seen_as beginning g targets (before ++ (Cyc cycle ∷ later)) in
    pieces_are readies (has_one_lun g) g targets few before cycle later k seen 0 [] nothing_listed (λ m. []) input nobody_within nothing_stands
    (ap (λ (p : List Item). is_legal g targets (Cyc cycle ∷ p)) past ∙ legal) mark
    ∙ ap (λ (p : List Item). without_outputs (tail (Cyc cycle ∷ p) cycle.ce)) past
