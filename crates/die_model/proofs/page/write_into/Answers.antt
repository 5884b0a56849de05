use Rattle.std.proofs.Common.{◌≡◌, ◌++◌, List, ℕ, length, take, drop, sym, ap, ◌∙◌}
use Rattle.onfi_cycle.proofs.Written.{written_is}
use Rattle.die_model.proofs.page.write_into.Goals as goal

pub returns : goal.returns
returns c =
    let bytes = c.args.bytes.now in
    let old = c.args.old.now in
    let place = c.args.place in
    let size : length bytes ≡ length c.split_at_mut-part.result.0.now = sym c.split_at_mut-part.ensures.front_len in
    let back = c.split_at_mut-part.ensures.back ∙ ap (drop (length bytes)) c.split_at_mut-rest.ensures.back in
    ap (λ (xs : List ℕ). xs ++ (c.copy_from_slice.new.self ++ c.split_at_mut-part.result.1.now)) c.split_at_mut-rest.ensures.front ∙
    (ap (λ (xs : List ℕ). take place old ++ (xs ++ c.split_at_mut-part.result.1.now)) c.copy_from_slice.ensures.after ∙
    (ap (λ (xs : List ℕ). take place old ++ (bytes ++ xs)) back ∙ written_is bytes place old c.requires))
