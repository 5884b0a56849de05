use Rattle.std.proofs.Common.{◌≡◌, ◌++◌, List, ℕ, length, take, drop, reverse, sym, ap, ◌∙◌, arith}
use Rattle.onfi_cycle.proofs.Written.{written_is, written_len}
use Rattle.seq_core.proofs.Below.{refilled}
use Rattle.onfi_cycle.specs.Content.{written}
use Rattle.seq_core.specs.Job.{job_of}
use Rattle.seq_core.specs.Progress.{Progress, with_buffer}
use Rattle.seq_core.proofs.slot.Slot.put_taken.Goals as goal

pub returns : goal.returns
returns g c =
    let bytes = c.args.bytes.now in
    let place = c.args.place in
    let buffer = c.as_mut_slice.result.now in
    let shown : List ℕ → Progress = λ xs. record { job = job_of c.self.inside.lun c.self.inside.base c.self.inside.verified xs; at = c.self.inside.position.at; loops = reverse c.self.inside.position.loops.items; registers = c.self.inside.position.registers; code = c.self.inside.position.code } in
    let back = c.split_at_mut-part.ensures.back ∙ ap (drop (length bytes)) c.split_at_mut-rest.ensures.back in
    let items = ap (λ (xs : List ℕ). xs ++ (c.copy_from_slice.new.self ++ c.split_at_mut-part.result.1.now)) c.split_at_mut-rest.ensures.front ∙
    (ap (λ (xs : List ℕ). take place buffer ++ (xs ++ c.split_at_mut-part.result.1.now)) c.copy_from_slice.ensures.after ∙
    (ap (λ (xs : List ℕ). take place buffer ++ (bytes ++ xs)) back ∙ written_is bytes place buffer (omega (arith, c.requires)))) in
    let whole = c.split_at_mut-rest.result.0.now ++ (c.copy_from_slice.new.self ++ c.split_at_mut-part.result.1.now) in
    let size : length whole ≡ length c.self.inside.buffer.items = ap length items ∙ (written_len bytes place buffer ∙ ap length c.as_mut_slice.ensures.value) in
    ap shown (refilled c.self.inside.buffer.len c.self.inside.buffer.items whole (size ∙ sym c.self.inside.buffer.ok.0) c.self.inside.buffer.ok.0) ∙ (ap shown items ∙ (ap (λ (xs : List ℕ). shown (written bytes place xs)) c.as_mut_slice.ensures.value ∙ ap (λ (v : Progress). with_buffer v (written bytes place v.job.buffer)) c.self.view_is))
