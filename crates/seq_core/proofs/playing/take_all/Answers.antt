use Rattle.std.proofs.Common.{◌≡◌, ◌++◌, List, ℕ, length, take, drop, sym, ap, ◌∙◌, arith}
use Rattle.target_bus.specs.Bus.{channel_of}
use Rattle.onfi_cycle.proofs.Written.{written_is}
use Rattle.seq_core.proofs.DataRuns.{run_never_refused, taken_plays}
use Rattle.seq_core.proofs.playing.take_all.Goals as goal

pub unreachable-requires : goal.unreachable-requires
unreachable-requires g c =
    run_never_refused (channel_of c.args.bus.now) c.args.lun c.args.len c.args.bus.now.past c.in-Err.field-0 c.requires.own
    (λ bytes size. c.in-Err.ensures.err.0 bytes (size ∙ sym c.split_at_mut-part.ensures.front_len))
    (c.in-Err.ensures.memory (omega (arith, c.split_at_mut-part.ensures.front_len, c.requires.room)))

pub returns : goal.returns
returns g c =
    let bytes = c.take_all.new.into in
    let buffer = c.args.buffer.now in
    let size : length bytes ≡ c.args.len = c.take_all.auto.into ∙ c.split_at_mut-part.ensures.front_len in
    let front = c.split_at_mut-rest.ensures.front in
    let back = c.split_at_mut-part.ensures.back ∙ (ap (drop c.args.len) c.split_at_mut-rest.ensures.back ∙ ap (λ (n : ℕ). drop n (drop c.args.place buffer)) (sym size)) in (
      bytes,
      taken_plays c.args.bus.now c.take_all.new.self c.args.lun.ce c.args.len bytes size c.in-Ok.ensures.ok,
      ap (λ (xs : List ℕ). xs ++ (bytes ++ c.split_at_mut-part.result.1.now)) front ∙
          (ap (λ (xs : List ℕ). take c.args.place buffer ++ (bytes ++ xs)) back ∙ written_is bytes c.args.place buffer (omega (arith, size, c.requires.inside))),
    )
