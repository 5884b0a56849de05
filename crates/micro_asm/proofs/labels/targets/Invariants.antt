use Rattle.std.proofs.Common.{◌≡◌, ℕ, ◌<◌, ◌||◌, slice_index_or, false, drop}
use Rattle.micro_asm.specs.Assembly.{is_target}
use Rattle.micro_asm.proofs.labels.targets.Given as goal

abbrev pub invariant-loop-word : goal.invariant-loop-word
invariant-loop-word l =
    (at : ℕ) → at < 1024 → (slice_index_or l.named at false || is_target (drop l.word-index l.words) at) ≡ is_target l.words at
