use Rattle.std.proofs.Common.{◌≡◌, length, drop}
use Rattle.std.specs.List.{AllByRecursion}
use Rattle.micro_word.specs.declared.format.Format.TheVariants.{Two}
use Rattle.micro_word.specs.Word.{IsInRange}
use Rattle.micro_asm.specs.Kept.{seen}
use Rattle.micro_asm.proofs.Words.{IsSoFar}
use Rattle.micro_asm.proofs.assembling.words_of.Given as goal

abbrev pub invariant-loop-pending : goal.invariant-loop-pending
invariant-loop-pending g l = record {
  count : length l.words.items ≡ l.pending-index;
  fits : AllByRecursion (IsInRange Two (length (seen l.survey).entries)) l.words.items;
  same : IsSoFar (length (seen l.survey).entries) (seen l.survey).labels (drop l.pending-index (seen l.survey).entries) (seen l.survey).entries l.words.items;
}
