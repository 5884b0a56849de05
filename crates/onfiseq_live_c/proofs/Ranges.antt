-- A word in its range has its address bytes among the five.
use Rattle.std.proofs.Common.{ℕ}
use Rattle.micro_word.specs.declared.format.Format.{Format}
use Rattle.micro_word.specs.declared.word.Word.{Word}
use Rattle.micro_word.specs.declared.word.Word.TheVariants as word
use Rattle.micro_word.specs.Word.{IsInRange}
use Rattle.seq_core.specs.Playing.{EndsWithFive}

pub ends_with_five : (f : Format) (n : ℕ) (w : Word) → IsInRange f n w → EndsWithFive w
ends_with_five f n (word.End code) h = tt
ends_with_five f n (word.Command byte) h = tt
ends_with_five f n (word.Address from count) h = h.2
ends_with_five f n (word.Get len) h = tt
ends_with_five f n (word.Put len) h = tt
ends_with_five f n (word.Seek place) h = tt
ends_with_five f n (word.Column column) h = tt
ends_with_five f n (word.RowAdd rows) h = tt
ends_with_five f n (word.Row row) h = tt
ends_with_five f n (word.Plane plane) h = tt
ends_with_five f n word.Wait h = tt
ends_with_five f n word.Yield h = tt
ends_with_five f n word.ReadStatus h = tt
ends_with_five f n (word.BranchOnStatus mask target) h = tt
ends_with_five f n (word.Loop turns) h = tt
ends_with_five f n word.Next h = tt
ends_with_five f n (word.Jump target) h = tt
