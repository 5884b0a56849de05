use Rattle.std.proofs.Common.{◌≡◌, ◌++◌, length, take}
use Rattle.std.specs.Int.{w16, w32, to_le_bytes}
use Rattle.std.specs.List.{flat_map}
use Rattle.micro_word.specs.declared.format.Format.TheVariants.{Two}
use Rattle.micro_word.specs.Word.{spelling}
use Rattle.micro_word.specs.Text.{magic}
use Rattle.micro_word.proofs.writing.write.Given as goal

abbrev pub invariant-loop-word : goal.invariant-loop-word
invariant-loop-word g l =
    l.bytes.items ≡ (magic Two ++ to_le_bytes w16 (length l.words) ++ to_le_bytes w16 l.text.rows ++ to_le_bytes w32 l.text.buffer ++ to_le_bytes w32 l.text.budget) ++ flat_map spelling (take l.word-index l.words)
