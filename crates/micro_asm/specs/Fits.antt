-- The ranges of what has been read.
use Rattle.std.specs.Prelude.{ℕ, ◌<◌, ◌^◌, ◌≤◌, length}
use Rattle.std.specs.List.{AllByRecursion}
use Rattle.micro_word.specs.declared.format.Format.TheVariants.{Two}
use Rattle.micro_word.specs.Word.{IsInRange}
use Rattle.micro_asm.specs.declared.heading.Numbers.{Numbers}
use Rattle.micro_asm.specs.declared.heading.Heading.{Heading}
use Rattle.micro_asm.specs.declared.heading.Heading.TheVariants as heading
use Rattle.micro_asm.specs.declared.statement.Setting.{Setting}
use Rattle.micro_asm.specs.declared.statement.Setting.TheVariants as setting
use Rattle.micro_asm.specs.Line as line
use Rattle.micro_asm.specs.Reading.{Seen}

abbrev pub SettingFits : Setting → Type 0
SettingFits (setting.Rows rows) = (1 ≤ rows) × (rows ≤ 4096)
SettingFits (setting.Buffer buffer) = buffer ≤ 16777215
SettingFits (setting.Budget budget) = budget < 2 ^ 32

-- A word that is no branch is in range even in a text without words.
abbrev pub EntryFits : line.Entry → Type 0
EntryFits (line.Plain word) = IsInRange Two 0 word
EntryFits (line.Branch mask to) = (1 ≤ mask) × (mask < 256)
EntryFits (line.Jump to) = Unit {0}

abbrev pub LineFits : line.Line → Type 0
LineFits line.Nothing = Unit {0}
LineFits (line.Header setting) = SettingFits setting
LineFits (line.Label name) = Unit {0}
LineFits (line.Entered entry) = EntryFits entry

pub record NumbersFit (numbers : Numbers) : Type 0 where
  pub some_rows : 1 ≤ numbers.rows
  pub rows : numbers.rows ≤ 4096
  pub buffer : numbers.buffer ≤ 16777215
  pub budget : numbers.budget < 2 ^ 32

abbrev pub HeadingFits : Heading → Type 0
HeadingFits heading.Empty = Unit {0}
HeadingFits (heading.Rows rows) = (1 ≤ rows) × (rows ≤ 4096)
HeadingFits (heading.Buffer rows buffer) = (1 ≤ rows) × (rows ≤ 4096) × (buffer ≤ 16777215)
HeadingFits (heading.Whole numbers) = NumbersFit numbers

abbrev pub PairFits : ℕ × line.Entry → Type 0
PairFits pair = EntryFits pair.1

pub record SeenFits (seen : Seen) : Type 0 where
  pub heading : HeadingFits seen.heading
  pub count : length seen.entries ≤ 1024
  pub entries : AllByRecursion PairFits seen.entries
