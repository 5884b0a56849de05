-- How what has been read is kept in memory, where names are borrowed from the text.
use Rattle.std.specs.Prelude.{ℕ, List, Option, map}
use Rattle.std.specs.Borrow.{Bor}
use Rattle.std.specs.BTreeMap.{BTreeMap, get_by}
use Rattle.std.specs.Cmp.Lexicographic.{slice_cmp}
use Rattle.std.specs.Ordering.{nat_cmp}
use Rattle.micro_asm.specs.declared.survey.Pending.{Pending}
use Rattle.micro_asm.specs.declared.survey.Survey.{Survey}
use Rattle.micro_asm.specs.Line.{Entry}
use Rattle.micro_asm.specs.Reading.{Seen}
use Rattle.micro_asm.specs.Shown.{shown_entry}

abbrev pub pair_of : Pending → ℕ × Entry
pair_of p = (p.line, shown_entry p.entry)

-- the place of each label's word
abbrev pub places : BTreeMap (Bor (List ℕ)) ℕ → List ℕ → Option ℕ
places m name = get_by (λ k. slice_cmp nat_cmp name k.now) m

abbrev pub seen : {A : Type 0} → Survey A → Seen
seen s = record { line = s.line; heading = s.heading; entries = map pair_of s.entries.items; labels = places s.labels }
