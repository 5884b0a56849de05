-- What a check says of a recording once all is known of the channel.
use Rattle.std.specs.Prelude.{◌≡◌, ℕ, true, List, []}
use Rattle.onfi_cycle.specs.declared.item.Item.{Item}
use Rattle.trace_faults.specs.declared.readies.Readies.{Readies}
use Rattle.trace_faults.specs.Faults.{faults_from}
use Rattle.trace_faults.specs.Middle.{Seen, known_of, is_whole, verdicts_from, all_broken, all_granted, count_passed_over}

-- all is known of each target: an opener was seen, and work of each of its LUNs
abbrev pub IsWhole : Seen → Type 0
IsWhole seen = (ce : ℕ) → is_whole (known_of seen.known ce) ≡ true

-- what is said of these items, counted from this number on, are exactly the faults of them, and nothing of them is passed over or taken for granted
pub record AreFaults (readies : Readies) (seen : Seen) (n : ℕ) (items : List Item) : Type 0 where
  pub faults : all_broken n (verdicts_from readies seen items) ≡ faults_from readies seen.state n items
  pub granted : all_granted n (verdicts_from readies seen items) ≡ []
  pub passed_over : count_passed_over (verdicts_from readies seen items) ≡ 0

-- once all is known, a recording from the middle is judged as one from the start
abbrev pub WholeChecksArentVoid : Type 0
WholeChecksArentVoid = (readies : Readies) (seen : Seen) (n : ℕ) (items : List Item) → IsWhole seen → AreFaults readies seen n items
