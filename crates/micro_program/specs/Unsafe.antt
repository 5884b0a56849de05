-- Programs that aren't safe, so that the promise says something: each breaks it on a channel of one LUN.
use Rattle.std.specs.Prelude.{◌≡◌, ℕ, true, false, List, [], ◌∷◌, Some, None}
use Rattle.nand_geometry.specs.declared.parts.Parts.{Parts}
use Rattle.nand_geometry.specs.Optional.{no_optional}
use Rattle.micro_word.specs.declared.word.Word.{Word}
use Rattle.micro_word.specs.declared.word.Word.TheVariants.{End, Command, Address, Get, Wait, Yield}
use Rattle.micro_word.specs.Text.{Microprogram}
use Rattle.onfi_cycle.specs.Channel.{Channel}
use Rattle.micro_program.specs.Program.{Job}
use Rattle.micro_program.specs.Step.{Stride, answered_step}
use Rattle.micro_program.specs.Safe.{Seat, Reaches, IsFine, may_step, after_step, IsSafe, IsJobOf}

-- 512 + 16 bytes, 4 pages, 8 blocks, one LUN, no planes
abbrev pub one_lun : Parts
one_lun = record { page_bytes = 512; spare_bytes = 16; pages = 4; blocks = 8; luns = 1; plane_bits = 0; enhanced = false; multi_plane = false; cache = false; optional = no_optional }

-- these words, with one row, no buffer and this budget
abbrev pub text : ℕ → List Word → Microprogram
text budget words = record { rows = 1; buffer = 0; budget = budget; words = words }

-- the three words that start an erase, and these
abbrev pub erase_then : List Word → List Word
erase_then rest = Command 0x60 ∷ (Address 2 3 ∷ (Command 0xd0 ∷ rest))

abbrev pub IsUnsafe : ℕ → List Word → Type 0
IsUnsafe budget words = IsSafe (text budget words) one_lun → ⊥

-- the law: none of these is safe
pub record SomeAreUnsafe : Type 0 where
  pub no_end : IsUnsafe 0 []
  pub get_past_the_buffer : IsUnsafe 1 (Get 1 ∷ (End 0 ∷ []))
  pub unknown_command : IsUnsafe 1 (Command 0x42 ∷ (End 0 ∷ []))
  pub yield_in_a_sequence : IsUnsafe 1 (Command 0x60 ∷ (Yield ∷ (End 0 ∷ [])))
  pub budget_one_short : IsUnsafe 4 (erase_then (Wait ∷ (End 0 ∷ [])))
  pub end_while_busy : IsUnsafe 5 (erase_then (End 0 ∷ []))

-- the law: truth is needed. A job of an erase, which waits, comes to a seat where a byte that says ready, while the LUN is busy,
-- leads to a word that isn't fine
pub record TruthIsNeeded : Type 0 where
  pub s : Channel
  pub j : Job
  pub of : IsJobOf (text 5 (erase_then (Wait ∷ (End 0 ∷ [])))) one_lun s j
  pub seat : Seat
  pub reach : Reaches s j seat
  pub may : may_step j seat ≡ true
  pub r : Stride
  pub is_r : answered_step s.geometry j (0xe0 ∷ []) seat.past seat.ahead seat.done ≡ Some r
  pub goes_on : r.code ≡ None
  pub unfit : IsFine s j (after_step r) → ⊥
