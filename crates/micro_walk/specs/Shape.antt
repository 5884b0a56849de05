-- The shape of a text: its loops pair and are nested four deep at most, its branches lead on in the same turn of the same loop, and it ends.
use Rattle.std.specs.Prelude.{◌≡◌, ℕ, ◌+◌, ◌-◌, ◌≤◌, ◌==◌, Bool, false, not, nat_lt, if◌then◌else◌, List, [], ◌∷◌, Option, Some, None, length, slice_get, slice_index_or}
use Rattle.micro_word.specs.declared.word.Word.{Word}
use Rattle.micro_word.specs.declared.word.Word.TheVariants.{BranchOnStatus, Loop, Next, Jump}
use Rattle.micro_claims.specs.declared.refusal.Reason.{Reason}
use Rattle.micro_claims.specs.declared.refusal.Reason.TheVariants.{NoWords, LoopUnpaired, LoopsTooDeep, BranchMisplaced, LastWordNotEnd}
use Rattle.micro_claims.specs.declared.refusal.Fault.{Fault}
use Rattle.micro_walk.specs.declared.shape.Around.{Around}
use Rattle.micro_program.specs.Safe.{is_end}
use Rattle.micro_program.specs.Nested.{closer, loops_at, is_same, leads_forward}

-- V2: a `loop` with no `next`, or the first `next` with no `loop`
abbrev pub is_unpaired : List Word → ℕ → Word → Bool
is_unpaired words at (Loop turns) = length (loops_at words (at + 1)) == 0
is_unpaired words at Next = is_same (closer words 0) (Some at)
is_unpaired words at _ = false

-- V3: a `loop` that makes five loops around its first word
abbrev pub is_too_deep : List Word → ℕ → Word → Bool
is_too_deep words at (Loop turns) = nat_lt 4 (length (loops_at words (at + 1)))
is_too_deep words at _ = false

-- V4: a branch that doesn't lead forward in the same turn of the same loop
abbrev pub leads_astray : List Word → ℕ → Word → Bool
leads_astray words at (BranchOnStatus mask target) = not (leads_forward words at target)
leads_astray words at (Jump target) = not (leads_forward words at target)
leads_astray words at _ = false

-- the first place of a word, from a place on, that is so
abbrev pub first_where : (ℕ → Word → Bool) → ℕ → List Word → Option ℕ
first_where is_so at [] = None
first_where is_so at (word ∷ rest) = if is_so at word then Some at else first_where is_so (at + 1) rest

abbrev pub is_end_there : Option Word → Bool
is_end_there None = false
is_end_there (Some word) = is_end word

-- the last word is an `end`
abbrev pub ends : List Word → Bool
ends words = is_end_there (slice_get words (length words - 1))

abbrev pub fault_at : Reason → Option ℕ → Option Fault
fault_at reason None = None
fault_at reason (Some at) = Some (record { word = at; reason = reason })

abbrev pub or_fault : Option Fault → Option Fault → Option Fault
or_fault (Some fault) other = Some fault
or_fault None other = other

-- V5: where the text doesn't end
abbrev pub unended : List Word → Option ℕ
unended words = if ends words then None else Some (length words - 1)

-- the words of which a reason of the shape is true: the first one, for each reason
abbrev pub misshapen : List Word → Option Fault
misshapen words =
    or_fault (fault_at LoopUnpaired (first_where (is_unpaired words) 0 words))
    (or_fault (fault_at LoopsTooDeep (first_where (is_too_deep words) 0 words))
    (or_fault (fault_at BranchMisplaced (first_where (leads_astray words) 0 words))
    (fault_at LastWordNotEnd (unended words))))

-- the lowest reason of the shape, at the lowest word
abbrev pub shape_fault : List Word → Option Fault
shape_fault words = if length words == 0 then Some (record { word = 0; reason = NoWords }) else misshapen words

-- ---- the same, read off a table

-- whether a reason of the shape, that one word can show, is true of a word
abbrev pub is_misshapen : Reason → List Word → ℕ → Word → Bool
is_misshapen LoopUnpaired words at word = is_unpaired words at word
is_misshapen LoopsTooDeep words at word = is_too_deep words at word
is_misshapen BranchMisplaced words at word = leads_astray words at word
is_misshapen _ words at word = false

-- no loop is around
abbrev pub no_loop : Around
no_loop = record { next = None; depth = 0 }

-- the `next` of the innermost loop around a place, and how many loops are around it
abbrev pub around : List Word → ℕ → Around
around words at = record { next = closer words at; depth = length (loops_at words at) }

-- a table tells what is around each place of a text, from a place on
abbrev pub TellsFrom : List Word → ℕ → List Around → Type 0
TellsFrom words from table = (at : ℕ) → from ≤ at → at ≤ 1024 → slice_index_or table at no_loop ≡ around words at
