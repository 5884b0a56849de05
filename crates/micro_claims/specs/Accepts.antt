-- The state after a word, and the lines that are accepted from a state.
use Rattle.std.specs.Prelude.{ℕ, ◌%◌, Bool, true, false, ◌&&◌, if◌then◌else◌, List, [], ◌∷◌, Option, Some, None, is_none}
use Rattle.nand_geometry.specs.declared.parts.Parts.{Parts}
use Rattle.onfi_cycle.specs.Command.{command}
use Rattle.micro_word.specs.declared.word.Word.{Word}
use Rattle.micro_word.specs.declared.word.Word.TheVariants.{End, Command, Address, Get, Put, Seek, Column, RowAdd, Row, Plane, Wait, Yield, ReadStatus, BranchOnStatus, Jump}
use Rattle.micro_program.specs.Lines.{Line}
use Rattle.micro_program.specs.Program.{cost}
use Rattle.micro_program.specs.Actions.{is_left_out}
use Rattle.micro_claims.specs.Spans.{exactly, plus, only}
use Rattle.micro_claims.specs.State.{State, Bounds, just_plane}
use Rattle.micro_claims.specs.Leaves.{with_registers, paid, polled, found_ready, handed_over, index_moved, drift_more, drift_set, page_plus, command_leaves, address_leaves, get_leaves, put_leaves}
use Rattle.micro_claims.specs.Reasons.{reason_against}

-- what a word leaves, its cost apart
abbrev pub word_leaves : Parts → State → Word → State
word_leaves g s (Command byte) = command_leaves g s (command byte)
word_leaves g s (Address from count) = address_leaves g s from count
word_leaves g s (Get len) = get_leaves s len
word_leaves g s (Put len) = put_leaves s len
word_leaves g s (Seek place) = with_registers s (record s.registers { place = exactly place })
word_leaves g s (Column column) = with_registers s (record s.registers { column = exactly column })
word_leaves g s (RowAdd rows) = index_moved g.pages (drift_more rows) (plus s.registers.index rows) (page_plus g.pages rows s.registers.page) s
word_leaves g s (Row row) = index_moved g.pages (drift_set (only s.registers.index) row) (exactly row) (record { lo = row % g.pages; hi = row % g.pages }) s
word_leaves g s (Plane plane) = with_registers s (record s.registers { planes = just_plane plane })
word_leaves g s Wait = found_ready (polled s)
word_leaves g s Yield = handed_over g s
word_leaves g s ReadStatus = polled s
word_leaves g s _ = s

unfoldable pub state_after : Parts → State → Word → State
state_after g s word = let left = word_leaves g s word in with_registers left (paid (cost g word) left.registers)

-- from a state on there is nothing against the lines, in each way that a branch may go, up to an `end`; lines before a target are left out
abbrev pub goes_on : Word → (Option ℕ → Bool) → Bool
goes_on (End code) rest = true
goes_on (BranchOnStatus mask target) rest = rest None && rest (Some target)
goes_on (Jump target) rest = rest (Some target)
goes_on _ rest = rest None

abbrev pub accepts : Parts → Bounds → Option ℕ → State → List Line → Bool
accepts g b target s [] = false
accepts g b target s (line ∷ rest) =
    if is_left_out target line then accepts g b target s rest
    else is_none (reason_against g b s line.word) && goes_on line.word (λ t. accepts g b t (state_after g s line.word) rest)
