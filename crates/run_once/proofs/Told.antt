-- The trace of a job that ran can be printed.
use Rattle.std.proofs.Common.{◌≡◌, ℕ, List, reverse, sym, ap, ◌∙◌, subst, arith}
use Rattle.std.specs.List.{All}
use Rattle.onfi_cycle.specs.declared.item.Item.{Item}
use Rattle.micro_program.specs.Program.{Job}
use Rattle.trace_text.specs.Line.{IsPrintable}
use Rattle.run_once.specs.Runs.{RanAlone}
use Rattle.seq_run.proofs.Printing.{legal_is_printable}
use Rattle.run_once.specs.Once.{one_lun}

pub printable : (j : Job) (past items : List Item) (code : ℕ) → RanAlone j past code → items ≡ reverse past → All IsPrintable items
printable j past items code ran is =
    subst (All IsPrintable) (sym (is ∙ ap (reverse {A = Item}) ran.past_is)) (legal_is_printable one_lun 1 ran.end.past (omega arith) (omega arith) ran.lawful.legal)
