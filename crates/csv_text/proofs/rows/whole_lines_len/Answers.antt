use Rattle.csv_text.proofs.Pieces.{lines_before}
use Rattle.csv_text.proofs.rows.whole_lines_len.Goals as goal

pub returns-else-piece-count-ne10-clause-lines : goal.returns-else-piece-count-ne10-clause-lines
returns-else-piece-count-ne10-clause-lines c = lines_before c.bytes.count c.args.piece.now c.bytes-test.true c.bytes.invariant.0 c.if-piece-count-ne10.false
