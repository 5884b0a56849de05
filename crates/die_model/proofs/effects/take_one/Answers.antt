use Rattle.std.proofs.Common.{◌≡◌, ◌<◌, length, sym, ap, ◌∙◌, arith}
use Rattle.nand_geometry.specs.Limits.{page_len}
use Rattle.die_model.proofs.Rows.{program_rows, program_still, width_at}
use Rattle.die_model.proofs.effects.take_one.Given.{Over}
use Rattle.die_model.proofs.effects.take_one.Goals as goal

same_length : (g : Over) (c : goal.After-bytes g) → length c.bytes.result.now ≡ page_len c.args.parts
same_length g c =
    let low : c.plane_of-plane.result < length c.args.planes.now = omega (arith, c.plane_of-plane.ensures.there, c.requires.rows.count) in
    ap length c.bytes.ensures ∙ width_at c.args.planes.now c.plane_of-plane.result (page_len c.args.parts) c.index-planes-plane.result c.index-planes-plane.is low c.requires.rows.widths

pub program-requires : goal.program-requires
program-requires g c = λ old is. same_length g c ∙ sym (c.requires.rows.lengths c.in-Program.at old is)

pub returns-in-Program-clause-rows : goal.returns-in-Program-clause-rows
returns-in-Program-clause-rows g c = program_rows c.args.parts c.args.pages.now c.program.new.self c.args.planes.now c.in-Program.at c.bytes.result.now c.requires.rows (same_length g c.before) c.program.ensures

pub returns-in-Program-clause-still : goal.returns-in-Program-clause-still
returns-in-Program-clause-still g c = λ not_erase. program_still c.args.pages.now c.program.new.self c.in-Program.at c.bytes.result.now c.program.ensures
