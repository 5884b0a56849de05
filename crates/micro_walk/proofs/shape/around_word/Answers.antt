use Rattle.std.proofs.Common.{◌≡◌, ℕ, ◌+◌, ◌<◌, Some, sym, subst, arith, length, get_or}
use Rattle.micro_word.specs.declared.word.Word.TheVariants.{End}
use Rattle.micro_program.specs.Nested.{closer}
use Rattle.micro_walk.specs.Shape.{no_loop, around}
use Rattle.micro_walk.proofs.ShapeTable.{few_around, next_told, next_inside, around_loop}
use Rattle.micro_walk.proofs.shape.around_word.Goals as goal
use Rattle.micro_walk.proofs.shape.around_word.Goals.{After-from}

pub overflow_add-result : goal.overflow_add-result
overflow_add-result c =
    let few = few_around c.args.words.now (c.args.at + 1) c.args.table.now (c.args.at + 1) c.requires.told (omega arith) (omega arith) in
    omega arith

next_is : (c : After-from) → closer c.args.words.now (c.args.at + 1) ≡ Some c.in-Loop-Some.next
next_is c = next_told c.args.words.now c.args.at c.in-Loop-Some.next c.args.table.now c.requires.inside c.requires.few c.requires.told c.in-Loop-Some.is-1

next_there : (c : After-from) → c.from.result < length c.args.words.now
next_there c = let inside = (next_inside c.args.words.now (c.args.at + 1) c.in-Loop-Some.next (next_is c)).1 in let same = c.from.ensures in omega (arith, inside, same)

pub overflow_add-result-in-Loop-Some : goal.overflow_add-result-in-Loop-Some
overflow_add-result-in-Loop-Some c = let there = next_there c in omega arith

pub offset_bounds-table-from : goal.offset_bounds-table-from
offset_bounds-table-from c = let there = next_there c in omega arith

pub bounds-table-from : goal.bounds-table-from
bounds-table-from c = let there = next_there c in omega arith

pub returns-in-Loop-Some : goal.returns-in-Loop-Some
returns-in-Loop-Some c =
    subst (λ (n : ℕ). get_or c.args.table.now (n + 1) no_loop ≡ around c.args.words.now c.args.at) (sym c.from.ensures)
    (around_loop c.args.words.now c.args.at c.in-Loop-Some.turns-0 c.in-Loop-Some.next c.args.table.now (End 0) c.requires.inside c.requires.few c.requires.told c.in-Loop-Some.is-0
    (next_told c.args.words.now c.args.at c.in-Loop-Some.next c.args.table.now c.requires.inside c.requires.few c.requires.told c.in-Loop-Some.is-1))
