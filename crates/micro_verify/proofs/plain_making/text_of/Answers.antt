use Rattle.std.proofs.Common.{◌+◌, arith}
use Rattle.micro_verify.specs.Plain.{operations_len}
use Rattle.micro_verify.proofs.PlainShapes.{words_long}
use Rattle.micro_verify.proofs.plain_making.text_of.Goals as goal

pub words_len-requires : goal.words_len-requires
words_len-requires g c =
    let few = c.requires.count in
    let long = words_long (operations_len c.args.ops.now + 1) c.args.ops.now in
    omega (arith, few, long)

pub overflow_add-failure : goal.overflow_add-failure
overflow_add-failure g c =
    let few = c.requires.count in
    let long = words_long (operations_len c.args.ops.now + 1) c.args.ops.now in
    let is = c.words_len.ensures in
    omega (arith, few, long, is)

pub overflow_cast-failure : goal.overflow_cast-failure
overflow_cast-failure g c =
    let few = c.requires.count in
    let long = words_long (operations_len c.args.ops.now + 1) c.args.ops.now in
    let is = c.words_len.ensures in
    omega (arith, few, long, is)

pub unwrap-requires : goal.unwrap-requires
unwrap-requires g c = c.of.ensures.accepted.1 (rw (c.rows_of-rows.ensures, c.buffer_of-buffer.ensures, c.budget_of-budget.ensures, c.in_ok-words.ensures, c.words_len.ensures) c.requires)
