use Rattle.std.proofs.Common.{◌≡◌, sym, ap, ◌∙◌}
use Rattle.micro_verify.specs.Plain.{operation_words}
use Rattle.micro_verify.proofs.PlainLists.{added_on_ok}
use Rattle.micro_verify.proofs.plain_op.PlainOp.push_words.Goals as goal

pub returns-in-Read : goal.returns-in-Read
returns-in-Read g c =
    let words : operation_words c.args.failure c.args.self ≡ c.read_words.result = ap (operation_words c.args.failure) c.in-Read.is ∙ sym (c.read_words.ensures c.args.failure) in
    rw (words) (added_on_ok c.extend_from_slice.result c.extend_from_slice.new.self.items c.args.words.now.items c.read_words.result c.extend_from_slice.ensures.items)

pub returns-in-Program : goal.returns-in-Program
returns-in-Program g c =
    let words : operation_words c.args.failure c.args.self ≡ c.program_words.result = ap (operation_words c.args.failure) c.in-Program.is ∙ sym c.program_words.ensures in
    rw (words) (added_on_ok c.extend_from_slice-in-Program.result c.extend_from_slice-in-Program.new.self.items c.args.words.now.items c.program_words.result c.extend_from_slice-in-Program.ensures.items)
