use Rattle.std.specs.Str.{IsUtf8}
use Rattle.run_file.proofs.Ascii.{is_utf8, is_text}
use Rattle.run_file.proofs.operands.text_of.Goals as goal

pub unwrap-requires : goal.unwrap-requires
unwrap-requires c = is_text c.from_utf8.result _ _ (IsUtf8 c.args.field.now) c.from_utf8.ensures.cases (is_utf8 c.args.field.now c.requires)
