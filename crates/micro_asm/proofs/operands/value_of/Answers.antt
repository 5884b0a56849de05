use Rattle.std.proofs.Common.{refl, sym, ◌∙◌}
use Rattle.std.specs.Str.{IsUtf8}
use Rattle.micro_asm.proofs.Numbers.{digits_are_text, is_text, short_number}
use Rattle.micro_asm.proofs.operands.value_of.Goals as goal

pub unwrap-text-requires : goal.unwrap-text-requires
unwrap-text-requires c = is_text c.from_utf8.result _ _ (IsUtf8 c.args.field.now) c.from_utf8.ensures.cases (digits_are_text c.args.field.now c.requires.decimal)

pub unwrap-requires : goal.unwrap-requires
unwrap-requires c =
    let same = (rw c.unwrap-text.ensures at c.from_utf8.ensures.cases).0 in
    let read = rw same at c.parse.ensures.value.0 in
    let number = short_number c.args.field.now c.parse.result read c.requires.decimal c.requires.some c.requires.short in
    rw number refl

pub returns : goal.returns
returns c =
    let same = (rw c.unwrap-text.ensures at c.from_utf8.ensures.cases).0 in
    let read = rw same at c.parse.ensures.value.0 in
    let number = short_number c.args.field.now c.parse.result read c.requires.decimal c.requires.some c.requires.short in
    let made = sym c.unwrap.ensures ∙ number in
    cc
