-- Plain texts fit the second format.
use Rattle.std.proofs.Common.{◌≡◌, ℕ, ◌+◌, ◌<◌, List, [], ◌∷◌, None, arith, length}
use Rattle.std.specs.List.{AllByRecursion}
use Rattle.nand_geometry.specs.declared.parts.Parts.{Parts}
use Rattle.nand_geometry.specs.Limits.{InLimits}
use Rattle.micro_word.specs.declared.format.Format.TheVariants.{Two}
use Rattle.micro_word.specs.Word.{IsInRange}
use Rattle.micro_word.specs.Text.{FitsFormat}
use Rattle.micro_verify.specs.declared.plain_op.PlainOp.{PlainOp}
use Rattle.micro_verify.specs.declared.plain_op.PlainOp.TheVariants.{Read, Program, Erase}
use Rattle.micro_verify.specs.Plain.{operations_len, words_from, plain_words, plain_text, plain_fault}
use Rattle.micro_verify.proofs.PlainShapes.{words_long}
use Rattle.micro_verify.proofs.PlainInsides.{AllInside, row_fits, part_fits, few_planes, short_page, some_rows, rows_fit, buffer_fits, budget_fits, are_fine}

pub words_in_range : (g : Parts) → InLimits g → (count failure : ℕ) (ops : List PlainOp) → failure < count → AllInside g ops → AllByRecursion (IsInRange Two count) (words_from failure ops)
words_in_range g l count failure [] there inside = (omega arith, (omega arith, tt))
words_in_range g l count failure (Read row plane column place len ∷ ops) there inside =
    let fits = part_fits g row plane column place len inside.0 in
    let r = fits.0.row_there in
    let p = fits.0.plane_there in
    let planes = few_planes g l in
    let some = fits.1.some in
    let page = fits.1.page in
    let long = short_page g l in
    let buffer = fits.1.buffer in
    (r, (omega (arith, p, planes), (omega (arith, page, long), (omega (arith, buffer), (omega arith, ((omega arith, omega arith, omega arith), (omega arith, (tt, (omega arith, ((some, omega (arith, buffer)), words_in_range g l count failure ops there inside.1))))))))))
words_in_range g l count failure (Program row plane column place len ∷ ops) there inside =
    let fits = part_fits g row plane column place len inside.0 in
    let r = fits.0.row_there in
    let p = fits.0.plane_there in
    let planes = few_planes g l in
    let some = fits.1.some in
    let page = fits.1.page in
    let long = short_page g l in
    let buffer = fits.1.buffer in
    (r, (omega (arith, p, planes), (omega (arith, page, long), (omega (arith, buffer), (omega arith, ((omega arith, omega arith, omega arith), ((some, omega (arith, buffer)), (omega arith, (tt, ((omega arith, omega arith, there), words_in_range g l count failure ops there inside.1))))))))))
words_in_range g l count failure (Erase row plane ∷ ops) there inside =
    let fits = row_fits g row plane inside.0 in
    let r = fits.row_there in
    let p = fits.plane_there in
    let planes = few_planes g l in
    (r, (omega (arith, p, planes), (omega arith, ((omega arith, omega arith, omega arith), (omega arith, (tt, ((omega arith, omega arith, there), words_in_range g l count failure ops there inside.1)))))))

pub plain_text_fits : (g : Parts) → InLimits g → (ops : List PlainOp) → plain_fault g ops ≡ None → FitsFormat Two (plain_text ops)
plain_text_fits g l ops none =
    let fine = are_fine g ops none in
    let few = fine.few in
    let long = words_long (operations_len ops + 1) ops in
    record {
      some_rows = some_rows ops fine.some;
      rows = rows_fit g ops fine.inside;
      buffer = buffer_fits g ops fine.inside;
      budget = budget_fits g l ops fine.inside few;
      count = omega (arith, long, few);
      words = words_in_range g l (length (plain_words ops)) (operations_len ops + 1) ops (omega (arith, long)) fine.inside;
    }
