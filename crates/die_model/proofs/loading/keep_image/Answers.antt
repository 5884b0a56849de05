use Rattle.std.proofs.Common.{List, ℕ, replicate, ap, ◌∙◌}
use Rattle.nand_geometry.specs.Limits.{page_len}
use Rattle.die_model.specs.Loading.{told, count_told, entries_fault}
use Rattle.die_model.proofs.Images.{faultless, pages_of_none}
use Rattle.die_model.proofs.loading.keep_image.Goals as goal

pub keep_entries-requires-clause-inside : goal.keep_entries-requires-clause-inside
keep_entries-requires-clause-inside g c =
    pages_of_none c.args.geometry.now c.number_at.result 0 c.split_at.result.1.now
    (ap (λ n. entries_fault c.args.geometry.now n 0 c.split_at.result.1.now) c.number_at.ensures
    ∙ (ap (entries_fault c.args.geometry.now _ 0) c.split_at.ensures.back ∙ faultless c.args.geometry.now c.args.bytes.now c.requires.faultless))

pub returns-clause-told : goal.returns-clause-told
returns-clause-told g c =
    let blank : List ℕ = replicate (page_len c.args.geometry.now) 0xff in
    λ p. c.in_ok-keep_entries.ensures.told p
    ∙ (ap (λ n. told c.args.geometry.now n c.split_at.result.1.now p blank) c.number_at.ensures
    ∙ ap (λ xs. told c.args.geometry.now (count_told c.args.bytes.now) xs p blank) c.split_at.ensures.back)
