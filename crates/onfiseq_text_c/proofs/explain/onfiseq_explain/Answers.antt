use Rattle.std.proofs.Common.{rules, ◌≡◌, length}
use Rattle.onfiseq_text_c.specs.Explained.{Words}
use Rattle.onfiseq_text_c.proofs.explain.onfiseq_explain.Goals as goal

pub returns-clause-written : goal.returns-clause-written
returns-clause-written c =
    let count : length c.as_bytes.result.now ≡ c.len.result = search rules in
    Words c.as_bytes.result.now count c.place_text.ensures
