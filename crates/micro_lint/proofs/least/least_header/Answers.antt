use Rattle.micro_lint.specs.declared.header.Header.{Header}
use Rattle.micro_lint.proofs.Searched.{three_numbers, none_of}
use Rattle.micro_lint.proofs.least.least_header.Goals as goal

pub returns-then-not-is_enough : goal.returns-then-not-is_enough
returns-then-not-is_enough g c =
    none_of c.args.geometry.now c.args.text.now.words c.in_ok-words.words.items c.try_header-words.result.1 c.in_ok-words.ensures.same c.if-not-is_enough.true c.try_header-words.ensures.enough

pub returns : goal.returns
returns g c =
    let least : Header = record { rows = c.find_least-words.result.1; buffer = c.find_least-words-2.result.1; budget = c.find_least-budget.result.1 } in
    three_numbers c.args.geometry.now c.args.text.now.words c.in_ok-words.words.items c.try_header-words.result.0.items c.find_least-words.result.0.items c.find_least-words-2.result.0.items least
    c.try_header-words.result.1 c.in_ok-words.ensures.same c.try_header-words.ensures.words c.find_least-words.ensures.words c.find_least-words-2.ensures.words c.if-not-is_enough.false
    c.try_header-words.ensures.enough c.find_least-words.ensures.least c.find_least-words-2.ensures.least c.find_least-budget.ensures.least
