use Rattle.micro_lint.proofs.Searched.{three_steps}
use Rattle.micro_lint.proofs.least_number.find_least.Goals as goal

pub returns-clause-least : goal.returns-clause-least
returns-clause-least g c =
    three_steps c.args.geometry.now c.args.words.items c.narrowed-search.result.words.items c.narrowed-search-2.result.words.items c.args.number c.least_of.result c.most_of.result
    c.narrowed-search.result.low c.narrowed-search.result.high c.narrowed-search-2.result.low c.narrowed-search-2.result.high c.ended-words.result.low c.ended-words.result.high
    c.narrowed-search.ensures.words c.narrowed-search-2.ensures.words c.least_of.ensures c.most_of.ensures c.ended-words.ensures.ended
    c.narrowed-search.ensures.between c.narrowed-search-2.ensures.between c.ended-words.ensures.between
