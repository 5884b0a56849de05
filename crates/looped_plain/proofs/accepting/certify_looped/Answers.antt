use Rattle.looped_plain.proofs.Looped.{looped_texts_are_shown}
use Rattle.looped_plain.proofs.accepting.certify_looped.Goals as goal

pub unreachable-requires : goal.unreachable-requires
unreachable-requires g c =
    let shown = looped_texts_are_shown c.args.geometry c.parts.ensures.limits c.args.turns c.args.ops.now c.args.text c.find-claims.result c.requires.fine c.words.ensures.fits c.requires.looped c.find-claims.ensures in
    let accepted = c.in-Err.ensures.accepted.1 shown in
    absurd cc
