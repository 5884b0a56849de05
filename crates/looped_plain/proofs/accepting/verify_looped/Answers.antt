use Rattle.looped_plain.proofs.Looped.{looped_texts_are_found}
use Rattle.looped_plain.proofs.accepting.verify_looped.Goals as goal

pub unreachable-requires : goal.unreachable-requires
unreachable-requires g c =
    let accepted = c.in-Err.ensures.found (looped_texts_are_found c.args.geometry c.parts.ensures.limits c.args.turns c.args.ops.now c.args.text c.requires.fine c.words.ensures.fits c.requires.looped) in
    absurd cc
