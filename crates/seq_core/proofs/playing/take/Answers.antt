use Rattle.seq_core.proofs.Played.{never_refused}
use Rattle.seq_core.proofs.playing.take.Goals as goal

pub unreachable-requires : goal.unreachable-requires
unreachable-requires g c =
    never_refused c.in-Err.field-0 _ (c.in-Err.ensures.err.0 0) (c.requires.own 0).0.permitted (c.in-Err.ensures.memory c.requires.room)
