use Rattle.std.proofs.Common.{inl, inr, refl}
use Rattle.seq_live.proofs.live.Live.takes.Goals as goal

pub returns-in-Some : goal.returns-in-Some
returns-in-Some g c = inr (c.in-Some.ensures.rest, refl)

pub returns-in-None : goal.returns-in-None
returns-in-None g c = inl (record { may = c.in-None.ensures.may; word = c.word_at.result; is_word = c.word_at.ensures.next; is_count = c.taken_by.ensures })
