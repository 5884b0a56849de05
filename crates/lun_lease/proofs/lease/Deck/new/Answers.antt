use Rattle.lun_lease.proofs.Steps.{begins}
use Rattle.lun_lease.proofs.lease.Deck.new.Goals as goal

pub of_words-requires : goal.of_words-requires
of_words-requires g c = begins
