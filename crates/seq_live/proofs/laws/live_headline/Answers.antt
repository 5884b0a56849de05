use Rattle.seq_live.proofs.Main.{live_headline}
use Rattle.seq_live.proofs.laws.live_headline.Goals as goal

pub returns : goal.returns
returns c = live_headline
