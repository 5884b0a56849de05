-- The main theorem of a real bus.
use Rattle.seq_core.specs.World.{fresh}
use Rattle.seq_core.proofs.Main.{fresh_is_lawful, lawful_slot}
use Rattle.seq_live.specs.Headline.{LiveHeadline}
use Rattle.seq_live.specs.Kept.{channel_at}
use Rattle.seq_live.specs.Calls.{CallsGoOn, CallsGoWell}
use Rattle.seq_live.proofs.Running.{runs_more}
use Rattle.seq_live.proofs.Events.{live_run_goes_well}
use Rattle.seq_live.proofs.Making.{runs_as_told}

pub live_headline : LiveHeadline
live_headline s events is v answered =
    let r = live_run_goes_well s is events (fresh s) (fresh_is_lawful s) v answered in
    record {
      ran = r.ran;
      is_ran = r.is_ran;
      legal = r.lawful.legal;
      own = r.own;
      within = λ l x e. (lawful_slot s r.ran.world r.lawful l x e).within;
      text = λ l x e. (lawful_slot s r.ran.world r.lawful l x e).text;
      cycles = runs_as_told s events r.ran r.is_ran (λ l x e. (lawful_slot s r.ran.world r.lawful l x e).within);
      lawful = r.lawful;
    }

pub calls_go_on : CallsGoOn
calls_go_on = runs_more

pub calls_go_well : CallsGoWell
calls_go_well v u es rs is at verified run = live_headline (channel_at v) es is verified (run (fresh (channel_at v)) at (fresh_is_lawful (channel_at v))).answered
