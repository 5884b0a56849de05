use Rattle.std.proofs.Common.{◌≡◌, true, refl, sym, ◌∙◌}
use Rattle.onfi_cycle.specs.Sequence.{target_of}
use Rattle.bus_record.proofs.Pushed.{fits_each}
use Rattle.onfiseq_live_c.specs.Live.{is_live}
use Rattle.onfiseq_live_c.specs.declared.live.OnfiseqLive.{OnfiseqLive}
use Rattle.onfiseq_live_c.proofs.Finished.{live_after}
use Rattle.onfiseq_live_c.proofs.live.go_on.Goals as goal

pub push-requires : goal.push-requires
push-requires c = fits_each c.args.live.now.bus (c.is_live.ensures.sound c.if-not-is_live.false) (target_of c.args.item)

pub returns-clause-holder : goal.returns-clause-holder
returns-clause-holder c =
    let live : is_live c.args.live.now ≡ true = sym c.is_live.ensures.value ∙ c.if-not-is_live.false in
    let later : OnfiseqLive = record { magic = c.args.live.now.magic; has_holder = c.args.live.now.has_holder; ce = c.args.live.now.ce; lun = c.args.live.now.lun; bus = c.push.new.bus } in
    record {
      holder = refl;
      live = live_after c.args.live.now later refl c.push.ensures.count (c.push.ensures.sound (c.is_live.ensures.sound c.if-not-is_live.false)) live ∙ sym live;
    }
