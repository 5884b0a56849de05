use Rattle.std.proofs.Common.{◌≡◌, ◌<◌, List, Option, Some, None, cond, length, rules, sym, subst}
use Rattle.onfi_cycle.specs.Channel.{Channel, is_there}
use Rattle.seq_core.specs.World.{number}
use Rattle.seq_core.specs.Progress.{Progress}
use Rattle.seq_live.proofs.Shown.{stepped_after}
use Rattle.seq_live.proofs.live.Live.step_word.Goals as goal

pub returns-clause-run : goal.returns-clause-run
returns-clause-run g c = stepped_after c.args.self.now c.show.new.self c.step_by.new.self c.args.lun c.args.due.now.word c.args.taken.now c.step_by.result c.show.ensures.run c.step_by.ensures.came

pub step_by-requires : goal.step_by-requires
step_by-requires g c = (
  search rules,
  (
    search rules,
    (
      subst (λ (s : Channel). Some c.args.due.now.place ≡ cond (is_there s c.args.lun) (Some (number s c.args.lun)) None) (sym c.show.ensures.stays.channel) c.requires.place,
      (subst (λ (ss : List (Option Progress)). c.args.due.now.place < length ss) (sym c.show.ensures.stays.slots) c.requires.inside, (search rules, (search rules, (search rules, search rules)))),
    ),
  ),
)
