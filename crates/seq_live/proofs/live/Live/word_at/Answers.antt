use Rattle.std.proofs.Common.{◌∙◌, List, Option, None, ap, sym, subst, get_or}
use Rattle.seq_core.specs.Progress.{Progress}
use Rattle.seq_live.specs.Kept.{LiveView, IsLive}
use Rattle.seq_live.specs.Calls.{HasNextWord, NextWordIs}
use Rattle.seq_live.proofs.Stepping.{next_there, never_missing, has_next_word, next_word_of}
use Rattle.seq_live.proofs.live.Live.word_at.Goals as goal

pub unreachable-requires : goal.unreachable-requires
unreachable-requires g c = never_missing c.args.self.now c.args.lun c.in-None.ensures.value c.requires

pub word_in-requires-clause-next : goal.word_in-requires-clause-next
word_in-requires-clause-next g c =
    let slots = c.as_slice.ensures.value ∙ ap (λ (v : LiveView). v.slots) c.self.view_is in
    subst (λ (ss : List (Option Progress)). HasNextWord (get_or ss c.in-Some.place None)) (sym slots)
    (has_next_word c.args.self.now c.args.lun c.in-Some.place (next_there c.args.self.now c.args.lun c.in-Some.place (subst IsLive c.self.view_is c.self.invariant) c.in-Some.ensures.value c.requires))

pub returns-clause-next : goal.returns-clause-next
returns-clause-next g c =
    let slots = c.as_slice.ensures.value ∙ ap (λ (v : LiveView). v.slots) c.self.view_is in
    next_word_of c.args.self.now c.args.lun c.in-Some.place c.word_in.result c.in-Some.ensures.value (subst (λ (ss : List (Option Progress)). NextWordIs (get_or ss c.in-Some.place None) c.word_in.result) slots c.word_in.ensures.next)
