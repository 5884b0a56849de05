use Rattle.std.proofs.Common.{◌∙◌, List, Option, None, ap, sym, subst, get_or}
use Rattle.nand_geometry.specs.declared.parts.Parts.{Parts}
use Rattle.seq_core.specs.Progress.{Progress}
use Rattle.seq_live.specs.Kept.{LiveView, IsLive}
use Rattle.seq_live.specs.Calls.{HasNextMoves, NextBurstsAre, NextWordIs}
use Rattle.seq_live.proofs.Stepping.{next_there, never_missing, has_next_moves, next_bursts_of, next_word_of}
use Rattle.seq_live.proofs.live.Live.due_at.Goals as goal

pub unreachable-requires : goal.unreachable-requires
unreachable-requires g c = never_missing c.args.self.now c.args.lun c.in-None.ensures.value c.requires

pub due_in-requires-clause-next : goal.due_in-requires-clause-next
due_in-requires-clause-next g c =
    let slots = c.as_slice.ensures.value ∙ ap (λ (v : LiveView). v.slots) c.self.view_is in
    let geometry = c.geometry-geometry.ensures ∙ ap (λ (v : LiveView). v.state.geometry) c.self.view_is in
    subst (λ (h : Parts). HasNextMoves h (get_or c.as_slice.result.now c.in-Some.place None)) (sym geometry)
    (subst (λ (ss : List (Option Progress)). HasNextMoves c.args.self.now.state.geometry (get_or ss c.in-Some.place None)) (sym slots)
    (has_next_moves c.args.self.now c.args.lun c.in-Some.place (next_there c.args.self.now c.args.lun c.in-Some.place (subst IsLive c.self.view_is c.self.invariant) c.in-Some.ensures.value c.requires)))

pub returns-clause-bursts : goal.returns-clause-bursts
returns-clause-bursts g c =
    let slots = c.as_slice.ensures.value ∙ ap (λ (v : LiveView). v.slots) c.self.view_is in
    let geometry = c.geometry-geometry.ensures ∙ ap (λ (v : LiveView). v.state.geometry) c.self.view_is in
    next_bursts_of c.args.self.now c.args.lun c.in-Some.place c.due_in.result.bursts.items c.in-Some.ensures.value
    (subst (λ (h : Parts). NextBurstsAre h (get_or c.args.self.now.slots c.in-Some.place None) c.due_in.result.bursts.items) geometry
    (subst (λ (ss : List (Option Progress)). NextBurstsAre c.geometry-geometry.result (get_or ss c.in-Some.place None) c.due_in.result.bursts.items) slots c.due_in.ensures.bursts))

pub returns-clause-word : goal.returns-clause-word
returns-clause-word g c =
    let slots = c.as_slice.ensures.value ∙ ap (λ (v : LiveView). v.slots) c.self.view_is in
    next_word_of c.args.self.now c.args.lun c.in-Some.place c.due_in.result.word c.in-Some.ensures.value (subst (λ (ss : List (Option Progress)). NextWordIs (get_or ss c.in-Some.place None) c.due_in.result.word) slots c.due_in.ensures.word)
