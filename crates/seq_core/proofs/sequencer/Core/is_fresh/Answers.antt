use Rattle.std.proofs.Common.{◌≡◌, ◌∙◌, ◌↔◌, [], None, ap, sym, subst, true, true≢false}
use Rattle.seq_core.specs.World.{fresh}
use Rattle.seq_core.specs.Shows.{CoreView, IsAt, channel_in}
use Rattle.seq_core.specs.Calls.{all_are_empty}
use Rattle.seq_core.proofs.Cores.{view_of, fresh_if_empty, fresh_if_told, none_holds, told_none_holds}
use Rattle.seq_core.proofs.sequencer.Core.is_fresh.Goals.{then-is_fresh, else-is_fresh}
use Rattle.seq_core.proofs.sequencer.Core.is_fresh.Goals as goal

pub returns-then-is_none : goal.returns-then-is_none
returns-then-is_none g c =
    subst (λ (x : CoreView). (c.all_are_empty.result ≡ true) ↔ IsAt x (fresh (channel_in x))) c.self.view_is
    (fresh_if_empty (view_of c.self.inside.bus c.self.inside.slots.items c.self.inside.holder) c.all_are_empty.result c.self.invariant past holder (c.all_are_empty.ensures ∙ ap all_are_empty c.as_slice.ensures.value))
  where
    past : c.self.inside.bus.past ≡ []
    past = elim c.if-is_fresh.branch [ then-is_fresh w ↦ c.is_fresh.ensures.0 w.if-is_fresh.true | else-is_fresh w ↦ absurd (true≢false (sym c.if-is_none.true ∙ (w.value-is ∙ w.if-is_fresh.false))) ]

    holder : c.self.inside.holder ≡ None
    holder = elim c.if-is_fresh.branch [ then-is_fresh w ↦ none_holds c.self.inside.holder w.is_none.result w.is_none.ensures (sym w.value-is ∙ c.if-is_none.true) | else-is_fresh w ↦ absurd (true≢false (sym c.if-is_none.true ∙ (w.value-is ∙ w.if-is_fresh.false))) ]

pub returns-else-is_none : goal.returns-else-is_none
returns-else-is_none g c =
    subst (λ (x : CoreView). (c.if-is_fresh.value ≡ true) ↔ IsAt x (fresh (channel_in x))) c.self.view_is
    (fresh_if_told (view_of c.self.inside.bus c.self.inside.slots.items c.self.inside.holder) c.if-is_fresh.value c.if-is_none.false
    (λ past holder. elim c.if-is_fresh.branch [ then-is_fresh w ↦ w.value-is ∙ told_none_holds c.self.inside.holder w.is_none.result w.is_none.ensures holder | else-is_fresh w ↦ absurd (true≢false (sym (c.is_fresh.ensures.1 past) ∙ w.if-is_fresh.false)) ]))
