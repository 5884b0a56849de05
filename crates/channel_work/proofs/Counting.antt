-- What is counted of the LUNs and of the turns, one event more.
use Rattle.std.proofs.Common.{◌≡◌, ◌⊎◌, inl, inr, ℕ, ◌+◌, ◌≤◌, List, [], ◌∷◌, ◌++◌, refl, sym, ap, ◌∙◌, subst, arith, reverse, length, take}
use Rattle.std.proofs.lemmas.List.{length-reverse, length-append, reverse-append, reverse-reverse}
use Rattle.nand_geometry.specs.declared.parts.Parts.{Parts}
use Rattle.onfi_cycle.specs.declared.lun.Lun.{Lun}
use Rattle.onfi_cycle.specs.declared.item.Item.{Item}
use Rattle.onfi_cycle.specs.declared.item.Item.TheVariants.{Cyc, Rdy, Ard}
use Rattle.onfi_cycle.specs.declared.item.Cycle.{Cycle}
use Rattle.onfi_cycle.specs.Channel.{Channel}
use Rattle.micro_program.specs.Safe.{cycles_on}
use Rattle.seq_core.specs.Event.{Event, Load, Step, Ready, ArrayReady, Unload}
use Rattle.seq_core.specs.Reply.{Reply}
use Rattle.seq_core.specs.Shows.{CoreView, channel_in}
use Rattle.seq_core.specs.Headline.{AddsAtMost, AddsItsOwn}
use Rattle.seq_core.specs.Calls.{IsEvent}
use Rattle.channel_work.specs.declared.stored.Stored.{Stored}
use Rattle.channel_work.specs.declared.stored.Stored.TheVariants.{Load as Loaded, Step as WasStepped, Ready as BecameReady, ArrayReady as ArrayBecameReady, Unload as WasUnloaded}
use Rattle.channel_work.specs.declared.tally.LunCount.{LunCount}
use Rattle.channel_work.specs.Turns.{turns_in, AreTurns, IsInTurn}
use Rattle.channel_work.specs.Counts.{AreCounts}
use Rattle.channel_work.specs.Channel.{HistoryView}
use Rattle.channel_work.specs.Lawful.{IsLawful}
use Rattle.channel_work.proofs.Runs.{came_after}

-- 1. the items that an event adds

-- a trace with more before it, which are newer
abbrev pub Grows : List Item → List Item → Type 0
Grows before later = (new : List Item) × (later ≡ new ++ before)

cycles_grow : (new : List Cycle) (before : List Item) → Grows before (cycles_on new before)
cycles_grow [] before = ([], refl)
cycles_grow (c ∷ new) before = let rest = cycles_grow new before in (Cyc c ∷ rest.0, ap (λ (past : List Item). Cyc c ∷ past) rest.1)

one_grows : (i : Item) (before later : List Item) → AddsAtMost i before later → Grows before later
one_grows i before later (inl e) = ([], e)
one_grows i before later (inr e) = (i ∷ [], e)

own_grows : (s : Channel) (e : Event) (before later : List Item) → AddsItsOwn s e before later → Grows before later
own_grows s (Step l) before later own = let g = cycles_grow own.new before in (g.0, own.is_new ∙ g.1)
own_grows s (Ready l fail) before later own = one_grows (Rdy l.ce l.lun fail) before later own
own_grows s (ArrayReady l fail) before later own = one_grows (Ard l.ce l.lun fail) before later own
own_grows s (Load l j) before later own = ([], own)
own_grows s (Unload l) before later own = ([], own)

take_front : {X : Type 0} (xs ys : List X) → take (length xs) (xs ++ ys) ≡ xs
take_front [] ys = take_none ys
  where
    take_none : {X : Type 0} (ys : List X) → take 0 ys ≡ []
    take_none [] = refl
    take_none (y ∷ ys) = refl
take_front (x ∷ xs) ys = ap (λ zs. x ∷ zs) (take_front xs ys)

-- the first so many items of the later trace are the earlier one
pub first_are : (before later : List Item) (from : ℕ) → Grows before later → from ≡ length before → (from ≤ length later) × (reverse (take from (reverse later)) ≡ before)
first_are before later from g is =
    let turned : reverse later ≡ reverse before ++ reverse g.0 = ap reverse g.1 ∙ reverse-append g.0 before in
    let count : from ≡ length (reverse before) = is ∙ sym (length-reverse before) in
    let size = ap length g.1 ∙ length-append g.0 before in (
      omega (arith, size, is),
      ap reverse (ap (λ (xs : List Item). take from xs) turned ∙ (ap (λ (n : ℕ). take n (reverse before ++ reverse g.0)) count ∙ take_front (reverse before) (reverse g.0))) ∙ reverse-reverse before,
    )

-- what was counted before an event is counted of the first items of the trace that it leaves
abbrev pub WereCounted : List LunCount → ℕ → CoreView → Type 0
WereCounted counts from later = (from ≤ length later.past) × AreCounts later.geometry counts (reverse (take from (reverse later.past)))

pub were_counted : (v : HistoryView) (later : CoreView) (e : Event) (reply : Reply) (trace : List Item) (from : ℕ) → IsLawful v → IsEvent v.core e reply later → trace ≡ reverse v.core.past → from ≡ length trace → WereCounted v.counts from later
were_counted v later e reply trace from h event trace_is from_is =
    let came = came_after v.core later h.events h.replies e reply h.run event in
    let g = own_grows (channel_in v.core) e h.run.ran.world.past came.next.world.past came.own in
    let grown : Grows v.core.past later.past = (g.0, came.is_at.past ∙ (g.1 ∙ ap (λ (past : List Item). g.0 ++ past) (sym h.run.is_at.past))) in
    let first = first_are v.core.past later.past from grown (from_is ∙ (ap length trace_is ∙ length-reverse v.core.past)) in
    let geometry : v.core.geometry ≡ later.geometry = sym (ap (λ (s : Channel). s.geometry) came.channel) in
    (first.0, subst (λ (past : List Item). AreCounts later.geometry v.counts past) (sym first.1) (subst (λ (g : Parts). AreCounts g v.counts v.core.past) geometry h.counts))

-- an event that adds nothing changes no count
pub counts_same : (v : HistoryView) (later : CoreView) (e : Event) (reply : Reply) → (h : IsLawful v) → (event : IsEvent v.core e reply later)
    → ((before after : List Item) → AddsItsOwn (channel_in v.core) e before after → after ≡ before) → AreCounts later.geometry v.counts later.past
counts_same v later e reply h event none =
    let came = came_after v.core later h.events h.replies e reply h.run event in
    let past : v.core.past ≡ later.past = h.run.is_at.past ∙ (sym (none h.run.ran.world.past came.next.world.past came.own) ∙ sym came.is_at.past) in
    let geometry : v.core.geometry ≡ later.geometry = sym (ap (λ (s : Channel). s.geometry) came.channel) in
    subst (λ (g : Parts). AreCounts g v.counts later.past) geometry (subst (λ (past : List Item). AreCounts v.core.geometry v.counts past) past h.counts)

-- 2. turns

-- a step in a turn is in the last one
pub last_turn : (l : Lun) (turn : ℕ) (past : List Stored) → IsInTurn l turn past → turns_in past ≡ turn + 1
last_turn l turn [] h = absurd h
last_turn l turn (WasStepped m before ∷ past) h = ap (λ (n : ℕ). n + 1) h.1
last_turn l turn (Loaded m n ∷ past) h = absurd h
last_turn l turn (BecameReady m fail ∷ past) h = absurd h
last_turn l turn (ArrayBecameReady m fail ∷ past) h = absurd h
last_turn l turn (WasUnloaded m ∷ past) h = absurd h

-- there are no more turns than events
pub few_turns : (past : List Stored) → AreTurns past → turns_in past ≤ length past
few_turns [] h = omega arith
few_turns (WasStepped l turn ∷ past) h = at h.0 (few_turns past h.1)
  where
    at : (turn ≡ turns_in past) ⊎ IsInTurn l turn past → turns_in past ≤ length past → turn + 1 ≤ length (WasStepped l turn ∷ past)
    at (inl e) r = omega (arith, e, r)
    at (inr t) r = let e = last_turn l turn past t in omega (arith, e, r)
few_turns (Loaded l n ∷ past) h = let r = few_turns past h in omega (arith, r)
few_turns (BecameReady l fail ∷ past) h = let r = few_turns past h in omega (arith, r)
few_turns (ArrayBecameReady l fail ∷ past) h = let r = few_turns past h in omega (arith, r)
few_turns (WasUnloaded l ∷ past) h = let r = few_turns past h in omega (arith, r)
