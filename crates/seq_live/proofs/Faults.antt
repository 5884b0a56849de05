-- When no burst is to be done, and why a call is refused.
use Rattle.std.proofs.Common.{◌≡◌, ℕ, List, [], Option, Some, None, sym, ap, ◌∙◌, subst, get_or, IfNone, Bor, Bool, false, is_some}
use Rattle.std.specs.List.{slice_get}
use Rattle.nand_geometry.specs.declared.parts.Parts.{Parts}
use Rattle.onfi_cycle.specs.declared.lun.Lun.{Lun}
use Rattle.micro_word.specs.declared.word.Word.{Word}
use Rattle.seq_core.specs.Progress.{Progress}
use Rattle.seq_core.proofs.Cores.{place_of, slot_of_place, no_place_no_slot}
use Rattle.seq_live.specs.declared.live.StepGoingOn.{StepGoingOn}
use Rattle.seq_live.specs.declared.burst.Burst.{Burst}
use Rattle.seq_live.specs.Burst.{bursts_at, taken_by}
use Rattle.seq_live.specs.Kept.{LiveView, core_at}
use Rattle.seq_live.specs.Calls.{MayStep, IsNextWord, NextBurstsAre, AreNextBursts, HasNoBurst, IsMiscounted, live_slot}

some_same : {X : Type 0} (x y : X) → Some x ≡ Some y → x ≡ y
some_same x y h = cc

none_some : {X : Type 0} {x : X} → None ≡ Some x → ⊥
none_some e = cc

-- 1. no burst is to be done

pub none_without_step : (v : LiveView) → v.going ≡ None → HasNoBurst v
none_without_step v none burst n = none_some (sym none ∙ n.is_step)

pub none_at_rest : (v : LiveView) (step : StepGoingOn) → v.going ≡ Some step → (MayStep v step.lun → ⊥) → HasNoBurst v
none_at_rest v step is rest burst n =
    let same : n.step ≡ step = some_same n.step step (sym n.is_step ∙ is) in
    rest (subst (λ (x : StepGoingOn). MayStep v x.lun) same n.may)

-- a slot's next word has one list of bursts
pub same_bursts : (g : Parts) (o : Option Progress) (bursts others : List Burst) → NextBurstsAre g o bursts → NextBurstsAre g o others → bursts ≡ others
same_bursts g o bursts others a b =
    let same : a.v ≡ b.v = some_same a.v b.v (sym a.is_slot ∙ b.is_slot) in
    let word : a.word ≡ b.word = some_same a.word b.word (sym a.here ∙ (ap (λ (q : Progress). slice_get q.job.text.words q.at) same ∙ b.here)) in
    some_same bursts others (sym a.are_bursts ∙ (ap (λ (q : Progress). bursts_at g q.job.lun q.registers a.word) same ∙ (ap (bursts_at g b.v.job.lun b.v.registers) word ∙ b.are_bursts)))

pub none_left : (v : LiveView) (step : StepGoingOn) (bursts : List Burst) (found : Option Burst) → v.going ≡ Some step → AreNextBursts v step.lun bursts → found ≡ slice_get bursts step.done → IfNone found (HasNoBurst v)
none_left v step bursts (Some burst) is next h = tt
none_left v step bursts None is next h = λ burst n.
    let same : n.step ≡ step = some_same n.step step (sym n.is_step ∙ is) in
    let there : AreNextBursts v step.lun n.bursts = subst (λ (x : StepGoingOn). AreNextBursts v x.lun n.bursts) same n.are_next in
    let bursts_are : n.bursts ≡ bursts = same_bursts v.state.geometry (live_slot v step.lun) n.bursts bursts there next in
    let here : slice_get n.bursts step.done ≡ Some burst = subst (λ (x : StepGoingOn). slice_get n.bursts x.done ≡ Some burst) same n.is_burst in
    none_some (h ∙ subst (λ (bs : List Burst). slice_get bs step.done ≡ Some burst) bursts_are here)

-- so it is where none is found
pub none_found : (v : LiveView) (step : StepGoingOn) (bursts : List Burst) (found : Option Burst) (b : Bool) → v.going ≡ Some step → AreNextBursts v step.lun bursts → found ≡ slice_get bursts step.done → b ≡ is_some found → b ≡ false → HasNoBurst v
none_found v step bursts found b is next h tells none = at found h (sym tells ∙ none)
  where
    at : (o : Option Burst) → o ≡ slice_get bursts step.done → is_some o ≡ false → HasNoBurst v
    at None e t = none_left v step bursts None is next e
    at (Some burst) e t = cc

-- 2. a LUN without a buffer

pub no_buffer : (v : LiveView) (l : Lun) (place : ℕ) (found : Option (Bor (List ℕ))) → Some place ≡ place_of (core_at v []) l → IfNone found (get_or v.slots place None ≡ None) → IfNone found (live_slot v l ≡ None)
no_buffer v l place (Some buffer) h none = tt
no_buffer v l place None h none = (slot_of_place (core_at v []) l place h).0 ∙ none

pub no_buffer_nowhere : (v : LiveView) (l : Lun) (found : Option (Bor (List ℕ))) → None ≡ place_of (core_at v []) l → IfNone found (live_slot v l ≡ None)
no_buffer_nowhere v l (Some buffer) h = tt
no_buffer_nowhere v l None h = no_place_no_slot (core_at v []) l h

-- 3. a step that isn't finished

pub miscounted : (v : LiveView) (step : StepGoingOn) (word : Word) (count : ℕ) → v.going ≡ Some step → HasNoBurst v → MayStep v step.lun → IsNextWord v step.lun word → (count ≡ taken_by word → ⊥) → IsMiscounted v count
miscounted v step word count is done may next differs = record { step = step; is_step = is; done = done; may = may; word = word; is_word = next; differs = differs }
