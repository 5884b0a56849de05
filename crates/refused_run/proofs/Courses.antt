-- A run goes on, or ends.
use Rattle.std.proofs.Common.{◌≡◌, ℕ, true, false, List, [], ◌∷◌, Option, Some, None, refl, sym, ap, subst, slice_get, is_some}
use Rattle.nand_geometry.specs.declared.parts.Parts.{Parts}
use Rattle.nand_geometry.specs.Row.{row_bytes_of}
use Rattle.onfi_cycle.specs.declared.item.Item.{Item}
use Rattle.onfi_cycle.specs.declared.item.Item.TheVariants.{Rdy}
use Rattle.onfi_cycle.specs.Sequence.{tail, facts_of, is_open}
use Rattle.onfi_cycle.specs.Look.{look_after}
use Rattle.micro_word.specs.declared.word.Word.{Word}
use Rattle.micro_program.specs.Moves.{and_then}
use Rattle.micro_claims.specs.declared.bounds.Bounds.{Bounds}
use Rattle.micro_claims.specs.declared.refusal.Reason.{Reason}
use Rattle.refused_run.specs.declared.bench.Stop.{Stop}
use Rattle.refused_run.specs.declared.cycles.Cycles.{Cycles}
use Rattle.refused_run.specs.declared.course.End.{End as Ended}
use Rattle.refused_run.specs.declared.course.Progress.{Progress}
use Rattle.refused_run.specs.declared.other_work.OtherWork.{OtherWork}
use Rattle.refused_run.specs.declared.stand.Stand.{Stand}
use Rattle.refused_run.specs.Stand.{first_stand}
use Rattle.refused_run.specs.Course.{Scene, State, Task, HasPlayed, HasPushed, CyclesAre, cycles_of, listed, the_lun, is_wrong, reason_of, may_step, work_items, other_items, WordComes, OtherComes, StopsAt, StandsAgainst, IsBroken, Reached, IsRun, IsRunOn, MayGoOn, task_on, state_of}
use Rattle.onfi_cycle.specs.declared.item.Failures.{Failures}

pub fresh_run : (words : List Word) (b : Bounds) (scene : Scene) (p : Progress) → scene.past ≡ [] → p ≡ record { stand = first_stand; end = None } → IsRunOn words b scene p
fresh_run words b scene p none is =
    subst (λ (q : Progress). IsRunOn words b scene q) (sym is) (record { run = subst (λ (past : List Item). IsRun (task_on words b scene) first_stand past None) (sym none) Reached.begins })

-- a run goes on where it has no end
pub no_end : (o : Option Ended) → is_some o ≡ false → o ≡ None
no_end None h = refl
no_end (Some e) h = absurd cc

pub ready_run : (words : List Word) (b : Bounds) (old new : Scene) (p : Progress) (failed : Failures) → p.end ≡ None → HasPushed old new (Rdy 0 0 failed) None → IsRunOn words b old p → IsRunOn words b new p
ready_run words b old new p failed none gone run =
    let k = task_on words b old in
    let x : State = record { stand = p.stand; past = old.past } in
    let before : Reached k x = subst (λ (e : Option Ended). IsRun k p.stand old.past e) none run.run in
    let after : Reached k (record { stand = p.stand; past = Rdy 0 0 failed ∷ old.past }) = Reached.ready_comes x failed before gone.0 in
    let there : IsRun k p.stand (Rdy 0 0 failed ∷ old.past) p.end = subst (λ (e : Option Ended). IsRun k p.stand (Rdy 0 0 failed ∷ old.past) e) (sym none) after in
    let scene : Scene = record { geometry = old.geometry; past = Rdy 0 0 failed ∷ old.past } in
    let on : IsRunOn words b scene p = record { run = there } in
    subst (λ (s : Scene). IsRunOn words b s p) (sym gone.1) on

-- the geometry is another name for the same
renamed : (words : List Word) (b : Bounds) (old new : Scene) (stand : Stand) (past : List Item) (e : Option Ended) → new.geometry ≡ old.geometry → IsRun (task_on words b old) stand past e → IsRun (task_on words b new) stand past e
renamed words b old new stand past e same run =
    subst (λ (g : Parts). IsRun (let k : Task = record { geometry = g; bounds = b; words = words } in k) stand past e) (sym same) run

reached_before : (words : List Word) (b : Bounds) (scene : Scene) (p : Progress) → p.end ≡ None → IsRunOn words b scene p → Reached (task_on words b scene) (state_of p.stand scene)
reached_before words b scene p none run = subst (λ (e : Option Ended). IsRun (task_on words b scene) p.stand scene.past e) none run.run

pub come_run : (words : List Word) (b : Bounds) (old new : Scene) (p : Progress) (word : Word) (status : ℕ) (c : Cycles) (next : Stand) → p.end ≡ None → slice_get words p.stand.at ≡ Some word → CyclesAre (Some c) (cycles_of old.geometry p.stand.registers word status) → MayGoOn words b old p.stand word status next → HasPlayed old new (listed c) None → IsRunOn words b old p → IsRunOn words b new (record { stand = next; end = p.end })
come_run words b old new p word status c next none here cycles may played run =
    let k = task_on words b old in
    let x = state_of p.stand old in
    let later : State = record { stand = next; past = new.past } in
    let comes : WordComes k x word status later = record { here = here; may = may.may; items = listed c; cycles = cycles.1; comes = played.comes; stands = may.stands } in
    let after : Reached k later = Reached.word_comes x word status later (reached_before words b old p none run) comes in
    let there : IsRun k next new.past p.end = subst (λ (e : Option Ended). IsRun k next new.past e) (sym none) after in
    record { run = renamed words b old new next new.past p.end played.same there }

pub stop_run : (words : List Word) (b : Bounds) (old new : Scene) (p : Progress) (word : Word) (status : ℕ) (c : Cycles) (stop : Stop) → p.end ≡ None → slice_get words p.stand.at ≡ Some word → CyclesAre (Some c) (cycles_of old.geometry p.stand.registers word status) → may_step (state_of p.stand old) ≡ true → HasPlayed old new (listed c) (Some stop) → IsRunOn words b old p → IsRunOn words b new (record { stand = p.stand; end = Some (record { word = p.stand.at; reason = reason_of stop.rule; item = Some stop.item }) })
stop_run words b old new p word status c stop none here cycles may played run =
    let k = task_on words b old in
    let x = state_of p.stand old in
    let e : Ended = record { word = p.stand.at; reason = reason_of stop.rule; item = Some stop.item } in
    let stops : StopsAt k x word e.reason new.past stop.item = record { may = may; status = status; items = listed c; cycles = cycles.1; comes = played.comes; rule = stop.rule; breaks = played.rule; is_reason = refl } in
    let broken : IsBroken k new.past e = record { before = x; reached = reached_before words b old p none run; word = word; here = here; at = refl; breaks = stops } in
    record { run = renamed words b old new p.stand new.past (Some e) played.same broken }

pub wrong_run : (words : List Word) (b : Bounds) (scene : Scene) (p : Progress) (word : Word) (reason : Reason) → p.end ≡ None → slice_get words p.stand.at ≡ Some word → is_wrong scene.geometry b p.stand (facts_of (tail scene.past 0)) (look_after scene.geometry 1 scene.past the_lun) word reason ≡ true → IsRunOn words b scene p → IsRunOn words b scene (record { stand = p.stand; end = Some (record { word = p.stand.at; reason = reason; item = None }) })
wrong_run words b scene p word reason none here wrong run =
    let k = task_on words b scene in
    let x = state_of p.stand scene in
    let e : Ended = record { word = p.stand.at; reason = reason; item = None } in
    let stands : StandsAgainst k x word reason scene.past = record { same = refl; wrong = wrong } in
    let broken : IsBroken k scene.past e = record { before = x; reached = reached_before words b scene p none run; word = word; here = here; at = refl; breaks = stands } in
    record { run = broken }

pub other_run : (words : List Word) (b : Bounds) (old new : Scene) (p : Progress) (work : OtherWork) (row : List ℕ) → p.end ≡ None → p.stand.holds ≡ false → is_open (facts_of (tail old.past 0)) ≡ false → row_bytes_of old.geometry 1 0 0 ≡ Some row → HasPlayed old new (work_items work row) None → IsRunOn words b old p → IsRunOn words b new p
other_run words b old new p work row none free closed is_row played run =
    let k = task_on words b old in
    let x = state_of p.stand old in
    let later : State = record { stand = p.stand; past = new.past } in
    let are : other_items old.geometry work ≡ Some (work_items work row) = ap (λ (o : Option (List ℕ)). and_then o (λ r. Some (work_items work r))) is_row in
    let comes : OtherComes k x work later = record { free = free; closed = closed; items = work_items work row; are = are; comes = played.comes; stands = refl } in
    let after : Reached k later = Reached.other_comes x work later (reached_before words b old p none run) comes in
    let there : IsRun k p.stand new.past p.end = subst (λ (e : Option Ended). IsRun k p.stand new.past e) (sym none) after in
    record { run = renamed words b old new p.stand new.past p.end played.same there }
