-- A step that came.
use Rattle.std.proofs.Common.{◌≡◌, ℕ, zero, suc, ◌≤◌, ◌==◌, ◌&&◌, Bool, true, false, not, cond, List, Ok, Err, length, refl, sym, ap, ◌∙◌, subst, arith}
use Rattle.bus_record.specs.Kept.{Kept}
use Rattle.std.specs.Prelude.{nat_le, nat_lt}
use Rattle.std.proofs.lemmas.Bool.Decides.{nat_tests}
use Rattle.onfi_cycle.specs.State.{BusView}
use Rattle.micro_word.specs.declared.word.Word.{Word}
use Rattle.seq_core.specs.Progress.{status_of, outcome_of, is_done}
use Rattle.seq_core.specs.Calls.{holder_after}
use Rattle.seq_live.specs.Burst.{taken_by}
use Rattle.bus_record.specs.Bus.{IsSound, are_sound}
use Rattle.bus_record.specs.Channel.{IsSameChannel, is_on}
use Rattle.bus_record.proofs.Sound.{sound_are_taken}
use Rattle.onfiseq_live_c.specs.declared.stop.Stop.TheVariants as stop
use Rattle.onfiseq_live_c.specs.declared.live.OnfiseqLive.{OnfiseqLive}
use Rattle.onfiseq_live_c.specs.declared.job.OnfiseqJob.{OnfiseqJob}
use Rattle.onfiseq_live_c.specs.declared.finish.OnfiseqStep.{OnfiseqStep}
use Rattle.onfiseq_live_c.specs.Job.{JobView, job_view, job_behind, job_done, is_whole, lun_in, code_in}
use Rattle.onfiseq_live_c.specs.Live.{state_of, holder_of, is_live, are_whole}
use Rattle.onfiseq_live_c.specs.Due.{and_do, due}
use Rattle.onfiseq_live_c.specs.Finish.{with_readies, played, finished, step_word, finish_of, step, answer_letter, code_number, FinishesSo, Finishes}

both : (a b : Bool) → a && b ≡ true → (a ≡ true) × (b ≡ true)
both true true h = (refl, refl)
both true false h = cc
both false b h = cc

pub join : (a b : Bool) → a ≡ true → b ≡ true → a && b ≡ true
join a b e f = rw (e, f) refl

-- what is as sound as a live record, and has its magic and count, is live
pub live_after : (v later : OnfiseqLive) → later.magic ≡ v.magic → later.bus.count ≡ v.bus.count → IsSound later.bus → is_live v ≡ true → is_live later ≡ true
live_after v later magic count sound live =
    let a = both (v.magic == 0x4556494c) (not (v.bus.count == 0) && are_sound v.bus) live in
    let b = both (not (v.bus.count == 0)) (are_sound v.bus) a.1 in
    join (later.magic == 0x4556494c) (not (later.bus.count == 0) && are_sound later.bus) (ap (λ (m : ℕ). m == 0x4556494c) magic ∙ a.0)
    (join (not (later.bus.count == 0)) (are_sound later.bus) (ap (λ (m : ℕ). not (m == 0)) count ∙ b.0) (sound_are_taken later.bus sound).whole)

-- a record that goes on where it is live, and else stays, is live as before
pub live_as_before : (v later : OnfiseqLive) → (is_live v ≡ true → is_live later ≡ true) → (is_live v ≡ false → later ≡ v) → is_live later ≡ is_live v
live_as_before v later on off = at (is_live v) refl
  where
    at : (b : Bool) → is_live v ≡ b → is_live later ≡ is_live v
    at true e = on e ∙ sym e
    at false e = ap is_live (off e)

-- what a step leaves is whole
pub whole_after : (v later : OnfiseqLive) (j next : OnfiseqJob) → are_whole v j ≡ true → later.magic ≡ v.magic → later.bus.count ≡ v.bus.count → IsSound later.bus → IsSameChannel (state_of v) (state_of later)
    → next.magic ≡ j.magic → next.loops.depth ≤ 4 → lun_in next ≡ lun_in j → are_whole later next ≡ true
whole_after v later j next whole magic count sound same tag few lun =
    let a = both (is_live v) (is_whole j && is_on (state_of v) (lun_in j)) whole in
    let b = both (is_whole j) (is_on (state_of v) (lun_in j)) a.1 in
    let c = both (j.magic == 0x424f4a4f) (nat_le j.loops.depth 4) b.0 in
    let shallow : nat_le next.loops.depth 4 ≡ true = grind (arith, nat_tests, few) in
    let live = live_after v later magic count sound a.0 in
    let tagged : (next.magic == 0x424f4a4f) ≡ true = ap (λ (m : ℕ). m == 0x424f4a4f) tag ∙ c.0 in
    let on : is_on (state_of later) (lun_in next) ≡ true =
    ap (is_on (state_of later)) lun
    ∙ (ap (λ (m : ℕ). nat_lt j.ce m && nat_lt j.lun (state_of later).geometry.luns) same.count
    ∙ (ap (λ g. nat_lt j.ce (length (state_of v).targets) && nat_lt j.lun g.luns) same.geometry ∙ b.1)) in
    join (is_live later) (is_whole next && is_on (state_of later) (lun_in next)) live
    (join (is_whole next) (is_on (state_of later) (lun_in next)) (join (next.magic == 0x424f4a4f) (nat_le next.loops.depth 4) tagged shallow) on)

lun_kept : (j : JobView) (word : Word) (status : ℕ) → (job_behind j word status).lun ≡ j.lun
lun_kept j word status = at (is_done (outcome_of word status))
  where
    at : (b : Bool) → (cond b (job_done j word status) j).lun ≡ j.lun
    at true = refl
    at false = refl

pub same_lun_after : (j next : OnfiseqJob) (word : Word) (status : ℕ) → job_view next ≡ job_behind (job_view j) word status → lun_in next ≡ lun_in j
same_lun_after j next word status e = ap (λ (x : JobView). x.lun) e ∙ lun_kept (job_view j) word status

pub finish_is : (v : OnfiseqLive) (j : OnfiseqJob) (file bytes : List ℕ) (word : Word) (left : BusView)
    → are_whole v j ≡ true → due (holder_of v) (job_view j) file ≡ Ok word → length bytes ≡ taken_by word
    → played (job_view j) word (with_readies (lun_in j) word bytes (state_of v)) ≡ Ok left
    → finish_of v j file bytes ≡ Ok (finished (job_view j) word (status_of word bytes) left)
finish_is v j file bytes word left whole is_due many plays =
    let counted : (length bytes == taken_by word) ≡ true = grind (arith, nat_tests, many) in
    ap (λ (b : Bool). cond (not b) (Err stop.Damaged) (and_do (due (holder_of v) (job_view j) file) (step_word (state_of v) (job_view j) bytes))) whole
    ∙ (ap (λ r. and_do r (step_word (state_of v) (job_view j) bytes)) is_due
    ∙ (ap (λ (b : Bool). cond (not b) (Err stop.WrongCount) (and_do (played (job_view j) word (with_readies (lun_in j) word bytes (state_of v))) (λ l. Ok (finished (job_view j) word (status_of word bytes) l)))) counted
    ∙ ap (λ r. and_do r (λ l. Ok (finished (job_view j) word (status_of word bytes) l))) plays))

pub finishes : (v later : OnfiseqLive) (j next : OnfiseqJob) (file bytes : List ℕ) (word : Word) (left : BusView) (answer : OnfiseqStep)
    → are_whole v j ≡ true → due (holder_of v) (job_view j) file ≡ Ok word → length bytes ≡ taken_by word
    → played (job_view j) word (with_readies (lun_in j) word bytes (state_of v)) ≡ Ok left
    → state_of later ≡ left → holder_of later ≡ holder_after (outcome_of word (status_of word bytes)) (lun_in j)
    → job_view next ≡ job_behind (job_view j) word (status_of word bytes)
    → answer ≡ step (answer_letter (outcome_of word (status_of word bytes))) (code_number (code_in next.has_ended next.code))
    → are_whole later next ≡ true → Finishes v j file bytes answer later next
finishes v later j next file bytes word left answer whole is_due many plays state holder job answered after =
    let came = finish_is v j file bytes word left whole is_due many plays in
    subst (FinishesSo v j answer later next) (sym came)
    (record {
      answered = answered ∙ ap (λ (x : JobView). step (answer_letter (outcome_of word (status_of word bytes))) (code_number x.code)) job;
      state = state;
      holder = holder;
      job = job;
      whole = after;
    })

not_none : (n : ℕ) → 1 ≤ n → not (n == 0) ≡ true
not_none zero h = absurd (omega (arith, h))
not_none (suc n) h = let above : (suc n == 0) ≡ false = grind (arith, nat_tests) in ap not above

-- a record with the magic and a sound channel that has targets is live
pub live_begun : (bus : Kept) (later : OnfiseqLive) → later.magic ≡ 0x4556494c → later.bus ≡ bus → 1 ≤ bus.count → IsSound bus → is_live later ≡ true
live_begun bus later magic same some sound =
    let counted : not (later.bus.count == 0) ≡ true = ap (λ (k : Kept). not (k.count == 0)) same ∙ not_none bus.count some in
    join (later.magic == 0x4556494c) (not (later.bus.count == 0) && are_sound later.bus) (ap (λ (m : ℕ). m == 0x4556494c) magic)
    (join (not (later.bus.count == 0)) (are_sound later.bus) counted (sound_are_taken later.bus (subst IsSound (sym same) sound)).whole)
