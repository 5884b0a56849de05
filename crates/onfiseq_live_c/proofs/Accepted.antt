-- No call about an accepted job is answered F.
use Rattle.std.proofs.Common.{◌≡◌, ℕ, ◌<◌, ◌^◌, ◌==◌, eqb-true, Bool, true, false, cond, not, List, Option, Some, None, Result, Ok, Err, length, refl, ap, ◌∙◌}
use Rattle.onfi_cycle.specs.declared.forbidden.Forbidden.{Forbidden}
use Rattle.onfi_cycle.specs.declared.lun.Lun.{Lun}
use Rattle.micro_word.specs.declared.word.Word.{Word}
use Rattle.micro_program.specs.Program.{Job}
use Rattle.seq_core.specs.After.{is_held}
use Rattle.seq_core.specs.Calls.{CanStep}
use Rattle.seq_core.specs.Progress.{Progress, status_of}
use Rattle.seq_core.proofs.Replies.{can_step}
use Rattle.seq_live.specs.Burst.{taken_by}
use Rattle.seq_live.specs.Kept.{LiveView, IsLive, channel_at, core_at}
use Rattle.seq_live.specs.Calls.{live_load_fault, live_slot}
use Rattle.seq_live.proofs.Lives.{live_core}
use Rattle.word_file.specs.Words.{word_in}
use Rattle.onfiseq_live_c.specs.declared.stop.Stop.{Stop}
use Rattle.onfiseq_live_c.specs.declared.stop.Stop.TheVariants as stop
use Rattle.onfiseq_live_c.specs.declared.live.OnfiseqLive.{OnfiseqLive}
use Rattle.onfiseq_live_c.specs.declared.job.OnfiseqJob.{OnfiseqJob}
use Rattle.onfiseq_live_c.specs.Job.{fresh_job, job_view, lun_in}
use Rattle.onfiseq_live_c.specs.Live.{state_of, holder_of, are_whole}
use Rattle.onfiseq_live_c.specs.Due.{and_do, found, unless_ended, due}
use Rattle.onfiseq_live_c.specs.Next.{told, next_of}
use Rattle.onfiseq_live_c.specs.Begin.{begin_of}
use Rattle.onfiseq_live_c.specs.Finish.{finished, played, with_readies, step_word, finish_of}
use Rattle.onfiseq_live_c.specs.Verified.{StandsFor}
use Rattle.onfiseq_live_c.specs.Accepted.{BreaksNone, NeverBreaks, IsAccepted, StandsUnbroken, StillUnbroken}
use Rattle.onfiseq_live_c.proofs.Verified.{due_now, verified_jobs_break_none}
use Rattle.onfiseq_live_c.proofs.Stepped.{verified_jobs_go_along}
use Rattle.onfiseq_live_c.proofs.Begun.{verified_jobs_begin}
use Rattle.onfiseq_live_c.proofs.Made.{begun_jobs_are_made}

ok_breaks_none : {A : Type 0} (r : Result A Stop) (x : A) → r ≡ Ok x → BreaksNone r
ok_breaks_none r x is rule e = cc

-- another stop
other_breaks_none : {A : Type 0} (r : Result A Stop) (s : Stop) → r ≡ Err s → ((rule : Forbidden) → s ≡ stop.Breaks rule → ⊥) → BreaksNone r
other_breaks_none r s is other rule e = other rule (same s (stop.Breaks rule) is e)
  where
    same : (a b : Stop) → r ≡ Err a → r ≡ Err b → a ≡ b
    same a b h k = cc

ended_breaks_none : (code : ℕ) (rule : Forbidden) → stop.Ended code ≡ stop.Breaks rule → ⊥
ended_breaks_none code rule e = cc

held_breaks_none : (rule : Forbidden) → stop.Held ≡ stop.Breaks rule → ⊥
held_breaks_none rule e = cc

count_breaks_none : (rule : Forbidden) → stop.WrongCount ≡ stop.Breaks rule → ⊥
count_breaks_none rule e = cc

-- by what is due
next_due : (v : OnfiseqLive) (j : OnfiseqJob) (file : List ℕ) → are_whole v j ≡ true → next_of v j file ≡ and_do (due (holder_of v) (job_view j) file) (told (state_of v) (job_view j))
next_due v j file whole = ap (λ (b : Bool). cond (not b) (Err stop.Damaged) (and_do (due (holder_of v) (job_view j) file) (told (state_of v) (job_view j)))) whole

finish_due : (v : OnfiseqLive) (j : OnfiseqJob) (file bytes : List ℕ) → are_whole v j ≡ true → finish_of v j file bytes ≡ and_do (due (holder_of v) (job_view j) file) (step_word (state_of v) (job_view j) bytes)
finish_due v j file bytes whole = ap (λ (b : Bool). cond (not b) (Err stop.Damaged) (and_do (due (holder_of v) (job_view j) file) (step_word (state_of v) (job_view j) bytes))) whole

-- where nothing is due
not_due : (v : OnfiseqLive) (j : OnfiseqJob) (file : List ℕ) (s : Stop) → are_whole v j ≡ true → due (holder_of v) (job_view j) file ≡ Err s → ((rule : Forbidden) → s ≡ stop.Breaks rule → ⊥) → NeverBreaks v j file
not_due v j file s whole none other =
    record {
      next = other_breaks_none (next_of v j file) s (next_due v j file whole ∙ ap (λ (r : Result Word Stop). and_do r (told (state_of v) (job_view j))) none) other;
      finish = λ bytes. other_breaks_none (finish_of v j file bytes) s (finish_due v j file bytes whole ∙ ap (λ (r : Result Word Stop). and_do r (step_word (state_of v) (job_view j) bytes)) none) other;
    }

-- where its program goes on, and no other LUN has the bus
goes_unbroken : (kept : LiveView) (p : Progress) (v : OnfiseqLive) (j : OnfiseqJob) (file : List ℕ) → IsLive kept → StandsFor kept p v j file → p.code ≡ None → is_held kept.holder (lun_in j) ≡ false → NeverBreaks v j file
goes_unbroken kept p v j file k st running free =
    let t = verified_jobs_break_none kept p v j file k st running free in
    record { next = ok_breaks_none (next_of v j file) _ t.tells; finish = λ bytes. by_count bytes (length bytes == taken_by w) refl }
  where
    can : CanStep (channel_at kept) k.world.past p × (p.job.lun ≡ lun_in j)
    can = can_step (core_at kept k.world.past) (lun_in j) p (live_core kept k) st.slot running free

    w : Word
    w = can.0.word

    is_due : due (holder_of v) (job_view j) file ≡ Ok w
    is_due = due_now kept p v j file w st running free can.0.here can.0.can.inside can.0.room

    by_count : (bytes : List ℕ) (b : Bool) → (length bytes == taken_by w) ≡ b → BreaksNone (finish_of v j file bytes)
    by_count bytes true e =
        let a = verified_jobs_go_along kept p v j file bytes w k st running free can.0.here (eqb-true (length bytes) (taken_by w) e) in
        ok_breaks_none (finish_of v j file bytes) a.f a.finishes
    by_count bytes false e =
        other_breaks_none (finish_of v j file bytes) stop.WrongCount
        (finish_due v j file bytes st.whole
        ∙ (ap (λ (r : Result Word Stop). and_do r (step_word (state_of v) (job_view j) bytes)) is_due
        ∙ ap (λ (b : Bool). cond (not b) (Err stop.WrongCount) (and_do (played (job_view j) w (with_readies (job_view j).lun w bytes (state_of v))) (λ later. Ok (finished (job_view j) w (status_of w bytes) later)))) e))
        count_breaks_none

pub standing_jobs_break_none : (kept : LiveView) (p : Progress) (v : OnfiseqLive) (j : OnfiseqJob) (file : List ℕ) → IsLive kept → StandsFor kept p v j file → NeverBreaks v j file
standing_jobs_break_none kept p v j file k st = by_code p.code refl
  where
    held : (b : Bool) → is_held kept.holder (lun_in j) ≡ b → p.code ≡ None → NeverBreaks v j file
    held false free running = goes_unbroken kept p v j file k st running free
    held true is running =
        not_due v j file stop.Held st.whole
        (ap (λ (o : Option ℕ). unless_ended o (cond (is_held (holder_of v) (lun_in j)) (Err stop.Held) (found (job_view j) (word_in file j.at)))) (st.code ∙ running)
        ∙ ap (λ (b : Bool). cond b (Err stop.Held) (found (job_view j) (word_in file j.at))) (ap (λ (h : Option Lun). is_held h (lun_in j)) st.holder ∙ is))
        held_breaks_none

    by_code : (code : Option ℕ) → p.code ≡ code → NeverBreaks v j file
    by_code None running = held (is_held kept.holder (lun_in j)) refl running
    by_code (Some code) ended =
        not_due v j file (stop.Ended code) st.whole (ap (λ (o : Option ℕ). unless_ended o (cond (is_held (holder_of v) (lun_in j)) (Err stop.Held) (found (job_view j) (word_in file j.at)))) (st.code ∙ ended)) (ended_breaks_none code)

pub accepted_jobs_break_none : (kept : LiveView) (x : Job) (v : OnfiseqLive) (j : OnfiseqJob) (file : List ℕ) → IsLive kept → state_of v ≡ kept.state → holder_of v ≡ kept.holder
    → IsAccepted x.geometry file x.text → x.geometry ≡ (state_of v).geometry → x.base < 2 ^ 32 → live_load_fault kept x.lun x ≡ None
    → begin_of v x.lun x.base (length x.buffer) file ≡ Ok (fresh_job x.lun x.base (length x.buffer)) → job_view j ≡ fresh_job x.lun x.base (length x.buffer) → are_whole v j ≡ true
    → StandsUnbroken kept x v j file
accepted_jobs_break_none kept x v j file k state holder accepted geometry base admitted begun job whole =
    let made = begun_jobs_are_made v x file (fresh_job x.lun x.base (length x.buffer)) accepted.is_file geometry begun in
    let b = verified_jobs_begin kept x v j file k state holder (record { made = made.made; safe = accepted.safe }) accepted.shaped base accepted.is_file admitted whole job in
    record { begins = b; unbroken = standing_jobs_break_none b.later _ v j file b.is_live b.stands }

damaged_breaks_none : (rule : Forbidden) → stop.Damaged ≡ stop.Breaks rule → ⊥
damaged_breaks_none rule e = cc

pub other_jobs_break_none : (kept later : LiveView) (p : Progress) (v w : OnfiseqLive) (j : OnfiseqJob) (file : List ℕ) → IsLive later → StandsFor kept p v j file
    → live_slot later (lun_in j) ≡ live_slot kept (lun_in j) → state_of w ≡ later.state → holder_of w ≡ later.holder → StillUnbroken later p w j file
other_jobs_break_none kept later p v w j file k st slot state holder = at (are_whole w j) refl
  where
    there : are_whole w j ≡ true → StandsFor later p w j file
    there whole =
        record {
          whole = whole;
          state = state;
          holder = holder;
          slot = slot ∙ st.slot;
          text = st.text;
          base = st.base;
          buffer = st.buffer;
          at = st.at;
          loops = st.loops;
          registers = st.registers;
          code = st.code;
        }

    at : (b : Bool) → are_whole w j ≡ b → StillUnbroken later p w j file
    at true whole = record { unbroken = standing_jobs_break_none later p w j file k (there whole); stands = there }
    at false broken =
        record {
          unbroken = record {
            next = other_breaks_none (next_of w j file) stop.Damaged (ap (λ (b : Bool). cond (not b) (Err stop.Damaged) (and_do (due (holder_of w) (job_view j) file) (told (state_of w) (job_view j)))) broken) damaged_breaks_none;
            finish = λ bytes. other_breaks_none (finish_of w j file bytes) stop.Damaged (ap (λ (b : Bool). cond (not b) (Err stop.Damaged) (and_do (due (holder_of w) (job_view j) file) (step_word (state_of w) (job_view j) bytes))) broken) damaged_breaks_none;
          };
          stands = there;
        }
