-- A verified job is told its bursts.
use Rattle.std.proofs.Common.{◌≡◌, ℕ, zero, suc, ◌≤◌, ◌==◌, ◌&&◌, Bool, true, false, cond, not, List, [], ◌∷◌, Option, Some, None, Ok, Err, length, refl, sym, ap, ◌∙◌, subst, arith, inl, inr}
use Rattle.std.specs.Prelude.{slice_get}
use Rattle.std.specs.List.{AllByRecursion}
use Rattle.std.proofs.lemmas.Bool.Decides.{nat_tests}
use Rattle.nand_geometry.specs.declared.parts.Parts.{Parts}
use Rattle.onfi_cycle.specs.declared.forbidden.Forbidden.{Forbidden}
use Rattle.onfi_cycle.specs.declared.item.Item.{Item}
use Rattle.onfi_cycle.specs.declared.item.Kind.TheVariants.{Dout}
use Rattle.onfi_cycle.specs.declared.lun.Lun.{Lun}
use Rattle.onfi_cycle.specs.Channel.{cycle}
use Rattle.onfi_cycle.specs.Runs.{first_rule}
use Rattle.onfi_cycle.specs.State.{BusView, Follows, judged, bus_after}
use Rattle.onfi_cycle.proofs.Following.{judged_is_broken, bus_goes_on}
use Rattle.micro_word.specs.declared.format.Format.TheVariants.{One, Two}
use Rattle.micro_word.specs.declared.word.Word.{Word}
use Rattle.micro_word.specs.declared.word.Word.TheVariants as word
use Rattle.micro_word.specs.Text.{Microprogram, IsFileOf}
use Rattle.micro_word.specs.Word.{IsInRange}
use Rattle.micro_word.proofs.Files.{reading_of}
use Rattle.micro_program.specs.Moves.{Move, Give, Take}
use Rattle.micro_program.specs.Program.{fits}
use Rattle.micro_program.specs.Safe.{MovesAreOwn}
use Rattle.target_bus.specs.Bus.{channel_on}
use Rattle.seq_core.specs.declared.loops.OpenLoop.{OpenLoop}
use Rattle.seq_core.specs.declared.registers.Registers.{Registers}
use Rattle.seq_core.specs.After.{is_held}
use Rattle.seq_core.specs.Calls.{CanStep}
use Rattle.seq_core.specs.Loops.{loops_behind}
use Rattle.seq_core.specs.Playing.{EndsWithFive}
use Rattle.seq_core.specs.Progress.{Progress, moves_at}
use Rattle.seq_core.proofs.Replies.{can_step}
use Rattle.seq_live.specs.declared.burst.Burst.{Burst}
use Rattle.seq_live.specs.Burst.{bursts_at, taken_by}
use Rattle.seq_live.specs.Kept.{LiveView, IsLive, channel_at, core_at}
use Rattle.seq_live.proofs.Bursts.{bursts_are_moves, bursts_there}
use Rattle.seq_live.proofs.Lives.{live_core}
use Rattle.word_file.specs.Words.{word_in}
use Rattle.word_file.proofs.Read.{words_are_read}
use Rattle.onfiseq_live_c.specs.declared.stop.Stop.TheVariants as stop
use Rattle.onfiseq_live_c.specs.declared.live.OnfiseqLive.{OnfiseqLive}
use Rattle.onfiseq_live_c.specs.declared.job.OnfiseqJob.{OnfiseqJob}
use Rattle.onfiseq_live_c.specs.Job.{JobView, job_view, lun_in, registers_in, opens_loop}
use Rattle.onfiseq_live_c.specs.Live.{state_of, holder_of, are_whole}
use Rattle.onfiseq_live_c.specs.Bursts.{judged_bursts}
use Rattle.onfiseq_live_c.specs.Due.{and_do, found, unless_ended, due}
use Rattle.onfiseq_live_c.specs.Next.{permitted, told_by, told, next_of}
use Rattle.onfiseq_live_c.specs.Verified.{StandsFor, TellsItsBursts}
use Rattle.onfiseq_live_c.proofs.Ranges.{ends_with_five}
use Rattle.onfiseq_live_c.proofs.Permits.{judged_moves, bursts_are}
use Rattle.onfiseq_live_c.proofs.Told.{bursts_are_own}

-- ---- the word is read, and in its range

nth_all : {X : Type 0} (P : X → Type 0) (xs : List X) (k : ℕ) (x : X) → AllByRecursion P xs → slice_get xs k ≡ Some x → P x
nth_all P [] k x a e = cc
nth_all P (y ∷ xs) zero x a e = let same : y ≡ x = cc in subst P same a.0
nth_all P (y ∷ xs) (suc k) x a e = nth_all P xs k x a.1 e

pub word_range : (file : List ℕ) (x : Microprogram) (k : ℕ) (w : Word) → IsFileOf file x → slice_get x.words k ≡ Some w → EndsWithFive w
word_range file x k w (inl f) e = ends_with_five One (length x.words) w (nth_all (IsInRange One (length x.words)) x.words k w f.0.words e)
word_range file x k w (inr f) e = ends_with_five Two (length x.words) w (nth_all (IsInRange Two (length x.words)) x.words k w f.0.words e)

-- ---- it is due

not_deep : (at : ℕ) (loops : List OpenLoop) (w : Word) → length (loops_behind at loops w) ≤ 4 → (opens_loop w && length loops == 4) ≡ false
not_deep at loops (word.Loop turns) h = grind (arith, nat_tests, h)
not_deep at loops (word.End code) h = refl
not_deep at loops (word.Command byte) h = refl
not_deep at loops (word.Address from count) h = refl
not_deep at loops (word.Get len) h = refl
not_deep at loops (word.Put len) h = refl
not_deep at loops (word.Seek place) h = refl
not_deep at loops (word.Column column) h = refl
not_deep at loops (word.RowAdd rows) h = refl
not_deep at loops (word.Row row) h = refl
not_deep at loops (word.Plane plane) h = refl
not_deep at loops word.Wait h = refl
not_deep at loops word.Yield h = refl
not_deep at loops word.ReadStatus h = refl
not_deep at loops (word.BranchOnStatus mask target) h = refl
not_deep at loops word.Next h = refl
not_deep at loops (word.Jump target) h = refl

due_is : (holder : Option Lun) (j : JobView) (file : List ℕ) (w : Word) → j.code ≡ None → is_held holder j.lun ≡ false → word_in file j.at ≡ Ok w
    → fits j.buffer j.registers.place w ≡ true → (opens_loop w && length j.loops == 4) ≡ false → due holder j file ≡ Ok w
due_is holder j file w running free is_word inside shallow =
    ap (λ (o : Option ℕ). unless_ended o (cond (is_held holder j.lun) (Err stop.Held) (found j (word_in file j.at)))) running
    ∙ (ap (λ (b : Bool). cond b (Err stop.Held) (found j (word_in file j.at))) free
    ∙ (ap (found j) is_word
    ∙ (ap (λ (b : Bool). cond (not b) (Err stop.BufferTooShort) (cond (opens_loop w && length j.loops == 4) (Err stop.TooDeep) (Ok w))) inside
    ∙ ap (λ (b : Bool). cond b (Err stop.TooDeep) (Ok w)) shallow)))

-- ---- its cycles break no rule

own_moves : (g : Parts) (n : ℕ) (l : Lun) (moved : List Move) (s : BusView) (past : List Item) → Follows g n s past → MovesAreOwn (channel_on g n []) l moved past
    → judged_moves l.ce moved s ≡ None
own_moves g n l [] s past f own = refl
own_moves g n l (Give kind byte ∷ rest) s past f own =
    let none : judged s (cycle l.ce kind byte) ≡ None = judged_is_broken g n s past (cycle l.ce kind byte) f ∙ own.0.permitted in
    ap (λ (o : Option Forbidden). first_rule o (judged_moves l.ce rest (bus_after (cycle l.ce kind byte) s))) none
    ∙ own_moves g n l rest (bus_after (cycle l.ce kind byte) s) (cycle l.ce kind byte ∷ past) (bus_goes_on g n s past (cycle l.ce kind byte) none f) own.1
own_moves g n l (Take ∷ rest) s past f own =
    let one = own 0 in
    let none : judged s (cycle l.ce Dout 0) ≡ None = judged_is_broken g n s past (cycle l.ce Dout 0) f ∙ one.0.permitted in
    ap (λ (o : Option Forbidden). first_rule o (judged_moves l.ce rest (bus_after (cycle l.ce Dout 0) s))) none
    ∙ own_moves g n l rest (bus_after (cycle l.ce Dout 0) s) (cycle l.ce Dout 0 ∷ past) (bus_goes_on g n s past (cycle l.ce Dout 0) none f) one.1

pub own_bursts : (g : Parts) (n : ℕ) (l : Lun) (buffer : List ℕ) (r : Registers) (w : Word) (moved : List Move) (bursts : List Burst) (s : BusView) (past : List Item)
    → EndsWithFive w → fits (length buffer) r.place w ≡ true → moves_at g l.lun buffer r w ≡ Some moved → bursts_at g l r w ≡ Some bursts
    → Follows g n s past → MovesAreOwn (channel_on g n []) l moved past → judged_bursts bursts s ≡ None
own_bursts g n l buffer r w moved bursts s past range inside is_moved are f own =
    let a = bursts_are_moves g l buffer r w moved bursts range inside is_moved are in
    (bursts_are l.ce buffer bursts s (bursts_are_own g l r (length buffer) w bursts inside are)).judges
    ∙ (ap (λ (ms : List Move). judged_moves l.ce ms s) (sym a.moves) ∙ own_moves g n l moved s past f own)

-- ---- so they are told

told_is_all : (s : BusView) (j : JobView) (w : Word) (bursts : List Burst) → bursts_at s.geometry j.lun j.registers w ≡ Some bursts → judged_bursts bursts s ≡ None
    → told s j w ≡ Ok (record { bursts = bursts; taken = taken_by w })
told_is_all s j w bursts are none = ap (told_by s w) are ∙ ap (permitted bursts (taken_by w)) none

next_is : (v : OnfiseqLive) (j : OnfiseqJob) (file : List ℕ) (w : Word) (bursts : List Burst) → are_whole v j ≡ true → due (holder_of v) (job_view j) file ≡ Ok w
    → bursts_at (state_of v).geometry (lun_in j) (registers_in j) w ≡ Some bursts → judged_bursts bursts (state_of v) ≡ None
    → next_of v j file ≡ Ok (record { bursts = bursts; taken = taken_by w })
next_is v j file w bursts whole is_due are none =
    ap (λ (b : Bool). cond (not b) (Err stop.Damaged) (and_do (due (holder_of v) (job_view j) file) (told (state_of v) (job_view j)))) whole
    ∙ (ap (λ r. and_do r (told (state_of v) (job_view j))) is_due ∙ told_is_all (state_of v) (job_view j) w bursts are none)

-- the next word of a program that goes on is due
pub due_now : (kept : LiveView) (p : Progress) (v : OnfiseqLive) (j : OnfiseqJob) (file : List ℕ) (w : Word) → StandsFor kept p v j file → p.code ≡ None → is_held kept.holder (lun_in j) ≡ false
    → slice_get p.job.text.words p.at ≡ Some w → fits (length p.job.buffer) p.registers.place w ≡ true → length (loops_behind p.at p.loops w) ≤ 4
    → due (holder_of v) (job_view j) file ≡ Ok w
due_now kept p v j file w st running free here inside room =
    due_is (holder_of v) (job_view j) file w (st.code ∙ running) (ap (λ h. is_held h (lun_in j)) st.holder ∙ free)
    (words_are_read file p.job.text (reading_of file p.job.text st.text) j.at w (ap (slice_get p.job.text.words) st.at ∙ here))
    (ap (λ (n : ℕ). fits n j.place w) st.buffer ∙ (ap (λ (r : Registers). fits (length p.job.buffer) r.place w) st.registers ∙ inside))
    (ap (λ (ls : List OpenLoop). opens_loop w && length ls == 4) st.loops ∙ not_deep p.at p.loops w room)

pub verified_jobs_break_none : (kept : LiveView) (p : Progress) (v : OnfiseqLive) (j : OnfiseqJob) (file : List ℕ) → IsLive kept → StandsFor kept p v j file
    → p.code ≡ None → is_held kept.holder (lun_in j) ≡ false → TellsItsBursts kept p v j file
verified_jobs_break_none kept p v j file k st running free = at (bursts_at kept.state.geometry p.job.lun p.registers w) refl
  where
    can : CanStep (channel_at kept) k.world.past p × (p.job.lun ≡ lun_in j)
    can = can_step (core_at kept k.world.past) (lun_in j) p (live_core kept k) st.slot running free

    w : Word
    w = can.0.word

    is_due : due (holder_of v) (job_view j) file ≡ Ok w
    is_due = due_now kept p v j file w st running free can.0.here can.0.can.inside can.0.room

    at : (o : Option (List Burst)) → bursts_at kept.state.geometry p.job.lun p.registers w ≡ o → TellsItsBursts kept p v j file
    at None are = absurd (bursts_there kept.state.geometry p.job.lun p.job.buffer p.registers w can.0.can.moved can.0.can.is_moved are)
    at (Some bursts) are =
        let none = own_bursts kept.state.geometry (length kept.state.targets) p.job.lun p.job.buffer p.registers w can.0.can.moved bursts kept.state k.world.past
        (word_range file p.job.text p.at w st.text can.0.here) can.0.can.inside can.0.can.is_moved are k.is_at.follows can.0.can.own in
        record {
          word = w;
          here = can.0.here;
          bursts = bursts;
          are_bursts = are;
          tells = next_is v j file w bursts st.whole is_due
              (ap (λ (s : BusView). bursts_at s.geometry (lun_in j) (registers_in j) w) st.state
              ∙ (ap (λ (l : Lun). bursts_at kept.state.geometry l (registers_in j) w) (sym can.1)
              ∙ (ap (λ (r : Registers). bursts_at kept.state.geometry p.job.lun r w) st.registers ∙ are)))
              (ap (judged_bursts bursts) st.state ∙ none);
        }
