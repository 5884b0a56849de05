-- The readies that a status shows, as runs.
use Rattle.std.proofs.Common.{◌≡◌, ℕ, ◌==◌, Bool, true, false, cond, List, [], ◌∷◌, ◌++◌, Option, Some, None, refl, sym, ap, ◌∙◌, subst, eqb-true, eq-eqb, IfSome, is_some, ◌<◌, length, length-append, take, inl, inr, arith}
use Rattle.std.specs.Int.RustNames.{bit_and}
use Rattle.onfi_cycle.specs.declared.item.Failures.{Failures}
use Rattle.onfi_cycle.specs.declared.lun.Lun.{Lun}
use Rattle.micro_word.specs.declared.word.Word.{Word}
use Rattle.micro_program.specs.Program.{is_ready_status}
use Rattle.micro_program.specs.Step.{first_byte}
use Rattle.seq_core.specs.declared.stepped.Stepped.{Stepped}
use Rattle.seq_core.specs.Reply.{Reply, ToReady, ToArrayReady, ToStep}
use Rattle.seq_live.specs.declared.live.StepGoingOn.{StepGoingOn}
use Rattle.seq_live.specs.declared.burst.Burst.{Burst}
use Rattle.seq_live.specs.Event.{LiveEvent, Step, Ready, ArrayReady, is_quiet}
use Rattle.seq_live.specs.Kept.{LiveView, IsLive}
use Rattle.seq_live.specs.Calls.{IsLiveRun, IsLiveEvent, MayStep, IsNextWord, AreNextBursts, IsNextBurst, HasBuffer, HasFinished, shown_by, shown, has_fail, told_by, has_array_ready, is_poll, ends_with, live_slot, NextWordIs, AreFewDone, IsStepFault}
use Rattle.seq_live.specs.Driven.{Grows, HasStepped, with_word}
use Rattle.seq_live.specs.Burst.{AllFit}
use Rattle.onfi_cycle.specs.declared.item.Item.{Item}
use Rattle.seq_core.specs.Playing.{EndsWithFive}
use Rattle.seq_live.proofs.Driven.{shown_are_ready, word_has_come, word_shows, rest_come, rest_shows}
use Rattle.seq_live.specs.declared.out_of_turn.OutOfTurn.TheVariants.{StepGoesOn, NoRoom}
use Rattle.seq_live.specs.Burst.{taken_by}
use Rattle.seq_live.proofs.Running.{runs_more, no_run, answered_each}
use Rattle.std.proofs.lemmas.Bool.{and_parts}
use Rattle.std.specs.List.{slice_get, list_all}
use Rattle.micro_program.specs.Moves.{is_wait}
use Rattle.seq_core.specs.Progress.{Progress}

some_same : {X : Type 0} (x y : X) → Some x ≡ Some y → x ≡ y
some_same x y h = cc

-- 1. which they are

array_not_ready : (status : ℕ) → (bit_and status 32 ≡ 32 → ⊥) → has_array_ready status ≡ false
array_not_ready status differs = at (bit_and status 32 == 32) refl
  where
    at : (b : Bool) → (bit_and status 32 == 32) ≡ b → (bit_and status 32 == 32) ≡ false
    at false e = e
    at true e = absurd (differs (eqb-true (bit_and status 32) 32 e))

both_shown : (l : Lun) (status : ℕ) → is_ready_status status ≡ true → bit_and status 32 ≡ 32 → shown_by l status ≡ Ready l (told_by status) ∷ (ArrayReady l (has_fail status) ∷ [])
both_shown l status ready array = rw (ready, eq-eqb (bit_and status 32) 32 array) refl

one_shown : (l : Lun) (status : ℕ) → is_ready_status status ≡ true → (bit_and status 32 ≡ 32 → ⊥) → shown_by l status ≡ Ready l (told_by status) ∷ []
one_shown l status ready differs = rw (ready, array_not_ready status differs) refl

none_shown : (l : Lun) (status : ℕ) → is_ready_status status ≡ false → shown_by l status ≡ []
none_shown l status busy = rw busy refl

-- 2. as runs

abbrev pub Shows : LiveView → List LiveEvent → LiveView → Type 0
Shows v events later = (replies : List Reply) × IsLiveRun v events replies later

pub shows_both : (v u t : LiveView) (l : Lun) (status : ℕ) (fail : Failures) (came array : Bool) → is_ready_status status ≡ true → fail ≡ told_by status → bit_and status 32 ≡ 32 → IsLiveEvent v (Ready l fail) (ToReady came) u → IsLiveEvent u (ArrayReady l fail.last) (ToArrayReady array) t → Shows v (shown_by l status) t
shows_both v u t l status fail came array ready is bit first second =
    let here : IsLiveEvent v (Ready l (told_by status)) (ToReady came) u = subst (λ (b : Failures). IsLiveEvent v (Ready l b) (ToReady came) u) is first in
    let there : IsLiveEvent u (ArrayReady l (has_fail status)) (ToArrayReady array) t = subst (λ (b : Failures). IsLiveEvent u (ArrayReady l b.last) (ToArrayReady array) t) is second in
    subst (λ (es : List LiveEvent). Shows v es t) (sym (both_shown l status ready bit))
    (ToReady came ∷ (ToArrayReady array ∷ []), runs_more v u t (Ready l (told_by status) ∷ []) (ArrayReady l (has_fail status) ∷ []) (ToReady came ∷ []) (ToArrayReady array ∷ []) here there)

pub shows_ready : (v u : LiveView) (l : Lun) (status : ℕ) (fail : Failures) (came : Bool) → is_ready_status status ≡ true → fail ≡ told_by status → (bit_and status 32 ≡ 32 → ⊥) → IsLiveEvent v (Ready l fail) (ToReady came) u → Shows v (shown_by l status) u
shows_ready v u l status fail came ready is differs first =
    subst (λ (es : List LiveEvent). Shows v es u) (sym (one_shown l status ready differs)) (ToReady came ∷ [], subst (λ (b : Failures). IsLiveEvent v (Ready l b) (ToReady came) u) is first)

pub shows_none : (v : LiveView) (l : Lun) (status : ℕ) → is_ready_status status ≡ false → Shows v (shown_by l status) v
shows_none v l status busy = subst (λ (es : List LiveEvent). Shows v es v) (sym (none_shown l status busy)) ([], no_run v)

-- 3. a step after them

pub stepped_after : (v u t : LiveView) (l : Lun) (word : Word) (bytes : List ℕ) (answer : Stepped) → Shows v (shown l word bytes) u → IsLiveEvent u (Step l bytes) (ToStep answer) t → (replies : List Reply) × IsLiveRun v (shown l word bytes ++ (Step l bytes ∷ [])) (replies ++ (ToStep answer ∷ [])) t
stepped_after v u t l word bytes answer first second =
    (first.0, runs_more v u t (shown l word bytes) (Step l bytes ∷ []) first.0 (ToStep answer ∷ []) first.1 second)

-- 4. by the word

pub shows_poll : (v u : LiveView) (l : Lun) (word : Word) (bytes : List ℕ) (status : ℕ) → is_poll word ≡ true → status ≡ first_byte bytes → Shows v (shown_by l status) u → Shows v (shown l word bytes) u
shows_poll v u l word bytes status poll is h = subst (λ (es : List LiveEvent). Shows v es u) (sym (rw poll (ap (shown_by l) (sym is)))) h

pub shows_nothing : (v : LiveView) (l : Lun) (word : Word) (bytes : List ℕ) → is_poll word ≡ false → Shows v (shown l word bytes) v
shows_nothing v l word bytes other = subst (λ (es : List LiveEvent). Shows v es v) (sym (rw other refl)) ([], no_run v)

pub ends_ready : (word : Word) (bytes : List ℕ) (status : ℕ) → status ≡ first_byte bytes → ends_with word bytes ≡ true → is_ready_status status ≡ true
ends_ready word bytes status is h = ap is_ready_status is ∙ (and_parts (is_wait word) (is_ready_status (first_byte bytes)) h).1

-- they load and unload nothing
shown_quiet : (l : Lun) (word : Word) (bytes : List ℕ) → list_all is_quiet (shown l word bytes) ≡ true
shown_quiet l word bytes = at (is_poll word) (is_ready_status status) (has_array_ready status)
  where
    status : ℕ
    status = first_byte bytes

    at : (poll ready array : Bool) → list_all is_quiet (cond poll (cond ready (Ready l (told_by status) ∷ cond array (ArrayReady l (has_fail status) ∷ []) []) []) []) ≡ true
    at false ready array = refl
    at true false array = refl
    at true true false = refl
    at true true true = refl

-- 5. what is told of a step that goes on

-- the step that goes on is no part of a world
pub whatever_goes_on : (v u : LiveView) (going : Option StepGoingOn) (es : List LiveEvent) (rs : List Reply) → IsLiveRun v es rs u → IsLiveRun v es rs (record u { going = going })
whatever_goes_on v u going es rs run w at law =
    let r = run w at law in
    record { answered = r.answered; ran = r.ran; is_ran = r.is_ran; replied = r.replied; is_at = record { follows = r.is_at.follows; at = r.is_at.at }; own = r.own; lawful = r.lawful; channel = r.channel }

pub finished_at_rest : (v : LiveView) (bytes : List ℕ) (answer : Stepped) (step : StepGoingOn) → v.going ≡ Some step → (MayStep v step.lun → ⊥) → IsLiveEvent v (Step step.lun bytes) (ToStep answer) v → HasFinished v bytes answer (record v { going = None })
finished_at_rest v bytes answer step is rest run =
    record { step = step; is_step = is; readies = []; are_shown = λ word may next. absurd (rest may); none_shown = λ stays. refl; replies = []; paired = refl; quiet = refl; run = whatever_goes_on v v None (Step step.lun bytes ∷ []) (ToStep answer ∷ []) run; is_over = refl }

pub same_next : (o : Option Progress) (word other : Word) → NextWordIs o word → NextWordIs o other → word ≡ other
same_next o word other a b =
    let same : a.v ≡ b.v = some_same a.v b.v (sym a.is_slot ∙ b.is_slot) in
    some_same word other (sym a.here ∙ (ap (λ (q : Progress). slice_get q.job.text.words q.at) same ∙ b.here))

-- the readies before a step are answered one by one
paired_before : (v later : LiveView) (readies : List LiveEvent) (replies : List Reply) (e : LiveEvent) (reply : Reply) → IsLive v → IsLiveRun v (readies ++ (e ∷ [])) (replies ++ (reply ∷ [])) later → length replies ≡ length readies
paired_before v later readies replies e reply k run =
    let all = answered_each v later (readies ++ (e ∷ [])) (replies ++ (reply ∷ [])) k run in
    let one = length-append replies (reply ∷ []) in
    let other = length-append readies (e ∷ []) in
    omega (arith, all, one, other)

pub finished : (v later : LiveView) (bytes : List ℕ) (answer : Stepped) (step : StepGoingOn) (word : Word) → IsLive v → v.going ≡ Some step → MayStep v step.lun → IsNextWord v step.lun word → (replies : List Reply) × IsLiveRun v (shown step.lun word bytes ++ (Step step.lun bytes ∷ [])) (replies ++ (ToStep answer ∷ [])) later → later.going ≡ None → HasFinished v bytes answer later
finished v later bytes answer step word k is may next run over =
    record {
      step = step;
      is_step = is;
      readies = shown step.lun word bytes;
      are_shown = λ other goes there. ap (λ (y : Word). shown step.lun y bytes) (same_next (live_slot v step.lun) word other next there);
      none_shown = λ rest. absurd (rest may);
      replies = run.0;
      paired = paired_before v later (shown step.lun word bytes) run.0 (Step step.lun bytes) (ToStep answer) k run.1;
      quiet = shown_quiet step.lun word bytes;
      run = run.1;
      is_over = over;
    }

pub next_burst : (v : LiveView) (step : StepGoingOn) (bursts : List Burst) (found : Option Burst) → v.going ≡ Some step → MayStep v step.lun → AreNextBursts v step.lun bursts → found ≡ slice_get bursts step.done → IfSome found (λ burst. IsNextBurst v burst)
next_burst v step bursts None is may next h = tt
next_burst v step bursts (Some burst) is may next h = record { step = step; is_step = is; may = may; bursts = bursts; are_next = next; is_burst = sym h }

pub burst_left : (v : LiveView) (step : StepGoingOn) (bursts : List Burst) (found : Option Burst) (b : Bool) → v.going ≡ Some step → MayStep v step.lun → AreNextBursts v step.lun bursts → found ≡ slice_get bursts step.done → b ≡ is_some found → b ≡ true → (burst : Burst) × IsNextBurst v burst
burst_left v step bursts found b is may next h tells left = at found h (sym tells ∙ left)
  where
    at : (o : Option Burst) → o ≡ slice_get bursts step.done → is_some o ≡ true → (burst : Burst) × IsNextBurst v burst
    at None e t = cc
    at (Some burst) e t = (burst, next_burst v step bursts (Some burst) is may next e)

pub few_done : (v : LiveView) (step : StepGoingOn) (found : Option Burst) → v.going ≡ Some step → IfSome found (λ burst. step.done < 3) → IfSome found (λ burst. AreFewDone v)
few_done v step None is h = tt
few_done v step (Some burst) is h = λ other e. let same : step ≡ other = some_same step other (sym is ∙ e) in subst (λ (x : StepGoingOn). x.done < 3) same h

-- 6. a step on pins

pub stepped_at_rest : (v : LiveView) (l : Lun) (taken : List ℕ) (answer : Stepped) (pins : Option (List Item)) → (MayStep v l → ⊥) → IsLiveEvent v (Step l []) (ToStep answer) v → HasStepped v l taken answer v pins pins
stepped_at_rest v l taken answer pins rest run =
    record {
      count = 0;
      takes = inr (rest, refl);
      room = omega arith;
      bytes = [];
      are_taken = none_taken taken;
      readies = [];
      are_shown = λ word may next. absurd (rest may);
      none_shown = λ stays. refl;
      replies = [];
      paired = refl;
      ready = refl;
      run = run;
      show = rest_shows v l [] rest;
      pins = rest_come v l [] pins rest;
    }
  where
    none_taken : (xs : List ℕ) → [] ≡ take 0 xs
    none_taken [] = refl
    none_taken (x ∷ xs) = refl

front_taken : (xs ys : List ℕ) → xs ≡ take (length xs) (xs ++ ys)
front_taken [] [] = refl
front_taken [] (y ∷ ys) = refl
front_taken (x ∷ xs) ys = ap (λ (zs : List ℕ). x ∷ zs) (front_taken xs ys)

pub stepped_next : (v later : LiveView) (l : Lun) (word : Word) (front back : List ℕ) (bursts : List Burst) (answer : Stepped) (before after : Option (List Item)) → IsLive v → MayStep v l → IsNextWord v l word → EndsWithFive word → AreNextBursts v l bursts → length front ≡ taken_by word
    → ((buffer : List ℕ) → HasBuffer (live_slot v l) buffer → AllFit (length buffer) bursts → Grows (with_word l.ce buffer bursts front) before after)
    → (replies : List Reply) × IsLiveRun v (shown l word front ++ (Step l front ∷ [])) (replies ++ (ToStep answer ∷ [])) later → HasStepped v l (front ++ back) answer later before after
stepped_next v later l word front back bursts answer before after k may next range listed count done run =
    record {
      count = length front;
      takes = inl (record { may = may; word = word; is_word = next; is_count = count });
      room = let both = length-append front back in omega (arith, both);
      bytes = front;
      are_taken = front_taken front back;
      readies = shown l word front;
      are_shown = λ other goes there. ap (λ (y : Word). shown l y front) (same_next (live_slot v l) word other next there);
      none_shown = λ rest. absurd (rest may);
      replies = run.0;
      paired = paired_before v later (shown l word front) run.0 (Step l front) (ToStep answer) k run.1;
      ready = shown_are_ready l word front;
      run = run.1;
      show = word_shows v l word front may next;
      pins = word_has_come v l word front bursts before after k may next range listed done;
    }

-- 7. why a step on pins isn't made

pub goes_on_now : (v : LiveView) (l : Lun) (room : ℕ) (b : Bool) → b ≡ is_some v.going → b ≡ true → IsStepFault v l room StepGoesOn
goes_on_now v l room b is goes = at v.going refl (sym is ∙ goes)
  where
    at : (o : Option StepGoingOn) → v.going ≡ o → is_some o ≡ true → (step : StepGoingOn) × (v.going ≡ Some step)
    at None e h = cc
    at (Some step) e h = (step, e)

pub no_room : (v : LiveView) (l : Lun) (room count : ℕ) (word : Word) → MayStep v l → IsNextWord v l word → count ≡ taken_by word → room < count → IsStepFault v l room NoRoom
no_room v l room count word may next is more = (count, record { may = may; word = word; is_word = next; is_count = is }, more)
