-- The counter of a text, from the run of the words before it.
use Rattle.std.proofs.Common.{◌≡◌, ℕ, ◌<◌, List, [], Option, Some, None, refl, sym, ap, ◌∙◌, subst, length, take, get_or, replicate}
use Rattle.std.specs.Prelude.{slice_get}
use Rattle.std.proofs.lemmas.Option.{slice_get-get_or}
use Rattle.micro_word.specs.declared.word.Word.{Word}
use Rattle.micro_word.specs.Text.{Microprogram}
use Rattle.onfi_cycle.specs.Channel.{Channel}
use Rattle.target_bus.specs.Bus.{Traced, channel_of}
use Rattle.micro_program.specs.Program.{Job}
use Rattle.micro_program.specs.Moves.{and_then}
use Rattle.micro_verify.specs.declared.registers.Registers.{Registers}
use Rattle.micro_verify.specs.declared.showing.Counter.{Counter as Counted}
use Rattle.micro_verify.specs.Lazy.{lone_job, Run, new_run}
use Rattle.micro_verify.specs.Calm.{calm_words, counter_after, counter_before}
use Rattle.micro_verify.specs.Playing.{fresh_registers, IsAt, IsLoneJob, HasRunFrom, Shown, ShownAfter}

-- the run of a new bus

lone_job_is : (b : Traced) (text : Microprogram) → b.geometry.luns ≡ 1 → b.targets ≡ 1 → IsLoneJob (channel_of b) (lone_job b.geometry text)
lone_job_is b text one target = record { lun = refl; base = refl; one = one; target = target }

at_first : (b : Traced) (text : Microprogram) (buffer : List ℕ) → b.past ≡ [] → buffer ≡ replicate text.buffer 0 → IsAt (channel_of b) (lone_job b.geometry text) b fresh_registers buffer new_run
at_first b text buffer past is = record { channel = refl; past = past; set = record { column = refl; plane = refl; index = refl; place = refl }; buffer = is }

no_word : (o : Option Word) (s : Channel) (j : Job) (words : List Word) → calm_words s j words new_run ≡ None → and_then o (λ word. and_then (calm_words s j words new_run) (λ r. counter_after s j r word)) ≡ None
no_word None s j words h = refl
no_word (Some word) s j words h = ap (λ (x : Option Run). and_then x (λ r. counter_after s j r word)) h

pub none_from : (b new : Traced) (text : Microprogram) (buffer later : List ℕ) (words : List Word) (at : ℕ) (o : Option Registers) → b.geometry.luns ≡ 1 → b.targets ≡ 1 → b.past ≡ [] → buffer ≡ replicate text.buffer 0 → words ≡ text.words → o ≡ None → HasRunFrom b new buffer later (take at words) o → counter_before (channel_of b) text at ≡ None
none_from b new text buffer later words at o one target past is same none runs =
    let run = subst (λ (x : Option Registers). HasRunFrom b new buffer later (take at words) x) none runs in
    let stops = run (channel_of b) (lone_job b.geometry text) (lone_job_is b text one target) (at_first b text buffer past is) in
    no_word (slice_get text.words at) (channel_of b) (lone_job b.geometry text) (take at text.words) (ap (λ (ws : List Word). calm_words (channel_of b) (lone_job b.geometry text) (take at ws) new_run) (sym same) ∙ stops)

pub some_from : {A : Type 0} (b new : Traced) (text : Microprogram) (buffer later : List ℕ) (words : List Word) (at : ℕ) (d : Word) (o : Option Registers) (r : Registers) (told : Option (Counted A)) → b.geometry.luns ≡ 1 → b.targets ≡ 1 → b.past ≡ [] → buffer ≡ replicate text.buffer 0 → words ≡ text.words → at < length words → o ≡ Some r → HasRunFrom b new buffer later (take at words) o → ShownAfter new r later text.rows text.buffer (get_or words at d) told → Shown told (counter_before (channel_of b) text at)
some_from {A} b new text buffer later words at d o r told one target past is same low some runs shown =
    let run = subst (λ (x : Option Registers). HasRunFrom b new buffer later (take at words) x) some runs in
    let s = channel_of b in
    let j = lone_job b.geometry text in
    let goes = run s j (lone_job_is b text one target) (at_first b text buffer past is) in
    let calm : calm_words s j (take at text.words) new_run ≡ Some goes.0 = ap (λ (ws : List Word). calm_words s j (take at ws) new_run) (sym same) ∙ goes.1 in
    let word : slice_get text.words at ≡ Some (get_or words at d) = ap (λ (ws : List Word). slice_get ws at) (sym same) ∙ slice_get-get_or words at d low in
    let counter : counter_before s text at ≡ counter_after s j goes.0 (get_or words at d) =
    ap (λ (x : Option Word). and_then x (λ w. and_then (calm_words s j (take at text.words) new_run) (λ q. counter_after s j q w))) word ∙ ap (λ (x : Option Run). and_then x (λ q. counter_after s j q (get_or words at d))) calm in
    subst (Shown told) (sym counter) (shown s j goes.0 (lone_job_is b text one target) goes.2 refl refl)
