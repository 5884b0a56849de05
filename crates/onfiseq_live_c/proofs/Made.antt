-- A job that is begun is one that may be made.
use Rattle.std.proofs.Common.{◌≡◌, ℕ, suc, ◌+◌, ◌%◌, ◌≤◌, ◌==◌, ◌&&◌, ◌||◌, Bool, true, false, cond, not, leb, List, [], ◌∷◌, Option, Some, None, Result, Ok, Err, length, refl, sym, ap, ◌∙◌, subst, arith}
use Rattle.std.specs.Prelude.{slice_get}
use Rattle.std.proofs.lemmas.Bool.Decides.{nat_tests}
use Rattle.nand_geometry.specs.declared.parts.Parts.{Parts}
use Rattle.nand_geometry.specs.Limits.{indices}
use Rattle.onfi_cycle.specs.declared.lun.Lun.{Lun}
use Rattle.onfi_cycle.specs.State.{BusView}
use Rattle.micro_word.specs.declared.word.Word.{Word}
use Rattle.micro_word.specs.declared.word.Word.TheVariants as word
use Rattle.micro_word.specs.declared.refusal.WordRefusal.{WordRefusal}
use Rattle.micro_word.specs.Text.{IsFileOf}
use Rattle.micro_word.specs.Reading.{header_at}
use Rattle.micro_word.proofs.Files.{reading_of}
use Rattle.micro_program.specs.Lines.{is_command_31, continues_cache_read}
use Rattle.micro_program.specs.Program.{Job}
use Rattle.seq_core.specs.declared.job_fault.JobFault.{JobFault}
use Rattle.seq_core.specs.declared.job_fault.JobFault.TheVariants.{NoSuchLun, RowsOutside, BufferLength, NotAtBlock}
use Rattle.bus_record.specs.Channel.{is_on}
use Rattle.word_file.specs.declared.word.WordMissing.TheVariants.{Fault}
use Rattle.word_file.specs.Words.{by_result, word_in, is_continuing, continues}
use Rattle.word_file.proofs.Read.{header_is_read, words_are_read}
use Rattle.onfiseq_live_c.specs.declared.stop.Stop.{Stop}
use Rattle.onfiseq_live_c.specs.declared.stop.Stop.TheVariants as stop
use Rattle.onfiseq_live_c.specs.declared.live.OnfiseqLive.{OnfiseqLive}
use Rattle.onfiseq_live_c.specs.Job.{JobView, fresh_job}
use Rattle.onfiseq_live_c.specs.Live.{state_of, is_live}
use Rattle.onfiseq_live_c.specs.Begin.{job_fault, unless_unfit, begin_of}
use Rattle.onfiseq_live_c.specs.Verified.{IsMadeThere}

-- whether one of its words continues a cache read
same_command : (w : Word) → is_continuing (Ok w) ≡ is_command_31 w
same_command (word.Command byte) = refl
same_command w = refl

pub continues_is : (file : List ℕ) (ws : List Word) (at : ℕ) → ((k : ℕ) (w : Word) → slice_get ws k ≡ Some w → word_in file (at + k) ≡ Ok w) → continues file at (length ws) ≡ continues_cache_read ws
continues_is file [] at all = refl
continues_is file (w ∷ ws) at all =
    let zeroth : at + 0 ≡ at = omega arith in
    let here : word_in file at ≡ Ok w = sym (ap (word_in file) zeroth) ∙ all 0 w refl in
    let rest = continues_is file ws (at + 1) (λ k v h. let next : at + 1 + k ≡ at + suc k = omega arith in ap (word_in file) next ∙ all (suc k) v h) in
    ap (λ r. is_continuing r || continues file (at + 1) (length ws)) here
    ∙ (ap (λ (b : Bool). b || continues file (at + 1) (length ws)) (same_command w) ∙ ap (λ (b : Bool). is_command_31 w || b) rest)

-- no fault is left
made_by : (s : BusView) (l : Lun) (base buffer rows named : ℕ) (continued on inside whole aligned : Bool)
    → cond (not on) (Some NoSuchLun) (cond (not inside) (Some RowsOutside) (cond (not whole) (Some BufferLength) (cond (continued && not aligned) (Some NotAtBlock) None))) ≡ None
    → (on ≡ true) × (inside ≡ true) × (whole ≡ true) × (continued ≡ true → aligned ≡ true)
made_by s l base buffer rows named continued false inside whole aligned e = cc
made_by s l base buffer rows named continued true false whole aligned e = cc
made_by s l base buffer rows named continued true true false aligned e = cc
made_by s l base buffer rows named continued true true true true e = (refl, refl, refl, λ h. refl)
made_by s l base buffer rows named true true true true false e = cc
made_by s l base buffer rows named false true true true false e = (refl, refl, refl, λ h. cc)

abbrev no_job : WordRefusal → Result JobView Stop
no_job refusal = Err (stop.Word (Fault refusal))

no_fault : (j k : JobView) (o : Option JobFault) → unless_unfit j o ≡ Ok k → o ≡ None
no_fault j k None e = refl
no_fault j k (Some fault) e = cc

pub begun_jobs_are_made : (v : OnfiseqLive) (x : Job) (file : List ℕ) (j : JobView) → IsFileOf file x.text → x.geometry ≡ (state_of v).geometry
    → begin_of v x.lun x.base (length x.buffer) file ≡ Ok j → IsMadeThere v x
begun_jobs_are_made v x file j text geometry e = at (is_live v) e
  where
    s : BusView
    s = state_of v

    none_of : job_fault s x.lun x.base (length x.buffer) x.text.rows x.text.buffer (continues file 0 (length x.text.words)) ≡ None → IsMadeThere v x
    none_of none =
        let m = made_by s x.lun x.base (length x.buffer) x.text.rows x.text.buffer (continues file 0 (length x.text.words)) (is_on s x.lun) (leb (x.base + x.text.rows) (indices s.geometry))
        (length x.buffer == x.text.buffer) (x.base % s.geometry.pages == 0) none in
        let same = continues_is file x.text.words 0 (λ k w h. let here : 0 + k ≡ k = omega arith in ap (word_in file) here ∙ words_are_read file x.text (reading_of file x.text text) k w h) in
        record {
          on = m.0;
          made = record {
            rows = subst (λ (g : Parts). x.base + x.text.rows ≤ indices g) (sym geometry) (grind (arith, nat_tests, m.1));
            buffer = grind (arith, nat_tests, m.2);
            cache = λ c. subst (λ (g : Parts). x.base % g.pages ≡ 0) (sym geometry) (grind (arith, nat_tests, m.3 (same ∙ c)));
          };
        }

    at : (live : Bool) → cond (not live) (Err stop.Damaged)
        (by_result (header_at file) (λ refusal. Err (stop.Word (Fault refusal)))
        (λ h. unless_unfit (fresh_job x.lun x.base (length x.buffer)) (job_fault s x.lun x.base (length x.buffer) h.rows h.buffer (continues file 0 h.words)))) ≡ Ok j → IsMadeThere v x
    at false h = cc
    at true h =
        let told = header_is_read file x.text no_job
        (λ (rows buffer words : ℕ). unless_unfit (fresh_job x.lun x.base (length x.buffer)) (job_fault s x.lun x.base (length x.buffer) rows buffer (continues file 0 words)))
        (reading_of file x.text text) in
        none_of (no_fault (fresh_job x.lun x.base (length x.buffer)) j (job_fault s x.lun x.base (length x.buffer) x.text.rows x.text.buffer (continues file 0 (length x.text.words))) (sym told ∙ h))
