use Rattle.std.proofs.Common.{◌≡◌, ◌⊎◌, ◌++◌, ◌∙◌, sym, ap, map, reverse, subst, List, ℕ}
use Rattle.std.specs.Io.KnownBytes.{Appends}
use Rattle.seq_files.specs.declared.new_file.NewFile.{NewFile}
use Rattle.seq_files.specs.Store.{Written, written_of, made_of, with_all}
use Rattle.seq_run.specs.declared.job_ends.EndedJob.{EndedJob}
use Rattle.seq_run.specs.Lines.{job_lines}
use Rattle.seq_run.specs.Timed.{HasTimes, text_of}
use Rattle.seq_run.specs.Written.{printed_trace, codes_of}
use Rattle.seq_run.proofs.Outcomes.{are_made, all_listed, is_done, is_written}
use Rattle.seq_run.proofs.writing.write_run.Goals as goal

pub returns-in-Ok-clause-ok : goal.returns-in-Ok-clause-ok
returns-in-Ok-clause-ok g c =
    let ran = c.args.ran in
    let request = c.args.request in
    let dies = c.into_dies-dies.result.items in
    let before = g.F.Files.store c.args.files.now in
    let timed = c.as_slice-times.result.now in
    let times = subst (HasTimes request.times (reverse ran.bus.past)) (sym c.as_slice-times.ensures.value) c.in_ok-timed.ensures in
    let images = map made_of c.in_ok-images.images.items in
    let trace = map made_of c.in_ok-trace.trace.items in
    let made =
    are_made request ran timed dies c.as_slice-2.result.now c.as_slice-3.result.now images trace c.in_ok-images.ensures c.as_slice-2.ensures.value c.as_slice-3.ensures.value c.in_ok-trace.ensures in
    let all =
    all_listed ran c.as_slice-4.result.now (map written_of c.as_slice-7.result.now) images trace (map made_of c.as_slice-5.result.now) (map made_of c.as_slice-6.result.now)
    (ap (λ (l : List NewFile). map written_of l) c.as_slice-7.ensures.value ∙ c.in_ok-made.ensures)
    c.as_slice-4.ensures.value (ap (λ l. map made_of l) c.as_slice-5.ensures.value) (ap (λ l. map made_of l) c.as_slice-6.ensures.value) in
    is_done request ran dies timed (images ++ trace) before (g.F.Files.store c.write_outcome.new.files)
    (λ (lines : List ℕ). Appends (g.W.Write.contents c.args.output.now) (g.W.Write.contents c.write_outcome.new.output) lines) c.as_str.result.now
    (record { legal = c.trace.ensures.legal; count = c.into_dies-dies.ensures.count; stand = c.into_dies-dies.ensures.dies }) times made
    (c.in-Ok.ensures.files ∙ ap (λ (l : List Written). with_all l before) all)
    (c.as_str.ensures.value
    ∙ c.in_ok-lines.ensures
    ∙ ap (λ (l : List EndedJob). printed_trace request.is_quiet (text_of request.times (reverse ran.bus.past) timed) ++ job_lines 1 (codes_of l)) c.as_slice.ensures.value)
    c.in-Ok.ensures.printed

pub returns-clause-err : goal.returns-clause-err
returns-clause-err g c =
    let ran = c.args.ran in
    let request = c.args.request in
    let dies = c.into_dies-dies.result.items in
    let before = g.F.Files.store c.args.files.now in
    let later = g.F.Files.store c.write_outcome.new.files in
    let timed = c.as_slice-times.result.now in
    let times = subst (HasTimes request.times (reverse ran.bus.past)) (sym c.as_slice-times.ensures.value) c.in_ok-timed.ensures in
    let images = map made_of c.in_ok-images.images.items in
    let trace = map made_of c.in_ok-trace.trace.items in
    let made =
    are_made request ran timed dies c.as_slice-2.result.now c.as_slice-3.result.now images trace c.in_ok-images.ensures c.as_slice-2.ensures.value c.as_slice-3.ensures.value c.in_ok-trace.ensures in
    let all =
    all_listed ran c.as_slice-4.result.now (map written_of c.as_slice-7.result.now) images trace (map made_of c.as_slice-5.result.now) (map made_of c.as_slice-6.result.now)
    (ap (λ (l : List NewFile). map written_of l) c.as_slice-7.ensures.value ∙ c.in_ok-made.ensures)
    c.as_slice-4.ensures.value (ap (λ l. map made_of l) c.as_slice-5.ensures.value) (ap (λ l. map made_of l) c.as_slice-6.ensures.value) in
    is_written request ran dies timed (images ++ trace) before later
    (record { legal = c.trace.ensures.legal; count = c.into_dies-dies.ensures.count; stand = c.into_dies-dies.ensures.dies }) times made
    (subst (λ (l : List Written). (later ≡ before) ⊎ (later ≡ with_all l before)) all c.in-Err.ensures.err)
