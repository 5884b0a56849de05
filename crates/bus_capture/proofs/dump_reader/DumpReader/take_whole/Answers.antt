use Rattle.std.proofs.Common.{rules, ◌≡◌, [], ◌++◌, take, drop, ap}
use Rattle.vcd_text.specs.Words.{words_from, lines_from, IsCut}
use Rattle.vcd_text.specs.Shown.{told_before, standing_of}
use Rattle.bus_capture.specs.Tracing.{traced, dump_after}
use Rattle.bus_capture.proofs.Tracing.{goes_on, stands, joined_again, same_refusal}
use Rattle.bus_capture.proofs.dump_reader.DumpReader.take_whole.Goals as goal

pub returns-in_ok-left-in-Ok-take_events-clause-ok : goal.returns-in_ok-left-in-Ok-take_events-clause-ok
returns-in_ok-left-in-Ok-take_events-clause-ok g c =
    let front : c.with-body.result.words.rest.now ≡ take c.whole_len-count.result c.args.self.now.left.items = search rules in
    let cut : IsCut (take c.whole_len-count.result c.args.self.now.left.items) = search rules in
    let left : c.in_ok-left-in-Ok-take_events.left.items ≡ c.take_events.new.body.words.rest.now ++ drop c.whole_len-count.result c.args.self.now.left.items = search rules in
    let standing : c.standing-self.result ≡ standing_of c.take_events.new.body = search rules in
    goes_on c.args.self.now.widths c.args.self.now.standing c.standing-self.result c.with-body.result c.take_events.new.body c.args.self.now.left.items c.in_ok-left-in-Ok-take_events.left.items
    (take c.whole_len-count.result c.args.self.now.left.items) (drop c.whole_len-count.result c.args.self.now.left.items) c.args.self.now.tracer c.take_events.new.tracer c.with-body.ensures.standing front
    (joined_again c.whole_len-count.result c.args.self.now.left.items) cut standing left c.in-Ok-take_events.ensures.goes_on c.in-Ok-take_events.ensures.ok

pub returns-in-Err-clause-err : goal.returns-in-Err-clause-err
returns-in-Err-clause-err g c =
    let front : c.with-body.result.words.rest.now ≡ take c.whole_len-count.result c.args.self.now.left.items = search rules in
    let cut : IsCut (take c.whole_len-count.result c.args.self.now.left.items) = search rules in
    λ stamped rest. same_refusal c.in-Err.refusal (dump_after c.args.self.now stamped rest)
    (traced c.args.self.now.tracer stamped (told_before c.args.self.now.widths c.with-body.result (words_from (lines_from c.with-body.result.words.line c.with-body.result.words.rest.now) [] (drop c.whole_len-count.result c.args.self.now.left.items ++ rest))))
    (ap (traced c.args.self.now.tracer stamped) (stands c.args.self.now.widths c.args.self.now.standing c.with-body.result c.args.self.now.left.items (take c.whole_len-count.result c.args.self.now.left.items)
    (drop c.whole_len-count.result c.args.self.now.left.items) rest c.with-body.ensures.standing front (joined_again c.whole_len-count.result c.args.self.now.left.items) cut))
    (c.in-Err.ensures.err stamped (words_from (lines_from c.with-body.result.words.line c.with-body.result.words.rest.now) [] (drop c.whole_len-count.result c.args.self.now.left.items ++ rest)))
