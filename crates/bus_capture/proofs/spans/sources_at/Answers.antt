use Rattle.std.proofs.Common.{rules, ◌≡◌, take, drop, get_or, ap, ◌∙◌, arith}
use Rattle.bus_capture.specs.declared.spans.Span.{Span}
use Rattle.bus_capture.specs.Sampling.{with_change}
use Rattle.bus_capture.proofs.Spanning.{span_of}
use Rattle.bus_capture.proofs.spans.sources_at.Goals as goal

abbrev blank : Span
blank = record { first = 0; behind = 0 }

pub split_at-requires : goal.split_at-requires
split_at-requires c = (span_of c.args.sources.now c.args.code c.args.spans.now blank c.requires c.if-code-spans.false).behind

pub split_at-requires-2 : goal.split_at-requires-2
split_at-requires-2 c =
    let is = span_of c.args.sources.now c.args.code c.args.spans.now blank c.requires c.if-code-spans.false in
    omega (arith, is.first, c.split_at.ensures.front_len)

pub returns : goal.returns
returns c =
    let is = span_of c.args.sources.now c.args.code c.args.spans.now blank c.requires c.if-code-spans.false in
    let lines : c.split_at-2.result.1.now ≡ drop (get_or c.args.spans.now c.args.code blank).first (take (get_or c.args.spans.now c.args.code blank).behind c.args.sources.now) = search rules in
    λ bits levels. ap (λ ls. with_change ls c.args.code bits levels) lines ∙ is.keeps bits levels
