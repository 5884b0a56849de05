use Rattle.std.proofs.Common.{ap, ◌∙◌, arith, drop, take}
use Rattle.die_model.proofs.Images.{keeping_begins, room_to_keep, keeps_entry, keeping_ends}
use Rattle.die_model.proofs.loading.keep_entries.Goals as goal

pub loop-k-init : goal.loop-k-init
loop-k-init g c = keeping_begins c.args.geometry.now c.args.count c.args.entries.now c.args.pages.now c.requires.empty c.requires.length c.requires.inside

pub split_at-requires : goal.split_at-requires
split_at-requires g c =
    let room = room_to_keep c.args.geometry.now c.args.count c.loop-k.k c.loop-k.rest.now c.args.entries.now c.loop-k.pages c.loop-k-test.true c.loop-k.invariant in
    omega (arith, room, c.entry_len-len.ensures.value)

pub loop-k-preserved : goal.loop-k-preserved
loop-k-preserved g c =
    keeps_entry c.args.geometry.now c.args.count c.loop-k.k c.number_at.result c.loop-k.rest.now c.args.entries.now c.split_at.result.1.now c.of_row-at.result c.split_at-in-loop-k.result.1.now c.loop-k.pages c.put.new.self
    c.loop-k-test.true c.number_at.ensures c.of_row-at.ensures.value
    (c.split_at-in-loop-k.ensures.back ∙ ap (λ xs. drop 4 xs) (c.split_at.ensures.front ∙ ap (λ n. take n c.loop-k.rest.now) c.entry_len-len.ensures.value))
    (c.split_at.ensures.back ∙ ap (λ n. drop n c.loop-k.rest.now) c.entry_len-len.ensures.value) c.in_ok-put.ensures c.loop-k.invariant

pub returns-clause-told : goal.returns-clause-told
returns-clause-told g c = keeping_ends c.args.geometry.now c.args.count c.loop-k.k c.loop-k.rest.now c.args.entries.now c.loop-k.pages c.loop-k-test.false c.loop-k.invariant
