use Rattle.std.proofs.Common.{◌≡◌, ℕ, ◌+◌, ◌-◌, ap, arith}
use Rattle.onfi_cycle.specs.declared.item.Kind.TheVariants.{Adr, Din}
use Rattle.micro_program.specs.Moves.{part}
use Rattle.seq_live.proofs.Moves.{given_all, taken_all, by_burst}
use Rattle.seq_live.proofs.moving.apply.Goals as goal

pub returns-in-Address : goal.returns-in-Address
returns-in-Address c =
    by_burst c.args.state.now c.give_addresses.new.state c.args.lun.ce c.args.buffer.now c.args.burst _ c.in-Address.is
    (λ bytes size. given_all c.args.state.now c.give_addresses.new.state c.args.lun.ce Adr _ _ bytes c.address_bytes.ensures c.give_addresses.ensures size)

pub returns-in-Input : goal.returns-in-Input
returns-in-Input c =
    let only : c.in-Input.place + c.in-Input.len - c.in-Input.place ≡ c.in-Input.len = omega arith in
    let slice = ap (λ (n : ℕ). part c.in-Input.place n c.args.buffer.now) only in
    by_burst c.args.state.now c.feed.new.state c.args.lun.ce c.args.buffer.now c.args.burst _ c.in-Input.is
    (λ bytes size. given_all c.args.state.now c.feed.new.state c.args.lun.ce Din (part c.in-Input.place c.in-Input.len c.args.buffer.now) _ bytes slice c.feed.ensures size)

pub returns-in-Output : goal.returns-in-Output
returns-in-Output c =
    by_burst c.args.state.now c.take.new.state c.args.lun.ce c.args.buffer.now c.args.burst _ c.in-Output.is
    (λ bytes size. taken_all c.args.state.now c.take.new.state c.args.lun.ce c.in-Output.len bytes c.take.ensures size)
