use Rattle.std.proofs.Common.{◌≡◌, length, sym, arith}
use Rattle.onfi_cycle.proofs.HeldPages.{take_full}
use Rattle.onfi_cycle.proofs.held.hold_page.Goals as goal

pub returns-else-len-lt-MAX_PLANES : goal.returns-else-len-lt-MAX_PLANES
returns-else-len-lt-MAX_PLANES c =
    let full : length c.args.held.now.items ≡ 4 = omega (arith, c.requires, c.if-len-lt-MAX_PLANES.false, c.len.ensures.value) in
    sym (take_full 4 c.args.held.now.items _ full)
