use Rattle.std.proofs.Common.{sym, ap, ◌∙◌, arith}
use Rattle.lun_lease.proofs.Steps.{releases_as}
use Rattle.lun_lease.proofs.lease.Lease+Idle+A.release.Goals as goal

pub store-requires : goal.store-requires
store-requires g c =
    let i = c.self.invariant.0 in
    let words = i.wide in
    let same = ap (λ t. t.shared.table_id.words) c.deref.ensures in
    (i.same ∙ sym (ap (λ t. t.shared.table_id) c.deref.ensures), omega (arith, words, same, c.self.invariant.1), releases_as _ _ _ _ _ c.self.invariant.1 i.now)
