use Rattle.std.proofs.Common.{sym, ap, ◌∙◌, arith}
use Rattle.lun_lease.proofs.Steps.{claims_as}
use Rattle.lun_lease.proofs.lease.LeaseSeat.claim.Goals as goal

pub compare_exchange-found-requires : goal.compare_exchange-found-requires
compare_exchange-found-requires g c =
    let i = c.self.invariant in
    let words = i.wide in
    let same = ap (λ t. t.shared.table_id.words) c.deref.ensures in
    (i.same ∙ sym (ap (λ t. t.shared.table_id) c.deref.ensures), omega (arith, words, same, c.requires), claims_as _ _ _ _ _ c.requires i.now)
