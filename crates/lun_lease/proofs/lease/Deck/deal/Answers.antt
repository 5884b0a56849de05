use Rattle.std.proofs.Common.{ℕ, ◌<◌, sym, ap, ◌∙◌, subst, arith}
use Rattle.lun_lease.proofs.Moves.{deals_as}
use Rattle.lun_lease.proofs.lease.Deck.deal.Goals as goal

pub split_seat-seat-requires : goal.split_seat-seat-requires
split_seat-seat-requires g c =
    let i = c.self.invariant in
    let wide = i.wide in
    let table = c.in_ok-table.ensures in
    let at = c.deref.ensures ∙ table in
    let words = ap (λ t. t.shared.table_id.words) at in
    (i.same ∙ sym (ap (λ t. t.shared.table_id) at), omega (arith, wide, words), deals_as _ _ _ _ (ap (λ m. m.0) i.now) (subst (λ (n : ℕ). 0 < n) (sym (ap (λ d. d.left) c.self.view_is)) c.requires))
