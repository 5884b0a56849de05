use Rattle.std.proofs.Common.{◌≡◌, sym, ap, ◌∙◌, arith}
use Rattle.lun_lease.proofs.Moves.{lends_as, lays_beside_as, compares, puts_aside, takes_back_as}
use Rattle.lun_lease.proofs.lease.Lease.tell_apart.Goals as goal

pub split_seat-lent-requires : goal.split_seat-lent-requires
split_seat-lent-requires g c =
    let i = c.self.invariant.0 in
    let j = c.other.invariant.0 in
    let at = i.same ∙ sym (ap (λ t. t.shared.table_id) c.deref.ensures) in
    let one_table = ap (λ v. v.table) c.other.view_is ∙ sym c.requires ∙ sym (ap (λ v. v.table) c.self.view_is) in
    (one_table ∙ at, omega (arith, i.wide, ap (λ t. t.shared.table_id.words) c.deref.ensures), lends_as _ _ _ _ (ap (λ m. m.0) j.now))

pub join_seat-requires : goal.join_seat-requires
join_seat-requires g c =
    let i = c.self.invariant.0 in
    let j = c.other.invariant.0 in
    let e = c.split_seat-lent.ensures in
    let lent = e.4 in
    let at = i.same ∙ sym (ap (λ t. t.shared.table_id) c.deref-2.ensures) in
    let one_table = ap (λ v. v.table) c.other.view_is ∙ sym c.requires ∙ sym (ap (λ v. v.table) c.self.view_is) in
    (at, e.3 ∙ one_table ∙ at, ap (λ m. m.1) lent, omega (arith, i.wide, ap (λ t. t.shared.table_id.words) c.deref-2.ensures), lays_beside_as _ _ _ _ _ _ _ (ap (λ m. m.0) i.now) (ap (λ m. m.0) lent))

pub load-requires : goal.load-requires
load-requires g c =
    let i = c.self.invariant.0 in
    let e = c.join_seat.ensures in
    let at = i.same ∙ sym (ap (λ t. t.shared.table_id) c.deref-3.ensures) in
    (e.0 ∙ at, omega (arith, i.wide, ap (λ t. t.shared.table_id.words) c.deref-3.ensures), compares _ _ _ _)

pub split_seat-lent-requires-2 : goal.split_seat-lent-requires-2
split_seat-lent-requires-2 g c =
    let i = c.self.invariant.0 in
    let at = i.same ∙ sym (ap (λ t. t.shared.table_id) c.deref-4.ensures) in
    let loaded = ap (λ m. m.0.parts) c.load.ensures.2.0 in
    let joined = ap (λ m. m.0.parts) c.join_seat.ensures.2 in
    let own = ap (λ m. m.0.parts) i.now in
    let lent = ap (λ m. m.0.parts) c.split_seat-lent.ensures.4 in
    let two : c.load.new.seat.me.0.parts ≡ 2 = omega (arith, loaded, joined, own, lent) in
    (c.load.ensures.0 ∙ c.join_seat.ensures.0 ∙ at, omega (arith, i.wide, ap (λ t. t.shared.table_id.words) c.deref-4.ensures), puts_aside _ _ two)

pub join_seat-requires-2 : goal.join_seat-requires-2
join_seat-requires-2 g c =
    let i = c.self.invariant.0 in
    let e = c.split_seat-lent.ensures in
    let f = c.split_seat-lent-2.ensures in
    let lent = f.4 in
    let at = i.same ∙ sym (ap (λ t. t.shared.table_id) c.deref-5.ensures) in
    let one_table = ap (λ v. v.table) c.other.view_is ∙ sym c.requires ∙ sym (ap (λ v. v.table) c.self.view_is) in (
      e.0 ∙ one_table ∙ at,
      f.3 ∙ c.load.ensures.0 ∙ c.join_seat.ensures.0 ∙ at,
      ap (λ m. m.1) lent,
      omega (arith, i.wide, ap (λ t. t.shared.table_id.words) c.deref-5.ensures),
      takes_back_as _ _ _ _ _ _ (ap (λ m. m.0) e.2) (ap (λ m. m.0) lent),
    )
