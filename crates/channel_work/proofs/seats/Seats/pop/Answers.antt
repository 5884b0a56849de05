use Rattle.std.proofs.Common.{◌≡◌, ◌∙◌, ◌≤◌, ◌+◌, ◌∷◌, ◌++◌, [], Option, sym, ap, subst, length, arith}
use Rattle.lun_lease.specs.Lease.{Seated}
use Rattle.channel_work.specs.Rows.{somes, AreSome}
use Rattle.channel_work.proofs.Places.{somes_length, somes_push, some_front, none_last}
use Rattle.channel_work.proofs.seats.Seats.pop.Goals.{in-None, in-Some-Some}
use Rattle.channel_work.proofs.seats.Seats.pop.Goals as goal

pub unreachable-requires : goal.unreachable-requires
unreachable-requires c =
    none_last c.pop.new.self.items (subst AreSome (c.in-Some-None.ensures.items ∙ ap (λ (o : Option Seated). c.pop.new.self.items ++ (o ∷ [])) c.in-Some-None.field-0-is) c.self.invariant)

pub invariant_of-self : goal.invariant_of-self
invariant_of-self c =
    elim c.match-pop.branch [
      | in-None w ↦ let e = w.in-None in subst AreSome (ap (λ q. q.items) (sym w.in-None.ensures.empty)) c.self.invariant
      | in-Some-Some w ↦ some_front c.pop.new.self.items w.in-Some-Some.field-0 (subst AreSome w.in-Some-Some.ensures.items c.self.invariant)
    ]

pub returns-clause-some : goal.returns-clause-some
returns-clause-some c =
    elim c.match-pop.branch [
      | in-None w ↦ rw w.result-is tt
      | in-Some-Some w ↦ rw w.result-is (sym c.self.view_is ∙ (ap somes (w.in-Some-Some.ensures.items ∙ ap (λ (o : Option Seated). c.pop.new.self.items ++ (o ∷ [])) w.in-Some-Some.field-0-is) ∙ somes_push c.pop.new.self.items w.in-Some-Some.seat))
    ]

pub returns-clause-room : goal.returns-clause-room
returns-clause-room c =
    elim c.match-pop.branch [
      | in-None w ↦ rw w.result-is tt
      | in-Some-Some w ↦
          let inside = somes_length c.pop.new.self.items (some_front c.pop.new.self.items w.in-Some-Some.field-0 (subst AreSome w.in-Some-Some.ensures.items c.self.invariant)) in
          let fits : c.len-len.result ≤ 16 = c.len-len.ensures.fits in
          let len = c.len-len.ensures.value in
          let less : length c.pop.new.self.items + 1 ≡ length c.self.inside.slots.items = w.in-Some-Some.ensures.len in
          rw w.result-is (omega (arith, inside, fits, len, less))
    ]
