use Rattle.std.proofs.Common.{◌∙◌, ◌<◌, ◌∷◌, ◌++◌, [], List, sym, ap, subst, length, arith}
use Rattle.lun_lease.specs.Lease.{Seated}
use Rattle.channel_work.specs.Rows.{somes, AreSome}
use Rattle.channel_work.proofs.Places.{somes_length, somes_push, some_push}
use Rattle.channel_work.proofs.seats.Seats.push.Goals as goal

pub push-requires : goal.push-requires
push-requires c =
    let low : length (somes c.self.inside.slots.items) < 16 = subst (λ (xs : List Seated). length xs < 16) (sym c.self.view_is) c.requires in
    (omega arith, subst (λ n. n < 16) (somes_length c.self.inside.slots.items c.self.invariant) low)

pub invariant_of-self : goal.invariant_of-self
invariant_of-self c = subst AreSome (sym c.push.ensures.items) (some_push c.self.inside.slots.items c.args.seat c.self.invariant)

pub returns : goal.returns
returns c = ap somes c.push.ensures.items ∙ (somes_push c.self.inside.slots.items c.args.seat ∙ ap (λ (xs : List Seated). xs ++ (c.args.seat ∷ [])) c.self.view_is)
