use Rattle.std.proofs.Common.{◌∙◌, ◌<◌, ◌∷◌, ◌++◌, [], List, sym, ap, subst, length, arith}
use Rattle.lun_lease.specs.Lease.{Leased}
use Rattle.channel_work.specs.Rows.{somes, AreSome}
use Rattle.channel_work.proofs.Places.{somes_length, somes_push, some_push}
use Rattle.channel_work.proofs.park.Park.push.Goals as goal

pub push-requires : goal.push-requires
push-requires c =
    let low : length (somes c.self.inside.slots.items) < 8 = subst (λ (xs : List Leased). length xs < 8) (sym c.self.view_is) c.requires in
    (omega arith, subst (λ n. n < 8) (somes_length c.self.inside.slots.items c.self.invariant) low)

pub invariant_of-self : goal.invariant_of-self
invariant_of-self c = subst AreSome (sym c.push.ensures.items) (some_push c.self.inside.slots.items c.args.lease c.self.invariant)

pub returns : goal.returns
returns c = ap somes c.push.ensures.items ∙ (somes_push c.self.inside.slots.items c.args.lease ∙ ap (λ (xs : List Leased). xs ++ (c.args.lease ∷ [])) c.self.view_is)
