use Rattle.std.proofs.Common.{◌≤◌, ◌∙◌, subst}
use Rattle.nand_geometry.specs.declared.parts.Parts.{Parts}
use Rattle.seq_core.proofs.Played.{own_single}
use Rattle.seq_core.proofs.playing.poll.Goals as goal

pub poll_one-requires : goal.poll_one-requires
poll_one-requires g c =
    let few : c.args.bus.now.geometry.luns ≤ 1 = subst (λ (p : Parts). p.luns ≤ 1) (c.parts.ensures.value ∙ c.geometry-geometry.ensures.value) c.if-parts-gt1.false in
    record { own = own_single c.args.bus.now c.args.lun c.requires.moved few c.requires.is_moved c.requires.own }
