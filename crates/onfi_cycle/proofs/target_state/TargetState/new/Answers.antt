use Rattle.std.proofs.Common.{◌<◌, length, arith, false}
use Rattle.nand_geometry.specs.declared.parts.Parts.{Parts}
use Rattle.nand_geometry.specs.Optional.{no_optional}
use Rattle.onfi_cycle.proofs.Following.{more_luns, luns_so_far, fresh_target}
use Rattle.onfi_cycle.proofs.target_state.TargetState.new.Goals as goal

-- any geometry will do here
some_geometry : Parts
some_geometry = record { page_bytes = 0; spare_bytes = 0; pages = 0; blocks = 0; luns = 0; plane_bits = 0; enhanced = false; multi_plane = false; cache = false; optional = no_optional }

pub push-requires : goal.push-requires
push-requires c =
    let same = luns_so_far some_geometry c.loop-number.luns.items c.loop-number.number c.loop-number.invariant in
    let below : length c.loop-number.luns.items < 4 = omega (arith, c.loop-number-test.true, c.requires) in
    (omega arith, below)

pub loop-number-preserved : goal.loop-number-preserved
loop-number-preserved c = more_luns c.loop-number.luns.items _ c.loop-number.number c.fresh.result c.loop-number.invariant c.fresh.ensures c.push.ensures.items

pub returns : goal.returns
returns c = fresh_target c.none.result c.loop-number.luns.items c.loop-number.number c.args.count c.none.ensures.value c.loop-number.invariant (omega (arith, c.loop-number-test.false, c.loop-number.auto.number-end))
