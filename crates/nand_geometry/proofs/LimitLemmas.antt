-- Numbers have no fault exactly where they are inside the limits.
use Rattle.std.proofs.Common.{◌≡◌, ◌+◌, ◌≤◌, Bool, true, false, cond, Option, Some, None, refl, arith}
use Rattle.std.proofs.lemmas.Bool.Decides.{nat_tests}
use Rattle.nand_geometry.specs.declared.parts.Parts.{Parts}
use Rattle.nand_geometry.specs.Limits.{width, block_bits, page_bits, planes, has_size_fault, has_lun_fault, has_plane_fault, has_status_fault, fault_of, InLimits, FaultlessAreInLimits}

-- where the answer is none, the first test was false and the rest is none
no_fault : {F : Type 0} (b : Bool) (f : F) (rest : Option F) → cond b (Some f) rest ≡ None → (b ≡ false) × (rest ≡ None)
no_fault true f rest h = cc
no_fault false f rest h = (refl, h)

-- sizes without a fault, size by size
sizes : (g : Parts) → has_size_fault g ≡ false → (512 ≤ g.page_bytes) × (g.page_bytes ≤ 16384) × (g.spare_bytes ≤ 4096) × (1 ≤ g.pages) × (g.pages ≤ 4096) × (1 ≤ g.blocks) × (g.blocks ≤ 65536)
sizes g h = grind (arith, nat_tests)

-- LUNs without a fault, and the bits of a row
luns : (g : Parts) → has_lun_fault g ≡ false → (1 ≤ g.luns) × (g.luns ≤ 4) × (width g.luns + block_bits g + page_bits g ≤ 24)
luns g h = grind (arith, nat_tests)

-- planes without a fault
plane : (g : Parts) → has_plane_fault g ≡ false → (g.plane_bits ≤ 2) × (planes g ≤ g.blocks)
plane g h = grind (arith, nat_tests)

-- several LUNs without a fault
status : (g : Parts) → has_status_fault g ≡ false → 2 ≤ g.luns → g.enhanced ≡ true
status g h several = grind (arith, nat_tests)

-- numbers without a fault are inside the limits
in_limits : (g : Parts) → fault_of g ≡ None → InLimits g
in_limits g h =
    let first = no_fault (has_size_fault g) _ _ h in
    let second = no_fault (has_lun_fault g) _ _ first.1 in
    let third = no_fault (has_plane_fault g) _ _ second.1 in
    let fourth = no_fault (has_status_fault g) _ _ third.1 in
    let size = sizes g first.0 in
    let lun = luns g second.0 in
    let block = plane g third.0 in
    record {
      page_bytes_least = size.0;
      page_bytes_most = size.1;
      spare_bytes_most = size.2;
      pages_least = size.3;
      pages_most = size.4;
      blocks_least = size.5;
      blocks_most = size.6;
      luns_least = lun.0;
      luns_most = lun.1;
      row_bits_most = lun.2;
      plane_bits_most = block.0;
      planes_most = block.1;
      several_enhanced = status g fourth.0;
    }

-- numbers inside the limits have no fault
no_faults : (g : Parts) → InLimits g → fault_of g ≡ None
no_faults g limits =
    let size : has_size_fault g ≡ false = grind (arith, nat_tests) in
    let lun : has_lun_fault g ≡ false = grind (arith, nat_tests) in
    let block : has_plane_fault g ≡ false = grind (arith, nat_tests) in
    let several : has_status_fault g ≡ false = grind (arith, nat_tests) in
    rw (size, lun, block, several) refl

-- both directions
pub faultless : FaultlessAreInLimits
faultless g = (in_limits g, no_faults g)
