-- The readies that an item shows are on its target, of one of four LUNs.
use Rattle.std.proofs.Common.{◌≡◌, ◌≤◌, ℕ, true, false, Bool, Option, Some, None, refl, subst, arith, cond, not, ◌&&◌}
use Rattle.onfi_cycle.specs.declared.item.Item.{Item}
use Rattle.onfi_cycle.specs.declared.item.Item.TheVariants.{Cyc, Rdy, Ard}
use Rattle.onfi_cycle.specs.declared.lun_state.LunState.{LunState}
use Rattle.trace_faults.specs.declared.trace_state.TraceState.{TraceState}
use Rattle.onfi_cycle.specs.Look.{looked}
use Rattle.trace_faults.specs.Inside.{IsInside}
use Rattle.trace_faults.specs.Outside.{is_status}
use Rattle.trace_faults.specs.Denied.{only_one, lun_drives, driving_lun, has_ready}
use Rattle.trace_faults.specs.ShownReadies.{ready_before, array_ready_before, ready_at, array_ready_at, ready_of, array_ready_of, has_array_ready, shown_failures, shown_array_failure, is_output_inside}

pub only_four : (a b c d : Bool) (n : ℕ) → only_one a b c d ≡ Some n → n ≤ 3
only_four true false false false n h = let same : n ≡ 0 = cc in omega (arith, same)
only_four false true false false n h = let same : n ≡ 1 = cc in omega (arith, same)
only_four false false true false n h = let same : n ≡ 2 = cc in omega (arith, same)
only_four false false false true n h = let same : n ≡ 3 = cc in omega (arith, same)
only_four true true c d n h = cc
only_four true false true d n h = cc
only_four true false false true n h = cc
only_four false false true true n h = cc
only_four false true true d n h = cc
only_four false true false true n h = cc
only_four false false false false n h = cc

only_then : (b : Bool) (o : Option Item) (r : Item) → cond b o None ≡ Some r → o ≡ Some r
only_then true o r h = h
only_then false o r h = cc

only_some : (b : Bool) (x r : Item) → cond b (Some x) None ≡ Some r → x ≡ r
only_some true x r h = cc
only_some false x r h = cc

pub ready_inside : (s : TraceState) (i r : Item) → IsInside i → ready_before s i ≡ Some r → IsInside r
ready_inside s (Cyc c) r p h = at (driving_lun s.bus c.ce) refl (only_then (is_output_inside s c) (ready_at s.bus c.ce (driving_lun s.bus c.ce) c.byte) r h)
  where
    of : (number : ℕ) (o : Option LunState) → number ≤ 3 → ready_of s.bus.geometry o c.ce number c.byte ≡ Some r → IsInside r
    of number None few g = cc
    of number (Some lun) few g =
        subst IsInside (only_some (is_status lun.latch && (lun.busy && has_ready c.byte)) (Rdy c.ce number (shown_failures s.bus.geometry lun c.byte)) r g) (p, few)

    at : (o : Option ℕ) → driving_lun s.bus c.ce ≡ o → ready_at s.bus c.ce o c.byte ≡ Some r → IsInside r
    at None e g = cc
    at (Some number) e g = of number (looked s.bus (record { ce = c.ce; lun = number }))
        (only_four (lun_drives s.bus c.ce 0) (lun_drives s.bus c.ce 1) (lun_drives s.bus c.ce 2) (lun_drives s.bus c.ce 3) number e) g
ready_inside s (Rdy ce lun fail) r p h = cc
ready_inside s (Ard ce lun fail) r p h = cc

pub array_ready_inside : (s : TraceState) (i r : Item) → IsInside i → array_ready_before s i ≡ Some r → IsInside r
array_ready_inside s (Cyc c) r p h = at (driving_lun s.bus c.ce) refl (only_then (is_output_inside s c) (array_ready_at s.bus c.ce (driving_lun s.bus c.ce) c.byte) r h)
  where
    of : (number : ℕ) (o : Option LunState) → number ≤ 3 → array_ready_of o c.ce number c.byte ≡ Some r → IsInside r
    of number None few g = cc
    of number (Some lun) few g =
        subst IsInside (only_some (is_status lun.latch && (not lun.busy && (lun.array_busy && (has_ready c.byte && has_array_ready c.byte)))) (Ard c.ce number (shown_array_failure lun c.byte)) r g) (p, few)

    at : (o : Option ℕ) → driving_lun s.bus c.ce ≡ o → array_ready_at s.bus c.ce o c.byte ≡ Some r → IsInside r
    at None e g = cc
    at (Some number) e g = of number (looked s.bus (record { ce = c.ce; lun = number }))
        (only_four (lun_drives s.bus c.ce 0) (lun_drives s.bus c.ce 1) (lun_drives s.bus c.ce 2) (lun_drives s.bus c.ce 3) number e) g
array_ready_inside s (Rdy ce lun fail) r p h = cc
array_ready_inside s (Ard ce lun fail) r p h = cc
