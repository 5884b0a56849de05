-- The item that the caller's numbers stand for.
use Rattle.std.specs.Prelude.{ℕ, ◌==◌, Bool, ◌&&◌, ◌||◌, nat_le, if◌then◌else◌, Option, Some, None}
use Rattle.onfi_cycle.specs.declared.item.Kind.{Kind}
use Rattle.onfi_cycle.specs.declared.item.Kind.TheVariants.{Cmd, Adr, Din, Dout}
use Rattle.onfi_cycle.specs.declared.item.Failures.{Failures}
use Rattle.onfi_cycle.specs.declared.item.Item.{Item}
use Rattle.onfi_cycle.specs.declared.item.Item.TheVariants.{Cyc, Rdy, Ard}
use Rattle.bus_record.specs.declared.item.OnfiseqItem.{OnfiseqItem}

-- the letters C, A, I and O
abbrev pub kind_of : ℕ → Option Kind
kind_of c = if c == 67 then Some Cmd else (if c == 65 then Some Adr else (if c == 73 then Some Din else (if c == 79 then Some Dout else None)))

abbrev pub cycle_of : OnfiseqItem → Option Kind → Option Item
cycle_of i (Some kind) = Some (Cyc (record { ce = i.ce; kind = kind; byte = i.byte }))
cycle_of i None = None

-- the failures of R: the low bit is FAIL, the next one FAILC
abbrev pub failures_of : ℕ → Failures
failures_of n = record { last = n == 1 || n == 3; before = nat_le 2 n }

-- R with failure 0 or 1, in the wider profile 0 to 3; Y with 0, in the wider profile 0 or 1; and the cycles, whose failure is 0
abbrev pub item_of : (wide : Bool) → OnfiseqItem → Option Item
item_of wide i =
    if i.kind == 82 && nat_le i.fail (if wide then 3 else 1) then Some (Rdy i.ce i.byte (failures_of i.fail))
    else (if i.kind == 89 && nat_le i.fail (if wide then 1 else 0) then Some (Ard i.ce i.byte (i.fail == 1))
    else (if i.fail == 0 then cycle_of i (kind_of i.kind) else None))
