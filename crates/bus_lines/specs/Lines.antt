-- The lines of a bus before, in and after a cycle.
use Rattle.std.specs.Prelude.{Bool, true, false, if◌then◌else◌, Some, None}
use Rattle.onfi_cycle.specs.declared.item.Cycle.{Cycle}
use Rattle.onfi_cycle.specs.declared.item.Kind.{Kind}
use Rattle.onfi_cycle.specs.declared.item.Kind.TheVariants.{Cmd, Adr, Dout}
use Rattle.onfi_cycle.specs.declared.item.Item.{Item}
use Rattle.onfi_cycle.specs.declared.item.Item.TheVariants.{Cyc, Rdy, Ard}
use Rattle.bus_lines.specs.declared.lines.Lines.{Lines}

abbrev pub is_cmd : Kind → Bool
is_cmd Cmd = true
is_cmd _ = false

abbrev pub is_adr : Kind → Bool
is_adr Adr = true
is_adr _ = false

abbrev pub is_dout : Kind → Bool
is_dout Dout = true
is_dout _ = false

-- the die drives the bus in this cycle
abbrev pub is_output : Cycle → Bool
is_output c = is_dout c.kind

-- nothing is enabled, both strobes are high, and nobody has driven the bus
abbrev pub idle : Lines
idle = record { enabled = None; cle = false; ale = false; we = true; re = true; dq = None }

-- a cycle is set up: its target, its kind, and what goes to the die
abbrev pub set_up : Lines → Cycle → Lines
set_up l c = record l { enabled = Some c.ce; cle = is_cmd c.kind; ale = is_adr c.kind; dq = if is_output c then l.dq else Some c.byte }

-- its strobe is low, and an output stands on the bus
abbrev pub struck : Lines → Cycle → Lines
struck l c = if is_output c then record l { re = false; dq = Some c.byte } else record l { we = false }

-- both strobes are high
abbrev pub released : Lines → Lines
released l = record l { we = true; re = true }

-- nothing is enabled any more
abbrev pub at_rest : Lines → Lines
at_rest l = record l { enabled = None }

-- what an item leaves of the lines
abbrev pub lines_after : Lines → Item → Lines
lines_after l (Cyc c) = released (struck (set_up l c) c)
lines_after l (Rdy _ _ _) = l
lines_after l (Ard _ _ _) = l
