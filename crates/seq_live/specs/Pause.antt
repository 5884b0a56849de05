-- What the pauses before a burst go by: the last cycle of its target, and whether R/B# has shown a ready since.
use Rattle.std.specs.Prelude.{true, false}
use Rattle.onfi_cycle.specs.declared.item.Kind.{Kind}
use Rattle.onfi_cycle.specs.declared.item.Kind.TheVariants.{Cmd, Adr, Din, Dout}
use Rattle.onfi_pauses.specs.declared.pause.LastCycle.TheVariants as last
use Rattle.onfi_pauses.specs.declared.pause.Pauses.{Pauses}
use Rattle.onfi_pauses.specs.Pauses.{last_after, pauses_before as pauses_before_cycle}
use Rattle.seq_live.specs.declared.burst.Burst.{Burst}
use Rattle.seq_live.specs.declared.burst.Burst.TheVariants.{Command, Address, Input, Output}
use Rattle.seq_live.specs.declared.pause.LastOnTarget.{LastOnTarget}

-- nothing has come on the target
abbrev pub nothing : LastOnTarget
nothing = record { cycle = last.Nothing; is_ready = false }

-- the cycles of a burst are of one kind
abbrev pub kind_of : Burst → Kind
kind_of (Command ce byte) = Cmd
kind_of (Address ce five from count) = Adr
kind_of (Input ce place len) = Din
kind_of (Output ce len) = Dout

-- once a burst is done: its last cycle is the last, and no ready has come since
abbrev pub after : LastOnTarget → Burst → LastOnTarget
after l (Command ce byte) = record { cycle = last_after l.cycle Cmd byte; is_ready = false }
after l (Address ce five from count) = record { cycle = last_after l.cycle Adr 0; is_ready = false }
after l (Input ce place len) = record { cycle = last_after l.cycle Din 0; is_ready = false }
after l (Output ce len) = record { cycle = last_after l.cycle Dout 0; is_ready = false }

-- once R/B# has shown a ready: the last cycle stays
abbrev pub after_ready : LastOnTarget → LastOnTarget
after_ready l = record l { is_ready = true }

-- the pauses before the first cycle of a burst
abbrev pub pauses_before : LastOnTarget → Burst → Pauses
pauses_before l burst = pauses_before_cycle l.cycle l.is_ready (kind_of burst)
