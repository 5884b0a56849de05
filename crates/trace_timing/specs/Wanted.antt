-- How long a cycle comes after what is before it at the least, from the rise of one strobe to the rise of the next.
use Rattle.std.specs.Prelude.{ℕ, ◌+◌, ◌<◌, ◌^◌, Bool, true, Option, Some, None, if◌then◌else◌}
use Rattle.onfi_cycle.specs.declared.item.Kind.{Kind}
use Rattle.onfi_cycle.specs.declared.item.Kind.TheVariants.{Cmd, Adr, Din, Dout}
use Rattle.onfi_pauses.specs.declared.pause.Pause.{Pause}
use Rattle.onfi_pauses.specs.declared.pause.Pause.TheVariants as pause
use Rattle.onfi_pauses.specs.declared.pause.LastCycle.{LastCycle}
use Rattle.onfi_pauses.specs.declared.pause.LastCycle.TheVariants as last
use Rattle.onfi_pauses.specs.Pauses.{of_cycle}
use Rattle.trace_timing.specs.declared.timing_fault.TimingFault.{TimingFault}
use Rattle.trace_timing.specs.declared.timing_fault.TimingFault.TheVariants as fault
use Rattle.trace_timing.specs.declared.timings.Timings.{Timings}
use Rattle.trace_timing.specs.declared.timings.Want.{Want}

-- each time is below 2 ^ 62 femtoseconds
pub record AreBounded (t : Timings) : Type 0 where
  pub t_adl : t.t_adl < 2 ^ 62
  pub t_whr : t.t_whr < 2 ^ 62
  pub t_ccs : t.t_ccs < 2 ^ 62
  pub t_rhw : t.t_rhw < 2 ^ 62
  pub t_rr : t.t_rr < 2 ^ 62
  pub t_wb : t.t_wb < 2 ^ 62
  pub t_wc : t.t_wc < 2 ^ 62
  pub t_rc : t.t_rc < 2 ^ 62
  pub t_wp : t.t_wp < 2 ^ 62
  pub t_rp : t.t_rp < 2 ^ 62

abbrev pub want : TimingFault → ℕ → Want
want fault least = record { fault = fault; least = least }

-- a change of the column: to an output RE# falls after it, to an input WE# rises
abbrev pub least_of_column : Timings → Kind → ℕ
least_of_column t Cmd = t.t_ccs
least_of_column t Adr = t.t_ccs
least_of_column t Din = t.t_ccs
least_of_column t Dout = t.t_ccs + t.t_rp

-- a pause that ends where the strobe falls has the pulse besides, since a trace has the rise
abbrev pub want_of : Timings → Pause → Kind → Want
want_of t pause.AddressToInput kind = want fault.AddressToInput t.t_adl
want_of t pause.ToOutput kind = want fault.ToOutput (t.t_whr + t.t_rp)
want_of t pause.ColumnChange kind = want fault.ColumnChange (least_of_column t kind)
want_of t pause.OutputToCommand kind = want fault.OutputToCommand (t.t_rhw + t.t_wp)
want_of t pause.ToBusy kind = want fault.ToBusy t.t_wb
want_of t pause.ReadyToOutput kind = want fault.ReadyToOutput (t.t_rr + t.t_rp)

-- where there is no pause, the period of the strobe
abbrev pub want_of_strobe : Timings → Kind → Want
want_of_strobe t Cmd = want fault.WriteCycle t.t_wc
want_of_strobe t Adr = want fault.WriteCycle t.t_wc
want_of_strobe t Din = want fault.WriteCycle t.t_wc
want_of_strobe t Dout = want fault.ReadCycle t.t_rc

-- an address before the first command may be one of 85h: no pause is known before its data
abbrev pub is_known : (has_command : Bool) → Pause → Bool
is_known has_command pause.AddressToInput = has_command
is_known has_command pause.ToOutput = true
is_known has_command pause.ColumnChange = true
is_known has_command pause.OutputToCommand = true
is_known has_command pause.ToBusy = true
is_known has_command pause.ReadyToOutput = true

abbrev pub cycle_want_by : Timings → (has_command : Bool) → LastCycle → Kind → Option Pause → Option Want
cycle_want_by t has_command l kind (Some p) = Some (if is_known has_command p then want_of t p kind else want_of_strobe t kind)
cycle_want_by t has_command last.Nothing kind None = None
cycle_want_by t has_command (last.Command c) kind None = Some (want_of_strobe t kind)
cycle_want_by t has_command (last.Address c) kind None = Some (want_of_strobe t kind)
cycle_want_by t has_command last.Input kind None = Some (want_of_strobe t kind)
cycle_want_by t has_command (last.FeatureByte number) kind None = Some (want_of_strobe t kind)
cycle_want_by t has_command last.Output kind None = Some (want_of_strobe t kind)

-- what is wanted since the last cycle of the target, beside tWB
abbrev pub cycle_want : Timings → (has_command : Bool) → LastCycle → Kind → Option Want
cycle_want t has_command l kind = cycle_want_by t has_command l kind (of_cycle l kind)

abbrev pub pause_want : Timings → Kind → Option Pause → Option Want
pause_want t kind None = None
pause_want t kind (Some p) = Some (want_of t p kind)
