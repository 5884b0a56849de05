-- How long the times between edges are at the least.
use Rattle.std.specs.Prelude.{ℕ, ◌<◌, ◌^◌}
use Rattle.trace_timing.specs.Wanted.{AreBounded}
use Rattle.edge_timing.specs.declared.edge_timing.EdgeTiming.{EdgeTiming}
use Rattle.edge_timing.specs.declared.edge_timing.EdgeTiming.TheVariants as timing
use Rattle.edge_timing.specs.declared.edge_times.EdgeTimes.{EdgeTimes}

-- each time is below 2 ^ 62 femtoseconds
pub record AreEdgeBounded (t : EdgeTimes) : Type 0 where
  pub shown : AreBounded t.shown
  pub t_wh : t.t_wh < 2 ^ 62
  pub t_reh : t.t_reh < 2 ^ 62
  pub t_ds : t.t_ds < 2 ^ 62
  pub t_dh : t.t_dh < 2 ^ 62
  pub t_cls : t.t_cls < 2 ^ 62
  pub t_clh : t.t_clh < 2 ^ 62
  pub t_als : t.t_als < 2 ^ 62
  pub t_alh : t.t_alh < 2 ^ 62
  pub t_cs : t.t_cs < 2 ^ 62
  pub t_ch : t.t_ch < 2 ^ 62
  pub t_ceh : t.t_ceh < 2 ^ 62
  pub t_ar : t.t_ar < 2 ^ 62
  pub t_clr : t.t_clr < 2 ^ 62

abbrev pub least : EdgeTimes → EdgeTiming → ℕ
least t timing.AddressToInput = t.shown.t_adl
least t timing.AleHold = t.t_alh
least t timing.AleSetup = t.t_als
least t timing.AleToRead = t.t_ar
least t timing.ColumnChange = t.shown.t_ccs
least t timing.EnableHigh = t.t_ceh
least t timing.EnableHold = t.t_ch
least t timing.CleHold = t.t_clh
least t timing.CleToRead = t.t_clr
least t timing.CleSetup = t.t_cls
least t timing.EnableSetup = t.t_cs
least t timing.DataHold = t.t_dh
least t timing.DataSetup = t.t_ds
least t timing.ReadCycle = t.shown.t_rc
least t timing.ReadHigh = t.t_reh
least t timing.OutputToCommand = t.shown.t_rhw
least t timing.ReadPulse = t.shown.t_rp
least t timing.ReadyToOutput = t.shown.t_rr
least t timing.ToBusy = t.shown.t_wb
least t timing.WriteCycle = t.shown.t_wc
least t timing.WriteHigh = t.t_wh
least t timing.ToOutput = t.shown.t_whr
least t timing.WritePulse = t.shown.t_wp
