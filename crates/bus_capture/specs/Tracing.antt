-- What is still to come of a capture that is read in pieces.
use Rattle.std.specs.Prelude.{◌≡◌, ⊤, ◌≤◌, ℕ, ◌+◌, ◌-◌, ◌^◌, min, length, Bool, true, false, List, [], ◌++◌, Option, Some, None, Result, Ok, Err}
use Rattle.vcd_text.specs.Tokens.{◌>>=◌}
use Rattle.vcd_text.specs.Words.{Word, IsCut}
use Rattle.vcd_text.specs.Header.{Read}
use Rattle.vcd_text.specs.Body.{Told, told_from}
use Rattle.vcd_text.specs.Shown.{told_at}
use Rattle.vcd_text.specs.Dumps.{beginning}
use Rattle.csv_text.specs.Rows.{rows, MayFollow as MayFollowLines}
use Rattle.csv_text.specs.Table.{Table, table_of, no_names}
use Rattle.csv_text.specs.Body.{told}
use Rattle.csv_text.specs.Shown as csv
use Rattle.bus_signals.specs.declared.source.Source.{Source}
use Rattle.bus_signals.specs.Roles.{carriers_of, sources_of}
use Rattle.bus_capture.specs.declared.fault.CaptureFault.{CaptureFault}
use Rattle.bus_capture.specs.declared.fault.CaptureRefusal.{CaptureRefusal}
use Rattle.bus_capture.specs.declared.sampler.Observed.{Observed}
use Rattle.bus_capture.specs.declared.inferring.Stamped.{Stamped}
use Rattle.bus_capture.specs.declared.inferring.Inferring.{Inferring}
use Rattle.bus_capture.specs.declared.tracer.Tracer.{Tracer}
use Rattle.bus_capture.specs.declared.dump_reader.DumpReader.{DumpReader}
use Rattle.bus_capture.specs.declared.table_reader.TableReader.{TableReader}
use Rattle.bus_capture.specs.declared.reading.Setup.{Setup}
use Rattle.bus_capture.specs.declared.reading.CaptureReader.{CaptureReader}
use Rattle.bus_capture.specs.declared.reading.CaptureForm.{CaptureForm}
use Rattle.bus_capture.specs.declared.reading.CaptureForm.TheVariants as form
use Rattle.bus_capture.specs.declared.reading.Opened.{Opened}
use Rattle.bus_capture.specs.declared.reading.Opened.TheVariants.{Whole, Unended}
use Rattle.bus_capture.specs.declared.fault.CaptureFault.TheVariants.{File}
use Rattle.bus_capture.specs.Capturing.{capturing, in_roles, sources_in, told_items, tells_readies, IsRefusalOf}
use Rattle.bus_capture.specs.Inferring.{inferred, items_after, captured_by}
use Rattle.bus_capture.specs.Inside.{AreSeenInside}
use Rattle.bus_capture.specs.Spans.{AreSpans}
use Rattle.bus_capture.specs.Still.{IsStillUnless}

-- more may be seen after this, unless it is the last
abbrev pub MayFollow : (is_last : Bool) → List Observed → Type 0
MayFollow true more = more ≡ []
MayFollow false more = ⊤

-- the items of what is seen, after these
abbrev pub inferred_on : Inferring → List Stamped → List Observed → List Stamped
inferred_on i stamped observed = inferred i.luns i.infers i.state stamped observed

-- the items of what is told, after these
abbrev pub traced : {A : Type 0} → Tracer A → List Stamped → List Told → Result (List Stamped) CaptureFault
traced t stamped told = capturing t.sources.items t.sampler t.observed.items told >>= λ observed. Ok (inferred_on t.inferring stamped observed)

-- the items of what is told of a bus whose lines are there, after these
abbrev pub items_told : Setup → List Source → List Stamped → List Told → Result (List Stamped) CaptureFault
items_told setup sources stamped told =
    told_items setup sources told >>= λ observed. Ok (items_after setup stamped (record { observed = observed; tells_readies = tells_readies sources }))

-- what holds of a tracer at all times
pub record IsTracing {A : Type 0} (t : Tracer A) : Type 0 where
  pub few : t.sampler.targets ≤ 4
  pub still : IsStillUnless t.beside t.sampler
  pub inside : AreSeenInside t.observed.items
  pub spans : AreSpans t.sources.items 0 t.spans.items

-- the items of a body whose header is this, with these words more, after those items
abbrev pub read_after : Setup → List Stamped → Read → List Word → Result (List Stamped) CaptureFault
read_after setup stamped read more =
    sources_in setup read >>= λ sources. items_told setup sources stamped (told_from read.header.widths beginning read.line (read.rest ++ more))

-- the items of a dump, of which this much is read, with this text more
abbrev pub dump_after : {A : Type 0} → DumpReader A → List Stamped → List ℕ → Result (List Stamped) CaptureFault
dump_after d stamped rest = traced d.tracer stamped (told_at d.widths d.standing (d.left.items ++ rest))

-- the items of a dump, of which this much is read or whose header isn't whole yet, with this text more
abbrev pub comes_dump : {A : Type 0} → Option (DumpReader A) → Setup → (head : List ℕ) → List Stamped → List ℕ → Result (List Stamped) CaptureFault
comes_dump None setup head stamped rest = captured_by form.Dump setup stamped (head ++ rest)
comes_dump (Some d) setup head stamped rest = dump_after d stamped rest

abbrev pub IsReading : {A : Type 0} → Option (DumpReader A) → Type 0
IsReading None = ⊤
IsReading (Some d) = IsTracing d.tracer

-- what a capture comes to stays what it was, or it is this refusal
abbrev pub IsTaken : {A U : Type 0} → Result U CaptureRefusal → Result A CaptureFault → Result A CaptureFault → Type 0
IsTaken (Ok u) old new = old ≡ new
IsTaken (Err e) old new = IsRefusalOf e old

-- what a piece of a dump whose header may be whole comes to, with this text after it: where the piece ends in white space, whatever comes later, and where it
-- is the last
abbrev pub OpensAs : {A : Type 0} → Setup → (whole tail : List ℕ) → Result (Opened A) CaptureRefusal → Type 0
OpensAs setup whole tail (Ok (Whole d)) =
    IsTracing d.tracer
    × (IsCut whole → (stamped : List Stamped) (rest : List ℕ) → captured_by form.Dump setup stamped (whole ++ (tail ++ rest)) ≡ dump_after d stamped rest)
    × (tail ≡ [] → (stamped : List Stamped) → captured_by form.Dump setup stamped whole ≡ dump_after d stamped [])
OpensAs setup whole tail (Ok (Unended f)) = (stamped : List Stamped) → captured_by form.Dump setup stamped whole ≡ Err (File f)
OpensAs setup whole tail (Err e) =
    (IsCut whole → (stamped : List Stamped) (rest : List ℕ) → IsRefusalOf e (captured_by form.Dump setup stamped (whole ++ (tail ++ rest))))
    × ((stamped : List Stamped) → IsRefusalOf e (captured_by form.Dump setup stamped whole))

-- ---- a CSV

-- what is kept of the last row, if there was one
abbrev pub last_of : Bool → List ℕ → Option (List ℕ)
last_of true text = Some text
last_of false text = None

-- the items of a table, after those
abbrev pub table_read : Setup → List Stamped → Table → Result (List Stamped) CaptureFault
table_read setup stamped t = in_roles (sources_of setup.targets (carriers_of setup.mappings.now t.columns.variables)) >>= λ sources. items_told setup sources stamped (told t)

-- the items of a CSV, of which this much is read, with this text more
abbrev pub table_after : {A : Type 0} → TableReader A → List Stamped → List ℕ → Result (List Stamped) CaptureFault
table_after t stamped rest = traced t.tracer stamped (csv.told_at t.standing t.names.items (last_of t.has_last t.last.items) (t.left.items ++ rest))

-- what holds of one at all times
pub record IsTabling {A : Type 0} (t : TableReader A) : Type 0 where
  pub tracing : IsTracing t.tracer
  pub first : 1 ≤ t.standing.line

-- the items of a CSV, of which this much is read or whose row of names isn't there yet, with this text more
abbrev pub comes_table : {A : Type 0} → Option (TableReader A) → Setup → (head : List ℕ) → List Stamped → List ℕ → Result (List Stamped) CaptureFault
comes_table None setup head stamped rest = captured_by form.Table setup stamped (head ++ rest)
comes_table (Some t) setup head stamped rest = table_after t stamped rest

abbrev pub IsTablingIf : {A : Type 0} → Option (TableReader A) → Type 0
IsTablingIf None = ⊤
IsTablingIf (Some t) = IsTabling t

-- what a piece of a CSV in which the row of names may be comes to, with this text after it
abbrev pub OpensTable : {A : Type 0} → Setup → (whole tail : List ℕ) → Result (Option (TableReader A)) CaptureRefusal → Type 0
OpensTable setup whole tail (Ok (Some t)) =
    IsTabling t × ((stamped : List Stamped) (rest : List ℕ) → MayFollowLines whole (tail ++ rest) → captured_by form.Table setup stamped (whole ++ (tail ++ rest)) ≡ table_after t stamped rest)
OpensTable setup whole tail (Ok None) = table_of (rows whole) ≡ no_names 1
OpensTable setup whole tail (Err e) =
    (stamped : List Stamped) (rest : List ℕ) → MayFollowLines whole (tail ++ rest) → IsRefusalOf e (captured_by form.Table setup stamped (whole ++ (tail ++ rest)))

-- ---- a capture

-- the items of a capture, of which this much is read, with this text more
abbrev pub comes_as : {A : Type 0} → CaptureForm → Option (DumpReader A) → Option (TableReader A) → Setup → (head : List ℕ) → List Stamped → List ℕ → Result (List Stamped) CaptureFault
comes_as form.Dump dump table setup head stamped rest = comes_dump dump setup head stamped rest
comes_as form.Table dump table setup head stamped rest = comes_table table setup head stamped rest

abbrev pub comes : {A : Type 0} → CaptureReader A → List Stamped → List ℕ → Result (List Stamped) CaptureFault
comes r stamped rest = comes_as r.setup.now.form r.dump r.table r.setup.now r.head.items stamped rest

pub record IsCapturing {A : Type 0} (r : CaptureReader A) : Type 0 where
  pub few : r.setup.now.targets ≤ 4
  pub reading : IsReading r.dump
  pub tabling : IsTablingIf r.table

-- the bytes of the text that are kept, as they may go on: of a header or of a row of names, and of what isn't whole behind it
abbrev pub left_of : {A : Type 0} → Option (DumpReader A) → Option (TableReader A) → ℕ
left_of (Some d) table = length d.left.items
left_of None (Some t) = length t.left.items
left_of None None = 0

abbrev pub kept_of : {A : Type 0} → CaptureReader A → ℕ
kept_of r = min (length r.head.items + left_of r.dump r.table) (2 ^ 64 - 1)
