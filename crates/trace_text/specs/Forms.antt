-- The form of a text: nothing but its items, or with blanks, comments and times.
use Rattle.std.specs.Prelude.{◌≡◌, ℕ, List, Result, Ok}
use Rattle.nand_geometry.specs.declared.optional.Profile.{Profile}
use Rattle.onfi_cycle.specs.declared.item.Item.{Item}
use Rattle.trace_text.specs.declared.form.TraceForm.{TraceForm}
use Rattle.trace_text.specs.declared.form.TraceForm.TheVariants.{Strict, Recorded}
use Rattle.trace_text.specs.declared.refusal.TraceRefusal.{TraceRefusal}
use Rattle.trace_text.specs.Trace.{IsTextOf}
use Rattle.trace_text.specs.Reading.{reading}
use Rattle.trace_text.specs.Recorded.{recorded}

-- the items of a text, or its first fault
abbrev pub read_as : TraceForm → Profile → List ℕ → Result (List Item) TraceRefusal
read_as Strict p bytes = reading p bytes
read_as Recorded p bytes = recorded p bytes

-- the bytes are a text of the items: the one that they have, or one that is read so
abbrev pub IsTraceText : TraceForm → Profile → List ℕ → List Item → Type 0
IsTraceText Strict p bytes items = IsTextOf p bytes items
IsTraceText Recorded p bytes items = recorded p bytes ≡ Ok items
