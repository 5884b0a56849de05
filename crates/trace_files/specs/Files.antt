-- What is written of a trace.
use Rattle.std.specs.Prelude.{ℕ, List, [], ◌∷◌, ◌++◌, Option, Some, None}
use Rattle.std.specs.Option.{option_copied}
use Rattle.nand_geometry.specs.declared.parts.Parts.{Parts}
use Rattle.onfi_cycle.specs.declared.item.Item.{Item}
use Rattle.trace_text.specs.Line.{text}
use Rattle.trace_wave.specs.Wave.{dump}
use Rattle.seq_files.specs.Store.{Written}
use Rattle.trace_files.specs.declared.draw_form.DrawForm.{DrawForm}
use Rattle.trace_files.specs.declared.draw_form.DrawForm.TheVariants.{Waveform, Picture, Page}
use Rattle.trace_files.specs.declared.outputs.Drawing.{Drawing}
use Rattle.trace_files.specs.declared.outputs.TraceOutputs.{TraceOutputs}

-- the bytes of a drawing: of a waveform exactly the dump of the trace; of a picture and of a page nothing is said but that they are those drawn
abbrev pub drawing_of : DrawForm → Parts → ℕ → List Item → (drawn : List ℕ) → List ℕ
drawing_of Waveform g targets items drawn = dump g targets items
drawing_of Picture g targets items drawn = drawn
drawing_of Page g targets items drawn = drawn

-- nothing is to be written
abbrev pub no_outputs : TraceOutputs
no_outputs = record { text = None; wave = None; drawing = None }

-- the text of a trace, where a path is given for it
abbrev pub text_at : Option (List ℕ) → List Item → List Written
text_at None items = []
text_at (Some path) items = (path, text items) ∷ []

-- its dump, where a path is given for it
abbrev pub wave_at : Option (List ℕ) → Parts → ℕ → List Item → List Written
wave_at None g targets items = []
wave_at (Some path) g targets items = (path, dump g targets items) ∷ []

-- its drawing, where one is asked for
abbrev pub drawing_at : Option Drawing → Parts → ℕ → List Item → (drawn : List ℕ) → List Written
drawing_at None g targets items drawn = []
drawing_at (Some drawing) g targets items drawn = (drawing.path.now, drawing_of drawing.form g targets items drawn) ∷ []

-- all of them
abbrev pub files_of : TraceOutputs → Parts → ℕ → List Item → (drawn : List ℕ) → List Written
files_of outputs g targets items drawn =
    text_at (option_copied outputs.text) items ++ (wave_at (option_copied outputs.wave) g targets items ++ drawing_at outputs.drawing g targets items drawn)
