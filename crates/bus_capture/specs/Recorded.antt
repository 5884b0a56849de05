-- A capture in memory.
use Rattle.std.specs.Prelude.{◌≡◌, List, [], ◌∷◌, Option, Some, None, Result, Ok, Err}
use Rattle.vcd_text.specs.declared.body.Body.{Body}
use Rattle.vcd_text.specs.declared.body.Event.{Event}
use Rattle.vcd_text.specs.Words.{Word}
use Rattle.vcd_text.specs.Body.{Widths, Told}
use Rattle.vcd_text.specs.Shown.{shown_event, told_before, IsOver}
use Rattle.bus_capture.specs.declared.fault.CaptureFault.TheVariants.{File, Role, Bus}
use Rattle.bus_capture.specs.declared.fault.CaptureRefusal.{CaptureRefusal}
use Rattle.bus_capture.specs.declared.fault.CaptureRefusal.TheVariants.{Fault, OutOfMemory}

-- an answer is the first of what is told, after which these are left; or there was nothing in front of these, or a fault of the file
abbrev pub IsRead : Result (Option Event) CaptureRefusal → (told later : List Told) → Type 0
IsRead (Ok (Some e)) told later = told ≡ Ok (shown_event e) ∷ later
IsRead (Ok None) told later = told ≡ later
IsRead (Err (Fault (File f))) told later = told ≡ Err f ∷ []
IsRead (Err (Fault (Role f))) told later = ⊥
IsRead (Err (Fault (Bus f time))) told later = ⊥
IsRead (Err OutOfMemory) told later = ⊥

-- the same of a piece of a dump, whatever words come later
abbrev pub IsNextOf : Widths → Body → Result (Option Event) CaptureRefusal → Body → Type 0
IsNextOf widths old (Ok (Some e)) new = (later : List Word) → told_before widths old later ≡ Ok (shown_event e) ∷ told_before widths new later
IsNextOf widths old (Ok None) new = ((later : List Word) → told_before widths old later ≡ told_before widths new later) × IsOver widths new
IsNextOf widths old (Err (Fault (File f))) new = (later : List Word) → told_before widths old later ≡ Err f ∷ []
IsNextOf widths old (Err (Fault (Role f))) new = ⊥
IsNextOf widths old (Err (Fault (Bus f time))) new = ⊥
IsNextOf widths old (Err OutOfMemory) new = ⊥
