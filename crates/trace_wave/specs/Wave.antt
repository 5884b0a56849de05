-- The value change dump of a trace.
use Rattle.std.specs.Prelude.{◌≡◌, ℕ, ◌+◌, ◌*◌, ◌==◌, Bool, true, false, if◌then◌else◌, List, [], ◌∷◌, ◌++◌, Option, Some, None}
use Rattle.nand_geometry.specs.declared.parts.Parts.{Parts}
use Rattle.onfi_cycle.specs.declared.item.Cycle.{Cycle}
use Rattle.onfi_cycle.specs.declared.item.Item.{Item}
use Rattle.onfi_cycle.specs.declared.item.Item.TheVariants.{Cyc, Rdy, Ard}
use Rattle.onfi_cycle.specs.declared.forbidden.Forbidden.{Forbidden}
use Rattle.onfi_cycle.specs.declared.forbidden.Forbidden.TheVariants as F
use Rattle.onfi_cycle.specs.Permitted.{broken}
use Rattle.bus_lines.specs.declared.lines.Lines.{Lines}
use Rattle.bus_lines.specs.Lines.{is_output, idle, set_up, struck, at_rest, lines_after}
use Rattle.trace_wave.specs.Levels.{levels}
use Rattle.trace_wave.specs.Changes.{changes, time_line, frame}
use Rattle.trace_wave.specs.Header.{header}

-- the number in the code of a rule
abbrev pub rule_number : Forbidden → ℕ
rule_number F.NotThere = 1
rule_number F.CommandUnknown = 2
rule_number F.SequenceOpen = 3
rule_number F.SeveralLuns = 4
rule_number F.NoColumnToChange = 5
rule_number F.CommandMisplaced = 6
rule_number F.AddressMisplaced = 7
rule_number F.RowOutside = 8
rule_number F.LunBusy = 9
rule_number F.QueueClash = 10
rule_number F.InputMisplaced = 11
rule_number F.NoSoleDriver = 12
rule_number F.DataNotReady = 13
rule_number F.ColumnOutside = 14
rule_number F.CacheReadMisplaced = 15
rule_number F.CacheProgramMisplaced = 16
rule_number F.CopybackMisplaced = 17
rule_number F.PlaneNotHeld = 18

-- 0, or the number of the rule that is broken
abbrev pub number_of : Option Forbidden → ℕ
number_of None = 0
number_of (Some rule) = rule_number rule

-- how far a dump is: how many items it has, the legal ones before the first that breaks a rule (the newest first), that rule's number or 0, and the lines
pub record Drawing : Type 0 where
  pub items : ℕ
  pub past : List Item
  pub rule : ℕ
  pub lines : Lines

-- no item is drawn yet
abbrev pub begun : Drawing
begun = record { items = 0; past = []; rule = 0; lines = idle }

-- the rule after an item: after a first broken one nothing is judged any more
abbrev pub rule_next : Parts → ℕ → List Item → ℕ → Item → ℕ
rule_next g targets past rule i = if rule == 0 then number_of (broken g targets past i) else rule

-- the legal past after an item that leaves this rule
abbrev pub past_next : List Item → ℕ → Item → List Item
past_next past rule i = if rule == 0 then i ∷ past else past

-- an item is drawn
abbrev pub after : Parts → ℕ → Drawing → Item → Drawing
after g targets d i = let rule = rule_next g targets d.past d.rule i in
    record { items = d.items + 1; past = past_next d.past rule i; rule = rule; lines = lines_after d.lines i }

abbrev pub after_all : Parts → ℕ → Drawing → List Item → Drawing
after_all g targets d [] = d
after_all g targets d (i ∷ items) = after_all g targets (after g targets d i) items

-- all levels, with these lines
abbrev pub levels_at : Parts → ℕ → Drawing → Lines → List ℕ
levels_at g targets d l = levels g targets d.past d.rule l

-- the code of the strobe of a cycle, on a bus of so many targets
abbrev pub strobe_code : ℕ → Cycle → ℕ
strobe_code targets c = if is_output c then 36 + targets else 35 + targets

-- an item that isn't seen on the bus
abbrev pub is_ready : Item → Bool
is_ready (Cyc c) = false
is_ready (Rdy _ _ _) = true
is_ready (Ard _ _ _) = true

-- the first two frames of an item: a cycle is set up, and its strobe falls
abbrev pub strobe_frames : Parts → ℕ → Drawing → Item → List ℕ
strobe_frames g targets d (Cyc c) =
    frame (10 * d.items) (levels_at g targets d d.lines) (levels_at g targets d (set_up d.lines c))
    ++ frame (10 * d.items + 2) (levels_at g targets d (set_up d.lines c)) (levels_at g targets d (struck (set_up d.lines c) c))
strobe_frames g targets d (Rdy _ _ _) = []
strobe_frames g targets d (Ard _ _ _) = []

-- the lines when they are drawn
abbrev pub lines_struck : Lines → Item → Lines
lines_struck l (Cyc c) = struck (set_up l c) c
lines_struck l (Rdy _ _ _) = l
lines_struck l (Ard _ _ _) = l

-- the frames of an item; the last is where its strobe rises, and where it does what it does
abbrev pub item_frames : Parts → ℕ → Drawing → Item → List ℕ
item_frames g targets d i = let later = after g targets d i in
    strobe_frames g targets d i ++ frame (10 * d.items + 6) (levels_at g targets d (lines_struck d.lines i)) (levels_at g targets later later.lines)

abbrev pub frames : Parts → ℕ → Drawing → List Item → List ℕ
frames g targets d [] = []
frames g targets d (i ∷ items) = item_frames g targets d i ++ frames g targets (after g targets d i) items

-- the end: its time, in any case, and no chip is enabled
abbrev pub last_frame : Parts → ℕ → Drawing → List ℕ
last_frame g targets d = time_line (10 * d.items) ++ changes 33 (levels_at g targets d d.lines) (levels_at g targets d (at_rest d.lines))

-- the dump of a trace
abbrev pub dump : Parts → ℕ → List Item → List ℕ
dump g targets items = header g targets ++ (frames g targets begun items ++ last_frame g targets (after_all g targets begun items))

-- a text was added to, or stays
abbrev pub Grows : (before after : List ℕ) → Type 0
Grows before after = (more : List ℕ) × (after ≡ before ++ more)
