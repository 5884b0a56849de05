-- What is told of the dump of a trace.
use Rattle.std.specs.Prelude.{◌≡◌, ℕ, ◌+◌, ◌*◌, ◌^◌, ◌<◌, ◌≤◌, ◌==◌, List, [], ◌∷◌, ◌++◌, map, length, Ok, codes, zero, suc, if◌then◌else◌}
use Rattle.nand_geometry.specs.declared.parts.Parts.{Parts}
use Rattle.onfi_cycle.specs.declared.item.Item.{Item}
use Rattle.onfi_cycle.specs.declared.item.Item.TheVariants.{Cyc, Rdy, Ard}
use Rattle.bus_lines.specs.Lines.{idle, set_up, struck, at_rest}
use Rattle.trace_wave.specs.Header.{digit}
use Rattle.trace_wave.specs.Levels.{levels}
use Rattle.trace_wave.specs.Wave.{Drawing, begun, after, after_all, levels_at, lines_struck, dump}
use Rattle.vcd_text.specs.Body.{Event, Time, Change, told_from}
use Rattle.vcd_text.specs.Dumps.{beginning}
use Rattle.vcd_text.specs.Header.{Variable, Read, header}

-- ---- what was drawn

-- the lines that change, of those with the codes from here on: each to its new level
abbrev pub change_event : (code before after : ℕ) → List Event
change_event code before after = if before == after then [] else Change code (after ∷ []) ∷ []

abbrev pub change_events : (code : ℕ) → (before after : List ℕ) → List Event
change_events code [] after = []
change_events code (b ∷ before) [] = []
change_events code (b ∷ before) (a ∷ after) = change_event code b a ++ change_events (code + 1) before after

-- under their time; nothing where none changes
abbrev pub events_at : ℕ → List Event → List Event
events_at time [] = []
events_at time (e ∷ events) = Time time ∷ (e ∷ events)

abbrev pub frame_events : (time : ℕ) → (before after : List ℕ) → List Event
frame_events time before after = events_at time (change_events 33 before after)

-- a cycle is set up, and its strobe falls
abbrev pub strobe_events : Parts → ℕ → Drawing → Item → List Event
strobe_events g targets d (Cyc c) =
    frame_events (10 * d.items) (levels_at g targets d d.lines) (levels_at g targets d (set_up d.lines c))
    ++ frame_events (10 * d.items + 2) (levels_at g targets d (set_up d.lines c)) (levels_at g targets d (struck (set_up d.lines c) c))
strobe_events g targets d (Rdy _ _ _) = []
strobe_events g targets d (Ard _ _ _) = []

-- and its strobe rises, where the item does what it does
abbrev pub item_events : Parts → ℕ → Drawing → Item → List Event
item_events g targets d i = let later = after g targets d i in
    strobe_events g targets d i ++ frame_events (10 * d.items + 6) (levels_at g targets d (lines_struck d.lines i)) (levels_at g targets later later.lines)

abbrev pub events_from : Parts → ℕ → Drawing → List Item → List Event
events_from g targets d [] = []
events_from g targets d (i ∷ items) = item_events g targets d i ++ events_from g targets (after g targets d i) items

-- at last no chip is enabled
abbrev pub last_events : Parts → ℕ → Drawing → List Event
last_events g targets d = Time (10 * d.items) ∷ change_events 33 (levels_at g targets d d.lines) (levels_at g targets d (at_rest d.lines))

-- at first each line has its level
abbrev pub setting_events : (code : ℕ) → List ℕ → List Event
setting_events code [] = []
setting_events code (level ∷ levels) = Change code (level ∷ []) ∷ setting_events (code + 1) levels

abbrev pub events_of : Parts → ℕ → List Item → List Event
events_of g targets items =
    Time 0 ∷ (setting_events 33 (levels g targets [] 0 idle) ++ (events_from g targets begun items ++ last_events g targets (after_all g targets begun items)))

-- ---- what is declared

-- a signal of one bit
abbrev pub signal : (code : ℕ) → List ℕ → Variable
signal code name = record { name = name; range = []; width = 1; code = code }

abbrev pub target_signals : (code : ℕ) → List ℕ → (count n : ℕ) → List Variable
target_signals code name zero n = []
target_signals code name (suc count) n = signal code (name ++ (digit n ∷ codes "_n")) ∷ target_signals (code + 1) name count (n + 1)

abbrev pub bit_signals : (code : ℕ) → List ℕ → (count : ℕ) → List Variable
bit_signals code name zero = []
bit_signals code name (suc count) = signal code (name ++ (codes "[" ++ (digit count ∷ codes "]"))) ∷ bit_signals (code + 1) name count

abbrev pub lun_signals : (code ce lun : ℕ) → List Variable
lun_signals code ce lun = let of_lun = digit ce ∷ (codes "_" ++ (digit lun ∷ [])) in
    signal code (codes "busy" ++ of_lun) ∷ (signal (code + 1) (codes "array" ++ of_lun) ∷ (signal (code + 2) (codes "fail" ++ of_lun) ∷ []))

abbrev pub all_lun_signals : (code ce count n : ℕ) → List Variable
all_lun_signals code ce zero n = []
all_lun_signals code ce (suc count) n = lun_signals code ce n ++ all_lun_signals (code + 3) ce count (n + 1)

abbrev pub channel_signals : (code luns count n : ℕ) → List Variable
channel_signals code luns zero n = []
channel_signals code luns (suc count) n = all_lun_signals code n luns 0 ++ channel_signals (code + 3 * luns) luns count (n + 1)

-- one for each line of a bus of so many targets of so many LUNs, and of its model
abbrev pub signals_of : (targets luns : ℕ) → List Variable
signals_of targets luns =
    target_signals 33 (codes "CE") targets 0 ++ (signal (33 + targets) (codes "CLE") ∷ (signal (34 + targets) (codes "ALE") ∷ (signal (35 + targets) (codes "WE_n")
    ∷ (signal (36 + targets) (codes "RE_n") ∷ (bit_signals (37 + targets) (codes "DQ") 8
    ++ (target_signals (45 + targets) (codes "RB") targets 0 ++ (channel_signals (45 + targets + targets) luns targets 0 ++ bit_signals (45 + targets + targets + 3 * (targets * luns)) (codes "rule") 5)))))))

-- ---- the law

-- this is told of a text, without a fault
pub record Tells (text : List ℕ) (signals : List Variable) (events : List Event) : Type 0 where
  pub read : Read
  pub is_read : header text ≡ Ok read
  pub declared : read.header.variables ≡ signals
  pub told : told_from read.header.widths beginning read.line read.rest ≡ map Ok events

abbrev pub DrawnIsTold : Type 0
DrawnIsTold =
    (g : Parts) (targets : ℕ) (items : List Item) → 1 ≤ targets → targets ≤ 4 → 1 ≤ g.luns → g.luns ≤ 4 → 10 * length items < 10 ^ 18 →
    Tells (dump g targets items) (signals_of targets g.luns) (events_of g targets items)
