-- The cycles that a reader of the dump of a trace samples, by the levels that it holds.
use Rattle.std.specs.Prelude.{◌≡◌, ℕ, zero, suc, ◌+◌, ◌<◌, ◌==◌, if◌then◌else◌, List, [], ◌∷◌, ◌++◌, drop, length, Option, Some, None}
use Rattle.nand_geometry.specs.declared.parts.Parts.{Parts}
use Rattle.onfi_cycle.specs.declared.item.Cycle.{Cycle}
use Rattle.onfi_cycle.specs.declared.item.Item.{Item}
use Rattle.onfi_cycle.specs.declared.item.Item.TheVariants.{Cyc}
use Rattle.bus_lines.specs.declared.lines.Lines.{Lines}
use Rattle.bus_lines.specs.Lines.{idle}
use Rattle.bus_lines.specs.Sampling.{sampled}
use Rattle.trace_wave.specs.Levels.{levels}
use Rattle.wave_laws.specs.Told.{strobe_events}
use Rattle.wave_laws.specs.Heard.{all_heard, told_by, drawn_by}

-- the first of so many chip enables, from number n on, that is low
abbrev pub enabled_in : List ℕ → (count n : ℕ) → Option ℕ
enabled_in held zero n = None
enabled_in [] (suc count) n = None
enabled_in (level ∷ held) (suc count) n = if level == 48 then Some n else enabled_in held count (n + 1)

-- what a level adds to a byte, by its weight
abbrev pub weighed : ℕ → ℕ → ℕ
weighed level weight = if level == 49 then weight else 0

-- the byte of DQ, the highest bit first; none where nobody has driven it
abbrev pub byte_in : (d7 d6 d5 d4 d3 d2 d1 d0 : ℕ) → Option ℕ
byte_in d7 d6 d5 d4 d3 d2 d1 d0 =
    if d7 == 122 then None
    else Some (weighed d7 128 + weighed d6 64 + weighed d5 32 + weighed d4 16 + weighed d3 8 + weighed d2 4 + weighed d1 2 + weighed d0 1)

-- the levels behind the chip enables
abbrev pub bus_in : Option ℕ → List ℕ → Lines
bus_in enabled (cle ∷ ale ∷ we ∷ re ∷ d7 ∷ d6 ∷ d5 ∷ d4 ∷ d3 ∷ d2 ∷ d1 ∷ d0 ∷ rest) =
    record { enabled = enabled; cle = cle == 49; ale = ale == 49; we = we == 49; re = re == 49; dq = byte_in d7 d6 d5 d4 d3 d2 d1 d0 }
bus_in enabled _ = idle

-- the lines of a bus of so many targets, by the levels that are held
abbrev pub lines_in : ℕ → List ℕ → Lines
lines_in targets held = bus_in (enabled_in held targets 0) (drop targets held)

-- each cycle of a trace is sampled where its strobe rises, by what a reader holds before and after, whatever it held at first
abbrev pub CyclesAreSampled : Type 0
CyclesAreSampled =
    (g : Parts) (targets : ℕ) (items : List Item) (c : Cycle) (first : List ℕ) → length first ≡ length (levels g targets [] 0 idle) → c.ce < targets → c.byte < 256 →
    sampled (lines_in targets (all_heard first (told_by g targets items ++ strobe_events g targets (drawn_by g targets items) (Cyc c)))) (lines_in targets (all_heard first (told_by g targets (items ++ (Cyc c ∷ [])))))
    ≡ Some c
