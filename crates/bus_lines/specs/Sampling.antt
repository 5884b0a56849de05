-- What somebody who looks at the lines samples, and that this gives the cycles back.
use Rattle.std.specs.Prelude.{◌≡◌, ℕ, ◌&&◌, not, if◌then◌else◌, List, [], ◌∷◌, ◌++◌, Option, Some, None}
use Rattle.onfi_cycle.specs.declared.item.Item.{Item}
use Rattle.onfi_cycle.specs.declared.item.Item.TheVariants.{Cyc, Rdy, Ard}
use Rattle.onfi_cycle.specs.declared.item.Cycle.{Cycle}
use Rattle.onfi_cycle.specs.declared.item.Kind.{Kind}
use Rattle.onfi_cycle.specs.declared.item.Kind.TheVariants.{Cmd, Adr, Din, Dout}
use Rattle.bus_lines.specs.declared.lines.Lines.{Lines}
use Rattle.bus_lines.specs.Lines.{idle, set_up, struck, released, lines_after}

-- the cycle that the lines carry: none where no chip is enabled or nobody has driven the bus
abbrev pub carried_by : Option ℕ → Option ℕ → Kind → Option Cycle
carried_by (Some ce) (Some byte) kind = Some (record { ce = ce; kind = kind; byte = byte })
carried_by (Some ce) None kind = None
carried_by None dq kind = None

abbrev pub carried : Lines → Kind → Option Cycle
carried l kind = carried_by l.enabled l.dq kind

-- what CLE and ALE tell of a cycle that is written
abbrev pub written_kind : Lines → Kind
written_kind l = if l.cle then Cmd else (if l.ale then Adr else Din)

-- a cycle is sampled where a strobe rises, by the levels before
abbrev pub sampled : (before after : Lines) → Option Cycle
sampled a b = if not a.we && b.we then carried a (written_kind a) else (if not a.re && b.re then carried a Dout else None)

abbrev pub with_sample : Option Cycle → List Cycle → List Cycle
with_sample None cycles = cycles
with_sample (Some c) cycles = c ∷ cycles

-- what is sampled where the lines have these levels, one after the other
abbrev pub sampling : Lines → List Lines → List Cycle
sampling a [] = []
sampling a (b ∷ lines) = with_sample (sampled a b) (sampling b lines)

-- the levels that an item draws, one after the other
abbrev pub drawn_for : Lines → Item → List Lines
drawn_for l (Cyc c) = set_up l c ∷ struck (set_up l c) c ∷ released (struck (set_up l c) c) ∷ []
drawn_for l (Rdy _ _ _) = []
drawn_for l (Ard _ _ _) = []

abbrev pub all_drawn : Lines → List Item → List Lines
all_drawn l [] = []
all_drawn l (i ∷ items) = drawn_for l i ++ all_drawn (lines_after l i) items

abbrev pub cycles_of : List Item → List Cycle
cycles_of [] = []
cycles_of (Cyc c ∷ items) = c ∷ cycles_of items
cycles_of (Rdy _ _ _ ∷ items) = cycles_of items
cycles_of (Ard _ _ _ ∷ items) = cycles_of items

-- the law: what is drawn is sampled as what it was
abbrev pub SamplingGivesBack : Type 0
SamplingGivesBack = (items : List Item) → sampling idle (all_drawn idle items) ≡ cycles_of items
