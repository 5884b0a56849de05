-- A channel with its dies: what has happened on it, and how each die stands for its LUN.
use Rattle.std.specs.Prelude.{◌≡◌, ℕ, ◌+◌, ◌-◌, ◌*◌, ◌/◌, ◌%◌, ◌<◌, ◌≤◌, ◌==◌, Bool, true, false, ◌||◌, ◌&&◌, not, nat_lt, if◌then◌else◌, List, [], ◌∷◌, Option, Some, None, length, reverse, slice_get, slice_index_or}
use Rattle.std.specs.Bool.{beq}
use Rattle.std.specs.List.{list_all}
use Rattle.nand_geometry.specs.declared.parts.Parts.{Parts}
use Rattle.nand_geometry.specs.Limits.{InLimits, page_len, planes}
use Rattle.nand_geometry.specs.Page.{parameter_bytes}
use Rattle.onfi_cycle.specs.declared.lun.Lun.{Lun}
use Rattle.onfi_cycle.specs.declared.item.Item.{Item}
use Rattle.onfi_cycle.specs.declared.item.Kind.{Kind}
use Rattle.onfi_cycle.specs.declared.item.Kind.TheVariants.{Adr, Din, Dout}
use Rattle.onfi_cycle.specs.declared.page_address.PageAddress.{PageAddress}
use Rattle.onfi_cycle.specs.declared.forbidden.Forbidden.{Forbidden as Rule}
use Rattle.onfi_cycle.specs.declared.filling.Filling.{Filling}
use Rattle.onfi_cycle.specs.declared.effect.Effect.{Effect}
use Rattle.onfi_cycle.specs.declared.latch.Latch.{Latch}
use Rattle.onfi_cycle.specs.declared.latch.Latch.TheVariants.{Status, Data}
use Rattle.onfi_cycle.specs.declared.tail_facts.TailFacts.{TailFacts}
use Rattle.onfi_cycle.specs.Sequence.{tail, facts_of, takes_data, takes_features, row, input_column}
use Rattle.onfi_cycle.specs.Effect.{names_lun, page_address}
use Rattle.onfi_cycle.specs.Filling.{filling}
use Rattle.onfi_cycle.specs.Lun.{effect_on, held, option_plus}
use Rattle.onfi_cycle.specs.Content.{shown_by, byte_at}
use Rattle.onfi_cycle.specs.Permitted.{broken}
use Rattle.onfi_cycle.specs.Outputs.{with_outputs}
use Rattle.onfi_cycle.specs.Inputs.{with_inputs, judged_inputs, after_inputs}
use Rattle.onfi_cycle.specs.Channel.{Channel, cycle, bus_byte}
use Rattle.onfi_cycle.specs.State.{BusView, Follows}
use Rattle.onfi_cycle.specs.Working.{fills, works_on}
use Rattle.onfi_cycle.specs.Readies.{starts_work, bus_due}
use Rattle.die_model.specs.Pages.{page_in}
use Rattle.die_model.specs.Die.{Die, page_of, is_new, status_of, bytes_shown}
use Rattle.die_model.specs.Standing.{IsDieOf}
use Rattle.target_bus.specs.declared.working.Worked.{Worked}
use Rattle.target_bus.specs.declared.working.FilledLun.{FilledLun}
use Rattle.target_bus.specs.declared.refusal.BusFault.{BusFault}
use Rattle.target_bus.specs.declared.refusal.BusFault.TheVariants.{DiesMissing, DieUnfit, OutOfMemory}
use Rattle.target_bus.specs.declared.refusal.BusRefusal.{BusRefusal}
use Rattle.target_bus.specs.declared.refusal.BusRefusal.TheVariants.{Forbidden}
use Rattle.target_bus.specs.declared.refusal.BusRefusal.TheVariants as r

-- what a die keeps of its pages
abbrev pub Entries : Type 0
Entries = List ((ℕ × ℕ) × List ℕ)

-- the number of a LUN
abbrev pub number_of : Parts → Lun → ℕ
number_of g l = l.ce * g.luns + l.lun

-- the bytes of a page at the opening, by what the die of its LUN kept then
abbrev pub opened_page : Parts → List Entries → Lun → PageAddress → List ℕ
opened_page g opened l p = page_in (page_len g) (slice_index_or opened (number_of g l) []) p

-- a channel of this geometry with so many targets, whose dies kept these pages at the opening
abbrev pub channel_on : Parts → ℕ → List Entries → Channel
channel_on g n opened = record { geometry = g; targets = n; parameters = parameter_bytes g; opening = opened_page g opened }

-- a channel with what its dies kept at the opening, what has happened on it (newest first), and how many cycles to come need no
-- memory if they start no work
pub record Traced : Type 0 where
  pub geometry : Parts
  pub targets : ℕ
  pub opened : List Entries
  pub past : List Item
  pub room : ℕ

abbrev pub channel_of : Traced → Channel
channel_of b = channel_on b.geometry b.targets b.opened

-- LUN number k of the channel, counted target by target
abbrev pub numbered : Parts → ℕ → Lun
numbered g k = record { ce = k / g.luns; lun = k % g.luns }

-- each die has what the LUN of its number has
abbrev pub StandFor : Channel → List Item → List Die → Type 0
StandFor s past dies = (k : ℕ) (d : Die) → slice_get dies k ≡ Some d → IsDieOf s past (numbered s.geometry k) d

-- so many dies are 1 to 4 targets of whole LUNs
abbrev pub are_targets : Parts → ℕ → Bool
are_targets g n = n == g.luns || n == 2 * g.luns || n == 3 * g.luns || n == 4 * g.luns

abbrev pub same_sizes : Parts → Parts → Bool
same_sizes g h =
    g.page_bytes == h.page_bytes && (g.spare_bytes == h.spare_bytes && (g.pages == h.pages && (g.blocks == h.blocks && g.luns == h.luns)))

abbrev pub same_features : Parts → Parts → Bool
same_features g h =
    g.plane_bits == h.plane_bits && (beq g.enhanced h.enhanced && (beq g.multi_plane h.multi_plane && (beq g.cache h.cache && g.optional.0 == h.optional.0)))

-- two geometries have the same numbers
abbrev pub same_parts : Parts → Parts → Bool
same_parts g h = same_sizes g h && same_features g h

-- the die is new and has this geometry
abbrev pub is_new_of : Parts → Die → Bool
is_new_of g d = same_parts d.geometry g && is_new d

abbrev pub are_new : Parts → List Die → Bool
are_new g dies = list_all (is_new_of g) dies

-- the pages of a die are whole, and it has a register for each plane
pub record IsWhole (d : Die) : Type 0 where
  pub lengths : (p : PageAddress) → length (page_of d p) ≡ page_len d.geometry
  pub registers : length d.planes ≡ planes d.geometry

abbrev pub WholeDies : List Die → Type 0
WholeDies dies = (k : ℕ) (d : Die) → slice_get dies k ≡ Some d → IsWhole d

-- it no longer knows which page its array read last
abbrev pub forgotten : Die → Die
forgotten d = record d { array_page = record { block = 0; page = 0 } }

-- what is wrong with the dies of a channel
abbrev pub bus_fault : Parts → List Die → Option BusFault
bus_fault g dies = if not (are_targets g (length dies)) then Some DiesMissing else (if are_new g dies then None else Some DieUnfit)

-- dies are refused by their fault; want of memory comes after each of them
abbrev pub RefusesDies : BusFault → Option BusFault → Type 0
RefusesDies OutOfMemory r = r ≡ None
RefusesDies f r = r ≡ Some f

-- a refusal by the first rule that the item breaks; want of memory comes after each of them
abbrev pub Refuses : BusRefusal → Option Rule → Type 0
Refuses (Forbidden f) r = r ≡ Some f
Refuses r.OutOfMemory r = r ≡ None

-- how many works an item may start
abbrev pub starting : Item → ℕ
starting i = if starts_work i then 1 else 0

-- how many of the places that are kept an item takes: a cycle that starts work brings its own
abbrev pub spent : Item → ℕ
spent i = 1 - starting i

-- the item has happened on the channel, and nothing else
pub record IsNext (old new : Traced) (i : Item) : Type 0 where
  pub channel : channel_of new ≡ channel_of old
  pub past : new.past ≡ i ∷ old.past
  pub room : old.room ≤ new.room + spent i

-- outputs of these bytes are permitted one after the other, and each is what the one driver of the target then shows
abbrev pub AreShown : Channel → ℕ → List ℕ → List Item → Type 0
AreShown s ce [] past = Unit {0}
AreShown s ce (byte ∷ bytes) past =
    (broken s.geometry s.targets past (cycle ce Dout byte) ≡ None) × (bus_byte s past ce ≡ Some byte) × AreShown s ce bytes (cycle ce Dout byte ∷ past)

-- these outputs have happened on the channel, and nothing else
pub record AreTaken (old new : Traced) (ce : ℕ) (bytes : List ℕ) : Type 0 where
  pub channel : channel_of new ≡ channel_of old
  pub shown : AreShown (channel_of old) ce bytes old.past
  pub past : new.past ≡ with_outputs ce bytes old.past
  pub room : old.room ≤ new.room + length bytes

-- these inputs have happened on the channel, and nothing else
pub record ArePut (old new : Traced) (ce : ℕ) (bytes : List ℕ) : Type 0 where
  pub channel : channel_of new ≡ channel_of old
  pub past : new.past ≡ with_inputs ce bytes old.past
  pub room : old.room ≤ new.room + length bytes

abbrev pub is_output : Kind → Bool
is_output Dout = true
is_output _ = false

abbrev pub is_input : Kind → Bool
is_input Din = true
is_input _ = false

-- a cycle of this kind may change a page register
abbrev pub may_fill : Kind → Bool
may_fill Adr = true
may_fill Din = true
may_fill _ = false

-- a LUN of a target
abbrev pub lun_at : (ce n : ℕ) → Lun
lun_at ce n = record { ce = ce; lun = n }

-- an item works on a LUN, in this way
pub record IsWorkedAt (g : Parts) (past : List Item) (i : Item) (l : Lun) (filled : Filling) (effect : Effect) : Type 0 where
  pub lun : l.lun < g.luns
  pub filling_is : filled ≡ filling g (facts_of (tail past l.ce)) i l (held g past l)
  pub effect_is : effect ≡ effect_on g past i l
  pub works : works_on g past i l ≡ true

-- of the LUNs of a target from number n on, the one that an item works on; None where it works on none
abbrev pub FindsWork : Parts → List Item → Item → (ce n : ℕ) → Option Worked → Type 0
FindsWork g past i ce n None = (m : ℕ) → n ≤ m → m < g.luns → works_on g past i (lun_at ce m) ≡ false
FindsWork g past i ce n (Some w) = IsWorkedAt g past i (lun_at ce w.lun) w.filling w.effect

-- an item changes no page register of the LUNs before number n of a target
abbrev pub LeavesBelow : Parts → List Item → Item → (ce n : ℕ) → Type 0
LeavesBelow g past i ce n = (m : ℕ) → m < n → fills (filling g (facts_of (tail past ce)) i (lun_at ce m) (held g past (lun_at ce m))) ≡ false

-- inputs fill a page register of the LUN of this number
abbrev pub is_filled : Parts → TailFacts → ℕ → Bool
is_filled g t lun = takes_data t.phase && names_lun g (row t) lun

-- they fill the register of this page's plane, from this column on
pub record IsFilledAt (g : Parts) (t : TailFacts) (lun : ℕ) (page : PageAddress) (column : ℕ) : Type 0 where
  pub there : lun < g.luns
  pub fills : is_filled g t lun ≡ true
  pub page_is : page ≡ page_address g (row t)
  pub column_is : column ≡ input_column t

-- of the LUNs of a target from number n on, the one whose register inputs fill; None where they fill none
abbrev pub FindsFilled : Parts → TailFacts → ℕ → Option FilledLun → Type 0
FindsFilled g t n None = (m : ℕ) → n ≤ m → m < g.luns → is_filled g t m ≡ false
FindsFilled g t n (Some f) = IsFilledAt g t f.lun f.page f.column

-- the feature whose last byte comes with so many inputs more, if it comes with them
abbrev pub feature_set : TailFacts → ℕ → Option ℕ
feature_set t count = if takes_features t.phase && (nat_lt t.inputs 4 && count == 4 - t.inputs) then Some (t.column % 256) else None

-- a running state and its dies stand for a past
pub record IsStanding (state : BusView) (opened : List Entries) (dies : List Die) (past : List Item) : Type 0 where
  pub follows : Follows state.geometry (length state.targets) state past
  pub limits : InLimits state.geometry
  pub least : 1 ≤ length state.targets
  pub most : length state.targets ≤ 4
  pub count : length dies ≡ length state.targets * state.geometry.luns
  pub lengths : (l : Lun) (p : PageAddress) → length (opened_page state.geometry opened l p) ≡ page_len state.geometry
  pub stand : StandFor (channel_on state.geometry (length state.targets) opened) past dies

-- they stand for some past, after which the item is permitted
pub record Permits (state : BusView) (dies : List Die) (i : Item) : Type 0 where
  pub opened : List Entries
  pub past : List Item
  pub standing : IsStanding state opened dies past
  pub permitted : broken state.geometry (length state.targets) past i ≡ None

-- these dies stand for whatever past the ones before stood for, with the item, where it is permitted
abbrev pub StandOn : BusView → (dies after : List Die) → Item → Type 0
StandOn state dies after i =
    (opened : List Entries) (past : List Item) → IsStanding state opened dies past → broken state.geometry (length state.targets) past i ≡ None
    → StandFor (channel_on state.geometry (length state.targets) opened) (i ∷ past) after

-- they stand for some past, after which so many inputs are permitted
pub record PermitsInputs (state : BusView) (dies : List Die) (ce count : ℕ) : Type 0 where
  pub opened : List Entries
  pub past : List Item
  pub standing : IsStanding state opened dies past
  pub permitted : judged_inputs ce count state ≡ None

-- the state after permitted inputs of these bytes and these dies stand for whatever past was stood for before, with the inputs
abbrev pub StandOnByInputs : BusView → (dies after : List Die) → ℕ → List ℕ → Type 0
StandOnByInputs state dies after ce bytes =
    (opened : List Entries) (past : List Item) → IsStanding state opened dies past → judged_inputs ce (length bytes) state ≡ None
    → IsStanding (after_inputs ce (length bytes) state) opened after (with_inputs ce bytes past)

-- they go on to stand, with the item
abbrev pub GoOn : (state next : BusView) (dies after : List Die) → Item → Type 0
GoOn state next dies after i = (opened : List Entries) (past : List Item) → IsStanding state opened dies past → IsStanding next opened after (i ∷ past)

-- they stand for the items so far; at most so many readies are to come, and a place is kept for each of them, and for the cycles to come
pub record IsRunning (state : BusView) (opened : List Entries) (dies : List Die) (items : List Item) (len capacity room due : ℕ) : Type 0 where
  pub standing : IsStanding state opened dies (reverse items)
  pub readies : bus_due state ≤ due
  pub places : len + room + due ≤ capacity

-- the byte that a die shows after so many outputs, by its latch and the column of the first
abbrev pub shown_later : Die → Latch → Option ℕ → ℕ → Option ℕ
shown_later d latch column count = shown_by latch (status_of d) (byte_at (bytes_shown d) (option_plus count column))

-- each of these bytes is what a die shows in its turn
abbrev pub AreOf : Die → Latch → Option ℕ → List ℕ → Type 0
AreOf d latch column bytes = (i byte : ℕ) → slice_get bytes i ≡ Some byte → shown_later d latch column i ≡ Some byte

-- a die shows status, or so many bytes of its register from the column on
abbrev pub HasBytes : Die → Latch → Option ℕ → ℕ → Type 0
HasBytes d Status column count = Unit {0}
HasBytes d Data (Some column) count = column + count ≤ length (bytes_shown d)
HasBytes d _ _ count = ⊥

abbrev pub first_of : List ℕ → Option ℕ
first_of [] = None
first_of (n ∷ ns) = Some n
