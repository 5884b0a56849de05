-- A run of a text: what happens on a channel of one target whose LUN 0 runs it from row 0 on, up to a word that may not come there.
use Rattle.std.specs.Prelude.{◌≡◌, ℕ, ◌≤◌, ◌+◌, ◌-◌, ◌==◌, Bool, true, false, ◌&&◌, ◌||◌, not, nat_le, nat_lt, if◌then◌else◌, List, [], ◌∷◌, Option, Some, None, map, replicate, slice_get, slice_index, take, drop}
use Rattle.nand_geometry.specs.declared.parts.Parts.{Parts}
use Rattle.nand_geometry.specs.Limits.{planes}
use Rattle.nand_geometry.specs.Row.{row_bytes_of}
use Rattle.onfi_cycle.specs.declared.command.Command.{Command}
use Rattle.onfi_cycle.specs.declared.command.Command.TheVariants.{ReadStatus as StatusCommand, ReadStatusEnhanced}
use Rattle.onfi_cycle.specs.declared.data_phase.DataPhase.{DataPhase}
use Rattle.onfi_cycle.specs.declared.data_phase.DataPhase.TheVariants.{FirstColumn, SecondColumn}
use Rattle.onfi_cycle.specs.declared.forbidden.Forbidden.{Forbidden}
use Rattle.onfi_cycle.specs.declared.forbidden.Forbidden.TheVariants.{CommandUnknown, SeveralLuns, RowOutside, ColumnOutside}
use Rattle.onfi_cycle.specs.declared.item.Item.{Item}
use Rattle.onfi_cycle.specs.declared.item.Item.TheVariants.{Rdy}
use Rattle.onfi_cycle.specs.declared.item.Kind.{Kind}
use Rattle.onfi_cycle.specs.declared.item.Kind.TheVariants.{Cmd, Adr, Din, Dout}
use Rattle.onfi_cycle.specs.declared.lun.Lun.{Lun}
use Rattle.onfi_cycle.specs.declared.lun_state.LunState.{LunState}
use Rattle.onfi_cycle.specs.declared.opening.Opening.{Opening}
use Rattle.onfi_cycle.specs.declared.tail_facts.TailFacts.{TailFacts}
use Rattle.onfi_cycle.specs.Channel.{cycle}
use Rattle.onfi_cycle.specs.Command.{command, address_cycles, reads_identity}
use Rattle.onfi_cycle.specs.Look.{look_after}
use Rattle.onfi_cycle.specs.Permitted.{broken, is_permitted}
use Rattle.onfi_cycle.specs.Sequence.{tail, facts_of, is_open}
use Rattle.micro_word.specs.declared.word.Word.{Word}
use Rattle.micro_word.specs.declared.word.Word.TheVariants.{End, Command as CommandWord, Address, Get, Put, Column, RowAdd, Row, Plane, Wait, Yield, ReadStatus, BranchOnStatus, Loop}
use Rattle.micro_program.specs.Moves.{and_then}
use Rattle.micro_program.specs.Program.{cost, fits, is_ready_status}
use Rattle.micro_claims.specs.declared.bounds.Bounds.{Bounds}
use Rattle.micro_claims.specs.declared.refusal.Reason.{Reason}
use Rattle.micro_claims.specs.declared.refusal.Reason.TheVariants.{CycleForbidden, AddressUnaligned, HandoverInSequence, BufferPassed, RowOrPlaneOutside, ColumnTooLarge, NoStatus, EndsTooSoon, OverBudget, CommandNotAllowed}
use Rattle.micro_word.specs.Text.{Microprogram}
use Rattle.micro_claims.specs.State.{bounds_of}
use Rattle.micro_claims.specs.Against.{first_address}
use Rattle.seq_core.specs.declared.registers.Registers.{Registers}
use Rattle.seq_core.specs.Progress.{five_bytes}
use Rattle.refused_run.specs.declared.bench.Stop.{Stop}
use Rattle.refused_run.specs.declared.cycles.Cycles.{Cycles}
use Rattle.refused_run.specs.declared.cycles.Cycles.TheVariants.{Few, Many}
use Rattle.refused_run.specs.declared.other_work.OtherWork.{OtherWork}
use Rattle.refused_run.specs.declared.other_work.OtherWork.TheVariants as other
use Rattle.refused_run.specs.declared.course.End.{End as Ended}
use Rattle.refused_run.specs.declared.course.Progress.{Progress}
use Rattle.refused_run.specs.declared.loops.LoopTurn.{LoopTurn}
use Rattle.refused_run.specs.declared.stand.Stand.{Stand}
use Rattle.refused_run.specs.Stand.{first_stand, stand_after}
use Rattle.onfi_cycle.specs.declared.item.Failures.{Failures}

-- ---- items that come

-- a channel of one target: its geometry and what has happened, the newest first
pub record Scene : Type 0 where
  pub geometry : Parts
  pub past : List Item

-- the LUN that runs the text
abbrev pub the_lun : Lun
the_lun = record { ce = 0; lun = 0 }

-- what items that come leave: those that are permitted, up to one that isn't
pub record Come : Type 0 where
  pub past : List Item
  pub stop : Option Item

abbrev pub come : Parts → List Item → List Item → Come
come g [] past = record { past = past; stop = None }
come g (i ∷ rest) past = if is_permitted g 1 past i then come g rest (i ∷ past) else record { past = past; stop = Some i }

abbrev pub item_of : Option Stop → Option Item
item_of None = None
item_of (Some stop) = Some stop.item

-- the rule is the one that the item breaks first
abbrev pub TellsRule : Parts → List Item → Option Stop → Type 0
TellsRule g past None = Unit {0}
TellsRule g past (Some stop) = broken g 1 past stop.item ≡ Some stop.rule

-- items have come up to one that isn't permitted
pub record HasPlayed (old new : Scene) (items : List Item) (stop : Option Stop) : Type 0 where
  pub same : new.geometry ≡ old.geometry
  pub comes : come old.geometry items old.past ≡ record { past = new.past; stop = item_of stop }
  pub rule : TellsRule old.geometry new.past stop

abbrev pub HasPushed : Scene → Scene → Item → Option Stop → Type 0
HasPushed old new item None = (is_permitted old.geometry 1 old.past item ≡ true) × (new ≡ record { geometry = old.geometry; past = item ∷ old.past })
HasPushed old new item (Some stop) = (stop.item ≡ item) × (broken old.geometry 1 old.past item ≡ Some stop.rule) × (new ≡ old)

-- ---- the cycles of a word

-- a cycle on the one target
abbrev pub cycle_on : Kind → ℕ → Item
cycle_on kind byte = cycle 0 kind byte

-- so many of some items, from a place on
abbrev pub some_of : ℕ → ℕ → List Item → List Item
some_of from count items = take count (drop from items)

-- the cycles that the code keeps
abbrev pub listed : Cycles → List Item
listed (Few items from count) = some_of from count items
listed (Many item count) = replicate count item

-- the code keeps a part of five
abbrev pub IsOfFive : Cycles → Type 0
IsOfFive (Few items from count) = from + count ≤ 5
IsOfFive (Many item count) = Unit {0}

-- address bytes that registers give
abbrev pub address_items : Parts → Registers → (from count : ℕ) → Option (List Item)
address_items g r from count =
    if nat_lt 5 from || nat_lt (5 - from) count then None
    else and_then (five_bytes g 0 r (from + count)) (λ five. Some (some_of from count (map (cycle_on Adr) five)))

-- the three addresses of a row, and what follows
abbrev pub row_items : List ℕ → List Item → List Item
row_items row rest = cycle_on Adr (slice_index row 0) ∷ (cycle_on Adr (slice_index row 1) ∷ (cycle_on Adr (slice_index row 2) ∷ rest))

-- a poll that brings this status: by 70h where there is one LUN, else by 78h and row 0 of the LUN
abbrev pub poll_items : Parts → (status : ℕ) → Option (List Item)
poll_items g status =
    if nat_le g.luns 1 then Some (cycle_on Cmd 0x70 ∷ (cycle_on Dout status ∷ []))
    else and_then (row_bytes_of g 0 0 0) (λ row. Some (cycle_on Cmd 0x78 ∷ row_items row (cycle_on Dout status ∷ [])))

-- the cycles of a word: a poll brings this status, a `get` takes 00, and a `put` gives it
abbrev pub cycles_of : Parts → Registers → Word → (status : ℕ) → Option (List Item)
cycles_of g r (CommandWord byte) status = Some (cycle_on Cmd byte ∷ [])
cycles_of g r (Address from count) status = address_items g r from count
cycles_of g r (Get len) status = Some (replicate len (cycle_on Dout 0))
cycles_of g r (Put len) status = Some (replicate len (cycle_on Din 0))
cycles_of g r Wait status = poll_items g status
cycles_of g r ReadStatus status = poll_items g status
cycles_of g r _ status = Some []

-- the code keeps these cycles, if they are there
abbrev pub CyclesAre : Option Cycles → Option (List Item) → Type 0
CyclesAre None items = items ≡ None
CyclesAre (Some c) items = IsOfFive c × (items ≡ Some (listed c))

-- ---- what is against a word where none of its cycles is looked at

abbrev pub place_of_phase : DataPhase → Option ℕ
place_of_phase FirstColumn = Some 0
place_of_phase SecondColumn = Some 1
place_of_phase _ = None

-- which of C1 C2 R1 R2 R3 is wanted next
abbrev pub place_wanted : Option Opening → DataPhase → Option ℕ
place_wanted None phase = place_of_phase phase
place_wanted (Some o) phase = if nat_lt o.addresses (address_cycles o.opener) then Some (first_address o.opener + o.addresses) else place_of_phase phase

-- the one address of 90h or ECh, which may begin at any byte
abbrev pub is_identity : Option Opening → Bool
is_identity None = false
is_identity (Some o) = reads_identity o.opener && (o.addresses == 0)

abbrev pub is_other : Option ℕ → ℕ → Bool → Bool
is_other None from identity = false
is_other (Some place) from identity = not (place == from) && not identity

-- an address begins at another byte than is wanted
abbrev pub begins_elsewhere : TailFacts → ℕ → Bool
begins_elsewhere t from = is_other (place_wanted t.opening t.phase) from (is_identity t.opening)

abbrev pub is_begun : Option Opening → Bool
is_begun None = false
is_begun (Some o) = nat_lt 0 o.addresses && nat_lt o.addresses (address_cycles o.opener)

abbrev pub is_second_column : DataPhase → Bool
is_second_column SecondColumn = true
is_second_column _ = false

-- an address is begun and not yet whole
abbrev pub is_amid : TailFacts → Bool
is_amid t = is_begun t.opening || is_second_column t.phase

abbrev pub is_misplaced : TailFacts → Word → Bool
is_misplaced t (Address from count) = begins_elsewhere t from
is_misplaced t (Column n) = is_amid t
is_misplaced t (RowAdd n) = is_amid t
is_misplaced t (Row n) = is_amid t
is_misplaced t (Plane n) = is_amid t
is_misplaced t _ = false

abbrev pub hands_over : Word → Bool
hands_over Wait = true
hands_over Yield = true
hands_over _ = false

-- what the word takes or gives is inside the buffer
abbrev pub fits_in : Bounds → Registers → Word → Bool
fits_in b r word = fits b.buffer r.place word

abbrev pub is_outside : Parts → Bounds → Registers → Word → Bool
is_outside g b r (Address from count) = nat_lt 2 (from + count) && (nat_le b.rows r.index || nat_le (planes g) r.plane)
is_outside g b r _ = false

-- the LUN is busy, has a row queued, reads a cache, or programs one
abbrev pub is_working : Option LunState → Bool
is_working None = false
is_working (Some look) = look.busy || (nat_lt 0 look.queued || (look.caching || look.programming))

abbrev pub is_end : Word → Bool
is_end (End code) = true
is_end _ = false

abbrev pub is_branch : Word → Bool
is_branch (BranchOnStatus mask target) = true
is_branch _ = false

abbrev pub costs_too_much : Parts → Bounds → ℕ → Word → Bool
costs_too_much g b spent word = nat_lt 0 (cost g word) && nat_lt b.budget (spent + cost g word)

abbrev pub asks_status : Command → Bool
asks_status StatusCommand = true
asks_status ReadStatusEnhanced = true
asks_status _ = false

-- a command that programs may not give, whatever the bus says of it: one that asks for the status
abbrev pub is_kept_back : Word → Bool
is_kept_back (CommandWord byte) = asks_status (command byte)
is_kept_back _ = false

-- a reason that needs no cycle stands against the word, by where the program stands, the tail of its target and a look at its LUN
abbrev pub is_wrong : Parts → Bounds → Stand → TailFacts → Option LunState → Word → Reason → Bool
is_wrong g b s t look word AddressUnaligned = is_misplaced t word
is_wrong g b s t look word HandoverInSequence = hands_over word && is_open t
is_wrong g b s t look word BufferPassed = not (fits_in b s.registers word)
is_wrong g b s t look word RowOrPlaneOutside = is_outside g b s.registers word
is_wrong g b s t look word NoStatus = is_branch word && not s.polled
is_wrong g b s t look word EndsTooSoon = is_end word && (is_open t || is_working look)
is_wrong g b s t look word OverBudget = costs_too_much g b s.spent word
is_wrong g b s t look word CommandNotAllowed = is_kept_back word
is_wrong g b s t look word _ = false

-- the reason that a rule gives, which a cycle of a program breaks
abbrev pub reason_of : Forbidden → Reason
reason_of CommandUnknown = CommandNotAllowed
reason_of SeveralLuns = CommandNotAllowed
reason_of RowOutside = RowOrPlaneOutside
reason_of ColumnOutside = ColumnTooLarge
reason_of _ = CycleForbidden

-- ---- runs

-- a text with what its header bounds, for a geometry
pub record Task : Type 0 where
  pub geometry : Parts
  pub bounds : Bounds
  pub words : List Word

-- the task of a text
abbrev pub task_of : Parts → Microprogram → Task
task_of g text = record { geometry = g; bounds = bounds_of text; words = text.words }

-- where its program stands, and what has happened on the channel
pub record State : Type 0 where
  pub stand : Stand
  pub past : List Item

abbrev pub first_state : State
first_state = record { stand = first_stand; past = [] }

-- the tail of the target, and a look at the LUN of the program
abbrev pub tail_in : State → TailFacts
tail_in x = facts_of (tail x.past 0)

abbrev pub look_in : Task → State → Option LunState
look_in k x = look_after k.geometry 1 x.past the_lun

abbrev pub is_busy_in : Option LunState → Bool
is_busy_in None = false
is_busy_in (Some look) = look.busy

abbrev pub is_wait : Word → Bool
is_wait Wait = true
is_wait _ = false

abbrev pub is_free : Option LoopTurn → Bool
is_free None = true
is_free (Some turn) = false

-- no fifth loop
abbrev pub has_room : Stand → Word → Bool
has_room s (Loop turns) = is_free s.loops.fourth
has_room s _ = true

-- the word is a `wait` that would end while its LUN is busy
abbrev pub ends_early : Option LunState → Word → (status : ℕ) → Bool
ends_early look word status = is_wait word && (is_ready_status status && is_busy_in look)

-- the program may step: it has the bus, or nothing is open on its target
abbrev pub may_step : State → Bool
may_step x = x.stand.holds || not (is_open (tail_in x))

-- the next word may come with this status: it isn't the last, it stays inside the buffer, and a `wait` ends only where the LUN is ready
abbrev pub may_come : Task → State → Word → (status : ℕ) → Bool
may_come k x word status = may_step x && (not (is_end word) && (fits_in k.bounds x.stand.registers word && (has_room x.stand word && not (ends_early (look_in k x) word status))))

-- the cycles of a word have come, and the program stands behind it
pub record WordComes (k : Task) (x : State) (word : Word) (status : ℕ) (later : State) : Type 0 where
  pub here : slice_get k.words x.stand.at ≡ Some word
  pub may : may_come k x word status ≡ true
  pub items : List Item
  pub cycles : cycles_of k.geometry x.stand.registers word status ≡ Some items
  pub comes : come k.geometry items x.past ≡ record { past = later.past; stop = None }
  pub stands : later.stand ≡ stand_after k.geometry x.stand word status

-- what a verified program of another LUN puts on the bus, whose first row has these bytes: it begins to erase a block, it asks for its status, or
-- it begins to read a page
abbrev pub work_items : OtherWork → List ℕ → List Item
work_items other.Erase row = cycle_on Cmd 0x60 ∷ row_items row (cycle_on Cmd 0xd0 ∷ [])
work_items other.Poll row = cycle_on Cmd 0x78 ∷ row_items row (cycle_on Dout 0x80 ∷ [])
work_items other.Read row = cycle_on Cmd 0x00 ∷ (cycle_on Adr 0 ∷ (cycle_on Adr 0 ∷ row_items row (cycle_on Cmd 0x30 ∷ [])))

-- the same of LUN 1
abbrev pub other_items : Parts → OtherWork → Option (List Item)
other_items g work = and_then (row_bytes_of g 1 0 0) (λ row. Some (work_items work row))

-- another LUN has the bus for a while: the program lets it go, and nothing is open
pub record OtherComes (k : Task) (x : State) (work : OtherWork) (later : State) : Type 0 where
  pub free : x.stand.holds ≡ false
  pub closed : is_open (tail_in x) ≡ false
  pub items : List Item
  pub are : other_items k.geometry work ≡ Some items
  pub comes : come k.geometry items x.past ≡ record { past = later.past; stop = None }
  pub stands : later.stand ≡ x.stand

-- what a run may come to
pub data Reached (k : Task) : State → Type 0 where
  begins : Reached k first_state
  word_comes : (x : State) (word : Word) (status : ℕ) (later : State) → Reached k x → WordComes k x word status later → Reached k later
  ready_comes :
      (x : State) (failed : Failures) → Reached k x → is_permitted k.geometry 1 x.past (Rdy 0 0 failed) ≡ true
      → Reached k (record { stand = x.stand; past = Rdy 0 0 failed ∷ x.past })
  other_comes : (x : State) (work : OtherWork) (later : State) → Reached k x → OtherComes k x work later → Reached k later

-- the cycles of a word come up to one that breaks a rule, whatever a poll brings
pub record StopsAt (k : Task) (x : State) (word : Word) (reason : Reason) (past : List Item) (item : Item) : Type 0 where
  pub may : may_step x ≡ true
  pub status : ℕ
  pub items : List Item
  pub cycles : cycles_of k.geometry x.stand.registers word status ≡ Some items
  pub comes : come k.geometry items x.past ≡ record { past = past; stop = Some item }
  pub rule : Forbidden
  pub breaks : broken k.geometry 1 past item ≡ Some rule
  pub is_reason : reason ≡ reason_of rule

-- a reason stands against a word
pub record StandsAgainst (k : Task) (x : State) (word : Word) (reason : Reason) (past : List Item) : Type 0 where
  pub same : past ≡ x.past
  pub wrong : is_wrong k.geometry k.bounds x.stand (tail_in x) (look_in k x) word reason ≡ true

-- how a run ends at a word
abbrev pub Breaks : Task → State → Word → Reason → List Item → Option Item → Type 0
Breaks k x word reason past None = StandsAgainst k x word reason past
Breaks k x word reason past (Some item) = StopsAt k x word reason past item

-- a run of the text that leaves this past and ends so
pub record IsBroken (k : Task) (past : List Item) (e : Ended) : Type 0 where
  pub before : State
  pub reached : Reached k before
  pub word : Word
  pub here : slice_get k.words before.stand.at ≡ Some word
  pub at : e.word ≡ before.stand.at
  pub breaks : Breaks k before word e.reason past e.item

-- the item that isn't permitted, if a run comes to one
abbrev pub last_item : Option Item → List Item
last_item None = []
last_item (Some item) = item ∷ []

-- a run goes on, or has ended
abbrev pub IsRun : Task → Stand → List Item → Option Ended → Type 0
IsRun k stand past None = Reached k (record { stand = stand; past = past })
IsRun k stand past (Some e) = IsBroken k past e

-- a run as it is kept
pub record CourseView : Type 0 where
  pub task : Task
  pub stand : Stand
  pub past : List Item
  pub end : Option Ended

-- ---- what the code keeps

abbrev pub task_on : List Word → Bounds → Scene → Task
task_on words b scene = record { geometry = scene.geometry; bounds = b; words = words }

abbrev pub state_of : Stand → Scene → State
state_of stand scene = record { stand = stand; past = scene.past }

-- a run is kept, as far as it has come
pub record IsRunOn (words : List Word) (b : Bounds) (scene : Scene) (p : Progress) : Type 0 where
  pub run : IsRun (task_on words b scene) p.stand scene.past p.end

-- a word may come, and the program stands so behind it
pub record MayGoOn (words : List Word) (b : Bounds) (scene : Scene) (stand : Stand) (word : Word) (status : ℕ) (next : Stand) : Type 0 where
  pub may : may_come (task_on words b scene) (state_of stand scene) word status ≡ true
  pub stands : next ≡ stand_after scene.geometry stand word status
