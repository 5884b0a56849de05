-- What the dies of a trace hold and show, and which of its outputs give another byte.
use Rattle.std.specs.Prelude.{◌≡◌, ⊤, ℕ, zero, suc, ◌+◌, ◌*◌, ◌≤◌, ◌==◌, ◌&&◌, ◌||◌, Bool, true, false, if◌then◌else◌, List, [], ◌∷◌, ◌++◌, Option, Some, None, length, map, slice_get, slice_index_or}
use Rattle.std.specs.List.{cons_option}
use Rattle.nand_geometry.specs.declared.parts.Parts.{Parts}
use Rattle.onfi_cycle.specs.declared.lun.Lun.{Lun}
use Rattle.onfi_cycle.specs.declared.latch.Latch.{Latch}
use Rattle.onfi_cycle.specs.declared.latch.Latch.TheVariants.{Data}
use Rattle.onfi_cycle.specs.declared.register.Register.{Register}
use Rattle.onfi_cycle.specs.declared.register.Register.TheVariants.{Page}
use Rattle.onfi_cycle.specs.declared.item.Item.{Item}
use Rattle.onfi_cycle.specs.declared.item.Failures.{Failures}
use Rattle.onfi_cycle.specs.declared.item.Item.TheVariants.{Cyc, Rdy, Ard}
use Rattle.onfi_cycle.specs.declared.item.Kind.{Kind}
use Rattle.onfi_cycle.specs.declared.item.Kind.TheVariants.{Cmd, Adr, Din, Dout}
use Rattle.onfi_cycle.specs.declared.page_address.PageAddress.{PageAddress}
use Rattle.onfi_cycle.specs.declared.queued.Queued.{Queued}
use Rattle.onfi_cycle.specs.declared.queued.Queued.TheVariants.{Erase, Program, Read}
use Rattle.onfi_cycle.specs.declared.effect.Effect.{Effect}
use Rattle.onfi_cycle.specs.declared.effect.Effect.TheVariants.{EraseStarted, ProgramStarted, CacheProgramStarted, CopybackReadStarted, ProgramAddressed, ResetStarted, TargetResetStarted, BecameReady, ArrayBecameReady}
use Rattle.onfi_cycle.specs.declared.forbidden.Forbidden.{Forbidden as Rule}
use Rattle.onfi_cycle.specs.declared.lun_state.LunState.{LunState}
use Rattle.onfi_cycle.specs.Content.{same_page}
use Rattle.onfi_cycle.specs.Lun.{effect_on}
use Rattle.onfi_cycle.specs.Look.{look_after}
use Rattle.onfi_cycle.specs.Permitted.{broken}
use Rattle.onfi_cycle.specs.Channel.{Channel, cycle, bus_byte}
use Rattle.die_model.specs.declared.refusal.ImageFault.{ImageFault}
use Rattle.die_model.specs.declared.refusal.ImageRefusal.{ImageRefusal}
use Rattle.die_model.specs.declared.refusal.ImageRefusal.TheVariants.{Fault, OutOfMemory}
use Rattle.die_model.specs.Die.{Die}
use Rattle.target_bus.specs.Bus.{Entries, Traced, channel_of, number_of, numbered, StandFor}
use Rattle.trace_faults.specs.declared.broken_rule.BrokenRule.{BrokenRule}
use Rattle.trace_data.specs.declared.origin.Origin.{Origin}
use Rattle.trace_data.specs.declared.origin.Origin.TheVariants.{Unknown, Beginning, Erased, Programmed}
use Rattle.trace_data.specs.declared.lun_work.BegunWork.{BegunWork}
use Rattle.trace_data.specs.declared.lun_work.EndedWork.{EndedWork}
use Rattle.trace_data.specs.declared.page_shown.PageShown.{PageShown}
use Rattle.trace_data.specs.declared.difference.Difference.{Difference}

-- ---- where a page has its bytes from

-- at the beginning, where what the LUN held then is known or isn't
abbrev pub opening_of : (known : Bool) → Origin
opening_of known = if known then Beginning else Unknown

-- after a program that began at this item; of bytes that nobody knew nobody knows what it left
abbrev pub programmed_at : ℕ → Origin → Origin
programmed_at n Unknown = Unknown
programmed_at n Beginning = Programmed n
programmed_at n (Erased m) = Programmed n
programmed_at n (Programmed m) = Programmed n

-- a work touches a page: the erase of its block, or its program; a read touches none
abbrev pub touches : Queued → PageAddress → Bool
touches (Erase at) p = p.block == at.block
touches (Program at) p = same_page p at
touches (Read at) p = false

-- after a program that copies another page of its LUN, of which nobody may know what it held, or that copies none
abbrev pub copied_at : (copies doubted : Bool) → ℕ → Origin → Origin
copied_at copies doubted n before = if copies && doubted then Unknown else programmed_at n before

-- where a page that a work touches has its bytes from, if that went well; nobody may know what the other pages of its LUN hold
abbrev pub left_well : (doubted copies : Bool) → Queued → ℕ → Origin → Origin
left_well doubted copies (Erase at) n before = Erased n
left_well doubted copies (Program at) n before = copied_at copies doubted n before
left_well doubted copies (Read at) n before = before

-- after a work that is over: of a page that it touched and failed at nobody knows what it holds
abbrev pub left_of : (doubted : Bool) → EndedWork → PageAddress → Origin → Origin
left_of doubted w p before = if touches w.work p then (if w.failed then Unknown else left_well doubted w.copies w.work w.item before) else before

-- after works that are over, the oldest first; one that failed leaves some page of which nobody knows what it holds
abbrev pub origin_from : (doubted : Bool) → List EndedWork → PageAddress → Origin → Origin
origin_from doubted [] p before = before
origin_from doubted (w ∷ works) p before = origin_from (doubted || w.failed) works p (left_of doubted w p before)

abbrev pub is_unknown : Origin → Bool
is_unknown Unknown = true
is_unknown Beginning = false
is_unknown (Erased n) = false
is_unknown (Programmed n) = false

-- the same on a LUN whose pages were all known at the beginning, or none
abbrev pub origin_by : List EndedWork → PageAddress → Origin → Origin
origin_by works p before = origin_from (is_unknown before) works p before

-- ---- the works on a LUN

-- those that wait for the command that begins them all, those that the next ready ends, those that the array goes on with behind the ready of a 15, and
-- those that are over, each the oldest first; whether a program copies a page: one was read for a copyback, and no 80 with a row came since; and whether
-- a 15 closed what works
pub record Works : Type 0 where
  pub copying : Bool
  pub cached : Bool
  pub queued : List BegunWork
  pub working : List BegunWork
  pub in_array : List BegunWork
  pub ended : List EndedWork

abbrev pub no_works : Works
no_works = record { copying = false; cached = false; queued = []; working = []; in_array = []; ended = [] }

-- a work begins with those that wait, or waits itself
abbrev pub begun : (queued : Bool) → BegunWork → Works → Works
begun true work w = record w { queued = w.queued ++ (work ∷ []) }
begun false work w = record w { cached = false; queued = []; working = w.queued ++ (work ∷ []) }

-- a 15 begins it with those that wait
abbrev pub begun_cached : BegunWork → Works → Works
begun_cached work w = record (begun false work w) { cached = true }

-- a work is over, with failure or without
abbrev pub ended_as : (failed : Bool) → BegunWork → EndedWork
ended_as failed w = record { work = w.work; item = w.item; copies = w.copies; failed = failed }

-- what works is over
abbrev pub over : (failed : Bool) → Works → Works
over failed w = record w { working = []; ended = w.ended ++ map (ended_as failed) w.working }

-- what the array goes on with is over
abbrev pub array_over : (failed : Bool) → Works → Works
array_over failed w = record w { in_array = []; ended = w.ended ++ map (ended_as failed) w.in_array }

-- the array goes on with what works
abbrev pub goes_on : Works → Works
goes_on w = record w { working = []; in_array = w.working }

-- what is told of that: a 15 leaves it to the array
abbrev pub handed_on : (failed : Bool) → Works → Works
handed_on failed w = if w.cached then goes_on w else over failed w

-- a ready ends what works, and what the array went on with before it; behind an 11, which begins nothing, the array goes on
abbrev pub ready_leaves : Failures → (working : List BegunWork) → Works → Works
ready_leaves fail [] w = w
ready_leaves fail (work ∷ works) w = handed_on fail.last (array_over fail.before w)

-- a reset drops what waits
abbrev pub unqueued : Works → Works
unqueued w = record w { queued = [] }

-- the works after an effect of the item of this number; a reset breaks off what works, and what the array goes on with, which leaves their pages as a
-- failure does
abbrev pub works_after : Effect → ℕ → Works → Works
works_after (EraseStarted queued at) n w = begun queued (record { work = Erase at; item = n; copies = false }) w
works_after (ProgramStarted queued at) n w = begun queued (record { work = Program at; item = n; copies = w.copying }) w
works_after (CacheProgramStarted at) n w = begun_cached (record { work = Program at; item = n; copies = w.copying }) w
works_after (CopybackReadStarted at column planes) n w = record w { copying = true }
works_after ProgramAddressed n w = record w { copying = false }
works_after ResetStarted n w = over true (array_over true (unqueued w))
works_after (TargetResetStarted first) n w = over true (array_over true (unqueued w))
works_after (BecameReady fail) n w = ready_leaves fail w.working w
works_after (ArrayBecameReady fail) n w = array_over fail w
works_after _ n w = w

-- the works on a LUN after a past; an item has the number of those before it
abbrev pub works_on : Parts → List Item → Lun → Works
works_on g [] l = no_works
works_on g (i ∷ past) l = works_after (effect_on g past i l) (length past) (works_on g past l)

-- each of these is the works on the LUN of its number
abbrev pub AreWorks : Parts → List Item → List Works → Type 0
AreWorks g past all = (k : ℕ) (w : Works) → slice_get all k ≡ Some w → w ≡ works_on g past (numbered g k)

-- ---- what an output gives

-- the page and the column that the next output of a LUN gives, if it gives one
abbrev pub shown_as : Lun → Latch → Register → Option ℕ → Option PageShown
shown_as l Data (Page p) (Some column) = Some (record { lun = l; page = p; column = column })
shown_as l _ _ _ = None

abbrev pub shown_of : Lun → Option LunState → Option PageShown
shown_of l None = None
shown_of l (Some look) = shown_as l look.latch look.register look.column

-- the first there is
abbrev pub or_else : Option PageShown → Option PageShown → Option PageShown
or_else (Some shown) later = Some shown
or_else None later = later

-- of the first such LUN of a target, from number n on and so many
abbrev pub page_shown_from : Parts → (targets : ℕ) → List Item → (ce count n : ℕ) → Option PageShown
page_shown_from g targets past ce zero n = None
page_shown_from g targets past ce (suc count) n =
    let l : Lun = record { ce = ce; lun = n } in
    or_else (shown_of l (look_after g targets past l)) (page_shown_from g targets past ce count (n + 1))

-- the page and the column that the next output on a target gives, if it gives one
abbrev pub page_shown : Parts → (targets : ℕ) → List Item → ℕ → Option PageShown
page_shown g targets past ce = page_shown_from g targets past ce g.luns 0

-- ---- outputs that differ from their dies

-- where a page of a LUN has its bytes from; `known` says of each LUN by its number whether what it held at the beginning is known
abbrev pub origin : Parts → (known : List Bool) → List Item → Lun → PageAddress → Origin
origin g known past l p = origin_by (works_on g past l).ended p (opening_of (slice_index_or known (number_of g l) false))

-- it is told, unless its page isn't known
abbrev pub told_by : Origin → Difference → Option Difference
told_by Unknown d = None
told_by Beginning d = Some d
told_by (Erased n) d = Some d
told_by (Programmed n) d = Some d

abbrev pub told_of : Difference → Option Difference
told_of d = told_by d.origin d

-- how an output of a page that gave one byte differs from its die, which gives another
abbrev pub compared : (Lun → PageAddress → Origin) → (item : ℕ) → Option PageShown → (seen expected : ℕ) → Option Difference
compared origins n None seen expected = None
compared origins n (Some shown) seen expected =
    if seen == expected then None
    else told_of (record { item = n; shown = shown; seen = seen; expected = expected; origin = origins shown.lun shown.page })

abbrev pub compared_with : (Lun → PageAddress → Origin) → (item : ℕ) → Option PageShown → (seen : ℕ) → Option ℕ → Option Difference
compared_with origins n shown seen None = None
compared_with origins n shown seen (Some expected) = compared origins n shown seen expected

-- how an output differs from what the one driver of its target shows
abbrev pub output_difference : Channel → (known : List Bool) → List Item → (ce seen : ℕ) → Option Difference
output_difference s known past ce seen =
    compared_with (origin s.geometry known past) (length past) (page_shown s.geometry s.targets past ce) seen (bus_byte s past ce)

abbrev pub cycle_difference : Channel → (known : List Bool) → List Item → (ce : ℕ) → Kind → (byte : ℕ) → Option Difference
cycle_difference s known past ce Cmd byte = None
cycle_difference s known past ce Adr byte = None
cycle_difference s known past ce Din byte = None
cycle_difference s known past ce Dout byte = output_difference s known past ce byte

-- how an item differs from what the dies give: an output of a known page may
abbrev pub difference : Channel → (known : List Bool) → List Item → Item → Option Difference
difference s known past (Cyc c) = cycle_difference s known past c.ce c.kind c.byte
difference s known past (Rdy ce lun fail) = None
difference s known past (Ard ce lun fail) = None

-- ---- a trace on its dies

abbrev pub output_given : (ce seen : ℕ) → Option ℕ → Item
output_given ce seen None = cycle ce Dout seen
output_given ce seen (Some byte) = cycle ce Dout byte

abbrev pub cycle_given : Channel → List Item → (ce : ℕ) → Kind → (byte : ℕ) → Item
cycle_given s past ce Cmd byte = cycle ce Cmd byte
cycle_given s past ce Adr byte = cycle ce Adr byte
cycle_given s past ce Din byte = cycle ce Din byte
cycle_given s past ce Dout byte = output_given ce byte (bus_byte s past ce)

-- the item as the dies make it: an output with the byte that the one driver of its target shows
abbrev pub given : Channel → List Item → Item → Item
given s past (Cyc c) = cycle_given s past c.ce c.kind c.byte
given s past (Rdy ce lun fail) = Rdy ce lun fail
given s past (Ard ce lun fail) = Ard ce lun fail

-- what comes of an item that is permitted, and of one that isn't
abbrev pub if_permitted : {X : Type 0} → Option Rule → X → (Rule → X) → X
if_permitted None go stop = go
if_permitted (Some rule) go stop = stop rule

-- how the items of a trace differ from what the dies give, up to the first that isn't permitted
abbrev pub differences : Channel → (known : List Bool) → List Item → (items : List Item) → List Difference
differences s known past [] = []
differences s known past (i ∷ items) =
    if_permitted (broken s.geometry s.targets past i)
    (cons_option (difference s known past i) (differences s known (given s past i ∷ past) items))
    (λ rule. [])

-- the first item that isn't permitted
abbrev pub first_broken : Channel → List Item → (items : List Item) → Option BrokenRule
first_broken s past [] = None
first_broken s past (i ∷ items) =
    if_permitted (broken s.geometry s.targets past i)
    (first_broken s (given s past i ∷ past) items)
    (λ rule. Some (record { item = length past; rule = rule }))

-- what has come to the dies before it, the newest item first
abbrev pub come : Channel → List Item → (items : List Item) → List Item
come s past [] = past
come s past (i ∷ items) = if_permitted (broken s.geometry s.targets past i) (come s (given s past i ∷ past) items) (λ rule. past)

-- an image is refused for its fault, or since memory ran out
abbrev pub RefusesImage : Option ImageFault → ImageRefusal → Type 0
RefusesImage fault (Fault first) = fault ≡ Some first
RefusesImage fault OutOfMemory = ⊤

-- what a die keeps of its pages
abbrev pub pages_in : Die → Entries
pages_in d = d.pages

-- what has come of a trace on the dies of a channel: how it differs from what they give, where it stopped, and the dies that it leaves
pub record IsJudged (s : Channel) (known : List Bool) (items : List Item) (told : List Difference) (stopped : Option BrokenRule) (dies : List Die) : Type 0 where
  pub told_is : told ≡ differences s known [] items
  pub stopped_is : stopped ≡ first_broken s [] items
  pub stand : StandFor s (come s [] items) dies
  pub count : length dies ≡ s.targets * s.geometry.luns

-- ---- what a step of the code leaves

-- these works stand for the LUNs of a channel after what came to it
pub record Stands (b : Traced) (all : List Works) : Type 0 where
  pub count : length all ≡ b.targets * b.geometry.luns
  pub few : length all ≤ 16
  pub works : AreWorks b.geometry b.past all

-- where a page has its bytes from, by these works
abbrev pub ended_in : Option Works → List EndedWork
ended_in None = []
ended_in (Some w) = w.ended

abbrev pub origin_in : Parts → List Works → (known : List Bool) → Lun → PageAddress → Origin
origin_in g all known l p = origin_by (ended_in (slice_get all (number_of g l))) p (opening_of (slice_index_or known (number_of g l) false))

-- a permitted item has come to the channel as the dies make it, and nothing else
pub record HasCome (old new : Traced) (i : Item) : Type 0 where
  pub permitted : broken old.geometry old.targets old.past i ≡ None
  pub channel : channel_of new ≡ channel_of old
  pub past : new.past ≡ given (channel_of old) old.past i ∷ old.past

-- an item has come and it is told how it differs; or it isn't permitted by a rule, and nothing has come
abbrev pub TellsItem : (known : List Bool) → (old new : Traced) → (told later : List Difference) → Item → List Works → Option Rule → Type 0
TellsItem known old new told later i all None =
    HasCome old new i × (later ≡ told ++ cons_option (difference (channel_of old) known old.past i) []) × Stands new all
TellsItem known old new told later i all (Some rule) =
    (broken old.geometry old.targets old.past i ≡ Some rule) × (new ≡ old) × (later ≡ told)

-- items have come up to the first that isn't permitted, and it is told how they differ
pub record TellsItems (known : List Bool) (old new : Traced) (told later : List Difference) (items : List Item) (stopped : Option BrokenRule) : Type 0 where
  pub told_is : later ≡ told ++ differences (channel_of old) known old.past items
  pub stopped_is : stopped ≡ first_broken (channel_of old) old.past items
  pub channel : channel_of new ≡ channel_of old
  pub past : new.past ≡ come (channel_of old) old.past items

-- from here on the rest of the items brings what all of them bring from the beginning on
pub record AreGoing (known : List Bool) (old new : Traced) (told later : List Difference) (items rest : List Item) (all : List Works) : Type 0 where
  pub stands : Stands new all
  pub told_is : later ++ differences (channel_of old) known new.past rest ≡ told ++ differences (channel_of old) known old.past items
  pub stopped_is : first_broken (channel_of old) new.past rest ≡ first_broken (channel_of old) old.past items
  pub channel : channel_of new ≡ channel_of old
  pub past : come (channel_of old) new.past rest ≡ come (channel_of old) old.past items
