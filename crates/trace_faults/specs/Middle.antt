-- What can be judged of a trace whose recording began in the middle: nobody knows what its LUNs did before.
use Rattle.std.specs.Prelude.{ℕ, ◌+◌, ◌==◌, Bool, true, false, not, ◌&&◌, ◌||◌, nat_lt, List, [], ◌∷◌, ◌++◌, Option, Some, None, get_or, slice_set, if◌then◌else◌}
use Rattle.nand_geometry.specs.Optional.{has_enhanced_column, has_plane_reads, has_copyback, has_program_cache}
use Rattle.nand_geometry.specs.declared.parts.Parts.{Parts}
use Rattle.onfi_cycle.specs.declared.item.Item.{Item}
use Rattle.onfi_cycle.specs.declared.item.Item.TheVariants.{Cyc, Rdy, Ard}
use Rattle.onfi_cycle.specs.declared.forbidden.Forbidden.{Forbidden}
use Rattle.onfi_cycle.specs.declared.forbidden.Forbidden.TheVariants.{NotThere, CommandUnknown, SequenceOpen, SeveralLuns, NoColumnToChange, CommandMisplaced, AddressMisplaced, RowOutside, LunBusy, QueueClash, InputMisplaced, NoSoleDriver, DataNotReady, ColumnOutside, CacheReadMisplaced, CacheProgramMisplaced, CopybackMisplaced, PlaneNotHeld}
use Rattle.onfi_cycle.specs.declared.lun_state.LunState.{LunState}
use Rattle.onfi_cycle.specs.declared.register.Register.{Register}
use Rattle.onfi_cycle.specs.declared.register.Register.TheVariants.{Page}
use Rattle.onfi_cycle.specs.declared.command.Command.TheVariants.{Reset}
use Rattle.onfi_cycle.specs.declared.target_cycle.TargetCycle.{TargetCycle}
use Rattle.onfi_cycle.specs.declared.target_cycle.TargetCycle.TheVariants.{CommandCycle}
use Rattle.onfi_cycle.specs.Sequence.{target_of, target_cycle}
use Rattle.onfi_cycle.specs.Effect.{is_off, is_shared}
use Rattle.onfi_cycle.specs.State.{BusView}
use Rattle.onfi_cycle.specs.Look.{looked}
use Rattle.trace_faults.specs.declared.beginning.Beginning.{Beginning}
use Rattle.trace_faults.specs.declared.beginning.Beginning.TheVariants.{Start, Middle as InTheMiddle}
use Rattle.trace_faults.specs.declared.known.Known.{Known}
use Rattle.trace_faults.specs.declared.looks.Looks.{Looks}
use Rattle.trace_faults.specs.declared.lun_known.LunKnown.{LunKnown}
use Rattle.trace_faults.specs.declared.lun_known.LunKnown.TheVariants.{Nothing, Queue, Work, All}
use Rattle.trace_faults.specs.declared.verdict.Verdict.{Verdict}
use Rattle.trace_faults.specs.declared.verdict.Verdict.TheVariants.{Permitted, PassedOver, Granted, Broken, NotShown as WithoutReady}
use Rattle.trace_faults.specs.declared.broken_rule.BrokenRule.{BrokenRule}
use Rattle.trace_faults.specs.declared.readies.Readies.{Readies}
use Rattle.trace_faults.specs.declared.trace_state.TraceState.{TraceState}
use Rattle.trace_faults.specs.Outside.{is_opening}
use Rattle.trace_faults.specs.Recovery.{fresh_for, judged_here, gone_on, without_sequence}
use Rattle.trace_faults.specs.declared.unshown.UnshownReady.{UnshownReady}
use Rattle.trace_faults.specs.declared.unshown.NotShown.{NotShown}
use Rattle.trace_faults.specs.Faults.{before_taken, before_item, taken_on}

-- ---- what is known

-- of a target where nothing has been seen: neither an opener, nor work of one of its four LUNs
abbrev pub nothing_known : Known
nothing_known = record { opened = false; zeroth = Nothing; first = Nothing; second = Nothing; third = Nothing }

-- of a target that isn't there nothing is in doubt
abbrev pub all_known : Known
all_known = record { opened = true; zeroth = All; first = All; second = All; third = All }

abbrev pub first_known : Bool → Known
first_known there = if there then nothing_known else all_known

-- of the four targets of a channel, of which so many are there
abbrev pub all_first_known : ℕ → List Known
all_first_known targets = first_known (nat_lt 0 targets) ∷ (first_known (nat_lt 1 targets) ∷ (first_known (nat_lt 2 targets) ∷ (first_known (nat_lt 3 targets) ∷ [])))

abbrev pub known_of : List Known → ℕ → Known
known_of known ce = get_or known ce all_known

-- what is known of the LUN of a number
abbrev pub knows : Known → ℕ → LunKnown
knows k number =
    if number == 0 then k.zeroth else (if number == 1 then k.first else (if number == 2 then k.second else (if number == 3 then k.third else All)))

-- it has begun work since the recording began
abbrev pub has_begun : LunKnown → Bool
has_begun Nothing = false
has_begun Queue = false
has_begun Work = true
has_begun All = true

-- and whether it drives the bus is known
abbrev pub is_all : LunKnown → Bool
is_all Nothing = false
is_all Queue = false
is_all Work = false
is_all All = true

-- a LUN that is there, and isn't known
abbrev pub is_doubtful : Option LunState → Bool → Bool
is_doubtful None known = false
is_doubtful (Some lun) known = not known

-- of a ready: whether the LUN is busy isn't known
abbrev pub doubts_ready : BusView → Known → (ce number : ℕ) → Bool
doubts_ready state k ce number = is_doubtful (looked state (record { ce = ce; lun = number })) (has_begun (knows k number))

-- of a cycle: not all is known of the LUN
abbrev pub doubts_lun : BusView → Known → (ce number : ℕ) → Bool
doubts_lun state k ce number = is_doubtful (looked state (record { ce = ce; lun = number })) (is_all (knows k number))

-- not all is known of some LUN of the target
abbrev pub doubts : BusView → Known → ℕ → Bool
doubts state k ce = doubts_lun state k ce 0 || (doubts_lun state k ce 1 || (doubts_lun state k ce 2 || doubts_lun state k ce 3))

-- all is known of the target
abbrev pub is_whole : Known → Bool
is_whole k = k.opened && (is_all k.zeroth && (is_all k.first && (is_all k.second && is_all k.third)))

-- ---- what an item shows of its target

abbrev pub is_reset_cycle : TargetCycle → Bool
is_reset_cycle (CommandCycle Reset) = true
is_reset_cycle _ = false

abbrev pub is_reset : Item → Bool
is_reset (Cyc c) = is_reset_cycle (target_cycle c.kind c.byte)
is_reset (Rdy _ _ _) = false
is_reset (Ard _ _ _) = false

-- the LUN begins work between these looks at it, which sets what it holds and has begun; a cache read that goes on or ends hangs on what it had begun
abbrev pub begins_anew : (before after : Option LunState) → Bool
begins_anew None after = false
begins_anew (Some before) None = false
begins_anew (Some before) (Some after) = not before.busy && (after.busy && not (before.caching || after.caching))

-- the LUN drives the bus; before anything was seen, none does
abbrev pub is_driving : Option LunState → Bool
is_driving None = false
is_driving (Some lun) = not (is_off lun.latch)

-- a page is in its register
abbrev pub is_page : Register → Bool
is_page (Page p) = true
is_page _ = false

abbrev pub holds_page : Option LunState → Bool
holds_page None = false
holds_page (Some lun) = is_page lun.register

abbrev pub once_begun : (drives : Bool) → LunKnown
once_begun drives = if drives then All else Work

-- the first work of a LUN that is seen. Where a chip reads several planes, reads may be queued that nobody saw, and which pages a 30h leaves hangs on them:
-- there a reset alone tells all, and a 30h that nothing is queued any longer
abbrev pub first_begun : (planes resets pages drives : Bool) → LunKnown
first_begun planes resets pages drives = if planes && not resets then (if pages then Queue else Nothing) else once_begun drives

abbrev pub learned_by : (planes begins resets pages drives : Bool) → LunKnown → LunKnown
learned_by planes begins resets pages drives Nothing = if begins then first_begun planes resets pages drives else Nothing
learned_by planes begins resets pages drives Queue = if begins then once_begun drives else Queue
learned_by planes begins resets pages drives Work = once_begun drives
learned_by planes begins resets pages drives All = All

-- what is known of a LUN after an item: an erase and a program leave what it drives as that was, so they tell nothing of it; a reset and a read do, and
-- once it is seen to drive the bus all that stops it is seen
abbrev pub learned_lun : (planes : Bool) → Item → (before after : Option LunState) → LunKnown → LunKnown
learned_lun planes i before after k =
    learned_by planes (begins_anew before after) (is_reset i) (holds_page after) (is_driving after || (begins_anew before after && is_reset i)) k

abbrev pub looks_of : BusView → ℕ → Looks
looks_of state ce = record {
  zeroth = looked state (record { ce = ce; lun = 0 });
  first = looked state (record { ce = ce; lun = 1 });
  second = looked state (record { ce = ce; lun = 2 });
  third = looked state (record { ce = ce; lun = 3 });
}

-- a target has several LUNs, and commands of one of them stop the others: those that are of all of them, and 06
abbrev pub stops_others : Parts → Bool
stops_others g = is_shared g || (has_enhanced_column g.optional && nat_lt 1 g.luns)

-- nothing is sure of a target before a reset: commands of one LUN stop the others, or its chip has a copyback, or programs caches. There an 85 begins a
-- copyback or goes on with a program that nobody saw, which pages may be copied hangs on reads that nobody saw, and whether the array goes on with a page
-- hangs on a program that nobody saw
abbrev pub waits_for_reset : Parts → Bool
waits_for_reset g = stops_others g || (has_copyback g.optional || has_program_cache g.optional)

-- from this item on its target is judged: from an opener. Where commands stop other LUNs, 70 shows the status of the one that was selected before, and what
-- is for all stops the others: there it is judged from a reset on, after which all is known of it, and so it is where a chip has a copyback or programs caches
abbrev pub begins_here : Parts → Item → Bool
begins_here g i = if waits_for_reset g then is_reset i else is_opening g i

-- what is known of the target of an item after it
abbrev pub learned : Parts → Item → (before after : Looks) → Known → Known
learned g i before after k = record {
  opened = k.opened || begins_here g i;
  zeroth = learned_lun (has_plane_reads g.optional) i before.zeroth after.zeroth k.zeroth;
  first = learned_lun (has_plane_reads g.optional) i before.first after.first k.first;
  second = learned_lun (has_plane_reads g.optional) i before.second after.second k.second;
  third = learned_lun (has_plane_reads g.optional) i before.third after.third k.third;
}

-- ---- what is said of an item

-- the rule may be kept, for what was before: it hangs on what a LUN drives, holds or had begun
abbrev pub hangs_on_before : Forbidden → Bool
hangs_on_before NotThere = false
hangs_on_before CommandUnknown = false
hangs_on_before SequenceOpen = false
hangs_on_before SeveralLuns = false
hangs_on_before NoColumnToChange = true
hangs_on_before CommandMisplaced = false
hangs_on_before AddressMisplaced = false
hangs_on_before RowOutside = false
hangs_on_before LunBusy = false
hangs_on_before QueueClash = false
hangs_on_before InputMisplaced = false
hangs_on_before NoSoleDriver = true
hangs_on_before DataNotReady = true
hangs_on_before ColumnOutside = true
hangs_on_before CacheReadMisplaced = true
hangs_on_before CacheProgramMisplaced = true
hangs_on_before CopybackMisplaced = true
hangs_on_before PlaneNotHeld = true

-- a cycle, where some LUN of its target is in doubt or none
abbrev pub of_cycle : (doubted : Bool) → Option Forbidden → Verdict
of_cycle doubted None = Permitted
of_cycle doubted (Some rule) = if doubted && hangs_on_before rule then Granted rule else Broken rule

-- a ready, whose LUN is in doubt or not: it may have worked
abbrev pub of_ready : (doubted : Bool) → Option Forbidden → Verdict
of_ready doubted None = Permitted
of_ready doubted (Some rule) = if doubted then Granted rule else Broken rule

abbrev pub verdict_on : TraceState → Known → Item → Verdict
verdict_on t k (Cyc c) = of_cycle (doubts t.bus k c.ce) (judged_here t (Cyc c))
verdict_on t k (Rdy ce lun fail) = of_ready (doubts_ready t.bus k ce lun) (judged_here t (Rdy ce lun fail))
verdict_on t k (Ard ce lun fail) = of_ready (doubts_ready t.bus k ce lun) (judged_here t (Ard ce lun fail))

-- an item that belongs to a sequence whose opener wasn't seen: a cycle of a target before the first from which that is judged
abbrev pub is_passed_over : Parts → Known → Item → Bool
is_passed_over g k (Cyc c) = not (k.opened || begins_here g (Cyc c))
is_passed_over g k (Rdy _ _ _) = false
is_passed_over g k (Ard _ _ _) = false

-- ---- one item after another

pub record Seen : Type 0 where
  pub state : TraceState
  pub known : List Known

-- a cycle that is taken for granted leaves nothing known of its target, up to the next opener; a ready leaves all as it was
abbrev pub granted_to : Item → Seen → Seen
granted_to (Cyc c) seen = record { state = without_sequence c.ce seen.state; known = slice_set seen.known c.ce nothing_known }
granted_to (Rdy _ _ _) seen = seen
granted_to (Ard _ _ _) seen = seen

-- what an item leaves that is judged
abbrev pub judged_on : Item → Seen → Seen
judged_on i seen = record {
  state = gone_on i seen.state;
  known =
      slice_set seen.known (target_of i)
      (learned seen.state.bus.geometry i (looks_of seen.state.bus (target_of i)) (looks_of (gone_on i seen.state).bus (target_of i)) (known_of seen.known (target_of i)));
}

abbrev pub seen_by : Verdict → Item → Seen → Seen
seen_by Permitted i seen = judged_on i seen
seen_by PassedOver i seen = seen
seen_by (Granted rule) i seen = granted_to i seen
seen_by (Broken rule) i seen = judged_on i seen
seen_by (WithoutReady ready) i seen = judged_on i seen

abbrev pub verdict_here : Seen → Item → Verdict
verdict_here seen i = verdict_on seen.state (known_of seen.known (target_of i)) i

abbrev pub is_granted : Verdict → Bool
is_granted Permitted = false
is_granted PassedOver = false
is_granted (Granted rule) = true
is_granted (Broken rule) = false
is_granted (WithoutReady ready) = false

-- the channel with the readies that an item shows
abbrev pub shown_here : Readies → Seen → Item → Seen
shown_here readies seen i = record { state = before_taken readies seen.state i; known = seen.known }

-- the item is taken for granted as it stands
abbrev pub is_granted_here : Readies → Seen → Item → Bool
is_granted_here readies seen i = is_granted (verdict_here (shown_here readies seen i) i)

-- where an item is judged that isn't passed over: with the ready that it needs besides, where it isn't taken for granted
abbrev pub state_here : Readies → Seen → Item → (later : List Item) → TraceState
state_here readies seen i later = if is_granted_here readies seen i then before_taken readies seen.state i else before_item readies seen.state i later

abbrev pub here : Readies → Seen → Item → (later : List Item) → Seen
here readies seen i later = record { state = state_here readies seen i later; known = seen.known }

-- an item that is permitted with a ready that nothing showed
abbrev pub with_ready_taken : Option UnshownReady → Verdict → Verdict
with_ready_taken None v = v
with_ready_taken (Some ready) Permitted = WithoutReady ready
with_ready_taken (Some ready) PassedOver = PassedOver
with_ready_taken (Some ready) (Granted rule) = Granted rule
with_ready_taken (Some ready) (Broken rule) = Broken rule
with_ready_taken (Some ready) (WithoutReady other) = WithoutReady other

-- what is said of an item that isn't passed over
abbrev pub said_of : Readies → Seen → Item → (later : List Item) → Verdict
said_of readies seen i later = with_ready_taken (taken_on readies (before_taken readies seen.state i) i later) (verdict_here (here readies seen i later) i)

-- what is said of an item
abbrev pub verdict : Readies → Seen → Item → (later : List Item) → Verdict
verdict readies seen i later =
    if is_passed_over seen.state.bus.geometry (known_of seen.known (target_of i)) i then PassedOver else said_of readies seen i later

-- and what it leaves
abbrev pub seen_after : Readies → Seen → Item → (later : List Item) → Seen
seen_after readies seen i later =
    if is_passed_over seen.state.bus.geometry (known_of seen.known (target_of i)) i then seen else seen_by (said_of readies seen i later) i (here readies seen i later)

-- ---- a trace

abbrev pub first_seen : Parts → ℕ → List Item → Seen
first_seen g targets items = record { state = fresh_for g targets items; known = all_first_known targets }

-- what is known of each target of a recording that begins there
abbrev pub known_first_as : Beginning → ℕ → List Known
known_first_as Start targets = all_known ∷ (all_known ∷ (all_known ∷ (all_known ∷ [])))
known_first_as InTheMiddle targets = all_first_known targets

abbrev pub first_seen_as : Beginning → Parts → ℕ → List Item → Seen
first_seen_as beginning g targets items = record { state = fresh_for g targets items; known = known_first_as beginning targets }

abbrev pub verdicts_from : Readies → Seen → List Item → List Verdict
verdicts_from readies seen [] = []
verdicts_from readies seen (i ∷ items) = verdict readies seen i items ∷ verdicts_from readies (seen_after readies seen i items) items

-- what is said of each item of a trace
abbrev pub verdicts_of : Readies → Parts → ℕ → List Item → List Verdict
verdicts_of readies g targets items = verdicts_from readies (first_seen g targets items) items

abbrev pub broken_in : ℕ → Verdict → List BrokenRule
broken_in n Permitted = []
broken_in n PassedOver = []
broken_in n (Granted rule) = []
broken_in n (Broken rule) = record { item = n; rule = rule } ∷ []
broken_in n (WithoutReady ready) = []

abbrev pub granted_in : ℕ → Verdict → List BrokenRule
granted_in n Permitted = []
granted_in n PassedOver = []
granted_in n (Granted rule) = record { item = n; rule = rule } ∷ []
granted_in n (Broken rule) = []
granted_in n (WithoutReady ready) = []

abbrev pub not_shown_in : ℕ → Verdict → List NotShown
not_shown_in n Permitted = []
not_shown_in n PassedOver = []
not_shown_in n (Granted rule) = []
not_shown_in n (Broken rule) = []
not_shown_in n (WithoutReady ready) = record { item = n; ready = ready } ∷ []

-- the faults among items, counted from this number
abbrev pub all_broken : ℕ → List Verdict → List BrokenRule
all_broken n [] = []
all_broken n (v ∷ verdicts) = broken_in n v ++ all_broken (n + 1) verdicts

-- what was taken for granted
abbrev pub all_granted : ℕ → List Verdict → List BrokenRule
all_granted n [] = []
all_granted n (v ∷ verdicts) = granted_in n v ++ all_granted (n + 1) verdicts

-- the items before which a LUN is taken for ready that nothing showed
abbrev pub all_not_shown : ℕ → List Verdict → List NotShown
all_not_shown n [] = []
all_not_shown n (v ∷ verdicts) = not_shown_in n v ++ all_not_shown (n + 1) verdicts

abbrev pub one_passed_over : Verdict → ℕ
one_passed_over Permitted = 0
one_passed_over PassedOver = 1
one_passed_over (Granted rule) = 0
one_passed_over (Broken rule) = 0
one_passed_over (WithoutReady ready) = 0

-- how many were passed over
abbrev pub count_passed_over : List Verdict → ℕ
count_passed_over [] = 0
count_passed_over (v ∷ verdicts) = one_passed_over v + count_passed_over verdicts
