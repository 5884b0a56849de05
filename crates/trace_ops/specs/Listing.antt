-- Which operation each item of a trace belongs to, and what it makes of that and of others.
use Rattle.std.specs.Prelude.{ℕ, ◌+◌, ◌*◌, ◌%◌, ◌==◌, ◌&&◌, ◌||◌, not, Bool, true, false, List, [], ◌∷◌, ◌++◌, length, slice_get, slice_set, replicate, Option, Some, None, is_some, if◌then◌else◌}
use Rattle.nand_geometry.specs.declared.parts.Parts.{Parts}
use Rattle.onfi_cycle.specs.declared.item.Cycle.{Cycle as BusCycle}
use Rattle.onfi_cycle.specs.declared.item.Item.{Item}
use Rattle.onfi_cycle.specs.declared.item.Item.TheVariants.{Cyc, Rdy, Ard}
use Rattle.onfi_cycle.specs.declared.item.Kind.{Kind}
use Rattle.onfi_cycle.specs.declared.item.Kind.TheVariants.{Cmd, Adr, Din, Dout}
use Rattle.onfi_cycle.specs.declared.latch.Latch.{Latch}
use Rattle.onfi_cycle.specs.declared.latch.Latch.TheVariants.{Off, Status, Data}
use Rattle.onfi_cycle.specs.declared.lun_state.LunState.{LunState}
use Rattle.onfi_cycle.specs.declared.register.Register.{Register}
use Rattle.onfi_cycle.specs.declared.register.Register.TheVariants.{Empty, Page, ParameterPage, Identifier, Identity, JedecIdentity, UniqueId, Features}
use Rattle.onfi_cycle.specs.Command.{command}
use Rattle.onfi_cycle.specs.Look.{looked}
use Rattle.onfi_cycle.specs.Sequence.{target_of}
use Rattle.onfi_cycle.specs.State.{BusView}
use Rattle.trace_faults.specs.declared.beginning.Beginning.{Beginning as Start}
use Rattle.trace_faults.specs.declared.readies.Readies.{Readies}
use Rattle.trace_faults.specs.declared.verdict.Verdict.{Verdict}
use Rattle.trace_faults.specs.declared.verdict.Verdict.TheVariants.{Permitted, PassedOver, Granted, Broken, NotShown as WithoutReady}
use Rattle.trace_faults.specs.Middle.{Seen, verdict, seen_after, first_seen_as, verdicts_from}
use Rattle.trace_ops.specs.declared.operation.Beginning.TheVariants as begins
use Rattle.trace_ops.specs.declared.operation.Ending.{Ending}
use Rattle.trace_ops.specs.declared.operation.Ending.TheVariants as ends
use Rattle.trace_ops.specs.declared.operation.Operation.{Operation}
use Rattle.trace_ops.specs.declared.change.Change.{Change}
use Rattle.trace_ops.specs.declared.change.Change.TheVariants as change
use Rattle.trace_ops.specs.declared.places.Places.{Places}
use Rattle.trace_ops.specs.declared.judged.Judged.{Judged}
use Rattle.trace_ops.specs.declared.looks.Looks.{Looks}
use Rattle.trace_ops.specs.declared.role.Role.{Role}
use Rattle.trace_ops.specs.declared.role.Role.TheVariants as role
use Rattle.onfi_cycle.specs.declared.target_cycle.TargetCycle.TheVariants.{CommandCycle}
use Rattle.trace_faults.specs.Outside.{begins_alone}
use Rattle.trace_ops.specs.Operation.{is_permitted, begun, opener_of, is_byte, is_unknown, closes_as_known, is_foreign, is_alone, is_open_program, is_open_read, is_output, says_ready, changed_at, changed_if}

-- ---- a look at the LUNs of a target

abbrev pub looks_of : BusView → ℕ → Looks
looks_of state ce = record {
  zeroth = looked state (record { ce = ce; lun = 0 });
  first = looked state (record { ce = ce; lun = 1 });
  second = looked state (record { ce = ce; lun = 2 });
  third = looked state (record { ce = ce; lun = 3 });
}

abbrev pub look_at : Looks → ℕ → Option LunState
look_at l lun = if lun == 0 then l.zeroth else (if lun == 1 then l.first else (if lun == 2 then l.second else l.third))

abbrev pub is_busy : Option LunState → Bool
is_busy None = false
is_busy (Some lun) = lun.busy

abbrev pub latch_of : Option LunState → Latch
latch_of None = Off
latch_of (Some lun) = lun.latch

abbrev pub has_data : Latch → Bool
has_data Off = false
has_data Status = false
has_data Data = true

abbrev pub gives_data : Option LunState → Bool
gives_data lun = has_data (latch_of lun)

abbrev pub has_status : Latch → Bool
has_status Off = false
has_status Status = true
has_status Data = false

abbrev pub gives_status : Option LunState → Bool
gives_status lun = has_status (latch_of lun)

-- ---- which operation is which

-- of each target the newest; of each LUN, four a target, who began its work, gave its column, and asked for its status
abbrev pub nobody : Places
nobody = record { newest = replicate 4 None; workers = replicate 16 None; givers = replicate 16 None; askers = replicate 16 None }

pub record Listing : Type 0 where
  pub places : Places
  pub ops : List Operation

abbrev pub flattened : Option (Option ℕ) → Option ℕ
flattened None = None
flattened (Some place) = place

abbrev pub found : List (Option ℕ) → ℕ → Option ℕ
found places k = flattened (slice_get places k)

-- the place of a LUN
abbrev pub lun_place : (ce lun : ℕ) → ℕ
lun_place ce lun = 4 * ce + lun

abbrev pub worker : Places → (ce lun : ℕ) → Option ℕ
worker p ce lun = found p.workers (lun_place ce lun)

abbrev pub giver : Places → (ce lun : ℕ) → Option ℕ
giver p ce lun = found p.givers (lun_place ce lun)

abbrev pub asker : Places → (ce lun : ℕ) → Option ℕ
asker p ce lun = found p.askers (lun_place ce lun)

abbrev pub op_of : List Operation → Option ℕ → Option Operation
op_of ops None = None
op_of ops (Some k) = slice_get ops k

abbrev pub either_of : Option ℕ → Option ℕ → Option ℕ
either_of None b = b
either_of (Some a) b = Some a

-- ---- the end of work

abbrev pub is_taken : Verdict → ℕ → Bool
is_taken Permitted lun = false
is_taken PassedOver lun = false
is_taken (Granted rule) lun = false
is_taken (Broken rule) lun = false
is_taken (WithoutReady ready) lun = ready.lun.lun == lun

-- a LUN was taken for ready: where an item needs each of its target, the verdict names the first
abbrev pub takes_some : Verdict → Bool
takes_some Permitted = false
takes_some PassedOver = false
takes_some (Granted rule) = false
takes_some (Broken rule) = false
takes_some (WithoutReady ready) = true

-- bit 0 of a status: it failed
abbrev pub has_failed : ℕ → Bool
has_failed byte = byte % 2 == 1

abbrev pub end_by_cycle : Judged → BusCycle → (lun : ℕ) → (was is : Bool) → Option Ending
end_by_cycle j c lun was is =
    if is_taken j.said lun || (takes_some j.said && (was && not is)) then Some (ends.NotShown j.number)
    else (if is_output c.kind && (was && not is) then Some (ends.Shown j.number (has_failed c.byte)) else None)

-- how an item ends the work of this LUN, if it does
abbrev pub end_by : Judged → Item → (lun : ℕ) → Option Ending
end_by j (Cyc c) lun = end_by_cycle j c lun (is_busy (look_at j.before lun)) (is_busy (look_at j.after lun))
end_by j (Rdy ce l fail) lun = if l == lun && is_permitted j.said then Some (ends.Ready j.number fail.last) else None
end_by j (Ard ce l fail) lun = None

abbrev pub ended_if : Option Ending → Option ℕ → List Operation → List Operation
ended_if None at ops = ops
ended_if (Some e) at ops = changed_if at (change.End e) ops

abbrev pub ended_on : Judged → (lun : ℕ) → Places → List Operation → List Operation
ended_on j lun p ops = ended_if (end_by j j.item lun) (worker p j.ce lun) ops

abbrev pub all_ended : Judged → Places → List Operation → List Operation
all_ended j p ops = ended_on j 3 p (ended_on j 2 p (ended_on j 1 p (ended_on j 0 p ops)))

-- ---- to which an item belongs

abbrev pub is_foreign_op : Option Operation → Bool
is_foreign_op None = false
is_foreign_op (Some o) = is_foreign o

abbrev pub is_foreign_at : List Operation → Option ℕ → Bool
is_foreign_at ops at = is_foreign_op (op_of ops at)

abbrev pub is_open_program_op : Option Operation → Bool
is_open_program_op None = false
is_open_program_op (Some o) = is_open_program o

abbrev pub is_open_read_op : Option Operation → Bool
is_open_read_op None = false
is_open_read_op (Some o) = is_open_read o

-- a 31h behind the addresses of a read, which it closes
abbrev pub closes_read : Option Operation → ℕ → Bool
closes_read newest byte = byte == 0x31 && is_open_read_op newest

-- the command begins a sequence whatever was before: an 85h may go on with the data of a program
abbrev pub opens_alone : ℕ → Bool
opens_alone byte = begins_alone (CommandCycle (command byte))

-- a command begins an operation: an opener but a 31h that closes a read, one that isn't known but 15h, 32h and 35h, and 85h outside of a program
abbrev pub begins_one : Option Operation → ℕ → Bool
begins_one newest byte =
    (opens_alone byte && not (closes_read newest byte)) || ((is_unknown byte && not (closes_as_known byte)) || (byte == 0x85 && not (is_open_program_op newest)))

-- a 00h alone that goes back to what a foreign one gives
abbrev pub returns_to_foreign : List Operation → Option Operation → Bool
returns_to_foreign ops None = false
returns_to_foreign ops (Some o) = is_alone o && is_foreign_at ops o.parent

abbrev pub keeps_outputs : List Operation → Option ℕ → Bool
keeps_outputs ops newest = is_foreign_at ops newest || returns_to_foreign ops (op_of ops newest)

abbrev pub is_off_latch : Latch → Bool
is_off_latch Off = true
is_off_latch Status = false
is_off_latch Data = false

abbrev pub is_off_look : Option LunState → Bool
is_off_look lun = is_off_latch (latch_of lun)

-- the number of the LUN that drives the bus
abbrev pub driver_of : Looks → Option ℕ
driver_of l =
    if not (is_off_look l.zeroth) then Some 0
    else (if not (is_off_look l.first) then Some 1
    else (if not (is_off_look l.second) then Some 2
    else (if not (is_off_look l.third) then Some 3 else None)))

abbrev pub owner_on : Places → (ce lun : ℕ) → Latch → Option ℕ
owner_on p ce lun Off = None
owner_on p ce lun Status = asker p ce lun
owner_on p ce lun Data = giver p ce lun

abbrev pub owner_by : Places → Judged → Option ℕ → Option ℕ
owner_by p j None = None
owner_by p j (Some lun) = owner_on p j.ce lun (latch_of (look_at j.before lun))

-- that of an output: by what its LUN gives, where it is permitted; else the newest
abbrev pub output_owner : List Operation → Places → Judged → Option ℕ
output_owner ops p j =
    if keeps_outputs ops (found p.newest j.ce) || not (is_permitted j.said) then found p.newest j.ce
    else either_of (owner_by p j (driver_of j.before)) (found p.newest j.ce)

abbrev pub cycle_owner : List Operation → Places → Judged → BusCycle → Kind → Option ℕ
cycle_owner ops p j c Cmd = if begins_one (op_of ops (found p.newest j.ce)) c.byte then None else found p.newest j.ce
cycle_owner ops p j c Adr = found p.newest j.ce
cycle_owner ops p j c Din = found p.newest j.ce
cycle_owner ops p j c Dout = output_owner ops p j

-- a ready that isn't permitted belongs to work of which the model knows nothing
abbrev pub is_waiting : Option Operation → Bool
is_waiting None = false
is_waiting (Some o) = is_foreign o && not (is_some o.end)

abbrev pub ready_owner : List Operation → Places → Judged → ℕ → Option ℕ
ready_owner ops p j lun = if is_permitted j.said || is_waiting (op_of ops (worker p j.ce lun)) then worker p j.ce lun else None

-- the number of the operation to which an item belongs; none: a new one
abbrev pub owner_of : List Operation → Places → Judged → Item → Option ℕ
owner_of ops p j (Cyc c) = cycle_owner ops p j c c.kind
owner_of ops p j (Rdy ce lun fail) = ready_owner ops p j lun
owner_of ops p j (Ard ce lun fail) = ready_owner ops p j lun

-- ---- a new one

abbrev pub new_by_command : Judged → Option Operation → BusCycle → Kind → Operation
new_by_command j newest c Cmd = if begins_one newest c.byte then begun j.ce j.number (begins.Opener c.byte) else begun j.ce j.number begins.Cut
new_by_command j newest c Adr = begun j.ce j.number begins.Cut
new_by_command j newest c Din = begun j.ce j.number begins.Cut
new_by_command j newest c Dout = begun j.ce j.number begins.Cut

abbrev pub new_one : Judged → Option Operation → Item → Operation
new_one j newest (Cyc c) = new_by_command j newest c c.kind
new_one j newest (Rdy ce lun fail) = record (begun j.ce j.number begins.Ready) { lun = Some lun }
new_one j newest (Ard ce lun fail) = record (begun j.ce j.number begins.Ready) { lun = Some lun }

-- a ready that belongs to none is not the newest of its target
abbrev pub newest_with : Item → (ce k : ℕ) → List (Option ℕ) → List (Option ℕ)
newest_with (Cyc c) ce k newest = slice_set newest ce (Some k)
newest_with (Rdy ce' lun fail) ce k newest = newest
newest_with (Ard ce' lun fail) ce k newest = newest

abbrev pub number_of : Option ℕ → List Operation → ℕ
number_of (Some k) ops = k
number_of None ops = length ops

abbrev pub with_new : Option ℕ → Judged → Listing → Listing
with_new (Some k) j l = l
with_new None j l = record {
  places = record l.places { newest = newest_with j.item j.ce (length l.ops) l.places.newest };
  ops = l.ops ++ (new_one j (op_of l.ops (found l.places.newest j.ce)) j.item ∷ []);
}

-- ---- its bytes

-- the opener of a new one is no byte of it
abbrev pub is_new_opener : Option ℕ → Judged → Kind → Bool
is_new_opener None j Cmd = true
is_new_opener None j Adr = false
is_new_opener None j Din = false
is_new_opener None j Dout = false
is_new_opener (Some k) j kind = false

abbrev pub change_of : Option ℕ → Judged → Item → Change
change_of owner j (Cyc c) = if is_new_opener owner j c.kind then change.Opened j.number j.said else change.Cycle j.number c.kind c.byte j.said
change_of owner j (Rdy ce lun fail) = change.LoneReady j.number j.said
change_of owner j (Ard ce lun fail) = change.LoneReady j.number j.said

abbrev pub is_address_kind : Kind → Bool
is_address_kind Cmd = false
is_address_kind Adr = true
is_address_kind Din = false
is_address_kind Dout = false

-- a 00h that gets an address goes back to nothing
abbrev pub is_address : Item → Bool
is_address (Cyc c) = is_address_kind c.kind
is_address (Rdy ce lun fail) = false
is_address (Ard ce lun fail) = false

abbrev pub is_alone_op : Option Operation → Bool
is_alone_op None = false
is_alone_op (Some o) = is_alone o

abbrev pub unfolded : Judged → ℕ → List Operation → List Operation
unfolded j k ops = if is_address j.item && is_alone_op (slice_get ops k) then changed_at k change.Unfold ops else ops

abbrev pub noted_at : Option ℕ → Judged → ℕ → List Operation → List Operation
noted_at owner j k ops = changed_at k (change_of owner j j.item) (unfolded j k ops)

-- ---- the beginning of work

abbrev pub is_command : Kind → Bool
is_command Cmd = true
is_command Adr = false
is_command Din = false
is_command Dout = false

abbrev pub is_reset : BusCycle → Bool
is_reset c = is_command c.kind && c.byte == 0xff

-- a LUN begins work by this item
abbrev pub begins_by : Judged → Item → (lun : ℕ) → Bool
begins_by j (Cyc c) lun =
    is_permitted j.said && (is_busy (look_at j.after lun) && (not (is_busy (look_at j.before lun)) || (is_taken j.said lun || is_reset c)))
begins_by j (Rdy ce l fail) lun = false
begins_by j (Ard ce l fail) lun = false

-- work of which the model knows nothing, on a target of one LUN
abbrev pub works_unknown : ℕ → Bool
works_unknown byte =
    byte == 0xef || (byte == 0xee || (byte == 0xed || (byte == 0xfa || (byte == 0xfc || (byte == 0xd4 || (byte == 0xd5 || (byte == 0xd9 || byte == 0xf9)))))))

abbrev pub is_working_opener : Option ℕ → Bool
is_working_opener None = false
is_working_opener (Some byte) = works_unknown byte

abbrev pub is_working_closer : Option ℕ → Bool
is_working_closer None = false
is_working_closer (Some byte) = closes_as_known byte

abbrev pub works_as_foreign : Option Operation → Bool
works_as_foreign None = false
works_as_foreign (Some o) = is_working_opener (opener_of o.beginning) || is_working_closer o.closer

abbrev pub is_input_to_chip : Item → Bool
is_input_to_chip (Cyc c) = not (is_output c.kind)
is_input_to_chip (Rdy ce lun fail) = false
is_input_to_chip (Ard ce lun fail) = false

abbrev pub begins_foreign : Judged → (lun : ℕ) → Option Operation → Bool
begins_foreign j lun o = j.one_lun && (lun == 0 && (is_input_to_chip j.item && works_as_foreign o))

abbrev pub starts_on : Judged → (lun k : ℕ) → List Operation → Bool
starts_on j lun k ops = begins_by j j.item lun || begins_foreign j lun (slice_get ops k)

abbrev pub abandoned_by : Judged → (k : ℕ) → Option ℕ → List Operation → List Operation
abandoned_by j k None ops = ops
abandoned_by j k (Some old) ops = if old == k then ops else changed_at old (change.End (ends.Abandoned j.number)) ops

abbrev pub begun_on : Judged → (k lun : ℕ) → Listing → Listing
begun_on j k lun l =
    if starts_on j lun k l.ops then record {
      places = record l.places { workers = slice_set l.places.workers (lun_place j.ce lun) (Some k) };
      ops = changed_at k (change.Begin j.number lun) (abandoned_by j k (worker l.places j.ce lun) l.ops);
    } else l

abbrev pub all_begun : Judged → ℕ → Listing → Listing
all_begun j k l = begun_on j k 3 (begun_on j k 2 (begun_on j k 1 (begun_on j k 0 l)))

-- ---- what it selects

abbrev pub role_of_command : (byte : ℕ) → (starts : Bool) → Option LunState → Role
role_of_command byte starts after =
    if byte == 0x70 then (if gives_status after then role.Asks else role.Nothing)
    else (if byte == 0x30 then (if starts then role.Gives else role.Nothing)
    else (if byte == 0x31 || byte == 0x3f then (if starts then role.Holds else role.Nothing)
    else (if byte == 0xe0 then (if gives_data after then role.Holds else role.Nothing)
    else (if byte == 0x00 then (if gives_data after then role.Returns else role.Nothing) else role.Nothing))))

abbrev pub role_of_address : Operation → (starts : Bool) → Option LunState → Role
role_of_address o starts after =
    if is_byte (opener_of o.beginning) 0x78 then (if o.address_count == 3 && gives_status after then role.Asks else role.Nothing)
    else (if is_byte (opener_of o.beginning) 0x90 || is_byte (opener_of o.beginning) 0xec then (if starts || gives_data after then role.Gives else role.Nothing) else role.Nothing)

abbrev pub role_of_kind : Operation → BusCycle → (starts : Bool) → Option LunState → Kind → Role
role_of_kind o c starts after Cmd = role_of_command c.byte starts after
role_of_kind o c starts after Adr = role_of_address o starts after
role_of_kind o c starts after Din = role.Nothing
role_of_kind o c starts after Dout = role.Nothing

abbrev pub role_by : Judged → Option Operation → Item → (lun : ℕ) → Role
role_by j None i lun = role.Nothing
role_by j (Some o) (Cyc c) lun = if is_permitted j.said then role_of_kind o c (begins_by j (Cyc c) lun) (look_at j.after lun) c.kind else role.Nothing
role_by j (Some o) (Rdy ce l fail) lun = role.Nothing
role_by j (Some o) (Ard ce l fail) lun = role.Nothing

-- commands and addresses alone select something
abbrev pub may_select_kind : Kind → Bool
may_select_kind Cmd = true
may_select_kind Adr = true
may_select_kind Din = false
may_select_kind Dout = false

abbrev pub may_select : Item → Bool
may_select (Cyc c) = may_select_kind c.kind
may_select (Rdy ce lun fail) = false
may_select (Ard ce lun fail) = false

-- the work of the LUN hasn't been shown to be over by a status byte
abbrev pub is_unshown : Option Operation → Bool
is_unshown None = false
is_unshown (Some o) = not (is_some o.status)

abbrev pub folded_into : (k : ℕ) → Option ℕ → List Operation → List Operation
folded_into k None ops = ops
folded_into k (Some parent) ops = if parent == k then ops else changed_at k (change.Fold parent) ops

abbrev pub folded_if : (unshown : Bool) → (k : ℕ) → Option ℕ → List Operation → List Operation
folded_if unshown k parent ops = if unshown then folded_into k parent ops else ops

abbrev pub held_in : Register → (k : ℕ) → List Operation → List Operation
held_in Empty k ops = ops
held_in (Page at) k ops = changed_at k (change.Hold at) ops
held_in ParameterPage k ops = ops
held_in Identifier k ops = ops
held_in Identity k ops = ops
held_in JedecIdentity k ops = ops
held_in UniqueId k ops = ops
held_in (Features address) k ops = ops

abbrev pub held_by : Option LunState → (k : ℕ) → List Operation → List Operation
held_by None k ops = ops
held_by (Some lun) k ops = held_in lun.register k ops

abbrev pub selected_by : Role → Judged → (k lun : ℕ) → Listing → Listing
selected_by role.Nothing j k lun l = l
selected_by role.Asks j k lun l = record {
  places = record l.places { askers = slice_set l.places.askers (lun_place j.ce lun) (Some k) };
  ops = folded_if (is_unshown (op_of l.ops (worker l.places j.ce lun))) k (worker l.places j.ce lun) (changed_at k (change.SetLun lun) l.ops);
}
selected_by role.Gives j k lun l = record { places = record l.places { givers = slice_set l.places.givers (lun_place j.ce lun) (Some k) }; ops = l.ops }
selected_by role.Holds j k lun l = record {
  places = record l.places { givers = slice_set l.places.givers (lun_place j.ce lun) (Some k) };
  ops = held_by (look_at j.after lun) k (changed_at k (change.SetLun lun) l.ops);
}
selected_by role.Returns j k lun l = record {
  places = l.places;
  ops = folded_into k (either_of (worker l.places j.ce lun) (giver l.places j.ce lun)) (changed_at k (change.SetLun lun) l.ops);
}

abbrev pub selected_on : Judged → (k lun : ℕ) → Listing → Listing
selected_on j k lun l = selected_by (role_by j (slice_get l.ops k) j.item lun) j k lun l

abbrev pub all_selected : Judged → ℕ → Listing → Listing
all_selected j k l = selected_on j k 3 (selected_on j k 2 (selected_on j k 1 (selected_on j k 0 l)))

-- ---- status bytes

abbrev pub foreign_ended : Judged → (byte : ℕ) → Option ℕ → List Operation → List Operation
foreign_ended j byte at ops =
    if is_foreign_at ops at && says_ready byte then changed_if at (change.End (ends.Shown j.number (has_failed byte))) ops else ops

abbrev pub polled_on : Judged → (k byte : ℕ) → Option ℕ → List Operation → List Operation
polled_on j k byte worker ops = foreign_ended j byte worker (changed_if worker (change.Poll j.number byte) (changed_at k (change.Show byte) ops))

abbrev pub polled_by : Judged → (k byte : ℕ) → Option ℕ → Places → List Operation → List Operation
polled_by j k byte None p ops = ops
polled_by j k byte (Some lun) p ops = if gives_status (look_at j.before lun) then polled_on j k byte (worker p j.ce lun) ops else ops

abbrev pub polled : Judged → (k : ℕ) → Item → Places → List Operation → List Operation
polled j k (Cyc c) p ops = if is_output c.kind && is_permitted j.said then polled_by j k c.byte (driver_of j.before) p ops else ops
polled j k (Rdy ce lun fail) p ops = ops
polled j k (Ard ce lun fail) p ops = ops

-- ---- one item

abbrev pub with_ends : Judged → Listing → Listing
with_ends j l = record { places = l.places; ops = all_ended j l.places l.ops }

abbrev pub with_bytes : Option ℕ → Judged → ℕ → Listing → Listing
with_bytes owner j k l = record { places = l.places; ops = noted_at owner j k l.ops }

abbrev pub with_polls : Judged → ℕ → Listing → Listing
with_polls j k l = record { places = l.places; ops = polled j k j.item l.places l.ops }

-- a ready ends work of which the model knows nothing, permitted or not
abbrev pub ready_end : Item → ℕ → Option Ending
ready_end (Cyc c) n = None
ready_end (Rdy ce lun fail) n = Some (ends.Ready n fail.last)
ready_end (Ard ce lun fail) n = None

abbrev pub with_ready : Judged → ℕ → Listing → Listing
with_ready j k l = record { places = l.places; ops = if is_foreign_at l.ops (Some k) then ended_if (ready_end j.item j.number) (Some k) l.ops else l.ops }

-- with the item that belongs to this one, or to a new one
abbrev pub taken_by : Option ℕ → Judged → (k : ℕ) → Listing → Listing
taken_by owner j k l = with_ready j k (with_polls j k (all_selected j k (all_begun j k (with_bytes owner j k (with_new owner j l)))))

abbrev pub owner_in : Judged → Listing → Option ℕ
owner_in j l = owner_of l.ops l.places j j.item

abbrev pub mark_in : Judged → Listing → ℕ
mark_in j l = number_of (owner_in j l) l.ops

abbrev pub listed : Judged → Listing → Listing
listed j l = taken_by (owner_in j (with_ends j l)) j (mark_in j (with_ends j l)) (with_ends j l)

-- ---- a trace

-- an item as it is judged, with a look at its target before and after it
abbrev pub judged_as : Readies → (one_lun : Bool) → Seen → ℕ → (ce : ℕ) → Item → (later : List Item) → Judged
judged_as readies one_lun seen n ce i later = record {
  number = n;
  item = i;
  ce = ce;
  one_lun = one_lun;
  said = verdict readies seen i later;
  before = looks_of seen.state.bus ce;
  after = looks_of (seen_after readies seen i later).state.bus ce;
}

abbrev pub ops_from : Readies → (one_lun : Bool) → Seen → ℕ → List Item → Listing → List Operation
ops_from readies one_lun seen n [] l = l.ops
ops_from readies one_lun seen n (i ∷ items) l =
    ops_from readies one_lun (seen_after readies seen i items) (n + 1) items (listed (judged_as readies one_lun seen n (target_of i) i items) l)

-- of each item the number of its operation
abbrev pub marks_from : Readies → (one_lun : Bool) → Seen → ℕ → List Item → Listing → List ℕ
marks_from readies one_lun seen n [] l = []
marks_from readies one_lun seen n (i ∷ items) l =
    mark_in (judged_as readies one_lun seen n (target_of i) i items) (with_ends (judged_as readies one_lun seen n (target_of i) i items) l)
    ∷ marks_from readies one_lun (seen_after readies seen i items) (n + 1) items (listed (judged_as readies one_lun seen n (target_of i) i items) l)

abbrev pub nothing_listed : Listing
nothing_listed = record { places = nobody; ops = [] }

abbrev pub has_one_lun : Parts → Bool
has_one_lun g = g.luns == 1

-- the operations of a trace, in the order of their first items
abbrev pub ops_of : Readies → Start → Parts → ℕ → List Item → List Operation
ops_of readies beginning g targets items = ops_from readies (has_one_lun g) (first_seen_as beginning g targets items) 0 items nothing_listed

abbrev pub marks_of : Readies → Start → Parts → ℕ → List Item → List ℕ
marks_of readies beginning g targets items = marks_from readies (has_one_lun g) (first_seen_as beginning g targets items) 0 items nothing_listed

-- what is said of each item of a trace
abbrev pub verdicts_as : Readies → Start → Parts → ℕ → List Item → List Verdict
verdicts_as readies beginning g targets items = verdicts_from readies (first_seen_as beginning g targets items) items
