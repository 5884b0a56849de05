-- The busy polls and the readies of a LUN, counted in a trace item by item; the newest item comes first.
use Rattle.std.specs.Prelude.{◌≡◌, ◌⊎◌, ℕ, ◌+◌, ◌-◌, ◌^◌, ◌<◌, ◌≤◌, ◌==◌, ◌&&◌, Bool, true, false, not, if◌then◌else◌, List, [], ◌∷◌, Option, Some, None, nat_le, nat_lt, slice_index, slice_index_or}
use Rattle.std.specs.List.{slice_get}
use Rattle.nand_geometry.specs.declared.parts.Parts.{Parts}
use Rattle.nand_geometry.specs.Row.{row_bytes_of}
use Rattle.onfi_cycle.specs.declared.lun.Lun.{Lun}
use Rattle.onfi_cycle.specs.declared.item.Item.{Item}
use Rattle.onfi_cycle.specs.declared.item.Item.TheVariants.{Cyc, Rdy, Ard}
use Rattle.onfi_cycle.specs.declared.item.Kind.{Kind}
use Rattle.onfi_cycle.specs.declared.item.Kind.TheVariants.{Cmd, Adr, Din, Dout}
use Rattle.onfi_cycle.specs.Sequence.{target_of}
use Rattle.micro_program.specs.Program.{is_ready_status}
use Rattle.target_bus.specs.Bus.{numbered}
use Rattle.channel_work.specs.declared.tally.LunCount.{LunCount}

-- how many cycles of a poll stand at the end after a cycle on the target: a poll is 70h, or where there are many LUNs 78h and the bytes of a row
abbrev pub stands_after : Bool → List ℕ → ℕ → Kind → ℕ → ℕ
stands_after many row stands Cmd byte = if byte == (if many then 0x78 else 0x70) then 1 else 0
stands_after many row stands Adr byte = if many && (nat_le 1 stands && (nat_le stands 3 && byte == slice_index row (stands - 1))) then stands + 1 else 0
stands_after many row stands _ byte = 0

-- the cycles of a whole poll before its output
abbrev pub poll_length : Bool → ℕ
poll_length many = if many then 4 else 1

-- one more where an output after a whole poll says busy
abbrev pub polls_after : Bool → ℕ → ℕ → Kind → ℕ → ℕ
polls_after many stands polls Dout byte = if stands == poll_length many && not (is_ready_status byte) then polls + 1 else polls
polls_after many stands polls _ byte = polls

-- what is counted of a LUN after an item: cycles on its target may be polls of it, and a ready of it ends its polls and is one more
abbrev pub count_after : Bool → List ℕ → Lun → LunCount → Item → LunCount
count_after many row l k (Cyc c) =
    if c.ce == l.ce then record { stands = stands_after many row k.stands c.kind c.byte; polls = polls_after many k.stands k.polls c.kind c.byte; works = k.works } else k
count_after many row l k (Rdy ce lun fail) = if ce == l.ce && lun == l.lun then record { stands = k.stands; polls = 0; works = k.works + 1 } else k
count_after many row l k (Ard ce lun fail) = k

-- what is counted of a LUN in a trace
abbrev pub count_in : Bool → List ℕ → Lun → List Item → LunCount
count_in many row l [] = record { stands = 0; polls = 0; works = 0 }
count_in many row l (i ∷ past) = count_after many row l (count_in many row l past) i

abbrev pub or_zeros : Option (List ℕ) → List ℕ
or_zeros None = 0 ∷ (0 ∷ (0 ∷ []))
or_zeros (Some row) = row

-- the row bytes of a poll of a LUN
abbrev pub poll_row : Parts → Lun → List ℕ
poll_row g l = or_zeros (row_bytes_of g l.lun 0 0)

-- what is counted of the LUN of a number
abbrev pub count_of : Parts → ℕ → List Item → LunCount
count_of g n past = count_in (nat_lt 1 g.luns) (poll_row g (numbered g n)) (numbered g n) past

-- each LUN is counted, by its number
abbrev pub AreCounts : Parts → List LunCount → List Item → Type 0
AreCounts g counts past = (n : ℕ) → n < 16 → slice_get counts n ≡ Some (count_of g n past)

-- the count of a number can grow by one
abbrev pub IsFewAt : List LunCount → ℕ → Type 0
IsFewAt counts n = (k : LunCount) → slice_get counts n ≡ Some k → (k.polls < 2 ^ 64 - 1) × (k.works < 2 ^ 64 - 1)

-- what is counted of the LUN of a number after one item more
abbrev pub counted_at : Parts → Item → ℕ → LunCount → LunCount
counted_at g i n k = count_after (nat_lt 1 g.luns) (poll_row g (numbered g n)) (numbered g n) k i

-- of the LUNs from one number to another one item more is counted, and the other counts are as they were
abbrev pub HaveCounted : Parts → Item → List LunCount → List LunCount → ℕ → ℕ → Type 0
HaveCounted g i before later first last =
    ((n : ℕ) (k : LunCount) → first ≤ n → n < last → slice_get before n ≡ Some k → slice_get later n ≡ Some (counted_at g i n k))
    × ((n : ℕ) → (n < first) ⊎ (last ≤ n) → slice_get later n ≡ slice_get before n)

-- of each LUN one item more is counted
abbrev pub HasCounted : Parts → Item → List LunCount → List LunCount → Type 0
HasCounted g i before later = (n : ℕ) (k : LunCount) → slice_get before n ≡ Some k → slice_get later n ≡ Some (counted_at g i n k)

abbrev pub is_data_kind : Kind → Bool
is_data_kind Din = true
is_data_kind Dout = true
is_data_kind _ = false

-- the item is data on the target
abbrev pub gives_data : ℕ → Item → Bool
gives_data ce (Cyc c) = c.ce == ce && is_data_kind c.kind
gives_data ce (Rdy _ _ _) = false
gives_data ce (Ard _ _ _) = false

-- the items from one place to another are data on the target
abbrev pub AreDataFrom : ℕ → List Item → (from to : ℕ) → Type 0
AreDataFrom ce trace from to = (k : ℕ) (d : Item) → from ≤ k → k < to → gives_data ce (slice_index_or trace k d) ≡ true

-- behind a place comes nothing up to another, or data comes directly after data on its target: that is the output of no poll, and changes no count
abbrev pub AreRepeated : List Item → (place to : ℕ) → Type 0
AreRepeated trace place to = (to ≡ place + 1) ⊎ ((ce : ℕ) × AreDataFrom ce trace place to)
