-- The pages that the outputs of a LUN give whole.
use Rattle.std.specs.Prelude.{◌≡◌, ℕ, ◌==◌, Bool, true, false, ◌&&◌, not, if◌then◌else◌, List, [], ◌∷◌, ◌++◌, Option, Some, None, length}
use Rattle.std.specs.List.{list_any}
use Rattle.nand_geometry.specs.declared.parts.Parts.{Parts}
use Rattle.nand_geometry.specs.Limits.{page_len}
use Rattle.onfi_cycle.specs.declared.lun.Lun.{Lun}
use Rattle.onfi_cycle.specs.declared.lun_state.LunState.{LunState}
use Rattle.onfi_cycle.specs.declared.item.Item.{Item}
use Rattle.onfi_cycle.specs.declared.item.Item.TheVariants.{Cyc, Rdy, Ard}
use Rattle.onfi_cycle.specs.declared.item.Kind.{Kind}
use Rattle.onfi_cycle.specs.declared.item.Kind.TheVariants.{Cmd, Adr, Din, Dout}
use Rattle.onfi_cycle.specs.declared.page_address.PageAddress.{PageAddress}
use Rattle.onfi_cycle.specs.declared.effect.Effect.{Effect}
use Rattle.onfi_cycle.specs.Content.{same_page}
use Rattle.onfi_cycle.specs.Lun.{effect_on}
use Rattle.onfi_cycle.specs.Look.{look_after}
use Rattle.onfi_cycle.specs.Permitted.{broken}
use Rattle.target_bus.specs.Bus.{Entries}
use Rattle.die_model.specs.Pages.{kept}
use Rattle.trace_data.specs.declared.origin.Origin.{Origin}
use Rattle.trace_data.specs.declared.origin.Origin.TheVariants.{Unknown, Beginning, Erased, Programmed}
use Rattle.trace_data.specs.declared.lun_work.EndedWork.{EndedWork}
use Rattle.trace_data.specs.declared.page_shown.PageShown.{PageShown}
use Rattle.trace_data.specs.Data.{Works, no_works, works_after, origin_by, shown_of, if_permitted}

-- a page and its bytes from column 0 on
pub record PageBytes : Type 0 where
  pub page : PageAddress
  pub bytes : List ℕ

-- what is gathered: the read that goes on, the first whole read of each page, and the works on the LUN
pub record Gathering : Type 0 where
  pub going : Option PageBytes
  pub whole : List PageBytes
  pub works : Works

abbrev pub nothing_gathered : Gathering
nothing_gathered = record { going = None; whole = []; works = no_works }

-- ---- one output

-- the output is of the page of the read, and of the column behind its bytes
abbrev pub is_next : PageBytes → PageShown → Bool
is_next read shown = same_page shown.page read.page && shown.column == length read.bytes

abbrev pub continued : Option PageBytes → PageShown → (byte : ℕ) → Option PageBytes
continued None shown byte = None
continued (Some read) shown byte = if is_next read shown then Some (record read { bytes = read.bytes ++ (byte ∷ []) }) else None

-- a read begins with column 0, and goes on with each column behind it
abbrev pub read_with : Option PageBytes → PageShown → (byte : ℕ) → Option PageBytes
read_with going shown byte = if shown.column == 0 then Some (record { page = shown.page; bytes = byte ∷ [] }) else continued going shown byte

abbrev pub has_page : List PageBytes → PageAddress → Bool
has_page reads page = list_any (λ (read : PageBytes). same_page read.page page) reads

-- the first read of a page stays
abbrev pub with_whole : List PageBytes → PageBytes → List PageBytes
with_whole reads read = if has_page reads read.page then reads else reads ++ (read ∷ [])

-- a read that has so many bytes is whole
abbrev pub gone_on : (len : ℕ) → Option PageBytes → Gathering → Gathering
gone_on len None r = record r { going = None }
gone_on len (Some read) r =
    if length read.bytes == len then record r { going = None; whole = with_whole r.whole read } else record r { going = Some read }

-- an output that gives no page changes nothing
abbrev pub with_output : (len : ℕ) → Option PageShown → (byte : ℕ) → Gathering → Gathering
with_output len None byte r = r
with_output len (Some shown) byte r = gone_on len (read_with r.going shown byte) r

-- ---- one item

abbrev pub with_cycle : (len : ℕ) → (is_of_target : Bool) → Option PageShown → Kind → (byte : ℕ) → Gathering → Gathering
with_cycle len is_of_target shown Cmd byte r = r
with_cycle len is_of_target shown Adr byte r = r
with_cycle len is_of_target shown Din byte r = r
with_cycle len is_of_target shown Dout byte r = if is_of_target then with_output len shown byte r else r

abbrev pub with_bytes : (len : ℕ) → Lun → Option LunState → Item → Gathering → Gathering
with_bytes len l look (Cyc c) r = with_cycle len (c.ce == l.ce) (shown_of l look) c.kind c.byte r
with_bytes len l look (Rdy ce lun fail) r = r
with_bytes len l look (Ard ce lun fail) r = r

-- which item a work began at isn't asked
abbrev pub with_effect : Effect → Gathering → Gathering
with_effect effect r = record r { works = works_after effect 0 r.works }

abbrev pub with_item : (len : ℕ) → Lun → Option LunState → Effect → Item → Gathering → Gathering
with_item len l look effect i r = with_effect effect (with_bytes len l look i r)

-- ---- a trace

-- what is gathered of the items up to the first that isn't permitted
abbrev pub gathered_from : Parts → (targets : ℕ) → Lun → List Item → (items : List Item) → Gathering → Gathering
gathered_from g targets l past [] r = r
gathered_from g targets l past (i ∷ items) r =
    if_permitted (broken g targets past i)
    (gathered_from g targets l (i ∷ past) items (with_item (page_len g) l (look_after g targets past l) (effect_on g past i l) i r))
    (λ rule. r)

abbrev pub is_beginning : Origin → Bool
is_beginning Unknown = false
is_beginning Beginning = true
is_beginning (Erased n) = false
is_beginning (Programmed n) = false

-- those whose page holds after these works what it held at the beginning
abbrev pub left_alone : List EndedWork → List PageBytes → List PageBytes
left_alone ended [] = []
left_alone ended (read ∷ reads) = if is_beginning (origin_by ended read.page Beginning) then read ∷ left_alone ended reads else left_alone ended reads

abbrev pub reads_of : Gathering → List PageBytes
reads_of r = left_alone r.works.ended r.whole

-- of each page that no work of the trace has left otherwise, its first read that gave all its bytes
abbrev pub page_reads : Parts → (targets : ℕ) → Lun → (items : List Item) → List PageBytes
page_reads g targets l items = reads_of (gathered_from g targets l [] items nothing_gathered)

-- ---- pages that are filled

abbrev pub is_kept : Option (List ℕ) → Bool
is_kept None = false
is_kept (Some bytes) = true

-- what is kept of a page, once that page was read
abbrev pub filled_by : PageBytes → PageAddress → Option (List ℕ) → Option (List ℕ)
filled_by read p old = if same_page p read.page && not (is_kept old) then Some read.bytes else old

abbrev pub filled_with : List PageBytes → PageAddress → Option (List ℕ) → Option (List ℕ)
filled_with [] p old = old
filled_with (read ∷ reads) p old = filled_with reads p (filled_by read p old)

-- each page that isn't kept and was read is kept as its first read gave it, and nothing else changes
abbrev pub AreFilled : List PageBytes → (pages later : Entries) → Type 0
AreFilled reads pages later = (p : PageAddress) → kept later p ≡ filled_with reads p (kept pages p)
