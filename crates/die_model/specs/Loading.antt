-- What an image says: its first fault, and the bytes of each page.
use Rattle.std.specs.Prelude.{◌≡◌, ℕ, zero, suc, ◌+◌, ◌*◌, ◌^◌, ◌<◌, ◌==◌, Bool, true, false, ◌&&◌, not, nat_eq, nat_lt, if◌then◌else◌, List, codes, length, take, drop, replicate, Option, Some, None, Result, Err, IfErr}
use Rattle.std.specs.List.{starts_with}
use Rattle.nand_geometry.specs.declared.parts.Parts.{Parts}
use Rattle.nand_geometry.specs.Limits.{page_len}
use Rattle.nand_geometry.specs.Reading.{u32_at}
use Rattle.nand_geometry.specs.Row.{parts_of, is_inside}
use Rattle.onfi_cycle.specs.declared.page_address.PageAddress.{PageAddress}
use Rattle.onfi_cycle.specs.Bounds.{is_row}
use Rattle.onfi_cycle.specs.Content.{same_page}
use Rattle.onfi_cycle.specs.Effect.{page_address}
use Rattle.die_model.specs.declared.refusal.ImageFault.{ImageFault}
use Rattle.die_model.specs.declared.refusal.ImageFault.TheVariants.{Length, Magic, Numbers, Order, Row}
use Rattle.die_model.specs.declared.refusal.ImageRefusal.{ImageRefusal}
use Rattle.die_model.specs.declared.refusal.ImageRefusal.TheVariants.{Fault, OutOfMemory}
use Rattle.die_model.specs.Pages.{kept}
use Rattle.die_model.specs.Die.{Die, page_of}
use Rattle.die_model.specs.Image.{magic, count_of}

-- the code under which a fault is told
abbrev pub code : ImageFault → List ℕ
code Length = codes "I1"
code Magic = codes "I2"
code Numbers = codes "I3"
code Order = codes "I4"
code Row = codes "I5"

-- the header has the numbers of the geometry
abbrev pub has_numbers : Parts → List ℕ → Bool
has_numbers g bytes = u32_at bytes 4 == g.page_bytes && (u32_at bytes 8 == g.spare_bytes && (u32_at bytes 12 == g.pages && u32_at bytes 16 == g.blocks))

-- how many entries the header tells of, and the bytes that follow it
abbrev pub count_told : List ℕ → ℕ
count_told bytes = u32_at bytes 20

abbrev pub entries_told : List ℕ → List ℕ
entries_told bytes = drop 24 bytes

-- how many bytes an entry has
abbrev pub entry_len : Parts → ℕ
entry_len g = 4 + page_len g

-- the row of the first entry
abbrev pub first_row : List ℕ → ℕ
first_row entries = u32_at entries 0

abbrev pub first_page : Parts → List ℕ → PageAddress
first_page g entries = page_address g (first_row entries)

-- the bytes of its page
abbrev pub first_bytes : Parts → List ℕ → List ℕ
first_bytes g entries = drop 4 (take (entry_len g) entries)

-- a row is a page of LUN 0 inside the geometry
abbrev pub is_page : Parts → ℕ → Bool
is_page g row = (parts_of g row).lun == 0 && is_inside g (parts_of g row)

-- what is wrong with a row, where no row below `least` may come any more
abbrev pub row_fault : Parts → (least row : ℕ) → Option ImageFault
row_fault g least row = if is_page g row then (if nat_lt row least then Some Order else None) else Some Row

-- a fault that was found, or else what is found further on
abbrev pub or_later : Option ImageFault → Option ImageFault → Option ImageFault
or_later (Some fault) later = Some fault
or_later None later = later

-- the first fault of so many entries
abbrev pub entries_fault : Parts → (count least : ℕ) → List ℕ → Option ImageFault
entries_fault g zero least entries = None
entries_fault g (suc count) least entries = or_later (row_fault g least (first_row entries)) (entries_fault g count (first_row entries + 1) (drop (entry_len g) entries))

-- the first fault of an image
abbrev pub image_fault : Parts → List ℕ → Option ImageFault
image_fault g bytes =
    if nat_lt (length bytes) 24 then Some Length else (
    if not (starts_with nat_eq bytes magic) then Some Magic else (
    if not (has_numbers g bytes) then Some Numbers else (
    if not (length bytes == 24 + count_told bytes * entry_len g) then Some Length else
    entries_fault g (count_told bytes) 0 (entries_told bytes))))

-- the bytes of a page by so many entries, and by those before them
abbrev pub told : Parts → ℕ → List ℕ → PageAddress → List ℕ → List ℕ
told g zero entries p before = before
told g (suc count) entries p before = told g count (drop (entry_len g) entries) p (if same_page p (first_page g entries) then first_bytes g entries else before)

-- the bytes of a page by an image: those of its entry, or FF
abbrev pub page_told : Parts → List ℕ → PageAddress → List ℕ
page_told g bytes p = told g (count_told bytes) (entries_told bytes) p (replicate (page_len g) 0xff)

-- the row of each of so many entries is a page
abbrev pub are_pages : Parts → ℕ → List ℕ → Bool
are_pages g zero entries = true
are_pages g (suc count) entries = is_page g (first_row entries) && are_pages g count (drop (entry_len g) entries)

-- kept pages lie inside the geometry, and have the length of a page
pub record ArePages (g : Parts) (pages : List ((ℕ × ℕ) × List ℕ)) : Type 0 where
  pub inside : (p : PageAddress) → is_row g p ≡ false → kept pages p ≡ None
  pub lengths : (p : PageAddress) (bytes : List ℕ) → kept pages p ≡ Some bytes → length bytes ≡ page_len g

-- an image with a fault is refused for it, and one without can only lack memory
abbrev pub IsJudgedBy : Option ImageFault → {X : Type 0} → Result X ImageRefusal → Type 0
IsJudgedBy (Some fault) result = result ≡ Err (Fault fault)
IsJudgedBy None result = IfErr result (λ e. e ≡ OutOfMemory)

-- the die has the pages of the image, and is as before in all else
pub record IsLoaded (bytes : List ℕ) (old new : Die) : Type 0 where
  pub rest : new ≡ record old { pages = new.pages }
  pub pages : (p : PageAddress) → page_of new p ≡ page_told old.geometry bytes p

-- the image of a die gives its pages again: it has no fault for a die of this geometry, and says the bytes of each page; and its count
-- of entries fits four bytes
pub record Restores (bytes : List ℕ) (d : Die) : Type 0 where
  pub faultless : image_fault d.geometry bytes ≡ None
  pub pages : (p : PageAddress) → page_told d.geometry bytes p ≡ page_of d p
  pub count : count_of d.geometry d.pages < 2 ^ 32

-- the law: what an image restores of a die, a new die of the same geometry has when it is loaded; each page has the same bytes
abbrev pub ImagesRestore : Type 0
ImagesRestore =
    (bytes : List ℕ) (d old new : Die) → Restores bytes d → old.geometry ≡ d.geometry → IsLoaded bytes old new
    → (p : PageAddress) → page_of new p ≡ page_of d p
