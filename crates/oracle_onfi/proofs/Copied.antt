-- A program begins with the bytes of the page that its effect copies; no other effect looks at a program's bytes.
use Rattle.std.proofs.Common.{◌≡◌, ℕ, List, ◌∷◌, Option, refl, sym, ap, ◌∙◌}
use Rattle.nand_geometry.specs.declared.parts.Parts.{Parts}
use Rattle.onfi_cycle.specs.declared.command.Command.{Command}
use Rattle.onfi_cycle.specs.declared.effect.Effect.{Effect}
use Rattle.onfi_cycle.specs.declared.effect.Effect.TheVariants.{ProgramStarted, CacheProgramStarted}
use Rattle.onfi_cycle.specs.declared.item.Item.{Item}
use Rattle.onfi_cycle.specs.declared.lun.Lun.{Lun}
use Rattle.onfi_cycle.specs.declared.page_address.PageAddress.{PageAddress}
use Rattle.onfi_cycle.specs.Content.{ArrayWork, LunPages, array_work, array_work_after, bytes_held, content, content_after, pages_after, pages_of, pending_work, pending_work_after, program_bytes, queued_work, queued_work_after}
use Rattle.onfi_cycle.specs.Lun.{effect_on, closer}
use Rattle.onfi_cycle.specs.Sequence.{filled, tail}
use Rattle.oracle_onfi.specs.Copied.{page_begun_with, page_copied}

-- the bytes of the program that an effect closes
abbrev pub bytes_closed : Parts → (PageAddress → List ℕ) → Effect → List Item → Lun → List ℕ
bytes_closed g content a past l = filled (bytes_held g content (page_copied a (page_begun_with g past l))) (tail past l.ce)

closed_pages : (g : Parts) (content : PageAddress → List ℕ) (a : Effect) (last : Option Command) (past : List Item) (l : Lun) (s : LunPages) → pages_after g a last (bytes_closed g content a past l) s ≡ pages_after g a last (program_bytes g content past l) s
closed_pages g content (ProgramStarted queued at) last past l s = refl
closed_pages g content (CacheProgramStarted at) last past l s = refl
closed_pages g content a last past l s = refl

-- the pages after an item, by what its effect closes
next_pages : (g : Parts) (opening : Lun → PageAddress → List ℕ) (past rest : List Item) (i : Item) (l : Lun) (a : Effect) (bytes : List ℕ) → past ≡ i ∷ rest → a ≡ effect_on g rest i l → bytes ≡ bytes_closed g (content g opening rest l) a rest l
    → pages_after g a (closer g rest l) bytes (pages_of g opening rest l) ≡ pages_of g opening past l
next_pages g opening past rest i l a bytes parts effect_is bytes_are =
    ap (λ (bs : List ℕ). pages_after g a (closer g rest l) bs (pages_of g opening rest l)) bytes_are
    ∙ (closed_pages g (content g opening rest l) a (closer g rest l) rest l (pages_of g opening rest l)
    ∙ (ap (λ (b : Effect). pages_after g b (closer g rest l) (program_bytes g (content g opening rest l) rest l) (pages_of g opening rest l)) effect_is
    ∙ ap (λ (xs : List Item). pages_of g opening xs l) (sym parts)))

pub queue_is : (g : Parts) (opening : Lun → PageAddress → List ℕ) (past rest : List Item) (i : Item) (l : Lun) (a : Effect) (bytes : List ℕ) (works : List ArrayWork) → past ≡ i ∷ rest → a ≡ effect_on g rest i l
    → bytes ≡ bytes_closed g (content g opening rest l) a rest l → works ≡ queued_work g opening rest l → queued_work_after a bytes works ≡ queued_work g opening past l
queue_is g opening past rest i l a bytes works parts effect_is bytes_are works_are =
    ap (λ (ws : List ArrayWork). queued_work_after a bytes ws) works_are ∙ ap (λ (s : LunPages). s.queued) (next_pages g opening past rest i l a bytes parts effect_is bytes_are)

pub pending_is : (g : Parts) (opening : Lun → PageAddress → List ℕ) (past rest : List Item) (i : Item) (l : Lun) (a : Effect) (bytes : List ℕ) (works pending : List ArrayWork) → past ≡ i ∷ rest → a ≡ effect_on g rest i l
    → bytes ≡ bytes_closed g (content g opening rest l) a rest l → works ≡ queued_work g opening rest l → pending ≡ pending_work g opening rest l → pending_work_after a bytes works pending ≡ pending_work g opening past l
pending_is g opening past rest i l a bytes works pending parts effect_is bytes_are works_are pending_are =
    ap (λ (ws : List ArrayWork). pending_work_after a bytes ws pending) works_are
    ∙ (ap (λ (ws : List ArrayWork). pending_work_after a bytes (queued_work g opening rest l) ws) pending_are
    ∙ ap (λ (s : LunPages). s.pending) (next_pages g opening past rest i l a bytes parts effect_is bytes_are))

pub array_is : (g : Parts) (opening : Lun → PageAddress → List ℕ) (past rest : List Item) (i : Item) (l : Lun) (a : Effect) (last : Option Command) (pending works : List ArrayWork) → past ≡ i ∷ rest → a ≡ effect_on g rest i l
    → last ≡ closer g rest l → pending ≡ pending_work g opening rest l → works ≡ array_work g opening rest l → array_work_after a last pending works ≡ array_work g opening past l
array_is g opening past rest i l a last pending works parts effect_is last_is pending_are works_are =
    (λ k. array_work_after a (last_is k) (pending_are k) (works_are k))
    ∙ ap (λ (s : LunPages). s.in_array) (next_pages g opening past rest i l a (bytes_closed g (content g opening rest l) a rest l) parts effect_is refl)

pub page_is : (g : Parts) (opening : Lun → PageAddress → List ℕ) (past rest : List Item) (i : Item) (l : Lun) (a : Effect) (last : Option Command) (pending works : List ArrayWork) (page : PageAddress) (old : List ℕ) → past ≡ i ∷ rest → a ≡ effect_on g rest i l
    → last ≡ closer g rest l → pending ≡ pending_work g opening rest l → works ≡ array_work g opening rest l → old ≡ content g opening rest l page → content_after g a last pending works page old ≡ content g opening past l page
page_is g opening past rest i l a last pending works page old parts effect_is last_is pending_are works_are old_is =
    (λ k. content_after g a (last_is k) (pending_are k) (works_are k) page (old_is k))
    ∙ ap (λ (s : LunPages). s.content page) (next_pages g opening past rest i l a (bytes_closed g (content g opening rest l) a rest l) parts effect_is refl)
