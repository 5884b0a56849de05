-- How a die stands for its LUN after a past.
use Rattle.std.specs.Prelude.{◌≡◌, ℕ, ◌<◌, Bool, true, false, List, [], ◌∷◌, Option, None, Some, length}
use Rattle.nand_geometry.specs.declared.parts.Parts.{Parts}
use Rattle.nand_geometry.specs.Limits.{page_len, planes}
use Rattle.nand_geometry.specs.Page.{parameter_bytes}
use Rattle.onfi_cycle.specs.declared.item.Item.{Item}
use Rattle.onfi_cycle.specs.declared.lun.Lun.{Lun}
use Rattle.onfi_cycle.specs.declared.page_address.PageAddress.{PageAddress}
use Rattle.onfi_cycle.specs.declared.target_cycle.TargetCycle.{TargetCycle}
use Rattle.onfi_cycle.specs.declared.effect.Effect.{Effect}
use Rattle.onfi_cycle.specs.declared.effect.Effect.TheVariants.{BecameReady, ArrayBecameReady, ProgramAddressed}
use Rattle.die_model.specs.declared.work.Work.{Work}
use Rattle.onfi_cycle.specs.Sequence.{tail, facts_of, filled, row}
use Rattle.onfi_cycle.specs.Bounds.{names_program, RowFits}
use Rattle.onfi_cycle.specs.Effect.{names_lun, page_address, HasPlanes}
use Rattle.onfi_cycle.specs.Lun.{effect_on, closer, is_busy, is_array_busy, array_page, register, held, queue, lun_view}
use Rattle.onfi_cycle.specs.Content.{queued_work, pending_work, array_work, has_failed, has_failed_before, content, begun_with, status, register_bytes}
use Rattle.onfi_cycle.specs.Permitted.{broken}
use Rattle.onfi_cycle.specs.Channel.{Channel}
use Rattle.die_model.specs.Die.{Die, CanBegin, work_begun, status_of, bytes_shown, is_new, IsAfter, page_of, plane_bytes, queued_of, pending_of}
use Rattle.onfi_cycle.specs.declared.filling.Filling.{Filling}
use Rattle.onfi_cycle.specs.declared.filling.Filling.TheVariants.{Leaves, Clears, Copies, Fills}
use Rattle.onfi_cycle.specs.Filling.{filling, filled_by}

-- while a program of the LUN is open on its target, which began with these bytes, the die is ready, and the register of the plane has the bytes so far
pub record HasBytes (g : Parts) (begun : List ℕ) (t : List TargetCycle) (d : Die) : Type 0 where
  pub ready : d.busy ≡ false
  pub bytes : plane_bytes g d.planes (page_address g (row (facts_of t))) ≡ filled begun t

abbrev pub IsFilling : Parts → List ℕ → List TargetCycle → ℕ → Die → Type 0
IsFilling g begun t lun d = names_program (facts_of t) ≡ true → names_lun g (row (facts_of t)) lun ≡ true → HasBytes g begun t d

-- the die has what the LUN has after the past.
pub record IsDieOf (s : Channel) (past : List Item) (l : Lun) (d : Die) : Type 0 where
  pub geometry : d.geometry ≡ s.geometry
  pub pages : (p : PageAddress) → page_of d p ≡ content s.geometry s.opening past l p
  pub register : d.register ≡ register s.geometry past l
  pub held : d.held ≡ held s.geometry past l
  pub array_page : d.array_page ≡ array_page s.geometry past l
  pub busy : d.busy ≡ is_busy s.geometry past l
  pub closer : d.closer ≡ closer s.geometry past l
  pub array_busy : d.array_busy ≡ is_array_busy s.geometry past l
  pub queue : d.queued ≡ queue s.geometry past l
  pub queued : queued_of d ≡ queued_work s.geometry s.opening past l
  pub pending : pending_of d ≡ pending_work s.geometry s.opening past l
  pub in_array : d.in_array ≡ array_work s.geometry s.opening past l
  pub failed : d.failed ≡ has_failed s.geometry past l
  pub failed_before : d.failed_before ≡ has_failed_before s.geometry past l
  pub count : length d.planes ≡ planes s.geometry
  pub open_program : IsFilling s.geometry (begun_with s.geometry (content s.geometry s.opening past l) past l) (tail past l.ce) l.lun d

-- the pages that stay held where a page register gets other bytes
abbrev pub kept_held : Effect → List PageAddress → List PageAddress
kept_held ProgramAddressed held = []
kept_held e held = held

-- an item is worked on a die: by its effect, or by what it does to a page register
abbrev pub WorkedBy : Parts → Filling → Effect → Die → Die → Type 0
WorkedBy g Leaves e old new = IsAfter e old new
WorkedBy g (Clears at) e old new = new ≡ record old { planes = filled_by g (page_of old) (Clears at) old.planes; held = kept_held e old.held }
WorkedBy g (Copies at from) e old new = new ≡ record old { planes = filled_by g (page_of old) (Copies at from) old.planes; held = kept_held e old.held }
WorkedBy g (Fills at column byte) e old new = new ≡ record old { planes = filled_by g (page_of old) (Fills at column byte) old.planes }

abbrev pub CanBeginSome : Option Work → Die → Type 0
CanBeginSome None d = Unit {0}
CanBeginSome (Some work) d = CanBegin work d

-- the effect isn't that of a ready
abbrev pub is_no_ready : Effect → Bool
is_no_ready (BecameReady fail) = false
is_no_ready (ArrayBecameReady fail) = false
is_no_ready e = true

-- what a caller of `work` sees to
abbrev pub CanWork : Filling → Effect → Die → Type 0
CanWork Leaves e d = CanBeginSome (work_begun e) d × (is_no_ready e ≡ true) × HasPlanes e
CanWork (Clears at) e d = Unit {0}
CanWork (Copies at from) e d = Unit {0}
CanWork (Fills at column byte) e d = column < page_len d.geometry

abbrev pub IsWorked : Channel → List Item → Item → Lun → Die → Die → Type 0
IsWorked s past i l old new = WorkedBy s.geometry (filling s.geometry (facts_of (tail past l.ce)) i l (held s.geometry past l)) (effect_on s.geometry past i l) old new

-- the row that a tail names goes together with the queue of the LUN
abbrev pub RowsFit : Parts → List Item → Lun → Type 0
RowsFit g past l = RowFits g (facts_of (tail past l.ce)) l.lun (lun_view g past l)

-- the law: a die that stands for its LUN and on which a permitted item is worked stands for it after the item
abbrev pub DiesGoOn : Type 0
DiesGoOn =
    (s : Channel) (past : List Item) (i : Item) (l : Lun) (old new : Die) → broken s.geometry s.targets past i ≡ None
    → l.lun < s.geometry.luns → RowsFit s.geometry past l
    → IsDieOf s past l old → IsWorked s past i l old new → IsDieOf s (i ∷ past) l new

-- the law: a die that stands for its LUN shows the status and the register's bytes that the definitions give
pub record DiesShow : Type 0 where
  pub status : (s : Channel) (past : List Item) (l : Lun) (d : Die) → IsDieOf s past l d → status_of d ≡ status s.geometry past l
  pub bytes : (s : Channel) (past : List Item) (l : Lun) (d : Die) → IsDieOf s past l d → parameter_bytes s.geometry ≡ s.parameters → bytes_shown d ≡ register_bytes s.parameters (content s.geometry s.opening past l) (register s.geometry past l)
  pub first : (s : Channel) (l : Lun) (d : Die) → d.geometry ≡ s.geometry → ((p : PageAddress) → page_of d p ≡ s.opening l p) → is_new d ≡ true → d.array_page ≡ record { block = 0; page = 0 } → length d.planes ≡ planes s.geometry → IsDieOf s [] l d
