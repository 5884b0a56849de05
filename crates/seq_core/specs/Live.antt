-- A step on a real bus, whose chips give whatever bytes they give.
use Rattle.std.specs.Prelude.{◌≡◌, ℕ, Bool, true, false, List, [], ◌∷◌, Option, Some, None, length}
use Rattle.nand_geometry.specs.declared.parts.Parts.{Parts}
use Rattle.onfi_cycle.specs.declared.item.Failures.{Failures}
use Rattle.onfi_cycle.specs.declared.lun.Lun.{Lun}
use Rattle.onfi_cycle.specs.declared.item.Item.{Item}
use Rattle.onfi_cycle.specs.declared.item.Item.TheVariants.{Rdy}
use Rattle.onfi_cycle.specs.Lun.{is_busy}
use Rattle.onfi_cycle.specs.Permitted.{is_permitted}
use Rattle.onfi_cycle.specs.Channel.{Channel, is_there}
use Rattle.micro_program.specs.Lines.{Line}
use Rattle.micro_program.specs.Program.{Job, Done}
use Rattle.micro_program.specs.Moves.{and_then, moves, outputs}
use Rattle.micro_program.specs.Step.{Stride, answered_step}
use Rattle.micro_program.specs.Safe.{AreTruthful, AddsOwn}
use Rattle.seq_core.specs.World.{Slot, World, slot_of}
use Rattle.seq_core.specs.After.{is_held, after_stride}
use Rattle.seq_core.specs.Lawful.{LawfulWorld}

-- how many bytes the next word takes
abbrev pub taken_next : Parts → Job → List Line → List Done → Option ℕ
taken_next g j [] done = None
taken_next g j (line ∷ rest) done = and_then (moves g j done line.word) (λ moved. Some (outputs moved))

-- a step whose outputs gave these bytes: its cycles are permitted where they come and its LUN's own, and it leaves a lawful world
pub record LiveStep (s : Channel) (w : World) (x : Slot) (bytes : List ℕ) : Type 0 where
  pub r : Stride
  pub is_r : answered_step s.geometry x.job bytes w.past x.ahead x.done ≡ Some r
  pub own : AddsOwn s x.job.lun w.past r.past
  pub lawful : LawfulWorld s (after_stride s w x.job.lun x.job r).world

-- the next word takes so many bytes, and whatever they are, if they are truthful, its step goes well
pub record NextTakes (s : Channel) (w : World) (x : Slot) : Type 0 where
  pub count : ℕ
  pub is_count : taken_next s.geometry x.job x.ahead x.done ≡ Some count
  pub goes : (bytes : List ℕ) → length bytes ≡ count → AreTruthful s.geometry x.job.lun w.past x.ahead bytes → LiveStep s w x bytes

-- the law: so it is in every lawful world, of each program that goes on and may step
abbrev pub LiveStepsGoWell : Type 0
LiveStepsGoWell =
    (s : Channel) (w : World) (l : Lun) (x : Slot) → LawfulWorld s w → slot_of s w l ≡ Some x → x.code ≡ None → is_held w.holder l ≡ false → NextTakes s w x

-- the law: truth can be had. Where a poll says ready of a LUN that is busy in the trace, a ready is permitted before it, and then the LUN isn't busy
abbrev pub ReadiesMakeTruth : Type 0
ReadiesMakeTruth =
    (s : Channel) (past : List Item) (l : Lun) (fail : Failures) → is_there s l ≡ true → is_busy s.geometry past l ≡ true
    → (is_permitted s.geometry s.targets past (Rdy l.ce l.lun fail) ≡ true) × (is_busy s.geometry (Rdy l.ce l.lun fail ∷ past) l ≡ false)
