-- A program that runs alone, and that it ends.
use Rattle.std.specs.Prelude.{◌≡◌, ℕ, zero, suc, ◌+◌, ◌*◌, ◌≤◌, false, Option, Some, None, length}
use Rattle.onfi_cycle.specs.declared.item.Failures.{Failures}
use Rattle.onfi_cycle.specs.declared.lun.Lun.{Lun}
use Rattle.onfi_cycle.specs.Channel.{Channel, IsChannel}
use Rattle.micro_program.specs.Moves.{and_then}
use Rattle.seq_core.specs.declared.stepped.Stepped.TheVariants.{NotReady, Ended}
use Rattle.seq_core.specs.World.{Slot, World, slot_of}
use Rattle.seq_core.specs.Event.{Step, Ready}
use Rattle.seq_core.specs.Reply.{Reply, ToStep}
use Rattle.seq_core.specs.After.{after, is_held}
use Rattle.seq_core.specs.Lawful.{LawfulWorld}

-- a ready that tells of no failure
abbrev pub no_failures : Failures
no_failures = record { last = false; before = false }

-- behind a step: the program has ended, or its LUN becomes ready without failure where it wasn't, and it goes on
abbrev pub alone_behind : Channel → Lun → (World → Option World) → World → Reply → Option World
alone_behind s l goes_on w (ToStep Ended) = Some w
alone_behind s l goes_on w (ToStep NotReady) = and_then (after s w (Ready l no_failures)) (λ a. goes_on a.world)
alone_behind s l goes_on w _ = goes_on w

-- the world in which the program of a LUN has ended, stepped alone in so many turns at most
abbrev pub alone_on : Channel → Lun → (turns : ℕ) → World → Option World
alone_on s l zero w = None
alone_on s l (suc turns) w = and_then (after s w (Step l)) (λ a. alone_behind s l (alone_on s l turns) a.world a.reply)

-- the program has ended with a code, in a lawful world
pub record HasEndedAlone (s : Channel) (l : Lun) (turns : ℕ) (w : World) : Type 0 where
  pub end : World
  pub is_end : alone_on s l turns w ≡ Some end
  pub lawful : LawfulWorld s end
  pub slot : Slot
  pub is_slot : slot_of s end l ≡ Some slot
  pub code : ℕ
  pub is_code : slot.code ≡ Some code

-- the law: a program that may step ends when it is stepped alone, in two turns for each line to come and one more
abbrev pub AloneProgramsEnd : Type 0
AloneProgramsEnd =
    (s : Channel) → IsChannel s → (w : World) (l : Lun) (x : Slot) (turns : ℕ) → LawfulWorld s w → slot_of s w l ≡ Some x → x.code ≡ None → is_held w.holder l ≡ false
    → 2 * length x.ahead + 1 ≤ turns → HasEndedAlone s l turns w
