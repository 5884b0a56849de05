-- The scene behind a status poll.
use Rattle.std.proofs.Common.{◌≡◌, ℕ, Bool, true, false, List, ◌∷◌, refl, sym, ap, ◌∙◌}
use Rattle.onfi_cycle.specs.declared.lun.Lun.{Lun}
use Rattle.onfi_cycle.specs.declared.item.Item.{Item}
use Rattle.onfi_cycle.specs.declared.item.Kind.TheVariants.{Dout}
use Rattle.onfi_cycle.specs.declared.latch.Latch.TheVariants.{Status}
use Rattle.onfi_cycle.specs.declared.target_cycle.TargetCycle.TheVariants.{OutputCycle}
use Rattle.onfi_cycle.specs.LunView.{LunView}
use Rattle.onfi_cycle.specs.Sequence.{tail, facts_of, facts_after, is_open}
use Rattle.onfi_cycle.specs.Lun.{lun_view}
use Rattle.onfi_cycle.specs.Channel.{Channel, is_there, cycle}
use Rattle.micro_program.specs.Program.{Job}
use Rattle.micro_program.proofs.Polls.{Polling, PollLeaves, lost}
use Rattle.micro_program.proofs.Scenes.{Scene, IsScene}
use Rattle.micro_program.proofs.Stepping.{scene_next}

-- a LUN that was asked for its status
abbrev pub polled_view : (selected overlapped : Bool) → LunView → LunView
polled_view selected overlapped v = record v { latch = Status; selected = selected; overlapped = overlapped; column = lost v.column }

-- the scene behind a poll: nothing is open, and the LUN drives alone and shows its status
pub record PolledScene (s : Channel) (l : Lun) (later : List Item) (before : Scene) : Type 0 where
  pub now : Scene
  pub is : IsScene s l later now
  pub closed : is_open now.facts ≡ false
  pub selected : Bool
  pub overlapped : Bool
  pub view : now.view ≡ polled_view selected overlapped before.view
  pub sole : now.sole ≡ true

pub poll_scene : (s : Channel) (j : Job) (past : List Item) (c : Scene) → is_there s j.lun ≡ true → IsScene s j.lun past c → (p : Polling s j past) (byte : ℕ) (left : PollLeaves s j past p byte) → PolledScene s j.lun (cycle j.lun.ce Dout byte ∷ p.polled) c
poll_scene s j past c there is p byte left =
    record {
      now = record { facts = facts_after OutputCycle (facts_of (tail p.polled j.lun.ce)); view = polled_view asked.selected asked.overlapped c.view; sole = true };
      is = record { facts = next.facts; view = next.view; sole = λ e. next.sole refl; free = next.free };
      closed = ap is_open (sym next.facts) ∙ left.closed;
      selected = asked.selected;
      overlapped = asked.overlapped;
      view = refl;
      sole = refl;
    }
  where
    asked : LunView
    asked = lun_view s.geometry p.polled j.lun

    view_is : lun_view s.geometry p.polled j.lun ≡ polled_view asked.selected asked.overlapped (lun_view s.geometry past j.lun)
    view_is = λ i. record { latch = p.shows i; selected = asked.selected; overlapped = asked.overlapped; busy = p.leaves.busy i; closer = p.leaves.closer i; array_busy = p.leaves.array_busy i; array_page = p.leaves.array_page i; register = p.leaves.register i; column = p.column i; queue = p.leaves.queue i; held = p.leaves.held i }

    now : Scene
    now = record { facts = facts_of (tail p.polled j.lun.ce); view = polled_view asked.selected asked.overlapped c.view; sole = true }

    now_is : IsScene s j.lun p.polled now
    now_is = record { facts = refl; view = view_is ∙ ap (polled_view asked.selected asked.overlapped) is.view; sole = λ e. p.one; free = p.free is.free }

    next : IsScene s j.lun (cycle j.lun.ce Dout byte ∷ p.polled) (record { facts = facts_after OutputCycle (facts_of (tail p.polled j.lun.ce)); view = polled_view asked.selected asked.overlapped c.view; sole = true })
    next = scene_next s j.lun p.polled now there now_is Dout byte (record { closed = p.closed; sole = refl; has_byte = refl; inside = refl })
