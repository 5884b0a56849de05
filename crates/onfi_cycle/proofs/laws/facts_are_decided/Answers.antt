use Rattle.onfi_cycle.proofs.Decided.{busy_is_decided, closer_decided, array_busy_is_decided, array_page_is_decided, register_is_decided, column_is_decided, queue_is_decided, held_is_decided}
use Rattle.onfi_cycle.proofs.Latches.{latch_is_decided}
use Rattle.onfi_cycle.proofs.Selected.{selected_is_decided, overlapped_is_decided}
use Rattle.onfi_cycle.proofs.laws.facts_are_decided.Goals as goal

pub returns : goal.returns
returns c =
    record {
      busy = busy_is_decided;
      closer = closer_decided;
      array_busy = array_busy_is_decided;
      array_page = array_page_is_decided;
      register = register_is_decided;
      column = column_is_decided;
      queue = queue_is_decided;
      held = held_is_decided;
      selected = selected_is_decided;
      overlapped = overlapped_is_decided;
      latch = latch_is_decided;
    }
