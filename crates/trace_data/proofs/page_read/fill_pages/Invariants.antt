use Rattle.std.proofs.Common.{◌≡◌, drop}
use Rattle.onfi_cycle.specs.declared.page_address.PageAddress.{PageAddress as Page}
use Rattle.die_model.specs.Pages.{kept}
use Rattle.trace_data.specs.Reads.{filled_with}
use Rattle.trace_data.proofs.page_read.fill_pages.Given as goal

abbrev pub invariant-loop-read : goal.invariant-loop-read
invariant-loop-read l = (p : Page) → filled_with (drop l.read-index l.reads) p (kept l.pages p) ≡ filled_with l.reads p (kept l.initial.pages p)
