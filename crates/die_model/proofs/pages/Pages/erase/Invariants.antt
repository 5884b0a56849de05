use Rattle.std.proofs.Common.{◌≡◌}
use Rattle.onfi_cycle.specs.declared.page_address.PageAddress.{PageAddress}
use Rattle.die_model.specs.Pages.{kept}
use Rattle.die_model.proofs.Kept.{erased_to}
use Rattle.die_model.proofs.pages.Pages.erase.Given as goal

abbrev pub invariant-loop-page : goal.invariant-loop-page
invariant-loop-page g l = (p : PageAddress) → kept l.self-inside.map.entries p ≡ erased_to l.initial.self-inside.map.entries l.block l.page p
