-- What the rules see of a LUN.
use Rattle.std.specs.Prelude.{Bool, Option, List}
use Rattle.onfi_cycle.specs.declared.command.Command.{Command}
use Rattle.onfi_cycle.specs.declared.latch.Latch.{Latch}
use Rattle.onfi_cycle.specs.declared.page_address.PageAddress.{PageAddress}
use Rattle.onfi_cycle.specs.declared.register.Register.{Register}
use Rattle.onfi_cycle.specs.declared.read_column.ReadColumn.{ReadColumn}
use Rattle.onfi_cycle.specs.declared.queued.Queued.{Queued}

pub record LunView : Type 0 where
  pub latch : Latch
  pub selected : Bool
  pub overlapped : Bool
  pub busy : Bool
  pub closer : Option Command
  pub array_busy : Bool
  pub array_page : PageAddress
  pub register : Register
  pub column : ReadColumn
  pub queue : List Queued
  pub held : List PageAddress
