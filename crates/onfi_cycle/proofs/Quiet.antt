-- Effects that leave all of a LUN but its latch and column.
use Rattle.std.proofs.Common.{◌≡◌, ℕ, Bool, true, false, ◌||◌, List, Option, refl, ap, inl, inr, ltb}
use Rattle.std.proofs.Math.Bool.{or-false, or-true}
use Rattle.nand_geometry.specs.declared.parts.Parts.{Parts}
use Rattle.onfi_cycle.specs.declared.lun.Lun.{Lun}
use Rattle.onfi_cycle.specs.declared.item.Item.{Item}
use Rattle.onfi_cycle.specs.declared.page_address.PageAddress.{PageAddress}
use Rattle.onfi_cycle.specs.declared.queued.Queued.{Queued}
use Rattle.onfi_cycle.specs.declared.register.Register.{Register}
use Rattle.onfi_cycle.specs.declared.read_column.ReadColumn.{ReadColumn}
use Rattle.onfi_cycle.specs.declared.effect.Effect.{Effect}
use Rattle.onfi_cycle.specs.declared.effect.Effect.TheVariants.{Unaffected, DataOutputEnabled, StatusRowAwaited, Deselected, StatusOfSelected, AnotherAddressed}
use Rattle.onfi_cycle.specs.Lun.{effect_on, read_column_after, busy_after, closer_after, array_busy_after, array_page_after, register_after, queue_after, held_after}
use Rattle.onfi_cycle.specs.declared.command.Command.{Command}
use Rattle.onfi_cycle.specs.Content.{ArrayWork, queued_work_after, pending_work_after, failed_after, content_after, array_work_after, before_failed_after}
use Rattle.onfi_cycle.specs.OtherLun.{KeepsLun, IsSameOrLost}

-- an effect that leaves all but the latch, and may lose the column
abbrev pub is_quiet : Effect → Bool
is_quiet Unaffected = true
is_quiet DataOutputEnabled = true
is_quiet StatusRowAwaited = true
is_quiet Deselected = true
is_quiet StatusOfSelected = true
is_quiet (AnotherAddressed _) = true
is_quiet _ = false

-- what a quiet effect leaves
pub record LeftBy (a : Effect) : Type 0 where
  pub busy : (b : Bool) → busy_after a b ≡ b
  pub closer : (c : Option Command) → closer_after a c ≡ c
  pub array_busy : (b : Bool) (c : Option Command) (d : Bool) → array_busy_after a b c d ≡ d
  pub array_page : (p : PageAddress) → array_page_after a p ≡ p
  pub register : (p : PageAddress) (q : List Queued) (h : List PageAddress) (r : Register) → register_after a p q h r ≡ r
  pub queue : (q : List Queued) → queue_after a q ≡ q
  pub held : (c : Bool) (p : PageAddress) (q : List Queued) (h : List PageAddress) → held_after a c p q h ≡ h
  pub queued_work : (b : List ℕ) (q : List ArrayWork) → queued_work_after a b q ≡ q
  pub pending_work : (b : List ℕ) (q p : List ArrayWork) → pending_work_after a b q p ≡ p
  pub array_work : (c : Option Command) (p w : List ArrayWork) → array_work_after a c p w ≡ w
  pub failed : (c : Option Command) (d b : Bool) → failed_after a c d b ≡ b
  pub failed_before : (c : Option Command) (d e b : Bool) → before_failed_after a c d e b ≡ b
  pub content : (g : Parts) (c : Option Command) (q w : List ArrayWork) (p : PageAddress) (old : List ℕ) → content_after g a c q w p old ≡ old
  pub column : (k : ReadColumn) → IsSameOrLost k (read_column_after a k)

lost_or_same : (k : ReadColumn) (b : Bool) → ltb 0 k.outputs ≡ b → IsSameOrLost k (record k { lost = k.lost || b })
lost_or_same k true e = inr (ap (λ (l : Bool). record k { lost = l }) (or-true k.lost), e)
lost_or_same k false e = inl (ap (λ (l : Bool). record k { lost = l }) (or-false k.lost))

pub left_by_quiet : (a : Effect) → is_quiet a ≡ true → LeftBy a
left_by_quiet Unaffected h = record { busy = λ b. refl; closer = λ c. refl; array_busy = λ b c d. refl; array_page = λ p. refl; register = λ p q h r. refl; queue = λ q. refl; held = λ c p q h. refl; queued_work = λ b q. refl; pending_work = λ b q p. refl; array_work = λ c p w. refl; failed = λ c d b. refl; failed_before = λ c d e b. refl; content = λ g c q w p old. refl; column = λ k. inl refl }
left_by_quiet DataOutputEnabled h = record { busy = λ b. refl; closer = λ c. refl; array_busy = λ b c d. refl; array_page = λ p. refl; register = λ p q h r. refl; queue = λ q. refl; held = λ c p q h. refl; queued_work = λ b q. refl; pending_work = λ b q p. refl; array_work = λ c p w. refl; failed = λ c d b. refl; failed_before = λ c d e b. refl; content = λ g c q w p old. refl; column = λ k. inl refl }
left_by_quiet StatusRowAwaited h = record { busy = λ b. refl; closer = λ c. refl; array_busy = λ b c d. refl; array_page = λ p. refl; register = λ p q h r. refl; queue = λ q. refl; held = λ c p q h. refl; queued_work = λ b q. refl; pending_work = λ b q p. refl; array_work = λ c p w. refl; failed = λ c d b. refl; failed_before = λ c d e b. refl; content = λ g c q w p old. refl; column = λ k. lost_or_same k (ltb 0 k.outputs) refl }
left_by_quiet Deselected h = record { busy = λ b. refl; closer = λ c. refl; array_busy = λ b c d. refl; array_page = λ p. refl; register = λ p q h r. refl; queue = λ q. refl; held = λ c p q h. refl; queued_work = λ b q. refl; pending_work = λ b q p. refl; array_work = λ c p w. refl; failed = λ c d b. refl; failed_before = λ c d e b. refl; content = λ g c q w p old. refl; column = λ k. inl refl }
left_by_quiet (AnotherAddressed reads) h = record { busy = λ b. refl; closer = λ c. refl; array_busy = λ b c d. refl; array_page = λ p. refl; register = λ p q h r. refl; queue = λ q. refl; held = λ c p q h. refl; queued_work = λ b q. refl; pending_work = λ b q p. refl; array_work = λ c p w. refl; failed = λ c d b. refl; failed_before = λ c d e b. refl; content = λ g c q w p old. refl; column = λ k. inl refl }
left_by_quiet StatusOfSelected h = record { busy = λ b. refl; closer = λ c. refl; array_busy = λ b c d. refl; array_page = λ p. refl; register = λ p q h r. refl; queue = λ q. refl; held = λ c p q h. refl; queued_work = λ b q. refl; pending_work = λ b q p. refl; array_work = λ c p w. refl; failed = λ c d b. refl; failed_before = λ c d e b. refl; content = λ g c q w p old. refl; column = λ k. lost_or_same k (ltb 0 k.outputs) refl }
left_by_quiet _ h = cc

-- a quiet item keeps the LUN
pub keeps_quiet : (g : Parts) (past : List Item) (i : Item) (l : Lun) → is_quiet (effect_on g past i l) ≡ true → KeepsLun g past i l
keeps_quiet g past i l h =
    let left : LeftBy (effect_on g past i l) = left_by_quiet (effect_on g past i l) h in
    record {
      busy = left.busy _;
      closer = left.closer _;
      array_busy = left.array_busy _ _ _;
      array_page = left.array_page _;
      register = left.register _ _ _ _;
      queue = left.queue _;
      held = left.held _ _ _ _;
      queued_work = λ opening. left.queued_work _ _;
      pending_work = λ opening. left.pending_work _ _ _;
      array_work = λ opening. left.array_work _ _ _;
      failed = left.failed _ _ _;
      failed_before = left.failed_before _ _ _ _;
      content = λ opening p. left.content g _ _ _ _ _;
      column = left.column _;
    }
