-- What selects nothing.
use Rattle.std.proofs.Common.{◌≡◌, ◌∙◌, ℕ, ◌==◌, Bool, true, false, ◌&&◌, ◌||◌, not, Option, Some, None, refl, ap, cond}
use Rattle.std.specs.Prelude.{slice_get}
use Rattle.onfi_cycle.specs.declared.item.Cycle.{Cycle as BusCycle}
use Rattle.onfi_cycle.specs.declared.item.Item.{Item}
use Rattle.onfi_cycle.specs.declared.item.Item.TheVariants.{Cyc, Rdy, Ard}
use Rattle.onfi_cycle.specs.declared.item.Kind.{Kind}
use Rattle.onfi_cycle.specs.declared.item.Kind.TheVariants.{Cmd, Adr, Din, Dout}
use Rattle.trace_ops.specs.declared.judged.Judged.{Judged}
use Rattle.trace_ops.specs.declared.operation.Operation.{Operation}
use Rattle.trace_ops.specs.declared.role.Role.{Role}
use Rattle.trace_ops.specs.declared.role.Role.TheVariants as role
use Rattle.trace_ops.specs.Operation.{is_permitted, is_byte, opener_of}
use Rattle.trace_ops.specs.Listing.{Listing, may_select, may_select_kind, begins_by, is_busy, is_taken, is_reset, look_at, role_of_kind, role_by, selected_by, selected_on, all_selected}

no_role : (j : Judged) (o : Option Operation) (i : Item) (lun : ℕ) → may_select i ≡ false → role_by j o i lun ≡ role.Nothing
no_role j None i lun h = refl
no_role j (Some o) (Rdy ce l fail) lun h = refl
no_role j (Some o) (Ard ce l fail) lun h = refl
no_role j (Some o) (Cyc c) lun h = at (is_permitted j.said) c.kind h
  where
    at : (b : Bool) (kind : Kind) → may_select_kind kind ≡ false → cond b (role_of_kind o c (begins_by j (Cyc c) lun) (look_at j.after lun) kind) role.Nothing ≡ role.Nothing
    at false kind h = refl
    at true Cmd h = cc
    at true Adr h = cc
    at true Din h = refl
    at true Dout h = refl

selects_none : (j : Judged) (k lun : ℕ) (l : Listing) → may_select j.item ≡ false → selected_on j k lun l ≡ l
selects_none j k lun l h = ap (λ r. selected_by r j k lun l) (no_role j (slice_get l.ops k) j.item lun h)

-- ---- a LUN that isn't there

either : (b : Bool) (r : Role) → r ≡ role.Nothing → cond b role.Nothing r ≡ role.Nothing
either true r h = refl
either false r h = h

neither : (b : Bool) (r : Role) → cond (b && false) r role.Nothing ≡ role.Nothing
neither true r = refl
neither false r = refl

not_begun : (b : Bool) → (b && false) ≡ false
not_begun true = refl
not_begun false = refl

absent_of_kind : (o : Operation) (c : BusCycle) (kind : Kind) → role_of_kind o c false None kind ≡ role.Nothing
absent_of_kind o c Cmd = either (c.byte == 0x70) _ (either (c.byte == 0x30) _ (either (c.byte == 0x31 || c.byte == 0x3f) _ (either (c.byte == 0xe0) _ (either (c.byte == 0x00) _ refl))))
absent_of_kind o c Adr =
    (λ i. cond (is_byte (opener_of o.beginning) 0x78) (neither (o.address_count == 3) role.Asks i) (cond (is_byte (opener_of o.beginning) 0x90 || is_byte (opener_of o.beginning) 0xec) role.Nothing role.Nothing))
    ∙ either (is_byte (opener_of o.beginning) 0x78) _ (either (is_byte (opener_of o.beginning) 0x90 || is_byte (opener_of o.beginning) 0xec) _ refl)
absent_of_kind o c Din = refl
absent_of_kind o c Dout = refl

absent_role : (j : Judged) (o : Option Operation) (i : Item) (lun : ℕ) → look_at j.after lun ≡ None → role_by j o i lun ≡ role.Nothing
absent_role j None i lun h = refl
absent_role j (Some o) (Rdy ce l fail) lun h = refl
absent_role j (Some o) (Ard ce l fail) lun h = refl
absent_role j (Some o) (Cyc c) lun h = at (is_permitted j.said)
  where
    begins : begins_by j (Cyc c) lun ≡ false
    begins = (λ i. is_permitted j.said && (is_busy (h i) && (not (is_busy (look_at j.before lun)) || (is_taken j.said lun || is_reset c)))) ∙ not_begun (is_permitted j.said)

    at : (b : Bool) → cond b (role_of_kind o c (begins_by j (Cyc c) lun) (look_at j.after lun) c.kind) role.Nothing ≡ role.Nothing
    at false = refl
    at true = (λ i. role_of_kind o c (begins i) (h i) c.kind) ∙ absent_of_kind o c c.kind

-- a LUN that isn't there is selected for nothing
pub absent_selects_nothing : (j : Judged) (k lun : ℕ) (l : Listing) → look_at j.after lun ≡ None → selected_on j k lun l ≡ l
absent_selects_nothing j k lun l h = ap (λ r. selected_by r j k lun l) (absent_role j (slice_get l.ops k) j.item lun h)

-- an item that selects nothing leaves all as it was
pub selects_nothing : (j : Judged) (k : ℕ) (l : Listing) → may_select j.item ≡ false → all_selected j k l ≡ l
selects_nothing j k l h = selects_none j k 3 _ h ∙ selects_none j k 2 _ h ∙ selects_none j k 1 _ h ∙ selects_none j k 0 l h
