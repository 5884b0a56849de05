-- Claims meet the laws.
use Rattle.std.proofs.Common.{◌≡◌, false, Option, Some, None, refl, subst, cond, arith}
use Rattle.std.specs.Prelude.{is_none, ◌||◌}
use Rattle.std.proofs.lemmas.Nat.{mod_below}
use Rattle.std.proofs.lemmas.Bool.{not-false, or_parts}
use Rattle.nand_geometry.specs.declared.parts.Parts.{Parts}
use Rattle.nand_geometry.specs.Limits.{InLimits}
use Rattle.onfi_cycle.specs.Command.{command}
use Rattle.onfi_cycle.specs.declared.command.Command.{Command as Commands}
use Rattle.micro_word.specs.declared.word.Word.{Word}
use Rattle.micro_word.specs.declared.word.Word.TheVariants.{Command, Address, Get, Put, Seek, Column, RowAdd, Row, Plane, Wait, Yield, ReadStatus}
use Rattle.micro_claims.specs.declared.refusal.Reason.{Reason}
use Rattle.micro_program.specs.Program.{cost}
use Rattle.micro_claims.specs.declared.state.State.{State}
use Rattle.micro_claims.specs.declared.bounds.Bounds.{Bounds}
use Rattle.micro_claims.specs.declared.place.Place.{Place}
use Rattle.micro_claims.specs.Against.{address_out_of_place, command_out_of_place, command_not_for_programs, is_unfit, asks_status}
use Rattle.micro_claims.specs.Reasons.{reason_against, breaks_cycle_forbidden, breaks_row_or_plane_outside, breaks_command_not_allowed}
use Rattle.micro_claims.specs.Leaves.{drift_more}
use Rattle.micro_claims.specs.Accepts.{word_leaves, state_after}
use Rattle.micro_claims.specs.Order.{At, machine, state_step}
use Rattle.micro_claims.specs.Certificate.{Laws}
use Rattle.micro_walk.proofs.SpanLaws as numbers
use Rattle.micro_walk.proofs.TestsKept.{Clear, clear_of, none_of, known_cache_read, known_write_column, known_selects, known_place, known_inputs, known_column}
use Rattle.micro_walk.proofs.Shapes.{one_just}
use Rattle.micro_walk.proofs.ReasonsKept.{clear_too}
use Rattle.micro_walk.proofs.LeavesKept.{with_column, with_plane, with_place, paid_at, registers_at, drift_same, set_alike, polled_at, ready_at, handed_at, moved_at}
use Rattle.micro_walk.proofs.CommandsKept.{command_at, get_at, put_at}
use Rattle.micro_walk.proofs.AddressesKept.{page_on, address_at}
use Rattle.micro_walk.proofs.StateOrder.{begins, eases, enters, again, leaves}

-- what a word leaves
word_at : (g : Parts) → InLimits g → (text : Bounds) (v s a : State) → At g v s a → (word : Word) → Clear g text s word → At g v (word_leaves g s word) (word_leaves g a word)
unfolding breaks_cycle_forbidden breaks_row_or_plane_outside breaks_command_not_allowed
word_at g l text v s a d (Command byte) c =
    let used = or_parts (command_not_for_programs g (command byte)) _ c.no_command_not_allowed in
    let two = or_parts (is_unfit g (command byte) || asks_status (command byte)) _ used.0 in
    let one = or_parts (is_unfit g (command byte)) _ two.0 in
    command_at g l v s a d (command byte) (
      (λ is.
          known_cache_read g s s.target.tail a.target.tail d.target.tail refl
          (subst (λ (x : Commands). is_unfit g x ≡ false) is one.0)
          (subst (λ (x : Commands). command_out_of_place g s x ≡ false) is c.no_cycle_forbidden)),
      (λ is. known_write_column g s s.target.tail a.target.tail d.target.tail refl (subst (λ (x : Commands). command_out_of_place g s x ≡ false) is c.no_cycle_forbidden)),
    )
    (λ is. known_selects g s s.target.tail a.target.tail d.target.tail refl (subst (λ (x : Commands). command_out_of_place g s x ≡ false) is c.no_cycle_forbidden))
word_at g l text v s a d (Address from count) c =
    address_at g l v s a from count d (known_place g s from count s.target.tail a.target.tail d.target.tail c.no_cycle_forbidden)
    (λ n e. known_column g s a from count n (numbers.is_of v.registers.column s.registers.column a.registers.column d.registers.column) (subst (λ (p : Place). address_out_of_place g s from count p ≡ false) e c.no_cycle_forbidden))
word_at g l text v s a d (Get len) c = get_at g v s a len d
word_at g l text v s a d (Put len) c = put_at g v s a len d (known_inputs len s.target.tail a.target.tail d.target.tail (not-false _ c.no_cycle_forbidden))
word_at g l text v s a d (Seek n) c = registers_at g v s a _ _ d (with_place g v.registers s.registers a.registers _ _ (numbers.set v.registers.place n) d.registers)
word_at g l text v s a d (Column n) c = registers_at g v s a _ _ d (with_column g v.registers s.registers a.registers n d.registers)
word_at g l text v s a d (RowAdd n) c =
    let some = l.pages_least in
    let r = d.registers in
    moved_at g v s a (drift_more n) (drift_more n) _ _ _ _ d (λ x. drift_same (drift_more n x)) (numbers.grown v.registers.index s.registers.index a.registers.index n r.index)
    (page_on g.pages n s.registers.page a.registers.page (omega (arith, some)) (record { low = r.page_low; high = r.page_high; order = r.page_order; inside = r.page_inside }))
word_at g l text v s a d (Row n) c =
    let some = l.pages_least in
    moved_at g v s a _ _ _ _ _ _ d (set_alike s.registers.index a.registers.index n (numbers.is_of v.registers.index s.registers.index a.registers.index d.registers.index)) (numbers.set v.registers.index n)
    (record { low = omega arith; high = omega arith; order = omega arith; inside = mod_below n g.pages (omega (arith, some)) })
word_at g l text v s a d (Plane n) c = registers_at g v s a _ _ d (with_plane g v.registers s.registers a.registers n (one_just n c.no_row_or_plane_outside) d.registers)
word_at g l text v s a d Wait c = ready_at g v _ _ (polled_at g v s a d)
word_at g l text v s a d Yield c = handed_at g v s a d
word_at g l text v s a d ReadStatus c = polled_at g v s a d
word_at g l text v s a d word c = d

after_at : (g : Parts) → InLimits g → (text : Bounds) (v s a : State) → At g v s a → (word : Word) → Clear g text s word → At g v (state_after g s word) (state_after g a word)
unfolding state_after
after_at g l text v s a d word c = paid_at g v (word_leaves g s word) (word_leaves g a word) (cost g word) (word_at g l text v s a d word c)

steps : (g : Parts) (text : Bounds) → InLimits g → (v s a t : State) (word : Word) → At g v s a → state_step g text s word ≡ Some t → (b : State) × (state_step g text a word ≡ Some b) × At g v t b
unfolding state_step
steps g text l v s a t word d h = at (reason_against g text s word) refl h
  where
    at : (o : Option Reason) → reason_against g text s word ≡ o → cond (is_none o) (Some (state_after g s word)) None ≡ Some t → (b : State) × (state_step g text a word ≡ Some b) × At g v t b
    at (Some r) e k = absurd cc
    at None e k =
        let clear = clear_of g text s word e in
        let too = none_of g text a word (clear_too g l text v s a d word clear) in
        let same : state_after g s word ≡ t = cc in
        (state_after g a word, rw (too) refl, subst (λ (x : State). At g v x (state_after g a word)) same (after_at g l text v s a d word clear))

pub laws : (g : Parts) (text : Bounds) → InLimits g → Laws (machine g text) (At g)
laws g text l = record { begins = begins g l; eases = eases g; steps = steps g text l; polls = λ v s a d h. d.registers.polled h; enters = enters g; again = again g text; leaves = leaves g text }
