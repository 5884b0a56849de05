-- The lines of a target whose host polls.
use Rattle.std.proofs.Common.{◌≡◌, ℕ, zero, suc, ◌<◌, ◌==◌, Bool, true, false, ◌&&◌, ◌||◌, not, cond, List, [], ◌∷◌, Option, Some, None, is_some, refl, sym, ap, ◌∙◌, arith, length, take, map, eq-eqb, eqb-true}
use Rattle.std.specs.Prelude.{slice_get}
use Rattle.std.proofs.lemmas.Option.{slice_get_within}
use Rattle.nand_geometry.specs.declared.parts.Parts.{Parts}
use Rattle.onfi_cycle.specs.declared.item.Item.{Item}
use Rattle.trace_faults.specs.declared.beginning.Beginning.TheVariants.{Start}
use Rattle.trace_faults.specs.declared.readies.Readies.TheVariants.{Written}
use Rattle.trace_ops.specs.declared.operation.Beginning.{Beginning}
use Rattle.trace_ops.specs.declared.operation.Beginning.TheVariants as begins
use Rattle.trace_ops.specs.declared.operation.Operation.{Operation}
use Rattle.trace_ops.specs.AtWork.{IsLegalBase}
use Rattle.trace_ops.specs.Folding.{asks_status, IsFoldedAsPart}
use Rattle.trace_ops.specs.Listing.{ops_of}
use Rattle.trace_ops.specs.Operation.{opener_of, is_byte, is_alone, is_folded}
use Rattle.trace_ops.specs.Polling.{Work, Reads, Programs, Erases, Sequence, Doing, Rests, opener_for, closer_for, doing_at_end, is_sending, lines_of, Sent, sent_of, sent_as, ArePolled}
use Rattle.trace_ops.proofs.Folds.{parts_are_folded}
use Rattle.trace_ops.proofs.Polled.{IsWhole}
use Rattle.trace_ops.proofs.Polling.{somes, opened_from, Ended, polls_end, told_are_sent}

no : true ≡ false → ⊥
no e = cc

-- what is told of an operation at the end
record Line (ce : ℕ) (t : Option (Option Sequence)) (o : Operation) : Type 0 where
  work : (w : Sequence) → t ≡ Some (Some w) → (o.ce ≡ ce) × (sent_of o ≡ sent_as w)
  part : t ≡ Some None → o.ce ≡ ce → is_folded o ≡ true

closed_line : (o : Operation) (x : Option ℕ) → is_some x ≡ true → o.closer ≡ x → is_folded o ≡ false
closed_line o x some e =
    ap (λ b. is_some o.parent && (o.is_clean && not (is_some o.start || b))) (ap (λ (y : Option ℕ). is_some y) e ∙ some) ∙ at (is_some o.parent) o.is_clean (is_some o.start)
  where
    at : (a b c : Bool) → (a && (b && not (c || true))) ≡ false
    at true true true = refl
    at true true false = refl
    at true false c = refl
    at false b c = refl

work_line : (ce : ℕ) (t : Option (Option Sequence)) (o : Operation) (w : Sequence) → t ≡ Some (Some w) → Line ce t o → is_folded o ≡ false
work_line ce t o w e line = closed_line o (Some (closer_for w.work)) refl (ap (λ (x : Sent). x.ends) (line.work w e).1)

abbrev somes_front : Option Sequence → List Sequence → List Sequence
somes_front None works = works
somes_front (Some w) works = w ∷ works

-- an operation more in front
line_front : (ce : ℕ) (t : Option Sequence) (o : Operation) (ops : List Operation) (works : List Sequence) → Line ce (Some t) o → map sent_of (lines_of ce ops) ≡ map sent_as works →
    map sent_of (lines_of ce (o ∷ ops)) ≡ map sent_as (somes_front t works)
line_front ce (Some w) o ops works line rest =
    ap (λ b. map sent_of (cond (b && not (is_folded o)) (o ∷ lines_of ce ops) (lines_of ce ops))) (eq-eqb o.ce ce (line.work w refl).0)
    ∙ ap (λ b. map sent_of (cond (not b) (o ∷ lines_of ce ops) (lines_of ce ops))) (work_line ce (Some (Some w)) o w refl line)
    ∙ ap (λ (x : Sent). x ∷ map sent_of (lines_of ce ops)) (line.work w refl).1
    ∙ ap (λ (xs : List Sent). sent_as w ∷ xs) rest
line_front ce None o ops works line rest = at (o.ce == ce) refl ∙ rest
  where
    at : (b : Bool) → (o.ce == ce) ≡ b → map sent_of (cond (b && not (is_folded o)) (o ∷ lines_of ce ops) (lines_of ce ops)) ≡ map sent_of (lines_of ce ops)
    at true e = ap (λ b. map sent_of (cond (not b) (o ∷ lines_of ce ops) (lines_of ce ops))) (line.part refl (eqb-true o.ce ce e))
    at false e = refl

lines_so : (ce : ℕ) (ops : List Operation) (told : List (Option Sequence)) → length told ≡ length ops → ((k : ℕ) (o : Operation) → slice_get ops k ≡ Some o → Line ce (slice_get told k) o) →
    map sent_of (lines_of ce ops) ≡ map sent_as (somes told)
lines_so ce [] [] long all = refl
lines_so ce [] (t ∷ told) long all = absurd (omega (arith, long))
lines_so ce (o ∷ ops) [] long all = absurd (omega (arith, long))
lines_so ce (o ∷ ops) (None ∷ told) long all = line_front ce None o ops (somes told) (all 0 o refl) (lines_so ce ops told (omega (arith, long)) (λ k p is. all (suc k) p is))
lines_so ce (o ∷ ops) (Some w ∷ told) long all = line_front ce (Some w) o ops (somes told) (all 0 o refl) (lines_so ce ops told (omega (arith, long)) (λ k p is. all (suc k) p is))

sent_so : (s : Sequence) (o : Operation) → o.beginning ≡ begins.Opener (opener_for s.work) → IsWhole s o → sent_of o ≡ sent_as s
sent_so s o begun h =
    ap (λ (b : Beginning). record { begins = opener_of b; addresses = take o.address_count o.addresses; inputs = o.inputs; ends = o.closer }) begun
    ∙ ap (λ (a : List ℕ). record { begins = Some (opener_for s.work); addresses = a; inputs = o.inputs; ends = o.closer }) h.addresses
    ∙ ap (λ (n : ℕ). record { begins = Some (opener_for s.work); addresses = s.addresses; inputs = n; ends = o.closer }) h.inputs
    ∙ ap (λ (x : Option ℕ). record { begins = Some (opener_for s.work); addresses = s.addresses; inputs = s.inputs; ends = x }) h.closer

told_there : (told : List (Option Sequence)) (k : ℕ) → k < length told → (t : Option Sequence) × (slice_get told k ≡ Some t)
told_there [] k h = absurd (omega (arith, h))
told_there (t ∷ told) zero h = (t, refl)
told_there (t ∷ told) (suc k) h = told_there told k (omega (arith, h))

-- a work asks for nothing, and isn't alone
work_asks : (w : Work) (b : Beginning) (count : ℕ) (closer : Option ℕ) → b ≡ begins.Opener (opener_for w) → closer ≡ Some (closer_for w) →
    ((is_byte (opener_of b) 0x70 || is_byte (opener_of b) 0x78) || (is_byte (opener_of b) 0 && (count == 0 && not (is_some closer)))) ≡ false
work_asks w b count closer p q = rw (p, q) (at w (count == 0))
  where
    at : (w : Work) (x : Bool) → ((opener_for w == 0x70 || opener_for w == 0x78) || (opener_for w == 0 && (x && false))) ≡ false
    at Reads true = refl
    at Reads false = refl
    at Programs x = refl
    at Erases x = refl

module _ (g : Parts) (targets : ℕ) (items : List Item) (ce : ℕ) (d : Doing) (is : IsLegalBase g targets items) (one : g.luns ≡ 1) (ends : doing_at_end ce items Rests ≡ Some d) (rests : is_sending d ≡ false) where
  abbrev ops : List Operation
  ops = ops_of Written Start g targets items

  ended : Ended ce ops (opened_from ce items Rests) d
  ended = polls_end g targets items ce d is one ends

  folded : (k : ℕ) (o : Operation) → slice_get ops k ≡ Some o → IsFoldedAsPart o
  folded = parts_are_folded g targets items is

  line : (k : ℕ) (o : Operation) → slice_get ops k ≡ Some o → Line ce (slice_get ended.told k) o
  line k o there' =
      let fits = ended.fits k o there' in
      record {
        work = λ w t. (
          (fits.work w t).0,
          sent_so w o (fits.work w t).1 (fits.closed w t (λ e p. no (sym e ∙ rests))),
        );
        part = λ t own. (folded k o there').part ∙ fits.part own t;
      }

  folded_as : (k : ℕ) (o : Operation) → slice_get ops k ≡ Some o → o.ce ≡ ce → is_folded o ≡ (asks_status o || is_alone o)
  folded_as k o there' own =
      let t = told_there ended.told k (let small = slice_get_within ops k o there' in let long = ended.long in omega (arith, small, long)) in
      at t.0 t.1
    where
      at : (t : Option Sequence) → slice_get ended.told k ≡ Some t → is_folded o ≡ (asks_status o || is_alone o)
      at None e =
          let part = (ended.fits k o there').part own e in
          ((folded k o there').part ∙ part) ∙ sym ((folded k o there').kind part)
      at (Some w) e =
          let fits = ended.fits k o there' in
          work_line ce (slice_get ended.told k) o w e (line k o there')
          ∙ sym (work_asks w.work o.beginning o.address_count o.closer (fits.work w e).1 (fits.closed w e (λ s p. no (sym s ∙ rests))).closer)

  pub polled : ArePolled ce items ops
  polled = record { folded = folded_as; lines = lines_so ce ops ended.told ended.long line ∙ ap (map sent_as) (ended.works_are ∙ sym (told_are_sent ce items Rests d ends rests)) }
