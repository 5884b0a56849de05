-- In a legal trace of the base profile an operation has no line of its own exactly where it is a part of another.
use Rattle.std.proofs.Common.{◌≡◌, ℕ, ◌+◌, Bool, true, false, ◌&&◌, ◌||◌, not, List, [], ◌∷◌, ◌++◌, Some, None, is_some, refl, sym, ap, ◌∙◌, reverse}
use Rattle.std.specs.Prelude.{slice_get}
use Rattle.std.proofs.lemmas.Bool.{and_parts}
use Rattle.std.proofs.lemmas.List.{append-nil}
use Rattle.nand_geometry.specs.declared.parts.Parts.{Parts}
use Rattle.onfi_cycle.specs.declared.item.Failures.{Failures}
use Rattle.onfi_cycle.specs.declared.item.Item.{Item}
use Rattle.onfi_cycle.specs.declared.item.Item.TheVariants.{Cyc, Rdy, Ard}
use Rattle.onfi_cycle.specs.declared.target_cycle.TargetCycle.{TargetCycle}
use Rattle.onfi_cycle.specs.Permitted.{broken, is_permitted, is_legal}
use Rattle.onfi_cycle.proofs.Others.{permitted_none}
use Rattle.trace_faults.specs.declared.beginning.Beginning.TheVariants.{Start}
use Rattle.trace_faults.specs.declared.readies.Readies.TheVariants.{Written}
use Rattle.trace_faults.specs.Middle.{Seen, seen_after, first_seen_as}
use Rattle.trace_ops.specs.declared.judged.Judged.{Judged}
use Rattle.trace_ops.specs.declared.looks.Looks.{Looks}
use Rattle.trace_ops.specs.declared.operation.Operation.{Operation}
use Rattle.trace_ops.specs.AtWork.{IsLegalBase}
use Rattle.trace_ops.specs.Folding.{IsFoldedAsPart}
use Rattle.trace_ops.specs.Listing.{Listing, with_ends, mark_in, listed, nothing_listed, has_one_lun, ops_from, ops_of}
use Rattle.trace_ops.proofs.Domestic.{Every}
use Rattle.trace_ops.proofs.Folded.{cycle_parted}
use Rattle.trace_ops.proofs.FoldedReadies.{IsLone, ready_parted}
use Rattle.trace_ops.proofs.Legal.{permitted_as}
use Rattle.trace_ops.proofs.Parted.{Parted}
use Rattle.trace_ops.proofs.Pieces.{came_to}
use Rattle.trace_ops.proofs.Readies.{ready_is, array_ready_is}
use Rattle.trace_ops.proofs.Unstarted.{Unstarted}
use Rattle.trace_ops.proofs.Walked.{Walked, ItemAs, ItemIs, as_permitted, cycle_at, walked_on, nothing_walked}
use Rattle.trace_ops.proofs.Works.{onto, legal_before}

-- of all operations so far
abbrev pub AllParted : List Item → Listing → Type 0
AllParted past l = Every (Parted l.places.newest past (Unstarted l.ops)) l.ops

pub ready_lone : (one_lun : Bool) (n ce lun : ℕ) (fail : Failures) (before after : Looks) → IsLone (permitted_as one_lun n (Rdy ce lun fail) before after)
ready_lone one_lun n ce lun fail before after = record { ready = ready_is one_lun n ce lun fail before after; said = refl; change = λ owner. refl; new = λ newest. refl }

pub array_ready_lone : (one_lun : Bool) (n ce lun : ℕ) (fail : Bool) (before after : Looks) → IsLone (permitted_as one_lun n (Ard ce lun fail) before after)
array_ready_lone one_lun n ce lun fail before after = record { ready = array_ready_is one_lun n ce lun fail before after; said = refl; change = λ owner. refl; new = λ newest. refl }

abbrev PartedBy : List Item → Listing → Item → Judged → Type 0
PartedBy past l i j = AllParted (i ∷ past) (listed j l)

module _ (g : Parts) (targets n : ℕ) (seen : Seen) (past : List Item) (marks : List ℕ) (l : Listing) (pieces : ℕ → List TargetCycle) (walked : Walked g targets n seen past marks l pieces)
    (all : AllParted past l) where
  parted_on : (one_lun : Bool) (i : Item) (later : List Item) → broken g targets past i ≡ None → PartedBy past l i (ItemIs one_lun seen n i later)
  parted_on one_lun (Cyc c) later h =
      cycle_parted g targets n one_lun past marks c _ _ l pieces (cycle_at g targets n seen past marks l pieces walked c later h) all
  parted_on one_lun (Rdy ce lun fail) later h =
      ready_parted (ItemIs one_lun seen n (Rdy ce lun fail) later) l past (Rdy ce lun fail) (ready_lone one_lun n ce lun fail _ _) (λ d. refl) walked.worked.domestic all
  parted_on one_lun (Ard ce lun fail) later h =
      ready_parted (ItemIs one_lun seen n (Ard ce lun fail) later) l past (Ard ce lun fail) (array_ready_lone one_lun n ce lun fail _ _) (λ d. refl) walked.worked.domestic all

-- at the end of a trace
folded_so : (past : List Item) (l : Listing) → AllParted past l → (k : ℕ) (o : Operation) → slice_get l.ops k ≡ Some o → IsFoldedAsPart o
folded_so past l all k o is = record { part = at (is_some o.parent) refl; kind = λ h. ((all k o is).1 h).kind }
  where
    folds : (a b c : Bool) → a ≡ true → b ≡ false → c ≡ false → (true && (a && not (b || c))) ≡ true
    folds a b c p q r = rw (p, q, r) refl

    at : (b : Bool) → is_some o.parent ≡ b → (b && (o.is_clean && not (is_some o.start || is_some o.closer))) ≡ b
    at false e = refl
    at true e =
        let p = (all k o is).1 e in
        folds o.is_clean (is_some o.start) (is_some o.closer) (all k o is).0 (p.rests o is) p.unclosed

folded_all : (g : Parts) (targets : ℕ) (one_lun : Bool) (items : List Item) (n : ℕ) (seen : Seen) (past : List Item) (marks : List ℕ) (l : Listing) (pieces : ℕ → List TargetCycle) →
    Walked g targets n seen past marks l pieces → AllParted past l → is_legal g targets (reverse items ++ past) ≡ true →
    (k : ℕ) (o : Operation) → slice_get (ops_from Written one_lun seen n items l) k ≡ Some o → IsFoldedAsPart o
folded_all g targets one_lun [] n seen past marks l pieces walked all legal k o is = folded_so past l all k o is
folded_all g targets one_lun (i ∷ items) n seen past marks l pieces walked all legal k o is =
    let j = ItemAs one_lun seen n i items in
    let mark = mark_in j (with_ends j l) in
    let legal' : is_legal g targets (reverse items ++ (i ∷ past)) ≡ true = ap (is_legal g targets) (sym (onto g targets walked.few walked.luns walked.base i items past)) ∙ legal in
    let here = and_parts (is_permitted g targets past i) (is_legal g targets past) (legal_before g targets walked.few walked.luns walked.base (reverse items) (i ∷ past) legal') in
    let h = permitted_none g targets past i here.0 in
    folded_all g targets one_lun items (n + 1) (seen_after Written seen i items) (i ∷ past) (marks ++ (mark ∷ [])) (listed j l) (came_to mark i pieces)
    (walked_on g targets n seen past marks l pieces walked one_lun i items h)
    (as_permitted g targets n seen past marks l pieces walked (PartedBy past l i) one_lun i items h (parted_on g targets n seen past marks l pieces walked all one_lun i items h)) legal' k o is

-- of a whole trace
pub parts_are_folded : (g : Parts) (targets : ℕ) (items : List Item) → IsLegalBase g targets items →
    (k : ℕ) (o : Operation) → slice_get (ops_of Written Start g targets items) k ≡ Some o → IsFoldedAsPart o
parts_are_folded g targets items is k o there' =
    folded_all g targets (has_one_lun g) items 0 (first_seen_as Start g targets items) [] [] nothing_listed (λ m. []) (nothing_walked g targets items is) (λ m w h. cc)
    (ap (is_legal g targets) (append-nil (reverse items)) ∙ is.legal) k o there'
