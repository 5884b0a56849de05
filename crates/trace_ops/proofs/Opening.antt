-- The operations of a legal trace of the base profile begin at the commands that begin a sequence.
use Rattle.std.proofs.Common.{◌≡◌, ℕ, ◌+◌, Bool, true, false, cond, List, [], ◌∷◌, ◌++◌, Option, Some, None, is_some, refl, sym, ap, ◌∙◌, reverse, map}
use Rattle.std.proofs.lemmas.Bool.{and_parts}
use Rattle.std.proofs.lemmas.List.{append_assoc, append-nil}
use Rattle.nand_geometry.specs.declared.parts.Parts.{Parts}
use Rattle.onfi_cycle.specs.declared.item.Item.{Item}
use Rattle.onfi_cycle.specs.declared.item.Item.TheVariants.{Cyc, Rdy, Ard}
use Rattle.onfi_cycle.specs.declared.target_cycle.TargetCycle.{TargetCycle}
use Rattle.onfi_cycle.specs.Permitted.{broken, is_permitted, is_legal}
use Rattle.onfi_cycle.proofs.Others.{permitted_none}
use Rattle.trace_faults.specs.declared.beginning.Beginning.TheVariants.{Start}
use Rattle.trace_faults.specs.declared.readies.Readies.TheVariants.{Written}
use Rattle.trace_faults.specs.Middle.{Seen, seen_after, first_seen_as}
use Rattle.trace_ops.specs.declared.judged.Judged.{Judged}
use Rattle.trace_ops.specs.AtWork.{IsLegalBase}
use Rattle.trace_ops.specs.Listing.{Listing, worker, with_ends, owner_in, mark_in, listed, nothing_listed, has_one_lun, ops_from, ops_of}
use Rattle.trace_ops.specs.Openings.{Opened, opened_at, opens, opening, openings_from}
use Rattle.trace_ops.proofs.Driven.{ready_of, array_ready_of}
use Rattle.trace_ops.proofs.Openers.{openings_old, openings_new}
use Rattle.trace_ops.proofs.Owned.{old, new}
use Rattle.trace_ops.proofs.Pieces.{came_to}
use Rattle.trace_ops.proofs.Walked.{Walked, ItemAs, ItemIs, as_permitted, cycle_at, busy_worker, walked_on, nothing_walked}
use Rattle.trace_ops.proofs.Works.{onto, legal_before}

-- what an item adds
abbrev one_opening : ℕ → Item → List Opened
one_opening n i = cond (opens i) (opening n i ∷ []) []

in_front : (n : ℕ) (i : Item) (items : List Item) → one_opening n i ++ openings_from (n + 1) items ≡ openings_from n (i ∷ items)
in_front n i items = at (opens i)
  where
    at : (b : Bool) → cond b (opening n i ∷ []) [] ++ openings_from (n + 1) items ≡ cond b (opening n i ∷ openings_from (n + 1) items) (openings_from (n + 1) items)
    at true = refl
    at false = refl

some_there : (x : Option ℕ) → is_some x ≡ true → (k : ℕ) × (x ≡ Some k)
some_there None h = cc
some_there (Some k) h = (k, refl)

-- the openings once an item has come
abbrev Adds : Listing → ℕ → Item → Judged → Type 0
Adds l n i j = map opened_at (listed j l).ops ≡ map opened_at l.ops ++ one_opening n i

module _ (g : Parts) (targets n : ℕ) (seen : Seen) (past : List Item) (marks : List ℕ) (l : Listing) (pieces : ℕ → List TargetCycle) (walked : Walked g targets n seen past marks l pieces) where
  adds_none : (j : Judged) → (k : ℕ) × (owner_in j (with_ends j l) ≡ Some k) → map opened_at (listed j l).ops ≡ map opened_at l.ops ++ []
  adds_none j old' = openings_old j l old'.0 old'.1 ∙ sym (append-nil (map opened_at l.ops))

  adds : (one_lun : Bool) (i : Item) (later : List Item) → broken g targets past i ≡ None → Adds l n i (ItemIs one_lun seen n i later)
  adds one_lun (Cyc c) later h = at (opens (Cyc c)) refl
    where
      j : Judged
      j = ItemIs one_lun seen n (Cyc c) later

      at : (b : Bool) → opens (Cyc c) ≡ b → map opened_at (listed j l).ops ≡ map opened_at l.ops ++ cond b (opening n (Cyc c) ∷ []) []
      at true e =
          let both = new g targets n one_lun past marks c _ _ l pieces (cycle_at g targets n seen past marks l pieces walked c later h) e in
          openings_new j l both.0 ∙ ap (λ (x : Opened). map opened_at l.ops ++ (x ∷ [])) both.1
      at false e = adds_none j (old g targets n one_lun past marks c _ _ l pieces (cycle_at g targets n seen past marks l pieces walked c later h) e)
  adds one_lun (Rdy ce lun fail) later h =
      let is = ready_of g targets past ce lun fail h in
      adds_none (ItemIs one_lun seen n (Rdy ce lun fail) later)
      (some_there (worker l.places ce lun) (busy_worker g targets n seen past marks l pieces walked (record { ce = ce; lun = lun }) is.is_lun is.works))
  adds one_lun (Ard ce lun fail) later h =
      let is = array_ready_of g targets past ce lun fail h in
      adds_none (ItemIs one_lun seen n (Ard ce lun fail) later) (some_there (worker l.places ce lun) (walked.workers (record { ce = ce; lun = lun }) is.is_lun is.works))

openings_all : (g : Parts) (targets : ℕ) (one_lun : Bool) (items : List Item) (n : ℕ) (seen : Seen) (past : List Item) (marks : List ℕ) (l : Listing) (pieces : ℕ → List TargetCycle) →
    Walked g targets n seen past marks l pieces → is_legal g targets (reverse items ++ past) ≡ true →
    map opened_at (ops_from Written one_lun seen n items l) ≡ map opened_at l.ops ++ openings_from n items
openings_all g targets one_lun [] n seen past marks l pieces walked legal = sym (append-nil (map opened_at l.ops))
openings_all g targets one_lun (i ∷ items) n seen past marks l pieces walked legal =
    let j = ItemAs one_lun seen n i items in
    let mark = mark_in j (with_ends j l) in
    let legal' : is_legal g targets (reverse items ++ (i ∷ past)) ≡ true = ap (is_legal g targets) (sym (onto g targets walked.few walked.luns walked.base i items past)) ∙ legal in
    let here = and_parts (is_permitted g targets past i) (is_legal g targets past) (legal_before g targets walked.few walked.luns walked.base (reverse items) (i ∷ past) legal') in
    let h = permitted_none g targets past i here.0 in
    let rest =
    openings_all g targets one_lun items (n + 1) (seen_after Written seen i items) (i ∷ past) (marks ++ (mark ∷ [])) (listed j l) (came_to mark i pieces)
    (walked_on g targets n seen past marks l pieces walked one_lun i items h) legal' in
    let one = as_permitted g targets n seen past marks l pieces walked (Adds l n i) one_lun i items h (adds g targets n seen past marks l pieces walked one_lun i items h) in
    rest ∙ ap (λ (xs : List Opened). xs ++ openings_from (n + 1) items) one
    ∙ append_assoc (map opened_at l.ops) (one_opening n i) (openings_from (n + 1) items)
    ∙ ap (λ (xs : List Opened). map opened_at l.ops ++ xs) (in_front n i items)

-- of a whole trace
pub openings_of : (g : Parts) (targets : ℕ) (items : List Item) → IsLegalBase g targets items → map opened_at (ops_of Written Start g targets items) ≡ openings_from 0 items
openings_of g targets items is =
    openings_all g targets (has_one_lun g) items 0 (first_seen_as Start g targets items) [] [] nothing_listed (λ k. []) (nothing_walked g targets items is)
    (ap (is_legal g targets) (append-nil (reverse items)) ∙ is.legal)
