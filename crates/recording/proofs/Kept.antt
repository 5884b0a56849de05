-- What is left without a vendor's sequences: it is inside, and can be printed, where all is and can; and where nothing is found in a trace, nothing is found in what is left of it.
use Rattle.std.proofs.Common.{◌≡◌, ℕ, zero, suc, true, false, Bool, List, [], ◌∷◌, ◌++◌, refl, sym, subst, cond, arith}
use Rattle.std.specs.List.{All}
use Rattle.onfi_cycle.specs.declared.item.Item.{Item}
use Rattle.trace_faults.specs.declared.broken_rule.BrokenRule.{BrokenRule}
use Rattle.trace_faults.specs.declared.readies.Readies.TheVariants.{Written}
use Rattle.trace_faults.specs.Inside.{IsInside}
use Rattle.trace_text.specs.Line.{IsPrintable}
use Rattle.bus_capture.specs.declared.inferring.Stamped.{Stamped}
use Rattle.bus_capture.specs.declared.reading.Setup.{Setup}
use Rattle.bus_capture.specs.Inside.{AreInside}
use Rattle.vendor_file.specs.declared.part.Part.{Part}
use Rattle.vendor_file.specs.declared.step.Step.{Step}
use Rattle.vendor_file.specs.Passing.{parts_of}
use Rattle.vendor_file.specs.Carried.{kept_by, kept_places, carried_fault, carried_faults, up_to, beyond, merged}
use Rattle.recording.specs.declared.trace_view.TraceView.{TraceView}
use Rattle.recording.specs.Captures.{items_in, seen_at, at_places, left_seen}
use Rattle.recording.specs.Kept.{kept, faults_from}
use Rattle.recording.specs.Targets.{count_of}
use Rattle.recording.proofs.Checked.{none_printable, more_printable}

-- ---- a trace

if_printable : (b : Bool) (i : Item) (items : List Item) → IsPrintable i → All IsPrintable items → All IsPrintable (cond b (i ∷ items) items)
if_printable true i items here rest = more_printable i items here rest
if_printable false i items here rest = rest

kept_by_printable : (items : List Item) (parts : List Part) → All IsPrintable items → All IsPrintable (kept_by items parts)
kept_by_printable [] parts all = none_printable
kept_by_printable (i ∷ items) [] all = none_printable
kept_by_printable (i ∷ items) (p ∷ parts) all =
    if_printable p.is_kept i (kept_by items parts) (all 0 i (omega arith)) (kept_by_printable items parts (λ k d h. all (suc k) d (omega (arith, h))))

kept_printable : (steps : List Step) (v : TraceView) (items : List Item) → All IsPrintable items → All IsPrintable (kept steps v items)
kept_printable [] v items all = all
kept_printable (s ∷ steps) v items all = kept_by_printable items (parts_of (s ∷ steps) v.readies v.geometry (count_of v.targets) items) all

pub items_printable : (steps : List Step) (v : TraceView) (items left : List Item) → left ≡ kept steps v items → All IsPrintable items → All IsPrintable left
items_printable steps v items left is all = subst (All IsPrintable) (sym is) (kept_printable steps v items all)

-- ---- no fault

none_joined : (xs : List BrokenRule) (y : BrokenRule) (ys : List BrokenRule) → xs ++ (y ∷ ys) ≡ [] → ⊥
none_joined [] y ys h = cc
none_joined (x ∷ xs) y ys h = cc

none_merged : (places : List ℕ) (faults broken : List BrokenRule) → merged (carried_faults places faults) broken ≡ [] → faults ≡ []
none_merged places [] broken h = refl
none_merged places (f ∷ faults) broken h =
    let c = carried_fault places f in
    absurd (none_joined (up_to c.item broken) c (merged (carried_faults places faults) (beyond c.item broken)) h)

pub none_back : (whole : Bool) (places : List ℕ) (broken faults : List BrokenRule) → faults_from whole places broken faults ≡ [] → faults ≡ []
none_back true places broken faults h = h
none_back false places broken faults h = none_merged places faults broken h

-- ---- a capture

inside_at : (stamped : List Stamped) (place : ℕ) → AreInside stamped → IsInside (seen_at stamped place).item
inside_at [] place inside = omega arith
inside_at (s ∷ stamped) zero inside = inside.0
inside_at (s ∷ stamped) (suc place) inside = inside_at stamped place inside.1

all_inside : (places : List ℕ) (stamped : List Stamped) → AreInside stamped → AreInside (at_places places stamped)
all_inside [] stamped inside = tt
all_inside (p ∷ places) stamped inside = (inside_at stamped p inside, all_inside places stamped inside)

pub left_inside : (steps : List Step) (setup : Setup) (stamped left : List Stamped) → left ≡ left_seen steps setup stamped → AreInside stamped → AreInside left
left_inside steps setup stamped left is inside =
    subst AreInside (sym is) (all_inside (kept_places steps Written setup.geometry setup.targets (items_in stamped)) stamped inside)
