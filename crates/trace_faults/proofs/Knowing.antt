-- Where all is known of a target, an item tells nothing more of it, and nothing of it is in doubt.
use Rattle.std.proofs.Common.{◌≡◌, ℕ, Bool, true, false, ◌||◌, List, Option, Some, None, refl, sym, ap, ◌∙◌, slice_set}
use Rattle.std.proofs.lemmas.Bool.{and_parts}
use Rattle.std.proofs.lemmas.List.{set-get_or}
use Rattle.nand_geometry.specs.Optional.{has_plane_reads}
use Rattle.nand_geometry.specs.declared.parts.Parts.{Parts}
use Rattle.onfi_cycle.specs.declared.item.Item.{Item}
use Rattle.onfi_cycle.specs.declared.lun_state.LunState.{LunState}
use Rattle.onfi_cycle.specs.State.{BusView}
use Rattle.onfi_cycle.specs.Look.{looked}
use Rattle.trace_faults.specs.declared.known.Known.{Known}
use Rattle.trace_faults.specs.declared.looks.Looks.{Looks}
use Rattle.trace_faults.specs.declared.lun_known.LunKnown.{LunKnown}
use Rattle.trace_faults.specs.declared.lun_known.LunKnown.TheVariants.{Nothing, Queue, Work, All}
use Rattle.trace_faults.specs.Middle.{all_known, known_of, is_all, is_doubtful, doubts, is_whole, learned_lun, begins_here, learned}

kept : (planes : Bool) (i : Item) (before after : Option LunState) (k : LunKnown) → is_all k ≡ true → learned_lun planes i before after k ≡ k
kept planes i before after Nothing h = cc
kept planes i before after Queue h = cc
kept planes i before after Work h = cc
kept planes i before after All h = refl

opened : (o x : Bool) → o ≡ true → (o || x) ≡ o
opened true x h = refl
opened false x h = cc

pub learned_whole : (g : Parts) (i : Item) (before after : Looks) (k : Known) → is_whole k ≡ true → learned g i before after k ≡ k
learned_whole g i before after k h =
    let a0 = and_parts k.opened _ h in
    let a1 = and_parts (is_all k.zeroth) _ a0.1 in
    let a2 = and_parts (is_all k.first) _ a1.1 in
    let a3 = and_parts (is_all k.second) (is_all k.third) a2.1 in
    let e0 = opened k.opened (begins_here g i) a0.0 in
    let e1 = kept (has_plane_reads g.optional) i before.zeroth after.zeroth k.zeroth a1.0 in
    let e2 = kept (has_plane_reads g.optional) i before.first after.first k.first a2.0 in
    let e3 = kept (has_plane_reads g.optional) i before.second after.second k.second a3.0 in
    let e4 = kept (has_plane_reads g.optional) i before.third after.third k.third a3.1 in
    λ j. record { opened = e0 j; zeroth = e1 j; first = e2 j; second = e3 j; third = e4 j }

-- what is known stays as it is
pub nothing_more : (g : Parts) (i : Item) (before after : Looks) (known : List Known) (ce : ℕ) → is_whole (known_of known ce) ≡ true → known ≡ slice_set known ce (learned g i before after (known_of known ce))
nothing_more g i before after known ce h = sym (ap (slice_set known ce) (learned_whole g i before after (known_of known ce) h) ∙ set-get_or known ce all_known)

undoubted : (o : Option LunState) (b : Bool) → b ≡ true → is_doubtful o b ≡ false
undoubted o false h = cc
undoubted None true h = refl
undoubted (Some lun) true h = refl

pub no_doubts : (bus : BusView) (k : Known) (ce : ℕ) → is_whole k ≡ true → doubts bus k ce ≡ false
no_doubts bus k ce h =
    let a0 = and_parts k.opened _ h in
    let a1 = and_parts (is_all k.zeroth) _ a0.1 in
    let a2 = and_parts (is_all k.first) _ a1.1 in
    let a3 = and_parts (is_all k.second) (is_all k.third) a2.1 in
    rw (undoubted (looked bus (record { ce = ce; lun = 0 })) (is_all k.zeroth) a1.0, undoubted (looked bus (record { ce = ce; lun = 1 })) (is_all k.first) a2.0, undoubted (looked bus (record { ce = ce; lun = 2 })) (is_all k.second) a3.0, undoubted (looked bus (record { ce = ce; lun = 3 })) (is_all k.third) a3.1) refl
