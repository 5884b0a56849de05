-- Images that are given, one after the other.
use Rattle.std.proofs.Common.{◌≡◌, ℕ, Bool, true, Option, List, ◌∷◌, set, inr, sym, subst}
use Rattle.seq_files.specs.Store.{Store}
use Rattle.nand_geometry.specs.declared.parts.Parts.{Parts}
use Rattle.die_model.specs.Die.{Die}
use Rattle.target_bus.specs.Bus.{number_of}
use Rattle.recording.specs.declared.data_request.GivenImage.{GivenImage}
use Rattle.recording.specs.Opened.{IsGiven, AreGiven, AreRefused, AreGoing}

one_more : (files : Option Store) (g : Parts) (targets : ℕ) (images here rest : List GivenImage) (image : GivenImage) (die : Die) (first dies : List Die) (before known : List Bool) → here ≡ image ∷ rest → AreGoing files g targets images here first dies before known → IsGiven files g targets image die → AreGoing files g targets images rest first (set dies (number_of g image.lun) die) before (set known (number_of g image.lun) true)
one_more files g targets images here rest image die first dies before known split going is = record {
  given = λ later told k. going.given later told (subst (λ (xs : List GivenImage). AreGiven files g targets xs dies later known told) (sym split) (die, is, k));
  refused = λ fault k. going.refused fault (subst (λ (xs : List GivenImage). AreRefused files g targets xs fault) (sym split) (inr (die, is, k)));
}

-- an image more is given, where the files and the channel are still the same
pub goes_on : (files fs : Option Store) (g h : Parts) (targets n : ℕ) (images here rest : List GivenImage) (image : GivenImage) (first dies later : List Die) (before known told : List Bool) → here ≡ image ∷ rest → fs ≡ files → h ≡ g → n ≡ targets → AreGoing files g targets images here first dies before known → ((die : Die) × IsGiven fs h n image die × (later ≡ set dies (number_of h image.lun) die) × (told ≡ set known (number_of h image.lun) true)) → AreGoing files g targets images rest first later before told
goes_on files fs g h targets n images here rest image first dies later before known told split same_files same_parts same_targets going k =
    let die = k.0 in
    let is_files : IsGiven files h n image die = subst (λ (f : Option Store). IsGiven f h n image die) same_files k.1 in
    let is_parts : IsGiven files g n image die = subst (λ (x : Parts). IsGiven files x n image die) same_parts is_files in
    let is : IsGiven files g targets image die = subst (λ (m : ℕ). IsGiven files g m image die) same_targets is_parts in
    let more = one_more files g targets images here rest image die first dies before known split going is in
    let dies_are : later ≡ set dies (number_of g image.lun) die = subst (λ (x : Parts). later ≡ set dies (number_of x image.lun) die) same_parts k.2 in
    let known_are : told ≡ set known (number_of g image.lun) true = subst (λ (x : Parts). told ≡ set known (number_of x image.lun) true) same_parts k.3 in
    subst (λ (ds : List Die). AreGoing files g targets images rest first ds before told) (sym dies_are)
    (subst (λ (bs : List Bool). AreGoing files g targets images rest first (set dies (number_of g image.lun) die) before bs) (sym known_are) more)
