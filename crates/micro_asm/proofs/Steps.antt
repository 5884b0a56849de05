-- One step over what has been read.
use Rattle.std.proofs.Common.{◌≡◌, ℕ, List, length, Option, Some, sym, ap, ◌∙◌, Bor}
use Rattle.std.proofs.Math.Path.{fun_ext}
use Rattle.std.specs.BTreeMap.{BTreeMap, UpdatesBy}
use Rattle.std.specs.Cmp.Lexicographic.{slice_cmp}
use Rattle.std.specs.Map.{update}
use Rattle.std.specs.Ordering.{nat_cmp}
use Rattle.std.specs.Str.{bytes_eq}
use Rattle.std.proofs.lemmas.Map.Text.{btree_map_updates_str}
use Rattle.micro_asm.specs.declared.heading.Heading.{Heading}
use Rattle.micro_asm.specs.Line.{Entry, Label}
use Rattle.micro_asm.specs.Judged.{kept}
use Rattle.micro_asm.specs.Reading.{Seen}
use Rattle.micro_asm.specs.Kept.{places}

abbrev seen_as : Seen → Seen
seen_as s = s

-- the labels once one more is in the map
pub places_more : (name : List ℕ) (place : ℕ) (old new : BTreeMap (Bor (List ℕ)) ℕ) → UpdatesBy (λ x y. slice_cmp nat_cmp x.now y.now) (λ k. slice_cmp nat_cmp name k.now) old new (Some place) → update bytes_eq (places old) name (Some place) ≡ places new
places_more name place old new updates = fun_ext (λ q. sym (btree_map_updates_str name old new (Some place) updates q))

pub label_kept : (line place : ℕ) (h : Heading) (entries : List (ℕ × Entry)) (old new : BTreeMap (Bor (List ℕ)) ℕ) (name : List ℕ)
    → place ≡ length entries
    → UpdatesBy (λ x y. slice_cmp nat_cmp x.now y.now) (λ k. slice_cmp nat_cmp name k.now) old new (Some place)
    → seen_as (record { line = line; heading = h; entries = entries; labels = places new }) ≡ kept (record { line = line; heading = h; entries = entries; labels = places old }) (Label name)
label_kept line place h entries old new name is updates =
    let labels : update bytes_eq (places old) name (Some (length entries)) ≡ places new = ap (λ (n : ℕ). update bytes_eq (places old) name (Some n)) (sym is) ∙ places_more name place old new updates in
    ap (λ (f : List ℕ → Option ℕ). seen_as (record { line = line; heading = h; entries = entries; labels = f })) (sym labels)
