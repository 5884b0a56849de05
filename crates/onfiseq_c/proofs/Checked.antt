-- One item more of those that the caller gives.
use Rattle.std.proofs.Common.{◌≡◌, ℕ, ◌+◌, Bool, List, [], ◌∷◌, Some, None, length, refl, sym, ap, ◌∙◌, subst}
use Rattle.nand_geometry.specs.declared.parts.Parts.{Parts}
use Rattle.nand_geometry.specs.Optional.{is_wide}
use Rattle.onfi_cycle.specs.declared.item.Item.{Item}
use Rattle.onfi_cycle.specs.declared.forbidden.Forbidden.{Forbidden}
use Rattle.onfi_cycle.specs.Permitted.{broken}
use Rattle.onfi_cycle.specs.State.{BusView, Follows, judged, bus_after}
use Rattle.onfi_cycle.proofs.Following.{judged_is_broken, bus_goes_on}
use Rattle.bus_record.specs.Item.{item_of}
use Rattle.onfi_cycle.specs.Codes.{rule_number}
use Rattle.onfiseq_c.specs.Check.{checked, answer}
use Rattle.bus_record.specs.declared.item.OnfiseqItem.{OnfiseqItem}

pub ends : (g : Parts) (n : ℕ) (past : List Item) (items : List OnfiseqItem) (at : ℕ) → items ≡ [] → checked g n past items at ≡ answer 0 0 at
unfolding checked
ends g n past items at e = rw e refl

pub is_none : (g : Parts) (n : ℕ) (past : List Item) (all : List OnfiseqItem) (i : OnfiseqItem) (items : List OnfiseqItem) (at : ℕ)
    → all ≡ i ∷ items → item_of (is_wide g.optional) i ≡ None → checked g n past all at ≡ answer 73 0 at
unfolding checked
is_none g n past all i items at e none = rw (e, none) refl

pub breaks : (g : Parts) (n : ℕ) (past : List Item) (all : List OnfiseqItem) (i : OnfiseqItem) (items : List OnfiseqItem) (at : ℕ) (item : Item) (rule : Forbidden)
    → all ≡ i ∷ items → item_of (is_wide g.optional) i ≡ Some item → broken g n past item ≡ Some rule → checked g n past all at ≡ answer 70 (rule_number rule) at
unfolding checked
breaks g n past all i items at item rule e some bad = rw (e, some, bad) refl

pub goes_on : (g : Parts) (n : ℕ) (past : List Item) (all : List OnfiseqItem) (i : OnfiseqItem) (items : List OnfiseqItem) (at : ℕ) (item : Item)
    → all ≡ i ∷ items → item_of (is_wide g.optional) i ≡ Some item → broken g n past item ≡ None → checked g n past all at ≡ checked g n (item ∷ past) items (at + 1)
unfolding checked
goes_on g n past all i items at item e some good = rw (e, some, good) refl

pub is_empty : {A : Type 0} (items : List A) → length items ≡ 0 → items ≡ []
is_empty [] e = refl
is_empty (x ∷ xs) e = cc

-- the items in front of the rest were played on a state that follows them
pub record Played (g : Parts) (n : ℕ) (s : BusView) (all rest : List OnfiseqItem) (at : ℕ) : Type 0 where
  pub past : List Item
  pub follows : Follows g n s past
  pub same : checked g n [] all 0 ≡ checked g n past rest at

pub begun : (g : Parts) (n : ℕ) (s : BusView) (all : List OnfiseqItem) → Follows g n s [] → Played g n s all all 0
begun g n s all f = record { past = []; follows = f; same = refl }

-- what the rest begins with, in the profile of the chip
in_profile : (g : Parts) (n : ℕ) (s : BusView) (wide : Bool) → wide ≡ is_wide s.geometry.optional → Follows g n s [] → wide ≡ is_wide g.optional
in_profile g n s wide w f = w ∙ ap (λ (x : Parts). is_wide x.optional) f.geometry

pub stops_at_none : (g : Parts) (n : ℕ) (first s : BusView) (all rest : List OnfiseqItem) (at : ℕ) (i : OnfiseqItem) (items : List OnfiseqItem) (wide : Bool)
    → wide ≡ is_wide first.geometry.optional → Follows g n first [] → Played g n s all rest at → rest ≡ i ∷ items → item_of wide i ≡ None → answer 73 0 at ≡ checked g n [] all 0
stops_at_none g n first s all rest at i items wide w f p e none =
    let same = in_profile g n first wide w f in
    sym (p.same ∙ is_none g n p.past rest i items at e (ap (λ (x : Bool). item_of x i) (sym same) ∙ none))

pub stops_at_rule : (g : Parts) (n : ℕ) (first s : BusView) (all rest : List OnfiseqItem) (at : ℕ) (i : OnfiseqItem) (items : List OnfiseqItem) (wide : Bool) (item : Item) (rule : Forbidden)
    → wide ≡ is_wide first.geometry.optional → Follows g n first [] → Played g n s all rest at → rest ≡ i ∷ items → item_of wide i ≡ Some item → judged s item ≡ Some rule
    → answer 70 (rule_number rule) at ≡ checked g n [] all 0
stops_at_rule g n first s all rest at i items wide item rule w f p e some bad =
    let same = in_profile g n first wide w f in
    sym (p.same ∙ breaks g n p.past rest i items at item rule e (ap (λ (x : Bool). item_of x i) (sym same) ∙ some) (sym (judged_is_broken g n s p.past item p.follows) ∙ bad))

pub plays_on : (g : Parts) (n : ℕ) (first s later : BusView) (all rest : List OnfiseqItem) (at : ℕ) (i : OnfiseqItem) (items : List OnfiseqItem) (wide : Bool) (item : Item)
    → wide ≡ is_wide first.geometry.optional → Follows g n first [] → Played g n s all rest at → rest ≡ i ∷ items → item_of wide i ≡ Some item → judged s item ≡ None → later ≡ bus_after item s
    → Played g n later all items (at + 1)
plays_on g n first s later all rest at i items wide item w f p e some good after =
    let same = in_profile g n first wide w f in
    record {
      past = item ∷ p.past;
      follows = subst (λ (x : BusView). Follows g n x (item ∷ p.past)) (sym after) (bus_goes_on g n s p.past item good p.follows);
      same =
          p.same ∙ goes_on g n p.past rest i items at item e (ap (λ (x : Bool). item_of x i) (sym same) ∙ some) (sym (judged_is_broken g n s p.past item p.follows) ∙ good);
    }

pub ends_there : (g : Parts) (n : ℕ) (s : BusView) (all rest : List OnfiseqItem) (at : ℕ) → Played g n s all rest at → rest ≡ [] → answer 0 0 at ≡ checked g n [] all 0
ends_there g n s all rest at p e = sym (p.same ∙ ends g n p.past rest at e)
