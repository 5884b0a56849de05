-- What is said of an image that is loaded.
use Rattle.std.proofs.Common.{◌≡◌, Option, Some, None, Result, Ok, Err, refl, sym, ◌∙◌, subst}
use Rattle.die_model.specs.declared.refusal.ImageFault.{ImageFault}
use Rattle.die_model.specs.declared.refusal.ImageRefusal.{ImageRefusal}
use Rattle.die_model.specs.declared.refusal.ImageRefusal.TheVariants.{Fault, OutOfMemory}
use Rattle.die_model.specs.Loading.{IsJudgedBy}
use Rattle.trace_data.specs.Data.{RefusesImage}

pub taken : {X : Type 0} (o : Option ImageFault) (r : Result X ImageRefusal) (x : X) → IsJudgedBy o r → r ≡ Ok x → o ≡ None
taken None r x judged is = refl
taken (Some fault) r x judged is = absurd (clash x fault (sym is ∙ judged))
  where
    clash : {X : Type 0} (x : X) (f : ImageFault) → Ok x ≡ Err (Fault f) → ⊥
    clash x f e = cc

refuses : (o : Option ImageFault) (e : ImageRefusal) → e ≡ OutOfMemory → RefusesImage o e
refuses o e is = subst (RefusesImage o) (sym is) tt

pub refused : {X : Type 0} (o : Option ImageFault) (r : Result X ImageRefusal) (e : ImageRefusal) → IsJudgedBy o r → r ≡ Err e → RefusesImage o e
refused None (Ok x) e judged is = cc
refused None (Err x) e judged is = let same : x ≡ e = cc in refuses None e (sym same ∙ judged)
refused (Some fault) r e judged is = let same : Fault fault ≡ e = cc in subst (RefusesImage (Some fault)) same refl
