-- What a view holds.
use Rattle.std.proofs.Common.{◌≡◌, ℕ, Option, Some, None, List, ⊎_elim}
use Rattle.lun_lease.specs.declared.rule.Call.{Call}
use Rattle.lun_lease.specs.Rule.{view, Has, IsApart}

pub some_is : (a b : ℕ) → Some a ≡ Some b → a ≡ b
some_is a b e = cc

pub none_is : (a : ℕ) → None ≡ Some a → ⊥
none_is a e = cc

-- a view that holds nothing
pub nothing : (calls : List Call) (lun : ℕ) → Has (view None calls) lun → ⊥
nothing calls lun has = ⊎_elim (λ e. none_is lun e) (λ e. none_is lun e) has

-- a view that holds one LUN
pub only : (a : ℕ) (calls : List Call) (lun : ℕ) → Has (view (Some a) calls) lun → a ≡ lun
only a calls lun has = ⊎_elim (λ e. some_is a lun e) (λ e. absurd (none_is lun e)) has

-- a view that holds no second LUN is apart
pub is_apart : (holds : Option ℕ) (calls : List Call) → IsApart (view holds calls)
is_apart holds calls lun e none = none_is lun none
