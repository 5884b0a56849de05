-- Events stay merged as one more comes.
use Rattle.std.proofs.Common.{◌≡◌, ◌+◌, ◌==◌, Bool, true, false, ◌&&◌, cond, List, [], ◌∷◌, ◌++◌, Some, None, sym, ap, ◌∙◌, ltb}
use Rattle.std.specs.Option.{unwrap_or}
use Rattle.onfi_cycle.specs.Channel.{same_lun}
use Rattle.channel_work.specs.declared.stored.Stored.{Stored}
use Rattle.channel_work.specs.declared.stored.Stored.TheVariants.{Load as Loaded, Step as WasStepped, Ready as BecameReady, ArrayReady as ArrayBecameReady, Unload as WasUnloaded}
use Rattle.channel_work.specs.declared.events.Kept.{Kept}
use Rattle.channel_work.specs.declared.events.Kept.TheVariants.{Load, Steps, Ready, ArrayReady, Unload}
use Rattle.channel_work.specs.Events.{one_more, first_kept, IsApart, AreMerged}

-- what is kept with one more begins with the same event
same_first : (k more : Kept) (event : Stored) → one_more k event ≡ Some more → first_kept more ≡ first_kept k
same_first (Steps l times turn) more (WasStepped m number) h = at (same_lun l m && (turn == number && ltb times 4294967295)) h
  where
    at : (b : Bool) → cond b (Some (Steps l (times + 1) turn)) None ≡ Some more → first_kept more ≡ WasStepped l turn
    at true e = sym (ap (λ o. first_kept (unwrap_or o more)) e)
    at false e = cc
same_first (Steps l times turn) more (Loaded m name) h = cc
same_first (Steps l times turn) more (BecameReady m fail) h = cc
same_first (Steps l times turn) more (ArrayBecameReady m fail) h = cc
same_first (Steps l times turn) more (WasUnloaded m) h = cc
same_first (Load l host number) more event h = cc
same_first (Ready l fail) more event h = cc
same_first (ArrayReady l fail) more event h = cc
same_first (Unload l) more event h = cc

apart_from : (x last more : Kept) (xs : List Kept) → first_kept more ≡ first_kept last → IsApart x (xs ++ (last ∷ [])) → IsApart x (xs ++ (more ∷ []))
apart_from x last more [] same h = ap (one_more x) same ∙ h
apart_from x last more (y ∷ xs) same h = h

-- the last takes one more
pub merged_more : (xs : List Kept) (last more : Kept) (event : Stored) → one_more last event ≡ Some more → AreMerged (xs ++ (last ∷ [])) → AreMerged (xs ++ (more ∷ []))
merged_more [] last more event h merged = (tt, tt)
merged_more (x ∷ xs) last more event h merged = (apart_from x last more xs (same_first last more event h) merged.0, merged_more xs last more event h merged.1)

apart_longer : (x last next : Kept) (xs : List Kept) → IsApart x (xs ++ (last ∷ [])) → IsApart x ((xs ++ (last ∷ [])) ++ (next ∷ []))
apart_longer x last next [] h = h
apart_longer x last next (y ∷ xs) h = h

-- another comes behind the last
pub merged_next : (xs : List Kept) (last next : Kept) (event : Stored) → first_kept next ≡ event → one_more last event ≡ None → AreMerged (xs ++ (last ∷ [])) →
    AreMerged ((xs ++ (last ∷ [])) ++ (next ∷ []))
merged_next [] last next event first h merged = (ap (one_more last) first ∙ h, (tt, tt))
merged_next (x ∷ xs) last next event first h merged = (apart_longer x last next xs merged.0, merged_next xs last next event first h merged.1)
