-- How an item of a legal trace is judged, whose readies are written: it is permitted, and what is looked at tells which LUNs are busy.
use Rattle.std.proofs.Common.{◌≡◌, ◌⊎◌, inl, inr, ℕ, zero, suc, ◌<◌, ◌≤◌, ◌==◌, Bool, true, false, ◌&&◌, ◌||◌, not, cond, List, ◌∷◌, Some, None, refl, sym, ap, ◌∙◌, subst, arith, ltb, eqb-true, eq-eqb, ne_eqb, ltb-true, lt-ltb}
use Rattle.std.proofs.lemmas.Bool.{and_parts, false_from_ne_true}
use Rattle.std.proofs.lemmas.Bool.Decides.{nat_tests}
use Rattle.nand_geometry.specs.declared.parts.Parts.{Parts}
use Rattle.onfi_cycle.specs.declared.command.Command.TheVariants.{Reset}
use Rattle.onfi_cycle.specs.declared.item.Cycle.{Cycle}
use Rattle.onfi_cycle.specs.declared.item.Failures.{Failures}
use Rattle.onfi_cycle.specs.declared.item.Item.{Item}
use Rattle.onfi_cycle.specs.declared.item.Item.TheVariants.{Cyc, Rdy, Ard}
use Rattle.onfi_cycle.specs.declared.item.Kind.{Kind}
use Rattle.onfi_cycle.specs.declared.item.Kind.TheVariants.{Cmd, Adr, Din, Dout}
use Rattle.onfi_cycle.specs.declared.lun.Lun.{Lun}
use Rattle.onfi_cycle.specs.declared.target_cycle.TargetCycle.TheVariants.{CommandCycle}
use Rattle.onfi_cycle.specs.Look.{look_at as look_of, look_after, looked}
use Rattle.onfi_cycle.specs.Lun.{lun_view, luns_of, is_busy as works}
use Rattle.onfi_cycle.specs.OtherLun.{keeps_to}
use Rattle.onfi_cycle.specs.Permitted.{broken, is_legal}
use Rattle.onfi_cycle.specs.Effect.{is_shared}
use Rattle.onfi_cycle.specs.LunView.{LunView}
use Rattle.onfi_cycle.specs.Rules.{breaks_several_luns, is_unclear}
use Rattle.nand_geometry.specs.declared.optional.Optional.{Optional}
use Rattle.nand_geometry.specs.Optional.{no_optional, is_wide}
use Rattle.onfi_cycle.specs.Sequence.{target_of, target_cycle}
use Rattle.onfi_cycle.specs.State.{BusView, Follows}
use Rattle.onfi_cycle.proofs.Booleans.{clash}
use Rattle.onfi_cycle.proofs.CommandBytes.{commands_have_bytes}
use Rattle.onfi_cycle.proofs.Following.{looked_is_look}
use Rattle.onfi_cycle.proofs.Others.{others_keep, keeps_several_luns}
use Rattle.trace_faults.specs.declared.readies.Readies.TheVariants.{Written}
use Rattle.trace_faults.specs.declared.verdict.Verdict.TheVariants.{Permitted}
use Rattle.trace_faults.specs.Middle.{Seen, verdict, seen_after}
use Rattle.trace_faults.specs.Recovery.{judged_here}
use Rattle.trace_faults.proofs.Judged.{IsOn, goes_on, judged_after}
use Rattle.trace_ops.specs.declared.judged.Judged.{Judged}
use Rattle.trace_ops.specs.declared.looks.Looks.{Looks}
use Rattle.trace_ops.specs.AtWork.{begins_work}
use Rattle.trace_ops.specs.Listing.{looks_of, look_at, is_busy, is_command, is_reset}
use Rattle.trace_ops.proofs.Starts.{starts_by, cycle_busy, ready_busy, array_ready_busy, starts_keeps, output_starts, reset_begins}
use Rattle.trace_ops.proofs.Tails.{split}
use Rattle.trace_ops.proofs.Turns.{put_at, put_own, put_other, same_lun}
use Rattle.trace_ops.proofs.Wholes.{KnowsAll, plain, verdict_so, after_so, known_after}

-- ---- what is seen of a legal past

pub record OnPast (g : Parts) (targets : ℕ) (seen : Seen) (past : List Item) : Type 0 where
  pub on : IsOn g targets seen.state past
  pub knows : KnowsAll seen.known

module _ (g : Parts) (targets : ℕ) (seen : Seen) (past : List Item) (i : Item) (later : List Item) (on : OnPast g targets seen past) (h : broken g targets past i ≡ None) where
  judged_none : judged_here seen.state i ≡ None
  judged_none = judged_after g targets seen.state past i on.on ∙ h

  pub is_said : verdict Written seen i later ≡ Permitted
  is_said = verdict_so Written seen i later on.knows ∙ ap plain judged_none

  pub on_past_on : OnPast g targets (seen_after Written seen i later) (i ∷ past)
  on_past_on = record {
    on = subst (λ (s : Seen). IsOn g targets s.state (i ∷ past)) (sym (after_so Written seen i later on.knows)) (goes_on g targets seen.state past i judged_none on.on);
    knows = known_after Written seen i later on.knows;
  }

-- the item as it is judged: it is permitted
abbrev pub permitted_as : (one_lun : Bool) → ℕ → Item → (before after : Looks) → Judged
permitted_as one_lun n i before after = record { number = n; item = i; ce = target_of i; one_lun = one_lun; said = Permitted; before = before; after = after }

-- ---- which LUNs are busy

abbrev pub busy_of : Parts → ℕ → List Item → (ce lun : ℕ) → Bool
busy_of g targets past ce lun = is_busy (look_after g targets past (record { ce = ce; lun = lun }))

-- the looks tell it
pub record Sees (g : Parts) (targets : ℕ) (past : List Item) (ce : ℕ) (looks : Looks) : Type 0 where
  pub busy : (lun : ℕ) → lun < 4 → is_busy (look_at looks lun) ≡ busy_of g targets past ce lun

pub look_there : (bus : BusView) (ce lun : ℕ) → lun < 4 → look_at (looks_of bus ce) lun ≡ looked bus (record { ce = ce; lun = lun })
look_there bus ce zero lt = refl
look_there bus ce (suc zero) lt = refl
look_there bus ce (suc (suc zero)) lt = refl
look_there bus ce (suc (suc (suc zero))) lt = refl
look_there bus ce (suc (suc (suc (suc lun)))) lt = absurd (omega (arith, lt))

pub sees_of : (g : Parts) (targets : ℕ) (bus : BusView) (past : List Item) (ce : ℕ) → Follows g targets bus past → Sees g targets past ce (looks_of bus ce)
sees_of g targets bus past ce follows = record {
  busy = λ lun lt. ap is_busy (look_there bus ce lun lt ∙ looked_is_look g targets bus past (record { ce = ce; lun = lun }) follows);
}

pub record WorksThere (g : Parts) (targets : ℕ) (past : List Item) (ce lun : ℕ) : Type 0 where
  pub target : ce < targets
  pub few : lun < g.luns
  pub works : works g past (record { ce = ce; lun = lun }) ≡ true

pub works_there : (g : Parts) (targets : ℕ) (past : List Item) (ce lun : ℕ) → busy_of g targets past ce lun ≡ true → WorksThere g targets past ce lun
works_there g targets past ce lun h = at (ltb ce targets) refl (ltb lun g.luns) refl h
  where
    at : (a : Bool) → ltb ce targets ≡ a → (b : Bool) → ltb lun g.luns ≡ b → is_busy (cond (a && b) (Some (look_of (lun_view g past (record { ce = ce; lun = lun })))) None) ≡ true →
        WorksThere g targets past ce lun
    at true e true f h = record { target = ltb-true ce targets e; few = ltb-true lun g.luns f; works = h }
    at true e false f h = cc
    at false e b f h = cc

pub busy_there : (g : Parts) (targets : ℕ) (past : List Item) (ce lun : ℕ) → ce < targets → lun < g.luns → busy_of g targets past ce lun ≡ works g past (record { ce = ce; lun = lun })
busy_there g targets past ce lun p q =
    ap (λ b. is_busy (cond (b && ltb lun g.luns) (Some (look_of (lun_view g past (record { ce = ce; lun = lun })))) None)) (lt-ltb ce targets p)
    ∙ ap (λ b. is_busy (cond b (Some (look_of (lun_view g past (record { ce = ce; lun = lun })))) None)) (lt-ltb lun g.luns q)

-- the same of two pasts, where the LUN does the same
same_busy : (g : Parts) (targets : ℕ) (past other : List Item) (ce lun : ℕ) → works g other (record { ce = ce; lun = lun }) ≡ works g past (record { ce = ce; lun = lun }) →
    busy_of g targets other ce lun ≡ busy_of g targets past ce lun
same_busy g targets past other ce lun h = at (ltb ce targets && ltb lun g.luns)
  where
    at : (b : Bool) → is_busy (cond b (Some (look_of (lun_view g other (record { ce = ce; lun = lun })))) None) ≡ is_busy (cond b (Some (look_of (lun_view g past (record { ce = ce; lun = lun })))) None)
    at true = h
    at false = refl

-- ---- readies

or_nothing : (b : Bool) → (b || false) ≡ b
or_nothing true = refl
or_nothing false = refl

none_busy : (g : Parts) (targets : ℕ) (past : List Item) (ce lun : ℕ) → works g past (record { ce = ce; lun = lun }) ≡ false → busy_of g targets past ce lun ≡ false
none_busy g targets past ce lun h = at (ltb ce targets && ltb lun g.luns)
  where
    at : (b : Bool) → is_busy (cond b (Some (look_of (lun_view g past (record { ce = ce; lun = lun })))) None) ≡ false
    at true = h
    at false = refl

apart_false : (a b c d : ℕ) → ((a ≡ c) → (b ≡ d) → ⊥) → (c == a && d == b) ≡ false
apart_false a b c d apart = at (c == a) refl (d == b) refl
  where
    at : (x : Bool) → (c == a) ≡ x → (y : Bool) → (d == b) ≡ y → (x && y) ≡ false
    at true e true f = absurd (apart (sym (eqb-true c a e)) (sym (eqb-true d b f)))
    at true e false f = refl
    at false e y f = refl

-- a ready ends the work of its LUN
pub busy_ready : (g : Parts) (targets : ℕ) (past : List Item) (ce lun : ℕ) (fail : Failures) (a b : ℕ) →
    busy_of g targets (Rdy ce lun fail ∷ past) a b ≡ put_at (busy_of g targets past) ce lun false a b
busy_ready g targets past ce lun fail a b = at (same_lun a ce b lun)
  where
    of : works g (Rdy ce lun fail ∷ past) (record { ce = a; lun = b }) ≡ cond (ce == a && lun == b) false (works g past (record { ce = a; lun = b }))
    of = ready_busy g past ce lun fail (record { ce = a; lun = b })

    at : ((a ≡ ce) × (b ≡ lun)) ⊎ ((a ≡ ce) → (b ≡ lun) → ⊥) → busy_of g targets (Rdy ce lun fail ∷ past) a b ≡ put_at (busy_of g targets past) ce lun false a b
    at (inl both) =
        none_busy g targets (Rdy ce lun fail ∷ past) a b
        (of ∙ rw (eq-eqb ce a (sym both.0), eq-eqb lun b (sym both.1)) refl)
        ∙ sym (ap (λ x. put_at (busy_of g targets past) ce lun false x b) both.0 ∙ ap (put_at (busy_of g targets past) ce lun false ce) both.1 ∙ put_own (busy_of g targets past) ce lun false)
    at (inr apart) =
        same_busy g targets past (Rdy ce lun fail ∷ past) a b (of ∙ ap (λ x. cond x false (works g past (record { ce = a; lun = b }))) (apart_false a b ce lun apart))
        ∙ sym (put_other (busy_of g targets past) ce lun false a b apart)

-- an array ready leaves the work of all
pub busy_array_ready : (g : Parts) (targets : ℕ) (past : List Item) (ce lun : ℕ) (fail : Bool) (a b : ℕ) → busy_of g targets (Ard ce lun fail ∷ past) a b ≡ busy_of g targets past a b
busy_array_ready g targets past ce lun fail a b = same_busy g targets past (Ard ce lun fail ∷ past) a b (array_ready_busy g past ce lun fail (record { ce = a; lun = b }))

-- no ready begins work
never : (b : Bool) → (b && (not b || false)) ≡ false
never true = refl
never false = refl

pub ready_works : (g : Parts) (past : List Item) (ce lun : ℕ) (fail : Failures) (x : Lun) → begins_work g past (Rdy ce lun fail) x ≡ false
ready_works g past ce lun fail x = ap (λ b. b && (not (works g past x) || false)) (ready_busy g past ce lun fail x) ∙ at (ce == x.ce && lun == x.lun)
  where
    at : (b : Bool) → (cond b false (works g past x) && (not (works g past x) || false)) ≡ false
    at true = refl
    at false = never (works g past x)

pub array_ready_works : (g : Parts) (past : List Item) (ce lun : ℕ) (fail : Bool) (x : Lun) → begins_work g past (Ard ce lun fail) x ≡ false
array_ready_works g past ce lun fail x = ap (λ b. b && (not (works g past x) || false)) (array_ready_busy g past ce lun fail x) ∙ never (works g past x)

-- ---- cycles

abbrev pub at_lun : (ce lun : ℕ) → Lun
at_lun ce lun = record { ce = ce; lun = lun }

-- the LUN works after it, and it didn't before or is reset
abbrev pub begins_between : Cycle → (before after : Looks) → (lun : ℕ) → Bool
begins_between c before after lun = is_busy (look_at after lun) && (not (is_busy (look_at before lun)) || is_reset c)

reset_starts : (g : Parts) (past : List Item) (c : Cycle) (l : Lun) → is_reset c ≡ true → target_cycle c.kind c.byte ≡ CommandCycle Reset
reset_starts g past c l h = at c.kind h
  where
    at : (kind : Kind) → (is_command kind && c.byte == 0xff) ≡ true → target_cycle kind c.byte ≡ CommandCycle Reset
    at Cmd e = ap CommandCycle (commands_have_bytes.command_of_byte Reset c.byte (ap Some (sym (eqb-true c.byte 0xff e))))
    at Adr e = cc
    at Din e = cc
    at Dout e = cc

-- in the base profile targets aren't shared
pub is_narrow : (g : Parts) → g.optional ≡ no_optional → is_shared g ≡ false
is_narrow g base = ap (λ (o : Optional). is_wide o && ltb 1 g.luns) base

reset_few : (g : Parts) (luns : List LunView) → is_shared g ≡ false → breaks_several_luns g luns (CommandCycle Reset) ≡ false → ltb 1 g.luns ≡ false
unfolding breaks_several_luns
reset_few g luns narrow h = sym (ap (λ (b : Bool). cond b (is_unclear luns Reset) (ltb 1 g.luns)) narrow) ∙ h

pub or_other : (a b : Bool) → a ≡ false → (a || b) ≡ true → b ≡ true
or_other true b h e = cc
or_other false b h e = e

module _ (g : Parts) (targets : ℕ) (past : List Item) (c : Cycle) (before after : Looks) (sees : Sees g targets past c.ce before) (saw : Sees g targets (Cyc c ∷ past) c.ce after) where
  own_busy : (lun : ℕ) → works g (Cyc c ∷ past) (at_lun c.ce lun) ≡ (works g past (at_lun c.ce lun) || starts_by g past (at_lun c.ce lun) (target_cycle c.kind c.byte))
  own_busy lun = cycle_busy g past c (at_lun c.ce lun) ∙ ap (λ b. works g past (at_lun c.ce lun) || (b && starts_by g past (at_lun c.ce lun) (target_cycle c.kind c.byte))) (eq-eqb c.ce c.ce refl)

  -- where a LUN begins work the cycle starts that
  pub begins_starts : (lun : ℕ) → lun < 4 → begins_between c before after lun ≡ true → starts_by g past (at_lun c.ce lun) (target_cycle c.kind c.byte) ≡ true
  begins_starts lun lt h = at (is_reset c) refl (and_parts _ _ h).1
    where
      there : WorksThere g targets (Cyc c ∷ past) c.ce lun
      there = works_there g targets (Cyc c ∷ past) c.ce lun (sym (saw.busy lun lt) ∙ (and_parts (is_busy (look_at after lun)) (not (is_busy (look_at before lun)) || is_reset c) h).0)

      at : (r : Bool) → is_reset c ≡ r → (not (is_busy (look_at before lun)) || r) ≡ true → starts_by g past (at_lun c.ce lun) (target_cycle c.kind c.byte) ≡ true
      at true e m = ap (starts_by g past (at_lun c.ce lun)) (reset_starts g past c (at_lun c.ce lun) e) ∙ reset_begins g past (at_lun c.ce lun)
      at false e m = by_before (is_busy (look_at before lun)) refl m
        where
          by_before : (b : Bool) → is_busy (look_at before lun) ≡ b → (not b || false) ≡ true → starts_by g past (at_lun c.ce lun) (target_cycle c.kind c.byte) ≡ true
          by_before true f m = cc
          by_before false f m =
              or_other (works g past (at_lun c.ce lun)) _ (sym (busy_there g targets past c.ce lun there.target there.few) ∙ sym (sees.busy lun lt) ∙ f)
              (sym (own_busy lun) ∙ there.works)

  pub begins_there : (lun : ℕ) → lun < 4 → begins_between c before after lun ≡ true → WorksThere g targets (Cyc c ∷ past) c.ce lun
  begins_there lun lt h = works_there g targets (Cyc c ∷ past) c.ce lun (sym (saw.busy lun lt) ∙ (and_parts (is_busy (look_at after lun)) (not (is_busy (look_at before lun)) || is_reset c) h).0)

  pub begins_busy : (lun : ℕ) → lun < 4 → begins_between c before after lun ≡ true → busy_of g targets (Cyc c ∷ past) c.ce lun ≡ true
  begins_busy lun lt h = sym (saw.busy lun lt) ∙ (and_parts (is_busy (look_at after lun)) (not (is_busy (look_at before lun)) || is_reset c) h).0

  -- where it begins none it does what it did
  pub rests_busy : (lun : ℕ) → lun < 4 → begins_between c before after lun ≡ false → busy_of g targets (Cyc c ∷ past) c.ce lun ≡ busy_of g targets past c.ce lun
  rests_busy lun lt h =
      sym (saw.busy lun lt) ∙ at (is_busy (look_at before lun)) (is_busy (look_at after lun)) (is_reset c) grows h ∙ sees.busy lun lt
    where
      stays : busy_of g targets past c.ce lun ≡ true → busy_of g targets (Cyc c ∷ past) c.ce lun ≡ true
      stays e =
          let there = works_there g targets past c.ce lun e in
          busy_there g targets (Cyc c ∷ past) c.ce lun there.target there.few ∙ own_busy lun ∙ ap (λ b. b || starts_by g past (at_lun c.ce lun) (target_cycle c.kind c.byte)) there.works

      grows : is_busy (look_at before lun) ≡ true → is_busy (look_at after lun) ≡ true
      grows e = saw.busy lun lt ∙ stays (sym (sees.busy lun lt) ∙ e)

      at : (b a r : Bool) → (b ≡ true → a ≡ true) → (a && (not b || r)) ≡ false → a ≡ b
      at true a r f e = f refl
      at false true r f e = cc
      at false false r f e = refl

  -- no cycle ends work
  pub never_ends : (lun : ℕ) → lun < 4 → (is_busy (look_at before lun) && not (is_busy (look_at after lun))) ≡ false
  never_ends lun lt = at (begins_between c before after lun) refl
    where
      ended : (b a : Bool) → a ≡ true → (b && not a) ≡ false
      ended b true h = off b
        where
          off : (x : Bool) → (x && false) ≡ false
          off true = refl
          off false = refl
      ended b false h = cc

      same : (b a : Bool) → a ≡ b → (b && not a) ≡ false
      same true true h = refl
      same true false h = cc
      same false a h = refl

      at : (x : Bool) → begins_between c before after lun ≡ x → (is_busy (look_at before lun) && not (is_busy (look_at after lun))) ≡ false
      at true h = ended (is_busy (look_at before lun)) (is_busy (look_at after lun)) (saw.busy lun lt ∙ begins_busy lun lt h)
      at false h = same (is_busy (look_at before lun)) (is_busy (look_at after lun)) (saw.busy lun lt ∙ rests_busy lun lt h ∙ sym (sees.busy lun lt))

  -- of another target nothing changes
  pub busy_elsewhere : (a b : ℕ) → (c.ce ≡ a → ⊥) → busy_of g targets (Cyc c ∷ past) a b ≡ busy_of g targets past a b
  busy_elsewhere a b apart =
      same_busy g targets past (Cyc c ∷ past) a b
      (cycle_busy g past c (at_lun a b) ∙ ap (λ x. works g past (at_lun a b) || (x && starts_by g past (at_lun a b) (target_cycle c.kind c.byte))) (ne_eqb c.ce a apart) ∙ or_nothing (works g past (at_lun a b)))

  module _ (base : g.optional ≡ no_optional) (legal : is_legal g targets past ≡ true) (h : broken g targets past (Cyc c) ≡ None) where
    few_luns : is_reset c ≡ true → g.luns ≤ 1
    few_luns e = (let low : ltb 1 g.luns ≡ false = at in grind (arith, nat_tests))
      where
        at : ltb 1 g.luns ≡ false
        at = reset_few g (luns_of g past c.ce) (is_narrow g base) (sym (ap (breaks_several_luns g (luns_of g past c.ce)) (reset_starts g past c (at_lun c.ce 0) e)) ∙ keeps_several_luns g targets past c h)

    -- a cycle begins work of one LUN at most
    pub one_begins : (a b : ℕ) → a < 4 → b < 4 → begins_between c before after a ≡ true → begins_between c before after b ≡ true → a ≡ b
    one_begins a b low less p q = at (split a b)
      where
        at : (a ≡ b) ⊎ (a ≡ b → ⊥) → a ≡ b
        at (inl same) = same
        at (inr apart) = absurd (by_reset (is_reset c) refl)
          where
            x : WorksThere g targets (Cyc c ∷ past) c.ce a
            x = begins_there a low p

            y : WorksThere g targets (Cyc c ∷ past) c.ce b
            y = begins_there b less q

            keeps : works g (Cyc c ∷ past) (at_lun c.ce a) ≡ works g past (at_lun c.ce a)
            keeps =
                (others_keep g targets past (Cyc c) (at_lun c.ce a) (at_lun c.ce b) legal h
                (ap (λ z. z && keeps_to g past (at_lun c.ce b) (target_cycle c.kind c.byte)) (eq-eqb c.ce c.ce refl) ∙ starts_keeps g past (at_lun c.ce b) (target_cycle c.kind c.byte) (is_narrow g base) (begins_starts b less q)) refl apart x.few y.few).busy

            was : is_busy (look_at before a) ≡ true
            was = sees.busy a low ∙ busy_there g targets past c.ce a x.target x.few ∙ sym keeps ∙ x.works

            by_reset : (r : Bool) → is_reset c ≡ r → ⊥
            by_reset true e = (let few = few_luns e in let u = x.few in let v = y.few in apart (omega (arith, few, u, v)))
            by_reset false e =
                clash (not (is_busy (look_at before a)) || is_reset c) (and_parts (is_busy (look_at after a)) (not (is_busy (look_at before a)) || is_reset c) p).1
                (ap (λ r. not (is_busy (look_at before a)) || r) e ∙ ap (λ z. not z || false) was)

  -- a LUN begins work by the looks where it does in the model
  pub work_between : (lun : ℕ) → lun < 4 → c.ce < targets → lun < g.luns → begins_work g past (Cyc c) (at_lun c.ce lun) ≡ begins_between c before after lun
  work_between lun lt p q =
      ap (λ b. works g (Cyc c ∷ past) (at_lun c.ce lun) && (not (works g past (at_lun c.ce lun)) || (b && is_reset c))) (eq-eqb c.ce c.ce refl)
      ∙ ap (λ b. b && (not (works g past (at_lun c.ce lun)) || is_reset c)) (sym (busy_there g targets (Cyc c ∷ past) c.ce lun p q) ∙ sym (saw.busy lun lt))
      ∙ ap (λ b. is_busy (look_at after lun) && (not b || is_reset c)) (sym (busy_there g targets past c.ce lun p q) ∙ sym (sees.busy lun lt))

  -- and of another target none does
  pub work_elsewhere : (x : Lun) → (c.ce ≡ x.ce → ⊥) → begins_work g past (Cyc c) x ≡ false
  work_elsewhere x away =
      ap (λ b. works g (Cyc c ∷ past) x && (not (works g past x) || (b && is_reset c))) (ne_eqb c.ce x.ce away)
      ∙ ap (λ b. b && (not (works g past x) || false))
      (cycle_busy g past c x ∙ ap (λ b. works g past x || (b && starts_by g past x (target_cycle c.kind c.byte))) (ne_eqb c.ce x.ce away) ∙ or_nothing (works g past x))
      ∙ never (works g past x)

  -- an output begins none
  pub output_begins : (lun : ℕ) → lun < 4 → c.kind ≡ Dout → begins_between c before after lun ≡ false
  output_begins lun lt is =
      let none = ap (λ k. starts_by g past (at_lun c.ce lun) (target_cycle k c.byte)) is ∙ output_starts g past (at_lun c.ce lun) in
      false_from_ne_true (begins_between c before after lun)
      (λ e. clash (starts_by g past (at_lun c.ce lun) (target_cycle c.kind c.byte)) (begins_starts lun lt e) none)
