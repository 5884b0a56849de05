-- What is judged in two goes is judged in one.
use Rattle.std.proofs.Common.{◌≡◌, Result, Ok, ap, Bool, ◌||◌, is_some, List, [], ◌∷◌, ◌++◌, Option, ℕ, zero, suc, ◌+◌, ◌-◌, arith, refl, subst, ◌∙◌}
use Rattle.std.proofs.lemmas.List.{append_assoc}
use Rattle.std.proofs.Math.Bool.{or_assoc}
use Rattle.edge_timing.specs.declared.distance.Distance.{Distance}
use Rattle.edge_timing.specs.declared.judge.EdgeRuler.{EdgeRuler}
use Rattle.edge_timing.specs.declared.judge.EdgeJudge.{EdgeJudge}
use Rattle.edge_timing.specs.declared.edge_watch.EdgeWatch.{EdgeWatch}
use Rattle.edge_timing.specs.declared.moment.Moment.{Moment}
use Rattle.edge_timing.specs.Judged.{short_of, shorts, is_any, IsJudging}
use Rattle.edge_timing.specs.declared.strobed.Strobed.{Strobed}
use Rattle.edge_timing.specs.declared.target_edges.TargetEdges.{TargetEdges}
use Rattle.edge_timing.specs.Pauses.{pauses_of}
use Rattle.edge_timing.specs.Watched.{target_at, strobe_distances, cycle_distances, hold_distances, after_holds, after_lines, then_step, strobes_step, target_step, targets_step, changes_step, whole_step, looked, IsStepped}
use Rattle.trace_timing.specs.declared.timings.Timings.{Timings}
use Rattle.vcd_text.specs.Tokens.{◌>>=◌}
use Rattle.bus_capture.specs.declared.fault.BusFault.{BusFault}
use Rattle.bus_capture.specs.declared.sampling.Seen.{Seen}

pub shorts_append : (r : EdgeRuler) (xs ys : List (Option Distance)) → shorts r (xs ++ ys) ≡ shorts r xs ++ shorts r ys
shorts_append r [] ys = refl
shorts_append r (x ∷ xs) ys = rw (shorts_append r xs ys, append_assoc (short_of r x) (shorts r xs) (shorts r ys)) refl

pub any_append : (xs ys : List (Option Distance)) → is_any (xs ++ ys) ≡ (is_any xs || is_any ys)
any_append [] ys = refl
any_append (x ∷ xs) ys = rw (any_append xs ys, or_assoc (is_some x) (is_any xs) (is_any ys)) refl

pub judging_then : {A : Type 0} (a b c : EdgeJudge A) (xs ys : List (Option Distance)) → IsJudging a b xs → IsJudging b c ys → IsJudging a c (xs ++ ys)
judging_then a b c xs ys first second = record {
  ruler = second.ruler ∙ first.ruler;
  told = rw (second.told, first.told, first.ruler, shorts_append a.ruler xs ys, append_assoc a.told.items (shorts a.ruler xs) (shorts a.ruler ys)) refl;
  has = rw (second.has, first.has, any_append xs ys, or_assoc a.has_judged (is_any xs) (is_any ys)) refl;
}

-- the second goes by what the first left
pub judging_on : {A W : Type 0} (a b c : EdgeJudge A) (f : EdgeRuler → W → List (Option Distance)) (xs : List (Option Distance)) (v later : W)
    → IsJudging a b xs → v ≡ later → IsJudging b c (f b.ruler v) → IsJudging a c (xs ++ f a.ruler later)
judging_on {A} {W} a b c f xs v later first is second =
    judging_then a b c xs (f a.ruler later) first
    (subst (λ (r : EdgeRuler). IsJudging b c (f r later)) first.ruler (subst (λ (x : W). IsJudging b c (f b.ruler x)) is second))

-- of more than no targets the first comes, and then the others
pub targets_more : (m : Moment) (count ce : ℕ) (w : EdgeWatch) → (count ≡ 0 → ⊥) → targets_step m count ce w ≡ then_step (target_step m ce w) (targets_step m (count - 1) (ce + 1))
targets_more m zero ce w h = absurd (h refl)
targets_more m (suc n) ce w h =
    let e : n ≡ suc n - 1 = omega arith in
    ap (λ (k : ℕ). then_step (target_step m ce w) (targets_step m k (ce + 1))) e

-- what a cycle ends: by its strobe, and then as pauses
pub cycle_judged : {A : Type 0} (a b c : EdgeJudge A) (w : EdgeWatch) (s : Strobed) (times : Timings) (one_lun : Bool) (t : TargetEdges) (ds : List (Option Distance))
    → t ≡ target_at w.targets s.cycle.ce → IsJudging a b (strobe_distances s.cycle.kind w t s) → ds ≡ pauses_of times one_lun t.clock s → IsJudging b c ds
    → IsJudging a c (cycle_distances times one_lun w s)
cycle_judged a b c w s times one_lun t ds is first are second =
    subst (λ (x : TargetEdges). IsJudging a c (strobe_distances s.cycle.kind w x s ++ pauses_of times one_lun x.clock s)) is
    (judging_then a b c (strobe_distances s.cycle.kind w t s) (pauses_of times one_lun t.clock s) first (subst (λ (l : List (Option Distance)). IsJudging b c l) are second))

-- a moment: the strobes, DQ and the latches, and the targets one after the other
pub stepped : {A : Type 0} (a b c d : EdgeJudge A) (targets : ℕ) (m : Moment) (w first second third last : EdgeWatch) (seen : Seen × Seen)
    → looked targets m w ≡ Ok seen
    → first ≡ (strobes_step a.ruler.times.shown a.ruler.one_lun seen.0 seen.1 m.time w).watch
    → IsJudging a b (strobes_step a.ruler.times.shown a.ruler.one_lun seen.0 seen.1 m.time w).distances
    → second ≡ after_holds first m → IsJudging b c (hold_distances first.held m)
    → third ≡ (targets_step m targets 0 second).watch → IsJudging c d (targets_step m targets 0 second).distances
    → last ≡ after_lines third m
    → IsStepped a d targets m w last
stepped a b c d targets m w first second third last seen are first_is strobes second_is holds third_is others last_is =
    let s = strobes_step a.ruler.times.shown a.ruler.one_lun seen.0 seen.1 m.time w in
    let held : second ≡ after_holds s.watch m = second_is ∙ ap (λ (x : EdgeWatch). after_holds x m) first_is in
    record {
      step = whole_step m (changes_step a.ruler.times.shown a.ruler.one_lun targets seen.0 seen.1 m w);
      is_step = ap (λ (r : Result (Seen × Seen) BusFault). r >>= (λ seen. Ok (whole_step m (changes_step a.ruler.times.shown a.ruler.one_lun targets seen.0 seen.1 m w)))) are;
      watch = last_is ∙ ap (λ (x : EdgeWatch). after_lines x m) (third_is ∙ ap (λ (x : EdgeWatch). (targets_step m targets 0 x).watch) held);
      judging =
          judging_on a c d (λ r x. (targets_step m targets 0 x).distances) (s.distances ++ hold_distances s.watch.held m) second (after_holds s.watch m)
          (judging_on a b c (λ r x. hold_distances x.held m) s.distances first s.watch strobes first_is holds) held others;
    }
