-- A run of data cycles on a channel in the caller's memory.
use Rattle.std.proofs.Common.{◌≡◌, ℕ, zero, suc, ◌+◌, ◌<◌, ◌≤◌, Bool, true, false, cond, List, [], ◌∷◌, Option, Some, None, length, map, take, get_or, slice_set, refl, sym, ap, ◌∙◌, arith, subst}
use Rattle.std.specs.List.{slice_get, All}
use Rattle.std.proofs.lemmas.List.{length-set, get_or-set_same, set-set}
use Rattle.std.proofs.lemmas.List.Elements.{All-set}
use Rattle.std.proofs.lemmas.Option.{slice_get-get_or}
use Rattle.onfi_cycle.specs.declared.forbidden.Forbidden.{Forbidden}
use Rattle.onfi_cycle.specs.declared.item.Kind.{Kind}
use Rattle.onfi_cycle.specs.declared.item.Kind.TheVariants.{Din, Dout}
use Rattle.onfi_cycle.specs.Bounds.{BusFits}
use Rattle.onfi_cycle.specs.Channel.{cycle}
use Rattle.onfi_cycle.specs.Inputs.{against_inputs, judged_inputs, fed_target}
use Rattle.onfi_cycle.specs.Outputs.{against_rest, given_on, judged_outputs, given_target, AreFew}
use Rattle.onfi_cycle.specs.Permitted.{judge}
use Rattle.onfi_cycle.specs.Runs.{first_rule, judged_run, after_run}
use Rattle.nand_geometry.specs.declared.parts.Parts.{Parts}
use Rattle.onfi_cycle.specs.Sequence.{takes_features}
use Rattle.onfi_cycle.specs.State.{TargetView, BusView, bus, bus_after, target_after}
use Rattle.onfi_cycle.proofs.Following.{applied}
use Rattle.onfi_cycle.proofs.Inputs.{inputs_applied}
use Rattle.onfi_cycle.proofs.Outputs.{outputs_applied, few_after}
use Rattle.onfi_cycle.proofs.Inputs.{judged_some as inputs_judged_some}
use Rattle.onfi_cycle.proofs.Outputs.{judged_some as outputs_judged_some}
use Rattle.onfi_cycle.proofs.Runs.{IsData, judged_first, run_fits}
use Rattle.target_record.specs.declared.record.OnfiseqTarget.{OnfiseqTarget}
use Rattle.bus_record.specs.Bus.{IsSound, bus_view}
use Rattle.target_record.specs.Record.{IsTarget}
use Rattle.bus_record.specs.Channel.{IsSameChannel}
use Rattle.target_record.specs.Geometry.{parts_of}
use Rattle.bus_record.specs.Kept.{Kept}
use Rattle.onfi_cycle.specs.LunView.{LunView}
use Rattle.onfi_cycle.specs.Effect.{is_data}
use Rattle.target_record.specs.Record.{HasRoom, target_of}
use Rattle.bus_record.specs.Rule.{by_option}
use Rattle.bus_record.specs.Runs.{each_taken, inputs_taken, inputs_rule, inputs_pushed, outputs_rule, outputs_pushed}
use Rattle.bus_record.proofs.Pushed.{places_of, length_seen, get_seen, set_seen, judged_there, set_same, same_channel, after_keeps}

-- what stands where no target does
abbrev pub no_target : OnfiseqTarget
no_target = record { is_open = 0; opener = 0; phase = 0; r1 = 0; r2 = 0; r3 = 0; is_empty = 0; column = 0; addresses = 0; inputs = 0; count = 0; luns = [] }

abbrev pub targets_in : Kept → List TargetView
targets_in k = map target_of (take k.count k.targets)

-- the channel with another record of a target
abbrev pub with_target : Kept → ℕ → OnfiseqTarget → BusView
with_target k ce u = bus (parts_of k.geometry) (map target_of (take k.count (slice_set k.targets ce u)))

fits_now : (k : Kept) → IsSound k → (ce : ℕ) → ce < k.count → BusFits (bus_view k)
fits_now k s ce low = s.fits (omega (arith, low))

pub seen_count : (k : Kept) → IsSound k → length (targets_in k) ≡ k.count
seen_count k s = let few = s.few in let room = s.room in let low : k.count ≤ length k.targets = omega (arith, few, room) in length_seen target_of k.count k.targets low

found_there : (k : Kept) → IsSound k → (ce : ℕ) → ce < k.count → (d : OnfiseqTarget) → slice_get (targets_in k) ce ≡ Some (target_of (get_or k.targets ce d))
found_there k s ce low d =
    let count = seen_count k s in
    let there : ce < length (targets_in k) = omega (arith, low, count) in
    slice_get-get_or (targets_in k) ce (target_of d) there ∙ ap (λ (v : TargetView). Some v) (get_seen target_of k.count k.targets ce d low)

pub inputs_judged : (k : Kept) → IsSound k → (ce count : ℕ) → ce < k.count → 0 < count → (d : OnfiseqTarget)
    → inputs_rule (parts_of k.geometry) k.count ce count (target_of (get_or k.targets ce d)) ≡ judged_inputs ce count (bus_view k)
inputs_judged k s ce count low some d = at (judge (parts_of k.geometry) k.count (target_of (get_or k.targets ce d)).tail (target_of (get_or k.targets ce d)).luns (cycle ce Din 0)) refl
  where
    at : (o : Option Forbidden) → judge (parts_of k.geometry) k.count (target_of (get_or k.targets ce d)).tail (target_of (get_or k.targets ce d)).luns (cycle ce Din 0) ≡ o
        → first_rule o (against_inputs (parts_of k.geometry) count (target_of (get_or k.targets ce d)).tail) ≡ judged_inputs ce count (bus_view k)
    at (Some rule) e = judged_first Din (bus_view k) ce count rule some (sym (judged_there k (places_of k s) (cycle ce Din 0) ce refl low d ∙ e))
    at None e =
        inputs_judged_some (bus_view k) ce count (target_of (get_or k.targets ce d)) (fits_now k s ce low) some (found_there k s ce low d)
        (sym (judged_there k (places_of k s) (cycle ce Din 0) ce refl low d ∙ e))

pub outputs_judged : (k : Kept) → IsSound k → (ce count : ℕ) → ce < k.count → 0 < count → (d : OnfiseqTarget)
    → outputs_rule (parts_of k.geometry) k.count ce count (target_of (get_or k.targets ce d)) ≡ judged_outputs ce count (bus_view k)
outputs_judged k s ce count low some d = at (judge (parts_of k.geometry) k.count (target_of (get_or k.targets ce d)).tail (target_of (get_or k.targets ce d)).luns (cycle ce Dout 0)) refl
  where
    at : (o : Option Forbidden) → judge (parts_of k.geometry) k.count (target_of (get_or k.targets ce d)).tail (target_of (get_or k.targets ce d)).luns (cycle ce Dout 0) ≡ o
        → first_rule o (against_rest (parts_of k.geometry) count (target_of (get_or k.targets ce d)).luns) ≡ judged_outputs ce count (bus_view k)
    at (Some rule) e = judged_first Dout (bus_view k) ce count rule some (sym (judged_there k (places_of k s) (cycle ce Dout 0) ce refl low d ∙ e))
    at None e =
        outputs_judged_some (bus_view k) ce count (target_of (get_or k.targets ce d)) some (found_there k s ce low d) (sym (judged_there k (places_of k s) (cycle ce Dout 0) ce refl low d ∙ e))

pub few_there : (k : Kept) → IsSound k → (ce count : ℕ) → ce < k.count → 0 < count → (d : OnfiseqTarget) → judged_outputs ce count (bus_view k) ≡ None
    → AreFew (map (given_on count) (target_of (get_or k.targets ce d)).luns)
few_there k s ce count low some d none =
    subst (λ (t : TargetView). AreFew (map (given_on count) t.luns)) (get_seen target_of k.count k.targets ce d low)
    (few_after (parts_of k.geometry) (targets_in k) ce ce count (target_of d) refl some none (fits_now k s ce low))

-- what a run leaves, where it is permitted, and else the channel as it was
abbrev pub run_pushed : Kind → (ce count : ℕ) → BusView → BusView
run_pushed kind ce count s = by_option (judged_run kind ce count s) (after_run kind ce count s) (λ rule. s)

left_there : (kind : Kind) (k : Kept) (ce count : ℕ) → ce < k.count → (d u : OnfiseqTarget) (change : TargetView → TargetView) (rule : Option Forbidden)
    → rule ≡ judged_run kind ce count (bus_view k)
    → target_of u ≡ by_option rule (change (target_of (get_or k.targets ce d))) (λ (r : Forbidden). target_of (get_or k.targets ce d))
    → ((w : TargetView) → judged_run kind ce count (bus_view k) ≡ None → w ≡ change (get_or (targets_in k) ce (target_of d)) → bus (parts_of k.geometry) (slice_set (targets_in k) ce w) ≡ after_run kind ce count (bus_view k))
    → with_target k ce u ≡ run_pushed kind ce count (bus_view k)
left_there kind k ce count low d u change rule judges is applies = ap (bus (parts_of k.geometry)) (set_seen target_of k.count k.targets ce u low) ∙ at rule judges is
  where
    at : (o : Option Forbidden) → o ≡ judged_run kind ce count (bus_view k)
        → target_of u ≡ by_option o (change (target_of (get_or k.targets ce d))) (λ (r : Forbidden). target_of (get_or k.targets ce d))
        → bus (parts_of k.geometry) (slice_set (targets_in k) ce (target_of u)) ≡ run_pushed kind ce count (bus_view k)
    at None e h =
        let seen = get_seen target_of k.count k.targets ce d low in
        applies (target_of u) (sym e) (h ∙ ap change (sym seen))
        ∙ ap (λ (o : Option Forbidden). by_option o (after_run kind ce count (bus_view k)) (λ (r : Forbidden). bus_view k)) e
    at (Some r) e h =
        let seen = get_seen target_of k.count k.targets ce d low in
        ap (λ (v : TargetView). bus (parts_of k.geometry) (slice_set (targets_in k) ce v)) (h ∙ sym seen)
        ∙ (ap (bus (parts_of k.geometry)) (set_same (targets_in k) ce (target_of d))
        ∙ ap (λ (o : Option Forbidden). by_option o (after_run kind ce count (bus_view k)) (λ (x : Forbidden). bus_view k)) e)

-- bytes of a Set Features, one by one
each_applied : (g : Parts) (count ce : ℕ) (ts : List TargetView) (d : TargetView) → ce < length ts → bus g (slice_set ts ce (each_taken g ce count (get_or ts ce d))) ≡ after_run Din ce count (bus g ts)
each_applied g zero ce ts d low = ap (bus g) (set_same ts ce d)
each_applied g (suc n) ce ts d low =
    let u = target_after g (cycle ce Din 0) (get_or ts ce d) in
    let later = slice_set ts ce u in
    let same = length-set ts ce u in
    let there : ce < length later = omega (arith, same, low) in
    sym (ap (bus g) (set-set ts ce u (each_taken g ce n u)))
    ∙ (ap (λ (x : TargetView). bus g (slice_set later ce (each_taken g ce n x))) (sym (get_or-set_same ts ce u d low))
    ∙ (each_applied g n ce later d there
    ∙ ap (after_run Din ce n) (applied g ts (cycle ce Din 0) ce d u refl refl)))

inputs_taken_applied : (g : Parts) (ts : List TargetView) (ce count : ℕ) (d w : TargetView) → BusFits (bus g ts) → 0 < count → ce < length ts → judged_inputs ce count (bus g ts) ≡ None → w ≡ inputs_taken g ce count (get_or ts ce d)
    → bus g (slice_set ts ce w) ≡ after_run Din ce count (bus g ts)
inputs_taken_applied g ts ce count d w fits some low none is = at (takes_features (get_or ts ce d).tail.phase) refl is
  where
    at : (b : Bool) → takes_features (get_or ts ce d).tail.phase ≡ b → w ≡ cond b (each_taken g ce count (get_or ts ce d)) (fed_target count (get_or ts ce d)) → bus g (slice_set ts ce w) ≡ after_run Din ce count (bus g ts)
    at true e h = ap (λ (x : TargetView). bus g (slice_set ts ce x)) h ∙ each_applied g count ce ts d low
    at false e h = inputs_applied g ts ce ce count d w refl fits some e none h

pub inputs_left : (k : Kept) → IsSound k → (ce count : ℕ) → ce < k.count → 0 < count → (d u : OnfiseqTarget)
    → target_of u ≡ inputs_pushed (parts_of k.geometry) k.count ce count (target_of (get_or k.targets ce d)) → with_target k ce u ≡ run_pushed Din ce count (bus_view k)
inputs_left k s ce count low some d u is =
    let same = seen_count k s in
    let there : ce < length (targets_in k) = omega (arith, low, same) in
    left_there Din k ce count low d u (inputs_taken (parts_of k.geometry) ce count) (inputs_rule (parts_of k.geometry) k.count ce count (target_of (get_or k.targets ce d))) (inputs_judged k s ce count low some d) is
    (λ w none e. inputs_taken_applied (parts_of k.geometry) (targets_in k) ce count (target_of d) w (fits_now k s ce low) some there none e)

pub outputs_left : (k : Kept) → IsSound k → (ce count : ℕ) → ce < k.count → 0 < count → (d u : OnfiseqTarget)
    → target_of u ≡ outputs_pushed (parts_of k.geometry) k.count ce count (target_of (get_or k.targets ce d)) → with_target k ce u ≡ run_pushed Dout ce count (bus_view k)
outputs_left k s ce count low some d u is =
    left_there Dout k ce count low d u (given_target count) (outputs_rule (parts_of k.geometry) k.count ce count (target_of (get_or k.targets ce d))) (outputs_judged k s ce count low some d) is
    (λ w none e. outputs_applied (parts_of k.geometry) (targets_in k) ce ce count (target_of d) w refl some none e)

-- it fits, and is the same channel
left_fits : (kind : Kind) → IsData kind → (ce count : ℕ) (s : BusView) → BusFits s → BusFits (run_pushed kind ce count s)
left_fits kind sees_none ce count s f = at (judged_run kind ce count s) refl
  where
    at : (o : Option Forbidden) → judged_run kind ce count s ≡ o → BusFits (by_option o (after_run kind ce count s) (λ (r : Forbidden). s))
    at None e = run_fits kind sees_none ce count s e f
    at (Some r) e = f

run_keeps : (kind : Kind) (ce count : ℕ) (s : BusView) → IsSameChannel s (after_run kind ce count s)
run_keeps kind ce zero s = same_channel s
run_keeps kind ce (suc count) s =
    let one = after_keeps s (cycle ce kind 0) in
    let more = run_keeps kind ce count (bus_after (cycle ce kind 0) s) in
    record { geometry = more.geometry ∙ one.geometry; count = more.count ∙ one.count }

pub left_keeps : (kind : Kind) (ce count : ℕ) (s : BusView) → IsSameChannel s (run_pushed kind ce count s)
left_keeps kind ce count s = at (judged_run kind ce count s)
  where
    at : (o : Option Forbidden) → IsSameChannel s (by_option o (after_run kind ce count s) (λ (r : Forbidden). s))
    at None = run_keeps kind ce count s
    at (Some r) = same_channel s

pub run_sound : (kind : Kind) → IsData kind → (k : Kept) → IsSound k → (ce count : ℕ) → ce < k.count → (u : OnfiseqTarget) → IsTarget u → with_target k ce u ≡ run_pushed kind ce count (bus_view k)
    → IsSound (record { magic = k.magic; geometry = k.geometry; count = k.count; targets = slice_set k.targets ce u })
run_sound kind sees_none k s ce count low u numbers is =
    record {
      few = s.few;
      room = length-set _ _ _ ∙ s.room;
      records = All-set IsTarget k.targets ce u numbers s.records;
      fits = λ some. subst BusFits (sym is) (left_fits kind sees_none ce count (bus_view k) (s.fits some));
    }

pub run_state : (kind : Kind) (ce count : ℕ) (s later : BusView) → later ≡ run_pushed kind ce count s → judged_run kind ce count s ≡ None → later ≡ after_run kind ce count s
run_state kind ce count s later is none = is ∙ ap (λ (o : Option Forbidden). by_option o (after_run kind ce count s) (λ (r : Forbidden). s)) none

-- what is given changes no queue
given_room_at : (n : ℕ) (v : LunView) → HasRoom v → HasRoom (given_on n v)
given_room_at n v h = at (is_data v.latch)
  where
    at : (b : Bool) → HasRoom (cond b (record v { column = record v.column { outputs = v.column.outputs + n } }) v)
    at true = h
    at false = h

pub given_room : (n : ℕ) (vs : List LunView) → All HasRoom vs → All HasRoom (map (given_on n) vs)
given_room n [] a k d h = absurd (omega arith)
given_room n (v ∷ vs) a zero d h = given_room_at n v (a 0 v (omega arith))
given_room n (v ∷ vs) a (suc k) d h = given_room n vs (λ j e l. a (suc j) e (omega arith)) k d (omega arith)
