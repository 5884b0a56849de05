-- A target that is taken out of its channel, and what is tried on it.
use Rattle.std.proofs.Common.{◌≡◌, ℕ, ◌<◌, List, Option, Some, None, length, map, take, get_or, slice_set, refl, sym, ap, ◌∙◌, arith, subst}
use Rattle.std.proofs.lemmas.List.{length-set, get_or-set_same, set-set}
use Rattle.nand_geometry.specs.Limits.{InLimits}
use Rattle.onfi_cycle.specs.declared.forbidden.Forbidden.{Forbidden}
use Rattle.onfi_cycle.specs.declared.item.Item.{Item}
use Rattle.onfi_cycle.specs.declared.item.Kind.TheVariants.{Din, Dout}
use Rattle.onfi_cycle.specs.Bounds.{TargetFits}
use Rattle.onfi_cycle.specs.Sequence.{target_of as target_of_item}
use Rattle.onfi_cycle.specs.Inputs.{judged_inputs}
use Rattle.onfi_cycle.specs.Outputs.{judged_outputs, given_on, AreFew}
use Rattle.onfi_cycle.specs.Permitted.{judge}
use Rattle.onfi_cycle.specs.Runs.{after_run}
use Rattle.onfi_cycle.specs.State.{BusView, bus_after, judged}
use Rattle.onfi_cycle.proofs.Inputs.{inputs_are_data}
use Rattle.onfi_cycle.proofs.Outputs.{outputs_are_data}
use Rattle.bus_record.specs.Bus.{IsSound, bus_view, bus_pushed, target_pushed}
use Rattle.target_record.specs.Record.{IsTarget}
use Rattle.bus_record.specs.Channel.{IsSameChannel}
use Rattle.target_record.specs.Geometry.{parts_of}
use Rattle.bus_record.specs.Kept.{Kept}
use Rattle.target_record.specs.Record.{target_of}
use Rattle.bus_record.specs.Rule.{by_option}
use Rattle.bus_record.specs.Runs.{inputs_rule, inputs_pushed, outputs_rule, outputs_pushed}
use Rattle.bus_record.specs.Trial.{tried, tried_view, IsTried}
use Rattle.target_record.specs.declared.record.OnfiseqTarget.{OnfiseqTarget}
use Rattle.bus_record.proofs.Pushed.{places_of, fits_there, limits_there, sound_after, judged_there, state_there, set_same, set_seen}
use Rattle.bus_record.proofs.Runs.{inputs_judged, inputs_left, outputs_judged, outputs_left, few_there, run_pushed, run_sound, run_state, no_target}

-- what stands in its place
same_there : (k : Kept) (ce : ℕ) (t d : OnfiseqTarget) → IsTried k ce t → get_or (slice_set k.targets ce t) ce d ≡ t
same_there k ce t d h =
    let room = h.sound.room in
    let few = h.sound.few in
    let there = h.there in
    let same = length-set k.targets ce t in
    let low : ce < length k.targets = omega (arith, room, few, there, same) in
    get_or-set_same k.targets ce t d low

pub tried_numbers : (k : Kept) (ce : ℕ) (t : OnfiseqTarget) → IsTried k ce t → IsTarget t
tried_numbers k ce t h =
    let room = h.sound.room in
    let few = h.sound.few in
    let there = h.there in
    let low : ce < length (slice_set k.targets ce t) = omega (arith, room, few, there) in
    subst IsTarget (same_there k ce t no_target h) (h.sound.records ce no_target low)

pub tried_fits : (k : Kept) (ce : ℕ) (t : OnfiseqTarget) → IsTried k ce t → TargetFits (parts_of k.geometry) (target_of t)
tried_fits k ce t h = subst (λ (u : OnfiseqTarget). TargetFits (parts_of k.geometry) (target_of u)) (same_there k ce t no_target h) (fits_there (tried k ce t) h.sound ce h.there no_target)

pub tried_limits : (k : Kept) (ce : ℕ) (t : OnfiseqTarget) → IsTried k ce t → InLimits (parts_of k.geometry)
tried_limits k ce t h = limits_there (tried k ce t) h.sound ce h.there

-- another record in the same place
again : (k : Kept) (ce : ℕ) (t u : OnfiseqTarget) → tried (tried k ce t) ce u ≡ tried k ce u
again k ce t u = ap (λ (ts : List OnfiseqTarget). let x : Kept = record { magic = k.magic; geometry = k.geometry; count = k.count; targets = ts } in x) (set-set k.targets ce t u)

pub tried_rule : (k : Kept) (ce : ℕ) (t : OnfiseqTarget) (i : Item) (rule : Option Forbidden) → ce ≡ target_of_item i → IsTried k ce t → rule ≡ judge (parts_of k.geometry) k.count (target_of t).tail (target_of t).luns i
    → rule ≡ judged (tried_view k ce t) i
tried_rule k ce t i rule place h is =
    is ∙ (ap (λ (u : OnfiseqTarget). judge (parts_of k.geometry) k.count (target_of u).tail (target_of u).luns i) (sym (same_there k ce t no_target h))
    ∙ sym (judged_there (tried k ce t) (places_of (tried k ce t) h.sound) i ce place h.there no_target))

pub tried_state : (k : Kept) (ce : ℕ) (t u : OnfiseqTarget) (i : Item) → ce ≡ target_of_item i → IsTried k ce t → target_of u ≡ target_pushed (parts_of k.geometry) k.count (target_of t) i
    → tried_view k ce u ≡ bus_pushed (tried_view k ce t) (Some i)
tried_state k ce t u i place h is =
    sym (ap bus_view (again k ce t u))
    ∙ state_there (tried k ce t) (places_of (tried k ce t) h.sound) i ce place h.there no_target u (is ∙ ap (λ (x : OnfiseqTarget). target_pushed (parts_of k.geometry) k.count (target_of x) i) (sym (same_there k ce t no_target h)))

pub tried_after : (s later : BusView) (i : Item) (rule : Option Forbidden) → rule ≡ judged s i → later ≡ bus_pushed s (Some i) → rule ≡ None → later ≡ bus_after i s
tried_after s later i rule judges is none = is ∙ ap (λ (o : Option Forbidden). by_option o (bus_after i s) (λ (r : Forbidden). s)) (sym judges ∙ none)

pub tried_sound : (k : Kept) (ce : ℕ) (t u : OnfiseqTarget) → IsTried k ce t → IsTarget u → TargetFits (parts_of k.geometry) (target_of u) → IsTried k ce u
tried_sound k ce t u h numbers fits = record { there = h.there; sound = subst IsSound (again k ce t u) (sound_after (tried k ce t) h.sound ce h.there u numbers fits) }

-- the record that stands there
pub taken_out : (k : Kept) (ce : ℕ) (d : OnfiseqTarget) → IsSound k → ce < k.count → IsTried k ce (get_or k.targets ce d)
taken_out k ce d s low =
    let back : k ≡ tried k ce (get_or k.targets ce d) = ap (λ (ts : List OnfiseqTarget). let x : Kept = record { magic = k.magic; geometry = k.geometry; count = k.count; targets = ts } in x) (sym (set_same k.targets ce d)) in
    record { there = low; sound = subst IsSound back s }

pub taken_view : (k : Kept) (ce : ℕ) (d : OnfiseqTarget) → tried_view k ce (get_or k.targets ce d) ≡ bus_view k
taken_view k ce d = ap (λ (ts : List OnfiseqTarget). let x : Kept = record { magic = k.magic; geometry = k.geometry; count = k.count; targets = ts } in bus_view x) (set_same k.targets ce d)

-- the channel stays the same
pub tried_same : (k : Kept) (ce : ℕ) (t : OnfiseqTarget) → ce < k.count → IsSameChannel (bus_view k) (tried_view k ce t)
tried_same k ce t low = record { geometry = refl; count = ap length (set_seen target_of k.count k.targets ce t low) ∙ length-set (map target_of (take k.count k.targets)) ce (target_of t) }

-- runs of data

pub tried_inputs_rule : (k : Kept) (ce count : ℕ) (t : OnfiseqTarget) (rule : Option Forbidden) → IsTried k ce t → 0 < count → rule ≡ inputs_rule (parts_of k.geometry) k.count ce count (target_of t) → rule ≡ judged_inputs ce count (tried_view k ce t)
tried_inputs_rule k ce count t rule h some is =
    is ∙ (ap (λ (u : OnfiseqTarget). inputs_rule (parts_of k.geometry) k.count ce count (target_of u)) (sym (same_there k ce t no_target h)) ∙ inputs_judged (tried k ce t) h.sound ce count h.there some no_target)

inputs_view : (k : Kept) (ce count : ℕ) (t u : OnfiseqTarget) → IsTried k ce t → 0 < count → target_of u ≡ inputs_pushed (parts_of k.geometry) k.count ce count (target_of t) → bus_view (tried (tried k ce t) ce u) ≡ run_pushed Din ce count (tried_view k ce t)
inputs_view k ce count t u h some is =
    inputs_left (tried k ce t) h.sound ce count h.there some no_target u (is ∙ ap (λ (x : OnfiseqTarget). inputs_pushed (parts_of k.geometry) k.count ce count (target_of x)) (sym (same_there k ce t no_target h)))

pub tried_inputs_state : (k : Kept) (ce count : ℕ) (t u : OnfiseqTarget) (rule : Option Forbidden) → IsTried k ce t → 0 < count → rule ≡ judged_inputs ce count (tried_view k ce t)
    → target_of u ≡ inputs_pushed (parts_of k.geometry) k.count ce count (target_of t) → rule ≡ None → tried_view k ce u ≡ after_run Din ce count (tried_view k ce t)
tried_inputs_state k ce count t u rule h some judges is none =
    run_state Din ce count (tried_view k ce t) (tried_view k ce u) (sym (ap bus_view (again k ce t u)) ∙ inputs_view k ce count t u h some is) (sym judges ∙ none)

pub tried_inputs_sound : (k : Kept) (ce count : ℕ) (t u : OnfiseqTarget) → IsTried k ce t → 0 < count → IsTarget u → target_of u ≡ inputs_pushed (parts_of k.geometry) k.count ce count (target_of t) → IsTried k ce u
tried_inputs_sound k ce count t u h some numbers is =
    record { there = h.there; sound = subst IsSound (again k ce t u) (run_sound Din inputs_are_data (tried k ce t) h.sound ce count h.there u numbers (inputs_view k ce count t u h some is)) }

pub tried_outputs_rule : (k : Kept) (ce count : ℕ) (t : OnfiseqTarget) (rule : Option Forbidden) → IsTried k ce t → 0 < count → rule ≡ outputs_rule (parts_of k.geometry) k.count ce count (target_of t) → rule ≡ judged_outputs ce count (tried_view k ce t)
tried_outputs_rule k ce count t rule h some is =
    is ∙ (ap (λ (u : OnfiseqTarget). outputs_rule (parts_of k.geometry) k.count ce count (target_of u)) (sym (same_there k ce t no_target h)) ∙ outputs_judged (tried k ce t) h.sound ce count h.there some no_target)

pub tried_few : (k : Kept) (ce count : ℕ) (t : OnfiseqTarget) → IsTried k ce t → 0 < count → outputs_rule (parts_of k.geometry) k.count ce count (target_of t) ≡ None → AreFew (map (given_on count) (target_of t).luns)
tried_few k ce count t h some none =
    subst (λ (u : OnfiseqTarget). AreFew (map (given_on count) (target_of u).luns)) (same_there k ce t no_target h)
    (few_there (tried k ce t) h.sound ce count h.there some no_target (sym (tried_outputs_rule k ce count t (outputs_rule (parts_of k.geometry) k.count ce count (target_of t)) h some refl) ∙ none))

outputs_view : (k : Kept) (ce count : ℕ) (t u : OnfiseqTarget) → IsTried k ce t → 0 < count → target_of u ≡ outputs_pushed (parts_of k.geometry) k.count ce count (target_of t) → bus_view (tried (tried k ce t) ce u) ≡ run_pushed Dout ce count (tried_view k ce t)
outputs_view k ce count t u h some is =
    outputs_left (tried k ce t) h.sound ce count h.there some no_target u (is ∙ ap (λ (x : OnfiseqTarget). outputs_pushed (parts_of k.geometry) k.count ce count (target_of x)) (sym (same_there k ce t no_target h)))

pub tried_outputs_state : (k : Kept) (ce count : ℕ) (t u : OnfiseqTarget) (rule : Option Forbidden) → IsTried k ce t → 0 < count → rule ≡ judged_outputs ce count (tried_view k ce t)
    → target_of u ≡ outputs_pushed (parts_of k.geometry) k.count ce count (target_of t) → rule ≡ None → tried_view k ce u ≡ after_run Dout ce count (tried_view k ce t)
tried_outputs_state k ce count t u rule h some judges is none =
    run_state Dout ce count (tried_view k ce t) (tried_view k ce u) (sym (ap bus_view (again k ce t u)) ∙ outputs_view k ce count t u h some is) (sym judges ∙ none)

pub tried_outputs_sound : (k : Kept) (ce count : ℕ) (t u : OnfiseqTarget) → IsTried k ce t → 0 < count → IsTarget u → target_of u ≡ outputs_pushed (parts_of k.geometry) k.count ce count (target_of t) → IsTried k ce u
tried_outputs_sound k ce count t u h some numbers is =
    record { there = h.there; sound = subst IsSound (again k ce t u) (run_sound Dout outputs_are_data (tried k ce t) h.sound ce count h.there u numbers (outputs_view k ce count t u h some is)) }
