-- A status poll of the one LUN of a target: where its 70h is permitted, its output is too.
use Rattle.std.proofs.Common.{◌≡◌, ℕ, ◌<◌, ◌≤◌, Bool, true, false, ◌&&◌, cond, List, [], ◌∷◌, Option, Some, None, length, map, take, get_or, set, refl, sym, ap, ◌∙◌, arith, subst}
use Rattle.std.specs.Prelude.{nat_le, nat_lt}
use Rattle.std.proofs.lemmas.Bool.Decides.{nat_tests}
use Rattle.std.proofs.lemmas.List.{length-set, get_or-set_same}
use Rattle.std.proofs.lemmas.Option.{slice_get-get_or}
use Rattle.nand_geometry.specs.declared.parts.Parts.{Parts}
use Rattle.onfi_cycle.specs.declared.command.Command.TheVariants.{ReadStatus}
use Rattle.nand_geometry.specs.Optional.{is_wide}
use Rattle.onfi_cycle.specs.declared.effect.Effect.{Effect}
use Rattle.onfi_cycle.specs.declared.effect.Effect.TheVariants.{StatusSelected, StatusOfSelected}
use Rattle.onfi_cycle.specs.declared.forbidden.Forbidden.{Forbidden}
use Rattle.onfi_cycle.specs.declared.item.Kind.TheVariants.{Cmd, Dout}
use Rattle.onfi_cycle.specs.declared.tail_facts.TailFacts.{TailFacts}
use Rattle.onfi_cycle.specs.declared.target_cycle.TargetCycle.TheVariants.{CommandCycle}
use Rattle.onfi_cycle.specs.Channel.{cycle}
use Rattle.onfi_cycle.specs.Command.{command}
use Rattle.onfi_cycle.specs.Effect.{is_shared, status_effect}
use Rattle.onfi_cycle.specs.Lun.{view_after}
use Rattle.onfi_cycle.specs.LunView.{LunView}
use Rattle.onfi_cycle.specs.Permitted.{judge}
use Rattle.onfi_cycle.specs.Rules.{breaks_not_there, breaks_command_unknown, breaks_sequence_open, breaks_several_luns, breaks_no_column_to_change, breaks_command_misplaced, breaks_address_misplaced, breaks_row_outside, breaks_lun_busy, breaks_queue_clash, breaks_input_misplaced, breaks_no_sole_driver, breaks_data_not_ready, breaks_column_outside, breaks_cache_read_misplaced, breaks_cache_program_misplaced, breaks_copyback_misplaced, breaks_plane_not_held}
use Rattle.onfi_cycle.specs.Runs.{first_rule}
use Rattle.onfi_cycle.specs.Sequence.{facts_after, target_cycle}
use Rattle.onfi_cycle.specs.State.{TargetView, BusView, bus, bus_after, judged, judged_on, target, target_after}
use Rattle.onfi_cycle.proofs.Applied.{target_cycled}
use Rattle.onfi_cycle.proofs.Following.{applied}
use Rattle.target_record.specs.Geometry.{parts_of}
use Rattle.target_record.specs.Record.{target_of}
use Rattle.bus_record.specs.Bus.{IsSound, bus_view}
use Rattle.bus_record.specs.Kept.{Kept}
use Rattle.bus_record.specs.Trial.{judged_poll}
use Rattle.bus_record.proofs.Pushed.{fits_there, get_seen, length_seen}
use Rattle.bus_record.proofs.Runs.{no_target}

-- a LUN that shows its status gives it
shown_gives : (g : Parts) (n ce : ℕ) (t : TailFacts) (v : LunView) → nat_le n ce ≡ false → judge g n (facts_after (CommandCycle ReadStatus) t) (view_after StatusSelected v ∷ []) (cycle ce Dout 0) ≡ None
unfolding breaks_not_there breaks_command_unknown breaks_sequence_open breaks_several_luns breaks_no_column_to_change breaks_command_misplaced breaks_address_misplaced breaks_row_outside breaks_lun_busy breaks_queue_clash breaks_input_misplaced breaks_no_sole_driver breaks_data_not_ready breaks_column_outside breaks_cache_read_misplaced breaks_cache_program_misplaced breaks_copyback_misplaced breaks_plane_not_held
shown_gives g n ce t v h = rw h refl

is_read_status : (ce : ℕ) → CommandCycle ReadStatus ≡ target_cycle Cmd 0x70
unfolding command
is_read_status ce = refl

rests : (b : Bool) → (b && false) ≡ false
rests true = refl
rests false = refl

not_shared : (g : Parts) → g.luns ≡ 1 → is_shared g ≡ false
not_shared g one = ap (λ (n : ℕ). is_wide g.optional && nat_lt 1 n) one ∙ rests (is_wide g.optional)

one_status : (g : Parts) → g.luns ≡ 1 → StatusSelected ≡ status_effect g
one_status g one = sym (ap (λ (b : Bool). cond b StatusOfSelected StatusSelected) (not_shared g one))

after_status : (g : Parts) (n ce : ℕ) (t : TailFacts) (v : LunView) → g.luns ≡ 1 → nat_le n ce ≡ false
    → judge g n (target_after g (cycle ce Cmd 0x70) (target t (v ∷ []))).tail (target_after g (cycle ce Cmd 0x70) (target t (v ∷ []))).luns (cycle ce Dout 0) ≡ None
after_status g n ce t v one h =
    let is = target_cycled g (record { ce = ce; kind = Cmd; byte = 0x70 }) (CommandCycle ReadStatus) (target t (v ∷ [])) (target (facts_after (CommandCycle ReadStatus) t) (view_after StatusSelected v ∷ [])) (is_read_status ce) refl (ap (λ (e : Effect). view_after e v ∷ []) (one_status g one)) in
    subst (λ (u : TargetView). judge g n u.tail u.luns (cycle ce Dout 0) ≡ None) is (shown_gives g n ce t v h)

poll_gives : (g : Parts) (n ce : ℕ) (s : TargetView) → g.luns ≡ 1 → length s.luns ≡ 1 → nat_le n ce ≡ false
    → judge g n (target_after g (cycle ce Cmd 0x70) s).tail (target_after g (cycle ce Cmd 0x70) s).luns (cycle ce Dout 0) ≡ None
poll_gives g n ce s single one h = at s.luns one refl
  where
    at : (vs : List LunView) → length vs ≡ 1 → s.luns ≡ vs → judge g n (target_after g (cycle ce Cmd 0x70) s).tail (target_after g (cycle ce Cmd 0x70) s).luns (cycle ce Dout 0) ≡ None
    at [] e is = cc
    at (v ∷ w ∷ vs) e is = absurd (omega (arith, e))
    at (v ∷ []) e is =
        subst (λ (u : TargetView). judge g n (target_after g (cycle ce Cmd 0x70) u).tail (target_after g (cycle ce Cmd 0x70) u).luns (cycle ce Dout 0) ≡ None)
        (ap (λ (vs : List LunView). target s.tail vs) (sym is)) (after_status g n ce s.tail v single h)

pub poll_asks : (k : Kept) → IsSound k → (ce : ℕ) → ce < k.count → (parts_of k.geometry).luns ≡ 1 → (rule : Option Forbidden) → rule ≡ judged (bus_view k) (cycle ce Cmd 0x70) → rule ≡ judged_poll ce (bus_view k)
poll_asks k s ce low one rule is = at (judged (bus_view k) (cycle ce Cmd 0x70)) refl
  where
    g : Parts
    g = parts_of k.geometry

    ts : List TargetView
    ts = map target_of (take k.count k.targets)

    t : TargetView
    t = target_after g (cycle ce Cmd 0x70) (get_or ts ce (target_of no_target))

    counted : length ts ≡ k.count
    counted = let few = s.few in let room = s.room in let low4 : k.count ≤ length k.targets = omega (arith, few, room) in length_seen target_of k.count k.targets low4

    there : ce < length ts
    there = omega (arith, low, counted)

    gives : judged (bus g (set ts ce t)) (cycle ce Dout 0) ≡ None
    gives =
        let same = length-set ts ce t in
        let inside : ce < length (set ts ce t) = omega (arith, there, same) in
        let found = slice_get-get_or (set ts ce t) ce (target_of no_target) inside ∙ ap (λ (u : TargetView). Some u) (get_or-set_same ts ce t (target_of no_target) there) in
        let fits = fits_there k s ce low no_target in
        let luns : length (get_or ts ce (target_of no_target)).luns ≡ 1 = ap (λ (u : TargetView). length u.luns) (get_seen target_of k.count k.targets ce no_target low) ∙ (fits.count ∙ one) in
        let beyond : nat_le (length (set ts ce t)) ce ≡ false = grind (arith, nat_tests, inside) in
        ap (λ (o : Option TargetView). judged_on g (length (set ts ce t)) o (cycle ce Dout 0)) found ∙ poll_gives g (length (set ts ce t)) ce (get_or ts ce (target_of no_target)) one luns beyond

    after : judged (bus_after (cycle ce Cmd 0x70) (bus_view k)) (cycle ce Dout 0) ≡ None
    after = ap (λ (b : BusView). judged b (cycle ce Dout 0)) (sym (applied g ts (cycle ce Cmd 0x70) ce (target_of no_target) t refl refl)) ∙ gives

    at : (o : Option Forbidden) → judged (bus_view k) (cycle ce Cmd 0x70) ≡ o → rule ≡ judged_poll ce (bus_view k)
    at (Some r) e = is ∙ (e ∙ ap (λ (o : Option Forbidden). first_rule o (judged (bus_after (cycle ce Cmd 0x70) (bus_view k)) (cycle ce Dout 0))) (sym e))
    at None e = is ∙ (e ∙ (sym after ∙ ap (λ (o : Option Forbidden). first_rule o (judged (bus_after (cycle ce Cmd 0x70) (bus_view k)) (cycle ce Dout 0))) (sym e)))
