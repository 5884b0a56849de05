-- Cycle after cycle, by the state of a channel and by the pasts that it follows.
use Rattle.std.proofs.Common.{◌≡◌, ℕ, zero, suc, ◌+◌, ◌≤◌, List, [], ◌∷◌, ◌++◌, Option, Some, None, refl, sym, ap, ◌∙◌, subst, length, replicate, drop, arith, length-take, length-drop}
use Rattle.nand_geometry.specs.declared.parts.Parts.{Parts}
use Rattle.onfi_cycle.specs.Channel.{cycle}
use Rattle.onfi_cycle.specs.declared.forbidden.Forbidden.{Forbidden}
use Rattle.onfi_cycle.specs.declared.item.Item.{Item}
use Rattle.onfi_cycle.specs.declared.item.Kind.TheVariants.{Cmd, Adr, Din, Dout}
use Rattle.onfi_cycle.specs.Runs.{first_rule, judged_run, after_run}
use Rattle.onfi_cycle.specs.State.{BusView, Follows, judged, bus_after}
use Rattle.onfi_cycle.proofs.Following.{judged_is_broken, bus_goes_on}
use Rattle.onfi_cycle.proofs.Runs.{cycle_judged, cycle_followed}
use Rattle.onfi_cycle.proofs.Inputs.{inputs_are_data}
use Rattle.onfi_cycle.proofs.Outputs.{outputs_are_data}
use Rattle.micro_program.specs.Moves.{Move, Give, Take, gives, part}
use Rattle.seq_live.specs.declared.burst.Burst.{Burst}
use Rattle.seq_live.specs.declared.burst.Burst.TheVariants.{Command, Address, Input, Output}
use Rattle.seq_live.specs.Burst.{moves_of, all_moves}
use Rattle.onfiseq_live_c.specs.Bursts.{judged_addresses, after_addresses, judged_burst, after_burst, judged_bursts, after_bursts}
use Rattle.onfiseq_live_c.specs.Permits.{ArePermitted}

-- ---- moves, judged one after another; a rule sees no byte of data

abbrev pub judged_moves : ℕ → List Move → BusView → Option Forbidden
judged_moves ce [] s = None
judged_moves ce (Give kind byte ∷ rest) s = first_rule (judged s (cycle ce kind byte)) (judged_moves ce rest (bus_after (cycle ce kind byte) s))
judged_moves ce (Take ∷ rest) s = first_rule (judged s (cycle ce Dout 0)) (judged_moves ce rest (bus_after (cycle ce Dout 0) s))

abbrev pub after_moves : ℕ → List Move → BusView → BusView
after_moves ce [] s = s
after_moves ce (Give kind byte ∷ rest) s = after_moves ce rest (bus_after (cycle ce kind byte) s)
after_moves ce (Take ∷ rest) s = after_moves ce rest (bus_after (cycle ce Dout 0) s)

-- the first breaks no rule, and the rest breaks none
pub record Both (a b : Option Forbidden) : Type 0 where
  pub first : a ≡ None
  pub rest : b ≡ None

pub both : (a b : Option Forbidden) → first_rule a b ≡ None → Both a b
both None b h = record { first = refl; rest = h }
both (Some rule) b h = cc

none_first : (a b : Option Forbidden) → a ≡ None → first_rule a b ≡ b
none_first a b h = rw h refl

none_last : (a : Option Forbidden) → first_rule a None ≡ a
none_last None = refl
none_last (Some rule) = refl

rules_join : (a b c : Option Forbidden) → first_rule (first_rule a b) c ≡ first_rule a (first_rule b c)
rules_join None b c = refl
rules_join (Some rule) b c = refl

judged_append : (ce : ℕ) (a b : List Move) (s : BusView) → judged_moves ce (a ++ b) s ≡ first_rule (judged_moves ce a s) (judged_moves ce b (after_moves ce a s))
judged_append ce [] b s = refl
judged_append ce (Give kind byte ∷ a) b s =
    ap (first_rule (judged s (cycle ce kind byte))) (judged_append ce a b (bus_after (cycle ce kind byte) s))
    ∙ sym (rules_join (judged s (cycle ce kind byte)) (judged_moves ce a (bus_after (cycle ce kind byte) s)) (judged_moves ce b (after_moves ce a (bus_after (cycle ce kind byte) s))))
judged_append ce (Take ∷ a) b s =
    ap (first_rule (judged s (cycle ce Dout 0))) (judged_append ce a b (bus_after (cycle ce Dout 0) s))
    ∙ sym (rules_join (judged s (cycle ce Dout 0)) (judged_moves ce a (bus_after (cycle ce Dout 0) s)) (judged_moves ce b (after_moves ce a (bus_after (cycle ce Dout 0) s))))

after_append : (ce : ℕ) (a b : List Move) (s : BusView) → after_moves ce (a ++ b) s ≡ after_moves ce b (after_moves ce a s)
after_append ce [] b s = refl
after_append ce (Give kind byte ∷ a) b s = after_append ce a b (bus_after (cycle ce kind byte) s)
after_append ce (Take ∷ a) b s = after_append ce a b (bus_after (cycle ce Dout 0) s)

-- ---- bursts are their moves

pub record AreMoves (ce : ℕ) (moved : List Move) (s : BusView) (rule : Option Forbidden) (later : BusView) : Type 0 where
  pub judges : rule ≡ judged_moves ce moved s
  pub leaves : later ≡ after_moves ce moved s

addresses_are : (ce : ℕ) (bytes : List ℕ) (s : BusView) → AreMoves ce (gives Adr bytes) s (judged_addresses ce bytes s) (after_addresses ce bytes s)
addresses_are ce [] s = record { judges = refl; leaves = refl }
addresses_are ce (byte ∷ bytes) s =
    let more = addresses_are ce bytes (bus_after (cycle ce Adr byte) s) in
    record { judges = ap (first_rule (judged s (cycle ce Adr byte))) more.judges; leaves = more.leaves }

outputs_are : (ce count : ℕ) (s : BusView) → AreMoves ce (replicate count Take) s (judged_run Dout ce count s) (after_run Dout ce count s)
outputs_are ce zero s = record { judges = refl; leaves = refl }
outputs_are ce (suc count) s =
    let more = outputs_are ce count (bus_after (cycle ce Dout 0) s) in
    record { judges = ap (first_rule (judged s (cycle ce Dout 0))) more.judges; leaves = more.leaves }

inputs_are : (ce : ℕ) (bytes : List ℕ) (s : BusView) → AreMoves ce (gives Din bytes) s (judged_run Din ce (length bytes) s) (after_run Din ce (length bytes) s)
inputs_are ce [] s = record { judges = refl; leaves = refl }
inputs_are ce (byte ∷ bytes) s =
    let more = inputs_are ce bytes (bus_after (cycle ce Din 0) s) in
    let same = inputs_are_data.after_any s ce 0 byte in
    record {
      judges =
          ap (first_rule (judged s (cycle ce Din 0))) more.judges
          ∙ (ap (λ (o : Option Forbidden). first_rule o (judged_moves ce (gives Din bytes) (bus_after (cycle ce Din 0) s))) (inputs_are_data.any_byte s ce 0 byte)
          ∙ ap (λ (x : BusView). first_rule (judged s (cycle ce Din byte)) (judged_moves ce (gives Din bytes) x)) same);
      leaves = more.leaves ∙ ap (after_moves ce (gives Din bytes)) same;
    }

so_many : (place len : ℕ) (buffer : List ℕ) → place + len ≤ length buffer → length (part place len buffer) ≡ len
so_many place len buffer inside =
    let cut = length-drop place buffer in
    let room : len ≤ length (drop place buffer) = omega (arith, inside, cut) in
    let taken = length-take len (drop place buffer) in
    omega (arith, taken, room)

-- the burst is one of this target, and its inputs are of a buffer of this length
abbrev pub IsOf : (ce len : ℕ) → Burst → Type 0
IsOf ce len (Command on byte) = on ≡ ce
IsOf ce len (Address on five from count) = on ≡ ce
IsOf ce len (Input on place count) = (on ≡ ce) × (place + count ≤ len)
IsOf ce len (Output on count) = on ≡ ce

abbrev pub AreOf : (ce len : ℕ) → List Burst → Type 0
AreOf ce len [] = Unit {0}
AreOf ce len (b ∷ bursts) = IsOf ce len b × AreOf ce len bursts

burst_is : (ce : ℕ) (buffer : List ℕ) (b : Burst) (s : BusView) → IsOf ce (length buffer) b → AreMoves ce (moves_of buffer b) s (judged_burst b s) (after_burst b s)
burst_is ce buffer (Command on byte) s e =
    record { judges = ap (λ (m : ℕ). judged s (cycle m Cmd byte)) e ∙ sym (none_last (judged s (cycle ce Cmd byte))); leaves = ap (λ (m : ℕ). bus_after (cycle m Cmd byte) s) e }
burst_is ce buffer (Address on five from count) s e =
    subst (λ (m : ℕ). AreMoves ce (gives Adr (part from count five)) s (judged_addresses m (part from count five) s) (after_addresses m (part from count five) s)) (sym e)
    (addresses_are ce (part from count five) s)
burst_is ce buffer (Input on place len) s e =
    subst (λ (m : ℕ). AreMoves ce (gives Din (part place len buffer)) s (judged_run Din m len s) (after_run Din m len s)) (sym e.0)
    (subst (λ (k : ℕ). AreMoves ce (gives Din (part place len buffer)) s (judged_run Din ce k s) (after_run Din ce k s)) (so_many place len buffer e.1)
    (inputs_are ce (part place len buffer) s))
burst_is ce buffer (Output on len) s e =
    subst (λ (m : ℕ). AreMoves ce (replicate len Take) s (judged_run Dout m len s) (after_run Dout m len s)) (sym e) (outputs_are ce len s)

pub bursts_are : (ce : ℕ) (buffer : List ℕ) (bursts : List Burst) (s : BusView) → AreOf ce (length buffer) bursts
    → AreMoves ce (all_moves buffer bursts) s (judged_bursts bursts s) (after_bursts bursts s)
bursts_are ce buffer [] s on = record { judges = refl; leaves = refl }
bursts_are ce buffer (b ∷ bursts) s on =
    let one = burst_is ce buffer b s on.0 in
    let more = bursts_are ce buffer bursts (after_burst b s) on.1 in
    record {
      judges =
          ap (λ (o : Option Forbidden). first_rule o (judged_bursts bursts (after_burst b s))) one.judges
          ∙ (ap (first_rule (judged_moves ce (moves_of buffer b) s)) (more.judges ∙ ap (judged_moves ce (all_moves buffer bursts)) one.leaves)
          ∙ sym (judged_append ce (moves_of buffer b) (all_moves buffer bursts) s));
      leaves = more.leaves ∙ (ap (after_moves ce (all_moves buffer bursts)) one.leaves ∙ sym (after_append ce (moves_of buffer b) (all_moves buffer bursts) s));
    }

-- ---- and by the pasts that the state follows

permitted_moves : (g : Parts) (n ce : ℕ) (moved : List Move) (s : BusView) (past : List Item) → judged_moves ce moved s ≡ None → Follows g n s past → ArePermitted g n ce moved past
permitted_moves g n ce [] s past h f = tt
permitted_moves g n ce (Give kind byte ∷ rest) s past h f =
    let parts = both (judged s (cycle ce kind byte)) (judged_moves ce rest (bus_after (cycle ce kind byte) s)) h in (
      sym (judged_is_broken g n s past (cycle ce kind byte) f) ∙ parts.first,
      permitted_moves g n ce rest (bus_after (cycle ce kind byte) s) (cycle ce kind byte ∷ past) parts.rest (bus_goes_on g n s past (cycle ce kind byte) parts.first f),
    )
permitted_moves g n ce (Take ∷ rest) s past h f = λ byte.
    let parts = both (judged s (cycle ce Dout 0)) (judged_moves ce rest (bus_after (cycle ce Dout 0) s)) h in (
      sym (cycle_judged Dout outputs_are_data g n s past ce byte f) ∙ parts.first,
      permitted_moves g n ce rest (bus_after (cycle ce Dout 0) s) (cycle ce Dout byte ∷ past) parts.rest
          (cycle_followed Dout outputs_are_data g n s past ce byte parts.first f),
    )

pub permitted_bursts : (g : Parts) (n ce : ℕ) (buffer : List ℕ) (bursts : List Burst) (s : BusView) (past : List Item) → AreOf ce (length buffer) bursts
    → judged_bursts bursts s ≡ None → Follows g n s past → ArePermitted g n ce (all_moves buffer bursts) past
permitted_bursts g n ce buffer bursts s past on h f =
    permitted_moves g n ce (all_moves buffer bursts) s past (sym (bursts_are ce buffer bursts s on).judges ∙ h) f
