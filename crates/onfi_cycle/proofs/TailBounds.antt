-- What stays small of a tail while only permitted items come.
use Rattle.std.proofs.Common.{◌≡◌, ℕ, ◌+◌, ◌^◌, ◌<◌, ◌≤◌, ◌==◌, Bool, true, false, ◌&&◌, ◌||◌, cond, not, ltb, List, [], Option, Some, None, refl, arith, IfSome, leb}
use Rattle.std.proofs.lemmas.Bool.Decides.{nat_tests}
use Rattle.std.proofs.lemmas.Bool.{not-false, or_parts}
use Rattle.nand_geometry.specs.declared.parts.Parts.{Parts}
use Rattle.nand_geometry.specs.Limits.{page_len}
use Rattle.onfi_cycle.specs.declared.command.Command.{Command}
use Rattle.onfi_cycle.specs.declared.command.Command.TheVariants.{Read, ChangeReadColumn, BlockErase, ReadStatusEnhanced, PageProgram, ChangeWriteColumn, ReadId, ReadParameterPage}
use Rattle.onfi_cycle.specs.declared.data_phase.DataPhase.{DataPhase}
use Rattle.onfi_cycle.specs.declared.data_phase.DataPhase.TheVariants.{Outside, Inputs, FirstColumn, SecondColumn, FeatureInputs}
use Rattle.onfi_cycle.specs.declared.opening.Opening.{Opening}
use Rattle.onfi_cycle.specs.declared.tail_facts.TailFacts.{TailFacts}
use Rattle.onfi_cycle.specs.declared.target_cycle.TargetCycle.{TargetCycle}
use Rattle.onfi_cycle.specs.declared.target_cycle.TargetCycle.TheVariants.{CommandCycle, AddressCycle, InputCycle, OutputCycle}
use Rattle.onfi_cycle.specs.LunView.{LunView}
use Rattle.onfi_cycle.specs.Command.{address_cycles, is_opener, takes_address, begins_data, is_set_features}
use Rattle.onfi_cycle.specs.Sequence.{takes_features, target_cycle, begins_sequence, begins_anew, facts_of, facts_after, extended_facts, opened, one_address_more, wants_column, phase_after_command, phase_after_address, phase_after_last_address, phase_after_input}
use Rattle.onfi_cycle.specs.Rules.{breaks_not_there, breaks_address_misplaced, breaks_column_outside}
use Rattle.onfi_cycle.specs.Permitted.{judge, judge_cycle}
use Rattle.onfi_cycle.specs.State.{tail_after}
use Rattle.onfi_cycle.specs.declared.item.Item.{Item}
use Rattle.onfi_cycle.specs.declared.item.Item.TheVariants.{Cyc, Rdy, Ard}
use Rattle.onfi_cycle.specs.declared.forbidden.Forbidden.TheVariants.{NotThere}
use Rattle.onfi_cycle.proofs.Others.{first_passed}
use Rattle.onfi_cycle.proofs.Passed.{keeps_rules}
use Rattle.onfi_cycle.proofs.Steps.{anew_opens}
use Rattle.onfi_cycle.specs.Bounds.{TailFits}

-- no opener takes more than five addresses
most_addresses : (c : Command) → address_cycles c ≤ 5
most_addresses Read = omega arith
most_addresses ChangeReadColumn = omega arith
most_addresses BlockErase = omega arith
most_addresses ReadStatusEnhanced = omega arith
most_addresses PageProgram = omega arith
most_addresses ReadId = omega arith
most_addresses ReadParameterPage = omega arith
most_addresses c = omega arith

-- a Change Write Column waits in the data of a program alone
command_in_column : (c : Command) (p : DataPhase) → wants_column (phase_after_command c p) ≡ true → p ≡ Inputs
command_in_column ChangeWriteColumn Inputs h = refl
command_in_column ChangeWriteColumn Outside h = cc
command_in_column ChangeWriteColumn FirstColumn h = cc
command_in_column ChangeWriteColumn SecondColumn h = cc
command_in_column ChangeWriteColumn FeatureInputs h = cc
command_in_column c p h = cc

last_in_column : (b c : Bool) → wants_column (cond b Inputs (cond c FeatureInputs Outside)) ≡ false
last_in_column true c = refl
last_in_column false true = refl
last_in_column false false = refl

address_in_column : (o : Option Opening) (p : DataPhase) → wants_column (phase_after_address o p) ≡ true → wants_column p ≡ true
address_in_column o Outside h = let no : wants_column (phase_after_last_address o) ≡ false = last_in_column (opened (λ c n. begins_data c && n == 4) o) (opened (λ c n. is_set_features c && n == 0) o) in cc
address_in_column o FirstColumn h = refl
address_in_column o SecondColumn h = refl
address_in_column o Inputs h = cc
address_in_column o FeatureInputs h = cc

input_in_column : (n : ℕ) (p : DataPhase) → wants_column (phase_after_input n p) ≡ false
input_in_column n Outside = refl
input_in_column n FirstColumn = refl
input_in_column n SecondColumn = refl
input_in_column n Inputs = refl
input_in_column n FeatureInputs = at (ltb n 3)
  where
    at : (b : Bool) → wants_column (cond b FeatureInputs Outside) ≡ false
    at true = refl
    at false = refl

-- a Set Features has four bytes
pub command_in_features : (c : Command) (p : DataPhase) → takes_features (phase_after_command c p) ≡ false
command_in_features ChangeWriteColumn Inputs = refl
command_in_features ChangeWriteColumn _ = refl
command_in_features c p = refl

pub input_in_features : (n : ℕ) (p : DataPhase) → takes_features (phase_after_input n p) ≡ true → n + 1 < 4
input_in_features n Outside h = cc
input_in_features n FirstColumn h = cc
input_in_features n SecondColumn h = cc
input_in_features n Inputs h = cc
input_in_features n FeatureInputs h = at (ltb n 3) refl h
  where
    at : (b : Bool) → ltb n 3 ≡ b → takes_features (cond b FeatureInputs Outside) ≡ true → n + 1 < 4
    at true e h = grind (arith, nat_tests)
    at false e h = cc

-- an opener with its next address
next_address : (o : Option Opening) (p : DataPhase) (byte : ℕ) → (wants_column p ≡ true → o ≡ None) → not (opened (λ c n. is_opener c && ltb n (address_cycles c) && takes_address c byte) o || wants_column p) ≡ false → IfSome (one_address_more o) (λ o. o.addresses ≤ 5)
next_address None p byte alone h = tt
next_address (Some o) p byte alone h = at (wants_column p) refl (not-false _ h)
  where
    at : (w : Bool) → wants_column p ≡ w → ((is_opener o.opener && ltb o.addresses (address_cycles o.opener) && takes_address o.opener byte) || w) ≡ true → o.addresses + 1 ≤ 5
    at true e h = let none = alone e in cc
    at false e h =
        let most = most_addresses o.opener in
        let more : ltb o.addresses (address_cycles o.opener) ≡ true = fewer (is_opener o.opener) (ltb o.addresses (address_cycles o.opener)) (takes_address o.opener byte) h in
        grind (arith, nat_tests)
      where
        fewer : (a b c : Bool) → ((a && b && c) || false) ≡ true → b ≡ true
        fewer true true c h = refl
        fewer true false c h = cc
        fewer false b c h = cc

-- a command that goes on with a tail, or that begins one
command_fits : (g : Parts) (c : Command) (t : TailFacts) → t.is_empty ≡ false → TailFits g t → TailFits g (extended_facts (CommandCycle c) t)
command_fits g c t some f =
    record {
      column = f.column;
      inputs = omega arith;
      addresses = rw some tt;
      in_column = λ h. rw some refl;
      nothing = λ h. cc;
      outside = λ h. cc;
      features = λ h. omega arith;
    }

opener_fits : (g : Parts) (c : Command) → TailFits g (extended_facts (CommandCycle c) (facts_of []))
opener_fits g c =
    record {
      column = omega arith;
      inputs = omega arith;
      addresses = omega arith;
      in_column = λ h. let inside : Outside ≡ Inputs = command_in_column c Outside h in cc;
      nothing = λ h. cc;
      outside = λ h. cc;
      features = λ h. omega arith;
    }

-- an address
address_fits : (g : Parts) (byte : ℕ) (t : TailFacts) → breaks_address_misplaced g t (AddressCycle byte) ≡ false → (extended_facts (AddressCycle byte) t).column < 2 ^ 16 → TailFits g t → TailFits g (extended_facts (AddressCycle byte) t)
unfolding breaks_address_misplaced
address_fits g byte t f7 small f =
    record {
      column = small;
      inputs = omega arith;
      addresses = next_address t.opening t.phase byte f.in_column (or_parts _ _ f7).0;
      in_column = λ h. none (f.in_column (address_in_column t.opening t.phase h));
      nothing = λ h. cc;
      outside = λ h. cc;
      features = λ h. omega arith;
    }
  where
    none : t.opening ≡ None → one_address_more t.opening ≡ None
    none e = rw e refl

-- an input, which has its place in the page
input_fits : (g : Parts) (luns : List LunView) (byte : ℕ) (t : TailFacts) → breaks_column_outside g t luns (InputCycle byte) ≡ false → TailFits g t → TailFits g (extended_facts (InputCycle byte) t)
unfolding breaks_column_outside
input_fits g luns byte t f14 f =
    record {
      column = f.column;
      inputs = few (takes_features t.phase) refl f14;
      addresses = tt;
      in_column = λ h. refl;
      nothing = λ h. cc;
      outside = λ h. cc;
      features = input_in_features t.inputs t.phase;
    }
  where
    few : (b : Bool) → takes_features t.phase ≡ b → (not b && leb (page_len g) (t.column + t.inputs)) ≡ false → t.inputs + 1 ≤ page_len g + 4
    few true e h = let low = f.features e in omega (arith, low)
    few false e h = grind (arith, nat_tests)

output_fits : (g : Parts) (t : TailFacts) → TailFits g t → TailFits g (extended_facts OutputCycle t)
output_fits g t f =
    record { column = f.column; inputs = omega arith; addresses = tt; in_column = λ h. refl; nothing = λ h. cc; outside = λ h. cc; features = λ h. omega arith }

-- a cycle that goes on with a tail
extended_fits : (g : Parts) (luns : List LunView) (cycle : TargetCycle) (t : TailFacts) → t.is_empty ≡ false → breaks_address_misplaced g t cycle ≡ false → breaks_column_outside g t luns cycle ≡ false → (extended_facts cycle t).column < 2 ^ 16 → TailFits g t → TailFits g (extended_facts cycle t)
extended_fits g luns (CommandCycle c) t some f7 f14 small f = command_fits g c t some f
extended_fits g luns (AddressCycle byte) t some f7 f14 small f = address_fits g byte t f7 small f
extended_fits g luns (InputCycle byte) t some f7 f14 small f = input_fits g luns byte t f14 f
extended_fits g luns OutputCycle t some f7 f14 small f = output_fits g t f

begun_fits : (g : Parts) (cycle : TargetCycle) → begins_sequence cycle ≡ true → TailFits g (extended_facts cycle (facts_of []))
begun_fits g (CommandCycle c) h = opener_fits g c
begun_fits g (AddressCycle byte) h = cc
begun_fits g (InputCycle byte) h = cc
begun_fits g OutputCycle h = cc

-- a permitted cycle
cycle_fits : (g : Parts) (luns : List LunView) (cycle : TargetCycle) (t : TailFacts) → breaks_address_misplaced g t cycle ≡ false → breaks_column_outside g t luns cycle ≡ false → (facts_after cycle t).column < 2 ^ 16 → TailFits g t → TailFits g (facts_after cycle t)
cycle_fits g luns cycle t f7 f14 small f = at (begins_anew t cycle) refl small
  where
    on : (e : Bool) → t.is_empty ≡ e → (cond e t (extended_facts cycle t)).column < 2 ^ 16 → TailFits g (cond e t (extended_facts cycle t))
    on true e small = f
    on false e small = extended_fits g luns cycle t e f7 f14 small f

    at : (b : Bool) → begins_anew t cycle ≡ b → (cond b (extended_facts cycle (facts_of [])) (cond t.is_empty t (extended_facts cycle t))).column < 2 ^ 16 → TailFits g (cond b (extended_facts cycle (facts_of [])) (cond t.is_empty t (extended_facts cycle t)))
    at true h small = begun_fits g cycle (anew_opens t cycle h)
    at false h small = on t.is_empty refl small

-- a permitted item
pub tail_fits : (g : Parts) (n : ℕ) (luns : List LunView) (i : Item) (t : TailFacts) → judge g n t luns i ≡ None → (tail_after i t).column < 2 ^ 16 → TailFits g t → TailFits g (tail_after i t)
tail_fits g n luns (Cyc c) t h small f =
    let cycle = target_cycle c.kind c.byte in
    let keeps = keeps_rules g t luns cycle (first_passed (breaks_not_there n luns (Cyc c)) NotThere (judge_cycle g t luns cycle) h).1 in
    cycle_fits g luns cycle t keeps.f7 keeps.f14 small f
tail_fits g n luns (Rdy _ _ _) t h small f = f
tail_fits g n luns (Ard _ _ _) t h small f = f

-- what is kept of a target that has seen nothing
pub no_tail_fits : (g : Parts) → TailFits g (facts_of [])
no_tail_fits g = record { column = omega arith; inputs = omega arith; addresses = tt; in_column = λ h. refl; nothing = λ h. refl; outside = λ h. refl; features = λ h. omega arith }
