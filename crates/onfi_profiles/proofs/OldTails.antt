-- After a past that is legal in the base profile a tail is what it was.
use Rattle.std.proofs.Common.{◌≡◌, ℕ, ◌+◌, ◌==◌, Bool, true, false, ◌&&◌, ◌||◌, cond, not, List, [], ◌∷◌, Option, Some, None, refl, sym, ap, subst, ◌∙◌, eqb-true}
use Rattle.std.proofs.lemmas.Bool.{and_parts, not-true}
use Rattle.nand_geometry.specs.declared.parts.Parts.{Parts}
use Rattle.onfi_cycle.specs.declared.command.Command.{Command}
use Rattle.onfi_cycle.specs.declared.command.Command.TheVariants.{ChangeWriteColumn, ReadUniqueId, GetFeatures, SetFeatures, ResetLun, SynchronousReset, Unknown, ChangeReadColumnEnhanced, ReadPlane, CopybackRead, ProgramCache}
use Rattle.onfi_cycle.specs.declared.data_phase.DataPhase.{DataPhase}
use Rattle.onfi_cycle.specs.declared.data_phase.DataPhase.TheVariants.{Outside, Inputs, FirstColumn, SecondColumn, FeatureInputs}
use Rattle.onfi_cycle.specs.declared.item.Item.{Item}
use Rattle.onfi_cycle.specs.declared.item.Item.TheVariants.{Cyc, Rdy, Ard}
use Rattle.onfi_cycle.specs.declared.opening.Opening.{Opening}
use Rattle.onfi_cycle.specs.declared.tail_facts.TailFacts.{TailFacts}
use Rattle.onfi_cycle.specs.declared.target_cycle.TargetCycle.{TargetCycle}
use Rattle.onfi_cycle.specs.declared.target_cycle.TargetCycle.TheVariants.{CommandCycle, AddressCycle, InputCycle, OutputCycle}
use Rattle.onfi_cycle.specs.Base.{is_of_base}
use Rattle.onfi_cycle.specs.Command.{is_known, is_page_program, is_set_features, is_write_column, begins_data}
use Rattle.onfi_cycle.specs.Sequence.{target_cycle, tail, facts_of, opened, takes_features, wants_column, one_address_more, row_after_address, column_after_address, next_address_place, phase_after_command, phase_after_last_address, phase_after_address, phase_after_input, begins_anew, extended_facts, facts_after}
use Rattle.onfi_cycle.specs.Rules.{is_undeclared, breaks_command_unknown, breaks_sequence_open, breaks_command_misplaced}
use Rattle.onfi_cycle.specs.Lun.{luns_of}
use Rattle.onfi_cycle.specs.Permitted.{is_permitted, is_legal}
use Rattle.onfi_cycle.proofs.Booleans.{clash}
use Rattle.onfi_cycle.proofs.Steps.{facts_of_cycle}
use Rattle.onfi_cycle.proofs.Passed.{KeepsRules, permitted_keeps}
use Rattle.onfi_profiles.proofs.Unwanted.{anew_same}
use Rattle.onfi_profiles.specs.Widening.{in_base}
use Rattle.onfi_profiles.specs.Tails.{base_is_opener, base_begins_sequence, base_phase_after_last_address, base_phase_after_address, base_phase_after_input, base_extended_facts, base_facts_after, base_facts, TailsBase}
use Rattle.onfi_cycle.proofs.Others.{permitted_none}

-- 1. what a tail of the base profile can be

pub record AreOfBase (t : TailFacts) : Type 0 where
  pub opener : opened (λ c n. not (is_of_base c)) t.opening ≡ false
  pub written : opened (λ c n. is_write_column c) t.opening ≡ false
  pub phase : takes_features t.phase ≡ false
  pub alone : wants_column t.phase ≡ true → t.opening ≡ None
  pub nothing : t.is_empty ≡ true → t.phase ≡ Outside

nothing_yet : AreOfBase (facts_of [])
nothing_yet = record { opener = refl; written = refl; phase = refl; alone = λ e. refl; nothing = λ e. refl }

-- 2. its cycles

abbrev pub is_base_cycle : TargetCycle → Bool
is_base_cycle (CommandCycle c) = is_of_base c
is_base_cycle _ = true

base_command : (g : Parts) (c : Command) → (not (is_known c) || is_undeclared (in_base g) c) ≡ false → is_of_base c ≡ true
base_command g ChangeReadColumnEnhanced h = let no : true ≡ false = h in cc
base_command g ReadPlane h = let no : true ≡ false = h in cc
base_command g CopybackRead h = let no : true ≡ false = h in cc
base_command g ProgramCache h = let no : true ≡ false = h in cc
base_command g ReadUniqueId h = let no : true ≡ false = h in cc
base_command g GetFeatures h = let no : true ≡ false = h in cc
base_command g SetFeatures h = let no : true ≡ false = h in cc
base_command g ResetLun h = let no : true ≡ false = h in cc
base_command g SynchronousReset h = let no : true ≡ false = h in cc
base_command g Unknown h = cc
base_command g c h = refl

pub base_cycle : (g : Parts) (k : TargetCycle) → breaks_command_unknown (in_base g) k ≡ false → is_base_cycle k ≡ true
unfolding breaks_command_unknown
base_cycle g (CommandCycle c) h = base_command g c h
base_cycle g (AddressCycle byte) h = refl
base_cycle g (InputCycle byte) h = refl
base_cycle g OutputCycle h = refl

-- 3. phases

last_same : (o : Option Opening) → opened (λ c n. not (is_of_base c)) o ≡ false → opened (λ c n. is_write_column c) o ≡ false → phase_after_last_address o ≡ base_phase_after_last_address o
last_same None b w = refl
last_same (Some o) b w = by o.opener o.addresses b w
  where
    by : (c : Command) (n : ℕ) → not (is_of_base c) ≡ false → is_write_column c ≡ false → cond (begins_data c && n == 4) Inputs (cond (is_set_features c && n == 0) FeatureInputs Outside) ≡ cond (is_page_program c && n == 4) Inputs Outside
    by SetFeatures n b w = cc
    by ChangeWriteColumn n b w = cc
    by c n b w = refl

address_same : (o : Option Opening) (p : DataPhase) → opened (λ c n. not (is_of_base c)) o ≡ false → opened (λ c n. is_write_column c) o ≡ false → takes_features p ≡ false → phase_after_address o p ≡ base_phase_after_address o p
address_same o Outside b w f = last_same o b w
address_same o Inputs b w f = refl
address_same o FirstColumn b w f = refl
address_same o SecondColumn b w f = refl
address_same o FeatureInputs b w f = cc

input_same : (k : ℕ) (p : DataPhase) → takes_features p ≡ false → phase_after_input k p ≡ base_phase_after_input p
input_same k Outside f = refl
input_same k Inputs f = refl
input_same k FirstColumn f = refl
input_same k SecondColumn f = refl
input_same k FeatureInputs f = cc

plain_command : (c : Command) (p : DataPhase) → takes_features (phase_after_command c p) ≡ false
plain_command ChangeWriteColumn Inputs = refl
plain_command ChangeWriteColumn _ = refl
plain_command c p = refl

no_column : (c : Command) → wants_column (phase_after_command c Outside) ≡ false
no_column ChangeWriteColumn = refl
no_column c = refl

plain_last : (b : Bool) → takes_features (cond b Inputs Outside) ≡ false
plain_last true = refl
plain_last false = refl

plain_address : (o : Option Opening) (p : DataPhase) → takes_features (base_phase_after_address o p) ≡ false
plain_address o Outside = plain_last (opened (λ c n. is_page_program c && n == 4) o)
plain_address o Inputs = refl
plain_address o FirstColumn = refl
plain_address o SecondColumn = refl
plain_address o FeatureInputs = refl

plain_input : (p : DataPhase) → takes_features (base_phase_after_input p) ≡ false
plain_input Inputs = refl
plain_input Outside = refl
plain_input FirstColumn = refl
plain_input SecondColumn = refl
plain_input FeatureInputs = refl

-- behind the first byte of a column there is no opener
one_more : (o : Option Opening) (p : DataPhase) → (wants_column p ≡ true → o ≡ None) → wants_column (base_phase_after_address o p) ≡ true → one_address_more o ≡ None
one_more o FirstColumn h e = ap one_address_more (h refl)
one_more o SecondColumn h e = ap one_address_more (h refl)
one_more o Outside h e = at (opened (λ c n. is_page_program c && n == 4) o) e
  where
    at : (b : Bool) → wants_column (cond b Inputs Outside) ≡ true → one_address_more o ≡ None
    at true e = cc
    at false e = cc
one_more o Inputs h e = cc
one_more o FeatureInputs h e = cc

still_base : (among : Command → Bool) (o : Option Opening) → opened (λ c n. among c) (one_address_more o) ≡ opened (λ c n. among c) o
still_base among None = refl
still_base among (Some o) = refl

-- 4. one cycle more

-- the facts are what they were, and can be those of the base profile
record IsStep (now before : TailFacts) : Type 0 where
  same : now ≡ before
  base : AreOfBase before

abbrev begun_by : Command → Bool → Option Opening
begun_by c b = cond b (Some (record { opener = c; addresses = 0 })) None

-- the command isn't 85
abbrev is_new : TargetCycle → Bool
is_new (CommandCycle c) = not (is_write_column c)
is_new k = true

not_written : (c : Command) (b : Bool) → (b ≡ true → not (is_write_column c) ≡ true) → opened (λ d n. is_write_column d) (begun_by c b) ≡ false
not_written c true new = not-true (is_write_column c) (new refl)
not_written c false new = refl

opened_by : (c : Command) → is_of_base c ≡ true → (b : Bool) → opened (λ d n. not (is_of_base d)) (begun_by c b) ≡ false
opened_by c h true = ap not h
opened_by c h false = refl

alone_by : (c : Command) (p : DataPhase) (b : Bool) → (b ≡ true → p ≡ Outside) → wants_column (phase_after_command c p) ≡ true → begun_by c b ≡ None
alone_by c p false h e = refl
alone_by c p true h e =
    let both : true ≡ false = sym e ∙ (ap (λ (q : DataPhase). wants_column (phase_after_command c q)) (h refl) ∙ no_column c) in
    cc

extended : (k : TargetCycle) (t : TailFacts) → AreOfBase t → is_base_cycle k ≡ true → (t.is_empty ≡ true → is_new k ≡ true) → IsStep (extended_facts k t) (base_extended_facts k t)
extended (CommandCycle c) t a h new =
    record {
      same = refl;
      base = record { opener = opened_by c h t.is_empty; written = not_written c t.is_empty new; phase = plain_command c t.phase; alone = alone_by c t.phase t.is_empty a.nothing; nothing = λ e. cc };
    }
extended (AddressCycle byte) t a h new =
    record {
      same =
          ap (λ (p : DataPhase). record { opening = one_address_more t.opening; phase = p; row = row_after_address t.opening byte t.row; column = column_after_address (next_address_place t.opening t.phase) byte t.column; inputs = 0; is_empty = false })
          (address_same t.opening t.phase a.opener a.written a.phase);
      base = record { opener = still_base (λ c. not (is_of_base c)) t.opening ∙ a.opener; written = still_base is_write_column t.opening ∙ a.written; phase = plain_address t.opening t.phase; alone = one_more t.opening t.phase a.alone; nothing = λ e. cc };
    }
extended (InputCycle byte) t a h new =
    record {
      same = ap (λ (p : DataPhase). record { opening = None; phase = p; row = t.row; column = t.column; inputs = t.inputs + 1; is_empty = false }) (input_same t.inputs t.phase a.phase);
      base = record { opener = refl; written = refl; phase = plain_input t.phase; alone = λ e. refl; nothing = λ e. cc };
    }
extended OutputCycle t a h new = record { same = refl; base = record { opener = refl; written = refl; phase = refl; alone = λ e. refl; nothing = λ e. cc } }

opens_new : (c : Command) → base_is_opener c ≡ true → not (is_write_column c) ≡ true
opens_new ChangeWriteColumn h = cc
opens_new c h = refl

begins_new : (k : TargetCycle) → base_begins_sequence k ≡ true → is_new k ≡ true
begins_new (CommandCycle c) h = opens_new c h
begins_new (AddressCycle byte) h = refl
begins_new (InputCycle byte) h = refl
begins_new OutputCycle h = refl

step : (k : TargetCycle) (t : TailFacts) → AreOfBase t → is_base_cycle k ≡ true → begins_anew t k ≡ base_begins_sequence k → IsStep (facts_after k t) (base_facts_after k t)
step k t a h anew =
    subst (λ (b : Bool). IsStep (cond b (extended_facts k (facts_of [])) (cond t.is_empty t (extended_facts k t))) (base_facts_after k t)) (sym anew) (by (base_begins_sequence k) t.is_empty refl refl)
  where
    by : (b e : Bool) → base_begins_sequence k ≡ b → t.is_empty ≡ e → IsStep (cond b (extended_facts k (facts_of [])) (cond e t (extended_facts k t))) (cond b (base_extended_facts k (facts_of [])) (cond e t (base_extended_facts k t)))
    by true e begins empty = extended k (facts_of []) nothing_yet h (λ first. begins_new k begins)
    by false true begins empty = record { same = refl; base = a }
    by false false begins empty = extended k t a h (λ first. absurd (clash t.is_empty first empty))

-- 5. a past

tails : (g : Parts) (targets : ℕ) (past : List Item) (ce : ℕ) → is_legal (in_base g) targets past ≡ true → IsStep (facts_of (tail past ce)) (base_facts past ce)
tails g targets [] ce h = record { same = refl; base = nothing_yet }
tails g targets (Rdy c lun fail ∷ past) ce h = tails g targets past ce (and_parts (is_permitted (in_base g) targets past (Rdy c lun fail)) (is_legal (in_base g) targets past) h).1
tails g targets (Ard c lun fail ∷ past) ce h = tails g targets past ce (and_parts (is_permitted (in_base g) targets past (Ard c lun fail)) (is_legal (in_base g) targets past) h).1
tails g targets (Cyc c ∷ past) ce h = at (c.ce == ce) refl (tails g targets past ce both.1)
  where
    both : (is_permitted (in_base g) targets past (Cyc c) ≡ true) × (is_legal (in_base g) targets past ≡ true)
    both = and_parts (is_permitted (in_base g) targets past (Cyc c)) (is_legal (in_base g) targets past) h

    keeps : KeepsRules (in_base g) (facts_of (tail past c.ce)) (luns_of (in_base g) past c.ce) (target_cycle c.kind c.byte)
    keeps = permitted_keeps (in_base g) targets past c (permitted_none (in_base g) targets past (Cyc c) both.0)

    of_base : is_base_cycle (target_cycle c.kind c.byte) ≡ true
    of_base = base_cycle g (target_cycle c.kind c.byte) keeps.f2

    closed : c.ce ≡ ce → facts_of (tail past ce) ≡ base_facts past ce → breaks_sequence_open (in_base g) (base_facts past ce) (target_cycle c.kind c.byte) ≡ false
    closed here same =
        ap (λ (t : TailFacts). breaks_sequence_open (in_base g) t (target_cycle c.kind c.byte)) (sym same)
        ∙ subst (λ (x : ℕ). breaks_sequence_open (in_base g) (facts_of (tail past x)) (target_cycle c.kind c.byte) ≡ false) here keeps.f3

    placed : c.ce ≡ ce → facts_of (tail past ce) ≡ base_facts past ce → breaks_command_misplaced (in_base g) (base_facts past ce) (target_cycle c.kind c.byte) ≡ false
    placed here same =
        ap (λ (t : TailFacts). breaks_command_misplaced (in_base g) t (target_cycle c.kind c.byte)) (sym same)
        ∙ subst (λ (x : ℕ). breaks_command_misplaced (in_base g) (facts_of (tail past x)) (target_cycle c.kind c.byte) ≡ false) here keeps.f6

    at : (b : Bool) → (c.ce == ce) ≡ b → IsStep (facts_of (tail past ce)) (base_facts past ce) → IsStep (facts_of (tail (Cyc c ∷ past) ce)) (base_facts (Cyc c ∷ past) ce)
    at true e before =
        let anew = anew_same g (base_facts past ce) (target_cycle c.kind c.byte) (closed (eqb-true c.ce ce e) before.same) (placed (eqb-true c.ce ce e) before.same) in
        let next = step (target_cycle c.kind c.byte) (base_facts past ce) before.base of_base anew in
        record {
          same = facts_of_cycle c past ce (eqb-true c.ce ce e) ∙ (ap (facts_after (target_cycle c.kind c.byte)) before.same ∙ (next.same ∙ ap (λ (b : Bool). cond b (base_facts_after (target_cycle c.kind c.byte) (base_facts past ce)) (base_facts past ce)) (sym e)));
          base = subst (λ (b : Bool). AreOfBase (cond b (base_facts_after (target_cycle c.kind c.byte) (base_facts past ce)) (base_facts past ce))) (sym e) next.base;
        }
    at false e before = rw e before

pub facts_base : (g : Parts) (targets : ℕ) (past : List Item) (ce : ℕ) → is_legal (in_base g) targets past ≡ true → AreOfBase (base_facts past ce)
facts_base g targets past ce h = (tails g targets past ce h).base

pub tails_kept : TailsBase
tails_kept g targets past ce h = (tails g targets past ce h).same
