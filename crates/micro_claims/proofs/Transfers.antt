-- Outputs and inputs, one by one: what a scene must allow, and the scene behind so many of them.
use Rattle.std.proofs.Common.{◌≡◌, ℕ, zero, suc, ◌+◌, ◌%◌, ◌≤◌, ◌==◌, Bool, true, false, ◌&&◌, cond, not, ltb, nat_le, List, [], ◌∷◌, Option, Some, None, refl, sym, ap, ◌∙◌, subst, arith, length, replicate}
use Rattle.std.proofs.lemmas.Bool.Decides.{nat_tests}
use Rattle.nand_geometry.specs.declared.parts.Parts.{Parts}
use Rattle.nand_geometry.specs.Limits.{page_len}
use Rattle.onfi_cycle.specs.declared.data_phase.DataPhase.{DataPhase}
use Rattle.onfi_cycle.specs.declared.data_phase.DataPhase.TheVariants.{Outside, Inputs, FeatureInputs}
use Rattle.onfi_cycle.specs.declared.effect.Effect.TheVariants.{Unaffected, FeaturesSet}
use Rattle.onfi_cycle.specs.declared.item.Kind.TheVariants.{Din}
use Rattle.onfi_cycle.specs.declared.latch.Latch.TheVariants.{Status, Data}
use Rattle.onfi_cycle.specs.declared.read_column.ReadColumn.{ReadColumn}
use Rattle.onfi_cycle.specs.declared.tail_facts.TailFacts.{TailFacts}
use Rattle.onfi_cycle.specs.declared.target_cycle.TargetCycle.TheVariants.{InputCycle, OutputCycle}
use Rattle.onfi_cycle.specs.LunView.{LunView}
use Rattle.onfi_cycle.specs.Sequence.{facts_after, extended_facts, phase_after_input, is_open, input_column, takes_features, takes_inputs}
use Rattle.onfi_cycle.specs.Effect.{input_effect}
use Rattle.onfi_cycle.specs.Lun.{output_column, option_plus, view_after}
use Rattle.onfi_cycle.specs.Rules.{register_len, is_empty}
use Rattle.micro_program.specs.Moves.{Take, gives}
use Rattle.micro_program.proofs.Stepping.{of_one}
use Rattle.micro_program.proofs.Scenes.{Scene, InputAllowed, scene_behind}
use Rattle.micro_program.proofs.SceneMoves.{MovesAllowed, scene_after}
use Rattle.micro_claims.proofs.Fits.{Address, InProgram, FeaturesBegun}

-- 1. outputs of data

-- a LUN that was read so often
abbrev pub read_on : ℕ → LunView → LunView
read_on n v = record v { column = record v.column { outputs = v.column.outputs + n } }

pub record Outputs (g : Parts) (lun : ℕ) (n : ℕ) (c : Scene) : Type 0 where
  pub allowed : MovesAllowed g lun (replicate n Take) c
  pub closed : is_open (scene_after g lun (replicate n Take) c).facts ≡ false
  pub sole : (scene_after g lun (replicate n Take) c).sole ≡ true

-- nothing is open behind an output
closed_behind : (t : TailFacts) → is_open t ≡ false → is_open (facts_after OutputCycle t) ≡ false
closed_behind t h = at t.is_empty refl
  where
    at : (b : Bool) → t.is_empty ≡ b → is_open (cond t.is_empty t (extended_facts OutputCycle t)) ≡ false
    at true e = rw e h
    at false e = rw e refl

-- outputs of status
status_view : (g : Parts) (lun : ℕ) (c : Scene) → c.sole ≡ true → c.view.latch ≡ Status → scene_behind g lun OutputCycle c ≡ record { facts = facts_after OutputCycle c.facts; view = c.view; sole = c.sole }
status_view g lun c sole latch = rw (sole, latch) refl

pub status_outputs : (g : Parts) (lun : ℕ) (n : ℕ) (c : Scene) → is_open c.facts ≡ false → c.sole ≡ true → c.view.latch ≡ Status → Outputs g lun n c × ((scene_after g lun (replicate n Take) c).view ≡ c.view)
status_outputs g lun zero c closed sole latch = (record { allowed = tt; closed = closed; sole = sole }, refl)
status_outputs g lun (suc n) c closed sole latch =
    let next : Scene = record { facts = facts_after OutputCycle c.facts; view = c.view; sole = c.sole } in
    let is = status_view g lun c sole latch in
    let rest = status_outputs g lun n next (closed_behind c.facts closed) sole latch in (
      record {
        allowed = (record { closed = closed; sole = sole; has_byte = rw latch refl; inside = rw latch refl }, subst (λ (x : Scene). MovesAllowed g lun (replicate n Take) x) (sym is) rest.0.allowed);
        closed = ap (λ (x : Scene). is_open (scene_after g lun (replicate n Take) x).facts) is ∙ rest.0.closed;
        sole = ap (λ (x : Scene). (scene_after g lun (replicate n Take) x).sole) is ∙ rest.0.sole;
      },
      ap (λ (x : Scene). (scene_after g lun (replicate n Take) x).view) is ∙ rest.1,
    )

-- outputs of data
data_view : (g : Parts) (lun : ℕ) (c : Scene) → c.sole ≡ true → c.view.latch ≡ Data → scene_behind g lun OutputCycle c ≡ record { facts = facts_after OutputCycle c.facts; view = read_on 1 c.view; sole = c.sole }
data_view g lun c sole latch = rw (sole, latch) refl

pub record CanRead (g : Parts) (v : LunView) (at : ℕ) (n : ℕ) : Type 0 where
  pub latch : v.latch ≡ Data
  pub ready : v.busy ≡ false
  pub held : is_empty v.register ≡ false
  pub column : output_column v.column ≡ Some at
  pub inside : at + n ≤ register_len g v.register

pub read_one : (k : ReadColumn) (at : ℕ) → output_column k ≡ Some at → output_column (record k { outputs = k.outputs + 1 }) ≡ Some (at + 1)
read_one k at h = by k.lost k.given h
  where
    by : (b : Bool) (o : Option ℕ) → cond b None (option_plus k.outputs o) ≡ Some at → cond b None (option_plus (k.outputs + 1) o) ≡ Some (at + 1)
    by true o h = cc
    by false None h = cc
    by false (Some m) h =
        let same : m + k.outputs ≡ at = cc in
        let more : m + (k.outputs + 1) ≡ at + 1 = omega (arith, same) in
        ap Some more

pub data_outputs : (g : Parts) (lun : ℕ) (n : ℕ) (c : Scene) (at : ℕ) → is_open c.facts ≡ false → c.sole ≡ true → CanRead g c.view at n → Outputs g lun n c × ((scene_after g lun (replicate n Take) c).view ≡ read_on n c.view)
data_outputs g lun zero c at closed sole can =
    let none : c.view.column.outputs ≡ c.view.column.outputs + 0 = omega arith in
    (record { allowed = tt; closed = closed; sole = sole }, ap (λ (m : ℕ). record c.view { column = record c.view.column { outputs = m } }) none)
data_outputs g lun (suc n) c at closed sole can =
    let next : Scene = record { facts = facts_after OutputCycle c.facts; view = read_on 1 c.view; sole = c.sole } in
    let is = data_view g lun c sole can.latch in
    let more = can.inside in
    let rest = data_outputs g lun n next (at + 1) (closed_behind c.facts closed) sole (record { latch = can.latch; ready = can.ready; held = can.held; column = read_one c.view.column at can.column; inside = omega (arith, more) }) in
    let number : c.view.column.outputs + 1 + n ≡ c.view.column.outputs + suc n = omega arith in
    let past : nat_le (register_len g c.view.register) at ≡ false = grind (arith, nat_tests, more) in (
      record {
        allowed = (record { closed = closed; sole = sole; has_byte = rw (can.latch, can.ready, can.held, can.column) refl; inside = rw (can.latch, can.column, past) refl }, subst (λ (x : Scene). MovesAllowed g lun (replicate n Take) x) (sym is) rest.0.allowed);
        closed = ap (λ (x : Scene). is_open (scene_after g lun (replicate n Take) x).facts) is ∙ rest.0.closed;
        sole = ap (λ (x : Scene). (scene_after g lun (replicate n Take) x).sole) is ∙ rest.0.sole;
      },
      ap (λ (x : Scene). (scene_after g lun (replicate n Take) x).view) is ∙ (rest.1 ∙ ap (λ (m : ℕ). record c.view { column = record c.view.column { outputs = m } }) number),
    )

-- 2. inputs

-- the tail with one input more
pub record Put (a : Address) (before : TailFacts) (n : ℕ) (t : TailFacts) : Type 0 where
  pub program : InProgram a Inputs t
  pub column : input_column t ≡ input_column before + n

pub record InputsGo (g : Parts) (lun : ℕ) (bytes : List ℕ) (a : Address) (c : Scene) : Type 0 where
  pub facts : TailFacts
  pub allowed : MovesAllowed g lun (gives Din bytes) c
  pub leads : scene_after g lun (gives Din bytes) c ≡ record { facts = facts; view = c.view; sole = c.sole }
  pub put : Put a c.facts (length bytes) facts

one_input : (a : Address) (t : TailFacts) (b : ℕ) → InProgram a Inputs t → InProgram a Inputs (facts_after (InputCycle b) t)
one_input a t b p = record { phase = rw (p.begun, p.phase) refl; row = rw p.begun p.row; begun = rw p.begun refl }

input_more : (t : TailFacts) (b : ℕ) → t.is_empty ≡ false → input_column (facts_after (InputCycle b) t) ≡ input_column t + 1
input_more t b e = rw e (omega arith)

-- an input of a program does nothing to what the rules see of the LUN
pub calm_view : (g : Parts) (lun : ℕ) (t : TailFacts) (v : LunView) → t.phase ≡ Inputs → view_after (input_effect g t lun) v ≡ v
calm_view g lun t v phase = rw phase refl

-- no feature is set in the data of a program
no_features : {X : Type 0} (p : DataPhase) → p ≡ Inputs → takes_features p ≡ true → X
no_features p e h = let none : takes_features p ≡ false = ap takes_features e in cc

program_inside : (g : Parts) (t : TailFacts) → t.phase ≡ Inputs → nat_le (page_len g) (input_column t) ≡ false → (not (takes_features t.phase) && nat_le (page_len g) (input_column t)) ≡ false
program_inside g t phase below = ap (λ (d : DataPhase). not (takes_features d) && nat_le (page_len g) (input_column t)) phase ∙ below

pub inputs_go : (g : Parts) (lun : ℕ) (a : Address) (bytes : List ℕ) (c : Scene) → InProgram a Inputs c.facts → input_column c.facts + length bytes ≤ page_len g → InputsGo g lun bytes a c
inputs_go g lun a [] c p inside = record { facts = c.facts; allowed = tt; leads = refl; put = record { program = p; column = omega arith } }
inputs_go g lun a (b ∷ bytes) c p inside =
    let next : Scene = scene_behind g lun (InputCycle b) c in
    let more = input_more c.facts b p.begun in
    let rest = inputs_go g lun a bytes next (one_input a c.facts b p) (omega (arith, more, inside)) in
    let below : nat_le (page_len g) (input_column c.facts) ≡ false = grind (arith, nat_tests, inside) in
    let column = rest.put.column in
    record {
      facts = rest.facts;
      allowed = (record { wanted = ap takes_inputs p.phase; alone = λ e. no_features c.facts.phase p.phase e; inside = program_inside g c.facts p.phase below }, rest.allowed);
      leads = rest.leads ∙ ap (λ (v : LunView). record { facts = rest.facts; view = v; sole = c.sole }) (calm_view g lun c.facts c.view p.phase);
      put = record { program = rest.put.program; column = omega (arith, column, more) };
    }

-- 3. the four bytes of a Set Features

-- what so many of them in all lead to: some are still to come, or the work has begun
pub data FeaturesLed (n : ℕ) (c d : Scene) : Type 0 where
  Amid : FeaturesBegun n d.facts → d.view ≡ c.view → d.sole ≡ c.sole → FeaturesLed n c d
  Whole : n ≡ 4 → is_open d.facts ≡ false → (address : ℕ) → d.view ≡ view_after (FeaturesSet address) c.view → d.sole ≡ c.sole → FeaturesLed n c d

pub record FeaturesGo (g : Parts) (lun : ℕ) (bytes : List ℕ) (c : Scene) (n : ℕ) : Type 0 where
  pub scene : Scene
  pub allowed : MovesAllowed g lun (gives Din bytes) c
  pub leads : scene_after g lun (gives Din bytes) c ≡ scene
  pub led : FeaturesLed n c scene

-- each of them is allowed
feature_allowed : (g : Parts) (c : Scene) → ltb 1 g.luns ≡ false → c.facts.phase ≡ FeatureInputs → InputAllowed g c
feature_allowed g c single phase = record { wanted = ap takes_inputs phase; alone = λ e. single; inside = ap (λ (d : DataPhase). not (takes_features d) && nat_le (page_len g) (input_column c.facts)) phase }

-- the facts behind one
feature_behind : (t : TailFacts) (b n : ℕ) → FeaturesBegun n t → facts_after (InputCycle b) t ≡ record { opening = None; phase = cond (ltb n 3) FeatureInputs Outside; row = t.row; column = t.column; inputs = n + 1; is_empty = false }
feature_behind t b n f = rw f.begun (λ i. record { opening = None; phase = phase_after_input (f.inputs i) (f.phase i); row = t.row; column = t.column; inputs = f.inputs i + 1; is_empty = false })

-- what one does to the LUN
feature_effect : (g : Parts) (lun : ℕ) (t : TailFacts) (n : ℕ) → ltb 1 g.luns ≡ false → FeaturesBegun n t → input_effect g t lun ≡ cond (n == 3) (FeaturesSet (t.column % 256)) Unaffected
feature_effect g lun t n single f = λ i. cond (takes_features (f.phase i) && f.inputs i == 3) (of_one g lun (FeaturesSet (t.column % 256)) single i) Unaffected

-- the scene behind one
feature_scene : (g : Parts) (lun b n : ℕ) (c : Scene) → ltb 1 g.luns ≡ false → FeaturesBegun n c.facts → scene_behind g lun (InputCycle b) c ≡ record {
  facts = record { opening = None; phase = cond (ltb n 3) FeatureInputs Outside; row = c.facts.row; column = c.facts.column; inputs = n + 1; is_empty = false };
  view = view_after (cond (n == 3) (FeaturesSet (c.facts.column % 256)) Unaffected) c.view;
  sole = c.sole;
}
feature_scene g lun b n c single f = λ i. record { facts = feature_behind c.facts b n f i; view = view_after (feature_effect g lun c.facts n single f i) c.view; sole = c.sole }

-- one that isn't the fourth
amid_scene : (g : Parts) (lun b n : ℕ) (c : Scene) → ltb 1 g.luns ≡ false → FeaturesBegun n c.facts → ltb n 3 ≡ true → scene_behind g lun (InputCycle b) c ≡ record {
  facts = record { opening = None; phase = FeatureInputs; row = c.facts.row; column = c.facts.column; inputs = n + 1; is_empty = false };
  view = c.view;
  sole = c.sole;
}
amid_scene g lun b n c single f few =
    let other : (n == 3) ≡ false = grind (arith, nat_tests, few) in
    feature_scene g lun b n c single f ∙ (λ i. record {
      facts = record { opening = None; phase = cond (few i) FeatureInputs Outside; row = c.facts.row; column = c.facts.column; inputs = n + 1; is_empty = false };
      view = view_after (cond (other i) (FeaturesSet (c.facts.column % 256)) Unaffected) c.view;
      sole = c.sole;
    })

-- the fourth
whole_scene : (g : Parts) (lun b n : ℕ) (c : Scene) → ltb 1 g.luns ≡ false → FeaturesBegun n c.facts → ltb n 3 ≡ false → scene_behind g lun (InputCycle b) c ≡ record {
  facts = record { opening = None; phase = Outside; row = c.facts.row; column = c.facts.column; inputs = n + 1; is_empty = false };
  view = view_after (FeaturesSet (c.facts.column % 256)) c.view;
  sole = c.sole;
}
whole_scene g lun b n c single f all =
    let low = f.few in
    let third : (n == 3) ≡ true = grind (arith, nat_tests, all, low) in
    feature_scene g lun b n c single f ∙ (λ i. record {
      facts = record { opening = None; phase = cond (all i) FeatureInputs Outside; row = c.facts.row; column = c.facts.column; inputs = n + 1; is_empty = false };
      view = view_after (cond (third i) (FeaturesSet (c.facts.column % 256)) Unaffected) c.view;
      sole = c.sole;
    })

-- from another scene that differs in the tail alone
led_from : (n : ℕ) (c d e : Scene) → d.view ≡ c.view → d.sole ≡ c.sole → FeaturesLed n d e → FeaturesLed n c e
led_from n c d e view sole (Amid b v s) = Amid b (v ∙ view) (s ∙ sole)
led_from n c d e view sole (Whole all shut address v s) = Whole all shut address (v ∙ ap (view_after (FeaturesSet address)) view) (s ∙ sole)

pub features_go : (g : Parts) (lun : ℕ) (bytes : List ℕ) (n : ℕ) (c : Scene) → ltb 1 g.luns ≡ false → FeaturesBegun n c.facts → n + length bytes ≤ 4 → FeaturesGo g lun bytes c (n + length bytes)
features_go g lun [] n c single f few = record { scene = c; allowed = tt; leads = refl; led = Amid (subst (λ (m : ℕ). FeaturesBegun m c.facts) (let e : n ≡ n + 0 = omega arith in e) f) refl refl }
features_go g lun (b ∷ []) n c single f few = at (ltb n 3) refl
  where
    next : Scene
    next = scene_behind g lun (InputCycle b) c

    one : n + 1 ≡ n + length (b ∷ [])
    one = refl

    at : (x : Bool) → ltb n 3 ≡ x → FeaturesGo g lun (b ∷ []) c (n + length (b ∷ []))
    at true e =
        let is = amid_scene g lun b n c single f e in
        record {
          scene = next;
          allowed = (feature_allowed g c single f.phase, tt);
          leads = refl;
          led = subst (λ (d : Scene). FeaturesLed (n + length (b ∷ [])) c d) (sym is) (Amid (record { few = grind (arith, nat_tests, e); phase = refl; inputs = refl; begun = refl }) refl refl);
        }
    at false e =
        let is = whole_scene g lun b n c single f e in
        let low = f.few in
        let last : n + length (b ∷ []) ≡ 4 = grind (arith, nat_tests, e, low) in
        record {
          scene = next;
          allowed = (feature_allowed g c single f.phase, tt);
          leads = refl;
          led = subst (λ (d : Scene). FeaturesLed (n + length (b ∷ [])) c d) (sym is) (Whole last refl (c.facts.column % 256) refl refl);
        }
features_go g lun (b ∷ (d ∷ bytes)) n c single f few =
    let early : ltb n 3 ≡ true = grind (arith, nat_tests, few) in
    let is = amid_scene g lun b n c single f early in
    let next : Scene = record { facts = record { opening = None; phase = FeatureInputs; row = c.facts.row; column = c.facts.column; inputs = n + 1; is_empty = false }; view = c.view; sole = c.sole } in
    let begun : FeaturesBegun (n + 1) next.facts = record { few = grind (arith, nat_tests, early); phase = refl; inputs = refl; begun = refl } in
    let rest = features_go g lun (d ∷ bytes) (n + 1) next single begun (omega (arith, few)) in
    let number : n + 1 + length (d ∷ bytes) ≡ n + length (b ∷ (d ∷ bytes)) = omega arith in
    record {
      scene = rest.scene;
      allowed = (feature_allowed g c single f.phase, subst (λ (x : Scene). MovesAllowed g lun (gives Din (d ∷ bytes)) x) (sym is) rest.allowed);
      leads = ap (scene_after g lun (gives Din (d ∷ bytes))) is ∙ rest.leads;
      led = subst (λ (m : ℕ). FeaturesLed m c rest.scene) number (led_from (n + 1 + length (d ∷ bytes)) c next rest.scene refl refl rest.led);
    }
