-- A new bus of one die.
use Rattle.std.proofs.Common.{◌≡◌, ℕ, zero, suc, ◌*◌, Bool, true, false, List, [], ◌∷◌, ◌++◌, Some, None, refl, sym, ap, ◌∙◌, subst, arith, replicate, length, map}
use Rattle.std.proofs.Math.Path.{fun_ext}
use Rattle.std.specs.Bool.{beq}
use Rattle.std.specs.Prelude.{slice_index_or}
use Rattle.onfi_cycle.proofs.Booleans.{eqb_self}
use Rattle.nand_geometry.specs.declared.parts.Parts.{Parts}
use Rattle.nand_geometry.specs.Limits.{page_len}
use Rattle.nand_geometry.specs.Page.{parameter_bytes}
use Rattle.onfi_cycle.specs.declared.lun.Lun.{Lun}
use Rattle.onfi_cycle.specs.declared.page_address.PageAddress.{PageAddress}
use Rattle.onfi_cycle.specs.Channel.{Channel}
use Rattle.die_model.specs.Pages.{page_in}
use Rattle.die_model.specs.Die.{Die, new_die}
use Rattle.target_bus.specs.Bus.{Traced, channel_on, number_of, opened_page, bus_fault, RefusesDies}
use Rattle.target_bus.specs.declared.refusal.BusFault.{BusFault}
use Rattle.target_bus.specs.declared.refusal.BusFault.TheVariants.{DiesMissing, DieUnfit}
use Rattle.micro_verify.specs.Playing.{IsNewBus}

-- 1. the bus takes it

bself : (b : Bool) → beq b b ≡ true
bself true = refl
bself false = refl

pub one_die : (g : Parts) → g.luns ≡ 1 → bus_fault g (new_die g ∷ []) ≡ None
one_die g one =
    rw (one, eqb_self g.page_bytes, eqb_self g.spare_bytes, eqb_self g.pages, eqb_self g.blocks, eqb_self g.plane_bits, bself g.enhanced, bself g.multi_plane, bself g.cache, eqb_self g.optional.0) refl

-- 2. its channel

pages_none : (n : ℕ) → slice_index_or ([] ∷ []) n (let e : List ((ℕ × ℕ) × List ℕ) = [] in e) ≡ []
pages_none zero = refl
pages_none (suc n) = refl

opening_is : (g : Parts) → opened_page g ([] ∷ []) ≡ (λ (l : Lun) (p : PageAddress). replicate (page_len g) 0xff)
opening_is g = fun_ext (λ l. fun_ext (λ p. ap (λ (e : List ((ℕ × ℕ) × List ℕ)). page_in (page_len g) e p) (pages_none (number_of g l))))

targets_one : (n m : ℕ) → m ≡ 1 → n * m ≡ 1 → n ≡ 1
targets_one n m one h = let same : n * 1 ≡ 1 = subst (λ (k : ℕ). n * k ≡ 1) one h in omega (arith, same)

pub new_bus : (b : Traced) (g : Parts) → g.luns ≡ 1 → b.past ≡ [] → b.geometry ≡ g → b.targets * g.luns ≡ 1 → b.opened ≡ [] ∷ [] → IsNewBus b g
new_bus b g one past geometry count opened =
    record {
      channel = (λ i. channel_on (geometry i) (targets_one b.targets g.luns one count i) (opened i)) ∙ ap (λ (o : Lun → PageAddress → List ℕ). (let c : Channel = record { geometry = g; targets = 1; parameters = parameter_bytes g; opening = o } in c)) (opening_is g);
      past = past;
    }

-- 3. its dies

pub dies_are : (g : Parts) (items before : List Die) (d : Die) → items ≡ before ++ (d ∷ []) → before ≡ [] → d ≡ new_die g → items ≡ new_die g ∷ []
dies_are g items before d is none new = is ∙ (λ i. none i ++ (new i ∷ []))

pub count_one : (b : Traced) (g : Parts) (items : List Die) → b.targets * g.luns ≡ length items → items ≡ new_die g ∷ [] → b.targets * g.luns ≡ 1
count_one b g items count is = count ∙ ap length is

pub opened_none : (b : Traced) (g : Parts) (items : List Die) → b.opened ≡ map (λ (d : Die). d.pages) items → items ≡ new_die g ∷ [] → b.opened ≡ [] ∷ []
opened_none b g items opened is = opened ∙ ap (map (λ (d : Die). d.pages)) is

-- it isn't refused
pub never_dies_missing : (g : Parts) (items : List Die) (f : BusFault) → g.luns ≡ 1 → items ≡ new_die g ∷ [] → f ≡ DiesMissing → RefusesDies f (bus_fault g items) → ⊥
never_dies_missing g items f one is at refuses =
    let some : bus_fault g items ≡ Some DiesMissing = subst (λ (x : BusFault). RefusesDies x (bus_fault g items)) at refuses in
    let both : Some DiesMissing ≡ None = sym some ∙ (ap (bus_fault g) is ∙ one_die g one) in
    cc

pub never_die_unfit : (g : Parts) (items : List Die) (f : BusFault) → g.luns ≡ 1 → items ≡ new_die g ∷ [] → f ≡ DieUnfit → RefusesDies f (bus_fault g items) → ⊥
never_die_unfit g items f one is at refuses =
    let some : bus_fault g items ≡ Some DieUnfit = subst (λ (x : BusFault). RefusesDies x (bus_fault g items)) at refuses in
    let both : Some DieUnfit ≡ None = sym some ∙ (ap (bus_fault g) is ∙ one_die g one) in
    cc
