-- The address of FAh is sound: its last row cycle resets the LUN of the program.
use Rattle.std.proofs.Common.{◌≡◌, ℕ, zero, suc, ◌+◌, ◌-◌, ◌≤◌, ◌<◌, ◌==◌, Bool, true, false, cond, not, ltb, List, [], ◌∷◌, Option, Some, None, refl, sym, ap, ◌∙◌, subst, arith, eq-eqb, eqb-true, take, drop}
use Rattle.std.proofs.lemmas.Bool.Decides.{nat_tests}
use Rattle.std.proofs.lemmas.Bool.{and_from}
use Rattle.nand_geometry.specs.declared.parts.Parts.{Parts}
use Rattle.nand_geometry.specs.declared.row_parts.RowParts.{RowParts}
use Rattle.nand_geometry.specs.Optional.{is_wide}
use Rattle.nand_geometry.specs.Row.{row_of}
use Rattle.onfi_cycle.specs.declared.command.Command.TheVariants.{ResetLun}
use Rattle.onfi_cycle.specs.declared.effect.Effect.TheVariants.{Unaffected, ResetStarted, AnotherAddressed}
use Rattle.onfi_cycle.specs.declared.item.Item.{Item}
use Rattle.onfi_cycle.specs.declared.item.Kind.TheVariants.{Adr}
use Rattle.onfi_cycle.specs.LunView.{LunView}
use Rattle.onfi_cycle.specs.Effect.{names_lun, is_shared}
use Rattle.onfi_cycle.specs.Lun.{view_after}
use Rattle.onfi_cycle.specs.Channel.{Channel}
use Rattle.micro_word.specs.declared.word.Word.TheVariants.{Address as AddressWord}
use Rattle.micro_program.specs.Lines.{Line}
use Rattle.micro_program.specs.Program.{Job, Done, index_now}
use Rattle.micro_program.specs.Moves.{gives, and_then}
use Rattle.micro_claims.specs.State.{State, Registers, Place, After, Closed, InData, InColumn, InFeatures, Unknown, bounds_of}
use Rattle.micro_claims.specs.Against.{takes_identity_at, address_out_of_place, begins_elsewhere, column_past, is_inside_address}
use Rattle.micro_claims.specs.Reasons.{breaks_cycle_forbidden, breaks_address_unaligned, breaks_row_or_plane_outside, breaks_column_too_large}
use Rattle.micro_claims.specs.Leaves.{paid, with_registers, with_target, reset_started, lun_reset, address_leads_to, target_after_addresses, address_leaves_at}
use Rattle.micro_claims.specs.Accepts.{state_after, accepts}
use Rattle.micro_program.proofs.Scenes.{Scene, IsScene}
use Rattle.micro_claims.proofs.Fits.{RegistersFit, Address, all_bytes, bytes_of, opener_facts, facts_behind, PlaceIs, Opened, holds_address, IsNow, RowIs, TailFits, ShowsFit, LunFits, Fits, now_of}
use Rattle.micro_claims.proofs.Tails.{closed_fits}
use Rattle.micro_claims.proofs.Sounding.{KnownJob, NoReasons, unmoved, SoundWord, plain_sound}
use Rattle.micro_claims.proofs.AddressSteps.{OneStep, Steps, many, never}
use Rattle.micro_claims.proofs.Addressing.{PlaceClear, place_clear, AddressNow, address_now, address_bytes, of_now, same_bytes}
use Rattle.micro_claims.proofs.Commands.{shows_kept}
use Rattle.micro_claims.proofs.MoreCommands.{reset_fits}
use Rattle.micro_claims.proofs.SoundAddress.{few_is, resets_lun}

-- 1. its three row cycles

-- the scene behind so many of them: the last one resets the LUN
abbrev pub reset_scene : Address → LunView → Bool → ℕ → Scene
reset_scene a view sole zero = record { facts = facts_behind (opener_facts ResetLun) (take 0 (bytes_of ResetLun a)); view = view; sole = sole }
reset_scene a view sole (suc zero) = record { facts = facts_behind (opener_facts ResetLun) (take 1 (bytes_of ResetLun a)); view = view; sole = sole }
reset_scene a view sole (suc (suc zero)) = record { facts = facts_behind (opener_facts ResetLun) (take 2 (bytes_of ResetLun a)); view = view; sole = sole }
reset_scene a view sole (suc (suc (suc n))) = record { facts = facts_behind (opener_facts ResetLun) (take 3 (bytes_of ResetLun a)); view = view_after ResetStarted view; sole = false }

names_it : (g : Parts) (j : Job) (a : Address) → RowIs g j a → names_lun g (row_of a.r1 a.r2 a.r3) j.lun.lun ≡ true
names_it g j a row = eq-eqb _ _ (ap (λ (p : RowParts). p.lun) row.reads)

reset_steps : (g : Parts) (j : Job) (a : Address) (view : LunView) (sole : Bool) (n : ℕ) → n ≤ 2 → (n ≡ 2 → RowIs g j a) → OneStep g j.lun.lun (reset_scene a view sole) (bytes_of ResetLun a) n
reset_steps g j a view sole zero few row = record { allowed = record { wanted = refl; profile = never (not (is_wide g.optional)); alone = λ e. cc; row = λ e. cc; column = λ e. cc; read_column = λ e. cc }; leads = refl }
reset_steps g j a view sole (suc zero) few row = record { allowed = record { wanted = refl; profile = never (not (is_wide g.optional)); alone = λ e. cc; row = λ e. cc; column = λ e. cc; read_column = λ e. cc }; leads = refl }
reset_steps g j a view sole (suc (suc zero)) few row =
    let r = row refl in
    let names = names_it g j a r in
    record {
      allowed = record { wanted = refl; profile = never (not (is_wide g.optional)); alone = λ e. cc; row = λ e. record { inside = r.inside; names = names; ready = λ x. cc; goes = refl; no_cache = λ x. cc; no_program = λ x. cc; plane = λ x. cc; copy = λ x. cc; no_group = λ x. cc }; column = λ e. cc; read_column = λ e. cc };
      leads = ap (λ (b : Bool). record { facts = facts_behind (opener_facts ResetLun) (take 3 (bytes_of ResetLun a)); view = view_after (cond b ResetStarted (cond (is_shared g) (AnotherAddressed false) Unaffected)) view; sole = false }) names;
    }
reset_steps g j a view sole (suc (suc (suc n))) few row = absurd (omega (arith, few))

reset_facts : (n : ℕ) (a b : Address) → (ltb 0 n ≡ true → (a.r1 ≡ b.r1) × (a.r2 ≡ b.r2) × (a.r3 ≡ b.r3)) → facts_behind (opener_facts ResetLun) (take n (bytes_of ResetLun a)) ≡ facts_behind (opener_facts ResetLun) (take n (bytes_of ResetLun b))
reset_facts zero a b r = refl
reset_facts (suc n) a b r =
    let row = r (let y : ltb 0 (suc n) ≡ true = grind (arith, nat_tests) in y) in
    λ i. facts_behind (opener_facts ResetLun) (take (suc n) (row.0 i ∷ (row.1 i ∷ (row.2 i ∷ []))))

-- 2. the word

-- what the word leads to, and what the claim says of it
record ResetGoes (s : Channel) (j : Job) (v : State) (c : Scene) (done : List Done) (from count n : ℕ) (bytes : List ℕ) : Type 0 where
  next : Scene
  steps : Steps s.geometry j.lun.lun bytes c next
  registers : (lun_reset s.geometry v from count n).registers ≡ v.registers
  tail : TailFits s.geometry j (lun_reset s.geometry v from count n).target (now_of j done) next.facts
  shows : ShowsFit (lun_reset s.geometry v from count n).target.shows next
  lun : LunFits s.geometry j (lun_reset s.geometry v from count n).lun (index_now j.base done) next.view

-- before the last row cycle the scene is that of the openers
early_scene : (a : Address) (view : LunView) (sole : Bool) (n : ℕ) → n ≤ 2 → reset_scene a view sole n ≡ record { facts = facts_behind (opener_facts ResetLun) (take n (bytes_of ResetLun a)); view = view; sole = sole }
early_scene a view sole zero few = refl
early_scene a view sole (suc zero) few = refl
early_scene a view sole (suc (suc zero)) few = refl
early_scene a view sole (suc (suc (suc n))) few = absurd (omega (arith, few))

either_reset : (g : Parts) (v : State) (from count n : ℕ) (b : Bool) → (n + count == 3) ≡ b → lun_reset g v from count n ≡ cond b (reset_started v) (with_target v (target_after_addresses g v from count))
either_reset g v from count n b e = ap (λ (x : Bool). cond x (reset_started v) (with_target v (target_after_addresses g v from count))) e

goes_reset : (s : Channel) (j : Job) (v : State) (c : Scene) (done : List Done) (from count n : ℕ) (old : Address) (a : AddressNow s.geometry j done from count) → Fits s.geometry j v done c true → PlaceClear s.geometry v from count (After ResetLun n) → v.target.tail ≡ After ResetLun n → Opened ResetLun n old c.facts → (is_inside_address (After ResetLun n) ≡ true → IsNow s.geometry j old (now_of j done) (After ResetLun n)) → ResetGoes s j v c done from count n (take count (drop from (all_bytes (of_now s.geometry j done from count a))))
goes_reset s j v c done from count n old a f clear here is now = at (n + count == 3) refl
  where
    g : Parts
    g = s.geometry

    b : Address
    b = of_now s.geometry j done from count a

    begins : from ≡ suc (suc n)
    begins = let x = clear.begins in omega (arith, x)

    few : n + count ≤ 3
    few = let x = clear.few in let y : (3 - n == 0) ≡ false = clear.left in let z : n < 3 = grind (arith, nat_tests, y) in omega (arith, x, z)

    early : n ≤ 2
    early = let y : (3 - n == 0) ≡ false = clear.left in grind (arith, nat_tests, y)

    facts_are : c.facts ≡ facts_behind (opener_facts ResetLun) (take n (bytes_of ResetLun b))
    facts_are = is.facts ∙ reset_facts n old b row
      where
        row : ltb 0 n ≡ true → (old.r1 ≡ a.r1) × (old.r2 ≡ a.r2) × (old.r3 ≡ a.r3)
        row x =
            let y : (3 - n == 0) ≡ false = clear.left in
            let i = now (and_from (ltb 0 n) (ltb n 3) x (grind (arith, nat_tests, y))) in
            let reaches : ltb 2 (from + count) ≡ true = grind (arith, nat_tests, x, begins) in
            let there = i.bytes (let z : ltb 2 (2 + n) ≡ true = grind (arith, nat_tests, x) in z) in
            same_bytes _ old.r1 old.r2 old.r3 a.r1 a.r2 a.r3 there (a.bytes reaches)

    scene_is : c ≡ reset_scene b c.view c.sole n
    scene_is = (λ i. record { facts = facts_are i; view = c.view; sole = c.sole }) ∙ sym (early_scene b c.view c.sole n early)

    steps : Steps s.geometry j.lun.lun (take count (drop from (all_bytes b))) c (reset_scene b c.view c.sole (n + count))
    steps =
        subst (λ (m : ℕ). Steps g j.lun.lun (take count (drop m (all_bytes b))) c (reset_scene b c.view c.sole (n + count))) (sym begins)
        (subst (λ (x : Scene). Steps g j.lun.lun (take count (drop n (bytes_of ResetLun b))) x (reset_scene b c.view c.sole (n + count))) (sym scene_is)
        (many g j.lun.lun (reset_scene b c.view c.sole) (bytes_of ResetLun b) count n few
        (λ i low high. reset_steps g j b c.view c.sole i (omega (arith, high, few)) (λ e. a.row (let x : ltb 2 (from + count) ≡ true = grind (arith, nat_tests, high, begins, e) in x)))))

    at : (x : Bool) → (n + count == 3) ≡ x → ResetGoes s j v c done from count n (take count (drop from (all_bytes b)))
    at true e =
        let three : n + count ≡ 3 = eqb-true (n + count) 3 e in
        let left = either_reset g v from count n true e in
        let next : Scene = record { facts = facts_behind (opener_facts ResetLun) (take 3 (bytes_of ResetLun b)); view = view_after ResetStarted c.view; sole = false } in
        record {
          next = next;
          steps = subst (λ (m : ℕ). Steps g j.lun.lun (take count (drop from (all_bytes b))) c (reset_scene b c.view c.sole m)) three steps;
          registers = ap (λ (y : State). y.registers) left;
          tail = subst (λ (y : State). TailFits g j y.target (now_of j done) next.facts) (sym left) (closed_fits g j None None None (now_of j done) next.facts refl);
          shows = subst (λ (y : State). ShowsFit y.target.shows next) (sym left) tt;
          lun = subst (λ (y : State). LunFits g j y.lun (index_now j.base done) next.view) (sym left) (reset_fits g j v (index_now j.base done) c.view);
        }
    at false e =
        let two : n + count ≤ 2 = let f = few in grind (arith, nat_tests, e, f) in
        let left = either_reset g v from count n false e in
        let next : Scene = record { facts = facts_behind (opener_facts ResetLun) (take (n + count) (bytes_of ResetLun b)); view = c.view; sole = c.sole } in
        record {
          next = next;
          steps = subst (λ (x : Scene). Steps g j.lun.lun (take count (drop from (all_bytes b))) c x) (early_scene b c.view c.sole (n + count) two) steps;
          registers = ap (λ (y : State). y.registers) left;
          tail = subst (λ (y : State). TailFits g j y.target (now_of j done) next.facts) (sym left)
              (record {
                place = After ResetLun (n + count);
                here = ap (address_leads_to count) here ∙ few_is ResetLun (n + count) (omega (arith, two));
                address = b;
                is = record { place = grind (arith, nat_tests, two); facts = refl };
                now = λ x. record { column = refl; bytes = λ y. a.bytes (let z : ltb 2 (from + count) ≡ true = grind (arith, nat_tests, begins, y) in z) };
                column = λ x. cc;
                row = λ x. cc;
                named = λ x. cc;
                single = λ x. cc;
              });
          shows = subst (λ (y : State). ShowsFit y.target.shows next) (sym left) (shows_kept v.target.shows c next (λ e. e) refl f.shows);
          lun = subst (λ (y : State). LunFits g j y.lun (index_now j.base done) next.view) (sym left) f.lun;
        }

-- where the tail is in the address of FAh
record ResetPlace (p : Place) : Type 0 where
  n : ℕ
  is : p ≡ After ResetLun n

reset_place : (p : Place) → resets_lun p ≡ true → ResetPlace p
reset_place (After ResetLun n) h = record { n = n; is = refl }
reset_place (After o n) h = cc
reset_place Closed h = cc
reset_place InData h = cc
reset_place (InColumn n) h = cc
reset_place (InFeatures n) h = cc
reset_place Unknown h = cc

pub sound_lun_reset : (s : Channel) (j : Job) (k : KnownJob s j) (v : State) (past : List Item) (c : Scene) (done : List Done) (rest : List Line) (at from count : ℕ) → IsScene s j.lun past c → Fits s.geometry j v done c true → NoReasons s.geometry j.text v (AddressWord from count) → takes_identity_at v.target.tail ≡ false → resets_lun v.target.tail ≡ true → accepts s.geometry (bounds_of j.text) None (state_after s.geometry v (AddressWord from count)) rest ≡ true → SoundWord s j past done rest at (AddressWord from count)
unfolding state_after breaks_cycle_forbidden breaks_address_unaligned breaks_row_or_plane_outside breaks_column_too_large
sound_lun_reset s j k v past c done rest at from count scene f clear plainly resets acc = by (f.tail refl)
  where
    g : Parts
    g = s.geometry

    here : ResetPlace v.target.tail
    here = reset_place v.target.tail resets

    a : AddressNow s.geometry j done from count
    a = address_now s j k v done from count f.registers clear.no_row_or_plane_outside

    left : address_leaves_at s.geometry v from count v.target.tail ≡ lun_reset s.geometry v from count here.n
    left = ap (address_leaves_at s.geometry v from count) here.is

    none : (test : Place → Bool) → test v.target.tail ≡ false → test (After ResetLun here.n) ≡ false
    none test h = ap test (sym here.is) ∙ h

    by : TailFits s.geometry j v.target (now_of j done) c.facts → SoundWord s j past done rest at (AddressWord from count)
    by t =
        let place : t.place ≡ After ResetLun here.n = sym t.here ∙ here.is in
        let go = goes_reset s j v c done from count here.n t.address a f
        (place_clear g j v done from count (After ResetLun here.n) f.registers refl (none (address_out_of_place g v from count) clear.no_cycle_forbidden) (none (begins_elsewhere from) clear.no_address_unaligned) (none (column_past g v from count) clear.no_column_too_large))
        here.is
        (subst (λ (p : Place). PlaceIs p t.address c.facts) place t.is)
        (subst (λ (p : Place). holds_address p ≡ true → IsNow g j t.address (now_of j done) p) place t.now) in
        let bytes = take count (drop from (all_bytes (of_now g j done from count a))) in
        plain_sound s j k v past c done rest at (AddressWord from count) (gives Adr bytes) refl scene f.registers clear (ap (λ (o : Option (List ℕ)). and_then o (λ xs. Some (gives Adr xs))) (address_bytes g j done from count a)) go.steps.allowed refl
        (λ answer.
        subst (λ (x : Scene). Fits g j (state_after g v (AddressWord from count)) (record { word = AddressWord from count; answer = answer } ∷ done) x true) (sym go.steps.leads)
        (subst (λ (x : State). Fits g j (with_registers x (paid count x.registers)) (record { word = AddressWord from count; answer = answer } ∷ done) go.next true) (sym left)
        (record {
          registers = subst (λ (r : Registers). RegistersFit g j (paid count r) (record { word = AddressWord from count; answer = answer } ∷ done)) (sym go.registers) (unmoved g j v v.registers.place v.registers.polled done (AddressWord from count) answer f.registers clear (record { column = λ n. refl; plane = λ n. refl; index = λ b n. refl }) f.registers.place);
          tail = λ e. go.tail;
          free = λ e. cc;
          shows = go.shows;
          lun = go.lun;
        })))
        acc
