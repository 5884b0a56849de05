-- The address of the registers, where a tail has begun it: what the tail has of it, and how its next cycles go.
use Rattle.std.proofs.lemmas.Bool.Decides.{nat_tests}
use Rattle.micro_claims.specs.declared.place.Place.TheVariants.{After}
use Rattle.micro_claims.specs.Against.{first_address}
use Rattle.std.proofs.Common.{◌≡◌, ℕ, zero, suc, ◌+◌, ◌≤◌, ◌<◌, Bool, true, false, ◌&&◌, cond, ltb, nat_le, List, [], ◌∷◌, refl, sym, ap, ◌∙◌, arith, take, eq-eqb}
use Rattle.std.proofs.lemmas.Bool.{and_from}
use Rattle.nand_geometry.specs.declared.parts.Parts.{Parts}
use Rattle.nand_geometry.specs.declared.row_parts.RowParts.{RowParts}
use Rattle.nand_geometry.specs.Limits.{InLimits, planes, indices}
use Rattle.onfi_cycle.specs.declared.command.Command.{Command}
use Rattle.onfi_cycle.specs.declared.command.Command.TheVariants.{Read, ChangeReadColumn, BlockErase, PageProgram}
use Rattle.onfi_cycle.specs.declared.tail_facts.TailFacts.{TailFacts}
use Rattle.onfi_cycle.specs.LunView.{LunView}
use Rattle.onfi_cycle.specs.Lun.{view_after}
use Rattle.onfi_cycle.specs.declared.effect.Effect.TheVariants.{ProgramAddressed}
use Rattle.onfi_cycle.specs.Command.{address_cycles, at_last_row}
use Rattle.onfi_cycle.specs.Effect.{is_off}
use Rattle.micro_program.specs.Program.{Job, Done, column_now, index_now, plane_now}
use Rattle.micro_program.proofs.Below.{rows}
use Rattle.micro_claims.proofs.Fits.{Address, bytes_of, opener_facts, facts_behind, RowIs, Opened, IsNow, now_of}
use Rattle.micro_claims.proofs.Addressing.{AddressNow, of_now, same_facts, same_bytes}
use Rattle.micro_claims.proofs.AddressSteps.{nth}
use Rattle.micro_verify.proofs.Lone.{lone_behind}
use Rattle.onfi_cycle.specs.declared.target_cycle.TargetCycle.TheVariants.{AddressCycle}
use Rattle.micro_verify.proofs.AddressesJudged.{view_at, cursor, RowThere, IsJudged, read_judged, program_judged, erase_judged, change_judged, read_leads, program_leads, erase_leads, change_leads}

-- 1. the address of the registers

-- the address of the registers, where its row is inside or isn't needed
pub address_there : (g : Parts) (j : Job) (done : List Done) (from count : ℕ) → InLimits g → j.lun.lun < g.luns → (ltb 2 (from + count) ≡ true → (index_now j.base done < indices g) × (plane_now done < planes g)) → AddressNow g j done from count
address_there g j done from count limits there inside = at (ltb 2 (from + count)) refl
  where
    at : (b : Bool) → ltb 2 (from + count) ≡ b → AddressNow g j done from count
    at true e =
        let low = inside e in
        let r = rows g j.lun.lun (index_now j.base done) (plane_now done) limits there low.0 low.1 in
        record { r1 = r.r1; r2 = r.r2; r3 = r.r3; bytes = λ x. r.there; row = λ x. record { low = low.1; reads = r.back; inside = r.inside } }
    at false e = record { r1 = 0; r2 = 0; r3 = 0; bytes = λ x. let both : true ≡ false = sym x ∙ e in cc; row = λ x. let both : true ≡ false = sym x ∙ e in cc }

-- its row is of the only LUN
pub row_there : (g : Parts) (j : Job) (a : Address) → j.lun.lun ≡ 0 → RowIs g j a → RowThere g a
row_there g j a zero_lun r = record { inside = r.inside; lun = ap (λ (p : RowParts). p.lun) r.reads ∙ zero_lun }

-- 2. one cycle of an opener's address

-- the openers whose addresses carry the registers
abbrev pub carries_registers : Command → Bool
carries_registers Read = true
carries_registers ChangeReadColumn = true
carries_registers BlockErase = true
carries_registers PageProgram = true
carries_registers _ = false

abbrev pub changes_column : Command → Bool
changes_column ChangeReadColumn = true
changes_column _ = false

-- before its last row cycle the LUN is as it was
pub view_early : (o : Command) (view : LunView) (i : ℕ) → carries_registers o ≡ true → i < address_cycles o → view_at o view i ≡ view
view_early Read view i carries few = refl
view_early ChangeReadColumn view i carries few = refl
view_early BlockErase view i carries few = refl
view_early PageProgram view i carries few = let early : nat_le 5 i ≡ false = grind (arith, nat_tests, few) in ap (λ (b : Bool). cond b (view_after ProgramAddressed view) view) early
view_early _ view i carries few = cc

-- each of its cycles is judged by its rule, and leads to the next
pub record Goes (g : Parts) (o : Command) (a : Address) (view : LunView) (i : ℕ) : Type 0 where
  pub judged_is : IsJudged g o a view i
  pub leads : lone_behind g (AddressCycle (nth i (bytes_of o a))) (cursor o a view i) ≡ cursor o a view (suc i)

pub address_goes : (g : Parts) (o : Command) (a : Address) (view : LunView) (i : ℕ) → carries_registers o ≡ true → i < address_cycles o → (at_last_row o i ≡ true → RowThere g a) → (changes_column o ≡ true → is_off view.latch ≡ false) → Goes g o a view i
address_goes g Read a view i carries few row shown = record { judged_is = read_judged g a view i (omega (arith, few)) (λ e. row (eq-eqb i 4 e)); leads = read_leads g a view i (omega (arith, few)) }
address_goes g PageProgram a view i carries few row shown = record { judged_is = program_judged g a view i (omega (arith, few)) (λ e. row (eq-eqb i 4 e)); leads = program_leads g a view i (omega (arith, few)) (λ e. row (eq-eqb i 4 e)) }
address_goes g BlockErase a view i carries few row shown = record { judged_is = erase_judged g a view i (omega (arith, few)) (λ e. row (eq-eqb i 2 e)); leads = erase_leads g a view i (omega (arith, few)) }
address_goes g ChangeReadColumn a view i carries few row shown = record { judged_is = change_judged g a view i (omega (arith, few)) (shown refl); leads = change_leads g a view i (omega (arith, few)) }
address_goes g _ a view i carries few row shown = cc

-- 3. what the tail has of it

-- some of the addresses have come as the registers are now
abbrev IsBegun : Parts → Job → List Done → Address → Command → ℕ → Type 0
IsBegun g j done old o n = (ltb 0 n && ltb n (address_cycles o)) ≡ true → IsNow g j old (now_of j done) (After o n)

started : (g : Parts) (j : Job) (done : List Done) (from count n cycles : ℕ) (o : Command) (old : Address) (now : AddressNow g j done from count) → cycles ≡ address_cycles o → n < cycles → from ≡ 0 + n → 1 ≤ count → first_address o ≡ 0 → IsBegun g j done old o n → (ltb 0 n ≡ true → old.column ≡ column_now done) × (ltb 2 n ≡ true → (old.r1 ≡ now.r1) × (old.r2 ≡ now.r2) × (old.r3 ≡ now.r3))
started g j done from count n cycles o old now is_cycles few begins some first begun = (λ x. (begun (inside x)).column, λ y. let x : ltb 0 n ≡ true = grind (arith, nat_tests, y) in let i = begun (inside x) in let place : ltb 2 (first_address o + n) ≡ true = ap (λ (m : ℕ). ltb 2 (m + n)) first ∙ (let z : ltb 2 (0 + n) ≡ true = grind (arith, nat_tests, y) in z) in same_bytes _ old.r1 old.r2 old.r3 now.r1 now.r2 now.r3 (i.bytes place) (now.bytes (let z : ltb 2 (from + count) ≡ true = grind (arith, nat_tests, y, begins) in z)))
  where
    inside : ltb 0 n ≡ true → (ltb 0 n && ltb n (address_cycles o)) ≡ true
    inside x = and_from (ltb 0 n) (ltb n (address_cycles o)) x (let z : n < address_cycles o = omega (arith, few, is_cycles) in grind (arith, nat_tests, z))

erase_facts : (n : ℕ) (a b : Address) → (ltb 0 n ≡ true → (a.r1 ≡ b.r1) × (a.r2 ≡ b.r2) × (a.r3 ≡ b.r3)) → facts_behind (opener_facts BlockErase) (take n (bytes_of BlockErase a)) ≡ facts_behind (opener_facts BlockErase) (take n (bytes_of BlockErase b))
erase_facts zero a b r = refl
erase_facts (suc n) a b r =
    let row = r (let y : ltb 0 (suc n) ≡ true = grind (arith, nat_tests) in y) in
    λ i. facts_behind (opener_facts BlockErase) (take (suc n) (row.0 i ∷ (row.1 i ∷ (row.2 i ∷ []))))

-- the facts of the tail are those of the address of the registers as they are now
pub facts_now : (g : Parts) (j : Job) (done : List Done) (from count n : ℕ) (o : Command) (old : Address) (t : TailFacts) (now : AddressNow g j done from count) → carries_registers o ≡ true → n < address_cycles o → from ≡ first_address o + n → 1 ≤ count → Opened o n old t → IsBegun g j done old o n → t ≡ facts_behind (opener_facts o) (take n (bytes_of o (of_now g j done from count now)))
facts_now g j done from count n Read old t now carries few begins some is begun = let s = started g j done from count n 5 Read old now refl few begins some refl begun in is.facts ∙ same_facts (opener_facts Read) n old (of_now g j done from count now) s.0 s.1
facts_now g j done from count n PageProgram old t now carries few begins some is begun = let s = started g j done from count n 5 PageProgram old now refl few begins some refl begun in is.facts ∙ same_facts (opener_facts PageProgram) n old (of_now g j done from count now) s.0 s.1
facts_now g j done from count n ChangeReadColumn old t now carries few begins some is begun = let s = started g j done from count n 2 ChangeReadColumn old now refl few begins some refl begun in is.facts ∙ same_facts (opener_facts ChangeReadColumn) n old (of_now g j done from count now) s.0 s.1
facts_now g j done from count n BlockErase old t now carries few begins some is begun = is.facts ∙ erase_facts n old (of_now g j done from count now) row
  where
    row : ltb 0 n ≡ true → (old.r1 ≡ now.r1) × (old.r2 ≡ now.r2) × (old.r3 ≡ now.r3)
    row x =
        let i = begun (and_from (ltb 0 n) (ltb n 3) x (let z : n < 3 = few in grind (arith, nat_tests, z))) in
        same_bytes _ old.r1 old.r2 old.r3 now.r1 now.r2 now.r3 (i.bytes (let z : ltb 2 (2 + n) ≡ true = grind (arith, nat_tests, x) in z)) (now.bytes (let z : ltb 2 (from + count) ≡ true = grind (arith, nat_tests, x, begins) in z))
facts_now g j done from count n _ old t now carries few begins some is begun = cc
