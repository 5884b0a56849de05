-- The one address of 90h or ECh, where nothing is against it, goes, and what it reads is mirrored.
use Rattle.std.proofs.lemmas.Bool.Decides.{nat_tests}
use Rattle.std.proofs.Common.{◌≡◌, ℕ, ◌≤◌, ◌==◌, Bool, true, false, cond, nat_le, List, [], ◌∷◌, Option, Some, refl, sym, ap, ◌∙◌, subst, arith}
use Rattle.nand_geometry.specs.declared.parts.Parts.{Parts}
use Rattle.onfi_cycle.specs.declared.command.Command.{Command}
use Rattle.onfi_cycle.specs.declared.command.Command.TheVariants.{ReadId, ReadParameterPage, ChangeWriteColumn, ProgramConfirm, ProgramPlane, ProgramCache}
use Rattle.onfi_cycle.specs.declared.effect.Effect.{Effect}
use Rattle.onfi_cycle.specs.declared.effect.Effect.TheVariants.{IdRead, ParameterPageReadStarted}
use Rattle.onfi_cycle.specs.declared.item.Kind.TheVariants.{Adr}
use Rattle.onfi_cycle.specs.declared.target_cycle.TargetCycle.TheVariants.{AddressCycle}
use Rattle.onfi_cycle.specs.Sequence.{facts_after, wants_command}
use Rattle.onfi_cycle.specs.Lun.{view_after}
use Rattle.onfi_cycle.specs.LunView.{LunView}
use Rattle.onfi_cycle.specs.Channel.{Channel}
use Rattle.micro_word.specs.declared.word.Word.TheVariants.{Address as AddressWord}
use Rattle.micro_word.specs.Text.{Microprogram}
use Rattle.micro_claims.specs.declared.state.State.{State}
use Rattle.micro_claims.specs.declared.place.Place.TheVariants.{After}
use Rattle.micro_claims.specs.Spans.{greatest_bound}
use Rattle.micro_claims.specs.Against.{byte_of_column}
use Rattle.micro_claims.specs.Leaves.{with_registers, paid, id_held, beside_read, address_leaves_at}
use Rattle.micro_claims.specs.Accepts.{state_after}
use Rattle.micro_program.specs.Moves.{address, gives, and_then}
use Rattle.micro_program.specs.Program.{Job, Answer, column_now}
use Rattle.micro_claims.proofs.Fits.{opener_facts}
use Rattle.micro_claims.proofs.Identities.{identity_bytes}
use Rattle.micro_verify.specs.Lazy.{lone_job, Run}
use Rattle.micro_verify.proofs.Lone.{Lone, IsLone, lone_behind, judged}
use Rattle.micro_verify.proofs.Mirrors.{Mirrors, RegistersMirror, Shut}
use Rattle.micro_verify.proofs.Causes.{Goes, IsFit}
use Rattle.micro_verify.proofs.WordsExact.{goes_by, registers_exact, shut_tail}
use Rattle.micro_verify.proofs.AddressIdentity.{asked, asks, base_identity, identity_judged}
use Rattle.micro_claims.proofs.Programs.{identified_programs}

id_shut : (byte : ℕ) → Shut (facts_after (AddressCycle byte) (opener_facts ReadId))
id_shut byte = record { closed = refl; address = λ b. refl; command = none }
  where
    none : (d : Command) → wants_command (facts_after (AddressCycle byte) (opener_facts ReadId)) d ≡ false
    none ChangeWriteColumn = refl
    none ProgramConfirm = refl
    none ProgramPlane = refl
    none ProgramCache = refl
    none _ = refl

parameters_shut : (byte : ℕ) → Shut (facts_after (AddressCycle byte) (opener_facts ReadParameterPage))
parameters_shut byte = record { closed = refl; address = λ b. refl; command = none }
  where
    none : (d : Command) → wants_command (facts_after (AddressCycle byte) (opener_facts ReadParameterPage)) d ≡ false
    none ChangeWriteColumn = refl
    none ProgramConfirm = refl
    none ProgramPlane = refl
    none ProgramCache = refl
    none _ = refl

-- the one byte of the word
one_byte : (s : Channel) (text : Microprogram) (r : Run) (from count : ℕ) → count ≡ 1 → from ≤ 1 → address s.geometry (lone_job s.geometry text) r.done from count ≡ Some (byte_of_column from (column_now r.done) ∷ [])
one_byte s text r from count one low = ap (address s.geometry (lone_job s.geometry text) r.done from) one ∙ identity_bytes s.geometry (lone_job s.geometry text) r.done from low

-- the registers stay, but for the cost
registers_still : (g : Parts) (v : State) (r : Run) (from count : ℕ) (answer : Answer) → RegistersMirror g v.registers r.done → RegistersMirror g (paid count v.registers) (record { word = AddressWord from count; answer = answer } ∷ r.done)
registers_still g v r from count answer m = registers_exact g v.registers v.registers.polled r.done (AddressWord from count) answer (record { column = λ n. refl; plane = λ n. refl; index = λ b n. refl }) (λ n. refl) m

-- what the LUN and the tail are after the byte
abbrev read_after : Command → Effect → (byte : ℕ) → LunView → Lone
read_after o effect byte view = record { facts = facts_after (AddressCycle byte) (opener_facts o); view = view_after effect view }

abbrev byte_now : Run → (from : ℕ) → ℕ
byte_now r from = byte_of_column from (column_now r.done)

-- the claim mirrors what is read, so that the word goes
goes_identity : (s : Channel) (text : Microprogram) (v : State) (r : Run) (c : Lone) (o : Command) (effect : Effect) (after : State) (from count n : ℕ)
    → IsFit s text → IsLone s r.past c → c ≡ asked o c.view → v.target.tail ≡ After o n → count ≡ 1 → from ≤ 1
    → asks o ≡ true → base_identity o (byte_now r from) ≡ true
    → lone_behind s.geometry (AddressCycle (byte_now r from)) (asked o c.view) ≡ read_after o effect (byte_now r from) c.view
    → address_leaves_at s.geometry v from count (After o n) ≡ after
    → ((answer : Answer) → Mirrors s.geometry (lone_job s.geometry text) (with_registers after (paid count after.registers)) (record { word = AddressWord from count; answer = answer } ∷ r.done) (read_after o effect (byte_now r from) c.view))
    → Goes s text (state_after s.geometry v (AddressWord from count)) r (AddressWord from count)
unfolding state_after
goes_identity s text v r c o effect after from count n k is here single one low reads takes read left mirrors =
    goes_by s text (state_after g v (AddressWord from count)) r (AddressWord from count) (gives Adr (byte ∷ [])) r.past c k.alone
    (ap (λ (o : Option (List ℕ)). and_then o (λ xs. Some (gives Adr xs))) (one_byte s text r from count one low)) refl is
    (ap (λ (x : Lone). judged g x (AddressCycle byte)) here ∙ identity_judged g o c.view byte reads takes, tt)
    (λ answer. subst (λ (x : Lone). Mirrors g j (state_after g v (AddressWord from count)) (record { word = AddressWord from count; answer = answer } ∷ r.done) x) (sym (ap (lone_behind g (AddressCycle byte)) here ∙ read))
    (subst (λ (x : State). Mirrors g j (with_registers x (paid count x.registers)) (record { word = AddressWord from count; answer = answer } ∷ r.done) (read_after o effect byte c.view)) (sym (ap (address_leaves_at g v from count) single ∙ left))
    (mirrors answer)))
  where
    g : Parts
    g = s.geometry

    j : Job
    j = lone_job g text

    byte : ℕ
    byte = byte_now r from

-- the column of the claim is the column
column_lo : (g : Parts) (v : State) (r : Run) → RegistersMirror g v.registers r.done → v.registers.column.lo ≡ column_now r.done
column_lo g v r m =
    let low = m.column_low in
    let few : nat_le (column_now r.done) greatest_bound ≡ true = grind (arith, nat_tests, low) in
    m.column.lo ∙ ap (λ (b : Bool). cond b (column_now r.done) greatest_bound) few

-- 90h with the address 20 reads the identifier
id_left : (v : State) (from n : ℕ) → v.registers.column.lo ≡ n → (byte_of_column from n == 0x20) ≡ true → beside_read v.lun.busy (id_held (byte_of_column from v.registers.column.lo)) v ≡ beside_read v.lun.busy (record { 0 = 4 }) v
id_left v from n e takes =
    ap (λ (m : ℕ). beside_read v.lun.busy (id_held (byte_of_column from m)) v) e
    ∙ ap (λ (b : Bool). beside_read v.lun.busy (cond b (record { 0 = 4 }) (cond (byte_of_column from n == 0x40) (record { 0 = 16 }) (record { 0 = 8 }))) v) takes

pub goes_id : (s : Channel) (text : Microprogram) (v : State) (r : Run) (c : Lone) (from count n : ℕ) → IsFit s text → IsLone s r.past c → Mirrors s.geometry (lone_job s.geometry text) v r.done c → c ≡ asked ReadId c.view → v.target.tail ≡ After ReadId n → count ≡ 1 → from ≤ 1 → base_identity ReadId (byte_of_column from (column_now r.done)) ≡ true → Goes s text (state_after s.geometry v (AddressWord from count)) r (AddressWord from count)
goes_id s text v r c from count n k is m here single one low takes =
    goes_identity s text v r c ReadId IdRead (beside_read v.lun.busy (record { 0 = 4 }) v) from count n k is here single one low refl takes (rw takes refl) (id_left v from (column_now r.done) (column_lo s.geometry v r m.registers) takes)
    (λ answer. record {
      registers = registers_still s.geometry v r from count answer m.registers;
      tail = shut_tail s.geometry (lone_job s.geometry text) (beside_read v.lun.busy (record { 0 = 4 }) v) r.done (read_after ReadId IdRead (byte_now r from) c.view) refl (id_shut (byte_now r from));
      shows = refl;
      lun = record { busy = m.lun.busy; register = refl; known = refl; column = λ e. record { at = 0; is = refl; bound = refl; read = refl }; no_column = λ e. cc; queue = m.lun.queue; last = refl; caching = refl; other = refl; read = λ e. cc; cached_page = λ e. cc; cached_index = λ e. cc; held = λ e. cc; programming = refl; no_program = identified_programs c.view.busy };
      along = λ e. cc;
    })

pub goes_parameters : (s : Channel) (text : Microprogram) (v : State) (r : Run) (c : Lone) (from count n : ℕ) → IsFit s text → IsLone s r.past c → Mirrors s.geometry (lone_job s.geometry text) v r.done c → c ≡ asked ReadParameterPage c.view → v.target.tail ≡ After ReadParameterPage n → count ≡ 1 → from ≤ 1 → base_identity ReadParameterPage (byte_of_column from (column_now r.done)) ≡ true → Goes s text (state_after s.geometry v (AddressWord from count)) r (AddressWord from count)
goes_parameters s text v r c from count n k is m here single one low takes =
    goes_identity s text v r c ReadParameterPage ParameterPageReadStarted (beside_read true (record { 0 = 2 }) v) from count n k is here single one low refl takes (rw takes refl) refl
    (λ answer. record {
      registers = registers_still s.geometry v r from count answer m.registers;
      tail = shut_tail s.geometry (lone_job s.geometry text) (beside_read true (record { 0 = 2 }) v) r.done (read_after ReadParameterPage ParameterPageReadStarted (byte_now r from) c.view) refl (parameters_shut (byte_now r from));
      shows = refl;
      lun = record { busy = refl; register = refl; known = refl; column = λ e. record { at = 0; is = refl; bound = refl; read = refl }; no_column = λ e. cc; queue = m.lun.queue; last = refl; caching = refl; other = refl; read = λ e. cc; cached_page = λ e. cc; cached_index = λ e. cc; held = λ e. cc; programming = refl; no_program = refl };
      along = λ e. cc;
    })
