-- A status poll: its cycles are own wherever nothing is open, it leaves the LUN's work, and what it shows is the status.
use Rattle.std.proofs.Common.{◌≡◌, ℕ, zero, suc, ◌+◌, ◌<◌, ◌≤◌, ◌==◌, Bool, true, false, ◌||◌, cond, List, [], ◌∷◌, ◌++◌, Some, refl, sym, ap, ◌∙◌, subst, arith, ltb, ltb-true, ltb-false, eq-eqb, eqb-true}
use Rattle.std.proofs.lemmas.Bool.Decides.{nat_tests}
use Rattle.std.proofs.lemmas.Bool.{and_from}
use Rattle.onfi_cycle.proofs.Booleans.{eqb_self}
use Rattle.nand_geometry.specs.declared.parts.Parts.{Parts}
use Rattle.nand_geometry.specs.declared.row_parts.RowParts.{RowParts}
use Rattle.nand_geometry.specs.Limits.{InLimits}
use Rattle.nand_geometry.specs.Row.{row_of, parts_of, ReadsBack}
use Rattle.onfi_cycle.specs.declared.lun.Lun.{Lun}
use Rattle.onfi_cycle.specs.declared.item.Item.{Item}
use Rattle.onfi_cycle.specs.declared.item.Kind.TheVariants.{Cmd, Adr, Dout}
use Rattle.onfi_cycle.specs.declared.latch.Latch.{Latch}
use Rattle.onfi_cycle.specs.declared.latch.Latch.TheVariants.{Off, Status}
use Rattle.onfi_cycle.specs.declared.command.Command.TheVariants.{ReadStatusEnhanced}
use Rattle.onfi_cycle.specs.declared.target_cycle.TargetCycle.{TargetCycle}
use Rattle.onfi_cycle.specs.declared.target_cycle.TargetCycle.TheVariants.{CommandCycle, AddressCycle}
use Rattle.onfi_cycle.specs.declared.read_column.ReadColumn.{ReadColumn}
use Rattle.onfi_cycle.specs.declared.effect.Effect.{Effect}
use Rattle.onfi_cycle.specs.declared.effect.Effect.TheVariants.{SelectedForStatus, Deselected, DataOutput, StatusSelected, StatusOfSelected, Unaffected}
use Rattle.onfi_cycle.specs.Command.{command}
use Rattle.onfi_cycle.specs.Sequence.{tail, facts_of, is_open}
use Rattle.nand_geometry.specs.Optional.{is_wide}
use Rattle.onfi_cycle.specs.Effect.{is_data, is_shared, names_lun, cycle_effect}
use Rattle.onfi_cycle.specs.Lun.{latch, latch_after, works, latch_alone, drivers, drivers_from, is_only, is_busy, read_column, read_column_after, lun_view}
use Rattle.onfi_cycle.specs.Content.{status, shown, status_byte}
use Rattle.onfi_cycle.specs.Channel.{Channel, IsChannel, IsOwn, is_there, is_open_on, is_serving, cycle, byte_of_driver, bus_byte}
use Rattle.micro_program.specs.Program.{Job, is_ready_status}
use Rattle.micro_program.specs.Moves.{Move, Give, Take, poll}
use Rattle.micro_program.specs.Played.{Played, answered, played}
use Rattle.micro_program.specs.Safe.{MovesAreOwn}
use Rattle.micro_program.proofs.Below.{facts, outputs, service}
use Rattle.micro_program.proofs.Basics.{there_lun}
use Rattle.micro_program.proofs.Calm.{Calm, calmer, either_calm, calm_cycle, calm_after, own_effect}
use Rattle.micro_program.proofs.Cycles.{of_no_target, permitted_cycle, tail_more, own_address, own_status, tail_status, own_enhanced, tail_enhanced, judge_enhanced_1, judge_enhanced_2, judge_enhanced_3, judge_output}

-- a status after data was read loses the column
abbrev pub lost : ReadColumn → ReadColumn
lost k = record k { lost = k.lost || ltb 0 k.outputs }

-- the cycles of a poll before its output, and the trace with them
pub record Polling (s : Channel) (j : Job) (past : List Item) : Type 0 where
  pub before : List Move
  pub polled : List Item
  pub moves_are : poll s.geometry j ≡ Some (before ++ (Take ∷ []))
  pub own : is_serving s.geometry past j.lun.ce ≡ false → MovesAreOwn s j.lun (Take ∷ []) polled → MovesAreOwn s j.lun (before ++ (Take ∷ [])) past
  pub free : is_serving s.geometry past j.lun.ce ≡ false → is_serving s.geometry polled j.lun.ce ≡ false
  pub plays : played s j.lun.ce (before ++ (Take ∷ [])) past ≡ played s j.lun.ce (Take ∷ []) polled
  pub answers : (bytes : List ℕ) → answered j.lun.ce (before ++ (Take ∷ [])) bytes past ≡ answered j.lun.ce (Take ∷ []) bytes polled
  pub closed : is_open_on polled j.lun.ce ≡ false
  pub one : is_only (drivers s.geometry polled j.lun.ce) j.lun.lun ≡ true
  pub shows : latch s.geometry polled j.lun ≡ Status
  pub leaves : Calm s.geometry past polled j.lun
  pub column : read_column s.geometry polled j.lun ≡ lost (read_column s.geometry past j.lun)

-- 1. by 70h, where there is one LUN

latch_status : (g : Parts) (past : List Item) (ce n : ℕ) → ltb 1 g.luns ≡ false → latch g (cycle ce Cmd 0x70 ∷ past) (record { ce = ce; lun = n }) ≡ Status
unfolding command
latch_status g past ce n one = at (is_wide g.optional) refl
  where
    at : (w : Bool) → is_wide g.optional ≡ w → latch g (cycle ce Cmd 0x70 ∷ past) (record { ce = ce; lun = n }) ≡ Status
    at true e = rw (eqb_self ce, e, one) refl
    at false e = rw (eqb_self ce, e) refl

calm_status : (g : Parts) (past : List Item) (l : Lun) → Calm g past (cycle l.ce Cmd 0x70 ∷ past) l
unfolding command
calm_status g past l = calm_cycle g past l Cmd 0x70 (either_calm (is_shared g) StatusOfSelected StatusSelected refl refl)

either_lost : (b : Bool) (k : ReadColumn) → read_column_after (cond b StatusOfSelected StatusSelected) k ≡ lost k
either_lost true k = refl
either_lost false k = refl

column_status : (g : Parts) (past : List Item) (l : Lun) → read_column g (cycle l.ce Cmd 0x70 ∷ past) l ≡ lost (read_column g past l)
unfolding command
column_status g past l = ap (λ (e : Effect). read_column_after e (read_column g past l)) (own_effect g past l Cmd 0x70) ∙ either_lost (is_shared g) (read_column g past l)

polling_by_70 : (s : Channel) (j : Job) (past : List Item) → ltb 1 s.geometry.luns ≡ false → is_there s j.lun ≡ true → is_open_on past j.lun.ce ≡ false → Polling s j past
polling_by_70 s j past several there closed =
    record {
      before = Give Cmd 0x70 ∷ [];
      polled = cycle j.lun.ce Cmd 0x70 ∷ past;
      moves_are = rw several refl;
      own = λ free last. (own_status s j.lun past there several closed, last);
      free = λ free. service.own s.geometry past (cycle j.lun.ce Cmd 0x70) j.lun j.lun.ce (own_status s j.lun past there several closed).own free;
      plays = refl;
      answers = λ bytes. refl;
      closed = subst (λ (t : List TargetCycle). is_open (facts_of t) ≡ false) (sym (tail_status past j.lun.ce)) refl;
      one = subst (λ (n : ℕ). is_only (drivers_from (λ m. latch s.geometry (cycle j.lun.ce Cmd 0x70 ∷ past) (record { ce = j.lun.ce; lun = m })) n 0) j.lun.lun ≡ true) (sym one) (rw (latch_status s.geometry past j.lun.ce 0 several) zero_is);
      shows = latch_status s.geometry past j.lun.ce j.lun.lun several;
      leaves = calm_status s.geometry past j.lun;
      column = column_status s.geometry past j.lun;
    }
  where
    below : j.lun.lun < s.geometry.luns
    below = there_lun s j.lun there

    one : s.geometry.luns ≡ 1
    one = let most : s.geometry.luns ≤ 1 = ltb-false 1 s.geometry.luns several in let b : j.lun.lun < s.geometry.luns = below in omega arith

    zero_is : (0 == j.lun.lun) ≡ true
    zero_is = eq-eqb 0 j.lun.lun (let b : j.lun.lun < s.geometry.luns = below in let o : s.geometry.luns ≡ 1 = one in let x : 0 ≡ j.lun.lun = omega arith in x)

-- 2. by 78h and a row of the LUN, where there are several

calm_enhanced : (g : Parts) (past : List Item) (l : Lun) → Calm g past (cycle l.ce Cmd 0x78 ∷ past) l
unfolding command
calm_enhanced g past l = calm_cycle g past l Cmd 0x78 refl

picked : (b p q : Bool) (before : Latch) → latch_after (cond b SelectedForStatus Deselected) p q before ≡ cond b Status Off
picked true p q before = refl
picked false p q before = refl

latch_enhanced : (g : Parts) (past : List Item) (ce n r1 r2 r3 : ℕ) → tail past ce ≡ AddressCycle r2 ∷ (AddressCycle r1 ∷ (CommandCycle ReadStatusEnhanced ∷ [])) → latch g (cycle ce Adr r3 ∷ past) (record { ce = ce; lun = n }) ≡ cond ((parts_of g (row_of r1 r2 r3)).lun == n) Status Off
latch_enhanced g past ce n r1 r2 r3 e =
    let v = lun_view g past (record { ce = ce; lun = n }) in
    rw (eqb_self ce)
    (subst (λ (u : List TargetCycle). latch_after (cycle_effect g (facts_of u) v.latch (AddressCycle r3) n) v.selected (works v) v.latch ≡ cond ((parts_of g (row_of r1 r2 r3)).lun == n) Status Off) (sym e)
    (picked ((parts_of g (row_of r1 r2 r3)).lun == n) v.selected (works v) v.latch))

-- where one number alone is on, it is the one driver
none_from : (latches : ℕ → Latch) (k : ℕ) → ((m : ℕ) → latches m ≡ cond (k == m) Status Off) → (count n : ℕ) → k < n → drivers_from latches count n ≡ []
none_from latches k h zero n below = refl
none_from latches k h (suc count) n below =
    let differs : (k == n) ≡ false = grind (arith, nat_tests) in
    let after : k < n + 1 = omega arith in
    rw (h n, differs) (none_from latches k h count (n + 1) after)

only_from : (latches : ℕ → Latch) (k : ℕ) → ((m : ℕ) → latches m ≡ cond (k == m) Status Off) → (count n : ℕ) → n ≤ k → k < n + count → is_only (drivers_from latches count n) k ≡ true
only_from latches k h zero n low high = absurd (omega arith)
only_from latches k h (suc count) n low high = at (k == n) refl (only_from latches k h count (n + 1))
  where
    at : (b : Bool) → (k == n) ≡ b → (n + 1 ≤ k → k < n + 1 + count → is_only (drivers_from latches count (n + 1)) k ≡ true) → is_only (drivers_from latches (suc count) n) k ≡ true
    at true e ih =
        let same : k ≡ n = eqb-true k n e in
        let after : k < n + 1 = omega arith in
        rw (h n, e, none_from latches k h count (n + 1) after) (eq-eqb n k (sym same))
    at false e ih =
        let low_more : n + 1 ≤ k = grind (arith, nat_tests) in
        let high_more : k < n + 1 + count = omega arith in
        rw (h n, e) (ih low_more high_more)

column_enhanced : (g : Parts) (past : List Item) (l : Lun) → read_column g (cycle l.ce Cmd 0x78 ∷ past) l ≡ lost (read_column g past l)
unfolding command
column_enhanced g past l = ap (λ (e : Effect). read_column_after e (read_column g past l)) (own_effect g past l Cmd 0x78)

-- an address of 78h leaves the column
column_address : (g : Parts) (past : List Item) (l : Lun) (byte : ℕ) (t : List TargetCycle) → tail past l.ce ≡ t → ((x : Latch) (k : ReadColumn) → read_column_after (cycle_effect g (facts_of t) x (AddressCycle byte) l.lun) k ≡ k) → read_column g (cycle l.ce Adr byte ∷ past) l ≡ read_column g past l
column_address g past l byte t e h =
    ap (λ (x : Effect). read_column_after x (read_column g past l)) (own_effect g past l Adr byte) ∙
    (ap (λ (u : List TargetCycle). read_column_after (cycle_effect g (facts_of u) (latch_alone g past l) (AddressCycle byte) l.lun) (read_column g past l)) e ∙ h (latch_alone g past l) (read_column g past l))

either_column : (b : Bool) (k : ReadColumn) → read_column_after (cond b SelectedForStatus Deselected) k ≡ k
either_column true k = refl
either_column false k = refl

polling_by_78 : (s : Channel) (j : Job) (past : List Item) → InLimits s.geometry → ReadsBack s.geometry j.lun.lun 0 0 → ltb 1 s.geometry.luns ≡ true → is_there s j.lun ≡ true → is_open_on past j.lun.ce ≡ false → Polling s j past
polling_by_78 s j past limits row several there closed =
    record {
      before = Give Cmd 0x78 ∷ (Give Adr row.r1 ∷ (Give Adr row.r2 ∷ (Give Adr row.r3 ∷ [])));
      polled = p4;
      moves_are = rw (several, row.there) refl;
      own = λ free last. (own_enhanced s j.lun past there enhanced closed free, (own_address s j.lun p1 row.r1 (CommandCycle ReadStatusEnhanced ∷ []) there t1 (judge_enhanced_1 s.geometry _ row.r1) refl refl, (own_address s j.lun p2 row.r2 (AddressCycle row.r1 ∷ (CommandCycle ReadStatusEnhanced ∷ [])) there t2 (judge_enhanced_2 s.geometry _ row.r1 row.r2) refl refl, (own_address s j.lun p3 row.r3 (AddressCycle row.r2 ∷ (AddressCycle row.r1 ∷ (CommandCycle ReadStatusEnhanced ∷ []))) there t3 (judge_enhanced_3 s.geometry _ row.r1 row.r2 row.r3 row.inside) (eq-eqb _ _ named) refl, last))));
      free = λ free.
          service.own s.geometry p3 (cycle j.lun.ce Adr row.r3) j.lun j.lun.ce (own_address s j.lun p3 row.r3 (AddressCycle row.r2 ∷ (AddressCycle row.r1 ∷ (CommandCycle ReadStatusEnhanced ∷ []))) there t3 (judge_enhanced_3 s.geometry _ row.r1 row.r2 row.r3 row.inside) (eq-eqb _ _ named) refl).own
          (service.own s.geometry p2 (cycle j.lun.ce Adr row.r2) j.lun j.lun.ce (own_address s j.lun p2 row.r2 (AddressCycle row.r1 ∷ (CommandCycle ReadStatusEnhanced ∷ [])) there t2 (judge_enhanced_2 s.geometry _ row.r1 row.r2) refl refl).own
          (service.own s.geometry p1 (cycle j.lun.ce Adr row.r1) j.lun j.lun.ce (own_address s j.lun p1 row.r1 (CommandCycle ReadStatusEnhanced ∷ []) there t1 (judge_enhanced_1 s.geometry _ row.r1) refl refl).own
          (service.own s.geometry past (cycle j.lun.ce Cmd 0x78) j.lun j.lun.ce (own_enhanced s j.lun past there enhanced closed free).own free)));
      plays = refl;
      answers = λ bytes. refl;
      closed = subst (λ (t : List TargetCycle). is_open (facts_of t) ≡ false) (sym t4) refl;
      one = only_from (λ m. latch s.geometry p4 (record { ce = j.lun.ce; lun = m })) j.lun.lun (λ m. latch_enhanced s.geometry p3 j.lun.ce m row.r1 row.r2 row.r3 t3 ∙ ap (λ (n : ℕ). cond (n == m) Status Off) named) s.geometry.luns 0 (omega arith) (let b : j.lun.lun < s.geometry.luns = there_lun s j.lun there in omega arith);
      shows = latch_enhanced s.geometry p3 j.lun.ce j.lun.lun row.r1 row.r2 row.r3 t3 ∙ rw (eq-eqb (parts_of s.geometry (row_of row.r1 row.r2 row.r3)).lun j.lun.lun named) refl;
      column =
          column_address s.geometry p3 j.lun row.r3 (AddressCycle row.r2 ∷ (AddressCycle row.r1 ∷ (CommandCycle ReadStatusEnhanced ∷ []))) t3 (λ x k. either_column (names_lun s.geometry (row_of row.r1 row.r2 row.r3) j.lun.lun) k) ∙
          (column_address s.geometry p2 j.lun row.r2 (AddressCycle row.r1 ∷ (CommandCycle ReadStatusEnhanced ∷ [])) t2 (λ x k. refl) ∙
          (column_address s.geometry p1 j.lun row.r1 (CommandCycle ReadStatusEnhanced ∷ []) t1 (λ x k. refl) ∙ column_enhanced s.geometry past j.lun));
      leaves = calmer s.geometry past p1 p4 j.lun c1 (calmer s.geometry p1 p2 p4 j.lun c2 (calmer s.geometry p2 p3 p4 j.lun c3 c4));
    }
  where
    named : (parts_of s.geometry (row_of row.r1 row.r2 row.r3)).lun ≡ j.lun.lun
    named = ap (λ (q : RowParts). q.lun) row.back

    enhanced : s.geometry.enhanced ≡ true
    enhanced = limits.several_enhanced (let b : 1 < s.geometry.luns = ltb-true 1 s.geometry.luns several in omega arith)

    p1 : List Item
    p1 = cycle j.lun.ce Cmd 0x78 ∷ past

    p2 : List Item
    p2 = cycle j.lun.ce Adr row.r1 ∷ p1

    p3 : List Item
    p3 = cycle j.lun.ce Adr row.r2 ∷ p2

    p4 : List Item
    p4 = cycle j.lun.ce Adr row.r3 ∷ p3

    t1 : tail p1 j.lun.ce ≡ CommandCycle ReadStatusEnhanced ∷ []
    t1 = tail_enhanced past j.lun.ce

    t2 : tail p2 j.lun.ce ≡ AddressCycle row.r1 ∷ (CommandCycle ReadStatusEnhanced ∷ [])
    t2 = tail_more p1 j.lun.ce Adr row.r1 (CommandCycle ReadStatusEnhanced ∷ []) t1

    t3 : tail p3 j.lun.ce ≡ AddressCycle row.r2 ∷ (AddressCycle row.r1 ∷ (CommandCycle ReadStatusEnhanced ∷ []))
    t3 = tail_more p2 j.lun.ce Adr row.r2 (AddressCycle row.r1 ∷ (CommandCycle ReadStatusEnhanced ∷ [])) t2

    t4 : tail p4 j.lun.ce ≡ AddressCycle row.r3 ∷ (AddressCycle row.r2 ∷ (AddressCycle row.r1 ∷ (CommandCycle ReadStatusEnhanced ∷ [])))
    t4 = tail_more p3 j.lun.ce Adr row.r3 (AddressCycle row.r2 ∷ (AddressCycle row.r1 ∷ (CommandCycle ReadStatusEnhanced ∷ []))) t3

    c1 : Calm s.geometry past p1 j.lun
    c1 = calm_enhanced s.geometry past j.lun

    c2 : Calm s.geometry p1 p2 j.lun
    c2 = calm_after s.geometry p1 j.lun Adr row.r1 (CommandCycle ReadStatusEnhanced ∷ []) t1 refl

    c3 : Calm s.geometry p2 p3 j.lun
    c3 = calm_after s.geometry p2 j.lun Adr row.r2 (AddressCycle row.r1 ∷ (CommandCycle ReadStatusEnhanced ∷ [])) t2 refl

    c4 : Calm s.geometry p3 p4 j.lun
    c4 = calm_after s.geometry p3 j.lun Adr row.r3 (AddressCycle row.r2 ∷ (AddressCycle row.r1 ∷ (CommandCycle ReadStatusEnhanced ∷ []))) t3 (either_calm (names_lun s.geometry (row_of row.r1 row.r2 row.r3) j.lun.lun) SelectedForStatus Deselected refl refl)

-- 3. either way

pub polling : (s : Channel) (j : Job) (past : List Item) → InLimits s.geometry → ReadsBack s.geometry j.lun.lun 0 0 → is_there s j.lun ≡ true → is_open_on past j.lun.ce ≡ false → Polling s j past
polling s j past limits row there closed = at (ltb 1 s.geometry.luns) refl
  where
    at : (b : Bool) → ltb 1 s.geometry.luns ≡ b → Polling s j past
    at true e = polling_by_78 s j past limits row e there closed
    at false e = polling_by_70 s j past e there closed

-- the output of a poll is own
pub own_output : (s : Channel) (j : Job) (past : List Item) (byte : ℕ) → is_there s j.lun ≡ true → (p : Polling s j past) → IsOwn s j.lun p.polled (cycle j.lun.ce Dout byte)
own_output s j past byte there p =
    record {
      permitted = permitted_cycle s p.polled j.lun Dout byte there (judge_output s.geometry _ _ (lun_view s.geometry p.polled j.lun) p.closed (facts.sole_driver s.geometry p.polled j.lun p.one) (ap is_data p.shows));
      own = and_from _ _ (eqb_self j.lun.ce) (of_no_target (is_shared s.geometry) false _ refl p.one);
    }

-- the cycles of a poll are own
pub own_poll : (s : Channel) (j : Job) (past : List Item) → is_there s j.lun ≡ true → is_serving s.geometry past j.lun.ce ≡ false → (p : Polling s j past) → MovesAreOwn s j.lun (p.before ++ (Take ∷ [])) past
own_poll s j past there free p = p.own free (λ byte. (own_output s j past byte there p, tt))

byte_of_only : (s : Channel) (past : List Item) (l : Lun) (ds : List ℕ) → is_only ds l.lun ≡ true → byte_of_driver s past l.ce ds ≡ shown s.geometry s.parameters s.opening past l
byte_of_only s past l [] h = cc
byte_of_only s past l (d ∷ []) h = ap (λ (n : ℕ). shown s.geometry s.parameters s.opening past (record { ce = l.ce; lun = n })) (eqb-true d l.lun h)
byte_of_only s past l (d ∷ (e ∷ ds)) h = cc

-- the trace after a poll, with the byte that it took
abbrev pub after_output : ℕ → ℕ → List Item → Played
after_output ce byte past = record { past = cycle ce Dout byte ∷ past; bytes = byte ∷ [] }

-- what a poll leaves that is answered by a byte: the work of the LUN as it was, and nothing open
pub record PollLeaves (s : Channel) (j : Job) (past : List Item) (p : Polling s j past) (byte : ℕ) : Type 0 where
  pub is_played : answered j.lun.ce (p.before ++ (Take ∷ [])) (byte ∷ []) past ≡ Some (after_output j.lun.ce byte p.polled)
  pub leaves : Calm s.geometry past (cycle j.lun.ce Dout byte ∷ p.polled) j.lun
  pub closed : is_open_on (cycle j.lun.ce Dout byte ∷ p.polled) j.lun.ce ≡ false

pub poll_leaves : (s : Channel) (j : Job) (past : List Item) (p : Polling s j past) (byte : ℕ) → PollLeaves s j past p byte
poll_leaves s j past p byte =
    record {
      is_played = p.answers (byte ∷ []);
      leaves = calmer s.geometry past p.polled _ j.lun p.leaves output;
      closed = outputs.closes p.polled j.lun.ce byte;
    }
  where
    output : Calm s.geometry p.polled (cycle j.lun.ce Dout byte ∷ p.polled) j.lun
    output = calm_cycle s.geometry p.polled j.lun Dout byte (either_calm (is_data (latch_alone s.geometry p.polled j.lun)) DataOutput Unaffected refl refl)

-- a poll that is played was answered by one byte
pub record PollAnswered (ce : ℕ) (polled : List Item) (bytes : List ℕ) (q : Played) : Type 0 where
  pub byte : ℕ
  pub bytes_are : bytes ≡ byte ∷ []
  pub is_q : q ≡ after_output ce byte polled

pub one_answer : (ce : ℕ) (polled : List Item) (bytes : List ℕ) (q : Played) → answered ce (Take ∷ []) bytes polled ≡ Some q → PollAnswered ce polled bytes q
one_answer ce polled [] q e = cc
one_answer ce polled (byte ∷ []) q e =
    let both : Some (after_output ce byte polled) ≡ Some q = e in
    record { byte = byte; bytes_are = refl; is_q = let same : after_output ce byte polled ≡ q = cc in sym same }
one_answer ce polled (byte ∷ (b ∷ bytes)) q e = cc

-- a status that says ready is that of a ready LUN
ready_said : (busy array_busy failed before : Bool) → is_ready_status (status_byte busy array_busy failed before) ≡ true → busy ≡ false
ready_said true a f b h = cc
ready_said false a f b h = refl

-- and one that doesn't is that of a busy one
unready_said : (busy array_busy failed before : Bool) → is_ready_status (status_byte busy array_busy failed before) ≡ false → busy ≡ true
unready_said true a f b h = refl
unready_said false true f true h = cc
unready_said false true f false h = cc
unready_said false false true true h = cc
unready_said false false true false h = cc
unready_said false false false true h = cc
unready_said false false false false h = cc

-- on a model a poll shows the status
pub record PollShows (s : Channel) (j : Job) (past : List Item) (p : Polling s j past) : Type 0 where
  pub byte : ℕ
  pub is_played : played s j.lun.ce (p.before ++ (Take ∷ [])) past ≡ Some (after_output j.lun.ce byte p.polled)
  pub says : is_ready_status byte ≡ true → is_busy s.geometry past j.lun ≡ false
  pub says_not : is_ready_status byte ≡ false → is_busy s.geometry past j.lun ≡ true

pub poll_shows : (s : Channel) → IsChannel s → (j : Job) (past : List Item) → is_there s j.lun ≡ true → (p : Polling s j past) → PollShows s j past p
poll_shows s is j past there p =
    record {
      byte = b.0;
      is_played = p.plays ∙ rw b.1 refl;
      says = λ t. sym p.leaves.busy ∙ ready_said _ _ _ _ (subst (λ (n : ℕ). is_ready_status n ≡ true) said t);
      says_not = λ t. sym p.leaves.busy ∙ unready_said _ _ _ _ (subst (λ (n : ℕ). is_ready_status n ≡ false) said t);
    }
  where
    b : (n : ℕ) × (bus_byte s p.polled j.lun.ce ≡ Some n)
    b = outputs.has_byte s is p.polled j.lun 0 (own_output s j past 0 there p).permitted p.one

    said : b.0 ≡ status s.geometry p.polled j.lun
    said =
        let shown_is = byte_of_only s p.polled j.lun (drivers s.geometry p.polled j.lun.ce) p.one in
        let by_latch : shown s.geometry s.parameters s.opening p.polled j.lun ≡ Some (status s.geometry p.polled j.lun) = rw p.shows refl in
        let both : Some b.0 ≡ Some (status s.geometry p.polled j.lun) = sym b.1 ∙ (shown_is ∙ by_latch) in
        cc
