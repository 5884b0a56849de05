-- Once all is known of a channel, nothing of it is in doubt any more.
use Rattle.std.proofs.Common.{◌≡◌, ℕ, zero, suc, ◌+◌, ◌==◌, arith, Bool, true, false, cond, List, [], ◌∷◌, ◌++◌, Option, Some, None, refl, ap, ◌∙◌, slice_set, get_or}
use Rattle.std.proofs.lemmas.Bool.{and_parts}
use Rattle.nand_geometry.specs.declared.parts.Parts.{Parts}
use Rattle.onfi_cycle.specs.declared.forbidden.Forbidden.{Forbidden}
use Rattle.onfi_cycle.specs.declared.item.Item.{Item}
use Rattle.onfi_cycle.specs.declared.item.Item.TheVariants.{Cyc, Rdy, Ard}
use Rattle.onfi_cycle.specs.declared.lun_state.LunState.{LunState}
use Rattle.onfi_cycle.specs.Sequence.{target_of}
use Rattle.onfi_cycle.specs.Look.{looked}
use Rattle.trace_faults.specs.declared.broken_rule.BrokenRule.{BrokenRule}
use Rattle.trace_faults.specs.declared.known.Known.{Known}
use Rattle.trace_faults.specs.declared.lun_known.LunKnown.{LunKnown}
use Rattle.trace_faults.specs.declared.lun_known.LunKnown.TheVariants.{Nothing, Queue, Work, All}
use Rattle.trace_faults.specs.declared.readies.Readies.{Readies}
use Rattle.trace_faults.specs.declared.trace_state.TraceState.{TraceState}
use Rattle.trace_faults.specs.declared.unshown.UnshownReady.{UnshownReady}
use Rattle.trace_faults.specs.declared.verdict.Verdict.{Verdict}
use Rattle.trace_faults.specs.declared.verdict.Verdict.TheVariants.{Permitted, PassedOver, Granted, Broken, NotShown}
use Rattle.trace_faults.specs.Recovery.{judged_here, gone_on}
use Rattle.trace_faults.specs.Faults.{before_taken, taken_on}
use Rattle.trace_faults.specs.Middle.{Seen, all_known, known_of, knows, has_begun, is_all, is_whole, is_doubtful, doubts_ready, doubts, of_cycle, of_ready, looks_of, learned, verdict_on, is_passed_over, judged_on, seen_by, verdict_here, here, with_ready_taken, said_of, verdict, seen_after, verdicts_from, granted_in, one_passed_over, all_granted, count_passed_over}
use Rattle.trace_faults.proofs.Knowing.{no_doubts, learned_whole}
use Rattle.trace_faults.proofs.Wholes.{judges}
use Rattle.recording_laws.specs.Whole.{IsWhole, WholeChecksArentVoid}

-- ---- 1. what is said

-- neither passed over nor taken for granted
is_plain : Verdict → Bool
is_plain Permitted = true
is_plain PassedOver = false
is_plain (Granted rule) = false
is_plain (Broken rule) = true
is_plain (NotShown ready) = true

cycle_plain : (doubted : Bool) (rule : Option Forbidden) → doubted ≡ false → is_plain (of_cycle doubted rule) ≡ true
unfolding is_plain
cycle_plain doubted None h = refl
cycle_plain doubted (Some rule) h = rw h refl

ready_plain : (doubted : Bool) (rule : Option Forbidden) → doubted ≡ false → is_plain (of_ready doubted rule) ≡ true
unfolding is_plain
ready_plain doubted None h = refl
ready_plain doubted (Some rule) h = rw h refl

begun : (x : LunKnown) → is_all x ≡ true → has_begun x ≡ true
begun Nothing h = cc
begun Queue h = cc
begun Work h = cc
begun All h = refl

each_begun : (k : Known) (n : ℕ) → is_whole k ≡ true → has_begun (knows k n) ≡ true
each_begun k n h =
    let a0 = and_parts k.opened _ h in
    let a1 = and_parts (is_all k.zeroth) _ a0.1 in
    let a2 = and_parts (is_all k.first) _ a1.1 in
    let a3 = and_parts (is_all k.second) (is_all k.third) a2.1 in
    at (n == 0) (n == 1) (n == 2) (n == 3) (begun k.zeroth a1.0) (begun k.first a2.0) (begun k.second a3.0) (begun k.third a3.1)
  where
    at : (a b c d : Bool) → has_begun k.zeroth ≡ true → has_begun k.first ≡ true → has_begun k.second ≡ true → has_begun k.third ≡ true → has_begun (cond a k.zeroth (cond b k.first (cond c k.second (cond d k.third All)))) ≡ true
    at true b c d p q r s = p
    at false true c d p q r s = q
    at false false true d p q r s = r
    at false false false true p q r s = s
    at false false false false p q r s = refl

undoubted : (o : Option LunState) (b : Bool) → b ≡ true → is_doubtful o b ≡ false
undoubted o false h = cc
undoubted None true h = refl
undoubted (Some lun) true h = refl

said_plain : (t : TraceState) (k : Known) (i : Item) → is_whole k ≡ true → is_plain (verdict_on t k i) ≡ true
said_plain t k (Cyc c) h = cycle_plain (doubts t.bus k c.ce) (judged_here t (Cyc c)) (no_doubts t.bus k c.ce h)
said_plain t k (Rdy ce lun fail) h = ready_plain (doubts_ready t.bus k ce lun) (judged_here t (Rdy ce lun fail)) (undoubted (looked t.bus (record { ce = ce; lun = lun })) (has_begun (knows k lun)) (each_begun k lun h))
said_plain t k (Ard ce lun fail) h = ready_plain (doubts_ready t.bus k ce lun) (judged_here t (Ard ce lun fail)) (undoubted (looked t.bus (record { ce = ce; lun = lun })) (has_begun (knows k lun)) (each_begun k lun h))

taken_plain : (o : Option UnshownReady) (v : Verdict) → is_plain v ≡ true → is_plain (with_ready_taken o v) ≡ true
unfolding is_plain
taken_plain None v h = h
taken_plain (Some ready) Permitted h = refl
taken_plain (Some ready) PassedOver h = cc
taken_plain (Some ready) (Granted rule) h = cc
taken_plain (Some ready) (Broken rule) h = refl
taken_plain (Some ready) (NotShown other) h = refl

never_passed : (g : Parts) (k : Known) (i : Item) → is_whole k ≡ true → is_passed_over g k i ≡ false
never_passed g k (Cyc c) h = let open_now = (and_parts k.opened _ h).0 in rw open_now refl
never_passed g k (Rdy ce lun fail) h = refl
never_passed g k (Ard ce lun fail) h = refl

-- ---- 2. what is left

record IsPlain (readies : Readies) (seen : Seen) (i : Item) (later : List Item) : Type 0 where
  said : is_plain (verdict readies seen i later) ≡ true
  next : seen_after readies seen i later ≡ judged_on i (here readies seen i later)

left_plain : (v : Verdict) (i : Item) (on : Seen) → is_plain v ≡ true → seen_by v i on ≡ judged_on i on
unfolding is_plain
left_plain Permitted i on h = refl
left_plain PassedOver i on h = cc
left_plain (Granted rule) i on h = cc
left_plain (Broken rule) i on h = refl
left_plain (NotShown ready) i on h = refl

plain_of : (readies : Readies) (seen : Seen) (i : Item) (later : List Item) → IsWhole seen → IsPlain readies seen i later
plain_of readies seen i later whole =
    let k = known_of seen.known (target_of i) in
    let said = said_of readies seen i later in
    let plain : is_plain said ≡ true = taken_plain (taken_on readies (before_taken readies seen.state i) i later) (verdict_here (here readies seen i later) i) (said_plain (here readies seen i later).state k i (whole (target_of i))) in
    let over = never_passed seen.state.bus.geometry k i (whole (target_of i)) in
    record {
      said = ap (λ b. is_plain (cond b PassedOver said)) over ∙ plain;
      next = ap (λ b. cond b seen (seen_by said i (here readies seen i later))) over ∙ left_plain said i (here readies seen i later) plain;
    }

whole_put : (known : List Known) (at m : ℕ) (k : Known) → is_whole k ≡ true → ((ce : ℕ) → is_whole (get_or known ce all_known) ≡ true) → is_whole (get_or (slice_set known at k) m all_known) ≡ true
whole_put [] at m k h all = all m
whole_put (x ∷ known) zero zero k h all = h
whole_put (x ∷ known) zero (suc m) k h all = all (suc m)
whole_put (x ∷ known) (suc at) zero k h all = all 0
whole_put (x ∷ known) (suc at) (suc m) k h all = whole_put known at m k h (λ ce. all (suc ce))

whole_after : (readies : Readies) (seen : Seen) (i : Item) (later : List Item) → IsWhole seen → IsWhole (seen_after readies seen i later)
whole_after readies seen i later whole ce =
    let p = plain_of readies seen i later whole in
    let on = here readies seen i later in
    let k = known_of seen.known (target_of i) in
    let before = looks_of on.state.bus (target_of i) in
    let after = looks_of (gone_on i on.state).bus (target_of i) in
    ap (λ (s : Seen). is_whole (known_of s.known ce)) p.next
    ∙ whole_put seen.known (target_of i) ce (learned on.state.bus.geometry i before after k) (ap is_whole (learned_whole on.state.bus.geometry i before after k (whole (target_of i))) ∙ whole (target_of i)) whole

-- ---- 3. item by item

none_granted : (n : ℕ) (v : Verdict) (more : List BrokenRule) → is_plain v ≡ true → more ≡ [] → granted_in n v ++ more ≡ []
unfolding is_plain
none_granted n Permitted more h e = e
none_granted n PassedOver more h e = cc
none_granted n (Granted rule) more h e = cc
none_granted n (Broken rule) more h e = e
none_granted n (NotShown ready) more h e = e

none_passed : (v : Verdict) (more : ℕ) → is_plain v ≡ true → more ≡ 0 → one_passed_over v + more ≡ 0
unfolding is_plain
none_passed Permitted more h e = omega (arith, e)
none_passed PassedOver more h e = cc
none_passed (Granted rule) more h e = cc
none_passed (Broken rule) more h e = omega (arith, e)
none_passed (NotShown ready) more h e = omega (arith, e)

granted_nowhere : (readies : Readies) (n : ℕ) (items : List Item) (seen : Seen) → IsWhole seen → all_granted n (verdicts_from readies seen items) ≡ []
granted_nowhere readies n [] seen whole = refl
granted_nowhere readies n (i ∷ items) seen whole =
    none_granted n (verdict readies seen i items) (all_granted (n + 1) (verdicts_from readies (seen_after readies seen i items) items)) (plain_of readies seen i items whole).said
    (granted_nowhere readies (n + 1) items (seen_after readies seen i items) (whole_after readies seen i items whole))

passed_nowhere : (readies : Readies) (items : List Item) (seen : Seen) → IsWhole seen → count_passed_over (verdicts_from readies seen items) ≡ 0
passed_nowhere readies [] seen whole = refl
passed_nowhere readies (i ∷ items) seen whole =
    none_passed (verdict readies seen i items) (count_passed_over (verdicts_from readies (seen_after readies seen i items) items)) (plain_of readies seen i items whole).said
    (passed_nowhere readies items (seen_after readies seen i items) (whole_after readies seen i items whole))

pub whole_checks_arent_void : WholeChecksArentVoid
whole_checks_arent_void readies seen n items whole =
    let granted = granted_nowhere readies n items seen whole in
    let passed = passed_nowhere readies items seen whole in
    record { faults = judges readies n items seen passed granted; granted = granted; passed_over = passed }
