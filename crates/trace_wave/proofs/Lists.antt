-- Texts that are put one behind the other.
use Rattle.std.proofs.Common.{◌≡◌, ℕ, zero, suc, ◌+◌, ◌-◌, List, [], ◌∷◌, ◌++◌, length, refl, sym, ap, ◌∙◌, append_assoc, append-nil, arith, true}
use Rattle.std.proofs.lemmas.Bool.{eqb-true}
use Rattle.std.proofs.Math.Dec.{eqb}
use Rattle.std.specs.Option.{option_eq}
use Rattle.std.proofs.lemmas.List.{length-append}
use Rattle.std.specs.Prelude.{Option, Some, None}
use Rattle.trace_wave.specs.Levels.{bit, enables, dq_bit, dq_bits, bus_levels}
use Rattle.trace_wave.specs.Changes.{change, changes}
use Rattle.trace_wave.specs.Header.{settings}
use Rattle.onfi_cycle.proofs.Booleans.{eqb_self}
use Rattle.bus_lines.specs.declared.lines.Lines.{Lines}

-- options that are equal by the test of their type are the same
pub same_option : (a b : Option ℕ) → option_eq eqb a b ≡ true → a ≡ b
same_option None None h = refl
same_option None (Some y) h = cc
same_option (Some x) None h = cc
same_option (Some x) (Some y) h = ap (λ (n : ℕ). Some n) (eqb-true x y h)

-- two texts are added to what was there
pub joined : (old mid new first rest all : List ℕ) → mid ≡ old ++ first → new ≡ mid ++ rest → all ≡ first ++ rest → new ≡ old ++ all
joined old mid new first rest all one two both = two ∙ ap (λ xs. xs ++ rest) one ∙ append_assoc old first rest ∙ ap (λ xs. old ++ xs) (sym both)

pub joined_five : (old a b c d new one two three four five : List ℕ) → a ≡ old ++ one → b ≡ a ++ two → c ≡ b ++ three → d ≡ c ++ four → new ≡ d ++ five
    → new ≡ old ++ (one ++ (two ++ ((three ++ four) ++ five)))
joined_five old a b c d new one two three four five e f g h i =
    joined old a new one _ _ e (joined a b new two _ _ f (joined b d new (three ++ four) _ _ (h ∙ ap (λ xs. xs ++ four) g ∙ append_assoc b three four) i refl) refl) refl

pub less : (n : ℕ) → suc n - 1 ≡ n
less n = omega arith

-- one text is added after another
pub behind : (a b c x y : List ℕ) → b ≡ a ++ x → c ≡ b ++ y → c ≡ a ++ (x ++ y)
behind a b c x y e f = joined a b c x y _ e f refl

-- nothing changes where the levels are the same
pub changes_same : (code : ℕ) (levels : List ℕ) → changes code levels levels ≡ []
changes_same code [] = refl
changes_same code (b ∷ levels) = rw (eqb_self b) (changes_same (code + 1) levels)

-- the changes of lines in two parts
pub changes_joined : (code : ℕ) (before after before_rest after_rest : List ℕ) → length before ≡ length after
    → changes code (before ++ before_rest) (after ++ after_rest) ≡ changes code before after ++ changes (code + length before) before_rest after_rest
changes_joined code [] [] bs cs e = ap (λ k. changes k bs cs) (sym (plus_none code))
  where
    plus_none : (k : ℕ) → k + 0 ≡ k
    plus_none k = omega arith
changes_joined code [] (a ∷ after) bs cs e = cc
changes_joined code (b ∷ before) [] bs cs e = cc
changes_joined code (b ∷ before) (a ∷ after) bs cs e =
    ap (λ xs. change code b a ++ xs) (changes_joined (code + 1) before after bs cs (omega (arith, e)) ∙ ap (λ k. changes (code + 1) before after ++ changes k bs cs) (next code (length before)))
    ∙ sym (append_assoc (change code b a) (changes (code + 1) before after) (changes (code + suc (length before)) bs cs))
  where
    next : (k n : ℕ) → k + 1 + n ≡ k + suc n
    next k n = omega arith

pub length_enables : (e : Option ℕ) (count n : ℕ) → length (enables e count n) ≡ count
length_enables e zero n = refl
length_enables e (suc count) n = ap suc (length_enables e count (n + 1))

-- the settings of lines in two parts
pub settings_joined : (code : ℕ) (levels rest : List ℕ) → settings code (levels ++ rest) ≡ settings code levels ++ settings (code + length levels) rest
settings_joined code [] rest = ap (λ k. settings k rest) (sym (plus_none code))
  where
    plus_none : (k : ℕ) → k + 0 ≡ k
    plus_none k = omega arith
settings_joined code (l ∷ levels) rest =
    ap (λ xs. l ∷ code ∷ 10 ∷ xs) (settings_joined (code + 1) levels rest ∙ ap (λ k. settings (code + 1) levels ++ settings k rest) (next code (length levels)))
  where
    next : (k n : ℕ) → k + 1 + n ≡ k + suc n
    next k n = omega arith

-- the changes of four lines, and those of the lines behind them
pub four_changes : (k k1 k2 k3 k4 b1 b2 b3 b4 a1 a2 a3 a4 : ℕ) (before after : List ℕ) → k1 ≡ k + 1 → k2 ≡ k1 + 1 → k3 ≡ k2 + 1 → k4 ≡ k3 + 1
    → changes k (b1 ∷ b2 ∷ b3 ∷ b4 ∷ before) (a1 ∷ a2 ∷ a3 ∷ a4 ∷ after) ≡ change k b1 a1 ++ (change k1 b2 a2 ++ (change k2 b3 a3 ++ (change k3 b4 a4 ++ changes k4 before after)))
four_changes k k1 k2 k3 k4 b1 b2 b3 b4 a1 a2 a3 a4 before after e f h i = rw (i, h, f, e) refl

-- the changes of DQ, the last of them without anything behind it
pub dq_changes : (k k1 k2 k3 k4 k5 k6 k7 : ℕ) (before after : Option ℕ) → k1 ≡ k + 1 → k2 ≡ k1 + 1 → k3 ≡ k2 + 1 → k4 ≡ k3 + 1 → k5 ≡ k4 + 1 → k6 ≡ k5 + 1 → k7 ≡ k6 + 1
    → changes k (dq_bits before) (dq_bits after)
    ≡ change k (dq_bit before 128) (dq_bit after 128) ++ (change k1 (dq_bit before 64) (dq_bit after 64) ++ (change k2 (dq_bit before 32) (dq_bit after 32)
    ++ (change k3 (dq_bit before 16) (dq_bit after 16) ++ (change k4 (dq_bit before 8) (dq_bit after 8) ++ (change k5 (dq_bit before 4) (dq_bit after 4)
    ++ (change k6 (dq_bit before 2) (dq_bit after 2) ++ change k7 (dq_bit before 1) (dq_bit after 1)))))))
dq_changes k k1 k2 k3 k4 k5 k6 k7 before after e1 e2 e3 e4 e5 e6 e7 = rw (e7, e6, e5, e4, e3, e2, e1, append-nil (change (k + 1 + 1 + 1 + 1 + 1 + 1 + 1) (dq_bit before 1) (dq_bit after 1))) refl

pub length_bus : (targets : ℕ) (l : Lines) → length (bus_levels targets l) ≡ targets + 12
length_bus targets l = length-append (enables l.enabled targets 0) _ ∙ ap (λ k. k + 12) (length_enables l.enabled targets 0)

-- the changes of the bus and then those of the model
pub all_changes : (targets : ℕ) (l k : Lines) (before after : List ℕ)
    → changes 33 (bus_levels targets l ++ before) (bus_levels targets k ++ after) ≡ changes 33 (bus_levels targets l) (bus_levels targets k) ++ changes (45 + targets) before after
all_changes targets l k before after =
    changes_joined 33 (bus_levels targets l) (bus_levels targets k) before after (length_bus targets l ∙ sym (length_bus targets k))
    ∙ ap (λ n. changes 33 (bus_levels targets l) (bus_levels targets k) ++ changes n before after) (ap (λ n. 33 + n) (length_bus targets l) ∙ place targets)
  where
    place : (n : ℕ) → 33 + (n + 12) ≡ 45 + n
    place n = omega arith

-- those of the bus alone, where the model stays
pub bus_changes : (targets : ℕ) (l k : Lines) (model : List ℕ)
    → changes 33 (bus_levels targets l ++ model) (bus_levels targets k ++ model) ≡ changes 33 (bus_levels targets l) (bus_levels targets k)
bus_changes targets l k model =
    all_changes targets l k model model ∙ ap (λ xs. changes 33 (bus_levels targets l) (bus_levels targets k) ++ xs) (changes_same (45 + targets) model) ∙ append-nil _

-- the parts of the changes of the bus
pub bus_parts : (targets : ℕ) (l k : Lines)
    → changes 33 (bus_levels targets l) (bus_levels targets k)
    ≡ changes 33 (enables l.enabled targets 0) (enables k.enabled targets 0) ++ (change (33 + targets) (bit l.cle) (bit k.cle) ++ (change (34 + targets) (bit l.ale) (bit k.ale)
    ++ (change (35 + targets) (bit l.we) (bit k.we) ++ (change (36 + targets) (bit l.re) (bit k.re) ++ changes (37 + targets) (dq_bits l.dq) (dq_bits k.dq)))))
bus_parts targets l k =
    changes_joined 33 (enables l.enabled targets 0) (enables k.enabled targets 0) _ _ (length_enables l.enabled targets 0 ∙ sym (length_enables k.enabled targets 0))
    ∙ ap (λ n. changes 33 (enables l.enabled targets 0) (enables k.enabled targets 0)
    ++ changes (33 + n) (bit l.cle ∷ bit l.ale ∷ bit l.we ∷ bit l.re ∷ dq_bits l.dq) (bit k.cle ∷ bit k.ale ∷ bit k.we ∷ bit k.re ∷ dq_bits k.dq)) (length_enables l.enabled targets 0)
    ∙ ap (λ xs. changes 33 (enables l.enabled targets 0) (enables k.enabled targets 0) ++ xs)
    (four_changes (33 + targets) (34 + targets) (35 + targets) (36 + targets) (37 + targets) (bit l.cle) (bit l.ale) (bit l.we) (bit l.re) (bit k.cle) (bit k.ale) (bit k.we) (bit k.re) (dq_bits l.dq) (dq_bits k.dq) (omega arith) (omega arith) (omega arith) (omega arith))

pub dq_drawn : (old a1 a2 a3 a4 a5 a6 a7 new : List ℕ) (k k1 k2 k3 k4 k5 k6 k7 : ℕ) (before after : Option ℕ) → k1 ≡ k + 1 → k2 ≡ k1 + 1 → k3 ≡ k2 + 1 → k4 ≡ k3 + 1 → k5 ≡ k4 + 1 → k6 ≡ k5 + 1 → k7 ≡ k6 + 1
    → a1 ≡ old ++ change k (dq_bit before 128) (dq_bit after 128)
    → a2 ≡ a1 ++ change k1 (dq_bit before 64) (dq_bit after 64)
    → a3 ≡ a2 ++ change k2 (dq_bit before 32) (dq_bit after 32)
    → a4 ≡ a3 ++ change k3 (dq_bit before 16) (dq_bit after 16)
    → a5 ≡ a4 ++ change k4 (dq_bit before 8) (dq_bit after 8)
    → a6 ≡ a5 ++ change k5 (dq_bit before 4) (dq_bit after 4)
    → a7 ≡ a6 ++ change k6 (dq_bit before 2) (dq_bit after 2)
    → new ≡ a7 ++ change k7 (dq_bit before 1) (dq_bit after 1)
    → new ≡ old ++ changes k (dq_bits before) (dq_bits after)
dq_drawn old a1 a2 a3 a4 a5 a6 a7 new k k1 k2 k3 k4 k5 k6 k7 before after e1 e2 e3 e4 e5 e6 e7 f1 f2 f3 f4 f5 f6 f7 f8 =
    behind old a1 new (change k (dq_bit before 128) (dq_bit after 128)) (change k1 (dq_bit before 64) (dq_bit after 64) ++ (change k2 (dq_bit before 32) (dq_bit after 32) ++ (change k3 (dq_bit before 16) (dq_bit after 16) ++ (change k4 (dq_bit before 8) (dq_bit after 8) ++ (change k5 (dq_bit before 4) (dq_bit after 4) ++ (change k6 (dq_bit before 2) (dq_bit after 2) ++ (change k7 (dq_bit before 1) (dq_bit after 1)))))))) f1 (behind a1 a2 new (change k1 (dq_bit before 64) (dq_bit after 64)) (change k2 (dq_bit before 32) (dq_bit after 32) ++ (change k3 (dq_bit before 16) (dq_bit after 16) ++ (change k4 (dq_bit before 8) (dq_bit after 8) ++ (change k5 (dq_bit before 4) (dq_bit after 4) ++ (change k6 (dq_bit before 2) (dq_bit after 2) ++ (change k7 (dq_bit before 1) (dq_bit after 1))))))) f2 (behind a2 a3 new (change k2 (dq_bit before 32) (dq_bit after 32)) (change k3 (dq_bit before 16) (dq_bit after 16) ++ (change k4 (dq_bit before 8) (dq_bit after 8) ++ (change k5 (dq_bit before 4) (dq_bit after 4) ++ (change k6 (dq_bit before 2) (dq_bit after 2) ++ (change k7 (dq_bit before 1) (dq_bit after 1)))))) f3 (behind a3 a4 new (change k3 (dq_bit before 16) (dq_bit after 16)) (change k4 (dq_bit before 8) (dq_bit after 8) ++ (change k5 (dq_bit before 4) (dq_bit after 4) ++ (change k6 (dq_bit before 2) (dq_bit after 2) ++ (change k7 (dq_bit before 1) (dq_bit after 1))))) f4 (behind a4 a5 new (change k4 (dq_bit before 8) (dq_bit after 8)) (change k5 (dq_bit before 4) (dq_bit after 4) ++ (change k6 (dq_bit before 2) (dq_bit after 2) ++ (change k7 (dq_bit before 1) (dq_bit after 1)))) f5 (behind a5 a6 new (change k5 (dq_bit before 4) (dq_bit after 4)) (change k6 (dq_bit before 2) (dq_bit after 2) ++ (change k7 (dq_bit before 1) (dq_bit after 1))) f6 (behind a6 a7 new (change k6 (dq_bit before 2) (dq_bit after 2)) (change k7 (dq_bit before 1) (dq_bit after 1)) f7 (f8)))))))
    ∙ ap (λ xs. old ++ xs) (sym (dq_changes k k1 k2 k3 k4 k5 k6 k7 before after e1 e2 e3 e4 e5 e6 e7))

pub bus_drawn : (old a1 a2 a3 a4 a5 new : List ℕ) (targets : ℕ) (l k : Lines)
    → a1 ≡ old ++ changes 33 (enables l.enabled targets 0) (enables k.enabled targets 0)
    → a2 ≡ a1 ++ change (33 + targets) (bit l.cle) (bit k.cle)
    → a3 ≡ a2 ++ change (34 + targets) (bit l.ale) (bit k.ale)
    → a4 ≡ a3 ++ change (35 + targets) (bit l.we) (bit k.we)
    → a5 ≡ a4 ++ change (36 + targets) (bit l.re) (bit k.re)
    → new ≡ a5 ++ changes (37 + targets) (dq_bits l.dq) (dq_bits k.dq)
    → new ≡ old ++ changes 33 (bus_levels targets l) (bus_levels targets k)
bus_drawn old a1 a2 a3 a4 a5 new targets l k f1 f2 f3 f4 f5 f6 =
    let dq = changes (37 + targets) (dq_bits l.dq) (dq_bits k.dq) in
    let re = change (36 + targets) (bit l.re) (bit k.re) in
    let we = change (35 + targets) (bit l.we) (bit k.we) in
    let ale = change (34 + targets) (bit l.ale) (bit k.ale) in
    let cle = change (33 + targets) (bit l.cle) (bit k.cle) in
    behind old a1 new (changes 33 (enables l.enabled targets 0) (enables k.enabled targets 0)) (cle ++ (ale ++ (we ++ (re ++ dq)))) f1
    (behind a1 a2 new cle (ale ++ (we ++ (re ++ dq))) f2 (behind a2 a3 new ale (we ++ (re ++ dq)) f3 (behind a3 a4 new we (re ++ dq) f4 (behind a4 a5 new re dq f5 f6))))
    ∙ ap (λ xs. old ++ xs) (sym (bus_parts targets l k))

pub settings_drawn : (old mid new bus model : List ℕ) (code : ℕ) → code ≡ 33 + length bus → mid ≡ old ++ settings 33 bus → new ≡ mid ++ settings code model → new ≡ old ++ settings 33 (bus ++ model)
settings_drawn old mid new bus model code is first second =
    behind old mid new (settings 33 bus) (settings code model) first second
    ∙ ap (λ k. old ++ (settings 33 bus ++ settings k model)) is ∙ ap (λ xs. old ++ xs) (sym (settings_joined 33 bus model))

pub six_joined : (old a b c d e new one two three four five six : List ℕ)
    → a ≡ old ++ one → b ≡ a ++ two → c ≡ b ++ three → d ≡ c ++ four → e ≡ d ++ five → new ≡ e ++ six → new ≡ old ++ (one ++ (two ++ (three ++ (four ++ (five ++ six)))))
six_joined old a b c d e new one two three four five six f1 f2 f3 f4 f5 f6 =
    behind old a new one (two ++ (three ++ (four ++ (five ++ six)))) f1 (behind a b new two (three ++ (four ++ (five ++ six))) f2
    (behind b c new three (four ++ (five ++ six)) f3 (behind c d new four (five ++ six) f4 (behind d e new five six f5 f6))))

pub whole : (a b c new one two three : List ℕ) → a ≡ [] → b ≡ a ++ one → c ≡ b ++ two → new ≡ c ++ three → new ≡ one ++ (two ++ three)
whole a b c new one two three none first second third =
    behind a b new one (two ++ three) first (behind b c new two three second third) ∙ ap (λ xs. xs ++ (one ++ (two ++ three))) none
