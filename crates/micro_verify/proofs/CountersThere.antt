-- Where the cycles of a word stop, its counter shows where.
use Rattle.std.proofs.Common.{◌≡◌, ℕ, true, false, List, [], ◌∷◌, ◌++◌, Option, Some, None, is_none, refl, ap, ◌∙◌, length, reverse, take}
use Rattle.std.specs.List.{slice_get}
use Rattle.std.proofs.Math.Seq.{take-append_seam}
use Rattle.std.proofs.lemmas.List.{reverse-reverse}
use Rattle.std.proofs.lemmas.Bool.{and_parts}
use Rattle.onfi_cycle.specs.declared.forbidden.Forbidden.{Forbidden}
use Rattle.onfi_cycle.specs.declared.item.Item.{Item}
use Rattle.onfi_cycle.specs.declared.item.Kind.TheVariants.{Dout}
use Rattle.onfi_cycle.specs.Rules.{breaks_not_there}
use Rattle.onfi_cycle.specs.Permitted.{broken, is_legal, is_permitted}
use Rattle.onfi_cycle.specs.Channel.{Channel, cycle, bus_byte}
use Rattle.micro_program.specs.Moves.{Move, Give, Take, and_then}
use Rattle.micro_program.specs.Played.{Played, played, with_byte}
use Rattle.micro_verify.specs.Lazy.{item_of, counter_in, awaited}
use Rattle.micro_verify.specs.Counters.{CountersAreThere}

-- 1. each move of a legal trace was permitted

pub same_played : (p q : Played) → Some p ≡ Some q → p.past ≡ q.past
same_played p q e = let same : p ≡ q = cc in ap (λ (x : Played). x.past) same

-- what is behind a legal trace is legal
pub legal_before : (s : Channel) (first : List Move) (past : List Item) (p : Played) → played s 0 first past ≡ Some p → is_legal s.geometry s.targets p.past ≡ true → is_legal s.geometry s.targets past ≡ true
legal_before s [] past p plays legal = ap (is_legal s.geometry s.targets) (same_played _ p plays) ∙ legal
legal_before s (Give kind byte ∷ rest) past p plays legal =
    (and_parts (is_permitted s.geometry s.targets past (cycle 0 kind byte)) (is_legal s.geometry s.targets past) (legal_before s rest (cycle 0 kind byte ∷ past) p plays legal)).1
legal_before s (Take ∷ rest) past p plays legal = at (bus_byte s past 0) plays (λ byte q e f. legal_before s rest (cycle 0 Dout byte ∷ past) q e f)
  where
    at : (o : Option ℕ) → and_then o (λ byte. and_then (played s 0 rest (cycle 0 Dout byte ∷ past)) (with_byte byte)) ≡ Some p → ((byte : ℕ) (q : Played) → played s 0 rest (cycle 0 Dout byte ∷ past) ≡ Some q → is_legal s.geometry s.targets q.past ≡ true → is_legal s.geometry s.targets (cycle 0 Dout byte ∷ past) ≡ true) → is_legal s.geometry s.targets past ≡ true
    at None e later = cc
    at (Some byte) e later = by (played s 0 rest (cycle 0 Dout byte ∷ past)) refl e
      where
        by : (x : Option Played) → played s 0 rest (cycle 0 Dout byte ∷ past) ≡ x → and_then x (with_byte byte) ≡ Some p → is_legal s.geometry s.targets past ≡ true
        by None f e = cc
        by (Some q) f e = (and_parts (is_permitted s.geometry s.targets past (cycle 0 Dout byte)) (is_legal s.geometry s.targets past) (later byte q f (ap (is_legal s.geometry s.targets) (same_played _ p e) ∙ legal))).1

pub permitted_before : (s : Channel) (i : Item) (rest : List Move) (past : List Item) (p : Played) → played s 0 rest (i ∷ past) ≡ Some p → is_legal s.geometry s.targets p.past ≡ true → is_none (broken s.geometry s.targets past i) ≡ true
permitted_before s i rest past p plays legal = (and_parts (is_permitted s.geometry s.targets past i) (is_legal s.geometry s.targets past) (legal_before s rest (i ∷ past) p plays legal)).0

-- an output is judged alike whatever its byte is
pub any_byte : (s : Channel) (past : List Item) (byte : ℕ) → broken s.geometry s.targets past (cycle 0 Dout 0) ≡ broken s.geometry s.targets past (cycle 0 Dout byte)
unfolding breaks_not_there
any_byte s past byte = refl

-- 2. the counter

counter_found : (s : Channel) (first : List Move) (next : Move) (rest : List Move) (past : List Item) (p : Played) (rule : Forbidden) → played s 0 first past ≡ Some p → is_legal s.geometry s.targets p.past ≡ true → broken s.geometry s.targets p.past (item_of next) ≡ Some rule → counter_in s (first ++ (next ∷ rest)) past ≡ Some (record { items = reverse p.past; cycle = item_of next })
counter_found s [] next rest past p rule plays legal breaks =
    let same : past ≡ p.past = same_played _ p plays in
    let stops : is_none (broken s.geometry s.targets past (item_of next)) ≡ false = ap (λ (x : List Item). is_none (broken s.geometry s.targets x (item_of next))) same ∙ ap is_none breaks in
    rw stops (ap (λ (x : List Item). Some (record { items = reverse x; cycle = item_of next })) same)
counter_found s (Give kind byte ∷ first) next rest past p rule plays legal breaks =
    let passes = permitted_before s (cycle 0 kind byte) first past p plays legal in
    rw passes (counter_found s first next rest (cycle 0 kind byte ∷ past) p rule plays legal breaks)
counter_found s (Take ∷ first) next rest past p rule plays legal breaks = at (bus_byte s past 0) refl plays (λ byte q e f b. counter_found s first next rest (cycle 0 Dout byte ∷ past) q rule e f b)
  where
    Found : Type 0
    Found = counter_in s (Take ∷ (first ++ (next ∷ rest))) past ≡ Some (record { items = reverse p.past; cycle = item_of next })

    at : (o : Option ℕ) → bus_byte s past 0 ≡ o → and_then o (λ byte. and_then (played s 0 first (cycle 0 Dout byte ∷ past)) (with_byte byte)) ≡ Some p → ((byte : ℕ) (q : Played) → played s 0 first (cycle 0 Dout byte ∷ past) ≡ Some q → is_legal s.geometry s.targets q.past ≡ true → broken s.geometry s.targets q.past (item_of next) ≡ Some rule → counter_in s (first ++ (next ∷ rest)) (cycle 0 Dout byte ∷ past) ≡ Some (record { items = reverse q.past; cycle = item_of next })) → Found
    at None is e later = cc
    at (Some byte) is e later = by (played s 0 first (cycle 0 Dout byte ∷ past)) refl e
      where
        by : (x : Option Played) → played s 0 first (cycle 0 Dout byte ∷ past) ≡ x → and_then x (with_byte byte) ≡ Some p → Found
        by None f e = cc
        by (Some q) f e =
            let same : q.past ≡ p.past = same_played _ p e in
            let legal_q : is_legal s.geometry s.targets q.past ≡ true = ap (is_legal s.geometry s.targets) same ∙ legal in
            let passes : is_none (broken s.geometry s.targets past (cycle 0 Dout 0)) ≡ true = ap is_none (any_byte s past byte) ∙ permitted_before s (cycle 0 Dout byte) first past q f legal_q in
            let found = later byte q f legal_q (ap (λ (x : List Item). broken s.geometry s.targets x (item_of next)) same ∙ breaks) in
            rw (passes, is) (found ∙ ap (λ (x : List Item). Some (record { items = reverse x; cycle = item_of next })) same)

-- 3. the law

last_item : (xs : List Item) (i : Item) → slice_get (xs ++ (i ∷ [])) (length xs) ≡ Some i
last_item [] i = refl
last_item (x ∷ xs) i = last_item xs i

pub counters_are_there : CountersAreThere
counters_are_there s j r word sort plain w =
    let t = w.stops in
    let before : awaited s.geometry r.past word ≡ r.past = rw plain refl in
    let whole : reverse (take (length (reverse t.p.past)) (reverse t.p.past ++ (item_of t.next ∷ []))) ≡ t.p.past = ap reverse (take-append_seam (reverse t.p.past) (item_of t.next ∷ [])) ∙ reverse-reverse t.p.past in
    record {
      counter = record { items = reverse t.p.past; cycle = item_of t.next };
      made =
          ap (λ (o : Option (List Move)). and_then o (λ moved. counter_in s moved (awaited s.geometry r.past word))) w.is_moved
          ∙ (ap (counter_in s w.moved) before ∙ (ap (λ (ms : List Move). counter_in s ms r.past) t.parts ∙ counter_found s t.first t.next t.rest r.past t.p t.rule t.plays t.legal t.breaks));
      rule = t.rule;
      breaks = record {
        item = item_of t.next;
        there = last_item (reverse t.p.past) (item_of t.next);
        legal = ap (is_legal s.geometry s.targets) whole ∙ t.legal;
        breaks = ap (λ (x : List Item). broken s.geometry s.targets x (item_of t.next)) whole ∙ t.breaks;
      };
      sorted = t.sorted;
    }
