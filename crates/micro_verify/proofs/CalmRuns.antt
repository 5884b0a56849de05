-- A lazy run that is legal goes on word by word, each cycle being permitted: so the counter of a text is that of its refused word.
use Rattle.std.proofs.Common.{◌≡◌, ℕ, Bool, true, false, cond, ◌&&◌, List, [], ◌∷◌, Option, Some, None, is_none, refl, ap, ◌∙◌}
use Rattle.std.proofs.lemmas.Bool.{and_parts}
use Rattle.onfi_cycle.specs.declared.item.Item.{Item}
use Rattle.onfi_cycle.specs.declared.item.Item.TheVariants.{Rdy}
use Rattle.onfi_cycle.specs.declared.item.Kind.TheVariants.{Dout}
use Rattle.onfi_cycle.specs.Lun.{is_busy}
use Rattle.onfi_cycle.specs.Permitted.{broken, is_legal, is_permitted}
use Rattle.onfi_cycle.specs.Channel.{Channel, cycle, bus_byte}
use Rattle.micro_word.specs.declared.word.Word.{Word}
use Rattle.micro_program.specs.Program.{Job}
use Rattle.micro_program.specs.Moves.{Move, Give, Take, moves, and_then, is_wait}
use Rattle.micro_program.specs.Played.{Played, played, with_byte}
use Rattle.micro_verify.specs.Lazy.{the_lun, Run, run_with, run_word, run_words, awaited, counter_in, counter_at, no_failures}
use Rattle.micro_verify.specs.Calm.{calm_word, calm_words}
use Rattle.micro_verify.proofs.CountersThere.{legal_before, permitted_before, any_byte, same_played}

-- 1. a word

-- moves that leave a legal trace have no counter
counter_none : (s : Channel) (moved : List Move) (past : List Item) (p : Played) → played s 0 moved past ≡ Some p → is_legal s.geometry s.targets p.past ≡ true → counter_in s moved past ≡ None
counter_none s [] past p plays legal = refl
counter_none s (Give kind byte ∷ rest) past p plays legal =
    let passes = permitted_before s (cycle 0 kind byte) rest past p plays legal in
    rw passes (counter_none s rest (cycle 0 kind byte ∷ past) p plays legal)
counter_none s (Take ∷ rest) past p plays legal = at (bus_byte s past 0) refl plays (λ byte q e f. counter_none s rest (cycle 0 Dout byte ∷ past) q e f)
  where
    at : (o : Option ℕ) → bus_byte s past 0 ≡ o → and_then o (λ byte. and_then (played s 0 rest (cycle 0 Dout byte ∷ past)) (with_byte byte)) ≡ Some p → ((byte : ℕ) (q : Played) → played s 0 rest (cycle 0 Dout byte ∷ past) ≡ Some q → is_legal s.geometry s.targets q.past ≡ true → counter_in s rest (cycle 0 Dout byte ∷ past) ≡ None) → counter_in s (Take ∷ rest) past ≡ None
    at None is e later = cc
    at (Some byte) is e later = by (played s 0 rest (cycle 0 Dout byte ∷ past)) refl e
      where
        by : (x : Option Played) → played s 0 rest (cycle 0 Dout byte ∷ past) ≡ x → and_then x (with_byte byte) ≡ Some p → counter_in s (Take ∷ rest) past ≡ None
        by None f e = cc
        by (Some q) f e =
            let legal_q : is_legal s.geometry s.targets q.past ≡ true = ap (is_legal s.geometry s.targets) (same_played _ p e) ∙ legal in
            let passes : is_none (broken s.geometry s.targets past (cycle 0 Dout 0)) ≡ true = ap is_none (any_byte s past byte) ∙ permitted_before s (cycle 0 Dout byte) rest past q f legal_q in
            rw (passes, is) (later byte q f legal_q)

-- a word of the run, by its moves and what they made
record Stepped (s : Channel) (j : Job) (word : Word) (r next : Run) : Type 0 where
  moved : List Move
  is_moved : moves s.geometry j r.done word ≡ Some moved
  p : Played
  plays : played s 0 moved (awaited s.geometry r.past word) ≡ Some p
  past : p.past ≡ next.past

stepped : (s : Channel) (j : Job) (word : Word) (r next : Run) → run_word s j word r ≡ Some next → Stepped s j word r next
stepped s j word r next h = at (moves s.geometry j r.done word) refl h
  where
    at : (o : Option (List Move)) → moves s.geometry j r.done word ≡ o → and_then o (λ moved. and_then (played s 0 moved (awaited s.geometry r.past word)) (λ p. Some (run_with word r.done p))) ≡ Some next → Stepped s j word r next
    at None is e = cc
    at (Some moved) is e = by (played s 0 moved (awaited s.geometry r.past word)) refl e
      where
        by : (x : Option Played) → played s 0 moved (awaited s.geometry r.past word) ≡ x → and_then x (λ p. Some (run_with word r.done p)) ≡ Some next → Stepped s j word r next
        by None f e = cc
        by (Some p) f e = let one = run_with word r.done p in let same : one ≡ next = cc in record { moved = moved; is_moved = is; p = p; plays = f; past = ap (λ (x : Run). x.past) same }

calm_step : (s : Channel) (j : Job) (word : Word) (r next : Run) → run_word s j word r ≡ Some next → is_legal s.geometry s.targets next.past ≡ true → calm_word s j word r ≡ Some next
calm_step s j word r next h legal =
    let w = stepped s j word r next h in
    let none : is_none (counter_at s j r word) ≡ true = ap is_none (ap (λ (o : Option (List Move)). and_then o (λ moved. counter_in s moved (awaited s.geometry r.past word))) w.is_moved ∙ counter_none s w.moved (awaited s.geometry r.past word) w.p w.plays (ap (is_legal s.geometry s.targets) w.past ∙ legal)) in
    rw none h

-- 2. the words of a run

tail_legal : (s : Channel) (b : Bool) (past : List Item) → is_legal s.geometry s.targets (cond b (Rdy 0 0 no_failures ∷ past) past) ≡ true → is_legal s.geometry s.targets past ≡ true
tail_legal s true past h = (and_parts (is_permitted s.geometry s.targets past (Rdy 0 0 no_failures)) (is_legal s.geometry s.targets past) h).1
tail_legal s false past h = h

legal_step : (s : Channel) (j : Job) (word : Word) (r next : Run) → run_word s j word r ≡ Some next → is_legal s.geometry s.targets next.past ≡ true → is_legal s.geometry s.targets r.past ≡ true
legal_step s j word r next h legal =
    let w = stepped s j word r next h in
    tail_legal s (is_wait word && is_busy s.geometry r.past the_lun) r.past (legal_before s w.moved (awaited s.geometry r.past word) w.p w.plays (ap (is_legal s.geometry s.targets) w.past ∙ legal))

legal_words : (s : Channel) (j : Job) (words : List Word) (r last : Run) → run_words s j words r ≡ Some last → is_legal s.geometry s.targets last.past ≡ true → is_legal s.geometry s.targets r.past ≡ true
legal_words s j [] r last h legal = let same : r ≡ last = cc in ap (λ (x : Run). is_legal s.geometry s.targets x.past) same ∙ legal
legal_words s j (word ∷ words) r last h legal = at (run_word s j word r) refl h (λ next e. legal_words s j words next last e legal)
  where
    at : (o : Option Run) → run_word s j word r ≡ o → and_then o (run_words s j words) ≡ Some last → ((next : Run) → run_words s j words next ≡ Some last → is_legal s.geometry s.targets next.past ≡ true) → is_legal s.geometry s.targets r.past ≡ true
    at None is e later = cc
    at (Some next) is e later = legal_step s j word r next is (later next e)

pub calm_run : (s : Channel) (j : Job) (words : List Word) (r last : Run) → run_words s j words r ≡ Some last → is_legal s.geometry s.targets last.past ≡ true → calm_words s j words r ≡ Some last
calm_run s j [] r last h legal = h
calm_run s j (word ∷ words) r last h legal = at (run_word s j word r) refl h (λ next e. calm_run s j words next last e legal)
  where
    at : (o : Option Run) → run_word s j word r ≡ o → and_then o (run_words s j words) ≡ Some last → ((next : Run) → run_words s j words next ≡ Some last → calm_words s j words next ≡ Some last) → and_then (calm_word s j word r) (calm_words s j words) ≡ Some last
    at None is e later = cc
    at (Some next) is e later = ap (λ (o : Option Run). and_then o (calm_words s j words)) (calm_step s j word r next is (legal_words s j words next last e legal)) ∙ later next e
