-- A program of plain operations, from where it was loaded to its end.
use Rattle.std.proofs.Common.{◌≡◌, inl, inr, ℕ, suc, ◌+◌, ◌<◌, ◌≤◌, ◌==◌, Bool, true, false, ◌&&◌, cond, List, [], ◌∷◌, ◌++◌, Option, Some, None, refl, sym, ap, ◌∙◌, subst, arith, length, reverse, take, map, ltb, ltb-true, eqb-true, eq-eqb, ne_eqb}
use Rattle.std.proofs.lemmas.List.{append-nil, map-append, reverse-reverse}
use Rattle.nand_geometry.specs.declared.parts.Parts.{Parts}
use Rattle.onfi_cycle.specs.declared.item.Cycle.{Cycle}
use Rattle.onfi_cycle.specs.declared.item.Item.{Item}
use Rattle.onfi_cycle.specs.declared.item.Item.TheVariants.{Cyc, Rdy, Ard}
use Rattle.onfi_cycle.specs.declared.lun.Lun.{Lun}
use Rattle.onfi_cycle.specs.Channel.{Channel, IsOwn, same_lun, is_there, is_cycle}
use Rattle.onfi_cycle.specs.Permitted.{is_legal}
use Rattle.micro_word.specs.declared.word.Word.{Word}
use Rattle.micro_word.specs.declared.word.Word.TheVariants.{End, Wait}
use Rattle.micro_word.specs.Text.{Microprogram}
use Rattle.micro_program.specs.Lines.{Line, unrolled, lines_from}
use Rattle.micro_program.specs.Program.{Job, Done, is_ready_status}
use Rattle.micro_program.specs.Moves.{Move}
use Rattle.micro_program.specs.Played.{Played, answered}
use Rattle.micro_program.specs.Safe.{Seat, loaded, after_step, after_item, Reaches, starts, steps, readies, others, may_step, StaysFine, IsJobOf, IsSafe}
use Rattle.micro_program.specs.Step.{Stride, first_byte, stride, answered_step}
use Rattle.micro_program.proofs.Claiming.{legal_step}
use Rattle.onfi_cycle.proofs.Keeping.{legal_more}
use Rattle.trace_ops.specs.AtWork.{IsLegalBase}
use Rattle.trace_ops.specs.Polling.{Sequence, Doing, Rests, Sends, Waits, Asks, Sees, by_cycle, doing_at_end, sent_in, sequences_from, Sent, sent_of, sent_as}
use Rattle.trace_ops.proofs.PolledLines.{polled}
use Rattle.trace_ops.proofs.Spans.{same_some}
use Rattle.micro_verify.specs.declared.plain_op.PlainOp.{PlainOp}
use Rattle.micro_verify.specs.Plain.{operations_len, plain_text}
use Rattle.plain_operations.specs.Lines.{sequence_of, closers, began, AreBytes, RunsPlainly, lines_after, LinesAre}
use Rattle.plain_operations.proofs.Hosts.{Has, has_other, bytes_before}
use Rattle.plain_operations.proofs.Steps.{Taken, taken, nothing_played, Ahead, After, word_steps}
use Rattle.plain_operations.proofs.Texts.{place_of, is_end, is_at_rest, leads, sends_with, leads_to, all_lead_to, body, body_long, body_leads, body_sends, body_fails, plain_lines}

none : {X : Type 0} {x : X} → None ≡ Some x → ⊥
none h = cc

off : false ≡ true → ⊥
off h = cc

-- ---- what a word leaves

either_past : (b : Bool) (p : List Item) (x y : Stride) → x.past ≡ p → y.past ≡ p → (cond b x y).past ≡ p
either_past true p x y e f = e
either_past false p x y e f = f

stride_past : (line : Line) (rest : List Line) (done : List Done) (p : Played) (word : Word) → (stride line rest done p word).past ≡ p.past
stride_past line rest done p Wait = either_past (is_ready_status (first_byte p.bytes)) p.past _ _ refl refl
stride_past line rest done p word = refl

either_code : (b : Bool) (x y : Stride) → x.code ≡ None → y.code ≡ None → (cond b x y).code ≡ None
either_code true x y e f = e
either_code false x y e f = f

-- only an `end` ends a program
abbrev code_after : Word → Option ℕ
code_after (End code) = Some code
code_after word = None

stride_code : (line : Line) (rest : List Line) (done : List Done) (p : Played) (word : Word) → (stride line rest done p word).code ≡ code_after word
stride_code line rest done p Wait = either_code (is_ready_status (first_byte p.bytes)) _ _ refl refl
stride_code line rest done p word = refl

end_coded : (word : Word) → is_end word ≡ true → code_after word ≡ None → ⊥
end_coded (End code) h e = none (sym e)
end_coded word h e = off h

-- ---- a step

-- where a program is
pub record Stands (g : Parts) (j : Job) (first : List Sequence) (failure : ℕ) (all : List Sequence) (past : List Item) (ahead : List Line) (done : List Done) : Type 0 where
  pub doing : Doing
  pub works : List Sequence
  pub has : Has j.lun.ce first past doing works
  pub counts : length works ≡ closers done
  pub ahead_is : Ahead g j failure (place_of j done) doing works all ahead

-- at its end
pub record Over (ce : ℕ) (first : List Sequence) (all : List Sequence) (past : List Item) (done : List Done) (code : ℕ) : Type 0 where
  pub works : List Sequence
  pub left : List Sequence
  pub has : Has ce first past Rests works
  pub counts : length works ≡ closers done
  pub begins : works ++ left ≡ all
  pub over : code ≡ 0 → left ≡ []

and_true : (a b : Bool) → (a && b) ≡ true → (a ≡ true) × (b ≡ true)
and_true true b h = (refl, h)
and_true false b h = cc

first_true : (a b : Bool) → (a && b) ≡ true → a ≡ true
first_true a b h = (and_true a b h).0

rest_is : (d : Doing) → is_at_rest d ≡ true → d ≡ Rests
rest_is Rests h = refl
rest_is (Sends w) h = cc
rest_is (Waits w) h = cc
rest_is (Asks w) h = cc
rest_is Sees h = cc

module _ (g : Parts) (j : Job) (first : List Sequence) (failure : ℕ) (all : List Sequence) (one : g.luns ≡ 1) (bytes : List ℕ) (past : List Item) (ahead : List Line) (done : List Done) (r : Stride)
    (step : answered_step g j bytes past ahead done ≡ Some r) (small : AreBytes r.past) where
  abbrev ce : ℕ
  ce = j.lun.ce

  taken_at : (line : Line) (rest : List Line) → ahead ≡ line ∷ rest → Taken g j bytes past line rest done r
  taken_at line rest e = taken g j bytes past line rest done r (ap (λ (a : List Line). answered_step g j bytes past a done) (sym e) ∙ step)

  past_so : (line : Line) (rest : List Line) (t : Taken g j bytes past line rest done r) → r.past ≡ t.played.past
  past_so line rest t = ap (λ (x : Stride). x.past) (sym t.is_stride) ∙ stride_past line rest done t.played line.word

  small_there : (line : Line) (rest : List Line) (t : Taken g j bytes past line rest done r) → AreBytes t.played.past
  small_there line rest t = subst AreBytes (past_so line rest t) small

  pub small_before : AreBytes past
  small_before = at ahead refl
    where
      at : (a : List Line) → ahead ≡ a → AreBytes past
      at [] e = absurd (none (ap (λ (a : List Line). answered_step g j bytes past a done) (sym e) ∙ step))
      at (line ∷ rest) e = (let t = taken_at line rest e in bytes_before ce t.moved bytes past t.played t.is_played (small_there line rest t))

  abbrev line_of : ℕ → Word → Line
  line_of at word = record { at = at; word = word }

  code_is : (at : ℕ) (word : Word) (rest : List Line) → Taken g j bytes past (line_of at word) rest done r → r.code ≡ code_after word
  code_is at word rest t = ap (λ (x : Stride). x.code) (sym t.is_stride) ∙ stride_code (line_of at word) rest done t.played word

  -- an `end` has no cycle
  end_past : (at code : ℕ) (rest : List Line) → Taken g j bytes past (line_of at (End code)) rest done r → r.past ≡ past
  end_past at code rest t =
      past_so (line_of at (End code)) rest t
      ∙ nothing_played ce bytes past t.played (ap (λ (m : List Move). answered ce m bytes past) (sym (same_some (sym t.is_moved))) ∙ t.is_played)

  module _ (d : Doing) (works : List Sequence) (has : Has ce first past d works) (counts : length works ≡ closers done) where
    -- a word of the body, with those behind it
    module _ (at : ℕ) (word : Word) (words : List Word) (are : ahead ≡ lines_from ((word ∷ words) ++ (End 1 ∷ [])) at) (ends : failure ≡ at + suc (length words))
        (fails : all_lead_to failure (word ∷ words) ≡ true) (lead : leads g j (place_of j done) d (word ∷ words) ≡ true) (begins : works ++ sends_with g j (place_of j done) d (word ∷ words) ≡ all) where
      abbrev rest : List Line
      rest = lines_from (words ++ (End 1 ∷ [])) (at + 1)

      t : Taken g j bytes past (line_of at word) rest done r
      t = taken_at (line_of at word) rest are

      word_on : r.code ≡ None → After g j first failure all r
      word_on still = by (is_end word) refl
        where
          by : (b : Bool) → is_end word ≡ b → After g j first failure all r
          by true e = absurd (end_coded word e (sym (code_is at word rest t) ∙ still))
          by false e =
              let parts = and_true (leads_to failure word) (all_lead_to failure words) fails in
              word_steps g j first failure all one past done d works has counts words at ends parts.1 r word bytes e lead begins parts.0 t (small_there (line_of at word) rest t)

    goes_on : r.code ≡ None → (words : List Word) (at : ℕ) → ahead ≡ lines_from (words ++ (End 1 ∷ [])) at → failure ≡ at + length words → all_lead_to failure words ≡ true → leads g j (place_of j done) d words ≡ true →
        works ++ sends_with g j (place_of j done) d words ≡ all → After g j first failure all r
    goes_on still [] at are ends fails lead begins = absurd (off lead)
    goes_on still (word ∷ words) at are ends fails lead begins = word_on at word words are ends fails lead begins still

    ahead_on : r.code ≡ None → Ahead g j failure (place_of j done) d works all ahead → After g j first failure all r
    ahead_on still (inl goes) = goes_on still goes.words goes.at goes.are goes.ends goes.fails goes.leads_on goes.begins
    ahead_on still (inr fails) = absurd (none (sym still ∙ code_is failure (End 1) [] (taken_at (line_of failure (End 1)) [] fails.are)))

    end_counts : (at code : ℕ) (rest : List Line) → Taken g j bytes past (line_of at (End code)) rest done r → length works ≡ closers r.done
    end_counts at code rest t = (let now' : closers r.done ≡ closers done + 0 = ap (λ (x : Stride). closers x.done) (sym t.is_stride) in let before = counts in omega (arith, now', before))

    over_at : (p : List Item) → r.past ≡ p → Has ce first p Rests works → Has ce first r.past Rests works
    over_at p e has' = subst (λ (x : List Item). Has ce first x Rests works) (sym e) has'

    word_over : (code : ℕ) → r.code ≡ Some code → (at : ℕ) (word : Word) (words : List Word) → ahead ≡ lines_from ((word ∷ words) ++ (End 1 ∷ [])) at → leads g j (place_of j done) d (word ∷ words) ≡ true →
        works ++ sends_with g j (place_of j done) d (word ∷ words) ≡ all → Over ce first all r.past r.done code
    word_over code is at (End n) words are lead begins =
        let t = taken_at (line_of at (End n)) (lines_from (words ++ (End 1 ∷ [])) (at + 1)) are in
        record {
          works = works;
          left = [];
          has = over_at past (end_past at n (lines_from (words ++ (End 1 ∷ [])) (at + 1)) t) (subst (λ (s : Doing). Has ce first past s works) (rest_is d lead) has);
          counts = end_counts at n (lines_from (words ++ (End 1 ∷ [])) (at + 1)) t;
          begins = begins;
          over = λ e. refl;
        }
    word_over code is at word words are lead begins =
        absurd (none (sym (code_is at word (lines_from (words ++ (End 1 ∷ [])) (at + 1)) (taken_at (line_of at word) (lines_from (words ++ (End 1 ∷ [])) (at + 1)) are)) ∙ is))

    goes_over : (code : ℕ) → r.code ≡ Some code → (words : List Word) (at : ℕ) → ahead ≡ lines_from (words ++ (End 1 ∷ [])) at → leads g j (place_of j done) d words ≡ true → works ++ sends_with g j (place_of j done) d words ≡ all → Over ce first all r.past r.done code
    goes_over code is [] at are lead begins = absurd (off lead)
    goes_over code is (word ∷ words) at are lead begins = word_over code is at word words are lead begins

    ahead_over : (code : ℕ) → r.code ≡ Some code → Ahead g j failure (place_of j done) d works all ahead → Over ce first all r.past r.done code
    ahead_over code is (inl goes) = goes_over code is goes.words goes.at goes.are goes.leads_on goes.begins
    ahead_over code is (inr fails) =
        let t = taken_at (line_of failure (End 1)) [] fails.are in
        record {
          works = works;
          left = fails.left;
          has = over_at past (end_past failure 1 [] t) (subst (λ (s : Doing). Has ce first past s works) fails.rests has);
          counts = end_counts failure 1 [] t;
          begins = fails.begins;
          over = λ e. absurd (let one = same_some (sym (code_is failure (End 1) [] t) ∙ is) in omega (arith, one, e));
        }

-- ---- a whole program

legal_began : (s : Channel) (j : Job) (seat : Seat) (run : Reaches s j seat) → is_legal s.geometry s.targets (began s j seat run) ≡ true
legal_began s j _ (starts past legal idle) = legal
legal_began s j _ (steps seat bytes r run may is truthful still) = legal_began s j seat run
legal_began s j _ (readies seat i run ready permitted) = legal_began s j seat run
legal_began s j _ (others seat c m run free own there apart) = legal_began s j seat run

abbrev failure_of : List PlainOp → ℕ
failure_of ops = operations_len ops + 1

abbrev first_of : Job → List Item → List Sequence
first_of j before = sequences_from j.lun.ce (reverse before) Rests

abbrev IsAt : Channel → Job → List PlainOp → List Item → Seat → Type 0
IsAt s j ops before seat = Stands s.geometry j (first_of j before) (failure_of ops) (map (sequence_of s.geometry j) ops) seat.past seat.ahead seat.done

loaded_stands : (s : Channel) (j : Job) (ops : List PlainOp) (past : List Item) → RunsPlainly s j ops past → IsAt s j ops past (loaded j past)
loaded_stands s j ops past plain = record {
  doing = Rests;
  works = [];
  has = record { doing = plain.rested; begun = sym (append-nil (first_of j past)) };
  counts = refl;
  ahead_is = inl (record {
    words = body (failure_of ops) ops;
    at = 0;
    are = ap (λ (x : Microprogram). unrolled x.words) plain.text ∙ plain_lines ops;
    ends = (let long = body_long (failure_of ops) ops in omega (arith, long));
    fails = body_fails (failure_of ops) ops;
    leads_on = body_leads s.geometry j (place_of j []) (failure_of ops) ops;
    begins = body_sends s.geometry j (place_of j []) (failure_of ops) ops;
  });
}

-- of two LUNs alone on their targets
other_target : (a b c d luns : ℕ) → luns ≡ 1 → ltb b luns ≡ true → ltb d luns ≡ true → (a == c && b == d) ≡ false → a ≡ c → ⊥
other_target a b c d luns one low low' apart e = by (ltb-true b luns low) (ltb-true d luns low')
  where
    no : true ≡ false → ⊥
    no h = cc

    by : b < luns → d < luns → ⊥
    by p q = no (sym (ap (λ x. x && b == d) (eq-eqb a c e) ∙ eq-eqb b d (omega (arith, p, q, one))) ∙ apart)

module _ (s : Channel) (j : Job) (ops : List PlainOp) (before : List Item) (plain : RunsPlainly s j ops before) where
  step_stands : (seat : Seat) (bytes : List ℕ) (r : Stride) → answered_step s.geometry j bytes seat.past seat.ahead seat.done ≡ Some r → r.code ≡ None → AreBytes r.past → IsAt s j ops before seat →
      IsAt s j ops before (after_step r)
  step_stands seat bytes r step still small was =
      let after =
      ahead_on s.geometry j (first_of j before) (failure_of ops) (map (sequence_of s.geometry j) ops) plain.one_lun bytes seat.past seat.ahead seat.done r step small was.doing was.works was.has was.counts still was.ahead_is in
      record { doing = after.doing; works = after.works; has = after.has; counts = after.counts; ahead_is = after.ahead }

  ready_stands : (seat : Seat) (i : Item) → is_cycle i ≡ false → IsAt s j ops before seat → IsAt s j ops before (after_item i seat)
  ready_stands seat (Cyc c) h was = cc
  ready_stands seat (Rdy x lun fail) h was = record {
    doing = was.doing;
    works = was.works;
    has = has_other j.lun.ce (first_of j before) seat.past was.doing was.works (Rdy x lun fail) was.has refl refl;
    counts = was.counts;
    ahead_is = was.ahead_is;
  }
  ready_stands seat (Ard x lun fail) h was = record {
    doing = was.doing;
    works = was.works;
    has = has_other j.lun.ce (first_of j before) seat.past was.doing was.works (Ard x lun fail) was.has refl refl;
    counts = was.counts;
    ahead_is = was.ahead_is;
  }

  other_stands : (seat : Seat) (c : Cycle) (m : Lun) → IsOwn s m seat.past (Cyc c) → is_there s m ≡ true → same_lun m j.lun ≡ false → IsAt s j ops before seat → IsAt s j ops before (after_item (Cyc c) seat)
  other_stands seat c m own there apart was =
      let lun = (and_true (ltb m.ce s.targets) (ltb m.lun s.geometry.luns) there).1 in
      let mine = (and_true (ltb j.lun.ce s.targets) (ltb j.lun.lun s.geometry.luns) plain.lun_there).1 in
      let target = eqb-true c.ce m.ce (first_true (c.ce == m.ce) _ own.own) in
      let away = ne_eqb c.ce j.lun.ce (λ e. other_target m.ce m.lun j.lun.ce j.lun.lun s.geometry.luns plain.one_lun lun mine apart (sym target ∙ e)) in
      record {
        doing = was.doing;
        works = was.works;
        has =
            has_other j.lun.ce (first_of j before) seat.past was.doing was.works (Cyc c) was.has
            (ap (λ (b : Bool). cond b (by_cycle was.doing c.kind c.byte) (Some was.doing)) away) (ap (λ (b : Bool). cond b (sent_in was.doing c.kind c.byte) None) away);
        counts = was.counts;
        ahead_is = was.ahead_is;
      }

stands : (s : Channel) (j : Job) (ops : List PlainOp) (seat : Seat) (run : Reaches s j seat) → RunsPlainly s j ops (began s j seat run) → AreBytes seat.past → IsAt s j ops (began s j seat run) seat
stands s j ops _ (starts past legal idle) plain small = loaded_stands s j ops past plain
stands s j ops _ (steps seat bytes r run may is truthful still) plain small =
    step_stands s j ops (began s j seat run) plain seat bytes r is still small
    (stands s j ops seat run plain
    (small_before s.geometry j (first_of j (began s j seat run)) (failure_of ops) (map (sequence_of s.geometry j) ops) plain.one_lun bytes seat.past seat.ahead seat.done r is small))
stands s j ops _ (readies seat (Cyc c) run ready permitted) plain small = cc
stands s j ops _ (readies seat (Rdy x lun fail) run ready permitted) plain small = ready_stands s j ops (began s j seat run) plain seat (Rdy x lun fail) ready (stands s j ops seat run plain small)
stands s j ops _ (readies seat (Ard x lun fail) run ready permitted) plain small = ready_stands s j ops (began s j seat run) plain seat (Ard x lun fail) ready (stands s j ops seat run plain small)
stands s j ops _ (others seat c m run free own there apart) plain small = other_stands s j ops (began s j seat run) plain seat c m own there apart (stands s j ops seat run plain small.1)

-- ---- and the operations of its trace

abbrev tail_of : List Sequence → List Sequence
tail_of [] = []
tail_of (x ∷ xs) = xs

abbrev head_of : Sequence → List Sequence → Sequence
head_of d [] = d
head_of d (x ∷ xs) = x

few_first : (f : PlainOp → Sequence) (works left : List Sequence) (ops : List PlainOp) → works ++ left ≡ map f ops → length works ≤ length ops
few_first f [] left ops h = omega arith
few_first f (w ∷ works) left [] h = cc
few_first f (w ∷ works) left (op ∷ ops) h = (let more = few_first f works left ops (ap tail_of h) in omega (arith, more))

first_are : (f : PlainOp → Sequence) (works left : List Sequence) (ops : List PlainOp) → works ++ left ≡ map f ops → works ≡ map f (take (length works) ops)
first_are f [] left ops h = refl
first_are f (w ∷ works) left [] h = cc
first_are f (w ∷ works) left (op ∷ ops) h = ap (λ (x : Sequence). x ∷ works) (ap (head_of w) h) ∙ ap (λ (xs : List Sequence). f op ∷ xs) (first_are f works left ops (ap tail_of h))

all_are : (f : PlainOp → Sequence) (works : List Sequence) (ops : List PlainOp) → works ++ [] ≡ map f ops → length works ≡ length ops
all_are f [] [] h = refl
all_are f [] (op ∷ ops) h = cc
all_are f (w ∷ works) [] h = cc
all_are f (w ∷ works) (op ∷ ops) h = ap suc (all_are f works ops (ap tail_of h))

legal_base : (s : Channel) (j : Job) (ops : List PlainOp) (before past : List Item) → RunsPlainly s j ops before → is_legal s.geometry s.targets past ≡ true → IsLegalBase s.geometry s.targets (reverse past)
legal_base s j ops before past plain legal = record {
  few_targets = plain.few_targets;
  few_luns = (let one = plain.one_lun in omega (arith, one));
  base = plain.base;
  legal = ap (is_legal s.geometry s.targets) (reverse-reverse past) ∙ legal;
}

lines_so : (s : Channel) (j : Job) (ops : List PlainOp) (before past : List Item) → RunsPlainly s j ops before → is_legal s.geometry s.targets past ≡ true → doing_at_end j.lun.ce (reverse past) Rests ≡ Some Rests →
    map sent_of (lines_after s j past) ≡ map sent_as (sequences_from j.lun.ce (reverse past) Rests)
lines_so s j ops before past plain legal rests = (polled s.geometry s.targets (reverse past) j.lun.ce Rests (legal_base s j ops before past plain legal) plain.one_lun rests refl).lines

pub lines_are : (s : Channel) (j : Job) (ops : List PlainOp) (seat : Seat) (run : Reaches s j seat) (bytes : List ℕ) (r : Stride) (code : ℕ) → RunsPlainly s j ops (began s j seat run) →
    answered_step s.geometry j bytes seat.past seat.ahead seat.done ≡ Some r → r.code ≡ Some code → is_legal s.geometry s.targets r.past ≡ true → AreBytes r.past →
    LinesAre s j ops (began s j seat run) r.past r.done code
lines_are s j ops seat run bytes r code plain step is legal small =
    let before = began s j seat run in
    let there = stands s j ops seat run plain (small_before s.geometry j (first_of j before) (failure_of ops) (map (sequence_of s.geometry j) ops) plain.one_lun bytes seat.past seat.ahead seat.done r step small) in
    let over =
    ahead_over s.geometry j (first_of j before) (failure_of ops) (map (sequence_of s.geometry j) ops) plain.one_lun bytes seat.past seat.ahead seat.done r step small there.doing there.works there.has there.counts code is there.ahead_is in
    record {
      count = length over.works;
      sent = over.counts;
      few = few_first (sequence_of s.geometry j) over.works over.left ops over.begins;
      lines =
          lines_so s j ops before r.past plain legal over.has.doing
          ∙ ap (map sent_as) over.has.begun
          ∙ map-append sent_as (first_of j before) over.works
          ∙ ap (λ (xs : List Sent). xs ++ map sent_as over.works) (sym (lines_so s j ops before before plain (legal_began s j seat run) plain.rested))
          ∙ ap (λ (xs : List Sequence). map sent_of (lines_after s j before) ++ map sent_as xs) (first_are (sequence_of s.geometry j) over.works over.left ops over.begins);
      all = λ e. all_are (sequence_of s.geometry j) over.works ops (ap (λ (xs : List Sequence). over.works ++ xs) (sym (over.over e)) ∙ over.begins);
      rested = over.has.doing;
    }

-- ---- a verified program

legal_at : (s : Channel) (j : Job) (seat : Seat) → Reaches s j seat → StaysFine s j → is_legal s.geometry s.targets seat.past ≡ true
legal_at s j _ (starts past legal idle) fine = legal
legal_at s j _ (steps seat bytes r run may is truthful still) fine =
    legal_step s j bytes seat.past seat.ahead seat.done r (legal_at s j seat run fine) (fine seat run may) is
legal_at s j _ (readies seat i run ready permitted) fine = legal_more s.geometry s.targets seat.past i (legal_at s j seat run fine) permitted
legal_at s j _ (others seat c m run free own there apart) fine = legal_more s.geometry s.targets seat.past (Cyc c) (legal_at s j seat run fine) own.permitted

pub verified_lines : (s : Channel) (j : Job) (ops : List PlainOp) (seat : Seat) (run : Reaches s j seat) (bytes : List ℕ) (r : Stride) (code : ℕ) → RunsPlainly s j ops (began s j seat run) →
    IsSafe (plain_text ops) s.geometry → IsJobOf (plain_text ops) s.geometry s j → may_step j seat ≡ true →
    answered_step s.geometry j bytes seat.past seat.ahead seat.done ≡ Some r → r.code ≡ Some code → AreBytes r.past → LinesAre s j ops (began s j seat run) r.past r.done code
verified_lines s j ops seat run bytes r code plain safe job may step is small =
    let fine : StaysFine s j = safe s j job in
    lines_are s j ops seat run bytes r code plain step is
    (legal_step s j bytes seat.past seat.ahead seat.done r (legal_at s j seat run fine) (fine seat run may) step) small
