-- A step changes nothing of the buffer but what its `get` fills, and takes as many bytes as its word asks for.
use Rattle.std.proofs.Common.{◌≡◌, ◌≢◌, ℕ, zero, suc, ◌+◌, ◌<◌, ◌≤◌, ◌⊎◌, inl, inr, Bool, true, false, ◌&&◌, cond, leb, ltb, List, [], ◌∷◌, ◌++◌, Option, Some, None, refl, sym, ap, ◌∙◌, subst, arith, length, replicate, get_or, get_or-set_other}
use Rattle.std.proofs.lemmas.Bool.Decides.{nat_tests}
use Rattle.std.specs.List.{slice_set}
use Rattle.std.proofs.lemmas.Bool.{or_parts as neither}
use Rattle.nand_geometry.specs.declared.parts.Parts.{Parts}
use Rattle.nand_geometry.specs.Row.{row_bytes_of}
use Rattle.onfi_cycle.specs.declared.item.Kind.{Kind}
use Rattle.onfi_cycle.specs.declared.item.Kind.TheVariants.{Cmd, Adr, Din, Dout}
use Rattle.onfi_cycle.specs.declared.item.Item.{Item}
use Rattle.onfi_cycle.specs.Channel.{Channel, cycle}
use Rattle.micro_word.specs.declared.word.Word.{Word}
use Rattle.micro_word.specs.declared.word.Word.TheVariants.{End, Command, Address, Get, Put, Wait, Yield, ReadStatus, BranchOnStatus, Jump}
use Rattle.micro_program.specs.Lines.{Line}
use Rattle.micro_program.specs.Program.{Job, Done, Answer, Nothing, Polled, Got, buffer_after, buffer_now, place_now, is_ready_status}
use Rattle.onfi_cycle.specs.Content.{written}
use Rattle.micro_program.specs.Moves.{Move, Give, Take, and_then, moves, gives, poll, address, put_bytes}
use Rattle.micro_program.specs.Played.{Played, answered, played, with_byte}
use Rattle.micro_program.specs.Step.{Stride, Went, NotReady, did, Outcome, first_byte, stride, answered_step}
use Rattle.seq_core.specs.Buffer.{fills, is_filled, KeepsOthers}
use Rattle.seq_core.specs.Made.{cycles_of, takes, bytes_told}
use Rattle.seq_core.proofs.Below.{keeps_length, answered_parts}
use Rattle.seq_core.proofs.Plays.{took}

-- 1. bytes elsewhere

abbrev IsOutside : ℕ → ℕ → ℕ → Type 0
IsOutside place len k = (k < place) ⊎ (place + len ≤ k)

outside : (place len k : ℕ) → (leb place k && ltb k (place + len)) ≡ false → IsOutside place len k
outside place len k h = at (leb place k) (ltb k (place + len)) refl refl h
  where
    at : (a b : Bool) → leb place k ≡ a → ltb k (place + len) ≡ b → (a && b) ≡ false → IsOutside place len k
    at true true e f h = cc
    at true false e f h = inr (grind (arith, nat_tests))
    at false b e f h = inl (grind (arith, nat_tests))

one_on : (place len k : ℕ) → IsOutside place (suc len) k → IsOutside (place + 1) len k
one_on place len k (inl h) = inl (omega (arith, h))
one_on place len k (inr h) = inr (omega (arith, h))

not_here : (place len k : ℕ) → IsOutside place (suc len) k → k ≢ place
not_here place len k (inl h) e = omega (arith, h, e)
not_here place len k (inr h) e = omega (arith, h, e)

written_elsewhere : (bytes : List ℕ) (place : ℕ) (buffer : List ℕ) (k : ℕ) → IsOutside place (length bytes) k → get_or (written bytes place buffer) k 0 ≡ get_or buffer k 0
written_elsewhere [] place buffer k h = refl
written_elsewhere (byte ∷ bytes) place buffer k h =
    written_elsewhere bytes (place + 1) (slice_set buffer place byte) k (one_on place (length bytes) k h) ∙ get_or-set_other buffer place k byte 0 (not_here place (length bytes) k h)

-- what was got was asked for by a `get` of so many bytes
abbrev pub AnswerFits : Done → Type 0
AnswerFits d = (bytes : List ℕ) → d.answer ≡ Got bytes → d.word ≡ Get (length bytes)

-- one word more is done
pub keeps_more : (d : Done) (done : List Done) (before : List ℕ) → AnswerFits d → KeepsOthers done before (buffer_now before done) → KeepsOthers (d ∷ done) before (buffer_now before (d ∷ done))
keeps_more d done before fit kept =
    record { size = keeps_length before (d ∷ done); bytes = λ k h. let p = neither (fills (place_now done) d.word k) (is_filled done k) h in at d.answer refl k p.0 ∙ kept.bytes k p.1 }
  where
    at : (a : Answer) → d.answer ≡ a → (k : ℕ) → fills (place_now done) d.word k ≡ false → get_or (buffer_after a (place_now done) (buffer_now before done)) k 0 ≡ get_or (buffer_now before done) k 0
    at Nothing e k h = refl
    at (Polled status) e k h = refl
    at (Got bytes) e k h =
        written_elsewhere bytes (place_now done) (buffer_now before done) k
        (outside (place_now done) (length bytes) k (subst (λ (w : Word). fills (place_now done) w k ≡ false) (fit bytes e) h))

-- 2. how many bytes a word takes

abbrev pub taken : Word → ℕ
taken (Get len) = len
taken Wait = 1
taken ReadStatus = 1
taken _ = 0

given_takes : (kind : Kind) (bytes : List ℕ) (rest : List Move) → takes (gives kind bytes ++ rest) ≡ takes rest
given_takes kind [] rest = refl
given_takes kind (byte ∷ bytes) rest = given_takes kind bytes rest

gives_take : (kind : Kind) (bytes : List ℕ) → takes (gives kind bytes) ≡ 0
gives_take kind [] = refl
gives_take kind (byte ∷ bytes) = gives_take kind bytes

all_takes : (len : ℕ) → takes (replicate len Take) ≡ len
all_takes zero = refl
all_takes (suc len) = ap suc (all_takes len)

given_of : (kind : Kind) (o : Option (List ℕ)) (moved : List Move) → and_then o (λ bytes. Some (gives kind bytes)) ≡ Some moved → takes moved ≡ 0
given_of kind None moved e = cc
given_of kind (Some bytes) moved e = let same : gives kind bytes ≡ moved = cc in ap takes (sym same) ∙ gives_take kind bytes

poll_takes : (g : Parts) (j : Job) (moved : List Move) → poll g j ≡ Some moved → takes moved ≡ 1
poll_takes g j moved e = at (ltb 1 g.luns) (row_bytes_of g j.lun.lun 0 0) e
  where
    at : (b : Bool) (o : Option (List ℕ)) → cond b (and_then o (λ row. Some (Give Cmd 0x78 ∷ (gives Adr row ++ (Take ∷ []))))) (Some (Give Cmd 0x70 ∷ (Take ∷ []))) ≡ Some moved → takes moved ≡ 1
    at true None e = cc
    at true (Some row) e =
        let same : (Give Cmd 0x78 ∷ (gives Adr row ++ (Take ∷ []))) ≡ moved = cc in
        ap takes (sym same) ∙ given_takes Adr row (Take ∷ [])
    at false o e = let same : (Give Cmd 0x70 ∷ (Take ∷ [])) ≡ moved = cc in ap takes (sym same)

pub moves_take : (g : Parts) (j : Job) (done : List Done) (word : Word) (moved : List Move) → moves g j done word ≡ Some moved → takes moved ≡ taken word
moves_take g j done (Command byte) moved e = let same : (Give Cmd byte ∷ []) ≡ moved = cc in ap takes (sym same)
moves_take g j done (Address from count) moved e = given_of Adr (address g j done from count) moved e
moves_take g j done (Get len) moved e = let same : replicate len Take ≡ moved = cc in ap takes (sym same) ∙ all_takes len
moves_take g j done (Put len) moved e = given_of Din (put_bytes j done len) moved e
moves_take g j done Wait moved e = poll_takes g j moved e
moves_take g j done ReadStatus moved e = poll_takes g j moved e
moves_take g j done _ moved e = let same : moved ≡ [] = cc in ap takes same

-- what was played: the cycles of the moves, one byte for each output
pub record PlaysCycles (ce : ℕ) (moved : List Move) (past later : List Item) (bytes : List ℕ) : Type 0 where
  pub past_is : later ≡ cycles_of ce moved bytes past
  pub count : length bytes ≡ takes moved

pub plays_cycles : (s : Channel) (ce : ℕ) (moved : List Move) (past later : List Item) (bytes : List ℕ) → played s ce moved past ≡ Some (record { past = later; bytes = bytes }) → PlaysCycles ce moved past later bytes
plays_cycles s ce [] past later bytes e =
    let p : Played = record { past = past; bytes = [] } in
    let q : Played = record { past = later; bytes = bytes } in
    let same : p ≡ q = cc in
    record { past_is = sym (ap (λ (x : Played). x.past) same); count = sym (ap (λ (x : Played). length x.bytes) same) }
plays_cycles s ce (Give kind byte ∷ moved) past later bytes e =
    let r = plays_cycles s ce moved (cycle ce kind byte ∷ past) later bytes e in
    record { past_is = r.past_is; count = r.count }
plays_cycles s ce (Take ∷ moved) past later bytes e =
    let t = took s ce moved past later bytes e in
    let r = plays_cycles s ce moved (cycle ce Dout t.byte ∷ past) later t.more t.plays in
    record {
      past_is = r.past_is ∙ ap (λ (xs : List ℕ). cycles_of ce (Take ∷ moved) xs past) t.bytes_are;
      count = sym (ap length t.bytes_are) ∙ ap suc r.count;
    }

-- the same of moves whose outputs give these bytes
pub answered_cycles : (ce : ℕ) (moved : List Move) (answers : List ℕ) (past : List Item) (p : Played) → answered ce moved answers past ≡ Some p → PlaysCycles ce moved past p.past p.bytes
answered_cycles ce [] [] past p e =
    let both : Some (let q : Played = record { past = past; bytes = [] } in q) ≡ Some p = e in
    let same : record { past = past; bytes = [] } ≡ p = cc in
    subst (λ (q : Played). PlaysCycles ce [] past q.past q.bytes) same (record { past_is = refl; count = refl })
answered_cycles ce [] (byte ∷ answers) past p e = cc
answered_cycles ce (Give kind byte ∷ moved) answers past p e =
    let r = answered_cycles ce moved answers (cycle ce kind byte ∷ past) p e in
    record { past_is = r.past_is; count = r.count }
answered_cycles ce (Take ∷ moved) [] past p e = cc
answered_cycles ce (Take ∷ moved) (byte ∷ answers) past p e = at (answered ce moved answers (cycle ce Dout byte ∷ past)) refl e (λ q f. answered_cycles ce moved answers (cycle ce Dout byte ∷ past) q f)
  where
    at : (o : Option Played) → answered ce moved answers (cycle ce Dout byte ∷ past) ≡ o → and_then o (with_byte byte) ≡ Some p → ((q : Played) → answered ce moved answers (cycle ce Dout byte ∷ past) ≡ Some q → PlaysCycles ce moved (cycle ce Dout byte ∷ past) q.past q.bytes) → PlaysCycles ce (Take ∷ moved) past p.past p.bytes
    at None f h again = cc
    at (Some q) f h again =
        let both : Some (let x : Played = record { past = q.past; bytes = byte ∷ q.bytes } in x) ≡ Some p = h in
        let same : record { past = q.past; bytes = byte ∷ q.bytes } ≡ p = cc in
        let r = again q f in
        subst (λ (x : Played). PlaysCycles ce (Take ∷ moved) past x.past x.bytes) same (record { past_is = r.past_is; count = ap suc r.count })

-- 3. what a stride leaves of the words done: one more, or a `wait` that comes again

pub record IsOneMore (line : Line) (done : List Done) (p : Played) (r : Stride) : Type 0 where
  pub d : Done
  pub is_done : r.done ≡ d ∷ done
  pub word : d.word ≡ line.word
  pub told : bytes_told d.answer ≡ p.bytes
  pub fit : AnswerFits d

pub record ComesAgain (line : Line) (rest : List Line) (done : List Done) (p : Played) (r : Stride) : Type 0 where
  pub word : line.word ≡ Wait
  pub is_done : r.done ≡ done
  pub is_ahead : r.ahead ≡ line ∷ rest
  pub status : ℕ
  pub told : status ∷ [] ≡ p.bytes
  pub unready : is_ready_status status ≡ false

none_told : (bytes : List ℕ) → length bytes ≡ 0 → [] ≡ bytes
none_told [] h = refl
none_told (byte ∷ bytes) h = absurd (omega arith)

one_told : (bytes : List ℕ) → length bytes ≡ 1 → first_byte bytes ∷ [] ≡ bytes
one_told [] h = absurd (omega arith)
one_told (byte ∷ []) h = refl
one_told (byte ∷ (more ∷ bytes)) h = absurd (omega arith)

one_more : (line : Line) (done : List Done) (p : Played) (answer : Answer) (ahead : List Line) (code : Option ℕ) (outcome : Outcome) → bytes_told answer ≡ p.bytes → AnswerFits (record { word = line.word; answer = answer }) → IsOneMore line done p (record { past = p.past; ahead = ahead; done = record { word = line.word; answer = answer } ∷ done; code = code; outcome = outcome })
one_more line done p answer ahead code outcome told fit = record { d = record { word = line.word; answer = answer }; is_done = refl; word = refl; told = told; fit = fit }

nothing_fits : (word : Word) → AnswerFits (record { word = word; answer = Nothing })
nothing_fits word bytes e = cc

polled_fits : (word : Word) (status : ℕ) → AnswerFits (record { word = word; answer = Polled status })
polled_fits word status bytes e = cc

got_fits : (word : Word) (len : ℕ) (got : List ℕ) → word ≡ Get len → length got ≡ len → AnswerFits (record { word = word; answer = Got got })
got_fits word len got is count bytes e =
    let same : got ≡ bytes = cc in
    is ∙ ap Get (sym count ∙ ap length same)

abbrev pub StrideLeaves : Line → List Line → List Done → Played → Stride → Type 0
StrideLeaves line rest done p r = IsOneMore line done p r ⊎ ComesAgain line rest done p r

pub stride_leaves : (line : Line) (rest : List Line) (done : List Done) (p : Played) (word : Word) → line.word ≡ word → length p.bytes ≡ taken word → StrideLeaves line rest done p (stride line rest done p word)
stride_leaves line rest done p (End code) is count = inl (one_more line done p Nothing rest (Some code) _ (none_told p.bytes count) (nothing_fits line.word))
stride_leaves line rest done p Yield is count = inl (one_more line done p Nothing rest None _ (none_told p.bytes count) (nothing_fits line.word))
stride_leaves line rest done p Wait is count = at (is_ready_status (first_byte p.bytes)) refl
  where
    at : (b : Bool) → is_ready_status (first_byte p.bytes) ≡ b → StrideLeaves line rest done p (cond b (did p line.word (Polled (first_byte p.bytes)) rest done Went) (record { past = p.past; ahead = line ∷ rest; done = done; code = None; outcome = NotReady }))
    at true e = inl (one_more line done p (Polled (first_byte p.bytes)) rest None _ (one_told p.bytes count) (polled_fits line.word _))
    at false e = inr (record { word = is; is_done = refl; is_ahead = refl; status = first_byte p.bytes; told = one_told p.bytes count; unready = e })
stride_leaves line rest done p ReadStatus is count = inl (one_more line done p (Polled (first_byte p.bytes)) rest None _ (one_told p.bytes count) (polled_fits line.word _))
stride_leaves line rest done p (Get len) is count = inl (one_more line done p (Got p.bytes) rest None _ refl (got_fits line.word len p.bytes is count))
stride_leaves line rest done p (BranchOnStatus mask target) is count = inl (one_more line done p Nothing _ None _ (none_told p.bytes count) (nothing_fits line.word))
stride_leaves line rest done p (Jump target) is count = inl (one_more line done p Nothing _ None _ (none_told p.bytes count) (nothing_fits line.word))
stride_leaves line rest done p _ is count = inl (one_more line done p Nothing rest None _ (none_told p.bytes count) (nothing_fits line.word))

-- 4. a step

pub record StepLeaves (s : Channel) (j : Job) (past : List Item) (line : Line) (rest : List Line) (done : List Done) (r : Stride) : Type 0 where
  pub moved : List Move
  pub is_moved : moves s.geometry j done line.word ≡ Some moved
  pub p : Played
  pub past_is : p.past ≡ cycles_of j.lun.ce moved p.bytes past
  pub count : length p.bytes ≡ takes moved
  pub past_kept : r.past ≡ p.past
  pub leaves : StrideLeaves line rest done p r

stride_past : (line : Line) (rest : List Line) (done : List Done) (p : Played) (word : Word) → let r = stride line rest done p word in r.past ≡ p.past
stride_past line rest done p Wait = at (is_ready_status (first_byte p.bytes))
  where
    at : (b : Bool) → let r : Stride = cond b (did p line.word (Polled (first_byte p.bytes)) rest done Went) (record { past = p.past; ahead = line ∷ rest; done = done; code = None; outcome = NotReady }) in r.past ≡ p.past
    at true = refl
    at false = refl
stride_past line rest done p _ = refl

pub step_leaves : (s : Channel) (j : Job) (bytes : List ℕ) (past : List Item) (line : Line) (rest : List Line) (done : List Done) (r : Stride) → answered_step s.geometry j bytes past (line ∷ rest) done ≡ Some r → StepLeaves s j past line rest done r
step_leaves s j bytes past line rest done r e =
    let parts = answered_parts s.geometry j bytes past line rest done r e in
    let plays = answered_cycles j.lun.ce parts.moved bytes past parts.p parts.is_p in
    record {
      moved = parts.moved;
      is_moved = parts.is_moved;
      p = parts.p;
      past_is = plays.past_is;
      count = plays.count;
      past_kept = sym (ap (λ (q : Stride). q.past) parts.is_r) ∙ stride_past line rest done parts.p line.word;
      leaves = subst (StrideLeaves line rest done parts.p) parts.is_r
          (stride_leaves line rest done parts.p line.word refl (plays.count ∙ moves_take s.geometry j done line.word parts.moved parts.is_moved));
    }

pub step_keeps : (s : Channel) (j : Job) (bytes : List ℕ) (past : List Item) (line : Line) (rest : List Line) (done : List Done) (r : Stride) → answered_step s.geometry j bytes past (line ∷ rest) done ≡ Some r → KeepsOthers done j.buffer (buffer_now j.buffer done) → KeepsOthers r.done j.buffer (buffer_now j.buffer r.done)
step_keeps s j bytes past line rest done r e kept = let left = step_leaves s j bytes past line rest done r e in at left.p left.leaves
  where
    of : (now : List Done) → r.done ≡ now → KeepsOthers now j.buffer (buffer_now j.buffer now) → KeepsOthers r.done j.buffer (buffer_now j.buffer r.done)
    of now is h = subst (λ (x : List Done). KeepsOthers x j.buffer (buffer_now j.buffer x)) (sym is) h

    at : (p : Played) → StrideLeaves line rest done p r → KeepsOthers r.done j.buffer (buffer_now j.buffer r.done)
    at p (inl more) = of (more.d ∷ done) more.is_done (keeps_more more.d done j.buffer more.fit kept)
    at p (inr again) = of done again.is_done kept
