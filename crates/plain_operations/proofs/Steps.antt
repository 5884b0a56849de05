-- A step of a program of plain operations, and what it makes of the host of its target.
use Rattle.std.proofs.Common.{◌≡◌, ◌⊎◌, inl, inr, ℕ, suc, ◌+◌, ◌<◌, ◌==◌, Bool, true, false, ◌&&◌, cond, List, [], ◌∷◌, ◌++◌, Option, Some, None, refl, sym, ap, ◌∙◌, subst, arith, length, append_assoc, drop, leb, leb-true, ltb, eqb-true}
use Rattle.std.proofs.lemmas.Bool.{agree_below_at}
use Rattle.std.proofs.lemmas.List.{length-append, length-drop, length-take-le}
use Rattle.nand_geometry.specs.declared.parts.Parts.{Parts}
use Rattle.nand_geometry.specs.Limits.{indices, planes}
use Rattle.nand_geometry.specs.Row.{row_bytes_of, row_number, indexed, row_cycles}
use Rattle.onfi_cycle.specs.declared.item.Item.{Item}
use Rattle.onfi_cycle.specs.declared.item.Kind.TheVariants.{Cmd, Adr, Din, Dout}
use Rattle.onfi_cycle.specs.Channel.{cycle}
use Rattle.micro_word.specs.declared.word.Word.{Word}
use Rattle.micro_word.specs.declared.word.Word.TheVariants.{End, Command, Address, Get, Put, Seek, Column, RowAdd, Row, Plane, Wait, Yield, ReadStatus, BranchOnStatus, Loop, Next, Jump}
use Rattle.micro_program.specs.Lines.{Line, from_place, lines_from}
use Rattle.micro_program.specs.Program.{Job, Done, Polled, column_now, plane_now, index_now, place_now, status_now, buffer_now, is_ready_status, meets}
use Rattle.micro_program.specs.Moves.{Move, Give, Take, and_then, part, column_bytes, address, gives, poll, moves}
use Rattle.micro_program.specs.Played.{Played, answered}
use Rattle.micro_program.specs.Step.{Stride, Went, NotReady, first_byte, did, stride, answered_step}
use Rattle.trace_ops.specs.Operation.{says_ready}
use Rattle.trace_ops.specs.Polling.{Work, Reads, Programs, Erases, Sequence, Doing, Rests, Sends, Waits, Asks, Sees, closer_for, is_over, by_command, sent_in, in_front}
use Rattle.trace_ops.proofs.Spans.{same_some}
use Rattle.plain_operations.specs.Lines.{AreBytes, is_closer, closes, closers}
use Rattle.plain_operations.proofs.Hosts.{Has, has_cycle, has_byte, has_addresses, has_inputs, has_takes, TookByte, took}
use Rattle.plain_operations.proofs.Texts.{Place, place_of, place_with, five_at, by_addresses, counted, by_inputs, by_word, is_end, leads_if, leads, sends_if, sends_with, leads_to, all_lead_to, from_last}

none : {X : Type 0} {x : X} → None ≡ Some x → ⊥
none h = cc

-- ---- a step, taken apart

pub record Taken (g : Parts) (j : Job) (bytes : List ℕ) (past : List Item) (line : Line) (rest : List Line) (done : List Done) (r : Stride) : Type 0 where
  pub moved : List Move
  pub is_moved : moves g j done line.word ≡ Some moved
  pub played : Played
  pub is_played : answered j.lun.ce moved bytes past ≡ Some played
  pub is_stride : stride line rest done played line.word ≡ r

pub taken : (g : Parts) (j : Job) (bytes : List ℕ) (past : List Item) (line : Line) (rest : List Line) (done : List Done) (r : Stride) → answered_step g j bytes past (line ∷ rest) done ≡ Some r →
    Taken g j bytes past line rest done r
taken g j bytes past line rest done r h = at (moves g j done line.word) refl h
  where
    inner : (moved : List Move) → moves g j done line.word ≡ Some moved → (x : Option Played) → answered j.lun.ce moved bytes past ≡ x → and_then x (λ p. Some (stride line rest done p line.word)) ≡ Some r →
        Taken g j bytes past line rest done r
    inner moved e None f h = absurd (none h)
    inner moved e (Some p) f h = record { moved = moved; is_moved = e; played = p; is_played = f; is_stride = same_some h }

    at : (x : Option (List Move)) → moves g j done line.word ≡ x → and_then x (λ moved. and_then (answered j.lun.ce moved bytes past) (λ p. Some (stride line rest done p line.word))) ≡ Some r →
        Taken g j bytes past line rest done r
    at None e h = absurd (none h)
    at (Some moved) e h = inner moved e (answered j.lun.ce moved bytes past) refl h

pub nothing_played : (ce : ℕ) (bytes : List ℕ) (past : List Item) (p : Played) → answered ce [] bytes past ≡ Some p → p.past ≡ past
nothing_played ce [] past p h = ap (λ (x : Played). x.past) (sym (same_some h))
nothing_played ce (b ∷ bytes) past p h = absurd (none h)

front_is : (x : Option Sequence) (works : List Sequence) → in_front x [] ++ works ≡ in_front x works
front_is None works = refl
front_is (Some w) works = refl

not_many : (luns : ℕ) → luns ≡ 1 → ltb 1 luns ≡ false
not_many luns h = ap (ltb 1) h

-- a closer ends a sequence, and no other command does
closer_by : (w : Work) (byte : ℕ) → byte ≡ closer_for w → is_closer byte ≡ true
closer_by Reads byte e = ap is_closer e
closer_by Programs byte e = ap is_closer e
closer_by Erases byte e = ap is_closer e

not_closer : (byte value : ℕ) → is_closer value ≡ false → (byte == value) ≡ true → is_closer byte ≡ false
not_closer byte value h e = ap is_closer (eqb-true byte value e) ∙ h

closer_counts : (d : Doing) (byte : ℕ) (e : Doing) → by_command d byte ≡ Some e → length (in_front (sent_in d Cmd byte) []) ≡ closes (Command byte)
closer_counts Rests byte e h = sym (ap (λ b. cond b 1 0) (opener (byte == 0x00) refl (byte == 0x80) refl (byte == 0x60) refl))
  where
    opener : (a : Bool) → (byte == 0x00) ≡ a → (b : Bool) → (byte == 0x80) ≡ b → (c : Bool) → (byte == 0x60) ≡ c → is_closer byte ≡ false
    opener true p b q c r = not_closer byte 0x00 refl p
    opener false p true q c r = not_closer byte 0x80 refl q
    opener false p false q true r = not_closer byte 0x60 refl r
    opener false p false q false r = absurd (none (sym (rw (p, q, r) refl) ∙ h))
closer_counts (Sends s) byte e h = by (byte == closer_for s.work) refl h
  where
    by : (b : Bool) → (byte == closer_for s.work) ≡ b → cond b (Some (Waits s.work)) None ≡ Some e → length (in_front (cond b (Some s) None) []) ≡ cond (is_closer byte) 1 0
    by true f h = sym (ap (λ b. cond b 1 0) (closer_by s.work byte (eqb-true byte (closer_for s.work) f)))
    by false f h = absurd (none h)
closer_counts (Waits w) byte e h = sym (by (byte == 0x70) refl h)
  where
    by : (b : Bool) → (byte == 0x70) ≡ b → cond b (Some (Asks w)) None ≡ Some e → closes (Command byte) ≡ 0
    by true f h = ap (λ b. cond b 1 0) (not_closer byte 0x70 refl f)
    by false f h = absurd (none h)
closer_counts (Asks w) byte e h = sym (by (byte == 0x70) refl h)
  where
    by : (b : Bool) → (byte == 0x70) ≡ b → cond b (Some (Asks w)) None ≡ Some e → closes (Command byte) ≡ 0
    by true f h = ap (λ b. cond b 1 0) (not_closer byte 0x70 refl f)
    by false f h = absurd (none h)
closer_counts Sees byte e h = sym (by (byte == 0x00) refl h)
  where
    by : (b : Bool) → (byte == 0x00) ≡ b → cond b (Some Rests) None ≡ Some e → closes (Command byte) ≡ 0
    by true f h = ap (λ b. cond b 1 0) (not_closer byte 0x00 refl f)
    by false f h = absurd (none h)

record Led (x : Option Doing) (more : Doing → Bool) : Type 0 where
  next : Doing
  is : x ≡ Some next
  leads : more next ≡ true

led : (x : Option Doing) (more : Doing → Bool) → leads_if x more ≡ true → Led x more
led None more h = cc
led (Some d) more h = record { next = d; is = refl; leads = h }

-- ---- where a program is

-- the words behind a place of the text, but the last: they lead to an end at rest, with these sequences in all
pub record Goes (g : Parts) (j : Job) (failure : ℕ) (place : Place) (d : Doing) (works all : List Sequence) (ahead : List Line) : Type 0 where
  pub words : List Word
  pub at : ℕ
  pub are : ahead ≡ lines_from (words ++ (End 1 ∷ [])) at
  pub ends : failure ≡ at + length words
  pub fails : all_lead_to failure words ≡ true
  pub leads_on : leads g j place d words ≡ true
  pub begins : works ++ sends_with g j place d words ≡ all

-- it has failed, and its last word is ahead
pub record Fails (failure : ℕ) (d : Doing) (works all : List Sequence) (ahead : List Line) : Type 0 where
  pub are : ahead ≡ record { at = failure; word = End 1 } ∷ []
  pub rests : d ≡ Rests
  pub left : List Sequence
  pub begins : works ++ left ≡ all

abbrev pub Ahead : Parts → Job → ℕ → Place → Doing → List Sequence → List Sequence → List Line → Type 0
Ahead g j failure place d works all ahead = Goes g j failure place d works all ahead ⊎ Fails failure d works all ahead

-- ---- a word that isn't the end

-- the host after it, and the lines ahead
pub record After (g : Parts) (j : Job) (first : List Sequence) (failure : ℕ) (all : List Sequence) (r : Stride) : Type 0 where
  pub doing : Doing
  pub works : List Sequence
  pub has : Has j.lun.ce first r.past doing works
  pub counts : length works ≡ closers r.done
  pub ahead : Ahead g j failure (place_of j r.done) doing works all r.ahead

same_length : (n : ℕ) (at failure : ℕ) → failure ≡ at + suc n → failure ≡ at + 1 + n
same_length n at failure h = omega (arith, h)

module _ (g : Parts) (j : Job) (first : List Sequence) (failure : ℕ) (all : List Sequence) (one : g.luns ≡ 1) (past : List Item) (done : List Done) (d : Doing) (works : List Sequence) (has : Has j.lun.ce first past d works) (counts : length works ≡ closers done)
    (words : List Word) (at : ℕ) (ends : failure ≡ at + suc (length words)) (fails : all_lead_to failure words ≡ true) (r : Stride) where
  abbrev ce : ℕ
  ce = j.lun.ce

  abbrev rest : List Line
  rest = lines_from (words ++ (End 1 ∷ [])) (at + 1)

  abbrev To : Type 0
  To = After g j first failure all r

  abbrev place : Place
  place = place_of j done

  -- the word is done, and the program goes on with the next
  on : (next : Doing) (more : List Sequence) (p : Place) → place_of j r.done ≡ p → length more ≡ closers r.done → Has ce first r.past next more → leads g j p next words ≡ true → more ++ sends_with g j p next words ≡ all → r.ahead ≡ rest → To
  on next more p same counts' has' lead begins ahead = record {
    doing = next;
    works = more;
    has = has';
    counts = counts';
    ahead = inl (record {
      words = words;
      at = at + 1;
      are = ahead;
      ends = same_length (length words) at failure ends;
      fails = fails;
      leads_on = subst (λ (q : Place). leads g j q next words ≡ true) (sym same) lead;
      begins = subst (λ (q : Place). more ++ sends_with g j q next words ≡ all) (sym same) begins;
    });
  }

  abbrev line : Word → Line
  line word = record { at = at; word = word }

  abbrev Took : Word → List ℕ → Type 0
  Took word bytes = Taken g j bytes past (line word) rest done r

  past_is : (word : Word) (bytes : List ℕ) (t : Took word bytes) (p : List Item) → (stride (line word) rest done t.played word).past ≡ p → r.past ≡ p
  past_is word bytes t p e = ap (λ (x : Stride). x.past) (sym t.is_stride) ∙ e

  ahead_is : (word : Word) (bytes : List ℕ) (t : Took word bytes) (a : List Line) → (stride (line word) rest done t.played word).ahead ≡ a → r.ahead ≡ a
  ahead_is word bytes t a e = ap (λ (x : Stride). x.ahead) (sym t.is_stride) ∙ e

  place_is : (word : Word) (bytes : List ℕ) (t : Took word bytes) (p : Place) → place_of j (stride (line word) rest done t.played word).done ≡ p → place_of j r.done ≡ p
  place_is word bytes t p e = ap (λ (x : Stride). place_of j x.done) (sym t.is_stride) ∙ e

  closers_is : (word : Word) (bytes : List ℕ) (t : Took word bytes) (n : ℕ) → closers (stride (line word) rest done t.played word).done ≡ closers done + n → closers r.done ≡ closers done + n
  closers_is word bytes t n e = ap (λ (x : Stride). closers x.done) (sym t.is_stride) ∙ e

  -- a word that is no closer
  counts_on : (word : Word) (bytes : List ℕ) (t : Took word bytes) → closers (stride (line word) rest done t.played word).done ≡ closers done + 0 → length works ≡ closers r.done
  counts_on word bytes t e = (let now' = closers_is word bytes t 0 e in let before = counts in omega (arith, now', before))

  has_at : (p : List Item) (next : Doing) (more : List Sequence) → r.past ≡ p → Has ce first p next more → Has ce first r.past next more
  has_at p next more e has' = subst (λ (x : List Item). Has ce first x next more) (sym e) has'

  -- a word without a cycle
  silent : (word : Word) (bytes : List ℕ) (t : Took word bytes) → moves g j done word ≡ Some [] → (stride (line word) rest done t.played word).past ≡ t.played.past →
      (stride (line word) rest done t.played word).ahead ≡ rest → place_of j (stride (line word) rest done t.played word).done ≡ place_with j word place →
      closers (stride (line word) rest done t.played word).done ≡ closers done + 0 →
      leads g j (place_with j word place) d words ≡ true → works ++ sends_with g j (place_with j word place) d words ≡ all → To
  silent word bytes t none' same ahead placed counted' lead begins =
      on d works (place_with j word place) (place_is word bytes t (place_with j word place) placed) (counts_on word bytes t counted') (has_at past d works (past_is word bytes t past (same ∙ rests)) has) lead begins (ahead_is word bytes t rest ahead)
    where
      rests : t.played.past ≡ past
      rests = nothing_played ce bytes past t.played (ap (λ (m : List Move). answered ce m bytes past) (sym (same_some (sym t.is_moved ∙ none'))) ∙ t.is_played)

  command_steps : (byte : ℕ) (bytes : List ℕ) → Took (Command byte) bytes → leads_if (by_command d byte) (λ e. leads g j place e words) ≡ true →
      works ++ in_front (sent_in d Cmd byte) (sends_if (by_command d byte) (λ e. sends_with g j place e words)) ≡ all → To
  command_steps byte bytes t lead begins =
      on l.next (works ++ in_front (sent_in d Cmd byte) []) place (place_is (Command byte) bytes t place refl) command_counts
      (has_at (cycle ce Cmd byte ∷ past) l.next (works ++ in_front (sent_in d Cmd byte) [])
      (past_is (Command byte) bytes t (cycle ce Cmd byte ∷ past)
      (nothing_played ce bytes (cycle ce Cmd byte ∷ past) t.played (ap (λ (m : List Move). answered ce m bytes past) (sym (same_some (sym t.is_moved))) ∙ t.is_played)))
      (has_cycle ce first past d l.next works Cmd byte has l.is))
      l.leads
      (append_assoc works (in_front (sent_in d Cmd byte) []) (sends_with g j place l.next words)
      ∙ ap (λ (ws : List Sequence). works ++ ws) (front_is (sent_in d Cmd byte) (sends_with g j place l.next words))
      ∙ ap (λ (x : Option Doing). works ++ in_front (sent_in d Cmd byte) (sends_if x (λ e. sends_with g j place e words))) (sym l.is) ∙ begins)
      (ahead_is (Command byte) bytes t rest refl)
    where
      l : Led (by_command d byte) (λ e. leads g j place e words)
      l = led (by_command d byte) (λ e. leads g j place e words) lead

      command_counts : length (works ++ in_front (sent_in d Cmd byte) []) ≡ closers r.done
      command_counts =
          let more = length-append works (in_front (sent_in d Cmd byte) []) in
          let one = closer_counts d byte l.next l.is in
          let now' = closers_is (Command byte) bytes t (closes (Command byte)) refl in
          let before = counts in
          omega (arith, more, one, now', before)

  -- addresses
  address_is : (from count : ℕ) → leb (from + count) 2 ≡ false → (given : List ℕ) → address g j done from count ≡ Some given → given ≡ part from count (five_at g j place)
  address_is from count long given h = by (leb (from + count) 2) long h
    where
      by_row : (b : Bool) → and_then (cond b (Some (row_cycles (row_number g (indexed g j.lun.lun (index_now j.base done) (plane_now done))))) None) (λ row. Some (part from count (column_bytes (column_now done) ++ row))) ≡ Some given →
          given ≡ part from count (five_at g j place)
      by_row true h = sym (same_some h)
      by_row false h = absurd (none h)

      by : (b : Bool) → b ≡ false →
          cond b (Some (part from count (column_bytes (column_now done)))) (and_then (row_bytes_of g j.lun.lun (index_now j.base done) (plane_now done)) (λ row. Some (part from count (column_bytes (column_now done) ++ row)))) ≡ Some given →
          given ≡ part from count (five_at g j place)
      by true e h = cc
      by false e h = by_row (ltb j.lun.lun g.luns && ltb (index_now j.base done) (indices g) && ltb (plane_now done) (planes g)) h

  address_steps : (from count : ℕ) (bytes : List ℕ) (t : Took (Address from count) bytes) →
      leads_if (cond (leb (from + count) 2) None (by_addresses d (part from count (five_at g j place)))) (λ e. leads g j place e words) ≡ true →
      works ++ sends_if (cond (leb (from + count) 2) None (by_addresses d (part from count (five_at g j place)))) (λ e. sends_with g j place e words) ≡ all → To
  address_steps from count bytes t lead begins = by (leb (from + count) 2) refl lead begins
    where
      given_is : leb (from + count) 2 ≡ false → (x : Option (List ℕ)) → address g j done from count ≡ x → and_then x (λ bs. Some (gives Adr bs)) ≡ Some t.moved → t.moved ≡ gives Adr (part from count (five_at g j place))
      given_is long None e h = absurd (none h)
      given_is long (Some given) e h = sym (same_some h) ∙ ap (gives Adr) (address_is from count long given e)

      by : (b : Bool) → leb (from + count) 2 ≡ b → leads_if (cond b None (by_addresses d (part from count (five_at g j place)))) (λ e. leads g j place e words) ≡ true →
          works ++ sends_if (cond b None (by_addresses d (part from count (five_at g j place)))) (λ e. sends_with g j place e words) ≡ all → To
      by true e lead begins = cc
      by false e lead begins =
          let l = led (by_addresses d (part from count (five_at g j place))) (λ e. leads g j place e words) lead in
          on l.next works place (place_is (Address from count) bytes t place refl) (counts_on (Address from count) bytes t refl)
          (has_at t.played.past l.next works (past_is (Address from count) bytes t t.played.past refl)
          (has_addresses ce first works (part from count (five_at g j place)) bytes past t.played d l.next has l.is
          (ap (λ (m : List Move). answered ce m bytes past) (sym (given_is e (address g j done from count) refl t.is_moved)) ∙ t.is_played)))
          l.leads (ap (λ (x : Option Doing). works ++ sends_if x (λ e. sends_with g j place e words)) (sym l.is) ∙ begins) (ahead_is (Address from count) bytes t rest refl)

  -- inputs
  put_steps : (len : ℕ) (bytes : List ℕ) (t : Took (Put len) bytes) → leads_if (by_inputs d len) (λ e. leads g j place e words) ≡ true →
      works ++ sends_if (by_inputs d len) (λ e. sends_with g j place e words) ≡ all → To
  put_steps len bytes t lead begins = by d has lead begins
    where
      buffer : List ℕ
      buffer = buffer_now j.buffer done

      given_is : (b : Bool) → leb (place_now done + len) (length buffer) ≡ b → and_then (cond b (Some (part (place_now done) len buffer)) None) (λ bs. Some (gives Din bs)) ≡ Some t.moved →
          (given : List ℕ) × (t.moved ≡ gives Din given) × (length given ≡ len)
      given_is true e h = (
        part (place_now done) len buffer,
        sym (same_some h),
        (
            let fits = leb-true (place_now done + len) (length buffer) e in
            let dropped = length-drop (place_now done) buffer in
            length-take-le len (drop (place_now done) buffer) (omega (arith, fits, dropped))
            ),
      )
      given_is false e h = absurd (none h)

      by : (e : Doing) → Has ce first past e works → leads_if (by_inputs e len) (λ e. leads g j place e words) ≡ true → works ++ sends_if (by_inputs e len) (λ e. sends_with g j place e words) ≡ all → To
      by Rests has' lead begins = cc
      by (Sends s) has' lead begins =
          let it = given_is (leb (place_now done + len) (length buffer)) refl t.is_moved in
          on (Sends (record s { inputs = counted len s.inputs })) works place (place_is (Put len) bytes t place refl) (counts_on (Put len) bytes t refl)
          (has_at t.played.past (Sends (record s { inputs = counted len s.inputs })) works (past_is (Put len) bytes t t.played.past refl)
          (subst (λ (n : ℕ). Has ce first t.played.past (Sends (record s { inputs = counted n s.inputs })) works) it.2
          (has_inputs ce first works it.0 bytes past t.played s has' (ap (λ (m : List Move). answered ce m bytes past) (sym it.1) ∙ t.is_played))))
          lead begins (ahead_is (Put len) bytes t rest refl)
      by (Waits w) has' lead begins = cc
      by (Asks w) has' lead begins = cc
      by Sees has' lead begins = cc

  get_steps : (len : ℕ) (bytes : List ℕ) → Took (Get len) bytes → leads_if (by_word g j place d (Get len)) (λ e. leads g j place e words) ≡ true → works ++ sends_if (by_word g j place d (Get len)) (λ e. sends_with g j place e words) ≡ all → To
  get_steps len bytes t lead begins = by d has lead begins
    where
      by : (e : Doing) → Has ce first past e works → leads_if (by_word g j place e (Get len)) (λ e. leads g j place e words) ≡ true → works ++ sends_if (by_word g j place e (Get len)) (λ e. sends_with g j place e words) ≡ all → To
      by Rests has' lead begins =
          on Rests works place (place_is (Get len) bytes t place refl) (counts_on (Get len) bytes t refl)
          (has_at t.played.past Rests works (past_is (Get len) bytes t t.played.past refl)
          (has_takes ce first works len bytes past t.played has' (ap (λ (m : List Move). answered ce m bytes past) (sym (same_some (sym t.is_moved))) ∙ t.is_played)))
          lead begins (ahead_is (Get len) bytes t rest refl)
      by (Sends w) has' lead begins = cc
      by (Waits w) has' lead begins = cc
      by (Asks w) has' lead begins = cc
      by Sees has' lead begins = cc

  branch_steps : (mask target : ℕ) (bytes : List ℕ) → Took (BranchOnStatus mask target) bytes → (target == failure) ≡ true → leads_if (by_word g j place d (BranchOnStatus mask target)) (λ e. leads g j place e words) ≡ true →
      works ++ sends_if (by_word g j place d (BranchOnStatus mask target)) (λ e. sends_with g j place e words) ≡ all → To
  branch_steps mask target bytes t to lead begins = by d has lead begins
    where
      rests : t.played.past ≡ past
      rests = nothing_played ce bytes past t.played (ap (λ (m : List Move). answered ce m bytes past) (sym (same_some (sym t.is_moved))) ∙ t.is_played)

      past_so : r.past ≡ past
      past_so = past_is (BranchOnStatus mask target) bytes t past rests

      by : (e : Doing) → Has ce first past e works → leads_if (by_word g j place e (BranchOnStatus mask target)) (λ e. leads g j place e words) ≡ true →
          works ++ sends_if (by_word g j place e (BranchOnStatus mask target)) (λ e. sends_with g j place e words) ≡ all → To
      by Rests has' lead begins = which (meets mask (status_now done)) refl
        where
          which : (b : Bool) → meets mask (status_now done) ≡ b → To
          which true e = record {
            doing = Rests;
            works = works;
            has = has_at past Rests works past_so has';
            counts = counts_on (BranchOnStatus mask target) bytes t refl;
            ahead = inr (record {
              are =
                  ahead_is (BranchOnStatus mask target) bytes t _ (ap (λ (b : Bool). cond b (from_place target rest) rest) e)
                  ∙ ap (λ (n : ℕ). from_place n rest) (eqb-true target failure to)
                  ∙ from_last words (at + 1) (End 1) failure (same_length (length words) at failure ends);
              rests = refl;
              left = sends_with g j place Rests words;
              begins = begins;
            });
          }
          which false e =
              on Rests works place (place_is (BranchOnStatus mask target) bytes t place refl) (counts_on (BranchOnStatus mask target) bytes t refl) (has_at past Rests works past_so has') lead begins (ahead_is (BranchOnStatus mask target) bytes t rest (ap (λ (b : Bool). cond b (from_place target rest) rest) e))
      by (Sends w) has' lead begins = cc
      by (Waits w) has' lead begins = cc
      by (Asks w) has' lead begins = cc
      by Sees has' lead begins = cc

  -- ---- a poll

  poll_is : poll g j ≡ Some (Give Cmd 0x70 ∷ (Take ∷ []))
  poll_is = by (ltb 1 g.luns) (not_many g.luns one)
    where
      by : (b : Bool) → b ≡ false → cond b (and_then (row_bytes_of g j.lun.lun 0 0) (λ row. Some (Give Cmd 0x78 ∷ (gives Adr row ++ (Take ∷ []))))) (Some (Give Cmd 0x70 ∷ (Take ∷ []))) ≡ Some (Give Cmd 0x70 ∷ (Take ∷ []))
      by true e = cc
      by false e = refl

  module _ (w : Work) (over : leads g j place (is_over w) words ≡ true) (begins : works ++ sends_with g j place (is_over w) words ≡ all) (asks : by_command d 0x70 ≡ Some (Asks w)) (nothing : sent_in d Cmd 0x70 ≡ None)
      (bytes : List ℕ) (t : Took Wait bytes) (small : AreBytes t.played.past) where
    taken_byte : TookByte ce [] bytes (cycle ce Cmd 0x70 ∷ past) t.played
    taken_byte = took ce [] bytes (cycle ce Cmd 0x70 ∷ past) t.played (ap (λ (m : List Move). answered ce m bytes past) (sym (same_some (sym t.is_moved ∙ poll_is))) ∙ t.is_played)

    abbrev byte : ℕ
    byte = taken_byte.byte

    played_is : t.played.past ≡ cycle ce Dout byte ∷ (cycle ce Cmd 0x70 ∷ past)
    played_is = taken_byte.is_past ∙ nothing_played ce taken_byte.more (cycle ce Dout byte ∷ (cycle ce Cmd 0x70 ∷ past)) taken_byte.later taken_byte.played

    is_byte : byte < 256
    is_byte = (subst AreBytes played_is small).0

    same_ready : is_ready_status byte ≡ says_ready byte
    same_ready = agree_below_at is_ready_status says_ready 256 byte refl is_byte

    asked : Has ce first (cycle ce Cmd 0x70 ∷ past) (Asks w) works
    asked = has_byte ce first past d (Asks w) works Cmd 0x70 has asks nothing

    answered_by : (b : Bool) (next : Doing) → says_ready byte ≡ b → cond b (Some (is_over w)) (Some (Asks w)) ≡ Some next → Has ce first t.played.past next works
    answered_by b next e step =
        subst (λ (x : List Item). Has ce first x next works) (sym played_is)
        (has_byte ce first (cycle ce Cmd 0x70 ∷ past) (Asks w) next works Dout byte asked (ap (λ (x : Bool). cond x (Some (is_over w)) (Some (Asks w))) e ∙ step) refl)

    status_is : first_byte t.played.bytes ≡ byte
    status_is = ap first_byte taken_byte.is_bytes

    stride_is : (b : Bool) → says_ready byte ≡ b →
        cond b (did t.played Wait (Polled (first_byte t.played.bytes)) rest done Went) (record { past = t.played.past; ahead = line Wait ∷ rest; done = done; code = None; outcome = NotReady }) ≡ r
    stride_is b e =
        ap (λ (x : Bool). cond x (did t.played Wait (Polled (first_byte t.played.bytes)) rest done Went) (record { past = t.played.past; ahead = line Wait ∷ rest; done = done; code = None; outcome = NotReady }))
        (sym (ap is_ready_status status_is ∙ same_ready ∙ e))
        ∙ t.is_stride

    abbrev closers_by : Bool → ℕ
    closers_by true = closers done + 0
    closers_by false = closers done

    polled_counts : (b : Bool) (e : says_ready byte ≡ b) →
        closers (cond b (did t.played Wait (Polled (first_byte t.played.bytes)) rest done Went) (record { past = t.played.past; ahead = line Wait ∷ rest; done = done; code = None; outcome = NotReady })).done ≡ closers_by b →
        length works ≡ closers r.done
    polled_counts b e same =
        (let now' : closers r.done ≡ closers_by b = ap (λ (x : Stride). closers x.done) (sym (stride_is b e)) ∙ same in
        let all' = closers_by_is b in
        let before = counts in
        omega (arith, now', all', before))
      where
        closers_by_is : (b : Bool) → closers_by b ≡ closers done
        closers_by_is true = omega arith
        closers_by_is false = refl

    wait_steps : To
    wait_steps = by (says_ready byte) refl
      where
        by : (b : Bool) → says_ready byte ≡ b → To
        by true e =
            on (is_over w) works place (ap (λ (x : Stride). place_of j x.done) (sym (stride_is true e))) (polled_counts true e refl) (has_at t.played.past (is_over w) works (ap (λ (x : Stride). x.past) (sym (stride_is true e))) (answered_by true (is_over w) e refl)) over begins
            (ap (λ (x : Stride). x.ahead) (sym (stride_is true e)))
        by false e = record {
          doing = Asks w;
          works = works;
          has = has_at t.played.past (Asks w) works (ap (λ (x : Stride). x.past) (sym (stride_is false e))) (answered_by false (Asks w) e refl);
          counts = polled_counts false e refl;
          ahead = inl (record {
            words = Wait ∷ words;
            at = at;
            are = ap (λ (x : Stride). x.ahead) (sym (stride_is false e));
            ends = ends;
            fails = fails;
            leads_on = subst (λ (q : Place). leads g j q (is_over w) words ≡ true) (sym (ap (λ (x : Stride). place_of j x.done) (sym (stride_is false e)))) over;
            begins = subst (λ (q : Place). works ++ sends_with g j q (is_over w) words ≡ all) (sym (ap (λ (x : Stride). place_of j x.done) (sym (stride_is false e)))) begins;
          });
        }

  pub word_steps : (word : Word) (bytes : List ℕ) → is_end word ≡ false → leads g j place d (word ∷ words) ≡ true → works ++ sends_with g j place d (word ∷ words) ≡ all → leads_to failure word ≡ true → (t : Took word bytes) →
      AreBytes t.played.past → To
  word_steps (End code) bytes e lead begins to t small = cc
  word_steps (Command byte) bytes e lead begins to t small = command_steps byte bytes t lead begins
  word_steps (Address from count) bytes e lead begins to t small = address_steps from count bytes t lead begins
  word_steps (Put len) bytes e lead begins to t small = put_steps len bytes t lead begins
  word_steps (Get len) bytes e lead begins to t small = get_steps len bytes t lead begins
  word_steps (Seek at') bytes e lead begins to t small = silent (Seek at') bytes t refl refl refl refl refl lead begins
  word_steps (Column column) bytes e lead begins to t small = silent (Column column) bytes t refl refl refl refl refl lead begins
  word_steps (Row row) bytes e lead begins to t small = silent (Row row) bytes t refl refl refl refl refl lead begins
  word_steps (Plane plane) bytes e lead begins to t small = silent (Plane plane) bytes t refl refl refl refl refl lead begins
  word_steps (BranchOnStatus mask target) bytes e lead begins to t small = branch_steps mask target bytes t to lead begins
  word_steps Wait bytes e lead begins to t small = by d refl lead begins
    where
      by : (s : Doing) → d ≡ s → leads_if (by_word g j place s Wait) (λ e. leads g j place e words) ≡ true → works ++ sends_if (by_word g j place s Wait) (λ e. sends_with g j place e words) ≡ all → To
      by Rests same lead begins = cc
      by (Sends w) same lead begins = cc
      by (Waits w) same lead begins = wait_steps w lead begins (ap (λ (s : Doing). by_command s 0x70) same) (ap (λ (s : Doing). sent_in s Cmd 0x70) same) bytes t small
      by (Asks w) same lead begins = wait_steps w lead begins (ap (λ (s : Doing). by_command s 0x70) same) (ap (λ (s : Doing). sent_in s Cmd 0x70) same) bytes t small
      by Sees same lead begins = cc
  word_steps (RowAdd rows) bytes e lead begins to t small = cc
  word_steps Yield bytes e lead begins to t small = cc
  word_steps ReadStatus bytes e lead begins to t small = cc
  word_steps (Loop turns) bytes e lead begins to t small = cc
  word_steps Next bytes e lead begins to t small = cc
  word_steps (Jump target) bytes e lead begins to t small = cc
