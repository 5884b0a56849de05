-- A word is sound: where a claim fits and nothing is against it, the word is fine, and the claim behind it fits.
use Rattle.std.proofs.Common.{◌≡◌, ℕ, ◌+◌, ◌%◌, ◌≤◌, Bool, true, false, ◌&&◌, ◌||◌, cond, not, ltb, List, ◌∷◌, length, Option, Some, None, refl, sym, ap, ◌∙◌, subst, arith}
use Rattle.std.proofs.lemmas.Bool.Decides.{nat_tests}
use Rattle.std.proofs.lemmas.Bool.{not-false}
use Rattle.nand_geometry.specs.declared.parts.Parts.{Parts}
use Rattle.nand_geometry.specs.Limits.{InLimits, indices}
use Rattle.nand_geometry.specs.Row.{ReadsBack}
use Rattle.onfi_cycle.specs.declared.item.Item.{Item}
use Rattle.onfi_cycle.specs.Sequence.{is_open}
use Rattle.onfi_cycle.specs.Channel.{Channel, IsChannel, is_there}
use Rattle.micro_word.specs.declared.word.Word.{Word}
use Rattle.micro_word.specs.declared.word.Word.TheVariants.{End, Get, Wait, Yield, ReadStatus, BranchOnStatus, Jump}
use Rattle.micro_word.specs.Text.{Microprogram}
use Rattle.micro_claims.specs.declared.refusal.Reason.{Reason}
use Rattle.micro_claims.specs.declared.refusal.Reason.TheVariants.{CycleForbidden, AddressUnaligned, HandoverInSequence, BufferPassed, RowOrPlaneOutside, ColumnTooLarge, NoStatus, EndsTooSoon, OverBudget, CommandNotAllowed}
use Rattle.micro_program.specs.Lines.{Line, continues_cache_read}
use Rattle.micro_claims.specs.Spans.{Span, bound_plus, is_at_most}
use Rattle.micro_claims.specs.declared.planes.Planes.{Planes}
use Rattle.micro_claims.specs.Planes.{has_plane}
use Rattle.micro_claims.specs.State.{State, bounds_of}
use Rattle.micro_claims.specs.Reasons.{reason_against, breaks_cycle_forbidden, breaks_address_unaligned, breaks_handover_in_sequence, breaks_buffer_passed, breaks_row_or_plane_outside, breaks_column_too_large, breaks_no_status, breaks_ends_too_soon, breaks_over_budget, breaks_command_not_allowed}
use Rattle.micro_claims.specs.Leaves.{paid}
use Rattle.micro_claims.specs.Accepts.{state_after, accepts}
use Rattle.micro_program.specs.Program.{Job, Done, Answer, Nothing, Polled, Got, column_now, column_after, plane_now, plane_after, index_now, index_after, place_now, place_after, cost, cost_now, fits}
use Rattle.micro_program.specs.Moves.{Move, moves}
use Rattle.micro_program.specs.Played.{Played, answered}
use Rattle.micro_program.specs.Step.{Stride, Went, answered_step, stride, did, first_byte}
use Rattle.micro_program.specs.Safe.{Seat, after_step, is_end, lets_go, WordIsFine, AreTruthful}
use Rattle.micro_program.proofs.Tracking.{answered_parts}
use Rattle.micro_program.proofs.Scenes.{Scene, IsScene}
use Rattle.micro_program.proofs.SceneMoves.{MovesAllowed, scene_after, moves_own, moves_lead}
use Rattle.micro_claims.proofs.Fits.{Below, InSpan, InRange, RegistersFit, Fits}
use Rattle.micro_claims.proofs.Numbers.{below_cost, surely}

-- 1. what is known of a job

pub record KnownJob (s : Channel) (j : Job) : Type 0 where
  pub is_channel : IsChannel s
  pub limits : InLimits s.geometry
  pub there : is_there s j.lun ≡ true
  pub status_row : ReadsBack s.geometry j.lun.lun 0 0
  pub rows : j.base + j.text.rows ≤ indices s.geometry
  pub buffer : length j.buffer ≡ j.text.buffer
  pub cache : continues_cache_read j.text.words ≡ true → j.base % s.geometry.pages ≡ 0

-- no other LUN of the target may have the bus: the program has it, or its LUN is the only one and nothing is open
abbrev pub knows_tail : Channel → Seat → Scene → Bool
knows_tail s seat c = seat.holding || (not (ltb 1 s.geometry.luns) && not (is_open c.facts))

-- what is claimed at a seat: a claim fits, and the lines to come are accepted from it
pub record Claims (s : Channel) (j : Job) (seat : Seat) : Type 0 where
  pub claim : State
  pub scene : Scene
  pub is : IsScene s j.lun seat.past scene
  pub fits : Fits s.geometry j claim seat.done scene (knows_tail s seat scene)
  pub accepted : accepts s.geometry (bounds_of j.text) None claim seat.ahead ≡ true

-- 2. nothing is against a word

pub record NoReasons (g : Parts) (text : Microprogram) (v : State) (word : Word) : Type 0 where
  pub no_cycle_forbidden : breaks_cycle_forbidden g v word ≡ false
  pub no_address_unaligned : breaks_address_unaligned v word ≡ false
  pub no_handover_in_sequence : breaks_handover_in_sequence v word ≡ false
  pub no_buffer_passed : breaks_buffer_passed text.buffer v word ≡ false
  pub no_row_or_plane_outside : breaks_row_or_plane_outside g text.rows v word ≡ false
  pub no_column_too_large : breaks_column_too_large g v word ≡ false
  pub no_ends_too_soon : breaks_ends_too_soon v word ≡ false
  pub no_over_budget : breaks_over_budget g text.budget v word ≡ false
  pub no_command_not_allowed : breaks_command_not_allowed g (bounds_of text) word ≡ false

passed : (b : Bool) (r : Reason) (o : Option Reason) → cond b (Some r) o ≡ None → (b ≡ false) × (o ≡ None)
passed true r o h = cc
passed false r o h = (refl, h)

pub no_reasons : (g : Parts) (text : Microprogram) (v : State) (word : Word) → reason_against g (bounds_of text) v word ≡ None → NoReasons g text v word
unfolding reason_against
no_reasons g text v word h =
    let p7 = passed (breaks_cycle_forbidden g v word) CycleForbidden _ h in
    let p8 = passed (breaks_address_unaligned v word) AddressUnaligned _ p7.1 in
    let p9 = passed (breaks_handover_in_sequence v word) HandoverInSequence _ p8.1 in
    let p10 = passed (breaks_buffer_passed text.buffer v word) BufferPassed _ p9.1 in
    let p11 = passed (breaks_row_or_plane_outside g text.rows v word) RowOrPlaneOutside _ p10.1 in
    let p12 = passed (breaks_column_too_large g v word) ColumnTooLarge _ p11.1 in
    let p13 = passed (breaks_no_status v word) NoStatus _ p12.1 in
    let p14 = passed (breaks_ends_too_soon v word) EndsTooSoon _ p13.1 in
    let p15 = passed (breaks_over_budget g text.budget v word) OverBudget _ p14.1 in
    let p16 = passed (breaks_command_not_allowed g (bounds_of text) word) CommandNotAllowed _ p15.1 in
    record { no_cycle_forbidden = p7.0; no_address_unaligned = p8.0; no_handover_in_sequence = p9.0; no_buffer_passed = p10.0; no_row_or_plane_outside = p11.0; no_column_too_large = p12.0; no_ends_too_soon = p14.0; no_over_budget = p15.0; no_command_not_allowed = p16.0 }

-- 3. the registers

-- within the budget with the word
pub within_budget : (g : Parts) (j : Job) (v : State) (done : List Done) (word : Word) → RegistersFit g j v.registers done → NoReasons g j.text v word → cost_now g done + cost g word ≤ j.text.budget
unfolding breaks_over_budget
within_budget g j v done word f clear = at (ltb 0 (cost g word)) refl clear.no_over_budget
  where
    at : (b : Bool) → ltb 0 (cost g word) ≡ b → (b && not (is_at_most (bound_plus v.registers.cost.hi (cost g word)) j.text.budget)) ≡ false → cost_now g done + cost g word ≤ j.text.budget
    at true e h = surely (cost_now g done) v.registers.cost.hi (cost g word) j.text.budget f.cost (not-false _ h)
    at false e h = let least = f.within in let none : cost g word ≡ 0 = grind (arith, nat_tests) in omega (arith, least, none)

-- the registers after a word that leaves the index
pub registers_after : (g : Parts) (j : Job) (v : State) (column : Span) (planes : Planes) (place : Span) (b : Bool) (done : List Done) (word : Word) (answer : Answer) → RegistersFit g j v.registers done → NoReasons g j.text v word → InSpan (column_after word (column_now done)) column → has_plane (plane_after word (plane_now done)) planes ≡ true → ((base n : ℕ) → index_after base word n ≡ n) → Below (place_after word (place_now done)) place.hi → RegistersFit g j (paid (cost g word) (record v.registers { column = column; planes = planes; place = place; polled = b })) (record { word = word; answer = answer } ∷ done)
registers_after g j v column planes place b done word answer f clear in_column in_planes index below =
    record {
      column = in_column;
      plane = in_planes;
      over = f.over;
      over_is = index j.base (index_now j.base done) ∙ f.over_is;
      index = f.index;
      page = λ e. subst (λ (n : ℕ). InRange (n % g.pages) v.registers.page) (sym (index j.base (index_now j.base done))) (f.page e);
      place = below;
      cost = below_cost (cost_now g done) v.registers.cost (cost g word) f.cost;
      within = within_budget g j v done word f clear;
    }

-- a word leaves the registers beside place and cost
pub record Unmoved (word : Word) : Type 0 where
  pub column : (n : ℕ) → column_after word n ≡ n
  pub plane : (n : ℕ) → plane_after word n ≡ n
  pub index : (base n : ℕ) → index_after base word n ≡ n

pub unmoved : (g : Parts) (j : Job) (v : State) (place : Span) (b : Bool) (done : List Done) (word : Word) (answer : Answer) → RegistersFit g j v.registers done → NoReasons g j.text v word → Unmoved word → Below (place_after word (place_now done)) place.hi → RegistersFit g j (paid (cost g word) (record v.registers { place = place; polled = b })) (record { word = word; answer = answer } ∷ done)
unmoved g j v place b done word answer f clear u below =
    registers_after g j v v.registers.column v.registers.planes place b done word answer f clear
    (subst (λ (n : ℕ). InSpan n v.registers.column) (sym (u.column (column_now done))) f.column)
    (ap (λ (n : ℕ). has_plane n v.registers.planes) (u.plane (plane_now done)) ∙ f.plane)
    u.index below

-- 4. words that go on to the next line

pub record SoundWord (s : Channel) (j : Job) (past : List Item) (done : List Done) (rest : List Line) (at : ℕ) (word : Word) : Type 0 where
  pub fine : WordIsFine s j past done word
  pub step : (bytes : List ℕ) (r : Stride) → answered_step s.geometry j bytes past (record { at = at; word = word } ∷ rest) done ≡ Some r → AreTruthful s.geometry j.lun past (record { at = at; word = word } ∷ rest) bytes → r.code ≡ None → Claims s j (after_step r)

-- the words that are done at once, and lead to the next line
abbrev pub is_plain : Word → Bool
is_plain (End code) = false
is_plain Wait = false
is_plain Yield = false
is_plain (BranchOnStatus mask target) = false
is_plain (Jump target) = false
is_plain _ = true

plain_stride : (line : Line) (rest : List Line) (done : List Done) (p : Played) (word : Word) → is_plain word ≡ true → (answer : Answer) × (stride line rest done p word ≡ did p line.word answer rest done Went)
plain_stride line rest done p (End code) h = cc
plain_stride line rest done p Wait h = cc
plain_stride line rest done p Yield h = cc
plain_stride line rest done p (BranchOnStatus mask target) h = cc
plain_stride line rest done p (Jump target) h = cc
plain_stride line rest done p ReadStatus h = (Polled (first_byte p.bytes), refl)
plain_stride line rest done p (Get n) h = (Got p.bytes, refl)
plain_stride line rest done p _ h = (Nothing, refl)

same_moves : (a b : List Move) (o : Option (List Move)) → o ≡ Some a → o ≡ Some b → a ≡ b
same_moves a b o e f = let both : Some a ≡ Some b = sym e ∙ f in cc

plain_lets_none : (word : Word) → is_plain word ≡ true → lets_go word ≡ false
plain_lets_none (End code) h = cc
plain_lets_none Wait h = cc
plain_lets_none Yield h = cc
plain_lets_none _ h = refl

plain_ends_none : (word : Word) → is_plain word ≡ true → is_end word ≡ false
plain_ends_none (End code) h = cc
plain_ends_none _ h = refl

-- a plain word is sound: its moves are allowed, it stays inside the buffer, and the claim behind it fits, whatever it brings
pub plain_sound : (s : Channel) (j : Job) (k : KnownJob s j) (v : State) (past : List Item) (c : Scene) (done : List Done) (rest : List Line) (at : ℕ) (word : Word) (moved : List Move) → is_plain word ≡ true → IsScene s j.lun past c → RegistersFit s.geometry j v.registers done → NoReasons s.geometry j.text v word → moves s.geometry j done word ≡ Some moved → MovesAllowed s.geometry j.lun.lun moved c → fits j.text.buffer (place_now done) word ≡ true → ((answer : Answer) → Fits s.geometry j (state_after s.geometry v word) (record { word = word; answer = answer } ∷ done) (scene_after s.geometry j.lun.lun moved c) true) → accepts s.geometry (bounds_of j.text) None (state_after s.geometry v word) rest ≡ true → SoundWord s j past done rest at word
plain_sound s j k v past c done rest at word moved plain is registers clear is_moved allowed inside behind acc =
    record {
      fine = record {
        moved = moved;
        is_moved = is_moved;
        own = moves_own s j.lun past c moved k.there is allowed;
        inside = inside;
        budget = within_budget s.geometry j v done word registers clear;
        closed = λ e. let none = plain_lets_none word plain in cc;
        idle = λ e. let none = plain_ends_none word plain in cc;
      };
      step = λ bytes r e true_bytes code.
          let parts = answered_parts s.geometry j bytes past (record { at = at; word = word }) rest done r e in
          let same : moved ≡ parts.moved = same_moves moved parts.moved _ is_moved parts.is_moved in
          let plays : answered j.lun.ce moved bytes past ≡ Some parts.p = ap (λ (m : List Move). answered j.lun.ce m bytes past) same ∙ parts.is_p in
          let went = plain_stride (record { at = at; word = word }) rest done parts.p word plain in
          let is_did : did parts.p word went.0 rest done Went ≡ r = sym went.1 ∙ parts.is_r in
          subst (λ (x : Stride). Claims s j (after_step x)) is_did
          (record {
            claim = state_after s.geometry v word;
            scene = scene_after s.geometry j.lun.lun moved c;
            is = moves_lead s j.lun past c moved bytes parts.p k.there is allowed plays;
            fits = behind went.0;
            accepted = acc;
          });
    }
