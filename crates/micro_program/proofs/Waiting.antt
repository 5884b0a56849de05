-- Where a `wait` comes again its LUN is busy.
use Rattle.std.proofs.Common.{◌≡◌, ℕ, ◌*◌, ◌<◌, ◌≤◌, Bool, true, false, ◌&&◌, List, [], ◌∷◌, ◌++◌, Some, refl, sym, ap, ◌∙◌, arith}
use Rattle.std.proofs.lemmas.Nat.{pow_pos}
use Rattle.std.proofs.Math.Nat.{one-le-mul, le-div_iff_mul-le}
use Rattle.std.proofs.lemmas.Bool.{and_parts}
use Rattle.nand_geometry.specs.declared.parts.Parts.{Parts}
use Rattle.nand_geometry.specs.Limits.{InLimits, indices, planes}
use Rattle.onfi_cycle.specs.declared.item.Item.{Item}
use Rattle.onfi_cycle.specs.Lun.{is_busy}
use Rattle.onfi_cycle.specs.Channel.{Channel, IsChannel, is_there, is_open_on}
use Rattle.micro_word.specs.declared.word.Word.{Word}
use Rattle.micro_word.specs.declared.word.Word.TheVariants.{End, Yield, Wait}
use Rattle.micro_program.specs.Lines.{Line}
use Rattle.micro_program.specs.Program.{Job, Done, is_ready_status}
use Rattle.micro_program.specs.Moves.{Move, Take, moves, poll, is_wait}
use Rattle.micro_program.specs.Played.{Played, played}
use Rattle.micro_program.specs.Step.{Stride, NotReady, Went, stride, waited, first_byte}
use Rattle.micro_program.specs.Laws.{UnreadyIsBusy, ModelsAreTruthful}
use Rattle.micro_program.proofs.Below.{rows}
use Rattle.micro_program.proofs.Basics.{there_lun}
use Rattle.micro_program.proofs.Polls.{polling, poll_leaves, poll_shows, after_output}
use Rattle.micro_program.proofs.Tracking.{StepParts, step_parts}
use Rattle.micro_program.proofs.Strides.{model_step}

some_index : (g : Parts) → InLimits g → 0 < indices g
some_index g limits =
    let fits : 1 * planes g ≤ g.blocks = omega (arith, limits.planes_most) in
    one-le-mul limits.pages_least ((le-div_iff_mul-le (pow_pos g.plane_bits)).1 fits)

-- a stride that isn't ready is that of a `wait` whose byte says so
is_unready_wait : (line : Line) (rest : List Line) (done : List Done) (p : Played) (word : Word) → (stride line rest done p word).outcome ≡ NotReady → (word ≡ Wait) × (is_ready_status (first_byte p.bytes) ≡ false) × ((stride line rest done p word).past ≡ p.past)
is_unready_wait line rest done p (End code) h = cc
is_unready_wait line rest done p Yield h = cc
is_unready_wait line rest done p Wait h = at (is_ready_status (first_byte p.bytes)) refl
  where
    at : (b : Bool) → is_ready_status (first_byte p.bytes) ≡ b → (Wait ≡ Wait) × (is_ready_status (first_byte p.bytes) ≡ false) × ((waited p line rest done (first_byte p.bytes)).past ≡ p.past)
    at true e = let never : (waited p line rest done (first_byte p.bytes)).outcome ≡ NotReady = h in absurd (clash (sym (rw e refl) ∙ never))
      where
        clash : Went ≡ NotReady → ⊥
        clash x = cc
    at false e = (refl, e, rw e refl)
is_unready_wait line rest done p _ h = cc

-- a step of a poll on a model
record ModelPoll (s : Channel) (j : Job) (past : List Item) (p : Played) : Type 0 where
  before : List Item
  byte : ℕ
  is_p : p ≡ after_output j.lun.ce byte before
  says : is_ready_status byte ≡ true → is_busy s.geometry past j.lun ≡ false
  says_not : is_ready_status byte ≡ false → (is_busy s.geometry past j.lun ≡ true) × (is_busy s.geometry p.past j.lun ≡ true)

model_poll : (s : Channel) → IsChannel s → (j : Job) (past : List Item) (moved : List Move) (q : Played) → is_there s j.lun ≡ true → is_open_on past j.lun.ce ≡ false → poll s.geometry j ≡ Some moved → played s j.lun.ce moved past ≡ Some q → ModelPoll s j past q
model_poll s is j past moved q there shut polls plays =
    let row = rows s.geometry j.lun.lun 0 0 is.limits (there_lun s j.lun there) (some_index s.geometry is.limits) (pow_pos s.geometry.plane_bits) in
    let p = polling s j past is.limits row there shut in
    let shows = poll_shows s is j past there p in
    let left = poll_leaves s j past p shows.byte in
    let same : moved ≡ p.before ++ (Take ∷ []) = some_same moved (p.before ++ (Take ∷ [])) (sym polls ∙ p.moves_are) in
    let is_q : q ≡ after_output j.lun.ce shows.byte p.polled = some_same q (after_output j.lun.ce shows.byte p.polled) (sym plays ∙ (ap (λ (m : List Move). played s j.lun.ce m past) same ∙ shows.is_played)) in
    record {
      before = p.polled;
      byte = shows.byte;
      is_p = is_q;
      says = shows.says;
      says_not = λ e. (shows.says_not e, ap (λ (x : Played). is_busy s.geometry x.past j.lun) is_q ∙ (left.leaves.busy ∙ shows.says_not e));
    }
  where
    some_same : {X : Type 0} (x y : X) → Some x ≡ Some y → x ≡ y
    some_same x y h = cc

pub unready_is_busy : UnreadyIsBusy
unready_is_busy s is j past line rest done r there fine e unready =
    let parts = step_parts s j past line rest done r e in
    let w = is_unready_wait line rest done parts.p line.word (ap (λ (x : Stride). x.outcome) parts.is_r ∙ unready) in
    let m = model_poll s is j past parts.moved parts.p there (fine.closed (rw w.0 refl)) (sym (ap (moves s.geometry j done) w.0) ∙ parts.is_moved) parts.is_p in
    let says : is_ready_status m.byte ≡ false = sym (ap (λ (q : Played). is_ready_status (first_byte q.bytes)) m.is_p) ∙ w.1 in
    let past_is : r.past ≡ parts.p.past = sym (ap (λ (x : Stride). x.past) parts.is_r) ∙ w.2 in
    let both = m.says_not says in
    (both.0, ap (λ (t : List Item). is_busy s.geometry t j.lun) past_is ∙ both.1)

-- what a model answers to a step is truthful
pub models_are_truthful : ModelsAreTruthful
models_are_truthful s is j past line rest done r there fine e =
    let parts = step_parts s j past line rest done r e in
    record { bytes = parts.p.bytes; is_step = model_step s j past line rest done r parts; truthful = λ h. says line.word refl parts h }
  where
    says : (word : Word) → line.word ≡ word → (parts : StepParts s j past line rest done r) → (is_wait line.word && is_ready_status (first_byte parts.p.bytes)) ≡ true → is_busy s.geometry past j.lun ≡ false
    says Wait w parts h =
        let m = model_poll s is j past parts.moved parts.p there (fine.closed (rw w refl)) (sym (ap (moves s.geometry j done) w) ∙ parts.is_moved) parts.is_p in
        m.says (sym (ap (λ (q : Played). is_ready_status (first_byte q.bytes)) m.is_p) ∙ (and_parts (is_wait line.word) _ h).1)
    says _ w parts h = let none : false ≡ true = sym (rw w refl) ∙ h in cc
