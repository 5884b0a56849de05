-- What is claimed of a program at each seat, and kept by all that may come, holds wherever it comes.
use Rattle.std.proofs.Common.{◌≡◌, ℕ, true, false, List, [], ◌∷◌, Some, None, sym, ap, ◌∙◌, subst}
use Rattle.onfi_cycle.specs.declared.lun.Lun.{Lun}
use Rattle.onfi_cycle.specs.declared.item.Item.{Item}
use Rattle.onfi_cycle.specs.declared.item.Item.TheVariants.{Cyc}
use Rattle.onfi_cycle.specs.declared.item.Cycle.{Cycle}
use Rattle.onfi_cycle.specs.Permitted.{is_legal}
use Rattle.onfi_cycle.specs.Channel.{Channel, IsChannel, IsIdle, IsOwn, is_there, is_cycle, same_lun}
use Rattle.micro_program.specs.Lines.{Line}
use Rattle.micro_program.specs.Program.{Job, Done}
use Rattle.micro_program.specs.Moves.{outputs}
use Rattle.micro_program.specs.Step.{Stride, answered_step}
use Rattle.micro_program.specs.Safe.{Seat, loaded, after_step, after_item, Reaches, starts, steps, readies, others, IsFine, LineIsFine, StaysFine, may_step, AreTruthful}
use Rattle.micro_program.proofs.Below.{facts}
use Rattle.micro_program.proofs.Walk.{along, answered_count}
use Rattle.micro_program.proofs.Tracking.{answered_parts}
use Rattle.micro_program.proofs.Strides.{answered_goes_well}

-- claims of the seats of a job that a verifier may rest on: where they hold the next step is fine, they hold at first, and
-- whatever comes keeps them
pub record AreKept (s : Channel) (j : Job) (Claims : Seat → Type 0) : Type 0 where
  pub fine : (seat : Seat) → is_legal s.geometry s.targets seat.past ≡ true → Claims seat → may_step j seat ≡ true → IsFine s j seat
  pub first : (past : List Item) → is_legal s.geometry s.targets past ≡ true → IsIdle s.geometry past j.lun → Claims (loaded j past)
  pub step : (seat : Seat) (bytes : List ℕ) (r : Stride) → is_legal s.geometry s.targets seat.past ≡ true → Claims seat → may_step j seat ≡ true → answered_step s.geometry j bytes seat.past seat.ahead seat.done ≡ Some r → AreTruthful s.geometry j.lun seat.past seat.ahead bytes → r.code ≡ None → Claims (after_step r)
  pub ready : (seat : Seat) (i : Item) → Claims seat → is_cycle i ≡ false → Claims (after_item i seat)
  pub other : (seat : Seat) (c : Cycle) (m : Lun) → is_legal s.geometry s.targets seat.past ≡ true → Claims seat → seat.holding ≡ false → IsOwn s m seat.past (Cyc c) → is_there s m ≡ true → same_lun m j.lun ≡ false → Claims (after_item (Cyc c) seat)

-- after a fine step the trace is legal
pub legal_step : (s : Channel) (j : Job) (bytes : List ℕ) (past : List Item) (ahead : List Line) (done : List Done) (r : Stride) → is_legal s.geometry s.targets past ≡ true → LineIsFine s j past done ahead → answered_step s.geometry j bytes past ahead done ≡ Some r → is_legal s.geometry s.targets r.past ≡ true
legal_step s j bytes past [] done r legal fine e = absurd fine
legal_step s j bytes past (line ∷ rest) done r legal fine e =
    let parts = answered_parts s.geometry j bytes past line rest done r e in
    let same_moves : fine.moved ≡ parts.moved = let both : Some fine.moved ≡ Some parts.moved = sym fine.is_moved ∙ parts.is_moved in cc in
    let f = answered_goes_well s j past line rest done fine bytes (answered_count j.lun.ce parts.moved bytes past parts.p parts.is_p ∙ ap outputs (sym same_moves)) in
    let same : f.r ≡ r = let both : Some f.r ≡ Some r = sym f.is_r ∙ e in cc in
    subst (λ (q : Stride). is_legal s.geometry s.targets q.past ≡ true) same
    (subst (λ (q : List Item). is_legal s.geometry s.targets q ≡ true) (sym f.adds.is_new) (along s j.lun (λ q. Unit {0}) (λ past c legal own u. tt) f.adds.new past f.adds.own legal tt).0)

-- wherever a job comes, the trace is legal and the claims hold
pub claimed : (s : Channel) → IsChannel s → (j : Job) (Claims : Seat → Type 0) → AreKept s j Claims → (seat : Seat) → Reaches s j seat → (is_legal s.geometry s.targets seat.past ≡ true) × Claims seat
claimed s is j Claims k _ (starts past legal idle) = (legal, k.first past legal idle)
claimed s is j Claims k _ (steps seat bytes r reach may e true_bytes code) =
    let before = claimed s is j Claims k seat reach in
    (legal_step s j bytes seat.past seat.ahead seat.done r before.0 (k.fine seat before.0 before.1 may) e, k.step seat bytes r before.0 before.1 may e true_bytes code)
claimed s is j Claims k _ (readies seat i reach h p) =
    let before = claimed s is j Claims k seat reach in
    (facts.legal s.geometry s.targets seat.past i before.0 p, k.ready seat i before.1 h)
claimed s is j Claims k _ (others seat c m reach free own there ne) =
    let before = claimed s is j Claims k seat reach in
    (facts.legal s.geometry s.targets seat.past (Cyc c) before.0 own.permitted, k.other seat c m before.0 before.1 free own there ne)

-- claims that are kept make a job stay fine
pub stays_fine : (s : Channel) → IsChannel s → (j : Job) (Claims : Seat → Type 0) → AreKept s j Claims → StaysFine s j
stays_fine s is j Claims k seat reach may = let c = claimed s is j Claims k seat reach in k.fine seat c.0 c.1 may
