-- What one LUN adds to a trace passes the others by.
use Rattle.std.proofs.Common.{◌≡◌, true, false, List, ◌∷◌, refl, ap, ◌∙◌, sym, subst}
use Rattle.onfi_cycle.specs.declared.lun.Lun.{Lun}
use Rattle.onfi_cycle.specs.declared.item.Item.{Item}
use Rattle.onfi_cycle.specs.declared.item.Item.TheVariants.{Cyc}
use Rattle.onfi_cycle.specs.declared.item.Cycle.{Cycle}
use Rattle.onfi_cycle.specs.declared.target_cycle.TargetCycle.{TargetCycle}
use Rattle.onfi_cycle.specs.Sequence.{facts_of, is_open}
use Rattle.onfi_cycle.specs.Permitted.{is_legal}
use Rattle.onfi_cycle.specs.Channel.{Channel, IsIdle, IsOwn, is_open_on}
use Rattle.micro_program.specs.Safe.{Reaches, others, AddsOwn}
use Rattle.micro_program.specs.Laws.{OwnCyclesPassOthers}
use Rattle.micro_program.proofs.Below.{own_cycles}
use Rattle.micro_program.proofs.Walk.{along}

-- what each own cycle keeps, an addition keeps; and it keeps the trace legal
pub kept : (s : Channel) (l : Lun) (before later : List Item) (P : List Item → Type 0) → ((past : List Item) (c : Cycle) → is_legal s.geometry s.targets past ≡ true → IsOwn s l past (Cyc c) → P past → P (Cyc c ∷ past)) → is_legal s.geometry s.targets before ≡ true → AddsOwn s l before later → P before → (is_legal s.geometry s.targets later ≡ true) × P later
kept s l before later P step legal adds h =
    subst (λ (q : List Item). (is_legal s.geometry s.targets q ≡ true) × P q) (sym adds.is_new) (along s l P step adds.new before adds.own legal h)

pub own_cycles_pass_others : OwnCyclesPassOthers
own_cycles_pass_others s l before later there legal adds =
    record {
      legal = (kept s l before later (λ q. Unit {0}) (λ past c ok own u. tt) legal adds tt).0;
      seats = λ j ahead done differs reaches. (kept s l before later (λ q. Reaches s j (record { past = q; ahead = ahead; done = done; holding = false })) (λ past c ok own r. others (record { past = past; ahead = ahead; done = done; holding = false }) c l r refl own there differs) legal adds reaches).1;
      idle = λ m differs mt idle. (kept s l before later (λ q. IsIdle s.geometry q m) (λ past c ok own i. own_cycles.idle s.geometry past (Cyc c) l m own.own (own_cycles.others s past c l m ok own differs there mt) i) legal adds idle).1;
      targets = λ ce differs. (kept s l before later (λ q. is_open_on q ce ≡ is_open_on before ce) (λ past c ok own e. ap (λ (t : List TargetCycle). is_open (facts_of t)) (own_cycles.tails s past c l ce own differs) ∙ e) legal adds refl).1;
    }
