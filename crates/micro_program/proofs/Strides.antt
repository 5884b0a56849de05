-- What the stride of a word leaves.
use Rattle.std.proofs.Common.{◌≡◌, ℕ, ◌+◌, ◌≤◌, ◌⊎◌, Bool, true, false, List, [], ◌∷◌, Some, refl, sym, ap, ◌∙◌, subst, inl, inr}
use Rattle.std.proofs.lemmas.Bool.{and_from}
use Rattle.onfi_cycle.specs.declared.item.Item.{Item}
use Rattle.micro_word.specs.declared.word.Word.{Word}
use Rattle.micro_word.specs.declared.word.Word.TheVariants.{End, Get, Wait, Yield, ReadStatus}
use Rattle.micro_program.specs.Lines.{Line}
use Rattle.micro_program.specs.Moves.{Move, moves}
use Rattle.micro_program.specs.Program.{Job, Done, Answer, Nothing, Polled, Got, is_ready_status, place_now, fits, all_fit, cost, cost_now}
use Rattle.onfi_cycle.specs.Channel.{Channel, IsIdle, is_open_on}
use Rattle.micro_program.specs.Played.{Played, answered}
use Rattle.micro_program.specs.Step.{Stride, stride, waited, first_byte, keeps_bus, answered_step, next_step}
use Rattle.micro_program.specs.Safe.{AddsOwn, lets_go, is_end}
use Rattle.micro_program.specs.Laws.{AnsweredStepsGoWell, FineStepsGoWell}
use Rattle.micro_program.proofs.Tracking.{StepParts}
use Rattle.micro_program.proofs.Walk.{walked, shown, played_is, poll_closes}

-- the word joins those done, or comes again
abbrev IsDoneOrAgain : Word → List Done → List Done → Type 0
IsDoneOrAgain word done new = ((answer : Answer) × (new ≡ record { word = word; answer = answer } ∷ done)) ⊎ (new ≡ done)

-- of the stride of a word
pub record StrideFacts (word : Word) (line : Line) (done : List Done) (p : Played) (r : Stride) : Type 0 where
  pub past : r.past ≡ p.past
  pub again : IsDoneOrAgain line.word done r.done
  pub end : (code : ℕ) → r.code ≡ Some code → is_end word ≡ true
  pub no_bus : (code : ℕ) → r.code ≡ Some code → keeps_bus r.outcome ≡ false
  pub let_go : keeps_bus r.outcome ≡ false → lets_go word ≡ true

stride_facts : (line : Line) (rest : List Line) (done : List Done) (p : Played) (word : Word) → StrideFacts word line done p (stride line rest done p word)
stride_facts line rest done p (End code) =
    record { past = refl; again = inl (Nothing, refl); end = λ c h. refl; no_bus = λ c h. refl; let_go = λ h. refl }
stride_facts line rest done p Yield =
    record { past = refl; again = inl (Nothing, refl); end = λ c h. cc; no_bus = λ c h. refl; let_go = λ h. refl }
stride_facts line rest done p Wait = at (is_ready_status (first_byte p.bytes)) refl
  where
    at : (b : Bool) → is_ready_status (first_byte p.bytes) ≡ b → StrideFacts Wait line done p (waited p line rest done (first_byte p.bytes))
    at true e = rw e (record { past = refl; again = inl (Polled (first_byte p.bytes), refl); end = λ c h. cc; no_bus = λ c h. cc; let_go = λ h. refl })
    at false e = rw e (record { past = refl; again = inr refl; end = λ c h. cc; no_bus = λ c h. refl; let_go = λ h. refl })
stride_facts line rest done p ReadStatus =
    record { past = refl; again = inl (Polled (first_byte p.bytes), refl); end = λ c h. cc; no_bus = λ c h. cc; let_go = λ h. cc }
stride_facts line rest done p (Get n) =
    record { past = refl; again = inl (Got p.bytes, refl); end = λ c h. cc; no_bus = λ c h. cc; let_go = λ h. cc }
stride_facts line rest done p _ =
    record { past = refl; again = inl (Nothing, refl); end = λ c h. cc; no_bus = λ c h. cc; let_go = λ h. cc }

-- no moves leave the trace
unmoved : (ce : ℕ) (moved : List Move) (bytes : List ℕ) (past : List Item) (p : Played) → Some [] ≡ Some moved → answered ce moved bytes past ≡ Some p → past ≡ p.past
unmoved ce moved bytes past p m plays =
    let none : moved ≡ [] = cc in
    at bytes (subst (λ (q : List Move). answered ce q bytes past ≡ Some p) none plays)
  where
    at : (xs : List ℕ) → answered ce [] xs past ≡ Some p → past ≡ p.past
    at [] e = cc
    at (x ∷ xs) e = cc

-- after a word that lets the bus go nothing is open
closed_after : (s : Channel) (j : Job) (done : List Done) (word : Word) (moved : List Move) (bytes : List ℕ) (past : List Item) (p : Played) → moves s.geometry j done word ≡ Some moved → answered j.lun.ce moved bytes past ≡ Some p → lets_go word ≡ true → is_open_on past j.lun.ce ≡ false → is_open_on p.past j.lun.ce ≡ false
closed_after s j done Wait moved bytes past p m plays goes closed = poll_closes s j j.lun.ce moved bytes past p m plays
closed_after s j done Yield moved bytes past p m plays goes closed = subst (λ (q : List Item). is_open_on q j.lun.ce ≡ false) (unmoved j.lun.ce moved bytes past p m plays) closed
closed_after s j done (End code) moved bytes past p m plays goes closed = subst (λ (q : List Item). is_open_on q j.lun.ce ≡ false) (unmoved j.lun.ce moved bytes past p m plays) closed
closed_after s j done _ moved bytes past p m plays goes closed = cc

inside_after : (buffer : ℕ) (word : Word) (done new : List Done) → IsDoneOrAgain word done new → fits buffer (place_now done) word ≡ true → all_fit buffer done ≡ true → all_fit buffer new ≡ true
inside_after buffer word done new (inl d) f h = rw d.1 (and_from (fits buffer (place_now done) word) (all_fit buffer done) f h)
inside_after buffer word done new (inr e) f h = rw e h

budget_after : (s : Channel) (budget : ℕ) (word : Word) (done new : List Done) → IsDoneOrAgain word done new → cost_now s.geometry done + cost s.geometry word ≤ budget → cost_now s.geometry done ≤ budget → cost_now s.geometry new ≤ budget
budget_after s budget word done new (inl d) f h = rw d.1 f
budget_after s budget word done new (inr e) f h = rw e h

end_moves : (s : Channel) (j : Job) (done : List Done) (word : Word) → is_end word ≡ true → moves s.geometry j done word ≡ Some []
end_moves s j done (End code) h = refl
end_moves s j done _ h = cc

-- a step of a fine word goes well, whatever bytes its outputs give
pub answered_goes_well : AnsweredStepsGoWell
answered_goes_well s j past line rest done fine bytes many =
    let w = walked s j.lun past fine.moved bytes [] many tt fine.own in
    let f = stride_facts line rest done w.p line.word in
    let same : w.p.past ≡ (stride line rest done w.p line.word).past = sym f.past in
    record {
      r = stride line rest done w.p line.word;
      is_r = rw fine.is_moved (rw w.is_p refl);
      adds = subst (λ (q : List Item). AddsOwn s j.lun past q) same w.adds;
      inside = inside_after j.text.buffer line.word done _ f.again fine.inside;
      budget = budget_after s j.text.budget line.word done _ f.again fine.budget;
      idle = λ code h. let e = f.end code h in subst (λ (q : List Item). IsIdle s.geometry q j.lun) (unmoved j.lun.ce fine.moved bytes past w.p (sym (end_moves s j done line.word e) ∙ fine.is_moved) w.is_p ∙ same) (fine.idle e);
      no_bus = f.no_bus;
      closed = λ h. let e = f.let_go h in subst (λ (q : List Item). is_open_on q j.lun.ce ≡ false) same (closed_after s j done line.word fine.moved bytes past w.p fine.is_moved w.is_p e (fine.closed e));
    }

-- what a model steps is stepped with its bytes
pub model_step : (s : Channel) (j : Job) (past : List Item) (line : Line) (rest : List Line) (done : List Done) (r : Stride) (parts : StepParts s j past line rest done r) → answered_step s.geometry j parts.p.bytes past (line ∷ rest) done ≡ Some r
model_step s j past line rest done r parts =
    let is = played_is s j.lun.ce parts.moved past parts.p parts.is_p in
    rw parts.is_moved (rw is.0 (ap Some parts.is_r))

-- and on a model
pub fine_step : FineStepsGoWell
fine_step s is j past line rest done fine =
    let here = shown s is j.lun fine.moved past fine.own in
    let played_here = played_is s j.lun.ce fine.moved past here.0 here.1 in
    let go = answered_goes_well s j past line rest done fine here.0.bytes played_here.1 in
    let by_bytes : answered_step s.geometry j here.0.bytes past (line ∷ rest) done ≡ Some (stride line rest done here.0 line.word) = rw fine.is_moved (rw played_here.0 refl) in
    let by_model : next_step s j past (line ∷ rest) done ≡ Some (stride line rest done here.0 line.word) = rw fine.is_moved (rw here.1 refl) in
    record { r = go.r; is_r = by_model ∙ (sym by_bytes ∙ go.is_r); adds = go.adds; inside = go.inside; budget = go.budget; idle = go.idle; no_bus = go.no_bus; closed = go.closed }
