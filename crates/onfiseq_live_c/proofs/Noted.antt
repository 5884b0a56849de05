-- The readies that a poll shows, as that sequencer notes them.
use Rattle.std.proofs.Common.{◌≡◌, ℕ, ◌&&◌, Bool, true, false, cond, List, [], ◌∷◌, Option, Some, None, refl, sym, ap, ◌∙◌}
use Rattle.std.specs.Prelude.{is_none, bit_and}
use Rattle.std.proofs.lemmas.Bool.Decides.{nat_tests}
use Rattle.std.proofs.Common.{arith}
use Rattle.onfi_cycle.specs.declared.forbidden.Forbidden.{Forbidden}
use Rattle.onfi_cycle.specs.declared.item.Item.{Item}
use Rattle.onfi_cycle.specs.declared.item.Item.TheVariants.{Rdy, Ard}
use Rattle.onfi_cycle.specs.declared.lun.Lun.{Lun}
use Rattle.onfi_cycle.specs.Permitted.{broken}
use Rattle.onfi_cycle.specs.State.{BusView, Follows, judged, bus_after}
use Rattle.onfi_cycle.proofs.Following.{judged_is_broken, bus_goes_on}
use Rattle.micro_word.specs.declared.word.Word.{Word}
use Rattle.micro_word.specs.declared.word.Word.TheVariants as word
use Rattle.micro_program.specs.Moves.{is_wait}
use Rattle.micro_program.specs.Program.{is_ready_status}
use Rattle.micro_program.specs.Step.{first_byte}
use Rattle.seq_core.specs.Progress.{status_of}
use Rattle.seq_core.specs.Reply.{ToReady, ToArrayReady}
use Rattle.seq_live.specs.Event.{Ready, ArrayReady}
use Rattle.seq_live.specs.Kept.{LiveView, IsLive}
use Rattle.seq_live.specs.Calls.{IsLiveEvent, IsReadyNow, is_poll, has_array_ready, has_fail, told_by, shown, shown_by, ends_with}
use Rattle.seq_live.proofs.Lives.{WentOnIf, ready_ran, array_ready_ran, live_after}
use Rattle.seq_live.proofs.Shown.{Shows, shows_both, shows_ready, shows_none, shows_poll, shows_nothing, ends_ready}
use Rattle.seq_live.proofs.Truth.{ready_truth, array_truth}
use Rattle.bus_record.specs.Bus.{bus_pushed}
use Rattle.bus_record.specs.Rule.{by_option}
use Rattle.onfiseq_live_c.specs.Finish.{with_status, with_readies}

abbrev pub with_state : LiveView → BusView → LiveView
with_state kept s = record kept { state = s }

-- a push is going on where that is permitted
pub went_on : (s : BusView) (i : Item) → WentOnIf s (bus_pushed s (Some i)) i (is_none (judged s i))
went_on s i g n past f = at (judged s i) refl
  where
    at : (o : Option Forbidden) → judged s i ≡ o → (is_none o ≡ is_none (broken g n past i)) × Follows g n (by_option o (bus_after i s) (λ (r : Forbidden). s)) (cond (is_none o) (i ∷ past) past)
    at None e = (ap is_none (sym e ∙ judged_is_broken g n s past i f), bus_goes_on g n s past i e f)
    at (Some r) e = (ap is_none (sym e ∙ judged_is_broken g n s past i f), f)

record NotedStatus (kept : LiveView) (l : Lun) (status : ℕ) (s : BusView) : Type 0 where
  live : IsLive (with_state kept s)
  shows : Shows kept (shown_by l status) (with_state kept s)
  truth : is_ready_status status ≡ true → IsReadyNow s l

differs : (b : Bool) → b ≡ true → b ≡ false → ⊥
differs b x y = cc

noted_status : (kept : LiveView) (l : Lun) (status : ℕ) → IsLive kept → NotedStatus kept l status (with_status l status kept.state)
noted_status kept l status k = at (is_ready_status status) refl (has_array_ready status) refl
  where
    s1 : BusView
    s1 = bus_pushed kept.state (Some (Rdy l.ce l.lun (told_by status)))

    came : Bool
    came = is_none (judged kept.state (Rdy l.ce l.lun (told_by status)))

    first : IsLiveEvent kept (Ready l (told_by status)) (ToReady came) (with_state kept s1)
    first = ready_ran kept s1 l (told_by status) came k (went_on kept.state (Rdy l.ce l.lun (told_by status)))

    live1 : IsLive (with_state kept s1)
    live1 = live_after kept (with_state kept s1) (Ready l (told_by status) ∷ []) (ToReady came ∷ []) k first

    true1 : IsReadyNow s1 l
    true1 = ready_truth kept s1 l (told_by status) came k (went_on kept.state (Rdy l.ce l.lun (told_by status)))

    s2 : BusView
    s2 = bus_pushed s1 (Some (Ard l.ce l.lun (has_fail status)))

    array : Bool
    array = is_none (judged s1 (Ard l.ce l.lun (has_fail status)))

    second : IsLiveEvent (with_state kept s1) (ArrayReady l (has_fail status)) (ToArrayReady array) (with_state kept s2)
    second = array_ready_ran (with_state kept s1) s2 l (has_fail status) array live1 (went_on s1 (Ard l.ce l.lun (has_fail status)))

    at : (r : Bool) → is_ready_status status ≡ r → (a : Bool) → has_array_ready status ≡ a → NotedStatus kept l status (cond r (cond a s2 s1) kept.state)
    at false e a d = record { live = k; shows = shows_none kept l status e; truth = λ t. absurd (differs (is_ready_status status) t e) }
    at true e false d =
        let other : bit_and status 32 ≡ 32 → ⊥ = λ h. differs (has_array_ready status) (grind (arith, nat_tests, h)) d in
        record { live = live1; shows = shows_ready kept (with_state kept s1) l status (told_by status) came e refl other first; truth = λ t. true1 }
    at true e true d =
        let bit : bit_and status 32 ≡ 32 = grind (arith, nat_tests, d) in
        record {
          live = live_after (with_state kept s1) (with_state kept s2) (ArrayReady l (has_fail status) ∷ []) (ToArrayReady array ∷ []) live1 second;
          shows = shows_both kept (with_state kept s1) (with_state kept s2) l status (told_by status) came array e refl bit first second;
          truth = λ t. array_truth (with_state kept s1) s2 l (has_fail status) array live1 (went_on s1 (Ard l.ce l.lun (has_fail status))) true1;
        }

poll_status : (w : Word) (bytes : List ℕ) → is_poll w ≡ true → status_of w bytes ≡ first_byte bytes
poll_status word.Wait bytes e = refl
poll_status word.ReadStatus bytes e = refl
poll_status w bytes e = cc

no_wait : (w : Word) → is_poll w ≡ false → is_wait w ≡ false
no_wait word.Wait e = cc
no_wait w e = refl

pub record Noted (kept : LiveView) (l : Lun) (word : Word) (bytes : List ℕ) (s : BusView) : Type 0 where
  pub live : IsLive (with_state kept s)
  pub shows : Shows kept (shown l word bytes) (with_state kept s)
  pub truth : ends_with word bytes ≡ true → IsReadyNow s l

pub noted : (kept : LiveView) (l : Lun) (w : Word) (bytes : List ℕ) → IsLive kept → Noted kept l w bytes (with_readies l w bytes kept.state)
noted kept l w bytes k = at (is_poll w) refl
  where
    n : NotedStatus kept l (status_of w bytes) (with_status l (status_of w bytes) kept.state)
    n = noted_status kept l (status_of w bytes) k

    at : (b : Bool) → is_poll w ≡ b → Noted kept l w bytes (cond b (with_status l (status_of w bytes) kept.state) kept.state)
    at true e = record {
      live = n.live;
      shows = shows_poll kept (with_state kept (with_status l (status_of w bytes) kept.state)) l w bytes (status_of w bytes) e (poll_status w bytes e) n.shows;
      truth = λ t. n.truth (ends_ready w bytes (status_of w bytes) (poll_status w bytes e) t);
    }
    at false e = record {
      live = k;
      shows = shows_nothing kept l w bytes e;
      truth = λ t. absurd (differs (ends_with w bytes) t (ap (λ (b : Bool). b && is_ready_status (first_byte bytes)) (no_wait w e)));
    }
