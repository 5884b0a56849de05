-- A status poll by 70h, tried at once.
use Rattle.std.proofs.Common.{◌≡◌, ℕ, Option, Some, None, Ok, Err, refl, sym, ap, ◌∙◌}
use Rattle.onfi_cycle.specs.declared.forbidden.Forbidden.{Forbidden}
use Rattle.onfi_cycle.specs.declared.item.Kind.TheVariants.{Cmd, Dout}
use Rattle.onfi_cycle.specs.Channel.{cycle}
use Rattle.onfi_cycle.specs.Runs.{first_rule, judged_run}
use Rattle.onfi_cycle.specs.State.{BusView, bus_after, judged}
use Rattle.micro_word.specs.declared.word.Word.{Word}
use Rattle.seq_live.specs.Burst.{taken_by}
use Rattle.bus_record.specs.Trial.{judged_poll}
use Rattle.onfiseq_live_c.specs.declared.stop.Stop.TheVariants as stop
use Rattle.onfiseq_live_c.specs.Bursts.{PollsOne, judged_bursts, poll_of}
use Rattle.onfiseq_live_c.specs.Finish.{left_by, played, played_by}
use Rattle.onfiseq_live_c.specs.Job.{JobView}
use Rattle.onfiseq_live_c.specs.Next.{permitted, told, told_by}

none_last : (a : Option Forbidden) → first_rule a None ≡ a
none_last None = refl
none_last (Some rule) = refl

judged_so : (ce : ℕ) (s : BusView) → judged_bursts (poll_of ce) s ≡ judged_poll ce s
judged_so ce s =
    let s1 = bus_after (cycle ce Cmd 0x70) s in
    ap (first_rule (judged s (cycle ce Cmd 0x70))) (none_last (judged_run Dout ce 1 s1) ∙ none_last (judged s1 (cycle ce Dout 0)))

pub poll_breaks : (s : BusView) (j : JobView) (w : Word) (rule : Forbidden) → PollsOne s.geometry w → Some rule ≡ judged_poll j.lun.ce s → played j w s ≡ Err (stop.Breaks rule)
poll_breaks s j w rule poll is = ap (played_by s) (poll.0 j.lun j.registers) ∙ ap (left_by s (poll_of j.lun.ce)) (judged_so j.lun.ce s ∙ sym is)

pub poll_stops : (s : BusView) (j : JobView) (w : Word) (rule : Forbidden) → PollsOne s.geometry w → Some rule ≡ judged_poll j.lun.ce s → told s j w ≡ Err (stop.Breaks rule)
poll_stops s j w rule poll is = ap (told_by s w) (poll.0 j.lun j.registers) ∙ ap (permitted (poll_of j.lun.ce) (taken_by w)) (judged_so j.lun.ce s ∙ sym is)

pub poll_is_told : (s : BusView) (j : JobView) (w : Word) → PollsOne s.geometry w → None ≡ judged_poll j.lun.ce s → told s j w ≡ Ok (record { bursts = poll_of j.lun.ce; taken = 1 })
poll_is_told s j w poll is =
    ap (told_by s w) (poll.0 j.lun j.registers)
    ∙ (ap (permitted (poll_of j.lun.ce) (taken_by w)) (judged_so j.lun.ce s ∙ sym is)
    ∙ ap (λ (n : ℕ). permitted (poll_of j.lun.ce) n None) poll.1)
