-- What is kept before anything has happened is lawful.
use Rattle.std.proofs.Common.{◌≡◌, ℕ, zero, suc, ◌<◌, List, [], Some, refl, sym, ap, ◌∙◌, subst, arith, map, replicate}
use Rattle.std.specs.List.{slice_get}
use Rattle.onfi_cycle.specs.declared.item.Item.{Item}
use Rattle.micro_program.specs.Program.{Job}
use Rattle.seq_core.specs.World.{fresh}
use Rattle.seq_core.specs.Lawful.{LawfulWorld}
use Rattle.seq_core.specs.Shows.{CoreView, IsAt, channel_in}
use Rattle.job_queue.specs.declared.rule.QueuedJob.{QueuedJob}
use Rattle.job_queue.specs.Rule.{IsInOrder}
use Rattle.job_queue.specs.Passes.{Taking}
use Rattle.channel_work.specs.Stored.{name_of}
use Rattle.channel_work.specs.declared.tally.LunCount.{LunCount}
use Rattle.channel_work.specs.Counts.{count_of}
use Rattle.channel_work.specs.Channel.{HistoryView}
use Rattle.channel_work.specs.Lawful.{IsLawful, of_lun}

abbrev zero_count : LunCount
zero_count = record { stands = 0; polls = 0; works = 0 }

zeros_at : (m n : ℕ) → n < m → slice_get (replicate m zero_count) n ≡ Some zero_count
zeros_at zero n low = absurd (omega (arith, low))
zeros_at (suc m) zero low = refl
zeros_at (suc m) (suc n) low = zeros_at m n (omega (arith, low))

none_in_order : (hosts : ℕ) → IsInOrder {J = Job} [] hosts
none_in_order hosts = record { order = λ h. ([], refl, omega arith); none = λ h low. refl }

abbrev pub opened : CoreView → Taking Job → HistoryView
opened core taker =
    record { core = core; taker = taker; events = []; taken = []; started = []; backlog = []; done = []; counts = replicate 16 zero_count; turns = 0 }

pub new_lawful : (core : CoreView) (taker : Taking Job) → IsAt core (fresh (channel_in core)) → LawfulWorld (channel_in core) (fresh (channel_in core)) → taker.taken ≡ [] → IsLawful (opened core taker)
new_lawful core taker at law empty =
    record {
      events = [];
      replies = [];
      stored = tt;
      answered = tt;
      verified = tt;
      run = record { ran = record { world = fresh (channel_in core); replies = [] }; is_ran = refl; replied = refl; is_at = at; own = tt; lawful = law; channel = refl };
      loads = refl;
      gave = refl;
      done = refl;
      jobs = [];
      started = refl;
      order = λ l. sym (ap (of_lun l) empty);
      taken = sym (ap (map name_of) empty);
      numbers = subst (λ (xs : List (QueuedJob Job)). IsInOrder xs taker.hosts) (sym empty) (none_in_order taker.hosts);
      counts = λ n low. zeros_at 16 n low ∙ ap (λ (past : List Item). Some (count_of core.geometry n past)) (sym at.past);
      size = refl;
      turns = tt;
      turn_count = refl;
    }
