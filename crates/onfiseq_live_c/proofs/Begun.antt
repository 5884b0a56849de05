-- A verified job begins.
use Rattle.std.proofs.Common.{◌≡◌, ℕ, ◌*◌, ◌^◌, ◌<◌, ◌≤◌, Bool, true, false, cond, List, [], ◌∷◌, Some, None, length, get_or, set, replicate, refl, sym, ap, ◌∙◌, get_or-set_same}
use Rattle.nand_geometry.specs.declared.parts.Parts.{Parts}
use Rattle.nand_geometry.specs.Limits.{InLimits}
use Rattle.onfi_cycle.specs.declared.lun.Lun.{Lun}
use Rattle.onfi_cycle.specs.Channel.{Channel, is_there, same_lun}
use Rattle.onfi_cycle.specs.State.{Follows}
use Rattle.micro_word.specs.Text.{IsFileOf}
use Rattle.micro_program.specs.Places.{IsShaped}
use Rattle.micro_program.specs.Program.{Job}
use Rattle.seq_core.specs.Event.{IsVerified}
use Rattle.seq_core.specs.Progress.{fresh_progress}
use Rattle.seq_core.specs.Reply.{ToLoad, Loaded}
use Rattle.seq_core.specs.World.{number}
use Rattle.seq_core.proofs.Cores.{place_of, admitted_there, few_places}
use Rattle.seq_live.specs.Event.{Load}
use Rattle.seq_live.specs.Kept.{LiveView, IsLive, channel_at, core_at}
use Rattle.seq_live.specs.Calls.{IsLiveEvent, live_load_fault, live_slot}
use Rattle.seq_live.proofs.Lives.{live_core, live_after, loaded, new_is_live}
use Rattle.onfiseq_live_c.specs.declared.live.OnfiseqLive.{OnfiseqLive}
use Rattle.onfiseq_live_c.specs.declared.job.OnfiseqJob.{OnfiseqJob}
use Rattle.onfiseq_live_c.specs.Job.{JobView, job_view, fresh_job, lun_in}
use Rattle.onfiseq_live_c.specs.Live.{state_of, holder_of, are_whole}
use Rattle.onfiseq_live_c.specs.Verified.{StandsFor, BeginsAlong}
use Rattle.onfiseq_live_c.proofs.Others.{other_slot}

pub verified_jobs_begin : (kept : LiveView) (x : Job) (v : OnfiseqLive) (j : OnfiseqJob) (file : List ℕ) → IsLive kept → state_of v ≡ kept.state → holder_of v ≡ kept.holder
    → IsVerified x → IsShaped x.text.words → x.base < 2 ^ 32 → IsFileOf file x.text → live_load_fault kept x.lun x ≡ None
    → are_whole v j ≡ true → job_view j ≡ fresh_job x.lun x.base (length x.buffer) → BeginsAlong kept x v j file
verified_jobs_begin kept x v j file k state holder verified shaped base text admitted whole job = at (is_there s x.lun) refl
  where
    s : Channel
    s = channel_at kept

    at : (b : Bool) → is_there s x.lun ≡ b → BeginsAlong kept x v j file
    at false e =
        let nowhere : None ≡ place_of (core_at kept []) x.lun = sym (ap (λ (b : Bool). cond b (Some (number s x.lun)) None) e) in
        absurd (admitted_there (core_at kept []) x.lun x admitted nowhere)
    at true e = record { later = later; is_live = live_after kept later (Load x.lun x ∷ []) (ToLoad Loaded ∷ []) k event; run = event; stands = stands; others = others }
      where
        place : Some (number s x.lun) ≡ place_of (core_at kept []) x.lun
        place = sym (ap (λ (b : Bool). cond b (Some (number s x.lun)) None) e)

        later : LiveView
        later = record kept { slots = set kept.slots (number s x.lun) (Some (fresh_progress x)) }

        event : IsLiveEvent kept (Load x.lun x) (ToLoad Loaded) later
        event = loaded kept later.slots x.lun (number s x.lun) x k verified shaped base admitted place refl

        inside : number s x.lun < length kept.slots
        inside = (few_places (core_at kept k.world.past) x.lun (Some (number s x.lun)) (live_core kept k) k.most k.is_channel.limits.luns_most place).0

        lun_is : lun_in j ≡ x.lun
        lun_is = ap (λ (y : JobView). y.lun) job

        slot : live_slot later x.lun ≡ Some (fresh_progress x)
        slot =
            ap (λ (b : Bool). cond b (get_or later.slots (number s x.lun) None) None) e
            ∙ get_or-set_same kept.slots (number s x.lun) (Some (fresh_progress x)) None inside

        others : (m : Lun) → same_lun x.lun m ≡ false → live_slot later m ≡ live_slot kept m
        others m differs = other_slot s kept.slots x.lun m (Some (fresh_progress x)) e differs

        stands : StandsFor later (fresh_progress x) v j file
        stands = record {
          whole = whole;
          state = state;
          holder = holder;
          slot = ap (live_slot later) lun_is ∙ slot;
          text = text;
          base = ap (λ (y : JobView). y.base) job;
          buffer = ap (λ (y : JobView). y.buffer) job;
          at = ap (λ (y : JobView). y.at) job;
          loops = ap (λ (y : JobView). y.loops) job;
          registers = ap (λ (y : JobView). y.registers) job;
          code = ap (λ (y : JobView). y.code) job;
        }

pub channels_begin : (v : OnfiseqLive) (g : Parts) (targets : ℕ) → InLimits g → targets ≤ 4 → Follows g targets (state_of v) []
    → IsLive (record { state = state_of v; slots = replicate (targets * g.luns) None; holder = None; going = None })
channels_begin v g targets limits most f = new_is_live (state_of v) (replicate (targets * g.luns) None) None g targets (targets * g.luns) limits most f refl refl
