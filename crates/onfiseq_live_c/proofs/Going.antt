-- Readies come, and jobs that have ended go.
use Rattle.std.proofs.Common.{◌≡◌, ℕ, ◌<◌, Bool, true, false, cond, [], ◌∷◌, Some, None, length, get_or, set, refl, sym, ap, ◌∙◌, get_or-set_same}
use Rattle.std.specs.Prelude.{is_none}
use Rattle.onfi_cycle.specs.declared.item.Item.TheVariants.{Rdy, Ard}
use Rattle.onfi_cycle.specs.declared.lun.Lun.{Lun}
use Rattle.onfi_cycle.specs.Channel.{Channel, is_there, same_lun}
use Rattle.onfi_cycle.specs.State.{BusView, judged}
use Rattle.seq_core.specs.Calls.{slot_state, state_of as state_by}
use Rattle.seq_core.specs.Progress.{Progress}
use Rattle.seq_core.specs.Reply.{Reply, ToReady, ToArrayReady, ToUnload, Unloaded}
use Rattle.seq_core.specs.World.{number}
use Rattle.seq_core.proofs.Cores.{place_of, few_places, slot_of_place}
use Rattle.seq_live.specs.Event.{LiveEvent, Ready, ArrayReady, Unload}
use Rattle.seq_live.specs.Kept.{LiveView, IsLive, channel_at, core_at}
use Rattle.seq_live.specs.Calls.{IsLiveEvent, live_slot}
use Rattle.seq_live.proofs.Lives.{ready_ran, array_ready_ran, live_after, live_core, unloaded}
use Rattle.bus_record.specs.Bus.{bus_pushed}
use Rattle.bus_record.specs.Channel.{IsSameChannel}
use Rattle.bus_record.proofs.Pushed.{pushed_keeps}
use Rattle.onfiseq_live_c.specs.Verified.{ReadiesAlong, ReadiesGoAlong, EndsAlong}
use Rattle.onfiseq_live_c.proofs.Noted.{with_state, went_on}
use Rattle.onfiseq_live_c.proofs.Others.{same_slot, other_slot, there_of_slot}

along : (kept : LiveView) (e : LiveEvent) (reply : Reply) (s : BusView) → IsLive kept → IsSameChannel kept.state s → IsLiveEvent kept e reply (with_state kept s) → ReadiesAlong kept e s
along kept e reply s k same event =
    record { is_live = live_after kept (with_state kept s) (e ∷ []) (reply ∷ []) k event; reply = reply; run = event; programs = λ m. same_slot kept.state s kept.slots m same }

pub readies_go_along : ReadiesGoAlong
readies_go_along =
    record {
      ready = λ kept l fail k.
          let i = Rdy l.ce l.lun fail in
          let came = is_none (judged kept.state i) in
          let s : BusView = bus_pushed kept.state (Some i) in
          along kept (Ready l fail) (ToReady came) s k (pushed_keeps kept.state i) (ready_ran kept s l fail came k (went_on kept.state i));
      array = λ kept l fail k.
          let i = Ard l.ce l.lun fail in
          let came = is_none (judged kept.state i) in
          let s : BusView = bus_pushed kept.state (Some i) in
          along kept (ArrayReady l fail) (ToArrayReady came) s k (pushed_keeps kept.state i) (array_ready_ran kept s l fail came k (went_on kept.state i));
    }

pub ended_jobs_go : (kept : LiveView) (l : Lun) (p : Progress) (code : ℕ) → IsLive kept → live_slot kept l ≡ Some p → p.code ≡ Some code → EndsAlong kept l p code
ended_jobs_go kept l p code k slot ended =
    record { later = later; is_live = live_after kept later (Unload l ∷ []) (ToUnload (Unloaded p.job code) ∷ []) k event; run = event; state = refl; holder = refl; free = free; others = others }
  where
    s : Channel
    s = channel_at kept

    there : is_there s l ≡ true
    there = there_of_slot s kept.slots l p slot

    place : Some (number s l) ≡ place_of (core_at kept []) l
    place = sym (ap (λ (b : Bool). cond b (Some (number s l)) None) there)

    found : get_or kept.slots (number s l) None ≡ Some p
    found = sym (slot_of_place (core_at kept []) l (number s l) place).0 ∙ slot

    later : LiveView
    later = record kept { slots = set kept.slots (number s l) None }

    event : IsLiveEvent kept (Unload l) (ToUnload (Unloaded p.job code)) later
    event = unloaded kept later.slots l (number s l) code p k place (sym (ap slot_state slot ∙ ap state_by ended)) found refl

    inside : number s l < length kept.slots
    inside = (few_places (core_at kept k.world.past) l (Some (number s l)) (live_core kept k) k.most k.is_channel.limits.luns_most place).0

    free : live_slot later l ≡ None
    free = ap (λ (b : Bool). cond b (get_or later.slots (number s l) None) None) there ∙ get_or-set_same kept.slots (number s l) None None inside

    others : (m : Lun) → same_lun l m ≡ false → live_slot later m ≡ live_slot kept m
    others m differs = other_slot s kept.slots l m None there differs
