-- A job that was loaded alone runs to its end.
use Rattle.std.proofs.Common.{◌≡◌, ℕ, zero, suc, ◌+◌, ◌*◌, ◌≤◌, cond, ◌&&◌, not, is_some, List, [], ◌∷◌, length, get_or, replicate, Option, Some, None, refl, sym, ap, ◌∙◌, subst, arith}
use Rattle.std.proofs.lemmas.List.{length-replicate}
use Rattle.nand_geometry.specs.declared.parts.Parts.{Parts}
use Rattle.nand_geometry.specs.Limits.{InLimits, width, page_len}
use Rattle.nand_geometry.proofs.LimitLemmas.{faultless}
use Rattle.nand_geometry.proofs.PageLemmas.{parameters_have_their_length}
use Rattle.onfi_cycle.specs.declared.lun.Lun.{Lun}
use Rattle.onfi_cycle.specs.declared.page_address.PageAddress.{PageAddress}
use Rattle.onfi_cycle.specs.Channel.{Channel, IsChannel, is_there, same_lun}
use Rattle.die_model.specs.Pages.{page_in}
use Rattle.target_bus.specs.Bus.{Entries, number_of}
use Rattle.micro_word.specs.declared.word.Word.{Word}
use Rattle.micro_word.specs.Text.{Microprogram}
use Rattle.micro_program.specs.Lines.{unrolled}
use Rattle.micro_program.specs.Places.{IsShaped}
use Rattle.micro_program.proofs.Lengths.{lines_are_few}
use Rattle.micro_program.specs.Program.{Job}
use Rattle.seq_core.specs.declared.load_fault.LoadFault.{LoadFault}
use Rattle.seq_core.specs.declared.load_fault.LoadFault.TheVariants.{SlotTaken, OtherLun, OtherGeometry}
use Rattle.seq_core.specs.declared.unload_fault.UnloadFault.{UnloadFault}
use Rattle.seq_core.specs.World.{Slot, World, slot_of, fresh, fresh_slot}
use Rattle.seq_core.specs.Event.{Load, Unload}
use Rattle.seq_core.specs.Reply.{Reply, ToLoad, ToUnload, Loaded, NotLoaded, Unloaded, NotUnloaded}
use Rattle.seq_core.specs.After.{After, after, same_parts, load_fault, after_load, after_unload, after_slot_unload}
use Rattle.seq_core.specs.Lawful.{LawfulWorld}
use Rattle.seq_core.specs.Shows.{CoreView, IsAt, channel_in}
use Rattle.seq_core.specs.Calls.{Came, IsEvent}
use Rattle.seq_core.specs.Alone.{HasEndedAlone, alone_on}
use Rattle.seq_core.proofs.Main.{fresh_is_lawful}
use Rattle.seq_core.proofs.Alone.{alone_programs_end}
use Rattle.seq_core.proofs.Calls.{some_same}
use Rattle.run_once.specs.Once.{one_lun, the_lun, the_channel}
use Rattle.run_once.specs.Runs.{IsForTheLun, IsLoaded, RanAlone, EndsWithin, HasRun}

one_lun_in_limits : InLimits one_lun
unfolding width
one_lun_in_limits = (faultless one_lun).0 refl

abbrev nothing : Entries
nothing = []

nothing_kept : (k : ℕ) → get_or (nothing ∷ []) k nothing ≡ nothing
nothing_kept zero = refl
nothing_kept (suc k) = refl

-- each page is FF
pub all_ff : (l : Lun) (p : PageAddress) → the_channel.opening l p ≡ replicate (page_len one_lun) 0xff
all_ff l p = ap (λ (e : Entries). page_in (page_len one_lun) e p) (nothing_kept (number_of one_lun l))

pub is_the_channel : IsChannel the_channel
is_the_channel =
    record { limits = one_lun_in_limits; parameters = parameters_have_their_length one_lun; pages = λ l p. ap (length {A = ℕ}) (all_ff l p) ∙ length-replicate {A = ℕ} (page_len one_lun) 0xff }

-- ---- the load

-- the first fault of a load of a job of this LUN and geometry
abbrev fault_for : Lun → Parts → Option LoadFault
fault_for m g =
    cond (is_some (slot_of the_channel (fresh the_channel) the_lun)) (Some SlotTaken)
    (cond (not (is_there the_channel the_lun && same_lun the_lun m)) (Some OtherLun) (cond (not (same_parts one_lun g)) (Some OtherGeometry) None))

no_fault : (j : Job) → IsForTheLun j → load_fault the_channel (fresh the_channel) the_lun j ≡ None
no_fault j h = ap (λ (m : Lun). fault_for m j.geometry) h.lun ∙ ap (fault_for the_lun) h.geometry

-- the world behind it
abbrev loaded_world : Job → World
loaded_world j = record { past = []; slots = Some (fresh_slot j) ∷ []; holder = None }

abbrev behind_load : Job → After
behind_load j = record { world = loaded_world j; reply = ToLoad Loaded }

load_is : (j : Job) → IsForTheLun j → after the_channel (fresh the_channel) (Load the_lun j) ≡ Some (behind_load j)
load_is j h = ap (λ (o : Option LoadFault). Some (after_load the_channel (fresh the_channel) the_lun j o)) (no_fault j h)

-- the event of the fresh world that a call was
came : (c later : CoreView) (j : Job) (reply : Reply) → channel_in c ≡ the_channel → IsAt c (fresh the_channel) → IsEvent c (Load the_lun j) reply later → Came c (fresh the_channel) (Load the_lun j) reply later
came c later j reply same at event = event (fresh the_channel) at (subst (λ (s : Channel). LawfulWorld s (fresh the_channel)) (sym same) (fresh_is_lawful the_channel))

pub loaded_now : (c later : CoreView) (j : Job) → channel_in c ≡ the_channel → IsAt c (fresh the_channel) → IsEvent c (Load the_lun j) (ToLoad Loaded) later → IsLoaded j later
loaded_now c later j same at event =
    let k = came c later j (ToLoad Loaded) same at event in
    record {
      channel = k.channel ∙ same;
      start = k.next.world;
      is_at = k.is_at;
      lawful = subst (λ (s : Channel). LawfulWorld s k.next.world) same k.lawful;
      is_start = subst (λ (s : Channel). after s (fresh the_channel) (Load the_lun j) ≡ Some (record { world = k.next.world; reply = ToLoad Loaded })) same (k.is_next ∙ ap (λ (r : Reply). Some (record { world = k.next.world; reply = r })) k.replied);
    }

pub never_refused : (c later : CoreView) (j : Job) (fault : LoadFault) → IsForTheLun j → channel_in c ≡ the_channel → IsAt c (fresh the_channel) → IsEvent c (Load the_lun j) (ToLoad (NotLoaded fault j)) later → ⊥
never_refused c later j fault h same at event =
    let k = came c later j (ToLoad (NotLoaded fault j)) same at event in
    let is : after the_channel (fresh the_channel) (Load the_lun j) ≡ Some k.next = subst (λ (s : Channel). after s (fresh the_channel) (Load the_lun j) ≡ Some k.next) same k.is_next in
    clash (ap (λ (a : After). a.reply) (some_same (behind_load j) k.next (sym (load_is j h) ∙ is)) ∙ k.replied)
  where
    clash : ToLoad Loaded ≡ ToLoad (NotLoaded fault j) → ⊥
    clash e = cc

-- ---- the turns

pub enough_turns : (j : Job) (x : Microprogram) (words : List Word) → x ≡ j.text → words ≡ x.words → IsShaped j.text.words → 2 * length (unrolled j.text.words) + 1 ≤ 562949953421312 * length words + 1
enough_turns j x words same is shaped =
    let few = lines_are_few j.text.words shaped in
    let all : length words ≡ length j.text.words = ap (length {A = Word}) (is ∙ ap (λ (y : Microprogram). y.words) same) in
    omega (arith, few, all)

ends_alone : (c : CoreView) (j : Job) (turns : ℕ) (h : IsForTheLun j) (l : IsLoaded j c) → 2 * length (unrolled j.text.words) + 1 ≤ turns → HasEndedAlone the_channel the_lun turns l.start
ends_alone c j turns h l e =
    let same : loaded_world j ≡ l.start = ap (λ (a : After). a.world) (some_same (behind_load j) (record { world = l.start; reply = ToLoad Loaded }) (sym (load_is j h) ∙ l.is_start)) in
    subst (HasEndedAlone the_channel the_lun turns) same
    (alone_programs_end the_channel is_the_channel (loaded_world j) the_lun (fresh_slot j) turns (subst (LawfulWorld the_channel) (sym same) l.lawful) refl refl refl e)

pub ends_within : (c : CoreView) (j : Job) (turns : ℕ) → IsForTheLun j → IsLoaded j c → 2 * length (unrolled j.text.words) + 1 ≤ turns → EndsWithin c turns
ends_within c j turns h l e =
    let m = ends_alone c j turns h l e in
    record {
      world = l.start;
      is_at = l.is_at;
      lawful = subst (λ (s : Channel). LawfulWorld s l.start) (sym l.channel) l.lawful;
      end = m.end;
      is_end = subst (λ (s : Channel). alone_on s the_lun turns l.start ≡ Some m.end) (sym l.channel) m.is_end;
    }

-- ---- the end

-- the world at the end is kept after a run
at_end : (c now : CoreView) (j : Job) (turns : ℕ) (l : IsLoaded j c) (m : HasEndedAlone the_channel the_lun turns l.start) → HasRun c turns now → IsAt now m.end × (channel_in now ≡ the_channel)
at_end c now j turns l m run =
    let law = subst (λ (s : Channel). LawfulWorld s l.start) (sym l.channel) l.lawful in
    let is = subst (λ (s : Channel). alone_on s the_lun turns l.start ≡ Some m.end) (sym l.channel) m.is_end in
    let r = run l.start m.end l.is_at law is in
    (r.0, r.2 ∙ l.channel)

-- an unload of a job that has ended
unload_is : (w : World) (x : Slot) (code : ℕ) → slot_of the_channel w the_lun ≡ Some x → x.code ≡ Some code → after the_channel w (Unload the_lun) ≡ Some (after_slot_unload the_channel w the_lun x (Some code))
unload_is w x code is_slot is_code =
    ap (λ (o : Option Slot). Some (after_unload the_channel w the_lun o)) is_slot ∙ ap (λ (o : Option ℕ). Some (after_slot_unload the_channel w the_lun x o)) is_code

unload_came : (c later : CoreView) (w : World) (reply : Reply) → channel_in c ≡ the_channel → IsAt c w → LawfulWorld the_channel w → IsEvent c (Unload the_lun) reply later → (a : After) × (after the_channel w (Unload the_lun) ≡ Some a) × (a.reply ≡ reply) × (later.past ≡ a.world.past)
unload_came c later w reply same at law event =
    let k = event w at (subst (λ (s : Channel). LawfulWorld s w) (sym same) law) in
    (k.next, subst (λ (s : Channel). after s w (Unload the_lun) ≡ Some k.next) same k.is_next, k.replied, k.is_at.past)

pub never_stays : (c now later : CoreView) (j : Job) (turns : ℕ) (fault : UnloadFault) → IsForTheLun j → IsLoaded j c → 2 * length (unrolled j.text.words) + 1 ≤ turns → HasRun c turns now → IsEvent now (Unload the_lun) (ToUnload (NotUnloaded fault)) later → ⊥
never_stays c now later j turns fault h l e run event =
    let m = ends_alone c j turns h l e in
    let at = at_end c now j turns l m run in
    let k = unload_came now later m.end (ToUnload (NotUnloaded fault)) at.1 at.0 m.lawful event in
    clash (ap (λ (a : After). a.reply) (some_same (after_slot_unload the_channel m.end the_lun m.slot (Some m.code)) k.0 (sym (unload_is m.end m.slot m.code m.is_slot m.is_code) ∙ k.1)) ∙ k.2)
  where
    clash : {given : Job} {code : ℕ} → ToUnload (Unloaded given code) ≡ ToUnload (NotUnloaded fault) → ⊥
    clash q = cc

same_code : (a b : Job) (m n : ℕ) → ToUnload (Unloaded a m) ≡ ToUnload (Unloaded b n) → m ≡ n
same_code a b m n q = cc

pub ran_alone : (c now later : CoreView) (j given : Job) (turns code : ℕ) → IsForTheLun j → IsLoaded j c → 2 * length (unrolled j.text.words) + 1 ≤ turns → HasRun c turns now → IsEvent now (Unload the_lun) (ToUnload (Unloaded given code)) later → RanAlone j later.past code
ran_alone c now later j given turns code h l e run event =
    let m = ends_alone c j turns h l e in
    let at = at_end c now j turns l m run in
    let k = unload_came now later m.end (ToUnload (Unloaded given code)) at.1 at.0 m.lawful event in
    let same : after_slot_unload the_channel m.end the_lun m.slot (Some m.code) ≡ k.0 = some_same _ k.0 (sym (unload_is m.end m.slot m.code m.is_slot m.is_code) ∙ k.1) in
    let said : m.code ≡ code = same_code _ given m.code code (ap (λ (a : After). a.reply) same ∙ k.2) in
    record {
      start = l.start;
      is_start = l.is_start;
      turns = turns;
      end = m.end;
      is_end = m.is_end;
      lawful = m.lawful;
      past_is = k.3 ∙ sym (ap (λ (a : After). a.world.past) same);
      slot = m.slot;
      is_slot = m.is_slot;
      is_code = m.is_code ∙ ap (λ (n : ℕ). Some n) said;
    }
