-- A die goes on standing for its LUN.
use Rattle.std.proofs.Common.{◌≡◌, ◌≢◌, ℕ, ◌%◌, ◌<◌, ◌==◌, Bool, true, false, ◌&&◌, ◌||◌, cond, not, List, [], ◌∷◌, Option, Some, None, length, replicate, refl, sym, ap, subst, ◌∙◌, arith, set}
use Rattle.nand_geometry.specs.declared.parts.Parts.{Parts}
use Rattle.nand_geometry.specs.Limits.{page_len, planes}
use Rattle.onfi_cycle.specs.declared.command.Command.{Command}
use Rattle.onfi_cycle.specs.declared.command.Command.TheVariants as k
use Rattle.onfi_cycle.specs.declared.effect.Effect.{Effect}
use Rattle.onfi_cycle.specs.declared.effect.Effect.TheVariants as e
use Rattle.std.proofs.Common.{eq-eqb, length-set}
use Rattle.std.proofs.lemmas.List.{get_or-set_same, get_or-set_other}
use Rattle.std.proofs.lemmas.Nat.{pow_pos}
use Rattle.std.proofs.Math.Nat.{mod-lt}
use Rattle.onfi_cycle.specs.declared.item.Cycle.{Cycle}
use Rattle.onfi_cycle.specs.Rules.{ends_row, some_queued_clashes, planes_clash, named_lun_is, is_some_and, refused_by, is_refused_by, breaks_lun_busy, breaks_queue_clash}
use Rattle.onfi_cycle.specs.declared.item.Item.{Item}
use Rattle.onfi_cycle.specs.declared.item.Item.TheVariants.{Cyc, Rdy, Ard}
use Rattle.onfi_cycle.specs.declared.lun.Lun.{Lun}
use Rattle.onfi_cycle.specs.declared.latch.Latch.{Latch}
use Rattle.onfi_cycle.specs.declared.opening.Opening.{Opening}
use Rattle.onfi_cycle.specs.declared.page_address.PageAddress.{PageAddress}
use Rattle.onfi_cycle.specs.declared.queued.Queued.{Queued}
use Rattle.onfi_cycle.specs.declared.queued.Queued.TheVariants.{Erase, Program, Read as QueuedRead}
use Rattle.onfi_cycle.specs.declared.tail_facts.TailFacts.{TailFacts}
use Rattle.onfi_cycle.specs.declared.target_cycle.TargetCycle.{TargetCycle}
use Rattle.onfi_cycle.specs.declared.target_cycle.TargetCycle.TheVariants.{CommandCycle, AddressCycle, InputCycle, OutputCycle}
use Rattle.onfi_cycle.specs.Sequence.{opened, row_bytes, row_after_address, tail, with_cycle, begins_sequence, is_nil, input_column, opening, data_phase, phase_after_address, row_with, facts_of, filled, row, target_cycle, wants_command, wants_address, takes_data, wants_column, selects_plane}
use Rattle.onfi_cycle.specs.Bounds.{names_program}
use Rattle.onfi_cycle.specs.Effect.{is_shared, acts_for_target, of_target, other_effect, lun_reset_effect, names_lun, page_address, is_off, is_data, confirm_effect, command_effect, opening_address_effect, program_row_effect, address_effect, cycle_effect, id_effect, ends_features, input_effect, row_effect, cache_effect, plane_effect, column_effect, plane_of_row}
use Rattle.onfi_cycle.specs.Lun.{luns_of, effect_on, latch_alone, is_busy, busy_after, is_cache_program, is_plane_program, closer, closer_after, is_array_busy, array_busy_after, array_page, array_page_after, register, register_after, held, held_after, queue, queue_after, lun_view, effect_among, page_in_plane, is_copyback_read}
use Rattle.onfi_cycle.specs.Content.{ArrayWork, ProgramsPage, queued_work, queued_work_after, pending_work, pending_work_after, array_work, array_work_after, array_changes, has_failed, has_failed_before, failed_after, before_failed_after, left_unless, content, content_after, bytes_held, begun_with, is_some_work}
use Rattle.onfi_cycle.proofs.Bytes.{work_changes_pages}
use Rattle.onfi_cycle.specs.Permitted.{broken}
use Rattle.onfi_cycle.specs.Channel.{Channel}
use Rattle.die_model.specs.Die.{Die, IsAfter, page_of, plane_bytes, bytes_taken, queued_of, pending_of, works_of}
use Rattle.onfi_cycle.specs.declared.filling.Filling.{Filling}
use Rattle.onfi_cycle.specs.declared.filling.Filling.TheVariants.{Leaves, Clears, Copies, Fills}
use Rattle.onfi_cycle.specs.Filling.{cycle_filling, filling, row_filling, copied, filled_by}
use Rattle.die_model.specs.Standing.{kept_held, HasBytes, IsFilling, IsDieOf, WorkedBy, RowsFit, DiesGoOn}
use Rattle.onfi_cycle.specs.declared.data_phase.DataPhase.{DataPhase}
use Rattle.onfi_cycle.specs.declared.data_phase.DataPhase.TheVariants.{Outside, Inputs, FirstColumn, SecondColumn, FeatureInputs}
use Rattle.onfi_cycle.specs.Command.{closes_row, reads_row, begins_data, is_page_program, is_write_column, at_last_row, addresses_the_array, is_set_features}
use Rattle.onfi_cycle.specs.LunView.{LunView}
use Rattle.std.specs.List.{slice_get}
use Rattle.std.proofs.lemmas.Bool.Decides.{nat_tests}
use Rattle.std.proofs.lemmas.Bool.{or_left, and_parts as both, or_parts as neither}
use Rattle.onfi_cycle.proofs.Booleans.{and_rest, clash}
use Rattle.nand_geometry.specs.Row.{parts_of}
use Rattle.onfi_cycle.proofs.Passed.{permitted_keeps}
use Rattle.onfi_cycle.proofs.RowBounds.{input_inside, no_features_inside}
use Rattle.onfi_cycle.proofs.Keeping.{view_at}
use Rattle.die_model.proofs.Tails.{stays, no_opening, blank, row_fills}
use Rattle.onfi_cycle.proofs.Steps.{goes_on as not_anew}

-- 1. the bytes of a program that starts are those of its tail

abbrev Programs : Parts → TailFacts → ℕ → Effect → Type 0
Programs g t lun (e.ProgramStarted queued at) = record { named : names_program t ≡ true; here : names_lun g (row t) lun ≡ true; page : at ≡ page_address g (row t) }
Programs g t lun (e.CacheProgramStarted at) = record { named : names_program t ≡ true; here : names_lun g (row t) lun ≡ true; page : at ≡ page_address g (row t) }
Programs g t lun _ = Unit {0}

choice : (g : Parts) (t : TailFacts) (lun : ℕ) (b : Bool) (x y : Effect) → (b ≡ true → Programs g t lun x) → Programs g t lun y → Programs g t lun (cond b x y)
choice g t lun true x y f h = f refl
choice g t lun false x y f h = h

-- work of another LUN
passed_programs : (g : Parts) (t : TailFacts) (c : Command) (lun : ℕ) → Programs g t lun (other_effect g t c)
passed_programs g t c lun = choice g t lun (closes_row c && (wants_command t c && is_shared g)) (e.AnotherAddressed (reads_row c)) e.Unaffected (λ _. tt) tt

-- work of the whole target
target_programs : (g : Parts) (t : TailFacts) (lun : ℕ) (x : Effect) → Programs g t lun x → Programs g t lun (of_target g lun x)
target_programs g t lun x h = choice g t lun (acts_for_target g lun) x e.Deselected (λ _. h) tt

command_programs : (g : Parts) (t : TailFacts) (latch : Latch) (c : Command) (lun : ℕ) → Programs g t lun (command_effect g t latch c lun)
command_programs g t latch k.Read lun = tt
command_programs g t latch k.ReadStatus lun = choice g t lun (is_shared g) e.StatusOfSelected e.StatusSelected (λ _. tt) tt
command_programs g t latch k.ReadStatusEnhanced lun = tt
command_programs g t latch k.Reset lun = choice g t lun (is_shared g) (e.TargetResetStarted (lun == 0)) e.ResetStarted (λ _. tt) tt
command_programs g t latch k.SynchronousReset lun = choice g t lun (is_shared g) (e.TargetResetStarted (lun == 0)) e.ResetStarted (λ _. tt) tt
command_programs g t latch k.ReadCacheSequential lun =
    choice g t lun (wants_command t k.ReadCacheSequential) (row_effect g t k.ReadCacheSequential lun) (cache_effect latch)
    (λ _. choice g t lun (wants_command t k.ReadCacheSequential && names_lun g (row t) lun) (confirm_effect g t k.ReadCacheSequential) (other_effect g t k.ReadCacheSequential) (λ _. tt) (passed_programs g t k.ReadCacheSequential lun))
    (choice g t lun (is_off latch) e.Unaffected (e.CacheReadContinued None) (λ _. tt) tt)
command_programs g t latch k.ReadCacheEnd lun = choice g t lun (is_off latch) e.Unaffected e.CacheReadEnded (λ _. tt) tt
command_programs g t latch k.ChangeReadColumnConfirm lun =
    choice g t lun (selects_plane t) (plane_effect g t lun) (column_effect t latch)
    (λ _. choice g t lun (names_lun g (row t) lun) (e.PlaneSelected (plane_of_row g (row t)) (planes g) t.column) e.Deselected (λ _. tt) tt)
    (choice g t lun (wants_command t k.ChangeReadColumnConfirm && not (is_off latch)) (e.ReadColumnChanged t.column) e.Unaffected (λ _. tt) tt)
command_programs g t latch k.ProgramConfirm lun =
    choice g t lun (wants_command t k.ProgramConfirm && names_lun g (row t) lun) (e.ProgramStarted false (page_address g (row t))) (other_effect g t k.ProgramConfirm)
    (λ h. record { named = or_left (takes_data t.phase) (wants_column t.phase) (both _ _ h).0; here = (both _ _ h).1; page = refl }) (passed_programs g t k.ProgramConfirm lun)
command_programs g t latch k.ProgramPlane lun =
    choice g t lun (wants_command t k.ProgramPlane && names_lun g (row t) lun) (e.ProgramStarted true (page_address g (row t))) (other_effect g t k.ProgramPlane)
    (λ h. record { named = or_left (takes_data t.phase) (wants_column t.phase) (both _ _ h).0; here = (both _ _ h).1; page = refl }) (passed_programs g t k.ProgramPlane lun)
command_programs g t latch k.ProgramCache lun =
    choice g t lun (wants_command t k.ProgramCache && names_lun g (row t) lun) (e.CacheProgramStarted (page_address g (row t))) (other_effect g t k.ProgramCache)
    (λ h. record { named = or_left (takes_data t.phase) (wants_column t.phase) (both _ _ h).0; here = (both _ _ h).1; page = refl }) (passed_programs g t k.ProgramCache lun)
command_programs g t latch c lun = choice g t lun (wants_command t c && names_lun g (row t) lun) (confirm_effect g t c) (other_effect g t c) (λ _. tt) (passed_programs g t c lun)

address_programs : (g : Parts) (t : TailFacts) (byte : ℕ) (c : Command) (n lun : ℕ) → Programs g t lun (address_effect g t byte c n lun)
address_programs g t byte k.ReadStatusEnhanced n lun = at (n == 2) (names_lun g _ lun)
  where
    at : (a b : Bool) → Programs g t lun (cond a (cond b e.SelectedForStatus e.Deselected) e.Unaffected)
    at true true = tt
    at true false = tt
    at false b = tt
address_programs g t byte k.ReadId n lun = choice g t lun (wants_address t byte) (of_target g lun (id_effect byte)) e.Unaffected (λ _. target_programs g t lun (id_effect byte) (choice g t lun (byte == 0x20) e.IdRead (e.IdentityRead (byte == 0x40)) (λ _. tt) tt)) tt
address_programs g t byte k.ReadUniqueId n lun = choice g t lun (wants_address t byte) (of_target g lun e.UniqueIdReadStarted) e.Unaffected (λ _. target_programs g t lun e.UniqueIdReadStarted tt) tt
address_programs g t byte k.GetFeatures n lun = choice g t lun (wants_address t byte) (of_target g lun (e.FeaturesReadStarted byte)) e.Unaffected (λ _. target_programs g t lun (e.FeaturesReadStarted byte) tt) tt
address_programs g t byte k.ResetLun n lun = choice g t lun (n == 2) (lun_reset_effect g (names_lun g (row_with t byte) lun)) e.Unaffected (λ _. resets (names_lun g (row_with t byte) lun)) tt
  where
    resets : (named : Bool) → Programs g t lun (lun_reset_effect g named)
    resets true = tt
    resets false = choice g t lun (is_shared g) (e.AnotherAddressed false) e.Unaffected (λ _. tt) tt
address_programs g t byte k.ReadParameterPage n lun = choice g t lun (wants_address t byte) (of_target g lun e.ParameterPageReadStarted) e.Unaffected (λ _. target_programs g t lun e.ParameterPageReadStarted tt) tt
address_programs g t byte k.PageProgram n lun = choice g t lun (n == 4) (program_row_effect (names_lun g (row_with t byte) lun)) e.Unaffected (λ _. choice g t lun (names_lun g (row_with t byte) lun) e.ProgramAddressed e.Unaffected (λ _. tt) tt) tt
address_programs g t byte _ n lun = tt

opening_programs : (g : Parts) (t : TailFacts) (byte : ℕ) (o : Option Opening) (lun : ℕ) → Programs g t lun (opening_address_effect g t byte o lun)
opening_programs g t byte None lun = tt
opening_programs g t byte (Some o) lun = address_programs g t byte o.opener o.addresses lun

cycle_programs : (g : Parts) (t : TailFacts) (latch : Latch) (c : TargetCycle) (lun : ℕ) → Programs g t lun (cycle_effect g t latch c lun)
cycle_programs g t latch (CommandCycle c) lun = command_programs g t latch c lun
cycle_programs g t latch (AddressCycle byte) lun = opening_programs g t byte t.opening lun
cycle_programs g t latch (InputCycle byte) lun = choice g t lun (ends_features t) (of_target g lun (e.FeaturesSet (t.column % 256))) e.Unaffected (λ _. target_programs g t lun (e.FeaturesSet (t.column % 256)) tt) tt
cycle_programs g t latch OutputCycle lun = choice g t lun (is_data latch) e.DataOutput e.Unaffected (λ _. tt) tt

effect_programs : (g : Parts) (past : List Item) (i : Item) (l : Lun) → Programs g (facts_of (tail past l.ce)) l.lun (effect_on g past i l)
unfolding effect_among
effect_programs g past (Cyc c) l = choice g (facts_of (tail past l.ce)) l.lun (c.ce == l.ce) _ e.Unaffected (λ _. cycle_programs g (facts_of (tail past l.ce)) (latch_alone g past l) (target_cycle c.kind c.byte) l.lun) tt
effect_programs g past (Rdy ce lun fail) l = choice g (facts_of (tail past l.ce)) l.lun (ce == l.ce && lun == l.lun) (e.BecameReady fail) e.Unaffected (λ _. tt) tt
effect_programs g past (Ard ce lun fail) l = choice g (facts_of (tail past l.ce)) l.lun (ce == l.ce && lun == l.lun) (e.ArrayBecameReady fail) e.Unaffected (λ _. tt) tt

-- so the register has the bytes that the effect takes
queued_same : (g : Parts) (begun : List ℕ) (t : List TargetCycle) (lun : ℕ) (d : Die) (x : Effect) (q : List ArrayWork) → d.geometry ≡ g → Programs g (facts_of t) lun x → IsFilling g begun t lun d → queued_work_after x (bytes_taken d x) q ≡ queued_work_after x (filled begun t) q
queued_same g begun t lun d (e.ProgramStarted queued at) q eg p f = ap (λ (b : List ℕ). queued_work_after (e.ProgramStarted queued at) b q) (ap (λ (h : Parts). plane_bytes h d.planes at) eg ∙ (ap (plane_bytes g d.planes) p.page ∙ (f p.named p.here).bytes))
queued_same g begun t lun d (e.EraseStarted queued at) q eg p f = refl
queued_same g begun t lun d _ q eg p f = refl

pending_same : (g : Parts) (begun : List ℕ) (t : List TargetCycle) (lun : ℕ) (d : Die) (x : Effect) (q r : List ArrayWork) → d.geometry ≡ g → Programs g (facts_of t) lun x → IsFilling g begun t lun d → pending_work_after x (bytes_taken d x) q r ≡ pending_work_after x (filled begun t) q r
pending_same g begun t lun d (e.ProgramStarted queued at) q r eg p f = ap (λ (b : List ℕ). pending_work_after (e.ProgramStarted queued at) b q r) (ap (λ (h : Parts). plane_bytes h d.planes at) eg ∙ (ap (plane_bytes g d.planes) p.page ∙ (f p.named p.here).bytes))
pending_same g begun t lun d (e.CacheProgramStarted at) q r eg p f = ap (λ (b : List ℕ). pending_work_after (e.CacheProgramStarted at) b q r) (ap (λ (h : Parts). plane_bytes h d.planes at) eg ∙ (ap (plane_bytes g d.planes) p.page ∙ (f p.named p.here).bytes))
pending_same g begun t lun d (e.EraseStarted queued at) q r eg p f = refl
pending_same g begun t lun d _ q r eg p f = refl

-- 2. an effect

record Facts (s : Channel) (past : List Item) (l : Lun) (d : Die) : Type 0 where
  geometry : d.geometry ≡ s.geometry
  pages : (p : PageAddress) → page_of d p ≡ content s.geometry s.opening past l p
  register : d.register ≡ register s.geometry past l
  held : d.held ≡ held s.geometry past l
  array_page : d.array_page ≡ array_page s.geometry past l
  busy : d.busy ≡ is_busy s.geometry past l
  closer : d.closer ≡ closer s.geometry past l
  array_busy : d.array_busy ≡ is_array_busy s.geometry past l
  queue : d.queued ≡ queue s.geometry past l
  queued : queued_of d ≡ queued_work s.geometry s.opening past l
  pending : pending_of d ≡ pending_work s.geometry s.opening past l
  in_array : d.in_array ≡ array_work s.geometry s.opening past l
  failed : d.failed ≡ has_failed s.geometry past l
  failed_before : d.failed_before ≡ has_failed_before s.geometry past l

effect_goes_on : (s : Channel) (past : List Item) (i : Item) (l : Lun) (old new : Die) → IsDieOf s past l old → IsAfter (effect_on s.geometry past i l) old new → Facts s (i ∷ past) l new
effect_goes_on s past i l old new f a =
    let g = s.geometry in
    let x = effect_on g past i l in
    let t = tail past l.ce in
    let o = s.opening in
    let begun = begun_with g (content g o past l) past l in
    let p = effect_programs g past i l in
    record {
      geometry = a.geometry ∙ f.geometry;
      pages = λ at. a.pages at ∙ (λ j. content_after (f.geometry j) x (f.closer j) (f.pending j) (f.in_array j) at (f.pages at j));
      register = a.register ∙ (λ j. register_after x (f.array_page j) (f.queue j) (f.held j) (f.register j));
      held = a.held ∙ (λ j. held_after x (is_copyback_read (f.closer j)) (f.array_page j) (f.queue j) (f.held j));
      array_page = a.array_page ∙ ap (array_page_after x) f.array_page;
      busy = a.busy ∙ ap (busy_after x) f.busy;
      closer = a.closer ∙ ap (closer_after x) f.closer;
      array_busy = a.array_busy ∙ (λ j. array_busy_after x (f.busy j) (f.closer j) (f.array_busy j));
      queue = a.queue ∙ ap (queue_after x) f.queue;
      queued = a.queued ∙ (ap (queued_work_after x (bytes_taken old x)) f.queued ∙ queued_same g begun t l.lun old x (queued_work g o past l) f.geometry p f.open_program);
      pending = a.pending ∙ (ap (λ (q : List ArrayWork). pending_work_after x (bytes_taken old x) q (pending_of old)) f.queued ∙ (ap (pending_work_after x (bytes_taken old x) (queued_work g o past l)) f.pending ∙ pending_same g begun t l.lun old x (queued_work g o past l) (pending_work g o past l) f.geometry p f.open_program));
      in_array = a.in_array ∙ (λ j. array_work_after x (f.closer j) (f.pending j) (f.in_array j));
      failed =
          a.failed ∙ ((λ j. failed_after x (f.closer j) (is_some_work (f.pending j)) (f.failed j))
          ∙ ap (λ (c : Bool). failed_after x (closer g past l) c (has_failed g past l)) (work_changes_pages.lun g o past l));
      failed_before =
          a.failed_before ∙ ((λ j. before_failed_after x (f.closer j) (is_some_work (f.in_array j)) (f.failed j) (f.failed_before j))
          ∙ ap (λ (c : Bool). before_failed_after x (closer g past l) c (has_failed g past l) (has_failed_before g past l)) (work_changes_pages.array g o past l));
    }

-- 3. a program stays open

-- the effect begins no work, and leaves what is held
record Calm (x : Effect) : Type 0 where
  busy : busy_after x false ≡ false
  held : (c : Bool) (p : PageAddress) (q : List Queued) (h : List PageAddress) → held_after x c p q h ≡ h

rests : Calm e.Unaffected
rests = record { busy = refl; held = λ c p q h. refl }

calm_choice : (b : Bool) (x : Effect) → Calm x → Calm (cond b x e.Unaffected)
calm_choice true x h = h
calm_choice false x h = rests

-- no work starts where a program is open after the cycle
calm_command : (g : Parts) (t : List TargetCycle) (latch : Latch) (c : Command) (lun : ℕ) → names_program (facts_of (with_cycle (CommandCycle c) t)) ≡ true → Calm (command_effect g (facts_of t) latch c lun)
calm_command g t latch k.ChangeWriteColumn lun h = calm_choice (wants_command (facts_of t) k.ChangeWriteColumn && names_lun g (row (facts_of t)) lun) e.Unaffected rests
calm_command g (d ∷ t) latch k.ReadCacheSequential lun h = at (wants_command (facts_of (d ∷ t)) k.ReadCacheSequential) h
  where
    at : (w : Bool) → names_program (facts_of (cond (not w) (CommandCycle k.ReadCacheSequential ∷ []) (CommandCycle k.ReadCacheSequential ∷ (d ∷ t)))) ≡ true → Calm (command_effect g (facts_of (d ∷ t)) latch k.ReadCacheSequential lun)
    at true h = cc
    at false h = cc
calm_command g [] latch c lun h = cc
calm_command g (d ∷ t) latch c lun h = cc

calm_status : (a b : Bool) → Calm (cond a (cond b e.SelectedForStatus e.Deselected) e.Unaffected)
calm_status true true = record { busy = refl; held = λ c p q h. refl }
calm_status true false = record { busy = refl; held = λ c p q h. refl }
calm_status false b = rests

calm_address : (g : Parts) (t : List TargetCycle) (byte lun : ℕ) (pages : List PageAddress) (o : Option Opening) → opening t ≡ o → cycle_filling g (facts_of t) (AddressCycle byte) lun pages ≡ Leaves → names_program (facts_of (AddressCycle byte ∷ t)) ≡ true → Calm (opening_address_effect g (facts_of t) byte o lun)
calm_address g t byte lun pages None h leaves n = rests
calm_address g t byte lun pages (Some o) h leaves n = at o.opener refl
  where
    none_is : (p : DataPhase) → data_phase t ≡ p → (takes_data (phase_after_address (Some o) p) || wants_column (phase_after_address (Some o) p)) ≡ true → begins_data o.opener ≡ false → false ≡ true
    none_is Inputs e n q = n
    none_is FeatureInputs e n q = n
    none_is FirstColumn e n q = let x = sym h ∙ no_opening t (ap wants_column e) in cc
    none_is SecondColumn e n q = let x = sym h ∙ no_opening t (ap wants_column e) in cc
    none_is Outside e n q = outside (begins_data o.opener) (o.addresses == 4) (is_set_features o.opener && o.addresses == 0) q n
      where
        outside : (a b c : Bool) → a ≡ false → (takes_data (cond (a && b) Inputs (cond c FeatureInputs Outside)) || wants_column (cond (a && b) Inputs (cond c FeatureInputs Outside))) ≡ true → false ≡ true
        outside true b c q n = cc
        outside false b true q n = n
        outside false b false q n = n

    named : (takes_data (phase_after_address (Some o) (data_phase t)) || wants_column (phase_after_address (Some o) (data_phase t))) ≡ true
    named = sym (ap (λ (q : Option Opening). takes_data (phase_after_address q (data_phase t)) || wants_column (phase_after_address q (data_phase t))) h) ∙ n

    programs : o.opener ≡ k.PageProgram → (four : Bool) → (o.addresses == 4) ≡ four → (here : Bool) → names_lun g (row_with (facts_of t) byte) lun ≡ here → Calm (cond four (program_row_effect here) e.Unaffected)
    programs q true e true m =
        absurd (row_fills g t o (row_with (facts_of t) byte) pages h (rw (q, e) refl) (sym (ap (λ (b : Bool). cond b (row_filling g (facts_of t) (row_with (facts_of t) byte) pages) Leaves) m) ∙ leaves))
    programs q true e false m = rests
    programs q false e here m = rests

    at : (c : Command) → o.opener ≡ c → Calm (address_effect g (facts_of t) byte c o.addresses lun)
    at k.ReadStatusEnhanced q = calm_status (o.addresses == 2) (names_lun g (row_with (facts_of t) byte) lun)
    at k.PageProgram q = programs q (o.addresses == 4) refl (names_lun g (row_with (facts_of t) byte) lun) refl
    at k.ReadId q = let x = none_is (data_phase t) refl named (ap begins_data q) in cc
    at k.ReadParameterPage q = let x = none_is (data_phase t) refl named (ap begins_data q) in cc
    at k.ReadUniqueId q = let x = none_is (data_phase t) refl named (ap begins_data q) in cc
    at k.GetFeatures q = let x = none_is (data_phase t) refl named (ap begins_data q) in cc
    at k.ResetLun q = let x = none_is (data_phase t) refl named (ap begins_data q) in cc
    at _ q = rests

-- in the data of a program an input starts nothing
no_end : (t : TailFacts) → (takes_data t.phase || wants_column t.phase) ≡ true → ends_features t ≡ false
no_end t h = ap (λ (b : Bool). b && t.inputs == 3) (no_features_inside t.phase h)

calm_input : (g : Parts) (t : TailFacts) (lun : ℕ) → (takes_data t.phase || wants_column t.phase) ≡ true → Calm (input_effect g t lun)
calm_input g t lun h = subst (λ (b : Bool). Calm (cond b (of_target g lun (e.FeaturesSet (t.column % 256))) e.Unaffected)) (sym (no_end t h)) rests

calm : (g : Parts) (t : List TargetCycle) (latch : Latch) (cycle : TargetCycle) (lun : ℕ) (pages : List PageAddress) → cycle_filling g (facts_of t) cycle lun pages ≡ Leaves → names_program (facts_of (with_cycle cycle t)) ≡ true → Calm (cycle_effect g (facts_of t) latch cycle lun)
calm g t latch (CommandCycle c) lun pages leaves h = calm_command g t latch c lun h
calm g [] latch (AddressCycle byte) lun pages leaves h = rests
calm g (d ∷ t) latch (AddressCycle byte) lun pages leaves h = calm_address g (d ∷ t) byte lun pages (opening (d ∷ t)) refl leaves h
calm g [] latch (InputCycle byte) lun pages leaves h = rests
calm g (d ∷ t) latch (InputCycle byte) lun pages leaves h = calm_input g (facts_of (d ∷ t)) lun (input_inside (facts_of (d ∷ t)).inputs (facts_of (d ∷ t)).phase h)
calm g t latch OutputCycle lun pages leaves h = calm_choice (is_data latch) e.DataOutput (record { busy = refl; held = λ c p q h. refl })

-- what the program began with stays

pending_step : (x : Effect) (bytes : List ℕ) (q p : List ArrayWork) (b : Bool) → (b ≡ false → p ≡ []) → busy_after x b ≡ false → pending_work_after x bytes q p ≡ []
pending_step (e.ReadStarted at from) bytes q p b f h = refl
pending_step (e.ReadQueued at) bytes q p b f h = refl
pending_step (e.CopybackReadStarted at from count) bytes q p b f h = refl
pending_step (e.EraseStarted queued at) bytes q p b f h = cc
pending_step (e.ProgramStarted queued at) bytes q p b f h = cc
pending_step (e.CacheProgramStarted at) bytes q p b f h = cc
pending_step e.ParameterPageReadStarted bytes q p b f h = refl
pending_step e.UniqueIdReadStarted bytes q p b f h = refl
pending_step (e.FeaturesReadStarted address) bytes q p b f h = refl
pending_step (e.FeaturesSet address) bytes q p b f h = refl
pending_step (e.CacheReadContinued to) bytes q p b f h = refl
pending_step e.CacheReadEnded bytes q p b f h = refl
pending_step e.ResetStarted bytes q p b f h = refl
pending_step (e.TargetResetStarted first) bytes q p b f h = refl
pending_step (e.BecameReady fail) bytes q p b f h = refl
pending_step _ bytes q p b f h = f h

pending_idle : (g : Parts) (o : Lun → PageAddress → List ℕ) (past : List Item) (l : Lun) → is_busy g past l ≡ false → pending_work g o past l ≡ []
pending_idle g o [] l h = refl
pending_idle g o (i ∷ past) l h = pending_step (effect_on g past i l) _ (queued_work g o past l) (pending_work g o past l) (is_busy g past l) (pending_idle g o past l) h

left_so : (b : Bool) (len : ℕ) (p : PageAddress) (old : List ℕ) → left_unless b len [] p old ≡ old
left_so true len p old = refl
left_so false len p old = refl

content_rests : (g : Parts) (x : Effect) (last : Option Command) (p : PageAddress) (old : List ℕ) → content_after g x last [] [] p old ≡ old
content_rests g (e.BecameReady fail) last p old = left_so (fail.last || is_cache_program last) (page_len g) p _ ∙ left_so (fail.before || is_plane_program last) (page_len g) p old
content_rests g (e.ArrayBecameReady fail) last p old = left_so fail (page_len g) p old
content_rests g _ last p old = refl

no_works : (works : List ArrayWork) → is_some_work works ≡ false → works ≡ []
no_works [] h = refl
no_works (w ∷ works) h = cc

content_idle : (g : Parts) (o : Lun → PageAddress → List ℕ) (past : List Item) (i : Item) (l : Lun) → is_busy g past l ≡ false → array_changes g past l ≡ false → (p : PageAddress) → content g o (i ∷ past) l p ≡ content g o past l p
content_idle g o past i l idle still p =
    let none : array_work g o past l ≡ [] = no_works (array_work g o past l) (work_changes_pages.array g o past l ∙ still) in
    (λ j. content_after g (effect_on g past i l) (closer g past l) (pending_idle g o past l idle j) (none j) p (content g o past l p))
    ∙ content_rests g (effect_on g past i l) (closer g past l) p (content g o past l p)

same_held_bytes : (g : Parts) (f h : PageAddress → List ℕ) (there : Option PageAddress) → ((p : PageAddress) → f p ≡ h p) → bytes_held g f there ≡ bytes_held g h there
same_held_bytes g f h None same = refl
same_held_bytes g f h (Some p) same = same p

-- the bytes of a page that is held stay while the LUN is ready, for while the array goes on with pages none is held
held_content : (g : Parts) (o : Lun → PageAddress → List ℕ) (past : List Item) (i : Item) (l : Lun) (count plane : ℕ) (pages : List PageAddress) → is_busy g past l ≡ false → (array_changes g past l ≡ true → pages ≡ [])
    → bytes_held g (content g o (i ∷ past) l) (page_in_plane count plane pages) ≡ bytes_held g (content g o past l) (page_in_plane count plane pages)
held_content g o past i l count plane pages idle none = at (array_changes g past l) refl
  where
    at : (b : Bool) → array_changes g past l ≡ b → bytes_held g (content g o (i ∷ past) l) (page_in_plane count plane pages) ≡ bytes_held g (content g o past l) (page_in_plane count plane pages)
    at true goes_on = subst (λ (held : List PageAddress). bytes_held g (content g o (i ∷ past) l) (page_in_plane count plane held) ≡ bytes_held g (content g o past l) (page_in_plane count plane held)) (sym (none goes_on)) refl
    at false still = same_held_bytes g (content g o (i ∷ past) l) (content g o past l) (page_in_plane count plane pages) (content_idle g o past i l idle still)

-- the bytes that the program of a LUN began with, after a past
abbrev begun_at : Channel → List Item → Lun → List ℕ
begun_at s past l = begun_with s.geometry (content s.geometry s.opening past l) past l

begun_kept : (s : Channel) (past : List Item) (i : Item) (l : Lun) → Calm (effect_on s.geometry past i l) → is_busy s.geometry past l ≡ false → row (facts_of (tail (i ∷ past) l.ce)) ≡ row (facts_of (tail past l.ce)) → begun_at s (i ∷ past) l ≡ begun_at s past l
begun_kept s past i l c idle same_row =
    let g = s.geometry in
    let o = s.opening in
    let same_held : held g (i ∷ past) l ≡ held g past l = c.held _ _ _ _ in
    held_content g o past i l (planes g) _ (held g (i ∷ past) l) idle (λ h. same_held ∙ work_changes_pages.held g past l h)
    ∙ (λ j. bytes_held g (content g o past l) (page_in_plane (planes g) (plane_of_row g (same_row j)) (same_held j)))

carry : (g : Parts) (begun later : List ℕ) (t u : List TargetCycle) (x : Effect) (old new : Die) → IsAfter x old new → busy_after x false ≡ false → row (facts_of u) ≡ row (facts_of t) → filled later u ≡ filled begun t → HasBytes g begun t old → HasBytes g later u new
carry g begun later t u x old new a idle same bytes h =
    record {
      ready = a.busy ∙ (ap (busy_after x) h.ready ∙ idle);
      bytes = ap (λ (r : List (List ℕ)). plane_bytes g r (page_address g (row (facts_of u)))) a.planes ∙ (ap (λ (r : ℕ). plane_bytes g old.planes (page_address g r)) same ∙ (h.bytes ∙ sym bytes));
    }

-- a ready keeps an open program
open_ready : (s : Channel) (past : List Item) (i : Item) (l : Lun) (old new : Die) → tail (i ∷ past) l.ce ≡ tail past l.ce → Calm (effect_on s.geometry past i l) → IsDieOf s past l old → IsAfter (effect_on s.geometry past i l) old new → IsFilling s.geometry (begun_at s (i ∷ past) l) (tail (i ∷ past) l.ce) l.lun new
open_ready s past i l old new same c f a named here =
    let t = tail past l.ce in
    let before = f.open_program (ap (λ (u : List TargetCycle). names_program (facts_of u)) (sym same) ∙ named) (ap (λ (u : List TargetCycle). names_lun s.geometry (row (facts_of u)) l.lun) (sym same) ∙ here) in
    let same_row = ap (λ (u : List TargetCycle). row (facts_of u)) same in
    carry s.geometry (begun_at s past l) (begun_at s (i ∷ past) l) t (tail (i ∷ past) l.ce) (effect_on s.geometry past i l) old new a c.busy same_row
    (ap (filled (begun_at s (i ∷ past) l)) same ∙ ap (λ (b : List ℕ). filled b t) (begun_kept s past i l c (sym f.busy ∙ before.ready) same_row)) before

open_leaves : (s : Channel) (past : List Item) (i : Item) (l : Lun) (old new : Die) → filling s.geometry (facts_of (tail past l.ce)) i l (held s.geometry past l) ≡ Leaves → IsDieOf s past l old → IsAfter (effect_on s.geometry past i l) old new → IsFilling s.geometry (begun_at s (i ∷ past) l) (tail (i ∷ past) l.ce) l.lun new
unfolding effect_among
open_leaves s past (Rdy ce lun fail) l old new leaves f a = open_ready s past (Rdy ce lun fail) l old new refl (calm_choice (ce == l.ce && lun == l.lun) (e.BecameReady fail) (record { busy = refl; held = λ c p q h. refl })) f a
open_leaves s past (Ard ce lun fail) l old new leaves f a = open_ready s past (Ard ce lun fail) l old new refl (calm_choice (ce == l.ce && lun == l.lun) (e.ArrayBecameReady fail) (record { busy = refl; held = λ c p q h. refl })) f a
open_leaves s past (Cyc c) l old new leaves f a = of (c.ce == l.ce) refl leaves
  where
    t : List TargetCycle
    t = tail past l.ce

    u : Bool → List TargetCycle
    u b = cond b (with_cycle (target_cycle c.kind c.byte) (tail past l.ce)) (tail past l.ce)

    x : Effect
    x = cycle_effect s.geometry (facts_of (tail past l.ce)) (latch_alone s.geometry past l) (target_cycle c.kind c.byte) l.lun

    of : (b : Bool) → (c.ce == l.ce) ≡ b → cond b (cycle_filling s.geometry (facts_of (tail past l.ce)) (target_cycle c.kind c.byte) l.lun (held s.geometry past l)) Leaves ≡ Leaves → names_program (facts_of (tail (Cyc c ∷ past) l.ce)) ≡ true → names_lun s.geometry (row (facts_of (tail (Cyc c ∷ past) l.ce))) l.lun ≡ true → HasBytes s.geometry (begun_at s (Cyc c ∷ past) l) (tail (Cyc c ∷ past) l.ce) new
    of true same leaves named here =
        let is : tail (Cyc c ∷ past) l.ce ≡ with_cycle (target_cycle c.kind c.byte) (tail past l.ce) = ap u same in
        let named_on = ap (λ (v : List TargetCycle). names_program (facts_of v)) (sym is) ∙ named in
        let st = stays s.geometry (tail past l.ce) (target_cycle c.kind c.byte) l.lun (held s.geometry past l) leaves named_on (ap (λ (v : List TargetCycle). names_lun s.geometry (row (facts_of v)) l.lun) (sym is) ∙ here) in
        let same_row : row (facts_of (tail (Cyc c ∷ past) l.ce)) ≡ row (facts_of (tail past l.ce)) = ap (λ (v : List TargetCycle). row (facts_of v)) is ∙ st.same_row in
        let before = f.open_program st.named (sym (ap (λ (r : ℕ). names_lun s.geometry r l.lun) same_row) ∙ here) in
        let quiet : Calm (effect_on s.geometry past (Cyc c) l) = calm_choice (c.ce == l.ce) x (calm s.geometry (tail past l.ce) (latch_alone s.geometry past l) (target_cycle c.kind c.byte) l.lun (held s.geometry past l) leaves named_on) in
        carry s.geometry (begun_at s past l) (begun_at s (Cyc c ∷ past) l) (tail past l.ce) (tail (Cyc c ∷ past) l.ce) (effect_on s.geometry past (Cyc c) l) old new a quiet.busy same_row
        (ap (filled (begun_at s (Cyc c ∷ past) l)) is ∙ (st.bytes (begun_at s (Cyc c ∷ past) l) ∙ ap (λ (b : List ℕ). filled b (tail past l.ce)) (begun_kept s past (Cyc c) l quiet (sym f.busy ∙ before.ready) same_row))) before
    of false other leaves named here =
        open_ready s past (Cyc c) l old new (ap u other) (subst (λ (b : Bool). Calm (cond b x e.Unaffected)) (sym other) rests) f a named here

leaves_goes_on : (s : Channel) (past : List Item) (i : Item) (l : Lun) (old new : Die) → filling s.geometry (facts_of (tail past l.ce)) i l (held s.geometry past l) ≡ Leaves → IsDieOf s past l old → IsAfter (effect_on s.geometry past i l) old new → IsDieOf s (i ∷ past) l new
leaves_goes_on s past i l old new leaves f a =
    let x = effect_goes_on s past i l old new f a in
    record {
      geometry = x.geometry;
      pages = x.pages;
      register = x.register;
      held = x.held;
      array_page = x.array_page;
      busy = x.busy;
      closer = x.closer;
      array_busy = x.array_busy;
      queue = x.queue;
      queued = x.queued;
      pending = x.pending;
      in_array = x.in_array;
      failed = x.failed;
      failed_before = x.failed_before;
      count = ap (λ (r : List (List ℕ)). length r) a.planes ∙ f.count;
      open_program = open_leaves s past i l old new leaves f a;
    }

-- 4. an item that works on a page register

-- the last row cycle of 80 frees what is held, and else nothing happens
data RowEffect : Effect → Type 0 where
  nothing : RowEffect e.Unaffected
  addressed : RowEffect e.ProgramAddressed

abbrev released : Effect → Die → Die
released x d = record d { held = kept_held x d.held }

release : (x : Effect) (d : Die) → RowEffect x → IsAfter x d (released x d)
release _ d nothing = record { geometry = refl; planes = refl; pages = λ p. refl; register = refl; held = refl; array_page = refl; busy = refl; closer = refl; array_busy = refl; queue = refl; queued = refl; pending = refl; in_array = refl; failed = refl; failed_before = refl }
release _ d addressed = record { geometry = refl; planes = refl; pages = λ p. refl; register = refl; held = refl; array_page = refl; busy = refl; closer = refl; array_busy = refl; queue = refl; queued = refl; pending = refl; in_array = refl; failed = refl; failed_before = refl }

works_nil : (g : Parts) (r q : List (List ℕ)) (rows : List Queued) → works_of g r rows ≡ [] → works_of g q rows ≡ []
works_nil g r q [] h = refl
works_nil g r q (Erase x ∷ rows) h = cc
works_nil g r q (Program x ∷ rows) h = cc
works_nil g r q (QueuedRead x ∷ rows) h = works_nil g r q rows h

-- a register of another plane isn't looked at
apart_works : (g : Parts) (registers : List (List ℕ)) (at : PageAddress) (w : List ℕ) (rows : List Queued) → some_queued_clashes g false at rows ≡ false → works_of g (set registers (at.block % planes g) w) rows ≡ works_of g registers rows
apart_works g registers at w [] h = refl
apart_works g registers at w (Erase q ∷ rows) h = cc
apart_works g registers at w (QueuedRead q ∷ rows) h = cc
apart_works g registers at w (Program q ∷ rows) h =
    let parts = neither (planes_clash g at q) (some_queued_clashes g false at rows) h in
    let planes_differ = (neither (at.block % planes g == q.block % planes g) _ (neither (at.block % planes g == q.block % planes g || not (at.page == q.page)) _ parts.0).0).0 in
    let other : q.block % planes g ≢ at.block % planes g = λ same. clash (at.block % planes g == q.block % planes g) (eq-eqb _ _ (sym same)) planes_differ in
    ap (λ (x : List ℕ). ProgramsPage q x ∷ works_of g (set registers (at.block % planes g) w) rows) (get_or-set_other registers (at.block % planes g) (q.block % planes g) w [] other)
    ∙ ap (λ (x : List ArrayWork). ProgramsPage q (plane_bytes g registers q) ∷ x) (apart_works g registers at w rows parts.1)

abbrev with_planes : Die → List (List ℕ) → Die
with_planes d r = record d { planes = r }

register_goes_on : (s : Channel) (past : List Item) (i : Item) (l : Lun) (old : Die) (at : PageAddress) (w : List ℕ) → RowEffect (effect_on s.geometry past i l) → IsDieOf s past l old → old.busy ≡ false → some_queued_clashes s.geometry false at (queue s.geometry past l) ≡ false
    → IsFilling s.geometry (begun_at s (i ∷ past) l) (tail (i ∷ past) l.ce) l.lun (with_planes (released (effect_on s.geometry past i l) old) (set old.planes (at.block % planes s.geometry) w))
    → IsDieOf s (i ∷ past) l (with_planes (released (effect_on s.geometry past i l) old) (set old.planes (at.block % planes s.geometry) w))
register_goes_on s past i l old at w is f idle apart filling =
    let x = effect_goes_on s past i l old (released (effect_on s.geometry past i l) old) f (release (effect_on s.geometry past i l) old is) in
    let none : pending_of old ≡ [] = f.pending ∙ pending_idle s.geometry s.opening past l (sym f.busy ∙ idle) in
    record {
      geometry = x.geometry;
      pages = x.pages;
      register = x.register;
      held = x.held;
      array_page = x.array_page;
      busy = x.busy;
      closer = x.closer;
      array_busy = x.array_busy;
      queue = x.queue;
      queued =
          ap (λ (g : Parts). works_of g (set old.planes (at.block % planes s.geometry) w) old.queued) f.geometry
          ∙ (apart_works s.geometry old.planes at w old.queued (ap (some_queued_clashes s.geometry false at) f.queue ∙ apart)
          ∙ (ap (λ (g : Parts). works_of g old.planes old.queued) (sym f.geometry) ∙ x.queued));
      pending = works_nil old.geometry old.planes (set old.planes (at.block % planes s.geometry) w) old.pending none ∙ (sym none ∙ x.pending);
      in_array = x.in_array;
      failed = x.failed;
      failed_before = x.failed_before;
      count = length-set old.planes (at.block % planes s.geometry) w ∙ f.count;
      open_program = filling;
    }

plane_there : (s : Channel) (past : List Item) (l : Lun) (d : Die) (at : PageAddress) → IsDieOf s past l d → at.block % planes s.geometry < length d.planes
plane_there s past l d at f = let low : at.block % planes s.geometry < planes s.geometry = mod-lt at.block (pow_pos s.geometry.plane_bits) in let c = f.count in omega (arith, low, c)

-- an input fills a register
pub record IsInput (g : Parts) (past : List Item) (i : Item) (l : Lun) (at : PageAddress) (column byte : ℕ) : Type 0 where
  pub c : Cycle
  pub is : i ≡ Cyc c
  pub ce : (c.ce == l.ce) ≡ true
  pub cycle : target_cycle c.kind c.byte ≡ InputCycle byte
  pub takes : takes_data (data_phase (tail past l.ce)) ≡ true
  pub here : names_lun g (row (facts_of (tail past l.ce))) l.lun ≡ true
  pub page : at ≡ page_address g (row (facts_of (tail past l.ce)))
  pub place : column ≡ input_column (facts_of (tail past l.ce))

-- an address fills no byte
no_fills : (n p c : Bool) (row : PageAddress) (there : Option PageAddress) (at : PageAddress) (column byte : ℕ) → cond n (cond p (Clears row) (cond c (copied row there) Leaves)) Leaves ≡ Fills at column byte → ⊥
no_fills false p c row there at column byte h = cc
no_fills true true c row there at column byte h = cc
no_fills true false true row None at column byte h = cc
no_fills true false true row (Some from) at column byte h = cc
no_fills true false false row there at column byte h = cc

pub is_input : (g : Parts) (past : List Item) (i : Item) (l : Lun) (at : PageAddress) (column byte : ℕ) → filling g (facts_of (tail past l.ce)) i l (held g past l) ≡ Fills at column byte → IsInput g past i l at column byte
is_input g past (Rdy ce lun fail) l at column byte h = cc
is_input g past (Ard ce lun fail) l at column byte h = cc
is_input g past (Cyc c) l at column byte h = of (c.ce == l.ce) refl (target_cycle c.kind c.byte) refl h
  where
    of : (b : Bool) → (c.ce == l.ce) ≡ b → (k : TargetCycle) → target_cycle c.kind c.byte ≡ k → cond b (cycle_filling g (facts_of (tail past l.ce)) k l.lun (held g past l)) Leaves ≡ Fills at column byte → IsInput g past (Cyc c) l at column byte
    of false e k q h = cc
    of true e (CommandCycle x) q h = cc
    of true e OutputCycle q h = cc
    of true e (AddressCycle x) q h = absurd (no_fills (names_lun g (row_with (facts_of (tail past l.ce)) x) l.lun) (ends_row is_page_program (facts_of (tail past l.ce))) (ends_row is_write_column (facts_of (tail past l.ce))) _ _ _ _ _ h)
    of true e (InputCycle x) q h = by (takes_data (data_phase (tail past l.ce)) && names_lun g (row (facts_of (tail past l.ce))) l.lun) refl h
      where
        by : (b : Bool) → (takes_data (data_phase (tail past l.ce)) && names_lun g (row (facts_of (tail past l.ce))) l.lun) ≡ b → cond b (Fills (page_address g (row (facts_of (tail past l.ce)))) (input_column (facts_of (tail past l.ce))) x) Leaves ≡ Fills at column byte → IsInput g past (Cyc c) l at column byte
        by false t h = cc
        by true t h =
            let same : x ≡ byte = cc in
            record { c = c; is = refl; ce = e; cycle = q ∙ ap (λ (z : ℕ). InputCycle z) same; takes = (both _ _ t).0; here = (both _ _ t).1; page = cc; place = cc }

-- the tail goes on with it
goes_on : (k : TargetCycle) (t : List TargetCycle) → begins_sequence k ≡ false → is_nil t ≡ false → with_cycle k t ≡ k ∷ t
goes_on k [] h n = cc
goes_on k (d ∷ t) h n = ap (λ (b : Bool). cond b (k ∷ []) (k ∷ (d ∷ t))) (not_anew (facts_of (d ∷ t)) k h)

tail_on : (past : List Item) (c : Cycle) (ce : ℕ) (k : TargetCycle) → (c.ce == ce) ≡ true → target_cycle c.kind c.byte ≡ k → begins_sequence k ≡ false → is_nil (tail past ce) ≡ false → tail (Cyc c ∷ past) ce ≡ k ∷ tail past ce
tail_on past c ce k same is h n =
    ap (λ (b : Bool). cond b (with_cycle (target_cycle c.kind c.byte) (tail past ce)) (tail past ce)) same
    ∙ (ap (λ (z : TargetCycle). with_cycle z (tail past ce)) is ∙ goes_on k (tail past ce) h n)

effect_at : (g : Parts) (past : List Item) (c : Cycle) (l : Lun) (k : TargetCycle) → (c.ce == l.ce) ≡ true → target_cycle c.kind c.byte ≡ k → effect_on g past (Cyc c) l ≡ cycle_effect g (facts_of (tail past l.ce)) (latch_alone g past l) k l.lun
unfolding effect_among
effect_at g past c l k same is =
    ap (λ (b : Bool). cond b (cycle_effect g (facts_of (tail past l.ce)) (latch_alone g past l) (target_cycle c.kind c.byte) l.lun) e.Unaffected) same
    ∙ ap (λ (z : TargetCycle). cycle_effect g (facts_of (tail past l.ce)) (latch_alone g past l) z l.lun) is

inputs_there : (t : List TargetCycle) → takes_data (data_phase t) ≡ true → is_nil t ≡ false
inputs_there [] h = cc
inputs_there (d ∷ t) h = refl

input_goes_on : (s : Channel) (past : List Item) (i : Item) (l : Lun) (old new : Die) (at : PageAddress) (column byte : ℕ) → IsInput s.geometry past i l at column byte → RowsFit s.geometry past l → IsDieOf s past l old → new ≡ record old { planes = filled_by s.geometry (page_of old) (Fills at column byte) old.planes } → IsDieOf s (i ∷ past) l new
input_goes_on s past i l old new at column byte j fits f w =
    let g = s.geometry in
    let t = tail past l.ce in
    let named = or_left (takes_data (data_phase t)) (wants_column (data_phase t)) j.takes in
    let before = f.open_program named j.here in
    let bytes = set (plane_bytes g old.planes at) column byte in
    let registers = set old.planes (at.block % planes g) bytes in
    let same_tail : tail (i ∷ past) l.ce ≡ InputCycle byte ∷ t = ap (λ (z : Item). tail (z ∷ past) l.ce) j.is ∙ tail_on past j.c l.ce (InputCycle byte) j.ce j.cycle refl (inputs_there t j.takes) in
    let is : effect_on g past i l ≡ e.Unaffected =
    ap (λ (z : Item). effect_on g past z l) j.is ∙ (effect_at g past j.c l (InputCycle byte) j.ce j.cycle
    ∙ ap (λ (b : Bool). cond b (of_target g l.lun (e.FeaturesSet ((facts_of t).column % 256))) e.Unaffected) (no_end (facts_of t) named)) in
    let same_begun = begun_kept s past i l (subst Calm (sym is) rests) (sym f.busy ∙ before.ready) (ap (λ (v : List TargetCycle). row (facts_of v)) same_tail) in
    let later = begun_at s (i ∷ past) l in
    let open_one : HasBytes g later (InputCycle byte ∷ t) (with_planes (released (effect_on g past i l) old) registers) =
    record {
      ready = before.ready;
      bytes =
          ap (plane_bytes g registers) (sym j.page)
          ∙ (get_or-set_same old.planes (at.block % planes g) bytes [] (plane_there s past l old at f)
          ∙ (ap (λ (x : List ℕ). set x column byte) (ap (plane_bytes g old.planes) j.page ∙ (before.bytes ∙ ap (λ (b : List ℕ). filled b t) (sym same_begun))) ∙ ap (λ (n : ℕ). set (filled later t) n byte) j.place));
    } in
    let whole : with_planes (released (effect_on g past i l) old) registers ≡ with_planes old registers = ap (λ (x : Effect). with_planes (released x old) registers) is in
    subst (IsDieOf s (i ∷ past) l) (whole ∙ sym w)
    (register_goes_on s past i l old at bytes (subst RowEffect (sym is) nothing) f before.ready
    (ap (λ (p : PageAddress). some_queued_clashes g false p (queue g past l)) j.page ∙ fits.program j.here named)
    (λ n h. subst (λ (v : List TargetCycle). HasBytes g later v (with_planes (released (effect_on g past i l) old) registers)) (sym same_tail) open_one))

-- what the last address of the row of a program does to the register of its plane
data RowKind (g : Parts) (pages : List PageAddress) (o : Opening) (row : ℕ) : Filling → Type 0 where
  program : (is_page_program o.opener && at_last_row o.opener o.addresses) ≡ true → RowKind g pages o row (Clears (page_address g row))
  blank_copy : (is_write_column o.opener && at_last_row o.opener o.addresses) ≡ true → page_in_plane (planes g) (plane_of_row g row) pages ≡ None → RowKind g pages o row (Clears (page_address g row))
  copy : (from : PageAddress) → (is_write_column o.opener && at_last_row o.opener o.addresses) ≡ true → page_in_plane (planes g) (plane_of_row g row) pages ≡ Some from → RowKind g pages o row (Copies (page_address g row) from)

abbrev changes_row : Filling → Bool
changes_row (Clears at) = true
changes_row (Copies at from) = true
changes_row _ = false

row_kind : (g : Parts) (pages : List PageAddress) (o : Opening) (row : ℕ) (p c : Bool) (there : Option PageAddress) → (is_page_program o.opener && at_last_row o.opener o.addresses) ≡ p → (is_write_column o.opener && at_last_row o.opener o.addresses) ≡ c → page_in_plane (planes g) (plane_of_row g row) pages ≡ there
    → changes_row (cond p (Clears (page_address g row)) (cond c (copied (page_address g row) there) Leaves)) ≡ true → RowKind g pages o row (cond p (Clears (page_address g row)) (cond c (copied (page_address g row) there) Leaves))
row_kind g pages o row true c there ep ec et h = program ep
row_kind g pages o row false true None ep ec et h = blank_copy ec et
row_kind g pages o row false true (Some from) ep ec et h = copy from ec et
row_kind g pages o row false false there ep ec et h = cc

-- the last row cycle of a program changes a register
record IsLastAddress (g : Parts) (past : List Item) (i : Item) (l : Lun) (x : Filling) : Type 0 where
  c : Cycle
  byte : ℕ
  o : Opening
  is : i ≡ Cyc c
  ce : (c.ce == l.ce) ≡ true
  cycle : target_cycle c.kind c.byte ≡ AddressCycle byte
  opens : opening (tail past l.ce) ≡ Some o
  here : names_lun g (row_with (facts_of (tail past l.ce)) byte) l.lun ≡ true
  kind : RowKind g (held g past l) o (row_with (facts_of (tail past l.ce)) byte) x

is_last_address : (g : Parts) (past : List Item) (i : Item) (l : Lun) (x : Filling) → filling g (facts_of (tail past l.ce)) i l (held g past l) ≡ x → changes_row x ≡ true → IsLastAddress g past i l x
is_last_address g past (Rdy ce lun fail) l x h w = let no = ap changes_row h ∙ w in cc
is_last_address g past (Ard ce lun fail) l x h w = let no = ap changes_row h ∙ w in cc
is_last_address g past (Cyc c) l x h w = subst (IsLastAddress g past (Cyc c) l) h (of (c.ce == l.ce) refl (target_cycle c.kind c.byte) refl (ap changes_row h ∙ w))
  where
    t : TailFacts
    t = facts_of (tail past l.ce)

    no_rest : (b : Bool) (at : PageAddress) (column byte : ℕ) → changes_row (cond b (Fills at column byte) Leaves) ≡ true → false ≡ true
    no_rest true at column byte h = h
    no_rest false at column byte h = h

    of : (b : Bool) → (c.ce == l.ce) ≡ b → (k : TargetCycle) → target_cycle c.kind c.byte ≡ k → changes_row (cond b (cycle_filling g (facts_of (tail past l.ce)) k l.lun (held g past l)) Leaves) ≡ true → IsLastAddress g past (Cyc c) l (cond b (cycle_filling g (facts_of (tail past l.ce)) k l.lun (held g past l)) Leaves)
    of false e k q h = cc
    of true e (CommandCycle y) q h = cc
    of true e OutputCycle q h = cc
    of true e (InputCycle y) q h = let no = no_rest (takes_data (data_phase (tail past l.ce)) && names_lun g (row (facts_of (tail past l.ce))) l.lun) _ _ _ h in cc
    of true e (AddressCycle y) q h = named (names_lun g (row_with (facts_of (tail past l.ce)) y) l.lun) refl h
      where
        at : ℕ
        at = row_with (facts_of (tail past l.ce)) y

        by : (o : Option Opening) → opening (tail past l.ce) ≡ o → names_lun g (row_with (facts_of (tail past l.ce)) y) l.lun ≡ true
            → changes_row (cond (opened (λ c n. is_page_program c && at_last_row c n) o) (Clears (page_address g at)) (cond (opened (λ c n. is_write_column c && at_last_row c n) o) (copied (page_address g at) (page_in_plane (planes g) (plane_of_row g at) (held g past l))) Leaves)) ≡ true
            → IsLastAddress g past (Cyc c) l (cond (opened (λ c n. is_page_program c && at_last_row c n) o) (Clears (page_address g at)) (cond (opened (λ c n. is_write_column c && at_last_row c n) o) (copied (page_address g at) (page_in_plane (planes g) (plane_of_row g at) (held g past l))) Leaves))
        by None op here h = cc
        by (Some o) op here h =
            record {
              c = c;
              byte = y;
              o = o;
              is = refl;
              ce = e;
              cycle = q;
              opens = op;
              here = here;
              kind = row_kind g (held g past l) o at (is_page_program o.opener && at_last_row o.opener o.addresses) (is_write_column o.opener && at_last_row o.opener o.addresses) (page_in_plane (planes g) (plane_of_row g at) (held g past l)) refl refl refl h;
            }

        named : (n : Bool) → names_lun g (row_with (facts_of (tail past l.ce)) y) l.lun ≡ n → changes_row (cond n (row_filling g (facts_of (tail past l.ce)) at (held g past l)) Leaves) ≡ true → IsLastAddress g past (Cyc c) l (cond n (row_filling g (facts_of (tail past l.ce)) at (held g past l)) Leaves)
        named true m h = by (opening (tail past l.ce)) refl m h
        named false m h = cc

-- the page of the row, and that the row is one of a program
abbrev page_changed : Filling → Option PageAddress
page_changed (Clears at) = Some at
page_changed (Copies at from) = Some at
page_changed _ = None

kind_page : (g : Parts) (pages : List PageAddress) (o : Opening) (row : ℕ) (x : Filling) (at : PageAddress) → RowKind g pages o row x → page_changed x ≡ Some at → at ≡ page_address g row
kind_page g pages o row _ at (program e) h = cc
kind_page g pages o row _ at (blank_copy e n) h = cc
kind_page g pages o row _ at (copy from e n) h = cc

data_program : (c : Command) (b : Bool) → (is_page_program c && b) ≡ true → (begins_data c && b) ≡ true
data_program k.PageProgram b h = h
data_program c b h = cc

data_copyback : (c : Command) (b : Bool) → (is_write_column c && b) ≡ true → (begins_data c && b) ≡ true
data_copyback k.ChangeWriteColumn b h = h
data_copyback c b h = cc

kind_ends : (g : Parts) (pages : List PageAddress) (o : Opening) (row : ℕ) (x : Filling) → RowKind g pages o row x → (begins_data o.opener && at_last_row o.opener o.addresses) ≡ true
kind_ends g pages o row _ (program e) = data_program o.opener _ e
kind_ends g pages o row _ (blank_copy e n) = data_copyback o.opener _ e
kind_ends g pages o row _ (copy from e n) = data_copyback o.opener _ e

opening_there : (t : List TargetCycle) (o : Opening) → opening t ≡ Some o → is_nil t ≡ false
opening_there [] o h = cc
opening_there (d ∷ t) o h = refl

program_addresses_array : (c : Command) (n : ℕ) → (begins_data c && at_last_row c n) ≡ true → (addresses_the_array c && at_last_row c n) ≡ true
program_addresses_array k.PageProgram n h = h
program_addresses_array k.ChangeWriteColumn n h = h
program_addresses_array c n h = cc

program_refuses : (g : Parts) (c : Command) (n : ℕ) (p : PageAddress) (rows : List Queued) → (begins_data c && at_last_row c n) ≡ true → (at_last_row c n && refused_by g c p rows) ≡ false → some_queued_clashes g false p rows ≡ false
program_refuses g k.PageProgram n p rows h r = and_rest (at_last_row k.PageProgram n) _ h r
program_refuses g k.ChangeWriteColumn n p rows h r = and_rest (at_last_row k.ChangeWriteColumn n) _ h r
program_refuses g c n p rows h r = cc

-- what a test says of the named LUN where it isn't broken
named_test : (g : Parts) (past : List Item) (l : Lun) (row : ℕ) (test : LunView → Bool) → l.lun < g.luns → names_lun g row l.lun ≡ true → named_lun_is g row test (luns_of g past l.ce) ≡ test (lun_view g past l)
named_test g past l row test low h =
    let same : (parts_of g row).lun ≡ l.lun = eqb_is _ _ h in
    ap (λ (n : ℕ). is_some_and test (slice_get (luns_of g past l.ce) n)) same ∙ ap (is_some_and test) (view_at g past l low)
  where
    eqb_is : (a b : ℕ) → (a == b) ≡ true → a ≡ b
    eqb_is a b h = grind (arith, nat_tests)

-- F9 and F10 at it: the LUN is ready, and its queue goes together with the page
record Passed (g : Parts) (past : List Item) (l : Lun) (at : PageAddress) : Type 0 where
  ready : is_busy g past l ≡ false
  apart : some_queued_clashes g false at (queue g past l) ≡ false

passed : (g : Parts) (n : ℕ) (past : List Item) (i : Item) (l : Lun) (x : Filling) (at : PageAddress) → page_changed x ≡ Some at → broken g n past i ≡ None → l.lun < g.luns → IsLastAddress g past i l x → Passed g past l at
unfolding breaks_lun_busy breaks_queue_clash
passed g n past i l x at changed h low j =
    let t = facts_of (tail past l.ce) in
    let ended = kind_ends g (held g past l) j.o (row_with t j.byte) x j.kind in
    let rules = permitted_keeps g n past j.c (sym (ap (broken g n past) j.is) ∙ h) in
    let same : j.c.ce ≡ l.ce = eqb_is j.c.ce l.ce j.ce in
    let f9 : breaks_lun_busy g t (luns_of g past l.ce) (AddressCycle j.byte) ≡ false = subst (λ (k : TargetCycle). breaks_lun_busy g t (luns_of g past l.ce) k ≡ false) j.cycle (subst (λ (ce : ℕ). breaks_lun_busy g (facts_of (tail past ce)) (luns_of g past ce) (target_cycle j.c.kind j.c.byte) ≡ false) same rules.f9) in
    let f10 : breaks_queue_clash g t (luns_of g past l.ce) (AddressCycle j.byte) ≡ false = subst (λ (k : TargetCycle). breaks_queue_clash g t (luns_of g past l.ce) k ≡ false) j.cycle (subst (λ (ce : ℕ). breaks_queue_clash g (facts_of (tail past ce)) (luns_of g past ce) (target_cycle j.c.kind j.c.byte) ≡ false) same rules.f10) in
    let ends : ends_row addresses_the_array t ≡ true = ap (opened (λ c n. addresses_the_array c && at_last_row c n)) j.opens ∙ program_addresses_array j.o.opener j.o.addresses ended in
    record {
      ready = sym (named_test g past l (row_with t j.byte) (λ v. v.busy) low j.here) ∙ (neither (named_lun_is g (row_with t j.byte) (λ v. v.busy) (luns_of g past l.ce)) _ (and_rest _ _ ends f9)).0;
      apart =
          ap (λ (p : PageAddress). some_queued_clashes g false p (queue g past l)) (kind_page g (held g past l) j.o (row_with t j.byte) x at j.kind changed)
          ∙ program_refuses g j.o.opener j.o.addresses (page_address g (row_with t j.byte)) (queue g past l) ended
          (sym (ap (λ (o : Option Opening). is_refused_by g o (page_address g (row_with t j.byte)) (queue g past l)) j.opens) ∙ (sym (named_test g past l (row_with t j.byte) (λ v. is_refused_by g t.opening (page_address g (row_with t j.byte)) v.queue) low j.here) ∙ f10));
    }
  where
    eqb_is : (a b : ℕ) → (a == b) ≡ true → a ≡ b
    eqb_is a b h = grind (arith, nat_tests)

-- the register of the plane gets what the program begins with
address_goes_on : (s : Channel) (past : List Item) (i : Item) (l : Lun) (old : Die) (x : Filling) (at : PageAddress) (bytes : List ℕ) → page_changed x ≡ Some at → IsLastAddress s.geometry past i l x → Passed s.geometry past l at → RowEffect (effect_on s.geometry past i l) → IsDieOf s past l old → begun_at s (i ∷ past) l ≡ bytes
    → IsDieOf s (i ∷ past) l (with_planes (released (effect_on s.geometry past i l) old) (set old.planes (at.block % planes s.geometry) bytes))
address_goes_on s past i l old x at bytes changed j ok re f begun =
    let g = s.geometry in
    let t = tail past l.ce in
    let registers = set old.planes (at.block % planes g) bytes in
    let later = begun_at s (i ∷ past) l in
    let same_tail : tail (i ∷ past) l.ce ≡ AddressCycle j.byte ∷ t = tail_with s.geometry past i l x j in
    let same_row : row (facts_of (AddressCycle j.byte ∷ t)) ≡ row_with (facts_of t) j.byte = ap (λ (o : Option Opening). row (record (facts_of t) { row = row_after_address o j.byte (row_bytes t) })) j.opens in
    let idle : old.busy ≡ false = f.busy ∙ ok.ready in
    let open_one : HasBytes g later (AddressCycle j.byte ∷ t) (with_planes (released (effect_on g past i l) old) registers) =
    record {
      ready = idle;
      bytes =
          ap (λ (r : ℕ). plane_bytes g registers (page_address g r)) same_row
          ∙ (ap (plane_bytes g registers) (sym (kind_page g (held g past l) j.o (row_with (facts_of t) j.byte) x at j.kind changed))
          ∙ (get_or-set_same old.planes (at.block % planes g) bytes [] (plane_there s past l old at f)
          ∙ (sym begun ∙ sym (blank later t j.o j.opens))));
    } in
    register_goes_on s past i l old at bytes re f idle ok.apart
    (λ n h. subst (λ (v : List TargetCycle). HasBytes g later v (with_planes (released (effect_on g past i l) old) registers)) (sym same_tail) open_one)
  where
    tail_with : (g : Parts) (past : List Item) (i : Item) (l : Lun) (x : Filling) (j : IsLastAddress g past i l x) → tail (i ∷ past) l.ce ≡ AddressCycle j.byte ∷ tail past l.ce
    tail_with g past i l x j = ap (λ (z : Item). tail (z ∷ past) l.ce) j.is ∙ tail_on past j.c l.ce (AddressCycle j.byte) j.ce j.cycle refl (opening_there (tail past l.ce) j.o j.opens)

-- the effect of it, and what the program begins with

row_effect_is : (g : Parts) (past : List Item) (i : Item) (l : Lun) (x : Filling) (j : IsLastAddress g past i l x) → effect_on g past i l ≡ address_effect g (facts_of (tail past l.ce)) j.byte j.o.opener j.o.addresses l.lun
row_effect_is g past i l x j =
    ap (λ (z : Item). effect_on g past z l) j.is ∙ (effect_at g past j.c l (AddressCycle j.byte) j.ce j.cycle
    ∙ ap (λ (o : Option Opening). opening_address_effect g (facts_of (tail past l.ce)) j.byte o l.lun) j.opens)

program_row_is : (g : Parts) (t : TailFacts) (byte n lun : ℕ) (c : Command) → (is_page_program c && at_last_row c n) ≡ true → names_lun g (row_with t byte) lun ≡ true → address_effect g t byte c n lun ≡ e.ProgramAddressed
program_row_is g t byte n lun k.PageProgram ends here = rw (ends, here) refl
program_row_is g t byte n lun c ends here = cc

copyback_row_is : (g : Parts) (t : TailFacts) (byte n lun : ℕ) (c : Command) (b : Bool) → (is_write_column c && b) ≡ true → address_effect g t byte c n lun ≡ e.Unaffected
copyback_row_is g t byte n lun k.ChangeWriteColumn b h = refl
copyback_row_is g t byte n lun c b h = cc

-- what is held in the plane of the row once it has come
begun_is : (s : Channel) (past : List Item) (i : Item) (l : Lun) (x : Filling) (j : IsLastAddress s.geometry past i l x) (e : Effect) (there : Option PageAddress) → is_busy s.geometry past l ≡ false → effect_on s.geometry past i l ≡ e
    → page_in_plane (planes s.geometry) (plane_of_row s.geometry (row_with (facts_of (tail past l.ce)) j.byte)) (held_after e (is_copyback_read (closer s.geometry past l)) (array_page s.geometry past l) (queue s.geometry past l) (held s.geometry past l)) ≡ there
    → held_after e (is_copyback_read (closer s.geometry past l)) (array_page s.geometry past l) (queue s.geometry past l) [] ≡ []
    → begun_at s (i ∷ past) l ≡ bytes_held s.geometry (content s.geometry s.opening past l) there
begun_is s past i l x j e there idle is held_there none =
    let g = s.geometry in
    let t = tail past l.ce in
    let same_tail : tail (i ∷ past) l.ce ≡ AddressCycle j.byte ∷ t = ap (λ (z : Item). tail (z ∷ past) l.ce) j.is ∙ tail_on past j.c l.ce (AddressCycle j.byte) j.ce j.cycle refl (opening_there t j.o j.opens) in
    let same_row : row (facts_of (tail (i ∷ past) l.ce)) ≡ row_with (facts_of t) j.byte = ap (λ (v : List TargetCycle). row (facts_of v)) same_tail ∙ ap (λ (o : Option Opening). row (record (facts_of t) { row = row_after_address o j.byte (row_bytes t) })) j.opens in
    let same_held : held g (i ∷ past) l ≡ held_after e (is_copyback_read (closer g past l)) (array_page g past l) (queue g past l) (held g past l) = ap (λ (z : Effect). held_after z (is_copyback_read (closer g past l)) (array_page g past l) (queue g past l) (held g past l)) is in
    held_content g s.opening past i l (planes g) _ (held g (i ∷ past) l) idle
    (λ h. same_held ∙ (ap (held_after e (is_copyback_read (closer g past l)) (array_page g past l) (queue g past l)) (work_changes_pages.held g past l h) ∙ none))
    ∙ ((λ q. bytes_held g (content g s.opening past l) (page_in_plane (planes g) (plane_of_row g (same_row q)) (same_held q)))
    ∙ ap (bytes_held g (content g s.opening past l)) held_there)

-- the bytes that a filling puts into the register
abbrev bytes_put : Parts → Die → Filling → List ℕ
bytes_put g d (Copies at from) = page_of d from
bytes_put g d _ = replicate (page_len g) 0xff

row_goes_on : (s : Channel) (past : List Item) (i : Item) (l : Lun) (old : Die) (x : Filling) (at : PageAddress) → page_changed x ≡ Some at → (j : IsLastAddress s.geometry past i l x) → Passed s.geometry past l at → IsDieOf s past l old
    → IsDieOf s (i ∷ past) l (with_planes (released (effect_on s.geometry past i l) old) (set old.planes (at.block % planes s.geometry) (bytes_put s.geometry old x)))
row_goes_on s past i l old x at changed j ok f = of x j.kind refl
  where
    g : Parts
    g = s.geometry

    of : (z : Filling) → RowKind s.geometry (held s.geometry past l) j.o (row_with (facts_of (tail past l.ce)) j.byte) z → z ≡ x → IsDieOf s (i ∷ past) l (with_planes (released (effect_on s.geometry past i l) old) (set old.planes (at.block % planes s.geometry) (bytes_put s.geometry old x)))
    of _ (program ends) same =
        let is = row_effect_is s.geometry past i l x j ∙ program_row_is s.geometry (facts_of (tail past l.ce)) j.byte j.o.addresses l.lun j.o.opener ends j.here in
        address_goes_on s past i l old x at (bytes_put s.geometry old x) changed j ok (subst RowEffect (sym is) addressed) f
        (begun_is s past i l x j e.ProgramAddressed None ok.ready is refl refl ∙ ap (bytes_put s.geometry old) same)
    of _ (blank_copy ends none) same =
        let is = row_effect_is s.geometry past i l x j ∙ copyback_row_is s.geometry (facts_of (tail past l.ce)) j.byte j.o.addresses l.lun j.o.opener _ ends in
        address_goes_on s past i l old x at (bytes_put s.geometry old x) changed j ok (subst RowEffect (sym is) nothing) f
        (begun_is s past i l x j e.Unaffected None ok.ready is none refl ∙ ap (bytes_put s.geometry old) same)
    of _ (copy from ends there) same =
        let is = row_effect_is s.geometry past i l x j ∙ copyback_row_is s.geometry (facts_of (tail past l.ce)) j.byte j.o.addresses l.lun j.o.opener _ ends in
        address_goes_on s past i l old x at (bytes_put s.geometry old x) changed j ok (subst RowEffect (sym is) nothing) f
        (begun_is s past i l x j e.Unaffected (Some from) ok.ready is there refl ∙ (sym (f.pages from) ∙ ap (bytes_put s.geometry old) same))

pub dies_go_on : DiesGoOn
dies_go_on s past i l old new h low fits f w = by (filling s.geometry (facts_of (tail past l.ce)) i l (held s.geometry past l)) refl w
  where
    by : (x : Filling) → filling s.geometry (facts_of (tail past l.ce)) i l (held s.geometry past l) ≡ x → WorkedBy s.geometry x (effect_on s.geometry past i l) old new → IsDieOf s (i ∷ past) l new
    by Leaves e w = leaves_goes_on s past i l old new e f w
    by (Clears at) e w =
        let j = is_last_address s.geometry past i l (Clears at) e refl in
        subst (IsDieOf s (i ∷ past) l) (sym w) (row_goes_on s past i l old (Clears at) at refl j (passed s.geometry s.targets past i l (Clears at) at refl h low j) f)
    by (Copies at from) e w =
        let j = is_last_address s.geometry past i l (Copies at from) e refl in
        subst (IsDieOf s (i ∷ past) l) (sym w) (row_goes_on s past i l old (Copies at from) at refl j (passed s.geometry s.targets past i l (Copies at from) at refl h low j) f)
    by (Fills at column byte) e w = input_goes_on s past i l old new at column byte (is_input s.geometry past i l at column byte e) fits f w
