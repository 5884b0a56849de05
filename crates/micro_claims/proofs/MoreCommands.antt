-- Queued erases and programs, resets and cache reads are sound.
use Rattle.std.proofs.Common.{◌≡◌, ℕ, ◌+◌, ◌*◌, ◌/◌, ◌%◌, ◌==◌, Bool, true, false, ◌&&◌, ◌||◌, cond, not, ltb, List, [], ◌∷◌, Option, Some, None, refl, sym, ap, ◌∙◌, subst, arith, eqb-true, inl, inr}
use Rattle.std.proofs.lemmas.Bool.Decides.{nat_tests}
use Rattle.std.proofs.lemmas.Bool.{not-false, and_parts, and_from, or_parts, or_left}
use Rattle.nand_geometry.specs.declared.parts.Parts.{Parts}
use Rattle.nand_geometry.specs.declared.row_parts.RowParts.{RowParts}
use Rattle.nand_geometry.specs.Limits.{planes}
use Rattle.nand_geometry.specs.Optional.{is_wide, has_lun_reset, has_synchronous_reset}
use Rattle.nand_geometry.specs.Row.{row_of, parts_of}
use Rattle.onfi_cycle.specs.declared.command.Command.{Command}
use Rattle.onfi_cycle.specs.declared.command.Command.TheVariants.{Read, ChangeReadColumn, ChangeReadColumnEnhanced, BlockErase, ReadConfirm, BlockErasePlane, ProgramPlane, Reset, ReadCacheSequential, ReadCacheEnd, ResetLun, SynchronousReset}
use Rattle.onfi_cycle.specs.declared.item.Item.{Item}
use Rattle.onfi_cycle.specs.declared.effect.Effect.{Effect}
use Rattle.onfi_cycle.specs.declared.effect.Effect.TheVariants.{EraseStarted, ProgramStarted, CacheReadContinued, CacheReadEnded, ResetStarted, TargetResetStarted}
use Rattle.onfi_cycle.specs.declared.queued.Queued.{Queued}
use Rattle.onfi_cycle.specs.declared.queued.Queued.TheVariants.{Erase, Program}
use Rattle.onfi_cycle.specs.declared.tail_facts.TailFacts.{TailFacts}
use Rattle.onfi_cycle.specs.declared.target_cycle.TargetCycle.TheVariants.{CommandCycle}
use Rattle.onfi_cycle.specs.Command.{command, closes, address_cycles, is_opener, wants_one_lun}
use Rattle.onfi_cycle.specs.Sequence.{facts_after, is_open, wants_command, row, takes_data}
use Rattle.onfi_cycle.specs.Effect.{page_address, names_lun, cycle_effect, reset_effect}
use Rattle.onfi_cycle.specs.Lun.{is_page_read, is_cache_read, view_after}
use Rattle.onfi_cycle.specs.LunView.{LunView}
use Rattle.onfi_cycle.specs.Channel.{Channel}
use Rattle.micro_word.specs.Text.{Microprogram}
use Rattle.micro_word.specs.declared.word.Word.TheVariants.{Command as CommandWord}
use Rattle.micro_program.specs.Lines.{Line}
use Rattle.micro_claims.specs.Spans.{bound_plus, is_at_most}
use Rattle.micro_claims.specs.Planes.{no_planes, either_plane}
use Rattle.micro_claims.specs.State.{State, Place, Closed, After, InData, InColumn, InFeatures, NamedRow, Drift, QueuedRows, NoRows, SomeRows, SomeReads, AnyRows, LastCloser, bounds_of, Unknown, may_be_30, may_be_other}
use Rattle.micro_claims.specs.Against.{may_end_sequence, opener_refused, closer_refused, is_unfit, asks_status, command_not_for_programs, drives, may_be_open, place_wants, same_test, continues_unseen, goes_on_at}
use Rattle.micro_claims.specs.Reasons.{breaks_command_not_allowed}
use Rattle.micro_claims.specs.Leaves.{work_started, program_queued, rows_at, goes_along, queued_planes, queued_more, data_shown, reset_started, command_leaves, cache_read, next_cached, named_plane, cached_at, shows_after_read}
use Rattle.micro_claims.specs.Accepts.{state_after, accepts}
use Rattle.micro_program.specs.Program.{Job, Done, index_now}
use Rattle.micro_claims.proofs.PlaneSets.{among_first, among_second}
use Rattle.micro_program.proofs.Scenes.{Scene, IsScene, shown_alone, scene_behind, closed_unwanted}
use Rattle.micro_claims.proofs.Fits.{latch_among, DriftFits, Address, is_place, NameFits, RowIs, is_of_kind, page_of, RowFits, AllFit, RowsFit, closer_among, LunFits, TailFits, Fits, Now, now_of, ShowsFit, Below}
use Rattle.micro_claims.proofs.HeldPlanes.{no_pages, read_array}
use Rattle.micro_claims.proofs.Numbers.{below_plus, in_exactly, surely}
use Rattle.micro_claims.proofs.Tails.{closed_tail, closed_fits, whole_erase_plane, programming, whole}
use Rattle.micro_claims.proofs.Sounding.{KnownJob, NoReasons, SoundWord}
use Rattle.micro_claims.proofs.Commands.{command_sound, plain_opener, same_either, shows_kept, wanted, row_names, program_row, driven, out_of_place, page_of_row, page_below, read_shown}
use Rattle.micro_claims.proofs.CopiedPages.{no_copies_fit, uncopied_fit, queued_copies_fit}
use Rattle.micro_claims.proofs.Programs.{queued_programs}

-- 1. what is declared

pub record Declared (g : Parts) (text : Microprogram) (d : Command) : Type 0 where
  pub fit : is_unfit g d ≡ false
  pub one : (wants_one_lun d && ltb 1 g.luns) ≡ false
  pub cache : continues_unseen (bounds_of text) d ≡ false

pub declared : (g : Parts) (text : Microprogram) (v : State) (byte : ℕ) (d : Command) → command byte ≡ d → NoReasons g text v (CommandWord byte) → Declared g text d
unfolding breaks_command_not_allowed
declared g text v byte d is clear =
    let none = subst (λ (c : Command). (command_not_for_programs g c || continues_unseen (bounds_of text) c) ≡ false) is clear.no_command_not_allowed in
    let both = or_parts (command_not_for_programs g d) (continues_unseen (bounds_of text) d) none in
    let two = or_parts (is_unfit g d || asks_status d) (wants_one_lun d && ltb 1 g.luns) both.0 in
    let one = or_parts (is_unfit g d) (asks_status d) two.0 in
    record { fit = one.0; one = two.1; cache = both.1 }

-- 2. queued rows

same_kind : (a b : Bool) → same_test a b ≡ true → a ≡ b
same_kind true true h = refl
same_kind true false h = cc
same_kind false true h = cc
same_kind false false h = refl

queued_fits : (g : Parts) (j : Job) (now : ℕ) (erase : Bool) (claimed : QueuedRows) (o : Option NamedRow) (a : Address) (q : Queued) (queue : List Queued) → NameFits g j a now o → RowIs g j a → is_of_kind erase q ≡ true → (page_of q).page ≡ a.index % g.pages → (page_of q).block ≡ a.index / g.pages * planes g + a.plane → RowsFit g now claimed queue → RowsFit g now (queued_more erase claimed o) (q ∷ queue)
queued_fits g j now erase claimed None a q queue name row kind page block f = tt
queued_fits g j now erase claimed (Some n) a q queue name row kind page block f = at (goes_along erase n.drift claimed) refl
  where
    with_drift : (o : Option Drift) → n.drift ≡ o → goes_along erase o claimed ≡ true → RowsFit g now (rows_at erase (either_plane n.planes (queued_planes claimed)) o) (q ∷ queue)
    with_drift None is along = tt
    with_drift (Some d) is along = (record { kind = kind; index = a.index; plane = a.plane; low = row.low; page = page; block = block; among = among_first a.plane n.planes (queued_planes claimed) name.plane; drift = subst (λ (x : Option Drift). DriftFits now a.index x) is name.drift }, rest claimed along f)
      where
        rest : (c : QueuedRows) → goes_along erase (Some d) c ≡ true → RowsFit g now c queue → AllFit (RowFits g now (is_of_kind erase) (either_plane n.planes (queued_planes c)) d) queue
        rest NoRows along f = subst (λ (qs : List Queued). AllFit (RowFits g now (is_of_kind erase) (either_plane n.planes no_planes) d) qs) (sym f) tt
        rest AnyRows along f = cc
        rest (SomeReads ps surely e) along f = cc
        rest (SomeRows k ps e) along f = each queue f
          where
            both : (same_test erase k ≡ true) × ((d.ahead == e.ahead && d.behind == e.behind) ≡ true)
            both = and_parts (same_test erase k) (d.ahead == e.ahead && d.behind == e.behind) along

            each : (qs : List Queued) → AllFit (RowFits g now (is_of_kind k) ps e) qs → AllFit (RowFits g now (is_of_kind erase) (either_plane n.planes ps) d) qs
            each [] f = tt
            each (x ∷ qs) f =
                let parts = and_parts (d.ahead == e.ahead) (d.behind == e.behind) both.1 in
                let ahead = eqb-true d.ahead e.ahead parts.0 in
                let behind = eqb-true d.behind e.behind parts.1 in
                let far = f.0.drift in
                (record { kind = subst (λ (b : Bool). is_of_kind b x ≡ true) (sym (same_kind erase k both.0)) f.0.kind; index = f.0.index; plane = f.0.plane; low = f.0.low; page = f.0.page; block = f.0.block; among = among_second f.0.plane n.planes ps f.0.among; drift = omega (arith, ahead, behind, far) }, each qs f.1)

    at : (b : Bool) → goes_along erase n.drift claimed ≡ b → RowsFit g now (cond b (rows_at erase (either_plane n.planes (queued_planes claimed)) n.drift) AnyRows) (q ∷ queue)
    at true e = with_drift n.drift refl e
    at false e = tt

-- D1h
pub sound_d1 : (s : Channel) (j : Job) (k : KnownJob s j) (v : State) (past : List Item) (c : Scene) (done : List Done) (rest : List Line) (at byte : ℕ) → command byte ≡ BlockErasePlane → IsScene s j.lun past c → Fits s.geometry j v done c true → NoReasons s.geometry j.text v (CommandWord byte) → accepts s.geometry (bounds_of j.text) None (state_after s.geometry v (CommandWord byte)) rest ≡ true → SoundWord s j past done rest at (CommandWord byte)
sound_d1 s j k v past c done rest at byte is scene f clear acc =
    let g = s.geometry in
    let dec = declared g j.text v byte BlockErasePlane is clear in
    let w = whole_erase_plane g j v.target (now_of j done) c.facts (f.tail refl) (wanted g j.text v byte BlockErasePlane is dec.fit refl clear).places in
    let wants : wants_command c.facts BlockErasePlane ≡ true = ap (λ (t : TailFacts). wants_command t BlockErasePlane) w.facts in
    let row_is = ap row w.facts in
    let names = row_names g j c.facts w.address row_is (w.row refl) in
    let page = page_of_row g j c.facts w.address row_is (w.row refl) in
    let effect : cycle_effect g c.facts (shown_alone c) (CommandCycle BlockErasePlane) j.lun.lun ≡ EraseStarted true (page_address g (row c.facts)) = rw (wants, names) refl in
    command_sound s j k v past c done rest at byte BlockErasePlane is scene f clear ((wants, names), not-false g.multi_plane dec.fit) refl
    (closed_fits g j None None v.target.shows (now_of j done) _ (ap (λ (t : TailFacts). is_open (facts_after (CommandCycle BlockErasePlane) t)) w.facts))
    (shows_kept v.target.shows c (scene_behind g j.lun.lun (CommandCycle BlockErasePlane) c) (λ e. e) (ap (λ (e : Effect). (view_after e c.view).latch) effect) f.shows)
    (subst (λ (e : Effect). LunFits g j (work_started (queued_more true v.lun.queue v.target.named) v).lun (index_now j.base done) (view_after e c.view)) (sym effect)
    (record { ready = λ e. cc; register = tt; column = tt; queue = queued_fits g j (index_now j.base done) true v.lun.queue v.target.named w.address (Erase (page_address g (row c.facts))) c.view.queue (w.named refl) (w.row refl) refl page.0 page.1 f.lun.queue; last = refl; cached = λ e x. cc; held = λ e. cc; planes = no_pages g []; array = no_pages g (c.view.array_page ∷ []); copies = no_copies_fit g no_planes (index_now j.base done) _; programming = λ e. refl }))
    acc

-- 11h
queues : (p : Place) → place_wants ProgramPlane p ≡ true → p ≡ InData
queues InData h = refl
queues Closed h = cc
queues (InColumn n) h = cc
queues (InFeatures n) h = cc
queues Unknown h = cc
queues (After o n) h = let both = and_parts (closes o ProgramPlane) (n == address_cycles o) h in absurd (none o both.0)
  where
    none : (o : Command) → closes o ProgramPlane ≡ true → ⊥
    none Read h = cc
    none ChangeReadColumn h = cc
    none ChangeReadColumnEnhanced h = cc
    none BlockErase h = cc
    none _ h = cc

pub sound_11 : (s : Channel) (j : Job) (k : KnownJob s j) (v : State) (past : List Item) (c : Scene) (done : List Done) (rest : List Line) (at byte : ℕ) → command byte ≡ ProgramPlane → IsScene s j.lun past c → Fits s.geometry j v done c true → NoReasons s.geometry j.text v (CommandWord byte) → accepts s.geometry (bounds_of j.text) None (state_after s.geometry v (CommandWord byte)) rest ≡ true → SoundWord s j past done rest at (CommandWord byte)
sound_11 s j k v past c done rest at byte is scene f clear acc =
    let g = s.geometry in
    let dec = declared g j.text v byte ProgramPlane is clear in
    let p = programming g j v.target (now_of j done) c.facts (place_wants ProgramPlane) queues (f.tail refl) (wanted g j.text v byte ProgramPlane is dec.fit refl clear).places in
    let wants : wants_command c.facts ProgramPlane ≡ true = ap takes_data p.program.phase in
    let row_is = program_row g j v.target (now_of j done) c.facts p in
    let names = row_names g j c.facts p.address row_is p.row in
    let page = page_of_row g j c.facts p.address row_is p.row in
    let effect : cycle_effect g c.facts (shown_alone c) (CommandCycle ProgramPlane) j.lun.lun ≡ ProgramStarted true (page_address g (row c.facts)) = rw (wants, names) refl in
    command_sound s j k v past c done rest at byte ProgramPlane is scene f clear ((wants, names), not-false g.multi_plane dec.fit) refl
    (closed_fits g j None None v.target.shows (now_of j done) _ (rw p.program.begun refl))
    (shows_kept v.target.shows c (scene_behind g j.lun.lun (CommandCycle ProgramPlane) c) (λ e. e) (ap (λ (e : Effect). (view_after e c.view).latch) effect) f.shows)
    (subst (λ (e : Effect). LunFits g j (program_queued v).lun (index_now j.base done) (view_after e c.view)) (sym effect)
    (record { ready = λ e. cc; register = tt; column = tt; queue = queued_fits g j (index_now j.base done) false v.lun.queue v.target.named p.address (Program (page_address g (row c.facts))) c.view.queue p.named p.row refl page.0 page.1 f.lun.queue; last = refl; cached = λ e x. cc; held = λ e. cc; planes = f.lun.planes; array = no_pages g (c.view.array_page ∷ []); copies = queued_copies_fit g v.lun.copies v.lun.held (index_now j.base done) c.view.closer c.view.held f.lun.copies; programming = λ e. queued_programs c.view (page_address g (row c.facts)) (f.lun.programming e) }))
    acc

-- 3. openers that are whole by themselves

pub opener_free : (g : Parts) (text : Microprogram) (v : State) (byte : ℕ) (d : Command) → command byte ≡ d → is_unfit g d ≡ false → (is_opener d && not (goes_on_at g d v.target.tail)) ≡ true → NoReasons g text v (CommandWord byte) → ((not (may_end_sequence g d) && may_be_open v) || opener_refused g v d) ≡ false
opener_free g text v byte d is fit opener clear =
    let free = (not (may_end_sequence g d) && may_be_open v) || opener_refused g v d in
    let all = not (place_wants d v.target.tail) || closer_refused g v d in
    let fitting = subst (λ (b : Bool). cond b false (cond (is_opener d && not (goes_on_at g d v.target.tail)) free all) ≡ false) fit (out_of_place g text v byte d is clear) in
    subst (λ (b : Bool). cond b free all ≡ false) opener fitting

-- a reset comes where nothing is open, or anywhere in the wider profile
reset_closed : (g : Parts) (j : Job) (v : State) (n : Now) (t : TailFacts) → TailFits g j v.target n t → (not (is_wide g.optional) && may_be_open v) ≡ false → (is_open t && not (is_wide g.optional)) ≡ false
reset_closed g j v n t f h = at (is_wide g.optional) h
  where
    none : (b : Bool) → (b && false) ≡ false
    none true = refl
    none false = refl

    at : (w : Bool) → (not w && may_be_open v) ≡ false → (is_open t && not w) ≡ false
    at true h = none (is_open t)
    at false h = ap (λ (b : Bool). b && true) (closed_tail g j v.target n t f h)

reset_one : (g : Parts) (lun : ℕ) → ltb 1 g.luns ≡ false → ResetStarted ≡ reset_effect g lun
reset_one g lun one = sym (ap (λ (b : Bool). cond (is_wide g.optional && b) (TargetResetStarted (lun == 0)) ResetStarted) one ∙ ap (λ (b : Bool). cond b (TargetResetStarted (lun == 0)) ResetStarted) (none (is_wide g.optional)))
  where
    none : (b : Bool) → (b && false) ≡ false
    none true = refl
    none false = refl

pub reset_fits : (g : Parts) (j : Job) (v : State) (i : ℕ) (view : LunView) → LunFits g j (reset_started v).lun i (view_after ResetStarted view)
reset_fits g j v i view = record { ready = λ e. cc; register = tt; column = tt; queue = refl; last = refl; cached = λ e x. cc; held = λ e. cc; planes = no_pages g []; array = no_pages g (view.array_page ∷ []); copies = no_copies_fit g no_planes i _; programming = λ e. refl }

resets_fit : (g : Parts) (j : Job) (v : State) (i lun : ℕ) (view : LunView) → ltb 1 g.luns ≡ false → LunFits g j (reset_started v).lun i (view_after (reset_effect g lun) view)
resets_fit g j v i lun view one = subst (λ (e : Effect). LunFits g j (reset_started v).lun i (view_after e view)) (reset_one g lun one) (reset_fits g j v i view)

-- FFh
pub sound_ff : (s : Channel) (j : Job) (k : KnownJob s j) (v : State) (past : List Item) (c : Scene) (done : List Done) (rest : List Line) (at byte : ℕ) → command byte ≡ Reset → IsScene s j.lun past c → Fits s.geometry j v done c true → NoReasons s.geometry j.text v (CommandWord byte) → accepts s.geometry (bounds_of j.text) None (state_after s.geometry v (CommandWord byte)) rest ≡ true → SoundWord s j past done rest at (CommandWord byte)
sound_ff s j k v past c done rest at byte is scene f clear acc =
    let g = s.geometry in
    let dec = declared g j.text v byte Reset is clear in
    let free = or_parts (not (is_wide g.optional) && may_be_open v) false (opener_free g j.text v byte Reset is refl refl clear) in
    command_sound s j k v past c done rest at byte Reset is scene f clear (record { closed = reset_closed g j v (now_of j done) c.facts (f.tail refl) free.0; one = dec.one }) refl
    (closed_fits g j None None None (now_of j done) _ refl)
    tt
    (resets_fit g j v (index_now j.base done) j.lun.lun c.view dec.one)
    acc

-- FCh
pub sound_fc : (s : Channel) (j : Job) (k : KnownJob s j) (v : State) (past : List Item) (c : Scene) (done : List Done) (rest : List Line) (at byte : ℕ) → command byte ≡ SynchronousReset → IsScene s j.lun past c → Fits s.geometry j v done c true → NoReasons s.geometry j.text v (CommandWord byte) → accepts s.geometry (bounds_of j.text) None (state_after s.geometry v (CommandWord byte)) rest ≡ true → SoundWord s j past done rest at (CommandWord byte)
sound_fc s j k v past c done rest at byte is scene f clear acc =
    let g = s.geometry in
    let dec = declared g j.text v byte SynchronousReset is clear in
    let free = or_parts (not (is_wide g.optional) && may_be_open v) false (opener_free g j.text v byte SynchronousReset is dec.fit refl clear) in
    let fit = or_parts (not (is_wide g.optional)) (not (has_synchronous_reset g.optional)) dec.fit in
    command_sound s j k v past c done rest at byte SynchronousReset is scene f clear (record { closed = reset_closed g j v (now_of j done) c.facts (f.tail refl) free.0; one = dec.one }, not-false (has_synchronous_reset g.optional) fit.1) refl
    (closed_fits g j None None None (now_of j done) _ refl)
    tt
    (resets_fit g j v (index_now j.base done) j.lun.lun c.view dec.one)
    acc

-- FAh
pub sound_fa : (s : Channel) (j : Job) (k : KnownJob s j) (v : State) (past : List Item) (c : Scene) (done : List Done) (rest : List Line) (at byte : ℕ) → command byte ≡ ResetLun → IsScene s j.lun past c → Fits s.geometry j v done c true → NoReasons s.geometry j.text v (CommandWord byte) → accepts s.geometry (bounds_of j.text) None (state_after s.geometry v (CommandWord byte)) rest ≡ true → SoundWord s j past done rest at (CommandWord byte)
sound_fa s j k v past c done rest at byte is scene f clear acc =
    let g = s.geometry in
    let dec = declared g j.text v byte ResetLun is clear in
    let free = or_parts (may_be_open v) false (opener_free g j.text v byte ResetLun is dec.fit refl clear) in
    let fit = or_parts (not (is_wide g.optional)) (not (has_lun_reset g.optional)) dec.fit in
    plain_opener s j k v past c done rest at byte ResetLun is scene f clear (closed_tail g j v.target (now_of j done) c.facts (f.tail refl) free.0, not-false (has_lun_reset g.optional) fit.1) refl refl refl
    (same_either (wants_command c.facts ResetLun && names_lun g (row c.facts) j.lun.lun)) refl acc

-- 31h and 3Fh
page_read : (w : LastCloser) (o : Option Command) → closer_among w o ≡ true → may_be_other w ≡ false → is_page_read o ≡ true
page_read w None h e = cc
page_read w (Some ReadConfirm) h e = refl
page_read w (Some ReadCacheSequential) h e = refl
page_read w (Some _) h e = cc

cache_only : (w : LastCloser) (o : Option Command) → closer_among w o ≡ true → may_be_other w ≡ false → may_be_30 w ≡ false → is_cache_read o ≡ true
cache_only w None h e r = cc
cache_only w (Some ReadConfirm) h e r = cc
cache_only w (Some ReadCacheSequential) h e r = refl
cache_only w (Some _) h e r = cc

only_cache_read : (o : Command) (n : ℕ) → is_place o n ≡ true → closes o ReadCacheSequential ≡ true → o ≡ Read
only_cache_read Read n place h = refl
only_cache_read ChangeReadColumn n place h = cc
only_cache_read BlockErase n place h = cc
only_cache_read ChangeReadColumnEnhanced n place h = cc
only_cache_read _ n place h = cc

leaves_lone : (g : Parts) (v : State) → place_wants ReadCacheSequential v.target.tail ≡ false → command_leaves g v ReadCacheSequential ≡ cache_read (record { 0 = 2 }) (next_cached v.lun.cached) v.lun.array data_shown v
leaves_lone g v unplaced = rw unplaced refl

leaves_row : (g : Parts) (v : State) → place_wants ReadCacheSequential v.target.tail ≡ true → command_leaves g v ReadCacheSequential ≡ cache_read (record { 0 = 2 }) (cached_at v.target.named) (named_plane v.target.named) (shows_after_read g v.target.shows) v
leaves_row g v placed = rw placed refl

-- a 31 that begins a tail leaves nothing open
shut_behind : (t : TailFacts) → wants_command t ReadCacheSequential ≡ false → is_open (facts_after (CommandCycle ReadCacheSequential) t) ≡ false
shut_behind t unwanted = rw unwanted refl

sound_lone_31 : (s : Channel) (j : Job) (k : KnownJob s j) (v : State) (past : List Item) (c : Scene) (done : List Done) (rest : List Line) (at byte : ℕ) → command byte ≡ ReadCacheSequential → IsScene s j.lun past c → Fits s.geometry j v done c true → NoReasons s.geometry j.text v (CommandWord byte) → place_wants ReadCacheSequential v.target.tail ≡ false → accepts s.geometry (bounds_of j.text) None (state_after s.geometry v (CommandWord byte)) rest ≡ true → SoundWord s j past done rest at (CommandWord byte)
sound_lone_31 s j k v past c done rest at byte is scene f clear unplaced acc =
    let g = s.geometry in
    let dec = declared g j.text v byte ReadCacheSequential is clear in
    let free = or_parts (may_be_open v) (opener_refused g v ReadCacheSequential) (opener_free g j.text v byte ReadCacheSequential is dec.fit (rw unplaced refl) clear) in
    let three = or_parts (not (drives v.target.shows) || v.lun.busy || may_be_other v.lun.last) (not (is_at_most (bound_plus v.lun.cached.page.hi 2) g.pages)) free.1 in
    let two = or_parts (not (drives v.target.shows) || v.lun.busy) (may_be_other v.lun.last) three.0 in
    let one = or_parts (not (drives v.target.shows)) v.lun.busy two.0 in
    let shut = closed_tail g j v.target (now_of j done) c.facts (f.tail refl) free.0 in
    let drive = driven v.target.shows c f.shows one.0 in
    let ready = f.lun.ready one.1 in
    let read = page_read v.lun.last c.view.closer f.lun.last two.1 in
    let base = k.cache (not-false _ dec.cache) in
    let most = surely c.view.array_page.page v.lun.cached.page.hi 2 g.pages (f.lun.cached base two.1) (not-false _ three.1) in
    let next : ltb (c.view.array_page.page + 1) g.pages ≡ true = grind (arith, nat_tests, most) in
    let effect : cycle_effect g c.facts (shown_alone c) (CommandCycle ReadCacheSequential) j.lun.lun ≡ CacheReadContinued None = rw (closed_unwanted c.facts shut, drive.0, drive.1) refl in
    let leaves : command_leaves g v ReadCacheSequential ≡ cache_read (record { 0 = 2 }) (next_cached v.lun.cached) v.lun.array data_shown v = leaves_lone g v unplaced in
    command_sound s j k v past c done rest at byte ReadCacheSequential is scene f clear (inl (record { closed = shut; declared = not-false g.cache dec.fit; sole = drive.0; passes = rw (ready, read, f.lun.held two.1, next) refl })) (ap (λ (x : State). x.registers) leaves)
    (subst (λ (x : State). TailFits g j x.target (now_of j done) (facts_after (CommandCycle ReadCacheSequential) c.facts)) (sym leaves)
    (closed_fits g j None None data_shown (now_of j done) _ (shut_behind c.facts (closed_unwanted c.facts shut))))
    (subst (λ (x : State). ShowsFit x.target.shows (scene_behind g j.lun.lun (CommandCycle ReadCacheSequential) c)) (sym leaves)
    (or_left c.sole (not (ltb 1 g.luns)) drive.0, ap (λ (e : Effect). latch_among (record { 0 = 2 }) (view_after e c.view).latch) effect))
    (subst (λ (x : State). LunFits g j x.lun (index_now j.base done) (view_after (cycle_effect g c.facts (shown_alone c) (CommandCycle ReadCacheSequential) j.lun.lun) c.view)) (sym leaves)
    (subst (λ (e : Effect). LunFits g j (cache_read (record { 0 = 2 }) (next_cached v.lun.cached) v.lun.array data_shown v).lun (index_now j.base done) (view_after e c.view)) (sym effect)
    (record { ready = λ e. cc; register = refl; column = record { at = 0; is = refl; below = (in_exactly 0).most; unread = λ e. refl }; queue = f.lun.queue; last = refl; cached = λ e x. below_plus c.view.array_page.page v.lun.cached.page.hi 1 1 (f.lun.cached e two.1) (omega arith); held = λ e. refl; planes = f.lun.array; array = f.lun.array; copies = uncopied_fit g v.lun.array _ _ _; programming = λ e. refl })))
    acc

sound_row_31 : (s : Channel) (j : Job) (k : KnownJob s j) (v : State) (past : List Item) (c : Scene) (done : List Done) (rest : List Line) (at byte : ℕ) → command byte ≡ ReadCacheSequential → IsScene s j.lun past c → Fits s.geometry j v done c true → NoReasons s.geometry j.text v (CommandWord byte) → place_wants ReadCacheSequential v.target.tail ≡ true → accepts s.geometry (bounds_of j.text) None (state_after s.geometry v (CommandWord byte)) rest ≡ true → SoundWord s j past done rest at (CommandWord byte)
sound_row_31 s j k v past c done rest at byte is scene f clear placed acc =
    let g = s.geometry in
    let dec = declared g j.text v byte ReadCacheSequential is clear in
    let want = wanted g j.text v byte ReadCacheSequential is dec.fit (rw placed refl) clear in
    let free = or_parts (not (is_wide g.optional)) (may_be_other v.lun.last) want.not_refused in
    let w = whole g j v.target (now_of j done) c.facts ReadCacheSequential Read only_cache_read refl (f.tail refl) want.places in
    let wants : wants_command c.facts ReadCacheSequential ≡ true = ap (λ (t : TailFacts). wants_command t ReadCacheSequential) w.facts in
    let row_is : row c.facts ≡ row_of w.address.r1 w.address.r2 w.address.r3 = ap row w.facts in
    let names = row_names g j c.facts w.address row_is (w.row refl) in
    let read = and_from _ _ (page_read v.lun.last c.view.closer f.lun.last free.1) (f.lun.held free.1) in
    let effect : cycle_effect g c.facts (shown_alone c) (CommandCycle ReadCacheSequential) j.lun.lun ≡ CacheReadContinued (Some (page_address g (row c.facts))) = rw (wants, names) refl in
    let page_is : (page_address g (row c.facts)).page ≡ w.address.index % g.pages = ap (λ (n : ℕ). (parts_of g n).page) row_is ∙ ap (λ (p : RowParts). p.page) (w.row refl).reads in
    let after : State = cache_read (record { 0 = 2 }) (cached_at v.target.named) (named_plane v.target.named) (shows_after_read g v.target.shows) v in
    let leaves : command_leaves g v ReadCacheSequential ≡ after = leaves_row g v placed in
    command_sound s j k v past c done rest at byte ReadCacheSequential is scene f clear
    (inr (record { wants = wants; names = names; declared = not-false g.cache dec.fit; wide = not-false (is_wide g.optional) free.0; read = read }))
    (ap (λ (x : State). x.registers) leaves)
    (subst (λ (x : State). TailFits g j x.target (now_of j done) (facts_after (CommandCycle ReadCacheSequential) c.facts)) (sym leaves)
    (closed_fits g j None None (shows_after_read g v.target.shows) (now_of j done) _ (ap (λ (t : TailFacts). is_open (facts_after (CommandCycle ReadCacheSequential) t)) w.facts)))
    (subst (λ (x : State). ShowsFit x.target.shows (scene_behind g j.lun.lun (CommandCycle ReadCacheSequential) c)) (sym leaves)
    (read_shown g v.target.shows c (scene_behind g j.lun.lun (CommandCycle ReadCacheSequential) c) refl (ap (λ (e : Effect). (view_after e c.view).latch) effect) f.shows))
    (subst (λ (x : State). LunFits g j x.lun (index_now j.base done) (view_after (cycle_effect g c.facts (shown_alone c) (CommandCycle ReadCacheSequential) j.lun.lun) c.view)) (sym leaves)
    (subst (λ (e : Effect). LunFits g j after.lun (index_now j.base done) (view_after e c.view)) (sym effect)
    (record {
      ready = λ e. cc;
      register = refl;
      column = record { at = 0; is = refl; below = (in_exactly 0).most; unread = λ e. refl };
      queue = f.lun.queue;
      last = refl;
      cached = λ base e. subst (λ (n : ℕ). Below n (cached_at v.target.named).page.hi) (sym page_is) (page_below g j w.address (index_now j.base done) v.target.named (w.named refl) base);
      held = λ e. refl;
      planes = f.lun.array;
      copies = uncopied_fit g v.lun.array _ _ _;
      programming = λ e. refl;
      array = read_array g j (index_now j.base done) v.target.named w.address (page_address g (row c.facts)) (w.named refl) (w.row refl) (page_of_row g j c.facts w.address row_is (w.row refl)).1;
    })))
    acc

pub sound_31 : (s : Channel) (j : Job) (k : KnownJob s j) (v : State) (past : List Item) (c : Scene) (done : List Done) (rest : List Line) (at byte : ℕ) → command byte ≡ ReadCacheSequential → IsScene s j.lun past c → Fits s.geometry j v done c true → NoReasons s.geometry j.text v (CommandWord byte) → accepts s.geometry (bounds_of j.text) None (state_after s.geometry v (CommandWord byte)) rest ≡ true → SoundWord s j past done rest at (CommandWord byte)
sound_31 s j k v past c done rest at byte is scene f clear acc = by_place (place_wants ReadCacheSequential v.target.tail) refl
  where
    by_place : (b : Bool) → place_wants ReadCacheSequential v.target.tail ≡ b → SoundWord s j past done rest at (CommandWord byte)
    by_place true e = sound_row_31 s j k v past c done rest at byte is scene f clear e acc
    by_place false e = sound_lone_31 s j k v past c done rest at byte is scene f clear e acc

pub sound_3f : (s : Channel) (j : Job) (k : KnownJob s j) (v : State) (past : List Item) (c : Scene) (done : List Done) (rest : List Line) (at byte : ℕ) → command byte ≡ ReadCacheEnd → IsScene s j.lun past c → Fits s.geometry j v done c true → NoReasons s.geometry j.text v (CommandWord byte) → accepts s.geometry (bounds_of j.text) None (state_after s.geometry v (CommandWord byte)) rest ≡ true → SoundWord s j past done rest at (CommandWord byte)
sound_3f s j k v past c done rest at byte is scene f clear acc =
    let g = s.geometry in
    let dec = declared g j.text v byte ReadCacheEnd is clear in
    let free = or_parts (may_be_open v) (opener_refused g v ReadCacheEnd) (opener_free g j.text v byte ReadCacheEnd is dec.fit refl clear) in
    let three = or_parts (not (drives v.target.shows) || v.lun.busy || may_be_other v.lun.last) (may_be_30 v.lun.last) free.1 in
    let two = or_parts (not (drives v.target.shows) || v.lun.busy) (may_be_other v.lun.last) three.0 in
    let one = or_parts (not (drives v.target.shows)) v.lun.busy two.0 in
    let shut = closed_tail g j v.target (now_of j done) c.facts (f.tail refl) free.0 in
    let drive = driven v.target.shows c f.shows one.0 in
    let ready = f.lun.ready one.1 in
    let read = cache_only v.lun.last c.view.closer f.lun.last two.1 three.1 in
    let effect : cycle_effect g c.facts (shown_alone c) (CommandCycle ReadCacheEnd) j.lun.lun ≡ CacheReadEnded = rw (drive.0, drive.1) refl in
    command_sound s j k v past c done rest at byte ReadCacheEnd is scene f clear (record { closed = shut; declared = not-false g.cache dec.fit; sole = drive.0; passes = rw (ready, read) refl }) refl
    (closed_fits g j None None data_shown (now_of j done) _ refl)
    (drive.0, ap (λ (e : Effect). latch_among (record { 0 = 2 }) (view_after e c.view).latch) effect)
    (subst (λ (e : Effect). LunFits g j (command_leaves g v ReadCacheEnd).lun (index_now j.base done) (view_after e c.view)) (sym effect)
    (record { ready = λ e. cc; register = refl; column = record { at = 0; is = refl; below = (in_exactly 0).most; unread = λ e. refl }; queue = f.lun.queue; last = refl; cached = λ e x. cc; held = λ e. cc; planes = f.lun.array; array = f.lun.array; copies = uncopied_fit g v.lun.array _ _ _; programming = λ e. refl }))
    acc
