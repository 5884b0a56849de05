-- Commands are sound: of each, what the claim allows, and what it leaves.
use Rattle.std.proofs.Common.{◌≡◌, ℕ, ◌+◌, ◌*◌, ◌/◌, ◌%◌, ◌^◌, ◌==◌, Bool, true, false, ◌&&◌, ◌||◌, cond, not, ltb, List, [], ◌∷◌, Option, Some, None, refl, sym, ap, ◌∙◌, subst, arith, eq-eqb, inl, inr}
use Rattle.std.proofs.lemmas.Bool.{not-false, not-true, and_parts, or_parts, or_left, or_right}
use Rattle.std.proofs.Math.Bool.{or-true}
use Rattle.nand_geometry.specs.declared.parts.Parts.{Parts}
use Rattle.nand_geometry.specs.declared.row_parts.RowParts.{RowParts}
use Rattle.nand_geometry.specs.Limits.{planes}
use Rattle.nand_geometry.specs.Row.{row_of, parts_of}
use Rattle.onfi_cycle.specs.declared.row_bytes.RowBytes.{RowBytes}
use Rattle.onfi_cycle.specs.declared.command.Command.{Command}
use Rattle.onfi_cycle.specs.declared.command.Command.TheVariants.{Read, ReadConfirm, ChangeReadColumn, ChangeReadColumnEnhanced, ChangeReadColumnConfirm, BlockErase, BlockEraseConfirm, PageProgram, ChangeWriteColumn, ProgramConfirm, ReadCacheSequential}
use Rattle.onfi_cycle.specs.declared.data_phase.DataPhase.TheVariants.{Inputs}
use Rattle.onfi_cycle.specs.declared.item.Item.{Item}
use Rattle.onfi_cycle.specs.declared.item.Kind.TheVariants.{Cmd}
use Rattle.onfi_cycle.specs.declared.latch.Latch.{Latch}
use Rattle.onfi_cycle.specs.declared.latch.Latch.TheVariants.{Off, Status, Data}
use Rattle.onfi_cycle.specs.declared.effect.Effect.{Effect}
use Rattle.onfi_cycle.specs.declared.effect.Effect.TheVariants.{Unaffected, ReadStarted, EraseStarted, ProgramStarted, ReadColumnChanged, PlaneSelected}
use Rattle.onfi_cycle.specs.declared.page_address.PageAddress.{PageAddress}
use Rattle.onfi_cycle.specs.declared.register.Register.{Register}
use Rattle.onfi_cycle.specs.declared.register.Register.TheVariants.{Empty, Page, ParameterPage, Identifier, Identity, JedecIdentity, UniqueId, Features}
use Rattle.onfi_cycle.specs.declared.tail_facts.TailFacts.{TailFacts}
use Rattle.onfi_cycle.specs.declared.target_cycle.TargetCycle.TheVariants.{CommandCycle}
use Rattle.onfi_cycle.specs.LunView.{LunView}
use Rattle.onfi_cycle.specs.Command.{command, is_opener, closes, address_cycles}
use Rattle.onfi_cycle.specs.Sequence.{facts_after, is_open, selects_plane, wants_command, row, takes_data, input_column, begins_anew, is_proper_beginning, opened, takes_features, takes_inputs, wants_column}
use Rattle.onfi_cycle.specs.Effect.{is_off, is_data, names_lun, page_address, plane_of_row, cycle_effect}
use Rattle.onfi_cycle.specs.Lun.{resumed, column_at, view_after, programs, is_cache_read, page_in_plane, register_of_plane}
use Rattle.onfi_cycle.specs.Rules.{may_change_column, is_page_or_parameters}
use Rattle.onfi_cycle.specs.Channel.{Channel}
use Rattle.micro_word.specs.declared.word.Word.TheVariants.{Command as CommandWord}
use Rattle.micro_word.specs.Text.{Microprogram}
use Rattle.micro_program.specs.Lines.{Line}
use Rattle.micro_program.specs.Program.{Job, Done, index_now}
use Rattle.onfi_cycle.proofs.Booleans.{and_rest}
use Rattle.micro_claims.specs.Spans.{Span}
use Rattle.micro_claims.specs.Planes.{Planes, has_plane, no_planes, are_planes_within}
use Rattle.micro_claims.specs.State.{NoRows, other_closer, closed, State, Registers, KnownTarget, KnownLun, NamedRow, Place, Closed, After, InData, InColumn, InFeatures, Shown, Held, bounds_of, Unknown, shows_status, holds_identifier, holds_identity, holds_jedec, holds_feature, LastCloser, may_be_31, no_copies}
use Rattle.micro_claims.specs.Against.{holds_short, is_unfit, may_end_sequence, closer_refused, drives, may_be_open, command_out_of_place, opener_refused, place_wants, selects_plane_at, shows_only_data, has_page_or_parameters, goes_on_at}
use Rattle.micro_claims.specs.Reasons.{breaks_cycle_forbidden}
use Rattle.micro_claims.specs.Leaves.{paid, with_registers, resumed_shows, data_shown, opened_by, work_started, given_at, may_be_reads, page_register, cached_at, shows_after_read, read_started, register_selected, column_changed, command_leaves, held_by_read, with_target}
use Rattle.micro_claims.specs.Accepts.{state_after, accepts}
use Rattle.micro_program.proofs.Scenes.{Scene, IsScene, CommandAllowed, shown_alone, sole_behind, scene_behind}
use Rattle.micro_program.specs.Moves.{Give}
use Rattle.micro_claims.proofs.Fits.{ColumnBegun, closer_among, Address, is_place, RegistersFit, TailFits, ColumnFits, RowIs, NameFits, ShowsFit, HavePages, CopiesFit, LunFits, OutputColumnFits, RegisterFits, Below, latch_among, register_among, Fits, Now, now_of}
use Rattle.micro_claims.proofs.Sets.{has_more}
use Rattle.micro_claims.proofs.HeldPlanes.{no_pages, plane_is, found_page, read_register, read_closer, read_held, read_planes, read_array}
use Rattle.micro_claims.proofs.Tails.{closed_tail, closed_fits, opener_fits, whole_read, whole_erase, whole_column, whole_plane, Programming, programming}
use Rattle.micro_claims.proofs.Sounding.{KnownJob, NoReasons, unmoved, SoundWord, plain_sound}
use Rattle.nand_geometry.specs.Optional.{is_wide, has_copyback}
use Rattle.micro_claims.proofs.CopiedPages.{no_copies_fit, uncopied_fit}

-- 1. what serves all of them

pub out_of_place : (g : Parts) (text : Microprogram) (v : State) (byte : ℕ) (d : Command) → command byte ≡ d → NoReasons g text v (CommandWord byte) → command_out_of_place g v d ≡ false
unfolding breaks_cycle_forbidden
out_of_place g text v byte d is clear = ap (command_out_of_place g v) (sym is) ∙ clear.no_cycle_forbidden

-- a command is sound where its scene allows it, and what it leaves fits
pub command_sound : (s : Channel) (j : Job) (k : KnownJob s j) (v : State) (past : List Item) (c : Scene) (done : List Done) (rest : List Line) (at byte : ℕ) (d : Command) → command byte ≡ d → IsScene s j.lun past c → Fits s.geometry j v done c true → NoReasons s.geometry j.text v (CommandWord byte) → CommandAllowed s.geometry j.lun.lun c d → (command_leaves s.geometry v d).registers ≡ v.registers → TailFits s.geometry j (command_leaves s.geometry v d).target (now_of j done) (facts_after (CommandCycle d) c.facts) → ShowsFit (command_leaves s.geometry v d).target.shows (scene_behind s.geometry j.lun.lun (CommandCycle d) c) → LunFits s.geometry j (command_leaves s.geometry v d).lun (index_now j.base done) (scene_behind s.geometry j.lun.lun (CommandCycle d) c).view → accepts s.geometry (bounds_of j.text) None (state_after s.geometry v (CommandWord byte)) rest ≡ true → SoundWord s j past done rest at (CommandWord byte)
unfolding state_after
command_sound s j k v past c done rest at byte d is scene f clear allowed same tail shows lun acc =
    plain_sound s j k v past c done rest at (CommandWord byte) (Give Cmd byte ∷ []) refl scene f.registers clear refl
    (subst (λ (x : Command). CommandAllowed s.geometry j.lun.lun c x) (sym is) allowed, tt)
    refl
    (λ answer. subst (λ (x : Command). Fits s.geometry j (with_registers (command_leaves s.geometry v x) (paid 1 (command_leaves s.geometry v x).registers)) (record { word = CommandWord byte; answer = answer } ∷ done) (scene_behind s.geometry j.lun.lun (CommandCycle x) c) true) (sym is)
    (record {
      registers = subst (λ (r : Registers). RegistersFit s.geometry j (paid 1 r) (record { word = CommandWord byte; answer = answer } ∷ done)) (sym same) (unmoved s.geometry j v v.registers.place v.registers.polled done (CommandWord byte) answer f.registers clear (record { column = λ n. refl; plane = λ n. refl; index = λ b n. refl }) f.registers.place);
      tail = λ e. tail;
      free = λ e. cc;
      shows = shows;
      lun = lun;
    }))
    acc

-- another latch
relatched : (g : Parts) (j : Job) (v : KnownLun) (i : ℕ) (view : LunView) (x : Latch) → LunFits g j v i view → LunFits g j v i (record view { latch = x })
relatched g j v i view x f = record { ready = f.ready; register = f.register; column = f.column; queue = f.queue; last = f.last; cached = f.cached; held = f.held; planes = f.planes; array = f.array; copies = f.copies; programming = f.programming }

-- what shows is kept with the latch
pub shows_kept : (o : Option Shown) (c d : Scene) → (c.sole ≡ true → d.sole ≡ true) → d.view.latch ≡ c.view.latch → ShowsFit o c → ShowsFit o d
shows_kept None c d sole latch f = tt
shows_kept (Some w) c d sole latch f = (sole f.0, ap (latch_among w) latch ∙ f.1)

pub same_either : (b : Bool) → cond b Unaffected Unaffected ≡ Unaffected
same_either true = refl
same_either false = refl

-- what an opener needs

pub record Opening (v : State) (c : Scene) : Type 0 where
  pub closed : is_open c.facts ≡ false
  pub ready : c.view.busy ≡ false

pub opening : (g : Parts) (j : Job) (v : State) (done : List Done) (c : Scene) → Fits g j v done c true → may_be_open v ≡ false → v.lun.busy ≡ false → Opening v c
opening g j v done c f closed ready = record { closed = closed_tail g j v.target (now_of j done) c.facts (f.tail refl) closed; ready = f.lun.ready ready }

-- 2. openers

-- 00h
resumed_shown : (o : Option Shown) (t : TailFacts) (c : Scene) → ShowsFit o c → ShowsFit (resumed_shows o) (record { facts = t; view = record c.view { latch = resumed c.view.latch }; sole = c.sole })
resumed_shown None t c f = tt
resumed_shown (Some w) t c f = (f.0, lit c.view.latch f.1)
  where
    lit : (x : Latch) → latch_among w x ≡ true → latch_among (record { 0 = 2 }) (resumed x) ≡ true
    lit Off h = cc
    lit Status h = refl
    lit Data h = refl

pub sound_00 : (s : Channel) (j : Job) (k : KnownJob s j) (v : State) (past : List Item) (c : Scene) (done : List Done) (rest : List Line) (at byte : ℕ) → command byte ≡ Read → IsScene s j.lun past c → Fits s.geometry j v done c true → NoReasons s.geometry j.text v (CommandWord byte) → accepts s.geometry (bounds_of j.text) None (state_after s.geometry v (CommandWord byte)) rest ≡ true → SoundWord s j past done rest at (CommandWord byte)
sound_00 s j k v past c done rest at byte is scene f clear acc =
    let free = or_parts (may_be_open v) v.lun.busy (out_of_place s.geometry j.text v byte Read is clear) in
    let o = opening s.geometry j v done c f free.0 free.1 in
    command_sound s j k v past c done rest at byte Read is scene f clear (o.closed, o.ready) refl
    (opener_fits s.geometry j (resumed_shows v.target.shows) (now_of j done) c.facts Read refl refl)
    (resumed_shown v.target.shows (facts_after (CommandCycle Read) c.facts) c f.shows)
    (relatched s.geometry j v.lun (index_now j.base done) c.view (resumed c.view.latch) f.lun)
    acc

-- 60h and 80h
pub plain_opener : (s : Channel) (j : Job) (k : KnownJob s j) (v : State) (past : List Item) (c : Scene) (done : List Done) (rest : List Line) (at byte : ℕ) (d : Command) → command byte ≡ d → IsScene s j.lun past c → Fits s.geometry j v done c true → NoReasons s.geometry j.text v (CommandWord byte) → CommandAllowed s.geometry j.lun.lun c d → command_leaves s.geometry v d ≡ opened_by d v → is_place d 0 ≡ true → begins_anew c.facts (CommandCycle d) ≡ true → (cycle_effect s.geometry c.facts (shown_alone c) (CommandCycle d) j.lun.lun ≡ Unaffected) → (sole_behind s.geometry c (CommandCycle d) ≡ c.sole) → accepts s.geometry (bounds_of j.text) None (state_after s.geometry v (CommandWord byte)) rest ≡ true → SoundWord s j past done rest at (CommandWord byte)
plain_opener s j k v past c done rest at byte d is scene f clear allowed leaves place begins effect sole acc =
    command_sound s j k v past c done rest at byte d is scene f clear allowed (ap (λ (x : State). x.registers) leaves)
    (subst (λ (x : State). TailFits s.geometry j x.target (now_of j done) (facts_after (CommandCycle d) c.facts)) (sym leaves) (opener_fits s.geometry j v.target.shows (now_of j done) c.facts d place begins))
    (subst (λ (x : State). ShowsFit x.target.shows (scene_behind s.geometry j.lun.lun (CommandCycle d) c)) (sym leaves) (shows_kept v.target.shows c (scene_behind s.geometry j.lun.lun (CommandCycle d) c) (λ e. sole ∙ e) (ap (λ (e : Effect). (view_after e c.view).latch) effect) f.shows))
    (subst (λ (x : State). LunFits s.geometry j x.lun (index_now j.base done) (scene_behind s.geometry j.lun.lun (CommandCycle d) c).view) (sym leaves) (subst (λ (e : Effect). LunFits s.geometry j v.lun (index_now j.base done) (view_after e c.view)) (sym effect) f.lun))
    acc

pub sound_60 : (s : Channel) (j : Job) (k : KnownJob s j) (v : State) (past : List Item) (c : Scene) (done : List Done) (rest : List Line) (at byte : ℕ) → command byte ≡ BlockErase → IsScene s j.lun past c → Fits s.geometry j v done c true → NoReasons s.geometry j.text v (CommandWord byte) → accepts s.geometry (bounds_of j.text) None (state_after s.geometry v (CommandWord byte)) rest ≡ true → SoundWord s j past done rest at (CommandWord byte)
sound_60 s j k v past c done rest at byte is scene f clear acc =
    let free = or_parts (may_be_open v) v.lun.busy (out_of_place s.geometry j.text v byte BlockErase is clear) in
    let o = opening s.geometry j v done c f free.0 free.1 in
    plain_opener s j k v past c done rest at byte BlockErase is scene f clear (o.closed, o.ready) refl refl refl (same_either (wants_command c.facts BlockErase && names_lun s.geometry (row c.facts) j.lun.lun)) refl acc

pub sound_80 : (s : Channel) (j : Job) (k : KnownJob s j) (v : State) (past : List Item) (c : Scene) (done : List Done) (rest : List Line) (at byte : ℕ) → command byte ≡ PageProgram → IsScene s j.lun past c → Fits s.geometry j v done c true → NoReasons s.geometry j.text v (CommandWord byte) → accepts s.geometry (bounds_of j.text) None (state_after s.geometry v (CommandWord byte)) rest ≡ true → SoundWord s j past done rest at (CommandWord byte)
sound_80 s j k v past c done rest at byte is scene f clear acc =
    let free = or_parts (may_be_open v) v.lun.busy (out_of_place s.geometry j.text v byte PageProgram is clear) in
    let o = opening s.geometry j v done c f free.0 free.1 in
    plain_opener s j k v past c done rest at byte PageProgram is scene f clear (o.closed, o.ready) refl refl refl (same_either (wants_command c.facts PageProgram && names_lun s.geometry (row c.facts) j.lun.lun)) refl acc

-- 05h
changes : (o : Option Shown) (r : Option Held) (c : Scene) → ShowsFit o c → RegisterFits r c.view.register → c.view.busy ≡ false → shows_only_data o ≡ true → has_page_or_parameters r ≡ true → (c.sole ≡ true) × (may_change_column c.view ≡ true)
changes None r c shows fits ready shown page = cc
changes (Some w) None c shows fits ready shown page = cc
changes (Some w) (Some r) c shows fits ready shown page = (shows.0, rw (is_shown c.view.latch shows.1, ready, is_held c.view.register fits) refl)
  where
    is_shown : (x : Latch) → latch_among w x ≡ true → is_data x ≡ true
    is_shown Off h = cc
    is_shown Status h = let none = not-true (shows_status w) shown in cc
    is_shown Data h = refl

    long : (holds_identifier r ≡ false) × (holds_identity r ≡ false) × (holds_jedec r ≡ false) × (holds_feature r ≡ false)
    long =
        let one = or_parts (holds_identifier r) (holds_identity r || (holds_jedec r || holds_feature r)) (not-true (holds_short r) page) in
        let two = or_parts (holds_identity r) (holds_jedec r || holds_feature r) one.1 in
        let three = or_parts (holds_jedec r) (holds_feature r) two.1 in
        (one.0, two.0, three.0, three.1)

    is_held : (x : Register) → register_among r x ≡ true → is_page_or_parameters x ≡ true
    is_held Empty h = cc
    is_held (Page p) h = refl
    is_held ParameterPage h = refl
    is_held Identifier h = let none = long.0 in cc
    is_held Identity h = let none = long.1 in cc
    is_held JedecIdentity h = let none = long.2 in cc
    is_held UniqueId h = refl
    is_held (Features a) h = let none = long.3 in cc

pub sound_05 : (s : Channel) (j : Job) (k : KnownJob s j) (v : State) (past : List Item) (c : Scene) (done : List Done) (rest : List Line) (at byte : ℕ) → command byte ≡ ChangeReadColumn → IsScene s j.lun past c → Fits s.geometry j v done c true → NoReasons s.geometry j.text v (CommandWord byte) → accepts s.geometry (bounds_of j.text) None (state_after s.geometry v (CommandWord byte)) rest ≡ true → SoundWord s j past done rest at (CommandWord byte)
sound_05 s j k v past c done rest at byte is scene f clear acc =
    let free = or_parts (may_be_open v) (opener_refused s.geometry v ChangeReadColumn) (out_of_place s.geometry j.text v byte ChangeReadColumn is clear) in
    let held = or_parts (not (shows_only_data v.target.shows) || v.lun.busy) (not (has_page_or_parameters v.lun.register)) free.1 in
    let ready = or_parts (not (shows_only_data v.target.shows)) v.lun.busy held.0 in
    let o = opening s.geometry j v done c f free.0 ready.1 in
    let may = changes v.target.shows v.lun.register c f.shows f.lun.register o.ready (not-false _ ready.0) (not-false _ held.1) in
    plain_opener s j k v past c done rest at byte ChangeReadColumn is scene f clear ((o.closed, o.ready), may.0, may.1) refl refl refl (same_either (wants_command c.facts ChangeReadColumn && names_lun s.geometry (row c.facts) j.lun.lun)) refl acc

-- 3. closers

-- the row of the tail is that of the address, and names this LUN
pub row_names : (g : Parts) (j : Job) (t : TailFacts) (a : Address) → row t ≡ row_of a.r1 a.r2 a.r3 → RowIs g j a → names_lun g (row t) j.lun.lun ≡ true
row_names g j t a e r = eq-eqb _ _ (ap (λ (n : ℕ). (parts_of g n).lun) e ∙ ap (λ (p : RowParts). p.lun) r.reads)

pub record Wanted (g : Parts) (v : State) (d : Command) : Type 0 where
  pub places : place_wants d v.target.tail ≡ true
  pub not_refused : closer_refused g v d ≡ false

pub wanted : (g : Parts) (text : Microprogram) (v : State) (byte : ℕ) (d : Command) → command byte ≡ d → is_unfit g d ≡ false → (is_opener d && not (goes_on_at g d v.target.tail)) ≡ false → NoReasons g text v (CommandWord byte) → Wanted g v d
wanted g text v byte d is fit closer clear =
    let free = (not (may_end_sequence g d) && may_be_open v) || opener_refused g v d in
    let all = not (place_wants d v.target.tail) || closer_refused g v d in
    let fitting = subst (λ (b : Bool). cond b false (cond (is_opener d && not (goes_on_at g d v.target.tail)) free all) ≡ false) fit (out_of_place g text v byte d is clear) in
    let closing = subst (λ (b : Bool). cond b free all ≡ false) closer fitting in
    let both = or_parts (not (place_wants d v.target.tail)) (closer_refused g v d) closing in
    record { places = not-false _ both.0; not_refused = both.1 }

-- work that leaves no register, and an empty queue
started_fits : (g : Parts) (j : Job) (v : State) (i : ℕ) (view : LunView) → view.queue ≡ [] → view.held ≡ [] → closer_among other_closer view.closer ≡ true → programs view ≡ false → LunFits g j (work_started NoRows v).lun i view
started_fits g j v i view queue none last program = record { ready = λ e. cc; register = tt; column = tt; queue = queue; last = last; cached = λ e f. cc; held = λ e. cc; planes = no_pages g view.held; array = no_pages g (view.array_page ∷ []); copies = subst (CopiesFit g no_copies no_planes i view.closer) (sym none) (no_copies_fit g no_planes i view.closer); programming = λ e. program }

-- D0h
pub sound_d0 : (s : Channel) (j : Job) (k : KnownJob s j) (v : State) (past : List Item) (c : Scene) (done : List Done) (rest : List Line) (at byte : ℕ) → command byte ≡ BlockEraseConfirm → IsScene s j.lun past c → Fits s.geometry j v done c true → NoReasons s.geometry j.text v (CommandWord byte) → accepts s.geometry (bounds_of j.text) None (state_after s.geometry v (CommandWord byte)) rest ≡ true → SoundWord s j past done rest at (CommandWord byte)
sound_d0 s j k v past c done rest at byte is scene f clear acc =
    let g = s.geometry in
    let w = whole_erase g j v.target (now_of j done) c.facts (f.tail refl) (wanted g j.text v byte BlockEraseConfirm is refl refl clear).places in
    let wants : wants_command c.facts BlockEraseConfirm ≡ true = ap (λ (t : TailFacts). wants_command t BlockEraseConfirm) w.facts in
    let names = row_names g j c.facts w.address (ap row w.facts) (w.row refl) in
    let effect : cycle_effect g c.facts (shown_alone c) (CommandCycle BlockEraseConfirm) j.lun.lun ≡ EraseStarted false (page_address g (row c.facts)) = rw (wants, names) refl in
    command_sound s j k v past c done rest at byte BlockEraseConfirm is scene f clear (wants, names) refl
    (closed_fits g j None None v.target.shows (now_of j done) _ (ap (λ (t : TailFacts). is_open (facts_after (CommandCycle BlockEraseConfirm) t)) w.facts))
    (shows_kept v.target.shows c (scene_behind g j.lun.lun (CommandCycle BlockEraseConfirm) c) (λ e. e) (ap (λ (e : Effect). (view_after e c.view).latch) effect) f.shows)
    (subst (λ (e : Effect). LunFits g j (work_started NoRows v).lun (index_now j.base done) (view_after e c.view)) (sym effect) (started_fits g j v (index_now j.base done) (view_after (EraseStarted false (page_address g (row c.facts))) c.view) refl refl refl refl))
    acc

-- 10h
confirms : (p : Place) → place_wants ProgramConfirm p ≡ true → p ≡ InData
confirms InData h = refl
confirms Closed h = cc
confirms (InColumn n) h = cc
confirms (InFeatures n) h = cc
confirms Unknown h = cc
confirms (After o n) h = let both = and_parts (closes o ProgramConfirm) (n == address_cycles o) h in absurd (none o both.0)
  where
    none : (o : Command) → closes o ProgramConfirm ≡ true → ⊥
    none Read h = cc
    none ChangeReadColumn h = cc
    none ChangeReadColumnEnhanced h = cc
    none BlockErase h = cc
    none _ h = cc

pub program_row : (g : Parts) (j : Job) (v : KnownTarget) (n : Now) (t : TailFacts) (p : Programming g j v n t) → row t ≡ row_of p.address.r1 p.address.r2 p.address.r3
program_row g j v n t p = ap (λ (r : RowBytes). row_of r.r1 r.r2 r.r3) p.program.row

pub sound_10 : (s : Channel) (j : Job) (k : KnownJob s j) (v : State) (past : List Item) (c : Scene) (done : List Done) (rest : List Line) (at byte : ℕ) → command byte ≡ ProgramConfirm → IsScene s j.lun past c → Fits s.geometry j v done c true → NoReasons s.geometry j.text v (CommandWord byte) → accepts s.geometry (bounds_of j.text) None (state_after s.geometry v (CommandWord byte)) rest ≡ true → SoundWord s j past done rest at (CommandWord byte)
sound_10 s j k v past c done rest at byte is scene f clear acc =
    let g = s.geometry in
    let p = programming g j v.target (now_of j done) c.facts (place_wants ProgramConfirm) confirms (f.tail refl) (wanted g j.text v byte ProgramConfirm is refl refl clear).places in
    let wants : wants_command c.facts ProgramConfirm ≡ true = ap takes_data p.program.phase in
    let names = row_names g j c.facts p.address (program_row g j v.target (now_of j done) c.facts p) p.row in
    let effect : cycle_effect g c.facts (shown_alone c) (CommandCycle ProgramConfirm) j.lun.lun ≡ ProgramStarted false (page_address g (row c.facts)) = rw (wants, names) refl in
    command_sound s j k v past c done rest at byte ProgramConfirm is scene f clear (wants, names) refl
    (closed_fits g j None None v.target.shows (now_of j done) _ (rw p.program.begun refl))
    (shows_kept v.target.shows c (scene_behind g j.lun.lun (CommandCycle ProgramConfirm) c) (λ e. e) (ap (λ (e : Effect). (view_after e c.view).latch) effect) f.shows)
    (subst (λ (e : Effect). LunFits g j (work_started NoRows v).lun (index_now j.base done) (view_after e c.view)) (sym effect) (started_fits g j v (index_now j.base done) (view_after (ProgramStarted false (page_address g (row c.facts))) c.view) refl refl refl refl))
    acc

-- 30h
pub read_column_fits : (o : Option Span) (t : TailFacts) → t.inputs ≡ 0 → ColumnFits (input_column t) o → OutputColumnFits (given_at o) (column_at t.column)
read_column_fits None t none h = absurd h
read_column_fits (Some k) t none h =
    record { at = t.column + 0; is = refl; below = subst (λ (n : ℕ). Below (t.column + n) k.hi) none h; unread = λ e. refl }

pub page_below : (g : Parts) (j : Job) (a : Address) (now : ℕ) (o : Option NamedRow) → NameFits g j a now o → j.base % g.pages ≡ 0 → Below (a.index % g.pages) (cached_at o).page.hi
page_below g j a now None h base = tt
page_below g j a now (Some n) h base = h.page base

-- what is shown behind a read
pub read_shown : (g : Parts) (o : Option Shown) (c d : Scene) → d.sole ≡ (c.sole || not (ltb 1 g.luns)) → d.view.latch ≡ Data → ShowsFit o c → ShowsFit (shows_after_read g o) d
read_shown g (Some w) c d sole latch f = (sole ∙ rw f.0 refl, ap (latch_among (record { 0 = 2 })) latch)
read_shown g None c d sole latch f = at (ltb 1 g.luns) refl
  where
    at : (b : Bool) → ltb 1 g.luns ≡ b → ShowsFit (cond b None data_shown) d
    at true e = tt
    at false e = (sole ∙ (ap (λ (b : Bool). c.sole || not b) e ∙ or-true c.sole), ap (latch_among (record { 0 = 2 })) latch)

pub not_caching : (w : LastCloser) (o : Option Command) → closer_among w o ≡ true → may_be_31 w ≡ false → is_cache_read o ≡ false
not_caching w None h e = refl
not_caching w (Some ReadCacheSequential) h e = cc
not_caching w (Some _) h e = refl

-- in the wider profile a 30 comes where no cache read goes on
reads_alone : (wide : Bool) (w : LastCloser) (o : Option Command) → closer_among w o ≡ true → (wide && may_be_31 w) ≡ false → (wide && is_cache_read o) ≡ false
reads_alone true w o h e = not_caching w o h e
reads_alone false w o h e = refl

-- the page of the row of the tail
pub page_of_row : (g : Parts) (j : Job) (t : TailFacts) (a : Address) → row t ≡ row_of a.r1 a.r2 a.r3 → RowIs g j a → ((page_address g (row t)).page ≡ a.index % g.pages) × ((page_address g (row t)).block ≡ a.index / g.pages * planes g + a.plane)
page_of_row g j t a e r =
    (ap (λ (n : ℕ). (parts_of g n).page) e ∙ ap (λ (p : RowParts). p.page) r.reads, ap (λ (n : ℕ). (parts_of g n).block) e ∙ ap (λ (p : RowParts). p.block) r.reads)

pub sound_30 : (s : Channel) (j : Job) (k : KnownJob s j) (v : State) (past : List Item) (c : Scene) (done : List Done) (rest : List Line) (at byte : ℕ) → command byte ≡ ReadConfirm → IsScene s j.lun past c → Fits s.geometry j v done c true → NoReasons s.geometry j.text v (CommandWord byte) → accepts s.geometry (bounds_of j.text) None (state_after s.geometry v (CommandWord byte)) rest ≡ true → SoundWord s j past done rest at (CommandWord byte)
sound_30 s j k v past c done rest at byte is scene f clear acc =
    let g = s.geometry in
    let want = wanted g j.text v byte ReadConfirm is refl refl clear in
    let w = whole_read g j v.target (now_of j done) c.facts (f.tail refl) want.places in
    let wants : wants_command c.facts ReadConfirm ≡ true = ap (λ (t : TailFacts). wants_command t ReadConfirm) w.facts in
    let row_is : row c.facts ≡ row_of w.address.r1 w.address.r2 w.address.r3 = ap row w.facts in
    let names = row_names g j c.facts w.address row_is (w.row refl) in
    let effect : cycle_effect g c.facts (shown_alone c) (CommandCycle ReadConfirm) j.lun.lun ≡ ReadStarted (page_address g (row c.facts)) c.facts.column = rw (wants, names) refl in
    let page = page_of_row g j c.facts w.address row_is (w.row refl) in
    let at_row = page_address g (row c.facts) in
    command_sound s j k v past c done rest at byte ReadConfirm is scene f clear ((wants, names), reads_alone (is_wide g.optional) v.lun.last c.view.closer f.lun.last want.not_refused) refl
    (closed_fits g j None None (shows_after_read g v.target.shows) (now_of j done) _ (ap (λ (t : TailFacts). is_open (facts_after (CommandCycle ReadConfirm) t)) w.facts))
    (read_shown g v.target.shows c (scene_behind g j.lun.lun (CommandCycle ReadConfirm) c) refl (ap (λ (e : Effect). (view_after e c.view).latch) effect) f.shows)
    (subst (λ (e : Effect). LunFits g j (read_started g v).lun (index_now j.base done) (view_after e c.view)) (sym effect)
    (record {
      ready = λ e. cc;
      register = read_register g (index_now j.base done) v.lun.queue c.view.queue at_row f.lun.queue;
      column = read_column_fits v.target.column c.facts (ap (λ (t : TailFacts). t.inputs) w.facts) (w.column refl);
      queue = refl;
      last = read_closer (may_be_reads v.lun.queue);
      cached = λ base e. subst (λ (n : ℕ). Below n (cached_at v.target.named).page.hi) (sym page.0) (page_below g j w.address (index_now j.base done) v.target.named (w.named refl) base);
      held = λ e. read_held g (index_now j.base done) v.lun.queue c.view.queue at_row f.lun.queue e;
      planes = read_planes g k.limits j (index_now j.base done) v.lun.queue c.view.queue v.target.named w.address at_row (w.named refl) (w.row refl) page.1 f.lun.queue;
      array = read_array g j (index_now j.base done) v.target.named w.address at_row (w.named refl) (w.row refl) page.1;
      copies = uncopied_fit g (held_by_read v.lun.queue v.target.named) _ _ _;
      programming = λ e. refl;
    }))
    acc

-- E0h
pub driven : (o : Option Shown) (c : Scene) → ShowsFit o c → not (drives o) ≡ false → (c.sole ≡ true) × (is_off c.view.latch ≡ false)
driven None c f h = cc
driven (Some w) c f h = (f.0, on c.view.latch f.1)
  where
    on : (x : Latch) → latch_among w x ≡ true → is_off x ≡ false
    on Off h = cc
    on Status h = refl
    on Data h = refl

-- behind 05h
pub column_leaves : (v : State) → selects_plane_at v.target.tail ≡ false → column_changed v ≡ record { registers = v.registers; target = closed v.target.shows; lun = record v.lun { column = given_at v.target.column } }
column_leaves v plain = rw plain refl

sound_column_e0 : (s : Channel) (j : Job) (k : KnownJob s j) (v : State) (past : List Item) (c : Scene) (done : List Done) (rest : List Line) (at byte : ℕ) → command byte ≡ ChangeReadColumnConfirm → IsScene s j.lun past c → Fits s.geometry j v done c true → NoReasons s.geometry j.text v (CommandWord byte) → selects_plane_at v.target.tail ≡ false → accepts s.geometry (bounds_of j.text) None (state_after s.geometry v (CommandWord byte)) rest ≡ true → SoundWord s j past done rest at (CommandWord byte)
sound_column_e0 s j k v past c done rest at byte is scene f clear plainly acc =
    let g = s.geometry in
    let want = wanted g j.text v byte ChangeReadColumnConfirm is refl refl clear in
    let w = whole_column g j v.target (now_of j done) c.facts (f.tail refl) (ap not plainly) want.places in
    let one = driven v.target.shows c f.shows (and_rest (not (selects_plane_at v.target.tail)) _ (ap not plainly) want.not_refused) in
    let leaves = column_leaves v plainly in
    let wants : wants_command c.facts ChangeReadColumnConfirm ≡ true = ap (λ (t : TailFacts). wants_command t ChangeReadColumnConfirm) w.facts in
    let plain : selects_plane c.facts ≡ false = ap selects_plane w.facts in
    let effect : cycle_effect g c.facts (shown_alone c) (CommandCycle ChangeReadColumnConfirm) j.lun.lun ≡ ReadColumnChanged c.facts.column = rw (plain, wants, one.0, one.1) refl in
    command_sound s j k v past c done rest at byte ChangeReadColumnConfirm is scene f clear (inl (record { wants = wants; no_plane = plain; sole = one.0 })) (ap (λ (x : State). x.registers) leaves)
    (subst (λ (x : State). TailFits g j x.target (now_of j done) (facts_after (CommandCycle ChangeReadColumnConfirm) c.facts)) (sym leaves)
    (closed_fits g j None None v.target.shows (now_of j done) _ (ap (λ (t : TailFacts). is_open (facts_after (CommandCycle ChangeReadColumnConfirm) t)) w.facts)))
    (subst (λ (x : State). ShowsFit x.target.shows (scene_behind g j.lun.lun (CommandCycle ChangeReadColumnConfirm) c)) (sym leaves)
    (shows_kept v.target.shows c (scene_behind g j.lun.lun (CommandCycle ChangeReadColumnConfirm) c) (λ e. or_right (selects_plane c.facts) c.sole e) (ap (λ (e : Effect). (view_after e c.view).latch) effect) f.shows))
    (subst (λ (x : State). LunFits g j x.lun (index_now j.base done) (view_after (cycle_effect g c.facts (shown_alone c) (CommandCycle ChangeReadColumnConfirm) j.lun.lun) c.view)) (sym leaves)
    (subst (λ (e : Effect). LunFits g j (record v.lun { column = given_at v.target.column }) (index_now j.base done) (view_after e c.view)) (sym effect)
    (record { ready = f.lun.ready; register = f.lun.register; column = read_column_fits v.target.column c.facts (ap (λ (t : TailFacts). t.inputs) w.facts) (w.column refl); queue = f.lun.queue; last = f.lun.last; cached = f.lun.cached; held = f.lun.held; planes = f.lun.planes; array = f.lun.array; copies = f.lun.copies; programming = f.lun.programming })))
    acc

-- behind 06h
plane_leaves : (v : State) → selects_plane_at v.target.tail ≡ true → column_changed v ≡ record { registers = v.registers; target = closed data_shown; lun = record v.lun { register = register_selected v.target.named v.lun.held; column = given_at v.target.column } }
plane_leaves v selects = rw selects refl

-- the register is the page of the plane, where that surely holds one
selected_fits : (g : Parts) (j : Job) (a : Address) (now plane : ℕ) (o : Option NamedRow) (held : Planes) (pages : List PageAddress) → NameFits g j a now o → plane ≡ a.plane → HavePages g held pages → RegisterFits (register_selected o held) (register_of_plane (page_in_plane (planes g) plane pages))
selected_fits g j a now plane None held pages name is f = tt
selected_fits g j a now plane (Some n) held pages name is f = at (are_planes_within n.planes held) refl
  where
    at : (b : Bool) → are_planes_within n.planes held ≡ b → RegisterFits (cond b page_register None) (register_of_plane (page_in_plane (planes g) plane pages))
    at true e = found_page (planes g) plane pages (f plane (subst (λ (m : ℕ). has_plane m held ≡ true) (sym is) (has_more (2 ^ a.plane) n.planes.0 held.0 e name.plane)))
    at false e = tt

sound_plane_e0 : (s : Channel) (j : Job) (k : KnownJob s j) (v : State) (past : List Item) (c : Scene) (done : List Done) (rest : List Line) (at byte : ℕ) → command byte ≡ ChangeReadColumnConfirm → IsScene s j.lun past c → Fits s.geometry j v done c true → NoReasons s.geometry j.text v (CommandWord byte) → selects_plane_at v.target.tail ≡ true → accepts s.geometry (bounds_of j.text) None (state_after s.geometry v (CommandWord byte)) rest ≡ true → SoundWord s j past done rest at (CommandWord byte)
sound_plane_e0 s j k v past c done rest at byte is scene f clear selects acc =
    let g = s.geometry in
    let want = wanted g j.text v byte ChangeReadColumnConfirm is refl refl clear in
    let w = whole_plane g j v.target (now_of j done) c.facts (f.tail refl) selects want.places in
    let leaves = plane_leaves v selects in
    let wants : wants_command c.facts ChangeReadColumnConfirm ≡ true = ap (λ (t : TailFacts). wants_command t ChangeReadColumnConfirm) w.facts in
    let plane : selects_plane c.facts ≡ true = ap selects_plane w.facts in
    let row_is : row c.facts ≡ row_of w.address.r1 w.address.r2 w.address.r3 = ap row w.facts in
    let names = row_names g j c.facts w.address row_is (w.row refl) in
    let page = page_of_row g j c.facts w.address row_is (w.row refl) in
    let lies : plane_of_row g (row c.facts) ≡ w.address.plane = plane_is g (page_address g (row c.facts)).block (w.address.index / g.pages) w.address.plane page.1 (w.row refl).low in
    let effect : cycle_effect g c.facts (shown_alone c) (CommandCycle ChangeReadColumnConfirm) j.lun.lun ≡ PlaneSelected (plane_of_row g (row c.facts)) (planes g) c.facts.column = rw (plane, names) refl in
    command_sound s j k v past c done rest at byte ChangeReadColumnConfirm is scene f clear (inr (record { wants = wants; plane = plane; names = names })) (ap (λ (x : State). x.registers) leaves)
    (subst (λ (x : State). TailFits g j x.target (now_of j done) (facts_after (CommandCycle ChangeReadColumnConfirm) c.facts)) (sym leaves)
    (closed_fits g j None None data_shown (now_of j done) _ (ap (λ (t : TailFacts). is_open (facts_after (CommandCycle ChangeReadColumnConfirm) t)) w.facts)))
    (subst (λ (x : State). ShowsFit x.target.shows (scene_behind g j.lun.lun (CommandCycle ChangeReadColumnConfirm) c)) (sym leaves)
    (or_left (selects_plane c.facts) c.sole plane, ap (λ (e : Effect). latch_among (record { 0 = 2 }) (view_after e c.view).latch) effect))
    (subst (λ (x : State). LunFits g j x.lun (index_now j.base done) (view_after (cycle_effect g c.facts (shown_alone c) (CommandCycle ChangeReadColumnConfirm) j.lun.lun) c.view)) (sym leaves)
    (subst (λ (e : Effect). LunFits g j (record v.lun { register = register_selected v.target.named v.lun.held; column = given_at v.target.column }) (index_now j.base done) (view_after e c.view)) (sym effect)
    (record {
      ready = f.lun.ready;
      register = selected_fits g j w.address (index_now j.base done) (plane_of_row g (row c.facts)) v.target.named v.lun.held c.view.held (w.named refl) lies f.lun.planes;
      column = read_column_fits v.target.column c.facts (ap (λ (t : TailFacts). t.inputs) w.facts) (w.column refl);
      queue = f.lun.queue;
      last = f.lun.last;
      cached = f.lun.cached;
      held = f.lun.held;
      planes = f.lun.planes;
      array = f.lun.array;
      copies = f.lun.copies;
      programming = f.lun.programming;
    })))
    acc

pub sound_e0 : (s : Channel) (j : Job) (k : KnownJob s j) (v : State) (past : List Item) (c : Scene) (done : List Done) (rest : List Line) (at byte : ℕ) → command byte ≡ ChangeReadColumnConfirm → IsScene s j.lun past c → Fits s.geometry j v done c true → NoReasons s.geometry j.text v (CommandWord byte) → accepts s.geometry (bounds_of j.text) None (state_after s.geometry v (CommandWord byte)) rest ≡ true → SoundWord s j past done rest at (CommandWord byte)
sound_e0 s j k v past c done rest at byte is scene f clear acc = by_place (selects_plane_at v.target.tail) refl
  where
    by_place : (b : Bool) → selects_plane_at v.target.tail ≡ b → SoundWord s j past done rest at (CommandWord byte)
    by_place true e = sound_plane_e0 s j k v past c done rest at byte is scene f clear e acc
    by_place false e = sound_column_e0 s j k v past c done rest at byte is scene f clear e acc

-- 85h
changes_column : (p : Place) → place_wants ChangeWriteColumn p ≡ true → p ≡ InData
changes_column InData h = refl
changes_column Closed h = cc
changes_column (InColumn n) h = cc
changes_column (InFeatures n) h = cc
changes_column Unknown h = cc
changes_column (After o n) h = let both = and_parts (closes o ChangeWriteColumn) (n == address_cycles o) h in absurd (none o both.0)
  where
    none : (o : Command) → closes o ChangeWriteColumn ≡ true → ⊥
    none Read h = cc
    none ChangeReadColumn h = cc
    none ChangeReadColumnEnhanced h = cc
    none BlockErase h = cc
    none _ h = cc

behind_85 : (t : TailFacts) (a : Address) → t.phase ≡ Inputs → t.row ≡ record { r1 = a.r1; r2 = a.r2; r3 = a.r3 } → t.is_empty ≡ false → ColumnBegun 0 a (facts_after (CommandCycle ChangeWriteColumn) t)
behind_85 t a phase row begun =
    record { few = omega arith; alone = rw (begun, phase) refl; program = record { phase = rw (begun, phase) refl; row = rw (begun, phase) row; begun = rw (begun, phase) refl }; column = λ e. absurd (omega (arith, e)) }

pub changes_leaves : (g : Parts) (v : State) → place_wants ChangeWriteColumn v.target.tail ≡ true → command_leaves g v ChangeWriteColumn ≡ with_target v (record v.target { tail = InColumn 0 })
changes_leaves g v placed = rw placed refl

copies_leave : (g : Parts) (v : State) → place_wants ChangeWriteColumn v.target.tail ≡ false → command_leaves g v ChangeWriteColumn ≡ opened_by ChangeWriteColumn v
copies_leave g v unplaced = rw unplaced refl

-- in the data of a program
sound_column_85 : (s : Channel) (j : Job) (k : KnownJob s j) (v : State) (past : List Item) (c : Scene) (done : List Done) (rest : List Line) (at byte : ℕ) → command byte ≡ ChangeWriteColumn → IsScene s j.lun past c → Fits s.geometry j v done c true → NoReasons s.geometry j.text v (CommandWord byte) → place_wants ChangeWriteColumn v.target.tail ≡ true → accepts s.geometry (bounds_of j.text) None (state_after s.geometry v (CommandWord byte)) rest ≡ true → SoundWord s j past done rest at (CommandWord byte)
sound_column_85 s j k v past c done rest at byte is scene f clear placed acc =
    let g = s.geometry in
    let p = programming g j v.target (now_of j done) c.facts (place_wants ChangeWriteColumn) changes_column (f.tail refl) placed in
    let leaves : command_leaves g v ChangeWriteColumn ≡ with_target v (record v.target { tail = InColumn 0 }) = changes_leaves g v placed in
    let wants : wants_command c.facts ChangeWriteColumn ≡ true = ap takes_data p.program.phase in
    let effect : cycle_effect g c.facts (shown_alone c) (CommandCycle ChangeWriteColumn) j.lun.lun ≡ Unaffected = same_either (wants_command c.facts ChangeWriteColumn && names_lun g (row c.facts) j.lun.lun) in
    command_sound s j k v past c done rest at byte ChangeWriteColumn is scene f clear (inl wants) (ap (λ (x : State). x.registers) leaves)
    (subst (λ (x : State). TailFits g j x.target (now_of j done) (facts_after (CommandCycle ChangeWriteColumn) c.facts)) (sym leaves)
    (record {
      place = InColumn 0;
      here = refl;
      address = p.address;
      is = behind_85 c.facts p.address p.program.phase p.program.row p.program.begun;
      now = λ e. cc;
      column = λ e. cc;
      row = λ e. p.row;
      named = λ e. p.named;
      single = λ e. cc;
    }))
    (subst (λ (x : State). ShowsFit x.target.shows (scene_behind g j.lun.lun (CommandCycle ChangeWriteColumn) c)) (sym leaves)
    (shows_kept v.target.shows c (scene_behind g j.lun.lun (CommandCycle ChangeWriteColumn) c) (λ e. e) (ap (λ (e : Effect). (view_after e c.view).latch) effect) f.shows))
    (subst (λ (x : State). LunFits g j x.lun (index_now j.base done) (view_after (cycle_effect g c.facts (shown_alone c) (CommandCycle ChangeWriteColumn) j.lun.lun) c.view)) (sym leaves)
    (subst (λ (e : Effect). LunFits g j v.lun (index_now j.base done) (view_after e c.view)) (sym effect) f.lun))
    acc

-- where nothing is open it begins a sequence
copy_begins : (t : TailFacts) → is_open t ≡ false → begins_anew t (CommandCycle ChangeWriteColumn) ≡ true
copy_begins t closed = ap not (or_parts (takes_data t.phase) (takes_features t.phase) (or_parts (opened is_proper_beginning t.opening) (takes_inputs t.phase) (or_parts (opened is_proper_beginning t.opening || takes_inputs t.phase) (wants_column t.phase) closed).0).1).0

-- where it begins a copy: a chip that declares none refuses it
copies_there : (g : Parts) (v : State) → place_wants ChangeWriteColumn v.target.tail ≡ false → command_out_of_place g v ChangeWriteColumn ≡ false → (has_copyback g.optional ≡ true) × ((may_be_open v || v.lun.busy) ≡ false)
copies_there g v unplaced h = at (has_copyback g.optional) refl (subst (λ (b : Bool). cond (not (b || not (has_copyback g.optional))) (may_be_open v || v.lun.busy) (not b || false) ≡ false) unplaced h)
  where
    at : (b : Bool) → has_copyback g.optional ≡ b → cond (not (false || not b)) (may_be_open v || v.lun.busy) (not false || false) ≡ false → (has_copyback g.optional ≡ true) × ((may_be_open v || v.lun.busy) ≡ false)
    at true e h = (e, h)
    at false e h = cc

sound_copy_85 : (s : Channel) (j : Job) (k : KnownJob s j) (v : State) (past : List Item) (c : Scene) (done : List Done) (rest : List Line) (at byte : ℕ) → command byte ≡ ChangeWriteColumn → IsScene s j.lun past c → Fits s.geometry j v done c true → NoReasons s.geometry j.text v (CommandWord byte) → place_wants ChangeWriteColumn v.target.tail ≡ false → accepts s.geometry (bounds_of j.text) None (state_after s.geometry v (CommandWord byte)) rest ≡ true → SoundWord s j past done rest at (CommandWord byte)
sound_copy_85 s j k v past c done rest at byte is scene f clear unplaced acc =
    let g = s.geometry in
    let may = copies_there g v unplaced (out_of_place g j.text v byte ChangeWriteColumn is clear) in
    let free = or_parts (may_be_open v) v.lun.busy may.1 in
    let o = opening g j v done c f free.0 free.1 in
    plain_opener s j k v past c done rest at byte ChangeWriteColumn is scene f clear (inr ((o.closed, o.ready), may.0)) (copies_leave g v unplaced) refl (copy_begins c.facts o.closed)
    (same_either (wants_command c.facts ChangeWriteColumn && names_lun g (row c.facts) j.lun.lun)) refl acc

pub sound_85 : (s : Channel) (j : Job) (k : KnownJob s j) (v : State) (past : List Item) (c : Scene) (done : List Done) (rest : List Line) (at byte : ℕ) → command byte ≡ ChangeWriteColumn → IsScene s j.lun past c → Fits s.geometry j v done c true → NoReasons s.geometry j.text v (CommandWord byte) → accepts s.geometry (bounds_of j.text) None (state_after s.geometry v (CommandWord byte)) rest ≡ true → SoundWord s j past done rest at (CommandWord byte)
sound_85 s j k v past c done rest at byte is scene f clear acc = by_place (place_wants ChangeWriteColumn v.target.tail) refl
  where
    by_place : (b : Bool) → place_wants ChangeWriteColumn v.target.tail ≡ b → SoundWord s j past done rest at (CommandWord byte)
    by_place true e = sound_column_85 s j k v past c done rest at byte is scene f clear e acc
    by_place false e = sound_copy_85 s j k v past c done rest at byte is scene f clear e acc
