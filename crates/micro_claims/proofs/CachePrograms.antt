-- A 15, behind which the next page may come while the array programs, is sound.
use Rattle.std.proofs.Common.{◌≡◌, ℕ, ◌==◌, Bool, true, false, ◌&&◌, ◌||◌, not, List, [], ◌∷◌, None, refl, sym, ap, ◌∙◌, subst}
use Rattle.std.proofs.lemmas.Bool.{not-false, and_parts, or_parts}
use Rattle.nand_geometry.specs.declared.parts.Parts.{Parts}
use Rattle.nand_geometry.specs.Optional.{is_wide, has_copyback, has_program_cache, has_group_cache}
use Rattle.onfi_cycle.specs.declared.command.Command.{Command}
use Rattle.onfi_cycle.specs.declared.command.Command.TheVariants.{Read, ChangeReadColumn, ChangeReadColumnEnhanced, BlockErase, ProgramCache}
use Rattle.onfi_cycle.specs.declared.item.Item.{Item}
use Rattle.onfi_cycle.specs.declared.effect.Effect.{Effect}
use Rattle.onfi_cycle.specs.declared.effect.Effect.TheVariants.{CacheProgramStarted}
use Rattle.onfi_cycle.specs.declared.page_address.PageAddress.{PageAddress}
use Rattle.onfi_cycle.specs.declared.target_cycle.TargetCycle.TheVariants.{CommandCycle}
use Rattle.onfi_cycle.specs.Command.{command, closes, address_cycles}
use Rattle.onfi_cycle.specs.Sequence.{wants_command, row, takes_data}
use Rattle.onfi_cycle.specs.Effect.{page_address, cycle_effect}
use Rattle.onfi_cycle.specs.Lun.{view_after}
use Rattle.onfi_cycle.specs.Rules.{has_some, holds_none}
use Rattle.onfi_cycle.specs.LunView.{LunView}
use Rattle.onfi_cycle.specs.Channel.{Channel}
use Rattle.micro_word.specs.declared.word.Word.TheVariants.{Command as CommandWord}
use Rattle.micro_program.specs.Lines.{Line}
use Rattle.micro_program.specs.Program.{Job, Done, index_now}
use Rattle.micro_claims.specs.Planes.{no_planes}
use Rattle.micro_claims.specs.State.{State, Place, Closed, After, InData, InColumn, InFeatures, Unknown, bounds_of}
use Rattle.micro_claims.specs.Against.{may_be_queued, place_wants}
use Rattle.micro_claims.specs.Leaves.{cache_programmed}
use Rattle.micro_claims.specs.Accepts.{state_after, accepts}
use Rattle.micro_program.proofs.Scenes.{Scene, IsScene, shown_alone, scene_behind}
use Rattle.micro_claims.proofs.Fits.{LunFits, Fits, now_of}
use Rattle.micro_claims.proofs.HeldPlanes.{no_pages, none_queued}
use Rattle.micro_claims.proofs.Tails.{closed_fits, programming}
use Rattle.micro_claims.proofs.Sounding.{KnownJob, NoReasons, SoundWord}
use Rattle.micro_claims.proofs.Commands.{command_sound, shows_kept, wanted, row_names, program_row}
use Rattle.micro_claims.proofs.MoreCommands.{declared}
use Rattle.micro_claims.proofs.CopiedPages.{no_copies_fit}

caches : (p : Place) → place_wants ProgramCache p ≡ true → p ≡ InData
caches InData h = refl
caches Closed h = cc
caches (InColumn n) h = cc
caches (InFeatures n) h = cc
caches Unknown h = cc
caches (After o n) h = let both = and_parts (closes o ProgramCache) (n == address_cycles o) h in absurd (none o both.0)
  where
    none : (o : Command) → closes o ProgramCache ≡ true → ⊥
    none Read h = cc
    none ChangeReadColumn h = cc
    none ChangeReadColumnEnhanced h = cc
    none BlockErase h = cc
    none _ h = cc

-- nothing is queued, where the chip doesn't cache programs of several planes
no_group : (g : Parts) (j : Job) (v : State) (i : ℕ) (view : LunView) → LunFits g j v.lun i view → (groups : Bool) → (not groups && may_be_queued v.lun.queue) ≡ false → (not groups && has_some view.queue) ≡ false
no_group g j v i view f true h = refl
no_group g j v i view f false h = none_queued g i v.lun.queue view.queue h f.queue

-- no page is held, where there are copies
no_copy : (g : Parts) (j : Job) (v : State) (i : ℕ) (view : LunView) → LunFits g j v.lun i view → (copyback : Bool) → (copyback && v.lun.copies.holds) ≡ false → (copyback && not (holds_none view.held)) ≡ false
no_copy g j v i view f true h = ap (λ (pages : List PageAddress). not (holds_none pages)) (f.copies.holds h)
no_copy g j v i view f false h = refl

pub sound_15 : (s : Channel) (j : Job) (k : KnownJob s j) (v : State) (past : List Item) (c : Scene) (done : List Done) (rest : List Line) (at byte : ℕ) → command byte ≡ ProgramCache → IsScene s j.lun past c → Fits s.geometry j v done c true → NoReasons s.geometry j.text v (CommandWord byte) → accepts s.geometry (bounds_of j.text) None (state_after s.geometry v (CommandWord byte)) rest ≡ true → SoundWord s j past done rest at (CommandWord byte)
sound_15 s j k v past c done rest at byte is scene f clear acc =
    let g = s.geometry in
    let i = index_now j.base done in
    let dec = declared g j.text v byte ProgramCache is clear in
    let fit = or_parts (not (is_wide g.optional)) (not (has_program_cache g.optional)) dec.fit in
    let want = wanted g j.text v byte ProgramCache is dec.fit refl clear in
    let free = or_parts (not (has_group_cache g.optional) && may_be_queued v.lun.queue) (has_copyback g.optional && v.lun.copies.holds) want.not_refused in
    let p = programming g j v.target (now_of j done) c.facts (place_wants ProgramCache) caches (f.tail refl) want.places in
    let wants : wants_command c.facts ProgramCache ≡ true = ap takes_data p.program.phase in
    let names = row_names g j c.facts p.address (program_row g j v.target (now_of j done) c.facts p) p.row in
    let effect : cycle_effect g c.facts (shown_alone c) (CommandCycle ProgramCache) j.lun.lun ≡ CacheProgramStarted (page_address g (row c.facts)) = rw (wants, names) refl in
    command_sound s j k v past c done rest at byte ProgramCache is scene f clear
    (record {
      wants = wants;
      names = names;
      declared = not-false (has_program_cache g.optional) fit.1;
      no_group = no_group g j v i c.view f.lun (has_group_cache g.optional) free.0;
      no_copy = no_copy g j v i c.view f.lun (has_copyback g.optional) free.1;
    })
    refl
    (closed_fits g j None None v.target.shows (now_of j done) _ (rw p.program.begun refl))
    (shows_kept v.target.shows c (scene_behind g j.lun.lun (CommandCycle ProgramCache) c) (λ e. e) (ap (λ (e : Effect). (view_after e c.view).latch) effect) f.shows)
    (subst (λ (e : Effect). LunFits g j (cache_programmed v).lun i (view_after e c.view)) (sym effect)
    (record {
      ready = λ e. cc;
      register = tt;
      column = tt;
      queue = refl;
      last = refl;
      cached = λ e x. cc;
      held = λ e. cc;
      planes = no_pages g [];
      array = no_pages g (c.view.array_page ∷ []);
      copies = no_copies_fit g no_planes i _;
      programming = λ e. cc;
    }))
    acc
