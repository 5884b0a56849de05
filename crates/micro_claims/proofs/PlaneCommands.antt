-- What begins a change of the plane that is read, and what queues a read, are sound.
use Rattle.std.proofs.Common.{◌≡◌, ℕ, true, ◌&&◌, not, List, [], ◌∷◌, None, refl, sym, ap, subst, Bool, false, cond, Option, Some}
use Rattle.std.proofs.lemmas.Bool.{not-false, or_parts}
use Rattle.nand_geometry.specs.Optional.{is_wide, has_enhanced_column, has_plane_reads, has_copyback}
use Rattle.nand_geometry.specs.Row.{row_of}
use Rattle.onfi_cycle.specs.declared.command.Command.{Command}
use Rattle.onfi_cycle.specs.declared.command.Command.TheVariants.{Read, ChangeReadColumn, ChangeReadColumnEnhanced, BlockErase, ReadPlane, CopybackRead}
use Rattle.onfi_cycle.specs.declared.effect.Effect.{Effect}
use Rattle.onfi_cycle.specs.declared.effect.Effect.TheVariants.{ReadQueued, CopybackReadStarted}
use Rattle.onfi_cycle.specs.declared.item.Item.{Item}
use Rattle.onfi_cycle.specs.declared.tail_facts.TailFacts.{TailFacts}
use Rattle.onfi_cycle.specs.declared.target_cycle.TargetCycle.TheVariants.{CommandCycle}
use Rattle.onfi_cycle.specs.Command.{command, closes}
use Rattle.onfi_cycle.specs.Sequence.{facts_after, is_open, wants_command, row}
use Rattle.onfi_cycle.specs.Effect.{page_address, names_lun, cycle_effect}
use Rattle.onfi_cycle.specs.Lun.{view_after}
use Rattle.onfi_cycle.specs.Channel.{Channel}
use Rattle.micro_word.specs.declared.word.Word.TheVariants.{Command as CommandWord}
use Rattle.micro_program.specs.Lines.{Line}
use Rattle.micro_program.specs.Program.{Job, Done, index_now}
use Rattle.micro_claims.specs.State.{State, bounds_of, KnownLun, NamedRow}
use Rattle.micro_claims.specs.Against.{may_be_open}
use Rattle.micro_claims.specs.Leaves.{shows_after_read, read_queued, copy_started, held_by_copy, copies_read, gathers, alike_beside}
use Rattle.micro_claims.specs.Accepts.{state_after, accepts}
use Rattle.micro_program.proofs.Scenes.{Scene, IsScene, shown_alone, scene_behind}
use Rattle.micro_claims.proofs.Fits.{is_place, LunFits, Fits, now_of, count_of}
use Rattle.micro_claims.proofs.HeldPlanes.{no_pages, read_more, read_register, read_array}
use Rattle.micro_claims.proofs.Tails.{closed_fits, whole}
use Rattle.micro_claims.proofs.Sounding.{KnownJob, NoReasons, SoundWord}
use Rattle.micro_claims.proofs.Commands.{command_sound, plain_opener, same_either, opening, wanted, row_names, page_of_row, read_shown, not_caching, read_column_fits}
use Rattle.micro_claims.proofs.MoreCommands.{declared, opener_free}
use Rattle.micro_claims.proofs.CopiedPages.{no_copies_fit, copies_read_fit, first_there}
use Rattle.micro_claims.specs.Planes.{no_planes, either_plane, other_planes, is_one_plane}
use Rattle.micro_claims.specs.Copies.{parity_of, if_even, if_odd, first_copies, more_copies}
use Rattle.nand_geometry.specs.Limits.{planes}

-- 06h
pub sound_06 : (s : Channel) (j : Job) (k : KnownJob s j) (v : State) (past : List Item) (c : Scene) (done : List Done) (rest : List Line) (at byte : ℕ) → command byte ≡ ChangeReadColumnEnhanced → IsScene s j.lun past c → Fits s.geometry j v done c true → NoReasons s.geometry j.text v (CommandWord byte) → accepts s.geometry (bounds_of j.text) None (state_after s.geometry v (CommandWord byte)) rest ≡ true → SoundWord s j past done rest at (CommandWord byte)
sound_06 s j k v past c done rest at byte is scene f clear acc =
    let g = s.geometry in
    let dec = declared g j.text v byte ChangeReadColumnEnhanced is clear in
    let free = or_parts (may_be_open v) v.lun.busy (opener_free g j.text v byte ChangeReadColumnEnhanced is dec.fit refl clear) in
    let fit = or_parts (not (is_wide g.optional)) (not (has_enhanced_column g.optional)) dec.fit in
    let o = opening g j v done c f free.0 free.1 in
    plain_opener s j k v past c done rest at byte ChangeReadColumnEnhanced is scene f clear ((o.closed, o.ready), not-false (has_enhanced_column g.optional) fit.1) refl refl refl
    (same_either (wants_command c.facts ChangeReadColumnEnhanced && names_lun g (row c.facts) j.lun.lun)) refl acc

-- 32h
only_read_plane : (o : Command) (n : ℕ) → is_place o n ≡ true → closes o ReadPlane ≡ true → o ≡ Read
only_read_plane Read n place h = refl
only_read_plane ChangeReadColumn n place h = cc
only_read_plane BlockErase n place h = cc
only_read_plane ChangeReadColumnEnhanced n place h = cc
only_read_plane _ n place h = cc

pub sound_32 : (s : Channel) (j : Job) (k : KnownJob s j) (v : State) (past : List Item) (c : Scene) (done : List Done) (rest : List Line) (at byte : ℕ) → command byte ≡ ReadPlane → IsScene s j.lun past c → Fits s.geometry j v done c true → NoReasons s.geometry j.text v (CommandWord byte) → accepts s.geometry (bounds_of j.text) None (state_after s.geometry v (CommandWord byte)) rest ≡ true → SoundWord s j past done rest at (CommandWord byte)
sound_32 s j k v past c done rest at byte is scene f clear acc =
    let g = s.geometry in
    let dec = declared g j.text v byte ReadPlane is clear in
    let fit = or_parts (not (is_wide g.optional)) (not (has_plane_reads g.optional)) dec.fit in
    let reads = not-false (has_plane_reads g.optional) fit.1 in
    let want = wanted g j.text v byte ReadPlane is dec.fit refl clear in
    let w = whole g j v.target (now_of j done) c.facts ReadPlane Read only_read_plane refl (f.tail refl) want.places in
    let wants : wants_command c.facts ReadPlane ≡ true = ap (λ (t : TailFacts). wants_command t ReadPlane) w.facts in
    let row_is : row c.facts ≡ row_of w.address.r1 w.address.r2 w.address.r3 = ap row w.facts in
    let names = row_names g j c.facts w.address row_is (w.row refl) in
    let page = page_of_row g j c.facts w.address row_is (w.row refl) in
    let effect : cycle_effect g c.facts (shown_alone c) (CommandCycle ReadPlane) j.lun.lun ≡ ReadQueued (page_address g (row c.facts)) = rw (wants, names) refl in
    command_sound s j k v past c done rest at byte ReadPlane is scene f clear ((wants, names), not_caching v.lun.last c.view.closer f.lun.last want.not_refused, reads) refl
    (closed_fits g j None None (shows_after_read g v.target.shows) (now_of j done) _ (ap (λ (t : TailFacts). is_open (facts_after (CommandCycle ReadPlane) t)) w.facts))
    (read_shown g v.target.shows c (scene_behind g j.lun.lun (CommandCycle ReadPlane) c) refl (ap (λ (e : Effect). (view_after e c.view).latch) effect) f.shows)
    (subst (λ (e : Effect). LunFits g j (read_queued g v).lun (index_now j.base done) (view_after e c.view)) (sym effect)
    (record {
      ready = λ e. cc;
      register = tt;
      column = tt;
      queue = read_more g k.limits j (index_now j.base done) v.lun.queue v.target.named w.address (page_address g (row c.facts)) c.view.queue reads (w.named refl) (w.row refl) page.0 page.1 f.lun.queue;
      last = refl;
      cached = λ e x. cc;
      held = λ e. cc;
      planes = no_pages g [];
      array = no_pages g (c.view.array_page ∷ []);
      copies = no_copies_fit g no_planes (index_now j.base done) _;
      programming = λ e. refl;
    }))
    acc

-- 35h
only_copyback : (o : Command) (n : ℕ) → is_place o n ≡ true → closes o CopybackRead ≡ true → o ≡ Read
only_copyback Read n place h = refl
only_copyback ChangeReadColumn n place h = cc
only_copyback BlockErase n place h = cc
only_copyback ChangeReadColumnEnhanced n place h = cc
only_copyback _ n place h = cc

pub sound_35 : (s : Channel) (j : Job) (k : KnownJob s j) (v : State) (past : List Item) (c : Scene) (done : List Done) (rest : List Line) (at byte : ℕ) → command byte ≡ CopybackRead → IsScene s j.lun past c → Fits s.geometry j v done c true → NoReasons s.geometry j.text v (CommandWord byte) → accepts s.geometry (bounds_of j.text) None (state_after s.geometry v (CommandWord byte)) rest ≡ true → SoundWord s j past done rest at (CommandWord byte)
sound_35 s j k v past c done rest at byte is scene f clear acc =
    let g = s.geometry in
    let dec = declared g j.text v byte CopybackRead is clear in
    let fit = or_parts (not (is_wide g.optional)) (not (has_copyback g.optional)) dec.fit in
    let want = wanted g j.text v byte CopybackRead is dec.fit refl clear in
    let w = whole g j v.target (now_of j done) c.facts CopybackRead Read only_copyback refl (f.tail refl) want.places in
    let wants : wants_command c.facts CopybackRead ≡ true = ap (λ (t : TailFacts). wants_command t CopybackRead) w.facts in
    let row_is : row c.facts ≡ row_of w.address.r1 w.address.r2 w.address.r3 = ap row w.facts in
    let names = row_names g j c.facts w.address row_is (w.row refl) in
    let page = page_of_row g j c.facts w.address row_is (w.row refl) in
    let at_row = page_address g (row c.facts) in
    let effect : cycle_effect g c.facts (shown_alone c) (CommandCycle CopybackRead) j.lun.lun ≡ CopybackReadStarted at_row c.facts.column (planes g) = rw (wants, names) refl in
    let copies = copies_read_fit g k.limits j (index_now j.base done) v.lun v.target.named w.address at_row c.view.queue c.view.closer c.view.held (w.named refl) (w.row refl) page.0 page.1 f.lun.queue f.lun.copies in
    command_sound s j k v past c done rest at byte CopybackRead is scene f clear ((wants, names), not_caching v.lun.last c.view.closer f.lun.last want.not_refused, not-false (has_copyback g.optional) fit.1) refl
    (closed_fits g j None None (shows_after_read g v.target.shows) (now_of j done) _ (ap (λ (t : TailFacts). is_open (facts_after (CommandCycle CopybackRead) t)) w.facts))
    (read_shown g v.target.shows c (scene_behind g j.lun.lun (CommandCycle CopybackRead) c) refl (ap (λ (e : Effect). (view_after e c.view).latch) effect) f.shows)
    (subst (λ (e : Effect). LunFits g j (copy_started g v).lun (index_now j.base done) (view_after e c.view)) (sym effect)
    (record {
      ready = λ e. cc;
      register = read_register g (index_now j.base done) v.lun.queue c.view.queue at_row f.lun.queue;
      column = read_column_fits v.target.column c.facts (ap (λ (t : TailFacts). t.inputs) w.facts) (w.column refl);
      queue = refl;
      last = refl;
      cached = λ e x. cc;
      held = λ e. cc;
      planes = first_there g (held_by_copy v.lun v.target.named) (count_of (held_by_copy v.lun v.target.named)) _ (copies.first (copying_is v.lun v.target.named));
      array = read_array g j (index_now j.base done) v.target.named w.address at_row (w.named refl) (w.row refl) page.1;
      copies = copies;
      programming = λ e. refl;
    }))
    acc
  where
    more_copying : (b : Bool) (parity : Option Bool) (n : NamedRow) (l : KnownLun) → (cond b (more_copies parity n.planes l.copies) (first_copies parity (alike_beside n l.queue))).copying ≡ true
    more_copying false parity n l = refl
    more_copying true parity n l = by (is_one_plane n.planes)
      where
        by : (c : Bool) → (cond c (record {
          even = either_plane (if_even parity n.planes) (other_planes n.planes l.copies.even);
          odd = either_plane (if_odd parity n.planes) (other_planes n.planes l.copies.odd);
          copying = true;
          keeps = true;
          holds = true;
        }) (first_copies None n.planes)).copying ≡ true
        by true = refl
        by false = refl

    copying_is : (l : KnownLun) (o : Option NamedRow) → (copies_read s.geometry.pages l o).copying ≡ true
    copying_is l None = refl
    copying_is l (Some n) = more_copying (gathers l) (parity_of s.geometry.pages n.drift) n l
