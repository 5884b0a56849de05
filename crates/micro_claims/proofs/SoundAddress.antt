-- An address word is sound.
use Rattle.std.specs.List.{list_any}
use Rattle.std.proofs.Common.{◌≡◌, ℕ, zero, suc, ◌+◌, ◌-◌, ◌*◌, ◌/◌, ◌%◌, ◌^◌, ◌≤◌, ◌<◌, ◌==◌, Bool, true, false, ◌&&◌, ◌||◌, cond, not, ltb, nat_le, List, [], ◌∷◌, Option, Some, None, refl, sym, ap, ◌∙◌, subst, arith, eq-eqb, eqb-true, take, drop}
use Rattle.std.proofs.lemmas.Bool.Decides.{nat_tests}
use Rattle.std.proofs.lemmas.Nat.{div-mul-add, mod-mul-add}
use Rattle.std.proofs.lemmas.Bool.{not-false, or_from, or_left, or_right, and_from, or_parts}
use Rattle.onfi_cycle.proofs.Booleans.{and_rest}
use Rattle.nand_geometry.specs.declared.parts.Parts.{Parts}
use Rattle.nand_geometry.specs.declared.row_parts.RowParts.{RowParts}
use Rattle.nand_geometry.specs.Optional.{is_wide, has_plane_reads, has_free_blocks, has_copyback, has_odd_even}
use Rattle.nand_geometry.specs.Limits.{InLimits, planes, page_len}
use Rattle.nand_geometry.specs.Row.{row_of, row_bytes_of}
use Rattle.onfi_cycle.specs.declared.command.Command.{Command}
use Rattle.onfi_cycle.specs.declared.command.Command.TheVariants.{Read, ChangeReadColumn, ChangeReadColumnEnhanced, BlockErase, PageProgram, ChangeWriteColumn, ReadId, ReadParameterPage, ReadUniqueId, GetFeatures, SetFeatures, ResetLun}
use Rattle.onfi_cycle.specs.declared.data_phase.DataPhase.TheVariants.{Inputs, FirstColumn}
use Rattle.onfi_cycle.specs.declared.item.Item.{Item}
use Rattle.onfi_cycle.specs.declared.queued.Queued.{Queued}
use Rattle.onfi_cycle.specs.declared.queued.Queued.TheVariants.{Erase, Program, Read as QueuedRead}
use Rattle.onfi_cycle.specs.declared.page_address.PageAddress.{PageAddress}
use Rattle.onfi_cycle.specs.declared.register.Register.{Register}
use Rattle.onfi_cycle.specs.declared.register.Register.TheVariants.{Empty, Page, ParameterPage, Identifier, Identity, JedecIdentity, UniqueId, Features}
use Rattle.onfi_cycle.specs.declared.item.Kind.TheVariants.{Adr}
use Rattle.onfi_cycle.specs.declared.tail_facts.TailFacts.{TailFacts}
use Rattle.onfi_cycle.specs.declared.target_cycle.TargetCycle.TheVariants.{AddressCycle}
use Rattle.onfi_cycle.specs.LunView.{LunView}
use Rattle.onfi_cycle.specs.Command.{at_last_row, addresses_the_array, is_change_read_column, reads_identity}
use Rattle.onfi_cycle.specs.Sequence.{opened, facts_after, column_with, input_column}
use Rattle.onfi_cycle.specs.Effect.{page_address}
use Rattle.onfi_cycle.specs.declared.effect.Effect.TheVariants.{ProgramAddressed}
use Rattle.onfi_cycle.specs.Lun.{is_queued_read, page_in_plane, view_after}
use Rattle.onfi_cycle.specs.Rules.{planes_clash, queued_clashes, some_queued_clashes, read_clashes, some_read_clashes, has_some, holds_plane_of, holds_none, is_copying, may_copy, may_copy_to, keeps_copy, ends_row, second_of_page, second_column, refused_by, register_len, excludes_cache, excludes_program}
use Rattle.onfi_cycle.specs.Channel.{Channel}
use Rattle.micro_claims.specs.Spans.{bound_plus, is_at_most, copied}
use Rattle.micro_claims.specs.Planes.{Planes, has_plane, share_a_plane, are_planes_within}
use Rattle.micro_claims.proofs.Sets.{has_more}
use Rattle.micro_claims.proofs.HeldPlanes.{no_pages, plane_is, none_queued}
use Rattle.micro_claims.proofs.HeldLists.{found}
use Rattle.micro_claims.proofs.CopiedPages.{cleared_fit}
use Rattle.micro_claims.proofs.PlaneSets.{none_common}
use Rattle.micro_claims.specs.State.{Drift, NamedRow, Shown, Held, State, KnownLun, Place, Closed, After, InData, InColumn, InFeatures, QueuedRows, NoRows, SomeRows, SomeReads, AnyRows, bounds_of, Unknown, may_be_31}
use Rattle.micro_claims.specs.Against.{may_be_queued, plane_refused, copied_planes, copy_refused, is_read, is_erase, same_test, drives, least_length, takes_identity_at, address_out_of_place, begins_elsewhere, column_past, queue_refuses, row_refused, has_second_column, column_limit, is_inside_address}
use Rattle.micro_claims.specs.Reasons.{breaks_cycle_forbidden, breaks_address_unaligned, breaks_row_or_plane_outside, breaks_column_too_large}
use Rattle.micro_claims.specs.Leaves.{paid, with_registers, without_pages, address_leads_to, target_after_addresses, name_now, address_leaves_at, after_few, column_leads_to}
use Rattle.micro_claims.specs.Accepts.{state_after, accepts}
use Rattle.micro_program.specs.Program.{Job, Done, column_now, plane_now, index_now}
use Rattle.micro_program.specs.Lines.{Line}
use Rattle.micro_program.specs.Moves.{gives, and_then}
use Rattle.micro_word.specs.declared.word.Word.TheVariants.{Address as AddressWord}
use Rattle.micro_program.proofs.Scenes.{Scene, IsScene, AddressAllowed, scene_behind}
use Rattle.micro_program.proofs.SceneMoves.{MovesAllowed}
use Rattle.micro_claims.proofs.Fits.{holds_address, is_of_kind, page_of, RowFits, AllFit, ColumnBegun, Fits, RegisterFits, Below, RegistersFit, Address, all_bytes, bytes_of, opener_facts, facts_behind, InProgram, Opened, PlaceIs, has_column, has_row, now_of, IsNow, ColumnFits, NameFits, RowIs, TailFits, ShowsFit, RowsFit, page_number, number_parity, LunFits}
use Rattle.micro_claims.proofs.Numbers.{surely}
use Rattle.micro_claims.proofs.Commands.{shows_kept, not_caching}
use Rattle.micro_claims.proofs.Tails.{no_place}
use Rattle.micro_claims.proofs.Words.{least_register}
use Rattle.micro_claims.proofs.Sounding.{KnownJob, NoReasons, unmoved, SoundWord, plain_sound}
use Rattle.micro_claims.proofs.AddressSteps.{Steps, many, carried, RowGoes, scene_at, addressed_view, program_scene, read_steps, enhanced_steps, program_steps, copy_steps, erase_steps, column_steps, never}
use Rattle.micro_claims.proofs.Addressing.{PlaceClear, place_clear, address_now, address_bytes, AddressNow, of_now, same_facts, same_bytes, carried_is}
use Rattle.micro_claims.proofs.NamesNow.{named_now}

-- 1. the last row cycle

none_refuses : (g : Parts) (o : Command) (p : PageAddress) (queue : List Queued) → queue ≡ [] → refused_by g o p queue ≡ false
none_refuses g Read p queue e = rw e refl
none_refuses g BlockErase p queue e = rw e refl
none_refuses g PageProgram p queue e = rw e refl
none_refuses g ChangeWriteColumn p queue e = rw e refl
none_refuses g _ p queue e = refl

-- numbers of two parts
part_of : (a w b : ℕ) → b < w → ((a * w + b) % w ≡ b) × ((a * w + b) / w ≡ a)
part_of a w b h = (mod-mul-add a w b h, div-mul-add a w b h)

-- rows of one index and of different planes go together
no_clash : (g : Parts) (p q : PageAddress) (index plane other : ℕ) → plane < planes g → other < planes g → (plane == other) ≡ false → p.page ≡ index % g.pages → p.block ≡ index / g.pages * planes g + plane → q.page ≡ index % g.pages → q.block ≡ index / g.pages * planes g + other → planes_clash g p q ≡ false
no_clash g p q index plane other low high apart pp pb qp qb =
    let a = part_of (index / g.pages) (planes g) plane low in
    let b = part_of (index / g.pages) (planes g) other high in
    let planes_are : (p.block % planes g == q.block % planes g) ≡ false = (λ i. (pb i % planes g) == (qb i % planes g)) ∙ ((λ i. a.0 i == b.0 i) ∙ apart) in
    let pages_are : (p.page == q.page) ≡ true = (λ i. pp i == qp i) ∙ eq-eqb _ _ refl in
    let blocks_are : (p.block / planes g == q.block / planes g) ≡ true = (λ i. (pb i / planes g) == (qb i / planes g)) ∙ ((λ i. a.1 i == b.1 i) ∙ eq-eqb _ _ refl) in
    rw (planes_are, pages_are) (ap (λ (b : Bool). not (has_free_blocks g.optional) && not b) blocks_are ∙ none (not (has_free_blocks g.optional)))
  where
    none : (b : Bool) → (b && false) ≡ false
    none true = refl
    none false = refl

-- of one kind
kind_goes : (g : Parts) (e : Bool) (p : PageAddress) (q : Queued) → is_of_kind e q ≡ true → planes_clash g p (page_of q) ≡ false → queued_clashes g e p q ≡ false
kind_goes g true p (Erase q) kind clear = clear
kind_goes g false p (Erase q) kind clear = cc
kind_goes g true p (Program q) kind clear = cc
kind_goes g false p (Program q) kind clear = clear
kind_goes g e p (QueuedRead q) kind clear = cc

-- a row goes together with one of a queue, of another plane
row_clear : (g : Parts) (now : ℕ) (kind : Queued → Bool) (queued : Planes) (d : Drift) (p : PageAddress) (plane : ℕ) (regs : Planes) (q : Queued) → RowFits g now kind queued d q → d.ahead ≡ d.behind → plane < planes g → has_plane plane regs ≡ true → share_a_plane regs queued ≡ false → p.page ≡ now % g.pages → p.block ≡ now / g.pages * planes g + plane → planes_clash g p (page_of q) ≡ false
row_clear g now kind queued d p plane regs q f same low among apart page block =
    no_clash g p (page_of q) now plane f.plane low f.low (none_common regs queued plane f.plane apart among f.among) page block (f.page ∙ ap (λ (n : ℕ). n % g.pages) (sym index_is)) (f.block ∙ ap (λ (n : ℕ). n / g.pages * planes g + f.plane) (sym index_is))
  where
    index_is : now ≡ f.index
    index_is = let e = f.drift in omega (arith, e, same)

-- a row that goes together with each of a queue
none_clashes : (g : Parts) (now : ℕ) (erase : Bool) (queued : Planes) (d : Drift) (p : PageAddress) (plane : ℕ) (regs : Planes) (qs : List Queued) → AllFit (RowFits g now (is_of_kind erase) queued d) qs → d.ahead ≡ d.behind → plane < planes g → has_plane plane regs ≡ true → share_a_plane regs queued ≡ false → p.page ≡ now % g.pages → p.block ≡ now / g.pages * planes g + plane → some_queued_clashes g erase p qs ≡ false
none_clashes g now erase queued d p plane regs [] f same low among apart page block = refl
none_clashes g now erase queued d p plane regs (q ∷ qs) f same low among apart page block =
    or_from (queued_clashes g erase p q) (some_queued_clashes g erase p qs) (kind_goes g erase p q f.0.kind (row_clear g now (is_of_kind erase) queued d p plane regs q f.0 same low among apart page block)) (none_clashes g now erase queued d p plane regs qs f.1 same low among apart page block)

-- the same of a read
read_goes : (g : Parts) (p : PageAddress) (q : Queued) → has_plane_reads g.optional ≡ true → is_queued_read q ≡ true → planes_clash g p (page_of q) ≡ false → read_clashes g p q ≡ false
read_goes g p (Erase q) declared kind clear = cc
read_goes g p (Program q) declared kind clear = cc
read_goes g p (QueuedRead q) declared kind clear = rw declared clear

none_read_clashes : (g : Parts) (now : ℕ) (queued : Planes) (d : Drift) (p : PageAddress) (plane : ℕ) (regs : Planes) (qs : List Queued) → has_plane_reads g.optional ≡ true → AllFit (RowFits g now is_queued_read queued d) qs → d.ahead ≡ d.behind → plane < planes g → has_plane plane regs ≡ true → share_a_plane regs queued ≡ false → p.page ≡ now % g.pages → p.block ≡ now / g.pages * planes g + plane → some_read_clashes g p qs ≡ false
none_read_clashes g now queued d p plane regs [] declared f same low among apart page block = refl
none_read_clashes g now queued d p plane regs (q ∷ qs) declared f same low among apart page block =
    or_from (read_clashes g p q) (some_read_clashes g p qs) (read_goes g p q declared f.0.kind (row_clear g now is_queued_read queued d p plane regs q f.0 same low among apart page block)) (none_read_clashes g now queued d p plane regs qs declared f.1 same low among apart page block)

-- the queue of the claim goes together with the row of the registers
queue_goes : (g : Parts) (now : ℕ) (q : QueuedRows) (queue : List Queued) (regs : Planes) (o : Command) (p : PageAddress) (plane : ℕ) → RowsFit g now q queue → queue_refuses q regs o ≡ false → plane < planes g → has_plane plane regs ≡ true → p.page ≡ now % g.pages → p.block ≡ now / g.pages * planes g + plane → refused_by g o p queue ≡ false
queue_goes g now NoRows queue regs o p plane f clear low among page block = none_refuses g o p queue f
queue_goes g now AnyRows queue regs o p plane f clear low among page block = cc
queue_goes g now (SomeReads queued surely d) queue regs o p plane f clear low among page block =
    let two = or_parts (not (is_read o) || not (d.ahead == d.behind)) (share_a_plane regs queued) clear in
    let one = or_parts (not (is_read o)) (not (d.ahead == d.behind)) two.0 in
    reads_go o (not-false (is_read o) one.0) (none_read_clashes g now queued d p plane regs queue f.declared f.all (eqb-true d.ahead d.behind (not-false _ one.1)) low among two.1 page block)
  where
    reads_go : (o : Command) → is_read o ≡ true → some_read_clashes g p queue ≡ false → refused_by g o p queue ≡ false
    reads_go Read read clear = clear
    reads_go _ read clear = cc
queue_goes g now (SomeRows erase queued d) queue regs o p plane f clear low among page block =
    let three = or_parts (is_read o || not (same_test erase (is_erase o)) || not (d.ahead == d.behind)) (share_a_plane regs queued) clear in
    let two = or_parts (is_read o || not (same_test erase (is_erase o))) (not (d.ahead == d.behind)) three.0 in
    let one = or_parts (is_read o) (not (same_test erase (is_erase o))) two.0 in
    by o erase one.0 (not-false _ one.1) (none_clashes g now erase queued d p plane regs queue f (eqb-true d.ahead d.behind (not-false _ two.1)) low among three.1 page block)
  where
    by : (o : Command) (e : Bool) → is_read o ≡ false → same_test e (is_erase o) ≡ true → some_queued_clashes g e p queue ≡ false → refused_by g o p queue ≡ false
    by Read e read kind clear = cc
    by BlockErase true read kind clear = clear
    by BlockErase false read kind clear = cc
    by PageProgram true read kind clear = cc
    by PageProgram false read kind clear = clear
    by ChangeWriteColumn true read kind clear = cc
    by ChangeWriteColumn false read kind clear = clear
    by _ e read kind clear = refl

row_goes : (g : Parts) (j : Job) (v : State) (done : List Done) (view : LunView) (a : Address) (o : Command) (n : ℕ) → RegistersFit g j v.registers done → a.index ≡ index_now j.base done → a.plane ≡ plane_now done → LunFits g j v.lun (index_now j.base done) view → RowIs g j a → addresses_the_array o ≡ true → row_refused g v (After o n) ≡ false → RowGoes g j.lun.lun a view o
row_goes g j v done view a o n registers index plane f row array refused =
    let clear = and_rest (addresses_the_array o) (v.lun.busy || (excludes_cache g o && may_be_31 v.lun.last) || queue_refuses v.lun.queue v.registers.planes o || plane_refused v o || copy_refused g v o || (excludes_program o && v.lun.programming)) array refused in
    let five = or_parts (v.lun.busy || (excludes_cache g o && may_be_31 v.lun.last) || queue_refuses v.lun.queue v.registers.planes o || plane_refused v o || copy_refused g v o) (excludes_program o && v.lun.programming) clear in
    let four = or_parts (v.lun.busy || (excludes_cache g o && may_be_31 v.lun.last) || queue_refuses v.lun.queue v.registers.planes o || plane_refused v o) (copy_refused g v o) five.0 in
    let three = or_parts (v.lun.busy || (excludes_cache g o && may_be_31 v.lun.last) || queue_refuses v.lun.queue v.registers.planes o) (plane_refused v o) four.0 in
    let two = or_parts (v.lun.busy || (excludes_cache g o && may_be_31 v.lun.last)) (queue_refuses v.lun.queue v.registers.planes o) three.0 in
    let one = or_parts v.lun.busy (excludes_cache g o && may_be_31 v.lun.last) two.0 in
    record {
      inside = row.inside;
      names = eq-eqb _ _ (ap (λ (p : RowParts). p.lun) row.reads);
      ready = f.ready one.0;
      goes = queue_goes g (index_now j.base done) v.lun.queue view.queue v.registers.planes o (page_address g (row_of a.r1 a.r2 a.r3)) a.plane f.queue two.1 row.low (ap (λ (p : ℕ). has_plane p v.registers.planes) plane ∙ registers.plane) (ap (λ (p : RowParts). p.page) row.reads ∙ ap (λ (i : ℕ). i % g.pages) index) (ap (λ (p : RowParts). p.block) row.reads ∙ ap (λ (i : ℕ). i / g.pages * planes g + a.plane) index);
      no_cache = λ e. not_caching v.lun.last view.closer f.last (and_rest (excludes_cache g o) (may_be_31 v.lun.last) e one.1);
      no_program = λ e. f.programming (and_rest (excludes_program o) v.lun.programming e five.1);
    }

-- the row of 06h is of a plane that holds a page, and nothing is queued
plane_held : (g : Parts) (j : Job) (v : State) (done : List Done) (view : LunView) (a : Address) (n : ℕ) → RegistersFit g j v.registers done → a.index ≡ index_now j.base done → a.plane ≡ plane_now done → LunFits g j v.lun (index_now j.base done) view → RowIs g j a → row_refused g v (After ChangeReadColumnEnhanced n) ≡ false → holds_plane_of g (page_address g (row_of a.r1 a.r2 a.r3)) view ≡ true
plane_held g j v done view a n registers index plane f row refused =
    let five = or_parts (v.lun.busy || false || queue_refuses v.lun.queue v.registers.planes ChangeReadColumnEnhanced || plane_refused v ChangeReadColumnEnhanced || false) v.lun.programming refused in
    let four = or_parts (v.lun.busy || false || queue_refuses v.lun.queue v.registers.planes ChangeReadColumnEnhanced || plane_refused v ChangeReadColumnEnhanced) false five.0 in
    let three = or_parts (v.lun.busy || false || queue_refuses v.lun.queue v.registers.planes ChangeReadColumnEnhanced) (plane_refused v ChangeReadColumnEnhanced) four.0 in
    let both = or_parts (may_be_queued v.lun.queue) (not (are_planes_within v.registers.planes v.lun.held)) three.1 in
    let within = not-false (are_planes_within v.registers.planes v.lun.held) both.1 in
    let lies : (page_address g (row_of a.r1 a.r2 a.r3)).block % planes g ≡ a.plane = plane_is g _ (a.index / g.pages) a.plane (ap (λ (p : RowParts). p.block) row.reads) row.low in
    let among : has_plane a.plane v.registers.planes ≡ true = ap (λ (p : ℕ). has_plane p v.registers.planes) plane ∙ registers.plane in
    let held = f.planes a.plane (has_more (2 ^ a.plane) v.registers.planes.0 v.lun.held.0 within among) in
    and_from (not (has_some view.queue)) _ (ap not (none_queued g (index_now j.base done) v.lun.queue view.queue both.0 f.queue))
    (subst (λ (m : ℕ). list_any (λ q. q.block % planes g == m) view.held ≡ true) (sym lies) held)

-- nothing more against the row of this opener
uncopied_row : (g : Parts) (v : State) (o : Command) (n : ℕ) → addresses_the_array o ≡ true → row_refused g v (After o n) ≡ false → copy_refused g v o ≡ false
uncopied_row g v o n array refused =
    let clear = and_rest (addresses_the_array o) _ array refused in
    let five = or_parts (v.lun.busy || (excludes_cache g o && may_be_31 v.lun.last) || queue_refuses v.lun.queue v.registers.planes o || plane_refused v o || copy_refused g v o) (excludes_program o && v.lun.programming) clear in
    (or_parts (v.lun.busy || (excludes_cache g o && may_be_31 v.lun.last) || queue_refuses v.lun.queue v.registers.planes o || plane_refused v o) (copy_refused g v o) five.0).1

-- the row of 85h is of a plane that holds a page which may be copied there
copied_row : (g : Parts) (j : Job) (v : State) (done : List Done) (view : LunView) (a : Address) → RegistersFit g j v.registers done → a.index ≡ index_now j.base done → a.plane ≡ plane_now done → LunFits g j v.lun (index_now j.base done) view → RowIs g j a → copy_refused g v ChangeWriteColumn ≡ false → may_copy g (page_address g (row_of a.r1 a.r2 a.r3)) view ≡ true
copied_row g j v done view a registers index plane f row refused =
    let both = or_parts (not v.lun.copies.keeps) (not (are_planes_within v.registers.planes (copied_planes g v.lun))) refused in
    let within = not-false (are_planes_within v.registers.planes (copied_planes g v.lun)) both.1 in
    let p = page_address g (row_of a.r1 a.r2 a.r3) in
    let lies : p.block % planes g ≡ a.plane = plane_is g _ (a.index / g.pages) a.plane (ap (λ (p : RowParts). p.block) row.reads) row.low in
    let number : p.page ≡ index_now j.base done % g.pages = ap (λ (p : RowParts). p.page) row.reads ∙ ap (λ (i : ℕ). i % g.pages) index in
    let among : has_plane a.plane v.registers.planes ≡ true = ap (λ (p : ℕ). has_plane p v.registers.planes) plane ∙ registers.plane in
    let may = has_more (2 ^ a.plane) v.registers.planes.0 (copied_planes g v.lun).0 within among in
    and_from (keeps_copy view.closer) _ (f.copies.keeps (not-false v.lun.copies.keeps both.0))
    (subst (λ (m : ℕ). may_copy_to g p (page_in_plane (planes g) m view.held) ≡ true) (sym lies) (at p number (has_odd_even g.optional) refl may))
  where
    found_even : (p : PageAddress) (o : Option PageAddress) → p.page ≡ index_now j.base done % g.pages → number_parity (page_number o) ≡ Some (index_now j.base done % g.pages % 2) → may_copy_to g p o ≡ true
    found_even p None number e = cc
    found_even p (Some q) number e = or_right (has_odd_even g.optional) _ (eq-eqb (p.page % 2) (q.page % 2) (let same : q.page % 2 ≡ index_now j.base done % g.pages % 2 = cc in ap (λ (n : ℕ). n % 2) number ∙ sym same))

    at : (p : PageAddress) → p.page ≡ index_now j.base done % g.pages → (b : Bool) → has_odd_even g.optional ≡ b → has_plane a.plane (cond b v.lun.held v.lun.copies.even) ≡ true → may_copy_to g p (page_in_plane (planes g) a.plane view.held) ≡ true
    at p number true e h = let there = found (planes g) a.plane view.held (f.planes a.plane h) in ap (may_copy_to g p) there.is ∙ or_left (has_odd_even g.optional) _ e
    at p number false e h = found_even p (page_in_plane (planes g) a.plane view.held) number (f.copies.even a.plane h)

-- the row of 80h comes in no group of copies
no_group : (g : Parts) (j : Job) (v : State) (i : ℕ) (view : LunView) → LunFits g j v.lun i view → copy_refused g v PageProgram ≡ false → (has_copyback g.optional && is_copying view) ≡ false
no_group g j v i view f refused = at (has_copyback g.optional) (may_be_queued v.lun.queue) refl v.lun.copies.holds refl refused
  where
    none_left : (b : Bool) → (b && false) ≡ false
    none_left true = refl
    none_left false = refl

    at : (copyback q : Bool) → may_be_queued v.lun.queue ≡ q → (h : Bool) → v.lun.copies.holds ≡ h → (copyback && (q && h)) ≡ false → (copyback && is_copying view) ≡ false
    at false q e h d x = refl
    at true false e h d x = ap (λ (b : Bool). b && not (holds_none view.held)) (none_queued g i v.lun.queue view.queue e f.queue)
    at true true e true d x = cc
    at true true e false d x = ap (λ (pages : List PageAddress). has_some view.queue && not (holds_none pages)) (f.copies.holds d) ∙ none_left (has_some view.queue)

-- 2. what an address word makes of a place

-- the word ends the row of an 80
abbrev pub ends_program : ℕ → Place → Bool
ends_program count (After PageProgram n) = n + count == 5
ends_program count _ = false

-- the LUN behind it
abbrev pub lun_addressed : State → ℕ → KnownLun
lun_addressed v count = cond (ends_program count v.target.tail) (without_pages v.lun) v.lun

-- the word leads from the scene to one with these facts of the tail and this LUN, where the claim behind it fits
pub record Goes (s : Channel) (j : Job) (v : State) (c : Scene) (done : List Done) (from count : ℕ) (bytes : List ℕ) : Type 0 where
  pub facts : TailFacts
  pub view : LunView
  pub latch : view.latch ≡ c.view.latch
  pub steps : Steps s.geometry j.lun.lun bytes c (record { facts = facts; view = view; sole = c.sole })
  pub tail : TailFits s.geometry j (target_after_addresses s.geometry v from count) (now_of j done) facts
  pub lun : LunFits s.geometry j (lun_addressed v count) (index_now j.base done) view

-- the LUN is as it was, where the word doesn't end the row of an 80
kept_lun : (s : Channel) (j : Job) (v : State) (done : List Done) (view : LunView) (count : ℕ) (p : Place) → v.target.tail ≡ p → ends_program count p ≡ false → LunFits s.geometry j v.lun (index_now j.base done) view → LunFits s.geometry j (lun_addressed v count) (index_now j.base done) view
kept_lun s j v done view count p here other f = subst (λ (b : Bool). LunFits s.geometry j (cond b (without_pages v.lun) v.lun) (index_now j.base done) view) (sym (ap (ends_program count) here ∙ other)) f

-- where five addresses aren't passed
pub few_is : (o : Command) (n : ℕ) → n ≤ 5 → after_few o n ≡ After o n
few_is o n few = let five : nat_le n 5 ≡ true = grind (arith, nat_tests, few) in rw five refl

-- the facts are those of the registers as they are now
pub record FactsNow (g : Parts) (j : Job) (done : List Done) (from count : ℕ) (o : Command) (n : ℕ) (t : TailFacts) (a : AddressNow g j done from count) : Type 0 where
  pub facts : t ≡ facts_behind (opener_facts o) (take n (bytes_of o (of_now g j done from count a)))

-- behind 00h, 80h and 05h
facts_now : (g : Parts) (j : Job) (done : List Done) (from count n : ℕ) (t start : TailFacts) (old : Address) (a : AddressNow g j done from count) → from ≡ n → t ≡ facts_behind start (take n (all_bytes old)) → (ltb 0 n ≡ true → old.column ≡ column_now done) → (ltb 0 n ≡ true → ltb 2 n ≡ true → row_bytes_of g j.lun.lun (index_now j.base done) (plane_now done) ≡ Some (old.r1 ∷ (old.r2 ∷ (old.r3 ∷ [])))) → t ≡ facts_behind start (take n (all_bytes (of_now g j done from count a)))
facts_now g j done from count n t start old a begins e now bytes =
    e ∙ same_facts start n old (of_now g j done from count a) now
    (λ x.
    let some : ltb 0 n ≡ true = grind (arith, nat_tests, x) in
    let reaches : ltb 2 (from + count) ≡ true = grind (arith, nat_tests, x, begins) in
    same_bytes _ old.r1 old.r2 old.r3 a.r1 a.r2 a.r3 (bytes some x) (a.bytes reaches))

-- the column of the registers, where its second cycle comes
column_small : (g : Parts) (j : Job) (v : State) (done : List Done) (from count : ℕ) (p : Place) (limit : ℕ) → limit ≤ 20480 → column_limit g v p ≡ limit → RegistersFit g j v.registers done → PlaceClear g v from count p → has_second_column from count ≡ true → column_now done + 1 ≤ limit
column_small g j v done from count p limit small is f clear second = subst (λ (n : ℕ). column_now done + 1 ≤ n) is (surely (column_now done) v.registers.column.hi 1 (column_limit g v p) f.column.most (clear.column second))

carried_now : (n limit : ℕ) → limit ≤ 20480 → n + 1 ≤ limit → (n % 256 % 256 + 256 * (n / 256 % 256) ≡ n) × (nat_le limit (n % 256 % 256 + 256 * (n / 256 % 256)) ≡ false)
carried_now n limit small low =
    let e = carried_is n (omega (arith, small, low)) in
    (e, subst (λ (m : ℕ). nat_le limit m ≡ false) (sym e) (grind (arith, nat_tests, low)))

second_of : (from count n : ℕ) → from ≡ n → n ≤ 1 → 1 < n + count → has_second_column from count ≡ true
second_of from count n e low high = and_from (nat_le from 1) (nat_le 2 (from + count)) (grind (arith, nat_tests, e, low)) (grind (arith, nat_tests, e, high))

page_small : (g : Parts) → InLimits g → page_len g ≤ 20480
page_small g l = let x = l.page_bytes_most in let y = l.spare_bytes_most in omega (arith, x, y)

-- the column of the tail behind the word
column_led : (g : Parts) (j : Job) (v : State) (done : List Done) (from count n : ℕ) (column : ℕ) → from ≡ n → 2 ≤ n + count → RegistersFit g j v.registers done → (has_second_column from count ≡ true → column ≡ column_now done) → (2 ≤ n → ColumnFits column v.target.column) → ColumnFits column (target_after_addresses g v from count).column
column_led g j v done from count n column begins both f now old = at (nat_le from 1 && nat_le 2 (from + count)) refl
  where
    at : (b : Bool) → (nat_le from 1 && nat_le 2 (from + count)) ≡ b → ColumnFits column (cond b (Some (copied v.registers.column)) v.target.column)
    at true e = subst (λ (m : ℕ). Below m v.registers.column.hi) (sym (now e)) f.column.most
    at false e = old (later (nat_le from 1) refl e)
      where
        later : (b : Bool) → nat_le from 1 ≡ b → (b && nat_le 2 (from + count)) ≡ false → 2 ≤ n
        later true x e = absurd (let y : nat_le 2 (from + count) ≡ true = grind (arith, nat_tests, begins, both) in clash y e)
          where
            clash : nat_le 2 (from + count) ≡ true → nat_le 2 (from + count) ≡ false → ⊥
            clash h k = cc
        later false x e = grind (arith, nat_tests, begins, x)

-- the row of the tail behind the word
name_led : (g : Parts) (j : Job) (v : State) (done : List Done) (from count : ℕ) (a : AddressNow g j done from count) → 0 < g.pages → RegistersFit g j v.registers done → nat_le 5 (from + count) ≡ true → NameFits g j (of_now g j done from count a) (index_now j.base done) (target_after_addresses g v from count).named
name_led g j v done from count a some f e = subst (λ (b : Bool). NameFits g j (of_now g j done from count a) (index_now j.base done) (cond b (Some (name_now g v.registers)) v.target.named)) (sym e) (named_now g j v done from count a some f)

pub read_column : (a : Address) (m : ℕ) → 2 ≤ m → m ≤ 5 → input_column (facts_behind (opener_facts Read) (take m (all_bytes a))) ≡ carried a + 0
read_column a zero low high = absurd (omega (arith, low))
read_column a (suc zero) low high = absurd (omega (arith, low))
read_column a (suc (suc zero)) low high = refl
read_column a (suc (suc (suc zero))) low high = refl
read_column a (suc (suc (suc (suc zero)))) low high = refl
read_column a (suc (suc (suc (suc (suc zero))))) low high = refl
read_column a (suc (suc (suc (suc (suc (suc n)))))) low high = absurd (omega (arith, high))

pub program_column : (a : Address) (m : ℕ) → 2 ≤ m → m ≤ 5 → input_column (facts_behind (opener_facts PageProgram) (take m (all_bytes a))) ≡ carried a + 0
program_column a zero low high = absurd (omega (arith, low))
program_column a (suc zero) low high = absurd (omega (arith, low))
program_column a (suc (suc zero)) low high = refl
program_column a (suc (suc (suc zero))) low high = refl
program_column a (suc (suc (suc (suc zero)))) low high = refl
program_column a (suc (suc (suc (suc (suc zero))))) low high = refl
program_column a (suc (suc (suc (suc (suc (suc n)))))) low high = absurd (omega (arith, high))

pub copy_column : (a : Address) (m : ℕ) → 2 ≤ m → m ≤ 5 → input_column (facts_behind (opener_facts ChangeWriteColumn) (take m (all_bytes a))) ≡ carried a + 0
copy_column a zero low high = absurd (omega (arith, low))
copy_column a (suc zero) low high = absurd (omega (arith, low))
copy_column a (suc (suc zero)) low high = refl
copy_column a (suc (suc (suc zero))) low high = refl
copy_column a (suc (suc (suc (suc zero)))) low high = refl
copy_column a (suc (suc (suc (suc (suc zero))))) low high = refl
copy_column a (suc (suc (suc (suc (suc (suc n)))))) low high = absurd (omega (arith, high))

pub enhanced_column : (a : Address) (m : ℕ) → 2 ≤ m → m ≤ 5 → input_column (facts_behind (opener_facts ChangeReadColumnEnhanced) (take m (all_bytes a))) ≡ carried a + 0
enhanced_column a zero low high = absurd (omega (arith, low))
enhanced_column a (suc zero) low high = absurd (omega (arith, low))
enhanced_column a (suc (suc zero)) low high = refl
enhanced_column a (suc (suc (suc zero))) low high = refl
enhanced_column a (suc (suc (suc (suc zero)))) low high = refl
enhanced_column a (suc (suc (suc (suc (suc zero))))) low high = refl
enhanced_column a (suc (suc (suc (suc (suc (suc n)))))) low high = absurd (omega (arith, high))

-- what is known of the job, the claim and the word
pub record AtWord (s : Channel) (j : Job) (v : State) (c : Scene) (done : List Done) (from count : ℕ) : Type 0 where
  pub limits : InLimits s.geometry
  pub registers : RegistersFit s.geometry j v.registers done
  pub lun : LunFits s.geometry j v.lun (index_now j.base done) c.view
  pub shows : ShowsFit v.target.shows c
  pub address : AddressNow s.geometry j done from count

goes_read : (s : Channel) (j : Job) (v : State) (c : Scene) (done : List Done) (from count n : ℕ) (old : Address) (w : AtWord s j v c done from count) → PlaceClear s.geometry v from count (After Read n) → v.target.tail ≡ After Read n → Opened Read n old c.facts → (is_inside_address (After Read n) ≡ true → IsNow s.geometry j old (now_of j done) (After Read n)) → (has_column (After Read n) ≡ true → ColumnFits (input_column c.facts) v.target.column) → Goes s j v c done from count (take count (drop from (all_bytes (of_now s.geometry j done from count w.address))))
goes_read s j v c done from count n old w clear here is now column =
    record {
      facts = facts_behind (opener_facts Read) (take (n + count) (all_bytes a));
      view = c.view;
      latch = refl;
      lun = kept_lun s j v done c.view count (After Read n) here refl w.lun;
      steps =
          subst (λ (m : ℕ). Steps g j.lun.lun (take count (drop m (all_bytes a))) c (scene_at Read a c.view c.sole (n + count))) (sym begins)
          (subst (λ (x : Scene). Steps g j.lun.lun (take count (drop n (all_bytes a))) x (scene_at Read a c.view c.sole (n + count))) (sym scene_is)
          (many g j.lun.lun (scene_at Read a c.view c.sole) (all_bytes a) count n few
          (λ i low high. read_steps g j.lun.lun a c.view c.sole i (omega (arith, high, few))
          (λ e. (carried_now (column_now done) (page_len g) (page_small g w.limits) (column_small g j v done from count (After Read n) (page_len g) (page_small g w.limits) refl w.registers clear (second_of from count n begins (omega (arith, low, e)) (omega (arith, high, e))))).1)
          (λ e. row_goes g j v done c.view a Read n w.registers refl refl w.lun (w.address.row (let x : ltb 2 (from + count) ≡ true = grind (arith, nat_tests, high, begins, e) in x)) refl (clear.row (let x : nat_le 5 (from + count) ≡ true = grind (arith, nat_tests, high, begins, e) in x))))));
      tail = record {
        place = After Read (n + count);
        here = ap (address_leads_to count) here ∙ few_is Read (n + count) (omega (arith, few));
        address = a;
        is = record { place = grind (arith, nat_tests, few); facts = refl };
        now = λ e. record { column = refl; bytes = λ x. w.address.bytes (let y : ltb 2 (from + count) ≡ true = grind (arith, nat_tests, begins, x) in y) };
        column = λ e.
            let both : 2 ≤ n + count = grind (arith, nat_tests, e) in
            subst (λ (m : ℕ). ColumnFits m (target_after_addresses g v from count).column) (sym (read_column a (n + count) both few))
            (column_led g j v done from count n (carried a + 0) begins both w.registers
            (λ x. let r : carried a ≡ column_now done = (carried_now (column_now done) (page_len g) (page_small g w.limits) (column_small g j v done from count (After Read n) (page_len g) (page_small g w.limits) refl w.registers clear x)).0 in omega (arith, r))
            (λ x. subst (λ (m : ℕ). ColumnFits m v.target.column) (ap input_column facts_are ∙ read_column a n x (omega (arith, few))) (column (let y : nat_le 2 n ≡ true = grind (arith, nat_tests, x) in y))));
        row = λ e. w.address.row (let y : ltb 2 (from + count) ≡ true = grind (arith, nat_tests, begins, e) in y);
        named = λ e. name_led g j v done from count w.address pages w.registers (let y : nat_le 5 (from + count) ≡ true = grind (arith, nat_tests, begins, e) in y);
        single = λ e. cc;
      };
    }
  where
    g : Parts
    g = s.geometry

    a : Address
    a = of_now s.geometry j done from count w.address

    pages : 0 < s.geometry.pages
    pages = let x = w.limits.pages_least in omega (arith, x)

    begins : from ≡ n
    begins = let x = clear.begins in omega (arith, x)

    few : n + count ≤ 5
    few = let x = clear.few in let y : (5 - n == 0) ≡ false = clear.left in let z : n < 5 = grind (arith, nat_tests, y) in omega (arith, x, z)

    facts_are : c.facts ≡ facts_behind (opener_facts Read) (take n (all_bytes a))
    facts_are =
        facts_now s.geometry j done from count n c.facts (opener_facts Read) old w.address begins is.facts
        (λ x. (now (inside x)).column)
        (λ x y. (now (inside x)).bytes (let z : ltb 2 (0 + n) ≡ true = grind (arith, nat_tests, y) in z))
      where
        inside : ltb 0 n ≡ true → (ltb 0 n && ltb n 5) ≡ true
        inside x = and_from (ltb 0 n) (ltb n 5) x (let y : (5 - n == 0) ≡ false = clear.left in grind (arith, nat_tests, y))

    scene_is : c ≡ scene_at Read a c.view c.sole n
    scene_is = λ i. record { facts = facts_are i; view = c.view; sole = c.sole }

goes_enhanced : (s : Channel) (j : Job) (v : State) (c : Scene) (done : List Done) (from count n : ℕ) (old : Address) (w : AtWord s j v c done from count) → PlaceClear s.geometry v from count (After ChangeReadColumnEnhanced n) → v.target.tail ≡ After ChangeReadColumnEnhanced n → Opened ChangeReadColumnEnhanced n old c.facts → (is_inside_address (After ChangeReadColumnEnhanced n) ≡ true → IsNow s.geometry j old (now_of j done) (After ChangeReadColumnEnhanced n)) → (has_column (After ChangeReadColumnEnhanced n) ≡ true → ColumnFits (input_column c.facts) v.target.column) → Goes s j v c done from count (take count (drop from (all_bytes (of_now s.geometry j done from count w.address))))
goes_enhanced s j v c done from count n old w clear here is now column =
    record {
      facts = facts_behind (opener_facts ChangeReadColumnEnhanced) (take (n + count) (all_bytes a));
      view = c.view;
      latch = refl;
      lun = kept_lun s j v done c.view count (After ChangeReadColumnEnhanced n) here refl w.lun;
      steps =
          subst (λ (m : ℕ). Steps g j.lun.lun (take count (drop m (all_bytes a))) c (scene_at ChangeReadColumnEnhanced a c.view c.sole (n + count))) (sym begins)
          (subst (λ (x : Scene). Steps g j.lun.lun (take count (drop n (all_bytes a))) x (scene_at ChangeReadColumnEnhanced a c.view c.sole (n + count))) (sym scene_is)
          (many g j.lun.lun (scene_at ChangeReadColumnEnhanced a c.view c.sole) (all_bytes a) count n few
          (λ i low high. enhanced_steps g j.lun.lun a c.view c.sole i (omega (arith, high, few))
          (λ e. (carried_now (column_now done) (page_len g) (page_small g w.limits) (column_small g j v done from count (After ChangeReadColumnEnhanced n) (page_len g) (page_small g w.limits) refl w.registers clear (second_of from count n begins (omega (arith, low, e)) (omega (arith, high, e))))).1)
          (λ e.
          let row = w.address.row (let x : ltb 2 (from + count) ≡ true = grind (arith, nat_tests, high, begins, e) in x) in
          let refused = clear.row (let x : nat_le 5 (from + count) ≡ true = grind (arith, nat_tests, high, begins, e) in x) in
          (row_goes g j v done c.view a ChangeReadColumnEnhanced n w.registers refl refl w.lun row refl refused, plane_held g j v done c.view a n w.registers refl refl w.lun row refused)))));
      tail = record {
        place = After ChangeReadColumnEnhanced (n + count);
        here = ap (address_leads_to count) here ∙ few_is ChangeReadColumnEnhanced (n + count) (omega (arith, few));
        address = a;
        is = record { place = grind (arith, nat_tests, few); facts = refl };
        now = λ e. record { column = refl; bytes = λ x. w.address.bytes (let y : ltb 2 (from + count) ≡ true = grind (arith, nat_tests, begins, x) in y) };
        column = λ e.
            let both : 2 ≤ n + count = grind (arith, nat_tests, e) in
            subst (λ (m : ℕ). ColumnFits m (target_after_addresses g v from count).column) (sym (enhanced_column a (n + count) both few))
            (column_led g j v done from count n (carried a + 0) begins both w.registers
            (λ x. let r : carried a ≡ column_now done = (carried_now (column_now done) (page_len g) (page_small g w.limits) (column_small g j v done from count (After ChangeReadColumnEnhanced n) (page_len g) (page_small g w.limits) refl w.registers clear x)).0 in omega (arith, r))
            (λ x. subst (λ (m : ℕ). ColumnFits m v.target.column) (ap input_column facts_are ∙ enhanced_column a n x (omega (arith, few))) (column (let y : nat_le 2 n ≡ true = grind (arith, nat_tests, x) in y))));
        row = λ e. w.address.row (let y : ltb 2 (from + count) ≡ true = grind (arith, nat_tests, begins, e) in y);
        named = λ e. name_led g j v done from count w.address pages w.registers (let y : nat_le 5 (from + count) ≡ true = grind (arith, nat_tests, begins, e) in y);
        single = λ e. cc;
      };
    }
  where
    g : Parts
    g = s.geometry

    a : Address
    a = of_now s.geometry j done from count w.address

    pages : 0 < s.geometry.pages
    pages = let x = w.limits.pages_least in omega (arith, x)

    begins : from ≡ n
    begins = let x = clear.begins in omega (arith, x)

    few : n + count ≤ 5
    few = let x = clear.few in let y : (5 - n == 0) ≡ false = clear.left in let z : n < 5 = grind (arith, nat_tests, y) in omega (arith, x, z)

    facts_are : c.facts ≡ facts_behind (opener_facts ChangeReadColumnEnhanced) (take n (all_bytes a))
    facts_are =
        facts_now s.geometry j done from count n c.facts (opener_facts ChangeReadColumnEnhanced) old w.address begins is.facts
        (λ x. (now (inside x)).column)
        (λ x y. (now (inside x)).bytes (let z : ltb 2 (0 + n) ≡ true = grind (arith, nat_tests, y) in z))
      where
        inside : ltb 0 n ≡ true → (ltb 0 n && ltb n 5) ≡ true
        inside x = and_from (ltb 0 n) (ltb n 5) x (let y : (5 - n == 0) ≡ false = clear.left in grind (arith, nat_tests, y))

    scene_is : c ≡ scene_at ChangeReadColumnEnhanced a c.view c.sole n
    scene_is = λ i. record { facts = facts_are i; view = c.view; sole = c.sole }

goes_program : (s : Channel) (j : Job) (v : State) (c : Scene) (done : List Done) (from count n : ℕ) (old : Address) (w : AtWord s j v c done from count) → PlaceClear s.geometry v from count (After PageProgram n) → v.target.tail ≡ After PageProgram n → Opened PageProgram n old c.facts → (is_inside_address (After PageProgram n) ≡ true → IsNow s.geometry j old (now_of j done) (After PageProgram n)) → (has_column (After PageProgram n) ≡ true → ColumnFits (input_column c.facts) v.target.column) → Goes s j v c done from count (take count (drop from (all_bytes (of_now s.geometry j done from count w.address))))
goes_program s j v c done from count n old w clear here is now column =
    record {
      facts = facts_behind (opener_facts PageProgram) (take (n + count) (all_bytes a));
      view = addressed_view (n + count) c.view;
      latch = addressed_latch (nat_le 5 (n + count));
      lun = lun_at (n + count == 5) refl;
      steps =
          subst (λ (m : ℕ). Steps g j.lun.lun (take count (drop m (all_bytes a))) c (program_scene a c.view c.sole (n + count))) (sym begins)
          (subst (λ (x : Scene). Steps g j.lun.lun (take count (drop n (all_bytes a))) x (program_scene a c.view c.sole (n + count))) (sym scene_is)
          (many g j.lun.lun (program_scene a c.view c.sole) (all_bytes a) count n few
          (λ i low high. program_steps g j.lun.lun a c.view c.sole i (omega (arith, high, few))
          (λ e. (carried_now (column_now done) (page_len g) (page_small g w.limits) (column_small g j v done from count (After PageProgram n) (page_len g) (page_small g w.limits) refl w.registers clear (second_of from count n begins (omega (arith, low, e)) (omega (arith, high, e))))).1)
          (λ e. let refused = clear.row (let x : nat_le 5 (from + count) ≡ true = grind (arith, nat_tests, high, begins, e) in x) in (
            row_goes g j v done c.view a PageProgram n w.registers refl refl w.lun (w.address.row (let x : ltb 2 (from + count) ≡ true = grind (arith, nat_tests, high, begins, e) in x)) refl refused,
            no_group g j v (index_now j.base done) c.view w.lun (uncopied_row g v PageProgram n refl refused),
          )))));
      tail = at (n + count == 5) refl;
    }
  where
    g : Parts
    g = s.geometry

    a : Address
    a = of_now s.geometry j done from count w.address

    pages : 0 < s.geometry.pages
    pages = let x = w.limits.pages_least in omega (arith, x)

    begins : from ≡ n
    begins = let x = clear.begins in omega (arith, x)

    few : n + count ≤ 5
    few = let x = clear.few in let y : (5 - n == 0) ≡ false = clear.left in let z : n < 5 = grind (arith, nat_tests, y) in omega (arith, x, z)

    facts_are : c.facts ≡ facts_behind (opener_facts PageProgram) (take n (all_bytes a))
    facts_are =
        facts_now s.geometry j done from count n c.facts (opener_facts PageProgram) old w.address begins is.facts
        (λ x. (now (inside x)).column)
        (λ x y. (now (inside x)).bytes (let z : ltb 2 (0 + n) ≡ true = grind (arith, nat_tests, y) in z))
      where
        inside : ltb 0 n ≡ true → (ltb 0 n && ltb n 5) ≡ true
        inside x = and_from (ltb 0 n) (ltb n 5) x (let y : (5 - n == 0) ≡ false = clear.left in grind (arith, nat_tests, y))

    early : (m : ℕ) → m ≤ 4 → addressed_view m c.view ≡ c.view
    early m low = let late : nat_le 5 m ≡ false = grind (arith, nat_tests, low) in ap (λ (b : Bool). cond b (view_after ProgramAddressed c.view) c.view) late

    scene_is : c ≡ program_scene a c.view c.sole n
    scene_is = let view_is = early n (let x = is.place in grind (arith, nat_tests, x)) in λ i. record { facts = facts_are i; view = sym view_is i; sole = c.sole }

    addressed_latch : (b : Bool) → (cond b (view_after ProgramAddressed c.view) c.view).latch ≡ c.view.latch
    addressed_latch true = refl
    addressed_latch false = refl

    lun_at : (b : Bool) → (n + count == 5) ≡ b → LunFits g j (lun_addressed v count) (index_now j.base done) (addressed_view (n + count) c.view)
    lun_at true e =
        let five : n + count ≡ 5 = eqb-true (n + count) 5 e in
        let f = w.lun in
        subst (λ (b : Bool). LunFits g j (cond b (without_pages v.lun) v.lun) (index_now j.base done) (addressed_view (n + count) c.view)) (sym (ap (ends_program count) here ∙ e))
        (subst (λ (m : ℕ). LunFits g j (without_pages v.lun) (index_now j.base done) (addressed_view m c.view)) (sym five)
        (record { ready = f.ready; register = f.register; column = f.column; queue = f.queue; last = f.last; cached = f.cached; held = λ x. refl; planes = no_pages g []; array = f.array; copies = cleared_fit g v.lun.copies v.lun.held (index_now j.base done) c.view.closer c.view.held f.copies; programming = f.programming }))
    lun_at false e =
        let four : n + count ≤ 4 = let f = few in grind (arith, nat_tests, e, f) in
        subst (λ (x : LunView). LunFits g j (lun_addressed v count) (index_now j.base done) x) (sym (early (n + count) four)) (kept_lun s j v done c.view count (After PageProgram n) here e w.lun)

    here_led : (target_after_addresses g v from count).tail ≡ cond (n + count == 5) InData (after_few PageProgram (n + count))
    here_led = ap (address_leads_to count) here

    column_fits : 2 ≤ n + count → ColumnFits (input_column (facts_behind (opener_facts PageProgram) (take (n + count) (all_bytes a)))) (target_after_addresses g v from count).column
    column_fits both =
        subst (λ (m : ℕ). ColumnFits m (target_after_addresses g v from count).column) (sym (program_column a (n + count) both few))
        (column_led g j v done from count n (carried a + 0) begins both w.registers
        (λ x. let r : carried a ≡ column_now done = (carried_now (column_now done) (page_len g) (page_small g w.limits) (column_small g j v done from count (After PageProgram n) (page_len g) (page_small g w.limits) refl w.registers clear x)).0 in omega (arith, r))
        (λ x. subst (λ (m : ℕ). ColumnFits m v.target.column) (ap input_column facts_are ∙ program_column a n x (omega (arith, few))) (column (let y : nat_le 2 n ≡ true = grind (arith, nat_tests, x) in y))))

    at : (b : Bool) → (n + count == 5) ≡ b → TailFits g j (target_after_addresses g v from count) (now_of j done) (facts_behind (opener_facts PageProgram) (take (n + count) (all_bytes a)))
    at true e =
        let five : n + count ≡ 5 = eqb-true (n + count) 5 e in
        let row : ltb 2 (from + count) ≡ true = grind (arith, nat_tests, begins, five) in
        record {
          place = InData;
          here = here_led ∙ ap (λ (b : Bool). cond b InData (after_few PageProgram (n + count))) e;
          address = a;
          is = subst (λ (m : ℕ). InProgram a Inputs (facts_behind (opener_facts PageProgram) (take m (all_bytes a)))) (sym five) (record { phase = refl; row = refl; begun = refl });
          now = λ x. cc;
          column = λ x. column_fits (omega (arith, five));
          row = λ x. w.address.row row;
          named = λ x. name_led g j v done from count w.address pages w.registers (let y : nat_le 5 (from + count) ≡ true = grind (arith, nat_tests, begins, five) in y);
          single = λ x. cc;
        }
    at false e =
        let four : n + count ≤ 4 = let f = few in grind (arith, nat_tests, e, f) in
        record {
          place = After PageProgram (n + count);
          here = here_led ∙ (ap (λ (b : Bool). cond b InData (after_few PageProgram (n + count))) e ∙ few_is PageProgram (n + count) (omega (arith, four)));
          address = a;
          is = record { place = grind (arith, nat_tests, four); facts = refl };
          now = λ x. record { column = refl; bytes = λ y. w.address.bytes (let z : ltb 2 (from + count) ≡ true = grind (arith, nat_tests, begins, y) in z) };
          column = λ x. column_fits (grind (arith, nat_tests, x));
          row = λ x. absurd (too_few x four);
          named = λ x. absurd (too_few x four);
          single = λ x. cc;
        }
      where
        too_few : nat_le 5 (0 + (n + count)) ≡ true → n + count ≤ 4 → ⊥
        too_few x f = grind (arith, nat_tests, x, f)

-- behind an 85h that begins a copy
goes_copy : (s : Channel) (j : Job) (v : State) (c : Scene) (done : List Done) (from count n : ℕ) (old : Address) (w : AtWord s j v c done from count) → PlaceClear s.geometry v from count (After ChangeWriteColumn n) → v.target.tail ≡ After ChangeWriteColumn n → Opened ChangeWriteColumn n old c.facts → (is_inside_address (After ChangeWriteColumn n) ≡ true → IsNow s.geometry j old (now_of j done) (After ChangeWriteColumn n)) → (has_column (After ChangeWriteColumn n) ≡ true → ColumnFits (input_column c.facts) v.target.column) → Goes s j v c done from count (take count (drop from (all_bytes (of_now s.geometry j done from count w.address))))
goes_copy s j v c done from count n old w clear here is now column =
    record {
      facts = facts_behind (opener_facts ChangeWriteColumn) (take (n + count) (all_bytes a));
      view = c.view;
      latch = refl;
      lun = kept_lun s j v done c.view count (After ChangeWriteColumn n) here refl w.lun;
      steps =
          subst (λ (m : ℕ). Steps g j.lun.lun (take count (drop m (all_bytes a))) c (scene_at ChangeWriteColumn a c.view c.sole (n + count))) (sym begins)
          (subst (λ (x : Scene). Steps g j.lun.lun (take count (drop n (all_bytes a))) x (scene_at ChangeWriteColumn a c.view c.sole (n + count))) (sym scene_is)
          (many g j.lun.lun (scene_at ChangeWriteColumn a c.view c.sole) (all_bytes a) count n few
          (λ i low high. copy_steps g j.lun.lun a c.view c.sole i (omega (arith, high, few))
          (λ e. (carried_now (column_now done) (page_len g) (page_small g w.limits) (column_small g j v done from count (After ChangeWriteColumn n) (page_len g) (page_small g w.limits) refl w.registers clear (second_of from count n begins (omega (arith, low, e)) (omega (arith, high, e))))).1)
          (λ e. let refused = clear.row (let x : nat_le 5 (from + count) ≡ true = grind (arith, nat_tests, high, begins, e) in x) in (
            row_goes g j v done c.view a ChangeWriteColumn n w.registers refl refl w.lun (w.address.row (let x : ltb 2 (from + count) ≡ true = grind (arith, nat_tests, high, begins, e) in x)) refl refused,
            copied_row g j v done c.view a w.registers refl refl w.lun (w.address.row (let x : ltb 2 (from + count) ≡ true = grind (arith, nat_tests, high, begins, e) in x)) (uncopied_row g v ChangeWriteColumn n refl refused),
          )))));
      tail = at (n + count == 5) refl;
    }
  where
    g : Parts
    g = s.geometry

    a : Address
    a = of_now s.geometry j done from count w.address

    pages : 0 < s.geometry.pages
    pages = let x = w.limits.pages_least in omega (arith, x)

    begins : from ≡ n
    begins = let x = clear.begins in omega (arith, x)

    few : n + count ≤ 5
    few = let x = clear.few in let y : (5 - n == 0) ≡ false = clear.left in let z : n < 5 = grind (arith, nat_tests, y) in omega (arith, x, z)

    facts_are : c.facts ≡ facts_behind (opener_facts ChangeWriteColumn) (take n (all_bytes a))
    facts_are =
        facts_now s.geometry j done from count n c.facts (opener_facts ChangeWriteColumn) old w.address begins is.facts
        (λ x. (now (inside x)).column)
        (λ x y. (now (inside x)).bytes (let z : ltb 2 (0 + n) ≡ true = grind (arith, nat_tests, y) in z))
      where
        inside : ltb 0 n ≡ true → (ltb 0 n && ltb n 5) ≡ true
        inside x = and_from (ltb 0 n) (ltb n 5) x (let y : (5 - n == 0) ≡ false = clear.left in grind (arith, nat_tests, y))

    scene_is : c ≡ scene_at ChangeWriteColumn a c.view c.sole n
    scene_is = λ i. record { facts = facts_are i; view = c.view; sole = c.sole }

    here_led : (target_after_addresses g v from count).tail ≡ cond (n + count == 5) InData (after_few ChangeWriteColumn (n + count))
    here_led = ap (address_leads_to count) here

    column_fits : 2 ≤ n + count → ColumnFits (input_column (facts_behind (opener_facts ChangeWriteColumn) (take (n + count) (all_bytes a)))) (target_after_addresses g v from count).column
    column_fits both =
        subst (λ (m : ℕ). ColumnFits m (target_after_addresses g v from count).column) (sym (copy_column a (n + count) both few))
        (column_led g j v done from count n (carried a + 0) begins both w.registers
        (λ x. let r : carried a ≡ column_now done = (carried_now (column_now done) (page_len g) (page_small g w.limits) (column_small g j v done from count (After ChangeWriteColumn n) (page_len g) (page_small g w.limits) refl w.registers clear x)).0 in omega (arith, r))
        (λ x. subst (λ (m : ℕ). ColumnFits m v.target.column) (ap input_column facts_are ∙ copy_column a n x (omega (arith, few))) (column (let y : nat_le 2 n ≡ true = grind (arith, nat_tests, x) in y))))

    at : (b : Bool) → (n + count == 5) ≡ b → TailFits g j (target_after_addresses g v from count) (now_of j done) (facts_behind (opener_facts ChangeWriteColumn) (take (n + count) (all_bytes a)))
    at true e =
        let five : n + count ≡ 5 = eqb-true (n + count) 5 e in
        let row : ltb 2 (from + count) ≡ true = grind (arith, nat_tests, begins, five) in
        record {
          place = InData;
          here = here_led ∙ ap (λ (b : Bool). cond b InData (after_few ChangeWriteColumn (n + count))) e;
          address = a;
          is = subst (λ (m : ℕ). InProgram a Inputs (facts_behind (opener_facts ChangeWriteColumn) (take m (all_bytes a)))) (sym five) (record { phase = refl; row = refl; begun = refl });
          now = λ x. cc;
          column = λ x. column_fits (omega (arith, five));
          row = λ x. w.address.row row;
          named = λ x. name_led g j v done from count w.address pages w.registers (let y : nat_le 5 (from + count) ≡ true = grind (arith, nat_tests, begins, five) in y);
          single = λ x. cc;
        }
    at false e =
        let four : n + count ≤ 4 = let f = few in grind (arith, nat_tests, e, f) in
        record {
          place = After ChangeWriteColumn (n + count);
          here = here_led ∙ (ap (λ (b : Bool). cond b InData (after_few ChangeWriteColumn (n + count))) e ∙ few_is ChangeWriteColumn (n + count) (omega (arith, four)));
          address = a;
          is = record { place = grind (arith, nat_tests, four); facts = refl };
          now = λ x. record { column = refl; bytes = λ y. w.address.bytes (let z : ltb 2 (from + count) ≡ true = grind (arith, nat_tests, begins, y) in z) };
          column = λ x. column_fits (grind (arith, nat_tests, x));
          row = λ x. absurd (too_few x four);
          named = λ x. absurd (too_few x four);
          single = λ x. cc;
        }
      where
        too_few : nat_le 5 (0 + (n + count)) ≡ true → n + count ≤ 4 → ⊥
        too_few x f = grind (arith, nat_tests, x, f)

-- behind 60h
erase_facts : (n : ℕ) (a b : Address) → (ltb 0 n ≡ true → (a.r1 ≡ b.r1) × (a.r2 ≡ b.r2) × (a.r3 ≡ b.r3)) → facts_behind (opener_facts BlockErase) (take n (bytes_of BlockErase a)) ≡ facts_behind (opener_facts BlockErase) (take n (bytes_of BlockErase b))
erase_facts zero a b r = refl
erase_facts (suc n) a b r =
    let row = r (let y : ltb 0 (suc n) ≡ true = grind (arith, nat_tests) in y) in
    λ i. facts_behind (opener_facts BlockErase) (take (suc n) (row.0 i ∷ (row.1 i ∷ (row.2 i ∷ []))))

goes_erase : (s : Channel) (j : Job) (v : State) (c : Scene) (done : List Done) (from count n : ℕ) (old : Address) (w : AtWord s j v c done from count) → PlaceClear s.geometry v from count (After BlockErase n) → v.target.tail ≡ After BlockErase n → Opened BlockErase n old c.facts → (is_inside_address (After BlockErase n) ≡ true → IsNow s.geometry j old (now_of j done) (After BlockErase n)) → Goes s j v c done from count (take count (drop from (all_bytes (of_now s.geometry j done from count w.address))))
goes_erase s j v c done from count n old w clear here is now =
    record {
      facts = facts_behind (opener_facts BlockErase) (take (n + count) (bytes_of BlockErase a));
      view = c.view;
      latch = refl;
      lun = kept_lun s j v done c.view count (After BlockErase n) here refl w.lun;
      steps =
          subst (λ (m : ℕ). Steps g j.lun.lun (take count (drop m (all_bytes a))) c (scene_at BlockErase a c.view c.sole (n + count))) (sym begins)
          (subst (λ (x : Scene). Steps g j.lun.lun (take count (drop n (bytes_of BlockErase a))) x (scene_at BlockErase a c.view c.sole (n + count))) (sym scene_is)
          (many g j.lun.lun (scene_at BlockErase a c.view c.sole) (bytes_of BlockErase a) count n few
          (λ i low high. erase_steps g j.lun.lun a c.view c.sole i (omega (arith, high, few))
          (λ e. row_goes g j v done c.view a BlockErase n w.registers refl refl w.lun (w.address.row (let x : ltb 2 (from + count) ≡ true = grind (arith, nat_tests, high, begins, e) in x)) refl (clear.row (let x : nat_le 5 (from + count) ≡ true = grind (arith, nat_tests, high, begins, e) in x))))));
      tail = record {
        place = After BlockErase (n + count);
        here = ap (address_leads_to count) here ∙ few_is BlockErase (n + count) (omega (arith, few));
        address = a;
        is = record { place = grind (arith, nat_tests, few); facts = refl };
        now = λ e. record { column = refl; bytes = λ x. w.address.bytes (let y : ltb 2 (from + count) ≡ true = grind (arith, nat_tests, begins, x) in y) };
        column = λ e. cc;
        row = λ e. w.address.row (let y : ltb 2 (from + count) ≡ true = grind (arith, nat_tests, begins, e) in y);
        named = λ e. name_led g j v done from count w.address pages w.registers (let y : nat_le 5 (from + count) ≡ true = grind (arith, nat_tests, begins, e) in y);
        single = λ e. cc;
      };
    }
  where
    g : Parts
    g = s.geometry

    a : Address
    a = of_now s.geometry j done from count w.address

    pages : 0 < s.geometry.pages
    pages = let x = w.limits.pages_least in omega (arith, x)

    begins : from ≡ suc (suc n)
    begins = let x = clear.begins in omega (arith, x)

    few : n + count ≤ 3
    few = let x = clear.few in let y : (3 - n == 0) ≡ false = clear.left in let z : n < 3 = grind (arith, nat_tests, y) in omega (arith, x, z)

    facts_are : c.facts ≡ facts_behind (opener_facts BlockErase) (take n (bytes_of BlockErase a))
    facts_are = is.facts ∙ erase_facts n old a row
      where
        row : ltb 0 n ≡ true → (old.r1 ≡ w.address.r1) × (old.r2 ≡ w.address.r2) × (old.r3 ≡ w.address.r3)
        row x =
            let y : (3 - n == 0) ≡ false = clear.left in
            let i = now (and_from (ltb 0 n) (ltb n 3) x (grind (arith, nat_tests, y))) in
            let reaches : ltb 2 (from + count) ≡ true = grind (arith, nat_tests, x, begins) in
            let there = i.bytes (let z : ltb 2 (2 + n) ≡ true = grind (arith, nat_tests, x) in z) in
            same_bytes _ old.r1 old.r2 old.r3 w.address.r1 w.address.r2 w.address.r3 there (w.address.bytes reaches)

    scene_is : c ≡ scene_at BlockErase a c.view c.sole n
    scene_is = λ i. record { facts = facts_are i; view = c.view; sole = c.sole }

-- behind 05h
pub column_column : (a : Address) (m : ℕ) → 2 ≤ m → m ≤ 2 → input_column (facts_behind (opener_facts ChangeReadColumn) (take m (all_bytes a))) ≡ carried a + 0
column_column a zero low high = absurd (omega (arith, low))
column_column a (suc zero) low high = absurd (omega (arith, low))
column_column a (suc (suc zero)) low high = refl
column_column a (suc (suc (suc n))) low high = absurd (omega (arith, high))

-- the register that 05h reads, and how long it is
record Reads (g : Parts) (v : State) (c : Scene) (column : ℕ) : Type 0 where
  sole : c.sole ≡ true
  inside : nat_le (register_len g c.view.register) (column % 256 % 256 + 256 * (column / 256 % 256)) ≡ false
  whole : column % 256 % 256 + 256 * (column / 256 % 256) ≡ column

reads : (s : Channel) (j : Job) (v : State) (c : Scene) (done : List Done) (from count n : ℕ) → AtWord s j v c done from count → PlaceClear s.geometry v from count (After ChangeReadColumn n) → has_second_column from count ≡ true → Reads s.geometry v c (column_now done)
reads s j v c done from count n w clear second = by v.target.shows w.shows v.lun.register w.lun.register (clear.column second)
  where
    g : Parts
    g = s.geometry

    small : 512 ≤ page_len s.geometry
    small = let x = w.limits.page_bytes_least in omega (arith, x)

    most : (r : Register) → register_len s.geometry r ≤ 20480
    most Empty = omega arith
    most (Page p) = page_small s.geometry w.limits
    most ParameterPage = omega arith
    most Identifier = omega arith
    most Identity = omega arith
    most JedecIdentity = omega arith
    most UniqueId = omega arith
    most (Features a) = omega arith

    by : (o : Option Shown) → ShowsFit o c → (r : Option Held) → RegisterFits r c.view.register → is_at_most (bound_plus v.registers.column.hi 1) (cond (drives o) (least_length s.geometry r) 0) ≡ true → Reads s.geometry v c (column_now done)
    by None shows r fits inside = let low = surely (column_now done) v.registers.column.hi 1 0 w.registers.column.most inside in absurd (omega (arith, low))
    by (Some x) shows None fits inside = let low = surely (column_now done) v.registers.column.hi 1 0 w.registers.column.most inside in absurd (omega (arith, low))
    by (Some x) shows (Some r) fits inside =
        let low = surely (column_now done) v.registers.column.hi 1 (least_length s.geometry (Some r)) w.registers.column.most inside in
        let least = least_register s.geometry (Some r) c.view.register fits refl small in
        let length = most c.view.register in
        let carry = carried_now (column_now done) (register_len s.geometry c.view.register) length (omega (arith, low, least)) in
        record { sole = shows.0; inside = carry.1; whole = carry.0 }

goes_column : (s : Channel) (j : Job) (v : State) (c : Scene) (done : List Done) (from count n : ℕ) (old : Address) (w : AtWord s j v c done from count) → PlaceClear s.geometry v from count (After ChangeReadColumn n) → v.target.tail ≡ After ChangeReadColumn n → Opened ChangeReadColumn n old c.facts → (is_inside_address (After ChangeReadColumn n) ≡ true → IsNow s.geometry j old (now_of j done) (After ChangeReadColumn n)) → Goes s j v c done from count (take count (drop from (all_bytes (of_now s.geometry j done from count w.address))))
goes_column s j v c done from count n old w clear here is now =
    record {
      facts = facts_behind (opener_facts ChangeReadColumn) (take (n + count) (all_bytes a));
      view = c.view;
      latch = refl;
      lun = kept_lun s j v done c.view count (After ChangeReadColumn n) here refl w.lun;
      steps =
          subst (λ (m : ℕ). Steps g j.lun.lun (take count (drop m (all_bytes a))) c (scene_at ChangeReadColumn a c.view c.sole (n + count))) (sym begins)
          (subst (λ (x : Scene). Steps g j.lun.lun (take count (drop n (all_bytes a))) x (scene_at ChangeReadColumn a c.view c.sole (n + count))) (sym scene_is)
          (many g j.lun.lun (scene_at ChangeReadColumn a c.view c.sole) (all_bytes a) count n (omega (arith, few))
          (λ i low high. column_steps g j.lun.lun a c.view c.sole i (omega (arith, high, few))
          (λ e. let r = reads s j v c done from count n w clear (second_of from count n begins (omega (arith, low, e)) (omega (arith, high, e))) in (r.sole, r.inside)))));
      tail = record {
        place = After ChangeReadColumn (n + count);
        here = ap (address_leads_to count) here ∙ few_is ChangeReadColumn (n + count) (omega (arith, few));
        address = a;
        is = record { place = grind (arith, nat_tests, few); facts = refl };
        now = λ e. record { column = refl; bytes = λ x. w.address.bytes (let y : ltb 2 (from + count) ≡ true = grind (arith, nat_tests, begins, x) in y) };
        column = λ e.
            let both : 2 ≤ n + count = grind (arith, nat_tests, e) in
            subst (λ (m : ℕ). ColumnFits m (target_after_addresses g v from count).column) (sym (column_column a (n + count) both few))
            (column_led g j v done from count n (carried a + 0) begins both w.registers
            (λ x. let r : carried a ≡ column_now done = (reads s j v c done from count n w clear x).whole in omega (arith, r))
            (λ x. absurd (let y : (2 - n == 0) ≡ false = clear.left in let z : n < 2 = grind (arith, nat_tests, y) in omega (arith, x, z))));
        row = λ e. cc;
        named = λ e. cc;
        single = λ e. cc;
      };
    }
  where
    g : Parts
    g = s.geometry

    a : Address
    a = of_now s.geometry j done from count w.address

    begins : from ≡ n
    begins = let x = clear.begins in omega (arith, x)

    few : n + count ≤ 2
    few = let x = clear.few in let y : (2 - n == 0) ≡ false = clear.left in let z : n < 2 = grind (arith, nat_tests, y) in omega (arith, x, z)

    facts_are : c.facts ≡ facts_behind (opener_facts ChangeReadColumn) (take n (all_bytes a))
    facts_are =
        facts_now s.geometry j done from count n c.facts (opener_facts ChangeReadColumn) old w.address begins is.facts
        (λ x. (now (inside x)).column)
        (λ x y. (now (inside x)).bytes (let z : ltb 2 (0 + n) ≡ true = grind (arith, nat_tests, y) in z))
      where
        inside : ltb 0 n ≡ true → (ltb 0 n && ltb n 2) ≡ true
        inside x = and_from (ltb 0 n) (ltb n 2) x (let y : (2 - n == 0) ≡ false = clear.left in grind (arith, nat_tests, y))

    scene_is : c ≡ scene_at ChangeReadColumn a c.view c.sole n
    scene_is = λ i. record { facts = facts_are i; view = c.view; sole = c.sole }

-- behind 85h

-- one address behind 85h, and the second
begun_column : (g : Parts) (lun : ℕ) (a : Address) (t : TailFacts) (view : LunView) (sole : Bool) (byte : ℕ) → ColumnBegun 0 a t → AddressAllowed g lun (record { facts = t; view = view; sole = sole }) byte × (scene_behind g lun (AddressCycle byte) (record { facts = t; view = view; sole = sole }) ≡ record { facts = facts_after (AddressCycle byte) t; view = view; sole = sole })
begun_column g lun a t view sole byte b =
    (record { wanted = rw (b.alone, b.program.phase) refl; profile = rw b.alone (never (not (is_wide g.optional))); alone = λ e. no_target b.alone e; row = λ e. rw_none b.alone e; column = λ e. no_second b.alone b.program.phase e; read_column = λ e. no_read b.alone e }, rw b.alone refl)
  where
    no_target : {X : Type 0} → t.opening ≡ None → opened (λ d n. reads_identity d) t.opening ≡ true → X
    no_target e h = let none : opened (λ d n. reads_identity d) t.opening ≡ false = ap (opened (λ d n. reads_identity d)) e in cc

    rw_none : {X : Type 0} → t.opening ≡ None → ends_row (λ d. true) t ≡ true → X
    rw_none e h = let none : ends_row (λ d. true) t ≡ false = ap (opened (λ c n. true && at_last_row c n)) e in cc

    no_second : {X : Type 0} → t.opening ≡ None → t.phase ≡ FirstColumn → second_of_page t ≡ true → X
    no_second e f h = let none : second_of_page t ≡ false = rw (e, f) refl in cc

    no_read : {X : Type 0} → t.opening ≡ None → second_column is_change_read_column t ≡ true → X
    no_read e h = let none : second_column is_change_read_column t ≡ false = ap (opened (λ c n. is_change_read_column c && n == 1)) e in cc

second_column_byte : (g : Parts) (lun : ℕ) (a : Address) (t : TailFacts) (view : LunView) (sole : Bool) (byte : ℕ) → ColumnBegun 1 a t → nat_le (page_len g) (column_with t byte) ≡ false → AddressAllowed g lun (record { facts = t; view = view; sole = sole }) byte × (scene_behind g lun (AddressCycle byte) (record { facts = t; view = view; sole = sole }) ≡ record { facts = facts_after (AddressCycle byte) t; view = view; sole = sole })
second_column_byte g lun a t view sole byte b inside =
    (record { wanted = rw (b.alone, b.program.phase) refl; profile = rw b.alone (never (not (is_wide g.optional))); alone = λ e. no_target b.alone e; row = λ e. rw_none b.alone e; column = λ e. inside; read_column = λ e. no_read b.alone e }, rw b.alone refl)
  where
    no_target : {X : Type 0} → t.opening ≡ None → opened (λ d n. reads_identity d) t.opening ≡ true → X
    no_target e h = let none : opened (λ d n. reads_identity d) t.opening ≡ false = ap (opened (λ d n. reads_identity d)) e in cc

    rw_none : {X : Type 0} → t.opening ≡ None → ends_row (λ d. true) t ≡ true → X
    rw_none e h = let none : ends_row (λ d. true) t ≡ false = ap (opened (λ c n. true && at_last_row c n)) e in cc

    no_read : {X : Type 0} → t.opening ≡ None → second_column is_change_read_column t ≡ true → X
    no_read e h = let none : second_column is_change_read_column t ≡ false = ap (opened (λ c n. is_change_read_column c && n == 1)) e in cc

-- the row of a program with the column of the registers
abbrev pub with_column : Address → ℕ → Address
with_column a column = record a { column = column }

pub first_led : (a : Address) (t : TailFacts) (column : ℕ) → ColumnBegun 0 a t → ColumnBegun 1 (with_column a column) (facts_after (AddressCycle (column % 256)) t)
first_led a t column b =
    record { few = omega arith; alone = rw (b.program.begun, b.alone) refl; program = record { phase = rw (b.program.begun, b.program.phase) refl; row = rw (b.program.begun, b.alone) b.program.row; begun = rw b.program.begun refl }; column = λ e. rw (b.program.begun, b.alone, b.program.phase) refl }

pub second_led : (a : Address) (t : TailFacts) (byte : ℕ) → ColumnBegun 1 a t → InProgram a Inputs (facts_after (AddressCycle byte) t) × (input_column (facts_after (AddressCycle byte) t) ≡ a.column % 256 % 256 + 256 * byte + 0)
second_led a t byte b = (
  record { phase = rw (b.program.begun, b.program.phase) refl; row = rw (b.program.begun, b.alone) b.program.row; begun = rw b.program.begun refl },
  rw (b.program.begun, b.alone, b.program.phase) (ap (λ (m : ℕ). m % 256 + 256 * byte + 0) (b.column refl)),
)

-- the same row with another column
pub row_with_column : (g : Parts) (j : Job) (a : Address) (column : ℕ) → RowIs g j a → RowIs g j (with_column a column)
row_with_column g j a column r = record { low = r.low; reads = r.reads; inside = r.inside }

name_with_column : (g : Parts) (j : Job) (a : Address) (column i : ℕ) (o : Option NamedRow) → NameFits g j a i o → NameFits g j (with_column a column) i o
name_with_column g j a column i None f = tt
name_with_column g j a column i (Some n) f = record { over = f.over; over_is = f.over_is; index = f.index; plane = f.plane; page = f.page; drift = f.drift }

-- what is known at a change of the write column
record AtColumn (s : Channel) (j : Job) (v : State) (c : Scene) (done : List Done) (from count n : ℕ) (old : Address) : Type 0 where
  w : AtWord s j v c done from count
  clear : PlaceClear s.geometry v from count (InColumn n)
  here : v.target.tail ≡ InColumn n
  row : RowIs s.geometry j old
  named : NameFits s.geometry j old (index_now j.base done) v.target.named

-- its rest: nothing is named anew
same_named : (s : Channel) (j : Job) (v : State) (c : Scene) (done : List Done) (from count n : ℕ) (old : Address) → n + count ≤ 2 → AtColumn s j v c done from count n old → NameFits s.geometry j (with_column old (column_now done)) (index_now j.base done) (target_after_addresses s.geometry v from count).named
same_named s j v c done from count n old few k =
    let begins = k.clear.begins in
    let short : nat_le 5 (from + count) ≡ false = grind (arith, nat_tests, begins, few) in
    subst (λ (b : Bool). NameFits s.geometry j (with_column old (column_now done)) (index_now j.base done) (cond b (Some (name_now s.geometry v.registers)) v.target.named)) (sym short) (name_with_column s.geometry j old (column_now done) (index_now j.base done) v.target.named k.named)

-- still in the column
column_tail : (s : Channel) (j : Job) (v : State) (c : Scene) (done : List Done) (from count n : ℕ) (old : Address) (t : TailFacts) → n + count ≡ 1 → AtColumn s j v c done from count n old → ColumnBegun 1 (with_column old (column_now done)) t → TailFits s.geometry j (target_after_addresses s.geometry v from count) (now_of j done) t
column_tail s j v c done from count n old t one k b =
    record {
      place = InColumn 1;
      here = ap (address_leads_to count) k.here ∙ ap column_leads_to one;
      address = with_column old (column_now done);
      is = b;
      now = λ e. record { column = refl; bytes = λ x. cc };
      column = λ e. cc;
      row = λ e. row_with_column s.geometry j old (column_now done) k.row;
      named = λ e. same_named s j v c done from count n old (omega (arith, one)) k;
      single = λ e. cc;
    }

-- back in the data
data_tail : (s : Channel) (j : Job) (v : State) (c : Scene) (done : List Done) (from count n : ℕ) (old : Address) (t : TailFacts) → n + count ≡ 2 → n ≤ 1 → AtColumn s j v c done from count n old → InProgram (with_column old (column_now done)) Inputs t → input_column t ≡ carried (with_column old (column_now done)) + 0 → TailFits s.geometry j (target_after_addresses s.geometry v from count) (now_of j done) t
data_tail s j v c done from count n old t two low k p column =
    record {
      place = InData;
      here = ap (address_leads_to count) k.here ∙ ap column_leads_to two;
      address = with_column old (column_now done);
      is = p;
      now = λ e. cc;
      column = λ e.
          subst (λ (m : ℕ). ColumnFits m (target_after_addresses s.geometry v from count).column) (sym column)
          (column_led s.geometry j v done from count n (carried (with_column old (column_now done)) + 0) k.clear.begins (omega (arith, two)) k.w.registers
          (λ x. let r : carried (with_column old (column_now done)) ≡ column_now done = (carried_now (column_now done) (page_len s.geometry) (page_small s.geometry k.w.limits) (column_small s.geometry j v done from count (InColumn n) (page_len s.geometry) (page_small s.geometry k.w.limits) refl k.w.registers k.clear x)).0 in omega (arith, r))
          (λ x. absurd (omega (arith, x, low))));
      row = λ e. row_with_column s.geometry j old (column_now done) k.row;
      named = λ e. same_named s j v c done from count n old (omega (arith, two)) k;
      single = λ e. cc;
    }

column_inside : (s : Channel) (j : Job) (v : State) (c : Scene) (done : List Done) (from count n : ℕ) (old : Address) → n ≤ 1 → n + count ≡ 2 → AtColumn s j v c done from count n old → nat_le (page_len s.geometry) (column_now done % 256 % 256 + 256 * (column_now done / 256 % 256)) ≡ false
column_inside s j v c done from count n old low two k =
    (carried_now (column_now done) (page_len s.geometry) (page_small s.geometry k.w.limits) (column_small s.geometry j v done from count (InColumn n) (page_len s.geometry) (page_small s.geometry k.w.limits) refl k.w.registers k.clear (second_of from count n k.clear.begins low (omega (arith, two))))).1

-- the second byte behind the first
last_byte : (s : Channel) (j : Job) (view : LunView) (sole : Bool) (a : Address) (t : TailFacts) (column : ℕ) → ColumnBegun 1 (with_column a column) t → nat_le (page_len s.geometry) (column % 256 % 256 + 256 * (column / 256 % 256)) ≡ false → AddressAllowed s.geometry j.lun.lun (record { facts = t; view = view; sole = sole }) (column / 256 % 256) × (scene_behind s.geometry j.lun.lun (AddressCycle (column / 256 % 256)) (record { facts = t; view = view; sole = sole }) ≡ record { facts = facts_after (AddressCycle (column / 256 % 256)) t; view = view; sole = sole })
last_byte s j view sole a t column b inside =
    second_column_byte s.geometry j.lun.lun (with_column a column) t view sole (column / 256 % 256) b
    (subst (λ (m : ℕ). nat_le (page_len s.geometry) (m % 256 + 256 * (column / 256 % 256)) ≡ false) (sym (b.column refl)) inside)

goes_in_column : (s : Channel) (j : Job) (v : State) (c : Scene) (done : List Done) (from count n : ℕ) (old : Address) → AtColumn s j v c done from count n old → ColumnBegun n old c.facts → (is_inside_address (InColumn n) ≡ true → IsNow s.geometry j old (now_of j done) (InColumn n)) → (rest : List ℕ) → Goes s j v c done from count (take count (drop from (column_now done % 256 ∷ (column_now done / 256 % 256 ∷ rest))))
goes_in_column s j v c done from count n old k b now rest =
    subst (λ (m : ℕ). Goes s j v c done from count (take count (drop m xs))) (sym k.clear.begins) (by n count k b now k.clear.few)
  where
    xs : List ℕ
    xs = column_now done % 256 ∷ (column_now done / 256 % 256 ∷ rest)

    unmoved_lun : {n count : ℕ} → AtColumn s j v c done from count n old → LunFits s.geometry j (lun_addressed v count) (index_now j.base done) c.view
    unmoved_lun {n} {count} k = kept_lun s j v done c.view count (InColumn n) k.here refl k.w.lun

    by : (n count : ℕ) → AtColumn s j v c done from count n old → ColumnBegun n old c.facts → (is_inside_address (InColumn n) ≡ true → IsNow s.geometry j old (now_of j done) (InColumn n)) → count ≤ 2 - n → Goes s j v c done from count (take count (drop n xs))
    by zero zero k b now few =
        record {
          facts = c.facts;
          view = c.view;
          latch = refl;
          lun = unmoved_lun k;
          steps = record { allowed = tt; leads = refl };
          tail = record {
            place = InColumn 0;
            here = ap (address_leads_to 0) k.here;
            address = with_column old (column_now done);
            is = record { few = omega arith; alone = b.alone; program = record { phase = b.program.phase; row = b.program.row; begun = b.program.begun }; column = λ e. absurd (omega (arith, e)) };
            now = λ e. cc;
            column = λ e. cc;
            row = λ e. row_with_column s.geometry j old (column_now done) k.row;
            named = λ e. same_named s j v c done from 0 0 old (omega arith) k;
            single = λ e. cc;
          };
        }
    by zero (suc zero) k b now few =
        let one = begun_column s.geometry j.lun.lun old c.facts c.view c.sole (column_now done % 256) b in
        let next = first_led old c.facts (column_now done) b in
        record { facts = facts_after (AddressCycle (column_now done % 256)) c.facts; view = c.view; latch = refl; lun = unmoved_lun k; steps = record { allowed = (one.0, tt); leads = one.1 }; tail = column_tail s j v c done from 1 0 old _ refl k next }
    by zero (suc (suc zero)) k b now few =
        let one = begun_column s.geometry j.lun.lun old c.facts c.view c.sole (column_now done % 256) b in
        let next = first_led old c.facts (column_now done) b in
        let two = last_byte s j c.view c.sole old (facts_after (AddressCycle (column_now done % 256)) c.facts) (column_now done) next (column_inside s j v c done from 2 0 old (omega arith) refl k) in
        let end = second_led (with_column old (column_now done)) (facts_after (AddressCycle (column_now done % 256)) c.facts) (column_now done / 256 % 256) next in
        record {
          facts = facts_after (AddressCycle (column_now done / 256 % 256)) (facts_after (AddressCycle (column_now done % 256)) c.facts);
          view = c.view;
          latch = refl;
          lun = unmoved_lun k;
          steps = record {
            allowed = (one.0, subst (λ (x : Scene). MovesAllowed s.geometry j.lun.lun (gives Adr (column_now done / 256 % 256 ∷ [])) x) (sym one.1) (two.0, tt));
            leads = ap (scene_behind s.geometry j.lun.lun (AddressCycle (column_now done / 256 % 256))) one.1 ∙ two.1;
          };
          tail = data_tail s j v c done from 2 0 old _ refl (omega arith) k end.0 end.1;
        }
    by (suc zero) zero k b now few =
        record {
          facts = c.facts;
          view = c.view;
          latch = refl;
          lun = unmoved_lun k;
          steps = record { allowed = tt; leads = refl };
          tail = column_tail s j v c done from 0 1 old c.facts refl k (renewed b (now refl).column);
        }
      where
        renewed : ColumnBegun 1 old c.facts → old.column ≡ column_now done → ColumnBegun 1 (with_column old (column_now done)) c.facts
        renewed b e = record { few = b.few; alone = b.alone; program = record { phase = b.program.phase; row = b.program.row; begun = b.program.begun }; column = λ x. b.column x ∙ ap (λ (m : ℕ). m % 256) e }
    by (suc zero) (suc zero) k b now few =
        let again : ColumnBegun 1 (with_column old (column_now done)) c.facts = let e = (now refl).column in record { few = b.few; alone = b.alone; program = record { phase = b.program.phase; row = b.program.row; begun = b.program.begun }; column = λ x. b.column x ∙ ap (λ (m : ℕ). m % 256) e } in
        let two = last_byte s j c.view c.sole old c.facts (column_now done) again (column_inside s j v c done from 1 1 old (omega arith) refl k) in
        let end = second_led (with_column old (column_now done)) c.facts (column_now done / 256 % 256) again in
        record { facts = facts_after (AddressCycle (column_now done / 256 % 256)) c.facts; view = c.view; latch = refl; lun = unmoved_lun k; steps = record { allowed = (two.0, tt); leads = two.1 }; tail = data_tail s j v c done from 1 1 old _ refl (omega arith) k end.0 end.1 }
    by zero (suc (suc (suc m))) k b now few = absurd (omega (arith, few))
    by (suc zero) (suc (suc m)) k b now few = absurd (omega (arith, few))
    by (suc (suc m)) count k b now few = let low = b.few in absurd (omega (arith, low))

-- 3. the word

-- the place is in the address of FAh
abbrev pub resets_lun : Place → Bool
resets_lun (After ResetLun n) = true
resets_lun _ = false

-- what is known behind an address that isn't the one of an opener beside the array, or of FAh
pub leaves_target : (g : Parts) (v : State) (from count : ℕ) (p : Place) → takes_identity_at p ≡ false → resets_lun p ≡ false → address_leaves_at g v from count p ≡ record { registers = v.registers; target = target_after_addresses g v from count; lun = cond (ends_program count p) (without_pages v.lun) v.lun }
leaves_target g v from count Closed h r = refl
leaves_target g v from count InData h r = refl
leaves_target g v from count (InColumn n) h r = refl
leaves_target g v from count (InFeatures n) h r = refl
leaves_target g v from count Unknown h r = refl
leaves_target g v from count (After o n) h r = by o h r
  where
    by : (o : Command) → takes_identity_at (After o n) ≡ false → resets_lun (After o n) ≡ false → address_leaves_at g v from count (After o n) ≡ record { registers = v.registers; target = target_after_addresses g v from count; lun = cond (ends_program count (After o n)) (without_pages v.lun) v.lun }
    by ReadId h r = cc
    by ReadParameterPage h r = cc
    by ReadUniqueId h r = cc
    by GetFeatures h r = cc
    by SetFeatures h r = cc
    by ResetLun h r = cc
    by PageProgram h r = refl
    by _ h r = refl

goes : (s : Channel) (j : Job) (k : KnownJob s j) (v : State) (c : Scene) (done : List Done) (from count : ℕ) → Fits s.geometry j v done c true → NoReasons s.geometry j.text v (AddressWord from count) → takes_identity_at v.target.tail ≡ false → resets_lun v.target.tail ≡ false → (w : AtWord s j v c done from count) → Goes s j v c done from count (take count (drop from (all_bytes (of_now s.geometry j done from count w.address))))
unfolding breaks_cycle_forbidden breaks_address_unaligned breaks_column_too_large
goes s j k v c done from count f clear plainly apart w =
    let t = f.tail refl in
    at t.place t.here t.is t.now t.column t.row t.named
    (place_clear s.geometry j v done from count t.place f.registers (no_place takes_identity_at v.target.tail t.place plainly t.here)
    (no_place (address_out_of_place s.geometry v from count) v.target.tail t.place clear.no_cycle_forbidden t.here)
    (no_place (begins_elsewhere from) v.target.tail t.place clear.no_address_unaligned t.here)
    (no_place (column_past s.geometry v from count) v.target.tail t.place clear.no_column_too_large t.here))
    (no_place takes_identity_at v.target.tail t.place plainly t.here)
    (no_place resets_lun v.target.tail t.place apart t.here)
  where
    at : (p : Place) → v.target.tail ≡ p → PlaceIs p (f.tail refl).address c.facts → (holds_address p ≡ true → IsNow s.geometry j (f.tail refl).address (now_of j done) p) → (has_column p ≡ true → ColumnFits (input_column c.facts) v.target.column) → (has_row p ≡ true → RowIs s.geometry j (f.tail refl).address) → (has_row p ≡ true → NameFits s.geometry j (f.tail refl).address (index_now j.base done) v.target.named) → PlaceClear s.geometry v from count p → takes_identity_at p ≡ false → resets_lun p ≡ false → Goes s j v c done from count (take count (drop from (all_bytes (of_now s.geometry j done from count w.address))))
    at Closed here is now column row named clear idn apart = let left = clear.left in cc
    at InData here is now column row named clear idn apart = let left = clear.left in cc
    at (InFeatures n) here is now column row named clear idn apart = let left = clear.left in cc
    at (InColumn n) here is now column row named clear idn apart = goes_in_column s j v c done from count n (f.tail refl).address (record { w = w; clear = clear; here = here; row = row refl; named = named refl }) is now (w.address.r1 ∷ (w.address.r2 ∷ (w.address.r3 ∷ [])))
    at Unknown here is now column row named clear idn apart = let left = clear.left in cc
    at (After o n) here is now column row named clear idn apart = by o here is now column clear idn apart
      where
        by : (o : Command) → v.target.tail ≡ After o n → Opened o n (f.tail refl).address c.facts → (is_inside_address (After o n) ≡ true → IsNow s.geometry j (f.tail refl).address (now_of j done) (After o n)) → (has_column (After o n) ≡ true → ColumnFits (input_column c.facts) v.target.column) → PlaceClear s.geometry v from count (After o n) → takes_identity_at (After o n) ≡ false → resets_lun (After o n) ≡ false → Goes s j v c done from count (take count (drop from (all_bytes (of_now s.geometry j done from count w.address))))
        by Read here is now column clear idn apart = goes_read s j v c done from count n (f.tail refl).address w clear here is now column
        by ChangeReadColumnEnhanced here is now column clear idn apart = goes_enhanced s j v c done from count n (f.tail refl).address w clear here is now column
        by PageProgram here is now column clear idn apart = goes_program s j v c done from count n (f.tail refl).address w clear here is now column
        by ChangeWriteColumn here is now column clear idn apart = goes_copy s j v c done from count n (f.tail refl).address w clear here is now column
        by BlockErase here is now column clear idn apart = goes_erase s j v c done from count n (f.tail refl).address w clear here is now
        by ChangeReadColumn here is now column clear idn apart = goes_column s j v c done from count n (f.tail refl).address w clear here is now
        by ReadId here is now column clear idn apart = cc
        by ReadParameterPage here is now column clear idn apart = cc
        by ReadUniqueId here is now column clear idn apart = cc
        by GetFeatures here is now column clear idn apart = cc
        by SetFeatures here is now column clear idn apart = cc
        by ResetLun here is now column clear idn apart = cc
        by _ here is now column clear idn apart = let none = is.place in cc

pub sound_address : (s : Channel) (j : Job) (k : KnownJob s j) (v : State) (past : List Item) (c : Scene) (done : List Done) (rest : List Line) (at from count : ℕ) → IsScene s j.lun past c → Fits s.geometry j v done c true → NoReasons s.geometry j.text v (AddressWord from count) → takes_identity_at v.target.tail ≡ false → resets_lun v.target.tail ≡ false → accepts s.geometry (bounds_of j.text) None (state_after s.geometry v (AddressWord from count)) rest ≡ true → SoundWord s j past done rest at (AddressWord from count)
unfolding state_after breaks_row_or_plane_outside
sound_address s j k v past c done rest at from count scene f clear plainly apart acc =
    let g = s.geometry in
    let a = address_now s j k v done from count f.registers clear.no_row_or_plane_outside in
    let w : AtWord s j v c done from count = record { limits = k.limits; registers = f.registers; lun = f.lun; shows = f.shows; address = a } in
    let go = goes s j k v c done from count f clear plainly apart w in
    let bytes = take count (drop from (all_bytes (of_now g j done from count a))) in
    let left = leaves_target g v from count v.target.tail plainly apart in
    plain_sound s j k v past c done rest at (AddressWord from count) (gives Adr bytes) refl scene f.registers clear (ap (λ (o : Option (List ℕ)). and_then o (λ xs. Some (gives Adr xs))) (address_bytes g j done from count a)) go.steps.allowed refl
    (λ answer.
    subst (λ (x : Scene). Fits g j (state_after g v (AddressWord from count)) (record { word = AddressWord from count; answer = answer } ∷ done) x true) (sym go.steps.leads)
    (subst (λ (x : State). Fits g j (with_registers x (paid count x.registers)) (record { word = AddressWord from count; answer = answer } ∷ done) (record { facts = go.facts; view = go.view; sole = c.sole }) true) (sym left)
    (record {
      registers = unmoved g j v v.registers.place v.registers.polled done (AddressWord from count) answer f.registers clear (record { column = λ n. refl; plane = λ n. refl; index = λ b n. refl }) f.registers.place;
      tail = λ e. go.tail;
      free = λ e. cc;
      shows = shows_kept v.target.shows c (record { facts = go.facts; view = go.view; sole = c.sole }) (λ e. e) go.latch f.shows;
      lun = go.lun;
    })))
    acc
