-- The LUN of a channel that has no other: what it and its tail are tells by itself which cycle is permitted, by which rule it isn't, and
-- what each cycle leaves.
use Rattle.std.proofs.Common.{◌≡◌, ℕ, Bool, true, false, ◌||◌, ◌&&◌, cond, not, Option, Some, None, List, [], ◌∷◌, ◌++◌, refl, sym, ap, ◌∙◌, subst, arith}
use Rattle.std.proofs.Math.Bool.{or-true}
use Rattle.nand_geometry.specs.declared.parts.Parts.{Parts}
use Rattle.nand_geometry.specs.Optional.{is_wide, no_optional}
use Rattle.nand_geometry.specs.Row.{parts_of}
use Rattle.onfi_cycle.specs.declared.command.Command.{Command}
use Rattle.onfi_cycle.specs.declared.command.Command.TheVariants.{Read, ReadConfirm, ReadStatus, ReadStatusEnhanced, Reset, SynchronousReset, ReadCacheSequential, ReadCacheEnd, ChangeReadColumnConfirm, BlockEraseConfirm, BlockErasePlane, ProgramConfirm, ProgramPlane, ReadId, ReadParameterPage, ReadUniqueId, GetFeatures, ResetLun, ChangeReadColumnEnhanced, BlockErase, PageProgram, ChangeWriteColumn, ReadPlane, CopybackRead, ProgramCache}
use Rattle.onfi_cycle.specs.declared.forbidden.Forbidden.{Forbidden}
use Rattle.onfi_cycle.specs.declared.forbidden.Forbidden.TheVariants.{CommandUnknown, NoSoleDriver}
use Rattle.onfi_cycle.specs.declared.item.Item.{Item}
use Rattle.onfi_cycle.specs.declared.item.Item.TheVariants.{Rdy}
use Rattle.onfi_cycle.specs.declared.item.Kind.{Kind}
use Rattle.onfi_cycle.specs.declared.item.Kind.TheVariants.{Dout}
use Rattle.onfi_cycle.specs.declared.latch.Latch.{Latch}
use Rattle.onfi_cycle.specs.declared.latch.Latch.TheVariants.{Off, Status, Data}
use Rattle.onfi_cycle.specs.declared.opening.Opening.{Opening}
use Rattle.onfi_cycle.specs.declared.page_address.PageAddress.{PageAddress}
use Rattle.onfi_cycle.specs.declared.queued.Queued.{Queued}
use Rattle.onfi_cycle.specs.declared.queued.Queued.TheVariants.{Erase, Program, Read as QueuedRead}
use Rattle.onfi_cycle.specs.declared.tail_facts.TailFacts.{TailFacts}
use Rattle.onfi_cycle.specs.declared.target_cycle.TargetCycle.{TargetCycle}
use Rattle.onfi_cycle.specs.declared.target_cycle.TargetCycle.TheVariants.{CommandCycle, AddressCycle, InputCycle, OutputCycle}
use Rattle.onfi_cycle.specs.LunView.{LunView}
use Rattle.onfi_cycle.specs.Sequence.{target_cycle, tail, facts_of, facts_after, is_open, opened, row_with}
use Rattle.std.specs.List.{list_any, slice_get}
use Rattle.onfi_cycle.specs.Effect.{page_address, cycle_effect, command_effect, address_effect, opening_address_effect}
use Rattle.onfi_cycle.specs.Lun.{latch, latch_alone, alone, drivers_from, drivers, is_only, lun_view, luns_of, views_from, view_after, effect_on, is_cache_read, leaves_array_busy}
use Rattle.onfi_cycle.specs.Command.{at_last_row}
use Rattle.onfi_cycle.specs.Rules.{ends_row, excludes_cache, planes_clash, queued_clashes, read_clashes, refused_by, is_refused_by, breaks_not_there, breaks_command_unknown, breaks_sequence_open, breaks_several_luns, breaks_no_column_to_change, breaks_command_misplaced, breaks_address_misplaced, breaks_row_outside, breaks_lun_busy, breaks_queue_clash, breaks_input_misplaced, breaks_no_sole_driver, breaks_data_not_ready, breaks_column_outside, breaks_cache_read_misplaced, breaks_cache_program_misplaced, breaks_copyback_misplaced, breaks_plane_not_held}
use Rattle.onfi_cycle.specs.Permitted.{broken, judge_cycle, judge_known_cycle, is_legal}
use Rattle.onfi_cycle.specs.Channel.{Channel, IsChannel, cycle}
use Rattle.micro_program.specs.Moves.{Move, Give, Take, and_then}
use Rattle.micro_program.specs.Played.{Played, played, with_byte}
use Rattle.micro_verify.specs.Lazy.{the_lun, item_of, no_failures}
use Rattle.micro_verify.specs.Cause.{Stops}
use Rattle.micro_program.proofs.Below.{facts, readies, outputs}
use Rattle.micro_program.proofs.Calm.{own_effect}
use Rattle.micro_program.proofs.SceneMoves.{cycle_of}

pub record Lone : Type 0 where
  pub facts : TailFacts
  pub view : LunView

-- a channel with one LUN
pub record IsAlone (s : Channel) : Type 0 where
  pub is_channel : IsChannel s
  pub one : s.geometry.luns ≡ 1
  pub base : is_wide s.geometry.optional ≡ false
  pub target : s.targets ≡ 1

-- a legal past, and what it leaves
pub record IsLone (s : Channel) (past : List Item) (c : Lone) : Type 0 where
  pub legal : is_legal s.geometry s.targets past ≡ true
  pub facts : facts_of (tail past 0) ≡ c.facts
  pub view : lun_view s.geometry past the_lun ≡ c.view

-- a chip without what it has beside the base profile: its LUNs share nothing
abbrev pub based : Parts → Parts
based g = record g { optional = no_optional }

-- the rule that a cycle breaks first
abbrev pub judged : Parts → Lone → TargetCycle → Option Forbidden
judged g c d = cond (breaks_command_unknown g d) (Some CommandUnknown) (judge_known_cycle (based g) c.facts (c.view ∷ []) d)

abbrev pub lone_behind : Parts → TargetCycle → Lone → Lone
lone_behind g d c = record { facts = facts_after d c.facts; view = view_after (cycle_effect (based g) c.facts c.view.latch d 0) c.view }

-- in the base profile no row may name a LUN that is caching
ends_same : (g : Parts) (t : TailFacts) → is_wide g.optional ≡ false → ends_row (excludes_cache g) t ≡ ends_row (excludes_cache (based g)) t
ends_same g t base = at t.opening
  where
    same : (c : Command) → excludes_cache g c ≡ excludes_cache (based g) c
    same Read = ap not base
    same ChangeReadColumnEnhanced = refl
    same _ = refl

    at : (o : Option Opening) → opened (λ c n. excludes_cache g c && at_last_row c n) o ≡ opened (λ c n. excludes_cache (based g) c && at_last_row c n) o
    at None = refl
    at (Some o) = ap (λ (b : Bool). b && at_last_row o.opener o.addresses) (same o.opener)

-- a queue refuses the same rows
refused_same : (g : Parts) → is_wide g.optional ≡ false → (o : Option Opening) (p : PageAddress) (queue : List Queued) → is_refused_by g o p queue ≡ is_refused_by (based g) o p queue
refused_same g base None p queue = refl
refused_same g base (Some o) p queue = ap (λ (b : Bool). at_last_row o.opener o.addresses && b) (same o.opener)
  where
    bound : (q : PageAddress) → planes_clash g p q ≡ planes_clash (based g) p q
    bound q = rw base refl

    read : (q : Queued) → read_clashes g p q ≡ read_clashes (based g) p q
    read (Erase q) = refl
    read (Program q) = refl
    read (QueuedRead q) = rw base refl

    row : (e : Bool) (q : Queued) → queued_clashes g e p q ≡ queued_clashes (based g) e p q
    row e (Erase q) = ap (λ (b : Bool). not e || b) (bound q)
    row e (Program q) = ap (λ (b : Bool). e || b) (bound q)
    row e (QueuedRead q) = refl

    same : (c : Command) → refused_by g c p queue ≡ refused_by (based g) c p queue
    same Read = λ i. list_any (λ q. read q i) queue
    same BlockErase = λ i. list_any (λ q. row true q i) queue
    same PageProgram = λ i. list_any (λ q. row false q i) queue
    same ChangeWriteColumn = λ i. list_any (λ q. row false q i) queue
    same _ = refl

-- and nothing else is asked
known_same : (g : Parts) (t : TailFacts) (vs : List LunView) (d : TargetCycle) → is_wide g.optional ≡ false → judge_known_cycle g t vs d ≡ judge_known_cycle (based g) t vs d
unfolding breaks_sequence_open breaks_several_luns breaks_no_column_to_change breaks_command_misplaced breaks_address_misplaced breaks_row_outside breaks_lun_busy breaks_queue_clash breaks_input_misplaced breaks_no_sole_driver breaks_data_not_ready breaks_column_outside breaks_cache_read_misplaced breaks_cache_program_misplaced breaks_copyback_misplaced breaks_plane_not_held
known_same g t vs (CommandCycle ReadConfirm) base = rw base refl
known_same g t vs (CommandCycle ReadCacheSequential) base = rw base refl
known_same g t vs (CommandCycle ReadCacheEnd) base = rw base refl
known_same g t vs (CommandCycle c) base = rw base refl
known_same g t vs (AddressCycle byte) base = at (slice_get vs (parts_of g (row_with t byte)).lun) refl
  where
    ends : ends_row (excludes_cache g) t ≡ ends_row (excludes_cache (based g)) t
    ends = ends_same g t base

    at : (o : Option LunView) → slice_get vs (parts_of g (row_with t byte)).lun ≡ o → judge_known_cycle g t vs (AddressCycle byte) ≡ judge_known_cycle (based g) t vs (AddressCycle byte)
    at None e = rw (base, ends, e) refl
    at (Some v) e = let rows = refused_same g base t.opening (page_address g (row_with t byte)) v.queue in rw (base, ends, e, rows) refl
known_same g t vs (InputCycle byte) base = refl
known_same g t vs OutputCycle base = refl

command_same : (g : Parts) (t : TailFacts) (la : Latch) (c : Command) (lun : ℕ) → is_wide g.optional ≡ false → command_effect g t la c lun ≡ command_effect (based g) t la c lun
command_same g t la Read lun base = refl
command_same g t la ReadStatus lun base = rw base refl
command_same g t la ReadStatusEnhanced lun base = refl
command_same g t la Reset lun base = rw base refl
command_same g t la SynchronousReset lun base = rw base refl
command_same g t la ReadCacheSequential lun base = rw base refl
command_same g t la ReadCacheEnd lun base = refl
command_same g t la ChangeReadColumnConfirm lun base = refl
command_same g t la ReadConfirm lun base = rw base refl
command_same g t la BlockEraseConfirm lun base = rw base refl
command_same g t la BlockErasePlane lun base = rw base refl
command_same g t la ProgramConfirm lun base = rw base refl
command_same g t la ProgramPlane lun base = rw base refl
command_same g t la ReadPlane lun base = rw base refl
command_same g t la CopybackRead lun base = rw base refl
command_same g t la ProgramCache lun base = rw base refl
command_same g t la c lun base = refl

address_same : (g : Parts) (t : TailFacts) (byte : ℕ) (c : Command) (n lun : ℕ) → is_wide g.optional ≡ false → address_effect g t byte c n lun ≡ address_effect (based g) t byte c n lun
address_same g t byte ReadStatusEnhanced n lun base = refl
address_same g t byte ReadId n lun base = rw base refl
address_same g t byte ReadParameterPage n lun base = rw base refl
address_same g t byte ReadUniqueId n lun base = rw base refl
address_same g t byte GetFeatures n lun base = rw base refl
address_same g t byte ResetLun n lun base = rw base refl
address_same g t byte c n lun base = refl

opening_same : (g : Parts) (t : TailFacts) (byte : ℕ) (o : Option Opening) (lun : ℕ) → is_wide g.optional ≡ false → opening_address_effect g t byte o lun ≡ opening_address_effect (based g) t byte o lun
opening_same g t byte None lun base = refl
opening_same g t byte (Some o) lun base = address_same g t byte o.opener o.addresses lun base

effect_same : (g : Parts) (t : TailFacts) (la : Latch) (d : TargetCycle) (lun : ℕ) → is_wide g.optional ≡ false → cycle_effect g t la d lun ≡ cycle_effect (based g) t la d lun
effect_same g t la (CommandCycle c) lun base = command_same g t la c lun base
effect_same g t la (AddressCycle byte) lun base = opening_same g t byte t.opening lun base
effect_same g t la (InputCycle byte) lun base = rw base refl
effect_same g t la OutputCycle lun base = refl

-- 1. a cycle

luns_are : (s : Channel) (past : List Item) (c : Lone) → IsAlone s → IsLone s past c → luns_of s.geometry past 0 ≡ c.view ∷ []
luns_are s past c k is =
    subst (λ (n : ℕ). views_from s.geometry past 0 n 0 ≡ c.view ∷ []) (sym k.one) (ap (λ (v : LunView). v ∷ []) is.view)

pub broken_is : (s : Channel) (past : List Item) (c : Lone) → IsAlone s → IsLone s past c → (kind : Kind) (byte : ℕ) → broken s.geometry s.targets past (cycle 0 kind byte) ≡ judged s.geometry c (target_cycle kind byte)
unfolding breaks_not_there
broken_is s past c k is kind byte =
    subst (λ (n : ℕ). broken s.geometry n past (cycle 0 kind byte) ≡ judged s.geometry c (target_cycle kind byte)) (sym k.target)
    (ap (λ (t : TailFacts). judge_cycle s.geometry t (luns_of s.geometry past 0) (target_cycle kind byte)) is.facts ∙ ap (λ (vs : List LunView). judge_cycle s.geometry c.facts vs (target_cycle kind byte)) (luns_are s past c k is)
    ∙ ap (λ (o : Option Forbidden). cond (breaks_command_unknown s.geometry (target_cycle kind byte)) (Some CommandUnknown) o) (known_same s.geometry c.facts (c.view ∷ []) (target_cycle kind byte) k.base))

alone_is : (g : Parts) (past : List Item) → g.luns ≡ 1 → latch_alone g past the_lun ≡ latch g past the_lun
alone_is g past one = subst (λ (n : ℕ). alone n (λ m. latch g past (record { ce = 0; lun = m })) 0 ≡ latch g past the_lun) (sym one) (at (latch g past the_lun) refl)
  where
    at : (x : Latch) → latch g past the_lun ≡ x → alone 1 (λ m. latch g past (record { ce = 0; lun = m })) 0 ≡ latch g past the_lun
    at Off e = rw e refl
    at Status e = rw e refl
    at Data e = rw e refl

pub lone_next : (s : Channel) (past : List Item) (c : Lone) → IsAlone s → IsLone s past c → (kind : Kind) (byte : ℕ) → judged s.geometry c (target_cycle kind byte) ≡ None → IsLone s (cycle 0 kind byte ∷ past) (lone_behind s.geometry (target_cycle kind byte) c)
lone_next s past c k is kind byte h =
    let g = s.geometry in
    let d = target_cycle kind byte in
    let permitted : broken g s.targets past (cycle 0 kind byte) ≡ None = broken_is s past c k is kind byte ∙ h in
    let effect : effect_on g past (cycle 0 kind byte) the_lun ≡ cycle_effect (based g) c.facts c.view.latch d 0 =
    own_effect g past the_lun kind byte ∙ (ap (λ (x : Latch). cycle_effect g (facts_of (tail past 0)) x d 0) (alone_is g past k.one ∙ ap (λ (v : LunView). v.latch) is.view) ∙ ap (λ (t : TailFacts). cycle_effect g t c.view.latch d 0) is.facts ∙ effect_same g c.facts c.view.latch d 0 k.base) in
    record {
      legal = facts.legal g s.targets past (cycle 0 kind byte) is.legal permitted;
      facts = facts.tail past (record { ce = 0; kind = kind; byte = byte }) 0 refl ∙ ap (facts_after d) is.facts;
      view = facts.lun g s.targets past (cycle 0 kind byte) the_lun permitted (let one : g.luns ≡ 1 = k.one in omega (arith, one)) ∙ (ap (λ e. view_after e (lun_view g past the_lun)) effect ∙ ap (view_after (cycle_effect (based g) c.facts c.view.latch d 0)) is.view);
    }

-- 2. moves

-- each of the moves is permitted where it comes
abbrev pub MovesPass : Parts → List Move → Lone → Type 0
MovesPass g [] c = Unit {0}
MovesPass g (move ∷ rest) c = (judged g c (cycle_of move) ≡ None) × MovesPass g rest (lone_behind g (cycle_of move) c)

abbrev pub lone_after : Parts → List Move → Lone → Lone
lone_after g [] c = c
lone_after g (move ∷ rest) c = lone_after g rest (lone_behind g (cycle_of move) c)

-- what moves that pass make of a past
pub record Plays (s : Channel) (moved : List Move) (past : List Item) (c : Lone) : Type 0 where
  pub p : Played
  pub plays : played s 0 moved past ≡ Some p
  pub is : IsLone s p.past (lone_after s.geometry moved c)

-- where the LUN is off, an output breaks a rule
no_driver : (g : Parts) (c : Lone) → c.view.latch ≡ Off → judged g c OutputCycle ≡ None → ⊥
unfolding breaks_command_unknown breaks_sequence_open breaks_several_luns breaks_no_column_to_change breaks_command_misplaced breaks_address_misplaced breaks_row_outside breaks_lun_busy breaks_queue_clash breaks_input_misplaced breaks_no_sole_driver
no_driver g c e h = let x : judged g c OutputCycle ≡ Some NoSoleDriver = rw (e, or-true (is_open c.facts)) refl in let y : Some NoSoleDriver ≡ None = sym x ∙ h in cc

drives : (s : Channel) (past : List Item) (c : Lone) → IsAlone s → IsLone s past c → judged s.geometry c OutputCycle ≡ None → is_only (drivers s.geometry past 0) 0 ≡ true
drives s past c k is h = on c.view.latch refl
  where
    on : (x : Latch) → c.view.latch ≡ x → is_only (drivers s.geometry past 0) 0 ≡ true
    on Off e = absurd (no_driver s.geometry c e h)
    on Status e = subst (λ (n : ℕ). is_only (drivers_from (λ m. latch s.geometry past (record { ce = 0; lun = m })) n 0) 0 ≡ true) (sym k.one) (let shows : latch s.geometry past the_lun ≡ Status = ap (λ (v : LunView). v.latch) is.view ∙ e in rw shows refl)
    on Data e = subst (λ (n : ℕ). is_only (drivers_from (λ m. latch s.geometry past (record { ce = 0; lun = m })) n 0) 0 ≡ true) (sym k.one) (let shows : latch s.geometry past the_lun ≡ Data = ap (λ (v : LunView). v.latch) is.view ∙ e in rw shows refl)

pub moves_play : (s : Channel) (moved : List Move) (past : List Item) (c : Lone) → IsAlone s → IsLone s past c → MovesPass s.geometry moved c → Plays s moved past c
moves_play s [] past c k is pass = record { p = record { past = past; bytes = [] }; plays = refl; is = is }
moves_play s (Give kind byte ∷ rest) past c k is pass =
    let more = moves_play s rest (cycle 0 kind byte ∷ past) (lone_behind s.geometry (target_cycle kind byte) c) k (lone_next s past c k is kind byte pass.0) pass.1 in
    record { p = more.p; plays = more.plays; is = more.is }
moves_play s (Take ∷ rest) past c k is pass =
    let shown = outputs.has_byte s k.is_channel past the_lun 0 (broken_is s past c k is Dout 0 ∙ pass.0) (drives s past c k is pass.0) in
    let more = moves_play s rest (cycle 0 Dout shown.0 ∷ past) (lone_behind s.geometry OutputCycle c) k (lone_next s past c k is Dout shown.0 pass.0) pass.1 in
    record {
      p = record { past = more.p.past; bytes = shown.0 ∷ more.p.bytes };
      plays = ap (λ (o : Option ℕ). and_then o (λ byte. and_then (played s 0 rest (cycle 0 Dout byte ∷ past)) (with_byte byte))) shown.1 ∙ ap (λ (o : Option Played). and_then o (with_byte shown.0)) more.plays;
      is = more.is;
    }

-- first moves that pass, and one that breaks a rule of a sort
pub stops_there : (s : Channel) (first : List Move) (next : Move) (rest : List Move) (past : List Item) (c : Lone) (sort : Forbidden → Bool) → IsAlone s → IsLone s past c → MovesPass s.geometry first c → (rule : Forbidden) → judged s.geometry (lone_after s.geometry first c) (cycle_of next) ≡ Some rule → sort rule ≡ true → Stops s (first ++ (next ∷ rest)) past sort
stops_there s first next rest past c sort k is pass rule breaks sorted =
    let q = moves_play s first past c k is pass in
    record {
      first = first;
      next = next;
      rest = rest;
      parts = refl;
      p = q.p;
      plays = q.plays;
      legal = q.is.legal;
      rule = rule;
      breaks = by next breaks q.is;
      sorted = sorted;
    }
  where
    by : (next : Move) → judged s.geometry (lone_after s.geometry first c) (cycle_of next) ≡ Some rule → {later : List Item} → IsLone s later (lone_after s.geometry first c) → broken s.geometry s.targets later (item_of next) ≡ Some rule
    by (Give kind byte) h {later} at = broken_is s later (lone_after s.geometry first c) k at kind byte ∙ h
    by Take h {later} at = broken_is s later (lone_after s.geometry first c) k at Dout 0 ∙ h

-- 3. the ready before a wait

may_come : (s : Channel) (past : List Item) (c : Lone) → IsAlone s → IsLone s past c → c.view.busy ≡ true → broken s.geometry s.targets past (Rdy 0 0 no_failures) ≡ None
unfolding breaks_not_there
may_come s past c k is busy = rw (k.target, luns_are s past c k is, busy) refl

pub ready_next : (s : Channel) (past : List Item) (c : Lone) → IsAlone s → IsLone s past c → c.view.busy ≡ true → IsLone s (Rdy 0 0 no_failures ∷ past) (record { facts = c.facts; view = record c.view { busy = false; array_busy = c.view.array_busy || (c.view.busy && leaves_array_busy c.view.closer) } })
ready_next s past c k is busy =
    let permitted : broken s.geometry s.targets past (Rdy 0 0 no_failures) ≡ None = may_come s past c k is busy in
    record {
      legal = facts.legal s.geometry s.targets past (Rdy 0 0 no_failures) is.legal permitted;
      facts = is.facts;
      view = readies.own s.geometry past the_lun no_failures ∙ ap (λ (v : LunView). record v { busy = false; array_busy = v.array_busy || (v.busy && leaves_array_busy v.closer) }) is.view;
    }
