-- What a cycle of a legal trace of the base profile does to who is at work where.
use Rattle.std.proofs.Common.{◌≡◌, ◌⊎◌, inl, inr, ℕ, zero, suc, ◌<◌, ◌≤◌, ◌==◌, Bool, true, false, ◌&&◌, ◌||◌, not, cond, List, ◌∷◌, Option, Some, None, is_some, refl, sym, ap, ◌∙◌, subst, arith, length, slice_set, eqb-true, ltb, ◌+◌, ◌++◌, [], ltb-true, lt-ltb}
use Rattle.std.specs.Prelude.{slice_get}
use Rattle.std.proofs.lemmas.Bool.{and_parts, or_from, false_from_ne_true}
use Rattle.std.proofs.lemmas.Option.{slice_get_within}
use Rattle.nand_geometry.specs.declared.parts.Parts.{Parts}
use Rattle.nand_geometry.specs.Optional.{no_optional}
use Rattle.onfi_cycle.specs.declared.command.Command.{Command}
use Rattle.onfi_cycle.specs.declared.command.Command.TheVariants.{ChangeWriteColumn, ReadCacheSequential}
use Rattle.onfi_cycle.specs.declared.item.Cycle.{Cycle as BusCycle}
use Rattle.onfi_cycle.specs.declared.item.Item.{Item}
use Rattle.onfi_cycle.specs.declared.item.Item.TheVariants.{Cyc}
use Rattle.onfi_cycle.specs.declared.item.Kind.{Kind}
use Rattle.onfi_cycle.specs.declared.item.Kind.TheVariants.{Cmd, Adr, Din, Dout}
use Rattle.onfi_cycle.specs.declared.lun.Lun.{Lun}
use Rattle.onfi_cycle.specs.declared.tail_facts.TailFacts.{TailFacts}
use Rattle.onfi_cycle.specs.declared.target_cycle.TargetCycle.{TargetCycle}
use Rattle.onfi_cycle.specs.declared.target_cycle.TargetCycle.TheVariants.{CommandCycle}
use Rattle.onfi_cycle.specs.LunView.{LunView}
use Rattle.onfi_cycle.specs.Command.{command, is_known}
use Rattle.onfi_cycle.specs.Lun.{luns_of}
use Rattle.onfi_cycle.specs.Permitted.{broken, is_legal}
use Rattle.onfi_cycle.specs.Rules.{opens_here}
use Rattle.trace_faults.specs.Outside.{begins_alone}
use Rattle.onfi_cycle.specs.Sequence.{target_cycle, with_cycle, tail, opening, facts_of, wants, wants_command, is_open}
use Rattle.onfi_cycle.specs.Working.{IsLun}
use Rattle.onfi_cycle.proofs.Booleans.{clash}
use Rattle.onfi_cycle.proofs.CommandBytes.{commands_have_bytes}
use Rattle.onfi_cycle.proofs.Passed.{KeepsRules, permitted_keeps}
use Rattle.trace_ops.specs.declared.change.Change.{Change}
use Rattle.trace_ops.specs.declared.change.Change.TheVariants.{End, Begin}
use Rattle.trace_ops.specs.declared.judged.Judged.{Judged}
use Rattle.trace_ops.specs.declared.looks.Looks.{Looks}
use Rattle.trace_ops.specs.declared.operation.Beginning.{Beginning}
use Rattle.trace_ops.specs.declared.operation.Beginning.TheVariants as begins
use Rattle.trace_ops.specs.declared.operation.Ending.{Ending}
use Rattle.trace_ops.specs.declared.operation.Ending.TheVariants as ends
use Rattle.trace_ops.specs.declared.operation.Operation.{Operation}
use Rattle.trace_ops.specs.Operation.{opener_of, is_byte, is_unknown, selects_column, is_output, changed, changed_at}
use Rattle.trace_ops.specs.AtWork.{begins_work}
use Rattle.trace_ops.specs.Listing.{Listing, found, worker, op_of, look_at, is_busy, has_failed, end_by, ended_if, ended_on, is_open_read_op, closes_read, begins_one, cycle_owner, new_by_command, new_one, number_of, with_new, is_address_kind, change_of, unfolded, begins_by, starts_on, abandoned_by, begun_on, all_begun, role_of_kind, role_by, all_selected, with_ends, owner_in, mark_in, listed, opens_alone}
use Rattle.trace_ops.proofs.Quiet.{is_plain, plain_is_quiet, by_ends, by_unfold, by_begin, by_begins, by_selects}
use Rattle.trace_ops.proofs.Changed.{by, there}
use Rattle.trace_ops.proofs.Contents.{Content, opener_begins, wanted_begins_none}
use Rattle.trace_ops.proofs.HeldReads.{kept_of, whole_read, Held, whole_is_open}
use Rattle.trace_ops.proofs.Pieces.{Each, each_quiet, Holds, Stands, newest_by, listed_newest, found_same, found_other, found_below, kept_beginning}
use Rattle.trace_ops.proofs.Spans.{same_some, which}
use Rattle.trace_ops.proofs.Tails.{split, base_opens, base_shut, tail_own, tail_other, target_below, known_command, wanted_command, wanted_address, wanted_input, no_command}
use Rattle.trace_ops.proofs.Walks.{came, length_ends, mark_new}
use Rattle.trace_ops.proofs.Within.{AreWithin}
use Rattle.trace_ops.proofs.Addressed.{base_command, fits_of, command_sets, address_sets, status_address}
use Rattle.trace_ops.proofs.AtWork.{Alike, alike_self, alike_on, From, changed_from, Tells, tells_alike, tells_same, tells_new}
use Rattle.trace_ops.proofs.Dated.{Dated, dated_alike, dated_later, dated_new, dated_end, dated_turn, dated_begin}
use Rattle.trace_ops.proofs.Domestic.{Every, every_at, every_quiet, every_new, Domestic, quiet_domestic, works_at_home, keep, FitsKind, FitsItem, begun_domestic, domestic_came, domestic_listed, base_closer}
use Rattle.trace_ops.proofs.Legal.{permitted_as, busy_of, Sees, works_there, at_lun, begins_between, begins_starts, begins_there, begins_busy, work_between, work_elsewhere, rests_busy, never_ends, busy_elsewhere, one_begins, output_begins}
use Rattle.trace_ops.proofs.Quietly.{came_alike, sets, Settles, BeginsAt, selects_alike, selects_workers, rest_alike}
use Rattle.trace_ops.proofs.Starts.{starts_by, IsEnded, ended_wants, output_ended, starts_ended}
use Rattle.trace_ops.proofs.Turns.{put_at, put_own, put_other, same_lun, ended_ce, ended_start, workers_with, ops_with, Freed, freed, tells_begun}

-- the newest operation of a target is one of it, and where that has begun work its sequence has ended
abbrev pub Resting : List (Option ℕ) → List Item → ℕ → Operation → Type 0
Resting newest past k o = (d : ℕ) → found newest d ≡ Some k → (o.ce ≡ d) × (is_some o.start ≡ true → IsEnded (facts_of (tail past d)))

pub resting_alike : (newest : List (Option ℕ)) (past : List Item) (ops more : List Operation) → Alike ops more → Every (Resting newest past) ops → Every (Resting newest past) more
resting_alike newest past ops more alike all k w is d h =
    let back = alike.back k w is in
    let was = all k back.old back.is_there d h in
    (back.core.ce ∙ was.0, (λ s. was.1 (ap (λ (x : Option ℕ). is_some x) (sym back.core.start) ∙ s)))

-- a permitted cycle that goes on with a sequence is wanted
wanted_by : (g : Parts) (t : TailFacts) (luns : List LunView) (kind : Kind) (byte : ℕ) → g.optional ≡ no_optional → KeepsRules g t luns (target_cycle kind byte) → is_output kind ≡ false →
    begins_alone (target_cycle kind byte) ≡ false → wants t (target_cycle kind byte) ≡ true
wanted_by g t luns Cmd byte base keeps input opens = wanted_command g t (command byte) keeps.f6 (base_opens g (command byte) base opens)
wanted_by g t luns Adr byte base keeps input opens = wanted_address g t byte keeps.f7
wanted_by g t luns Din byte base keeps input opens = wanted_input t byte keeps.f11
wanted_by g t luns Dout byte base keeps input opens = cc

output_tail : (kind : Kind) (byte : ℕ) (t : List TargetCycle) → is_output kind ≡ true → IsEnded (facts_of (with_cycle (target_cycle kind byte) t))
output_tail Cmd byte t h = cc
output_tail Adr byte t h = cc
output_tail Din byte t h = cc
output_tail Dout byte t h = output_ended t

-- a cycle of a trace that is legal so far, and all that is known before it
pub record CycleAt (g : Parts) (targets n : ℕ) (past : List Item) (marks : List ℕ) (c : BusCycle) (before after : Looks) (l : Listing) (pieces : ℕ → List TargetCycle) : Type 0 where
  pub few : targets ≤ 4
  pub luns : g.luns ≤ 4
  pub base : g.optional ≡ no_optional
  pub legal : is_legal g targets past ≡ true
  pub permitted : broken g targets past (Cyc c) ≡ None
  pub sees : Sees g targets past c.ce before
  pub saw : Sees g targets (Cyc c ∷ past) c.ce after
  pub within : AreWithin (length l.ops) l.places
  pub stands : Stands past l pieces
  pub domestic : Every (λ k. Domestic) l.ops
  pub resting : Every (Resting l.places.newest past) l.ops
  pub tells : Tells (busy_of g targets past) l.places.workers l.ops
  pub number : n ≡ length past
  pub many : length marks ≡ length past
  pub dated : Dated g targets past marks n l.ops

lun_is : (x : Lun) (ce lun : ℕ) → x.ce ≡ ce → x.lun ≡ lun → x ≡ at_lun ce lun
lun_is x ce lun p q = ap (λ a. at_lun a x.lun) p ∙ ap (at_lun ce) q

-- an operation whose LUN is the one that begins work
pub record Settled (c : BusCycle) (before after : Looks) (o : Operation) : Type 0 where
  pub lun : ℕ
  pub few : lun < 4
  pub begins : begins_between c before after lun ≡ true
  pub is : o.lun ≡ Some lun

-- who is at work once work has begun
pub record Turned (g : Parts) (targets n : ℕ) (past : List Item) (marks : List ℕ) (c : BusCycle) (before after : Looks) (newest : List (Option ℕ)) (mark : ℕ) (l : Listing) : Type 0 where
  pub tells : Tells (busy_of g targets (Cyc c ∷ past)) l.places.workers l.ops
  pub resting : Every (Resting newest (Cyc c ∷ past)) l.ops
  pub domestic : Every (λ k. Domestic) l.ops
  pub dated : Dated g targets (Cyc c ∷ past) (marks ++ (mark ∷ [])) (n + 1) l.ops
  pub settled : is_output c.kind ≡ false → (o : Operation) → slice_get l.ops mark ≡ Some o → is_some o.start ≡ true → Settled c before after o

nothing_more : (x a b d : Bool) → (x || (a && (b && (d && false)))) ≡ x
nothing_more true a b d = refl
nothing_more false false b d = refl
nothing_more false true false d = refl
nothing_more false true true true = refl
nothing_more false true true false = refl

pub output_is : (kind : Kind) → is_output kind ≡ true → kind ≡ Dout
output_is Cmd h = cc
output_is Adr h = cc
output_is Din h = cc
output_is Dout h = refl

plainly_domestic : (m : ℕ) (c : Change) (ops : List Operation) → is_plain c ≡ true → Every (λ k. Domestic) ops → Every (λ k. Domestic) (changed_at m c ops)
plainly_domestic m c ops plain all = every_quiet (λ k. Domestic) (λ k d o quiet h. quiet_domestic d o quiet h) m c ops (plain_is_quiet c plain) all

pub few_or : (b : ℕ) → (b < 4) ⊎ (b < 4 → ⊥)
few_or b = at (ltb b 4) refl
  where
    at : (x : Bool) → ltb b 4 ≡ x → (b < 4) ⊎ (b < 4 → ⊥)
    at true e = inl (ltb-true b 4 e)
    at false e = inr (λ h. clash (ltb b 4) (lt-ltb b 4 h) e)

module _ (g : Parts) (targets n : ℕ) (one_lun : Bool) (past : List Item) (marks : List ℕ) (c : BusCycle) (before after : Looks) (l : Listing) (pieces : ℕ → List TargetCycle)
    (here : CycleAt g targets n past marks c before after l pieces) where
  abbrev pub j : Judged
  j = permitted_as one_lun n (Cyc c) before after

  abbrev pub owner : Option ℕ
  owner = owner_in j (with_ends j l)

  abbrev pub mark : ℕ
  mark = mark_in j (with_ends j l)

  abbrev many : ℕ
  many = length (with_ends j l).ops

  -- the operations with a new one, if the cycle comes to that
  abbrev pub more : List Operation
  more = (with_new owner j (with_ends j l)).ops

  pub target_few : c.ce < 4
  target_few = (let small = target_below g targets past c here.permitted in let all = here.few in omega (arith, small, all))

  pub keeps : KeepsRules g (facts_of (tail past c.ce)) (luns_of g past c.ce) (target_cycle c.kind c.byte)
  keeps = permitted_keeps g targets past c here.permitted

  -- ---- no cycle ends work

  no_end : (lun : ℕ) → lun < 4 → end_by j (Cyc c) lun ≡ None
  no_end lun lt = at (is_output c.kind)
    where
      at : (x : Bool) → cond (x && (is_busy (look_at before lun) && not (is_busy (look_at after lun)))) (Some (ends.Shown n (has_failed c.byte))) None ≡ None
      at true = ap (λ b. cond b (Some (ends.Shown n (has_failed c.byte))) None) (never_ends g targets past c before after here.sees here.saw lun lt)
      at false = refl

  rest_on : (lun : ℕ) → lun < 4 → (ops : List Operation) → ended_on j lun l.places ops ≡ ops
  rest_on lun lt ops = ap (λ (x : Option Ending). ended_if x (worker l.places c.ce lun) ops) (no_end lun lt)

  pub same_ops : (with_ends j l).ops ≡ l.ops
  same_ops = rest_on 3 (omega arith) _ ∙ rest_on 2 (omega arith) _ ∙ rest_on 1 (omega arith) _ ∙ rest_on 0 (omega arith) l.ops

  pub on_ends : (D : ℕ → Operation → Type 0) → Every D l.ops → Every D (with_ends j l).ops
  on_ends D all = subst (λ (ops : List Operation). Every D ops) (sym same_ops) all

  -- ---- the operation that the cycle comes to

  -- what is known of its sequence
  held_at : (m : ℕ) (o : Operation) → found l.places.newest c.ce ≡ Some m → slice_get (with_ends j l).ops m ≡ Some o → Held o.beginning (kept_of o) (tail past c.ce)
  held_at m o newest is =
      by_ends (Each (Holds l.places.newest past)) (each_quiet (Holds l.places.newest past)) j l.places l.ops here.stands.content m o is c.ce newest

  content_at : (m : ℕ) (o : Operation) → found l.places.newest c.ce ≡ Some m → slice_get (with_ends j l).ops m ≡ Some o → Content o.beginning o.closer (tail past c.ce)
  content_at m o newest is =
      (held_at m o newest is).content

  -- no 31h that is permitted closes a read
  pub closes_no_read : (kind : Kind) → kind ≡ Cmd → KeepsRules g (facts_of (tail past c.ce)) (luns_of g past c.ce) (target_cycle kind c.byte) → closes_read (op_of (with_ends j l).ops (found l.places.newest c.ce)) c.byte ≡ false
  closes_no_read Adr e kept = cc
  closes_no_read Din e kept = cc
  closes_no_read Dout e kept = cc
  closes_no_read Cmd e kept = at (closes_read newest c.byte) refl
    where
      newest : Option Operation
      newest = op_of (with_ends j l).ops (found l.places.newest c.ce)

      reads : (k : Option ℕ) → found l.places.newest c.ce ≡ k → (o : Option Operation) → op_of (with_ends j l).ops k ≡ o → is_open_read_op o ≡ true → opening (tail past c.ce) ≡ Some whole_read
      reads None p None q r = cc
      reads None p (Some o) q r = cc
      reads (Some k) p None q r = cc
      reads (Some k) p (Some o) q r = (held_at k o p q).reads r

      at : (b : Bool) → closes_read newest c.byte ≡ b → b ≡ false
      at false h = refl
      at true h =
          let both = and_parts (c.byte == 0x31) (is_open_read_op newest) h in
          let code = commands_have_bytes.command_of_byte ReadCacheSequential c.byte (ap Some (sym (eqb-true c.byte 0x31 both.0))) in
          absurd (clash (is_open (facts_of (tail past c.ce))) (whole_is_open (tail past c.ce) (reads (found l.places.newest c.ce) refl newest refl both.1))
          (base_shut g (facts_of (tail past c.ce)) (command c.byte) here.base kept.f3 (ap (λ (x : Command). opens_here g x) code)))

  pub owned_by : (kind : Kind) → KeepsRules g (facts_of (tail past c.ce)) (luns_of g past c.ce) (target_cycle kind c.byte) → is_output kind ≡ false → (m : ℕ) → cycle_owner (with_ends j l).ops l.places j c kind ≡ Some m →
      (found l.places.newest c.ce ≡ Some m) × (begins_alone (target_cycle kind c.byte) ≡ false)
  owned_by Cmd kept input m h = at (begins_one (op_of (with_ends j l).ops (found l.places.newest c.ce)) c.byte) refl h
    where
      no_opener : (b : Bool) → opens_alone c.byte ≡ b → begins_one (op_of (with_ends j l).ops (found l.places.newest c.ce)) c.byte ≡ false → opens_alone c.byte ≡ false
      no_opener true e none = absurd (clash _ (opener_begins (op_of (with_ends j l).ops (found l.places.newest c.ce)) c.byte e (closes_no_read Cmd refl kept)) none)
      no_opener false e none = e

      at : (b : Bool) → begins_one (op_of (with_ends j l).ops (found l.places.newest c.ce)) c.byte ≡ b → cond b None (found l.places.newest c.ce) ≡ Some m →
          (found l.places.newest c.ce ≡ Some m) × (begins_alone (target_cycle Cmd c.byte) ≡ false)
      at true e h = cc
      at false e h = (h, no_opener (opens_alone c.byte) refl e)
  owned_by Adr kept input m h = (h, refl)
  owned_by Din kept input m h = (h, refl)
  owned_by Dout kept input m h = cc

  new_ce : (kind : Kind) (newest : Option Operation) → (new_by_command j newest c kind).ce ≡ c.ce
  new_ce Cmd newest = by (λ (z : Operation). z.ce) (begins_one newest c.byte) _ _ c.ce refl refl
  new_ce Adr newest = refl
  new_ce Din newest = refl
  new_ce Dout newest = refl

  pub new_start : (kind : Kind) (newest : Option Operation) → (new_by_command j newest c kind).start ≡ None
  new_start Cmd newest = by (λ (z : Operation). z.start) (begins_one newest c.byte) _ _ None refl refl
  new_start Adr newest = refl
  new_start Din newest = refl
  new_start Dout newest = refl

  new_end : (kind : Kind) (newest : Option Operation) → (new_by_command j newest c kind).end ≡ None
  new_end Cmd newest = by (λ (z : Operation). z.end) (begins_one newest c.byte) _ _ None refl refl
  new_end Adr newest = refl
  new_end Din newest = refl
  new_end Dout newest = refl

  unstarted : (o : Operation) → (o.start ≡ None) → is_some o.start ≡ false
  unstarted o h = ap (λ (x : Option ℕ). is_some x) h

  abbrev New : Operation → Type 0
  New o = (o.ce ≡ c.ce) × (is_some o.start ≡ false)

  -- of a cycle that is no output it is one of its target, and hasn't begun work
  mine_by : is_output c.kind ≡ false → (x : Option ℕ) → owner ≡ x → (o : Operation) → slice_get (with_new x j (with_ends j l)).ops (number_of x (with_ends j l).ops) ≡ Some o → New o
  mine_by input None h o is = at (which (with_ends j l).ops _ many o is)
    where
      at : (slice_get (with_ends j l).ops many ≡ Some o) ⊎ ((many ≡ many) × (o ≡ new_one j (op_of (with_ends j l).ops (found l.places.newest c.ce)) (Cyc c))) → New o
      at (inl old) = absurd (let small = slice_get_within (with_ends j l).ops many o old in omega (arith, small))
      at (inr new) = (
        ap (λ (z : Operation). z.ce) new.1 ∙ new_ce c.kind (op_of (with_ends j l).ops (found l.places.newest c.ce)),
        ap (λ (z : Operation). is_some z.start) new.1 ∙ ap (λ (x : Option ℕ). is_some x) (new_start c.kind (op_of (with_ends j l).ops (found l.places.newest c.ce))),
      )
  mine_by input (Some m) h o is = (rests.0, at (is_some o.start) refl)
    where
      newest : (found l.places.newest c.ce ≡ Some m) × (begins_alone (target_cycle c.kind c.byte) ≡ false)
      newest = owned_by c.kind keeps input m h

      rests : (o.ce ≡ c.ce) × (is_some o.start ≡ true → IsEnded (facts_of (tail past c.ce)))
      rests = on_ends (Resting l.places.newest past) here.resting m o is c.ce newest.0

      at : (b : Bool) → is_some o.start ≡ b → is_some o.start ≡ false
      at true e =
          absurd (clash (wants (facts_of (tail past c.ce)) (target_cycle c.kind c.byte))
          (wanted_by g (facts_of (tail past c.ce)) (luns_of g past c.ce) c.kind c.byte here.base keeps input newest.1)
          (ended_wants (facts_of (tail past c.ce)) (target_cycle c.kind c.byte) (rests.1 e)))
      at false e = e

  pub mine : is_output c.kind ≡ false → (o : Operation) → slice_get more mark ≡ Some o → New o
  mine input o is = mine_by input owner refl o is

  -- ---- it is one that the model knows

  base_known : (kind : Kind) → KeepsRules g (facts_of (tail past c.ce)) (luns_of g past c.ce) (target_cycle kind c.byte) → kind ≡ Cmd → is_unknown c.byte ≡ false
  base_known Cmd kept e = ap not (base_command g (command c.byte) here.base kept.f2)
  base_known Adr kept e = cc
  base_known Din kept e = cc
  base_known Dout kept e = cc

  fits_kind : (kind : Kind) → KeepsRules g (facts_of (tail past c.ce)) (luns_of g past c.ce) (target_cycle kind c.byte) → (o : Operation) →
      (kind ≡ Adr → Content o.beginning o.closer (tail past c.ce)) → FitsKind kind c.byte o.beginning
  fits_kind Cmd kept o content = base_closer c.byte (base_known Cmd kept refl)
  fits_kind Adr kept o content =
      fits_of g o.beginning o.closer (tail past c.ce) c.byte here.base (content refl) kept.f7 (wanted_address g (facts_of (tail past c.ce)) c.byte kept.f7)
  fits_kind Din kept o content = tt
  fits_kind Dout kept o content = tt

  fits_by : (x : Option ℕ) → owner ≡ x → (o : Operation) → slice_get (with_ends j l).ops (number_of x (with_ends j l).ops) ≡ Some o → FitsItem (Cyc c) o.beginning
  fits_by None h o is = absurd (let small = slice_get_within (with_ends j l).ops many o is in omega (arith, small))
  fits_by (Some m) h o is = fits_kind c.kind keeps o (λ e. content_at m o (owned_by c.kind keeps (ap is_output e) m h).0 is)

  -- a command that goes on with a sequence comes to the newest operation
  pub goes_to : (k : ℕ) → found l.places.newest c.ce ≡ Some k → is_known (command c.byte) ≡ true → opens_alone c.byte ≡ false →
      wants_command (facts_of (tail past c.ce)) (command c.byte) ≡ true → cycle_owner (with_ends j l).ops l.places j c Cmd ≡ Some k
  goes_to k h known opens wanted =
      let small = found_below (length l.ops) l.places.newest c.ce k here.within.newest h in
      let same = length_ends j l in
      let o = there (with_ends j l).ops k (omega (arith, small, same)) in
      let none = wanted_begins_none o.0 (tail past c.ce) c.byte (content_at k o.0 h o.1) known opens wanted in
      ap (λ x. cond (begins_one (op_of (with_ends j l).ops x) c.byte) None x) h ∙ ap (λ x. cond (begins_one x c.byte) None (Some k)) o.1 ∙ ap (λ x. cond x None (Some k)) none

  not_column : (kind : Kind) → KeepsRules g (facts_of (tail past c.ce)) (luns_of g past c.ce) (target_cycle kind c.byte) → kind ≡ Cmd →
      cycle_owner (with_ends j l).ops l.places j c Cmd ≡ None → (c.byte == 0x85) ≡ false
  not_column Adr kept e none = cc
  not_column Din kept e none = cc
  not_column Dout kept e none = cc
  not_column Cmd kept e none = at (c.byte == 0x85) refl
    where
      no : {m : ℕ} → Some m ≡ None → ⊥
      no x = cc

      by_newest : (x : Option ℕ) → found l.places.newest c.ce ≡ x → opens_alone c.byte ≡ false → ⊥
      by_newest None h opens =
          no_command (command c.byte)
          (ap (λ (t : List TargetCycle). wants_command (facts_of t) (command c.byte)) (sym (here.stands.nobody c.ce target_few h))
          ∙ wanted_command g (facts_of (tail past c.ce)) (command c.byte) kept.f6 (base_opens g (command c.byte) here.base opens))
      by_newest (Some k) h opens =
          no (sym (goes_to k h (known_command g (command c.byte) kept.f2) opens
          (wanted_command g (facts_of (tail past c.ce)) (command c.byte) kept.f6 (base_opens g (command c.byte) here.base opens))) ∙ none)

      at : (b : Bool) → (c.byte == 0x85) ≡ b → (c.byte == 0x85) ≡ false
      at true h =
          absurd (by_newest (found l.places.newest c.ce) refl
          (ap (λ (x : Command). begins_alone (CommandCycle x)) (commands_have_bytes.command_of_byte ChangeWriteColumn c.byte (ap Some (sym (eqb-true c.byte 0x85 h))))))
      at false h = h

  new_domestic : (kind : Kind) → KeepsRules g (facts_of (tail past c.ce)) (luns_of g past c.ce) (target_cycle kind c.byte) → (kind ≡ Cmd → (c.byte == 0x85) ≡ false) → (newest : Option Operation) →
      Domestic (new_by_command j newest c kind) × FitsKind kind c.byte (new_by_command j newest c kind).beginning
  new_domestic Cmd kept apart newest = (
    keep (begins_one newest c.byte) _ _
        (begun_domestic c.ce n (begins.Opener c.byte) (or_from (is_unknown c.byte && not (selects_column c.byte)) (c.byte == 0x85) (ap (λ b. b && not (selects_column c.byte)) (base_known Cmd kept refl)) (apart refl))) (begun_domestic c.ce n begins.Cut refl),
    base_closer c.byte (base_known Cmd kept refl),
  )
  new_domestic Adr kept apart newest = (begun_domestic c.ce n begins.Cut refl, record { identifier = λ h. cc; parameters = λ h. cc })
  new_domestic Din kept apart newest = (begun_domestic c.ce n begins.Cut refl, tt)
  new_domestic Dout kept apart newest = (begun_domestic c.ce n begins.Cut refl, tt)

  pub domestic_here : Every (λ k. Domestic) (came j l).ops
  domestic_here =
      domestic_came j l here.domestic (λ o is. fits_by owner refl o is)
      (λ h. new_domestic c.kind keeps (λ e. not_column c.kind keeps e (ap (cycle_owner (with_ends j l).ops l.places j c) (sym e) ∙ h)) (op_of (with_ends j l).ops (found l.places.newest c.ce)))

  -- ---- the newest operation of each target rests, where it has begun work

  abbrev pub newest_after : List (Option ℕ)
  newest_after = newest_by owner (Cyc c) c.ce many l.places.newest

  elsewhere : (d k : ℕ) (o : Operation) → (c.ce ≡ d → ⊥) → found l.places.newest d ≡ Some k → slice_get (with_ends j l).ops k ≡ Some o →
      (o.ce ≡ d) × (is_some o.start ≡ true → IsEnded (facts_of (tail (Cyc c ∷ past) d)))
  elsewhere d k o away newest is =
      let was = on_ends (Resting l.places.newest past) here.resting k o is d newest in
      (was.0, (λ s. subst (λ (t : List TargetCycle). IsEnded (facts_of t)) (sym (tail_other c past d away)) (was.1 s)))

  rest_old : (m : ℕ) → owner ≡ Some m → Every (Resting l.places.newest (Cyc c ∷ past)) (with_ends j l).ops
  rest_old m h k o is d newest = at (split c.ce d)
    where
      ended : c.ce ≡ d → (b : Bool) → is_output c.kind ≡ b → is_some o.start ≡ true → IsEnded (facts_of (tail (Cyc c ∷ past) d))
      ended same true out s =
          subst (λ (x : ℕ). IsEnded (facts_of (tail (Cyc c ∷ past) x))) same
          (subst (λ (t : List TargetCycle). IsEnded (facts_of t)) (sym (tail_own c past)) (output_tail c.kind c.byte (tail past c.ce) out))
      ended same false input s =
          let owned = (owned_by c.kind keeps input m h).0 in
          let number : k ≡ m = same_some (sym newest ∙ ap (found l.places.newest) (sym same) ∙ owned) in
          absurd (clash (is_some o.start) s (mine_by input (Some m) h o (ap (slice_get (with_ends j l).ops) (sym number) ∙ is)).1)

      at : (c.ce ≡ d) ⊎ (c.ce ≡ d → ⊥) → (o.ce ≡ d) × (is_some o.start ≡ true → IsEnded (facts_of (tail (Cyc c ∷ past) d)))
      at (inl same) = ((on_ends (Resting l.places.newest past) here.resting k o is d newest).0, (λ s. ended same (is_output c.kind) refl s))
      at (inr away) = elsewhere d k o away newest is

  rest_by : (x : Option ℕ) → owner ≡ x → Every (Resting (newest_by x (Cyc c) c.ce many l.places.newest) (Cyc c ∷ past)) (with_new x j (with_ends j l)).ops
  rest_by (Some m) h = rest_old m h
  rest_by None h = every_new (Resting (slice_set l.places.newest c.ce (Some many)) (Cyc c ∷ past)) (with_ends j l).ops (new_one j (op_of (with_ends j l).ops (found l.places.newest c.ce)) (Cyc c)) old new
    where
      own : found (slice_set l.places.newest c.ce (Some many)) c.ce ≡ Some many
      own = found_same l.places.newest c.ce many (let f = here.stands.four in let t = target_few in omega (arith, f, t))

      old : Every (Resting (slice_set l.places.newest c.ce (Some many)) (Cyc c ∷ past)) (with_ends j l).ops
      old k o is d newest = at (split c.ce d)
        where
          at : (c.ce ≡ d) ⊎ (c.ce ≡ d → ⊥) → (o.ce ≡ d) × (is_some o.start ≡ true → IsEnded (facts_of (tail (Cyc c ∷ past) d)))
          at (inl same) = absurd (
              let number : many ≡ k = same_some (sym own ∙ ap (found (slice_set l.places.newest c.ce (Some many))) same ∙ newest) in
              let small = slice_get_within (with_ends j l).ops k o is in
              omega (arith, number, small)
              )
          at (inr away) = elsewhere d k o away (sym (found_other l.places.newest c.ce d (Some many) away) ∙ newest) is

      new : Resting (slice_set l.places.newest c.ce (Some many)) (Cyc c ∷ past) many (new_one j (op_of (with_ends j l).ops (found l.places.newest c.ce)) (Cyc c))
      new d newest = at (split c.ce d)
        where
          at : (c.ce ≡ d) ⊎ (c.ce ≡ d → ⊥) → ((new_one j (op_of (with_ends j l).ops (found l.places.newest c.ce)) (Cyc c)).ce ≡ d)
              × (is_some (new_one j (op_of (with_ends j l).ops (found l.places.newest c.ce)) (Cyc c)).start ≡ true → IsEnded (facts_of (tail (Cyc c ∷ past) d)))
          at (inl same) = (
            new_ce c.kind (op_of (with_ends j l).ops (found l.places.newest c.ce)) ∙ same,
            (λ s. absurd (clash _ s (ap (λ (x : Option ℕ). is_some x) (new_start c.kind (op_of (with_ends j l).ops (found l.places.newest c.ce)))))),
          )
          at (inr away) = absurd (
              let small = found_below (length l.ops) l.places.newest d many here.within.newest (sym (found_other l.places.newest c.ce d (Some many) away) ∙ newest) in
              let same = length_ends j l in
              omega (arith, small, same)
              )

  -- ---- once the cycle has come

  address_input : (kind : Kind) → is_address_kind kind ≡ true → is_output kind ≡ false
  address_input Cmd h = refl
  address_input Adr h = refl
  address_input Din h = refl
  address_input Dout h = cc

  pub came_like : Alike more (came j l).ops
  came_like = came_alike j l (λ o is e. (mine (address_input c.kind e) o is).1)

  pub resting_here : Every (Resting newest_after (Cyc c ∷ past)) (came j l).ops
  resting_here = resting_alike newest_after (Cyc c ∷ past) more (came j l).ops came_like (rest_by owner refl)

  tells_ends : Tells (busy_of g targets past) l.places.workers (with_ends j l).ops
  tells_ends = subst (λ (ops : List Operation). Tells (busy_of g targets past) l.places.workers ops) (sym same_ops) here.tells

  tells_by : (x : Option ℕ) → Tells (busy_of g targets past) l.places.workers (with_new x j (with_ends j l)).ops
  tells_by None =
      tells_new (busy_of g targets past) l.places.workers (with_ends j l).ops _ (new_start c.kind (op_of (with_ends j l).ops (found l.places.newest c.ce)))
      (new_end c.kind (op_of (with_ends j l).ops (found l.places.newest c.ce))) tells_ends
  tells_by (Some m) = tells_ends

  new_workers : (x : Option ℕ) → (with_new x j (with_ends j l)).places.workers ≡ l.places.workers
  new_workers None = refl
  new_workers (Some m) = refl

  pub tells_here : Tells (busy_of g targets past) (came j l).places.workers (came j l).ops
  tells_here =
      subst (λ (w : List (Option ℕ)). Tells (busy_of g targets past) w (came j l).ops) (sym (new_workers owner))
      (tells_alike (busy_of g targets past) l.places.workers more (came j l).ops came_like (tells_by owner))

  dated_ends : Dated g targets past marks (n + 1) (with_ends j l).ops
  dated_ends =
      dated_later g targets past marks n (n + 1) (with_ends j l).ops (omega arith) (subst (λ (ops : List Operation). Dated g targets past marks n ops) (sym same_ops) here.dated)

  dated_by : (x : Option ℕ) → Dated g targets past marks (n + 1) (with_new x j (with_ends j l)).ops
  dated_by (Some m) = dated_ends
  dated_by None =
      dated_new g targets past marks (n + 1) (with_ends j l).ops (new_one j (op_of (with_ends j l).ops (found l.places.newest c.ce)) (Cyc c))
      (new_start c.kind (op_of (with_ends j l).ops (found l.places.newest c.ce))) (new_end c.kind (op_of (with_ends j l).ops (found l.places.newest c.ce))) dated_ends

  pub dated_here : Dated g targets past marks (n + 1) (came j l).ops
  dated_here = dated_alike g targets past marks (n + 1) more (came j l).ops came_like (dated_by owner)

  -- ---- a question for the status starts no work

  asks_by : (x : Option ℕ) → owner ≡ x → c.kind ≡ Adr → (o : Operation) → slice_get (with_new x j (with_ends j l)).ops (number_of x (with_ends j l).ops) ≡ Some o →
      is_byte (opener_of o.beginning) 0x78 ≡ true → (lun : ℕ) → starts_by g past (at_lun c.ce lun) (target_cycle Adr c.byte) ≡ false
  asks_by None h e o is asks lun = at (which (with_ends j l).ops _ many o is)
    where
      no : is_byte None 0x78 ≡ true → ⊥
      no x = cc

      at : (slice_get (with_ends j l).ops many ≡ Some o) ⊎ ((many ≡ many) × (o ≡ new_by_command j (op_of (with_ends j l).ops (found l.places.newest c.ce)) c c.kind)) →
          starts_by g past (at_lun c.ce lun) (target_cycle Adr c.byte) ≡ false
      at (inl old) = absurd (let small = slice_get_within (with_ends j l).ops many o old in omega (arith, small))
      at (inr new) =
          let cut : o.beginning ≡ begins.Cut =
          ap (λ (z : Operation). z.beginning) new.1 ∙ ap (λ (k : Kind). (new_by_command j (op_of (with_ends j l).ops (found l.places.newest c.ce)) c k).beginning) e in
          absurd (no (ap (λ (x : Beginning). is_byte (opener_of x) 0x78) (sym cut) ∙ asks))
  asks_by (Some m) h e o is asks lun =
      status_address g past c.ce c.byte o.beginning o.closer (content_at m o (owned_by c.kind keeps (ap is_output e) m h).0 is) asks lun

  pub asks_none : c.kind ≡ Adr → (o : Operation) → slice_get more mark ≡ Some o → is_byte (opener_of o.beginning) 0x78 ≡ true →
      (lun : ℕ) → starts_by g past (at_lun c.ce lun) (target_cycle Adr c.byte) ≡ false
  asks_none e o is asks lun = asks_by owner refl e o is asks lun

  -- ---- which LUN begins work

  begin_once : (a b : ℕ) → a < 4 → b < 4 → begins_between c before after a ≡ true → (a ≡ b → ⊥) → begins_between c before after b ≡ false
  begin_once a b low less h apart =
      false_from_ne_true (begins_between c before after b)
      (λ e. apart (one_begins g targets past c before after here.sees here.saw here.base here.legal here.permitted a b low less h e))

  far : (items : List Item) (a b : ℕ) → (b < 4 → ⊥) → busy_of g targets items a b ≡ false
  far items a b high = false_from_ne_true (busy_of g targets items a b) (λ e. high (let few = (works_there g targets items a b e).few in let all = here.luns in omega (arith, few, all)))

  -- a LUN of the target that begins none does what it did
  rests_own : (a b : ℕ) → c.ce ≡ a → (b < 4 → begins_between c before after b ≡ false) → busy_of g targets (Cyc c ∷ past) a b ≡ busy_of g targets past a b
  rests_own a b same none = at (few_or b)
    where
      at : (b < 4) ⊎ (b < 4 → ⊥) → busy_of g targets (Cyc c ∷ past) a b ≡ busy_of g targets past a b
      at (inl low) =
          ap (λ x. busy_of g targets (Cyc c ∷ past) x b) (sym same) ∙ rests_busy g targets past c before after here.sees here.saw b low (none low) ∙ ap (λ x. busy_of g targets past x b) same
      at (inr high) = far (Cyc c ∷ past) a b high ∙ sym (far past a b high)

  rests_all : ((lun : ℕ) → lun < 4 → begins_between c before after lun ≡ false) → (a b : ℕ) → busy_of g targets (Cyc c ∷ past) a b ≡ busy_of g targets past a b
  rests_all none a b = at (split c.ce a)
    where
      at : (c.ce ≡ a) ⊎ (c.ce ≡ a → ⊥) → busy_of g targets (Cyc c ∷ past) a b ≡ busy_of g targets past a b
      at (inl same) = rests_own a b same (none b)
      at (inr away) = busy_elsewhere g targets past c before after here.sees here.saw a b away

  puts_all : (lun : ℕ) → lun < 4 → begins_between c before after lun ≡ true → (a b : ℕ) → busy_of g targets (Cyc c ∷ past) a b ≡ put_at (busy_of g targets past) c.ce lun true a b
  puts_all lun low h a b = at (same_lun a c.ce b lun)
    where
      other : ((a ≡ c.ce) → (b ≡ lun) → ⊥) → (c.ce ≡ a) ⊎ (c.ce ≡ a → ⊥) → busy_of g targets (Cyc c ∷ past) a b ≡ busy_of g targets past a b
      other apart (inl same) = rests_own a b same (λ less. begin_once lun b low less h (λ e. apart (sym same) (sym e)))
      other apart (inr away) = busy_elsewhere g targets past c before after here.sees here.saw a b away

      at : ((a ≡ c.ce) × (b ≡ lun)) ⊎ ((a ≡ c.ce) → (b ≡ lun) → ⊥) → busy_of g targets (Cyc c ∷ past) a b ≡ put_at (busy_of g targets past) c.ce lun true a b
      at (inl both) =
          ap (λ x. busy_of g targets (Cyc c ∷ past) x b) both.0 ∙ ap (busy_of g targets (Cyc c ∷ past) c.ce) both.1 ∙ begins_busy g targets past c before after here.sees here.saw lun low h
          ∙ sym (ap (λ x. put_at (busy_of g targets past) c.ce lun true x b) both.0 ∙ ap (put_at (busy_of g targets past) c.ce lun true c.ce) both.1 ∙ put_own (busy_of g targets past) c.ce lun true)
      at (inr apart) = other apart (split c.ce a) ∙ sym (put_other (busy_of g targets past) c.ce lun true a b apart)

  -- ---- the beginning of work

  abbrev begun_as : ℕ → Listing → Listing
  begun_as lun x = record { places = record x.places { workers = workers_with j mark lun x.places }; ops = ops_with j mark lun x.places x.ops }

  starts_so : (lun : ℕ) (x : Listing) → Every (λ k. Domestic) x.ops → starts_on j lun mark x.ops ≡ begins_between c before after lun
  starts_so lun x all =
      ap (λ w. begins_between c before after lun || (one_lun && (lun == 0 && (not (is_output c.kind) && w)))) (works_at_home x.ops mark all)
      ∙ nothing_more (begins_between c before after lun) one_lun (lun == 0) (not (is_output c.kind))

  pub skips : (lun : ℕ) (x : Listing) → begins_between c before after lun ≡ false → Every (λ k. Domestic) x.ops → begun_on j mark lun x ≡ x
  skips lun x h all = ap (λ b. cond b (begun_as lun x) x) (starts_so lun x all ∙ h)

  takes : (lun : ℕ) (x : Listing) → begins_between c before after lun ≡ true → Every (λ k. Domestic) x.ops → begun_on j mark lun x ≡ begun_as lun x
  takes lun x h all = ap (λ b. cond b (begun_as lun x) x) (starts_so lun x all ∙ h)

  domestic_on : (lun : ℕ) (x : Listing) → Every (λ k. Domestic) x.ops → Every (λ k. Domestic) (begun_on j mark lun x).ops
  domestic_on lun x all = by_begin (Every (λ k. Domestic)) plainly_domestic j mark lun x all

  small_mark : mark < length (came j l).ops
  small_mark = (let small = mark_new j l here.within in let long = came_like.long in omega (arith, small, long))

  pub mine_came : is_output c.kind ≡ false → (o : Operation) → slice_get (came j l).ops mark ≡ Some o → New o
  mine_came input o is =
      let back = came_like.back mark o is in
      let was = mine input back.old back.is_there in
      (back.core.ce ∙ was.0, ap (λ (x : Option ℕ). is_some x) back.core.start ∙ was.1)

  -- a LUN of the channel begins work where the looks say so
  work_is : (x : Lun) → IsLun g targets x → c.ce ≡ x.ce → begins_work g past (Cyc c) x ≡ begins_between c before after x.lun
  work_is x is same =
      ap (begins_work g past (Cyc c)) (lun_is x c.ce x.lun (sym same) refl)
      ∙ work_between g targets past c before after here.sees here.saw x.lun (let few = is.lun in let all = here.luns in omega (arith, few, all)) (subst (λ y. y < targets) (sym same) is.target) is.lun

  works_none : ((lun : ℕ) → lun < 4 → begins_between c before after lun ≡ false) → (x : Lun) → IsLun g targets x → begins_work g past (Cyc c) x ≡ false
  works_none none x is = at (split c.ce x.ce)
    where
      at : (c.ce ≡ x.ce) ⊎ (c.ce ≡ x.ce → ⊥) → begins_work g past (Cyc c) x ≡ false
      at (inl same) = work_is x is same ∙ none x.lun (let few = is.lun in let all = here.luns in omega (arith, few, all))
      at (inr away) = work_elsewhere g targets past c before after here.sees here.saw x away

  works_one : (lun : ℕ) → lun < 4 → begins_between c before after lun ≡ true → (x : Lun) → IsLun g targets x → begins_work g past (Cyc c) x ≡ true → x ≡ at_lun c.ce lun
  works_one lun low h x is begins = at (split c.ce x.ce)
    where
      at : (c.ce ≡ x.ce) ⊎ (c.ce ≡ x.ce → ⊥) → x ≡ at_lun c.ce lun
      at (inl same) =
          lun_is x c.ce lun (sym same)
          (one_begins g targets past c before after here.sees here.saw here.base here.legal here.permitted x.lun lun (let few = is.lun in let all = here.luns in omega (arith, few, all)) low
          (sym (work_is x is same) ∙ begins) h)
      at (inr away) = absurd (clash (begins_work g past (Cyc c) x) begins (work_elsewhere g targets past c before after here.sees here.saw x away))

  turned_none : ((lun : ℕ) → lun < 4 → begins_between c before after lun ≡ false) → Turned g targets n past marks c before after newest_after mark (came j l)
  turned_none none = record {
    dated = dated_turn g targets past (Cyc c) marks mark (n + 1) (came j l).ops (works_none none) dated_here;
    tells = tells_same (busy_of g targets past) (busy_of g targets (Cyc c ∷ past)) (came j l).places.workers (came j l).ops (rests_all none) tells_here;
    resting = resting_here;
    domestic = domestic_here;
    settled = λ input w is started. absurd (clash (is_some w.start) started (mine_came input w is).1);
  }

  begins_input : (lun : ℕ) → lun < 4 → begins_between c before after lun ≡ true → is_output c.kind ≡ false
  begins_input lun low h = at (is_output c.kind) refl
    where
      at : (b : Bool) → is_output c.kind ≡ b → is_output c.kind ≡ false
      at true e = absurd (clash (begins_between c before after lun) h (output_begins g targets past c before after here.sees here.saw lun low (output_is c.kind e)))
      at false e = e

  abbrev Turning : ℕ → Operation → Type 0
  Turning k o = Resting newest_after (Cyc c ∷ past) k o × (k ≡ mark → o.ce ≡ c.ce)

  turning_end : (m : ℕ) (e : Ending) (ops : List Operation) → Every Turning ops → Every Turning (changed_at m (End e) ops)
  turning_end m e ops all =
      every_at Turning Turning m (End e) ops (λ k o away d. d)
      (λ o is d. (
        (λ t h. (ended_ce e o ∙ (d.0 t h).0, (λ s. (d.0 t h).1 (ap (λ (x : Option ℕ). is_some x) (sym (ended_start e o)) ∙ s)))),
        (λ q. ended_ce e o ∙ d.1 q),
      )) all

  turning_abandon : (w : Option ℕ) (ops : List Operation) → Every Turning ops → Every Turning (abandoned_by j mark w ops)
  turning_abandon None ops all = all
  turning_abandon (Some old) ops all = at (old == mark)
    where
      at : (b : Bool) → Every Turning (cond b ops (changed_at old (End (ends.Abandoned n)) ops))
      at true = all
      at false = turning_end old (ends.Abandoned n) ops all

  dated_abandon : (w : Option ℕ) → Dated g targets past marks (n + 1) (abandoned_by j mark w (came j l).ops)
  dated_abandon None = dated_here
  dated_abandon (Some old) = at (old == mark)
    where
      at : (b : Bool) → Dated g targets past marks (n + 1) (cond b (came j l).ops (changed_at old (End (ends.Abandoned n)) (came j l).ops))
      at true = dated_here
      at false = dated_end g targets past marks (n + 1) (came j l).ops old (ends.Abandoned n) (omega arith) dated_here

  turned_one : (lun : ℕ) → lun < 4 → begins_between c before after lun ≡ true → Turned g targets n past marks c before after newest_after mark (begun_as lun (came j l))
  turned_one lun low h = record {
    tells =
        tells_same (put_at (busy_of g targets past) c.ce lun true) (busy_of g targets (Cyc c ∷ past)) (workers_with j mark lun (came j l).places) (ops_with j mark lun (came j l).places (came j l).ops)
        (puts_all lun low h)
        (tells_begun (busy_of g targets past) j mark lun (came j l).places (came j l).ops q.0 target_few low (mine_came input q.0 q.1).0 (mine_came input q.0 q.1).1 free);
    dated =
        dated_begin g targets past (Cyc c) marks mark n (put_at (busy_of g targets past) c.ce lun false) (came j l).places.workers
        (abandoned_by j mark (worker (came j l).places c.ce lun) (came j l).ops) (at_lun c.ce lun) q.0 here.many here.number is_lun (work_is (at_lun c.ce lun) is_lun refl ∙ h) (works_one lun low h) free.is
        (mine_came input q.0 q.1).0 (mine_came input q.0 q.1).1 (put_own (busy_of g targets past) c.ce lun false) free.tells (dated_abandon (worker (came j l).places c.ce lun));
    resting =
        every_at Turning (Resting newest_after (Cyc c ∷ past)) mark (Begin n lun) _ (λ k o away d. d.0)
        (λ o is d. λ t found'. ((d.0 t found').0, (λ s. subst (λ (x : ℕ). IsEnded (facts_of (tail (Cyc c ∷ past) x))) (sym (d.1 refl) ∙ (d.0 t found').0) ended)))
        (turning_abandon (worker (came j l).places c.ce lun) (came j l).ops
        (λ k o is. (resting_here k o is, (λ e. (mine_came input o (ap (slice_get (came j l).ops) (sym e) ∙ is)).0))));
    domestic = subst (λ (x : Listing). Every (λ k. Domestic) x.ops) (takes lun (came j l) h domestic_here) (domestic_on lun (came j l) domestic_here);
    settled = λ input' w is started. settled w (changed_from mark mark (Begin n lun) _ w is);
  }
    where
      input : is_output c.kind ≡ false
      input = begins_input lun low h

      q : (o : Operation) × (slice_get (came j l).ops mark ≡ Some o)
      q = there (came j l).ops mark small_mark

      free : Freed (busy_of g targets past) j mark lun (came j l).places (came j l).ops q.0
      free = freed (busy_of g targets past) j mark lun (came j l).places (came j l).ops q.0 low q.1 (mine_came input q.0 q.1).1 tells_here

      is_lun : IsLun g targets (at_lun c.ce lun)
      is_lun = (let there' = begins_there g targets past c before after here.sees here.saw lun low h in record { target = there'.target; lun = there'.few })

      ended : IsEnded (facts_of (tail (Cyc c ∷ past) c.ce))
      ended =
          subst (λ (t : List TargetCycle). IsEnded (facts_of t)) (sym (tail_own c past))
          (starts_ended g past (at_lun c.ce lun) (target_cycle c.kind c.byte) (begins_starts g targets past c before after here.sees here.saw lun low h))

      settled : (w : Operation) → From mark mark (Begin n lun) (abandoned_by j mark (worker (came j l).places c.ce lun) (came j l).ops) w → Settled c before after w
      settled w from = at from.is
        where
          at : ((mark ≡ mark) × (w ≡ changed (Begin n lun) from.old)) ⊎ ((mark ≡ mark → ⊥) × (w ≡ from.old)) → Settled c before after w
          at (inl both) = record { lun = lun; few = low; begins = h; is = ap (λ (z : Operation). z.lun) both.1 }
          at (inr away) = absurd (away.0 refl)

  abbrev one : Listing
  one = begun_on j mark 0 (came j l)

  abbrev two : Listing
  two = begun_on j mark 1 one

  abbrev three : Listing
  three = begun_on j mark 2 two

  domestic_one : Every (λ k. Domestic) one.ops
  domestic_one = domestic_on 0 (came j l) domestic_here

  domestic_two : Every (λ k. Domestic) two.ops
  domestic_two = domestic_on 1 one domestic_one

  domestic_three : Every (λ k. Domestic) three.ops
  domestic_three = domestic_on 2 two domestic_two

  -- where the first LUN begins work it is the operation's
  pub begins_first : begins_between c before after 0 ≡ true → (all_begun j mark (came j l)).places.workers ≡ workers_with j mark 0 (came j l).places
  begins_first h =
      ap (λ (x : Listing). x.places.workers)
      (skips 3 three (begin_once 0 3 (omega arith) (omega arith) h (λ e. omega (arith, e))) domestic_three
      ∙ skips 2 two (begin_once 0 2 (omega arith) (omega arith) h (λ e. omega (arith, e))) domestic_two
      ∙ skips 1 one (begin_once 0 1 (omega arith) (omega arith) h (λ e. omega (arith, e))) domestic_one ∙ takes 0 (came j l) h domestic_here)

  -- where no LUN begins work nothing is changed
  pub begins_nothing : ((lun : ℕ) → lun < 4 → begins_between c before after lun ≡ false) → all_begun j mark (came j l) ≡ came j l
  begins_nothing none =
      skips 3 three (none 3 (omega arith)) domestic_three ∙ skips 2 two (none 2 (omega arith)) domestic_two ∙ skips 1 one (none 1 (omega arith)) domestic_one
      ∙ skips 0 (came j l) (none 0 (omega arith)) domestic_here

  abbrev Result : Listing → Type 0
  Result x = Turned g targets n past marks c before after newest_after mark x

  pub turned : Turned g targets n past marks c before after newest_after mark (all_begun j mark (came j l))
  turned = at (begins_between c before after 0) refl (begins_between c before after 1) refl (begins_between c before after 2) refl (begins_between c before after 3) refl
    where
      none_of : begins_between c before after 0 ≡ false → begins_between c before after 1 ≡ false → begins_between c before after 2 ≡ false → begins_between c before after 3 ≡ false →
          (lun : ℕ) → lun < 4 → begins_between c before after lun ≡ false
      none_of h0 h1 h2 h3 zero lt = h0
      none_of h0 h1 h2 h3 (suc zero) lt = h1
      none_of h0 h1 h2 h3 (suc (suc zero)) lt = h2
      none_of h0 h1 h2 h3 (suc (suc (suc zero))) lt = h3
      none_of h0 h1 h2 h3 (suc (suc (suc (suc lun)))) lt = absurd (omega (arith, lt))

      off : (a b : ℕ) → a < 4 → b < 4 → begins_between c before after a ≡ true → (a ≡ b → ⊥) → begins_between c before after b ≡ false
      off a b low less h apart = begin_once a b low less h apart

      so : (x : Listing) → all_begun j mark (came j l) ≡ x → Result x → Result (all_begun j mark (came j l))
      so x e r = subst (λ (y : Listing). Result y) (sym e) r

      at : (b0 : Bool) → begins_between c before after 0 ≡ b0 → (b1 : Bool) → begins_between c before after 1 ≡ b1 → (b2 : Bool) → begins_between c before after 2 ≡ b2 →
          (b3 : Bool) → begins_between c before after 3 ≡ b3 → Result (all_begun j mark (came j l))
      at true h0 b1 h1 b2 h2 b3 h3 =
          so (begun_as 0 (came j l))
          (skips 3 three (off 0 3 (omega arith) (omega arith) h0 (λ e. omega (arith, e))) domestic_three ∙ skips 2 two (off 0 2 (omega arith) (omega arith) h0 (λ e. omega (arith, e))) domestic_two
          ∙ skips 1 one (off 0 1 (omega arith) (omega arith) h0 (λ e. omega (arith, e))) domestic_one ∙ takes 0 (came j l) h0 domestic_here)
          (turned_one 0 (omega arith) h0)
      at false h0 true h1 b2 h2 b3 h3 =
          so (begun_as 1 (came j l))
          (skips 3 three (off 1 3 (omega arith) (omega arith) h1 (λ e. omega (arith, e))) domestic_three ∙ skips 2 two (off 1 2 (omega arith) (omega arith) h1 (λ e. omega (arith, e))) domestic_two
          ∙ takes 1 one h1 domestic_one ∙ ap (begun_as 1) (skips 0 (came j l) h0 domestic_here))
          (turned_one 1 (omega arith) h1)
      at false h0 false h1 true h2 b3 h3 =
          so (begun_as 2 (came j l))
          (skips 3 three (off 2 3 (omega arith) (omega arith) h2 (λ e. omega (arith, e))) domestic_three ∙ takes 2 two h2 domestic_two
          ∙ ap (begun_as 2) (skips 1 one h1 domestic_one ∙ skips 0 (came j l) h0 domestic_here))
          (turned_one 2 (omega arith) h2)
      at false h0 false h1 false h2 true h3 =
          so (begun_as 3 (came j l))
          (takes 3 three h3 domestic_three ∙ ap (begun_as 3) (skips 2 two h2 domestic_two ∙ skips 1 one h1 domestic_one ∙ skips 0 (came j l) h0 domestic_here))
          (turned_one 3 (omega arith) h3)
      at false h0 false h1 false h2 false h3 =
          so (came j l) (skips 3 three h3 domestic_three ∙ skips 2 two h2 domestic_two ∙ skips 1 one h1 domestic_one ∙ skips 0 (came j l) h0 domestic_here) (turned_none (none_of h0 h1 h2 h3))

  -- ---- what it selects, and the rest

  pub first : (o : Operation) × (slice_get more mark ≡ Some o)
  first = there more mark (mark_new j l here.within)

  abbrev began : Listing
  began = all_begun j mark (came j l)

  begins_kept : (k : ℕ) (d : Change) (o : Operation) → BeginsAt first.0.beginning mark k o → BeginsAt first.0.beginning mark k (changed d o)
  begins_kept k d o h e = kept_beginning d o ∙ h e

  pub begins_turned : Every (BeginsAt first.0.beginning mark) (all_begun j mark (came j l)).ops
  begins_turned =
      by_begins (Every (BeginsAt first.0.beginning mark)) (every_quiet (BeginsAt first.0.beginning mark) (λ k d o quiet h. begins_kept k d o h)) j mark (came j l)
      (every_at (BeginsAt first.0.beginning mark) (BeginsAt first.0.beginning mark) mark (change_of owner j (Cyc c)) (unfolded j mark more) (λ k o away h. h)
      (λ o is h. begins_kept mark (change_of owner j (Cyc c)) o h)
      (by_unfold (Every (BeginsAt first.0.beginning mark)) (every_quiet (BeginsAt first.0.beginning mark) (λ k d o quiet h. begins_kept k d o h)) j mark more
      (λ k o is e. ap (λ (z : Operation). z.beginning) (same_some (sym is ∙ ap (slice_get more) e ∙ first.1)))))

  settles : (o : Operation) (lun : ℕ) → o.beginning ≡ first.0.beginning → lun < 4 → sets (role_by j (Some o) (Cyc c) lun) ≡ true → Settles (all_begun j mark (came j l)).ops mark lun
  settles o lun same low s w is started = by_kind c.kind refl s
    where
      none : (a : ℕ) → a < 4 → begins_between c before after a ≡ true → (kind : Kind) → c.kind ≡ kind → starts_by g past (at_lun c.ce a) (target_cycle kind c.byte) ≡ false → ⊥
      none a few h kind e rests =
          clash (starts_by g past (at_lun c.ce a) (target_cycle c.kind c.byte)) (begins_starts g targets past c before after here.sees here.saw a few h)
          (ap (λ (k : Kind). starts_by g past (at_lun c.ce a) (target_cycle k c.byte)) e ∙ rests)

      by_kind : (kind : Kind) → c.kind ≡ kind → sets (role_of_kind o c (begins_by j (Cyc c) lun) (look_at after lun) kind) ≡ true → w.lun ≡ Some lun
      by_kind Cmd e s = at (command_sets g past c.ce c.byte (begins_by j (Cyc c) lun) (look_at after lun) s)
        where
          known : Settled c before after w
          known = turned.settled (ap is_output e) w is started

          at : (begins_between c before after lun ≡ true) ⊎ ((x : ℕ) → starts_by g past (at_lun c.ce x) (CommandCycle (command c.byte)) ≡ false) → w.lun ≡ Some lun
          at (inl h) =
              known.is ∙ ap Some (one_begins g targets past c before after here.sees here.saw here.base here.legal here.permitted known.lun lun known.few low known.begins h)
          at (inr rests) = absurd (none known.lun known.few known.begins Cmd e (rests known.lun))
      by_kind Adr e s =
          let known = turned.settled (ap is_output e) w is started in
          let asks = ap (λ (x : Beginning). is_byte (opener_of x) 0x78) (sym same) ∙ address_sets o (begins_by j (Cyc c) lun) (look_at after lun) s in
          absurd (none known.lun known.few known.begins Adr e (asks_none e first.0 first.1 asks known.lun))
      by_kind Din e s = cc
      by_kind Dout e s = cc

  pub all_like : Alike (all_begun j mark (came j l)).ops (listed j l).ops
  all_like =
      let chosen = all_selected j mark began in
      let known = by_selects (Every (λ k. Domestic)) (every_quiet (λ k. Domestic) (λ k d o quiet h. quiet_domestic d o quiet h)) j mark began turned.domestic in
      alike_on began.ops chosen.ops (listed j l).ops
      (selects_alike j mark first.0.beginning began.ops settles began (λ o is. begins_turned mark o is refl) (alike_self began.ops)) (rest_alike j mark chosen known)

  pub after_tells : Tells (busy_of g targets (Cyc c ∷ past)) (listed j l).places.workers (listed j l).ops
  after_tells =
      subst (λ (w : List (Option ℕ)). Tells (busy_of g targets (Cyc c ∷ past)) w (listed j l).ops) (sym (selects_workers j mark began))
      (tells_alike (busy_of g targets (Cyc c ∷ past)) began.places.workers began.ops (listed j l).ops all_like turned.tells)

  pub after_resting : Every (Resting (listed j l).places.newest (Cyc c ∷ past)) (listed j l).ops
  after_resting =
      subst (λ (newest : List (Option ℕ)). Every (Resting newest (Cyc c ∷ past)) (listed j l).ops) (sym (listed_newest j l))
      (resting_alike newest_after (Cyc c ∷ past) began.ops (listed j l).ops all_like turned.resting)

  pub after_dated : Dated g targets (Cyc c ∷ past) (marks ++ (mark ∷ [])) (n + 1) (listed j l).ops
  after_dated = dated_alike g targets (Cyc c ∷ past) (marks ++ (mark ∷ [])) (n + 1) began.ops (listed j l).ops all_like turned.dated

  pub after_domestic : Every (λ k. Domestic) (listed j l).ops
  after_domestic = domestic_listed j l domestic_here
