-- What a cycle of a legal trace of the base profile does to operations that are a part of others.
use Rattle.std.proofs.Common.{◌≡◌, ◌⊎◌, inl, inr, ℕ, ◌<◌, ◌==◌, Bool, true, false, ◌&&◌, ◌||◌, cond, List, ◌∷◌, Option, Some, None, is_some, refl, sym, ap, ◌∙◌, subst, arith, length, slice_set, eqb-true}
use Rattle.std.specs.Prelude.{slice_get}
use Rattle.std.proofs.lemmas.Bool.{or_left, false_from_ne_true}
use Rattle.std.proofs.lemmas.Option.{slice_get_within}
use Rattle.nand_geometry.specs.declared.parts.Parts.{Parts}
use Rattle.onfi_cycle.specs.declared.command.Command.{Command}
use Rattle.onfi_cycle.specs.declared.command.Command.TheVariants.{Read, ReadStatus}
use Rattle.onfi_cycle.specs.declared.item.Cycle.{Cycle as BusCycle}
use Rattle.onfi_cycle.specs.declared.item.Item.{Item}
use Rattle.onfi_cycle.specs.declared.item.Item.TheVariants.{Cyc}
use Rattle.onfi_cycle.specs.declared.item.Kind.{Kind}
use Rattle.onfi_cycle.specs.declared.item.Kind.TheVariants.{Cmd, Adr, Din, Dout}
use Rattle.onfi_cycle.specs.declared.target_cycle.TargetCycle.{TargetCycle}
use Rattle.onfi_cycle.specs.declared.target_cycle.TargetCycle.TheVariants.{CommandCycle, AddressCycle}
use Rattle.onfi_cycle.specs.Command.{command}
use Rattle.onfi_cycle.specs.Lun.{luns_of}
use Rattle.trace_faults.specs.Outside.{begins_alone}
use Rattle.onfi_cycle.specs.Sequence.{target_cycle, continued, with_cycle, tail, data_phase, facts_of, takes_inputs, wants_command, wants_address}
use Rattle.onfi_cycle.proofs.Booleans.{clash}
use Rattle.onfi_cycle.proofs.CommandBytes.{commands_have_bytes}
use Rattle.onfi_cycle.proofs.Passed.{KeepsRules, permitted_keeps}
use Rattle.trace_ops.specs.declared.change.Change.{Change}
use Rattle.trace_ops.specs.declared.change.Change.TheVariants.{Opened, Cycle, Unfold}
use Rattle.trace_ops.specs.declared.judged.Judged.{Judged}
use Rattle.trace_ops.specs.declared.looks.Looks.{Looks}
use Rattle.trace_ops.specs.declared.operation.Beginning.{Beginning}
use Rattle.trace_ops.specs.declared.operation.Beginning.TheVariants as begins
use Rattle.trace_ops.specs.declared.operation.Operation.{Operation}
use Rattle.trace_ops.specs.Operation.{begun, opener_of, is_byte, is_alone, is_output, takes_address, with_byte, changed, changed_at}
use Rattle.trace_ops.specs.Listing.{Listing, found, op_of, begins_one, new_by_command, new_one, number_of, with_new, is_new_opener, change_of, is_address_kind, is_alone_op, unfolded, all_begun, all_selected, with_ends, with_polls, owner_in, mark_in, listed, opens_alone}
use Rattle.trace_ops.proofs.Asking.{Asking, Enhanced, asking_command, asking_input, asking_rests, asking_output, asking_address, asking_status, asking_read, not_read, enhanced_of}
use Rattle.trace_ops.proofs.Changed.{by}
use Rattle.trace_ops.proofs.Chains.{new_parent}
use Rattle.trace_ops.proofs.Contents.{Content, opener_begins, closes_none}
use Rattle.trace_ops.proofs.Cycles.{CycleAt, same_ops, on_ends, owned_by, output_is, asks_none, begins_nothing, begins_turned, came_like, first, turned, target_few, all_like}
use Rattle.trace_ops.proofs.Domestic.{Every, every_at, every_new}
use Rattle.trace_ops.proofs.Legal.{permitted_as, at_lun, begins_between, begins_starts, output_begins}
use Rattle.trace_ops.proofs.Parted.{asks_so, Part, Parted, plain_parent, quiet_asks, quiet_unclosed, parted_at, may_fold_by, Chosen, selects_keep}
use Rattle.trace_ops.proofs.Pieces.{Each, Holds, each_quiet, kept_beginning, newest_by, listed_newest, found_same, found_other, found_below}
use Rattle.trace_ops.proofs.Quiet.{is_plain, plain_is_quiet, plain_begins, plain_unfold, plain_polls, plain_ready, by_ends, by_unfold}
use Rattle.trace_ops.proofs.Spans.{same_some, which}
use Rattle.trace_ops.proofs.Starts.{starts_by, output_starts, status_starts, read_starts}
use Rattle.trace_ops.proofs.Tails.{split, base_opens, tail_own, tail_other, wanted_command, wanted_address, wanted_input}
use Rattle.trace_ops.proofs.Unstarted.{Unstarted, unstarted_begins}
use Rattle.trace_ops.proofs.Walks.{came, length_ends}

-- ---- the item comes

new_clean_by : (j : Judged) (newest : Option Operation) (c : BusCycle) (kind : Kind) → (new_by_command j newest c kind).is_clean ≡ true
new_clean_by j newest c Cmd = by (λ (z : Operation). z.is_clean) (begins_one newest c.byte) _ _ true refl refl
new_clean_by j newest c Adr = refl
new_clean_by j newest c Din = refl
new_clean_by j newest c Dout = refl

byte_clean : (kind : Kind) (byte : ℕ) (o : Operation) → (with_byte kind byte o).is_clean ≡ o.is_clean
byte_clean Cmd byte o = refl
byte_clean Adr byte o = by (λ (z : Operation). z.is_clean) (takes_address o) _ o o.is_clean refl refl
byte_clean Din byte o = refl
byte_clean Dout byte o = refl

byte_parent : (kind : Kind) (byte : ℕ) (o : Operation) → (with_byte kind byte o).parent ≡ o.parent
byte_parent Cmd byte o = refl
byte_parent Adr byte o = by (λ (z : Operation). z.parent) (takes_address o) _ o o.parent refl refl
byte_parent Din byte o = refl
byte_parent Dout byte o = refl

address_closer : (byte : ℕ) (o : Operation) → (with_byte Adr byte o).closer ≡ o.closer
address_closer byte o = by (λ (z : Operation). z.closer) (takes_address o) _ o o.closer refl refl

address_beginning : (byte : ℕ) (o : Operation) → (with_byte Adr byte o).beginning ≡ o.beginning
address_beginning byte o = by (λ (z : Operation). z.beginning) (takes_address o) _ o o.beginning refl refl

and_true : (b : Bool) → b ≡ true → (b && true) ≡ true
and_true true h = refl
and_true false h = cc

off : false ≡ true → ⊥
off e = cc

first_or : (a b : Bool) → b ≡ false → (a || b) ≡ true → a ≡ true
first_or true b h e = refl
first_or false b h e = absurd (off (sym h ∙ e))

-- a question for the status stays one
asks_still : (b : Beginning) (n : ℕ) (x : Option ℕ) → (is_byte (opener_of b) 0x70 || is_byte (opener_of b) 0x78) ≡ true → asks_so b n x ≡ true
asks_still b n x h = or_left (is_byte (opener_of b) 0x70 || is_byte (opener_of b) 0x78) _ h

asks_78 : (b : Beginning) → is_byte (opener_of b) 0x78 ≡ true → (is_byte (opener_of b) 0x70 || is_byte (opener_of b) 0x78) ≡ true
asks_78 b h = at (is_byte (opener_of b) 0x70)
  where
    at : (x : Bool) → (x || is_byte (opener_of b) 0x78) ≡ true
    at true = refl
    at false = h

-- 70h and 00h open
opens_by : (byte : ℕ) → (byte == 0x70 || byte == 0x00) ≡ true → (command byte ≡ ReadStatus) ⊎ (command byte ≡ Read)
opens_by byte h = at (byte == 0x70) refl h
  where
    at : (x : Bool) → (byte == 0x70) ≡ x → (x || byte == 0x00) ≡ true → (command byte ≡ ReadStatus) ⊎ (command byte ≡ Read)
    at true e h = inl (commands_have_bytes.command_of_byte ReadStatus byte (ap Some (sym (eqb-true byte 0x70 e))))
    at false e h = inr (commands_have_bytes.command_of_byte Read byte (ap Some (sym (eqb-true byte 0x00 h))))

opens_so : (byte : ℕ) → (byte == 0x70 || byte == 0x00) ≡ true → opens_alone byte ≡ true
opens_so byte h = at (opens_by byte h)
  where
    at : (command byte ≡ ReadStatus) ⊎ (command byte ≡ Read) → opens_alone byte ≡ true
    at (inl e) = ap (λ (x : Command). begins_alone (CommandCycle x)) e
    at (inr e) = ap (λ (x : Command). begins_alone (CommandCycle x)) e

no_31 : (byte : ℕ) → (byte == 0x70 || byte == 0x00) ≡ true → (byte == 0x31) ≡ false
no_31 byte h = at (byte == 0x70) refl h
  where
    at : (x : Bool) → (byte == 0x70) ≡ x → (x || byte == 0x00) ≡ true → (byte == 0x31) ≡ false
    at true e h = ap (λ n. n == 0x31) (eqb-true byte 0x70 e)
    at false e h = ap (λ n. n == 0x31) (eqb-true byte 0x00 h)

asks_new : (byte : ℕ) → (byte == 0x70 || byte == 0x00) ≡ true → asks_so (begins.Opener byte) 0 None ≡ true
asks_new byte h = at (byte == 0x70) (byte == 0x78) (byte == 0x00) h
  where
    at : (x y z : Bool) → (x || z) ≡ true → ((x || y) || (z && (true && true))) ≡ true
    at true y z h = refl
    at false true z h = refl
    at false false true h = refl
    at false false false h = cc

module _ (g : Parts) (targets n : ℕ) (one_lun : Bool) (past : List Item) (marks : List ℕ) (c : BusCycle) (before after : Looks) (l : Listing) (pieces : ℕ → List TargetCycle)
    (here : CycleAt g targets n past marks c before after l pieces) (all : Every (Parted l.places.newest past (Unstarted l.ops)) l.ops) where
  abbrev j : Judged
  j = permitted_as one_lun n (Cyc c) before after

  abbrev owner : Option ℕ
  owner = owner_in j (with_ends j l)

  abbrev mark : ℕ
  mark = mark_in j (with_ends j l)

  abbrev many : ℕ
  many = length (with_ends j l).ops

  abbrev newcomer : Operation
  newcomer = new_one j (op_of (with_ends j l).ops (found l.places.newest c.ce)) (Cyc c)

  abbrev more : List Operation
  more = (with_new owner j (with_ends j l)).ops

  abbrev began : Listing
  began = all_begun j mark (came j l)

  abbrev newest_after : List (Option ℕ)
  newest_after = newest_by owner (Cyc c) c.ce many l.places.newest

  abbrev Rested : ℕ → Type 0
  Rested k = Unstarted began.ops k

  few : c.ce < 4
  few = target_few g targets n one_lun past marks c before after l pieces here

  keeps : KeepsRules g (facts_of (tail past c.ce)) (luns_of g past c.ce) (target_cycle c.kind c.byte)
  keeps = permitted_keeps g targets past c here.permitted

  mark_some : (m : ℕ) → owner ≡ Some m → mark ≡ m
  mark_some m h = ap (λ (x : Option ℕ). number_of x (with_ends j l).ops) h

  mark_none : owner ≡ None → mark ≡ many
  mark_none h = ap (λ (x : Option ℕ). number_of x (with_ends j l).ops) h

  owned : is_output c.kind ≡ false → (m : ℕ) → owner ≡ Some m → (found l.places.newest c.ce ≡ Some m) × (begins_alone (target_cycle c.kind c.byte) ≡ false)
  owned input m h = owned_by g targets n one_lun past marks c before after l pieces here c.kind keeps input m h

  -- ---- an operation that asks begins no work

  starts_none : (kind : Kind) → KeepsRules g (facts_of (tail past c.ce)) (luns_of g past c.ce) (target_cycle kind c.byte) → begins_alone (target_cycle kind c.byte) ≡ false →
      Asking (tail past c.ce) → (lun : ℕ) → starts_by g past (at_lun c.ce lun) (target_cycle kind c.byte) ≡ false
  starts_none Cmd kept opens asks lun =
      absurd (clash (wants_command (facts_of (tail past c.ce)) (command c.byte)) (wanted_command g (facts_of (tail past c.ce)) (command c.byte) kept.f6 (base_opens g (command c.byte) here.base opens))
      (asking_command (tail past c.ce) (command c.byte) asks))
  starts_none Adr kept opens asks lun = asking_rests g past (at_lun c.ce lun) c.byte asks
  starts_none Din kept opens asks lun =
      absurd (clash (takes_inputs (data_phase (tail past c.ce))) (wanted_input (facts_of (tail past c.ce)) c.byte kept.f11) (asking_input (tail past c.ce) asks))
  starts_none Dout kept opens asks lun = output_starts g past (at_lun c.ce lun)

  asks_rest : begins_alone (target_cycle c.kind c.byte) ≡ false → Asking (tail past c.ce) → (lun : ℕ) → lun < 4 → begins_between c before after lun ≡ false
  asks_rest opens asks lun low =
      false_from_ne_true (begins_between c before after lun)
      (λ e. clash (starts_by g past (at_lun c.ce lun) (target_cycle c.kind c.byte)) (begins_starts g targets past c before after here.sees here.saw lun low e) (starts_none c.kind keeps opens asks lun))

  mark_rests : (k : ℕ) → k < many → ((d : ℕ) → found l.places.newest d ≡ Some k → Asking (tail past d)) → k ≡ mark → (lun : ℕ) → lun < 4 → begins_between c before after lun ≡ false
  mark_rests k small asks same lun low = at (is_output c.kind) refl
    where
      by_owner : is_output c.kind ≡ false → (x : Option ℕ) → owner ≡ x → begins_between c before after lun ≡ false
      by_owner input None h = absurd (let e = mark_none h in omega (arith, e, same, small))
      by_owner input (Some m) h =
          let both = owned input m h in
          asks_rest both.1 (asks c.ce (both.0 ∙ ap Some (sym (same ∙ mark_some m h)))) lun low

      at : (b : Bool) → is_output c.kind ≡ b → begins_between c before after lun ≡ false
      at true e = output_begins g targets past c before after here.sees here.saw lun low (output_is c.kind e)
      at false e = by_owner e owner refl

  old_more : (x : Option ℕ) (k : ℕ) (o : Operation) → k < many → slice_get (with_new x j (with_ends j l)).ops k ≡ Some o → slice_get (with_ends j l).ops k ≡ Some o
  old_more (Some m) k o small is = is
  old_more None k o small is = at (which (with_ends j l).ops newcomer k o is)
    where
      at : (slice_get (with_ends j l).ops k ≡ Some o) ⊎ ((k ≡ many) × (o ≡ newcomer)) → slice_get (with_ends j l).ops k ≡ Some o
      at (inl old) = old
      at (inr new) = absurd (let e = new.0 in omega (arith, e, small))

  rests_came : (k : ℕ) → k < many → Unstarted l.ops k → Unstarted (came j l).ops k
  rests_came k small rests w is =
      let back = (came_like g targets n one_lun past marks c before after l pieces here).back k w is in
      let old = old_more owner k back.old small back.is_there in
      ap (λ (x : Option ℕ). is_some x) back.core.start
      ∙ rests back.old (ap (λ (ops : List Operation). slice_get ops k) (sym (same_ops g targets n one_lun past marks c before after l pieces here)) ∙ old)

  rests_after : (k : ℕ) → k < many → (k ≡ mark → (lun : ℕ) → lun < 4 → begins_between c before after lun ≡ false) → Unstarted l.ops k → Rested k
  rests_after k small none rests = at (split k mark)
    where
      at : (k ≡ mark) ⊎ (k ≡ mark → ⊥) → Rested k
      at (inl same) =
          subst (λ (x : Listing). Unstarted x.ops k) (sym (begins_nothing g targets n one_lun past marks c before after l pieces here (none same))) (rests_came k small rests)
      at (inr away) = unstarted_begins k j mark (came j l) away (rests_came k small rests)

  -- ---- before the cycle comes

  newest_old : (k d : ℕ) → k < many → found newest_after d ≡ Some k → found l.places.newest d ≡ Some k
  newest_old k d small h = at owner h
    where
      by_place : (c.ce ≡ d) ⊎ (c.ce ≡ d → ⊥) → found (slice_set l.places.newest c.ce (Some many)) d ≡ Some k → found l.places.newest d ≡ Some k
      by_place (inl same) e = absurd (
          let own : found (slice_set l.places.newest c.ce (Some many)) c.ce ≡ Some many = found_same l.places.newest c.ce many (let f = here.stands.four in let t = few in omega (arith, f, t)) in
          let number : many ≡ k = same_some (sym own ∙ ap (found (slice_set l.places.newest c.ce (Some many))) same ∙ e) in
          omega (arith, number, small)
          )
      by_place (inr away) e = sym (found_other l.places.newest c.ce d (Some many) away) ∙ e

      at : (x : Option ℕ) → found (newest_by x (Cyc c) c.ce many l.places.newest) d ≡ Some k → found l.places.newest d ≡ Some k
      at None e = by_place (split c.ce d) e
      at (Some m) e = e

  parted_ends : Every (Parted newest_after past Rested) (with_ends j l).ops
  parted_ends k o is = (was.0, (λ h. part (was.1 h)))
    where
      small : k < many
      small = slice_get_within (with_ends j l).ops k o is

      was : Parted l.places.newest past (Unstarted l.ops) k o
      was = on_ends g targets n one_lun past marks c before after l pieces here (Parted l.places.newest past (Unstarted l.ops)) all k o is

      part : Part l.places.newest past (Unstarted l.ops) k o → Part newest_after past Rested k o
      part p = record {
        kind = p.kind;
        unclosed = p.unclosed;
        rests = rests_after k small (mark_rests k small p.asking) p.rests;
        asking = λ d e. p.asking d (newest_old k d small e);
      }

  no_parent : (x : Option ℕ) → x ≡ None → is_some x ≡ true → ⊥
  no_parent None e h = off h
  no_parent (Some m) e h = cc

  parted_by : (x : Option ℕ) → Every (Parted newest_after past Rested) (with_new x j (with_ends j l)).ops
  parted_by (Some m) = parted_ends
  parted_by None =
      every_new (Parted newest_after past Rested) (with_ends j l).ops newcomer parted_ends
      (new_clean_by j (op_of (with_ends j l).ops (found l.places.newest c.ce)) c c.kind, (λ h. absurd (no_parent newcomer.parent (new_parent j (op_of (with_ends j l).ops (found l.places.newest c.ce)) (Cyc c)) h)))

  parted_open : Every (Parted newest_after past Rested) (unfolded j mark more)
  parted_open = plain_unfold (Every (Parted newest_after past Rested)) (parted_at newest_after past Rested) j mark more (parted_by owner)

  -- a new one is no part of another
  abbrev Orphan : ℕ → Operation → Type 0
  Orphan k o = k ≡ mark → owner ≡ None → is_some o.parent ≡ true → ⊥

  orphan_at : (m : ℕ) (d : Change) (ops : List Operation) → is_plain d ≡ true → Every Orphan ops → Every Orphan (changed_at m d ops)
  orphan_at m d ops plain every = every_at Orphan Orphan m d ops (λ k o away x. x) (λ o is x. λ same none h. x same none (plain_parent d o plain h)) every

  orphan_by : (x : Option ℕ) → owner ≡ x → Every Orphan (with_new x j (with_ends j l)).ops
  orphan_by (Some m) e = λ k o is same none h. no_parent owner none (ap (λ (x : Option ℕ). is_some x) e)
  orphan_by None e = every_new Orphan (with_ends j l).ops newcomer old (λ same none h. no_parent newcomer.parent (new_parent j (op_of (with_ends j l).ops (found l.places.newest c.ce)) (Cyc c)) h)
    where
      old : Every Orphan (with_ends j l).ops
      old k o is same none h = (let small = slice_get_within (with_ends j l).ops k o is in let number = mark_none none in omega (arith, small, number, same))

  orphan_open : Every Orphan (unfolded j mark more)
  orphan_open = plain_unfold (Every Orphan) orphan_at j mark more (orphan_by owner refl)

  -- an address comes to no 00h alone that is a part
  abbrev Addressed : ℕ → Operation → Type 0
  Addressed k o = k ≡ mark → is_address_kind c.kind ≡ true → is_some o.parent ≡ true → is_alone o ≡ false

  addressed : Every Addressed (unfolded j mark more)
  addressed = at (is_address_kind c.kind) refl (is_alone_op (slice_get more mark)) refl
    where
      at : (a : Bool) → is_address_kind c.kind ≡ a → (s : Bool) → is_alone_op (slice_get more mark) ≡ s → Every Addressed (cond (a && s) (changed_at mark Unfold more) more)
      at false e s f = λ k o is same adr h. absurd (clash (is_address_kind c.kind) adr e)
      at true e false f = λ k o is same adr h. sym (ap is_alone_op (ap (slice_get more) (sym same) ∙ is)) ∙ f
      at true e true f =
          every_at (λ k o. Unit {0}) Addressed mark Unfold more (λ k o away x. λ same adr h. absurd (away same)) (λ o is x. λ same adr h. absurd (off h)) (λ k o is. tt)

  -- ---- once it has come

  newest_is : is_output c.kind ≡ false → found newest_after c.ce ≡ Some mark
  newest_is input = at owner refl
    where
      at : (x : Option ℕ) → owner ≡ x → found (newest_by x (Cyc c) c.ce many l.places.newest) c.ce ≡ Some mark
      at None h = found_same l.places.newest c.ce many (let f = here.stands.four in let t = few in omega (arith, f, t)) ∙ ap Some (sym (mark_none h))
      at (Some m) h = (owned input m h).0 ∙ ap Some (sym (mark_some m h))

  asks_output : c.kind ≡ Dout → Asking (tail (Cyc c ∷ past) c.ce)
  asks_output e =
      subst (λ (t : List TargetCycle). Asking t) (sym (tail_own c past ∙ ap (λ (k : Kind). with_cycle (target_cycle k c.byte) (tail past c.ce)) e)) (asking_output (tail past c.ce))

  asks_far : (d : ℕ) → (c.ce ≡ d → ⊥) → Asking (tail past d) → Asking (tail (Cyc c ∷ past) d)
  asks_far d away asks = subst (λ (t : List TargetCycle). Asking t) (sym (tail_other c past d away)) asks

  asks_other : (k : ℕ) → (k ≡ mark → ⊥) → (d : ℕ) → found newest_after d ≡ Some k → Asking (tail past d) → Asking (tail (Cyc c ∷ past) d)
  asks_other k apart d newest asks = at (split c.ce d)
    where
      own : c.ce ≡ d → (b : Bool) → is_output c.kind ≡ b → Asking (tail (Cyc c ∷ past) d)
      own same true e = subst (λ (x : ℕ). Asking (tail (Cyc c ∷ past) x)) same (asks_output (output_is c.kind e))
      own same false e = absurd (apart (same_some (sym newest ∙ ap (found newest_after) (sym same) ∙ newest_is e)))

      at : (c.ce ≡ d) ⊎ (c.ce ≡ d → ⊥) → Asking (tail (Cyc c ∷ past) d)
      at (inl same) = own same (is_output c.kind) refl
      at (inr away) = asks_far d away asks

  content_by : (x : Option ℕ) (m : ℕ) → x ≡ Some m → Each (Holds l.places.newest past) (with_new x j (with_ends j l)).ops
  content_by None m h = cc
  content_by (Some k) m h = by_ends (Each (Holds l.places.newest past)) (each_quiet (Holds l.places.newest past)) j l.places l.ops here.stands.content

  content_open : (m : ℕ) → owner ≡ Some m → is_output c.kind ≡ false → (o : Operation) → slice_get (unfolded j mark more) mark ≡ Some o → Content o.beginning o.closer (tail past c.ce)
  content_open m h input o is =
      (by_unfold (Each (Holds l.places.newest past)) (each_quiet (Holds l.places.newest past)) j mark more (content_by owner m h) mark o is c.ce ((owned input m h).0 ∙ ap Some (sym (mark_some m h)))).content

  -- how the operation of the cycle changes
  abbrev Loud : Option ℕ → Kind → Change
  Loud x kind = cond (is_new_opener x j kind) (Opened n j.said) (Cycle n kind c.byte j.said)

  loud_clean : (x : Option ℕ) (kind : Kind) (o : Operation) → o.is_clean ≡ true → (changed (Loud x kind) o).is_clean ≡ true
  loud_clean x kind o h = at (is_new_opener x j kind)
    where
      at : (b : Bool) → (changed (cond b (Opened n j.said) (Cycle n kind c.byte j.said)) o).is_clean ≡ true
      at true = and_true o.is_clean h
      at false = and_true (with_byte kind c.byte o).is_clean (byte_clean kind c.byte o ∙ h)

  loud_parent : (x : Option ℕ) (kind : Kind) (o : Operation) → is_some (changed (Loud x kind) o).parent ≡ true → is_some o.parent ≡ true
  loud_parent x kind o h = at (is_new_opener x j kind) h
    where
      at : (b : Bool) → is_some (changed (cond b (Opened n j.said) (Cycle n kind c.byte j.said)) o).parent ≡ true → is_some o.parent ≡ true
      at true h = h
      at false h = ap (λ (x : Option ℕ). is_some x) (sym (byte_parent kind c.byte o)) ∙ h

  -- an operation that is there, and a part of another
  module _ (m : ℕ) (h : owner ≡ Some m) (o : Operation) (is : slice_get (unfolded j mark more) mark ≡ Some o) (p : Part newest_after past Rested mark o) (addressed' : is_address_kind c.kind ≡ true → is_alone o ≡ false) where
    asks_now : is_output c.kind ≡ false → Asking (tail past c.ce)
    asks_now input = p.asking c.ce (newest_is input)

    opens_none : is_output c.kind ≡ false → begins_alone (target_cycle c.kind c.byte) ≡ false
    opens_none input = (owned input m h).1

    asks_status' : c.kind ≡ Adr → (is_byte (opener_of o.beginning) 0x70 || is_byte (opener_of o.beginning) 0x78) ≡ true
    asks_status' e = first_or (is_byte (opener_of o.beginning) 0x70 || is_byte (opener_of o.beginning) 0x78) (is_alone o) (addressed' (ap is_address_kind e)) p.kind

    asks_address : c.kind ≡ Adr → (d : ℕ) → found newest_after d ≡ Some mark → Asking (tail (Cyc c ∷ past) d)
    asks_address e d newest = at (split c.ce d)
      where
        input : is_output c.kind ≡ false
        input = ap is_output e

        own : Asking (tail (Cyc c ∷ past) c.ce)
        own =
            subst (λ (t : List TargetCycle). Asking t) (sym (tail_own c past ∙ ap (λ (k : Kind). with_cycle (target_cycle k c.byte) (tail past c.ce)) e))
            (asking_address (tail past c.ce) c.byte (not_read o.beginning o.closer (tail past c.ce) (content_open m h input o is) (asks_status' e)) (asks_now input))

        at : (c.ce ≡ d) ⊎ (c.ce ≡ d → ⊥) → Asking (tail (Cyc c ∷ past) d)
        at (inl same) = subst (λ (x : ℕ). Asking (tail (Cyc c ∷ past) x)) same own
        at (inr away) = asks_far d away (p.asking d newest)

    asks_outputs : c.kind ≡ Dout → (d : ℕ) → found newest_after d ≡ Some mark → Asking (tail (Cyc c ∷ past) d)
    asks_outputs e d newest = at (split c.ce d)
      where
        at : (c.ce ≡ d) ⊎ (c.ce ≡ d → ⊥) → Asking (tail (Cyc c ∷ past) d)
        at (inl same) = subst (λ (x : ℕ). Asking (tail (Cyc c ∷ past) x)) same (asks_output e)
        at (inr away) = asks_far d away (p.asking d newest)

    part_by : (kind : Kind) → c.kind ≡ kind → KeepsRules g (facts_of (tail past c.ce)) (luns_of g past c.ce) (target_cycle kind c.byte) →
        Part newest_after (Cyc c ∷ past) Rested mark (changed (Cycle n kind c.byte j.said) o)
    part_by Cmd e kept =
        absurd (clash (wants_command (facts_of (tail past c.ce)) (command c.byte))
        (wanted_command g (facts_of (tail past c.ce)) (command c.byte) kept.f6
        (base_opens g (command c.byte) here.base (ap (λ (k : Kind). begins_alone (target_cycle k c.byte)) (sym e) ∙ opens_none (ap is_output e))))
        (asking_command (tail past c.ce) (command c.byte) (asks_now (ap is_output e))))
    part_by Adr e kept = record {
      kind = asks_still (with_byte Adr c.byte o).beginning _ _ (ap (λ (b : Beginning). is_byte (opener_of b) 0x70 || is_byte (opener_of b) 0x78) (address_beginning c.byte o) ∙ asks_status' e);
      unclosed = ap (λ (x : Option ℕ). is_some x) (address_closer c.byte o) ∙ p.unclosed;
      rests = p.rests;
      asking = asks_address e;
    }
    part_by Din e kept =
        absurd (clash (takes_inputs (data_phase (tail past c.ce))) (wanted_input (facts_of (tail past c.ce)) c.byte kept.f11) (asking_input (tail past c.ce) (asks_now (ap is_output e))))
    part_by Dout e kept = record { kind = p.kind; unclosed = p.unclosed; rests = p.rests; asking = asks_outputs e }

  part_came : (x : Option ℕ) → owner ≡ x → (o : Operation) → slice_get (unfolded j mark more) mark ≡ Some o → Part newest_after past Rested mark o →
      (is_address_kind c.kind ≡ true → is_alone o ≡ false) → (owner ≡ None → ⊥) → Part newest_after (Cyc c ∷ past) Rested mark (changed (Loud x c.kind) o)
  part_came None h o is p alone some = absurd (some h)
  part_came (Some m) h o is p alone some = part_by m h o is p alone c.kind refl keeps

  abbrev Before : ℕ → Operation → Type 0
  Before k o = Parted newest_after past Rested k o × (Orphan k o × Addressed k o)

  part_other : (k : ℕ) (o : Operation) → (k ≡ mark → ⊥) → Part newest_after past Rested k o → Part newest_after (Cyc c ∷ past) Rested k o
  part_other k o away p = record { kind = p.kind; unclosed = p.unclosed; rests = p.rests; asking = λ d e. asks_other k away d e (p.asking d e) }

  parted_came : Every (Parted newest_after (Cyc c ∷ past) Rested) (came j l).ops
  parted_came =
      every_at Before (Parted newest_after (Cyc c ∷ past) Rested) mark (change_of owner j (Cyc c)) (unfolded j mark more)
      (λ k o away d. (d.0.0, (λ h. part_other k o away (d.0.1 h))))
      (λ o is d. (
        loud_clean owner c.kind o d.0.0,
        (λ h. (
            let parent = loud_parent owner c.kind o h in
            part_came owner refl o is (d.0.1 parent) (λ adr. d.1.1 refl adr parent) (λ none. d.1.0 refl none parent)
            )),
      ))
      (λ k o is. (parted_open k o is, (orphan_open k o is, addressed k o is)))

  parted_began : Every (Parted newest_after (Cyc c ∷ past) Rested) began.ops
  parted_began = plain_begins (Every (Parted newest_after (Cyc c ∷ past) Rested)) (parted_at newest_after (Cyc c ∷ past) Rested) j mark (came j l) parted_came

  -- ---- the operation of a cycle that folds

  -- it asks, and no command has closed it
  abbrev FitBy : Kind → Operation → Type 0
  FitBy kind o = may_fold_by kind c.byte o.beginning ≡ true → (asks_so o.beginning o.address_count o.closer ≡ true) × (is_some o.closer ≡ false)

  abbrev Fits : ℕ → Operation → Type 0
  Fits k o = k ≡ mark → FitBy c.kind o

  fits_at : (m : ℕ) (d : Change) (ops : List Operation) → is_plain d ≡ true → Every Fits ops → Every Fits (changed_at m d ops)
  fits_at m d ops plain every =
      every_at Fits Fits m d ops (λ k o away x. x)
      (λ o is x. λ same may. (
      let was = x same (ap (may_fold_by c.kind c.byte) (sym (kept_beginning d o)) ∙ may) in
      (quiet_asks d o (plain_is_quiet d plain) ∙ was.0, quiet_unclosed d o (plain_is_quiet d plain) ∙ was.1)
      ))
      every

  new_fits : (kind : Kind) (newest : Option Operation) → FitBy kind (new_by_command j newest c kind)
  new_fits Cmd newest may = at (begins_one newest c.byte) (opener_begins newest c.byte (opens_so c.byte may) (closes_none newest c.byte (no_31 c.byte may)))
    where
      at : (b : Bool) → b ≡ true →
          (asks_so (cond b (begun c.ce n (begins.Opener c.byte)) (begun c.ce n begins.Cut)).beginning (cond b (begun c.ce n (begins.Opener c.byte)) (begun c.ce n begins.Cut)).address_count
          (cond b (begun c.ce n (begins.Opener c.byte)) (begun c.ce n begins.Cut)).closer ≡ true)
          × (is_some (cond b (begun c.ce n (begins.Opener c.byte)) (begun c.ce n begins.Cut)).closer ≡ false)
      at true e = (asks_new c.byte may, refl)
      at false e = cc
  new_fits Adr newest may = absurd (off may)
  new_fits Din newest may = absurd (off may)
  new_fits Dout newest may = absurd (off may)

  enhanced_open : (m : ℕ) → owner ≡ Some m → c.kind ≡ Adr → (o : Operation) → slice_get (unfolded j mark more) mark ≡ Some o → is_byte (opener_of o.beginning) 0x78 ≡ true → Enhanced o.closer (tail past c.ce) c.byte
  enhanced_open m h e o is asks =
      enhanced_of o.beginning o.closer (tail past c.ce) c.byte (content_open m h (ap is_output e) o is) asks (wants c.kind e keeps)
    where
      wants : (kind : Kind) → kind ≡ Adr → KeepsRules g (facts_of (tail past c.ce)) (luns_of g past c.ce) (target_cycle kind c.byte) → wants_address (facts_of (tail past c.ce)) c.byte ≡ true
      wants Adr e kept = wanted_address g (facts_of (tail past c.ce)) c.byte kept.f7
      wants Cmd e kept = cc
      wants Din e kept = cc
      wants Dout e kept = cc

  -- the same while a new one has had its first cycle alone
  abbrev FitsNew : ℕ → Operation → Type 0
  FitsNew k o = k ≡ mark → owner ≡ None → FitBy c.kind o

  fits_new_at : (m : ℕ) (d : Change) (ops : List Operation) → is_plain d ≡ true → Every FitsNew ops → Every FitsNew (changed_at m d ops)
  fits_new_at m d ops plain every =
      every_at FitsNew FitsNew m d ops (λ k o away x. x)
      (λ o is x. λ same none may. (
      let was = x same none (ap (may_fold_by c.kind c.byte) (sym (kept_beginning d o)) ∙ may) in
      (quiet_asks d o (plain_is_quiet d plain) ∙ was.0, quiet_unclosed d o (plain_is_quiet d plain) ∙ was.1)
      ))
      every

  fits_new_by : (x : Option ℕ) → owner ≡ x → Every FitsNew (with_new x j (with_ends j l)).ops
  fits_new_by (Some m) e = λ k o is same none may. absurd (no_parent owner none (ap (λ (x : Option ℕ). is_some x) e))
  fits_new_by None e = every_new FitsNew (with_ends j l).ops newcomer old (λ same none. new_fits c.kind (op_of (with_ends j l).ops (found l.places.newest c.ce)))
    where
      old : Every FitsNew (with_ends j l).ops
      old k o is same none may = absurd (let small = slice_get_within (with_ends j l).ops k o is in let number = mark_none none in omega (arith, small, number, same))

  fit_new : (kind : Kind) (o : Operation) → FitBy kind o → FitBy kind (changed (Loud None kind) o)
  fit_new Cmd o fit may = fit may
  fit_new Adr o fit may =
      let asks = ap (λ (b : Beginning). is_byte (opener_of b) 0x78) (sym (address_beginning c.byte o)) ∙ may in
      (asks_still (with_byte Adr c.byte o).beginning _ _ (asks_78 (with_byte Adr c.byte o).beginning may), ap (λ (x : Option ℕ). is_some x) (address_closer c.byte o) ∙ (fit asks).1)
  fit_new Din o fit may = absurd (off may)
  fit_new Dout o fit may = absurd (off may)

  fit_old : (kind : Kind) → c.kind ≡ kind → (m : ℕ) → owner ≡ Some m → (o : Operation) → slice_get (unfolded j mark more) mark ≡ Some o → FitBy kind (changed (Loud (Some m) kind) o)
  fit_old Cmd e m h o is may =
      absurd (clash (opens_alone c.byte) (opens_so c.byte may) (ap (λ (k : Kind). begins_alone (target_cycle k c.byte)) (sym e) ∙ (owned (ap is_output e) m h).1))
  fit_old Adr e m h o is may =
      let asks = ap (λ (b : Beginning). is_byte (opener_of b) 0x78) (sym (address_beginning c.byte o)) ∙ may in (
        asks_still (with_byte Adr c.byte o).beginning _ _ (asks_78 (with_byte Adr c.byte o).beginning may),
        ap (λ (x : Option ℕ). is_some x) (address_closer c.byte o) ∙ (enhanced_open m h e o is asks).unclosed,
      )
  fit_old Din e m h o is may = absurd (off may)
  fit_old Dout e m h o is may = absurd (off may)

  fits_came : Every Fits (came j l).ops
  fits_came =
      every_at FitsNew Fits mark (change_of owner j (Cyc c)) (unfolded j mark more) (λ k o away x. λ same. absurd (away same)) (λ o is x. λ same. at owner refl o is (x same))
      (plain_unfold (Every FitsNew) fits_new_at j mark more (fits_new_by owner refl))
    where
      at : (x : Option ℕ) → owner ≡ x → (o : Operation) → slice_get (unfolded j mark more) mark ≡ Some o → (owner ≡ None → FitBy c.kind o) → FitBy c.kind (changed (Loud x c.kind) o)
      at None h o is fit = fit_new c.kind o (fit h)
      at (Some m) h o is fit = fit_old c.kind refl m h o is

  fits_began : Every Fits began.ops
  fits_began = plain_begins (Every Fits) fits_at j mark (came j l) fits_came

  abbrev beginning : Beginning
  beginning = (first g targets n one_lun past marks c before after l pieces here).0.beginning

  folds_input : (kind : Kind) (b : Beginning) → may_fold_by kind c.byte b ≡ true → is_output kind ≡ false
  folds_input Cmd b may = refl
  folds_input Adr b may = refl
  folds_input Din b may = refl
  folds_input Dout b may = absurd (off may)

  command_rests : (lun : ℕ) → (c.byte == 0x70 || c.byte == 0x00) ≡ true → starts_by g past (at_lun c.ce lun) (CommandCycle (command c.byte)) ≡ false
  command_rests lun may = at (opens_by c.byte may)
    where
      at : (command c.byte ≡ ReadStatus) ⊎ (command c.byte ≡ Read) → starts_by g past (at_lun c.ce lun) (CommandCycle (command c.byte)) ≡ false
      at (inl e) = ap (λ x. starts_by g past (at_lun c.ce lun) (CommandCycle x)) e ∙ status_starts g past (at_lun c.ce lun)
      at (inr e) = ap (λ x. starts_by g past (at_lun c.ce lun) (CommandCycle x)) e ∙ read_starts g past (at_lun c.ce lun)

  folds_rest : (kind : Kind) → c.kind ≡ kind → may_fold_by kind c.byte beginning ≡ true → (lun : ℕ) → starts_by g past (at_lun c.ce lun) (target_cycle kind c.byte) ≡ false
  folds_rest Cmd e may lun = command_rests lun may
  folds_rest Adr e may lun =
      let q = first g targets n one_lun past marks c before after l pieces here in
      asks_none g targets n one_lun past marks c before after l pieces here e q.0 q.1 may lun
  folds_rest Din e may lun = absurd (off may)
  folds_rest Dout e may lun = absurd (off may)

  rested_mark : may_fold_by c.kind c.byte beginning ≡ true → Rested mark
  rested_mark may w is = at (is_some w.start) refl
    where
      at : (b : Bool) → is_some w.start ≡ b → is_some w.start ≡ false
      at false e = e
      at true e =
          let known = (turned g targets n one_lun past marks c before after l pieces here).settled (folds_input c.kind beginning may) w is e in
          absurd (clash (starts_by g past (at_lun c.ce known.lun) (target_cycle c.kind c.byte))
          (begins_starts g targets past c before after here.sees here.saw known.lun known.few known.begins) (folds_rest c.kind refl may known.lun))

  -- the tail of its target
  newest_far : is_output c.kind ≡ false → (d : ℕ) → (c.ce ≡ d → ⊥) → found newest_after d ≡ Some mark → ⊥
  newest_far input d away h = at owner refl h
    where
      at : (x : Option ℕ) → owner ≡ x → found (newest_by x (Cyc c) c.ce many l.places.newest) d ≡ Some mark → ⊥
      at None e newest =
          let small = found_below (length l.ops) l.places.newest d mark here.within.newest (sym (found_other l.places.newest c.ce d (Some many) away) ∙ newest) in
          let same = length_ends j l in
          let number = mark_none e in
          omega (arith, small, same, number)
      at (Some m) e newest = away (here.stands.apart c.ce d mark ((owned input m e).0 ∙ ap Some (sym (mark_some m e))) newest)

  command_asks : (c.byte == 0x70 || c.byte == 0x00) ≡ true → (t : List TargetCycle) → Asking (with_cycle (CommandCycle (command c.byte)) t)
  command_asks may t = at (opens_by c.byte may)
    where
      at : (command c.byte ≡ ReadStatus) ⊎ (command c.byte ≡ Read) → Asking (with_cycle (CommandCycle (command c.byte)) t)
      at (inl e) = subst (λ x. Asking (with_cycle (CommandCycle x) t)) (sym e) asking_status
      at (inr e) = subst (λ x. Asking (with_cycle (CommandCycle x) t)) (sym e) asking_read

  enhanced_more : (x : Option ℕ) → owner ≡ x → c.kind ≡ Adr → (o : Operation) → slice_get (with_new x j (with_ends j l)).ops (number_of x (with_ends j l).ops) ≡ Some o →
      is_byte (opener_of o.beginning) 0x78 ≡ true → Asking (continued (AddressCycle c.byte) (tail past c.ce))
  enhanced_more None h e o is asks = at (which (with_ends j l).ops newcomer many o is)
    where
      at : (slice_get (with_ends j l).ops many ≡ Some o) ⊎ ((many ≡ many) × (o ≡ newcomer)) → Asking (continued (AddressCycle c.byte) (tail past c.ce))
      at (inl old) = absurd (let small = slice_get_within (with_ends j l).ops many o old in omega (arith, small))
      at (inr new) =
          let cut : o.beginning ≡ begins.Cut =
          ap (λ (z : Operation). z.beginning) new.1 ∙ ap (λ (k : Kind). (new_by_command j (op_of (with_ends j l).ops (found l.places.newest c.ce)) c k).beginning) e in
          absurd (off (ap (λ (x : Beginning). is_byte (opener_of x) 0x78) (sym cut) ∙ asks))
  enhanced_more (Some m) h e o is asks =
      let content = (content_by (Some m) m refl m o is c.ce (owned (ap is_output e) m h).0).content in
      (enhanced_of o.beginning o.closer (tail past c.ce) c.byte content asks (wants c.kind e keeps)).asking
    where
      wants : (kind : Kind) → kind ≡ Adr → KeepsRules g (facts_of (tail past c.ce)) (luns_of g past c.ce) (target_cycle kind c.byte) → wants_address (facts_of (tail past c.ce)) c.byte ≡ true
      wants Adr e kept = wanted_address g (facts_of (tail past c.ce)) c.byte kept.f7
      wants Cmd e kept = cc
      wants Din e kept = cc
      wants Dout e kept = cc

  folds_ask : (kind : Kind) → c.kind ≡ kind → may_fold_by kind c.byte beginning ≡ true → Asking (with_cycle (target_cycle kind c.byte) (tail past c.ce))
  folds_ask Cmd e may = command_asks may (tail past c.ce)
  folds_ask Adr e may = (let q = first g targets n one_lun past marks c before after l pieces here in enhanced_more owner refl e q.0 q.1 may)
  folds_ask Din e may = absurd (off may)
  folds_ask Dout e may = absurd (off may)

  asking_mark : may_fold_by c.kind c.byte beginning ≡ true → (d : ℕ) → found newest_after d ≡ Some mark → Asking (tail (Cyc c ∷ past) d)
  asking_mark may d newest = at (split c.ce d)
    where
      at : (c.ce ≡ d) ⊎ (c.ce ≡ d → ⊥) → Asking (tail (Cyc c ∷ past) d)
      at (inl same) =
          subst (λ (x : ℕ). Asking (tail (Cyc c ∷ past) x)) same
          (subst (λ (t : List TargetCycle). Asking t) (sym (tail_own c past)) (folds_ask c.kind refl may))
      at (inr away) = absurd (newest_far (folds_input c.kind beginning may) d away newest)

  -- ---- what it selects, and the rest

  chosen : Every (Chosen newest_after (Cyc c ∷ past) Rested mark (Cyc c) beginning) began.ops
  chosen k o is = (
    parted_began k o is,
    (λ same. (
      (begins_turned g targets n one_lun past marks c before after l pieces here) k o is same,
      (λ may. (
          let begun' = (begins_turned g targets n one_lun past marks c before after l pieces here) k o is same in
          let fit = fits_began k o is same (ap (may_fold_by c.kind c.byte) begun' ∙ may) in
          record {
            kind = fit.0;
            unclosed = fit.1;
            rests = subst (λ (x : ℕ). Rested x) (sym same) (rested_mark may);
            asking = λ d newest. asking_mark may d (newest ∙ ap Some same);
          }
          )),
    )),
  )

  parted_listed : Every (Parted newest_after (Cyc c ∷ past) Rested) (listed j l).ops
  parted_listed =
      let selected = all_selected j mark began in
      let kept : Every (Parted newest_after (Cyc c ∷ past) Rested) selected.ops = λ k o is. (selects_keep newest_after (Cyc c ∷ past) Rested j mark beginning began chosen k o is).0 in
      let step = parted_at newest_after (Cyc c ∷ past) Rested in
      plain_ready (Every (Parted newest_after (Cyc c ∷ past) Rested)) step j mark (with_polls j mark selected) (plain_polls (Every (Parted newest_after (Cyc c ∷ past) Rested)) step j mark selected kept)

  rested_listed : (k : ℕ) → Rested k → Unstarted (listed j l).ops k
  rested_listed k rests w is =
      let back = (all_like g targets n one_lun past marks c before after l pieces here).back k w is in
      ap (λ (x : Option ℕ). is_some x) back.core.start ∙ rests back.old back.is_there

  pub cycle_parted : Every (Parted (listed j l).places.newest (Cyc c ∷ past) (Unstarted (listed j l).ops)) (listed j l).ops
  cycle_parted k o is = (was.0, (λ h. part (was.1 h)))
    where
      was : Parted newest_after (Cyc c ∷ past) Rested k o
      was = parted_listed k o is

      part : Part newest_after (Cyc c ∷ past) Rested k o → Part (listed j l).places.newest (Cyc c ∷ past) (Unstarted (listed j l).ops) k o
      part p = record {
        kind = p.kind;
        unclosed = p.unclosed;
        rests = rested_listed k p.rests;
        asking = λ d newest. p.asking d (ap (λ (ns : List (Option ℕ)). found ns d) (sym (listed_newest j l)) ∙ newest);
      }
