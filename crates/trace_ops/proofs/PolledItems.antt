-- What a cycle does to the operations of a target whose host polls.
use Rattle.std.proofs.Common.{◌≡◌, ℕ, ◌+◌, ◌<◌, Bool, true, false, ◌&&◌, not, cond, List, [], ◌∷◌, ◌++◌, Option, Some, None, refl, sym, ap, ◌∙◌, subst, arith, length, ne_eqb}
use Rattle.std.specs.Prelude.{slice_get}
use Rattle.std.proofs.lemmas.List.{length-append}
use Rattle.std.proofs.lemmas.Option.{slice_get_within}
use Rattle.nand_geometry.specs.declared.parts.Parts.{Parts}
use Rattle.onfi_cycle.specs.declared.item.Cycle.{Cycle as BusCycle}
use Rattle.onfi_cycle.specs.declared.item.Item.{Item}
use Rattle.onfi_cycle.specs.declared.item.Item.TheVariants.{Cyc}
use Rattle.onfi_cycle.specs.declared.item.Kind.{Kind}
use Rattle.onfi_cycle.specs.declared.item.Kind.TheVariants.{Cmd, Adr, Din, Dout}
use Rattle.onfi_cycle.specs.declared.latch.Latch.TheVariants.{Status}
use Rattle.onfi_cycle.specs.declared.target_cycle.TargetCycle.{TargetCycle}
use Rattle.onfi_cycle.specs.Lun.{latch}
use Rattle.onfi_cycle.proofs.Others.{targets_keep}
use Rattle.trace_ops.specs.declared.change.Change.{Change}
use Rattle.trace_ops.specs.declared.change.Change.TheVariants.{Opened, Cycle, Show, Poll, Unfold}
use Rattle.trace_ops.specs.declared.judged.Judged.{Judged}
use Rattle.trace_ops.specs.declared.looks.Looks.{Looks}
use Rattle.trace_ops.specs.declared.operation.Operation.{Operation}
use Rattle.trace_ops.specs.Operation.{is_output, changed, changed_at, changed_if}
use Rattle.trace_ops.specs.Openings.{opens, Opened as OpenedAt}
use Rattle.trace_ops.specs.Listing.{Listing, found, lun_place, worker, op_of, new_one, with_new, change_of, is_new_opener, is_address_kind, is_alone_op, unfolded, is_command, is_off_look, driver_of, look_at, gives_status, starts_on, begun_on, all_begun, all_selected, polled_by, with_ends, with_polls, owner_in, mark_in, listed, opens_alone}
use Rattle.trace_ops.specs.Polling.{Sequence, Doing, Rests, Sends, Waits, Asks, Sees, by_cycle, is_sending}
use Rattle.trace_ops.proofs.AtWork.{worker_in}
use Rattle.trace_ops.proofs.Cycles.{CycleAt, mine, begins_nothing}
use Rattle.trace_ops.proofs.Domestic.{Every, every_at, every_new}
use Rattle.trace_ops.proofs.Gently.{is_gentle, kept_ce, Lasts, gently, gentle_ends, gentle_begins, gentle_selects, gentle_foreign, gentle_ready}
use Rattle.trace_ops.proofs.Legal.{permitted_as, at_lun, output_begins}
use Rattle.trace_ops.proofs.Owned.{old, new}
use Rattle.trace_ops.proofs.Pieces.{newest_by, listed_newest, found_other, found_below}
use Rattle.trace_ops.proofs.Polled.{Fits, is_unseen, fits_last, fits_far, fits_more, fits_skip, told_last}
use Rattle.trace_ops.proofs.Quiet.{choose}
use Rattle.trace_ops.proofs.Quietly.{selects_workers}
use Rattle.trace_ops.proofs.Spans.{same_some}
use Rattle.trace_ops.proofs.Walked.{new_workers}
use Rattle.trace_ops.proofs.Walks.{came, length_ends, length_came, length_listed, new_many}

-- what is told of the operations, with one more where the item opens one
abbrev pub told_after : Bool → Option Sequence → List (Option Sequence) → List (Option Sequence)
told_after opens x told = cond opens (told ++ (x ∷ [])) told

-- the work has begun
abbrev pub has_worked : Doing → Bool
has_worked Rests = false
has_worked (Sends sent) = false
has_worked (Waits work) = true
has_worked (Asks work) = true
has_worked Sees = true

-- its LUN shows the status
abbrev pub has_asked : Doing → Bool
has_asked Rests = false
has_asked (Sends sent) = false
has_asked (Waits work) = false
has_asked (Asks work) = true
has_asked Sees = true

-- all that is known of a target whose host polls
pub record Polls (g : Parts) (ce : ℕ) (past items : List Item) (l : Listing) (told : List (Option Sequence)) (d : Doing) (at : ℕ) : Type 0 where
  pub fits : Every (Fits d ce at items told) l.ops
  pub long : length told ≡ length l.ops
  pub newest : is_sending d ≡ true → found l.places.newest ce ≡ Some at
  pub worker : has_worked d ≡ true → worker_in l.places.workers ce 0 ≡ Some at
  pub shows : has_asked d ≡ true → latch g past (at_lun ce 0) ≡ Status

no : true ≡ false → ⊥
no e = cc

few_drive : (looks : Looks) (lun : ℕ) → driver_of looks ≡ Some lun → lun < 4
few_drive looks lun h = at (not (is_off_look looks.zeroth)) (not (is_off_look looks.first)) (not (is_off_look looks.second)) (not (is_off_look looks.third)) h
  where
    at : (a b c d : Bool) → cond a (Some 0) (cond b (Some 1) (cond c (Some 2) (cond d (Some 3) None))) ≡ Some lun → lun < 4
    at true b c d h = (let e : 0 ≡ lun = same_some h in omega (arith, e))
    at false true c d h = (let e : 1 ≡ lun = same_some h in omega (arith, e))
    at false false true d h = (let e : 2 ≡ lun = same_some h in omega (arith, e))
    at false false false true h = (let e : 3 ≡ lun = same_some h in omega (arith, e))
    at false false false false h = cc

-- work that begins on another target
begun_far : (j : Judged) (k lun ce : ℕ) (x : Listing) → lun < 4 → (j.ce ≡ ce → ⊥) → worker_in (begun_on j k lun x).places.workers ce 0 ≡ worker_in x.places.workers ce 0
begun_far j k lun ce x few apart = at (starts_on j lun k x.ops) _ x (found_other x.places.workers (lun_place j.ce lun) (lun_place ce 0) (Some k) (λ e. apart (omega (arith, e, few)))) refl
  where
    at : (b : Bool) (y z : Listing) → worker_in y.places.workers ce 0 ≡ worker_in x.places.workers ce 0 → worker_in z.places.workers ce 0 ≡ worker_in x.places.workers ce 0 →
        worker_in (cond b y z).places.workers ce 0 ≡ worker_in x.places.workers ce 0
    at true y z p q = p
    at false y z p q = q

begins_far : (j : Judged) (k ce : ℕ) (x : Listing) → (j.ce ≡ ce → ⊥) → worker_in (all_begun j k x).places.workers ce 0 ≡ worker_in x.places.workers ce 0
begins_far j k ce x apart =
    let one = begun_on j k 0 x in
    let two = begun_on j k 1 one in
    let three = begun_on j k 2 two in
    begun_far j k 3 ce three (omega arith) apart ∙ begun_far j k 2 ce two (omega arith) apart ∙ begun_far j k 1 ce one (omega arith) apart ∙ begun_far j k 0 ce x (omega arith) apart

module _ (g : Parts) (targets n : ℕ) (one_lun : Bool) (past : List Item) (marks : List ℕ) (c : BusCycle) (before after : Looks) (l : Listing) (pieces : ℕ → List TargetCycle)
    (here : CycleAt g targets n past marks c before after l pieces) where
  abbrev j : Judged
  j = permitted_as one_lun n (Cyc c) before after

  abbrev owner : Option ℕ
  owner = owner_in j (with_ends j l)

  abbrev mark : ℕ
  mark = mark_in j (with_ends j l)

  abbrev many : ℕ
  many = length (with_ends j l).ops

  abbrev more : List Operation
  more = (with_new owner j (with_ends j l)).ops

  abbrev began : Listing
  began = all_begun j mark (came j l)

  abbrev chosen : Listing
  chosen = all_selected j mark began

  -- ---- an operation more, or none

  length_by : (x : Option ℕ) → owner ≡ x → length (listed j l).ops ≡ length l.ops + new_many x
  length_by x e = length_listed j l ∙ length_came j l ∙ ap (λ y. length l.ops + new_many y) e

  pub long_after : (told : List (Option Sequence)) (x : Option Sequence) → length told ≡ length l.ops → length (told_after (opens (Cyc c)) x told) ≡ length (listed j l).ops
  long_after told x long = at (opens (Cyc c)) refl
    where
      at : (b : Bool) → opens (Cyc c) ≡ b → length (told_after b x told) ≡ length (listed j l).ops
      at true e =
          let one = length_by None (new g targets n one_lun past marks c before after l pieces here e).0 in
          let more' = length-append told (x ∷ []) in
          omega (arith, one, more', long)
      at false e =
          let m = old g targets n one_lun past marks c before after l pieces here e in
          let none = length_by (Some m.0) m.1 in
          omega (arith, none, long)

  -- ---- what an input leaves

  module _ (D : ℕ → Operation → Type 0) (lasts : Lasts D) where
    pub ends_settled : Every D l.ops → Every D (with_ends j l).ops
    ends_settled all = gentle_ends (Every D) (gently D lasts) j l.places l.ops all

    -- an item that comes to an operation that is there
    pub old_settled : (m : ℕ) → owner ≡ Some m → Every D (with_ends j l).ops → Every D more
    old_settled m e all = at owner e
      where
        at : (x : Option ℕ) → x ≡ Some m → Every D (with_new x j (with_ends j l)).ops
        at (Some k) h = all
        at None h = cc

    pub unaddressed : is_address_kind c.kind ≡ false → Every D more → Every D (unfolded j mark more)
    unaddressed e all = subst (λ b. Every D (cond (b && is_alone_op (slice_get more mark)) (changed_at mark Unfold more) more)) (sym e) all

    pub settled : is_output c.kind ≡ false → Every D (came j l).ops → Every D (listed j l).ops
    settled input all =
        let step = gently D lasts in
        gentle_ready (Every D) step j mark (with_polls j mark chosen)
        (subst (λ b. Every D (cond (b && true) (polled_by j mark c.byte (driver_of before) chosen.places chosen.ops) chosen.ops)) (sym input)
        (gentle_selects (Every D) step j mark began (gentle_begins (Every D) step j mark (came j l) all)))

    -- ---- an output

    module _ (e : c.kind ≡ Dout) (poll : (lun w : ℕ) → lun < 4 → worker_in l.places.workers c.ce lun ≡ Some w → (o : Operation) → D w o → D w (changed (Poll n c.byte) o)) (all : Every D l.ops) where
      opens_none : opens (Cyc c) ≡ false
      opens_none = ap (λ (k : Kind). is_command k && opens_alone c.byte) e

      mine' : (m : ℕ) × (owner ≡ Some m)
      mine' = old g targets n one_lun past marks c before after l pieces here opens_none

      gentle : is_gentle (change_of owner j (Cyc c)) ≡ true
      gentle = at (is_new_opener owner j c.kind)
        where
          at : (b : Bool) → is_gentle (cond b (Opened n j.said) (Cycle n c.kind c.byte j.said)) ≡ true
          at true = refl
          at false = ap is_output e

      chosen_all : Every D chosen.ops
      chosen_all =
          let step = gently D lasts in
          gentle_selects (Every D) step j mark began (gentle_begins (Every D) step j mark (came j l)
          (step mark (change_of owner j (Cyc c)) (unfolded j mark more) gentle (unaddressed (ap is_address_kind e) (old_settled mine'.0 mine'.1 (ends_settled all)))))

      same_workers : chosen.places.workers ≡ l.places.workers
      same_workers =
          selects_workers j mark began
          ∙ ap (λ (x : Listing). x.places.workers)
          (begins_nothing g targets n one_lun past marks c before after l pieces here (λ lun low. output_begins g targets past c before after here.sees here.saw lun low e))
          ∙ new_workers owner j (with_ends j l)

      shown : Every D (changed_at mark (Show c.byte) chosen.ops)
      shown = gently D lasts mark (Show c.byte) chosen.ops refl chosen_all

      by_worker : (lun : ℕ) → lun < 4 → (w : Option ℕ) → worker chosen.places c.ce lun ≡ w → Every D (changed_if w (Poll n c.byte) (changed_at mark (Show c.byte) chosen.ops))
      by_worker lun few None is = shown
      by_worker lun few (Some w) is =
          every_at D D w (Poll n c.byte) (changed_at mark (Show c.byte) chosen.ops) (λ k o away d. d)
          (λ o there' d. poll lun w few (ap (λ (ws : List (Option ℕ)). worker_in ws c.ce lun) (sym same_workers) ∙ is) o d) shown

      by_driver : (x : Option ℕ) → driver_of before ≡ x → Every D (polled_by j mark c.byte x chosen.places chosen.ops)
      by_driver None is = chosen_all
      by_driver (Some lun) is =
          choose (Every D) (gives_status (look_at before lun)) _ chosen.ops
          (gentle_foreign (Every D) (gently D lasts) j c.byte (worker chosen.places c.ce lun) _ (by_worker lun (few_drive before lun is) (worker chosen.places c.ce lun) refl)) chosen_all

      pub output_settled : Every D (listed j l).ops
      output_settled =
          gentle_ready (Every D) (gently D lasts) j mark (with_polls j mark chosen)
          (choose (Every D) (is_output c.kind && true) _ chosen.ops (by_driver (driver_of before) refl) chosen_all)

  -- ---- a cycle of another target

  module _ (ce : ℕ) (apart : c.ce ≡ ce → ⊥) (d : Doing) (at : ℕ) (items : List Item) (told : List (Option Sequence)) (was : Polls g ce past (Cyc c ∷ items) l told d at) where
    abbrev Held : ℕ → Operation → Type 0
    Held = Fits d ce at items told

    abbrev later : List (Option Sequence)
    later = told_after (opens (Cyc c)) None told

    held_l : Every Held l.ops
    held_l k o is = fits_skip d ce at (Cyc c) items told (ap (λ b. cond b (by_cycle d c.kind c.byte) (Some d)) (ne_eqb c.ce ce apart)) k o (was.fits k o is)

    abbrev Holding : ℕ → Operation → Type 0
    Holding = Fits d ce at items later

    at_small : is_unseen d ≡ true → at < many
    at_small u = (let same = length_ends j l in let small = by_state d refl u in omega (arith, same, small))
      where
        by_newest : is_sending d ≡ true → at < length l.ops
        by_newest e = found_below (length l.ops) l.places.newest ce at here.within.newest (was.newest e)

        by_worker : has_worked d ≡ true → at < length l.ops
        by_worker e = found_below (length l.ops) l.places.workers (lun_place ce 0) at here.within.workers (was.worker e)

        by_state : (s : Doing) → d ≡ s → is_unseen s ≡ true → at < length l.ops
        by_state Rests e u = cc
        by_state (Sends w) e u = by_newest (ap is_sending e)
        by_state (Waits w) e u = by_worker (ap has_worked e)
        by_state (Asks w) e u = by_worker (ap has_worked e)
        by_state Sees e u = cc

    -- an output
    abbrev Tagged : ℕ → Operation → Type 0
    Tagged k o = Held k o × ((lun : ℕ) → lun < 4 → worker_in l.places.workers c.ce lun ≡ Some k → o.ce ≡ c.ce)

    tagged_last : Lasts Tagged
    tagged_last = record { on = λ k old new kept f. ((fits_last d ce at items told).on k old new kept f.0, (λ lun few w. kept.ce ∙ f.1 lun few w)) }

    tagged : Every Tagged l.ops
    tagged k o is = (
      held_l k o is,
      (λ lun few w. (
          let began = here.tells.began c.ce lun k few w in
          ap (λ (z : Operation). z.ce) (same_some (sym is ∙ began.is_there)) ∙ began.target
          )),
    )

    far_output : c.kind ≡ Dout → Every Held (listed j l).ops
    far_output e k o is =
        (output_settled Tagged tagged_last e
        (λ lun w few worker' o' t. (
          fits_far d ce at items told w o' (changed (Poll n c.byte) o') (λ same. apart (sym (t.1 lun few worker') ∙ same)) (kept_ce (Poll n c.byte) o') t.0,
          (λ lun' few' w'. kept_ce (Poll n c.byte) o' ∙ t.1 lun' few' w'),
        )) tagged k o is).0

    -- an input
    held_ends : Every Held (with_ends j l).ops
    held_ends = ends_settled Held (fits_last d ce at items told) held_l

    holding_ends : Every Holding (with_ends j l).ops
    holding_ends = by (opens (Cyc c))
      where
        more' : Every (Fits d ce at items (told ++ (None ∷ []))) (with_ends j l).ops
        more' k o is =
            let small = slice_get_within (with_ends j l).ops k o is in
            let same = length_ends j l in
            let long = was.long in
            fits_more d ce at items told None k o (omega (arith, small, same, long)) (held_ends k o is)

        by : (b : Bool) → Every (Fits d ce at items (told_after b None told)) (with_ends j l).ops
        by true = more'
        by false = held_ends

    abbrev newcomer : Operation
    newcomer = new_one j (op_of (with_ends j l).ops (found l.places.newest c.ce)) (Cyc c)

    new_opens : owner ≡ None → opens (Cyc c) ≡ true
    new_opens e = at' (opens (Cyc c)) refl
      where
        none : {m : ℕ} → Some m ≡ None → ⊥
        none h = cc

        at' : (b : Bool) → opens (Cyc c) ≡ b → opens (Cyc c) ≡ true
        at' true h = h
        at' false h = absurd (none (sym (old g targets n one_lun past marks c before after l pieces here h).1 ∙ e))

    new_far : owner ≡ None → Holding many newcomer
    new_far e = record {
      work = λ w t. absurd (untold w t);
      closed = λ w t open'. absurd (untold w t);
      part = λ own t. absurd (apart (sym is_there ∙ own));
      current = λ w s p. absurd (let small = at_small (ap is_unseen s) in omega (arith, small, p));
      unseen = λ u p. absurd (let small = at_small u in omega (arith, small, p));
    }
      where
        is_there : newcomer.ce ≡ c.ce
        is_there = ap (λ (x : OpenedAt). x.ce) (new g targets n one_lun past marks c before after l pieces here (new_opens e)).1

        untold : (w : Sequence) → slice_get later many ≡ Some (Some w) → ⊥
        untold w t =
            let same = length_ends j l in
            let long = was.long in
            none (told_last told None (Some w) many (omega (arith, same, long)) (ap (λ b. slice_get (told_after b None told) many) (sym (new_opens e)) ∙ t))
          where
            none : {v : Sequence} → Some v ≡ None → ⊥
            none h = cc

    holding_more : Every Holding more
    holding_more = by owner refl
      where
        by : (x : Option ℕ) → owner ≡ x → Every Holding (with_new x j (with_ends j l)).ops
        by (Some m) e = holding_ends
        by None e = every_new Holding (with_ends j l).ops newcomer holding_ends (new_far e)

    abbrev Marked : ℕ → Operation → Type 0
    Marked k o = Holding k o × (k ≡ mark → o.ce ≡ c.ce)

    marked_changed : (x : Change) (ops : List Operation) → Every Marked ops → Every Marked (changed_at mark x ops)
    marked_changed x ops all =
        every_at Marked Marked mark x ops (λ k o away f. f)
        (λ o is f. (fits_far d ce at items later mark o (changed x o) (λ same. apart (sym (f.1 refl) ∙ same)) (kept_ce x o) f.0, (λ same. kept_ce x o ∙ f.1 same))) all

    far_input : is_output c.kind ≡ false → Every Holding (listed j l).ops
    far_input input =
        settled Holding (fits_last d ce at items later) input
        (λ k o is. (marked_changed (change_of owner j (Cyc c)) (unfolded j mark more)
        (choose (Every Marked) (is_address_kind c.kind && is_alone_op (slice_get more mark)) _ more (marked_changed Unfold more marked_more) marked_more) k o is).0)
      where
        marked_more : Every Marked more
        marked_more k o is =
            (holding_more k o is, (λ same. (mine g targets n one_lun past marks c before after l pieces here input o (ap (slice_get more) (sym same) ∙ is)).0))

    output_kind : (kind : Kind) → is_output kind ≡ true → kind ≡ Dout
    output_kind Cmd h = cc
    output_kind Adr h = cc
    output_kind Din h = cc
    output_kind Dout h = refl

    far_fits : Every Holding (listed j l).ops
    far_fits = by (is_output c.kind) refl
      where
        by : (b : Bool) → is_output c.kind ≡ b → Every Holding (listed j l).ops
        by true e =
            let kind = output_kind c.kind e in
            subst (λ b. Every (Fits d ce at items (told_after b None told)) (listed j l).ops) (sym (ap (λ (k : Kind). is_command k && opens_alone c.byte) kind)) (far_output kind)
        by false e = far_input e

    newest_far : found (listed j l).places.newest ce ≡ found l.places.newest ce
    newest_far = ap (λ (ns : List (Option ℕ)). found ns ce) (listed_newest j l) ∙ by owner
      where
        by : (x : Option ℕ) → found (newest_by x (Cyc c) c.ce many l.places.newest) ce ≡ found l.places.newest ce
        by None = found_other l.places.newest c.ce ce (Some many) apart
        by (Some m) = refl

    worker_far : worker_in (listed j l).places.workers ce 0 ≡ worker_in l.places.workers ce 0
    worker_far =
        ap (λ (ws : List (Option ℕ)). worker_in ws ce 0) (selects_workers j mark began) ∙ begins_far j mark ce (came j l) apart
        ∙ ap (λ (ws : List (Option ℕ)). worker_in ws ce 0) (new_workers owner j (with_ends j l))

    pub far_polls : Polls g ce (Cyc c ∷ past) items (listed j l) later d at
    far_polls = record {
      fits = far_fits;
      long = long_after told None was.long;
      newest = λ h. newest_far ∙ was.newest h;
      worker = λ h. worker_far ∙ was.worker h;
      shows = λ h. (targets_keep g past (Cyc c) ce apart).latch 0 ∙ was.shows h;
    }
