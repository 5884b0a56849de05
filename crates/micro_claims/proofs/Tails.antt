-- Places of the tail: what the facts of the tail are there.
use Rattle.std.proofs.Common.{◌≡◌, ℕ, zero, suc, ◌==◌, Bool, true, false, ◌&&◌, ◌||◌, not, ltb, nat_le, Option, None, refl, sym, ap, ◌∙◌, subst, arith, eqb-true, take}
use Rattle.std.proofs.lemmas.Bool.Decides.{nat_tests}
use Rattle.std.proofs.lemmas.Bool.{and_parts, and_from}
use Rattle.nand_geometry.specs.declared.parts.Parts.{Parts}
use Rattle.onfi_cycle.specs.declared.command.Command.{Command}
use Rattle.onfi_cycle.specs.declared.command.Command.TheVariants.{Read, ReadConfirm, ChangeReadColumn, ChangeReadColumnEnhanced, ChangeReadColumnConfirm, BlockErase, BlockEraseConfirm, BlockErasePlane, PageProgram, ChangeWriteColumn, ReadId, ReadParameterPage, ReadUniqueId, GetFeatures, SetFeatures, ResetLun}
use Rattle.onfi_cycle.specs.declared.data_phase.DataPhase.TheVariants.{Inputs}
use Rattle.onfi_cycle.specs.declared.tail_facts.TailFacts.{TailFacts}
use Rattle.onfi_cycle.specs.declared.target_cycle.TargetCycle.TheVariants.{CommandCycle}
use Rattle.onfi_cycle.specs.Command.{closes, address_cycles}
use Rattle.onfi_cycle.specs.Sequence.{begins_anew, facts_after, is_open, is_proper_beginning, input_column}
use Rattle.micro_program.specs.Program.{Job}
use Rattle.micro_claims.specs.Spans.{Span}
use Rattle.micro_claims.specs.State.{KnownTarget, Place, Closed, After, InData, InColumn, InFeatures, Unknown, Shown, NamedRow}
use Rattle.micro_claims.specs.Against.{is_open_place, place_wants, selects_plane_at, is_data_command, is_inside_address}
use Rattle.micro_claims.proofs.Fits.{holds_address, Address, bytes_of, opener_facts, facts_behind, is_place, InProgram, Opened, PlaceIs, has_column, has_row, Now, ColumnFits, NameFits, RowIs, TailFits}

-- 1. what is tested of the place that is claimed is so of the place

pub every_place : (test : Place → Bool) (q p : Place) → test q ≡ true → q ≡ p → test p ≡ true
every_place test q p h here = ap test (sym here) ∙ h

pub no_place : (test : Place → Bool) (q p : Place) → test q ≡ false → q ≡ p → test p ≡ false
no_place test q p h here = ap test (sym here) ∙ h

-- outside an address none is held
pub none_held : {X : Type 0} → (p : Place) → is_inside_address p ≡ false → holds_address p ≡ true → X
none_held Unknown h e = cc
none_held Closed h e = cc
none_held (After o n) h e = let clash : true ≡ false = sym e ∙ h in cc
none_held InData h e = cc
none_held (InColumn n) h e = let clash : true ≡ false = sym e ∙ h in cc
none_held (InFeatures n) h e = cc

-- 2. where nothing is open

not_none : (n : ℕ) → (suc n == 0) ≡ true → ⊥
not_none n h = let e : suc n ≡ 0 = eqb-true (suc n) 0 h in omega (arith, e)

open_behind : (o : Command) (n : ℕ) (a : Address) (t : TailFacts) → Opened o n a t → is_proper_beginning o n ≡ false → is_open t ≡ false
open_behind Read zero a t h proper = ap is_open h.facts
open_behind Read (suc n) a t h proper = let most = h.place in absurd (clash (nat_le (suc n) 5) most (ltb 0 (suc n)) (let x : ltb 0 (suc n) ≡ true = grind (arith, nat_tests) in x) proper)
  where
    clash : (b : Bool) → b ≡ true → (d : Bool) → d ≡ true → (d && b) ≡ false → ⊥
    clash true h true k x = cc
    clash false h d k x = cc
    clash true h false k x = cc
open_behind ChangeReadColumn zero a t h proper = cc
open_behind ChangeReadColumn (suc zero) a t h proper = cc
open_behind ChangeReadColumn (suc (suc zero)) a t h proper = cc
open_behind ChangeReadColumn (suc (suc (suc n))) a t h proper = let most = h.place in absurd (too_many n most)
  where
    too_many : (n : ℕ) → nat_le (suc (suc (suc n))) 2 ≡ true → ⊥
    too_many n h = grind (arith, nat_tests)
open_behind ChangeReadColumnEnhanced n a t h proper = absurd (few n h.place proper)
  where
    few : (n : ℕ) → nat_le n 5 ≡ true → (ltb n 5 || (n == 5 && true)) ≡ false → ⊥
    few n h k = at (ltb n 5) refl k
      where
        at : (b : Bool) → ltb n 5 ≡ b → (b || (n == 5 && true)) ≡ false → ⊥
        at true e k = cc
        at false e k =
            let five : (n == 5) ≡ true = grind (arith, nat_tests, h, e) in
            let clash : true ≡ false = sym (ap (λ (b : Bool). b && true) five) ∙ k in
            cc
open_behind BlockErase zero a t h proper = cc
open_behind BlockErase (suc zero) a t h proper = cc
open_behind BlockErase (suc (suc zero)) a t h proper = cc
open_behind BlockErase (suc (suc (suc zero))) a t h proper = cc
open_behind BlockErase (suc (suc (suc (suc n)))) a t h proper = let most = h.place in absurd (too_many n most)
  where
    too_many : (n : ℕ) → nat_le (suc (suc (suc (suc n)))) 3 ≡ true → ⊥
    too_many n h = grind (arith, nat_tests)
open_behind PageProgram n a t h proper = absurd (few n h.place proper)
  where
    few : (n : ℕ) → nat_le n 4 ≡ true → (ltb n 5 || (n == 5 && true)) ≡ false → ⊥
    few n h k = at (ltb n 5) refl k
      where
        at : (b : Bool) → ltb n 5 ≡ b → (b || (n == 5 && true)) ≡ false → ⊥
        at true e k = cc
        at false e k = grind (arith, nat_tests)
open_behind ChangeWriteColumn n a t h proper = absurd (few n h.place proper)
  where
    few : (n : ℕ) → nat_le n 4 ≡ true → (ltb n 5 || (n == 5 && true)) ≡ false → ⊥
    few n h k = at (ltb n 5) refl k
      where
        at : (b : Bool) → ltb n 5 ≡ b → (b || (n == 5 && true)) ≡ false → ⊥
        at true e k = cc
        at false e k = grind (arith, nat_tests)
open_behind ReadId zero a t h proper = cc
open_behind ReadId (suc n) a t h proper = absurd (not_none n h.place)
open_behind ReadParameterPage zero a t h proper = cc
open_behind ReadParameterPage (suc n) a t h proper = absurd (not_none n h.place)
open_behind ReadUniqueId zero a t h proper = cc
open_behind ReadUniqueId (suc n) a t h proper = absurd (not_none n h.place)
open_behind GetFeatures zero a t h proper = cc
open_behind GetFeatures (suc n) a t h proper = absurd (not_none n h.place)
open_behind SetFeatures zero a t h proper = cc
open_behind SetFeatures (suc n) a t h proper = absurd (not_none n h.place)
open_behind ResetLun zero a t h proper = cc
open_behind ResetLun (suc zero) a t h proper = cc
open_behind ResetLun (suc (suc zero)) a t h proper = cc
open_behind ResetLun (suc (suc (suc n))) a t h proper = let most = h.place in absurd (too_many n most)
  where
    too_many : (n : ℕ) → nat_le (suc (suc (suc n))) 2 ≡ true → ⊥
    too_many n h = grind (arith, nat_tests)
open_behind _ n a t h proper = let most = h.place in cc

pub closed_there : (p : Place) (a : Address) (t : TailFacts) → PlaceIs p a t → is_open_place p ≡ false → is_open t ≡ false
closed_there Closed a t is h = is
closed_there (After o n) a t is h = open_behind o n a t is h
closed_there InData a t is h = cc
closed_there (InColumn n) a t is h = cc
closed_there (InFeatures n) a t is h = cc
closed_there Unknown a t is h = cc

-- nothing is open where no place is
pub closed_tail : (g : Parts) (j : Job) (v : KnownTarget) (n : Now) (t : TailFacts) → TailFits g j v n t → is_open_place v.tail ≡ false → is_open t ≡ false
closed_tail g j v n t f h = closed_there f.place f.address t f.is (no_place is_open_place v.tail f.place h f.here)

-- 3. tails that a word leaves

abbrev pub no_address : Address
no_address = record { column = 0; index = 0; plane = 0; r1 = 0; r2 = 0; r3 = 0 }

pub closed_fits : (g : Parts) (j : Job) (column : Option Span) (named : Option NamedRow) (shows : Option Shown) (n : Now) (t : TailFacts) → is_open t ≡ false → TailFits g j (record { tail = Closed; column = column; named = named; shows = shows }) n t
closed_fits g j column named shows n t h =
    record { place = Closed; here = refl; address = no_address; is = h; now = λ e. cc; column = λ e. cc; row = λ e. cc; named = λ e. cc; single = λ e. cc }

pub opener_fits : (g : Parts) (j : Job) (shows : Option Shown) (n : Now) (t : TailFacts) (o : Command) → is_place o 0 ≡ true → begins_anew t (CommandCycle o) ≡ true → TailFits g j (record { tail = After o 0; column = None; named = None; shows = shows }) n (facts_after (CommandCycle o) t)
opener_fits g j shows n t Read h begins = record { place = After Read 0; here = refl; address = no_address; is = record { place = refl; facts = refl }; now = λ e. cc; column = λ e. cc; row = λ e. cc; named = λ e. cc; single = λ e. cc }
opener_fits g j shows n t ChangeReadColumn h begins = record { place = After ChangeReadColumn 0; here = refl; address = no_address; is = record { place = refl; facts = refl }; now = λ e. cc; column = λ e. cc; row = λ e. cc; named = λ e. cc; single = λ e. cc }
opener_fits g j shows n t ChangeReadColumnEnhanced h begins = record { place = After ChangeReadColumnEnhanced 0; here = refl; address = no_address; is = record { place = refl; facts = refl }; now = λ e. cc; column = λ e. cc; row = λ e. cc; named = λ e. cc; single = λ e. cc }
opener_fits g j shows n t BlockErase h begins = record { place = After BlockErase 0; here = refl; address = no_address; is = record { place = refl; facts = refl }; now = λ e. cc; column = λ e. cc; row = λ e. cc; named = λ e. cc; single = λ e. cc }
opener_fits g j shows n t PageProgram h begins = record { place = After PageProgram 0; here = refl; address = no_address; is = record { place = refl; facts = refl }; now = λ e. cc; column = λ e. cc; row = λ e. cc; named = λ e. cc; single = λ e. cc }
opener_fits g j shows n t ChangeWriteColumn h begins = record { place = After ChangeWriteColumn 0; here = refl; address = no_address; is = record { place = refl; facts = begun begins }; now = λ e. cc; column = λ e. cc; row = λ e. cc; named = λ e. cc; single = λ e. cc }
  where
    begun : begins_anew t (CommandCycle ChangeWriteColumn) ≡ true → facts_after (CommandCycle ChangeWriteColumn) t ≡ opener_facts ChangeWriteColumn
    begun e = rw e refl
opener_fits g j shows n t ReadId h begins = record { place = After ReadId 0; here = refl; address = no_address; is = record { place = refl; facts = refl }; now = λ e. cc; column = λ e. cc; row = λ e. cc; named = λ e. cc; single = λ e. cc }
opener_fits g j shows n t ReadParameterPage h begins = record { place = After ReadParameterPage 0; here = refl; address = no_address; is = record { place = refl; facts = refl }; now = λ e. cc; column = λ e. cc; row = λ e. cc; named = λ e. cc; single = λ e. cc }
opener_fits g j shows n t ReadUniqueId h begins = record { place = After ReadUniqueId 0; here = refl; address = no_address; is = record { place = refl; facts = refl }; now = λ e. cc; column = λ e. cc; row = λ e. cc; named = λ e. cc; single = λ e. cc }
opener_fits g j shows n t GetFeatures h begins = record { place = After GetFeatures 0; here = refl; address = no_address; is = record { place = refl; facts = refl }; now = λ e. cc; column = λ e. cc; row = λ e. cc; named = λ e. cc; single = λ e. cc }
opener_fits g j shows n t SetFeatures h begins = record { place = After SetFeatures 0; here = refl; address = no_address; is = record { place = refl; facts = refl }; now = λ e. cc; column = λ e. cc; row = λ e. cc; named = λ e. cc; single = λ e. cc }
opener_fits g j shows n t ResetLun h begins = record { place = After ResetLun 0; here = refl; address = no_address; is = record { place = refl; facts = refl }; now = λ e. cc; column = λ e. cc; row = λ e. cc; named = λ e. cc; single = λ e. cc }
opener_fits g j shows n t _ h begins = cc

-- 4. where a closer is wanted

-- the address of an opener is whole, and its row is that of this LUN
pub record Whole (g : Parts) (j : Job) (v : KnownTarget) (n : Now) (o : Command) (t : TailFacts) : Type 0 where
  pub address : Address
  pub facts : t ≡ facts_behind (opener_facts o) (take (address_cycles o) (bytes_of o address))
  pub column : has_column (After o (address_cycles o)) ≡ true → ColumnFits (input_column t) v.column
  pub row : has_row (After o (address_cycles o)) ≡ true → RowIs g j address
  pub named : has_row (After o (address_cycles o)) ≡ true → NameFits g j address n.index v.named

-- of all the openers behind which the tail may be it is this one
pub only_read : (o : Command) (n : ℕ) → is_place o n ≡ true → closes o ReadConfirm ≡ true → o ≡ Read
only_read Read n place h = refl
only_read ChangeReadColumn n place h = cc
only_read BlockErase n place h = cc
only_read ChangeReadColumnEnhanced n place h = cc
only_read _ n place h = cc

pub only_erase : (o : Command) (n : ℕ) → is_place o n ≡ true → closes o BlockEraseConfirm ≡ true → o ≡ BlockErase
only_erase BlockErase n place h = refl
only_erase Read n place h = cc
only_erase ChangeReadColumn n place h = cc
only_erase ChangeReadColumnEnhanced n place h = cc
only_erase _ n place h = cc

pub only_erase_plane : (o : Command) (n : ℕ) → is_place o n ≡ true → closes o BlockErasePlane ≡ true → o ≡ BlockErase
only_erase_plane BlockErase n place h = refl
only_erase_plane Read n place h = cc
only_erase_plane ChangeReadColumn n place h = cc
only_erase_plane ChangeReadColumnEnhanced n place h = cc
only_erase_plane _ n place h = cc

pub only_column : (o : Command) (n : ℕ) → is_place o n ≡ true → (not (selects_plane_at (After o n)) && closes o ChangeReadColumnConfirm) ≡ true → o ≡ ChangeReadColumn
only_column ChangeReadColumn n place h = refl
only_column Read n place h = cc
only_column BlockErase n place h = cc
only_column ChangeReadColumnEnhanced n place h = cc
only_column _ n place h = cc

pub only_plane : (o : Command) (n : ℕ) → is_place o n ≡ true → (selects_plane_at (After o n) && closes o ChangeReadColumnConfirm) ≡ true → o ≡ ChangeReadColumnEnhanced
only_plane ChangeReadColumnEnhanced n place h = refl
only_plane Read n place h = cc
only_plane ChangeReadColumn n place h = cc
only_plane BlockErase n place h = cc
only_plane _ n place h = cc

-- what a closer ends that is wanted after so many addresses: all addresses of its opener
pub record ClosedBy (p : Command) (m : ℕ) (o : Command) (a : Address) : Type 0 where
  pub place : After p m ≡ After o (address_cycles o)
  pub facts : facts_behind (opener_facts p) (take m (bytes_of p a)) ≡ facts_behind (opener_facts o) (take (address_cycles o) (bytes_of o a))

pub closed_by : (c o p : Command) (m : ℕ) (a : Address) (test : Place → Bool) → ((q : Command) (n : ℕ) → is_place q n ≡ true → (test (After q n) && closes q c) ≡ true → q ≡ o) → is_place p m ≡ true → test (After p m) ≡ true → place_wants c (After p m) ≡ true → ClosedBy p m o a
closed_by c o p m a test only place tested w =
    let both = and_parts (closes p c) (m == address_cycles p) w in
    let same : p ≡ o = only p m place (and_from (test (After p m)) (closes p c) tested both.0) in
    let number : m ≡ address_cycles o = eqb-true m (address_cycles p) both.1 ∙ ap address_cycles same in
    record { place = λ i. After (same i) (number i); facts = λ i. facts_behind (opener_facts (same i)) (take (number i) (bytes_of (same i) a)) }

-- behind a whole address, where the tail is at a place that passes, and wants this closer
pub whole_at : (g : Parts) (j : Job) (v : KnownTarget) (n : Now) (t : TailFacts) (c o : Command) (test : Place → Bool) → ((p : Command) (m : ℕ) → is_place p m ≡ true → (test (After p m) && closes p c) ≡ true → p ≡ o) → is_data_command c ≡ false → TailFits g j v n t → test v.tail ≡ true → place_wants c v.tail ≡ true → Whole g j v n o t
whole_at g j v n t c o test only plain f tested h = at f.place f.is f.column f.row f.named (every_place test v.tail f.place tested f.here) (every_place (place_wants c) v.tail f.place h f.here)
  where
    at : (p : Place) → PlaceIs p f.address t → (has_column p ≡ true → ColumnFits (input_column t) v.column) → (has_row p ≡ true → RowIs g j f.address) → (has_row p ≡ true → NameFits g j f.address n.index v.named) → test p ≡ true → place_wants c p ≡ true → Whole g j v n o t
    at Closed is column row named passes w = cc
    at InData is column row named passes w = cc
    at (InColumn m) is column row named passes w = cc
    at (InFeatures m) is column row named passes w = cc
    at Unknown is column row named passes w = cc
    at (After p m) is column row named passes w =
        let by = closed_by c o p m f.address test only is.place passes w in
        record {
          address = f.address;
          facts = is.facts ∙ by.facts;
          column = λ e. column (ap has_column by.place ∙ e);
          row = λ e. row (ap has_row by.place ∙ e);
          named = λ e. named (ap has_row by.place ∙ e);
        }

-- the same at any place
pub whole : (g : Parts) (j : Job) (v : KnownTarget) (n : Now) (t : TailFacts) (c o : Command) → ((p : Command) (m : ℕ) → is_place p m ≡ true → closes p c ≡ true → p ≡ o) → is_data_command c ≡ false → TailFits g j v n t → place_wants c v.tail ≡ true → Whole g j v n o t
whole g j v n t c o only plain f h = whole_at g j v n t c o (λ p. true) (λ p m place w. only p m place (and_parts true (closes p c) w).1) plain f refl h

pub whole_read : (g : Parts) (j : Job) (v : KnownTarget) (n : Now) (t : TailFacts) → TailFits g j v n t → place_wants ReadConfirm v.tail ≡ true → Whole g j v n Read t
whole_read g j v n t f h = whole g j v n t ReadConfirm Read only_read refl f h

pub whole_erase : (g : Parts) (j : Job) (v : KnownTarget) (n : Now) (t : TailFacts) → TailFits g j v n t → place_wants BlockEraseConfirm v.tail ≡ true → Whole g j v n BlockErase t
whole_erase g j v n t f h = whole g j v n t BlockEraseConfirm BlockErase only_erase refl f h

pub whole_erase_plane : (g : Parts) (j : Job) (v : KnownTarget) (n : Now) (t : TailFacts) → TailFits g j v n t → place_wants BlockErasePlane v.tail ≡ true → Whole g j v n BlockErase t
whole_erase_plane g j v n t f h = whole g j v n t BlockErasePlane BlockErase only_erase_plane refl f h

pub whole_column : (g : Parts) (j : Job) (v : KnownTarget) (n : Now) (t : TailFacts) → TailFits g j v n t → not (selects_plane_at v.tail) ≡ true → place_wants ChangeReadColumnConfirm v.tail ≡ true → Whole g j v n ChangeReadColumn t
whole_column g j v n t f plain h = whole_at g j v n t ChangeReadColumnConfirm ChangeReadColumn (λ p. not (selects_plane_at p)) only_column refl f plain h

pub whole_plane : (g : Parts) (j : Job) (v : KnownTarget) (n : Now) (t : TailFacts) → TailFits g j v n t → selects_plane_at v.tail ≡ true → place_wants ChangeReadColumnConfirm v.tail ≡ true → Whole g j v n ChangeReadColumnEnhanced t
whole_plane g j v n t f selects h = whole_at g j v n t ChangeReadColumnConfirm ChangeReadColumnEnhanced selects_plane_at only_plane refl f selects h

-- in the data of a program
pub record Programming (g : Parts) (j : Job) (v : KnownTarget) (n : Now) (t : TailFacts) : Type 0 where
  pub address : Address
  pub program : InProgram address Inputs t
  pub column : ColumnFits (input_column t) v.column
  pub row : RowIs g j address
  pub named : NameFits g j address n.index v.named

pub programming : (g : Parts) (j : Job) (v : KnownTarget) (n : Now) (t : TailFacts) (test : Place → Bool) → ((p : Place) → test p ≡ true → p ≡ InData) → TailFits g j v n t → test v.tail ≡ true → Programming g j v n t
programming g j v n t test only f h =
    let place : f.place ≡ InData = only f.place (every_place test v.tail f.place h f.here) in
    record {
      address = f.address;
      program = subst (λ (p : Place). PlaceIs p f.address t) place f.is;
      column = f.column (ap has_column place);
      row = f.row (ap has_row place);
      named = f.named (ap has_row place);
    }
