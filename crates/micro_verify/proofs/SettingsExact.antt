-- Words that set a register are exact.
use Rattle.std.proofs.Common.{◌≡◌, ℕ, ◌≤◌, ◌<◌, ◌==◌, Bool, true, false, ◌&&◌, ◌||◌, cond, ltb, [], ◌∷◌, Option, refl, sym, ap, ◌∙◌, subst, arith}
use Rattle.std.proofs.lemmas.Bool.Decides.{nat_tests}
use Rattle.std.proofs.lemmas.Bool.{or_right}
use Rattle.nand_geometry.specs.declared.parts.Parts.{Parts}
use Rattle.onfi_cycle.specs.declared.data_phase.DataPhase.TheVariants.{FirstColumn, SecondColumn}
use Rattle.onfi_cycle.specs.declared.opening.Opening.{Opening}
use Rattle.onfi_cycle.specs.declared.tail_facts.TailFacts.{TailFacts}
use Rattle.onfi_cycle.specs.Command.{address_cycles}
use Rattle.onfi_cycle.specs.Sequence.{opened, wants_second_column, is_open}
use Rattle.onfi_cycle.specs.Channel.{Channel}
use Rattle.micro_word.specs.declared.word.Word.TheVariants.{Seek, Column, Plane, Yield}
use Rattle.micro_word.specs.Text.{Microprogram}
use Rattle.micro_claims.specs.declared.refusal.Reason.{Reason}
use Rattle.micro_claims.specs.declared.refusal.Reason.TheVariants.{AddressUnaligned, HandoverInSequence, RowOrPlaneOutside}
use Rattle.micro_program.specs.Program.{Job}
use Rattle.micro_claims.specs.Spans.{exactly}
use Rattle.micro_claims.specs.Planes.{just_plane}
use Rattle.micro_claims.specs.declared.state.State.{State}
use Rattle.micro_claims.specs.declared.known_target.KnownTarget.{KnownTarget}
use Rattle.micro_claims.specs.declared.place.Place.{Place}
use Rattle.micro_claims.specs.declared.place.Place.TheVariants.{Closed, After, InData, InColumn, InFeatures, Unknown}
use Rattle.micro_claims.specs.Against.{is_inside_address}
use Rattle.micro_claims.specs.Reasons.{breaks_cycle_forbidden, breaks_address_unaligned, breaks_handover_in_sequence, breaks_buffer_passed, breaks_row_or_plane_outside, breaks_column_too_large, breaks_no_status, breaks_ends_too_soon, breaks_over_budget, breaks_command_not_allowed}
use Rattle.micro_claims.specs.Leaves.{handed_over, with_registers, paid}
use Rattle.micro_claims.specs.Accepts.{state_after}
use Rattle.micro_claims.proofs.Fits.{Address, Now, now_of}
use Rattle.micro_claims.proofs.Sounding.{no_reasons}
use Rattle.micro_verify.specs.Lazy.{lone_job, Run}
use Rattle.micro_verify.specs.Cause.{Cause, is_amid, tail_now}
use Rattle.micro_verify.proofs.Lone.{Lone, IsAlone, IsLone}
use Rattle.micro_verify.proofs.Mirrors.{Mirrors, TailMirror, PlaceMirror, NameIs, begun, open_same}
use Rattle.micro_verify.proofs.Causes.{Goes, ExactWord, reason_holds, reason_is}
use Rattle.micro_verify.proofs.WordsExact.{goes_by, registers_exact, registers_moved, registers_set}

-- 1. inside an address

pub amid_there : (p : Place) (a : Address) (t : TailFacts) → PlaceMirror p a t → is_inside_address p ≡ true → is_amid t ≡ true
amid_there Closed a t is h = cc
amid_there InData a t is h = cc
amid_there (InFeatures n) a t is h = absurd is
amid_there Unknown a t is h = absurd is
amid_there (After o n) a t is h =
    let b = begun o n a t is in
    ap (λ (x : Option Opening). opened (λ c n. ltb 0 n && ltb n (address_cycles c)) x || wants_second_column t.phase) b.opening ∙ (ap (λ (x : Bool). x || wants_second_column t.phase) h)
amid_there (InColumn n) a t is h = or_right _ _ (ap wants_second_column is.program.phase ∙ second (n == 0) refl)
  where
    second : (b : Bool) → (n == 0) ≡ b → wants_second_column (cond b FirstColumn SecondColumn) ≡ true
    second true e = let both = h in absurd (let x : ⊥ = grind (arith, nat_tests) in x)
    second false e = refl

-- what is said of the tail, as it is
pub amid_now : (s : Channel) (text : Microprogram) (v : State) (r : Run) (c : Lone) → IsLone s r.past c → Mirrors s.geometry (lone_job s.geometry text) v r.done c → is_inside_address v.target.tail ≡ true → is_amid (tail_now r) ≡ true
amid_now s text v r c is m h = ap is_amid is.facts ∙ amid_there m.tail.place m.tail.address c.facts m.tail.is (sym (ap is_inside_address m.tail.single) ∙ h)

-- the tail, where no address has begun, whatever the registers are
pub tail_apart : (g : Parts) (j : Job) (v : KnownTarget) (n m : Now) (c : Lone) → n.index ≡ m.index → is_inside_address v.tail ≡ false → TailMirror g j v n c → TailMirror g j v m c
tail_apart g j v n m c same apart t =
    record {
      place = t.place;
      single = t.single;
      address = t.address;
      is = t.is;
      now = λ e. let both : true ≡ false = sym e ∙ (sym (ap is_inside_address t.single) ∙ apart) in cc;
      column = t.column;
      row = t.row;
      named = λ e. subst (λ (i : ℕ). NameIs g t.address i v.named) same (t.named e);
      base = t.base;
      changes = t.changes;
    }

-- 2. seek

pub seek_exact : (s : Channel) (text : Microprogram) (v : State) (r : Run) (c : Lone) (place : ℕ) → IsAlone s → IsLone s r.past c → Mirrors s.geometry (lone_job s.geometry text) v r.done c → ExactWord s text v r (Seek place)
unfolding state_after breaks_cycle_forbidden breaks_address_unaligned breaks_handover_in_sequence breaks_buffer_passed breaks_row_or_plane_outside breaks_column_too_large breaks_no_status breaks_ends_too_soon breaks_over_budget breaks_command_not_allowed
seek_exact s text v r c place k is m =
    record {
      cause = λ reason e. by reason (reason_is s.geometry text v (Seek place) reason e);
      goes = λ e f.
          goes_by s text (state_after g v (Seek place)) r (Seek place) [] r.past c k refl refl is tt
          (λ answer. record {
            registers = registers_moved g v.registers (exactly place) v.registers.polled r.done (Seek place) answer (record { column = λ n. refl; plane = λ n. refl; index = λ b n. refl }) refl m.registers;
            tail = m.tail;
            shows = m.shows;
            lun = m.lun;
            along = m.along;
          });
    }
  where
    g : Parts
    g = s.geometry

    by : (reason : Reason) → reason_holds g text v (Seek place) reason ≡ true → Cause s (lone_job g text) r (Seek place) reason
    by AddressUnaligned h = cc
    by _ h = cc

-- 3. col, plane

pub column_exact : (s : Channel) (text : Microprogram) (v : State) (r : Run) (c : Lone) (column : ℕ) → column < 65536 → IsAlone s → IsLone s r.past c → Mirrors s.geometry (lone_job s.geometry text) v r.done c → ExactWord s text v r (Column column)
unfolding state_after breaks_cycle_forbidden breaks_address_unaligned breaks_handover_in_sequence breaks_buffer_passed breaks_row_or_plane_outside breaks_column_too_large breaks_no_status breaks_ends_too_soon breaks_over_budget breaks_command_not_allowed
column_exact s text v r c column low k is m =
    record { cause = λ reason e. by reason (reason_is s.geometry text v (Column column) reason e); goes = λ e f. goes (no_reasons s.geometry text v (Column column) e).no_address_unaligned }
  where
    g : Parts
    g = s.geometry

    j : Job
    j = lone_job g text

    by : (reason : Reason) → reason_holds g text v (Column column) reason ≡ true → Cause s j r (Column column) reason
    by AddressUnaligned h = amid_now s text v r c is m h
    by _ h = cc

    goes : is_inside_address v.target.tail ≡ false → Goes s text (state_after g v (Column column)) r (Column column)
    goes apart =
        goes_by s text (state_after g v (Column column)) r (Column column) [] r.past c k refl refl is tt
        (λ answer. record {
          registers = registers_set g v.registers (exactly column) v.registers.planes v.registers.place v.registers.polled r.done (Column column) answer m.registers (record { lo = refl; hi = refl }) low m.registers.planes m.registers.plane_low (λ b n. refl) m.registers.place;
          tail = tail_apart g j v.target (now_of j r.done) (now_of j (record { word = Column column; answer = answer } ∷ r.done)) c refl apart m.tail;
          shows = m.shows;
          lun = m.lun;
          along = m.along;
        })

pub plane_exact : (s : Channel) (text : Microprogram) (v : State) (r : Run) (c : Lone) (plane : ℕ) → plane ≤ 3 → IsAlone s → IsLone s r.past c → Mirrors s.geometry (lone_job s.geometry text) v r.done c → ExactWord s text v r (Plane plane)
unfolding state_after breaks_cycle_forbidden breaks_address_unaligned breaks_handover_in_sequence breaks_buffer_passed breaks_row_or_plane_outside breaks_column_too_large breaks_no_status breaks_ends_too_soon breaks_over_budget breaks_command_not_allowed
plane_exact s text v r c plane low k is m =
    record { cause = λ reason e. by reason (reason_is s.geometry text v (Plane plane) reason e); goes = λ e f. goes (no_reasons s.geometry text v (Plane plane) e).no_address_unaligned }
  where
    g : Parts
    g = s.geometry

    j : Job
    j = lone_job g text

    by : (reason : Reason) → reason_holds g text v (Plane plane) reason ≡ true → Cause s j r (Plane plane) reason
    by AddressUnaligned h = amid_now s text v r c is m h
    by RowOrPlaneOutside h = let over : ltb 3 plane ≡ true = h in absurd (let x : ⊥ = grind (arith, nat_tests) in x)
    by _ h = cc

    goes : is_inside_address v.target.tail ≡ false → Goes s text (state_after g v (Plane plane)) r (Plane plane)
    goes apart =
        goes_by s text (state_after g v (Plane plane)) r (Plane plane) [] r.past c k refl refl is tt
        (λ answer. record {
          registers = registers_set g v.registers v.registers.column (just_plane plane) v.registers.place v.registers.polled r.done (Plane plane) answer m.registers m.registers.column m.registers.column_low refl low (λ b n. refl) m.registers.place;
          tail = tail_apart g j v.target (now_of j r.done) (now_of j (record { word = Plane plane; answer = answer } ∷ r.done)) c refl apart m.tail;
          shows = m.shows;
          lun = m.lun;
          along = m.along;
        })

-- 4. yield

pub yield_exact : (s : Channel) (text : Microprogram) (v : State) (r : Run) (c : Lone) → IsAlone s → ltb 1 s.geometry.luns ≡ false → IsLone s r.past c → Mirrors s.geometry (lone_job s.geometry text) v r.done c → ExactWord s text v r Yield
unfolding state_after breaks_cycle_forbidden breaks_address_unaligned breaks_handover_in_sequence breaks_buffer_passed breaks_row_or_plane_outside breaks_column_too_large breaks_no_status breaks_ends_too_soon breaks_over_budget breaks_command_not_allowed
yield_exact s text v r c k one is m =
    record { cause = λ reason e. by reason (reason_is s.geometry text v Yield reason e); goes = λ e f. goes }
  where
    g : Parts
    g = s.geometry

    j : Job
    j = lone_job g text

    by : (reason : Reason) → reason_holds g text v Yield reason ≡ true → Cause s j r Yield reason
    by HandoverInSequence h = ap is_open is.facts ∙ (sym (open_same g j v r.done c m) ∙ h)
    by _ h = cc

    same : handed_over g v ≡ v
    same = rw one refl

    goes : Goes s text (state_after g v Yield) r Yield
    goes =
        goes_by s text (state_after g v Yield) r Yield [] r.past c k refl refl is tt
        (λ answer. subst (λ (x : State). Mirrors g j (with_registers x (paid 0 x.registers)) (record { word = Yield; answer = answer } ∷ r.done) c) (sym same)
        (record {
          registers = registers_exact g v.registers v.registers.polled r.done Yield answer (record { column = λ n. refl; plane = λ n. refl; index = λ b n. refl }) (λ n. refl) m.registers;
          tail = m.tail;
          shows = m.shows;
          lun = m.lun;
          along = m.along;
        }))
