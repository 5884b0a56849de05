-- Words that set a register are sound, and those that open and close a loop.
use Rattle.std.proofs.lemmas.Bool.Decides.{nat_tests}
use Rattle.std.proofs.Common.{◌≡◌, ℕ, true, false, List, [], ◌∷◌, Some, None, refl, subst, arith}
use Rattle.nand_geometry.specs.declared.parts.Parts.{Parts}
use Rattle.onfi_cycle.specs.declared.item.Item.{Item}
use Rattle.onfi_cycle.specs.declared.tail_facts.TailFacts.{TailFacts}
use Rattle.onfi_cycle.specs.Channel.{Channel}
use Rattle.micro_word.specs.declared.word.Word.{Word}
use Rattle.micro_word.specs.declared.word.Word.TheVariants.{Seek, Column, Plane, Loop, Next}
use Rattle.micro_program.specs.Lines.{Line}
use Rattle.micro_program.specs.Program.{Job, Done, Answer, place_now, fits}
use Rattle.micro_program.specs.Moves.{moves}
use Rattle.micro_claims.specs.Spans.{exactly}
use Rattle.micro_claims.specs.Planes.{just_plane}
use Rattle.micro_claims.specs.State.{State, KnownTarget, bounds_of}
use Rattle.micro_claims.specs.Against.{is_inside_address}
use Rattle.micro_claims.specs.Reasons.{breaks_address_unaligned, breaks_row_or_plane_outside}
use Rattle.micro_claims.specs.Accepts.{state_after, accepts}
use Rattle.micro_claims.proofs.PlaneSets.{just_has}
use Rattle.micro_program.proofs.Scenes.{Scene, IsScene}
use Rattle.micro_claims.proofs.Fits.{RegistersFit, Now, now_of, NameFits, TailFits, Fits}
use Rattle.micro_claims.proofs.Numbers.{in_exactly}
use Rattle.micro_claims.proofs.Tails.{no_place, none_held}
use Rattle.micro_claims.proofs.Sounding.{KnownJob, NoReasons, registers_after, unmoved, SoundWord, is_plain, plain_sound}
use Rattle.micro_claims.proofs.Controls.{branch_fits}

-- 1. words without cycles

pub loop_like : (s : Channel) (j : Job) (k : KnownJob s j) (v : State) (past : List Item) (c : Scene) (done : List Done) (rest : List Line) (at : ℕ) (word : Word) → is_plain word ≡ true → moves s.geometry j done word ≡ Some [] → fits j.text.buffer (place_now done) word ≡ true → IsScene s j.lun past c → RegistersFit s.geometry j v.registers done → NoReasons s.geometry j.text v word → ((answer : Answer) → Fits s.geometry j (state_after s.geometry v word) (record { word = word; answer = answer } ∷ done) c true) → accepts s.geometry (bounds_of j.text) None (state_after s.geometry v word) rest ≡ true → SoundWord s j past done rest at word
loop_like s j k v past c done rest at word plain none inside scene registers clear fit acc = plain_sound s j k v past c done rest at word [] plain scene registers clear none tt inside fit acc

pub sound_loop : (s : Channel) (j : Job) (k : KnownJob s j) (v : State) (past : List Item) (c : Scene) (done : List Done) (rest : List Line) (at turns : ℕ) → IsScene s j.lun past c → Fits s.geometry j v done c true → NoReasons s.geometry j.text v (Loop turns) → accepts s.geometry (bounds_of j.text) None (state_after s.geometry v (Loop turns)) rest ≡ true → SoundWord s j past done rest at (Loop turns)
unfolding state_after
sound_loop s j k v past c done rest at turns scene f clear acc =
    loop_like s j k v past c done rest at (Loop turns) refl refl refl scene f.registers clear (λ answer. branch_fits s j v done (Loop turns) answer c f clear (record { column = λ n. refl; plane = λ n. refl; index = λ b n. refl }) refl refl) acc

pub sound_next : (s : Channel) (j : Job) (k : KnownJob s j) (v : State) (past : List Item) (c : Scene) (done : List Done) (rest : List Line) (at : ℕ) → IsScene s j.lun past c → Fits s.geometry j v done c true → NoReasons s.geometry j.text v Next → accepts s.geometry (bounds_of j.text) None (state_after s.geometry v Next) rest ≡ true → SoundWord s j past done rest at Next
unfolding state_after
sound_next s j k v past c done rest at scene f clear acc =
    loop_like s j k v past c done rest at Next refl refl refl scene f.registers clear (λ answer. branch_fits s j v done Next answer c f clear (record { column = λ n. refl; plane = λ n. refl; index = λ b n. refl }) refl refl) acc

-- 2. seek

pub sound_seek : (s : Channel) (j : Job) (k : KnownJob s j) (v : State) (past : List Item) (c : Scene) (done : List Done) (rest : List Line) (at place : ℕ) → IsScene s j.lun past c → Fits s.geometry j v done c true → NoReasons s.geometry j.text v (Seek place) → accepts s.geometry (bounds_of j.text) None (state_after s.geometry v (Seek place)) rest ≡ true → SoundWord s j past done rest at (Seek place)
unfolding state_after
sound_seek s j k v past c done rest at place scene f clear acc =
    loop_like s j k v past c done rest at (Seek place) refl refl refl scene f.registers clear
    (λ answer. record {
      registers = unmoved s.geometry j v (exactly place) v.registers.polled done (Seek place) answer f.registers clear (record { column = λ n. refl; plane = λ n. refl; index = λ b n. refl }) (in_exactly place).most;
      tail = f.tail;
      free = λ e. cc;
      shows = f.shows;
      lun = f.lun;
    })
    acc

-- 3. registers of an address, outside addresses

-- the tail, where no address has begun, fits whatever the registers are
outside : (g : Parts) (j : Job) (v : KnownTarget) (n m : Now) (t : TailFacts) → n.index ≡ m.index → is_inside_address v.tail ≡ false → TailFits g j v n t → TailFits g j v m t
outside g j v n m t same none f =
    let apart = no_place is_inside_address v.tail f.place none f.here in
    record {
      place = f.place;
      here = f.here;
      address = f.address;
      is = f.is;
      now = λ e. none_held f.place apart e;
      column = f.column;
      row = f.row;
      named = λ e. subst (λ (i : ℕ). NameFits g j f.address i v.named) same (f.named e);
      single = f.single;
    }

pub sound_column : (s : Channel) (j : Job) (k : KnownJob s j) (v : State) (past : List Item) (c : Scene) (done : List Done) (rest : List Line) (at column : ℕ) → IsScene s j.lun past c → Fits s.geometry j v done c true → NoReasons s.geometry j.text v (Column column) → accepts s.geometry (bounds_of j.text) None (state_after s.geometry v (Column column)) rest ≡ true → SoundWord s j past done rest at (Column column)
unfolding state_after breaks_address_unaligned
sound_column s j k v past c done rest at column scene f clear acc =
    loop_like s j k v past c done rest at (Column column) refl refl refl scene f.registers clear
    (λ answer. record {
      registers = registers_after s.geometry j v (exactly column) v.registers.planes v.registers.place v.registers.polled done (Column column) answer f.registers clear (in_exactly column) f.registers.plane (λ b n. refl) f.registers.place;
      tail = λ e. outside s.geometry j v.target (now_of j done) (now_of j (record { word = Column column; answer = answer } ∷ done)) c.facts refl clear.no_address_unaligned (f.tail refl);
      free = λ e. cc;
      shows = f.shows;
      lun = f.lun;
    })
    acc

pub sound_plane : (s : Channel) (j : Job) (k : KnownJob s j) (v : State) (past : List Item) (c : Scene) (done : List Done) (rest : List Line) (at plane : ℕ) → IsScene s j.lun past c → Fits s.geometry j v done c true → NoReasons s.geometry j.text v (Plane plane) → accepts s.geometry (bounds_of j.text) None (state_after s.geometry v (Plane plane)) rest ≡ true → SoundWord s j past done rest at (Plane plane)
unfolding state_after breaks_address_unaligned breaks_row_or_plane_outside
sound_plane s j k v past c done rest at plane scene f clear acc =
    loop_like s j k v past c done rest at (Plane plane) refl refl refl scene f.registers clear
    (λ answer. record {
      registers = registers_after s.geometry j v v.registers.column (just_plane plane) v.registers.place v.registers.polled done (Plane plane) answer f.registers clear f.registers.column (just_has plane (let high = clear.no_row_or_plane_outside in grind (arith, nat_tests, high))) (λ b n. refl) f.registers.place;
      tail = λ e. outside s.geometry j v.target (now_of j done) (now_of j (record { word = Plane plane; answer = answer } ∷ done)) c.facts refl clear.no_address_unaligned (f.tail refl);
      free = λ e. cc;
      shows = f.shows;
      lun = f.lun;
    })
    acc
