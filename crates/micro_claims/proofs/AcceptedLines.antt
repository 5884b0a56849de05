-- Accepted means safe: what is accepted from the first claim is a program that stays fine.
use Rattle.std.proofs.Common.{◌≡◌, ℕ, ◌+◌, ◌%◌, ◌<◌, ◌≤◌, Bool, true, false, ◌&&◌, ◌||◌, not, ltb, is_none, List, [], ◌∷◌, Option, Some, None, refl, sym, ap, ◌∙◌, subst, arith}
use Rattle.std.proofs.lemmas.Nat.{pow_pos}
use Rattle.std.proofs.lemmas.Bool.{and_parts, or_parts}
use Rattle.nand_geometry.specs.declared.parts.Parts.{Parts}
use Rattle.nand_geometry.specs.Limits.{indices}
use Rattle.onfi_cycle.specs.declared.command.Command.{Command}
use Rattle.onfi_cycle.specs.declared.command.Command.TheVariants.{ProgramCache, Read, ReadConfirm, ChangeReadColumn, ChangeReadColumnEnhanced, ChangeReadColumnConfirm, BlockErase, BlockEraseConfirm, PageProgram, ChangeWriteColumn, ProgramConfirm, BlockErasePlane, ProgramPlane, Reset, ReadId, ReadParameterPage, ReadCacheSequential, ReadCacheEnd, ReadUniqueId, GetFeatures, SetFeatures, ResetLun, SynchronousReset, ReadStatus as AskStatus, ReadStatusEnhanced, ReadPlane, CopybackRead}
use Rattle.onfi_cycle.specs.declared.item.Item.{Item}
use Rattle.onfi_cycle.specs.Command.{command, wants_one_lun}
use Rattle.onfi_cycle.specs.Sequence.{tail, facts_of, is_open}
use Rattle.onfi_cycle.specs.Lun.{closer, is_cache_read, lun_view}
use Rattle.onfi_cycle.specs.Channel.{Channel, IsIdle, is_open_on}
use Rattle.micro_word.specs.declared.word.Word.{Word}
use Rattle.micro_word.specs.declared.word.Word.TheVariants.{End, Command as CommandWord, Address, Get, Put, Seek, Column, RowAdd, Row, Plane, Wait, Yield, ReadStatus, BranchOnStatus, Loop, Next, Jump}
use Rattle.micro_word.specs.Text.{Microprogram}
use Rattle.micro_claims.specs.declared.refusal.Reason.{Reason}
use Rattle.micro_program.specs.Lines.{Line, unrolled}
use Rattle.micro_program.specs.Program.{Job, Done, index_now}
use Rattle.micro_program.specs.Step.{Stride, answered_step}
use Rattle.micro_program.specs.Safe.{Seat, loaded, after_step, IsSafe, IsJobOf, IsFine, LineIsFine, may_step, AreTruthful}
use Rattle.micro_claims.specs.State.{State, Closed, any_but_31, first_state, bounds_of}
use Rattle.micro_claims.specs.Against.{command_not_for_programs, continues_unseen, is_unfit}
use Rattle.micro_claims.specs.Reasons.{breaks_command_not_allowed, reason_against}
use Rattle.micro_claims.specs.Accepts.{state_after, goes_on, accepts}
use Rattle.micro_program.proofs.Below.{rows}
use Rattle.micro_program.proofs.Basics.{there_lun}
use Rattle.micro_program.proofs.Claiming.{stays_fine}
use Rattle.micro_program.proofs.Scenes.{Scene, IsScene}
use Rattle.micro_claims.proofs.Fits.{closer_among, Fits}
use Rattle.micro_claims.proofs.HeldPlanes.{no_pages}
use Rattle.micro_claims.proofs.Numbers.{in_exactly}
use Rattle.micro_claims.proofs.Tails.{no_address}
use Rattle.micro_claims.proofs.Sounding.{KnownJob, Claims, knows_tail, NoReasons, no_reasons, SoundWord}
use Rattle.micro_claims.proofs.Commands.{sound_00, sound_30, sound_05, sound_e0, sound_60, sound_d0, sound_80, sound_85, sound_10}
use Rattle.micro_claims.proofs.Identities.{sound_90, sound_ec, sound_ed, sound_ee, sound_ef, sound_any_address}
use Rattle.micro_claims.proofs.PlaneCommands.{sound_06, sound_32, sound_35}
use Rattle.micro_claims.proofs.CachePrograms.{sound_15}
use Rattle.micro_claims.proofs.MoreCommands.{sound_d1, sound_11, sound_ff, sound_fa, sound_fc, sound_31, sound_3f}
use Rattle.micro_claims.proofs.Words.{sound_get, sound_put}
use Rattle.micro_claims.proofs.Controls.{sound_stat, sound_wait, sound_yield, sound_end, sound_jump, sound_branch}
use Rattle.micro_claims.proofs.Settings.{sound_loop, sound_next, sound_seek, sound_column, sound_plane}
use Rattle.micro_claims.proofs.Indices.{sound_rowadd, sound_row}
use Rattle.micro_claims.proofs.Keeping.{ready_kept, other_kept}
use Rattle.micro_claims.proofs.CopiedPages.{uncopied_fit}
use Rattle.micro_claims.specs.Planes.{no_planes}

-- 1. the next word, whatever it is

-- which of the commands that programs may use it is
data Taken (d : Command) : Type 0 where
  Is00 : (e : d ≡ Read) → Taken d
  Is30 : (e : d ≡ ReadConfirm) → Taken d
  Is05 : (e : d ≡ ChangeReadColumn) → Taken d
  IsE0 : (e : d ≡ ChangeReadColumnConfirm) → Taken d
  Is60 : (e : d ≡ BlockErase) → Taken d
  IsD0 : (e : d ≡ BlockEraseConfirm) → Taken d
  Is80 : (e : d ≡ PageProgram) → Taken d
  Is85 : (e : d ≡ ChangeWriteColumn) → Taken d
  Is10 : (e : d ≡ ProgramConfirm) → Taken d
  IsD1 : (e : d ≡ BlockErasePlane) → Taken d
  Is11 : (e : d ≡ ProgramPlane) → Taken d
  IsFF : (e : d ≡ Reset) → Taken d
  Is90 : (e : d ≡ ReadId) → Taken d
  IsEC : (e : d ≡ ReadParameterPage) → Taken d
  Is31 : (e : d ≡ ReadCacheSequential) → Taken d
  Is3F : (e : d ≡ ReadCacheEnd) → Taken d
  IsED : (e : d ≡ ReadUniqueId) → Taken d
  IsEE : (e : d ≡ GetFeatures) → Taken d
  IsEF : (e : d ≡ SetFeatures) → Taken d
  IsFA : (e : d ≡ ResetLun) → Taken d
  IsFC : (e : d ≡ SynchronousReset) → Taken d
  Is06 : (e : d ≡ ChangeReadColumnEnhanced) → Taken d
  Is32 : (e : d ≡ ReadPlane) → Taken d
  Is35 : (e : d ≡ CopybackRead) → Taken d
  Is15 : (e : d ≡ ProgramCache) → Taken d

asked : (a b : Bool) → (a || true || b) ≡ false → ⊥
asked true b h = cc
asked false b h = cc

which : (g : Parts) (d : Command) → command_not_for_programs g d ≡ false → Taken d
which g Read h = Is00 refl
which g ReadConfirm h = Is30 refl
which g ChangeReadColumn h = Is05 refl
which g ChangeReadColumnConfirm h = IsE0 refl
which g BlockErase h = Is60 refl
which g BlockEraseConfirm h = IsD0 refl
which g PageProgram h = Is80 refl
which g ChangeWriteColumn h = Is85 refl
which g ProgramConfirm h = Is10 refl
which g BlockErasePlane h = IsD1 refl
which g ProgramPlane h = Is11 refl
which g Reset h = IsFF refl
which g ReadId h = Is90 refl
which g ReadParameterPage h = IsEC refl
which g ReadCacheSequential h = Is31 refl
which g ReadCacheEnd h = Is3F refl
which g ReadUniqueId h = IsED refl
which g GetFeatures h = IsEE refl
which g SetFeatures h = IsEF refl
which g ResetLun h = IsFA refl
which g SynchronousReset h = IsFC refl
which g AskStatus h = absurd (asked (is_unfit g AskStatus) (wants_one_lun AskStatus && ltb 1 g.luns) h)
which g ReadStatusEnhanced h = absurd (asked (is_unfit g ReadStatusEnhanced) (wants_one_lun ReadStatusEnhanced && ltb 1 g.luns) h)
which g ChangeReadColumnEnhanced h = Is06 refl
which g ReadPlane h = Is32 refl
which g CopybackRead h = Is35 refl
which g ProgramCache h = Is15 refl
which g _ h = cc

taken_command : (g : Parts) (text : Microprogram) (v : State) (byte : ℕ) → NoReasons g text v (CommandWord byte) → Taken (command byte)
unfolding breaks_command_not_allowed
taken_command g text v byte clear = which g (command byte) (or_parts (command_not_for_programs g (command byte)) (continues_unseen (bounds_of text) (command byte)) clear.no_command_not_allowed).0

command_sound : (s : Channel) (j : Job) (k : KnownJob s j) (v : State) (past : List Item) (c : Scene) (done : List Done) (rest : List Line) (at byte : ℕ) → IsScene s j.lun past c → Fits s.geometry j v done c true → NoReasons s.geometry j.text v (CommandWord byte) → accepts s.geometry (bounds_of j.text) None (state_after s.geometry v (CommandWord byte)) rest ≡ true → SoundWord s j past done rest at (CommandWord byte)
command_sound s j k v past c done rest at byte scene f clear acc = by (taken_command s.geometry j.text v byte clear)
  where
    by : Taken (command byte) → SoundWord s j past done rest at (CommandWord byte)
    by (Is00 e) = sound_00 s j k v past c done rest at byte e scene f clear acc
    by (Is30 e) = sound_30 s j k v past c done rest at byte e scene f clear acc
    by (Is05 e) = sound_05 s j k v past c done rest at byte e scene f clear acc
    by (IsE0 e) = sound_e0 s j k v past c done rest at byte e scene f clear acc
    by (Is60 e) = sound_60 s j k v past c done rest at byte e scene f clear acc
    by (IsD0 e) = sound_d0 s j k v past c done rest at byte e scene f clear acc
    by (Is80 e) = sound_80 s j k v past c done rest at byte e scene f clear acc
    by (Is85 e) = sound_85 s j k v past c done rest at byte e scene f clear acc
    by (Is10 e) = sound_10 s j k v past c done rest at byte e scene f clear acc
    by (IsD1 e) = sound_d1 s j k v past c done rest at byte e scene f clear acc
    by (Is11 e) = sound_11 s j k v past c done rest at byte e scene f clear acc
    by (IsFF e) = sound_ff s j k v past c done rest at byte e scene f clear acc
    by (Is90 e) = sound_90 s j k v past c done rest at byte e scene f clear acc
    by (IsEC e) = sound_ec s j k v past c done rest at byte e scene f clear acc
    by (Is31 e) = sound_31 s j k v past c done rest at byte e scene f clear acc
    by (Is3F e) = sound_3f s j k v past c done rest at byte e scene f clear acc
    by (IsED e) = sound_ed s j k v past c done rest at byte e scene f clear acc
    by (IsEE e) = sound_ee s j k v past c done rest at byte e scene f clear acc
    by (IsEF e) = sound_ef s j k v past c done rest at byte e scene f clear acc
    by (IsFA e) = sound_fa s j k v past c done rest at byte e scene f clear acc
    by (IsFC e) = sound_fc s j k v past c done rest at byte e scene f clear acc
    by (Is06 e) = sound_06 s j k v past c done rest at byte e scene f clear acc
    by (Is32 e) = sound_32 s j k v past c done rest at byte e scene f clear acc
    by (Is35 e) = sound_35 s j k v past c done rest at byte e scene f clear acc
    by (Is15 e) = sound_15 s j k v past c done rest at byte e scene f clear acc

branch_sound : (s : Channel) (j : Job) (k : KnownJob s j) (v : State) (past : List Item) (c : Scene) (done : List Done) (rest : List Line) (at mask target : ℕ) → IsScene s j.lun past c → Fits s.geometry j v done c true → NoReasons s.geometry j.text v (BranchOnStatus mask target) → goes_on (BranchOnStatus mask target) (λ t. accepts s.geometry (bounds_of j.text) t (state_after s.geometry v (BranchOnStatus mask target)) rest) ≡ true → SoundWord s j past done rest at (BranchOnStatus mask target)
branch_sound s j k v past c done rest at mask target scene f clear acc =
    let both = and_parts (accepts s.geometry (bounds_of j.text) None (state_after s.geometry v (BranchOnStatus mask target)) rest) (accepts s.geometry (bounds_of j.text) (Some target) (state_after s.geometry v (BranchOnStatus mask target)) rest) acc in
    sound_branch s j k v past c done rest at mask target scene f clear both.0 both.1

-- all that is known at a word
record Here (s : Channel) (j : Job) (v : State) (past : List Item) (done : List Done) (rest : List Line) (word : Word) : Type 0 where
  k : KnownJob s j
  c : Scene
  scene : IsScene s j.lun past c
  f : Fits s.geometry j v done c true
  clear : NoReasons s.geometry j.text v word
  acc : goes_on word (λ t. accepts s.geometry (bounds_of j.text) t (state_after s.geometry v word) rest) ≡ true

word_sound : (s : Channel) (j : Job) (v : State) (past : List Item) (done : List Done) (rest : List Line) (at : ℕ) (word : Word) → Here s j v past done rest word → SoundWord s j past done rest at word
word_sound s j v past done rest at (End code) h = sound_end s j h.k v past h.c done rest at code h.scene h.f h.clear
word_sound s j v past done rest at (CommandWord byte) h = command_sound s j h.k v past h.c done rest at byte h.scene h.f h.clear h.acc
word_sound s j v past done rest at (Address from count) h = sound_any_address s j h.k v past h.c done rest at from count h.scene h.f h.clear h.acc
word_sound s j v past done rest at (Get n) h = sound_get s j h.k v past h.c done rest at n h.scene h.f h.clear h.acc
word_sound s j v past done rest at (Put n) h = sound_put s j h.k v past h.c done rest at n h.scene h.f h.clear h.acc
word_sound s j v past done rest at (Seek n) h = sound_seek s j h.k v past h.c done rest at n h.scene h.f h.clear h.acc
word_sound s j v past done rest at (Column n) h = sound_column s j h.k v past h.c done rest at n h.scene h.f h.clear h.acc
word_sound s j v past done rest at (RowAdd n) h = sound_rowadd s j h.k v past h.c done rest at n h.scene h.f h.clear h.acc
word_sound s j v past done rest at (Row n) h = sound_row s j h.k v past h.c done rest at n h.scene h.f h.clear h.acc
word_sound s j v past done rest at (Plane n) h = sound_plane s j h.k v past h.c done rest at n h.scene h.f h.clear h.acc
word_sound s j v past done rest at Wait h = sound_wait s j h.k v past h.c done rest at h.scene h.f h.clear h.acc
word_sound s j v past done rest at Yield h = sound_yield s j h.k v past h.c done rest at h.scene h.f h.clear h.acc
word_sound s j v past done rest at ReadStatus h = sound_stat s j h.k v past h.c done rest at h.scene h.f h.clear h.acc
word_sound s j v past done rest at (BranchOnStatus mask target) h = branch_sound s j h.k v past h.c done rest at mask target h.scene h.f h.clear h.acc
word_sound s j v past done rest at (Loop turns) h = sound_loop s j h.k v past h.c done rest at turns h.scene h.f h.clear h.acc
word_sound s j v past done rest at Next h = sound_next s j h.k v past h.c done rest at h.scene h.f h.clear h.acc
word_sound s j v past done rest at (Jump target) h = sound_jump s j h.k v past h.c done rest at target h.scene h.f h.clear h.acc

-- 2. at a seat

-- where the next word may be stepped, what is claimed of the tail is claimed
settled : (s : Channel) (j : Job) (seat : Seat) (c : Claims s j seat) → may_step j seat ≡ true → Fits s.geometry j c.claim seat.done c.scene true
settled s j seat c may = at (knows_tail s seat c.scene) refl
  where
    shut : (h n o : Bool) → (h || (n && not o)) ≡ false → (h || not o) ≡ true → o ≡ false
    shut true n o e m = cc
    shut false n true e m = cc
    shut false n false e m = refl

    at : (b : Bool) → knows_tail s seat c.scene ≡ b → Fits s.geometry j c.claim seat.done c.scene true
    at true e = subst (λ (b : Bool). Fits s.geometry j c.claim seat.done c.scene b) e c.fits
    at false e =
        let free = c.fits.free e in
        let open_is : is_open_on seat.past j.lun.ce ≡ is_open c.scene.facts = ap is_open c.is.facts in
        let closed : is_open c.scene.facts ≡ false = shut seat.holding (not (ltb 1 s.geometry.luns)) (is_open c.scene.facts) e (ap (λ (b : Bool). seat.holding || not b) (sym open_is) ∙ may) in
        record {
          registers = c.fits.registers;
          tail = λ x. record {
            place = Closed;
            here = free.tail;
            address = no_address;
            is = closed;
            now = λ y. cc;
            column = λ y. cc;
            row = λ y. cc;
            named = λ y. cc;
            single = λ y. cc;
          };
          free = λ x. cc;
          shows = c.fits.shows;
          lun = c.fits.lun;
        }

-- an accepted line
record Accepted (g : Parts) (text : Microprogram) (v : State) (line : Line) (rest : List Line) : Type 0 where
  clear : NoReasons g text v line.word
  on : goes_on line.word (λ t. accepts g (bounds_of text) t (state_after g v line.word) rest) ≡ true

accepted_line : (g : Parts) (text : Microprogram) (v : State) (line : Line) (rest : List Line) → accepts g (bounds_of text) None v (line ∷ rest) ≡ true → Accepted g text v line rest
accepted_line g text v line rest h = by (reason_against g (bounds_of text) v line.word) refl h
  where
    by : (r : Option Reason) → reason_against g (bounds_of text) v line.word ≡ r → (is_none r && goes_on line.word (λ t. accepts g (bounds_of text) t (state_after g v line.word) rest)) ≡ true → Accepted g text v line rest
    by None e h = record { clear = no_reasons g text v line.word e; on = h }
    by (Some reason) e h = cc

-- the first of the lines that are accepted at a seat is sound
line_sound : (s : Channel) (j : Job) (k : KnownJob s j) (v : State) (past : List Item) (c : Scene) (done : List Done) (line : Line) (rest : List Line) → IsScene s j.lun past c → Fits s.geometry j v done c true → accepts s.geometry (bounds_of j.text) None v (line ∷ rest) ≡ true → SoundWord s j past done rest line.at line.word
line_sound s j k v past c done line rest scene f h =
    let a = accepted_line s.geometry j.text v line rest h in
    word_sound s j v past done rest line.at line.word (record { k = k; c = c; scene = scene; f = f; clear = a.clear; acc = a.on })

fine_lines : (s : Channel) (j : Job) (k : KnownJob s j) (v : State) (past : List Item) (c : Scene) (done : List Done) (ahead : List Line) → IsScene s j.lun past c → Fits s.geometry j v done c true → accepts s.geometry (bounds_of j.text) None v ahead ≡ true → LineIsFine s j past done ahead
fine_lines s j k v past c done [] scene f h = cc
fine_lines s j k v past c done (line ∷ rest) scene f h = (line_sound s j k v past c done line rest scene f h).fine

fine_here : (s : Channel) (j : Job) (k : KnownJob s j) (seat : Seat) → Claims s j seat → may_step j seat ≡ true → IsFine s j seat
fine_here s j k seat c may = fine_lines s j k c.claim seat.past c.scene seat.done seat.ahead c.is (settled s j seat c may) c.accepted

-- what the step of a sound word leaves is claimed
Keeps : (s : Channel) (j : Job) (past : List Item) (done : List Done) (ahead : List Line) → Type 0
Keeps s j past done ahead = (bytes : List ℕ) (r : Stride) → answered_step s.geometry j bytes past ahead done ≡ Some r → AreTruthful s.geometry j.lun past ahead bytes → r.code ≡ None → Claims s j (after_step r)

line_keeps : (s : Channel) (j : Job) (past : List Item) (done : List Done) (line : Line) (rest : List Line) → SoundWord s j past done rest line.at line.word → Keeps s j past done (line ∷ rest)
unfolding Keeps
line_keeps s j past done line rest w = w.step

none_keeps : (s : Channel) (j : Job) (past : List Item) (done : List Done) → Keeps s j past done []
unfolding Keeps
none_keeps s j past done = λ bytes r e true_bytes code. cc

lines_keep : (s : Channel) (j : Job) (k : KnownJob s j) (v : State) (past : List Item) (c : Scene) (done : List Done) (ahead : List Line) → IsScene s j.lun past c → Fits s.geometry j v done c true → accepts s.geometry (bounds_of j.text) None v ahead ≡ true → Keeps s j past done ahead
lines_keep s j k v past c done [] scene f h = none_keeps s j past done
lines_keep s j k v past c done (line ∷ rest) scene f h = line_keeps s j past done line rest (line_sound s j k v past c done line rest scene f h)

step_keeps : (s : Channel) (j : Job) (k : KnownJob s j) (seat : Seat) (bytes : List ℕ) (r : Stride) → Claims s j seat → may_step j seat ≡ true → answered_step s.geometry j bytes seat.past seat.ahead seat.done ≡ Some r → AreTruthful s.geometry j.lun seat.past seat.ahead bytes → r.code ≡ None → Claims s j (after_step r)
unfolding Keeps
step_keeps s j k seat bytes r c may e true_bytes code = lines_keep s j k c.claim seat.past c.scene seat.done seat.ahead c.is (settled s j seat c may) c.accepted bytes r e true_bytes code

-- 3. at first

other_there : (o : Option Command) → is_cache_read o ≡ false → closer_among any_but_31 o ≡ true
other_there None h = refl
other_there (Some ReadCacheSequential) h = cc
other_there (Some ReadConfirm) h = refl
other_there (Some _) h = refl

first_fits : (s : Channel) (j : Job) (past : List Item) → IsIdle s.geometry past j.lun → accepts s.geometry (bounds_of j.text) None first_state (unrolled j.text.words) ≡ true → Claims s j (loaded j past)
first_fits s j past idle accepted =
    let scene : Scene = record { facts = facts_of (tail past j.lun.ce); view = lun_view s.geometry past j.lun; sole = false } in
    record {
      claim = first_state;
      scene = scene;
      is = record { facts = refl; view = refl; sole = λ e. cc; free = idle.free };
      fits = record {
        registers = record {
          column = in_exactly 0;
          plane = refl;
          over = 0;
          over_is = omega arith;
          index = in_exactly 0;
          page = λ base. record { least = omega arith; most = omega (arith, base) };
          place = (in_exactly 0).most;
          cost = (in_exactly 0).most;
          within = omega arith;
        };
        tail = λ e. record { place = Closed; here = refl; address = no_address; is = open_not (ltb 1 s.geometry.luns) (is_open (facts_of (tail past j.lun.ce))) e; now = λ x. cc; column = λ x. cc; row = λ x. cc; named = λ x. cc; single = λ x. cc };
        free = λ e. record { tail = refl; shows = refl; unread = refl };
        shows = tt;
        lun = record { ready = λ e. idle.ready; register = tt; column = tt; queue = idle.no_queue; last = other_there (closer s.geometry past j.lun) idle.no_cache; cached = λ base e. cc; held = λ e. cc; planes = no_pages s.geometry scene.view.held; array = no_pages s.geometry (scene.view.array_page ∷ []); copies = uncopied_fit s.geometry no_planes (index_now j.base []) scene.view.closer scene.view.held; programming = λ e. idle.no_program };
      };
      accepted = accepted;
    }
  where
    open_not : (a b : Bool) → (false || (not a && not b)) ≡ true → b ≡ false
    open_not true b e = cc
    open_not false true e = cc
    open_not false false e = refl

-- 4. the theorem

known : (text : Microprogram) (g : Parts) (s : Channel) (j : Job) → 1 ≤ text.rows → IsJobOf text g s j → KnownJob s j
known text g s j some_rows of =
    let limits = of.is_channel.limits in
    let here : j.lun.lun < s.geometry.luns = there_lun s j.lun of.there in
    let geometry : j.geometry ≡ s.geometry = of.of_geometry ∙ sym of.of_channel in
    let top : j.base + j.text.rows ≤ indices s.geometry = subst (λ (h : Parts). j.base + j.text.rows ≤ indices h) geometry of.made.rows in
    let some : 1 ≤ j.text.rows = subst (λ (t : Microprogram). 1 ≤ t.rows) (sym of.of_text) some_rows in
    let zero_there : 0 < indices s.geometry = omega (arith, top, some) in
    record {
      is_channel = of.is_channel;
      limits = limits;
      there = of.there;
      status_row = rows s.geometry j.lun.lun 0 0 limits here zero_there (pow_pos s.geometry.plane_bits);
      rows = top;
      buffer = of.made.buffer;
      cache = λ e. subst (λ (h : Parts). j.base % h.pages ≡ 0) geometry (of.made.cache e);
    }

-- a text whose lines are accepted from the first claim is safe
pub accepted_is_safe : (text : Microprogram) (g : Parts) → 1 ≤ text.rows → accepts g (bounds_of text) None first_state (unrolled text.words) ≡ true → IsSafe text g
accepted_is_safe text g some_rows accepted s j of =
    let k = known text g s j some_rows of in
    let by_text : accepts g (bounds_of j.text) None first_state (unrolled j.text.words) ≡ true = ap (λ (t : Microprogram). accepts g (bounds_of t) None first_state (unrolled t.words)) of.of_text ∙ accepted in
    let here : accepts s.geometry (bounds_of j.text) None first_state (unrolled j.text.words) ≡ true = ap (λ (h : Parts). accepts h (bounds_of j.text) None first_state (unrolled j.text.words)) of.of_channel ∙ by_text in
    stays_fine s of.is_channel j (Claims s j)
    (record {
      fine = λ seat legal c may. fine_here s j k seat c may;
      first = λ past legal idle. first_fits s j past idle here;
      step = λ seat bytes r legal c may e true_bytes code. step_keeps s j k seat bytes r c may e true_bytes code;
      ready = ready_kept s j;
      other = other_kept s j k;
    })
