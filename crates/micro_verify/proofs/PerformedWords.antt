-- What performing a word makes of the run of its text.
use Rattle.std.proofs.Common.{◌≡◌, ℕ, zero, suc, ◌+◌, ◌<◌, ◌≤◌, Bool, true, false, cond, leb, List, [], ◌∷◌, ◌++◌, Option, Some, None, is_none, refl, sym, ap, ◌∙◌, subst, arith, length, map, replicate, reverse, drop, get_or}
use Rattle.std.proofs.Math.Seq.{drop-cons}
use Rattle.std.proofs.lemmas.Bool.Decides.{nat_tests}
use Rattle.nand_geometry.specs.declared.parts.Parts.{Parts}
use Rattle.nand_geometry.specs.Row.{row_bytes_of}
use Rattle.onfi_cycle.specs.declared.item.Item.{Item}
use Rattle.onfi_cycle.specs.declared.lun.Lun.{Lun}
use Rattle.onfi_cycle.specs.declared.item.Item.TheVariants.{Cyc}
use Rattle.onfi_cycle.specs.declared.item.Kind.TheVariants.{Adr, Din}
use Rattle.onfi_cycle.specs.Channel.{Channel}
use Rattle.micro_word.specs.declared.format.Format.TheVariants.{Two}
use Rattle.micro_word.specs.declared.word.Word.{Word}
use Rattle.micro_word.specs.declared.word.Word.TheVariants.{End, Command, Address, Get, Put, Seek, Column, RowAdd, Row, Plane, Wait, Yield, ReadStatus, BranchOnStatus, Loop, Next, Jump}
use Rattle.micro_word.specs.Word.{IsInRange}
use Rattle.target_bus.specs.Bus.{Traced, channel_of}
use Rattle.micro_program.specs.Program.{Job, Done as Past, index_now, place_now, buffer_now}
use Rattle.onfi_cycle.specs.Content.{written}
use Rattle.micro_program.specs.Moves.{Move, Give, Take, and_then, part, column_bytes, address, gives, put_bytes, poll, moves}
use Rattle.micro_program.specs.Played.{Played, played}
use Rattle.micro_program.proofs.Bytes.{short_part}
use Rattle.micro_verify.specs.declared.moves.Move.{Move as Told}
use Rattle.micro_verify.specs.declared.moves.Move.TheVariants.{Address as Addresses, Input, Output}
use Rattle.micro_verify.specs.declared.registers.Registers.{Registers}
use Rattle.micro_verify.specs.declared.playing.Outcome.{Outcome}
use Rattle.micro_verify.specs.declared.playing.Outcome.TheVariants.{Done, Stopped, Missing}
use Rattle.micro_verify.specs.Lazy.{the_lun, Run, new_run, run_with, run_word, awaited, counter_in, counter_at}
use Rattle.micro_verify.specs.Calm.{calm_word, calm_words}
use Rattle.micro_verify.specs.Playing.{meant, fresh_registers, registers_after, IsSet, IsSmall, five_told, moves_told, HasPerformed, stored, IsAt, IsLoneJob, HasRunFrom}

-- 1. the moves that are told are those of the word

addresses_given : (bytes : List ℕ) → map meant (map Addresses bytes) ≡ gives Adr bytes
addresses_given [] = refl
addresses_given (b ∷ bytes) = ap (λ (ms : List Move). Give Adr b ∷ ms) (addresses_given bytes)

inputs_given : (bytes : List ℕ) → map meant (map Input bytes) ≡ gives Din bytes
inputs_given [] = refl
inputs_given (b ∷ bytes) = ap (λ (ms : List Move). Give Din b ∷ ms) (inputs_given bytes)

outputs_taken : (n : ℕ) → map meant (replicate n Output) ≡ replicate n Take
outputs_taken zero = refl
outputs_taken (suc n) = ap (λ (ms : List Move). Take ∷ ms) (outputs_taken n)

-- what the told moves mean
abbrev pub all_meant : Option (List Told) → Option (List Move)
all_meant o = and_then o (λ told. Some (map meant told))

same_address : (g : Parts) (j : Job) (done : List Past) (r : Registers) (from count : ℕ) → j.lun ≡ the_lun → j.base ≡ 0 → IsSet r done → and_then (address g j done from count) (λ bytes. Some (gives Adr bytes)) ≡ all_meant (and_then (five_told g r (from + count)) (λ five. Some (map Addresses (part from count five))))
same_address g j done r from count lun base set = at (leb (from + count) 2) refl
  where
    Same : Type 0
    Same = and_then (address g j done from count) (λ bytes. Some (gives Adr bytes)) ≡ all_meant (and_then (five_told g r (from + count)) (λ five. Some (map Addresses (part from count five))))

    row : (o : Option (List ℕ)) → and_then (and_then o (λ row. Some (part from count (column_bytes r.column ++ row)))) (λ bytes. Some (gives Adr bytes)) ≡ all_meant (and_then (and_then o (λ row. Some (column_bytes r.column ++ row))) (λ five. Some (map Addresses (part from count five))))
    row None = refl
    row (Some bytes) = ap Some (sym (addresses_given (part from count (column_bytes r.column ++ bytes))))

    base_is : index_now j.base done ≡ r.index
    base_is = ap (λ (b : ℕ). index_now b done) base ∙ sym set.index

    at : (b : Bool) → leb (from + count) 2 ≡ b → Same
    at true e =
        let few : from + count ≤ 2 = grind (arith, nat_tests, e) in
        rw (e, sym set.column) (ap Some (ap (gives Adr) (short_part _ _ from count few) ∙ sym (addresses_given (part from count (column_bytes r.column ++ (0 ∷ (0 ∷ (0 ∷ []))))))))
    at false e = rw (e, sym set.column, sym set.plane, base_is, ap (λ (l : Lun). l.lun) lun) (row (row_bytes_of g 0 r.index r.plane))

same_put : (j : Job) (done : List Past) (r : Registers) (buffer : List ℕ) (len : ℕ) → IsSet r done → buffer ≡ buffer_now j.buffer done → and_then (put_bytes j done len) (λ bytes. Some (gives Din bytes)) ≡ all_meant (cond (leb (r.place + len) (length buffer)) (Some (map Input (part r.place len buffer))) None)
same_put j done r buffer len set is = rw (sym set.place, sym is) (at (leb (r.place + len) (length buffer)))
  where
    at : (b : Bool) → and_then (cond b (Some (part r.place len buffer)) None) (λ bytes. Some (gives Din bytes)) ≡ all_meant (cond b (Some (map Input (part r.place len buffer))) None)
    at true = ap Some (sym (inputs_given (part r.place len buffer)))
    at false = refl

same_poll : (g : Parts) (j : Job) → g.luns ≡ 1 → poll g j ≡ Some (Give Rattle.onfi_cycle.specs.declared.item.Kind.TheVariants.Cmd 0x70 ∷ (Take ∷ []))
same_poll g j one = rw one refl

pub same_moves : (g : Parts) (j : Job) (done : List Past) (r : Registers) (buffer : List ℕ) (word : Word) → g.luns ≡ 1 → j.lun ≡ the_lun → j.base ≡ 0 → IsSet r done → buffer ≡ buffer_now j.buffer done → moves g j done word ≡ all_meant (moves_told g r buffer word)
same_moves g j done r buffer (Command byte) one lun base set is = refl
same_moves g j done r buffer (Address from count) one lun base set is = same_address g j done r from count lun base set
same_moves g j done r buffer (Get len) one lun base set is = ap Some (sym (outputs_taken len))
same_moves g j done r buffer (Put len) one lun base set is = same_put j done r buffer len set is
same_moves g j done r buffer Wait one lun base set is = same_poll g j one
same_moves g j done r buffer ReadStatus one lun base set is = same_poll g j one
same_moves g j done r buffer _ one lun base set is = refl

-- 2. what a word leaves

set_after : (r : Registers) (run : Run) (word : Word) (p : Played) → IsSet r run.done → IsSet (registers_after r word) (run_with word run.done p).done
set_after r run (End code) p s = record { column = s.column; plane = s.plane; index = s.index; place = s.place }
set_after r run (Command byte) p s = record { column = s.column; plane = s.plane; index = s.index; place = s.place }
set_after r run (Address from count) p s = record { column = s.column; plane = s.plane; index = s.index; place = s.place }
set_after r run (Get len) p s = record { column = s.column; plane = s.plane; index = s.index; place = ap (λ (n : ℕ). n + len) s.place }
set_after r run (Put len) p s = record { column = s.column; plane = s.plane; index = s.index; place = ap (λ (n : ℕ). n + len) s.place }
set_after r run (Seek place) p s = record { column = s.column; plane = s.plane; index = s.index; place = refl }
set_after r run (Column column) p s = record { column = refl; plane = s.plane; index = s.index; place = s.place }
set_after r run (RowAdd rows) p s = record { column = s.column; plane = s.plane; index = ap (λ (n : ℕ). n + rows) s.index; place = s.place }
set_after r run (Row row) p s = record { column = s.column; plane = s.plane; index = omega arith; place = s.place }
set_after r run (Plane plane) p s = record { column = s.column; plane = refl; index = s.index; place = s.place }
set_after r run Wait p s = record { column = s.column; plane = s.plane; index = s.index; place = s.place }
set_after r run Yield p s = record { column = s.column; plane = s.plane; index = s.index; place = s.place }
set_after r run ReadStatus p s = record { column = s.column; plane = s.plane; index = s.index; place = s.place }
set_after r run (BranchOnStatus mask target) p s = record { column = s.column; plane = s.plane; index = s.index; place = s.place }
set_after r run (Loop turns) p s = record { column = s.column; plane = s.plane; index = s.index; place = s.place }
set_after r run Next p s = record { column = s.column; plane = s.plane; index = s.index; place = s.place }
set_after r run (Jump target) p s = record { column = s.column; plane = s.plane; index = s.index; place = s.place }

buffer_after_word : (j : Job) (r : Registers) (run : Run) (word : Word) (p : Played) (buffer : List ℕ) → IsSet r run.done → buffer ≡ buffer_now j.buffer run.done → stored word r.place p.bytes buffer ≡ buffer_now j.buffer (run_with word run.done p).done
buffer_after_word j r run (Get len) p buffer s is = ap (λ (n : ℕ). written p.bytes n buffer) s.place ∙ ap (written p.bytes (place_now run.done)) is
buffer_after_word j r run (End code) p buffer s is = is
buffer_after_word j r run (Command byte) p buffer s is = is
buffer_after_word j r run (Address from count) p buffer s is = is
buffer_after_word j r run (Put len) p buffer s is = is
buffer_after_word j r run (Seek place) p buffer s is = is
buffer_after_word j r run (Column column) p buffer s is = is
buffer_after_word j r run (RowAdd rows) p buffer s is = is
buffer_after_word j r run (Row row) p buffer s is = is
buffer_after_word j r run (Plane plane) p buffer s is = is
buffer_after_word j r run Wait p buffer s is = is
buffer_after_word j r run Yield p buffer s is = is
buffer_after_word j r run ReadStatus p buffer s is = is
buffer_after_word j r run (BranchOnStatus mask target) p buffer s is = is
buffer_after_word j r run (Loop turns) p buffer s is = is
buffer_after_word j r run Next p buffer s is = is
buffer_after_word j r run (Jump target) p buffer s is = is

pub small_after : (r : Registers) (word : Word) (count n : ℕ) → IsInRange Two n word → IsSmall r count → IsSmall (registers_after r word) (count + 1)
small_after r (Get len) count n range s = let high = range.1 in let few = s.few_bytes in let rows = s.few_rows in record { few_rows = omega (arith, rows); few_bytes = omega (arith, few, high) }
small_after r (Put len) count n range s = let high = range.1 in let few = s.few_bytes in let rows = s.few_rows in record { few_rows = omega (arith, rows); few_bytes = omega (arith, few, high) }
small_after r (Seek place) count n range s = let rows = s.few_rows in record { few_rows = omega (arith, rows); few_bytes = omega (arith, range) }
small_after r (RowAdd rows) count n range s = let few = s.few_rows in let bytes = s.few_bytes in let high = range.1 in record { few_rows = omega (arith, few, high); few_bytes = omega (arith, bytes) }
small_after r (Row row) count n range s = let bytes = s.few_bytes in record { few_rows = omega (arith, range); few_bytes = omega (arith, bytes) }
small_after r (Column column) count n range s = let few = s.few_rows in let bytes = s.few_bytes in record { few_rows = omega (arith, few); few_bytes = omega (arith, bytes) }
small_after r (Plane plane) count n range s = let few = s.few_rows in let bytes = s.few_bytes in record { few_rows = omega (arith, few); few_bytes = omega (arith, bytes) }
small_after r _ count n range s = let few = s.few_rows in let bytes = s.few_bytes in record { few_rows = omega (arith, few); few_bytes = omega (arith, bytes) }

-- 3. performing

-- what has come of a word in its run
abbrev pub Came : Channel → Job → Run → Traced → Registers → List ℕ → Word → Outcome → Type 0
Came s j run new r later word Done = (next : Run) × (calm_word s j word run ≡ Some next) × IsAt s j new (registers_after r word) later next
Came s j run new r later word (Stopped stop) = counter_at s j run word ≡ Some (record { items = reverse new.past; cycle = Cyc stop })
Came s j run new r later word Missing = (counter_at s j run word ≡ None) × (run_word s j word run ≡ None)

geometry_is : (s : Channel) (b : Traced) → channel_of b ≡ s → b.geometry ≡ s.geometry
geometry_is s b same = ap (λ (c : Channel). c.geometry) same

-- the moves of the word, where these are told
moves_are : (s : Channel) (j : Job) (old : Traced) (r : Registers) (buffer : List ℕ) (run : Run) (word : Word) (o : Option (List Told)) → IsLoneJob s j → IsAt s j old r buffer run → moves_told old.geometry r buffer word ≡ o → moves s.geometry j run.done word ≡ all_meant o
moves_are s j old r buffer run word o lone at told =
    same_moves s.geometry j run.done r buffer word lone.one lone.lun lone.base at.set at.buffer
    ∙ ap all_meant (ap (λ (g : Parts). moves_told g r buffer word) (sym (geometry_is s old at.channel)) ∙ told)

-- the trace that its cycles come after
awaited_is : (s : Channel) (j : Job) (old : Traced) (r : Registers) (buffer : List ℕ) (run : Run) (word : Word) → IsAt s j old r buffer run → awaited old.geometry old.past word ≡ awaited s.geometry run.past word
awaited_is s j old r buffer run word at = ap (λ (g : Parts). awaited g old.past word) (geometry_is s old at.channel) ∙ ap (λ (p : List Item). awaited s.geometry p word) at.past

pub came_of : (s : Channel) (j : Job) (old new : Traced) (r : Registers) (buffer later : List ℕ) (run : Run) (word : Word) (outcome : Outcome) → IsLoneJob s j → IsAt s j old r buffer run → channel_of new ≡ channel_of old → HasPerformed old new r buffer later word outcome → Came s j run new r later word outcome
came_of s j old new r buffer later run word Missing lone at same none =
    let missing = moves_are s j old r buffer run word None lone at none in
    (ap (λ (o : Option (List Move)). and_then o (λ moved. counter_in s moved (awaited s.geometry run.past word))) missing, ap (λ (o : Option (List Move)). and_then o (λ ms. and_then (played s 0 ms (awaited s.geometry run.past word)) (λ q. Some (run_with word run.done q)))) missing)
came_of s j old new r buffer later run word (Stopped stop) lone at same h =
    ap (λ (o : Option (List Move)). and_then o (λ moved. counter_in s moved (awaited s.geometry run.past word))) (moves_are s j old r buffer run word (Some h.0) lone at h.1)
    ∙ (ap (counter_in s (map meant h.0)) (sym (awaited_is s j old r buffer run word at)) ∙ subst (λ (c : Channel). counter_in c (map meant h.0) (awaited old.geometry old.past word) ≡ Some (record { items = reverse new.past; cycle = Cyc stop })) at.channel h.2)
came_of s j old new r buffer later run word Done lone at same h = (run_with word run.done p, calm, record { channel = same ∙ at.channel; past = refl; set = set_after r run word p at.set; buffer = h.4 ∙ buffer_after_word j r run word p buffer at.set at.buffer })
  where
    p : Played
    p = record { past = new.past; bytes = h.1 }

    moved : moves s.geometry j run.done word ≡ Some (map meant h.0)
    moved = moves_are s j old r buffer run word (Some h.0) lone at h.2

    waits : awaited old.geometry old.past word ≡ awaited s.geometry run.past word
    waits = awaited_is s j old r buffer run word at

    counter : counter_in s (map meant h.0) (awaited s.geometry run.past word) ≡ None
    counter = ap (counter_in s (map meant h.0)) (sym waits) ∙ subst (λ (c : Channel). counter_in c (map meant h.0) (awaited old.geometry old.past word) ≡ None) at.channel h.3.0

    plays : played s 0 (map meant h.0) (awaited s.geometry run.past word) ≡ Some p
    plays = ap (played s 0 (map meant h.0)) (sym waits) ∙ subst (λ (c : Channel). played c 0 (map meant h.0) (awaited old.geometry old.past word) ≡ Some p) at.channel h.3.1

    none : is_none (counter_at s j run word) ≡ true
    none = ap is_none (ap (λ (o : Option (List Move)). and_then o (λ ms. counter_in s ms (awaited s.geometry run.past word))) moved ∙ counter)

    calm : calm_word s j word run ≡ Some (run_with word run.done p)
    calm = rw none (ap (λ (o : Option (List Move)). and_then o (λ ms. and_then (played s 0 ms (awaited s.geometry run.past word)) (λ q. Some (run_with word run.done q)))) moved ∙ ap (λ (o : Option Played). and_then o (λ q. Some (run_with word run.done q))) plays)

-- 4. one word after another

-- the words up to here were performed; what is still to come tells the rest
pub record IsGoing (old now : Traced) (opening buffer : List ℕ) (words : List Word) (k : ℕ) (r : Registers) : Type 0 where
  pub same : channel_of now ≡ channel_of old
  pub small : IsSmall r k
  pub run : (s : Channel) (j : Job) → IsLoneJob s j → IsAt s j old fresh_registers opening new_run → (x : Run) × (calm_words s j words new_run ≡ calm_words s j (drop k words) x) × IsAt s j now r buffer x

pub going_first : (old : Traced) (opening : List ℕ) (words : List Word) → IsGoing old old opening opening words 0 fresh_registers
going_first old opening words = record { same = refl; small = record { few_rows = omega arith; few_bytes = omega arith }; run = λ s j lone at. (new_run, refl, at) }

words_left : (words : List Word) (k : ℕ) (d : Word) → k < length words → drop k words ≡ get_or words k d ∷ drop (k + 1) words
words_left words k d h = let one : suc k ≡ k + 1 = omega arith in drop-cons words k d h ∙ ap (λ (n : ℕ). get_or words k d ∷ drop n words) one

pub going_on : (old now next : Traced) (opening buffer later : List ℕ) (words : List Word) (k n : ℕ) (r : Registers) (d : Word) → k < length words → IsInRange Two n (get_or words k d) → IsGoing old now opening buffer words k r → channel_of next ≡ channel_of now → HasPerformed now next r buffer later (get_or words k d) Done → IsGoing old next opening later words (k + 1) (registers_after r (get_or words k d))
going_on old now next opening buffer later words k n r d h range going same did =
    record {
      same = same ∙ going.same;
      small = small_after r (get_or words k d) k n range going.small;
      run = λ s j lone at.
          let before = going.run s j lone at in
          let came = came_of s j now next r buffer later before.0 (get_or words k d) Done lone before.2 same did in
          (came.0, before.1 ∙ (ap (λ (ws : List Word). calm_words s j ws before.0) (words_left words k d h) ∙ ap (λ (o : Option Run). and_then o (calm_words s j (drop (k + 1) words))) came.1), came.2);
    }

-- a word stopped, or its bytes are missing
stops_calm : (s : Channel) (j : Job) (run : Run) (new : Traced) (r : Registers) (later : List ℕ) (word : Word) (outcome : Outcome) → Came s j run new r later word outcome → (outcome ≡ Done → ⊥) → calm_word s j word run ≡ None
stops_calm s j run new r later word Done came never = absurd (never refl)
stops_calm s j run new r later word (Stopped stop) came never = let some : is_none (counter_at s j run word) ≡ false = ap is_none came in rw some refl
stops_calm s j run new r later word Missing came never = let none : is_none (counter_at s j run word) ≡ true = ap is_none came.0 in rw none came.1

pub going_stopped : (old now next : Traced) (opening buffer later : List ℕ) (words : List Word) (k : ℕ) (r : Registers) (d : Word) (outcome : Outcome) → k < length words → IsGoing old now opening buffer words k r → channel_of next ≡ channel_of now → HasPerformed now next r buffer later (get_or words k d) outcome → (outcome ≡ Done → ⊥) → HasRunFrom old next opening later words None
going_stopped old now next opening buffer later words k r d outcome h going same did never =
    λ s j lone at.
    let before = going.run s j lone at in
    let came = came_of s j now next r buffer later before.0 (get_or words k d) outcome lone before.2 same did in
    let stops = stops_calm s j before.0 next r later (get_or words k d) outcome came never in
    before.1 ∙ (ap (λ (ws : List Word). calm_words s j ws before.0) (words_left words k d h) ∙ ap (λ (o : Option Run). and_then o (calm_words s j (drop (k + 1) words))) stops)

none_left : (words : List Word) (k : ℕ) → length words ≡ k → drop k words ≡ []
none_left [] zero h = refl
none_left [] (suc k) h = refl
none_left (m ∷ words) zero h = absurd (omega (arith, h))
none_left (m ∷ words) (suc k) h = none_left words k (omega (arith, h))

pub gone_all : (old now : Traced) (opening buffer : List ℕ) (words : List Word) (k : ℕ) (r : Registers) → length words ≡ k → IsGoing old now opening buffer words k r → HasRunFrom old now opening buffer words (Some r)
gone_all old now opening buffer words k r h going =
    λ s j lone at.
    let before = going.run s j lone at in
    (before.0, before.1 ∙ ap (λ (ws : List Word). calm_words s j ws before.0) (none_left words k h), before.2)
