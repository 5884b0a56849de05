-- A word does to what is kept of a slot what it does to the slot.
use Rattle.std.proofs.Common.{◌≡◌, ℕ, ◌+◌, ◌-◌, ◌*◌, ◌/◌, ◌^◌, ◌≤◌, Bool, true, false, ◌&&◌, leb, ltb, List, ◌∷◌, ◌++◌, Option, Some, None, refl, sym, ap, ◌∙◌, subst, arith}
use Rattle.std.proofs.lemmas.Bool.Decides.{nat_tests}
use Rattle.std.proofs.lemmas.Nat.{mul-le}
use Rattle.std.specs.List.{slice_get}
use Rattle.std.proofs.Math.Nat.{div-le_self}
use Rattle.nand_geometry.specs.declared.parts.Parts.{Parts}
use Rattle.nand_geometry.specs.Limits.{InLimits, indices, planes}
use Rattle.nand_geometry.specs.Row.{row_bytes_of}
use Rattle.onfi_cycle.specs.declared.item.Kind.TheVariants.{Adr, Din}
use Rattle.micro_word.specs.declared.word.Word.{Word}
use Rattle.micro_word.specs.declared.word.Word.TheVariants.{End, Command, Address, Get, Put, Seek, Column, RowAdd, Row, Plane, Wait, Yield, ReadStatus, BranchOnStatus, Loop, Next, Jump}
use Rattle.micro_program.specs.Lines.{Line}
use Rattle.micro_program.specs.Program.{Job, Done, buffer_now, column_now, plane_now, index_now, place_now, status_now, is_ready_status}
use Rattle.onfi_cycle.specs.Content.{written}
use Rattle.micro_program.specs.Moves.{Move, and_then, part, column_bytes, address, gives, put_bytes, moves}
use Rattle.micro_program.specs.Played.{Played}
use Rattle.micro_program.specs.Step.{Stride, stride, first_byte}
use Rattle.micro_program.proofs.Bytes.{short_part}
use Rattle.seq_core.specs.declared.registers.Registers.{Registers}
use Rattle.seq_core.specs.Reply.{answer_of}
use Rattle.seq_core.specs.World.{Slot}
use Rattle.seq_core.specs.Progress.{Progress, five_bytes, put_bytes_at, poll_at, moves_at, stopped, status_of, behind_word, progress_after, outcome_of}
use Rattle.seq_core.specs.Loops.{StandsAt, place_behind, loops_behind, lines_left}
use Rattle.seq_core.specs.Shows.{KeepsSlot}
use Rattle.seq_core.proofs.Standing.{stands_behind}

-- 1. the same moves

few_indices : (g : Parts) → InLimits g → indices g ≤ 4096 * 65536
few_indices g limits =
    let fewer : g.blocks / planes g ≤ 65536 = omega (arith, div-le_self g.blocks (planes g), limits.blocks_most) in
    mul-le g.pages (g.blocks / planes g) 4096 65536 limits.pages_most fewer

no_middle : (a b c : Bool) → b ≡ false → (a && b && c) ≡ false
no_middle true true c h = cc
no_middle true false c h = refl
no_middle false b c h = refl

no_row : (g : Parts) (lun index plane : ℕ) → ltb index (indices g) ≡ false → row_bytes_of g lun index plane ≡ None
no_row g lun index plane h = rw (no_middle (ltb lun g.luns) (ltb index (indices g)) (ltb plane (planes g)) h) refl

-- an index that was stopped names no row, nor does the index itself
index_stops : (g : Parts) → InLimits g → (lun index plane : ℕ) → row_bytes_of g lun (stopped index) plane ≡ row_bytes_of g lun index plane
index_stops g limits lun index plane = at (leb index (2 ^ 32 - 1)) refl
  where
    at : (b : Bool) → leb index (2 ^ 32 - 1) ≡ b → row_bytes_of g lun (stopped index) plane ≡ row_bytes_of g lun index plane
    at true e = let same : stopped index ≡ index = grind (arith, nat_tests) in ap (λ (i : ℕ). row_bytes_of g lun i plane) same
    at false e =
        let few = few_indices g limits in
        let stop : stopped index ≡ 2 ^ 32 - 1 = grind (arith, nat_tests) in
        let a : ltb (stopped index) (indices g) ≡ false = grind (arith, nat_tests) in
        let b : ltb index (indices g) ≡ false = grind (arith, nat_tests) in
        no_row g lun (stopped index) plane a ∙ sym (no_row g lun index plane b)

-- the address of these registers
abbrev given_address : Parts → ℕ → Registers → ℕ → ℕ → Option (List Move)
given_address g lun r from count = and_then (five_bytes g lun r (from + count)) (λ five. Some (gives Adr (part from count five)))

same_address : (g : Parts) → InLimits g → (j : Job) (done : List Done) (r : Registers) (from count : ℕ) → r.column ≡ column_now done → r.index ≡ stopped (index_now j.base done) → r.plane ≡ plane_now done → and_then (address g j done from count) (λ bytes. Some (gives Adr bytes)) ≡ given_address g j.lun.lun r from count
same_address g limits j done r from count column index plane = at (leb (from + count) 2) refl
  where
    row : (o : Option (List ℕ)) → and_then (and_then o (λ row. Some (part from count (column_bytes (column_now done) ++ row)))) (λ bytes. Some (gives Adr bytes)) ≡ and_then (and_then o (λ row. Some (column_bytes (column_now done) ++ row))) (λ five. Some (gives Adr (part from count five)))
    row None = refl
    row (Some bytes) = refl

    at : (b : Bool) → leb (from + count) 2 ≡ b → and_then (address g j done from count) (λ bytes. Some (gives Adr bytes)) ≡ given_address g j.lun.lun r from count
    at true e =
        let few : from + count ≤ 2 = grind (arith, nat_tests) in
        rw (e, column) (ap (λ (bytes : List ℕ). Some (gives Adr bytes)) (short_part _ _ from count few))
    at false e = rw (e, column, plane, index, index_stops g limits j.lun.lun (index_now j.base done) (plane_now done)) (row (row_bytes_of g j.lun.lun (index_now j.base done) (plane_now done)))

same_put : (buffer : List ℕ) (j : Job) (done : List Done) (r : Registers) (len : ℕ) → r.place ≡ place_now done → buffer ≡ buffer_now j.buffer done → put_bytes j done len ≡ put_bytes_at buffer r.place len
same_put buffer j done r len place is = rw (place, is) refl

pub same_moves : (g : Parts) → InLimits g → (x : Slot) (v : Progress) (word : Word) → KeepsSlot x v → moves g x.job x.done word ≡ moves_at g v.job.lun.lun v.job.buffer v.registers word
same_moves g limits x v (Command byte) k = refl
same_moves g limits x v (Address from count) k =
    let here = same_address g limits x.job x.done v.registers from count k.column k.index k.plane in
    here ∙ ap (λ (j : Job). given_address g j.lun.lun v.registers from count) (sym k.job)
same_moves g limits x v (Get len) k = refl
same_moves g limits x v (Put len) k =
    ap (λ (o : Option (List ℕ)). and_then o (λ bytes. Some (gives Din bytes))) (same_put v.job.buffer x.job x.done v.registers len k.buffer_place (ap (λ (j : Job). j.buffer) k.job))
same_moves g limits x v Wait k = ap (λ (j : Job). poll_at g j.lun.lun) (sym k.job)
same_moves g limits x v ReadStatus k = ap (λ (j : Job). poll_at g j.lun.lun) (sym k.job)
same_moves g limits x v _ k = refl

-- 2. what a word leaves

-- a slot after a stride
abbrev pub slot_after : Slot → Stride → Slot
slot_after x r = record { job = x.job; ahead = r.ahead; done = r.done; code = r.code }

-- the slot is kept, the answer is told, and the trace is that of the moves
pub record GoesOn (x : Slot) (v : Progress) (word : Word) (p : Played) (r : Stride) : Type 0 where
  pub kept : KeepsSlot (slot_after x r) (progress_after v word p.bytes)
  pub answer : answer_of r.outcome ≡ outcome_of word (status_of word p.bytes)
  pub past : r.past ≡ p.past

stops_again : (i n : ℕ) → stopped (stopped i + n) ≡ stopped (i + n)
stops_again i n = omega arith

-- a slot stands behind its word
abbrev StandsBehind : Slot → Progress → List Line → Word → Type 0
StandsBehind x v rest word = StandsAt x.job.text.words (lines_left (status_now x.done) word rest) (place_behind v.at v.loops v.registers.status word) (loops_behind v.at v.loops word)

pub goes_on : (x : Slot) (v : Progress) (word : Word) (rest : List Line) (p : Played) → KeepsSlot x v → x.code ≡ None → slice_get x.job.text.words v.at ≡ Some word → x.ahead ≡ record { at = v.at; word = word } ∷ rest → GoesOn x v word p (stride (record { at = v.at; word = word }) rest x.done p word)
goes_on x v word rest p k running here is = at word is behind
  where
    behind : StandsBehind x v rest word
    behind =
        subst (λ (n : ℕ). StandsAt x.job.text.words (lines_left n word rest) (place_behind v.at v.loops v.registers.status word) (loops_behind v.at v.loops word)) k.status
        (stands_behind x.job.text.words v.at v.loops v.registers.status word rest k.shaped here (subst (λ (ls : List Line). StandsAt x.job.text.words ls v.at v.loops) is k.place))

    at : (word : Word) → x.ahead ≡ record { at = v.at; word = word } ∷ rest → StandsBehind x v rest word → GoesOn x v word p (stride (record { at = v.at; word = word }) rest x.done p word)
    at (End code) e b = record { kept = record { job = k.job; shaped = k.shaped; place = b; column = k.column; index = k.index; plane = k.plane; buffer_place = k.buffer_place; status = k.status; code = refl }; answer = refl; past = refl }
    at (Command byte) e b = record { kept = record { job = k.job; shaped = k.shaped; place = b; column = k.column; index = k.index; plane = k.plane; buffer_place = k.buffer_place; status = k.status; code = refl }; answer = refl; past = refl }
    at (Address first count) e b = record { kept = record { job = k.job; shaped = k.shaped; place = b; column = k.column; index = k.index; plane = k.plane; buffer_place = k.buffer_place; status = k.status; code = refl }; answer = refl; past = refl }
    at (Get len) e b =
        let got : record v.job { buffer = written p.bytes v.registers.place v.job.buffer } ≡ record x.job { buffer = written p.bytes (place_now x.done) (buffer_now x.job.buffer x.done) } =
        ap (λ (j : Job). record j { buffer = written p.bytes v.registers.place j.buffer }) k.job ∙ ap (λ (n : ℕ). record x.job { buffer = written p.bytes n (buffer_now x.job.buffer x.done) }) k.buffer_place in
        record { kept = record { job = got; shaped = k.shaped; place = b; column = k.column; index = k.index; plane = k.plane; buffer_place = ap (λ (n : ℕ). n + len) k.buffer_place; status = k.status; code = refl }; answer = refl; past = refl }
    at (Put len) e b = record { kept = record { job = k.job; shaped = k.shaped; place = b; column = k.column; index = k.index; plane = k.plane; buffer_place = ap (λ (n : ℕ). n + len) k.buffer_place; status = k.status; code = refl }; answer = refl; past = refl }
    at (Seek place) e b = record { kept = record { job = k.job; shaped = k.shaped; place = b; column = k.column; index = k.index; plane = k.plane; buffer_place = refl; status = k.status; code = refl }; answer = refl; past = refl }
    at (Column column) e b = record { kept = record { job = k.job; shaped = k.shaped; place = b; column = refl; index = k.index; plane = k.plane; buffer_place = k.buffer_place; status = k.status; code = refl }; answer = refl; past = refl }
    at (RowAdd rows) e b = record { kept = record { job = k.job; shaped = k.shaped; place = b; column = k.column; index = ap (λ (i : ℕ). stopped (i + rows)) k.index ∙ stops_again (index_now x.job.base x.done) rows; plane = k.plane; buffer_place = k.buffer_place; status = k.status; code = refl }; answer = refl; past = refl }
    at (Row row) e b = record { kept = record { job = k.job; shaped = k.shaped; place = b; column = k.column; index = ap (λ (j : Job). stopped (j.base + row)) k.job; plane = k.plane; buffer_place = k.buffer_place; status = k.status; code = refl }; answer = refl; past = refl }
    at (Plane plane) e b = record { kept = record { job = k.job; shaped = k.shaped; place = b; column = k.column; index = k.index; plane = refl; buffer_place = k.buffer_place; status = k.status; code = refl }; answer = refl; past = refl }
    at Wait e b = on (is_ready_status (first_byte p.bytes)) refl
      where
        on : (ready : Bool) → is_ready_status (first_byte p.bytes) ≡ ready → GoesOn x v Wait p (stride (record { at = v.at; word = Wait }) rest x.done p Wait)
        on true d = record { kept = rw (d, progress_after, behind_word, outcome_of) (record { job = k.job; shaped = k.shaped; place = b; column = k.column; index = k.index; plane = k.plane; buffer_place = k.buffer_place; status = refl; code = refl }); answer = rw (d, outcome_of) refl; past = rw d refl }
        on false d = record { kept = rw (d, progress_after, behind_word, outcome_of) (record { job = k.job; shaped = k.shaped; place = subst (λ (ls : List Line). StandsAt x.job.text.words ls v.at v.loops) e k.place; column = k.column; index = k.index; plane = k.plane; buffer_place = k.buffer_place; status = k.status; code = k.code ∙ running }); answer = rw (d, outcome_of) refl; past = rw d refl }
    at Yield e b = record { kept = record { job = k.job; shaped = k.shaped; place = b; column = k.column; index = k.index; plane = k.plane; buffer_place = k.buffer_place; status = k.status; code = refl }; answer = refl; past = refl }
    at ReadStatus e b = record { kept = record { job = k.job; shaped = k.shaped; place = b; column = k.column; index = k.index; plane = k.plane; buffer_place = k.buffer_place; status = refl; code = refl }; answer = refl; past = refl }
    at (BranchOnStatus mask target) e b = record { kept = record { job = k.job; shaped = k.shaped; place = b; column = k.column; index = k.index; plane = k.plane; buffer_place = k.buffer_place; status = k.status; code = refl }; answer = refl; past = refl }
    at (Loop turns) e b = record { kept = record { job = k.job; shaped = k.shaped; place = b; column = k.column; index = k.index; plane = k.plane; buffer_place = k.buffer_place; status = k.status; code = refl }; answer = refl; past = refl }
    at Next e b = record { kept = record { job = k.job; shaped = k.shaped; place = b; column = k.column; index = k.index; plane = k.plane; buffer_place = k.buffer_place; status = k.status; code = refl }; answer = refl; past = refl }
    at (Jump target) e b = record { kept = record { job = k.job; shaped = k.shaped; place = b; column = k.column; index = k.index; plane = k.plane; buffer_place = k.buffer_place; status = k.status; code = refl }; answer = refl; past = refl }
