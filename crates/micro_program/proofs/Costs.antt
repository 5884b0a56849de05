-- The cost of a word of a text is the number of its cycles, and the buffer keeps its length.
use Rattle.std.proofs.Common.{◌≡◌, ℕ, suc, ◌+◌, ◌%◌, ◌/◌, ◌≤◌, Bool, true, false, ◌&&◌, cond, List, [], ◌∷◌, ◌++◌, Option, Some, None, refl, sym, ap, ◌∙◌, arith, leb, leb-true, ltb, length, length-take, length-drop, replicate}
use Rattle.std.proofs.lemmas.List.{length-replicate}
use Rattle.nand_geometry.specs.declared.parts.Parts.{Parts}
use Rattle.nand_geometry.specs.Limits.{indices, planes}
use Rattle.nand_geometry.specs.Row.{row_bytes_of, row_cycles, row_number, indexed}
use Rattle.onfi_cycle.specs.declared.item.Kind.{Kind}
use Rattle.onfi_cycle.specs.declared.item.Kind.TheVariants.{Cmd, Adr, Din}
use Rattle.micro_word.specs.declared.word.Word.TheVariants.{Command, Address, Get, Put, Wait, ReadStatus}
use Rattle.micro_program.specs.Program.{Job, Done, Answer, Nothing, Polled, Got, poll_cost, buffer_after, buffer_now, place_now, index_now, plane_now, column_now}
use Rattle.onfi_cycle.proofs.Written.{written_len}
use Rattle.micro_program.specs.Moves.{CostsCountMoves, BufferKeepsLength, Move, Give, Take, and_then, moves, gives, poll, part, put_bytes}

gives_len : (kind : Kind) (bytes : List ℕ) → length (gives kind bytes) ≡ length bytes
gives_len kind [] = refl
gives_len kind (b ∷ bytes) = ap suc (gives_len kind bytes)

part_len : (from n : ℕ) (bytes : List ℕ) → from + n ≤ length bytes → length (part from n bytes) ≡ n
part_len from n bytes h = omega (arith, length-take {A = ℕ}, length-drop {A = ℕ})

-- moves that give a part of some bytes
given_part : (kind : Kind) (from n : ℕ) (bytes : List ℕ) (moved : List Move) → from + n ≤ length bytes → Some (gives kind (part from n bytes)) ≡ Some moved → length moved ≡ n
given_part kind from n bytes moved h e =
    let same : gives kind (part from n bytes) ≡ moved = cc in
    ap length (sym same) ∙ (gives_len kind (part from n bytes) ∙ part_len from n bytes h)

row_len : (g : Parts) (lun index plane : ℕ) (rows : List ℕ) → row_bytes_of g lun index plane ≡ Some rows → length rows ≡ 3
row_len g lun index plane rows h = at (ltb lun g.luns && ltb index (indices g) && ltb plane (planes g)) h
  where
    at : (b : Bool) → cond b (Some (row_cycles (row_number g (indexed g lun index plane)))) None ≡ Some rows → length rows ≡ 3
    at true e = let same : row_cycles (row_number g (indexed g lun index plane)) ≡ rows = cc in ap length (sym same)
    at false e = cc

poll_len : (g : Parts) (j : Job) (moved : List Move) → poll g j ≡ Some moved → length moved ≡ poll_cost g
poll_len g j moved h = at (ltb 1 g.luns) (row_bytes_of g j.lun.lun 0 0) refl h
  where
    at : (b : Bool) (o : Option (List ℕ)) → row_bytes_of g j.lun.lun 0 0 ≡ o → cond b (and_then o (λ rows. Some (Give Cmd 0x78 ∷ (gives Adr rows ++ (Take ∷ []))))) (Some (Give Cmd 0x70 ∷ (Take ∷ []))) ≡ Some moved → length moved ≡ cond b 5 2
    at true None r e = cc
    at true (Some rows) r e = five rows (row_len g j.lun.lun 0 0 rows r) e
      where
        five : (rows : List ℕ) → length rows ≡ 3 → Some (Give Cmd 0x78 ∷ (gives Adr rows ++ (Take ∷ []))) ≡ Some moved → length moved ≡ 5
        five (a ∷ (b ∷ (c ∷ []))) l e = let same : (Give Cmd 0x78 ∷ (gives Adr (a ∷ (b ∷ (c ∷ []))) ++ (Take ∷ []))) ≡ moved = cc in ap length (sym same)
        five (a ∷ (b ∷ (c ∷ (d ∷ rows)))) l e = absurd (omega arith)
        five (a ∷ (b ∷ [])) l e = absurd (omega arith)
        five (a ∷ []) l e = absurd (omega arith)
        five [] l e = absurd (omega arith)
    at false o r e = let same : (Give Cmd 0x70 ∷ (Take ∷ [])) ≡ moved = cc in ap length (sym same)

address_len : (g : Parts) (j : Job) (done : List Done) (from n : ℕ) (moved : List Move) → from + n ≤ 5 → moves g j done (Address from n) ≡ Some moved → length moved ≡ n
address_len g j done from n moved h e = at (leb (from + n) 2) (row_bytes_of g j.lun.lun (index_now j.base done) (plane_now done)) refl refl e
  where
    columns : List ℕ
    columns = column_now done % 256 ∷ (column_now done / 256 % 256 ∷ [])

    at : (b : Bool) (o : Option (List ℕ)) → leb (from + n) 2 ≡ b → row_bytes_of g j.lun.lun (index_now j.base done) (plane_now done) ≡ o → and_then (cond b (Some (part from n (column_now done % 256 ∷ (column_now done / 256 % 256 ∷ [])))) (and_then o (λ rows. Some (part from n ((column_now done % 256 ∷ (column_now done / 256 % 256 ∷ [])) ++ rows))))) (λ bytes. Some (gives Adr bytes)) ≡ Some moved → length moved ≡ n
    at true o b r e = given_part Adr from n (column_now done % 256 ∷ (column_now done / 256 % 256 ∷ [])) moved (leb-true (from + n) 2 b) e
    at false None b r e = cc
    at false (Some rows) b r e =
        let three = row_len g j.lun.lun (index_now j.base done) (plane_now done) rows r in
        given_part Adr from n (column_now done % 256 ∷ (column_now done / 256 % 256 ∷ rows)) moved (omega arith) e

put_len : (j : Job) (done : List Done) (n : ℕ) (moved : List Move) → and_then (put_bytes j done n) (λ bytes. Some (gives Din bytes)) ≡ Some moved → length moved ≡ n
put_len j done n moved e = at (leb (place_now done + n) (length (buffer_now j.buffer done))) refl e
  where
    at : (b : Bool) → leb (place_now done + n) (length (buffer_now j.buffer done)) ≡ b → and_then (cond b (Some (part (place_now done) n (buffer_now j.buffer done))) None) (λ bytes. Some (gives Din bytes)) ≡ Some moved → length moved ≡ n
    at true b e = given_part Din (place_now done) n (buffer_now j.buffer done) moved (leb-true (place_now done + n) (length (buffer_now j.buffer done)) b) e
    at false b e = cc

-- the cost of a word but `wait` is the number of its cycles
pub cost_is : CostsCountMoves
cost_is g j done (Command byte) moved format words h n e = let same : (Give Cmd byte ∷ []) ≡ moved = cc in ap length (sym same)
cost_is g j done (Address from n) moved format words h w e = address_len g j done from n moved h.2 e
cost_is g j done (Get n) moved format words h w e = let same : replicate n Take ≡ moved = cc in ap length (sym same) ∙ length-replicate n Take
cost_is g j done (Put n) moved format words h w e = put_len j done n moved e
cost_is g j done ReadStatus moved format words h w e = poll_len g j moved e
cost_is g j done Wait moved format words h w e = cc
cost_is g j done _ moved format words h w e = let same : moved ≡ [] = cc in ap length same

-- the buffer keeps its length
pub buffer_len : BufferKeepsLength
buffer_len opening [] = refl
buffer_len opening (d ∷ done) = at d.answer ∙ buffer_len opening done
  where
    at : (a : Answer) → length (buffer_after a (place_now done) (buffer_now opening done)) ≡ length (buffer_now opening done)
    at Nothing = refl
    at (Polled s) = refl
    at (Got bytes) = written_len bytes (place_now done) (buffer_now opening done)
