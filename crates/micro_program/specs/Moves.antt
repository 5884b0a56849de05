-- The cycles of a word, told before it is known what its outputs give.
use Rattle.std.specs.Prelude.{◌≡◌, ℕ, ◌+◌, ◌/◌, ◌%◌, Bool, true, false, nat_le, nat_lt, if◌then◌else◌, List, [], ◌∷◌, ◌++◌, Option, Some, None, map, replicate, take, drop, length}
use Rattle.nand_geometry.specs.declared.parts.Parts.{Parts}
use Rattle.nand_geometry.specs.Row.{row_bytes_of}
use Rattle.onfi_cycle.specs.declared.item.Kind.{Kind}
use Rattle.onfi_cycle.specs.declared.item.Kind.TheVariants.{Cmd, Adr, Din}
use Rattle.micro_word.specs.declared.format.Format.{Format}
use Rattle.micro_word.specs.declared.word.Word.{Word}
use Rattle.micro_word.specs.declared.word.Word.TheVariants.{Command, Address, Get, Put, Wait, ReadStatus}
use Rattle.micro_word.specs.Word.{IsInRange}
use Rattle.micro_program.specs.Program.{Job, Done, column_now, plane_now, index_now, place_now, buffer_now, cost}

-- a cycle that gives a byte to the target, or one that takes a byte from it
pub data Move : Type 0 where
  Give : (kind : Kind) (byte : ℕ) → Move
  Take : Move

-- how many bytes some moves take
abbrev pub outputs : List Move → ℕ
outputs [] = 0
outputs (Give kind byte ∷ rest) = outputs rest
outputs (Take ∷ rest) = outputs rest + 1

-- where there is a value, go on with it
abbrev pub and_then : {A B : Type 0} → Option A → (A → Option B) → Option B
and_then None f = None
and_then (Some x) f = f x

-- so many bytes from a place on
abbrev pub part : ℕ → ℕ → List ℕ → List ℕ
part from count bytes = take count (drop from bytes)

-- the two bytes of a column, the least significant first
abbrev pub column_bytes : ℕ → List ℕ
column_bytes column = column % 256 ∷ (column / 256 % 256 ∷ [])

-- a part of C1 C2 R1 R2 R3: the column and the row of the index, which must be there only where its bytes are needed
abbrev pub address : Parts → Job → List Done → (from count : ℕ) → Option (List ℕ)
address g j done from count =
    if nat_le (from + count) 2
    then Some (part from count (column_bytes (column_now done)))
    else and_then (row_bytes_of g j.lun.lun (index_now j.base done) (plane_now done)) (λ row. Some (part from count (column_bytes (column_now done) ++ row)))

-- each of these bytes is given, by cycles of one kind
abbrev pub gives : Kind → List ℕ → List Move
gives kind bytes = map (Give kind) bytes

-- a status poll: by 70h where there is one LUN, else by 78h and row 0 of the LUN
abbrev pub poll : Parts → Job → Option (List Move)
poll g j =
    if nat_lt 1 g.luns
    then and_then (row_bytes_of g j.lun.lun 0 0) (λ row. Some (Give Cmd 0x78 ∷ (gives Adr row ++ (Take ∷ []))))
    else Some (Give Cmd 0x70 ∷ (Take ∷ []))

-- the buffer's bytes from its place on, where there are so many
abbrev pub put_bytes : Job → List Done → ℕ → Option (List ℕ)
put_bytes j done len =
    if nat_le (place_now done + len) (length (buffer_now j.buffer done))
    then Some (part (place_now done) len (buffer_now j.buffer done))
    else None

-- what a word moves; nothing is told where its row isn't there, or its bytes aren't
abbrev pub moves : Parts → Job → List Done → Word → Option (List Move)
moves g j done (Command byte) = Some (Give Cmd byte ∷ [])
moves g j done (Address from count) = and_then (address g j done from count) (λ bytes. Some (gives Adr bytes))
moves g j done (Get len) = Some (replicate len Take)
moves g j done (Put len) = and_then (put_bytes j done len) (λ bytes. Some (gives Din bytes))
moves g j done Wait = poll g j
moves g j done ReadStatus = poll g j
moves g j done _ = Some []

abbrev pub is_wait : Word → Bool
is_wait Wait = true
is_wait _ = false

-- the law: the cost of a word of a text, but `wait`, is the number of its cycles
abbrev pub CostsCountMoves : Type 0
CostsCountMoves =
    (g : Parts) (j : Job) (done : List Done) (word : Word) (moved : List Move) (format : Format) (words : ℕ) → IsInRange format words word
    → is_wait word ≡ false → moves g j done word ≡ Some moved → length moved ≡ cost g word

-- the law: the buffer keeps its length
abbrev pub BufferKeepsLength : Type 0
BufferKeepsLength = (opening : List ℕ) (done : List Done) → length (buffer_now opening done) ≡ length opening
