-- What is accepted from the first state is safe; and some programs of which that is so.
use Rattle.std.specs.Prelude.{◌≡◌, ℕ, ◌≤◌, true, false, List, [], ◌∷◌, None}
use Rattle.nand_geometry.specs.declared.parts.Parts.{Parts}
use Rattle.nand_geometry.specs.Optional.{no_optional, wide_with}
use Rattle.micro_word.specs.declared.word.Word.{Word}
use Rattle.micro_word.specs.declared.word.Word.TheVariants.{End, Command, Address, Get, Put, Seek, Column, RowAdd, Row, Plane, Wait, Yield, ReadStatus, BranchOnStatus, Loop, Next}
use Rattle.micro_word.specs.Text.{Microprogram}
use Rattle.micro_program.specs.Lines.{unrolled}
use Rattle.micro_program.specs.Safe.{IsSafe}
use Rattle.micro_program.specs.Unsafe.{one_lun}
use Rattle.micro_claims.specs.State.{first_state, bounds_of}
use Rattle.micro_claims.specs.Accepts.{accepts}

-- the law
abbrev pub AcceptedLinesAreSafe : Type 0
AcceptedLinesAreSafe = (text : Microprogram) (g : Parts) → 1 ≤ text.rows → accepts g (bounds_of text) None first_state (unrolled text.words) ≡ true → IsSafe text g

-- two such LUNs, each in two planes
abbrev pub two_luns : Parts
two_luns = record { page_bytes = 512; spare_bytes = 16; pages = 4; blocks = 8; luns = 2; plane_bits = 1; enhanced = true; multi_plane = true; cache = false; optional = no_optional }

abbrev pub some_text : ℕ → ℕ → List Word → Microprogram
some_text buffer budget words = record { rows = 1; buffer = buffer; budget = budget; words = words }

-- a read of a page, and its data
abbrev pub read_words : List Word
read_words = Command 0x00 ∷ (Address 0 5 ∷ (Command 0x30 ∷ (Wait ∷ (Command 0x00 ∷ (Get 528 ∷ (End 0 ∷ []))))))

-- the same, letting others have the bus: the status has to be asked for again
abbrev pub handing_words : List Word
handing_words = Command 0x00 ∷ (Address 0 2 ∷ (Address 2 3 ∷ (Command 0x30 ∷ (Yield ∷ (Wait ∷ (Yield ∷ (ReadStatus ∷ (Command 0x00 ∷ (Get 500 ∷ (Get 28 ∷ (End 0 ∷ [])))))))))))

-- a program of a page from the buffer, part by part
abbrev pub program_words : List Word
program_words = Column 8 ∷ (Command 0x80 ∷ (Address 0 5 ∷ (Put 100 ∷ (Seek 0 ∷ (Put 20 ∷ (Command 0x10 ∷ (Wait ∷ (End 0 ∷ []))))))))

-- a read, of which two parts are taken
abbrev pub column_words : List Word
column_words = Command 0x00 ∷ (Address 0 5 ∷ (Command 0x30 ∷ (Wait ∷ (Command 0x00 ∷ (Get 10 ∷ (Column 512 ∷ (Command 0x05 ∷ (Address 0 2 ∷ (Command 0xe0 ∷ (Get 16 ∷ (End 0 ∷ [])))))))))))

-- an erase that tells by its code whether it failed
abbrev pub checked_words : List Word
checked_words = Command 0x60 ∷ (Address 2 3 ∷ (Command 0xd0 ∷ (Wait ∷ (BranchOnStatus 0x01 6 ∷ (End 0 ∷ (End 1 ∷ []))))))

-- a program in two parts
abbrev pub parts_words : List Word
parts_words = Command 0x80 ∷ (Address 0 5 ∷ (Put 4 ∷ (Column 100 ∷ (Command 0x85 ∷ (Address 0 1 ∷ (Address 1 1 ∷ (Put 4 ∷ (Command 0x10 ∷ (Wait ∷ (End 0 ∷ []))))))))))

-- an erase of two planes
abbrev pub planes_words : List Word
planes_words = Command 0x60 ∷ (Address 2 3 ∷ (Command 0xd1 ∷ (Wait ∷ (Plane 1 ∷ (Command 0x60 ∷ (Address 2 3 ∷ (Command 0xd0 ∷ (Wait ∷ (End 0 ∷ [])))))))))

-- an erase of two blocks, one after the other, in a loop
abbrev pub blocks_words : List Word
blocks_words = Loop 2 ∷ (Command 0x60 ∷ (Address 2 3 ∷ (Command 0xd0 ∷ (Wait ∷ (RowAdd 4 ∷ (Next ∷ (Row 0 ∷ (End 0 ∷ []))))))))

-- two pages by a cache read
abbrev pub cache_words : List Word
cache_words = Command 0x00 ∷ (Address 0 5 ∷ (Command 0x30 ∷ (Wait ∷ (Command 0x31 ∷ (Wait ∷ (Command 0x00 ∷ (Get 528 ∷ (Wait ∷ (Command 0x3f ∷ (Wait ∷ (Command 0x00 ∷ (Get 528 ∷ (End 0 ∷ [])))))))))))))

-- the identifier, the parameter page and a reset
abbrev pub identity_words : List Word
identity_words = Column 32 ∷ (Command 0x90 ∷ (Address 0 1 ∷ (Get 4 ∷ (Column 0 ∷ (Command 0xec ∷ (Address 0 1 ∷ (Wait ∷ (Command 0x00 ∷ (Get 768 ∷ (Command 0xff ∷ (Wait ∷ (End 0 ∷ []))))))))))))

-- the identity at 00h and that at 40h, and the unique identifier
abbrev pub identities_words : List Word
identities_words = Command 0x90 ∷ (Address 0 1 ∷ (Get 8 ∷ (Column 64 ∷ (Command 0x90 ∷ (Address 0 1 ∷ (Get 6 ∷ (Column 0 ∷ (Command 0xed ∷ (Address 0 1 ∷ (Wait ∷ (Command 0x00 ∷ (Get 512 ∷ (End 0 ∷ [])))))))))))))

-- a feature is set, its four bytes in two parts, and read back
abbrev pub features_words : List Word
features_words = Column 1 ∷ (Command 0xef ∷ (Address 0 1 ∷ (Put 1 ∷ (Put 3 ∷ (Wait ∷ (Command 0xee ∷ (Address 0 1 ∷ (Wait ∷ (Command 0x00 ∷ (Get 4 ∷ (End 0 ∷ [])))))))))))

-- an erase is cut off by a reset of its LUN
abbrev pub lun_reset_words : List Word
lun_reset_words = Command 0x60 ∷ (Address 2 3 ∷ (Command 0xd0 ∷ (Command 0xfa ∷ (Address 2 2 ∷ (Address 4 1 ∷ (Wait ∷ (End 0 ∷ [])))))))

-- a program is left amid its data by a reset, and another reset follows
abbrev pub resets_words : List Word
resets_words = Command 0x80 ∷ (Address 0 5 ∷ (Put 4 ∷ (Command 0xff ∷ (Wait ∷ (Command 0xfc ∷ (Wait ∷ (End 0 ∷ [])))))))

-- a read of a page in each of two planes, and four bytes of both
abbrev pub plane_read_words : List Word
plane_read_words =
    Command 0x00 ∷ (Address 0 5 ∷ (Command 0x32 ∷ (Wait ∷ (Plane 1 ∷ (Command 0x00 ∷ (Address 0 5 ∷ (Command 0x30 ∷ (Wait ∷ (
    Plane 0 ∷ (Command 0x06 ∷ (Address 0 5 ∷ (Command 0xe0 ∷ (Get 4 ∷ (
    Plane 1 ∷ (Command 0x06 ∷ (Address 0 5 ∷ (Command 0xe0 ∷ (Get 4 ∷ (End 0 ∷ [])))))))))))))))))))

-- a read that lets others have the bus, and selects its LUN again
abbrev pub selecting_words : List Word
selecting_words = Command 0x00 ∷ (Address 0 5 ∷ (Command 0x30 ∷ (Wait ∷ (Yield ∷ (Command 0x06 ∷ (Address 0 5 ∷ (Command 0xe0 ∷ (Get 4 ∷ (End 0 ∷ [])))))))))

-- a page is copied to another row of its block
abbrev pub copy_words : List Word
copy_words = Command 0x00 ∷ (Address 0 5 ∷ (Command 0x35 ∷ (Wait ∷ (RowAdd 2 ∷ (Command 0x85 ∷ (Address 0 5 ∷ (Command 0x10 ∷ (Wait ∷ (End 0 ∷ [])))))))))

-- a page in each of two planes is copied, in one group: one byte of the second is changed
abbrev pub copies_words : List Word
copies_words =
    Command 0x00 ∷ (Address 0 5 ∷ (Command 0x35 ∷ (Wait ∷ (Plane 1 ∷ (Command 0x00 ∷ (Address 0 5 ∷ (Command 0x35 ∷ (Wait ∷ (RowAdd 2 ∷ (
    Plane 0 ∷ (Command 0x85 ∷ (Address 0 5 ∷ (Command 0x11 ∷ (Wait ∷ (
    Plane 1 ∷ (Command 0x85 ∷ (Address 0 5 ∷ (Put 1 ∷ (Command 0x10 ∷ (Wait ∷ (End 0 ∷ [])))))))))))))))))))))

-- two pages by a cache program
abbrev pub cached_program_words : List Word
cached_program_words =
    Command 0x80 ∷ (Address 0 5 ∷ (Put 1 ∷ (Command 0x15 ∷ (Wait ∷ (Row 1 ∷ (Command 0x80 ∷ (Address 0 5 ∷ (Put 1 ∷ (Command 0x10 ∷ (Wait ∷ (
    BranchOnStatus 0x03 13 ∷ (End 0 ∷ (End 1 ∷ [])))))))))))))

-- four pages, the last one by a 10
abbrev pub cached_pages_words : List Word
cached_pages_words =
    Loop 3 ∷ (Command 0x80 ∷ (Address 0 5 ∷ (Put 1 ∷ (Command 0x15 ∷ (Wait ∷ (RowAdd 1 ∷ (Next ∷ (
    Command 0x80 ∷ (Address 0 5 ∷ (Put 1 ∷ (Command 0x10 ∷ (Wait ∷ (End 0 ∷ [])))))))))))))

-- a page in each of two planes, and another one
abbrev pub cached_group_words : List Word
cached_group_words =
    Command 0x80 ∷ (Address 0 5 ∷ (Put 1 ∷ (Command 0x11 ∷ (Wait ∷ (Plane 1 ∷ (Command 0x80 ∷ (Address 0 5 ∷ (Put 1 ∷ (Command 0x15 ∷ (Wait ∷ (
    RowAdd 1 ∷ (Command 0x80 ∷ (Address 0 5 ∷ (Put 1 ∷ (Command 0x10 ∷ (Wait ∷ (End 0 ∷ [])))))))))))))))))

-- one LUN, or two, with all that the wider profile has but cache programs of several planes
abbrev pub one_wide_lun : Parts
one_wide_lun = record { page_bytes = 512; spare_bytes = 16; pages = 4; blocks = 8; luns = 1; plane_bits = 0; enhanced = false; multi_plane = false; cache = false; optional = wide_with true true true true true true true true true false false }

abbrev pub two_wide_luns : Parts
two_wide_luns = record { page_bytes = 512; spare_bytes = 16; pages = 4; blocks = 8; luns = 2; plane_bits = 0; enhanced = true; multi_plane = false; cache = false; optional = wide_with true true true true true true true true true false false }

-- one LUN of two planes
abbrev pub two_wide_planes : Parts
two_wide_planes = record { page_bytes = 512; spare_bytes = 16; pages = 4; blocks = 8; luns = 1; plane_bits = 1; enhanced = false; multi_plane = true; cache = false; optional = wide_with true true true true true true true true true false false }

-- the same, which caches programs of both
abbrev pub two_cached_planes : Parts
two_cached_planes = record two_wide_planes { optional = wide_with true true true true true true true true true false true }

abbrev pub one_lun_with_cache : Parts
one_lun_with_cache = record { page_bytes = 512; spare_bytes = 16; pages = 4; blocks = 8; luns = 1; plane_bits = 0; enhanced = false; multi_plane = false; cache = true; optional = no_optional }

abbrev pub with_rows : ℕ → ℕ → ℕ → List Word → Microprogram
with_rows rows buffer budget words = record { rows = rows; buffer = buffer; budget = budget; words = words }

pub record SomeAreSafe : Type 0 where
  pub read : IsSafe (some_text 528 536 read_words) one_lun
  pub read_among_others : IsSafe (some_text 528 536 read_words) two_luns
  pub handing : IsSafe (some_text 528 538 handing_words) one_lun
  pub handing_among_others : IsSafe (some_text 528 541 handing_words) two_luns
  pub program : IsSafe (some_text 100 127 program_words) one_lun
  pub program_among_others : IsSafe (some_text 100 127 program_words) two_luns
  pub column : IsSafe (some_text 26 38 column_words) one_lun
  pub column_among_others : IsSafe (some_text 26 38 column_words) two_luns
  pub checked : IsSafe (some_text 0 5 checked_words) two_luns
  pub parts : IsSafe (some_text 8 18 parts_words) two_luns
  pub planes : IsSafe (some_text 0 10 planes_words) two_luns
  pub blocks : IsSafe (with_rows 8 0 10 blocks_words) two_luns
  pub cached : IsSafe (with_rows 2 1056 1067 cache_words) one_lun_with_cache
  pub identity : IsSafe (some_text 772 778 identity_words) one_lun
  pub identities : IsSafe (some_text 526 533 identities_words) one_wide_lun
  pub features : IsSafe (some_text 8 13 features_words) one_wide_lun
  pub lun_reset : IsSafe (some_text 0 9 lun_reset_words) one_wide_lun
  pub lun_reset_among_others : IsSafe (some_text 0 9 lun_reset_words) two_wide_luns
  pub resets : IsSafe (some_text 4 12 resets_words) one_wide_lun
  pub plane_read : IsSafe (some_text 8 36 plane_read_words) two_wide_planes
  pub selecting : IsSafe (some_text 4 18 selecting_words) one_wide_lun
  pub selecting_among_others : IsSafe (some_text 4 18 selecting_words) two_wide_luns
  pub copied : IsSafe (with_rows 3 0 14 copy_words) one_wide_lun
  pub copied_among_others : IsSafe (with_rows 3 0 14 copy_words) two_wide_luns
  pub copied_in_planes : IsSafe (with_rows 3 1 29 copies_words) two_wide_planes
  pub cached_program : IsSafe (with_rows 2 2 16 cached_program_words) one_wide_lun
  pub cached_program_among_others : IsSafe (with_rows 2 2 16 cached_program_words) two_wide_luns
  pub cached_pages : IsSafe (with_rows 4 4 32 cached_pages_words) one_wide_lun
  pub cached_group : IsSafe (with_rows 2 3 24 cached_group_words) two_cached_planes
