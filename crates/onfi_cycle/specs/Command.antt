-- The commands of the profiles: their bytes, and what each asks of its sequence.
use Rattle.std.specs.Prelude.{◌≡◌, ◌≢◌, ℕ, ◌==◌, Bool, true, false, ◌||◌, if◌then◌else◌, Option, Some, None}
use Rattle.onfi_cycle.specs.declared.command.Command.{Command}
use Rattle.onfi_cycle.specs.declared.command.Command.TheVariants.{Read, ReadConfirm, ChangeReadColumn, ChangeReadColumnEnhanced, ChangeReadColumnConfirm, BlockErase, BlockEraseConfirm, BlockErasePlane, ReadStatus, ReadStatusEnhanced, PageProgram, ChangeWriteColumn, ProgramConfirm, ProgramPlane, ReadId, ReadParameterPage, Reset, ReadCacheSequential, ReadCacheEnd, ReadUniqueId, GetFeatures, SetFeatures, ResetLun, SynchronousReset, Unknown, ReadPlane, CopybackRead, ProgramCache}

-- the command of a byte
unfoldable pub command : ℕ → Command
command byte =
    if byte == 0x00 then Read
    else (if byte == 0x30 then ReadConfirm
    else (if byte == 0x05 then ChangeReadColumn
    else (if byte == 0xe0 then ChangeReadColumnConfirm
    else (if byte == 0x60 then BlockErase
    else (if byte == 0xd0 then BlockEraseConfirm
    else (if byte == 0xd1 then BlockErasePlane
    else (if byte == 0x70 then ReadStatus
    else (if byte == 0x78 then ReadStatusEnhanced
    else (if byte == 0x80 then PageProgram
    else (if byte == 0x85 then ChangeWriteColumn
    else (if byte == 0x10 then ProgramConfirm
    else (if byte == 0x11 then ProgramPlane
    else (if byte == 0x90 then ReadId
    else (if byte == 0xec then ReadParameterPage
    else (if byte == 0xff then Reset
    else (if byte == 0x31 then ReadCacheSequential
    else (if byte == 0x3f then ReadCacheEnd
    else (if byte == 0xed then ReadUniqueId
    else (if byte == 0xee then GetFeatures
    else (if byte == 0xef then SetFeatures
    else (if byte == 0xfa then ResetLun
    else (if byte == 0xfc then SynchronousReset
    else (if byte == 0x06 then ChangeReadColumnEnhanced
    else (if byte == 0x32 then ReadPlane
    else (if byte == 0x35 then CopybackRead
    else (if byte == 0x15 then ProgramCache
    else Unknown))))))))))))))))))))))))))

-- the byte of a command
abbrev pub opcode : Command → Option ℕ
opcode Read = Some 0x00
opcode ReadConfirm = Some 0x30
opcode ReadPlane = Some 0x32
opcode CopybackRead = Some 0x35
opcode ChangeReadColumn = Some 0x05
opcode ChangeReadColumnEnhanced = Some 0x06
opcode ChangeReadColumnConfirm = Some 0xe0
opcode BlockErase = Some 0x60
opcode BlockEraseConfirm = Some 0xd0
opcode BlockErasePlane = Some 0xd1
opcode ReadStatus = Some 0x70
opcode ReadStatusEnhanced = Some 0x78
opcode PageProgram = Some 0x80
opcode ChangeWriteColumn = Some 0x85
opcode ProgramConfirm = Some 0x10
opcode ProgramPlane = Some 0x11
opcode ProgramCache = Some 0x15
opcode ReadId = Some 0x90
opcode ReadParameterPage = Some 0xec
opcode Reset = Some 0xff
opcode ReadCacheSequential = Some 0x31
opcode ReadCacheEnd = Some 0x3f
opcode ReadUniqueId = Some 0xed
opcode GetFeatures = Some 0xee
opcode SetFeatures = Some 0xef
opcode ResetLun = Some 0xfa
opcode SynchronousReset = Some 0xfc
opcode Unknown = None

-- each command but Unknown has one byte, and each byte that isn't Unknown is that of its command
pub record CommandsHaveBytes : Type 0 where
  pub command_of_byte : (c : Command) (byte : ℕ) → opcode c ≡ Some byte → command byte ≡ c
  pub byte_of_command : (byte : ℕ) → command byte ≢ Unknown → opcode (command byte) ≡ Some byte

-- the commands of some profile
abbrev pub is_known : Command → Bool
is_known Unknown = false
is_known _ = true

-- the commands that begin a sequence; 31 and 85 do so where the tail doesn't want them
abbrev pub is_opener : Command → Bool
is_opener ReadConfirm = false
is_opener ReadPlane = false
is_opener CopybackRead = false
is_opener ChangeReadColumnConfirm = false
is_opener BlockEraseConfirm = false
is_opener BlockErasePlane = false
is_opener ProgramConfirm = false
is_opener ProgramPlane = false
is_opener ProgramCache = false
is_opener Unknown = false
is_opener _ = true

-- how many address cycles follow an opener
abbrev pub address_cycles : Command → ℕ
address_cycles Read = 5
address_cycles ChangeReadColumn = 2
address_cycles ChangeReadColumnEnhanced = 5
address_cycles BlockErase = 3
address_cycles ReadStatusEnhanced = 3
address_cycles PageProgram = 5
address_cycles ChangeWriteColumn = 5
address_cycles ReadId = 1
address_cycles ReadParameterPage = 1
address_cycles ReadUniqueId = 1
address_cycles GetFeatures = 1
address_cycles SetFeatures = 1
address_cycles ResetLun = 3
address_cycles _ = 0

-- the opener's sequence goes on after its addresses
abbrev pub wants_closer : Command → Bool
wants_closer Read = true
wants_closer ChangeReadColumn = true
wants_closer ChangeReadColumnEnhanced = true
wants_closer BlockErase = true
wants_closer PageProgram = true
wants_closer ChangeWriteColumn = true
wants_closer _ = false

-- the second command closes what the first opened, straight after its addresses
abbrev pub closes : Command → Command → Bool
closes Read ReadConfirm = true
closes Read ReadPlane = true
closes Read CopybackRead = true
closes Read ReadCacheSequential = true
closes ChangeReadColumn ChangeReadColumnConfirm = true
closes ChangeReadColumnEnhanced ChangeReadColumnConfirm = true
closes BlockErase BlockEraseConfirm = true
closes BlockErase BlockErasePlane = true
closes _ _ = false

-- the address bytes of Read ID, and the one of Read Parameter Page and of Read Unique ID
abbrev pub takes_address : Command → ℕ → Bool
takes_address ReadId byte = byte == 0x20 || (byte == 0x00 || byte == 0x40)
takes_address ReadParameterPage byte = byte == 0x00
takes_address ReadUniqueId byte = byte == 0x00
takes_address _ byte = true

-- the closers that work on the row of their tail; a 31 that closes nothing works on none
abbrev pub closes_row : Command → Bool
closes_row ReadConfirm = true
closes_row ReadPlane = true
closes_row CopybackRead = true
closes_row ReadCacheSequential = true
closes_row BlockEraseConfirm = true
closes_row BlockErasePlane = true
closes_row ProgramConfirm = true
closes_row ProgramPlane = true
closes_row ProgramCache = true
closes_row _ = false

-- those that read it
abbrev pub reads_row : Command → Bool
reads_row ReadConfirm = true
reads_row ReadPlane = true
reads_row CopybackRead = true
reads_row ReadCacheSequential = true
reads_row _ = false

-- after this many address cycles the next one is the last of a row
abbrev pub at_last_row : Command → ℕ → Bool
at_last_row Read n = n == 4
at_last_row ChangeReadColumnEnhanced n = n == 4
at_last_row BlockErase n = n == 2
at_last_row ReadStatusEnhanced n = n == 2
at_last_row ResetLun n = n == 2
at_last_row PageProgram n = n == 4
at_last_row ChangeWriteColumn n = n == 4
at_last_row _ n = false

abbrev pub is_change_read_column : Command → Bool
is_change_read_column ChangeReadColumn = true
is_change_read_column _ = false

abbrev pub is_enhanced_column : Command → Bool
is_enhanced_column ChangeReadColumnEnhanced = true
is_enhanced_column _ = false

abbrev pub is_page_program : Command → Bool
is_page_program PageProgram = true
is_page_program _ = false

-- 85, which begins a copyback, or changes the column in the data of a program
abbrev pub is_write_column : Command → Bool
is_write_column ChangeWriteColumn = true
is_write_column _ = false

-- the openers whose row is followed by the data of a program
abbrev pub begins_data : Command → Bool
begins_data PageProgram = true
begins_data ChangeWriteColumn = true
begins_data _ = false

abbrev pub is_set_features : Command → Bool
is_set_features SetFeatures = true
is_set_features _ = false

abbrev pub is_read_id : Command → Bool
is_read_id ReadId = true
is_read_id _ = false

-- the resets that may come in an open sequence
abbrev pub is_reset : Command → Bool
is_reset Reset = true
is_reset SynchronousReset = true
is_reset _ = false

-- the openers whose row is of a LUN that has to be ready
abbrev pub addresses_the_array : Command → Bool
addresses_the_array Read = true
addresses_the_array ChangeReadColumnEnhanced = true
addresses_the_array BlockErase = true
addresses_the_array PageProgram = true
addresses_the_array ChangeWriteColumn = true
addresses_the_array _ = false

-- the openers whose column is of a page
abbrev pub addresses_a_page : Command → Bool
addresses_a_page Read = true
addresses_a_page ChangeReadColumnEnhanced = true
addresses_a_page PageProgram = true
addresses_a_page ChangeWriteColumn = true
addresses_a_page _ = false

-- the openers that read what stands beside the array, or set it
abbrev pub reads_identity : Command → Bool
reads_identity ReadId = true
reads_identity ReadParameterPage = true
reads_identity ReadUniqueId = true
reads_identity GetFeatures = true
reads_identity SetFeatures = true
reads_identity _ = false

-- the openers that want a ready LUN on their target
abbrev pub wants_ready : Command → Bool
wants_ready ChangeReadColumn = true
wants_ready c = addresses_the_array c || reads_identity c

-- the commands that are of a whole target, and of none of its LUNs where it has several
abbrev pub is_of_target : Command → Bool
is_of_target c = reads_identity c || is_reset c

-- the openers that work on a target with one LUN alone, but in the wider profile
abbrev pub wants_one_lun : Command → Bool
wants_one_lun ReadStatus = true
wants_one_lun ReadId = true
wants_one_lun ReadParameterPage = true
wants_one_lun Reset = true
wants_one_lun ReadUniqueId = true
wants_one_lun GetFeatures = true
wants_one_lun SetFeatures = true
wants_one_lun SynchronousReset = true
wants_one_lun _ = false
