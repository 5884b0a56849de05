-- The decoder of the base profile, as it was before there was a wider one.
use Rattle.std.specs.Prelude.{◌≡◌, ℕ, ◌==◌, if◌then◌else◌}
use Rattle.onfi_cycle.specs.declared.command.Command.{Command}
use Rattle.onfi_cycle.specs.declared.command.Command.TheVariants.{Read, ReadConfirm, ChangeReadColumn, ChangeReadColumnConfirm, BlockErase, BlockEraseConfirm, BlockErasePlane, ReadStatus, ReadStatusEnhanced, PageProgram, ChangeWriteColumn, ProgramConfirm, ProgramPlane, ReadId, ReadParameterPage, Reset, ReadCacheSequential, ReadCacheEnd, Unknown}
use Rattle.onfi_cycle.specs.Command.{command}
use Rattle.onfi_cycle.specs.Base.{is_of_base}

-- the command of a byte, in the base profile
unfoldable pub base_command : ℕ → Command
base_command byte =
    if byte == 0x00 then Read
    else (if byte == 0x30 then ReadConfirm
    else (if byte == 0x05 then ChangeReadColumn
    else (if byte == 0xe0 then ChangeReadColumnConfirm
    else (if byte == 0x60 then BlockErase
    else (if byte == 0xd0 then BlockEraseConfirm
    else (if byte == 0xd1 then BlockErasePlane
    else (if byte == 0x70 then ReadStatus
    else (if byte == 0x78 then ReadStatusEnhanced
    else (if byte == 0x80 then PageProgram
    else (if byte == 0x85 then ChangeWriteColumn
    else (if byte == 0x10 then ProgramConfirm
    else (if byte == 0x11 then ProgramPlane
    else (if byte == 0x90 then ReadId
    else (if byte == 0xec then ReadParameterPage
    else (if byte == 0xff then Reset
    else (if byte == 0x31 then ReadCacheSequential
    else (if byte == 0x3f then ReadCacheEnd
    else Unknown)))))))))))))))))

-- a command of the base profile, and for any other one that it isn't known there
abbrev pub as_base : Command → Command
as_base c = if is_of_base c then c else Unknown

-- the law: the decoder of all profiles gives the command that the base profile has for a byte, or one that isn't of the base profile
abbrev pub DecodesBase : Type 0
DecodesBase = (byte : ℕ) → as_base (command byte) ≡ base_command byte
