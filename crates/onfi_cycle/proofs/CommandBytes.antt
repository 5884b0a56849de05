-- Commands and their bytes.
use Rattle.std.proofs.Common.{◌≡◌, ◌≢◌, ℕ, ◌==◌, Bool, true, false, cond, Some, refl, sym, ap, ◌∙◌, eqb-true}
use Rattle.onfi_cycle.specs.declared.command.Command.{Command}
use Rattle.onfi_cycle.specs.declared.command.Command.TheVariants.{Read, ReadConfirm, ChangeReadColumn, ChangeReadColumnConfirm, BlockErase, BlockEraseConfirm, BlockErasePlane, ReadStatus, ReadStatusEnhanced, PageProgram, ChangeWriteColumn, ProgramConfirm, ProgramPlane, ReadId, ReadParameterPage, Reset, ReadCacheSequential, ReadCacheEnd, ReadUniqueId, GetFeatures, SetFeatures, ResetLun, SynchronousReset, Unknown, ChangeReadColumnEnhanced, ReadPlane, CopybackRead, ProgramCache}
use Rattle.onfi_cycle.specs.Command.{command, opcode, CommandsHaveBytes}

command_of_byte : (c : Command) (byte : ℕ) → opcode c ≡ Some byte → command byte ≡ c
unfolding command
command_of_byte Read byte h = let e : 0x00 ≡ byte = cc in ap command (sym e)
command_of_byte ReadConfirm byte h = let e : 0x30 ≡ byte = cc in ap command (sym e)
command_of_byte CopybackRead byte h = let e : 0x35 ≡ byte = cc in ap command (sym e)
command_of_byte ProgramCache byte h = let e : 0x15 ≡ byte = cc in ap command (sym e)
command_of_byte ReadPlane byte h = let e : 0x32 ≡ byte = cc in ap command (sym e)
command_of_byte ChangeReadColumn byte h = let e : 0x05 ≡ byte = cc in ap command (sym e)
command_of_byte ChangeReadColumnEnhanced byte h = let e : 0x06 ≡ byte = cc in ap command (sym e)
command_of_byte ChangeReadColumnConfirm byte h = let e : 0xe0 ≡ byte = cc in ap command (sym e)
command_of_byte BlockErase byte h = let e : 0x60 ≡ byte = cc in ap command (sym e)
command_of_byte BlockEraseConfirm byte h = let e : 0xd0 ≡ byte = cc in ap command (sym e)
command_of_byte BlockErasePlane byte h = let e : 0xd1 ≡ byte = cc in ap command (sym e)
command_of_byte ReadStatus byte h = let e : 0x70 ≡ byte = cc in ap command (sym e)
command_of_byte ReadStatusEnhanced byte h = let e : 0x78 ≡ byte = cc in ap command (sym e)
command_of_byte PageProgram byte h = let e : 0x80 ≡ byte = cc in ap command (sym e)
command_of_byte ChangeWriteColumn byte h = let e : 0x85 ≡ byte = cc in ap command (sym e)
command_of_byte ProgramConfirm byte h = let e : 0x10 ≡ byte = cc in ap command (sym e)
command_of_byte ProgramPlane byte h = let e : 0x11 ≡ byte = cc in ap command (sym e)
command_of_byte ReadId byte h = let e : 0x90 ≡ byte = cc in ap command (sym e)
command_of_byte ReadParameterPage byte h = let e : 0xec ≡ byte = cc in ap command (sym e)
command_of_byte Reset byte h = let e : 0xff ≡ byte = cc in ap command (sym e)
command_of_byte ReadCacheSequential byte h = let e : 0x31 ≡ byte = cc in ap command (sym e)
command_of_byte ReadCacheEnd byte h = let e : 0x3f ≡ byte = cc in ap command (sym e)
command_of_byte ReadUniqueId byte h = let e : 0xed ≡ byte = cc in ap command (sym e)
command_of_byte GetFeatures byte h = let e : 0xee ≡ byte = cc in ap command (sym e)
command_of_byte SetFeatures byte h = let e : 0xef ≡ byte = cc in ap command (sym e)
command_of_byte ResetLun byte h = let e : 0xfa ≡ byte = cc in ap command (sym e)
command_of_byte SynchronousReset byte h = let e : 0xfc ≡ byte = cc in ap command (sym e)
command_of_byte Unknown byte h = cc

-- one test of the table
one_test : (byte k : ℕ) (c rest : Command) → opcode c ≡ Some k → (rest ≢ Unknown → opcode rest ≡ Some byte) → cond (byte == k) c rest ≢ Unknown → opcode (cond (byte == k) c rest) ≡ Some byte
one_test byte k c rest here later known = at (byte == k) refl known
  where
    at : (b : Bool) → (byte == k) ≡ b → cond b c rest ≢ Unknown → opcode (cond b c rest) ≡ Some byte
    at true e known = here ∙ ap Some (sym (eqb-true byte k e))
    at false e known = later known

byte_of_command : (byte : ℕ) → command byte ≢ Unknown → opcode (command byte) ≡ Some byte
unfolding command
byte_of_command byte =
    one_test byte 0x00 Read _ refl
    (one_test byte 0x30 ReadConfirm _ refl
    (one_test byte 0x05 ChangeReadColumn _ refl
    (one_test byte 0xe0 ChangeReadColumnConfirm _ refl
    (one_test byte 0x60 BlockErase _ refl
    (one_test byte 0xd0 BlockEraseConfirm _ refl
    (one_test byte 0xd1 BlockErasePlane _ refl
    (one_test byte 0x70 ReadStatus _ refl
    (one_test byte 0x78 ReadStatusEnhanced _ refl
    (one_test byte 0x80 PageProgram _ refl
    (one_test byte 0x85 ChangeWriteColumn _ refl
    (one_test byte 0x10 ProgramConfirm _ refl
    (one_test byte 0x11 ProgramPlane _ refl
    (one_test byte 0x90 ReadId _ refl
    (one_test byte 0xec ReadParameterPage _ refl
    (one_test byte 0xff Reset _ refl
    (one_test byte 0x31 ReadCacheSequential _ refl
    (one_test byte 0x3f ReadCacheEnd _ refl
    (one_test byte 0xed ReadUniqueId _ refl
    (one_test byte 0xee GetFeatures _ refl
    (one_test byte 0xef SetFeatures _ refl
    (one_test byte 0xfa ResetLun _ refl
    (one_test byte 0xfc SynchronousReset _ refl
    (one_test byte 0x06 ChangeReadColumnEnhanced _ refl
    (one_test byte 0x32 ReadPlane _ refl
    (one_test byte 0x35 CopybackRead _ refl
    (one_test byte 0x15 ProgramCache _ refl
    (λ known. absurd (known refl))))))))))))))))))))))))))))

pub commands_have_bytes : CommandsHaveBytes
commands_have_bytes = record { command_of_byte = command_of_byte; byte_of_command = byte_of_command }
