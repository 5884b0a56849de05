-- The decoder gives the commands of the base profile as it did.
use Rattle.std.proofs.Common.{◌≡◌, ◌==◌, Bool, true, false, cond, refl}
use Rattle.onfi_cycle.specs.declared.command.Command.{Command}
use Rattle.onfi_cycle.specs.declared.command.Command.TheVariants.{Read, ReadConfirm, ReadPlane, CopybackRead, ChangeReadColumn, ChangeReadColumnConfirm, BlockErase, BlockEraseConfirm, BlockErasePlane, ReadStatus, ReadStatusEnhanced, PageProgram, ChangeWriteColumn, ProgramConfirm, ProgramPlane, ReadId, ReadParameterPage, Reset, ReadCacheSequential, ReadCacheEnd, ReadUniqueId, GetFeatures, SetFeatures, ResetLun, SynchronousReset, Unknown, ChangeReadColumnEnhanced, ProgramCache}
use Rattle.onfi_cycle.specs.Command.{command}
use Rattle.onfi_profiles.specs.Decoding.{as_base, base_command, DecodesBase}

-- one test of both decoders
one : (b : Bool) (c x y : Command) → as_base c ≡ c → as_base x ≡ y → as_base (cond b c x) ≡ cond b c y
one true c x y h k = h
one false c x y h k = k

-- one test of a command that the base profile hasn't
other : (b : Bool) (c x : Command) → as_base c ≡ Unknown → as_base x ≡ Unknown → as_base (cond b c x) ≡ Unknown
other true c x h k = h
other false c x h k = k

pub decodes : DecodesBase
unfolding command base_command
decodes byte =
    one (byte == 0x00) Read _ _ refl
    (one (byte == 0x30) ReadConfirm _ _ refl
    (one (byte == 0x05) ChangeReadColumn _ _ refl
    (one (byte == 0xe0) ChangeReadColumnConfirm _ _ refl
    (one (byte == 0x60) BlockErase _ _ refl
    (one (byte == 0xd0) BlockEraseConfirm _ _ refl
    (one (byte == 0xd1) BlockErasePlane _ _ refl
    (one (byte == 0x70) ReadStatus _ _ refl
    (one (byte == 0x78) ReadStatusEnhanced _ _ refl
    (one (byte == 0x80) PageProgram _ _ refl
    (one (byte == 0x85) ChangeWriteColumn _ _ refl
    (one (byte == 0x10) ProgramConfirm _ _ refl
    (one (byte == 0x11) ProgramPlane _ _ refl
    (one (byte == 0x90) ReadId _ _ refl
    (one (byte == 0xec) ReadParameterPage _ _ refl
    (one (byte == 0xff) Reset _ _ refl
    (one (byte == 0x31) ReadCacheSequential _ _ refl
    (one (byte == 0x3f) ReadCacheEnd _ _ refl
    (other (byte == 0xed) ReadUniqueId _ refl
    (other (byte == 0xee) GetFeatures _ refl
    (other (byte == 0xef) SetFeatures _ refl
    (other (byte == 0xfa) ResetLun _ refl
    (other (byte == 0xfc) SynchronousReset _ refl
    (other (byte == 0x06) ChangeReadColumnEnhanced _ refl
    (other (byte == 0x32) ReadPlane _ refl
    (other (byte == 0x35) CopybackRead _ refl
    (other (byte == 0x15) ProgramCache _ refl refl))))))))))))))))))))))))))
