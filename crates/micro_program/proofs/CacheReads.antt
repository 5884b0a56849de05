-- The command that continues a cache read has byte 31h, and no other has.
use Rattle.std.proofs.Common.{◌≡◌, ◌≢◌, ℕ, ◌==◌, Bool, true, false, Some, refl, sym, ap, ◌∙◌, eq-eqb, eqb-true}
use Rattle.onfi_cycle.specs.declared.command.Command.TheVariants.{ReadCacheSequential, Unknown}
use Rattle.onfi_cycle.specs.Command.{command, opcode}
use Rattle.onfi_cycle.proofs.CommandBytes.{commands_have_bytes}

pub its_byte : (byte : ℕ) → command byte ≡ ReadCacheSequential → (byte == 0x31) ≡ true
its_byte byte e =
    let some : Some 0x31 ≡ Some byte = ap opcode (sym e) ∙ commands_have_bytes.byte_of_command byte (λ n. let both : ReadCacheSequential ≡ Unknown = sym e ∙ n in cc) in
    let same : 0x31 ≡ byte = cc in
    eq-eqb byte 0x31 (sym same)

pub no_other_byte : (byte : ℕ) → command byte ≢ ReadCacheSequential → (byte == 0x31) ≡ false
no_other_byte byte other = at (byte == 0x31) refl
  where
    at : (b : Bool) → (byte == 0x31) ≡ b → b ≡ false
    at true e = absurd (other (commands_have_bytes.command_of_byte ReadCacheSequential byte (ap Some (sym (eqb-true byte 0x31 e)))))
    at false e = refl
