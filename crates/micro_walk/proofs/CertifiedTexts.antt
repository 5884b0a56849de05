-- A text with a certificate of claims is safe.
use Rattle.std.proofs.Common.{None, sym, ◌∙◌}
use Rattle.micro_program.specs.Lines.{unrolled}
use Rattle.micro_claims.specs.State.{first_state, bounds_of}
use Rattle.micro_claims.specs.Order.{At, machine}
use Rattle.micro_walk.specs.Certified.{CertifiedTextsAreSafe}
use Rattle.micro_walk.proofs.Certified.{certified_is_accepted}
use Rattle.micro_walk.proofs.StateLaws.{laws}
use Rattle.micro_walk.proofs.Machines.{alike}
use Rattle.micro_claims.proofs.AcceptedLines.{accepted_is_safe}

pub certified_is_safe : CertifiedTextsAreSafe
certified_is_safe text g claims limits rows nested h =
    accepted_is_safe text g rows (sym (alike g (bounds_of text) (unrolled text.words) None first_state) ∙ certified_is_accepted (machine g (bounds_of text)) (At g) (laws g (bounds_of text) limits) text.words claims nested h)
