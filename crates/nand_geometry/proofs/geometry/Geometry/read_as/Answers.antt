use Rattle.std.proofs.Common.{refl, sym, ◌∙◌, arith}
use Rattle.nand_geometry.proofs.ReadingLemmas.{scan_reads, past_unsigned, past_unsound, at_good, at_end, given}
use Rattle.nand_geometry.proofs.geometry.Geometry.read_as.Goals as goal
use Rattle.nand_geometry.proofs.geometry.Geometry.read_as.Goals.{then-signed, else-signed}

pub returns-then-is_sound : goal.returns-then-is_sound
returns-then-is_sound c =
    let before = c.loop-copy.invariant in
    let steps = c.in-Some.ensures.steps in
    let read = at_good (record { same = before.same; begins = steps.1.0; whole = steps.1.1 ∙ before.copies }) (sym c.if-is_signed.ensures) (sym c.if-is_sound.ensures) in
    given c.args.profile c.of_copy.result c.in-Some.copy.now _ (read ∙ scan_reads c.args.profile c.args.bytes.now c.if-bytes-lt-COPY_LEN.false) c.of_copy.ensures

pub loop-copy-preserved-then-is_signed : goal.loop-copy-preserved-then-is_signed
loop-copy-preserved-then-is_signed c =
    let before = c.loop-copy.invariant in
    let steps = c.in-Some.ensures.steps in
    record {
      copies = steps.0 ∙ before.copies;
      same = past_unsound (record { same = before.same; begins = steps.1.0; whole = steps.1.1 ∙ before.copies }) (sym c.if-is_signed.ensures) (sym c.if-is_sound.ensures);
    }

pub loop-copy-preserved : goal.loop-copy-preserved
loop-copy-preserved c =
    let before = c.loop-copy.invariant in
    let steps = c.in-Some.ensures.steps in
    record {
      copies = steps.0 ∙ before.copies;
      same = past_unsigned (record { same = before.same; begins = steps.1.0; whole = steps.1.1 ∙ before.copies }) (sym c.if-is_signed.ensures);
    }

pub returns : goal.returns
returns c =
    let before = c.loop-copy.invariant in
    let steps = c.in-None.ensures.steps in
    let read = sym (scan_reads c.args.profile c.args.bytes.now c.if-bytes-lt-COPY_LEN.false) ∙ at_end _ _ _ _ before.same (omega (arith, steps.1.0, before.copies)) in
    elim c.if-signed.branch [ then-signed w ↦ read ∙ rw (w.if-signed.true, w.result-is) refl | else-signed w ↦ read ∙ rw (w.if-signed.false, w.result-is) refl ]
