use Rattle.std.proofs.Common.{◌≡◌, ◌<◌, length, ap, subst, sym, ◌∙◌}
use Rattle.nand_geometry.specs.declared.parts.Parts.{Parts}
use Rattle.target_bus.specs.Bus.{number_of}
use Rattle.recording.specs.Targets.{count_of}
use Rattle.trace_commands.specs.Images.{reads_for}
use Rattle.trace_commands.proofs.Places.{place_inside}
use Rattle.trace_commands.proofs.Written.{die_written}
use Rattle.trace_commands.proofs.image_writing.write_die.Goals as goal

pub returns-clause-ok : goal.returns-clause-ok
returns-clause-ok g c =
    let geometry = c.args.trace.now.geometry in
    let lun = c.args.request.lun in
    let dies = c.args.trace.now.dies.items in
    let is_place : c.place.result ≡ number_of geometry lun = c.place.ensures ∙ ap (λ (h : Parts). number_of h lun) c.parts.ensures.value in
    let inside : c.place.result < length dies = subst (λ k. k < length dies) (sym is_place) (place_inside (count_of c.args.request.trace.targets) geometry.luns lun.ce lun.lun (length dies) c.requires (sym c.has_lun.ensures ∙ c.if-not-has_lun.false)) in
    die_written c.write_file.result dies (number_of geometry lun) c.place.result c.index-die.result.now _ (reads_for c.args.request geometry c.args.trace.now.whole.items) c.as_slice.result.now c.in_ok-image.image.items c.as_slice-2.result.now (g.F.Files.store c.args.files.now) (g.F.Files.store c.write_file.new.files) c.args.request.output.now
    is_place inside c.index-die.ensures c.in_ok-image.ensures (c.as_slice.ensures.value ∙ c.in_ok-reads.ensures) c.as_slice-2.ensures.value c.write_file.ensures.written
