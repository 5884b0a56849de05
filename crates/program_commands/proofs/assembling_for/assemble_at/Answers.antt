use Rattle.program_commands.proofs.CountedHeaders.{assembled}
use Rattle.program_commands.proofs.assembling_for.assemble_at.Goals as goal

pub returns-clause-ok : goal.returns-clause-ok
returns-clause-ok g c =
    assembled (g.F.Files.store c.args.files.now) (g.F.Files.store c.geometry_at.new.files) (g.F.Files.store c.read_file.new.files) (g.F.Files.store c.write_file.new.files)
    c.args.page c.args.input.now c.args.target.now c.in_ok-bytes.bytes.items c.as_slice.result.now c.in_ok-file.file.items c.as_slice-2.result.now
    c.in_ok-geometry.geometry c.in_ok-verified.verified.text c.text.result.now
    c.in_ok-geometry.ensures.ok c.in_ok-geometry.ensures.stays c.in_ok-bytes.ensures.holds c.in_ok-bytes.ensures.stays c.as_slice.ensures.value c.in_ok-verified.ensures.ok
    c.text.ensures.value c.in_ok-file.ensures.value c.as_slice-2.ensures.value c.in_ok-write_file.ensures.written
