use Rattle.page_commands.proofs.Made.{page_made}
use Rattle.page_commands.proofs.making.write_page.Goals as goal

pub returns-in-Ok-clause-ok : goal.returns-in-Ok-clause-ok
returns-in-Ok-clause-ok g c =
    page_made (g.F.Files.store c.args.files.now) (g.F.Files.store c.write_file.new.files) c.args.parts c.in-Ok.geometry c.args.target.now c.page.result c.write_file.result c.in-Ok.ensures.0 c.in-Ok.ensures.1 c.page.ensures c.write_file.ensures.written
