use Rattle.std.proofs.Common.{map}
use Rattle.seq_files.specs.Store.{written_of}
use Rattle.system_files.proofs.Unknown.{unknown, on_each}
use Rattle.system_files.proofs.real_files.RealFilesFiles.write_all.Goals as goal

pub returns-clause-written : goal.returns-clause-written
returns-clause-written g c = on_each c.write_each.result (unknown (map written_of c.args.files.now))
