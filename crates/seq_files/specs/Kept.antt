-- What files in memory hold.
use Rattle.std.specs.Prelude.{if◌then◌else◌, List, [], ◌∷◌, Some, None, reverse}
use Rattle.std.specs.Str.{bytes_eq}
use Rattle.std.specs.String.{string_bytes}
use Rattle.seq_files.specs.declared.map_files.KeptFile.{KeptFile}
use Rattle.seq_files.specs.Store.{Store}

-- of the files that have a path the first counts
abbrev pub first_of : List KeptFile → Store
first_of [] path = None
first_of (file ∷ older) path = if bytes_eq (string_bytes file.path) path then Some file.bytes.items else first_of older path

-- the file that was made last has the path
abbrev pub files_in : List KeptFile → Store
files_in kept = first_of (reverse kept)
