-- What a failed read or write comes to.
use Rattle.std.specs.Prelude.{Bool, false, Result, Ok, Err}
use Rattle.std.specs.declared.io.ErrorKind.{ErrorKind}
use Rattle.std.specs.declared.io.ErrorKind.TheVariants as kind
use Rattle.seq_files.specs.declared.error.FileFault.{FileFault}
use Rattle.seq_files.specs.declared.error.FileFault.TheVariants.{NotFound, PermissionDenied, IsDirectory, NotDirectory, StorageFull, ReadOnly, AlreadyExists, Unknown}
use Rattle.seq_files.specs.declared.error.FileError.{FileError}
use Rattle.seq_files.specs.declared.error.FileError.TheVariants.{Fault, ReaderGone, OutOfMemory}

-- what is wrong where a read or a write fails so, as far as it matters to whoever gave the path
abbrev pub fault_of : ErrorKind → FileFault
fault_of kind.NotFound = NotFound
fault_of kind.PermissionDenied = PermissionDenied
fault_of kind.IsADirectory = IsDirectory
fault_of kind.NotADirectory = NotDirectory
fault_of kind.StorageFull = StorageFull
fault_of kind.ReadOnlyFilesystem = ReadOnly
fault_of kind.AlreadyExists = AlreadyExists
fault_of _ = Unknown

-- out of memory, and a reader that is gone, are told apart from all other failures of a read or a write
abbrev pub error_of : ErrorKind → FileError
error_of kind.OutOfMemory = OutOfMemory
error_of kind.BrokenPipe = ReaderGone
error_of kind = Fault (fault_of kind)

-- what a failed read leads to: one that a signal interrupts brings no end and is tried again
abbrev pub after_failure : ErrorKind → Result Bool FileError
after_failure kind.Interrupted = Ok false
after_failure kind.OutOfMemory = Err OutOfMemory
after_failure kind = Err (Fault (fault_of kind))
