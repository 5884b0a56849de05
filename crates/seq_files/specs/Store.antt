-- What a file system holds: the bytes of each file, by its path.
use Rattle.std.specs.Prelude.{◌≡◌, ℕ, ⊤, List, [], ◌∷◌, Option, Some, None}
use Rattle.std.specs.Map.{update}
use Rattle.std.specs.Str.{bytes_eq}
use Rattle.seq_files.specs.declared.new_file.NewFile.{NewFile}
use Rattle.seq_files.specs.declared.made_file.MadeFile.{MadeFile}

abbrev pub Store : Type 0
Store = List ℕ → Option (List ℕ)

-- a path has a file of these bytes, where it is known what the paths have
abbrev pub Holds : Option Store → List ℕ → List ℕ → Type 0
Holds None path bytes = ⊤
Holds (Some files) path bytes = files path ≡ Some bytes

-- the name of the file that a path leads to: where it is known what the paths have, each has a file of its own, and the path is its name
abbrev pub IsNameOf : Option Store → (path name : List ℕ) → Type 0
IsNameOf None path name = ⊤
IsNameOf (Some files) path name = name ≡ path

-- a file more, in place of one that had its path
abbrev pub with_file : Option Store → List ℕ → List ℕ → Option Store
with_file None path bytes = None
with_file (Some files) path bytes = Some (update bytes_eq files path (Some bytes))

-- a file that is written: its path and its bytes
abbrev pub Written : Type 0
Written = List ℕ × List ℕ

abbrev pub written_of : NewFile → Written
written_of file = (file.path.now, file.bytes.now)

-- the same of a file that was made
abbrev pub made_of : {A : Type 0} → MadeFile A → Written
made_of file = (file.path.now, file.bytes.items)

-- the files after these were written, one after the other
unfoldable pub with_all : List Written → Option Store → Option Store
with_all [] files = files
with_all (w ∷ ws) files = with_all ws (with_file files w.0 w.1)
