-- Files by name.
use Rattle.std.specs.Prelude.{ℕ, List, [], ◌∷◌, Option, Some, None, if◌then◌else◌, unwrap_or}
use Rattle.std.specs.Str.{bytes_eq}
use Rattle.dq_outside.specs.declared.files.NamedFile.{NamedFile}

-- the bytes of the first file of that name
abbrev pub file_named : List NamedFile → List ℕ → Option (List ℕ)
file_named [] name = None
file_named (f ∷ fs) name = if bytes_eq f.name name then Some f.bytes else file_named fs name

-- the same, and an empty file under every other name
abbrev pub sure_file : List NamedFile → List ℕ → Option (List ℕ)
sure_file files name = Some (unwrap_or (file_named files name) [])
