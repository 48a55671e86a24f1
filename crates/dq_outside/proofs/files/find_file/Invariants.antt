use Rattle.std.proofs.Common.{◌≡◌, drop}
use Rattle.dq_outside.specs.Files.{file_named}
use Rattle.dq_outside.proofs.files.find_file.Given as goal

-- what is passed has another name
abbrev pub invariant-loop-file : goal.invariant-loop-file
invariant-loop-file l = (file_named (drop l.file-index l.file-items) l.name ≡ file_named l.file-items l.name) × (l.file-items ≡ l.files)
