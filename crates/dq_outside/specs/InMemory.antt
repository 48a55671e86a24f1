-- What a folder and a sink in memory were given, and how often they were called.
use Rattle.std.specs.Prelude.{ℕ, List}
use Rattle.dq_outside.specs.declared.files.NamedFile.{NamedFile}
use Rattle.dq_outside.specs.declared.memory_folder.MemFolder.{MemFolder}
use Rattle.dq_outside.specs.declared.memory_folder.SureFolder.{SureFolder}
use Rattle.dq_outside.specs.declared.memory_sink.MemSink.{MemSink}

-- the files that the folder holds
abbrev pub given_files : MemFolder → List NamedFile
given_files folder = folder.files

-- the files that a sure folder holds
abbrev pub held_files : SureFolder → List NamedFile
held_files folder = folder.files

-- the numbers of the reads that fail
abbrev pub failing_reads : MemFolder → List ℕ
failing_reads folder = folder.fails

-- how many reads there were, up to the last value of u64
abbrev pub reads_made : MemFolder → ℕ
reads_made folder = folder.calls

-- the numbers of the writes that fail
abbrev pub failing_writes : MemSink → List ℕ
failing_writes sink = sink.fails

-- how many writes there were, up to the last value of u64
abbrev pub writes_made : MemSink → ℕ
writes_made sink = sink.calls

-- how many bytes a write takes at most
abbrev pub most_at_once : MemSink → ℕ
most_at_once sink = sink.most
