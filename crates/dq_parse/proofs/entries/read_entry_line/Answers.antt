use Rattle.std.proofs.lemmas.Result.{err_from_is_err_and}
use Rattle.dq_reading.proofs.Readings.{passed_on}
use Rattle.dq_parse.proofs.Lines.{line_reads, line_none}
use Rattle.dq_parse.proofs.entries.read_entry_line.Goals as goal

pub returns-in_err-read_place : goal.returns-in_err-read_place
returns-in_err-read_place c = passed_on _ _ _ (err_from_is_err_and c.from_residual.result c.from_residual.ensures.1) c.in_err-read_place.ensures (line_none c.args.place)

pub returns : goal.returns
returns c = line_reads c.args.place _ c.read_ended_entry.result c.in_ok-read_place.ensures c.read_ended_entry.ensures
