use Rattle.std.proofs.lemmas.Bool.{false≢true}
use Rattle.serde_json.specs.View.{view}
use Rattle.dq_script.proofs.Json.{answers_bytes, no_script}
use Rattle.dq_script.proofs.reading.read.Goals as goal

pub returns-in-Ok : goal.returns-in-Ok
returns-in-Ok c =
    let ok = c.in-Ok.ensures.ok in
    record {
      script = answers_bytes c.args.bytes.now (view c.in-Ok.value) c.read_value.result ok.0 ok.1 c.read_value.ensures.script;
      fits = c.read_value.ensures.fits;
    }

pub returns-else-is_memory-clause-script : goal.returns-else-is_memory-clause-script
returns-else-is_memory-clause-script c = no_script c.args.bytes.now (c.in-Err.ensures.err (λ memory. false≢true (c.if-is_memory.ensures.1 memory)))
