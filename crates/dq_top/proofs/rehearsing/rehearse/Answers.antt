use Rattle.std.proofs.Common.{◌∙◌, ap, subst, sym}
use Rattle.dq_extract.specs.Loads.{LoadedFiles}
use Rattle.dq_top.specs.Outcomes.{IsServed, any_invalid}
use Rattle.dq_top.specs.Words.{script_name}
use Rattle.dq_top.proofs.Fine.{all_answered, files_told, loaded_is, loaded_told}
use Rattle.dq_top.proofs.rehearsing.rehearse.Goals as goal

pub returns-in-Ok-clause-loaded : goal.returns-in-Ok-clause-loaded
returns-in-Ok-clause-loaded g c =
    loaded_told (g.F.Folder.files c.args.folder.now) (script_name c.args.words.now) c.in-Some.name.now c.in-Ok.loaded c.play_loaded.result.loaded
    (sym (c.in-Some.ensures ∙ ap script_name c.as_slice.ensures)) c.in-Ok.ensures.told c.play_loaded.ensures.loaded

pub returns-in-Ok-clause-files : goal.returns-in-Ok-clause-files
returns-in-Ok-clause-files g c =
    files_told (g.F.Folder.files c.args.folder.now) (script_name c.args.words.now) c.in-Some.name.now c.in-Ok.loaded c.play_loaded.result.told
    (sym (c.in-Some.ensures ∙ ap script_name c.as_slice.ensures)) c.in-Ok.ensures.told c.play_loaded.ensures.told

pub returns-in-Ok-clause-complete : goal.returns-in-Ok-clause-complete
returns-in-Ok-clause-complete g c =
    λ name files l words held loads quiet still none calls.
    let named = c.in-Some.ensures ∙ ap script_name c.as_slice.ensures ∙ words in
    let same = loaded_is (g.F.Folder.files c.args.folder.now) files c.in-Some.name.now name l c.in-Ok.loaded held named loads c.in-Ok.ensures.told in
    let out = c.play_loaded.result in
    let told = c.play_loaded.ensures in
    subst (λ (k : LoadedFiles). IsServed (any_invalid k.script) out.status) same
    (all_answered _ (λ d. g.O.D.Dialer.faults d) c.in-Ok.loaded out.told out.loaded out.journal.entries out.results out.shown out.wrecks out.dialers out.status
    (g.S.Sink.faults c.args.sink.now) (g.S.Sink.faults c.play_loaded.new.sink)
    told.told told.whole told.loaded told.right told.wrecks told.dials none calls told.status told.served told.cause still)
