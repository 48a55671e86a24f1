use Rattle.dq_top.proofs.Inputs.{script_told, report_told}
use Rattle.dq_top.proofs.checking.read_inputs.Goals as goal

pub returns-in-Err-clause-told : goal.returns-in-Err-clause-told
returns-in-Err-clause-told g c =
    script_told (g.F.Folder.files c.args.folder.now) (record { script = c.args.script.now; report = c.args.report.now }) c.in-Err.fault c.in-Err.ensures.told

pub returns-in-Err-read_report-clause-told : goal.returns-in-Err-read_report-clause-told
returns-in-Err-read_report-clause-told g c =
    report_told (g.F.Folder.files c.args.folder.now) (g.F.Folder.files c.load_script.new.folder) (record { script = c.args.script.now; report = c.args.report.now })
    c.in-Ok.loaded c.in-Err-read_report.fault c.load_script.ensures.kept c.in-Ok.ensures.told c.in-Err-read_report.ensures.told
