use Rattle.std.proofs.Common.{List, subst}
use Rattle.std.specs.Prelude.{IfSome, Ok, Err}
use Rattle.std.specs.List.{flat_map}
use Rattle.dq_base.specs.declared.script.Step.{Step}
use Rattle.dq_top.specs.Loading.{publication_in, publications}
use Rattle.dq_top.specs.Progress.{AnswersProgress}
use Rattle.dq_top.proofs.Behind.{nothing}
use Rattle.dq_top.proofs.Reached.{fault_whole, told_whole}
use Rattle.dq_top.proofs.loading.load_segments.Goals as goal

pub returns-in-Ok-clause-told : goal.returns-in-Ok-clause-told
returns-in-Ok-clause-told g c =
    let held = g.F.Folder.files c.args.folder.now in
    let P : List (List Step) → Type 0 = λ lanes. IfSome held (λ files. AnswersProgress files nothing (flat_map (λ steps. flat_map (publication_in c.args.script.now.schemas) steps) lanes) (Ok c.in-Ok.progress)) in
    told_whole held (publications c.args.script.now) c.in-Ok.progress (subst P c.as_slice.ensures c.in-Ok.ensures.told)

pub returns-in-Err-clause-told : goal.returns-in-Err-clause-told
returns-in-Err-clause-told g c =
    let held = g.F.Folder.files c.args.folder.now in
    let P : List (List Step) → Type 0 = λ lanes. IfSome held (λ files. AnswersProgress files nothing (flat_map (λ steps. flat_map (publication_in c.args.script.now.schemas) steps) lanes) (Err c.in-Err.fault)) in
    fault_whole held (publications c.args.script.now) c.in-Err.fault (subst P c.as_slice.ensures c.in-Err.ensures.told)
