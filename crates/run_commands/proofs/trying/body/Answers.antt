use Rattle.std.proofs.Common.{List, subst, codes}
use Rattle.eu_io.specs.declared.shelf.FileEntry.{FileEntry}
use Rattle.run_commands.specs.Posing.{PosedOutput}
use Rattle.run_commands.specs.Printed.{AnswersAs}
use Rattle.run_commands.specs.Trying.{TrialOutput}
use Rattle.run_commands.proofs.trying.body.Goals as goal

pub returns-in-Ok-clause-told : goal.returns-in-Ok-clause-told
returns-in-Ok-clause-told c =
    subst (λ (files : List FileEntry). AnswersAs (PosedOutput files (codes "gen") TrialOutput) c.body_over.result) c.in-Ok.ensures c.body_over.ensures.told
