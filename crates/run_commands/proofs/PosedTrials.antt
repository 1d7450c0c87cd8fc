-- What is printed where a text poses a database, and where it poses none.
use Rattle.std.proofs.Common.{ℕ, List, Result, Ok, Err, inl, inr, sym, subst}
use Rattle.eu_io.specs.declared.shelf.FileEntry.{FileEntry}
use Rattle.plan_db.specs.Database.{Database}
use Rattle.run_load.specs.declared.fault.PoseFault.{PoseFault}
use Rattle.run_load.specs.declared.fault.PoseFault.TheVariants as pose
use Rattle.run_load.specs.Pieces.{TellsPosed, fault_at}
use Rattle.run_load.specs.Posing.{Poses}
use Rattle.run_commands.specs.Posing.{PosedOutput, IsUnposed}
use Rattle.run_commands.specs.declared.lines.Printed.{Printed}
use Rattle.run_commands.specs.declared.status.RunEnd.{RunEnd}
use Rattle.run_commands.specs.declared.status.RunFault.{RunFault}
use Rattle.run_commands.specs.declared.status.RunFault.TheVariants as run
use Rattle.run_commands.specs.Printed.{AnswersAs}

module _ (files : List FileEntry) (file : List ℕ) (Told : Database → List ℕ → RunEnd → Type 0) where
  pub unposed_told : (fault : PoseFault) (answer : Result Printed RunFault) → TellsPosed (Poses files file) (Err fault) → IsUnposed fault answer
      → AnswersAs (PosedOutput files file Told) answer
  unposed_told (pose.Text kind name at) (Ok printed) wrong told = inl (fault_at kind name at, (wrong, told))
  unposed_told (pose.Text kind name at) (Err run.Read) wrong told = tt
  unposed_told (pose.Text kind name at) (Err run.Write) wrong told = told
  unposed_told (pose.Text kind name at) (Err run.Memory) wrong told = tt
  unposed_told pose.Read answer wrong told = subst (λ (a : Result Printed RunFault). AnswersAs (PosedOutput files file Told) a) (sym told) tt
  unposed_told pose.Memory answer wrong told = subst (λ (a : Result Printed RunFault). AnswersAs (PosedOutput files file Told) a) (sym told) tt

  pub posed_told : (database : Database) (answer : Result Printed RunFault) → Poses files file (Ok database) → AnswersAs (Told database) answer
      → AnswersAs (PosedOutput files file Told) answer
  posed_told database (Ok printed) posed told = inr (database, (posed, told))
  posed_told database (Err run.Read) posed told = tt
  posed_told database (Err run.Write) posed told = told
  posed_told database (Err run.Memory) posed told = tt
