-- What is printed of files: something, where it is of what they pose or of their text.
use Rattle.std.proofs.Common.{ℕ, ◌≤◌, inl, inr, List, length, Option, Some, None, Result, Ok, Err, refl, arith}
use Rattle.std.specs.Prelude.{IfErr, IsSome}
use Rattle.std.proofs.lemmas.Bool.{cases_lt}
use Rattle.eu_io.specs.declared.shelf.FileEntry.{FileEntry}
use Rattle.law_states.specs.Undeniable.{Undeniable}
use Rattle.model_core.specs.declared.model.Model.{Model}
use Rattle.model_core.specs.Lawful.{IsLawful}
use Rattle.nddl_ast.specs.declared.declaration.Decl.{Decl}
use Rattle.nddl_ast.specs.declared.kind.TextKind.TheVariants as kinds
use Rattle.nddl_parser.specs.declared.fault.TextFail.{TextFail}
use Rattle.nddl_parser.specs.Faults.{fail_kind}
use Rattle.nddl_parser.proofs.OneReading.{one_reading}
use Rattle.nddl_print.specs.Canonical.{spelling_of}
use Rattle.plan_db.specs.Database.{Database}
use Rattle.plan_verdicts.specs.Verdicts.{TextsAreChecked}
use Rattle.run_commands.specs.Checking.{CheckedOutput, PlanFileOutput, checked_end}
use Rattle.run_commands.specs.Contents.{ContentOutput}
use Rattle.run_commands.specs.Posing.{PosedOutput}
use Rattle.run_commands.specs.Printed.{fault_line, file_limit}
use Rattle.run_commands.specs.Showing.{ReadingOutput, TextOutput, ShowOutput}
use Rattle.run_commands.specs.declared.status.RunEnd.{RunEnd}
use Rattle.run_commands.specs.declared.status.RunEnd.TheVariants.{Done, Text}
use Rattle.run_load.specs.Posing.{PosedFault, IsPosed, Poses}
use Rattle.europa_outputs.specs.Outputs.{HasOutput}
use Rattle.europa_outputs.proofs.Reading.{placed_fail}

-- ---- what files pose

module _ (files : List FileEntry) (file : List ℕ) (DatabaseOutput : Database → List ℕ → RunEnd → Type 0)
    (has : (database : Database) → IsPosed files file database → Undeniable (HasOutput (DatabaseOutput database))) where
  posed_by : (posed : Result Database PosedFault) → Poses files file posed → Undeniable (HasOutput (PosedOutput files file DatabaseOutput))
  posed_by (Err fault) is none = none (fault_line fault.kind fault.file fault.at, (Text, inl (fault, (is, (refl, refl)))))
  posed_by (Ok database) is none = has database is (λ found. none (found.0, (found.1.0, inr (database, (is, found.1.1)))))

  pub posed_some : Undeniable ((posed : Result Database PosedFault) × Poses files file posed) → Undeniable (HasOutput (PosedOutput files file DatabaseOutput))
  posed_some poses none = poses (λ found. posed_by found.0 found.1 none)

-- ---- single files

module _ (file : List ℕ) (BytesOutput : List ℕ → List ℕ → RunEnd → Type 0)
    (has : (bytes : List ℕ) → length bytes ≤ file_limit → Undeniable (HasOutput (BytesOutput bytes))) where
  pub content_some : (content : Option (List ℕ)) → Undeniable (HasOutput (ContentOutput file content BytesOutput))
  content_some None none = none (fault_line kinds.Absent file 0, (Text, inl (inl (refl, (refl, refl)))))
  content_some (Some bytes) none = elim (cases_lt file_limit (length bytes)) [
    | inl long ↦ none (fault_line kinds.LimitBytes file 0, (Text, inl (inr (bytes, (refl, long, (refl, refl))))))
    | inr short ↦ has bytes short (λ found. none (found.0, (found.1.0, inr (bytes, ((refl, short), found.1.1)))))
  ]

-- ---- what is shown and what is checked

reading_shown : (file : List ℕ) (reading : Result (List Decl) TextFail) → IfErr reading (λ fail. IsSome (fail_kind fail)) → HasOutput (ReadingOutput file reading)
reading_shown file (Ok tree) told = (spelling_of tree, (Done, (refl, refl)))
reading_shown file (Err fail) told =
    let placed = placed_fail fail told in
    (fault_line placed.0 file placed.1.0, (Text, (placed.0, (placed.1.0, (placed.1.1.0, placed.1.1.1, (refl, refl))))))

text_shown : (file bytes : List ℕ) → length bytes ≤ file_limit → HasOutput (TextOutput file bytes)
text_shown file bytes short =
    let read = one_reading bytes short in
    let shown = reading_shown file read.0 read.2 in
    (shown.0, (shown.1.0, (read.0, (read.1.is, shown.1.1))))

pub show_some : (file : List ℕ) (content : Option (List ℕ)) → Undeniable (HasOutput (ShowOutput file content))
show_some file content none = content_some file (TextOutput file) (λ bytes short fails. fails (text_shown file bytes short)) content none

checked_some : TextsAreChecked → (model : Model) → IsLawful model → (text : List ℕ) → length text ≤ file_limit → Undeniable (HasOutput (CheckedOutput model text))
checked_some checked model lawful text short none = checked model text lawful (omega (arith, short)) (λ found.
    none (found.0, (checked_end found.1.0, (found.1.0, (found.1.1, refl)))))

pub plan_file_some : TextsAreChecked → (model : Model) → IsLawful model → (plan : List ℕ) (content : Option (List ℕ)) → Undeniable (HasOutput (PlanFileOutput model plan content))
plan_file_some checked model lawful plan content none = content_some plan (CheckedOutput model) (checked_some checked model lawful) content none
