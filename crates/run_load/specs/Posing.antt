-- What a file poses with those that it includes: a database in which the decisions of the text are taken, or the first fault of
-- a text.
use Rattle.std.specs.Prelude.{◌≡◌, ℕ, List, [], ◌∷◌, ◌++◌, ◌⊎◌, Some, Result, Ok, Err}
use Rattle.eu_io.specs.declared.shelf.FileEntry.{FileEntry}
use Rattle.model_core.specs.declared.decision.Decision.{Decision}
use Rattle.model_core.specs.declared.model.Model.{Model}
use Rattle.model_core.specs.declared.model.Placed.{Placed}
use Rattle.model_core.specs.History.{standing, accepted}
use Rattle.nddl_ast.specs.declared.declaration.FileDecls.{FileDecls}
use Rattle.nddl_ast.specs.declared.fault.TextFault.TheVariants as texts
use Rattle.nddl_ast.specs.declared.kind.TextKind.{TextKind}
use Rattle.nddl_ast.specs.declared.kind.TextKind.TheVariants as kinds
use Rattle.nddl_parser.specs.declared.fault.ReadAllFault.{ReadAllFault}
use Rattle.nddl_parser.specs.Faults.{fault_kind, fault_file, fault_place}
use Rattle.nddl_parser.specs.Visits.{ReadsAll}
use Rattle.nddl_parser.specs.Language.{ReadsAs}
use Rattle.nddl_problem.specs.Told.{IsCompiled, IsFirstFault}
use Rattle.plan_defs.specs.Refusals.{IsAdmissible}
use Rattle.model_core.specs.declared.refusal.Refusal.{Refusal}
use Rattle.plan_db.specs.Database.{Database, taken_in, HasCollapsed, RefusesFor}

-- ---- the decisions of a text

-- the model's database in which nothing is decided
abbrev pub undecided : Model → Database
undecided model = taken_in model ([] ∷ [])

-- the database with this decision taken as one more step
abbrev pub with_step : Database → Decision → Database
with_step database decision = taken_in database.model (accepted database.history decision)

-- all these decisions are taken, each a step, and each admissible after those before it
abbrev pub TakesText : Database → List Placed → Database → Type 0
TakesText start [] end = end ≡ start
TakesText start (placed ∷ more) end =
    IsAdmissible start.model (standing start.history) placed.decision
    × TakesText (with_step start placed.decision) more end

-- why the decision may not be taken: it is refused for some reason, or those before it have collapsed
abbrev pub MayNotTake : Database → Decision → TextKind → Type 0
MayNotTake database decision kinds.NotAdmissible = (reason : Refusal) × RefusesFor database decision reason
MayNotTake database decision kinds.AfterConflict = HasCollapsed database
MayNotTake database decision kind = ⊥

-- those before this decision are taken, and it is the first that may not be
pub record IsTextDecisionFault (start : Database) (decisions : List Placed) (kind : TextKind) (placed : Placed) : Type 0 where
  pub before : List Placed
  pub behind : List Placed
  pub parts : decisions ≡ before ++ placed ∷ behind
  pub there : Database
  pub takes : TakesText start before there
  pub may_not : MayNotTake there placed.decision kind

-- ---- files

-- what is wrong first: its kind, the file whose text it is in, and the byte of that
pub record PosedFault : Type 0 where
  pub kind : TextKind
  pub file : List ℕ
  pub at : ℕ

-- the file is read with those that it includes, they have a model, and the decisions of its text are taken in it
pub record IsPosed (files : List FileEntry) (name : List ℕ) (database : Database) : Type 0 where
  pub read : List FileDecls
  pub reads : ReadsAll ReadsAs (Some files) name (Ok read)
  pub model : Model
  pub compiled : IsCompiled read model
  pub takes : TakesText (undecided model) model.problem.decisions database

-- the file isn't read with those that it includes, and this is the fault that is met first
pub record IsReadFault (files : List FileEntry) (name : List ℕ) (fault : PosedFault) : Type 0 where
  pub wrong : ReadAllFault
  pub stops : ReadsAll ReadsAs (Some files) name (Err wrong)
  pub kind : fault_kind wrong ≡ Some fault.kind
  pub file : fault_file wrong ≡ Some fault.file
  pub at : fault_place wrong ≡ Some fault.at

-- the files are read, and this is what is wrong first with them
pub record IsModelFault (files : List FileEntry) (name : List ℕ) (fault : PosedFault) : Type 0 where
  pub read : List FileDecls
  pub reads : ReadsAll ReadsAs (Some files) name (Ok read)
  pub first : IsFirstFault read (texts.At fault.kind fault.file fault.at)

-- the files have a model, and the fault is at the first decision of its text that may not be taken
pub record IsDecisionFault (files : List FileEntry) (name : List ℕ) (fault : PosedFault) : Type 0 where
  pub read : List FileDecls
  pub reads : ReadsAll ReadsAs (Some files) name (Ok read)
  pub model : Model
  pub compiled : IsCompiled read model
  pub placed : Placed
  pub first : IsTextDecisionFault (undecided model) model.problem.decisions fault.kind placed
  pub file : fault.file ≡ placed.file
  pub at : fault.at ≡ placed.at

-- what the file of this name poses in these files: a database, or the first fault of reading, compiling or deciding
abbrev pub Poses : List FileEntry → List ℕ → Result Database PosedFault → Type 0
Poses files name (Ok database) = IsPosed files name database
Poses files name (Err fault) =
    IsReadFault files name fault ⊎ (IsModelFault files name fault ⊎ IsDecisionFault files name fault)
