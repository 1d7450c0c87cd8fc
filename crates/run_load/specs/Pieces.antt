-- What is answered, and what the parts of the work do.
use Rattle.std.specs.Prelude.{◌≡◌, ℕ, Bool, true, false, List, Option, Some, None, Result, Ok, Err, ◌⊎◌, ⊤}
use Rattle.model_core.specs.declared.decision.Decision.{Decision}
use Rattle.model_core.specs.declared.model.Model.{Model}
use Rattle.model_core.specs.declared.model.Placed.{Placed}
use Rattle.model_core.specs.History.{standing}
use Rattle.nddl_ast.specs.declared.declaration.FileDecls.{FileDecls}
use Rattle.nddl_ast.specs.declared.fault.TextFault.{TextFault}
use Rattle.nddl_ast.specs.declared.fault.TextFault.TheVariants as texts
use Rattle.nddl_ast.specs.declared.kind.TextKind.{TextKind}
use Rattle.nddl_ast.specs.declared.kind.TextKind.TheVariants as kinds
use Rattle.nddl_parser.specs.declared.fault.ReadAllFault.{ReadAllFault}
use Rattle.nddl_parser.specs.declared.fault.ReadAllFault.TheVariants as all
use Rattle.nddl_parser.specs.Faults.{fault_kind, fault_file, fault_place}
use Rattle.nddl_problem.specs.Told.{IsCompiled, IsFirstFault}
use Rattle.plan_defs.specs.Refusals.{IsAdmissible}
use Rattle.plan_db.specs.declared.fault.DbFault.{DbFault}
use Rattle.plan_db.specs.declared.fault.DbFault.TheVariants as db
use Rattle.plan_db.specs.Answers.{Held}
use Rattle.plan_db.specs.Database.{Database}
use Rattle.run_load.specs.declared.fault.PoseFault.{PoseFault}
use Rattle.run_load.specs.declared.fault.PoseFault.TheVariants as pose
use Rattle.run_load.specs.Posing.{PosedFault, undecided, with_step, TakesText, MayNotTake, IsTextDecisionFault}

-- ---- answers

abbrev pub fault_at : TextKind → List ℕ → ℕ → PosedFault
fault_at kind file at = record { kind = kind; file = file; at = at }

-- the answer is one of these, unless there was no memory or a call of the shelf failed
abbrev pub TellsPosed : (Result Database PosedFault → Type 0) → Result Held PoseFault → Type 0
TellsPosed Is (Ok held) = Is (Ok held.database)
TellsPosed Is (Err (pose.Text kind file at)) = Is (Err (fault_at kind file at))
TellsPosed Is (Err pose.Read) = ⊤
TellsPosed Is (Err pose.Memory) = ⊤

-- whether a call of the shelf failed
abbrev pub is_read_fault : {T : Type 0} → Result T PoseFault → Bool
is_read_fault (Ok done) = false
is_read_fault (Err (pose.Text kind file at)) = false
is_read_fault (Err pose.Read) = true
is_read_fault (Err pose.Memory) = false

-- ---- decisions

-- what speaks against a decision that isn't taken for this fault; where memory is wanting, nothing does
abbrev pub IsSpokenBy : DbFault → Option TextKind → Type 0
IsSpokenBy db.InInconsistent against = against ≡ Some kinds.AfterConflict
IsSpokenBy db.Unknown against = against ≡ Some kinds.NotAdmissible
IsSpokenBy db.WrongType against = against ≡ Some kinds.NotAdmissible
IsSpokenBy db.Decided against = against ≡ Some kinds.NotAdmissible
IsSpokenBy db.NotInDomain against = against ≡ Some kinds.NotAdmissible
IsSpokenBy db.NotActive against = against ≡ Some kinds.NotAdmissible
IsSpokenBy db.NotSamePredicate against = against ≡ Some kinds.NotAdmissible
IsSpokenBy db.NotRejectable against = against ≡ Some kinds.NotAdmissible
IsSpokenBy db.Same against = against ≡ Some kinds.NotAdmissible
IsSpokenBy db.ActiveFull against = against ≡ Some kinds.NotAdmissible
IsSpokenBy other against = ⊥

-- the decision is taken where nothing speaks against it, and otherwise this does and all stays
abbrev pub TakesUnless : Option TextKind → Database → Decision → Database → Type 0
TakesUnless None old decision new = IsAdmissible old.model (standing old.history) decision × (new ≡ with_step old decision)
TakesUnless (Some kind) old decision new = MayNotTake old decision kind × (new ≡ old)

-- the fault of this kind that the decision of the text has, unless memory is wanting
abbrev pub IsFaultOr : TextKind → Placed → PoseFault → Type 0
IsFaultOr kind placed (pose.Text other file at) = (other ≡ kind) × (file ≡ placed.file) × (at ≡ placed.at)
IsFaultOr kind placed pose.Read = ⊥
IsFaultOr kind placed pose.Memory = ⊤

-- the decision of the text is taken, or has this fault
abbrev pub TakesPlaced : Result (Unit {0}) PoseFault → Database → Placed → Database → Type 0
TakesPlaced (Ok done) old placed new = TakesUnless None old placed.decision new
TakesPlaced (Err (pose.Text kind file at)) old placed new =
    MayNotTake old placed.decision kind × (file ≡ placed.file) × (at ≡ placed.at)
TakesPlaced (Err pose.Read) old placed new = ⊥
TakesPlaced (Err pose.Memory) old placed new = ⊤

-- the fault is that of the first of the decisions that may not be taken
abbrev pub HasFaultAmong : Database → List Placed → PosedFault → Type 0
HasFaultAmong start decisions fault =
    (placed : Placed) × IsTextDecisionFault start decisions fault.kind placed
    × (fault.file ≡ placed.file) × (fault.at ≡ placed.at)

-- all decisions are taken, or the first that may not be has this fault
abbrev pub TakesAll : Result (Unit {0}) PoseFault → Database → List Placed → Database → Type 0
TakesAll (Ok done) old decisions new = TakesText old decisions new
TakesAll (Err (pose.Text kind file at)) old decisions new = HasFaultAmong old decisions (fault_at kind file at)
TakesAll (Err pose.Read) old decisions new = ⊥
TakesAll (Err pose.Memory) old decisions new = ⊤

-- ---- stages

-- what a model poses
abbrev pub PosesModel : Model → Result Database PosedFault → Type 0
PosesModel model (Ok database) = TakesText (undecided model) model.problem.decisions database
PosesModel model (Err fault) = HasFaultAmong (undecided model) model.problem.decisions fault

-- what files that were read pose
abbrev pub PosesRead : List FileDecls → Result Database PosedFault → Type 0
PosesRead read (Ok database) = (model : Model) × IsCompiled read model × PosesModel model (Ok database)
PosesRead read (Err fault) =
    IsFirstFault read (texts.At fault.kind fault.file fault.at)
    ⊎ ((model : Model) × IsCompiled read model × PosesModel model (Err fault))

-- what is answered where files have no model
abbrev pub answer_to : TextFault → PoseFault
answer_to (texts.At kind file at) = pose.Text kind file at
answer_to texts.Memory = pose.Memory

-- what is answered where files aren't read
abbrev pub IsAnswerTo : ReadAllFault → PoseFault → Type 0
IsAnswerTo wrong (pose.Text kind file at) =
    (fault_kind wrong ≡ Some kind) × (fault_file wrong ≡ Some file) × (fault_place wrong ≡ Some at)
IsAnswerTo wrong pose.Read = wrong ≡ all.ReadFault
IsAnswerTo wrong pose.Memory = wrong ≡ all.ReadFault → ⊥
