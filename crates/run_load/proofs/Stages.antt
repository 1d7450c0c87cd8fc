-- From what is read, compiled and decided to what is answered.
use Rattle.std.proofs.Common.{◌≡◌, ℕ, Bool, false, List, Option, Some, Result, Ok, Err, inl, inr, refl, sym, ap, ◌∙◌, subst}
use Rattle.std.specs.Prelude.{IfOk, MatchResult}
use Rattle.eu_io.specs.declared.shelf.FileEntry.{FileEntry}
use Rattle.eu_io.specs.Faults.{counted, NoneAfter}
use Rattle.model_core.specs.declared.model.Model.{Model}
use Rattle.model_core.specs.declared.model.Placed.{Placed}
use Rattle.nddl_ast.specs.declared.declaration.FileDecls.{FileDecls}
use Rattle.nddl_ast.specs.declared.fault.TextFault.{TextFault}
use Rattle.nddl_ast.specs.declared.fault.TextFault.TheVariants as texts
use Rattle.nddl_ast.specs.declared.kind.TextKind.{TextKind}
use Rattle.nddl_parser.specs.declared.fault.ReadAllFault.{ReadAllFault}
use Rattle.nddl_parser.specs.declared.fault.ReadAllFault.TheVariants as all
use Rattle.nddl_parser.specs.Faults.{fault_kind}
use Rattle.nddl_parser.specs.Outcomes.{FilesOutcome, TellsOutcome, CountsReads, NoReadAfter}
use Rattle.nddl_parser.specs.Visits.{ReadsAll}
use Rattle.nddl_parser.specs.Language.{ReadsAs}
use Rattle.nddl_laws.specs.Given.{AreGiven}
use Rattle.nddl_problem.specs.Told.{IsCompiled, TellsFault}
use Rattle.plan_db.specs.Answers.{Held}
use Rattle.plan_db.specs.Database.{Database}
use Rattle.run_load.specs.declared.fault.PoseFault.{PoseFault}
use Rattle.run_load.specs.declared.fault.PoseFault.TheVariants as pose
use Rattle.run_load.specs.Posing.{undecided, Poses}
use Rattle.run_load.specs.Pieces.{TellsPosed, is_read_fault, answer_to, TakesAll, PosesModel, PosesRead, IsAnswerTo}

-- ---- the decisions of a model

module _ (model : Model) (new : Held) (result : Result Held PoseFault) where
  -- all were taken, or the first that may not be is answered
  from_start : (done : Result (Unit {0}) PoseFault) → MatchResult done (λ _. result ≡ Ok new) (λ fault. result ≡ Err fault)
      → TakesAll done (undecided model) model.problem.decisions new.database → TellsPosed (PosesModel model) result
  from_start (Ok done) is takes = subst (TellsPosed (PosesModel model)) (sym is) takes
  from_start (Err (pose.Text kind file at)) is wrong = subst (TellsPosed (PosesModel model)) (sym is) wrong
  from_start (Err pose.Read) is wrong = absurd wrong
  from_start (Err pose.Memory) is wrong = subst (TellsPosed (PosesModel model)) (sym is) tt

  pub model_posed : (old : Database) (done : Result (Unit {0}) PoseFault) → old ≡ undecided model
      → MatchResult done (λ _. result ≡ Ok new) (λ fault. result ≡ Err fault)
      → TakesAll done old old.model.problem.decisions new.database → TellsPosed (PosesModel model) result
  model_posed old done fresh is takes =
      from_start done is (subst (λ (d : Database). TakesAll done d d.model.problem.decisions new.database) fresh takes)

module _ (new : Held) (result : Result Held PoseFault) where
  -- what is so of the database is so of the one that is answered
  pub answered : (P : Held → Type 0) (done : Result (Unit {0}) PoseFault)
      → MatchResult done (λ _. result ≡ Ok new) (λ fault. result ≡ Err fault) → P new → IfOk result P
  answered P (Ok done) is so = subst (λ (r : Result Held PoseFault). IfOk r P) (sym is) so
  answered P (Err fault) is so = subst (λ (r : Result Held PoseFault). IfOk r P) (sym is) tt

  -- no call of the shelf failed
  pub none_failed : (done : Result (Unit {0}) PoseFault) (old : Database) (decisions : List Placed)
      → MatchResult done (λ _. result ≡ Ok new) (λ fault. result ≡ Err fault) → TakesAll done old decisions new.database
      → is_read_fault result ≡ false
  none_failed (Ok done) old decisions is takes = ap (λ (r : Result Held PoseFault). is_read_fault r) is
  none_failed (Err (pose.Text kind file at)) old decisions is wrong = ap (λ (r : Result Held PoseFault). is_read_fault r) is
  none_failed (Err pose.Read) old decisions is wrong = absurd wrong
  none_failed (Err pose.Memory) old decisions is wrong = ap (λ (r : Result Held PoseFault). is_read_fault r) is

-- ---- files that were read

pub compiled_posed : (read : List FileDecls) (model : Model) (result : Result Held PoseFault) → IsCompiled read model
    → TellsPosed (PosesModel model) result → TellsPosed (PosesRead read) result
compiled_posed read model (Ok held) compiled takes = (model, compiled, takes)
compiled_posed read model (Err (pose.Text kind file at)) compiled wrong = inr (model, compiled, wrong)
compiled_posed read model (Err pose.Read) compiled wrong = tt
compiled_posed read model (Err pose.Memory) compiled wrong = tt

pub fault_posed : (read : List FileDecls) (fault : TextFault) → TellsFault read fault → TellsPosed (PosesRead read) (Err (answer_to fault))
fault_posed read (texts.At kind file at) first = inl first
fault_posed read texts.Memory first = tt

pub fault_unread : (fault : TextFault) → is_read_fault {T = Held} (Err (answer_to fault)) ≡ false
fault_unread (texts.At kind file at) = refl
fault_unread texts.Memory = refl

-- ---- files

module _ (files : List FileEntry) (name : List ℕ) where
  posed_by : (read : List FileDecls) (result : Result Held PoseFault) → ReadsAll ReadsAs (Some files) name (Ok read)
      → TellsPosed (PosesRead read) result → TellsPosed (Poses files name) result
  posed_by read (Ok held) reads (model, compiled, takes) =
      record { read = read; reads = reads; model = model; compiled = compiled; takes = takes }
  posed_by read (Err (pose.Text kind file at)) reads (inl first) = inr (inl (record { read = read; reads = reads; first = first }))
  posed_by read (Err (pose.Text kind file at)) reads (inr (model, compiled, wrong)) = inr (inr (record {
    read = read;
    reads = reads;
    model = model;
    compiled = compiled;
    placed = wrong.0;
    first = wrong.1;
    file = wrong.2;
    at = wrong.3;
  }))
  posed_by read (Err pose.Read) reads wrong = tt
  posed_by read (Err pose.Memory) reads wrong = tt

pub read_posed : (shelf : Option (List FileEntry)) (files : List FileEntry) (name : List ℕ) (read : List FileDecls)
    (result : Result Held PoseFault) → shelf ≡ Some files → ReadsAll ReadsAs shelf name (Ok read) → TellsPosed (PosesRead read) result
    → TellsPosed (Poses files name) result
read_posed shelf files name read result told reads posed =
    posed_by files name read result (subst (λ (s : Option (List FileEntry)). ReadsAll ReadsAs s name (Ok read)) told reads) posed

-- what was read is given
pub given : (shelf : Option (List FileEntry)) (name : List ℕ) (read : List FileDecls) → ReadsAll ReadsAs shelf name (Ok read)
    → AreGiven read
given shelf name read reads = record { shelf = shelf; name = name; read = reads }

-- a fault with a kind is told
told_wrong : (Is : FilesOutcome → Type 0) (wrong : ReadAllFault) (kind : TextKind) → TellsOutcome Is (Err wrong)
    → fault_kind wrong ≡ Some kind → Is (Err wrong)
told_wrong Is all.ReadFault kind told is = absurd (let no : ⊥ = cc in no)
told_wrong Is all.Memory kind told is = absurd (let no : ⊥ = cc in no)
told_wrong Is wrong kind told is = told

module _ (files : List FileEntry) (name : List ℕ) (wrong : ReadAllFault) where
  fault_by : (fault : PoseFault) → TellsOutcome (ReadsAll ReadsAs (Some files) name) (Err wrong) → IsAnswerTo wrong fault
      → TellsPosed (Poses files name) (Err fault)
  fault_by (pose.Text kind file at) told is = inl (record {
    wrong = wrong;
    stops = told_wrong (ReadsAll ReadsAs (Some files) name) wrong kind told is.0;
    kind = is.0;
    file = is.1;
    at = is.2;
  })
  fault_by pose.Read told is = tt
  fault_by pose.Memory told is = tt

pub unread_posed : (shelf : Option (List FileEntry)) (files : List FileEntry) (name : List ℕ) (wrong : ReadAllFault) (fault : PoseFault)
    → shelf ≡ Some files → TellsOutcome (ReadsAll ReadsAs shelf name) (Err wrong) → IsAnswerTo wrong fault
    → TellsPosed (Poses files name) (Err fault)
unread_posed shelf files name wrong fault told stops is =
    fault_by files name wrong fault
    (subst (λ (s : Option (List FileEntry)). TellsOutcome (ReadsAll ReadsAs s name) (Err wrong)) told stops) is

-- ---- failed calls

pub counted_none : (result : Result Held PoseFault) (old new : ℕ) → new ≡ old → is_read_fault result ≡ false
    → new ≡ counted (is_read_fault result) old
counted_none result old new same none = same ∙ ap (λ b. counted b old) (sym none)

pub counted_wrong : (wrong : ReadAllFault) (fault : PoseFault) (old new : ℕ) → CountsReads {T = List FileDecls} (Err wrong) old new → IsAnswerTo wrong fault
    → new ≡ counted (is_read_fault {T = Held} (Err fault)) old
counted_wrong all.ReadFault (pose.Text kind file at) old new counts is = absurd (let kinds = is.0 in let no : ⊥ = cc in no)
counted_wrong all.ReadFault pose.Read old new counts is = counts
counted_wrong all.ReadFault pose.Memory old new counts is = absurd (is refl)
counted_wrong wrong (pose.Text kind file at) old new counts is = counts
counted_wrong wrong pose.Read old new counts is = absurd (let no : ⊥ = cc in no)
counted_wrong wrong pose.Memory old new counts is = counts

-- where no call of the shelf failed, nothing is said of the last one
pub last_none : (result : Result Held PoseFault) (last : Bool) → is_read_fault result ≡ false → NoneAfter (is_read_fault result) last
last_none result last none = subst (λ (b : Bool). NoneAfter b last) (sym none) tt

pub last_wrong : (wrong : ReadAllFault) (fault : PoseFault) (last : Bool) → NoReadAfter {T = List FileDecls} (Err wrong) last → IsAnswerTo wrong fault
    → NoneAfter (is_read_fault {T = Held} (Err fault)) last
last_wrong all.ReadFault (pose.Text kind file at) last stops is = tt
last_wrong all.ReadFault pose.Read last stops is = stops
last_wrong all.ReadFault pose.Memory last stops is = tt
last_wrong wrong (pose.Text kind file at) last stops is = tt
last_wrong wrong pose.Read last stops is = absurd (let no : ⊥ = cc in no)
last_wrong wrong pose.Memory last stops is = tt
