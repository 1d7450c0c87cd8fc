-- A file poses a database, or has a first fault.
use Rattle.std.proofs.Common.{ℕ, ◌+◌, ◌⊎◌, inl, inr, List, [], ◌∷◌, refl, ap}
use Rattle.std.specs.Prelude.{Some, Result, Ok, Err}
use Rattle.eu_io.specs.declared.shelf.FileEntry.{FileEntry}
use Rattle.law_states.specs.Undeniable.{Undeniable}
use Rattle.law_states.proofs.Settled.{admissible_or_refused}
use Rattle.model_core.specs.declared.model.Model.{Model}
use Rattle.model_core.specs.declared.model.Placed.{Placed}
use Rattle.model_core.specs.History.{standing}
use Rattle.nddl_ast.specs.declared.declaration.FileDecls.{FileDecls}
use Rattle.nddl_ast.specs.declared.kind.TextKind.{TextKind}
use Rattle.nddl_ast.specs.declared.kind.TextKind.TheVariants as kinds
use Rattle.nddl_parser.specs.declared.fault.ReadAllFault.{ReadAllFault}
use Rattle.nddl_parser.specs.Language.{ReadsAs}
use Rattle.nddl_parser.specs.Limits.{deepest}
use Rattle.nddl_parser.specs.Outcomes.{FilesOutcome}
use Rattle.nddl_parser.specs.Visits.{ReadsAll, first_ask}
use Rattle.nddl_parser.proofs.OneOutcome.{one_outcome}
use Rattle.nddl_parser.proofs.OneReading.{one_reading}
use Rattle.nddl_problem.specs.Told.{IsCompiled}
use Rattle.nddl_verdicts.specs.Verdicts.{HasVerdict}
use Rattle.nddl_verdicts.proofs.Judging.{files_have_verdicts}
use Rattle.plan_db.specs.Database.{Database, IsSound}
use Rattle.plan_defs.specs.Refusals.{IsAdmissible}
use Rattle.plan_defs.proofs.Histories.{accepted_is}
use Rattle.run_load.specs.Posing.{undecided, with_step, TakesText, IsTextDecisionFault, PosedFault, Poses}
use Rattle.session_core.proofs.Existing.{collapsed_or_least}
use Rattle.europa_outputs.specs.Outputs.{HasUnjudgedFiles, FilesPose}
use Rattle.europa_outputs.proofs.Reading.{posed_fault, told_fault, visits_kind}

-- ---- the decisions of a text

-- all decisions are taken, or there is a first that may not be
abbrev TakesOrStops : Database → List Placed → Type 0
TakesOrStops start decisions =
    ((end : Database) × TakesText start decisions end)
    ⊎ ((kind : TextKind) × ((placed : Placed) × IsTextDecisionFault start decisions kind placed))

one_taken : (start : Database) (first : Placed) (more : List Placed) → IsAdmissible start.model (standing start.history) first.decision
    → TakesOrStops (with_step start first.decision) more → TakesOrStops start (first ∷ more)
one_taken start first more may (inl whole) = inl (whole.0, (may, whole.1))
one_taken start first more may (inr stops) =
    let fault = stops.1.1 in
    inr (
      stops.0,
      (
        stops.1.0,
        record {
          before = first ∷ fault.before;
          behind = fault.behind;
          parts = ap (λ (l : List Placed). first ∷ l) fault.parts;
          there = fault.there;
          takes = (may, fault.takes);
          may_not = fault.may_not;
        },
      ),
    )

with_one : (start : Database) (first : Placed) → IsSound start → IsAdmissible start.model (standing start.history) first.decision → IsSound (with_step start first.decision)
with_one start first sound may = record {
  lawful = sound.lawful;
  history = accepted_is start.model start.history first.decision sound.history may;
}

text_taken : (start : Database) (decisions : List Placed) → IsSound start → Undeniable (TakesOrStops start decisions)
text_taken start [] sound none = none (inl (start, refl))
text_taken start (first ∷ more) sound none = collapsed_or_least start sound (λ which. elim which [
  | inl collapsed ↦ none (inr (kinds.AfterConflict, (first, record { before = []; behind = more; parts = refl; there = start; takes = refl; may_not = collapsed })))
  | inr least ↦ admissible_or_refused start.model (standing start.history) least.0 first.decision least.1 (λ answer. elim answer [
    | inl may ↦ text_taken (with_step start first.decision) more (with_one start first sound may) (λ rest. none (one_taken start first more may rest))
    | inr refused ↦ none (inr (kinds.NotAdmissible, (first, record { before = []; behind = more; parts = refl; there = start; takes = refl; may_not = refused })))
  ])
])

-- ---- files

module _ (files : List FileEntry) (name : List ℕ) (none : (posed : Result Database PosedFault) × Poses files name posed → ⊥) where
  module _ (read : List FileDecls) (reads : ReadsAll ReadsAs (Some files) name (Ok read)) where
    model_posed : (model : Model) → IsCompiled read model → ⊥
    model_posed model compiled =
        text_taken (undecided model) model.problem.decisions (record { lawful = compiled.has.lawful; history = refl }) (λ which. elim which [
          | inl whole ↦ none (Ok whole.0, record { read = read; reads = reads; model = model; compiled = compiled; takes = whole.1 })
          | inr stops ↦ none (
            Err (posed_fault stops.0 stops.1.0.file stops.1.0.at),
            inr (inr (record {
              read = read;
              reads = reads;
              model = model;
              compiled = compiled;
              placed = stops.1.0;
              first = stops.1.1;
              file = refl;
              at = refl;
            })),
          )
        ])

    verdict_posed : HasVerdict read → ⊥
    verdict_posed (inl compiled) = model_posed compiled.0 compiled.1
    verdict_posed (inr wrong) =
        none (Err (posed_fault wrong.0 wrong.1.0 wrong.1.1.0), inr (inl (record { read = read; reads = reads; first = wrong.1.1.1 })))

    read_posed : (HasUnjudgedFiles files name → ⊥) → ⊥
    read_posed judged = files_have_verdicts read (λ which. elim which [
      | inl verdict ↦ verdict_posed verdict
      | inr missing ↦ judged (read, (reads, missing))
    ])

  unread_posed : (wrong : ReadAllFault) → ReadsAll ReadsAs (Some files) name (Err wrong) → ⊥
  unread_posed wrong stops =
      let told = told_fault wrong (visits_kind (Some files) (deepest + 1) (first_ask name) [] wrong stops) in
      none (Err told.0, inl (record { wrong = wrong; stops = stops; kind = told.1.0; file = told.1.1; at = told.1.2 }))

  outcome_posed : (HasUnjudgedFiles files name → ⊥) → (outcome : FilesOutcome) → ReadsAll ReadsAs (Some files) name outcome → ⊥
  outcome_posed judged (Ok read) reads = read_posed read reads judged
  outcome_posed judged (Err wrong) stops = unread_posed wrong stops

pub files_pose : FilesPose
files_pose files name judged none =
    let found = one_outcome ReadsAs one_reading files name in
    outcome_posed files name none judged found.0 found.1.is
