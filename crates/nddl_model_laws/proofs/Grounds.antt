-- What is known of a program with which nothing is wrong.
use Rattle.std.proofs.Common.{◌≡◌, List, [], ◌∷◌, refl, sym, ◌∙◌, ap, subst}
use Rattle.std.specs.Prelude.{Option, Some, None, All, Bool, true, false, if◌then◌else◌}
use Rattle.std.proofs.lemmas.List.Elements.{All-weaker}
use Rattle.model_core.specs.declared.model.Model.{Model}
use Rattle.model_core.specs.Lawful.{IsLawfulEnum}
use Rattle.nddl_ast.specs.declared.declaration.Decl.{Decl}
use Rattle.nddl_symbols.specs.Finding.{earliest_fault, is_fault_before}
use Rattle.nddl_symbols.specs.Joined.{joined_decls}
use Rattle.nddl_symbols.specs.Names.{scope_names}
use Rattle.nddl_symbols.specs.declared.fault.Fault.{Fault}
use Rattle.nddl_hierarchy.specs.Facts.{Facts}
use Rattle.nddl_declarations.specs.Known.{AreFacts}
use Rattle.nddl_declarations.specs.Faults.{all_faults}
use Rattle.nddl_types.specs.Classes.{classes_of, enums_of}
use Rattle.nddl_types.specs.Predicates.{preds_of}
use Rattle.nddl_types.proofs.Answering.{none_found}
use Rattle.nddl_objects.specs.Objects.{progress_fault}
use Rattle.nddl_laws.specs.Fine.{IsFineDecl}
use Rattle.nddl_laws.specs.Tables.{HasTable}
use Rattle.nddl_laws.proofs.Declared.{IsRightDecl, enums_right, right_program}
use Rattle.nddl_laws.proofs.Knowledge.{one_facts}
use Rattle.nddl_problem.specs.Compiled.{problem_faults}
use Rattle.nddl_problem.specs.Known.{Known, progress_known}
use Rattle.nddl_model_laws.specs.Faultless.{IsFaultless}

-- where the earliest fault is none, there was none before and there is none
stays_some : (fault : Fault) (faults : List Fault) → earliest_fault (Some fault) faults ≡ None → ⊥
stays_some fault [] none = cc
stays_some fault (next ∷ faults) none = by (is_fault_before next fault) none (λ kept. stays_some kept faults)
  where
    by : (b : Bool) → earliest_fault (if b then Some next else Some fault) faults ≡ None
        → ((kept : Fault) → earliest_fault (Some kept) faults ≡ None → ⊥) → ⊥
    by true none rest = rest next none
    by false none rest = rest fault none

pub none_before : (first : Option Fault) (faults : List Fault) → earliest_fault first faults ≡ None → (first ≡ None) × (faults ≡ [])
none_before None faults none = (refl, none_found faults (sym none))
none_before (Some fault) faults none = absurd (stays_some fault faults none)

module _ (known : Known) (is : IsFaultless known) where
  -- nothing is wrong with its objects, nor with the rest of its problem
  pub objects_fine : progress_fault (progress_known known) ≡ None
  objects_fine = (none_before (progress_fault (progress_known known)) (problem_faults known) is.fine).0

  pub problem_fine : problem_faults known ≡ []
  problem_fine = (none_before (progress_fault (progress_known known)) (problem_faults known) is.fine).1

  same_facts : is.is_table.facts ≡ known.facts
  same_facts = one_facts (scope_names (joined_decls known.files)) (joined_decls known.files) is.is_table.facts known.facts is.is_table.are is.are

  pub known_are : AreFacts (scope_names known.facts.program) known.facts.program known.facts
  known_are =
      let P : List Decl → Type 0 = λ program. AreFacts (scope_names program) program known.facts in
      subst P (sym is.are.is_program) is.are

  pub known_fine : all_faults known.facts ≡ []
  known_fine = subst (λ (facts : Facts). all_faults facts ≡ []) same_facts is.is_table.fine

  pub known_right : All (IsRightDecl known.facts) known.facts.program
  known_right = right_program known.files known.facts is.are.is_program known_fine is.given

  pub known_decls : All IsFineDecl known.facts.program
  known_decls = All-weaker (IsRightDecl known.facts) IsFineDecl (λ decl one. one.fine) known.facts.program known_right

  pub table_enums : known.table.enums ≡ enums_of known.facts.program
  table_enums = is.is_table.entries.enums_are ∙ ap (λ (facts : Facts). enums_of facts.program) same_facts

  pub table_classes : known.table.classes ≡ classes_of known.facts (enums_of known.facts.program)
  table_classes = is.is_table.entries.others.classes_are ∙ (λ i. classes_of (same_facts i) (table_enums i))

  pub table_preds : known.table.preds ≡ preds_of known.facts known.table.enums
  table_preds = is.is_table.entries.others.preds_are ∙ ap (λ (facts : Facts). preds_of facts known.table.enums) same_facts

  pub table_lawful : All IsLawfulEnum known.table.enums
  table_lawful = subst (All IsLawfulEnum) (sym table_enums) (enums_right known.facts known.facts.program known_right)

  -- a model with this table
  pub tabled : (model : Model) → model.enums ≡ known.table.enums → model.classes ≡ known.table.classes → model.preds ≡ known.table.preds
      → HasTable known.files known.table model
  tabled model enums classes preds = record { given = is.given; is_table = is.is_table; enums = enums; classes = classes; preds = preds }
