-- Files have a model or a first fault, but for those without an answer.
use Rattle.std.proofs.Common.{◌≡◌, ◌<◌, ◌^◌, ◌⊎◌, inl, inr, List, [], length, refl, sym, ◌∙◌, ap}
use Rattle.std.specs.Prelude.{Option, Some, None}
use Rattle.std.specs.Option.{option_and_then, option_map}
use Rattle.std.proofs.lemmas.Bool.{cases_lt}
use Rattle.model_core.specs.Lawful.{IsLawful}
use Rattle.nddl_ast.specs.declared.declaration.FileDecls.{FileDecls}
use Rattle.nddl_ast.specs.declared.fault.TextFault.{TextFault}
use Rattle.nddl_ast.specs.declared.fault.TextFault.TheVariants as texts
use Rattle.nddl_symbols.specs.declared.fault.Fault.{Fault}
use Rattle.nddl_symbols.specs.Finding.{earliest_fault}
use Rattle.nddl_symbols.specs.Joined.{joined_decls, joined_sites}
use Rattle.nddl_symbols.specs.Names.{scope_names}
use Rattle.nddl_symbols.specs.Place.{file_of_place}
use Rattle.nddl_hierarchy.specs.Facts.{Facts}
use Rattle.nddl_declarations.specs.Faults.{all_faults, told_fault}
use Rattle.nddl_rule_check.specs.Rules.{all_rule_faults}
use Rattle.nddl_rules.specs.Told.{file_trees}
use Rattle.nddl_types.specs.declared.table.TypeTable.{TypeTable}
use Rattle.nddl_types.specs.Classes.{classes_of, enums_of}
use Rattle.nddl_types.specs.Predicates.{preds_of}
use Rattle.nddl_types.specs.Scoped.{named_from}
use Rattle.nddl_types.specs.Table.{IsTable}
use Rattle.nddl_types.proofs.Answering.{none_found}
use Rattle.nddl_laws.proofs.Placed.{fault_has_file}
use Rattle.nddl_problem.specs.Compiled.{compiled_model, problem_fault}
use Rattle.nddl_problem.specs.Known.{known_by}
use Rattle.law_states.proofs.Denying.{is_or_not}
use Rattle.nddl_verdicts.specs.Verdicts.{AreFactsOf, AreTooMany, HasVerdict, HasNoVerdict, Ruled, known_ruled, FilesHaveVerdicts}
use Rattle.nddl_verdicts.proofs.Filed.{HasFile, problem_filed, rule_filed}
use Rattle.nddl_verdicts.proofs.Meanings.{programs_have_facts}

-- what is told of the fault, which stands in this file
abbrev told_in : Fault → FileDecls → TextFault
told_in fault file = texts.At fault.kind file.name fault.place.at

told_is : (files : List FileDecls) (first : Option Fault) (fault : Fault) (file : FileDecls) → first ≡ Some fault
    → file_of_place files (joined_sites files) fault.place ≡ Some file → Some (told_in fault file) ≡ option_and_then (told_fault files) first
told_is files first fault file is there =
    let told : told_fault files fault ≡ Some (told_in fault file) = ap (option_map (told_in fault)) there in
    sym (ap (option_and_then (told_fault files)) is ∙ told)

module _ (files : List FileDecls) (none : HasVerdict files ⊎ HasNoVerdict files → ⊥) where
  -- ---- the problem

  module _ (ruled : Ruled files) where
    problem_placed : (fault : Fault) → problem_fault (known_ruled files ruled) ≡ Some fault → ⊥
    problem_placed fault is =
        let same : problem_fault (known_ruled files ruled) ≡ problem_fault (known_by files ruled.facts ruled.table (file_trees ruled.table files)) =
        ap (λ trees. problem_fault (known_by files ruled.facts ruled.table trees)) ruled.are_trees.trees_are in
        let found : HasFile files fault = problem_filed files ruled.facts ruled.are ruled.table fault (sym same ∙ is) in
        none (inl (inr (
          fault.kind,
          (
            found.0.name,
            (
              fault.place.at,
              inr (inr (record {
                table = ruled.table;
                is_table = ruled.is_table;
                trees = ruled.trees;
                are_trees = ruled.are_trees;
                has = record { facts = ruled.facts; are = ruled.are; told = told_is files (problem_fault (known_ruled files ruled)) fault found.0 is found.1 };
              })),
            ),
          ),
        )))

    no_problem_fault : problem_fault (known_ruled files ruled) ≡ None → ⊥
    no_problem_fault fine = is_or_not (IsLawful (compiled_model (known_ruled files ruled))) (λ which. elim which [
      | inl lawful ↦ none (inl (inl (
        compiled_model (known_ruled files ruled),
        record {
          table = ruled.table;
          is_table = ruled.is_table;
          trees = ruled.trees;
          are_trees = ruled.are_trees;
          has = record { facts = ruled.facts; are = ruled.are; fine = fine; made = refl; lawful = lawful };
        },
      )))
      | inr unlawful ↦ none (inr (inr (record { ruled = ruled; fine = fine; unlawful = unlawful })))
    ])

    by_problem : (first : Option Fault) → problem_fault (known_ruled files ruled) ≡ first → ⊥
    by_problem (Some fault) is = problem_placed fault is
    by_problem None is = no_problem_fault is

  -- ---- rules

  module _ (facts : Facts) (are : AreFactsOf files facts) where
    module _ (table : TypeTable) (is_table : IsTable files table) where
      rule_placed : (fault : Fault) → earliest_fault None (all_rule_faults facts 0 facts.program) ≡ Some fault → ⊥
      rule_placed fault is =
          let found : HasFile files fault = rule_filed files facts are fault is in
          none (inl (inr (
            fault.kind,
            (
              found.0.name,
              (
                fault.place.at,
                inr (inl (record {
                  table = table;
                  is_table = is_table;
                  first = record { facts = facts; are = are; told = told_is files (earliest_fault None (all_rule_faults facts 0 facts.program)) fault found.0 is found.1 };
                })),
              ),
            ),
          )))

      by_rules : (first : Option Fault) → earliest_fault None (all_rule_faults facts 0 facts.program) ≡ first → ⊥
      by_rules (Some fault) is = rule_placed fault is
      by_rules None is =
          let ruled : Ruled files = record {
            table = table;
            is_table = is_table;
            trees = file_trees table files;
            are_trees = record { facts = facts; are = are; fine = none_found (all_rule_faults facts 0 facts.program) (sym is); trees_are = refl };
            facts = facts;
            are = are;
          } in
          by_problem ruled (problem_fault (known_ruled files ruled)) refl

    -- ---- names and types

    tabled : all_faults facts ≡ [] → length (classes_of facts (enums_of facts.program)) < 2 ^ 32 → length (preds_of facts (enums_of facts.program)) < 2 ^ 32 → ⊥
    tabled fine few_classes few_preds =
        let table : TypeTable = record {
          enums = enums_of facts.program;
          classes = classes_of facts (enums_of facts.program);
          preds = preds_of facts (enums_of facts.program);
          scope = named_from files (joined_sites files) facts.names 0 facts.names;
        } in
        let is_table : IsTable files table = record {
          facts = facts;
          are = are;
          fine = fine;
          entries = record {
            enums_are = refl;
            others = record { classes_are = refl; preds_are = refl; scope_is = refl; few_classes = few_classes; few_preds = few_preds };
          };
        } in
        by_rules table is_table (earliest_fault None (all_rule_faults facts 0 facts.program)) refl

    outgrown : all_faults facts ≡ [] → AreTooMany facts → ⊥
    outgrown fine many = none (inr (inl (record { facts = facts; are = are; fine = fine; many = many })))

    fine_types : all_faults facts ≡ [] → ⊥
    fine_types fine = elim (cases_lt (length (classes_of facts (enums_of facts.program))) (2 ^ 32)) [
      | inr many ↦ outgrown fine (inl many)
      | inl few ↦ elim (cases_lt (length (preds_of facts (enums_of facts.program))) (2 ^ 32)) [
        | inr many ↦ outgrown fine (inr many)
        | inl less ↦ tabled fine few less
      ]
    ]

    by_types : (first : Option Fault) → earliest_fault None (all_faults facts) ≡ first → ⊥
    by_types None is = fine_types (none_found (all_faults facts) (sym is))
    by_types (Some fault) is =
        let found = fault_has_file files fault (record { facts = facts; are = are; first = sym is }) in
        none (inl (inr (
          fault.kind,
          (
            found.0.name,
            (
              fault.place.at,
              inl (record {
                fault = Some fault;
                is_first = record { facts = facts; are = are; first = sym is };
                told = told_is files (Some fault) fault found.0 refl found.1;
              }),
            ),
          ),
        )))

pub files_have_verdicts : FilesHaveVerdicts
files_have_verdicts files none =
    programs_have_facts (scope_names (joined_decls files)) (joined_decls files) (λ found.
    by_types files none found.0 found.1 (earliest_fault None (all_faults found.0)) refl)
