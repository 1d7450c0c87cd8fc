-- What is wrong with the rules of files, and with their problem, stands in one of them.
use Rattle.std.proofs.Common.{◌≡◌, ℕ, ◌<◌, List, length, Some, None, sym, ◌∙◌, ap, arith}
use Rattle.nddl_ast.specs.declared.declaration.FileDecls.{FileDecls}
use Rattle.nddl_symbols.specs.declared.fault.Fault.{Fault}
use Rattle.nddl_symbols.specs.Finding.{earliest_fault}
use Rattle.nddl_symbols.specs.Joined.{joined_decls, joined_sites}
use Rattle.nddl_symbols.specs.Names.{scope_names}
use Rattle.nddl_symbols.specs.Place.{file_of_place}
use Rattle.nddl_hierarchy.specs.Facts.{Facts}
use Rattle.nddl_rule_check.specs.Rules.{all_rule_faults}
use Rattle.nddl_rules.specs.Told.{file_trees}
use Rattle.nddl_types.specs.declared.table.TypeTable.{TypeTable}
use Rattle.nddl_laws.proofs.Placed.{place_has_file}
use Rattle.nddl_problem.specs.Compiled.{problem_fault}
use Rattle.nddl_problem.specs.Known.{known_by}
use Rattle.nddl_verdicts.specs.Verdicts.{AreFactsOf}
use Rattle.nddl_verdicts.proofs.Limiting.{IsInFile, problem_in}
use Rattle.nddl_verdicts.proofs.Making.{earliest_in, none_in}
use Rattle.nddl_verdicts.proofs.Placing.{rules_in}

-- one of the files holds the declaration
abbrev pub HasFile : List FileDecls → Fault → Type 0
HasFile files fault = (file : FileDecls) × (file_of_place files (joined_sites files) fault.place ≡ Some file)

module _ (files : List FileDecls) (facts : Facts) (are : AreFactsOf files facts) where
  all_filed : (number : ℕ) → number < length facts.program → IsInFile files number
  all_filed number less =
      let long : length facts.program ≡ length (joined_decls files) = ap length are.is_program in
      place_has_file files (record { decl = number; at = 0 }) (omega (arith, less, long))

  pub rule_filed : (fault : Fault) → earliest_fault None (all_rule_faults facts 0 facts.program) ≡ Some fault → HasFile files fault
  rule_filed fault is =
      earliest_in (IsInFile files) None (all_rule_faults facts 0 facts.program) (none_in (IsInFile files)) (rules_in (IsInFile files) facts all_filed) fault is

  pub problem_filed : (table : TypeTable) (fault : Fault) → problem_fault (known_by files facts table (file_trees table files)) ≡ Some fault → HasFile files fault
  problem_filed table fault is = problem_in files table facts (are.is_names ∙ ap scope_names (sym are.is_program)) all_filed fault is
