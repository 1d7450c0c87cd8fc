-- Of the rules of the same files the same is answered.
use Rattle.std.proofs.Common.{◌≡◌, List, [], refl, sym, ◌∙◌, ap}
use Rattle.std.specs.Prelude.{Some, None, Result, Ok, Err}
use Rattle.std.specs.Option.{option_and_then}
use Rattle.nddl_ast.specs.declared.declaration.FileDecls.{FileDecls}
use Rattle.nddl_ast.specs.declared.fault.TextFault.{TextFault}
use Rattle.nddl_ast.specs.declared.fault.TextFault.TheVariants as texts
use Rattle.nddl_symbols.specs.Joined.{joined_decls}
use Rattle.nddl_symbols.specs.declared.fault.Fault.{Fault}
use Rattle.nddl_symbols.specs.Finding.{earliest_fault}
use Rattle.nddl_symbols.specs.Names.{scope_names}
use Rattle.nddl_hierarchy.specs.Facts.{Facts}
use Rattle.nddl_declarations.specs.Known.{AreFacts}
use Rattle.nddl_declarations.specs.Faults.{told_fault}
use Rattle.nddl_types.specs.declared.table.TypeTable.{TypeTable}
use Rattle.nddl_terms.specs.PlainTree.{PlainTree}
use Rattle.nddl_rule_check.specs.Rules.{all_rule_faults}
use Rattle.nddl_rules.specs.Told.{AreFileTrees, IsFirstRuleFault}
use Rattle.nddl_laws.proofs.Knowledge.{one_facts}
use Rattle.nddl_laws.specs.RuleOutcomes.{TellsRules}

-- what is wrong with the rules of a program
abbrev wrong_rules : Facts → List Fault
wrong_rules facts = all_rule_faults facts 0 facts.program

-- what is known of the files of two answers is one thing, so the same is wrong with their rules
same_wrong : (files : List FileDecls) (one other : Facts) → AreFacts (scope_names (joined_decls files)) (joined_decls files) one
    → AreFacts (scope_names (joined_decls files)) (joined_decls files) other → wrong_rules one ≡ wrong_rules other
same_wrong files one other is are =
    ap wrong_rules (one_facts (scope_names (joined_decls files)) (joined_decls files) one other is are)

one_first : (files : List FileDecls) (one other : TextFault) → IsFirstRuleFault files one → IsFirstRuleFault files other
    → Some one ≡ Some other
one_first files one other is are =
    is.told
    ∙ (ap (λ faults. option_and_then (told_fault files) (earliest_fault None faults)) (same_wrong files is.facts are.facts is.are are.are)
    ∙ sym are.told)

-- trees and a fault don't go together
trees_or_fault : (table : TypeTable) (files : List FileDecls) (trees : List PlainTree) (fault : TextFault) → AreFileTrees table files trees
    → IsFirstRuleFault files fault → ⊥
trees_or_fault table files trees fault is are =
    let nothing : wrong_rules are.facts ≡ [] = sym (same_wrong files is.facts are.facts is.are are.are) ∙ is.fine in
    let e : Some fault ≡ None = are.told ∙ ap (λ faults. option_and_then (told_fault files) (earliest_fault None faults)) nothing in
    cc

pub one_answer : (table : TypeTable) (files : List FileDecls) (one other : Result (List PlainTree) TextFault) → TellsRules table files one
    → TellsRules table files other → (one ≡ Err texts.Memory → ⊥) → (other ≡ Err texts.Memory → ⊥) → one ≡ other
one_answer table files (Ok one) (Ok other) is are said told = ap Ok (is.trees_are ∙ sym are.trees_are)
one_answer table files (Ok one) (Err (texts.At kind file at)) is are said told =
    absurd (trees_or_fault table files one (texts.At kind file at) is are)
one_answer table files (Err (texts.At kind file at)) (Ok other) is are said told =
    absurd (trees_or_fault table files other (texts.At kind file at) are is)
one_answer table files (Err (texts.At kind file at)) (Err (texts.At other name place)) is are said told =
    let same = one_first files (texts.At kind file at) (texts.At other name place) is are in
    ap Err (let e : texts.At kind file at ≡ texts.At other name place = cc in e)
one_answer table files (Err texts.Memory) other is are said told = absurd (said refl)
one_answer table files (Ok one) (Err texts.Memory) is are said told = absurd (told refl)
one_answer table files (Err (texts.At kind file at)) (Err texts.Memory) is are said told = absurd (told refl)
