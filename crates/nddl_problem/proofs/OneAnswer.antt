-- Of the same files the same is answered.
use Rattle.std.proofs.Common.{◌≡◌, ℕ, List, refl, sym, ◌∙◌, ap, inl, inr}
use Rattle.std.specs.Prelude.{Some, None, Result, Ok, Err}
use Rattle.std.specs.Option.{option_and_then}
use Rattle.model_core.specs.declared.model.Model.{Model}
use Rattle.nddl_ast.specs.declared.declaration.FileDecls.{FileDecls}
use Rattle.nddl_ast.specs.declared.fault.TextFault.{TextFault}
use Rattle.nddl_ast.specs.declared.fault.TextFault.TheVariants as texts
use Rattle.nddl_ast.specs.declared.kind.TextKind.{TextKind}
use Rattle.nddl_symbols.specs.Joined.{joined_decls}
use Rattle.nddl_symbols.specs.Names.{scope_names}
use Rattle.nddl_hierarchy.specs.Facts.{Facts}
use Rattle.nddl_declarations.specs.Known.{AreFacts}
use Rattle.nddl_declarations.specs.Faults.{TellsFirst, told_fault}
use Rattle.nddl_types.specs.declared.table.TypeTable.{TypeTable}
use Rattle.nddl_types.specs.Table.{IsTable}
use Rattle.nddl_terms.specs.PlainTree.{PlainTree}
use Rattle.nddl_rules.specs.Told.{AreFileTrees, IsFirstRuleFault, file_trees}
use Rattle.nddl_laws.proofs.TypeAnswers as typed
use Rattle.nddl_laws.proofs.Knowledge.{one_facts}
use Rattle.nddl_laws.proofs.RuleAnswers as ruled
use Rattle.nddl_problem.specs.Compiled.{compiled_model, problem_fault}
use Rattle.nddl_problem.specs.Known.{known_by}
use Rattle.nddl_problem.specs.Told.{IsCompiled, IsFirstFault, IsFirstInProblem, TellsModel}

-- ---- names and types

same_tables : (files : List FileDecls) (one other : TypeTable) → IsTable files one → IsTable files other → one ≡ other
same_tables files one other is are =
    let same : Ok one ≡ Ok other = typed.one_answer files (Ok one) (Ok other) is are (λ e. cc) (λ e. cc) in
    let e : one ≡ other = cc in e

-- a table and a fault don't go together
not_both_typed : (files : List FileDecls) (table : TypeTable) (kind : TextKind) (file : List ℕ) (at : ℕ) → IsTable files table
    → TellsFirst files (Some (texts.At kind file at)) → ⊥
not_both_typed files table kind file at is are =
    let same : Ok table ≡ Err (texts.At kind file at) =
    typed.one_answer files (Ok table) (Err (texts.At kind file at)) is are (λ e. cc) (λ e. cc) in cc

one_typed : (files : List FileDecls) (kind name : TextKind) (file other : List ℕ) (at place : ℕ)
    → TellsFirst files (Some (texts.At kind file at)) → TellsFirst files (Some (texts.At name other place))
    → texts.At kind file at ≡ texts.At name other place
one_typed files kind name file other at place is are =
    let one : Result TypeTable TextFault = Err (texts.At kind file at) in
    let second : Result TypeTable TextFault = Err (texts.At name other place) in
    let same : one ≡ second = typed.one_answer files one second is are (λ e. cc) (λ e. cc) in
    let e : texts.At kind file at ≡ texts.At name other place = cc in e

-- ---- rules

same_trees : (files : List FileDecls) (table second : TypeTable) (one other : List PlainTree) → table ≡ second
    → AreFileTrees table files one → AreFileTrees second files other → one ≡ other
same_trees files table second one other same is are =
    is.trees_are ∙ (ap (λ table. file_trees table files) same ∙ sym are.trees_are)

-- trees and a fault don't go together
not_both_ruled : (files : List FileDecls) (table : TypeTable) (trees : List PlainTree) (kind : TextKind) (file : List ℕ) (at : ℕ)
    → AreFileTrees table files trees → IsFirstRuleFault files (texts.At kind file at) → ⊥
not_both_ruled files table trees kind file at is are =
    let same : Ok trees ≡ Err (texts.At kind file at) =
    ruled.one_answer table files (Ok trees) (Err (texts.At kind file at)) is are (λ e. cc) (λ e. cc) in cc

one_ruled : (files : List FileDecls) (table : TypeTable) (kind name : TextKind) (file other : List ℕ) (at place : ℕ)
    → IsFirstRuleFault files (texts.At kind file at) → IsFirstRuleFault files (texts.At name other place)
    → texts.At kind file at ≡ texts.At name other place
one_ruled files table kind name file other at place is are =
    let one : Result (List PlainTree) TextFault = Err (texts.At kind file at) in
    let second : Result (List PlainTree) TextFault = Err (texts.At name other place) in
    let same : one ≡ second = ruled.one_answer table files one second is are (λ e. cc) (λ e. cc) in
    let e : texts.At kind file at ≡ texts.At name other place = cc in e

-- ---- the problem

same_known : (files : List FileDecls) (one other : Facts) (table second : TypeTable) (trees more : List PlainTree)
    → AreFacts (scope_names (joined_decls files)) (joined_decls files) one
    → AreFacts (scope_names (joined_decls files)) (joined_decls files) other → table ≡ second → trees ≡ more
    → known_by files one table trees ≡ known_by files other second more
same_known files one other table second trees more is are tables same =
    let facts = one_facts (scope_names (joined_decls files)) (joined_decls files) one other is are in
    ap (λ f. known_by files f table trees) facts
    ∙ (ap (λ t. known_by files other t trees) tables ∙ ap (known_by files other second) same)

one_model : (files : List FileDecls) (one other : Model) → IsCompiled files one → IsCompiled files other → one ≡ other
one_model files one other is are =
    let tables = same_tables files is.table are.table is.is_table are.is_table in
    let trees = same_trees files is.table are.table is.trees are.trees tables is.are_trees are.are_trees in
    let known = same_known files is.has.facts are.has.facts is.table are.table is.trees are.trees is.has.are are.has.are tables trees in
    is.has.made ∙ (ap compiled_model known ∙ sym are.has.made)

-- the same is wrong first with the problem
same_fault : (files : List FileDecls) (one other : Facts) (table second : TypeTable) (trees more : List PlainTree)
    → AreFacts (scope_names (joined_decls files)) (joined_decls files) one
    → AreFacts (scope_names (joined_decls files)) (joined_decls files) other → IsTable files table → IsTable files second
    → AreFileTrees table files trees → AreFileTrees second files more
    → problem_fault (known_by files one table trees) ≡ problem_fault (known_by files other second more)
same_fault files one other table second trees more is are tabled other_table treed other_trees =
    let tables = same_tables files table second tabled other_table in
    let same = same_trees files table second trees more tables treed other_trees in
    ap problem_fault (same_known files one other table second trees more is are tables same)

not_both_posed : (files : List FileDecls) (model : Model) (fault : TextFault) → IsCompiled files model → IsFirstInProblem files fault → ⊥
not_both_posed files model fault is are =
    let same = same_fault files is.has.facts are.has.facts is.table are.table is.trees are.trees is.has.are are.has.are
    is.is_table are.is_table is.are_trees are.are_trees in
    let e : Some fault ≡ None = are.has.told ∙ ap (option_and_then (told_fault files)) (sym same ∙ is.has.fine) in cc

one_posed : (files : List FileDecls) (one other : TextFault) → IsFirstInProblem files one → IsFirstInProblem files other → one ≡ other
one_posed files one other is are =
    let same = same_fault files is.has.facts are.has.facts is.table are.table is.trees are.trees is.has.are are.has.are
    is.is_table are.is_table is.are_trees are.are_trees in
    let e : Some one ≡ Some other = is.has.told ∙ (ap (option_and_then (told_fault files)) same ∙ sym are.has.told) in
    let found : one ≡ other = cc in found

-- ---- all stages

not_both : (files : List FileDecls) (model : Model) (kind : TextKind) (file : List ℕ) (at : ℕ) → IsCompiled files model
    → IsFirstFault files (texts.At kind file at) → ⊥
not_both files model kind file at is (inl typed_fault) = not_both_typed files is.table kind file at is.is_table typed_fault
not_both files model kind file at is (inr (inl ruled_fault)) =
    not_both_ruled files is.table is.trees kind file at is.are_trees ruled_fault.first
not_both files model kind file at is (inr (inr posed)) = not_both_posed files model (texts.At kind file at) is posed

one_fault : (files : List FileDecls) (kind name : TextKind) (file other : List ℕ) (at place : ℕ)
    → IsFirstFault files (texts.At kind file at) → IsFirstFault files (texts.At name other place)
    → texts.At kind file at ≡ texts.At name other place
one_fault files kind name file other at place (inl one) (inl two) = one_typed files kind name file other at place one two
one_fault files kind name file other at place (inl one) (inr (inl two)) =
    absurd (not_both_typed files two.table kind file at two.is_table one)
one_fault files kind name file other at place (inl one) (inr (inr two)) =
    absurd (not_both_typed files two.table kind file at two.is_table one)
one_fault files kind name file other at place (inr (inl one)) (inl two) =
    absurd (not_both_typed files one.table name other place one.is_table two)
one_fault files kind name file other at place (inr (inl one)) (inr (inl two)) =
    one_ruled files one.table kind name file other at place one.first two.first
one_fault files kind name file other at place (inr (inl one)) (inr (inr two)) =
    absurd (not_both_ruled files two.table two.trees kind file at two.are_trees one.first)
one_fault files kind name file other at place (inr (inr one)) (inl two) =
    absurd (not_both_typed files one.table name other place one.is_table two)
one_fault files kind name file other at place (inr (inr one)) (inr (inl two)) =
    absurd (not_both_ruled files one.table one.trees name other place one.are_trees two.first)
one_fault files kind name file other at place (inr (inr one)) (inr (inr two)) =
    one_posed files (texts.At kind file at) (texts.At name other place) one two

pub one_answer : (files : List FileDecls) (one other : Result Model TextFault) → TellsModel files one → TellsModel files other
    → (one ≡ Err texts.Memory → ⊥) → (other ≡ Err texts.Memory → ⊥) → one ≡ other
one_answer files (Ok one) (Ok other) is are said told = ap Ok (one_model files one other is are)
one_answer files (Ok one) (Err (texts.At kind file at)) is are said told = absurd (not_both files one kind file at is are)
one_answer files (Err (texts.At kind file at)) (Ok other) is are said told = absurd (not_both files other kind file at are is)
one_answer files (Err (texts.At kind file at)) (Err (texts.At name other place)) is are said told =
    ap Err (one_fault files kind name file other at place is are)
one_answer files (Err texts.Memory) other is are said told = absurd (said refl)
one_answer files (Ok one) (Err texts.Memory) is are said told = absurd (told refl)
one_answer files (Err (texts.At kind file at)) (Err texts.Memory) is are said told = absurd (told refl)
