-- Of the same files the same is answered.
use Rattle.std.proofs.Common.{◌≡◌, List, refl, sym, ◌∙◌, ap}
use Rattle.std.specs.Prelude.{Option, Some, None, Result, Ok, Err}
use Rattle.std.specs.Option.{option_and_then}
use Rattle.nddl_ast.specs.declared.declaration.FileDecls.{FileDecls}
use Rattle.nddl_ast.specs.declared.fault.TextFault.{TextFault}
use Rattle.nddl_ast.specs.declared.fault.TextFault.TheVariants as texts
use Rattle.nddl_symbols.specs.Joined.{joined_decls, joined_sites}
use Rattle.nddl_symbols.specs.Finding.{earliest_fault}
use Rattle.nddl_symbols.specs.Names.{scope_names}
use Rattle.nddl_hierarchy.specs.Facts.{Facts}
use Rattle.nddl_declarations.specs.Faults.{TellsFirst, all_faults, told_fault}
use Rattle.nddl_types.specs.declared.table.TypeTable.{TypeTable}
use Rattle.nddl_types.specs.Classes.{classes_of, enums_of}
use Rattle.nddl_types.specs.Predicates.{preds_of}
use Rattle.nddl_types.specs.Scoped.{named_from}
use Rattle.nddl_types.specs.Table.{HasEntries, IsTable, TellsTypes}
use Rattle.nddl_laws.proofs.Knowledge.{one_facts}

-- a table has what its facts say
table_of : List FileDecls → Facts → TypeTable
table_of files facts =
    record {
      enums = enums_of facts.program;
      classes = classes_of facts (enums_of facts.program);
      preds = preds_of facts (enums_of facts.program);
      scope = named_from files (joined_sites files) facts.names 0 facts.names;
    }

table_is : (files : List FileDecls) (facts : Facts) (table : TypeTable) → HasEntries files facts table → table ≡ table_of files facts
unfolding table_of
table_is files facts table has = λ i.
    record {
      enums = has.enums_are i;
      classes = (has.others.classes_are ∙ ap (classes_of facts) has.enums_are) i;
      preds = (has.others.preds_are ∙ ap (preds_of facts) has.enums_are) i;
      scope = has.others.scope_is i;
    }

one_table : (files : List FileDecls) (one other : TypeTable) → IsTable files one → IsTable files other → one ≡ other
one_table files one other is are =
    let facts = one_facts (scope_names (joined_decls files)) (joined_decls files) is.facts are.facts is.are are.are in
    table_is files is.facts one is.entries ∙ (ap (table_of files) facts ∙ sym (table_is files are.facts other are.entries))

one_first : (files : List FileDecls) (one other : Option TextFault) → TellsFirst files one → TellsFirst files other → one ≡ other
one_first files one other is are =
    let facts = one_facts (scope_names (joined_decls files)) (joined_decls files) is.is_first.facts are.is_first.facts is.is_first.are are.is_first.are in
    let fault : is.fault ≡ are.fault = is.is_first.first ∙ (ap (λ f. earliest_fault None (all_faults f)) facts ∙ sym are.is_first.first) in
    is.told ∙ (ap (option_and_then (told_fault files)) fault ∙ sym are.told)

-- a table and a fault don't go together
table_or_fault : (files : List FileDecls) (table : TypeTable) (fault : TextFault) → IsTable files table → TellsFirst files (Some fault) → ⊥
table_or_fault files table fault is are =
    let facts = one_facts (scope_names (joined_decls files)) (joined_decls files) is.facts are.is_first.facts is.are are.is_first.are in
    let none : are.fault ≡ None =
    are.is_first.first ∙ ap (earliest_fault None) (sym (ap all_faults facts) ∙ is.fine) in
    let e : Some fault ≡ None = are.told ∙ ap (option_and_then (told_fault files)) none in cc

pub one_answer : (files : List FileDecls) (one other : Result TypeTable TextFault) → TellsTypes files one → TellsTypes files other
    → (one ≡ Err texts.Memory → ⊥) → (other ≡ Err texts.Memory → ⊥) → one ≡ other
one_answer files (Ok one) (Ok other) is are said told = ap Ok (one_table files one other is are)
one_answer files (Ok one) (Err (texts.At kind file at)) is are said told = absurd (table_or_fault files one (texts.At kind file at) is are)
one_answer files (Err (texts.At kind file at)) (Ok other) is are said told = absurd (table_or_fault files other (texts.At kind file at) are is)
one_answer files (Err (texts.At kind file at)) (Err (texts.At other name place)) is are said told =
    let same = one_first files (Some (texts.At kind file at)) (Some (texts.At other name place)) is are in
    ap Err (let e : texts.At kind file at ≡ texts.At other name place = cc in e)
one_answer files (Err texts.Memory) other is are said told = absurd (said refl)
one_answer files (Ok one) (Err texts.Memory) is are said told = absurd (told refl)
one_answer files (Err (texts.At kind file at)) (Err texts.Memory) is are said told = absurd (told refl)
