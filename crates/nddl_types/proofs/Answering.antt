-- What is answered, from what is known.
use Rattle.std.proofs.Common.{◌≡◌, List, [], ◌∷◌, refl, sym, subst, Bool, true, false}
use Rattle.std.specs.Prelude.{Some, None, Result, Ok, Err, IfOk, if◌then◌else◌, MatchResult}
use Rattle.model_core.specs.declared.class.Enum.{Enum}
use Rattle.nddl_ast.specs.declared.declaration.FileDecls.{FileDecls}
use Rattle.nddl_symbols.specs.Joined.{joined_decls}
use Rattle.nddl_symbols.specs.declared.fault.Fault.{Fault}
use Rattle.nddl_symbols.specs.Finding.{earliest_fault, is_fault_before}
use Rattle.nddl_symbols.specs.Names.{scope_names}
use Rattle.nddl_hierarchy.specs.Facts.{Facts}
use Rattle.nddl_declarations.specs.Known.{AreFacts}
use Rattle.nddl_declarations.specs.Faults.{all_faults}
use Rattle.nddl_types.specs.declared.table.TypeTable.{TypeTable}
use Rattle.nddl_types.specs.declared.tabling.Parts.{Parts}
use Rattle.nddl_types.specs.Classes.{enums_of}
use Rattle.nddl_types.specs.Table.{AreEntries, HasEntries, TellsTypes}

-- once a fault is known, one stays known
stays_some : (fault : Fault) (faults : List Fault) → earliest_fault (Some fault) faults ≡ None → ⊥
stays_some fault [] none = cc
stays_some fault (next ∷ faults) none = by (is_fault_before next fault) none (λ kept. stays_some kept faults)
  where
    by : (b : Bool) → earliest_fault (if b then Some next else Some fault) faults ≡ None
        → ((kept : Fault) → earliest_fault (Some kept) faults ≡ None → ⊥) → ⊥
    by true none rest = rest next none
    by false none rest = rest fault none

-- where no fault is the earliest there is none
pub none_found : (faults : List Fault) → None ≡ earliest_fault None faults → faults ≡ []
none_found [] none = refl
none_found (fault ∷ faults) none = absurd (stays_some fault faults (sym none))

-- there is none
pub tells_table : (files : List FileDecls) (facts : Facts) (table : TypeTable)
    → AreFacts (scope_names (joined_decls files)) (joined_decls files) facts → None ≡ earliest_fault None (all_faults facts)
    → HasEntries files facts table → TellsTypes files (Ok table)
tells_table files facts table are none entries =
    record { facts = facts; are = are; fine = none_found (all_faults facts) none; entries = entries }

-- the enums and the other parts make a table
pub has_entries : {E : Type 0} (files : List FileDecls) (facts : Facts) (enums others : List Enum) (parts : Result Parts E) (r : Result TypeTable E)
    → enums ≡ enums_of facts.program → others ≡ enums
    → IfOk parts (λ found. AreEntries files facts others found.classes found.preds found.scope)
    → MatchResult parts
    (λ found. r ≡ Ok (record { enums = enums; classes = found.classes; preds = found.preds; scope = found.scope }))
    (λ fault. r ≡ Err fault)
    → IfOk r (HasEntries files facts)
has_entries {E = E} files facts enums others (Err fault) r are same found made =
    let P : Result TypeTable E → Type 0 = λ r. IfOk r (HasEntries files facts) in subst P (sym made) tt
has_entries {E = E} files facts enums others (Ok parts) r are same found made =
    let P : Result TypeTable E → Type 0 = λ r. IfOk r (HasEntries files facts) in
    let Q : List Enum → Type 0 = λ some. AreEntries files facts some parts.classes parts.preds parts.scope in
    subst P (sym made) (record { enums_are = are; others = subst Q same found })
