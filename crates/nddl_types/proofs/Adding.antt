-- What classes add to a line that add no members to it is nothing.
use Rattle.std.proofs.Common.{◌≡◌, ℕ, ◌++◌, false, List, [], refl, ◌∙◌, ap}
use Rattle.std.specs.Prelude.{Option, Some, None, Result, Ok, Err, IfOk, OnOk}
use Rattle.std.specs.List.{flat_map}
use Rattle.model_core.specs.declared.class.Enum.{Enum}
use Rattle.model_core.specs.declared.class.Pred.{Pred}
use Rattle.model_core.specs.declared.variable.VarDecl.{VarDecl}
use Rattle.nddl_symbols.specs.declared.scope.Meaning.{Meaning}
use Rattle.nddl_symbols.specs.declared.scope.Meaning.TheVariants as meanings
use Rattle.nddl_hierarchy.specs.Ancestors.{above}
use Rattle.nddl_hierarchy.specs.Facts.{Facts}
use Rattle.nddl_hierarchy.specs.Members.{member_field}
use Rattle.nddl_declarations.specs.Declares.{variables_of}
use Rattle.nddl_hierarchy.specs.Decls.{members_of}
use Rattle.nddl_hierarchy.specs.Shorter.{AddTheSame, adds_members, is_builtin_class}
use Rattle.nddl_hierarchy.proofs.Adding.{adds_none, flat_same, none_named}
use Rattle.nddl_types.specs.Classes.{class_fields, class_number, fields_at, given_fields, line_down}
use Rattle.nddl_types.specs.Predicates.{class_preds, given_preds, pred_of, preds_at}

no_given_fields : (extended : Option Meaning) → is_builtin_class extended ≡ false → given_fields extended ≡ []
no_given_fields None is = refl
no_given_fields (Some (meanings.BuiltIn number)) is = absurd (cc)
no_given_fields (Some (meanings.Entry entry)) is = refl

no_given_preds : (class : ℕ) (extended : Option Meaning) → is_builtin_class extended ≡ false → given_preds class extended ≡ []
no_given_preds class None is = refl
no_given_preds class (Some (meanings.BuiltIn number)) is = absurd (cc)
no_given_preds class (Some (meanings.Entry entry)) is = refl

no_fields : (facts : Facts) (enums : List Enum) (entry : ℕ) → adds_members facts.names facts.program entry ≡ false → fields_at facts enums entry ≡ []
no_fields facts enums entry is =
    let none = adds_none facts.names facts.program entry is in
    ap (λ some. given_fields (above facts.names facts.program entry) ++ variables_of facts enums some)
    (none_named member_field (λ name formals sets. refl) (members_of facts.names facts.program entry) none.none)
    ∙ ap (λ some. some ++ []) (no_given_fields (above facts.names facts.program entry) none.other)

no_preds : (facts : Facts) (enums : List Enum) (class entry : ℕ) → adds_members facts.names facts.program entry ≡ false
    → preds_at facts enums class entry ≡ []
no_preds facts enums class entry is =
    let none = adds_none facts.names facts.program entry is in
    ap (λ some. given_preds class (above facts.names facts.program entry) ++ some)
    (none_named (pred_of facts enums class) (λ name formals sets. refl) (members_of facts.names facts.program entry) none.none)
    ∙ ap (λ some. some ++ []) (no_given_preds class (above facts.names facts.program entry) none.other)

-- the fields along a line to which the same classes add members are those of the class
pub same_fields : {E : Type 0} (facts : Facts) (enums : List Enum) (entry : ℕ) (line read : List ℕ) (fields : Result (List VarDecl) E)
    → AddTheSame facts.names facts.program line (line_down facts entry) → read ≡ line
    → IfOk fields (λ some. some ≡ flat_map (fields_at facts enums) read) → IfOk fields (λ some. some ≡ class_fields facts enums entry)
same_fields facts enums entry line read (Err e) same is so_far = tt
same_fields facts enums entry line read (Ok fields) same is so_far =
    so_far
    ∙ (ap (flat_map (fields_at facts enums)) is
    ∙ flat_same facts.names facts.program (fields_at facts enums) (no_fields facts enums) line (line_down facts entry) same)

-- and so are the predicates
pub same_preds : {A E : Type 0} (facts : Facts) (enums : List Enum) (entry class : ℕ) (line read : List ℕ) (old new : List Pred) (done : Result A E)
    → class ≡ class_number facts.names (meanings.Entry entry) → AddTheSame facts.names facts.program line (line_down facts entry) → read ≡ line
    → OnOk done (new ≡ old ++ flat_map (preds_at facts enums class) read) → OnOk done (new ≡ old ++ class_preds facts enums entry)
same_preds facts enums entry class line read old new (Err e) is_class same is so_far = tt
same_preds facts enums entry class line read old new (Ok x) is_class same is so_far =
    so_far
    ∙ ap (λ some. old ++ some)
    (ap (flat_map (preds_at facts enums class)) is
    ∙ (flat_same facts.names facts.program (preds_at facts enums class) (no_preds facts enums class) line (line_down facts entry) same
    ∙ ap (λ number. flat_map (preds_at facts enums number) (line_down facts entry)) is_class))
