-- Classes that add no members to a line have none of any name.
use Rattle.std.proofs.Common.{◌≡◌, ℕ, ◌+◌, Bool, false, List, [], ◌∷◌, refl, ◌∙◌, ap}
use Rattle.std.specs.Prelude.{Option, Some, None}
use Rattle.std.specs.List.{filter_map, position_from}
use Rattle.std.specs.Option.{option_map, option_map_or, option_or}
use Rattle.nddl_ast.specs.declared.declaration.Decl.{Decl}
use Rattle.nddl_ast.specs.declared.declaration.Member.{Member}
use Rattle.nddl_ast.specs.declared.declaration.Member.TheVariants as members
use Rattle.nddl_ast.specs.declared.declaration.Typed.{Typed}
use Rattle.nddl_symbols.specs.declared.declared.Declared.{Declared}
use Rattle.nddl_symbols.specs.declared.scope.Meaning.{Meaning}
use Rattle.nddl_symbols.specs.declared.scope.Meaning.TheVariants as meanings
use Rattle.nddl_hierarchy.specs.Ancestors.{above}
use Rattle.eu_forest.specs.Ancestors.{ancestry}
use Rattle.nddl_hierarchy.specs.Decls.{members_of}
use Rattle.nddl_hierarchy.specs.Facts.{Facts}
use Rattle.nddl_hierarchy.specs.Members.{is_predicate_named, member_field, named_typed}
use Rattle.nddl_hierarchy.specs.Shorter.{AddTheSame, adds_members, has_named, is_builtin_class}
use Rattle.nddl_hierarchy.proofs.Adding.{adds_none, any_same, found_same, none_named}
use Rattle.nddl_resolve.specs.declared.denoted.Denoted.{Denoted}
use Rattle.nddl_resolve.specs.declared.denoted.Predicate.TheVariants as predicates
use Rattle.nddl_resolve.specs.Fields.{class_field, field_along, is_given_along, is_given_field, line_field, number_field, type_value}
use Rattle.nddl_resolve.specs.Predicates.{builtin_if, class_predicate, is_given_pred, is_pred_given_along, line_predicate, predicate_along}

-- ---- fields

no_given_field : (name : List ℕ) (extended : Option Meaning) → is_builtin_class extended ≡ false → is_given_field name extended ≡ false
no_given_field name None is = refl
no_given_field name (Some (meanings.BuiltIn number)) is = absurd (cc)
no_given_field name (Some (meanings.Entry entry)) is = refl

no_field : (names : List Declared) (program : List Decl) (name : List ℕ) (entry : ℕ) → adds_members names program entry ≡ false
    → named_typed name (filter_map member_field (members_of names program entry)) ≡ None
no_field names program name entry is =
    let none = adds_none names program entry is in
    ap (named_typed name) (none_named member_field (λ name formals sets. refl) (members_of names program entry) none.none)

-- the same field is found along lines to which the same classes add members
pub field_same : (names : List Declared) (program : List Decl) (name : List ℕ) (one other : List ℕ) → AddTheSame names program one other
    → field_along names program name one ≡ field_along names program name other
field_same names program name =
    let own : ℕ → Option Typed = λ entry. named_typed name (filter_map member_field (members_of names program entry)) in
    found_same names program (field_along names program name) (λ entry rest. option_or (own entry) rest) (λ entry line. refl)
    (λ entry is rest. ap (λ found. option_or found rest) (no_field names program name entry is))

given_same : (names : List Declared) (program : List Decl) (name : List ℕ) (one other : List ℕ) → AddTheSame names program one other
    → is_given_along names program name one ≡ is_given_along names program name other
given_same names program name =
    any_same names program (λ entry. is_given_field name (above names program entry))
    (λ entry is. let none = adds_none names program entry is in no_given_field name (above names program entry) none.other)

pub line_field_same : (facts : Facts) (constant : Bool) (name : List ℕ) (entry : ℕ) (line read : List ℕ)
    → AddTheSame facts.names facts.program line (ancestry facts.parents entry) → read ≡ line
    → line_field facts constant name read ≡ class_field facts constant name (meanings.Entry entry)
line_field_same facts constant name entry line read same is =
    let all = ancestry facts.parents entry in
    let value : Typed → Option Denoted = λ typed. Some (type_value facts.names facts.known constant typed.declared) in
    ap (line_field facts constant name) is
    ∙ (ap (λ found. option_map_or value found (number_field constant (is_given_along facts.names facts.program name line)))
    (field_same facts.names facts.program name line all same)
    ∙ ap (λ given. option_map_or value (field_along facts.names facts.program name all) (number_field constant given))
    (given_same facts.names facts.program name line all same))

-- ---- predicates

no_given_pred : (name : List ℕ) (extended : Option Meaning) → is_builtin_class extended ≡ false → is_given_pred name extended ≡ false
no_given_pred name None is = refl
no_given_pred name (Some (meanings.BuiltIn number)) is = absurd (cc)
no_given_pred name (Some (meanings.Entry entry)) is = refl

none_placed : (name : List ℕ) (place : ℕ) (some : List Member) → has_named some ≡ false → position_from (is_predicate_named name) place some ≡ None
none_placed name place [] is = refl
none_placed name place (members.Field typed ∷ more) is = absurd (cc)
none_placed name place (members.Predicate at word parts ∷ more) is = absurd (cc)
none_placed name place (members.Constructor word formals sets ∷ more) is = none_placed name (place + 1) more is

predicate_same : (names : List Declared) (program : List Decl) (name : List ℕ) (one other : List ℕ) → AddTheSame names program one other
    → predicate_along names program name one ≡ predicate_along names program name other
predicate_same names program name =
    found_same names program (predicate_along names program name)
    (λ entry rest. option_or (option_map (predicates.Declared entry) (position_from (is_predicate_named name) 0 (members_of names program entry))) rest)
    (λ entry line. refl)
    (λ entry is rest. let none = adds_none names program entry is in
    ap (λ found. option_or (option_map (predicates.Declared entry) found) rest) (none_placed name 0 (members_of names program entry) none.none))

pred_given_same : (names : List Declared) (program : List Decl) (name : List ℕ) (one other : List ℕ) → AddTheSame names program one other
    → is_pred_given_along names program name one ≡ is_pred_given_along names program name other
pred_given_same names program name =
    any_same names program (λ entry. is_given_pred name (above names program entry))
    (λ entry is. let none = adds_none names program entry is in no_given_pred name (above names program entry) none.other)

pub line_predicate_same : (facts : Facts) (name : List ℕ) (entry : ℕ) (line read : List ℕ)
    → AddTheSame facts.names facts.program line (ancestry facts.parents entry) → read ≡ line
    → line_predicate facts.names facts.program name read ≡ class_predicate facts name (meanings.Entry entry)
line_predicate_same facts name entry line read same is =
    let all = ancestry facts.parents entry in
    ap (line_predicate facts.names facts.program name) is
    ∙ (ap (λ found. option_or found (builtin_if (is_pred_given_along facts.names facts.program name line)))
    (predicate_same facts.names facts.program name line all same)
    ∙ ap (λ given. option_or (predicate_along facts.names facts.program name all) (builtin_if given))
    (pred_given_same facts.names facts.program name line all same))
