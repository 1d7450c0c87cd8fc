-- What classes add to a line that add no members to it is nothing.
use Rattle.std.proofs.Common.{◌≡◌, ℕ, ◌++◌, false, List, [], refl, ◌∙◌, ap, map}
use Rattle.std.specs.Prelude.{Option, Some, None, Result, Ok, Err, IfOk, OnOk}
use Rattle.std.specs.List.{flat_map}
use Rattle.nddl_symbols.specs.declared.scope.Meaning.{Meaning}
use Rattle.nddl_symbols.specs.declared.scope.Meaning.TheVariants as meanings
use Rattle.nddl_hierarchy.specs.Ancestors.{above}
use Rattle.nddl_hierarchy.specs.Decls.{members_of}
use Rattle.nddl_hierarchy.specs.Shorter.{AddTheSame, adds_members, is_builtin_class}
use Rattle.nddl_hierarchy.proofs.Adding.{adds_none, flat_same, none_named}
use Rattle.nddl_types.specs.Classes.{class_number, given_fields, line_down}
use Rattle.nddl_types.specs.Predicates.{given_preds}
use Rattle.nddl_terms.specs.declared.lexicon.Attribute.{Attribute}
use Rattle.nddl_terms.specs.declared.lexicon.PredShape.{PredShape}
use Rattle.nddl_env.specs.Lexicons.{entry_pred_shapes, given_shape, member_shape, pred_shapes_at}
use Rattle.nddl_env.specs.Shapes.{World, attributes_at, entry_attributes, member_attribute, number_attribute}

no_given_fields : (extended : Option Meaning) → is_builtin_class extended ≡ false → map number_attribute (given_fields extended) ≡ []
no_given_fields None is = refl
no_given_fields (Some (meanings.BuiltIn number)) is = absurd (cc)
no_given_fields (Some (meanings.Entry entry)) is = refl

no_given_preds : (class : ℕ) (extended : Option Meaning) → is_builtin_class extended ≡ false → map given_shape (given_preds class extended) ≡ []
no_given_preds class None is = refl
no_given_preds class (Some (meanings.BuiltIn number)) is = absurd (cc)
no_given_preds class (Some (meanings.Entry entry)) is = refl

no_fields : (world : World) (entry : ℕ) → adds_members world.facts.names world.facts.program entry ≡ false → attributes_at world entry ≡ []
no_fields world entry is =
    let none = adds_none world.facts.names world.facts.program entry is in
    let extended = above world.facts.names world.facts.program entry in
    ap (λ some. map number_attribute (given_fields extended) ++ some)
    (none_named (member_attribute world) (λ name formals sets. refl) (members_of world.facts.names world.facts.program entry) none.none)
    ∙ ap (λ some. some ++ []) (no_given_fields extended none.other)

no_preds : (world : World) (class entry : ℕ) → adds_members world.facts.names world.facts.program entry ≡ false → pred_shapes_at world class entry ≡ []
no_preds world class entry is =
    let none = adds_none world.facts.names world.facts.program entry is in
    let extended = above world.facts.names world.facts.program entry in
    ap (λ some. map given_shape (given_preds class extended) ++ some)
    (none_named (member_shape world class) (λ name formals sets. refl) (members_of world.facts.names world.facts.program entry) none.none)
    ∙ ap (λ some. some ++ []) (no_given_preds class extended none.other)

-- the fields along a line to which the same classes add members are those of the class
pub same_attributes : {E : Type 0} (world : World) (entry : ℕ) (line read : List ℕ) (fields : Result (List Attribute) E)
    → AddTheSame world.facts.names world.facts.program line (line_down world.facts entry) → read ≡ line
    → IfOk fields (λ some. some ≡ flat_map (attributes_at world) read) → IfOk fields (λ some. some ≡ entry_attributes world entry)
same_attributes world entry line read (Err e) same is so_far = tt
same_attributes world entry line read (Ok fields) same is so_far =
    so_far
    ∙ (ap (flat_map (attributes_at world)) is
    ∙ flat_same world.facts.names world.facts.program (attributes_at world) (no_fields world) line (line_down world.facts entry) same)

-- and so are the predicates
pub same_shapes : {A E : Type 0} (world : World) (entry class : ℕ) (line read : List ℕ) (old new : List PredShape) (done : Result A E)
    → class ≡ class_number world.facts.names (meanings.Entry entry) → AddTheSame world.facts.names world.facts.program line (line_down world.facts entry)
    → read ≡ line → OnOk done (new ≡ old ++ flat_map (pred_shapes_at world class) read) → OnOk done (new ≡ old ++ entry_pred_shapes world entry)
same_shapes world entry class line read old new (Err e) is_class same is so_far = tt
same_shapes world entry class line read old new (Ok x) is_class same is so_far =
    so_far
    ∙ ap (λ some. old ++ some)
    (ap (flat_map (pred_shapes_at world class)) is
    ∙ (flat_same world.facts.names world.facts.program (pred_shapes_at world class) (no_preds world class) line (line_down world.facts entry) same
    ∙ ap (λ number. flat_map (pred_shapes_at world number) (line_down world.facts entry)) is_class))
