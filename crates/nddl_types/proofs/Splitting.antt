-- Lists of variables that are made one after another.
use Rattle.std.proofs.Common.{◌≡◌, ℕ, ◌+◌, ◌<◌, List, [], ◌∷◌, ◌++◌, length, drop, get_or, refl, sym, ◌∙◌, ap, append_assoc}
use Rattle.std.specs.Prelude.{Option, Some, None, Result, Ok, Err, OnOk, codes}
use Rattle.std.specs.List.{cons_option, filter_map}
use Rattle.std.proofs.lemmas.List.{drop_more}
use Rattle.model_core.specs.declared.class.Class.{Class}
use Rattle.model_core.specs.declared.class.Enum.{Enum}
use Rattle.model_core.specs.declared.variable.VarDecl.{VarDecl}
use Rattle.nddl_ast.specs.declared.declaration.Member.{Member}
use Rattle.nddl_ast.specs.declared.declaration.PredicatePart.{PredicatePart}
use Rattle.nddl_ast.specs.declared.declaration.Typed.{Typed}
use Rattle.nddl_hierarchy.specs.Facts.{Facts}
use Rattle.nddl_hierarchy.specs.Members.{member_field}
use Rattle.nddl_declarations.specs.Members.{parameter_of, parameters_of}
use Rattle.nddl_declarations.specs.Declares.{declared_variable, variables_of}
use Rattle.nddl_types.specs.Classes.{builtin_class, builtin_classes, declared_fields}

-- one item more has been dealt with, where what is made of a list is what is made of its parts
split_step : {X Y : Type 0} (f : List X → List Y) → ((x : X) (xs : List X) → f (x ∷ xs) ≡ f (x ∷ []) ++ f xs)
    → (xs : List X) (i : ℕ) (x : X) (old new whole : List Y) → i < length xs → x ≡ get_or xs i x → new ≡ old ++ f (x ∷ [])
    → old ++ f (drop i xs) ≡ whole → new ++ f (drop (i + 1) xs) ≡ whole
split_step f splits xs i x old new whole within is made so_far =
    let rest = f (drop (i + 1) xs) in
    ap (λ some. some ++ rest) made
    ∙ (append_assoc old (f (x ∷ [])) rest
    ∙ (ap (λ some. old ++ some) (sym (splits x (drop (i + 1) xs)) ∙ ap f (ap (λ y. y ∷ drop (i + 1) xs) is ∙ sym (drop_more xs i x within)))
    ∙ so_far))

variable_first : (o : Option VarDecl) (rest : List VarDecl) → cons_option o rest ≡ cons_option o [] ++ rest
variable_first None rest = refl
variable_first (Some variable) rest = refl

typed_first : (facts : Facts) (enums : List Enum) (o : Option Typed) (rest : List Typed)
    → variables_of facts enums (cons_option o rest) ≡ variables_of facts enums (cons_option o []) ++ variables_of facts enums rest
typed_first facts enums None rest = refl
typed_first facts enums (Some typed) rest = variable_first (declared_variable facts enums typed) (variables_of facts enums rest)

-- one member more
pub fields_step : (facts : Facts) (enums : List Enum) (members : List Member) (i : ℕ) (member : Member) (old new whole : List VarDecl)
    → i < length members → member ≡ get_or members i member → new ≡ old ++ declared_fields facts enums (member ∷ [])
    → old ++ declared_fields facts enums (drop i members) ≡ whole → new ++ declared_fields facts enums (drop (i + 1) members) ≡ whole
fields_step facts enums =
    split_step (declared_fields facts enums) (λ member more. typed_first facts enums (member_field member) (filter_map member_field more))

-- one part more
pub params_step : (facts : Facts) (enums : List Enum) (parts : List PredicatePart) (i : ℕ) (part : PredicatePart) (old new whole : List VarDecl)
    → i < length parts → part ≡ get_or parts i part → new ≡ old ++ variables_of facts enums (parameters_of (part ∷ []))
    → old ++ variables_of facts enums (parameters_of (drop i parts)) ≡ whole
    → new ++ variables_of facts enums (parameters_of (drop (i + 1) parts)) ≡ whole
params_step facts enums =
    split_step (λ parts. variables_of facts enums (parameters_of parts))
    (λ part more. typed_first facts enums (parameter_of part) (parameters_of more))

-- four items, one behind the other
pub four_behind : {X : Type 0} (old one two three four : List X) (a b c d : X) → one ≡ old ++ a ∷ [] → two ≡ one ++ b ∷ []
    → three ≡ two ++ c ∷ [] → four ≡ three ++ d ∷ [] → four ≡ old ++ (a ∷ b ∷ c ∷ d ∷ [])
four_behind old one two three four a b c d first second third last =
    last
    ∙ (ap (λ some. some ++ d ∷ []) (third ∙ ap (λ some. some ++ c ∷ []) (second ∙ ap (λ some. some ++ b ∷ []) first))
    ∙ (append_assoc (old ++ a ∷ [] ++ b ∷ []) (c ∷ []) (d ∷ [])
    ∙ (append_assoc (old ++ a ∷ []) (b ∷ []) (c ∷ d ∷ []) ∙ append_assoc old (a ∷ []) (b ∷ c ∷ d ∷ []))))

-- the built-in classes, one behind the other
pub builtin_behind : {A E : Type 0} (r : Result A E) (old one two three four : List Class)
    → one ≡ old ++ builtin_class (codes "Object") None 0 ∷ [] → two ≡ one ++ builtin_class (codes "Timeline") (Some 0) 1 ∷ []
    → three ≡ two ++ builtin_class (codes "Reusable") (Some 0) 2 ∷ []
    → OnOk r (four ≡ three ++ builtin_class (codes "Reservoir") (Some 0) 3 ∷ []) → OnOk r (four ≡ old ++ builtin_classes)
builtin_behind (Err e) old one two three four first second third last = tt
builtin_behind (Ok x) old one two three four first second third last =
    four_behind old one two three four (builtin_class (codes "Object") None 0) (builtin_class (codes "Timeline") (Some 0) 1)
    (builtin_class (codes "Reusable") (Some 0) 2) (builtin_class (codes "Reservoir") (Some 0) 3) first second third last
