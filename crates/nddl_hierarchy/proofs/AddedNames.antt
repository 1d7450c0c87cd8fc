-- The names that are noted along lines to which the same classes add members are the same.
use Rattle.std.proofs.Common.{◌≡◌, ℕ, Bool, true, false, cond, List, [], ◌∷◌, refl, sym, ◌∙◌, ap}
use Rattle.std.specs.Prelude.{Option, Some, None, Result, Ok, Err, IfOk}
use Rattle.nddl_ast.specs.declared.declaration.Decl.{Decl}
use Rattle.nddl_symbols.specs.declared.declared.Declared.{Declared}
use Rattle.nddl_symbols.specs.declared.scope.Meaning.{Meaning}
use Rattle.nddl_symbols.specs.declared.scope.Meaning.TheVariants as meanings
use Rattle.eu_index.specs.Index.{Noted}
use Rattle.nddl_hierarchy.specs.Ancestors.{above}
use Rattle.nddl_hierarchy.specs.Decls.{members_of}
use Rattle.nddl_hierarchy.specs.Shorter.{AddTheSame, adding_along, adds_members, is_builtin_class}
use Rattle.nddl_hierarchy.proofs.Adding.{adds_none, none_named}
use Rattle.nddl_hierarchy.specs.Inherited.{builtin_noted, class_noted, line_noted, member_name, names_noted}

builtin_none : (noted : Noted) (extended : Option Meaning) → is_builtin_class extended ≡ false → builtin_noted noted extended ≡ noted
builtin_none noted None is = refl
builtin_none noted (Some (meanings.BuiltIn number)) is = absurd (cc)
builtin_none noted (Some (meanings.Entry entry)) is = refl

class_none : (names : List Declared) (program : List Decl) (noted : Noted) (entry : ℕ) → adds_members names program entry ≡ false
    → class_noted names program noted entry ≡ noted
class_none names program noted entry is =
    let none = adds_none names program entry is in
    ap (λ some. builtin_noted (names_noted noted some) (above names program entry))
    (none_named member_name (λ name formals sets. refl) (members_of names program entry) none.none)
    ∙ builtin_none noted (above names program entry) none.other

line_adding : (names : List Declared) (program : List Decl) (noted : Noted) (line : List ℕ)
    → line_noted names program noted line ≡ line_noted names program noted (adding_along names program line)
line_adding names program noted [] = refl
line_adding names program noted (entry ∷ line) =
    by (adds_members names program entry) refl
    (line_adding names program (class_noted names program noted entry) line) (line_adding names program noted line)
  where
    by : (adds : Bool) → adds_members names program entry ≡ adds
        → line_noted names program (class_noted names program noted entry) line
        ≡ line_noted names program (class_noted names program noted entry) (adding_along names program line)
        → line_noted names program noted line ≡ line_noted names program noted (adding_along names program line)
        → line_noted names program (class_noted names program noted entry) line
        ≡ line_noted names program noted (cond adds (entry ∷ adding_along names program line) (adding_along names program line))
    by true is with_it without = with_it
    by false is with_it without =
        ap (λ some. line_noted names program some line) (class_none names program noted entry is) ∙ without

-- the same names are noted
pub same_noted : (names : List Declared) (program : List Decl) (noted : Noted) (one other : List ℕ) → AddTheSame names program one other
    → line_noted names program noted one ≡ line_noted names program noted other
same_noted names program noted one other same =
    line_adding names program noted one
    ∙ (ap (line_noted names program noted) same ∙ sym (line_adding names program noted other))

-- so what is noted along the one line is so along the other
pub read_noted : {E : Type 0} (names : List Declared) (program : List Decl) (line read other : List ℕ) (noted : Result Noted E)
    → line_noted names program [] line ≡ line_noted names program [] other → read ≡ line
    → IfOk noted (λ some. some ≡ line_noted names program [] read) → IfOk noted (λ some. some ≡ line_noted names program [] other)
read_noted names program line read other (Err e) same is so_far = tt
read_noted names program line read other (Ok some) same is so_far = so_far ∙ (ap (line_noted names program []) is ∙ same)
