-- What is gathered along lines to which the same classes add members is the same.
use Rattle.std.proofs.Common.{◌≡◌, ℕ, ◌||◌, Bool, true, false, cond, List, [], ◌∷◌, ◌++◌, refl, sym, ◌∙◌, ap}
use Rattle.std.specs.Prelude.{Option, None, reverse}
use Rattle.std.specs.List.{cons_option, filter, filter_map, flat_map, list_any}
use Rattle.std.proofs.lemmas.List.{append-nil, reverse-append}
use Rattle.std.proofs.lemmas.List.Elements.{filter-append}
use Rattle.nddl_ast.specs.declared.declaration.Decl.{Decl}
use Rattle.nddl_ast.specs.declared.declaration.Member.{Member}
use Rattle.nddl_ast.specs.declared.declaration.Member.TheVariants as members
use Rattle.nddl_ast.specs.declared.declaration.Set.{Set}
use Rattle.nddl_ast.specs.declared.declaration.Typed.{Typed}
use Rattle.nddl_ast.specs.declared.name.Name.{Name}
use Rattle.nddl_symbols.specs.declared.declared.Declared.{Declared}
use Rattle.nddl_symbols.specs.declared.scope.Meaning.{Meaning}
use Rattle.nddl_hierarchy.specs.Ancestors.{above}
use Rattle.nddl_hierarchy.specs.Decls.{members_of}
use Rattle.nddl_hierarchy.specs.Shorter.{AddTheSame, adds_members, has_named, is_builtin_class}
use Rattle.nddl_hierarchy.proofs.Keeping.{found_kept}

-- what adds no members to a line has constructors at the most, and extends no built-in class
pub record AddsNone (members : List Member) (extended : Option Meaning) : Type 0 where
  pub none : has_named members ≡ false
  pub other : is_builtin_class extended ≡ false

pub adds_none : (names : List Declared) (program : List Decl) (entry : ℕ) → adds_members names program entry ≡ false
    → AddsNone (members_of names program entry) (above names program entry)
unfolding adds_members
adds_none names program entry is =
    by (has_named (members_of names program entry)) (is_builtin_class (above names program entry)) refl refl is
  where
    by : (named builtin : Bool) → has_named (members_of names program entry) ≡ named → is_builtin_class (above names program entry) ≡ builtin
        → (named || builtin) ≡ false → AddsNone (members_of names program entry) (above names program entry)
    by true builtin named other is = absurd (cc)
    by false builtin named other is = record { none = named; other = other ∙ is }

-- whatever only fields and predicates give, constructors alone give nothing of it
module _ {X : Type 0} (f : Member → Option X)
    (gives_none : (name : Name) (formals : List Typed) (sets : List Set) → f (members.Constructor name formals sets) ≡ None) where
  pub none_named : (some : List Member) → has_named some ≡ false → filter_map f some ≡ []
  none_named [] is = refl
  none_named (members.Field typed ∷ more) is = absurd (cc)
  none_named (members.Predicate at name parts ∷ more) is = absurd (cc)
  none_named (members.Constructor name formals sets ∷ more) is =
      ap (λ first. cons_option first (filter_map f more)) (gives_none name formals sets) ∙ none_named more is

-- ---- what is found along a line, class by class, where those change nothing that add no members

pub found_same : {X : Type 0} (names : List Declared) (program : List Decl) (found : List ℕ → X) (step : ℕ → X → X)
    → ((entry : ℕ) (line : List ℕ) → found (entry ∷ line) ≡ step entry (found line))
    → ((entry : ℕ) → adds_members names program entry ≡ false → (rest : X) → step entry rest ≡ rest)
    → (one other : List ℕ) → AddTheSame names program one other → found one ≡ found other
found_same names program found step on idle = found_kept (adds_members names program) found step on idle

-- whether one of the classes passes
pub any_same : (names : List Declared) (program : List Decl) (test : ℕ → Bool)
    → ((entry : ℕ) → adds_members names program entry ≡ false → test entry ≡ false)
    → (one other : List ℕ) → AddTheSame names program one other → list_any test one ≡ list_any test other
any_same names program test none =
    found_same names program (list_any test) (λ entry rest. test entry || rest) (λ entry line. refl)
    (λ entry is rest. ap (λ first. first || rest) (none entry is))

-- what each class of a line gives, where those give nothing that add no members
pub flat_same : {X : Type 0} (names : List Declared) (program : List Decl) (f : ℕ → List X)
    → ((entry : ℕ) → adds_members names program entry ≡ false → f entry ≡ [])
    → (one other : List ℕ) → AddTheSame names program one other → flat_map f one ≡ flat_map f other
flat_same names program f empty =
    found_same names program (flat_map f) (λ entry rest. f entry ++ rest) (λ entry line. refl)
    (λ entry is rest. ap (λ first. first ++ rest) (empty entry is))

-- ---- lines that are turned round

filter_reverse : (p : ℕ → Bool) (xs : List ℕ) → filter p (reverse xs) ≡ reverse (filter p xs)
filter_reverse p [] = refl
filter_reverse p (x ∷ xs) =
    ap (filter p) (reverse-append (x ∷ []) xs)
    ∙ (filter-append p (reverse xs) (x ∷ []) ∙ (ap (λ front. front ++ filter p (x ∷ [])) (filter_reverse p xs) ∙ by (p x) refl))
  where
    by : (b : Bool) → p x ≡ b → reverse (filter p xs) ++ cond b (x ∷ []) [] ≡ reverse (cond b (x ∷ filter p xs) (filter p xs))
    by true is = sym (reverse-append (x ∷ []) (filter p xs))
    by false is = append-nil (reverse (filter p xs))

pub same_reversed : (names : List Declared) (program : List Decl) (one other : List ℕ) → AddTheSame names program one other
    → AddTheSame names program (reverse one) (reverse other)
same_reversed names program one other same =
    filter_reverse (adds_members names program) one ∙ (ap reverse same ∙ sym (filter_reverse (adds_members names program) other))
