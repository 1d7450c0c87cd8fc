-- What a name stands under is there.
use Rattle.std.proofs.Common.{◌≡◌, ℕ, zero, suc, ◌+◌, ◌<◌, ◌≤◌, Bool, true, false, List, [], ◌∷◌, ◌++◌, length, map, refl, subst, arith}
use Rattle.std.specs.Prelude.{Option, Some, None, slice_get, if◌then◌else◌}
use Rattle.std.specs.Option.{option_and_then, option_map_or}
use Rattle.std.proofs.lemmas.Option.{same_Some, slice_get_within}
use Rattle.eu_forest.specs.Lines.{AreParents}
use Rattle.nddl_ast.specs.declared.declaration.Decl.{Decl}
use Rattle.nddl_ast.specs.declared.expression.BaseType.{BaseType}
use Rattle.nddl_ast.specs.declared.expression.BaseType.TheVariants as bases
use Rattle.nddl_symbols.specs.declared.declared.Declared.{Declared}
use Rattle.nddl_symbols.specs.declared.declared.Sort.{Sort}
use Rattle.nddl_symbols.specs.declared.declared.Sort.TheVariants as sorts
use Rattle.nddl_symbols.specs.declared.scope.Meaning.{Meaning}
use Rattle.nddl_symbols.specs.declared.scope.Meaning.TheVariants as meanings
use Rattle.nddl_symbols.specs.Names.{is_class_sort}
use Rattle.nddl_symbols.specs.Scope.{is_class_at, meaning_of}
use Rattle.nddl_hierarchy.specs.Decls.{declaration_with_body, class_parent, decl_of_name, typedef_type}
use Rattle.nddl_hierarchy.specs.Lines.{base_under, class_under, is_typedef_sort, parents_of, sort_under, typedef_of_meaning, under_meaning}

-- if there is a number, it is at most this
abbrev AtMost : ℕ → Option ℕ → Type 0
AtMost most None = Unit {0}
AtMost most (Some number) = number ≤ most

at_most_then : {A : Type 0} (f : A → Option ℕ) (o : Option A) (most : ℕ) → ((a : A) → o ≡ Some a → AtMost most (f a)) → AtMost most (option_and_then f o)
at_most_then f None most each = tt
at_most_then f (Some a) most each = each a refl

class_within : (names : List Declared) (entry : ℕ) → is_class_at names entry ≡ true → entry < length names
class_within names entry is = by (slice_get names entry) refl is
  where
    by : (o : Option Declared) → slice_get names entry ≡ o → option_map_or (λ other. is_class_sort other.sort) o false ≡ true → entry < length names
    by None none never = absurd (let e : false ≡ true = never in cc)
    by (Some declared) there is = slice_get_within names entry declared there

class_at_most : (names : List Declared) (entry : ℕ) (b : Bool) → is_class_at names entry ≡ b
    → AtMost (length names) (if b then Some entry else Some (length names))
class_at_most names entry true is = let less : entry < length names = class_within names entry is in omega arith
class_at_most names entry false is = omega arith

meaning_at_most : (names : List Declared) (meaning : Option Meaning) → AtMost (length names) (under_meaning names meaning)
meaning_at_most names None = omega arith
meaning_at_most names (Some (meanings.BuiltIn number)) = tt
meaning_at_most names (Some (meanings.Entry entry)) = class_at_most names entry (is_class_at names entry) refl

entry_at_most : (names : List Declared) (entry : ℕ) (declared : Declared) (b : Bool) → slice_get names entry ≡ Some declared
    → AtMost (length names) (if b then Some entry else None)
entry_at_most names entry declared true there = let less : entry < length names = slice_get_within names entry declared there in omega arith
entry_at_most names entry declared false there = tt

typedef_at_most : (names : List Declared) (meaning : Option Meaning) → AtMost (length names) (typedef_of_meaning names meaning)
typedef_at_most names None = tt
typedef_at_most names (Some (meanings.BuiltIn number)) = tt
typedef_at_most names (Some (meanings.Entry entry)) =
    at_most_then (λ declared. if is_typedef_sort declared.sort then Some entry else None) (slice_get names entry) (length names)
    (λ declared there. entry_at_most names entry declared (is_typedef_sort declared.sort) there)

base_at_most : (names : List Declared) (base : BaseType) → AtMost (length names) (base_under names base)
base_at_most names (bases.Named name) = typedef_at_most names (meaning_of names name.text)
base_at_most names bases.Int = tt
base_at_most names bases.Float = tt
base_at_most names bases.Bool = tt
base_at_most names bases.Str = tt

parent_at_most : (names : List Declared) (program : List Decl) (declared : Declared)
    → AtMost (length names) (option_and_then (class_under names) (option_and_then class_parent (declaration_with_body names program declared)))
parent_at_most names program declared =
    at_most_then (class_under names) (option_and_then class_parent (declaration_with_body names program declared)) (length names)
    (λ name is. meaning_at_most names (meaning_of names name.text))

sort_at_most : (names : List Declared) (program : List Decl) (declared : Declared) (sort : Sort) → AtMost (length names) (sort_under names program declared sort)
sort_at_most names program declared sorts.Typedef =
    at_most_then (λ type. base_under names type.base) (option_and_then typedef_type (decl_of_name program declared)) (length names)
    (λ type is. base_at_most names type.base)
sort_at_most names program declared sorts.Forward = parent_at_most names program declared
sort_at_most names program declared sorts.Body = parent_at_most names program declared
sort_at_most names program declared (sorts.Enum number) = tt
sort_at_most names program declared (sorts.Member of place) = tt
sort_at_most names program declared sorts.Global = tt
sort_at_most names program declared sorts.Object = tt
sort_at_most names program declared sorts.Root = tt
sort_at_most names program declared sorts.Config = tt

at_most_some : (most parent : ℕ) (o : Option ℕ) → AtMost most o → o ≡ Some parent → parent ≤ most
at_most_some most parent o is same = subst (AtMost most) same is

listed_at_most : (under : Declared → Option ℕ) (names : List Declared) (most : ℕ) → ((declared : Declared) → AtMost most (under declared))
    → (number parent : ℕ) → slice_get (map under names ++ Some most ∷ []) number ≡ Some (Some parent) → parent ≤ most
listed_at_most under [] most each zero parent is =
    let e : ◌≡◌ {A = Option ℕ} (Some most) (Some parent) = same_Some (Some most) (Some parent) is in
    let same : most ≡ parent = same_Some most parent e in omega arith
listed_at_most under [] most each (suc number) parent is = absurd (let e : ◌≡◌ {A = Option (Option ℕ)} None (Some (Some parent)) = is in cc)
listed_at_most under (declared ∷ names) most each zero parent is =
    at_most_some most parent (under declared) (each declared) (same_Some (under declared) (Some parent) is)
listed_at_most under (declared ∷ names) most each (suc number) parent is = listed_at_most under names most each number parent is

longer : (under : Declared → Option ℕ) (names : List Declared) (last : Option ℕ) → length (map under names ++ last ∷ []) ≡ length names + 1
longer under [] last = refl
longer under (declared ∷ names) last = let rest : length (map under names ++ last ∷ []) ≡ length names + 1 = longer under names last in omega arith

pub parents_are_there : (names : List Declared) (program : List Decl) → AreParents (parents_of names program)
parents_are_there names program = λ number parent is.
    let under : Declared → Option ℕ = λ declared. sort_under names program declared declared.sort in
    let most : parent ≤ length names = listed_at_most under names (length names)
    (λ declared. sort_at_most names program declared declared.sort) number parent is in
    let long : length (map under names ++ Some (length names) ∷ []) ≡ length names + 1 = longer under names (Some (length names)) in
    omega arith
