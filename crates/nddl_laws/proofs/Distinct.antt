-- Names that are declared first differ.
use Rattle.std.proofs.Common.{◌≡◌, ◌≢◌, ℕ, ◌+◌, ◌≤◌, ◌==◌, Bool, true, false, List, [], ◌∷◌, ◌++◌, map, refl, sym, ◌∙◌, ap, subst, arith}
use Rattle.std.specs.Prelude.{Option, Some, None, All, AllPairs, if◌then◌else◌}
use Rattle.std.specs.Option.{option_map_or}
use Rattle.std.proofs.lemmas.List.Kept.{AllPairs-cons}
use Rattle.std.proofs.lemmas.List.Elements.{All-cons, All-map}
use Rattle.std.proofs.lemmas.Bool.Decides.{Decides-eqb}
use Rattle.std.proofs.lemmas.Option.{same_Some}
use Rattle.nddl_ast.specs.declared.declaration.FileDecls.{FileDecls}
use Rattle.nddl_symbols.specs.declared.site.Site.{Site}
use Rattle.nddl_symbols.specs.Joined.{joined_sites}
use Rattle.nddl_symbols.specs.Place.{file_of_place}
use Rattle.nddl_symbols.specs.declared.declared.Declared.{Declared}
use Rattle.nddl_symbols.specs.Scope.{named_number}
use Rattle.nddl_types.specs.declared.table.Named.{Named}
use Rattle.nddl_types.specs.declared.table.TypeTable.{TypeTable}
use Rattle.nddl_types.specs.Classes.{is_first}
use Rattle.nddl_types.specs.Scoped.{named_from, named_in}
use Rattle.nddl_types.specs.Table.{IsTable}

-- the name is declared first under this number or a later one
DeclaredFrom : List Declared → ℕ → Named → Type 0
DeclaredFrom names number named = (place : ℕ) × (number ≤ place) × (named_number false names named.name ≡ Some place)

first_number : (names : List Declared) (number : ℕ) (name : List ℕ) (o : Option ℕ) → named_number false names name ≡ o
    → option_map_or (λ first. first == number) o false ≡ true → named_number false names name ≡ Some number
first_number names number name None is first = absurd (cc)
first_number names number name (Some found) is first = is ∙ ap (λ n. Some n) ((Decides-eqb found number).0 first)

-- the names are told apart, and none of them is declared before
AreApart : List Declared → ℕ → List Named → Type 0
AreApart names number some = AllPairs ◌≢◌ (map (λ named. named.name) some) × All (DeclaredFrom names number) some

later : (names : List Declared) (number : ℕ) (some : List Named) → All (DeclaredFrom names (number + 1)) some → All (DeclaredFrom names number) some
unfolding DeclaredFrom
later names number some all = λ k d within.
    let found = all k d within in
    (found.0, (let more : number + 1 ≤ found.0 = found.1 in omega arith), found.2)

-- a name that is declared first under this number isn't among those of later ones
apart : (names : List Declared) (number : ℕ) (named : Named) (some : List Named) → named_number false names named.name ≡ Some number
    → All (DeclaredFrom names (number + 1)) some → All (λ other. named.name ≢ other) (map (λ other. other.name) some)
unfolding DeclaredFrom
apart names number named some here all =
    All-map (λ other. named.name ≢ other) (λ other. other.name) some (λ k d within same.
    let found = all k d within in
    let more : number + 1 ≤ found.0 = found.1 in
    let e : number ≡ found.0 = same_Some number found.0 (sym here ∙ (ap (named_number false names) same ∙ found.2)) in
    omega arith)

one_more : (names : List Declared) (number : ℕ) (named : Named) (some : List Named) → named_number false names named.name ≡ Some number
    → AreApart names (number + 1) some → AreApart names number (named ∷ some)
unfolding AreApart DeclaredFrom
one_more names number named some here both = (
  AllPairs-cons ◌≢◌ named.name (map (λ other. other.name) some) (apart names number named some here both.1) both.0,
  All-cons (DeclaredFrom names number) named some (number, omega arith, here) (later names number some both.1),
)

none_more : (names : List Declared) (number : ℕ) (some : List Named) → AreApart names (number + 1) some → AreApart names number some
unfolding AreApart
none_more names number some both = (both.0, later names number some both.1)

none_at_all : (names : List Declared) (number : ℕ) → AreApart names number []
unfolding AreApart
none_at_all names number = (λ i j d before within. absurd (omega arith), λ k d within. absurd (omega arith))

all_apart : (files : List FileDecls) (sites : List Site) (names : List Declared) (number : ℕ) (some : List Declared)
    → AreApart names number (named_from files sites names number some)
all_apart files sites names number [] = none_at_all names number
all_apart files sites names number (declared ∷ more) =
    by (is_first names number declared) refl (file_of_place files sites declared.place) (all_apart files sites names (number + 1) more)
  where
    by : (first : Bool) → is_first names number declared ≡ first → (file : Option FileDecls)
        → AreApart names (number + 1) (named_from files sites names (number + 1) more)
        → AreApart names number
        ((if first then option_map_or (λ file. named_in declared file ∷ []) file [] else []) ++ named_from files sites names (number + 1) more)
    by false is file rest = none_more names number (named_from files sites names (number + 1) more) rest
    by true is None rest = none_more names number (named_from files sites names (number + 1) more) rest
    by true is (Some file) rest =
        one_more names number (named_in declared file) (named_from files sites names (number + 1) more)
        (first_number names number declared.name (named_number false names declared.name) refl is) rest

pub distinct_names : (files : List FileDecls) (table : TypeTable) → IsTable files table → AllPairs ◌≢◌ (map (λ named. named.name) table.scope)
unfolding AreApart
distinct_names files table is =
    let P : List Named → Type 0 = λ some. AllPairs ◌≢◌ (map (λ named. named.name) some) in
    subst P (sym is.entries.others.scope_is) (all_apart files (joined_sites files) is.facts.names 0 is.facts.names).0
