-- A class that is declared in a program with which nothing is wrong is the first of its name, or stands for it.
use Rattle.std.proofs.Common.{◌≡◌, ℕ, zero, suc, ◌+◌, ◌==◌, ◌&&◌, Bool, true, false, cond, List, [], ◌∷◌, ◌++◌, length, refl, sym, ◌∙◌, ap, arith}
use Rattle.std.specs.Prelude.{Some, not, ◌||◌, slice_get}
use Rattle.std.specs.List.{position_from}
use Rattle.std.specs.Option.{option_map_or}
use Rattle.std.specs.Str.{bytes_eq}
use Rattle.std.proofs.lemmas.Bool.Decides.{Decides-eqb}
use Rattle.std.proofs.lemmas.Option.{same_Some, none-some}
use Rattle.std.proofs.lemmas.Slice.Eq.{bytes_eq-Decides}
use Rattle.nddl_ast.specs.declared.declaration.Decl.{Decl}
use Rattle.nddl_ast.specs.declared.kind.TextKind.TheVariants as kinds
use Rattle.nddl_ast.specs.declared.name.Name.{Name}
use Rattle.nddl_symbols.specs.declared.declared.Declared.{Declared}
use Rattle.nddl_symbols.specs.declared.declared.Sort.{Sort}
use Rattle.nddl_symbols.specs.declared.declared.Sort.TheVariants as sorts
use Rattle.nddl_symbols.specs.Builtin.{is_builtin_name}
use Rattle.nddl_symbols.specs.Names.{declared_as, enums_in_decl, is_body_sort, is_class_sort, names_from, names_in_decl}
use Rattle.nddl_symbols.specs.Scope.{fault_if, is_class_at, is_named, is_repeated, is_second_body, is_second_config, is_second_name, named_number, second_name_fault, second_name_faults}
use Rattle.nddl_hierarchy.specs.Facts.{Facts}
use Rattle.nddl_hierarchy.specs.Lines.{circle_faults}
use Rattle.nddl_declarations.specs.Faults.{all_faults, decls_faults}
use Rattle.nddl_types.specs.Classes.{is_first, is_first_class}
use Rattle.nddl_laws.proofs.Contained.{place_right}
use Rattle.nddl_laws.proofs.Values.{no_fault, not_so}
use Rattle.nddl_laws.proofs.Nothing.{none_first, none_second}
use Rattle.nddl_laws.proofs.Parents.{found_at, found_first}

-- ---- where a declaration's name stands

-- a declaration that gives this one name, whatever stands before it
abbrev GivesOne : Decl → Name → Sort → Type 0
GivesOne decl name sort = (number before : ℕ) → names_in_decl number before decl ≡ declared_as number name sort ∷ []

pub stands_from : (number before : ℕ) (program : List Decl) (offset : ℕ) (decl : Decl) (name : Name) (sort : Sort) → slice_get program offset ≡ Some decl
    → GivesOne decl name sort → (entry : ℕ) × (slice_get (names_from number before program) entry ≡ Some (declared_as (number + offset) name sort))
stands_from number before [] offset decl name sort at gives = absurd (none-some decl at)
stands_from number before (here ∷ more) zero decl name sort at gives =
    let same : here ≡ decl = same_Some here decl at in
    let e : number ≡ number + 0 = omega arith in (
      0,
      ap (λ d. slice_get (names_in_decl number before d ++ names_from (number + 1) (before + enums_in_decl here) more) 0) same
          ∙ (ap (λ some. slice_get (some ++ names_from (number + 1) (before + enums_in_decl here) more) 0) (gives number before)
          ∙ ap (λ n. Some (declared_as n name sort)) e),
    )
stands_from number before (here ∷ more) (suc offset) decl name sort at gives =
    let rest = stands_from (number + 1) (before + enums_in_decl here) more offset decl name sort at gives in
    let e : number + 1 + offset ≡ number + suc offset = omega arith in (
      length (names_in_decl number before here) + rest.0,
      place_right (names_in_decl number before here) (names_from (number + 1) (before + enums_in_decl here) more) rest.0
          ∙ (rest.1 ∙ ap (λ n. Some (declared_as n name sort)) e),
    )

-- ---- the first of a name

pub some_position : {X : Type 0} (test : X → Bool) (xs : List X) (number place : ℕ) (x : X) → slice_get xs place ≡ Some x → test x ≡ true
    → (found : ℕ) × (position_from test number xs ≡ Some found)
some_position test [] number place x at passes = absurd (none-some x at)
some_position {X} test (y ∷ xs) number zero x at passes =
    let same : y ≡ x = same_Some y x at in
    (number, ap (λ b. cond b (Some number) (position_from test (number + 1) xs)) (ap test same ∙ passes))
some_position {X} test (y ∷ xs) number (suc place) x at passes =
    by (test y) (some_position test xs (number + 1) place x at passes)
  where
    by : (b : Bool) → (found : ℕ) × (position_from test (number + 1) xs ≡ Some found)
        → (found : ℕ) × (cond b (Some number) (position_from test (number + 1) xs) ≡ Some found)
    by true rest = (number, refl)
    by false rest = rest

both_so : (one other : Bool) → one ≡ true → other ≡ true → (one && other) ≡ true
both_so true true one other = refl
both_so true false one other = cc
both_so false other one also = cc

pub neither : (one other : Bool) → (one || other) ≡ false → (one ≡ false) × (other ≡ false)
neither false other is = (refl, is)
neither true other is = cc

second_at : (names : List Declared) (number : ℕ) (some : List Declared) (place : ℕ) (declared : Declared) → second_name_faults names number some ≡ []
    → slice_get some place ≡ Some declared → second_name_fault names (number + place) declared ≡ []
second_at names number [] place declared none at = absurd (none-some declared at)
second_at names number (here ∷ more) zero declared none at =
    let first = none_first (second_name_fault names number here) (second_name_faults names (number + 1) more) none in
    let same : here ≡ declared = same_Some here declared at in
    let e : number ≡ number + 0 = omega arith in
    sym (λ i. second_name_fault names (e i) (same i)) ∙ first
second_at names number (here ∷ more) (suc place) declared none at =
    let rest = none_second (second_name_fault names number here) (second_name_faults names (number + 1) more) none in
    let e : number + 1 + place ≡ number + suc place = omega arith in
    sym (ap (λ n. second_name_fault names n declared) e) ∙ second_at names (number + 1) more place declared rest at

module _ (facts : Facts) (fine : all_faults facts ≡ []) where
  pub not_second : (entry : ℕ) (declared : Declared) → slice_get facts.names entry ≡ Some declared → is_second_name facts.names entry declared ≡ false
  not_second entry declared at =
      let none : second_name_faults facts.names 0 facts.names ≡ [] =
      none_first (second_name_faults facts.names 0 facts.names)
      (circle_faults facts.names facts.marked 0 facts.names ++ decls_faults facts 0 facts.program) fine in
      let here = second_at facts.names 0 facts.names entry declared none at in
      let e : 0 + entry ≡ entry = omega arith in
      let told = ap (λ n. second_name_fault facts.names n declared) (sym e) ∙ here in
      not_so (is_second_name facts.names entry declared) kinds.Twice
      (no_fault declared.place.decl declared.place.at (fault_if (is_second_name facts.names entry declared) kinds.Twice) told)

  -- the class that a class of a declaration is
  pub record StandsFor (entry : ℕ) (declared : Declared) : Type 0 where
    pub first : ℕ
    pub found : Declared
    pub there : slice_get facts.names first ≡ Some found
    pub same : found.name ≡ declared.name
    pub is_first : is_first_class facts.names first found ≡ true

  first_class : (entry first : ℕ) (declared : Declared) → slice_get facts.names entry ≡ Some declared → is_class_sort declared.sort ≡ true
      → named_number false facts.names declared.name ≡ Some first → is_class_at facts.names first ≡ true
  first_class entry first declared at sort named = by (first == entry) refl
    where
      repeated : is_repeated facts.names entry declared ≡ false
      repeated = (neither (is_repeated facts.names entry declared)
          (is_second_body facts.names entry declared || is_second_config facts.names entry declared)
          (neither (is_builtin_name declared.name) (is_repeated facts.names entry declared
          || (is_second_body facts.names entry declared || is_second_config facts.names entry declared)) (not_second entry declared at)).1).0

      test : (not (first == entry) && not (is_class_sort declared.sort && is_class_at facts.names first)) ≡ false
      test = sym (ap (λ o. option_map_or (λ (n : ℕ). not (n == entry) && not (is_class_sort declared.sort && is_class_at facts.names n)) o false) named) ∙ repeated

      other : (b : Bool) → (not false && not (true && b)) ≡ false → b ≡ true
      other true is = refl
      other false is = cc

      by : (b : Bool) → (first == entry) ≡ b → is_class_at facts.names first ≡ true
      by true is =
          let same : first ≡ entry = (Decides-eqb first entry).0 is in
          ap (is_class_at facts.names) same ∙ (ap (λ o. option_map_or (λ (d : Declared). is_class_sort d.sort) o false) at ∙ sort)
      by false is =
          other (is_class_at facts.names first)
          (sym (λ i. not (is i) && not (sort i && is_class_at facts.names first)) ∙ test)

  pub stands_for : (entry : ℕ) (declared : Declared) → slice_get facts.names entry ≡ Some declared → is_class_sort declared.sort ≡ true → StandsFor entry declared
  stands_for entry declared at sort =
      let position = some_position (is_named false declared.name) facts.names 0 entry declared at ((bytes_eq-Decides declared.name declared.name).1 refl) in
      let found = found_first facts.names declared.name position.0 position.1 in
      let class = first_class entry position.0 declared at sort position.1 in
      let where_it_is = found_at (is_named false declared.name) facts.names 0 position.0 position.1 in
      let place : where_it_is.0 ≡ position.0 = (let sum : position.0 ≡ 0 + where_it_is.0 = where_it_is.1 in omega arith) in
      let it : where_it_is.2.0 ≡ found.found =
      same_Some where_it_is.2.0 found.found (sym where_it_is.2.1 ∙ (ap (slice_get facts.names) place ∙ found.there)) in
      let called : declared.name ≡ where_it_is.2.0.name = (bytes_eq-Decides declared.name where_it_is.2.0.name).0 where_it_is.2.2 in
      let own : is_class_sort found.found.sort ≡ true = sym (ap (λ o. option_map_or (λ (d : Declared). is_class_sort d.sort) o false) found.there) ∙ class in
      record {
        first = position.0;
        found = found.found;
        there = found.there;
        same = sym (called ∙ ap (λ (d : Declared). d.name) it);
        is_first = both_so (is_class_sort found.found.sort) (is_first facts.names position.0 found.found) own found.first;
      }

  -- the body of a class is the one that is declared
  pub own_body : (entry : ℕ) (declared : Declared) → slice_get facts.names entry ≡ Some declared → declared.sort ≡ sorts.Body
      → named_number true facts.names declared.name ≡ Some entry
  own_body entry declared at sort =
      let passes : is_named true declared.name declared ≡ true =
      both_so (not true || is_body_sort declared.sort) (bytes_eq declared.name declared.name) (ap is_body_sort sort) ((bytes_eq-Decides declared.name declared.name).1 refl) in
      let position = some_position (is_named true declared.name) facts.names 0 entry declared at passes in
      let second = neither (is_repeated facts.names entry declared)
      (is_second_body facts.names entry declared || is_second_config facts.names entry declared)
      (neither (is_builtin_name declared.name) (is_repeated facts.names entry declared
      || (is_second_body facts.names entry declared || is_second_config facts.names entry declared)) (not_second entry declared at)).1 in
      let body = (neither (is_second_body facts.names entry declared) (is_second_config facts.names entry declared) second.1).0 in
      let told : not (position.0 == entry) ≡ false =
      sym (λ i. is_body_sort (sort i) && option_map_or (λ (other : ℕ). not (other == entry)) (position.1 i) false) ∙ body in
      position.1 ∙ ap (λ n. Some n) ((Decides-eqb position.0 entry).0 (twice (position.0 == entry) told))
    where
      twice : (b : Bool) → not b ≡ false → b ≡ true
      twice true is = refl
      twice false is = cc
