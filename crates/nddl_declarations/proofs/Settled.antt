-- What the names mean that have been dealt with, in the order of a lineage.
use Rattle.std.proofs.Common.{◌≡◌, ℕ, zero, suc, ◌+◌, ◌<◌, ◌≤◌, Bool, true, false, List, [], ◌∷◌, length, map, ◌⊎◌, inl, inr, refl, sym, ◌∙◌, ap, subst, arith}
use Rattle.std.specs.Prelude.{Option, Some, None, slice_get, slice_set, replicate, if◌then◌else◌, ◌++◌}
use Rattle.std.specs.Option.{option_and_then}
use Rattle.std.proofs.lemmas.Option.{same_Some, slice_get_within}
use Rattle.std.proofs.lemmas.Bool.{cases_lt}
use Rattle.eu_forest.specs.declared.lineage.Rootedness.{Rootedness}
use Rattle.eu_forest.specs.declared.lineage.Rootedness.TheVariants as how
use Rattle.eu_forest.specs.Lines.{IsLineageOf, StandsUnder, rootedness_in}
use Rattle.nddl_ast.specs.declared.declaration.Decl.{Decl}
use Rattle.nddl_ast.specs.declared.expression.BaseType.{BaseType}
use Rattle.nddl_ast.specs.declared.expression.BaseType.TheVariants as bases
use Rattle.nddl_ast.specs.declared.expression.Type as types
use Rattle.nddl_symbols.specs.declared.declared.Declared.{Declared}
use Rattle.nddl_symbols.specs.declared.declared.Sort.{Sort}
use Rattle.nddl_symbols.specs.declared.declared.Sort.TheVariants as sorts
use Rattle.nddl_symbols.specs.declared.scope.Meaning.{Meaning}
use Rattle.nddl_symbols.specs.declared.scope.Meaning.TheVariants as meanings
use Rattle.nddl_typeexpr.specs.declared.kind.TypeMeaning.{TypeMeaning}
use Rattle.nddl_hierarchy.specs.Decls.{decl_of_name, typedef_type}
use Rattle.nddl_hierarchy.specs.Facts.{Facts}
use Rattle.nddl_hierarchy.specs.Lines.{base_under, is_rooted, is_typedef_sort, parents_of, sort_under, typedef_of_meaning}
use Rattle.nddl_declarations.specs.Known.{AreFacts, declared_type, fine_meaning, known_meaning, with_meaning}
use Rattle.nddl_declarations.proofs.Depends.{AgreesAt, fine_same, named_by, with_known}

-- the name stands among the first so many of the order
abbrev pub IsSeen : List ℕ → ℕ → ℕ → Type 0
IsSeen order count entry = (place : ℕ) × (place < count) × (slice_get order place ≡ Some entry)

-- what is known where the first so many of the order have been dealt with
pub record Settled (facts : Facts) (order : List ℕ) (count : ℕ) (known : List (Option TypeMeaning)) : Type 0 where
  pub long : length known ≡ length facts.names
  pub done : (entry : ℕ) → IsSeen order count entry → entry < length facts.names
      → slice_get known entry ≡ Some (known_meaning (with_known facts known) entry)
  pub rest : (entry : ℕ) → (IsSeen order count entry → ⊥) → entry < length facts.names → slice_get known entry ≡ Some None

-- ---- lists

same_number : (one other : ℕ) → (one ≡ other) ⊎ (one ≡ other → ⊥)
same_number one other = by (cases_lt one other) (cases_lt other one)
  where
    by : (one < other) ⊎ (other ≤ one) → (other < one) ⊎ (one ≤ other) → (one ≡ other) ⊎ (one ≡ other → ⊥)
    by (inl less) more = inr (λ same. omega arith)
    by (inr most) (inl less) = inr (λ same. omega arith)
    by (inr most) (inr least) = inl (let e : one ≡ other = omega arith in e)

seen_or_not : (order : List ℕ) (count entry : ℕ) → IsSeen order count entry ⊎ (IsSeen order count entry → ⊥)
seen_or_not order zero entry = inr (λ seen. let less : seen.0 < 0 = seen.1 in omega arith)
seen_or_not order (suc count) entry = by (seen_or_not order count entry) (slice_get order count) refl
  where
    last : (other : ℕ) → slice_get order count ≡ Some other → (other ≡ entry) ⊎ (other ≡ entry → ⊥) → (IsSeen order count entry → ⊥)
        → IsSeen order (suc count) entry ⊎ (IsSeen order (suc count) entry → ⊥)
    last other is (inl same) none = inl (count, omega arith, is ∙ ap (λ n. Some n) same)
    last other is (inr differs) none = inr (λ seen. before other is differs none seen (cases_lt seen.0 count))
      where
        before : (other : ℕ) → slice_get order count ≡ Some other → (other ≡ entry → ⊥) → (IsSeen order count entry → ⊥)
            → (seen : IsSeen order (suc count) entry) → (seen.0 < count) ⊎ (count ≤ seen.0) → ⊥
        before other is differs none seen (inl less) = none (seen.0, less, seen.2)
        before other is differs none seen (inr most) =
            let less : seen.0 < suc count = seen.1 in
            let here : seen.0 ≡ count = omega arith in
            differs (same_Some other entry (sym is ∙ (ap (slice_get order) (sym here) ∙ seen.2)))

    by : IsSeen order count entry ⊎ (IsSeen order count entry → ⊥) → (o : Option ℕ) → slice_get order count ≡ o
        → IsSeen order (suc count) entry ⊎ (IsSeen order (suc count) entry → ⊥)
    by (inl seen) o is = inl (seen.0, (let less : seen.0 < count = seen.1 in omega arith), seen.2)
    by (inr none) (Some other) is = last other is (same_number other entry) none
    by (inr none) None is = inr (λ seen. past seen (cases_lt seen.0 count))
      where
        past : (seen : IsSeen order (suc count) entry) → (seen.0 < count) ⊎ (count ≤ seen.0) → ⊥
        past seen (inl less) = none (seen.0, less, seen.2)
        past seen (inr most) =
            let less : seen.0 < suc count = seen.1 in
            let here : seen.0 ≡ count = omega arith in
            let e : None ≡ Some entry = sym is ∙ (ap (slice_get order) (sym here) ∙ seen.2) in cc

set_here : (known : List (Option TypeMeaning)) (entry : ℕ) (meaning : Option TypeMeaning) → entry < length known
    → slice_get (slice_set known entry meaning) entry ≡ Some meaning
set_here [] entry meaning within = absurd (omega arith)
set_here (x ∷ known) zero meaning within = refl
set_here (x ∷ known) (suc entry) meaning within = set_here known entry meaning (omega arith)

set_other : (known : List (Option TypeMeaning)) (entry other : ℕ) (meaning : Option TypeMeaning) → (other ≡ entry → ⊥)
    → slice_get (slice_set known entry meaning) other ≡ slice_get known other
set_other [] entry other meaning differs = refl
set_other (x ∷ known) zero zero meaning differs = absurd (differs refl)
set_other (x ∷ known) zero (suc other) meaning differs = refl
set_other (x ∷ known) (suc entry) zero meaning differs = refl
set_other (x ∷ known) (suc entry) (suc other) meaning differs = set_other known entry other meaning (λ same. differs (ap (λ n. suc n) same))

set_same : (known : List (Option TypeMeaning)) (entry : ℕ) (meaning : Option TypeMeaning) → slice_get known entry ≡ Some meaning
    → slice_set known entry meaning ≡ known
set_same [] entry meaning is = refl
set_same (x ∷ known) zero meaning is = ap (λ m. m ∷ known) (sym (same_Some x meaning is))
set_same (x ∷ known) (suc entry) meaning is = ap (λ rest. x ∷ rest) (set_same known entry meaning is)

set_past : (known : List (Option TypeMeaning)) (entry : ℕ) (meaning : Option TypeMeaning) → length known ≤ entry
    → slice_set known entry meaning ≡ known
set_past [] entry meaning past = refl
set_past (x ∷ known) zero meaning past = absurd (omega arith)
set_past (x ∷ known) (suc entry) meaning past = ap (λ rest. x ∷ rest) (set_past known entry meaning (omega arith))

set_long : (known : List (Option TypeMeaning)) (entry : ℕ) (meaning : Option TypeMeaning) → length (slice_set known entry meaning) ≡ length known
set_long [] entry meaning = refl
set_long (x ∷ known) zero meaning = refl
set_long (x ∷ known) (suc entry) meaning = let rest : length (slice_set known entry meaning) ≡ length known = set_long known entry meaning in omega arith

none_at : (count entry : ℕ) → entry < count → slice_get (replicate {A = Option TypeMeaning} count None) entry ≡ Some None
none_at zero entry within = absurd (omega arith)
none_at (suc count) zero within = refl
none_at (suc count) (suc entry) within = none_at count entry (omega arith)

none_long : (count : ℕ) → length (replicate {A = Option TypeMeaning} count None) ≡ count
none_long zero = refl
none_long (suc count) = let rest : length (replicate {A = Option TypeMeaning} count None) ≡ count = none_long count in omega arith

map_at : (f : Declared → Option ℕ) (names : List Declared) (last : List (Option ℕ)) (entry : ℕ) (declared : Declared)
    → slice_get names entry ≡ Some declared → slice_get (map f names ++ last) entry ≡ Some (f declared)
map_at f [] last entry declared is = absurd (let e : None ≡ Some declared = is in cc)
map_at f (x ∷ names) last zero declared is = ap (λ d. Some (f d)) (same_Some x declared is)
map_at f (x ∷ names) last (suc entry) declared is = map_at f names last entry declared is

-- ---- what typedefs stand under

-- a name that is declared as a type is a typedef
record IsTypedef (names : List Declared) (program : List Decl) (entry : ℕ) (type : types.Type) : Type 0 where
  declared : Declared
  there : slice_get names entry ≡ Some declared
  sort : declared.sort ≡ sorts.Typedef
  read : option_and_then typedef_type (decl_of_name program declared) ≡ Some type

typedef_by : (names : List Declared) (program : List Decl) (entry : ℕ) (type : types.Type) (declared : Declared) (sort : Sort)
    → slice_get names entry ≡ Some declared → declared.sort ≡ sort
    → (if is_typedef_sort sort then option_and_then typedef_type (decl_of_name program declared) else None) ≡ Some type
    → IsTypedef names program entry type
typedef_by names program entry type declared sorts.Typedef there is read = record { declared = declared; there = there; sort = is; read = read }
typedef_by names program entry type declared sort there is never = absurd (let e : None ≡ Some type = never in cc)

is_typedef : (names : List Declared) (program : List Decl) (entry : ℕ) (type : types.Type) → declared_type names program entry ≡ Some type
    → IsTypedef names program entry type
is_typedef names program entry type is = by (slice_get names entry) refl is
  where
    by : (o : Option Declared) → slice_get names entry ≡ o
        → option_and_then (λ (declared : Declared). if is_typedef_sort declared.sort then option_and_then typedef_type (decl_of_name program declared) else None) o ≡ Some type
        → IsTypedef names program entry type
    by None there never = absurd (let e : None ≡ Some type = never in cc)
    by (Some declared) there is = typedef_by names program entry type declared declared.sort there refl is

base_named : (names : List Declared) (base : BaseType) → base_under names base ≡ typedef_of_meaning names (named_by names base)
base_named names (bases.Named name) = refl
base_named names bases.Int = refl
base_named names bases.Float = refl
base_named names bases.Bool = refl
base_named names bases.Str = refl

-- a typedef of which the base names a typedef stands under it
pub typedef_under : (names : List Declared) (program : List Decl) (entry parent : ℕ) (type other : types.Type)
    → declared_type names program entry ≡ Some type → declared_type names program parent ≡ Some other
    → named_by names type.base ≡ Some (meanings.Entry parent) → StandsUnder (parents_of names program) entry parent
typedef_under names program entry parent type other is above named =
    let one = is_typedef names program entry type is in
    let two = is_typedef names program parent other above in
    let under : Declared → Option ℕ = λ declared. sort_under names program declared declared.sort in
    let at = map_at under names (Some (length names) ∷ []) entry one.declared one.there in
    let by_sort : sort_under names program one.declared one.declared.sort ≡ option_and_then (λ (t : types.Type). base_under names t.base) (Some type) =
    ap (λ s. sort_under names program one.declared s) one.sort ∙ ap (option_and_then (λ (t : types.Type). base_under names t.base)) one.read in
    let by_base : base_under names type.base ≡ option_and_then (λ (declared : Declared). if is_typedef_sort declared.sort then Some parent else None) (slice_get names parent) =
    base_named names type.base ∙ ap (typedef_of_meaning names) named in
    let by_parent : option_and_then (λ (declared : Declared). if is_typedef_sort declared.sort then Some parent else None) (slice_get names parent) ≡ Some parent =
    ap (option_and_then (λ (declared : Declared). if is_typedef_sort declared.sort then Some parent else None)) two.there
    ∙ ap (λ s. if is_typedef_sort s then Some parent else None) two.sort in
    at ∙ ap (λ o. Some o) (by_sort ∙ (by_base ∙ by_parent))

-- ---- one name after another

module _ (facts : Facts) (order : List ℕ) (are : facts.parents ≡ parents_of facts.names facts.program)
    (first : (place number parent : ℕ) → slice_get order place ≡ Some number → StandsUnder facts.parents number parent
    → (earlier : ℕ) × (earlier < place) × (slice_get order earlier ≡ Some parent)) where
  -- nothing changes
  more_seen : (count entry : ℕ) (known : List (Option TypeMeaning)) → slice_get order count ≡ Some entry
      → (entry < length facts.names → slice_get known entry ≡ Some (known_meaning (with_known facts known) entry))
      → Settled facts order count known → Settled facts order (count + 1) known
  more_seen count entry known here now settled = record {
    long = settled.long;
    done = λ other seen within. by other seen within (cases_lt seen.0 count);
    rest = λ other none within. settled.rest other (λ seen. none (seen.0, (let less : seen.0 < count = seen.1 in omega arith), seen.2)) within;
  }
    where
      by : (other : ℕ) (seen : IsSeen order (count + 1) other) → other < length facts.names → (seen.0 < count) ⊎ (count ≤ seen.0)
          → slice_get known other ≡ Some (known_meaning (with_known facts known) other)
      by other seen within (inl less) = settled.done other (seen.0, less, seen.2) within
      by other seen within (inr most) =
          let less : seen.0 < count + 1 = seen.1 in
          let there : seen.0 ≡ count = omega arith in
          let same : entry ≡ other = same_Some entry other (sym here ∙ (ap (slice_get order) (sym there) ∙ seen.2)) in
          let P : ℕ → Type 0 = λ n. n < length facts.names → slice_get known n ≡ Some (known_meaning (with_known facts known) n) in
          subst P same now within

  -- what is known of a name that hasn't been dealt with matters to none that has
  agrees : (count place other entry : ℕ) (known : List (Option TypeMeaning)) (meaning : Option TypeMeaning) (type declared : types.Type)
      → place ≤ count → slice_get order place ≡ Some other → (IsSeen order count entry → ⊥)
      → declared_type facts.names facts.program other ≡ Some type → declared_type facts.names facts.program entry ≡ Some declared
      → (named : Option Meaning) → named_by facts.names type.base ≡ named → AgreesAt known (slice_set known entry meaning) named
  agrees count place other entry known meaning type declared upto at none is fresh None named = tt
  agrees count place other entry known meaning type declared upto at none is fresh (Some (meanings.BuiltIn number)) named = tt
  agrees count place other entry known meaning type declared upto at none is fresh (Some (meanings.Entry base)) named =
      sym (set_other known entry base meaning (λ same.
      let by_entry : named_by facts.names type.base ≡ Some (meanings.Entry entry) = named ∙ ap (λ n. Some (meanings.Entry n)) same in
      let under = typedef_under facts.names facts.program other entry type declared is fresh by_entry in
      let P : List (Option ℕ) → Type 0 = λ p. StandsUnder p other entry in
      let earlier = first place other entry at (subst P (sym are) under) in
      none (earlier.0, (let less : earlier.0 < place = earlier.1 in omega arith), earlier.2)))

  keeps : (count place other entry : ℕ) (known : List (Option TypeMeaning)) (meaning : Option TypeMeaning) (declared : types.Type)
      → place ≤ count → slice_get order place ≡ Some other → (IsSeen order count entry → ⊥)
      → declared_type facts.names facts.program entry ≡ Some declared
      → known_meaning (with_known facts known) other ≡ known_meaning (with_known facts (slice_set known entry meaning)) other
  keeps count place other entry known meaning declared upto at none fresh =
      ap (λ o. if is_rooted (rootedness_in facts.marked other) then o else None)
      (by (declared_type facts.names facts.program other) refl)
    where
      by : (o : Option types.Type) → declared_type facts.names facts.program other ≡ o
          → option_and_then (fine_meaning (with_known facts known)) o
          ≡ option_and_then (fine_meaning (with_known facts (slice_set known entry meaning))) o
      by None is = refl
      by (Some type) is =
          fine_same facts known (slice_set known entry meaning) type
          (agrees count place other entry known meaning type declared upto at none is fresh (named_by facts.names type.base) refl)

  -- a typedef that means something is known
  newly_known : (count entry : ℕ) (known : List (Option TypeMeaning)) (found : TypeMeaning) (declared : types.Type)
      → slice_get order count ≡ Some entry → entry < length facts.names → (IsSeen order count entry → ⊥)
      → declared_type facts.names facts.program entry ≡ Some declared
      → Some found ≡ known_meaning (with_known facts known) entry
      → Settled facts order count known → Settled facts order (count + 1) (slice_set known entry (Some found))
  newly_known count entry known found declared here within none fresh is settled = record {
    long = set_long known entry (Some found) ∙ settled.long;
    done = λ other seen inside. by other seen inside (cases_lt seen.0 count);
    rest = λ other unseen inside.
        set_other known entry other (Some found) (λ same. unseen (count, (omega arith), here ∙ ap (λ n. Some n) (sym same)))
        ∙ settled.rest other (λ seen. unseen (seen.0, (let less : seen.0 < count = seen.1 in omega arith), seen.2)) inside;
  }
    where
      by : (other : ℕ) (seen : IsSeen order (count + 1) other) → other < length facts.names → (seen.0 < count) ⊎ (count ≤ seen.0)
          → slice_get (slice_set known entry (Some found)) other ≡ Some (known_meaning (with_known facts (slice_set known entry (Some found))) other)
      by other seen inside (inl less) =
          set_other known entry other (Some found) (λ same. none (seen.0, less, seen.2 ∙ ap (λ n. Some n) same))
          ∙ (settled.done other (seen.0, less, seen.2) inside
          ∙ ap (λ m. Some m) (keeps count seen.0 other entry known (Some found) declared (omega arith) seen.2 none fresh))
      by other seen inside (inr most) =
          let less : seen.0 < count + 1 = seen.1 in
          let there : seen.0 ≡ count = omega arith in
          let same : entry ≡ other = same_Some entry other (sym here ∙ (ap (slice_get order) (sym there) ∙ seen.2)) in
          let room : entry < length known = omega (arith, settled.long) in
          let P : ℕ → Type 0 = λ n. slice_get (slice_set known entry (Some found)) n ≡ Some (known_meaning (with_known facts (slice_set known entry (Some found))) n) in
          subst P same (set_here known entry (Some found) room
          ∙ ap (λ m. Some m) (is ∙ keeps count count entry entry known (Some found) declared (omega arith) here none fresh))

  -- one name more
  pub settles : (count entry : ℕ) (known : List (Option TypeMeaning)) (meaning : Option TypeMeaning)
      → slice_get order count ≡ Some entry → meaning ≡ known_meaning (with_known facts known) entry
      → Settled facts order count known → Settled facts order (count + 1) (with_meaning known entry meaning)
  settles count entry known meaning here is settled = by_place (cases_lt entry (length facts.names))
    where
      stays : slice_set known entry meaning ≡ known
          → (entry < length facts.names → slice_get known entry ≡ Some (known_meaning (with_known facts known) entry))
          → Settled facts order (count + 1) (slice_set known entry meaning)
      stays same now = let P : List (Option TypeMeaning) → Type 0 = λ k. Settled facts order (count + 1) k in
          subst P (sym same) (more_seen count entry known here now settled)

      fresh : (m : Option TypeMeaning) → meaning ≡ m → entry < length facts.names → (IsSeen order count entry → ⊥)
          → Settled facts order (count + 1) (slice_set known entry meaning)
      fresh None none within unseen =
          let slot : slice_get known entry ≡ Some None = settled.rest entry unseen within in
          stays (set_same known entry meaning (slot ∙ ap (λ m. Some m) (sym none))) (λ inside. slot ∙ ap (λ m. Some m) (sym none ∙ is))
      fresh (Some found) some within unseen =
          let told : Some found ≡ known_meaning (with_known facts known) entry = sym some ∙ is in
          let type = typed (is_rooted (rootedness_in facts.marked entry)) (declared_type facts.names facts.program entry) refl told in
          let P : Option TypeMeaning → Type 0 = λ m. Settled facts order (count + 1) (slice_set known entry m) in
          subst P (sym some) (newly_known count entry known found type.0 here within unseen type.1 told settled)
        where
          typed : (b : Bool) (o : Option types.Type) → declared_type facts.names facts.program entry ≡ o
              → Some found ≡ (if b then option_and_then (fine_meaning (with_known facts known)) o else None)
              → (type : types.Type) × (declared_type facts.names facts.program entry ≡ Some type)
          typed false o at never = absurd (let e : Some found ≡ None = never in cc)
          typed true None at never = absurd (let e : Some found ≡ None = never in cc)
          typed true (Some type) at told = (type, at)

      by_seen : entry < length facts.names → IsSeen order count entry ⊎ (IsSeen order count entry → ⊥)
          → Settled facts order (count + 1) (slice_set known entry meaning)
      by_seen within (inl seen) =
          let slot = settled.done entry seen within in
          stays (set_same known entry meaning (slot ∙ ap (λ m. Some m) (sym is))) (λ inside. slot)
      by_seen within (inr unseen) = fresh meaning refl within unseen

      by_place : (entry < length facts.names) ⊎ (length facts.names ≤ entry) → Settled facts order (count + 1) (slice_set known entry meaning)
      by_place (inl within) = by_seen within (seen_or_not order count entry)
      by_place (inr past) =
          stays (set_past known entry meaning (omega (arith, settled.long))) (λ inside. absurd (omega arith))

-- nothing is known at first
pub begins_settled : (facts : Facts) (order : List ℕ) → Settled facts order 0 (replicate (length facts.names) None)
begins_settled facts order = record {
  long = none_long (length facts.names);
  done = λ entry seen within. absurd (let less : seen.0 < 0 = seen.1 in omega arith);
  rest = λ entry none within. none_at (length facts.names) entry within;
}

not_rooted : (rootedness : Option Rootedness) → (rootedness ≡ Some how.Rooted → ⊥) → is_rooted rootedness ≡ false
not_rooted None never = refl
not_rooted (Some how.Rooted) never = absurd (never refl)
not_rooted (Some how.OnCircle) never = refl
not_rooted (Some how.Leading) never = refl

-- where all of the order has been dealt with, each name means what is known
pub all_known : (facts : Facts) (order : List ℕ) (count : ℕ) (known : List (Option TypeMeaning)) → length order ≤ count
    → facts.parents ≡ parents_of facts.names facts.program → IsLineageOf facts.parents facts.marked order
    → Settled facts order count known → AreFacts facts.names facts.program (with_known facts known)
all_known facts order count known past are lineage settled = record {
  is_names = refl;
  is_program = refl;
  is_parents = are;
  order = order;
  lineage = lineage;
  whole = settled.long;
  means = λ entry within. by entry within (seen_or_not order count entry);
}
  where
    unseen : (entry : ℕ) → (IsSeen order count entry → ⊥) → rootedness_in facts.marked entry ≡ Some how.Rooted → ⊥
    unseen entry none rooted =
        let place = lineage.whole entry rooted in
        let less : place.0 < length order = slice_get_within order place.0 entry place.1 in
        none (place.0, omega arith, place.1)

    by : (entry : ℕ) → entry < length facts.names → IsSeen order count entry ⊎ (IsSeen order count entry → ⊥)
        → slice_get known entry ≡ Some (known_meaning (with_known facts known) entry)
    by entry within (inl seen) = settled.done entry seen within
    by entry within (inr none) =
        settled.rest entry none within
        ∙ ap (λ b. Some (if b then option_and_then (fine_meaning (with_known facts known)) (declared_type facts.names facts.program entry) else None))
        (sym (not_rooted (rootedness_in facts.marked entry) (unseen entry none)))
