-- Numbers put in their places.
use Rattle.std.proofs.Common.{◌≡◌, suc, Bool, true, false, List, [], ◌∷◌, ℤ, ◌≤ℤ◌, ◌<ℤ◌, ◌⊎◌, inl, inr, refl, sym, ap, ◌∙◌, subst, arith}
use Rattle.std.specs.Prelude.{Contains, All, int_lt, if◌then◌else◌, Ok}
use Rattle.std.proofs.lemmas.Int.{ints}
use Rattle.std.proofs.lemmas.List.Kept.{AllPairs-cons}
use Rattle.std.proofs.lemmas.List.Elements.{All-cons}
use Rattle.domain_core.specs.Domain.{AreAscending, Domain, Set}
use Rattle.domain_core.specs.Lists.{AreMembersOf, HaveSameItems, MakesSet}
use Rattle.domain_core.proofs.Ascending.{contains_head, contains_later, contains_cases, contains_none, ascending_tail, same_ascending}
use Rattle.nddl_declarations.specs.Ascending.{with_placed, ascending_of}

-- how a number stands to the first of others
data Beside (number least : ℤ) : Type 0 where
  below : int_lt number least ≡ true → number <ℤ least → Beside number least
  above : int_lt number least ≡ false → int_lt least number ≡ true → least <ℤ number → Beside number least
  equal : int_lt number least ≡ false → int_lt least number ≡ false → number ≡ least → Beside number least

beside : (number least : ℤ) → Beside number least
beside number least = by (int_lt number least) (int_lt least number) refl refl
  where
    by : (before behind : Bool) → int_lt number least ≡ before → int_lt least number ≡ behind → Beside number least
    by true behind before after = below before (grind (arith, ints))
    by false true before after = above before after (grind (arith, ints))
    by false false before after =
        equal before after
        (let most : least ≤ℤ number = grind (arith, ints) in let least_is : number ≤ℤ least = grind (arith, ints) in omega (arith, ints, most, least_is))

-- what is so of the number and of the others is so of all
placed_all : (P : ℤ → Type 0) (number : ℤ) (xs : List ℤ) → P number → All P xs → All P (with_placed number xs)
placed_all P number [] is all = All-cons P number [] is all
placed_all P number (x ∷ xs) is all =
    by (int_lt number x) (int_lt x number) (placed_all P number xs is (λ k d within. all (suc k) d (omega arith)))
  where
    by : (before behind : Bool) → All P (with_placed number xs)
        → All P (if before then number ∷ (x ∷ xs) else (if behind then x ∷ with_placed number xs else x ∷ xs))
    by true behind rest = All-cons P number (x ∷ xs) is all
    by false true rest = All-cons P x (with_placed number xs) (all 0 x (omega arith)) rest
    by false false rest = all

all_above : (x : ℤ) (xs : List ℤ) → AreAscending (x ∷ xs) → All (λ later. x <ℤ later) xs
all_above x xs p = λ k d within. p 0 (suc k) d (omega arith) (omega arith)

-- they stay in order
placed_ascending : (number : ℤ) (xs : List ℤ) → AreAscending xs → AreAscending (with_placed number xs)
placed_ascending number [] p = AllPairs-cons ◌<ℤ◌ number [] (λ k d within. absurd (omega arith)) p
placed_ascending number (x ∷ xs) p = by (beside number x) (placed_ascending number xs (ascending_tail x xs p))
  where
    by : Beside number x → AreAscending (with_placed number xs) → AreAscending (with_placed number (x ∷ xs))
    by (below before less) rest =
        rw before
        (AllPairs-cons ◌<ℤ◌ number (x ∷ xs)
        (All-cons (λ later. number <ℤ later) x xs less (λ k d within. (let more = all_above x xs p k d within in omega (arith, ints, less, more)))) p)
    by (equal before is same) rest = rw (before, is) p
    by (above before is more) rest =
        rw (before, is)
        (AllPairs-cons ◌<ℤ◌ x (with_placed number xs) (placed_all (λ later. x <ℤ later) number xs more (all_above x xs p)) rest)

-- what is there
placed_has : (number : ℤ) (xs : List ℤ) (value : ℤ) → (number ≡ value) ⊎ Contains xs value → Contains (with_placed number xs) value
placed_has number [] value (inl same) = subst (Contains (number ∷ [])) same (contains_head number [])
placed_has number [] value (inr there) = absurd (contains_none value there)
placed_has number (x ∷ xs) value is = by (beside number x) is (placed_has number xs value)
  where
    by : Beside number x → (number ≡ value) ⊎ Contains (x ∷ xs) value
        → ((number ≡ value) ⊎ Contains xs value → Contains (with_placed number xs) value) → Contains (with_placed number (x ∷ xs)) value
    by (below before less) (inl same) rest = rw before (subst (Contains (number ∷ (x ∷ xs))) same (contains_head number (x ∷ xs)))
    by (below before less) (inr there) rest = rw before (contains_later number value (x ∷ xs) there)
    by (equal before e here) (inl same) rest = rw (before, e) (subst (Contains (x ∷ xs)) (sym here ∙ same) (contains_head x xs))
    by (equal before e here) (inr there) rest = rw (before, e) there
    by (above before e more) (inl same) rest = rw (before, e) (contains_later x value (with_placed number xs) (rest (inl same)))
    by (above before e more) (inr there) rest =
        rw (before, e)
        (elim (contains_cases x value xs there) [
          | inl first ↦ subst (Contains (x ∷ with_placed number xs)) first (contains_head x (with_placed number xs))
          | inr later ↦ contains_later x value (with_placed number xs) (rest (inr later))
        ])

-- and nothing else
has_placed : (number : ℤ) (xs : List ℤ) (value : ℤ) → Contains (with_placed number xs) value → (number ≡ value) ⊎ Contains xs value
has_placed number [] value there = contains_cases number value [] there
has_placed number (x ∷ xs) value there = by (int_lt number x) (int_lt x number) there (has_placed number xs value)
  where
    by : (before behind : Bool) → Contains (if before then number ∷ (x ∷ xs) else (if behind then x ∷ with_placed number xs else x ∷ xs)) value
        → (Contains (with_placed number xs) value → (number ≡ value) ⊎ Contains xs value) → (number ≡ value) ⊎ Contains (x ∷ xs) value
    by true behind there rest = contains_cases number value (x ∷ xs) there
    by false true there rest = elim (contains_cases x value (with_placed number xs) there) [
      | inl first ↦ inr (subst (Contains (x ∷ xs)) first (contains_head x xs))
      | inr later ↦ elim (rest later) [ inl same ↦ inl same | inr old ↦ inr (contains_later x value xs old) ]
    ]
    by false false there rest = inr there

pub ascending_is : (values : List ℤ) → AreAscending (ascending_of values)
unfolding ascending_of
ascending_is [] = λ i j d before within. absurd (omega arith)
ascending_is (number ∷ more) = placed_ascending number (ascending_of more) (ascending_is more)

pub ascending_has : (values : List ℤ) → HaveSameItems (ascending_of values) values
unfolding ascending_of
ascending_has [] value = (λ there. there, λ there. there)
ascending_has (number ∷ more) value = (
  λ there. elim (has_placed number (ascending_of more) value there) [
    | inl same ↦ subst (Contains (number ∷ more)) same (contains_head number more)
    | inr old ↦ contains_later number value more ((ascending_has more value).0 old)
  ],
  λ there. placed_has number (ascending_of more) value (elim (contains_cases number value more there) [
    | inl same ↦ inl same
    | inr old ↦ inr ((ascending_has more value).1 old)
  ]),
)

-- the set that a list gives has its numbers in ascending order
pub made_ascending : (values : List ℤ) (domain : Domain) → MakesSet values (Ok domain) → domain ≡ Set (ascending_of values)
made_ascending values domain made =
    let members = made.0 in
    let are : AreMembersOf values members = made.2 in
    made.1 ∙ ap Set (same_ascending members (ascending_of values) are.are.ascending (ascending_is values)
    (λ v there. (ascending_has values v).1 ((are.same v).0 there)) (λ v there. (are.same v).1 ((ascending_has values v).0 there)))
