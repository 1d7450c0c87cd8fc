-- Statements in order of names.
use Rattle.std.proofs.Common.{◌≡◌, ℕ, ◌<◌, ◌↔◌, ◌⊎◌, zero, suc, Bool, true, false, cond, ◌||◌, List, [], ◌∷◌, ◌++◌, length, map, get_or, refl, sym, ◌∙◌, ap, subst, inl, inr, arith, Contains, true≢false}
use Rattle.std.specs.Prelude.{◌≢◌, AllPairs}
use Rattle.std.specs.Cmp.{IsStrictWeakOrder}
use Rattle.std.specs.Fn.{Called, AlwaysReturns, ReturnsEach}
use Rattle.std.specs.List.{IsDistinct, AllByRecursion, list_any}
use Rattle.indexmap.specs.IndexSet.{insert_key}
use Rattle.std.specs.List.Sorted.{IsPermutation, IsSortedBy, IsSortedByClosure}
use Rattle.std.specs.Ordering.{is_lt}
use Rattle.std.specs.declared.cmp.Ordering.{Ordering}
use Rattle.std.specs.declared.cmp.Ordering.TheVariants.{Less, Equal, Greater}
use Rattle.std.proofs.lemmas.List.{get_or-map, length-map}
use Rattle.std.proofs.lemmas.List.Elements.{All-from_recursion}
use Rattle.std.proofs.lemmas.List.Sorted.{sorted_far, IsPermutation-map}
use Rattle.std.proofs.lemmas.Map.Keys.{IsDistinct-IsPermutation}
use Rattle.eu_name.specs.declared.name.VarName.{VarName}
use Rattle.eu_name.specs.Laws.{DecidesEquality}
use Rattle.eu_name.specs.NameOrder.{IsVarBefore, IsStrictTotalOrder}
use Rattle.plan_text.specs.PlanTexts.{IsStatedBefore}
use Rattle.plan_text.specs.Lines.{stated_name}
use Rattle.eu_name.proofs.Ordered.{ordered_tail, contains_head, contains_later}
use Rattle.plan_core.specs.declared.gathering.Named.{Named}
use Rattle.plan_core.specs.Gathering.{said_of, AreNamed, AreNamesOnce}
use denote.Param.Members.{Mut}
use denote.Ref.{Bor}

-- ---- the order of names as a test

pub first_holds : {A B : Type 0} → A ⊎ B → Bool
first_holds (inl a) = true
first_holds (inr b) = false

abbrev pub goes_first : IsStrictTotalOrder IsVarBefore → VarName → VarName → Bool
goes_first law a b = first_holds (law.total a b)

was_first : {A B : Type 0} (cases : A ⊎ B) → first_holds cases ≡ true → A
unfolding first_holds
was_first (inl a) is = a
was_first (inr b) is = cc

was_second : {A B : Type 0} (cases : A ⊎ B) → first_holds cases ≡ false → B
unfolding first_holds
was_second (inl a) is = cc
was_second (inr b) is = b

is_first : {A B : Type 0} (cases : A ⊎ B) → (B → ⊥) → first_holds cases ≡ true
unfolding first_holds
is_first (inl a) never = refl
is_first (inr b) never = absurd (never b)

is_second : {A B : Type 0} (cases : A ⊎ B) → (A → ⊥) → first_holds cases ≡ false
unfolding first_holds
is_second (inl a) never = absurd (never a)
is_second (inr b) never = refl

not_behind : (law : IsStrictTotalOrder IsVarBefore) (a b : VarName) → IsVarBefore a b → (a ≡ b) ⊎ IsVarBefore b a → ⊥
not_behind law a b is (inl same) = law.irreflexive a (subst (IsVarBefore a) (sym same) is)
not_behind law a b is (inr back) = law.irreflexive a (law.transitive a b a is back)

abbrev pub by_name : IsStrictTotalOrder IsVarBefore → Named → Named → Bool
by_name law one other = goes_first law one.name other.name

weak_order : (law : IsStrictTotalOrder IsVarBefore) → IsStrictWeakOrder (by_name law)
weak_order law = record {
  one_way = λ x y is. is_second (law.total y.name x.name) (λ back. not_behind law x.name y.name (was_first (law.total x.name y.name) is) (inr back));
  chain = λ x y z first second. is_second (law.total x.name z.name) (λ less. chained x y z (was_second (law.total x.name y.name) first) (was_second (law.total y.name z.name) second) less);
}
  where
    chained : (x y z : Named) → (x.name ≡ y.name) ⊎ IsVarBefore y.name x.name → (y.name ≡ z.name) ⊎ IsVarBefore z.name y.name → IsVarBefore x.name z.name → ⊥
    chained x y z (inl same) (inl same') less = law.irreflexive x.name (subst (IsVarBefore x.name) (sym (same ∙ same')) less)
    chained x y z (inl same) (inr back) less = not_behind law x.name z.name less (inr (subst (IsVarBefore z.name) (sym same) back))
    chained x y z (inr back) (inl same') less = not_behind law x.name z.name less (inr (subst (λ n. IsVarBefore n x.name) same' back))
    chained x y z (inr back) (inr back') less = not_behind law x.name z.name less (inr (law.transitive z.name y.name x.name back' back))

-- ---- sorting

always : {F X R : Type 0} (g : Mut F X R) (P : X → R → Type 0) (f : F) → ((a : X) (r : R) (f' : F) → Called g f a r f' → P a r × (f' ≡ f)) → AlwaysReturns g P f
always {F = F} {X = X} {R = R} g P f says = record { at = each }
  where
    each : (xs : List X) → ReturnsEach g P f xs
    each [] = tt
    each (a ∷ xs) = λ r f' called. let said = says a r f' called in (said.0, subst (λ h. ReturnsEach g P h xs) (sym said.1) (each xs))

less_is : (law : IsStrictTotalOrder IsVarBefore) (a b : VarName) (r : Ordering) → (r ≡ Less) ↔ IsVarBefore a b → is_lt r ≡ goes_first law a b
less_is law a b Less says = sym (is_first (law.total a b) (not_behind law a b (says.0 refl)))
less_is law a b Equal says = sym (is_second (law.total a b) (λ less. let both : Equal ≡ Less = says.1 less in cc))
less_is law a b Greater says = sym (is_second (law.total a b) (λ less. let both : Greater ≡ Less = says.1 less in cc))

-- what the sort leaves is sorted by names
pub sorted_names : {F : Type 0} (g : Mut F (Bor Named × (Bor Named × Unit {0})) Ordering) (f : F) (said : List Named) (law : IsStrictTotalOrder IsVarBefore) → IsSortedByClosure g f said
    → ((a : Bor Named × (Bor Named × Unit {0})) (r : Ordering) (f' : F) → Called g f a r f' → ((r ≡ Less) ↔ IsVarBefore a.0.now.name a.1.0.now.name) × (f' ≡ f)) → IsSortedBy (by_name law) said
sorted_names g f said law sorted says =
    sorted (by_name law) (weak_order law) (always g (λ a r. is_lt r ≡ by_name law a.0.now a.1.0.now) f (λ a r f' called. let said = says a r f' called in (less_is law a.0.now.name a.1.0.now.name r said.0, said.1)))

-- ---- names that stand once

flips : (test : VarName → VarName → Bool) → DecidesEquality test → (x y : VarName) → test x y ≡ test y x
flips test tells x y = by (test x y) (test y x) refl refl
  where
    by : (b c : Bool) → test x y ≡ b → test y x ≡ c → b ≡ c
    by true true one other = refl
    by false false one other = refl
    by true false one other = absurd (true≢false (sym ((tells y x).1 (sym ((tells x y).0 one))) ∙ other))
    by false true one other = absurd (true≢false (sym ((tells x y).1 (sym ((tells y x).0 other))) ∙ one))

differ : (test : VarName → VarName → Bool) → DecidesEquality test → (x y : VarName) → (x ≡ y → ⊥) → test x y ≡ false
differ test tells x y unlike = by (test x y) refl
  where
    by : (b : Bool) → test x y ≡ b → b ≡ false
    by true same = absurd (unlike ((tells x y).0 same))
    by false same = refl

distinct : (test : VarName → VarName → Bool) → DecidesEquality test → (said : List Named) → AreNamesOnce said → IsDistinct test (map (λ (n : Named). n.name) said)
unfolding IsDistinct
distinct test tells [] once = tt
distinct test tells (one ∷ said) once = (others said (λ k d within. once 0 (suc k) d (omega arith) (omega arith)), distinct test tells said (ordered_tail (λ (a b : Named). a.name ≢ b.name) one said once))
  where
    others : (more : List Named) → ((k : ℕ) (d : Named) → k < length more → one.name ≡ (get_or more k d).name → ⊥) → AllByRecursion (λ y. test one.name y ≡ false) (map (λ (n : Named). n.name) more)
    others [] unlike = tt
    others (other ∷ more) unlike = (differ test tells one.name other.name (unlike 0 other (omega arith)), others more (λ k d within. unlike (suc k) d (omega arith)))

apart : (test : VarName → VarName → Bool) → DecidesEquality test → (said : List Named) → IsDistinct test (map (λ (n : Named). n.name) said) → AreNamesOnce said
unfolding IsDistinct
apart test tells [] once i j d less within same = omega (arith, within)
apart test tells (one ∷ said) once i zero d less within same = omega (arith, less)
apart test tells (one ∷ said) once zero (suc j) d less within same =
    let all = All-from_recursion (λ y. test one.name y ≡ false) (map (λ (n : Named). n.name) said) once.0 in
    let there : j < length (map (λ (n : Named). n.name) said) = omega (arith, within, length-map said (λ (n : Named). n.name)) in
    let at : get_or (map (λ (n : Named). n.name) said) j d.name ≡ (get_or said j d).name = get_or-map (λ (n : Named). n.name) said j d d.name (omega (arith, within)) in
    true≢false (sym ((tells one.name (get_or said j d).name).1 same) ∙ subst (λ n. test one.name n ≡ false) at (all j d.name there))
apart test tells (one ∷ said) once (suc i) (suc j) d less within same = apart test tells said once.1 i j d (omega (arith, less)) (omega (arith, within)) same

-- they do so in any order
pub once_sorted : (test : VarName → VarName → Bool) → DecidesEquality test → (old new : List Named) → IsPermutation old new → AreNamesOnce old → AreNamesOnce new
once_sorted test tells old new moved once =
    apart test tells new (IsDistinct-IsPermutation test (flips test tells) (map (λ (n : Named). n.name) old) (map (λ (n : Named). n.name) new) (IsPermutation-map (λ (n : Named). n.name) old new moved) (distinct test tells old once))

-- ---- statements in order

-- sorted names that stand once are in order
pub names_in_order : (law : IsStrictTotalOrder IsVarBefore) (said : List Named) → IsSortedBy (by_name law) said → AreNamesOnce said → AreNamed said → AllPairs IsStatedBefore (said_of said)
names_in_order law said sorted once named i j d less within =
    let there : j < length said = omega (arith, within, length-map said (λ (n : Named). n.statement)) in
    let e : Named = record { name = stated_name d; statement = d } in
    let first = get_or-map (λ (n : Named). n.statement) said i e d (omega (arith, less, there)) in
    let second = get_or-map (λ (n : Named). n.statement) said j e d there in
    let ordered : IsVarBefore (get_or said i e).name (get_or said j e).name = by (was_second (law.total (get_or said j e).name (get_or said i e).name) (sorted_far (by_name law) (weak_order law) said sorted i j e (omega (arith, less)) there)) in
    subst (λ s. IsVarBefore (stated_name s) (stated_name (get_or (said_of said) j d))) (sym first)
    (subst (λ s. IsVarBefore (stated_name (get_or said i e).statement) (stated_name s)) (sym second)
    (subst (λ n. IsVarBefore n (stated_name (get_or said j e).statement)) (named i e (omega (arith, less, there)))
    (subst (λ n. IsVarBefore (get_or said i e).name n) (named j e there) ordered)))
  where
    by : ((get_or said j (record { name = stated_name d; statement = d })).name ≡ (get_or said i (record { name = stated_name d; statement = d })).name)
        ⊎ IsVarBefore (get_or said i (record { name = stated_name d; statement = d })).name (get_or said j (record { name = stated_name d; statement = d })).name
        → IsVarBefore (get_or said i (record { name = stated_name d; statement = d })).name (get_or said j (record { name = stated_name d; statement = d })).name
    by (inl same) = absurd (once i j (record { name = stated_name d; statement = d }) less (omega (arith, within, length-map said (λ (n : Named). n.statement))) (sym same))
    by (inr before) = before

-- a name that wasn't among them comes last
pub comes_last : (test : VarName → VarName → Bool) → DecidesEquality test → (names : List VarName) (name : VarName) → (Contains names name → ⊥) → insert_key test names name ≡ names ++ name ∷ []
comes_last test tells names name fresh = ap (λ b. cond b names (names ++ name ∷ [])) (absent names fresh)
  where
    absent : (names : List VarName) → (Contains names name → ⊥) → list_any (test name) names ≡ false
    absent [] fresh = refl
    absent (one ∷ names) fresh = by (test name one) refl (absent names (λ has. fresh (contains_later one name names has)))
      where
        by : (b : Bool) → test name one ≡ b → list_any (test name) names ≡ false → b || list_any (test name) names ≡ false
        by true same rest = absurd (fresh (subst (Contains (one ∷ names)) (sym ((tells name one).0 same)) (contains_head one names)))
        by false differs rest = rest
