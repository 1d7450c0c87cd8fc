-- Numbers that get marks one after another.
use Rattle.std.proofs.Common.{◌≡◌, ℕ, zero, suc, ◌+◌, ◌<◌, Bool, true, false, List, [], ◌∷◌, ◌++◌, length, get_or, take, slice_get, slice_set, Some, ◌↔◌, IsTrue, All, Contains, ◌⊎◌, inl, inr, refl, sym, ap, ◌∙◌, subst, arith, length-set}
use Rattle.std.specs.Prelude.{◌≢◌, AllPairs}
use Rattle.std.proofs.lemmas.List.Elements.{All-append, Contains-push, Contains-push_cases, Contains-append_left}
use Rattle.eu_name.proofs.Members.{get_below, get_within, get_all}
use Rattle.model_typing.proofs.Telling.{told_as}
use Rattle.model_rules.specs.Numbered.{AreMarked, MarksNew, MarksAllNew, AreOnce}
use Rattle.model_rules.proofs.Listing.{apart_more, apart_twice}

set_here : (xs : List Bool) (k : ℕ) (x : Bool) → k < length xs → slice_get (slice_set xs k x) k ≡ Some x
set_here [] k x below = absurd (omega arith)
set_here (y ∷ xs) zero x below = refl
set_here (y ∷ xs) (suc k) x below = set_here xs k x (omega arith)

set_other : (xs : List Bool) (k : ℕ) (x : Bool) (n : ℕ) → (n ≡ k → ⊥) → slice_get (slice_set xs k x) n ≡ slice_get xs n
set_other [] k x n apart = refl
set_other (y ∷ xs) zero x zero apart = absurd (apart refl)
set_other (y ∷ xs) zero x (suc n) apart = refl
set_other (y ∷ xs) (suc k) x zero apart = refl
set_other (y ∷ xs) (suc k) x (suc n) apart = set_other xs k x n (λ e. apart (ap suc e))

same_or_not : (one other : ℕ) → (one ≡ other) ⊎ (one ≡ other → ⊥)
same_or_not zero zero = inl refl
same_or_not zero (suc other) = inr (λ e. omega arith)
same_or_not (suc one) zero = inr (λ e. omega arith)
same_or_not (suc one) (suc other) = elim (same_or_not one other) [ inl e ↦ inl (ap suc e) | inr n ↦ inr (λ e. n (omega arith)) ]

get_at : (xs : List ℕ) (k d x : ℕ) → slice_get xs k ≡ Some x → get_or xs k d ≡ x
get_at [] k d x at = cc
get_at (y ∷ xs) zero d x at = cc
get_at (y ∷ xs) (suc k) d x at = get_at xs k d x at

false_not_true : (marks : List Bool) (n : ℕ) → slice_get marks n ≡ Some false → slice_get marks n ≡ Some true → ⊥
false_not_true marks n free marked = let both : Some false ≡ Some true = sym free ∙ marked in cc

-- before the first number there are no marks
pub none_marked : (marks : List Bool) → All (λ mark. mark ≡ false) marks → AreMarked (length marks) [] marks
none_marked marks plain = record {
  size = refl;
  within = λ k d below. absurd (omega arith);
  marked = λ number. (λ at. absurd (let same : true ≡ false = get_all (λ mark. mark ≡ false) marks number true plain at in cc), λ has. absurd (let b = has.1 in omega (arith, b)));
}

pub none_apart : AllPairs {X = ℕ} ◌≢◌ []
none_apart i j d less below same = omega (arith, below)

-- one number more
pub one_marked : (count : ℕ) (list : List ℕ) (marks : List Bool) (number : ℕ) → AreMarked count list marks → slice_get marks number ≡ Some false
    → AreMarked count (list ++ number ∷ []) (slice_set marks number true)
one_marked count list marks number are free =
    let below : number < length marks = get_below marks number false free in
    record {
      size = length-set marks number true ∙ are.size;
      within = All-append (λ n. n < count) list (number ∷ []) are.within (λ k d small. one k d small (let size = are.size in omega (arith, below, size)));
      marked = λ n. (
        λ at. elim (same_or_not n number) [
          | inl same ↦ subst (Contains (list ++ number ∷ [])) (sym same) (Contains-push list number)
          | inr apart ↦ Contains-append_left list (number ∷ []) n ((are.marked n).0 (sym (set_other marks number true n apart) ∙ at))
        ],
        λ has. elim (Contains-push_cases list number n has) [
          | inl old ↦ elim (same_or_not n number) [
            | inl same ↦ subst (λ (m : ℕ). slice_get (slice_set marks number true) m ≡ Some true) (sym same) (set_here marks number true below)
            | inr apart ↦ set_other marks number true n apart ∙ (are.marked n).1 old
          ]
          | inr same ↦ subst (λ (m : ℕ). slice_get (slice_set marks number true) m ≡ Some true) same (set_here marks number true below)
        ],
      );
    }
  where
    one : (k d : ℕ) → k < length (number ∷ []) → number < count → get_or (number ∷ []) k d < count
    one zero d small less = less
    one (suc k) d small less = absurd (omega (arith, small))

pub one_apart_more : (count : ℕ) (list : List ℕ) (marks : List Bool) (number : ℕ) → AreMarked count list marks → slice_get marks number ≡ Some false → AllPairs ◌≢◌ list
    → AllPairs ◌≢◌ (list ++ number ∷ [])
one_apart_more count list marks number are free apart =
    apart_more list number apart (λ has. false_not_true marks number free ((are.marked number).1 has))

-- a number that can't be marked stands twice, or is too great
pub not_marked : (count : ℕ) (front rest : List ℕ) (marks : List Bool) (number : ℕ) → AreMarked count front marks → (slice_get marks number ≡ Some false → ⊥)
    → number < count → AllPairs ◌≢◌ (front ++ number ∷ rest) → ⊥
not_marked count front rest marks number are not below apart =
    let at = get_within marks number (let size = are.size in omega (arith, below, size)) in by at.0 at.1
  where
    by : (mark : Bool) → slice_get marks number ≡ Some mark → ⊥
    by false free = not free
    by true marked = apart_twice front rest number ((are.marked number).0 marked) apart

-- what the marks say in the end
pub all_marked : (count : ℕ) (list : List ℕ) (marks : List Bool) → AreMarked count list marks → AllPairs ◌≢◌ list → All (λ mark. mark ≡ true) marks → AreOnce count list
all_marked count list marks are apart all = record {
  within = are.within;
  distinct = apart;
  whole = λ number below. (
      let at = get_within marks number (let size = are.size in omega (arith, below, size)) in
      let so = get_all (λ mark. mark ≡ true) marks number at.0 all at.1 in
      (are.marked number).0 (at.1 ∙ ap (λ (b : Bool). Some b) so));
}

pub marked_all : (count : ℕ) (list : List ℕ) (marks : List Bool) → AreMarked count list marks → AreOnce count list → All (λ mark. mark ≡ true) marks
marked_all count list marks are once = λ k d below. (
    let size = are.size in
    let at = (are.marked k).1 (once.whole k (omega (arith, below, size))) in
    reads marks k d true at)
  where
    reads : (xs : List Bool) (k : ℕ) (d x : Bool) → slice_get xs k ≡ Some x → get_or xs k d ≡ x
    reads [] k d x at = cc
    reads (y ∷ xs) zero d x at = cc
    reads (y ∷ xs) (suc k) d x at = reads xs k d x at

pub once_told : (count : ℕ) (list : List ℕ) (marks : List Bool) (answer : Bool) → MarksAllNew count list true marks → IsTrue answer ↔ All (λ mark. mark ≡ true) marks → IsTrue answer ↔ AreOnce count list
once_told count list marks answer (are, apart) told =
    told_as answer (All (λ mark. mark ≡ true) marks) (AreOnce count list) (all_marked count list marks are apart) (marked_all count list marks are) told

take_next : (xs : List ℕ) (i d : ℕ) → i < length xs → take (suc i) xs ≡ take i xs ++ get_or xs i d ∷ []
take_next [] i d below = absurd (omega arith)
take_next (y ∷ xs) zero d below = refl
take_next (y ∷ xs) (suc i) d below = ap (λ ys. y ∷ ys) (take_next xs i d (omega arith))

-- the marks with one number more of a list
pub marks_more : (count : ℕ) (numbers : List ℕ) (i d : ℕ) (marks new : List Bool) → i < length numbers → AreMarked count (take i numbers) marks → AllPairs ◌≢◌ (take i numbers)
    → MarksNew marks (get_or numbers i d) true new → AreMarked count (take (i + 1) numbers) new × AllPairs ◌≢◌ (take (i + 1) numbers)
marks_more count numbers i d marks new below are apart (free, same) =
    let on : i + 1 ≡ suc i = omega arith in
    let more : take (i + 1) numbers ≡ take i numbers ++ get_or numbers i d ∷ [] = ap (λ n. take n numbers) on ∙ take_next numbers i d below in (
      subst (λ (l : List ℕ). AreMarked count l new) (sym more) (subst (AreMarked count (take i numbers ++ get_or numbers i d ∷ [])) (sym same) (one_marked count (take i numbers) marks (get_or numbers i d) are free)),
      subst (AllPairs ◌≢◌) (sym more) (one_apart_more count (take i numbers) marks (get_or numbers i d) are free apart),
    )
