-- Lists of things with names that differ.
use Rattle.std.proofs.Common.{◌≢◌, ℕ, suc, ◌<◌, ◌-◌, Bool, true, false, List, [], ◌∷◌, ◌++◌, length, map, sym, subst, arith}
use Rattle.std.specs.Prelude.{Option, Some, None, All, AllPairs, ⊤, reverse, if◌then◌else◌}
use Rattle.std.specs.List.{AllByRecursion, filter_map, cons_option}
use Rattle.std.proofs.lemmas.List.{get_or-reverse, length-reverse}
use Rattle.std.proofs.lemmas.List.Elements.{All-from_recursion, recursion_from_All}
use Rattle.std.proofs.lemmas.List.Kept.{AllPairs-cons}

-- ---- what holds of all

pub all_weaker : {X : Type 0} (P Q : X → Type 0) (xs : List X) → ((x : X) → P x → Q x) → AllByRecursion P xs → AllByRecursion Q xs
all_weaker P Q [] each all = tt
all_weaker P Q (x ∷ xs) each all = (each x all.0, all_weaker P Q xs each all.1)

pub all_both : {X : Type 0} (P Q : X → Type 0) (xs : List X) → AllByRecursion P xs → AllByRecursion Q xs → AllByRecursion (λ x. P x × Q x) xs
all_both P Q [] one other = tt
all_both P Q (x ∷ xs) one other = ((one.0, other.0), all_both P Q xs one.1 other.1)

pub all_append : {X : Type 0} (P : X → Type 0) (xs ys : List X) → AllByRecursion P xs → AllByRecursion P ys → AllByRecursion P (xs ++ ys)
all_append P [] ys one other = other
all_append P (x ∷ xs) ys one other = (one.0, all_append P xs ys one.1 other)

pub all_mapped : {X Y : Type 0} (P : Y → Type 0) (f : X → Y) (xs : List X) → AllByRecursion P (map f xs) → AllByRecursion (λ x. P (f x)) xs
all_mapped P f [] all = tt
all_mapped P f (x ∷ xs) all = (all.0, all_mapped P f xs all.1)

pub all_reverse : {X : Type 0} (P : X → Type 0) (xs : List X) → All P xs → All P (reverse xs)
all_reverse P xs all = λ k d within.
    let long = length-reverse xs in
    let inside : k < length xs = omega arith in
    subst P (sym (get_or-reverse xs k d inside)) (all (length xs - 1 - k) d (omega arith))

-- ---- names that differ

-- each name differs from all later ones
abbrev pub AreOnce : List (List ℕ) → Type 0
AreOnce [] = ⊤
AreOnce (name ∷ more) = AllByRecursion (λ other. name ≢ other) more × AreOnce more

pub once_pairs : (some : List (List ℕ)) → AreOnce some → AllPairs ◌≢◌ some
once_pairs [] once = λ i j d before within. absurd (omega arith)
once_pairs (name ∷ more) once = AllPairs-cons ◌≢◌ name more (All-from_recursion (λ other. name ≢ other) more once.0) (once_pairs more once.1)

pub pairs_once : (some : List (List ℕ)) → AllPairs ◌≢◌ some → AreOnce some
pairs_once [] pairs = tt
pairs_once (name ∷ more) pairs = (
  recursion_from_All (λ other. name ≢ other) more (λ k d within. pairs 0 (suc k) d (omega arith) (omega arith)),
  pairs_once more (λ i j d before within. pairs (suc i) (suc j) d (omega arith) (omega arith)),
)

pub once_append : (xs ys : List (List ℕ)) → AreOnce xs → AreOnce ys → AllByRecursion (λ x. AllByRecursion (λ y. x ≢ y) ys) xs → AreOnce (xs ++ ys)
once_append [] ys one other cross = other
once_append (x ∷ xs) ys one other cross = (all_append (λ y. x ≢ y) xs ys one.0 cross.0, once_append xs ys one.1 other cross.1)

-- a field or a predicate of a class, by its name
abbrev pub Item : Type 0
Item = Bool × List ℕ

-- each has another name than all later ones
abbrev pub AreApart : List Item → Type 0
AreApart [] = ⊤
AreApart (x ∷ xs) = AllByRecursion (λ y. x.1 ≢ y.1) xs × AreApart xs

pub once_apart : (xs : List Item) → AreOnce (map (λ x. x.1) xs) → AreApart xs
once_apart [] once = tt
once_apart (x ∷ xs) once = (all_mapped (λ name. x.1 ≢ name) (λ y. y.1) xs once.0, once_apart xs once.1)

pub apart_append : (xs ys : List Item) → AreApart xs → AreApart ys → AllByRecursion (λ y. AllByRecursion (λ x. x.1 ≢ y.1) xs) ys → AreApart (xs ++ ys)
apart_append [] ys one other cross = other
apart_append (x ∷ xs) ys one other cross = (
  all_append (λ y. x.1 ≢ y.1) xs ys one.0
      (all_weaker (λ y. AllByRecursion (λ x. x.1 ≢ y.1) (x ∷ xs)) (λ y. x.1 ≢ y.1) ys (λ y all. all.0) cross),
  apart_append xs ys one.1 other
      (all_weaker (λ y. AllByRecursion (λ x. x.1 ≢ y.1) (x ∷ xs)) (λ y. AllByRecursion (λ x. x.1 ≢ y.1) xs) ys (λ y all. all.1) cross),
)

-- ---- the fields and the predicates among them

abbrev pub field_name : Item → Option (List ℕ)
field_name item = if item.0 then Some item.1 else None

abbrev pub predicate_name : Item → Option (List ℕ)
predicate_name item = if item.0 then None else Some item.1

module _ (P : List ℕ → Type 0) where
  pub all_fields : (xs : List Item) → AllByRecursion (λ y. P y.1) xs → AllByRecursion P (filter_map field_name xs)
  all_fields [] all = tt
  all_fields (x ∷ xs) all = by x.0 (all_fields xs all.1)
    where
      by : (b : Bool) → AllByRecursion P (filter_map field_name xs) → AllByRecursion P (cons_option (if b then Some x.1 else None) (filter_map field_name xs))
      by true rest = (all.0, rest)
      by false rest = rest

  pub all_predicates : (xs : List Item) → AllByRecursion (λ y. P y.1) xs → AllByRecursion P (filter_map predicate_name xs)
  all_predicates [] all = tt
  all_predicates (x ∷ xs) all = by x.0 (all_predicates xs all.1)
    where
      by : (b : Bool) → AllByRecursion P (filter_map predicate_name xs) → AllByRecursion P (cons_option (if b then None else Some x.1) (filter_map predicate_name xs))
      by true rest = rest
      by false rest = (all.0, rest)

pub fields_once : (xs : List Item) → AreApart xs → AreOnce (filter_map field_name xs)
fields_once [] apart = tt
fields_once (x ∷ xs) apart = by x.0 (fields_once xs apart.1)
  where
    by : (b : Bool) → AreOnce (filter_map field_name xs) → AreOnce (cons_option (if b then Some x.1 else None) (filter_map field_name xs))
    by true rest = (all_fields (λ other. x.1 ≢ other) xs apart.0, rest)
    by false rest = rest

pub predicates_once : (xs : List Item) → AreApart xs → AreOnce (filter_map predicate_name xs)
predicates_once [] apart = tt
predicates_once (x ∷ xs) apart = by x.0 (predicates_once xs apart.1)
  where
    by : (b : Bool) → AreOnce (filter_map predicate_name xs) → AreOnce (cons_option (if b then None else Some x.1) (filter_map predicate_name xs))
    by true rest = rest
    by false rest = (all_predicates (λ other. x.1 ≢ other) xs apart.0, rest)

-- no predicate is called like a field
pub none_both : (xs : List Item) → AreApart xs → AllByRecursion (λ pred. AllByRecursion (λ field. field ≢ pred) (filter_map field_name xs)) (filter_map predicate_name xs)
none_both [] apart = tt
none_both (x ∷ xs) apart = by x.0 (none_both xs apart.1)
  where
    by : (b : Bool) → AllByRecursion (λ pred. AllByRecursion (λ field. field ≢ pred) (filter_map field_name xs)) (filter_map predicate_name xs)
        → AllByRecursion (λ pred. AllByRecursion (λ field. field ≢ pred) (cons_option (if b then Some x.1 else None) (filter_map field_name xs)))
        (cons_option (if b then None else Some x.1) (filter_map predicate_name xs))
    by true rest =
        all_both (λ pred. x.1 ≢ pred) (λ pred. AllByRecursion (λ field. field ≢ pred) (filter_map field_name xs)) (filter_map predicate_name xs)
        (all_predicates (λ pred. x.1 ≢ pred) xs apart.0) rest
    by false rest = (
      all_weaker (λ field. x.1 ≢ field) (λ field. field ≢ x.1) (filter_map field_name xs) (λ field differs same. differs (sym same))
          (all_fields (λ field. x.1 ≢ field) xs apart.0),
      rest,
    )
