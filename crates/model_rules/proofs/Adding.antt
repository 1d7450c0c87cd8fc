-- Things put behind others that they differ from.
use Rattle.std.proofs.Common.{◌≡◌, ℕ, zero, suc, ◌+◌, ◌<◌, ◌≤◌, Bool, true, false, not, cond, ◌||◌, ◌↔◌, List, [], ◌∷◌, ◌++◌, length, get_or, take, drop, map, IsTrue, Contains, ◌⊎◌, inl, inr, refl, sym, ap, ◌∙◌, subst, arith, append_assoc, append-nil}
use Rattle.std.specs.Prelude.{◌≢◌, AllPairs}
use Rattle.std.specs.List.{flat_map, list_any}
use Rattle.std.proofs.lemmas.List.{take_all, get_or_default, get_or-append-add}
use Rattle.std.proofs.lemmas.List.Elements.{Contains-get_or, Contains-append_cases, Contains-append_left, Contains-append_right, Contains-push, Contains-push_cases, All-get_or, All-contains}
use Rattle.std.proofs.lemmas.List.Quantifiers.{all_pairs_push}
use Rattle.indexmap.specs.IndexSet.{insert_key}
use Rattle.eu_name.specs.Laws.{DecidesEquality}
use Rattle.model_core.specs.declared.class.Pred.{Pred}
use Rattle.model_core.proofs.Distinct.{pairs_front}
use Rattle.model_rules.specs.Distinct.{AddsNew, AddsAll, AreApart, pred_key}

-- ---- members

contains_none : {K : Type 0} (x : K) → Contains [] x → ⊥
contains_none x has = omega (arith, has.1)

contains_head : {K : Type 0} (x : K) (xs : List K) → Contains (x ∷ xs) x
contains_head x xs = (0, omega arith, refl)

contains_later : {K : Type 0} (y x : K) (xs : List K) → Contains xs x → Contains (y ∷ xs) x
contains_later y x xs has = (suc has.0, omega (arith, has.1), has.2)

contains_cases : {K : Type 0} (y x : K) (xs : List K) → Contains (y ∷ xs) x → (y ≡ x) ⊎ Contains xs x
contains_cases y x xs (zero, below, is) = inl is
contains_cases y x xs (suc k, below, is) = inr (k, omega (arith, below), is)

module _ {K : Type 0} (test : K → K → Bool) (tells : DecidesEquality test) where
  there : (names : List K) (name : K) → list_any (test name) names ≡ true → Contains names name
  there [] name holds = cc
  there (one ∷ names) name holds = by (test name one) refl holds (there names name)
    where
      by : (b : Bool) → test name one ≡ b → b || list_any (test name) names ≡ true → (list_any (test name) names ≡ true → Contains names name) → Contains (one ∷ names) name
      by true same holds rest = subst (λ n. Contains (one ∷ names) n) (sym ((tells name one).0 same)) (contains_head one names)
      by false differ holds rest = contains_later one name names (rest holds)

  absent : (names : List K) (name : K) → list_any (test name) names ≡ false → Contains names name → ⊥
  absent [] name fails has = contains_none name has
  absent (one ∷ names) name fails has = by (test name one) refl fails (contains_cases one name names has) (absent names name)
    where
      by : (b : Bool) → test name one ≡ b → b || list_any (test name) names ≡ false → (one ≡ name) ⊎ Contains names name → (list_any (test name) names ≡ false → Contains names name → ⊥) → ⊥
      by true same fails cases rest = cc
      by false differ fails (inl is) rest = let yes : test name one ≡ true = (tells name one).1 (sym is) in cc
      by false differ fails (inr has) rest = rest fails has

  pub adds_new : (old new : List K) (key : K) (is_new : Bool) → is_new ≡ not (list_any (test key) old) → new ≡ insert_key test old key → AddsNew old key is_new new
  adds_new old new key is_new told keys = by is_new (list_any (test key) old) refl told keys
    where
      by : (r b : Bool) → list_any (test key) old ≡ b → r ≡ not b → new ≡ cond b old (old ++ key ∷ []) → AddsNew old key r new
      by true true is told keys = cc
      by true false is told keys = (absent old key is, keys)
      by false true is told keys = (there old key is, keys)
      by false false is told keys = cc

pub adds_true : {K : Type 0} (old new : List K) (key : K) (is_new : Bool) → is_new ≡ true → AddsNew old key is_new new → AddsNew old key true new
adds_true old new key is_new is adds = subst (λ (b : Bool). AddsNew old key b new) is adds

pub adds_false : {K : Type 0} (old new : List K) (key : K) (is_new : Bool) → is_new ≡ false → AddsNew old key is_new new → Contains old key
adds_false old new key is_new is adds = (subst (λ (b : Bool). AddsNew old key b new) is adds).0

-- ---- places

pub cut_at : {K : Type 0} (xs : List K) (i : ℕ) (x : K) → i < length xs → x ≡ get_or xs i x → xs ≡ take i xs ++ x ∷ drop (suc i) xs
cut_at [] i x below is = absurd (omega arith)
cut_at (y ∷ xs) zero x below is = ap (λ z. z ∷ xs) (sym is)
cut_at (y ∷ xs) (suc i) x below is = ap (λ ys. y ∷ ys) (cut_at xs i x (omega arith) is)

take_next : {K : Type 0} (xs : List K) (i : ℕ) (x : K) → i < length xs → x ≡ get_or xs i x → take (suc i) xs ≡ take i xs ++ x ∷ []
take_next [] i x below is = absurd (omega arith)
take_next (y ∷ xs) zero x below is = ap (λ z. z ∷ []) (sym is)
take_next (y ∷ xs) (suc i) x below is = ap (λ ys. y ∷ ys) (take_next xs i x (omega arith) is)

pub take_more : {K : Type 0} (xs : List K) (i : ℕ) (x : K) → i < length xs → x ≡ get_or xs i x → take (i + 1) xs ≡ take i xs ++ x ∷ []
take_more xs i x below is = let on : i + 1 ≡ suc i = omega arith in ap (λ n. take n xs) on ∙ take_next xs i x below is

pub map-append : {X K : Type 0} (f : X → K) (xs ys : List X) → map f (xs ++ ys) ≡ map f xs ++ map f ys
map-append f [] ys = refl
map-append f (x ∷ xs) ys = ap (λ l. f x ∷ l) (map-append f xs ys)

get_left : {K : Type 0} (xs ys : List K) (k : ℕ) (d : K) → k < length xs → get_or (xs ++ ys) k d ≡ get_or xs k d
get_left [] ys k d below = absurd (omega arith)
get_left (x ∷ xs) ys zero d below = refl
get_left (x ∷ xs) ys (suc k) d below = get_left xs ys k d (omega arith)

get_next : {K : Type 0} (xs ys : List K) (y d : K) → get_or (xs ++ y ∷ ys) (length xs) d ≡ y
get_next [] ys y d = refl
get_next (x ∷ xs) ys y d = get_next xs ys y d

length_next : {K : Type 0} (xs ys : List K) (y : K) → length xs < length (xs ++ y ∷ ys)
length_next [] ys y = omega arith
length_next (x ∷ xs) ys y = omega (arith, length_next xs ys y)

-- ---- lists in which nothing stands twice

-- what stands in front stands twice
pub twice : {K : Type 0} (front rest : List K) (y : K) → Contains front y → AllPairs ◌≢◌ (front ++ y ∷ rest) → ⊥
twice front rest y has apart =
    apart has.0 (length front) y has.1 (length_next front rest y)
    (get_left front (y ∷ rest) has.0 y has.1 ∙ (has.2 ∙ sym (get_next front rest y y)))

pub apart_more : {K : Type 0} (front : List K) (y : K) → AllPairs ◌≢◌ front → (Contains front y → ⊥) → AllPairs ◌≢◌ (front ++ y ∷ [])
apart_more front y apart new =
    all_pairs_push ◌≢◌ front y apart (λ k d below same. new (subst (Contains front) same (Contains-get_or front k d below)))

module _ {X K : Type 0} (f : X → K) (old : List K) (xs : List X) where
  -- the things so far are behind the old ones
  pub record AddedUpTo (i : ℕ) (now : List K) : Type 0 where
    pub are : now ≡ old ++ map f (take i xs)
    pub apart : AllPairs ◌≢◌ now

  pub added_none : AllPairs ◌≢◌ old → AddedUpTo 0 old
  added_none apart = record { are = sym (append-nil old); apart = apart }

  pub added_more : (i : ℕ) (x : X) (now new : List K) → i < length xs → x ≡ get_or xs i x → AddedUpTo i now → AddsNew now (f x) true new → AddedUpTo (i + 1) new
  added_more i x now new below is so_far (fresh, same) = record {
    are = same ∙ (ap (λ l. l ++ f x ∷ []) so_far.are ∙ (append_assoc old (map f (take i xs)) (f x ∷ [])
        ∙ ap (λ l. old ++ l) (sym (map-append f (take i xs) (x ∷ [])) ∙ ap (map f) (sym (take_more xs i x below is)))));
    apart = subst (AllPairs ◌≢◌) (sym same) (apart_more now (f x) so_far.apart fresh);
  }

  pub added_twice : (i : ℕ) (x : X) (now : List K) → i < length xs → x ≡ get_or xs i x → AddedUpTo i now → Contains now (f x) → AllPairs ◌≢◌ (old ++ map f xs) → ⊥
  added_twice i x now below is so_far has apart =
      twice now (map f (drop (suc i) xs)) (f x) has (subst (AllPairs ◌≢◌) whole apart)
    where
      whole : old ++ map f xs ≡ now ++ f x ∷ map f (drop (suc i) xs)
      whole =
          ap (λ l. old ++ map f l) (cut_at xs i x below is)
          ∙ (ap (λ l. old ++ l) (map-append f (take i xs) (x ∷ drop (suc i) xs))
          ∙ (sym (append_assoc old (map f (take i xs)) (f x ∷ map f (drop (suc i) xs)))
          ∙ ap (λ l. l ++ f x ∷ map f (drop (suc i) xs)) (sym so_far.are)))

  pub added_all : (i : ℕ) (now : List K) → length xs ≤ i → AddedUpTo i now → AddsAll old (map f xs) true now
  added_all i now past so_far = (so_far.are ∙ ap (λ l. old ++ map f l) (take_all i xs past), so_far.apart)

-- what was put behind nothing differs
pub apart_alone : {X K : Type 0} (f : X → K) (xs : List X) (i : ℕ) (now : List K) → length xs ≤ i → AddedUpTo f [] xs i now → AllPairs ◌≢◌ (map f xs)
apart_alone f xs i now past so_far = let added = added_all f [] xs i now past so_far in subst (AllPairs ◌≢◌) added.0 added.1

-- an answer on what is put behind nothing
pub told_apart : {K : Type 0} (more new : List K) (answer : Bool) → AddsAll [] more answer new → IsTrue answer ↔ AllPairs ◌≢◌ more
told_apart more new true (same, apart) = (λ yes. subst (AllPairs ◌≢◌) same apart, λ is. refl)
told_apart more new false not_apart = (λ yes. absurd (cc), λ is. absurd (not_apart is))

pub flat-append : {X K : Type 0} (f : X → List K) (xs ys : List X) → flat_map f (xs ++ ys) ≡ flat_map f xs ++ flat_map f ys
flat-append f [] ys = refl
flat-append f (x ∷ xs) ys = ap (λ l. f x ++ l) (flat-append f xs ys) ∙ sym (append_assoc (f x) (flat_map f xs) (flat_map f ys))

pub map_same : {K : Type 0} (xs : List K) → map (λ x. x) xs ≡ xs
map_same [] = refl
map_same (x ∷ xs) = ap (λ l. x ∷ l) (map_same xs)

-- what one thing gives stands there already
pub flat_twice : {X K : Type 0} (f : X → List K) (old now : List K) (xs : List X) (i : ℕ) (x : X) → i < length xs → x ≡ get_or xs i x → now ≡ old ++ flat_map f (take i xs)
    → (AllPairs ◌≢◌ (now ++ map (λ k. k) (f x)) → ⊥) → AllPairs ◌≢◌ (old ++ flat_map f xs) → ⊥
flat_twice f old now xs i x below is are not apart =
    not (subst (λ l. AllPairs ◌≢◌ (now ++ l)) (sym (map_same (f x))) (pairs_front ◌≢◌ (now ++ f x) (flat_map f (drop (suc i) xs)) (subst (AllPairs ◌≢◌) whole apart)))
  where
    whole : old ++ flat_map f xs ≡ (now ++ f x) ++ flat_map f (drop (suc i) xs)
    whole =
        ap (λ l. old ++ flat_map f l) (cut_at xs i x below is)
        ∙ (ap (λ l. old ++ l) (flat-append f (take i xs) (x ∷ drop (suc i) xs))
        ∙ (sym (append_assoc old (flat_map f (take i xs)) (f x ++ flat_map f (drop (suc i) xs)))
        ∙ (ap (λ l. l ++ (f x ++ flat_map f (drop (suc i) xs))) (sym are)
        ∙ sym (append_assoc now (f x) (flat_map f (drop (suc i) xs))))))

-- ---- predicates by class and name

get-map : {X K : Type 0} (f : X → K) (xs : List X) (k : ℕ) (d : X) → get_or (map f xs) k (f d) ≡ f (get_or xs k d)
get-map f [] k d = refl
get-map f (x ∷ xs) zero d = refl
get-map f (x ∷ xs) (suc k) d = get-map f xs k d

length-map : {X K : Type 0} (f : X → K) (xs : List X) → length (map f xs) ≡ length xs
length-map f [] = refl
length-map f (x ∷ xs) = let e = length-map f xs in omega (arith, e)

pub keys_apart : (preds : List Pred) → AreApart preds → AllPairs ◌≢◌ (map pred_key preds)
keys_apart preds apart i j d less below same =
    let within : j < length preds = omega (arith, below, length-map pred_key preds) in
    let p : Pred = get_or preds i (first preds within) in
    let q : Pred = get_or preds j (first preds within) in
    let one : get_or (map pred_key preds) i d ≡ pred_key p = read i (omega (arith, less, within)) within in
    let other : get_or (map pred_key preds) j d ≡ pred_key q = read j within within in
    let keys : pred_key p ≡ pred_key q = sym one ∙ (same ∙ other) in
    apart i j (first preds within) less within (ap (λ (k : ℕ × List ℕ). k.0) keys) (ap (λ (k : ℕ × List ℕ). k.1) keys)
  where
    first : (list : List Pred) → j < length list → Pred
    first [] below = absurd (omega (arith, below))
    first (pred ∷ list) below = pred

    read : (k : ℕ) → k < length preds → (within : j < length preds) → get_or (map pred_key preds) k d ≡ pred_key (get_or preds k (first preds within))
    read k small within =
        get_or_default (map pred_key preds) k d (pred_key (first preds within)) (omega (arith, small, length-map pred_key preds)) ∙ get-map pred_key preds k (first preds within)

pub apart_keys : (preds : List Pred) → AllPairs ◌≢◌ (map pred_key preds) → AreApart preds
apart_keys preds apart i j d less below classes names =
    apart i j (pred_key d) less (omega (arith, below, length-map pred_key preds))
    (get-map pred_key preds i d ∙ ((λ k. (classes k, names k)) ∙ sym (get-map pred_key preds j d)))

-- nothing stands twice in two lists joined, if it doesn't in either and they have nothing in common
pub apart_joined : {K : Type 0} (xs ys : List K) → AllPairs ◌≢◌ xs → AllPairs ◌≢◌ ys → ((k : K) → Contains xs k → Contains ys k → ⊥) → AllPairs ◌≢◌ (xs ++ ys)
apart_joined [] ys one other disjoint = other
apart_joined (x ∷ xs) ys one other disjoint =
    both (apart_joined xs ys (λ i j d less below. one (suc i) (suc j) d (omega (arith, less)) (omega (arith, below))) other (λ k a b. disjoint k (contains_later x k xs a) b))
  where
    new : Contains (xs ++ ys) x → ⊥
    new has = elim (Contains-append_cases xs ys x has) [
      | inl front ↦ one 0 (suc front.0) x (omega arith) (let b = front.1 in omega (arith, b)) (sym front.2)
      | inr back ↦ disjoint x (contains_head x xs) back
    ]

    both : AllPairs ◌≢◌ (xs ++ ys) → AllPairs ◌≢◌ (x ∷ (xs ++ ys))
    both rest i zero d less below same = omega (arith, less)
    both rest zero (suc j) d less below same =
        new (j, omega (arith, below), get_or_default (xs ++ ys) j x d (omega (arith, below)) ∙ sym same)
    both rest (suc i) (suc j) d less below same = rest i j d (omega (arith, less)) (omega (arith, below)) same

-- what stands in front doesn't stand behind
pub apart_parts : {K : Type 0} (xs ys : List K) (k : K) → AllPairs ◌≢◌ (xs ++ ys) → Contains xs k → Contains ys k → ⊥
apart_parts xs ys k apart front (j, below, is) = twice_there xs ys k front (j, below, is) apart
  where
    right : {K : Type 0} (zs ws : List K) (n : ℕ) (d : K) → get_or (zs ++ ws) (length zs + n) d ≡ get_or ws n d
    right [] ws n d = ap (λ m. get_or ws m d) (omega arith)
    right (z ∷ zs) ws n d = let on : length (z ∷ zs) + n ≡ suc (length zs + n) = omega arith in ap (λ m. get_or (z ∷ (zs ++ ws)) m d) on ∙ right zs ws n d

    longer : {K : Type 0} (zs ws : List K) → length (zs ++ ws) ≡ length zs + length ws
    longer [] ws = omega arith
    longer (z ∷ zs) ws = let e = longer zs ws in omega (arith, e)

    twice_there : {K : Type 0} (zs ws : List K) (x : K) → Contains zs x → Contains ws x → AllPairs ◌≢◌ (zs ++ ws) → ⊥
    twice_there zs ws x (i, less, here) (n, small, there) pairs =
        pairs i (length zs + n) x (omega (arith, less)) (omega (arith, small, longer zs ws)) (get_left zs ws i x less ∙ (here ∙ sym (right zs ws n x ∙ there)))
