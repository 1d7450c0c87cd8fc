-- The numbers of the slots or locals in a rule: where each stands, and that each stands once.
use Rattle.std.proofs.Common.{◌≡◌, ℕ, zero, suc, ◌+◌, ◌<◌, List, [], ◌∷◌, ◌++◌, length, get_or, slice_get, Some, All, Contains, ◌⊎◌, inl, inr, refl, sym, ap, ◌∙◌, subst, arith}
use Rattle.std.specs.Prelude.{◌≢◌, AllPairs}
use Rattle.std.proofs.lemmas.List.Elements.{Contains-get_or, Contains-append_left, Contains-append_right, Contains-append_cases}
use Rattle.model_core.specs.declared.rule.Guard.{Guard}
use Rattle.model_core.specs.declared.rule.Side.{Side}
use Rattle.model_core.specs.declared.rule.Side.TheVariants.{Then, Otherwise}
use Rattle.model_core.specs.declared.rule.Turn.{Turn}
use Rattle.model_core.specs.Blocks.{Direct, OfSlot, OfLocal, OfItem, OfBranch, chosen, direct}
use Rattle.model_core.specs.Entries.{Entries, NoEntry, WithSlot, WithLocal, WithItem, WithBranch}
use Rattle.model_core.specs.Standing.{StandsAt, StandsOnce}
use Rattle.model_core.proofs.Distinct.{pairs_front, pairs_back}
use Rattle.model_rules.specs.declared.numbers.Sort.{Sort}
use Rattle.model_rules.specs.declared.numbers.Sort.TheVariants.{Slots, Locals}
use Rattle.model_rules.specs.Numbered.{numbered, numbers_of, AreOnce}
use Rattle.model_rules.proofs.Spots.{Spot, StandsSpot, first_spot, later, inside, spot_same, later_once, inside_once, first_not_later, inside_not_later, sides_apart, Found, at_first, in_later, in_side, first_stands, later_stands, side_stands, found}

-- ---- lists

none_in : (n : ℕ) → Contains [] n → ⊥
none_in n has = omega (arith, has.1)

one_in : (n m : ℕ) → Contains (n ∷ []) m → n ≡ m
one_in n m (zero, below, is) = is
one_in n m (suc k, below, is) = absurd (omega (arith, below))

in_one : (n : ℕ) → Contains (n ∷ []) n
in_one n = (0, omega arith, refl)

-- none of the one list stands in the other
abbrev AreDisjoint : List ℕ → List ℕ → Type 0
AreDisjoint one other = (n : ℕ) → Contains one n → Contains other n → ⊥

get_left : (xs ys : List ℕ) (k d : ℕ) → k < length xs → get_or (xs ++ ys) k d ≡ get_or xs k d
get_left [] ys k d below = absurd (omega arith)
get_left (x ∷ xs) ys zero d below = refl
get_left (x ∷ xs) ys (suc k) d below = get_left xs ys k d (omega arith)

get_right : (xs ys : List ℕ) (k d : ℕ) → get_or (xs ++ ys) (length xs + k) d ≡ get_or ys k d
get_right [] ys k d = ap (λ n. get_or ys n d) (omega arith)
get_right (x ∷ xs) ys k d =
    let on : length (x ∷ xs) + k ≡ suc (length xs + k) = omega arith in
    ap (λ n. get_or (x ∷ (xs ++ ys)) n d) on ∙ get_right xs ys k d

length_both : (xs ys : List ℕ) → length (xs ++ ys) ≡ length xs + length ys
length_both [] ys = omega arith
length_both (x ∷ xs) ys = let e = length_both xs ys in omega (arith, e)

-- in a list in which nothing stands twice, what stands in front doesn't stand behind
pub pairs_apart : (xs ys : List ℕ) → AllPairs ◌≢◌ (xs ++ ys) → AreDisjoint xs ys
pairs_apart xs ys apart n (i, below, is) (j, within, at) =
    apart i (length xs + j) n (omega (arith, below)) (omega (arith, within, length_both xs ys))
    (get_left xs ys i n below ∙ (is ∙ sym (get_right xs ys j n ∙ at)))

one_apart : (n : ℕ) (xs : List ℕ) → (Contains xs n → ⊥) → AllPairs ◌≢◌ xs → AllPairs ◌≢◌ (n ∷ xs)
one_apart n xs none apart i zero d less within same = omega (arith, less)
one_apart n xs none apart zero (suc j) d less within same =
    none (j, omega (arith, within), default xs j n d (omega (arith, within)) ∙ sym same)
  where
    default : (ys : List ℕ) (k d e : ℕ) → k < length ys → get_or ys k d ≡ get_or ys k e
    default [] k d e below = absurd (omega arith)
    default (y ∷ ys) zero d e below = refl
    default (y ∷ ys) (suc k) d e below = default ys k d e (omega arith)
one_apart n xs none apart (suc i) (suc j) d less within same = apart i j d (omega (arith, less)) (omega (arith, within)) same

none_apart : AllPairs {X = ℕ} ◌≢◌ []
none_apart i j d less within same = omega (arith, within)

pub apart_pairs : (xs ys : List ℕ) → AllPairs ◌≢◌ xs → AllPairs ◌≢◌ ys → AreDisjoint xs ys → AllPairs ◌≢◌ (xs ++ ys)
apart_pairs [] ys one other disjoint = other
apart_pairs (x ∷ xs) ys one other disjoint =
    one_apart x (xs ++ ys) none (apart_pairs xs ys (pairs_back ◌≢◌ (x ∷ []) xs one) other (λ n a b. disjoint n (later_in x n xs a) b))
  where
    later_in : (y n : ℕ) (zs : List ℕ) → Contains zs n → Contains (y ∷ zs) n
    later_in y n zs has = (suc has.0, omega (arith, has.1), has.2)

    none : Contains (xs ++ ys) x → ⊥
    none has = elim (Contains-append_cases xs ys x has) [
      | inl front ↦ pairs_apart (x ∷ []) xs one x (in_one x) front
      | inr back ↦ disjoint x (0, omega arith, refl) back
    ]

-- a list in which nothing stands twice, with one number more that doesn't stand in it
pub apart_more : (list : List ℕ) (number : ℕ) → AllPairs ◌≢◌ list → (Contains list number → ⊥) → AllPairs ◌≢◌ (list ++ number ∷ [])
apart_more list number apart none =
    apart_pairs list (number ∷ []) apart (one_apart number [] (none_in number) none_apart)
    (λ n front back. none (subst (Contains list) (sym (one_in number n back)) front))

-- and with one that does
pub apart_twice : (front rest : List ℕ) (number : ℕ) → Contains front number → AllPairs ◌≢◌ (front ++ number ∷ rest) → ⊥
apart_twice front rest number has apart = pairs_apart front (number ∷ rest) apart number has (0, omega arith, refl)

-- ---- things that stand at spots by numbers

-- the list has the numbers of what stands so, and if none stands twice in it, each stands at one spot
pub record Tells (Stands : Spot → ℕ → Type 0) (list : List ℕ) : Type 0 where
  pub listed : (n : ℕ) (spot : Spot) → Stands spot n → Contains list n
  pub somewhere : (n : ℕ) → Contains list n → (spot : Spot) × Stands spot n
  pub once : AllPairs ◌≢◌ list → (n : ℕ) (one other : Spot) → Stands one n → Stands other n → one ≡ other
  pub apart : ((n : ℕ) (one other : Spot) → Stands one n → Stands other n → one ≡ other) → AllPairs ◌≢◌ list

tells_none : (Stands : Spot → ℕ → Type 0) → ((n : ℕ) (spot : Spot) → Stands spot n → ⊥) → Tells Stands []
tells_none Stands none = record {
  listed = λ n spot stands. absurd (none n spot stands);
  somewhere = λ n has. absurd (none_in n has);
  once = λ apart n one other is are. absurd (none n one is);
  apart = λ same. none_apart;
}

-- the first thing alone
tells_one : (Stands : Spot → ℕ → Type 0) (n : ℕ) → Stands first_spot n → ((m : ℕ) (spot : Spot) → Stands spot m → (spot ≡ first_spot) × (n ≡ m)) → Tells Stands (n ∷ [])
tells_one Stands n here only = record {
  listed = λ m spot stands. subst (Contains (n ∷ [])) (only m spot stands).1 (in_one n);
  somewhere = λ m has. (first_spot, subst (Stands first_spot) (one_in n m has) here);
  once = λ apart m one other is are. (only m one is).0 ∙ sym (only m other are).0;
  apart = λ same. one_apart n [] (none_in n) none_apart;
}

-- what stands in the one or in the other, with its spot there moved
abbrev pub EitherStands : (Spot → Spot) → (Spot → ℕ → Type 0) → (Spot → Spot) → (Spot → ℕ → Type 0) → Spot → ℕ → Type 0
EitherStands f One g Other spot n = ((s : Spot) × (spot ≡ f s) × One s n) ⊎ ((s : Spot) × (spot ≡ g s) × Other s n)

module _ (f : Spot → Spot) (One : Spot → ℕ → Type 0) (g : Spot → Spot) (Other : Spot → ℕ → Type 0)
    (f_once : (s t : Spot) → f s ≡ f t → s ≡ t) (g_once : (s t : Spot) → g s ≡ g t → s ≡ t)
    (disjoint : (n m : ℕ) (s t : Spot) → One s n → Other t m → f s ≡ g t → ⊥) where
  tells_both : (xs ys : List ℕ) → Tells One xs → Tells Other ys → Tells (EitherStands f One g Other) (xs ++ ys)
  tells_both xs ys first second = record { listed = listed; somewhere = somewhere; once = once; apart = apart }
    where
      listed : (n : ℕ) (spot : Spot) → EitherStands f One g Other spot n → Contains (xs ++ ys) n
      listed n spot (inl one) = Contains-append_left xs ys n (first.listed n one.0 one.2)
      listed n spot (inr other) = Contains-append_right xs ys n (second.listed n other.0 other.2)

      somewhere : (n : ℕ) → Contains (xs ++ ys) n → (spot : Spot) × EitherStands f One g Other spot n
      somewhere n has = elim (Contains-append_cases xs ys n has) [
        | inl front ↦ (let at = first.somewhere n front in (f at.0, inl (at.0, refl, at.1)))
        | inr back ↦ (let at = second.somewhere n back in (g at.0, inr (at.0, refl, at.1)))
      ]

      once : AllPairs ◌≢◌ (xs ++ ys) → (n : ℕ) (one other : Spot) → EitherStands f One g Other one n → EitherStands f One g Other other n → one ≡ other
      once pairs n one other (inl is) (inl are) =
          is.1 ∙ (ap f (first.once (pairs_front ◌≢◌ xs ys pairs) n is.0 are.0 is.2 are.2) ∙ sym are.1)
      once pairs n one other (inl is) (inr are) = absurd (pairs_apart xs ys pairs n (first.listed n is.0 is.2) (second.listed n are.0 are.2))
      once pairs n one other (inr is) (inl are) = absurd (pairs_apart xs ys pairs n (first.listed n are.0 are.2) (second.listed n is.0 is.2))
      once pairs n one other (inr is) (inr are) =
          is.1 ∙ (ap g (second.once (pairs_back ◌≢◌ xs ys pairs) n is.0 are.0 is.2 are.2) ∙ sym are.1)

      apart : ((n : ℕ) (one other : Spot) → EitherStands f One g Other one n → EitherStands f One g Other other n → one ≡ other) → AllPairs ◌≢◌ (xs ++ ys)
      apart same = apart_pairs xs ys
          (first.apart (λ n one other is are. f_once one other (same n (f one) (f other) (inl (one, refl, is)) (inl (other, refl, are)))))
          (second.apart (λ n one other is are. g_once one other (same n (g one) (g other) (inr (one, refl, is)) (inr (other, refl, are)))))
          (λ n front back.
          let is = first.somewhere n front in
          let are = second.somewhere n back in
          disjoint n n is.0 are.0 is.1 are.1 (same n (f is.0) (g are.0) (inl (is.0, refl, is.1)) (inr (are.0, refl, are.1))))

tells_as : (One Other : Spot → ℕ → Type 0) (list : List ℕ) → ((spot : Spot) (n : ℕ) → One spot n → Other spot n) → ((spot : Spot) (n : ℕ) → Other spot n → One spot n)
    → Tells One list → Tells Other list
tells_as One Other list to from tells = record {
  listed = λ n spot is. tells.listed n spot (from spot n is);
  somewhere = λ n has. (let at = tells.somewhere n has in (at.0, to at.0 n at.1));
  once = λ pairs n one other is are. tells.once pairs n one other (from one n is) (from other n are);
  apart = λ same. tells.apart (λ n one other is are. same n one other (to one n is) (to other n are));
}

-- ---- what stands in blocks

abbrev pub StandsBy : Sort → Entries → Spot → ℕ → Type 0
StandsBy sort top spot n = StandsSpot top spot (numbered sort n)

module _ (sort : Sort) where
  -- the first entry itself is what stands by the number
  abbrev IsHead : Direct → Spot → ℕ → Type 0
  IsHead head spot n = (spot ≡ first_spot) × (head ≡ numbered sort n)

  -- with one entry more that is no branch
  tells_plain : (whole more : Entries) (head : Direct) (own : List ℕ) → direct whole ≡ head ∷ direct more
      → ((guard : Guard) (then otherwise : Entries) → head ≡ OfBranch guard then otherwise → ⊥) → Tells (IsHead head) own
      → Tells (StandsBy sort more) (numbers_of sort more) → Tells (StandsBy sort whole) (own ++ numbers_of sort more)
  tells_plain whole more head own is plain first rest =
      tells_as (EitherStands (λ s. s) (IsHead head) later (StandsBy sort more)) (StandsBy sort whole) (own ++ numbers_of sort more) to from
      (tells_both (λ s. s) (IsHead head) later (StandsBy sort more) (λ s t e. e) later_once
      (λ n m s t at other same. first_not_later t (sym at.0 ∙ same)) own (numbers_of sort more) first rest)
    where
      to : (spot : Spot) (n : ℕ) → EitherStands (λ s. s) (IsHead head) later (StandsBy sort more) spot n → StandsBy sort whole spot n
      to spot n (inl one) =
          subst (λ (s : Spot). StandsSpot whole s (numbered sort n)) (sym (one.1 ∙ one.2.0)) (subst (StandsSpot whole first_spot) one.2.1 (first_stands whole more head is))
      to spot n (inr other) =
          subst (λ (s : Spot). StandsSpot whole s (numbered sort n)) (sym other.1) (later_stands whole more head is other.0 (numbered sort n) other.2)

      from : (spot : Spot) (n : ℕ) → StandsBy sort whole spot n → EitherStands (λ s. s) (IsHead head) later (StandsBy sort more) spot n
      from spot n stands = by (found whole more head is spot (numbered sort n) stands)
        where
          by : Found whole more head spot (numbered sort n) → EitherStands (λ s. s) (IsHead head) later (StandsBy sort more) spot n
          by (at_first at same) = inl (spot, refl, (at, same))
          by (in_later other at there) = inr (other, at, there)
          by (in_side guard then otherwise side other branch at there) = absurd (plain guard then otherwise branch)

  not_branch : (guard : Guard) (then otherwise : Entries) (n : ℕ) (what : Direct) → what ≡ numbered sort n → OfBranch guard then otherwise ≡ what → ⊥
  not_branch guard then otherwise n what named is = by sort (is ∙ named)
    where
      by : (kind : Sort) → OfBranch guard then otherwise ≡ numbered kind n → ⊥
      by Slots same = cc
      by Locals same = cc

module _ (sort : Sort) (guard : Guard) (then otherwise more : Entries) where
  -- what stands in the second side or behind the branch
  abbrev Behind : Spot → ℕ → Type 0
  Behind = EitherStands (inside Otherwise) (StandsBy sort otherwise) later (StandsBy sort more)

  -- and what stands anywhere
  abbrev Anywhere : Spot → ℕ → Type 0
  Anywhere = EitherStands (inside Then) (StandsBy sort then) (λ s. s) Behind

  apart_behind : (m : ℕ) (s t : Spot) → Behind t m → inside Then s ≡ t → ⊥
  apart_behind m s t (inl is) same = sides_apart s is.0 (same ∙ is.1)
  apart_behind m s t (inr is) same = inside_not_later Then s is.0 (same ∙ is.1)

  stands_anywhere : (spot : Spot) (n : ℕ) → Anywhere spot n → StandsBy sort (WithBranch guard then otherwise more) spot n
  stands_anywhere spot n (inl one) =
      subst (λ (s : Spot). StandsSpot (WithBranch guard then otherwise more) s (numbered sort n)) (sym one.1)
      (side_stands (WithBranch guard then otherwise more) more (OfBranch guard then otherwise) refl guard then otherwise Then one.0 (numbered sort n) refl one.2)
  stands_anywhere spot n (inr (same, at, inl other)) =
      subst (λ (s : Spot). StandsSpot (WithBranch guard then otherwise more) s (numbered sort n)) (sym (at ∙ other.1))
      (side_stands (WithBranch guard then otherwise more) more (OfBranch guard then otherwise) refl guard then otherwise Otherwise other.0 (numbered sort n) refl other.2)
  stands_anywhere spot n (inr (same, at, inr other)) =
      subst (λ (s : Spot). StandsSpot (WithBranch guard then otherwise more) s (numbered sort n)) (sym (at ∙ other.1))
      (later_stands (WithBranch guard then otherwise more) more (OfBranch guard then otherwise) refl other.0 (numbered sort n) other.2)

  sided : (spot : Spot) (n : ℕ) (side : Side) (other : Spot) → spot ≡ inside side other → StandsSpot (chosen side then otherwise) other (numbered sort n) → Anywhere spot n
  sided spot n Then other at there = inl (other, at, there)
  sided spot n Otherwise other at there = inr (spot, refl, inl (other, at, there))

  anywhere_stands : (spot : Spot) (n : ℕ) → StandsBy sort (WithBranch guard then otherwise more) spot n → Anywhere spot n
  anywhere_stands spot n stands = by (found (WithBranch guard then otherwise more) more (OfBranch guard then otherwise) refl spot (numbered sort n) stands)
    where
      by : Found (WithBranch guard then otherwise more) more (OfBranch guard then otherwise) spot (numbered sort n) → Anywhere spot n
      by (at_first at same) = absurd (not_branch sort guard then otherwise n (numbered sort n) refl same)
      by (in_later other at there) = inr (spot, refl, inr (other, at, there))
      by (in_side guard' then' otherwise' side other branch at there) =
          let first : then ≡ then' = cc in
          let second : otherwise ≡ otherwise' = cc in
          sided spot n side other at
          (subst (λ (t : Entries). StandsSpot (chosen side t otherwise) other (numbered sort n)) (sym first)
          (subst (λ (o : Entries). StandsSpot (chosen side then' o) other (numbered sort n)) (sym second) there))

  -- with one branch more
  tells_branch : Tells (StandsBy sort then) (numbers_of sort then) → Tells (StandsBy sort otherwise) (numbers_of sort otherwise)
      → Tells (StandsBy sort more) (numbers_of sort more)
      → Tells (StandsBy sort (WithBranch guard then otherwise more)) (numbers_of sort then ++ (numbers_of sort otherwise ++ numbers_of sort more))
  tells_branch first second rest =
      tells_as Anywhere (StandsBy sort (WithBranch guard then otherwise more)) (numbers_of sort then ++ (numbers_of sort otherwise ++ numbers_of sort more)) stands_anywhere anywhere_stands
      (tells_both (inside Then) (StandsBy sort then) (λ s. s) Behind (inside_once Then) (λ s t e. e)
      (λ n m s t at other same. apart_behind m s t other same) (numbers_of sort then) (numbers_of sort otherwise ++ numbers_of sort more) first
      (tells_both (inside Otherwise) (StandsBy sort otherwise) later (StandsBy sort more) (inside_once Otherwise) later_once
      (λ n m s t at other same. inside_not_later Otherwise s t same) (numbers_of sort otherwise) (numbers_of sort more) second rest))

pub numbers_tell : (sort : Sort) (top : Entries) → Tells (StandsBy sort top) (numbers_of sort top)
numbers_tell sort NoEntry = tells_none (StandsBy sort NoEntry) (λ n spot stands. nothing sort n spot.path spot.place stands)
  where
    nothing : (kind : Sort) (n : ℕ) (path : List Turn) (place : ℕ) → StandsAt NoEntry path place (numbered kind n) → ⊥
    nothing kind n [] place at = let there = subst (λ (b : Entries). slice_get (direct b) place ≡ Some (numbered kind n)) at.way at.stands in cc
    nothing kind n (turn ∷ path) place at = let there = at.way.1.2.0 in cc
numbers_tell Slots (WithSlot slot more) =
    tells_plain Slots (WithSlot slot more) more (OfSlot slot) (slot ∷ []) refl (λ guard then otherwise is. cc)
    (tells_one (IsHead Slots (OfSlot slot)) slot (refl, refl) (λ m spot at. (at.0, (let is : OfSlot slot ≡ OfSlot m = at.1 in cc)))) (numbers_tell Slots more)
numbers_tell Locals (WithSlot slot more) =
    tells_plain Locals (WithSlot slot more) more (OfSlot slot) [] refl (λ guard then otherwise is. cc)
    (tells_none (IsHead Locals (OfSlot slot)) (λ m spot at. let is : OfSlot slot ≡ OfLocal m = at.1 in cc)) (numbers_tell Locals more)
numbers_tell Slots (WithLocal local more) =
    tells_plain Slots (WithLocal local more) more (OfLocal local) [] refl (λ guard then otherwise is. cc)
    (tells_none (IsHead Slots (OfLocal local)) (λ m spot at. let is : OfLocal local ≡ OfSlot m = at.1 in cc)) (numbers_tell Slots more)
numbers_tell Locals (WithLocal local more) =
    tells_plain Locals (WithLocal local more) more (OfLocal local) (local ∷ []) refl (λ guard then otherwise is. cc)
    (tells_one (IsHead Locals (OfLocal local)) local (refl, refl) (λ m spot at. (at.0, (let is : OfLocal local ≡ OfLocal m = at.1 in cc)))) (numbers_tell Locals more)
numbers_tell Slots (WithItem item more) =
    tells_plain Slots (WithItem item more) more (OfItem item) [] refl (λ guard then otherwise is. cc)
    (tells_none (IsHead Slots (OfItem item)) (λ m spot at. let is : OfItem item ≡ OfSlot m = at.1 in cc)) (numbers_tell Slots more)
numbers_tell Locals (WithItem item more) =
    tells_plain Locals (WithItem item more) more (OfItem item) [] refl (λ guard then otherwise is. cc)
    (tells_none (IsHead Locals (OfItem item)) (λ m spot at. let is : OfItem item ≡ OfLocal m = at.1 in cc)) (numbers_tell Locals more)
numbers_tell sort (WithBranch guard then otherwise more) =
    tells_branch sort guard then otherwise more (numbers_tell sort then) (numbers_tell sort otherwise) (numbers_tell sort more)

-- ---- each below the count stands once

module _ (sort : Sort) (top : Entries) (count : ℕ) where
  pub once_stands : AreOnce count (numbers_of sort top) → (number : ℕ) → number < count → StandsOnce top (numbered sort number)
  once_stands are number below =
      let tells = numbers_tell sort top in
      let at = tells.somewhere number (are.whole number below) in
      record {
        path = at.0.path;
        place = at.0.place;
        stands = at.1;
        only = λ path place stands. (
            let same = tells.once are.distinct number (record { path = path; place = place }) at.0 stands at.1 in
            (ap (λ (s : Spot). s.path) same, ap (λ (s : Spot). s.place) same));
      }

  pub stands_once : ((number : ℕ) → number < count → StandsOnce top (numbered sort number))
      → ((number : ℕ) (spot : Spot) → StandsBy sort top spot number → number < count) → AreOnce count (numbers_of sort top)
  stands_once once within =
      let tells = numbers_tell sort top in
      record {
        within = All-from_contains (λ number. number < count) (numbers_of sort top) (λ number has. let at = tells.somewhere number has in within number at.0 at.1);
        distinct = tells.apart (λ number one other is are.
            let alone = once number (within number one is) in
            let first = alone.only one.path one.place is in
            let second = alone.only other.path other.place are in
            spot_same one other (first.0 ∙ sym second.0) (first.1 ∙ sym second.1));
        whole = λ number below. (let alone = once number below in tells.listed number (record { path = alone.path; place = alone.place }) alone.stands);
      }
    where
      All-from_contains : (P : ℕ → Type 0) (list : List ℕ) → ((n : ℕ) → Contains list n → P n) → All P list
      All-from_contains P list each = λ k d below. each (get_or list k d) (Contains-get_or list k d below)
