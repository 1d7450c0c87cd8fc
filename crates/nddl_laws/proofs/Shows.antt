-- What the words of a part of the grammar show of its value: a fact, and nodes at some of their places, in order. One
-- lemma for each way in which the grammar puts its parts together.
use Rattle.std.proofs.Common.{◌≡◌, ℕ, ◌+◌, ◌<◌, ◌≤◌, List, [], ◌∷◌, ◌++◌, length, refl, sym, ◌∙◌, ap, subst, inl, inr, arith}
use Rattle.std.specs.Prelude.{◌⊎◌, All, map}
use Rattle.std.specs.List.{flat_map}
use Rattle.std.proofs.lemmas.List.Elements.{All-nil, All-cons}
use Rattle.nddl_grammar.specs.declared.sort.Sort.{Sort}
use Rattle.nddl_grammar.specs.Symbols.{PlainSymbol}
use Rattle.nddl_grammar.specs.Exact.{◌·◌, IsPlaced, IsMark, AreMany, AreFollowing, AreSeparated, AreListed}
use Rattle.nddl_laws.proofs.Symbols.{AreFineSymbols, Rise, places_of, rise_later}

-- ---- nodes at places

-- the nodes are at some of the places, in their order
abbrev pub Picks : List ℕ → List ℕ → Type 0
Picks [] places = Unit {0}
Picks (node ∷ nodes) [] = ⊥
Picks (node ∷ nodes) (place ∷ places) = ((node ≡ place) × Picks nodes places) ⊎ Picks (node ∷ nodes) places

picks_back : (nodes front back : List ℕ) → Picks nodes back → Picks nodes (front ++ back)
picks_back [] front back picks = tt
picks_back (node ∷ nodes) [] back picks = picks
picks_back (node ∷ nodes) (place ∷ front) back picks = inr (picks_back (node ∷ nodes) front back picks)

picks_both : (one other front back : List ℕ) → Picks one front → Picks other back → Picks (one ++ other) (front ++ back)
picks_both [] other front back first second = picks_back other front back second
picks_both (node ∷ one) other [] back first second = absurd first
picks_both (node ∷ one) other (place ∷ front) back (inl here) second = inl (here.0, picks_both one other front back here.1 second)
picks_both (node ∷ one) other (place ∷ front) back (inr later) second = inr (picks_both (node ∷ one) other front back later second)

picks_front : (nodes front back : List ℕ) → Picks nodes front → Picks nodes (front ++ back)
picks_front [] front back picks = tt
picks_front (node ∷ nodes) [] back picks = absurd picks
picks_front (node ∷ nodes) (place ∷ front) back (inl here) = inl (here.0, picks_front nodes front back here.1)
picks_front (node ∷ nodes) (place ∷ front) back (inr later) = inr (picks_front (node ∷ nodes) front back later)

pub picks_rise : (from end : ℕ) (nodes places : List ℕ) → Picks nodes places → Rise from end places → Rise from end nodes
picks_rise from end [] places picks rise = tt
picks_rise from end (node ∷ nodes) [] picks rise = absurd picks
picks_rise from end (node ∷ nodes) (place ∷ places) (inl here) rise =
    let same : node ≡ place = here.0 in
    let low : from ≤ place = rise.0 in
    let high : place < end = rise.1 in
    (omega arith, omega arith, rise_later (place + 1) (node + 1) end nodes (omega arith) (picks_rise (place + 1) end nodes places here.1 rise.2))
picks_rise from end (node ∷ nodes) (place ∷ places) (inr later) rise =
    let low : from ≤ place = rise.0 in
    picks_rise from end (node ∷ nodes) places later (rise_later (place + 1) from end places (omega arith) rise.2)

-- what rises below an end is no longer than what is left up to it
pub rise_few : (from end : ℕ) (nodes : List ℕ) → from ≤ end → Rise from end nodes → from + length nodes ≤ end
rise_few from end [] below rise = omega arith
rise_few from end (node ∷ nodes) below rise =
    let low : from ≤ node = rise.0 in
    let high : node < end = rise.1 in
    let rest = rise_few (node + 1) end nodes (omega arith) rise.2 in
    omega arith

-- ---- words

abbrev pub Words : Type 1
Words = List PlainSymbol → Type 0

-- each of the words shows the fact, and has the nodes
pub record Shows (P : Words) (fact : Type 0) (nodes : List ℕ) : Type 0 where
  pub shown : (symbols : List PlainSymbol) → P symbols → (AreFineSymbols symbols → fact) × Picks nodes (places_of symbols)

fine_front : (front back : List PlainSymbol) → AreFineSymbols (front ++ back) → AreFineSymbols front
fine_front [] back fine = tt
fine_front (symbol ∷ front) back fine = (fine.0, fine_front front back fine.1)

fine_back : (front back : List PlainSymbol) → AreFineSymbols (front ++ back) → AreFineSymbols back
fine_back [] back fine = fine
fine_back (symbol ∷ front) back fine = fine_back front back fine.1

places_both : (front back : List PlainSymbol) → places_of (front ++ back) ≡ places_of front ++ places_of back
places_both [] back = refl
places_both (symbol ∷ front) back = ap (λ places. symbol.at ∷ places) (places_both front back)

-- what is so of a front and a back is so of both
joined_show : (one other fact : Type 0) (first second nodes : List ℕ) (symbols front back : List PlainSymbol) → symbols ≡ front ++ back
    → (one → other → fact) → (Picks first (places_of front) → Picks second (places_of back) → Picks nodes (places_of front ++ places_of back))
    → (AreFineSymbols front → one) × Picks first (places_of front) → (AreFineSymbols back → other) × Picks second (places_of back)
    → (AreFineSymbols symbols → fact) × Picks nodes (places_of symbols)
joined_show one other fact first second nodes symbols front back is make pick p q =
    let P : List ℕ → Type 0 = λ places. Picks nodes places in (
      (λ fine. let all = subst AreFineSymbols is fine in make (p.0 (fine_front front back all)) (q.0 (fine_back front back all))),
      subst P (sym (ap places_of is ∙ places_both front back)) (pick p.1 q.1),
    )

-- both parts
pub both : {P Q : Words} {one other : Type 0} {first second : List ℕ} → Shows P one first → Shows Q other second → Shows (P · Q) (one × other) (first ++ second)
both {P} {Q} {one} {other} {first} {second} p q = record {
  shown = λ symbols is.
      joined_show one other (one × other) first second (first ++ second) symbols is.0 is.1 is.2 (λ a b. (a, b))
      (picks_both first second (places_of is.0) (places_of is.1)) (p.shown is.0 is.3) (q.shown is.1 is.4);
}

-- the nodes of both, and the fact of the second
pub behind : {P Q : Words} {one other : Type 0} {first second : List ℕ} → Shows P one first → Shows Q other second → Shows (P · Q) other (first ++ second)
behind {P} {Q} {one} {other} {first} {second} p q = record {
  shown = λ symbols is.
      joined_show one other other first second (first ++ second) symbols is.0 is.1 is.2 (λ a b. b)
      (picks_both first second (places_of is.0) (places_of is.1)) (p.shown is.0 is.3) (q.shown is.1 is.4);
}

-- the first part alone
pub first_of : {P : Words} {one : Type 0} {first : List ℕ} (Q : Words) → Shows P one first → Shows (P · Q) one first
first_of {P} {one} {first} Q p = record {
  shown = λ symbols is.
      joined_show one (Unit {0}) one first [] first symbols is.0 is.1 is.2 (λ a b. a)
      (λ picks _. picks_front first (places_of is.0) (places_of is.1) picks) (p.shown is.0 is.3) ((λ _. tt), tt);
}

-- the second part alone
pub second_of : {Q : Words} {other : Type 0} {second : List ℕ} (P : Words) → Shows Q other second → Shows (P · Q) other second
second_of {Q} {other} {second} P q = record {
  shown = λ symbols is.
      joined_show (Unit {0}) other other [] second second symbols is.0 is.1 is.2 (λ a b. b)
      (λ _ picks. picks_back second (places_of is.0) (places_of is.1) picks) ((λ _. tt), tt) (q.shown is.1 is.4);
}

-- a word at its place
pub placed : (sort : Sort) (at : ℕ) → Shows (IsPlaced sort at) (Unit {0}) (at ∷ [])
placed sort at = record {
  shown = λ symbols is.
      let P : List PlainSymbol → Type 0 = λ s. Picks (at ∷ []) (places_of s) in
      ((λ _. tt), subst P (sym is.only) (inl (sym is.placed, tt)));
}

-- nothing is shown by anything
pub nothing : (P : Words) → Shows P (Unit {0}) []
nothing P = record { shown = λ symbols is. ((λ _. tt), tt) }

-- ---- lists

pub many : {X : Type 0} (IsItem : X → Words) (fact : X → Type 0) (nodes : X → List ℕ) → ((x : X) → Shows (IsItem x) (fact x) (nodes x))
    → (xs : List X) → Shows (AreMany IsItem xs) (All fact xs) (flat_map nodes xs)
many IsItem fact nodes item [] = record { shown = λ symbols is. ((λ _. All-nil fact), tt) }
many IsItem fact nodes item (x ∷ xs) = record {
  shown = λ symbols is.
      joined_show (fact x) (All fact xs) (All fact (x ∷ xs)) (nodes x) (flat_map nodes xs) (flat_map nodes (x ∷ xs)) symbols is.0 is.1 is.2
      (All-cons fact x xs) (picks_both (nodes x) (flat_map nodes xs) (places_of is.0) (places_of is.1)) ((item x).shown is.0 is.3)
      ((many IsItem fact nodes item xs).shown is.1 is.4);
}

pub following : {X : Type 0} (sort : Sort) (IsItem : X → Words) (fact : X → Type 0) (nodes : X → List ℕ) → ((x : X) → Shows (IsItem x) (fact x) (nodes x))
    → (xs : List X) → Shows (AreFollowing sort IsItem xs) (All fact xs) (flat_map nodes xs)
following sort IsItem fact nodes item xs = many (λ x. IsMark sort · IsItem x) fact nodes (λ x. second_of (IsMark sort) (item x)) xs

one_more : {X : Type 0} (sort : Sort) (IsItem : X → Words) (fact : X → Type 0) (nodes : X → List ℕ) → ((x : X) → Shows (IsItem x) (fact x) (nodes x))
    → (x : X) (xs : List X) → Shows (IsItem x · AreFollowing sort IsItem xs) (All fact (x ∷ xs)) (flat_map nodes (x ∷ xs))
one_more sort IsItem fact nodes item x xs = record {
  shown = λ symbols is.
      joined_show (fact x) (All fact xs) (All fact (x ∷ xs)) (nodes x) (flat_map nodes xs) (flat_map nodes (x ∷ xs)) symbols is.0 is.1 is.2
      (All-cons fact x xs) (picks_both (nodes x) (flat_map nodes xs) (places_of is.0) (places_of is.1)) ((item x).shown is.0 is.3)
      ((following sort IsItem fact nodes item xs).shown is.1 is.4);
}

pub listed : {X : Type 0} (sort : Sort) (IsItem : X → Words) (fact : X → Type 0) (nodes : X → List ℕ) → ((x : X) → Shows (IsItem x) (fact x) (nodes x))
    → (xs : List X) → Shows (AreListed sort IsItem xs) (All fact xs) (flat_map nodes xs)
listed sort IsItem fact nodes item [] = record { shown = λ symbols is. ((λ _. All-nil fact), tt) }
listed sort IsItem fact nodes item (x ∷ xs) = record { shown = (one_more sort IsItem fact nodes item x xs).shown }

-- some, of which there is one
pub separated : {X : Type 0} (sort : Sort) (IsItem : X → Words) (fact : X → Type 0) (nodes : X → List ℕ) → ((x : X) → Shows (IsItem x) (fact x) (nodes x))
    → (xs : List X) → Shows (AreSeparated sort IsItem xs) ((0 < length xs) × All fact xs) (flat_map nodes xs)
separated sort IsItem fact nodes item [] = record { shown = λ symbols is. absurd is }
separated sort IsItem fact nodes item (x ∷ xs) = record {
  shown = λ symbols is.
      let shown = (one_more sort IsItem fact nodes item x xs).shown symbols is in
      ((λ fine. (omega arith, shown.0 fine)), shown.1);
}

-- a list of single places
pub each_place : {X : Type 0} (place : X → ℕ) (xs : List X) → flat_map (λ x. place x ∷ []) xs ≡ map place xs
each_place place [] = refl
each_place place (x ∷ xs) = ap (λ places. place x ∷ places) (each_place place xs)

pub same_nodes : (P : Words) (fact : Type 0) (one other : List ℕ) → one ≡ other → Shows P fact one → Shows P fact other
same_nodes P fact one other same shows = let F : List ℕ → Type 0 = λ nodes. Shows P fact nodes in subst F same shows
