-- The ranking of the tokens.
use Rattle.std.proofs.Common.{◌≡◌, ℕ, ◌+◌, ◌<◌, ◌≤◌, ◌⊎◌, inl, inr, suc, List, [], ◌∷◌, ◌++◌, length, take, drop, insert, slice_get, slice_index_or, Contains, Some, sym, ap, ◌∙◌, subst, arith, length-append}
use Rattle.std.proofs.lemmas.Bool.{cases_lt}
use Rattle.std.proofs.lemmas.List.{get_or_append_left, get_or-take, get_or-drop, take-append-drop, length-take-le, length-drop}
use Rattle.std.proofs.lemmas.Option.{slice_get-get_or, slice_get_within, get_or_from_slice_get}
use Rattle.std.proofs.Math.Seq.{get_or-append_seam}
use Rattle.std.specs.List.{remove}
use Rattle.eu_name.specs.declared.name.TokenName.{TokenName}
use Rattle.eu_name.specs.NameOrder.{IsTokenBefore, IsStrictTotalOrder}
use Rattle.token_store.specs.Orders.{IsInOrder, IsListOf, name_at, IsNameBefore, IsRanking, HasRank}
use Rattle.token_store.specs.Pieces.{Parts}
use Rattle.token_store.proofs.Numbers.{list_like, list_put, list_taken, part_at, in_order_at, index_default, counted, list_one}

-- what comes before the middle one comes before what it comes before
pub below_middle : IsStrictTotalOrder IsTokenBefore → (names : List TokenName) (ranking : List ℕ) (name : TokenName) (middle other : ℕ)
    → IsInOrder (IsNameBefore names) ranking → middle < length ranking → other < middle + 1
    → IsTokenBefore (name_at names (slice_index_or ranking middle 0)) name → IsTokenBefore (name_at names (slice_index_or ranking other 0)) name
below_middle law names ranking name middle other order within below before = elim (cases_lt other middle) [
  | inl less ↦ law.transitive _ _ _ (in_order_at (IsNameBefore names) ranking other middle order less within) before
  | inr more ↦ subst (λ n. IsTokenBefore (name_at names (slice_index_or ranking n 0)) name) (omega (arith, below, more)) before
]

-- and what is behind the middle one doesn't come before what it doesn't come before
pub above_middle : IsStrictTotalOrder IsTokenBefore → (names : List TokenName) (ranking : List ℕ) (name : TokenName) (middle other : ℕ)
    → IsInOrder (IsNameBefore names) ranking → middle ≤ other → other < length ranking
    → (IsTokenBefore (name_at names (slice_index_or ranking middle 0)) name → ⊥) → IsTokenBefore (name_at names (slice_index_or ranking other 0)) name → ⊥
above_middle law names ranking name middle other order le within not before = elim (cases_lt middle other) [
  | inl less ↦ not (law.transitive _ _ _ (in_order_at (IsNameBefore names) ranking middle other order less within) before)
  | inr more ↦ not (subst (λ n. IsTokenBefore (name_at names (slice_index_or ranking n 0)) name) (omega (arith, le, more)) before)
]

pub name-added : (names : List TokenName) (name : TokenName) (place : ℕ) → place < length names → name_at (names ++ name ∷ []) place ≡ name_at names place
name-added names name place below = get_or_append_left names (name ∷ []) _ place below

pub name-last : (names : List TokenName) (name : TokenName) → name_at (names ++ name ∷ []) (length names) ≡ name
name-last names name = get_or-append_seam names name [] _

pub name-take : (names : List TokenName) (n place : ℕ) → place < n → name_at (take n names) place ≡ name_at names place
name-take names n place below = get_or-take n names place _ below

-- the ranking with one more name, put where the others are parted
pub ranking_added : IsStrictTotalOrder IsTokenBefore → (names : List TokenName) (ranking : List ℕ) (name : TokenName) (rank : ℕ)
    → IsRanking names ranking → Parts names ranking name rank → ((place : ℕ) → slice_get names place ≡ Some name → ⊥)
    → IsRanking (names ++ name ∷ []) (insert ranking rank (length names))
ranking_added law names ranking name rank is parts new =
    let more = names ++ name ∷ [] in
    let split : ranking ≡ take rank ranking ++ drop rank ranking = sym (take-append-drop rank ranking) in
    let same = list_like (IsNameBefore names) (IsNameBefore more) (λ p. p < length names) (λ p. p < length names) ranking is
    (λ x y one two before. subst (λ a. IsTokenBefore a (name_at more y)) (sym (name-added names name x one))
    (subst (IsTokenBefore (name_at names x)) (sym (name-added names name y two)) before))
    (λ x. ((λ b. b), (λ b. b))) in
    let put = list_put (IsNameBefore more) (λ p. p < length names) (take rank ranking) (drop rank ranking) (length names)
    (subst (IsListOf (IsNameBefore more) (λ p. p < length names)) split same)
    (λ y has. lower y has)
    (λ y has. upper y has) in
    list_like (IsNameBefore more) (IsNameBefore more) (λ y. (y < length names) ⊎ (length names ≡ y)) (λ y. y < length more) (insert ranking rank (length names)) put
    (λ x y one two before. before)
    (λ y. ((λ either. elim either [ inl less ↦ omega (arith, less, length-append names (name ∷ [])) | inr equal ↦ omega (arith, equal, length-append names (name ∷ [])) ]), (λ less. below y less)))
  where
    lower : (y : ℕ) → Contains (take rank ranking) y → IsNameBefore (names ++ name ∷ []) y (length names)
    lower y has =
        let under : has.0 < rank = omega (arith, has.1, length-take-le rank ranking parts.within) in
        let at : slice_index_or ranking has.0 y ≡ y = sym (get_or-take rank ranking has.0 y under) ∙ has.2 in
        let within : has.0 < length ranking = omega (arith, under, parts.within) in
        let before : IsTokenBefore (name_at names y) name = subst (λ p. IsTokenBefore (name_at names p) name) (index_default ranking has.0 0 y within ∙ at) (parts.lower has.0 under) in
        subst (λ a. IsTokenBefore a (name_at (names ++ name ∷ []) (length names))) (sym (name-added names name y ((is.each y).0 (has.0, within, at))))
        (subst (IsTokenBefore (name_at names y)) (sym (name-last names name)) before)

    upper : (y : ℕ) → Contains (drop rank ranking) y → IsNameBefore (names ++ name ∷ []) (length names) y
    upper y has =
        let at : slice_index_or ranking (rank + has.0) y ≡ y = sym (get_or-drop rank ranking has.0 y) ∙ has.2 in
        let within : rank + has.0 < length ranking = omega (arith, has.1, length-drop rank ranking) in
        let inside : y < length names = (is.each y).0 (rank + has.0, within, at) in
        let not : IsTokenBefore (name_at names y) name → ⊥ = λ before. parts.upper (rank + has.0) (omega arith) within
        (subst (λ p. IsTokenBefore (name_at names p) name) (sym (index_default ranking (rank + has.0) 0 y within ∙ at)) before) in
        let after : IsTokenBefore name (name_at names y) = elim (law.total (name_at names y) name) [
          | inl before ↦ absurd (not before)
          | inr (inl same) ↦ absurd (new y (slice_get-get_or names y _ inside ∙ ap Some same))
          | inr (inr behind) ↦ behind
        ] in
        subst (λ a. IsTokenBefore a (name_at (names ++ name ∷ []) y)) (sym (name-last names name))
        (subst (IsTokenBefore name) (sym (name-added names name y inside)) after)

    below : (y : ℕ) → y < length (names ++ name ∷ []) → (y < length names) ⊎ (length names ≡ y)
    below y less = elim (cases_lt y (length names)) [ inl under ↦ inl under | inr over ↦ inr (omega (arith, over, less, length-append names (name ∷ []))) ]

-- the place at a rank
pub has_rank : (names : List TokenName) (ranking : List ℕ) (place rank : ℕ) → IsRanking names ranking → slice_get ranking rank ≡ Some place → HasRank names place rank
has_rank names ranking place rank is at = (ranking, (is, at))

-- the rank where a token's own name is parted from those before it
own_rank : IsStrictTotalOrder IsTokenBefore → (names : List TokenName) (ranking : List ℕ) (place rank : ℕ) → place < length names → IsRanking names ranking
    → Parts names ranking (name_at names place) rank → slice_get ranking rank ≡ Some place
own_rank law names ranking place rank inside is parts =
    let has = (is.each place).1 inside in
    let at : slice_index_or ranking has.0 0 ≡ place = index_default ranking has.0 0 place has.1 ∙ has.2 in
    let own : rank ≡ has.0 = elim (cases_lt has.0 rank) [
      | inl less ↦ absurd (law.irreflexive (name_at names place) (subst (λ p. IsTokenBefore (name_at names p) (name_at names place)) at (parts.lower has.0 less)))
      | inr over ↦ elim (cases_lt rank has.0) [
        | inl less ↦ absurd (parts.upper rank (omega arith) (omega (arith, less, has.1))
            (subst (λ p. IsTokenBefore (name_at names (slice_index_or ranking rank 0)) (name_at names p)) at (in_order_at (IsNameBefore names) ranking rank has.0 is.order less has.1)))
        | inr under ↦ omega (arith, over, under)
      ]
    ] in
    ap (slice_get ranking) own ∙ slice_get-get_or ranking has.0 0 has.1 ∙ ap Some at

pub rank_of_own : IsStrictTotalOrder IsTokenBefore → (names : List TokenName) (ranking : List ℕ) (place rank : ℕ) → place < length names → IsRanking names ranking
    → Parts names ranking (name_at names place) rank → HasRank names place rank
rank_of_own law names ranking place rank inside is parts = has_rank names ranking place rank is (own_rank law names ranking place rank inside is parts)

-- the ranking without the last name
pub ranking_less : IsStrictTotalOrder IsTokenBefore → (names : List TokenName) (ranking : List ℕ) (count rank : ℕ) → length names ≡ count + 1
    → IsRanking names ranking → Parts names ranking (name_at names count) rank → IsRanking (take count names) (remove ranking rank)
ranking_less law names ranking count rank long is parts =
    let wide : length (take count names) ≡ count = length-take-le count names (omega (arith, long)) in
    let split = part_at ranking rank count (own_rank law names ranking count rank (omega (arith, long)) is parts) in
    list_like (IsNameBefore names) (IsNameBefore (take count names)) (λ p. (p < length names) × (count ≡ p → ⊥)) (λ p. p < length (take count names))
    (remove ranking rank)
    (list_taken (IsNameBefore names) (λ p. p < length names) (λ x. law.irreflexive (name_at names x)) (take rank ranking) (drop (suc rank) ranking) count
    (subst (IsListOf (IsNameBefore names) (λ p. p < length names)) split is))
    (λ x y one two before. subst (λ a. IsTokenBefore a (name_at (take count names) y)) (sym (name-take names count x (below x one.0 one.1)))
    (subst (IsTokenBefore (name_at names x)) (sym (name-take names count y (below y two.0 two.1))) before))
    (λ x. ((λ both. omega (arith, below x both.0 both.1, wide)), (λ under. (omega (arith, under, long, wide), λ same. absurd (omega (arith, same, under, wide))))))
  where
    below : (x : ℕ) → x < length names → (count ≡ x → ⊥) → x < count
    below x under not = elim (cases_lt x count) [ inl less ↦ less | inr over ↦ absurd (not (omega (arith, over, under, long))) ]

-- that name stands at the rank where the others are parted by it
pub last_rank : IsStrictTotalOrder IsTokenBefore → (names : List TokenName) (ranking : List ℕ) (count rank : ℕ) (name : TokenName) → length names ≡ count + 1
    → IsRanking names ranking → slice_get names count ≡ Some name → Parts names ranking name rank
    → (rank < length ranking) × IsRanking (take count names) (remove ranking rank)
last_rank law names ranking count rank name long is named parts =
    let own : Parts names ranking (name_at names count) rank = subst (λ n. Parts names ranking n rank) (sym (get_or_from_slice_get names count name _ named)) parts in (
      slice_get_within ranking rank count (own_rank law names ranking count rank (omega (arith, long)) is own),
      ranking_less law names ranking count rank long is own,
    )

-- there is a rank for each token
pub length-ranking : IsStrictTotalOrder IsTokenBefore → (names : List TokenName) (ranking : List ℕ) → IsRanking names ranking → length ranking ≡ length names
length-ranking law names ranking is = counted (IsNameBefore names) (λ x. law.irreflexive (name_at names x)) (length names) ranking is

-- there is one ranking
one_ranking : IsStrictTotalOrder IsTokenBefore → (names : List TokenName) (one other : List ℕ) → IsRanking names one → IsRanking names other → one ≡ other
one_ranking law names one other first second = list_one (IsNameBefore names) (λ p. p < length names) (λ x. law.irreflexive (name_at names x))
    (λ x y z. law.transitive (name_at names x) (name_at names y) (name_at names z)) one other first second

-- in which a place stands once
one_place : IsStrictTotalOrder IsTokenBefore → (names : List TokenName) (ranking : List ℕ) (place one other : ℕ) → IsRanking names ranking
    → slice_get ranking one ≡ Some place → slice_get ranking other ≡ Some place → one < other → ⊥
one_place law names ranking place one other is first second less =
    let before = in_order_at (IsNameBefore names) ranking one other is.order less (slice_get_within ranking other place second) in
    law.irreflexive (name_at names place)
    (subst (λ p. IsNameBefore names p place) (get_or_from_slice_get ranking one place 0 first)
    (subst (IsNameBefore names (slice_index_or ranking one 0)) (get_or_from_slice_get ranking other place 0 second) before))

some_place : (one other : ℕ) → Some one ≡ Some other → one ≡ other
some_place one other same = cc

pub one_rank : IsStrictTotalOrder IsTokenBefore → (names : List TokenName) (place one other : ℕ) → HasRank names place one → HasRank names place other → one ≡ other
one_rank law names place one other first second =
    let same = one_ranking law names second.0 first.0 second.1.0 first.1.0 in
    let at : slice_get first.0 other ≡ Some place = subst (λ list. slice_get list other ≡ Some place) same second.1.1 in
    elim (cases_lt one other) [
      | inl less ↦ absurd (one_place law names first.0 place one other first.1.0 first.1.1 at less)
      | inr le ↦ elim (cases_lt other one) [
        | inl more ↦ absurd (one_place law names first.0 place other one first.1.0 at first.1.1 more)
        | inr ge ↦ omega (arith, le, ge)
      ]
    ]

pub one_at_rank : IsStrictTotalOrder IsTokenBefore → (names : List TokenName) (one other rank : ℕ) → HasRank names one rank → HasRank names other rank → one ≡ other
one_at_rank law names one other rank first second =
    let same = one_ranking law names second.0 first.0 second.1.0 first.1.0 in
    some_place one other (sym first.1.1 ∙ subst (λ list. slice_get list rank ≡ Some other) same second.1.1)
