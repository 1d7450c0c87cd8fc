-- Points in order, and the places and numbers that they have.
use Rattle.std.proofs.Common.{◌≡◌, ◌⊎◌, ℕ, zero, suc, ◌+◌, ◌<◌, ◌≤◌, List, [], ◌∷◌, ◌++◌, length, take, drop, get_or, Some, inl, inr, ⊎_elim, refl, sym, ap, ◌∙◌, subst, arith}
use Rattle.std.specs.Prelude.{Contains, AllPairs, slice_get}
use Rattle.std.proofs.lemmas.List.{take_more}
use Rattle.std.proofs.lemmas.List.Elements.{Contains-append_cases}
use Rattle.eu_name.proofs.Orders.{var_order}
use Rattle.eu_name.proofs.Members.{get_below, contains_from_get, get_same}
use Rattle.plan_defs.proofs.Knowing.{IsOrNot, same_name}
use Rattle.eu_name.proofs.Ordered.{contains_head, contains_later, contains_cases, contains_none, ordered_tail, ordered_head, ordered_cons}
use Rattle.db_edges.specs.declared.edge.NamedEdge.{NamedEdge}
use Rattle.db_edges.specs.declared.edge.Point.{Point}
use Rattle.db_edges.specs.declared.edge.Point.TheVariants.{Origin, Start, End}
use Rattle.db_edges.specs.TimeCycle.{ranks_as, IsPointBefore}
use Rattle.conflict_core.specs.Points.{ArePoints, IsPlaceOf, HavePoints, AddsPoint}

-- ---- the order of points

-- different points have different variables
moment_same : (one other : Point) → ranks_as one ≡ ranks_as other → one ≡ other
moment_same Origin Origin same = refl
moment_same Origin (Start b) same = absurd (let apart : ⊥ = cc in apart)
moment_same Origin (End b) same = absurd (let apart : ⊥ = cc in apart)
moment_same (Start a) Origin same = absurd (let apart : ⊥ = cc in apart)
moment_same (Start a) (Start b) same = let token : a ≡ b = cc in ap Start token
moment_same (Start a) (End b) same = absurd (let apart : ⊥ = cc in apart)
moment_same (End a) Origin same = absurd (let apart : ⊥ = cc in apart)
moment_same (End a) (Start b) same = absurd (let apart : ⊥ = cc in apart)
moment_same (End a) (End b) same = let token : a ≡ b = cc in ap End token

pub point_irreflexive : (point : Point) → IsPointBefore point point → ⊥
point_irreflexive point before = var_order.irreflexive (ranks_as point) before

pub point_transitive : (one middle other : Point) → IsPointBefore one middle → IsPointBefore middle other → IsPointBefore one other
point_transitive one middle other first second = var_order.transitive (ranks_as one) (ranks_as middle) (ranks_as other) first second

pub point_total : (one other : Point) → IsPointBefore one other ⊎ ((one ≡ other) ⊎ IsPointBefore other one)
point_total one other = elim (var_order.total (ranks_as one) (ranks_as other)) [
  | inl before ↦ inl before
  | inr (inl same) ↦ inr (inl (moment_same one other same))
  | inr (inr after) ↦ inr (inr after)
]

pub same_point : (one other : Point) → IsOrNot (one ≡ other)
same_point one other = elim (same_name (ranks_as one) (ranks_as other)) [
  | inl same ↦ inl (moment_same one other same)
  | inr apart ↦ inr (λ same. apart (ap ranks_as same))
]

-- nothing comes before the origin
first_origin : (point : Point) → IsPointBefore point Origin → ⊥
first_origin Origin before = omega (arith, before)
first_origin (Start token) before = before
first_origin (End token) before = before

-- ---- numbers

-- the number of a thing behind one that it is or isn't
abbrev pub number_past : {P : Type 0} → IsOrNot P → ℕ → ℕ
number_past (inl same) number = 0
number_past (inr apart) number = suc number

-- how many of the points stand before this one
abbrev pub number_in : List Point → Point → ℕ
number_in [] point = 0
number_in (first ∷ points) point = number_past (same_point first point) (number_in points point)

-- a point stands at its number
pub number_stands : (points : List Point) (point : Point) → Contains points point → slice_get points (number_in points point) ≡ Some point
number_stands [] point there = absurd (contains_none point there)
number_stands (first ∷ points) point there = at (same_point first point) (λ later. number_stands points point later)
  where
    at : (known : IsOrNot (first ≡ point)) → (Contains points point → slice_get points (number_in points point) ≡ Some point)
        → slice_get (first ∷ points) (number_past known (number_in points point)) ≡ Some point
    at (inl same) behind = ap Some same
    at (inr apart) behind = ⊎_elim (λ same. absurd (apart same)) behind (contains_cases first point points there)

-- which has one number
pub number_is : (points : List Point) (point : Point) (number : ℕ) → AllPairs IsPointBefore points → slice_get points number ≡ Some point → number_in points point ≡ number
number_is [] point number order at = absurd (let apart : ⊥ = cc in apart)
number_is (first ∷ points) point zero order at = here (same_point first point)
  where
    here : (known : IsOrNot (first ≡ point)) → number_past known (number_in points point) ≡ 0
    here (inl same) = refl
    here (inr apart) = absurd (apart (let same : first ≡ point = cc in same))
number_is (first ∷ points) point (suc number) order at =
    behind (same_point first point) (number_is points point number (ordered_tail IsPointBefore first points order) at)
  where
    later : IsPointBefore first point
    later = ordered_head IsPointBefore first points order point (contains_from_get points number point at)

    behind : (known : IsOrNot (first ≡ point)) → number_in points point ≡ number → number_past known (number_in points point) ≡ suc number
    behind (inl same) rest = absurd (point_irreflexive point (subst (λ p. IsPointBefore p point) same later))
    behind (inr apart) rest = ap suc rest

-- numbers follow the order
pub number_orders : (points : List Point) (one other : Point) → AllPairs IsPointBefore points → Contains points one → Contains points other
    → number_in points one ≤ number_in points other → (one ≡ other) ⊎ IsPointBefore one other
number_orders [] one other order has_one has_other less = absurd (contains_none one has_one)
number_orders (first ∷ points) one other order has_one has_other less =
    at (same_point first one) (same_point first other) less
    (λ one_there other_there fewer. number_orders points one other (ordered_tail IsPointBefore first points order) one_there other_there fewer)
  where
    rest : (point : Point) → Contains (first ∷ points) point → (first ≡ point → ⊥) → Contains points point
    rest point there apart = ⊎_elim (λ same. absurd (apart same)) (λ later. later) (contains_cases first point points there)

    at : (is_one : IsOrNot (first ≡ one)) (is_other : IsOrNot (first ≡ other))
        → number_past is_one (number_in points one) ≤ number_past is_other (number_in points other)
        → (Contains points one → Contains points other → number_in points one ≤ number_in points other → (one ≡ other) ⊎ IsPointBefore one other)
        → (one ≡ other) ⊎ IsPointBefore one other
    at (inl same_one) (inl same_other) fewer behind = inl (sym same_one ∙ same_other)
    at (inl same_one) (inr apart_other) fewer behind =
        inr (subst (λ p. IsPointBefore p other) same_one (ordered_head IsPointBefore first points order other (rest other has_other apart_other)))
    at (inr apart_one) (inl same_other) fewer behind = absurd (omega (arith, fewer))
    at (inr apart_one) (inr apart_other) fewer behind =
        behind (rest one has_one apart_one) (rest other has_other apart_other) (omega (arith, fewer))

-- points of one number are one
pub number_same : (points : List Point) (one other : Point) → Contains points one → Contains points other → number_in points one ≡ number_in points other → one ≡ other
number_same points one other has_one has_other same =
    get_same points (number_in points other) one other
    (subst (λ number. slice_get points number ≡ Some one) same (number_stands points one has_one)) (number_stands points other has_other)

-- the origin's is 0
pub origin_first : (points : List Point) → ArePoints points → slice_get points 0 ≡ Some Origin
origin_first [] are = absurd (contains_none Origin are.origin)
origin_first (first ∷ points) are =
    ⊎_elim
    (λ same. ap Some same)
    (λ later. absurd (first_origin first (ordered_head IsPointBefore first points are.order Origin later)))
    (contains_cases first Origin points are.origin)

pub origin_number : (points : List Point) → ArePoints points → number_in points Origin ≡ 0
origin_number points are = number_is points Origin 0 are.order (origin_first points are)

-- ---- putting a point to others

-- what is behind the front is in the list
in_insert : (points : List Point) (place : ℕ) (point other : Point) → Contains (take place points ++ point ∷ drop place points) other → (point ≡ other) ⊎ Contains points other
in_insert points zero point other there = contains_cases point other points there
in_insert [] (suc place) point other there = contains_cases point other [] there
in_insert (first ∷ points) (suc place) point other there = elim (contains_cases first other (take place points ++ point ∷ drop place points) there) [
  | inl same ↦ inr (subst (Contains (first ∷ points)) same (contains_head first points))
  | inr later ↦ elim (in_insert points place point other later) [
    | inl here ↦ inl here
    | inr rest ↦ inr (contains_later first other points rest)
  ]
]

pub insert_has : (points : List Point) (place : ℕ) (point : Point) → Contains (take place points ++ point ∷ drop place points) point
insert_has points zero point = contains_head point points
insert_has [] (suc place) point = contains_head point []
insert_has (first ∷ points) (suc place) point = contains_later first point _ (insert_has points place point)

pub insert_keeps : (points : List Point) (place : ℕ) (point other : Point) → Contains points other → Contains (take place points ++ point ∷ drop place points) other
insert_keeps points zero point other there = contains_later point other points there
insert_keeps [] (suc place) point other there = absurd (contains_none other there)
insert_keeps (first ∷ points) (suc place) point other there = elim (contains_cases first other points there) [
  | inl same ↦ subst (Contains (first ∷ (take place points ++ point ∷ drop place points))) same (contains_head first _)
  | inr later ↦ contains_later first other _ (insert_keeps points place point other later)
]

-- between those before it and those behind it all stand in order
pub insert_orders : (points : List Point) (place : ℕ) (point : Point) → AllPairs IsPointBefore points
    → ((other : Point) → Contains (take place points) other → IsPointBefore other point)
    → ((other : Point) → Contains (drop place points) other → IsPointBefore point other)
    → AllPairs IsPointBefore (take place points ++ point ∷ drop place points)
insert_orders points zero point order lower upper = ordered_cons IsPointBefore point points upper order
insert_orders [] (suc place) point order lower upper = ordered_cons IsPointBefore point [] (λ other there. absurd (contains_none other there)) order
insert_orders (first ∷ points) (suc place) point order lower upper =
    ordered_cons IsPointBefore first (take place points ++ point ∷ drop place points)
    (λ other there. elim (in_insert points place point other there) [
      | inl same ↦ subst (IsPointBefore first) same (lower first (contains_head first (take place points)))
      | inr later ↦ ordered_head IsPointBefore first points order other later
    ])
    (insert_orders points place point (ordered_tail IsPointBefore first points order) (λ other there. lower other (contains_later first other (take place points) there)) upper)

-- what stands behind the place is the point or comes after it
module _ (points : List Point) (point : Point) (place : ℕ) (are : ArePoints points) (is_place : IsPlaceOf points point place) where
  behind_or_same : (other : Point) → Contains (drop place points) other → (other ≡ point) ⊎ IsPointBefore point other
  behind_or_same other there = elim (point_total other point) [
    | inl before ↦ absurd (is_place.upper other there before)
    | inr (inl same) ↦ inl same
    | inr (inr after) ↦ inr after
  ]

-- a point that is there stands at its place
pub place_stands : (points : List Point) (point : Point) (place : ℕ) → AllPairs IsPointBefore points
    → ((other : Point) → Contains (take place points) other → IsPointBefore other point)
    → ((other : Point) → Contains (drop place points) other → IsPointBefore other point → ⊥)
    → Contains points point → slice_get points place ≡ Some point
place_stands [] point place order lower upper there = absurd (contains_none point there)
place_stands (first ∷ points) point zero order lower upper there = elim (contains_cases first point points there) [
  | inl same ↦ ap Some same
  | inr later ↦ absurd (upper first (contains_head first points) (ordered_head IsPointBefore first points order point later))
]
place_stands (first ∷ points) point (suc place) order lower upper there = elim (contains_cases first point points there) [
  | inl same ↦ absurd (point_irreflexive point (subst (λ p. IsPointBefore p point) same (lower first (contains_head first (take place points)))))
  | inr later ↦ place_stands points point place (ordered_tail IsPointBefore first points order)
      (λ other is. lower other (contains_later first other (take place points) is)) upper later
]

-- so where it doesn't, it can be put there
drop_in : (points : List Point) (place : ℕ) (other : Point) → Contains (drop place points) other → Contains points other
drop_in points zero other there = there
drop_in [] (suc place) other there = there
drop_in (first ∷ points) (suc place) other there = contains_later first other points (drop_in points place other there)

pub point_added : (points : List Point) (point copied : Point) (place : ℕ) (new : List Point) → ArePoints points → IsPlaceOf points point place
    → (Contains points point → ⊥) → copied ≡ point → new ≡ take place points ++ copied ∷ drop place points → AddsPoint points point new
point_added points point copied place new are is_place missing copy is =
    let all : new ≡ take place points ++ point ∷ drop place points = is ∙ ap (λ (p : Point). take place points ++ p ∷ drop place points) copy in
    subst (AddsPoint points point) (sym all) (record {
      are = record {
        order = insert_orders points place point are.order is_place.lower (λ other there. elim (behind_or_same points point place are is_place other there) [
          | inl at ↦ absurd (missing (subst (Contains points) at (drop_in points place other there)))
          | inr after ↦ after
        ]);
        origin = insert_keeps points place point Origin are.origin;
      };
      old_stay = λ other there. insert_keeps points place point other there;
      there = insert_has points place point;
    })

-- and where it does, nothing has to be done
pub point_there : (points seen : List Point) (point : Point) → seen ≡ points → ArePoints points → Contains seen point → AddsPoint points point points
point_there points seen point same are there = record {
  are = are;
  old_stay = λ other is. is;
  there = subst (λ (list : List Point). Contains list point) same there;
}

-- those of the next edge of a list
pub have_next : (edges : List NamedEdge) (place : ℕ) (edge : NamedEdge) (old new : List Point) → place < length edges → edge ≡ get_or edges place edge
    → HavePoints old (take place edges) → AddsPoint old edge.from new → AddsPoint old edge.to new → HavePoints new (take (place + 1) edges)
have_next edges place edge old new within is have from to each there =
    let next : take (place + 1) edges ≡ take place edges ++ edge ∷ [] = take_more edges place edge within ∙ ap (λ (e : NamedEdge). take place edges ++ e ∷ []) (sym is) in
    elim (Contains-append_cases (take place edges) (edge ∷ []) each (subst (λ (list : List NamedEdge). Contains list each) next there)) [
      | inl before ↦ (from.old_stay each.from (have each before).0, from.old_stay each.to (have each before).1)
      | inr now ↦
          let same : edge ≡ each = ⊎_elim (λ is_each. is_each) (λ later. absurd (contains_none each later)) (contains_cases edge each [] now) in
          subst (λ (e : NamedEdge). Contains new e.from × Contains new e.to) same (from.there, to.there)
    ]

pub have_none : (points : List Point) → HavePoints points []
have_none points = λ edge there. absurd (contains_none edge there)

-- there is a point
pub some_points : (points : List Point) → ArePoints points → 0 < length points
some_points points are = get_below points 0 Origin (origin_first points are)

-- ---- the search for a place

-- nothing is behind all of them
pub none_behind : (points : List Point) (point : Point) → Contains (drop (length points) points) point → ⊥
none_behind [] point there = contains_none point there
none_behind (first ∷ points) point there = none_behind points point there

-- what stands before a point that comes before another comes before it too
pub lower_to : (points : List Point) (point : Point) (middle : ℕ) (found : Point) → AllPairs IsPointBefore points → slice_get points middle ≡ Some found
    → IsPointBefore found point → (other : Point) → Contains (take (suc middle) points) other → IsPointBefore other point
lower_to [] point middle found order at before other there = absurd (let apart : ⊥ = cc in apart)
lower_to (first ∷ points) point zero found order at before other there =
    let is_first : first ≡ found = cc in
    ⊎_elim
    (λ same. subst (λ p. IsPointBefore p point) (sym is_first ∙ same) before)
    (λ later. absurd (contains_none other later))
    (contains_cases first other [] there)
lower_to (first ∷ points) point (suc middle) found order at before other there =
    ⊎_elim
    (λ same. subst (λ p. IsPointBefore p point) same
    (point_transitive first found point (ordered_head IsPointBefore first points order found (contains_from_get points middle found at)) before))
    (λ later. lower_to points point middle found (ordered_tail IsPointBefore first points order) at before other later)
    (contains_cases first other (take (suc middle) points) there)

-- and what stands behind one that doesn't, doesn't
pub upper_from : (points : List Point) (point : Point) (middle : ℕ) (found : Point) → AllPairs IsPointBefore points → slice_get points middle ≡ Some found
    → (IsPointBefore found point → ⊥) → (other : Point) → Contains (drop middle points) other → IsPointBefore other point → ⊥
upper_from [] point middle found order at late other there before = absurd (let apart : ⊥ = cc in apart)
upper_from (first ∷ points) point zero found order at late other there before =
    let is_first : first ≡ found = cc in
    ⊎_elim
    (λ same. late (subst (λ p. IsPointBefore p point) (sym same ∙ is_first) before))
    (λ later. late (subst (λ p. IsPointBefore p point) is_first
    (point_transitive first other point (ordered_head IsPointBefore first points order other later) before)))
    (contains_cases first other points there)
upper_from (first ∷ points) point (suc middle) found order at late other there before =
    upper_from points point middle found (ordered_tail IsPointBefore first points order) at late other there before

pub lower_to_next : (points : List Point) (point : Point) (middle : ℕ) (found : Point) → AllPairs IsPointBefore points → slice_get points middle ≡ Some found
    → IsPointBefore found point → (other : Point) → Contains (take (middle + 1) points) other → IsPointBefore other point
lower_to_next points point middle found order at before other there =
    let next : middle + 1 ≡ suc middle = omega arith in
    lower_to points point middle found order at before other (subst (λ k. Contains (take k points) other) next there)
