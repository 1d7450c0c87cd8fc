-- Where things stand in blocks: as the first entry, inside of it, or among the later ones.
use Rattle.std.proofs.Common.{◌≡◌, ℕ, zero, suc, List, [], ◌∷◌, slice_get, Some, refl, sym, ap, ◌∙◌, subst, arith}
use Rattle.model_core.specs.declared.rule.Guard.{Guard}
use Rattle.model_core.specs.declared.rule.Side.{Side}
use Rattle.model_core.specs.declared.rule.Side.TheVariants.{Then, Otherwise}
use Rattle.model_core.specs.declared.rule.Turn.{Turn}
use Rattle.model_core.specs.Blocks.{Direct, OfBranch, chosen, direct}
use Rattle.model_core.specs.Entries.{Entries}
use Rattle.model_core.specs.Standing.{StandsAt}
use Rattle.model_rules.proofs.Ways.{some_same}

-- a path and a place
pub record Spot : Type 0 where
  pub path : List Turn
  pub place : ℕ

-- what stands at the spot
abbrev pub StandsSpot : Entries → Spot → Direct → Type 0
StandsSpot top spot what = StandsAt top spot.path spot.place what

abbrev pub first_spot : Spot
first_spot = record { path = []; place = 0 }

-- the spot in a block with one entry more in front
abbrev later_turn : Turn → Turn
later_turn turn = record { entry = suc turn.entry; side = turn.side }

abbrev path_later : List Turn → List Turn
path_later [] = []
path_later (turn ∷ path) = later_turn turn ∷ path

abbrev place_later : List Turn → ℕ → ℕ
place_later [] place = suc place
place_later (turn ∷ path) place = place

abbrev pub later : Spot → Spot
later spot = record { path = path_later spot.path; place = place_later spot.path spot.place }

-- the spot in a side of the branch that stands first
abbrev pub inside : Side → Spot → Spot
inside side spot = record { path = record { entry = 0; side = side } ∷ spot.path; place = spot.place }

-- ---- spots that differ

pub spot_same : (one other : Spot) → one.path ≡ other.path → one.place ≡ other.place → one ≡ other
spot_same one other paths places = λ i. record { path = paths i; place = places i }

paths_once : (one other : List Turn) → path_later one ≡ path_later other → one ≡ other
paths_once [] [] is = refl
paths_once [] (turn ∷ other) is = cc
paths_once (turn ∷ one) [] is = cc
paths_once (turn ∷ one) (turn' ∷ other) is =
    let heads : later_turn turn ≡ later_turn turn' = cc in
    let entries : suc turn.entry ≡ suc turn'.entry = ap (λ (t : Turn). t.entry) heads in
    let sides : turn.side ≡ turn'.side = ap (λ (t : Turn). t.side) heads in
    let rest : one ≡ other = cc in
    let same : turn.entry ≡ turn'.entry = omega (arith, entries) in
    λ i. record { entry = same i; side = sides i } ∷ rest i

places_once : (path other : List Turn) (place number : ℕ) → path ≡ other → place_later path place ≡ place_later other number → place ≡ number
places_once [] [] place number same is = omega (arith, is)
places_once [] (turn ∷ other) place number same is = cc
places_once (turn ∷ path) [] place number same is = cc
places_once (turn ∷ path) (turn' ∷ other) place number same is = is

pub later_once : (one other : Spot) → later one ≡ later other → one ≡ other
later_once one other is =
    let paths = paths_once one.path other.path (ap (λ (s : Spot). s.path) is) in
    spot_same one other paths (places_once one.path other.path one.place other.place paths (ap (λ (s : Spot). s.place) is))

pub inside_once : (side : Side) (one other : Spot) → inside side one ≡ inside side other → one ≡ other
inside_once side one other is =
    let paths : record { entry = 0; side = side } ∷ one.path ≡ record { entry = 0; side = side } ∷ other.path = ap (λ (s : Spot). s.path) is in
    let rest : one.path ≡ other.path = cc in
    spot_same one other rest (ap (λ (s : Spot). s.place) is)

pub first_not_later : (spot : Spot) → first_spot ≡ later spot → ⊥
first_not_later spot is = by spot.path spot.place (ap (λ (s : Spot). s.path) is) (ap (λ (s : Spot). s.place) is)
  where
    by : (path : List Turn) (place : ℕ) → [] ≡ path_later path → 0 ≡ place_later path place → ⊥
    by [] place paths places = omega (arith, places)
    by (turn ∷ path) place paths places = cc

pub first_not_inside : (side : Side) (spot : Spot) → first_spot ≡ inside side spot → ⊥
first_not_inside side spot is = let paths : [] ≡ record { entry = 0; side = side } ∷ spot.path = ap (λ (s : Spot). s.path) is in cc

pub inside_not_later : (side : Side) (one other : Spot) → inside side one ≡ later other → ⊥
inside_not_later side one other is = by other.path (ap (λ (s : Spot). s.path) is)
  where
    by : (path : List Turn) → record { entry = 0; side = side } ∷ one.path ≡ path_later path → ⊥
    by [] same = cc
    by (turn ∷ path) same =
        let first : Turn = record { entry = 0; side = side } in
        let heads : first ≡ later_turn turn = cc in
        let entries : 0 ≡ suc turn.entry = ap (λ (t : Turn). t.entry) heads in
        omega (arith, entries)

pub sides_apart : (one other : Spot) → inside Then one ≡ inside Otherwise other → ⊥
sides_apart one other is =
    let paths : record { entry = 0; side = Then } ∷ one.path ≡ record { entry = 0; side = Otherwise } ∷ other.path = ap (λ (s : Spot). s.path) is in
    let left : Turn = record { entry = 0; side = Then } in
    let right : Turn = record { entry = 0; side = Otherwise } in
    let heads : left ≡ right = cc in
    let turns : Then ≡ Otherwise = ap (λ (t : Turn). t.side) heads in
    cc

-- ---- what stands where

-- where it stands in a block whose first entry is this
pub data Found (whole more : Entries) (head : Direct) (spot : Spot) (what : Direct) : Type 0 where
  at_first : spot ≡ first_spot → head ≡ what → Found whole more head spot what
  in_later : (other : Spot) → spot ≡ later other → StandsSpot more other what → Found whole more head spot what
  in_side : (guard : Guard) (then otherwise : Entries) (side : Side) (other : Spot) → head ≡ OfBranch guard then otherwise → spot ≡ inside side other
      → StandsSpot (chosen side then otherwise) other what → Found whole more head spot what

module _ (whole more : Entries) (head : Direct) (is : direct whole ≡ head ∷ direct more) where
  pub first_stands : StandsSpot whole first_spot head
  first_stands = record { block = whole; way = refl; stands = subst (λ (l : List Direct). slice_get l 0 ≡ Some head) (sym is) refl }

  pub later_stands : (spot : Spot) (what : Direct) → StandsSpot more spot what → StandsSpot whole (later spot) what
  later_stands spot what stands = by spot.path spot.place stands
    where
      by : (path : List Turn) (place : ℕ) → StandsAt more path place what → StandsAt whole (path_later path) (place_later path place) what
      by [] place at = record {
        block = whole;
        way = refl;
        stands = subst (λ (l : List Direct). slice_get l (suc place) ≡ Some what) (sym is) (subst (λ (b : Entries). slice_get (direct b) place ≡ Some what) at.way at.stands);
      }
      by (turn ∷ path) place at =
          let guard = at.way.0 in
          let then = at.way.1.0 in
          let otherwise = at.way.1.1 in
          record {
            block = at.block;
            way = (guard, (then, otherwise, (subst (λ (l : List Direct). slice_get l (suc turn.entry) ≡ Some (OfBranch guard then otherwise)) (sym is) at.way.1.2.0, at.way.1.2.1)));
            stands = at.stands;
          }

  pub side_stands : (guard : Guard) (then otherwise : Entries) (side : Side) (spot : Spot) (what : Direct) → head ≡ OfBranch guard then otherwise
      → StandsSpot (chosen side then otherwise) spot what → StandsSpot whole (inside side spot) what
  side_stands guard then otherwise side spot what branch at = record {
    block = at.block;
    way = (guard, (then, otherwise, (subst (λ (l : List Direct). slice_get l 0 ≡ Some (OfBranch guard then otherwise)) (sym is) (ap Some branch), (tt, at.way))));
    stands = at.stands;
  }

  pub found : (spot : Spot) (what : Direct) → StandsSpot whole spot what → Found whole more head spot what
  found spot what at = by spot.path spot.place refl refl at
    where
      by : (path : List Turn) (place : ℕ) → spot.path ≡ path → spot.place ≡ place → StandsAt whole path place what → Found whole more head spot what
      by [] zero paths places at =
          let here : slice_get (head ∷ direct more) 0 ≡ Some what = subst (λ (l : List Direct). slice_get l 0 ≡ Some what) is
          (subst (λ (b : Entries). slice_get (direct b) 0 ≡ Some what) at.way at.stands) in
          at_first (spot_same spot first_spot paths places) (some_same head what here)
      by [] (suc place) paths places at =
          let here : slice_get (head ∷ direct more) (suc place) ≡ Some what = subst (λ (l : List Direct). slice_get l (suc place) ≡ Some what) is
          (subst (λ (b : Entries). slice_get (direct b) (suc place) ≡ Some what) at.way at.stands) in
          let other : Spot = record { path = []; place = place } in
          in_later other (spot_same spot (later other) paths places) (record { block = more; way = refl; stands = here })
      by (turn ∷ path) place paths places at = turned turn.entry refl (subst (λ (l : List Direct). slice_get l turn.entry ≡ Some (OfBranch at.way.0 at.way.1.0 at.way.1.1)) is at.way.1.2.0)
        where
          turned : (entry : ℕ) → turn.entry ≡ entry → slice_get (head ∷ direct more) entry ≡ Some (OfBranch at.way.0 at.way.1.0 at.way.1.1) → Found whole more head spot what
          turned zero entries here =
              let other : Spot = record { path = path; place = place } in
              let same : turn ≡ record { entry = 0; side = turn.side } = λ i. record { entry = entries i; side = turn.side } in
              in_side at.way.0 at.way.1.0 at.way.1.1 turn.side other (some_same head _ here)
              (spot_same spot (inside turn.side other) (paths ∙ ap (λ t. t ∷ path) same) places)
              (record { block = at.block; way = at.way.1.2.1.1; stands = at.stands })
          turned (suc entry) entries here =
              let before : Turn = record { entry = entry; side = turn.side } in
              let other : Spot = record { path = before ∷ path; place = place } in
              let same : turn ≡ record { entry = suc entry; side = turn.side } = λ i. record { entry = entries i; side = turn.side } in
              in_later other (spot_same spot (later other) (paths ∙ ap (λ t. t ∷ path) same) places)
              (record { block = at.block; way = (at.way.0, (at.way.1.0, at.way.1.1, (here, (tt, at.way.1.2.1.1)))); stands = at.stands })
