-- Lists that a loop fills, an item at a time.
use Rattle.std.proofs.Common.{◌≡◌, ℕ, ◌+◌, ◌<◌, ◌≤◌, List, [], ◌∷◌, ◌++◌, length, take, get_or, Some, Vec, Result, Ok, Err, sym, ap, ◌∙◌, subst}
use Rattle.std.specs.Prelude.{IfOk, Contains, slice_get}
use Rattle.std.specs.Global.{Global}
use Rattle.std.specs.declared.alloc.AllocError.{AllocError}
use Rattle.std.specs.List.{AllZip}
use Rattle.std.proofs.lemmas.List.{take_all, take_more}
use Rattle.db_edges.specs.declared.edge.NamedEdge.{NamedEdge}
use Rattle.db_edges.specs.declared.edge.Point.{Point}
use Rattle.temporal_core.specs.declared.edges.Edge.{Edge}
use Rattle.temporal_core.specs.Network.{TimeNetwork}
use Rattle.conflict_core.specs.Points.{HavePoints, NumbersEdge}
use Rattle.db_edges.specs.TimeCycle.{IsTimeCycle}
use Rattle.conflict_core.specs.Walks.{walk_at}
use Rattle.conflict_core.proofs.Naming.{walk_push}

-- an item of a list is a member
pub item_there : {X : Type 0} (xs : List X) (place : ℕ) (x : X) → place < length xs → x ≡ get_or xs place x → Contains xs x
item_there xs place x within is = (place, within, sym is)

-- one more pair
zip_push : {A B : Type 0} (R : A → B → Type 0) (xs : List A) (ys : List B) (x : A) (y : B) → AllZip R xs ys → R x y → AllZip R (xs ++ x ∷ []) (ys ++ y ∷ [])
zip_push R [] [] x y all one = (one, tt)
zip_push R [] (b ∷ ys) x y all one = absurd all
zip_push R (a ∷ xs) [] x y all one = absurd all
zip_push R (a ∷ xs) (b ∷ ys) x y all one = (all.0, zip_push R xs ys x y all.1 one)

pub zip_next : (points : List Point) (edges : List NamedEdge) (place : ℕ) (edge : NamedEdge) (numbers : List Edge) (number : Edge)
    → place < length edges → edge ≡ get_or edges place edge → AllZip (NumbersEdge points) (take place edges) numbers → NumbersEdge points edge number
    → AllZip (NumbersEdge points) (take (place + 1) edges) (numbers ++ number ∷ [])
zip_next points edges place edge numbers number within is all one =
    let next : take (place + 1) edges ≡ take place edges ++ edge ∷ [] = take_more edges place edge within ∙ ap (λ (e : NamedEdge). take place edges ++ e ∷ []) (sym is) in
    subst (λ (list : List NamedEdge). AllZip (NumbersEdge points) list (numbers ++ number ∷ [])) (sym next) (zip_push (NumbersEdge points) (take place edges) numbers edge number all one)

-- one more edge of a walk
pub walk_next : (edges : List NamedEdge) (places : List ℕ) (index : ℕ) (edge : NamedEdge) (found : List NamedEdge) → index < length places
    → slice_get edges (get_or places index 0) ≡ Some edge → found ≡ walk_at edges (take index places)
    → found ++ edge ∷ [] ≡ walk_at edges (take (index + 1) places)
walk_next edges places index edge found within at so_far =
    let next : take (index + 1) places ≡ take index places ++ get_or places index 0 ∷ [] = take_more places index 0 within in
    ap (λ (list : List NamedEdge). list ++ edge ∷ []) so_far ∙ (sym (walk_push edges (take index places) (get_or places index 0) edge at) ∙ ap (walk_at edges) (sym next))

-- the network with one more edge
pub zip_add : (points : List Point) (edges : List NamedEdge) (place : ℕ) (edge : NamedEdge) (old new : TimeNetwork) (number : Edge)
    → place < length edges → edge ≡ get_or edges place edge → old.points ≡ length points → AllZip (NumbersEdge points) (take place edges) old.edges
    → NumbersEdge points edge number → new ≡ record old { edges = old.edges ++ number ∷ [] }
    → (new.points ≡ length points) × AllZip (NumbersEdge points) (take (place + 1) edges) new.edges
zip_add points edges place edge old new number within is count all one added = (
  ap (λ (network : TimeNetwork). network.points) added ∙ count,
  subst (AllZip (NumbersEdge points) (take (place + 1) edges)) (sym (ap (λ (network : TimeNetwork). network.edges) added))
      (zip_next points edges place edge old.edges number within is all one),
)

-- all of a list
pub zip_whole : (points : List Point) (edges : List NamedEdge) (place : ℕ) (numbers : List Edge) → length edges ≤ place → AllZip (NumbersEdge points) (take place edges) numbers
    → AllZip (NumbersEdge points) edges numbers
zip_whole points edges place numbers long all = subst (λ (list : List NamedEdge). AllZip (NumbersEdge points) list numbers) (take_all place edges long) all

pub have_whole : (points : List Point) (edges : List NamedEdge) (place : ℕ) → length edges ≤ place → HavePoints points (take place edges) → HavePoints points edges
have_whole points edges place long have = subst (HavePoints points) (take_all place edges long) have

-- the edges of a walk are the cycle
pub round_found : (result : Result (Vec NamedEdge Global) AllocError) (edges : List NamedEdge) (seen places : List ℕ) → seen ≡ places
    → ((cycle : List NamedEdge) → cycle ≡ walk_at edges places → IsTimeCycle edges cycle)
    → IfOk result (λ found. found.items ≡ walk_at edges seen) → IfOk result (λ cycle. IsTimeCycle edges cycle.items)
round_found (Ok found) edges seen places same is walked = is found.items (walked ∙ ap (walk_at edges) same)
round_found (Err none) edges seen places same is walked = tt
