-- Putting decisions back at their places.
use Rattle.std.proofs.Common.{◌≡◌, ℕ, zero, suc, ◌+◌, ◌<◌, ◌≤◌, take, drop, List, [], ◌∷◌, ◌++◌, length, insert, remove, refl, sym, ap, ◌∙◌, subst, slice_index_or, arith}
use Rattle.std.proofs.Math.Seq.{take-append_seam, drop-append_seam, drop-append-add}
use Rattle.std.proofs.lemmas.List.Edits.{length-insert}
use Rattle.model_core.specs.declared.decision.Decision.{Decision}
use Rattle.decision_log.specs.declared.steps.TakenOut.{TakenOut}
use Rattle.decision_log.specs.Kept.{put_back, AreBelow, HavePlaces}

-- the last of them is put back first
pub put_back-last : (more : List TakenOut) (last : TakenOut) (decisions : List Decision)
    → put_back (more ++ last ∷ []) decisions ≡ put_back more (insert decisions last.place last.decision)
put_back-last [] last decisions = refl
put_back-last (taken ∷ more) last decisions = ap (λ list. insert list taken.place taken.decision) (put_back-last more last decisions)

pub length-put_back : (taken : List TakenOut) (decisions : List Decision) → HavePlaces taken decisions
    → length (put_back taken decisions) ≡ length decisions + length taken
length-put_back [] decisions places = omega arith
length-put_back (taken ∷ more) decisions places =
    omega (arith, length-insert (put_back more decisions) taken.place taken.decision places.0, length-put_back more decisions places.1.1)

below_before : (place : ℕ) (more : List TakenOut) (last : TakenOut) → AreBelow place (more ++ last ∷ []) → AreBelow place more
below_before place [] last all = tt
below_before place (taken ∷ more) last all = (all.0, below_before place more last all.1)

below_with : (place : ℕ) (more : List TakenOut) (last : TakenOut) → AreBelow place more → last.place < place → AreBelow place (more ++ last ∷ [])
below_with place [] last all here = (here, tt)
below_with place (taken ∷ more) last all here = (all.0, below_with place more last all.1 here)

-- they have this place or greater ones
abbrev pub AreFrom : ℕ → List TakenOut → Type 0
AreFrom place [] = Unit {0}
AreFrom place (taken ∷ more) = (place ≤ taken.place) × AreFrom place more

pub from_lower : (lower place : ℕ) (more : List TakenOut) → lower ≤ place → AreFrom place more → AreFrom lower more
from_lower lower place [] le all = tt
from_lower lower place (taken ∷ more) le all = (omega arith, from_lower lower place more le all.1)

pub from_with : (place : ℕ) (more : List TakenOut) (last : TakenOut) → AreFrom place more → place ≤ last.place → AreFrom place (more ++ last ∷ [])
from_with place [] last all here = (here, tt)
from_with place (taken ∷ more) last all here = (all.0, from_with place more last all.1 here)

-- the last of them has a place, and once it is put back the others have theirs
pub places_left : (more : List TakenOut) (last : TakenOut) (decisions : List Decision) → HavePlaces (more ++ last ∷ []) decisions
    → (last.place ≤ length decisions) × HavePlaces more (insert decisions last.place last.decision)
places_left [] last decisions places = (places.0, tt)
places_left (taken ∷ more) last decisions places =
    let rest = places_left more last decisions places.1.1 in
    (rest.0, (subst (λ list. taken.place ≤ length list) (put_back-last more last decisions) places.0, (below_before taken.place more last places.1.0, rest.1)))

-- where the others have places once one is put back, and greater ones, all have
pub places_with : (more : List TakenOut) (last : TakenOut) (decisions : List Decision)
    → last.place ≤ length decisions → AreFrom (last.place + 1) more
    → HavePlaces more (insert decisions last.place last.decision) → HavePlaces (more ++ last ∷ []) decisions
places_with [] last decisions low above places = (low, (tt, tt))
places_with (taken ∷ more) last decisions low above places = (
  subst (λ list. taken.place ≤ length list) (sym (put_back-last more last decisions)) places.0,
  (below_with taken.place more last places.1.0 (omega arith), places_with more last decisions low above.1 places.1.1),
)

-- what was taken out of the middle goes back there
pub insert-middle : (front back : List Decision) (decision : Decision) → insert (front ++ back) (length front) decision ≡ front ++ decision ∷ back
insert-middle front back decision = λ i. take-append_seam front back i ++ decision ∷ drop-append_seam front back i

pub remove-middle : (front back : List Decision) (decision : Decision) → remove (front ++ decision ∷ back) (length front) ≡ front ++ back
remove-middle front back decision =
    let one : suc (length front) ≡ length front + 1 = omega arith in
    λ i. take-append_seam front (decision ∷ back) i ++ (ap (λ n. drop n (front ++ decision ∷ back)) one ∙ drop-append-add front (decision ∷ back) 1) i

pub index-middle : (front back : List Decision) (decision other : Decision) → slice_index_or (front ++ decision ∷ back) (length front) other ≡ decision
index-middle [] back decision other = refl
index-middle (first ∷ front) back decision other = index-middle front back decision other

-- a list at one of its places
pub record IsCut {X : Type 0} (list : List X) (place : ℕ) : Type 0 where
  pub here : X
  pub back : drop place list ≡ here ∷ drop (place + 1) list
  pub front : take (place + 1) list ≡ take place list ++ here ∷ []
  pub is : (other : X) → slice_index_or list place other ≡ here

pub cut_at : {X : Type 0} (list : List X) (place : ℕ) → place < length list → IsCut list place
cut_at [] place below = absurd (omega arith)
cut_at (x ∷ list) zero below = record { here = x; back = refl; front = refl; is = λ other. refl }
cut_at (x ∷ list) (suc place) below =
    let rest = cut_at list place (omega arith) in
    let one : suc place + 1 ≡ suc (place + 1) = omega arith in
    record {
      here = rest.here;
      back = rest.back ∙ ap (λ n. rest.here ∷ drop n (x ∷ list)) (sym one);
      front = ap (λ n. take n (x ∷ list)) one ∙ ap (λ xs. x ∷ xs) rest.front;
      is = rest.is;
    }
