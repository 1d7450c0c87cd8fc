-- What is known before any walk.
use Rattle.std.proofs.Common.{◌≡◌, ℕ, zero, suc, ◌+◌, List, [], ◌∷◌, ◌++◌, length, take, slice_get, Option, Some, None, inl, inr, refl, sym, ap, ◌∙◌, subst, arith, length-append}
use Rattle.eu_forest.specs.declared.lineage.Rootedness.TheVariants.{Rooted}
use Rattle.eu_forest.specs.declared.walk.Mark.{Mark}
use Rattle.eu_forest.specs.declared.walk.Mark.TheVariants as marks
use Rattle.eu_forest.specs.Walks.{AreBegun}
use Rattle.eu_forest.proofs.Lists.{some_is, get-append_left, get-append_last, get-append_cases}
use Rattle.eu_forest.proofs.Marking.{take_all}

pub begun_none : (parents : List (Option ℕ)) → AreBegun (take 0 parents) [] []
begun_none parents = record {
  count = refl;
  root = λ n h. cc;
  other = λ n p h. cc;
  ordered = λ place n h. cc;
}

-- the item at the end, at its own place
last_at : {X : Type 0} (list : List X) (last : X) (place : ℕ) → place ≡ length list → slice_get (list ++ last ∷ []) place ≡ Some last
last_at list last place at = ap (λ p. slice_get (list ++ last ∷ []) p) at ∙ get-append_last list last

begun-root : (done : List (Option ℕ)) (marked : List Mark) (order : List ℕ) (i : ℕ) → i ≡ length done → AreBegun done marked order
    → AreBegun (done ++ None ∷ []) (marked ++ marks.Known Rooted ∷ []) (order ++ i ∷ [])
begun-root done marked order i at begun = record {
  count = omega (arith, length-append {A = Option ℕ} done (None ∷ []), length-append {A = Mark} marked (marks.Known Rooted ∷ []), begun.count);
  root = λ n h. elim (get-append_cases done None n None h) [
    | inl old ↦ (let r = begun.root n old in
        (get-append_left marked (marks.Known Rooted ∷ []) n (marks.Known Rooted) r.0, (r.1.0, get-append_left order (i ∷ []) r.1.0 n r.1.1)))
    | inr new ↦ (
      last_at marked (marks.Known Rooted) n (new.0 ∙ sym begun.count),
      (length order, last_at order i (length order) refl ∙ ap Some (at ∙ sym new.0)),
    )
  ];
  other = λ n p h. elim (get-append_cases done None n (Some p) h) [
    | inl old ↦ get-append_left marked (marks.Known Rooted ∷ []) n marks.Unseen (begun.other n p old)
    | inr new ↦ (let e = new.1 in cc)
  ];
  ordered = λ place n h. elim (get-append_cases order i place n h) [
    | inl old ↦ get-append_left done (None ∷ []) n None (begun.ordered place n old)
    | inr new ↦ last_at done None n (new.1 ∙ at)
  ];
}

begun-other : (done : List (Option ℕ)) (marked : List Mark) (order : List ℕ) (q : ℕ) → AreBegun done marked order
    → AreBegun (done ++ Some q ∷ []) (marked ++ marks.Unseen ∷ []) order
begun-other done marked order q begun = record {
  count = omega (arith, length-append {A = Option ℕ} done (Some q ∷ []), length-append {A = Mark} marked (marks.Unseen ∷ []), begun.count);
  root = λ n h. elim (get-append_cases done (Some q) n None h) [
    | inl old ↦ (let r = begun.root n old in (get-append_left marked (marks.Unseen ∷ []) n (marks.Known Rooted) r.0, r.1))
    | inr new ↦ (let e = new.1 in cc)
  ];
  other = λ n p h. elim (get-append_cases done (Some q) n (Some p) h) [
    | inl old ↦ get-append_left marked (marks.Unseen ∷ []) n marks.Unseen (begun.other n p old)
    | inr new ↦ last_at marked marks.Unseen n (new.0 ∙ sym begun.count)
  ];
  ordered = λ place n h. get-append_left done (Some q ∷ []) n None (begun.ordered place n h);
}

take-more : {X : Type 0} (list : List X) (i : ℕ) (x : X) → slice_get list i ≡ Some x → take (i + 1) list ≡ take i list ++ x ∷ []
take-more [] i x at = cc
take-more (y ∷ list) zero x at = ap (λ z. z ∷ []) (some_is y x at)
take-more (y ∷ list) (suc i) x at =
    let e : suc i + 1 ≡ suc (i + 1) = omega arith in rw e (ap (λ zs. y ∷ zs) (take-more list i x at))

length-taken : {X : Type 0} (list : List X) (i : ℕ) (x : X) → slice_get list i ≡ Some x → i ≡ length (take i list)
length-taken [] i x at = cc
length-taken (y ∷ list) zero x at = refl
length-taken (y ∷ list) (suc i) x at = ap suc (length-taken list i x at)

pub begun_root : (parents : List (Option ℕ)) (i : ℕ) (marked : List Mark) (order : List ℕ) → slice_get parents i ≡ Some None
    → AreBegun (take i parents) marked order → AreBegun (take (i + 1) parents) (marked ++ marks.Known Rooted ∷ []) (order ++ i ∷ [])
begun_root parents i marked order at begun =
    let P : List (Option ℕ) → Type 0 = λ done. AreBegun done (marked ++ marks.Known Rooted ∷ []) (order ++ i ∷ []) in
    subst P (sym (take-more parents i None at)) (begun-root (take i parents) marked order i (length-taken parents i None at) begun)

pub begun_other : (parents : List (Option ℕ)) (i p : ℕ) (marked : List Mark) (order : List ℕ) → slice_get parents i ≡ Some (Some p)
    → AreBegun (take i parents) marked order → AreBegun (take (i + 1) parents) (marked ++ marks.Unseen ∷ []) order
begun_other parents i p marked order at begun =
    let P : List (Option ℕ) → Type 0 = λ done. AreBegun done (marked ++ marks.Unseen ∷ []) order in
    subst P (sym (take-more parents i (Some p) at)) (begun-other (take i parents) marked order p begun)

pub begun_all : (parents : List (Option ℕ)) (marked : List Mark) (order : List ℕ) → AreBegun (take (length parents) parents) marked order → AreBegun parents marked order
begun_all parents marked order begun = let P : List (Option ℕ) → Type 0 = λ done. AreBegun done marked order in subst P (take_all parents) begun

-- the same of lists that are equal to those
pub begun_root_as : (parents : List (Option ℕ)) (i : ℕ) (marked new : List Mark) (order ordered : List ℕ) → slice_get parents i ≡ Some None
    → new ≡ marked ++ marks.Known Rooted ∷ [] → ordered ≡ order ++ i ∷ []
    → AreBegun (take i parents) marked order → AreBegun (take (i + 1) parents) new ordered
begun_root_as parents i marked new order ordered at marks_are order_is begun =
    rw (marks_are, order_is) (begun_root parents i marked order at begun)

pub begun_other_as : (parents : List (Option ℕ)) (i p : ℕ) (marked new : List Mark) (order ordered : List ℕ) → slice_get parents i ≡ Some (Some p)
    → new ≡ marked ++ marks.Unseen ∷ [] → ordered ≡ order
    → AreBegun (take i parents) marked order → AreBegun (take (i + 1) parents) new ordered
begun_other_as parents i p marked new order ordered at marks_are order_is begun =
    rw (marks_are, order_is) (begun_other parents i p marked order at begun)
