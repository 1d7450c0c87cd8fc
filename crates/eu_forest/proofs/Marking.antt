-- Things that get a mark one after another.
use Rattle.std.proofs.Common.{◌≡◌, ℕ, zero, suc, ◌+◌, ◌<◌, List, [], ◌∷◌, length, take, slice_set, slice_get, Some, ◌⊎◌, inl, inr, refl, sym, ap, ◌∙◌, subst, arith, length-set}
use Rattle.eu_forest.specs.declared.walk.Mark.{Mark}
use Rattle.eu_forest.specs.Walks.{MarksAll}
use Rattle.eu_forest.proofs.Lists.{some_is, get-set_same, get-set_other, get-take, take-get, get-take_below}

pub no_marks : (list : List ℕ) (mark : Mark) (old : List Mark) → MarksAll (take 0 list) mark old old
no_marks list mark old = record { count = refl; inside = λ place n is. cc; outside = λ n none. refl }

pub take_all : {X : Type 0} (list : List X) → take (length list) list ≡ list
take_all [] = refl
take_all (x ∷ list) = ap (λ xs. x ∷ xs) (take_all list)

pub all_marks : (list : List ℕ) (mark : Mark) (old new : List Mark) → MarksAll (take (length list) list) mark old new → MarksAll list mark old new
all_marks list mark old new marked = let P : List ℕ → Type 0 = λ xs. MarksAll xs mark old new in subst P (take_all list) marked

pub equal_or_not : (one other : ℕ) → (one ≡ other) ⊎ (one ≡ other → ⊥)
equal_or_not zero zero = inl refl
equal_or_not zero (suc other) = inr (λ e. omega arith)
equal_or_not (suc one) zero = inr (λ e. omega arith)
equal_or_not (suc one) (suc other) = elim (equal_or_not one other) [ inl e ↦ inl (ap suc e) | inr n ↦ inr (λ e. n (omega arith)) ]

pub marks_more : (list : List ℕ) (i x : ℕ) (mark : Mark) (old mid : List Mark) → slice_get list i ≡ Some x → x < length mid
    → MarksAll (take i list) mark old mid → MarksAll (take (i + 1) list) mark old (slice_set mid x mark)
marks_more list i x mark old mid at there marked = record {
  count = length-set mid x mark ∙ marked.count;
  inside = λ place n is. elim (equal_or_not n x) [
    | inl same ↦ (let P : ℕ → Type 0 = λ m. slice_get (slice_set mid x mark) m ≡ Some mark in subst P (sym same) (get-set_same mid x mark there))
    | inr differ ↦ get-set_other mid x n mark differ ∙ marked.inside place n (take-get i list place n (before place n is differ) (get-take (i + 1) list place n is))
  ];
  outside = λ n none.
      get-set_other mid x n mark (λ same. none i (take-get (i + 1) list i n (omega arith) (at ∙ ap Some (sym same))))
      ∙ marked.outside n (λ place is. none place (take-get (i + 1) list place n (let b = get-take_below i list place n is in omega arith) (get-take i list place n is)));
}
  where
    before : (place n : ℕ) → slice_get (take (i + 1) list) place ≡ Some n → (n ≡ x → ⊥) → place < i
    before place n is differ =
        let b = get-take_below (i + 1) list place n is in
        let there = get-take (i + 1) list place n is in
        elim (equal_or_not place i) [
          | inl same ↦ absurd (differ (some_is n x (sym there ∙ ap (λ p. slice_get list p) same ∙ at)))
          | inr other ↦ omega arith
        ]
