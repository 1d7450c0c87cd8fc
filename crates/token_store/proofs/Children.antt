-- The lists of subgoals.
use Rattle.std.proofs.Common.{◌≡◌, if◌then◌else◌, ◌↔◌, ℕ, suc, ◌+◌, ◌-◌, ◌<◌, ◌⊎◌, inl, inr, List, [], ◌∷◌, ◌++◌, length, take, slice_index_or, Contains, Option, Some, None, refl, sym, ap, ◌∙◌, subst, arith, length-append, append-nil}
use Rattle.std.proofs.lemmas.Bool.{cases_lt}
use Rattle.std.proofs.lemmas.Bool.Decides.{eqb_tells}
use Rattle.std.proofs.lemmas.List.{drop_all}
use Rattle.std.proofs.lemmas.Option.{slice_get-get_or, slice_get_within, get_or_from_slice_get}
use Rattle.std.proofs.Math.Seq.{take-append_seam}
use Rattle.eu_name.specs.declared.name.Step.{Step}
use Rattle.eu_name.specs.declared.name.TokenName.{TokenName}
use Rattle.token_store.specs.Tokens.{TokenList, token_names, FindsToken}
use Rattle.token_store.specs.Orders.{IsListOf, name_at, IsChildOf, IsChildAt, AreChildren}
use Rattle.token_store.specs.Kept.{HaveChildren}
use Rattle.token_store.specs.Listed.{with_child, without_last}
use Rattle.token_store.specs.Pieces.{FindsParent}
use Rattle.token_store.proofs.Numbers.{list_like, list_put, list_taken, in_order_last, part_at, contains_put, contains_the, contains_none}
use Rattle.token_store.proofs.Ranks.{name-added, name-last}

-- two lists with one item more each have equal fronts
fronts : {X : Type 0} (one other : List X) (x y : X) → one ++ x ∷ [] ≡ other ++ y ∷ [] → one ≡ other
fronts one other x y same =
    let long : length one ≡ length other = omega (arith, ap length same, length-append one (x ∷ []), length-append other (y ∷ [])) in
    sym (take-append_seam one (x ∷ [])) ∙ ap (take (length one)) same ∙ ap (λ n. take n (other ++ y ∷ [])) long ∙ take-append_seam other (y ∷ [])

-- the one parent of a name is the name without its last step
one_parent : (parent other name : TokenName) (step : Step) → name ≡ record { root = parent.root; steps = parent.steps ++ step ∷ [] } → IsChildOf other name → other ≡ parent
one_parent parent other name step is child =
    let root : other.root ≡ parent.root = sym child.1.0 ∙ ap (λ n. n.root) is in
    let steps : other.steps ≡ parent.steps = fronts other.steps parent.steps child.0 step (sym child.1.1 ∙ ap (λ n. n.steps) is) in
    λ i. record { root = root i; steps = steps i }

pub parent_found : (tokens : TokenList) (parent name : TokenName) (step : Step) (found : Option ℕ)
    → name ≡ record { root = parent.root; steps = parent.steps ++ step ∷ [] } → FindsToken tokens parent found → FindsParent (token_names tokens) name found
parent_found tokens parent name step None is finds = record {
  within = tt;
  parent = λ place below. (
    (λ child. absurd (finds place (slice_get-get_or (token_names tokens) place _ below ∙ ap Some (one_parent parent _ name step is child)))),
    (λ same. cc),
  );
}
parent_found tokens parent name step (Some found) is finds = record {
  within = slice_get_within (token_names tokens) found parent finds.0;
  parent = λ place below. (
    (λ child. ap Some (sym (finds.1 place (slice_get-get_or (token_names tokens) place _ below ∙ ap Some (one_parent parent _ name step is child))))),
    (λ same.
        let at : found ≡ place = place_of found place same in
        let named : name_at (token_names tokens) place ≡ parent = ap (name_at (token_names tokens)) (sym at) ∙ get_or_from_slice_get (token_names tokens) found parent _ finds.0 in
        subst (λ p. IsChildOf p name) (sym named) (step, (ap (λ n. n.root) is, ap (λ n. n.steps) is))),
  );
}
  where
    place_of : (one other : ℕ) → Some one ≡ Some other → one ≡ other
    place_of one other same = cc

-- a token's subgoals are the same with one name more that isn't one of them
child_same : (names : List TokenName) (name : TokenName) (parent place : ℕ) → (parent < length names → IsChildOf (name_at names parent) name → ⊥)
    → IsChildAt names parent place ↔ IsChildAt (names ++ name ∷ []) parent place
child_same names name parent place not =
    let more = names ++ name ∷ [] in
    let long : length more ≡ length names + 1 = length-append names (name ∷ []) in (
      (λ at.
          let inside : parent < length names = omega (arith, at.0, at.1.0) in (
            at.0,
            (
              omega (arith, at.1.0, long),
              subst (λ p. IsChildOf p (name_at more place)) (sym (name-added names name parent inside))
                  (subst (IsChildOf (name_at names parent)) (sym (name-added names name place at.1.0)) at.1.1),
            ),
          )),
      (λ at.
          let inside : parent < length names = omega (arith, at.0, at.1.0, long) in
          let child : IsChildOf (name_at names parent) (name_at more place) = subst (λ p. IsChildOf p (name_at more place)) (name-added names name parent inside) at.1.1 in
          elim (cases_lt place (length names)) [
            | inl below ↦ (at.0, (below, subst (IsChildOf (name_at names parent)) (name-added names name place below) child))
            | inr over ↦
                let last : place ≡ length names = omega (arith, over, at.1.0, long) in
                absurd (not inside (subst (IsChildOf (name_at names parent)) (ap (name_at more) last ∙ name-last names name) child))
          ]),
    )

-- so they stay where that name comes, and where it goes
child_stays : (names : List TokenName) (name : TokenName) (parent : ℕ) (list : List ℕ) → (parent < length names → IsChildOf (name_at names parent) name → ⊥)
    → AreChildren names parent list → AreChildren (names ++ name ∷ []) parent list
child_stays names name parent list not are =
    list_like (λ one other. one < other) (λ one other. one < other) (IsChildAt names parent) (IsChildAt (names ++ name ∷ []) parent) list are
    (λ x y one two less. less) (λ place. child_same names name parent place not)

child_left : (names : List TokenName) (name : TokenName) (parent : ℕ) (list : List ℕ) → (parent < length names → IsChildOf (name_at names parent) name → ⊥)
    → AreChildren (names ++ name ∷ []) parent list → AreChildren names parent list
child_left names name parent list not are =
    list_like (λ one other. one < other) (λ one other. one < other) (IsChildAt (names ++ name ∷ []) parent) (IsChildAt names parent) list are
    (λ x y one two less. less) (λ place. let same = child_same names name parent place not in (same.1, same.0))

-- and one that is its subgoal comes last
child_joins : (names : List TokenName) (name : TokenName) (parent : ℕ) (list : List ℕ) → parent < length names → IsChildOf (name_at names parent) name
    → AreChildren names parent list → AreChildren (names ++ name ∷ []) parent (list ++ length names ∷ [])
child_joins names name parent list inside child are =
    let more = names ++ name ∷ [] in
    let long : length more ≡ length names + 1 = length-append names (name ∷ []) in
    let put = list_put (λ one other. one < other) (IsChildAt names parent) list [] (length names)
    (subst (IsListOf (λ one other. one < other) (IsChildAt names parent)) (sym (append-nil list)) are)
    (λ y has. ((are.each y).0 has).1.0) (λ y has. absurd (contains_none y has)) in
    list_like (λ one other. one < other) (λ one other. one < other) (λ y. IsChildAt names parent y ⊎ (length names ≡ y)) (IsChildAt more parent) (list ++ length names ∷ []) put
    (λ x y one two less. less) (λ place. (
      (λ either. elim either [
        | inl at ↦ (
          at.0,
          (
            omega (arith, at.1.0, long),
            subst (λ p. IsChildOf p (name_at more place)) (sym (name-added names name parent inside))
                (subst (IsChildOf (name_at names parent)) (sym (name-added names name place at.1.0)) at.1.1),
          ),
        )
        | inr last ↦ (
          omega (arith, last, inside),
          (
            omega (arith, last, long),
            subst (λ p. IsChildOf p (name_at more place)) (sym (name-added names name parent inside))
                (subst (IsChildOf (name_at names parent)) (sym (ap (name_at more) (sym last) ∙ name-last names name)) child),
          ),
        )
      ]),
      (λ at. elim (cases_lt place (length names)) [
        | inl below ↦ inl (
          at.0,
          (
            below,
            subst (IsChildOf (name_at names parent)) (name-added names name place below)
                (subst (λ p. IsChildOf p (name_at more place)) (name-added names name parent inside) at.1.1),
          ),
        )
        | inr over ↦ inr (omega (arith, over, at.1.0, long))
      ]),
    ))

-- where no token is, none has subgoals
pub have_none : HaveChildren [] (λ parent. [])
have_none = λ parent. record { order = tt; each = λ place. ((λ has. absurd (contains_none place has)), (λ at. absurd (omega (arith, at.1.0)))) }

none_some : (place : ℕ) → ◌≡◌ {A = Option ℕ} None (Some place) → ⊥
none_some place same = cc

some_same : (one other : ℕ) → Some one ≡ Some other → one ≡ other
some_same one other same = cc

pub children_added : (names : List TokenName) (name : TokenName) (children : ℕ → List ℕ) (found : Option ℕ) → HaveChildren names children
    → FindsParent names name found → HaveChildren (names ++ name ∷ []) (with_child children found (length names))
children_added names name children None have finds = λ parent.
    child_stays names name parent (children parent) (λ inside child. none_some parent ((finds.parent parent inside).0 child)) (have parent)
children_added names name children (Some found) have finds = λ parent. elim (eqb_tells found parent) [
  | inl same ↦
      let joined = child_joins names name found (children found) finds.within ((finds.parent found finds.within).1 refl) (have found) in
      subst (AreChildren (names ++ name ∷ []) parent) (sym (ap (λ b. if b then children parent ++ length names ∷ [] else children parent) same.0))
      (subst (λ place. AreChildren (names ++ name ∷ []) place (children place ++ length names ∷ [])) same.1 joined)
  | inr differ ↦
      subst (AreChildren (names ++ name ∷ []) parent) (sym (ap (λ b. if b then children parent ++ length names ∷ [] else children parent) differ.0))
      (child_stays names name parent (children parent) (λ inside child. differ.1 (some_same found parent ((finds.parent parent inside).0 child))) (have parent))
]

-- without its last subgoal a token has the others
child_goes : (names : List TokenName) (name : TokenName) (parent : ℕ) (list : List ℕ) → parent < length names → IsChildOf (name_at names parent) name
    → AreChildren (names ++ name ∷ []) parent list → AreChildren names parent (take (length list - 1) list)
child_goes names name parent list inside child are =
    let more = names ++ name ∷ [] in
    let long : length more ≡ length names + 1 = length-append names (name ∷ []) in
    let at : IsChildAt more parent (length names) = (
      inside,
      (
        omega (arith, long),
        subst (λ p. IsChildOf p (name_at more (length names))) (sym (name-added names name parent inside))
            (subst (IsChildOf (name_at names parent)) (sym (name-last names name)) child),
      ),
    ) in
    let has : Contains list (length names) = (are.each (length names)).1 at in
    let front = take (length list - 1) list in
    let last = slice_index_or list (length list - 1) 0 in
    let parted : list ≡ front ++ last ∷ [] = part_at list (length list - 1) last (slice_get-get_or list (length list - 1) 0 (omega (arith, has.1)))
    ∙ ap (λ rest. front ++ last ∷ rest) (drop_all (suc (length list - 1)) list (omega arith)) in
    let whole : AreChildren more parent (front ++ last ∷ []) = subst (AreChildren more parent) parted are in
    let under : IsChildAt more parent last = (whole.each last).0 (contains_the front [] last) in
    let is : last ≡ length names = elim (contains_put front [] last (length names) (subst (λ l. Contains l (length names)) parted has)) [
      | inl before ↦ absurd (omega (arith, under.1.0, long, in_order_last (λ one other. one < other) front last (length names) whole.order (subst (λ l. Contains l (length names)) (append-nil front) before)))
      | inr same ↦ same
    ] in
    let taken = list_taken (λ one other. one < other) (IsChildAt more parent) (λ x less. absurd (omega (arith, less))) front [] last whole in
    list_like (λ one other. one < other) (λ one other. one < other) (λ place. IsChildAt more parent place × (last ≡ place → ⊥)) (IsChildAt names parent) front
    (subst (IsListOf (λ one other. one < other) (λ place. IsChildAt more parent place × (last ≡ place → ⊥))) (append-nil front) taken)
    (λ x y one two less. less) (λ place. (
      (λ both. first place (below place last both.0.1.0 is both.1) both.0),
      (λ kept. (
        (
          kept.0,
          (
            omega (arith, kept.1.0, long),
            subst (λ p. IsChildOf p (name_at more place)) (sym (name-added names name parent inside))
                (subst (IsChildOf (name_at names parent)) (sym (name-added names name place kept.1.0)) kept.1.1),
          ),
        ),
        (λ same. absurd (omega (arith, same, is, kept.1.0))),
      )),
    ))
  where
    below : (place last : ℕ) → place < length (names ++ name ∷ []) → last ≡ length names → (last ≡ place → ⊥) → place < length names
    below place last under is not = elim (cases_lt place (length names)) [
      | inl less ↦ less
      | inr over ↦ absurd (not (omega (arith, over, under, is, length-append names (name ∷ []))))
    ]

    first : (place : ℕ) → place < length names → IsChildAt (names ++ name ∷ []) parent place → IsChildAt names parent place
    first place less kept = (
      kept.0,
      (
        less,
        subst (IsChildOf (name_at names parent)) (name-added names name place less)
            (subst (λ p. IsChildOf p (name_at (names ++ name ∷ []) place)) (name-added names name parent inside) kept.1.1),
      ),
    )

-- the lists without the last name, which is no subgoal
pub children_less : (names : List TokenName) (name : TokenName) (children : ℕ → List ℕ) → HaveChildren (names ++ name ∷ []) children
    → FindsParent names name None → HaveChildren names children
children_less names name children have finds = λ parent.
    child_left names name parent (children parent) (λ inside child. none_some parent ((finds.parent parent inside).0 child)) (have parent)

-- and where it is one of this token
pub children_taken : (names : List TokenName) (name : TokenName) (children : ℕ → List ℕ) (found : ℕ) → HaveChildren (names ++ name ∷ []) children
    → FindsParent names name (Some found) → HaveChildren names (without_last children found)
children_taken names name children found have finds = λ parent. elim (eqb_tells found parent) [
  | inl same ↦
      let gone = child_goes names name found (children found) finds.within ((finds.parent found finds.within).1 refl) (have found) in
      subst (AreChildren names parent) (sym (ap (λ b. if b then take (length (children parent) - 1) (children parent) else children parent) same.0))
      (subst (λ place. AreChildren names place (take (length (children place) - 1) (children place))) same.1 gone)
  | inr differ ↦
      subst (AreChildren names parent) (sym (ap (λ b. if b then take (length (children parent) - 1) (children parent) else children parent) differ.0))
      (child_left names name parent (children parent) (λ inside child. differ.1 (some_same found parent ((finds.parent parent inside).0 child))) (have parent))
]
