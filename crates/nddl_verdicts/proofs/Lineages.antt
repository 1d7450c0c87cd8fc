-- Things that stand under one another have a lineage.
use Rattle.std.proofs.Common.{◌≡◌, ℕ, zero, suc, ◌+◌, ◌<◌, ◌≤◌, ◌⊎◌, inl, inr, List, [], ◌∷◌, ◌++◌, length, refl, sym, ◌∙◌, ap, subst, arith}
use Rattle.std.specs.Prelude.{Option, Some, None, slice_get}
use Rattle.std.specs.List.{AllByRecursion}
use Rattle.std.specs.Option.{option_and_then}
use Rattle.std.proofs.lemmas.Bool.{cases_lt}
use Rattle.std.proofs.lemmas.Option.{same_Some, none-some, slice_get_past, slice_get_within}
use Rattle.eu_forest.specs.declared.lineage.Rootedness.{Rootedness}
use Rattle.eu_forest.specs.declared.lineage.Rootedness.TheVariants as how
use Rattle.eu_forest.specs.declared.walk.Mark.{Mark}
use Rattle.eu_forest.specs.declared.walk.Mark.TheVariants as marks
use Rattle.eu_forest.specs.Lines.{AreParents, StandsUnder, LeadsUp, IsRooted, IsOnCircle, StandsSo, rootedness_of_mark, rootedness_in, ParentsComeFirst, IsLineageOf}
use Rattle.eu_forest.proofs.Chains.{LeadsOver, joined, one_parent}
use Rattle.eu_forest.proofs.Fewer.{AreDistinct, few_distinct}
use Rattle.eu_forest.proofs.Lists.{get-append_left, get-append_last, get-append_cases}
use Rattle.eu_forest.proofs.Marking.{equal_or_not}
use Rattle.law_states.specs.Undeniable.{Undeniable}
use Rattle.law_states.proofs.Denying.{is_or_not}
use Rattle.nddl_laws.proofs.Rootedness.{one_rootedness}

below_next : (number count : ℕ) → number < suc count → (number ≡ count → ⊥) → number < count
below_next number count less differ = elim (cases_lt number count) [
  | inl under ↦ under
  | inr over ↦ absurd (differ (let e : number ≡ count = omega (arith, less, over) in e))
]

none_within : {X : Type 0} (xs : List X) (k : ℕ) → k < length xs → slice_get xs k ≡ None → ⊥
none_within [] k within none = absurd (omega (arith, within))
none_within (x ∷ xs) zero within none = none-some x (sym none)
none_within (x ∷ xs) (suc k) within none = none_within xs k (omega (arith, within)) none

rooted_not_circle : how.Rooted ≡ how.OnCircle → ⊥
rooted_not_circle same = cc

rooted_not_leading : how.Rooted ≡ how.Leading → ⊥
rooted_not_leading same = cc

module _ (parents : List (Option ℕ)) (there : AreParents parents) where
  -- ---- how a thing stands

  -- the thing leads up to one that stands under none, or to a circle
  abbrev EndsSo : ℕ → Type 0
  EndsSo number =
      ((path : List ℕ) × ((root : ℕ) × (LeadsUp parents number path root × (slice_get parents root ≡ Some None))))
      ⊎ ((path : List ℕ) × ((other : ℕ) × (LeadsUp parents number path other × IsOnCircle parents other)))

  ends_above : (number parent : ℕ) → StandsUnder parents number parent → EndsSo parent → EndsSo number
  ends_above number parent under (inl (path, (root, (leads, ends)))) = inl (parent ∷ path, (root, ((under, leads), ends)))
  ends_above number parent under (inr (path, (other, (leads, circle)))) = inr (parent ∷ path, (other, ((under, leads), circle)))

  -- the thing is one of those from which it is reached, or none of them
  back_or_new : (here : ℕ) (seen : List ℕ) → AllByRecursion (λ x. LeadsOver parents x here) seen
      → LeadsOver parents here here ⊎ AllByRecursion (λ y. here ≡ y → ⊥) seen
  back_or_new here [] lead = inr tt
  back_or_new here (x ∷ seen) lead = elim (equal_or_not here x) [
    | inl same ↦ inl (let P : ℕ → Type 0 = λ n. LeadsOver parents n here in subst P (sym same) lead.0)
    | inr differ ↦ elim (back_or_new here seen lead.1) [
      | inl back ↦ inl back
      | inr new ↦ inr (differ, new)
    ]
  ]

  -- those from which a thing is reached reach what it stands under
  over_more : (here parent x : ℕ) → StandsUnder parents here parent → LeadsOver parents x here → LeadsOver parents x parent
  over_more here parent x under over = record {
    parent = over.parent;
    path = over.path ++ parent ∷ [];
    under = over.under;
    leads = joined parents over.parent over.path here (parent ∷ []) parent over.leads (under, refl);
  }

  all_over : (here parent : ℕ) (seen : List ℕ) → StandsUnder parents here parent → AllByRecursion (λ x. LeadsOver parents x here) seen
      → AllByRecursion (λ x. LeadsOver parents x parent) seen
  all_over here parent [] under lead = tt
  all_over here parent (x ∷ seen) under lead = (over_more here parent x under lead.0, all_over here parent seen under lead.1)

  on_circle : (here : ℕ) → LeadsOver parents here here → EndsSo here
  on_circle here over = inr ([], (here, (refl, record { parent = over.parent; path = over.path; under = over.under; back = over.leads })))

  -- one step up, or the end
  step_up : (here : ℕ) → here < length parents → (o : Option (Option ℕ)) → slice_get parents here ≡ o
      → ((parent : ℕ) → StandsUnder parents here parent → EndsSo parent) → EndsSo here
  step_up here within None is rest = absurd (none_within parents here within is)
  step_up here within (Some None) is rest = inl ([], (here, (refl, is)))
  step_up here within (Some (Some parent)) is rest = ends_above here parent is (rest parent is)

  -- a walk up over distinct things, with so many left
  walk : (count : ℕ) (seen : List ℕ) (here : ℕ) → length parents ≤ count + length seen → AreDistinct seen
      → AllByRecursion (λ y. y < length parents) seen → AllByRecursion (λ x. LeadsOver parents x here) seen → here < length parents → EndsSo here
  walk zero seen here enough distinct small lead within = elim (back_or_new here seen lead) [
    | inl back ↦ on_circle here back
    | inr new ↦ (
        let few : length (here ∷ seen) ≤ length parents = few_distinct (length parents) (here ∷ seen) (new, distinct) (within, small) in
        absurd (omega (arith, few, enough))
        )
  ]
  walk (suc count) seen here enough distinct small lead within = elim (back_or_new here seen lead) [
    | inl back ↦ on_circle here back
    | inr new ↦ step_up here within (slice_get parents here) refl (λ parent under.
        walk count (here ∷ seen) parent (omega (arith, enough)) (new, distinct) (within, small)
        (record { parent = parent; path = []; under = under; leads = refl }, all_over here parent seen under lead) (there here parent under))
  ]

  abbrev IsSo : ℕ → Type 0
  IsSo number = (rootedness : Rootedness) × StandsSo parents number rootedness

  leading_or_on : (number other : ℕ) (path : List ℕ) → LeadsUp parents number path other → IsOnCircle parents other → Undeniable (IsSo number)
  leading_or_on number other path leads circle none = is_or_not (IsOnCircle parents number) (λ which. elim which [
    | inl on ↦ none (how.OnCircle, on)
    | inr off ↦ none (how.Leading, record { path = path; other = other; leads = leads; circle = circle; off = off })
  ])

  so_by_end : (number : ℕ) → EndsSo number → Undeniable (IsSo number)
  so_by_end number (inl (path, (root, (leads, ends)))) none = none (how.Rooted, record { path = path; root = root; leads = leads; ends = ends })
  so_by_end number (inr (path, (other, (leads, circle)))) none = leading_or_on number other path leads circle none

  stands_so : (number : ℕ) → number < length parents → Undeniable (IsSo number)
  stands_so number within none = so_by_end number (walk (length parents) [] number (omega arith) tt tt tt within) none

  -- ---- marks

  -- these are the marks of so many things, from this one on
  abbrev AreMarks : ℕ → ℕ → List Mark → Type 0
  AreMarks from count marked =
      (length marked ≡ count)
      × ((k : ℕ) → k < count → (rootedness : Rootedness) × ((slice_get marked k ≡ Some (marks.Known rootedness)) × StandsSo parents (from + k) rootedness))

  mark_at : (from count : ℕ) (rootedness : Rootedness) (marked : List Mark) → StandsSo parents from rootedness → AreMarks (from + 1) count marked
      → (k : ℕ) → k < suc count
      → (found : Rootedness) × ((slice_get (marks.Known rootedness ∷ marked) k ≡ Some (marks.Known found)) × StandsSo parents (from + k) found)
  mark_at from count rootedness marked so are zero within =
      let e : from ≡ from + 0 = omega arith in
      let P : ℕ → Type 0 = λ n. StandsSo parents n rootedness in
      (rootedness, (refl, subst P e so))
  mark_at from count rootedness marked so are (suc k) within =
      let found = are.1 k (omega (arith, within)) in
      let e : from + 1 + k ≡ from + suc k = omega arith in
      let P : ℕ → Type 0 = λ n. StandsSo parents n found.0 in
      (found.0, (found.1.0, subst P e found.1.1))

  some_marks : (count from : ℕ) → from + count ≤ length parents → Undeniable ((marked : List Mark) × AreMarks from count marked)
  some_marks zero from within none = none ([], (refl, λ k less. absurd (omega (arith, less))))
  some_marks (suc count) from within none =
      stands_so from (omega (arith, within)) (λ so. some_marks count (from + 1) (omega (arith, within)) (λ rest.
      none (marks.Known so.0 ∷ rest.0, (omega (arith, rest.1.0), mark_at from count so.0 rest.0 so.1 rest.1))))

  -- ---- the order

  -- an order of rooted things, each after the one that it stands under
  record Order : Type 0 where
    list : List ℕ
    ordered : ParentsComeFirst parents list
    sound : (place number : ℕ) → slice_get list place ≡ Some number → IsRooted parents number

  abbrev HasPlace : Order → ℕ → Type 0
  HasPlace order number = (place : ℕ) × (slice_get order.list place ≡ Some number)

  -- the order with this thing too
  record With (old : Order) (number : ℕ) : Type 0 where
    new : Order
    has : HasPlace new number
    keeps : (other : ℕ) → HasPlace old other → HasPlace new other

  no_order : Order
  no_order = record {
    list = [];
    ordered = λ place number parent is under. absurd (none-some number is);
    sound = λ place number is. absurd (none-some number is);
  }

  module _ (old : Order) (number : ℕ) where
    last_ordered : ((parent : ℕ) → StandsUnder parents number parent → HasPlace old parent) → ParentsComeFirst parents (old.list ++ number ∷ [])
    last_ordered above place other parent is under = elim (get-append_cases old.list number place other is) [
      | inl before ↦ (
          let found = old.ordered place other parent before under in
          (found.0, found.1, get-append_left old.list (number ∷ []) found.0 parent found.2)
          )
      | inr last ↦ (
          let P : ℕ → Type 0 = λ n. StandsUnder parents n parent in
          let found = above parent (subst P last.1 under) in
          let within : found.0 < length old.list = slice_get_within old.list found.0 parent found.1 in
          (found.0, omega (arith, within, last.0), get-append_left old.list (number ∷ []) found.0 parent found.1)
          )
    ]

    last_sound : IsRooted parents number → (place other : ℕ) → slice_get (old.list ++ number ∷ []) place ≡ Some other → IsRooted parents other
    last_sound rooted place other is = elim (get-append_cases old.list number place other is) [
      | inl before ↦ old.sound place other before
      | inr last ↦ (let P : ℕ → Type 0 = λ n. IsRooted parents n in subst P (sym last.1) rooted)
    ]

    -- the thing comes last, where what it stands under is there
    put_last : IsRooted parents number → ((parent : ℕ) → StandsUnder parents number parent → HasPlace old parent) → With old number
    put_last rooted above = record {
      new = record { list = old.list ++ number ∷ []; ordered = last_ordered above; sound = last_sound rooted };
      has = (length old.list, get-append_last old.list number);
      keeps = λ other has. (has.0, get-append_left old.list (number ∷ []) has.0 other has.1);
    }

  -- the thing and all that it leads up to
  put_line : (old : Order) (number : ℕ) (path : List ℕ) (root : ℕ) → LeadsUp parents number path root → slice_get parents root ≡ Some None → With old number
  put_line old number [] root leads ends =
      let P : ℕ → Type 0 = λ n. slice_get parents n ≡ Some None in
      let here : slice_get parents number ≡ Some None = subst P leads ends in
      put_last old number (record { path = []; root = number; leads = refl; ends = here })
      (λ parent under. absurd (none-some parent (same_Some None (Some parent) (sym here ∙ under))))
  put_line old number (parent ∷ path) root leads ends =
      let first = put_line old parent path root leads.1 ends in
      let last = put_last first.new number (record { path = parent ∷ path; root = root; leads = leads; ends = ends })
      (λ other under. let P : ℕ → Type 0 = λ n. HasPlace first.new n in subst P (one_parent parents number parent other leads.0 under) first.has) in
      record { new = last.new; has = last.has; keeps = λ other has. last.keeps other (first.keeps other has) }

  -- an order in which the first things stand, so many, that are rooted
  record OrderTo (count : ℕ) : Type 0 where
    order : Order
    whole : (number : ℕ) → number < count → IsRooted parents number → HasPlace order number

  one_more : (count : ℕ) → OrderTo count → IsSo count → OrderTo (suc count)
  one_more count old (how.Rooted, rooted) =
      let put = put_line old.order count rooted.path rooted.root rooted.leads rooted.ends in
      record {
        order = put.new;
        whole = λ number less is. elim (equal_or_not number count) [
          | inl same ↦ (let P : ℕ → Type 0 = λ n. HasPlace put.new n in subst P (sym same) put.has)
          | inr differ ↦ put.keeps number (old.whole number (below_next number count less differ) is)
        ];
      }
  one_more count old (how.OnCircle, so) = record {
    order = old.order;
    whole = λ number less is. elim (equal_or_not number count) [
      | inl same ↦ (let P : ℕ → Type 0 = λ n. IsRooted parents n in absurd (rooted_not_circle (one_rootedness parents count how.Rooted how.OnCircle (subst P same is) so)))
      | inr differ ↦ old.whole number (below_next number count less differ) is
    ];
  }
  one_more count old (how.Leading, so) = record {
    order = old.order;
    whole = λ number less is. elim (equal_or_not number count) [
      | inl same ↦ (let P : ℕ → Type 0 = λ n. IsRooted parents n in absurd (rooted_not_leading (one_rootedness parents count how.Rooted how.Leading (subst P same is) so)))
      | inr differ ↦ old.whole number (below_next number count less differ) is
    ];
  }

  order_to : ((number : ℕ) → number < length parents → IsSo number) → (count : ℕ) → count ≤ length parents → OrderTo count
  order_to told zero within = record { order = no_order; whole = λ number less is. absurd (omega (arith, less)) }
  order_to told (suc count) within = one_more count (order_to told count (omega (arith, within))) (told count (omega (arith, within)))

  -- ---- the lineage

  module _ (marked : List Mark) (are : AreMarks 0 (length parents) marked) where
    told_so : (number : ℕ) → number < length parents
        → (rootedness : Rootedness) × (rootedness_in marked number ≡ Some rootedness) × StandsSo parents number rootedness
    told_so number within =
        let found = are.1 number within in
        let e : 0 + number ≡ number = omega arith in
        let P : ℕ → Type 0 = λ n. StandsSo parents n found.0 in
        (found.0, ap (option_and_then rootedness_of_mark) found.1.0, subst P e found.1.1)

    only_so : (number : ℕ) → number < length parents → IsSo number
    only_so number within = let found = told_so number within in (found.0, found.2)

    rooted_by_mark : (number : ℕ) → rootedness_in marked number ≡ Some how.Rooted → (number < length parents) × IsRooted parents number
    rooted_by_mark number is = elim (cases_lt number (length parents)) [
      | inl within ↦ (
          let found = told_so number within in
          let same : found.0 ≡ how.Rooted = same_Some found.0 how.Rooted (sym found.1 ∙ is) in
          let P : Rootedness → Type 0 = λ r. StandsSo parents number r in
          (within, subst P same found.2)
          )
      | inr past ↦ (
          let none : rootedness_in marked number ≡ None = ap (option_and_then rootedness_of_mark) (slice_get_past marked number (omega (arith, are.0, past))) in
          absurd (none-some how.Rooted (sym none ∙ is))
          )
    ]

    lineage_by : OrderTo (length parents) → (order : List ℕ) × IsLineageOf parents marked order
    lineage_by to = (
      to.order.list,
      record {
        count = are.0;
        rootedness = told_so;
        ordered = to.order.ordered;
        sound = to.order.sound;
        whole = λ number is. let rooted = rooted_by_mark number is in to.whole number rooted.0 rooted.1;
      },
    )

    lineage_of : (order : List ℕ) × IsLineageOf parents marked order
    lineage_of = lineage_by (order_to only_so (length parents) (omega arith))

  -- things that stand under one another have a lineage
  pub some_lineage : Undeniable ((marked : List Mark) × ((order : List ℕ) × IsLineageOf parents marked order))
  some_lineage none = some_marks (length parents) 0 (omega arith) (λ found. none (found.0, lineage_of found.0 found.1))
