-- What is known after a walk.
use Rattle.std.proofs.Common.{◌≡◌, ℕ, zero, suc, ◌+◌, ◌<◌, ◌≤◌, List, [], ◌∷◌, ◌++◌, length, take, drop, reverse, slice_get, Option, Some, None, ◌⊎◌, inl, inr, refl, sym, ap, ◌∙◌, subst, All, arith, append_assoc, append-nil}
use Rattle.std.proofs.lemmas.Option.{slice_get_within, slice_get-get_or}
use Rattle.std.specs.Option.{option_and_then}
use Rattle.eu_forest.specs.declared.lineage.Rootedness.{Rootedness}
use Rattle.eu_forest.specs.declared.lineage.Rootedness.TheVariants.{Rooted, OnCircle, Leading}
use Rattle.eu_forest.specs.declared.walk.Mark.{Mark}
use Rattle.eu_forest.specs.declared.walk.Mark.TheVariants as marks
use Rattle.eu_forest.specs.declared.walk.End.{End}
use Rattle.eu_forest.specs.declared.walk.End.TheVariants as ends
use Rattle.eu_forest.specs.Lines.{StandsUnder, LeadsUp, IsOnCircle, StandsSo, ParentsComeFirst, IsLineageOf, rootedness_in, rootedness_of_mark}
use Rattle.eu_forest.specs.Walks.{IsKnownAs, StandsIn, AreTold, AreWalked, IsMarked, AreWalkable, AreBegun, first_or, IsChain, KnowsTheSame, Climbs, IsKnownFrom, MarksAll, below_of, ordered_more, IsEndAlong, Finishes}
use Rattle.eu_forest.proofs.Chains.{one_parent, joined, circle_returns, each_leads, chain_next, chain-drop, chain-take, first_or-drop, first_or-take, chain_circle, LeadsOver}
use Rattle.eu_forest.proofs.Lists.{all-get, some_is, get-append_left, get-append_last, get-append_cases, get-take, take-get, get-take_below, get-drop, drop-get, reverse-cons}

-- the rootedness of a thing that is known leads on to known things only
known_above : (parents : List (Option ℕ)) (marked : List Mark) (order : List ℕ) → AreTold parents marked order
    → (number : ℕ) (path : List ℕ) (top : ℕ) (rootedness : Rootedness) → IsKnownAs marked number rootedness → LeadsUp parents number path top
    → (above : Rootedness) × IsKnownAs marked top above
known_above parents marked order told number [] top rootedness known up =
    (rootedness, let P : ℕ → Type 0 = λ n. IsKnownAs marked n rootedness in subst P (sym up) known)
known_above parents marked order told number (parent ∷ path) top rootedness known up =
    let next = told.closed number rootedness parent known up.0 in
    known_above parents marked order told parent path top next.0 next.1 up.1

-- what is walked isn't known
walked_unknown : (marked : List Mark) (number place : ℕ) (rootedness : Rootedness) → slice_get marked number ≡ Some (marks.Walked place)
    → IsKnownAs marked number rootedness → ⊥
walked_unknown marked number place rootedness walked known = cc

-- a walked thing below a known one is on no circle
off_circle : (parents : List (Option ℕ)) (marked : List Mark) (order : List ℕ) → AreTold parents marked order
    → (number place top : ℕ) (rootedness : Rootedness) → slice_get marked number ≡ Some (marks.Walked place) → LeadsOver parents number top
    → IsKnownAs marked top rootedness → IsOnCircle parents number → ⊥
off_circle parents marked order told number place top rootedness walked over known circle =
    let back = circle_returns parents number (over.parent ∷ over.path) top circle (over.under, over.leads) in
    let there = known_above parents marked order told top back.0 number rootedness known back.1 in
    walked_unknown marked number place there.0 walked there.1

-- the rootedness of a thing that leads up to one of this rootedness, and is on no circle
stands_below : (parents : List (Option ℕ)) (number top : ℕ) (rootedness : Rootedness) → LeadsOver parents number top → StandsSo parents top rootedness
    → (IsOnCircle parents number → ⊥) → StandsSo parents number (below_of rootedness)
stands_below parents number top Rooted over stands off =
    record { path = (over.parent ∷ over.path) ++ stands.path; root = stands.root; leads = joined parents number (over.parent ∷ over.path) top stands.path stands.root (over.under, over.leads) stands.leads; ends = stands.ends }
stands_below parents number top OnCircle over stands off =
    record { path = over.parent ∷ over.path; other = top; leads = (over.under, over.leads); circle = stands; off = off }
stands_below parents number top Leading over stands off =
    record { path = (over.parent ∷ over.path) ++ stands.path; other = stands.other; leads = joined parents number (over.parent ∷ over.path) top stands.path stands.other (over.under, over.leads) stands.leads; circle = stands.circle; off = off }

-- the order stays right with one more thing behind it
ordered-snoc : (parents : List (Option ℕ)) (order : List ℕ) (last : ℕ) → ParentsComeFirst parents order
    → ((parent : ℕ) → StandsUnder parents last parent → StandsIn order parent) → ParentsComeFirst parents (order ++ last ∷ [])
ordered-snoc parents order last ordered before place number parent is under =
    elim (get-append_cases order last place number is) [
      | inl old ↦ (let found = ordered place number parent old under in (found.0, found.1, get-append_left order (last ∷ []) found.0 parent found.2))
      | inr new ↦ (let P : ℕ → Type 0 = λ n. StandsUnder parents n parent in
          let found = before parent (subst P new.1 under) in
          let short : found.0 < length order = slice_get_within order found.0 parent found.1 in
          let at : place ≡ length order = new.0 in
          (found.0, omega arith, get-append_left order (last ∷ []) found.0 parent found.1))
    ]

stands_in-snoc : (order : List ℕ) (last number : ℕ) → StandsIn order number → StandsIn (order ++ last ∷ []) number
stands_in-snoc order last number there = (there.0, get-append_left order (last ∷ []) there.0 number there.1)

-- the order with a rooted path behind it
record OrderedMore (parents : List (Option ℕ)) (order path new : List ℕ) (top : ℕ) : Type 0 where
  ordered : ParentsComeFirst parents new
  first : StandsIn new (first_or path top)
  old : (number : ℕ) → StandsIn order number → StandsIn new number
  inside : (place number : ℕ) → slice_get path place ≡ Some number → StandsIn new number
  from : (number : ℕ) → StandsIn new number → StandsIn order number ⊎ StandsIn path number

ordered_path : (parents : List (Option ℕ)) (order path : List ℕ) (top : ℕ) → ParentsComeFirst parents order → IsChain parents path top → StandsIn order top
    → OrderedMore parents order path (order ++ reverse path) top
ordered_path parents order [] top ordered chain there =
    let P : List ℕ → Type 0 = λ new. OrderedMore parents order [] new top in
    subst P (sym (append-nil order)) (record { ordered = ordered; first = there; old = λ n h. h; inside = λ place n is. cc; from = λ n h. inl h })
ordered_path parents order (x ∷ path) top ordered chain there =
    let rest = ordered_path parents order path top ordered chain.1 there in
    let new : List ℕ = order ++ reverse path in
    let P : List ℕ → Type 0 = λ n. OrderedMore parents order (x ∷ path) n top in
    subst P (append_assoc order (reverse path) (x ∷ []) ∙ sym (ap (λ r. order ++ r) (reverse-cons x path)))
    (record {
      ordered = ordered-snoc parents new x rest.ordered (λ parent under.
          let Q : ℕ → Type 0 = λ n. StandsIn new n in subst Q (one_parent parents x (first_or path top) parent chain.0 under) rest.first);
      first = (length new, get-append_last new x);
      old = λ n h. stands_in-snoc new x n (rest.old n h);
      inside = λ place n is. inside_more place n is rest;
      from = λ n h. elim (get-append_cases new x h.0 n h.1) [
        | inl before ↦ elim (rest.from n (h.0, before)) [ inl o ↦ inl o | inr p ↦ inr (suc p.0, p.1) ]
        | inr last ↦ inr (0, ap Some (sym last.1))
      ];
    })
  where
    inside_more : (place n : ℕ) → slice_get (x ∷ path) place ≡ Some n → OrderedMore parents order path (order ++ reverse path) top
        → StandsIn ((order ++ reverse path) ++ x ∷ []) n
    inside_more zero n is rest =
        let Q : ℕ → Type 0 = λ m. StandsIn ((order ++ reverse path) ++ x ∷ []) m in
        subst Q (some_is x n is) (length (order ++ reverse path), get-append_last (order ++ reverse path) x)
    inside_more (suc place) n is rest = stands_in-snoc (order ++ reverse path) x n (rest.inside place n is)

-- the mark of a thing: it is walked, or not
data WalkedOrNot (marked : List Mark) (number : ℕ) : Type 0 where
  walked_at : (place : ℕ) → slice_get marked number ≡ Some (marks.Walked place) → WalkedOrNot marked number
  not_walked : ((place : ℕ) → slice_get marked number ≡ Some (marks.Walked place) → ⊥) → WalkedOrNot marked number

walked_or_not : (marked : List Mark) (number : ℕ) → WalkedOrNot marked number
walked_or_not marked number = by (slice_get marked number) refl
  where
    by : (found : Option Mark) → slice_get marked number ≡ found → WalkedOrNot marked number
    by None e = not_walked (λ place h. cc)
    by (Some (marks.Walked place)) e = walked_at place e
    by (Some marks.Unseen) e = not_walked (λ place h. cc)
    by (Some (marks.Known rootedness)) e = not_walked (λ place h. cc)

-- a thing that gets a mark, or keeps the one that it had
kept_or_marked : (path : List ℕ) (mark : Mark) (old new : List Mark) → AreWalked old path → MarksAll path mark old new
    → (number : ℕ) → (slice_get new number ≡ slice_get old number) ⊎ ((place : ℕ) × (slice_get path place ≡ Some number) × (slice_get new number ≡ Some mark))
kept_or_marked path mark old new walked all number =
    elim (walked_or_not old number) [
      | walked_at place is ↦ (let there = (walked number place).0 is in inr (place, there, all.inside place number there))
      | not_walked none ↦ inl (all.outside number (λ place is. none place ((walked number place).1 is)))
    ]

known_is : (one other : Rootedness) → Some (marks.Known one) ≡ Some (marks.Known other) → one ≡ other
known_is one other same = cc

-- what was known keeps its mark where only walked things get one
keeps_known : (path : List ℕ) (mark : Mark) (old new : List Mark) → AreWalked old path → MarksAll path mark old new
    → (number : ℕ) (rootedness : Rootedness) → IsKnownAs old number rootedness → IsKnownAs new number rootedness
keeps_known path mark old new walked all number rootedness known =
    all.outside number (λ place is. let w = (walked number place).1 is in walked_unknown old number place rootedness w known) ∙ known

-- the order after a path, with what is needed of it
order_tells : (parents : List (Option ℕ)) (old new : List Mark) (order path : List ℕ) (top : ℕ) (rootedness : Rootedness)
    → AreTold parents old order → AreWalked old path → IsChain parents path top → IsKnownAs old top rootedness
    → MarksAll path (marks.Known (below_of rootedness)) old new
    → ParentsComeFirst parents (ordered_more (below_of rootedness) order path)
    × ((place number : ℕ) → slice_get (ordered_more (below_of rootedness) order path) place ≡ Some number → IsKnownAs new number Rooted)
    × ((number : ℕ) → IsKnownAs new number Rooted → StandsIn (ordered_more (below_of rootedness) order path) number)
order_tells parents old new order path top Rooted told walked chain known all =
    let more = ordered_path parents order path top told.ordered chain (told.whole top known) in (
      more.ordered,
      (λ place number is. elim (more.from number (place, is)) [
        | inl before ↦ keeps_known path (marks.Known Rooted) old new walked all number Rooted (told.sound before.0 number before.1)
        | inr there ↦ all.inside there.0 number there.1
      ]),
      (λ number rooted. elim (kept_or_marked path (marks.Known Rooted) old new walked all number) [
        | inl kept ↦ more.old number (told.whole number (sym kept ∙ rooted))
        | inr marked ↦ more.inside marked.0 number marked.1
      ]),
    )
order_tells parents old new order path top OnCircle told walked chain known all = (
  told.ordered,
  (λ place number is. keeps_known path (marks.Known Leading) old new walked all number Rooted (told.sound place number is)),
  (λ number rooted. elim (kept_or_marked path (marks.Known Leading) old new walked all number) [
    | inl kept ↦ told.whole number (sym kept ∙ rooted)
    | inr marked ↦ (let e = sym marked.2 ∙ rooted in cc)
  ]),
)
order_tells parents old new order path top Leading told walked chain known all = (
  told.ordered,
  (λ place number is. keeps_known path (marks.Known Leading) old new walked all number Rooted (told.sound place number is)),
  (λ number rooted. elim (kept_or_marked path (marks.Known Leading) old new walked all number) [
    | inl kept ↦ told.whole number (sym kept ∙ rooted)
    | inr marked ↦ (let e = sym marked.2 ∙ rooted in cc)
  ]),
)

-- after the path has its mark no thing is walked
none_walked : (path : List ℕ) (rootedness : Rootedness) (old new : List Mark) → AreWalked old path → MarksAll path (marks.Known rootedness) old new → AreWalked new []
none_walked path rootedness old new walked all number place = (
  (λ is. elim (kept_or_marked path (marks.Known rootedness) old new walked all number) [
    | inl kept ↦ (let there = (walked number place).0 (sym kept ∙ is) in let m = all.inside place number there in cc)
    | inr marked ↦ (let m = marked.2 in cc)
  ]),
  (λ is. cc),
)

-- a path is told below a known thing
pub path_tells : (parents : List (Option ℕ)) (old new : List Mark) (order path : List ℕ) (top : ℕ) (rootedness : Rootedness)
    → AreTold parents old order → IsMarked parents old path → IsChain parents path top → IsKnownAs old top rootedness
    → MarksAll path (marks.Known (below_of rootedness)) old new
    → AreWalkable parents new (ordered_more (below_of rootedness) order path)
path_tells parents old new order path top rootedness told marked chain known all =
    let keeps = keeps_known path (marks.Known (below_of rootedness)) old new marked.walked all in
    let in_order = order_tells parents old new order path top rootedness told marked.walked chain known all in
    record {
      marks_are = record {
        count = all.count ∙ marked.count;
        walked = none_walked path (below_of rootedness) old new marked.walked all;
        roots = λ number root. keeps number Rooted (marked.roots number root);
      };
      told = record {
        count = all.count ∙ marked.count;
        known = λ number found is. elim (kept_or_marked path (marks.Known (below_of rootedness)) old new marked.walked all number) [
          | inl kept ↦ told.known number found (sym kept ∙ is)
          | inr there ↦ (let over = each_leads parents path top there.0 number chain there.1 in
              let P : Rootedness → Type 0 = λ s. StandsSo parents number s in
              subst P (known_is (below_of rootedness) found (sym there.2 ∙ is))
              (stands_below parents number top rootedness over (told.known top rootedness known)
              (off_circle parents old order told number there.0 top rootedness ((marked.walked number there.0).1 there.1) over known)))
        ];
        closed = λ number found parent is under. elim (kept_or_marked path (marks.Known (below_of rootedness)) old new marked.walked all number) [
          | inl kept ↦ (let above = told.closed number found parent (sym kept ∙ is) under in (above.0, keeps parent above.0 above.1))
          | inr there ↦ elim (chain_next parents path top there.0 number parent chain there.1 under) [
            | inl next ↦ (below_of rootedness, all.inside (suc there.0) parent next)
            | inr last ↦ (rootedness, keeps parent rootedness (let P : ℕ → Type 0 = λ n. IsKnownAs old n rootedness in subst P (sym last) known))
          ]
        ];
        ordered = in_order.0;
        sound = in_order.1;
        whole = in_order.2;
      };
    }

pub line_knows : (parents : List (Option ℕ)) (old new : List Mark) (path : List ℕ) (top : ℕ) (rootedness : Rootedness)
    → IsMarked parents old path → IsKnownAs old top rootedness → MarksAll path (marks.Known (below_of rootedness)) old new
    → IsKnownFrom old new (first_or path top)
line_knows parents old new [] top rootedness marked known all =
    let keeps = keeps_known [] (marks.Known (below_of rootedness)) old new marked.walked all in
    record { keeps = keeps; known = (rootedness, keeps top rootedness known) }
line_knows parents old new (x ∷ path) top rootedness marked known all =
    let keeps = keeps_known (x ∷ path) (marks.Known (below_of rootedness)) old new marked.walked all in
    record { keeps = keeps; known = (below_of rootedness, all.inside 0 x refl) }

-- of two numbers one is the lower, or they are equal
lower_or_not : (one other : ℕ) → (one < other) ⊎ (other ≤ one)
lower_or_not zero zero = inr (omega arith)
lower_or_not zero (suc other) = inl (omega arith)
lower_or_not (suc one) zero = inr (omega arith)
lower_or_not (suc one) (suc other) = elim (lower_or_not one other) [ inl h ↦ inl (omega arith) | inr h ↦ inr (omega arith) ]

place_is : (one other : ℕ) → Some (marks.Walked one) ≡ Some (marks.Walked other) → one ≡ other
place_is one other same = cc

-- a thing that stands on the path before the place isn't behind it
not_behind : (old : List Mark) (path : List ℕ) (place : ℕ) → AreWalked old path → (number k j : ℕ) → slice_get path k ≡ Some number → k < place
    → slice_get (drop place path) j ≡ Some number → ⊥
not_behind old path place walked number k j before below behind =
    let there = get-drop place path j number behind in
    let one = (walked number k).1 before in
    let other = (walked number (place + j)).1 there in
    let same : k ≡ place + j = place_is k (place + j) (sym one ∙ other) in
    omega arith

-- what happens to a thing where those from a place of the path on get a mark
circle_kept : (path : List ℕ) (place : ℕ) (mark : Mark) (old new : List Mark) → AreWalked old path → MarksAll (drop place path) mark old new
    → (number : ℕ) → (slice_get new number ≡ slice_get old number) ⊎ ((j : ℕ) × (slice_get (drop place path) j ≡ Some number) × (slice_get new number ≡ Some mark))
circle_kept path place mark old new walked all number =
    elim (walked_or_not old number) [
      | walked_at k is ↦ (let there = (walked number k).0 is in
          elim (lower_or_not k place) [
            | inl below ↦ inl (all.outside number (λ j behind. not_behind old path place walked number k j there below behind))
            | inr above ↦ (let behind = drop-get place path k number above there in inr (behind.0, behind.1, all.inside behind.0 number behind.1))
          ])
      | not_walked none ↦ inl (all.outside number (λ j behind. none (place + j) ((walked number (place + j)).1 (get-drop place path j number behind))))
    ]

circle_keeps : (path : List ℕ) (place : ℕ) (mark : Mark) (old new : List Mark) → AreWalked old path → MarksAll (drop place path) mark old new
    → (number : ℕ) (rootedness : Rootedness) → IsKnownAs old number rootedness → IsKnownAs new number rootedness
circle_keeps path place mark old new walked all number rootedness known =
    all.outside number (λ j behind. let w = (walked number (place + j)).1 (get-drop place path j number behind) in walked_unknown old number (place + j) rootedness w known) ∙ known

circle_walked : (path : List ℕ) (place : ℕ) (rootedness : Rootedness) (old new : List Mark) → AreWalked old path
    → MarksAll (drop place path) (marks.Known rootedness) old new → AreWalked new (take place path)
circle_walked path place rootedness old new walked all number k = (
  (λ is. elim (circle_kept path place (marks.Known rootedness) old new walked all number) [
    | inl kept ↦ (let there = (walked number k).0 (sym kept ∙ is) in
        elim (lower_or_not k place) [
          | inl below ↦ take-get place path k number below there
          | inr above ↦ (let behind = drop-get place path k number above there in let m = all.inside behind.0 number behind.1 in cc)
        ])
    | inr marked ↦ (let m = marked.2 in cc)
  ]),
  (λ is. let there = get-take place path k number is in
      let below = get-take_below place path k number is in
      all.outside number (λ j behind. not_behind old path place walked number k j there below behind) ∙ (walked number k).1 there),
)

-- the things from a place of the path on are told as a circle
pub record CircleTells (parents : List (Option ℕ)) (old new : List Mark) (order path : List ℕ) (place top : ℕ) : Type 0 where
  pub told : AreTold parents new order
  pub marks_are : IsMarked parents new (take place path)
  pub known : IsKnownAs new top OnCircle
  pub chain : IsChain parents (take place path) top
  pub keeps : (number : ℕ) (rootedness : Rootedness) → IsKnownAs old number rootedness → IsKnownAs new number rootedness

pub circle_tells : (parents : List (Option ℕ)) (old new : List Mark) (order path : List ℕ) (place top : ℕ)
    → AreTold parents old order → IsMarked parents old path → IsChain parents path top → slice_get path place ≡ Some top
    → MarksAll (drop place path) (marks.Known OnCircle) old new
    → CircleTells parents old new order path place top
circle_tells parents old new order path place top told marked chain at all =
    let keeps = circle_keeps path place (marks.Known OnCircle) old new marked.walked all in
    let closes = first_or-drop place path top top at in
    let behind = chain-drop parents place path top chain in
    let there = drop-get place path place top (omega arith) at in
    record {
      told = record {
        count = all.count ∙ marked.count;
        known = λ number found is. elim (circle_kept path place (marks.Known OnCircle) old new marked.walked all number) [
          | inl kept ↦ told.known number found (sym kept ∙ is)
          | inr one ↦ (let P : Rootedness → Type 0 = λ s. StandsSo parents number s in
              subst P (known_is OnCircle found (sym one.2 ∙ is)) (chain_circle parents (drop place path) top one.0 number behind closes one.1))
        ];
        closed = λ number found parent is under. elim (circle_kept path place (marks.Known OnCircle) old new marked.walked all number) [
          | inl kept ↦ (let above = told.closed number found parent (sym kept ∙ is) under in (above.0, keeps parent above.0 above.1))
          | inr one ↦ elim (chain_next parents (drop place path) top one.0 number parent behind one.1 under) [
            | inl next ↦ (OnCircle, all.inside (suc one.0) parent next)
            | inr last ↦ (OnCircle, (let P : ℕ → Type 0 = λ n. IsKnownAs new n OnCircle in subst P (sym last) (all.inside there.0 top there.1)))
          ]
        ];
        ordered = told.ordered;
        sound = λ k number is. keeps number Rooted (told.sound k number is);
        whole = λ number rooted. elim (circle_kept path place (marks.Known OnCircle) old new marked.walked all number) [
          | inl kept ↦ told.whole number (sym kept ∙ rooted)
          | inr one ↦ (let m = one.2 in cc)
        ];
      };
      marks_are = record {
        count = all.count ∙ marked.count;
        walked = circle_walked path place OnCircle old new marked.walked all;
        roots = λ number root. keeps number Rooted (marked.roots number root);
      };
      known = all.inside there.0 top there.1;
      chain = chain-take parents place path top top at chain;
      keeps = keeps;
    }

-- a walk that has climbed leaves what was told told
pub climbed_told : (parents : List (Option ℕ)) (old new : List Mark) (order : List ℕ) → length new ≡ length parents → KnowsTheSame old new
    → AreTold parents old order → AreTold parents new order
climbed_told parents old new order count same told = record {
  count = count;
  known = λ number found is. told.known number found ((same number found).1 is);
  closed = λ number found parent is under.
      let above = told.closed number found parent ((same number found).1 is) under in (above.0, (same parent above.0).0 above.1);
  ordered = told.ordered;
  sound = λ k number is. (same number Rooted).0 (told.sound k number is);
  whole = λ number rooted. told.whole number ((same number Rooted).1 rooted);
}

-- what a thing stands under, if there is the thing
data Under (parents : List (Option ℕ)) (number : ℕ) : Type 0 where
  root : slice_get parents number ≡ Some None → Under parents number
  other : (p : ℕ) → slice_get parents number ≡ Some (Some p) → Under parents number
  none : length parents ≤ number → Under parents number

under : (parents : List (Option ℕ)) (number : ℕ) → Under parents number
under parents number = by (slice_get parents number) refl
  where
    by : (found : Option (Option ℕ)) → slice_get parents number ≡ found → Under parents number
    by None e = none (elim (lower_or_not number (length parents)) [
      | inl below ↦ absurd (let g = slice_get-get_or parents number None below in cc)
      | inr above ↦ above
    ])
    by (Some None) e = root e
    by (Some (Some p)) e = other p e

-- where only what stands under nothing is known, things are walkable
pub begun_walkable : (parents : List (Option ℕ)) (marked : List Mark) (order : List ℕ) → AreBegun parents marked order → AreWalkable parents marked order
begun_walkable parents marked order begun = record {
  marks_are = record {
    count = begun.count;
    walked = λ number place. (
      (λ is. elim (under parents number) [
        | root h ↦ (let r = (begun.root number h).0 in cc)
        | other p h ↦ (let u = begun.other number p h in cc)
        | none h ↦ absurd (let k = slice_get_within marked number (marks.Walked place) is in let e = begun.count in omega arith)
      ]),
      (λ is. cc),
    );
    roots = λ number h. (begun.root number h).0;
  };
  told = record {
    count = begun.count;
    known = λ number found is. elim (under parents number) [
      | root h ↦ (let P : Rootedness → Type 0 = λ s. StandsSo parents number s in
          subst P (known_is Rooted found (sym (begun.root number h).0 ∙ is)) (record { path = []; root = number; leads = refl; ends = h }))
      | other p h ↦ (let u = begun.other number p h in cc)
      | none h ↦ absurd (let k = slice_get_within marked number (marks.Known found) is in let e = begun.count in omega arith)
    ];
    closed = λ number found parent is up. (let u = begun.other number parent up in cc);
    ordered = λ place number parent is up. (let h = begun.ordered place number is in cc);
    sound = λ place number is. (begun.root number (begun.ordered place number is)).0;
    whole = λ number rooted. elim (under parents number) [
      | root h ↦ (begun.root number h).1
      | other p h ↦ (let u = begun.other number p h in cc)
      | none h ↦ absurd (let k = slice_get_within marked number (marks.Known Rooted) rooted in let e = begun.count in omega arith)
    ];
  };
}

-- once all are known, that is their lineage
pub all_known : (parents : List (Option ℕ)) (marked : List Mark) (order : List ℕ) → AreWalkable parents marked order
    → ((number : ℕ) → number < length parents → (rootedness : Rootedness) × IsKnownAs marked number rootedness) → IsLineageOf parents marked order
all_known parents marked order walkable known = record {
  count = walkable.marks_are.count;
  rootedness = λ number below. let found = known number below in
      (found.0, known_in marked number found.0 found.1, walkable.told.known number found.0 found.1);
  ordered = walkable.told.ordered;
  sound = λ place number is. walkable.told.known number Rooted (walkable.told.sound place number is);
  whole = λ number rooted. walkable.told.whole number (in_known marked number Rooted rooted);
}
  where
    known_in : (marked : List Mark) (number : ℕ) (rootedness : Rootedness) → IsKnownAs marked number rootedness → rootedness_in marked number ≡ Some rootedness
    known_in marked number rootedness known = ap (λ found. option_and_then rootedness_of_mark found) known

    in_known : (marked : List Mark) (number : ℕ) (rootedness : Rootedness) → rootedness_in marked number ≡ Some rootedness → IsKnownAs marked number rootedness
    in_known marked number rootedness is = by (slice_get marked number) refl is
      where
        by : (found : Option Mark) → slice_get marked number ≡ found → option_and_then rootedness_of_mark found ≡ Some rootedness → IsKnownAs marked number rootedness
        by None e h = cc
        by (Some marks.Unseen) e h = cc
        by (Some (marks.Walked place)) e h = cc
        by (Some (marks.Known found)) e h = e ∙ ap (λ s. Some (marks.Known s)) (some_is found rootedness h)

-- things of a walk are things that there are
pub path_there : (parents : List (Option ℕ)) (number : ℕ) (old mid : List Mark) (path : List ℕ) (end : End) → Climbs parents number old mid path end
    → All (λ n. n < length mid) path
path_there parents number old mid path end climbs =
    all-get (λ n. n < length mid) path (λ place n is. slice_get_within mid n (marks.Walked place) ((climbs.climbed.marks_are.walked n place).1 is))

pub end_along : (parents : List (Option ℕ)) (number : ℕ) (old mid : List Mark) (path : List ℕ) (end : End) → Climbs parents number old mid path end
    → IsEndAlong path end
end_along parents number old mid path (ends.Known rootedness) climbs = tt
end_along parents number old mid path (ends.Back place) climbs =
    let below = slice_get_within path place climbs.top climbs.is_end in omega arith

-- a walk that climbed and finished
pub walk_tells : (parents : List (Option ℕ)) (number : ℕ) (old mid new : List Mark) (order ordered path : List ℕ) (end : End)
    → AreWalkable parents old order → Climbs parents number old mid path end → Finishes path end mid order new ordered
    → AreWalkable parents new ordered × IsKnownFrom old new number
walk_tells parents number old mid new order ordered path (ends.Known rootedness) walkable climbs finishes =
    let climbed = climbs.climbed in
    let told = climbed_told parents old mid order climbed.marks_are.count climbed.same walkable.told in
    let P : List ℕ → Type 0 = λ o. AreWalkable parents new o in
    let knows = line_knows parents mid new path climbs.top rootedness climbed.marks_are climbs.is_end finishes.0 in (
      subst P (sym finishes.1) (path_tells parents mid new order path climbs.top rootedness told climbed.marks_are climbed.chain climbs.is_end finishes.0),
      (let Q : ℕ → Type 0 = λ n. IsKnownFrom old new n in
          subst Q climbed.begins (record { keeps = λ n s known. knows.keeps n s ((climbed.same n s).0 known); known = knows.known })),
    )
walk_tells parents number old mid new order ordered path (ends.Back place) walkable climbs finishes =
    let climbed = climbs.climbed in
    let told = climbed_told parents old mid order climbed.marks_are.count climbed.same walkable.told in
    let between = finishes.0.0 in
    let circle = circle_tells parents mid between order path place climbs.top told climbed.marks_are climbed.chain climbs.is_end finishes.0.1 in
    let P : List ℕ → Type 0 = λ o. AreWalkable parents new o in
    let knows = line_knows parents between new (take place path) climbs.top OnCircle circle.marks_are circle.known finishes.0.2 in (
      subst P (sym finishes.1) (path_tells parents between new order (take place path) climbs.top OnCircle circle.told circle.marks_are circle.chain circle.known finishes.0.2),
      (let Q : ℕ → Type 0 = λ n. IsKnownFrom old new n in
          subst Q (first_or-take place path climbs.top climbs.top climbs.is_end ∙ climbed.begins)
          (record { keeps = λ n s known. knows.keeps n s (circle.keeps n s ((climbed.same n s).0 known)); known = knows.known })),
    )
