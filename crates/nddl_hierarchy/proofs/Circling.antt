-- Lines, one thing after another, until they come back to one of their things.
use Rattle.std.proofs.Common.{◌≡◌, ℕ, zero, suc, ◌+◌, ◌-◌, ◌<◌, ◌≤◌, ◌==◌, ◌⊎◌, inl, inr, Bool, true, false, List, [], ◌∷◌, ◌++◌, length, refl, sym, ◌∙◌, ap, subst, arith, eqb-true}
use Rattle.std.specs.Prelude.{Option, Some, None, All, Contains, if◌then◌else◌}
use Rattle.std.proofs.lemmas.List.Elements.{All-cons, All-nil, Contains-append_cases, Contains-append_left, Contains-append_right}
use Rattle.std.proofs.lemmas.Option.{none-some}
use Rattle.eu_name.proofs.Ordered.{contains_cases, contains_head, contains_none}
use Rattle.eu_forest.specs.declared.walk.Mark.{Mark}
use Rattle.eu_forest.specs.Ancestors.{ancestry, line_from, parent_in}
use Rattle.eu_forest.specs.Lines.{rootedness_in}
use Rattle.nddl_hierarchy.specs.Lines.{is_circle}
use Rattle.nddl_hierarchy.specs.Rounds.{IsRound, first_met, unless_first}
use Rattle.nddl_hierarchy.proofs.Climbing.{line_step}

-- the list has the thing, if there is one
abbrev Has : List ℕ → Option ℕ → Type 0
Has line None = Unit {0}
Has line (Some number) = Contains line number

-- The line so far, and what comes next, up to so many levels, unless that is one of its things.
pub record IsSoFar (parents : List (Option ℕ)) (left : ℕ) (whole line : List ℕ) (first next : Option ℕ) : Type 0 where
  pub up : Option ℕ
  pub rest : line ++ line_from left parents up ≡ whole
  pub closed : (number : ℕ) → Contains line number → (parent_in parents number ≡ up) ⊎ Has line (parent_in parents number)
  pub met : Has line first
  pub told : (next ≡ up) ⊎ ((next ≡ None) × Has line up)

pub begins : (parents : List (Option ℕ)) (number left : ℕ) (line : List ℕ) → left ≡ length parents → line ≡ []
    → IsSoFar parents left (ancestry parents number) line None (Some number)
begins parents number left line is none =
    let P : List ℕ → Type 0 = λ some. IsSoFar parents left (ancestry parents number) some None (Some number) in
    subst P (sym none) (record {
      up = Some number;
      rest = ap (λ levels. line_from levels parents (Some number)) is;
      closed = λ other never. absurd (contains_none other never);
      met = tt;
      told = inl refl;
    })

-- ---- one thing more

module _ (parents : List (Option ℕ)) (marked : List Mark) (here : ℕ) (line : List ℕ) where
  abbrev longer : List ℕ
  longer = line ++ here ∷ []

  here_in : Contains longer here
  here_in = Contains-append_right line (here ∷ []) here (contains_head here [])

  still : (o : Option ℕ) → Has line o → Has longer o
  still None has = tt
  still (Some number) has = Contains-append_left line (here ∷ []) number has

  met_in : (first : Option ℕ) → Has line first → Has longer (first_met marked first here)
  met_in (Some first) has = still (Some first) has
  met_in None has = by (is_circle (rootedness_in marked here))
    where
      by : (circle : Bool) → Has longer (if circle then Some here else None)
      by true = here_in
      by false = tt

  told_in : (met above : Option ℕ) → Has longer met → (unless_first met above ≡ above) ⊎ ((unless_first met above ≡ None) × Has longer above)
  told_in met None has = inl refl
  told_in None (Some parent) has = inl refl
  told_in (Some first) (Some parent) has = by (first == parent) refl
    where
      by : (same : Bool) → (first == parent) ≡ same
          → ((if same then None else Some parent) ≡ Some parent) ⊎ (((if same then None else Some parent) ≡ None) × Contains longer parent)
      by true is = inr (refl, subst (Contains longer) (eqb-true first parent is) has)
      by false is = inl refl

  closed_in : (up : Option ℕ) → up ≡ Some here
      → ((number : ℕ) → Contains line number → (parent_in parents number ≡ up) ⊎ Has line (parent_in parents number))
      → (number : ℕ) → Contains longer number → (parent_in parents number ≡ parent_in parents here) ⊎ Has longer (parent_in parents number)
  closed_in up is closed number there = elim (Contains-append_cases line (here ∷ []) number there) [
    | inl earlier ↦ elim (closed number earlier) [
      | inl next ↦ inr (subst (Has longer) (sym (next ∙ is)) here_in)
      | inr has ↦ inr (still (parent_in parents number) has)
    ]
    | inr last ↦ elim (contains_cases here number [] last) [
      | inl same ↦ inl (ap (parent_in parents) (sym same))
      | inr never ↦ absurd (contains_none number never)
    ]
  ]

  so_far_longer : (levels counter : ℕ) (whole : List ℕ) (first met above next : Option ℕ) → counter < levels
      → IsSoFar parents (levels - counter) whole line first (Some here)
      → met ≡ first_met marked first here → above ≡ parent_in parents here → next ≡ unless_first met above
      → IsSoFar parents (levels - (counter + 1)) whole longer met next
  so_far_longer levels counter whole first met above next below so_far met_is above_is next_is =
      let up_is : so_far.up ≡ Some here = elim so_far.told [ inl is ↦ sym is | inr both ↦ absurd (none-some here (sym both.0)) ] in
      let first_in : Has longer met = subst (Has longer) (sym met_is) (met_in first so_far.met) in
      record {
        up = parent_in parents here;
        rest = line_step parents levels counter here line longer whole below
            (ap (λ o. line ++ line_from (levels - counter) parents o) (sym up_is) ∙ so_far.rest) refl;
        closed = closed_in so_far.up up_is so_far.closed;
        met = first_in;
        told = elim (told_in met above first_in) [
          | inl is ↦ inl (next_is ∙ (is ∙ above_is))
          | inr both ↦ inr (next_is ∙ both.0, subst (Has longer) above_is both.1)
        ];
      }

pub goes_on : (parents : List (Option ℕ)) (marked : List Mark) (levels counter here : ℕ) (whole line out : List ℕ) (first met above next : Option ℕ)
    → counter < levels → IsSoFar parents (levels - counter) whole line first (Some here) → out ≡ line ++ here ∷ []
    → met ≡ first_met marked first here → above ≡ parent_in parents here → next ≡ unless_first met above
    → IsSoFar parents (levels - (counter + 1)) whole out met next
goes_on parents marked levels counter here whole line out first met above next below so_far is met_is above_is next_is =
    let P : List ℕ → Type 0 = λ some. IsSoFar parents (levels - (counter + 1)) whole some met next in
    subst P (sym is) (so_far_longer parents marked here line levels counter whole first met above next below so_far met_is above_is next_is)

-- ---- the end

-- what leads up from one of the things of a list that has what these stand under stands in it
stays_in : (parents : List (Option ℕ)) (line : List ℕ) → ((number : ℕ) → Contains line number → Has line (parent_in parents number))
    → (levels : ℕ) (o : Option ℕ) → Has line o → All (Contains line) (line_from levels parents o)
stays_in parents line closed zero o has = All-nil (Contains line)
stays_in parents line closed (suc levels) None has = All-nil (Contains line)
stays_in parents line closed (suc levels) (Some number) has =
    All-cons (Contains line) number (line_from levels parents (parent_in parents number)) has
    (stays_in parents line closed levels (parent_in parents number) (closed number has))

-- nothing goes on
pub round_none : (parents : List (Option ℕ)) (left number : ℕ) (line : List ℕ) (first : Option ℕ)
    → IsSoFar parents left (ancestry parents number) line first None → IsRound parents number line
round_none parents left number line first so_far =
    let up_in : Has line so_far.up = elim so_far.told [ inl is ↦ subst (Has line) is tt | inr both ↦ both.1 ] in
    record {
      again = line_from left parents so_far.up;
      whole = sym so_far.rest;
      known = stays_in parents line
          (λ other there. elim (so_far.closed other there) [ inl is ↦ subst (Has line) (sym is) up_in | inr has ↦ has ]) left so_far.up up_in;
    }

-- no levels are left
pub round_end : (parents : List (Option ℕ)) (levels counter number : ℕ) (line : List ℕ) (first next : Option ℕ) → levels ≤ counter
    → IsSoFar parents (levels - counter) (ancestry parents number) line first next → IsRound parents number line
round_end parents levels counter number line first next past so_far =
    let none : levels - counter ≡ 0 = omega arith in
    record {
      again = [];
      whole = sym so_far.rest ∙ ap (λ n. line ++ line_from n parents so_far.up) none;
      known = All-nil (Contains line);
    }
