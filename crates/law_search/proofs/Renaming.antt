-- Names of tokens where two change places.
use Rattle.std.proofs.Common.{◌≡◌, ◌==◌, ◌&&◌, Bool, true, false, ◌⊎◌, inl, inr, List, [], ◌∷◌, ◌++◌, length, Option, Some, None, refl, sym, ap, ◌∙◌, append_assoc, arith, if◌then◌else◌}
use Rattle.std.proofs.lemmas.Bool.{and_from, and_parts, eqb-true, eq-eqb}
use Rattle.std.proofs.lemmas.List.{length-append, same_from_push, append-nil}
use Rattle.std.specs.Option.{option_map_or}
use Rattle.eu_name.specs.declared.name.Step.{Step}
use Rattle.eu_name.specs.declared.name.TokenName.{TokenName}
use Rattle.model_core.specs.Tokens.{slot_token}
use Rattle.plan_defs.proofs.Closing.{last_step}
use Rattle.law_search.specs.Swapping.{token_under, steps_behind, steps_from, swapped_token}

-- ---- steps behind a front

same_steps : (one other : Step) → (one.rule == other.rule && one.slot == other.slot) ≡ true → one ≡ other
same_steps one other e =
    let both = and_parts (one.rule == other.rule) (one.slot == other.slot) e in
    let rules = eqb-true one.rule other.rule both.0 in
    let slots = eqb-true one.slot other.slot both.1 in
    λ i. record { rule = rules i; slot = slots i }

step_itself : (step : Step) → (step.rule == step.rule && step.slot == step.slot) ≡ true
step_itself step = and_from (step.rule == step.rule) (step.slot == step.slot) (eq-eqb step.rule step.rule refl) (eq-eqb step.slot step.slot refl)

pub no_some : {X : Type 0} (x : X) → None ≡ Some x → ⊥
no_some x e = cc

behind_some : (front steps rest : List Step) → steps_behind front steps ≡ Some rest → steps ≡ front ++ rest
behind_some [] steps rest e = cc
behind_some (step ∷ front) [] rest e = absurd (no_some rest e)
behind_some (step ∷ front) (other ∷ steps) rest e = by_test (step.rule == other.rule && step.slot == other.slot) refl e (behind_some front steps rest)
  where
    by_test : (test : Bool) → (step.rule == other.rule && step.slot == other.slot) ≡ test
        → (if test then steps_behind front steps else None) ≡ Some rest
        → (steps_behind front steps ≡ Some rest → steps ≡ front ++ rest)
        → other ∷ steps ≡ step ∷ (front ++ rest)
    by_test true same e further =
        let step_is = same_steps step other same in
        ap (λ (s : Step). s ∷ steps) (sym step_is) ∙ ap (λ (more : List Step). step ∷ more) (further e)
    by_test false same e further = absurd (no_some rest e)

behind_itself : (front rest : List Step) → steps_behind front (front ++ rest) ≡ Some rest
behind_itself [] rest = refl
behind_itself (step ∷ front) rest =
    ap (λ (test : Bool). if test then steps_behind front (front ++ rest) else None) (step_itself step) ∙ behind_itself front rest

-- ---- tokens under a top

pub from_some : (top token : TokenName) (steps : List Step) → steps_from top token ≡ Some steps → token ≡ token_under top steps
from_some top token steps e = by_test (top.root == token.root) refl e
  where
    by_test : (test : Bool) → (top.root == token.root) ≡ test
        → (if test then steps_behind top.steps token.steps else None) ≡ Some steps → token ≡ token_under top steps
    by_test true same e =
        let roots = eqb-true top.root token.root same in
        let are = behind_some top.steps token.steps steps e in
        λ i. record { root = sym roots i; steps = are i }
    by_test false same e = absurd (no_some steps e)

pub from_itself : (top : TokenName) (steps : List Step) → steps_from top (token_under top steps) ≡ Some steps
from_itself top steps =
    ap (λ (test : Bool). if test then steps_behind top.steps (top.steps ++ steps) else None) (eq-eqb top.root top.root refl)
    ∙ behind_itself top.steps steps

-- the token stands under the top or is it, or not
pub under_or_not : (top token : TokenName)
    → ((steps : List Step) × (token ≡ token_under top steps)) ⊎ (((steps : List Step) → token ≡ token_under top steps → ⊥) × (steps_from top token ≡ None))
under_or_not top token = by_answer (steps_from top token) refl
  where
    by_answer : (answer : Option (List Step)) → steps_from top token ≡ answer
        → ((steps : List Step) × (token ≡ token_under top steps)) ⊎ (((steps : List Step) → token ≡ token_under top steps → ⊥) × (steps_from top token ≡ None))
    by_answer (Some steps) e = inl (steps, from_some top token steps e)
    by_answer None e = inr (
      λ steps is. no_some steps (sym e ∙ ap (λ (t : TokenName). steps_from top t) is ∙ from_itself top steps),
      e,
    )

-- ---- two tokens that stand apart

pub record AreApart (one other : TokenName) : Type 0 where
  pub below : (steps : List Step) → other ≡ token_under one steps → ⊥
  pub above : (steps : List Step) → one ≡ token_under other steps → ⊥

pub apart_flipped : (one other : TokenName) → AreApart one other → AreApart other one
apart_flipped one other apart = record { below = apart.above; above = apart.below }

-- ---- where two lists begin alike

abbrev first_or : Step → List Step → Step
first_or none [] = none
first_or none (step ∷ steps) = step

abbrev behind_first : List Step → List Step
behind_first [] = []
behind_first (step ∷ steps) = steps

comparable : (one other s r : List Step) → one ++ s ≡ other ++ r
    → ((more : List Step) × (other ≡ one ++ more)) ⊎ ((more : List Step) × (one ≡ other ++ more))
comparable [] other s r e = inl (other, refl)
comparable (step ∷ one) [] s r e = inr (step ∷ one, refl)
comparable (step ∷ one) (step' ∷ other) s r e =
    let same : step ≡ step' = ap (first_or step) e in
    elim (comparable one other s r (ap behind_first e)) [
      | inl more ↦ inl (more.0, ap (λ (x : Step). x ∷ other) (sym same) ∙ ap (λ (xs : List Step). step ∷ xs) more.1)
      | inr more ↦ inr (more.0, ap (λ (xs : List Step). step ∷ xs) more.1 ∙ ap (λ (x : Step). x ∷ (other ++ more.0)) same)
    ]

-- tokens that stand apart have nothing under both
pub apart_under : (one other : TokenName) → AreApart one other → (s r : List Step) → token_under one s ≡ token_under other r → ⊥
apart_under one other apart s r e =
    let roots : one.root ≡ other.root = ap (λ (t : TokenName). t.root) e in
    elim (comparable one.steps other.steps s r (ap (λ (t : TokenName). t.steps) e)) [
      | inl more ↦ apart.below more.0 (λ i. record { root = sym roots i; steps = more.1 i })
      | inr more ↦ apart.above more.0 (λ i. record { root = roots i; steps = more.1 i })
    ]

module _ (one other : TokenName) (apart : AreApart one other) where
  -- ---- what becomes of a name

  pub swapped_one : (steps : List Step) → swapped_token one other (token_under one steps) ≡ token_under other steps
  swapped_one steps = ap
      (λ (found : Option (List Step)). option_map_or (token_under other) found
      (option_map_or (token_under one) (steps_from other (token_under one steps)) (token_under one steps)))
      (from_itself one steps)

  not_under_one : (steps : List Step) → steps_from one (token_under other steps) ≡ None
  not_under_one steps = elim (under_or_not one (token_under other steps)) [
    | inl found ↦ absurd (apart_under one other apart found.0 steps (sym found.1))
    | inr none ↦ none.1
  ]

  pub swapped_other : (steps : List Step) → swapped_token one other (token_under other steps) ≡ token_under one steps
  swapped_other steps =
      ap (λ (found : Option (List Step)). option_map_or (token_under other) found
      (option_map_or (token_under one) (steps_from other (token_under other steps)) (token_under other steps)))
      (not_under_one steps)
      ∙ ap (λ (found : Option (List Step)). option_map_or (token_under one) found (token_under other steps)) (from_itself other steps)

  -- the name stands under neither
  pub record IsElsewhere (token : TokenName) : Type 0 where
    pub not_one : (steps : List Step) → token ≡ token_under one steps → ⊥
    pub not_other : (steps : List Step) → token ≡ token_under other steps → ⊥
    pub stays : swapped_token one other token ≡ token

  -- where the name stands
  abbrev pub Stands : TokenName → Type 0
  Stands token =
      ((steps : List Step) × (token ≡ token_under one steps))
      ⊎ (((steps : List Step) × (token ≡ token_under other steps)) ⊎ IsElsewhere token)

  pub stands : (token : TokenName) → Stands token
  stands token = elim (under_or_not one token) [
    | inl found ↦ inl found
    | inr none ↦ elim (under_or_not other token) [
      | inl found ↦ inr (inl found)
      | inr none' ↦ inr (inr (record {
        not_one = none.0;
        not_other = none'.0;
        stays =
            ap (λ (found : Option (List Step)). option_map_or (token_under other) found
            (option_map_or (token_under one) (steps_from other token) token)) none.1
            ∙ ap (λ (found : Option (List Step)). option_map_or (token_under one) found token) none'.1;
      }))
    ]
  ]

-- to change places twice is not to
pub swapped_twice : (one other : TokenName) → AreApart one other → (token : TokenName)
    → swapped_token other one (swapped_token one other token) ≡ token
swapped_twice one other apart token = elim (stands one other apart token) [
  | inl found ↦
      ap (λ (t : TokenName). swapped_token other one (swapped_token one other t)) found.1
      ∙ ap (swapped_token other one) (swapped_one one other apart found.0)
      ∙ swapped_one other one (apart_flipped one other apart) found.0
      ∙ sym found.1
  | inr (inl found) ↦
      ap (λ (t : TokenName). swapped_token other one (swapped_token one other t)) found.1
      ∙ ap (swapped_token other one) (swapped_other one other apart found.0)
      ∙ swapped_other other one (apart_flipped one other apart) found.0
      ∙ sym found.1
  | inr (inr elsewhere) ↦
      ap (swapped_token other one) elsewhere.stays
      ∙ elim (stands other one (apart_flipped one other apart) token) [
        | inl found ↦ absurd (elsewhere.not_other found.0 found.1)
        | inr (inl found) ↦ absurd (elsewhere.not_one found.0 found.1)
        | inr (inr again) ↦ again.stays
      ]
]

-- ---- tokens and their slots

-- the token that a step leads to
abbrev pub step_token : TokenName → Step → TokenName
step_token token step = slot_token token step.rule step.slot

under_none : (top : TokenName) → top ≡ token_under top []
under_none top = λ i. record { root = top.root; steps = sym (append-nil top.steps) i }

under_step : (top : TokenName) (steps : List Step) (step : Step) → step_token (token_under top steps) step ≡ token_under top (steps ++ step ∷ [])
under_step top steps step = λ i. record { root = top.root; steps = append_assoc top.steps steps (step ∷ []) i }

-- a step leads to what stands under the top where its token does, or else to the top itself
pub step_under : (top token : TokenName) (step : Step) (steps : List Step) → step_token token step ≡ token_under top steps
    → (step_token token step ≡ top) ⊎ ((more : List Step) × (token ≡ token_under top more))
step_under top token step steps e = elim (last_step steps) [
  | inl none ↦ inl (e ∙ ap (token_under top) none ∙ sym (under_none top))
  | inr last ↦
      let roots : token.root ≡ top.root = ap (λ (t : TokenName). t.root) e in
      let are : token.steps ++ step ∷ [] ≡ (top.steps ++ last.front) ++ last.step ∷ [] =
      ap (λ (t : TokenName). t.steps) e ∙ ap (λ (more : List Step). top.steps ++ more) last.are ∙ sym (append_assoc top.steps last.front (last.step ∷ [])) in
      let same = same_from_push token.steps (top.steps ++ last.front) step last.step are in
      inr (last.front, λ i. record { root = roots i; steps = same.0 i })
]

module _ (one other : TokenName) (apart : AreApart one other) where
  -- the token above one of the two keeps its name
  pub above_one : (token : TokenName) (step : Step) → step_token token step ≡ one → IsElsewhere one other apart token
  above_one token step e = elim (stands one other apart token) [
    | inl found ↦ absurd (longer found.0 (sym e ∙ ap (λ (t : TokenName). step_token t step) found.1))
    | inr (inl found) ↦ absurd (apart.above (found.0 ++ step ∷ []) (sym e ∙ ap (λ (t : TokenName). step_token t step) found.1 ∙ under_step other found.0 step))
    | inr (inr elsewhere) ↦ elsewhere
  ]
    where
      longer : (steps : List Step) → one ≡ step_token (token_under one steps) step → ⊥
      longer steps is =
          let long = ap (λ (t : TokenName). length t.steps) is in
          omega (arith, long, length-append (one.steps ++ steps) (step ∷ []), length-append one.steps steps)

-- A step leads to the name that its token has then, unless it leads to one of the two, whose token stays.
pub step_swapped : (one other : TokenName) (apart : AreApart one other) (token : TokenName) (step : Step)
    → (swapped_token one other (step_token token step) ≡ step_token (swapped_token one other token) step)
    ⊎ ((swapped_token one other token ≡ token) × ((step_token token step ≡ one) ⊎ (step_token token step ≡ other)))
step_swapped one other apart token step = elim (stands one other apart token) [
  | inl found ↦ inl (
      ap (λ (t : TokenName). swapped_token one other (step_token t step)) found.1
      ∙ ap (swapped_token one other) (under_step one found.0 step)
      ∙ swapped_one one other apart (found.0 ++ step ∷ [])
      ∙ sym (under_step other found.0 step)
      ∙ ap (λ (t : TokenName). step_token t step) (sym (swapped_one one other apart found.0))
      ∙ ap (λ (t : TokenName). step_token (swapped_token one other t) step) (sym found.1))
  | inr (inl found) ↦ inl (
      ap (λ (t : TokenName). swapped_token one other (step_token t step)) found.1
      ∙ ap (swapped_token one other) (under_step other found.0 step)
      ∙ swapped_other one other apart (found.0 ++ step ∷ [])
      ∙ sym (under_step one found.0 step)
      ∙ ap (λ (t : TokenName). step_token t step) (sym (swapped_other one other apart found.0))
      ∙ ap (λ (t : TokenName). step_token (swapped_token one other t) step) (sym found.1))
  | inr (inr elsewhere) ↦ elim (stands one other apart (step_token token step)) [
    | inl found ↦ elim (step_under one token step found.0 found.1) [
      | inl is ↦ inr (elsewhere.stays, inl is)
      | inr under ↦ absurd (elsewhere.not_one under.0 under.1)
    ]
    | inr (inl found) ↦ elim (step_under other token step found.0 found.1) [
      | inl is ↦ inr (elsewhere.stays, inr is)
      | inr under ↦ absurd (elsewhere.not_other under.0 under.1)
    ]
    | inr (inr away) ↦ inl (away.stays ∙ ap (λ (t : TokenName). step_token t step) (sym elsewhere.stays))
  ]
]
