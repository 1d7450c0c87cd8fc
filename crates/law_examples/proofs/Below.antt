-- What stands under a goal without steps.
use Rattle.std.proofs.Common.{◌≡◌, List, [], ◌∷◌, pos, inl, inr, refl, sym, ap, subst, arith}
use Rattle.eu_name.specs.declared.name.Part.TheVariants.{Start}
use Rattle.eu_name.specs.declared.name.Step.{Step}
use Rattle.eu_name.specs.declared.name.TokenName.{TokenName}
use Rattle.eu_name.specs.declared.name.VarName.TheVariants as variables
use Rattle.eu_name.proofs.Ordered.{contains_head, contains_later, contains_cases}
use Rattle.model_core.specs.declared.decision.ConArg.TheVariants.{Var, Value}
use Rattle.model_core.specs.declared.decision.Decision.TheVariants.{Relate}
use Rattle.model_core.specs.declared.item.Rel.TheVariants.{Before}
use Rattle.model_core.specs.Tokens.{slot_token}
use Rattle.law_search.specs.Under.{IsUnder, IsVariableUnder, NamesUnder}
use Rattle.law_examples.specs.Posted.{leq}
use Rattle.law_examples.specs.Swaps.{g, gg}
use Rattle.law_examples.proofs.Lists.{only_member}

pub slot_under : IsUnder g (slot_token g 0 0)
slot_under = record { step = record { rule = 0; slot = 0 }; steps = []; is = refl }

no_step : (step : Step) (steps : List Step) → [] ≡ step ∷ steps → ⊥
no_step step steps same = cc

pub not_itself : IsUnder g g → ⊥
not_itself under = no_step under.step under.steps (ap (λ (t : TokenName). t.steps) under.is)

-- what belongs to the second root doesn't stand under the first
pub not_elsewhere : (token : TokenName) → token.root ≡ 1 → IsUnder g token → ⊥
not_elsewhere token root under =
    let first : token.root ≡ 0 = ap (λ (t : TokenName). t.root) under.is in
    omega (arith, root, first)

-- ---- what is posted

pub local_named : NamesUnder g (leq (Value (pos 0)) (Var (variables.Local g 0 0)))
local_named = (
  variables.Local g 0 0,
  contains_later (Value (pos 0)) (Var (variables.Local g 0 0)) (Var (variables.Local g 0 0) ∷ []) (contains_head (Var (variables.Local g 0 0)) []),
  inl refl,
)

pub part_not_named : NamesUnder g (leq (Value (pos 0)) (Var (variables.Token g Start))) → ⊥
part_not_named (name, there, under) = elim (contains_cases (Value (pos 0)) (Var name) (Var (variables.Token g Start) ∷ []) there) [
  | inl same ↦ cc
  | inr later ↦ (let same = only_member (Var (variables.Token g Start)) (Var name) later in
      let names : variables.Token g Start ≡ name = cc in
      not_itself (subst (λ n. IsVariableUnder g n) (sym names) under))
]

pub not_related : NamesUnder g (Relate Before g gg) → ⊥
not_related (inl under) = not_itself under
not_related (inr under) = not_elsewhere gg refl under
