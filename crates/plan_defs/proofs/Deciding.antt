-- A settled list of decisions decides once what becomes of a token, and never of a fact.
use Rattle.std.proofs.Common.{◌≡◌, List, [], ◌∷◌, ◌++◌, ◌⊎◌, sym, ◌∙◌, subst, inl, inr, arith}
use Rattle.std.specs.Prelude.{Contains}
use Rattle.std.proofs.lemmas.List.Elements.{Contains-push_cases}
use Rattle.eu_name.specs.declared.name.TokenName.{TokenName}
use Rattle.model_core.specs.declared.decision.Decision.{Decision}
use Rattle.model_core.specs.declared.decision.Decision.TheVariants.{Specify, Activate, Merge, Reject, Order, Constrain, Relate}
use Rattle.model_core.specs.declared.model.Model.{Model}
use Rattle.model_core.specs.Decided.{IsDecided}
use Rattle.model_core.specs.Tokens.{IsFact}
use Rattle.plan_defs.specs.Refusals.{IsAlreadyDecided}
use Rattle.model_core.specs.declared.refusal.Refusal.TheVariants.{Decided}
use Rattle.plan_defs.specs.Settling.{SettlesAfter, IsSettled}

-- the decision says what becomes of the token
abbrev pub Decides : Decision → TokenName → Type 0
Decides (Specify name value) token = ⊥
Decides (Activate other) token = other ≡ token
Decides (Merge other target) token = other ≡ token
Decides (Reject other) token = other ≡ token
Decides (Order one other) token = ⊥
Decides (Constrain kind arguments) token = ⊥
Decides (Relate relation one other) token = ⊥

-- one decision of the list at most says what becomes of a token, and none of a fact
pub record DecidesOnce (model : Model) (decisions : List Decision) : Type 0 where
  pub one : (token : TokenName) (a b : Decision)
      → Contains decisions a → Contains decisions b → Decides a token → Decides b token → a ≡ b
  pub facts : (token : TokenName) (a : Decision) → IsFact model token → Contains decisions a → Decides a token → ⊥

module _ (model : Model) (kept : List Decision) where
  decided_by : (a : Decision) (token : TokenName) → Contains kept a → Decides a token → IsDecided model kept token
  decided_by (Specify name value) token there is = absurd is
  decided_by (Activate other) token there is = inr (inl (inl (subst (λ t. Contains kept (Activate t)) is there)))
  decided_by (Merge other target) token there is = inr (inl (inr (target, subst (λ t. Contains kept (Merge t target)) is there)))
  decided_by (Reject other) token there is = inr (inr (subst (λ t. Contains kept (Reject t)) is there))
  decided_by (Order one other) token there is = absurd is
  decided_by (Constrain kind arguments) token there is = absurd is
  decided_by (Relate relation one other) token there is = absurd is

  already : (a : Decision) (token : TokenName) → Decides a token → IsDecided model kept token → IsAlreadyDecided model kept a
  already (Specify name value) token is decided = absurd is
  already (Activate other) token is decided = subst (IsDecided model kept) (sym is) decided
  already (Merge other target) token is decided = subst (IsDecided model kept) (sym is) decided
  already (Reject other) token is decided = subst (IsDecided model kept) (sym is) decided
  already (Order one other) token is decided = absurd is
  already (Constrain kind arguments) token is decided = absurd is
  already (Relate relation one other) token is decided = absurd is

  module _ (decision : Decision) (once : DecidesOnce model kept) (free : IsAlreadyDecided model kept decision → ⊥) where
    -- what the new decision decides was undecided
    fresh : (a b : Decision) (token : TokenName) → Contains kept a → decision ≡ b → Decides a token → Decides b token → ⊥
    fresh a b token there same is other =
        free (already decision token (subst (λ d. Decides d token) (sym same) other) (decided_by a token there is))

    both : (token : TokenName) (a b : Decision) → Contains kept a ⊎ (decision ≡ a) → Contains kept b ⊎ (decision ≡ b)
        → Decides a token → Decides b token → a ≡ b
    both token a b (inl old) (inl older) is other = once.one token a b old older is other
    both token a b (inl old) (inr new) is other = absurd (fresh a b token old new is other)
    both token a b (inr new) (inl old) is other = absurd (fresh b a token old new other is)
    both token a b (inr new) (inr newer) is other = sym new ∙ newer

    no_fact : (token : TokenName) (a : Decision) → IsFact model token → Contains kept a ⊎ (decision ≡ a) → Decides a token → ⊥
    no_fact token a fact (inl old) is = once.facts token a fact old is
    no_fact token a fact (inr new) is = free (already decision token (subst (λ d. Decides d token) (sym new) is) (inl fact))

    one_more : DecidesOnce model (kept ++ decision ∷ [])
    one_more = record {
      one = λ token a b there other.
          both token a b (Contains-push_cases kept decision a there) (Contains-push_cases kept decision b other);
      facts = λ token a fact there. no_fact token a fact (Contains-push_cases kept decision a there);
    }

from : (model : Model) (kept decisions settled : List Decision) → DecidesOnce model kept → SettlesAfter model kept decisions settled → DecidesOnce model settled
from model kept [] settled once is = subst (λ list. DecidesOnce model list) (sym is) once
from model kept (decision ∷ decisions) settled once (inl (admissible, rest)) =
    from model (kept ++ decision ∷ []) decisions settled (one_more model kept decision once (admissible.free Decided)) rest
from model kept (decision ∷ decisions) settled once (inr (not, rest)) = from model kept decisions settled once rest

nothing : (model : Model) → DecidesOnce model []
nothing model = record {
  one = λ token a b there. absurd (omega (arith, there.1));
  facts = λ token a fact there. absurd (omega (arith, there.1));
}

-- so it is in a settled list
pub decides_once : (model : Model) (decisions : List Decision) → IsSettled model decisions → DecidesOnce model decisions
decides_once model decisions is = from model [] decisions decisions (nothing model) is
