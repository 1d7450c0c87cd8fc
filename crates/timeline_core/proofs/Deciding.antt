-- What a settled list of decisions lets take place is neither merged nor rejected.
use Rattle.std.proofs.Common.{◌≡◌, List, [], ◌∷◌, ◌++◌, sym, subst, inl, inr, arith}
use Rattle.std.specs.Prelude.{Contains}
use Rattle.std.proofs.lemmas.List.Elements.{Contains-push_cases}
use Rattle.eu_name.specs.declared.name.TokenName.{TokenName}
use Rattle.model_core.specs.declared.decision.Decision.{Decision}
use Rattle.model_core.specs.declared.decision.Decision.TheVariants.{Activate, Merge, Reject}
use Rattle.model_core.specs.declared.model.Model.{Model}
use Rattle.model_core.specs.Decided.{IsActive}
use Rattle.plan_defs.specs.Refusals.{IsAlreadyDecided}
use Rattle.model_core.specs.declared.refusal.Refusal.TheVariants.{Decided}
use Rattle.plan_defs.specs.Settling.{SettlesAfter, IsSettled}
use Rattle.plan_defs.specs.Unordered.{AreDecidedOnce}

module _ (model : Model) (kept : List Decision) (decision : Decision) (once : AreDecidedOnce model kept) (free : IsAlreadyDecided model kept decision → ⊥) where
  -- the decision isn't this one where that one is made already
  not_this : (other : Decision) → decision ≡ other → IsAlreadyDecided model kept other → ⊥
  not_this other is already = free (subst (λ d. IsAlreadyDecided model kept d) (sym is) already)

  not_merged : (token target : TokenName) → IsActive model (kept ++ decision ∷ []) token → Contains (kept ++ decision ∷ []) (Merge token target) → ⊥
  not_merged token target (inl fact) there = elim (Contains-push_cases kept decision (Merge token target) there) [
    | inl old ↦ (once token (inl fact)).0 (target, old)
    | inr is ↦ not_this (Merge token target) is (inl fact)
  ]
  not_merged token target (inr active) there = elim (Contains-push_cases kept decision (Merge token target) there) [
    | inl old ↦ elim (Contains-push_cases kept decision (Activate token) active) [
      | inl before ↦ (once token (inr before)).0 (target, old)
      | inr is ↦ not_this (Activate token) is (inr (inl (inr (target, old))))
    ]
    | inr is ↦ elim (Contains-push_cases kept decision (Activate token) active) [
      | inl before ↦ not_this (Merge token target) is (inr (inl (inl before)))
      | inr is' ↦ cc
    ]
  ]

  not_rejected : (token : TokenName) → IsActive model (kept ++ decision ∷ []) token → Contains (kept ++ decision ∷ []) (Reject token) → ⊥
  not_rejected token (inl fact) there = elim (Contains-push_cases kept decision (Reject token) there) [
    | inl old ↦ (once token (inl fact)).1 old
    | inr is ↦ not_this (Reject token) is (inl fact)
  ]
  not_rejected token (inr active) there = elim (Contains-push_cases kept decision (Reject token) there) [
    | inl old ↦ elim (Contains-push_cases kept decision (Activate token) active) [
      | inl before ↦ (once token (inr before)).1 old
      | inr is ↦ not_this (Activate token) is (inr (inr old))
    ]
    | inr is ↦ elim (Contains-push_cases kept decision (Activate token) active) [
      | inl before ↦ not_this (Reject token) is (inr (inl (inl before)))
      | inr is' ↦ cc
    ]
  ]

  pub once_more : AreDecidedOnce model (kept ++ decision ∷ [])
  once_more token active = (λ merged. not_merged token merged.0 active merged.1, λ rejected. not_rejected token active rejected)

settled_from : (model : Model) (kept decisions settled : List Decision) → AreDecidedOnce model kept → SettlesAfter model kept decisions settled → AreDecidedOnce model settled
settled_from model kept [] settled once is = subst (λ list. AreDecidedOnce model list) (sym is) once
settled_from model kept (decision ∷ decisions) settled once (inl (admissible, rest)) =
    settled_from model (kept ++ decision ∷ []) decisions settled (once_more model kept decision once (admissible.free Decided)) rest
settled_from model kept (decision ∷ decisions) settled once (inr (not, rest)) = settled_from model kept decisions settled once rest

pub none_decided : (model : Model) → AreDecidedOnce model []
none_decided model token active = (λ merged. omega (arith, merged.1.1), λ rejected. omega (arith, rejected.1))

pub settled_once : (model : Model) (decisions : List Decision) → IsSettled model decisions → AreDecidedOnce model decisions
settled_once model decisions is = settled_from model [] decisions decisions (none_decided model) is
