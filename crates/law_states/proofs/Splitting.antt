-- Settling a list in two parts; and a list settles, and is reduced, to one list at most.
use Rattle.std.proofs.Common.{◌≡◌, List, [], ◌∷◌, ◌++◌, inl, inr, refl, sym, ◌∙◌, subst}
use Rattle.model_core.specs.declared.decision.Decision.{Decision}
use Rattle.model_core.specs.declared.model.Model.{Model}
use Rattle.plan_defs.specs.Closure.{IsCollapsed}
use Rattle.plan_defs.specs.Settling.{SettlesAfter, Settles, IsSettled, SettlesToCollapse, SettlesToLeast, ReducesTo, IsConflict}
use Rattle.plan_defs.proofs.Settling.{least_not_collapsed}

module _ (model : Model) where
  -- decisions settle to one list
  pub settles_same : (kept decisions one other : List Decision) → SettlesAfter model kept decisions one → SettlesAfter model kept decisions other → one ≡ other
  settles_same kept [] one other p q = p ∙ sym q
  settles_same kept (decision ∷ decisions) one other (inl p) (inl q) = settles_same (kept ++ decision ∷ []) decisions one other p.1 q.1
  settles_same kept (decision ∷ decisions) one other (inl p) (inr q) = absurd (q.0 p.0)
  settles_same kept (decision ∷ decisions) one other (inr p) (inl q) = absurd (p.0 q.0)
  settles_same kept (decision ∷ decisions) one other (inr p) (inr q) = settles_same kept decisions one other p.1 q.1

  -- what two lists one after the other settle to, the second settles to after what the first does
  pub settles_split : (kept front back settled : List Decision) → SettlesAfter model kept (front ++ back) settled
      → (middle : List Decision) × (SettlesAfter model kept front middle × SettlesAfter model middle back settled)
  settles_split kept [] back settled p = (kept, (refl, p))
  settles_split kept (decision ∷ front) back settled (inl p) =
      let rest = settles_split (kept ++ decision ∷ []) front back settled p.1 in (rest.0, (inl (p.0, rest.1.0), rest.1.1))
  settles_split kept (decision ∷ front) back settled (inr p) =
      let rest = settles_split kept front back settled p.1 in (rest.0, (inr (p.0, rest.1.0), rest.1.1))

  -- behind a settled list the rest settles after it
  pub settles_behind : (front back settled : List Decision) → IsSettled model front → Settles model (front ++ back) settled → SettlesAfter model front back settled
  settles_behind front back settled is p =
      let parts = settles_split [] front back settled p in
      subst (λ (list : List Decision). SettlesAfter model list back settled) (settles_same [] front parts.0 front parts.1.0 is) parts.1.1

  -- no list settles both to one that leaves a least state and to one that leaves none
  pub not_both : (decisions : List Decision) → SettlesToCollapse model decisions → SettlesToLeast model decisions → ⊥
  not_both decisions collapse least =
      let same = settles_same [] decisions collapse.0 least.0 collapse.1 least.1 in
      least_not_collapsed model least.0 least.2.0 least.2.1 (subst (IsCollapsed model) same collapse.2)

  reduces_same : (kept decisions one other : List Decision) → ReducesTo model kept decisions one → ReducesTo model kept decisions other → one ≡ other
  reduces_same kept [] one other p q = settles_same [] kept one other p q
  reduces_same kept (decision ∷ decisions) one other (inl p) (inl q) = reduces_same kept decisions one other p.1 q.1
  reduces_same kept (decision ∷ decisions) one other (inl p) (inr q) = absurd (not_both (kept ++ decisions) p.0 q.0)
  reduces_same kept (decision ∷ decisions) one other (inr p) (inl q) = absurd (not_both (kept ++ decisions) q.0 p.0)
  reduces_same kept (decision ∷ decisions) one other (inr p) (inr q) = reduces_same (kept ++ decision ∷ []) decisions one other p.1 q.1

-- a list has one conflict at most
pub conflict_same : (model : Model) (decisions one other : List Decision) → IsConflict model decisions one → IsConflict model decisions other → one ≡ other
conflict_same model decisions one other p q = reduces_same model [] decisions one other p q
