-- Whether there is a choice of a number.
use Rattle.std.proofs.Common.{◌≡◌, ℕ, ◌<◌, ◌≤◌, List, length, Some, None, inl, inr, sym, ◌∙◌}
use Rattle.std.specs.Prelude.{slice_get}
use Rattle.std.proofs.lemmas.Option.{slice_get_cases}
use Rattle.eu_name.proofs.Members.{get_below}
use Rattle.model_core.specs.declared.decision.Decision.{Decision}

pub some_below : (choices : List Decision) (number : ℕ) (choice : Decision) → Some choice ≡ slice_get choices number → number < length choices
some_below choices number choice is = get_below choices number choice (sym is)

pub none_past : (choices : List Decision) (number : ℕ) → None ≡ slice_get choices number → length choices ≤ number
none_past choices number is = elim (slice_get_cases choices number).1 [
  | inl there ↦ absurd (never there.0 (is ∙ there.2))
  | inr past ↦ past.0
]
  where
    never : (choice : Decision) → None ≡ Some choice → ⊥
    never choice same = cc
