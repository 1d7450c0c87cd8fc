-- The locals that come with a block.
use Rattle.std.proofs.Common.{◌≡◌, ℕ, ◌<◌, List, [], ◌∷◌, ◌++◌, length, get_or, Err, ◌⊎◌, inl, inr, refl, sym, ap, ◌∙◌, subst}
use Rattle.std.specs.Prelude.{All, Contains, slice_get, Some, Result}
use Rattle.std.proofs.lemmas.List.Elements.{All-get_or, Contains-append_left, Contains-push, Contains-push_cases}
use Rattle.eu_name.specs.declared.name.TokenName.{TokenName}
use Rattle.eu_name.specs.declared.name.VarName.{VarName}
use Rattle.eu_name.specs.declared.name.VarName.TheVariants as name
use Rattle.model_core.specs.declared.model.Model.{Model}
use Rattle.model_core.specs.declared.rule.Rule.{Rule}
use Rattle.model_core.specs.declared.variable.Base.{Base}
use Rattle.model_core.specs.declared.variable.VarDecl.{VarDecl}
use Rattle.model_core.specs.Tokens.{HasRule}
use Rattle.constraint_net.specs.declared.NetFault.{NetFault}
use Rattle.eu_name.proofs.Ordered.{contains_none}
use Rattle.db_store.specs.declared.key.VarKey.{VarKey}
use Rattle.db_store.specs.declared.key.VarKey.TheVariants.{Local}
use Rattle.db_store.specs.Stores.{Stored}
use Rattle.db_opening.specs.Bringing.{BringsKeys, Brings}
use Rattle.db_posting.specs.Wanted.{WantsLocal, WantsLocals, IsNamedLocal, IsDeclaredLocal}
use Rattle.db_opening.proofs.Bringing.{brings_nothing, brings_as, brings_joined, fails_as}

module _ (model : Model) (pred place rule : ℕ) where
  -- the declared local, as it is found
  pub brings_found : (number : ℕ) (variable : VarDecl) → ((found : Rule) × HasRule model pred rule found × (slice_get found.locals number ≡ Some variable))
      → (old new : Stored) (result : Result (Unit {0}) NetFault) → Brings (λ one of. (one ≡ Local place rule number) × (of ≡ variable.base)) old result new
      → Brings (WantsLocal model pred place rule number) old result new
  brings_found number variable (found, has_rule, at) old new result brings =
      brings_as (λ one of. (one ≡ Local place rule number) × (of ≡ variable.base)) (WantsLocal model pred place rule number)
      (λ key base is. record { is = is.0; declared = record { found = found; has_rule = has_rule; variable = variable; declared = at; is_base = is.1 } })
      (λ key base wants. (variable.base, (wants.is, refl))) old new result brings

  module _ (owner : TokenName) where
    abbrev wants_all : List VarName → VarKey → Base → Type 0
    wants_all locals = WantsLocals model pred place rule owner locals

    pub no_locals : (stored : Stored) → BringsKeys (wants_all []) stored stored
    no_locals stored = brings_nothing (wants_all []) stored (λ key base wants. absurd (contains_none (name.Local owner rule wants.number) wants.listed))

    module _ (before locals : List VarName) (local : VarName) (number : ℕ) (is : local ≡ name.Local owner rule number) where
      one_more : (key : VarKey) (base : Base) → wants_all (before ++ local ∷ []) key base
          → ((of : Base) × wants_all before key of) ⊎ ((of : Base) × WantsLocal model pred place rule number key of)
      one_more key base wants = elim (Contains-push_cases before local (name.Local owner rule wants.number) wants.listed) [
        | inl earlier ↦ inl (base, record { number = wants.number; listed = earlier; wants = wants.wants })
        | inr last ↦ (
            let names : name.Local owner rule wants.number ≡ name.Local owner rule number = sym last ∙ is in
            let same : wants.number ≡ number = cc in
            inr (base, subst (λ n. WantsLocal model pred place rule n key base) same wants.wants))
      ]

      pub locals_more : (old mid new : Stored) → BringsKeys (wants_all before) old mid → BringsKeys (WantsLocal model pred place rule number) mid new
          → BringsKeys (wants_all (before ++ local ∷ [])) old new
      locals_more old mid new one other =
          brings_joined (wants_all before) (WantsLocal model pred place rule number) (wants_all (before ++ local ∷ []))
          (λ key base wants. record { number = wants.number; listed = Contains-append_left before (local ∷ []) (name.Local owner rule wants.number) wants.listed; wants = wants.wants })
          (λ key base wants. record { number = number; listed = subst (Contains (before ++ local ∷ [])) is (Contains-push before local); wants = wants })
          one_more old mid new one other

      pub local_fails : Contains locals local → (old mid new : Stored) (fault : NetFault) → Brings (WantsLocal model pred place rule number) mid (Err fault) new
          → Brings (wants_all locals) old (Err fault) new
      local_fails there old mid new fault fails =
          fails_as (WantsLocal model pred place rule number) (wants_all locals)
          (λ key base wants. record { number = number; listed = subst (Contains locals) is there; wants = wants }) old mid new fault fails

-- a name that is one of the locals is that of the local of its number
pub local_at : (model : Model) (pred rule : ℕ) (owner : TokenName) (locals : List VarName) (i number : ℕ) (d : VarName) → All (IsNamedLocal model pred rule owner) locals → i < length locals
    → ((other : TokenName) (r n : ℕ) → get_or locals i d ≡ name.Local other r n → number ≡ n) → (get_or locals i d ≡ name.Local owner rule number) × ((base : Base) × IsDeclaredLocal model pred rule number base)
local_at model pred rule owner locals i number d are below told =
    let it : IsNamedLocal model pred rule owner (get_or locals i d) = All-get_or (IsNamedLocal model pred rule owner) locals i d below are in
    let same : number ≡ it.number = told owner rule it.number it.is in
    (it.is ∙ ap (name.Local owner rule) (sym same), (it.base, subst (λ n. IsDeclaredLocal model pred rule n it.base) (sym same) it.declared))
