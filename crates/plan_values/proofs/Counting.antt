-- Whether what is said of a variable counts, by the token that owns it.
use Rattle.std.proofs.Common.{◌≡◌, Bool, [], sym, subst}
use Rattle.std.specs.Prelude.{MatchBool}
use Rattle.eu_name.specs.declared.name.TokenName.{TokenName}
use Rattle.eu_name.specs.declared.name.VarName.{VarName}
use Rattle.model_core.specs.declared.model.Model.{Model}
use Rattle.model_core.specs.declared.model.Root.{Root}
use Rattle.model_core.specs.declared.model.RootKind.TheVariants.{Rejectable}
use Rattle.model_core.specs.Tokens.{IsRejectable, IsRoot}
use Rattle.plan_defs.specs.declared.plan.Plan.{Plan}
use Rattle.plan_defs.specs.Plans.{IsTakenIn}
use Rattle.plan_defs.specs.Terms.{Argument, Variable, BelongsTo, ArgumentCounts}
use Rattle.eu_name.proofs.Members.{get_same}
use Rattle.plan_values.specs.declared.terms.Meaning.{Meaning}
use Rattle.plan_values.specs.Meanings.{argument_of}
use Rattle.plan_values.proofs.Matching.{match_bool}

module _ (model : Model) (plan : Plan) where
  -- of one owner's variable it is enough to know of the owner
  pub owner_counts : (meaning : Meaning) (name : VarName) (owner : TokenName) (answer : Bool) → argument_of meaning ≡ Variable name
      → ((token : TokenName) → BelongsTo name token → owner ≡ token) → BelongsTo name owner
      → MatchBool answer (IsRejectable model owner → IsTakenIn plan owner) ((IsRejectable model owner → IsTakenIn plan owner) → ⊥)
      → MatchBool answer (ArgumentCounts model (IsTakenIn plan) (argument_of meaning)) (ArgumentCounts model (IsTakenIn plan) (argument_of meaning) → ⊥)
  owner_counts meaning name owner answer means only own is =
      subst (λ (a : Argument). MatchBool answer (ArgumentCounts model (IsTakenIn plan) a) (ArgumentCounts model (IsTakenIn plan) a → ⊥)) (sym means)
      (match_bool answer _ _ _ _
      (λ taken token belongs. subst (λ (t : TokenName). IsRejectable model t → IsTakenIn plan t) (only token belongs) taken)
      (λ not_taken counts. not_taken (counts owner own)) is)

module _ (model : Model) (token : TokenName) (root : Root) (is_root : IsRoot model token.root root) where
  pub rejectable_root : (answer : Bool) → token.steps ≡ [] → MatchBool answer (root.kind ≡ Rejectable) (root.kind ≡ Rejectable → ⊥)
      → MatchBool answer (IsRejectable model token) (IsRejectable model token → ⊥)
  rejectable_root answer no_steps is = match_bool answer _ _ _ _
      (λ kind. (no_steps, (root, is_root, kind)))
      (λ other rejectable. other (subst (λ (r : Root). r.kind ≡ Rejectable) (get_same model.problem.roots token.root rejectable.1.0 root rejectable.1.1 is_root) rejectable.1.2)) is
