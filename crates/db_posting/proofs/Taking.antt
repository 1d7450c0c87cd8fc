-- What counts by the states of tokens.
use Rattle.std.proofs.Common.{◌≡◌, ℕ, ◌+◌, ◌<◌, List, length, take, get_or, slice_get, Some, inl, inr, refl, sym, ap, ◌∙◌, subst}
use Rattle.std.specs.Prelude.{All, ◌↔◌}
use Rattle.std.proofs.lemmas.List.{take_more}
use Rattle.std.proofs.lemmas.List.Elements.{All-push}
use Rattle.eu_name.specs.declared.name.Part.{Part}
use Rattle.eu_name.specs.declared.name.TokenName.{TokenName}
use Rattle.eu_name.specs.declared.name.VarName.TheVariants as name
use Rattle.model_core.specs.declared.decision.Decision.{Decision}
use Rattle.model_core.specs.declared.item.Term.TheVariants as terms
use Rattle.model_core.specs.declared.model.Model.{Model}
use Rattle.model_core.specs.declared.model.RootKind.TheVariants.{Rejectable, Fact}
use Rattle.model_core.specs.declared.view.TokenState.{TokenState}
use Rattle.model_core.specs.declared.view.TokenState.TheVariants as states
use Rattle.model_core.specs.Decided.{IsTaken}
use Rattle.model_core.specs.Tokens.{IsRejectable, IsFact, root_token}
use Rattle.token_store.specs.Tokens.{token_names, token_states}
use Rattle.plan_defs.specs.Terms.{Context, InProblem, InRule, Variable, ArgumentCounts}
use Rattle.eu_name.proofs.Members.{get_same}
use Rattle.db_store.specs.Stores.{Snapshot}
use Rattle.db_posting.specs.Counting.{OwnerCounts, ContextCounts, TermCounts, IsTakenState, AreTokenStates}

-- no fact may be rejected
fact_stays : (model : Model) (token : TokenName) → IsFact model token → IsRejectable model token → ⊥
fact_stays model token fact rejectable =
    let same = get_same model.problem.roots token.root fact.1.0 rejectable.1.0 fact.1.1 rejectable.1.1 in
    let kind : Fact ≡ Rejectable = sym fact.1.2 ∙ (ap (λ root. root.kind) same ∙ rejectable.1.2) in
    cc

module _ (model : Model) (decisions : List Decision) (snapshot : Snapshot) (kept : AreTokenStates model decisions snapshot)
    (place : ℕ) (token : TokenName) (named : slice_get (token_names snapshot.tokens) place ≡ Some token) (rejectable : IsRejectable model token) where
  pub taken_by_state : (state : TokenState) → slice_get (token_states snapshot.tokens) place ≡ Some state → IsTakenState state ↔ IsTaken decisions token
  taken_by_state states.Active is = (λ taken. inl (kept.states place token states.Active named is), λ taken. tt)
  taken_by_state (states.Merged target) is =
      (λ taken. let merged = kept.states place token (states.Merged target) named is in inr (merged.0, merged.2), λ taken. tt)
  taken_by_state states.Inactive is = (λ no. absurd no, λ taken. kept.states place token states.Inactive named is (inr (inl taken)))
  taken_by_state states.Fact is = (λ no. absurd no, λ taken. fact_stays model token (kept.states place token states.Fact named is) rejectable)
  taken_by_state states.Rejected is = (λ no. absurd no, λ taken. kept.rejected token (kept.states place token states.Rejected named is) taken)

-- ---- terms

module _ (model : Model) (Taken : TokenName → Type 0) where
  owned : (token owner : TokenName) → OwnerCounts model Taken token → token ≡ owner → IsRejectable model owner → Taken owner
  owned token owner counts same rejectable = subst Taken same (counts (subst (IsRejectable model) (sym same) rejectable))

  pub here_counts : (context : Context) (part : Part) → ContextCounts model Taken context ↔ TermCounts model Taken context (terms.Here part)
  here_counts InProblem part = (λ counts argument means. absurd means, λ counts. tt)
  here_counts (InRule token rule) part = (
    λ counts argument means. subst (ArgumentCounts model Taken) (sym means) (λ owner same. owned token owner counts same),
    λ counts rejectable. counts (Variable (name.Token token part)) refl token refl rejectable,
  )

  pub local_counts : (context : Context) (number : ℕ) → ContextCounts model Taken context ↔ TermCounts model Taken context (terms.Local number)
  local_counts InProblem number = (λ counts argument means. absurd means, λ counts. tt)
  local_counts (InRule token rule) number = (
    λ counts argument means. subst (ArgumentCounts model Taken) (sym means) (λ owner same. owned token owner counts same),
    λ counts rejectable. counts (Variable (name.Local token rule number)) refl token refl rejectable,
  )

  pub root_counts : (context : Context) (number : ℕ) (part : Part) → OwnerCounts model Taken (root_token number) ↔ TermCounts model Taken context (terms.Root number part)
  root_counts context number part = (
    λ counts argument means. subst (ArgumentCounts model Taken) (sym means) (λ owner same. owned (root_token number) owner counts same),
    λ counts rejectable. counts (Variable (name.Token (root_token number) part)) refl (root_token number) refl rejectable,
  )

pub iff_trans : {A B C : Type 0} → A ↔ B → B ↔ C → A ↔ C
iff_trans ab bc = (λ a. bc.0 (ab.0 a), λ c. ab.1 (bc.1 c))

-- one more of which it is so
pub all_more : {X : Type 0} (Is : X → Type 0) (xs : List X) (count : ℕ) (d : X) → count < length xs → All Is (take count xs) → Is (get_or xs count d) → All Is (take (count + 1) xs)
all_more Is xs count d below all is = subst (All Is) (sym (take_more xs count d below)) (All-push Is (take count xs) (get_or xs count d) all is)
