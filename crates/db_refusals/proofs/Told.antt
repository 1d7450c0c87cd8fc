-- What the states of tokens say of decisions.
use Rattle.std.proofs.Common.{◌≡◌, ℕ, ◌<◌, ◌≤◌, List, [], ◌∷◌, length, Bool, true, false, Some, inl, inr, ⊎_elim, refl, sym, subst, arith}
use Rattle.std.specs.Prelude.{All, Contains, ◌↔◌, IsTrue, MatchBool, map, slice_get}
use Rattle.std.proofs.lemmas.List.Elements.{All-head, All-map, All-tail, All-weaker}
use Rattle.domain_core.specs.Domain.{Domain}
use Rattle.eu_name.specs.declared.name.Part.{Part}
use Rattle.eu_name.specs.declared.name.TokenName.{TokenName}
use Rattle.eu_name.specs.declared.name.VarName.{VarName}
use Rattle.eu_name.specs.declared.name.VarName.TheVariants.{Token, Local}
use Rattle.model_core.specs.declared.decision.ConArg.{ConArg}
use Rattle.model_core.specs.declared.decision.ConArg.TheVariants.{Var, Value}
use Rattle.model_core.specs.declared.decision.Decision.{Decision}
use Rattle.model_core.specs.declared.model.Model.{Model}
use Rattle.model_core.specs.declared.view.TokenState.{TokenState}
use Rattle.model_core.specs.declared.view.TokenState.TheVariants.{Inactive, Active, Fact, Merged, Rejected}
use Rattle.model_core.specs.Decided.{IsTaken, IsActive, IsDecided}
use Rattle.model_core.specs.State.{State, Gives}
use Rattle.model_core.specs.Tokens.{IsFact, IsRejectable}
use Rattle.model_core.specs.TokenStates.{HasTokenState}
use Rattle.plan_defs.specs.Claims.{argument_of}
use Rattle.plan_defs.specs.Refusals.{IsArgumentKnown}
use Rattle.plan_defs.specs.Terms.{Argument, Counts}
use Rattle.plan_defs.proofs.Members.{all_from_get}
use Rattle.eu_name.proofs.Members.{contains_from_get, get_below}
use Rattle.eu_name.proofs.Ordered.{contains_cases, contains_none}
use Rattle.model_core.specs.Content.{shown}
use Rattle.db_posting.specs.Counting.{IsTakenState}
use Rattle.db_store.specs.Stores.{Snapshot, named_content}
use Rattle.plan_defs.specs.Unordered.{AreDecidedOnce, TakesPlace}
use Rattle.token_store.specs.Tokens.{TokenList, token_names}
use Rattle.db_refusals.specs.Judging.{IsKeptAs, AreTold}
use Rattle.db_refusals.specs.Typing.{HasArgument}

module _ (model : Model) (decisions : List Decision) (state : State) (token : TokenName) where
  -- what is kept as inactive isn't decided, and all else is
  pub inactive_undecided : HasTokenState model state decisions token Inactive → IsDecided model decisions token → ⊥
  inactive_undecided has = has

  pub other_decided : (kept : TokenState) → (kept ≡ Inactive → ⊥) → HasTokenState model state decisions token kept → IsDecided model decisions token
  other_decided Inactive apart has = absurd (apart (λ i. Inactive))
  other_decided Active apart has = inr (inl (inl has))
  other_decided Fact apart has = inl has
  other_decided (Merged place) apart has = inr (inl (inr (has.0, has.2)))
  other_decided Rejected apart has = inr (inr has)

  active_decided : IsActive model decisions token → IsDecided model decisions token
  active_decided (inl fact) = inl fact
  active_decided (inr activated) = inr (inl (inl activated))

  -- what takes place is active
  pub placed_active : (kept : TokenState) → HasTokenState model state decisions token kept → TakesPlace kept → IsActive model decisions token
  placed_active Inactive has takes = absurd takes
  placed_active Active has takes = inr has
  placed_active Fact has takes = inl has
  placed_active (Merged place) has takes = absurd takes
  placed_active Rejected has takes = absurd takes

  pub active_placed : AreDecidedOnce model decisions → (kept : TokenState) → HasTokenState model state decisions token kept → IsActive model decisions token → TakesPlace kept
  active_placed once Inactive has active = absurd (has (active_decided active))
  active_placed once Active has active = tt
  active_placed once Fact has active = tt
  active_placed once (Merged place) has active = absurd ((once token active).0 (has.0, has.2))
  active_placed once Rejected has active = absurd ((once token active).1 has)

  fact_kept : IsFact model token → IsRejectable model token → ⊥
  fact_kept fact may = let one = fact.1.1 in let other = may.1.1 in let kind = fact.1.2 in let kind' = may.1.2 in cc

  -- of a rejectable
  pub state_taken : (kept : TokenState) → HasTokenState model state decisions token kept → IsTakenState kept → IsTaken decisions token
  state_taken Inactive has taken = absurd taken
  state_taken Active has taken = inl has
  state_taken Fact has taken = absurd taken
  state_taken (Merged place) has taken = inr (has.0, has.2)
  state_taken Rejected has taken = absurd taken

  pub taken_state : IsRejectable model token → (kept : TokenState) → HasTokenState model state decisions token kept
      → (HasTokenState model state decisions token Rejected → IsTaken decisions token → ⊥) → IsTaken decisions token → IsTakenState kept
  taken_state may Inactive has apart taken = absurd (has (inr (inl taken)))
  taken_state may Active has apart taken = tt
  taken_state may Fact has apart taken = absurd (fact_kept has may)
  taken_state may (Merged place) has apart taken = tt
  taken_state may Rejected has apart taken = absurd (apart has taken)

module _ (model : Model) (decisions : List Decision) (snapshot : Snapshot) (told : AreTold model decisions snapshot) (token : TokenName) where
  -- the token is there, and in this state
  pub kept_there : (kept : TokenState) → IsKeptAs snapshot.tokens token kept → Contains (token_names snapshot.tokens) token
  kept_there kept is = contains_from_get (token_names snapshot.tokens) is.place token is.named

  pub kept_has : (kept : TokenState) → IsKeptAs snapshot.tokens token kept → HasTokenState model (shown (named_content snapshot)) decisions token kept
  kept_has kept is = told.states.states is.place token kept is.named is.kept

  pub kept_active : (kept : TokenState) → IsKeptAs snapshot.tokens token kept → TakesPlace kept → IsActive model decisions token
  kept_active kept is takes = placed_active model decisions (shown (named_content snapshot)) token kept (kept_has kept is) takes

  pub active_kept : (kept : TokenState) → IsKeptAs snapshot.tokens token kept → IsActive model decisions token → TakesPlace kept
  active_kept kept is active = active_placed model decisions (shown (named_content snapshot)) token told.once kept (kept_has kept is) active

  -- a rejectable counts where it is in a state of what is taken
  pub counts_when : (kept : TokenState) → IsKeptAs snapshot.tokens token kept → IsRejectable model token → (answer : Bool) → (IsTrue answer ↔ IsTakenState kept)
      → (IsTrue answer ↔ (IsRejectable model token → IsTaken decisions token))
  counts_when kept is may answer told_so = (
    λ yes_it may_it. state_taken model decisions (shown (named_content snapshot)) token kept (kept_has kept is) (told_so.0 yes_it),
    λ all. told_so.1 (taken_state model decisions (shown (named_content snapshot)) token may kept (kept_has kept is)
        (λ rejected taken. told.states.rejected token rejected taken) (all may)),
  )

  pub counts_nowhere : IsRejectable model token → {tokens : TokenList} → snapshot.tokens ≡ tokens → (Contains (token_names tokens) token → ⊥)
      → (IsTrue false ↔ (IsRejectable model token → IsTaken decisions token))
  counts_nowhere may same nowhere = (
    λ (e : IsTrue false). absurd (cc),
    λ all. absurd (nowhere (subst (λ (tokens : TokenList). Contains (token_names tokens) token) same (told.taken token (all may)))),
  )

-- a variable counts as its token does
owner_counts : (model : Model) (Taken : TokenName → Type 0) (owner : TokenName) (answer : Bool) → (IsTrue answer ↔ (IsRejectable model owner → Taken owner))
    → (IsTrue answer ↔ ((token : TokenName) → owner ≡ token → IsRejectable model token → Taken token))
owner_counts model Taken owner answer told = (
  λ yes_it token same may. subst Taken same (told.0 yes_it (subst (IsRejectable model) (sym same) may)),
  λ all. told.1 (λ may. all owner refl may),
)

pub part_counts : (model : Model) (Taken : TokenName → Type 0) (owner : TokenName) (part : Part) (answer : Bool) → (IsTrue answer ↔ (IsRejectable model owner → Taken owner))
    → (IsTrue answer ↔ Counts model Taken (Token owner part))
part_counts model Taken owner part answer told = owner_counts model Taken owner answer told

pub local_counts : (model : Model) (Taken : TokenName → Type 0) (owner : TokenName) (rule number : ℕ) (answer : Bool) → (IsTrue answer ↔ (IsRejectable model owner → Taken owner))
    → (IsTrue answer ↔ Counts model Taken (Local owner rule number))
local_counts model Taken owner rule number answer told = owner_counts model Taken owner answer told

-- an argument counts if it is a value, or a variable that does
module _ (P : Argument → Type 0) where
  each_of : (arguments : List ConArg) (argument : ConArg) → Contains arguments argument → All P (map argument_of arguments) → P (argument_of argument)
  each_of [] argument there all = absurd (contains_none argument there)
  each_of (first ∷ arguments) argument there all = ⊎_elim
      (λ (same : first ≡ argument). subst (λ (a : ConArg). P (argument_of a)) same (All-head P (argument_of first) (map argument_of arguments) all))
      (λ (later : Contains arguments argument). each_of arguments argument later (All-tail P (argument_of first) (map argument_of arguments) all))
      (contains_cases first argument arguments there)

  -- all of them do
  pub all_counted : (arguments : List ConArg) (index : ℕ) → length arguments ≤ index
      → ((place : ℕ) (argument : ConArg) → place < index → slice_get arguments place ≡ Some argument → P (argument_of argument)) → (IsTrue true ↔ All P (map argument_of arguments))
  all_counted arguments index past before = (
    λ yes. All-map P argument_of arguments (all_from_get (λ (a : ConArg). P (argument_of a)) arguments (λ place argument at.
        let below = get_below arguments place argument at in before place argument (omega (arith, below, past)) at)),
    λ all. refl,
  )

  -- or one doesn't
  pub one_uncounted : (arguments : List ConArg) (place : ℕ) (argument : ConArg) → slice_get arguments place ≡ Some argument → (P (argument_of argument) → ⊥)
      → (IsTrue false ↔ All P (map argument_of arguments))
  one_uncounted arguments place argument at not = (
    λ (e : IsTrue false). absurd (cc),
    λ all. absurd (not (each_of arguments argument (contains_from_get arguments place argument at) all)),
  )

-- the model has the variables that are there
pub arguments_had : (model : Model) (decisions : List Decision) (snapshot : Snapshot) → AreTold model decisions snapshot → (arguments : List ConArg)
    → All (IsArgumentKnown (shown (named_content snapshot))) arguments → All (HasArgument model) arguments
arguments_had model decisions snapshot told arguments known =
    All-weaker (IsArgumentKnown (shown (named_content snapshot))) (HasArgument model) had arguments known
  where
    had : (argument : ConArg) → IsArgumentKnown (shown (named_content snapshot)) argument → HasArgument model argument
    had (Var name) known = told.bases name known.0 known.1
    had (Value value) known = tt

-- a variable is there or isn't
pub variable_told : (state : State) (name : VarName) (answer : Bool) → MatchBool answer ((domain : Domain) × Gives state name domain) ((domain : Domain) → Gives state name domain → ⊥)
    → (IsTrue answer ↔ IsArgumentKnown state (Var name))
variable_told state name true gives = (λ yes. gives, λ known. refl)
variable_told state name false none = (λ (e : IsTrue false). absurd (cc), λ known. absurd (none known.0 known.1))

-- two things are so where the one is and the other is told
module _ (P Q : Type 0) (answer : Bool) where
  pub both_told : P → (IsTrue answer ↔ Q) → (IsTrue answer ↔ (P × Q))
  both_told first told = (λ yes. (first, told.0 yes), λ both. told.1 both.1)

  pub first_not : answer ≡ false → (IsTrue answer ↔ P) → (IsTrue answer ↔ (P × Q))
  first_not not told = (λ yes. absurd (let is : answer ≡ true = yes in cc), λ both. told.1 both.0)

-- an answer that says exactly whether it is so
pub isnt : {P : Type 0} → (IsTrue false ↔ P) → P → ⊥
isnt told is = let e = told.1 is in cc

pub is_so : {P : Type 0} → (IsTrue true ↔ P) → P
is_so told = told.0 refl
