-- Whether what is said of a token counts can be told, and so all that an admissible decision posts counts.
use Rattle.std.proofs.Common.{◌≡◌, inl, inr, ⊎_elim, List, [], ◌∷◌, Option, Some, None, refl, sym, ap, ◌∙◌, subst}
use Rattle.std.specs.Prelude.{All, Contains, map, slice_get}
use Rattle.std.proofs.lemmas.List.Elements.{All-nil, All-cons, All-contains}
use Rattle.eu_name.specs.declared.name.Part.{Part}
use Rattle.eu_name.specs.declared.name.Part.TheVariants.{Start, End}
use Rattle.eu_name.specs.declared.name.Step.{Step}
use Rattle.eu_name.specs.declared.name.TokenName.{TokenName}
use Rattle.eu_name.specs.declared.name.VarName.TheVariants as variables
use Rattle.eu_name.proofs.Ordered.{contains_head, contains_later, contains_cases, contains_none}
use Rattle.model_core.specs.declared.decision.Decision.{Decision}
use Rattle.model_core.specs.declared.decision.Decision.TheVariants.{Specify, Activate, Merge, Reject, Order, Constrain, Relate}
use Rattle.model_core.specs.declared.item.Rel.{Rel}
use Rattle.model_core.specs.declared.item.Rel.TheVariants as rel
use Rattle.model_core.specs.declared.model.Model.{Model}
use Rattle.model_core.specs.declared.model.Root.{Root}
use Rattle.model_core.specs.declared.model.RootKind.{RootKind}
use Rattle.model_core.specs.declared.model.RootKind.TheVariants.{Goal, Rejectable, Fact}
use Rattle.model_core.specs.Decided.{IsTaken}
use Rattle.model_core.specs.Tokens.{IsRejectable}
use Rattle.plan_defs.specs.Claims.{Claim, Posts, argument_of, part_of, at_most, equal, relates}
use Rattle.plan_defs.specs.Refusals.{NeedsActive}
use Rattle.plan_defs.specs.Terms.{Argument, Value, Variable, ArgumentCounts, TokenCounts}
use Rattle.plan_defs.proofs.Knowing.{IsOrNot, all_or_not, both_or_not, same_token}

-- ---- what can be told

-- what isn't impossible is so, where it can be told
pub not_impossible : {P : Type 0} → IsOrNot P → ((P → ⊥) → ⊥) → P
not_impossible (inl is) possible = is
not_impossible (inr not) possible = absurd (possible not)

pub rejectable_or_not : (model : Model) (token : TokenName) → IsOrNot (IsRejectable model token)
rejectable_or_not model token = by_steps token.steps refl
  where
    by_root : token.steps ≡ [] → (found : Option Root) → slice_get model.problem.roots token.root ≡ found → IsOrNot (IsRejectable model token)
    by_root none None e = inr (λ may. no_root may.1.0 (sym e ∙ may.1.1))
      where
        no_root : (root : Root) → None ≡ Some root → ⊥
        no_root root same = cc
    by_root none (Some root) e = by_kind root.kind refl
      where
        same_root : (a b : Root) → Some a ≡ Some b → a ≡ b
        same_root a b same = cc

        by_kind : (kind : RootKind) → root.kind ≡ kind → IsOrNot (IsRejectable model token)
        by_kind Rejectable is = inl (none, (root, e, is))
        by_kind Goal is = inr (λ may.
            let kinds : Goal ≡ Rejectable = sym is ∙ ap (λ (r : Root). r.kind) (same_root root may.1.0 (sym e ∙ may.1.1)) ∙ may.1.2 in absurd (cc))
        by_kind Fact is = inr (λ may.
            let kinds : Fact ≡ Rejectable = sym is ∙ ap (λ (r : Root). r.kind) (same_root root may.1.0 (sym e ∙ may.1.1)) ∙ may.1.2 in absurd (cc))

    by_steps : (steps : List Step) → token.steps ≡ steps → IsOrNot (IsRejectable model token)
    by_steps [] none = by_root none (slice_get model.problem.roots token.root) refl
    by_steps (step ∷ steps) some = inr (λ may. no_step step steps (sym some ∙ may.0))
      where
        no_step : (step : Step) (steps : List Step) → step ∷ steps ≡ [] → ⊥
        no_step step steps same = cc

-- the decision takes the token
abbrev Takes : TokenName → Decision → Type 0
Takes token (Activate other) = other ≡ token
Takes token (Merge other target) = other ≡ token
Takes token decision = ⊥

takes_or_not : (token : TokenName) (decision : Decision) → IsOrNot (Takes token decision)
takes_or_not token (Specify name value) = inr (λ is. is)
takes_or_not token (Activate other) = same_token other token
takes_or_not token (Merge other target) = same_token other token
takes_or_not token (Reject other) = inr (λ is. is)
takes_or_not token (Order one other) = inr (λ is. is)
takes_or_not token (Constrain kind arguments) = inr (λ is. is)
takes_or_not token (Relate relation one other) = inr (λ is. is)

taken_by : (decisions : List Decision) (token : TokenName) (decision : Decision) → Contains decisions decision → Takes token decision → IsTaken decisions token
taken_by decisions token (Specify name value) there is = absurd is
taken_by decisions token (Activate other) there is = inl (subst (λ (t : TokenName). Contains decisions (Activate t)) is there)
taken_by decisions token (Merge other target) there is = inr (target, subst (λ (t : TokenName). Contains decisions (Merge t target)) is there)
taken_by decisions token (Reject other) there is = absurd is
taken_by decisions token (Order one other) there is = absurd is
taken_by decisions token (Constrain kind arguments) there is = absurd is
taken_by decisions token (Relate relation one other) there is = absurd is

some_takes : (decisions : List Decision) (token : TokenName) → IsTaken decisions token → (decision : Decision) × Contains decisions decision × Takes token decision
some_takes decisions token (inl activated) = (Activate token, activated, refl)
some_takes decisions token (inr merged) = (Merge token merged.0, merged.1, refl)

any_takes_or_not : (token : TokenName) (decisions : List Decision) → IsOrNot ((decision : Decision) × Contains decisions decision × Takes token decision)
any_takes_or_not token [] = inr (λ found. contains_none found.0 found.1)
any_takes_or_not token (first ∷ decisions) = elim (takes_or_not token first) [
  | inl is ↦ inl (first, contains_head first decisions, is)
  | inr not ↦ elim (any_takes_or_not token decisions) [
    | inl later ↦ inl (later.0, contains_later first later.0 decisions later.1, later.2)
    | inr none ↦ inr (λ found. ⊎_elim (λ same. not (subst (Takes token) (sym same) found.2)) (λ later. none (found.0, later, found.2))
        (contains_cases first found.0 decisions found.1))
  ]
]

pub taken_or_not : (decisions : List Decision) (token : TokenName) → IsOrNot (IsTaken decisions token)
taken_or_not decisions token = elim (any_takes_or_not token decisions) [
  | inl found ↦ inl (taken_by decisions token found.0 found.1 found.2)
  | inr none ↦ inr (λ taken. none (some_takes decisions token taken))
]

-- ---- what counts

pub token_counts_or_not : (model : Model) (decisions : List Decision) (token : TokenName) → IsOrNot (TokenCounts model (IsTaken decisions) token)
token_counts_or_not model decisions token = elim (rejectable_or_not model token) [
  | inr not ↦ inl (λ rejectable. absurd (not rejectable))
  | inl rejectable ↦ elim (taken_or_not decisions token) [
    | inl taken ↦ inl (λ also. taken)
    | inr idle ↦ inr (λ counts. idle (counts rejectable))
  ]
]

-- what is said of a part of the token counts where what is said of the token does
pub part_counts : (model : Model) (decisions : List Decision) (token : TokenName) → TokenCounts model (IsTaken decisions) token → (part : Part)
    → ArgumentCounts model (IsTaken decisions) (part_of token part)
part_counts model decisions token counts part = λ other belongs rejectable.
    subst (IsTaken decisions) belongs (counts (subst (IsRejectable model) (sym belongs) rejectable))

counts_or_not : (model : Model) (decisions : List Decision) (argument : Argument) → IsOrNot (ArgumentCounts model (IsTaken decisions) argument)
counts_or_not model decisions (Value value) = inl tt
counts_or_not model decisions (Variable (variables.Global number)) = inl (λ token belongs rejectable. absurd belongs)
counts_or_not model decisions (Variable (variables.Token owner part)) = elim (token_counts_or_not model decisions owner) [
  | inl counts ↦ inl (part_counts model decisions owner counts part)
  | inr not ↦ inr (λ counts. not (counts owner refl))
]
counts_or_not model decisions (Variable (variables.Local owner rule number)) = elim (token_counts_or_not model decisions owner) [
  | inl counts ↦ inl (λ other belongs rejectable. subst (IsTaken decisions) belongs (counts (subst (IsRejectable model) (sym belongs) rejectable)))
  | inr not ↦ inr (λ counts. not (counts owner refl))
]

-- ---- relations

module _ (P : Argument → Type 0) (one other : TokenName) (of_one : (part : Part) → P (part_of one part)) (of_other : (part : Part) → P (part_of other part)) where
  abbrev AllOf : Claim → Type 0
  AllOf claim = All P claim.arguments

  two : (a b : Argument) → P a → P b → All P (a ∷ b ∷ [])
  two a b first second = All-cons P a (b ∷ []) first (All-cons P b [] second (All-nil P))

  alone : (claim : Claim) → AllOf claim → All AllOf (claim ∷ [])
  alone claim is = All-cons AllOf claim [] is (All-nil AllOf)

  both : (claim next : Claim) → AllOf claim → AllOf next → All AllOf (claim ∷ next ∷ [])
  both claim next is also = All-cons AllOf claim (next ∷ []) is (alone next also)

  up : (p q : Part) → All P (part_of one p ∷ part_of other q ∷ [])
  up p q = two (part_of one p) (part_of other q) (of_one p) (of_other q)

  down : (p q : Part) → All P (part_of other p ∷ part_of one q ∷ [])
  down p q = two (part_of other p) (part_of one q) (of_other p) (of_one q)

  each : (relation : Rel) → All AllOf (relates relation one other)
  each rel.Any = All-nil AllOf
  each rel.Before = alone (at_most (part_of one End) (part_of other Start)) (up End Start)
  each rel.After = alone (at_most (part_of other End) (part_of one Start)) (down End Start)
  each rel.Meets = alone (equal (part_of one End) (part_of other Start)) (up End Start)
  each rel.MetBy = alone (equal (part_of other End) (part_of one Start)) (down End Start)
  each rel.Equals = both (equal (part_of one Start) (part_of other Start)) (equal (part_of one End) (part_of other End)) (up Start Start) (up End End)
  each rel.Contains = both (at_most (part_of one Start) (part_of other Start)) (at_most (part_of other End) (part_of one End)) (up Start Start) (down End End)
  each rel.ContainedBy = both (at_most (part_of other Start) (part_of one Start)) (at_most (part_of one End) (part_of other End)) (down Start Start) (up End End)
  each rel.Starts = alone (equal (part_of one Start) (part_of other Start)) (up Start Start)
  each rel.Ends = alone (equal (part_of one End) (part_of other End)) (up End End)
  each rel.Parallels = both (at_most (part_of one Start) (part_of other Start)) (at_most (part_of one End) (part_of other End)) (up Start Start) (up End End)
  each rel.ParalleledBy = both (at_most (part_of other Start) (part_of one Start)) (at_most (part_of other End) (part_of one End)) (down Start Start) (down End End)
  each rel.StartsDuring = both (at_most (part_of other Start) (part_of one Start)) (at_most (part_of one Start) (part_of other End)) (down Start Start) (up Start End)
  each rel.ContainsStart = both (at_most (part_of one Start) (part_of other Start)) (at_most (part_of other Start) (part_of one End)) (up Start Start) (down Start End)
  each rel.EndsDuring = both (at_most (part_of other Start) (part_of one End)) (at_most (part_of one End) (part_of other End)) (down Start End) (up End End)
  each rel.ContainsEnd = both (at_most (part_of one Start) (part_of other End)) (at_most (part_of other End) (part_of one End)) (up Start End) (down End End)

  -- each claim of a relation names parts of the two tokens alone
  pub relates_all : (relation : Rel) (claim : Claim) → Contains (relates relation one other) claim → All P claim.arguments
  relates_all relation claim there = All-contains AllOf (relates relation one other) claim (each relation) there

-- ---- what is posted

-- all that a decision posts counts where nothing would have to be active that isn't
pub postings_count : (model : Model) (decisions : List Decision) (decision : Decision) (claim : Claim) → (NeedsActive model decisions decision → ⊥) → Posts decision claim
    → All (ArgumentCounts model (IsTaken decisions)) claim.arguments
postings_count model decisions (Specify name value) claim free posts = absurd posts
postings_count model decisions (Activate token) claim free posts = absurd posts
postings_count model decisions (Merge token target) claim free posts = absurd posts
postings_count model decisions (Reject token) claim free posts = absurd posts
postings_count model decisions (Order one other) claim free posts = absurd posts
postings_count model decisions (Constrain kind arguments) claim free posts =
    subst (λ (c : Claim). All (ArgumentCounts model (IsTaken decisions)) c.arguments) (sym posts)
    (not_impossible (all_or_not (ArgumentCounts model (IsTaken decisions)) (counts_or_not model decisions) (map argument_of arguments)) free)
postings_count model decisions (Relate relation one other) claim free posts =
    let both = not_impossible (both_or_not _ _ (token_counts_or_not model decisions one) (token_counts_or_not model decisions other)) free in
    relates_all (ArgumentCounts model (IsTaken decisions)) one other (part_counts model decisions one both.0) (part_counts model decisions other both.1) relation claim posts
