-- What items say is true where their terms have values of which it holds.
use Rattle.std.proofs.Common.{◌≡◌, Bool, ℤ, List, [], ◌∷◌, ◌++◌, map, Option, Some, None, inl, inr, refl, sym, subst}
use Rattle.std.specs.Prelude.{MatchBool, All, Contains, option_to_list}
use Rattle.std.specs.List.{AllZip}
use Rattle.std.proofs.lemmas.List.Elements.{All-nil, All-cons, All-head, All-tail}
use Rattle.eu_name.specs.declared.name.TokenName.{TokenName}
use Rattle.model_core.specs.declared.item.Item.TheVariants.{Constraint}
use Rattle.domain_core.specs.declared.kind.Kind.{Kind}
use Rattle.model_core.specs.declared.item.Rel.{Rel}
use Rattle.model_core.specs.declared.item.Term.{Term}
use Rattle.model_core.specs.declared.model.Model.{Model}
use Rattle.plan_defs.specs.declared.plan.Plan.{Plan}
use Rattle.plan_defs.specs.Claims.{Claim, relates}
use Rattle.plan_defs.specs.Plans.{IsTakenIn}
use Rattle.plan_defs.specs.Terms.{Context, Argument, Means, ArgumentCounts}
use Rattle.plan_defs.specs.Valid.{HasArgumentValue, IsClaimTrue}
use Rattle.eu_name.proofs.Ordered.{contains_head, contains_later, contains_cases, contains_none}
use Rattle.plan_values.specs.declared.claims.Statement.{Statement}
use Rattle.plan_values.specs.Meanings.{CountsAt, HasTermValue}
use Rattle.plan_values.specs.Truths.{AreTrueOf, IsTrueWhere, IsStatedTrue, statement_claim, edge_argument}
use Rattle.plan_values.proofs.Matching.{match_bool}
use Rattle.plan_defs.proofs.Meanings.{means_once}

module _ (model : Model) (plan : Plan) (context : Context) where
  -- ---- what terms mean, and their values

  values_in : (compared : List Term) (arguments : List Argument) (values : List ℤ) → AllZip (Means context) compared arguments
      → AllZip (HasTermValue plan context) compared values → AllZip (HasArgumentValue plan) arguments values
  values_in [] [] [] means have = tt
  values_in [] (a ∷ arguments) values means have = absurd means
  values_in [] [] (v ∷ values) means have = absurd have
  values_in (x ∷ compared) [] values means have = absurd means
  values_in (x ∷ compared) (a ∷ arguments) [] means have = absurd have
  values_in (x ∷ compared) (a ∷ arguments) (v ∷ values) means have = (
    subst (λ (b : Argument). HasArgumentValue plan b v) (means_once context x have.0.0 a have.0.1 means.0) have.0.2,
    values_in compared arguments values means.1 have.1,
  )

  values_back : (compared : List Term) (arguments : List Argument) (values : List ℤ) → AllZip (Means context) compared arguments
      → AllZip (HasArgumentValue plan) arguments values → AllZip (HasTermValue plan context) compared values
  values_back [] [] [] means have = tt
  values_back [] (a ∷ arguments) values means have = absurd means
  values_back [] [] (v ∷ values) means have = absurd have
  values_back (x ∷ compared) [] values means have = absurd means
  values_back (x ∷ compared) (a ∷ arguments) [] means have = absurd have
  values_back (x ∷ compared) (a ∷ arguments) (v ∷ values) means have = ((a, means.0, have.0), values_back compared arguments values means.1 have.1)

  pub claim_true : (claim : Claim) (compared : List Term) → AllZip (Means context) compared claim.arguments → AreTrueOf model plan context claim.kind compared → IsClaimTrue model plan claim
  claim_true claim compared means are = record { values = are.0; have = values_in compared claim.arguments are.0 means are.1; holds = are.2 }

  pub true_claim : (claim : Claim) (compared : List Term) → AllZip (Means context) compared claim.arguments → IsClaimTrue model plan claim → AreTrueOf model plan context claim.kind compared
  true_claim claim compared means is = (is.values, values_back compared claim.arguments is.values means is.have, is.holds)

  -- ---- constraints

  -- what the terms mean, where all of them count
  abbrev Counted : List Term → Type 0
  Counted compared = (arguments : List Argument) × AllZip (Means context) compared arguments × All (ArgumentCounts model (IsTakenIn plan)) arguments

  counted : (compared : List Term) → All (CountsAt model plan context) compared → Counted compared
  counted [] all = ([], tt, All-nil (ArgumentCounts model (IsTakenIn plan)))
  counted (x ∷ compared) all =
      let first = All-head (CountsAt model plan context) x compared all in
      let rest = counted compared (All-tail (CountsAt model plan context) x compared all) in (
        first.0 ∷ rest.0,
        (first.1, rest.1),
        All-cons (ArgumentCounts model (IsTakenIn plan)) first.0 rest.0 first.2 rest.2,
      )

  all_counted : (compared : List Term) (arguments : List Argument) → AllZip (Means context) compared arguments → All (ArgumentCounts model (IsTakenIn plan)) arguments
      → All (CountsAt model plan context) compared
  all_counted [] [] means counts = All-nil (CountsAt model plan context)
  all_counted [] (a ∷ arguments) means counts = absurd means
  all_counted (x ∷ compared) [] means counts = absurd means
  all_counted (x ∷ compared) (a ∷ arguments) means counts =
      All-cons (CountsAt model plan context) x compared
      (a, means.0, All-head (ArgumentCounts model (IsTakenIn plan)) a arguments counts)
      (all_counted compared arguments means.1 (All-tail (ArgumentCounts model (IsTakenIn plan)) a arguments counts))

  module _ (kind : Kind) (compared : List Term) where
    -- where not all count, nothing is said
    pub nothing_said : (All (CountsAt model plan context) compared → ⊥) → IsTrueWhere model plan context (Constraint kind compared)
    nothing_said none claim says = absurd (none (all_counted compared claim.arguments says.means says.counts))

    constraint_said : AreTrueOf model plan context kind compared → IsTrueWhere model plan context (Constraint kind compared)
    constraint_said are claim says =
        claim_true claim compared says.means (subst (λ (k : Kind). AreTrueOf model plan context k compared) (sym says.is_kind) are)

    constraint_says : All (CountsAt model plan context) compared → IsTrueWhere model plan context (Constraint kind compared) → AreTrueOf model plan context kind compared
    constraint_says all holds =
        let meant = counted compared all in
        let claim : Claim = record { kind = kind; arguments = meant.0 } in
        true_claim claim compared meant.1 (holds claim (record { is_kind = refl; means = meant.1; counts = meant.2 }))

    pub constraint_answer : (answer : Bool) → All (CountsAt model plan context) compared
        → MatchBool answer (AreTrueOf model plan context kind compared) (AreTrueOf model plan context kind compared → ⊥)
        → MatchBool answer (IsTrueWhere model plan context (Constraint kind compared)) (IsTrueWhere model plan context (Constraint kind compared) → ⊥)
    constraint_answer answer all is = match_bool answer _ _ _ _ constraint_said (λ fails holds. fails (constraint_says all holds)) is

-- ---- relations

module _ (model : Model) (plan : Plan) (token asked : TokenName) where
  -- what a statement says of two terms that mean its edges
  pub statement_answer : (context : Context) (statement : Statement) (x y : Term) (answer : Bool)
      → Means context x (edge_argument token asked statement.one) → Means context y (edge_argument token asked statement.other)
      → MatchBool answer (AreTrueOf model plan context statement.kind (x ∷ y ∷ [])) (AreTrueOf model plan context statement.kind (x ∷ y ∷ []) → ⊥)
      → MatchBool answer (IsStatedTrue model plan token asked (Some statement)) (IsStatedTrue model plan token asked (Some statement) → ⊥)
  statement_answer context statement x y answer means means' is =
      let claim = statement_claim token asked statement in
      match_bool answer _ _ _ _
      (λ are. claim_true model plan context claim (x ∷ y ∷ []) (means, (means', tt)) are)
      (λ fails holds. fails (true_claim model plan context claim (x ∷ y ∷ []) (means, (means', tt)) holds)) is

  abbrev AllTrue : List Claim → Type 0
  AllTrue claims = (claim : Claim) → Contains claims claim → IsClaimTrue model plan claim

  abbrev stated : Option Statement → Option Statement → List Claim
  stated first second = map (statement_claim token asked) (option_to_list first ++ option_to_list second)

  both_true : (first second : Option Statement) → IsStatedTrue model plan token asked first → IsStatedTrue model plan token asked second → AllTrue (stated first second)
  both_true None None p q claim c = absurd (contains_none claim c)
  both_true None (Some s) p q claim c = elim (contains_cases (statement_claim token asked s) claim [] c) [
    | inl same ↦ subst (IsClaimTrue model plan) same q
    | inr none ↦ absurd (contains_none claim none)
  ]
  both_true (Some s) None p q claim c = elim (contains_cases (statement_claim token asked s) claim [] c) [
    | inl same ↦ subst (IsClaimTrue model plan) same p
    | inr none ↦ absurd (contains_none claim none)
  ]
  both_true (Some s) (Some t) p q claim c = elim (contains_cases (statement_claim token asked s) claim (statement_claim token asked t ∷ []) c) [
    | inl same ↦ subst (IsClaimTrue model plan) same p
    | inr later ↦ elim (contains_cases (statement_claim token asked t) claim [] later) [
      | inl same ↦ subst (IsClaimTrue model plan) same q
      | inr none ↦ absurd (contains_none claim none)
    ]
  ]

  first_true : (first second : Option Statement) → AllTrue (stated first second) → IsStatedTrue model plan token asked first
  first_true None second all = tt
  first_true (Some s) second all = all (statement_claim token asked s) (contains_head (statement_claim token asked s) (map (statement_claim token asked) (option_to_list second)))

  second_true : (first second : Option Statement) → AllTrue (stated first second) → IsStatedTrue model plan token asked second
  second_true first None all = tt
  second_true None (Some t) all = all (statement_claim token asked t) (contains_head (statement_claim token asked t) [])
  second_true (Some s) (Some t) all =
      all (statement_claim token asked t) (contains_later (statement_claim token asked s) (statement_claim token asked t) (statement_claim token asked t ∷ []) (contains_head (statement_claim token asked t) []))

  module _ (rel : Rel) (first second : Option Statement) (are : stated first second ≡ relates rel token asked) where
    pub relation_second : (answer : Bool) → IsStatedTrue model plan token asked first
        → MatchBool answer (IsStatedTrue model plan token asked second) (IsStatedTrue model plan token asked second → ⊥)
        → MatchBool answer (AllTrue (relates rel token asked)) (AllTrue (relates rel token asked) → ⊥)
    relation_second answer p is = match_bool answer _ _ _ _
        (λ q. subst AllTrue are (both_true first second p q))
        (λ fails all. fails (second_true first second (subst AllTrue (sym are) all))) is

    pub relation_first : (IsStatedTrue model plan token asked first → ⊥) → AllTrue (relates rel token asked) → ⊥
    relation_first fails all = fails (first_true first second (subst AllTrue (sym are) all))
