-- The plan of a state without a flaw agrees with the decisions.
use Rattle.std.proofs.Common.{◌≡◌, ℤ, true, false, List, [], ◌∷◌, inl, inr, refl, sym, subst}
use Rattle.std.specs.Prelude.{All, Contains, map}
use Rattle.std.proofs.lemmas.List.Elements.{All-weaker, All-head, All-tail}
use Rattle.domain_core.specs.declared.kind.Kind.{Kind}
use Rattle.domain_core.specs.declared.kind.Kind.TheVariants.{Eq, Neq, Lt, Leq, AddEq, MulEq, TestEq, TestLeq, AllDiff, Field}
use Rattle.eu_name.specs.declared.name.Part.TheVariants.{Start, End}
use Rattle.eu_name.specs.declared.name.TokenName.{TokenName}
use Rattle.eu_name.specs.declared.name.VarName.{VarName}
use Rattle.model_core.specs.declared.decision.ConArg.{ConArg}
use Rattle.model_core.specs.declared.decision.Decision.{Decision}
use Rattle.model_core.specs.declared.decision.Decision.TheVariants.{Specify, Activate, Merge, Reject, Order, Constrain, Relate}
use Rattle.model_core.specs.declared.item.Rel.{Rel}
use Rattle.model_core.specs.declared.model.Model.{Model}
use Rattle.model_core.specs.Arguments.{IsOfType, Takes}
use Rattle.model_core.specs.Decided.{IsTaken, IsRejected}
use Rattle.model_core.specs.State.{State}
use Rattle.model_core.specs.Tokens.{IsRejectable}
use Rattle.plan_defs.specs.declared.plan.Line.TheVariants as lines
use Rattle.plan_defs.specs.declared.plan.Plan.{Plan}
use Rattle.plan_defs.specs.Broken.{IsTrueIn, AgreesWith}
use Rattle.plan_defs.specs.Claims.{Claim, IsOfPosting, Posts, argument_of, posted_claim, at_most, part_of, relates}
use Rattle.plan_defs.specs.Plans.{HasValues}
use Rattle.model_core.specs.declared.refusal.Refusal.TheVariants.{WrongType, NotActive, NotRejectable}
use Rattle.plan_defs.specs.Terms.{Argument, Value, Variable, Counts, ArgumentCounts}
use Rattle.plan_defs.specs.Valid.{IsClaimTrue}
use Rattle.plan_defs.specs.Flaws.{IsOfRejectedToken}
use Rattle.plan_defs.proofs.Admitting.{admitted}
use Rattle.plan_defs.proofs.Counting.{postings_count}
use Rattle.plan_defs.proofs.Deciding.{decides_once}
use Rattle.plan_defs.proofs.Lower.{counts_further}
use Rattle.law_states.specs.Soundness.{IsFlawlessPlan}
use Rattle.law_states.proofs.Deciding.{Becoming, IsAFact, IsActivatedOne, IsMergedOne, IsRejectedOne}
use Rattle.law_states.proofs.Having.{IsKeptArgument, AreKept, becomes_of, takes_line, active_line, target_active, gives_value, claim_true, active_before, active_not_rejected}
use Rattle.law_states.proofs.Relating.{of_two}

module _ (model : Model) (decisions : List Decision) (state : State) (plan : Plan) (is : IsFlawlessPlan model decisions state plan) where
  taken_before : (front : List Decision) (token : TokenName) → ((other : Decision) → Contains front other → Contains decisions other) → IsTaken front token → IsTaken decisions token
  taken_before front token before (inl activated) = inl (before (Activate token) activated)
  taken_before front token before (inr merged) = inr (merged.0, before (Merge token merged.0) merged.1)

  pub taken_not_rejected : (token : TokenName) → IsTaken decisions token → IsRejected decisions token → ⊥
  taken_not_rejected token (inl activated) rejected =
      let e : Activate token ≡ Reject token = (decides_once model decisions is.settled.settled).one token (Activate token) (Reject token) activated rejected refl refl in cc
  taken_not_rejected token (inr merged) rejected =
      let e : Merge token merged.0 ≡ Reject token = (decides_once model decisions is.settled.settled).one token (Merge token merged.0) (Reject token) merged.1 rejected refl refl in cc

  -- what is rejected is surely rejectable
  pub surely_rejectable : (token : TokenName) → IsRejected decisions token → (IsRejectable model token → ⊥) → ⊥
  surely_rejectable token rejected not = (admitted model decisions (Reject token) is.settled.settled rejected).admissible.free NotRejectable not

  -- a specified variable is of no rejected token
  specified_kept : (name : VarName) (value : ℤ) → Contains decisions (Specify name value) → IsOfRejectedToken decisions name → ⊥
  specified_kept name value there rejected =
      let found = admitted model decisions (Specify name value) is.settled.settled there in
      surely_rejectable rejected.0 rejected.2 (λ rejectable.
      found.admissible.free NotActive (λ (counts : Counts model (IsTaken found.front) name).
      taken_not_rejected rejected.0 (taken_before found.front rejected.0 found.before (counts rejected.0 rejected.1 rejectable)) rejected.2))

  order_kept : (one other : TokenName) → Contains decisions (Order one other) → (IsRejected decisions one → ⊥) × (IsRejected decisions other → ⊥)
  order_kept one other there =
      let found = admitted model decisions (Order one other) is.settled.settled there in (
        λ rejected. found.admissible.free NotActive (inl (λ active. active_not_rejected model decisions state plan is one (active_before model decisions state plan is found.front one found.before active) rejected)),
        λ rejected. found.admissible.free NotActive (inr (λ active. active_not_rejected model decisions state plan is other (active_before model decisions state plan is found.front other found.before active) rejected)),
      )

  -- ---- what counts is of no rejected token

  pub counted_kept : (argument : Argument) → ArgumentCounts model (IsTaken decisions) argument → IsKeptArgument model decisions state plan is argument
  counted_kept (Value value) counts = tt
  counted_kept (Variable name) counts = λ rejected.
      surely_rejectable rejected.0 rejected.2 (λ rejectable.
      taken_not_rejected rejected.0 (counts rejected.0 rejected.1 rejectable) rejected.2)

  pub all_kept : (arguments : List Argument) → All (ArgumentCounts model (IsTaken decisions)) arguments → AreKept model decisions state plan is arguments
  all_kept [] counts = tt
  all_kept (argument ∷ arguments) counts = (
    counted_kept argument (All-head (ArgumentCounts model (IsTaken decisions)) argument arguments counts),
    all_kept arguments (All-tail (ArgumentCounts model (IsTaken decisions)) argument arguments counts),
  )

  -- ---- what is posted

  -- each decision of the list posts what counts
  posting : (decision : Decision) (claim : Claim) → Contains decisions decision → Posts decision claim → IsOfPosting model decisions claim
  posting decision claim there posts =
      let found = admitted model decisions decision is.settled.settled there in
      let counts = postings_count model found.front decision claim (found.admissible.free NotActive) posts in
      record {
        decision = decision;
        stands = there;
        posts = posts;
        counts = All-weaker (ArgumentCounts model (IsTaken found.front)) (ArgumentCounts model (IsTaken decisions))
            (counts_further model (IsTaken found.front) (IsTaken decisions) (λ token taken. taken_before found.front token found.before taken)) claim.arguments counts;
      }

  posted_true : (decision : Decision) (claim : Claim) (argument : Argument) (arguments : List Argument) → claim.arguments ≡ argument ∷ arguments
      → Contains decisions decision → Posts decision claim → IsClaimTrue model plan claim
  posted_true decision claim argument arguments some there posts =
      let is_posted = posting decision claim there posts in
      claim_true model decisions state plan is claim argument arguments some (all_kept claim.arguments is_posted.counts)
      (is.settled.consistent.claims claim (inr (inr (inr (inr (inr is_posted))))))

  -- no constraint takes no argument
  takes_some : (kind : Kind) → Takes (IsOfType model) kind [] → ⊥
  takes_some Eq takes = takes
  takes_some Neq takes = takes
  takes_some Lt takes = takes
  takes_some Leq takes = takes
  takes_some AddEq takes = takes
  takes_some MulEq takes = takes
  takes_some TestEq takes = takes
  takes_some TestLeq takes = takes
  takes_some (Field number) takes = takes
  takes_some AllDiff takes = takes

  constraint_true : (kind : Kind) (arguments : List ConArg) → Contains decisions (Constrain kind arguments) → IsClaimTrue model plan (posted_claim kind arguments)
  constraint_true kind [] there =
      absurd ((admitted model decisions (Constrain kind []) is.settled.settled there).admissible.free WrongType (takes_some kind))
  constraint_true kind (argument ∷ arguments) there =
      posted_true (Constrain kind (argument ∷ arguments)) (posted_claim kind (argument ∷ arguments)) (argument_of argument) (map argument_of arguments) refl there refl

  relation_true : (relation : Rel) (one other : TokenName) → Contains decisions (Relate relation one other) → (claim : Claim) → Contains (relates relation one other) claim
      → IsClaimTrue model plan claim
  relation_true relation one other there claim says =
      let two = of_two relation one other claim says in
      elim two.are [
        | inl forth ↦ posted_true (Relate relation one other) claim (part_of one two.one) (part_of other two.other ∷ []) forth there says
        | inr back ↦ posted_true (Relate relation one other) claim (part_of other two.other) (part_of one two.one ∷ []) back there says
      ]

  -- neither token of a relation is rejected
  relation_kept : (relation : Rel) (one other : TokenName) → Contains decisions (Relate relation one other)
      → (IsRejected decisions one → ⊥) × (IsRejected decisions other → ⊥)
  relation_kept relation one other there =
      let found = admitted model decisions (Relate relation one other) is.settled.settled there in (
        λ rejected. surely_rejectable one rejected (λ rejectable. found.admissible.free NotActive (λ counting.
            taken_not_rejected one (taken_before found.front one found.before (counting.0 rejectable)) rejected)),
        λ rejected. surely_rejectable other rejected (λ rejectable. found.admissible.free NotActive (λ counting.
            taken_not_rejected other (taken_before found.front other found.before (counting.1 rejectable)) rejected)),
      )

  -- a token that isn't rejected has values
  has_values : (token : TokenName) → Contains state.tokens token → (IsRejected decisions token → ⊥) → HasValues plan token
  has_values token there kept = by (becomes_of model decisions state plan is token there)
    where
      by : Becoming model decisions token → HasValues plan token
      by (IsAFact fact) = let line = takes_line model decisions state plan is true token there fact in inl (line.0, (true, line.1))
      by (IsActivatedOne activated) = let line = takes_line model decisions state plan is false token there activated in inl (line.0, (false, line.1))
      by (IsMergedOne target merged) =
          let target_there = (is.founded.known (Merge token target) merged).1 in
          let line = active_line model decisions state plan is target target_there (target_active model decisions state plan is token target merged) in
          inr (target, (is.is_plan.lines (lines.Merged token target)).1 (there, merged), (line.0, line.1))
      by (IsRejectedOne rejected) = absurd (kept rejected)

  -- ---- the decisions

  true_in : (decision : Decision) → Contains decisions decision → IsTrueIn model plan decision
  true_in (Specify name value) there =
      let known = is.founded.known (Specify name value) there in
      let single = is.settled.consistent.respected (Specify name value) there known.0 known.1 in
      gives_value model decisions state plan is name value (known.0, known.1, single) (specified_kept name value there)
  true_in (Activate token) there =
      let line = takes_line model decisions state plan is false token (is.founded.known (Activate token) there) there in (line.0, line.1)
  true_in (Merge token target) there = (is.is_plan.lines (lines.Merged token target)).1 ((is.founded.known (Merge token target) there).0, there)
  true_in (Reject token) there = (is.is_plan.lines (lines.Rejected token)).1 (is.founded.known (Reject token) there, there)
  true_in (Order one other) there =
      let kept = order_kept one other there in
      claim_true model decisions state plan is (at_most (part_of one End) (part_of other Start)) (part_of one End) (part_of other Start ∷ []) refl
      ((λ rejected. kept.0 (subst (λ t. IsRejected decisions t) (sym rejected.1) rejected.2)), ((λ rejected. kept.1 (subst (λ t. IsRejected decisions t) (sym rejected.1) rejected.2)), tt))
      (is.settled.consistent.claims (at_most (part_of one End) (part_of other Start)) (inr (inr (inr (inr (inl (record { one = one; other = other; ordered = there; says = refl })))))))
  true_in (Constrain kind arguments) there = constraint_true kind arguments there
  true_in (Relate relation one other) there =
      let known = is.founded.known (Relate relation one other) there in
      let kept = relation_kept relation one other there in
      record {
        one_has = has_values one known.0 kept.0;
        other_has = has_values other known.1 kept.1;
        holds = relation_true relation one other there;
      }

pub agrees : (model : Model) (decisions : List Decision) (state : State) (plan : Plan) → IsFlawlessPlan model decisions state plan → AgreesWith model plan decisions
agrees model decisions state plan is = λ decision there. true_in model decisions state plan is decision there
