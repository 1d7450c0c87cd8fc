-- What a plan breaks first, and which plans agree with decisions.
use Rattle.std.specs.Prelude.{ℕ, ◌<◌, ◌≤◌, ◌<ℤ◌, ⊤, List, Contains}
use Rattle.eu_name.specs.declared.name.TokenName.{TokenName}
use Rattle.eu_name.specs.NameOrder.{ByNumber}
use Rattle.model_core.specs.declared.decision.Decision.{Decision}
use Rattle.model_core.specs.declared.decision.Decision.TheVariants.{Specify, Activate, Merge, Reject, Order, Constrain, Relate}
use Rattle.model_core.specs.declared.item.Rel.{Rel}
use Rattle.model_core.specs.declared.model.Model.{Model}
use Rattle.plan_defs.specs.declared.plan.Clause.{Clause}
use Rattle.plan_defs.specs.declared.plan.Clause.TheVariants.{V1, V2, V3, V4, V5, V6, V7, V8, V9, V10}
use Rattle.plan_defs.specs.declared.plan.Line.TheVariants as lines
use Rattle.plan_defs.specs.declared.plan.Place.{Place}
use Rattle.plan_defs.specs.declared.plan.Place.TheVariants.{Global, Root, Line, Slot, Local, Problem, Item, Pair, Instant}
use Rattle.plan_defs.specs.declared.plan.Plan.{Plan}
use Rattle.plan_defs.specs.Claims.{Claim, posted_claim, relates}
use Rattle.plan_defs.specs.Plans.{GivesValue, HasValues, IsActivatedIn}
use Rattle.plan_defs.specs.Valid.{IsClauseKept, IsClaimTrue, EndsBy}

-- how many clauses come before this one
abbrev pub clauses_before : Clause → ℕ
clauses_before V1 = 0
clauses_before V2 = 1
clauses_before V3 = 2
clauses_before V4 = 3
clauses_before V5 = 4
clauses_before V6 = 5
clauses_before V7 = 6
clauses_before V8 = 7
clauses_before V9 = 8
clauses_before V10 = 9

-- the names at the one place are less than those at the other, where both are places of one clause: roots come before other
-- tokens, the slots of a token's rules before its locals, and items of the problem before those of rules
abbrev pub AreLesserNames : Place → Place → Type 0
AreLesserNames (Global one) (Global other) = one < other
AreLesserNames (Root one) (Root other) = one < other
AreLesserNames (Root one) (Line other) = ⊤
AreLesserNames (Line one) (Line other) = one < other
AreLesserNames (Slot line rule slot) (Slot line' rule' slot') = ByNumber line line' (ByNumber rule rule' (slot < slot'))
AreLesserNames (Slot line rule slot) (Local line' rule' number) = line ≤ line'
AreLesserNames (Local line rule number) (Slot line' rule' slot) = line < line'
AreLesserNames (Local line rule number) (Local line' rule' number') =
    ByNumber line line' (ByNumber rule rule' (number < number'))
AreLesserNames (Problem one) (Problem other) = one < other
AreLesserNames (Problem one) (Item line rule item) = ⊤
AreLesserNames (Item line rule item) (Item line' rule' item') = ByNumber line line' (ByNumber rule rule' (item < item'))
AreLesserNames (Pair one other) (Pair one' other') = ByNumber one one' (other < other')
AreLesserNames (Instant object at) (Instant object' at') = ByNumber object object' (at <ℤ at')
AreLesserNames one other = ⊥

module _ (model : Model) (plan : Plan) where
  -- the clause is broken at the place
  abbrev pub IsBroken : Clause → Place → Type 0
  IsBroken clause place = IsClauseKept model plan clause place → ⊥

  -- the clause is broken at the place, and kept where the names are less
  pub record IsLeastBroken (clause : Clause) (place : Place) : Type 0 where
    pub broken : IsBroken clause place
    pub least : (other : Place) → AreLesserNames other place → IsClauseKept model plan clause other

  -- the clause is the first that is broken, and the place the one with the least names
  pub record IsFirstBroken (clause : Clause) (place : Place) : Type 0 where
    pub here : IsLeastBroken clause place
    pub first : (earlier : Clause) (other : Place)
        → clauses_before earlier < clauses_before clause → IsClauseKept model plan earlier other

  -- both tokens have values, of which the relation holds
  pub record AreRelated (relation : Rel) (one other : TokenName) : Type 0 where
    pub one_has : HasValues plan one
    pub other_has : HasValues plan other
    pub holds : (claim : Claim) → Contains (relates relation one other) claim → IsClaimTrue model plan claim

  -- what the decision says is so in the plan
  abbrev pub IsTrueIn : Decision → Type 0
  IsTrueIn (Specify name value) = GivesValue plan name value
  IsTrueIn (Activate token) = IsActivatedIn plan token
  IsTrueIn (Merge token target) = Contains plan.lines (lines.Merged token target)
  IsTrueIn (Reject token) = Contains plan.lines (lines.Rejected token)
  IsTrueIn (Order one other) = EndsBy model plan one other
  IsTrueIn (Constrain kind arguments) = IsClaimTrue model plan (posted_claim kind arguments)
  IsTrueIn (Relate relation one other) = AreRelated relation one other

  -- what each of the decisions says is so
  abbrev pub AgreesWith : List Decision → Type 0
  AgreesWith decisions = (decision : Decision) → Contains decisions decision → IsTrueIn decision
