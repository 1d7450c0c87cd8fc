-- The same blocks are open in the plan as in the state.
use Rattle.std.proofs.Common.{◌≡◌, ℤ, false, List, inl, inr, refl, sym, ap, ◌∙◌, subst, arith}
use Rattle.std.specs.Prelude.{Contains}
use Rattle.std.proofs.lemmas.Int.{ints}
use Rattle.domain_core.specs.Domain.{Domain, Range, Has}
use Rattle.eu_name.specs.declared.name.Part.{Part}
use Rattle.eu_name.specs.declared.name.Part.TheVariants.{Start, End, Duration, Object, Param}
use Rattle.eu_name.specs.declared.name.TokenName.{TokenName}
use Rattle.eu_name.specs.declared.name.VarName.{VarName}
use Rattle.eu_name.specs.declared.name.VarName.TheVariants as variables
use Rattle.model_core.specs.declared.decision.Decision.{Decision}
use Rattle.model_core.specs.declared.decision.Decision.TheVariants.{Activate, Merge}
use Rattle.model_core.specs.declared.item.Term.{Term}
use Rattle.model_core.specs.declared.model.Model.{Model}
use Rattle.model_core.specs.declared.rule.Guard.{Guard}
use Rattle.model_core.specs.declared.rule.Side.{Side}
use Rattle.model_core.specs.declared.rule.Slot.{Slot}
use Rattle.model_core.specs.declared.variable.Base.{Base}
use Rattle.model_core.specs.declared.variable.Base.TheVariants.{Given}
use Rattle.model_core.specs.Blocks.{TokenBlock}
use Rattle.model_core.specs.Decided.{IsTaken}
use Rattle.model_core.specs.Entries.{Entries}
use Rattle.model_core.specs.State.{State, Gives}
use Rattle.model_core.specs.Variables.{HasPartBase, HasParameter}
use Rattle.model_core.proofs.Leading.{token_once}
use Rattle.plan_defs.specs.declared.plan.Line.TheVariants as lines
use Rattle.plan_defs.specs.declared.plan.Plan.{Plan}
use Rattle.plan_defs.specs.Plans.{IsTakenIn, HasPartValue, GivesValue, plan_situation}
use Rattle.plan_defs.specs.Situations.{situation_of}
use Rattle.plan_defs.specs.Support.{MayBe, Opens, IsOpen, one_side, other_side}
use Rattle.plan_defs.specs.Terms.{Context, InRule, Argument, Value, Variable, Means, HasDomain, ArgumentCounts}
use Rattle.plan_defs.proofs.Lower.{HasBlock-map, counts_further}
use Rattle.plan_defs.specs.StatePlans.{GivesOnly}
use Rattle.plan_defs.proofs.Deciding.{decides_once}
use Rattle.plan_defs.proofs.Determining.{value_once}
use Rattle.plan_defs.proofs.Stating.{merged_not_rejected}
use Rattle.law_states.specs.Soundness.{IsFlawlessPlan}
use Rattle.law_states.proofs.Having.{is_state, value_of, takes_line, gives_value, merged_value}
use Rattle.law_states.proofs.Agreeing.{counted_kept}
use Rattle.law_states.proofs.Keeping.{part_kept, part_has, taken_down, same_predicate}

-- both predicates have the part
alike_part : (model : Model) (one other : Slot) (part : Part) (base : Base) → one.pred ≡ other.pred → HasPartBase model other part base → (b : Base) × HasPartBase model one part b
alike_part model one other Start base same has = (Given _, refl)
alike_part model one other End base same has = (Given _, refl)
alike_part model one other Duration base same has = (Given _, refl)
alike_part model one other Object base same has = (one.object, refl)
alike_part model one other (Param number) base same (variable, has, is) = (base, (variable, subst (λ n. HasParameter model n number variable) (sym same) has, is))

module _ (model : Model) (decisions : List Decision) (state : State) (plan : Plan) (is : IsFlawlessPlan model decisions state plan) where
  -- ---- what the plan gives is what the state has

  one_target : (token a b : TokenName) → Contains decisions (Merge token a) → Contains decisions (Merge token b) → a ≡ b
  one_target token a b p q =
      let e : Merge token a ≡ Merge token b = (decides_once model decisions is.settled.settled).one token (Merge token a) (Merge token b) p q refl refl in cc

  merged_has : (token target : TokenName) (part : Part) (value : ℤ) → Contains state.tokens token → Contains decisions (Merge token target)
      → HasPartValue plan target part value → GivesOnly state (variables.Token token part) value
  merged_has token target part value there merged target_has =
      let same = same_predicate model decisions state plan is token target merged in
      let has = part_has model decisions state plan is target part value target_has in
      let about = ((is_state model decisions state plan is).variables (variables.Token target part)).1 (has.0, has.1) in
      let slots = token_once model target about.1.1.0 same.other_slot about.1.1.1 same.has_other in
      let base = alike_part model same.slot about.1.1.0 part about.1.0 (same.same ∙ ap (λ (s : Slot). s.pred) (sym slots)) about.1.1.2 in
      let given = ((is_state model decisions state plan is).variables (variables.Token token part)).0 (there, (base.0, (same.slot, same.has_one, base.1))) in
      let own = value_of model decisions state plan is (variables.Token token part) given.0 given.1
      (part_kept model decisions state plan is token part (merged_not_rejected model decisions state is.settled token target merged)) in
      let own_has : GivesOnly state (variables.Token token part) own.0 = (given.0, given.1, own.1) in
      let through = merged_value model decisions state plan is token target part own.0 merged (same.slot, same.has_one, (base.0, base.1)) own_has in
      let other_merged = ((is.is_plan.lines (lines.Merged token through.0)).0 through.1).1 in
      let targets = one_target token through.0 target other_merged merged in
      let target_own = part_has model decisions state plan is target part own.0 (subst (λ t. HasPartValue plan t part own.0) targets through.2) in
      let values = value_once state (is_state model decisions state plan is).order (variables.Token target part) own.0 value target_own has in
      subst (λ v. GivesOnly state (variables.Token token part) v) values own_has

  pub value_up : (name : VarName) (value : ℤ) → GivesValue plan name value → GivesOnly state name value
  value_up (variables.Global number) value gives = (is.is_plan.globals number value).0 gives
  value_up (variables.Local token rule number) value gives = ((is.is_plan.lines (lines.Local (variables.Local token rule number) value)).0 gives).1
  value_up (variables.Token token part) value (inl own) = part_has model decisions state plan is token part value own
  value_up (variables.Token token part) value (inr through) =
      let line = (is.is_plan.lines (lines.Merged token through.0)).0 through.1 in
      merged_has token through.0 part value line.0 line.1 through.2

  -- ---- guards

  itself : (value : ℤ) → Has (Range value value) value
  itself value = (omega (arith, ints), omega (arith, ints))

  maybe_down : (context : Context) (term : Term) (domain : Domain) → MayBe model (plan_situation plan) context term domain
      → (smaller : Domain) × (MayBe model (situation_of decisions state) context term smaller × ((value : ℤ) → Has smaller value → Has domain value))
  maybe_down context term domain may = case may.argument may.means may.counts may.has
    where
      case : (argument : Argument) → Means context term argument → ArgumentCounts model (IsTakenIn plan) argument
          → HasDomain (λ name d. (value : ℤ) × GivesValue plan name value × (d ≡ Range value value)) argument domain
          → (smaller : Domain) × (MayBe model (situation_of decisions state) context term smaller × ((value : ℤ) → Has smaller value → Has domain value))
      case (Value value) means counts has = (domain, (record { argument = Value value; means = means; counts = tt; has = has }, λ v inside. inside))
      case (Variable name) means counts has =
          let up = value_up name has.0 has.1 in (
            up.0,
            (
              record { argument = Variable name; means = means; counts = counts_further model (IsTakenIn plan) (IsTaken decisions) (taken_down model decisions state plan is) (Variable name) counts; has = up.1 },
              λ v inside. subst (λ d. Has d v) (sym has.2) (subst (λ w. Has (Range has.0 has.0) w) (sym (up.2.only v inside)) (itself has.0)),
            ),
          )

  pub taken_up : (token : TokenName) → IsTaken decisions token → IsTakenIn plan token
  taken_up token (inl activated) =
      let line = takes_line model decisions state plan is false token (is.founded.known (Activate token) activated) activated in inl (line.0, line.1)
  taken_up token (inr merged) =
      inr (merged.0, (is.is_plan.lines (lines.Merged token merged.0)).1 ((is.founded.known (Merge token merged.0) merged.1).0, merged.1))

  maybe_up : (context : Context) (term : Term) (domain : Domain) → MayBe model (situation_of decisions state) context term domain
      → (smaller : Domain) × (MayBe model (plan_situation plan) context term smaller × ((value : ℤ) → Has smaller value → Has domain value))
  maybe_up context term domain may = case may.argument may.means may.counts may.has
    where
      case : (argument : Argument) → Means context term argument → ArgumentCounts model (IsTaken decisions) argument → HasDomain (Gives state) argument domain
          → (smaller : Domain) × (MayBe model (plan_situation plan) context term smaller × ((value : ℤ) → Has smaller value → Has domain value))
      case (Value value) means counts has = (domain, (record { argument = Value value; means = means; counts = tt; has = has }, λ v inside. inside))
      case (Variable name) means counts has =
          let kept = counted_kept model decisions state plan is (Variable name) counts in
          let value = value_of model decisions state plan is name domain has kept in
          let gives = gives_value model decisions state plan is name value.0 (domain, has, value.1) kept in (
            Range value.0 value.0,
            (
              record {
                argument = Variable name;
                means = means;
                counts = counts_further model (IsTaken decisions) (IsTakenIn plan) taken_up (Variable name) counts;
                has = (value.0, gives, refl);
              },
              λ v inside. subst (λ w. Has domain w) (let e : value.0 ≡ v = omega (arith, ints, inside.0, inside.1) in e) value.1.has,
            ),
          )

  opens_down : (context : Context) (guard : Guard) (side : Side) → Opens model (plan_situation plan) context guard side → Opens model (situation_of decisions state) context guard side
  opens_down context guard side opens =
      let one = maybe_down context (one_side guard) opens.one opens.is_one in
      let other = maybe_down context (other_side guard) opens.other opens.is_other in
      record {
        one = one.0;
        other = other.0;
        is_one = one.1.0;
        is_other = other.1.0;
        always = λ v w has has'. opens.always v w (one.1.1 v has) (other.1.1 w has');
      }

  opens_up : (context : Context) (guard : Guard) (side : Side) → Opens model (situation_of decisions state) context guard side → Opens model (plan_situation plan) context guard side
  opens_up context guard side opens =
      let one = maybe_up context (one_side guard) opens.one opens.is_one in
      let other = maybe_up context (other_side guard) opens.other opens.is_other in
      record {
        one = one.0;
        other = other.0;
        is_one = one.1.0;
        is_other = other.1.0;
        always = λ v w has has'. opens.always v w (one.1.1 v has) (other.1.1 w has');
      }

  -- ---- blocks

  pub open_down : (block : TokenBlock) (entries : Entries) → IsOpen model (plan_situation plan) block entries → IsOpen model (situation_of decisions state) block entries
  open_down block entries p = record {
    activated = ((is.is_plan.lines (lines.Token block.token false p.activated.0)).0 p.activated.1).takes_place;
    has_block = HasBlock-map model (Opens model (plan_situation plan) (InRule block.token block.rule)) (Opens model (situation_of decisions state) (InRule block.token block.rule))
        (opens_down (InRule block.token block.rule)) block entries p.has_block;
  }

  pub open_up : (block : TokenBlock) (entries : Entries) → IsOpen model (situation_of decisions state) block entries → IsOpen model (plan_situation plan) block entries
  open_up block entries p =
      let line = takes_line model decisions state plan is false block.token (is.founded.known (Activate block.token) p.activated) p.activated in
      record {
        activated = (line.0, line.1);
        has_block = HasBlock-map model (Opens model (situation_of decisions state) (InRule block.token block.rule)) (Opens model (plan_situation plan) (InRule block.token block.rule))
            (opens_up (InRule block.token block.rule)) block entries p.has_block;
      }
