-- For each clause a plan that is valid, and one that breaks this clause alone: but for what rules ask for.
use Rattle.std.proofs.Common.{◌≡◌, ℕ, zero, suc, ◌≤◌, List, [], ◌∷◌, Some, ℤ, pos, ◌≤ℤ◌, Bool, true, false, inl, inr, refl, sym, ap, ◌∙◌, subst, arith}
use Rattle.std.specs.Prelude.{All, Contains, slice_get, ⊤}
use Rattle.std.specs.List.{AllZip}
use Rattle.std.proofs.lemmas.Int.{ints}
use Rattle.domain_core.specs.Constraints.{HoldsOf}
use Rattle.domain_core.specs.Domain.{Range, Has}
use Rattle.domain_core.specs.declared.kind.Kind.TheVariants.{Leq, AddEq}
use Rattle.eu_name.specs.declared.name.Part.{Part}
use Rattle.eu_name.specs.declared.name.Part.TheVariants.{Start, End, Duration, Param}
use Rattle.eu_name.specs.declared.name.VarName.TheVariants as variables
use Rattle.model_core.specs.declared.class.ObjectKind.TheVariants as kind
use Rattle.model_core.specs.declared.class.PredKind.TheVariants as pred
use Rattle.model_core.specs.declared.item.Item.{Item}
use Rattle.model_core.specs.declared.item.Term.TheVariants as term
use Rattle.model_core.specs.declared.model.Model.{Model}
use Rattle.model_core.specs.declared.model.RootKind.{RootKind}
use Rattle.model_core.specs.declared.model.RootKind.TheVariants.{Goal, Rejectable}
use Rattle.model_core.specs.declared.variable.Base.TheVariants.{Given}
use Rattle.model_core.specs.declared.variable.VarDecl.{VarDecl}
use Rattle.model_core.specs.Tokens.{root_token}
use Rattle.plan_defs.specs.declared.plan.Clause.{Clause}
use Rattle.plan_defs.specs.declared.plan.Clause.TheVariants.{V1, V2, V3, V4, V5, V6, V7, V8, V9, V10}
use Rattle.plan_defs.specs.declared.plan.Line.{Line}
use Rattle.plan_defs.specs.declared.plan.Line.TheVariants as lines
use Rattle.plan_defs.specs.declared.plan.Place.{Place}
use Rattle.plan_defs.specs.declared.plan.Place.TheVariants as places
use Rattle.plan_defs.specs.declared.plan.Plan.{Plan}
use Rattle.plan_defs.specs.Broken.{IsBroken}
use Rattle.plan_defs.specs.Claims.{ItemSays, Claim, HasPart, part_of}
use Rattle.plan_defs.specs.Plans.{IsLineOf, IsLineBefore, IsPlanOf, GivesValue, IsTakenIn, place_in_values}
use Rattle.plan_defs.specs.Refusals.{IsDeclared}
use Rattle.plan_defs.specs.Terms.{InProblem, Argument, Value, Variable, ArgumentCounts}
use Rattle.plan_defs.specs.Valid.{HasArgumentValue, HasDeclaredValue, IsClaimTrue, IsLineOfSort, SuitsToken, SuitsIfToken, SuitsIfMerged, IsAsked, Becomes, IsTrueItem, KeepsGlobals, KeepsItems, IsClauseKept, IsValid}
use Rattle.plan_defs.proofs.Members.{all_from_get}
use Rattle.model_core.specs.Kinds.{IsValueOf}
use Rattle.model_core.specs.Variables.{IsGlobal}
use Rattle.eu_name.proofs.Ordered.{ordered_none, contains_head, contains_later, contains_cases, contains_none}
use Rattle.law_examples.specs.Cases.{lone_goal, at_most_one, limited}
use Rattle.law_examples.specs.Globals.{declared_x, problem_of, free_x, low_x, at_most_1, up_to}
use Rattle.law_examples.specs.Plans.{BreaksOnly, values_alone, lines_alone, values_of, short_values, takes_place, goal_with, merged_into_itself, rejected_alone}
use Rattle.law_examples.specs.Refused.{two_goals}
use Rattle.law_examples.specs.Scenes.{both_objects, root_of, scene}
use Rattle.law_examples.specs.Swaps.{g, gg}
use Rattle.law_examples.proofs.Lists.{all_members, only_member, same_some}
use Rattle.law_examples.proofs.Pairs.{only_claim}
use Rattle.law_examples.proofs.Planned.{of_none, of_one, of_two, globals_kept, roots_kept, tokens_kept, merges_kept, asked_kept, asked_root, timelines_kept, reusables_kept, reservoirs_kept, suits, own_values, open_kept, items_kept, root_there, token_line, no_line_plan, one_line_plan, two_line_plan, roots_before, problem_kept}

-- ---- a plan of x alone

-- x, and these constraints
abbrev of_x : List Item → Model
of_x items = problem_of (declared_x ∷ []) items

-- what a plan without lines keeps where there are no roots and no objects
module _ (items : List Item) (values : List ℤ) where
  bare : (clause : Clause) (place : Place) → (clause ≡ V1 → ⊥) → (clause ≡ V7 → ⊥) → IsClauseKept (of_x items) (values_alone values) clause place
  bare V1 place not_globals not_items = absurd (not_globals refl)
  bare V2 (places.Root number) not_globals not_items = λ root at. absurd (cc)
  bare V2 (places.Line number) not_globals not_items = λ line at. absurd (cc)
  bare V2 place not_globals not_items = tt
  bare V3 (places.Line number) not_globals not_items = λ line at. absurd (cc)
  bare V3 place not_globals not_items = tt
  bare V4 (places.Line number) not_globals not_items = λ line at. absurd (cc)
  bare V4 place not_globals not_items = tt
  bare V5 (places.Slot line rule slot) not_globals not_items = λ token at asks. let none = at.1 in absurd (cc)
  bare V5 (places.Local line rule number) not_globals not_items = λ token at asks. let none = at.1 in absurd (cc)
  bare V5 place not_globals not_items = tt
  bare V6 (places.Line number) not_globals not_items = λ line at. absurd (cc)
  bare V6 place not_globals not_items = tt
  bare V7 place not_globals not_items = absurd (not_items refl)
  bare V8 (places.Pair first second) not_globals not_items = λ less one other takes takes' on. let none = takes.1.1 in absurd (cc)
  bare V8 place not_globals not_items = tt
  bare V9 (places.Instant number instant) not_globals not_items = λ object capacity at is inside. absurd (cc)
  bare V9 place not_globals not_items = tt
  bare V10 (places.Instant number instant) not_globals not_items = λ object initial low high at is inside. absurd (cc)
  bare V10 place not_globals not_items = tt

  -- no rule has items
  items_true : ((number : ℕ) (item : Item) → slice_get items number ≡ Some item → IsTrueItem (of_x items) (values_alone values) item) → (place : Place) → KeepsItems (of_x items) (values_alone values) place
  items_true each (places.Problem number) = each number
  items_true each (places.Item line rule number) = λ token at. let none = at.1 in absurd (cc)
  items_true each place = tt

  -- x is declared with what is from 0 to 2
  base_of_x : (value : ℤ) → IsDeclared (of_x items) (variables.Global 0) value → Has (up_to 2) value
  base_of_x value is =
      let variable = same_some declared_x is.1.0 is.1.1 in
      let base : Given is.0 ≡ Given (up_to 2) = is.1.2 ∙ ap (λ (v : VarDecl). v.base) (sym variable) in
      let same : is.0 ≡ up_to 2 = cc in
      subst (λ d. Has d value) same is.2

-- a value from 0 to 2 will do
module _ (items : List Item) (number : ℕ) (few : number ≤ 2) where
  given_x : HasDeclaredValue (of_x items) (values_alone (pos number ∷ [])) (variables.Global 0)
  given_x = (pos number, refl, (up_to 2, (declared_x, refl, refl), (omega (arith, ints), omega (arith, ints, few))))

  x_kept : (place : Place) → KeepsGlobals (of_x items) (values_alone (pos number ∷ [])) place
  x_kept (places.Global zero) = λ less. given_x
  x_kept (places.Global (suc place)) = λ less. absurd (omega (arith, less))
  x_kept place = tt

-- a plan that gives x a number, and one that gives it none
pub x_plan : (items : List Item) (number : ℕ) → number ≤ 10 → IsPlanOf (of_x items) (values_alone (pos number ∷ []))
x_plan items number few = record {
  few_globals = omega arith;
  globals = λ place value variable at is.
      of_one (λ n found. (declared : VarDecl) → IsGlobal (of_x items) n declared → IsValueOf (of_x items) declared.kind found) (pos number)
      (λ declared there. subst (λ (v : VarDecl). IsValueOf (of_x items) v.kind (pos number)) (same_some declared_x declared there) (omega (arith, ints), omega (arith, ints, few)))
      place value at variable is;
  few_lines = omega arith;
  lines = all_from_get (IsLineOf (of_x items)) [] (of_none (λ n line. IsLineOf (of_x items) line));
  order = ordered_none IsLineBefore;
}

no_x_plan : (items : List Item) → IsPlanOf (of_x items) (values_alone [])
no_x_plan items = record {
  few_globals = omega arith;
  globals = λ place value variable at is. absurd (cc);
  few_lines = omega arith;
  lines = all_from_get (IsLineOf (of_x items)) [] (of_none (λ n line. IsLineOf (of_x items) line));
  order = ordered_none IsLineBefore;
}

pub x_inside : IsValid free_x (values_alone (pos 2 ∷ []))
x_inside V1 place = x_kept [] 2 (omega arith) place
x_inside V7 place = items_true [] (pos 2 ∷ []) (λ number item at. absurd (cc)) place
x_inside clause place = bare [] (pos 2 ∷ []) clause place (λ e. cc) (λ e. cc)

-- whatever is wrong with x alone breaks the first clause alone
no_x : (values : List ℤ) → IsPlanOf free_x (values_alone values) → (HasDeclaredValue free_x (values_alone values) (variables.Global 0) → ⊥) → BreaksOnly free_x (values_alone values) V1 (places.Global 0)
no_x values is_plan none = record { is_plan = is_plan; broken = λ kept. none (kept (omega arith)); others = others }
  where
    others : (other : Clause) (elsewhere : Place) → (other ≡ V1 → ⊥) → IsClauseKept free_x (values_alone values) other elsewhere
    others V7 place apart = items_true [] values (λ number item at. absurd (cc)) place
    others other place apart = bare [] values other place apart (λ e. cc)

pub x_outside : BreaksOnly free_x (values_alone (pos 3 ∷ [])) V1 (places.Global 0)
x_outside = no_x (pos 3 ∷ []) (x_plan [] 3 (omega arith)) (λ has.
    let three = same_some (pos 3) has.0 has.1 in
    let inside = base_of_x [] (pos 3 ∷ []) has.0 has.2 in
    omega (arith, ints, three, inside.1))

pub x_without_value : BreaksOnly free_x (values_alone []) V1 (places.Global 0)
x_without_value = no_x [] (no_x_plan []) (λ has. let none = has.1 in cc)

-- ---- what the problem says of x

abbrev x_argument : Argument
x_argument = Variable (variables.Global 0)

abbrev low_claim : Claim
low_claim = record { kind = Leq; arguments = x_argument ∷ Value (pos 1) ∷ [] }

low_true : IsTrueItem low_x (values_alone (pos 1 ∷ [])) at_most_1
low_true claim says =
    let is = only_claim low_x (IsTakenIn (values_alone (pos 1 ∷ []))) Leq (term.Global 0) (term.Lit (pos 1)) x_argument (Value (pos 1)) refl (λ x e. e) (λ x e. e) claim
    (record { item = at_most_1; stands = contains_head at_most_1 []; says = says }) in
    let most : pos 1 ≤ℤ pos 1 = omega (arith, ints) in
    subst (IsClaimTrue low_x (values_alone (pos 1 ∷ []))) (sym is.0) (record { values = pos 1 ∷ pos 1 ∷ []; have = (refl, (refl, tt)); holds = most })

pub x_low : IsValid low_x (values_alone (pos 1 ∷ []))
x_low V1 place = x_kept (at_most_1 ∷ []) 1 (omega arith) place
x_low V7 place =
    items_true (at_most_1 ∷ []) (pos 1 ∷ [])
    (of_one (λ number item. IsTrueItem low_x (values_alone (pos 1 ∷ [])) item) at_most_1 low_true)
    place
x_low clause place = bare (at_most_1 ∷ []) (pos 1 ∷ []) clause place (λ e. cc) (λ e. cc)

-- all that it speaks of counts
low_counts : (plan : Plan) (argument : Argument) → Contains (x_argument ∷ Value (pos 1) ∷ []) argument → ArgumentCounts low_x (IsTakenIn plan) argument
low_counts plan argument c = elim (contains_cases x_argument argument (Value (pos 1) ∷ []) c) [
  | inl same ↦ subst (ArgumentCounts low_x (IsTakenIn plan)) same (λ token belongs rejectable. absurd belongs)
  | inr later ↦ subst (ArgumentCounts low_x (IsTakenIn plan)) (only_member (Value (pos 1)) argument later) tt
]

two_is_high : (values : List ℤ) → AllZip (HasArgumentValue (values_alone (pos 2 ∷ []))) (x_argument ∷ Value (pos 1) ∷ []) values → HoldsOf Leq values → ⊥
two_is_high [] have holds = have
two_is_high (v ∷ []) have holds = have.1
two_is_high (v ∷ w ∷ more ∷ rest) have holds = have.1.1
two_is_high (v ∷ w ∷ []) have holds = let same = same_some (pos 2) v have.0 in omega (arith, ints, same, have.1.0, holds)

pub x_high : BreaksOnly low_x (values_alone (pos 2 ∷ [])) V7 (places.Problem 0)
x_high = record { is_plan = x_plan (at_most_1 ∷ []) 2 (omega arith); broken = broken; others = others }
  where
    broken : IsBroken low_x (values_alone (pos 2 ∷ [])) V7 (places.Problem 0)
    broken kept =
        let is = kept at_most_1 refl low_claim (record {
          is_kind = refl;
          means = (refl, (refl, tt));
          counts = all_members (ArgumentCounts low_x (IsTakenIn (values_alone (pos 2 ∷ [])))) (x_argument ∷ Value (pos 1) ∷ []) (low_counts (values_alone (pos 2 ∷ [])));
        }) in
        two_is_high is.values is.have is.holds

    others : (other : Clause) (elsewhere : Place) → (other ≡ V7 → ⊥) → IsClauseKept low_x (values_alone (pos 2 ∷ [])) other elsewhere
    others V1 place apart = x_kept (at_most_1 ∷ []) 2 (omega arith) place
    others other place apart = bare (at_most_1 ∷ []) (pos 2 ∷ []) other place (λ e. cc) apart

-- ---- a goal alone

-- the clause is about the lines of a plan, one by one
abbrev IsOfLines : Clause → Type 0
IsOfLines V2 = ⊤
IsOfLines V3 = ⊤
IsOfLines V4 = ⊤
IsOfLines V6 = ⊤
IsOfLines clause = ⊥

-- a plan keeps the others where objects and predicates are plain ones, without rules
module _ (goals : List RootKind) (plan : Plan) where
  plain_kept : (clause : Clause) (place : Place) → (IsOfLines clause → ⊥) → IsClauseKept (scene kind.Plain pred.Plain [] [] goals) plan clause place
  plain_kept V1 place not_lines = globals_kept [] kind.Plain pred.Plain [] [] goals plan place
  plain_kept V2 place not_lines = absurd (not_lines tt)
  plain_kept V3 place not_lines = absurd (not_lines tt)
  plain_kept V4 place not_lines = absurd (not_lines tt)
  plain_kept V5 place not_lines = open_kept [] kind.Plain pred.Plain goals plan place
  plain_kept V6 place not_lines = absurd (not_lines tt)
  plain_kept V7 place not_lines = items_kept kind.Plain pred.Plain goals plan place
  plain_kept V8 place not_lines = timelines_kept [] kind.Plain pred.Plain [] [] goals plan (λ e. cc) place
  plain_kept V9 place not_lines = reusables_kept [] kind.Plain pred.Plain [] [] goals plan (λ capacity e. cc) place
  plain_kept V10 place not_lines = reservoirs_kept [] kind.Plain pred.Plain [] [] goals plan (λ initial low high e. cc) place

abbrev one_goal : List RootKind
one_goal = Goal ∷ []

-- a plan of one line about g
module _ (line : Line) where
  abbrev of_line : Plan
  of_line = lines_alone (line ∷ [])

  line_kept : (P : Line → Type 0) → P line → (number : ℕ) (found : Line) → slice_get (line ∷ []) number ≡ Some found → P found
  line_kept P p = of_one (λ number found. P found) line p

  -- it is kept where the line keeps it
  lone_kept : (clause : Clause) (place : Place)
      → ((clause ≡ V2) → Becomes of_line Goal g × IsLineOfSort line) → ((clause ≡ V3) → SuitsIfToken lone_goal of_line line)
      → ((clause ≡ V4) → SuitsIfMerged lone_goal of_line line) → ((clause ≡ V6) → IsAsked lone_goal of_line line)
      → IsClauseKept lone_goal of_line clause place
  lone_kept V2 place roots suits_token suits_merged asked =
      let kept = roots refl in
      roots_kept [] kind.Plain pred.Plain [] [] one_goal of_line (of_one (λ number root_kind. Becomes of_line root_kind (root_token number)) Goal kept.0) (line_kept IsLineOfSort kept.1) place
  lone_kept V3 place roots suits_token suits_merged asked = tokens_kept [] kind.Plain pred.Plain [] [] one_goal of_line (line_kept (SuitsIfToken lone_goal of_line) (suits_token refl)) place
  lone_kept V4 place roots suits_token suits_merged asked = merges_kept [] kind.Plain pred.Plain [] [] one_goal of_line (line_kept (SuitsIfMerged lone_goal of_line) (suits_merged refl)) place
  lone_kept V6 place roots suits_token suits_merged asked = asked_kept [] kind.Plain pred.Plain [] [] one_goal of_line (line_kept (IsAsked lone_goal of_line) (asked refl)) place
  lone_kept clause place roots suits_token suits_merged asked = plain_kept one_goal of_line clause place (λ is. is)

-- what takes place suits []
module _ (fact : Bool) where
  abbrev short_line : Line
  short_line = takes_place fact short_values

  short_suits : SuitsIfToken lone_goal (of_line short_line) short_line
  short_suits =
      suits [] kind.Plain pred.Plain [] [] one_goal (of_line short_line) 0 Goal refl 0 1 1 1
      (own_values [] kind.Plain pred.Plain [] [] one_goal (of_line short_line) 0 fact short_values (contains_head short_line [])) refl (omega arith) (omega arith) (omega arith)

  g_asked : (values : List ℤ) → IsAsked lone_goal (of_line (takes_place fact values)) (takes_place fact values)
  g_asked values = asked_root [] kind.Plain pred.Plain [] [] one_goal (of_line (takes_place fact values)) 0

g_becomes : (values : List ℤ) → Becomes (goal_with values) Goal g
g_becomes values = inl (values, contains_head (takes_place false values) [])

pub goal_plan : (fact : Bool) (start end duration quantity : ℕ) → start ≤ 100 → end ≤ 100 → duration ≤ 100 → quantity ≤ 100 → IsPlanOf lone_goal (of_line (takes_place fact (values_of start end duration quantity)))
goal_plan fact start end duration quantity early late long few =
    one_line_plan lone_goal (takes_place fact (values_of start end duration quantity)) (token_line [] kind.Plain pred.Plain [] [] one_goal 0 Goal refl fact start end duration quantity early late long few)

pub goal_valid : IsValid lone_goal (goal_with short_values)
goal_valid clause place = lone_kept (takes_place false short_values) clause place (λ e. (g_becomes short_values, tt)) (λ e. short_suits false) (λ e. tt) (λ e. g_asked false short_values)

pub goal_as_fact : BreaksOnly lone_goal (lines_alone (takes_place true short_values ∷ [])) V2 (places.Root 0)
goal_as_fact = record {
  is_plan = goal_plan true 0 1 1 1 (omega arith) (omega arith) (omega arith) (omega arith);
  broken = λ kept. no_goal (kept (root_of 0 Goal) refl);
  others = λ other place apart. lone_kept (takes_place true short_values) other place (λ e. absurd (apart e)) (λ e. short_suits true) (λ e. tt) (λ e. g_asked true short_values);
}
  where
    no_goal : IsTakenIn (of_line (takes_place true short_values)) g → ⊥
    no_goal (inl activated) = let same = only_member (takes_place true short_values) (lines.Token g false activated.0) activated.1 in cc
    no_goal (inr merged) = let same = only_member (takes_place true short_values) (lines.Merged g merged.0) merged.1 in cc

pub goal_rejected : BreaksOnly lone_goal rejected_alone V2 (places.Root 0)
goal_rejected = record {
  is_plan = one_line_plan lone_goal (lines.Rejected g) (root_there [] kind.Plain pred.Plain [] [] one_goal 0 Goal refl);
  broken = λ kept. no_goal (kept (root_of 0 Goal) refl);
  others = λ other place apart. lone_kept (lines.Rejected g) other place (λ e. absurd (apart e)) (λ e. tt) (λ e. tt) (λ e. asked_root [] kind.Plain pred.Plain [] [] one_goal rejected_alone 0);
}
  where
    no_goal : IsTakenIn rejected_alone g → ⊥
    no_goal (inl activated) = let same = only_member (lines.Rejected g) (lines.Token g false activated.0) activated.1 in cc
    no_goal (inr merged) = let same = only_member (lines.Rejected g) (lines.Merged g merged.0) merged.1 in cc

pub goal_left_out : BreaksOnly lone_goal (lines_alone []) V2 (places.Root 0)
goal_left_out = record { is_plan = no_line_plan lone_goal; broken = λ kept. no_goal (kept (root_of 0 Goal) refl); others = others }
  where
    no_goal : IsTakenIn (lines_alone []) g → ⊥
    no_goal (inl activated) = contains_none (lines.Token g false activated.0) activated.1
    no_goal (inr merged) = contains_none (lines.Merged g merged.0) merged.1

    others : (other : Clause) (elsewhere : Place) → (other ≡ V2 → ⊥) → IsClauseKept lone_goal (lines_alone []) other elsewhere
    others V2 place apart = absurd (apart refl)
    others V3 place apart = tokens_kept [] kind.Plain pred.Plain [] [] one_goal (lines_alone []) (of_none (λ number line. SuitsIfToken lone_goal (lines_alone []) line)) place
    others V4 place apart = merges_kept [] kind.Plain pred.Plain [] [] one_goal (lines_alone []) (of_none (λ number line. SuitsIfMerged lone_goal (lines_alone []) line)) place
    others V6 place apart = asked_kept [] kind.Plain pred.Plain [] [] one_goal (lines_alone []) (of_none (λ number line. IsAsked lone_goal (lines_alone []) line)) place
    others other place apart = plain_kept one_goal (lines_alone []) other place (λ is. is)

-- ---- the values of a token

-- what the plan of one line says of g is in the line
own_value : (fact : Bool) (values : List ℤ) (part : Part) (value : ℤ) → GivesValue (lines_alone (takes_place fact values ∷ [])) (variables.Token g part) value → slice_get values (place_in_values part) ≡ Some value
own_value fact values part value (inl has) =
    let same = only_member (takes_place fact values) (lines.Token g has.1.0 has.0) has.1.1 in
    let list : values ≡ has.0 = cc in
    subst (λ (found : List ℤ). slice_get found (place_in_values part) ≡ Some value) (sym list) has.2
own_value fact values part value (inr has) = let same = only_member (takes_place fact values) (lines.Merged g has.0) has.1 in absurd (cc)

unsuited : (values : List ℤ) → IsPlanOf lone_goal (goal_with values) → (SuitsToken lone_goal (goal_with values) g → ⊥) → BreaksOnly lone_goal (goal_with values) V3 (places.Line 0)
unsuited values is_plan none = record {
  is_plan = is_plan;
  broken = λ kept. none (kept (takes_place false values) refl);
  others = λ other place apart. lone_kept (takes_place false values) other place (λ e. (g_becomes values, tt)) (λ e. absurd (apart e)) (λ e. tt) (λ e. g_asked false values);
}

abbrev long_values : List ℤ
long_values = values_of 0 2 1 1

one_is_not_two : (values : List ℤ) → AllZip (HasArgumentValue (goal_with long_values)) (part_of g Start ∷ part_of g Duration ∷ part_of g End ∷ []) values → HoldsOf AddEq values → ⊥
one_is_not_two [] have holds = have
one_is_not_two (start ∷ []) have holds = have.1
one_is_not_two (start ∷ duration ∷ []) have holds = have.1.1
one_is_not_two (start ∷ duration ∷ end ∷ more ∷ rest) have holds = have.1.1.1
one_is_not_two (start ∷ duration ∷ end ∷ []) have holds =
    let starts = same_some (pos 0) start (own_value false long_values Start start have.0) in
    let lasting = same_some (pos 1) duration (own_value false long_values Duration duration have.1.0) in
    let ends = same_some (pos 2) end (own_value false long_values End end have.1.1.0) in
    omega (arith, ints, starts, lasting, ends, holds)

pub goal_too_long : BreaksOnly lone_goal (goal_with long_values) V3 (places.Line 0)
goal_too_long = unsuited long_values (goal_plan false 0 2 1 1 (omega arith) (omega arith) (omega arith) (omega arith)) (λ suits. one_is_not_two suits.lasts.values suits.lasts.have suits.lasts.holds)

-- a token ends by 10
end_base : (value : ℤ) → IsDeclared lone_goal (variables.Token g End) value → value ≤ℤ pos 10
end_base value is =
    let base : Given is.0 ≡ Given (Range (pos 0) (pos 10)) = is.1.2 in
    let domain : is.0 ≡ Range (pos 0) (pos 10) = cc in
    (subst (λ d. Has d value) domain is.2).1

abbrev late_values : List ℤ
late_values = values_of 10 11 1 1

has_end : HasPart lone_goal g End
has_end = (record { pred = 0; object = Given both_objects }, record { root = root_of 0 Goal; is_root = refl; reached = refl }, (Given (Range (pos 0) (pos 10)), refl))

pub goal_too_late : BreaksOnly lone_goal (goal_with late_values) V3 (places.Line 0)
goal_too_late = unsuited late_values (goal_plan false 10 11 1 1 (omega arith) (omega arith) (omega arith) (omega arith)) none
  where
    none : SuitsToken lone_goal (goal_with late_values) g → ⊥
    none suits =
        let has = suits.parts End has_end in
        let value = same_some (pos 11) has.0 (own_value false late_values End has.0 has.1) in
        let inside = end_base has.0 has.2 in
        omega (arith, ints, value, inside)

-- ---- a merge

abbrev two : List RootKind
two = Goal ∷ Goal ∷ []

abbrev itself : Line
itself = lines.Merged g g

abbrev other_goal : Line
other_goal = lines.Token gg false short_values

other_stands : Contains merged_into_itself.lines other_goal
other_stands = contains_later itself other_goal (other_goal ∷ []) (contains_head other_goal [])

itself_plan : IsPlanOf two_goals merged_into_itself
itself_plan =
    let first = root_there [] kind.Plain pred.Plain [] [] two 0 Goal refl in
    two_line_plan two_goals itself other_goal (first, first) (token_line [] kind.Plain pred.Plain [] [] two 1 Goal refl false 0 1 1 1 (omega arith) (omega arith) (omega arith) (omega arith)) (inl roots_before)

pub merged_with_itself : BreaksOnly two_goals merged_into_itself V4 (places.Line 0)
merged_with_itself = record { is_plan = itself_plan; broken = λ kept. (kept itself refl).apart refl; others = others }
  where
    each : (P : Line → Type 0) → P itself → P other_goal → (number : ℕ) (line : Line) → slice_get (itself ∷ other_goal ∷ []) number ≡ Some line → P line
    each P first second = of_two (λ number line. P line) itself other_goal first second

    others : (other : Clause) (elsewhere : Place) → (other ≡ V4 → ⊥) → IsClauseKept two_goals merged_into_itself other elsewhere
    others V2 place apart =
        roots_kept [] kind.Plain pred.Plain [] [] two merged_into_itself
        (of_two (λ number root_kind. Becomes merged_into_itself root_kind (root_token number)) Goal Goal (inr (g, contains_head itself (other_goal ∷ []))) (inl (short_values, other_stands)))
        (each IsLineOfSort tt tt) place
    others V3 place apart =
        tokens_kept [] kind.Plain pred.Plain [] [] two merged_into_itself
        (each (SuitsIfToken two_goals merged_into_itself) tt
        (suits [] kind.Plain pred.Plain [] [] two merged_into_itself 1 Goal refl 0 1 1 1 (own_values [] kind.Plain pred.Plain [] [] two merged_into_itself 1 false short_values other_stands) refl (omega arith) (omega arith) (omega arith)))
        place
    others V4 place apart = absurd (apart refl)
    others V6 place apart =
        asked_kept [] kind.Plain pred.Plain [] [] two merged_into_itself
        (each (IsAsked two_goals merged_into_itself) (asked_root [] kind.Plain pred.Plain [] [] two merged_into_itself 0) (asked_root [] kind.Plain pred.Plain [] [] two merged_into_itself 1)) place
    others other place apart = plain_kept two merged_into_itself other place (λ is. is)

-- ---- what the problem says of a rejectable

abbrev limits : List Item
limits = at_most_one ∷ []

abbrev one_rejectable : List RootKind
one_rejectable = Rejectable ∷ []

-- what a plan of one line keeps where the line does
module _ (line : Line) (becomes : Becomes (lines_alone (line ∷ [])) Rejectable g) (sort : IsLineOfSort line) (suits_token : SuitsIfToken (limited Rejectable) (lines_alone (line ∷ [])) line)
    (suits_merged : SuitsIfMerged (limited Rejectable) (lines_alone (line ∷ [])) line) (asked : IsAsked (limited Rejectable) (lines_alone (line ∷ [])) line) where
  limited_keeps : (clause : Clause) (place : Place) → (clause ≡ V7 → ⊥) → IsClauseKept (limited Rejectable) (lines_alone (line ∷ [])) clause place
  limited_keeps V1 place apart = globals_kept limits kind.Plain pred.Plain [] [] one_rejectable (lines_alone (line ∷ [])) place
  limited_keeps V2 place apart =
      roots_kept limits kind.Plain pred.Plain [] [] one_rejectable (lines_alone (line ∷ []))
      (of_one (λ number root_kind. Becomes (lines_alone (line ∷ [])) root_kind (root_token number)) Rejectable becomes) (line_kept line IsLineOfSort sort) place
  limited_keeps V3 place apart = tokens_kept limits kind.Plain pred.Plain [] [] one_rejectable (lines_alone (line ∷ [])) (line_kept line (SuitsIfToken (limited Rejectable) (lines_alone (line ∷ []))) suits_token) place
  limited_keeps V4 place apart = merges_kept limits kind.Plain pred.Plain [] [] one_rejectable (lines_alone (line ∷ [])) (line_kept line (SuitsIfMerged (limited Rejectable) (lines_alone (line ∷ []))) suits_merged) place
  limited_keeps V5 place apart = open_kept limits kind.Plain pred.Plain one_rejectable (lines_alone (line ∷ [])) place
  limited_keeps V6 place apart = asked_kept limits kind.Plain pred.Plain [] [] one_rejectable (lines_alone (line ∷ [])) (line_kept line (IsAsked (limited Rejectable) (lines_alone (line ∷ []))) asked) place
  limited_keeps V7 place apart = absurd (apart refl)
  limited_keeps V8 place apart = timelines_kept limits kind.Plain pred.Plain [] [] one_rejectable (lines_alone (line ∷ [])) (λ e. cc) place
  limited_keeps V9 place apart = reusables_kept limits kind.Plain pred.Plain [] [] one_rejectable (lines_alone (line ∷ [])) (λ capacity e. cc) place
  limited_keeps V10 place apart = reservoirs_kept limits kind.Plain pred.Plain [] [] one_rejectable (lines_alone (line ∷ [])) (λ initial low high e. cc) place

abbrev quantity : Argument
quantity = Variable (variables.Token g (Param 0))

-- the constraint says one thing of the quantity
module _ (plan : Plan) (claim : Claim) (says : ItemSays (limited Rejectable) (IsTakenIn plan) InProblem at_most_one claim) where
  one_claim : (claim ≡ record { kind = Leq; arguments = quantity ∷ Value (pos 1) ∷ [] }) × All (ArgumentCounts (limited Rejectable) (IsTakenIn plan)) (quantity ∷ Value (pos 1) ∷ [])
  one_claim =
      only_claim (limited Rejectable) (IsTakenIn plan) Leq (term.Root 0 (Param 0)) (term.Lit (pos 1)) quantity (Value (pos 1)) refl (λ x e. e) (λ x e. e) claim
      (record { item = at_most_one; stands = contains_head at_most_one []; says = says })

-- where g takes place with this quantity
module _ (number : ℕ) (few : number ≤ 10) where
  taken_keeps : (clause : Clause) (place : Place) → (clause ≡ V7 → ⊥) → IsClauseKept (limited Rejectable) (goal_with (values_of 0 1 1 number)) clause place
  taken_keeps =
      limited_keeps (takes_place false (values_of 0 1 1 number)) (inl (g_becomes (values_of 0 1 1 number))) tt
      (suits limits kind.Plain pred.Plain [] [] one_rejectable (goal_with (values_of 0 1 1 number)) 0 Rejectable refl 0 1 1 number
      (own_values limits kind.Plain pred.Plain [] [] one_rejectable (goal_with (values_of 0 1 1 number)) 0 false (values_of 0 1 1 number) (contains_head (takes_place false (values_of 0 1 1 number)) [])) refl
      (omega arith) (omega arith) few)
      tt (asked_root limits kind.Plain pred.Plain [] [] one_rejectable (goal_with (values_of 0 1 1 number)) 0)

  pub taken_plan : IsPlanOf (limited Rejectable) (goal_with (values_of 0 1 1 number))
  taken_plan =
      one_line_plan (limited Rejectable) (takes_place false (values_of 0 1 1 number))
      (token_line limits kind.Plain pred.Plain [] [] one_rejectable 0 Rejectable refl false 0 1 1 number (omega arith) (omega arith) (omega arith) (omega (arith, few)))

pub quantity_low : IsValid (limited Rejectable) (goal_with short_values)
quantity_low V7 place = problem_kept limits kind.Plain pred.Plain one_rejectable (goal_with short_values) (of_one (λ number item. IsTrueItem (limited Rejectable) (goal_with short_values) item) at_most_one true_here) place
  where
    true_here : IsTrueItem (limited Rejectable) (goal_with short_values) at_most_one
    true_here claim says =
        let most : pos 1 ≤ℤ pos 1 = omega (arith, ints) in
        subst (IsClaimTrue (limited Rejectable) (goal_with short_values)) (sym (one_claim (goal_with short_values) claim says).0)
        (record { values = pos 1 ∷ pos 1 ∷ []; have = (inl (short_values, (false, contains_head (takes_place false short_values) []), refl), (refl, tt)); holds = most })
quantity_low clause place = taken_keeps 1 (omega arith) clause place (λ e. cc)

pub quantity_high : BreaksOnly (limited Rejectable) (goal_with (values_of 0 1 1 2)) V7 (places.Problem 0)
quantity_high = record { is_plan = taken_plan 2 (omega arith); broken = broken; others = taken_keeps 2 (omega arith) }
  where
    counts : (argument : Argument) → Contains (quantity ∷ Value (pos 1) ∷ []) argument → ArgumentCounts (limited Rejectable) (IsTakenIn (goal_with (values_of 0 1 1 2))) argument
    counts argument c = elim (contains_cases quantity argument (Value (pos 1) ∷ []) c) [
      | inl same ↦ subst (ArgumentCounts (limited Rejectable) (IsTakenIn (goal_with (values_of 0 1 1 2)))) same
          (λ token belongs rejectable. subst (IsTakenIn (goal_with (values_of 0 1 1 2))) belongs (g_becomes (values_of 0 1 1 2)))
      | inr later ↦ subst (ArgumentCounts (limited Rejectable) (IsTakenIn (goal_with (values_of 0 1 1 2)))) (only_member (Value (pos 1)) argument later) tt
    ]

    too_high : (values : List ℤ) → AllZip (HasArgumentValue (goal_with (values_of 0 1 1 2))) (quantity ∷ Value (pos 1) ∷ []) values → HoldsOf Leq values → ⊥
    too_high [] have holds = have
    too_high (v ∷ []) have holds = have.1
    too_high (v ∷ w ∷ more ∷ rest) have holds = have.1.1
    too_high (v ∷ w ∷ []) have holds = let same = same_some (pos 2) v (own_value false (values_of 0 1 1 2) (Param 0) v have.0) in omega (arith, ints, same, have.1.0, holds)

    broken : IsBroken (limited Rejectable) (goal_with (values_of 0 1 1 2)) V7 (places.Problem 0)
    broken kept =
        let is = kept at_most_one refl (record { kind = Leq; arguments = quantity ∷ Value (pos 1) ∷ [] }) (record {
          is_kind = refl;
          means = (refl, (refl, tt));
          counts = all_members (ArgumentCounts (limited Rejectable) (IsTakenIn (goal_with (values_of 0 1 1 2)))) (quantity ∷ Value (pos 1) ∷ []) counts;
        }) in
        too_high is.values is.have is.holds

pub unlimited_plan : IsPlanOf (limited Rejectable) rejected_alone
unlimited_plan = one_line_plan (limited Rejectable) (lines.Rejected g) (root_there limits kind.Plain pred.Plain [] [] one_rejectable 0 Rejectable refl)

-- nothing counts of a rejected token
pub quantity_unlimited : IsValid (limited Rejectable) rejected_alone
quantity_unlimited V7 place = problem_kept limits kind.Plain pred.Plain one_rejectable rejected_alone (of_one (λ number item. IsTrueItem (limited Rejectable) rejected_alone item) at_most_one true_here) place
  where
    not_taken : IsTakenIn rejected_alone g → ⊥
    not_taken (inl activated) = let same = only_member (lines.Rejected g) (lines.Token g false activated.0) activated.1 in cc
    not_taken (inr merged) = let same = only_member (lines.Rejected g) (lines.Merged g merged.0) merged.1 in cc

    true_here : IsTrueItem (limited Rejectable) rejected_alone at_most_one
    true_here claim says =
        let counts = (one_claim rejected_alone claim says).1 0 quantity (omega arith) in
        absurd (not_taken (counts g refl (refl, (root_of 0 Rejectable, refl, refl))))
quantity_unlimited clause place =
    limited_keeps (lines.Rejected g) (inr (contains_head (lines.Rejected g) [])) refl tt tt (asked_root limits kind.Plain pred.Plain [] [] one_rejectable rejected_alone 0) clause place (λ e. cc)
