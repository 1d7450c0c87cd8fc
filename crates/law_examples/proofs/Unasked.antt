-- Plans with a local: what the rule of a token asks for is there, and nothing else is.
use Rattle.std.proofs.Common.{◌≡◌, ◌≤◌, ℕ, zero, suc, List, [], ◌∷◌, Some, ℤ, pos, false, inl, inr, refl, sym, ap, ◌∙◌, subst, arith}
use Rattle.std.specs.Prelude.{Contains, slice_get, ⊤}
use Rattle.std.proofs.lemmas.Int.{ints}
use Rattle.domain_core.specs.Domain.{Has}
use Rattle.eu_name.specs.declared.name.TokenName.{TokenName}
use Rattle.eu_name.specs.declared.name.VarName.TheVariants as variables
use Rattle.model_core.specs.declared.class.ObjectKind.TheVariants as kind
use Rattle.model_core.specs.declared.class.PredKind.TheVariants as pred
use Rattle.model_core.specs.declared.model.Model.{Model}
use Rattle.model_core.specs.declared.model.RootKind.{RootKind}
use Rattle.model_core.specs.declared.model.RootKind.TheVariants.{Goal, Rejectable}
use Rattle.model_core.specs.declared.rule.Guard.{Guard}
use Rattle.model_core.specs.declared.rule.Rule.{Rule}
use Rattle.model_core.specs.declared.rule.Side.{Side}
use Rattle.model_core.specs.declared.rule.Slot.{Slot}
use Rattle.model_core.specs.declared.rule.Turn.{Turn}
use Rattle.model_core.specs.declared.variable.Base.TheVariants.{Given}
use Rattle.model_core.specs.declared.variable.VarDecl.{VarDecl}
use Rattle.model_core.specs.Blocks.{HasBlock, Follows, Direct, OfSlot, OfLocal, direct}
use Rattle.model_core.specs.Entries.{Entries}
use Rattle.model_core.specs.Numbers.{PlacedItem, IsItemOf}
use Rattle.model_core.specs.Tokens.{HasToken, HasRule, root_token}
use Rattle.plan_defs.specs.declared.plan.Clause.{Clause}
use Rattle.plan_defs.specs.declared.plan.Clause.TheVariants.{V1, V2, V3, V4, V5, V6, V7, V8, V9, V10}
use Rattle.plan_defs.specs.declared.plan.Line.{Line}
use Rattle.plan_defs.specs.declared.plan.Line.TheVariants as lines
use Rattle.plan_defs.specs.declared.plan.Place.{Place}
use Rattle.plan_defs.specs.declared.plan.Place.TheVariants as places
use Rattle.plan_defs.specs.declared.plan.Plan.{Plan}
use Rattle.plan_defs.specs.Plans.{IsLineOf, IsPlanOf, IsActivatedIn, plan_situation}
use Rattle.plan_defs.specs.Refusals.{IsDeclared}
use Rattle.plan_defs.specs.Support.{Opens}
use Rattle.plan_defs.specs.Terms.{InRule}
use Rattle.plan_defs.specs.Valid.{HasDeclaredValue, AsksForLocal, IsActivatedAt, IsLineOfSort, SuitsIfToken, SuitsIfMerged, IsAsked, Becomes, KeepsOpen, KeepsItems, IsClauseKept, IsValid}
use Rattle.eu_name.proofs.Ordered.{contains_head, contains_later, contains_cases}
use Rattle.law_examples.specs.Cases.{localised}
use Rattle.law_examples.specs.Globals.{up_to}
use Rattle.law_examples.specs.Plans.{BreaksOnly, short_values, takes_place, goal_with, local_of_g, local_is, goal_and_local, localised_rejectable, rejected_alone, rejected_and_local}
use Rattle.law_examples.specs.Scenes.{both_objects, predicate_of, root_of, scene, with_local}
use Rattle.law_examples.specs.Swaps.{g}
use Rattle.law_examples.proofs.Casts.{one_rule}
use Rattle.law_examples.proofs.Closed.{slot_same}
use Rattle.law_examples.proofs.Lists.{only_member, same_some}
use Rattle.law_examples.proofs.Locals.{way_is}
use Rattle.law_examples.proofs.Planned.{of_one, of_two, globals_kept, roots_kept, tokens_kept, merges_kept, asked_kept, asked_root, timelines_kept, reusables_kept, reservoirs_kept, suits, own_values, root_there, token_line, one_line_plan, two_line_plan}

-- ---- the rule

-- one root of this kind
abbrev with_rule : RootKind → Model
with_rule root_kind = scene kind.Plain pred.Plain (0 ∷ []) (with_local ∷ []) (root_kind ∷ [])

module _ (root_kind : RootKind) (Allows : Guard → Side → Type 0) (token : TokenName) (is_g : token ≡ g) (rule : ℕ) (path : List Turn) (entries : Entries)
    (has : HasBlock (with_rule root_kind) Allows (record { token = token; rule = rule; path = path }) entries) where
  found_rule : (has.rule ≡ with_local) × (rule ≡ 0)
  found_rule =
      let slot = slot_same [] kind.Plain pred.Plain (0 ∷ []) (with_local ∷ []) (root_kind ∷ []) 0 has.slot (subst (λ t. HasToken (with_rule root_kind) t has.slot) is_g has.has_token) in
      one_rule [] with_local kind.Plain pred.Plain (root_kind ∷ []) rule has.rule (subst (λ (s : Slot). HasRule (with_rule root_kind) s.pred rule has.rule) slot has.has_rule)

  -- the block is the rule's own, in which the local stands alone
  own_block : entries ≡ with_local.top
  own_block = (way_is Allows path entries (subst (λ (r : Rule). Follows Allows r.top path entries) found_rule.0 has.way)).1

  only_local : (item : Direct) → Contains (direct entries) item → OfLocal 0 ≡ item
  only_local item c = only_member (OfLocal 0) item (subst (λ e. Contains (direct e) item) own_block c)

  no_item : (number : ℕ) (placed : PlacedItem) → IsItemOf has.rule number placed → ⊥
  no_item number placed is = let none : slice_get [] number ≡ Some placed = subst (λ (r : Rule). IsItemOf r number placed) found_rule.0 is in cc

-- ---- plans in which no other token than g takes place

-- the clause is about the lines of a plan, or about what has to be there
abbrev IsOfLines : Clause → Type 0
IsOfLines V2 = ⊤
IsOfLines V3 = ⊤
IsOfLines V4 = ⊤
IsOfLines V5 = ⊤
IsOfLines V6 = ⊤
IsOfLines clause = ⊥

module _ (root_kind : RootKind) (plan : Plan) (only : (place : ℕ) (token : TokenName) → IsActivatedAt plan place token → token ≡ g) where
  -- no slot is asked for, and of locals that of g alone
  open_is_kept : ((place : ℕ) → IsActivatedAt plan place g → HasDeclaredValue (with_rule root_kind) plan local_of_g) → (place : Place) → KeepsOpen (with_rule root_kind) plan place
  open_is_kept there (places.Slot line rule slot) = λ token at asks.
      let same = only_local root_kind (Opens (with_rule root_kind) (plan_situation plan) (InRule token rule)) token (only line token at) rule asks.path asks.entries asks.is_open.has_block (OfSlot slot) asks.stands in
      absurd (cc)
  open_is_kept there (places.Local line rule number) = λ token at asks.
      let is_g = only line token at in
      let same = only_local root_kind (Opens (with_rule root_kind) (plan_situation plan) (InRule token rule)) token is_g rule asks.path asks.entries asks.is_open.has_block (OfLocal number) asks.stands in
      let is_number : 0 ≡ number = cc in
      let is_rule = (found_rule root_kind (Opens (with_rule root_kind) (plan_situation plan) (InRule token rule)) token is_g rule asks.path asks.entries asks.is_open.has_block).1 in
      named token rule number is_g is_rule is_number (there line (subst (IsActivatedAt plan line) is_g at))
    where
      named : (token : TokenName) (rule number : ℕ) → token ≡ g → rule ≡ 0 → 0 ≡ number → HasDeclaredValue (with_rule root_kind) plan local_of_g → HasDeclaredValue (with_rule root_kind) plan (variables.Local token rule number)
      named token rule number is_g is_rule is_number has =
          subst (λ n. HasDeclaredValue (with_rule root_kind) plan (variables.Local token rule n)) is_number
          (subst (λ r. HasDeclaredValue (with_rule root_kind) plan (variables.Local token r 0)) (sym is_rule)
          (subst (λ t. HasDeclaredValue (with_rule root_kind) plan (variables.Local t 0 0)) (sym is_g) has))
  open_is_kept there place = tt

  items_are_kept : (place : Place) → KeepsItems (with_rule root_kind) plan place
  items_are_kept (places.Problem number) = λ item at. absurd (cc)
  items_are_kept (places.Item line rule number) = λ token at placed entries is_open claim item says.
      absurd (no_item root_kind (Opens (with_rule root_kind) (plan_situation plan) (InRule token rule)) token (only line token at) rule placed.path entries is_open.has_block number placed item)
  items_are_kept place = tt

  -- such a plan keeps the clauses that are about neither lines nor what is open
  others_kept : (clause : Clause) (place : Place) → (IsOfLines clause → ⊥) → IsClauseKept (with_rule root_kind) plan clause place
  others_kept V1 place not_lines = globals_kept [] kind.Plain pred.Plain (0 ∷ []) (with_local ∷ []) (root_kind ∷ []) plan place
  others_kept V2 place not_lines = absurd (not_lines tt)
  others_kept V3 place not_lines = absurd (not_lines tt)
  others_kept V4 place not_lines = absurd (not_lines tt)
  others_kept V5 place not_lines = absurd (not_lines tt)
  others_kept V6 place not_lines = absurd (not_lines tt)
  others_kept V7 place not_lines = items_are_kept place
  others_kept V8 place not_lines = timelines_kept [] kind.Plain pred.Plain (0 ∷ []) (with_local ∷ []) (root_kind ∷ []) plan (λ e. cc) place
  others_kept V9 place not_lines = reusables_kept [] kind.Plain pred.Plain (0 ∷ []) (with_local ∷ []) (root_kind ∷ []) plan (λ capacity e. cc) place
  others_kept V10 place not_lines = reservoirs_kept [] kind.Plain pred.Plain (0 ∷ []) (with_local ∷ []) (root_kind ∷ []) plan (λ initial low high e. cc) place

-- ---- the goal

abbrev goal_line : Line
goal_line = takes_place false short_values

-- the rule of an activated goal asks for the local
asks_for_local : (plan : Plan) → Contains plan.lines goal_line → AsksForLocal localised plan g 0 0
asks_for_local plan stands = record {
  path = [];
  entries = with_local.top;
  is_open = record {
    activated = (short_values, stands);
    has_block = record {
      slot = record { pred = 0; object = Given both_objects };
      has_token = record { root = root_of 0 Goal; is_root = refl; reached = refl };
      rule = with_local;
      has_rule = record { predicate = predicate_of pred.Plain (0 ∷ []); place = 0; is_predicate = refl; listed = refl; is_rule = refl };
      way = refl;
    };
  };
  stands = contains_head (OfLocal 0) [];
}

-- the local is declared with what is from 0 to 2
zero_declared : IsDeclared localised local_of_g (pos 0)
zero_declared = (
  up_to 2,
  record {
    slot = record { pred = 0; object = Given both_objects };
    has_token = record { root = root_of 0 Goal; is_root = refl; reached = refl };
    variable = _;
    has_local = record {
      found = with_local;
      has_rule = record { predicate = predicate_of pred.Plain (0 ∷ []); place = 0; is_predicate = refl; listed = refl; is_rule = refl };
      declared = refl;
    };
    is_base = refl;
  },
  (omega (arith, ints), omega (arith, ints)),
)

local_base : (value : ℤ) → IsDeclared localised local_of_g value → Has (up_to 2) value
local_base value is =
    let has = is.1 in
    let slot = slot_same [] kind.Plain pred.Plain (0 ∷ []) (with_local ∷ []) (Goal ∷ []) 0 has.slot has.has_token in
    let rule = (one_rule [] with_local kind.Plain pred.Plain (Goal ∷ []) 0 has.has_local.found (subst (λ (s : Slot). HasRule localised s.pred 0 has.has_local.found) slot has.has_local.has_rule)).0 in
    let declared = subst (λ (r : Rule). slice_get r.locals 0 ≡ Some has.variable) rule has.has_local.declared in
    let variable = same_some _ has.variable declared in
    let bases : Given is.0 ≡ Given (up_to 2) = has.is_base ∙ sym (ap (λ (v : VarDecl). v.base) variable) in
    let domain : is.0 ≡ up_to 2 = cc in
    subst (λ d. Has d value) domain is.2

-- with the local, whatever its value is
module _ (value : ℕ) where
  abbrev whole : Plan
  whole = goal_and_local value

  abbrev the_local : Line
  the_local = local_is value

  goal_stands : Contains whole.lines goal_line
  goal_stands = contains_head goal_line (the_local ∷ [])

  each_line : (P : Line → Type 0) → P goal_line → P the_local → (number : ℕ) (line : Line) → slice_get (goal_line ∷ the_local ∷ []) number ≡ Some line → P line
  each_line P first second = of_two (λ number line. P line) goal_line the_local first second

  only_g : (place : ℕ) (token : TokenName) → IsActivatedAt whole place token → token ≡ g
  only_g zero token at = let same = same_some goal_line (lines.Token token false at.0) at.1 in cc
  only_g (suc zero) token at = let same = same_some the_local (lines.Token token false at.0) at.1 in absurd (cc)
  only_g (suc (suc place)) token at = let none = at.1 in absurd (cc)

  whole_keeps : (clause : Clause) (place : Place) → (clause ≡ V5 → ⊥) → IsClauseKept localised whole clause place
  whole_keeps V2 place apart =
      roots_kept [] kind.Plain pred.Plain (0 ∷ []) (with_local ∷ []) (Goal ∷ []) whole
      (of_one (λ number root_kind. Becomes whole root_kind (root_token number)) Goal (inl (short_values, goal_stands))) (each_line IsLineOfSort tt tt) place
  whole_keeps V3 place apart =
      tokens_kept [] kind.Plain pred.Plain (0 ∷ []) (with_local ∷ []) (Goal ∷ []) whole
      (each_line (SuitsIfToken localised whole)
      (suits [] kind.Plain pred.Plain (0 ∷ []) (with_local ∷ []) (Goal ∷ []) whole 0 Goal refl 0 1 1 1
      (own_values [] kind.Plain pred.Plain (0 ∷ []) (with_local ∷ []) (Goal ∷ []) whole 0 false short_values goal_stands) refl (omega arith) (omega arith) (omega arith)) tt)
      place
  whole_keeps V4 place apart = merges_kept [] kind.Plain pred.Plain (0 ∷ []) (with_local ∷ []) (Goal ∷ []) whole (each_line (SuitsIfMerged localised whole) tt tt) place
  whole_keeps V5 place apart = absurd (apart refl)
  whole_keeps V6 place apart =
      asked_kept [] kind.Plain pred.Plain (0 ∷ []) (with_local ∷ []) (Goal ∷ []) whole
      (each_line (IsAsked localised whole) (asked_root [] kind.Plain pred.Plain (0 ∷ []) (with_local ∷ []) (Goal ∷ []) whole 0) (asks_for_local whole goal_stands)) place
  whole_keeps clause place apart = others_kept Goal whole only_g clause place (λ is. is)

local_line : (root_kind : RootKind) (value : ℕ) → value ≤ 10 → IsLineOf (with_rule root_kind) (local_is value)
local_line root_kind value few = (
  record { pred = 0; object = Given both_objects },
  record { root = root_of 0 root_kind; is_root = refl; reached = refl },
  (
    _,
    record {
      found = with_local;
      has_rule = record { predicate = predicate_of pred.Plain (0 ∷ []); place = 0; is_predicate = refl; listed = refl; is_rule = refl };
      declared = refl;
    },
    (omega (arith, ints), omega (arith, ints, few)),
  ),
)

short_line : IsLineOf localised goal_line
short_line = token_line [] kind.Plain pred.Plain (0 ∷ []) (with_local ∷ []) (Goal ∷ []) 0 Goal refl false 0 1 1 1 (omega arith) (omega arith) (omega arith) (omega arith)

pub local_plan : (value : ℕ) → value ≤ 10 → IsPlanOf localised (goal_and_local value)
local_plan value few = two_line_plan localised goal_line (local_is value) short_line (local_line Goal value few) (inr (refl, tt))

pub local_there : IsValid localised (goal_and_local 0)
local_there V5 place =
    open_is_kept Goal (goal_and_local 0) (only_g 0)
    (λ line at. (pos 0, contains_later goal_line (local_is 0) (local_is 0 ∷ []) (contains_head (local_is 0) []), zero_declared)) place
local_there clause place = whole_keeps 0 clause place (λ e. cc)

pub local_outside : BreaksOnly localised (goal_and_local 3) V5 (places.Local 0 0 0)
local_outside = record { is_plan = local_plan 3 (omega arith); broken = λ kept. outside (kept g (short_values, refl) (asks_for_local (goal_and_local 3) (goal_stands 3))); others = whole_keeps 3 }
  where
    three : (value : ℤ) → Contains (goal_and_local 3).lines (lines.Local local_of_g value) → pos 3 ≡ value
    three value c = elim (contains_cases goal_line (lines.Local local_of_g value) (local_is 3 ∷ []) c) [
      | inl same ↦ absurd (cc)
      | inr later ↦ (let same = only_member (local_is 3) (lines.Local local_of_g value) later in cc)
    ]

    outside : HasDeclaredValue localised (goal_and_local 3) local_of_g → ⊥
    outside has =
        let is = three has.0 has.1 in
        let inside = local_base has.0 has.2 in
        omega (arith, ints, is, inside.1)

pub local_missing : BreaksOnly localised (goal_with short_values) V5 (places.Local 0 0 0)
local_missing = record { is_plan = one_line_plan localised goal_line short_line; broken = λ kept. none (kept g (short_values, refl) (asks_for_local (goal_with short_values) (contains_head goal_line []))); others = others }
  where
    none : HasDeclaredValue localised (goal_with short_values) local_of_g → ⊥
    none has = let same = only_member goal_line (lines.Local local_of_g has.0) has.1 in cc

    lone_g : (place : ℕ) (token : TokenName) → IsActivatedAt (goal_with short_values) place token → token ≡ g
    lone_g zero token at = let same = same_some goal_line (lines.Token token false at.0) at.1 in cc
    lone_g (suc place) token at = let nothing = at.1 in absurd (cc)

    others : (other : Clause) (elsewhere : Place) → (other ≡ V5 → ⊥) → IsClauseKept localised (goal_with short_values) other elsewhere
    others V2 place apart =
        roots_kept [] kind.Plain pred.Plain (0 ∷ []) (with_local ∷ []) (Goal ∷ []) (goal_with short_values)
        (of_one (λ number root_kind. Becomes (goal_with short_values) root_kind (root_token number)) Goal (inl (short_values, contains_head goal_line [])))
        (of_one (λ number line. IsLineOfSort line) goal_line tt) place
    others V3 place apart =
        tokens_kept [] kind.Plain pred.Plain (0 ∷ []) (with_local ∷ []) (Goal ∷ []) (goal_with short_values)
        (of_one (λ number line. SuitsIfToken localised (goal_with short_values) line) goal_line
        (suits [] kind.Plain pred.Plain (0 ∷ []) (with_local ∷ []) (Goal ∷ []) (goal_with short_values) 0 Goal refl 0 1 1 1
        (own_values [] kind.Plain pred.Plain (0 ∷ []) (with_local ∷ []) (Goal ∷ []) (goal_with short_values) 0 false short_values (contains_head goal_line [])) refl (omega arith) (omega arith) (omega arith)))
        place
    others V4 place apart =
        merges_kept [] kind.Plain pred.Plain (0 ∷ []) (with_local ∷ []) (Goal ∷ []) (goal_with short_values)
        (of_one (λ number line. SuitsIfMerged localised (goal_with short_values) line) goal_line tt) place
    others V5 place apart = absurd (apart refl)
    others V6 place apart =
        asked_kept [] kind.Plain pred.Plain (0 ∷ []) (with_local ∷ []) (Goal ∷ []) (goal_with short_values)
        (of_one (λ number line. IsAsked localised (goal_with short_values) line) goal_line (asked_root [] kind.Plain pred.Plain (0 ∷ []) (with_local ∷ []) (Goal ∷ []) (goal_with short_values) 0)) place
    others clause place apart = others_kept Goal (goal_with short_values) lone_g clause place (λ is. is)

-- ---- the rejectable

abbrev rejection : Line
rejection = lines.Rejected g

-- neither plan activates anything
none_alone : (place : ℕ) (token : TokenName) → IsActivatedAt rejected_alone place token → ⊥
none_alone zero token at = let same = same_some rejection (lines.Token token false at.0) at.1 in cc
none_alone (suc place) token at = let nothing = at.1 in cc

none_beside : (place : ℕ) (token : TokenName) → IsActivatedAt rejected_and_local place token → ⊥
none_beside zero token at = let same = same_some rejection (lines.Token token false at.0) at.1 in cc
none_beside (suc zero) token at = let same = same_some (local_is 0) (lines.Token token false at.0) at.1 in cc
none_beside (suc (suc place)) token at = let nothing = at.1 in cc

-- g is rejected, and nothing is open
module _ (plan : Plan) (none : (place : ℕ) (token : TokenName) → IsActivatedAt plan place token → ⊥) (stands : Contains plan.lines rejection) where
  rejectable_keeps : (clause : Clause) (place : Place)
      → ((number : ℕ) (line : Line) → slice_get plan.lines number ≡ Some line → IsLineOfSort line × (SuitsIfToken localised_rejectable plan line × SuitsIfMerged localised_rejectable plan line))
      → ((clause ≡ V6) → (number : ℕ) (line : Line) → slice_get plan.lines number ≡ Some line → IsAsked localised_rejectable plan line)
      → IsClauseKept localised_rejectable plan clause place
  rejectable_keeps V2 place each asked =
      roots_kept [] kind.Plain pred.Plain (0 ∷ []) (with_local ∷ []) (Rejectable ∷ []) plan
      (of_one (λ number root_kind. Becomes plan root_kind (root_token number)) Rejectable (inr stands)) (λ number line at. (each number line at).0) place
  rejectable_keeps V3 place each asked = tokens_kept [] kind.Plain pred.Plain (0 ∷ []) (with_local ∷ []) (Rejectable ∷ []) plan (λ number line at. (each number line at).1.0) place
  rejectable_keeps V4 place each asked = merges_kept [] kind.Plain pred.Plain (0 ∷ []) (with_local ∷ []) (Rejectable ∷ []) plan (λ number line at. (each number line at).1.1) place
  rejectable_keeps V5 place each asked = open_is_kept Rejectable plan (λ line token at. absurd (none line token at)) (λ line at. absurd (none line g at)) place
  rejectable_keeps V6 place each asked = asked_kept [] kind.Plain pred.Plain (0 ∷ []) (with_local ∷ []) (Rejectable ∷ []) plan (asked refl) place
  rejectable_keeps clause place each asked = others_kept Rejectable plan (λ line token at. absurd (none line token at)) clause place (λ is. is)

-- what a line keeps by itself
abbrev Itself : Plan → Line → Type 0
Itself plan line = IsLineOfSort line × (SuitsIfToken localised_rejectable plan line × SuitsIfMerged localised_rejectable plan line)

rejection_line : IsLineOf localised_rejectable rejection
rejection_line = root_there [] kind.Plain pred.Plain (0 ∷ []) (with_local ∷ []) (Rejectable ∷ []) 0 Rejectable refl

pub rejected_plan : IsPlanOf localised_rejectable rejected_alone
rejected_plan = one_line_plan localised_rejectable rejection rejection_line

pub rejected_valid : IsValid localised_rejectable rejected_alone
rejected_valid clause place =
    rejectable_keeps rejected_alone none_alone (contains_head rejection []) clause place
    (of_one (λ number line. Itself rejected_alone line) rejection (refl, (tt, tt)))
    (λ e. of_one (λ number line. IsAsked localised_rejectable rejected_alone line) rejection (asked_root [] kind.Plain pred.Plain (0 ∷ []) (with_local ∷ []) (Rejectable ∷ []) rejected_alone 0))

pub local_unasked : BreaksOnly localised_rejectable rejected_and_local V6 (places.Line 1)
local_unasked = record {
  is_plan = two_line_plan localised_rejectable rejection (local_is 0) rejection_line (local_line Rejectable 0 (omega arith)) (inr (refl, tt));
  broken = λ kept. closed (kept (local_is 0) refl);
  others = λ other place apart.
      rejectable_keeps rejected_and_local none_beside (contains_head rejection (local_is 0 ∷ [])) other place
      (of_two (λ number line. Itself rejected_and_local line) rejection (local_is 0) (refl, (tt, tt)) (tt, (tt, tt)))
      (λ e. absurd (apart e));
}
  where
    -- g isn't activated
    closed : AsksForLocal localised_rejectable rejected_and_local g 0 0 → ⊥
    closed asks =
        let activated : IsActivatedIn rejected_and_local g = asks.is_open.activated in
        elim (contains_cases rejection (lines.Token g false activated.0) (local_is 0 ∷ []) activated.1) [
          | inl same ↦ cc
          | inr later ↦ (let same = only_member (local_is 0) (lines.Token g false activated.0) later in cc)
        ]
