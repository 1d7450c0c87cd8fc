-- Going through the rules of a token, and through the lines of a plan.
use Rattle.std.proofs.Common.{◌≡◌, ℕ, zero, suc, ◌+◌, ◌<◌, ◌≤◌, ℤ, Bool, true, false, List, [], ◌∷◌, length, Some, inl, inr, refl, sym, ap, ◌∙◌, subst, arith}
use Rattle.std.specs.Prelude.{slice_get, Contains, MatchBool, ⊤}
use Rattle.std.specs.List.{AllZip}
use Rattle.std.proofs.lemmas.Bool.{cases_lt}
use Rattle.eu_name.specs.declared.name.TokenName.{TokenName}
use Rattle.eu_name.specs.declared.name.VarName.TheVariants as variables
use Rattle.eu_name.proofs.Members.{get_same, get_below, contains_from_get, get_from_contains}
use Rattle.model_core.specs.declared.class.Pred.{Pred}
use Rattle.model_core.specs.declared.model.Model.{Model}
use Rattle.model_core.specs.declared.rule.Rule.{Rule}
use Rattle.model_core.specs.declared.rule.Slot.{Slot}
use Rattle.model_core.specs.declared.rule.Turn.{Turn}
use Rattle.model_core.specs.Blocks.{Direct, OfSlot, OfLocal, direct}
use Rattle.model_core.specs.Entries.{Entries}
use Rattle.model_core.specs.Lawful.{IsLawful}
use Rattle.model_core.specs.Standing.{LeadsToBlock}
use Rattle.model_core.specs.Tokens.{slot_token, HasPred}
use Rattle.model_core.proofs.Items.{item_within}
use Rattle.model_core.proofs.Leading.{token_once}
use Rattle.plan_defs.specs.declared.plan.Clause.{Clause}
use Rattle.plan_defs.specs.declared.plan.Clause.TheVariants.{V5}
use Rattle.plan_defs.specs.declared.plan.Line.{Line}
use Rattle.plan_defs.specs.declared.plan.Line.TheVariants as lines
use Rattle.plan_defs.specs.declared.plan.Place.{Place}
use Rattle.plan_defs.specs.declared.plan.Place.TheVariants as places
use Rattle.plan_defs.specs.declared.plan.Plan.{Plan}
use Rattle.plan_defs.specs.Broken.{AreLesserNames, IsLeastBroken}
use Rattle.plan_defs.specs.Plans.{order_name, IsTakenIn, IsActivatedIn, GivesValue, plan_situation}
use Rattle.plan_defs.specs.Refusals.{IsDeclared}
use Rattle.plan_defs.specs.Support.{AsksFor}
use Rattle.plan_defs.specs.Terms.{InRule}
use Rattle.plan_defs.specs.Valid.{HasDeclaredValue, IsLineAt, IsActivatedAt, AsksForLocal, IsClauseKept, KeepsOpen}
use Rattle.plan_defs.proofs.Lower.{Follows-map}
use Rattle.plan_values.specs.Keys.{IsOrderly}
use Rattle.plan_values.specs.Openings.{Allows, StandsInRule}
use Rattle.plan_values.specs.Walks.{HasRuleOf}
use Rattle.plan_values.proofs.Few.{few_of}
use Rattle.plan_values.proofs.Matching.{match_bool}
use Rattle.plan_values.proofs.Naming.{of_token, isnt_active}
use Rattle.plan_values.proofs.Ruling.{one_rule}
use Rattle.plan_values.proofs.Valuing.{gives_once, zip_length}
use Rattle.plan_inventory.specs.Asking.{IsSlotKept, IsLocalKept, IsOnLine, IsLeastOnLine}
use Rattle.plan_inventory.specs.Breaks.{IsFirstNumber, IsFirstInRules, IsActivatedBy}
use Rattle.plan_inventory.proofs.Suiting.{asks_stands, stands_asks, local_stands, stands_local}

-- ---- one slot, one local

module _ (Marked : Type 0) (marked : Marked) where
  pub slot_kept_answer : (plan : Plan) (token taken : TokenName) (rule slot number : ℕ) (answer : Bool) → number ≡ slot → taken ≡ slot_token token rule number
      → MatchBool answer (IsTakenIn plan taken) (IsTakenIn plan taken → ⊥)
      → MatchBool answer (Marked → IsTakenIn plan (slot_token token rule slot)) ((Marked → IsTakenIn plan (slot_token token rule slot)) → ⊥)
  slot_kept_answer plan token taken rule slot number answer same is taking =
      let names : taken ≡ slot_token token rule slot = is ∙ ap (slot_token token rule) same in
      match_bool answer _ _ _ _
      (λ is_taken also. subst (IsTakenIn plan) names is_taken)
      (λ not_taken keeps. not_taken (subst (IsTakenIn plan) (sym names) (keeps marked))) taking

  -- where it is marked, it is so
  pub where_marked : (P : Type 0) (answer : Bool) → MatchBool answer P (P → ⊥) → MatchBool answer (Marked → P) ((Marked → P) → ⊥)
  where_marked P answer is = match_bool answer _ _ _ _ (λ holds also. holds) (λ fails keeps. fails (keeps marked)) is

module _ (model : Model) (plan : Plan) (token : TokenName) (rule slot number : ℕ) (same : number ≡ slot) where
  pub local_value_answer : (named : TokenName) (value value' : ℤ) (answer : Bool) → IsOrderly plan → named ≡ token → value' ≡ value → GivesValue plan (variables.Local named rule number) value
      → MatchBool answer (IsDeclared model (variables.Local token rule slot) value') (IsDeclared model (variables.Local token rule slot) value' → ⊥)
      → MatchBool answer (HasDeclaredValue model plan (variables.Local token rule slot)) (HasDeclaredValue model plan (variables.Local token rule slot) → ⊥)
  local_value_answer named value value' answer ok names cast gives is =
      let given : GivesValue plan (variables.Local token rule slot) value = subst (λ (n : ℕ). GivesValue plan (variables.Local token rule n) value) same
      (subst (λ (t : TokenName). GivesValue plan (variables.Local t rule number) value) names gives) in
      match_bool answer _ _ _ _
      (λ declared. (value, given, subst (IsDeclared model (variables.Local token rule slot)) cast declared))
      (λ none has. none (subst (IsDeclared model (variables.Local token rule slot))
      (gives_once plan ok (variables.Local token rule slot) has.0 value has.1 given ∙ sym cast) has.2)) is

  pub local_valueless : (named : TokenName) → named ≡ token → ((value : ℤ) → GivesValue plan (variables.Local named rule number) value → ⊥) → HasDeclaredValue model plan (variables.Local token rule slot) → ⊥
  local_valueless named names none has =
      none has.0 (subst (λ (n : ℕ). GivesValue plan (variables.Local named rule n) has.0) (sym same)
      (subst (λ (t : TokenName). GivesValue plan (variables.Local t rule slot) has.0) (sym names) has.1))

-- ---- how many there are

module _ (model : Model) (lawful : IsLawful model) (token : TokenName) (number : ℕ) (rule : Rule) (is : HasRuleOf model token number rule) where
  -- a slot that stands in the rule is one of it
  slot_within : (path : List Turn) (block : Entries) (slot : ℕ) → LeadsToBlock rule.top path block → Contains (direct block) (OfSlot slot) → slot < length rule.slots
  slot_within path block slot way stands =
      let at = get_from_contains (direct block) (OfSlot slot) stands in
      let entry = (few_of model token number rule lawful is).lawful.entries path at.0 (OfSlot slot) (record { block = block; way = way; stands = at.1 }) in
      item_within rule.slots slot entry.1.0 entry.1.1

  local_within : (path : List Turn) (block : Entries) (local : ℕ) → LeadsToBlock rule.top path block → Contains (direct block) (OfLocal local) → local < length rule.locals
  local_within path block local way stands =
      let at = get_from_contains (direct block) (OfLocal local) stands in
      let entry = (few_of model token number rule lawful is).lawful.entries path at.0 (OfLocal local) (record { block = block; way = way; stands = at.1 }) in
      item_within rule.locals local entry.1.0 entry.1.1

  way_in : (plan : Plan) (what : Direct) → (there : StandsInRule model plan token number what) → LeadsToBlock rule.top there.inside.0 there.inside.1.0
  way_in plan what there =
      let rules = one_rule model token number there.rule rule (record { slot = there.slot; has_token = there.has_token; has_rule = there.has_rule }) is in
      let way = Follows-map (Allows model plan (InRule token number)) (λ guard side. ⊤) (λ guard side allowed. tt) there.rule.top there.inside.0 there.inside.1.0 there.inside.1.1 in
      subst (λ (r : Rule). LeadsToBlock r.top there.inside.0 there.inside.1.0) rules way

  pub slot_below : (plan : Plan) (slot : ℕ) → StandsInRule model plan token number (OfSlot slot) → slot < length rule.slots
  slot_below plan slot there = slot_within there.inside.0 there.inside.1.0 slot (way_in plan (OfSlot slot) there) there.inside.1.2

  pub local_below : (plan : Plan) (local : ℕ) → StandsInRule model plan token number (OfLocal local) → local < length rule.locals
  local_below plan local there = local_within there.inside.0 there.inside.1.0 local (way_in plan (OfLocal local) there) there.inside.1.2

  pub few_slots : length rule.slots < 65536
  few_slots = omega (arith, (few_of model token number rule lawful is).slots)

  pub few_locals : length rule.locals < 65536
  few_locals = omega (arith, (few_of model token number rule lawful is).locals)

pub no_rule_stands : (model : Model) (plan : Plan) (token : TokenName) (number : ℕ) (what : Direct) → ((rule : Rule) → HasRuleOf model token number rule → ⊥) → StandsInRule model plan token number what → ⊥
no_rule_stands model plan token number what none there = none there.rule (record { slot = there.slot; has_token = there.has_token; has_rule = there.has_rule })

module _ (model : Model) (token : TokenName) (pred : ℕ) (of_pred : HasPred model token pred) (found : Pred) (is_pred : slice_get model.preds pred ≡ Some found) where
  pub rule_below : (number : ℕ) (rule : Rule) → HasRuleOf model token number rule → number < length found.rules
  rule_below number rule is =
      let preds : is.slot.pred ≡ pred = ap (λ (s : Slot). s.pred) (token_once model token is.slot of_pred.0 is.has_token of_pred.1) ∙ of_pred.2 in
      let at : slice_get model.preds pred ≡ Some is.has_rule.predicate = subst (λ (n : ℕ). slice_get model.preds n ≡ Some is.has_rule.predicate) preds is.has_rule.is_predicate in
      let same = get_same model.preds pred is.has_rule.predicate found at is_pred in
      subst (λ (p : Pred). number < length p.rules) same (item_within is.has_rule.predicate.rules number is.has_rule.place is.has_rule.listed)

pub no_pred_rule : (model : Model) (token : TokenName) (pred number : ℕ) (rule : Rule) → HasPred model token pred → ((found : Pred) → slice_get model.preds pred ≡ Some found → ⊥)
    → HasRuleOf model token number rule → ⊥
no_pred_rule model token pred number rule of_pred none is =
    let preds : is.slot.pred ≡ pred = ap (λ (s : Slot). s.pred) (token_once model token is.slot of_pred.0 is.has_token of_pred.1) ∙ of_pred.2 in
    none is.has_rule.predicate (subst (λ (n : ℕ). slice_get model.preds n ≡ Some is.has_rule.predicate) preds is.has_rule.is_predicate)

listed_place : (model : Model) (places : List ℕ) (rules : List Rule) (number : ℕ) → AllZip (λ place rule. slice_get model.rules place ≡ Some rule) places rules
    → number < length places → (place : ℕ) × (rule : Rule) × (slice_get places number ≡ Some place) × (slice_get model.rules place ≡ Some rule)
listed_place model [] rules number are below = absurd (omega (arith, below))
listed_place model (place ∷ places) [] number are below = absurd are
listed_place model (place ∷ places) (rule ∷ rules) zero (here, later) below = (place, rule, refl, here)
listed_place model (place ∷ places) (rule ∷ rules) (suc number) (here, later) below = listed_place model places rules number later (omega (arith, below))

module _ (model : Model) (lawful : IsLawful model) (pred : ℕ) (found : Pred) (is_pred : slice_get model.preds pred ≡ Some found) where
  -- a token of the predicate has each rule below their count
  pub rule_there : (token : TokenName) → HasPred model token pred → (number : ℕ) → number < length found.rules → (rule : Rule) × HasRuleOf model token number rule
  rule_there token (slot, has, is) number below =
      let fine = lawful.preds pred found is_pred in
      let (place, rule, listed, stands) = listed_place model found.rules fine.rules number fine.are_rules below in (
        rule,
        record {
          slot = slot;
          has_token = has;
          has_rule = record {
            predicate = found;
            place = place;
            is_predicate = subst (λ (n : ℕ). slice_get model.preds n ≡ Some found) (sym is) is_pred;
            listed = listed;
            is_rule = stands;
          };
        },
      )

  pub few_rules : length found.rules < 65536
  few_rules =
      let is = lawful.preds pred found is_pred in
      omega (arith, is.few.rules, zip_length (λ (place : ℕ) (rule : Rule). slice_get model.rules place ≡ Some rule) found.rules is.rules is.are_rules)

-- ---- rule by rule

module _ (IsSo : ℕ → ℕ → Type 0) where
  pub first_in_rules : (rule number : ℕ) → ((other earlier : ℕ) → other < rule → IsSo other earlier) → IsFirstNumber (IsSo rule) number → IsFirstInRules IsSo rule number
  first_in_rules rule number before first = record {
    fails = first.fails;
    before = λ other earlier by. elim by [
      | inl less ↦ before other earlier less
      | inr tied ↦ subst (λ (r : ℕ). IsSo r earlier) (sym tied.0) (first.before earlier tied.1)
    ];
  }

  pub more_rules : (rule : ℕ) → ((other earlier : ℕ) → other < rule → IsSo other earlier) → ((number : ℕ) → IsSo rule number) → (other earlier : ℕ) → other < rule + 1 → IsSo other earlier
  more_rules rule before here other earlier below = elim (cases_lt other rule) [
    | inl less ↦ before other earlier less
    | inr not_less ↦ (let same : rule ≡ other = omega arith in subst (λ (r : ℕ). IsSo r earlier) same (here earlier))
  ]

-- ---- what a line says

by_line : (shape : Line) (name : TokenName) → IsActivatedBy shape name → (values : List ℤ) × (shape ≡ lines.Token name false values)
by_line (lines.Token own false values) name same = (values, ap (λ (n : TokenName). lines.Token n false values) (sym same))
by_line (lines.Token own true values) name same = absurd same
by_line (lines.Merged own target) name same = absurd same
by_line (lines.Rejected own) name same = absurd same
by_line (lines.Local own value) name same = absurd same

module _ (plan : Plan) (place : ℕ) where
  pub activated_at : (line : Line) (token : TokenName) → IsLineAt plan place line → IsActivatedBy line token → IsActivatedAt plan place token
  activated_at line token at by =
      let says = by_line line token by in
      (says.0, at ∙ ap (λ (l : Line). Some l) says.1)

  pub by_activated : (line : Line) (token : TokenName) → IsLineAt plan place line → IsActivatedAt plan place token → IsActivatedBy line token
  by_activated line token at activated =
      let same = get_same plan.lines place (lines.Token token false activated.0) line activated.1 at in
      subst (λ (l : Line). IsActivatedBy l token) same refl

  pub one_activated : (one other : TokenName) → IsActivatedAt plan place one → IsActivatedAt plan place other → one ≡ other
  one_activated one other p q =
      let same = get_same plan.lines place (lines.Token one false p.0) (lines.Token other false q.0) p.1 q.1 in
      cc

  pub activated_in : (token : TokenName) → IsActivatedAt plan place token → IsActivatedIn plan token
  activated_in token activated = (activated.0, contains_from_get plan.lines place (lines.Token token false activated.0) activated.1)

-- the token of this name, by its line
module _ (plan : Plan) (ok : IsOrderly plan) (token : TokenName) (place : ℕ) (line : Line) (at : IsLineAt plan place line) (named : order_name line ≡ of_token token) where
  pub found_active : (name : TokenName) → IsActivatedBy line name → (name ≡ token) × IsActivatedAt plan place name
  found_active name by =
      let says = by_line line name by in
      let names : of_token name ≡ of_token token = ap order_name (sym says.1) ∙ named in
      (cc, activated_at plan place line name at by)

  pub found_idle : ((name : TokenName) → IsActivatedBy line name → ⊥) → IsActivatedIn plan token → ⊥
  found_idle none = isnt_active plan ok token line (contains_from_get plan.lines place line at, named)
      (λ name values says. none name (subst (λ (l : Line). IsActivatedBy l name) (sym says) refl))

-- ---- V5

module _ (model : Model) (plan : Plan) (line : ℕ) (token : TokenName) (activated : IsActivatedAt plan line token) where
  slot_keeps : (rule slot : ℕ) → IsSlotKept model plan token rule slot → KeepsOpen model plan (places.Slot line rule slot)
  slot_keeps rule slot keeps other at asks =
      let same = one_activated plan line token other activated at in
      let kept : (AsksFor model (plan_situation plan) token (record { rule = rule; slot = slot })) → IsTakenIn plan (slot_token token rule slot) =
      (λ asked. keeps (asks_stands model plan token (record { rule = rule; slot = slot }) asked)) in
      let moved = subst (λ (t : TokenName). AsksFor model (plan_situation plan) t (record { rule = rule; slot = slot }) → IsTakenIn plan (slot_token t rule slot)) same kept in
      moved asks

  keeps_slot : (rule slot : ℕ) → KeepsOpen model plan (places.Slot line rule slot) → IsSlotKept model plan token rule slot
  keeps_slot rule slot keeps stands = keeps token activated (stands_asks model plan token (record { rule = rule; slot = slot }) (activated_in plan line token activated) stands)

  local_keeps : (rule number : ℕ) → IsLocalKept model plan token rule number → KeepsOpen model plan (places.Local line rule number)
  local_keeps rule number keeps other at asks =
      let same = one_activated plan line token other activated at in
      let kept : AsksForLocal model plan token rule number → HasDeclaredValue model plan (variables.Local token rule number) =
      (λ asked. keeps (local_stands model plan token rule number asked)) in
      let moved = subst (λ (t : TokenName). AsksForLocal model plan t rule number → HasDeclaredValue model plan (variables.Local t rule number)) same kept in
      moved asks

  keeps_local : (rule number : ℕ) → KeepsOpen model plan (places.Local line rule number) → IsLocalKept model plan token rule number
  keeps_local rule number keeps stands = keeps token activated (stands_local model plan token rule number (activated_in plan line token activated) stands)

  slots_before : (rule slot : ℕ) → IsFirstInRules (IsSlotKept model plan token) rule slot → (other : Place) → IsOnLine line other → AreLesserNames other (places.Slot line rule slot) → KeepsOpen model plan other
  slots_before rule slot first (places.Slot own r s) same (inl below) = absurd (omega (arith, below, same))
  slots_before rule slot first (places.Slot own r s) same (inr (tied, by)) =
      subst (λ (l : ℕ). KeepsOpen model plan (places.Slot l r s)) (sym same) (slot_keeps r s (first.before r s by))
  slots_before rule slot first (places.Local own r m) same below = absurd (omega (arith, below, same))
  slots_before rule slot first other same less = tt

  pub slot_least : (rule slot : ℕ) → IsFirstInRules (IsSlotKept model plan token) rule slot → IsLeastOnLine model plan V5 line (places.Slot line rule slot)
  slot_least rule slot first = record { on_line = refl; broken = λ keeps. first.fails (keeps_slot rule slot keeps); least = slots_before rule slot first }

  locals_before : (rule number : ℕ) → ((r s : ℕ) → IsSlotKept model plan token r s) → IsFirstInRules (IsLocalKept model plan token) rule number → (other : Place) → IsOnLine line other
      → AreLesserNames other (places.Local line rule number) → KeepsOpen model plan other
  locals_before rule number slots first (places.Slot own r s) same less = subst (λ (l : ℕ). KeepsOpen model plan (places.Slot l r s)) (sym same) (slot_keeps r s (slots r s))
  locals_before rule number slots first (places.Local own r m) same (inl below) = absurd (omega (arith, below, same))
  locals_before rule number slots first (places.Local own r m) same (inr (tied, by)) =
      subst (λ (l : ℕ). KeepsOpen model plan (places.Local l r m)) (sym same) (local_keeps r m (first.before r m by))
  locals_before rule number slots first other same less = tt

  pub local_least : (rule number : ℕ) → ((r s : ℕ) → IsSlotKept model plan token r s) → IsFirstInRules (IsLocalKept model plan token) rule number
      → IsLeastOnLine model plan V5 line (places.Local line rule number)
  local_least rule number slots first = record { on_line = refl; broken = λ keeps. first.fails (keeps_local rule number keeps); least = locals_before rule number slots first }

  pub open_kept : ((r s : ℕ) → IsSlotKept model plan token r s) → ((r m : ℕ) → IsLocalKept model plan token r m) → (place : Place) → IsOnLine line place → KeepsOpen model plan place
  open_kept slots locals (places.Slot own r s) same = subst (λ (l : ℕ). KeepsOpen model plan (places.Slot l r s)) (sym same) (slot_keeps r s (slots r s))
  open_kept slots locals (places.Local own r m) same = subst (λ (l : ℕ). KeepsOpen model plan (places.Local l r m)) (sym same) (local_keeps r m (locals r m))
  open_kept slots locals other same = tt

-- a line by which no token takes place doesn't break it
module _ (model : Model) (plan : Plan) (line : ℕ) (none : (token : TokenName) → IsActivatedAt plan line token → ⊥) where
  pub open_idle : (place : Place) → IsOnLine line place → KeepsOpen model plan place
  open_idle (places.Slot own r s) same = λ token at asks. absurd (none token (subst (λ (l : ℕ). IsActivatedAt plan l token) same at))
  open_idle (places.Local own r m) same = λ token at asks. absurd (none token (subst (λ (l : ℕ). IsActivatedAt plan l token) same at))
  open_idle other same = tt

-- ---- line by line

module _ (model : Model) (plan : Plan) where
  pub past : (line : ℕ) → length plan.lines ≤ line → (token : TokenName) → IsActivatedAt plan line token → ⊥
  past line beyond token activated = omega (arith, beyond, get_below plan.lines line (lines.Token token false activated.0) activated.1)

  -- so it is with one line more
  pub one_more_line : (IsSo : Line → Type 0) (place : ℕ) (line : Line) → IsLineAt plan place line
      → ((earlier : ℕ) (other : Line) → earlier < place → IsLineAt plan earlier other → IsSo other) → IsSo line
      → (earlier : ℕ) (other : Line) → earlier < place + 1 → IsLineAt plan earlier other → IsSo other
  one_more_line IsSo place line at before here earlier other below there = elim (cases_lt earlier place) [
    | inl less ↦ before earlier other less there
    | inr not_less ↦ (
        let same : earlier ≡ place = omega arith in
        subst IsSo (get_same plan.lines place line other at (subst (λ (k : ℕ). IsLineAt plan k other) same there)) here)
  ]

  abbrev pub Upto : Clause → ℕ → Type 0
  Upto clause count = (earlier : ℕ) → earlier < count → (place : Place) → IsOnLine earlier place → IsClauseKept model plan clause place

  pub more_lines : (clause : Clause) (count : ℕ) → Upto clause count → ((place : Place) → IsOnLine count place → IsClauseKept model plan clause place) → Upto clause (count + 1)
  more_lines clause count before here earlier below place on = elim (cases_lt earlier count) [
    | inl less ↦ before earlier less place on
    | inr not_less ↦ (let same : earlier ≡ count = omega arith in here place (subst (λ (l : ℕ). IsOnLine l place) same on))
  ]

  open_below : (line : ℕ) (found : Place) → Upto V5 line → IsLeastOnLine model plan V5 line found → (other : Place) → AreLesserNames other found → KeepsOpen model plan other
  open_below line (places.Slot own r s) before least (places.Slot own' r' s') (inl below) = before own' (omega (arith, below, least.on_line)) (places.Slot own' r' s') refl
  open_below line (places.Slot own r s) before least (places.Slot own' r' s') (inr tied) =
      least.least (places.Slot own' r' s') (tied.0 ∙ least.on_line) (inr tied)
  open_below line (places.Slot own r s) before least (places.Local own' r' m') below = before own' (omega (arith, below, least.on_line)) (places.Local own' r' m') refl
  open_below line (places.Local own r m) before least (places.Slot own' r' s') below = elim (cases_lt own' own) [
    | inl less ↦ before own' (omega (arith, less, least.on_line)) (places.Slot own' r' s') refl
    | inr not_less ↦ (let same : own' ≡ own = omega (arith, below) in least.least (places.Slot own' r' s') (same ∙ least.on_line) below)
  ]
  open_below line (places.Local own r m) before least (places.Local own' r' m') (inl below) = before own' (omega (arith, below, least.on_line)) (places.Local own' r' m') refl
  open_below line (places.Local own r m) before least (places.Local own' r' m') (inr tied) =
      least.least (places.Local own' r' m') (tied.0 ∙ least.on_line) (inr tied)
  open_below line (places.Item own r i) before least (places.Slot own' r' s') less = absurd less
  open_below line (places.Item own r i) before least (places.Local own' r' m') less = absurd less
  open_below line (places.Global n) before least other less = absurd least.on_line
  open_below line (places.Root n) before least other less = absurd least.on_line
  open_below line (places.Line n) before least other less = absurd least.on_line
  open_below line (places.Problem n) before least other less = absurd least.on_line
  open_below line (places.Pair n m) before least other less = absurd least.on_line
  open_below line (places.Instant n m) before least other less = absurd least.on_line
  open_below line found before least other less = tt

  pub open_least : (line : ℕ) (found : Place) → Upto V5 line → IsLeastOnLine model plan V5 line found → IsLeastBroken model plan V5 found
  open_least line found before least = record { broken = least.broken; least = open_below line found before least }

  all_open : (count : ℕ) → length plan.lines ≤ count → Upto V5 count → (line : ℕ) (place : Place) → IsOnLine line place → KeepsOpen model plan place
  all_open count all before line place on = elim (cases_lt line count) [
    | inl less ↦ before line less place on
    | inr not_less ↦ open_idle model plan line (past line (omega (arith, all, not_less))) place on
  ]

  pub all_open_kept : (count : ℕ) → length plan.lines ≤ count → Upto V5 count → (place : Place) → KeepsOpen model plan place
  all_open_kept count all before (places.Slot own r s) = all_open count all before own (places.Slot own r s) refl
  all_open_kept count all before (places.Local own r m) = all_open count all before own (places.Local own r m) refl
  all_open_kept count all before other = tt
