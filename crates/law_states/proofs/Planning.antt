-- A state without a flaw has a plan.
use Rattle.std.proofs.Common.{◌≡◌, ℕ, zero, suc, ◌+◌, ◌<◌, ◌≤◌, ℤ, List, [], ◌∷◌, ◌++◌, length, Some, inl, inr, refl, sym, ◌∙◌, ap, subst, arith}
use Rattle.std.specs.Prelude.{AllPairs, Contains, map, slice_get}
use Rattle.std.proofs.lemmas.List.Elements.{Contains-append_left, Contains-append_right}
use Rattle.domain_core.specs.Domain.{Domain, IsSingle}
use Rattle.eu_name.specs.declared.name.Part.TheVariants.{Start}
use Rattle.eu_name.specs.declared.name.TokenName.{TokenName}
use Rattle.eu_name.specs.declared.name.VarName.{VarName}
use Rattle.eu_name.specs.declared.name.VarName.TheVariants as variables
use Rattle.eu_name.specs.NameOrder.{IsVarBefore}
use Rattle.eu_name.proofs.Members.{get_within}
use Rattle.eu_name.proofs.Ordered.{contains_head, contains_later, contains_cases, contains_none, ordered_none, ordered_cons, ordered_head, ordered_tail}
use Rattle.eu_name.proofs.Orders.{var_order}
use Rattle.model_core.specs.declared.decision.Decision.{Decision}
use Rattle.model_core.specs.declared.model.Model.{Model}
use Rattle.model_core.specs.State.{State, VarDomain, Gives}
use Rattle.plan_defs.specs.declared.plan.Line.{Line}
use Rattle.plan_defs.specs.declared.plan.Line.TheVariants as lines
use Rattle.plan_defs.specs.declared.plan.Plan.{Plan}
use Rattle.plan_defs.specs.Flaws.{Undetermined, HasFlaw}
use Rattle.plan_defs.specs.Plans.{IsLineBefore, order_name}
use Rattle.plan_defs.specs.StatePlans.{GivesOnly, IsLineIn, IsStatePlan, IsSettledState}
use Rattle.plan_defs.proofs.Determining.{single_or_not, value_once}
use Rattle.plan_defs.proofs.States.{gives_domain}
use Rattle.plan_defs.proofs.Stating.{own_once}
use Rattle.plan_defs.proofs.Telling.{AreGlobalsUpTo, globals_none, globals_more}
use Rattle.law_states.specs.Undeniable.{FlawlessStatesHavePlans}
use Rattle.law_states.proofs.Denying.{each_is_or_not}
use Rattle.law_states.proofs.Listing.{Chosen, chosen}

contains_mapped : {X Y : Type 0} (f : X → Y) (xs : List X) (x : X) → Contains xs x → Contains (map f xs) (f x)
contains_mapped f [] x there = absurd (contains_none x there)
contains_mapped f (y ∷ xs) x there = elim (contains_cases y x xs there) [
  | inl same ↦ subst (λ z. Contains (f y ∷ map f xs) z) (ap f same) (contains_head (f y) (map f xs))
  | inr later ↦ contains_later (f y) (f x) (map f xs) (contains_mapped f xs x later)
]

module _ (model : Model) (decisions : List Decision) (state : State) (settled : IsSettledState model decisions state) where
  -- ---- lines

  abbrev Is : Line → Type 0
  Is line = IsLineIn model decisions state line

  local_once : (one other : VarName) (v w : ℤ) → Is (lines.Local one v) → Is (lines.Local other w) → one ≡ other → lines.Local one v ≡ lines.Local other w
  local_once (variables.Global number) other v w p q same = absurd p
  local_once (variables.Token token part) other v w p q same = absurd p
  local_once (variables.Local token rule number) (variables.Global k) v w p q same = absurd q
  local_once (variables.Local token rule number) (variables.Token t part) v w p q same = absurd q
  local_once (variables.Local token rule number) (variables.Local t r k) v w p q same =
      let values = value_once state settled.consistent.is_state.order (variables.Local t r k) v w (subst (λ (n : VarName). GivesOnly state n v) same p.1) q.1 in
      (λ i. lines.Local (same i) (values i))

  -- no two lines go by one name
  line_once : (one other : Line) → Is one → Is other → order_name one ≡ order_name other → one ≡ other
  line_once (lines.Token token fact values) other p q same = own_once model decisions state settled token (lines.Token token fact values) other (p, refl) (q, sym same)
  line_once (lines.Merged token target) other p q same = own_once model decisions state settled token (lines.Merged token target) other (p, refl) (q, sym same)
  line_once (lines.Rejected token) other p q same = own_once model decisions state settled token (lines.Rejected token) other (p, refl) (q, sym same)
  line_once (lines.Local name value) (lines.Token token fact values) p q same =
      sym (own_once model decisions state settled token (lines.Token token fact values) (lines.Local name value) (q, refl) (p, same))
  line_once (lines.Local name value) (lines.Merged token target) p q same =
      sym (own_once model decisions state settled token (lines.Merged token target) (lines.Local name value) (q, refl) (p, same))
  line_once (lines.Local name value) (lines.Rejected token) p q same =
      sym (own_once model decisions state settled token (lines.Rejected token) (lines.Local name value) (q, refl) (p, same))
  line_once (lines.Local name value) (lines.Local other found) p q same = local_once name other value found p q same

  abbrev HasLine : VarName → Type 0
  HasLine name = (line : Line) × (Is line × (order_name line ≡ name))

  -- the lines that go by these names, in order
  record Lined (names : List VarName) : Type 0 where
    list : List Line
    sound : (line : Line) → Contains list line → Is line × Contains names (order_name line)
    complete : (name : VarName) → Contains names name → (line : Line) × (Contains list line × (order_name line ≡ name))
    order : AllPairs IsLineBefore list

  with_line : (name : VarName) (names : List VarName) → AllPairs IsVarBefore (name ∷ names) → HasLine name → Lined names → Lined (name ∷ names)
  with_line name names order has rest = record {
    list = has.0 ∷ rest.list;
    sound = λ line there. elim (contains_cases has.0 line rest.list there) [
      | inl same ↦ (
        subst Is same has.1.0,
        subst (λ (n : VarName). Contains (name ∷ names) n) (sym has.1.1 ∙ ap order_name same) (contains_head name names),
      )
      | inr later ↦ let is = rest.sound line later in (is.0, contains_later name (order_name line) names is.1)
    ];
    complete = λ other there. elim (contains_cases name other names there) [
      | inl same ↦ (has.0, (contains_head has.0 rest.list, has.1.1 ∙ same))
      | inr later ↦ let found = rest.complete other later in (found.0, (contains_later has.0 found.0 rest.list found.1.0, found.1.1))
    ];
    order = ordered_cons IsLineBefore has.0 rest.list
        (λ line there. subst (λ (n : VarName). IsVarBefore n (order_name line)) (sym has.1.1) (ordered_head IsVarBefore name names order (order_name line) (rest.sound line there).1))
        rest.order;
  }

  lined : (names : List VarName) → AllPairs IsVarBefore names → ((name : VarName) → Contains names name → HasLine name) → Lined names
  lined [] order has = record {
    list = [];
    sound = λ line there. absurd (contains_none line there);
    complete = λ name there. absurd (contains_none name there);
    order = ordered_none IsLineBefore;
  }
  lined (name ∷ names) order has =
      with_line name names order (has name (contains_head name names))
      (lined names (ordered_tail IsVarBefore name names order) (λ other there. has other (contains_later name other names there)))

  -- the names by which lines can go
  abbrev own_name : TokenName → VarName
  own_name token = variables.Token token Start

  abbrev given_name : VarDomain → VarName
  given_name entry = entry.name

  abbrev names : List VarName
  names = map own_name state.tokens ++ map given_name state.entries

  of_token : (token : TokenName) → Contains state.tokens token → Contains names (own_name token)
  of_token token there = Contains-append_left (map own_name state.tokens) (map given_name state.entries) (own_name token) (contains_mapped own_name state.tokens token there)

  of_local : (name : VarName) (value : ℤ) → GivesOnly state name value → Contains names name
  of_local name value gives =
      Contains-append_right (map own_name state.tokens) (map given_name state.entries) name
      (contains_mapped given_name state.entries (record { name = name; domain = gives.0 }) gives.1)

  named : (line : Line) → Is line → Contains names (order_name line)
  named (lines.Token token fact values) is = of_token token is.there
  named (lines.Merged token target) is = of_token token is.0
  named (lines.Rejected token) is = of_token token is.0
  named (lines.Local (variables.Global number) value) is = absurd is
  named (lines.Local (variables.Token token part) value) is = absurd is
  named (lines.Local (variables.Local token rule number) value) is = of_local (variables.Local token rule number) value is.1

  -- ---- globals

  module _ (flawless : HasFlaw model decisions state → ⊥) where
    global_value : (number : ℕ) (domain : Domain) → Gives state (variables.Global number) domain → (value : ℤ) × IsSingle domain value
    global_value number domain gives = elim (single_or_not domain (gives_domain model state settled.consistent.is_state (variables.Global number) domain gives)) [
      | inl one ↦ one
      | inr several ↦ absurd (flawless (Undetermined (variables.Global number), (tt, record { domain = domain; gives = gives; several = several; kept = λ rejected. rejected.1 })))
    ]

    first_globals : (count : ℕ) → count ≤ length model.problem.globals → (values : List ℤ) × AreGlobalsUpTo state count values
    first_globals zero within = ([], globals_none state)
    first_globals (suc count) within =
        let before = first_globals count (omega (arith, within)) in
        let about : count < length model.problem.globals = omega (arith, within) in
        let given = (settled.consistent.is_state.variables (variables.Global count)).0 about in
        let value = global_value count given.0 given.1 in
        let more = globals_more state count before.0 (before.0 ++ value.0 ∷ []) value.0 before.1 refl (given.0, given.1, value.1) in
        let next : count + 1 ≡ suc count = omega arith in
        (before.0 ++ value.0 ∷ [], subst (λ n. AreGlobalsUpTo state n (before.0 ++ value.0 ∷ [])) next more)

    global_there : (values : List ℤ) → AreGlobalsUpTo state (length model.problem.globals) values → (number : ℕ) (value : ℤ) → GivesOnly state (variables.Global number) value
        → slice_get values number ≡ Some value
    global_there values are number value gives =
        let about : number < length model.problem.globals = (settled.consistent.is_state.variables (variables.Global number)).1 (gives.0, gives.1) in
        let got = get_within values number (omega (arith, about, are.long)) in
        let same : got.0 ≡ value = value_once state settled.consistent.is_state.order (variables.Global number) got.0 value (are.are number got.0 got.1) gives in
        subst (λ (v : ℤ). slice_get values number ≡ Some v) same got.1

    -- ---- the plan

    plan_of : Chosen IsVarBefore HasLine names → (plan : Plan) × IsStatePlan model decisions state plan
    plan_of some =
        let all = lined some.list some.order (λ name there. ((some.are name).0 there).1) in
        let globals = first_globals (length model.problem.globals) (omega arith) in (
          record { globals = globals.0; lines = all.list },
          record {
            globals = λ number value. (globals.1.are number value, global_there globals.0 globals.1 number value);
            lines = λ line. (
              λ there. (all.sound line there).0,
              λ is.
                  let found = all.complete (order_name line) ((some.are (order_name line)).1 (named line is, (line, (is, refl)))) in
                  subst (λ (l : Line). Contains all.list l) (line_once found.0 line (all.sound found.0 found.1.0).0 is found.1.1) found.1.0,
            );
            order = all.order;
          },
        )

pub flawless_states_have_plans : FlawlessStatesHavePlans
flawless_states_have_plans model decisions state settled flawless none =
    each_is_or_not (HasLine model decisions state settled) (names model decisions state settled) (λ decide.
    none (plan_of model decisions state settled flawless
    (chosen IsVarBefore var_order (HasLine model decisions state settled) (names model decisions state settled) decide)))
