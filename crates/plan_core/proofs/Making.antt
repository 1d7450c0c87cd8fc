-- Plans of statements.
use Rattle.std.proofs.Common.{◌≡◌, ℕ, ◌+◌, ◌<◌, ◌≤◌, ◌^◌, zero, suc, Bool, true, false, eqb, cond, ℤ, pos, List, [], ◌∷◌, ◌++◌, length, get_or, slice_get, Some, Result, Ok, Err, refl, sym, ◌∙◌, ap, subst, inl, inr, arith, All, Contains, append_assoc, length-append}
use Rattle.std.specs.Prelude.{AllPairs, IfOk, OnOk, IsErr, MatchResult}
use Rattle.std.specs.List.Sorted.{IsPermutation}
use Rattle.std.proofs.lemmas.Bool.Decides.{nat_tests}
use Rattle.std.proofs.lemmas.List.{append-nil, length-map, map-append}
use Rattle.std.proofs.lemmas.List.Elements.{All-nil, All-cons}
use Rattle.std.proofs.lemmas.List.Sorted.{Contains-permutation, IsPermutation-map, IsPermutation-sym, length_permutation}
use Rattle.model_core.specs.declared.model.Model.{Model}
use Rattle.model_core.specs.declared.variable.VarDecl.{VarDecl}
use Rattle.model_core.specs.Kinds.{IsValueOf}
use Rattle.model_core.proofs.Items.{item_within, item_at}
use Rattle.plan_defs.specs.declared.plan.Line.{Line}
use Rattle.plan_defs.specs.declared.plan.Plan.{Plan}
use Rattle.plan_defs.specs.Plans.{IsLineOf, IsLineBefore, IsPlanOf}
use Rattle.eu_name.proofs.Ordered.{ordered_tail, ordered_head, ordered_none, ordered_cons, contains_head, contains_later, contains_cases, contains_none}
use Rattle.plan_text.specs.declared.statement.Statement.{Statement}
use Rattle.plan_text.specs.declared.statement.Statement.TheVariants.{Global, Of}
use Rattle.plan_text.specs.PlanTexts.{IsStatedBefore, Gathers, global_values, plan_lines}
use Rattle.plan_core.specs.declared.gathering.Named.{Named}
use Rattle.plan_core.specs.Gathering.{said_of, values_if, Takes}
use Rattle.plan_core.proofs.Lining.{IsSaidOf}

-- ---- statements are taken in turn

-- of the statements that were taken there are these values and lines; whatever is taken further comes behind them
pub record IsTaken (said : List Statement) (going_on : Bool) (globals : List ℤ) (taken : List Line) : Type 0 where
  pub values : (more : List Statement) → global_values 0 (said ++ more) ≡ globals ++ values_if going_on (length globals) more
  pub lines : (more : List Statement) → plan_lines (said ++ more) ≡ taken ++ plan_lines more

pub none_taken : IsTaken [] true [] []
none_taken = record { values = λ more. refl; lines = λ more. refl }

pub none_taken_at : (globals : List ℤ) (taken : List Line) → globals ≡ [] → taken ≡ [] → IsTaken [] true globals taken
none_taken_at globals taken none none' = subst (λ g. IsTaken [] true g taken) (sym none) (subst (λ l. IsTaken [] true [] l) (sym none') none_taken)

pub takes_next : (number : ℕ) (value : ℤ) (globals : List ℤ) (lines : List Line) → number ≡ length globals → Takes (Global number value) true true globals (globals ++ value ∷ []) lines lines
takes_next number value globals lines is = record { values = values; lines = λ more. refl }
  where
    values : (more : List Statement) → globals ++ global_values (length globals) (Global number value ∷ more) ≡ (globals ++ value ∷ []) ++ global_values (length (globals ++ value ∷ [])) more
    values more =
        let test : eqb number (length globals) ≡ true = grind (arith, nat_tests) in
        let count : length (globals ++ value ∷ []) ≡ length globals + 1 = omega (arith, length-append globals (value ∷ [])) in
        ap (λ b. globals ++ cond b (value ∷ global_values (length globals + 1) more) []) test
        ∙ (sym (append_assoc globals (value ∷ []) (global_values (length globals + 1) more)) ∙ ap (λ n. (globals ++ value ∷ []) ++ global_values n more) (sym count))

pub takes_other : (number : ℕ) (value : ℤ) (globals : List ℤ) (lines : List Line) → (number ≡ length globals → ⊥) → Takes (Global number value) true false globals globals lines lines
takes_other number value globals lines other = record { values = values; lines = λ more. refl }
  where
    values : (more : List Statement) → globals ++ global_values (length globals) (Global number value ∷ more) ≡ globals ++ []
    values more =
        let test : eqb number (length globals) ≡ false = grind (arith, nat_tests) in
        ap (λ b. globals ++ cond b (value ∷ global_values (length globals + 1) more) []) test

pub takes_late : (number : ℕ) (value : ℤ) (globals : List ℤ) (lines : List Line) → Takes (Global number value) false false globals globals lines lines
takes_late number value globals lines = record { values = λ more. refl; lines = λ more. refl }

pub takes_line : (line : Line) (going_on : Bool) (globals : List ℤ) (lines : List Line) → Takes (Of line) going_on false globals globals lines (lines ++ line ∷ [])
takes_line line true globals lines = record { values = λ more. refl; lines = λ more. sym (append_assoc lines (line ∷ []) (plan_lines more)) }
takes_line line false globals lines = record { values = λ more. refl; lines = λ more. sym (append_assoc lines (line ∷ []) (plan_lines more)) }

pub takes_more : (said : List Statement) (next : Statement) (going_on goes_on : Bool) (globals new_globals : List ℤ) (lines new_lines : List Line) → Takes next going_on goes_on globals new_globals lines new_lines
    → IsTaken said going_on globals lines → IsTaken (said ++ next ∷ []) goes_on new_globals new_lines
takes_more said next going_on goes_on globals new_globals lines new_lines takes taken = record {
  values = λ more. ap (global_values 0) (append_assoc said (next ∷ []) more) ∙ (taken.values (next ∷ more) ∙ takes.values more);
  lines = λ more. ap plan_lines (append_assoc said (next ∷ []) more) ∙ (taken.lines (next ∷ more) ∙ takes.lines more);
}

pub takes_named : (said : List Named) (next : Named) (going_on goes_on : Bool) (globals new_globals : List ℤ) (lines new_lines : List Line) → Takes next.statement going_on goes_on globals new_globals lines new_lines
    → IsTaken (said_of said) going_on globals lines → IsTaken (said_of (said ++ next ∷ [])) goes_on new_globals new_lines
takes_named said next going_on goes_on globals new_globals lines new_lines takes taken =
    subst (λ s. IsTaken s goes_on new_globals new_lines) (sym (map-append (λ (n : Named). n.statement) said (next ∷ [])))
    (takes_more (said_of said) next.statement going_on goes_on globals new_globals lines new_lines takes taken)

pub not_ok : {T : Type 0} (E : Type 0) (value : T) → IsErr {T = T} {E = E} (Ok value) → ⊥
not_ok E value is_err = cc

pub takes_if : {E : Type 0} (said : List Named) (next : Named) (going_on goes_on : Result Bool E) (globals new_globals : List ℤ) (lines new_lines : List Line)
    → MatchResult going_on (λ going_on. IfOk goes_on (λ goes_on. Takes next.statement going_on goes_on globals new_globals lines new_lines)) (λ none. IsErr goes_on)
    → IfOk going_on (λ going_on. IsTaken (said_of said) going_on globals lines) → IfOk goes_on (λ goes_on. IsTaken (said_of (said ++ next ∷ [])) goes_on new_globals new_lines)
takes_if said next going_on (Err none) globals new_globals lines new_lines takes taken = tt
takes_if said next (Ok going_on) (Ok goes_on) globals new_globals lines new_lines takes taken = takes_named said next going_on goes_on globals new_globals lines new_lines takes taken
takes_if {E = E} said next (Err none) (Ok goes_on) globals new_globals lines new_lines takes taken = absurd (not_ok E goes_on takes)

none_more : (going_on : Bool) (next : ℕ) → values_if going_on next [] ≡ []
none_more true next = refl
none_more false next = refl

pub all_values : (said : List Statement) (going_on : Bool) (globals : List ℤ) (lines : List Line) → IsTaken said going_on globals lines → globals ≡ global_values 0 said
all_values said going_on globals lines taken =
    sym (append-nil globals) ∙ (ap (λ l. globals ++ l) (sym (none_more going_on (length globals))) ∙ (sym (taken.values []) ∙ ap (global_values 0) (append-nil said)))

pub all_lines : (said : List Statement) (going_on : Bool) (globals : List ℤ) (lines : List Line) → IsTaken said going_on globals lines → lines ≡ plan_lines said
all_lines said going_on globals lines taken = sym (append-nil lines) ∙ (sym (taken.lines []) ∙ ap plan_lines (append-nil said))

-- ---- the plan

few_lines : (said : List Statement) → length (plan_lines said) ≤ length said
few_lines [] = omega arith
few_lines (Global number value ∷ said) = omega (arith, few_lines said)
few_lines (Of line ∷ said) = omega (arith, few_lines said)

-- the plan says what was said
pub gathers : (old new : List Named) (plan : Plan) → IsPermutation old new → AllPairs IsStatedBefore (said_of new) → plan.globals ≡ global_values 0 (said_of new) → plan.lines ≡ plan_lines (said_of new) → Gathers (said_of old) plan
gathers old new plan moved order globals lines = record {
  ordered = said_of new;
  order = order;
  same = λ statement. (
    Contains-permutation (said_of new) (said_of old) statement (IsPermutation-sym (said_of old) (said_of new) (IsPermutation-map (λ (n : Named). n.statement) old new moved)),
    Contains-permutation (said_of old) (said_of new) statement (IsPermutation-map (λ (n : Named). n.statement) old new moved),
  );
  is = λ i. record { globals = globals i; lines = lines i };
}

pub lines_few : (old new : List Named) (lines : List Line) → IsPermutation old new → lines ≡ plan_lines (said_of new) → length lines ≤ length old
lines_few old new lines moved is =
    omega (arith, ap length is, few_lines (said_of new), length-map new (λ (n : Named). n.statement), length_permutation old new moved)

no_err : (E : Type 0) (plan : Plan) → IsErr {T = Plan} {E = E} (Ok plan) → ⊥
no_err E plan gives = cc

pub plan_gathers : {E : Type 0} (old new : List Named) (taken : Result (Unit {0}) E) (globals : List ℤ) (lines : List Line) (r : Result Plan E) → IsPermutation old new → AllPairs IsStatedBefore (said_of new)
    → OnOk taken (globals ≡ global_values 0 (said_of new)) → OnOk taken (lines ≡ plan_lines (said_of new))
    → MatchResult taken (λ said. IfOk r (λ plan. (plan.globals ≡ globals) × (plan.lines ≡ lines))) (λ none. IsErr r) → IfOk r (Gathers (said_of old))
plan_gathers old new taken globals lines (Err none) moved order is are gives = tt
plan_gathers {E = E} old new (Err none) globals lines (Ok plan) moved order is are gives = absurd (no_err E plan gives)
plan_gathers old new (Ok said) globals lines (Ok plan) moved order is are (same, same') = gathers old new plan moved order (same ∙ is) (same' ∙ are)

pub plan_few : {E : Type 0} (old new : List Named) (taken : Result (Unit {0}) E) (globals : List ℤ) (lines : List Line) (r : Result Plan E) → IsPermutation old new
    → OnOk taken (lines ≡ plan_lines (said_of new))
    → MatchResult taken (λ said. IfOk r (λ plan. (plan.globals ≡ globals) × (plan.lines ≡ lines))) (λ none. IsErr r) → IfOk r (λ plan. length plan.lines ≤ length old)
plan_few old new taken globals lines (Err none) moved are gives = tt
plan_few {E = E} old new (Err none) globals lines (Ok plan) moved are gives = absurd (no_err E plan gives)
plan_few old new (Ok said) globals lines (Ok plan) moved are (same, same') = lines_few old new plan.lines moved (same' ∙ are)

-- ---- it is one of the model

value_said : (next : ℕ) (said : List Statement) (k : ℕ) (value : ℤ) → slice_get (global_values next said) k ≡ Some value → Contains said (Global (next + k) value)
value_said next [] k value is = cc
value_said next (Of line ∷ said) k value is = cc
value_said next (Global number first ∷ said) k value is = by (eqb number next) refl k is (λ j. value_said (next + 1) said j value)
  where
    by : (b : Bool) → eqb number next ≡ b → (k : ℕ) → slice_get (cond b (first ∷ global_values (next + 1) said) []) k ≡ Some value
        → ((j : ℕ) → slice_get (global_values (next + 1) said) j ≡ Some value → Contains said (Global (next + 1 + j) value)) → Contains (Global number first ∷ said) (Global (next + k) value)
    by false test k is later = cc
    by true test zero is later =
        let values : first ≡ value = cc in
        let numbers : number ≡ next + 0 = grind (arith, nat_tests) in
        subst (Contains (Global number first ∷ said)) (λ i. Global (numbers i) (values i)) (contains_head (Global number first) said)
    by true test (suc k) is later =
        let numbers : next + 1 + k ≡ next + suc k = omega arith in
        subst (λ n. Contains (Global number first ∷ said) (Global n value)) numbers (contains_later (Global number first) (Global (next + 1 + k) value) said (later k is))

line_said : (said : List Statement) (line : Line) → Contains (plan_lines said) line → Contains said (Of line)
line_said [] line has = absurd (contains_none line has)
line_said (Global number value ∷ said) line has = contains_later (Global number value) (Of line) said (line_said said line has)
line_said (Of first ∷ said) line has = elim (contains_cases first line (plan_lines said) has) [
  | inl here ↦ subst (λ l. Contains (Of first ∷ said) (Of l)) here (contains_head (Of first) said)
  | inr later ↦ contains_later (Of first) (Of line) said (line_said said line later)
]

lines_in_order : (said : List Statement) → AllPairs IsStatedBefore said → AllPairs IsLineBefore (plan_lines said)
lines_in_order [] order = ordered_none IsLineBefore
lines_in_order (Global number value ∷ said) order = lines_in_order said (ordered_tail IsStatedBefore (Global number value) said order)
lines_in_order (Of line ∷ said) order =
    ordered_cons IsLineBefore line (plan_lines said) (λ other has. ordered_head IsStatedBefore (Of line) said order (Of other) (line_said said other has)) (lines_in_order said (ordered_tail IsStatedBefore (Of line) said order))

lines_of : (model : Model) (said : List Statement) → ((statement : Statement) → Contains said statement → IsSaidOf model statement) → All (IsLineOf model) (plan_lines said)
lines_of model [] all = All-nil (IsLineOf model)
lines_of model (Global number value ∷ said) all = lines_of model said (λ statement has. all statement (contains_later (Global number value) statement said has))
lines_of model (Of line ∷ said) all = All-cons (IsLineOf model) line (plan_lines said) (all (Of line) (contains_head (Of line) said)) (lines_of model said (λ statement has. all statement (contains_later (Of line) statement said has)))

few_values : (model : Model) (said : List Statement) → ((statement : Statement) → Contains said statement → IsSaidOf model statement) → length (global_values 0 said) ≤ length model.problem.globals
few_values model said all = at_most (length (global_values 0 said)) refl
  where
    at_most : (count : ℕ) → count ≡ length (global_values 0 said) → length (global_values 0 said) ≤ length model.problem.globals
    at_most zero is = omega (arith, is)
    at_most (suc last) is =
        let there : last < length (global_values 0 said) = omega (arith, is) in
        let value = get_or (global_values 0 said) last (pos 0) in
        let of : IsSaidOf model (Global (0 + last) value) = all (Global (0 + last) value) (value_said 0 said last value (item_at (global_values 0 said) last (pos 0) there)) in
        omega (arith, is, item_within model.problem.globals (0 + last) of.0 of.1.0)

pub plan_is_of : (model : Model) (said : List Statement) (plan : Plan) → ((statement : Statement) → Contains said statement → IsSaidOf model statement) → Gathers said plan → length plan.lines < 2 ^ 32 → IsPlanOf model plan
plan_is_of model said plan all gathered few =
    let ordered_all : (statement : Statement) → Contains gathered.ordered statement → IsSaidOf model statement = λ statement has. all statement ((gathered.same statement).0 has) in
    let globals : plan.globals ≡ global_values 0 gathered.ordered = ap (λ (p : Plan). p.globals) gathered.is in
    let lines : plan.lines ≡ plan_lines gathered.ordered = ap (λ (p : Plan). p.lines) gathered.is in
    record {
      few_globals = omega (arith, ap length globals, few_values model gathered.ordered ordered_all);
      globals = λ number value variable has is.
          let of : IsSaidOf model (Global (0 + number) value) = ordered_all (Global (0 + number) value) (value_said 0 gathered.ordered number value (subst (λ l. slice_get l number ≡ Some value) globals has)) in
          let same : 0 + number ≡ number = omega arith in
          let both : Some of.0 ≡ Some variable = sym of.1.0 ∙ (ap (slice_get model.problem.globals) same ∙ is) in
          let variables : of.0 ≡ variable = cc in
          subst (λ (v : VarDecl). IsValueOf model v.kind value) variables of.1.1;
      few_lines = few;
      lines = subst (All (IsLineOf model)) (sym lines) (lines_of model gathered.ordered ordered_all);
      order = subst (AllPairs IsLineBefore) (sym lines) (lines_in_order gathered.ordered gathered.order);
    }
