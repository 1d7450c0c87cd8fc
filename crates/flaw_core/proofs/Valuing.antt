-- The values of a domain by number.
use Rattle.std.proofs.Common.{◌≡◌, ℕ, zero, suc, ◌<◌, ◌≤◌, length, inl, inr, ℤ, pos, ◌<ℤ◌, ◌≤ℤ◌, ◌+ℤ◌, List, [], ◌∷◌, Some, None, refl, sym, ap, subst, arith}
use Rattle.std.specs.Prelude.{AllPairs, Contains, slice_get, map, ◌↔◌}
use Rattle.std.proofs.lemmas.Int.{ints, by_lt_z}
use Rattle.std.proofs.lemmas.List.{length-map}
use Rattle.std.proofs.lemmas.Option.{slice_get_past, slice_get_read}
use Rattle.domain_core.specs.Domain.{Domain, Range, Set, IsDomain, Has, IsNth, count_of}
use Rattle.eu_name.specs.declared.name.VarName.{VarName}
use Rattle.model_core.specs.declared.decision.Decision.{Decision}
use Rattle.model_core.specs.declared.decision.Decision.TheVariants as decision
use Rattle.model_core.specs.declared.model.Model.{Model}
use Rattle.model_core.specs.State.{State, Gives, AreInOrder, IsState}
use Rattle.eu_name.proofs.Ordered.{contains_head, contains_later, contains_cases, contains_none, ordered_cons, ordered_none, same_members}
use Rattle.plan_defs.proofs.States.{gives_same, gives_domain}
use Rattle.law_search.specs.Choices.{AreValueChoices}
use Rattle.flaw_core.specs.declared.choosing.Choice.TheVariants.{Specify}
use Rattle.flaw_core.specs.declared.flaw.VarPlace.{VarPlace}
use Rattle.flaw_core.specs.Places.{IsVarAt}
use Rattle.flaw_core.specs.Picking.{PicksChoice}
use Rattle.flaw_core.proofs.Numbering.{get_map}
use Rattle.flaw_core.proofs.Sorting.{var_once}

-- so many numbers from this one on
abbrev run : ℤ → ℕ → List ℤ
run lo zero = []
run lo (suc n) = lo ∷ run (lo +ℤ pos 1) n

run_has : (lo : ℤ) (n : ℕ) (value : ℤ) → Contains (run lo n) value → (lo ≤ℤ value) × (value <ℤ (lo +ℤ pos n))
run_has lo zero value there = absurd (contains_none value there)
run_has lo (suc n) value there = elim (contains_cases lo value (run (lo +ℤ pos 1) n) there) [
  | inl same ↦ (omega (arith, ints, same), omega (arith, ints, same))
  | inr later ↦ let rest = run_has (lo +ℤ pos 1) n value later in (omega (arith, ints, rest.0), omega (arith, ints, rest.1))
]

run_gives : (lo : ℤ) (n : ℕ) (value : ℤ) → lo ≤ℤ value → value <ℤ (lo +ℤ pos n) → Contains (run lo n) value
run_gives lo zero value low high = absurd (omega (arith, ints, low, high))
run_gives lo (suc n) value low high =
    by_lt_z lo value (λ less. contains_later lo value (run (lo +ℤ pos 1) n) (run_gives (lo +ℤ pos 1) n value (omega (arith, ints, less)) (omega (arith, ints, high))))
    (λ not. let same : lo ≡ value = omega (arith, ints, low, not) in subst (Contains (lo ∷ run (lo +ℤ pos 1) n)) same (contains_head lo (run (lo +ℤ pos 1) n)))

run_ascends : (lo : ℤ) (n : ℕ) → AllPairs (λ one later. one <ℤ later) (run lo n)
run_ascends lo zero = ordered_none (λ (one later : ℤ). one <ℤ later)
run_ascends lo (suc n) =
    ordered_cons (λ (one later : ℤ). one <ℤ later) lo (run (lo +ℤ pos 1) n) (λ value there. omega (arith, ints, (run_has (lo +ℤ pos 1) n value there).0)) (run_ascends (lo +ℤ pos 1) n)

run_long : (lo : ℤ) (n : ℕ) → length (run lo n) ≡ n
run_long lo zero = refl
run_long lo (suc n) = let rest = run_long (lo +ℤ pos 1) n in omega (arith, rest)

run_at : (lo : ℤ) (n k : ℕ) (value : ℤ) → k < n → value ≡ (lo +ℤ pos k) → slice_get (run lo n) k ≡ Some value
run_at lo zero k value less is = absurd (omega (arith, less))
run_at lo (suc n) zero value less is = let same : lo ≡ value = omega (arith, ints, is) in ap Some same
run_at lo (suc n) (suc k) value less is = run_at (lo +ℤ pos 1) n k value (omega (arith, less)) (omega (arith, ints, is))

-- the values of a domain, ascending
record AreValues (domain : Domain) (values : List ℤ) : Type 0 where
  ascending : AllPairs (λ one later. one <ℤ later) values
  all : (value : ℤ) → Contains values value ↔ Has domain value
  long : length values ≡ count_of domain
  nth : (k : ℕ) (value : ℤ) → IsNth domain k value → slice_get values k ≡ Some value

values_of : (domain : Domain) → IsDomain domain → (values : List ℤ) × AreValues domain values
values_of (Range lo hi) is =
    let n = count_of (Range lo hi) in (
      run lo n,
      record {
        ascending = run_ascends lo n;
        all = λ value. (
          λ there. let in_run = run_has lo n value there in (in_run.0, omega (arith, ints, in_run.1, is.2)),
          λ has. run_gives lo n value has.0 (omega (arith, ints, has.0, has.1, is.2)),
        );
        long = run_long lo n;
        nth = λ k value at. run_at lo n k value (omega (arith, ints, at.0, at.1, is.2)) at.0;
      },
    )
values_of (Set members) is = (
  members,
  record {
    ascending = is.ascending;
    all = λ value. (λ there. there, λ has. has);
    long = let some = is.some in omega (arith, some);
    nth = λ k value at. slice_get_read members (length members) k value refl at.0 (sym at.1);
  },
)

module _ (state : State) (order : AreInOrder state) where
  -- there is such a list of choices
  pub value_choices : (name : VarName) (domain : Domain) → IsDomain domain → Gives state name domain → (choices : List Decision) × AreValueChoices state name choices
  value_choices name domain is gives =
      let values = values_of domain is in
      (map (λ value. decision.Specify name value) values.0, record { domain = domain; gives = gives; values = values.0; ascending = values.1.ascending; all = values.1.all; are = refl })

  -- and its values are those of the domain
  same_values : (name : VarName) (domain : Domain) (choices : List Decision) → (is : IsDomain domain) → Gives state name domain → (are : AreValueChoices state name choices) → are.values ≡ (values_of domain is).0
  same_values name domain choices is gives are =
      let values = values_of domain is in
      let same = gives_same state order name are.domain domain are.gives gives in
      same_members (λ (a b : ℤ). a <ℤ b) (λ a less. omega (arith, ints, less)) (λ a b c less more. omega (arith, ints, less, more)) are.values values.0 are.ascending values.1.ascending
      (λ value there. (values.1.all value).1 (subst (λ d. Has d value) same ((are.all value).0 there)))
      (λ value there. (are.all value).1 (subst (λ d. Has d value) (sym same) ((values.1.all value).0 there)))

  pub value_picked : (place : VarPlace) (name : VarName) (domain : Domain) (number : ℕ) (value : ℤ) (choices : List Decision) → IsDomain domain → IsVarAt state place name → Gives state name domain → IsNth domain number value
      → AreValueChoices state name choices → PicksChoice state choices number (Some (Specify place value))
  value_picked place name domain number value choices is here gives nth are =
      let at = subst (λ (l : List ℤ). slice_get l number ≡ Some value) (sym (same_values name domain choices is gives are)) ((values_of domain is).1.nth number value nth) in (
        decision.Specify name value,
        (name, here, refl),
        subst (λ (l : List Decision). slice_get l number ≡ Some (decision.Specify name value)) (sym are.are) (get_map (λ v. decision.Specify name v) are.values number value at),
      )

  pub value_past : (name : VarName) (domain : Domain) (number : ℕ) (choices : List Decision) → IsDomain domain → Gives state name domain → count_of domain ≤ number
      → AreValueChoices state name choices → PicksChoice state choices number None
  value_past name domain number choices is gives past are =
      let values = values_of domain is in
      let same = ap length (same_values name domain choices is gives are) in
      subst (λ (l : List Decision). slice_get l number ≡ None) (sym are.are)
      (slice_get_past (map (λ v. decision.Specify name v) are.values) number (omega (arith, past, same, values.1.long, length-map are.values (λ v. decision.Specify name v))))

module _ (model : Model) (state : State) (is_state : IsState model state) (place : VarPlace) (domain : Domain) (number : ℕ) (has : (name : VarName) × IsVarAt state place name × Gives state name domain) where
  own_given : (name : VarName) → IsVarAt state place name → Gives state name domain
  own_given name here = subst (λ (n : VarName). Gives state n domain) (var_once state place has.0 name has.1 here) has.2

  ok : IsDomain domain
  ok = gives_domain model state is_state has.0 domain has.2

  -- where the value is handed on as this number
  pub value_told : (value said : ℤ) → said ≡ value → IsNth domain number value → (name : VarName) (choices : List Decision) → IsVarAt state place name → AreValueChoices state name choices
      → PicksChoice state choices number (Some (Specify place said))
  value_told value said same nth name choices here are =
      subst (λ (v : ℤ). PicksChoice state choices number (Some (Specify place v))) (sym same)
      (value_picked state is_state.order place name domain number value choices ok here (own_given name here) nth are)

  pub value_over : count_of domain ≤ number → (name : VarName) (choices : List Decision) → IsVarAt state place name → AreValueChoices state name choices → PicksChoice state choices number None
  value_over past name choices here are = value_past state is_state.order name domain number choices ok (own_given name here) past are
