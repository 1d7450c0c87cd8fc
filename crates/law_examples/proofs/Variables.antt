-- States of one variable.
use Rattle.std.proofs.Common.{◌≡◌, ℕ, ◌<◌, List, [], ◌∷◌, ◌++◌, length, ℤ, pos, ◌≤ℤ◌, inl, inr, refl, sym, ap, ◌∙◌, subst, arith}
use Rattle.std.specs.Prelude.{Contains, All, AllPairs, ◌↔◌}
use Rattle.std.specs.List.{AllZip}
use Rattle.std.proofs.lemmas.Int.{ints}
use Rattle.domain_core.specs.Domain.{Domain, Range, IsDomain, IsWithin, IsTested, IsSingle}
use Rattle.eu_name.specs.declared.name.VarName.{VarName}
use Rattle.eu_name.specs.declared.name.VarName.TheVariants.{Token, Local, Global}
use Rattle.eu_name.specs.NameOrder.{IsTokenBefore, IsVarBefore}
use Rattle.model_core.specs.declared.class.Class.{Class}
use Rattle.model_core.specs.declared.class.Object.{Object}
use Rattle.model_core.specs.declared.class.ObjectKind.TheVariants as kind
use Rattle.model_core.specs.declared.decision.Decision.{Decision}
use Rattle.model_core.specs.declared.decision.Decision.TheVariants.{Specify, Activate, Merge, Reject, Order, Constrain, Relate}
use Rattle.model_core.specs.declared.item.Item.{Item}
use Rattle.domain_core.specs.declared.kind.Kind.TheVariants.{Leq}
use Rattle.model_core.specs.declared.item.Term.TheVariants as term
use Rattle.model_core.specs.declared.model.Model.{Model}
use Rattle.model_core.specs.declared.variable.Base.TheVariants.{Given}
use Rattle.model_core.specs.declared.variable.VarDecl.{VarDecl}
use Rattle.model_core.specs.Blocks.{IsBlockBefore}
use Rattle.domain_core.specs.Consistency.{Ends, Admits}
use Rattle.domain_core.specs.Constraints.{HoldsOf, AgreeOn}
use Rattle.model_core.specs.Decided.{IsTaken}
use Rattle.model_core.specs.Kinds.{IsObject}
use Rattle.model_core.specs.State.{State, VarDomain, Gives, IsAbout}
use Rattle.model_core.specs.Variables.{HasBase, IsInBase}
use Rattle.plan_defs.specs.Claims.{Claim, IsClaim, IsOfProblem, ItemSays, Posts, posted_claim}
use Rattle.plan_defs.specs.Closure.{IsClosed, AreInBase, IsRespected}
use Rattle.plan_defs.specs.Consistency.{IsClaimConsistent, HasField}
use Rattle.plan_defs.specs.Terms.{Value, Variable, Argument, Means, InProblem, HasDomain, ArgumentCounts}
use Rattle.eu_name.proofs.Ordered.{contains_cases, contains_head, contains_none, ordered_none, ordered_one}
use Rattle.law_examples.specs.Globals.{declared_x, problem_of, problem_with, free_x, low_x, at_most_1, empty_state, with_x, up_to}
use Rattle.law_examples.proofs.Lists.{all_members, only_member, same_some}
use Rattle.law_examples.proofs.Tuples.{two_consistent}

-- the state, which has no tokens, grants the decision: a specified variable has its value alone, and a posted constraint is consistent
abbrev pub IsGranted : Model → State → Decision → Type 0
IsGranted model state (Specify name value) = IsRespected (Specify name value) state
IsGranted model state (Constrain kind arguments) = IsClaimConsistent model state (posted_claim kind arguments)
IsGranted model state decision = ⊥

abbrev pub by_name : VarDomain → VarDomain → Type 0
by_name one later = IsVarBefore one.name later.name

-- ---- problems without roots

module _ (classes : List Class) (objects : List Object) (globals : List VarDecl) (items : List Item) (decisions : List Decision) (entries : List VarDomain) where
  abbrev model : Model
  model = problem_with classes objects globals items

  abbrev state : State
  state = record { tokens = []; blocks = []; entries = entries }

  -- a state of their variables is closed where these are in their bases, the decisions granted, and the constraints consistent
  pub closed : ((value : ℤ) (object : Object) → IsObject model value object → object.kind ≡ kind.Plain) → AllPairs by_name entries
      → ((number : ℕ) → number < length globals → (domain : Domain) × Gives state (Global number) domain)
      → ((name : VarName) (domain : Domain) → Gives state name domain → (number : ℕ) × (name ≡ Global number) × (number < length globals))
      → All (λ (entry : VarDomain). IsDomain entry.domain) entries
      → AreInBase model state → ((decision : Decision) → Contains decisions decision → IsGranted model state decision)
      → ((claim : Claim) → IsOfProblem model (IsTaken decisions) claim → IsClaimConsistent model state claim) → IsClosed model decisions state
  closed plain ordered there named domains in_base granted consistent = record {
    consistent = record {
      is_state = record {
        order = record { tokens = ordered_none IsTokenBefore; blocks = ordered_none IsBlockBefore; entries = ordered };
        tokens = all_members _ [] (λ token c. absurd (contains_none token c));
        blocks = all_members _ [] (λ block c. absurd (contains_none block c));
        variables = variables;
        domains = domains;
      };
      tokens = λ token p. let none = p.is_root in absurd (cc);
      blocks = λ block entries p. let none = p.supported.is_root in absurd (cc);
      in_base = in_base;
      respected = λ decision c. respected decision (granted decision c);
      claims = claims;
      timelines = λ one other share late. let is_plain = plain share.timeline share.is_timeline.0 share.is_timeline.1 in let is_timeline = share.is_timeline.2 in absurd (cc);
    };
    reusables = λ value object capacity instant is kind_is inside. let is_plain = plain value object is in absurd (cc);
    reservoirs = λ complete value object initial low high instant is kind_is inside. let is_plain = plain value object is in absurd (cc);
  }
    where
      variables : (name : VarName) → IsAbout model state name ↔ ((domain : Domain) × Gives state name domain)
      variables (Global number) = (there number, λ found. let at = named (Global number) found.0 found.1 in let same : number ≡ at.0 = (let e = at.1 in cc) in subst (λ n. n < length globals) (sym same) at.2)
      variables (Token token part) = (λ about. absurd (contains_none token about.0), λ found. let at = named (Token token part) found.0 found.1 in let e = at.1 in absurd (cc))
      variables (Local token rule number) = (λ about. absurd (contains_none about.block about.is_open), λ found. let at = named (Local token rule number) found.0 found.1 in let e = at.1 in absurd (cc))

      respected : (decision : Decision) → IsGranted model state decision → IsRespected decision state
      respected (Specify name value) is = is
      respected (Constrain kind arguments) is = tt
      respected (Activate token) is = absurd is
      respected (Merge token target) is = absurd is
      respected (Reject token) is = absurd is
      respected (Order one other) is = absurd is
      respected (Relate relation one other) is = absurd is

      posted : (decision : Decision) (claim : Claim) → IsGranted model state decision → Posts decision claim → IsClaimConsistent model state claim
      posted (Specify name value) claim is posts = absurd posts
      posted (Constrain kind arguments) claim is posts = subst (IsClaimConsistent model state) (sym posts) is
      posted (Activate token) claim is posts = absurd is
      posted (Merge token target) claim is posts = absurd is
      posted (Reject token) claim is posts = absurd is
      posted (Order one other) claim is posts = absurd is
      posted (Relate relation one other) claim is posts = absurd is

      claims : (claim : Claim) → IsClaim model decisions state claim → IsClaimConsistent model state claim
      claims claim (inl p) = consistent claim p
      claims claim (inr (inl p)) = absurd (contains_none p.block p.is_open)
      claims claim (inr (inr (inl p))) = absurd (contains_none p.token p.there)
      claims claim (inr (inr (inr (inl p)))) = absurd (granted (Merge p.token p.target) p.merged)
      claims claim (inr (inr (inr (inr (inl p))))) = absurd (granted (Order p.one p.other) p.ordered)
      claims claim (inr (inr (inr (inr (inr p))))) = posted p.decision claim (granted p.decision p.stands) p.posts

pub no_object : (globals : List VarDecl) (items : List Item) (value : ℤ) (object : Object) → IsObject (problem_of globals items) value object → object.kind ≡ kind.Plain
no_object globals items value object is = let none = is.2 in absurd (cc)

-- ---- the variable x

pub gives_x : (domain : Domain) → Gives (with_x domain) (Global 0) domain
gives_x domain = contains_head _ []

pub is_x : (domain : Domain) (name : VarName) (other : Domain) → Gives (with_x domain) name other → (name ≡ Global 0) × (domain ≡ other)
is_x domain name other gives =
    let same = only_member (record { name = Global 0; domain = domain }) (record { name = name; domain = other }) gives in
    (sym (ap (λ (e : VarDomain). e.name) same), ap (λ (e : VarDomain). e.domain) same)

pub x_base : (items : List Item) → HasBase (problem_of (declared_x ∷ []) items) (Global 0) (Given (up_to 2))
x_base items = (declared_x, refl, refl)

pub up_to_domain : (number : ℕ) → number < 11 → IsDomain (up_to number)
up_to_domain number few = ((omega (arith, ints), omega (arith, ints)), (omega (arith, ints), omega (arith, ints)), omega (arith, ints))

-- a state of x within its base is closed where the decisions are granted and the constraints consistent
x_closed : (items : List Item) (decisions : List Decision) (number : ℕ) → number < 3
    → ((decision : Decision) → Contains decisions decision → IsGranted (problem_of (declared_x ∷ []) items) (with_x (up_to number)) decision)
    → ((claim : Claim) → IsOfProblem (problem_of (declared_x ∷ []) items) (IsTaken decisions) claim → IsClaimConsistent (problem_of (declared_x ∷ []) items) (with_x (up_to number)) claim)
    → IsClosed (problem_of (declared_x ∷ []) items) decisions (with_x (up_to number))
x_closed items decisions number few granted consistent =
    closed [] [] (declared_x ∷ []) items decisions (with_x (up_to number)).entries (no_object (declared_x ∷ []) items) (ordered_one by_name (record { name = Global 0; domain = up_to number }))
    (λ n within. let zero_is : 0 ≡ n = omega (arith, within) in (up_to number, subst (λ k. Gives (with_x (up_to number)) (Global k) (up_to number)) zero_is (gives_x (up_to number))))
    (λ name domain gives. (0, (is_x (up_to number) name domain gives).0, omega arith))
    (all_members (λ (entry : VarDomain). IsDomain entry.domain) (with_x (up_to number)).entries (λ entry c. subst (λ (e : VarDomain). IsDomain e.domain) (only_member (record { name = Global 0; domain = up_to number }) entry c) (up_to_domain number (omega (arith, few)))))
    (λ name domain gives. let is = is_x (up_to number) name domain gives in (
      Given (up_to 2),
      subst (λ n. HasBase (problem_of (declared_x ∷ []) items) n (Given (up_to 2))) (sym is.0) (x_base items),
      subst (λ d. IsWithin d (up_to 2)) is.1 (record { kind = tt; values = λ v has. (omega (arith, ints, has.0), omega (arith, ints, has.1, few)) }),
    ))
    granted consistent

pub no_decision : (model : Model) (state : State) (decision : Decision) → Contains [] decision → IsGranted model state decision
no_decision model state decision c = absurd (contains_none decision c)

pub no_item : (model : Model) (decisions : List Decision) (state : State) → model.problem.items ≡ [] → (claim : Claim) → IsOfProblem model (IsTaken decisions) claim → IsClaimConsistent model state claim
no_item model decisions state none claim p = absurd (contains_none p.item (subst (λ list. Contains list p.item) none p.stands))

-- ---- the examples

pub empty_closed : IsClosed (problem_of [] []) [] empty_state
empty_closed =
    closed [] [] [] [] [] [] (no_object [] []) (ordered_none by_name) (λ number within. absurd (omega (arith, within))) (λ name domain gives. absurd (contains_none (record { name = name; domain = domain }) gives))
    (all_members _ [] (λ entry c. absurd (contains_none entry c))) (λ name domain gives. absurd (contains_none (record { name = name; domain = domain }) gives))
    (no_decision (problem_of [] []) empty_state) (no_item (problem_of [] []) [] empty_state refl)

pub x_is_missing : IsClosed free_x [] empty_state → ⊥
x_is_missing p = let found = (p.consistent.is_state.variables (Global 0)).0 (omega arith) in contains_none (record { name = Global 0; domain = found.0 }) found.1

pub whole_closed : IsClosed free_x [] (with_x (up_to 2))
whole_closed = x_closed [] [] 2 (omega arith) (no_decision free_x (with_x (up_to 2))) (no_item free_x [] (with_x (up_to 2)) refl)

pub x_is_outside : IsClosed free_x [] (with_x (up_to 3)) → ⊥
x_is_outside p =
    let found = p.consistent.in_base (Global 0) (up_to 3) (gives_x (up_to 3)) in
    let variable : declared_x ≡ found.1.0 = same_some declared_x found.1.0 found.1.1 in
    let base : found.0 ≡ Given (up_to 2) = found.1.2 ∙ ap (λ (v : VarDecl). v.base) (sym variable) in
    let within : IsWithin (up_to 3) (up_to 2) = subst (IsInBase (up_to 3)) base found.2 in
    let has = within.values (pos 3) (omega (arith, ints), omega (arith, ints)) in
    omega (arith, ints, has.1)

pub granted_closed : IsClosed free_x (Specify (Global 0) (pos 0) ∷ []) (with_x (up_to 0))
granted_closed =
    x_closed [] (Specify (Global 0) (pos 0) ∷ []) 0 (omega arith)
    (λ decision c. subst (IsGranted free_x (with_x (up_to 0))) (only_member (Specify (Global 0) (pos 0)) decision c)
    (λ domain gives. subst (λ d. IsSingle d (pos 0)) (is_x (up_to 0) (Global 0) domain gives).1 (record { has = (omega (arith, ints), omega (arith, ints)); only = λ v has. omega (arith, ints, has.0, has.1) })))
    (no_item free_x (Specify (Global 0) (pos 0) ∷ []) (with_x (up_to 0)) refl)

pub x_is_not_granted : IsClosed free_x (Specify (Global 0) (pos 0) ∷ []) (with_x (up_to 2)) → ⊥
x_is_not_granted p =
    let single = p.consistent.respected (Specify (Global 0) (pos 0)) (contains_head _ []) (up_to 2) (gives_x (up_to 2)) in
    let same = single.only (pos 2) (omega (arith, ints), omega (arith, ints)) in
    omega (arith, ints, same)

abbrev low_claim : Claim
low_claim = record { kind = Leq; arguments = Variable (Global 0) ∷ Value (pos 1) ∷ [] }

-- the constraint says one thing
arguments_same : (arguments : List Argument) → AllZip (Means InProblem) (term.Global 0 ∷ term.Lit (pos 1) ∷ []) arguments → arguments ≡ Variable (Global 0) ∷ Value (pos 1) ∷ []
arguments_same [] means = absurd means
arguments_same (one ∷ []) means = absurd means.1
arguments_same (one ∷ other ∷ []) means = (λ i. means.0 i ∷ means.1.0 i ∷ [])
arguments_same (one ∷ other ∷ more ∷ rest) means = absurd means.1.1

claim_same : (decisions : List Decision) (claim : Claim) → IsOfProblem low_x (IsTaken decisions) claim → claim ≡ low_claim
claim_same decisions claim p =
    let item = only_member at_most_1 p.item p.stands in
    let says = subst (λ i. ItemSays low_x (IsTaken decisions) InProblem i claim) (sym item) p.says in
    let arguments = arguments_same claim.arguments says.means in
    let kinds = says.is_kind in
    (λ i. record { kind = kinds i; arguments = arguments i })

low_consistent : IsClaimConsistent low_x (with_x (up_to 1)) low_claim
low_consistent = record {
  domains = up_to 1 ∷ Range (pos 1) (pos 1) ∷ [];
  have = (gives_x (up_to 1), (refl, tt));
  agree = two_consistent Ends (HoldsOf Leq) (up_to 1) (Range (pos 1) (pos 1))
      (λ v tested. ([], pos 1 ∷ [], tt, ((omega (arith, ints), omega (arith, ints)), tt), below_1 v tested))
      (λ v tested. (pos 0 ∷ [], [], ((omega (arith, ints), omega (arith, ints)), tt), tt, above_0 v tested));
}
  where
    below_1 : (v : ℤ) → IsTested (up_to 1) v → v ≤ℤ pos 1
    below_1 v (inl e) = omega (arith, ints, e)
    below_1 v (inr e) = omega (arith, ints, e)

    above_0 : (v : ℤ) → IsTested (Range (pos 1) (pos 1)) v → pos 0 ≤ℤ v
    above_0 v (inl e) = omega (arith, ints, e)
    above_0 v (inr e) = omega (arith, ints, e)

pub low_closed : IsClosed low_x [] (with_x (up_to 1))
low_closed =
    x_closed (at_most_1 ∷ []) [] 1 (omega arith) (no_decision low_x (with_x (up_to 1)))
    (λ claim p. subst (IsClaimConsistent low_x (with_x (up_to 1))) (sym (claim_same [] claim p)) low_consistent)

-- 2 isn't at most any number from 1 to 1
two_is_high : (domains : List Domain) → AllZip (HasDomain (Gives (with_x (up_to 2)))) low_claim.arguments domains → AgreeOn (HasField low_x) Leq domains → ⊥
two_is_high [] have agree = have
two_is_high (one ∷ []) have agree = have.1
two_is_high (one ∷ other ∷ more ∷ rest) have agree = have.1.1
two_is_high (one ∷ other ∷ []) have agree =
    let x = (is_x (up_to 2) (Global 0) one have.0).1 in
    let supported = agree [] one (other ∷ []) (pos 2) refl (subst (λ d. IsTested d (pos 2)) x (inr refl)) in
    no_tuple supported.0 supported.1 supported.2 (subst (λ d. AllZip (Admits Ends) (d ∷ []) supported.1) have.1.0 supported.3) supported.4
  where
    no_tuple : (left right : List ℤ) → AllZip (Admits Ends) [] left → AllZip (Admits Ends) (Range (pos 1) (pos 1) ∷ []) right → HoldsOf Leq (left ++ pos 2 ∷ right) → ⊥
    no_tuple (v ∷ left) right before after holds = before
    no_tuple [] [] before after holds = after
    no_tuple [] (w ∷ more ∷ right) before after holds = after.1
    no_tuple [] (w ∷ []) before after holds = omega (arith, ints, after.0.1, holds)

pub x_is_inconsistent : IsClosed low_x [] (with_x (up_to 2)) → ⊥
x_is_inconsistent p =
    let found = p.consistent.claims low_claim (inl (record {
      item = at_most_1;
      stands = contains_head at_most_1 [];
      says = record { is_kind = refl; means = (refl, (refl, tt)); counts = all_members (ArgumentCounts low_x (IsTaken [])) low_claim.arguments counts };
    })) in
    two_is_high found.domains found.have found.agree
  where
    counts : (a : Argument) → Contains low_claim.arguments a → ArgumentCounts low_x (IsTaken []) a
    counts a c = elim (contains_cases (Variable (Global 0)) a (Value (pos 1) ∷ []) c) [
      | inl same ↦ subst (ArgumentCounts low_x (IsTaken [])) same (λ token belongs rejectable. absurd belongs)
      | inr later ↦ subst (ArgumentCounts low_x (IsTaken [])) (only_member (Value (pos 1)) a later) tt
    ]
