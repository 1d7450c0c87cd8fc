-- Active tokens that do something to resources: each once, and with quantities and times within their bases.
use Rattle.std.proofs.Common.{◌≡◌, ◌↔◌, IsTrue, Option, Some, None, MatchOption, Bool, false, ℕ, ◌<◌, ℤ, pos, ◌≤ℤ◌, List, [], ◌∷◌, length, get_or, refl, sym, ◌∙◌, ap, subst, inl, inr, codes, arith}
use Rattle.std.specs.Prelude.{slice_get}
use Rattle.std.proofs.lemmas.Bool.{cases_lt}
use Rattle.std.proofs.lemmas.Int.{ints}
use Rattle.std.proofs.lemmas.Option.{slice_get_within, get_or_from_slice_get}
use Rattle.domain_core.specs.Domain.{Domain, Range, IsDomain, IsWithin, IsSingle, Has, least, greatest}
use Rattle.domain_core.proofs.Words.{between_ends, has_least}
use Rattle.eu_name.specs.declared.name.Part.TheVariants.{Start, End, Object, Param}
use Rattle.eu_name.specs.declared.name.TokenName.{TokenName}
use Rattle.eu_name.specs.declared.name.VarName.TheVariants.{Token}
use Rattle.eu_name.specs.NameOrder.{IsTokenBefore}
use Rattle.eu_name.proofs.Members.{get_from_contains, get_within}
use Rattle.eu_name.proofs.Orders.{token_order}
use Rattle.model_core.specs.declared.class.Pred.{Pred}
use Rattle.model_core.specs.declared.class.PredKind.{PredKind}
use Rattle.model_core.specs.declared.class.PredKind.TheVariants.{Plain, Uses, Produce, Consume}
use Rattle.model_core.specs.declared.decision.Decision.{Decision}
use Rattle.model_core.specs.declared.model.Model.{Model}
use Rattle.model_core.specs.declared.rule.Slot.{Slot}
use Rattle.model_core.specs.declared.variable.Base.TheVariants.{Given}
use Rattle.model_core.specs.declared.variable.ValueKind.TheVariants as kinds
use Rattle.model_core.specs.declared.variable.VarDecl.{VarDecl}
use Rattle.model_core.specs.Lawful.{HasQuantity}
use Rattle.model_core.specs.Decided.{IsActive}
use Rattle.model_core.specs.State.{State, Gives, AreInOrder}
use Rattle.model_core.specs.Variables.{HasParameter, IsInBase}
use Rattle.model_core.specs.Views.{IsTokenAt}
use Rattle.model_core.proofs.Leading.{token_once}
use Rattle.plan_defs.specs.Resources.{IsActor}
use Rattle.plan_defs.specs.Timelines.{IsOn}
use Rattle.plan_defs.proofs.Lower.{least_rises, greatest_falls}
use Rattle.plan_defs.proofs.States.{gives_same, gives_domain}
use Rattle.db_resources.specs.Actors.{IsSoundView, IsRole, HasRole, IsMeasured, IsActorOf, IsBounded}
use Rattle.db_resources.specs.Effects.{IsOnAt, MayBeOnAt}
use Rattle.db_resources.specs.declared.actor.Actor.{Actor}

pub one_token : (state : State) (place : ℕ) (one other : TokenName) → IsTokenAt state place one → IsTokenAt state place other → one ≡ other
one_token state place one other p q = cc

-- what stands past the end of a list of actors
abbrev pub no_actor : Actor
no_actor = record {
  place = 0;
  kind = Plain;
  start_lo = pos 0;
  start_hi = pos 0;
  end_lo = pos 0;
  quantity_lo = pos 0;
  quantity_hi = pos 0;
}

-- what is read off the three domains
pub measured_by : (state : State) (place : ℕ) (kind : PredKind) (start end quantity : Domain)
    → ((token : TokenName) × IsTokenAt state place token × Gives state (Token token Start) start)
    → ((token : TokenName) × IsTokenAt state place token × Gives state (Token token End) end)
    → ((token : TokenName) × IsTokenAt state place token × Gives state (Token token (Param 0)) quantity)
    → (start_lo start_hi end_lo quantity_lo quantity_hi : ℤ) → start_lo ≡ least start → start_hi ≡ greatest start → end_lo ≡ least end
    → quantity_lo ≡ least quantity → quantity_hi ≡ greatest quantity
    → (token : TokenName) × IsMeasured state token (record {
      place = place;
      kind = kind;
      start_lo = start_lo;
      start_hi = start_hi;
      end_lo = end_lo;
      quantity_lo = quantity_lo;
      quantity_hi = quantity_hi;
    })
measured_by state place kind start end quantity starts ends quantities start_lo start_hi end_lo quantity_lo quantity_hi a b c d e = (
  starts.0,
  record {
    at = starts.1;
    start = start;
    end = end;
    quantity = quantity;
    gives_start = starts.2;
    gives_end = subst (λ t. Gives state (Token t End) end) (one_token state place ends.0 starts.0 ends.1 starts.1) ends.2;
    gives_quantity = subst (λ t. Gives state (Token t (Param 0)) quantity) (one_token state place quantities.0 starts.0 quantities.1 starts.1) quantities.2;
    start_lo = a;
    start_hi = b;
    end_lo = c;
    quantity_lo = d;
    quantity_hi = e;
  },
)

-- an actor has its role
pub has_role : (model : Model) (decisions : List Decision) (state : State) (token : TokenName) (actor : Actor) → IsActorOf model decisions state token actor → HasRole model token actor.kind
has_role model decisions state token actor is = record {
  is_role = is.is_role;
  slot = is.acts.slot;
  has_token = is.acts.has_token;
  predicate = is.acts.predicate;
  is_predicate = is.acts.is_predicate;
  is_kind = is.acts.is_kind;
}

-- an active token with a role and these numbers is an actor
pub actor_told : (model : Model) (decisions : List Decision) (state : State) (place : ℕ) (kind : PredKind) (told : Option Actor)
    → ((token : TokenName) × IsTokenAt state place token × IsActive model decisions token)
    → ((token : TokenName) × IsTokenAt state place token × HasRole model token kind)
    → MatchOption told ((token : TokenName) (actor : Actor) → IsTokenAt state place token → IsMeasured state token actor → ⊥)
    (λ actor. (token : TokenName) × IsMeasured state token actor × (actor.place ≡ place) × (actor.kind ≡ kind))
    → MatchOption told ((token : TokenName) (actor : Actor) → IsTokenAt state place token → IsActorOf model decisions state token actor → ⊥)
    (λ actor. (token : TokenName) × IsTokenAt state place token × IsActorOf model decisions state token actor)
actor_told model decisions state place kind None active role none = λ token actor at is. none token actor at is.measured
actor_told model decisions state place kind (Some actor) active role (token, is, same_place, same_kind) =
    let at : IsTokenAt state place token = subst (λ n. IsTokenAt state n token) same_place is.at in
    let active' : IsActive model decisions token = subst (IsActive model decisions) (one_token state place active.0 token active.1 at) active.2 in
    let role' : HasRole model token actor.kind = subst (λ k. HasRole model token k) (sym same_kind) (subst (λ t. HasRole model t kind) (one_token state place role.0 token role.1 at) role.2) in (
      token,
      at,
      record {
        is_role = role'.is_role;
        acts = record {
          active = active';
          slot = role'.slot;
          has_token = role'.has_token;
          predicate = role'.predicate;
          is_predicate = role'.is_predicate;
          is_kind = role'.is_kind;
        };
        measured = is;
      },
    )

-- what stands past the end of a list of tokens
abbrev pub no_token : TokenName
no_token = record { root = 0; steps = [] }

-- what is said of the token at a place
pub token_told : {X : Type 0} (Has : TokenName → X → Type 0) (state : State) (place : ℕ) (told : Option X) → place < length state.tokens
    → MatchOption told ((token : TokenName) (thing : X) → IsTokenAt state place token → Has token thing → ⊥) (λ thing. (token : TokenName) × IsTokenAt state place token × Has token thing)
    → MatchOption told ((thing : X) → Has (get_or state.tokens place no_token) thing → ⊥) (Has (get_or state.tokens place no_token))
token_told Has state place None within none = λ thing has.
    let there = get_within state.tokens place within in
    none there.0 thing there.1 (subst (λ t. Has t thing) (get_or_from_slice_get state.tokens place there.0 no_token there.1) has)
token_told Has state place (Some thing) within (token, at, has) =
    subst (λ t. Has t thing) (sym (get_or_from_slice_get state.tokens place token no_token at)) has

-- ---- one place, one kind, one domain of each part

module _ (state : State) (order : AreInOrder state) where
  not_before : (one other : ℕ) (token : TokenName) → one < other → IsTokenAt state one token → IsTokenAt state other token → ⊥
  not_before one other token before at at' =
      let pair : IsTokenBefore token token =
      subst (λ t. IsTokenBefore token t) (get_or_from_slice_get state.tokens other token token at')
      (subst (λ t. IsTokenBefore t (get_or state.tokens other token)) (get_or_from_slice_get state.tokens one token token at)
      (order.tokens one other token before (slice_get_within state.tokens other token at'))) in
      token_order.irreflexive token pair

  pub token_place_once : (one other : ℕ) (token : TokenName) → IsTokenAt state one token → IsTokenAt state other token → one ≡ other
  token_place_once one other token at at' = elim (cases_lt one other) [
    | inl before ↦ absurd (not_before one other token before at at')
    | inr rest ↦ elim (cases_lt other one) [
      | inl behind ↦ absurd (not_before other one token behind at' at)
      | inr both ↦ omega arith
    ]
  ]

  measured_once : (token : TokenName) (one other : Actor) → one.kind ≡ other.kind → IsMeasured state token one → IsMeasured state token other → one ≡ other
  measured_once token one other kind p q =
      let place : one.place ≡ other.place = token_place_once one.place other.place token p.at q.at in
      let start : p.start ≡ q.start = gives_same state order (Token token Start) p.start q.start p.gives_start q.gives_start in
      let end : p.end ≡ q.end = gives_same state order (Token token End) p.end q.end p.gives_end q.gives_end in
      let quantity : p.quantity ≡ q.quantity = gives_same state order (Token token (Param 0)) p.quantity q.quantity p.gives_quantity q.gives_quantity in
      let start_lo : one.start_lo ≡ other.start_lo = p.start_lo ∙ ap least start ∙ sym q.start_lo in
      let start_hi : one.start_hi ≡ other.start_hi = p.start_hi ∙ ap greatest start ∙ sym q.start_hi in
      let end_lo : one.end_lo ≡ other.end_lo = p.end_lo ∙ ap least end ∙ sym q.end_lo in
      let quantity_lo : one.quantity_lo ≡ other.quantity_lo = p.quantity_lo ∙ ap least quantity ∙ sym q.quantity_lo in
      let quantity_hi : one.quantity_hi ≡ other.quantity_hi = p.quantity_hi ∙ ap greatest quantity ∙ sym q.quantity_hi in
      (λ i. record {
        place = place i;
        kind = kind i;
        start_lo = start_lo i;
        start_hi = start_hi i;
        end_lo = end_lo i;
        quantity_lo = quantity_lo i;
        quantity_hi = quantity_hi i;
      })

-- what a token does is one
pub kind_once : (model : Model) (decisions : List Decision) (token : TokenName) (one other : PredKind) → IsActor model decisions one token → IsActor model decisions other token → one ≡ other
kind_once model decisions token one other p q =
    let slots : p.slot ≡ q.slot = token_once model token p.slot q.slot p.has_token q.has_token in
    let numbers : p.slot.pred ≡ q.slot.pred = ap (λ (s : Slot). s.pred) slots in
    let there : slice_get model.preds q.slot.pred ≡ Some p.predicate = subst (λ n. slice_get model.preds n ≡ Some p.predicate) numbers p.is_predicate in
    let options : Some p.predicate ≡ Some q.predicate = sym there ∙ q.is_predicate in
    let preds : p.predicate ≡ q.predicate = cc in
    sym p.is_kind ∙ ap (λ (x : Pred). x.kind) preds ∙ q.is_kind

-- ---- within their bases

-- the one parameter of what uses, produces or consumes
abbrev quantity_variable : VarDecl
quantity_variable = record { name = codes "quantity"; kind = kinds.Int; base = Given (Range (pos 0) (pos 1000000)) }

one_parameter : (kind : PredKind) (params : List VarDecl) → IsRole kind → HasQuantity kind params → params ≡ quantity_variable ∷ []
one_parameter Plain params role has = absurd role
one_parameter Uses params role has = has
one_parameter Produce params role has = has
one_parameter Consume params role has = has

-- ends of a domain that lies in a range
pub in_range : (domain : Domain) (lo hi : ℤ) → IsDomain domain → IsDomain (Range lo hi) → IsWithin domain (Range lo hi)
    → (lo ≤ℤ least domain) × (least domain ≤ℤ greatest domain) × (greatest domain ≤ℤ hi)
in_range domain lo hi ok range within = (
  least_rises domain (Range lo hi) ok range within,
  (between_ends domain (least domain) ok (has_least domain ok)).1,
  greatest_falls domain (Range lo hi) ok range within,
)

module _ (model : Model) (decisions : List Decision) (state : State) (sound : IsSoundView model decisions state) where
  domain_of : (token : TokenName) (domain : Domain) → Gives state (Token token (Param 0)) domain → IsDomain domain
  domain_of token domain gives = gives_domain model state sound.is_state (Token token (Param 0)) domain gives

  -- the base of a parameter of a predicate that does something to resources
  quantity_base : (number : ℕ) (predicate : Pred) (variable : VarDecl) → slice_get model.preds number ≡ Some predicate → IsRole predicate.kind
      → HasParameter model number 0 variable → variable.base ≡ Given (Range (pos 0) (pos 1000000))
  quantity_base number predicate variable is role has =
      let options : Some has.predicate ≡ Some predicate = sym has.is_predicate ∙ is in
      let same : has.predicate ≡ predicate = cc in
      let params = one_parameter predicate.kind predicate.params role (sound.lawful.preds number predicate is).quantity in
      let first : slice_get (quantity_variable ∷ []) 0 ≡ Some variable =
      subst (λ list. slice_get list 0 ≡ Some variable) (ap (λ (p : Pred). p.params) same ∙ params) has.declared in
      let variables : quantity_variable ≡ variable = cc in
      sym (ap (λ (v : VarDecl). v.base) variables)

  quantity_within : (kind : PredKind) (token : TokenName) (domain : Domain) → IsRole kind → IsActor model decisions kind token → Gives state (Token token (Param 0)) domain
      → IsWithin domain (Range (pos 0) (pos 1000000))
  quantity_within kind token domain role acts gives =
      let based = sound.in_base (Token token (Param 0)) domain gives in
      let slot = based.1.0 in
      let variable = based.1.2.0 in
      let slots : slot ≡ acts.slot = token_once model token slot acts.slot based.1.1 acts.has_token in
      let parameter : HasParameter model acts.slot.pred 0 variable = subst (λ (s : Slot). HasParameter model s.pred 0 variable) slots based.1.2.1 in
      let role' : IsRole acts.predicate.kind = subst IsRole (sym acts.is_kind) role in
      let is : based.0 ≡ Given (Range (pos 0) (pos 1000000)) = based.1.2.2 ∙ quantity_base acts.slot.pred acts.predicate variable acts.is_predicate role' parameter in
      subst (IsInBase domain) is based.2

  pub quantity_ends : (kind : PredKind) (token : TokenName) (domain : Domain) → IsRole kind → IsActor model decisions kind token → Gives state (Token token (Param 0)) domain
      → (pos 0 ≤ℤ least domain) × (least domain ≤ℤ greatest domain) × (greatest domain ≤ℤ pos 1000000)
  quantity_ends kind token domain role acts gives =
      in_range domain (pos 0) (pos 1000000) (domain_of token domain gives)
      ((omega (arith, ints), omega (arith, ints)), (omega (arith, ints), omega (arith, ints)), omega (arith, ints))
      (quantity_within kind token domain role acts gives)

  horizon_is_domain : IsDomain (Range model.problem.start model.problem.end)
  horizon_is_domain =
      let start = sound.lawful.horizon.start in
      let order = sound.lawful.horizon.order in
      let end = sound.lawful.horizon.end in
      ((omega (arith, ints), omega (arith, ints, end.1)), end, omega (arith, ints))

  pub start_ends : (token : TokenName) (domain : Domain) → Gives state (Token token Start) domain → (model.problem.start ≤ℤ least domain) × (greatest domain ≤ℤ model.problem.end)
  start_ends token domain gives =
      let based = sound.in_base (Token token Start) domain gives in
      let within : IsWithin domain (Range model.problem.start model.problem.end) = subst (IsInBase domain) based.1.2 based.2 in
      let ends = in_range domain model.problem.start model.problem.end (gives_domain model state sound.is_state (Token token Start) domain gives) horizon_is_domain within in
      (ends.0, ends.2)

  pub end_ends : (token : TokenName) (domain : Domain) → Gives state (Token token End) domain → (model.problem.start ≤ℤ least domain) × (greatest domain ≤ℤ model.problem.end)
  end_ends token domain gives =
      let based = sound.in_base (Token token End) domain gives in
      let within : IsWithin domain (Range model.problem.start model.problem.end) = subst (IsInBase domain) based.1.2 based.2 in
      let ends = in_range domain model.problem.start model.problem.end (gives_domain model state sound.is_state (Token token End) domain gives) horizon_is_domain within in
      (ends.0, ends.2)

  -- ---- actors

  pub actor_once : (token : TokenName) (one other : Actor) → IsActorOf model decisions state token one → IsActorOf model decisions state token other → one ≡ other
  actor_once token one other p q =
      measured_once state sound.is_state.order token one other (kind_once model decisions token one.kind other.kind p.acts q.acts) p.measured q.measured

  pub actor_bounded : (token : TokenName) (actor : Actor) → IsActorOf model decisions state token actor → IsBounded actor
  actor_bounded token actor is =
      let ends = quantity_ends actor.kind token is.measured.quantity is.is_role is.acts is.measured.gives_quantity in
      let lo = is.measured.quantity_lo in
      let hi = is.measured.quantity_hi in
      record { lo = omega (arith, ints, ends.0, lo); order = omega (arith, ints, ends.1, lo, hi); hi = omega (arith, ints, ends.2, hi) }

  -- a token with a quantity has a place, a start and an end
  pub measured : (token : TokenName) (kind : PredKind) (quantity : Domain) → Gives state (Token token (Param 0)) quantity → IsActor model decisions kind token
      → (actor : Actor) × IsMeasured state token actor × (actor.kind ≡ kind)
  measured token kind quantity gives acts =
      let there = ((sound.is_state.variables (Token token (Param 0))).1 (quantity, gives)).0 in
      let place = get_from_contains state.tokens token there in
      let base = Given (Range model.problem.start model.problem.end) in
      let start = (sound.is_state.variables (Token token Start)).0 (there, (base, (acts.slot, acts.has_token, refl))) in
      let end = (sound.is_state.variables (Token token End)).0 (there, (base, (acts.slot, acts.has_token, refl))) in (
        record {
          place = place.0;
          kind = kind;
          start_lo = least start.0;
          start_hi = greatest start.0;
          end_lo = least end.0;
          quantity_lo = least quantity;
          quantity_hi = greatest quantity;
        },
        record {
          at = place.1;
          start = start.0;
          end = end.0;
          quantity = quantity;
          gives_start = start.1;
          gives_end = end.1;
          gives_quantity = gives;
          start_lo = refl;
          start_hi = refl;
          end_lo = refl;
          quantity_lo = refl;
          quantity_hi = refl;
        },
        refl,
      )

  pub acting : (token : TokenName) (kind : PredKind) (quantity : Domain) → IsRole kind → Gives state (Token token (Param 0)) quantity → IsActor model decisions kind token
      → (actor : Actor) × IsActorOf model decisions state token actor × (actor.kind ≡ kind)
  acting token kind quantity role gives acts =
      let found = measured token kind quantity gives acts in
      let same = sym found.2 in (
        found.0,
        record {
          is_role = subst IsRole same role;
          acts = subst (λ k. IsActor model decisions k token) same acts;
          measured = found.1;
        },
        found.2,
      )

-- ---- on which objects

module _ (state : State) (order : AreInOrder state) (place : ℕ) where
  same_domain : (t token : TokenName) (one other : Domain) → IsTokenAt state place t → IsTokenAt state place token
      → Gives state (Token t Object) one → Gives state (Token token Object) other → other ≡ one
  same_domain t token one other at at' gives gives' =
      gives_same state order (Token t Object) other one (subst (λ x. Gives state (Token x Object) other) (one_token state place token t at' at) gives') gives

  pub on_told : (found object : ℤ) (told : Bool) → ((token : TokenName) × IsTokenAt state place token × IsOn state token found)
      → IsTrue told ↔ (found ≡ object) → IsTrue told ↔ IsOnAt state place object
  on_told found object told there is = (
    λ yes_told. (there.0, there.1, subst (IsOn state there.0) (is.0 yes_told) there.2),
    λ on. is.1 (
        let same = same_domain there.0 on.0 there.2.0 on.2.0 there.1 on.1 there.2.1 on.2.1 in
        on.2.2.only found (subst (λ d. IsSingle d found) (sym same) there.2.2).has),
  )

  pub not_on : (object : ℤ) → ((token : TokenName) (value : ℤ) → IsTokenAt state place token → IsOn state token value → ⊥) → IsTrue false ↔ IsOnAt state place object
  not_on object none = (λ told. cc, λ on. absurd (none on.0 object on.1 on.2))

  pub may_told : (object : ℤ) (domain : Domain) (told : Bool) → ((token : TokenName) × IsTokenAt state place token × Gives state (Token token Object) domain)
      → IsTrue told ↔ Has domain object → IsTrue told ↔ MayBeOnAt state place object
  may_told object domain told there is = (
    λ yes_told. (there.0, there.1, (domain, there.2, is.0 yes_told)),
    λ may. is.1 (subst (λ d. Has d object) (same_domain there.0 may.0 domain may.2.0 there.1 may.1 there.2 may.2.1) may.2.2),
  )

  pub may_not : (object : ℤ) → ((token : TokenName) (domain : Domain) → IsTokenAt state place token → Gives state (Token token Object) domain → ⊥) → IsTrue false ↔ MayBeOnAt state place object
  may_not object none = (λ told. cc, λ may. absurd (none may.0 may.2.0 may.1 may.2.1))
