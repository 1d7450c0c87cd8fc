-- What asks for a token, and the parts that come with it.
use Rattle.std.proofs.Common.{◌≡◌, ℕ, zero, suc, ◌+◌, ◌<◌, ◌≤◌, pos, ◌-ℤ◌, List, [], ◌∷◌, ◌++◌, length, map, get_or, drop, Ok, Err, Some, None, ◌⊎◌, inl, inr, refl, sym, ap, ◌∙◌, subst, arith}
use Rattle.std.specs.Prelude.{◌↔◌, All, Contains, Option, Result, IfOk, slice_get}
use Rattle.std.proofs.lemmas.List.{drop_more, drop_all, map_push, length_push}
use Rattle.std.proofs.lemmas.Option.{get_or_from_slice_get}
use Rattle.std.proofs.lemmas.List.Elements.{Contains-append_left, Contains-push, Contains-push_cases}
use Rattle.domain_core.specs.Domain.{Domain, Range}
use Rattle.eu_name.specs.declared.name.Part.{Part}
use Rattle.eu_name.specs.declared.name.Part.TheVariants.{Start, End, Duration, Object, Param}
use Rattle.eu_name.specs.declared.name.Step.{Step}
use Rattle.eu_name.specs.declared.name.TokenName.{TokenName}
use Rattle.eu_name.specs.declared.name.VarName.{VarName}
use Rattle.model_core.specs.declared.class.Pred.{Pred}
use Rattle.model_core.specs.declared.model.Model.{Model}
use Rattle.model_core.specs.declared.model.Root.{Root}
use Rattle.model_core.specs.declared.rule.Slot.{Slot}
use Rattle.model_core.specs.declared.variable.Base.{Base}
use Rattle.model_core.specs.declared.variable.Base.TheVariants.{Given, Void}
use Rattle.model_core.specs.declared.variable.VarDecl.{VarDecl}
use Rattle.model_core.specs.declared.view.TokenState.{TokenState}
use Rattle.model_core.specs.declared.view.TokenState.TheVariants.{Inactive, Fact}
use Rattle.model_core.specs.Lawful.{IsLawful}
use Rattle.model_core.specs.Tokens.{HasToken, IsFact, LeadsToSlot, Reaches, slot_of}
use Rattle.model_core.specs.Variables.{HasParameter, HasPartBase}
use Rattle.model_core.proofs.Rules.{leads_once}
use Rattle.constraint_net.specs.Networks.{Network}
use Rattle.constraint_net.specs.declared.NetFault.{NetFault}
use Rattle.constraint_net.specs.declared.NetFault.TheVariants.{Collapsed, Memory}
use Rattle.constraint_net.specs.declared.constraint.Constraint.{Constraint}
use Rattle.token_store.specs.Orders.{name_at}
use Rattle.token_store.specs.Tokens.{TokenList, tokens_now, token_names, with_token, with_state, IsNewName}
use Rattle.token_store.specs.declared.trail.Token.{Token}
use Rattle.plan_defs.specs.Claims.{lasts}
use Rattle.eu_name.proofs.Members.{get_below, get_same, get_within, contains_from_get}
use Rattle.plan_defs.proofs.Members.{all_from_get}
use Rattle.eu_name.proofs.Ordered.{contains_head, contains_later, contains_cases, contains_none}
use Rattle.db_store.specs.Puts.{PutsToken, PutsVariable}
use Rattle.db_store.specs.Stores.{Stored}
use Rattle.db_store.specs.declared.key.VarKey.{VarKey}
use Rattle.db_store.specs.declared.key.VarKey.TheVariants as keys
use Rattle.db_store.proofs.Naming.{length_names}
use Rattle.db_posting.specs.Origins.{content_now}
use Rattle.db_posting.specs.Posted.{PostsClaims, OnlyPosts}
use Rattle.db_posting.specs.Terms.{HasPartAt, HasTimesAt}
use Rattle.db_posting.proofs.Naming.{keys_are_named}
use Rattle.db_opening.specs.Arriving.{with_arrived, BeginsToken, WantsSomePart, BringsToken, BringsOrFails}
use Rattle.db_opening.specs.Bringing.{KeyDomain, BringsKeys, Brings}
use Rattle.db_opening.specs.Parts.{ArePartsOf, WantsPart, WantsParts}
use Rattle.db_opening.proofs.Lists.{get_last}
use Rattle.db_opening.proofs.Bringing.{brings_nothing, brings_put, brings_as, brings_joined, fails_as}

-- ---- what asks for a token

-- the steps behind the first lead on from what the first leads to
pub reaches_next : (model : Model) (slot next reached : Slot) (step : Step) (steps : List Step) → Reaches model slot (step ∷ steps) reached → LeadsToSlot model slot.pred step next
    → Reaches model next steps reached
reaches_next model slot next reached step steps (found, leads, on) leads_next =
    subst (λ (s : Slot). Reaches model s steps reached) (leads_once model slot.pred step found next leads leads_next) on

-- where some are left, the next one leads on
pub reaches_step : (model : Model) (slot reached : Slot) (steps : List Step) (k : ℕ) (d : Step) → k < length steps → Reaches model slot (drop k steps) reached
    → Reaches model slot (get_or steps k d ∷ drop (k + 1) steps) reached
reaches_step model slot reached steps k d below on = subst (λ (list : List Step). Reaches model slot list reached) (drop_more steps k d below) on

-- where none is left, it is reached
pub reaches_end : (model : Model) (token : TokenName) (slot reached : Slot) (steps : List Step) (k : ℕ) → length steps ≤ k → HasToken model token reached
    → Reaches model slot (drop k steps) reached → HasToken model token slot
reaches_end model token slot reached steps k past has on =
    let same : reached ≡ slot = subst (λ (list : List Step). Reaches model slot list reached) (drop_all k steps past) on in
    subst (HasToken model token) same has

-- what is found at the token's root leads on by all steps
pub reaches_all : (model : Model) (token : TokenName) (reached : Slot) (items : List Root) (root : Root) (steps : List Step) → items ≡ model.problem.roots
    → root ≡ get_or items token.root root → steps ≡ token.steps → HasToken model token reached → Reaches model (slot_of root) steps reached
reaches_all model token reached items root steps same_items is same_steps has =
    let same : root ≡ has.root = is ∙ ap (λ (list : List Root). get_or list token.root root) same_items ∙ get_or_from_slice_get model.problem.roots token.root has.root root has.is_root in
    subst (λ (r : Root). Reaches model (slot_of r) steps reached) (sym same) (subst (λ (list : List Step). Reaches model (slot_of has.root) list reached) (sym same_steps) has.reached)

-- ---- how many parameters there are

module _ (model : Model) (pred : ℕ) where
  pub found_parameters : (found : Pred) (count : ℕ) → slice_get model.preds pred ≡ Some found → count ≡ length found.params → (number : ℕ)
      → number < count ↔ ((variable : VarDecl) × HasParameter model pred number variable)
  found_parameters found count at long number = (
    λ below. (let declared = get_within found.params number (omega (arith, below, long)) in
        (declared.0, record { predicate = found; is_predicate = at; declared = declared.1 })),
    λ has. (
        let same : has.1.predicate ≡ found = get_same model.preds pred has.1.predicate found has.1.is_predicate at in
        let below = get_below found.params number has.0 (subst (λ (p : Pred). slice_get p.params number ≡ Some has.0) same has.1.declared) in
        omega (arith, below, long)),
  )

  pub no_parameters : slice_get model.preds pred ≡ None → (number : ℕ) → number < 0 ↔ ((variable : VarDecl) × HasParameter model pred number variable)
  no_parameters none number = (
    λ below. absurd (omega (arith, below)),
    λ has. absurd (let found = has.1.is_predicate in let never : Some has.1.predicate ≡ None = sym found ∙ none in cc),
  )

  pub few_parameters : IsLawful model → (found : Pred) → slice_get model.preds pred ≡ Some found → length found.params ≤ 32
  few_parameters lawful found at = (lawful.preds pred found at).few_params

-- ---- which parts there are

-- a part of every token, or one of the first so many parameters
abbrev pub IsPartBelow : ℕ → Part → Type 0
IsPartBelow count (Param number) = number < count
IsPartBelow count part = Unit {0}

abbrev pub ArePartsBelow : ℕ → List Part → Type 0
ArePartsBelow count parts = (part : Part) → Contains parts part ↔ IsPartBelow count part

no_parameter : (number : ℕ) → Contains (Start ∷ End ∷ Duration ∷ Object ∷ []) (Param number) → ⊥
no_parameter number there = elim (contains_cases Start (Param number) (End ∷ Duration ∷ Object ∷ []) there) [
  | inl same ↦ absurd (cc)
  | inr more ↦ elim (contains_cases End (Param number) (Duration ∷ Object ∷ []) more) [
    | inl same ↦ absurd (cc)
    | inr more' ↦ elim (contains_cases Duration (Param number) (Object ∷ []) more') [
      | inl same ↦ absurd (cc)
      | inr more'' ↦ elim (contains_cases Object (Param number) [] more'') [
        | inl same ↦ absurd (cc)
        | inr none ↦ contains_none (Param number) none
      ]
    ]
  ]
]

first_below : (part : Part) → Contains (Start ∷ End ∷ Duration ∷ Object ∷ []) part → IsPartBelow 0 part
first_below Start there = tt
first_below End there = tt
first_below Duration there = tt
first_below Object there = tt
first_below (Param number) there = absurd (no_parameter number there)

below_first : (part : Part) → IsPartBelow 0 part → Contains (Start ∷ End ∷ Duration ∷ Object ∷ []) part
below_first Start is = contains_head Start (End ∷ Duration ∷ Object ∷ [])
below_first End is = contains_later Start End (End ∷ Duration ∷ Object ∷ []) (contains_head End (Duration ∷ Object ∷ []))
below_first Duration is =
    contains_later Start Duration (End ∷ Duration ∷ Object ∷ []) (contains_later End Duration (Duration ∷ Object ∷ []) (contains_head Duration (Object ∷ [])))
below_first Object is = Contains-push (Start ∷ End ∷ Duration ∷ []) Object
below_first (Param number) is = absurd (omega (arith, is))

pub parts_first : ArePartsBelow 0 (Start ∷ End ∷ Duration ∷ Object ∷ [])
parts_first part = (first_below part, below_first part)

below_cases : (n count : ℕ) → n < count + 1 → (n < count) ⊎ (n ≡ count)
below_cases zero zero below = inr refl
below_cases zero (suc count) below = inl (omega arith)
below_cases (suc n) zero below = absurd (omega (arith, below))
below_cases (suc n) (suc count) below = elim (below_cases n count (omega (arith, below))) [
  | inl less ↦ inl (omega (arith, less))
  | inr same ↦ inr (ap suc same)
]

more_below : (count : ℕ) (part : Part) → IsPartBelow count part → IsPartBelow (count + 1) part
more_below count (Param number) below = omega (arith, below)
more_below count Start is = tt
more_below count End is = tt
more_below count Duration is = tt
more_below count Object is = tt

pushed_below : (count : ℕ) (parts : List Part) → ArePartsBelow count parts → (part : Part) → IsPartBelow (count + 1) part → Contains (parts ++ Param count ∷ []) part
pushed_below count parts are (Param number) below = elim (below_cases number count below) [
  | inl less ↦ Contains-append_left parts (Param count ∷ []) (Param number) ((are (Param number)).1 less)
  | inr same ↦ subst (λ (n : ℕ). Contains (parts ++ Param count ∷ []) (Param n)) (sym same) (Contains-push parts (Param count))
]
pushed_below count parts are Start is = Contains-append_left parts (Param count ∷ []) Start ((are Start).1 tt)
pushed_below count parts are End is = Contains-append_left parts (Param count ∷ []) End ((are End).1 tt)
pushed_below count parts are Duration is = Contains-append_left parts (Param count ∷ []) Duration ((are Duration).1 tt)
pushed_below count parts are Object is = Contains-append_left parts (Param count ∷ []) Object ((are Object).1 tt)

pub parts_push : (count : ℕ) (parts : List Part) → ArePartsBelow count parts → ArePartsBelow (count + 1) (parts ++ Param count ∷ [])
parts_push count parts are part = (
  λ there. elim (Contains-push_cases parts (Param count) part there) [
    | inl before ↦ more_below count part ((are part).0 before)
    | inr last ↦ (let here : IsPartBelow (count + 1) (Param count) = omega arith in subst (IsPartBelow (count + 1)) last here)
  ],
  pushed_below count parts are part,
)

module _ (model : Model) (slot : Slot) (count : ℕ) (counted : (number : ℕ) → number < count ↔ ((variable : VarDecl) × HasParameter model slot.pred number variable)) where
  below_based : (part : Part) → IsPartBelow count part → (base : Base) × HasPartBase model slot part base
  below_based Start is = (Given (Range model.problem.start model.problem.end), refl)
  below_based End is = (Given (Range model.problem.start model.problem.end), refl)
  below_based Duration is = (Given (Range (pos 1) (model.problem.end -ℤ model.problem.start)), refl)
  below_based Object is = (slot.object, refl)
  below_based (Param number) is = let found = (counted number).0 is in (found.0.base, (found.0, found.1, refl))

  based_below : (part : Part) → ((base : Base) × HasPartBase model slot part base) → IsPartBelow count part
  based_below Start based = tt
  based_below End based = tt
  based_below Duration based = tt
  based_below Object based = tt
  based_below (Param number) based = (counted number).1 (based.1.0, based.1.1)

  pub parts_are : (parts : List Part) → ArePartsBelow count parts → ArePartsOf model slot parts
  parts_are parts are part = (
    λ there. below_based part ((are part).0 there),
    λ based. (are part).1 (based_below part based),
  )

-- ---- one part

module _ (model : Model) (slot : Slot) (part : Part) (number : ℕ) (is : part ≡ Param number) (there : (base : Base) × HasPartBase model slot part base) where
  has_parameter : (variable : VarDecl) × HasParameter model slot.pred number variable
  has_parameter =
      let based = subst (λ (p : Part). HasPartBase model slot p there.0) is there.1 in
      (based.0, based.1)

  parameter_based : (of base : Base) → ((variable : VarDecl) → HasParameter model slot.pred number variable → of ≡ variable.base) → of ≡ base → HasPartBase model slot part base
  parameter_based of base told same =
      subst (λ (p : Part). HasPartBase model slot p base) (sym is) (has_parameter.0, has_parameter.1, sym same ∙ told has_parameter.0 has_parameter.1)

  pub parameter_given : (of : Base) → ((variable : VarDecl) → HasParameter model slot.pred number variable → of ≡ variable.base) → (result : Result Domain NetFault)
      → IfOk result (λ domain. of ≡ Given domain) → IfOk result (λ domain. HasPartBase model slot part (Given domain))
  parameter_given of told (Ok domain) given = parameter_based of (Given domain) told given
  parameter_given of told (Err fault) given = tt

  pub parameter_void : (of : Base) → ((variable : VarDecl) → HasParameter model slot.pred number variable → of ≡ variable.base) → of ≡ Void → HasPartBase model slot part Void
  parameter_void of told same = parameter_based of Void told same

module _ (model : Model) (slot : Slot) (place : ℕ) where
  pub part_put : (part : Part) (domain : Domain) (old new : Stored) (found : Option ℕ) → HasPartBase model slot part (Given domain)
      → PutsVariable (keys.Part place part) domain old (Ok found) new → BringsKeys (WantsPart model slot place part) old new
  part_put part domain old new found has_base put =
      brings_as (λ one of. (one ≡ keys.Part place part) × (of ≡ Given domain)) (WantsPart model slot place part)
      (λ key base is. record { is = is.0; has_base = subst (HasPartBase model slot part) (sym is.1) has_base })
      (λ key base wants. (Given domain, (wants.is, refl))) old new (Ok tt) (brings_put (keys.Part place part) (Given domain) old new domain found refl put)

  pub part_void : (part : Part) (old new : Stored) → HasPartBase model slot part Void → Brings (WantsPart model slot place part) old (Err Collapsed) new
  part_void part old new has_base = (keys.Part place part, record { is = refl; has_base = has_base })

  -- ---- one after another

  abbrev wants_parts : List Part → VarKey → Base → Type 0
  wants_parts parts = WantsParts model slot place parts

  pub no_parts : (stored : Stored) → BringsKeys (WantsParts model slot place []) stored stored
  no_parts stored = brings_nothing (wants_parts []) stored (λ key base wants. absurd (contains_none wants.part wants.listed))

  part_more : (before : List Part) (part : Part) (key : VarKey) (base : Base) → wants_parts (before ++ part ∷ []) key base
      → ((of : Base) × wants_parts before key of) ⊎ ((of : Base) × WantsPart model slot place part key of)
  part_more before part key base wants = elim (Contains-push_cases before part wants.part wants.listed) [
    | inl earlier ↦ inl (base, record { part = wants.part; listed = earlier; wants = wants.wants })
    | inr last ↦ inr (base, subst (λ (p : Part). WantsPart model slot place p key base) (sym last) wants.wants)
  ]

  pub parts_more : (before : List Part) (part : Part) (old mid new : Stored) → BringsKeys (WantsParts model slot place before) old mid
      → BringsKeys (WantsPart model slot place part) mid new → BringsKeys (WantsParts model slot place (before ++ part ∷ [])) old new
  parts_more before part old mid new one other =
      brings_joined (wants_parts before) (WantsPart model slot place part) (wants_parts (before ++ part ∷ []))
      (λ key base wants. record { part = wants.part; listed = Contains-append_left before (part ∷ []) wants.part wants.listed; wants = wants.wants })
      (λ key base wants. record { part = part; listed = Contains-push before part; wants = wants })
      (part_more before part) old mid new one other

  pub part_fails : (parts : List Part) (part : Part) → Contains parts part → (old mid new : Stored) (fault : NetFault) → Brings (WantsPart model slot place part) mid (Err fault) new
      → Brings (WantsParts model slot place parts) old (Err fault) new
  part_fails parts part there old mid new fault fails =
      fails_as (WantsPart model slot place part) (wants_parts parts) (λ key base wants. record { part = part; listed = there; wants = wants }) old mid new fault fails

  -- all of them
  pub parts_based : (parts : List Part) → ArePartsOf model slot parts → All (λ part. (base : Base) × HasPartBase model slot part base) parts
  parts_based parts are = all_from_get (λ (part : Part). (base : Base) × HasPartBase model slot part base) parts (λ k part at. (are part).0 (contains_from_get parts k part at))

  pub brings_all : (parts : List Part) → ArePartsOf model slot parts → (old new : Stored) (result : Result (Unit {0}) NetFault) → Brings (WantsParts model slot place parts) old result new
      → Brings (WantsSomePart model slot place) old result new
  brings_all parts are old new result brings =
      brings_as (wants_parts parts) (WantsSomePart model slot place) (λ key base wants. (wants.part, wants.wants))
      (λ key base wants. (base, record { part = wants.0; listed = (are wants.0).1 (base, wants.1.has_base); wants = wants.1 })) old new result brings

-- ---- the state in which a token begins

state_last : (tokens : TokenList) (token : TokenName) (pred : ℕ) (state : TokenState) → with_state (with_token tokens token pred) (length tokens) state ≡ with_arrived tokens token pred state
state_last [] token pred state = refl
state_last (first ∷ tokens) token pred state = ap (λ (list : TokenList). first ∷ list) (state_last tokens token pred state)

module _ (model : Model) (token : TokenName) (pred place : ℕ) (old mid : Stored) (put : PutsToken token pred old (Ok (Some place)) mid) where
  pub begins_open : (IsFact model token → ⊥) → BeginsToken model token pred old mid place
  begins_open no_fact = record {
    is_last = put.0;
    state = Inactive;
    begins = no_fact;
    tokens = ap (λ (stored : Stored). tokens_now stored.past) put.2;
    keys = ap (λ (stored : Stored). stored.keys) put.2;
    blocks = ap (λ (stored : Stored). stored.blocks) put.2;
    watches = ap (λ (stored : Stored). stored.watches) put.2;
    net = ap (λ (stored : Stored). stored.net) put.2;
  }

  pub begins_fact : (new : Stored) → IsFact model token → new ≡ record mid { past = with_state (tokens_now mid.past) place Fact ∷ mid.past } → BeginsToken model token pred old new place
  begins_fact new fact written =
      let mid_tokens : tokens_now mid.past ≡ with_token (tokens_now old.past) token pred = ap (λ (stored : Stored). tokens_now stored.past) put.2 in
      record {
        is_last = put.0;
        state = Fact;
        begins = fact;
        tokens = ap (λ (stored : Stored). tokens_now stored.past) written ∙ (λ i. with_state (mid_tokens i) (put.0 i) Fact) ∙ state_last (tokens_now old.past) token pred Fact;
        keys = ap (λ (stored : Stored). stored.keys) written ∙ ap (λ (stored : Stored). stored.keys) put.2;
        blocks = ap (λ (stored : Stored). stored.blocks) written ∙ ap (λ (stored : Stored). stored.blocks) put.2;
        watches = ap (λ (stored : Stored). stored.watches) written ∙ ap (λ (stored : Stored). stored.watches) put.2;
        net = ap (λ (stored : Stored). stored.net) written ∙ ap (λ (stored : Stored). stored.net) put.2;
      }

-- ---- the token with its parts, behind which that it lasts is posted

module _ (model : Model) (token : TokenName) (slot : Slot) (has_token : HasToken model token slot) (place : ℕ) where
  pub token_fails : (old begun mid new : Stored) (fault : NetFault) → Brings (WantsSomePart model slot place) begun (Err fault) mid → BringsOrFails model token old (Err fault) new
  token_fails old begun mid new Collapsed fails = (slot, has_token, (fails.1.0, fails.1.1.has_base))
  token_fails old begun mid new Memory fails = tt

  module _ (old begun mid : Stored) (begins : BeginsToken model token slot.pred old begun place) (brings : BringsKeys (WantsSomePart model slot place) begun mid) where
    mid_tokens : tokens_now mid.past ≡ with_arrived (tokens_now old.past) token slot.pred begins.state
    mid_tokens = ap tokens_now brings.rest.past ∙ begins.tokens

    place_below : place < length (tokens_now mid.past)
    place_below =
        let long = ap (λ (list : TokenList). length list) mid_tokens in
        let more = length_push (tokens_now old.past) (token, record { pred = slot.pred; state = begins.state }) in
        let last = begins.is_last in
        omega (arith, long, more, last)

    mid_names : (content_now mid).tokens ≡ token_names (tokens_now old.past) ++ token ∷ []
    mid_names = ap token_names mid_tokens ∙ map_push (λ (each : TokenName × Token). each.0) (tokens_now old.past) (token, record { pred = slot.pred; state = begins.state })

    place_named : name_at (content_now mid).tokens place ≡ token
    place_named = get_or_from_slice_get (content_now mid).tokens place token (record { root = 0; steps = [] })
        (subst (λ (n : ℕ). slice_get (content_now mid).tokens n ≡ Some token) (length_names (tokens_now old.past) ∙ sym begins.is_last)
        (subst (λ (list : List TokenName). slice_get list (length (token_names (tokens_now old.past))) ≡ Some token) (sym mid_names) (get_last (token_names (tokens_now old.past)) token)))

    -- each of its parts is there
    pub part_there : (part : Part) (base : Base) → HasPartBase model slot part base → HasPartAt mid (record { token = place; part = part })
    part_there part base has_base = (place_below, keys_are_named mid (keys.Part place part) (brings.all (keys.Part place part) base (part, record { is = refl; has_base = has_base })))

    pub times_there : HasTimesAt mid place
    times_there = (
      place_below,
      (
        (part_there Start (Given (Range model.problem.start model.problem.end)) refl).1,
        (part_there End (Given (Range model.problem.start model.problem.end)) refl).1,
      ),
    )

    pub duration_there : HasPartAt mid (record { token = place; part = Duration })
    duration_there = part_there Duration (Given (Range (pos 1) (model.problem.end -ℤ model.problem.start))) refl

    pub token_brought : (new : Stored) → IsNewName (tokens_now old.past) token
        → PostsClaims (content_now mid).names (λ claim. claim ≡ lasts (name_at (content_now mid).tokens place)) mid.net.constraints new.net.constraints → OnlyPosts mid new
        → BringsToken model token old new
    token_brought new fresh posts_named only =
        let posts = subst (λ (t : TokenName). PostsClaims (content_now mid).names (λ claim. claim ≡ lasts t) mid.net.constraints new.net.constraints) place_named posts_named in
        record {
          slot = slot;
          has_token = has_token;
          fresh = fresh;
          state = begins.state;
          begins = begins.begins;
          tokens = ap (λ (stored : Stored). tokens_now stored.past) only ∙ ap tokens_now brings.rest.past ∙ begins.tokens;
          added = brings.added;
          keys = ap (λ (stored : Stored). stored.keys) only ∙ brings.keys ∙ ap (λ (list : List VarKey). list ++ map (λ (each : KeyDomain). each.key) brings.added) begins.keys;
          domains = ap (λ (stored : Stored). stored.net.domains) only ∙ brings.domains
              ∙ ap (λ (net : Network). net.domains ++ map (λ (each : KeyDomain). each.domain) brings.added) begins.net;
          each = subst (λ (n : ℕ). All (λ (each : KeyDomain). WantsSomePart model slot n each.key (Given each.domain)) brings.added) begins.is_last brings.each;
          all = λ key base wants. subst (λ (list : List VarKey). Contains list key) (sym (ap (λ (stored : Stored). stored.keys) only))
              (brings.all key base (subst (λ (n : ℕ). WantsSomePart model slot n key base) (sym begins.is_last) wants));
          posts = subst (λ (list : List VarName). PostsClaims list (λ claim. claim ≡ lasts token) old.net.constraints new.net.constraints)
              (sym (ap (λ (stored : Stored). (content_now stored).names) only))
              (subst (λ (list : List Constraint). PostsClaims (content_now mid).names (λ claim. claim ≡ lasts token) list new.net.constraints)
              (brings.rest.constraints ∙ ap (λ (net : Network). net.constraints) begins.net) posts);
          blocks = ap (λ (stored : Stored). stored.blocks) only ∙ brings.rest.blocks ∙ begins.blocks;
          watches = ap (λ (stored : Stored). stored.watches) only ∙ brings.rest.watches ∙ begins.watches;
          tables = ap (λ (stored : Stored). stored.net.tables) only ∙ brings.rest.tables ∙ ap (λ (net : Network). net.tables) begins.net;
          changed = ap (λ (stored : Stored). stored.net.changed) only ∙ brings.rest.changed ∙ ap (λ (net : Network). net.changed) begins.net;
        }
