-- The example of a local.
use Rattle.std.proofs.Common.{◌≡◌, ℕ, suc, zero, List, [], ◌∷◌, ◌++◌, Some, pos, inl, inr, refl, sym, ap, ◌∙◌, subst, arith}
use Rattle.std.specs.Prelude.{Contains, All, ◌⊎◌, ◌↔◌, ⊤, slice_get}
use Rattle.std.specs.List.{AllZip}
use Rattle.std.proofs.lemmas.Int.{ints}
use Rattle.domain_core.specs.Domain.{Domain, IsDomain, IsWithin}
use Rattle.eu_name.specs.declared.name.Part.TheVariants.{Param}
use Rattle.eu_name.specs.declared.name.Step.{Step}
use Rattle.eu_name.specs.declared.name.TokenName.{TokenName}
use Rattle.eu_name.specs.declared.name.VarName.{VarName}
use Rattle.eu_name.specs.declared.name.VarName.TheVariants.{Token, Local, Global}
use Rattle.model_core.specs.declared.class.ObjectKind.TheVariants as kind
use Rattle.model_core.specs.declared.class.PredKind.TheVariants as pred
use Rattle.model_core.specs.declared.decision.Decision.TheVariants.{Activate, Merge, Order}
use Rattle.model_core.specs.declared.model.RootKind.TheVariants.{Goal}
use Rattle.model_core.specs.declared.rule.Guard.{Guard}
use Rattle.model_core.specs.declared.rule.Rule.{Rule}
use Rattle.model_core.specs.declared.rule.Side.{Side}
use Rattle.model_core.specs.declared.rule.Slot.{Slot}
use Rattle.model_core.specs.declared.rule.Turn.{Turn}
use Rattle.model_core.specs.declared.variable.Base.{Base}
use Rattle.model_core.specs.declared.variable.Base.TheVariants.{Given}
use Rattle.model_core.specs.declared.variable.VarDecl.{VarDecl}
use Rattle.model_core.specs.Blocks.{TokenBlock, Follows, HasBlock, IsBlock, IsBlockBefore, OfSlot, OfLocal, OfItem, OfBranch, direct}
use Rattle.model_core.specs.Entries.{Entries}
use Rattle.model_core.specs.State.{State, VarDomain, Gives, IsAbout, IsBlockOf}
use Rattle.model_core.specs.Tokens.{HasToken, HasRule, root_token}
use Rattle.model_core.specs.Variables.{HasBase, IsInBase}
use Rattle.plan_defs.specs.Claims.{Claim, IsClaim, lasts, Posts}
use Rattle.plan_defs.specs.Closure.{IsClosed, AreInBase, IsRespected}
use Rattle.plan_defs.specs.Consistency.{IsClaimConsistent}
use Rattle.plan_defs.specs.Situations.{situation_of}
use Rattle.plan_defs.specs.Support.{Opens, IsSupportedToken, IsSupportedBlock}
use Rattle.plan_defs.specs.Terms.{InRule, Argument, Value, Variable, HasDomain}
use Rattle.eu_name.proofs.Ordered.{contains_head, contains_later, contains_cases, contains_none, ordered_one}
use Rattle.law_examples.specs.Cases.{moment, activated, activate_it, localised}
use Rattle.law_examples.specs.Globals.{up_to}
use Rattle.law_examples.specs.Scenes.{both_objects, predicate_of, root_of, Moment, exactly, tokens_of, scene_entries, scene_state, top_block, with_local, the_local, local_state}
use Rattle.law_examples.proofs.Casts.{only_moment, one_moment, fit_no_timelines, fit_no_reusables, fit_no_reservoirs, one_rule}
use Rattle.law_examples.proofs.Closed.{IsMoment, slot_same, part_is_domain, gives_part, about_part, in_base, lasts_at}
use Rattle.law_examples.proofs.Lists.{all_members, only_member, same_some}
use Rattle.law_examples.proofs.Scenes.{tokens_in_order, entry_of, five, link, entry, by_name}

abbrev only_moment_of : List Moment
only_moment_of = moment 0 1 1 ∷ []

abbrev base_state : State
base_state = scene_state (top_block ∷ []) only_moment_of

moments_are : (place : ℕ) (found : Moment) → slice_get only_moment_of place ≡ Some found → IsMoment found
moments_are = one_moment (moment 0 1 1) (only_moment 0 1 1 (omega arith) (omega arith) (omega arith))

-- ---- lists

in_front : {X : Type 0} (xs ys : List X) (x : X) → Contains xs x → Contains (xs ++ ys) x
in_front [] ys x c = absurd (contains_none x c)
in_front (y ∷ xs) ys x c = elim (contains_cases y x xs c) [
  | inl same ↦ subst (Contains (y ∷ xs ++ ys)) same (contains_head y (xs ++ ys))
  | inr later ↦ contains_later y x (xs ++ ys) (in_front xs ys x later)
]

in_back : {X : Type 0} (xs ys : List X) (x : X) → Contains ys x → Contains (xs ++ ys) x
in_back [] ys x c = c
in_back (y ∷ xs) ys x c = contains_later y x (xs ++ ys) (in_back xs ys x c)

in_either : {X : Type 0} (xs ys : List X) (x : X) → Contains (xs ++ ys) x → Contains xs x ⊎ Contains ys x
in_either [] ys x c = inr c
in_either (y ∷ xs) ys x c = elim (contains_cases y x (xs ++ ys) c) [
  | inl same ↦ inl (subst (Contains (y ∷ xs)) same (contains_head y xs))
  | inr later ↦ elim (in_either xs ys x later) [ inl front ↦ inl (contains_later y x xs front) | inr back ↦ inr back ]
]

-- ---- the rule

pub way_is : (Allows : Guard → Side → Type 0) (path : List Turn) (entries : Entries) → Follows Allows with_local.top path entries → (path ≡ []) × (entries ≡ with_local.top)
way_is Allows [] entries way = (refl, way)
way_is Allows (turn ∷ path) entries way = absurd (no_branch turn.entry way.0 way.1.0 way.1.1 way.1.2.0)
  where
    no_branch : (place : ℕ) (guard : Guard) (then otherwise : Entries) → slice_get (OfLocal 0 ∷ []) place ≡ Some (OfBranch guard then otherwise) → ⊥
    no_branch zero guard then otherwise at = cc
    no_branch (suc place) guard then otherwise at = cc

-- a block of the first root is the rule's own
block_is : (Allows : Guard → Side → Type 0) (block : TokenBlock) (entries : Entries) → block.token ≡ root_token 0 → HasBlock localised Allows block entries → (block ≡ top_block) × (entries ≡ with_local.top)
block_is Allows block entries token has =
    let slot = slot_same [] kind.Plain pred.Plain (0 ∷ []) (with_local ∷ []) (Goal ∷ []) 0 has.slot (subst (λ t. HasToken localised t has.slot) token has.has_token) in
    let found = one_rule [] with_local kind.Plain pred.Plain (Goal ∷ []) block.rule has.rule (subst (λ (s : Slot). HasRule localised s.pred block.rule has.rule) slot has.has_rule) in
    let way = way_is Allows block.path entries (subst (λ (r : Rule). Follows Allows r.top block.path entries) found.0 has.way) in
    let number = found.1 in
    let path = way.0 in
    ((λ i. record { token = token i; rule = number i; path = path i }), way.1)

has_top : IsBlock localised top_block with_local.top
has_top = record {
  slot = record { pred = 0; object = Given both_objects };
  has_token = record { root = root_of 0 Goal; is_root = refl; reached = refl };
  rule = with_local;
  has_rule = record { predicate = predicate_of pred.Plain (0 ∷ []); place = 0; is_predicate = refl; listed = refl; is_rule = refl };
  way = refl;
}

only_root : (token : TokenName) → Contains (tokens_of 0 only_moment_of) token → token ≡ root_token 0
only_root token c = sym (only_member (root_token 0) token c)

-- ---- a state with the local

module _ (domain : Domain) where
  abbrev state : State
  state = local_state (moment 0 1 1) domain

  more : (name : VarName) (found : Domain) → Gives base_state name found → Gives state name found
  more name found gives = in_front (scene_entries 0 only_moment_of) (the_local domain ∷ []) (record { name = name; domain = found }) gives

  gives_local : Gives state (Local (root_token 0) 0 0) domain
  gives_local = in_back (scene_entries 0 only_moment_of) (the_local domain ∷ []) (the_local domain) (contains_head (the_local domain) [])

  local_or : (name : VarName) (found : Domain) → Gives state name found → Gives base_state name found ⊎ ((Local (root_token 0) 0 0 ≡ name) × (domain ≡ found))
  local_or name found gives = elim (in_either (scene_entries 0 only_moment_of) (the_local domain ∷ []) (record { name = name; domain = found }) gives) [
    | inl front ↦ inl front
    | inr back ↦ (let same = only_member (the_local domain) (record { name = name; domain = found }) back in inr (ap (λ (e : VarDomain). e.name) same, ap (λ (e : VarDomain). e.domain) same))
  ]

  local_base : HasBase localised (Local (root_token 0) 0 0) (Given (up_to 2))
  local_base = record {
    slot = record { pred = 0; object = Given both_objects };
    has_token = record { root = root_of 0 Goal; is_root = refl; reached = refl };
    variable = _;
    has_local = record {
      found = with_local;
      has_rule = record { predicate = predicate_of pred.Plain (0 ∷ []); place = 0; is_predicate = refl; listed = refl; is_rule = refl };
      declared = refl;
    };
    is_base = refl;
  }

pub local_is_missing : IsClosed localised activated base_state → ⊥
local_is_missing p =
    let found = (p.consistent.is_state.variables (Local (root_token 0) 0 0)).0 (record {
      block = top_block;
      is_open = contains_head top_block [];
      of_token = refl;
      of_rule = refl;
      entries = with_local.top;
      is_block = has_top;
      stands = contains_head (OfLocal 0) [];
    }) in
    let is = entry_of 0 only_moment_of (Local (root_token 0) 0 0) found.0 found.1 in
    let e = is.named in cc

pub local_is_outside : IsClosed localised activated (local_state (moment 0 1 1) (up_to 3)) → ⊥
local_is_outside p =
    let found = p.consistent.in_base (Local (root_token 0) 0 0) (up_to 3) (gives_local (up_to 3)) in
    at found.0 found.1 found.2
  where
    at : (base : Base) → HasBase localised (Local (root_token 0) 0 0) base → IsInBase (up_to 3) base → ⊥
    at base has inside =
        let slot = slot_same [] kind.Plain pred.Plain (0 ∷ []) (with_local ∷ []) (Goal ∷ []) 0 has.slot has.has_token in
        let rule = (one_rule [] with_local kind.Plain pred.Plain (Goal ∷ []) 0 has.has_local.found (subst (λ (s : Slot). HasRule localised s.pred 0 has.has_local.found) slot has.has_local.has_rule)).0 in
        let declared = subst (λ (r : Rule). slice_get r.locals 0 ≡ Some has.variable) rule has.has_local.declared in
        let variable = same_some _ has.variable declared in
        let bases : base ≡ Given (up_to 2) = has.is_base ∙ sym (ap (λ (v : VarDecl). v.base) variable) in
        let within : IsWithin (up_to 3) (up_to 2) = subst (IsInBase (up_to 3)) bases inside in
        let three = within.values (pos 3) (omega (arith, ints), omega (arith, ints)) in
        omega (arith, ints, three.1)

-- ---- the closed one

abbrev local_is : State
local_is = local_state (moment 0 1 1) (up_to 2)

zip_more : (arguments : List Argument) (domains : List Domain) → AllZip (HasDomain (Gives base_state)) arguments domains → AllZip (HasDomain (Gives local_is)) arguments domains
zip_more [] [] have = have
zip_more [] (d ∷ domains) have = absurd have
zip_more (a ∷ arguments) [] have = absurd have
zip_more (Value value ∷ arguments) (d ∷ domains) have = (have.0, zip_more arguments domains have.1)
zip_more (Variable name ∷ arguments) (d ∷ domains) have = (more (up_to 2) name d have.0, zip_more arguments domains have.1)

variables : (name : VarName) → IsAbout localised local_is name ↔ ((domain : Domain) × Gives local_is name domain)
variables (Global number) = (λ about. absurd (omega (arith, about)), λ found. absurd (none found.0 found.1))
  where
    none : (domain : Domain) → Gives local_is (Global number) domain → ⊥
    none domain gives = elim (local_or (up_to 2) (Global number) domain gives) [
      | inl old ↦ (let is = entry_of 0 only_moment_of (Global number) domain old in let e = is.named in cc)
      | inr is ↦ (let e = is.0 in cc)
    ]
variables (Token token part) = (there, back)
  where
    there : IsAbout localised local_is (Token token part) → (domain : Domain) × Gives local_is (Token token part) domain
    there about =
        let found = gives_part [] kind.Plain pred.Plain (0 ∷ []) (with_local ∷ []) (Goal ∷ []) (top_block ∷ []) only_moment_of refl moments_are token part about in
        (found.0, more (up_to 2) (Token token part) found.0 found.1)

    back : (domain : Domain) × Gives local_is (Token token part) domain → IsAbout localised local_is (Token token part)
    back found = elim (local_or (up_to 2) (Token token part) found.0 found.1) [
      | inl old ↦ about_part [] kind.Plain pred.Plain (0 ∷ []) (with_local ∷ []) (Goal ∷ []) (top_block ∷ []) only_moment_of refl moments_are (Token token part) found.0 old
      | inr is ↦ (let e = is.0 in absurd (cc))
    ]
variables (Local token rule number) = (there, back)
  where
    local_same : (entries : Entries) → entries ≡ with_local.top → Contains (direct entries) (OfLocal number) → 0 ≡ number
    local_same entries top c = let same = only_member (OfLocal 0) (OfLocal number) (subst (λ e. Contains (direct e) (OfLocal number)) top c) in cc

    there : IsAbout localised local_is (Local token rule number) → (domain : Domain) × Gives local_is (Local token rule number) domain
    there about =
        let open_block : TokenBlock = about.block in
        let at = only_member top_block open_block about.is_open in
        let of_token : root_token 0 ≡ token = ap (λ (b : TokenBlock). b.token) at ∙ about.of_token in
        let of_rule : 0 ≡ rule = ap (λ (b : TokenBlock). b.rule) at ∙ about.of_rule in
        let entries : Entries = about.entries in
        let top = (block_is (λ guard side. ⊤) open_block entries (sym (ap (λ (b : TokenBlock). b.token) at)) about.is_block).1 in
        let of_number = local_same entries top about.stands in
        (up_to 2, subst (λ n. Gives local_is n (up_to 2)) (λ i. Local (of_token i) (of_rule i) (of_number i)) (gives_local (up_to 2)))

    back : (domain : Domain) × Gives local_is (Local token rule number) domain → IsAbout localised local_is (Local token rule number)
    back found = elim (local_or (up_to 2) (Local token rule number) found.0 found.1) [
      | inl old ↦ (let is = entry_of 0 only_moment_of (Local token rule number) found.0 old in let e = is.named in absurd (cc))
      | inr is ↦ subst (IsAbout localised local_is) is.0 (record {
        block = top_block;
        is_open = contains_head top_block [];
        of_token = refl;
        of_rule = refl;
        entries = with_local.top;
        is_block = has_top;
        stands = contains_head (OfLocal 0) [];
      })
    ]

local_domains : All (λ (entry : VarDomain). IsDomain entry.domain) local_is.entries
local_domains = all_members (λ (entry : VarDomain). IsDomain entry.domain) local_is.entries (λ entry c. elim (local_or (up_to 2) entry.name entry.domain c) [
  | inl old ↦ (let is = entry_of 0 only_moment_of entry.name entry.domain old in
      part_is_domain [] kind.Plain pred.Plain (0 ∷ []) (with_local ∷ []) (Goal ∷ []) is.moment is.part entry.domain (moments_are is.place is.moment is.at) is.is)
  | inr is ↦ subst IsDomain is.1 ((omega (arith, ints), omega (arith, ints)), (omega (arith, ints), omega (arith, ints)), omega (arith, ints))
])

local_in_base : AreInBase localised local_is
local_in_base name domain gives = elim (local_or (up_to 2) name domain gives) [
  | inl old ↦ in_base [] kind.Plain pred.Plain (0 ∷ []) (with_local ∷ []) (Goal ∷ []) (top_block ∷ []) only_moment_of refl moments_are name domain old
  | inr is ↦ (
    Given (up_to 2),
    subst (λ n. HasBase localised n (Given (up_to 2))) is.0 (local_base (up_to 2)),
    subst (λ d. IsWithin d (up_to 2)) is.1 (record { kind = tt; values = λ v has. has }),
  )
]

supported_token : (token : TokenName) → IsSupportedToken localised (situation_of activated local_is) token → Contains (tokens_of 0 only_moment_of) token
supported_token token p = at token.root token.steps p
  where
    at : (number : ℕ) (steps : List Step) → IsSupportedToken localised (situation_of activated local_is) (record { root = number; steps = steps }) → Contains (tokens_of 0 only_moment_of) (record { root = number; steps = steps })
    at (suc number) steps p = let none = p.is_root in absurd (cc)
    at zero [] p = contains_head (root_token 0) []
    at zero (step ∷ steps) p =
        let asks = p.asked [] step steps refl in
        let entries : Entries = asks.entries in
        let top = (block_is (Opens localised (situation_of activated local_is) (InRule (root_token 0) step.rule)) (record { token = root_token 0; rule = step.rule; path = asks.path }) entries refl asks.is_open.has_block).1 in
        let same = only_member (OfLocal 0) (OfSlot step.slot) (subst (λ e. Contains (direct e) (OfSlot step.slot)) top asks.stands) in
        absurd (cc)

supported_block : (block : TokenBlock) (entries : Entries) → IsSupportedBlock localised (situation_of activated local_is) block entries → Contains (top_block ∷ []) block
supported_block block entries p =
    let activation = only_member activate_it (Activate block.token) p.is_open.activated in
    let token : root_token 0 ≡ block.token = cc in
    subst (Contains (top_block ∷ [])) (sym (block_is (Opens localised (situation_of activated local_is) (InRule block.token block.rule)) block entries (sym token) p.is_open.has_block).0) (contains_head top_block [])

local_claims : (claim : Claim) → IsClaim localised activated local_is claim → IsClaimConsistent localised local_is claim
local_claims claim (inl p) = absurd (contains_none p.item p.stands)
local_claims claim (inr (inl p)) =
    let open_block : TokenBlock = p.block in
    let entries : Entries = p.entries in
    let at = only_member top_block open_block p.is_open in
    let top = (block_is (λ guard side. ⊤) open_block entries (sym (ap (λ (b : TokenBlock). b.token) at)) p.has_block).1 in
    let same = only_member (OfLocal 0) (OfItem p.item) (subst (λ e. Contains (direct e) (OfItem p.item)) top p.stands) in
    absurd (cc)
local_claims claim (inr (inr (inl p))) =
    let old = lasts_at [] kind.Plain pred.Plain (0 ∷ []) (with_local ∷ []) (Goal ∷ []) (top_block ∷ []) only_moment_of refl moments_are 0 (moment 0 1 1) refl in
    subst (IsClaimConsistent localised local_is) (sym (p.says ∙ ap lasts (only_root p.token p.there)))
    (record { domains = old.domains; have = zip_more (lasts (root_token 0)).arguments old.domains old.have; agree = old.agree })
local_claims claim (inr (inr (inr (inl p)))) = let same = only_member activate_it (Merge p.token p.target) p.merged in absurd (cc)
local_claims claim (inr (inr (inr (inr (inl p))))) = let same = only_member activate_it (Order p.one p.other) p.ordered in absurd (cc)
local_claims claim (inr (inr (inr (inr (inr p))))) = absurd (subst (λ d. Posts d claim) (sym (only_member activate_it p.decision p.stands)) p.posts)

pub local_closed : IsClosed localised activated local_is
local_closed = record {
  consistent = record {
    is_state = record {
      order = record {
        tokens = tokens_in_order 0 only_moment_of;
        blocks = ordered_one IsBlockBefore top_block;
        entries = five 0 (moment 0 1 1) (the_local (up_to 2) ∷ []) (link (entry 0 (Param 0) (exactly 1)) (the_local (up_to 2)) [] (inr (refl, tt)) (ordered_one by_name (the_local (up_to 2))));
      };
      tokens = all_members (λ token. (slot : Slot) × HasToken localised token slot) (tokens_of 0 only_moment_of) (λ token c.
          subst (λ t. (slot : Slot) × HasToken localised t slot) (sym (only_root token c)) (record { pred = 0; object = Given both_objects }, record { root = root_of 0 Goal; is_root = refl; reached = refl }));
      blocks = all_members (IsBlockOf localised local_is) (top_block ∷ []) (λ block c.
          subst (IsBlockOf localised local_is) (only_member top_block block c) (contains_head (root_token 0) [], (with_local.top, has_top)));
      variables = variables;
      domains = local_domains;
    };
    tokens = supported_token;
    blocks = supported_block;
    in_base = local_in_base;
    respected = λ decision c. subst (λ d. IsRespected d local_is) (only_member activate_it decision c) tt;
    claims = local_claims;
    timelines = fit_no_timelines [] kind.Plain pred.Plain (0 ∷ []) (with_local ∷ []) (Goal ∷ []) activated local_is (λ e. absurd (cc));
  };
  reusables = fit_no_reusables [] kind.Plain pred.Plain (0 ∷ []) (with_local ∷ []) (Goal ∷ []) activated local_is (λ capacity e. absurd (cc));
  reservoirs = fit_no_reservoirs [] kind.Plain pred.Plain (0 ∷ []) (with_local ∷ []) (Goal ∷ []) activated local_is (λ initial low high e. absurd (cc));
}
