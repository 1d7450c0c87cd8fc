-- A propagated state without what stands under a token that isn't activated is propagated too.
use Rattle.std.proofs.Common.{inl, inr, List, [], ◌∷◌, refl, sym, subst}
use Rattle.std.specs.Prelude.{Contains, filter}
use Rattle.std.specs.List.{AllZip}
use Rattle.std.proofs.lemmas.List.Elements.{All-contains, All-filter}
use Rattle.std.proofs.lemmas.List.Kept.{AllPairs-filter}
use Rattle.domain_core.specs.Domain.{Domain, IsDomain}
use Rattle.eu_name.specs.declared.name.Part.{Part}
use Rattle.eu_name.specs.declared.name.Part.TheVariants.{Start, End}
use Rattle.eu_name.specs.declared.name.TokenName.{TokenName}
use Rattle.eu_name.specs.declared.name.VarName.{VarName}
use Rattle.eu_name.specs.declared.name.VarName.TheVariants as names
use Rattle.eu_name.specs.NameOrder.{IsTokenBefore, IsVarBefore}
use Rattle.model_core.specs.declared.item.Item.{Item}
use Rattle.model_core.specs.declared.item.Item.TheVariants.{Constraint, Relation}
use Rattle.model_core.specs.declared.item.Rel.{Rel}
use Rattle.model_core.specs.declared.item.Rel.TheVariants as rel
use Rattle.model_core.specs.declared.item.Term.{Term}
use Rattle.model_core.specs.declared.rule.Slot as the_slot
use Rattle.model_core.specs.declared.item.Term.TheVariants.{Lit, Here, Slot, Local, Global, Root}
use Rattle.model_core.specs.declared.model.Model.{Model}
use Rattle.model_core.specs.Blocks.{TokenBlock, IsBlockBefore}
use Rattle.model_core.specs.State.{State, VarDomain, Gives, IsAbout, IsBlockOf, IsState}
use Rattle.model_core.specs.Tokens.{HasToken, slot_token, root_token}
use Rattle.plan_defs.specs.Claims.{Claim, ItemSays, relates, part_of}
use Rattle.plan_defs.specs.Consistency.{IsClaimConsistent}
use Rattle.plan_defs.specs.Terms.{Context, InProblem, InRule, Argument, Value, Variable, Means, HasDomain}
use Rattle.eu_name.proofs.Ordered.{contains_cases, contains_none}
use Rattle.law_search.proofs.Sieving.{filter_contains, contains_filter, all_members}
use Rattle.law_search.proofs.Tops.{IsUnderTop, IsInTop, IsClear, keeps_token, keeps_owner, keeps_name, kept_token, kept_owner, kept_name, keeps_if, keeps_owner_if, keeps_name_if, under_in, root_clear, slot_clear}

-- the state without what stands under the top
abbrev pub pruned : TokenName → State → State
pruned top state = record {
  tokens = filter (keeps_token top) state.tokens;
  blocks = filter (λ block. keeps_owner top block.token) state.blocks;
  entries = filter (λ entry. keeps_name top entry.name) state.entries;
}

module _ (top : TokenName) (state : State) where
  pub token_kept : (token : TokenName) → Contains (pruned top state).tokens token → Contains state.tokens token × (IsUnderTop top token → ⊥)
  token_kept token there =
      let found = filter_contains (keeps_token top) state.tokens token there in (found.0, kept_token top token found.1)

  pub token_stays : (token : TokenName) → Contains state.tokens token → (IsUnderTop top token → ⊥) → Contains (pruned top state).tokens token
  token_stays token there clear = contains_filter (keeps_token top) state.tokens token there (keeps_if top token clear)

  pub block_kept : (block : TokenBlock) → Contains (pruned top state).blocks block → Contains state.blocks block × (IsInTop top block.token → ⊥)
  block_kept block there =
      let found = filter_contains (λ (b : TokenBlock). keeps_owner top b.token) state.blocks block there in (found.0, kept_owner top block.token found.1)

  pub block_stays : (block : TokenBlock) → Contains state.blocks block → (IsInTop top block.token → ⊥) → Contains (pruned top state).blocks block
  block_stays block there clear = contains_filter (λ (b : TokenBlock). keeps_owner top b.token) state.blocks block there (keeps_owner_if top block.token clear)

  pub given_kept : (name : VarName) (domain : Domain) → Gives (pruned top state) name domain → Gives state name domain × IsClear top name
  given_kept name domain gives =
      let entry : VarDomain = record { name = name; domain = domain } in
      let found = filter_contains (λ (e : VarDomain). keeps_name top e.name) state.entries entry gives in (found.0, kept_name top name found.1)

  pub given_stays : (name : VarName) (domain : Domain) → Gives state name domain → IsClear top name → Gives (pruned top state) name domain
  given_stays name domain gives clear =
      let entry : VarDomain = record { name = name; domain = domain } in
      contains_filter (λ (e : VarDomain). keeps_name top e.name) state.entries entry gives (keeps_name_if top name clear)

-- ---- it is a state

module _ (model : Model) (top : TokenName) (state : State) (is : IsState model state) where
  about_kept : (name : VarName) → IsAbout model (pruned top state) name → IsAbout model state name × IsClear top name
  about_kept (names.Global number) about = (about, tt)
  about_kept (names.Token token part) about =
      let found = token_kept top state token about.0 in ((found.0, about.1), found.1)
  about_kept (names.Local token rule number) about =
      let found = block_kept top state about.block about.is_open in (
        record {
          block = about.block;
          is_open = found.0;
          of_token = about.of_token;
          of_rule = about.of_rule;
          entries = about.entries;
          is_block = about.is_block;
          stands = about.stands;
        },
        λ inside. found.1 (subst (IsInTop top) (sym about.of_token) inside),
      )

  about_stays : (name : VarName) → IsAbout model state name → IsClear top name → IsAbout model (pruned top state) name
  about_stays (names.Global number) about clear = about
  about_stays (names.Token token part) about clear = (token_stays top state token about.0 clear, about.1)
  about_stays (names.Local token rule number) about clear = record {
    block = about.block;
    is_open = block_stays top state about.block about.is_open (λ inside. clear (subst (IsInTop top) about.of_token inside));
    of_token = about.of_token;
    of_rule = about.of_rule;
    entries = about.entries;
    is_block = about.is_block;
    stands = about.stands;
  }

  block_of_kept : (block : TokenBlock) → Contains (pruned top state).blocks block → IsBlockOf model (pruned top state) block
  block_of_kept block there =
      let found = block_kept top state block there in
      let of = All-contains (IsBlockOf model state) state.blocks block is.blocks found.0 in
      (token_stays top state block.token of.0 (λ under. found.1 (under_in top block.token under)), of.1)

  pub pruned_state : IsState model (pruned top state)
  pruned_state = record {
    order = record {
      tokens = AllPairs-filter IsTokenBefore (keeps_token top) state.tokens is.order.tokens;
      blocks = AllPairs-filter IsBlockBefore (λ (b : TokenBlock). keeps_owner top b.token) state.blocks is.order.blocks;
      entries = AllPairs-filter (λ (a b : VarDomain). IsVarBefore a.name b.name) (λ (e : VarDomain). keeps_name top e.name) state.entries is.order.entries;
    };
    tokens = All-filter (keeps_token top) (λ (t : TokenName). (slot : the_slot.Slot) × HasToken model t slot) state.tokens is.tokens;
    blocks = all_members (IsBlockOf model (pruned top state)) (pruned top state).blocks block_of_kept;
    variables = λ name. (
      λ about.
          let found = about_kept name about in
          let given = (is.variables name).0 found.0 in
          (given.0, given_stays top state name given.0 given.1 found.1),
      λ given.
          let found = given_kept top state name given.0 given.1 in
          about_stays name ((is.variables name).1 (given.0, found.0)) found.1,
    );
    domains = All-filter (λ (e : VarDomain). keeps_name top e.name) (λ (e : VarDomain). IsDomain e.domain) state.entries is.domains;
  }

-- ---- what claims are about

module _ (top : TokenName) where
  -- the argument keeps clear of the top
  abbrev pub IsClearArgument : Argument → Type 0
  IsClearArgument (Value value) = Unit {0}
  IsClearArgument (Variable name) = IsClear top name

  abbrev pub context_clear : Context → Type 0
  context_clear InProblem = Unit {0}
  context_clear (InRule token rule) = IsInTop top token → ⊥

  pub means_clear : (context : Context) (term : Term) (argument : Argument) → context_clear context → Means context term argument → IsClearArgument argument
  means_clear context (Lit value) argument clear means = subst IsClearArgument (sym means) tt
  means_clear context (Global number) argument clear means = subst IsClearArgument (sym means) tt
  means_clear context (Root number part) argument clear means = subst IsClearArgument (sym means) (root_clear top (root_token number) refl)
  means_clear InProblem (Here part) argument clear means = absurd means
  means_clear InProblem (Slot number part) argument clear means = absurd means
  means_clear InProblem (Local number) argument clear means = absurd means
  means_clear (InRule token rule) (Here part) argument clear means = subst IsClearArgument (sym means) (λ under. clear (under_in top token under))
  means_clear (InRule token rule) (Slot number part) argument clear means =
      subst IsClearArgument (sym means) (slot_clear top token (record { rule = rule; slot = number }) clear)
  means_clear (InRule token rule) (Local number) argument clear means = subst IsClearArgument (sym means) clear

  -- all of them do
  abbrev pub AllClear : List Argument → Type 0
  AllClear [] = Unit {0}
  AllClear (argument ∷ arguments) = IsClearArgument argument × AllClear arguments

  -- all arguments of the claim do
  abbrev pub IsClearClaim : Claim → Type 0
  IsClearClaim claim = AllClear claim.arguments

  terms_clear : (context : Context) (terms : List Term) (arguments : List Argument) → context_clear context → AllZip (Means context) terms arguments → AllClear arguments
  terms_clear context [] [] clear means = tt
  terms_clear context [] (argument ∷ arguments) clear means = absurd means
  terms_clear context (term ∷ terms) [] clear means = absurd means
  terms_clear context (term ∷ terms) (argument ∷ arguments) clear means =
      (means_clear context term argument clear means.0, terms_clear context terms arguments clear means.1)

  module _ (a b : TokenName) (one : (part : Part) → IsClearArgument (part_of a part)) (other : (part : Part) → IsClearArgument (part_of b part)) where
    one_clear : (claim own : Claim) → IsClearClaim own → Contains (own ∷ []) claim → IsClearClaim claim
    one_clear claim own clear there = elim (contains_cases own claim [] there) [
      | inl same ↦ subst IsClearClaim same clear
      | inr later ↦ absurd (contains_none claim later)
    ]

    two_clear : (claim own next : Claim) → IsClearClaim own → IsClearClaim next → Contains (own ∷ next ∷ []) claim → IsClearClaim claim
    two_clear claim own next clear further there = elim (contains_cases own claim (next ∷ []) there) [
      | inl same ↦ subst IsClearClaim same clear
      | inr later ↦ one_clear claim next further later
    ]

    ab : (p q : Part) → AllClear (part_of a p ∷ part_of b q ∷ [])
    ab p q = (one p, (other q, tt))

    ba : (p q : Part) → AllClear (part_of b p ∷ part_of a q ∷ [])
    ba p q = (other p, (one q, tt))

    pub relates_clear : (relation : Rel) (claim : Claim) → Contains (relates relation a b) claim → IsClearClaim claim
    relates_clear rel.Any claim there = absurd (contains_none claim there)
    relates_clear rel.Before claim there = one_clear claim _ (ab End Start) there
    relates_clear rel.After claim there = one_clear claim _ (ba End Start) there
    relates_clear rel.Meets claim there = one_clear claim _ (ab End Start) there
    relates_clear rel.MetBy claim there = one_clear claim _ (ba End Start) there
    relates_clear rel.Equals claim there = two_clear claim _ _ (ab Start Start) (ab End End) there
    relates_clear rel.Contains claim there = two_clear claim _ _ (ab Start Start) (ba End End) there
    relates_clear rel.ContainedBy claim there = two_clear claim _ _ (ba Start Start) (ab End End) there
    relates_clear rel.Starts claim there = one_clear claim _ (ab Start Start) there
    relates_clear rel.Ends claim there = one_clear claim _ (ab End End) there
    relates_clear rel.Parallels claim there = two_clear claim _ _ (ab Start Start) (ab End End) there
    relates_clear rel.ParalleledBy claim there = two_clear claim _ _ (ba Start Start) (ba End End) there
    relates_clear rel.StartsDuring claim there = two_clear claim _ _ (ba Start Start) (ab Start End) there
    relates_clear rel.ContainsStart claim there = two_clear claim _ _ (ab Start Start) (ba Start End) there
    relates_clear rel.EndsDuring claim there = two_clear claim _ _ (ba Start End) (ab End End) there
    relates_clear rel.ContainsEnd claim there = two_clear claim _ _ (ab Start End) (ba End End) there

  pub item_clear : (model : Model) (Taken : TokenName → Type 0) (context : Context) (item : Item) (claim : Claim) → context_clear context
      → ItemSays model Taken context item claim → IsClearClaim claim
  item_clear model Taken context (Constraint kind terms) claim clear says = terms_clear context terms claim.arguments clear says.means
  item_clear model Taken InProblem (Relation relation slot) claim clear says = absurd says
  item_clear model Taken (InRule token rule) (Relation relation slot) claim clear says =
      relates_clear token (slot_token token rule slot)
      (λ part under. clear (under_in top token under))
      (λ part. slot_clear top token (record { rule = rule; slot = slot }) clear) relation claim says

  -- what is consistent in a state and keeps clear is consistent without what stands under the top
  pub consistent_stays : (model : Model) (state : State) (claim : Claim) → IsClearClaim claim → IsClaimConsistent model state claim → IsClaimConsistent model (pruned top state) claim
  consistent_stays model state claim clear is = record { domains = is.domains; have = still claim.arguments is.domains clear is.have; agree = is.agree }
    where
      still_one : (argument : Argument) (domain : Domain) → IsClearArgument argument → HasDomain (Gives state) argument domain → HasDomain (Gives (pruned top state)) argument domain
      still_one (Value value) domain clear has = has
      still_one (Variable name) domain clear has = given_stays top state name domain has clear

      still : (arguments : List Argument) (domains : List Domain) → AllClear arguments → AllZip (HasDomain (Gives state)) arguments domains
          → AllZip (HasDomain (Gives (pruned top state))) arguments domains
      still [] [] clear have = have
      still [] (domain ∷ domains) clear have = absurd have
      still (argument ∷ arguments) [] clear have = absurd have
      still (argument ∷ arguments) (domain ∷ domains) clear have = (still_one argument domain clear.0 have.0, still arguments domains clear.1 have.1)
