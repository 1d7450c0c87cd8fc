-- What is in a content can be put in order, and what is said of the one holds of the other.
use Rattle.std.proofs.Common.{List, ◌⊎◌}
use Rattle.std.specs.Prelude.{Contains, AllPairs, All, ◌≢◌}
use Rattle.std.proofs.lemmas.List.Elements.{All-contains}
use Rattle.domain_core.specs.Domain.{IsDomain}
use Rattle.domain_core.proofs.Words.{IsWithin-refl}
use Rattle.eu_name.specs.declared.name.TokenName.{TokenName}
use Rattle.eu_name.specs.declared.name.VarName.{VarName}
use Rattle.eu_name.specs.declared.name.VarName.TheVariants.{Token, Local, Global}
use Rattle.eu_name.specs.NameOrder.{IsTokenBefore, IsVarBefore}
use Rattle.eu_name.proofs.Orders.{token_order, var_order}
use Rattle.model_core.specs.declared.model.Model.{Model}
use Rattle.model_core.specs.declared.rule.Slot.{Slot}
use Rattle.model_core.specs.Blocks.{TokenBlock, IsBlockBefore}
use Rattle.model_core.specs.State.{State, VarDomain, IsAbout, IsBlockOf, IsState, IsBelow}
use Rattle.model_core.specs.Tokens.{HasToken}
use Rattle.plan_defs.proofs.Members.{all_from_get}
use Rattle.eu_name.proofs.Members.{get_all, contains_from_get}
use Rattle.model_core.specs.Content.{Content, paired, shown, IsContent, AreAlike}
use Rattle.db_refine.proofs.BlockOrder.{block_order}
use Rattle.db_refine.proofs.Showing.{stands_from, has_domain, is_named, pairs_apart}
use Rattle.db_refine.proofs.Sorting.{Sorted, sorted, one_first}

-- ---- alike states

pub alike_below : (one other : State) → AreAlike one other → IsBelow one other
alike_below one other p = record {
  tokens = λ token c. (p.tokens token).0 c;
  blocks = λ block c. (p.blocks block).0 c;
  variables = λ name domain gives. (domain, (p.gives name domain).0 gives, IsWithin-refl domain);
}

pub alike_back : (one other : State) → AreAlike one other → AreAlike other one
alike_back one other p = record {
  tokens = λ token. ((p.tokens token).1, (p.tokens token).0);
  blocks = λ block. ((p.blocks block).1, (p.blocks block).0);
  gives = λ name domain. ((p.gives name domain).1, (p.gives name domain).0);
}

-- a state that has the tokens and blocks of another is about what that one is about
pub about_more : (model : Model) (one other : State) → ((token : TokenName) → Contains one.tokens token → Contains other.tokens token)
    → ((block : TokenBlock) → Contains one.blocks block → Contains other.blocks block)
    → (name : VarName) → IsAbout model one name → IsAbout model other name
about_more model one other tokens blocks (Global number) about = about
about_more model one other tokens blocks (Token token part) about = (tokens token about.0, about.1)
about_more model one other tokens blocks (Local token rule number) about = record {
  block = about.block;
  is_open = blocks about.block about.is_open;
  of_token = about.of_token;
  of_rule = about.of_rule;
  entries = about.entries;
  is_block = about.is_block;
  stands = about.stands;
}

-- ---- putting in order

apart_differ : {X : Type 0} (before : X → X → Type 0) (Apart : X → X → Type 0) → ((x y : X) → Apart x y → before x y ⊎ before y x)
    → (xs : List X) → AllPairs Apart xs → AllPairs (λ x y. before x y ⊎ before y x) xs
apart_differ before Apart one xs once = λ i j d less within. one _ _ (once i j d less within)

all_same : {X : Type 0} (P : X → Type 0) (xs ys : List X) → ((x : X) → Contains ys x → Contains xs x) → All P xs → All P ys
all_same P xs ys into all = all_from_get P ys (λ k x at. All-contains P xs x all (into x (contains_from_get ys k x at)))

module _ (model : Model) (content : Content) (is : IsContent model content) where
  abbrev before_entry : VarDomain → VarDomain → Type 0
  before_entry one later = IsVarBefore one.name later.name

  tokens : Sorted IsTokenBefore token_order.transitive content.tokens
  tokens = sorted IsTokenBefore token_order.transitive content.tokens
      (apart_differ IsTokenBefore (λ one other. one ≢ other) (one_first IsTokenBefore token_order) content.tokens is.tokens_once)

  blocks : Sorted IsBlockBefore block_order.transitive content.blocks
  blocks = sorted IsBlockBefore block_order.transitive content.blocks
      (apart_differ IsBlockBefore (λ one other. one ≢ other) (one_first IsBlockBefore block_order) content.blocks is.blocks_once)

  entries : Sorted before_entry (λ x y z. var_order.transitive x.name y.name z.name) (paired content.names content.domains)
  entries = sorted before_entry (λ x y z. var_order.transitive x.name y.name z.name) (paired content.names content.domains)
      (apart_differ before_entry (λ one other. one.name ≢ other.name) (λ x y. one_first IsVarBefore var_order x.name y.name) (paired content.names content.domains)
      (pairs_apart content.names content.domains is.names_once))

  pub in_order : State
  in_order = record { tokens = tokens.list; blocks = blocks.list; entries = entries.list }

  pub in_order_alike : AreAlike (shown content) in_order
  unfolding in_order tokens
  in_order_alike = record {
    tokens = tokens.same;
    blocks = blocks.same;
    gives = λ name domain. entries.same (record { name = name; domain = domain });
  }

  entry_domain : (entry : VarDomain) → Contains (paired content.names content.domains) entry → IsDomain entry.domain
  entry_domain entry c =
      let at = stands_from content.names content.domains entry.name entry.domain c in
      get_all IsDomain content.domains at.number entry.domain is.domains at.given

  pub in_order_state : IsState model in_order
  unfolding in_order tokens
  in_order_state =
      let down = alike_below (shown content) in_order in_order_alike in
      let up = alike_below in_order (shown content) (alike_back (shown content) in_order in_order_alike) in
      record {
        order = record { tokens = tokens.ordered; blocks = blocks.ordered; entries = entries.ordered };
        tokens = all_same (λ token. (slot : Slot) × HasToken model token slot) content.tokens tokens.list (λ token c. (tokens.same token).1 c) is.tokens;
        blocks = all_same (IsBlockOf model in_order) content.blocks blocks.list (λ block c. (blocks.same block).1 c)
            (all_from_get (IsBlockOf model in_order) content.blocks (λ k block at.
            let of = get_all (IsBlockOf model (shown content)) content.blocks k block is.blocks at in
            (down.tokens block.token of.0, of.1)));
        variables = λ name. (
          λ about.
              let named = (is.variables name).0 (about_more model in_order (shown content) up.tokens up.blocks name about) in
              let has = has_domain content.names content.domains is.count name named in
              (has.0, (in_order_alike.gives name has.0).0 has.1),
          λ gives.
              about_more model (shown content) in_order down.tokens down.blocks name
              ((is.variables name).1 (is_named content.names content.domains name gives.0 ((in_order_alike.gives name gives.0).1 gives.1))),
        );
        domains = all_from_get (λ (entry : VarDomain). IsDomain entry.domain) entries.list
            (λ k entry at. entry_domain entry ((entries.same entry).1 (contains_from_get entries.list k entry at)));
      }
