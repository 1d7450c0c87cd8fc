-- A state with these tokens and blocks, and with domains of which something holds.
use Rattle.std.proofs.Common.{get_or, inl, inr, List, [], ◌∷◌, subst}
use Rattle.std.specs.Prelude.{All, AllPairs, Contains}
use Rattle.std.proofs.lemmas.List.Elements.{Contains-get_or}
use Rattle.domain_core.specs.Domain.{Domain, IsDomain}
use Rattle.eu_name.specs.declared.name.TokenName.{TokenName}
use Rattle.eu_name.specs.declared.name.VarName.{VarName}
use Rattle.eu_name.specs.declared.name.VarName.TheVariants as names
use Rattle.eu_name.specs.NameOrder.{IsTokenBefore, IsVarBefore}
use Rattle.eu_name.proofs.Orders.{var_order}
use Rattle.model_core.specs.declared.model.Model.{Model}
use Rattle.model_core.specs.declared.rule.Slot.{Slot}
use Rattle.model_core.specs.Blocks.{TokenBlock, IsBlock, IsBlockBefore}
use Rattle.model_core.specs.Entries.{Entries}
use Rattle.model_core.specs.State.{State, VarDomain, Gives, IsAbout, IsState}
use Rattle.model_core.specs.Tokens.{HasToken}
use Rattle.eu_name.proofs.Ordered.{contains_head, contains_later, contains_cases, contains_none, ordered_head, ordered_tail, ordered_none, ordered_cons}
use Rattle.law_states.proofs.Listing.{InOrder, in_order}
use Rattle.law_states.proofs.Lists.{Lists}
use Rattle.law_states.proofs.Naming.{names_listed}

-- ---- entries

abbrev pub named : VarName → Domain → VarDomain
named name domain = record { name = name; domain = domain }

abbrev BeforeEntry : VarDomain → VarDomain → Type 0
BeforeEntry one later = IsVarBefore one.name later.name

-- an entry for each name, with a domain that is so
record Entered (Q : VarName → Domain → Type 0) (names : List VarName) : Type 0 where
  entries : List VarDomain
  order : AllPairs BeforeEntry entries
  from : (entry : VarDomain) → Contains entries entry → Contains names entry.name × Q entry.name entry.domain
  have : (name : VarName) → Contains names name → (domain : Domain) × Contains entries (named name domain)

entered : (Q : VarName → Domain → Type 0) (names : List VarName) → AllPairs IsVarBefore names
    → ((name : VarName) → Contains names name → (domain : Domain) × Q name domain) → Entered Q names
entered Q [] order each = record {
  entries = [];
  order = ordered_none BeforeEntry;
  from = λ entry there. absurd (contains_none entry there);
  have = λ name there. absurd (contains_none name there);
}
entered Q (first ∷ names) order each =
    with_first (each first (contains_head first names)) (entered Q names (ordered_tail IsVarBefore first names order) (λ name there. each name (contains_later first name names there)))
  where
    with_first : (domain : Domain) × Q first domain → Entered Q names → Entered Q (first ∷ names)
    with_first (domain, is) rest = record {
      entries = named first domain ∷ rest.entries;
      order = ordered_cons BeforeEntry (named first domain) rest.entries
          (λ entry there. ordered_head IsVarBefore first names order entry.name (rest.from entry there).0) rest.order;
      from = λ entry there. elim (contains_cases (named first domain) entry rest.entries there) [
        | inl same ↦ subst (λ (e : VarDomain). Contains (first ∷ names) e.name × Q e.name e.domain) same (contains_head first names, is)
        | inr later ↦ let found = rest.from entry later in (contains_later first entry.name names found.0, found.1)
      ];
      have = λ name there. elim (contains_cases first name names there) [
        | inl same ↦ (domain, subst (λ (n : VarName). Contains (named first domain ∷ rest.entries) (named n domain)) same (contains_head (named first domain) rest.entries))
        | inr later ↦ let found = rest.have name later in (found.0, contains_later (named first domain) (named name found.0) rest.entries found.1)
      ];
    }

-- what holds of each member holds of all
pub all_members : {X : Type 0} (P : X → Type 0) (xs : List X) → ((x : X) → Contains xs x → P x) → All P xs
all_members P xs each = λ k d within. each (get_or xs k d) (Contains-get_or xs k d within)

-- ---- states

-- a state is about all that one with no more tokens and blocks is about
pub about_more : (model : Model) (few many : State) → ((token : TokenName) → Contains few.tokens token → Contains many.tokens token)
    → ((block : TokenBlock) → Contains few.blocks block → Contains many.blocks block) → (name : VarName) → IsAbout model few name → IsAbout model many name
about_more model few many tokens blocks (names.Global number) is = is
about_more model few many tokens blocks (names.Token token part) is = (tokens token is.0, is.1)
about_more model few many tokens blocks (names.Local token rule number) is = record {
  block = is.block;
  is_open = blocks is.block is.is_open;
  of_token = is.of_token;
  of_rule = is.of_rule;
  entries = is.entries;
  is_block = is.is_block;
  stands = is.stands;
}

-- a state of the model with these tokens and blocks, that gives just what is so
pub record Made (model : Model) (tokens : List TokenName) (blocks : List TokenBlock) (Q : VarName → Domain → Type 0) : Type 0 where
  pub entries : List VarDomain
  pub is_state : IsState model (record { tokens = tokens; blocks = blocks; entries = entries })
  pub are : (name : VarName) (domain : Domain) → Gives (record { tokens = tokens; blocks = blocks; entries = entries }) name domain → Q name domain

-- the tokens and the blocks are of the model, each list in order
pub record MayBeState (model : Model) (tokens : List TokenName) (blocks : List TokenBlock) : Type 0 where
  pub tokens_order : AllPairs IsTokenBefore tokens
  pub blocks_order : AllPairs IsBlockBefore blocks
  pub are_tokens : (token : TokenName) → Contains tokens token → (slot : Slot) × HasToken model token slot
  pub are_blocks : (block : TokenBlock) → Contains blocks block → (entries : Entries) × IsBlock model block entries
  pub owned : (block : TokenBlock) → Contains blocks block → Contains tokens block.token

module _ (model : Model) (tokens : List TokenName) (blocks : List TokenBlock) (Q : VarName → Domain → Type 0) (may : MayBeState model tokens blocks)
    (ok : (name : VarName) (domain : Domain) → Q name domain → IsDomain domain) where
  abbrev pub with_entries : List VarDomain → State
  with_entries entries = record { tokens = tokens; blocks = blocks; entries = entries }

  pub made : ((name : VarName) → IsAbout model (with_entries []) name → (domain : Domain) × Q name domain) → Made model tokens blocks Q
  made each = by (names_listed model (with_entries []) may.are_tokens may.are_blocks)
    where
      by_order : (about : Lists (IsAbout model (with_entries []))) → (ordered : InOrder IsVarBefore about.list) → Entered Q ordered.list → Made model tokens blocks Q
      by_order about ordered some = record {
        entries = some.entries;
        is_state = record {
          order = record { tokens = may.tokens_order; blocks = may.blocks_order; entries = some.order };
          tokens = all_members _ tokens may.are_tokens;
          blocks = all_members (λ block. Contains tokens block.token × ((entries : Entries) × IsBlock model block entries)) blocks (λ block there. (may.owned block there, may.are_blocks block there));
          variables = λ name. (
            λ is. some.have name ((ordered.are name).1 ((about.are name).1 (about_more model (with_entries some.entries) (with_entries []) (λ token there. there) (λ block there. there) name is))),
            λ given. about_more model (with_entries []) (with_entries some.entries) (λ token there. there) (λ block there. there) name ((about.are name).0 ((ordered.are name).0 (some.from (named name given.0) given.1).0)),
          );
          domains = all_members _ some.entries (λ entry there. ok entry.name entry.domain (some.from entry there).1);
        };
        are = λ name domain gives. (some.from (named name domain) gives).1;
      }

      by : Lists (IsAbout model (with_entries [])) → Made model tokens blocks Q
      by about =
          let ordered = in_order IsVarBefore var_order about.list in
          by_order about ordered (entered Q ordered.list ordered.order (λ name there. each name ((about.are name).0 ((ordered.are name).0 there))))
