-- What is there in a store is there still where things are added.
use Rattle.std.proofs.Common.{◌≡◌, ℕ, ◌<◌, List, [], ◌∷◌, ◌++◌, length, map, Some, refl, sym, ap, ◌∙◌, subst, arith}
use Rattle.std.specs.Prelude.{◌≢◌, All, AllPairs, Contains, slice_get}
use Rattle.std.proofs.lemmas.List.{append_assoc, append-nil, map-append, get_or_append_left}
use Rattle.std.proofs.lemmas.List.Elements.{All-head, All-tail, All-weaker, Contains-append_left}
use Rattle.domain_core.specs.Domain.{Domain}
use Rattle.domain_core.proofs.Words.{IsWithin-refl}
use Rattle.eu_name.specs.declared.name.TokenName.{TokenName}
use Rattle.eu_name.specs.declared.name.VarName.{VarName}
use Rattle.eu_name.specs.declared.name.VarName.TheVariants as name
use Rattle.model_core.specs.declared.decision.Decision.{Decision}
use Rattle.model_core.specs.declared.item.Term.{Term}
use Rattle.model_core.specs.declared.model.Model.{Model}
use Rattle.model_core.specs.declared.rule.Guard.{Guard}
use Rattle.model_core.specs.declared.rule.Side.{Side}
use Rattle.model_core.specs.State.{Gives}
use Rattle.token_store.specs.Orders.{name_at}
use Rattle.token_store.specs.Tokens.{tokens_now}
use Rattle.token_store.specs.declared.trail.Token.{Token}
use Rattle.plan_defs.specs.Situations.{situation_of}
use Rattle.plan_defs.specs.Support.{MayBe, Opens, one_side, other_side}
use Rattle.plan_defs.specs.Terms.{Context, Argument, Value, Variable, Means, HasDomain}
use Rattle.plan_defs.proofs.Lower.{Further}
use Rattle.eu_name.proofs.Members.{get_below, get_within, get_same, get_from_contains}
use Rattle.model_core.specs.Content.{Content, shown}
use Rattle.db_refine.proofs.Showing.{stands_from, gives_from, number_once}
use Rattle.db_refine.specs.Coming.{IsTermThere}
use Rattle.eu_name.proofs.Places.{get_front}
use Rattle.db_store.specs.Keys.{named_variable, named_block, IsKeyBelow}
use Rattle.db_store.specs.Stores.{Stored, snapshot_of, IsSnapshot}
use Rattle.db_store.specs.declared.key.OpenBlock.{OpenBlock}
use Rattle.db_store.specs.declared.key.VarKey.{VarKey}
use Rattle.db_store.specs.declared.key.VarKey.TheVariants.{Global, Part, Local}
use Rattle.db_store.proofs.Naming.{length_names}
use Rattle.db_posting.specs.Origins.{content_now}
use Rattle.db_posting.specs.Underway.{GoesOnAs, OnlyAdds}

-- ---- lists

pub goes_nowhere : {X : Type 0} (xs ys : List X) → ys ≡ xs → GoesOnAs xs ys
goes_nowhere xs ys same = ([], same ∙ sym (append-nil xs))

pub goes_both : {X : Type 0} (xs ys zs : List X) → GoesOnAs xs ys → GoesOnAs ys zs → GoesOnAs xs zs
goes_both xs ys zs one other = (one.0 ++ other.0, other.1 ∙ ap (λ list. list ++ other.0) one.1 ∙ append_assoc xs one.0 other.0)

pub goes_there : {X : Type 0} (xs ys : List X) → GoesOnAs xs ys → (x : X) → Contains xs x → Contains ys x
goes_there xs ys goes x there = subst (λ list. Contains list x) (sym goes.1) (Contains-append_left xs goes.0 x there)

pub goes_at : {X : Type 0} (xs ys : List X) → GoesOnAs xs ys → (k : ℕ) (x : X) → slice_get xs k ≡ Some x → slice_get ys k ≡ Some x
goes_at xs ys goes k x at = subst (λ list. slice_get list k ≡ Some x) (sym goes.1) (get_front xs goes.0 k x at)

map_same : {X Y : Type 0} (f g : X → Y) (xs : List X) → All (λ x. f x ≡ g x) xs → map f xs ≡ map g xs
map_same f g [] all = refl
map_same f g (x ∷ xs) all = λ i. All-head (λ x. f x ≡ g x) x xs all i ∷ map_same f g xs (All-tail (λ x. f x ≡ g x) x xs all) i

-- what two functions make of a list that goes on, where they agree on what was there
goes_mapped : {X Y : Type 0} (f g : X → Y) (xs ys : List X) → All (λ x. g x ≡ f x) xs → GoesOnAs xs ys → GoesOnAs (map f xs) (map g ys)
goes_mapped f g xs ys same goes =
    (map g goes.0, ap (map g) goes.1 ∙ map-append g xs goes.0 ∙ ap (λ list. list ++ map g goes.0) (map_same g f xs same))

-- ---- stores

pub adds_nothing : (stored : Stored) → OnlyAdds stored stored
adds_nothing stored = record {
  tokens = goes_nowhere (tokens_now stored.past) (tokens_now stored.past) refl;
  keys = goes_nowhere stored.keys stored.keys refl;
  blocks = goes_nowhere stored.blocks stored.blocks refl;
  watches = goes_nowhere stored.watches stored.watches refl;
  domains = goes_nowhere stored.net.domains stored.net.domains refl;
  posted = goes_nowhere stored.net.constraints stored.net.constraints refl;
  tables = refl;
  changed = refl;
}

pub adds_both : (old mid new : Stored) → OnlyAdds old mid → OnlyAdds mid new → OnlyAdds old new
adds_both old mid new one other = record {
  tokens = goes_both (tokens_now old.past) (tokens_now mid.past) (tokens_now new.past) one.tokens other.tokens;
  keys = goes_both old.keys mid.keys new.keys one.keys other.keys;
  blocks = goes_both old.blocks mid.blocks new.blocks one.blocks other.blocks;
  watches = goes_both old.watches mid.watches new.watches one.watches other.watches;
  domains = goes_both old.net.domains mid.net.domains new.net.domains one.domains other.domains;
  posted = goes_both old.net.constraints mid.net.constraints new.net.constraints one.posted other.posted;
  tables = other.tables ∙ one.tables;
  changed = other.changed ∙ one.changed;
}

abbrev nameless : TokenName
nameless = record { root = 0; steps = [] }

module _ (names more : List TokenName) where
  name_on : (place : ℕ) → place < length names → name_at (names ++ more) place ≡ name_at names place
  name_on place below = get_or_append_left names more nameless place below

  variable_on : (key : VarKey) → IsKeyBelow (length names) key → named_variable (names ++ more) key ≡ named_variable names key
  variable_on (Global number) below = refl
  variable_on (Part place part) below = ap (λ token. name.Token token part) (name_on place below)
  variable_on (Local place rule number) below = ap (λ token. name.Local token rule number) (name_on place below)

  block_on : (block : OpenBlock) → block.token < length names → named_block (names ++ more) block ≡ named_block names block
  block_on block below = λ i. record { token = name_on block.token below i; rule = block.rule; path = block.path }

-- what is in a content that goes on
pub record Adds (old new : Content) : Type 0 where
  pub tokens : GoesOnAs old.tokens new.tokens
  pub blocks : GoesOnAs old.blocks new.blocks
  pub names : GoesOnAs old.names new.names
  pub domains : GoesOnAs old.domains new.domains

module _ (old new : Stored) (sound : IsSnapshot (snapshot_of old)) (adds : OnlyAdds old new) where
  abbrev had : Content
  had = content_now old

  abbrev has : Content
  has = content_now new

  names_go : GoesOnAs had.tokens has.tokens
  names_go =
      let first : TokenName × Token → TokenName = λ (token : TokenName × Token). token.0 in
      (map first adds.tokens.0, ap (map first) adds.tokens.1 ∙ map-append first (tokens_now old.past) adds.tokens.0)

  long : length had.tokens ≡ length (tokens_now old.past)
  long = length_names (tokens_now old.past)

  pub block_stays : (block : OpenBlock) → block.token < length (tokens_now old.past) → named_block has.tokens block ≡ named_block had.tokens block
  block_stays block below =
      let within : block.token < length had.tokens = omega (arith, below, long) in
      subst (λ (list : List TokenName). named_block list block ≡ named_block had.tokens block) (sym names_go.1) (block_on had.tokens names_go.0 block within)

  variable_stays : (key : VarKey) → IsKeyBelow (length (tokens_now old.past)) key → named_variable has.tokens key ≡ named_variable had.tokens key
  variable_stays key below =
      subst (λ (list : List TokenName). named_variable list key ≡ named_variable had.tokens key) (sym names_go.1)
      (variable_on had.tokens names_go.0 key (subst (λ n. IsKeyBelow n key) (sym long) below))

  pub content_adds : Adds had has
  content_adds = record {
    tokens = names_go;
    blocks = goes_mapped (named_block had.tokens) (named_block has.tokens) old.blocks new.blocks
        (All-weaker (λ (block : OpenBlock). block.token < length (tokens_now old.past)) (λ (block : OpenBlock). named_block has.tokens block ≡ named_block had.tokens block)
        (λ block below. block_stays block below) old.blocks sound.of_tokens) adds.blocks;
    names = goes_mapped (named_variable had.tokens) (named_variable has.tokens) old.keys new.keys
        (All-weaker (IsKeyBelow (length (tokens_now old.past))) (λ (key : VarKey). named_variable has.tokens key ≡ named_variable had.tokens key)
        (λ key below. variable_stays key below) old.keys sound.placed) adds.keys;
    domains = adds.domains;
  }

-- ---- contents

module _ (old new : Content) (adds : Adds old new) where
  pub gives_on : (name : VarName) (domain : Domain) → Gives (shown old) name domain → Gives (shown new) name domain
  gives_on name domain gives =
      let at = stands_from old.names old.domains name domain gives in
      gives_from new.names new.domains at.number name domain (goes_at old.names new.names adds.names at.number name at.named)
      (goes_at old.domains new.domains adds.domains at.number domain at.given)

  pub further_on : (decisions : List Decision) → Further (situation_of decisions (shown old)) (situation_of decisions (shown new))
  further_on decisions = record {
    taken = λ token taken. taken;
    activated = λ token activated. activated;
    gives = λ name domain gives. (domain, gives_on name domain gives, IsWithin-refl domain);
  }

  pub term_on : (context : Context) (term : Term) → IsTermThere old context term → IsTermThere new context term
  term_on context term there = λ name means. goes_there old.names new.names adds.names name (there name means)

  module _ (even : length old.names ≡ length old.domains) (once : AllPairs (λ one other. one ≢ other) new.names) where
    -- what is there is given as it was
    gives_back : (name : VarName) (domain : Domain) → Contains old.names name → Gives (shown new) name domain → Gives (shown old) name domain
    gives_back name domain there gives =
        let here = get_from_contains old.names name there in
        let at = stands_from new.names new.domains name domain gives in
        let same = number_once new.names once at.number here.0 name at.named (goes_at old.names new.names adds.names here.0 name here.1) in
        let below = get_below old.names here.0 name here.1 in
        let found = get_within old.domains here.0 (omega (arith, below, even)) in
        let stays = goes_at old.domains new.domains adds.domains here.0 found.0 found.1 in
        let is = get_same new.domains here.0 found.0 domain stays (subst (λ (n : ℕ). slice_get new.domains n ≡ Some domain) same at.given) in
        gives_from old.names old.domains here.0 name domain here.1 (subst (λ (d : Domain). slice_get old.domains here.0 ≡ Some d) is found.1)

    module _ (model : Model) (decisions : List Decision) (context : Context) where
      domain_back : (term : Term) (argument : Argument) (domain : Domain) → IsTermThere old context term → Means context term argument
          → HasDomain (Gives (shown new)) argument domain → HasDomain (Gives (shown old)) argument domain
      domain_back term (Value value) domain there means has = has
      domain_back term (Variable name) domain there means has = gives_back name domain (there name means) has

      may_be_back : (term : Term) (domain : Domain) → IsTermThere old context term → MayBe model (situation_of decisions (shown new)) context term domain
          → MayBe model (situation_of decisions (shown old)) context term domain
      may_be_back term domain there may = record {
        argument = may.argument;
        means = may.means;
        counts = may.counts;
        has = domain_back term may.argument domain there may.means may.has;
      }

      -- a guard that opens a side opened it before, where what it names was there
      pub opens_back : (guard : Guard) (side : Side) → IsTermThere old context (one_side guard) → IsTermThere old context (other_side guard)
          → Opens model (situation_of decisions (shown new)) context guard side → Opens model (situation_of decisions (shown old)) context guard side
      opens_back guard side one other opens = record {
        one = opens.one;
        other = opens.other;
        is_one = may_be_back (one_side guard) opens.one one opens.is_one;
        is_other = may_be_back (other_side guard) opens.other other opens.is_other;
        always = opens.always;
      }
