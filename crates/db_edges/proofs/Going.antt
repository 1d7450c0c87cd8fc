-- The items of a token's rules, and which of them stand in open blocks.
use Rattle.std.proofs.Common.{◌≡◌, ℕ, zero, suc, ◌+◌, ◌<◌, ◌≤◌, ◌^◌, ◌⊎◌, inl, inr, Option, List, [], ◌∷◌, ◌++◌, length, take, drop, get_or, Some, None, refl, sym, ◌∙◌, ap, subst, arith, append_assoc}
use Rattle.std.specs.Prelude.{slice_get, ⊤, Contains, All}
use Rattle.std.specs.List.{AllZip}
use Rattle.std.proofs.lemmas.Bool.{cases_lt}
use Rattle.std.proofs.lemmas.List.{append-nil, drop_all, map-append, length-take-le, take_all}
use Rattle.std.proofs.lemmas.List.Elements.{All-contains}
use Rattle.eu_name.specs.declared.name.TokenName.{TokenName}
use Rattle.model_core.specs.declared.item.Item as what
use Rattle.model_core.specs.declared.item.Item.TheVariants.{Constraint, Relation}
use Rattle.model_core.specs.declared.item.Term.{Term}
use Rattle.model_core.specs.declared.item.Term.TheVariants as terms
use Rattle.model_core.specs.declared.class.Pred.{Pred}
use Rattle.model_core.specs.declared.model.Model.{Model}
use Rattle.model_core.specs.declared.variable.ValueKind.{ValueKind}
use Rattle.model_core.specs.declared.rule.Entry.{Entry}
use Rattle.model_core.specs.declared.rule.Entry.TheVariants as entry
use Rattle.model_core.specs.declared.rule.Guard.{Guard}
use Rattle.model_core.specs.declared.rule.Rule.{Rule}
use Rattle.model_core.specs.declared.rule.Side.{Side}
use Rattle.model_core.specs.declared.rule.Side.TheVariants.{Then, Otherwise}
use Rattle.model_core.specs.declared.rule.Slot.{Slot}
use Rattle.model_core.specs.declared.rule.Turn.{Turn}
use Rattle.model_core.specs.Block.{plain_entries}
use Rattle.model_core.specs.Blocks.{TokenBlock, chosen}
use Rattle.model_core.specs.Entries.{Entries}
use Rattle.model_core.specs.Kinds.{OfProblem, OfRule, IsOfKind}
use Rattle.model_core.specs.Lawful.{IsLawful, IsLawfulItem, IsLawfulEntry}
use Rattle.model_core.specs.Numbers.{PlacedItem, items_from, turned, rule_items}
use Rattle.model_core.specs.Standing.{StandsAt}
use Rattle.model_core.specs.Tokens.{HasToken, HasRule}
use Rattle.model_core.proofs.Leading.{token_once}
use Rattle.token_store.specs.Orders.{name_at}
use Rattle.token_store.specs.Tokens.{tokens_now, token_names}
use Rattle.plan_defs.specs.Terms.{InRule}
use Rattle.eu_name.proofs.Members.{get_below, get_within, get_same}
use Rattle.rule_engine.proofs.Entries.{few_entries}
use Rattle.eu_name.proofs.Places.{contains_unmap, contains_map}
use Rattle.db_posting.specs.Terms.{CanStand}
use Rattle.db_posting.proofs.Allowing.{arguments_kinds, stands}
use Rattle.model_core.proofs.Lawful.{rule_lawful}
use Rattle.db_store.specs.declared.key.OpenBlock.{OpenBlock}
use Rattle.rule_engine.proofs.Limits.{as_many}
use Rattle.db_store.specs.Keys.{named_block}
use Rattle.db_store.specs.Stores.{Stored, snapshot_of, IsSnapshot, named_content}
use Rattle.db_store.proofs.Naming.{same_place, length_names, names_are_once}
use Rattle.plan_values.specs.Openings.{entry_direct}
use Rattle.plan_values.specs.Walks.{HasRuleOf, items_of}
use Rattle.plan_values.proofs.Few.{few_of}
use Rattle.model_core.proofs.Few.{few_rule}
use Rattle.plan_values.proofs.Matching.{read_item}
use Rattle.plan_values.proofs.Standing.{direct_at}
use Rattle.plan_values.proofs.Walking.{follows_join, items_next}
use Rattle.db_refusals.specs.Seeing.{seen_state}
use Rattle.db_refusals.proofs.Seen.{put_in_order, name_stands}
use Rattle.db_edges.specs.declared.edge.NamedEdge.{NamedEdge}
use Rattle.db_edges.specs.Adding.{AddsEdges}
use Rattle.db_edges.specs.Edges.{AppendsEach}
use Rattle.db_edges.specs.Sites.{HasShortSlot, HasShortSlots}
use Rattle.db_edges.specs.Walking.{block_at_way, IsBlockOfRule, IsEntryOfRule, of_rule}
use Rattle.db_edges.specs.Whole.{TokenItem, items_of_rules, AreRulesOf}
use Rattle.db_edges.proofs.Appending.{adds_none, adds_so, adds_both, take_next}

-- ---- lists of things

-- what the one things have, and then what the others have
pub appends_both : {X Y : Type 0} (Has : X → List Y → Type 0) (xs ys : List X) (found more : List Y)
    → AppendsEach Has xs found → AppendsEach Has ys more → AppendsEach Has (xs ++ ys) (found ++ more)
appends_both Has [] ys found more none rest = subst (λ f. AppendsEach Has ys (f ++ more)) (sym none) rest
appends_both Has (x ∷ xs) ys found more are rest = (
  are.0,
  are.1 ++ more,
  are.2,
  appends_both Has xs ys are.1 more are.3 rest,
  ap (λ f. f ++ more) are.4 ∙ append_assoc are.0 are.1 more,
)

-- what one thing has
pub appends_one : {X : Type 0} (Has : X → List NamedEdge → Type 0) (x : X) (old new : List NamedEdge) → AddsEdges (Has x) old new
    → AddsEdges (AppendsEach Has (x ∷ [])) old new
appends_one Has x old new adds = adds_so (Has x) (AppendsEach Has (x ∷ [])) old new (λ more has. (more, [], has, refl, sym (append-nil more))) adds

pub adds_after : {X : Type 0} (Has : X → List NamedEdge → Type 0) (xs ys : List X) (old middle new : List NamedEdge)
    → AddsEdges (AppendsEach Has xs) old middle → AddsEdges (AppendsEach Has ys) middle new → AddsEdges (AppendsEach Has (xs ++ ys)) old new
adds_after Has xs ys old middle new first second =
    adds_both (AppendsEach Has xs) (AppendsEach Has ys) (AppendsEach Has (xs ++ ys)) old middle new (appends_both Has xs ys) first second

-- ---- open blocks

module _ (stored : Stored) (is : IsSnapshot (snapshot_of stored)) (token : TokenName) (rule : ℕ) (block : OpenBlock)
    (named : slice_get (token_names (tokens_now stored.past)) block.token ≡ Some token) (of : block.rule ≡ rule) where
  abbrev names : List TokenName
  names = token_names (tokens_now stored.past)

  below : block.token < length names
  below = get_below names block.token token named

  named_so : named_block names block ≡ block_at_way token rule block
  named_so =
      let name : name_at names block.token ≡ token = get_same names block.token (name_at names block.token) token (name_stands names block.token below) named in
      λ i. record { token = name i; rule = of i; path = block.path }

  pub open_seen : Contains stored.blocks block → Contains (seen_state stored).blocks (block_at_way token rule block)
  open_seen there =
      ((put_in_order (named_content (snapshot_of stored)) (names_are_once (snapshot_of stored) is)).alike.blocks (block_at_way token rule block)).0
      (subst (Contains (named_content (snapshot_of stored)).blocks) named_so (contains_map (named_block names) stored.blocks block there))

  pub seen_open : Contains (seen_state stored).blocks (block_at_way token rule block) → Contains stored.blocks block
  seen_open seen =
      let there = ((put_in_order (named_content (snapshot_of stored)) (names_are_once (snapshot_of stored) is)).alike.blocks (block_at_way token rule block)).1 seen in
      let found = contains_unmap (named_block names) stored.blocks (block_at_way token rule block) there in
      let same : named_block names found.0 ≡ named_block names block = found.2 ∙ sym named_so in
      let within = All-contains (λ (b : OpenBlock). b.token < length (tokens_now stored.past)) stored.blocks found.0 is.of_tokens found.1 in
      let other : found.0.token < length names = omega (arith, within, length_names (tokens_now stored.past)) in
      let place = same_place names is.tokens_once found.0.token block.token other below (ap (λ (b : TokenBlock). b.token) same) in
      let number = ap (λ (b : TokenBlock). b.rule) same in
      let path = ap (λ (b : TokenBlock). b.path) same in
      let one : found.0 ≡ block = λ i. record { token = place i; rule = number i; path = path i } in
      subst (Contains stored.blocks) one found.1

-- ---- entries

-- what may stand in a rule names slots with short numbers
short_term : (token : TokenName) (rule : ℕ) (term : Term) → CanStand (InRule token rule) term → HasShortSlot term
short_term token rule (terms.Slot number part) can = can
short_term token rule (terms.Lit value) can = tt
short_term token rule (terms.Here part) can = tt
short_term token rule (terms.Local number) can = tt
short_term token rule (terms.Global number) can = tt
short_term token rule (terms.Root number part) can = tt

module _ (model : Model) (lawful : IsLawful model) where
  short_item : (token : TokenName) (pred number : ℕ) (rule : Rule) (item : what.Item) → HasRule model pred number rule → IsLawfulItem model (OfRule pred rule) item → HasShortSlots item
  short_item token pred number rule (Constraint kind listed) has is = λ k d within.
      let of_kind = arguments_kinds model (OfRule pred rule) kind listed is.1 k d within in
      short_term token number (get_or listed k d) (stands model lawful (InRule token number) (OfRule pred rule) has of_kind.0 (get_or listed k d) of_kind.1)
  short_item token pred number rule (Relation rel slot) has is =
      omega (arith, get_below rule.slots slot is.0 is.1, (few_rule model pred number rule lawful has).slots)

  -- in the problem no slot is named
  short_in_problem : (term : Term) (kind : ValueKind) → IsOfKind model OfProblem kind term → HasShortSlot term
  short_in_problem (terms.Slot number part) kind is = absurd is
  short_in_problem (terms.Lit value) kind is = tt
  short_in_problem (terms.Here part) kind is = tt
  short_in_problem (terms.Local number) kind is = tt
  short_in_problem (terms.Global number) kind is = tt
  short_in_problem (terms.Root number part) kind is = tt

  short_of_problem : (item : what.Item) → IsLawfulItem model OfProblem item → HasShortSlots item
  short_of_problem (Constraint kind listed) is = λ k d within.
      let of_kind = arguments_kinds model OfProblem kind listed is.1 k d within in
      short_in_problem (get_or listed k d) of_kind.0 of_kind.1
  short_of_problem (Relation rel slot) is = absurd is

  pub problem_short : All HasShortSlots model.problem.items
  problem_short = λ k d within. short_of_problem (get_or model.problem.items k d) (lawful.items k d within)

  module _ (stored : Stored) (token : TokenName) (rule : ℕ) (block : OpenBlock) (place : ℕ) where
    lawful_at : (read : Entry) (at : IsEntryOfRule model stored token rule block place read)
        → (place < 2 ^ 16) × IsLawfulEntry model at.1.is_block.slot.pred at.1.is_block.rule block.path (entry_direct read)
    lawful_at read at =
        let is = at.1.is_block in
        let standing : StandsAt is.rule.top block.path place (entry_direct read) = record { block = at.0; way = is.way; stands = at.2 } in
        (rule_lawful model lawful is.slot.pred rule is.rule is.has_rule).entries block.path place (entry_direct read) standing

    pub place_short : (read : Entry) → IsEntryOfRule model stored token rule block place read → place < 2 ^ 16
    place_short read at = (lawful_at read at).0

    pub item_short : (item : what.Item) → IsEntryOfRule model stored token rule block place (entry.Item item) → HasShortSlots item
    item_short item at =
        let is = at.1.is_block in
        short_item token is.slot.pred rule is.rule item is.has_rule (lawful_at (entry.Item item) at).1.0

    -- a block of a branch is one of the rule too
    pub side_of_rule : (guard : Guard) (then otherwise : Entries) (side : Side) (behind : OpenBlock) (entries : Entries)
        → IsEntryOfRule model stored token rule block place (entry.Branch guard then otherwise) → behind ≡ record block { path = turned block.path place side }
        → entries ≡ chosen side then otherwise → IsBlockOfRule model stored token rule behind entries
    side_of_rule guard then otherwise side behind entries at same inside =
        let is = at.1.is_block in
        subst (λ b. IsBlockOfRule model stored token rule b entries) (sym same) (record {
          named = at.1.named;
          of_rule = at.1.of_rule;
          is_block = record {
            slot = is.slot;
            has_token = is.has_token;
            rule = is.rule;
            has_rule = is.has_rule;
            way = follows_join (λ g s. ⊤) is.rule.top block.path (record { entry = place; side = side } ∷ []) at.0 entries is.way
                (guard, (then, otherwise, (at.2, (tt, inside))));
          };
        })

  -- the top block is one of the rule
  pub top_of_rule : (stored : Stored) (token : TokenName) (number place : ℕ) (rule : Rule) (top : OpenBlock) (entries : Entries)
      → slice_get (token_names (tokens_now stored.past)) place ≡ Some token → HasRuleOf model token number rule
      → top ≡ record { token = place; rule = number; path = [] } → entries ≡ rule.top → IsBlockOfRule model stored token number top entries
  top_of_rule stored token number place rule top entries named has same inside =
      subst (λ b. IsBlockOfRule model stored token number b entries) (sym same) (record {
        named = named;
        of_rule = refl;
        is_block = record { slot = has.slot; has_token = has.has_token; rule = rule; has_rule = has.has_rule; way = inside };
      })

  -- few entries stand in a block
  pub few_stand : (stored : Stored) (token : TokenName) (rule : ℕ) (block : OpenBlock) (entries : List Entry)
      → IsBlockOfRule model stored token rule block (plain_entries entries) → length entries ≤ 2 ^ 16
  few_stand stored token rule block entries of =
      omega (arith, as_many entries, few_entries model (block_at_way token rule block) (plain_entries entries) lawful of.is_block)

  -- what is read of the entries of a block stands in it
  pub entry_of_rule : (stored : Stored) (token : TokenName) (rule : ℕ) (block : OpenBlock) (entries : List Entry) (i : ℕ) (read : Entry) → i < length entries
      → read ≡ get_or entries i read → IsBlockOfRule model stored token rule block (plain_entries entries) → IsEntryOfRule model stored token rule block i read
  entry_of_rule stored token rule block entries i read within is of = (plain_entries entries, of, direct_at entries i read (read_item entries i read within is))

-- ---- the items of a rule

-- the items so far have their edges, and those from this place on are left
pub record GoneTo (Has : TokenItem → List NamedEdge → Type 0) (rule : ℕ) (path : List Turn) (entries : List Entry) (i : ℕ) (old new : List NamedEdge) : Type 0 where
  pub done : List PlacedItem
  pub are : items_from path 0 (plain_entries entries) ≡ done ++ items_from path i (plain_entries (drop i entries))
  pub adds : AddsEdges (AppendsEach Has (of_rule rule done)) old new

module _ (Has : TokenItem → List NamedEdge → Type 0) (rule : ℕ) where
  placed_in : PlacedItem → TokenItem
  placed_in placed = record { rule = rule; placed = placed }

  of_both : (xs ys : List PlacedItem) → of_rule rule (xs ++ ys) ≡ of_rule rule xs ++ of_rule rule ys
  of_both xs ys = map-append (λ (placed : PlacedItem). record { rule = rule; placed = placed }) xs ys

  -- first the one items, and then the others
  pub adds_items : (xs ys : List PlacedItem) (old middle new : List NamedEdge) → AddsEdges (AppendsEach Has (of_rule rule xs)) old middle
      → AddsEdges (AppendsEach Has (of_rule rule ys)) middle new → AddsEdges (AppendsEach Has (of_rule rule (xs ++ ys))) old new
  adds_items xs ys old middle new first second =
      subst (λ (l : List TokenItem). AddsEdges (AppendsEach Has l) old new) (sym (of_both xs ys)) (adds_after Has (of_rule rule xs) (of_rule rule ys) old middle new first second)

  -- the items of a branch: those of the one block, and then those of the other
  pub adds_sides : (path left right : List Turn) (place : ℕ) (read : Entry) (guard : Guard) (then otherwise thens others : Entries) (old middle new : List NamedEdge)
      → read ≡ entry.Branch guard then otherwise → thens ≡ then → others ≡ otherwise → left ≡ turned path place Then → right ≡ turned path place Otherwise
      → AddsEdges (AppendsEach Has (of_rule rule (items_from left 0 thens))) old middle → AddsEdges (AppendsEach Has (of_rule rule (items_from right 0 others))) middle new
      → AddsEdges (AppendsEach Has (of_rule rule (items_of path place read))) old new
  adds_sides path left right place read guard then otherwise thens others old middle new is same same' one other first second =
      let left_is : items_from left 0 thens ≡ items_from (turned path place Then) 0 then =
      ap (λ (p : List Turn). items_from p 0 thens) one ∙ ap (λ (e : Entries). items_from (turned path place Then) 0 e) same in
      let right_is : items_from right 0 others ≡ items_from (turned path place Otherwise) 0 otherwise =
      ap (λ (p : List Turn). items_from p 0 others) other ∙ ap (λ (e : Entries). items_from (turned path place Otherwise) 0 e) same' in
      subst (λ (e : Entry). AddsEdges (AppendsEach Has (of_rule rule (items_of path place e))) old new) (sym is)
      (adds_items (items_from (turned path place Then) 0 then) (items_from (turned path place Otherwise) 0 otherwise) old middle new
      (subst (λ (l : List PlacedItem). AddsEdges (AppendsEach Has (of_rule rule l)) old middle) left_is first)
      (subst (λ (l : List PlacedItem). AddsEdges (AppendsEach Has (of_rule rule l)) middle new) right_is second))

  -- neither a slot nor a local is an item
  pub adds_nothing : (path : List Turn) (place : ℕ) (read : Entry) (old : List NamedEdge) → items_of path place read ≡ []
      → AddsEdges (AppendsEach Has (of_rule rule (items_of path place read))) old old
  adds_nothing path place read old none =
      subst (λ (l : List PlacedItem). AddsEdges (AppendsEach Has (of_rule rule l)) old old) (sym none) (adds_none (AppendsEach Has []) old refl)

  -- one item
  pub adds_item : (path : List Turn) (place : ℕ) (read : Entry) (item : what.Item) (old new : List NamedEdge) → read ≡ entry.Item item
      → AddsEdges (Has (record { rule = rule; placed = record { path = path; place = place; item = item } })) old new
      → AddsEdges (AppendsEach Has (of_rule rule (items_of path place read))) old new
  adds_item path place read item old new is adds =
      subst (λ (e : Entry). AddsEdges (AppendsEach Has (of_rule rule (items_of path place e))) old new) (sym is)
      (appends_one Has (record { rule = rule; placed = record { path = path; place = place; item = item } }) old new adds)

  module _ (path : List Turn) (entries : List Entry) (old : List NamedEdge) where
    pub gone_nowhere : GoneTo Has rule path entries 0 old old
    gone_nowhere = record { done = []; are = refl; adds = adds_none (AppendsEach Has []) old refl }

    pub gone_on : (i : ℕ) (read : Entry) (middle new : List NamedEdge) → i < length entries → read ≡ get_or entries i read → GoneTo Has rule path entries i old middle
        → AddsEdges (AppendsEach Has (of_rule rule (items_of path i read))) middle new → GoneTo Has rule path entries (i + 1) old new
    gone_on i read middle new within is so_far adds = record {
      done = so_far.done ++ items_of path i read;
      are = so_far.are ∙ (ap (λ xs. so_far.done ++ xs) (items_next entries i read within is path)
          ∙ sym (append_assoc so_far.done (items_of path i read) (items_from path (i + 1) (plain_entries (drop (i + 1) entries)))));
      adds = adds_items so_far.done (items_of path i read) old middle new so_far.adds adds;
    }

    pub gone_through : (i : ℕ) (new : List NamedEdge) → length entries ≤ i → GoneTo Has rule path entries i old new
        → AddsEdges (AppendsEach Has (of_rule rule (items_from path 0 (plain_entries entries)))) old new
    gone_through i new past so_far =
        let none : items_from path i (plain_entries (drop i entries)) ≡ [] = ap (λ xs. items_from path i (plain_entries xs)) (drop_all i entries past) in
        let all = so_far.are ∙ (ap (λ xs. so_far.done ++ xs) none ∙ append-nil so_far.done) in
        subst (λ (xs : List PlacedItem). AddsEdges (AppendsEach Has (of_rule rule xs)) old new) (sym all) so_far.adds

-- ---- the rules of a token

rule_listed : (model : Model) (places : List ℕ) (rules : List Rule) (number place : ℕ) (rule : Rule) → AllZip (λ p r. slice_get model.rules p ≡ Some r) places rules
    → slice_get places number ≡ Some place → slice_get model.rules place ≡ Some rule → slice_get rules number ≡ Some rule
rule_listed model [] rules number place rule are listed is_rule = absurd (cc)
rule_listed model (first ∷ places) [] number place rule are listed is_rule = absurd are
rule_listed model (first ∷ places) (found ∷ rules) zero place rule (here, later) listed is_rule =
    let same : first ≡ place = cc in
    cc
rule_listed model (first ∷ places) (found ∷ rules) (suc number) place rule (here, later) listed is_rule = rule_listed model places rules number place rule later listed is_rule

listed_rule : (model : Model) (places : List ℕ) (rules : List Rule) (number : ℕ) (rule : Rule) → AllZip (λ p r. slice_get model.rules p ≡ Some r) places rules
    → slice_get rules number ≡ Some rule → (place : ℕ) × (slice_get places number ≡ Some place) × (slice_get model.rules place ≡ Some rule)
listed_rule model places [] number rule are at = absurd (cc)
listed_rule model [] (found ∷ rules) number rule are at = absurd are
listed_rule model (first ∷ places) (found ∷ rules) zero rule (here, later) at =
    let same : found ≡ rule = cc in
    (first, refl, here ∙ ap Some same)
listed_rule model (first ∷ places) (found ∷ rules) (suc number) rule (here, later) at = listed_rule model places rules number rule later at

module _ (model : Model) (lawful : IsLawful model) (token : TokenName) where
  -- a token has a list of rules
  pub has_rules : (slot : Slot) → HasToken model token slot → (rules : List Rule) × AreRulesOf model token rules
  has_rules slot has = by (slice_get model.preds slot.pred) refl
    where
      by : (found : Option Pred) → slice_get model.preds slot.pred ≡ found → (rules : List Rule) × AreRulesOf model token rules
      by None none = (
        [],
        λ number rule. (
          λ is.
              let slots = token_once model token is.slot slot is.has_token has in
              let there = subst (λ (s : Slot). slice_get model.preds s.pred ≡ Some is.has_rule.predicate) slots is.has_rule.is_predicate in
              absurd (let e : None ≡ Some is.has_rule.predicate = sym none ∙ there in cc),
          λ at. absurd (cc),
        ),
      )
      by (Some predicate) there =
          let pred = lawful.preds slot.pred predicate there in (
            pred.rules,
            λ number rule. (
              λ is.
                  let slots = token_once model token is.slot slot is.has_token has in
                  let other = subst (λ (s : Slot). slice_get model.preds s.pred ≡ Some is.has_rule.predicate) slots is.has_rule.is_predicate in
                  let same : is.has_rule.predicate ≡ predicate = get_same model.preds slot.pred is.has_rule.predicate predicate other there in
                  rule_listed model predicate.rules pred.rules number is.has_rule.place rule pred.are_rules
                  (subst (λ (p : Pred). slice_get p.rules number ≡ Some is.has_rule.place) same is.has_rule.listed) is.has_rule.is_rule,
              λ at.
                  let found = listed_rule model predicate.rules pred.rules number rule pred.are_rules at in
                  record {
                    slot = slot;
                    has_token = has;
                    has_rule = record { predicate = predicate; place = found.0; is_predicate = there; listed = found.1; is_rule = found.2 };
                  },
            ),
          )

  -- there are few of them
  pub few_rules : (rules : List Rule) → AreRulesOf model token rules → length rules ≤ 1024
  few_rules rules are = by (cases_lt 1024 (length rules))
    where
      by : (1024 < length rules) ⊎ (length rules ≤ 1024) → length rules ≤ 1024
      by (inl long) =
          let at = get_within rules 1024 long in
          let is = (are 1024 at.0).1 at.1 in
          absurd (omega (arith, (few_of model token 1024 at.0 lawful is).number_below))
      by (inr few) = few

  -- where the token has no rule of this number, there are no more
  pub no_more_rules : (rules : List Rule) (number : ℕ) → AreRulesOf model token rules → ((rule : Rule) → HasRuleOf model token number rule → ⊥) → length rules ≤ number
  no_more_rules rules number are none = by (cases_lt number (length rules))
    where
      by : (number < length rules) ⊎ (length rules ≤ number) → length rules ≤ number
      by (inl less) = let at = get_within rules number less in absurd (none at.0 ((are number at.0).1 at.1))
      by (inr past) = past

-- the items of a further rule stand behind those of the others
items_behind : (number : ℕ) (rules : List Rule) (rule : Rule)
    → items_of_rules number (rules ++ rule ∷ []) ≡ items_of_rules number rules ++ of_rule (number + length rules) (rule_items rule)
items_behind number [] rule = append-nil (of_rule number (rule_items rule)) ∙ ap (λ (n : ℕ). of_rule n (rule_items rule)) (omega arith)
items_behind number (first ∷ rules) rule =
    let same : number + 1 + length rules ≡ number + length (first ∷ rules) = omega arith in
    ap (λ (l : List TokenItem). of_rule number (rule_items first) ++ l) (items_behind (number + 1) rules rule ∙ ap (λ (n : ℕ). items_of_rules (number + 1) rules ++ of_rule n (rule_items rule)) same)
    ∙ sym (append_assoc (of_rule number (rule_items first)) (items_of_rules (number + 1) rules) (of_rule (number + length (first ∷ rules)) (rule_items rule)))

module _ (Has : TokenItem → List NamedEdge → Type 0) (rules : List Rule) (old : List NamedEdge) where
  pub rules_next : (number : ℕ) (rule : Rule) (middle new : List NamedEdge) → slice_get rules number ≡ Some rule
      → AddsEdges (AppendsEach Has (items_of_rules 0 (take number rules))) old middle → AddsEdges (AppendsEach Has (of_rule number (rule_items rule))) middle new
      → AddsEdges (AppendsEach Has (items_of_rules 0 (take (number + 1) rules))) old new
  rules_next number rule middle new at before adds =
      let within = get_below rules number rule at in
      let long : 0 + length (take number rules) ≡ number = omega (arith, length-take-le number rules (omega (arith, within))) in
      let list = ap (λ (l : List Rule). items_of_rules 0 l) (take_next rules number rule at) ∙ items_behind 0 (take number rules) rule
      ∙ ap (λ (n : ℕ). items_of_rules 0 (take number rules) ++ of_rule n (rule_items rule)) long in
      subst (λ (l : List TokenItem). AddsEdges (AppendsEach Has l) old new) (sym list)
      (adds_after Has (items_of_rules 0 (take number rules)) (of_rule number (rule_items rule)) old middle new before adds)

  pub rules_all : (number : ℕ) (new : List NamedEdge) → length rules ≤ number → AddsEdges (AppendsEach Has (items_of_rules 0 (take number rules))) old new
      → AddsEdges (AppendsEach Has (items_of_rules 0 rules)) old new
  rules_all number new past adds = subst (λ (l : List Rule). AddsEdges (AppendsEach Has (items_of_rules 0 l)) old new) (take_all number rules past) adds
