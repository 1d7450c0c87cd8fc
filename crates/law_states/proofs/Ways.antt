-- Ways to blocks, and where items stand.
use Rattle.std.proofs.Common.{◌≡◌, ℕ, suc, ◌+◌, List, [], ◌∷◌, ◌++◌, Some, ◌⊎◌, inl, inr, refl, sym, ◌∙◌, subst, arith}
use Rattle.std.specs.Prelude.{slice_get, Contains, ⊤}
use Rattle.std.proofs.lemmas.List.{append_assoc, append-nil}
use Rattle.std.proofs.lemmas.List.Elements.{Contains-append_cases}
use Rattle.eu_name.proofs.Members.{contains_from_get}
use Rattle.model_core.specs.declared.model.Model.{Model}
use Rattle.model_core.specs.declared.rule.Guard.{Guard}
use Rattle.model_core.specs.declared.rule.Rule.{Rule}
use Rattle.model_core.specs.declared.rule.Side.{Side}
use Rattle.model_core.specs.declared.rule.Side.TheVariants.{Then, Otherwise}
use Rattle.model_core.specs.declared.rule.Slot.{Slot}
use Rattle.model_core.specs.declared.rule.Turn.{Turn}
use Rattle.model_core.specs.Blocks.{TokenBlock, HasBlock, Follows, Direct, OfSlot, OfLocal, OfItem, OfBranch, chosen, direct}
use Rattle.model_core.specs.Entries.{Entries, NoEntry, WithSlot, WithLocal, WithItem, WithBranch}
use Rattle.model_core.specs.Numbers.{PlacedItem, IsItemOf, items_from, turned}
use Rattle.model_core.specs.Tokens.{HasRule}
use Rattle.model_core.proofs.Leading.{token_once}
use Rattle.model_core.proofs.Rules.{has_rule_once}
use Rattle.eu_name.proofs.Ordered.{contains_cases, contains_none}

-- a list with items isn't empty
no_split : {X : Type 0} (before : List X) (one : X) (after : List X) → [] ≡ before ++ one ∷ after → ⊥
no_split [] one after e = cc
no_split (x ∷ before) one after e = cc

-- a list that goes on by one item, split before some item
pub last_cases : {X : Type 0} (xs before : List X) (x one : X) (after : List X) → (xs ++ x ∷ []) ≡ (before ++ one ∷ after)
    → ((xs ≡ before) × (x ≡ one)) ⊎ ((inner : List X) × (xs ≡ before ++ one ∷ inner))
last_cases [] [] x one after e = inl (refl, cc)
last_cases [] (first ∷ before) x one after e = absurd (no_split before one after (let f : [] ≡ before ++ one ∷ after = cc in f))
last_cases (first ∷ xs) [] x one after e = inr (xs, (let f : first ≡ one = cc in λ i. f i ∷ xs))
last_cases (first ∷ xs) (other ∷ before) x one after e =
    let heads : first ≡ other = cc in
    let tails : (xs ++ x ∷ []) ≡ (before ++ one ∷ after) = cc in
    elim (last_cases xs before x one after tails) [
      | inl last ↦ inl ((λ i. heads i ∷ last.0 i), last.1)
      | inr inner ↦ inr (inner.0, (λ i. heads i ∷ inner.1 i))
    ]

-- ---- a way leads to one block

chosen_same : (side : Side) (a b x y : Entries) → a ≡ x → b ≡ y → chosen side a b ≡ chosen side x y
chosen_same Then a b x y p q = p
chosen_same Otherwise a b x y p q = q

first_block : (g h : Guard) (a b x y : Entries) → Some (OfBranch g a b) ≡ Some (OfBranch h x y) → a ≡ x
first_block g h a b x y e = cc

second_block : (g h : Guard) (a b x y : Entries) → Some (OfBranch g a b) ≡ Some (OfBranch h x y) → b ≡ y
second_block g h a b x y e = cc

pub follows_once : (P Q : Guard → Side → Type 0) (top : Entries) (path : List Turn) (block other : Entries) → Follows P top path block → Follows Q top path other → block ≡ other
follows_once P Q top [] block other p q = p ∙ sym q
follows_once P Q top (turn ∷ path) block other p q =
    let e : Some (OfBranch p.0 p.1.0 p.1.1) ≡ Some (OfBranch q.0 q.1.0 q.1.1) = sym p.1.2.0 ∙ q.1.2.0 in
    let same = chosen_same turn.side p.1.0 p.1.1 q.1.0 q.1.1 (first_block p.0 q.0 p.1.0 p.1.1 q.1.0 q.1.1 e) (second_block p.0 q.0 p.1.0 p.1.1 q.1.0 q.1.1 e) in
    follows_once P Q (chosen turn.side p.1.0 p.1.1) path block other p.1.2.1.1
    (subst (λ (t : Entries). Follows Q t path other) (sym same) q.1.2.1.1)

pub block_once : (model : Model) (P Q : Guard → Side → Type 0) (block : TokenBlock) (one other : Entries) → HasBlock model P block one → HasBlock model Q block other → one ≡ other
block_once model P Q block one other p q =
    let slots = token_once model block.token p.slot q.slot p.has_token q.has_token in
    let moved : HasRule model p.slot.pred block.rule q.rule = subst (λ (s : Slot). HasRule model s.pred block.rule q.rule) (sym slots) q.has_rule in
    let rules = has_rule_once model p.slot.pred block.rule p.rule q.rule p.has_rule moved in
    follows_once P Q p.rule.top block.path one other p.way (subst (λ (r : Rule). Follows Q r.top block.path other) (sym rules) q.way)

-- ---- where the items of a rule stand

-- any guard, either side
abbrev Any : Guard → Side → Type 0
Any guard side = ⊤

-- the entries are those of the block from this place on
StandFrom : Entries → ℕ → Entries → Type 0
StandFrom block place entries = (k : ℕ) (what : Direct) → slice_get (direct entries) k ≡ Some what → slice_get (direct block) (place + k) ≡ Some what

unfold_from : (block entries : Entries) (place k : ℕ) (what : Direct) → StandFrom block place entries → slice_get (direct entries) k ≡ Some what → slice_get (direct block) (place + k) ≡ Some what
unfolding StandFrom
unfold_from block entries place k what from at = from k what at

from_start : (block : Entries) → StandFrom block 0 block
unfolding StandFrom
from_start block = λ k what at. subst (λ n. slice_get (direct block) n ≡ Some what) (let e : k ≡ 0 + k = omega arith in e) at

from_next : (block entries : Entries) (first : Direct) (more : Entries) (place : ℕ) → direct entries ≡ first ∷ direct more → StandFrom block place entries → StandFrom block (place + 1) more
unfolding StandFrom
from_next block entries first more place are from = λ k what at.
    let here : slice_get (direct entries) (suc k) ≡ Some what = subst (λ list. slice_get list (suc k) ≡ Some what) (sym are) at in
    subst (λ n. slice_get (direct block) n ≡ Some what) (let e : place + suc k ≡ place + 1 + k = omega arith in e) (from (suc k) what here)

here_from : (block entries : Entries) (first : Direct) (more : Entries) (place : ℕ) → direct entries ≡ first ∷ direct more → StandFrom block place entries
    → slice_get (direct block) place ≡ Some first
here_from block entries first more place are from =
    let at : slice_get (direct entries) 0 ≡ Some first = subst (λ list. slice_get list 0 ≡ Some first) (sym are) refl in
    subst (λ n. slice_get (direct block) n ≡ Some first) (let e : place + 0 ≡ place = omega arith in e) (unfold_from block entries place 0 first from at)

-- an item that is placed stands there
record Stands (block : Entries) (path : List Turn) (placed : PlacedItem) : Type 0 where
  more : List Turn
  path_is : placed.path ≡ path ++ more
  inner : Entries
  way : Follows Any block more inner
  stands : slice_get (direct inner) placed.place ≡ Some (OfItem placed.item)

turn_in : (block inner : Entries) (path : List Turn) (place : ℕ) (side : Side) (guard : Guard) (then otherwise : Entries) (placed : PlacedItem)
    → slice_get (direct block) place ≡ Some (OfBranch guard then otherwise) → inner ≡ chosen side then otherwise → Stands inner (turned path place side) placed → Stands block path placed
turn_in block inner path place side guard then otherwise placed at same s = record {
  more = record { entry = place; side = side } ∷ s.more;
  path_is = s.path_is ∙ append_assoc path (record { entry = place; side = side } ∷ []) s.more;
  inner = s.inner;
  way = (guard, (then, otherwise, (at, (tt, subst (λ (e : Entries). Follows Any e s.more s.inner) same s.way))));
  stands = s.stands;
}

all_stand : (block entries : Entries) (path : List Turn) (place : ℕ) → StandFrom block place entries → (placed : PlacedItem) → Contains (items_from path place entries) placed
    → Stands block path placed
all_stand block NoEntry path place from placed there = absurd (contains_none placed there)
all_stand block (WithSlot slot more) path place from placed there = all_stand block more path (place + 1) (from_next block (WithSlot slot more) (OfSlot slot) more place refl from) placed there
all_stand block (WithLocal local more) path place from placed there = all_stand block more path (place + 1) (from_next block (WithLocal local more) (OfLocal local) more place refl from) placed there
all_stand block (WithItem item more) path place from placed there =
    cases (contains_cases (record { path = path; place = place; item = item }) placed (items_from path (place + 1) more) there)
    (λ later. all_stand block more path (place + 1) (from_next block (WithItem item more) (OfItem item) more place refl from) placed later)
  where
    cases : (record { path = path; place = place; item = item } ≡ placed) ⊎ Contains (items_from path (place + 1) more) placed
        → (Contains (items_from path (place + 1) more) placed → Stands block path placed) → Stands block path placed
    cases (inr later) rest = rest later
    cases (inl same) rest = subst (λ p. Stands block path p) same (record {
      more = [];
      path_is = sym (append-nil path);
      inner = block;
      way = refl;
      stands = here_from block (WithItem item more) (OfItem item) more place refl from;
    })
all_stand block (WithBranch guard then otherwise more) path place from placed there =
    let at = here_from block (WithBranch guard then otherwise more) (OfBranch guard then otherwise) more place refl from in
    cases (Contains-append_cases (items_from (turned path place Then) 0 then) (items_from (turned path place Otherwise) 0 otherwise ++ items_from path (place + 1) more) placed there)
    (λ inside. turn_in block then path place Then guard then otherwise placed at refl (all_stand then then (turned path place Then) 0 (from_start then) placed inside))
    (λ inside. turn_in block otherwise path place Otherwise guard then otherwise placed at refl (all_stand otherwise otherwise (turned path place Otherwise) 0 (from_start otherwise) placed inside))
    (λ later. all_stand block more path (place + 1) (from_next block (WithBranch guard then otherwise more) (OfBranch guard then otherwise) more place refl from) placed later)
  where
    cases : Contains (items_from (turned path place Then) 0 then) placed
        ⊎ Contains (items_from (turned path place Otherwise) 0 otherwise ++ items_from path (place + 1) more) placed
        → (Contains (items_from (turned path place Then) 0 then) placed → Stands block path placed)
        → (Contains (items_from (turned path place Otherwise) 0 otherwise) placed → Stands block path placed)
        → (Contains (items_from path (place + 1) more) placed → Stands block path placed) → Stands block path placed
    cases (inl inside) a b c = a inside
    cases (inr rest) a b c = elim (Contains-append_cases (items_from (turned path place Otherwise) 0 otherwise) (items_from path (place + 1) more) placed rest) [
      | inl inside ↦ b inside
      | inr later ↦ c later
    ]

-- an item of this number stands in the block to which its way leads
pub item_stands : (P : Guard → Side → Type 0) (rule : Rule) (number : ℕ) (placed : PlacedItem) (entries : Entries) → IsItemOf rule number placed
    → Follows P rule.top placed.path entries → slice_get (direct entries) placed.place ≡ Some (OfItem placed.item)
item_stands P rule number placed entries is way =
    let s = all_stand rule.top rule.top [] 0 (from_start rule.top) placed (contains_from_get (items_from [] 0 rule.top) number placed is) in
    let there : Follows Any rule.top placed.path s.inner = subst (λ p. Follows Any rule.top p s.inner) (sym s.path_is) s.way in
    let same = follows_once Any P rule.top placed.path s.inner entries there way in
    subst (λ (e : Entries). slice_get (direct e) placed.place ≡ Some (OfItem placed.item)) same s.stands
