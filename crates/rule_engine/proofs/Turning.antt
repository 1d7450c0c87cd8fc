-- The entry of a block that is a branch, and the items of its two blocks.
use Rattle.std.proofs.Common.{◌≡◌, ℕ, zero, suc, ◌+◌, ◌<◌, ◌≤◌, List, [], ◌∷◌, ◌++◌, length, get_or, drop, take, Option, Some, refl, sym, ap, subst, ◌∙◌, length-append, arith}
use Rattle.std.specs.Prelude.{slice_get}
use Rattle.std.proofs.lemmas.List.{append-nil}
use Rattle.std.proofs.lemmas.Option.{slice_get-get_or}
use Rattle.model_core.specs.declared.rule.Entry.{Entry}
use Rattle.model_core.specs.declared.rule.Entry.TheVariants.{Slot, Local, Item, Branch}
use Rattle.model_core.specs.declared.rule.Guard.{Guard}
use Rattle.model_core.specs.declared.rule.Side.TheVariants.{Then, Otherwise}
use Rattle.model_core.specs.declared.rule.Turn.{Turn}
use Rattle.model_core.specs.Block.{plain_entries}
use Rattle.model_core.specs.Blocks.{OfBranch}
use Rattle.model_core.specs.Entries.{Entries}
use Rattle.model_core.specs.Lawful.{item_count}
use Rattle.model_core.specs.Numbers.{PlacedItem, items_from, turned, items_inside}
use Rattle.rule_engine.specs.Places.{StandFrom}
use Rattle.rule_engine.proofs.Listing.{standing}
use Rattle.rule_engine.proofs.Counting.{all_numbered, behind, ahead, count_first, stand_next}

-- where a branch stands in the block, it is the entry there
pub branch_entry : (entries : List Entry) (k : ℕ) (guard : Guard) (then otherwise : Entries) → slice_get (standing entries) k ≡ Some (OfBranch guard then otherwise)
    → slice_get entries k ≡ Some (Branch guard then otherwise)
branch_entry [] k guard then otherwise at = absurd (cc)
branch_entry (Slot slot ∷ more) zero guard then otherwise at = absurd (cc)
branch_entry (Slot slot ∷ more) (suc k) guard then otherwise at = branch_entry more k guard then otherwise at
branch_entry (Local local ∷ more) zero guard then otherwise at = absurd (cc)
branch_entry (Local local ∷ more) (suc k) guard then otherwise at = branch_entry more k guard then otherwise at
branch_entry (Item item ∷ more) zero guard then otherwise at = absurd (cc)
branch_entry (Item item ∷ more) (suc k) guard then otherwise at = branch_entry more k guard then otherwise at
branch_entry (Branch guard' then' otherwise' ∷ more) zero guard then otherwise at =
    let g : guard' ≡ guard = cc in
    let t : then' ≡ then = cc in
    let o : otherwise' ≡ otherwise = cc in
    (λ i. Some (Branch (g i) (t i) (o i)))
branch_entry (Branch guard' then' otherwise' ∷ more) (suc k) guard then otherwise at = branch_entry more k guard then otherwise at

-- the entry that was read there
pub read_entry : (entries : List Entry) (k : ℕ) (entry : Entry) (guard : Guard) (then otherwise : Entries) → k < length entries → entry ≡ get_or entries k entry
    → entry ≡ Branch guard then otherwise → slice_get entries k ≡ Some (Branch guard then otherwise)
read_entry entries k entry guard then otherwise within is sort = slice_get-get_or entries k entry within ∙ (ap (λ e. Some e) (sym is) ∙ ap (λ e. Some e) sort)

pub same_branch : (guard guard' : Guard) (then then' otherwise otherwise' : Entries) (found : Option Entry) → found ≡ Some (Branch guard then otherwise) → found ≡ Some (Branch guard' then' otherwise')
    → (then ≡ then') × (otherwise ≡ otherwise')
same_branch guard guard' then then' otherwise otherwise' found p q = (cc, cc)

-- the items before a branch and those in it are among all
pub count_before : (entries : List Entry) (k : ℕ) (guard : Guard) (then otherwise : Entries) → slice_get entries k ≡ Some (Branch guard then otherwise)
    → item_count (plain_entries (take k entries)) + (item_count then + item_count otherwise) ≤ item_count (plain_entries entries)
count_before [] k guard then otherwise at = absurd (cc)
count_before (entry ∷ more) zero guard then otherwise at =
    let e : entry ≡ Branch guard then otherwise = cc in
    let inside : items_inside entry ≡ item_count then + item_count otherwise = ap items_inside e in
    omega (arith, count_first entry more, inside)
count_before (entry ∷ more) (suc k) guard then otherwise at =
    omega (arith, count_first entry more, count_first entry (take k more), count_before more k guard then otherwise at)

-- the items of the blocks of a branch come behind those before it
pub stand_branch : (items : List PlacedItem) (path : List Turn) (place at n : ℕ) (entries : List Entry) (k : ℕ) (guard : Guard) (then otherwise : Entries)
    → slice_get entries k ≡ Some (Branch guard then otherwise) → at ≡ place + k → StandFrom items n (items_from path place (plain_entries entries))
    → StandFrom items (n + item_count (plain_entries (take k entries)))
    (items_from (turned path at Then) 0 then ++ (items_from (turned path at Otherwise) 0 otherwise ++ items_from path (at + 1) (plain_entries (drop (suc k) entries))))
stand_branch items path place at n [] k guard then otherwise found is stands = absurd (cc)
stand_branch items path place at n (entry ∷ more) zero guard then otherwise found is stands =
    let e : entry ≡ Branch guard then otherwise = cc in
    let same : place ≡ at = omega arith in
    let none : n ≡ n + 0 = omega arith in
    subst (λ m. StandFrom items m (items_from (turned path at Then) 0 then ++ (items_from (turned path at Otherwise) 0 otherwise ++ items_from path (at + 1) (plain_entries more)))) none
    (subst (λ p. StandFrom items n (items_from (turned path p Then) 0 then ++ (items_from (turned path p Otherwise) 0 otherwise ++ items_from path (p + 1) (plain_entries more)))) same
    (subst (λ x. StandFrom items n (items_from path place (plain_entries (x ∷ more)))) e stands))
stand_branch items path place at n (entry ∷ more) (suc k) guard then otherwise found is stands =
    let there : at ≡ (place + 1) + k = omega arith in
    let count : (n + items_inside entry) + item_count (plain_entries (take k more)) ≡ n + item_count (plain_entries (entry ∷ take k more)) =
    omega (arith, count_first entry (take k more)) in
    subst (λ m. StandFrom items m (items_from (turned path at Then) 0 then ++ (items_from (turned path at Otherwise) 0 otherwise ++ items_from path (at + 1) (plain_entries (drop (suc k) more))))) count
    (stand_branch items path (place + 1) at (n + items_inside entry) more k guard then otherwise found there (stand_next items path place n entry more stands))

pub stand_then : (items : List PlacedItem) (path : List Turn) (n k : ℕ) (entries : List Entry) (guard : Guard) (then otherwise : Entries)
    → slice_get entries k ≡ Some (Branch guard then otherwise) → StandFrom items n (items_from path 0 (plain_entries entries))
    → StandFrom items (n + item_count (plain_entries (take k entries))) (items_from (turned path k Then) 0 then)
stand_then items path n k entries guard then otherwise found stands =
    ahead items (n + item_count (plain_entries (take k entries))) (items_from (turned path k Then) 0 then)
    (items_from (turned path k Otherwise) 0 otherwise ++ items_from path (k + 1) (plain_entries (drop (suc k) entries)))
    (stand_branch items path 0 k n entries k guard then otherwise found (omega arith) stands)

pub stand_otherwise : (items : List PlacedItem) (path : List Turn) (n k : ℕ) (entries : List Entry) (guard : Guard) (then otherwise : Entries)
    → slice_get entries k ≡ Some (Branch guard then otherwise) → StandFrom items n (items_from path 0 (plain_entries entries))
    → StandFrom items ((n + item_count (plain_entries (take k entries))) + item_count then) (items_from (turned path k Otherwise) 0 otherwise)
stand_otherwise items path n k entries guard then otherwise found stands =
    let first = items_from (turned path k Then) 0 then in
    let second = items_from (turned path k Otherwise) 0 otherwise in
    let rest = items_from path (k + 1) (plain_entries (drop (suc k) entries)) in
    ahead items ((n + item_count (plain_entries (take k entries))) + item_count then) second rest
    (behind items (n + item_count (plain_entries (take k entries))) (item_count then) first (second ++ rest) (all_numbered (turned path k Then) 0 then)
    (stand_branch items path 0 k n entries k guard then otherwise found (omega arith) stands))

-- a block that stands among the items of another has no more of them
pub few_inside : (top : Entries) (first : ℕ) (path : List Turn) (block : Entries) → StandFrom (items_from [] 0 top) first (items_from path 0 block)
    → first + item_count block ≤ item_count top
few_inside top first path block stands =
    omega (
      arith,
      all_numbered [] 0 top,
      all_numbered path 0 block,
      ap length stands.are,
      stands.count,
      length-append stands.before (items_from path 0 block ++ stands.after),
      length-append (items_from path 0 block) stands.after,
    )

pub stand_all : (items : List PlacedItem) → StandFrom items 0 items
stand_all items = record {
  before = [];
  after = [];
  are = sym (append-nil items);
  count = refl;
}
