-- Each item that stands in a rule has a number.
use Rattle.std.proofs.Common.{◌≡◌, ℕ, suc, zero, ◌+◌, List, [], ◌∷◌, ◌++◌, length, Some, refl, sym, subst, arith}
use Rattle.std.specs.Prelude.{Contains, slice_get}
use Rattle.std.proofs.lemmas.List.{append-nil, append_assoc}
use Rattle.std.proofs.lemmas.List.Elements.{Contains-append_left, Contains-append_right}
use Rattle.std.proofs.lemmas.Option.{slice_get_read}
use Rattle.model_core.specs.declared.item.Item.{Item}
use Rattle.model_core.specs.declared.rule.Guard.{Guard}
use Rattle.model_core.specs.declared.rule.Rule.{Rule}
use Rattle.model_core.specs.declared.rule.Side.{Side}
use Rattle.model_core.specs.declared.rule.Side.TheVariants.{Then, Otherwise}
use Rattle.model_core.specs.declared.rule.Turn.{Turn}
use Rattle.model_core.specs.Blocks.{OfItem, OfBranch, direct, chosen}
use Rattle.model_core.specs.Entries.{Entries, NoEntry, WithSlot, WithLocal, WithItem, WithBranch}
use Rattle.model_core.specs.Numbers.{PlacedItem, turned, items_from, rule_items, IsItemOf}
use Rattle.model_core.specs.Standing.{LeadsToBlock, StandsAt}

here : {X : Type 0} (x : X) (xs : List X) → Contains (x ∷ xs) x
here x xs = (0, omega arith, refl)

behind : {X : Type 0} (y x : X) (xs : List X) → Contains xs x → Contains (y ∷ xs) x
behind y x xs c = (suc c.0, omega (arith, c.1), c.2)

-- what is numbered from the next place on, told of this one
shifted : (path : List Turn) (place k : ℕ) (item : Item) (items : List PlacedItem)
    → Contains items (record { path = path; place = (place + 1) + k; item = item }) → Contains items (record { path = path; place = place + suc k; item = item })
shifted path place k item items c =
    let same : (place + 1) + k ≡ place + suc k = omega arith in
    subst (λ n. Contains items (record { path = path; place = n; item = item })) same c

-- an item that stands directly in the block is numbered
directly : (path : List Turn) (place : ℕ) (entries : Entries) (k : ℕ) (item : Item) → slice_get (direct entries) k ≡ Some (OfItem item)
    → Contains (items_from path place entries) (record { path = path; place = place + k; item = item })
directly path place NoEntry k item at = absurd (cc)
directly path place (WithSlot slot more) zero item at = absurd (cc)
directly path place (WithSlot slot more) (suc k) item at =
    shifted path place k item (items_from path (place + 1) more) (directly path (place + 1) more k item at)
directly path place (WithLocal local more) zero item at = absurd (cc)
directly path place (WithLocal local more) (suc k) item at =
    shifted path place k item (items_from path (place + 1) more) (directly path (place + 1) more k item at)
directly path place (WithItem first more) zero item at =
    let same : first ≡ item = cc in
    let none : place ≡ place + 0 = omega arith in
    subst (λ n. Contains (items_from path place (WithItem first more)) (record { path = path; place = n; item = item })) none
    (subst (λ i. Contains (items_from path place (WithItem first more)) (record { path = path; place = place; item = i })) same
    (here (record { path = path; place = place; item = first }) (items_from path (place + 1) more)))
directly path place (WithItem first more) (suc k) item at =
    behind (record { path = path; place = place; item = first }) (record { path = path; place = place + suc k; item = item }) (items_from path (place + 1) more)
    (shifted path place k item (items_from path (place + 1) more) (directly path (place + 1) more k item at))
directly path place (WithBranch guard then otherwise more) zero item at = absurd (cc)
directly path place (WithBranch guard then otherwise more) (suc k) item at =
    let first = items_from (turned path place Then) 0 then in
    let second = items_from (turned path place Otherwise) 0 otherwise in
    let rest = items_from path (place + 1) more in
    let placed : PlacedItem = record { path = path; place = place + suc k; item = item } in
    Contains-append_right first (second ++ rest) placed
    (Contains-append_right second rest placed (shifted path place k item rest (directly path (place + 1) more k item at)))

-- the same of the blocks of a branch
moved : (path : List Turn) (place k : ℕ) (then otherwise : Entries) (side : Side) (placed : PlacedItem)
    → Contains (items_from (turned path (place + suc k) side) 0 (chosen side then otherwise)) placed
    → Contains (items_from (turned path ((place + 1) + k) side) 0 (chosen side then otherwise)) placed
moved path place k then otherwise side placed c =
    let same : place + suc k ≡ (place + 1) + k = omega arith in
    subst (λ n. Contains (items_from (turned path n side) 0 (chosen side then otherwise)) placed) same c

-- what is numbered in a block of a branch is numbered in the block in which the branch stands
within : (path : List Turn) (place : ℕ) (entries : Entries) (k : ℕ) (guard : Guard) (then otherwise : Entries) (side : Side) (placed : PlacedItem)
    → slice_get (direct entries) k ≡ Some (OfBranch guard then otherwise) → Contains (items_from (turned path (place + k) side) 0 (chosen side then otherwise)) placed
    → Contains (items_from path place entries) placed
within path place NoEntry k guard then otherwise side placed at c = absurd (cc)
within path place (WithSlot slot more) zero guard then otherwise side placed at c = absurd (cc)
within path place (WithSlot slot more) (suc k) guard then otherwise side placed at c =
    within path (place + 1) more k guard then otherwise side placed at (moved path place k then otherwise side placed c)
within path place (WithLocal local more) zero guard then otherwise side placed at c = absurd (cc)
within path place (WithLocal local more) (suc k) guard then otherwise side placed at c =
    within path (place + 1) more k guard then otherwise side placed at (moved path place k then otherwise side placed c)
within path place (WithItem first more) zero guard then otherwise side placed at c = absurd (cc)
within path place (WithItem first more) (suc k) guard then otherwise side placed at c =
    behind (record { path = path; place = place; item = first }) placed (items_from path (place + 1) more)
    (within path (place + 1) more k guard then otherwise side placed at (moved path place k then otherwise side placed c))
within path place (WithBranch guard' then' otherwise' more) zero guard then otherwise side placed at c =
    let thens : then' ≡ then = cc in
    let otherwises : otherwise' ≡ otherwise = cc in
    let none : place + 0 ≡ place = omega arith in
    at_side path place then' otherwise' more side placed
    (subst (λ n. Contains (items_from (turned path n side) 0 (chosen side then' otherwise')) placed) none
    (subst (λ t. Contains (items_from (turned path (place + 0) side) 0 (chosen side t otherwise')) placed) (sym thens)
    (subst (λ o. Contains (items_from (turned path (place + 0) side) 0 (chosen side then o)) placed) (sym otherwises) c)))
  where
    at_side : (path : List Turn) (place : ℕ) (then otherwise more : Entries) (side : Side) (placed : PlacedItem)
        → Contains (items_from (turned path place side) 0 (chosen side then otherwise)) placed
        → Contains (items_from (turned path place Then) 0 then ++ (items_from (turned path place Otherwise) 0 otherwise ++ items_from path (place + 1) more)) placed
    at_side path place then otherwise more Then placed c =
        Contains-append_left (items_from (turned path place Then) 0 then) (items_from (turned path place Otherwise) 0 otherwise ++ items_from path (place + 1) more) placed c
    at_side path place then otherwise more Otherwise placed c =
        Contains-append_right (items_from (turned path place Then) 0 then) (items_from (turned path place Otherwise) 0 otherwise ++ items_from path (place + 1) more) placed
        (Contains-append_left (items_from (turned path place Otherwise) 0 otherwise) (items_from path (place + 1) more) placed c)
within path place (WithBranch guard' then' otherwise' more) (suc k) guard then otherwise side placed at c =
    let first = items_from (turned path place Then) 0 then' in
    let second = items_from (turned path place Otherwise) 0 otherwise' in
    let rest = items_from path (place + 1) more in
    Contains-append_right first (second ++ rest) placed
    (Contains-append_right second rest placed (within path (place + 1) more k guard then otherwise side placed at (moved path place k then otherwise side placed c)))

-- along a way what is numbered in the block is numbered in the top block
along : (before : List Turn) (top : Entries) (path : List Turn) (block : Entries) (placed : PlacedItem) → LeadsToBlock top path block
    → Contains (items_from (before ++ path) 0 block) placed → Contains (items_from before 0 top) placed
along before top [] block placed way c =
    subst (λ p. Contains (items_from p 0 top) placed) (append-nil before) (subst (λ b. Contains (items_from (before ++ []) 0 b) placed) way c)
along before top (turn ∷ path) block placed way c =
    let assoc : before ++ turn ∷ path ≡ (before ++ turn ∷ []) ++ path = sym (append_assoc before (turn ∷ []) path) in
    let none : turn.entry ≡ 0 + turn.entry = omega arith in
    within before 0 top turn.entry way.0 way.1.0 way.1.1 turn.side placed way.1.2.0
    (subst (λ n. Contains (items_from (turned before n turn.side) 0 (chosen turn.side way.1.0 way.1.1)) placed) none
    (along (turned before turn.entry turn.side) (chosen turn.side way.1.0 way.1.1) path block placed way.1.2.1.1
    (subst (λ p. Contains (items_from p 0 block) placed) assoc c)))

pub items_numbered : (rule : Rule) (path : List Turn) (place : ℕ) (item : Item) → StandsAt rule.top path place (OfItem item)
    → (number : ℕ) × IsItemOf rule number (record { path = path; place = place; item = item })
items_numbered rule path place item stands =
    let placed : PlacedItem = record { path = path; place = place; item = item } in
    let none : 0 + place ≡ place = omega arith in
    let there = subst (λ n. Contains (items_from path 0 stands.block) (record { path = path; place = n; item = item })) none (directly path 0 stands.block place item stands.stands) in
    let c = along [] rule.top path stands.block placed stands.way there in
    (c.0, slice_get_read (rule_items rule) (length (rule_items rule)) c.0 placed refl c.1 (sym c.2))
