-- The entry at the turn is the branch.
use Rattle.std.proofs.Common.{◌≡◌, ℕ, ◌+◌, ◌<◌, ◌≤◌, List, length, take, Some, sym, ap, subst, ◌∙◌, length-take, arith}
use Rattle.std.specs.Prelude.{slice_get}
use Rattle.std.proofs.lemmas.Option.{slice_get_within}
use Rattle.model_core.specs.declared.rule.Entry.{Entry}
use Rattle.model_core.specs.declared.rule.Entry.TheVariants.{Branch}
use Rattle.model_core.specs.declared.rule.Guard.{Guard}
use Rattle.model_core.specs.declared.rule.Side.TheVariants.{Then, Otherwise}
use Rattle.model_core.specs.Block.{plain_entries}
use Rattle.model_core.specs.Blocks.{OfBranch, direct, chosen}
use Rattle.model_core.specs.Entries.{Entries}
use Rattle.model_core.specs.Lawful.{item_count}
use Rattle.model_core.specs.Numbers.{items_from, turned}
use Rattle.rule_engine.specs.Places.{StandFrom}
use Rattle.rule_engine.proofs.Turning.{branch_entry, same_branch, count_before, stand_then, stand_otherwise}
use Rattle.rule_engine.proofs.block.turn_into.Goals as goal

-- what the block says of the entry at a place, the list of its entries says
entry_there : (block : Entries) (items entries : List Entry) (turn k : ℕ) (guard : Guard) (then otherwise : Entries) → plain_entries items ≡ block → entries ≡ items → k ≡ turn
    → slice_get (direct block) turn ≡ Some (OfBranch guard then otherwise) → slice_get entries k ≡ Some (Branch guard then otherwise)
entry_there block items entries turn k guard then otherwise view are same at =
    branch_entry entries k guard then otherwise
    (subst (λ n. slice_get (direct (plain_entries entries)) n ≡ Some (OfBranch guard then otherwise)) (sym same)
    (subst (λ b. slice_get (direct b) turn ≡ Some (OfBranch guard then otherwise)) (sym (ap plain_entries are ∙ view)) at))

-- and how many items there are before and in it
entry_few : (block : Entries) (items entries : List Entry) (k : ℕ) (guard : Guard) (then otherwise : Entries) → plain_entries items ≡ block → entries ≡ items
    → slice_get entries k ≡ Some (Branch guard then otherwise) → item_count (plain_entries (take k entries)) + (item_count then + item_count otherwise) ≤ item_count block
entry_few block items entries k guard then otherwise view are at =
    subst (λ b. item_count (plain_entries (take k entries)) + (item_count then + item_count otherwise) ≤ item_count b) (ap plain_entries are ∙ view)
    (count_before entries k guard then otherwise at)

bounded : (k : ℕ) (entries : List Entry) → k < length entries → k ≡ length (take k entries)
bounded k entries within = omega (arith, length-take k entries)

pub sides_at-sides-requires : goal.sides_at-sides-requires
sides_at-sides-requires c =
    let r = c.requires.branch in
    (r.0, (r.1.0, r.1.1, entry_there c.args.block.now c.block.inside.entries.items c.as_slice-entries.result.now c.args.turn.entry c.from-entry.result r.0 r.1.0 r.1.1 c.block.view_is c.as_slice-entries.ensures.value c.from-entry.ensures r.1.2))

pub slice_bounds-count_items-end : goal.slice_bounds-count_items-end
slice_bounds-count_items-end c =
    bounded c.from-entry.result c.as_slice-entries.result.now (slice_get_within c.as_slice-entries.result.now c.from-entry.result (Branch c.sides_at-sides.ensures.0 c.sides_at-sides.result.then.now c.sides_at-sides.result.otherwise.now) c.sides_at-sides.ensures.1)

pub count_items-requires : goal.count_items-requires
count_items-requires c =
    omega (arith, c.requires.few, entry_few c.args.block.now c.block.inside.entries.items c.as_slice-entries.result.now c.from-entry.result c.sides_at-sides.ensures.0 c.sides_at-sides.result.then.now c.sides_at-sides.result.otherwise.now c.block.view_is c.as_slice-entries.ensures.value c.sides_at-sides.ensures.1)

pub overflow_add-first : goal.overflow_add-first
overflow_add-first c =
    omega (arith, c.requires.few, c.count_items.ensures, entry_few c.args.block.now c.block.inside.entries.items c.as_slice-entries.result.now c.from-entry.result c.sides_at-sides.ensures.0 c.sides_at-sides.result.then.now c.sides_at-sides.result.otherwise.now c.block.view_is c.as_slice-entries.ensures.value c.sides_at-sides.ensures.1)

pub count_items-requires-in-Otherwise : goal.count_items-requires-in-Otherwise
count_items-requires-in-Otherwise c =
    omega (
      arith,
      c.requires.few,
      ap item_count (ap plain_entries c.as_slice.ensures.value ∙ c.then.view_is),
      entry_few c.args.block.now c.block.inside.entries.items c.as_slice-entries.result.now c.from-entry.result c.sides_at-sides.ensures.0 c.sides_at-sides.result.then.now c.sides_at-sides.result.otherwise.now c.block.view_is c.as_slice-entries.ensures.value c.sides_at-sides.ensures.1,
    )

pub overflow_add-result : goal.overflow_add-result
overflow_add-result c =
    omega (
      arith,
      c.requires.few,
      c.count_items.ensures,
      c.count_items-in-Otherwise.ensures,
      ap item_count (ap plain_entries c.as_slice.ensures.value ∙ c.then.view_is),
      entry_few c.args.block.now c.block.inside.entries.items c.as_slice-entries.result.now c.from-entry.result c.sides_at-sides.ensures.0 c.sides_at-sides.result.then.now c.sides_at-sides.result.otherwise.now c.block.view_is c.as_slice-entries.ensures.value c.sides_at-sides.ensures.1,
    )

pub returns-in-Then-clause-block : goal.returns-in-Then-clause-block
returns-in-Then-clause-block c = λ guard then otherwise stands.
    let other = entry_there c.args.block.now c.block.inside.entries.items c.as_slice-entries.result.now c.args.turn.entry c.from-entry.result guard then otherwise c.block.view_is c.as_slice-entries.ensures.value c.from-entry.ensures stands in
    subst (λ side. c.sides_at-sides.result.then.now ≡ chosen side then otherwise) (sym c.in-Then.is)
    (same_branch c.sides_at-sides.ensures.0 guard c.sides_at-sides.result.then.now then c.sides_at-sides.result.otherwise.now otherwise (slice_get c.as_slice-entries.result.now c.from-entry.result) c.sides_at-sides.ensures.1 other).0

pub returns-in-Then-clause-first : goal.returns-in-Then-clause-first
returns-in-Then-clause-first c = λ items path stands.
    let before = item_count (plain_entries (take c.from-entry.result c.as_slice-entries.result.now)) in
    let here = subst (λ b. StandFrom items c.args.first (items_from path 0 b)) (sym (ap plain_entries c.as_slice-entries.ensures.value ∙ c.block.view_is)) stands in
    subst (λ n. StandFrom items (c.args.first + n) (items_from (turned path c.args.turn.entry c.args.turn.side) 0 c.sides_at-sides.result.then.now)) (sym c.count_items.ensures)
    (subst (λ side. StandFrom items (c.args.first + before) (items_from (turned path c.args.turn.entry side) 0 c.sides_at-sides.result.then.now)) (sym c.in-Then.is)
    (subst (λ k. StandFrom items (c.args.first + before) (items_from (turned path k Then) 0 c.sides_at-sides.result.then.now)) c.from-entry.ensures
    (stand_then items path c.args.first c.from-entry.result c.as_slice-entries.result.now c.sides_at-sides.ensures.0 c.sides_at-sides.result.then.now c.sides_at-sides.result.otherwise.now c.sides_at-sides.ensures.1 here)))

pub returns-in-Otherwise-clause-block : goal.returns-in-Otherwise-clause-block
returns-in-Otherwise-clause-block c = λ guard then otherwise stands.
    let other = entry_there c.args.block.now c.block.inside.entries.items c.as_slice-entries.result.now c.args.turn.entry c.from-entry.result guard then otherwise c.block.view_is c.as_slice-entries.ensures.value c.from-entry.ensures stands in
    subst (λ side. c.sides_at-sides.result.otherwise.now ≡ chosen side then otherwise) (sym c.in-Otherwise.is)
    (same_branch c.sides_at-sides.ensures.0 guard c.sides_at-sides.result.then.now then c.sides_at-sides.result.otherwise.now otherwise (slice_get c.as_slice-entries.result.now c.from-entry.result) c.sides_at-sides.ensures.1 other).1

pub returns-in-Otherwise-clause-first : goal.returns-in-Otherwise-clause-first
returns-in-Otherwise-clause-first c = λ items path stands.
    let before = item_count (plain_entries (take c.from-entry.result c.as_slice-entries.result.now)) in
    let here = subst (λ b. StandFrom items c.args.first (items_from path 0 b)) (sym (ap plain_entries c.as_slice-entries.ensures.value ∙ c.block.view_is)) stands in
    let inside : c.count_items-in-Otherwise.result ≡ item_count c.sides_at-sides.result.then.now = c.count_items-in-Otherwise.ensures ∙ ap item_count (ap plain_entries c.as_slice.ensures.value ∙ c.then.view_is) in
    subst (λ n. StandFrom items ((c.args.first + c.count_items.result) + n) (items_from (turned path c.args.turn.entry c.args.turn.side) 0 c.sides_at-sides.result.otherwise.now)) (sym inside)
    (subst (λ n. StandFrom items ((c.args.first + n) + item_count c.sides_at-sides.result.then.now) (items_from (turned path c.args.turn.entry c.args.turn.side) 0 c.sides_at-sides.result.otherwise.now)) (sym c.count_items.ensures)
    (subst (λ side. StandFrom items ((c.args.first + before) + item_count c.sides_at-sides.result.then.now) (items_from (turned path c.args.turn.entry side) 0 c.sides_at-sides.result.otherwise.now)) (sym c.in-Otherwise.is)
    (subst (λ k. StandFrom items ((c.args.first + before) + item_count c.sides_at-sides.result.then.now) (items_from (turned path k Otherwise) 0 c.sides_at-sides.result.otherwise.now)) c.from-entry.ensures
    (stand_otherwise items path c.args.first c.from-entry.result c.as_slice-entries.result.now c.sides_at-sides.ensures.0 c.sides_at-sides.result.then.now c.sides_at-sides.result.otherwise.now c.sides_at-sides.ensures.1 here))))
