-- No block has more entries than the rule has slots, locals, items and guards.
use Rattle.std.proofs.Common.{◌≡◌, ℕ, zero, suc, ◌+◌, ◌<◌, ◌≤◌, ◌^◌, List, [], ◌∷◌, ◌++◌, length, sym, subst, arith}
use Rattle.std.specs.Prelude.{Some, slice_get}
use Rattle.std.proofs.lemmas.List.{length-append}
use Rattle.std.proofs.lemmas.List.Elements.{All-weaker}
use Rattle.model_core.specs.declared.class.Object.{Object}
use Rattle.model_core.specs.declared.rule.Guard.{Guard}
use Rattle.model_core.specs.declared.rule.Side.{Side}
use Rattle.model_core.specs.declared.rule.Side.TheVariants.{Then, Otherwise}
use Rattle.model_core.specs.declared.rule.Turn.{Turn}
use Rattle.model_core.specs.Blocks.{OfBranch, chosen, direct}
use Rattle.model_core.specs.Entries.{Entries, NoEntry, WithSlot, WithLocal, WithItem, WithBranch}
use Rattle.model_core.specs.Lawful.{guard_count, item_count}
use Rattle.model_core.specs.Standing.{LeadsToBlock}
use Rattle.model_core.proofs.Items.{item_within}
use Rattle.nddl_terms.specs.PlainTree.{PlainTree}
use Rattle.nddl_terms.specs.declared.lexicon.Lexicon.{Lexicon}
use Rattle.nddl_unroll.specs.Rules.{tree_rule}
use Rattle.model_rules.specs.declared.numbers.Sort.TheVariants.{Slots, Locals}
use Rattle.model_rules.specs.Numbered.{numbers_of}
use Rattle.nddl_lowering_laws.specs.Few.{BlocksAreSmall, HasSmallBlocks}
use Rattle.nddl_lowering_laws.proofs.Limits.{IsSmallRule, rules_small}
use Rattle.nddl_lowering_laws.proofs.Numbering.{locals_listed, slots_listed}

-- how many entries stand in the blocks
abbrev pub entry_count : Entries → ℕ
entry_count NoEntry = 0
entry_count (WithSlot slot more) = entry_count more + 1
entry_count (WithLocal local more) = entry_count more + 1
entry_count (WithItem item more) = entry_count more + 1
entry_count (WithBranch guard first second more) = entry_count first + (entry_count second + entry_count more) + 1

few_direct : (top : Entries) → length (direct top) ≤ entry_count top
few_direct NoEntry = omega arith
few_direct (WithSlot slot more) = let rest = few_direct more in omega (arith, rest)
few_direct (WithLocal local more) = let rest = few_direct more in omega (arith, rest)
few_direct (WithItem item more) = let rest = few_direct more in omega (arith, rest)
few_direct (WithBranch guard first second more) = let rest = few_direct more in omega (arith, rest)

-- each is a slot, a local, an item or a guard
entries_counted : (top : Entries)
    → entry_count top ≡ length (numbers_of Slots top) + length (numbers_of Locals top) + item_count top + guard_count top
entries_counted NoEntry = omega arith
entries_counted (WithSlot slot more) = let rest = entries_counted more in omega (arith, rest)
entries_counted (WithLocal local more) = let rest = entries_counted more in omega (arith, rest)
entries_counted (WithItem item more) = let rest = entries_counted more in omega (arith, rest)
entries_counted (WithBranch guard first second more) =
    let one = entries_counted first in
    let two = entries_counted second in
    let rest = entries_counted more in
    let slots = length-append (numbers_of Slots first) (numbers_of Slots second ++ numbers_of Slots more) in
    let slots_behind = length-append (numbers_of Slots second) (numbers_of Slots more) in
    let locals = length-append (numbers_of Locals first) (numbers_of Locals second ++ numbers_of Locals more) in
    let locals_behind = length-append (numbers_of Locals second) (numbers_of Locals more) in
    omega (arith, one, two, rest, slots, slots_behind, locals, locals_behind)

-- the blocks of a branch have no more
record HasFewer (top first second : Entries) : Type 0 where
  first_few : entry_count first ≤ entry_count top
  second_few : entry_count second ≤ entry_count top

fewer_more : (top more first second : Entries) → entry_count more ≤ entry_count top → HasFewer more first second → HasFewer top first second
fewer_more top more first second less few =
    record { first_few = omega (arith, less, few.first_few); second_few = omega (arith, less, few.second_few) }

branch_fewer : (top : Entries) (place : ℕ) (guard : Guard) (first second : Entries)
    → slice_get (direct top) place ≡ Some (OfBranch guard first second) → HasFewer top first second
branch_fewer NoEntry place guard first second at = absurd (cc)
branch_fewer (WithSlot slot more) zero guard first second at = absurd (cc)
branch_fewer (WithSlot slot more) (suc place) guard first second at =
    fewer_more (WithSlot slot more) more first second (omega arith) (branch_fewer more place guard first second at)
branch_fewer (WithLocal local more) zero guard first second at = absurd (cc)
branch_fewer (WithLocal local more) (suc place) guard first second at =
    fewer_more (WithLocal local more) more first second (omega arith) (branch_fewer more place guard first second at)
branch_fewer (WithItem item more) zero guard first second at = absurd (cc)
branch_fewer (WithItem item more) (suc place) guard first second at =
    fewer_more (WithItem item more) more first second (omega arith) (branch_fewer more place guard first second at)
branch_fewer (WithBranch other one two more) zero guard first second at =
    let same : one ≡ first = cc in
    let like : two ≡ second = cc in
    record {
      first_few = subst (λ (b : Entries). entry_count b ≤ entry_count (WithBranch other one two more)) same (omega arith);
      second_few = subst (λ (b : Entries). entry_count b ≤ entry_count (WithBranch other one two more)) like (omega arith);
    }
branch_fewer (WithBranch other one two more) (suc place) guard first second at =
    fewer_more (WithBranch other one two more) more first second (omega arith) (branch_fewer more place guard first second at)

side_fewer : (top : Entries) (side : Side) (first second : Entries) → HasFewer top first second → entry_count (chosen side first second) ≤ entry_count top
side_fewer top Then first second few = few.first_few
side_fewer top Otherwise first second few = few.second_few

ways_fewer : (top : Entries) (path : List Turn) (block : Entries) → LeadsToBlock top path block → length (direct block) ≤ entry_count top
ways_fewer top [] block way = subst (λ (b : Entries). length (direct b) ≤ entry_count top) (sym way) (few_direct top)
ways_fewer top (turn ∷ path) block way =
    let few = side_fewer top turn.side way.1.0 way.1.1 (branch_fewer top turn.entry way.0 way.1.0 way.1.1 way.1.2.0) in
    let rest = ways_fewer (chosen turn.side way.1.0 way.1.1) path block way.1.2.1.1 in
    omega (arith, few, rest)

-- ---- rules

pub entries_few : (lexicon : Lexicon) (objects : List Object) (tree : PlainTree) → IsSmallRule (tree_rule lexicon objects tree)
    → (path : List Turn) (block : Entries) → LeadsToBlock (tree_rule lexicon objects tree).top path block → length (direct block) < 2 ^ 16
entries_few lexicon objects tree small path block way =
    let rule = tree_rule lexicon objects tree in
    let few = ways_fewer rule.top path block way in
    let counted = entries_counted rule.top in
    omega (arith, few, counted, slots_listed lexicon objects tree, locals_listed lexicon objects tree, small.slots, small.locals, small.items, small.guards)

tree_small : (lexicon : Lexicon) (objects : List Object) (tree : PlainTree) → IsSmallRule (tree_rule lexicon objects tree)
    → HasSmallBlocks (tree_rule lexicon objects tree).top
tree_small lexicon objects tree small path place what stands =
    let few = entries_few lexicon objects tree small path stands.block stands.way in
    let inside = item_within (direct stands.block) place what stands.stands in
    omega (arith, few, inside)

pub blocks_small : BlocksAreSmall
blocks_small lexicon objects trees none =
    All-weaker (λ (tree : PlainTree). IsSmallRule (tree_rule lexicon objects tree)) (λ (tree : PlainTree). HasSmallBlocks (tree_rule lexicon objects tree).top)
    (tree_small lexicon objects) trees (rules_small lexicon objects trees none)
