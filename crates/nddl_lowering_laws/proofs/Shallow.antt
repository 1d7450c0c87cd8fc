-- Blocks of a rule that is unrolled lie no deeper than those of its text.
use Rattle.std.proofs.Common.{◌≡◌, ℕ, zero, suc, ◌≤◌, List, [], ◌∷◌, ◌++◌, length, map, refl, ◌∙◌, ap, subst, arith}
use Rattle.std.specs.Prelude.{Option, Some, None, slice_get}
use Rattle.model_core.specs.declared.class.Object.{Object}
use Rattle.model_core.specs.declared.item.Item.{Item}
use Rattle.model_core.specs.declared.rule.Entry.{Entry}
use Rattle.model_core.specs.declared.rule.Entry.TheVariants as entries
use Rattle.model_core.specs.declared.rule.Guard.{Guard}
use Rattle.model_core.specs.declared.rule.Side.{Side}
use Rattle.model_core.specs.declared.rule.Side.TheVariants.{Then, Otherwise}
use Rattle.model_core.specs.declared.rule.Turn.{Turn}
use Rattle.model_core.specs.Block.{plain_entries}
use Rattle.model_core.specs.Blocks.{OfBranch, chosen, direct}
use Rattle.model_core.specs.Entries.{Entries, NoEntry, WithSlot, WithLocal, WithItem, WithBranch}
use Rattle.model_core.specs.Standing.{LeadsToBlock}
use Rattle.nddl_ast.specs.Tree.{Statements, Nothing, Declares, Calls, Asks, Tests, Chooses, Repeats}
use Rattle.nddl_grammar.specs.Exact.{earlier}
use Rattle.nddl_grammar.specs.Grammar.{deep_statements}
use Rattle.nddl_terms.specs.declared.growth.Growth.{Growth}
use Rattle.nddl_terms.specs.declared.lexicon.Lexicon.{Lexicon}
use Rattle.nddl_terms.specs.declared.stands.Made.{Made}
use Rattle.nddl_terms.specs.declared.stands.Stand.{Stand}
use Rattle.nddl_terms.specs.Growth.{no_growth, with_last_entry}
use Rattle.nddl_terms.specs.PlainTree.{PlainTree}
use Rattle.nddl_terms.specs.Readings.{Readings}
use Rattle.nddl_terms.specs.Stands.{first_stand}
use Rattle.nddl_lower.specs.Arguments.{condition_guard}
use Rattle.nddl_lower.specs.Calls.{with_ask, with_call}
use Rattle.nddl_lower.specs.Locals.{with_text_local}
use Rattle.nddl_unroll.specs.Blocks.{all_turns, back_in, filled_block, in_block, stand_turns, turn_of, unrolled}
use Rattle.nddl_unroll.specs.Rules.{tree_readings, tree_rule}
use Rattle.nddl_lowering_laws.specs.Nested.{IsShallow}
use Rattle.nddl_lowering_laws.proofs.Growing.{IsKept, ask_kept, call_kept, condition_kept, local_kept, reads_kept}

-- blocks lie in one another so many deep at most, beside this one
abbrev pub AreNested : ℕ → Entries → Type 0
AreNested left NoEntry = Unit {0}
AreNested left (WithSlot slot more) = AreNested left more
AreNested left (WithLocal local more) = AreNested left more
AreNested left (WithItem item more) = AreNested left more
AreNested zero (WithBranch guard first second more) = ⊥
AreNested (suc left) (WithBranch guard first second more) =
    AreNested left first × (AreNested left second × AreNested (suc left) more)

abbrev AreNestedIn : ℕ → List Entry → Type 0
AreNestedIn left some = AreNested left (plain_entries some)

nested_append : (left : ℕ) (one other : List Entry) → AreNestedIn left one → AreNestedIn left other → AreNestedIn left (one ++ other)
nested_append left [] other first second = second
nested_append left (entries.Slot number ∷ more) other first second = nested_append left more other first second
nested_append left (entries.Local number ∷ more) other first second = nested_append left more other first second
nested_append left (entries.Item item ∷ more) other first second = nested_append left more other first second
nested_append zero (entries.Branch guard inside behind ∷ more) other first second = absurd first
nested_append (suc left) (entries.Branch guard inside behind ∷ more) other first second =
    (first.0, (first.1.0, nested_append (suc left) more other first.1.1 second))

nested_items : (left : ℕ) (some : List Item) → AreNestedIn left (map entries.Item some)
nested_items left [] = tt
nested_items left (item ∷ more) = nested_items left more

-- ---- single steps

abbrev StayNested : ℕ → Growth → Growth → Type 0
StayNested left old new = AreNestedIn left old.entries → AreNestedIn left new.entries

nested_kept : (lexicon : Lexicon) (left : ℕ) → IsKept lexicon (StayNested left)
nested_kept lexicon left = record {
  same = λ growth are. are;
  join = λ first second third one other are. other (one are);
  item = λ item growth are. nested_append left growth.entries (entries.Item item ∷ []) are tt;
  items = λ some growth are. nested_append left growth.entries (map entries.Item some) are (nested_items left some);
  local = λ shape growth are. nested_append left growth.entries (entries.Local (length growth.locals) ∷ []) are tt;
  slot = λ pred growth there are. nested_append left growth.entries (entries.Slot (length growth.slots) ∷ []) are tt;
  named = λ at stand growth are. are;
  asked = λ at stand growth are. are;
}

-- ---- statements

some_none : (at : ℕ) → Some at ≡ None → ⊥
some_none at is = cc

none_both : (one other : Option ℕ) → earlier one other ≡ None → (one ≡ None) × (other ≡ None)
none_both None other none = (refl, none)
none_both (Some at) other none = absurd (some_none at none)

both_none : (one other : Option ℕ) → one ≡ None → other ≡ None → earlier one other ≡ None
both_none one other first second = ap (λ (found : Option ℕ). earlier found other) first ∙ second

-- what is shallow enough is so where more is allowed
deeper : (stmts : Statements) (left : ℕ) → deep_statements stmts left ≡ None → deep_statements stmts (suc left) ≡ None
deeper Nothing left shallow = refl
deeper (Declares variable more) left shallow = deeper more left shallow
deeper (Calls call more) left shallow = deeper more left shallow
deeper (Asks ask more) left shallow = deeper more left shallow
deeper (Tests at condition then_at inside more) zero shallow = absurd (some_none then_at shallow)
deeper (Tests at condition then_at inside more) (suc left) shallow =
    let parts = none_both (deep_statements inside left) (deep_statements more (suc left)) shallow in
    both_none (deep_statements inside (suc left)) (deep_statements more (suc (suc left))) (deeper inside left parts.0)
    (deeper more (suc left) parts.1)
deeper (Chooses at condition then_at inside else_at other more) zero shallow = absurd (some_none then_at shallow)
deeper (Chooses at condition then_at inside else_at other more) (suc left) shallow =
    let parts = none_both (earlier (deep_statements inside left) (deep_statements other left)) (deep_statements more (suc left)) shallow in
    let blocks = none_both (deep_statements inside left) (deep_statements other left) parts.0 in
    both_none (earlier (deep_statements inside (suc left)) (deep_statements other (suc left))) (deep_statements more (suc (suc left)))
    (both_none (deep_statements inside (suc left)) (deep_statements other (suc left)) (deeper inside left blocks.0) (deeper other left blocks.1))
    (deeper more (suc left) parts.1)
deeper (Repeats at name class body_at body more) zero shallow = absurd (some_none body_at shallow)
deeper (Repeats at name class body_at body more) (suc left) shallow =
    let parts = none_both (deep_statements body left) (deep_statements more (suc left)) shallow in
    both_none (deep_statements body (suc left)) (deep_statements more (suc (suc left))) (deeper body left parts.0)
    (deeper more (suc left) parts.1)

turns_nested : (left : ℕ) (turn : Stand → Growth → Growth)
    → ((object : Stand) (growth : Growth) → AreNestedIn left growth.entries → AreNestedIn left (turn object growth).entries)
    → (objects : List Stand) (growth : Growth) → AreNestedIn left growth.entries → AreNestedIn left (all_turns turn objects growth).entries
turns_nested left turn each [] growth are = are
turns_nested left turn each (object ∷ more) growth are = turns_nested left turn each more (turn object growth) (each object growth are)

-- where no block of the text is too deep, none of the rule is
unrolled_nested : (reading : Readings) (turns : List Made) (stmts : Statements) (left : ℕ) (growth : Growth) → deep_statements stmts left ≡ None
    → AreNestedIn left growth.entries → AreNestedIn left (unrolled reading turns stmts growth).entries
unrolled_nested reading turns Nothing left growth shallow are = are
unrolled_nested reading turns (Declares variable more) left growth shallow are =
    unrolled_nested reading turns more left (with_text_local reading turns variable growth) shallow
    (local_kept reading (StayNested left) (nested_kept reading.lexicon left) turns variable growth are)
unrolled_nested reading turns (Calls call more) left growth shallow are =
    unrolled_nested reading turns more left (with_call reading turns call growth) shallow
    (call_kept reading (StayNested left) (nested_kept reading.lexicon left) turns call growth are)
unrolled_nested reading turns (Asks ask more) left growth shallow are =
    unrolled_nested reading turns more left (with_ask reading turns ask growth) shallow
    (ask_kept reading (StayNested left) (nested_kept reading.lexicon left) turns ask growth are)
unrolled_nested reading turns (Tests at condition then_at inside more) zero growth shallow are = absurd (some_none then_at shallow)
unrolled_nested reading turns (Tests at condition then_at inside more) (suc left) growth shallow are =
    let parts = none_both (deep_statements inside left) (deep_statements more (suc left)) shallow in
    let tested = condition_guard reading turns condition growth in
    let filled = unrolled reading turns inside (in_block tested.growth) in
    let branch = entries.Branch tested.guard (filled_block filled) (plain_entries []) in
    let first = condition_kept reading (StayNested (suc left)) (reads_kept reading.lexicon (StayNested (suc left)) (nested_kept reading.lexicon (suc left))) turns condition growth are in
    let inner = unrolled_nested reading turns inside left (in_block tested.growth) parts.0 tt in
    unrolled_nested reading turns more (suc left) (with_last_entry branch (back_in tested.growth.entries filled)) parts.1
    (nested_append (suc left) tested.growth.entries (branch ∷ []) first (inner, (tt, tt)))
unrolled_nested reading turns (Chooses at condition then_at inside else_at other more) zero growth shallow are =
    absurd (some_none then_at shallow)
unrolled_nested reading turns (Chooses at condition then_at inside else_at other more) (suc left) growth shallow are =
    let parts = none_both (earlier (deep_statements inside left) (deep_statements other left)) (deep_statements more (suc left)) shallow in
    let blocks = none_both (deep_statements inside left) (deep_statements other left) parts.0 in
    let tested = condition_guard reading turns condition growth in
    let filled = unrolled reading turns inside (in_block tested.growth) in
    let second = unrolled reading turns other (in_block filled) in
    let branch = entries.Branch tested.guard (filled_block filled) (filled_block second) in
    let first = condition_kept reading (StayNested (suc left)) (reads_kept reading.lexicon (StayNested (suc left)) (nested_kept reading.lexicon (suc left))) turns condition growth are in
    let inner = unrolled_nested reading turns inside left (in_block tested.growth) blocks.0 tt in
    let outer = unrolled_nested reading turns other left (in_block filled) blocks.1 tt in
    unrolled_nested reading turns more (suc left) (with_last_entry branch (back_in tested.growth.entries second)) parts.1
    (nested_append (suc left) tested.growth.entries (branch ∷ []) first (inner, (outer, tt)))
unrolled_nested reading turns (Repeats at name class body_at body more) zero growth shallow are = absurd (some_none body_at shallow)
unrolled_nested reading turns (Repeats at name class body_at body more) (suc left) growth shallow are =
    let parts = none_both (deep_statements body left) (deep_statements more (suc left)) shallow in
    let turn : Stand → Growth → Growth = λ object inner. unrolled reading (turns ++ turn_of name object ∷ []) body inner in
    let objects = stand_turns reading.lexicon (first_stand reading turns growth class.at) in
    unrolled_nested reading turns more (suc left) (all_turns turn objects growth) parts.1
    (turns_nested (suc left) turn
    (λ object inner so. unrolled_nested reading (turns ++ turn_of name object ∷ []) body (suc left) inner (deeper body left parts.0) so)
    objects growth are)

-- ---- ways

-- a branch of the block has blocks that lie one less deep
record LiesInside (left : ℕ) (first second : Entries) : Type 0 where
  less : ℕ
  is : left ≡ suc less
  first_nested : AreNested less first
  second_nested : AreNested less second

branch_inside : (left : ℕ) (top : Entries) (place : ℕ) (guard : Guard) (first second : Entries) → AreNested left top
    → slice_get (direct top) place ≡ Some (OfBranch guard first second) → LiesInside left first second
branch_inside left NoEntry place guard first second are at = absurd (cc)
branch_inside left (WithSlot slot more) zero guard first second are at = absurd (cc)
branch_inside left (WithSlot slot more) (suc place) guard first second are at = branch_inside left more place guard first second are at
branch_inside left (WithLocal local more) zero guard first second are at = absurd (cc)
branch_inside left (WithLocal local more) (suc place) guard first second are at = branch_inside left more place guard first second are at
branch_inside left (WithItem item more) zero guard first second are at = absurd (cc)
branch_inside left (WithItem item more) (suc place) guard first second are at = branch_inside left more place guard first second are at
branch_inside zero (WithBranch other one two more) zero guard first second are at = absurd are
branch_inside zero (WithBranch other one two more) (suc place) guard first second are at = absurd are
branch_inside (suc left) (WithBranch other one two more) zero guard first second are at =
    let same : one ≡ first = cc in
    let like : two ≡ second = cc in
    record {
      less = left;
      is = refl;
      first_nested = subst (AreNested left) same are.0;
      second_nested = subst (AreNested left) like are.1.0;
    }
branch_inside (suc left) (WithBranch other one two more) (suc place) guard first second are at =
    branch_inside (suc left) more place guard first second are.1.1 at

side_nested : (left : ℕ) (side : Side) (first second : Entries) → AreNested left first → AreNested left second → AreNested left (chosen side first second)
side_nested left Then first second one two = one
side_nested left Otherwise first second one two = two

-- a way is no longer than blocks are deep
ways_short : (left : ℕ) (top : Entries) (path : List Turn) (block : Entries) → AreNested left top → LeadsToBlock top path block → length path ≤ left
ways_short left top [] block are way = omega arith
ways_short left top (turn ∷ path) block are way =
    let inside = branch_inside left top turn.entry way.0 way.1.0 way.1.1 are way.1.2.0 in
    let nested = side_nested inside.less turn.side way.1.0 way.1.1 inside.first_nested inside.second_nested in
    let rest = ways_short inside.less (chosen turn.side way.1.0 way.1.1) path block nested way.1.2.1.1 in
    omega (arith, rest, inside.is)

pub tree_shallow : (lexicon : Lexicon) (objects : List Object) (tree : PlainTree) → deep_statements tree.body 15 ≡ None
    → IsShallow (tree_rule lexicon objects tree).top
tree_shallow lexicon objects tree shallow path block way =
    let top = (tree_rule lexicon objects tree).top in
    let are : AreNested 15 top = unrolled_nested (tree_readings lexicon objects tree) [] tree.body 15 no_growth shallow tt in
    let short = ways_short 15 top path block are way in
    omega (arith, short)
