-- What is counted from the text of a rule is what the rule has, and so are the limits that it passes.
use Rattle.std.specs.Prelude.{◌≡◌, ℕ, ◌-◌, ◌^◌, min, List, All, length, map}
use Rattle.model_core.specs.declared.class.Object.{Object}
use Rattle.model_core.specs.declared.rule.Rule.{Rule}
use Rattle.model_core.specs.Lawful.{guard_count, item_count}
use Rattle.nddl_symbols.specs.declared.fault.Fault.{Fault}
use Rattle.nddl_terms.specs.PlainTree.{PlainTree}
use Rattle.nddl_terms.specs.declared.lexicon.Lexicon.{Lexicon}
use Rattle.nddl_unroll.specs.declared.amounts.Amounts.{Amounts}
use Rattle.nddl_unroll.specs.declared.limits.Weighed.{Weighed}
use Rattle.nddl_unroll.specs.Counting.{tree_amounts}
use Rattle.nddl_unroll.specs.Limits.{limits_passed, no_rules}
use Rattle.nddl_unroll.specs.Meant.{IsTreeMeant}
use Rattle.nddl_unroll.specs.Rules.{tree_rule}
use Rattle.nddl_unroll.specs.Turns.{tree_turns}
use Rattle.nddl_unroll.specs.Weighing.{tree_limits}

-- the amount is this number, or the greatest one of 64 bits where there is more
abbrev pub IsCounted : ℕ → ℕ → Type 0
IsCounted number amount = amount ≡ min number (2 ^ 64 - 1)

-- the amounts are these numbers
pub record AreCounted (some amounts : Amounts) : Type 0 where
  pub guards : IsCounted some.guards amounts.guards
  pub slots : IsCounted some.slots amounts.slots
  pub locals : IsCounted some.locals amounts.locals
  pub items : IsCounted some.items amounts.items
  pub turns : IsCounted some.turns amounts.turns

-- how much the rule of this text has, and how many turns it takes, as it is unrolled
abbrev pub rule_amounts : Rule → ℕ → Amounts
rule_amounts rule turns = record {
  guards = guard_count rule.top;
  slots = length rule.slots;
  locals = length rule.locals;
  items = item_count rule.top;
  turns = turns;
}

abbrev pub unrolled_amounts : Lexicon → List Object → PlainTree → Amounts
unrolled_amounts lexicon objects tree = rule_amounts (tree_rule lexicon objects tree) (tree_turns lexicon objects tree)

-- where all that is read in a text means something, its rule has exactly what is counted from it
abbrev pub CountsExactly : Type 0
CountsExactly =
    (lexicon : Lexicon) (objects : List Object) (tree : PlainTree) → IsTreeMeant lexicon objects tree
    → AreCounted (unrolled_amounts lexicon objects tree) (tree_amounts lexicon tree)

-- ---- limits

-- the rule of this text, where it is and how much it has as it is unrolled
abbrev pub unrolled_weighed : Lexicon → List Object → PlainTree → Weighed
unrolled_weighed lexicon objects tree = record {
  pred = tree.pred;
  place = tree.place;
  amounts = unrolled_amounts lexicon objects tree;
}

-- all limits that rules pass by what they have as they are unrolled
abbrev pub unrolled_limits : Lexicon → List Object → List PlainTree → List Fault
unrolled_limits lexicon objects trees = limits_passed 0 no_rules (map (unrolled_weighed lexicon objects) trees)

-- where all that is read in texts means something, the limits that are told are those that their rules pass
abbrev pub LimitsAreExact : Type 0
LimitsAreExact =
    (lexicon : Lexicon) (objects : List Object) (trees : List PlainTree) → All (IsTreeMeant lexicon objects) trees
    → tree_limits lexicon trees ≡ unrolled_limits lexicon objects trees
