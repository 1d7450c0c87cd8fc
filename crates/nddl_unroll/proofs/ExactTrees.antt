-- What is counted of the text of a rule is what the rule has, and so are the limits that rules pass.
use Rattle.std.proofs.Common.{◌≡◌, ℕ, ◌-◌, ◌^◌, min, List, [], ◌∷◌, ◌++◌, map, refl, ◌∙◌, ap, arith}
use Rattle.std.specs.Prelude.{All}
use Rattle.std.proofs.lemmas.List.Elements.{All-head, All-tail}
use Rattle.model_core.specs.declared.class.Object.{Object}
use Rattle.nddl_terms.specs.PlainTree.{PlainTree}
use Rattle.nddl_terms.specs.declared.lexicon.Lexicon.{Lexicon}
use Rattle.nddl_terms.specs.Growth.{no_growth}
use Rattle.nddl_unroll.specs.declared.amounts.Amounts.{Amounts}
use Rattle.nddl_unroll.specs.declared.limits.Tally.{Tally}
use Rattle.nddl_unroll.specs.Amounts.{amounts_and, no_amounts, plus}
use Rattle.nddl_unroll.specs.Counting.{tree_amounts}
use Rattle.nddl_unroll.specs.Exact.{AreCounted, CountsExactly, LimitsAreExact, unrolled_amounts, unrolled_weighed}
use Rattle.nddl_unroll.specs.Limits.{limits_passed, no_rules, rule_limits, tally_of, with_rule}
use Rattle.nddl_unroll.specs.Meant.{IsTreeMeant}
use Rattle.nddl_unroll.specs.Rules.{tree_readings}
use Rattle.nddl_unroll.specs.Weighing.{weighed_trees}
use Rattle.nddl_unroll.proofs.ExactBlocks.{all_just, none_just}
use Rattle.nddl_unroll.proofs.Extras.{no_extra}
use Rattle.nddl_unroll.proofs.Trees.{none_sound}

pub trees_exact : CountsExactly
trees_exact lexicon objects tree meant =
    let just = all_just (tree_readings lexicon objects tree) tree.body in
    let gives = just.gives [] tt no_growth none_sound meant in
    let taken = just.taken [] tt no_growth none_sound in
    let counts = just.counts no_extra no_amounts none_just in
    record {
      guards = omega (arith, gives.guards, counts.guards);
      slots = omega (arith, gives.slots, counts.slots);
      locals = omega (arith, gives.locals, counts.locals);
      items = omega (arith, gives.items, counts.items);
      turns = omega (arith, taken, counts.turns);
    }

-- ---- limits

plus_counted : (before some amount : ℕ) → amount ≡ min some (2 ^ 64 - 1) → plus before amount ≡ plus before some
plus_counted before some amount counted = omega (arith, counted)

amounts_same : (one other : Amounts) → one.guards ≡ other.guards → one.slots ≡ other.slots → one.locals ≡ other.locals
    → one.items ≡ other.items → one.turns ≡ other.turns → one ≡ other
amounts_same one other guards slots locals items turns =
    λ k. record { guards = guards k; slots = slots k; locals = locals k; items = items k; turns = turns k }

-- counts stay at the greatest number, so it makes no difference whether the numbers that are added do
counted_alike : (before some amounts : Amounts) → AreCounted some amounts → amounts_and before amounts ≡ amounts_and before some
counted_alike before some amounts are =
    amounts_same (amounts_and before amounts) (amounts_and before some)
    (plus_counted before.guards some.guards amounts.guards are.guards)
    (plus_counted before.slots some.slots amounts.slots are.slots)
    (plus_counted before.locals some.locals amounts.locals are.locals)
    (plus_counted before.items some.items amounts.items are.items)
    (plus_counted before.turns some.turns amounts.turns are.turns)

rule_alike : (tally : Tally) (some amounts : Amounts) → AreCounted some amounts → with_rule tally amounts ≡ with_rule tally some
rule_alike tally some amounts are =
    λ k. record { rules = plus tally.rules 1; amounts = counted_alike tally.amounts some amounts are k }

limits_alike : (lexicon : Lexicon) (objects : List Object) (trees : List PlainTree) → All (IsTreeMeant lexicon objects) trees
    → (pred : ℕ) (tally : Tally)
    → limits_passed pred tally (weighed_trees lexicon trees) ≡ limits_passed pred tally (map (unrolled_weighed lexicon objects) trees)
limits_alike lexicon objects [] are pred tally = refl
limits_alike lexicon objects (tree ∷ more) are pred tally =
    let before = tally_of tree.pred pred tally in
    let counted = trees_exact lexicon objects tree (All-head (IsTreeMeant lexicon objects) tree more are) in
    let alike = rule_alike before (unrolled_amounts lexicon objects tree) (tree_amounts lexicon tree) counted in
    let rest = limits_alike lexicon objects more (All-tail (IsTreeMeant lexicon objects) tree more are) tree.pred
    (with_rule before (unrolled_amounts lexicon objects tree)) in
    ap (λ after. rule_limits tree.place before after ++ limits_passed tree.pred after (weighed_trees lexicon more)) alike
    ∙ ap (λ behind. rule_limits tree.place before (with_rule before (unrolled_amounts lexicon objects tree)) ++ behind) rest

pub limits_exact : LimitsAreExact
limits_exact lexicon objects trees are = limits_alike lexicon objects trees are 0 no_rules
