use Rattle.std.proofs.Common.{◌+◌, ◌-◌, ◌/◌, slice_index_or, arith}
use Rattle.std.proofs.lemmas.Bool.{both_ways}
use Rattle.token_store.specs.Tokens.{token_names}
use Rattle.token_store.proofs.Numbers.{index_default}
use Rattle.token_store.proofs.Past.{length-names}
use Rattle.token_store.proofs.Ranks.{below_middle, above_middle}
use Rattle.token_store.proofs.orders.rank_of.Goals as goal

pub is_before-requires : goal.is_before-requires
is_before-requires c =
    let middle = c.loop-low.low + (c.loop-low.high - c.loop-low.low) / 2 in
    let place = slice_index_or c.args.by_rank.now middle 0 in
    omega (arith, (c.requires.each place).0 (middle, omega (arith, c.loop-low.invariant.within, c.loop-low-test.true), index_default c.args.by_rank.now middle _ 0 (omega (arith, c.loop-low.invariant.within, c.loop-low-test.true))), length-names c.args.tokens.now.entries)

pub loop-low-preserved-then-is_before : goal.loop-low-preserved-then-is_before
loop-low-preserved-then-is_before c =
    let middle = c.loop-low.low + (c.loop-low.high - c.loop-low.low) / 2 in
    record {
      apart = omega (arith, c.loop-low-test.true);
      within = c.loop-low.invariant.within;
      lower = λ other below. below_middle c.names_are_in_order.ensures.tokens (token_names c.args.tokens.now.entries) c.args.by_rank.now c.args.name.now middle other
          c.requires.order (omega (arith, c.loop-low.invariant.within, c.loop-low-test.true)) below (c.is_before.ensures.0 c.if-is_before.true);
      upper = c.loop-low.invariant.upper;
    }

pub loop-low-preserved : goal.loop-low-preserved
loop-low-preserved c =
    let middle = c.loop-low.low + (c.loop-low.high - c.loop-low.low) / 2 in
    record {
      apart = omega (arith, c.loop-low-test.true);
      within = omega (arith, c.loop-low.invariant.within, c.loop-low-test.true);
      lower = c.loop-low.invariant.lower;
      upper = λ other from to before. above_middle c.names_are_in_order.ensures.tokens (token_names c.args.tokens.now.entries) c.args.by_rank.now c.args.name.now middle other
          c.requires.order from to (λ yes. both_ways c.is_before.result c.if-is_before.false (c.is_before.ensures.1 yes)) before;
    }
