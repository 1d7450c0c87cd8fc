use Rattle.std.proofs.Common.{ℕ, List, sym, subst, arith}
use Rattle.std.specs.Prelude.{Contains}
use Rattle.db_store.proofs.Lists.{more_pushed, all_pushed}
use Rattle.db_store.proofs.store.put_numbers.Goals as goal

pub loop-number-init : goal.loop-number-init
loop-number-init c = record {
  kept = λ number there. there;
  all = λ number over below. absurd (omega (arith, over, below));
}

pub loop-number-preserved : goal.loop-number-preserved
loop-number-preserved c =
    let loop = c.loop-number in
    let pushed = c.in_ok-push.ensures.items in
    record {
      kept = λ number there. subst (λ (list : List ℕ). Contains list number) (sym pushed) (more_pushed loop.numbers.items loop.number number (loop.invariant.kept number there));
      all = λ number over below. subst (λ (list : List ℕ). Contains list number) (sym pushed) (all_pushed c.args.from loop.numbers.items loop.number loop.invariant.all number over below);
    }
