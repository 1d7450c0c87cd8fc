use Rattle.std.proofs.Common.{◌≡◌, ◌∷◌, [], reverse, length, ap, ◌∙◌, subst, arith, length-append}
use Rattle.token_store.proofs.Past.{IsReturning, returning_none, returning_more, returned, reverse-last}
use Rattle.token_store.proofs.returning.go_back.Goals as goal

pub loop-tokens-init : goal.loop-tokens-init
loop-tokens-init c = record {
  returning = returning_none c.args.tokens.now.entries (reverse c.args.trail.now.items);
  kept = c.requires.kept;
  long = c.requires.long;
}

pub loop-tokens-preserved : goal.loop-tokens-preserved
loop-tokens-preserved c =
    let step = c.step_back.ensures.back in
    let turned : reverse c.loop-tokens.trail.items ≡ step.edit ∷ reverse c.step_back.new.trail.items =
    ap reverse step.trail ∙ reverse-last c.step_back.new.trail.items step.edit in
    record {
      returning = returning_more c.args.tokens.now.entries (reverse c.args.trail.now.items) c.loop-tokens.tokens.entries c.step_back.new.tokens.entries
          (reverse c.step_back.new.trail.items) step.edit
          (subst (IsReturning c.args.tokens.now.entries (reverse c.args.trail.now.items) c.loop-tokens.tokens.entries) turned c.loop-tokens.invariant.returning) step.tokens;
      kept = c.step_back.ensures.kept;
      long = omega (arith, ap length step.trail, length-append c.step_back.new.trail.items (step.edit ∷ []), c.loop-tokens.trail.ok.0, c.step_back.new.trail.ok.0);
    }

pub returns-clause-back : goal.returns-clause-back
returns-clause-back c = returned c.args.behind c.args.tokens.now.entries c.args.trail.now.items c.loop-tokens.tokens.entries c.loop-tokens.trail.items
    c.loop-tokens.invariant.returning (omega (arith, c.loop-tokens.invariant.long, c.loop-tokens.trail.ok.0))
