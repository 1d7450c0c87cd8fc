use Rattle.token_store.specs.Listed.{lists_of}
use Rattle.token_store.proofs.Keeping.{new_kept}
use Rattle.token_store.proofs.tokens.Tokens.new.Goals as goal

pub invariant_of-result : goal.invariant_of-result
invariant_of-result c =
    new_kept c.new.result.entries c.new-2.result.items c.new-3.result.items (lists_of c.new-4.result) c.new.ensures.empty c.new-2.ensures.items c.new-3.ensures.items c.new-4.ensures
