use Rattle.std.proofs.Common.{◌∙◌, ap, sym}
use Rattle.db_store.specs.Stores.{blocks_watching}
use Rattle.db_store.proofs.watchers.Watchers.new.Goals as goal

pub invariant_of-result : goal.invariant_of-result
invariant_of-result c = λ variable.
    ap (λ lists. lists variable) c.new-2.ensures ∙ sym (ap (λ items. blocks_watching items variable) c.new.ensures.items)
