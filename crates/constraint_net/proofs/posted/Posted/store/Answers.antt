use Rattle.std.proofs.Common.{◌++◌, ◌∷◌, [], sym, ap, ◌∙◌}
use Rattle.constraint_net.proofs.Storing.{stored_as}
use Rattle.constraint_net.proofs.posted.Posted.store.Goals as goal

pub returns-clause-ok : goal.returns-clause-ok
returns-clause-ok c =
    let posted = c.self.inside in
    let same = c.in_ok-key.ensures.kept ∙ c.vacant_key.ensures.value ∙ sym c.in_ok-insert.ensures.key in
    (stored_as posted.kept c.insert.new.self posted.keys.items c.push_reserved.new.self.items c.in_ok-insert.field-0 c.args.constraint c.self.invariant c.in_ok-insert.ensures.was_vacant c.in_ok-insert.ensures.updates
    (c.push_reserved.ensures.items ∙ ap (λ list. list ++ c.in_ok-key.key ∷ []) c.reserve.ensures.items ∙ ap (λ key. posted.keys.items ++ key ∷ []) same)).1
    ∙ ap (λ list. list ++ c.args.constraint ∷ []) c.self.view_is
