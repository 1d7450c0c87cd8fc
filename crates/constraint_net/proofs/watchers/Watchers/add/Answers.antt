use Rattle.std.proofs.Common.{◌∷◌, ◌++◌, [], ap, ◌∙◌}
use Rattle.constraint_net.proofs.Watching.{on_err, list_same, list_more}
use Rattle.constraint_net.proofs.watchers.Watchers.add.Goals as goal

pub returns-in_err-push-clause-err : goal.returns-in_err-push-clause-err
returns-in_err-push-clause-err c =
    on_err c.from_residual-in_err-push.result _ (list_same c.self.inside.lists.items c.args.self.now c.args.variable c.index_mut.result.now c.push.new.self c.self.view_is c.requires c.index_mut.ensures.value (ap (λ list. list.items) c.in_err-push.ensures.err))

pub returns-clause-ok : goal.returns-clause-ok
returns-clause-ok c =
    list_more c.self.inside.lists.items c.args.self.now c.args.variable c.args.number c.index_mut.result.now c.push.new.self c.self.view_is c.requires c.index_mut.ensures.value
    (c.in_ok-push.ensures.ok ∙ ap (λ number. c.index_mut.result.now.items ++ number ∷ []) c.in_ok-number.ensures.kept)
