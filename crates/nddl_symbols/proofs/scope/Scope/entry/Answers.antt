use Rattle.std.proofs.Common.{◌∙◌}
use Rattle.nddl_symbols.proofs.Indexes.{few_entries}
use Rattle.nddl_symbols.proofs.scope.Scope.entry.Goals as goal

pub returns-clause-few : goal.returns-clause-few
returns-clause-few c =
    few_entries c.self.inside.names c.args.name.now 2147483648 c.find.result c.self.invariant.0
    (c.find.ensures ∙ c.self.invariant.1 c.args.name.now)
