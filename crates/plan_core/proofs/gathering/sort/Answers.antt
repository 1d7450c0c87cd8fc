use Rattle.std.proofs.Common.{rules, ◌≡◌}
use Rattle.std.proofs.lemmas.List.Sorted.{All-permutation}
use Rattle.plan_text.specs.Lines.{stated_name}
use Rattle.plan_core.specs.declared.gathering.Named.{Named}
use Rattle.plan_core.proofs.Sorting.{sorted_names, once_sorted, names_in_order}
use Rattle.plan_core.proofs.gathering.sort.Goals as goal

pub returns-clause-order : goal.returns-clause-order
returns-clause-order c =
    names_in_order c.names_are_in_order.ensures.variables c.sort_unstable_by.new.self.items
    (sorted_names _ _ c.sort_unstable_by.new.self.items c.names_are_in_order.ensures.variables c.sort_unstable_by.ensures.sorted (λ a r q k. search rules))
    (once_sorted _ c.names_are_told_apart.ensures.variables c.args.said.now.items c.sort_unstable_by.new.self.items c.sort_unstable_by.ensures.permutation c.requires.once)
    (All-permutation (λ (n : Named). n.name ≡ stated_name n.statement) c.args.said.now.items c.sort_unstable_by.new.self.items c.sort_unstable_by.ensures.permutation c.requires.named)
