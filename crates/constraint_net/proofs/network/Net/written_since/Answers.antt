use Rattle.std.proofs.Common.{List, subst}
use Rattle.std.proofs.lemmas.Result.{IfOk-weaker}
use Rattle.cell_store.specs.Cells.{present, IsPlace}
use Rattle.domain_core.specs.Domain.{Domain}
use Rattle.constraint_net.specs.Marks.{IsMark, HaveChanged}
use Rattle.constraint_net.specs.Networks.{Network}
use Rattle.constraint_net.specs.declared.constraint.Constraint.{Constraint}
use Rattle.constraint_net.proofs.Keepers.{can_go, place_in}
use Rattle.constraint_net.proofs.network.Net.written_since.Goals as goal

pub written_since-requires : goal.written_since-requires
written_since-requires c =
    let net = c.self.inside in
    can_go c.args.self.now net.domains net.domains net.tables net.constraints net.constraints net.marked c.args.mark c.self.view_is c.self.invariant c.requires

pub returns : goal.returns
returns c =
    let net = c.self.inside in
    let cells = net.domains.cells in
    IfOk-weaker c.written_since.result (λ numbers. (there : List Domain) → IsPlace cells c.args.mark.cells there → HaveChanged numbers.items there (present cells))
    (λ numbers. (there : List Domain) (posted : List Constraint) → IsMark c.args.self.now c.args.mark there posted → HaveChanged numbers.items there c.args.self.now.domains)
    (λ numbers told there posted is. subst (λ (n : Network). HaveChanged numbers.items there n.domains) c.self.view_is
    (told there (place_in c.args.self.now net.domains net.tables net.constraints net.marked c.args.mark c.self.view_is c.self.invariant there posted is))) c.written_since.ensures
