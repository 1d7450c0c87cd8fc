use Rattle.std.proofs.Common.{◌<◌, length, sym, subst}
use Rattle.cell_store.specs.Cells.{Celled, GoesBack}
use Rattle.constraint_net.proofs.Keepers.{can_go, names_still, returns_to}
use Rattle.constraint_net.proofs.network.Net.back_to.Goals as goal

pub turn_back-requires-clause-mark : goal.turn_back-requires-clause-mark
turn_back-requires-clause-mark c =
    let net = c.self.inside in
    can_go c.args.self.now net.domains net.domains net.tables net.constraints net.constraints net.marked c.args.mark c.self.view_is c.self.invariant c.requires

pub forget-requires : goal.forget-requires
forget-requires c =
    let net = c.self.inside in
    names_still c.args.self.now net.domains net.domains net.tables net.constraints net.constraints net.marked c.args.mark c.self.view_is c.self.invariant c.requires c.turn_back.new.self.agenda c.turn_back.ensures.turns

pub back_to-requires : goal.back_to-requires
back_to-requires c =
    let net = c.self.inside in
    subst (λ (cells : Celled). c.args.mark.cells < length cells.past) (sym c.turn_back.ensures.cells)
    (can_go c.args.self.now net.domains net.domains net.tables net.constraints net.constraints net.marked c.args.mark c.self.view_is c.self.invariant c.requires)

pub invariant_of-self : goal.invariant_of-self
invariant_of-self c =
    let net = c.self.inside in
    let told = c.turn_back.new.self in
    let goes = subst (λ cells. GoesBack c.args.mark.cells cells c.back_to.new.self) c.turn_back.ensures.cells c.back_to.ensures in
    (returns_to c.args.self.now net.domains (record told { cells = c.back_to.new.self; agenda = c.forget.new.agenda }) net.tables net.constraints c.forget.new.constraints net.marked c.args.mark c.self.view_is c.self.invariant c.requires
    told.agenda goes c.forget.ensures.taken c.turn_back.ensures.work c.turn_back.ensures.turns c.forget.ensures.forgets).0

pub returns : goal.returns
returns c =
    let net = c.self.inside in
    let told = c.turn_back.new.self in
    let goes = subst (λ cells. GoesBack c.args.mark.cells cells c.back_to.new.self) c.turn_back.ensures.cells c.back_to.ensures in
    (returns_to c.args.self.now net.domains (record told { cells = c.back_to.new.self; agenda = c.forget.new.agenda }) net.tables net.constraints c.forget.new.constraints net.marked c.args.mark c.self.view_is c.self.invariant c.requires
    told.agenda goes c.forget.ensures.taken c.turn_back.ensures.work c.turn_back.ensures.turns c.forget.ensures.forgets).1
