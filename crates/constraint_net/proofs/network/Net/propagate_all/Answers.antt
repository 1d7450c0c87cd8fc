use Rattle.std.proofs.Common.{◌≡◌, length, sym, ap, ◌∙◌, subst}
use Rattle.std.proofs.lemmas.Result.{on_ok_weaker}
use Rattle.cell_store.specs.Cells.{present}
use Rattle.constraint_net.specs.Agendas.{quiet_of}
use Rattle.constraint_net.specs.Networks.{Network, AllConsistent}
use Rattle.constraint_net.specs.Waiting.{IsKeptAgenda}
use Rattle.constraint_net.proofs.Keepers.{kept_propagated, propagated_down}
use Rattle.constraint_net.proofs.Quiet.{quiet_all}
use Rattle.constraint_net.proofs.network.Net.propagate_all.Goals as goal

pub propagate-requires-clause-kept : goal.propagate-requires-clause-kept
propagate-requires-clause-kept c =
    let net = c.self.inside in
    subst (λ tables. IsKeptAgenda tables net.constraints (present net.domains.cells) net.domains.agenda) (sym c.as_slice.ensures.value) c.self.invariant.agenda

pub invariant_of-self : goal.invariant_of-self
invariant_of-self c =
    let net = c.self.inside in
    kept_propagated (AllConsistent c.as_slice.result.now net.constraints) net.domains c.propagate.new.domains net.tables net.constraints net.marked c.propagate.result c.propagate.ensures.propagated c.propagate.ensures.sinks
    (subst (λ tables. IsKeptAgenda tables net.constraints (present c.propagate.new.domains.cells) c.propagate.new.domains.agenda) c.as_slice.ensures.value c.propagate.ensures.kept) c.self.invariant

pub returns-clause-others : goal.returns-clause-others
returns-clause-others c =
    let net = c.self.inside in
    propagated_down c.args.self.now net.domains c.propagate.new.domains net.tables net.constraints net.marked c.self.view_is c.self.invariant
    (kept_propagated (AllConsistent c.as_slice.result.now net.constraints) net.domains c.propagate.new.domains net.tables net.constraints net.marked c.propagate.result c.propagate.ensures.propagated c.propagate.ensures.sinks
    (subst (λ tables. IsKeptAgenda tables net.constraints (present c.propagate.new.domains.cells) c.propagate.new.domains.agenda) c.as_slice.ensures.value c.propagate.ensures.kept) c.self.invariant)
    c.propagate.ensures.sinks c.propagate.ensures.notes

pub returns-clause-quiet : goal.returns-clause-quiet
returns-clause-quiet c =
    on_ok_weaker c.propagate.result (λ none. ap (λ items. quiet_of items (length c.self.inside.constraints)) none) c.propagate.ensures.none

pub returns-clause-idle : goal.returns-clause-idle
returns-clause-idle c = λ idle.
    let net = c.self.inside in
    let quiet = subst (λ (n : Network). n.quiet ≡ length n.constraints) (sym c.self.view_is) idle in
    c.propagate.ensures.idle (quiet_all net.domains.agenda.waiting.items (length net.constraints) quiet) ∙ ap (λ (n : Network). n.work) c.self.view_is
