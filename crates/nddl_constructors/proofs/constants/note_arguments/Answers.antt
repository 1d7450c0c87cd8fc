use Rattle.std.proofs.Common.{refl, ap, ◌∙◌}
use Rattle.nddl_symbols.specs.Finding.{earliest_fault}
use Rattle.nddl_hierarchy.specs.Facts.{facts_of}
use Rattle.nddl_resolve.specs.Paths.{around_of}
use Rattle.nddl_constructors.specs.Constants.{constants_faults, value_faults}
use Rattle.nddl_constructors.specs.Wanted.{wanted_kinds}
use Rattle.nddl_constructors.specs.Wants.{wanted_at}
use Rattle.nddl_constructors.proofs.Noting.{numbered_step}
use Rattle.nddl_constructors.proofs.constants.note_arguments.Goals as goal

pub loop-number-preserved : goal.loop-number-preserved
loop-number-preserved c =
    let facts = facts_of c.args.basis.now in
    let around = around_of c.args.around.now in
    let wants = wanted_kinds facts c.args.wanted.now in
    numbered_step (λ number expr. value_faults facts around c.args.decl (wanted_at wants number) expr)
    (λ number exprs. constants_faults facts around c.args.decl wants number exprs) (λ number expr exprs. refl)
    c.args.arguments.now c.loop-number.number c.index-arguments-number.result c.loop-number.first c.note_value.new.first
    (earliest_fault c.args.first.now (constants_faults facts around c.args.decl wants 0 c.args.arguments.now))
    c.loop-number-test.true c.index-arguments-number.is
    (c.in_ok-note_value.ensures
    ∙ ap (λ kind. earliest_fault c.loop-number.first
    (value_faults facts around c.args.decl kind c.index-arguments-number.result)) c.kind-kind.ensures)
    c.loop-number.invariant
