use Rattle.std.proofs.Common.{refl}
use Rattle.nddl_symbols.specs.Finding.{earliest_fault}
use Rattle.nddl_hierarchy.specs.Facts.{facts_of}
use Rattle.nddl_resolve.specs.Paths.{around_of}
use Rattle.nddl_constructors.specs.Objects.{setting_faults, settings_faults_from}
use Rattle.nddl_constructors.proofs.Noting.{numbered_step}
use Rattle.nddl_constructors.proofs.objects.note_setting_values.Goals as goal

pub loop-number-preserved : goal.loop-number-preserved
loop-number-preserved c =
    let facts = facts_of c.args.basis.now in
    let around = around_of c.args.around.now in
    numbered_step (λ number expr. setting_faults facts around c.args.decl number expr)
    (λ number exprs. settings_faults_from facts around c.args.decl number exprs) (λ number expr exprs. refl)
    c.args.arguments.now c.loop-number.number c.index-arguments-number.result c.loop-number.first c.note_setting.new.first
    (earliest_fault c.args.first.now (settings_faults_from facts around c.args.decl 0 c.args.arguments.now))
    c.loop-number-test.true c.index-arguments-number.is c.in_ok-note_setting.ensures c.loop-number.invariant
