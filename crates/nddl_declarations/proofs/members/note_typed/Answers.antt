use Rattle.std.proofs.Common.{map}
use Rattle.nddl_symbols.specs.Finding.{earliest_fault}
use Rattle.nddl_hierarchy.specs.Facts.{facts_of}
use Rattle.nddl_declarations.specs.Members.{typed_faults}
use Rattle.nddl_declarations.proofs.Steps.{typed_step}
use Rattle.nddl_declarations.proofs.members.note_typed.Goals as goal

pub loop-typed-preserved : goal.loop-typed-preserved
loop-typed-preserved c =
    typed_step (facts_of c.args.basis.now) c.args.decl c.args.some.now c.loop-typed.typed-index c.typed-item.result c.loop-typed.first
    c.note_all_type_faults.new.first
    (earliest_fault c.args.first.now (typed_faults (facts_of c.args.basis.now) c.args.decl (map (λ typed. typed.now) c.args.some.now)))
    c.loop-typed-test.true c.typed-item.is c.in_ok-note_all_type_faults.ensures c.loop-typed.invariant
