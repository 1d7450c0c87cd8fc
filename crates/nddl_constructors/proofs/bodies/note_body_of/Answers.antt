use Rattle.std.proofs.Common.{◌≡◌, OnOk, ap, subst, ◌∙◌}
use Rattle.nddl_symbols.specs.Finding.{earliest_fault}
use Rattle.nddl_hierarchy.specs.Facts.{facts_of}
use Rattle.nddl_resolve.specs.Paths.{Surroundings}
use Rattle.nddl_constructors.specs.Bodies.{sets_faults}
use Rattle.nddl_constructors.specs.Formals.{around_formals}
use Rattle.nddl_constructors.proofs.bodies.note_body_of.Goals as goal

pub returns : goal.returns
returns c =
    let facts = facts_of c.args.basis.now in
    subst
    (λ (around : Surroundings). OnOk c.note_sets.result (c.note_sets.new.first
    ≡ earliest_fault c.args.first.now (sets_faults facts around c.args.decl c.args.entry c.args.sets.now)))
    (c.around_formals-around.ensures ∙ ap around_formals c.in_ok-seen.ensures) c.note_sets.ensures
