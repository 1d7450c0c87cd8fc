use Rattle.std.proofs.Common.{ap, ◌∙◌}
use Rattle.nddl_hierarchy.specs.Facts.{facts_of}
use Rattle.nddl_hierarchy.specs.Members.{field_declared}
use Rattle.nddl_construction.proofs.KeptTypes.{kept_after}
use Rattle.nddl_construction.proofs.kept.keep_field.Goals as goal

pub returns-in-Some : goal.returns-in-Some
returns-in-Some c =
    kept_after (facts_of c.args.basis.now) c.args.number c.args.name.now c.in-Some.typed.now c.args.places.now
    c.keep_typed.new.places c.args.meanings.now.items c.keep_typed.new.meanings.items c.keep_typed.result
    (c.in-Some.ensures
    ∙ ap (λ program. field_declared program c.args.number c.args.name.now) c.args.basis.now.are_members)
    c.keep_typed.ensures.places c.keep_typed.ensures.meanings
