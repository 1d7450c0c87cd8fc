use Rattle.std.proofs.Common.{map, sym, ◌∙◌}
use Rattle.nddl_hierarchy.proofs.Placing.{found_at, found_nowhere}
use Rattle.nddl_hierarchy.proofs.members.found_field.Goals as goal

pub returns-in-Some : goal.returns-in-Some
returns-in-Some c =
    c.field_at.ensures
    ∙ found_at (map (λ decl. decl.now) c.args.decls.now) c.args.places.now c.args.number c.in-Some.place c.args.name.now c.requires
    (sym c.in-Some.is ∙ c.field_place.ensures)

pub returns-in-None : goal.returns-in-None
returns-in-None c =
    found_nowhere (map (λ decl. decl.now) c.args.decls.now) c.args.places.now c.args.number c.args.name.now c.requires
    (sym c.in-None.is ∙ c.field_place.ensures)
