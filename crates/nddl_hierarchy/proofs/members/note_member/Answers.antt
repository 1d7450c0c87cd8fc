use Rattle.nddl_hierarchy.proofs.Placing.{field_noted, predicate_noted}
use Rattle.nddl_hierarchy.proofs.members.note_member.Goals as goal

pub returns-in_ok-note-in-Field : goal.returns-in_ok-note-in-Field
returns-in_ok-note-in-Field c =
    field_noted c.args.place c.args.member.now c.in-Field.typed c.args.places.now.fields c.note.new.self c.args.places.now.predicates
    c.in-Field.is c.in_ok-note-in-Field.ensures.noted

pub returns-in_ok-note-in-Predicate : goal.returns-in_ok-note-in-Predicate
returns-in_ok-note-in-Predicate c =
    predicate_noted c.args.place c.args.member.now c.in-Predicate.at c.in-Predicate.name c.in-Predicate.parts c.args.places.now.predicates
    c.note-in-Predicate.new.self c.args.places.now.fields c.in-Predicate.is c.in_ok-note-in-Predicate.ensures.noted
