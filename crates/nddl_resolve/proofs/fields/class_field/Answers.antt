use Rattle.std.proofs.Common.{◌∙◌, ap, sym}
use Rattle.nddl_hierarchy.specs.Facts.{facts_of}
use Rattle.nddl_resolve.specs.Fields.{class_field}
use Rattle.nddl_resolve.proofs.Adding.{line_field_same}
use Rattle.nddl_resolve.proofs.fields.class_field.Goals as goal

pub returns-in_ok-line-in-Entry : goal.returns-in_ok-line-in-Entry
returns-in_ok-line-in-Entry c =
    let facts = facts_of c.args.basis.now in
    c.line_field.ensures
    ∙ (line_field_same facts c.args.constant c.args.name.now c.in-Entry.entry c.in_ok-line-in-Entry.line.items c.as_slice.result.now
    c.in_ok-line-in-Entry.ensures c.as_slice.ensures.value
    ∙ ap (class_field facts c.args.constant c.args.name.now) (sym c.in-Entry.is))
