use Rattle.std.proofs.Common.{◌∙◌, ap, sym}
use Rattle.nddl_hierarchy.specs.Facts.{facts_of}
use Rattle.nddl_resolve.specs.Predicates.{class_predicate}
use Rattle.nddl_resolve.proofs.Adding.{line_predicate_same}
use Rattle.nddl_resolve.proofs.predicates.class_predicate.Goals as goal

pub returns-in_ok-line-in-Entry : goal.returns-in_ok-line-in-Entry
returns-in_ok-line-in-Entry c =
    let facts = facts_of c.args.basis.now in
    c.line_predicate.ensures
    ∙ (line_predicate_same facts c.args.name.now c.in-Entry.entry c.in_ok-line-in-Entry.line.items c.as_slice.result.now
    c.in_ok-line-in-Entry.ensures c.as_slice.ensures.value
    ∙ ap (class_predicate facts c.args.name.now) (sym c.in-Entry.is))
