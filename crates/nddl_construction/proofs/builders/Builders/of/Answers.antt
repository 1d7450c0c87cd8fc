use Rattle.std.proofs.Common.{sym, ◌∙◌}
use Rattle.std.proofs.lemmas.List.{length-map}
use Rattle.nddl_hierarchy.specs.Facts.{facts_of}
use Rattle.nddl_construction.proofs.Finding.{table_whole}
use Rattle.nddl_construction.proofs.builders.Builders.of.Goals as goal

pub returns : goal.returns
returns c =
    table_whole (facts_of c.args.basis.now) (record { bodies = c.in_ok-bodies.bodies; entries = c.in_ok-entries.entries })
    c.in_ok-bodies.ensures (c.in_ok-entries.ensures.each ∙ sym (length-map c.args.basis.now.decls.now (λ decl. decl.now)))
    c.in_ok-entries.ensures.found
