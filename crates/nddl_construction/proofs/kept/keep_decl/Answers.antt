use Rattle.nddl_hierarchy.specs.Facts.{facts_of}
use Rattle.nddl_construction.proofs.KeptTypes.{declaration_kept}
use Rattle.nddl_construction.proofs.kept.keep_decl.Goals as goal

pub returns-clause-kept : goal.returns-clause-kept
returns-clause-kept c =
    declaration_kept (facts_of c.args.basis.now) c.args.number c.in_ok-found.found c.args.types.now
    (record { places = c.push.new.self; meanings = c.decl_places.new.meanings }) c.requires c.in_ok-push.ensures.items
    c.in_ok-found.ensures
