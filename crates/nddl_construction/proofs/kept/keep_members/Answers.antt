use Rattle.nddl_hierarchy.specs.Facts.{facts_of}
use Rattle.nddl_construction.proofs.KeptTypes.{more_kept}
use Rattle.nddl_construction.proofs.kept.keep_members.Goals as goal

pub loop-member-preserved : goal.loop-member-preserved
loop-member-preserved c =
    more_kept (facts_of c.args.basis.now) c.args.number c.args.places.now c.loop-member.places c.keep_member.new.places
    c.args.meanings.now.items c.loop-member.meanings.items c.keep_member.new.meanings.items c.loop-member.invariant
    c.in_ok-keep_member.ensures
