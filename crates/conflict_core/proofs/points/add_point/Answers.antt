use Rattle.std.proofs.Common.{List, sym, subst}
use Rattle.std.specs.Prelude.{Contains}
use Rattle.db_edges.specs.declared.edge.Point.{Point}
use Rattle.conflict_core.specs.Points.{ArePoints, IsPlaceOf}
use Rattle.conflict_core.proofs.Ordering.{point_there}
use Rattle.conflict_core.proofs.points.add_point.Goals as goal

pub missing_place-requires : goal.missing_place-requires
missing_place-requires c = subst ArePoints (sym c.as_slice.ensures.value) c.requires

pub returns-in-None : goal.returns-in-None
returns-in-None c = point_there c.args.points.now.items c.as_slice.result.now c.args.point.now c.as_slice.ensures.value c.requires c.in-None.ensures

pub insert_at-requires-clause-place : goal.insert_at-requires-clause-place
insert_at-requires-clause-place c =
    subst (λ (list : List Point). IsPlaceOf list c.args.point.now c.in-Some.place) c.as_slice.ensures.value c.in-Some.ensures.0

pub insert_at-requires-clause-missing : goal.insert_at-requires-clause-missing
insert_at-requires-clause-missing c = λ there.
    c.in-Some.ensures.1 (subst (λ (list : List Point). Contains list c.args.point.now) (sym c.as_slice.ensures.value) there)
