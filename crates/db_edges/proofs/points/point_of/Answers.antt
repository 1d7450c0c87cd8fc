use Rattle.db_edges.proofs.points.point_of.Goals as goal

pub returns-in-None : goal.returns-in-None
returns-in-None c = λ point is. c.in-None.ensures is.0 is.1
