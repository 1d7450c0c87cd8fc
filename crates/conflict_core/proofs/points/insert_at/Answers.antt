use Rattle.conflict_core.proofs.Ordering.{point_added}
use Rattle.conflict_core.proofs.points.insert_at.Goals as goal

pub returns : goal.returns
returns c =
    point_added c.args.points.now.items c.args.point.now c.in_ok-copied.copied c.args.place c.insert.new.self.items c.requires.are c.requires.place c.requires.missing
    c.in_ok-copied.ensures c.in_ok-insert.ensures.items
