use Rattle.std.proofs.Common.{◌≡◌, Option, subst, ℕ, List, OnOk, Result, Ok, Err}
use Rattle.std.specs.declared.alloc.AllocError.{AllocError}
use Rattle.eu_forest.specs.declared.walk.End.{End}
use Rattle.eu_forest.specs.declared.walk.Mark.{Mark}
use Rattle.eu_forest.specs.Walks.{AreWalkable, Climbs, Finishes, IsKnownFrom}
use Rattle.eu_forest.proofs.Telling.{path_there, end_along, walk_tells}
use Rattle.eu_forest.proofs.walk.walk.Goals as goal

pub finish-requires : goal.finish-requires
finish-requires c = rw (c.as_slice.ensures.value) (record {
  there = path_there c.args.parents.now c.args.number c.args.marks.now c.climb.new.marks c.climb.new.path.items c.in_ok-end.end c.in_ok-end.ensures;
  end = end_along c.args.parents.now c.args.number c.args.marks.now c.climb.new.marks c.climb.new.path.items c.in_ok-end.end c.in_ok-end.ensures;
})

-- what a call that finished says
walked : (parents : List (Option ℕ)) (number : ℕ) (old mid new : List Mark) (order ordered path same : List ℕ) (end : End)
    (result : Result (Unit {0}) AllocError)
    → same ≡ path
    → AreWalkable parents old order → Climbs parents number old mid path end → OnOk result (Finishes same end mid order new ordered)
    → OnOk result (AreWalkable parents new ordered) × OnOk result (IsKnownFrom old new number)
walked parents number old mid new order ordered path same end (Ok u) is walkable climbs finishes =
    let P : List ℕ → Type 0 = λ p. Finishes p end mid order new ordered in
    walk_tells parents number old mid new order ordered path end walkable climbs (subst P is finishes)
walked parents number old mid new order ordered path same end (Err e) is walkable climbs finishes = (tt, tt)

pub returns : goal.returns
returns c =
    let both = walked c.args.parents.now c.args.number c.args.marks.now c.climb.new.marks c.finish.new.marks c.args.order.now.items c.finish.new.order.items
    c.climb.new.path.items c.as_slice.result.now c.in_ok-end.end c.finish.result c.as_slice.ensures.value c.requires.told c.in_ok-end.ensures c.finish.ensures in
    record { told = both.0; known = both.1 }
