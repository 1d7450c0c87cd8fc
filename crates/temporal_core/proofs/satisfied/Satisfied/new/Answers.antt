use Rattle.temporal_core.proofs.Satisfying.{satisfied_nothing}
use Rattle.temporal_core.proofs.satisfied.Satisfied.new.Goals as goal

pub returns : goal.returns
returns c = record { few = c.requires; graph = c.in_ok-new.ensures; values = satisfied_nothing c.args.points c.in_ok-vec.field-0.items (c.in_ok-vec.ensures.items_if_clones_equal (λ value same. same)) }
