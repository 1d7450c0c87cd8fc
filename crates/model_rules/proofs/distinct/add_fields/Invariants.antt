use Rattle.std.specs.Prelude.{take}
use Rattle.model_rules.specs.Distinct.{HasFields}
use Rattle.model_rules.proofs.distinct.add_fields.Given as goal

-- the fields of the classes so far are there
abbrev pub invariant-loop-number : goal.invariant-loop-number
invariant-loop-number l = HasFields (take l.number l.classes) l.names
