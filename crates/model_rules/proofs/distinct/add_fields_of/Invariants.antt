use Rattle.std.specs.Prelude.{map, take}
use Rattle.model_rules.specs.Distinct.{HasMore, field_key}
use Rattle.model_rules.proofs.distinct.add_fields_of.Given as goal

abbrev pub invariant-loop-field : goal.invariant-loop-field
invariant-loop-field l = HasMore l.initial.names (map (field_key l.class) (take l.field-index l.fields)) l.names
