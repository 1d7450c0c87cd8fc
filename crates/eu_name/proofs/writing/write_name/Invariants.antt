use Rattle.std.proofs.Common.{◌≡◌, ◌++◌, string_bytes, take}
use Rattle.std.specs.List.{flat_map}
use Rattle.eu_name.specs.Spelling.{step_text}
use Rattle.eu_name.proofs.writing.write_name.Given as goal

-- the label and the steps before this one are written
abbrev pub invariant-loop-step : goal.invariant-loop-step
invariant-loop-step l = string_bytes l.text ≡ l.name.label ++ flat_map step_text (take l.step-index l.step-items)
