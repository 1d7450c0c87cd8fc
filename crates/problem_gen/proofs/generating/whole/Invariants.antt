use Rattle.std.proofs.Common.{◌≡◌, ◌++◌, string_bytes}
use Rattle.problem_gen.specs.Generated.{frame_text, goals_before}
use Rattle.problem_gen.proofs.generating.whole.Given as goal

abbrev pub invariant-loop-number : goal.invariant-loop-number
invariant-loop-number l = string_bytes l.text ≡ frame_text l.count ++ goals_before l.count l.number
