use Rattle.std.proofs.Common.{◌↔◌, length, All}
use Rattle.std.specs.List.{slice_split}
use Rattle.eu_name.specs.Word.{IsName}
use Rattle.model_core.specs.Naming.{is_point}
use Rattle.plan_text.proofs.value_words.is_path_word.Given as goal

-- whatever the rest is, the whole word is
abbrev pub invariant-loop-name : goal.invariant-loop-name
invariant-loop-name l = All IsName (slice_split is_point l.word) ↔ All IsName (slice_split is_point l.rest)

abbrev pub decreases-loop-name : goal.decreases-loop-name
decreases-loop-name l = length l.rest
