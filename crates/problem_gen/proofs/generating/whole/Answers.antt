use Rattle.std.proofs.Common.{◌++◌, ap, ◌∙◌, string_bytes}
use Rattle.problem_gen.specs.Generated.{frame_text}
use Rattle.problem_gen.proofs.Goals.{next_goal}
use Rattle.problem_gen.proofs.generating.whole.Goals as goal

pub loop-number-preserved : goal.loop-number-preserved
loop-number-preserved c =
    next_goal c.args.count c.loop-number.number (frame_text c.args.count) (string_bytes c.loop-number.text)
    (string_bytes c.in_ok-goal.field-0) (string_bytes c.push_str.new.self) c.loop-number.invariant
    c.in_ok-goal.ensures (c.in_ok-push_str.ensures.bytes ∙ ap (λ piece. string_bytes c.loop-number.text ++ piece) c.as_str.ensures.value)
