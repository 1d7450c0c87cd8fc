use Rattle.std.proofs.Common.{arith}
use Rattle.std.proofs.lemmas.Bool.Decides.{nat_tests}
use Rattle.plan_text.proofs.Cutting.{has_first}
use Rattle.plan_text.proofs.words.first_word.Goals as goal

pub returns : goal.returns
returns c =
    has_first c.args.text.now c.split_at.result.0.now c.split_at.result.1.now c.word_len.result c.word_len.ensures.len c.split_at.ensures.front c.split_at.ensures.back (grind (arith, nat_tests))
