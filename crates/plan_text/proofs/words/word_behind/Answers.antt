use Rattle.std.proofs.Common.{Some, None}
use Rattle.std.proofs.lemmas.Bool.Decides.{Decides-eqb}
use Rattle.std.proofs.lemmas.Slice.Eq.{strip_prefix_is}
use Rattle.plan_text.proofs.Cutting.{behind_gap, has_no_gap}
use Rattle.plan_text.proofs.words.word_behind.Goals as goal

pub returns-in-Some : goal.returns-in-Some
returns-in-Some c =
    behind_gap _ _ c.args.gap.now c.args.text.now c.in-Some.after.now c.first_word.result
    (strip_prefix_is Decides-eqb c.args.text.now c.args.gap.now (Some c.in-Some.after) c.in-Some.ensures.cases) c.first_word.ensures

pub returns-in-None : goal.returns-in-None
returns-in-None c = has_no_gap c.args.gap.now c.args.text.now (strip_prefix_is Decides-eqb c.args.text.now c.args.gap.now None c.in-None.ensures.cases)
