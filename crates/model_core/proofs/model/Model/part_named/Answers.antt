use Rattle.std.proofs.lemmas.Bool.{false≢true}
use Rattle.model_core.proofs.Lookups.{no_part}
use Rattle.model_core.proofs.model.Model.part_named.Goals as goal

pub returns-in_err-param_named : goal.returns-in_err-param_named
returns-in_err-param_named c =
    rw c.from_residual.ensures (no_part c.args.self.now c.args.pred c.args.word.now
    (λ is. absurd (false≢true (c.if-is_same_word.ensures.1 is))) (λ is. absurd (false≢true (c.if-is_same_word-2.ensures.1 is))) (λ is. absurd (false≢true (c.if-is_same_word-3.ensures.1 is))) (λ is. absurd (false≢true (c.if-is_same_word-4.ensures.1 is)))
    c.in_err-param_named.ensures)
