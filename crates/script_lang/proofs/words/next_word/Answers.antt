use Rattle.std.proofs.Common.{ℕ, not, take, drop, ◌∙◌, ap, arith}
use Rattle.std.proofs.lemmas.Bool.Decides.{nat_tests}
use Rattle.std.proofs.lemmas.List.Sums.{prefix_len-le-length}
use Rattle.script_lang.specs.Words.{is_separator}
use Rattle.script_lang.proofs.Parts.{next_part, no_part}
use Rattle.script_lang.proofs.words.next_word.Goals as goal

pub split_at-requires : goal.split_at-requires
split_at-requires c = omega (arith, c.blank_count.ensures, prefix_len-le-length is_separator c.args.line.now)

pub returns-then-is_empty-clause-none : goal.returns-then-is_empty-clause-none
returns-then-is_empty-clause-none c =
    no_part is_separator c.args.line.now c.split_at.result.1.now
    (c.split_at.ensures.back ∙ ap (λ n. drop n c.args.line.now) c.blank_count.ensures)
    (grind (arith, nat_tests))

pub split_at-requires-2 : goal.split_at-requires-2
split_at-requires-2 c = omega (arith, c.word_length.ensures, prefix_len-le-length (λ (byte : ℕ). not (is_separator byte)) c.split_at.result.1.now)

pub returns-clause-some : goal.returns-clause-some
returns-clause-some c =
    next_part is_separator c.args.line.now c.split_at.result.1.now _ c.split_at-2.result.1.now
    (c.split_at.ensures.back ∙ ap (λ n. drop n c.args.line.now) c.blank_count.ensures)
    (grind (arith, nat_tests))
    (c.split_at-2.ensures.front ∙ ap (λ n. take n c.split_at.result.1.now) c.word_length.ensures)
    (c.split_at-2.ensures.back ∙ ap (λ n. drop n c.split_at.result.1.now) c.word_length.ensures)
