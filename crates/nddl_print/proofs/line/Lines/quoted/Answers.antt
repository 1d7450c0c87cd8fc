use Rattle.std.proofs.Common.{◌++◌, ap, ◌∙◌, sym}
use Rattle.std.proofs.lemmas.Result.{on_ok_weaker}
use Rattle.nddl_print.specs.Words.{Quoted}
use Rattle.nddl_print.proofs.Spaced.{spaced_one}
use Rattle.nddl_print.proofs.Printed.{quoted_text}
use Rattle.nddl_print.proofs.line.Lines.quoted.Goals as goal

pub returns : goal.returns
returns c =
    on_ok_weaker c.word.result
    (λ last. quoted_text c.args.self.now c.append.new.self c.append-2.new.self c.word.new.self c.args.inside.now c.in_ok-append.ensures c.in_ok-append-2.ensures last
    ∙ ap (λ text. c.args.self.now ++ text) (sym (spaced_one (Quoted c.args.inside.now)))) c.word.ensures
