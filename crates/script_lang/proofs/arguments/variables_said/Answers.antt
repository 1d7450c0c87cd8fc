use Rattle.std.proofs.Common.{List, ◌+◌, take, sym, subst}
use Rattle.std.specs.List.{AllZip}
use Rattle.model_core.specs.declared.decision.ConArg.{ConArg}
use Rattle.script_lang.specs.Arguing.{NamesArgument}
use Rattle.script_lang.proofs.Arguing.{named_next}
use Rattle.script_lang.proofs.arguments.variables_said.Goals as goal

pub loop-word-preserved : goal.loop-word-preserved
loop-word-preserved c =
    let items = c.as_slice-word-items.result.now in
    subst (λ (named : List ConArg). AllZip (NamesArgument c.args.model.now) (take (c.loop-word.word-index + 1) items) named) (sym c.in_ok-push.ensures.ok)
    (named_next c.args.model.now items c.loop-word.named c.loop-word.word-index c.word-item.result c.in_ok-variable_said.field-0 c.loop-word-test.true (sym c.word-item.is) c.in_ok-variable_said.ensures
    c.loop-word.invariant)
