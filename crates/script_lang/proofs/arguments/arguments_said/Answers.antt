use Rattle.std.proofs.Common.{length, ◌+◌, sym, ap, subst, arith}
use Rattle.script_lang.specs.Arguing.{NamesArgument}
use Rattle.script_lang.proofs.Arguing.{AnswersFront, named_at, word_within, word_at, none_of, some_of, answered_next, none_said_there}
use Rattle.script_lang.proofs.Placed.{zip_long}
use Rattle.script_lang.proofs.arguments.arguments_said.Goals as goal

pub standing_at-requires : goal.standing_at-requires
standing_at-requires c =
    omega (arith, c.loop-place-test.true, ap length c.as_slice-word-items.ensures, zip_long (NamesArgument c.args.model.now) c.args.words.now c.args.named.now c.requires.named)

pub argument_said-requires-clause-named : goal.argument_said-requires-clause-named
argument_said-requires-clause-named c =
    named_at c.args.model.now c.args.words.now c.args.named.now c.loop-place.place c.word-item.result c.standing_at.result.now c.requires.named
    (word_within c.args.model.now c.args.kind c.args.among c.args.words.now c.as_slice-word-items.result.now c.loop-place.place c.as_slice-word-items.ensures c.loop-place-test.true)
    (word_at c.args.model.now c.args.kind c.args.among c.args.words.now c.as_slice-word-items.result.now c.loop-place.place c.word-item.result c.as_slice-word-items.ensures c.word-item.is)
    c.standing_at.ensures

pub returns-in_default : goal.returns-in_default
returns-in_default c =
    none_said_there c.args.model.now c.args.kind c.args.among c.args.words.now c.loop-place.place c.word-item.result
    (word_within c.args.model.now c.args.kind c.args.among c.args.words.now c.as_slice-word-items.result.now c.loop-place.place c.as_slice-word-items.ensures c.loop-place-test.true)
    (word_at c.args.model.now c.args.kind c.args.among c.args.words.now c.as_slice-word-items.result.now c.loop-place.place c.word-item.result c.as_slice-word-items.ensures c.word-item.is)
    (none_of c.args.model.now c.args.kind c.args.among c.args.words.now c.kind_at-kind.result c.loop-place.place c.word-item.result c.in_ok-said.said c.kind_at-kind.ensures c.in_default.is c.in_ok-said.ensures)

pub loop-place-preserved : goal.loop-place-preserved
loop-place-preserved c =
    subst (AnswersFront c.args.model.now c.args.kind c.args.among c.args.words.now (c.loop-place.place + 1)) (sym c.in_ok-push.ensures.ok)
    (answered_next c.args.model.now c.args.kind c.args.among c.args.words.now c.loop-place.given c.loop-place.place c.word-item.result c.in-Some.argument
    (word_within c.args.model.now c.args.kind c.args.among c.args.words.now c.as_slice-word-items.result.now c.loop-place.place c.as_slice-word-items.ensures c.loop-place-test.true)
    (word_at c.args.model.now c.args.kind c.args.among c.args.words.now c.as_slice-word-items.result.now c.loop-place.place c.word-item.result c.as_slice-word-items.ensures c.word-item.is)
    (some_of c.args.model.now c.args.kind c.args.among c.args.words.now c.kind_at-kind.result c.loop-place.place c.word-item.result c.in_ok-said.said c.in-Some.argument c.kind_at-kind.ensures c.in-Some.is
    c.in_ok-said.ensures) c.loop-place.invariant)
