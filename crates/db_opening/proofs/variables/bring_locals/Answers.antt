use Rattle.std.proofs.Common.{◌<◌, List, [], length, take, get_or, sym, subst, ◌∙◌}
use Rattle.std.proofs.lemmas.List.{take_more, take_all}
use Rattle.std.proofs.lemmas.List.Elements.{Contains-get_or}
use Rattle.std.proofs.lemmas.Result.{err_from_is_err_and}
use Rattle.eu_name.specs.declared.name.VarName.{VarName}
use Rattle.token_store.specs.Tokens.{TokenPast, tokens_now}
use Rattle.db_opening.specs.Bringing.{BringsKeys}
use Rattle.db_posting.specs.Wanted.{WantsLocals}
use Rattle.db_opening.proofs.Locals.{no_locals, locals_more, local_fails, local_at}
use Rattle.db_posting.proofs.Storing.{marks_same, marks_both}
use Rattle.db_opening.proofs.variables.bring_locals.Goals as goal

pub loop-local-init : goal.loop-local-init
loop-local-init g c = record {
  brings = no_locals c.args.model.now c.args.pred c.args.at.token c.args.at.rule g.owner c.args.store.now;
  marks = marks_same _;
}

pub number_of-requires : goal.number_of-requires
number_of-requires g c =
    let it = c.requires.1 c.loop-local.local-index c.local-item.result c.loop-local-test.true in
    (g.owner, (c.args.at.rule, it.number, c.local-item.is ∙ it.is))

pub bring_local-requires-clause-token : goal.bring_local-requires-clause-token
bring_local-requires-clause-token g c =
    subst (λ (past : TokenPast). c.args.at.token < length (tokens_now past)) (sym c.loop-local.invariant.brings.rest.past) c.requires.0

pub bring_local-requires-clause-declared : goal.bring_local-requires-clause-declared
bring_local-requires-clause-declared g c =
    (local_at c.args.model.now c.args.pred c.args.at.rule g.owner c.args.locals.now c.loop-local.local-index c.number_of.result c.local-item.result
    c.requires.1 c.loop-local-test.true (λ owner rule number is. c.number_of.ensures owner rule number (c.local-item.is ∙ is))).1

pub loop-local-preserved : goal.loop-local-preserved
loop-local-preserved g c =
    let locals = c.args.locals.now in
    let index = c.loop-local.local-index in
    let at = local_at c.args.model.now c.args.pred c.args.at.rule g.owner locals index c.number_of.result c.local-item.result
    c.requires.1 c.loop-local-test.true (λ owner rule number is. c.number_of.ensures owner rule number (c.local-item.is ∙ is)) in
    record {
      brings = subst (λ (list : List VarName). BringsKeys (WantsLocals c.args.model.now c.args.pred c.args.at.token c.args.at.rule g.owner list) c.args.store.now c.bring_local.new.store)
          (sym (take_more locals index c.local-item.result c.loop-local-test.true))
          (locals_more c.args.model.now c.args.pred c.args.at.token c.args.at.rule g.owner (take index locals) locals (get_or locals index c.local-item.result) c.number_of.result at.0
          c.args.store.now c.loop-local.store c.bring_local.new.store c.loop-local.invariant.brings c.in_ok-bring_local.ensures.brings);
      marks = marks_both _ _ _ c.loop-local.invariant.marks c.in_ok-bring_local.ensures.marks;
    }

pub returns-clause-brings : goal.returns-clause-brings
returns-clause-brings g c =
    let locals = c.args.locals.now in
    subst (λ (list : List VarName). BringsKeys (WantsLocals c.args.model.now c.args.pred c.args.at.token c.args.at.rule g.owner list) c.args.store.now c.loop-local.store)
    (take_all c.loop-local.local-index locals c.loop-local-test.false) c.loop-local.invariant.brings

pub returns-in_err-bring_local-clause-brings : goal.returns-in_err-bring_local-clause-brings
returns-in_err-bring_local-clause-brings g c =
    let locals = c.args.locals.now in
    let index = c.loop-local.local-index in
    let at = local_at c.args.model.now c.args.pred c.args.at.rule g.owner locals index c.number_of.result c.local-item.result
    c.requires.1 c.loop-local-test.true (λ owner rule number is. c.number_of.ensures owner rule number (c.local-item.is ∙ is)) in
    let p = err_from_is_err_and c.from_residual.result c.from_residual.ensures.1 in
    rw (p.1, p.2)
    (local_fails c.args.model.now c.args.pred c.args.at.token c.args.at.rule g.owner [] locals (get_or locals index c.local-item.result) c.number_of.result at.0
    (Contains-get_or locals index c.local-item.result c.loop-local-test.true) c.args.store.now c.loop-local.store c.bring_local.new.store c.in_err-bring_local.field-0.0
    c.in_err-bring_local.ensures.brings)

pub returns-in_err-bring_local-clause-marks : goal.returns-in_err-bring_local-clause-marks
returns-in_err-bring_local-clause-marks g c =
    marks_both _ _ _ c.loop-local.invariant.marks c.in_err-bring_local.ensures.marks
