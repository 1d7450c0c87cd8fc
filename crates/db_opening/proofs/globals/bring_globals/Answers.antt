use Rattle.std.proofs.Common.{◌≤◌, List, length, take, get_or, sym, subst, arith}
use Rattle.std.proofs.lemmas.List.{take_more, length-take-le}
use Rattle.model_core.specs.declared.variable.VarDecl.{VarDecl}
use Rattle.db_opening.specs.Bringing.{BringsKeys}
use Rattle.db_opening.specs.Beginning.{WantsGlobal}
use Rattle.db_opening.proofs.Declaring.{is_global, globals_more}
use Rattle.db_opening.proofs.globals.bring_globals.Goals as goal

pub loop-number-preserved : goal.loop-number-preserved
loop-number-preserved c =
    let globals = c.args.globals.now in
    let number = c.loop-number.number in
    let variable = c.index-globals-number.result in
    let below = c.loop-number-test.true in
    let here = get_or globals number variable in
    let within : number ≤ length globals = omega (arith, below) in
    subst (λ (list : List VarDecl). BringsKeys (WantsGlobal list) c.args.store.now c.bring_variable.new.store) (sym (take_more globals number variable below))
    (globals_more (take number globals) here number (length-take-le number globals within) c.args.store.now c.loop-number.store c.bring_variable.new.store
    c.loop-number.invariant (subst (λ (v : VarDecl). BringsKeys (is_global number v) c.loop-number.store c.bring_variable.new.store) c.index-globals-number.is
    c.in_ok-bring_variable.ensures.brings))
