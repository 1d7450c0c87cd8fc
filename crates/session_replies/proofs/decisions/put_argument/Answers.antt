use Rattle.std.proofs.Common.{w32, to_z, of_z, codes, refl, subst}
use Rattle.model_core.specs.declared.decision.ConArg.TheVariants.{Var, Value}
use Rattle.plan_text.proofs.Stepping.{kept_is}
use Rattle.session_replies.specs.Writable.{IsArgumentWritable}
use Rattle.session_replies.proofs.Arguing.{value_there, no_kind, value_kept, argument_is, value_put}
use Rattle.session_replies.proofs.Timing.{variable_put}
use Rattle.session_replies.proofs.decisions.put_argument.Goals as goal

pub put_variable-requires : goal.put_variable-requires
put_variable-requires c = subst (IsArgumentWritable c.args.model.now c.args.kind) c.in-Var.is c.requires.writable

pub put_shown-requires-clause-value : goal.put_shown-requires-clause-value
put_shown-requires-clause-value c =
    kept_is c.args.model.now c.in-Some.kind c.in-Value.value c.requires.lawful
    (value_there c.args.model.now c.args.kind c.in-Some.kind c.args.argument.now c.in-Value.value c.in-Value.is c.in-Some.is c.requires.writable)

pub unreachable-requires : goal.unreachable-requires
unreachable-requires c = no_kind c.args.model.now c.args.kind c.args.argument.now c.in-Value.value c.in-Value.is c.in-None.is c.requires.writable

pub returns-in-Var : goal.returns-in-Var
returns-in-Var c =
    argument_is c.args.model.now c.args.kind c.args.argument.now (Var c.in-Var.name) c.args.out.now.items c.put_variable.new.out.items c.put_variable.result c.in-Var.is
    (variable_put c.args.model.now c.in-Var.name c.in-Var.name (codes " ") c.args.out.now.items c.put_variable.new.out.items c.put_variable.result c.requires.lawful refl c.put_variable.ensures)

pub returns-in-Some : goal.returns-in-Some
returns-in-Some c =
    let of = value_there c.args.model.now c.args.kind c.in-Some.kind c.args.argument.now c.in-Value.value c.in-Value.is c.in-Some.is c.requires.writable in
    argument_is c.args.model.now c.args.kind c.args.argument.now (Value c.in-Value.value) c.args.out.now.items c.put_shown.new.out.items c.put_shown.result c.in-Value.is
    (value_put c.args.model.now c.args.kind c.in-Some.kind c.in-Value.value (to_z w32 (of_z w32 c.in-Value.value)) c.args.out.now.items c.put_shown.new.out.items c.put_shown.result c.in-Some.is
    (value_kept c.args.model.now c.in-Some.kind c.in-Value.value c.requires.lawful of) c.put_shown.ensures)
