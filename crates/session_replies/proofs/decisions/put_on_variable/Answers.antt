use Rattle.std.proofs.Common.{w32, to_z, of_z, arith}
use Rattle.std.proofs.lemmas.Int.{ints}
use Rattle.plan_text.proofs.Stepping.{kept_is}
use Rattle.session_replies.proofs.Declaring.{declared_of_kind}
use Rattle.session_replies.proofs.Commanding.{declared_base, on_variable_put}
use Rattle.session_replies.proofs.decisions.put_on_variable.Goals as goal

pub put_variable-requires : goal.put_variable-requires
put_variable-requires c = declared_base c.args.model.now c.args.name.now c.args.value c.requires.declared

pub kind_of-requires : goal.kind_of-requires
kind_of-requires c = declared_base c.args.model.now c.args.name.now c.args.value c.requires.declared

pub put_shown-requires-clause-value : goal.put_shown-requires-clause-value
put_shown-requires-clause-value c =
    kept_is c.args.model.now c.kind_of.result c.args.value c.requires.lawful (declared_of_kind c.args.model.now c.requires.lawful c.args.name.now c.kind_of.result c.args.value c.requires.declared c.kind_of.ensures)

pub returns : goal.returns
returns c =
    on_variable_put c.args.model.now c.args.first.now c.args.name.now c.kind_of.result c.args.value (to_z w32 (of_z w32 c.args.value)) c.args.out.now.items c.put_text.new.out.items c.put_variable.new.out.items c.put_shown.new.out.items c.put_shown.result
    (omega (arith, ints)) c.requires.lawful c.kind_of.ensures c.in_ok-put_text.ensures c.in_ok-put_variable.ensures c.put_shown.ensures
