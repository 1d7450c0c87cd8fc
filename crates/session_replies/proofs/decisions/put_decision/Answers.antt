use Rattle.std.proofs.Common.{ℤ, List, sym, subst, codes}
use Rattle.std.specs.Prelude.{OnOk}
use Rattle.model_core.specs.declared.decision.ConArg.{ConArg}
use Rattle.model_core.specs.declared.decision.Decision.TheVariants.{Specify, Activate, Merge, Reject, Order, Constrain, Relate}
use Rattle.plan_defs.specs.Refusals.{IsDeclared}
use Rattle.session_replies.specs.Lines.{IsLineOnVariable, IsPostLine}
use Rattle.session_replies.specs.Writable.{IsPostWritable, IsWritable}
use Rattle.session_replies.specs.Written.{Writes}
use Rattle.session_replies.proofs.Commanding.{declared_kept, decision_line}
use Rattle.session_replies.proofs.decisions.put_decision.Goals as goal

pub put_on_variable-requires-clause-declared : goal.put_on_variable-requires-clause-declared
put_on_variable-requires-clause-declared c =
    let declared = subst (IsWritable c.args.model.now) c.in-Specify.is c.requires.writable in
    subst (IsDeclared c.args.model.now c.in-Specify.name) (sym (declared_kept c.args.model.now c.in-Specify.name c.in-Specify.value c.requires.lawful declared)) declared

pub put_on_token-requires-clause-there : goal.put_on_token-requires-clause-there
put_on_token-requires-clause-there c = subst (IsWritable c.args.model.now) c.in-Activate.is c.requires.writable

pub put_on_tokens-requires-clause-one : goal.put_on_tokens-requires-clause-one
put_on_tokens-requires-clause-one c = (subst (IsWritable c.args.model.now) c.in-Merge.is c.requires.writable).0

pub put_on_tokens-requires-clause-other : goal.put_on_tokens-requires-clause-other
put_on_tokens-requires-clause-other c = (subst (IsWritable c.args.model.now) c.in-Merge.is c.requires.writable).1

pub put_on_token-requires-in-Reject-clause-there : goal.put_on_token-requires-in-Reject-clause-there
put_on_token-requires-in-Reject-clause-there c = subst (IsWritable c.args.model.now) c.in-Reject.is c.requires.writable

pub put_on_tokens-requires-in-Order-clause-one : goal.put_on_tokens-requires-in-Order-clause-one
put_on_tokens-requires-in-Order-clause-one c = (subst (IsWritable c.args.model.now) c.in-Order.is c.requires.writable).0

pub put_on_tokens-requires-in-Order-clause-other : goal.put_on_tokens-requires-in-Order-clause-other
put_on_tokens-requires-in-Order-clause-other c = (subst (IsWritable c.args.model.now) c.in-Order.is c.requires.writable).1

pub returns-in-Specify : goal.returns-in-Specify
returns-in-Specify c =
    decision_line c.args.model.now c.args.decision.now (Specify c.in-Specify.name c.in-Specify.value) c.args.out.now.items c.put_on_variable.new.out.items c.put_on_variable.result c.in-Specify.is
    (subst (λ (v : ℤ). OnOk c.put_on_variable.result (Writes (IsLineOnVariable c.args.model.now (codes "specify") c.in-Specify.name v) c.args.out.now.items c.put_on_variable.new.out.items))
    (declared_kept c.args.model.now c.in-Specify.name c.in-Specify.value c.requires.lawful (subst (IsWritable c.args.model.now) c.in-Specify.is c.requires.writable)) c.put_on_variable.ensures)

pub returns-in-Activate : goal.returns-in-Activate
returns-in-Activate c =
    decision_line c.args.model.now c.args.decision.now (Activate c.in-Activate.token) c.args.out.now.items c.put_on_token.new.out.items c.put_on_token.result c.in-Activate.is c.put_on_token.ensures

pub returns-in-Merge : goal.returns-in-Merge
returns-in-Merge c =
    decision_line c.args.model.now c.args.decision.now (Merge c.in-Merge.token c.in-Merge.target) c.args.out.now.items c.put_on_tokens.new.out.items c.put_on_tokens.result c.in-Merge.is c.put_on_tokens.ensures

pub returns-in-Reject : goal.returns-in-Reject
returns-in-Reject c =
    decision_line c.args.model.now c.args.decision.now (Reject c.in-Reject.token) c.args.out.now.items c.put_on_token-in-Reject.new.out.items c.put_on_token-in-Reject.result c.in-Reject.is c.put_on_token-in-Reject.ensures

pub returns-in-Order : goal.returns-in-Order
returns-in-Order c =
    decision_line c.args.model.now c.args.decision.now (Order c.in-Order.one c.in-Order.other) c.args.out.now.items c.put_on_tokens-in-Order.new.out.items c.put_on_tokens-in-Order.result c.in-Order.is c.put_on_tokens-in-Order.ensures

pub put_post-requires-clause-writable : goal.put_post-requires-clause-writable
put_post-requires-clause-writable c =
    subst (IsPostWritable c.args.model.now c.in-Constrain.kind) (sym c.as_slice.ensures) (subst (IsWritable c.args.model.now) c.in-Constrain.is c.requires.writable)

pub put_relate-requires-clause-one : goal.put_relate-requires-clause-one
put_relate-requires-clause-one c = (subst (IsWritable c.args.model.now) c.in-Relate.is c.requires.writable).0

pub put_relate-requires-clause-other : goal.put_relate-requires-clause-other
put_relate-requires-clause-other c = (subst (IsWritable c.args.model.now) c.in-Relate.is c.requires.writable).1

pub returns-in-Constrain : goal.returns-in-Constrain
returns-in-Constrain c =
    decision_line c.args.model.now c.args.decision.now (Constrain c.in-Constrain.kind c.in-Constrain.arguments) c.args.out.now.items c.put_post.new.out.items c.put_post.result c.in-Constrain.is
    (subst (λ (arguments : List ConArg). OnOk c.put_post.result (Writes (IsPostLine c.args.model.now c.in-Constrain.kind arguments) c.args.out.now.items c.put_post.new.out.items)) c.as_slice.ensures
    c.put_post.ensures)

pub returns-in-Relate : goal.returns-in-Relate
returns-in-Relate c =
    decision_line c.args.model.now c.args.decision.now (Relate c.in-Relate.relation c.in-Relate.one c.in-Relate.other) c.args.out.now.items c.put_relate.new.out.items c.put_relate.result c.in-Relate.is c.put_relate.ensures
