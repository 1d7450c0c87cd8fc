use Rattle.std.proofs.Common.{subst, refl}
use Rattle.plan_defs.specs.Terms.{InRule}
use Rattle.token_store.specs.Orders.{name_at}
use Rattle.db_refine.specs.Coming.{IsTermThere}
use Rattle.db_posting.specs.Origins.{content_now}
use Rattle.db_posting.proofs.arguments.rule_argument.Goals as goal

pub part_argument-requires : goal.part_argument-requires
part_argument-requires c =
    let content = content_now c.args.store.now in
    (c.requires.token, subst (IsTermThere content (InRule (name_at content.tokens c.args.token) c.args.rule)) c.in-Here.is c.requires.there _ refl)

pub slot_argument-requires-clause-there : goal.slot_argument-requires-clause-there
slot_argument-requires-clause-there c =
    let content = content_now c.args.store.now in
    subst (IsTermThere content (InRule (name_at content.tokens c.args.token) c.args.rule)) c.in-Slot.is c.requires.there _ refl

pub variable_at-requires-clause-there : goal.variable_at-requires-clause-there
variable_at-requires-clause-there c =
    let content = content_now c.args.store.now in
    subst (IsTermThere content (InRule (name_at content.tokens c.args.token) c.args.rule)) c.in-Local.is c.requires.there _ refl

pub variable_at-requires-in-Global-clause-there : goal.variable_at-requires-in-Global-clause-there
variable_at-requires-in-Global-clause-there c =
    let content = content_now c.args.store.now in
    subst (IsTermThere content (InRule (name_at content.tokens c.args.token) c.args.rule)) c.in-Global.is c.requires.there _ refl

pub root_argument-requires : goal.root_argument-requires
root_argument-requires c =
    let content = content_now c.args.store.now in
    subst (IsTermThere content (InRule (name_at content.tokens c.args.token) c.args.rule)) c.in-Root.is c.requires.there _ refl
