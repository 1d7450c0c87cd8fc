use Rattle.std.proofs.Common.{◌∙◌, ap, sym, not}
use Rattle.std.specs.Prelude.{is_some}
use Rattle.nddl_construction.proofs.Placing.{once_placed}
use Rattle.nddl_construction.proofs.fields.SetFields.is_set_once.Goals as goal

pub returns-then-is_none : goal.returns-then-is_none
returns-then-is_none c =
    c.is_some.ensures
    ∙ (ap is_some c.find-then-is_none.ensures
    ∙ once_placed c.self.inside.values.items c.args.self.now c.self.inside.places c.self.inside.repeated c.args.name.now
    c.self.invariant.0 c.self.invariant.1 c.self.view_is
    (sym (ap is_some c.find.ensures) ∙ (c.is_none.ensures ∙ ap not c.if-is_none.true)))
