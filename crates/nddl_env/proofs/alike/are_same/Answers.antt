use Rattle.std.proofs.Common.{◌∙◌, sym}
use Rattle.std.specs.Cmp.Rules.{signed_items}
use Rattle.nddl_env.proofs.alike.are_same.Goals as goal

pub returns-then-one-other : goal.returns-then-one-other
returns-then-one-other c = λ told. (signed_items c.args.one.now c.args.other.now).0 (sym c.eq.ensures ∙ told)
