use Rattle.std.proofs.Common.{All, map, sym, subst}
use Rattle.model_lawful.specs.Naming.{IsOwnName}
use Rattle.model_typing.proofs.Telling.{told_as}
use Rattle.model_rules.proofs.Adding.{map_same}
use Rattle.model_lawful.proofs.naming.are_own.Goals as goal

pub returns : goal.returns
returns c =
    told_as c.have_form.result (All IsOwnName (map (λ text. text) c.args.texts.now)) (All IsOwnName c.args.texts.now)
    (subst (All IsOwnName) (map_same c.args.texts.now)) (subst (All IsOwnName) (sym (map_same c.args.texts.now))) c.have_form.ensures
