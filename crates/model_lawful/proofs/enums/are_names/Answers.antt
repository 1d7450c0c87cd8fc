use Rattle.std.proofs.Common.{All, map, sym, subst}
use Rattle.eu_name.specs.Word.{IsName}
use Rattle.model_typing.proofs.Telling.{told_as}
use Rattle.model_rules.proofs.Adding.{map_same}
use Rattle.model_lawful.proofs.enums.are_names.Goals as goal

pub returns : goal.returns
returns c =
    told_as c.have_form.result (All IsName (map (λ text. text) c.args.texts.now)) (All IsName c.args.texts.now)
    (subst (All IsName) (map_same c.args.texts.now)) (subst (All IsName) (sym (map_same c.args.texts.now))) c.have_form.ensures
