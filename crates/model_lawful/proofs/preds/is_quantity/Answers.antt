use Rattle.std.proofs.Common.{◌≡◌, ap}
use Rattle.model_core.specs.declared.variable.VarDecl.{VarDecl}
use Rattle.model_core.specs.Lawful.{quantity}
use Rattle.model_typing.proofs.Telling.{told_as}
use Rattle.model_lawful.specs.Alike.{HaveSameParts}
use Rattle.model_lawful.proofs.preds.is_quantity.Goals as goal

pub returns : goal.returns
returns c =
    told_as c.is_like_quantity.result (HaveSameParts c.args.variable.now quantity) (c.args.variable.now ≡ quantity)
    (λ parts i. record { name = parts.names i; kind = parts.kinds i; base = parts.bases i })
    (λ same. record { names = ap (λ (v : VarDecl). v.name) same; kinds = ap (λ (v : VarDecl). v.kind) same; bases = ap (λ (v : VarDecl). v.base) same })
    c.is_like_quantity.ensures
