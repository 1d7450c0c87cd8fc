use Rattle.std.proofs.Common.{◌≡◌, ap}
use Rattle.model_core.specs.declared.variable.VarDecl.{VarDecl}
use Rattle.model_typing.proofs.Telling.{told_as}
use Rattle.model_lawful.specs.Alike.{HaveSameParts}
use Rattle.model_lawful.proofs.equal.is_same_variable.Goals as goal

pub returns : goal.returns
returns c =
    told_as c.have_same_parts.result (HaveSameParts c.args.one.now c.args.other.now) (c.args.one.now ≡ c.args.other.now)
    (λ parts i. record { name = parts.names i; kind = parts.kinds i; base = parts.bases i })
    (λ same. record { names = ap (λ (v : VarDecl). v.name) same; kinds = ap (λ (v : VarDecl). v.kind) same; bases = ap (λ (v : VarDecl). v.base) same })
    c.have_same_parts.ensures
