use Rattle.std.proofs.Common.{sym, ◌∙◌, ap}
use Rattle.std.specs.Prelude.{is_some}
use Rattle.eu_name.proofs.Reserved.{is_reserved, reserved_is}
use Rattle.eu_name.proofs.word.is_reserved.Goals as goal

pub returns : goal.returns
returns c =
    let same = c.is_some.ensures ∙ ap is_some c.reserved_of.ensures in (
      λ found. is_reserved c.args.word.now (sym same ∙ found),
      λ spelled. same ∙ reserved_is c.args.word.now spelled,
    )
