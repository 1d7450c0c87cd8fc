use Rattle.std.proofs.Common.{subst}
use Rattle.model_rules.specs.Distinct.{AddsNew}
use Rattle.model_rules.proofs.Adding.{adds_new}
use Rattle.model_rules.proofs.seen.Seen.add.Goals as goal

pub returns : goal.returns
returns g c =
    subst (λ old. AddsNew old c.args.key c.in_ok-_place.is_new c.insert_full.new.self.keys) c.self.view_is
    (adds_new _ c.requires c.self.inside.keys.keys c.insert_full.new.self.keys c.args.key c.in_ok-_place.is_new c.in_ok-_place.ensures.added c.in_ok-_place.ensures.keys)
