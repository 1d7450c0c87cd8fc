use Rattle.std.proofs.Common.{◌∙◌, ap}
use Rattle.std.specs.Prelude.{vec_items}
use Rattle.eu_index.specs.Index.{Noted, noted_number}
use Rattle.plan_resolve.proofs.Noting.{found_by}
use Rattle.plan_resolve.proofs.word_index.WordIndex.find.Goals as goal

pub returns : goal.returns
returns c =
    c.copied.ensures ∙ (c.get.ensures.value
    ∙ (found_by vec_items c.self.inside.numbers.entries c.args.word.now ∙ ap (λ (noted : Noted). noted_number noted c.args.word.now) c.self.view_is))
