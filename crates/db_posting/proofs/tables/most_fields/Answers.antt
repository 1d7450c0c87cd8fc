use Rattle.std.proofs.Common.{◌≡◌, ◌<◌, ◌≤◌, ◌∙◌, length, get_or, subst, ap, max}
use Rattle.std.specs.Prelude.{All}
use Rattle.std.proofs.lemmas.List.{take_all}
use Rattle.db_posting.proofs.Filling.{HasAtMost, most_more}
use Rattle.db_posting.proofs.tables.most_fields.Goals as goal

pub loop-class-preserved : goal.loop-class-preserved
loop-class-preserved c =
    let loop = c.loop-class in
    let classes = c.args.model.now.classes in
    let items = c.as_slice-class-items.ensures in
    let class = c.class-item.result in
    let below : loop.class-index < length classes = subst (λ list. loop.class-index < length list) items c.loop-class-test.true in
    let is : class ≡ get_or classes loop.class-index class = subst (λ list. class ≡ get_or list loop.class-index class) items c.class-item.is in
    most_more classes loop.class-index loop.most c.max-most.result class below is loop.invariant (c.max-most.ensures ∙ ap (λ n. max n loop.most) c.len.ensures)

pub returns : goal.returns
returns c =
    let loop = c.loop-class in
    let classes = c.args.model.now.classes in
    let all = subst (λ list. length list ≤ loop.class-index) c.as_slice-class-items.ensures c.loop-class-test.false in
    subst (All (HasAtMost loop.most)) (take_all loop.class-index classes all) loop.invariant
