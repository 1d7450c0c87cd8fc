use Rattle.std.proofs.Common.{◌∙◌, ap}
use Rattle.std.specs.Prelude.{vec_items}
use Rattle.plan_resolve.specs.Noting.{noted_by}
use Rattle.plan_resolve.proofs.Noting.{put_behind}
use Rattle.plan_resolve.proofs.word_index.put_new.Goals as goal

pub returns : goal.returns
returns c = ap (noted_by vec_items) c.in_ok-insert.ensures.entries ∙ put_behind vec_items c.args.numbers.now.entries c.args.word c.args.number c.requires
