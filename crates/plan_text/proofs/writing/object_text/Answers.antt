use Rattle.std.proofs.Common.{arith}
use Rattle.std.proofs.lemmas.Int.{ints}
use Rattle.plan_text.proofs.Texts.{object_is}
use Rattle.plan_text.proofs.writing.object_text.Goals as goal

pub returns : goal.returns
returns c =
    object_is c.args.model.now c.args.value c.value_place-place.result c.as_slice.result.now c.index-as_slice-place.result c.as_bytes.result.now
    c.requires c.value_place-place.ensures (omega (arith, ints)) c.as_slice.ensures c.as_bytes.ensures
