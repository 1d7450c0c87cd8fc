use Rattle.std.proofs.Common.{arith}
use Rattle.std.proofs.lemmas.Int.{ints}
use Rattle.plan_text.proofs.Texts.{member_is}
use Rattle.plan_text.proofs.writing.member_text.Goals as goal

pub returns : goal.returns
returns c =
    member_is c.args.model.now c.args.number c.args.value c.value_place-place.result c.as_slice.result.now c.index-as_slice-number.result c.as_slice-2.result.now c.index-as_slice-place.result c.as_bytes.result.now
    c.requires c.value_place-place.ensures (omega (arith, ints)) c.as_slice.ensures c.index-as_slice-number.is c.as_slice-2.ensures c.index-as_slice-place.is c.as_bytes.ensures
