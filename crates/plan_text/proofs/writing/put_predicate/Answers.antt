use Rattle.plan_text.proofs.Predicates.{class_within, predicate_put}
use Rattle.plan_text.proofs.writing.put_predicate.Goals as goal

pub bounds-as_slice-pred : goal.bounds-as_slice-pred
bounds-as_slice-pred c = class_within c.args.model.now c.args.number c.as_slice.result.now c.index-as_slice-number.result c.as_slice-2.result.now c.requires.lawful c.requires.there c.as_slice.ensures c.index-as_slice-number.is c.as_slice-2.ensures

pub returns : goal.returns
returns c =
    predicate_put c.args.model.now c.args.number c.as_slice.result.now c.index-as_slice-number.result c.as_slice-2.result.now c.index-as_slice-pred.result c.as_bytes.result.now c.as_bytes-2.result.now
    c.args.out.now.items c.put_word.new.out.items c.put_word-2.new.out.items c.put_word-2.result c.requires.lawful c.requires.there c.as_slice.ensures c.index-as_slice-number.is c.as_slice-2.ensures c.index-as_slice-pred.is
    c.as_bytes.ensures c.as_bytes-2.ensures c.in_ok-put_word.ensures c.put_word-2.ensures
