use Rattle.std.proofs.Common.{arith}
use Rattle.plan_core.proofs.Wholes.{text_reads, text_plan, kept_named, kept_once}
use Rattle.plan_core.proofs.reading.read_indexed.Goals as goal

pub answer-requires-clause-named : goal.answer-requires-clause-named
answer-requires-clause-named c = kept_named c.whole_text-read.result c.whole_text-read.new.known.keys c.whole_text-read.new.said.items c.whole_text-read.ensures.kept

pub answer-requires-clause-once : goal.answer-requires-clause-once
answer-requires-clause-once c = kept_once c.whole_text-read.result c.whole_text-read.new.known.keys c.whole_text-read.new.said.items c.whole_text-read.ensures.kept

pub returns-clause-reads : goal.returns-clause-reads
returns-clause-reads c =
    text_reads c.args.model.now c.args.text.now c.whole_text-read.new.cursor.rest.now c.whole_text-read.result c.whole_text-read.new.said.items c.answer.result c.whole_text-read.ensures.text c.answer.ensures

pub returns-clause-plan : goal.returns-clause-plan
returns-clause-plan c =
    text_plan c.args.model.now c.args.text.now c.whole_text-read.new.cursor.rest.now c.whole_text-read.result c.whole_text-read.new.said.items c.answer.result (let small = c.requires.small in omega (arith, small)) c.whole_text-read.ensures.text c.answer.ensures
