-- What the reader of a text found is the outcome of the text.
use Rattle.nddl_parser.proofs.Outcomes.{outcome_whole, outcome_more, outcome_stuck, outcome_deep}
use Rattle.nddl_parser.proofs.parsing.tree_of.Goals as goal

pub returns-in-None-clause-tree : goal.returns-in-None-clause-tree
returns-in-None-clause-tree c = outcome_whole c.args.end c.args.symbols.now c.new-cursor.result c.text.new.cursor c.in-Ok.tree c.new-cursor.ensures c.in-Ok.ensures c.in-None.ensures

pub returns-in-Some-clause-fault : goal.returns-in-Some-clause-fault
returns-in-Some-clause-fault c = λ other.
    outcome_more c.args.end c.args.symbols.now c.new-cursor.result c.text.new.cursor c.in-Ok.tree c.in-Some.field-0 c.place.result c.new-cursor.ensures c.in-Ok.ensures c.in-Some.ensures c.place.ensures

pub returns-in-Err-Stuck-clause-fault : goal.returns-in-Err-Stuck-clause-fault
returns-in-Err-Stuck-clause-fault c = λ other.
    outcome_stuck c.args.end c.args.symbols.now c.new-cursor.result c.text.new.cursor c.place-in-Err-Stuck.result c.new-cursor.ensures (rw c.in-Err-Stuck.field-0-is at c.in-Err-Stuck.ensures) c.place-in-Err-Stuck.ensures

pub returns-in-Err-Deep-clause-fault : goal.returns-in-Err-Deep-clause-fault
returns-in-Err-Deep-clause-fault c = λ other.
    outcome_deep c.args.end c.args.symbols.now c.new-cursor.result c.text.new.cursor c.place-in-Err-Deep.result c.new-cursor.ensures (rw c.in-Err-Deep.field-0-is at c.in-Err-Deep.ensures) c.place-in-Err-Deep.ensures
