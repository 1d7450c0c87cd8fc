use Rattle.plan_report.proofs.Answering.{syntax_answer, twice_answer, unknown_answer}
use Rattle.plan_report.proofs.texts.fault_reply.Goals as goal

pub returns-in-Syntax : goal.returns-in-Syntax
returns-in-Syntax c = syntax_answer c.args.fault c.in-Syntax.at c.fault_line.result c.in-Syntax.is c.fault_line.ensures

pub returns-in-Twice : goal.returns-in-Twice
returns-in-Twice c = twice_answer c.args.fault c.in-Twice.at c.fault_line-in-Twice.result c.in-Twice.is c.fault_line-in-Twice.ensures

pub returns-in-Unknown : goal.returns-in-Unknown
returns-in-Unknown c = unknown_answer c.args.fault c.in-Unknown.at c.fault_line-in-Unknown.result c.in-Unknown.is c.fault_line-in-Unknown.ensures
