use Rattle.nddl_ast.specs.Block.{statements_of}
use Rattle.nddl_rules.specs.Reads.{sources_of}
use Rattle.nddl_rules.proofs.Steps.{ask_on, call_on, local_on, reads_at, reads_none, reads_step, tests_on, turns_on}
use Rattle.nddl_rules.proofs.blocks.+naming.Goals as goal

pub push_stmt_names-returns-in-Variable : goal.push_stmt_names-returns-in-Variable
push_stmt_names-returns-in-Variable t c =
    reads_at (sources_of c.args.sources.now) c.args.sight.now c.push_local_names.new.sight c.args.tally.now c.push_local_names.new.tally
    c.args.names.now c.push_local_names.new.names _ c.args.stmt.now c.push_local_names.result c.in-Variable.is
    (local_on (sources_of c.args.sources.now) c.args.sight.now c.push_local_names.new.sight c.args.tally.now c.push_local_names.new.tally
    c.args.names.now c.push_local_names.new.names c.in-Variable.variable c.push_local_names.result c.push_local_names.ensures.names
    c.push_local_names.ensures.tally c.push_local_names.ensures.seen)

pub push_stmt_names-returns-in-Call : goal.push_stmt_names-returns-in-Call
push_stmt_names-returns-in-Call t c =
    reads_at (sources_of c.args.sources.now) c.args.sight.now c.args.sight.now c.args.tally.now c.push_call_names.new.tally
    c.args.names.now c.push_call_names.new.names _ c.args.stmt.now c.push_call_names.result c.in-Call.is
    (call_on (sources_of c.args.sources.now) c.args.sight.now c.args.tally.now c.push_call_names.new.tally
    c.args.names.now c.push_call_names.new.names c.in-Call.call c.push_call_names.result c.push_call_names.ensures.names
    c.push_call_names.ensures.tally)

pub push_stmt_names-returns-in-Ask : goal.push_stmt_names-returns-in-Ask
push_stmt_names-returns-in-Ask t c =
    reads_at (sources_of c.args.sources.now) c.args.sight.now c.push_ask_names.new.sight c.args.tally.now c.push_ask_names.new.tally
    c.args.names.now c.push_ask_names.new.names _ c.args.stmt.now c.push_ask_names.result c.in-Ask.is
    (ask_on (sources_of c.args.sources.now) c.args.sight.now c.push_ask_names.new.sight c.args.tally.now c.push_ask_names.new.tally
    c.args.names.now c.push_ask_names.new.names c.in-Ask.ask c.push_ask_names.result c.push_ask_names.ensures.names
    c.push_ask_names.ensures.tally c.push_ask_names.ensures.seen)

pub push_stmt_names-returns-in_ok-push_block_names-in-If : goal.push_stmt_names-returns-in_ok-push_block_names-in-If
push_stmt_names-returns-in_ok-push_block_names-in-If t c =
    reads_at (sources_of c.args.sources.now) c.args.sight.now c.push_otherwise_names.new.sight c.args.tally.now
    c.push_otherwise_names.new.tally c.args.names.now c.push_otherwise_names.new.names _ c.args.stmt.now c.push_otherwise_names.result c.in-If.is
    (tests_on (sources_of c.args.sources.now) c.args.sight.now c.push_block_names.new.sight c.push_otherwise_names.new.sight
    c.args.tally.now c.push_block_names.new.tally c.push_otherwise_names.new.tally c.args.names.now c.push_condition_read.new.names
    c.push_block_names.new.names c.push_otherwise_names.new.names c.in-If.at c.in-If.condition c.in-If.then c.in-If.otherwise
    c.push_otherwise_names.result c.in_ok-push_condition_read-in-If.ensures c.in_ok-push_block_names-in-If.ensures.names
    c.in_ok-push_block_names-in-If.ensures.tally c.in_ok-push_block_names-in-If.ensures.seen c.push_otherwise_names.ensures.names
    c.push_otherwise_names.ensures.tally c.push_otherwise_names.ensures.seen)

pub push_stmt_names-returns-in_ok-push_scope_read-in-Foreach :
    goal.push_stmt_names-returns-in_ok-push_scope_read-in-Foreach
push_stmt_names-returns-in_ok-push_scope_read-in-Foreach t c =
    reads_at (sources_of c.args.sources.now) c.args.sight.now c.push_turns_names.new.sight c.args.tally.now c.push_turns_names.new.tally
    c.args.names.now c.push_turns_names.new.names _ c.args.stmt.now c.push_turns_names.result c.in-Foreach.is
    (turns_on (sources_of c.args.sources.now) c.args.sight.now c.push_turns_names.new.sight c.args.tally.now c.push_turns_names.new.tally
    c.args.names.now c.push_scope_read.new.names c.push_turns_names.new.names c.in-Foreach.at c.in-Foreach.variable
    c.in-Foreach.class c.in-Foreach.body c.push_turns_names.result c.in_ok-push_scope_read-in-Foreach.ensures
    c.push_turns_names.ensures.names c.push_turns_names.ensures.tally c.push_turns_names.ensures.seen)

pub push_stmts_names-loop-stmt-init : goal.push_stmts_names-loop-stmt-init
push_stmts_names-loop-stmt-init t c =
    reads_none (sources_of c.args.sources.now) c.args.sight.now c.args.tally.now c.args.names.now (statements_of c.args.stmts.now)

pub push_stmts_names-loop-stmt-preserved : goal.push_stmts_names-loop-stmt-preserved
push_stmts_names-loop-stmt-preserved t c =
    reads_step (sources_of c.args.sources.now) c.args.sight.now c.loop-stmt.sight c.push_stmt_names.new.sight c.args.tally.now
    c.loop-stmt.tally c.push_stmt_names.new.tally c.args.names.now c.loop-stmt.names c.push_stmt_names.new.names c.args.stmts.now
    c.loop-stmt.stmt-index c.stmt-item.result c.loop-stmt-test.true c.stmt-item.is c.in_ok-push_stmt_names.ensures c.loop-stmt.invariant
