use Rattle.std.proofs.Common.{refl}
use Rattle.nddl_hierarchy.specs.Facts.{facts_of}
use Rattle.nddl_resolve.specs.Paths.{around_of}
use Rattle.nddl_rule_check.proofs.Seeing.{sees_same}
use Rattle.nddl_rule_check.proofs.Steps.{goes_on_at, declared_on, called_on, tested_on, turned_on}
use Rattle.nddl_rule_check.proofs.blocks.+judging.Goals as goal

pub note_stmt-returns-in-Variable-clause-faults : goal.note_stmt-returns-in-Variable-clause-faults
note_stmt-returns-in-Variable-clause-faults t c =
    let facts = facts_of c.args.spot.now.basis in
    let decl = c.args.spot.now.decl in
    goes_on_at facts decl c.args.visible.now c.note_local.new.visible c.args.own.now c.note_local.new.own
    _ c.args.stmt.now c.args.first.now c.note_local.new.first c.note_local.result c.in-Variable.is
    (declared_on facts decl c.args.visible.now c.note_local.new.visible c.args.own.now c.note_local.new.own
    c.in-Variable.variable c.args.first.now c.note_local.new.first c.note_local.result c.note_local.ensures.faults
    c.note_local.ensures.seen c.note_local.ensures.noted)

pub note_stmt-returns-in-Call-clause-faults : goal.note_stmt-returns-in-Call-clause-faults
note_stmt-returns-in-Call-clause-faults t c =
    let facts = facts_of c.args.spot.now.basis in
    let decl = c.args.spot.now.decl in
    goes_on_at facts decl c.args.visible.now c.args.visible.now c.args.own.now c.args.own.now
    _ c.args.stmt.now c.args.first.now c.note_rule_call.new.first c.note_rule_call.result c.in-Call.is
    (called_on facts decl c.args.visible.now (around_of c.around.result) c.args.own.now c.in-Call.call
    c.args.first.now c.note_rule_call.new.first c.note_rule_call.result c.around.ensures c.note_rule_call.ensures)

pub note_stmt-returns-in_ok-note_block-in-If-clause-faults :
    goal.note_stmt-returns-in_ok-note_block-in-If-clause-faults
note_stmt-returns-in_ok-note_block-in-If-clause-faults t c =
    let facts = facts_of c.args.spot.now.basis in
    let decl = c.args.spot.now.decl in
    goes_on_at facts decl c.args.visible.now c.note_otherwise.new.visible c.args.own.now c.args.own.now
    _ c.args.stmt.now c.args.first.now c.note_otherwise.new.first c.note_otherwise.result c.in-If.is
    (tested_on facts decl c.args.visible.now (around_of c.around-in-If.result) c.note_block.new.visible
    c.note_otherwise.new.visible c.args.own.now c.in-If.at c.in-If.condition c.in-If.then c.in-If.otherwise c.args.first.now
    c.note_condition.new.first c.note_block.new.first c.note_otherwise.new.first c.note_otherwise.result c.around-in-If.ensures
    c.in_ok-note_condition-in-If.ensures c.in_ok-note_block-in-If.ensures.faults c.in_ok-note_block-in-If.ensures.seen
    c.note_otherwise.ensures.faults c.note_otherwise.ensures.seen)

pub note_stmt-returns-in-Foreach-clause-faults : goal.note_stmt-returns-in-Foreach-clause-faults
note_stmt-returns-in-Foreach-clause-faults t c =
    let facts = facts_of c.args.spot.now.basis in
    let decl = c.args.spot.now.decl in
    goes_on_at facts decl c.args.visible.now c.note_turns.new.visible c.args.own.now c.args.own.now
    _ c.args.stmt.now c.args.first.now c.note_turns.new.first c.note_turns.result c.in-Foreach.is
    (turned_on facts decl c.args.visible.now c.note_turns.new.visible c.args.own.now c.in-Foreach.at
    c.in-Foreach.variable c.in-Foreach.class c.in-Foreach.body c.args.first.now c.note_turns.new.first c.note_turns.result
    c.note_turns.ensures.faults c.note_turns.ensures.seen)

pub note_stmts-loop-stmt-init : goal.note_stmts-loop-stmt-init
note_stmts-loop-stmt-init t c = (refl, sees_same c.args.visible.now)
