-- The depth that is left decides how a block is read.
use Rattle.std.proofs.Common.{◌≡◌, ◌+◌, ◌-◌, ◌<◌, suc, true, false, sym, subst, ◌∙◌, arith}
use Rattle.nddl_ast.specs.Tree.{Braces}
use Rattle.eu_name.specs.declared.word.Reserved.TheVariants as keywords
use Rattle.nddl_grammar.specs.declared.sort.Sort.TheVariants as sorts
use Rattle.nddl_grammar.specs.Readers.{Outcome, begins, is, IsFound}
use Rattle.nddl_grammar.specs.Productions.{begins_stmt, stmt, statements}
use Rattle.nddl_grammar.proofs.Depth.{block_none, block_some, else_other, else_deep, else_some}
use Rattle.nddl_grammar.proofs.Walking.{onward_start, onward_step}
use Rattle.nddl_grammar.proofs.blocks.+blocks.Goals as goal

pub block-returns-then-left-eq0 : goal.block-returns-then-left-eq0
block-returns-then-left-eq0 t c =
    subst (λ (o : Outcome Braces). IsFound c.too_deep.result c.too_deep.new.cursor o) (λ i. sym (block_none c.args.left c.if-left-eq0.true) i c.args.cursor.now) c.too_deep.ensures

pub block-returns : goal.block-returns
block-returns t c =
    let some : 0 < c.args.left = omega arith in
    subst (λ (o : Outcome Braces). IsFound c.braces.result c.braces.new.cursor o) (λ i. sym (block_some c.args.left some) i c.args.cursor.now) c.braces.ensures

pub else_block-returns-then-not-is_at : goal.else_block-returns-then-not-is_at
else_block-returns-then-not-is_at t c =
    let other : begins (is (sorts.Word keywords.If)) c.args.cursor.now ≡ false = cc in
    subst (λ (o : Outcome Braces). IsFound c.block.result c.block.new.cursor o) (sym (else_other c.args.left c.args.cursor.now other)) c.block.ensures

pub else_block-returns-then-left-eq0 : goal.else_block-returns-then-left-eq0
else_block-returns-then-left-eq0 t c =
    let there : begins (is (sorts.Word keywords.If)) c.args.cursor.now ≡ true = cc in
    subst (λ (o : Outcome Braces). IsFound c.too_deep.result c.too_deep.new.cursor o) (sym (else_deep c.args.left c.args.cursor.now c.if-left-eq0.true there)) c.too_deep.ensures

pub else_block-returns : goal.else_block-returns
else_block-returns t c =
    let there : begins (is (sorts.Word keywords.If)) c.args.cursor.now ≡ true = cc in
    let some : 0 < c.args.left = omega arith in
    subst (λ (o : Outcome Braces). IsFound c.lone_if.result c.lone_if.new.cursor o) (sym (else_some c.args.left c.args.cursor.now some there)) c.lone_if.ensures

pub statements-loop-turn-init : goal.statements-loop-turn-init
unfolding statements
statements-loop-turn-init t c =
    let some : c.len-turn-end.result - 0 ≡ c.len-turn-end.result = omega arith in
    rw c.new-stmts.ensures (onward_start begins_stmt (stmt c.args.left) (c.len-turn-end.result - 0) c.args.cursor.now (some ∙ c.len-turn-end.ensures))

pub statements-loop-turn-preserved : goal.statements-loop-turn-preserved
statements-loop-turn-preserved t c =
    let one : c.len-turn-end.result - c.loop-turn.turn ≡ suc (c.len-turn-end.result - (c.loop-turn.turn + 1)) = omega arith in
    let starts : begins begins_stmt c.loop-turn.cursor ≡ true = cc in
    onward_step _ _ _ _ _ _ _ _ c.in_ok-stmt.stmt _ c.loop-turn.invariant one starts c.in_ok-stmt.ensures c.in_ok-push.ensures.ok
