use Rattle.nddl_lexer.proofs.Walks.{read_more}
use Rattle.nddl_lexer.proofs.lexing.lex.Goals as goal

pub loop-at-preserved : goal.loop-at-preserved
loop-at-preserved c = record {
  read = read_more c.args.text.now _ _ _ _ c.loop-at.invariant.read c.in_ok-front.ensures.within.1 c.in_ok-front.ensures.piece.0 c.in_ok-front.ensures.piece.1 _ c.in_ok-keep.ensures.ok;
  within = c.in_ok-front.ensures.within.1;
}
