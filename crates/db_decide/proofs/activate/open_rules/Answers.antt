use Rattle.std.proofs.Common.{◌≡◌, ◌<◌, List, [], length, Ok, Err, refl, sym, ap, ◌∙◌, subst, arith}
use Rattle.std.proofs.lemmas.Result.{err_from_is_err_and}
use Rattle.model_core.specs.declared.rule.Turn.{Turn}
use Rattle.model_core.specs.Blocks.{IsBlock, block_at}
use Rattle.model_core.specs.Decided.{IsActivated}
use Rattle.model_core.specs.Entries.{Entries}
use Rattle.token_store.specs.Orders.{name_at}
use Rattle.token_store.specs.Tokens.{TokenPast, tokens_now, token_names}
use Rattle.db_opening.specs.Opened.{AskForBlock}
use Rattle.db_posting.specs.Wanted.{ArePreds}
use Rattle.db_posting.specs.Origins.{content_now}
use Rattle.db_posting.proofs.Storing.{marks_both, marks_same}
use Rattle.db_store.specs.Keys.{named_block}
use Rattle.db_decide.proofs.Opened.{adds_same, adds_through, stays_on, next_asked, opened_block, block_stays, opened_there, rule_more}
use Rattle.db_decide.proofs.activate.open_rules.Goals as goal

pub loop-rule-init : goal.loop-rule-init
loop-rule-init c = record {
  underway = λ followed decisions unfolded due under asked. under;
  opens = λ rule below. absurd (omega (arith, below));
  past = refl;
  adds = adds_same c.args.store.now;
  marks = marks_same _;
}

pub open-requires-clause-preds : goal.open-requires-clause-preds
open-requires-clause-preds c = subst (λ (past : TokenPast). ArePreds c.args.model.now (tokens_now past)) (sym c.loop-rule.invariant.past) c.requires.preds

pub open-requires-clause-token : goal.open-requires-clause-token
open-requires-clause-token c = subst (λ (past : TokenPast). c.args.token < length (tokens_now past)) (sym c.loop-rule.invariant.past) c.requires.token

pub open-requires-clause-there : goal.open-requires-clause-there
open-requires-clause-there c =
    subst (λ (path : List Turn). (entries : Entries)
    × IsBlock c.args.model.now (named_block (token_names (tokens_now c.loop-rule.store.past)) (opened_block c.args.token c.loop-rule.rule path)) entries) (sym c.new-path.ensures)
    (subst (λ (past : TokenPast). (entries : Entries) × IsBlock c.args.model.now (named_block (token_names (tokens_now past)) (opened_block c.args.token c.loop-rule.rule [])) entries)
    (sym c.loop-rule.invariant.past) (c.requires.there c.loop-rule.rule c.loop-rule-test.true))

pub loop-rule-preserved : goal.loop-rule-preserved
loop-rule-preserved c =
    let model = c.args.model.now in
    let old = c.args.store.now in
    let loop = c.loop-rule in
    let mid = loop.store in
    let new = c.open.new.store in
    let step = c.in_ok-open.ensures in
    let name = name_at (content_now old).tokens c.args.token in
    let past : new.past ≡ mid.past = step.tokens in
    let named : name_at (content_now mid).tokens c.args.token ≡ name = ap (λ (p : TokenPast). name_at (token_names (tokens_now p)) c.args.token) loop.invariant.past in
    record {
      underway = stays_on model (λ decisions. IsActivated decisions name) (AskForBlock model (content_now mid) (named_block (content_now mid).tokens (opened_block c.args.token loop.rule c.new-path.result)))
          old mid new loop.invariant.underway
          (next_asked model old mid loop.invariant.past c.args.token loop.rule c.new-path.result c.new-path.ensures c.requires.token (c.requires.there loop.rule c.loop-rule-test.true))
          (Ok tt) step.underway;
      opens = rule_more (content_now new) name loop.rule (λ rule below. block_stays mid new past step.adds.blocks (block_at name rule []) (loop.invariant.opens rule below))
          (opened_there name mid new past c.args.token loop.rule c.new-path.result c.new-path.ensures step.open named);
      past = past ∙ loop.invariant.past;
      adds = adds_through old mid new loop.invariant.adds step.adds;
      marks = marks_both old mid new loop.invariant.marks step.marks;
    }

pub returns-clause-open : goal.returns-clause-open
returns-clause-open c = λ rule below. c.loop-rule.invariant.opens rule (omega (arith, below, c.loop-rule-test.false))

pub returns-in_err-open-clause-underway : goal.returns-in_err-open-clause-underway
returns-in_err-open-clause-underway c =
    let model = c.args.model.now in
    let old = c.args.store.now in
    let loop = c.loop-rule in
    let mid = loop.store in
    let name = name_at (content_now old).tokens c.args.token in
    let p = err_from_is_err_and c.from_residual.result c.from_residual.ensures.1 in
    rw (p.1, p.2)
    (stays_on model (λ decisions. IsActivated decisions name) (AskForBlock model (content_now mid) (named_block (content_now mid).tokens (opened_block c.args.token loop.rule c.new-path.result)))
    old mid c.open.new.store loop.invariant.underway
    (next_asked model old mid loop.invariant.past c.args.token loop.rule c.new-path.result c.new-path.ensures c.requires.token (c.requires.there loop.rule c.loop-rule-test.true))
    (Err c.in_err-open.field-0.0) c.in_err-open.ensures.underway)

pub returns-in_err-open-clause-marks : goal.returns-in_err-open-clause-marks
returns-in_err-open-clause-marks c = marks_both c.args.store.now c.loop-rule.store c.open.new.store c.loop-rule.invariant.marks c.in_err-open.ensures.marks
