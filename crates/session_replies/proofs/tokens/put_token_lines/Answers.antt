use Rattle.std.proofs.Common.{ℕ, ◌≡◌, ◌++◌, subst, codes}
use Rattle.std.specs.Fmt.{decimal}
use Rattle.session_replies.specs.Lines.{IsTokenLine, with_line_feed}
use Rattle.session_replies.proofs.Lining.{counted}
use Rattle.session_replies.proofs.tokens.put_token_lines.Goals as goal

pub returns : goal.returns
returns g c =
    counted (IsTokenLine c.args.model.now (g.V.View.state c.args.view.now) (g.V.View.decisions c.args.view.now)) (g.V.View.state c.args.view.now).tokens (codes "tokens")
    c.args.out.now.items c.put_count_line.new.out.items c.put_tokens.new.out.items c.put_tokens.result
    (subst (λ (n : ℕ). c.put_count_line.new.out.items ≡ c.args.out.now.items ++ with_line_feed (codes "tokens" ++ (codes " " ++ decimal n))) c.count.ensures c.in_ok-put_count_line.ensures) c.put_tokens.ensures
