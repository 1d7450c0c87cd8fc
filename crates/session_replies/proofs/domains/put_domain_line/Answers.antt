use Rattle.session_replies.proofs.Declaring.{values_of_kind}
use Rattle.session_replies.proofs.Spacing.{domain_line_put}
use Rattle.session_replies.proofs.domains.put_domain_line.Goals as goal

pub put_variable-requires : goal.put_variable-requires
put_variable-requires c = (c.requires.declared.0, c.requires.declared.1)

pub kind_of-requires : goal.kind_of-requires
kind_of-requires c = (c.requires.declared.0, c.requires.declared.1)

pub put_domain-requires-clause-values : goal.put_domain-requires-clause-values
put_domain-requires-clause-values c = values_of_kind c.args.model.now c.requires.lawful c.args.variable.now c.args.domain.now c.kind_of.result c.requires.declared c.kind_of.ensures

pub returns : goal.returns
returns c =
    domain_line_put c.args.model.now c.args.variable.now c.args.domain.now c.kind_of.result c.args.out.now.items c.put_variable.new.out.items c.put_domain.new.out.items c.put_line_feed.new.out.items c.put_line_feed.result
    c.requires.lawful c.kind_of.ensures c.in_ok-put_variable.ensures c.in_ok-put_domain.ensures c.put_line_feed.ensures
