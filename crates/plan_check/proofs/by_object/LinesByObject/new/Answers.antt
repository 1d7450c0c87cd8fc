use Rattle.std.proofs.Common.{◌≡◌, replicate, None, rules}
use Rattle.plan_check.proofs.Linking.{linked_none}
use Rattle.plan_check.proofs.by_object.LinesByObject.new.Goals as goal

pub returns : goal.returns
returns c = λ listed counted.
    let first : c.in_ok-first.first.items ≡ replicate c.args.objects None = search (rules, c.in_ok-first.ensures.items_if_clones_equal) in
    let next : c.in_ok-next.next.items ≡ replicate c.args.lines None = search (rules, c.in_ok-next.ensures.items_if_clones_equal) in
    linked_none listed c.args.objects c.args.lines _ first next counted
