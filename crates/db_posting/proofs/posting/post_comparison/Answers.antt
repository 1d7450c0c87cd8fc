use Rattle.std.proofs.Common.{sym, ap, ◌∙◌, ◌≡◌, subst}
use Rattle.std.specs.Prelude.{OnOk}
use Rattle.token_store.specs.Orders.{name_at}
use Rattle.plan_defs.specs.Claims.{Claim, at_most, equal}
use Rattle.db_posting.specs.Origins.{content_now, argument_named}
use Rattle.db_posting.specs.Posted.{PostsClaims, compares}
use Rattle.db_posting.proofs.posting.post_comparison.Goals as goal

pub returns-in-AtMost-clause-posted : goal.returns-in-AtMost-clause-posted
returns-in-AtMost-clause-posted c =
    let content = content_now c.args.store.now in
    let names = content.tokens in
    let one = name_at names c.args.one in
    let other = name_at names c.args.other in
    let left = c.part_at.ensures.is names in
    let right = c.part_at-in-AtMost.ensures.is names in
    let same : at_most (argument_named names c.part_at.result) (argument_named names c.part_at-in-AtMost.result) ≡ compares one other c.args.comparison =
    (λ i. at_most (left i) (right i)) ∙ ap (compares one other) (sym c.in-AtMost.is) in
    subst (λ (said : Claim). OnOk c.post_at_most.result (PostsClaims content.names (λ claim. claim ≡ said) c.args.store.now.net.constraints c.post_at_most.new.store.net.constraints)) same c.post_at_most.ensures.posted

pub returns-in-Equal-clause-posted : goal.returns-in-Equal-clause-posted
returns-in-Equal-clause-posted c =
    let content = content_now c.args.store.now in
    let names = content.tokens in
    let one = name_at names c.args.one in
    let other = name_at names c.args.other in
    let left = c.part_at-in-Equal.ensures.is names in
    let right = c.part_at-in-Equal-2.ensures.is names in
    let same : equal (argument_named names c.part_at-in-Equal.result) (argument_named names c.part_at-in-Equal-2.result) ≡ compares one other c.args.comparison =
    (λ i. equal (left i) (right i)) ∙ ap (compares one other) (sym c.in-Equal.is) in
    subst (λ (said : Claim). OnOk c.post_equal.result (PostsClaims content.names (λ claim. claim ≡ said) c.args.store.now.net.constraints c.post_equal.new.store.net.constraints)) same c.post_equal.ensures.posted
