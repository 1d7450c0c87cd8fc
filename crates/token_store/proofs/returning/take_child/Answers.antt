use Rattle.std.proofs.Common.{sym, subst}
use Rattle.token_store.specs.Tokens.{token_names}
use Rattle.token_store.specs.Kept.{HaveChildren}
use Rattle.token_store.specs.Listed.{lists_of}
use Rattle.token_store.specs.Pieces.{FindsParent}
use Rattle.token_store.proofs.Children.{children_taken, children_less}
use Rattle.token_store.proofs.returning.take_child.Goals as goal

pub returns-in-Some : goal.returns-in-Some
returns-in-Some c =
    let names = token_names c.args.tokens.now.entries in
    subst (HaveChildren names) (sym c.pop.ensures)
    (children_taken names c.args.name (lists_of c.args.children.now) c.in-Some.parent c.requires (subst (FindsParent names c.args.name) c.in-Some.is c.parent_of.ensures))

pub returns-in_default : goal.returns-in_default
returns-in_default c =
    let names = token_names c.args.tokens.now.entries in
    children_less names c.args.name (lists_of c.args.children.now) c.requires (subst (FindsParent names c.args.name) c.in_default.is c.parent_of.ensures)
