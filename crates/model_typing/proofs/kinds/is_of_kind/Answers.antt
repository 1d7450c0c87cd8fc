use Rattle.std.proofs.Common.{◌≡◌, Some, sym, subst}
use Rattle.model_core.specs.Kinds.{IsOfKind}
use Rattle.model_typing.specs.Terms.{IsNamed, scope_of}
use Rattle.model_typing.proofs.Telling.{told_as}
use Rattle.model_typing.proofs.kinds.is_of_kind.Goals as goal

pub returns-in-Global : goal.returns-in-Global
returns-in-Global c =
    let just = c.named_kind.ensures (subst IsNamed (sym c.in-Global.is) tt) in
    told_as c.is_just.result (c.named_kind.result ≡ Some c.args.kind) (IsOfKind c.args.model.now (scope_of c.args.scope) c.args.kind c.args.term)
    (just c.args.kind).1 (just c.args.kind).0 c.is_just.ensures

pub returns-in-Root : goal.returns-in-Root
returns-in-Root c =
    let just = c.named_kind-in-Root.ensures (subst IsNamed (sym c.in-Root.is) tt) in
    told_as c.is_just-in-Root.result (c.named_kind-in-Root.result ≡ Some c.args.kind) (IsOfKind c.args.model.now (scope_of c.args.scope) c.args.kind c.args.term)
    (just c.args.kind).1 (just c.args.kind).0 c.is_just-in-Root.ensures

pub returns-in-Here : goal.returns-in-Here
returns-in-Here c =
    let just = c.named_kind-in-Here.ensures (subst IsNamed (sym c.in-Here.is) tt) in
    told_as c.is_just-in-Here.result (c.named_kind-in-Here.result ≡ Some c.args.kind) (IsOfKind c.args.model.now (scope_of c.args.scope) c.args.kind c.args.term)
    (just c.args.kind).1 (just c.args.kind).0 c.is_just-in-Here.ensures

pub returns-in-Slot : goal.returns-in-Slot
returns-in-Slot c =
    let just = c.named_kind-in-Slot.ensures (subst IsNamed (sym c.in-Slot.is) tt) in
    told_as c.is_just-in-Slot.result (c.named_kind-in-Slot.result ≡ Some c.args.kind) (IsOfKind c.args.model.now (scope_of c.args.scope) c.args.kind c.args.term)
    (just c.args.kind).1 (just c.args.kind).0 c.is_just-in-Slot.ensures

pub returns-in-Local : goal.returns-in-Local
returns-in-Local c =
    let just = c.named_kind-in-Local.ensures (subst IsNamed (sym c.in-Local.is) tt) in
    told_as c.is_just-in-Local.result (c.named_kind-in-Local.result ≡ Some c.args.kind) (IsOfKind c.args.model.now (scope_of c.args.scope) c.args.kind c.args.term)
    (just c.args.kind).1 (just c.args.kind).0 c.is_just-in-Local.ensures
