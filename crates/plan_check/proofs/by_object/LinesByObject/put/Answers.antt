use Rattle.std.proofs.Common.{◌≡◌, ◌<◌, Option, None, ℕ, length, get_or, set, refl, ap, arith}
use Rattle.std.proofs.lemmas.List.{get_or_read}
use Rattle.plan_check.proofs.Linking.{linked_put, linked_outside}
use Rattle.plan_check.proofs.by_object.LinesByObject.put.Goals as goal

pub returns-then-object-len : goal.returns-then-object-len
returns-then-object-len c = λ listed count on linked.
    let old = c.args.self.now in
    let within : c.args.object < length old.first.items = omega (arith, old.first.ok.0) in
    let read : c.index.result.now ≡ get_or old.first.items c.args.object None = get_or_read old.first.items c.args.object c.index.result.now within c.index.ensures None in
    linked_put listed count c.args.place old _ c.args.object within c.requires on refl (ap (λ (link : Option ℕ). set old.next.items c.args.place link) read) linked

pub returns-else-object-len : goal.returns-else-object-len
returns-else-object-len c = λ listed count on linked.
    linked_outside listed count c.args.place c.args.self.now c.args.object (omega (arith, c.args.self.now.first.ok.0)) on linked
