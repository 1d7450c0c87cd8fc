use Rattle.std.proofs.Common.{◌≤◌, [], ◌∷◌, length, take, ◌∙◌, ap, sym, arith, length-append}
use Rattle.std.proofs.lemmas.List.{take-append-le}
use Rattle.token_store.specs.Listed.{lists_of}
use Rattle.db_store.proofs.Listing.{listed_less}
use Rattle.db_store.proofs.watchers.go_back.Goals as goal

pub loop-watches-preserved-in-Some : goal.loop-watches-preserved-in-Some
loop-watches-preserved-in-Some c =
    let rest = c.pop.new.self.items in
    let all = c.loop-watches.watches.items in
    let last = c.in-Some.last in
    let is = c.in-Some.ensures.items in
    let long : c.args.count ≤ length rest = omega (arith, ap length is, length-append rest (last ∷ []), c.loop-watches-test.true, c.len.ensures) in
    record {
      kept = sym (take-append-le c.args.count rest (last ∷ []) long) ∙ (ap (take c.args.count) (sym is) ∙ c.loop-watches.invariant.kept);
      listed = listed_less (lists_of c.loop-watches.lists) (lists_of c.pop-in-Some.new.self) rest last all c.pop-in-Some.ensures is c.loop-watches.invariant.listed;
      long = omega (arith, c.in-Some.ensures.len, c.loop-watches-test.true, c.len.ensures);
    }
