use Rattle.std.proofs.Common.{ℕ, List, None, subst}
use Rattle.db_store.specs.Findable.{FindsExpected}
use Rattle.db_store.specs.Puts.{FindsItem}
use Rattle.db_store.specs.declared.key.VarKey.{VarKey}
use Rattle.db_store.proofs.Found.{found_whole}
use Rattle.db_store.proofs.keys.Keys.find.Goals as goal

pub returns-in-None : goal.returns-in-None
returns-in-None c =
    let inside = c.self.inside in
    let none = subst (λ (all : List VarKey). FindsExpected inside.starts.items all c.args.key None) c.as_slice.ensures.value
    (subst (λ (starts : List ℕ). FindsExpected starts c.as_slice.result.now c.args.key None) c.as_slice-2.ensures.value c.in-None.ensures) in
    subst (λ (all : List VarKey). FindsItem all c.args.key c.find_other.result) c.self.view_is
    (found_whole inside.starts.items inside.all.items inside.others.entries c.args.key c.find_other.result c.self.invariant none c.find_other.ensures)
