use Rattle.std.proofs.Common.{◌≡◌, ◌≤◌, take, vec_len}
use Rattle.db_store.specs.Watching.{AreListedUnder}
use Rattle.db_store.proofs.watchers.go_back.Given as goal

abbrev pub invariant-loop-watches : goal.invariant-loop-watches
invariant-loop-watches l = record {
  kept : take l.count l.watches.items ≡ take l.count l.fn.watches.items;
  listed : AreListedUnder l.watches.items l.lists;
  long : l.count ≤ vec_len l.watches;
}

abbrev pub decreases-loop-watches : goal.decreases-loop-watches
decreases-loop-watches l = vec_len l.watches
