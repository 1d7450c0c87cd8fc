use Rattle.std.proofs.Common.{◌≤◌, reverse, vec_len}
use Rattle.token_store.specs.Kept.{AreKeptTokens}
use Rattle.token_store.specs.Listed.{lists_of}
use Rattle.token_store.proofs.Past.{IsReturning}
use Rattle.token_store.proofs.returning.go_back.Given as goal

abbrev pub invariant-loop-tokens : goal.invariant-loop-tokens
invariant-loop-tokens l = record {
  returning : IsReturning l.initial.tokens.entries (reverse l.initial.trail.items) l.tokens.entries (reverse l.trail.items);
  kept : AreKeptTokens l.tokens.entries (reverse l.trail.items) l.by_rank.items (lists_of l.children);
  long : l.behind ≤ vec_len l.trail;
}

abbrev pub decreases-loop-tokens : goal.decreases-loop-tokens
decreases-loop-tokens l = vec_len l.trail
