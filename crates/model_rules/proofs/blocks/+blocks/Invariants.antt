use Rattle.std.specs.Prelude.{◌≡◌, ◌++◌, ◌↔◌, drop}
use Rattle.model_core.specs.Block.{plain_entries}
use Rattle.model_rules.specs.Nested.{AreLawfulEntries, names_of}
use Rattle.model_rules.proofs.blocks.+blocks.Given as goal

-- the entries are lawful if those that are left are
abbrev pub invariant-is_lawful_block-loop-entry : goal.invariant-is_lawful_block-loop-entry
invariant-is_lawful_block-loop-entry l = record {
  seen : l.seen.items ≡ l.outer ++ names_of (plain_entries l.entries);
  left : AreLawfulEntries l.judge.model.now l.judge.pred l.judge.rule.now l.depth l.seen.items (plain_entries l.entries)
      ↔ AreLawfulEntries l.judge.model.now l.judge.pred l.judge.rule.now l.depth l.seen.items (plain_entries (drop l.entry-index l.entries));
}
