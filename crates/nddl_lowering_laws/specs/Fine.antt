-- What follows for the text of a rule if nothing is wrong with it.
use Rattle.std.specs.Prelude.{◌≡◌, ℕ, List, []}
use Rattle.std.specs.List.{AllZip, flat_map}
use Rattle.eu_index.specs.Index.{Noted}
use Rattle.nddl_ast.specs.declared.declaration.FileDecls.{FileDecls}
use Rattle.nddl_ast.specs.declared.declaration.PredicatePart.{PredicatePart}
use Rattle.nddl_ast.specs.Block.{statements_of}
use Rattle.nddl_ast.specs.Tree.{Statements}
use Rattle.nddl_hierarchy.specs.Facts.{Facts}
use Rattle.nddl_resolve.specs.Paths.{Surroundings}
use Rattle.nddl_rule_check.specs.Blocks.{block_faults}
use Rattle.nddl_rule_check.specs.Rules.{part_rule_faults}
use Rattle.nddl_laws.specs.Lookups.{IsReadFor, rule_lookups, rule_names, rule_numbered}
use Rattle.nddl_laws.specs.Scoping.{IsGround, RuleGround, sources_in}
use Rattle.nddl_rules.specs.Collected.{part_statements}
use Rattle.nddl_rules.specs.Sight.{no_sight}
use Rattle.nddl_rules.specs.Tally.{no_tally}
use Rattle.nddl_terms.specs.Names.{AreReadInOrder}
use Rattle.nddl_lowering_laws.specs.Scoped.{AreRead, HasFineCalls}

-- in a block with which nothing is wrong calls are fine
abbrev pub BlocksHaveFineCalls : Type 0
BlocksHaveFineCalls =
    (facts : Facts) (decl : ℕ) (around : Surroundings) (own : Noted) (stmts : Statements)
    → block_faults facts decl around own stmts ≡ [] → HasFineCalls stmts

-- and in the body of a predicate
abbrev pub BodiesHaveFineCalls : Type 0
BodiesHaveFineCalls =
    (facts : Facts) (decl : ℕ) (around : Surroundings) (some : List PredicatePart)
    → flat_map (part_rule_faults facts decl around) some ≡ [] → HasFineCalls (statements_of (part_statements some))

-- where each name that is looked up is read, and names are read in order, each is found at its place as what it means there
abbrev pub ReadNamesAreFound : Type 0
ReadNamesAreFound =
    (files : List FileDecls) (ground : RuleGround) (stmts : Statements) → IsGround files ground
    → AreReadInOrder (rule_names ground stmts)
    → AllZip (IsReadFor ground (rule_numbered ground stmts)) (rule_names ground stmts) (rule_lookups ground stmts)
    → AreRead (rule_names ground stmts) (sources_in ground) no_sight no_tally stmts
