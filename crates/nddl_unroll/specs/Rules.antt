-- The rules of a model.
use Rattle.std.specs.Prelude.{List, [], map}
use Rattle.model_core.specs.declared.class.Object.{Object}
use Rattle.model_core.specs.declared.rule.Rule.{Rule}
use Rattle.nddl_terms.specs.PlainTree.{PlainTree}
use Rattle.nddl_terms.specs.declared.growth.Growth.{Growth}
use Rattle.nddl_terms.specs.declared.lexicon.Lexicon.{Lexicon}
use Rattle.nddl_terms.specs.Growth.{no_growth}
use Rattle.nddl_terms.specs.Readings.{Readings, no_places}
use Rattle.nddl_unroll.specs.Blocks.{filled_block, unrolled}
use Rattle.nddl_unroll.specs.Places.{text_places}

-- what is known where the rule is unrolled of which this is the text
abbrev pub tree_readings : Lexicon → List Object → PlainTree → Readings
tree_readings lexicon objects tree = record {
  lexicon = lexicon;
  objects = objects;
  names = tree.names;
  places = text_places tree.body no_places;
  pred = tree.pred;
}

-- the rule that has this
abbrev pub grown_rule : Growth → Rule
grown_rule growth = record { top = filled_block growth; slots = growth.slots; locals = growth.locals }

-- The rule of which this is the text: what its statements stand for, where the rule has nothing before them.
abbrev pub tree_rule : Lexicon → List Object → PlainTree → Rule
tree_rule lexicon objects tree = grown_rule (unrolled (tree_readings lexicon objects tree) [] tree.body no_growth)

-- the rules of these texts
abbrev pub tree_rules : Lexicon → List Object → List PlainTree → List Rule
tree_rules lexicon objects trees = map (tree_rule lexicon objects) trees
