-- A small lawful model for orders and merges: three tokens of one track, two of a node that each ask for one more of the same, and
-- one that asks for a token of a class without objects.
-- As text: `class Track extends Timeline { predicate Run { } } class Node { predicate Link { } predicate Lost { } }
-- class Ghost { predicate Sign { } } Node::Link { any(Node.Link next); } Node::Lost { any(Ghost.Sign sign); }
-- PlannerConfig config = new PlannerConfig(0, 10, 100); Track track = new Track(); Node node = new Node(); goal(track.Run one);
-- goal(track.Run two); goal(track.Run three); goal(node.Link link); goal(node.Link other); rejectable(node.Lost lost);
-- int [0 10] x; int [0 10] y; int [0 10] z; leq(x, y);`
use Rattle.std.specs.Prelude.{ℕ, pos, List, [], ◌∷◌, codes}
use Rattle.model_core.specs.declared.class.ObjectKind.TheVariants as object_kinds
use Rattle.model_core.specs.declared.class.Pred.{Pred}
use Rattle.model_core.specs.declared.class.PredKind.TheVariants as pred_kinds
use Rattle.model_core.specs.declared.item.Item.TheVariants.{Constraint}
use Rattle.domain_core.specs.declared.kind.Kind.TheVariants.{Leq}
use Rattle.model_core.specs.declared.item.Term.TheVariants as terms
use Rattle.model_core.specs.declared.model.Model.{Model}
use Rattle.model_core.specs.declared.model.Root.{Root}
use Rattle.model_core.specs.declared.model.RootKind.TheVariants.{Goal, Rejectable}
use Rattle.model_core.specs.declared.rule.Rule.{Rule}
use Rattle.model_core.specs.declared.variable.Base.{Base}
use Rattle.model_core.specs.declared.variable.Base.TheVariants.{Given, Void}
use Rattle.model_core.specs.declared.variable.VarDecl.{VarDecl}
use Rattle.model_core.specs.Entries.{Entries, NoEntry, WithSlot}
use Rattle.tests_samples.specs.Pieces.{alone_on, span_variable, bare_class, bare_object, root_on}

-- a predicate without parameters
abbrev pub rounds_pred : ℕ → List ℕ → List ℕ → Pred
rounds_pred class name rules = record { class = class; name = name; params = []; kind = pred_kinds.Plain; rules = rules }

-- one slot, and nothing else
abbrev pub rounds_block : Entries
rounds_block = WithSlot 0 NoEntry

-- a rule that asks for one token of this predicate
abbrev pub rounds_rule : ℕ → Base → Rule
rounds_rule pred base =
    record { top = rounds_block; slots = record { pred = pred; object = base } ∷ []; locals = [] }

abbrev pub rounds_roots : List Root
rounds_roots =
    root_on (codes "one") Goal 0 0 ∷ root_on (codes "two") Goal 0 0 ∷ root_on (codes "three") Goal 0 0
    ∷ root_on (codes "link") Goal 1 1 ∷ root_on (codes "other") Goal 1 1 ∷ root_on (codes "lost") Rejectable 2 1 ∷ []

abbrev pub rounds_globals : List VarDecl
rounds_globals = span_variable (codes "x") 10 ∷ span_variable (codes "y") 10 ∷ span_variable (codes "z") 10 ∷ []

abbrev pub rounds : Model
rounds = record {
  enums = [];
  classes = bare_class (codes "Track") ∷ bare_class (codes "Node") ∷ bare_class (codes "Ghost") ∷ [];
  objects = bare_object (codes "track") 0 object_kinds.Timeline ∷ bare_object (codes "node") 1 object_kinds.Plain ∷ [];
  preds =
      rounds_pred 0 (codes "Run") [] ∷ rounds_pred 1 (codes "Link") (0 ∷ []) ∷ rounds_pred 1 (codes "Lost") (1 ∷ [])
      ∷ rounds_pred 2 (codes "Sign") [] ∷ [];
  rules = rounds_rule 1 (Given (alone_on 1)) ∷ rounds_rule 3 Void ∷ [];
  problem = record {
    start = pos 0;
    end = pos 10;
    steps = 100;
    roots = rounds_roots;
    globals = rounds_globals;
    items = Constraint Leq (terms.Global 0 ∷ terms.Global 1 ∷ []) ∷ [];
    decisions = [];
  };
}
