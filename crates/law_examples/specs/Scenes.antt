-- Problems with two objects and one predicate, and states in which each token has its times and a quantity.
use Rattle.std.specs.Prelude.{ℕ, zero, suc, ◌+◌, pos, List, [], ◌∷◌, ◌++◌, None, codes}
use Rattle.domain_core.specs.Domain.{Domain, Range, Set}
use Rattle.eu_name.specs.declared.name.Part.TheVariants as parts
use Rattle.eu_name.specs.declared.name.Part.TheVariants.{Start, End, Duration, Param}
use Rattle.eu_name.specs.declared.name.TokenName.{TokenName}
use Rattle.eu_name.specs.declared.name.VarName.TheVariants.{Token, Local}
use Rattle.model_core.specs.declared.class.Object.{Object}
use Rattle.model_core.specs.declared.class.ObjectKind.{ObjectKind}
use Rattle.model_core.specs.declared.class.PredKind.{PredKind}
use Rattle.model_core.specs.declared.class.Pred.{Pred}
use Rattle.model_core.specs.declared.item.Item.{Item}
use Rattle.model_core.specs.declared.item.Term.TheVariants as term
use Rattle.model_core.specs.declared.model.Model.{Model}
use Rattle.model_core.specs.declared.model.Root.{Root}
use Rattle.model_core.specs.declared.model.RootKind.{RootKind}
use Rattle.model_core.specs.declared.rule.Guard.TheVariants.{Equal}
use Rattle.model_core.specs.declared.rule.Rule.{Rule}
use Rattle.model_core.specs.declared.rule.Side.TheVariants.{Then, Otherwise}
use Rattle.model_core.specs.declared.variable.Base.TheVariants.{Given}
use Rattle.model_core.specs.declared.variable.ValueKind.TheVariants.{Int}
use Rattle.model_core.specs.Blocks.{TokenBlock}
use Rattle.model_core.specs.Entries.{NoEntry, WithLocal, WithBranch}
use Rattle.model_core.specs.State.{State, VarDomain}
use Rattle.model_core.specs.Tokens.{root_token}

-- the first object alone
abbrev pub the_object : Domain
the_object = Set (pos 0 ∷ [])

-- both objects, which have the numbers 0 and 1
abbrev pub both_objects : Domain
both_objects = Set (pos 0 ∷ pos 1 ∷ [])

-- an object of this name and kind
abbrev pub object_called : List ℕ → ObjectKind → Object
object_called name kind = record { name = name; class = 0; fields = []; kind = kind }

-- a predicate of this name: its tokens have a quantity
abbrev pub predicate_called : List ℕ → PredKind → List ℕ → Pred
predicate_called name kind rules = record {
  class = 0;
  name = name;
  params = record { name = codes "quantity"; kind = Int; base = Given (Range (pos 0) (pos 1000000)) } ∷ [];
  kind = kind;
  rules = rules;
}

-- the predicate `P`
abbrev pub predicate_of : PredKind → List ℕ → Pred
predicate_of = predicate_called (codes "P")

-- the labels of the roots are `g`, `gg` and so on
abbrev pub label_of : ℕ → List ℕ
label_of zero = codes "g"
label_of (suc number) = codes "g" ++ label_of number

abbrev pub root_of : ℕ → RootKind → Root
root_of number kind = record { label = label_of number; kind = kind; pred = 0; object = both_objects }

-- roots of these kinds, from this number on
abbrev pub roots_from : ℕ → List RootKind → List Root
roots_from number [] = []
roots_from number (kind ∷ kinds) = root_of number kind ∷ roots_from (number + 1) kinds

-- a problem from 0 to 10 with these constraints, two objects and a predicate of these kinds, these rules of the
-- predicate, and these roots
abbrev pub scene_with : List Item → ObjectKind → PredKind → List ℕ → List Rule → List RootKind → Model
scene_with items object_kind pred_kind numbers rules kinds = record {
  enums = [];
  classes = record { name = codes "C"; parent = None; fields = [] } ∷ [];
  objects = object_called (codes "o") object_kind ∷ object_called (codes "p") object_kind ∷ [];
  preds = predicate_of pred_kind numbers ∷ [];
  rules = rules;
  problem = record {
    start = pos 0;
    end = pos 10;
    steps = 1;
    roots = roots_from 0 kinds;
    globals = [];
    items = items;
    decisions = [];
  };
}

-- the same without constraints
abbrev pub scene : ObjectKind → PredKind → List ℕ → List Rule → List RootKind → Model
scene = scene_with []

-- when a token takes place, how much it uses, produces or consumes, and on which objects it may be
pub record Moment : Type 0 where
  pub start : ℕ
  pub duration : ℕ
  pub quantity : Domain
  pub object : Domain

abbrev pub exactly : ℕ → Domain
exactly number = Range (pos number) (pos number)

-- the roots from this number on
abbrev pub tokens_of : ℕ → List Moment → List TokenName
tokens_of number [] = []
tokens_of number (moment ∷ moments) = root_token number ∷ tokens_of (number + 1) moments

-- their variables
abbrev pub scene_entries : ℕ → List Moment → List VarDomain
scene_entries number [] = []
scene_entries number (moment ∷ moments) =
    record { name = Token (root_token number) parts.Object; domain = moment.object }
    ∷ record { name = Token (root_token number) Start; domain = exactly moment.start }
    ∷ record { name = Token (root_token number) End; domain = exactly (moment.start + moment.duration) }
    ∷ record { name = Token (root_token number) Duration; domain = exactly moment.duration }
    ∷ record { name = Token (root_token number) (Param 0); domain = moment.quantity }
    ∷ scene_entries (number + 1) moments

-- the state in which the roots take place so, with these open blocks
abbrev pub scene_state : List TokenBlock → List Moment → State
scene_state blocks moments = record { tokens = tokens_of 0 moments; blocks = blocks; entries = scene_entries 0 moments }

-- ---- a rule with a guard

-- `if (quantity == 1) { } else { }`
abbrev pub guarded : Rule
guarded = record {
  top = WithBranch (Equal (term.Here (Param 0)) (term.Lit (pos 1))) NoEntry NoEntry NoEntry;
  slots = [];
  locals = [];
}

-- the rule's own block, and those of the guard
abbrev pub top_block : TokenBlock
top_block = record { token = root_token 0; rule = 0; path = [] }

abbrev pub then_block : TokenBlock
then_block = record { token = root_token 0; rule = 0; path = record { entry = 0; side = Then } ∷ [] }

abbrev pub otherwise_block : TokenBlock
otherwise_block = record { token = root_token 0; rule = 0; path = record { entry = 0; side = Otherwise } ∷ [] }

-- ---- a rule with a local

-- `int [0 2] l;`, whose name no one asks for
abbrev pub with_local : Rule
with_local = record {
  top = WithLocal 0 NoEntry;
  slots = [];
  locals = record { name = []; kind = Int; base = Given (Range (pos 0) (pos 2)) } ∷ [];
}

-- the local of the first root
abbrev pub the_local : Domain → VarDomain
the_local domain = record { name = Local (root_token 0) 0 0; domain = domain }

-- the state in which one root takes place so, its rule is open, and the local may be what is in this domain
abbrev pub local_state : Moment → Domain → State
local_state moment domain = record {
  tokens = tokens_of 0 (moment ∷ []);
  blocks = top_block ∷ [];
  entries = scene_entries 0 (moment ∷ []) ++ the_local domain ∷ [];
}
