-- What each step of unrolling keeps is kept by whole texts.
use Rattle.std.proofs.Common.{◌≡◌, ℕ, suc, ◌+◌, ◌-◌, Bool, true, false, cond, List, [], ◌∷◌, ◌++◌, length, take, refl, ◌∙◌, ap, arith}
use Rattle.std.specs.Prelude.{Option, Some, None, slice_get}
use Rattle.std.specs.List.{position_from}
use Rattle.std.specs.Option.{option_map_or}
use Rattle.domain_core.specs.declared.kind.Kind.{Kind}
use Rattle.domain_core.specs.declared.kind.Kind.TheVariants.{Eq}
use Rattle.model_core.specs.declared.class.Object.{Object}
use Rattle.model_core.specs.declared.item.Item.{Item}
use Rattle.model_core.specs.declared.item.Item.TheVariants.{Constraint, Relation}
use Rattle.model_core.specs.declared.item.Rel.{Rel}
use Rattle.model_core.specs.declared.item.Term.{Term}
use Rattle.model_core.specs.declared.item.Term.TheVariants as terms
use Rattle.model_core.specs.declared.rule.Entry.TheVariants as entries
use Rattle.model_core.specs.declared.rule.Guard.{Guard}
use Rattle.model_core.specs.Block.{plain_entries}
use Rattle.nddl_ast.specs.declared.expression.Expr.{Expr}
use Rattle.nddl_ast.specs.declared.expression.Expr.TheVariants as exprs
use Rattle.nddl_ast.specs.declared.expression.Init.{Init}
use Rattle.nddl_ast.specs.declared.expression.Init.TheVariants as inits
use Rattle.nddl_ast.specs.declared.name.Name.{Name}
use Rattle.nddl_ast.specs.declared.name.Path.{Path}
use Rattle.nddl_ast.specs.declared.statement.Ask.{Ask}
use Rattle.nddl_ast.specs.declared.statement.Call.{Call}
use Rattle.nddl_ast.specs.declared.statement.Condition.{Condition}
use Rattle.nddl_ast.specs.declared.statement.Condition.TheVariants as conditions
use Rattle.nddl_ast.specs.declared.statement.Variable.{Variable}
use Rattle.nddl_ast.specs.Tree.{Statements, Nothing, Declares, Calls, Asks, Tests, Chooses, Repeats}
use Rattle.nddl_rule_check.specs.Constraints.{constraint_named, relation_named}
use Rattle.nddl_terms.specs.declared.growth.Growth.{Growth}
use Rattle.nddl_terms.specs.declared.lexicon.Attribute.{Attribute}
use Rattle.nddl_terms.specs.declared.lexicon.Lexicon.{Lexicon}
use Rattle.nddl_terms.specs.declared.lexicon.PredShape.{PredShape}
use Rattle.nddl_terms.specs.declared.lexicon.Shape.{Shape}
use Rattle.nddl_terms.specs.declared.stands.Made.{Made}
use Rattle.nddl_terms.specs.declared.stands.Stand.{Stand}
use Rattle.nddl_terms.specs.declared.stands.Stand.TheVariants as stands
use Rattle.nddl_terms.specs.Growth.{access, unnamed, with_access, with_item, with_last_entry, with_next_local, with_slot}
use Rattle.nddl_terms.specs.Lexicon.{attribute_number, pred_class, pred_named, shape_fields}
use Rattle.nddl_terms.specs.Preds.{is_pred_named}
use Rattle.nddl_terms.specs.Paths.{next_stand, numbered_field, reached, rest_stand}
use Rattle.nddl_terms.specs.Readings.{Readings}
use Rattle.nddl_terms.specs.Stands.{first_stand}
use Rattle.nddl_lower.specs.Compared.{compared_terms, constraint_terms}
use Rattle.nddl_lower.specs.Arguments.{argument, condition_guard, constraint_items, given_arguments, with_constraint, with_items}
use Rattle.nddl_lower.specs.Calls.{with_ask, with_call, with_constraint_named, with_related, with_relation_to}
use Rattle.nddl_lower.specs.Locals.{next_local, type_shape, with_begun, with_declared, with_named_at, with_text_local}
use Rattle.nddl_lower.specs.Slots.{asked_behind, asked_labelled, asked_nothing, asked_of_owner, asked_path, object_items, pred_slot, wanted_of, with_asked, with_asked_at, with_relation, with_wanted_token}
use Rattle.nddl_unroll.specs.Blocks.{all_turns, back_in, filled_block, in_block, stand_turns, turn_of, unrolled}

-- the files have a predicate of this number
abbrev pub HasShape : Lexicon → ℕ → Type 0
HasShape lexicon pred = (shape : PredShape) × (slice_get lexicon.preds pred ≡ Some shape)

-- it is so of what a rule has before and after each single step, and of steps one after another
pub record IsKept (lexicon : Lexicon) (Kept : Growth → Growth → Type 0) : Type 0 where
  pub same : (growth : Growth) → Kept growth growth
  pub join : (first second third : Growth) → Kept first second → Kept second third → Kept first third
  pub item : (item : Item) (growth : Growth) → Kept growth (with_item item growth)
  pub items : (some : List Item) (growth : Growth) → Kept growth (with_items some growth)
  pub local : (shape : Shape) (growth : Growth) → Kept growth (with_next_local (unnamed shape) growth)
  pub slot : (pred : ℕ) (growth : Growth) → HasShape lexicon pred → Kept growth (with_slot (pred_slot lexicon pred) growth)
  pub named : (at : ℕ) (stand : Stand) (growth : Growth) → Kept growth (with_named_at at stand growth)
  pub asked : (at : ℕ) (stand : Stand) (growth : Growth) → Kept growth (with_asked_at at stand growth)

-- the same of the steps that only read
pub record IsReadKept (Kept : Growth → Growth → Type 0) : Type 0 where
  pub same : (growth : Growth) → Kept growth growth
  pub join : (first second third : Growth) → Kept first second → Kept second third → Kept first third
  pub access : (object : Term) (field : ℕ) (shape : Shape) (growth : Growth) → Kept growth (with_access object field shape growth)

pub reads_kept : (lexicon : Lexicon) (Kept : Growth → Growth → Type 0) → IsKept lexicon Kept → IsReadKept Kept
reads_kept lexicon Kept kept = record {
  same = kept.same;
  join = kept.join;
  access = λ object field shape growth.
      let declared = with_next_local (unnamed shape) growth in
      kept.join growth declared (with_access object field shape growth) (kept.local shape growth) (kept.item (access object field growth) declared);
}

-- ---- predicates that are found

-- the thing of this number, where the first has that one
record IsThere {K : Type 0} (xs : List K) (first place : ℕ) : Type 0 where
  thing : K
  number : ℕ
  place_is : place ≡ first + number
  stands : slice_get xs number ≡ Some thing

position_case : {K : Type 0} (test : K → Bool) (x : K) (xs : List K) (first place : ℕ)
    → (position_from test (first + 1) xs ≡ Some place → IsThere xs (first + 1) place) → (so : Bool)
    → cond so (Some first) (position_from test (first + 1) xs) ≡ Some place → IsThere (x ∷ xs) first place
position_case test x xs first place rest true is =
    let same : first ≡ place = cc in record { thing = x; number = 0; place_is = omega (arith, same); stands = refl }
position_case test x xs first place rest false is =
    let later = rest is in
    let further = later.place_is in
    record { thing = later.thing; number = suc later.number; place_is = omega (arith, further); stands = later.stands }

-- what is found is one of the list
position_there : {K : Type 0} (test : K → Bool) (xs : List K) (first place : ℕ) → position_from test first xs ≡ Some place
    → IsThere xs first place
position_there test [] first place is = absurd (let never : None ≡ Some place = is in cc)
position_there test (x ∷ xs) first place is =
    position_case test x xs first place (λ at. position_there test xs (first + 1) place at) (test x) is

named_there : (lexicon : Lexicon) (class : ℕ) (name : List ℕ) (pred : ℕ) → pred_named lexicon class name ≡ Some pred → HasShape lexicon pred
named_there lexicon class name pred is =
    let found = position_there (is_pred_named class name) lexicon.preds 0 pred is in
    let place = found.place_is in
    let same : pred ≡ found.number = omega (arith, place) in
    (found.thing, ap (λ (n : ℕ). slice_get lexicon.preds n) same ∙ found.stands)

wanted_there : (lexicon : Lexicon) (stand : Stand) (name : List ℕ) (pred : ℕ) → (wanted_of lexicon stand name).pred ≡ Some pred → HasShape lexicon pred
wanted_there lexicon (stands.Class class) name pred is = named_there lexicon class name pred is
wanted_there lexicon (stands.Value term own class) name pred is = named_there lexicon class name pred is
wanted_there lexicon (stands.Slot number of) name pred is = absurd (let never : None ≡ Some pred = is in cc)
wanted_there lexicon (stands.Root number of) name pred is = absurd (let never : None ≡ Some pred = is in cc)
wanted_there lexicon stands.Nothing name pred is = absurd (let never : None ≡ Some pred = is in cc)

module _ (reading : Readings) (Kept : Growth → Growth → Type 0) (kept : IsReadKept Kept) where
  -- ---- paths

  attribute_kept : (object : Term) (number : ℕ) (growth : Growth) (found : Option Attribute)
      → Kept growth (option_map_or (λ attribute. reached (stands.Value (terms.Local (length growth.locals)) attribute.shape.kind attribute.shape.class)
      (with_access object number attribute.shape growth)) found (reached stands.Nothing growth)).growth
  attribute_kept object number growth None = kept.same growth
  attribute_kept object number growth (Some attribute) = kept.access object number attribute.shape growth

  numbered_kept : (objects : List Object) (object : Term) (fields : List Attribute) (number : ℕ) (growth : Growth)
      → Kept growth (numbered_field objects object fields number growth).growth
  numbered_kept objects (terms.Lit value) fields number growth = kept.same growth
  numbered_kept objects object fields number growth = attribute_kept object number growth (slice_get fields number)

  field_kept : (objects : List Object) (object : Term) (fields : List Attribute) (growth : Growth) (found : Option ℕ)
      → Kept growth (option_map_or (λ number. numbered_field objects object fields number growth) found (reached stands.Nothing growth)).growth
  field_kept objects object fields growth None = kept.same growth
  field_kept objects object fields growth (Some number) = numbered_kept objects object fields number growth

  next_kept : (here : Stand) (name : Name) (growth : Growth) → Kept growth (next_stand reading here name growth).growth
  next_kept (stands.Value term own class) name growth =
      field_kept reading.objects term (shape_fields reading.lexicon class) growth (attribute_number name.text (shape_fields reading.lexicon class))
  next_kept (stands.Slot number pred) name growth = kept.same growth
  next_kept (stands.Root number pred) name growth = kept.same growth
  next_kept (stands.Class class) name growth = kept.same growth
  next_kept stands.Nothing name growth = kept.same growth

  pub rest_kept : (here : Stand) (names : List Name) (growth : Growth) → Kept growth (rest_stand reading here names growth).growth
  rest_kept here [] growth = kept.same growth
  rest_kept here (name ∷ more) growth =
      let next = next_stand reading here name growth in
      kept.join growth next.growth (rest_stand reading next.stand more next.growth).growth (next_kept here name growth)
      (rest_kept next.stand more next.growth)

  -- ---- arguments

  pub expr_kept : (turns : List Made) (expr : Expr) (growth : Growth) → Kept growth (argument reading turns expr growth).growth
  expr_kept turns (exprs.Path path) growth = rest_kept (first_stand reading turns growth path.first.at) path.rest growth
  expr_kept turns (exprs.Literal literal) growth = kept.same growth

  pub exprs_kept : (turns : List Made) (some : List Expr) (growth : Growth) → Kept growth (given_arguments reading turns some growth).growth
  exprs_kept turns [] growth = kept.same growth
  exprs_kept turns (expr ∷ more) growth =
      let first = argument reading turns expr growth in
      kept.join growth first.growth (given_arguments reading turns more first.growth).growth (expr_kept turns expr growth)
      (exprs_kept turns more first.growth)

  both_kept : (turns : List Made) (one other : Expr) (growth : Growth)
      → Kept growth (argument reading turns other (argument reading turns one growth).growth).growth
  both_kept turns one other growth =
      let left = argument reading turns one growth in
      kept.join growth left.growth (argument reading turns other left.growth).growth (expr_kept turns one growth)
      (expr_kept turns other left.growth)

  pub condition_kept : (turns : List Made) (condition : Condition) (growth : Growth)
      → Kept growth (condition_guard reading turns condition growth).growth
  condition_kept turns (conditions.Truth expr) growth = expr_kept turns expr growth
  condition_kept turns (conditions.Equal one other) growth = both_kept turns one other growth
  condition_kept turns (conditions.NotEqual one other) growth = both_kept turns one other growth

  -- what a path leads up to that asks for a token
  pub wanted_kept : (stand : Stand) (names : List Name) (growth : Growth) → Kept growth (asked_behind reading stand names growth).growth
  wanted_kept stand names growth = by (slice_get names (length names - 1))
    where
      by : (o : Option Name)
          → Kept growth (option_map_or (λ (last : Name). asked_of_owner reading.lexicon (rest_stand reading stand (take (length names - 1) names) growth) last.text)
          o (asked_nothing growth)).growth
      by None = kept.same growth
      by (Some last) = rest_kept stand (take (length names - 1) names) growth

module _ (reading : Readings) (Kept : Growth → Growth → Type 0) (kept : IsKept reading.lexicon Kept) where
  reads : IsReadKept Kept
  reads = reads_kept reading.lexicon Kept kept

  -- ---- constraints

  constraint_kept : (turns : List Made) (kind : Kind) (some : List Expr) (growth : Growth)
      → Kept growth (with_constraint reading turns kind some growth)
  constraint_kept turns kind some growth =
      let given = given_arguments reading turns some growth in
      kept.join growth given.growth (with_constraint reading turns kind some growth) (exprs_kept reading Kept reads turns some growth)
      (kept.items (constraint_items kind (constraint_terms kind given.stands)) given.growth)

  -- ---- slots

  token_kept : (at : ℕ) (relation : Rel) (pred : ℕ) (object : Option Term) (growth : Growth) → HasShape reading.lexicon pred
      → Kept growth (with_wanted_token reading.lexicon at relation pred object growth)
  token_kept at relation pred object growth there =
      let number = length growth.slots in
      let noted = with_asked_at at (stands.Slot number pred) growth in
      let slotted = with_slot (pred_slot reading.lexicon pred) noted in
      let equal = with_items (object_items number object) slotted in
      let whole = with_wanted_token reading.lexicon at relation pred object growth in
      kept.join growth noted whole (kept.asked at (stands.Slot number pred) growth)
      (kept.join noted slotted whole (kept.slot pred noted there)
      (kept.join slotted equal whole (kept.items (object_items number object) slotted) (kept.item (Relation relation number) equal)))

  asked_kept : (at : ℕ) (relation : Rel) (pred : Option ℕ) (object : Option Term) (growth : Growth)
      → ((found : ℕ) → pred ≡ Some found → HasShape reading.lexicon found)
      → Kept growth (option_map_or (λ found. with_wanted_token reading.lexicon at relation found object growth) pred growth)
  asked_kept at relation None object growth there = kept.same growth
  asked_kept at relation (Some pred) object growth there = token_kept at relation pred object growth (there pred refl)

  last_kept : (turns : List Made) (at : ℕ) (relation : Rel) (path : Path) (last : Option Name) (growth : Growth)
      → Kept growth (with_asked reading.lexicon at relation (option_map_or
      (λ name. asked_of_owner reading.lexicon (rest_stand reading (first_stand reading turns growth path.first.at)
      (take (length path.rest - 1) path.rest) growth) name.text) last (asked_nothing growth)))
  last_kept turns at relation path None growth = kept.same growth
  last_kept turns at relation path (Some name) growth =
      let here = first_stand reading turns growth path.first.at in
      let front = take (length path.rest - 1) path.rest in
      let owner = rest_stand reading here front growth in
      let wanted = wanted_of reading.lexicon owner.stand name.text in
      kept.join growth owner.growth
      (option_map_or (λ found. with_wanted_token reading.lexicon at relation found wanted.object owner.growth) wanted.pred owner.growth)
      (rest_kept reading Kept reads here front growth)
      (asked_kept at relation wanted.pred wanted.object owner.growth (wanted_there reading.lexicon owner.stand name.text))

  path_kept : (turns : List Made) (at : ℕ) (relation : Rel) (path : Path) (growth : Growth)
      → Kept growth (with_asked reading.lexicon at relation (asked_path reading turns path growth))
  path_kept turns at relation path growth =
      last_kept turns at relation path (slice_get path.rest (length path.rest - 1)) growth

  labelled_kept : (turns : List Made) (at : ℕ) (relation : Rel) (path : Path) (names : List Name) (growth : Growth)
      → Kept growth (with_asked reading.lexicon at relation (asked_labelled reading turns path names growth))
  labelled_kept turns at relation path [] growth =
      asked_kept at relation (pred_named reading.lexicon (pred_class reading.lexicon reading.pred) path.first.text) None growth
      (named_there reading.lexicon (pred_class reading.lexicon reading.pred) path.first.text)
  labelled_kept turns at relation path (name ∷ more) growth = path_kept turns at relation path growth

  -- ---- calls

  relation_kept : (relation : Rel) (stand : Stand) (growth : Growth) → Kept growth (with_relation relation stand growth)
  relation_kept relation (stands.Slot number pred) growth = kept.item (Relation relation number) growth
  relation_kept relation stand growth = kept.same growth

  related_kept : (turns : List Made) (at : ℕ) (relation : Rel) (path : Path) (names : List Name) (growth : Growth)
      → Kept growth (with_related reading turns at relation path names growth)
  related_kept turns at relation path [] growth = relation_kept relation (first_stand reading turns growth path.first.at) growth
  related_kept turns at relation path (name ∷ more) growth = path_kept turns at relation path growth

  relation_to_kept : (turns : List Made) (at : ℕ) (relation : Rel) (some : List Expr) (growth : Growth)
      → Kept growth (with_relation_to reading turns at relation some growth)
  relation_to_kept turns at relation [] growth = kept.same growth
  relation_to_kept turns at relation (exprs.Path path ∷ []) growth = related_kept turns at relation path path.rest growth
  relation_to_kept turns at relation (exprs.Path path ∷ (next ∷ more)) growth = kept.same growth
  relation_to_kept turns at relation (exprs.Literal literal ∷ more) growth = kept.same growth

  named_kept : (turns : List Made) (some : List Expr) (found : Option Kind) (growth : Growth)
      → Kept growth (option_map_or (λ kind. with_constraint reading turns kind some growth) found growth)
  named_kept turns some None growth = kept.same growth
  named_kept turns some (Some kind) growth = constraint_kept turns kind some growth

  called_kept : (turns : List Made) (call : Call) (found : Option Rel) (growth : Growth)
      → Kept growth (option_map_or (λ relation. with_relation_to reading turns call.path.first.at relation call.arguments growth) found
      (with_constraint_named reading turns call.path.first call.arguments growth))
  called_kept turns call None growth = named_kept turns call.arguments (constraint_named call.path.first.text) growth
  called_kept turns call (Some relation) growth = relation_to_kept turns call.path.first.at relation call.arguments growth

  pub call_kept : (turns : List Made) (call : Call) (growth : Growth) → Kept growth (with_call reading turns call growth)
  call_kept turns call growth = called_kept turns call (relation_named call.path.first.text) growth

  asking_kept : (turns : List Made) (ask : Ask) (found : Option Rel) (growth : Growth)
      → Kept growth (option_map_or (λ relation. with_asked reading.lexicon ask.label.at relation
      (asked_labelled reading turns ask.path ask.path.rest growth)) found growth)
  asking_kept turns ask None growth = kept.same growth
  asking_kept turns ask (Some relation) growth = labelled_kept turns ask.label.at relation ask.path ask.path.rest growth

  pub ask_kept : (turns : List Made) (ask : Ask) (growth : Growth) → Kept growth (with_ask reading turns ask growth)
  ask_kept turns ask growth = asking_kept turns ask (relation_named ask.word.text) growth

  -- ---- locals

  declared_kept : (at : ℕ) (shape : Shape) (growth : Growth) → Kept growth (with_declared at shape growth)
  declared_kept at shape growth =
      let stand = next_local shape growth in
      let noted = with_named_at at stand growth in
      kept.join growth noted (with_declared at shape growth) (kept.named at stand growth) (kept.local shape noted)

  begun_kept : (turns : List Made) (at : ℕ) (shape : Shape) (init : Option Init) (growth : Growth)
      → Kept growth (with_begun reading turns at shape init growth)
  begun_kept turns at shape None growth = declared_kept at shape growth
  begun_kept turns at shape (Some (inits.New creation)) growth = declared_kept at shape growth
  begun_kept turns at shape (Some (inits.Expr expr)) growth =
      let given = argument reading turns expr growth in
      let declared = with_declared at shape given.growth in
      let whole = with_begun reading turns at shape (Some (inits.Expr expr)) growth in
      kept.join growth given.growth whole (expr_kept reading Kept reads turns expr growth)
      (kept.join given.growth declared whole (declared_kept at shape given.growth)
      (kept.item (Constraint Eq (compared_terms (next_local shape given.growth ∷ given.stand ∷ []))) declared))

  pub local_kept : (turns : List Made) (variable : Variable) (growth : Growth)
      → Kept growth (with_text_local reading turns variable growth)
  local_kept turns variable growth =
      begun_kept turns variable.name.at (type_shape reading turns growth variable.declared) variable.init growth

-- it is so of a guard if it is so inside its blocks
abbrev pub IsKeptByBranches : (Growth → Growth → Type 0) → Type 0
IsKeptByBranches Kept =
    (guard : Guard) (outer filled second : Growth) → Kept (in_block outer) filled → Kept (in_block filled) second
    → Kept outer (with_last_entry (entries.Branch guard (filled_block filled) (filled_block second)) (back_in outer.entries second))

module _ (reading : Readings) (Kept : Growth → Growth → Type 0) (kept : IsKept reading.lexicon Kept) (branches : IsKeptByBranches Kept) where
  pub turns_kept : (turn : Stand → Growth → Growth) → ((object : Stand) (growth : Growth) → Kept growth (turn object growth))
      → (objects : List Stand) (growth : Growth) → Kept growth (all_turns turn objects growth)
  turns_kept turn each [] growth = kept.same growth
  turns_kept turn each (object ∷ more) growth =
      kept.join growth (turn object growth) (all_turns turn more (turn object growth)) (each object growth)
      (turns_kept turn each more (turn object growth))

  pub unrolled_kept : (turns : List Made) (stmts : Statements) (growth : Growth)
      → Kept growth (unrolled reading turns stmts growth)
  unrolled_kept turns Nothing growth = kept.same growth
  unrolled_kept turns (Declares variable more) growth =
      let next = with_text_local reading turns variable growth in
      kept.join growth next (unrolled reading turns more next) (local_kept reading Kept kept turns variable growth)
      (unrolled_kept turns more next)
  unrolled_kept turns (Calls call more) growth =
      let next = with_call reading turns call growth in
      kept.join growth next (unrolled reading turns more next) (call_kept reading Kept kept turns call growth)
      (unrolled_kept turns more next)
  unrolled_kept turns (Asks ask more) growth =
      let next = with_ask reading turns ask growth in
      kept.join growth next (unrolled reading turns more next) (ask_kept reading Kept kept turns ask growth)
      (unrolled_kept turns more next)
  unrolled_kept turns (Tests at condition then_at inside more) growth =
      let tested = condition_guard reading turns condition growth in
      let filled = unrolled reading turns inside (in_block tested.growth) in
      let branched = with_last_entry (entries.Branch tested.guard (filled_block filled) (plain_entries [])) (back_in tested.growth.entries filled) in
      kept.join growth tested.growth (unrolled reading turns more branched) (condition_kept reading Kept (reads_kept reading.lexicon Kept kept) turns condition growth)
      (kept.join tested.growth branched (unrolled reading turns more branched)
      (branches tested.guard tested.growth filled (in_block filled) (unrolled_kept turns inside (in_block tested.growth))
      (kept.same (in_block filled)))
      (unrolled_kept turns more branched))
  unrolled_kept turns (Chooses at condition then_at inside else_at other more) growth =
      let tested = condition_guard reading turns condition growth in
      let filled = unrolled reading turns inside (in_block tested.growth) in
      let second = unrolled reading turns other (in_block filled) in
      let branched = with_last_entry (entries.Branch tested.guard (filled_block filled) (filled_block second)) (back_in tested.growth.entries second) in
      kept.join growth tested.growth (unrolled reading turns more branched) (condition_kept reading Kept (reads_kept reading.lexicon Kept kept) turns condition growth)
      (kept.join tested.growth branched (unrolled reading turns more branched)
      (branches tested.guard tested.growth filled second (unrolled_kept turns inside (in_block tested.growth))
      (unrolled_kept turns other (in_block filled)))
      (unrolled_kept turns more branched))
  unrolled_kept turns (Repeats at name class body_at body more) growth =
      let turn : Stand → Growth → Growth = λ object inner. unrolled reading (turns ++ turn_of name object ∷ []) body inner in
      let objects = stand_turns reading.lexicon (first_stand reading turns growth class.at) in
      let next = all_turns turn objects growth in
      kept.join growth next (unrolled reading turns more next)
      (turns_kept turn (λ object inner. unrolled_kept (turns ++ turn_of name object ∷ []) body inner) objects growth)
      (unrolled_kept turns more next)
