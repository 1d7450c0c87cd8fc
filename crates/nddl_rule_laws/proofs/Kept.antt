-- What stands for what the text of a rule declares, while its statements are dealt with.
use Rattle.std.proofs.Common.{◌≡◌, ℕ, ◌-◌, ◌<◌, ◌≤◌, true, false, ◌&&◌, ◌||◌, List, [], ◌∷◌, ◌++◌, length, take, refl, sym, ◌∙◌, ap, subst, ◌⊎◌, inl, inr, arith}
use Rattle.std.specs.Prelude.{Option, Some, None, is_some, slice_get, if◌then◌else◌}
use Rattle.std.specs.List.{list_any}
use Rattle.std.specs.Option.{option_and_then, option_map_or, option_or}
use Rattle.std.proofs.lemmas.Bool.Decides.{Decides-eqb}
use Rattle.eu_forest.proofs.Fewer.{differs}
use Rattle.eu_forest.proofs.Lists.{get-append_last}
use Rattle.domain_core.specs.declared.kind.Kind.{Kind}
use Rattle.model_core.specs.declared.class.Object.{Object}
use Rattle.model_core.specs.declared.item.Rel.{Rel}
use Rattle.model_core.specs.declared.item.Term.{Term}
use Rattle.model_core.specs.declared.item.Term.TheVariants as terms
use Rattle.model_core.specs.declared.rule.Slot.{Slot}
use Rattle.nddl_ast.specs.declared.expression.Expr.{Expr}
use Rattle.nddl_ast.specs.declared.expression.Expr.TheVariants as exprs
use Rattle.nddl_ast.specs.declared.expression.Init.{Init}
use Rattle.nddl_ast.specs.declared.expression.Init.TheVariants as inits
use Rattle.nddl_ast.specs.declared.name.Name.{Name}
use Rattle.nddl_ast.specs.declared.name.Path.{Path}
use Rattle.nddl_ast.specs.declared.statement.Ask.{Ask}
use Rattle.nddl_ast.specs.declared.statement.Call.{Call}
use Rattle.nddl_ast.specs.declared.statement.Condition.{Condition}
use Rattle.nddl_ast.specs.declared.statement.Condition.TheVariants as conditions
use Rattle.nddl_ast.specs.declared.statement.Variable.{Variable}
use Rattle.nddl_rule_check.specs.Constraints.{constraint_named, relation_named}
use Rattle.nddl_terms.specs.declared.growth.Growth.{Growth}
use Rattle.nddl_terms.specs.declared.lexicon.Attribute.{Attribute}
use Rattle.nddl_terms.specs.declared.lexicon.Lexicon.{Lexicon}
use Rattle.nddl_terms.specs.declared.lexicon.Shape.{Shape}
use Rattle.nddl_terms.specs.declared.stands.Made.{Made}
use Rattle.nddl_terms.specs.declared.stands.Stand.{Stand}
use Rattle.nddl_terms.specs.declared.stands.Stand.TheVariants as stands
use Rattle.nddl_terms.specs.declared.stands.TextPlaces.{TextPlaces}
use Rattle.nddl_terms.specs.Growth.{unnamed, with_access}
use Rattle.nddl_terms.specs.Lexicon.{attribute_number, shape_fields}
use Rattle.nddl_terms.specs.Paths.{next_stand, numbered_field, reached, rest_stand}
use Rattle.nddl_terms.specs.Readings.{Readings}
use Rattle.nddl_terms.specs.Stands.{declared_stand, first_stand, latest_stand, stand_if_at}
use Rattle.nddl_lower.specs.Arguments.{argument, condition_guard, given_arguments, with_constraint}
use Rattle.nddl_lower.specs.Calls.{with_ask, with_call, with_constraint_named, with_related, with_relation_to}
use Rattle.nddl_lower.specs.Locals.{next_local, type_shape, with_begun, with_text_local}
use Rattle.nddl_lower.specs.Slots.{AskedSlot, asked_behind, asked_labelled, asked_nothing, asked_of_owner, asked_path, pred_slot, with_asked, with_relation, with_wanted_token}
use Rattle.nddl_rules.specs.declared.sight.Tally.{Tally}
use Rattle.nddl_rules.specs.Blocks.{asks_slot, has_more, is_long_path}

-- ---- arguments declare nothing

-- nothing that the text declares has come
pub record SameMade (old new : Growth) : Type 0 where
  pub named : new.named ≡ old.named
  pub asked : new.asked ≡ old.asked

pub same_made : (growth : Growth) → SameMade growth growth
same_made growth = record { named = refl; asked = refl }

pub made_then : (old between new : Growth) → SameMade old between → SameMade between new → SameMade old new
made_then old between new first second = record { named = second.named ∙ first.named; asked = second.asked ∙ first.asked }

read_made : (object : Term) (number : ℕ) (growth : Growth) (found : Option Attribute)
    → SameMade growth (option_map_or (λ (attribute : Attribute). reached (stands.Value (terms.Local (length growth.locals)) attribute.shape.kind attribute.shape.class)
    (with_access object number attribute.shape growth)) found (reached stands.Nothing growth)).growth
read_made object number growth None = record { named = refl; asked = refl }
read_made object number growth (Some attribute) = record { named = refl; asked = refl }

field_made : (objects : List Object) (term : Term) (fields : List Attribute) (growth : Growth) (found : Option ℕ)
    → SameMade growth (option_map_or (λ number. numbered_field objects term fields number growth) found (reached stands.Nothing growth)).growth
field_made objects term fields growth None = record { named = refl; asked = refl }
field_made objects (terms.Lit value) fields growth (Some number) = record { named = refl; asked = refl }
field_made objects (terms.Here part) fields growth (Some number) = read_made (terms.Here part) number growth (slice_get fields number)
field_made objects (terms.Slot slot part) fields growth (Some number) = read_made (terms.Slot slot part) number growth (slice_get fields number)
field_made objects (terms.Local local) fields growth (Some number) = read_made (terms.Local local) number growth (slice_get fields number)
field_made objects (terms.Global global) fields growth (Some number) = read_made (terms.Global global) number growth (slice_get fields number)
field_made objects (terms.Root root part) fields growth (Some number) = read_made (terms.Root root part) number growth (slice_get fields number)

next_made : (reading : Readings) (stand : Stand) (name : Name) (growth : Growth) → SameMade growth (next_stand reading stand name growth).growth
next_made reading (stands.Value term own class) name growth =
    field_made reading.objects term (shape_fields reading.lexicon class) growth (attribute_number name.text (shape_fields reading.lexicon class))
next_made reading (stands.Slot number pred) name growth = record { named = refl; asked = refl }
next_made reading (stands.Root number pred) name growth = record { named = refl; asked = refl }
next_made reading (stands.Class class) name growth = record { named = refl; asked = refl }
next_made reading stands.Nothing name growth = record { named = refl; asked = refl }

pub rest_made : (reading : Readings) (stand : Stand) (names : List Name) (growth : Growth)
    → SameMade growth (rest_stand reading stand names growth).growth
rest_made reading stand [] growth = same_made growth
rest_made reading stand (name ∷ more) growth =
    let step = next_stand reading stand name growth in
    made_then growth step.growth (rest_stand reading step.stand more step.growth).growth (next_made reading stand name growth)
    (rest_made reading step.stand more step.growth)

pub argument_made : (reading : Readings) (turns : List Made) (expr : Expr) (growth : Growth) → SameMade growth (argument reading turns expr growth).growth
argument_made reading turns (exprs.Path path) growth = rest_made reading (first_stand reading turns growth path.first.at) path.rest growth
argument_made reading turns (exprs.Literal literal) growth = same_made growth

given_made : (reading : Readings) (turns : List Made) (some : List Expr) (growth : Growth)
    → SameMade growth (given_arguments reading turns some growth).growth
given_made reading turns [] growth = same_made growth
given_made reading turns (expr ∷ more) growth =
    let first = argument reading turns expr growth in
    made_then growth first.growth (given_arguments reading turns more first.growth).growth (argument_made reading turns expr growth)
    (given_made reading turns more first.growth)

pub condition_made : (reading : Readings) (turns : List Made) (condition : Condition) (growth : Growth)
    → SameMade growth (condition_guard reading turns condition growth).growth
condition_made reading turns (conditions.Truth expr) growth = argument_made reading turns expr growth
condition_made reading turns (conditions.Equal one other) growth =
    let left = argument reading turns one growth in
    made_then growth left.growth (argument reading turns other left.growth).growth (argument_made reading turns one growth)
    (argument_made reading turns other left.growth)
condition_made reading turns (conditions.NotEqual one other) growth =
    let left = argument reading turns one growth in
    made_then growth left.growth (argument reading turns other left.growth).growth (argument_made reading turns one growth)
    (argument_made reading turns other left.growth)

-- what a path leads up to that asks for a token
asked_made : (reading : Readings) (stand : Stand) (names : List Name) (growth : Growth) → SameMade growth (asked_behind reading stand names growth).growth
asked_made reading stand names growth = by (slice_get names (length names - 1))
  where
    by : (o : Option Name)
        → SameMade growth (option_map_or (λ (last : Name). asked_of_owner reading.lexicon (rest_stand reading stand (take (length names - 1) names) growth) last.text)
        o (asked_nothing growth)).growth
    by None = record { named = refl; asked = refl }
    by (Some last) = rest_made reading stand (take (length names - 1) names) growth

-- ---- what statements declare

-- a local of this shape is declared there
pub record DeclaresLocal (at : ℕ) (shape : Shape) (old new : Growth) : Type 0 where
  pub number : ℕ
  pub named : new.named ≡ old.named ++ record { at = at; stand = stands.Value (terms.Local number) shape.kind shape.class } ∷ []
  pub asked : new.asked ≡ old.asked
  pub there : slice_get new.locals number ≡ Some (unnamed shape)

begun_made : (reading : Readings) (turns : List Made) (at : ℕ) (shape : Shape) (init : Option Init) (growth : Growth)
    → DeclaresLocal at shape growth (with_begun reading turns at shape init growth)
begun_made reading turns at shape None growth =
    record { number = length growth.locals; named = refl; asked = refl; there = get-append_last growth.locals (unnamed shape) }
begun_made reading turns at shape (Some (inits.New creation)) growth =
    record { number = length growth.locals; named = refl; asked = refl; there = get-append_last growth.locals (unnamed shape) }
begun_made reading turns at shape (Some (inits.Expr expr)) growth =
    let given = argument reading turns expr growth in
    let same = argument_made reading turns expr growth in
    record {
      number = length given.growth.locals;
      named = ap (λ (some : List Made). some ++ record { at = at; stand = next_local shape given.growth } ∷ []) same.named;
      asked = same.asked;
      there = get-append_last given.growth.locals (unnamed shape);
    }

pub local_made : (reading : Readings) (turns : List Made) (variable : Variable) (growth : Growth)
    → DeclaresLocal variable.name.at (type_shape reading turns growth variable.declared) growth (with_text_local reading turns variable growth)
local_made reading turns variable growth =
    begun_made reading turns variable.name.at (type_shape reading turns growth variable.declared) variable.init growth

-- a slot is asked for there
pub record AsksSlot (at : ℕ) (old new : Growth) (pred : ℕ) : Type 0 where
  pub number : ℕ
  pub named : new.named ≡ old.named
  pub asked : new.asked ≡ old.asked ++ record { at = at; stand = stands.Slot number pred } ∷ []
  pub there : (slot : Slot) × (slice_get new.slots number ≡ Some slot) × (slot.pred ≡ pred)

-- a slot, if there is a predicate, or nothing
abbrev pub AsksIf : ℕ → Growth → Growth → Option ℕ → Type 0
AsksIf at old new (Some pred) = AsksSlot at old new pred
AsksIf at old new None = SameMade old new

wanted_made : (lexicon : Lexicon) (at : ℕ) (relation : Rel) (object : Option Term) (old growth : Growth) (found : Option ℕ) → SameMade old growth
    → AsksIf at old (option_map_or (λ pred. with_wanted_token lexicon at relation pred object growth) found growth) found
wanted_made lexicon at relation object old growth None same = same
wanted_made lexicon at relation object old growth (Some pred) same = record {
  number = length growth.slots;
  named = same.named;
  asked = ap (λ (some : List Made). some ++ record { at = at; stand = stands.Slot (length growth.slots) pred } ∷ []) same.asked;
  there = (pred_slot lexicon pred, get-append_last growth.slots (pred_slot lexicon pred), refl);
}

with_asked_made : (lexicon : Lexicon) (at : ℕ) (relation : Rel) (old : Growth) (asked : AskedSlot) → SameMade old asked.growth
    → AsksIf at old (with_asked lexicon at relation asked) asked.wanted.pred
with_asked_made lexicon at relation old asked same =
    wanted_made lexicon at relation asked.wanted.object old asked.growth asked.wanted.pred same

labelled_made : (reading : Readings) (turns : List Made) (path : Path) (names : List Name) (growth : Growth)
    → SameMade growth (asked_labelled reading turns path names growth).growth
labelled_made reading turns path [] growth = record { named = refl; asked = refl }
labelled_made reading turns path (name ∷ more) growth =
    asked_made reading (first_stand reading turns growth path.first.at) path.rest growth

-- what a relation with a label asks for
pub ask_made : (reading : Readings) (turns : List Made) (ask : Ask) (growth : Growth)
    → SameMade growth (with_ask reading turns ask growth)
    ⊎ AsksIf ask.label.at growth (with_ask reading turns ask growth) (asked_labelled reading turns ask.path ask.path.rest growth).wanted.pred
ask_made reading turns ask growth = by (relation_named ask.word.text)
  where
    by : (o : Option Rel)
        → SameMade growth (option_map_or (λ relation. with_asked reading.lexicon ask.label.at relation (asked_labelled reading turns ask.path ask.path.rest growth)) o growth)
        ⊎ AsksIf ask.label.at growth
        (option_map_or (λ relation. with_asked reading.lexicon ask.label.at relation (asked_labelled reading turns ask.path ask.path.rest growth)) o growth)
        (asked_labelled reading turns ask.path ask.path.rest growth).wanted.pred
    by None = inl (same_made growth)
    by (Some relation) =
        inr (with_asked_made reading.lexicon ask.label.at relation growth (asked_labelled reading turns ask.path ask.path.rest growth)
        (labelled_made reading turns ask.path ask.path.rest growth))

-- where the word is a relation
pub ask_asks : (reading : Readings) (turns : List Made) (ask : Ask) (growth : Growth) (relation : Rel) → relation_named ask.word.text ≡ Some relation
    → AsksIf ask.label.at growth (with_ask reading turns ask growth) (asked_labelled reading turns ask.path ask.path.rest growth).wanted.pred
ask_asks reading turns ask growth relation is =
    subst (λ (o : Option Rel). AsksIf ask.label.at growth
    (option_map_or (λ relation. with_asked reading.lexicon ask.label.at relation (asked_labelled reading turns ask.path ask.path.rest growth)) o growth)
    (asked_labelled reading turns ask.path ask.path.rest growth).wanted.pred) (sym is)
    (with_asked_made reading.lexicon ask.label.at relation growth (asked_labelled reading turns ask.path ask.path.rest growth)
    (labelled_made reading turns ask.path ask.path.rest growth))

-- what a call does: it asks for a slot, or declares nothing
pub data CallMakes (call : Call) (old new : Growth) : Type 0 where
  makes_nothing : SameMade old new → CallMakes call old new
  makes_slot : (pred : ℕ) → asks_slot call ≡ true → AsksSlot call.path.first.at old new pred → CallMakes call old new

related_made : (reading : Readings) (turns : List Made) (call : Call) (relation : Rel) (path : Path) (names : List Name) (growth : Growth)
    → path.rest ≡ names → call.arguments ≡ exprs.Path path ∷ [] → is_some (relation_named call.path.first.text) ≡ true
    → CallMakes call growth (with_related reading turns call.path.first.at relation path names growth)
related_made reading turns call relation path [] growth rest arguments is = by (first_stand reading turns growth path.first.at)
  where
    by : (stand : Stand) → CallMakes call growth (with_relation relation stand growth)
    by (stands.Slot number pred) = makes_nothing (record { named = refl; asked = refl })
    by (stands.Value term own class) = makes_nothing (same_made growth)
    by (stands.Root number pred) = makes_nothing (same_made growth)
    by (stands.Class class) = makes_nothing (same_made growth)
    by stands.Nothing = makes_nothing (same_made growth)
related_made reading turns call relation path (name ∷ more) growth rest arguments is =
    by (asked_path reading turns path growth).wanted.pred
    (with_asked_made reading.lexicon call.path.first.at relation growth (asked_path reading turns path growth)
    (asked_made reading (first_stand reading turns growth path.first.at) path.rest growth))
  where
    asks : asks_slot call ≡ true
    asks =
        (λ i. is i && list_any is_long_path (arguments i)) ∙ ap (λ (names : List Name). has_more names || false) rest

    by : (found : Option ℕ) → AsksIf call.path.first.at growth (with_asked reading.lexicon call.path.first.at relation (asked_path reading turns path growth)) found
        → CallMakes call growth (with_asked reading.lexicon call.path.first.at relation (asked_path reading turns path growth))
    by None made = makes_nothing made
    by (Some pred) made = makes_slot pred asks made

constraint_made : (reading : Readings) (turns : List Made) (word : Name) (some : List Expr) (growth : Growth)
    → SameMade growth (with_constraint_named reading turns word some growth)
constraint_made reading turns word some growth = by (constraint_named word.text)
  where
    by : (o : Option Kind) → SameMade growth (option_map_or (λ kind. with_constraint reading turns kind some growth) o growth)
    by None = same_made growth
    by (Some kind) =
        let given = given_made reading turns some growth in record { named = given.named; asked = given.asked }

pub call_made : (reading : Readings) (turns : List Made) (call : Call) (growth : Growth) → CallMakes call growth (with_call reading turns call growth)
call_made reading turns call growth = by (relation_named call.path.first.text) refl
  where
    related : (relation : Rel) → is_some (relation_named call.path.first.text) ≡ true → (some : List Expr) → call.arguments ≡ some
        → CallMakes call growth (with_relation_to reading turns call.path.first.at relation some growth)
    related relation is [] arguments = makes_nothing (same_made growth)
    related relation is (exprs.Path path ∷ []) arguments = related_made reading turns call relation path path.rest growth refl arguments is
    related relation is (exprs.Literal literal ∷ []) arguments = makes_nothing (same_made growth)
    related relation is (exprs.Path path ∷ other ∷ more) arguments = makes_nothing (same_made growth)
    related relation is (exprs.Literal literal ∷ other ∷ more) arguments = makes_nothing (same_made growth)

    by : (o : Option Rel) → relation_named call.path.first.text ≡ o
        → CallMakes call growth (option_map_or (λ relation. with_relation_to reading turns call.path.first.at relation call.arguments growth) o
        (with_constraint_named reading turns call.path.first call.arguments growth))
    by None is = makes_nothing (constraint_made reading turns call.path.first call.arguments growth)
    by (Some relation) is = related relation (ap (λ o. is_some o) is) call.arguments refl

-- ---- the latest that was made

-- no two of these are the same
abbrev pub Once : List ℕ → Type 0
Once spots = (one other at : ℕ) → slice_get spots one ≡ Some at → slice_get spots other ≡ Some at → one ≡ other

pub latest_last : (at : ℕ) (some : List Made) (stand : Stand) → latest_stand at (some ++ record { at = at; stand = stand } ∷ []) ≡ Some stand
latest_last at [] stand = ap (λ b. option_or None (if b then Some stand else None)) ((Decides-eqb at at).1 refl)
latest_last at (made ∷ more) stand = ap (λ o. option_or o (stand_if_at at made)) (latest_last at more stand)

latest_other : (at other : ℕ) (some : List Made) (stand : Stand) → (other ≡ at → ⊥)
    → latest_stand at (some ++ record { at = other; stand = stand } ∷ []) ≡ latest_stand at some
latest_other at other [] stand differ = ap (λ b. option_or None (if b then Some stand else None)) (differs other at differ)
latest_other at other (made ∷ more) stand differ = ap (λ o. option_or o (stand_if_at at made)) (latest_other at other more stand differ)

-- what is made last of what is declared there is found
pub declared_last : (spots : List ℕ) (number at : ℕ) (some : List Made) (stand : Stand) → slice_get spots number ≡ Some at
    → declared_stand spots number (some ++ record { at = at; stand = stand } ∷ []) ≡ Some stand
declared_last spots number at some stand there =
    ap (option_and_then (λ (spot : ℕ). latest_stand spot (some ++ record { at = at; stand = stand } ∷ []))) there ∙ latest_last at some stand

-- and changes nothing of what is declared elsewhere
pub declared_other : (spots : List ℕ) (number next at : ℕ) (some : List Made) (stand : Stand) → Once spots → (number ≡ next → ⊥)
    → slice_get spots next ≡ Some at → declared_stand spots number (some ++ record { at = at; stand = stand } ∷ []) ≡ declared_stand spots number some
declared_other spots number next at some stand once differ there = by (slice_get spots number) refl
  where
    by : (o : Option ℕ) → slice_get spots number ≡ o
        → option_and_then (λ (spot : ℕ). latest_stand spot (some ++ record { at = at; stand = stand } ∷ [])) o
        ≡ option_and_then (λ (spot : ℕ). latest_stand spot some) o
    by None here = refl
    by (Some spot) here =
        latest_other spot at some stand (λ same. differ (once number next at (here ∙ ap (λ n. Some n) (sym same)) there))

-- ---- what stays

module _ (places : TextPlaces) (once_locals : Once places.locals) (once_slots : Once places.slots) where
  -- what stands for the first locals and slots, so many, is as it was
  pub record Keeps (tally : Tally) (old new : Growth) : Type 0 where
    pub named : (number : ℕ) → number < tally.locals → declared_stand places.locals number new.named ≡ declared_stand places.locals number old.named
    pub asked : (number : ℕ) → number < tally.slots → declared_stand places.slots number new.asked ≡ declared_stand places.slots number old.asked

  pub keeps_same : (tally : Tally) (old new : Growth) → SameMade old new → Keeps tally old new
  keeps_same tally old new same = record {
    named = λ number less. ap (declared_stand places.locals number) same.named;
    asked = λ number less. ap (declared_stand places.slots number) same.asked;
  }

  pub keeps_then : (tally : Tally) (old between new : Growth) → Keeps tally old between → Keeps tally between new → Keeps tally old new
  keeps_then tally old between new first second = record {
    named = λ number less. second.named number less ∙ first.named number less;
    asked = λ number less. second.asked number less ∙ first.asked number less;
  }

  pub keeps_fewer : (few many : Tally) (old new : Growth) → few.locals ≤ many.locals → few.slots ≤ many.slots → Keeps many old new → Keeps few old new
  keeps_fewer few many old new locals slots keeps = record {
    named = λ number less. keeps.named number (omega (arith, less, locals));
    asked = λ number less. keeps.asked number (omega (arith, less, slots));
  }

  pub keeps_local : (tally : Tally) (at : ℕ) (shape : Shape) (old new : Growth) → slice_get places.locals tally.locals ≡ Some at
      → DeclaresLocal at shape old new → Keeps tally old new
  keeps_local tally at shape old new there made = record {
    named = λ number less.
        ap (declared_stand places.locals number) made.named
        ∙ declared_other places.locals number tally.locals at old.named (stands.Value (terms.Local made.number) shape.kind shape.class) once_locals
        (λ same. omega (arith, less, same)) there;
    asked = λ number less. ap (declared_stand places.slots number) made.asked;
  }

  pub keeps_slot : (tally : Tally) (at pred : ℕ) (old new : Growth) → slice_get places.slots tally.slots ≡ Some at → AsksSlot at old new pred
      → Keeps tally old new
  keeps_slot tally at pred old new there made = record {
    named = λ number less. ap (declared_stand places.locals number) made.named;
    asked = λ number less.
        ap (declared_stand places.slots number) made.asked
        ∙ declared_other places.slots number tally.slots at old.asked (stands.Slot made.number pred) once_slots
        (λ same. omega (arith, less, same)) there;
  }

  pub keeps_if : (tally : Tally) (at : ℕ) (found : Option ℕ) (old new : Growth) → slice_get places.slots tally.slots ≡ Some at → AsksIf at old new found
      → Keeps tally old new
  keeps_if tally at None old new there made = keeps_same tally old new made
  keeps_if tally at (Some pred) old new there made = keeps_slot tally at pred old new there made
