-- The names of places in a plan.
use Rattle.std.specs.Prelude.{◌≡◌, ℕ, ⊤, List, ◌++◌, Some, slice_get, codes}
use Rattle.std.specs.Fmt.{decimal, signed_decimal}
use Rattle.eu_name.specs.declared.name.Part.TheVariants.{Start}
use Rattle.eu_name.specs.declared.name.TokenName.{TokenName}
use Rattle.eu_name.specs.declared.name.VarName.{VarName}
use Rattle.eu_name.specs.declared.name.VarName.TheVariants as variables
use Rattle.eu_name.specs.declared.name_text.NameText.{NameText}
use Rattle.model_core.specs.declared.class.Object as classes
use Rattle.model_core.specs.declared.model.Model.{Model}
use Rattle.model_core.specs.declared.model.Root as roots
use Rattle.model_core.specs.declared.variable.Base.{Base}
use Rattle.model_core.specs.declared.variable.VarDecl.{VarDecl}
use Rattle.model_core.specs.Lawful.{IsToken}
use Rattle.model_core.specs.Names.{NamesVariable}
use Rattle.model_core.specs.Tokens.{IsRoot, root_token, slot_token}
use Rattle.model_core.specs.Variables.{IsGlobal, HasBase}
use Rattle.plan_text.specs.Subjects.{NamesSubject, IsNameOf}
use Rattle.plan_defs.specs.declared.plan.Line as the_line
use Rattle.plan_defs.specs.declared.plan.Place.{Place}
use Rattle.plan_defs.specs.declared.plan.Place.TheVariants.{Global, Root, Line, Slot, Local, Problem, Item, Pair, Instant}
use Rattle.plan_defs.specs.declared.plan.Plan.{Plan}
use Rattle.plan_defs.specs.Plans.{order_name}
use Rattle.plan_defs.specs.Resources.{IsInstant}
use Rattle.plan_defs.specs.Valid.{IsLineAt, IsActivatedAt}

-- the word names the token
abbrev pub IsTokenWord : Model → TokenName → List ℕ → Type 0
IsTokenWord model token = IsNameOf model (variables.Token token Start)

-- the word names the token or the local of the plan's line at this place
abbrev pub IsLineWord : Model → Plan → ℕ → List ℕ → Type 0
IsLineWord model plan line word =
    (said : the_line.Line) × (IsLineAt plan line said × IsNameOf model (order_name said) word)

-- the names of the place: of a slot in a rule of a line's token its token, of a local there the local, of an item there the
-- token, the rule and the item, and of an object at an instant the object and the instant
abbrev pub IsPlaceText : Model → Plan → Place → List ℕ → Type 0
IsPlaceText model plan (Global number) text = IsNameOf model (variables.Global number) text
IsPlaceText model plan (Root number) text = IsTokenWord model (root_token number) text
IsPlaceText model plan (Line line) text = IsLineWord model plan line text
IsPlaceText model plan (Slot line rule slot) text =
    (token : TokenName) × (IsActivatedAt plan line token × IsTokenWord model (slot_token token rule slot) text)
IsPlaceText model plan (Local line rule number) text =
    (token : TokenName) × (IsActivatedAt plan line token × IsNameOf model (variables.Local token rule number) text)
IsPlaceText model plan (Problem item) text = text ≡ codes "problem " ++ decimal item
IsPlaceText model plan (Item line rule item) text =
    (word : List ℕ) × (IsLineWord model plan line word
    × (text ≡ word ++ (codes "/" ++ (decimal rule ++ (codes " " ++ decimal item)))))
IsPlaceText model plan (Pair one other) text =
    (word : List ℕ) × (IsLineWord model plan one word
    × ((next : List ℕ) × (IsLineWord model plan other next × (text ≡ word ++ (codes " " ++ next)))))
IsPlaceText model plan (Instant number at) text =
    (object : classes.Object) × ((slice_get model.objects number ≡ Some object)
    × (text ≡ object.name ++ (codes " " ++ signed_decimal at)))

-- what the place names is there: the model has it, and the plan the lines; an instant is one of the horizon
abbrev pub HasNames : Model → Plan → Place → Type 0
HasNames model plan (Global number) = (variable : VarDecl) × IsGlobal model number variable
HasNames model plan (Root number) = (root : roots.Root) × IsRoot model number root
HasNames model plan (Line line) = (said : the_line.Line) × IsLineAt plan line said
HasNames model plan (Slot line rule slot) =
    (token : TokenName) × (IsActivatedAt plan line token × IsToken model (slot_token token rule slot))
HasNames model plan (Local line rule number) =
    (token : TokenName) × (IsActivatedAt plan line token
    × ((base : Base) × HasBase model (variables.Local token rule number) base))
HasNames model plan (Problem item) = ⊤
HasNames model plan (Item line rule item) = (said : the_line.Line) × IsLineAt plan line said
HasNames model plan (Pair one other) =
    ((said : the_line.Line) × IsLineAt plan one said) × ((said : the_line.Line) × IsLineAt plan other said)
HasNames model plan (Instant number at) =
    ((object : classes.Object) × (slice_get model.objects number ≡ Some object)) × IsInstant model at

-- a text for which this holds was written behind the old bytes, and a space before it
abbrev pub AddsSpaced : (List ℕ → Type 0) → List ℕ → List ℕ → Type 0
AddsSpaced Is old new = (text : List ℕ) × ((new ≡ old ++ (codes " " ++ text)) × Is text)

-- as a global or a local is, and no part of a token: what names it as a variable names it as what a line is about
abbrev pub IsNamedAlike : Model → VarName → Type 0
IsNamedAlike model name = (text : NameText) → NamesVariable model text name → NamesSubject model text name
