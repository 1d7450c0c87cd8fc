-- What is broken in a plan of the model has a text.
use Rattle.std.proofs.Common.{ℕ, ℤ, List, ◌++◌, refl, codes}
use Rattle.std.specs.Fmt.{decimal, signed_decimal}
use Rattle.eu_name.specs.declared.name.TokenName.{TokenName}
use Rattle.eu_name.specs.declared.name.VarName.TheVariants as variables
use Rattle.eu_name.specs.Spelling.{name_spelling}
use Rattle.model_core.specs.declared.model.Model.{Model}
use Rattle.model_core.specs.declared.variable.Base.{Base}
use Rattle.model_core.specs.Lawful.{IsLawful, IsToken}
use Rattle.model_core.specs.Tokens.{root_token, slot_of, slot_token}
use Rattle.model_core.specs.Variables.{HasBase}
use Rattle.model_core.proofs.Items.{item_all}
use Rattle.model_core.proofs.OneText.{one_token_text, one_variable_text}
use Rattle.model_core.proofs.WellFormed.{token_text_well_formed, variable_text_well_formed}
use Rattle.plan_defs.specs.declared.plan.Line.{Line}
use Rattle.plan_defs.specs.declared.plan.Line.TheVariants as lines
use Rattle.plan_defs.specs.declared.plan.Place.{Place}
use Rattle.plan_defs.specs.declared.plan.Place.TheVariants as places
use Rattle.plan_defs.specs.declared.plan.Plan.{Plan}
use Rattle.plan_defs.specs.Plans.{IsPlanOf, IsLineOf, IsLocalValue, order_name}
use Rattle.plan_defs.specs.Valid.{IsLineAt}
use Rattle.plan_text.specs.Subjects.{IsNameOf}
use Rattle.plan_report.specs.Naming.{IsTokenWord, IsLineWord, IsPlaceText, HasNames}

module _ (model : Model) (lawful : IsLawful model) where
  -- a token that is there has a name
  token_word : (token : TokenName) → IsToken model token → (word : List ℕ) × IsTokenWord model token word
  token_word token (slot, has) =
      let text = one_token_text model token slot has in
      (name_spelling text.0, record { text = text.0; spells = (token_text_well_formed model text.0 token lawful text.1.names, refl); names = text.1.names })

  global_word : (number : ℕ) (base : Base) → HasBase model (variables.Global number) base → (word : List ℕ) × IsNameOf model (variables.Global number) word
  global_word number base has =
      let text = one_variable_text model (variables.Global number) base has in
      (name_spelling text.0, record { text = text.0; spells = (variable_text_well_formed model text.0 (variables.Global number) lawful text.1.names, refl); names = text.1.names })

  local_word : (token : TokenName) (rule number : ℕ) (base : Base) → HasBase model (variables.Local token rule number) base
      → (word : List ℕ) × IsNameOf model (variables.Local token rule number) word
  local_word token rule number base has =
      let text = one_variable_text model (variables.Local token rule number) base has in (
        name_spelling text.0,
        record { text = text.0; spells = (variable_text_well_formed model text.0 (variables.Local token rule number) lawful text.1.names, refl); names = text.1.names },
      )

  local_base : (token : TokenName) (rule number : ℕ) (value : ℤ) → IsLocalValue model (variables.Local token rule number) value
      → (base : Base) × HasBase model (variables.Local token rule number) base
  local_base token rule number value (slot, has, (variable, local, of)) =
      (variable.base, record { slot = slot; has_token = has; variable = variable; has_local = local; is_base = refl })

  -- so has the line of a plan
  line_name : (line : Line) → IsLineOf model line → (word : List ℕ) × IsNameOf model (order_name line) word
  line_name (lines.Token name fact values) is = token_word name (is.0, is.1)
  line_name (lines.Merged name target) is = token_word name is.0
  line_name (lines.Rejected name) is = token_word name is
  line_name (lines.Local (variables.Global number) value) is = absurd is
  line_name (lines.Local (variables.Token token part) value) is = absurd is
  line_name (lines.Local (variables.Local token rule number) value) is =
      let base = local_base token rule number value is in local_word token rule number base.0 base.1

  module _ (plan : Plan) (is_plan : IsPlanOf model plan) where
    line_word : (place : ℕ) → (said : Line) × IsLineAt plan place said → (word : List ℕ) × IsLineWord model plan place word
    line_word place (said, at) =
        let named = line_name said (item_all (IsLineOf model) plan.lines place said is_plan.lines at) in
        (named.0, (said, (at, named.1)))

    -- and what is named by a place
    pub place_text : (place : Place) → HasNames model plan place → (text : List ℕ) × IsPlaceText model plan place text
    place_text (places.Global number) (variable, is) = global_word number variable.base (variable, is, refl)
    place_text (places.Root number) (root, is) = token_word (root_token number) (slot_of root, record { root = root; is_root = is; reached = refl })
    place_text (places.Line line) there = line_word line there
    place_text (places.Slot line rule slot) (token, (act, is)) = let named = token_word (slot_token token rule slot) is in (named.0, (token, (act, named.1)))
    place_text (places.Local line rule number) (token, (act, (base, has))) = let named = local_word token rule number base has in (named.0, (token, (act, named.1)))
    place_text (places.Problem item) there = (codes "problem " ++ decimal item, refl)
    place_text (places.Item line rule item) there =
        let named = line_word line there in
        (named.0 ++ (codes "/" ++ (decimal rule ++ (codes " " ++ decimal item))), (named.0, (named.1, refl)))
    place_text (places.Pair one other) there =
        let first = line_word one there.0 in
        let second = line_word other there.1 in
        (first.0 ++ (codes " " ++ second.0), (first.0, (first.1, (second.0, (second.1, refl)))))
    place_text (places.Instant number at) there =
        let object = there.0 in (object.0.name ++ (codes " " ++ signed_decimal at), (object.0, (object.1, refl)))
