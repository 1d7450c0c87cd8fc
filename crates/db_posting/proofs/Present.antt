-- The variables of an item are there where what it is about is.
use Rattle.std.proofs.Common.{◌≡◌, refl, sym, subst}
use Rattle.std.specs.Prelude.{Contains}
use Rattle.std.proofs.lemmas.List.Elements.{All-contains}
use Rattle.domain_core.specs.Domain.{Range}
use Rattle.eu_name.specs.declared.name.Part.{Part}
use Rattle.eu_name.specs.declared.name.Part.TheVariants.{Start, End, Duration, Object, Param}
use Rattle.eu_name.specs.declared.name.TokenName.{TokenName}
use Rattle.eu_name.specs.declared.name.VarName.TheVariants as name
use Rattle.model_core.specs.declared.item.Item.TheVariants.{Constraint, Relation}
use Rattle.model_core.specs.declared.item.Term.{Term}
use Rattle.model_core.specs.declared.item.Term.TheVariants as terms
use Rattle.model_core.specs.declared.model.Model.{Model}
use Rattle.model_core.specs.declared.rule.Slot.{Slot}
use Rattle.model_core.specs.declared.variable.Base.{Base}
use Rattle.model_core.specs.declared.variable.Base.TheVariants.{Given}
use Rattle.model_core.specs.declared.variable.ValueKind.{ValueKind}
use Rattle.model_core.specs.Kinds.{OfProblem, IsOfKind, IsPartOfKind}
use Rattle.model_core.specs.Tokens.{HasToken, root_token, slot_of}
use Rattle.model_core.specs.Variables.{HasPartBase}
use Rattle.plan_defs.specs.Terms.{InProblem}
use Rattle.eu_name.proofs.Members.{get_below}
use Rattle.model_core.specs.Content.{Content, IsContent}
use Rattle.db_refine.specs.Coming.{IsTermThere}
use Rattle.db_posting.specs.Counting.{AreRootsThere}
use Rattle.db_posting.specs.PostingLaws.{WhatIsThereIsNamed, ItemsOfProblemAreNamed}
use Rattle.db_posting.specs.Terms.{HasTimes}
use Rattle.db_posting.proofs.Allowing.{arguments_kinds}

module _ (model : Model) (content : Content) (is : IsContent model content) where
  times_there : (token : TokenName) → Contains content.tokens token → HasTimes content token
  times_there token there =
      let HasSlot : TokenName → Type 0 = λ one. (slot : Slot) × HasToken model one slot in
      let slot = All-contains HasSlot content.tokens token is.tokens there in
      let range : Base = Given (Range model.problem.start model.problem.end) in (
        (is.variables (name.Token token Start)).0 (there, (range, (slot.0, slot.1, refl))),
        (is.variables (name.Token token End)).0 (there, (range, (slot.0, slot.1, refl))),
      )

  part_base : (slot : Slot) (kind : ValueKind) (part : Part) → IsPartOfKind model slot.pred kind part → (base : Base) × HasPartBase model slot part base
  part_base slot kind Start of_kind = (_, refl)
  part_base slot kind End of_kind = (_, refl)
  part_base slot kind Duration of_kind = (_, refl)
  part_base slot kind Object of_kind = (_, refl)
  part_base slot kind (Param number) of_kind = (of_kind.0.base, (of_kind.0, of_kind.1, refl))

  term_there : AreRootsThere model content → (kind : ValueKind) (term : Term) → IsOfKind model OfProblem kind term → IsTermThere content InProblem term
  term_there roots kind (terms.Lit value) of_kind = λ one means. absurd (cc)
  term_there roots kind (terms.Global number) of_kind = λ one means.
      let same : one ≡ name.Global number = cc in
      subst (Contains content.names) (sym same) ((is.variables (name.Global number)).0 (get_below model.problem.globals number of_kind.0 of_kind.1))
  term_there roots kind (terms.Root number part) of_kind = λ one means.
      let same : one ≡ name.Token (root_token number) part = cc in
      let slot = slot_of of_kind.0 in
      let base = part_base slot kind part of_kind.2 in
      let has : HasToken model (root_token number) slot = record { root = of_kind.0; is_root = of_kind.1; reached = refl } in
      subst (Contains content.names) (sym same)
      ((is.variables (name.Token (root_token number) part)).0 (roots number of_kind.0 of_kind.1, (base.0, (slot, has, base.1))))
  term_there roots kind (terms.Here part) of_kind = absurd of_kind
  term_there roots kind (terms.Slot number part) of_kind = absurd of_kind
  term_there roots kind (terms.Local number) of_kind = absurd of_kind

pub what_is_there_is_named : WhatIsThereIsNamed
what_is_there_is_named model content token rule (Constraint kind terms) is there all = all
what_is_there_is_named model content token rule (Relation rel slot) is there all = (times_there model content is token there, times_there model content is _ all)

pub items_of_problem_are_named : ItemsOfProblemAreNamed
items_of_problem_are_named model content (Constraint kind terms) is roots lawful = λ k d below.
    let of_kind = arguments_kinds model OfProblem kind terms lawful.1 k d below in
    term_there model content is roots of_kind.0 _ of_kind.1
items_of_problem_are_named model content (Relation rel slot) is roots lawful = absurd lawful
