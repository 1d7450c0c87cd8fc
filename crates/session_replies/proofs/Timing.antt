-- Time edges as they are written.
use Rattle.std.proofs.Common.{◌≡◌, ℕ, ℤ, List, [], ◌++◌, Result, Ok, Err, refl, sym, ap, ◌∙◌, subst, codes}
use Rattle.std.specs.Prelude.{OnOk}
use Rattle.std.specs.Fmt.{signed_decimal}
use Rattle.eu_name.specs.declared.name.Part.{Part}
use Rattle.eu_name.specs.declared.name.Part.TheVariants as parts
use Rattle.eu_name.specs.declared.name.TokenName.{TokenName}
use Rattle.eu_name.specs.declared.name.VarName.{VarName}
use Rattle.eu_name.specs.declared.name.VarName.TheVariants as variables
use Rattle.eu_name.specs.declared.name_text.NameText.{NameText}
use Rattle.eu_name.specs.Spelling.{name_spelling}
use Rattle.model_core.specs.declared.model.Model.{Model}
use Rattle.model_core.specs.declared.variable.Base.{Base}
use Rattle.model_core.specs.Lawful.{IsLawful, IsToken}
use Rattle.model_core.specs.Names.{NamesVariable}
use Rattle.model_core.specs.Variables.{HasBase}
use Rattle.db_edges.specs.declared.edge.NamedEdge.{NamedEdge}
use Rattle.db_edges.specs.declared.edge.Point.{Point}
use Rattle.db_edges.specs.declared.edge.Point.TheVariants as points
use Rattle.session_replies.specs.Lines.{IsVariableWord, IsPointWord, IsEdgeLine}
use Rattle.session_replies.specs.Writable.{IsPointWritable}
use Rattle.session_replies.specs.Written.{Writes, WritesBehind}
use Rattle.session_replies.proofs.Spacing.{variable_word}
use Rattle.session_replies.proofs.Tokening.{three}

module _ (model : Model) where
  -- the name of a variable, behind a gap
  pub variable_put : {A E : Type 0} (name same : VarName) (gap old new : List ℕ) (r : Result A E) → IsLawful model → same ≡ name
      → OnOk r ((text : NameText) × ((new ≡ old ++ (gap ++ name_spelling text)) × NamesVariable model text same)) → OnOk r (WritesBehind gap (IsVariableWord model name) old new)
  variable_put name same gap old new (Ok x) lawful is (text, (put, names)) = (name_spelling text, (variable_word model name text lawful (subst (λ (n : VarName). NamesVariable model text n) is names), put))
  variable_put name same gap old new (Err e) lawful is put = tt

  pub part_base : (token copied : TokenName) (part : Part) → copied ≡ token → (base : Base) × HasBase model (variables.Token token part) base → (base : Base) × HasBase model (variables.Token copied part) base
  part_base token copied part is (base, has) = (base, subst (λ (t : TokenName). HasBase model (variables.Token t part) base) (sym is) has)

  pub start_base : (point : Point) (token : TokenName) → point ≡ points.Start token → IsPointWritable model point → (base : Base) × HasBase model (variables.Token token parts.Start) base
  start_base point token is writable = let there : IsToken model token = subst (IsPointWritable model) is writable in (_, (there.0, there.1, refl))

  pub end_base : (point : Point) (token : TokenName) → point ≡ points.End token → IsPointWritable model point → (base : Base) × HasBase model (variables.Token token parts.End) base
  end_base point token is writable = let there : IsToken model token = subst (IsPointWritable model) is writable in (_, (there.0, there.1, refl))

  pub origin_put : {A E : Type 0} (point : Point) (gap old new : List ℕ) (r : Result A E) → point ≡ points.Origin → OnOk r (new ≡ old ++ (gap ++ codes "origin")) → OnOk r (WritesBehind gap (IsPointWord model point) old new)
  origin_put point gap old new (Ok x) is put = (codes "origin", (subst (λ (p : Point). IsPointWord model p (codes "origin")) (sym is) refl, put))
  origin_put point gap old new (Err e) is put = tt

  -- a point that is this one
  pub point_put : {A E : Type 0} (point same : Point) (gap old new : List ℕ) (r : Result A E) → point ≡ same → OnOk r (WritesBehind gap (IsPointWord model same) old new) → OnOk r (WritesBehind gap (IsPointWord model point) old new)
  point_put point same gap old new r is = subst (λ (p : Point). OnOk r (WritesBehind gap (IsPointWord model p) old new)) (sym is)

  -- the whole edge
  pub edge_put : {A E : Type 0} (edge : NamedEdge) (written : ℤ) (old from said new : List ℕ) (r : Result A E) → written ≡ edge.gap → WritesBehind [] (IsPointWord model edge.from) old from
      → said ≡ from ++ (codes " + " ++ signed_decimal written) → OnOk r (WritesBehind (codes " <= ") (IsPointWord model edge.to) said new) → OnOk r (Writes (IsEdgeLine model edge) old new)
  edge_put edge written old from said new (Ok x) same (one, (is_one, first)) second (other, (is_other, third)) = (
    one ++ (codes " + " ++ (signed_decimal edge.gap ++ (codes " <= " ++ other))),
    (
      (one, (is_one, (other, (is_other, refl)))),
      third ∙ (ap (λ (bytes : List ℕ). bytes ++ (codes " <= " ++ other)) (second ∙ (ap (λ (bytes : List ℕ). bytes ++ (codes " + " ++ signed_decimal written)) first
          ∙ ap (λ (v : ℤ). (old ++ one) ++ (codes " + " ++ signed_decimal v)) same)) ∙ three old one (codes " + " ++ signed_decimal edge.gap) (codes " <= " ++ other)),
    ),
  )
  edge_put edge written old from said new (Err e) same first second third = tt
