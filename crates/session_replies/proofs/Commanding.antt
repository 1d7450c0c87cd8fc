-- Decisions as the commands that make them.
use Rattle.std.proofs.Common.{◌≡◌, ℤ, ℕ, List, ◌++◌, Result, Ok, Err, refl, sym, ap, ◌∙◌, subst, append_assoc, codes, w32, to_z, of_z, arith}
use Rattle.std.specs.Prelude.{OnOk}
use Rattle.std.proofs.lemmas.Int.{ints}
use Rattle.domain_core.proofs.Words.{has_value}
use Rattle.eu_name.specs.declared.name.Part.TheVariants.{Start}
use Rattle.eu_name.specs.declared.name.TokenName.{TokenName}
use Rattle.eu_name.specs.declared.name.VarName.{VarName}
use Rattle.eu_name.specs.declared.name.VarName.TheVariants as variables
use Rattle.eu_name.specs.declared.name_text.NameText.{NameText}
use Rattle.eu_name.specs.Spelling.{name_spelling}
use Rattle.model_core.specs.declared.decision.Decision.{Decision}
use Rattle.model_core.specs.declared.model.Model.{Model}
use Rattle.model_core.specs.declared.variable.Base.{Base}
use Rattle.model_core.specs.declared.variable.Base.TheVariants.{Given}
use Rattle.model_core.specs.declared.variable.ValueKind.{ValueKind}
use Rattle.model_core.specs.Kinds.{IsVariableOfKind}
use Rattle.model_core.specs.Lawful.{IsLawful}
use Rattle.model_core.specs.Names.{NamesVariable}
use Rattle.model_core.specs.Variables.{HasBase}
use Rattle.plan_text.specs.Subjects.{IsNameOf}
use Rattle.plan_text.specs.Values.{IsValueText}
use Rattle.plan_defs.specs.Refusals.{IsDeclared}
use Rattle.model_core.proofs.Lawful.{base_lawful}
use Rattle.session_replies.specs.Lines.{IsTokenWord, IsLineOnToken, IsLineOnTokens, IsLineOnVariable, IsDecisionLine}
use Rattle.session_replies.specs.Written.{Writes}
use Rattle.session_replies.proofs.Spacing.{variable_word}

-- the text is the name of the token, behind the gap
abbrev pub PutsToken : Model → TokenName → List ℕ → List ℕ → List ℕ → Type 0
PutsToken model token gap old new = (word : List ℕ) × ((new ≡ old ++ (gap ++ word)) × IsNameOf model (variables.Token token Start) word)

module _ (model : Model) where
  pub token_word : (token : TokenName) (word : List ℕ) → IsNameOf model (variables.Token token Start) word → IsTokenWord model token word
  token_word token word is = (is.text, (is.spells, is.names))

  pub on_token_put : {A E : Type 0} (first : List ℕ) (token : TokenName) (old mid new : List ℕ) (r : Result A E) → mid ≡ old ++ first → OnOk r (PutsToken model token (codes " ") mid new)
      → OnOk r (Writes (IsLineOnToken model first token) old new)
  on_token_put first token old mid new (Ok x) head (word, (put, is)) = (
    first ++ (codes " " ++ word),
    ((word, (token_word token word is, refl)), put ∙ (ap (λ (bytes : List ℕ). bytes ++ (codes " " ++ word)) head ∙ append_assoc old first (codes " " ++ word))),
  )
  on_token_put first token old mid new (Err e) head put = tt

  pub on_tokens_put : {A E : Type 0} (first : List ℕ) (one other : TokenName) (old mid new : List ℕ) (r : Result A E) → Writes (IsLineOnToken model first one) old mid → OnOk r (PutsToken model other (codes " ") mid new)
      → OnOk r (Writes (IsLineOnTokens model first one other) old new)
  on_tokens_put first one other old mid new (Ok x) (piece, ((word, (is_one, whole)), before)) (next, (put, is)) = (
    first ++ (codes " " ++ (word ++ (codes " " ++ next))),
    (
      (word, (is_one, (next, (token_word other next is, refl)))),
      put ∙ (ap (λ (bytes : List ℕ). bytes ++ (codes " " ++ next)) (before ∙ ap (λ (bytes : List ℕ). old ++ bytes) whole)
          ∙ (append_assoc old (first ++ (codes " " ++ word)) (codes " " ++ next) ∙ ap (λ (bytes : List ℕ). old ++ bytes) (append_assoc first (codes " " ++ word) (codes " " ++ next)))),
    ),
  )
  on_tokens_put first one other old mid new (Err e) before put = tt

  pub on_variable_put : {A E : Type 0} (first : List ℕ) (name : VarName) (kind : ValueKind) (value written : ℤ) (old mid named new : List ℕ) (r : Result A E) → written ≡ value → IsLawful model → IsVariableOfKind model kind name
      → mid ≡ old ++ first → (text : NameText) × ((named ≡ mid ++ (codes " " ++ name_spelling text)) × NamesVariable model text name)
      → OnOk r ((word : List ℕ) × ((new ≡ named ++ (codes " " ++ word)) × IsValueText model kind written word)) → OnOk r (Writes (IsLineOnVariable model first name value) old new)
  on_variable_put first name kind value written old mid named new (Ok x) same lawful of head (text, (second, names)) (shown, (third, says)) =
      let word = name_spelling text in (
        first ++ (codes " " ++ (word ++ (codes " " ++ shown))),
        (
          (word, (variable_word model name text lawful names, (kind, (of, (shown, (subst (λ (v : ℤ). IsValueText model kind v shown) same says, refl)))))),
          third ∙ (ap (λ (bytes : List ℕ). bytes ++ (codes " " ++ shown)) (second ∙ (ap (λ (bytes : List ℕ). bytes ++ (codes " " ++ word)) head ∙ append_assoc old first (codes " " ++ word)))
              ∙ (append_assoc old (first ++ (codes " " ++ word)) (codes " " ++ shown) ∙ ap (λ (bytes : List ℕ). old ++ bytes) (append_assoc first (codes " " ++ word) (codes " " ++ shown)))),
        ),
      )
  on_variable_put first name kind value written old mid named new (Err e) same lawful of head second third = tt

  pub declared_base : (name : VarName) (value : ℤ) → IsDeclared model name value → (base : Base) × HasBase model name base
  declared_base name value (base, has, is) = (Given base, has)

  -- the value is one that the code keeps
  pub declared_kept : (name : VarName) (value : ℤ) → IsLawful model → IsDeclared model name value → to_z w32 (of_z w32 value) ≡ value
  declared_kept name value lawful (base, declared, has) =
      let is = has_value base value (base_lawful model lawful name base declared) has in
      omega (arith, ints, is.0, is.1)

  -- the command of a decision that is this one
  pub decision_line : {A E : Type 0} (decision same : Decision) (old new : List ℕ) (r : Result A E) → decision ≡ same → OnOk r (Writes (IsDecisionLine model same) old new)
      → OnOk r (Writes (IsDecisionLine model decision) old new)
  decision_line decision same old new r is = subst (λ (d : Decision). OnOk r (Writes (IsDecisionLine model d) old new)) (sym is)
