-- Flaws as they are written.
use Rattle.std.proofs.Common.{◌≡◌, ℕ, List, [], ◌∷◌, ◌++◌, Result, Ok, Err, Some, refl, sym, ap, ◌∙◌, subst, append_assoc, codes}
use Rattle.std.specs.Prelude.{OnOk}
use Rattle.std.specs.Fmt.{decimal}
use Rattle.std.proofs.lemmas.List.Elements.{All-contains}
use Rattle.eu_name.specs.declared.name.Part.TheVariants.{Start, End}
use Rattle.eu_name.specs.declared.name.TokenName.{TokenName}
use Rattle.eu_name.specs.declared.name.VarName.{VarName}
use Rattle.eu_name.specs.declared.name.VarName.TheVariants as variables
use Rattle.model_core.specs.declared.decision.Decision.{Decision}
use Rattle.model_core.specs.declared.model.Model.{Model}
use Rattle.model_core.specs.declared.variable.Base.{Base}
use Rattle.model_core.specs.Lawful.{IsToken}
use Rattle.model_core.specs.State.{State}
use Rattle.model_core.specs.Variables.{HasBase}
use Rattle.model_core.specs.Views.{IsTokenAt}
use Rattle.plan_defs.specs.Closure.{IsLeast}
use Rattle.plan_defs.specs.Flaws.{Flaw, Undecided, Undetermined, Unordered, Untimed, IsFlaw}
use Rattle.flaw_core.specs.declared.flaw.Flaw as found
use Rattle.flaw_core.specs.declared.flaw.Flaw.TheVariants as flaws
use Rattle.flaw_core.specs.declared.flaw.VarPlace.{VarPlace}
use Rattle.flaw_core.specs.declared.flaw.VarPlace.TheVariants as places
use Rattle.flaw_core.specs.Places.{IsVarAt, IsFlawAt}
use Rattle.flaw_core.specs.Rules.{IsFirstAt}
use Rattle.plan_defs.proofs.Telling.{one_at}
use Rattle.session_replies.specs.Lines.{IsVariableWord, IsLineOnToken, IsLineOnTokens, IsFlawText, IsFlawLine}
use Rattle.session_replies.specs.Writable.{IsFlawWritable}
use Rattle.session_replies.specs.Written.{Writes, WritesBehind, WritesLine}
use Rattle.session_replies.proofs.Tokening.{three}

-- one variable is at a place
var_once : (state : State) (place : VarPlace) (one other : VarName) → IsVarAt state place one → IsVarAt state place other → one ≡ other
var_once state (places.Global number) one other p q = p ∙ sym q
var_once state (places.Part place part) one other (t, at, p) (u, there, q) = p ∙ (ap (λ (x : TokenName). variables.Token x part) (one_at state place t u at there) ∙ sym q)
var_once state (places.Local place rule number) one other (t, at, p) (u, there, q) = p ∙ (ap (λ (x : TokenName). variables.Local x rule number) (one_at state place t u at there) ∙ sym q)

module _ (model : Model) (state : State) where
  -- ---- the model has what the flaw is about

  flaw_writable : (decisions : List Decision) (flaw : Flaw) → IsLeast model decisions state → IsFlaw model decisions state flaw → IsFlawWritable model flaw
  flaw_writable decisions (Undecided token) least (there, undecided) = All-contains (IsToken model) state.tokens token least.closed.consistent.is_state.tokens there
  flaw_writable decisions (Undetermined name) least (untimed, left) =
      let inside = least.closed.consistent.in_base name left.domain left.gives in (inside.0, inside.1)
  flaw_writable decisions (Unordered one other) least (before, pair) =
      let ends = pair.no_order.overruns in
      let first = least.closed.consistent.in_base (variables.Token one End) ends.end ends.gives_end in
      let second = least.closed.consistent.in_base (variables.Token other Start) ends.start ends.gives_start in
      ((first.1.0, first.1.1), (second.1.0, second.1.1))
  flaw_writable decisions (Untimed name) least (timed, left) =
      let inside = least.closed.consistent.in_base name left.domain left.gives in (inside.0, inside.1)

  -- so it is of the first flaw
  pub first_writable : (decisions : List Decision) (flaw : found.Flaw) → IsLeast model decisions state → IsFirstAt model decisions state (Some flaw)
      → (subject : Flaw) × (IsFlawAt state flaw subject × IsFlawWritable model subject)
  first_writable decisions flaw least (subject, at, first) = (subject, (at, flaw_writable decisions subject least first.is))

  -- ---- what stands at the places of a flaw

  pub token_at : (flaw : found.Flaw) (place : ℕ) → flaw ≡ flaws.Token place → (subject : Flaw) × (IsFlawAt state flaw subject × IsFlawWritable model subject)
      → (token : TokenName) × (IsTokenAt state place token × IsToken model token)
  token_at flaw place is (subject, (at, writable)) = by_subject subject (subst (λ (f : found.Flaw). IsFlawAt state f subject) is at) writable
    where
      by_subject : (subject : Flaw) → IsFlawAt state (flaws.Token place) subject → IsFlawWritable model subject → (token : TokenName) × (IsTokenAt state place token × IsToken model token)
      by_subject (Undecided token) at writable = (token, (at, writable))
      by_subject other at writable = absurd at

  pub value_at : (flaw : found.Flaw) (at : VarPlace) → flaw ≡ flaws.Value at → (subject : Flaw) × (IsFlawAt state flaw subject × IsFlawWritable model subject)
      → (name : VarName) × (IsVarAt state at name × ((base : Base) × HasBase model name base))
  value_at flaw place is (subject, (at, writable)) = by_subject subject (subst (λ (f : found.Flaw). IsFlawAt state f subject) is at) writable
    where
      by_subject : (subject : Flaw) → IsFlawAt state (flaws.Value place) subject → IsFlawWritable model subject → (name : VarName) × (IsVarAt state place name × ((base : Base) × HasBase model name base))
      by_subject (Undetermined name) at writable = (name, (at, writable))
      by_subject other at writable = absurd at

  pub time_at : (flaw : found.Flaw) (at : VarPlace) → flaw ≡ flaws.Time at → (subject : Flaw) × (IsFlawAt state flaw subject × IsFlawWritable model subject)
      → (name : VarName) × (IsVarAt state at name × ((base : Base) × HasBase model name base))
  time_at flaw place is (subject, (at, writable)) = by_subject subject (subst (λ (f : found.Flaw). IsFlawAt state f subject) is at) writable
    where
      by_subject : (subject : Flaw) → IsFlawAt state (flaws.Time place) subject → IsFlawWritable model subject → (name : VarName) × (IsVarAt state place name × ((base : Base) × HasBase model name base))
      by_subject (Untimed name) at writable = (name, (at, writable))
      by_subject other at writable = absurd at

  pub pair_at : (flaw : found.Flaw) (one other : ℕ) → flaw ≡ flaws.Pair one other → (subject : Flaw) × (IsFlawAt state flaw subject × IsFlawWritable model subject)
      → ((token : TokenName) × (IsTokenAt state one token × IsToken model token)) × ((token : TokenName) × (IsTokenAt state other token × IsToken model token))
  pair_at flaw one other is (subject, (at, writable)) = by_subject subject (subst (λ (f : found.Flaw). IsFlawAt state f subject) is at) writable
    where
      by_subject : (subject : Flaw) → IsFlawAt state (flaws.Pair one other) subject → IsFlawWritable model subject
          → ((token : TokenName) × (IsTokenAt state one token × IsToken model token)) × ((token : TokenName) × (IsTokenAt state other token × IsToken model token))
      by_subject (Unordered first second) at writable = ((first, (at.0, writable.0)), (second, (at.1, writable.1)))
      by_subject subject at writable = absurd at

  -- what is found at the place is the token of which this is known
  pub here : (place : ℕ) (token : TokenName) → (known : TokenName) × (IsTokenAt state place known × IsToken model known) → IsTokenAt state place token → IsToken model token
  here place token (known, (at, there)) is = subst (IsToken model) (one_at state place known token at is) there

  -- ---- the words

  -- the name of the variable at the place
  pub unbound_put : {A E : Type 0} (place : VarPlace) (found : VarName) (gap old new : List ℕ) (r : Result A E) → IsVarAt state place found → OnOk r (WritesBehind gap (IsVariableWord model found) old new)
      → OnOk r ((name : VarName) → IsVarAt state place name → WritesBehind gap (IsVariableWord model name) old new)
  unbound_put place found gap old new (Ok x) at put = λ name is. subst (λ (n : VarName). WritesBehind gap (IsVariableWord model n) old new) (var_once state place found name at is) put
  unbound_put place found gap old new (Err e) at put = tt

  pub found_base : (place : VarPlace) (found : VarName) → (name : VarName) × (IsVarAt state place name × ((base : Base) × HasBase model name base)) → IsVarAt state place found → (base : Base) × HasBase model found base
  found_base place found (name, (is, (base, has))) at = (base, subst (λ (n : VarName). HasBase model n base) (var_once state place name found is at) has)

  -- ---- what the flaw is about

  pub token_subject : {A E : Type 0} (flaw : found.Flaw) (place : ℕ) (token : TokenName) (old new : List ℕ) (r : Result A E) → flaw ≡ flaws.Token place → IsTokenAt state place token
      → OnOk r (Writes (IsLineOnToken model (codes "token") token) old new) → OnOk r ((subject : Flaw) → IsFlawAt state flaw subject → Writes (IsFlawText model subject) old new)
  token_subject flaw place token old new (Ok x) is at put = λ subject is_at. by_subject subject (subst (λ (f : found.Flaw). IsFlawAt state f subject) is is_at)
    where
      by_subject : (subject : Flaw) → IsFlawAt state (flaws.Token place) subject → Writes (IsFlawText model subject) old new
      by_subject (Undecided named) there = subst (λ (t : TokenName). Writes (IsLineOnToken model (codes "token") t) old new) (one_at state place token named at there) put
      by_subject other there = absurd there
  token_subject flaw place token old new (Err e) is at put = tt

  pub pair_subject : {A E : Type 0} (flaw : found.Flaw) (one other : ℕ) (first second : TokenName) (old new : List ℕ) (r : Result A E) → flaw ≡ flaws.Pair one other → IsTokenAt state one first → IsTokenAt state other second
      → OnOk r (Writes (IsLineOnTokens model (codes "order") first second) old new) → OnOk r ((subject : Flaw) → IsFlawAt state flaw subject → Writes (IsFlawText model subject) old new)
  pair_subject flaw one other first second old new (Ok x) is at behind put = λ subject is_at. by_subject subject (subst (λ (f : found.Flaw). IsFlawAt state f subject) is is_at)
    where
      by_subject : (subject : Flaw) → IsFlawAt state (flaws.Pair one other) subject → Writes (IsFlawText model subject) old new
      by_subject (Unordered a b) there =
          subst (λ (t : TokenName). Writes (IsLineOnTokens model (codes "order") a t) old new) (one_at state other second b behind there.1)
          (subst (λ (t : TokenName). Writes (IsLineOnTokens model (codes "order") t second) old new) (one_at state one first a at there.0) put)
      by_subject subject there = absurd there
  pair_subject flaw one other first second old new (Err e) is at behind put = tt

  -- a word before the name of the variable is a part of the text
  before_name : (first : List ℕ) (name : VarName) (old new : List ℕ) → WritesBehind first (IsVariableWord model name) old new
      → Writes (λ text. (word : List ℕ) × (IsVariableWord model name word × (text ≡ first ++ word))) old new
  before_name first name old new (word, (is, put)) = (first ++ word, ((word, (is, refl)), put))

  pub value_subject : {A E : Type 0} (flaw : found.Flaw) (place : VarPlace) (old new : List ℕ) (r : Result A E) → flaw ≡ flaws.Value place
      → OnOk r ((name : VarName) → IsVarAt state place name → WritesBehind (codes "variable ") (IsVariableWord model name) old new) → OnOk r ((subject : Flaw) → IsFlawAt state flaw subject → Writes (IsFlawText model subject) old new)
  value_subject flaw place old new (Ok x) is put = λ subject is_at. by_subject subject (subst (λ (f : found.Flaw). IsFlawAt state f subject) is is_at)
    where
      by_subject : (subject : Flaw) → IsFlawAt state (flaws.Value place) subject → Writes (IsFlawText model subject) old new
      by_subject (Undetermined name) there = before_name (codes "variable ") name old new (put name there)
      by_subject other there = absurd there
  value_subject flaw place old new (Err e) is put = tt

  pub time_subject : {A E : Type 0} (flaw : found.Flaw) (place : VarPlace) (old new : List ℕ) (r : Result A E) → flaw ≡ flaws.Time place
      → OnOk r ((name : VarName) → IsVarAt state place name → WritesBehind (codes "time ") (IsVariableWord model name) old new) → OnOk r ((subject : Flaw) → IsFlawAt state flaw subject → Writes (IsFlawText model subject) old new)
  time_subject flaw place old new (Ok x) is put = λ subject is_at. by_subject subject (subst (λ (f : found.Flaw). IsFlawAt state f subject) is is_at)
    where
      by_subject : (subject : Flaw) → IsFlawAt state (flaws.Time place) subject → Writes (IsFlawText model subject) old new
      by_subject (Untimed name) there = before_name (codes "time ") name old new (put name there)
      by_subject other there = absurd there
  time_subject flaw place old new (Err e) is put = tt

  -- the whole line
  pub flaw_line_put : {A E : Type 0} (flaw : found.Flaw) (count : ℕ) (old began said counted new : List ℕ) (r : Result A E) → began ≡ old ++ codes "flaw "
      → ((subject : Flaw) → IsFlawAt state flaw subject → Writes (IsFlawText model subject) began said) → counted ≡ said ++ (codes " choices " ++ decimal count) → OnOk r (new ≡ counted ++ 10 ∷ [])
      → OnOk r ((subject : Flaw) → IsFlawAt state flaw subject → WritesLine (IsFlawLine model subject count) old new)
  flaw_line_put flaw count old began said counted new (Ok x) first second third last = λ subject at.
      let (text, (is_text, put)) = second subject at in (
        codes "flaw " ++ (text ++ (codes " choices " ++ decimal count)),
        (
          (text, (is_text, refl)),
          last ∙ (ap (λ (bytes : List ℕ). bytes ++ 10 ∷ []) (third ∙ (ap (λ (bytes : List ℕ). bytes ++ (codes " choices " ++ decimal count)) (put ∙ ap (λ (bytes : List ℕ). bytes ++ text) first)
              ∙ three old (codes "flaw ") text (codes " choices " ++ decimal count))) ∙ append_assoc old (codes "flaw " ++ (text ++ (codes " choices " ++ decimal count))) (10 ∷ [])),
        ),
      )
  flaw_line_put flaw count old began said counted new (Err e) first second third last = tt
