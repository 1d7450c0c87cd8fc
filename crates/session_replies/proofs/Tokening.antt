-- Tokens as they are written.
use Rattle.std.proofs.Common.{◌≡◌, ℕ, ◌+◌, ◌<◌, List, [], ◌∷◌, ◌++◌, length, take, Result, Ok, Err, Some, slice_get, refl, sym, ap, ◌∙◌, subst, append_assoc, codes}
use Rattle.std.specs.Prelude.{OnOk, All}
use Rattle.std.proofs.lemmas.List.{append-nil}
use Rattle.eu_name.specs.declared.name.TokenName.{TokenName}
use Rattle.model_core.specs.declared.decision.Decision.{Decision}
use Rattle.model_core.specs.declared.model.Model.{Model}
use Rattle.model_core.specs.declared.rule.Slot.{Slot}
use Rattle.model_core.specs.declared.view.TokenState.{TokenState}
use Rattle.model_core.specs.declared.view.TokenState.TheVariants as standing
use Rattle.model_core.specs.Lawful.{IsLawful, IsToken}
use Rattle.model_core.specs.State.{State}
use Rattle.model_core.specs.Tokens.{HasToken}
use Rattle.model_core.specs.TokenStates.{HasTokenState}
use Rattle.model_core.specs.Views.{IsTokenAt}
use Rattle.model_core.proofs.Items.{item_all, item_is, item_within}
use Rattle.plan_text.specs.Subjects.{IsPredicateText, OnePredicate}
use Rattle.plan_text.specs.Words.{IsPaused}
use Rattle.plan_text.specs.Writing.{Adds}
use Rattle.plan_defs.proofs.Kinding.{pred_of_slot}
use Rattle.session_replies.specs.Lines.{IsLineOnToken, IsStateText, IsTokenLine}
use Rattle.session_replies.specs.Written.{Writes, WritesBehind, WritesLine, WritesLines}
use Rattle.session_replies.proofs.Commanding.{PutsToken, token_word}
use Rattle.session_replies.proofs.Lining.{line_more}

-- pieces one behind the other are one piece
pub three : (old a b c : List ℕ) → ((old ++ a) ++ b) ++ c ≡ old ++ (a ++ (b ++ c))
three old a b c = append_assoc (old ++ a) b c ∙ append_assoc old a (b ++ c)

module _ (model : Model) where
  pub token_listed : (tokens : List TokenName) (place : ℕ) (token : TokenName) → All (IsToken model) tokens → slice_get tokens place ≡ Some token → IsToken model token
  token_listed tokens place token all at = item_all (IsToken model) tokens place token all at

  -- a token has one predicate, which the model has
  pub pred_listed : (token : TokenName) (pred : ℕ) → IsLawful model → IsToken model token → ((slot : Slot) → HasToken model token slot → slot.pred ≡ pred) → pred < length model.preds
  pred_listed token pred lawful (slot, has) preds =
      let found = pred_of_slot model token slot lawful has in
      subst (λ (n : ℕ). n < length model.preds) (preds slot has) (item_within model.preds slot.pred found.0 found.1)

  predicate_word : (pred : ℕ) (old new : List ℕ) → Adds IsPaused (OnePredicate model pred) tt old new → (word : List ℕ) × (IsPredicateText model pred word × (new ≡ old ++ (codes " " ++ word)))
  predicate_word pred old new adds =
      let read = adds.reads [] tt in
      let word : List ℕ = read.0 in
      let piece : adds.piece ≡ codes " " ++ word = sym (append-nil adds.piece) ∙ (read.1.0.whole ∙ ap (λ (bytes : List ℕ). codes " " ++ bytes) (append-nil word)) in
      (word, (read.1.1, adds.is ∙ ap (λ (bytes : List ℕ). old ++ bytes) piece))

  module _ (state : State) where
    -- what has become of the token
    pub plain_state : {A E : Type 0} (found same : TokenState) (text old new : List ℕ) (r : Result A E) → found ≡ same → IsStateText model state same text → OnOk r (new ≡ old ++ (codes " " ++ text))
        → OnOk r (WritesBehind (codes " ") (IsStateText model state found) old new)
    plain_state found same text old new (Ok x) is says put = (text, (subst (λ (s : TokenState). IsStateText model state s text) (sym is) says, put))
    plain_state found same text old new (Err e) is says put = tt

    pub merged_state : {A E : Type 0} (found : TokenState) (place : ℕ) (target : TokenName) (old new : List ℕ) (r : Result A E) → found ≡ standing.Merged place → IsTokenAt state place target
        → OnOk r (Writes (IsLineOnToken model (codes " merged") target) old new) → OnOk r (WritesBehind (codes " ") (IsStateText model state found) old new)
    merged_state found place target old new (Ok x) is at (piece, ((word, (is_word, whole)), put)) = (
      codes "merged " ++ word,
      (
        subst (λ (s : TokenState). IsStateText model state s (codes "merged " ++ word)) (sym is) (target, (at, (word, (is_word, refl)))),
        put ∙ ap (λ (bytes : List ℕ). old ++ bytes) whole,
      ),
    )
    merged_state found place target old new (Err e) is at written = tt

    merged_placed : (decisions : List Decision) (token : TokenName) (found : TokenState) (place : ℕ) → found ≡ standing.Merged place → HasTokenState model state decisions token found → (target : TokenName) × IsTokenAt state place target
    merged_placed decisions token found place is has = let here = subst (λ (s : TokenState). HasTokenState model state decisions token s) is has in (here.0, here.1)

    pub targets_placed : (decisions : List Decision) (token : TokenName) (found : TokenState) → HasTokenState model state decisions token found
        → (place : ℕ) → found ≡ standing.Merged place → (target : TokenName) × IsTokenAt state place target
    targets_placed decisions token found has place is = merged_placed decisions token found place is has

    module _ (decisions : List Decision) where
      -- the whole line
      pub token_line_put : {A E : Type 0} (token : TokenName) (pred : ℕ) (found : TokenState) (old named stated shown new : List ℕ) (r : Result A E) → IsToken model token → ((slot : Slot) → HasToken model token slot → slot.pred ≡ pred)
          → HasTokenState model state decisions token found → PutsToken model token [] old named → Adds IsPaused (OnePredicate model pred) tt named stated → WritesBehind (codes " ") (IsStateText model state found) stated shown
          → OnOk r (new ≡ shown ++ 10 ∷ []) → OnOk r (WritesLine (IsTokenLine model state decisions token) old new)
      token_line_put token pred found old named stated shown new (Ok x) (slot, has) preds has_state (word, (first, is)) adds (what, (is_what, third)) last =
          let (said, (is_said, second)) = predicate_word pred named stated adds in
          let line : List ℕ = word ++ (codes " " ++ (said ++ (codes " " ++ what))) in (
            line,
            (
              record {
                word = word;
                is_word = token_word model token word is;
                slot = slot;
                has_token = has;
                pred = said;
                is_pred = subst (λ (n : ℕ). IsPredicateText model n said) (sym (preds slot has)) is_said;
                found = found;
                has_state = has_state;
                shown = what;
                is_shown = is_what;
                whole = refl;
              },
              last ∙ (ap (λ (bytes : List ℕ). bytes ++ 10 ∷ [])
                  (third ∙ (ap (λ (bytes : List ℕ). bytes ++ (codes " " ++ what)) (second ∙ ap (λ (bytes : List ℕ). bytes ++ (codes " " ++ said)) first) ∙ three old word (codes " " ++ said) (codes " " ++ what)))
                  ∙ append_assoc old line (10 ∷ [])),
            ),
          )
      token_line_put token pred found old named stated shown new (Err e) is preds has_state first adds third last = tt

      -- one more token
      pub token_more : (place : ℕ) (token : TokenName) (start old new : List ℕ) → IsTokenAt state place token → WritesLine (IsTokenLine model state decisions token) old new
          → WritesLines (IsTokenLine model state decisions) (take place state.tokens) start old → WritesLines (IsTokenLine model state decisions) (take (place + 1) state.tokens) start new
      token_more place token start old new at line before =
          line_more (IsTokenLine model state decisions) state.tokens place token start old new (item_within state.tokens place token at) (sym (item_is state.tokens place token token at)) line before
