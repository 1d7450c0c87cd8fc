-- The rules of a predicate, and their first blocks.
use Rattle.std.proofs.Common.{◌≡◌, ℕ, ◌<◌, ◌≤◌, ◌↔◌, List, [], ◌∷◌, length, get_or, Some, None, refl, sym, ap, ◌∙◌, subst, arith}
use Rattle.std.specs.Prelude.{slice_get}
use Rattle.std.specs.List.{AllZip}
use Rattle.std.proofs.lemmas.Option.{slice_get-get_or}
use Rattle.eu_name.specs.declared.name.TokenName.{TokenName}
use Rattle.model_core.specs.declared.class.Pred.{Pred}
use Rattle.model_core.specs.declared.model.Model.{Model}
use Rattle.model_core.specs.declared.rule.Rule.{Rule}
use Rattle.model_core.specs.declared.rule.Slot.{Slot}
use Rattle.model_core.specs.Blocks.{IsBlock, block_at}
use Rattle.model_core.specs.Entries.{Entries}
use Rattle.model_core.specs.Lawful.{IsLawful}
use Rattle.model_core.specs.Tokens.{HasRule, HasToken}
use Rattle.eu_name.proofs.Members.{get_below, get_within, get_same}
use Rattle.eu_name.proofs.Places.{zip_at}

zip_long : {X Y : Type 0} (R : X → Y → Type 0) (xs : List X) (ys : List Y) → AllZip R xs ys → length xs ≡ length ys
zip_long R [] [] zip = refl
zip_long R [] (y ∷ ys) zip = absurd zip
zip_long R (x ∷ xs) [] zip = absurd zip
zip_long R (x ∷ xs) (y ∷ ys) zip = omega (arith, zip_long R xs ys zip.1)

module _ (model : Model) (lawful : IsLawful model) (pred : ℕ) (found : Pred) (at : slice_get model.preds pred ≡ Some found) where
  pub few_rules : length found.rules ≤ 1024
  few_rules =
      let is = lawful.preds pred found at in
      omega (arith, zip_long (λ (place : ℕ) (rule : Rule). slice_get model.rules place ≡ Some rule) found.rules is.rules is.are_rules, is.few.rules)

  pub rules_counted : (rule : ℕ) → (rule < length found.rules) ↔ ((one : Rule) × HasRule model pred rule one)
  rules_counted rule = (
    λ below.
        let is = lawful.preds pred found at in
        let place = get_within found.rules rule below in
        let long = zip_long (λ (place : ℕ) (rule : Rule). slice_get model.rules place ≡ Some rule) found.rules is.rules is.are_rules in
        let one = get_within is.rules rule (omega (arith, long, below)) in (
          one.0,
          record {
            predicate = found;
            place = place.0;
            is_predicate = at;
            listed = place.1;
            is_rule = zip_at (λ (place : ℕ) (rule : Rule). slice_get model.rules place ≡ Some rule) found.rules is.rules rule place.0 one.0 is.are_rules place.1 one.1;
          },
        ),
    λ has.
        let same = get_same model.preds pred has.1.predicate found has.1.is_predicate at in
        get_below found.rules rule has.1.place (subst (λ (p : Pred). slice_get p.rules rule ≡ Some has.1.place) same has.1.listed),
  )

-- a predicate that isn't there has none
pub no_rules : (model : Model) (pred rule : ℕ) → slice_get model.preds pred ≡ None → (rule < 0) ↔ ((one : Rule) × HasRule model pred rule one)
no_rules model pred rule nowhere = (
  λ below. absurd (omega (arith, below)),
  λ has. let there = has.1.is_predicate in absurd (cc),
)

-- the first block of each rule of the token is there
pub first_there : (model : Model) (token : TokenName) (slot : Slot) (rule : ℕ) (one : Rule) → HasToken model token slot → HasRule model slot.pred rule one
    → (entries : Entries) × IsBlock model (block_at token rule []) entries
first_there model token slot rule one has has_rule = (one.top, record { slot = slot; has_token = has; rule = one; has_rule = has_rule; way = refl })

-- what is read in a list that is another
pub read_at : {X : Type 0} (xs ys : List X) (k : ℕ) (x : X) → ys ≡ xs → k < length ys → x ≡ get_or ys k x → slice_get xs k ≡ Some x
read_at xs ys k x same below is = subst (λ list. slice_get list k ≡ Some x) same (slice_get-get_or ys k x below ∙ ap Some (sym is))
