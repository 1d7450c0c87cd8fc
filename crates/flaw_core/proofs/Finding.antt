-- The first of the flaws that are sought, from the first of some and the first of others.
use Rattle.std.proofs.Common.{◌≡◌, ℕ, ◌+◌, ◌<◌, ◌⊎◌, inl, inr, ⊎_elim, List, Option, Some, None, subst, arith}
use Rattle.std.proofs.lemmas.Bool.{cases_lt}
use Rattle.model_core.specs.declared.decision.Decision.{Decision}
use Rattle.model_core.specs.declared.model.Model.{Model}
use Rattle.model_core.specs.State.{State}
use Rattle.plan_defs.specs.Flaws.{Flaw, IsFlaw}
use Rattle.law_search.specs.Choices.{IsFlawBefore}
use Rattle.flaw_core.specs.declared.flaw.Flaw as by_places
use Rattle.flaw_core.specs.Places.{IsFlawAt}
use Rattle.flaw_core.specs.Rules.{IsFirstAt}
use Rattle.flaw_core.specs.Seeking.{IsFirstOf, FindsFirst, IsAnyFlaw}
use Rattle.flaw_core.proofs.Ordering.{flaws_apart, nothing_before_itself}

module _ (model : Model) (decisions : List Decision) (state : State) where
  abbrev Is : Flaw → Type 0
  Is flaw = IsFlaw model decisions state flaw

  -- the first of the flaws that are sought is at the place
  abbrev pub FirstAt : (Flaw → Type 0) → by_places.Flaw → Type 0
  FirstAt Sought at = (flaw : Flaw) × IsFlawAt state at flaw × IsFirstOf model decisions state Sought flaw

  abbrev pub NoneOf : (Flaw → Type 0) → Type 0
  NoneOf Sought = (flaw : Flaw) → Sought flaw → Is flaw → ⊥

  -- ---- one sort and another

  module _ (S T R : Flaw → Type 0) (from : (flaw : Flaw) → R flaw → Is flaw → S flaw ⊎ T flaw) where
    pub found_left : (at : by_places.Flaw) → ((flaw : Flaw) → S flaw → R flaw) → ((x y : Flaw) → S x → T y → IsFlawBefore x y) → FirstAt S at → FirstAt R at
    found_left at into before (flaw, here, is) = (
      flaw,
      here,
      record {
        sought = into flaw is.sought;
        is = is.is;
        first = λ other sought has less.
            ⊎_elim (λ s. is.first other s has less) (λ t. flaws_apart flaw other (before flaw other is.sought t) less) (from other sought has);
      },
    )

    pub finds_right : (found : Option by_places.Flaw) → ((flaw : Flaw) → T flaw → R flaw) → NoneOf S → FindsFirst model decisions state T found → FindsFirst model decisions state R found
    finds_right None into none is = λ flaw sought has. ⊎_elim (λ s. none flaw s has) (λ t. is flaw t has) (from flaw sought has)
    finds_right (Some at) into none (flaw, here, is) = (
      flaw,
      here,
      record {
        sought = into flaw is.sought;
        is = is.is;
        first = λ other sought has less. ⊎_elim (λ s. none other s has) (λ t. is.first other t has less) (from other sought has);
      },
    )

  -- ---- the same said otherwise

  pub found_same : (S R : Flaw → Type 0) (at : by_places.Flaw) → ((flaw : Flaw) → S flaw → R flaw) → ((flaw : Flaw) → R flaw → Is flaw → S flaw) → FirstAt S at → FirstAt R at
  found_same S R at into from (flaw, here, is) =
      (flaw, here, record { sought = into flaw is.sought; is = is.is; first = λ other sought has less. is.first other (from other sought has) has less })

  pub none_same : (S R : Flaw → Type 0) → ((flaw : Flaw) → R flaw → Is flaw → S flaw) → NoneOf S → NoneOf R
  none_same S R from none flaw sought has = none flaw (from flaw sought has) has

  pub found_one : (S : Flaw → Type 0) (at : by_places.Flaw) (flaw : Flaw) → IsFlawAt state at flaw → Is flaw → S flaw → ((other : Flaw) → S other → other ≡ flaw) → FirstAt S at
  found_one S at flaw here is sought alone = (
    flaw,
    here,
    record {
      sought = sought;
      is = is;
      first = λ other meant has less. nothing_before_itself flaw (subst (λ (f : Flaw). IsFlawBefore f flaw) (alone other meant) less);
    },
  )

  -- ---- one number after another

  module _ (S : ℕ → Flaw → Type 0) where
    abbrev pub NoneBelow : ℕ → Type 0
    NoneBelow count = (number : ℕ) → number < count → NoneOf (S number)

    pub none_more : (count : ℕ) → NoneBelow count → NoneOf (S count) → NoneBelow (count + 1)
    none_more count below here number less flaw sought has = elim (cases_lt number count) [
      | inl before ↦ below number before flaw sought has
      | inr not ↦
          let same : number ≡ count = omega (arith, less) in
          here flaw (subst (λ n. S n flaw) same sought) has
    ]

    pub found_at : (count : ℕ) (at : by_places.Flaw) → ((m n : ℕ) (x y : Flaw) → m < n → S m x → S n y → IsFlawBefore x y) → NoneBelow count → FirstAt (S count) at
        → FirstAt (λ flaw. (number : ℕ) × S number flaw) at
    found_at count at before below (flaw, here, is) = (
      flaw,
      here,
      record { sought = (count, is.sought); is = is.is; first = λ other sought has less. by_number other sought.0 sought.1 has less },
    )
      where
        by_number : (other : Flaw) (number : ℕ) → S number other → Is other → IsFlawBefore other flaw → ⊥
        by_number other number sought has less = elim (cases_lt number count) [
          | inl lower ↦ below number lower other sought has
          | inr not ↦ elim (cases_lt count number) [
            | inl higher ↦ flaws_apart flaw other (before count number flaw other higher is.sought sought) less
            | inr neither ↦
                let same : number ≡ count = omega arith in
                is.first other (subst (λ n. S n other) same sought) has less
          ]
        ]

    pub none_all : (count : ℕ) → ((number : ℕ) (flaw : Flaw) → S number flaw → Is flaw → number < count) → NoneBelow count → NoneOf (λ flaw. (number : ℕ) × S number flaw)
    none_all count few below flaw sought has = below sought.0 (few sought.0 flaw sought.1 has) flaw sought.1 has

  -- ---- of all flaws

  pub first_of_any : (found : Option by_places.Flaw) → FindsFirst model decisions state IsAnyFlaw found → IsFirstAt model decisions state found
  first_of_any None none = λ has. none has.0 tt has.1
  first_of_any (Some at) (flaw, here, is) = (flaw, here, record { is = is.is; first = λ other has less. is.first other tt has less })
