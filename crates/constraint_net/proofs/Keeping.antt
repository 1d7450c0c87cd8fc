-- One variable keeps what another domain has too.
use Rattle.std.proofs.Common.{◌≡◌, ℕ, ◌<◌, ℤ, pos, List, length, get_or, set, refl, sym, ap, ◌∙◌, subst, arith}
use Rattle.std.specs.Prelude.{All}
use Rattle.std.proofs.lemmas.List.{set-get_or}
use Rattle.std.proofs.lemmas.List.Elements.{All-set}
use Rattle.std.proofs.lemmas.List.Sums.{sum_by-set}
use Rattle.std.proofs.lemmas.Option.{slice_get-get_or, get_or_from_slice_get}
use Rattle.domain_core.specs.Domain.{Domain, Range, Set, IsDomain, IsRange, IsSameKind, IsWithin, Has, least, slack}
use Rattle.domain_core.specs.Laws.{IsConvex}
use Rattle.domain_core.specs.Narrowing.{Keeps}
use Rattle.domain_core.specs.declared.Change.{Change}
use Rattle.domain_core.specs.declared.Change.TheVariants.{Same, Smaller, Empty}
use Rattle.domain_core.proofs.Words.{has_least, has_tested, IsSameKind-sym}
use Rattle.domain_core.proofs.Keeping.{all_pass, between_convex, part_left}
use Rattle.constraint_net.specs.Steps.{FitWithin, Advances, AdvancesTo, LiesIn}
use Rattle.constraint_net.specs.declared.constraint.NetArg.TheVariants.{Var}
use Rattle.constraint_net.proofs.Within.{within_at, within_length, set_within, within_set}
use Rattle.constraint_net.proofs.Advancing.{advances_refl}

convex_of : (other domain : Domain) → IsSameKind other domain → IsRange domain → IsConvex (Has other)
convex_of (Range lo hi) (Range low high) kind range = between_convex lo hi
convex_of (Range lo hi) (Set members) kind range = absurd kind
convex_of (Set others) (Range low high) kind range = absurd kind
convex_of (Set others) (Set members) kind range = absurd range

-- a domain whose tested values another one of its kind has lies within it
within_tested : (other domain : Domain) → IsDomain domain → IsSameKind other domain → Keeps (Has other) domain Same domain → IsWithin domain other
within_tested other domain ok kind keeps = record { kind = IsSameKind-sym other domain kind; values = all_pass (Has other) domain ok (convex_of other domain kind) keeps.1 }

-- what is read does not depend on what stands for a missing item
pub read_at : {X : Type 0} (xs : List X) (place : ℕ) (d e : X) → place < length xs → get_or xs place e ≡ get_or xs place d
read_at xs place d e below = get_or_from_slice_get xs place (get_or xs place d) e (slice_get-get_or xs place d below)

module _ (domains : List Domain) (variable : ℕ) (other is : Domain) (all : All IsDomain domains) (exists : variable < length domains) where
  abbrev was : Domain
  was = get_or domains variable (Range (pos 0) (pos 0))

  abbrev fits : List Domain → Type 0
  fits = LiesIn (Var variable) other

  was_is : IsDomain was
  was_is = all variable (Range (pos 0) (pos 0)) exists

  unchanged : is ≡ was → set domains variable is ≡ domains
  unchanged same = ap (set domains variable) same ∙ set-get_or domains variable (Range (pos 0) (pos 0))

  none : ((value : ℤ) → Has was value → Has other value → ⊥) → (below : List Domain) → FitWithin fits domains below → ⊥
  none apart below fit =
      let part = get_or below variable (Range (pos 0) (pos 0)) in
      let within : IsWithin part was = within_at below domains variable (Range (pos 0) (pos 0)) fit.within exists in
      let has = has_least part (fit.are variable (Range (pos 0) (pos 0)) (omega (arith, length_of below fit))) in
      apart (least part) (within.values (least part) has) (fit.fit.values (least part) has)
    where
      length_of : (below : List Domain) → FitWithin fits domains below → length below ≡ length domains
      length_of below fit = within_length below domains fit.within

  pub keeps_common : (change : Change) → IsDomain is → IsSameKind other was → Keeps (Has other) was change is → AdvancesTo fits domains change (set domains variable is)
  keeps_common Same ok kind keeps = (unchanged keeps.0, within_tested other was was_is kind (refl, keeps.1))
  keeps_common Smaller ok kind keeps = (
    record {
      are = All-set IsDomain domains variable is ok all;
      within = set_within domains variable is (Range (pos 0) (pos 0)) exists keeps.0.within;
      keeps = λ below fit.
          let part = get_or below variable (Range (pos 0) (pos 0)) in
          let part_is = fit.are variable (Range (pos 0) (pos 0)) (omega (arith, within_length below domains fit.within)) in
          let within : IsWithin part was = within_at below domains variable (Range (pos 0) (pos 0)) fit.within exists in
          within_set below domains variable is (Range (pos 0) (pos 0)) fit.within exists
          (part_left (Has other) was is part keeps.0 part_is within (λ value tested. fit.fit.values value (has_tested part value part_is tested)));
    },
    omega (arith, keeps.1, sum_by-set slack domains variable is (Range (pos 0) (pos 0)) exists),
  )
  keeps_common Empty ok kind keeps =
      (subst (λ s. Advances fits domains s) (sym (unchanged keeps.0)) (advances_refl fits domains all), none keeps.1)
