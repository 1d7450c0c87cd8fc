-- What is kept of a domain is the greatest part of it that passes.
use Rattle.std.proofs.Common.{◌≡◌, ℤ, ◌≤ℤ◌, inl, inr, refl, sym, ◌∙◌, subst, arith}
use Rattle.std.proofs.lemmas.Int.{ints}
use Rattle.domain_core.specs.Domain.{Domain, Range, Set, IsDomain, IsRange, Has, least, IsSameKind, IsTested, IsWithin}
use Rattle.domain_core.specs.Narrowing.{IsLeft, Keeps}
use Rattle.domain_core.specs.Laws.{IsConvex, KeepsGreatest, KeepsExactly}
use Rattle.domain_core.specs.declared.Change.{Change}
use Rattle.domain_core.specs.declared.Change.TheVariants.{Same, Smaller, Empty}
use Rattle.domain_core.proofs.Words.{has_least, tested_least, IsSameKind-sym, IsSameKind-trans, IsWithin-refl, IsWithin-trans, IsWithin-antisym, slack_within}

-- each part of the old domain whose tested values pass lies in what is left
pub part_left : (passes : ℤ → Type 0) (old new part : Domain) → IsLeft passes old new → IsDomain part → IsWithin part old → ((value : ℤ) → IsTested part value → passes value) → IsWithin part new
part_left passes old new part left ok within pass = record {
  kind = IsSameKind-trans part old new within.kind (IsSameKind-sym new old left.within.kind);
  values = inside part new ok within pass left (IsSameKind-trans part old new within.kind (IsSameKind-sym new old left.within.kind));
}
  where
    inside : (part new : Domain) → IsDomain part → IsWithin part old → ((value : ℤ) → IsTested part value → passes value) → IsLeft passes old new → IsSameKind part new → (value : ℤ) → Has part value → Has new value
    inside (Range lo hi) (Range new_lo new_hi) ok within pass left same value has =
        let low = left.kept lo (within.values lo (omega (arith, ints), ok.2)) (pass lo (inl refl)) in
        let high = left.kept hi (within.values hi (ok.2, omega (arith, ints))) (pass hi (inr refl)) in
        (omega (arith, ints, low.0, has.0), omega (arith, ints, high.1, has.1))
    inside (Set members) (Set others) ok within pass left same value has = left.kept value (within.values value has) (pass value has)
    inside (Range lo hi) (Set others) ok within pass left same value has = absurd same
    inside (Set members) (Range new_lo new_hi) ok within pass left same value has = absurd same

-- where all tested values pass, all is left
all_left : (passes : ℤ → Type 0) (old : Domain) → ((value : ℤ) → IsTested old value → passes value) → IsLeft passes old old
all_left passes old pass = record { within = IsWithin-refl old; kept = λ value has passing. has; tested = pass }

-- what is left, of whatever change that isn't empty
pub left_of : (passes : ℤ → Type 0) (old new : Domain) (change : Change) → (change ≡ Empty → ⊥) → Keeps passes old change new → IsLeft passes old new
left_of passes old new Same some keeps = subst (IsLeft passes old) (sym keeps.0) (all_left passes old keeps.1)
left_of passes old new Smaller some keeps = keeps.0
left_of passes old new Empty some keeps = absurd (some refl)

-- and where it is empty, nothing passes
pub none_of : (passes : ℤ → Type 0) (old new : Domain) (change : Change) → change ≡ Empty → Keeps passes old change new → (value : ℤ) → Has old value → passes value → ⊥
none_of passes old new Same empty keeps = absurd (cc)
none_of passes old new Smaller empty keeps = absurd (cc)
none_of passes old new Empty empty keeps = keeps.1

pub no_part : (passes : ℤ → Type 0) (old new : Domain) (change : Change) → change ≡ Empty → Keeps passes old change new → (part : Domain) → IsDomain part → IsWithin part old → ((value : ℤ) → IsTested part value → passes value) → ⊥
no_part passes old new change empty keeps part ok within pass = none_of passes old new change empty keeps (least part) (within.values (least part) (has_least part ok)) (pass (least part) (tested_least part ok))

pub keeps_greatest : (passes : ℤ → Type 0) (old new : Domain) (change : Change) → IsDomain old → IsDomain new → Keeps passes old change new → KeepsGreatest passes old change new
keeps_greatest passes old new change old_ok new_ok keeps = record {
  some = λ some.
      let left = left_of passes old new change some keeps in
      record { within = left.within; tested = left.tested; greatest = λ part ok within pass. part_left passes old new part left ok within pass };
  none = λ empty. no_part passes old new change empty keeps;
}

-- where the tested values pass, all do, of a range if what passes has no holes
pub all_pass : (passes : ℤ → Type 0) (domain : Domain) → IsDomain domain → (IsRange domain → IsConvex passes) → ((value : ℤ) → IsTested domain value → passes value) → (value : ℤ) → Has domain value → passes value
all_pass passes (Range lo hi) ok convex tested value has = convex tt lo value hi (tested lo (inl refl)) (tested hi (inr refl)) has.0 has.1
all_pass passes (Set members) ok convex tested value has = tested value has

-- what lies between two numbers has no holes
pub between_convex : (lo hi : ℤ) → IsConvex (λ value. (lo ≤ℤ value) × (value ≤ℤ hi))
between_convex lo hi low value high p q up down = (omega (arith, ints, p.0, up), omega (arith, ints, q.1, down))

same_kind_range : (old new : Domain) → IsSameKind new old → IsRange new → IsRange old
same_kind_range (Range lo hi) new same range = tt
same_kind_range (Set members) (Range lo hi) same range = absurd same
same_kind_range (Set members) (Set others) same range = absurd range

pub keeps_exactly : (passes : ℤ → Type 0) (old new : Domain) (change : Change) → IsDomain old → IsDomain new → Keeps passes old change new → KeepsExactly passes old change new
keeps_exactly passes old new change old_ok new_ok keeps convex some value =
    let left = left_of passes old new change some keeps in (
      λ has. (left.within.values value has, all_pass passes new new_ok (λ range. convex (same_kind_range old new left.within.kind range)) left.tested value has),
      λ both. left.kept value both.0 both.1,
    )

pub keeps_monotone : (passes more : ℤ → Type 0) (old new wide wide_new : Domain) (change wide_change : Change) → IsDomain old → IsDomain new → IsDomain wide → IsDomain wide_new
    → ((value : ℤ) → passes value → more value) → IsWithin old wide → Keeps passes old change new → Keeps more wide wide_change wide_new
    → (change ≡ Empty → ⊥) → (wide_change ≡ Empty → ⊥) × IsWithin new wide_new
keeps_monotone passes more old new wide wide_new change wide_change old_ok new_ok wide_ok wide_new_ok weaker within keeps wide_keeps some =
    let left = left_of passes old new change some keeps in
    let up = IsWithin-trans new old wide left.within within in
    let pass = λ (value : ℤ) (tested : IsTested new value). weaker value (left.tested value tested) in
    let wide_some : wide_change ≡ Empty → ⊥ = λ empty. no_part more wide wide_new wide_change empty wide_keeps new new_ok up pass in
    (wide_some, part_left more wide wide_new new (left_of more wide wide_new wide_change wide_some wide_keeps) new_ok up pass)

pub keeps_one : (passes : ℤ → Type 0) (old new other : Domain) (change answer : Change) → IsDomain old → IsDomain new → IsDomain other → Keeps passes old change new → Keeps passes old answer other → (change ≡ answer) × (new ≡ other)
keeps_one passes old new other Same Same ok p q keeps again = (refl, keeps.0 ∙ sym again.0)
keeps_one passes old new other Empty Empty ok p q keeps again = (refl, keeps.0 ∙ sym again.0)
keeps_one passes old new other Smaller Smaller ok p q keeps again = (
  refl,
  IsWithin-antisym new other p q
      (part_left passes old other new again.0 p keeps.0.within keeps.0.tested)
      (part_left passes old new other keeps.0 q again.0.within again.0.tested),
)
keeps_one passes old new other Same Smaller ok p q keeps again =
    let back = part_left passes old other old again.0 ok (IsWithin-refl old) keeps.1 in
    absurd (omega (arith, slack_within old other ok q back, again.1))
keeps_one passes old new other Smaller Same ok p q keeps again =
    let back = part_left passes old new old keeps.0 ok (IsWithin-refl old) again.1 in
    absurd (omega (arith, slack_within old new ok p back, keeps.1))
keeps_one passes old new other Same Empty ok p q keeps again = absurd (again.1 (least old) (has_least old ok) (keeps.1 (least old) (tested_least old ok)))
keeps_one passes old new other Empty Same ok p q keeps again = absurd (keeps.1 (least old) (has_least old ok) (again.1 (least old) (tested_least old ok)))
keeps_one passes old new other Smaller Empty ok p q keeps again = absurd (again.1 (least new) (keeps.0.within.values (least new) (has_least new p)) (keeps.0.tested (least new) (tested_least new p)))
keeps_one passes old new other Empty Smaller ok p q keeps again = absurd (keeps.1 (least other) (again.0.within.values (least other) (has_least other q)) (again.0.tested (least other) (tested_least other q)))
