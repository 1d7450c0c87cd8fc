-- What is used of a reusable at an instant, by uses and by lines.
use Rattle.std.proofs.Common.{◌≡◌, ℕ, zero, suc, ◌+◌, ◌-◌, ◌<◌, ◌≤◌, ℤ, pos, ◌+ℤ◌, ◌≤ℤ◌, ◌<ℤ◌, Bool, true, false, List, [], ◌∷◌, ◌++◌, length, get_or, take, Option, Some, None, ◌⊎◌, inl, inr, refl, sym, ap, ◌∙◌, subst, arith}
use Rattle.std.specs.Prelude.{Contains, All, IfSome, IfNone, option_to_list, int_le, int_lt, slice_get}
use Rattle.std.specs.List.{AllZip}
use Rattle.std.proofs.lemmas.Int.{ints, by_lt_z}
use Rattle.std.proofs.lemmas.List.{take_more, take_all, append-nil}
use Rattle.std.proofs.lemmas.Option.{get_or_from_slice_get}
use Rattle.eu_name.specs.declared.name.Part.{Part}
use Rattle.eu_name.specs.declared.name.Part.TheVariants.{Start, End, Param}
use Rattle.eu_name.proofs.Members.{contains_from_get, get_within}
use Rattle.plan_defs.proofs.Members.{all_from_get}
use Rattle.eu_name.specs.declared.name.TokenName.{TokenName}
use Rattle.model_core.specs.declared.class.PredKind.TheVariants.{Plain, Uses}
use Rattle.model_core.specs.declared.model.Model.{Model}
use Rattle.model_core.specs.Lawful.{IsLawful}
use Rattle.plan_defs.specs.declared.plan.Clause.TheVariants.{V3}
use Rattle.plan_defs.specs.declared.plan.Line.{Line}
use Rattle.plan_defs.specs.declared.plan.Line.TheVariants as lines
use Rattle.plan_defs.specs.declared.plan.Place.{Place}
use Rattle.plan_defs.specs.declared.plan.Plan.{Plan}
use Rattle.plan_defs.specs.Plans.{TakesPlaceWith}
use Rattle.plan_defs.specs.Resources.{IsInstant}
use Rattle.plan_defs.specs.Sums.{sum_of}
use Rattle.plan_defs.specs.Valid.{IsPartOf, UsesAt, IsUsed, IsWithinCapacity, IsClauseKept}
use Rattle.eu_name.proofs.Ordered.{contains_head, contains_later, contains_cases, contains_none}
use Rattle.plan_values.specs.Keys.{IsOrderly}
use Rattle.resource_profile.specs.declared.usage.Use.{Use}
use Rattle.resource_profile.specs.Instant.{IsFirst}
use Rattle.resource_profile.specs.Usage.{quantity_at, taken_at, IsOverUsed}
use Rattle.plan_check.specs.ByObject.{IsOnObject, IsLineOn, FindsOn}
use Rattle.plan_check.proofs.Linking.{dealt, dealt_more, dealt_within, IsOnTheWay, on_the_way, passed_over, way_there, way_below}
use Rattle.plan_check.specs.Acts.{acts_among, Collects, TokenUses, IsUseOf, FindsInstant}
use Rattle.plan_check.proofs.Suited.{starts_within, ends_within, quantity_within}

-- ---- collecting

zip_push : {A B : Type 0} (P : A → B → Type 0) (xs : List A) (ys : List B) (x : A) (y : B) → AllZip P xs ys → P x y → AllZip P (xs ++ x ∷ []) (ys ++ y ∷ [])
zip_push P [] [] x y zip p = (p, tt)
zip_push P [] (b ∷ ys) x y zip p = absurd zip
zip_push P (a ∷ xs) [] x y zip p = absurd zip
zip_push P (a ∷ xs) (b ∷ ys) x y zip p = (zip.0, zip_push P xs ys x y zip.1 p)

present_push : {A : Type 0} (each : List (Option A)) (found : Option A) → acts_among (each ++ found ∷ []) ≡ acts_among each ++ option_to_list found
present_push [] None = refl
present_push [] (Some a) = refl
present_push (None ∷ each) found = present_push each found
present_push (Some b ∷ each) found = ap (λ xs. b ∷ xs) (present_push each found)

module _ {A : Type 0} (IsDone : Line → Option A → Type 0) where
  one_line_more : (listed : List Line) (i : ℕ) (line : Line) (found : Option A) (acts more : List A) → i < length listed → line ≡ get_or listed i line → IsDone line found
      → more ≡ acts ++ option_to_list found → Collects IsDone (take i listed) acts → Collects IsDone (take (i + 1) listed) more
  one_line_more listed i line found acts more within is done same so_far = record {
    each = so_far.each ++ found ∷ [];
    are = subst (λ (xs : List Line). AllZip IsDone xs (so_far.each ++ found ∷ []))
        (sym (take_more listed i line within) ∙ refl)
        (subst (λ (l : Line). AllZip IsDone (take i listed ++ l ∷ []) (so_far.each ++ found ∷ [])) is (zip_push IsDone (take i listed) so_far.each line found so_far.are done));
    acts_are = present_push so_far.each found ∙ (ap (λ xs. xs ++ option_to_list found) so_far.acts_are ∙ sym same);
  }

  -- the lines up to this one, which do nothing, are passed over
  collected_past : (listed : List Line) (acts : List A) (gap from to : ℕ) → from + gap ≡ to → to ≤ length listed
      → ((place : ℕ) (line : Line) → from ≤ place → place < to → slice_get listed place ≡ Some line → IsDone line None) → Collects IsDone (take from listed) acts → Collects IsDone (take to listed) acts
  collected_past listed acts zero from to same within idle so_far = subst (λ (n : ℕ). Collects IsDone (take n listed) acts) (let e : from ≡ to = omega arith in e) so_far
  collected_past listed acts (suc gap) from to same within idle so_far =
      let here = get_within listed from (omega arith) in
      collected_past listed acts gap (from + 1) to (omega arith) within (λ place line past less at. idle place line (omega arith) less at)
      (one_line_more listed from here.0 None acts acts (omega arith) (sym (get_or_from_slice_get listed from here.0 here.0 here.1)) (idle from here.0 (omega arith) (omega arith) here.1) (sym (append-nil acts)) so_far)

  -- the lines up to the next one on the object are dealt with
  pub record Gathered (listed : List Line) (object : ℕ) (next : Option ℕ) (acts : List A) : Type 0 where
    pub on_the_way : IsOnTheWay listed object next
    pub collected : Collects IsDone (take (dealt (length listed) next) listed) acts

  pub gathered_at : (listed : List Line) (object here : ℕ) (next : Option ℕ) (acts : List A) → next ≡ Some here → Gathered listed object next acts → IsLineOn listed object here
  gathered_at listed object here next acts same gathered = way_there listed object here next same gathered.on_the_way

  -- no line is left
  pub gathered_all : (listed : List Line) (object : ℕ) (next : Option ℕ) (acts : List A) → next ≡ None → Gathered listed object next acts → Collects IsDone listed acts
  gathered_all listed object next acts none gathered =
      let now : dealt (length listed) next ≡ length listed = ap (dealt (length listed)) none in
      subst (λ (xs : List Line). Collects IsDone xs acts) (take_all (dealt (length listed) next) listed (omega arith)) gathered.collected

  -- only what is on the object does anything
  module _ (listed : List Line) (object : ℕ) (idle : (line : Line) → (IsOnObject line object → ⊥) → IsDone line None) where
    gathered_to : (acts : List A) (from : ℕ) (found : Option ℕ) → from ≤ length listed → FindsOn listed object from found → Collects IsDone (take from listed) acts
        → Gathered listed object found acts
    gathered_to acts from found within finds so_far =
        let more = dealt_more listed object from found within finds in
        let way = on_the_way listed object from found finds in
        let most = dealt_within listed object found way in
        record {
          on_the_way = way;
          collected = collected_past listed acts (dealt (length listed) found - from) from (dealt (length listed) found) (omega arith) most
              (λ place line past less at. idle line (λ on. passed_over listed object from found finds place past less (line, at, on))) so_far;
        }

    pub gathered_first : (acts : List A) (found : Option ℕ) → acts ≡ [] → FindsOn listed object 0 found → Gathered listed object found acts
    gathered_first acts found none finds = gathered_to acts 0 found (omega arith) finds (record { each = []; are = tt; acts_are = sym none })

    -- the next one on the object is dealt with as well
    pub gathered_next : (read : List Line) (here : ℕ) (next found : Option ℕ) (line : Line) (done : Option A) (acts more : List A) → next ≡ Some here
        → (IsLineOn listed object here → FindsOn listed object (here + 1) found) → read ≡ listed → line ≡ get_or read here line → IsDone line done → more ≡ acts ++ option_to_list done
        → Gathered listed object next acts → Gathered listed object found more
    gathered_next read here next found line done acts more same after read_is line_is is added gathered =
        let on = gathered_at listed object here next acts same gathered in
        let below = way_below listed listed object here refl on in
        let now : dealt (length listed) next ≡ here = ap (dealt (length listed)) same in
        gathered_to more (here + 1) found (omega arith) (after on)
        (one_line_more listed here line done acts more below (subst (λ (xs : List Line). line ≡ get_or xs here line) read_is line_is) is added
        (subst (λ (n : ℕ). Collects IsDone (take n listed) acts) now gathered.collected))

-- ---- tests of order

pub at_most : (a b : ℤ) → ((int_le a b ≡ true) × (a ≤ℤ b)) ⊎ ((int_le a b ≡ false) × (b <ℤ a))
at_most a b = by_lt_z b a (λ above. inr (grind (arith, ints), above)) (λ below. inl (grind (arith, ints), below))

pub below : (a b : ℤ) → ((int_lt a b ≡ true) × (a <ℤ b)) ⊎ ((int_lt a b ≡ false) × (b ≤ℤ a))
below a b = by_lt_z a b (λ under. inl (grind (arith, ints), under)) (λ above. inr (grind (arith, ints), above))

pub part_once : (values : List ℤ) (part : Part) (one other : ℤ) → IsPartOf values part one → IsPartOf values part other → one ≡ other
part_once values part one other p q = let e = sym p ∙ q in cc

-- ---- what is used at an instant

module _ (model : Model) (object instant : ℤ) where
  abbrev amount : Option Use → ℤ
  amount None = pos 0
  amount (Some usage) = quantity_at usage instant

  idle : (line : Line) (usage : Use) → quantity_at usage instant ≡ pos 0 → ((quantity : ℤ) → UsesAt model object instant line quantity → ⊥) → IsUsed model object instant line (quantity_at usage instant)
  idle line usage nothing none = inr (none, nothing)

  used_by : (token : TokenName) (fact : Bool) (values : List ℤ) (usage : Use) → TokenUses model token values object usage
      → IsUsed model object instant (lines.Token token fact values) (quantity_at usage instant)
  used_by token fact values usage uses =
      let line = lines.Token token fact values in
      elim (at_most usage.from instant) [
        | inr later ↦ idle line usage (rw later.0 refl) (λ quantity acting.
            let same = part_once values Start acting.acted.start usage.from acting.acted.starts uses.by_values.from in
            let started = acting.acted.started in
            let after = later.1 in
            omega (arith, ints, same, started, after))
        | inl begun ↦ elim (below instant usage.until) [
          | inr ended ↦ idle line usage (rw (begun.0, ended.0) refl) (λ quantity acting.
              let same = part_once values End acting.end usage.until acting.ends uses.by_values.until in
              let going = acting.not_ended in
              let over = ended.1 in
              omega (arith, ints, same, going, over))
          | inl on ↦ (
              let whole : quantity_at usage instant ≡ usage.quantity = rw (begun.0, on.0) refl in
              inl (subst (λ q. UsesAt model object instant line q) (sym whole) (record {
                acted = record { sort = uses.sort; on = uses.by_values.on; start = usage.from; starts = uses.by_values.from; started = begun.1; has_quantity = uses.by_values.quantity };
                end = usage.until;
                ends = uses.by_values.until;
                not_ended = on.1;
              })))
        ]
      ]

  used_at : (line : Line) (found : Option Use) → IsUseOf model object line found → IsUsed model object instant line (amount found)
  used_at (lines.Token token fact values) (Some usage) uses = used_by token fact values usage uses
  used_at (lines.Token token fact values) None none = inr (
    λ quantity acting. none (record { from = acting.acted.start; until = acting.end; quantity = quantity }) (record {
      sort = acting.acted.sort;
      by_values = record { on = acting.acted.on; from = acting.acted.starts; until = acting.ends; quantity = acting.acted.has_quantity };
    }),
    refl,
  )
  used_at (lines.Merged token target) (Some usage) uses = absurd uses
  used_at (lines.Merged token target) None none = inr (λ quantity h. h, refl)
  used_at (lines.Rejected token) (Some usage) uses = absurd uses
  used_at (lines.Rejected token) None none = inr (λ quantity h. h, refl)
  used_at (lines.Local name value) (Some usage) uses = absurd uses
  used_at (lines.Local name value) None none = inr (λ quantity h. h, refl)

  sums : (listed : List Line) (each : List (Option Use)) → AllZip (IsUseOf model object) listed each
      → (amounts : List ℤ) × AllZip (IsUsed model object instant) listed amounts × (sum_of amounts ≡ taken_at (acts_among each) instant)
  sums [] [] zip = ([], tt, refl)
  sums [] (found ∷ each) zip = absurd zip
  sums (line ∷ listed) [] zip = absurd zip
  sums (line ∷ listed) (None ∷ each) zip =
      let rest = sums listed each zip.1 in
      let same = rest.2 in
      (pos 0 ∷ rest.0, (used_at line None zip.0, rest.1), omega (arith, ints, same))
  sums (line ∷ listed) (Some usage ∷ each) zip =
      let rest = sums listed each zip.1 in
      (quantity_at usage instant ∷ rest.0, (used_at line (Some usage) zip.0, rest.1), ap (λ n. quantity_at usage instant +ℤ n) rest.2)

  uses_once : (line : Line) (a b : ℤ) → UsesAt model object instant line a → UsesAt model object instant line b → a ≡ b
  uses_once (lines.Token token fact values) a b p q = part_once values (Param 0) a b p.acted.has_quantity q.acted.has_quantity
  uses_once (lines.Merged token target) a b p q = absurd p
  uses_once (lines.Rejected token) a b p q = absurd p
  uses_once (lines.Local name value) a b p q = absurd p

  used_once : (line : Line) (a b : ℤ) → IsUsed model object instant line a → IsUsed model object instant line b → a ≡ b
  used_once line a b (inl p) (inl q) = uses_once line a b p q
  used_once line a b (inl p) (inr none) = absurd (none.0 a p)
  used_once line a b (inr none) (inl q) = absurd (none.0 b q)
  used_once line a b (inr p) (inr q) = p.1 ∙ sym q.1

  amounts_once : (listed : List Line) (one other : List ℤ) → AllZip (IsUsed model object instant) listed one → AllZip (IsUsed model object instant) listed other → one ≡ other
  amounts_once [] [] [] p q = refl
  amounts_once [] (a ∷ one) other p q = absurd p
  amounts_once [] [] (b ∷ other) p q = absurd q
  amounts_once (line ∷ listed) [] other p q = absurd p
  amounts_once (line ∷ listed) (a ∷ one) [] p q = absurd q
  amounts_once (line ∷ listed) (a ∷ one) (b ∷ other) p q =
      let first = used_once line a b p.0 q.0 in
      let rest = amounts_once listed one other p.1 q.1 in
      (λ i. first i ∷ rest i)

  module _ (plan : Plan) (uses : List Use) (collected : Collects (IsUseOf model object) plan.lines uses) (capacity : ℤ) where
    sum_is : (amounts : List ℤ) × AllZip (IsUsed model object instant) plan.lines amounts × (sum_of amounts ≡ taken_at uses instant)
    sum_is =
        let found = sums plan.lines collected.each collected.are in
        (found.0, found.1, found.2 ∙ ap (λ (xs : List Use). taken_at xs instant) collected.acts_are)

    within_from : taken_at uses instant ≤ℤ capacity → IsWithinCapacity model object instant plan capacity
    within_from few = let sum = sum_is in let same = sum.2 in record { amounts = sum.0; are_used = sum.1; enough = omega (arith, ints, few, same) }

    within_to : IsWithinCapacity model object instant plan capacity → taken_at uses instant ≤ℤ capacity
    within_to within =
        let sum = sum_is in
        let same = sum.2 in
        let one = ap sum_of (amounts_once plan.lines sum.0 within.amounts sum.1 within.are_used) in
        let enough = within.enough in
        omega (arith, ints, enough, same, one)

-- a use is going on at the instant
abbrev IsGoing : List Use → ℤ → Type 0
IsGoing uses instant = (usage : Use) × Contains uses usage × (usage.from ≤ℤ instant) × (instant <ℤ usage.until)

behind_first : (usage : Use) (uses : List Use) (instant : ℤ) → quantity_at usage instant ≡ pos 0 → pos 0 <ℤ taken_at (usage ∷ uses) instant → (pos 0 <ℤ taken_at uses instant → IsGoing uses instant)
    → IsGoing (usage ∷ uses) instant
behind_first usage uses instant nothing some rest =
    let found = rest (omega (arith, ints, some, nothing)) in
    (found.0, contains_later usage found.0 uses found.1, found.2, found.3)

-- where something is in use, a use is going on
going_on : (uses : List Use) (instant : ℤ) → pos 0 <ℤ taken_at uses instant → IsGoing uses instant
going_on [] instant some = absurd (omega (arith, ints, some))
going_on (usage ∷ uses) instant some = elim (at_most usage.from instant) [
  | inr later ↦ behind_first usage uses instant (rw later.0 refl) some (λ more. going_on uses instant more)
  | inl begun ↦ elim (below instant usage.until) [
    | inr ended ↦ behind_first usage uses instant (rw (begun.0, ended.0) refl) some (λ more. going_on uses instant more)
    | inl on ↦ (usage, contains_head usage uses, begun.1, on.1)
  ]
]

-- each use is that of a line
of_line : (model : Model) (object : ℤ) (listed : List Line) (each : List (Option Use)) → AllZip (IsUseOf model object) listed each → (usage : Use) → Contains (acts_among each) usage
    → (token : TokenName) × ((fact : Bool) × ((values : List ℤ) × Contains listed (lines.Token token fact values) × TokenUses model token values object usage))
of_line model object [] [] zip usage there = absurd (contains_none usage there)
of_line model object [] (found ∷ each) zip usage there = absurd zip
of_line model object (line ∷ listed) [] zip usage there = absurd zip
of_line model object (line ∷ listed) (None ∷ each) zip usage there =
    let rest = of_line model object listed each zip.1 usage there in
    (rest.0, (rest.1.0, (rest.1.1.0, contains_later line (lines.Token rest.0 rest.1.0 rest.1.1.0) listed rest.1.1.1, rest.1.1.2)))
of_line model object (line ∷ listed) (Some first ∷ each) zip usage there = elim (contains_cases first usage (acts_among each) there) [
  | inl same ↦ here line zip.0 same
  | inr later ↦ (
      let rest = of_line model object listed each zip.1 usage later in
      (rest.0, (rest.1.0, (rest.1.1.0, contains_later line (lines.Token rest.0 rest.1.0 rest.1.1.0) listed rest.1.1.1, rest.1.1.2))))
]
  where
    here : (line : Line) → IsUseOf model object line (Some first) → first ≡ usage
        → (token : TokenName) × ((fact : Bool) × ((values : List ℤ) × Contains (line ∷ listed) (lines.Token token fact values) × TokenUses model token values object usage))
    here (lines.Token token fact values) uses same =
        (token, (fact, (values, contains_head (lines.Token token fact values) listed, subst (TokenUses model token values object) same uses)))
    here (lines.Merged token target) uses same = absurd uses
    here (lines.Rejected token) uses same = absurd uses
    here (lines.Local name value) uses same = absurd uses

uses_plain : Uses ≡ Plain → ⊥
uses_plain e = absurd (cc)

module _ (model : Model) (plan : Plan) (lawful : IsLawful model) (ok : IsOrderly plan) (kept : (place : Place) → IsClauseKept model plan V3 place) (object : ℤ)
    (uses : List Use) (collected : Collects (IsUseOf model object) plan.lines uses) where
  line_of : (usage : Use) → Contains uses usage
      → (token : TokenName) × ((fact : Bool) × ((values : List ℤ) × Contains plan.lines (lines.Token token fact values) × TokenUses model token values object usage))
  line_of usage there = of_line model object plan.lines collected.each collected.are usage (subst (λ (xs : List Use). Contains xs usage) (sym collected.acts_are) there)

  pub quantities : All (λ (usage : Use). pos 0 ≤ℤ usage.quantity) uses
  quantities = all_from_get (λ (usage : Use). pos 0 ≤ℤ usage.quantity) uses (λ k usage at.
      let line = line_of usage (contains_from_get uses k usage at) in
      let by = line.1.1.2 in
      (quantity_within model plan lawful ok kept line.0 line.1.1.0 (line.1.0, line.1.1.1) Uses by.sort usage.quantity uses_plain by.by_values.quantity).0)

  going_within : (instant : ℤ) (usage : Use) → Contains uses usage → usage.from ≤ℤ instant → instant <ℤ usage.until → IsInstant model instant
  going_within instant usage there begun going =
      let line = line_of usage there in
      let by = line.1.1.2 in
      let takes : TakesPlaceWith plan line.0 line.1.1.0 = (line.1.0, line.1.1.1) in
      let first = (starts_within model plan lawful ok kept line.0 line.1.1.0 takes Uses by.sort usage.from by.by_values.from).0 in
      let last = (ends_within model plan lawful ok kept line.0 line.1.1.0 takes Uses by.sort usage.until by.by_values.until).1 in
      (omega (arith, ints, first, begun), omega (arith, ints, last, going))

  module _ (capacity : ℤ) (some : pos 0 ≤ℤ capacity) where
    abbrev IsSo : ℤ → Type 0
    IsSo instant = IsInstant model instant → IsWithinCapacity model object instant plan capacity

    is_so : (instant : ℤ) → (IsOverUsed uses capacity instant → ⊥) → IsSo instant
    is_so instant none within = within_from model object instant plan uses collected capacity (by_lt_z capacity (taken_at uses instant) (λ over. absurd (none over)) (λ few. few))

    pub first_found : (found : Option ℤ) → IfSome found (IsFirst (IsOverUsed uses capacity)) → IfNone found ((instant : ℤ) → IsOverUsed uses capacity instant → ⊥) → FindsInstant IsSo found
    first_found None first none = λ instant. is_so instant (none instant)
    first_found (Some at) first none = record {
      fails = λ so.
          let over = first.0 in
          let going = going_on uses at (omega (arith, ints, over, some)) in
          let enough = within_to model object at plan uses collected capacity (so (going_within at going.0 going.1 going.2 going.3)) in
          omega (arith, ints, over, enough);
      before = λ earlier less. is_so earlier (first.1 earlier less);
    }

-- what isn't on a reusable uses nothing of it
pub uses_none : (model : Model) (object : ℕ) (line : Line) → (IsOnObject line object → ⊥) → IsUseOf model (pos object) line None
uses_none model object (lines.Token token fact values) none = λ usage uses. none uses.by_values.on
uses_none model object (lines.Merged token target) none = tt
uses_none model object (lines.Rejected token) none = tt
uses_none model object (lines.Local name value) none = tt
