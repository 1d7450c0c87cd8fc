-- The level of a reservoir at an instant, by changes and by lines.
use Rattle.std.proofs.Common.{◌≡◌, ℕ, ℤ, pos, ◌+ℤ◌, ◌≤ℤ◌, ◌<ℤ◌, Bool, List, [], ◌∷◌, Option, Some, None, ◌⊎◌, inl, inr, refl, sym, ap, ◌∙◌, subst, arith}
use Rattle.std.specs.Prelude.{Contains, All, IfSome, IfNone}
use Rattle.std.specs.List.{AllZip}
use Rattle.std.proofs.lemmas.Int.{ints, by_lt_z}
use Rattle.std.proofs.lemmas.List.Elements.{All-head, All-tail}
use Rattle.eu_name.specs.declared.name.Part.TheVariants.{Start, Param}
use Rattle.eu_name.specs.declared.name.TokenName.{TokenName}
use Rattle.eu_name.proofs.Members.{contains_from_get}
use Rattle.model_core.specs.declared.class.PredKind.{PredKind}
use Rattle.model_core.specs.declared.class.PredKind.TheVariants.{Produce, Consume}
use Rattle.model_core.specs.declared.model.Model.{Model}
use Rattle.model_core.specs.Lawful.{IsLawful}
use Rattle.plan_defs.specs.declared.plan.Clause.TheVariants.{V3}
use Rattle.plan_defs.specs.declared.plan.Line.{Line}
use Rattle.plan_defs.specs.declared.plan.Line.TheVariants as lines
use Rattle.plan_defs.specs.declared.plan.Place.{Place}
use Rattle.plan_defs.specs.declared.plan.Plan.{Plan}
use Rattle.plan_defs.specs.Plans.{TakesPlaceWith}
use Rattle.plan_defs.specs.Resources.{IsInstant}
use Rattle.plan_defs.specs.Sums.{sum_of}
use Rattle.plan_defs.specs.Valid.{IsOfSort, IsPartOf, HasActed, AddedBy, TookBy, LeavesLevel, IsRise, IsLevelWithin, IsClauseKept}
use Rattle.plan_defs.proofs.Filling.{one_sort, produce_consume, produce_plain, consume_plain}
use Rattle.plan_defs.proofs.Members.{all_from_get}
use Rattle.eu_name.proofs.Ordered.{contains_head, contains_later, contains_cases, contains_none}
use Rattle.plan_values.specs.Keys.{IsOrderly}
use Rattle.resource_profile.specs.declared.level.LevelChange.{LevelChange}
use Rattle.resource_profile.specs.Instant.{IsFirst}
use Rattle.resource_profile.specs.Level.{added_at, level_at, IsSmall, IsOut, IsOutFrom}
use Rattle.plan_check.specs.ByObject.{IsOnObject}
use Rattle.plan_check.specs.Acts.{acts_among, Collects, ValuesAct, TokenChanges, IsChangeOf, FindsInstant}
use Rattle.plan_check.proofs.Suited.{starts_within, quantity_within}
use Rattle.plan_check.proofs.Using.{at_most, part_once}

-- what holds of four numbers holds of their equals
pub along_four : (P : ℤ → ℤ → ℤ → ℤ → Type 0) (a b c d a' b' c' d' : ℤ) → a ≡ a' → b ≡ b' → c ≡ c' → d ≡ d' → P a b c d → P a' b' c' d'
along_four P a b c d a' b' c' d' p q r s h = subst (λ x. P x b' c' d') p (subst (λ x. P a x c' d') q (subst (λ x. P a b x d') r (subst (P a b c) s h)))

module _ (model : Model) (object instant : ℤ) where
  abbrev rise : Option LevelChange → ℤ
  rise None = pos 0
  rise (Some change) = added_at change instant

  -- what starts later leaves the level
  not_begun : (token : TokenName) (fact : Bool) (values : List ℤ) (at quantity : ℤ) → ValuesAct values object at quantity → instant <ℤ at → LeavesLevel model object instant (lines.Token token fact values)
  not_begun token fact values at quantity acts later = record {
    adds_none = λ other acted. early acted.start acted.starts acted.started;
    takes_none = λ other acted. early acted.start acted.starts acted.started;
  }
    where
      early : (start : ℤ) → IsPartOf values Start start → start ≤ℤ instant → ⊥
      early start starts started = (let same = part_once values Start start at starts acts.from in omega (arith, ints, same, started, later))

  acted_by : (kind : PredKind) (token : TokenName) (values : List ℤ) (at quantity : ℤ) → IsOfSort model kind token → ValuesAct values object at quantity → at ≤ℤ instant
      → HasActed model object instant kind token values quantity
  acted_by kind token values at quantity sort acts begun = record { sort = sort; on = acts.on; start = at; starts = acts.from; started = begun; has_quantity = acts.has_quantity }

  rise_by : (token : TokenName) (fact : Bool) (values : List ℤ) (change : LevelChange) (at quantity : ℤ) → ValuesAct values object at quantity → TokenChanges model token at quantity change
      → IsRise model object instant (lines.Token token fact values) (added_at change instant)
  rise_by token fact values change at quantity acts (inl (sort, is_at, adds)) = elim (at_most change.at instant) [
    | inr later ↦ (
        let after = later.1 in
        inr (inr (not_begun token fact values at quantity acts (omega (arith, ints, after, is_at)), rw later.0 refl)))
    | inl begun ↦ (
        let before = begun.1 in
        let whole : added_at change instant ≡ quantity = rw begun.0 adds in
        inl (subst (λ q. AddedBy model object instant (lines.Token token fact values) q) (sym whole) (acted_by Produce token values at quantity sort acts (omega (arith, ints, before, is_at)))))
  ]
  rise_by token fact values change at quantity acts (inr (sort, is_at, takes)) = elim (at_most change.at instant) [
    | inr later ↦ (
        let after = later.1 in
        inr (inr (not_begun token fact values at quantity acts (omega (arith, ints, after, is_at)), rw later.0 refl)))
    | inl begun ↦ (
        let before = begun.1 in
        let whole : added_at change instant ≡ change.add = rw begun.0 refl in
        inr (inl (quantity, acted_by Consume token values at quantity sort acts (omega (arith, ints, before, is_at)), omega (arith, ints, whole, takes))))
  ]

  rise_at : (line : Line) (found : Option LevelChange) → IsChangeOf model object line found → IsRise model object instant line (rise found)
  rise_at (lines.Token token fact values) (Some change) (at, quantity, (acts, changes)) = rise_by token fact values change at quantity acts changes
  rise_at (lines.Token token fact values) None none = inr (inr (
    record {
      adds_none = λ quantity acted. (none acted.start quantity (record { on = acted.on; from = acted.starts; has_quantity = acted.has_quantity })).0 acted.sort;
      takes_none = λ quantity acted. (none acted.start quantity (record { on = acted.on; from = acted.starts; has_quantity = acted.has_quantity })).1 acted.sort;
    },
    refl,
  ))
  rise_at (lines.Merged token target) (Some change) is = absurd is
  rise_at (lines.Merged token target) None is = inr (inr (record { adds_none = λ quantity h. h; takes_none = λ quantity h. h }, refl))
  rise_at (lines.Rejected token) (Some change) is = absurd is
  rise_at (lines.Rejected token) None is = inr (inr (record { adds_none = λ quantity h. h; takes_none = λ quantity h. h }, refl))
  rise_at (lines.Local name value) (Some change) is = absurd is
  rise_at (lines.Local name value) None is = inr (inr (record { adds_none = λ quantity h. h; takes_none = λ quantity h. h }, refl))

  rises : (initial : ℤ) (listed : List Line) (each : List (Option LevelChange)) → AllZip (IsChangeOf model object) listed each
      → (amounts : List ℤ) × AllZip (IsRise model object instant) listed amounts × (initial +ℤ sum_of amounts ≡ level_at (acts_among each) initial instant)
  rises initial [] [] zip = ([], tt, omega (arith, ints))
  rises initial [] (found ∷ each) zip = absurd zip
  rises initial (line ∷ listed) [] zip = absurd zip
  rises initial (line ∷ listed) (None ∷ each) zip =
      let rest = rises initial listed each zip.1 in
      let same = rest.2 in
      (pos 0 ∷ rest.0, (rise_at line None zip.0, rest.1), omega (arith, ints, same))
  rises initial (line ∷ listed) (Some change ∷ each) zip =
      let rest = rises initial listed each zip.1 in
      let same = rest.2 in
      (added_at change instant ∷ rest.0, (rise_at line (Some change) zip.0, rest.1), omega (arith, ints, same))

  -- ---- a line has one rise

  added_once : (line : Line) (a b : ℤ) → AddedBy model object instant line a → AddedBy model object instant line b → a ≡ b
  added_once (lines.Token token fact values) a b p q = part_once values (Param 0) a b p.has_quantity q.has_quantity
  added_once (lines.Merged token target) a b p q = absurd p
  added_once (lines.Rejected token) a b p q = absurd p
  added_once (lines.Local name value) a b p q = absurd p

  took_once : (line : Line) (a b : ℤ) → TookBy model object instant line a → TookBy model object instant line b → a ≡ b
  took_once (lines.Token token fact values) a b p q = part_once values (Param 0) a b p.has_quantity q.has_quantity
  took_once (lines.Merged token target) a b p q = absurd p
  took_once (lines.Rejected token) a b p q = absurd p
  took_once (lines.Local name value) a b p q = absurd p

  not_both : (line : Line) (a b : ℤ) → AddedBy model object instant line a → TookBy model object instant line b → ⊥
  not_both (lines.Token token fact values) a b p q = produce_consume (one_sort model token Produce Consume p.sort q.sort)
  not_both (lines.Merged token target) a b p q = p
  not_both (lines.Rejected token) a b p q = p
  not_both (lines.Local name value) a b p q = p

  rise_once : (line : Line) (a b : ℤ) → IsRise model object instant line a → IsRise model object instant line b → a ≡ b
  rise_once line a b (inl p) (inl q) = added_once line a b p q
  rise_once line a b (inl p) (inr (inl q)) = absurd (not_both line a q.0 p q.1)
  rise_once line a b (inl p) (inr (inr q)) = absurd (q.0.adds_none a p)
  rise_once line a b (inr (inl p)) (inl q) = absurd (not_both line b p.0 q p.1)
  rise_once line a b (inr (inl p)) (inr (inl q)) =
      let same = took_once line p.0 q.0 p.1 q.1 in
      let one = p.2 in
      let other = q.2 in
      omega (arith, ints, same, one, other)
  rise_once line a b (inr (inl p)) (inr (inr q)) = absurd (q.0.takes_none p.0 p.1)
  rise_once line a b (inr (inr p)) (inl q) = absurd (p.0.adds_none b q)
  rise_once line a b (inr (inr p)) (inr (inl q)) = absurd (p.0.takes_none q.0 q.1)
  rise_once line a b (inr (inr p)) (inr (inr q)) = p.1 ∙ sym q.1

  rises_once : (listed : List Line) (one other : List ℤ) → AllZip (IsRise model object instant) listed one → AllZip (IsRise model object instant) listed other → one ≡ other
  rises_once [] [] [] p q = refl
  rises_once [] (a ∷ one) other p q = absurd p
  rises_once [] [] (b ∷ other) p q = absurd q
  rises_once (line ∷ listed) [] other p q = absurd p
  rises_once (line ∷ listed) (a ∷ one) [] p q = absurd q
  rises_once (line ∷ listed) (a ∷ one) (b ∷ other) p q =
      let first = rise_once line a b p.0 q.0 in
      let rest = rises_once listed one other p.1 q.1 in
      (λ i. first i ∷ rest i)

  module _ (plan : Plan) (changes : List LevelChange) (collected : Collects (IsChangeOf model object) plan.lines changes) (initial low high : ℤ) where
    level_is : (amounts : List ℤ) × AllZip (IsRise model object instant) plan.lines amounts × (initial +ℤ sum_of amounts ≡ level_at changes initial instant)
    level_is =
        let found = rises initial plan.lines collected.each collected.are in
        (found.0, found.1, found.2 ∙ ap (λ (xs : List LevelChange). level_at xs initial instant) collected.acts_are)

    level_from : (IsOut changes initial low high instant → ⊥) → IsLevelWithin model object instant plan initial low high
    level_from none =
        let level = level_is in
        let same = level.2 in
        let enough : low ≤ℤ level_at changes initial instant = by_lt_z (level_at changes initial instant) low (λ under. absurd (none (inl under))) (λ over. over) in
        let few : level_at changes initial instant ≤ℤ high = by_lt_z high (level_at changes initial instant) (λ over. absurd (none (inr over))) (λ under. under) in
        record { rises = level.0; are_rises = level.1; high_enough = omega (arith, ints, enough, same); low_enough = omega (arith, ints, few, same) }

    level_to : IsLevelWithin model object instant plan initial low high → IsOut changes initial low high instant → ⊥
    level_to within out =
        let level = level_is in
        let same = level.2 in
        let one = ap sum_of (rises_once plan.lines level.0 within.rises level.1 within.are_rises) in
        let enough = within.high_enough in
        let few = within.low_enough in
        elim out [
          | inl under ↦ omega (arith, ints, enough, same, one, under)
          | inr over ↦ omega (arith, ints, few, same, one, over)
        ]

-- once all changes are made the level stays
level_stays : (changes : List LevelChange) (initial last instant : ℤ) → All (λ (change : LevelChange). change.at ≤ℤ last) changes → last ≤ℤ instant
    → level_at changes initial instant ≡ level_at changes initial last
level_stays [] initial last instant all later = refl
level_stays (change ∷ changes) initial last instant all later =
    let here = All-head (λ (c : LevelChange). c.at ≤ℤ last) change changes all in
    let rest = level_stays changes initial last instant (All-tail (λ (c : LevelChange). c.at ≤ℤ last) change changes all) later in
    elim (at_most change.at last) [
      | inr after ↦ absurd (let past = after.1 in omega (arith, ints, here, past))
      | inl done ↦ elim (at_most change.at instant) [
        | inr after ↦ absurd (let past = after.1 in omega (arith, ints, here, later, past))
        | inl too ↦ rw (done.0, too.0, rest) refl
      ]
    ]

-- each change is that of a line
change_line : (model : Model) (object : ℤ) (listed : List Line) (each : List (Option LevelChange)) → AllZip (IsChangeOf model object) listed each → (change : LevelChange) → Contains (acts_among each) change
    → (token : TokenName) × ((fact : Bool) × ((values : List ℤ) × Contains listed (lines.Token token fact values) × IsChangeOf model object (lines.Token token fact values) (Some change)))
change_line model object [] [] zip change there = absurd (contains_none change there)
change_line model object [] (found ∷ each) zip change there = absurd zip
change_line model object (line ∷ listed) [] zip change there = absurd zip
change_line model object (line ∷ listed) (None ∷ each) zip change there =
    let rest = change_line model object listed each zip.1 change there in
    (rest.0, (rest.1.0, (rest.1.1.0, contains_later line (lines.Token rest.0 rest.1.0 rest.1.1.0) listed rest.1.1.1, rest.1.1.2)))
change_line model object (line ∷ listed) (Some first ∷ each) zip change there = elim (contains_cases first change (acts_among each) there) [
  | inl same ↦ here line zip.0 same
  | inr later ↦ (
      let rest = change_line model object listed each zip.1 change later in
      (rest.0, (rest.1.0, (rest.1.1.0, contains_later line (lines.Token rest.0 rest.1.0 rest.1.1.0) listed rest.1.1.1, rest.1.1.2))))
]
  where
    here : (line : Line) → IsChangeOf model object line (Some first) → first ≡ change
        → (token : TokenName) × ((fact : Bool) × ((values : List ℤ) × Contains (line ∷ listed) (lines.Token token fact values) × IsChangeOf model object (lines.Token token fact values) (Some change)))
    here (lines.Token token fact values) changes same =
        (token, (fact, (values, contains_head (lines.Token token fact values) listed, subst (λ (c : LevelChange). IsChangeOf model object (lines.Token token fact values) (Some c)) same changes)))
    here (lines.Merged token target) changes same = absurd changes
    here (lines.Rejected token) changes same = absurd changes
    here (lines.Local name value) changes same = absurd changes

module _ (model : Model) (plan : Plan) (lawful : IsLawful model) (ok : IsOrderly plan) (kept : (place : Place) → IsClauseKept model plan V3 place) (object : ℤ)
    (changes : List LevelChange) (collected : Collects (IsChangeOf model object) plan.lines changes) where
  -- the limits of a change, by the line whose it is
  record IsBounded (change : LevelChange) : Type 0 where
    small : IsSmall change
    last : change.at ≤ℤ model.problem.end

  bounded_by : (token : TokenName) (values : List ℤ) (change : LevelChange) (at quantity : ℤ) → TakesPlaceWith plan token values → ValuesAct values object at quantity
      → TokenChanges model token at quantity change → IsBounded change
  bounded_by token values change at quantity takes acts (inl (sort, is_at, adds)) =
      let within = quantity_within model plan lawful ok kept token values takes Produce sort quantity produce_plain acts.has_quantity in
      let last = (starts_within model plan lawful ok kept token values takes Produce sort at acts.from).1 in
      let least = within.0 in
      let most = within.1 in
      record { small = (omega (arith, ints, least, adds), omega (arith, ints, most, adds)); last = omega (arith, ints, last, is_at) }
  bounded_by token values change at quantity takes acts (inr (sort, is_at, takes_away)) =
      let within = quantity_within model plan lawful ok kept token values takes Consume sort quantity consume_plain acts.has_quantity in
      let last = (starts_within model plan lawful ok kept token values takes Consume sort at acts.from).1 in
      let least = within.0 in
      let most = within.1 in
      record { small = (omega (arith, ints, most, takes_away), omega (arith, ints, least, takes_away)); last = omega (arith, ints, last, is_at) }

  bounded : (change : LevelChange) → Contains changes change → IsBounded change
  bounded change there =
      let line = change_line model object plan.lines collected.each collected.are change (subst (λ (xs : List LevelChange). Contains xs change) (sym collected.acts_are) there) in
      let by = line.1.1.2 in
      let takes : TakesPlaceWith plan line.0 line.1.1.0 = (line.1.0, line.1.1.1) in
      bounded_by line.0 line.1.1.0 change by.0 by.1 takes by.2.0 by.2.1

  pub all_small : All IsSmall changes
  all_small = all_from_get IsSmall changes (λ k change at. (bounded change (contains_from_get changes k change at)).small)

  all_done : All (λ (change : LevelChange). change.at ≤ℤ model.problem.end) changes
  all_done = all_from_get (λ (change : LevelChange). change.at ≤ℤ model.problem.end) changes (λ k change at. (bounded change (contains_from_get changes k change at)).last)

  module _ (initial low high : ℤ) where
    abbrev IsSo : ℤ → Type 0
    IsSo instant = IsInstant model instant → IsLevelWithin model object instant plan initial low high

    is_so : (instant : ℤ) → (IsOutFrom changes initial low high model.problem.start instant → ⊥) → IsSo instant
    is_so instant none within = level_from model object instant plan changes collected initial low high (λ out. none (within.0, out))

    -- the first instant outside isn't behind the horizon
    not_behind : (at : ℤ) → IsFirst (IsOutFrom changes initial low high model.problem.start) at → at ≤ℤ model.problem.end
    not_behind at first = by_lt_z model.problem.end at
        (λ behind.
        let order = lawful.horizon.order in
        let stays = level_stays changes initial model.problem.end at all_done (omega (arith, ints, behind)) in
        let out : IsOut changes initial low high model.problem.end = subst (λ (level : ℤ). (level <ℤ low) ⊎ (high <ℤ level)) stays first.0.1 in
        absurd (first.1 model.problem.end behind (omega (arith, ints, order), out)))
        (λ within. within)

    pub out_found : (found : Option ℤ) → IfSome found (IsFirst (IsOutFrom changes initial low high model.problem.start))
        → IfNone found ((instant : ℤ) → IsOutFrom changes initial low high model.problem.start instant → ⊥) → FindsInstant IsSo found
    out_found None first none = λ instant. is_so instant (none instant)
    out_found (Some at) first none = record {
      fails = λ so. level_to model object at plan changes collected initial low high (so (first.0.0, not_behind at first)) first.0.1;
      before = λ earlier less. is_so earlier (first.1 earlier less);
    }

-- what isn't on a reservoir leaves its level
pub changes_none : (model : Model) (object : ℕ) (line : Line) → (IsOnObject line object → ⊥) → IsChangeOf model (pos object) line None
changes_none model object (lines.Token token fact values) none = λ at quantity acts. absurd (none acts.on)
changes_none model object (lines.Merged token target) none = tt
changes_none model object (lines.Rejected token) none = tt
changes_none model object (lines.Local name value) none = tt
