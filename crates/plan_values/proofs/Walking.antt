-- Going through the items of a rule, one entry after the other.
use Rattle.std.proofs.Common.{◌≡◌, ℕ, zero, suc, ◌+◌, ◌-◌, ◌<◌, ◌≤◌, Bool, true, false, List, [], ◌∷◌, ◌++◌, length, get_or, drop, Some, Ok, Err, Result, refl, sym, ap, ◌∙◌, subst, inl, inr, append_assoc, length-append, drop-cons, add-one, arith}
use Rattle.std.specs.Prelude.{slice_get, All, MatchBool}
use Rattle.std.proofs.lemmas.Bool.{cases_lt}
use Rattle.std.proofs.lemmas.List.{append-nil, drop_all}
use Rattle.std.proofs.lemmas.List.Elements.{All-nil, All-cons, All-append}
use Rattle.model_core.proofs.Items.{item_all, item_within}
use Rattle.model_core.specs.declared.item.Item as what
use Rattle.model_core.specs.declared.rule.Entry.{Entry}
use Rattle.model_core.specs.declared.rule.Entry.TheVariants.{Slot, Local, Item, Branch}
use Rattle.model_core.specs.declared.rule.Guard.{Guard}
use Rattle.model_core.specs.declared.rule.Side.{Side}
use Rattle.model_core.specs.declared.rule.Side.TheVariants.{Then, Otherwise}
use Rattle.model_core.specs.declared.rule.Turn.{Turn}
use Rattle.model_core.specs.declared.model.Model.{Model}
use Rattle.model_core.specs.Block.{plain_entries}
use Rattle.model_core.specs.Blocks.{OfBranch, Follows, chosen, direct}
use Rattle.model_core.specs.Entries.{Entries, NoEntry, WithSlot, WithLocal, WithItem, WithBranch}
use Rattle.model_core.specs.Lawful.{item_count}
use Rattle.model_core.specs.Numbers.{PlacedItem, items_from, turned, items_inside}
use Rattle.plan_defs.specs.declared.plan.Plan.{Plan}
use Rattle.plan_defs.specs.Terms.{Context}
use Rattle.plan_values.specs.Openings.{Allows, entry_direct}
use Rattle.plan_values.specs.Truths.{IsTrueWhere}
use Rattle.plan_values.specs.Walks.{FirstFails, Scans, IsOpened, IsShut, IsReached, IsEntryReached, IsTruePlaced, items_of}
use Rattle.plan_values.proofs.Matching.{read_item}
use Rattle.plan_values.proofs.Standing.{direct_at}

-- ---- ways

module _ (Allowed : Guard → Side → Type 0) where
  -- a way leads to one block
  pub follows_once : (top : Entries) (path : List Turn) (one other : Entries) → Follows Allowed top path one → Follows Allowed top path other → one ≡ other
  follows_once top [] one other p q = p ∙ sym q
  follows_once top (turn ∷ path) one other (guard, (then, otherwise, (at, (allowed, way)))) (guard', (then', otherwise', (at', (allowed', way')))) =
      let e = sym at' ∙ at in
      let t : then' ≡ then = cc in
      let o : otherwise' ≡ otherwise = cc in
      follows_once (chosen turn.side then otherwise) path one other way
      (subst (λ (x : Entries). Follows Allowed (chosen turn.side x otherwise) path other) t
      (subst (λ (y : Entries). Follows Allowed (chosen turn.side then' y) path other) o way'))

  -- a way goes over the block to which its front leads
  pub follows_split : (top : Entries) (path more : List Turn) (block : Entries) → Follows Allowed top (path ++ more) block
      → (middle : Entries) × Follows Allowed top path middle × Follows Allowed middle more block
  follows_split top [] more block way = (top, refl, way)
  follows_split top (turn ∷ path) more block (guard, (then, otherwise, (at, (allowed, way)))) =
      let rest = follows_split (chosen turn.side then otherwise) path more block way in
      (rest.0, (guard, (then, otherwise, (at, (allowed, rest.1)))), rest.2)

  pub follows_join : (top : Entries) (path more : List Turn) (middle block : Entries) → Follows Allowed top path middle → Follows Allowed middle more block
      → Follows Allowed top (path ++ more) block
  follows_join top [] more middle block first rest = subst (λ (m : Entries). Follows Allowed m more block) first rest
  follows_join top (turn ∷ path) more middle block (guard, (then, otherwise, (at, (allowed, way)))) rest =
      (guard, (then, otherwise, (at, (allowed, follows_join (chosen turn.side then otherwise) path more middle block way rest))))

  module _ (top : Entries) (path : List Turn) (place : ℕ) (guard : Guard) (then otherwise : Entries) (side : Side) where
    -- where the guard at the place opens the side, its block is reached
    turn_open : (block : Entries) → Follows Allowed top path block → slice_get (direct block) place ≡ Some (OfBranch guard then otherwise) → Allowed guard side
        → Follows Allowed top (turned path place side) (chosen side then otherwise)
    turn_open block way at allowed =
        follows_join top path (record { entry = place; side = side } ∷ []) block (chosen side then otherwise) way (guard, (then, otherwise, (at, (allowed, refl))))

    -- and else no way goes on there
    turn_shut : (block : Entries) → Follows Allowed top path block → slice_get (direct block) place ≡ Some (OfBranch guard then otherwise) → (Allowed guard side → ⊥)
        → IsShut Allowed top (turned path place side)
    turn_shut block way at none more last long =
        let turn : Turn = record { entry = place; side = side } in
        let split = follows_split top path (turn ∷ more) last (subst (λ (p : List Turn). Follows Allowed top p last) (append_assoc path (turn ∷ []) more) long) in
        let same = follows_once top path split.0 block split.1 way in
        let on = subst (λ (b : Entries). Follows Allowed b (turn ∷ more) last) same split.2 in
        let e = sym at ∙ on.1.2.0 in
        let g : guard ≡ on.0 = cc in
        none (subst (λ (x : Guard). Allowed x side) (sym g) on.1.2.1.0)

    shut_on : IsShut Allowed top path → IsShut Allowed top (turned path place side)
    shut_on shut more last long =
        let turn : Turn = record { entry = place; side = side } in
        shut (turn ∷ more) last (subst (λ (p : List Turn). Follows Allowed top p last) (append_assoc path (turn ∷ []) more) long)

    pub turn_reached : (block : Entries) (reached opened : Bool) → IsReached Allowed top path block reached → slice_get (direct block) place ≡ Some (OfBranch guard then otherwise)
        → MatchBool opened (IsOpened Allowed reached guard side) (IsOpened Allowed reached guard side → ⊥) → IsReached Allowed top (turned path place side) (chosen side then otherwise) opened
    turn_reached block true true way at is = turn_open block way at is.1
    turn_reached block true false way at isnt = turn_shut block way at (λ allowed. isnt (refl, allowed))
    turn_reached block false true shut at is = absurd (cc)
    turn_reached block false false shut at isnt = shut_on shut

-- ---- what is found in lists

module _ (P : PlacedItem → Type 0) where
  get_front : (xs ys : List PlacedItem) (k : ℕ) (x : PlacedItem) → slice_get xs k ≡ Some x → slice_get (xs ++ ys) k ≡ Some x
  get_front [] ys k x at = absurd (cc)
  get_front (y ∷ xs) ys zero x at = at
  get_front (y ∷ xs) ys (suc k) x at = get_front xs ys k x at

  get_back : (xs ys : List PlacedItem) (k : ℕ) (x : PlacedItem) → slice_get ys k ≡ Some x → slice_get (xs ++ ys) (length xs + k) ≡ Some x
  get_back [] ys k x at = subst (λ (n : ℕ). slice_get ys n ≡ Some x) (omega arith) at
  get_back (y ∷ xs) ys k x at =
      let same : suc (length xs + k) ≡ length (y ∷ xs) + k = omega arith in
      subst (λ (n : ℕ). slice_get (y ∷ (xs ++ ys)) n ≡ Some x) same (get_back xs ys k x at)

  from_front : (xs ys : List PlacedItem) (k : ℕ) (x : PlacedItem) → k < length xs → slice_get (xs ++ ys) k ≡ Some x → slice_get xs k ≡ Some x
  from_front [] ys k x within at = absurd (omega arith)
  from_front (y ∷ xs) ys zero x within at = at
  from_front (y ∷ xs) ys (suc k) x within at = from_front xs ys k x (omega arith) at

  from_back : (xs ys : List PlacedItem) (k n : ℕ) (x : PlacedItem) → n ≡ length xs + k → slice_get (xs ++ ys) n ≡ Some x → slice_get ys k ≡ Some x
  from_back [] ys k n x same at = subst (λ (m : ℕ). slice_get ys m ≡ Some x) (omega arith) at
  from_back (y ∷ xs) ys k zero x same at = absurd (omega arith)
  from_back (y ∷ xs) ys k (suc n) x same at = from_back xs ys k n x (omega arith) at

  -- what fails first in a front fails first
  pub fails_front : (first number : ℕ) (xs ys : List PlacedItem) → FirstFails P first xs number → FirstFails P first (xs ++ ys) number
  fails_front first number xs ys found = record {
    place = found.place;
    is_number = found.is_number;
    placed = found.placed;
    at = get_front xs ys found.place found.placed found.at;
    fails = found.fails;
    before = λ earlier other less at. found.before earlier other less (from_front xs ys earlier other (omega (arith, less, item_within xs found.place found.placed found.at)) at);
  }

  -- what fails first behind a front that passes fails first
  pub fails_back : (first next number : ℕ) (xs ys : List PlacedItem) → All P xs → next ≡ first + length xs → FirstFails P next ys number → FirstFails P first (xs ++ ys) number
  fails_back first next number xs ys pass is found = record {
    place = length xs + found.place;
    is_number = omega (arith, is, found.is_number);
    placed = found.placed;
    at = get_back xs ys found.place found.placed found.at;
    fails = found.fails;
    before = λ earlier other less at. elim (cases_lt earlier (length xs)) [
      | inl within ↦ item_all P xs earlier other pass (from_front xs ys earlier other within at)
      | inr past ↦ (
          let rest : earlier ≡ length xs + (earlier - length xs) = omega (arith, past) in
          found.before (earlier - length xs) other (omega (arith, less, past)) (from_back xs ys (earlier - length xs) earlier other rest at))
    ];
  }

  pub scans_back : (first next : ℕ) (xs ys : List PlacedItem) (result : Result ℕ ℕ) → All P xs → next ≡ first + length xs → Scans P next ys result → Scans P first (xs ++ ys) result
  scans_back first next xs ys (Ok n) pass is scans = All-append P xs ys pass scans
  scans_back first next xs ys (Err n) pass is scans = fails_back first next n xs ys pass is scans

-- ---- the items of entries

-- as many items are numbered as there are
pub all_numbered : (path : List Turn) (place : ℕ) (entries : Entries) → length (items_from path place entries) ≡ item_count entries
all_numbered path place NoEntry = refl
all_numbered path place (WithSlot slot more) = all_numbered path (place + 1) more
all_numbered path place (WithLocal local more) = all_numbered path (place + 1) more
all_numbered path place (WithItem item more) = omega (arith, all_numbered path (place + 1) more)
all_numbered path place (WithBranch guard then otherwise more) =
    let first = items_from (turned path place Then) 0 then in
    let second = items_from (turned path place Otherwise) 0 otherwise in
    let rest = items_from path (place + 1) more in
    omega (
      arith,
      length-append first (second ++ rest),
      length-append second rest,
      all_numbered (turned path place Then) 0 then,
      all_numbered (turned path place Otherwise) 0 otherwise,
      all_numbered path (place + 1) more,
    )

pub count_of_items : (path : List Turn) (place : ℕ) (entry : Entry) → length (items_of path place entry) ≡ items_inside entry
count_of_items path place (Slot number) = refl
count_of_items path place (Local number) = refl
count_of_items path place (Item item) = refl
count_of_items path place (Branch guard then otherwise) =
    omega (
      arith,
      length-append (items_from (turned path place Then) 0 then) (items_from (turned path place Otherwise) 0 otherwise),
      all_numbered (turned path place Then) 0 then,
      all_numbered (turned path place Otherwise) 0 otherwise,
    )

-- the items of the first entry come before those of the others
items_first : (path : List Turn) (place : ℕ) (entry : Entry) (more : List Entry)
    → items_from path place (plain_entries (entry ∷ more)) ≡ items_of path place entry ++ items_from path (place + 1) (plain_entries more)
items_first path place (Slot number) more = refl
items_first path place (Local number) more = refl
items_first path place (Item item) more = refl
items_first path place (Branch guard then otherwise) more =
    sym (append_assoc (items_from (turned path place Then) 0 then) (items_from (turned path place Otherwise) 0 otherwise) (items_from path (place + 1) (plain_entries more)))

count_first : (entry : Entry) (more : List Entry) → item_count (plain_entries (entry ∷ more)) ≡ items_inside entry + item_count (plain_entries more)
count_first (Slot slot) more = omega arith
count_first (Local local) more = omega arith
count_first (Item item) more = omega arith
count_first (Branch guard then otherwise) more = omega arith

next : (xs : List Entry) (i : ℕ) (x : Entry) → i < length xs → x ≡ get_or xs i x → drop i xs ≡ x ∷ drop (i + 1) xs
next xs i x within is = subst (λ y. drop i xs ≡ y ∷ drop (i + 1) xs) (sym is) (rw add-one (drop-cons xs i x within))

module _ (entries : List Entry) (i : ℕ) (entry : Entry) (within : i < length entries) (is : entry ≡ get_or entries i entry) where
  pub count_next : item_count (plain_entries (drop i entries)) ≡ items_inside entry + item_count (plain_entries (drop (i + 1) entries))
  count_next = ap (λ xs. item_count (plain_entries xs)) (next entries i entry within is) ∙ count_first entry (drop (i + 1) entries)

  pub items_next : (path : List Turn) → items_from path i (plain_entries (drop i entries)) ≡ items_of path i entry ++ items_from path (i + 1) (plain_entries (drop (i + 1) entries))
  items_next path = ap (λ xs. items_from path i (plain_entries xs)) (next entries i entry within is) ∙ items_first path i entry (drop (i + 1) entries)

-- ---- what the walk keeps

module _ (model : Model) (plan : Plan) (context : Context) (top : Entries) where
  abbrev Passes : PlacedItem → Type 0
  Passes = IsTruePlaced model plan context top

  abbrev Allowed : Guard → Side → Type 0
  Allowed = Allows model plan context

  -- an item that isn't true, in an open block
  pub item_fails : (path : List Turn) (place first : ℕ) (entry : Entry) (item : what.Item) (reached : Bool) → entry ≡ Item item
      → (reached ≡ true) × (IsTrueWhere model plan context item → ⊥) → IsEntryReached Allowed top path place entry reached
      → FirstFails Passes first (items_of path place entry) first
  item_fails path place first entry item reached is fails (block, way, at) =
      let follows : Follows Allowed top path block = subst (λ (r : Bool). IsReached Allowed top path block r) fails.0 way in
      subst (λ (e : Entry). FirstFails Passes first (items_of path place e) first) (sym is) (record {
        place = 0;
        is_number = omega arith;
        placed = record { path = path; place = place; item = item };
        at = refl;
        fails = λ holds. fails.1 (holds block follows);
        before = λ earlier other less there. absurd (omega (arith, less));
      })

  holds_reached : (path : List Turn) (item : what.Item) (reached : Bool) (block other : Entries) → (reached ≡ true → IsTrueWhere model plan context item)
      → IsReached Allowed top path block reached → Follows Allowed top path other → IsTrueWhere model plan context item
  holds_reached path item true block other holds way follows = holds refl
  holds_reached path item false block other holds shut follows =
      absurd (shut [] other (subst (λ (p : List Turn). Follows Allowed top p other) (sym (append-nil path)) follows))

  pub item_passes : (path : List Turn) (place : ℕ) (entry : Entry) (item : what.Item) (reached : Bool) → entry ≡ Item item
      → (reached ≡ true → IsTrueWhere model plan context item) → IsEntryReached Allowed top path place entry reached
      → All Passes (items_of path place entry)
  item_passes path place entry item reached is holds (block, way, at) =
      subst (λ (e : Entry). All Passes (items_of path place e)) (sym is)
      (All-cons Passes (record { path = path; place = place; item = item }) [] (λ other follows. holds_reached path item reached block other holds way follows) (All-nil Passes))

  -- a branch: the items of the one block, and then those of the other
  module _ (path : List Turn) (place first : ℕ) (entry : Entry) (guard : Guard) (then otherwise thens others : Entries) (is : entry ≡ Branch guard then otherwise)
      (same : thens ≡ then) (same' : others ≡ otherwise) where
    pub branch_scans : (following : ℕ) (result : Result ℕ ℕ) → All Passes (items_from (turned path place Then) 0 thens) → following ≡ first + item_count thens
        → Scans Passes following (items_from (turned path place Otherwise) 0 others) result → Scans Passes first (items_of path place entry) result
    branch_scans following result pass count scans =
        subst (λ (e : Entry). Scans Passes first (items_of path place e) result) (sym is)
        (subst (λ (x : Entries). Scans Passes first (items_from (turned path place Then) 0 x ++ items_from (turned path place Otherwise) 0 otherwise) result) same
        (subst (λ (y : Entries). Scans Passes first (items_from (turned path place Then) 0 thens ++ items_from (turned path place Otherwise) 0 y) result) same'
        (scans_back Passes first following (items_from (turned path place Then) 0 thens) (items_from (turned path place Otherwise) 0 others) result pass
        (omega (arith, count, all_numbered (turned path place Then) 0 thens)) scans)))

    pub branch_fails : (number : ℕ) → FirstFails Passes first (items_from (turned path place Then) 0 thens) number → FirstFails Passes first (items_of path place entry) number
    branch_fails number found =
        subst (λ (e : Entry). FirstFails Passes first (items_of path place e) number) (sym is)
        (fails_front Passes first number (items_from (turned path place Then) 0 then) (items_from (turned path place Otherwise) 0 otherwise)
        (subst (λ (x : Entries). FirstFails Passes first (items_from (turned path place Then) 0 x) number) same found))

    -- the blocks are reached where the guard opens them
    pub sides_reached : (reached then_reached otherwise_reached : Bool) → IsEntryReached Allowed top path place entry reached
        → MatchBool then_reached (IsOpened Allowed reached guard Then) (IsOpened Allowed reached guard Then → ⊥)
        → MatchBool otherwise_reached (IsOpened Allowed reached guard Otherwise) (IsOpened Allowed reached guard Otherwise → ⊥)
        → IsReached Allowed top (turned path place Then) thens then_reached × IsReached Allowed top (turned path place Otherwise) others otherwise_reached
    sides_reached reached then_reached otherwise_reached (block, way, at) opened opened' =
        let there : slice_get (direct block) place ≡ Some (OfBranch guard then otherwise) = at ∙ ap (λ (e : Entry). Some (entry_direct e)) is in (
          subst (λ (x : Entries). IsReached Allowed top (turned path place Then) x then_reached) (sym same)
              (turn_reached Allowed top path place guard then otherwise Then block reached then_reached way there opened),
          subst (λ (y : Entries). IsReached Allowed top (turned path place Otherwise) y otherwise_reached) (sym same')
              (turn_reached Allowed top path place guard then otherwise Otherwise block reached otherwise_reached way there opened'),
        )

  -- the items so far, which all pass, and those from this place on
  pub record PassedUpTo (path : List Turn) (entries : List Entry) (i first number : ℕ) : Type 0 where
    pub done : List PlacedItem
    pub are : items_from path 0 (plain_entries entries) ≡ done ++ items_from path i (plain_entries (drop i entries))
    pub pass : All Passes done
    pub count : number ≡ first + length done

  pub none_passed : (path : List Turn) (entries : List Entry) (first : ℕ) → PassedUpTo path entries 0 first first
  none_passed path entries first = record { done = []; are = refl; pass = All-nil Passes; count = omega arith }

  module _ (path : List Turn) (entries : List Entry) (i first number : ℕ) (entry : Entry) (within : i < length entries) (is : entry ≡ get_or entries i entry) where
    pub more_passed : (following : ℕ) → following ≡ number + items_inside entry → All Passes (items_of path i entry) → PassedUpTo path entries i first number
        → PassedUpTo path entries (i + 1) first following
    more_passed following counted pass so_far = record {
      done = so_far.done ++ items_of path i entry;
      are = so_far.are ∙ (ap (λ xs. so_far.done ++ xs) (items_next entries i entry within is path)
          ∙ sym (append_assoc so_far.done (items_of path i entry) (items_from path (i + 1) (plain_entries (drop (i + 1) entries)))));
      pass = All-append Passes so_far.done (items_of path i entry) so_far.pass pass;
      count = omega (arith, counted, so_far.count, length-append so_far.done (items_of path i entry), count_of_items path i entry);
    }

    pub fails_here : (found : ℕ) → FirstFails Passes number (items_of path i entry) found → PassedUpTo path entries i first number
        → FirstFails Passes first (items_from path 0 (plain_entries entries)) found
    fails_here found fails so_far =
        let rest = items_from path (i + 1) (plain_entries (drop (i + 1) entries)) in
        subst (λ (xs : List PlacedItem). FirstFails Passes first xs found)
        (sym (so_far.are ∙ ap (λ xs. so_far.done ++ xs) (items_next entries i entry within is path)))
        (fails_back Passes first number found so_far.done (items_of path i entry ++ rest) so_far.pass so_far.count (fails_front Passes number found (items_of path i entry) rest fails))

    pub entry_reached : (reached : Bool) → IsReached Allowed top path (plain_entries entries) reached → IsEntryReached Allowed top path i entry reached
    entry_reached reached way = (plain_entries entries, way, direct_at entries i entry (read_item entries i entry within is))

  pub all_passed : (path : List Turn) (entries : List Entry) (i first number : ℕ) → length entries ≤ i → PassedUpTo path entries i first number
      → All Passes (items_from path 0 (plain_entries entries))
  all_passed path entries i first number past so_far =
      let none : items_from path i (plain_entries (drop i entries)) ≡ [] = ap (λ xs. items_from path i (plain_entries xs)) (drop_all i entries past) in
      subst (λ (xs : List PlacedItem). All Passes xs) (sym (so_far.are ∙ (ap (λ xs. so_far.done ++ xs) none ∙ append-nil so_far.done))) so_far.pass
