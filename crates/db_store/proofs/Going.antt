-- Marks stay while a store goes on, and going back to one.
use Rattle.std.proofs.Common.{◌≡◌, ℕ, ◌+◌, ◌<◌, ◌≤◌, inl, inr, List, [], ◌∷◌, ◌++◌, length, take, drop, refl, sym, ap, ◌∙◌, subst, arith, length-append, append_assoc}
use Rattle.std.specs.Prelude.{Contains}
use Rattle.std.proofs.lemmas.Bool.{cases_lt}
use Rattle.std.proofs.lemmas.List.{append-nil, take-append-drop, take-append-le, take-take, take_all, take_at, length-take-le}
use Rattle.domain_core.specs.Domain.{Domain}
use Rattle.cell_store.specs.Cells.{newest_of}
use Rattle.eu_name.specs.declared.name.TokenName.{TokenName}
use Rattle.token_store.specs.Tokens.{TokenList, TokenPast, tokens_now, token_names, LeavesPast, NamesStay}
use Rattle.constraint_net.specs.Marks.{IsMark, IsLatest, CanReturn, KeepMarks, Returns, HaveChanged}
use Rattle.constraint_net.specs.Networks.{Network, cells_of}
use Rattle.constraint_net.specs.declared.constraint.Constraint.{Constraint}
use Rattle.constraint_net.specs.declared.network.Mark.{Mark as NetMark}
use Rattle.db_store.specs.declared.key.OpenBlock.{OpenBlock}
use Rattle.db_store.specs.declared.key.VarKey.{VarKey}
use Rattle.db_store.specs.declared.store.Mark.{Mark}
use Rattle.db_store.specs.declared.watchers.Watch.{Watch}
use Rattle.db_store.specs.Stamps.{FollowStamps, StampsGoOn}
use Rattle.db_store.specs.Stores.{Stored, Snapshot, snapshot_of, IsSnapshot}
use Rattle.db_store.specs.StoreMarks.{AreFirst, IsStoreMark, IsMarkBefore, CanGoBack, KeepStoreMarks, GoesBackTo, AreTouched, with_mark}
use Rattle.db_store.proofs.Following.{NetGoesOn, net_same, net_marked, goes_on_both, stamps_return, names_back}

-- ---- going on

-- what was there is there in front, marks of the network stay, and its stamps follow the domains
pub record GoesOn (old new : Stored) : Type 0 where
  pub past : (more : TokenPast) × (new.past ≡ more ++ old.past)
  pub names : (more : List TokenName) × (token_names (tokens_now new.past) ≡ token_names (tokens_now old.past) ++ more)
  pub keys : (more : List VarKey) × (new.keys ≡ old.keys ++ more)
  pub blocks : (more : List OpenBlock) × (new.blocks ≡ old.blocks ++ more)
  pub watches : (more : List Watch) × (new.watches ≡ old.watches ++ more)
  pub net : KeepMarks old.net new.net
  pub follow : NetGoesOn old.net new.net
  pub tables : new.net.tables ≡ old.net.tables

first_on : {X : Type 0} (count : ℕ) (old new first : List X) → (more : List X) × (new ≡ old ++ more) → AreFirst count old first → AreFirst count new first
first_on count old new first on is =
    (omega (arith, is.0, ap length on.1, length-append old on.0), is.1 ∙ sym (ap (take count) on.1 ∙ take-append-le count old on.0 is.0))

pub keeps_marks : (old new : Stored) → GoesOn old new → KeepStoreMarks old new
keeps_marks old new on = record {
  marks = λ mark there is. record {
    is = is.is;
    tokens = (
      on.past.0 ++ is.tokens.0,
      is.tokens.1,
      (
        on.past.1 ∙ ap (λ list. on.past.0 ++ list) is.tokens.2.0 ∙ sym (append_assoc on.past.0 is.tokens.0 (there.tokens ∷ is.tokens.1)),
        is.tokens.2.1,
      ),
    );
    keys = first_on mark.variables old.keys new.keys there.keys on.keys is.keys;
    blocks = first_on mark.blocks old.blocks new.blocks there.blocks on.blocks is.blocks;
    watches = first_on mark.watches old.watches new.watches there.watches on.watches is.watches;
    net = on.net mark.net there.domains there.posted is.net;
    tables = is.tables ∙ sym on.tables;
  };
  stamps = λ former was. goes_on_both former old new was (record { names = on.names; keys = on.keys; count = on.follow.count; each = on.follow.each });
}

nothing_more : {X : Type 0} (list : List X) → (more : List X) × (list ≡ list ++ more)
nothing_more list = ([], sym (append-nil list))

pub keeps_same : (old new : Stored) → new ≡ old → KeepStoreMarks old new
keeps_same old new same = record {
  marks = λ mark there is. subst (λ (stored : Stored). IsStoreMark stored mark there) (sym same) is;
  stamps = λ former was. subst (StampsGoOn former) (sym same) was;
}

-- the tokens have the names that they had, and perhaps others behind them
abbrev AreMore : TokenList → TokenList → Type 0
AreMore tokens more = (names : List TokenName) × (token_names more ≡ token_names tokens ++ names)

pub keeps_tokens : (old new : Stored) (tokens : TokenList) → AreMore (tokens_now old.past) tokens → new ≡ record old { past = tokens ∷ old.past } → KeepStoreMarks old new
keeps_tokens old new tokens more is = subst (KeepStoreMarks old) (sym is) (keeps_marks old (record old { past = tokens ∷ old.past }) (record {
  past = (tokens ∷ [], refl);
  names = more;
  keys = nothing_more old.keys;
  blocks = nothing_more old.blocks;
  watches = nothing_more old.watches;
  net = λ mark domains constraints m. m;
  follow = net_same old.net;
  tables = refl;
}))

pub keeps_key : (old new : Stored) (key : VarKey) (net : Network) → KeepMarks old.net net → NetGoesOn old.net net → net.tables ≡ old.net.tables → new ≡ record old { keys = old.keys ++ key ∷ []; net = net } → KeepStoreMarks old new
keeps_key old new key net keep follow tables is = subst (KeepStoreMarks old) (sym is) (keeps_marks old (record old { keys = old.keys ++ key ∷ []; net = net }) (record {
  past = ([], refl);
  names = nothing_more (token_names (tokens_now old.past));
  keys = (key ∷ [], refl);
  blocks = nothing_more old.blocks;
  watches = nothing_more old.watches;
  net = keep;
  follow = follow;
  tables = tables;
}))

pub keeps_block : (old new : Stored) (block : OpenBlock) → new ≡ record old { blocks = old.blocks ++ block ∷ [] } → KeepStoreMarks old new
keeps_block old new block is = subst (KeepStoreMarks old) (sym is) (keeps_marks old (record old { blocks = old.blocks ++ block ∷ [] }) (record {
  past = ([], refl);
  names = nothing_more (token_names (tokens_now old.past));
  keys = nothing_more old.keys;
  blocks = (block ∷ [], refl);
  watches = nothing_more old.watches;
  net = λ mark domains constraints m. m;
  follow = net_same old.net;
  tables = refl;
}))

pub keeps_watch : (old new : Stored) (watch : Watch) → new ≡ record old { watches = old.watches ++ watch ∷ [] } → KeepStoreMarks old new
keeps_watch old new watch is = subst (KeepStoreMarks old) (sym is) (keeps_marks old (record old { watches = old.watches ++ watch ∷ [] }) (record {
  past = ([], refl);
  names = nothing_more (token_names (tokens_now old.past));
  keys = nothing_more old.keys;
  blocks = nothing_more old.blocks;
  watches = (watch ∷ [], refl);
  net = λ mark domains constraints m. m;
  follow = net_same old.net;
  tables = refl;
}))

pub keeps_net : (old new : Stored) → KeepMarks old.net new.net → NetGoesOn old.net new.net → new.net.tables ≡ old.net.tables → new ≡ record old { net = new.net } → KeepStoreMarks old new
keeps_net old new keep follow tables is = subst (KeepStoreMarks old) (sym is) (keeps_marks old (record old { net = new.net }) (record {
  past = ([], refl);
  names = nothing_more (token_names (tokens_now old.past));
  keys = nothing_more old.keys;
  blocks = nothing_more old.blocks;
  watches = nothing_more old.watches;
  net = keep;
  follow = follow;
  tables = tables;
}))

-- so it is with the store that is seen

pub tokens_marks : (view old : Stored) (past : TokenPast) (tokens : TokenList) → AreMore (tokens_now view.past) tokens → view ≡ old → past ≡ tokens ∷ view.past → KeepStoreMarks old (record view { past = past })
tokens_marks view old past tokens names is more = subst (λ stored. KeepStoreMarks stored (record view { past = past })) is
    (keeps_tokens view (record view { past = past }) tokens names (ap (λ (p : TokenPast). record view { past = p }) more))

pub same_marks : (view old new : Stored) → view ≡ old → new ≡ view → KeepStoreMarks old new
same_marks view old new is same = keeps_same old new (same ∙ is)

pub key_marks : (view old : Stored) (key : VarKey) (keys : List VarKey) (net : Network) → view ≡ old → KeepMarks view.net net → NetGoesOn view.net net → net.tables ≡ view.net.tables → keys ≡ view.keys ++ key ∷ [] → KeepStoreMarks old (record view { keys = keys; net = net })
key_marks view old key keys net is keep follow tables more = subst (λ stored. KeepStoreMarks stored (record view { keys = keys; net = net })) is
    (keeps_key view (record view { keys = keys; net = net }) key net keep follow tables (ap (λ (k : List VarKey). record view { keys = k; net = net }) more))

pub block_marks : (view old : Stored) (block : OpenBlock) (blocks : List OpenBlock) → view ≡ old → blocks ≡ view.blocks ++ block ∷ [] → KeepStoreMarks old (record view { blocks = blocks })
block_marks view old block blocks is more = subst (λ stored. KeepStoreMarks stored (record view { blocks = blocks })) is
    (keeps_block view (record view { blocks = blocks }) block (ap (λ (b : List OpenBlock). record view { blocks = b }) more))

pub watch_marks : (view old : Stored) (watch : Watch) (watches : List Watch) → view ≡ old → watches ≡ view.watches ++ watch ∷ [] → KeepStoreMarks old (record view { watches = watches })
watch_marks view old watch watches is more = subst (λ stored. KeepStoreMarks stored (record view { watches = watches })) is
    (keeps_watch view (record view { watches = watches }) watch (ap (λ (w : List Watch). record view { watches = w }) more))

pub net_marks : (view old : Stored) (net : Network) → view ≡ old → KeepMarks view.net net → NetGoesOn view.net net → net.tables ≡ view.net.tables → KeepStoreMarks old (record view { net = net })
net_marks view old net is keep follow tables = subst (λ stored. KeepStoreMarks stored (record view { net = net })) is (keeps_net view (record view { net = net }) keep follow tables refl)

-- ---- marks

front_of : (past : TokenPast) (place : ℕ) → place + 1 ≡ length past → (newer older : TokenPast) × ((past ≡ newer ++ tokens_now past ∷ older) × (length older ≡ place))
front_of [] place is = absurd (omega arith)
front_of (tokens ∷ past) place is = ([], past, (refl, omega arith))

all_first : {X : Type 0} (count : ℕ) (list : List X) → count ≡ length list → AreFirst count list list
all_first count list is = (omega arith, sym (take_all count list (omega arith)))

-- how far a mark reaches
pub record Reaches (stored : Stored) (mark : Mark) : Type 0 where
  pub tokens : mark.tokens + 1 ≡ length stored.past
  pub variables : mark.variables ≡ length stored.keys
  pub blocks : mark.blocks ≡ length stored.blocks
  pub watches : mark.watches ≡ length stored.watches

module _ (view seen : Stored) (net : Network) (same : view ≡ seen) (told : net ≡ record view.net { marked = length view.net.older }) where
  pub marked_seen : record view { net = net } ≡ with_mark seen
  marked_seen = ap (λ (n : Network). record view { net = n }) told ∙ ap with_mark same

  pub marked_sound : IsSnapshot (snapshot_of view) → IsSnapshot (snapshot_of (record view { net = net }))
  marked_sound is = subst (λ (n : Network). IsSnapshot (snapshot_of (record view { net = n }))) (sym told) is

  pub mark_now : (mark : Mark) → IsSnapshot (snapshot_of view) → Reaches view mark → IsMark net mark.net view.net.domains view.net.constraints
      → IsStoreMark (record view { net = net }) mark (snapshot_of seen)
  mark_now mark is reaches here = subst (λ s. IsStoreMark (record view { net = net }) mark (snapshot_of s)) same (record {
    is = is;
    tokens = front_of view.past mark.tokens reaches.tokens;
    keys = all_first mark.variables view.keys reaches.variables;
    blocks = all_first mark.blocks view.blocks reaches.blocks;
    watches = all_first mark.watches view.watches reaches.watches;
    net = here;
    tables = sym (ap (λ (n : Network). n.tables) told);
  })

  pub marked_marks : KeepMarks view.net net → KeepStoreMarks seen (record view { net = net })
  marked_marks keeps = net_marks view seen net same keeps (net_marked (length view.net.older) view.net net told) (ap (λ (n : Network). n.tables) told)

pub mark_latest : (stored : Stored) (mark : Mark) → Reaches stored mark → IsLatest stored.net mark.net
    → (earlier : Mark) → CanGoBack stored earlier → IsMarkBefore earlier mark
mark_latest stored mark reaches latest earlier can =
    let there = can.0 in
    let is = can.1 in
    let net = latest earlier.net (there.domains, there.posted, is.net) in
    record {
      tokens = omega (arith, reaches.tokens, ap length is.tokens.2.0, length-append is.tokens.0 (there.tokens ∷ is.tokens.1), is.tokens.2.1);
      variables = omega (arith, reaches.variables, is.keys.0);
      blocks = omega (arith, reaches.blocks, is.blocks.0);
      watches = omega (arith, reaches.watches, is.watches.0);
      cells = net.0;
      constraints = net.1;
    }

-- ---- going back

-- of two ends of one list the longer ends with the other
end_in_end : {X : Type 0} (a b c d : List X) → a ++ b ≡ c ++ d → length d ≤ length b → (front : List X) × (b ≡ front ++ d)
end_in_end [] b c d same le = (c, same)
end_in_end (x ∷ a) b [] d same le = absurd (omega (arith, ap length same, length-append (x ∷ a) b, le))
end_in_end (x ∷ a) b (y ∷ c) d same le = end_in_end a b c d (ap (drop 1) same) le

-- and two of one length are one
same_end : {X : Type 0} (a b c d : List X) → a ++ b ≡ c ++ d → length d ≡ length b → b ≡ d
same_end [] b [] d same long = same
same_end [] b (y ∷ c) d same long = absurd (omega (arith, ap length same, length-append (y ∷ c) d, long))
same_end (x ∷ a) b [] d same long = absurd (omega (arith, ap length same, length-append (x ∷ a) b, long))
same_end (x ∷ a) b (y ∷ c) d same long = same_end a b c d (ap (drop 1) same) long

-- each part has gone back to the mark
pub record HasGoneBack (mark : Mark) (old new : Stored) : Type 0 where
  pub past : LeavesPast mark.tokens old.past new.past
  pub keys : new.keys ≡ take mark.variables old.keys
  pub blocks : new.blocks ≡ take mark.blocks old.blocks
  pub watches : new.watches ≡ take mark.watches old.watches
  pub net : Returns mark.net old.net new.net

module _ (mark : Mark) (old new : Stored) (back : HasGoneBack mark old new) where
  tokens_again : (there : Snapshot) → IsStoreMark old mark there → tokens_now new.past ≡ there.tokens
  tokens_again there is =
      let at = is.tokens in
      ap tokens_now (same_end back.past.newer new.past at.0 (there.tokens ∷ at.1) (sym back.past.past ∙ at.2.0) (omega (arith, back.past.count, at.2.1)))

  domains_again : (there : Snapshot) → IsStoreMark old mark there → new.net.domains ≡ there.domains
  domains_again there is =
      let goes = back.net.cells in
      let at = is.net.place in
      ap newest_of (same_end goes.newer (cells_of new.net).past at.0 (there.domains ∷ at.1) (sym goes.past ∙ at.2.0) (omega (arith, goes.count, at.2.1)))

  posted_again : (there : Snapshot) → IsStoreMark old mark there → new.net.constraints ≡ there.posted
  posted_again there is =
      back.net.constraints ∙ ap (take mark.net.constraints) is.net.first.1 ∙ take_at there.posted is.net.first.0 mark.net.constraints is.net.count

  again : (there : Snapshot) → IsStoreMark old mark there → snapshot_of new ≡ there
  again there is = λ i. record {
    tokens = tokens_again there is i;
    keys = let e : new.keys ≡ there.keys = back.keys ∙ sym is.keys.1 in e i;
    blocks = let e : new.blocks ≡ there.blocks = back.blocks ∙ sym is.blocks.1 in e i;
    watches = let e : new.watches ≡ there.watches = back.watches ∙ sym is.watches.1 in e i;
    domains = domains_again there is i;
    posted = posted_again there is i;
    tables = let e : new.net.tables ≡ there.tables = back.net.tables ∙ sym is.tables in e i;
  }

  is_again : (there : Snapshot) → IsStoreMark old mark there → IsSnapshot (snapshot_of new)
  is_again there is = subst IsSnapshot (sym (again there is)) is.is

first_of_first : {X : Type 0} (n m : ℕ) (old new first : List X) → n ≤ m → m ≤ length old → new ≡ take m old → AreFirst n old first → AreFirst n new first
first_of_first n m old new first le within is earlier =
    (omega (arith, le, ap length is, length-take-le m old within), earlier.1 ∙ sym (ap (take n) is ∙ take-take n m old le))

-- what the network promises of its marks
abbrev NetMarksStay : Network → Network → Type 0
NetMarksStay old new =
    (earlier later : NetMark) (domains : List Domain) (posted : List Constraint)
    → IsMark old earlier domains posted → earlier.cells ≤ later.cells → earlier.constraints ≤ later.constraints
    → Returns later old new → IsMark new earlier domains posted

marks_left : (mark : Mark) (old new : Stored) → HasGoneBack mark old new → CanGoBack old mark → NetMarksStay old.net new.net
    → (earlier : Mark) (there : Snapshot) → IsMarkBefore earlier mark → IsStoreMark old earlier there → IsStoreMark new earlier there
marks_left mark old new back can stay earlier there order is =
    let at = can.1 in
    let tail = end_in_end back.past.newer new.past is.tokens.0 (there.tokens ∷ is.tokens.1) (sym back.past.past ∙ is.tokens.2.0) (omega (arith, back.past.count, is.tokens.2.1, order.tokens)) in
    record {
      is = is.is;
      tokens = (tail.0, is.tokens.1, (tail.1, is.tokens.2.1));
      keys = first_of_first earlier.variables mark.variables old.keys new.keys there.keys order.variables at.keys.0 back.keys is.keys;
      blocks = first_of_first earlier.blocks mark.blocks old.blocks new.blocks there.blocks order.blocks at.blocks.0 back.blocks is.blocks;
      watches = first_of_first earlier.watches mark.watches old.watches new.watches there.watches order.watches at.watches.0 back.watches is.watches;
      net = stay earlier.net mark.net there.domains there.posted is.net order.cells order.constraints back.net;
      tables = is.tables ∙ sym back.net.tables;
    }

-- so much was there in front
left_front : {X : Type 0} (count : ℕ) (old new : List X) → new ≡ take count old → (more : List X) × (old ≡ new ++ more)
left_front count old new is = (drop count old, sym (take-append-drop count old) ∙ ap (λ list. list ++ drop count old) (sym is))

stamps_back : (mark : Mark) (old new : Stored) → HasGoneBack mark old new → CanGoBack old mark → NamesStay old.past → IsSnapshot (snapshot_of old) → FollowStamps old new
stamps_back mark old new back can stay is =
    stamps_return old new is (is_again mark old new back can.0 can.1) mark.net
    (names_back mark.tokens old.past new.past back.past stay) (left_front mark.variables old.keys new.keys back.keys) back.net

pub goes_back : (view seen new : Stored) (mark : Mark) → view ≡ seen → IsSnapshot (snapshot_of view) → NamesStay view.past → HasGoneBack mark view new → CanGoBack seen mark → NetMarksStay view.net new.net
    → GoesBackTo mark seen new
goes_back view seen new mark same is names back can_go stay =
    let can = subst (λ s. CanGoBack s mark) (sym same) can_go in
    subst (λ s. GoesBackTo mark s new) same (record {
      again = again mark view new back;
      marks = marks_left mark view new back can stay;
      stamps = stamps_back mark view new back can names is;
      net = back.net;
    })

pub sound_again : (view seen new : Stored) (mark : Mark) → view ≡ seen → HasGoneBack mark view new → CanGoBack seen mark → IsSnapshot (snapshot_of new)
sound_again view seen new mark same back can_go =
    let can = subst (λ s. CanGoBack s mark) (sym same) can_go in
    is_again mark view new back can.0 can.1

-- ---- what was touched since a mark

pub can_return : (view stored : Stored) (mark : Mark) → view ≡ stored → CanGoBack stored mark → CanReturn view.net mark.net
can_return view stored mark same can = subst (λ (s : Stored). CanReturn s.net mark.net) (sym same) (can.0.domains, can.0.posted, can.1.net)

pub touched : (view stored : Stored) (mark : Mark) (written numbers : List ℕ) → view ≡ stored
    → ((domains : List Domain) (posted : List Constraint) → IsMark view.net mark.net domains posted → HaveChanged written domains view.net.domains)
    → ((number : ℕ) → Contains written number → Contains numbers number)
    → ((number : ℕ) → mark.variables ≤ number → number < length view.keys → Contains numbers number)
    → (there : Snapshot) → IsStoreMark stored mark there → AreTouched numbers there stored
touched view stored mark written numbers same changed kept all there is =
    subst (AreTouched numbers there) same (λ number below. elim (cases_lt number (length there.keys)) [
      | inl old ↦ elim (changed there.domains there.posted marked.net number (omega (arith, old, is.is.count))) [
        | inl still ↦ inl (old, still)
        | inr among ↦ inr (kept number among)
      ]
      | inr new ↦ inr (all number (omega (arith, new, count)) below)
    ])
  where
    marked : IsStoreMark view mark there
    marked = subst (λ s. IsStoreMark s mark there) (sym same) is

    count : length there.keys ≡ mark.variables
    count = let fits = marked.keys.0 in ap length marked.keys.1 ∙ length-take-le mark.variables view.keys fits
