-- The lists of who watches a variable.
use Rattle.std.proofs.Common.{◌≡◌, ℕ, zero, suc, ◌+◌, ◌-◌, ◌<◌, ◌≤◌, List, [], ◌∷◌, ◌++◌, length, map, get_or, set, ⊎_elim, refl, sym, ap, ◌∙◌, subst, arith}
use Rattle.smallvec.specs.SmallVec.{SmallVec}
use Rattle.std.specs.Prelude.{Contains, Option, Some, None, option_to_list, slice_get, Result, Ok, Err, OnErr}
use Rattle.std.proofs.lemmas.Option.{slice_get_within}
use Rattle.constraint_net.proofs.Enrolling.{get_push}
use Rattle.std.specs.declared.alloc.AllocError.{AllocError}
use Rattle.std.proofs.lemmas.Bool.{cases_eq}
use Rattle.std.proofs.lemmas.List.{append-nil, length_push, length-map, length-set, map-set, get_or-map, set-get_or, get_or-set_same, get_or-set_other}
use Rattle.std.proofs.lemmas.List.Elements.{Contains-push_cases}
use Rattle.constraint_net.specs.Agendas.{watchers_at, KeepsLists, KeepsBelow, Shortens}

-- a list more that is empty changes none
push_default : {X : Type 0} (xs : List X) (d : X) (n : ℕ) → get_or (xs ++ d ∷ []) n d ≡ get_or xs n d
push_default [] d zero = refl
push_default [] d (suc n) = refl
push_default (x ∷ xs) d zero = refl
push_default (x ∷ xs) d (suc n) = push_default xs d n

pub keeps_same : (old new : List (List ℕ)) → new ≡ old → KeepsLists old new
keeps_same old new same = record { lists = omega (arith, ap length same); each = λ variable number member. subst (λ lists. Contains (watchers_at lists variable) number) (sym same) member }

pub keeps_grown : (old new : List (List ℕ)) → new ≡ old ++ [] ∷ [] → KeepsLists old new
keeps_grown old new is = record {
  lists = omega (arith, ap length is, length_push old []);
  each = λ variable number member. subst (λ list. Contains list number) (sym (ap (λ lists. watchers_at lists variable) is ∙ push_default old [] variable)) member;
}

abbrev pub lists_of : List (SmallVec ℕ) → List (List ℕ)
lists_of lists = map (λ list. list.items) lists

-- one list was written
pub written_list : (lists : List (SmallVec ℕ)) (variable : ℕ) (list : SmallVec ℕ) → lists_of (set lists variable list) ≡ set (lists_of lists) variable list.items
written_list lists variable list = map-set (λ l. l.items) lists variable list

-- what was read of a list
pub read_list : (lists : List (SmallVec ℕ)) (variable : ℕ) (list : SmallVec ℕ) → variable < length lists → list ≡ get_or lists variable list → list.items ≡ get_or (lists_of lists) variable []
read_list lists variable list below read = ap (λ l. l.items) read ∙ sym (get_or-map (λ l. l.items) lists variable list [] below)

pub list_same : (lists : List (SmallVec ℕ)) (shown : List (List ℕ)) (variable : ℕ) (list left : SmallVec ℕ) → lists_of lists ≡ shown → variable < length shown → list ≡ get_or lists variable list → left.items ≡ list.items
    → lists_of (set lists variable left) ≡ shown
list_same lists shown variable list left view below read same =
    let within : variable < length lists = omega (arith, below, ap length view, length-map lists (λ (l : SmallVec ℕ). l.items)) in
    written_list lists variable left ∙ ap (set (lists_of lists) variable) (same ∙ read_list lists variable list within read) ∙ set-get_or (lists_of lists) variable [] ∙ view

pub list_more : (lists : List (SmallVec ℕ)) (shown : List (List ℕ)) (variable number : ℕ) (list left : SmallVec ℕ) → lists_of lists ≡ shown → variable < length shown → list ≡ get_or lists variable list → left.items ≡ list.items ++ number ∷ []
    → lists_of (set lists variable left) ≡ set shown variable (get_or shown variable [] ++ number ∷ [])
list_more lists shown variable number list left view below read more =
    let within : variable < length lists = omega (arith, below, ap length view, length-map lists (λ (l : SmallVec ℕ). l.items)) in
    written_list lists variable left ∙ ap (set (lists_of lists) variable) (more ∙ ap (λ l. l ++ number ∷ []) (read_list lists variable list within read))
    ∙ ap (λ l. set l variable (get_or l variable [] ++ number ∷ [])) view

pub list_less : (lists : List (SmallVec ℕ)) (shown : List (List ℕ)) (variable count : ℕ) (list left : SmallVec ℕ) → lists_of lists ≡ shown → variable < length shown → list ≡ get_or lists variable list → Shortens count list.items left.items
    → KeepsBelow count shown (lists_of (set lists variable left))
list_less lists shown variable count list left view below read shortens =
    let within : variable < length lists = omega (arith, below, ap length view, length-map lists (λ (l : SmallVec ℕ). l.items)) in
    let is : lists_of (set lists variable left) ≡ set shown variable left.items = written_list lists variable left ∙ ap (λ l. set l variable left.items) view in
    subst (KeepsBelow count shown) (sym is) (record {
      lists = length-set shown variable left.items;
      below = λ other number low member. ⊎_elim
          (λ same.
          let was : Contains list.items number = subst (λ l. Contains l number) (ap (get_or shown other) refl ∙ ap (λ n. get_or shown n []) same ∙ ap (λ l. get_or l variable []) (sym view) ∙ sym (read_list lists variable list within read)) member in
          subst (λ l. Contains l number) (sym (ap (λ n. get_or (set shown variable left.items) n []) same ∙ get_or-set_same shown variable left.items [] below)) (shortens number low was))
          (λ apart. subst (λ l. Contains l number) (sym (get_or-set_other shown variable other left.items [] apart)) member)
          (cases_eq other variable);
    })

-- where the last number isn't below the count
pub shortened : (count last : ℕ) (start list rest : List ℕ) → list ≡ rest ++ last ∷ [] → count ≤ last → Shortens count start list → Shortens count start rest
shortened count last start list rest is high so_far number low member =
    ⊎_elim (λ before. before) (λ same. absurd (omega (arith, high, low, same))) (Contains-push_cases rest last number (subst (λ l. Contains l number) is (so_far number low member)))

pub on_err : (result : Result (Unit {0}) AllocError) (P : Type 0) → P → OnErr result P
on_err (Ok done) P p = tt
on_err (Err none) P p = p

-- the last number that was read is the one that was taken off
pub shortened_by : (count last : ℕ) (start list rest : List ℕ) (result : Option ℕ) → list ≡ rest ++ option_to_list result → Some last ≡ slice_get list (length list - 1) → count ≤ last → Shortens count start list → Shortens count start rest
shortened_by count last start list rest None is read high so_far = subst (Shortens count start) (is ∙ append-nil rest) so_far
shortened_by count last start list rest (Some y) is read high so_far =
    let long : length list ≡ length rest + 1 = ap length is ∙ length_push rest y in
    let here : slice_get (rest ++ y ∷ []) (length rest) ≡ Some last = (λ i. slice_get (sym is i) (let e : length rest ≡ length list - 1 = omega (arith, long) in e i)) ∙ sym read in
    let same : y ≡ last = ⊎_elim (λ before. absurd (let below = slice_get_within rest (length rest) last before in omega (arith, below))) (λ one. one.1) (get_push rest y last (length rest) here) in
    shortened count y start list rest is (omega (arith, high, same)) so_far
