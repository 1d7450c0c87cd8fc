-- A sequence of exact readers is exact.
use Rattle.std.proofs.Common.{◌≡◌, ℕ, Bool, false, Option, List, ◌∷◌, ◌++◌, refl, sym, ap, subst, ◌∙◌}
use Rattle.nddl_grammar.specs.declared.sort.Sort.{Sort}
use Rattle.nddl_grammar.specs.Symbols.{PlainSymbol}
use Rattle.nddl_grammar.specs.Readers.{Outcome, got, stuck, deep, begins, and_then, sequence}
use Rattle.nddl_grammar.specs.Exact.{◌·◌, Agrees, earlier, IfAt, IsRead, FindsExactly, HasSample, IsExact}
use Rattle.nddl_grammar.proofs.Lists.{agrees_front, agrees_back, regroup, if_at_both, earlier_none, earlier_some, earlier_second}

-- both parts, and the first place in either
abbrev pub Paired : {X Y : Type 0} (P : X → List PlainSymbol → Type 0) (Q : Y → List PlainSymbol → Type 0) → X × Y → List PlainSymbol → Type 0
Paired P Q both = P both.0 · Q both.1

abbrev pub deeper : {X Y : Type 0} (dx : X → Option ℕ) (dy : Y → Option ℕ) → X × Y → Option ℕ
deeper dx dy both = earlier (dx both.0) (dy both.1)

-- what may follow the second part may not go on the first
abbrev pub Follows : {Y : Type 0} (Q : Y → List PlainSymbol → Type 0) (more_x more_y : Sort → Bool) → Type 0
Follows {Y = Y} Q more_x more_y = (y : Y) (word after : List PlainSymbol) → Q y word → begins more_y after ≡ false → begins more_x (word ++ after) ≡ false

whole : (word back after : List PlainSymbol) (used : List PlainSymbol) (rest : List PlainSymbol) (all : List PlainSymbol) → all ≡ word ++ back → Agrees (all ++ after) used rest → Agrees (word ++ (back ++ after)) used rest
whole word back after used rest all is same = subst (λ (list : List PlainSymbol). Agrees list used rest) (regroup word back after) (subst (λ (list : List PlainSymbol). Agrees (list ++ after) used rest) is same)

-- the same, where the second part's language is by the value of the first
abbrev pub Chained : {X Y : Type 0} (P : X → List PlainSymbol → Type 0) (Q : X → Y → List PlainSymbol → Type 0) → X × Y → List PlainSymbol → Type 0
Chained P Q both = P both.0 · Q both.0 both.1

second : {X Y : Type 0} (P : X → List PlainSymbol → Type 0) (Q : X → Y → List PlainSymbol → Type 0) (dx : X → Option ℕ) (dy : Y → Option ℕ) (more_x more_y : Sort → Bool)
    (symbols : List PlainSymbol) (x : X) (rest : List PlainSymbol) → ((x : X) → Follows (Q x) more_x more_y) → IsRead P dx more_x symbols x rest
    → (o : Outcome Y) → FindsExactly (Q x) dy more_y rest o
    → FindsExactly (Chained P Q) (deeper dx dy) more_y symbols (and_then o (λ y left. got (x, y) left))
second {X = X} P Q dx dy more_x more_y symbols x rest follow front (got y left) back = record {
  used = front.used ++ back.used;
  split = front.split ∙ (ap (λ (list : List PlainSymbol). front.used ++ list) back.split ∙ sym (regroup front.used back.used left));
  derived = (front.used, back.used, refl, front.derived, back.derived);
  shallow = earlier_none (dx x) (dy y) front.shallow back.shallow;
  only = λ both word after is out same.
      let u = whole is.0 is.1 after (front.used ++ back.used) left word is.2 same in
      let at_front = agrees_front (is.0 ++ (is.1 ++ after)) front.used back.used left u in
      let at_rest = subst (λ (list : List PlainSymbol). Agrees (is.0 ++ (is.1 ++ after)) front.used list) (sym back.split) at_front in
      let one = front.only both.0 is.0 (is.1 ++ after) is.3 (follow both.0 both.1 is.1 after is.4 out) at_rest in
      let moved = subst (λ (list : List PlainSymbol). Agrees (list ++ (is.1 ++ after)) (front.used ++ back.used) left) one.1 u in
      let other = back.only both.1 is.1 after (subst (λ (z : X). Q z both.1 is.1) one.0 is.4) out (agrees_back (is.1 ++ after) front.used back.used left moved) in
      (λ i. (one.0 i, other.0 i), is.2 ∙ (λ i. one.1 i ++ other.1 i));
}
second {X = X} P Q dx dy more_x more_y symbols x rest follow front (stuck left) back = record {
  used = front.used ++ back.used;
  split = front.split ∙ (ap (λ (list : List PlainSymbol). front.used ++ list) back.split ∙ sym (regroup front.used back.used left));
  begun = λ place.
      let go = back.begun place in
      (go.0, (x, go.1), (front.used, back.used ++ go.0, regroup front.used back.used go.0, front.derived, go.2), if_at_both (dx x) (dy go.1) place (subst (λ (o : Option ℕ). IfAt o place) (sym front.shallow) tt) go.3);
  none = λ both word after is out same.
      let u = whole is.0 is.1 after (front.used ++ back.used) left word is.2 same in
      let at_front = agrees_front (is.0 ++ (is.1 ++ after)) front.used back.used left u in
      let at_rest = subst (λ (list : List PlainSymbol). Agrees (is.0 ++ (is.1 ++ after)) front.used list) (sym back.split) at_front in
      let one = front.only both.0 is.0 (is.1 ++ after) is.3 (follow both.0 both.1 is.1 after is.4 out) at_rest in
      let moved = subst (λ (list : List PlainSymbol). Agrees (list ++ (is.1 ++ after)) (front.used ++ back.used) left) one.1 u in
      back.none both.1 is.1 after (subst (λ (z : X). Q z both.1 is.1) one.0 is.4) out (agrees_back (is.1 ++ after) front.used back.used left moved);
}
second {X = X} P Q dx dy more_x more_y symbols x rest follow front (deep left) back = record {
  used = front.used ++ back.used;
  symbol = back.symbol;
  left = back.left;
  next = back.next;
  split = front.split ∙ (ap (λ (list : List PlainSymbol). front.used ++ list) back.split ∙ sym (regroup front.used back.used left));
  begun =
      let go = back.begun in
      (go.0, (x, go.1), (front.used, back.used ++ back.symbol ∷ go.0, regroup front.used back.used (back.symbol ∷ go.0), front.derived, go.2), earlier_second (dx x) (dy go.1) front.shallow ∙ go.3);
  all = λ both word after is out same.
      let u = whole is.0 is.1 after (front.used ++ back.used) left word is.2 same in
      let at_front = agrees_front (is.0 ++ (is.1 ++ after)) front.used back.used left u in
      let at_rest = subst (λ (list : List PlainSymbol). Agrees (is.0 ++ (is.1 ++ after)) front.used list) (sym back.split) at_front in
      let one = front.only both.0 is.0 (is.1 ++ after) is.3 (follow both.0 both.1 is.1 after is.4 out) at_rest in
      let moved = subst (λ (list : List PlainSymbol). Agrees (list ++ (is.1 ++ after)) (front.used ++ back.used) left) one.1 u in
      let other = back.all both.1 is.1 after (subst (λ (z : X). Q z both.1 is.1) one.0 is.4) out (agrees_back (is.1 ++ after) front.used back.used left moved) in
      earlier_second (dx both.0) (dy both.1) (ap dx one.0 ∙ front.shallow) ∙ other;
}

pub sequence_at : {X Y : Type 0} (P : X → List PlainSymbol → Type 0) (Q : X → Y → List PlainSymbol → Type 0) (dx : X → Option ℕ) (dy : Y → Option ℕ) (more_x more_y : Sort → Bool)
    (symbols : List PlainSymbol) (other : X → List PlainSymbol → Outcome Y) → ((x : X) → Follows (Q x) more_x more_y) → ((x : X) → HasSample (Q x) dy)
    → (o : Outcome X) → FindsExactly P dx more_x symbols o
    → ((x : X) (rest : List PlainSymbol) → o ≡ got x rest → FindsExactly (Q x) dy more_y rest (other x rest))
    → FindsExactly (Chained P Q) (deeper dx dy) more_y symbols (and_then o (λ x rest. and_then (other x rest) (λ y left. got (x, y) left)))
sequence_at P Q dx dy more_x more_y symbols other follow sample (got x rest) front back =
    second P Q dx dy more_x more_y symbols x rest follow front (other x rest) (back x rest refl)
sequence_at P Q dx dy more_x more_y symbols other follow sample (stuck rest) front back = record {
  used = front.used;
  split = front.split;
  begun = λ place.
      let go = front.begun place in
      let end = sample go.1 place in
      (go.0 ++ end.0, (go.1, end.1), (front.used ++ go.0, end.0, sym (regroup front.used go.0 end.0), go.2, end.2), if_at_both (dx go.1) (dy end.1) place go.3 end.3);
  none = λ both word after is out same.
      front.none both.0 is.0 (is.1 ++ after) is.3 (follow both.0 both.1 is.1 after is.4 out) (whole is.0 is.1 after front.used rest word is.2 same);
}
sequence_at P Q dx dy more_x more_y symbols other follow sample (deep rest) front back = record {
  used = front.used;
  symbol = front.symbol;
  left = front.left;
  next = front.next;
  split = front.split;
  begun =
      let go = front.begun in
      let end = sample go.1 front.symbol.at in (
        go.0 ++ end.0,
        (go.1, end.1),
        (front.used ++ front.symbol ∷ go.0, end.0, sym (regroup front.used (front.symbol ∷ go.0) end.0), go.2, end.2),
        earlier_some (dx go.1) (dy end.1) front.symbol.at go.3,
      );
  all = λ both word after is out same.
      earlier_some (dx both.0) (dy both.1) front.symbol.at
      (front.all both.0 is.0 (is.1 ++ after) is.3 (follow both.0 both.1 is.1 after is.4 out) (whole is.0 is.1 after front.used rest word is.2 same));
}

pub sequence_sample : {X Y : Type 0} (P : X → List PlainSymbol → Type 0) (Q : Y → List PlainSymbol → Type 0) (dx : X → Option ℕ) (dy : Y → Option ℕ)
    → HasSample P dx → HasSample Q dy → HasSample (Paired P Q) (deeper dx dy)
sequence_sample P Q dx dy one other place =
    let a = one place in
    let b = other place in
    (a.0 ++ b.0, (a.1, b.1), (a.0, b.0, refl, a.2, b.2), if_at_both (dx a.1) (dy b.1) place a.3 b.3)

pub sequence_exact : {X Y : Type 0} {P : X → List PlainSymbol → Type 0} {Q : Y → List PlainSymbol → Type 0} {dx : X → Option ℕ} {dy : Y → Option ℕ} {more_x more_y : Sort → Bool}
    {one : List PlainSymbol → Outcome X} {other : List PlainSymbol → Outcome Y} → IsExact P dx more_x one → IsExact Q dy more_y other → Follows Q more_x more_y
    → IsExact (Paired P Q) (deeper dx dy) more_y (sequence one other)
sequence_exact {P = P} {Q = Q} {dx = dx} {dy = dy} {more_x = more_x} {more_y = more_y} {one = one} {other = other} a b follow = record {
  answers = λ symbols. sequence_at P (λ x. Q) dx dy more_x more_y symbols (λ x. other) (λ x. follow) (λ x. b.sample) (one symbols) (a.answers symbols) (λ x rest is. b.answers rest);
  sample = sequence_sample P Q dx dy a.sample b.sample;
}

kept : {X Y : Type 0} (x : X) (o : Outcome Y) → and_then (and_then {Y = X × Y} o (λ y left. got (x, y) left)) (λ both left. got both.1 left) ≡ o
kept x (got y rest) = refl
kept x (stuck rest) = refl
kept x (deep rest) = refl

pub fused : {X Y : Type 0} (o : Outcome X) (other : X → List PlainSymbol → Outcome Y)
    → and_then (and_then {Y = X × Y} o (λ x rest. and_then {Y = X × Y} (other x rest) (λ y left. got (x, y) left))) (λ both left. got both.1 left) ≡ and_then o other
fused (got x rest) other = kept x (other x rest)
fused (stuck rest) other = refl
fused (deep rest) other = refl

pub chained_at : {X Y : Type 0} (P : X → List PlainSymbol → Type 0) (Q : X → Y → List PlainSymbol → Type 0) (dx : X → Option ℕ) (dy : Y → Option ℕ) (more_x more_y : Sort → Bool)
    (symbols : List PlainSymbol) (one : List PlainSymbol → Outcome X) (other : X → List PlainSymbol → Outcome Y) → ((x : X) → IsExact (Q x) dy more_y (other x)) → IsExact P dx more_x one → ((x : X) → Follows (Q x) more_x more_y)
    → FindsExactly (Chained P Q) (deeper dx dy) more_y symbols (and_then {Y = X × Y} (one symbols) (λ x rest. and_then {Y = X × Y} (other x rest) (λ y left. got (x, y) left)))
chained_at P Q dx dy more_x more_y symbols one other b a follow =
    sequence_at P Q dx dy more_x more_y symbols other follow (λ x. (b x).sample) (one symbols) (a.answers symbols) (λ x rest is. (b x).answers rest)
