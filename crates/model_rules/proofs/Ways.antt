-- Ways to blocks.
use Rattle.std.proofs.Common.{◌≡◌, ◌+◌, List, [], ◌∷◌, ◌++◌, length, slice_get, Some, ◌⊎◌, inl, inr, refl, sym, ap, ◌∙◌, subst, arith}
use Rattle.model_core.specs.declared.rule.Guard.{Guard}
use Rattle.model_core.specs.declared.rule.Turn.{Turn}
use Rattle.model_core.specs.Blocks.{OfBranch, chosen, direct}
use Rattle.model_core.specs.Entries.{Entries}
use Rattle.model_core.specs.Standing.{LeadsToBlock}

pub some_same : {X : Type 0} (one other : X) → Some one ≡ Some other → one ≡ other
some_same one other same = cc

pub second_block : (g h : Guard) (a b x y : Entries) → OfBranch g a b ≡ OfBranch h x y → (a ≡ x) × (b ≡ y)
second_block g h a b x y e = ((cc), (cc))

-- a way leads to one block
pub follows_once : (top : Entries) (path : List Turn) (one other : Entries) → LeadsToBlock top path one → LeadsToBlock top path other → one ≡ other
follows_once top [] one other p q = p ∙ sym q
follows_once top (turn ∷ path) one other (guard, (then, otherwise, (at, (allowed, way)))) (guard', (then', otherwise', (at', (allowed', way')))) =
    let same = second_block guard' guard then' otherwise' then otherwise (some_same _ _ (sym at' ∙ at)) in
    follows_once (chosen turn.side then otherwise) path one other way
    (subst (λ (x : Entries). LeadsToBlock (chosen turn.side x otherwise) path other) same.0
    (subst (λ (y : Entries). LeadsToBlock (chosen turn.side then' y) path other) same.1 way'))

pub follows_join : (top : Entries) (path more : List Turn) (middle block : Entries) → LeadsToBlock top path middle → LeadsToBlock middle more block
    → LeadsToBlock top (path ++ more) block
follows_join top [] more middle block first rest = subst (λ (m : Entries). LeadsToBlock m more block) first rest
follows_join top (turn ∷ path) more middle block (guard, (then, otherwise, (at, (allowed, way)))) rest =
    (guard, (then, otherwise, (at, (allowed, follows_join (chosen turn.side then otherwise) path more middle block way rest))))

-- one turn more
pub turn_more : (top : Entries) (path : List Turn) (block : Entries) (turn : Turn) (guard : Guard) (then otherwise : Entries) → LeadsToBlock top path block
    → slice_get (direct block) turn.entry ≡ Some (OfBranch guard then otherwise) → LeadsToBlock top (path ++ turn ∷ []) (chosen turn.side then otherwise)
turn_more top path block turn guard then otherwise way at =
    follows_join top path (turn ∷ []) block (chosen turn.side then otherwise) way (guard, (then, otherwise, (at, (tt, refl))))

-- a path ends in its last turn, or is empty
data Ended (path : List Turn) : Type 0 where
  empty : path ≡ [] → Ended path
  ended : (front : List Turn) (last : Turn) → path ≡ front ++ last ∷ [] → Ended path

end_of : (path : List Turn) → Ended path
end_of [] = empty refl
end_of (turn ∷ path) = by (end_of path)
  where
    by : Ended path → Ended (turn ∷ path)
    by (empty is) = ended [] turn (ap (λ p. turn ∷ p) is)
    by (ended front last is) = ended (turn ∷ front) last (ap (λ p. turn ∷ p) is)

last_same : (one other : List Turn) (x y : Turn) → one ++ x ∷ [] ≡ other ++ y ∷ [] → one ≡ other
last_same [] [] x y is = refl
last_same [] (b ∷ []) x y is = cc
last_same [] (b ∷ (c ∷ other)) x y is = cc
last_same (a ∷ []) [] x y is = cc
last_same (a ∷ (c ∷ one)) [] x y is = cc
last_same (a ∷ one) (b ∷ other) x y is =
    let first : a ≡ b = cc in
    let rest : one ++ x ∷ [] ≡ other ++ y ∷ [] = cc in
    ap (λ t. t ∷ one) first ∙ ap (λ p. b ∷ p) (last_same one other x y rest)

pub append_assoc_turns : (one other more : List Turn) → (one ++ other) ++ more ≡ one ++ (other ++ more)
append_assoc_turns [] other more = refl
append_assoc_turns (turn ∷ one) other more = ap (λ p. turn ∷ p) (append_assoc_turns one other more)

pub append_nil_turns : (path : List Turn) → path ++ [] ≡ path
append_nil_turns [] = refl
append_nil_turns (turn ∷ path) = ap (λ p. turn ∷ p) (append_nil_turns path)

-- where two paths make one with a last turn, the second is empty, or ends in it
pub two_parts : (base outer inner : List Turn) (turn : Turn) → base ++ turn ∷ [] ≡ outer ++ inner
    → (outer ≡ base ++ turn ∷ []) ⊎ ((front : List Turn) × (base ≡ outer ++ front))
two_parts base outer inner turn is = by (end_of inner)
  where
    by : Ended inner → (outer ≡ base ++ turn ∷ []) ⊎ ((front : List Turn) × (base ≡ outer ++ front))
    by (empty none) = inl (sym (append_nil_turns outer) ∙ (ap (λ p. outer ++ p) (sym none) ∙ sym is))
    by (ended front last same) =
        inr (front, last_same base (outer ++ front) turn last (is ∙ (ap (λ p. outer ++ p) same ∙ sym (append_assoc_turns outer front (last ∷ [])))))

pub none_before : (outer inner : List Turn) → [] ≡ outer ++ inner → outer ≡ []
none_before [] inner is = refl
none_before (turn ∷ outer) inner is = cc

pub length_more : (path : List Turn) (turn : Turn) → length (path ++ turn ∷ []) ≡ length path + 1
length_more [] turn = refl
length_more (first ∷ path) turn = let e = length_more path turn in omega (arith, e)
