-- What is said of the words of constraints and relations.
use Rattle.std.proofs.Common.{◌≡◌, ◌↔◌, ℕ, ◌<◌, Bool, true, false, List, [], ◌∷◌, ◌++◌, length, Some, None, Result, Ok, Err, IsTrue, refl, sym, ap, ◌∙◌, subst, append_assoc}
use Rattle.std.specs.Prelude.{All, IsOkAnd, MatchResult, IfOk, IfErr}
use Rattle.std.proofs.lemmas.Bool.{false≢true}
use Rattle.std.proofs.lemmas.List.{append-nil}
use Rattle.std.proofs.lemmas.List.Elements.{All-nil, All-cons, All-head, All-tail}
use Rattle.domain_core.specs.declared.kind.Kind.{Kind}
use Rattle.eu_name.specs.declared.name_text.NameText.{NameText}
use Rattle.eu_name.specs.Spelling.{Spells}
use Rattle.model_core.specs.declared.item.Rel.{Rel}
use Rattle.script_lang.specs.declared.command.LineFault.{LineFault}
use Rattle.script_lang.specs.declared.command.LineFault.TheVariants.{TooLong, Syntax, Memory}
use Rattle.script_lang.specs.KindWords.{constraint_word, constraint_named, relation_word, relation_named}
use Rattle.script_lang.specs.Line.{IsArgumentWord}
use Rattle.script_lang.specs.Operands.{Says, AreTwo, AreArguments, AreConstraint, AreRelation}
use Rattle.script_lang.proofs.Spelled.{constraint_found, constraint_missed, relation_found, relation_missed}

-- ---- words one after another

-- all of them are, if the first is and those behind it
pub all_behind : (P : List ℕ → Type 0) (words behind : List (List ℕ)) (word : List ℕ) → words ≡ word ∷ behind → P word → All P words ↔ All P behind
all_behind P words behind word are is =
    (λ all. All-tail P word behind (subst (All P) are all), λ all. subst (All P) (sym are) (All-cons P word behind is all))

pub all_first : (P : List ℕ → Type 0) (words behind : List (List ℕ)) (word : List ℕ) → words ≡ word ∷ behind → All P words → P word
all_first P words behind word are all = All-head P word behind (subst (All P) are all)

-- in a loop over words: one that can be no argument is enough
pub some_other : (all words behind : List (List ℕ)) (word : List ℕ) (answer : Bool) → words ≡ word ∷ behind → IsTrue answer ↔ IsArgumentWord word → answer ≡ false
    → All IsArgumentWord all ↔ All IsArgumentWord words → IsTrue false ↔ All IsArgumentWord all
some_other all words behind word answer are told fails holds =
    (λ passes. absurd (false≢true passes), λ fine. absurd (false≢true (sym fails ∙ told.1 (all_first IsArgumentWord words behind word are (holds.0 fine)))))

pub still_all : (all words behind : List (List ℕ)) (word : List ℕ) (answer : Bool) → words ≡ word ∷ behind → IsTrue answer ↔ IsArgumentWord word → answer ≡ true
    → All IsArgumentWord all ↔ All IsArgumentWord words → All IsArgumentWord all ↔ All IsArgumentWord behind
still_all all words behind word answer are told passes holds =
    let step = all_behind IsArgumentWord words behind word are (told.0 passes) in
    (λ fine. step.0 (holds.0 fine), λ fine. holds.1 (step.1 fine))

pub all_there : (all words : List (List ℕ)) → words ≡ [] → All IsArgumentWord all ↔ All IsArgumentWord words → IsTrue true ↔ All IsArgumentWord all
all_there all words none holds = (λ passes. holds.1 (subst (All IsArgumentWord) (sym none) (All-nil IsArgumentWord)), λ fine. refl)

-- the texts of the words so far, and one more
pub record IsKept (all texts rest : List (List ℕ)) : Type 0 where
  pub parts : all ≡ texts ++ rest
  pub fine : All IsArgumentWord rest

pub kept_next : (all texts more words behind : List (List ℕ)) (word text : List ℕ) → words ≡ word ∷ behind → text ≡ word → more ≡ texts ++ text ∷ [] → all ≡ texts ++ words → All IsArgumentWord words → IsKept all more behind
kept_next all texts more words behind word text are same pushed parts fine = record {
  parts = parts ∙ (ap (λ (ws : List (List ℕ)). texts ++ ws) are ∙ (sym (append_assoc texts (word ∷ []) behind)
      ∙ ap (λ (ws : List (List ℕ)). ws ++ behind) (ap (λ (w : List ℕ). texts ++ w ∷ []) (sym same) ∙ sym pushed)));
  fine = All-tail IsArgumentWord word behind (subst (All IsArgumentWord) are fine);
}

pub kept_all : (all texts rest : List (List ℕ)) → rest ≡ [] → all ≡ texts ++ rest → texts ≡ all
kept_all all texts rest none parts = sym (parts ∙ (ap (λ (ws : List (List ℕ)). texts ++ ws) none ∙ append-nil texts))

-- ---- arguments

pub no_arguments : (words found : List (List ℕ)) (answer : Bool) → IsTrue answer ↔ ((0 < length words) × All IsArgumentWord words) → answer ≡ false → AreArguments words found → ⊥
no_arguments words found answer told fails (same, some, fine) =
    false≢true (sym fails ∙ told.1 (subst (λ (ws : List (List ℕ)). 0 < length ws) (sym same) some, subst (All IsArgumentWord) (sym same) fine))

pub arguments_kept : (words : List (List ℕ)) (result : Result (List (List ℕ)) LineFault) → 0 < length words → All IsArgumentWord words → IfOk result (λ texts. texts ≡ words) → IfErr result (λ fault. fault ≡ Memory)
    → Says (AreArguments words) result
arguments_kept words (Ok texts) some fine same fault =
    let back : words ≡ texts = sym same in
    (back, subst (λ (ws : List (List ℕ)). 0 < length ws) back some, subst (All IsArgumentWord) back fine)
arguments_kept words (Err fault) some fine same memory = subst (λ (f : LineFault). Says (AreArguments words) (Err f)) (sym memory) (words, (refl, some, fine))

-- ---- constraints

constraint_there : (words behind : List (List ℕ)) (word : List ℕ) (kind : Kind) (found : List (List ℕ)) → words ≡ word ∷ behind → constraint_named word ≡ Some kind → AreArguments behind found → AreConstraint words (kind, found)
constraint_there words behind word kind found are named (same, some, fine) =
    let is = constraint_found word kind named in
    (are ∙ (ap (λ (w : List ℕ). w ∷ behind) (sym is.0) ∙ ap (λ (ws : List (List ℕ)). constraint_word kind ∷ ws) same), is.1, some, fine)

arguments_there : (words behind : List (List ℕ)) (word : List ℕ) (found : Kind × List (List ℕ)) → words ≡ word ∷ behind → AreConstraint words found → AreArguments behind found.1
arguments_there words behind word found are (is, posted, some, fine) =
    let both : word ∷ behind ≡ constraint_word found.0 ∷ found.1 = sym are ∙ is in
    let back : behind ≡ found.1 = cc in
    (back, some, fine)

pub no_constraint : (words : List (List ℕ)) (found : Kind × List (List ℕ)) → words ≡ [] → AreConstraint words found → ⊥
no_constraint words found none (is, posted, some, fine) = let both : [] ≡ constraint_word found.0 ∷ found.1 = sym none ∙ is in cc

pub other_constraint : (words behind : List (List ℕ)) (word : List ℕ) (found : Kind × List (List ℕ)) → words ≡ word ∷ behind → constraint_named word ≡ None → AreConstraint words found → ⊥
other_constraint words behind word found are none (is, posted, some, fine) =
    let both : word ∷ behind ≡ constraint_word found.0 ∷ found.1 = sym are ∙ is in
    let front : word ≡ constraint_word found.0 = cc in
    constraint_missed word found.0 none posted front

module _ (words behind : List (List ℕ)) (word : List ℕ) (kind : Kind) (Post : List (List ℕ) → Kind × List (List ℕ) → Type 0)
    (gives : (found : List (List ℕ)) (pair : Kind × List (List ℕ)) → Post found pair → pair ≡ (kind, found)) (are : words ≡ word ∷ behind) (named : constraint_named word ≡ Some kind) where
  faulty_constraint : (fault : LineFault) → Says (AreArguments behind) (Err fault) → Says (AreConstraint words) (Err fault)
  faulty_constraint TooLong says = says
  faulty_constraint Syntax says = λ found is. says found.1 (arguments_there words behind word found are is)
  faulty_constraint Memory says = ((kind, says.0), constraint_there words behind word kind says.0 are named says.1)

  pub posting_said : (said : Result (List (List ℕ)) LineFault) (result : Result (Kind × List (List ℕ)) LineFault) → Says (AreArguments behind) said
      → MatchResult said (λ found. IsOkAnd result (Post found)) (λ fault. result ≡ Err fault) → Says (AreConstraint words) result
  posting_said (Ok found) (Ok pair) says post = subst (AreConstraint words) (sym (gives found pair post)) (constraint_there words behind word kind found are named says)
  posting_said (Ok found) (Err fault) says post = absurd post
  posting_said (Err fault) result says same = subst (Says (AreConstraint words)) (sym same) (faulty_constraint fault says)

-- ---- relations

relation_there : (words behind : List (List ℕ)) (word : List ℕ) (relation : Rel) (names : NameText × NameText) → words ≡ word ∷ behind → relation_named word ≡ Some relation → AreTwo Spells Spells behind names
    → AreRelation words (relation, names)
relation_there words behind word relation names are named (first, (second, (same, one, other))) =
    let is = relation_found word relation named in
    (first, (second, (are ∙ (ap (λ (w : List ℕ). w ∷ behind) (sym is) ∙ ap (λ (ws : List (List ℕ)). relation_word relation ∷ ws) same), one, other)))

names_there : (words behind : List (List ℕ)) (word : List ℕ) (found : Rel × (NameText × NameText)) → words ≡ word ∷ behind → AreRelation words found → AreTwo Spells Spells behind found.1
names_there words behind word found are (first, (second, (is, one, other))) =
    let both : word ∷ behind ≡ relation_word found.0 ∷ (first ∷ (second ∷ [])) = sym are ∙ is in
    let back : behind ≡ first ∷ (second ∷ []) = cc in
    (first, (second, (back, one, other)))

pub no_relation : (words : List (List ℕ)) (found : Rel × (NameText × NameText)) → words ≡ [] → AreRelation words found → ⊥
no_relation words found none (first, (second, (is, one, other))) = let both : [] ≡ relation_word found.0 ∷ (first ∷ (second ∷ [])) = sym none ∙ is in cc

pub other_relation : (words behind : List (List ℕ)) (word : List ℕ) (found : Rel × (NameText × NameText)) → words ≡ word ∷ behind → relation_named word ≡ None → AreRelation words found → ⊥
other_relation words behind word found are none (first, (second, (is, one, other))) =
    let both : word ∷ behind ≡ relation_word found.0 ∷ (first ∷ (second ∷ [])) = sym are ∙ is in
    let front : word ≡ relation_word found.0 = cc in
    relation_missed word found.0 none front

module _ (words behind : List (List ℕ)) (word : List ℕ) (relation : Rel) (Post : NameText × NameText → Rel × (NameText × NameText) → Type 0)
    (gives : (names : NameText × NameText) (pair : Rel × (NameText × NameText)) → Post names pair → pair ≡ (relation, names)) (are : words ≡ word ∷ behind) (named : relation_named word ≡ Some relation) where
  faulty_relation : (fault : LineFault) → Says (AreTwo Spells Spells behind) (Err fault) → Says (AreRelation words) (Err fault)
  faulty_relation TooLong says = says
  faulty_relation Syntax says = λ found is. says found.1 (names_there words behind word found are is)
  faulty_relation Memory says = ((relation, says.0), relation_there words behind word relation says.0 are named says.1)

  pub relating_said : (said : Result (NameText × NameText) LineFault) (result : Result (Rel × (NameText × NameText)) LineFault) → Says (AreTwo Spells Spells behind) said
      → MatchResult said (λ names. IsOkAnd result (Post names)) (λ fault. result ≡ Err fault) → Says (AreRelation words) result
  relating_said (Ok names) (Ok pair) says post = subst (AreRelation words) (sym (gives names pair post)) (relation_there words behind word relation names are named says)
  relating_said (Ok names) (Err fault) says post = absurd post
  relating_said (Err fault) result says same = subst (Says (AreRelation words)) (sym same) (faulty_relation fault says)
