-- Names and values have one text each, and a text names one subject.
use Rattle.std.proofs.Common.{◌≡◌, ℕ, ℤ, pos, List, [], ◌∷◌, Some, slice_get, refl, sym, ap, ◌∙◌, subst, inl, inr, arith}
use Rattle.std.specs.List.{AllZip}
use Rattle.std.proofs.lemmas.Int.{ints}
use Rattle.eu_name.specs.declared.name.Part.TheVariants as parts
use Rattle.eu_name.specs.declared.name.TokenName.{TokenName}
use Rattle.eu_name.specs.declared.name.VarName.{VarName}
use Rattle.eu_name.specs.declared.name.VarName.TheVariants.{Global, Token, Local}
use Rattle.eu_name.specs.declared.name_text.NameText.{NameText}
use Rattle.eu_name.specs.Spelling.{name_spelling, Spells}
use Rattle.eu_name.proofs.Names.{spells_one_name}
use Rattle.model_core.specs.declared.class.Enum.{Enum}
use Rattle.model_core.specs.declared.class.Object.{Object}
use Rattle.model_core.specs.declared.decision.Decision.TheVariants as decisions
use Rattle.model_core.specs.declared.model.Model.{Model}
use Rattle.model_core.specs.declared.variable.ValueKind.{ValueKind}
use Rattle.model_core.specs.declared.variable.ValueKind.TheVariants as kinds
use Rattle.model_core.specs.Lawful.{IsLawful}
use Rattle.model_core.specs.Names.{NamesToken, NamesVariable, NamesGlobal}
use Rattle.model_core.proofs.Naming.{names_one_token, names_one_variable, names_what_there_is}
use Rattle.model_core.proofs.OneText.{one_token_text, one_variable_text}
use Rattle.model_core.proofs.WellFormed.{token_text_well_formed}
use Rattle.plan_text.specs.Values.{IsValueText}
use Rattle.eu_name.proofs.Members.{get_same}
use Rattle.db_history.specs.declared.subject.Subject.{Subject}
use Rattle.db_history.specs.declared.subject.Subject.TheVariants as subjects
use Rattle.plan_resolve.proofs.Naming.{one_name}
use Rattle.script_lang.specs.declared.command.Command.{Command}
use Rattle.script_lang.specs.declared.command.Command.TheVariants.{Reset, ResetOrder, Post, Relate, Withdraw, Unrelate}
use Rattle.script_lang.proofs.Asked.{asks_one}
use Rattle.session_replies.specs.Lines.{IsTokenWord, IsVariableWord}
use Rattle.session_core.specs.Replies.{AsksSubject}

-- lists of what each thing has are one, where each thing has one
pub zip_one : {X Y : Type 0} (Has : X → Y → Type 0) → ((x : X) (y z : Y) → Has x y → Has x z → y ≡ z)
    → (xs : List X) (ys zs : List Y) → AllZip Has xs ys → AllZip Has xs zs → ys ≡ zs
zip_one Has one [] [] [] p q = refl
zip_one Has one [] [] (z ∷ zs) p q = absurd q
zip_one Has one [] (y ∷ ys) zs p q = absurd p
zip_one Has one (x ∷ xs) [] zs p q = absurd p
zip_one Has one (x ∷ xs) (y ∷ ys) [] p q = absurd q
zip_one Has one (x ∷ xs) (y ∷ ys) (z ∷ zs) p q =
    let head = one x y z p.0 q.0 in
    let tail = zip_one Has one xs ys zs p.1 q.1 in
    λ i. head i ∷ tail i

module _ (model : Model) where
  -- ---- values

  pub value_text_one : (kind : ValueKind) (value : ℤ) (one other : List ℕ) → IsValueText model kind value one → IsValueText model kind value other → one ≡ other
  value_text_one kinds.Int value one other p q = p.1 ∙ sym q.1
  value_text_one kinds.Float value one other p q = p.1 ∙ sym q.1
  value_text_one kinds.Bool value one other (inl p) (inl q) = p.1 ∙ sym q.1
  value_text_one kinds.Bool value one other (inl p) (inr q) = let both = sym p.0 ∙ q.0 in absurd (omega (arith, ints, both))
  value_text_one kinds.Bool value one other (inr p) (inl q) = let both = sym p.0 ∙ q.0 in absurd (omega (arith, ints, both))
  value_text_one kinds.Bool value one other (inr p) (inr q) = p.1 ∙ sym q.1
  value_text_one (kinds.Enum number) value one other p q =
      let founds = get_same model.enums number p.found q.found p.is_enum q.is_enum in
      let both : pos p.place ≡ pos q.place = sym p.is_place ∙ q.is_place in
      let places : p.place ≡ q.place = cc in
      let first = subst (λ (e : Enum). slice_get e.members p.place ≡ Some one) founds p.is_member in
      get_same q.found.members q.place one other (subst (λ (n : ℕ). slice_get q.found.members n ≡ Some one) places first) q.is_member
  value_text_one kinds.Object value one other (object, ((number, at, is), named)) (object', ((number', at', is'), named')) =
      let both : pos number ≡ pos number' = sym at ∙ at' in
      let numbers : number ≡ number' = cc in
      let objects = get_same model.objects number' object object' (subst (λ (n : ℕ). slice_get model.objects n ≡ Some object) numbers is) is' in
      sym named ∙ (ap (λ (o : Object). o.name) objects ∙ named')

  -- ---- texts of names

  token_text_one : (token : TokenName) (one other : NameText) → NamesToken model one token → NamesToken model other token → one ≡ other
  token_text_one token one other p q =
      let text = one_token_text model token p.1.0 p.1.1.has_token in
      text.1.only one p ∙ sym (text.1.only other q)

  variable_text_one : (name : VarName) (one other : NameText) → NamesVariable model one name → NamesVariable model other name → one ≡ other
  variable_text_one name one other p q =
      let base = names_what_there_is model one name p in
      let text = one_variable_text model name base.0 base.1 in
      text.1.only one p ∙ sym (text.1.only other q)

  pub token_word_one : (token : TokenName) (one other : List ℕ) → IsTokenWord model token one → IsTokenWord model token other → one ≡ other
  token_word_one token one other (text, (spells, names)) (text', (spells', names')) =
      spells.1 ∙ (ap name_spelling (token_text_one token text text' names names') ∙ sym spells'.1)

  pub variable_word_one : (name : VarName) (one other : List ℕ) → IsVariableWord model name one → IsVariableWord model name other → one ≡ other
  variable_word_one name one other (text, (spells, names)) (text', (spells', names')) =
      spells.1 ∙ (ap name_spelling (variable_text_one name text text' names names') ∙ sym spells'.1)

  -- ---- what is taken out

  module _ (lawful : IsLawful model) where
    -- no text names both a global and a token
    not_both : (text : NameText) (number : ℕ) (token : TokenName) → NamesGlobal model text number → NamesToken model text token → ⊥
    not_both text number token global names =
        let spells : Spells (name_spelling text) text = (token_text_well_formed model text token lawful names, refl) in
        let same : Global number ≡ Token token parts.Start = one_name model (name_spelling text) (Global number) (Token token parts.Start) lawful names_one_token names_one_variable spells_one_name
        (record { text = text; spells = spells; names = global }) (record { text = text; spells = spells; names = names }) in
        cc

    not_both_named : (text : NameText) (name : VarName) (token : TokenName) → NamesVariable model text name → NamesToken model text token → ⊥
    not_both_named text (Global number) token p q = not_both text number token p q
    not_both_named text (Token other part) token p q = let tail = p.tail in let tail' = q.0 in cc
    not_both_named text (Local other rule number) token p q = let tail = p.tail in let tail' = q.0 in cc

    pub subject_one : (command : Command) (one other : Subject) → AsksSubject model command one → AsksSubject model command other → one ≡ other
    subject_one (Reset text) (subjects.Var name) (subjects.Var name') p q = ap subjects.Var (names_one_variable model text name name' lawful p q)
    subject_one (Reset text) (subjects.Var name) (subjects.Token token) p q = absurd (not_both_named text name token p q)
    subject_one (Reset text) (subjects.Var name) other p q = absurd q
    subject_one (Reset text) (subjects.Token token) (subjects.Var name) p q = absurd (not_both_named text name token q p)
    subject_one (Reset text) (subjects.Token token) (subjects.Token token') p q = ap subjects.Token (names_one_token model text token token' lawful p q)
    subject_one (Reset text) (subjects.Token token) other p q = absurd q
    subject_one (ResetOrder text after) (subjects.Order first second) (subjects.Order first' second') p q =
        let firsts = names_one_token model text first first' lawful p.0 q.0 in
        let seconds = names_one_token model after second second' lawful p.1 q.1 in
        λ i. subjects.Order (firsts i) (seconds i)
    subject_one (ResetOrder text after) (subjects.Order first second) other p q = absurd q
    subject_one (Withdraw kind arguments) (subjects.Constraint one given) (subjects.Constraint other given') p q =
        let same = asks_one model (Post kind arguments) (decisions.Constrain one given) (decisions.Constrain other given') lawful p q in
        let kinds : one ≡ other = cc in
        let lists : given ≡ given' = cc in
        λ i. subjects.Constraint (kinds i) (lists i)
    subject_one (Withdraw kind arguments) (subjects.Constraint one given) other p q = absurd q
    subject_one (Unrelate relation text after) (subjects.Relation one first second) (subjects.Relation other first' second') p q =
        let same = asks_one model (Relate relation text after) (decisions.Relate one first second) (decisions.Relate other first' second') lawful p q in
        let relations : one ≡ other = cc in
        let firsts : first ≡ first' = cc in
        let seconds : second ≡ second' = cc in
        λ i. subjects.Relation (relations i) (firsts i) (seconds i)
    subject_one (Unrelate relation text after) (subjects.Relation one first second) other p q = absurd q
    subject_one command one other p q = absurd p
