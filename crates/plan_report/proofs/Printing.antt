-- What is printed is printed in one way.
use Rattle.std.proofs.Common.{◌≡◌, ℕ, Bool, List, ◌++◌, Result, Ok, Err, refl, sym, ◌∙◌, ap, subst, codes}
use Rattle.std.specs.Fmt.{decimal, signed_decimal}
use Rattle.eu_name.specs.declared.name.Part.TheVariants.{Start}
use Rattle.eu_name.specs.declared.name.TokenName.{TokenName}
use Rattle.eu_name.specs.declared.name.VarName.{VarName}
use Rattle.eu_name.specs.declared.name.VarName.TheVariants as variables
use Rattle.eu_name.specs.declared.name_text.NameText.{NameText}
use Rattle.eu_name.specs.Spelling.{name_spelling}
use Rattle.eu_name.proofs.Members.{get_same}
use Rattle.model_core.specs.declared.class.Object as classes
use Rattle.model_core.specs.declared.model.Model.{Model}
use Rattle.model_core.specs.Lawful.{IsLawful}
use Rattle.model_core.specs.Names.{IsOnly, NamesToken, NamesVariable}
use Rattle.model_core.specs.Tokens.{slot_token, root_token}
use Rattle.model_core.proofs.OneText.{one_token_text, one_variable_text}
use Rattle.plan_text.specs.declared.fault.PlanTextFault.{PlanTextFault}
use Rattle.plan_text.specs.declared.fault.PlanTextFault.TheVariants.{Syntax, Twice, Unknown, Memory}
use Rattle.plan_text.specs.Subjects.{NamesSubject, IsNameOf}
use Rattle.plan_defs.specs.declared.plan.Clause.{Clause}
use Rattle.plan_defs.specs.declared.plan.Line.{Line}
use Rattle.plan_defs.specs.declared.plan.Place.{Place}
use Rattle.plan_defs.specs.declared.plan.Place.TheVariants as places
use Rattle.plan_defs.specs.declared.plan.Plan.{Plan}
use Rattle.plan_defs.specs.Plans.{order_name}
use Rattle.plan_defs.proofs.Breaking.{first_is_one}
use Rattle.plan_check.specs.declared.verdict.Verdict.{Verdict}
use Rattle.plan_check.specs.declared.verdict.Verdict.TheVariants.{Valid, Invalid}
use Rattle.plan_check.specs.Judged.{IsVerdict}
use Rattle.plan_core.specs.Laws.{IsReadOnce}
use Rattle.plan_report.specs.Naming.{IsLineWord, IsPlaceText}
use Rattle.plan_report.specs.Verdicts.{clause_word, says_valid, IsVerdictText, IsFaultText, IsCheckedAs, IsAnsweredAs, ChecksAs}
use Rattle.plan_report.proofs.Placing.{same_activated}

-- ---- names

same_only : (Names : NameText → Type 0) (found : (text : NameText) × IsOnly Names text) (one other : NameText) → Names one → Names other → one ≡ other
same_only Names found one other p q = found.1.only one p ∙ sym (found.1.only other q)

same_text : (model : Model) (name : VarName) (one other : NameText) → NamesSubject model one name → NamesSubject model other name → one ≡ other
same_text model (variables.Global number) one other p q =
    same_only (λ (named : NameText). NamesVariable model named (variables.Global number)) (one_variable_text model (variables.Global number) p.variable.base (p.variable, p.is_global, refl)) one other p q
same_text model (variables.Token token Start) one other p q = same_only (λ (named : NameText). NamesToken model named token) (one_token_text model token p.1.0 p.1.1.has_token) one other p q
same_text model (variables.Token token part) one other p q = absurd p
same_text model (variables.Local token rule number) one other p q =
    same_only (λ (named : NameText). NamesVariable model named (variables.Local token rule number)) (one_variable_text model (variables.Local token rule number) p.variable.base
    (record { slot = p.slot; has_token = p.leads.has_token; variable = p.variable; has_local = p.has_local; is_base = refl })) one other p q

one_name : (model : Model) (name : VarName) (one other : List ℕ) → IsNameOf model name one → IsNameOf model name other → one ≡ other
one_name model name one other p q =
    p.spells.1 ∙ (ap name_spelling (same_text model name p.text q.text p.names q.names) ∙ sym q.spells.1)

one_line_word : (model : Model) (plan : Plan) (line : ℕ) (one other : List ℕ) → IsLineWord model plan line one → IsLineWord model plan line other → one ≡ other
one_line_word model plan line one other (said, (at, named)) (said', (at', named')) =
    one_name model (order_name said') one other (subst (λ (l : Line). IsNameOf model (order_name l) one) (get_same plan.lines line said said' at at') named) named'

-- ---- places

one_place_text : (model : Model) (plan : Plan) (place : Place) (one other : List ℕ) → IsPlaceText model plan place one → IsPlaceText model plan place other → one ≡ other
one_place_text model plan (places.Global number) one other p q = one_name model (variables.Global number) one other p q
one_place_text model plan (places.Root number) one other p q = one_name model (variables.Token (root_token number) Start) one other p q
one_place_text model plan (places.Line line) one other p q = one_line_word model plan line one other p q
one_place_text model plan (places.Slot line rule slot) one other (token, (act, named)) (token', (act', named')) =
    one_name model (variables.Token (slot_token token' rule slot) Start) one other
    (subst (λ (t : TokenName). IsNameOf model (variables.Token (slot_token t rule slot) Start) one) (same_activated plan line token token' act act') named) named'
one_place_text model plan (places.Local line rule number) one other (token, (act, named)) (token', (act', named')) =
    one_name model (variables.Local token' rule number) one other
    (subst (λ (t : TokenName). IsNameOf model (variables.Local t rule number) one) (same_activated plan line token token' act act') named) named'
one_place_text model plan (places.Problem item) one other p q = p ∙ sym q
one_place_text model plan (places.Item line rule item) one other (word, (named, whole)) (word', (named', whole')) =
    whole ∙ (ap (λ (w : List ℕ). w ++ (codes "/" ++ (decimal rule ++ (codes " " ++ decimal item)))) (one_line_word model plan line word word' named named') ∙ sym whole')
one_place_text model plan (places.Pair first second) one other (word, (named, (next, (next_named, whole)))) (word', (named', (next', (next_named', whole')))) =
    whole ∙ (ap (λ (w : List ℕ). w ++ (codes " " ++ next)) (one_line_word model plan first word word' named named')
    ∙ (ap (λ (w : List ℕ). word' ++ (codes " " ++ w)) (one_line_word model plan second next next' next_named next_named') ∙ sym whole'))
one_place_text model plan (places.Instant number at) one other (object, (stands, whole)) (object', (stands', whole')) =
    whole ∙ (ap (λ (o : classes.Object). o.name ++ (codes " " ++ signed_decimal at)) (get_same model.objects number object object' stands stands') ∙ sym whole')

-- ---- verdicts

one_verdict : (model : Model) (plan : Plan) (one other : Verdict) → IsVerdict model plan one → IsVerdict model plan other → one ≡ other
one_verdict model plan Valid Valid p q = refl
one_verdict model plan Valid (Invalid clause place) p q = absurd (q.here.broken (p clause place))
one_verdict model plan (Invalid clause place) Valid p q = absurd (p.here.broken (q clause place))
one_verdict model plan (Invalid clause place) (Invalid clause' place') p q =
    let same = first_is_one model plan clause clause' place place' p q in
    ap (λ (c : Clause). Invalid c place) same.0 ∙ ap (λ (w : Place). Invalid clause' w) same.1

one_verdict_text : (model : Model) (plan : Plan) (verdict : Verdict) (one other : List ℕ) → IsVerdictText model plan verdict one → IsVerdictText model plan verdict other → one ≡ other
one_verdict_text model plan Valid one other p q = p ∙ sym q
one_verdict_text model plan (Invalid clause place) one other (names, (named, whole)) (names', (named', whole')) =
    whole ∙ (ap (λ (w : List ℕ). codes "invalid " ++ (clause_word clause ++ (codes " " ++ w))) (one_place_text model plan place names names' named named') ∙ sym whole')

one_check : (model : Model) (plan : Plan) (one other : List ℕ) (one_valid other_valid : Bool) → IsCheckedAs model plan one one_valid → IsCheckedAs model plan other other_valid
    → (one ≡ other) × (one_valid ≡ other_valid)
one_check model plan one other one_valid other_valid p q =
    let same = one_verdict model plan p.verdict q.verdict p.is_verdict q.is_verdict in
    let texts = one_verdict_text model plan q.verdict p.text q.text (subst (λ (v : Verdict). IsVerdictText model plan v p.text) same p.is_text) q.is_text in
    (p.whole ∙ (ap (λ (w : List ℕ). w ++ codes "\n") texts ∙ sym q.whole), p.says ∙ (ap says_valid same ∙ sym q.says))

-- ---- faults

one_fault_text : (fault : PlanTextFault) (one other : List ℕ) → IsFaultText fault one → IsFaultText fault other → one ≡ other
one_fault_text (Syntax at) one other p q = p ∙ sym q
one_fault_text (Twice at) one other p q = p ∙ sym q
one_fault_text (Unknown at) one other p q = p ∙ sym q
one_fault_text Memory one other p q = absurd p

one_answer : (model : Model) (read : Result Plan PlanTextFault) (one other : List ℕ) (one_valid other_valid : Bool) → IsAnsweredAs model read one one_valid → IsAnsweredAs model read other other_valid
    → (one ≡ other) × (one_valid ≡ other_valid)
one_answer model (Ok plan) one other one_valid other_valid p q = one_check model plan one other one_valid other_valid p q
one_answer model (Err fault) one other one_valid other_valid ((text, (is, whole)), valid) ((text', (is', whole')), valid') =
    (whole ∙ (ap (λ (w : List ℕ). w ++ codes "\n") (one_fault_text fault text text' is is') ∙ sym whole'), valid ∙ sym valid')

-- what is answered was read
not_lost : (model : Model) (read : Result Plan PlanTextFault) (reply : List ℕ) (is_valid : Bool) → IsAnsweredAs model read reply is_valid → read ≡ Err Memory → ⊥
not_lost model read reply is_valid answered lost = (subst (λ (r : Result Plan PlanTextFault). IsAnsweredAs model r reply is_valid) lost answered).0.1.0

pub checked_once : IsReadOnce → (model : Model) (text one other : List ℕ) (one_valid other_valid : Bool) → IsLawful model → ChecksAs model text one one_valid → ChecksAs model text other other_valid
    → (one ≡ other) × (one_valid ≡ other_valid)
checked_once read_once model text one other one_valid other_valid lawful (read, (reads, answered)) (read', (reads', answered')) =
    let same = read_once model text read read' lawful reads reads' (not_lost model read one one_valid answered) (not_lost model read' other other_valid answered') in
    one_answer model read' one other one_valid other_valid (subst (λ (r : Result Plan PlanTextFault). IsAnsweredAs model r one one_valid) same answered) answered'
