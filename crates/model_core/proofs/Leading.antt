-- To which token a name leads.
use Rattle.std.proofs.Common.{◌≡◌, ℕ, List, [], ◌∷◌, get_or, refl, sym, ◌∙◌, ap, subst}
use Rattle.eu_name.specs.declared.name.Step.{Step}
use Rattle.eu_name.specs.declared.name.TokenName.{TokenName}
use Rattle.eu_name.specs.declared.name_text.NameText.{NameText}
use Rattle.model_core.specs.declared.model.Model.{Model}
use Rattle.model_core.specs.declared.model.Root.{Root}
use Rattle.model_core.specs.declared.rule.Slot.{Slot}
use Rattle.model_core.specs.Lawful.{IsLawful}
use Rattle.model_core.specs.Lookup.{LeadsOn}
use Rattle.model_core.specs.Names.{LeadsToToken, token_at}
use Rattle.model_core.specs.Tokens.{HasToken, Reaches, IsRoot, slot_of}
use Rattle.model_core.proofs.Distinct.{root_once}
use Rattle.model_core.proofs.Items.{item_is}
use Rattle.model_core.proofs.Rules.{leads_once}

-- to reach a slot is to lead on to its predicate
pub reaches_on : (model : Model) (slot last : Slot) (steps : List Step) → Reaches model slot steps last → LeadsOn model slot.pred steps last.pred
reaches_on model slot last [] reached = ap (λ (s : Slot). s.pred) reached
reaches_on model slot last (step ∷ steps) (next, leads, reached) = (next, leads, reaches_on model next last steps reached)

pub on_reaches : (model : Model) (slot : Slot) (pred : ℕ) (steps : List Step) → LeadsOn model slot.pred steps pred → (last : Slot) × Reaches model slot steps last × (last.pred ≡ pred)
on_reaches model slot pred [] on = (slot, refl, sym on)
on_reaches model slot pred (step ∷ steps) (next, leads, on) =
    let rest = on_reaches model next pred steps on in
    (rest.0, (next, leads, rest.1), rest.2)

-- the root with the label, and the steps from it
pub leads_there : (model : Model) (text : NameText) (number pred : ℕ) (root : Root) → IsRoot model number root → root.label ≡ text.label → LeadsOn model root.pred text.steps pred
    → (slot : Slot) × LeadsToToken model text (token_at number text.steps) slot × (slot.pred ≡ pred)
leads_there model text number pred root is_root label on =
    let last = on_reaches model (slot_of root) pred text.steps on in
    (last.0, record { root = root; is_root = is_root; label = label; steps = refl; has_token = record { root = root; is_root = is_root; reached = last.1 } }, last.2)

-- a name leads to a token of the one root with its label
leads_from : (model : Model) (text : NameText) (number : ℕ) (root : Root) (token : TokenName) (slot : Slot) → IsLawful model → IsRoot model number root → root.label ≡ text.label
    → LeadsToToken model text token slot → (token.root ≡ number) × Reaches model (slot_of root) text.steps slot
leads_from model text number root token slot lawful is_root label leads =
    let same : token.root ≡ number = root_once model token.root number leads.root root lawful leads.is_root is_root (leads.label ∙ sym label) in
    let roots : leads.has_token.root ≡ root = cc in
    let reached = subst (λ (r : Root). Reaches model (slot_of r) token.steps slot) roots leads.has_token.reached in
    (same, subst (λ (steps : List Step). Reaches model (slot_of root) steps slot) leads.steps reached)

pub leads_not : (model : Model) (text : NameText) (number : ℕ) (root : Root) → IsLawful model → IsRoot model number root → root.label ≡ text.label
    → ((pred : ℕ) → LeadsOn model root.pred text.steps pred → ⊥) → (token : TokenName) (slot : Slot) → LeadsToToken model text token slot → ⊥
leads_not model text number root lawful is_root label none token slot leads =
    none slot.pred (reaches_on model (slot_of root) slot text.steps (leads_from model text number root token slot lawful is_root label leads).1)

-- what the code finds: the root by its label, and where the steps lead from its predicate
pub found_root : (model : Model) (number : ℕ) (items : List Root) (d root : Root) → items ≡ model.problem.roots → IsRoot model number root → (get_or items number d).pred ≡ root.pred
found_root model number items d root same is_root =
    ap (λ (r : Root). r.pred) (ap (λ (xs : List Root). get_or xs number d) same ∙ item_is model.problem.roots number d root is_root)

pub found_there : (model : Model) (text : NameText) (number pred : ℕ) (items : List Root) (d : Root) (label : List ℕ) (steps : List Step)
    → items ≡ model.problem.roots → label ≡ text.label → steps ≡ text.steps → (root : Root) × IsRoot model number root × (root.label ≡ label)
    → LeadsOn model (get_or items number d).pred steps pred → (slot : Slot) × LeadsToToken model text (token_at number text.steps) slot × (slot.pred ≡ pred)
found_there model text number pred items d label steps same_items same_label same_steps (root, is_root, labelled) on =
    let first = subst (λ (n : ℕ). LeadsOn model n steps pred) (found_root model number items d root same_items is_root) on in
    leads_there model text number pred root is_root (labelled ∙ same_label) (subst (λ (xs : List Step). LeadsOn model root.pred xs pred) same_steps first)

pub found_not : (model : Model) (text : NameText) (number : ℕ) (items : List Root) (d : Root) (label : List ℕ) (steps : List Step) → IsLawful model
    → items ≡ model.problem.roots → label ≡ text.label → steps ≡ text.steps → (root : Root) × IsRoot model number root × (root.label ≡ label)
    → ((pred : ℕ) → LeadsOn model (get_or items number d).pred steps pred → ⊥) → (token : TokenName) (slot : Slot) → LeadsToToken model text token slot → ⊥
found_not model text number items d label steps lawful same_items same_label same_steps (root, is_root, labelled) none =
    leads_not model text number root lawful is_root (labelled ∙ same_label) (λ pred on.
    let back = subst (λ (xs : List Step). LeadsOn model root.pred xs pred) (sym same_steps) on in
    none pred (subst (λ (n : ℕ). LeadsOn model n steps pred) (sym (found_root model number items d root same_items is_root)) back))

-- ---- to one token

reaches_once : (model : Model) (slot one other : Slot) (steps : List Step) → Reaches model slot steps one → Reaches model slot steps other → one ≡ other
reaches_once model slot one other [] first second = first ∙ sym second
reaches_once model slot one other (step ∷ steps) (next, leads, reached) (next', leads', reached') =
    let same : next' ≡ next = leads_once model slot.pred step next' next leads' leads in
    reaches_once model next one other steps reached (subst (λ (s : Slot). Reaches model s steps other) same reached')

pub leads_one : (model : Model) (text : NameText) (one other : TokenName) (slot slot' : Slot) → IsLawful model → LeadsToToken model text one slot → LeadsToToken model text other slot'
    → (one ≡ other) × (slot ≡ slot')
leads_one model text one other slot slot' lawful first second =
    let here = leads_from model text other.root second.root one slot lawful second.is_root second.label first in
    let there = leads_from model text other.root second.root other slot' lawful second.is_root second.label second in
    let roots : one.root ≡ other.root = here.0 in
    let steps : one.steps ≡ other.steps = first.steps ∙ sym second.steps in
    (λ i. record { root = roots i; steps = steps i }, reaches_once model (slot_of second.root) slot slot' text.steps here.1 there.1)

-- ---- from a token that the model has

-- it is of one predicate, and on the objects of one slot
pub token_once : (model : Model) (token : TokenName) (one other : Slot) → HasToken model token one → HasToken model token other → one ≡ other
token_once model token one other first second =
    let roots : second.root ≡ first.root = cc in
    reaches_once model (slot_of first.root) one other token.steps first.reached (subst (λ (r : Root). Reaches model (slot_of r) token.steps other) roots second.reached)

-- what the code finds at the token's root leads on to the token's predicate
pub token_on : (model : Model) (token : TokenName) (slot : Slot) (items : List Root) (found : Root) (steps : List Step) → HasToken model token slot
    → items ≡ model.problem.roots → found ≡ get_or items token.root found → steps ≡ token.steps → LeadsOn model found.pred steps slot.pred
token_on model token slot items found steps has same_items is same_steps =
    let preds : found.pred ≡ has.root.pred = ap (λ (r : Root). r.pred) is ∙ found_root model token.root items found has.root same_items has.is_root in
    let on = subst (λ (n : ℕ). LeadsOn model n token.steps slot.pred) (sym preds) (reaches_on model (slot_of has.root) slot token.steps has.reached) in
    subst (λ (xs : List Step). LeadsOn model found.pred xs slot.pred) (sym same_steps) on

pub on_once : (model : Model) (pred one other : ℕ) (steps : List Step) → LeadsOn model pred steps one → LeadsOn model pred steps other → one ≡ other
on_once model pred one other [] first second = first ∙ sym second
on_once model pred one other (step ∷ steps) (next, leads, on) (next', leads', on') =
    let same : next'.pred ≡ next.pred = ap (λ (s : Slot). s.pred) (leads_once model pred step next' next leads' leads) in
    on_once model next.pred one other steps on (subst (λ (n : ℕ). LeadsOn model n steps other) same on')
