-- Of which form names are.
use Rattle.std.specs.Prelude.{ℕ, List, Contains}
use Rattle.eu_name.specs.Word.{IsName}
use Rattle.model_core.specs.Naming.{IsParameterName, builtin_names}
use Rattle.model_rules.specs.declared.forms.Form.{Form}
use Rattle.model_rules.specs.declared.forms.Form.TheVariants.{Plain, Own, Parameter}

-- the name is of the form
abbrev pub HasForm : Form → List ℕ → Type 0
HasForm Plain name = IsName name
HasForm Own name = Contains builtin_names name → ⊥
HasForm Parameter name = IsParameterName name
