-- The form of a script.
use Rattle.std.specs.Prelude.{ℕ, nat_eq, Option, Some, option_map, if◌then◌else◌}
use Rattle.serde_json.specs.Data.{Data}
use Rattle.dq_script.specs.Parts.{number_of}
use Rattle.dq_script.specs.declared.form.Form.{Form}
use Rattle.dq_script.specs.declared.form.Form.TheVariants.{First, Second}

abbrev pub form_at : ℕ → Form
form_at n = if nat_eq n 1 then First else Second

-- the whole number 1 or 2
abbrev pub form_of : Data → Option Form
form_of d = option_map form_at (number_of 1 2 d)
