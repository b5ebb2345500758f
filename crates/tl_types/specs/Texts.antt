-- Texts, in the forms in which they are kept.
use Rattle.std.specs.Prelude.{ℕ, List}
use Rattle.std.specs.String.{string_bytes}
use Rattle.tl_types.specs.declared.texts.Form.{Form}
use Rattle.tl_types.specs.declared.texts.Form.TheVariants.{Short, Long}

-- the bytes of a text in the form in which it is kept
abbrev pub bytes_of_form : Form → List ℕ
bytes_of_form (Short text) = text.bytes
bytes_of_form (Long text) = string_bytes text
