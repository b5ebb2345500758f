use Rattle.std.proofs.Common.{ℕ, List, position, ap, ◌∙◌}
use Rattle.std.specs.String.{string_bytes}
use Rattle.tl_types.specs.Names.{same_bytes}
use Rattle.tl_script.proofs.NameLemmas.{place_of_text}
use Rattle.tl_script.proofs.session_names.SessionNames.place_of.Goals as goal

pub returns : goal.returns
returns c = c.get_index_of.ensures.index ∙ (place_of_text string_bytes c.self.inside.names.keys c.args.name.now ∙ ap (position {X = List ℕ} (λ known. same_bytes known c.args.name.now)) c.self.view_is)
