use Rattle.std.proofs.Common.{map, take, ap, sym, ◌∙◌}
use Rattle.std.specs.String.{string_bytes}
use Rattle.std.proofs.lemmas.List.{take-map}
use Rattle.tl_script.proofs.session_names.SessionNames.truncate.Goals as goal

pub returns : goal.returns
returns c = ap (map string_bytes) c.truncate.ensures.keys ∙ (sym (take-map string_bytes c.args.count c.self.inside.names.keys) ∙ ap (take c.args.count) c.self.view_is)
