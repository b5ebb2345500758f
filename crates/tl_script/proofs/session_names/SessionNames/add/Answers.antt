use Rattle.std.proofs.Common.{map, ap, ◌∙◌}
use Rattle.std.specs.String.{string_bytes}
use Rattle.tl_script.specs.Phases.{with_name}
use Rattle.tl_script.proofs.NameLemmas.{names_with_one}
use Rattle.tl_script.proofs.session_names.SessionNames.add.Goals as goal

pub returns-clause-added : goal.returns-clause-added
returns-clause-added c =
    let set = c.self.inside.names in
    let text = c.in_ok-from_str.field-0 in
    ap (map string_bytes) c.in_ok-insert.ensures.keys
    ∙ (names_with_one string_bytes set.keys text
    ∙ (ap (with_name (map string_bytes set.keys)) c.in_ok-from_str.ensures.ok
    ∙ ap (λ names. with_name names c.args.name.now) c.self.view_is))
