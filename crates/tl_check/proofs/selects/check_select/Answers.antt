use Rattle.std.proofs.Common.{sym, ◌∙◌}
use Rattle.tl_check.specs.Known.{known}
use Rattle.tl_check.proofs.RangeLemmas.{select_version}
use Rattle.tl_check.proofs.selects.check_select.Goals as goal

pub version_of-requires-clause-reached : goal.version_of-requires-clause-reached
version_of-requires-clause-reached c = select_version c.args.times.now (known c.args.table) c.args.form.now (sym c.select_fault.ensures ∙ c.in-None-Some.is-0)
