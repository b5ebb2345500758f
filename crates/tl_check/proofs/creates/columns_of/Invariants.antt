use Rattle.std.proofs.Common.{◌≡◌, take}
use Rattle.tl_query.specs.Checking.{columns_of}
use Rattle.tl_check.proofs.creates.columns_of.Given as goal

abbrev pub invariant-loop-form : goal.invariant-loop-form
invariant-loop-form l = l.columns.items ≡ columns_of (take l.form-index l.forms)
