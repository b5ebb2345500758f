use Rattle.std.proofs.Common.{sym, ◌∙◌}
use Rattle.tl_watch.proofs.GatherLemmas.{none_numbered, none_gathered}
use Rattle.tl_watch.proofs.gathering.Gathering.none.Goals as goal

pub returns : goal.returns
returns c = λ plan is.
    none_gathered plan (record { kind = c.args.kind; state = record { all = c.none.result; groups = c.new.result.items }; keys = c.none-2.result }) (sym is) (c.none.ensures.kind ∙ sym is) c.none.ensures.stands c.new.ensures.items
    (none_numbered c.none-2.result c.new.result.items c.none-2.ensures.none c.none-2.ensures.apart c.new.ensures.items)
