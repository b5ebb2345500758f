use Rattle.tl_types.proofs.KeywordLemmas.{of_its_length}
use Rattle.tl_types.proofs.keywords.Keyword.of.Goals as goal

pub returns : goal.returns
returns c = of_its_length c.args.word.now _ _ c.of_length.ensures c.spelled_so.ensures
