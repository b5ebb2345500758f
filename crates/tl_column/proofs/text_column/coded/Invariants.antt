use Rattle.std.proofs.Common.{◌≡◌, take, fold}
use Rattle.tl_column.specs.Dictionary.{with_text, texts_of, AreCodes, lent_texts, KnowsCodes}
use Rattle.tl_column.proofs.text_column.coded.Given as goal

abbrev pub invariant-coding : goal.invariant-coding
invariant-coding l = record {
  dictionary : l.dictionary ≡ fold with_text l.fn.dictionary (lent_texts (take l.cell-index l.cells));
  cells : texts_of l.dictionary l.codes.items ≡ lent_texts (take l.cell-index l.cells);
  valid : AreCodes l.dictionary l.codes.items;
  known : KnowsCodes l.dictionary l.known;
}
