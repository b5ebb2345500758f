use Rattle.tl_record.proofs.RecordsRead.{told_ok, told_end, told_within, told_short, told_bad, told_place, told_found, told_cut, told_none}
use Rattle.tl_record.proofs.decoding.decode.Goals as goal

pub returns-clause-ok : goal.returns-clause-ok
returns-clause-ok c =
    told_ok c.args.at c.args.bytes.now c.read.result c.read.ensures

pub returns-clause-end : goal.returns-clause-end
returns-clause-end c =
    told_end c.args.at c.args.bytes.now c.read.result c.requires c.read.ensures

pub returns-clause-within : goal.returns-clause-within
returns-clause-within c =
    told_within c.args.at c.args.bytes.now c.read.result c.read.ensures

pub returns-clause-short : goal.returns-clause-short
returns-clause-short c =
    told_short c.args.at c.args.bytes.now c.read.result c.read.ensures

pub returns-clause-bad : goal.returns-clause-bad
returns-clause-bad c =
    told_bad c.args.at c.args.bytes.now c.read.result c.read.ensures

pub returns-clause-place : goal.returns-clause-place
returns-clause-place c =
    told_place c.args.at c.args.bytes.now c.read.result c.read.ensures

pub returns-clause-found : goal.returns-clause-found
returns-clause-found c =
    told_found c.args.at c.args.bytes.now c.read.result c.read.ensures

pub returns-clause-cut : goal.returns-clause-cut
returns-clause-cut c =
    told_cut c.args.at c.args.bytes.now c.read.result c.read.ensures

pub returns-clause-none : goal.returns-clause-none
returns-clause-none c =
    told_none c.args.at c.args.bytes.now c.read.result c.read.ensures
