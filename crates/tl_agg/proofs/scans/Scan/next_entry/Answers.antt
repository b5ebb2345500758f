use Rattle.std.proofs.Common.{◌≡◌, Some, ap, arith, subst, slice_get}
use Rattle.std.proofs.lemmas.Option.{slice_get_within}
use Rattle.tl_index.specs.Tables.{TableOf, rows_in, ends_in}
use Rattle.tl_agg.specs.Scans.{ScanOf}
use Rattle.tl_agg.proofs.StepLemmas.{next_some, next_later}
use Rattle.tl_agg.proofs.scans.Scan.next_entry.Goals as goal

pub returns-then-entry-self-clause-none : goal.returns-then-entry-self-clause-none
returns-then-entry-self-clause-none g c =
    let to = ap (λ (s : ScanOf). s.to) c.self.view_is in
    let t = c.if-entry-self.true in
    let table = ap (λ (s : ScanOf). s.table) c.self.view_is in
    let is = subst (λ (t : TableOf). slice_get (ends_in t) c.args.i ≡ Some c.in_ok-entry.entry) table c.in_ok-entry.ensures.some in
    next_later (rows_in c.args.self.now.table) c.args.self.now.table.db.version c.args.at c.args.self.now.to c.args.i c.in_ok-entry.entry c.requires.follow is (omega arith)

pub returns-clause-some : goal.returns-clause-some
returns-clause-some g c =
    let to = ap (λ (s : ScanOf). s.to) c.self.view_is in
    let t = c.if-entry-self.false in
    let table = ap (λ (s : ScanOf). s.table) c.self.view_is in
    let is = subst (λ (t : TableOf). slice_get (ends_in t) c.args.i ≡ Some c.in_ok-entry.entry) table c.in_ok-entry.ensures.some in
    next_some (rows_in c.args.self.now.table) c.args.self.now.table.db.version c.args.at c.args.self.now.to c.args.i c.in_ok-entry.entry c.requires.follow is (omega arith)

pub returns-clause-few : goal.returns-clause-few
returns-clause-few g c =
    let table = ap (λ (s : ScanOf). s.table) c.self.view_is in
    let is = subst (λ (t : TableOf). slice_get (ends_in t) c.args.i ≡ Some c.in_ok-entry.entry) table c.in_ok-entry.ensures.some in
    slice_get_within (ends_in c.args.self.now.table) c.args.i c.in_ok-entry.entry is
