use Rattle.std.proofs.Common.{◌+◌, ◌-◌, ◌∷◌, [], length, sym, ap, ◌∙◌, arith, subst, length-append}
use Rattle.tl_range.specs.Dividing.{BeginInside}
use Rattle.tl_range.proofs.DivideLemmas.{piece_more, begin_push}
use Rattle.tl_range.proofs.dividing.divide.Goals as goal

pub rest-preserved : goal.rest-preserved
rest-preserved c =
    let was = c.rest.invariant in
    let n = was.number in
    let s = was.some in
    let r = was.room in
    let t = c.rest-test.true in
    let a = c.share_of.ensures.some in
    let b = c.share_of.ensures.rest in
    let items = c.in_ok-push.ensures.items in
    let long = ap length items ∙ length-append c.rest.pieces.items (c.piece_of.result ∷ []) in record {
      number = omega arith;
      some = omega arith;
      room = omega arith;
      behind = λ l. omega arith;
      cover = piece_more c.args.bounds.now c.rest.pieces.items c.push.new.self.items c.piece_of.result c.rest.at (c.rest.at + c.share_of.result) items c.piece_of.ensures.from c.piece_of.ensures.to was.cover;
      begin = subst (BeginInside c.args.bounds.now) (sym items) (begin_push c.args.bounds.now c.rest.pieces.items c.piece_of.result c.rest.at c.piece_of.ensures.from (omega arith) was.behind was.begin);
    }

pub returns-clause-cover : goal.returns-clause-cover
returns-clause-cover c =
    piece_more c.args.bounds.now c.rest.pieces.items c.push-2.new.self.items c.piece_of-2.result c.rest.at (length c.args.bounds.now - 1) c.in_ok-push-2.ensures.items c.piece_of-2.ensures.from c.piece_of-2.ensures.to c.rest.invariant.cover

pub returns-clause-begin : goal.returns-clause-begin
returns-clause-begin c =
    let was = c.rest.invariant in
    let s = was.some in
    let r = was.room in
    subst (BeginInside c.args.bounds.now) (sym c.in_ok-push-2.ensures.items) (begin_push c.args.bounds.now c.rest.pieces.items c.piece_of-2.result c.rest.at c.piece_of-2.ensures.from (omega arith) was.behind was.begin)
