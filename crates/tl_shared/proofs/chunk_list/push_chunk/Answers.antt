use Rattle.std.proofs.Common.{◌∷◌, [], ◌++◌, length, ap, ◌∙◌, arith}
use Rattle.tl_shared.proofs.Pieces.{pushed_onto, pushed_behind}
use Rattle.tl_shared.proofs.chunk_list.push_chunk.Goals as goal

pub returns-in_ok-push-in-Some-clause-chunked : goal.returns-in_ok-push-in-Some-clause-chunked
returns-in_ok-push-in-Some-clause-chunked g c =
    (pushed_onto 64 c.args.blocks.now.items c.pop.new.self.items c.push-in-Some.new.self.items c.in-Some.last c.extend.new.self (c.args.chunk ∷ []) c.requires c.in-Some.ensures.items c.in_ok-push-in-Some.ensures.items (c.in_ok-extend-in-Some.ensures ∙ ap (λ t. c.in-Some.last ++ t) c.as_slice-in-Some.ensures) (omega (arith, c.if-as_slice-lt-BLOCK.true, ap length c.as_slice.ensures))).chunked

pub returns-in_ok-push-in-Some-2-2-clause-chunked : goal.returns-in_ok-push-in-Some-2-2-clause-chunked
returns-in_ok-push-in-Some-2-2-clause-chunked g c =
    (pushed_behind 64 c.args.blocks.now.items c.pop.new.self.items c.push-in-Some-2.new.self.items c.push-in-Some-2-2.new.self.items c.in-Some.last (c.args.chunk ∷ []) c.requires c.in-Some.ensures.items c.in_ok-push-in-Some-2.ensures.items (c.in_ok-push-in-Some-2-2.ensures.items ∙ ap (λ b. c.push-in-Some-2.new.self.items ++ b ∷ []) c.in_ok-block_of-in-Some-2.ensures) (omega (arith, c.if-as_slice-lt-BLOCK.false, ap length c.as_slice.ensures)) (omega arith) (omega arith)).chunked
