use Rattle.std.proofs.Common.{[], ◌+◌, map, arith, sym, ◌∙◌}
use Rattle.tl_batch.proofs.FreshKeys.{fault_of_fresh}
use Rattle.tl_batch.proofs.UntimedLemmas.{more_keys, no_fault, this_key}
use Rattle.tl_batch.proofs.untimed.first_key_fault.Goals as goal

pub returns-then-rise : goal.returns-then-rise
returns-then-rise c = λ place rows stand. c.first_missing_row.ensures place rows stand ∙ fault_of_fresh c.args.removes place rows 2 [] (map (λ k. k.now) c.args.keys.now) (c.rise.ensures c.if-rise.true)

pub returns-then-once : goal.returns-then-once
returns-then-once c = λ place rows stand. c.first_missing_row-then-once.ensures place rows stand ∙ fault_of_fresh c.args.removes place rows 2 [] (map (λ k. k.now) c.args.keys.now) (c.in_ok-once.ensures c.if-once.true)

pub returns-then-is_some : goal.returns-then-is_some
returns-then-is_some c = λ place rows stand. this_key c.args.removes place rows c.args.keys.now c.loop-i.i c.index-keys-i.result c.loop-i.earlier c.in_ok-fresh.fresh c.fault_of_key-found.result _ (omega arith) c.index-keys-i.is c.in_ok-fresh.ensures.fresh (c.fault_of_key-found.ensures place rows stand) (sym c.is_some.ensures ∙ c.if-is_some.true) (c.loop-i.invariant place rows stand)

pub loop-i-preserved : goal.loop-i-preserved
loop-i-preserved c = λ place rows stand. more_keys c.args.removes place rows c.args.keys.now c.loop-i.i c.index-keys-i.result c.loop-i.earlier c.add.new.self c.in_ok-fresh.fresh c.fault_of_key-found.result _ (omega arith) c.index-keys-i.is c.in_ok-fresh.ensures.fresh (c.fault_of_key-found.ensures place rows stand) (sym c.is_some.ensures ∙ c.if-is_some.false) c.in_ok-fresh.ensures.added (c.loop-i.invariant place rows stand)

pub returns : goal.returns
returns c = λ place rows stand. no_fault c.args.removes place rows (c.loop-i.i + 2) c.loop-i.earlier c.args.keys.now c.loop-i.i _ (let h = c.loop-i-test.false in let e = c.loop-i.auto.i-end in omega arith) (c.loop-i.invariant place rows stand)
