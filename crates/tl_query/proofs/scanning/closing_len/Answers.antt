use Rattle.std.proofs.Common.{◌≡◌, ◌∙◌, sym, ap, ◌≤◌, length, Some, arith}
use Rattle.tl_query.proofs.Closing.{quote_turn, other_turn, done_turn, end_turn, closing_quoted, closing_open}
use Rattle.tl_query.proofs.scanning.closing_len.Goals as goal
use Rattle.tl_query.proofs.scanning.closing_len.Goals.{then-byte-eq39, else-byte-eq39+else-quoted}

pub returns-then-quoted : goal.returns-then-quoted
returns-then-quoted c = sym (c.loop-i.invariant ∙ done_turn c.args.bytes.now c.loop-i.i c.loop-i.quoted c.loop-i-test.true c.if-byte-eq39.false c.if-quoted.true)

pub loop-i-preserved : goal.loop-i-preserved
loop-i-preserved c = elim c.if-byte-eq39.branch [
  | then-byte-eq39 w ↦ rw w.quoted-is (c.loop-i.invariant ∙ quote_turn c.args.bytes.now c.loop-i.i c.loop-i.quoted c.loop-i-test.true w.if-byte-eq39.true)
  | else-byte-eq39+else-quoted w ↦ rw w.quoted-is (c.loop-i.invariant ∙ other_turn c.args.bytes.now c.loop-i.i c.loop-i.quoted c.loop-i-test.true w.if-byte-eq39.false w.if-quoted.false)
]

pub returns-then-quoted-2 : goal.returns-then-quoted-2
returns-then-quoted-2 c =
    let last : length c.args.bytes.now ≤ c.loop-i.i = omega arith in
    let there : c.loop-i.i ≡ length c.args.bytes.now = omega arith in
    sym (c.loop-i.invariant ∙ end_turn c.args.bytes.now c.loop-i.i c.loop-i.quoted last ∙ closing_quoted c.loop-i.i c.loop-i.quoted c.if-quoted-2.true ∙ ap (λ n. Some n) there)

pub returns-else-quoted-2 : goal.returns-else-quoted-2
returns-else-quoted-2 c =
    let last : length c.args.bytes.now ≤ c.loop-i.i = omega arith in
    sym (c.loop-i.invariant ∙ end_turn c.args.bytes.now c.loop-i.i c.loop-i.quoted last ∙ closing_open c.loop-i.i c.loop-i.quoted c.if-quoted-2.false)
