use Rattle.std.proofs.Common.{◌≡◌, ◌+◌, length, false}
use Rattle.std.specs.Str.{IsUtf8}
use Rattle.tl_query.specs.Scanning.{scan, tokens_before}
use Rattle.tl_query.proofs.scanning.scan.Given as goal

abbrev pub invariant-tokens : goal.invariant-tokens
invariant-tokens l = record {
  utf8 : IsUtf8 l.rest;
  place : l.at + length l.rest ≡ length l.bytes;
  read : tokens_before l.tokens.items (scan l.at l.joined 0 l.rest) ≡ scan 0 false 0 l.bytes;
}

abbrev pub decreases-tokens : goal.decreases-tokens
decreases-tokens l = length l.rest
