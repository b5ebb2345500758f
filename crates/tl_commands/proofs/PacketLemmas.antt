-- What was taken of an input of packets.
use Rattle.std.proofs.Common.{◌≡◌, inl, inr, ◌⊎◌, ℕ, ◌+◌, ◌-◌, ◌<◌, ◌≤◌, List, [], ◌++◌, length, Option, Some, None, refl, sym, ap, ◌∙◌, subst, arith, append_assoc, length-append}
use Rattle.tl_types.specs.declared.commits.Commit.{Commit}
use Rattle.tl_types.specs.declared.commits.Entry.{Entry}
use Rattle.tl_types.specs.Limits.{standard_limits}
use Rattle.tl_device.specs.Known.{prepend_known}
use Rattle.tl_script.specs.Reader.{TakesBlock}
use Rattle.tl_script.specs.Taking.{IsAtEnd}
use Rattle.tl_follow.specs.declared.faults.PacketFault.TheVariants as packet
use Rattle.tl_follow.specs.declared.inputs.PacketReader.{PacketReader}
use Rattle.tl_follow.specs.Inputs.{IsInputFault, input_limit}
use Rattle.tl_follow.specs.Readers.{ReadsOn, count_of}
use Rattle.tl_command.specs.declared.statuses.Status.TheVariants as status
use Rattle.tl_command.proofs.ComingLemmas.{all_told}
use Rattle.tl_commands.specs.Following.{TakesBytes, IsTooLong, FailsInput, ReadsFront, ReadsWhole}

-- some bytes and then some more before what is left
prepend_both : (xs ys : List ℕ) (o : Option (List ℕ)) → prepend_known xs (prepend_known ys o) ≡ prepend_known (xs ++ ys) o
prepend_both xs ys None = refl
prepend_both xs ys (Some rest) = ap (λ l. Some l) (sym (append_assoc xs ys rest))

-- one piece more
pub front_more : (entries : List Entry) (before mid after : Option (List ℕ)) (most : ℕ) (old new : PacketReader) (piece : List ℕ) → ReadsFront entries before old mid → TakesBlock most mid piece after → ReadsOn piece old new → ReadsFront entries before new after
front_more entries before mid after most old new piece (bytes, read, order) block on =
    (bytes ++ piece, on standard_limits entries bytes read, order ∙ ap (prepend_known bytes) block.order ∙ prepend_both bytes piece after)

-- a piece of no more bytes than were asked for is the last one
pub at_end : (most : ℕ) (before after : Option (List ℕ)) (piece : List ℕ) → TakesBlock most before piece after → length piece ≤ most → IsAtEnd after
at_end most before after piece h short = by_end h.ends where
  by_end : ((most < length piece) ⊎ IsAtEnd after) → IsAtEnd after
  by_end (inl long) = absurd (omega (arith, long, short))
  by_end (inr ended) = ended

-- a piece for which there is room
pub short_more : (old new : PacketReader) (piece : List ℕ) (count len : ℕ) → count_of old ≤ input_limit → count ≡ count_of old → len ≡ length piece → len ≤ input_limit - count → count_of new ≡ count_of old + length piece → count_of new ≤ input_limit
short_more old new piece count len short is number room more = omega (arith, short, is, number, room, more)

-- a piece for which there is no room shows that the input is too long
pub long_piece : (entries : List Entry) (before mid after : Option (List ℕ)) (most : ℕ) (reader : PacketReader) (piece : List ℕ) (count len : ℕ) → ReadsFront entries before reader mid → TakesBlock most mid piece after → count_of reader ≤ input_limit → count ≡ count_of reader → len ≡ length piece → input_limit - count < len → IsTooLong before
long_piece entries before mid after most reader piece count len (bytes, read, order) block short is number long =
    subst IsTooLong (sym (order ∙ ap (prepend_known bytes) block.order ∙ prepend_both bytes piece after)) (told after) where
      told : (o : Option (List ℕ)) → IsTooLong (prepend_known (bytes ++ piece) o)
      told None = tt
      told (Some rest) =
          let all = length-append (bytes ++ piece) rest in
          let both = length-append bytes piece in
          let given = read.count_is in
          omega (arith, all, both, given, short, is, number, long)

-- what was given is all that there was
pub whole_front : (entries : List Entry) (before after : Option (List ℕ)) (reader : PacketReader) → ReadsFront entries before reader after → count_of reader ≤ input_limit → IsAtEnd after → ReadsWhole entries before reader after
whole_front entries before after reader (bytes, read, order) short ended =
    (bytes, read, (subst (λ n. n ≤ input_limit) read.count_is short, all_told before after bytes order ended, ended))

-- the fault of an input that was taken whole
pub input_faulty : (opening : List Commit) (before after : Option (List ℕ)) (bytes : List ℕ) (first last at : ℕ) → TakesBytes bytes before after → IsInputFault standard_limits opening bytes (packet.BadPacket at) → last ≡ first → FailsInput opening before first last (status.PacketFault at)
input_faulty opening before after bytes first last at taken (packets, rest, input, fault) sure = (inr (bytes, packets, rest, taken.1, input, fault), sure)
