-- A packet of what stands at an offset.
use Rattle.std.proofs.Common.{◌≡◌, ℕ, ◌+◌, ◌≤◌, List, [], length, drop, Result, Ok, Err, IfOk, IfErr, refl, sym, ◌∙◌, subst, append-nil}
use Rattle.std.specs.declared.alloc.AllocError.{AllocError}
use Rattle.tl_follow.specs.declared.packets.Packet.{Packet}
use Rattle.tl_follow.specs.declared.reading.Front.{Front}
use Rattle.tl_follow.specs.declared.reading.Front.TheVariants as front
use Rattle.tl_follow.specs.Packets.{packet_spelling, BeginsWithPacket, IsNoPacket, NeverBegins, FindsPacket, IsBadAt, IsFront, packet_read}
use Rattle.tl_follow.proofs.InputLemmas.{one_packet}

pub begins_none : (bytes : List ℕ) → NeverBegins bytes → IsNoPacket bytes
begins_none bytes never = subst IsNoPacket (append-nil bytes) (never [])

module _ (bytes : List ℕ) (at : ℕ) where
  pub packet_ok : (r : Result Front AllocError) → IfOk r (IsFront bytes at) → IfOk (packet_read at r) (λ x. (rest : List ℕ) × BeginsWithPacket (drop at bytes) x.packet rest)
  packet_ok (Ok (front.Whole r)) h = h.0
  packet_ok (Ok front.Cut) h = tt
  packet_ok (Ok front.Never) h = tt
  packet_ok (Err e) h = tt

  pub packet_end : (r : Result Front AllocError) → IfOk r (IsFront bytes at) → IfOk (packet_read at r) (λ x. x.end ≡ at + length (packet_spelling x.packet))
  packet_end (Ok (front.Whole r)) h = h.1
  packet_end (Ok front.Cut) h = tt
  packet_end (Ok front.Never) h = tt
  packet_end (Err e) h = tt

  pub packet_within : (r : Result Front AllocError) → IfOk r (IsFront bytes at) → IfOk (packet_read at r) (λ x. x.end ≤ length bytes)
  packet_within (Ok (front.Whole r)) h = h.2
  packet_within (Ok front.Cut) h = tt
  packet_within (Ok front.Never) h = tt
  packet_within (Err e) h = tt

  pub packet_found : (r : Result Front AllocError) → IfOk r (IsFront bytes at) → (p : Packet) (rest : List ℕ) → BeginsWithPacket (drop at bytes) p rest → FindsPacket p (packet_read at r)
  packet_found (Ok (front.Whole r)) h p rest b = (one_packet r.packet p h.0.0 rest h.0.1.0 b.0 (sym h.0.1.1 ∙ b.1)).0
  packet_found (Ok front.Cut) h p rest b = absurd (h.0 p rest b)
  packet_found (Ok front.Never) h p rest b = absurd (begins_none (drop at bytes) h p rest b)
  packet_found (Err e) h p rest b = refl

  pub packet_bad : (r : Result Front AllocError) → IfOk r (IsFront bytes at) → IfErr (packet_read at r) (IsBadAt at (drop at bytes))
  packet_bad (Ok (front.Whole r)) h = tt
  packet_bad (Ok front.Cut) h = (refl, h.0)
  packet_bad (Ok front.Never) h = (refl, begins_none (drop at bytes) h)
  packet_bad (Err e) h = tt
