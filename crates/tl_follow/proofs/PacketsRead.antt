-- What stands at an offset of bytes.
use Rattle.std.proofs.Common.{◌≡◌, ◌≢◌, ℕ, ◌+◌, ◌^◌, ◌<◌, ◌≤◌, inr, List, [], ◌++◌, length, take, drop, Result, Ok, Err, IfOk, IfErr, sym, ap, ◌∙◌, arith, length-append, append_assoc, append-nil, drop-drop, take-append-drop}
use Rattle.std.proofs.lemmas.List.{take-append-le}
use Rattle.tl_types.specs.declared.commits.Commit.{Commit}
use Rattle.tl_record.specs.declared.decoding.Decoded.{Decoded}
use Rattle.tl_record.specs.declared.faults.RecordFault.{RecordFault}
use Rattle.tl_record.specs.declared.faults.RecordFault.TheVariants as record_fault
use Rattle.tl_record.specs.Spelling.{number, spelling}
use Rattle.tl_record.specs.Decoding.{BeginsWith, FindsUnlessMemory, IsCutRecord, IsNoRecord, IsAt}
use Rattle.tl_follow.specs.declared.packets.Packet.{Packet}
use Rattle.tl_follow.specs.Packets.{IsVersion, packet_spelling, IsNoPacket, NeverBegins, MayBegin, IsFront, front_read}
use Rattle.tl_follow.proofs.Numbers.{one_number}

pub version_small : (v : ℕ) → IsVersion v → v < 2 ^ 32
version_small v h = let b = h.1 in omega (arith, b)

module _ (at : ℕ) (bytes : List ℕ) (version : ℕ) (range : IsVersion version) (front : drop at bytes ≡ number version ++ drop 4 (drop at bytes)) where
  behind : drop 4 (drop at bytes) ≡ drop (at + 4) bytes
  behind = drop-drop 4 at bytes

  pub long : 4 ≤ length (drop at bytes)
  long = let l = ap length front in let k = length-append (number version) (drop 4 (drop at bytes)) in omega (arith, l, k)

  -- where no record begins behind the version, whatever follows, no packet begins before it
  never_by_record : IsNoRecord (drop (at + 4) bytes) → NeverBegins (drop at bytes)
  never_by_record none = λ more p rest b.
      let e : number p.version ++ (spelling p.commit ++ rest) ≡ number version ++ (drop 4 (drop at bytes) ++ more) =
      sym (append_assoc (number p.version) (spelling p.commit) rest) ∙ sym b.1 ∙ ap (λ l. l ++ more) front
      ∙ append_assoc (number version) (drop 4 (drop at bytes)) more in
      let o = one_number p.version version (spelling p.commit ++ rest) (drop 4 (drop at bytes) ++ more) (version_small p.version b.0.0) (version_small version range) e in
      none p.commit more rest b.0.1 (ap (λ l. l ++ more) (sym behind) ∙ sym o.1)

  -- where a record is cut behind the version, a packet is cut before it
  cut_by_record : IsCutRecord (drop (at + 4) bytes) → MayBegin (drop at bytes)
  cut_by_record (commit, more, is, some, whole) =
      let p : Packet = record { version = version; commit = commit } in
      let e : drop at bytes ++ more ≡ packet_spelling p ++ [] =
      ap (λ l. l ++ more) front ∙ append_assoc (number version) (drop 4 (drop at bytes)) more
      ∙ ap (λ l. number version ++ l) (ap (λ l. l ++ more) behind ∙ whole) ∙ sym (append-nil (packet_spelling p)) in
      inr (p, more, [], ((range, is), e))

  pub front_by : (r : Result Decoded RecordFault) → IfOk r (λ d. (rest : List ℕ) × BeginsWith (drop (at + 4) bytes) d.commit rest) → IfOk r (λ d. d.end ≡ at + 4 + length (spelling d.commit)) → IfOk r (λ d. d.end ≤ length bytes)
      → (r ≡ Err (record_fault.Short (at + 4)) → IsCutRecord (drop (at + 4) bytes)) → (r ≡ Err (record_fault.Bad (at + 4)) → IsNoRecord (drop (at + 4) bytes)) → IfErr r (IsAt (at + 4))
      → ((c : Commit) (rest : List ℕ) → BeginsWith (drop (at + 4) bytes) c rest → FindsUnlessMemory c r) → IfOk (front_read version r) (IsFront bytes at)
  front_by (Ok d) ok end within short bad place found = (
    (
      ok.0,
      (
        (range, ok.1.0),
        front ∙ ap (λ l. number version ++ l) (behind ∙ ok.1.1) ∙ sym (append_assoc (number version) (spelling d.commit) ok.0),
      ),
    ),
    let k = length-append (number version) (spelling d.commit) in omega (arith, end, k),
    within,
  )
  front_by (Err (record_fault.Short offset)) ok end within short bad place found = (
    λ p rest b.
        let e : number p.version ++ (spelling p.commit ++ rest) ≡ number version ++ drop 4 (drop at bytes) =
        sym (append_assoc (number p.version) (spelling p.commit) rest) ∙ sym b.1 ∙ front in
        let o = one_number p.version version (spelling p.commit ++ rest) (drop 4 (drop at bytes)) (version_small p.version b.0.0) (version_small version range) e in
        let f = found p.commit rest (b.0.1, sym behind ∙ sym o.1) in
        absurd (cc),
    cut_by_record (short (ap (λ n. Err (record_fault.Short n)) place)),
  )
  front_by (Err (record_fault.Bad offset)) ok end within short bad place found = never_by_record (bad (ap (λ n. Err (record_fault.Bad n)) place))
  front_by (Err record_fault.NoMemory) ok end within short bad place found = tt

-- where four bytes are no version, no packet begins with them, whatever follows
pub never_by_version : (bytes : List ℕ) → 4 ≤ length bytes → ((v : ℕ) (rest : List ℕ) → IsVersion v → bytes ≢ number v ++ rest) → NeverBegins bytes
never_by_version bytes long none = λ more p rest b.
    let front : take 4 bytes ≡ number p.version =
    sym (take-append-le 4 bytes more long) ∙ ap (take 4) (b.1 ∙ append_assoc (number p.version) (spelling p.commit) rest) in
    none p.version (drop 4 bytes) b.0.0 (sym (take-append-drop 4 bytes) ∙ ap (λ l. l ++ drop 4 bytes) front)

-- fewer bytes are no packet
pub few_begin_none : (bytes : List ℕ) → length bytes < 4 → IsNoPacket bytes
few_begin_none bytes few p rest b =
    let l = ap length b.1 ∙ length-append (packet_spelling p) rest in
    let k = length-append (number p.version) (spelling p.commit) in
    absurd (omega (arith, few, l, k))
