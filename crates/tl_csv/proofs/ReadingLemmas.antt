-- Records, one after the other.
use Rattle.std.proofs.Common.{◌≡◌, ℕ, zero, suc, ◌+◌, ◌-◌, ◌<◌, ◌≤◌, ◌==◌, Bool, true, false, cond, ◌&&◌, List, [], ◌∷◌, ◌++◌, length, Option, Some, None, IsSome, refl, ap, ◌∙◌, arith, inl}
use Rattle.csv.specs.Machine.{Read, next_record, step, in_field, start_field, start_record, ends_with, after_end, ends_at_end, is_end, is_byte, fields_after, field_after}
use Rattle.csv.specs.Reading.{ReadRecord, default_config, records_from, records_next, strip_bom}
use Rattle.csv.specs.declared.parser.Action.{Action}
use Rattle.csv.specs.declared.parser.Action.TheVariants as act
use Rattle.csv.specs.declared.parser.Config.{Config}
use Rattle.csv.specs.declared.parser.State.{State}
use Rattle.csv.specs.declared.parser.State.TheVariants as st
use Rattle.csv.specs.declared.parser.Terminator.{Terminator}
use Rattle.csv.specs.declared.parser.Terminator.TheVariants as term
use Rattle.csv.specs.declared.reader.Reader.{Reader}
use Rattle.csv.specs.Reading.{ExplainsRead, NotLengths, Reached, is_flexible, took_first}
use Rattle.csv.specs.declared.error.ErrorKind.{ErrorKind}
use Rattle.csv.specs.declared.error.ErrorKind.TheVariants as kind
use Rattle.csv.proofs.ReadFacts.{rows-end, rows-more}
use Rattle.tl_csv.specs.ByteOrderMarks.{is_byte_order_mark, past_byte_order_marks}
use Rattle.tl_csv.specs.Reading.{IsReading, records_left, records_on, bytes_unread}

-- AFTER A RECORD

-- the step ends a record only into a state between two records
abbrev EndsBetween : State × Action → Type 0
EndsBetween p = is_end p.1 ≡ true → ends_at_end p.0 ≡ false

chosen : (t : Bool) (p q : State × Action) → EndsBetween p → EndsBetween q → EndsBetween (cond t p q)
chosen true p q h g = h
chosen false p q h g = g

after_end_between : (t : Terminator) (c : ℕ) → ends_at_end (after_end t c) ≡ false
after_end_between term.CRLF c = by_test (c == 13) where
  by_test : (t : Bool) → ends_at_end (cond t st.AfterCr st.StartRecord) ≡ false
  by_test true = refl
  by_test false = refl
after_end_between (term.Any t) c = refl

never : (s : State) (a : Action) → is_end a ≡ false → EndsBetween (s, a)
never s a h g = absurd (cc)

in_field_between : (cfg : Config) (c : ℕ) → EndsBetween (in_field cfg c)
in_field_between cfg c =
    chosen (c == cfg.delimiter) _ _ (never st.StartField act.EndField refl)
    (chosen (ends_with cfg.terminator c) _ _ (λ h. after_end_between cfg.terminator c) (never st.InField act.Copy refl))

start_field_between : (cfg : Config) (c : ℕ) → EndsBetween (start_field cfg c)
start_field_between cfg c = chosen (cfg.quoting && (c == cfg.quote)) _ _ (never st.InQuoted act.Skip refl) (in_field_between cfg c)

start_record_between : (cfg : Config) (c : ℕ) → EndsBetween (start_record cfg c)
start_record_between cfg c =
    chosen (ends_with cfg.terminator c) _ _ (never st.StartRecord act.Skip refl)
    (chosen (is_byte cfg.comment c) _ _ (never st.InComment act.Skip refl) (start_field_between cfg c))

step_between : (cfg : Config) (s : State) (c : ℕ) → EndsBetween (step cfg s c)
step_between cfg st.StartRecord c = start_record_between cfg c
step_between cfg st.StartField c = start_field_between cfg c
step_between cfg st.InField c = in_field_between cfg c
step_between cfg st.InQuoted c =
    chosen (cfg.quoting && (c == cfg.quote)) _ _ (never st.AfterQuote act.Skip refl)
    (chosen (cfg.quoting && is_byte cfg.escape c) _ _ (never st.InEscape act.Skip refl) (never st.InQuoted act.Copy refl))
step_between cfg st.InEscape c = never st.InQuoted act.Copy refl
step_between cfg st.AfterQuote c = chosen (cfg.quoting && cfg.double_quote && (c == cfg.quote)) _ _ (never st.InQuoted act.Copy refl) (in_field_between cfg c)
step_between cfg st.InComment c = chosen (c == 10) _ _ (never st.StartRecord act.Skip refl) (never st.InComment act.Skip refl)
step_between cfg st.AfterCr c = chosen (c == 10) _ _ (never st.StartRecord act.Skip refl) (start_record_between cfg c)

-- what stands behind a record: a state between two records, and fewer bytes
pub record Behind (n : ℕ) (p : Read) : Type 0 where
  pub between : ends_at_end p.1 ≡ false
  pub fewer : length p.2 ≤ n - 1

end_behind : (t : Bool) (fields : List (List ℕ)) (p : Read) → cond t (Some (fields, st.StartRecord, [])) None ≡ Some p → Behind 0 p
end_behind true fields p h =
    let e : (fields, st.StartRecord, []) ≡ p = cc in
    rw (← e) (record { between = refl; fewer = omega arith })
end_behind false fields p h = absurd (cc)

pub next_behind : (cfg : Config) (s : State) (fields : List (List ℕ)) (field bytes : List ℕ) (p : Read) → next_record cfg s fields field bytes ≡ Some p → Behind (length bytes) p
unfolding next_record
next_behind cfg s fields field [] p h = end_behind (ends_at_end s) (fields ++ (field ∷ [])) p h
next_behind cfg s fields field (c ∷ bytes) p h = by_test (is_end (step cfg s c).1) refl (next_behind cfg (step cfg s c).0 (fields_after (step cfg s c).1 fields field) (field_after (step cfg s c).1 c field) bytes p) where
  by_test : (t : Bool) → is_end (step cfg s c).1 ≡ t
      → (next_record cfg (step cfg s c).0 (fields_after (step cfg s c).1 fields field) (field_after (step cfg s c).1 c field) bytes ≡ Some p → Behind (length bytes) p) → Behind (length (c ∷ bytes)) p
  by_test true e more =
      let f : Some (fields_after (step cfg s c).1 fields field, (step cfg s c).0, bytes) ≡ Some p = rw e at h in
      let same : (fields_after (step cfg s c).1 fields field, (step cfg s c).0, bytes) ≡ p = cc in
      rw (← same) (record { between = step_between cfg s c e; fewer = omega arith })
  by_test false e more =
      let past = more (rw e at h) in
      record { between = past.between; fewer = omega (arith, past.fewer) }

-- no record stands between two records at the end of the bytes
pub none_at_end : (cfg : Config) (s : State) → ends_at_end s ≡ false → next_record cfg s [] [] [] ≡ None
unfolding next_record
none_at_end cfg s h = rw h refl

-- HOW MANY RECORDS

next_same : (cfg : Config) (m n : ℕ) (o : Option Read) → ((p : Read) → o ≡ Some p → records_from cfg m p.1 p.2 ≡ records_from cfg n p.1 p.2) → records_next (records_from cfg m) o ≡ records_next (records_from cfg n) o
next_same cfg m n None h = refl
next_same cfg m n (Some p) h = ap (λ rows. p.0 ∷ rows) (h p refl)

-- the records are all there, however many more there may be
enough : (cfg : Config) (m n : ℕ) (s : State) (bytes : List ℕ) → ends_at_end s ≡ false → length bytes < m → length bytes < n → records_from cfg m s bytes ≡ records_from cfg n s bytes
unfolding records_from
enough cfg zero n s bytes b h g = absurd (omega (arith, h))
enough cfg (suc m) zero s bytes b h g = absurd (omega (arith, g))
enough cfg (suc m) (suc n) s [] b h g = rw (none_at_end cfg s b) refl
enough cfg (suc m) (suc n) s (c ∷ bytes) b h g =
    next_same cfg m n (next_record cfg s [] [] (c ∷ bytes))
    (λ p e.
    let past = next_behind cfg s [] [] (c ∷ bytes) p e in
    enough cfg m n p.1 p.2 past.between (omega (arith, past.fewer, h)) (omega (arith, past.fewer, g)))

records_suc : (cfg : Config) (n : ℕ) (s : State) (bytes : List ℕ) → records_from cfg (n + 1) s bytes ≡ records_next (records_from cfg n) (next_record cfg s [] [] bytes)
unfolding records_from
records_suc cfg n s bytes = let e : n + 1 ≡ suc n = omega arith in rw e refl

-- the first record, and those behind it
pub first_record : (s : State) (bytes : List ℕ) (p : Read) → ends_at_end s ≡ false → next_record default_config s [] [] bytes ≡ Some p → records_on s (Some bytes) ≡ p.0 ∷ records_on p.1 (Some p.2)
first_record s [] p b h = absurd (let e = none_at_end default_config s b in cc)
first_record s (c ∷ bytes) p b h =
    let past = next_behind default_config s [] [] (c ∷ bytes) p h in
    let e = enough default_config (length (c ∷ bytes)) (length p.2 + 1) p.1 p.2 past.between (omega (arith, past.fewer)) (omega arith) in
    records_suc default_config (length (c ∷ bytes)) s (c ∷ bytes) ∙ (rw h (ap (λ rows. p.0 ∷ rows) e))

pub no_record : (s : State) (bytes : List ℕ) → next_record default_config s [] [] bytes ≡ None → records_on s (Some bytes) ≡ []
no_record s bytes h = records_suc default_config (length bytes) s bytes ∙ rw h refl

-- READERS

abbrev bytes_left : List ℕ → Option (List ℕ)
bytes_left bytes = Some bytes

abbrev Bytes : Type 0
Bytes = Reader (List ℕ)

known_bytes : (o : Option (List ℕ)) → IsSome o → (bytes : List ℕ) × (o ≡ Some bytes)
known_bytes None h = absurd (cc)
known_bytes (Some bytes) h = (bytes, refl)

reached_one : (s s2 : State) (bytes rest : List ℕ) (fields : List (List ℕ)) → Reached default_config s bytes (fields ∷ []) s2 rest
    → (p : Read) × (next_record default_config s [] [] bytes ≡ Some p) × (fields ≡ p.0) × ((p.1 ≡ s2) × (p.2 ≡ rest))
unfolding Reached
reached_one s s2 bytes rest fields h = h

joined : (s s2 : State) (from to : Option (List ℕ)) (bytes rest : List ℕ) (fields : List (List ℕ)) (p : Read) → from ≡ Some bytes → to ≡ Some rest → fields ≡ p.0 → p.1 ≡ s2 → p.2 ≡ rest
    → records_on s (Some bytes) ≡ p.0 ∷ records_on p.1 (Some p.2) → records_on s from ≡ fields ∷ records_on s2 to
joined s s2 from to bytes rest fields p is is_rest same state same_rest h = rw (is, is_rest, same, ← state, ← same_rest) h

-- a record that was read is the first of those that were left
pub record_read : (a b : Bytes) (fields : List (List ℕ)) → IsReading a → ReadRecord bytes_left a b true fields → took_first b ≡ true → is_flexible b ≡ is_flexible a → (records_left a ≡ fields ∷ records_left b) × IsReading b
unfolding Reached
record_read a b fields reading r first kept =
    let (bytes, is) = known_bytes (bytes_unread a) reading.known in
    let (rest, is_rest, reached) = rows-more bytes_left a b fields default_config a.state bytes bytes [] reading.config is (refl, refl) r in
    let (p, next, same, (state, same_rest)) = reached_one a.state b.state bytes rest fields reached in
    let past = next_behind default_config a.state [] [] bytes p next in
    let all = first_record a.state bytes p reading.between next in (
      joined a.state b.state (bytes_unread a) (bytes_unread b) bytes rest fields p is is_rest same state same_rest all,
      record {
        config = r.2 ∙ reading.config;
        flexible = kept ∙ reading.flexible;
        trim = r.3 ∙ reading.trim;
        ready = inl first;
        between = rw (← state) past.between;
        known = rw is_rest refl;
      },
    )

-- where no record was read, none was left
pub none_read : (a b : Bytes) (fields : List (List ℕ)) → IsReading a → ReadRecord bytes_left a b false fields → records_left a ≡ []
none_read a b fields reading r =
    let (bytes, is) = known_bytes (bytes_unread a) reading.known in
    rw is (no_record a.state bytes (rows-end bytes_left a b fields default_config bytes reading.config is r))

-- a reader that takes records of any length has no error of lengths
no_lengths : (a b : Bytes) (e : ErrorKind) → is_flexible a ≡ true → ExplainsRead bytes_left a b false e → NotLengths e
no_lengths a b (kind.UnequalLengths pos expected len) h w = absurd (let f : is_flexible a ≡ false = w.0 in cc)
no_lengths a b (kind.Io e) h w = tt
no_lengths a b (kind.Utf8 pos err) h w = tt
no_lengths a b kind.OutOfMemory h w = tt
no_lengths a b (kind.Serialize text) h w = tt
no_lengths a b (kind.Deserialize pos err) h w = tt

pub read_fails : (a b : Bytes) (e : ErrorKind) → IsReading a → ExplainsRead bytes_left a b false e → NotLengths e
read_fails a b e reading w = no_lengths a b e reading.flexible w

-- BYTE ORDER SEPARATORS

-- past its byte order marks a block begins with none
pub no_separator : (bytes : List ℕ) → strip_bom (past_byte_order_marks bytes) ≡ past_byte_order_marks bytes
unfolding strip_bom
no_separator [] = refl
no_separator (a ∷ []) = refl
no_separator (a ∷ b ∷ []) = refl
no_separator (a ∷ b ∷ c ∷ bytes) = by_test (is_byte_order_mark a b c) refl (no_separator bytes) where
  by_test : (t : Bool) → is_byte_order_mark a b c ≡ t → strip_bom (past_byte_order_marks bytes) ≡ past_byte_order_marks bytes → strip_bom (past_byte_order_marks (a ∷ b ∷ c ∷ bytes)) ≡ past_byte_order_marks (a ∷ b ∷ c ∷ bytes)
  by_test true e more = rw e more
  by_test false e more = rw e (rw e refl)
