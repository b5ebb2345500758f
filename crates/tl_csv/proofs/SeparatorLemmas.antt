-- Several blocks as one text.
use Rattle.std.proofs.Common.{◌≡◌, ℕ, zero, suc, ◌+◌, ◌-◌, ◌<◌, ◌==◌, Bool, true, false, cond, ◌||◌, List, [], ◌∷◌, ◌++◌, length, Option, Some, None, refl, ap, ◌∙◌, arith, slice_get, nat_eq}
use Rattle.csv.specs.Machine.{Read, next_record, step, in_field, start_field, start_record, ends_with, after_end, ends_at_end, is_end, fields_after, field_after}
use Rattle.csv.specs.Reading.{default_config, strip_bom}
use Rattle.csv.specs.declared.parser.Action.{Action}
use Rattle.csv.specs.declared.parser.Action.TheVariants as act
use Rattle.csv.specs.declared.parser.State.{State}
use Rattle.csv.specs.declared.parser.State.TheVariants as st
use Rattle.csv.specs.declared.parser.Terminator.TheVariants as term
use Rattle.tl_csv.specs.Block.{records_of}
use Rattle.tl_csv.specs.ByteOrderMarks.{past_byte_order_marks}
use Rattle.tl_csv.specs.Separators.{separator, separated_text, is_quote, is_separator, has_separator, before_separator, behind_separator, AreOfBlocks, has_quote, ends_line, begins_plain, ArePlain}
use Rattle.csv.specs.Records.{field_at}
use Rattle.tl_csv.specs.declared.reading.BlockRecords.{BlockRecords}
use Rattle.csv.specs.declared.reader.Reader.{Reader}
use Rattle.tl_csv.specs.BlockRecords.{KeepsBlock, IsBlock, IsBefore, StandsBefore, block_left, behind_block}
use Rattle.tl_csv.specs.Reading.{records_on, records_left, IsReading}
use Rattle.tl_csv.proofs.ReadingLemmas.{Behind, next_behind, first_record, no_record, none_at_end}

-- the state behind bytes
abbrev run : State → List ℕ → State
run s [] = s
run s (c ∷ bytes) = run (step default_config s c).0 bytes

-- NOTHING AT HAND

-- between two records there is nothing of a record at hand; comments are not read
abbrev IsFresh : State → List (List ℕ) → List ℕ → Type 0
IsFresh st.StartRecord fields field = (fields ≡ []) × (field ≡ [])
IsFresh st.AfterCr fields field = (fields ≡ []) × (field ≡ [])
IsFresh st.InComment fields field = ⊥
IsFresh st.StartField fields field = Unit {0}
IsFresh st.InField fields field = Unit {0}
IsFresh st.InQuoted fields field = Unit {0}
IsFresh st.AfterQuote fields field = Unit {0}
IsFresh st.InEscape fields field = Unit {0}

-- the same behind a step that ends no record
abbrev GoesFresh : ℕ → List (List ℕ) → List ℕ → State × Action → Type 0
GoesFresh c fields field p = is_end p.1 ≡ false → IsFresh p.0 (fields_after p.1 fields field) (field_after p.1 c field)

chosen_fresh : (c : ℕ) (fields : List (List ℕ)) (field : List ℕ) (t : Bool) (p q : State × Action) → GoesFresh c fields field p → GoesFresh c fields field q → GoesFresh c fields field (cond t p q)
chosen_fresh c fields field true p q h g = h
chosen_fresh c fields field false p q h g = g

in_field_fresh : (c : ℕ) (fields : List (List ℕ)) (field : List ℕ) → GoesFresh c fields field (in_field default_config c)
in_field_fresh c fields field =
    chosen_fresh c fields field (c == 44) _ _ (λ h. tt)
    (chosen_fresh c fields field (ends_with term.CRLF c) (after_end term.CRLF c, act.EndRecord) (st.InField, act.Copy) (λ h. absurd (cc)) (λ h. tt))

start_field_fresh : (c : ℕ) (fields : List (List ℕ)) (field : List ℕ) → GoesFresh c fields field (start_field default_config c)
start_field_fresh c fields field = chosen_fresh c fields field (c == 34) (st.InQuoted, act.Skip) _ (λ h. tt) (in_field_fresh c fields field)

start_record_fresh : (c : ℕ) (fields : List (List ℕ)) (field : List ℕ) → (fields ≡ []) × (field ≡ []) → GoesFresh c fields field (start_record default_config c)
start_record_fresh c fields field none =
    chosen_fresh c fields field (ends_with term.CRLF c) (st.StartRecord, act.Skip) _ (λ h. none) (start_field_fresh c fields field)

step_fresh : (s : State) (c : ℕ) (fields : List (List ℕ)) (field : List ℕ) → IsFresh s fields field → GoesFresh c fields field (step default_config s c)
step_fresh st.StartRecord c fields field none = start_record_fresh c fields field none
step_fresh st.StartField c fields field none = start_field_fresh c fields field
step_fresh st.InField c fields field none = in_field_fresh c fields field
step_fresh st.InQuoted c fields field none =
    chosen_fresh c fields field (c == 34) (st.AfterQuote, act.Skip) (st.InQuoted, act.Copy) (λ h. tt) (λ h. tt)
step_fresh st.InEscape c fields field none = λ h. tt
step_fresh st.AfterQuote c fields field none = chosen_fresh c fields field (c == 34) (st.InQuoted, act.Copy) _ (λ h. tt) (in_field_fresh c fields field)
step_fresh st.InComment c fields field none = absurd none
step_fresh st.AfterCr c fields field none = chosen_fresh c fields field (c == 10) (st.StartRecord, act.Skip) _ (λ h. none) (start_record_fresh c fields field none)

fresh_start : (s : State) → ends_at_end s ≡ false → IsFresh s [] []
fresh_start st.StartRecord h = (refl, refl)
fresh_start st.AfterCr h = (refl, refl)
fresh_start st.StartField h = tt
fresh_start st.InField h = tt
fresh_start st.InQuoted h = tt
fresh_start st.AfterQuote h = tt
fresh_start st.InEscape h = tt
fresh_start st.InComment h = absurd (cc)

-- MORE BYTES BEHIND

at_end : (s : State) (fields : List (List ℕ)) (field more : List ℕ) → IsFresh s fields field → next_record default_config s fields field [] ≡ None → next_record default_config s fields field more ≡ next_record default_config s [] [] more
unfolding next_record
at_end st.StartRecord fields field more none h = rw (none.0, none.1) refl
at_end st.AfterCr fields field more none h = rw (none.0, none.1) refl
at_end st.InComment fields field more none h = absurd none
at_end st.StartField fields field more none h = absurd (cc)
at_end st.InField fields field more none h = absurd (cc)
at_end st.InQuoted fields field more none h = absurd (cc)
at_end st.AfterQuote fields field more none h = absurd (cc)
at_end st.InEscape fields field more none h = absurd (cc)

some_is_none : {X : Type 0} (p : Read) → Some p ≡ None → X
some_is_none p h = absurd (cc)

-- where bytes give no record, the next one is of the bytes behind them
none_joined : (s : State) (fields : List (List ℕ)) (field bytes more : List ℕ) → IsFresh s fields field → next_record default_config s fields field bytes ≡ None
    → next_record default_config s fields field (bytes ++ more) ≡ next_record default_config (run s bytes) [] [] more
unfolding next_record
none_joined s fields field [] more none h = at_end s fields field more none h
none_joined s fields field (c ∷ bytes) more none h =
    by_test (is_end (step default_config s c).1) refl (none_joined (step default_config s c).0 (fields_after (step default_config s c).1 fields field) (field_after (step default_config s c).1 c field) bytes more) where
      by_test : (t : Bool) → is_end (step default_config s c).1 ≡ t
          → (IsFresh (step default_config s c).0 (fields_after (step default_config s c).1 fields field) (field_after (step default_config s c).1 c field)
          → next_record default_config (step default_config s c).0 (fields_after (step default_config s c).1 fields field) (field_after (step default_config s c).1 c field) bytes ≡ None
          → next_record default_config (step default_config s c).0 (fields_after (step default_config s c).1 fields field) (field_after (step default_config s c).1 c field) (bytes ++ more) ≡ next_record default_config (run (step default_config s c).0 bytes) [] [] more)
          → next_record default_config s fields field ((c ∷ bytes) ++ more) ≡ next_record default_config (run s (c ∷ bytes)) [] [] more
      by_test true e next = some_is_none (fields_after (step default_config s c).1 fields field, (step default_config s c).0, bytes) (rw e at h)
      by_test false e next = rw e (next (step_fresh s c fields field none e) (rw e at h))

-- what a record of the first bytes is with more behind
pub record IsJoined (s : State) (fields : List (List ℕ)) (field bytes more : List ℕ) (p : Read) : Type 0 where
  pub next : next_record default_config s fields field (bytes ++ more) ≡ Some (p.0, p.1, p.2 ++ more)
  pub run_is : run p.1 p.2 ≡ run s bytes

some_joined : (s : State) (fields : List (List ℕ)) (field bytes more : List ℕ) (p : Read) → ends_at_end (run s bytes) ≡ false → next_record default_config s fields field bytes ≡ Some p
    → IsJoined s fields field bytes more p
unfolding next_record
some_joined s fields field [] more p between h = let none : None ≡ Some p = rw between at h in absurd (cc)
some_joined s fields field (c ∷ bytes) more p between h =
    by_test (is_end (step default_config s c).1) refl (some_joined (step default_config s c).0 (fields_after (step default_config s c).1 fields field) (field_after (step default_config s c).1 c field) bytes more p between) where
      by_test : (t : Bool) → is_end (step default_config s c).1 ≡ t
          → (next_record default_config (step default_config s c).0 (fields_after (step default_config s c).1 fields field) (field_after (step default_config s c).1 c field) bytes ≡ Some p
          → IsJoined (step default_config s c).0 (fields_after (step default_config s c).1 fields field) (field_after (step default_config s c).1 c field) bytes more p)
          → IsJoined s fields field (c ∷ bytes) more p
      by_test true e next =
          let f : Some (fields_after (step default_config s c).1 fields field, (step default_config s c).0, bytes) ≡ Some p = rw e at h in
          let same : (fields_after (step default_config s c).1 fields field, (step default_config s c).0, bytes) ≡ p = cc in
          rw (← same) (record { next = rw e refl; run_is = refl })
      by_test false e next =
          let past = next (rw e at h) in
          record { next = rw e past.next; run_is = past.run_is }

-- WITHOUT QUOTES

abbrev is_calm : State → Bool
is_calm st.StartRecord = true
is_calm st.StartField = true
is_calm st.InField = true
is_calm st.AfterCr = true
is_calm st.InQuoted = false
is_calm st.AfterQuote = false
is_calm st.InEscape = false
is_calm st.InComment = false

chosen_calm : (t : Bool) (p q : State × Action) → is_calm p.0 ≡ true → is_calm q.0 ≡ true → is_calm (cond t p q).0 ≡ true
chosen_calm true p q h g = h
chosen_calm false p q h g = g

after_calm : (t : Bool) → is_calm (cond t st.AfterCr st.StartRecord) ≡ true
after_calm true = refl
after_calm false = refl

in_field_calm : (c : ℕ) → is_calm (in_field default_config c).0 ≡ true
in_field_calm c =
    chosen_calm (c == 44) (st.StartField, act.EndField) _ refl
    (chosen_calm (ends_with term.CRLF c) (after_end term.CRLF c, act.EndRecord) (st.InField, act.Copy) (after_calm (c == 13)) refl)

start_field_calm : (c : ℕ) → (c == 34) ≡ false → is_calm (start_field default_config c).0 ≡ true
start_field_calm c h = rw h (in_field_calm c)

start_record_calm : (c : ℕ) → (c == 34) ≡ false → is_calm (start_record default_config c).0 ≡ true
start_record_calm c h = chosen_calm (ends_with term.CRLF c) (st.StartRecord, act.Skip) _ refl (start_field_calm c h)

step_calm : (s : State) (c : ℕ) → is_calm s ≡ true → (c == 34) ≡ false → is_calm (step default_config s c).0 ≡ true
step_calm st.StartRecord c h g = start_record_calm c g
step_calm st.StartField c h g = start_field_calm c g
step_calm st.InField c h g = in_field_calm c
step_calm st.AfterCr c h g = chosen_calm (c == 10) (st.StartRecord, act.Skip) _ refl (start_record_calm c g)
step_calm st.InQuoted c h g = absurd (cc)
step_calm st.AfterQuote c h g = absurd (cc)
step_calm st.InEscape c h g = absurd (cc)
step_calm st.InComment c h g = absurd (cc)

line_end : (s : State) → is_calm s ≡ true → (step default_config s 10).0 ≡ st.StartRecord
line_end st.StartRecord h = refl
line_end st.StartField h = refl
line_end st.InField h = refl
line_end st.AfterCr h = refl
line_end st.InQuoted h = absurd (cc)
line_end st.AfterQuote h = absurd (cc)
line_end st.InEscape h = absurd (cc)
line_end st.InComment h = absurd (cc)

no_first : (a b : Bool) → (a || b) ≡ false → (a ≡ false) × (b ≡ false)
no_first true b h = absurd (cc)
no_first false b h = (refl, h)

-- bytes without quotes that end with a line feed end between two records
plain_run : (s : State) (bytes : List ℕ) → is_calm s ≡ true → has_quote bytes ≡ false → ends_line bytes ≡ true → run s bytes ≡ st.StartRecord
plain_run s [] calm quotes ends = absurd (cc)
plain_run s (c ∷ []) calm quotes ends =
    let is : c ≡ 10 = grind arith in
    rw is (line_end s calm)
plain_run s (c ∷ d ∷ bytes) calm quotes ends =
    let both = no_first (c == 34) (has_quote (d ∷ bytes)) quotes in
    plain_run (step default_config s c).0 (d ∷ bytes) (step_calm s c calm both.0) both.1 ends

-- a record is none of a separator's
pub record IsUnseparated (p : Read) : Type 0 where
  pub record_is : is_separator p.0 ≡ false
  pub quotes : has_quote p.2 ≡ false

last_field : (fields : List (List ℕ)) (field : List ℕ) → is_quote field ≡ false → is_separator (fields ++ field ∷ []) ≡ false
last_field [] field h = h
last_field (x ∷ []) field h = refl
last_field (x ∷ y ∷ fields) field h = refl

ended_field : (a : Action) (fields : List (List ℕ)) (field : List ℕ) → is_end a ≡ true → is_quote field ≡ false → is_separator (fields_after a fields field) ≡ false
ended_field act.EndRecord fields field h g = last_field fields field g
ended_field act.EndField fields field h g = absurd (cc)
ended_field act.Skip fields field h g = absurd (cc)
ended_field act.Copy fields field h g = absurd (cc)

longer_field : (field : List ℕ) (c : ℕ) → (c == 34) ≡ false → is_quote (field ++ c ∷ []) ≡ false
longer_field [] c h = h
longer_field (x ∷ []) c h = refl
longer_field (x ∷ y ∷ field) c h = refl

next_field : (a : Action) (c : ℕ) (field : List ℕ) → (c == 34) ≡ false → is_quote field ≡ false → is_quote (field_after a c field) ≡ false
next_field act.Copy c field h g = longer_field field c h
next_field act.Skip c field h g = g
next_field act.EndField c field h g = refl
next_field act.EndRecord c field h g = refl

end_unseparated : (t : Bool) (fields : List (List ℕ)) (field : List ℕ) (p : Read) → is_quote field ≡ false → cond t (Some (fields ++ (field ∷ []), st.StartRecord, [])) None ≡ Some p → IsUnseparated p
end_unseparated true fields field p q h =
    let e : (fields ++ (field ∷ []), st.StartRecord, []) ≡ p = cc in
    rw (← e) (record { record_is = last_field fields field q; quotes = refl })
end_unseparated false fields field p q h = absurd (cc)

next_unseparated : (s : State) (fields : List (List ℕ)) (field bytes : List ℕ) (p : Read) → has_quote bytes ≡ false → is_quote field ≡ false → next_record default_config s fields field bytes ≡ Some p → IsUnseparated p
unfolding next_record
next_unseparated s fields field [] p quotes q h = end_unseparated (ends_at_end s) fields field p q h
next_unseparated s fields field (c ∷ bytes) p quotes q h =
    let both = no_first (c == 34) (has_quote bytes) quotes in
    by_test (is_end (step default_config s c).1) refl both.1
    (next_unseparated (step default_config s c).0 (fields_after (step default_config s c).1 fields field) (field_after (step default_config s c).1 c field) bytes p both.1 (next_field (step default_config s c).1 c field both.0 q)) where
      by_test : (t : Bool) → is_end (step default_config s c).1 ≡ t → has_quote bytes ≡ false
          → (next_record default_config (step default_config s c).0 (fields_after (step default_config s c).1 fields field) (field_after (step default_config s c).1 c field) bytes ≡ Some p → IsUnseparated p)
          → IsUnseparated p
      by_test true e none next =
          let f : Some (fields_after (step default_config s c).1 fields field, (step default_config s c).0, bytes) ≡ Some p = rw e at h in
          let same : (fields_after (step default_config s c).1 fields field, (step default_config s c).0, bytes) ≡ p = cc in
          rw (← same) (record { record_is = ended_field (step default_config s c).1 fields field e q; quotes = none })
      by_test false e none next = next (rw e at h)

-- THE SEPARATOR

separator_read : (more : List ℕ) → next_record default_config st.StartRecord [] [] (separator ++ more) ≡ Some ((34 ∷ []) ∷ [], st.StartRecord, more)
unfolding next_record
separator_read more = refl

-- the records of bytes with a separator and more behind
pub record IsSplit (s : State) (bytes more : List ℕ) : Type 0 where
  pub before : before_separator (records_on s (Some (bytes ++ (separator ++ more)))) ≡ records_on s (Some bytes)
  pub separated : has_separator (records_on s (Some (bytes ++ (separator ++ more)))) ≡ true
  pub behind : behind_separator (records_on s (Some (bytes ++ (separator ++ more)))) ≡ records_on st.StartRecord (Some more)

split_none : (s : State) (bytes more : List ℕ) → records_on s (Some (bytes ++ (separator ++ more))) ≡ ((34 ∷ []) ∷ []) ∷ records_on st.StartRecord (Some more) → records_on s (Some bytes) ≡ [] → IsSplit s bytes more
split_none s bytes more e none = record { before = rw (e, none) refl; separated = rw e refl; behind = rw e refl }

split_some : (s t : State) (bytes rest more : List ℕ) (fields : List (List ℕ)) → records_on s (Some (bytes ++ (separator ++ more))) ≡ fields ∷ records_on t (Some (rest ++ (separator ++ more))) → records_on s (Some bytes) ≡ fields ∷ records_on t (Some rest)
    → is_separator fields ≡ false → IsSplit t rest more → IsSplit s bytes more
split_some s t bytes rest more fields all first h later =
    record {
      before = rw (all, first, h) (ap (λ rows. fields ∷ rows) later.before);
      separated = rw (all, h) later.separated;
      behind = rw (all, h) later.behind;
    }

shorter : (n : ℕ) (s : State) (bytes : List ℕ) (p : Read) → length bytes < suc n → ends_at_end s ≡ false → next_record default_config s [] [] bytes ≡ Some p → Behind (length bytes) p → length p.2 < n
shorter n s [] p few between e past = let none = none_at_end default_config s between in absurd (cc)
shorter n s (c ∷ bytes) p few between e past = omega (arith, few, past.fewer)

split : (n : ℕ) (s : State) (bytes more : List ℕ) → length bytes < n → ends_at_end s ≡ false → run s bytes ≡ st.StartRecord → has_quote bytes ≡ false → IsSplit s bytes more
split zero s bytes more few between ends quotes = absurd (omega (arith, few))
split (suc n) s bytes more few between ends quotes = by_next (next_record default_config s [] [] bytes) refl (λ (t : State) (rest : List ℕ). split n t rest more) where
  by_next : (o : Option Read) → next_record default_config s [] [] bytes ≡ o → ((t : State) (rest : List ℕ) → length rest < n → ends_at_end t ≡ false → run t rest ≡ st.StartRecord → has_quote rest ≡ false → IsSplit t rest more) → IsSplit s bytes more
  by_next None e later =
      let next = none_joined s [] [] bytes (separator ++ more) (fresh_start s between) e ∙ (rw ends (separator_read more)) in
      split_none s bytes more (first_record s (bytes ++ (separator ++ more)) ((34 ∷ []) ∷ [], st.StartRecord, more) between next) (no_record s bytes e)
  by_next (Some p) e later =
      let both = some_joined s [] [] bytes (separator ++ more) p (rw ends refl) e in
      let past = next_behind default_config s [] [] bytes p e in
      let plain = next_unseparated s [] [] bytes p quotes refl e in
      split_some s p.1 bytes p.2 more p.0 (first_record s (bytes ++ (separator ++ more)) (p.0, p.1, p.2 ++ (separator ++ more)) between both.next) (first_record s bytes p between e) plain.record_is
      (later p.1 p.2 (shorter n s bytes p few between e past) past.between (both.run_is ∙ ends) plain.quotes)

-- BLOCKS

unseparated : (bytes : List ℕ) → begins_plain bytes ≡ true → past_byte_order_marks bytes ≡ bytes
unseparated [] h = absurd (cc)
unseparated (a ∷ []) h = refl
unseparated (a ∷ b ∷ []) h = refl
unseparated (a ∷ b ∷ c ∷ bytes) h = let e : (a == 0xEF) ≡ false = grind arith in rw e refl

pub all_records : (blocks : List (List ℕ)) → ArePlain blocks → AreOfBlocks (records_on st.StartRecord (Some (separated_text blocks))) blocks
all_records [] plain = tt
all_records (block ∷ blocks) plain =
    let is = split (length block + 1) st.StartRecord block (separated_text blocks) (omega arith) refl (plain_run st.StartRecord block refl plain.0.quotes plain.0.ends) plain.0.quotes in (
      is.before ∙ (rw (unseparated block plain.0.begins) refl),
      is.separated,
      rw is.behind (all_records blocks plain.1),
    )

-- RECORDS OF A BLOCK

-- a record of one field is a separator's where the field is a quote
pub one_field : (fields : List (List ℕ)) (field : List ℕ) → length fields ≡ 1 → field_at fields 0 ≡ Some field → is_separator fields ≡ is_quote field
unfolding field_at
one_field [] field h g = absurd (cc)
one_field (x ∷ []) field h g = let same : x ≡ field = cc in rw same refl
one_field (x ∷ y ∷ fields) field h g = absurd (omega (arith, h))

pub no_field : (fields : List (List ℕ)) → length fields ≡ 1 → field_at fields 0 ≡ None → false ≡ is_separator fields
unfolding field_at
no_field [] h g = absurd (omega (arith, h))
no_field (x ∷ fields) h g = absurd (cc)

pub kept_on : (a b c : BlockRecords) → KeepsBlock a b → KeepsBlock b c → KeepsBlock a c
kept_on a b c h g = record {
  block = g.block;
  several = g.several ∙ h.several;
  behind = λ s. g.behind (h.several ∙ s) ∙ h.behind s;
}

-- A BLOCK AMONG THOSE TO COME

-- what is known of the records of the first block
pub record IsFirst (b : BlockRecords) (block : List ℕ) (blocks : List (List ℕ)) : Type 0 where
  pub is : IsBlock b
  pub left : block_left b ≡ records_of block
  pub behind : AreOfBlocks (behind_block b) blocks

pub first_block : (b : BlockRecords) (block : List ℕ) (blocks : List (List ℕ)) → IsBefore b (block ∷ blocks) → IsFirst b block blocks
unfolding block_left
first_block b block blocks h =
    let over = h.over in
    let several = h.several in
    let records = h.stands.records in record {
      is = record { more = λ e. h.stands.reading; several = λ e. h.stands.reading; separated = λ e f. records.1 };
      left = rw (over, several) records.0;
      behind = rw over records.2;
    }

-- what the block leaves behind stays so while it is read
pub behind_kept : (a b : BlockRecords) (block : List ℕ) (blocks : List (List ℕ)) → a.is_one_of_several ≡ true → IsFirst a block blocks → KeepsBlock a b → AreOfBlocks (behind_block b) blocks
behind_kept a b block blocks several first kept = rw (kept.behind several) first.behind

-- where the block is over, the reader stands before those behind it
pub passed : (a b : BlockRecords) (blocks : List (List ℕ)) → a.is_one_of_several ≡ true → b.is_over ≡ true → KeepsBlock a b → AreOfBlocks (behind_block a) blocks → IsBefore (record b { is_over = false }) blocks
passed a b blocks several over kept h =
    let all = rw (← kept.behind several) at h in record {
      several = kept.several ∙ several;
      over = refl;
      stands = record { reading = kept.block.several (kept.several ∙ several); records = rw over at all };
    }

-- A READER FOR BLOCKS

strip_plain : (bytes : List ℕ) → begins_plain bytes ≡ true → strip_bom bytes ≡ bytes
unfolding strip_bom
strip_plain [] h = refl
strip_plain (a ∷ []) h = refl
strip_plain (a ∷ b ∷ []) h = refl
strip_plain (a ∷ b ∷ c ∷ bytes) h = let e : (a == 0xEF) ≡ false = grind arith in rw e refl

begins_on : (bytes more : List ℕ) → begins_plain bytes ≡ true → begins_plain (bytes ++ more) ≡ true
begins_on [] more h = absurd (cc)
begins_on (a ∷ bytes) more h = h

no_separator_before : (blocks : List (List ℕ)) → ArePlain blocks → strip_bom (separated_text blocks) ≡ separated_text blocks
unfolding strip_bom
no_separator_before [] plain = refl
no_separator_before (block ∷ blocks) plain = strip_plain (block ++ (separator ++ separated_text blocks)) (begins_on block (separator ++ separated_text blocks) plain.0.begins)

-- a reader of the text of all stands before them
pub before_all : (reader : Reader (List ℕ)) (blocks : List (List ℕ)) (text : List ℕ) → ArePlain blocks → text ≡ separated_text blocks → records_left reader ≡ records_on st.StartRecord (Some (strip_bom text)) → IsReading reader → StandsBefore reader blocks
before_all reader blocks text plain is whole reading =
    let all : records_left reader ≡ records_on st.StartRecord (Some (separated_text blocks)) = whole ∙ (rw (is, no_separator_before blocks plain) refl) in
    record { reading = reading; records = rw all (all_records blocks plain) }

pub last_line : (bytes : List ℕ) (b : ℕ) → slice_get bytes (length bytes - 1) ≡ Some b → nat_eq b 10 ≡ true → ends_line bytes ≡ true
last_line [] b h e = absurd (cc)
last_line (x ∷ []) b h e = let same : x ≡ b = cc in rw same e
last_line (x ∷ y ∷ bytes) b h e =
    let place : length (x ∷ y ∷ bytes) - 1 ≡ suc (length bytes) = omega arith in
    let before : length (y ∷ bytes) - 1 ≡ length bytes = omega arith in
    last_line (y ∷ bytes) b (rw before (rw place at h)) e
