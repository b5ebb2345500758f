-- The reading of an image goes from gate to gate.
use Rattle.std.proofs.Common.{◌≡◌, ◌≢◌, inr, ⊎_elim, ℕ, ◌+◌, ◌<◌, ◌≤◌, List, [], ◌∷◌, ◌++◌, length, get_or, drop, sym, refl, ◌∙◌, ap, subst, arith, append_assoc, length-drop, length-append}
use Rattle.std.proofs.lemmas.List.{drop_at, append-nil, drop-drop}
use Rattle.tl_types.specs.declared.commits.Commit.{Commit}
use Rattle.tl_record.specs.Spelling.{spelling, IsCommit}
use Rattle.tl_record.specs.Decoding.{BeginsWith}
use Rattle.tl_journal.specs.Image.{header, OpenGates, size_of, Carries, NoRecord, BreaksAt, ImageStandsOnlyFor, IsDamagedOnlyAt}
use Rattle.tl_journal.specs.Records.{IsOnlyRecord, IsGateBefore, IsBrokenHere}
use Rattle.tl_journal.specs.Opening.{HasReadTo}
use Rattle.tl_journal.proofs.Crash.{opens_more}
use Rattle.tl_journal.proofs.Damage.{named}

-- ONE RECORD

-- where the record ends with the bytes no further byte follows any
pub no_more : (bytes : List ℕ) (at end : ℕ) (d : Commit) → end ≡ at + length (spelling d) → length bytes ≤ end → at ≤ length bytes → IsOnlyRecord (drop at bytes) d → NoRecord (drop at bytes)
no_more bytes at end d is le at_le only c x rest fits e = counts (spelling c) (spelling d) bytes at end x rest is le at_le e (ap (λ c. length (spelling c)) (only c (x ∷ rest) (fits, e)))
  where
    counts : (r s bytes : List ℕ) (at end x : ℕ) (rest : List ℕ) → end ≡ at + length s → length bytes ≤ end → at ≤ length bytes → drop at bytes ≡ r ++ x ∷ rest → length r ≡ length s → ⊥
    counts r s bytes at end x rest is le at_le e same = omega (arith, is, le, at_le, length-drop at bytes, ap length e, length-append r (x ∷ rest), same)

-- what stands behind the record is what follows it
pub begins_there : (bytes rest : List ℕ) (c : Commit) (at end : ℕ) → BeginsWith (drop at bytes) c rest → end ≡ at + length (spelling c) → BeginsWith (drop at bytes) c (drop end bytes)
begins_there bytes rest c at end b is = (b.0, b.1 ∙ ap (λ l. spelling c ++ l) (sym (behind (spelling c) b.1 is)))
  where
    behind : (r : List ℕ) → drop at bytes ≡ r ++ rest → end ≡ at + length r → drop end bytes ≡ rest
    behind r e is = ap (λ n. drop n bytes) is ∙ sym (drop-drop (length r) at bytes) ∙ ap (λ l. drop (length r) l) e ∙ drop_at r rest (length r) refl

-- THE COMMITS BEHIND IT

cancel : (r s a b : List ℕ) → s ≡ r → r ++ a ≡ s ++ b → a ≡ b
cancel r s a b same e = sym (drop_at r a (length r) refl) ∙ ap (λ l. drop (length r) l) (e ∙ ap (λ l. l ++ b) same) ∙ drop_at r b (length r) refl

-- a list that goes on with a gate and a commit's record goes on with that commit
pub next_of : (gate : ℕ) (c : Commit) (next : List ℕ) (cs : List Commit) → gate ≢ 0 → IsOnlyRecord (spelling c ++ next) c → Carries cs (gate ∷ (spelling c ++ next)) → (later : List Commit) × (cs ≡ c ∷ later) × Carries later next
next_of gate c next [] is_open only f = absurd (is_open (ap (λ l. get_or l 0 0) (f.2.1 ∙ ap (λ l. l ++ 0 ∷ f.2.0) f.1)))
next_of gate c next (x ∷ cs) is_open only f =
    let o = f.1 in
    let t = f.2.0 in
    let e : gate ∷ (spelling c ++ next) ≡ o.0 ∷ ((spelling x ++ o.1) ++ 0 ∷ t) = f.2.1 ∙ ap (λ l. l ++ 0 ∷ t) o.4 in
    let behind : spelling c ++ next ≡ spelling x ++ (o.1 ++ 0 ∷ t) = ap (λ l. drop 1 l) e ∙ append_assoc (spelling x) o.1 (0 ∷ t) in
    let same : x ≡ c = only x (o.1 ++ 0 ∷ t) (o.3, behind) in
    (cs, ap (λ d. d ∷ cs) same, (o.1, o.5, (t, cancel (spelling c) (spelling x) next (o.1 ++ 0 ∷ t) (ap (λ d. spelling d) same) behind)))

counted : (g : ℕ) (r s t front : List ℕ) (n : ℕ) → n ≡ length front → front ≡ g ∷ (s ++ t) → s ≡ r → n ≡ (1 + length r) + length t
counted g r s t front n at is same = omega (arith, at, ap length is, length-append s t, ap length same)

-- a broken gate is no gate with a record, and stands behind it
pub breaks_on : (gate : ℕ) (c : Commit) (next : List ℕ) (n : ℕ) (cs : List Commit) (front : List ℕ) (last : ℕ) (more : List ℕ) → IsCommit c → IsOnlyRecord (spelling c ++ next) c → 0 < length next → OpenGates cs front → gate ∷ (spelling c ++ next) ≡ front ++ last ∷ more → n ≡ length front → last ≢ 0 → NoRecord more → (m : ℕ) × (n ≡ (1 + length (spelling c)) + m) × BreaksAt m next
breaks_on gate c [] n cs front last more fits only some o e at is_open none = absurd (omega (arith, some))
breaks_on gate c (y ∷ ys) n [] front last more fits only some o e at is_open none =
    absurd (none c y ys fits (sym (ap (λ l. drop 1 l) (e ∙ ap (λ l. l ++ last ∷ more) o))))
breaks_on gate c (y ∷ ys) n (x ∷ cs) front last more fits only some o e at is_open none =
    let whole : gate ∷ (spelling c ++ y ∷ ys) ≡ o.0 ∷ ((spelling x ++ o.1) ++ last ∷ more) = e ∙ ap (λ l. l ++ last ∷ more) o.4 in
    let behind : spelling c ++ y ∷ ys ≡ spelling x ++ (o.1 ++ last ∷ more) = ap (λ l. drop 1 l) whole ∙ append_assoc (spelling x) o.1 (last ∷ more) in
    let same : x ≡ c = only x (o.1 ++ last ∷ more) (o.3, behind) in
    let spelled : spelling x ≡ spelling c = ap (λ d. spelling d) same in
    let b : BreaksAt (length o.1) (y ∷ ys) = record {
      commits = cs;
      front = o.1;
      gate = last;
      more = more;
      opens = o.5;
      rest_is = cancel (spelling c) (spelling x) (y ∷ ys) (o.1 ++ last ∷ more) spelled behind;
      at_is = refl;
      is_open = is_open;
      no_record = none;
    } in
    (length o.1, counted o.0 (spelling c) (spelling x) o.1 front n at o.4 spelled, b)

-- behind a closed gate stands no commit, and no broken gate
none_later : (more : List ℕ) (later : List Commit) → Carries later (0 ∷ more) → later ≡ []
none_later more [] f = refl
none_later more (x ∷ cs) f = absurd (f.1.2 (sym (ap (λ l. get_or l 0 0) (f.2.1 ∙ ap (λ l. l ++ 0 ∷ f.2.0) f.1.4))))

no_break : (more : List ℕ) (cs : List Commit) (front : List ℕ) (gate : ℕ) (rest : List ℕ) → OpenGates cs front → 0 ∷ more ≡ front ++ gate ∷ rest → gate ≢ 0 → ⊥
no_break more [] front gate rest o e is_open = is_open (sym (ap (λ l. get_or l 0 0) (e ∙ ap (λ l. l ++ gate ∷ rest) o)))
no_break more (x ∷ cs) front gate rest o e is_open = o.2 (sym (ap (λ l. get_or l 0 0) (e ∙ ap (λ l. l ++ gate ∷ rest) o.4)))

-- behind a broken gate stands no commit, and no other broken gate
some_byte : (ys t more : List ℕ) (x : Commit) (last : ℕ) → IsCommit x → NoRecord more → more ≡ spelling x ++ (ys ++ last ∷ t) → ⊥
some_byte [] t more x last fits none e = none x last t fits e
some_byte (y ∷ ys) t more x last fits none e = none x y (ys ++ last ∷ t) fits e

broken_later : (gate : ℕ) (more : List ℕ) (later : List Commit) → gate ≢ 0 → NoRecord more → Carries later (gate ∷ more) → ⊥
broken_later gate more [] is_open none f = is_open (ap (λ l. get_or l 0 0) (f.2.1 ∙ ap (λ l. l ++ 0 ∷ f.2.0) f.1))
broken_later gate more (x ∷ cs) is_open none f =
    let o = f.1 in
    some_byte o.1 f.2.0 more x 0 o.3 none (ap (λ l. drop 1 l) (f.2.1 ∙ ap (λ l. l ++ 0 ∷ f.2.0) o.4) ∙ append_assoc (spelling x) o.1 (0 ∷ f.2.0))

break_here : (gate : ℕ) (more : List ℕ) (n : ℕ) (cs : List Commit) (front : List ℕ) (last : ℕ) (rest : List ℕ) → NoRecord more → OpenGates cs front → gate ∷ more ≡ front ++ last ∷ rest → n ≡ length front → n ≡ 0
break_here gate more n [] front last rest none o e at = at ∙ ap length o
break_here gate more n (x ∷ cs) front last rest none o e at = absurd (some_byte o.1 rest more x last o.3 none (ap (λ l. drop 1 l) (e ∙ ap (λ l. l ++ last ∷ rest) o.4) ∙ append_assoc (spelling x) o.1 (last ∷ rest)))

-- THE IMAGE

pub size_of-snoc : (cs : List Commit) (c : Commit) → size_of (cs ++ c ∷ []) ≡ size_of cs + (1 + length (spelling c))
size_of-snoc [] c = added (spelling c)
  where
    added : (r : List ℕ) → 1 + length r + 0 ≡ 0 + (1 + length r)
    added r = omega arith
size_of-snoc (x ∷ cs) c = added (length (spelling x)) (length (spelling c)) (size_of (cs ++ c ∷ [])) (size_of cs) (size_of-snoc cs c)
  where
    added : (a b n m : ℕ) → n ≡ m + (1 + b) → 1 + a + n ≡ 1 + a + m + (1 + b)
    added a b n m is = omega (arith, is)

joined : (front r next : List ℕ) (gate : ℕ) → (header ++ front) ++ (gate ∷ (r ++ next)) ≡ (header ++ (front ++ gate ∷ r)) ++ next
joined front r next gate = sym (append_assoc (header ++ front) (gate ∷ r) next) ∙ ap (λ l. l ++ next) (append_assoc header front (gate ∷ r))

moved : (front r : List ℕ) (gate at end : ℕ) → at ≡ length (header ++ front) → end ≡ at + (1 + length r) → end ≡ length (header ++ (front ++ gate ∷ r))
moved front r gate at end was is = omega (arith, was, is, length-append header front, length-append header (front ++ gate ∷ r), length-append front (gate ∷ r))

-- one commit more has been read
pub read_on : (found : List Commit) (c : Commit) (at end : ℕ) (image : List ℕ) → HasReadTo found at image → IsGateBefore (drop at image) c (drop end image) → end ≡ at + (1 + length (spelling c)) → HasReadTo (found ++ c ∷ []) end image
read_on found c at end image was g is = record {
  front = was.front ++ g.gate ∷ spelling c;
  opens = opens_more found was.front c g.gate g.is_open g.fits was.opens;
  image_is = was.image_is ∙ ap (λ l. (header ++ was.front) ++ l) g.rest_is ∙ joined was.front (spelling c) (drop end image) g.gate;
  at_is = moved was.front (spelling c) g.gate at end was.at_is is;
  gate_is = placed at end (size_of found) (length (spelling c)) (size_of (found ++ c ∷ [])) was.gate_is is (size_of-snoc found c);
  onward = λ cs s.
      let p = was.onward cs s in
      let q = next_of g.gate c (drop end image) p.0 g.is_open g.only (subst (λ l. Carries p.0 l) g.rest_is p.2) in
      (q.0, p.1 ∙ ap (λ l. found ++ l) q.1 ∙ sym (append_assoc found (c ∷ []) q.0), q.2);
  damage = λ n b.
      let p = was.damage n b in
      let r : BreaksAt p.0 (g.gate ∷ (spelling c ++ drop end image)) = subst (λ l. BreaksAt p.0 l) g.rest_is p.2 in
      let q = breaks_on g.gate c (drop end image) p.0 r.commits r.front r.gate r.more g.fits g.only g.more r.opens r.rest_is r.at_is r.is_open r.no_record in
      (q.0, further n at end p.0 q.0 (length (spelling c)) p.1 q.1 is, q.2);
}
  where
    placed : (at end n r m : ℕ) → at ≡ 16 + n → end ≡ at + (1 + r) → m ≡ n + (1 + r) → end ≡ 16 + m
    placed at end n r m was is more = omega (arith, was, is, more)

    further : (n at end a b r : ℕ) → n ≡ at + a → a ≡ (1 + r) + b → end ≡ at + (1 + r) → n ≡ end + b
    further n at end a b r p q is = omega (arith, p, q, is)

-- the record behind a gate
pub behind_gate : (image : List ℕ) (c : Commit) (at end : ℕ) → IsGateBefore (drop at image) c (drop end image) → drop (at + 1) image ≡ spelling c ++ drop end image
behind_gate image c at end g = sym (drop-drop 1 at image) ∙ ap (λ l. drop 1 l) g.rest_is

-- at the closed gate the image is a journal's
pub closed_image : (found : List Commit) (at : ℕ) (image tail : List ℕ) → HasReadTo found at image → drop at image ≡ 0 ∷ tail → ImageStandsOnlyFor found image
closed_image found at image tail was e = record {
  stands = (was.front, was.opens, (tail, was.image_is ∙ ap (λ l. (header ++ was.front) ++ l) e));
  only = λ cs s.
      let p = was.onward cs s in
      p.1 ∙ ap (λ l. found ++ l) (none_later tail p.0 (subst (λ l. Carries p.0 l) e p.2)) ∙ append-nil found;
  sound = λ n d. ⊎_elim
      (λ l. l.1.1 (named image (was.front ++ drop at image) (was.image_is ∙ append_assoc header was.front (drop at image))))
      (λ b.
      let p = was.damage n b in
      let r : BreaksAt p.0 (0 ∷ tail) = subst (λ l. BreaksAt p.0 l) e p.2 in
      no_break tail r.commits r.front r.gate r.more r.opens r.rest_is r.is_open)
      d;
}

-- at a broken gate the image is damaged
pub broken_image : (found : List Commit) (at : ℕ) (image : List ℕ) → HasReadTo found at image → IsBrokenHere (drop at image) → IsDamagedOnlyAt at image
broken_image found at image was h = record {
  here = inr (was.front ++ h.gate ∷ h.more, length was.front, was.image_is ∙ ap (λ l. (header ++ was.front) ++ l) h.rest_is ∙ append_assoc header was.front (h.gate ∷ h.more), omega (arith, was.at_is, length-append header was.front), broken);
  only = λ n d. ⊎_elim
      (λ l. absurd (l.1.1 (named image (was.front ++ drop at image) (was.image_is ∙ append_assoc header was.front (drop at image)))))
      (λ b.
      let p = was.damage n b in
      let r : BreaksAt p.0 (h.gate ∷ h.more) = subst (λ l. BreaksAt p.0 l) h.rest_is p.2 in
      let none : p.0 ≡ 0 = break_here h.gate h.more p.0 r.commits r.front r.gate r.more h.no_record r.opens r.rest_is r.at_is in
      p.1 ∙ ap (λ m. at + m) none ∙ omega arith)
      d;
  no_journal = λ cs s.
      let p = was.onward cs s in broken_later h.gate h.more p.0 h.is_open h.no_record (subst (λ l. Carries p.0 l) h.rest_is p.2);
}
  where
    broken : BreaksAt (length was.front) (was.front ++ h.gate ∷ h.more)
    broken = record { commits = found; front = was.front; gate = h.gate; more = h.more; opens = was.opens; rest_is = refl; at_is = refl; is_open = h.is_open; no_record = h.no_record }
