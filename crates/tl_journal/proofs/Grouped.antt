-- The body of a group, and the image that it makes behind an opened gate.
use Rattle.std.proofs.Common.{◌≡◌, ◌≢◌, ◌≤◌, ℕ, List, [], ◌∷◌, ◌++◌, length, sym, refl, ◌∙◌, ap, subst, arith, append_assoc, length-append}
use Rattle.std.proofs.lemmas.List.{append-nil}
use Rattle.tl_types.specs.declared.commits.Commit.{Commit}
use Rattle.tl_record.specs.Spelling.{spelling, IsCommit}
use Rattle.tl_journal.specs.Image.{header, OpenGates, ImageStandsFor, IsGroup, body_of, IsBodyOfAll}

pub one_open : ◌≢◌ {A = ℕ} 1 0
one_open e = omega (arith, e)

-- a body without its last gate
abbrev pub inner_of : List Commit → List ℕ
inner_of [] = []
inner_of (c ∷ []) = spelling c
inner_of (c ∷ d ∷ cs) = spelling c ++ 1 ∷ inner_of (d ∷ cs)

pub last_gate : (group : List Commit) → IsGroup group → body_of group ≡ inner_of group ++ 0 ∷ []
last_gate [] is = absurd is
last_gate (c ∷ []) is = refl
last_gate (c ∷ d ∷ cs) is = ap (λ l. spelling c ++ 1 ∷ l) (last_gate (d ∷ cs) is.1) ∙ sym (append_assoc (spelling c) (1 ∷ inner_of (d ∷ cs)) (0 ∷ []))

-- behind an open gate a body is open gates with their records, up to its last gate
opens_group : (gate : ℕ) (group : List Commit) → gate ≢ 0 → IsGroup group → OpenGates group (gate ∷ inner_of group)
opens_group gate [] is_open is = absurd is
opens_group gate (c ∷ []) is_open is = (gate, [], is_open, is, ap (λ l. gate ∷ l) (sym (append-nil (spelling c))), refl)
opens_group gate (c ∷ d ∷ cs) is_open is = (gate, 1 ∷ inner_of (d ∷ cs), is_open, is.0, refl, opens_group 1 (d ∷ cs) one_open is.1)

opens_behind : (cs group : List Commit) (front more : List ℕ) → OpenGates cs front → OpenGates group more → OpenGates (cs ++ group) (front ++ more)
opens_behind [] group front more is o = subst (λ l. OpenGates group (l ++ more)) (sym is) o
opens_behind (x ∷ cs) group front more is o = (is.0, is.1 ++ more, is.2, is.3, ap (λ l. l ++ more) is.4 ∙ ap (λ l. is.0 ∷ l) (append_assoc (spelling x) is.1 more), opens_behind cs group is.1 more is.5 o)

-- a group more behind open gates
pub opens_all : (cs group : List Commit) (front : List ℕ) (gate : ℕ) → gate ≢ 0 → IsGroup group → OpenGates cs front → OpenGates (cs ++ group) (front ++ gate ∷ inner_of group)
opens_all cs group front gate is_open is o = opens_behind cs group front (gate ∷ inner_of group) o (opens_group gate group is_open is)

-- open gates, one more, and the body of a group are the image of all these commits
pub all_stand : (cs group : List Commit) (front body : List ℕ) (gate : ℕ) → gate ≢ 0 → OpenGates cs front → IsBodyOfAll group body → ImageStandsFor (cs ++ group) ((header ++ front) ++ gate ∷ body)
all_stand cs group front body gate is_open o is = (
  front ++ gate ∷ inner_of group,
  opens_all cs group front gate is_open is.0 o,
  ([], ap (λ l. (header ++ front) ++ gate ∷ l) (is.1 ∙ last_gate group is.0) ∙ sym (append_assoc (header ++ front) (gate ∷ inner_of group) (0 ∷ [])) ∙ ap (λ l. l ++ 0 ∷ []) (append_assoc header front (gate ∷ inner_of group))),
)

-- one commit more in a group: its last gate is opened, and the record with a closed gate follows
pub body_of-snoc : (group : List Commit) (c : Commit) → IsGroup group → body_of (group ++ c ∷ []) ≡ inner_of group ++ 1 ∷ (spelling c ++ 0 ∷ [])
body_of-snoc [] c is = absurd is
body_of-snoc (x ∷ []) c is = refl
body_of-snoc (x ∷ y ∷ cs) c is = ap (λ l. spelling x ++ 1 ∷ l) (body_of-snoc (y ∷ cs) c is.1) ∙ sym (append_assoc (spelling x) (1 ∷ inner_of (y ∷ cs)) (1 ∷ (spelling c ++ 0 ∷ [])))

-- the body of a group has a byte at least
pub some_byte : (group : List Commit) (body : List ℕ) → IsBodyOfAll group body → 1 ≤ length body
some_byte group body is = counted (inner_of group) (is.1 ∙ last_gate group is.0)
  where
    counted : (r : List ℕ) → body ≡ r ++ 0 ∷ [] → 1 ≤ length body
    counted r e = omega (arith, ap length e, length-append r (0 ∷ []))

-- one commit more is a group
pub group-snoc : (group : List Commit) (c : Commit) → IsGroup group → IsCommit c → IsGroup (group ++ c ∷ [])
group-snoc [] c is one = absurd is
group-snoc (x ∷ []) c is one = (is, one)
group-snoc (x ∷ y ∷ cs) c is one = (is.0, group-snoc (y ∷ cs) c is.1 one)
