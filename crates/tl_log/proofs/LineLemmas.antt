-- The lines of commits, one after the other, and the name of a table.
use Rattle.std.proofs.Common.{◌≡◌, ℕ, zero, suc, ◌+◌, ◌-◌, ◌≤◌, arith, List, [], ◌∷◌, ◌++◌, length, drop, Option, Some, None, ap, sym, ◌∙◌, slice_get, refl}
use Rattle.std.specs.Prelude.{option_map, codes, ℤ}
use Rattle.std.specs.Fmt.{decimal, signed_decimal}
use Rattle.std.proofs.lemmas.List.{append_assoc, append-nil}
use Rattle.std.proofs.Math.ListN.{drop_of_length-le}
use Rattle.std.proofs.lemmas.Option.{slice_get_past}
use Rattle.tl_types.specs.declared.commits.Commit.{Commit}
use Rattle.tl_types.specs.declared.commits.Body.{Body}
use Rattle.tl_types.specs.declared.commits.Body.TheVariants as body
use Rattle.tl_types.specs.History.{closed_by, opened_by}
use Rattle.tl_types.specs.Plain as plain
use Rattle.tl_log.specs.Listing.{name_of, name_at, deed_words, commit_line, lines_from}

-- the name of a table that is there
named : (found : Option plain.Table) (schema : plain.Schema)
    → Some schema ≡ option_map (λ (t : plain.Table). t.schema) found → schema.name ≡ name_of found
named None schema h = cc
named (Some t) schema h = cc

pub name_there : (db : plain.Database) (table : ℕ) (schema : plain.Schema)
    → Some schema ≡ option_map (λ (t : plain.Table). t.schema) (slice_get db.tables table)
    → schema.name ≡ name_at db table
name_there db table schema h = named (slice_get db.tables table) schema h

-- past the last table there is none
pub name_missing : (db : plain.Database) (table : ℕ) → length db.tables ≤ table → [] ≡ name_at db table
name_missing db table h = rw (slice_get_past db.tables table h) refl

-- the words of each kind of commit, from the numbers of rows that it closes and opens
pub words_of_create : (b : Body) (schema : plain.Schema) (closed opened : ℕ) → b ≡ body.Create schema → closed ≡ length (closed_by b) → opened ≡ length (opened_by b)
    → codes "create," ++ (decimal closed ++ (codes "," ++ (decimal opened ++ codes ",,\n"))) ≡ deed_words b
words_of_create b schema closed opened is c o = rw (c, o, is) refl

pub words_of_change : (b : Body) (change : plain.Change) (closed opened : ℕ) → b ≡ body.Change change → closed ≡ length (closed_by b) → opened ≡ length (opened_by b)
    → codes "change," ++ (decimal closed ++ (codes "," ++ (decimal opened ++ codes ",,\n"))) ≡ deed_words b
words_of_change b change closed opened is c o = rw (c, o, is) refl

pub words_of_moment : (b : Body) (moment : ℤ) (closed opened : ℕ) → b ≡ body.Moment moment → closed ≡ length (closed_by b) → opened ≡ length (opened_by b)
    → codes "moment," ++ (decimal closed ++ (codes "," ++ (decimal opened ++ (codes "," ++ (signed_decimal moment ++ codes ",\n"))))) ≡ deed_words b
words_of_moment b moment closed opened is c o = rw (c, o, is) refl

pub words_of_forget : (b : Body) (number floor closed opened : ℕ) → b ≡ body.Forget number floor → closed ≡ length (closed_by b) → opened ≡ length (opened_by b)
    → codes "forget," ++ (decimal closed ++ (codes "," ++ (decimal opened ++ (codes ",," ++ (decimal floor ++ codes "\n"))))) ≡ deed_words b
words_of_forget b number floor closed opened is c o = rw (c, o, is) refl

-- what stands from a place on is the item there and then what stands behind it
pub parted : {X : Type 0} (xs : List X) (n : ℕ) (x : X) → Some x ≡ slice_get xs n
    → drop n xs ≡ x ∷ drop (suc n) xs
parted [] n x h = cc
parted (y ∷ xs) zero x h = cc
parted (y ∷ xs) (suc n) x h = parted xs n x h

-- one line more
pub lines_step : (db : plain.Database) (commits : List Commit) (n : ℕ) (c : Commit)
    → Some c ≡ slice_get commits (n + 1 - 1)
    → lines_from db (n + 1) (drop n commits)
    ≡ commit_line db (n + 1) c ++ lines_from db (n + 1 + 1) (drop (n + 1) commits)
lines_step db commits n c h =
    let same : n + 1 - 1 ≡ n = omega arith in
    let next : n + 1 ≡ suc n = omega arith in
    ap (lines_from db (n + 1)) (parted commits n c (rw same at h))
    ∙ ap (λ m. commit_line db (n + 1) c ++ lines_from db (n + 1 + 1) (drop m commits)) (sym next)

-- what is put behind, where the rest begins with it
pub put_behind : (out new line rest later all : List ℕ) → out ++ rest ≡ all → rest ≡ line ++ later
    → new ≡ out ++ line → new ++ later ≡ all
put_behind out new line rest later all whole begins is =
    ap (λ o. o ++ later) is ∙ append_assoc out line later ∙ ap (λ r. out ++ r) (sym begins) ∙ whole

-- one line more behind what is there
pub lines_more : (db : plain.Database) (commits : List Commit) (n : ℕ) (c : Commit) (out new all : List ℕ)
    → Some c ≡ slice_get commits (n + 1 - 1)
    → out ++ lines_from db (n + 1) (drop n commits) ≡ all → new ≡ out ++ commit_line db (n + 1) c
    → new ++ lines_from db (n + 1 + 1) (drop (n + 1) commits) ≡ all
lines_more db commits n c out new all there whole is =
    put_behind out new (commit_line db (n + 1) c) (lines_from db (n + 1) (drop n commits))
    (lines_from db (n + 1 + 1) (drop (n + 1) commits)) all whole (lines_step db commits n c there) is

-- nothing is behind
pub nothing_behind : (out rest all : List ℕ) → rest ≡ [] → out ++ rest ≡ all → out ≡ all
nothing_behind out rest all none whole =
    sym (append-nil out) ∙ ap (λ r. out ++ r) (sym none) ∙ whole

-- behind the last commit there is no line
pub lines_end : (db : plain.Database) (commits : List Commit) (n : ℕ) (out all : List ℕ)
    → length commits ≤ n → out ++ lines_from db (n + 1) (drop n commits) ≡ all → out ≡ all
lines_end db commits n out all h whole =
    nothing_behind out (lines_from db (n + 1) (drop n commits)) all
    (ap (lines_from db (n + 1)) (drop_of_length-le commits h)) whole
