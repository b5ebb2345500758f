-- What is built is the checkpoint.
use Rattle.std.proofs.Common.{◌≡◌, ℕ, suc, ◌+◌, ◌<◌, ◌≤◌, Bool, true, false, cond, nat_le, List, [], ◌∷◌, length, map, Some, refl, sym, ap, ◌∙◌, subst, arith}
use Rattle.std.specs.List.{filter, enumerate_from}
use Rattle.std.proofs.lemmas.Bool.Decides.{nat_tests}
use Rattle.std.proofs.lemmas.List.{length-map}
use Rattle.tl_types.specs.declared.events.Event.{Event}
use Rattle.tl_types.specs.declared.events.ValidEvent.{ValidEvent}
use Rattle.tl_types.specs.Plain as plain
use Rattle.tl_types.specs.History.{is_visible, rows_of}
use Rattle.tl_types.specs.Events.{ids_where, events_of, place_of, checkpoint_rows}
use Rattle.tl_types.specs.Checkpoints.{Checkpoint, checkpoint_of, checkpoint_at, valid_events_of}
use Rattle.tl_types.specs.WellFormed.{AreWellFormed}
use Rattle.tl_types.specs.Walks.{standing}
use Rattle.tl_bits.specs.Sets.{members}
use Rattle.tl_index.specs.Tables.{TableOf, rows_in}
use Rattle.tl_index.proofs.ReadLemmas.{There, there}

-- the ids in the set of the rows that pass
members_from : (test : plain.Row → Bool) (n : ℕ) (rows : List plain.Row) → map (λ (r : ℕ × Bool). r.0) (filter (λ (r : ℕ × Bool). r.1) (enumerate_from n (map test rows))) ≡ map (λ (r : ℕ × plain.Row). r.0) (filter (λ (r : ℕ × plain.Row). test r.1) (enumerate_from n rows))
members_from test n [] = refl
members_from test n (r ∷ rows) = by_test (test r) (members_from test (n + 1) rows) where
  by_test : (b : Bool) → map (λ (r : ℕ × Bool). r.0) (filter (λ (r : ℕ × Bool). r.1) (enumerate_from (n + 1) (map test rows))) ≡ map (λ (r : ℕ × plain.Row). r.0) (filter (λ (r : ℕ × plain.Row). test r.1) (enumerate_from (n + 1) rows))
      → map (λ (r : ℕ × Bool). r.0) (cond b ((n, b) ∷ filter (λ (r : ℕ × Bool). r.1) (enumerate_from (n + 1) (map test rows))) (filter (λ (r : ℕ × Bool). r.1) (enumerate_from (n + 1) (map test rows))))
      ≡ map (λ (r : ℕ × plain.Row). r.0) (cond b ((n, r) ∷ filter (λ (r : ℕ × plain.Row). test r.1) (enumerate_from (n + 1) rows)) (filter (λ (r : ℕ × plain.Row). test r.1) (enumerate_from (n + 1) rows)))
  by_test true h = ap (λ ids. n ∷ ids) h
  by_test false h = h

-- all rows have begun by the present version
all_begun : (v n : ℕ) (rows : List plain.Row) → AreWellFormed v rows → length (map (λ (r : ℕ × plain.Row). r.0) (filter (λ (r : ℕ × plain.Row). nat_le r.1.from v) (enumerate_from n rows))) ≡ length rows
all_begun v n [] h = refl
all_begun v n (r ∷ rows) h =
    let e : nat_le r.from v ≡ true = begun r.from h.0.begun in
    rw e (ap suc (all_begun v (n + 1) rows h.1)) where
      begun : (from : ℕ) → from ≤ v → nat_le from v ≡ true
      begun from l = grind (arith, nat_tests)

-- the parts of a checkpoint, as they are made
pub record AreParts (rows : List plain.Row) (version place : ℕ) (set : List Bool) : Type 0 where
  pub set_is : set ≡ standing rows version
  pub place_is : place ≡ place_of rows version
  pub formed : AreWellFormed version rows

pub parts_are : (db : plain.Database) (table : ℕ) (timed : TableOf) (version place : ℕ) (set : List Bool) (events : List Event) → timed ≡ record { db = db; number = table } → version ≡ timed.db.version → set ≡ standing (rows_of db table) version → events ≡ events_of (rows_in timed) timed.db.version → AreWellFormed timed.db.version (rows_in timed) → place ≡ length events → AreParts (rows_of db table) db.version place set
parts_are db table timed version place set events is version_is set_is events_are formed place_is = record {
  set_is = set_is ∙ ap (standing (rows_of db table)) (version_is ∙ ap (λ (t : TableOf). t.db.version) is);
  place_is = place_is ∙ ap length events_are ∙ ap (λ (t : TableOf). place_of (rows_in t) t.db.version) is;
  formed = subst (λ (t : TableOf). AreWellFormed t.db.version (rows_in t)) is formed;
}

pub built : (db : plain.Database) (table version place : ℕ) (set : List Bool) (valid : List ValidEvent) (result : Checkpoint) → table < length db.tables → version ≡ db.version → AreParts (rows_of db table) db.version place set → valid ≡ (checkpoint_at db table db.version).valid_events
    → result ≡ record { table = table; version = version; place = place; begun = length set; rows = members set; valid_events = valid } → result ≡ checkpoint_at db table db.version
built db table version place set valid result l version_is are valid_is_ is = from (there db.tables table l) where
  from : There db.tables table → result ≡ checkpoint_at db table db.version
  from t =
      let own : checkpoint_at db table db.version ≡ checkpoint_of table db.version (Some t.table) = ap (checkpoint_of table db.version) t.is in
      let rows : rows_of db table ≡ t.table.rows = (rw t.is refl) in
      let here = subst (λ rs. AreParts rs db.version place set) rows are in
      let begun : length set ≡ length (ids_where (λ row. nat_le row.from db.version) t.table.rows) = ap length here.set_is ∙ length-map t.table.rows (is_visible db.version) ∙ sym (all_begun db.version 0 t.table.rows here.formed) in
      let ids : members set ≡ checkpoint_rows t.table.rows db.version = ap members here.set_is ∙ members_from (is_visible db.version) 0 t.table.rows in
      let valid_here : valid ≡ valid_events_of t.table db.version = valid_is_ ∙ ap (λ (m : Checkpoint). m.valid_events) own in
      is ∙ parts version db.version place (place_of t.table.rows db.version) (length set) (length (ids_where (λ row. nat_le row.from db.version) t.table.rows)) (members set) (checkpoint_rows t.table.rows db.version) valid (valid_events_of t.table db.version) version_is here.place_is begun ids valid_here ∙ sym own where
        parts : (a b m n p q : ℕ) (is js : List ℕ) (us vs : List ValidEvent) → a ≡ b → m ≡ n → p ≡ q → is ≡ js → us ≡ vs → ◌≡◌ {A = Checkpoint} (record { table = table; version = a; place = m; begun = p; rows = is; valid_events = us }) (record { table = table; version = b; place = n; begun = q; rows = js; valid_events = vs })
        parts a b m n p q is js us vs e f g h k = rw (e, f, g, h, k) refl
