-- The blocks of a session's jobs: the block of a job stands behind as many others as the session has
-- jobs of its own before it.
use Rattle.std.proofs.Common.{◌≡◌, ℕ, ◌+◌, ◌<◌, ◌≤◌, ◌==◌, Bool, true, false, cond, length, slice_index_or, map, take, drop, slice_get, Some, List, [], ◌∷◌, ◌++◌, refl, sym, ap, ◌∙◌, arith, append_assoc, length-append}
use Rattle.std.specs.Option.{option_map, unwrap_or}
use Rattle.std.proofs.lemmas.List.{map-append, take-append-drop}
use Rattle.std.proofs.lemmas.Option.{slice_get-map}
use Rattle.tl_csv.specs.LentBlocks.{block_at}
use Rattle.tl_jobs.specs.declared.jobs.LentJob.{LentJob}
use Rattle.tl_jobs.specs.Jobs.{Job, job_of}
use Rattle.tl_session.specs.Phases.{own_jobs}
use Rattle.tl_jobs.specs.Reading.{HasBlockAt, block_of, blocks_of}
use Rattle.tl_session.proofs.ChainLemmas.{own_next, own_split}
use Rattle.tl_session.proofs.ListLemmas.{item_at}

-- a session has no more jobs of its own than there are
pub own_few : (s : ℕ) (jobs : List Job) → length (own_jobs s jobs) ≤ length jobs
own_few s [] = omega arith
own_few s (j ∷ js) = by_test (j.session == s) (own_few s js) where
  by_test : (b : Bool) → length (own_jobs s js) ≤ length js → length (cond b (j ∷ own_jobs s js) (own_jobs s js)) ≤ length (j ∷ js)
  by_test true few = omega (arith, few)
  by_test false few = omega (arith, few)

-- so many jobs before it, the next one, and those behind it
own_around : (s i : ℕ) (lent : List LentJob) (d : LentJob) → i < length lent → (slice_index_or lent i d).session ≡ s
    → own_jobs s (map job_of lent) ≡ own_jobs s (map job_of (take i lent)) ++ job_of (slice_index_or lent i d) ∷ own_jobs s (map job_of (drop (i + 1) lent))
own_around s i lent d inside own =
    let front = own_jobs s (map job_of (take i lent)) in
    let job = job_of (slice_index_or lent i d) in
    let rest = own_jobs s (map job_of (drop (i + 1) lent)) in
    ap (λ l. own_jobs s (map job_of l)) (sym (take-append-drop (i + 1) lent)) ∙ ap (own_jobs s) (map-append job_of (take (i + 1) lent) (drop (i + 1) lent)) ∙ own_split s (map job_of (take (i + 1) lent)) (map job_of (drop (i + 1) lent))
    ∙ ap (λ l. l ++ rest) (own_next s i lent d inside own) ∙ append_assoc front (job ∷ []) rest

-- the block of the next one
pub block_here : (s i : ℕ) (lent : List LentJob) (d : LentJob) (blocks : List (List ℕ)) (place : ℕ) → i < length lent → (slice_index_or lent i d).session ≡ s
    → blocks ≡ blocks_of (own_jobs s (map job_of lent)) → place ≡ length (own_jobs s (map job_of (take i lent))) → HasBlockAt (slice_index_or lent i d) blocks place
block_here s i lent d blocks place inside own blocks_are place_is =
    let front = own_jobs s (map job_of (take i lent)) in
    let job = job_of (slice_index_or lent i d) in
    let rest = own_jobs s (map job_of (drop (i + 1) lent)) in
    let block : Job → List ℕ = λ j. block_of j.block in
    ap (block_at blocks) place_is ∙ ap (λ bs. block_at bs (length front)) (blocks_are ∙ ap blocks_of (own_around s i lent d inside own))
    ∙ ap (λ o. unwrap_or o []) (slice_get-map block (front ++ job ∷ rest) (length front) ∙ ap (option_map block) (item_at front job rest (length front) refl))

-- the place of the next one
pub place_next : (s i : ℕ) (lent : List LentJob) (d : LentJob) (place : ℕ) → i < length lent → (slice_index_or lent i d).session ≡ s → place ≡ length (own_jobs s (map job_of (take i lent))) → place + 1 ≡ length (own_jobs s (map job_of (take (i + 1) lent)))
place_next s i lent d place inside own is =
    let job = job_of (slice_index_or lent i d) in
    omega (arith, is, ap length (own_next s i lent d inside own), length-append (own_jobs s (map job_of (take i lent))) (job ∷ []))

-- the blocks of the jobs so far, and that of the next one
pub blocks_next : (s i : ℕ) (lent : List LentJob) (d : LentJob) → i < length lent → (slice_index_or lent i d).session ≡ s
    → blocks_of (own_jobs s (map job_of (take (i + 1) lent))) ≡ blocks_of (own_jobs s (map job_of (take i lent))) ++ block_of (job_of (slice_index_or lent i d)).block ∷ []
blocks_next s i lent d inside own =
    ap blocks_of (own_next s i lent d inside own) ∙ map-append (λ (j : Job). block_of j.block) (own_jobs s (map job_of (take i lent))) (job_of (slice_index_or lent i d) ∷ [])
