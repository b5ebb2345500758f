use Rattle.std.proofs.Common.{◌≡◌, ◌∙◌, ℕ, List, Some, refl, subst, arith}
use Rattle.tl_device.specs.Disk.{IsStored}
use Rattle.tl_journal.specs.Image.{ImageStandsOnlyFor}
use Rattle.tl_journal.specs.Opening.{commits_found}
use Rattle.tl_journal.proofs.Opened.{stored_there, opened_moments, opened_now}
use Rattle.tl_journal.proofs.journal.Journal.attach.Goals as goal

pub returns-in-Err-clause-too_short : goal.returns-in-Err-clause-too_short
returns-in-Err-clause-too_short g c len is =
    let t = c.in-Err.ensures.too_short len is in (t.0, t.1, c.in-Err.ensures.untouched)

pub returns-in-Ok-finish-clause-any_moment : goal.returns-in-Ok-finish-clause-any_moment
returns-in-Ok-finish-clause-any_moment g c b names r s =
    let o = c.in-Ok.opening in
    let opened = c.all_found.new.opening in
    let cs = commits_found c.in-Ok-all_found.found in
    let stored : (b : List ℕ) → g.D.Disk.reads c.args.disk ≡ Some b → IsStored g.D.Disk.reads g.D.Disk.may_leave o.disk b =
    λ b r. subst (λ l. IsStored g.D.Disk.reads g.D.Disk.may_leave o.disk l) (c.in-Ok.ensures.image b r) (c.in-Ok.ensures.stored b r) in
    let same = c.in-Ok-all_found.ensures.disk in
    let read = c.in-Ok-all_found.ensures.image ∙ c.in-Ok.ensures.image b r in
    let there = stored_there g.D.Disk.reads g.D.Disk.may_leave o.disk opened.disk b opened.image (stored b r) same read in
    let all = subst (λ l. ImageStandsOnlyFor cs l) (c.in-Ok.ensures.image b r) c.in-Ok-all_found.ensures.all in
    opened_moments g.D.Disk.reads g.D.Disk.may_leave g.D.Disk.moment g.D.Disk.left_since c.args.disk o.disk opened.disk c.in-Ok-finish.journal.disk c.in-Ok-finish.journal.disk b cs names stored (λ d left. g.met.D.Disk.also_now o.disk (g.D.Disk.moment o.disk) d (omega arith) left) c.in-Ok.ensures.any_moment same refl (c.in-Ok-finish.ensures.any_moment cs c.in-Ok-all_found.ensures.found there) all s

pub returns-in-Ok-finish-clause-no_journal : goal.returns-in-Ok-finish-clause-no_journal
returns-in-Ok-finish-clause-no_journal g c b r none =
    let cs = commits_found c.in-Ok-all_found.found in
    let all = subst (λ l. ImageStandsOnlyFor cs l) (c.in-Ok.ensures.image b r) c.in-Ok-all_found.ensures.all in
    absurd (none cs all.stands)

pub returns-in-Ok-finish-clause-now : goal.returns-in-Ok-finish-clause-now
returns-in-Ok-finish-clause-now g c b names r s =
    let o = c.in-Ok.opening in
    let opened = c.all_found.new.opening in
    let cs = commits_found c.in-Ok-all_found.found in
    let stored : (b : List ℕ) → g.D.Disk.reads c.args.disk ≡ Some b → IsStored g.D.Disk.reads g.D.Disk.may_leave o.disk b =
    λ b r. subst (λ l. IsStored g.D.Disk.reads g.D.Disk.may_leave o.disk l) (c.in-Ok.ensures.image b r) (c.in-Ok.ensures.stored b r) in
    let same = c.in-Ok-all_found.ensures.disk in
    let read = c.in-Ok-all_found.ensures.image ∙ c.in-Ok.ensures.image b r in
    let there = stored_there g.D.Disk.reads g.D.Disk.may_leave o.disk opened.disk b opened.image (stored b r) same read in
    let all = subst (λ l. ImageStandsOnlyFor cs l) (c.in-Ok.ensures.image b r) c.in-Ok-all_found.ensures.all in
    opened_now g.D.Disk.may_leave c.args.disk c.in-Ok-finish.journal.disk c.in-Ok-finish.journal.disk b cs names refl (c.in-Ok-finish.ensures.now cs c.in-Ok-all_found.ensures.found there) all s

pub returns-in-Ok-finish-clause-reads : goal.returns-in-Ok-finish-clause-reads
returns-in-Ok-finish-clause-reads g c b r =
    let opened = c.all_found.new.opening in
    let o = c.in-Ok.opening in
    let cs = commits_found c.in-Ok-all_found.found in
    let same = c.in-Ok-all_found.ensures.disk in
    let stored = subst (λ l. IsStored g.D.Disk.reads g.D.Disk.may_leave o.disk l) (c.in-Ok.ensures.image b r) (c.in-Ok.ensures.stored b r) in
    let there = stored_there g.D.Disk.reads g.D.Disk.may_leave o.disk opened.disk b b stored same refl in
    c.in-Ok-finish.ensures.reads cs b c.in-Ok-all_found.ensures.found there.reads_as

pub returns-in-Err-finish-clause-any_moment : goal.returns-in-Err-finish-clause-any_moment
returns-in-Err-finish-clause-any_moment g c b names r s =
    let o = c.in-Ok.opening in
    let opened = c.all_found.new.opening in
    let cs = commits_found c.in-Ok-all_found.found in
    let stored : (b : List ℕ) → g.D.Disk.reads c.args.disk ≡ Some b → IsStored g.D.Disk.reads g.D.Disk.may_leave o.disk b =
    λ b r. subst (λ l. IsStored g.D.Disk.reads g.D.Disk.may_leave o.disk l) (c.in-Ok.ensures.image b r) (c.in-Ok.ensures.stored b r) in
    let same = c.in-Ok-all_found.ensures.disk in
    let read = c.in-Ok-all_found.ensures.image ∙ c.in-Ok.ensures.image b r in
    let there = stored_there g.D.Disk.reads g.D.Disk.may_leave o.disk opened.disk b opened.image (stored b r) same read in
    let all = subst (λ l. ImageStandsOnlyFor cs l) (c.in-Ok.ensures.image b r) c.in-Ok-all_found.ensures.all in
    opened_moments g.D.Disk.reads g.D.Disk.may_leave g.D.Disk.moment g.D.Disk.left_since c.args.disk o.disk opened.disk c.in-Err-finish.refused.disk c.in-Err-finish.refused.disk b cs names stored (λ d left. g.met.D.Disk.also_now o.disk (g.D.Disk.moment o.disk) d (omega arith) left) c.in-Ok.ensures.any_moment same refl (c.in-Err-finish.ensures.any_moment cs c.in-Ok-all_found.ensures.found there) all s

pub returns-in-Err-finish-clause-no_journal : goal.returns-in-Err-finish-clause-no_journal
returns-in-Err-finish-clause-no_journal g c b r none =
    let cs = commits_found c.in-Ok-all_found.found in
    let all = subst (λ l. ImageStandsOnlyFor cs l) (c.in-Ok.ensures.image b r) c.in-Ok-all_found.ensures.all in
    absurd (none cs all.stands)

pub returns-in-Err-finish-clause-now : goal.returns-in-Err-finish-clause-now
returns-in-Err-finish-clause-now g c b names r s =
    let o = c.in-Ok.opening in
    let opened = c.all_found.new.opening in
    let cs = commits_found c.in-Ok-all_found.found in
    let stored : (b : List ℕ) → g.D.Disk.reads c.args.disk ≡ Some b → IsStored g.D.Disk.reads g.D.Disk.may_leave o.disk b =
    λ b r. subst (λ l. IsStored g.D.Disk.reads g.D.Disk.may_leave o.disk l) (c.in-Ok.ensures.image b r) (c.in-Ok.ensures.stored b r) in
    let same = c.in-Ok-all_found.ensures.disk in
    let read = c.in-Ok-all_found.ensures.image ∙ c.in-Ok.ensures.image b r in
    let there = stored_there g.D.Disk.reads g.D.Disk.may_leave o.disk opened.disk b opened.image (stored b r) same read in
    let all = subst (λ l. ImageStandsOnlyFor cs l) (c.in-Ok.ensures.image b r) c.in-Ok-all_found.ensures.all in
    opened_now g.D.Disk.may_leave c.args.disk c.in-Err-finish.refused.disk c.in-Err-finish.refused.disk b cs names refl (c.in-Err-finish.ensures.now cs c.in-Ok-all_found.ensures.found there) all s

pub returns-in-Err-finish-clause-reads : goal.returns-in-Err-finish-clause-reads
returns-in-Err-finish-clause-reads g c b r =
    let opened = c.all_found.new.opening in
    let o = c.in-Ok.opening in
    let cs = commits_found c.in-Ok-all_found.found in
    let same = c.in-Ok-all_found.ensures.disk in
    let stored = subst (λ l. IsStored g.D.Disk.reads g.D.Disk.may_leave o.disk l) (c.in-Ok.ensures.image b r) (c.in-Ok.ensures.stored b r) in
    let there = stored_there g.D.Disk.reads g.D.Disk.may_leave o.disk opened.disk b b stored same refl in
    c.in-Err-finish.ensures.reads cs b c.in-Ok-all_found.ensures.found there.reads_as

pub returns-in-Ok-finish-clause-no_journal_now : goal.returns-in-Ok-finish-clause-no_journal_now
returns-in-Ok-finish-clause-no_journal_now g c b r none =
    let cs = commits_found c.in-Ok-all_found.found in
    let all = subst (λ l. ImageStandsOnlyFor cs l) (c.in-Ok.ensures.image b r) c.in-Ok-all_found.ensures.all in
    absurd (none cs all.stands)

pub returns-in-Err-finish-clause-no_journal_now : goal.returns-in-Err-finish-clause-no_journal_now
returns-in-Err-finish-clause-no_journal_now g c b r none =
    let cs = commits_found c.in-Ok-all_found.found in
    let all = subst (λ l. ImageStandsOnlyFor cs l) (c.in-Ok.ensures.image b r) c.in-Ok-all_found.ensures.all in
    absurd (none cs all.stands)
