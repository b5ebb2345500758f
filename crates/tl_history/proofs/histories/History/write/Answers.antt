-- What the disk stands for, and what each moment leaves.
use Rattle.std.proofs.Common.{rules, ◌++◌, ◌∷◌, [], refl, sym, ap, ◌∙◌, subst}
use Rattle.tl_types.specs.Entries.{commits_of, has_break}
use Rattle.tl_types.specs.History.{database_of}
use Rattle.tl_batch.specs.Standing.{StandFor}
use Rattle.tl_history.specs.Plain as plain
use Rattle.tl_history.specs.Writing.{IsDraft}
use Rattle.tl_history.proofs.ListLemmas.{commits_more, break_same}
use Rattle.tl_history.proofs.MomentLemmas.{no_moment}
use Rattle.tl_history.proofs.OpenLemmas.{count_still}
use Rattle.tl_history.proofs.StandingLemmas.{stands_more, stands_broken, moments_more, moments_still, tried_commit, tried_break}
use Rattle.tl_history.proofs.histories.History.write.Goals as goal

pub returns-in_default-clause-any_moment : goal.returns-in_default-clause-any_moment
returns-in_default-clause-any_moment g c =
    let old : plain.History g.row.D.Denot = record { entries = c.self.inside.snapshot; journal = c.self.inside.journal; first_count = c.self.inside.first_count; limits = c.self.inside.limits } in
    let still = no_moment g.D.Disk.moment g.D.Disk.left_since g.D.Disk.may_leave c.self.inside.journal.disk (g.met.D.Disk.only_now c.self.inside.journal.disk) in
    rw (← c.self.view_is) (λ stands. moments_still g.D.Disk.reads g.D.Disk.may_leave g.D.Disk.moment g.D.Disk.left_since old c.self.inside.journal.disk c.self.inside.snapshot stands refl still)

pub returns-in-Err-clause-stands : goal.returns-in-Err-clause-stands
returns-in-Err-clause-stands g c =
    let d : IsDraft c.self.inside.snapshot c.self.inside.journal.spare c.args.draft = subst (λ (h : plain.History g.row.D.Denot). IsDraft h.entries h.journal.spare c.args.draft) (sym c.self.view_is) c.requires in
    let new : plain.History g.row.D.Denot = record { entries = c.args.draft.broken; journal = c.append.new.journal; first_count = c.self.inside.first_count; limits = c.self.inside.limits } in
    rw (← c.self.view_is) (λ stands. stands_broken g.D.Disk.reads g.D.Disk.may_leave c.self.inside.snapshot new c.args.draft.commit d.whole d.broken
    (c.append.ensures.now (commits_of c.self.inside.snapshot) c.args.draft.commit (stands.whole d.whole) d.body)
    (c.append.ensures.reads (commits_of c.self.inside.snapshot) c.args.draft.commit (stands.whole d.whole) d.body))

pub returns-in-Err-clause-any_moment : goal.returns-in-Err-clause-any_moment
returns-in-Err-clause-any_moment g c =
    let d : IsDraft c.self.inside.snapshot c.self.inside.journal.spare c.args.draft = subst (λ (h : plain.History g.row.D.Denot). IsDraft h.entries h.journal.spare c.args.draft) (sym c.self.view_is) c.requires in
    let old : plain.History g.row.D.Denot = record { entries = c.self.inside.snapshot; journal = c.self.inside.journal; first_count = c.self.inside.first_count; limits = c.self.inside.limits } in
    let still = no_moment g.D.Disk.moment g.D.Disk.left_since g.D.Disk.may_leave c.self.inside.journal.disk (g.met.D.Disk.only_now c.self.inside.journal.disk) in
    rw (← c.self.view_is) (λ stands. moments_more g.D.Disk.reads g.D.Disk.may_leave g.D.Disk.moment g.D.Disk.left_since old c.self.inside.journal.disk c.append.new.journal.disk c.args.draft.broken c.args.draft.commit stands d.whole still
    (c.append.ensures.any_moment (commits_of c.self.inside.snapshot) c.args.draft.commit (stands.whole d.whole) d.body)
    (tried_break c.self.inside.snapshot c.args.draft.broken c.args.draft.commit d.whole d.broken))

pub returns-clause-stands : goal.returns-clause-stands
returns-clause-stands g c =
    let d : IsDraft c.self.inside.snapshot c.self.inside.journal.spare c.args.draft = subst (λ (h : plain.History g.row.D.Denot). IsDraft h.entries h.journal.spare c.args.draft) (sym c.self.view_is) c.requires in
    let new : plain.History g.row.D.Denot = record { entries = c.args.draft.next; journal = c.append.new.journal; first_count = c.self.inside.first_count; limits = c.self.inside.limits } in
    rw (← c.self.view_is) (λ stands. stands_more g.D.Disk.reads g.D.Disk.may_leave c.self.inside.snapshot new c.args.draft.commit d.next
    (c.in_default-append.ensures.stored (commits_of c.self.inside.snapshot) c.args.draft.commit (stands.whole d.whole) d.body))

pub returns-clause-any_moment : goal.returns-clause-any_moment
returns-clause-any_moment g c =
    let d : IsDraft c.self.inside.snapshot c.self.inside.journal.spare c.args.draft = subst (λ (h : plain.History g.row.D.Denot). IsDraft h.entries h.journal.spare c.args.draft) (sym c.self.view_is) c.requires in
    let old : plain.History g.row.D.Denot = record { entries = c.self.inside.snapshot; journal = c.self.inside.journal; first_count = c.self.inside.first_count; limits = c.self.inside.limits } in
    let still = no_moment g.D.Disk.moment g.D.Disk.left_since g.D.Disk.may_leave c.self.inside.journal.disk (g.met.D.Disk.only_now c.self.inside.journal.disk) in
    rw (← c.self.view_is) (λ stands. moments_more g.D.Disk.reads g.D.Disk.may_leave g.D.Disk.moment g.D.Disk.left_since old c.self.inside.journal.disk c.append.new.journal.disk c.args.draft.next c.args.draft.commit stands d.whole still
    (c.append.ensures.any_moment (commits_of c.self.inside.snapshot) c.args.draft.commit (stands.whole d.whole) d.body)
    (tried_commit c.self.inside.snapshot c.args.draft.next c.args.draft.commit d.whole d.next))

pub invariant_of-self-2 : goal.invariant_of-self-2
invariant_of-self-2 g c =
    let d : IsDraft c.self.inside.snapshot c.self.inside.journal.spare c.args.draft = subst (λ (h : plain.History g.row.D.Denot). IsDraft h.entries h.journal.spare c.args.draft) (sym c.self.view_is) c.requires in
    let more = ap commits_of d.next ∙ commits_more c.self.inside.snapshot c.args.draft.commit in
    let still = ap has_break d.next ∙ (break_same c.self.inside.snapshot c.args.draft.commit ∙ d.whole) in
    let followed : StandFor c.follow.new.self (database_of (commits_of c.self.inside.snapshot ++ c.args.draft.commit ∷ [])) = search rules in
    record {
      within = c.self.invariant.within;
      keeps_up = record {
        keys_stand = λ w. subst (λ cs. StandFor c.follow.new.self (database_of cs)) (sym more) followed;
        unbroken = λ w. c.in_default-append.ensures.ok.0;
      };
      count = count_still (has_break c.self.inside.snapshot) (has_break c.args.draft.next) c.self.inside.first_count (g.D.Disk.faults c.self.inside.journal.disk) (g.D.Disk.faults c.append.new.journal.disk)
          d.whole still c.in_default-append.ensures.ok.1 c.self.invariant.count;
    }
