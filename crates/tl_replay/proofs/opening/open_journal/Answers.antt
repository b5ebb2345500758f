-- The commits that were read are those that the disk stood for.
use Rattle.std.proofs.Common.{◌∙◌, inl, refl, subst}
use Rattle.std.specs.Prelude.{IfErr}
use Rattle.tl_journal.specs.Answers.{CountsFaults}
use Rattle.tl_journal.specs.declared.faults.JournalFault.TheVariants as fault
use Rattle.tl_replay.specs.Opening.{disk_opened}
use Rattle.tl_replay.proofs.OpenLemmas.{found_there, some_there, now_there, opened_moments, opened_there, device_or_memory, other_fault, not_short, not_damaged, not_memory, not_long}
use Rattle.tl_replay.proofs.ReadLemmas.{honest_fault}
use Rattle.tl_replay.proofs.opening.open_journal.Goals as goal

pub returns-in-Ok : goal.returns-in-Ok
returns-in-Ok g c =
    let read = g.D.Disk.reads in
    let may_leave = g.D.Disk.may_leave in
    let fault_count = g.D.Disk.faults in
    let disk = c.args.disk in
    let answer = c.finish.result in
    let found_commits = c.in-Ok.begun.found_commits in
    let begun = c.in-Ok.ensures in
    let found = begun.applied.0 in
    let all = begun.applied.1 in
    let made = c.finish.ensures in
    record {
      opened = opened_there read may_leave fault_count g.A.Applies.makes c.args.limits.now c.args.first disk found found_commits c.in-Ok.begun.applied answer all begun.image begun.sure made.applied made.whole (made.stands found all.so_far.read) made.sure;
      honest = λ b cs told stands fitting. device_or_memory answer made.kinds;
      any_moment = λ b cs told stands.
          let same = found_there read may_leave found_commits found cs b all.whole (begun.image b told) stands in
          opened_moments read may_leave g.D.Disk.moment g.D.Disk.left_since disk (disk_opened answer) found_commits found cs begun.image g.met.D.Disk.also_now same begun.any_moment (made.any_moment found all.so_far.read (begun.image b told).stored);
      no_journal = λ b told none. absurd (none found (some_there read may_leave found_commits found b all.whole (begun.image b told)));
      no_journal_now = λ b told none. absurd (none found (some_there read may_leave found_commits found b all.whole (begun.image b told)));
      now = λ b cs told stands image left.
          let same = found_there read may_leave found_commits found cs b all.whole (begun.image b told) stands in
          now_there read may_leave (disk_opened answer) found cs (may_leave disk) same (made.now found all.so_far.read (begun.image b told).stored) image left;
      reads = λ b told. made.reads found b all.so_far.read (begun.untouched.reads_same ∙ told);
      faults = subst (λ n. IfErr answer (λ r. CountsFaults r.fault n (fault_count r.disk))) begun.sure made.faults;
      no_less = λ len. other_fault answer (fault.NotInitialised len) _ (not_short len) made.kinds;
      too_short = λ len. other_fault answer (fault.NotInitialised len) _ (not_short len) made.kinds;
      damaged = λ at. other_fault answer (fault.Damaged at) _ (not_damaged at) made.kinds;
      durable = λ at. other_fault answer (fault.Damaged at) _ (not_damaged at) made.kinds;
      no_memory = other_fault answer fault.NoMemory _ not_memory made.kinds;
      not_long = λ len. other_fault answer (fault.AlreadyInitialised len) _ (not_long len) made.kinds;
    }

pub returns-in-Err : goal.returns-in-Err
returns-in-Err g c =
    let begun = c.in-Err.ensures in
    record {
      opened = tt;
      honest = λ b cs told stands fitting.
          honest_fault c.args.limits.now c.in-Err.refused.fault (g.D.Disk.reads c.args.disk) b cs told stands fitting begun.too_short begun.damaged begun.not_long;
      any_moment = λ b cs told stands. inl begun.any_moment;
      no_journal = λ b told none. begun.any_moment;
      no_journal_now = λ b told none. begun.untouched;
      now = λ b cs told stands image left. inl (begun.untouched.no_more image left);
      reads = λ b told. (b, begun.untouched.reads_same ∙ told, inl refl);
      faults = begun.faults;
      no_less = begun.no_less;
      too_short = λ len e. let s = begun.too_short len e in (s.0, s.1, begun.untouched);
      damaged = λ at e. (begun.damaged at e, begun.untouched);
      durable = begun.durable;
      no_memory = begun.no_memory;
      not_long = begun.not_long;
    }
