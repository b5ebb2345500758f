use Rattle.std.proofs.Common.{ℕ, List, [], ◌∷◌, ◌++◌, Some, IfSome, subst, ap, ◌∙◌}
use Rattle.tl_journal.specs.Gates.{EndsGated}
use Rattle.tl_device.specs.Disk.{Holds, Only}
use Rattle.tl_journal.proofs.Crash.{written_gate, gate_leaves, gate_at_start}
use Rattle.tl_journal.proofs.Phases.{goes, starts}
use Rattle.tl_journal.proofs.appending.open_gate.Goals as goal

pub returns-in_err-write_at-clause-any_moment : goal.returns-in_err-write_at-clause-any_moment
returns-in_err-write_at-clause-any_moment g c front r stored at =
    let first = gate_leaves front r c.args.at _ _ at stored.only c.write_at.ensures.crash in
    let start = starts (g.D.Disk.moment c.args.disk.now) (g.D.Disk.left_since c.args.disk.now) (g.D.Disk.may_leave c.args.disk.now) (front ++ 0 ∷ (r ++ 0 ∷ [])) (EndsGated front r) (g.met.D.Disk.only_now c.args.disk.now) stored.only (gate_at_start front r) in
    goes _ _ _ _ _ _ (EndsGated front r) _ start c.write_at.ensures.time first

pub returns-in_err-write_at-clause-now : goal.returns-in_err-write_at-clause-now
returns-in_err-write_at-clause-now g c front r stored at = gate_leaves front r c.args.at _ _ at stored.only c.write_at.ensures.crash

pub returns-clause-any_moment : goal.returns-clause-any_moment
returns-clause-any_moment g c front r stored at =
    let first = gate_leaves front r c.args.at _ _ at stored.only c.write_at.ensures.crash in
    let start = starts (g.D.Disk.moment c.args.disk.now) (g.D.Disk.left_since c.args.disk.now) (g.D.Disk.may_leave c.args.disk.now) (front ++ 0 ∷ (r ++ 0 ∷ [])) (EndsGated front r) (g.met.D.Disk.only_now c.args.disk.now) stored.only (gate_at_start front r) in
    let half = goes _ _ _ _ _ _ (EndsGated front r) _ start c.write_at.ensures.time first in
    goes _ _ _ _ _ _ (EndsGated front r) _ half c.sync.ensures.time (λ f left. first f (c.sync.ensures.crash f left))

pub returns-clause-now : goal.returns-clause-now
returns-clause-now g c front r stored at f left = gate_leaves front r c.args.at _ _ at stored.only c.write_at.ensures.crash f (c.sync.ensures.crash f left)

pub returns-clause-stored : goal.returns-clause-stored
returns-clause-stored g c front rest stored at =
    let staged : List ℕ = front ++ 0 ∷ rest in
    let new = c.write_at.new.self in
    let t = c.write_at.ensures.tells staged stored.reads_as in
    let w = subst (λ o. IfSome o (λ b. IfSome (g.D.Disk.reads new) (Holds b c.args.at (1 ∷ [])))) stored.reads_as c.in_ok-write_at.ensures.written in
    let h = subst (λ o. IfSome o (Holds staged c.args.at (1 ∷ []))) t.1 w in
    let is = written_gate front rest c.args.at t.0 at h in
    let durable = subst (λ o. IfSome o (λ b. Only b (g.D.Disk.may_leave c.sync.new.self))) t.1 c.in_ok-sync.ensures.durable in
    record { reads_as = c.sync.ensures.reads ∙ (t.1 ∙ ap Some is); only = subst (λ b. Only b (g.D.Disk.may_leave c.sync.new.self)) is durable }

pub returns-in_err-sync-clause-any_moment : goal.returns-in_err-sync-clause-any_moment
returns-in_err-sync-clause-any_moment g c front r stored at =
    let first = gate_leaves front r c.args.at _ _ at stored.only c.write_at.ensures.crash in
    let start = starts (g.D.Disk.moment c.args.disk.now) (g.D.Disk.left_since c.args.disk.now) (g.D.Disk.may_leave c.args.disk.now) (front ++ 0 ∷ (r ++ 0 ∷ [])) (EndsGated front r) (g.met.D.Disk.only_now c.args.disk.now) stored.only (gate_at_start front r) in
    let half = goes _ _ _ _ _ _ (EndsGated front r) _ start c.write_at.ensures.time first in
    goes _ _ _ _ _ _ (EndsGated front r) _ half c.sync.ensures.time (λ f left. first f (c.sync.ensures.crash f left))

pub returns-in_err-sync-clause-now : goal.returns-in_err-sync-clause-now
returns-in_err-sync-clause-now g c front r stored at f left = gate_leaves front r c.args.at _ _ at stored.only c.write_at.ensures.crash f (c.sync.ensures.crash f left)
