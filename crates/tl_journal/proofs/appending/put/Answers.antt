use Rattle.std.proofs.Common.{◌∷◌, ◌++◌, ◌∙◌, length, ap, subst, ◌+◌, List, ℕ}
use Rattle.tl_device.specs.Disk.{IsStored}
use Rattle.tl_journal.specs.Image.{header, Ends, NoneOrAll}
use Rattle.tl_journal.specs.Gates.{EndsGated}
use Rattle.tl_journal.proofs.Crash.{gated, none_yet}
use Rattle.tl_journal.proofs.Grouped.{inner_of, last_gate}
use Rattle.tl_journal.proofs.Phases.{then, weaker}
use Rattle.tl_journal.proofs.Appended.{all_more}
use Rattle.tl_journal.proofs.appending.put.Goals as goal

pub returns-in_err-stage-clause-any_moment : goal.returns-in_err-stage-clause-any_moment
returns-in_err-stage-clause-any_moment g c cs group is j =
    weaker _ _ _ _ (Ends (header ++ j.front)) (NoneOrAll cs group) (none_yet cs group j.front j.opens) (c.stage.ensures.any_moment (header ++ j.front) j.stored (ap (λ n. n + 1) j.gate_is))

pub returns-in_err-stage-clause-now : goal.returns-in_err-stage-clause-now
returns-in_err-stage-clause-now g c cs group is j d left =
    none_yet cs group j.front j.opens d (c.stage.ensures.now (header ++ j.front) j.stored (ap (λ n. n + 1) j.gate_is) d left)

pub returns-clause-any_moment : goal.returns-clause-any_moment
returns-clause-any_moment g c cs group is j =
    let front : List ℕ = header ++ j.front in
    let half = weaker _ _ _ _ (Ends front) (NoneOrAll cs group) (none_yet cs group j.front j.opens) (c.stage.ensures.any_moment front j.stored (ap (λ n. n + 1) j.gate_is)) in
    let staged = subst (λ b. IsStored g.D.Disk.reads g.D.Disk.may_leave c.stage.new.disk (front ++ 0 ∷ b)) (is.1 ∙ last_gate group is.0) (c.in_ok-stage.ensures.stored front j.stored (ap (λ n. n + 1) j.gate_is)) in
    then _ _ _ _ _ _ (NoneOrAll cs group) half (weaker _ _ _ _ (EndsGated front (inner_of group)) (NoneOrAll cs group) (λ d e. gated cs group j.front d is.0 j.opens e) (c.open_gate.ensures.any_moment front (inner_of group) staged j.gate_is))

pub returns-clause-now : goal.returns-clause-now
returns-clause-now g c cs group is j d left =
    let front : List ℕ = header ++ j.front in
    let staged = subst (λ b. IsStored g.D.Disk.reads g.D.Disk.may_leave c.stage.new.disk (front ++ 0 ∷ b)) (is.1 ∙ last_gate group is.0) (c.in_ok-stage.ensures.stored front j.stored (ap (λ n. n + 1) j.gate_is)) in
    gated cs group j.front d is.0 j.opens (c.open_gate.ensures.now front (inner_of group) staged j.gate_is d left)

pub returns-in_err-open_gate-clause-any_moment : goal.returns-in_err-open_gate-clause-any_moment
returns-in_err-open_gate-clause-any_moment g c cs group is j =
    let front : List ℕ = header ++ j.front in
    let half = weaker _ _ _ _ (Ends front) (NoneOrAll cs group) (none_yet cs group j.front j.opens) (c.stage.ensures.any_moment front j.stored (ap (λ n. n + 1) j.gate_is)) in
    let staged = subst (λ b. IsStored g.D.Disk.reads g.D.Disk.may_leave c.stage.new.disk (front ++ 0 ∷ b)) (is.1 ∙ last_gate group is.0) (c.in_ok-stage.ensures.stored front j.stored (ap (λ n. n + 1) j.gate_is)) in
    then _ _ _ _ _ _ (NoneOrAll cs group) half (weaker _ _ _ _ (EndsGated front (inner_of group)) (NoneOrAll cs group) (λ d e. gated cs group j.front d is.0 j.opens e) (c.open_gate.ensures.any_moment front (inner_of group) staged j.gate_is))

pub returns-in_err-open_gate-clause-now : goal.returns-in_err-open_gate-clause-now
returns-in_err-open_gate-clause-now g c cs group is j d left =
    let front : List ℕ = header ++ j.front in
    let staged = subst (λ b. IsStored g.D.Disk.reads g.D.Disk.may_leave c.stage.new.disk (front ++ 0 ∷ b)) (is.1 ∙ last_gate group is.0) (c.in_ok-stage.ensures.stored front j.stored (ap (λ n. n + 1) j.gate_is)) in
    gated cs group j.front d is.0 j.opens (c.open_gate.ensures.now front (inner_of group) staged j.gate_is d left)

pub returns-clause-written : goal.returns-clause-written
returns-clause-written g c front stored at =
    c.in_ok-open_gate.ensures.stored front c.args.body.now (c.in_ok-stage.ensures.stored front stored (ap (λ n. n + 1) at)) at

pub returns-clause-stored : goal.returns-clause-stored
returns-clause-stored g c cs group is j =
    let front : List ℕ = header ++ j.front in
    let staged = c.in_ok-stage.ensures.stored front j.stored (ap (λ n. n + 1) j.gate_is) in
    all_more g.D.Disk.reads g.D.Disk.may_leave c.args.disk.now c.open_gate.new.disk cs group c.args.body.now c.args.gate j is (c.in_ok-open_gate.ensures.stored front c.args.body.now staged j.gate_is)

pub returns-clause-longer : goal.returns-clause-longer
returns-clause-longer g c = c.in_ok-open_gate.ensures.longer (c.args.gate + 1 + length c.args.body.now) c.in_ok-stage.ensures.longer
