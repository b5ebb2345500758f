use Rattle.std.proofs.Common.{◌≡◌, ◌-◌, length, drop, ap, ◌∙◌, arith}
use Rattle.tl_types.specs.Entries.{commits_of}
use Rattle.tl_types.specs.Legality.{version_at}
use Rattle.tl_core.specs.World.{World}
use Rattle.tl_types.proofs.EntryLemmas.{version_parts}
use Rattle.tl_core.proofs.worlds.World.version_at.Goals as goal

pub overflow_cast-result : goal.overflow_cast-result
overflow_cast-result c =
    let es = c.self.inside.entries in
    let behind : c.count_behind-behind.result ≡ length (commits_of (drop c.args.base es)) = c.count_behind-behind.ensures ∙ ap (λ t. length (commits_of (drop c.args.base t))) c.as_slice.ensures in
    let all : c.versions.result ≡ length (commits_of es) = c.versions.ensures.number ∙ ap length c.self.invariant.commits in
    omega (arith, behind, all, version_parts es c.args.base, c.versions.ensures.few)

pub overflow_sub-result : goal.overflow_sub-result
overflow_sub-result c =
    let es = c.self.inside.entries in
    let behind : c.count_behind-behind.result ≡ length (commits_of (drop c.args.base es)) = c.count_behind-behind.ensures ∙ ap (λ t. length (commits_of (drop c.args.base t))) c.as_slice.ensures in
    let all : c.versions.result ≡ length (commits_of es) = c.versions.ensures.number ∙ ap length c.self.invariant.commits in
    omega (arith, behind, all, version_parts es c.args.base)

pub returns : goal.returns
returns c =
    let es = c.self.inside.entries in
    let behind : c.count_behind-behind.result ≡ length (commits_of (drop c.args.base es)) = c.count_behind-behind.ensures ∙ ap (λ t. length (commits_of (drop c.args.base t))) c.as_slice.ensures in
    let all : c.versions.result ≡ length (commits_of es) = c.versions.ensures.number ∙ ap length c.self.invariant.commits in
    let here : c.versions.result - c.count_behind-behind.result ≡ version_at es c.args.base = omega (arith, behind, all, version_parts es c.args.base) in
    here ∙ ap (λ (w : World). version_at w.entries c.args.base) c.self.view_is
