use Rattle.std.proofs.Common.{◌≡◌, ◌+◌, ◌-◌, length}
use Rattle.tl_journal.specs.Image.{size_of}
use Rattle.tl_journal.specs.Opening.{HasRead, commits_found, HaveGatesFrom}
use Rattle.tl_journal.proofs.attached.all_found.Given as goal

abbrev pub invariant-reading : goal.invariant-reading
invariant-reading g l =
    (l.opening.disk ≡ l.fn.opening.disk) × (l.opening.image ≡ l.fn.opening.image)
    × HasRead (commits_found l.found) l.opening × HaveGatesFrom l.fn.opening.at l.found
    × (l.opening.at ≡ l.fn.opening.at + size_of (commits_found l.found))

abbrev pub decreases-reading : goal.decreases-reading
decreases-reading g l = length l.opening.image - l.opening.at
