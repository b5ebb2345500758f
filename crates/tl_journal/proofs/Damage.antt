-- Where an image is damaged.
use Rattle.std.proofs.Common.{◌≡◌, ℕ, List, ◌++◌, take, ap}
use Rattle.tl_journal.specs.Image.{header}

-- what begins with the name begins so
pub named : (image rest : List ℕ) → image ≡ header ++ rest → take 16 image ≡ header
named image rest e = ap (λ l. take 16 l) e
