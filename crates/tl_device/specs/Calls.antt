-- Which calls of a form in memory fail, and what a call leaves of the counts.
use Rattle.std.specs.Prelude.{ℕ, ◌+◌, ◌-◌, ◌^◌, min, Bool, ◌==◌, if◌then◌else◌}
use Rattle.std.specs.List.{list_any}
use Rattle.tl_device.specs.Plain.{Calls}

-- a count one higher, which stays at the greatest u64
abbrev pub one_more : ℕ → ℕ
one_more count = min (count + 1) (2 ^ 64 - 1)

-- whether the next call is among those that are to fail, where calls are counted from 1
abbrev pub next_fails : Calls → Bool
next_fails calls = list_any (λ number. number == one_more calls.made) calls.failing

-- the counts once the next call is made
abbrev pub after_call : Calls → Calls
after_call calls = record calls {
  made = one_more calls.made;
  faults = if next_fails calls then one_more calls.faults else calls.faults;
}
