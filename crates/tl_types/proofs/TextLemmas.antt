-- Bytes that are texts, as a test says it.
use Rattle.std.proofs.Common.{◌≡◌, ℕ, Bool, true, false, List, refl}
use Rattle.std.specs.Str.{IsAscii, IsUtf8, is_utf8}
use Rattle.std.proofs.lemmas.Str.{IsUtf8-from_is_utf8, is_utf8-from_IsUtf8, IsUtf8-from_ascii}

pub utf8_yes : (bytes : List ℕ) → IsUtf8 bytes → is_utf8 bytes ≡ true
utf8_yes bytes h = is_utf8-from_IsUtf8 bytes h

pub utf8_no : (bytes : List ℕ) → ¬ (IsUtf8 bytes) → is_utf8 bytes ≡ false
utf8_no bytes h = by_test (is_utf8 bytes) refl where
  by_test : (t : Bool) → is_utf8 bytes ≡ t → is_utf8 bytes ≡ false
  by_test true e = absurd (h (IsUtf8-from_is_utf8 bytes e))
  by_test false e = e

pub ascii_yes : (bytes : List ℕ) → IsAscii bytes → IsUtf8 bytes
ascii_yes bytes h = IsUtf8-from_ascii bytes h

pub ascii_test : (bytes : List ℕ) → IsAscii bytes → is_utf8 bytes ≡ true
ascii_test bytes h = utf8_yes bytes (ascii_yes bytes h)
