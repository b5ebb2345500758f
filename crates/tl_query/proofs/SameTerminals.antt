-- Terminals are told apart by a test, and a token is what it was taken for.
use Rattle.std.proofs.Common.{◌≡◌, true, refl, ap}
use denote.Enum.Bare.{same_true, true_same}
use Rattle.tl_types.specs.contracts.keywords.Keyword.{the_type}
use Rattle.tl_query.specs.declared.terminals.Terminal.{Terminal}
use Rattle.tl_query.specs.declared.terminals.Terminal.TheVariants as terminals
use Rattle.tl_query.specs.declared.tokens.Token.{Token}
use Rattle.tl_query.specs.declared.tokens.Token.TheVariants.{Fixed}
use Rattle.tl_query.specs.Terminals.{same_terminal}
use Rattle.tl_query.specs.Reading.{is_fixed}

-- a terminal is the same as itself
pub same_itself : (m : Terminal) → same_terminal m m ≡ true
same_itself (terminals.Keyword k) = true_same the_type k k refl
same_itself _ = refl

-- terminals that the test finds the same are equal
pub same_terminal_true : (a b : Terminal) → same_terminal a b ≡ true → a ≡ b
same_terminal_true (terminals.Keyword j) (terminals.Keyword k) e = ap terminals.Keyword (same_true the_type tt j k e)
same_terminal_true terminals.Open terminals.Open e = refl
same_terminal_true terminals.Close terminals.Close e = refl
same_terminal_true terminals.Comma terminals.Comma e = refl
same_terminal_true terminals.Semicolon terminals.Semicolon e = refl
same_terminal_true terminals.Star terminals.Star e = refl
same_terminal_true terminals.Equal terminals.Equal e = refl
same_terminal_true terminals.Unequal terminals.Unequal e = refl
same_terminal_true terminals.Less terminals.Less e = refl
same_terminal_true terminals.AtMost terminals.AtMost e = refl
same_terminal_true terminals.Greater terminals.Greater e = refl
same_terminal_true terminals.AtLeast terminals.AtLeast e = refl
same_terminal_true _ _ e = absurd (cc)

-- a token that is taken for a terminal is it
pub is_fixed_true : (m : Terminal) (t : Token) → is_fixed m t ≡ true → t ≡ Fixed m
is_fixed_true m (Fixed k) e = ap Fixed (same_terminal_true k m e)
is_fixed_true m _ e = absurd (cc)
