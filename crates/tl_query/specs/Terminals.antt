-- The keywords and symbols of the language, and its words that are names elsewhere.
use Rattle.std.specs.Prelude.{ℕ, Bool, ◌==◌, List, codes}
use denote.Enum.Bare.{sameb}
use Rattle.tl_types.specs.Names.{spelling_of}
use Rattle.tl_types.specs.declared.keywords.Keyword.{Keyword}
use Rattle.tl_types.specs.contracts.keywords.Keyword.{the_type}
use Rattle.tl_query.specs.declared.terminals.Terminal.{Terminal}
use Rattle.tl_query.specs.declared.terminals.Terminal.TheVariants as terminals
use Rattle.tl_query.specs.declared.terminals.SoftWord.{SoftWord}
use Rattle.tl_query.specs.declared.terminals.SoftWord.TheVariants as soft

-- two keywords are the same
abbrev pub same_keyword : Keyword → Keyword → Bool
same_keyword = sameb the_type

-- the place of a symbol among the symbols, from 1; a keyword has none
abbrev pub symbol_place : Terminal → ℕ
symbol_place (terminals.Keyword k) = 0
symbol_place terminals.Open = 1
symbol_place terminals.Close = 2
symbol_place terminals.Comma = 3
symbol_place terminals.Semicolon = 4
symbol_place terminals.Star = 5
symbol_place terminals.Equal = 6
symbol_place terminals.Unequal = 7
symbol_place terminals.Less = 8
symbol_place terminals.AtMost = 9
symbol_place terminals.Greater = 10
symbol_place terminals.AtLeast = 11

-- two terminals are the same
abbrev pub same_terminal : Terminal → Terminal → Bool
same_terminal (terminals.Keyword j) (terminals.Keyword k) = same_keyword j k
same_terminal a b = symbol_place a == symbol_place b

-- how a terminal is spelled
unfoldable pub spelling : Terminal → List ℕ
spelling (terminals.Keyword k) = spelling_of k
spelling terminals.Open = codes "("
spelling terminals.Close = codes ")"
spelling terminals.Comma = codes ","
spelling terminals.Semicolon = codes ";"
spelling terminals.Star = codes "*"
spelling terminals.Equal = codes "="
spelling terminals.Unequal = codes "<>"
spelling terminals.Less = codes "<"
spelling terminals.AtMost = codes "<="
spelling terminals.Greater = codes ">"
spelling terminals.AtLeast = codes ">="

-- how a word that is a name elsewhere is spelled
unfoldable pub soft_spelling : SoftWord → List ℕ
soft_spelling soft.Moment = codes "MOMENT"
soft_spelling soft.Forget = codes "FORGET"
soft_spelling soft.Before = codes "BEFORE"
soft_spelling soft.Sync = codes "SYNC"
