-- The words of a line: what stands between its single spaces.
use Rattle.std.specs.Prelude.{ℕ, Bool, List, ◌==◌}
use Rattle.std.specs.List.{slice_split}

abbrev pub is_space : ℕ → Bool
is_space c = c == 32

-- each space ends a word and begins another, so there is one word more than spaces, and a word may be empty
unfoldable pub words_of : List ℕ → List (List ℕ)
words_of line = slice_split is_space line
