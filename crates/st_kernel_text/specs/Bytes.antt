-- The bytes of a kernel, after NAIF's Kernel Required Reading. In data only the tab and the
-- printable bytes of ASCII may stand; a line feed stands for the end of a line.
use Rattle.std.specs.Prelude.{ℕ, Bool, not, ◌==◌, ◌&&◌, ◌||◌, nat_le}
use Rattle.st_text.specs.Ascii.{tab, line_feed, quote, open_paren, close_paren, comma, equals_sign}
use Rattle.st_text.specs.Bytes.{is_blank}

-- a blank or the end of a line
abbrev pub is_space : ℕ → Bool
is_space b = is_blank b || (b == line_feed)

-- what may stand between two values: a blank, a comma or the end of a line
abbrev pub is_separator : ℕ → Bool
is_separator b = is_space b || (b == comma)

-- `(`, `)` or `'`
abbrev pub is_delimiter : ℕ → Bool
is_delimiter b = (b == open_paren) || (b == close_paren) || (b == quote)

-- from `!` to `~` without `(`, `)`, `'`, `,` and `=`
unfoldable pub is_name_byte : ℕ → Bool
is_name_byte b = nat_le 33 b && nat_le b 126 && not (is_delimiter b || (b == comma) || (b == equals_sign))

-- a byte of a number or a date: no separator, and none of `(`, `)` and `'`
unfoldable pub is_run_byte : ℕ → Bool
is_run_byte b = not (is_separator b || is_delimiter b)

-- a byte that a data line may have
unfoldable pub is_allowed : ℕ → Bool
is_allowed b = (b == tab) || (nat_le 32 b && nat_le b 126)
