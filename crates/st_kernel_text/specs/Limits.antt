-- The limits of text kernels. Sources: the Toolkit's kernel pool for the bytes of a name and of a
-- string; the length of a line is this project's own.
use Rattle.std.specs.Prelude.{ℕ}

-- the most bytes of a line, without its end
abbrev pub most_line_bytes : ℕ
most_line_bytes = 1_000

abbrev pub most_name_bytes : ℕ
most_name_bytes = 32

-- the most bytes of a string, each quote in it counted once
abbrev pub most_string_bytes : ℕ
most_string_bytes = 80
