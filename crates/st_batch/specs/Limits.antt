-- The limits of files, input, lines and names of files, which are this project's own.
use Rattle.std.specs.Prelude.{ℕ}

-- the most bytes of a kernel file
abbrev pub most_file_bytes : ℕ
most_file_bytes = 16_777_216

-- the most bytes of the input, and of a line of it
abbrev pub most_input_bytes : ℕ
most_input_bytes = 67_108_864

abbrev pub most_line_bytes : ℕ
most_line_bytes = 1_000

-- the most bytes of a file's name
abbrev pub most_file_name_bytes : ℕ
most_file_name_bytes = 255
