-- The limits of the toolchain, each once.
use Rattle.std.specs.Prelude.{ℕ, ◌+◌, ◌*◌}

-- The bytes of a source.
abbrev pub most_source_bytes : ℕ
most_source_bytes = 32768

-- The bytes of a word of a source, which is a name or reserved.
abbrev pub most_name_bytes : ℕ
most_name_bytes = 15

-- The levels of a source that are open at one place: the outer BEGIN opens the first.
abbrev pub most_levels : ℕ
most_levels = 32

-- The names that a source declares.
abbrev pub most_names : ℕ
most_names = 64

-- The cells that the names of a source take together, and that a code uses.
abbrev pub most_cells : ℕ
most_cells = 4096

-- The instructions of a code.
abbrev pub most_instructions : ℕ
most_instructions = 16383

-- The words of a store, and of the stack of a code.
abbrev pub most_words : ℕ
most_words = 65535

-- The steps of a session.
abbrev pub most_steps : ℕ
most_steps = 4000000000

-- Room for the nodes of a syntax list: two for each byte of a source.
abbrev pub most_nodes : ℕ
most_nodes = 2 * most_source_bytes

-- The items of a typed list: two for each node of a syntax list.
abbrev pub most_items : ℕ
most_items = 2 * most_nodes

-- Room for the instructions of a code while it is made: one more than the longest code has.
abbrev pub code_room : ℕ
code_room = most_instructions + 1

-- The bytes of an image: nine for its three figures, and nine for each instruction.
abbrev pub most_image_bytes : ℕ
most_image_bytes = 9 * code_room
