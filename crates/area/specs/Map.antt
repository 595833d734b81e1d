-- The map of the working area, as `src/map.rt` shows it. Assumes nothing.
use Rattle.std.specs.Prelude.{ℕ}

-- the numbers of nodes are below this
abbrev pub NODES : ℕ
NODES = 1024

-- both inputs have as many loaded words at most, and all but the last have one after them
abbrev pub LOADED : ℕ
LOADED = 2048

abbrev pub TARGETS : ℕ
TARGETS = 2047

-- the log has as many entries at most, each an address and this times what stood there, which is below the most
abbrev pub ENTRIES : ℕ
ENTRIES = 4096

abbrev pub ENTRY_STEP : ℕ
ENTRY_STEP = 4096

abbrev pub ENTRY_MOST : ℕ
ENTRY_MOST = 1048576

-- a pending comparison is an arc and this times another
abbrev pub FRAME_STEP : ℕ
FRAME_STEP = 4096

-- the words of the longest result
abbrev pub LONGEST : ℕ
LONGEST = 2048

-- what each class holds
abbrev pub HELD : ℕ
HELD = 0

abbrev pub PARENT : ℕ
PARENT = 1024

abbrev pub NEXT : ℕ
NEXT = 2048

-- the body, which the log covers, is all before it
abbrev pub LOG : ℕ
LOG = 4096

abbrev pub STACK : ℕ
STACK = 8192

abbrev pub WORDS : ℕ
WORDS = 9216

-- the second input among the loaded words
abbrev pub SECOND : ℕ
SECOND = 1024

abbrev pub MARKS : ℕ
MARKS = 11264

abbrev pub RESULT : ℕ
RESULT = 12288

-- the words of the area that are used
abbrev pub SIZE : ℕ
SIZE = 16384
