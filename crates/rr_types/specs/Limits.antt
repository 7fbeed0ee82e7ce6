-- The limits of the registry, each said once. `limits` of rr_types says that the code has them.
use Rattle.std.specs.Prelude.{ℕ}

-- a cluster has at most so many nodes
abbrev pub max_nodes : ℕ
max_nodes = 7

-- there are so many instances of consensus, and each decides one command
abbrev pub instance_count : ℕ
instance_count = 1048576

-- so many of the lowest undecided instances are open at once
abbrev pub open_count : ℕ
open_count = 8

-- the last round of an instance
abbrev pub last_round : ℕ
last_round = 2147483647

-- a group has at most so many facts
abbrev pub max_group : ℕ
max_group = 64

-- at most so many names are bound at a time
abbrev pub max_bound : ℕ
max_bound = 4096

-- a name or a value has at most so many bytes
abbrev pub max_text : ℕ
max_text = 64

-- a schedule, a script or a tape has at most so many lines behind its first
abbrev pub max_events : ℕ
max_events = 1000000
