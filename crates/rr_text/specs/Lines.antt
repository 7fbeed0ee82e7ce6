-- Texts that say in their first line how many nodes there are, then have a line for each thing that happens at them;
-- and which line of other bytes is the first that has no place.
use Rattle.std.specs.Prelude.{true, ◌≡◌, ℕ, ◌+◌, ◌<◌, ◌≤◌, List, ◌∷◌, [], ◌++◌, length, codes, decimal, ◌⊎◌}
use Rattle.std.specs.List.{flat_map, AllByRecursion}
use Rattle.rr_types.specs.declared.refusal.Refusal.{Refusal}
use Rattle.rr_types.specs.declared.refusal.Refusal.TheVariants.{OutOfMemory, BadNodes, BadEvent}
use Rattle.rr_types.specs.Limits.{max_events}
use Rattle.rr_text.specs.Numbers.{is_number}

-- the first line of a text about n nodes
abbrev pub nodes_line : ℕ → List ℕ
nodes_line n = codes "nodes " ++ decimal n ++ 10 ∷ []

-- no line of a thing that there can be stands at the front of the bytes
abbrev pub HasNoLine : {X : Type 0} → (X → Type 0) → (X → List ℕ) → List ℕ → Type 0
HasNoLine {X} Fits line bytes = (x : X) (more : List ℕ) → Fits x → bytes ≡ line x ++ more → ⊥

-- things that there can be, a million at most, and the bytes that they are printed as
pub record ArePrinted {X : Type 0} (Fits : X → Type 0) (line : X → List ℕ) (things : List X) (bytes : List ℕ) : Type 0 where
  pub each : AllByRecursion Fits things
  pub short : length things ≤ max_events
  pub split : bytes ≡ flat_map line things

-- behind the first line, the line of this number is the first that has no place: lines stand before it, a million at most,
-- there are bytes at it, and the lines are a million or the bytes don't begin with a line
pub record StopsAt {X : Type 0} (Fits : X → Type 0) (line : X → List ℕ) (bytes : List ℕ) (number : ℕ) : Type 0 where
  pub before : List X
  pub rest : List ℕ
  pub each : AllByRecursion Fits before
  pub short : length before ≤ max_events
  pub split : bytes ≡ flat_map line before ++ rest
  pub counted : number ≡ length before + 2
  pub some : 0 < length rest
  pub fault : (length before ≡ max_events) ⊎ HasNoLine Fits line rest

-- why bytes behind a first line are no lines, memory aside
abbrev pub IsStop : {X : Type 0} → (X → Type 0) → (X → List ℕ) → List ℕ → Refusal → Type 0
IsStop Fits line bytes OutOfMemory = Unit {0}
IsStop Fits line bytes (BadEvent number) = StopsAt Fits line bytes number
IsStop Fits line bytes _ = ⊥

-- the first line says how many nodes there are, and the line of this number is the first that has no place
pub record HasNoPlace {X : Type 0} (Fits : ℕ → X → Type 0) (line : X → List ℕ) (bytes : List ℕ) (number : ℕ) : Type 0 where
  pub nodes : ℕ
  pub rest : List ℕ
  pub some : 1 ≤ nodes
  pub few : nodes ≤ 7
  pub split : bytes ≡ nodes_line nodes ++ rest
  pub stops : StopsAt (Fits nodes) line rest number

-- the first line has a number in the place of the number of nodes, and it isn't 1 to 7
pub record HasOtherNodes (bytes : List ℕ) : Type 0 where
  pub word : List ℕ
  pub rest : List ℕ
  pub number : is_number word ≡ true
  pub other : (n : ℕ) → 1 ≤ n → n ≤ 7 → word ≡ decimal n → ⊥
  pub split : bytes ≡ codes "nodes " ++ word ++ 10 ∷ rest

-- the first line says no number of nodes, neither 1 to 7 nor another
pub record HasNoNodes (bytes : List ℕ) : Type 0 where
  pub none : (n : ℕ) (rest : List ℕ) → 1 ≤ n → n ≤ 7 → bytes ≡ nodes_line n ++ rest → ⊥
  pub other : HasOtherNodes bytes → ⊥

-- what the fault of a first line is
abbrev pub IsFirstFault : List ℕ → Refusal → Type 0
IsFirstFault bytes BadNodes = HasOtherNodes bytes
IsFirstFault bytes (BadEvent number) = (number ≡ 1) × HasNoNodes bytes
IsFirstFault bytes _ = ⊥

-- why bytes are no such text, memory aside
abbrev pub IsFault : {X : Type 0} → (ℕ → X → Type 0) → (X → List ℕ) → List ℕ → Refusal → Type 0
IsFault Fits line bytes OutOfMemory = Unit {0}
IsFault Fits line bytes BadNodes = HasOtherNodes bytes
IsFault Fits line bytes (BadEvent number) = ((number ≡ 1) × HasNoNodes bytes) ⊎ HasNoPlace Fits line bytes number
IsFault Fits line bytes _ = ⊥
