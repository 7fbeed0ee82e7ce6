-- What the first bytes of a disk's areas say of its node.
use Rattle.std.specs.Prelude.{ℕ, ◌+◌, ◌*◌, ◌==◌, nat_lt, nat_le, ◌&&◌, if◌then◌else◌, List, [], ◌∷◌}
use Rattle.rr_types.specs.Limits.{max_nodes}
use Rattle.rr_folders.specs.declared.front.AreaFront.{AreaFront}
use Rattle.rr_folders.specs.declared.front.AreaFront.TheVariants.{Missing, Empty, Unformatted, Cut, Formatted}
use Rattle.rr_folders.specs.declared.front.Content.{Content}
use Rattle.rr_folders.specs.declared.front.Content.TheVariants as contents
use Rattle.rr_folders.specs.declared.front.Active.{Active}
use Rattle.rr_folders.specs.declared.front.Active.TheVariants as actives

-- an area that is formatted, of this length: its first frame has a gate, four bytes of length, a payload of that length and
-- the next gate, and the payload names the node, the number of nodes and the epoch
abbrev pub formatted_front : ℕ → ℕ → ℕ → ℕ → ℕ → AreaFront
formatted_front len payload node nodes epoch =
    if nat_le (payload + 6) len && (nat_le 1 nodes && (nat_le nodes max_nodes && nat_lt node nodes)) then Formatted node nodes epoch else Cut

-- the number of four bytes
abbrev pub number_of : ℕ → ℕ → ℕ → ℕ → ℕ
number_of a b c d = 16777216 * a + 65536 * b + 256 * c + d

-- the epoch that begins these bytes; none of an area has 0
abbrev pub epoch_of : List ℕ → ℕ
epoch_of (a ∷ b ∷ c ∷ d ∷ e ∷ f ∷ g ∷ h ∷ rest) = 4294967296 * number_of a b c d + number_of e f g h
epoch_of few = 0

-- how an area of this length begins, by its first bytes: formatted, if there are two and the first is A5 in hex
abbrev pub front_of : ℕ → List ℕ → AreaFront
front_of len [] = Empty
front_of len (g ∷ []) = Unformatted
front_of len (g ∷ a ∷ b ∷ c ∷ d ∷ version ∷ node ∷ nodes ∷ rest) =
    if g == 165 then formatted_front len (number_of a b c d) node nodes (epoch_of rest) else Unformatted
front_of len (g ∷ a ∷ rest) = if g == 165 then Cut else Unformatted

-- what a folder with these areas has. The first area is formatted first, and neither gets shorter or goes away
abbrev pub content_of : AreaFront → AreaFront → Content
content_of Cut second = contents.Cut
content_of first Cut = contents.Cut
content_of (Formatted p n e) (Formatted q m f) = if (p == q) && (n == m) then contents.Holds p n else contents.Cut
content_of (Formatted p n e) Missing = contents.Cut
content_of (Formatted p n e) second = contents.Holds p n
content_of Unformatted (Formatted p n e) = contents.Holds p n
content_of first (Formatted p n e) = contents.Cut
content_of first second = contents.Blank

-- which area is active, and its epoch: the formatted one of the greater epoch
abbrev pub active_of : AreaFront → AreaFront → Active
active_of (Formatted p n e) (Formatted q m f) = if nat_lt e f then actives.Second f else actives.First e
active_of (Formatted p n e) second = actives.First e
active_of first (Formatted q m f) = actives.Second f
active_of first second = actives.Neither
