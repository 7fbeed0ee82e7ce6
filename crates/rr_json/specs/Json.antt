-- JSON texts: an object is one line.
use Rattle.std.specs.Prelude.{ℕ, Bool, if◌then◌else◌, ◌||◌, ◌&&◌, ◌==◌, nat_le, List, [], ◌∷◌, ◌++◌, codes, decimal}
use Rattle.std.specs.List.{flat_map}

-- a text between quotation marks
unfoldable pub quoted : List ℕ → List ℕ
quoted text = 34 ∷ text ++ 34 ∷ []

-- whether a byte is one of printable ASCII
abbrev pub is_printable : ℕ → Bool
is_printable b = nat_le 32 b && nat_le b 126

-- a byte of a text: a backslash stands before a quotation mark and before a backslash, and a space for a byte that isn't
-- printable ASCII
abbrev pub escaped_byte : ℕ → List ℕ
escaped_byte b = if (b == 34) || (b == 92) then 92 ∷ b ∷ [] else (if is_printable b then b ∷ [] else 32 ∷ [])

-- a comma, the name of a member, and a colon
unfoldable pub label : List ℕ → List ℕ
label name = 44 ∷ quoted name ++ 58 ∷ []

-- the beginning of an object, the name of its first member, and a colon
unfoldable pub begun : List ℕ → List ℕ
begun name = 123 ∷ quoted name ++ 58 ∷ []

-- a member that is a text without quotation marks and backslashes
unfoldable pub text_member : List ℕ → List ℕ → List ℕ
text_member name text = label name ++ quoted text

-- a member that is any text
unfoldable pub words_member : List ℕ → List ℕ → List ℕ
words_member name text = label name ++ quoted (flat_map escaped_byte text)

-- a member that is a number
unfoldable pub number_member : List ℕ → ℕ → List ℕ
number_member name n = label name ++ decimal n

-- the beginning of an object, with its kind
unfoldable pub opened : List ℕ → List ℕ
opened kind = begun (codes "kind") ++ quoted kind

-- the line of an object of this kind, with these members behind the kind
abbrev pub object_line : List ℕ → List ℕ → List ℕ
object_line kind members = opened kind ++ members ++ 125 ∷ 10 ∷ []

-- what is given, with a comma between each and the next
abbrev pub listed : List (List ℕ) → List ℕ
listed [] = []
listed (text ∷ texts) = text ++ flat_map (λ t. 44 ∷ t) texts
