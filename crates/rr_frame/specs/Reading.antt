-- Reading bytes from left to right, field by field, up to the first field at fault.
use Rattle.std.specs.Prelude.{◌≡◌, ℕ, ◌-◌, Bool, nat_lt, if◌then◌else◌, List, [], ◌∷◌, length, take, drop, Result, Ok, Err}
use Rattle.std.specs.List.{list_all}
use Rattle.rr_types.specs.declared.refusal.Refusal.{Refusal}
use Rattle.rr_types.specs.declared.refusal.Refusal.TheVariants.{OutOfMemory, Malformed}
use Rattle.rr_frame.specs.Numbers.{number_in}
use Rattle.rr_frame.specs.declared.stop.Fault.{Fault}
use Rattle.rr_frame.specs.declared.stop.Stop.{Stop}
use Rattle.rr_frame.specs.declared.stop.Stop.TheVariants as stops

-- what reading from the front gives: a value and the bytes behind it, or, where a field is cut short or holds no
-- lawful value, how many bytes are left from its first byte on
abbrev pub Reading : Type 0 → Type 0
Reading A = Result (A × List ℕ) ℕ

-- the next field, once this one is read
infixl 10 ◌>>=◌
abbrev pub ◌>>=◌ : {A B : Type 0} → Result A ℕ → (A → Result B ℕ) → Result B ℕ
(Ok x) >>= f = f x
(Err left) >>= f = Err left

-- what was read of these bytes, if it is lawful
abbrev pub if_lawful : {A : Type 0} → Bool → List ℕ → A → Result A ℕ
if_lawful lawful bytes read = if lawful then Ok read else Err (length bytes)

-- a number of n bytes
unfoldable pub number_at : ℕ → List ℕ → Reading ℕ
number_at n bytes = if nat_lt (length bytes) n then Err (length bytes) else Ok (number_in n bytes, drop n bytes)

-- as many bytes as count says
abbrev pub bytes_at : ℕ → List ℕ → Reading (List ℕ)
bytes_at count bytes = if nat_lt (length bytes) count then Err (length bytes) else Ok (take count bytes, drop count bytes)

-- as many bytes as count says, each of which passes the test
unfoldable pub text_at : (ℕ → Bool) → ℕ → List ℕ → Reading (List ℕ)
text_at passes count bytes = do
  text ← bytes_at count bytes
  if_lawful (list_all passes text.0) bytes text

-- what a reader that stood before these fields answered, and the bytes before which it stands then, are what reading gives
abbrev pub Gives : {A : Type 0} → Result A Fault → List ℕ → Reading A → Type 0
Gives (Ok x) rest read = read ≡ Ok (x, rest)
Gives (Err f) rest read = read ≡ Err f.left

-- the same of a reader that may also stop for memory, where view is what contracts see of the answer
abbrev pub StopsAs : {A : Type 0} → Stop → Reading A → Type 0
StopsAs stops.OutOfMemory read = Unit {0}
StopsAs (stops.Malformed f) read = read ≡ Err f.left

abbrev pub Reads : {X A : Type 0} → (X → A) → Result X Stop → List ℕ → Reading A → Type 0
Reads view (Ok x) rest read = read ≡ Ok (view x, rest)
Reads view (Err e) rest read = StopsAs e read

-- a value that was read to the end of all bytes, of which there are so many, or the offset of the fault:
-- behind the last field the first remaining byte is one
abbrev pub at_end : {A : Type 0} → ℕ → Reading A → Result A ℕ
at_end all (Ok (x, [])) = Ok x
at_end all (Ok (x, b ∷ rest)) = Err (all - length (b ∷ rest))
at_end all (Err left) = Err (all - left)

-- decoding answered with what all the bytes spell: the value, or Malformed at the fault; or memory ran out
abbrev pub Decodes : {A : Type 0} → Result A Refusal → Result A ℕ → Type 0
Decodes (Ok x) spelt = spelt ≡ Ok x
Decodes (Err OutOfMemory) spelt = Unit {0}
Decodes (Err (Malformed offset)) spelt = spelt ≡ Err offset
Decodes (Err e) spelt = ⊥
