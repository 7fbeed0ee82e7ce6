-- Bytes as they are shown, and lines of several writes.
use Rattle.std.proofs.Common.{◌≡◌, ℕ, ◌+◌, ◌-◌, ◌/◌, ◌%◌, ◌^◌, ◌<◌, ◌≤◌, true, false, List, [], ◌∷◌, ◌++◌, length, get_or, take, codes, Option, Result, OnOk, refl, ap, subst, ◌∙◌, sym, append_assoc, append-nil}
use Rattle.std.specs.Fmt.{digits, digit_glyph, padded_integral, format_spec}
use Rattle.std.specs.Io.KnownBytes.{Appends}
use Rattle.std.proofs.KnownBytes.{Appends-trans}
use Rattle.std.proofs.lemmas.Result.{on_ok_weaker}
use Rattle.std.specs.List.{list_all, flat_map}
use Rattle.std.proofs.lemmas.List.{take_more}
use Rattle.std.proofs.lemmas.List.Concat.{flat_map-append}
use Rattle.std.proofs.lemmas.Fmt.{hex_byte}
use Rattle.std.proofs.lemmas.Bool.{and_parts, lt-ltb, le-ltb}
use Rattle.rr_explain.specs.Faults.{is_printable, shown_byte, shown}
use Rattle.rr_explain.specs.Names.{is_clean, given_byte}

-- printable bytes are shown as they are
pub shown_printable : (bytes : List ℕ) → list_all is_printable bytes ≡ true → flat_map shown_byte bytes ≡ bytes
shown_printable [] h = refl
shown_printable (b ∷ bytes) h = let p = and_parts (is_printable b) (list_all is_printable bytes) h in rw p.0 (ap (λ (t : List ℕ). b ∷ t) (shown_printable bytes p.1))

-- one more byte
pub shown_more : (bytes : List ℕ) (i : ℕ) → i < length bytes → flat_map shown_byte (take (i + 1) bytes) ≡ flat_map shown_byte (take i bytes) ++ shown_byte (get_or bytes i 0)
shown_more bytes i lt =
    ap (flat_map shown_byte) (take_more bytes i 0 lt)
    ∙ flat_map-append shown_byte (take i bytes) (get_or bytes i 0 ∷ [])
    ∙ ap (λ (t : List ℕ). flat_map shown_byte (take i bytes) ++ t) (append-nil (shown_byte (get_or bytes i 0)))

-- the same of bytes that people gave: clean ones are printed as they are
pub given_clean : (bytes : List ℕ) → list_all is_clean bytes ≡ true → flat_map given_byte bytes ≡ bytes
given_clean [] h = refl
given_clean (b ∷ bytes) h = let p = and_parts (is_clean b) (list_all is_clean bytes) h in rw p.0 (ap (λ (t : List ℕ). b ∷ t) (given_clean bytes p.1))

pub given_more : (bytes : List ℕ) (i : ℕ) → i < length bytes → flat_map given_byte (take (i + 1) bytes) ≡ flat_map given_byte (take i bytes) ++ given_byte (get_or bytes i 0)
given_more bytes i lt =
    ap (flat_map given_byte) (take_more bytes i 0 lt)
    ∙ flat_map-append given_byte (take i bytes) (get_or bytes i 0 ∷ [])
    ∙ ap (λ (t : List ℕ). flat_map given_byte (take i bytes) ++ t) (append-nil (given_byte (get_or bytes i 0)))

pub hex_shown : (b : ℕ) → b < 256 → is_printable b ≡ false → 92 ∷ 120 ∷ padded_integral (format_spec 32 0 4 2 (2 ^ 64 - 1)) false [] (digits 16 false b) ≡ shown_byte b
hex_shown b byte other = let shown : shown_byte b ≡ 92 ∷ 120 ∷ digit_glyph false (b / 16) ∷ digit_glyph false (b % 16) ∷ [] = rw other refl in ap (λ (t : List ℕ). 92 ∷ 120 ∷ t) (hex_byte false b byte) ∙ sym shown

pub shown_long : (word : List ℕ) → 80 < length word → flat_map shown_byte (take 80 word) ++ codes ".." ≡ shown word
shown_long word long = rw (lt-ltb 80 (length word) long) refl

pub shown_short : (word : List ℕ) → length word ≤ 80 → flat_map shown_byte word ≡ shown word
shown_short word short = rw (le-ltb 80 (length word) short) refl

-- ---- writes

pub printed_so : {T E : Type 0} (r : Result T E) (a b : Option (List ℕ)) (x y : List ℕ) → x ≡ y → OnOk r (Appends a b x) → OnOk r (Appends a b y)
printed_so r a b x y e = on_ok_weaker r (λ p. subst (λ (t : List ℕ). Appends a b t) e p)

pub then_printed : {T E : Type 0} (r : Result T E) (a b c : Option (List ℕ)) (x y z : List ℕ) → x ++ y ≡ z → Appends a b x → OnOk r (Appends b c y) → OnOk r (Appends a c z)
then_printed r a b c x y z e p = on_ok_weaker r (λ q. subst (λ (t : List ℕ). Appends a c t) e (Appends-trans a b c x y p q))

-- a place, and then words
pub place_joined : (name number column words : List ℕ) → (name ++ 58 ∷ (number ++ 58 ∷ (column ++ 58 ∷ 32 ∷ []))) ++ (words ++ 10 ∷ []) ≡ name ++ 58 ∷ number ++ 58 ∷ column ++ 58 ∷ 32 ∷ words ++ 10 ∷ []
place_joined name number column words = simp append_assoc

pub missing_joined : (called expected : List ℕ) → codes "the line ends without its " ++ (called ++ (codes "; expected " ++ (expected ++ 10 ∷ []))) ≡ codes "the line ends without its " ++ called ++ codes "; expected " ++ expected ++ 10 ∷ []
missing_joined called expected = simp append_assoc

pub word_joined : (called word expected : List ℕ) → ((codes "no " ++ (called ++ 32 ∷ 34 ∷ [])) ++ word) ++ ((34 ∷ codes "; expected " ++ expected) ++ 10 ∷ [])
    ≡ codes "no " ++ called ++ 32 ∷ 34 ∷ word ++ 34 ∷ codes "; expected " ++ expected ++ 10 ∷ []
word_joined called word expected = simp append_assoc
