-- A message that is put on a log is its next one, and each is read back by its number.
use Rattle.std.proofs.Common.{true, leb, ◌&&◌, eq-eqb, ◌≡◌, ℕ, zero, suc, ◌-◌, ◌<◌, ◌≤◌, List, [], ◌∷◌, ◌++◌, length, get_or, drop, Result, Ok, Err, Some, refl, sym, ap, ◌∙◌, arith, length-append}
use Rattle.std.proofs.lemmas.Slice.{between_to_end}
use Rattle.std.proofs.lemmas.List.{take-append-le, drop-append-le, length-drop, drop_at}
use Rattle.std.proofs.lemmas.Bool.{and_parts, leb-true, le-leb, eqb-true}
use Rattle.std.specs.Prelude.{is_ok, slice_get, slice_range}
use Rattle.std.specs.Result.{result_ok}
use Rattle.rr_frame.specs.Refused.{answer_of}
use Rattle.rr_types.specs.declared.message.Message.{Message}
use Rattle.rr_frame.specs.declared.version.Version.TheVariants.{Two}
use Rattle.rr_frame.specs.MessageFormat.{message_bytes, message_in, IsLawfulMessage}
use Rattle.rr_frame.specs.MessageLogs.{messages_in, are_spellings}
use Rattle.rr_frame.proofs.MessageLaws.{message_spelt}

-- what the test of the first spelling says
record IsFirst (bytes : List ℕ) (from end : ℕ) (ends : List ℕ) : Type 0 where
  in_order : from ≤ end
  within : end ≤ length bytes
  message : Message
  read : message_in 7 (slice_range bytes from end) ≡ Ok message
  rest : are_spellings bytes end ends ≡ true

read_of : (r : Result Message ℕ) → is_ok r ≡ true → (m : Message) × (r ≡ Ok m)
read_of (Ok m) h = (m, refl)
read_of (Err k) h = absurd cc

first_of : (bytes : List ℕ) (from end : ℕ) (ends : List ℕ) → are_spellings bytes from (end ∷ ends) ≡ true → IsFirst bytes from end ends
unfolding are_spellings
first_of bytes from end ends h =
    let a = and_parts (leb from end && leb end (length bytes) && is_ok (message_in 7 (slice_range bytes from end))) (are_spellings bytes end ends) h in
    let b = and_parts (leb from end && leb end (length bytes)) (is_ok (message_in 7 (slice_range bytes from end))) a.0 in
    let d = and_parts (leb from end) (leb end (length bytes)) b.0 in
    let m = read_of (message_in 7 (slice_range bytes from end)) b.1 in
    record { in_order = leb-true _ _ d.0; within = leb-true _ _ d.1; message = m.0; read = m.1; rest = a.1 }

first_again : (bytes : List ℕ) (from end : ℕ) (ends : List ℕ) → IsFirst bytes from end ends → are_spellings bytes from (end ∷ ends) ≡ true
unfolding are_spellings
first_again bytes from end ends f =
    let a : leb from end ≡ true = le-leb _ _ f.in_order in
    let b : leb end (length bytes) ≡ true = le-leb _ _ f.within in
    rw (a, b, f.read, f.rest) refl

first_listed : (bytes : List ℕ) (from end : ℕ) (ends : List ℕ) (f : IsFirst bytes from end ends) → messages_in bytes from (end ∷ ends) ≡ f.message ∷ messages_in bytes end ends
unfolding messages_in
first_listed bytes from end ends f = rw f.read refl

-- ---- a message by its number

-- the message of a number in a log, and the bytes that spell it
pub record IsSpeltBetween (bytes : List ℕ) (start end number : ℕ) (log : List Message) : Type 0 where
  pub in_order : start ≤ end
  pub within : end ≤ length bytes
  pub message : Message
  pub read : message_in 7 (slice_range bytes start end) ≡ Ok message
  pub listed : slice_get log number ≡ Some message

spelt_from : (bytes ends : List ℕ) (from number : ℕ) → are_spellings bytes from ends ≡ true → number < length ends →
    IsSpeltBetween bytes (get_or (from ∷ ends) number 0) (get_or ends number 0) number (messages_in bytes from ends)
spelt_from bytes [] from number h few = absurd (omega arith)
spelt_from bytes (end ∷ ends) from zero h few =
    let f = first_of bytes from end ends h in
    record { in_order = f.in_order; within = f.within; message = f.message; read = f.read; listed = ap (λ (log : List Message). slice_get log 0) (first_listed bytes from end ends f) }
spelt_from bytes (end ∷ ends) from (suc n) h few =
    let f = first_of bytes from end ends h in
    let s = spelt_from bytes ends end n f.rest (omega arith) in
    record { in_order = s.in_order; within = s.within; message = s.message; read = s.read; listed = ap (λ (log : List Message). slice_get log (suc n)) (first_listed bytes from end ends f) ∙ s.listed }

pub spelt_between : (bytes ends : List ℕ) (number start end : ℕ) → are_spellings bytes 0 ends ≡ true → number < length ends →
    start ≡ get_or (0 ∷ ends) number 0 → end ≡ get_or ends number 0 → IsSpeltBetween bytes start end number (messages_in bytes 0 ends)
spelt_between bytes ends number start end h few starts ended = rw (starts, ended) (spelt_from bytes ends 0 number h few)

length-messages_in : (bytes ends : List ℕ) (from : ℕ) → are_spellings bytes from ends ≡ true → length (messages_in bytes from ends) ≡ length ends
unfolding messages_in
length-messages_in bytes [] from h = refl
length-messages_in bytes (end ∷ ends) from h =
    let f = first_of bytes from end ends h in
    ap length (first_listed bytes from end ends f) ∙ ap suc (length-messages_in bytes ends end f.rest)

pub log_length : (bytes ends : List ℕ) → are_spellings bytes 0 ends ≡ true → length (messages_in bytes 0 ends) ≡ length ends
log_length bytes ends h = length-messages_in bytes ends 0 h

-- what a decoder answers is what was read, but for the offset of a fault
pub ok_answer : (r : Result Message ℕ) → result_ok (answer_of r) ≡ result_ok r
ok_answer (Ok m) = refl
ok_answer (Err offset) = refl

-- ---- a message behind the others

-- a slice of what is there stays as it is
range_stays : (bytes more : List ℕ) (from end : ℕ) → from ≤ end → end ≤ length bytes → slice_range (bytes ++ more) from end ≡ slice_range bytes from end
range_stays bytes more from end low high =
    let a : from ≤ length bytes = omega arith in
    let b : end - from ≤ length (drop from bytes) = simp length-drop (omega arith) in
    rw (drop-append-le from bytes more a, take-append-le (end - from) (drop from bytes) more b) refl

-- the slice of what came is what came
range_came : (bytes more : List ℕ) (from : ℕ) → from ≡ length bytes → slice_range (bytes ++ more) from (length (bytes ++ more)) ≡ more
range_came bytes more from h = between_to_end (bytes ++ more) from (length (bytes ++ more)) (omega arith) ∙ drop_at bytes more from (sym h)

-- a log with one message more
record IsPut (bytes ends : List ℕ) (from : ℕ) (log : List Message) (m : Message) : Type 0 where
  kept : are_spellings bytes from ends ≡ true
  listed : messages_in bytes from ends ≡ log ++ m ∷ []

put_last : (bytes more ends : List ℕ) (from : ℕ) (m : Message) → are_spellings bytes from ends ≡ true → message_in 7 more ≡ Ok m → IsPut (bytes ++ more) (ends ++ length (bytes ++ more) ∷ []) from (messages_in bytes from ends) m
unfolding are_spellings messages_in
put_last bytes more [] from m h read =
    let e : from ≡ length bytes = eqb-true _ _ h in
    let came : message_in 7 (slice_range (bytes ++ more) from (length (bytes ++ more))) ≡ Ok m = ap (message_in 7) (range_came bytes more from e) ∙ read in
    let f : IsFirst (bytes ++ more) from (length (bytes ++ more)) [] = record { in_order = omega (arith, length-append bytes more); within = omega arith; message = m; read = came; rest = eq-eqb _ _ refl } in
    record { kept = first_again (bytes ++ more) from (length (bytes ++ more)) [] f; listed = first_listed (bytes ++ more) from (length (bytes ++ more)) [] f }
put_last bytes more (end ∷ ends) from m h read =
    let f = first_of bytes from end ends h in
    let stays : message_in 7 (slice_range (bytes ++ more) from end) ≡ Ok f.message = ap (message_in 7) (range_stays bytes more from end f.in_order f.within) ∙ f.read in
    let p = put_last bytes more ends end m f.rest read in
    let g : IsFirst (bytes ++ more) from end (ends ++ length (bytes ++ more) ∷ []) = record { in_order = f.in_order; within = omega (arith, length-append bytes more, f.within); message = f.message; read = stays; rest = p.kept } in
    record {
      kept = first_again (bytes ++ more) from end (ends ++ length (bytes ++ more) ∷ []) g;
      listed = first_listed (bytes ++ more) from end (ends ++ length (bytes ++ more) ∷ []) g ∙ ap (λ (l : List Message). f.message ∷ l) p.listed ∙ sym (ap (λ (l : List Message). l ++ m ∷ []) (first_listed bytes from end ends f));
    }

pub put_keeps : (bytes ends : List ℕ) (m : Message) (end : ℕ) → are_spellings bytes 0 ends ≡ true → IsLawfulMessage 7 m → end ≡ length (bytes ++ message_bytes m) →
    are_spellings (bytes ++ message_bytes m) 0 (ends ++ end ∷ []) ≡ true
put_keeps bytes ends m end h lawful at = rw at (put_last bytes (message_bytes m) ends 0 m h (message_spelt Two 7 m (omega arith) lawful)).kept

pub put_lists : (bytes ends : List ℕ) (m : Message) (end : ℕ) → are_spellings bytes 0 ends ≡ true → IsLawfulMessage 7 m → end ≡ length (bytes ++ message_bytes m) →
    messages_in (bytes ++ message_bytes m) 0 (ends ++ end ∷ []) ≡ messages_in bytes 0 ends ++ m ∷ []
put_lists bytes ends m end h lawful at = rw at (put_last bytes (message_bytes m) ends 0 m h (message_spelt Two 7 m (omega arith) lawful)).listed
